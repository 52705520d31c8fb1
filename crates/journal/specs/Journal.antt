-- Each journal is either open, with its clock, or closed.
use Rattle.std.specs.Prelude.{ℕ, ◌+◌, Bool, true, false, not, ◌&&◌, List, [], ◌∷◌, ltb, leb, Result, Ok, Err}
use Rattle.interval.specs.Interval.{proper_of}
use Rattle.lists.specs.Check.{Check, ◌gives◌}
use Rattle.pairing.specs.declared.Entry.{Entry}
use Rattle.journal.specs.declared.Gate.{Gate}
use Rattle.journal.specs.declared.Gate.TheVariants.{Open, Closed}
use Rattle.journal.specs.declared.Journal.{Journal}
use Rattle.refusals.specs.declared.Refusal.{Refusal}
use Rattle.refusals.specs.Table.{number_of}
use Rattle.journal.specs.Answer.{Answer, Accepted, Refused, first_of, unless_refused}

-- An entry is wanted while the other journal is open and the entry's end is above the other journal's clock.
abbrev pub wanted : Gate → Entry → Bool
wanted (Open clock) e = ltb clock e.span.end
wanted Closed e = false

-- An instant is below the clock of an open journal; a closed journal sets no limit.
abbrev pub below : Gate → ℕ → Bool
below (Open clock) t = ltb t clock
below Closed t = true

-- what falls due at a time, a pair at its start, is due when that time is below the clock of every open journal
abbrev pub due : {A : Type 0} → (A → ℕ) → Gate → Gate → A → Bool
due at a b x = below a (at x) && below b (at x)

-- a start that does not pass the clock, if its journal is open
abbrev pub not_past : Gate → ℕ → Bool
not_past (Open clock) t = leb t clock
not_past Closed t = true

-- Limits: 1,000,000 accepted entries a journal.
abbrev pub entries : ℕ
entries = 1000000

-- 2: that journal is closed.
abbrev pub is_closed : Gate → Bool
is_closed (Open clock) = false
is_closed Closed = true

-- 4: start, or mark, below the journal's clock.
abbrev pub is_behind : Gate → ℕ → Bool
is_behind (Open clock) t = ltb t clock
is_behind Closed t = false

-- A fresh clock is 0.
abbrev pub fresh_journal : Journal
fresh_journal = record { gate = Open 0; accepted = 0 }

-- the journal with its gate moved: an accepted mark sets the clock to the mark's time, closing closes it
abbrev pub moved : Gate → Journal → Journal
moved gate j = record { gate = gate; accepted = j.accepted }

-- An accepted entry sets its journal's clock to its start, and is one more accepted.
abbrev pub entered : Entry → Journal → Journal
entered e j = record { gate = Open e.span.start; accepted = j.accepted + 1 }

-- the rows by which a journal alone refuses an entry
-- 2: that journal is closed. 3: start not below end. 4: start below the journal's clock. 5: 1,000,000 entries already accepted.
unfoldable pub own_rows : Journal → Entry → List Check
own_rows j e =
    (is_closed j.gate gives 2)
    ∷ (not (proper_of e.span) gives 3)
    ∷ (is_behind j.gate e.span.start gives 4)
    ∷ (leb entries j.accepted gives 5)
    ∷ []

-- a mark on a journal alone follows 2, then 4
abbrev pub mark_rows : ℕ → Journal → List Check
mark_rows time j = (is_closed j.gate gives 2) ∷ (is_behind j.gate time gives 4) ∷ []

-- what a mark is answered, and the journal after it
pub record Marked : Type 0 where
  pub answer : Answer
  pub journal : Journal

-- the mark that a result is: a refused one leaves the journal as it stood
abbrev pub marked_from : Journal → Result Journal Refusal → Marked
marked_from before (Ok after) = record { answer = Accepted; journal = after }
marked_from before (Err refusal) = record { answer = Refused (number_of refusal); journal = before }

abbrev pub marked : ℕ → Journal → Marked
marked time j = record { answer = first_of (mark_rows time j); journal = unless_refused (first_of (mark_rows time j)) (moved (Open time) j) j }
