-- A program that reads a feed record by record, and what it prints of a feed, from its first byte to its last line.
use Rattle.std.specs.Prelude.{ℕ, zero, suc, List, [], ◌++◌, length, take, drop}
use Rattle.feed.specs.Reading.{Reading, Found, Refused, End, reading}
use Rattle.feed.specs.declared.Record.{Record}

-- what is done at a place of the feed, where P says how a run stands
pub data Deed (P : Type 0) : Type 0 where
  -- a last line is printed
  Ends : List ℕ → Deed P
  -- lines are printed, and the run goes on behind the record, standing so
  Goes : List ℕ → P → Deed P

-- what varies from program to program
pub record Program (P : Type 0) : Type 0 where
  -- what is done at a record
  pub on_record : P → Record → Deed P
  -- the last line where a reading is refused with a number
  pub on_refusal : P → ℕ → List ℕ
  -- and where the feed ends
  pub on_end : P → List ℕ

-- A reading answers a record with the place of the next. The run goes on there, whatever the program; otherwise it ends, and no place comes next.
abbrev pub next_of : Reading → ℕ
next_of (Found found next) = next
next_of (Refused number place) = 0
next_of End = 0

module _ {P : Type 0} (program : Program P) where
  abbrev pub deed : P → Reading → Deed P
  deed p (Found found next) = program.on_record p found
  deed p (Refused number place) = Ends (program.on_refusal p number)
  deed p End = Ends (program.on_end p)

-- what is printed of what is left of a feed by a deed, and by what comes after it at the place of the next record
abbrev pub continued : {P : Type 0} → (P → List ℕ → List ℕ) → List ℕ → ℕ → Deed P → List ℕ
continued after rest next (Ends lines) = lines
continued after rest next (Goes lines p) = lines ++ after p (drop next rest)

module _ {P : Type 0} (program : Program P) where
  -- what is printed of what is left of a feed, in no more than so many records
  abbrev pub printed_from : ℕ → P → List ℕ → List ℕ
  printed_from zero p rest = []
  printed_from (suc n) p rest = continued (printed_from n) rest (next_of (reading rest 0)) (deed program p (reading rest 0))

  -- Bytes beyond the limit are not read, and the feed counts as ending there. Every record has a byte, so the feed has fewer records than it has bytes and one.
  unfoldable pub printed_by : P → ℕ → List ℕ → List ℕ
  printed_by begun limit feed = printed_from (suc (length (take limit feed))) begun (take limit feed)
