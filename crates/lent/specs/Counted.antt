-- A count of partners over a lent run of entries, which keeps nothing.
use Rattle.std.specs.Prelude.{ℕ, cond, List, map, length, Result, Ok, Err, filter}
use Rattle.interval.specs.Interval.{proper_of}
use Rattle.pairing.specs.declared.Entry.{Entry}
use Rattle.pairing.specs.declared.Numbered.{Numbered}
use Rattle.pairing.specs.declared.Rule.{Rule}
use Rattle.pairing.specs.Pair.{pairs}
use Rattle.refusals.specs.declared.Refusal.{Refusal}
use Rattle.refusals.specs.Table.{number_of}

-- What a count answers: how many, or a refusal with the number that the table gives.
pub data Counted : Type 0 where
  Partners : ℕ → Counted
  Refused : ℕ → Counted

-- the answer that a result is
abbrev pub counted_as : Result ℕ Refusal → Counted
counted_as (Ok found) = Partners found
counted_as (Err refusal) = Refused (number_of refusal)

-- An improper given one is refused with 3. Else the answer is how many were found.
abbrev pub answered : Entry → ℕ → Counted
answered given found = cond (proper_of given.span) (Partners found) (Refused 3)

-- How many of them pair with one given entry of the other journal. An improper one in the run pairs with nothing: `pairs` says so.
abbrev pub counted : Rule → Entry → List Entry → Counted
counted rule given run = answered given (length (filter (pairs rule given) run))

-- what an area holds is a run, once the ordinals are left out
abbrev pub entries_of : List Numbered → List Entry
entries_of xs = map (λ (x : Numbered). x.entry) xs
