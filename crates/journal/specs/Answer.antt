-- What a call answers: Accepted, or a refusal with the number that the table gives.
use Rattle.std.specs.Prelude.{ℕ, List, Result, Ok, Err}
use Rattle.lists.specs.Check.{Check, first_or}
use Rattle.refusals.specs.declared.Refusal.{Refusal}
use Rattle.refusals.specs.Table as table

pub data Answer : Type 0 where
  Accepted : Answer
  Refused : ℕ → Answer

-- the answer that a result is
abbrev pub answer_of : Result (Unit {0}) Refusal → Answer
answer_of (Ok done) = Accepted
answer_of (Err refusal) = Refused (table.number_of refusal)

-- the number of an answer, as the table has it; 0 where nothing is refused
abbrev pub number_of : Answer → ℕ
number_of Accepted = 0
number_of (Refused number) = number

-- The first that applies in the table's order is given. No refusal is given otherwise.
abbrev pub first_of : List Check → Answer
first_of rows = first_or Refused Accepted rows

-- what an accepted call leaves, and what a refused one does: all as it stood
abbrev pub unless_refused : {A : Type 0} → Answer → A → A → A
unless_refused Accepted new old = new
unless_refused (Refused number) new old = old
