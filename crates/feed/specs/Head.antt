-- What stands first in the bytes that are left of a feed, as the checks find it.
use Rattle.std.specs.Prelude.{ℕ, Option, Some, None, Result, Ok, Err}
use Rattle.refusals.specs.declared.Refusal.{Refusal}
use Rattle.refusals.specs.Table.{number_of}
use Rattle.feed.specs.declared.Head.{Head as HeadFound}

-- a whole record of a kind and a length, a refusal by its number, or nothing where no byte is left
pub data Head : Type 0 where
  Whole : ℕ → ℕ → Head
  Refused : ℕ → Head
  End : Head

-- the same, as it is answered
abbrev pub whole_head : HeadFound → Head
whole_head h = Whole h.kind h.size

abbrev pub head_seen : Result (Option HeadFound) Refusal → Head
head_seen (Ok (Some h)) = whole_head h
head_seen (Ok None) = End
head_seen (Err r) = Refused (number_of r)
