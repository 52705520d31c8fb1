-- Elements put into a list, as bytes into a lent buffer.
use Rattle.std.specs.Prelude.{ℕ, ◌+◌, List, ◌++◌, length, take, drop}

-- some elements put over as many of a list from a place on; no other element is touched
unfoldable pub put : {A : Type 0} → ℕ → List A → List A → List A
put at xs l = take at l ++ xs ++ drop (at + length xs) l
