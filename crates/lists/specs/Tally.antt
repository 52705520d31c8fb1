-- How many elements of a list pass a test, and where the last that does stands. `filter` gives those that pass, in their order.
use Rattle.std.specs.Prelude.{ℕ, suc, Bool, cond, List, [], ◌∷◌, ltb, length, filter}

module _ {A : Type 0} where
  -- how many elements pass the test
  abbrev pub tally : (A → Bool) → List A → ℕ
  tally p [] = 0
  tally p (x ∷ xs) = cond (p x) (suc (tally p xs)) (tally p xs)

  -- where the last element that passes the test stands, if one does
  abbrev pub last_place : (A → Bool) → List A → ℕ
  last_place p [] = 0
  last_place p (x ∷ xs) = cond (ltb 0 (length (filter p xs))) (suc (last_place p xs)) 0
