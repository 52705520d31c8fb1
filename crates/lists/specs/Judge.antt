-- Tests of neighbours in a list. `list_all` says that every element passes a test.
use Rattle.std.specs.Prelude.{Bool, true, ◌&&◌, List, [], ◌∷◌}

module _ {A : Type 0} where
  -- x and the first of the list pass the test together, and so does each next couple of neighbours
  abbrev pub chain_from : (A → A → Bool) → A → List A → Bool
  chain_from r x [] = true
  chain_from r x (y ∷ ys) = r x y && chain_from r y ys

  -- every two neighbours pass the test together
  abbrev pub chain : (A → A → Bool) → List A → Bool
  chain r [] = true
  chain r (x ∷ xs) = chain_from r x xs
