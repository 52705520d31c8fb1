-- Sorting by insertion. `before x y` says whether x comes before y; it is a parameter, so that a list of anything is sorted by one definition.
use Rattle.std.specs.Prelude.{ℕ, Bool, false, cond, ◌&&◌, ◌||◌, List, [], ◌∷◌, ltb, eqb}

module _ {A : Type 0} (before : A → A → Bool) where
  -- x in front of the first element that it comes before, else at the end
  abbrev pub insert_by : A → List A → List A
  insert_by x [] = x ∷ []
  insert_by x (y ∷ ys) = cond (before x y) (x ∷ y ∷ ys) (y ∷ insert_by x ys)

  -- each of xs put into l, one after the other
  abbrev pub insert_all_by : List A → List A → List A
  insert_all_by [] l = l
  insert_all_by (x ∷ xs) l = insert_all_by xs (insert_by x l)

  -- xs in ascending order
  abbrev pub sort_by : List A → List A
  sort_by xs = insert_all_by xs []

module _ {A : Type 0} where
  -- in ascending order of a number, and where that is the same, as `next` says
  unfoldable pub ascending : (A → ℕ) → (A → A → Bool) → A → A → Bool
  ascending number next x y = ltb (number x) (number y) || (eqb (number x) (number y) && next x y)

  -- neither comes before the other: the end of such an order
  unfoldable pub neither : A → A → Bool
  neither x y = false
