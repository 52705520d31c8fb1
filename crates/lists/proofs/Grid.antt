-- A grid: the cell `f x y` for each x and each y, row by row. What one more row and one more column put into the sorted list of its cells, and how many of its elements pass a test.
use Prim.Native.Nat.{ℕ, suc, ◌+◌, ◌*◌}
use native.Mathlib.Omega.{arith}
use mathlib.Core.Bool.{Bool, true, false, cond, ◌&&◌}
use mathlib.Core.List.{List, [], ◌∷◌, ◌++◌, append-nil, flat_map}
use mathlib.Core.Path.{◌≡◌, refl, ap, ◌∙◌}
use Rattle.lists.specs.Tally.{tally}
use Rattle.lists.specs.Sort.{insert_all_by}
use Rattle.lists.proofs.All.{All, all_any, all_map}
use Rattle.lists.proofs.FlatMap.{flat_map_append, all_flat_map}
use Rattle.lists.proofs.Filter.{tally_append}
use Rattle.lists.proofs.Order.{StrictOrder, Apart}
use Rattle.lists.proofs.Sort.{insert_all_by_append, insert_all_by_comm}

module _ {X Y P : Type 0} (f : X → Y → List P) where
  abbrev pub grid : List X → List Y → List P
  grid xs ys = flat_map (λ (x : X). flat_map (f x) ys) xs

  module _ (before : P → P → Bool) where
    -- one more row is put in after the others
    pub grid_row : (xs : List X) (ys : List Y) (x : X) (l : List P) → insert_all_by before (grid (xs ++ (x ∷ [])) ys) l ≡ insert_all_by before (grid (x ∷ []) ys) (insert_all_by before (grid xs ys) l)
    grid_row xs ys x l = rw (flat_map_append, insert_all_by_append)

    -- one more cell at the end of a row
    row_end : (x : X) (ys : List Y) (y : Y) (l : List P) → insert_all_by before (flat_map (f x) (ys ++ (y ∷ []))) l ≡ insert_all_by before (f x y) (insert_all_by before (flat_map (f x) ys) l)
    unfolding flat_map
    row_end x ys y l = rw (flat_map_append, append-nil, insert_all_by_append)

    -- one more column may be put in after all that stood before, where each of its elements is apart from those
    pub grid_column : StrictOrder before → (Old New : P → Type 0) → ((p q : P) → New p → Old q → Apart before p q) → (ys : List Y) (y : Y)
        → ((x : X) → All Old (flat_map (f x) ys)) → ((x : X) → All New (f x y)) → (xs : List X) (l : List P)
        → insert_all_by before (grid xs (ys ++ (y ∷ []))) l ≡ insert_all_by before (grid xs (y ∷ [])) (insert_all_by before (grid xs ys) l)
    unfolding flat_map
    grid_column strict Old New apart ys y olds news [] l = refl
    grid_column strict Old New apart ys y olds news (x ∷ xs) l =
        let rest = grid xs ys in
        let all_old = all_flat_map Old (λ (a : X). flat_map (f a) ys) (λ (a : X). Unit {0}) (λ a u. olds a) xs (all_any (λ (a : X). Unit {0}) (λ a. tt) xs) in
        let swap = insert_all_by_comm before strict (f x y) rest (insert_all_by before (flat_map (f x) ys) l)
        (all_map New (λ (p : P). All (Apart before p) rest) (λ p n. all_map Old (Apart before p) (λ q k. apart p q n k) rest all_old) (f x y) (news x)) in
        rw (append-nil (f x y), insert_all_by_append, insert_all_by_append, insert_all_by_append, row_end x ys y l)
        (grid_column strict Old New apart ys y olds news xs (insert_all_by before (f x y) (insert_all_by before (flat_map (f x) ys) l))
        ∙ ap (insert_all_by before (grid xs (y ∷ []))) swap)

-- a grid of which the cell (x, y) has one that passes where x and y pass and c holds, else none: their numbers multiply
module _ {X Y P : Type 0} (f : X → Y → List P) (test : P → Bool) (p : X → Bool) (q : Y → Bool) (c : Bool)
    (one : (x : X) (y : Y) → tally test (f x y) ≡ cond (p x && (q y && c)) 1 0) where
  tally_row : (x : X) (ys : List Y) → tally test (flat_map (f x) ys) ≡ cond (p x && c) (tally q ys) 0
  unfolding flat_map
  tally_row x [] = go (p x && c)
    where
      go : (b : Bool) → ◌≡◌ {A = ℕ} 0 (cond b 0 0)
      go true = refl
      go false = refl
  tally_row x (y ∷ ys) = tally_append test (f x y) (flat_map (f x) ys) ∙ rw (one x y, tally_row x ys) (go (p x) (q y) c)
    where
      go : (a b d : Bool) → cond (a && (b && d)) 1 0 + cond (a && d) (tally q ys) 0 ≡ cond (a && d) (cond b (suc (tally q ys)) (tally q ys)) 0
      go true true true = omega arith
      go true true false = refl
      go true false true = omega arith
      go true false false = refl
      go false b d = refl

  pub tally_grid : (xs : List X) (ys : List Y) → tally test (grid f xs ys) ≡ cond c (tally p xs * tally q ys) 0
  unfolding flat_map
  tally_grid [] ys = go c
    where
      go : (b : Bool) → 0 ≡ cond b (0 * tally q ys) 0
      go true = omega arith
      go false = refl
  tally_grid (x ∷ xs) ys = tally_append test (flat_map (f x) ys) (grid f xs ys) ∙ rw (tally_row x ys, tally_grid xs ys) (go (p x) c)
    where
      go : (a d : Bool) → cond (a && d) (tally q ys) 0 + cond d (tally p xs * tally q ys) 0 ≡ cond d (cond a (suc (tally p xs)) (tally p xs) * tally q ys) 0
      go true true = omega arith
      go true false = refl
      go false true = omega arith
      go false false = refl
