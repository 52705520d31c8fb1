-- Parts of a list, lent and given back.
use Prim.Native.Nat.{ℕ, ◌+◌, ◌-◌, ◌≤◌}
use native.Mathlib.Omega.{arith}
use mathlib.Core.List.{List, [], ◌++◌, append-nil}
use mathlib.Core.Path.{◌≡◌, sym, ap, ◌∙◌}
use lib.ListN.{length, take, drop, length-drop, take-append-drop, drop_of_length-le}
use lib.Seq.{slice, drop_at, length-take-le}
use borrow.Rule.Slice.PartMut.{put_mid}
use Rattle.std.proofs.lemmas.List.{drop-take}

module _ (at : ℕ) (l : List ℕ) (h : at ≤ length l) where
  -- what is given back stands from its place on
  pub drop_back : (ys : List ℕ) → drop at (put_mid at (length l - at) l ys) ≡ ys
  drop_back ys =
      let none : drop (length l - at) (drop at l) ≡ [] = drop_of_length-le (drop at l) {i = length l - at} (simp length-drop (omega arith)) in
      drop_at (take at l) _ at (length-take-le at l h) ∙ ap (λ (rest : List ℕ). ys ++ rest) none ∙ append-nil ys

-- the part from one place up to another
pub part_slice : (at end : ℕ) (l : List ℕ) → at ≤ end → take (end - at) (drop at l) ≡ slice at end l
part_slice at end l h =
    let up : at + (end - at) ≡ end = omega arith in
    sym (drop-take at (end - at) l) ∙ ap (λ (n : ℕ). drop at (take n l)) up

-- two lists whose parts before and behind a place are the same
pub both_parts : (at : ℕ) (l m : List ℕ) → take at l ≡ take at m → drop at l ≡ drop at m → l ≡ m
both_parts at l m e f = sym (take-append-drop at l) ∙ (λ i. e i ++ f i) ∙ take-append-drop at m
