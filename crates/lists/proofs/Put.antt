-- Laws of `put`: elements put into a list.
use Prim.Native.Nat.{ℕ, suc, ◌+◌, ◌≤◌, ◌<◌}
use native.Mathlib.Nat.{zero-add, add-zero}
use native.Mathlib.Omega.{arith}
use mathlib.Core.List.{List, [], ◌∷◌, ◌++◌, append-nil, append_assoc}
use mathlib.Core.Path.{◌≡◌, ap, ◌∙◌}
use lib.ListN.{length, take, drop, set, length-append, length-take, take-append-drop}
use lib.Seq.{take_at, drop_at, drop-drop, take-set-le, length-take-le, set_split}
use Rattle.lists.specs.Put.{put}

module _ {A : Type 0} where
  -- elements put behind others that were put
  pub put_put : (at : ℕ) (xs ys l : List A) → at + length xs + length ys ≤ length l → put (at + length xs) ys (put at xs l) ≡ put at (xs ++ ys) l
  unfolding put
  put_put at xs ys l h =
      let front = take at l ++ xs in
      let back = drop (at + length xs) l in
      let long : length front ≡ at + length xs = simp (length-append, length-take) (omega arith) in
      let whole : at + length (xs ++ ys) ≡ at + length xs + length ys = simp length-append (omega arith) in
      let rest : drop (at + length xs + length ys) (front ++ back) ≡ drop (at + length (xs ++ ys)) l =
      rw (← drop-drop (length ys) (at + length xs) (front ++ back), drop_at front back (at + length xs) long, drop-drop (length ys) (at + length xs) l, whole) in
      rw (take_at front back (at + length xs) long, rest, append_assoc (take at l) xs ys)

  pub put_none : (at : ℕ) (l : List A) → put at [] l ≡ l
  unfolding put
  put_none at l = simp (append-nil, add-zero, take-append-drop)

  -- the last of some elements may be stored first
  pub put_last : (at : ℕ) (xs : List A) (x : A) (l : List A) → at + length xs < length l → put at xs (set l (at + length xs) x) ≡ put at (xs ++ (x ∷ [])) l
  unfolding put
  put_last at xs x l h =
      let n = at + length xs in
      let back : drop n (set l n x) ≡ x ∷ drop (suc n) l = ap (drop n) (set_split l n x h) ∙ drop_at (take n l) (x ∷ drop (suc n) l) n (length-take-le n l (omega arith)) in
      let whole : at + length (xs ++ (x ∷ [])) ≡ suc n = simp length-append (omega arith) in
      rw (take-set-le at l n x (omega arith), back, whole) (simp append_assoc)

  -- elements put at the start of a list that has room for them
  pub put_first : (xs l : List A) → put 0 xs l ≡ xs ++ drop (length xs) l
  unfolding put
  put_first xs l = rw zero-add

  -- code that puts elements, and more behind them
  pub put_then : (at : ℕ) (xs ys old : List A) {mid new : List A} → mid ≡ put at xs old → new ≡ put (at + length xs) ys mid → at + length xs + length ys ≤ length old → new ≡ put at (xs ++ ys) old
  put_then at xs ys old p q h = q ∙ ap (put (at + length xs) ys) p ∙ put_put at xs ys old h
