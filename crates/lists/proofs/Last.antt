-- Laws of `last_place`: what a loop from the last element down learns, and what is kept below it.
use Prim.Native.Nat.{ℕ, suc, ◌+◌, ◌<◌}
use native.Mathlib.Nat.{not-suc-le-zero}
use native.Mathlib.Numerals.{add-one}
use native.Mathlib.Omega.{arith}
use mathlib.Core.Bool.{Bool, true, false, cond}
use mathlib.Core.List.{List, [], ◌∷◌, ◌++◌, append-nil}
use mathlib.Core.Path.{◌≡◌, refl, ap, ◌∙◌}
use lib.Dec.{ltb}
use lib.ListN.{length, take, get_or, length-append, length-take}
use lib.Seq.{take-suc, take-take, get_or-take, length-take-le}
use borrow.Author.Tests.{ltb-true, ltb-false, lt-ltb}
use Rattle.std.specs.Prelude.{filter}
use Rattle.lists.specs.Tally.{last_place}
use Rattle.std.proofs.lemmas.List.Elements.{filter-append}

module _ {A : Type 0} (p : A → Bool) where
  -- behind the others, one that passes is the last that does, and one that fails changes nothing
  at_end : (xs : List A) (y : A) → p y ≡ true → last_place p (xs ++ (y ∷ [])) ≡ length xs
  at_end [] y e = refl
  at_end (x ∷ xs) y e =
      let kept : filter p (xs ++ (y ∷ [])) ≡ filter p xs ++ (y ∷ []) = rw (filter-append p xs (y ∷ []), e) in
      let some : 0 < length (filter p (xs ++ (y ∷ []))) = omega (arith, ap length kept, length-append (filter p xs) (y ∷ [])) in
      rw (lt-ltb 0 (length (filter p (xs ++ (y ∷ [])))) some, at_end xs y e)

  not_at_end : (xs : List A) (y : A) → p y ≡ false → last_place p (xs ++ (y ∷ [])) ≡ last_place p xs
  not_at_end [] y e = refl
  not_at_end (x ∷ xs) y e = rw (filter-append p xs (y ∷ []), e, append-nil (filter p xs), not_at_end xs y e)

  pub last_here : (l : List A) (i : ℕ) (d : A) → i < length l → p (get_or l i d) ≡ true → last_place p (take (i + 1) l) ≡ i
  last_here l i d h e = rw (add-one, take-suc l i d h) (at_end (take i l) (get_or l i d) e ∙ length-take-le i l (omega arith))

  pub last_lower : (l : List A) (i : ℕ) (d : A) → i < length l → p (get_or l i d) ≡ false → last_place p (take (i + 1) l) ≡ last_place p (take i l)
  last_lower l i d h e = rw (add-one, take-suc l i d h) (not_at_end (take i l) (get_or l i d) e)

  -- what is kept is what is kept below the last, and the last
  split_last : (l : List A) (d : A) → 0 < length (filter p l) → (last_place p l < length l) × (filter p l ≡ filter p (take (last_place p l) l) ++ (get_or l (last_place p l) d ∷ []))
  split_last [] d h = absurd (not-suc-le-zero h)
  split_last (x ∷ xs) d h = go (ltb 0 (length (filter p xs))) refl (split_last xs d)
    where
      behind : (b : Bool) (front : List A) (y : A) → filter p xs ≡ front ++ (y ∷ []) → cond b (x ∷ filter p xs) (filter p xs) ≡ cond b (x ∷ front) front ++ (y ∷ [])
      behind true front y e = ap {B = List A} (λ l. x ∷ l) e
      behind false front y e = e

      alone : (b : Bool) (rest : List A) → length rest ≡ 0 → 0 < length (cond b (x ∷ rest) rest) → cond b (x ∷ rest) rest ≡ x ∷ []
      alone true [] e k = refl
      alone true (y ∷ rest) e k = absurd (no_suc (length rest) e)
        where
          no_suc : (n : ℕ) → suc n ≡ 0 → ⊥
          no_suc n e = omega arith
      alone false rest e k = absurd (none (length rest) e k)
        where
          none : (n : ℕ) → n ≡ 0 → 0 < n → ⊥
          none n e k = omega arith

      go : (b : Bool) → ltb 0 (length (filter p xs)) ≡ b
          → (0 < length (filter p xs) → (last_place p xs < length xs) × (filter p xs ≡ filter p (take (last_place p xs) xs) ++ (get_or xs (last_place p xs) d ∷ [])))
          → (cond b (suc (last_place p xs)) 0 < suc (length xs)) × (filter p (x ∷ xs) ≡ filter p (take (cond b (suc (last_place p xs)) 0) (x ∷ xs)) ++ (get_or (x ∷ xs) (cond b (suc (last_place p xs)) 0) d ∷ []))
      go true e rest =
          let i = rest (ltb-true 0 (length (filter p xs)) e) in
          (omega (arith, i.0), behind (p x) (filter p (take (last_place p xs) xs)) (get_or xs (last_place p xs) d) i.1)
      go false e rest = (omega arith, alone (p x) (filter p xs) (omega (arith, ltb-false 0 (length (filter p xs)) e)) h)

  pub filter_last : (l : List A) (i : ℕ) (d : A) (j : ℕ) → 0 < length (filter p (take i l)) → j ≡ last_place p (take i l) → (j < i) × (filter p (take i l) ≡ filter p (take j l) ++ (get_or l j d ∷ []))
  filter_last l i d j some e =
      let s = split_last (take i l) d some in
      let below : j < i = omega (arith, s.0, e, length-take i l) in (
        below,
        rw (← e) at s.1 ∙ ap (λ (t : List A). filter p t ++ (get_or (take i l) j d ∷ [])) (take-take j i l (omega arith)) ∙ ap (λ (x : A). filter p (take j l) ++ (x ∷ [])) (get_or-take i l j d below),
      )
