-- The elements of a list, each once, and sums over them.
use Prim.Native.Nat.{ℕ, suc, ◌+◌, ◌*◌}
use native.Mathlib.Omega.{arith}
use mathlib.Core.Bool.{Bool, true, false, cond, not, true≢false}
use mathlib.Core.List.{List, [], ◌∷◌}
use mathlib.Core.Path.{◌≡◌, refl, sym, ap, ◌∙◌}
use lib.Dec.{ltb}
use borrow.Author.Tests.{lt-ltb}
use Rattle.std.specs.Prelude.{filter}
use Rattle.lists.specs.Tally.{tally}
use Rattle.lists.proofs.Filter.{tally_through, tally_stopped}
use Rattle.demands.specs.Stream.{once, sum_over}

module _ {E : Type 0} (same : E → E → Bool) (same_refl : (x : E) → same x x ≡ true) (same_true : (x y : E) → same x y ≡ true → x ≡ y) where
  -- each element that occurs stands once among them
  pub once_tally : (xs : List E) (z : E) → tally (λ (y : E). same y z) (once same xs) ≡ cond (ltb 0 (tally (λ (y : E). same y z) xs)) 1 0
  once_tally [] z = refl
  once_tally (x ∷ xs) z = go (same x z) refl (once_tally xs z)
    where
      stops : same x z ≡ true → (y : E) → same y z ≡ true → not (same y x) ≡ false
      stops h y k = ap not (ap (same y) (same_true x z h) ∙ k)

      flip : same x z ≡ false → (b : Bool) → same z x ≡ b → not b ≡ true
      flip h true k = absurd (true≢false (sym (same_refl x) ∙ ap (same x) (sym (same_true z x k)) ∙ h))
      flip h false k = refl

      lets : same x z ≡ false → (y : E) → same y z ≡ true → not (same y x) ≡ true
      lets h y k = ap (λ (u : E). not (same u x)) (same_true y z k) ∙ flip h (same z x) refl

      go : (b : Bool) → same x z ≡ b → tally (λ (y : E). same y z) (once same xs) ≡ cond (ltb 0 (tally (λ (y : E). same y z) xs)) 1 0
          → cond b (suc (tally (λ (y : E). same y z) (filter (λ (y : E). not (same y x)) (once same xs)))) (tally (λ (y : E). same y z) (filter (λ (y : E). not (same y x)) (once same xs)))
          ≡ cond (ltb 0 (cond b (suc (tally (λ (y : E). same y z) xs)) (tally (λ (y : E). same y z) xs))) 1 0
      go true h e =
          ap suc (tally_stopped (λ (y : E). same y z) (λ (y : E). not (same y x)) (stops h) (once same xs))
          ∙ sym (ap (λ (c : Bool). cond c 1 0) (lt-ltb 0 (suc (tally (λ (y : E). same y z) xs)) (omega arith)))
      go false h e = tally_through (λ (y : E). same y z) (λ (y : E). not (same y x)) (lets h) (once same xs) ∙ e

  -- of a sum over elements, the terms of one
  pub sum_one : (f : E → ℕ) (z : E) (xs : List E) → sum_over (λ (x : E). cond (same x z) (f x) 0) xs ≡ tally (λ (x : E). same x z) xs * f z
  sum_one f z [] = omega arith
  sum_one f z (x ∷ xs) = go (same x z) refl (sum_one f z xs)
    where
      go : (b : Bool) → same x z ≡ b → sum_over (λ (x : E). cond (same x z) (f x) 0) xs ≡ tally (λ (x : E). same x z) xs * f z
          → cond b (f x) 0 + sum_over (λ (x : E). cond (same x z) (f x) 0) xs ≡ cond b (suc (tally (λ (x : E). same x z) xs)) (tally (λ (x : E). same x z) xs) * f z
      go true h e = rw (same_true x z h, e) (omega arith)
      go false h e = rw e (omega arith)

pub sum_same : {X : Type 0} (f g : X → ℕ) → ((x : X) → f x ≡ g x) → (xs : List X) → sum_over f xs ≡ sum_over g xs
sum_same f g h [] = refl
sum_same f g h (x ∷ xs) = rw (h x, sum_same f g h xs)

pub sum_none : {X : Type 0} (xs : List X) → sum_over (λ (x : X). 0) xs ≡ 0
sum_none [] = refl
sum_none (x ∷ xs) = omega (arith, sum_none xs)
