-- A test that passes whatever stands before something that it passes: what passes stands first.
use Prim.Native.Nat.{suc, ◌+◌}
use native.Mathlib.Omega.{arith}
use mathlib.Core.Bool.{Bool, true, false, cond, not, true≢false}
use mathlib.Core.List.{List, [], ◌∷◌, ◌++◌}
use mathlib.Core.Path.{◌≡◌, refl, sym, ap, ◌∙◌}
use lib.ListN.{take}
use Rattle.std.specs.Prelude.{filter}
use Rattle.std.specs.List.{prefix_len}
use Rattle.lists.proofs.All.{All, Each, all_map}
use Rattle.lists.proofs.Filter.{filter_all, filter_none}

module _ {A : Type 0} (p : A → Bool) where
  -- x passes where y does
  abbrev pub Down : A → A → Type 0
  Down x y = p y ≡ true → p x ≡ true

  fails : (x y : A) → p x ≡ false → Down x y → p y ≡ false
  fails x y e down = go (p y) refl
    where
      go : (b : Bool) → p y ≡ b → p y ≡ false
      go true f = absurd (true≢false (sym (down f) ∙ e))
      go false f = f

  -- what passes stands first, then what does not
  pub filter_split : (xs : List A) → Each Down xs → xs ≡ filter p xs ++ filter (λ (x : A). not (p x)) xs
  filter_split [] h = refl
  filter_split (x ∷ xs) h = go (p x) refl (filter_split xs h.1)
    where
      others : List A
      others = filter (λ (y : A). not (p y)) xs

      fail : p x ≡ false → All (λ (y : A). p y ≡ false) xs
      fail e = all_map (Down x) (λ (y : A). p y ≡ false) (λ y i. fails x y e i) xs h.0

      go : (b : Bool) → p x ≡ b → xs ≡ filter p xs ++ others → x ∷ xs ≡ cond b (x ∷ filter p xs) (filter p xs) ++ cond (not b) (x ∷ others) others
      go true e i = ap {B = List A} (λ l. x ∷ l) i
      go false e i =
          rw (
            filter_none p xs (fail e),
            filter_all (λ (y : A). not (p y)) xs (all_map (λ (y : A). p y ≡ false) (λ (y : A). not (p y) ≡ true) (λ y f. ap not f) xs (fail e)),
          )

  -- the first that passes is the first of all
  pub filter_head : (y : A) (ys : List A) → Each Down (y ∷ ys) → (x : A) (xs : List A) → filter p (y ∷ ys) ≡ x ∷ xs → p y ≡ true
  filter_head y ys h x xs e = go (p y) refl e
    where
      go : (b : Bool) → p y ≡ b → cond b (y ∷ filter p ys) (filter p ys) ≡ x ∷ xs → p y ≡ true
      go true s f = s
      go false s f =
          let none : filter p ys ≡ [] = filter_none p ys (all_map (Down y) (λ (z : A). p z ≡ false) (λ z i. fails y z s i) ys h.0) in
          cc

  -- what passes is the front that does
  pub filter_prefix : (xs : List A) → Each Down xs → filter p xs ≡ take (prefix_len p xs) xs
  filter_prefix [] h = refl
  filter_prefix (x ∷ xs) h = go (p x) refl (filter_prefix xs h.1)
    where
      go : (b : Bool) → p x ≡ b → filter p xs ≡ take (prefix_len p xs) xs → cond b (x ∷ filter p xs) (filter p xs) ≡ take (cond b (1 + prefix_len p xs) 0) (x ∷ xs)
      go true e i = let up : 1 + prefix_len p xs ≡ suc (prefix_len p xs) = omega arith in rw up (ap {B = List A} (λ l. x ∷ l) i)
      go false e i = filter_none p xs (all_map (Down x) (λ (y : A). p y ≡ false) (λ y j. fails x y e j) xs h.0)
