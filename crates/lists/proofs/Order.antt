-- What sorting asks of an order, and that `ascending` makes such orders.
use Prim.Native.Nat.{ℕ, ◌<◌}
use native.Mathlib.Omega.{arith}
use mathlib.Core.Bool.{Bool, true, false, true≢false, and-false, or-false}
use mathlib.Core.List.{List}
use mathlib.Core.Path.{◌≡◌, refl, sym, ◌∙◌}
use mathlib.Core.Logic.{◌⊎◌, inl, inr}
use lib.Dec.{ltb, eqb}
use borrow.Author.Tests.{ltb-true, ltb-false, lt-ltb, le-ltb, eq-eqb, ne_eqb}
use Rattle.lists.specs.Sort.{ascending, neither}
use Rattle.lists.proofs.All.{Each}

pub record StrictOrder {A : Type 0} (before : A → A → Bool) : Type 0 where
  pub asym : (x y : A) → before x y ≡ true → before y x ≡ false
  pub trans : (x y z : A) → before x y ≡ true → before y z ≡ true → before x z ≡ true

-- one of the two comes before the other
abbrev pub Apart : {A : Type 0} (before : A → A → Bool) → A → A → Type 0
Apart before x y = (before x y ≡ true) ⊎ (before y x ≡ true)

-- a list in strictly ascending order
abbrev pub Ascending : {A : Type 0} (before : A → A → Bool) → List A → Type 0
Ascending {A} before l = Each (λ (x y : A). before x y ≡ true) l

pub data Compared (m n : ℕ) : Type 0 where
  less : m < n → Compared m n
  equal : m ≡ n → Compared m n
  more : n < m → Compared m n

pub compared : (m n : ℕ) → Compared m n
compared m n = go (ltb m n) (ltb n m) refl refl
  where
    go : (b c : Bool) → ltb m n ≡ b → ltb n m ≡ c → Compared m n
    go true c p q = less (ltb-true m n p)
    go false true p q = more (ltb-true n m q)
    go false false p q = equal (omega (arith, ltb-false m n p, ltb-false n m q))

module _ {A : Type 0} where
  pub strict_neither : StrictOrder (neither {A = A})
  unfolding neither
  strict_neither = record { asym = λ x y h. refl; trans = λ x y z h k. h }

-- the last number decides alone
pub ascending_last : {A : Type 0} (number : A → ℕ) (x y : A) → ascending number neither x y ≡ ltb (number x) (number y)
unfolding ascending neither
ascending_last number x y = rw (and-false (eqb (number x) (number y)), or-false (ltb (number x) (number y)))

module _ {A : Type 0} (number : A → ℕ) (next : A → A → Bool) where
  pub ascending_less : (x y : A) → number x < number y → ascending number next x y ≡ true
  unfolding ascending
  ascending_less x y h = rw (lt-ltb (number x) (number y) h)

  pub ascending_equal : (x y : A) → number x ≡ number y → ascending number next x y ≡ next x y
  unfolding ascending
  ascending_equal x y h = rw (le-ltb (number x) (number y) (omega arith), eq-eqb (number x) (number y) h)

  pub ascending_more : (x y : A) → number y < number x → ascending number next x y ≡ false
  unfolding ascending
  ascending_more x y h = rw (le-ltb (number x) (number y) (omega arith), ne_eqb (number x) (number y) (λ e. omega arith))

  -- where the numbers differ, what follows does not matter
  pub ascending_differ : (x y : A) → (number x ≡ number y → ⊥) → ascending number next x y ≡ ltb (number x) (number y)
  unfolding ascending
  ascending_differ x y h = rw (ne_eqb (number x) (number y) h, or-false (ltb (number x) (number y)))

  pub strict_ascending : StrictOrder next → StrictOrder (ascending number next)
  strict_ascending o = record { asym = λ x y h. one x y h (compared (number x) (number y)); trans = λ x y z h k. two x y z h k (compared (number x) (number y)) (compared (number y) (number z)) }
    where
      one : (x y : A) → ascending number next x y ≡ true → Compared (number x) (number y) → ascending number next y x ≡ false
      one x y h (less l) = ascending_more y x l
      one x y h (equal e) = ascending_equal y x (sym e) ∙ o.asym x y (sym (ascending_equal x y e) ∙ h)
      one x y h (more g) = absurd (true≢false (sym h ∙ ascending_more x y g))

      two : (x y z : A) → ascending number next x y ≡ true → ascending number next y z ≡ true → Compared (number x) (number y) → Compared (number y) (number z) → ascending number next x z ≡ true
      two x y z h k (less l) (less l') = ascending_less x z (omega arith)
      two x y z h k (less l) (equal e') = ascending_less x z (omega arith)
      two x y z h k (less l) (more g') = absurd (true≢false (sym k ∙ ascending_more y z g'))
      two x y z h k (equal e) (less l') = ascending_less x z (omega arith)
      two x y z h k (equal e) (equal e') = ascending_equal x z (e ∙ e') ∙ o.trans x y z (sym (ascending_equal x y e) ∙ h) (sym (ascending_equal y z e') ∙ k)
      two x y z h k (equal e) (more g') = absurd (true≢false (sym k ∙ ascending_more y z g'))
      two x y z h k (more g) t = absurd (true≢false (sym h ∙ ascending_more x y g))

  -- apart by this number, or by what follows
  pub apart_here : (x y : A) → (number x ≡ number y → ⊥) → Apart (ascending number next) x y
  apart_here x y n = go (compared (number x) (number y))
    where
      go : Compared (number x) (number y) → Apart (ascending number next) x y
      go (less l) = inl (ascending_less x y l)
      go (equal e) = absurd (n e)
      go (more g) = inr (ascending_less y x g)

  pub apart_next : (x y : A) → Apart next x y → Apart (ascending number next) x y
  apart_next x y a = go (compared (number x) (number y)) a
    where
      go : Compared (number x) (number y) → Apart next x y → Apart (ascending number next) x y
      go (less l) a = inl (ascending_less x y l)
      go (equal e) (inl h) = inl (ascending_equal x y e ∙ h)
      go (equal e) (inr h) = inr (ascending_equal y x (sym e) ∙ h)
      go (more g) a = inr (ascending_less y x g)
