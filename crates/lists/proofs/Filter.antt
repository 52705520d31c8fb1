-- Laws of `filter` and `tally`.
use Prim.Native.Nat.{ℕ, suc, ◌+◌, ◌-◌, ◌≤◌}
use native.Mathlib.Omega.{arith}
use mathlib.Core.Bool.{Bool, true, false, cond, true≢false, Bool-discrete}
use mathlib.Core.List.Perm
use mathlib.Core.List.{List, [], ◌∷◌, ◌++◌, map, flat_map, filter as filter_if, Perm}
use mathlib.Core.Logic.{ite}
use mathlib.Core.Path.{◌≡◌, refl, sym, ap, ◌∙◌}
use lib.ListN.{length, take, drop, length-take, length-append}
use lib.Seq.{take-add}
use Rattle.std.specs.Prelude.{filter}
use Rattle.std.proofs.lemmas.List.Elements.{filter-append}
use Rattle.lists.specs.Tally.{tally}
use Rattle.lists.proofs.All.{All, Each}

module _ {A : Type 0} (p : A → Bool) where
  pub filter_all : (xs : List A) → All (λ (x : A). p x ≡ true) xs → filter p xs ≡ xs
  filter_all [] h = refl
  filter_all (x ∷ xs) h = rw (h.0, filter_all xs h.1)

  pub filter_none : (xs : List A) → All (λ (x : A). p x ≡ false) xs → filter p xs ≡ []
  filter_none [] h = refl
  filter_none (x ∷ xs) h = rw h.0 (filter_none xs h.1)

  pub filter_passes : (xs : List A) → All (λ (x : A). p x ≡ true) (filter p xs)
  filter_passes [] = tt
  filter_passes (x ∷ xs) = go (p x) refl (filter_passes xs)
    where
      go : (b : Bool) → p x ≡ b → All (λ (y : A). p y ≡ true) (filter p xs) → All (λ (y : A). p y ≡ true) (cond b (x ∷ filter p xs) (filter p xs))
      go true e i = (e, i)
      go false e i = i

  pub filter_length : (xs : List A) → length (filter p xs) ≤ length xs
  filter_length [] = omega arith
  filter_length (x ∷ xs) = go (p x) (filter_length xs)
    where
      go : (b : Bool) → length (filter p xs) ≤ length xs → length (cond b (x ∷ filter p xs) (filter p xs)) ≤ suc (length xs)
      go true h = omega arith
      go false h = omega arith

  -- what is kept of the first i is at most i
  pub filter_bound : (l : List A) (i : ℕ) → length (filter p (take i l)) ≤ i
  filter_bound l i = omega (arith, filter_length (take i l), length-take i l)

  -- fewer elements looked at, no more kept
  pub filter_fewer : (l : List A) (i n : ℕ) → i ≤ n → length (filter p (take i l)) ≤ length (filter p (take n l))
  filter_fewer l i n h =
      let up : i + (n - i) ≡ n = omega arith in
      let cut : take n l ≡ take i l ++ take (n - i) (drop i l) = ap (λ (m : ℕ). take m l) (sym up) ∙ take-add i (n - i) l in
      omega (
        arith,
        ap (λ (t : List A). length (filter p t)) cut,
        ap length (filter-append p (take i l) (take (n - i) (drop i l))),
        length-append (filter p (take i l)) (filter p (take (n - i) (drop i l))),
      )

  -- the filter by a decision, that the decision that the test is true
  filter_decided : (xs : List A) → filter p xs ≡ filter_if {p = λ (x : A). p x ≡ true} (λ x. Bool-discrete (p x) true) xs
  filter_decided [] = refl
  filter_decided (x ∷ xs) = go (p x) (filter_decided xs)
    where
      go : (b : Bool) {rest : List A} → filter p xs ≡ rest → cond b (x ∷ filter p xs) (filter p xs) ≡ ite {C = List A} (Bool-discrete b true) (x ∷ rest) rest
      go true e = ap {B = List A} (λ m. x ∷ m) e
      go false e = e

  pub filter_perm : (xs ys : List A) → Perm xs ys → Perm (filter p xs) (filter p ys)
  filter_perm xs ys h = rw (filter_decided xs, filter_decided ys) (Perm.filter {p = λ (x : A). p x ≡ true} (λ x. Bool-discrete (p x) true) h)

  pub tally_filter : (xs : List A) → tally p xs ≡ length (filter p xs)
  tally_filter [] = refl
  tally_filter (x ∷ xs) = go (p x) (tally_filter xs)
    where
      go : (b : Bool) → tally p xs ≡ length (filter p xs) → cond b (suc (tally p xs)) (tally p xs) ≡ length (cond b (x ∷ filter p xs) (filter p xs))
      go true e = ap suc e
      go false e = e

  pub tally_append : (xs ys : List A) → tally p (xs ++ ys) ≡ tally p xs + tally p ys
  tally_append [] ys = omega arith
  tally_append (x ∷ xs) ys = go (p x) (tally_append xs ys)
    where
      go : (b : Bool) → tally p (xs ++ ys) ≡ tally p xs + tally p ys → cond b (suc (tally p (xs ++ ys))) (tally p (xs ++ ys)) ≡ cond b (suc (tally p xs)) (tally p xs) + tally p ys
      go true e = omega arith
      go false e = e

module _ {A : Type 0} where
  pub filter_same_test : (p q : A → Bool) → ((x : A) → p x ≡ q x) → (xs : List A) → filter p xs ≡ filter q xs
  filter_same_test p q h [] = refl
  filter_same_test p q h (x ∷ xs) = rw (h x, filter_same_test p q h xs)

  -- a test that passes less, after one that passes more
  pub filter_again : (p q : A → Bool) → ((x : A) → p x ≡ true → q x ≡ true) → (xs : List A) → filter p (filter q xs) ≡ filter p xs
  filter_again p q i [] = refl
  filter_again p q i (x ∷ xs) = go (p x) (q x) refl refl (filter_again p q i xs)
    where
      go : (b c : Bool) → p x ≡ b → q x ≡ c → filter p (filter q xs) ≡ filter p xs → filter p (cond c (x ∷ filter q xs) (filter q xs)) ≡ cond b (x ∷ filter p xs) (filter p xs)
      go true true h k e = rw (h, e)
      go true false h k e = absurd (true≢false (sym (i x h) ∙ k))
      go false true h k e = rw h e
      go false false h k e = e

  -- a test that passes more counts no fewer
  pub tally_more : (p q : A → Bool) → ((x : A) → p x ≡ true → q x ≡ true) → (xs : List A) → tally p xs ≤ tally q xs
  tally_more p q i [] = omega arith
  tally_more p q i (x ∷ xs) = go (p x) (q x) refl refl (tally_more p q i xs)
    where
      go : (b c : Bool) → p x ≡ b → q x ≡ c → tally p xs ≤ tally q xs → cond b (suc (tally p xs)) (tally p xs) ≤ cond c (suc (tally q xs)) (tally q xs)
      go true true h k l = omega arith
      go true false h k l = absurd (true≢false (sym (i x h) ∙ k))
      go false true h k l = omega arith
      go false false h k l = l

  -- what another test lets through is counted, what it stops is not
  pub tally_through : (p q : A → Bool) → ((x : A) → p x ≡ true → q x ≡ true) → (xs : List A) → tally p (filter q xs) ≡ tally p xs
  tally_through p q i xs = tally_filter p (filter q xs) ∙ ap length (filter_again p q i xs) ∙ sym (tally_filter p xs)

  pub tally_stopped : (p q : A → Bool) → ((x : A) → p x ≡ true → q x ≡ false) → (xs : List A) → tally p (filter q xs) ≡ 0
  tally_stopped p q i [] = refl
  tally_stopped p q i (x ∷ xs) = go (p x) (q x) refl refl (tally_stopped p q i xs)
    where
      go : (b c : Bool) → p x ≡ b → q x ≡ c → tally p (filter q xs) ≡ 0 → tally p (cond c (x ∷ filter q xs) (filter q xs)) ≡ 0
      go true true h k e = absurd (true≢false (sym k ∙ i x h))
      go true false h k e = e
      go false true h k e = rw h e
      go false false h k e = e

  pub all_filtered : (P : A → Type 0) (p : A → Bool) (xs : List A) → All P xs → All P (filter p xs)
  all_filtered P p [] h = tt
  all_filtered P p (x ∷ xs) h = go (p x) (all_filtered P p xs h.1)
    where
      go : (b : Bool) → All P (filter p xs) → All P (cond b (x ∷ filter p xs) (filter p xs))
      go true i = (h.0, i)
      go false i = i

  pub each_filtered : (R : A → A → Type 0) (p : A → Bool) (xs : List A) → Each R xs → Each R (filter p xs)
  each_filtered R p [] h = tt
  each_filtered R p (x ∷ xs) h = go (p x) (each_filtered R p xs h.1)
    where
      go : (b : Bool) → Each R (filter p xs) → Each R (cond b (x ∷ filter p xs) (filter p xs))
      go true i = (all_filtered (R x) p xs h.0, i)
      go false i = i

pub filter_mapped : {A B : Type 0} (p : B → Bool) (f : A → B) (xs : List A) → filter p (map f xs) ≡ map f (filter (λ (x : A). p (f x)) xs)
filter_mapped p f [] = refl
filter_mapped {A} {B} p f (x ∷ xs) = go (p (f x)) (filter_mapped p f xs)
  where
    go : (b : Bool) → filter p (map f xs) ≡ map f (filter (λ (x : A). p (f x)) xs) → cond b (f x ∷ filter p (map f xs)) (filter p (map f xs)) ≡ map f (cond b (x ∷ filter (λ (x : A). p (f x)) xs) (filter (λ (x : A). p (f x)) xs))
    go true e = ap {B = List B} (λ m. f x ∷ m) e
    go false e = e

pub filter_flat_map : {A B : Type 0} (p : B → Bool) (f : A → List B) (xs : List A) → filter p (flat_map f xs) ≡ flat_map (λ (x : A). filter p (f x)) xs
unfolding flat_map
filter_flat_map p f [] = refl
filter_flat_map p f (x ∷ xs) = rw (filter-append, filter_flat_map p f xs)

pub tally_map : {A B : Type 0} (p : B → Bool) (f : A → B) (xs : List A) → tally p (map f xs) ≡ tally (λ (x : A). p (f x)) xs
tally_map p f [] = refl
tally_map p f (x ∷ xs) = rw (tally_map p f xs)
