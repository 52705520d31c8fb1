-- Laws of `list_all` and `chain`: the facts in a test of a whole list, and what `is_sorted_by` answers.
use Prim.Native.Nat.{ℕ, zero, suc, ◌+◌, ◌-◌, ◌<◌}
use native.Mathlib.Omega.{arith}
use native.Mathlib.Nat.{not-suc-le-zero, le_of_suc-le-suc}
use mathlib.Core.Bool.{Bool, true, false, ◌&&◌, and-false}
use mathlib.Core.List.{List, [], ◌∷◌}
use mathlib.Core.Path.{◌≡◌, refl, sym, ap, ◌∙◌}
use lib.ListN.{length, replicate, get_or}
use Rattle.std.specs.List.{list_all, AllAdjacentBelow, IsAllAdjacentAnswer}
use Rattle.std.specs.Fn.{Called, ComputesOnPairs}
use Rattle.std.proofs.lemmas.List.Sorted.{answers_always}
use denote.Param.Members.{Mut}
use denote.Ref.{Bor}
use Rattle.lists.specs.Judge.{chain_from, chain}
use Rattle.lists.proofs.All.{All, Each, all_map}
use Rattle.lists.proofs.Bools.{and_left, and_right}

module _ {A : Type 0} where
  fails : (p : A → Bool) (xs : List A) (j : ℕ) (d : A) → j < length xs → p (get_or xs j d) ≡ false → list_all p xs ≡ false
  fails p [] j d h e = absurd (not-suc-le-zero h)
  fails p (x ∷ xs) zero d h e = rw e
  fails p (x ∷ xs) (suc j) d h e = rw (fails p xs j d (le_of_suc-le-suc h) e, and-false (p x))

  pub list_all_all : (p : A → Bool) (xs : List A) → list_all p xs ≡ true → All (λ (x : A). p x ≡ true) xs
  list_all_all p [] e = tt
  list_all_all p (x ∷ xs) e = (and_left (p x) (list_all p xs) e, list_all_all p xs (and_right (p x) (list_all p xs) e))

  pub all_list_all : (p : A → Bool) (xs : List A) → All (λ (x : A). p x ≡ true) xs → list_all p xs ≡ true
  all_list_all p [] h = refl
  all_list_all p (x ∷ xs) h = rw (h.0, all_list_all p xs h.1)

  pub list_all_replicate : (p : A → Bool) (n : ℕ) (z : A) → p z ≡ true → list_all p (replicate n z) ≡ true
  list_all_replicate p zero z e = refl
  list_all_replicate p (suc n) z e = rw (e, list_all_replicate p n z e)

  chain_from_fails : (r : A → A → Bool) (x : A) (xs : List A) (j : ℕ) (d : A) → j < length xs → r (get_or (x ∷ xs) j d) (get_or xs j d) ≡ false → chain_from r x xs ≡ false
  chain_from_fails r x [] j d h e = absurd (not-suc-le-zero h)
  chain_from_fails r x (y ∷ ys) zero d h e = rw e
  chain_from_fails r x (y ∷ ys) (suc j) d h e = rw (chain_from_fails r y ys j d (le_of_suc-le-suc h) e, and-false (r x y))

  pub chain_fails : (r : A → A → Bool) (xs : List A) (i : ℕ) (d : A) → 0 < i → i < length xs → r (get_or xs (i - 1) d) (get_or xs i d) ≡ false → chain r xs ≡ false
  chain_fails r [] i d z h e = absurd (not-suc-le-zero h)
  chain_fails r (x ∷ xs) zero d z h e = absurd (not-suc-le-zero z)
  chain_fails r (x ∷ xs) (suc i) d z h e =
      let down : suc i - 1 ≡ i = omega arith in
      chain_from_fails r x xs i d (le_of_suc-le-suc h) (rw down at e)

  chain_answer : (r : A → A → Bool) (xs : List A) (b : Bool) → IsAllAdjacentAnswer (λ x y c. c ≡ r x y) xs b → b ≡ chain r xs
  chain_answer r xs true h = sym (all xs h)
    where
      from : (x : A) (xs : List A) → AllAdjacentBelow (λ x y. true ≡ r x y) (x ∷ xs) (length (x ∷ xs)) → chain_from r x xs ≡ true
      from x [] h = refl
      from x (y ∷ ys) h = rw (sym (h 0 x (omega arith)), from y ys (λ k d l. let up : suc k + 1 ≡ suc (k + 1) = omega arith in h (suc k) d (omega arith) ∙ ap (λ (j : ℕ). r (get_or (y ∷ ys) k d) (get_or (x ∷ y ∷ ys) j d)) up))

      all : (xs : List A) → AllAdjacentBelow (λ x y. true ≡ r x y) xs (length xs) → chain r xs ≡ true
      all [] h = refl
      all (x ∷ xs) h = from x xs h
  chain_answer r [] false h = absurd (not-suc-le-zero h.1)
  chain_answer r (x ∷ xs) false h =
      let down : h.0 + 1 - 1 ≡ h.0 = omega arith in
      sym (chain_fails r (x ∷ xs) (h.0 + 1) x (omega arith) h.1 (ap (λ (k : ℕ). r (get_or (x ∷ xs) k x) (get_or (x ∷ xs) (h.0 + 1) x)) down ∙ sym (h.2 x)))

  -- what `is_sorted_by` answers, by its clause `cases` and what each call of its closure answers
  pub chain_sorted : (r : A → A → Bool) {F : Type 0} {g : Mut F (Bor A × (Bor A × Unit {0})) Bool} {f : F} (xs : List A) (b : Bool)
      → ((e : A → A → Bool) → ComputesOnPairs g e f → IsAllAdjacentAnswer (λ x y c. c ≡ e x y) xs b)
      → ((f : F) (a : Bor A × (Bor A × Unit {0})) (c : Bool) (f' : F) → Called g f a c f' → c ≡ r a.0.now a.1.0.now)
      → b ≡ chain r xs
  chain_sorted r {F} {g} {f} xs b clause answers = chain_answer r xs b (clause r (answers_always g (λ a c. c ≡ r a.0.now a.1.0.now) f answers))

  -- where the test is transitive, neighbours in order are all in order
  module _ (r : A → A → Bool) (trans : (x y z : A) → r x y ≡ true → r y z ≡ true → r x z ≡ true) where
    chain_from_each : (x : A) (xs : List A) → chain_from r x xs ≡ true → All (λ (y : A). r x y ≡ true) xs × Each (λ (y z : A). r y z ≡ true) xs
    chain_from_each x [] e = (tt, tt)
    chain_from_each x (y ∷ ys) e =
        let first = and_left (r x y) (chain_from r y ys) e in
        let rest = chain_from_each y ys (and_right (r x y) (chain_from r y ys) e) in
        ((first, all_map (λ (z : A). r y z ≡ true) (λ (z : A). r x z ≡ true) (λ z k. trans x y z first k) ys rest.0), rest)

    pub chain_each : (xs : List A) → chain r xs ≡ true → Each (λ (y z : A). r y z ≡ true) xs
    chain_each [] e = tt
    chain_each (x ∷ xs) e = chain_from_each x xs e

  each_chain_from : (r : A → A → Bool) (x : A) (xs : List A) → All (λ (y : A). r x y ≡ true) xs → Each (λ (y z : A). r y z ≡ true) xs → chain_from r x xs ≡ true
  each_chain_from r x [] h k = refl
  each_chain_from r x (y ∷ ys) h k = rw (h.0, each_chain_from r y ys k.0 k.1)

  pub each_chain : (r : A → A → Bool) (xs : List A) → Each (λ (y z : A). r y z ≡ true) xs → chain r xs ≡ true
  each_chain r [] h = refl
  each_chain r (x ∷ xs) h = each_chain_from r x xs h.0 h.1

-- ---- places that are judged: the count, what they hold, its order, and the spare ones

pub record Passes (few sounds order spare : Bool) : Type 0 where
  pub few_pass : few ≡ true
  pub sounds_pass : sounds ≡ true
  pub order_pass : order ≡ true
  pub spare_pass : spare ≡ true

pub passes : (few sounds order spare : Bool) → few && (sounds && (order && spare)) ≡ true → Passes few sounds order spare
passes few sounds order spare e =
    let e1 = and_right few _ e in
    let e2 = and_right sounds _ e1 in
    record { few_pass = and_left few _ e; sounds_pass = and_left sounds _ e1; order_pass = and_left order _ e2; spare_pass = and_right order _ e2 }
