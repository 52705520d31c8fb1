-- Laws of `insert_by`, `insert_all_by` and `sort_by`.
use Prim.Native.Nat.{ℕ, suc, ◌+◌}
use native.Mathlib.Omega.{arith}
use mathlib.Core.Bool.{Bool, true, false, cond, true≢false}
use mathlib.Core.List.Perm
use mathlib.Core.List.{List, [], ◌∷◌, ◌++◌, append-nil, Perm, perm_middle}
use mathlib.Core.Logic.{inl, inr}
use mathlib.Core.Path.{◌≡◌, refl, sym, ap, ◌∙◌}
use lib.ListN.{length}
use Rattle.std.specs.Prelude.{filter}
use Rattle.lists.specs.Tally.{tally}
use Rattle.lists.specs.Sort.{insert_by, insert_all_by, sort_by}
use Rattle.lists.proofs.All.{All, Each, all_any, all_map, all_map₂}
use Rattle.lists.proofs.Order.{StrictOrder, Apart, Ascending}

module _ {A : Type 0} (before : A → A → Bool) where
  pub insert_all_by_append : (xs ys l : List A) → insert_all_by before (xs ++ ys) l ≡ insert_all_by before ys (insert_all_by before xs l)
  insert_all_by_append [] ys l = refl
  insert_all_by_append (x ∷ xs) ys l = insert_all_by_append xs ys (insert_by before x l)

  pub insert_by_length : (x : A) (l : List A) → length (insert_by before x l) ≡ suc (length l)
  insert_by_length x [] = refl
  insert_by_length x (y ∷ l) = go (before x y) (insert_by_length x l)
    where
      go : (b : Bool) → length (insert_by before x l) ≡ suc (length l) → length (cond b (x ∷ y ∷ l) (y ∷ insert_by before x l)) ≡ suc (suc (length l))
      go true e = refl
      go false e = ap suc e

  pub insert_all_by_length : (xs l : List A) → length (insert_all_by before xs l) ≡ length xs + length l
  insert_all_by_length [] l = omega arith
  insert_all_by_length (x ∷ xs) l = omega (arith, insert_all_by_length xs (insert_by before x l), insert_by_length x l)

  -- every element is kept, as often as it stands there
  insert_by_perm : (x : A) (l : List A) → Perm (insert_by before x l) (x ∷ l)
  insert_by_perm x [] = Perm.refl (x ∷ [])
  insert_by_perm x (y ∷ l) = go (before x y) (insert_by_perm x l)
    where
      go : (b : Bool) → Perm (insert_by before x l) (x ∷ l) → Perm (cond b (x ∷ y ∷ l) (y ∷ insert_by before x l)) (x ∷ y ∷ l)
      go true i = Perm.refl (x ∷ y ∷ l)
      go false i = Perm.trans (Perm.cons y i) (Perm.swap x y l)

  insert_all_by_perm : (xs l : List A) → Perm (insert_all_by before xs l) (xs ++ l)
  insert_all_by_perm [] l = Perm.refl l
  insert_all_by_perm (x ∷ xs) l = Perm.trans (insert_all_by_perm xs (insert_by before x l)) (Perm.trans (Perm.append_left xs (insert_by_perm x l)) (perm_middle xs l))

  pub sort_by_perm : (xs : List A) → Perm (sort_by before xs) xs
  sort_by_perm xs = rw append-nil at (insert_all_by_perm xs [])

  all_insert_by : (P : A → Type 0) (x : A) (l : List A) → P x → All P l → All P (insert_by before x l)
  all_insert_by P x [] h k = (h, tt)
  all_insert_by P x (y ∷ l) h k = go (before x y) (all_insert_by P x l h k.1)
    where
      go : (b : Bool) → All P (insert_by before x l) → All P (cond b (x ∷ y ∷ l) (y ∷ insert_by before x l))
      go true i = (h, k)
      go false i = (k.0, i)

  pub all_insert_all_by : (P : A → Type 0) (xs l : List A) → All P xs → All P l → All P (insert_all_by before xs l)
  all_insert_all_by P [] l h k = k
  all_insert_all_by P (x ∷ xs) l h k = all_insert_all_by P xs (insert_by before x l) h.1 (all_insert_by P x l h.0 k)

  -- elements that come before none of d go behind d
  insert_by_behind : (x : A) (d l : List A) → All (λ (y : A). before x y ≡ false) d → insert_by before x (d ++ l) ≡ d ++ insert_by before x l
  insert_by_behind x [] l h = refl
  insert_by_behind x (y ∷ d) l h = rw (h.0, insert_by_behind x d l h.1)

  pub insert_all_by_behind : (xs d l : List A) → All (λ (x : A). All (λ (y : A). before x y ≡ false) d) xs → insert_all_by before xs (d ++ l) ≡ d ++ insert_all_by before xs l
  insert_all_by_behind [] d l h = refl
  insert_all_by_behind (x ∷ xs) d l h = rw (insert_by_behind x d l h.0) (insert_all_by_behind xs d (insert_by before x l) h.1)

  -- what a test does not pass may be put in or not
  filter_insert_by : (p : A → Bool) (x : A) (l : List A) → p x ≡ false → filter p (insert_by before x l) ≡ filter p l
  filter_insert_by p x [] h = rw h
  filter_insert_by p x (y ∷ l) h = go (before x y) (filter_insert_by p x l h)
    where
      go : (b : Bool) → filter p (insert_by before x l) ≡ filter p l → filter p (cond b (x ∷ y ∷ l) (y ∷ insert_by before x l)) ≡ filter p (y ∷ l)
      go true i = rw h
      go false i = rw i

  pub filter_insert_all_by : (p : A → Bool) (xs l : List A) → All (λ (x : A). p x ≡ false) xs → filter p (insert_all_by before xs l) ≡ filter p l
  filter_insert_all_by p [] l h = refl
  filter_insert_all_by p (x ∷ xs) l h = filter_insert_all_by p xs (insert_by before x l) h.1 ∙ filter_insert_by p x l h.0

  -- sorting changes no count
  tally_insert_by : (p : A → Bool) (x : A) (l : List A) → tally p (insert_by before x l) ≡ tally p (x ∷ l)
  tally_insert_by p x [] = refl
  tally_insert_by p x (y ∷ l) = go (before x y) (tally_insert_by p x l)
    where
      swap : (b c : Bool) (n : ℕ) → cond c (suc (cond b (suc n) n)) (cond b (suc n) n) ≡ cond b (suc (cond c (suc n) n)) (cond c (suc n) n)
      swap true true n = refl
      swap true false n = refl
      swap false true n = refl
      swap false false n = refl

      go : (b : Bool) → tally p (insert_by before x l) ≡ tally p (x ∷ l) → tally p (cond b (x ∷ y ∷ l) (y ∷ insert_by before x l)) ≡ tally p (x ∷ y ∷ l)
      go true i = refl
      go false i = ap (λ (n : ℕ). cond (p y) (suc n) n) i ∙ swap (p x) (p y) (tally p l)

  tally_insert_all_by : (p : A → Bool) (xs l : List A) → tally p (insert_all_by before xs l) ≡ tally p xs + tally p l
  tally_insert_all_by p [] l = omega arith
  tally_insert_all_by p (x ∷ xs) l = tally_insert_all_by p xs (insert_by before x l) ∙ rw (tally_insert_by p x l) (go (p x))
    where
      go : (b : Bool) → tally p xs + cond b (suc (tally p l)) (tally p l) ≡ cond b (suc (tally p xs)) (tally p xs) + tally p l
      go true = omega arith
      go false = refl

  pub tally_sort_by : (p : A → Bool) (xs : List A) → tally p (sort_by before xs) ≡ tally p xs
  tally_sort_by p xs = tally_insert_all_by p xs [] ∙ omega arith

module _ {A : Type 0} (before : A → A → Bool) (strict : StrictOrder before) where
  -- two elements that differ in order may be put in either way round
  insert_by_swap : (x y : A) → before x y ≡ true → (l : List A) → insert_by before x (insert_by before y l) ≡ insert_by before y (insert_by before x l)
  insert_by_swap x y h [] = rw (h, strict.asym x y h)
  insert_by_swap x y h (z ∷ l) = go (before x z) (before y z) refl refl (insert_by_swap x y h l)
    where
      go : (b c : Bool) → before x z ≡ b → before y z ≡ c → insert_by before x (insert_by before y l) ≡ insert_by before y (insert_by before x l)
          → insert_by before x (cond c (y ∷ z ∷ l) (z ∷ insert_by before y l)) ≡ insert_by before y (cond b (x ∷ z ∷ l) (z ∷ insert_by before x l))
      go true true s t i = rw (h, strict.asym x y h, t)
      go true false s t i = rw (s, strict.asym x y h, t)
      go false true s t i = absurd (true≢false (sym (strict.trans x y z h t) ∙ s))
      go false false s t i = rw (s, t, i)

  insert_by_comm : (x y : A) → Apart before x y → (l : List A) → insert_by before x (insert_by before y l) ≡ insert_by before y (insert_by before x l)
  insert_by_comm x y (inl h) l = insert_by_swap x y h l
  insert_by_comm x y (inr h) l = sym (insert_by_swap y x h l)

  pub insert_by_past : (x : A) (ys l : List A) → All (Apart before x) ys → insert_all_by before ys (insert_by before x l) ≡ insert_by before x (insert_all_by before ys l)
  insert_by_past x [] l h = refl
  insert_by_past x (y ∷ ys) l h = ap (insert_all_by before ys) (sym (insert_by_comm x y h.0 l)) ∙ insert_by_past x ys (insert_by before y l) h.1

  pub insert_all_by_comm : (xs ys l : List A) → All (λ (x : A). All (Apart before x) ys) xs → insert_all_by before ys (insert_all_by before xs l) ≡ insert_all_by before xs (insert_all_by before ys l)
  insert_all_by_comm [] ys l h = refl
  insert_all_by_comm (x ∷ xs) ys l h = insert_all_by_comm xs ys (insert_by before x l) h.1 ∙ ap (insert_all_by before xs) (insert_by_past x ys l h.0)

  flip : (x y : A) → Apart before x y → Apart before y x
  flip x y (inl h) = inr h
  flip x y (inr h) = inl h

  insert_by_ascending : (x : A) (l : List A) → Ascending before l → All (Apart before x) l → Ascending before (insert_by before x l)
  insert_by_ascending x [] h k = (tt, tt)
  insert_by_ascending x (y ∷ l) h k = go (before x y) refl k.0 (insert_by_ascending x l h.1 k.1)
    where
      go : (b : Bool) → before x y ≡ b → Apart before x y → Ascending before (insert_by before x l) → Ascending before (cond b (x ∷ y ∷ l) (y ∷ insert_by before x l))
      go true s a i = ((s, all_map (λ (z : A). before y z ≡ true) (λ (z : A). before x z ≡ true) (λ z q. strict.trans x y z s q) l h.0), h)
      go false s (inl t) i = absurd (true≢false (sym t ∙ s))
      go false s (inr t) i = (all_insert_by before (λ (z : A). before y z ≡ true) x l t h.0, i)

  pub insert_all_by_ascending : (xs l : List A) → Ascending before l → Each (Apart before) xs → All (λ (x : A). All (Apart before x) l) xs → Ascending before (insert_all_by before xs l)
  insert_all_by_ascending [] l h e k = h
  insert_all_by_ascending (x ∷ xs) l h e k = insert_all_by_ascending xs (insert_by before x l) (insert_by_ascending x l h k.0) e.1
      (all_map₂ (Apart before x) (λ (y : A). All (Apart before y) l) (λ (y : A). All (Apart before y) (insert_by before x l))
      (λ y a b. all_insert_by before (Apart before y) x l (flip x y a) b) xs e.0 k.1)

  pub sort_by_ascending : (xs : List A) → Each (Apart before) xs → Ascending before (sort_by before xs)
  sort_by_ascending xs e = insert_all_by_ascending xs [] tt e (all_any (λ (x : A). Unit {0}) (λ x. tt) xs)
