-- Laws of a list kept in places: `pad_to` and `Stores`.
use Prim.Native.Nat.{ℕ, zero, suc, ◌+◌, ◌-◌, ◌≤◌, ◌<◌}
use native.Mathlib.Omega.{arith}
use mathlib.Core.Bool.{Bool, true}
use mathlib.Core.List.{List, [], ◌∷◌, ◌++◌, append_assoc}
use mathlib.Core.Path.{◌≡◌, refl, sym, ap, ◌∙◌}
use lib.ListN.{length, replicate, take, drop, set, get_or, length-append, length-replicate, length-take, length-drop, take-append-drop}
use lib.Seq.{set-append_seam, take_at, drop_at, length-take-le}
use Rattle.std.specs.List.{list_all}
use Rattle.lists.specs.Store.{pad_to, Stores}
use Rattle.lists.proofs.All.{all_map, all_replicate}
use Rattle.lists.proofs.Judge.{list_all_all, list_all_replicate}

module _ {A : Type 0} (k : ℕ) (z : A) where
  pub pad_to_length : (xs : List A) → length xs ≤ k → length (pad_to k z xs) ≡ k
  unfolding pad_to
  pad_to_length xs h = simp (length-append, length-replicate) (omega arith)

  -- the list is read back as the first places
  pub pad_to_take : (xs : List A) (n : ℕ) → length xs ≡ n → take n (pad_to k z xs) ≡ xs
  unfolding pad_to
  pad_to_take xs n e = take_at xs (replicate (k - length xs) z) n e

  pub pad_to_drop : (xs : List A) (n : ℕ) → length xs ≡ n → drop n (pad_to k z xs) ≡ replicate (k - n) z
  unfolding pad_to
  pad_to_drop xs n e = drop_at xs (replicate (k - length xs) z) n e ∙ ap (λ (m : ℕ). replicate (k - m) z) e

  -- one more element goes into the first spare place
  pub pad_to_set : (xs : List A) (n : ℕ) (x : A) → length xs ≡ n → n < k → set (pad_to k z xs) n x ≡ pad_to k z (xs ++ (x ∷ []))
  unfolding pad_to
  pad_to_set xs n x f h =
      let e : k - length xs ≡ suc (k - (length xs + 1)) = omega arith in
      ap (λ (m : ℕ). set (xs ++ replicate m z) n x) e
      ∙ ap (λ (m : ℕ). set (xs ++ (z ∷ replicate (k - (length xs + 1)) z)) m x) (sym f)
      ∙ set-append_seam xs z (replicate (k - (length xs + 1)) z) x
      ∙ sym (append_assoc xs (x ∷ []) (replicate (k - (length xs + 1)) z))
      ∙ ap (λ (m : ℕ). (xs ++ (x ∷ [])) ++ replicate (k - m) z) (sym (length-append xs (x ∷ [])))

  -- a list whose elements from n on are z is its first n, padded
  pub pad_to_split : (l : List A) (n : ℕ) → length l ≡ k → n ≤ k → drop n l ≡ replicate (k - n) z → l ≡ pad_to k z (take n l)
  unfolding pad_to
  pad_to_split l n full h e =
      let m : k - n ≡ k - length (take n l) = simp length-take (omega arith) in
      sym (take-append-drop n l) ∙ ap (λ (t : List A). take n l ++ t) (e ∙ ap (λ (j : ℕ). replicate j z) m)

module _ {A : Type 0} (z : A) (k n : ℕ) (places : List A) where
  module _ (s : Stores z k n places) where
    pub stores_length : length places ≡ k
    stores_length =
        let few : length (take n places) ≤ k = simp length-take (omega (arith, s.few)) in
        ap length s.same ∙ pad_to_length k z (take n places) few

    pub stored_length : length (take n places) ≡ n
    stored_length = length-take-le n places (omega (arith, s.few, stores_length))

    pub stores_rest : drop n places ≡ replicate (k - n) z
    stores_rest = ap (drop n) s.same ∙ pad_to_drop k z (take n places) n stored_length

    -- one more element, in the first spare place
    pub stored_more : (x : A) → n < k → set places n x ≡ pad_to k z (take n places ++ (x ∷ []))
    stored_more x h = ap (λ (l : List A). set l n x) s.same ∙ pad_to_set k z (take n places) n x stored_length h

  -- places with z in each that a test of z finds spare
  pub stores_judged : (spare : A → Bool) → ((x : A) → spare x ≡ true → x ≡ z) → length places ≡ k → n ≤ k → list_all spare (drop n places) ≡ true → Stores z k n places
  stores_judged spare is full few e =
      let rest = all_replicate z (drop n places) (all_map (λ (x : A). spare x ≡ true) (λ (x : A). x ≡ z) is (drop n places) (list_all_all spare (drop n places) e)) in
      let gap : length (drop n places) ≡ k - n = length-drop n places ∙ ap (λ (m : ℕ). m - n) full in
      record { few = few; same = pad_to_split k z places n full few (rest ∙ ap (λ (m : ℕ). replicate m z) gap) }

-- what is stored is read back
module _ {A : Type 0} (z : A) (k : ℕ) (xs : List A) (n : ℕ) (e : length xs ≡ n) where
  pub stores_stored : n ≤ k → Stores z k n (pad_to k z xs)
  stores_stored h = record { few = h; same = ap (pad_to k z) (sym (pad_to_take k z xs n e)) }

  -- and beyond it stand blanks
  pub spare_stored : (spare : A → Bool) → spare z ≡ true → list_all spare (drop n (pad_to k z xs)) ≡ true
  spare_stored spare h = ap (list_all spare) (pad_to_drop k z xs n e) ∙ list_all_replicate spare (k - n) z h

-- ---- rows of a given width

-- the numbers that f gives, from 0 on
abbrev listed : ℕ → (ℕ → ℕ) → List ℕ
listed zero f = []
listed (suc n) f = f 0 ∷ listed n (λ i. f (suc i))

-- a row is its numbers
pub row_listed : (width : ℕ) (row : List ℕ) → length row ≡ width → listed width (λ i. get_or row i 0) ≡ row
row_listed zero [] e = refl
row_listed zero (x ∷ row) e = absurd (never (length row) e)
  where
    never : (n : ℕ) → suc n ≡ 0 → ⊥
    never n e = omega arith
row_listed (suc width) [] e = absurd (never width e)
  where
    never : (n : ℕ) → 0 ≡ suc n → ⊥
    never n e = omega arith
row_listed (suc width) (x ∷ row) e = ap {B = List ℕ} (λ l. x ∷ l) (row_listed width row (shorter (length row) width e))
  where
    shorter : (m n : ℕ) → suc m ≡ suc n → m ≡ n
    shorter m n e = omega arith
