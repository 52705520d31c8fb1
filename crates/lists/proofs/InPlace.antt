-- Laws of places that are changed where they stand, one store a turn.
use Prim.Native.Nat.{ℕ, ◌+◌, ◌-◌, ◌≤◌, ◌<◌}
use native.Mathlib.Omega.{arith}
use mathlib.Core.Bool.{Bool, false}
use mathlib.Core.List.{List, ◌++◌}
use mathlib.Core.Path.{◌≡◌, sym, ap, ◌∙◌}
use lib.ListN.{length, replicate, take, drop, set, get_or, length-replicate, length-set, replicate-append-replicate}
use lib.Seq.{slice, length-slice, take_at, drop_at, take-set-le, drop-set-lt, drop-drop, drop-append-add}
use Rattle.std.proofs.lemmas.List.Filters.{FiltersInPlace, FiltersInPlace-more_no}
use Rattle.lists.specs.Store.{pad_to}

-- what does not pass is moved too, in front of those that are still to be looked at, and not counted
pub FiltersInPlace-more_left : {A : Type 0} {p : A → Bool} {xs ys : List A} {k i : ℕ} → {x : A} → FiltersInPlace p xs ys k i → i < length ys → p x ≡ false → x ≡ get_or ys i x → FiltersInPlace p xs (set ys k x) k (i + 1)
FiltersInPlace-more_left {A} {p} {xs} {ys} {k} {i} {x} f inside fails at =
    let more = FiltersInPlace-more_no f inside fails at in
    record {
      front = take-set-le k ys k x (omega arith) ∙ more.front;
      rest = drop-set-lt (i + 1) ys k x (omega (arith, f.behind)) ∙ more.rest;
      behind = more.behind;
      within = more.within;
      long = length-set ys k x ∙ more.long;
    }

-- some elements, with z in the places up to n and beyond, are those elements padded
pub padded_part : {A : Type 0} (k n gap : ℕ) (z : A) (xs rest : List A) → rest ≡ replicate (k - n) z → length xs + gap ≡ n → n ≤ k → xs ++ (replicate gap z ++ rest) ≡ pad_to k z xs
unfolding pad_to
padded_part {A} k n gap z xs rest e h few =
    let f : gap + (k - n) ≡ k - length xs = omega arith in
    ap (λ (t : List A). xs ++ (replicate gap z ++ t)) e ∙ ap (λ (t : List A). xs ++ t) (replicate-append-replicate gap (k - n) z) ∙ ap (λ (m : ℕ). xs ++ replicate m z) f

-- ---- a stretch is moved to the front

-- the stretch is in front, and zeros are written behind it
pub moved_padded : {A : Type 0} (size n k : ℕ) (z : A) (l₀ l₁ l₂ : List A) → length l₀ ≡ size → n ≤ size → k ≤ n → drop n l₀ ≡ replicate (size - n) z
    → l₁ ≡ slice k n l₀ ++ drop (n - k) l₀ → l₂ ≡ take (n - k) l₁ ++ (replicate (n - (n - k)) z ++ drop n l₁) → l₂ ≡ pad_to size z (slice k n l₀)
moved_padded {A} size n k z l₀ l₁ l₂ full few less rest e f =
    let part : length (slice k n l₀) ≡ n - k = length-slice k n l₀ (omega arith) in
    let m : n ≡ length (slice k n l₀) + k = omega (arith, part) in
    let back : (n - k) + k ≡ n = omega arith in
    let front : take (n - k) l₁ ≡ slice k n l₀ = ap (take (n - k)) e ∙ take_at (slice k n l₀) (drop (n - k) l₀) (n - k) part in
    let left : drop n l₁ ≡ drop n l₀ =
    ap (drop n) e
    ∙ ap (λ (j : ℕ). drop j (slice k n l₀ ++ drop (n - k) l₀)) m
    ∙ drop-append-add (slice k n l₀) (drop (n - k) l₀) k
    ∙ drop-drop k (n - k) l₀
    ∙ ap (λ (j : ℕ). drop j l₀) back in
    f
    ∙ ap (λ (t : List A). t ++ (replicate (n - (n - k)) z ++ drop n l₁)) front
    ∙ padded_part size n (n - (n - k)) z (slice k n l₀) (drop n l₁) (left ∙ rest) (omega (arith, part)) few

-- some elements in the place of fewer, with what stood behind them, are those elements padded
pub padded_over : {A : Type 0} (size n m : ℕ) (z : A) (l₀ xs : List A) → drop n l₀ ≡ replicate (size - n) z → n ≤ m → m ≤ size → length xs ≡ m → xs ++ drop m l₀ ≡ pad_to size z xs
unfolding pad_to
padded_over {A} size n m z l₀ xs rest less few long =
    let up : n + (m - n) ≡ m = omega arith in
    let f : size - n ≡ (m - n) + (size - length xs) = omega arith in
    ap (λ (t : List A). xs ++ t)
    (ap (λ (j : ℕ). drop j l₀) (sym up)
    ∙ sym (drop-drop (m - n) n l₀)
    ∙ ap (drop (m - n)) (rest ∙ ap (λ (j : ℕ). replicate j z) f ∙ sym (replicate-append-replicate (m - n) (size - length xs) z))
    ∙ drop_at (replicate (m - n) z) (replicate (size - length xs) z) (m - n) (length-replicate (m - n) z))
