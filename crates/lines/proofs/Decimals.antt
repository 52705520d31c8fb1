-- Laws of `decimal`: how many digits a number has, and which.
use Prim.Native.Nat.{ℕ, zero, suc, ◌/◌, ◌^◌, ◌≤◌, ◌<◌}
use native.Mathlib.Nat.{pow-suc, one-le-pow, le-div_iff_mul-le, div-lt_iff_lt-mul}
use native.Mathlib.Omega.{arith}
use mathlib.Core.Bool.{Bool, true, false, cond}
use mathlib.Core.List.{List, [], ◌∷◌, ◌++◌}
use mathlib.Core.Path.{◌≡◌, refl, sym, ap, ◌∙◌}
use lib.Dec.{ltb, lit<}
use lib.ListN.{length, length-append}
use borrow.Author.Tests.{ltb-true, ltb-false, le-ltb}
use Rattle.lines.specs.Decimal.{last_digit, decimal_in, decimal}

length_more : (ds : List ℕ) (d : ℕ) → length (ds ++ (d ∷ [])) ≡ suc (length ds)
length_more ds d = simp length-append (omega arith)

-- ---- which digits

-- the last k digits of a number
abbrev pub last_digits : ℕ → ℕ → List ℕ
last_digits zero n = []
last_digits (suc k) n = last_digits k (n / 10) ++ (last_digit n ∷ [])

pub length_last_digits : (k n : ℕ) → length (last_digits k n) ≡ k
length_last_digits zero n = refl
length_last_digits (suc k) n = length_more (last_digits k (n / 10)) (last_digit n) ∙ ap suc (length_last_digits k (n / 10))

decimal_in_last : (m n : ℕ) → decimal_in m n ≡ last_digits (length (decimal_in m n)) n
decimal_in_last zero n = refl
decimal_in_last (suc m) n = go (ltb n 10) (decimal_in_last m (n / 10))
  where
    go : (small : Bool) → decimal_in m (n / 10) ≡ last_digits (length (decimal_in m (n / 10))) (n / 10)
        → cond small [] (decimal_in m (n / 10)) ++ (last_digit n ∷ []) ≡ last_digits (length (cond small [] (decimal_in m (n / 10)) ++ (last_digit n ∷ []))) n
    go true e = refl
    go false e = ap (λ (ds : List ℕ). ds ++ (last_digit n ∷ [])) e ∙ ap (λ (k : ℕ). last_digits k n) (sym (length_more (decimal_in m (n / 10)) (last_digit n)))

-- a number's digits are as many of its last digits
pub decimal_last : (n : ℕ) → decimal n ≡ last_digits (length (decimal n)) n
unfolding decimal
decimal_last n = decimal_in_last 20 n

-- ---- how many digits

pub decimal_some : (n : ℕ) → 0 < length (decimal n)
unfolding decimal
decimal_some n = rw (length_more (cond (ltb n 10) [] (decimal_in 19 (n / 10))) (last_digit n)) (omega arith)

decimal_in_few : (m k n : ℕ) → n < 10 ^ suc k → length (decimal_in m n) ≤ suc k
decimal_in_few zero k n h = omega arith
decimal_in_few (suc m) k n h = go (ltb n 10) refl (λ j. decimal_in_few m j (n / 10))
  where
    longer : (j : ℕ) → n < 10 ^ suc j → 10 ≤ n → ((j : ℕ) → n / 10 < 10 ^ suc j → length (decimal_in m (n / 10)) ≤ suc j) → length (decimal_in m (n / 10)) ≤ j
    longer zero h big less = absurd (omega arith)
    longer (suc j) h big less = less j ((div-lt_iff_lt-mul (lit< tt)).1 (rw pow-suc at h))

    go : (small : Bool) → ltb n 10 ≡ small → ((j : ℕ) → n / 10 < 10 ^ suc j → length (decimal_in m (n / 10)) ≤ suc j) → length (cond small [] (decimal_in m (n / 10)) ++ (last_digit n ∷ [])) ≤ suc k
    go true e less = omega arith
    go false e less = simp length-append (omega (arith, longer k h (ltb-false n 10 e) less))

decimal_in_many : (m k n : ℕ) → k < m → 10 ^ k ≤ n → k < length (decimal_in m n)
decimal_in_many zero k n less h = absurd (omega arith)
decimal_in_many (suc m) zero n less h = simp length-append (omega arith)
decimal_in_many (suc m) (suc k) n less h =
    let tenth : 10 ^ k ≤ n / 10 = (le-div_iff_mul-le (lit< tt)).1 (rw pow-suc at h) in
    let big : 10 ≤ n = omega (arith, one-le-pow k 10 (lit< tt)) in
    let more = decimal_in_many m k (n / 10) (omega arith) tenth in
    rw (le-ltb n 10 big) (simp length-append (omega arith))

-- below ten to the power k at most k
pub decimal_few : (n k : ℕ) → n < 10 ^ k → 0 < k → length (decimal n) ≤ k
unfolding decimal
decimal_few n zero h some = absurd (omega arith)
decimal_few n (suc k) h some = decimal_in_few 20 k n h

-- from ten to the power k on more than k
pub decimal_many : (n k : ℕ) → k < 20 → 10 ^ k ≤ n → k < length (decimal n)
unfolding decimal
decimal_many n k less h = decimal_in_many 20 k n less h

decimal_in_below : (m n : ℕ) → n < 10 ^ m → n < 10 ^ length (decimal_in m n)
decimal_in_below zero n h = h
decimal_in_below (suc m) n h = go (ltb n 10) refl (decimal_in_below m (n / 10) ((div-lt_iff_lt-mul (lit< tt)).1 (rw pow-suc at h)))
  where
    go : (small : Bool) → ltb n 10 ≡ small → n / 10 < 10 ^ length (decimal_in m (n / 10)) → n < 10 ^ length (cond small [] (decimal_in m (n / 10)) ++ (last_digit n ∷ []))
    go true e less = ltb-true n 10 e
    go false e less = rw (length_more (decimal_in m (n / 10)) (last_digit n), pow-suc) ((div-lt_iff_lt-mul (lit< tt)).0 less)

-- a number is below ten to the power of its digits, if 20 are enough
pub decimal_below : (n : ℕ) → n < 10 ^ 20 → n < 10 ^ length (decimal n)
unfolding decimal
decimal_below n h = decimal_in_below 20 n h
