-- A number in decimal: ASCII digits, the greatest first, no zero in front.
use Rattle.std.specs.Prelude.{ℕ, zero, suc, ◌+◌, ◌/◌, ◌%◌, cond, List, [], ◌∷◌, ◌++◌, ltb}

-- the last digit of a number, in ASCII
abbrev pub last_digit : ℕ → ℕ
last_digit n = 48 + n % 10

-- the digits of a number, the last behind those of its tenth; at most so many
abbrev pub decimal_in : ℕ → ℕ → List ℕ
decimal_in zero n = []
decimal_in (suc k) n = cond (ltb n 10) [] (decimal_in k (n / 10)) ++ (last_digit n ∷ [])

-- a 64-bit number has at most 20 digits
unfoldable pub decimal : ℕ → List ℕ
decimal n = decimal_in 20 n
