-- Numbers stand in a line in their order, one space apart.
use Rattle.std.specs.Prelude.{ℕ, List, [], ◌∷◌, ◌++◌}
use Rattle.lines.specs.Decimal.{decimal}

-- numbers, one space (32) apart, and a line end (10) behind the last
unfoldable pub line : List ℕ → List ℕ
line [] = 10 ∷ []
line (n ∷ []) = decimal n ++ (10 ∷ [])
line (n ∷ m ∷ ns) = decimal n ++ (32 ∷ line (m ∷ ns))

-- the bytes of a field, at most: a number of 32 bits has at most 10 digits, and one byte stands behind it
abbrev pub field : ℕ
field = 11
