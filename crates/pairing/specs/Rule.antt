-- The pairing rule is one of three: equal keys; near keys with a width; every couple.
use Rattle.std.specs.Prelude.{ℕ, ◌-◌, min, max, Bool, true, ◌&&◌, ltb, leb, eqb}
use Rattle.pairing.specs.declared.Rule.{Rule}
use Rattle.pairing.specs.declared.Rule.TheVariants.{Equal, Near, Every}

-- Near keys are angles in hundredths of a degree, so that 36,000 are a whole turn.
abbrev pub whole_turn : ℕ
whole_turn = 36000

-- the larger key less the smaller
unfoldable pub difference : ℕ → ℕ → ℕ
difference key other = max key other - min key other

-- Under near the distance is the smaller of the difference and 36,000 less the difference.
unfoldable pub distance : ℕ → ℕ → ℕ
distance key other = min (difference key other) (whole_turn - difference key other)

-- The keys that a rule allows: near those below 36,000, the other rules any.
unfoldable pub allows : Rule → ℕ → Bool
allows Equal key = true
allows (Near width) key = ltb key whole_turn
allows Every key = true

-- The rule holds for two keys. Near means that their distance is at most the width; a key of 36,000 or more pairs with nothing under near.
unfoldable pub fits : Rule → ℕ → ℕ → Bool
fits Equal key other = eqb key other
fits (Near width) key other = allows (Near width) key && (allows (Near width) other && leb (distance key other) width)
fits Every key other = true
