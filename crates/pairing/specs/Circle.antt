-- Near keys lie on a circle: what makes the distance of keys below 36,000 that of angles.
use Rattle.std.specs.Prelude.{ℕ, ◌+◌, ◌%◌, ◌<◌, ◌≤◌, ◌≡◌}
use Rattle.pairing.specs.Rule.{whole_turn, distance}

-- a key turned by an angle
abbrev pub turned_by : ℕ → ℕ → ℕ
turned_by angle key = (key + angle) % whole_turn

pub record Circle : Type 0 where
  -- the distance is the same either way round
  pub either_way : (key other : ℕ) → distance key other ≡ distance other key
  -- at most 18,000, which is half a turn
  pub half_turn : (key other : ℕ) → key < whole_turn → other < whole_turn → distance key other ≤ 18000
  -- 0 exactly for equal keys
  pub to_itself : (key : ℕ) → distance key key ≡ 0
  pub only_to_itself : (key other : ℕ) → key < whole_turn → other < whole_turn → distance key other ≡ 0 → key ≡ other
  -- at most the sum over a third key
  pub over_third : (key other third : ℕ) → key < whole_turn → other < whole_turn → third < whole_turn → distance key other ≤ distance key third + distance third other
  -- and turning both keys by the same angle leaves it
  pub turned : (angle key other : ℕ) → key < whole_turn → other < whole_turn → distance (turned_by angle key) (turned_by angle other) ≡ distance key other
