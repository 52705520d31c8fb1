-- The distance of near keys is that of angles on a circle.
use Prim.Native.Nat.{ℕ, ◌+◌, ◌-◌, ◌*◌, ◌%◌, ◌<◌, ◌≤◌, min, max}
use native.Mathlib.Omega.{arith}
use mathlib.Core.Bool.{Bool, true, false, ◌&&◌}
use mathlib.Core.Path.{◌≡◌, refl, sym, ap, ◌∙◌}
use lib.Dec.{ltb}
use borrow.Author.Tests.{ltb-true}
use Rattle.lists.proofs.Order.{Compared, less, equal, more, compared}
use Rattle.pairing.specs.Rule.{whole_turn, difference, distance}
use Rattle.pairing.specs.Circle.{turned_by, Circle}

-- the distance is that of the difference, whichever way round that is taken
module _ (key other key' other' : ℕ) where
  distance_same : difference key' other' ≡ difference key other → distance key' other' ≡ distance key other
  unfolding distance
  distance_same e = ap (λ (n : ℕ). min n (whole_turn - n)) e

  distance_around : difference key' other' + difference key other ≡ whole_turn → distance key' other' ≡ distance key other
  unfolding distance
  distance_around e = omega arith

pub distance_comm : (key other : ℕ) → distance key other ≡ distance other key
unfolding difference
distance_comm key other = distance_same other key key other (omega arith)

distance_half : (key other : ℕ) → key < whole_turn → other < whole_turn → distance key other ≤ 18000
unfolding difference distance
distance_half key other k o = omega arith

distance_self : (key : ℕ) → distance key key ≡ 0
unfolding difference distance
distance_self key = omega arith

distance_zero : (key other : ℕ) → key < whole_turn → other < whole_turn → distance key other ≡ 0 → key ≡ other
unfolding difference distance
distance_zero key other k o e = omega arith

-- keys are angles where the larger of them is
pub past_turn : (key other : ℕ) (near : Bool) → whole_turn ≤ max key other → ltb key whole_turn && (ltb other whole_turn && near) ≡ false
past_turn key other near h = go (ltb key whole_turn) (ltb other whole_turn) refl refl
  where
    go : (k o : Bool) → ltb key whole_turn ≡ k → ltb other whole_turn ≡ o → k && (o && near) ≡ false
    go false o e f = refl
    go true false e f = refl
    go true true e f = absurd (omega (arith, ltb-true key whole_turn e, ltb-true other whole_turn f))

-- ---- turning

-- a turn by less than a whole one passes 0 or it does not
data Turned (angle key turned : ℕ) : Type 0 where
  within : turned < whole_turn → turned ≡ key + angle → Turned angle key turned
  past : turned + whole_turn ≡ key + angle → Turned angle key turned

turning : (angle key : ℕ) → key < whole_turn → Turned (angle % whole_turn) key (turned_by angle key)
turning angle key k = go (compared (key + angle % whole_turn) whole_turn)
  where
    go : Compared (key + angle % whole_turn) whole_turn → Turned (angle % whole_turn) key (turned_by angle key)
    go (less l) = within (omega arith) (omega arith)
    go (equal e) = past (omega arith)
    go (more m) = past (omega arith)

distance_turned : (angle key other : ℕ) → key < whole_turn → other < whole_turn → distance (turned_by angle key) (turned_by angle other) ≡ distance key other
unfolding difference
distance_turned angle key other k o = go (turned_by angle key) (turned_by angle other) (angle % whole_turn) (turning angle key k) (turning angle other o)
  where
    go : (key' other' by : ℕ) → Turned by key key' → Turned by other other' → distance key' other' ≡ distance key other
    go key' other' by (within l p) (within m q) = distance_same key other key' other' (omega arith)
    go key' other' by (within l p) (past q) = distance_around key other key' other' (omega arith)
    go key' other' by (past p) (within m q) = distance_around key other key' other' (omega arith)
    go key' other' by (past p) (past q) = distance_same key other key' other' (omega arith)

-- ---- a third angle

-- of three differences none is above the sum of the others, and all together go round twice at most
sides : (x y z : ℕ) → x ≤ y + z → y ≤ z + x → z ≤ x + y → x + y + z ≤ 2 * whole_turn → min x (whole_turn - x) ≤ min y (whole_turn - y) + min z (whole_turn - z)
sides x y z l m n r = omega arith

difference_to_0 : (key : ℕ) → difference key 0 ≡ key
unfolding difference
difference_to_0 key = omega arith

distance_over_0 : (key other : ℕ) → key < whole_turn → other < whole_turn → distance key other ≤ distance key 0 + distance other 0
unfolding difference distance
distance_over_0 key other k o =
    rw (difference_to_0 key, difference_to_0 other) (sides (difference key other) key other (omega arith) (omega arith) (omega arith) (omega arith))

-- the third angle is turned to 0
distance_third : (key other third : ℕ) → key < whole_turn → other < whole_turn → third < whole_turn → distance key other ≤ distance key third + distance third other
distance_third key other third k o t =
    let by = whole_turn - third in
    let zero : turned_by by third ≡ 0 = omega arith in
    let to-0 : (angle : ℕ) → angle < whole_turn → distance angle third ≡ distance (turned_by by angle) 0 = λ angle a. sym (distance_turned by angle third a t) ∙ ap (distance (turned_by by angle)) zero in
    omega (
      arith,
      distance_over_0 (turned_by by key) (turned_by by other) (omega arith) (omega arith),
      distance_turned by key other k o,
      to-0 key k,
      distance_comm third other ∙ to-0 other o,
    )

pub circle : Circle
circle = record {
  either_way = distance_comm;
  half_turn = distance_half;
  to_itself = distance_self;
  only_to_itself = distance_zero;
  over_third = distance_third;
  turned = distance_turned;
}
