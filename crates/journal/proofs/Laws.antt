-- Laws of gates.
use Prim.Native.Nat.{ℕ, ◌≤◌}
use native.Mathlib.Omega.{arith}
use mathlib.Core.Bool.{true}
use mathlib.Core.Path.{◌≡◌, refl}
use borrow.Author.Tests.{ltb-true, lt-ltb}
use Rattle.journal.specs.declared.Gate.{Gate}
use Rattle.journal.specs.declared.Gate.TheVariants.{Open, Closed}
use Rattle.journal.specs.Journal.{below}

-- an instant before one that a clock has passed has been passed too
pub below_down : (gate : Gate) (t u : ℕ) → t ≤ u → below gate u ≡ true → below gate t ≡ true
below_down (Open clock) t u h e = lt-ltb t clock (omega (arith, ltb-true u clock e))
below_down Closed t u h e = refl
