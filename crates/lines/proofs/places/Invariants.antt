-- The invariant of its loop: the limit is ten to the power before k, and the number has at least k digits.
use Prim.Native.Nat.{◌-◌, ◌^◌, ◌≤◌}
use mathlib.Core.Path.{◌≡◌}
use lib.ListN.{length}
use Rattle.lines.specs.Decimal.{decimal}
use Rattle.lines.proofs.places.Given as goal

abbrev pub invariant-loop-k : goal.invariant-loop-k
invariant-loop-k l = (l.limit ≡ 10 ^ (l.k - 1)) × (l.k ≤ length (decimal l.n))
