-- From `high` on all come after p, and the place that the next turn asks stands in front of `high`. The measure is how far it may still go back.
use Prim.Native.Nat.{◌+◌, ◌*◌, ◌≤◌, ◌<◌}
use mathlib.Core.Bool.{false}
use mathlib.Core.Path.{◌≡◌}
use lib.ListN.{take}
use Rattle.std.proofs.Common.{◌-◌}
use Rattle.std.specs.List.{AllWithin}
use Rattle.lists.proofs.Merge.{below}
use Rattle.pairing.specs.Pair.{comes_before}
use Rattle.queue.proofs.Queue.place_of.Given as goal

abbrev pub invariant-loop-back : goal.invariant-loop-back
invariant-loop-back l =
    (0 < l.back) × ((l.back ≤ 2 * l.w + 1) × ((l.high ≤ l.w) × ((l.w < l.high + l.back) × AllWithin (λ q. below comes_before l.p q ≡ false) (take l.w l.self.places) l.high l.w)))

abbrev pub decreases-loop-back : goal.decreases-loop-back
decreases-loop-back l = l.w + 1 - l.back
