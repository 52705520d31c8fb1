-- While it runs, the pairs of the held entries from i on are in their places; `left` new pairs and w waiting ones are not yet.
use mathlib.Core.Path.{◌≡◌}
use Rattle.lists.proofs.Merge.{Merging}
use Rattle.pairing.specs.Pair.{comes_before}
use Rattle.pairing.specs.Side.{pair_from}
use Rattle.pairing.proofs.Arrival.{pairing}
use Rattle.area.specs.Area as area
use Rattle.queue.proofs.Queue.merge.Given as goal

abbrev pub invariant-loop-left : goal.invariant-loop-left
invariant-loop-left l =
    (l.self.count ≡ l.initial.self.count) × Merging (pair_from l.side l.x) (pairing l.rule l.x) comes_before (area.held l.area) l.initial.self.places l.initial.w l.self.places l.i l.w l.left
