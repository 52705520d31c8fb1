-- While it runs, it has counted those of the entries so far that the gate wants.
use Rattle.std.proofs.Common.{◌≡◌, length, take}
use Rattle.area.specs.Area.{held, wanted_by}
use Rattle.area.proofs.Area.left_by.Given as goal

abbrev pub invariant-loop-x : goal.invariant-loop-x
invariant-loop-x l = l.left ≡ length (wanted_by l.gate (take l.x-index (held l.self)))
