-- While it runs, it has found those of the entries so far that pair with the given one.
use Rattle.std.proofs.Common.{◌≡◌, length, take, filter}
use Rattle.pairing.specs.declared.Numbered.{Numbered}
use Rattle.pairing.specs.Pair.{pairs}
use Rattle.area.specs.Area.{held}
use Rattle.area.proofs.Area.partners.Given as goal

abbrev pub invariant-loop-x : goal.invariant-loop-x
invariant-loop-x l = l.found ≡ length (filter (λ (x : Numbered). pairs l.rule l.e x.entry) (take l.x-index (held l.self)))
