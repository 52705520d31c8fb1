-- While it runs, it has found those of the entries so far that pair with the given one.
use Rattle.std.proofs.Common.{◌≡◌, length, take, filter}
use Rattle.pairing.specs.declared.Entry.{Entry}
use Rattle.pairing.specs.Pair.{pairs}
use Rattle.lent.proofs.partners.Given as goal

abbrev pub invariant-loop-e : goal.invariant-loop-e
invariant-loop-e l = l.found ≡ length (filter (λ (e : Entry). pairs l.rule l.given e) (take l.e-index l.run))
