-- While it runs, the first `kept` entries are the wanted ones of the first i, and those from i on are as they were.
use Rattle.std.proofs.Common.{◌≡◌}
use Rattle.std.proofs.lemmas.List.Filters.{FiltersInPlace}
use Rattle.journal.specs.Journal.{wanted}
use Rattle.pairing.specs.declared.Numbered.{Numbered}
use Rattle.area.proofs.Area.squeeze.Given as goal

abbrev pub invariant-loop-i : goal.invariant-loop-i
invariant-loop-i l = (l.self.count ≡ l.initial.self.count) × FiltersInPlace (λ (x : Numbered). wanted l.gate x.entry) l.initial.self.places l.self.places l.kept l.i
