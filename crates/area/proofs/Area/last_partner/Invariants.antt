-- While it runs, none from i on is a partner.
use Rattle.std.proofs.Common.{◌≡◌, ◌≤◌, take}
use Rattle.lists.specs.Tally.{last_place}
use Rattle.pairing.specs.declared.Numbered.{Numbered}
use Rattle.pairing.specs.Pair.{pairs}
use Rattle.area.specs.Area.{held}
use Rattle.area.proofs.Area.last_partner.Given as goal

abbrev pub invariant-loop-i : goal.invariant-loop-i
invariant-loop-i l =
    (l.i ≤ l.below) × (last_place (λ (x : Numbered). pairs l.rule l.e x.entry) (take l.below (held l.self)) ≡ last_place (λ (x : Numbered). pairs l.rule l.e x.entry) (take l.i (held l.self)))
