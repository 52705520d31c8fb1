-- No more are found than entries were looked at.
use Rattle.std.proofs.Common.{arith}
use Rattle.lists.proofs.Filter.{filter_bound}
use Rattle.pairing.specs.declared.Numbered.{Numbered}
use Rattle.pairing.specs.Pair.{pairs}
use Rattle.area.specs.Area.{held}
use Rattle.area.proofs.Area.partners.Goals as goal

pub overflow_add-found : goal.overflow_add-found
overflow_add-found c =
    record { fits = omega (arith, filter_bound (λ (x : Numbered). pairs c.args.rule c.args.e x.entry) (held c.args.self.now) c.loop-x.x-index) }
