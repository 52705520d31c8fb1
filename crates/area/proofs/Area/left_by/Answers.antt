-- No more are counted than entries were looked at.
use Rattle.std.proofs.Common.{arith}
use Rattle.lists.proofs.Filter.{filter_bound}
use Rattle.pairing.specs.declared.Numbered.{Numbered}
use Rattle.journal.specs.Journal.{wanted}
use Rattle.area.specs.Area.{held}
use Rattle.area.proofs.Area.left_by.Goals as goal

pub overflow_add-left : goal.overflow_add-left
overflow_add-left c =
    record { fits = omega (arith, filter_bound (λ (x : Numbered). wanted c.args.gate x.entry) (held c.args.self.now) c.loop-x.x-index) }
