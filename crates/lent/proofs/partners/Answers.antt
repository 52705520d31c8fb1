-- No more are found than entries were looked at.
use Rattle.std.proofs.Common.{arith}
use Rattle.lists.proofs.Filter.{filter_bound}
use Rattle.pairing.specs.declared.Entry.{Entry}
use Rattle.pairing.specs.Pair.{pairs}
use Rattle.lent.proofs.partners.Goals as goal

pub overflow_add-found : goal.overflow_add-found
overflow_add-found c =
    record { fits = omega (arith, filter_bound (λ (e : Entry). pairs c.args.rule c.args.given e) c.args.run.now c.loop-e.e-index) }
