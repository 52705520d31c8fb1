-- `is_spare` meets its contract: no pair is zero in every number.
use mathlib.Core.Bool.{and_assoc, and-true}
use mathlib.Core.Path.{◌∙◌}
use Rattle.pairing.specs.Numbers.{pair_numbers}
use Rattle.queue.proofs.Laws.{by_numbers}
use Rattle.queue.proofs.is_spare.Goals as goal

pub returns : goal.returns
unfolding pair_numbers
returns c =
    let z = c.default.ensures in
    c.eq.ensures ∙ rw (z.0.0, z.0.1, z.1.0.0, z.1.0.1.0, z.1.0.1.1, z.1.1.0, z.1.1.1.0, z.1.1.1.1, by_numbers) (simp (and_assoc, and-true))
