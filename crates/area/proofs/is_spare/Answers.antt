-- `is_spare` meets its contract: no entry is zero in every number.
use mathlib.Core.Bool.{and_assoc, and-true}
use mathlib.Core.Path.{◌∙◌}
use Rattle.area.specs.Area.{entry_numbers}
use Rattle.area.proofs.is_spare.Goals as goal

pub returns : goal.returns
unfolding entry_numbers
returns c =
    let z = c.default.ensures in
    c.eq.ensures ∙ rw (z.0.0.0, z.0.0.1, z.0.1.0, z.0.1.1, z.1) (simp (and_assoc, and-true))
