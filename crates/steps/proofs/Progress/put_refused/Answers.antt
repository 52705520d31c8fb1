-- `put_refused` meets its contract: there is room for a last line.
use Rattle.std.proofs.Common.{arith, ◌∙◌}
use Rattle.steps.specs.Printed.{refused_line}
use Rattle.steps.proofs.Lines.{last_few}
use Rattle.steps.proofs.Progress.put_refused.Goals as goal

pub put_last-requires : goal.put_last-requires
put_last-requires c =
    (omega arith, omega (arith, last_few c.from.result c.from-2.result (omega (arith, c.from.ensures)) (omega (arith, c.from-2.ensures))))

pub returns : goal.returns
unfolding refused_line
returns c = rw (c.from.ensures ∙ c.number.ensures, c.from-2.ensures) at c.put_last.ensures
