-- `numbers_in` meets its contract: each number is one of 32 bits.
use Rattle.std.proofs.Common.{arith, rules}
use Rattle.pairing.specs.Numbers.{pair_numbers}
use Rattle.lines.proofs.Lines.{line_few}
use Rattle.steps.proofs.numbers_in.Goals as goal

pub returns : goal.returns
unfolding pair_numbers
returns c =
    (search rules, line_few (pair_numbers c.args.p) (omega arith) (search rules, (search rules, (search rules, (search rules, (search rules, (search rules, (search rules, (search rules, tt)))))))))
