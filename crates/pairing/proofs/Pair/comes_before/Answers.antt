-- `comes_before` meets its contract: the first number in which the ranks differ decides.
use Rattle.std.proofs.Common.{◌∙◌}
use Rattle.pairing.proofs.Rank.{rank_before}
use Rattle.pairing.proofs.Pair.comes_before.Goals as goal

pub returns : goal.returns
returns c = c.lt.ensures ∙ rw (c.rank.ensures, c.rank-2.ensures) (rank_before c.args.self c.args.other)
