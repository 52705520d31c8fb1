-- `held_count` meets its contract: the area counts what it holds, and `answer` judges the given entry.
use Rattle.std.proofs.Common.{rules}
use Rattle.lent.proofs.Laws.{counted_within}
use Rattle.lent.proofs.held_count.Goals as goal

pub returns : goal.returns
returns c =
    rw (c.answer.ensures, c.partners.ensures) (counted_within c.args.rule c.args.given c.args.area c.min.result (search rules) c.min.ensures)
