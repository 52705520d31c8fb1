-- `in_order` meets its contract.
use borrow.Author.Rules.{rules}
use mathlib.Core.Path.{ap, ◌∙◌}
use Rattle.lists.specs.Judge.{chain}
use Rattle.lists.proofs.Judge.{chain_sorted}
use Rattle.area.specs.Area.{follows}
use Rattle.area.proofs.Area.in_order.Goals as goal

pub returns : goal.returns
returns c =
    chain_sorted follows c.held.result.now c.is_sorted_by.result c.is_sorted_by.ensures.cases (λ f a b f' k. search rules) ∙ ap (chain follows) c.held.ensures
