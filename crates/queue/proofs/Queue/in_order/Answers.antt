-- `in_order` meets its contract.
use borrow.Author.Rules.{rules}
use mathlib.Core.Path.{ap, ◌∙◌}
use Rattle.lists.specs.Judge.{chain}
use Rattle.lists.proofs.Judge.{chain_sorted}
use Rattle.pairing.specs.Pair.{comes_before}
use Rattle.queue.proofs.Queue.in_order.Goals as goal

pub returns : goal.returns
returns c =
    chain_sorted comes_before c.waiting.result.now c.is_sorted_by.result c.is_sorted_by.ensures.cases (λ f a b f' k. search rules) ∙ ap (chain comes_before) c.waiting.ensures
