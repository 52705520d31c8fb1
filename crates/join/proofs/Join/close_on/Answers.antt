-- `close_on` meets its contract: a close of A empties B's area, one of B empties A's.
use Rattle.std.proofs.Common.{sym, ap, ◌∙◌}
use Rattle.pairing.specs.declared.Side.{Side}
use Rattle.pairing.specs.declared.Side.TheVariants.{A, B}
use Rattle.join.specs.Calls.{with_queue, close_on}
use Rattle.join.proofs.Laws.{close_called}
use Rattle.join.proofs.Join.close_on.Goals as goal

pub returns-in-A-clause-answer : goal.returns-in-A-clause-answer
returns-in-A-clause-answer c =
    λ queue q.
    let t = with_queue queue c.args.self.now in
    close_called A t _ c.requires.0 q _ _ c.close.ensures.answer c.close.ensures.own c.close.ensures.other ∙ ap (λ (x : Side). close_on t x) (sym c.in-A.is)

pub returns-in-B-clause-answer : goal.returns-in-B-clause-answer
returns-in-B-clause-answer c =
    λ queue q.
    let t = with_queue queue c.args.self.now in
    close_called B t _ c.requires.1 q _ _ c.close-in-B.ensures.answer c.close-in-B.ensures.own c.close-in-B.ensures.other ∙ ap (λ (x : Side). close_on t x) (sym c.in-B.is)
