-- `mark_on` meets its contract: a mark of A moves A's gate and clears B's area, one of B the other way round.
use Rattle.std.proofs.Common.{sym, ap, ◌∙◌}
use Rattle.pairing.specs.declared.Side.{Side}
use Rattle.pairing.specs.declared.Side.TheVariants.{A, B}
use Rattle.join.specs.Calls.{with_queue, mark_on}
use Rattle.join.proofs.Laws.{mark_called}
use Rattle.join.proofs.Join.mark_on.Goals as goal

pub returns-in-A-clause-answer : goal.returns-in-A-clause-answer
returns-in-A-clause-answer c =
    λ queue q.
    let t = with_queue queue c.args.self.now in
    mark_called A t _ c.requires.0 q _ _ c.args.time c.mark.ensures.answer c.mark.ensures.own c.mark.ensures.other ∙ ap (λ (x : Side). mark_on t x c.args.time) (sym c.in-A.is)

pub returns-in-B-clause-answer : goal.returns-in-B-clause-answer
returns-in-B-clause-answer c =
    λ queue q.
    let t = with_queue queue c.args.self.now in
    mark_called B t _ c.requires.1 q _ _ c.args.time c.mark-in-B.ensures.answer c.mark-in-B.ensures.own c.mark-in-B.ensures.other ∙ ap (λ (x : Side). mark_on t x c.args.time) (sym c.in-B.is)
