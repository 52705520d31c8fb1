-- The contract of each public function allows one answer, one progress and one content of the buffer that it is lent.
use Prim.Native.Nat.{ℕ}
use mathlib.Core.List.{List}
use Rattle.unique.specs.Unique.{OneResult, OneOutcome}
use Rattle.unique.proofs.Equation.{one_by_equation, agree}
use Rattle.framing.specs.declared.Went.{Went as Answered}
use Rattle.framing.proofs.Unique.{same_went}
use Rattle.steps.specs.declared.Progress.{Progress}
use Rattle.steps.proofs.Progress.begun.Reads as begun
use Rattle.steps.proofs.Progress.step.Reads as step

one_begun : OneResult begun.Post
one_begun = one_by_equation _ _

one_step : OneOutcome {Seen = Answered × Progress × List ℕ} (λ κs r left. (r, left.0.now, left.1.1.1.1.0.now)) step.Post
one_step κs args x y left other p q =
    let e = agree p.0 q.0 in
    let same = same_went x y (λ i. (e i).went) (λ i. (e i).used) (λ i. (e i).filled) in
    λ i. (same i, (e i).progress, (e i).buffer)
