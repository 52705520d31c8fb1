-- The contract of `step_on` allows one answer, one progress and one content of the buffer that it is lent. What `join_input` answers is how its reads and writes went, which no contract determines: it is an exception.
use Prim.Native.Nat.{ℕ}
use mathlib.Core.List.{List}
use Rattle.unique.specs.Unique.{OneOutcome}
use Rattle.unique.proofs.Equation.{agree}
use Rattle.framing.specs.declared.Went.{Went as Answered}
use Rattle.framing.proofs.Parts.{both_parts}
use Rattle.framing.proofs.Unique.{same_went}
use Rattle.steps.specs.declared.Progress.{Progress}
use Rattle.feed_stream.proofs.step_on.Reads as step-on

one_step_on : OneOutcome {Seen = Answered × Progress × List ℕ} (λ κs r left. (r, left.0.now, left.1.1.1.0.now)) step-on.Post
one_step_on κs args x y left other p q =
    let e = agree p.1.1.0 q.1.1.0 in
    let same = same_went x y (λ i. (e i).went) (λ i. (e i).used) (λ i. (e i).filled) in
    let out = both_parts args.1.0.now.filled _ _ (agree p.1.1.1 q.1.1.1) (λ i. (e i).buffer) in
    λ i. (same i, (e i).progress, out i)
