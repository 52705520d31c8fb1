-- The contract of each public function allows one result.
use Rattle.unique.specs.Unique.{OneResult}
use Rattle.unique.proofs.Equation.{one_by_equation, one_by_reading}
use Rattle.journal.proofs.Answers.{same_answer, same_mark}
use Rattle.journal.proofs.Gate.wants.Reads as wants
use Rattle.journal.proofs.Gate.passed.Reads as passed
use Rattle.journal.proofs.Gate.reached.Reads as reached
use Rattle.journal.proofs.Gate.closed.Reads as closed
use Rattle.journal.proofs.Gate.behind.Reads as behind
use Rattle.journal.proofs.Journal.fresh.Reads as fresh
use Rattle.journal.proofs.Journal.to.Reads as to
use Rattle.journal.proofs.Journal.with.Reads as with
use Rattle.journal.proofs.Journal.own_answer.Reads as own-answer
use Rattle.journal.proofs.Journal.mark.Reads as mark

one_wants : OneResult wants.Post
one_wants = one_by_equation _ _

one_passed : OneResult passed.Post
one_passed = one_by_equation _ _

one_reached : OneResult reached.Post
one_reached = one_by_equation _ _

one_closed : OneResult closed.Post
one_closed = one_by_equation _ _

one_behind : OneResult behind.Post
one_behind = one_by_equation _ _

one_fresh : OneResult fresh.Post
one_fresh = one_by_equation _ _

one_to : OneResult to.Post
one_to = one_by_equation _ _

one_with : OneResult with.Post
one_with = one_by_equation _ _

one_own_answer : OneResult own-answer.Post
one_own_answer = one_by_reading _ _ _ (λ κs args x y e. same_answer x y e)

one_mark : OneResult mark.Post
one_mark = one_by_reading _ _ _ (λ κs args x y e. same_mark _ x y e)
