-- The contract of each public function allows one answer, and one content of the halves and of the queue that it is lent.
use mathlib.Core.Path.{◌≡◌}
use Rattle.std.specs.Prelude.{Result}
use Rattle.unique.specs.Unique.{OneResult, OneOutcome}
use Rattle.unique.proofs.Equation.{one_by_reading, agree, agree_both}
use Rattle.refusals.specs.declared.Refusal.{Refusal}
use Rattle.journal.specs.Answer.{answer_of, unless_refused}
use Rattle.journal.proofs.Answers.{same_answer}
use Rattle.queue.specs.declared.Queue.{Queue}
use Rattle.halves.specs.declared.Half.{Half}
use Rattle.halves.proofs.Half.room_answer.Reads as room-answer
use Rattle.halves.proofs.Half.admit.Reads as admit
use Rattle.halves.proofs.Half.enter.Reads as enter
use Rattle.halves.proofs.Half.shift.Reads as shift
use Rattle.halves.proofs.Half.mark.Reads as mark
use Rattle.halves.proofs.Half.close.Reads as close

one_room_answer : OneResult room-answer.Post
one_room_answer = one_by_reading _ _ _ (λ κs args x y e. same_answer x y e)

one_admit : OneOutcome {Seen = Half × Half × Queue} (λ κs r left. (left.0.now, left.1.0.now, left.1.1.0.now)) admit.Post
one_admit κs args x y left other p q = let e = agree p q in λ i. ((e i).own, (e i).other, (e i).queue)

one_enter : OneOutcome {Seen = Result (Unit {0}) Refusal × Half × Half × Queue} (λ κs r left. (r, left.0.now, left.1.0.now, left.1.1.0.now)) enter.Post
one_enter κs args x y left other p q =
    let same = same_answer x y (agree p.0 q.0) in
    let e = agree (rw same at p.1) q.1 in
    λ i. (same i, (e i).own, (e i).other, (e i).queue)

one_shift : OneOutcome {Seen = Half × Half} (λ κs r left. (left.0.now, left.1.0.now)) shift.Post
one_shift κs args x y left other p q = agree_both p q

-- what a mark and a close leave is told by what they are answered
one_moved : (x y : Result (Unit {0}) Refusal) (after before : Half) (after' before' : Half) (m n m' n' : Half) → x ≡ y
    → (m ≡ unless_refused (answer_of x) after before) × (n ≡ unless_refused (answer_of x) after' before') → (m' ≡ unless_refused (answer_of y) after before) × (n' ≡ unless_refused (answer_of y) after' before')
    → ◌≡◌ {A = Result (Unit {0}) Refusal × Half × Half} (x, m, n) (y, m', n')
one_moved x y after before after' before' m n m' n' same p q =
    let own = agree (rw same at p.0) q.0 in
    let others = agree (rw same at p.1) q.1 in
    λ i. (same i, own i, others i)

one_mark : OneOutcome {Seen = Result (Unit {0}) Refusal × Half × Half} (λ κs r left. (r, left.0.now, left.1.0.now)) mark.Post
one_mark κs args x y left other p q = one_moved x y _ _ _ _ _ _ _ _ (same_answer x y (agree p.0 q.0)) p.1 q.1

one_close : OneOutcome {Seen = Result (Unit {0}) Refusal × Half × Half} (λ κs r left. (r, left.0.now, left.1.0.now)) close.Post
one_close κs args x y left other p q = one_moved x y _ _ _ _ _ _ _ _ (same_answer x y (agree p.0 q.0)) p.1 q.1
