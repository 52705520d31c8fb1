-- The contract of each public function allows one result.
use Rattle.unique.specs.Unique.{OneResult}
use Rattle.unique.proofs.Equation.{one_by_equation}
use Rattle.interval.proofs.Interval.holds.Reads as holds
use Rattle.interval.proofs.Interval.proper.Reads as proper
use Rattle.interval.proofs.Interval.length.Reads as length
use Rattle.interval.proofs.Interval.meeting.Reads as meeting

one_holds : OneResult holds.Post
one_holds = one_by_equation _ _

one_proper : OneResult proper.Post
one_proper = one_by_equation _ _

one_length : OneResult length.Post
one_length = one_by_equation _ _

one_meeting : OneResult meeting.Post
one_meeting = one_by_equation _ _
