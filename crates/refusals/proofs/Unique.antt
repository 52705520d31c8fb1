-- The contract of the public function allows one result.
use Rattle.unique.specs.Unique.{OneResult}
use Rattle.unique.proofs.Equation.{one_by_equation}
use Rattle.refusals.proofs.Refusal.number.Reads as number

one_number : OneResult number.Post
one_number = one_by_equation _ _
