-- The contract of each public function allows one content of the buffer, and one place behind what is put.
use mathlib.Core.List.{List}
use Prim.Native.Nat.{ℕ}
use Rattle.unique.specs.Unique.{OneOutcome}
use Rattle.unique.proofs.Equation.{outcome_by_equation, agree_both}
use Rattle.lines.proofs.put_text.Reads as put-text
use Rattle.lines.proofs.put_number.Reads as put-number
use Rattle.lines.proofs.put_line.Reads as put-line

one_put_text : OneOutcome {Seen = List ℕ} (λ κs nothing left. left.0.now) put-text.Post
one_put_text = outcome_by_equation _ _

one_put_number : OneOutcome {Seen = ℕ × List ℕ} (λ κs place left. (place, left.0.now)) put-number.Post
one_put_number κs args x y left other p q = agree_both p q

one_put_line : OneOutcome {Seen = ℕ × List ℕ} (λ κs place left. (place, left.0.now)) put-line.Post
one_put_line κs args x y left other p q = agree_both p q
