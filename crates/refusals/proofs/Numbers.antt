-- A number tells its refusal.
use Rattle.std.proofs.Common.{ℕ, ◌≡◌, refl, sym, ap, ◌∙◌, cond, eqb}
use Rattle.refusals.specs.declared.Refusal.{Refusal}
use Rattle.refusals.specs.declared.Refusal.TheVariants.{Stream, Closed, Improper, Behind, Spent, AreaFull, QueueFull, Unsound, Cut, Length, Kind, Buffer, NoAngle}
use Rattle.refusals.specs.Table.{number_of}

-- the refusal of a number
refusal_of : ℕ → Refusal
refusal_of n =
    cond (eqb n 1) Stream (cond (eqb n 2) Closed (cond (eqb n 3) Improper (cond (eqb n 4) Behind (cond (eqb n 5) Spent
    (cond (eqb n 6) AreaFull (cond (eqb n 7) QueueFull (cond (eqb n 8) Unsound (cond (eqb n 9) Cut (cond (eqb n 10) Length
    (cond (eqb n 11) Kind (cond (eqb n 12) Buffer NoAngle)))))))))))

told_by_number : (r : Refusal) → refusal_of (number_of r) ≡ r
unfolding refusal_of
told_by_number Stream = refl
told_by_number Closed = refl
told_by_number Improper = refl
told_by_number Behind = refl
told_by_number Spent = refl
told_by_number AreaFull = refl
told_by_number QueueFull = refl
told_by_number Unsound = refl
told_by_number Cut = refl
told_by_number Length = refl
told_by_number Kind = refl
told_by_number Buffer = refl
told_by_number NoAngle = refl

pub same_number : (r s : Refusal) → number_of r ≡ number_of s → r ≡ s
same_number r s e = sym (told_by_number r) ∙ ap refusal_of e ∙ told_by_number s
