-- The contract of `begun` allows one result, and that of `go_on` one where no write fails. What a read brings is not determined, so `refill` is an exception, and `finish` answers nothing.
use denote.RattleType.{RattleType}
use denote.Param.Laws.{Laws}
use mir.Syntax.{Dict}
use Rattle.std.proofs.Common.{Ok, Err, IsOk, ap}
use Rattle.std.proofs.lemmas.Bool.{false≢true}
use Rattle.std.specs.declared.io.traits.Write.{Ghosts}
use Rattle.unique.specs.Unique.{OneResult}
use Rattle.unique.proofs.Equation.{one_by_equation, agree}
use Rattle.pipe.proofs.Flow.begun.Reads as begun
use Rattle.pipe.proofs.Flow.go_on.Reads as go_on

one_begun : OneResult begun.Post
one_begun = one_by_equation _ _

-- whatever is written to
one_go_on : (T : RattleType) (laws : Laws T) (W : Ghosts T.Denot) (dict : Dict) → OneResult (λ κs args result left. go_on.Post T laws W dict κs args result left × IsOk result)
one_go_on T laws W dict κs args (Ok x) (Ok y) left other p q = ap Ok (agree p.0.0.1 q.0.0.1)
one_go_on T laws W dict κs args (Ok x) (Err e) left other p q = absurd (false≢true q.1)
one_go_on T laws W dict κs args (Err e) y left other p q = absurd (false≢true p.1)
