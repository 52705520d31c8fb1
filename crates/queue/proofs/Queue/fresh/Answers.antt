-- `fresh` meets its contract: zeros in every place.
use mathlib.Core.Path.{ap}
use lib.ListN.{replicate}
use Rattle.lists.specs.Store.{pad_to}
use Rattle.pairing.specs.declared.Pair.{Pair}
use Rattle.queue.specs.declared.Queue.{Queue}
use Rattle.queue.proofs.Laws.{none_default}
use Rattle.queue.proofs.Queue.fresh.Goals as goal

pub returns : goal.returns
unfolding pad_to
returns c = ap {B = Queue} (λ (p : Pair). record { count = 0; places = replicate 256 p }) (none_default c.default.result c.default.ensures)
