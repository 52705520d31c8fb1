-- `fresh` meets its contract: zeros in every place.
use mathlib.Core.Path.{ap}
use lib.ListN.{replicate}
use Rattle.lists.specs.Store.{pad_to}
use Rattle.pairing.specs.declared.Numbered.{Numbered}
use Rattle.area.specs.declared.Area.{Area}
use Rattle.area.proofs.Laws.{none_default}
use Rattle.area.proofs.Area.fresh.Goals as goal

pub returns : goal.returns
unfolding pad_to
returns c = ap {B = Area} (λ (x : Numbered). record { count = 0; places = replicate 64 x }) (none_default c.default.result c.default.ensures)
