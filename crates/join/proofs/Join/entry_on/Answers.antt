-- `entry_on` meets its contract: an entry of A enters A's half beside B's, one of B the other way round.
use Rattle.std.proofs.Common.{sym, ap, ◌∙◌}
use Rattle.pairing.specs.declared.Side.{Side}
use Rattle.pairing.specs.declared.Side.TheVariants.{A, B}
use Rattle.join.specs.Calls.{entry_on}
use Rattle.join.proofs.Laws.{stand, entry_called}
use Rattle.join.proofs.Join.entry_on.Goals as goal

pub enter-requires : goal.enter-requires
enter-requires c = stand c.args.self.now c.requires A

pub enter-requires-in-B : goal.enter-requires-in-B
enter-requires-in-B c = stand c.args.self.now c.requires B

pub returns-in-A : goal.returns-in-A
returns-in-A c =
    entry_called A c.args.self.now _ c.args.e _ c.enter.ensures.answer c.enter.ensures.left ∙ ap (λ (x : Side). entry_on c.args.self.now x c.args.e) (sym c.in-A.is)

pub returns-in-B : goal.returns-in-B
returns-in-B c =
    entry_called B c.args.self.now _ c.args.e _ c.enter-in-B.ensures.answer c.enter-in-B.ensures.left ∙ ap (λ (x : Side). entry_on c.args.self.now x c.args.e) (sym c.in-B.is)
