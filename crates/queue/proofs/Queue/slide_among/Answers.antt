-- `slide_among` meets its contract.
use mathlib.Core.Path.{refl}
use Rattle.lists.proofs.Merge.{slid}
use Rattle.pairing.specs.Pair.{comes_before}
use Rattle.pairing.proofs.Pairs.{strict_comes_before}
use borrow.Author.Rules.{rules}
use Rattle.queue.proofs.Queue.slide_among.Goals as goal

pub returns : goal.returns
returns c =
    let a = c.args in
    let point = c.place_of-k.ensures in
    (refl, rw c.copy_within.ensures.after (slid comes_before strict_comes_before a.p a.self.now.places a.w a.gap c.place_of-k.result c.requires.0 (search rules) point.0 point.1))
