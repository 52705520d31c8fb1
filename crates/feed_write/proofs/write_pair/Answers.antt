-- `write_pair` meets its contract: its fields are put behind its head.
use native.Mathlib.Omega.{arith}
use mathlib.Core.List.{◌++◌}
use Rattle.std.specs.List.{flat_map}
use Rattle.pairing.specs.Numbers.{pair_numbers}
use Rattle.feed.specs.Number.{bytes}
use Rattle.feed.specs.Record.{pair_bytes}
use Rattle.lists.proofs.Put.{put_then}
use Rattle.feed_write.proofs.Writings.{pair_done}
use Rattle.feed_write.proofs.write_pair.Goals as goal

pub returns : goal.returns
unfolding pair_bytes pair_numbers
returns c =
    let a = c.args in
    let old = a.buf.now in
    let head = c.in_ok-whole.ensures.room in
    pair_done a.pair old head.0 head.1 (put_then 0 (bytes 2 34 ++ bytes 2 257) (flat_map (bytes 4) (pair_numbers a.pair)) old head.2 c.put_numbers.ensures (omega arith))
