-- `write_note` meets its contract: the text is put behind the head.
use native.Mathlib.Omega.{arith}
use mathlib.Core.List.{◌++◌}
use mathlib.Core.Path.{refl}
use lib.ListN.{length}
use Prim.Native.Nat.{◌+◌}
use Rattle.feed.specs.declared.Record.TheVariants.{Note}
use Rattle.feed.specs.Number.{bytes}
use Rattle.feed.specs.Record.{record_bytes, stream_known}
use Rattle.lists.proofs.Put.{put_then}
use Rattle.feed_write.proofs.Writings.{record_done}
use Rattle.feed_write.proofs.write_note.Goals as goal

pub returns : goal.returns
unfolding record_bytes stream_known
returns c =
    let a = c.args in
    let old = a.buf.now in
    let head = c.in_ok-whole.ensures.room in
    let text = a.text.now in
    record_done (Note (length text)) text old refl (omega arith) (omega arith) head.1
    (put_then 0 (bytes 2 (2 + length text) ++ bytes 2 4) text old head.2 c.put_text.ensures (omega arith))
