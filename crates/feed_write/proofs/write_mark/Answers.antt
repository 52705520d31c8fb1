-- `write_mark` meets its contract: each field is put behind those before it.
use native.Mathlib.Omega.{arith}
use mathlib.Core.List.{[], ◌++◌}
use lib.Dec.{lit≤}
use borrow.Author.Tests.{lt-ltb}
use Rattle.feed.specs.declared.Record.TheVariants.{Mark}
use Rattle.feed.specs.Number.{bytes}
use Rattle.feed.specs.Record.{record_bytes, stream_known}
use Rattle.lists.proofs.Put.{put_then}
use Rattle.feed_write.proofs.Writings.{record_done}
use Rattle.feed_write.proofs.write_mark.Goals as goal

pub returns : goal.returns
unfolding record_bytes stream_known
returns c =
    let a = c.args in
    let old = a.buf.now in
    let head = c.in_ok-whole.ensures.room in
    let stream = rw c.to_le_bytes.ensures at c.put_text.ensures in
    record_done (Mark a.stream a.time) [] old (lt-ltb a.stream 2 c.in_ok-check_stream.ensures.known) (lit≤ tt) head.0 head.1
    (put_then 0 (bytes 2 8 ++ bytes 2 2 ++ bytes 2 a.stream) (bytes 4 a.time) old
    (put_then 0 (bytes 2 8 ++ bytes 2 2) (bytes 2 a.stream) old head.2 stream (omega arith))
    c.put_numbers.ensures (omega arith))
