-- `write_entry` meets its contract: each field is put behind those before it.
use native.Mathlib.Omega.{arith}
use mathlib.Core.List.{[], ◌∷◌, ◌++◌}
use lib.Dec.{lit≤}
use borrow.Author.Tests.{lt-ltb}
use Rattle.std.specs.List.{flat_map}
use Rattle.feed.specs.declared.Record.TheVariants.{Entry}
use Rattle.feed.specs.Number.{bytes}
use Rattle.feed.specs.Record.{record_bytes, stream_known}
use Rattle.lists.proofs.Put.{put_then}
use Rattle.feed_write.proofs.Writings.{record_done}
use Rattle.feed_write.proofs.write_entry.Goals as goal

pub returns : goal.returns
unfolding record_bytes stream_known
returns c =
    let a = c.args in
    let old = a.buf.now in
    let head = c.in_ok-whole.ensures.room in
    let stream = rw c.to_le_bytes.ensures at c.put_text.ensures in
    let e = a.entry in
    record_done (Entry a.stream e) [] old (lt-ltb a.stream 2 c.in_ok-check_stream.ensures.known) (lit≤ tt) head.0 head.1
    (put_then 0 (bytes 2 20 ++ bytes 2 1 ++ bytes 2 a.stream) (flat_map (bytes 4) (e.span.start ∷ e.span.end ∷ e.key ∷ e.value ∷ [])) old
    (put_then 0 (bytes 2 20 ++ bytes 2 1) (bytes 2 a.stream) old head.2 stream (omega arith))
    c.put_numbers.ensures (omega arith))
