-- `put_head` meets its contract: the kind is put behind the length.
use native.Mathlib.Omega.{arith}
use mathlib.Core.Path.{refl}
use Rattle.feed.specs.Number.{bytes}
use Rattle.lists.proofs.Put.{put_then}
use Rattle.feed_write.proofs.put_head.Goals as goal

pub returns-clause-room : goal.returns-clause-room
returns-clause-room c =
    let a = c.args in
    let size = rw c.to_le_bytes.ensures at c.put_text.ensures in
    let kind = rw c.to_le_bytes-2.ensures at c.put_text-2.ensures in
    (rw c.from-whole.ensures refl, omega arith, put_then 0 (bytes 2 a.size) (bytes 2 a.kind) a.buf.now size kind (omega arith))
