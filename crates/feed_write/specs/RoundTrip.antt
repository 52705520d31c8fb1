-- Each record written reads back the same, a note's text included, and each record read writes back to its bytes: all five kinds, whatever else the buffer or the feed holds.
use Rattle.std.specs.Prelude.{ℕ, ◌-◌, ◌≤◌, List, ◌++◌, ◌≡◌, length, take, drop}
use Rattle.pairing.specs.declared.Pair.{Pair}
use Rattle.pairing.specs.Numbers.{pair_numbers}
use Rattle.feed.specs.declared.Record.{Record}
use Rattle.feed.specs.Number.{Bytes}
use Rattle.feed.specs.Kind.{pair, Room}
use Rattle.feed.specs.Record.{Fitting}
use Rattle.feed.specs.Reading.{Found, reading, pair_reading}
use Rattle.feed.specs.Text.{text_bytes, ReadsAs}
use Rattle.feed_write.specs.Writing.{Written, record_writing, pair_writing}

-- written, then read: what a writing left in the buffer is read back from its start, with the place after it and the text that was written
abbrev pub WrittenReads : Type 0
WrittenReads = (r : Record) (text buf left : List ℕ) (size : ℕ) → Fitting r text → record_writing r text buf ≡ (Written size, left) → ReadsAs left 0 r text size

abbrev pub PairWrittenReads : Type 0
PairWrittenReads = (p : Pair) (buf left : List ℕ) (size : ℕ) → Room pair.fields (pair_numbers p) → pair_writing p buf ≡ (Written size, left) → pair_reading left 0 ≡ Found p size

-- read, then written with the text that was read: into a buffer with room, the answer is the record's length, and its bytes stand at the buffer's start
abbrev pub ReadWrites : Type 0
ReadWrites =
    (s buf : List ℕ) (at next : ℕ) (r : Record) → Bytes s → reading s at ≡ Found r next → next - at ≤ length buf
    → record_writing r (text_bytes s at) buf ≡ (Written (next - at), take (next - at) (drop at s) ++ drop (next - at) buf)

abbrev pub PairReadWrites : Type 0
PairReadWrites =
    (s buf : List ℕ) (at next : ℕ) (p : Pair) → Bytes s → pair_reading s at ≡ Found p next → next - at ≤ length buf
    → pair_writing p buf ≡ (Written (next - at), take (next - at) (drop at s) ++ drop (next - at) buf)
