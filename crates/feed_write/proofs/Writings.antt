-- Laws of writings: what is answered, and what is left in the buffer, by the check that refuses, and where none does.
use Prim.Native.Nat.{ℕ, ◌≤◌, ◌<◌}
use mathlib.Core.Bool.{true, false}
use mathlib.Core.List.{List}
use mathlib.Core.Path.{◌≡◌, sym}
use lib.ListN.{length}
use borrow.Author.Tests.{lt-ltb, le-ltb}
use Rattle.lists.specs.Put.{put}
use Rattle.pairing.specs.declared.Pair.{Pair}
use Rattle.feed.specs.declared.Record.{Record}
use Rattle.feed_write.specs.Writing.{Writing, Written, Refused, writing, record_writing, pair_writing}
use Rattle.feed.specs.Record.{record_bytes, pair_bytes, stream_known}
use Rattle.lists.proofs.Put.{put_first}

module _ (r : Record) (text buf : List ℕ) where
  pub stream_refused : stream_known r ≡ false → record_writing r text buf ≡ (Refused 1, buf)
  unfolding record_writing writing
  stream_refused unknown = rw unknown

  pub text_refused : stream_known r ≡ true → 64 < length text → record_writing r text buf ≡ (Refused 10, buf)
  unfolding record_writing writing
  text_refused known long = rw (known, lt-ltb 64 (length text) long)

  pub room_refused : stream_known r ≡ true → length text ≤ 64 → length buf < length (record_bytes r text) → record_writing r text buf ≡ (Refused 12, buf)
  unfolding record_writing writing
  room_refused known short few = rw (known, le-ltb 64 (length text) short, lt-ltb (length buf) (length (record_bytes r text)) few)

  pub record_written : stream_known r ≡ true → length text ≤ 64 → length (record_bytes r text) ≤ length buf → record_writing r text buf ≡ (Written (length (record_bytes r text)), put 0 (record_bytes r text) buf)
  unfolding record_writing writing
  record_written known short room = rw (known, le-ltb 64 (length text) short, le-ltb (length buf) (length (record_bytes r text)) room, put_first (record_bytes r text) buf)

  -- the record was put in, and its whole length is answered
  pub record_done : {whole : ℕ} {new : List ℕ} → stream_known r ≡ true → length text ≤ 64 → whole ≡ length (record_bytes r text) → whole ≤ length buf → new ≡ put 0 (record_bytes r text) buf → ◌≡◌ {A = Writing × List ℕ} (Written whole, new) (record_writing r text buf)
  record_done known short size room e = rw (size, e) (sym (record_written known short (rw size at room)))

module _ (p : Pair) (buf : List ℕ) where
  pub pair_room_refused : length buf < length (pair_bytes p) → pair_writing p buf ≡ (Refused 12, buf)
  unfolding pair_writing writing
  pair_room_refused few = rw (lt-ltb (length buf) (length (pair_bytes p)) few)

  pub pair_written : length (pair_bytes p) ≤ length buf → pair_writing p buf ≡ (Written (length (pair_bytes p)), put 0 (pair_bytes p) buf)
  unfolding pair_writing writing
  pair_written h = rw (le-ltb (length buf) (length (pair_bytes p)) h, put_first (pair_bytes p) buf)

  pub pair_done : {whole : ℕ} {new : List ℕ} → whole ≡ length (pair_bytes p) → whole ≤ length buf → new ≡ put 0 (pair_bytes p) buf → ◌≡◌ {A = Writing × List ℕ} (Written whole, new) (pair_writing p buf)
  pair_done size room e = rw (size, e) (sym (pair_written (rw size at room)))
