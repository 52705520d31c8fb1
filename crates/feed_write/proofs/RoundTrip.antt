-- Both round trips hold.
use Prim.Native.Nat.{ℕ, ◌-◌, ◌≤◌}
use native.Mathlib.Nat.{zero-add}
use native.Mathlib.Omega.{arith}
use mathlib.Core.Bool.{Bool, true, false, not}
use mathlib.Core.List.{List, [], ◌∷◌, ◌++◌}
use mathlib.Core.Path.{◌≡◌, refl, sym, ap, ◌∙◌}
use lib.Dec.{ltb}
use lib.ListN.{length, drop, take}
use borrow.Author.Tests.{ltb-false}
use Rattle.lists.specs.Check.{◌gives◌, first_or}
use Rattle.lists.specs.Put.{put}
use Rattle.feed.specs.Record.{record_bytes, pair_bytes, stream_known}
use Rattle.feed.specs.Reading.{Found, pair_reading}
use Rattle.feed.specs.Text.{text_bytes, ReadsAs}
use Rattle.feed_write.specs.Writing.{Writing, Written, Refused, writing, record_writing, pair_writing}
use Rattle.feed_write.specs.RoundTrip.{WrittenReads, PairWrittenReads, ReadWrites, PairReadWrites}
use Rattle.lists.proofs.Put.{put_first}
use Rattle.feed_write.proofs.Writings.{record_written, pair_written}
use Rattle.feed.proofs.WriteRead.{record_reads_in, pair_reads_in}
use Rattle.feed.proofs.ReadWrite.{record_back, pair_back, found_stream, text_short, found_length, pair_found_length}

-- ---- written, then read

not_written : {number size : ℕ} {buf left : List ℕ} → ◌≡◌ {A = Writing × List ℕ} (Refused number, buf) (Written size, left) → ⊥
not_written e = let f = ap (λ (x : Writing × List ℕ). x.0) e in let z : ◌≡◌ {A = ℕ} 0 1 = cc in omega arith

pub written_reads : WrittenReads
unfolding record_writing writing
written_reads r text buf left size fit h = go (stream_known r) (ltb 64 (length text)) (ltb (length buf) (length (record_bytes r text))) refl refl h
  where
    go : (known long short : Bool) → stream_known r ≡ known → ltb 64 (length text) ≡ long
        → ◌≡◌ {A = Writing × List ℕ} (first_or (λ (number : ℕ). (Refused number, buf)) (Written (length (record_bytes r text)), record_bytes r text ++ drop (length (record_bytes r text)) buf) ((not known gives 1) ∷ (long gives 10) ∷ (short gives 12) ∷ [])) (Written size, left)
        → ReadsAs left 0 r text size
    go false long short k l e = absurd (not_written e)
    go true true short k l e = absurd (not_written e)
    go true false true k l e = absurd (not_written e)
    go true false false k l e =
        let answer : Written (length (record_bytes r text)) ≡ Written size = ap (λ (x : Writing × List ℕ). x.0) e in
        let same : length (record_bytes r text) ≡ size = cc in
        rw (← ap (λ (x : Writing × List ℕ). x.1) e, ← (zero-add (length (record_bytes r text)) ∙ same))
        (record_reads_in r text [] (drop (length (record_bytes r text)) buf) fit k (ltb-false 64 (length text) l))

pub pair_written_reads : PairWrittenReads
unfolding pair_writing writing
pair_written_reads p buf left size fit h = go (ltb (length buf) (length (pair_bytes p))) h
  where
    go : (short : Bool) → ◌≡◌ {A = Writing × List ℕ} (first_or (λ (number : ℕ). (Refused number, buf)) (Written (length (pair_bytes p)), pair_bytes p ++ drop (length (pair_bytes p)) buf) ((short gives 12) ∷ [])) (Written size, left)
        → pair_reading left 0 ≡ Found p size
    go true e = absurd (not_written e)
    go false e =
        let answer : Written (length (pair_bytes p)) ≡ Written size = ap (λ (x : Writing × List ℕ). x.0) e in
        let same : length (pair_bytes p) ≡ size = cc in
        ap (λ (l : List ℕ). pair_reading l 0) (sym (ap (λ (x : Writing × List ℕ). x.1) e))
        ∙ pair_reads_in p [] (drop (length (pair_bytes p)) buf) fit
        ∙ ap (Found p) (zero-add (length (pair_bytes p)) ∙ same)

-- ---- read, then written

module _ (buf bs front : List ℕ) (size : ℕ) (same : bs ≡ front) (long : length front ≡ size) where
  left_same : ◌≡◌ {A = Writing × List ℕ} (Written (length bs), put 0 bs buf) (Written size, front ++ drop size buf)
  left_same =
      ap (λ (l : List ℕ). (Written (length bs), l)) (put_first bs buf)
      ∙ ap (λ (l : List ℕ). (Written (length l), l ++ drop (length l) buf)) same
      ∙ ap (λ (m : ℕ). (Written m, front ++ drop m buf)) long

pub read_writes : ReadWrites
read_writes s buf at next r b h room =
    let same = record_back s at b h in
    let long = found_length s at h in
    let fits : length (record_bytes r (text_bytes s at)) ≤ length buf = rw (same, long) room in
    record_written r (text_bytes s at) buf (found_stream s at h) (text_short s at b h) fits
    ∙ left_same buf (record_bytes r (text_bytes s at)) (take (next - at) (drop at s)) (next - at) same long

pub pair_read_writes : PairReadWrites
pair_read_writes s buf at next p b h room =
    let same = pair_back s at b h in
    let long = pair_found_length s at h in
    let fits : length (pair_bytes p) ≤ length buf = rw (same, long) room in
    pair_written p buf fits ∙ left_same buf (pair_bytes p) (take (next - at) (drop at s)) (next - at) same long
