-- Written, then read: what is written is read back as the same record with the place after it and the same text, whatever else the buffer or the feed holds.
use Prim.Native.Nat.{ℕ, ◌+◌, ◌-◌, ◌^◌, ◌≤◌, ◌<◌}
use native.Mathlib.Omega.{arith}
use mathlib.Core.Bool.{true}
use mathlib.Core.List.{List, ◌++◌}
use mathlib.Core.Path.{◌≡◌, refl, sym, ap, ◌∙◌}
use lib.ListN.{length, take, drop, length-append}
use lib.Seq.{drop-append_seam, drop-drop, take_at}
use Rattle.pairing.specs.declared.Pair.{Pair}
use Rattle.pairing.specs.Numbers.{pair_numbers, pair_in}
use Rattle.pairing.proofs.Numbers.{pair_numbers_lem}
use Rattle.feed.specs.declared.Feed.{Feed}
use Rattle.feed.specs.declared.Feed.TheVariants.{Input, Output}
use Rattle.feed.specs.Head.{Whole}
use Rattle.feed.specs.Kind.{Within, entry, mark, close, pair, lengths_of, framed, packed, Room}
use Rattle.feed.specs.Reading.{Found, Reading, length_in, kind_in, outside, kind_checks, head_unless, head_of, found_at, reading_from, reading, pair_reading_of, pair_reading_from, pair_reading}
use Rattle.feed.specs.declared.Record.{Record}
use Rattle.feed.specs.declared.Record.TheVariants.{Entry as entry_record, Mark, Close, Note}
use Rattle.feed.specs.Record.{entry_from, mark_from, close_from, entry_numbers, mark_numbers, close_numbers, record_in, record_bytes, pair_bytes, stream_known, Fitting}
use Rattle.feed.specs.Text.{text_of, text_in, text_at, stretch, carried, ReadsAs}
use Rattle.feed.proofs.Numbers.{value_bytes}
use Rattle.feed.proofs.Fields.{unpacked_packed}
use Rattle.feed.proofs.Heads.{inside_intro, lengths_entry, lengths_mark, lengths_close, lengths_note, lengths_pair, head_kind, kind_fit}

-- the head of framed fields is found whole, where the table allows their length
head_framed : (feed : Feed) (kind shortest longest : ℕ) (fields rest : List ℕ) → lengths_of feed kind ≡ Within shortest longest → kind < 256 ^ 2
    → shortest ≤ 2 + length fields → 2 + length fields ≤ longest → longest ≤ 66 → head_of feed (framed kind fields ++ rest) ≡ Whole kind (2 + length fields)
head_framed feed kind shortest longest fields rest e k low high top =
    let all = framed kind fields ++ rest in
    let size : length_in all ≡ 2 + length fields = value_bytes 2 (2 + length fields) (omega arith) in
    let number : kind_in all ≡ kind = value_bytes 2 kind k in
    let long : length all ≡ 4 + length fields + length rest = simp length-append (omega arith) in
    head_kind feed all (omega arith) (ap (outside 2 66) size ∙ inside_intro 2 66 (2 + length fields) (omega arith) (omega arith)) (omega arith)
    ∙ ap (λ (n : ℕ). head_unless (kind_checks feed n (length_in all)) n (length_in all)) number
    ∙ ap (λ (n : ℕ). head_unless (kind_checks feed kind n) kind n) size
    ∙ kind_fit feed kind (2 + length fields) shortest longest e (inside_intro shortest longest (2 + length fields) low high)

found_framed : (kind : ℕ) (fields rest : List ℕ) (r : Record) (at : ℕ) → head_of Input (framed kind fields ++ rest) ≡ Whole kind (2 + length fields)
    → record_in kind (2 + length fields) (framed kind fields ++ rest) ≡ r → stream_known r ≡ true → reading_from at (framed kind fields ++ rest) ≡ Found r (at + length (framed kind fields))
unfolding reading_from found_at
found_framed kind fields rest r at h e known =
    let next : at + 2 + (2 + length fields) ≡ at + length (framed kind fields) = omega arith in
    rw (h, e, known, next)

-- the bytes of a record, with any others behind them, are read as that record with the place after it
pub record_reads : (r : Record) (text rest : List ℕ) (at : ℕ) → Fitting r text → stream_known r ≡ true → length text ≤ 64
    → reading_from at (record_bytes r text ++ rest) ≡ Found r (at + length (record_bytes r text))
unfolding record_bytes record_in
record_reads (entry_record stream e) text rest at fit known short =
    let fields = packed entry.fields (entry_numbers stream e) in
    found_framed 1 fields rest (entry_record stream e) at (head_framed Input 1 20 20 fields rest lengths_entry (omega arith) (omega arith) (omega arith) (omega arith))
    (ap entry_from (unpacked_packed entry.fields (entry_numbers stream e) rest fit)) known
record_reads (Mark stream time) text rest at fit known short =
    let fields = packed mark.fields (mark_numbers stream time) in
    found_framed 2 fields rest (Mark stream time) at (head_framed Input 2 8 8 fields rest lengths_mark (omega arith) (omega arith) (omega arith) (omega arith))
    (ap mark_from (unpacked_packed mark.fields (mark_numbers stream time) rest fit)) known
record_reads (Close stream) text rest at fit known short =
    let fields = packed close.fields (close_numbers stream) in
    found_framed 3 fields rest (Close stream) at (head_framed Input 3 4 4 fields rest lengths_close (omega arith) (omega arith) (omega arith) (omega arith))
    (ap close_from (unpacked_packed close.fields (close_numbers stream) rest fit)) known
record_reads (Note size) text rest at fit known short =
    let same : 2 + length text - 2 ≡ size = omega arith in
    found_framed 4 text rest (Note size) at (head_framed Input 4 2 66 text rest lengths_note (omega arith) (omega arith) (omega arith) (omega arith)) (ap Note same) known

pub pair_reads : (p : Pair) (rest : List ℕ) (at : ℕ) → Room pair.fields (pair_numbers p) → pair_reading_from at (pair_bytes p ++ rest) ≡ Found p (at + length (pair_bytes p))
unfolding pair_bytes pair_reading_from pair_numbers
pair_reads p rest at fit =
    let fields = packed pair.fields (pair_numbers p) in
    let next : at + 2 + 34 ≡ at + 36 = omega arith in
    ap (pair_reading_of at (pair_bytes p ++ rest)) (head_framed Output 257 34 34 fields rest lengths_pair (omega arith) (omega arith) (omega arith) (omega arith))
    ∙ ap (λ (numbers : List ℕ). Found (pair_in numbers) (at + 2 + 34)) (unpacked_packed pair.fields (pair_numbers p) rest fit)
    ∙ ap (λ (q : Pair). Found q (at + 2 + 34)) (pair_numbers_lem p)
    ∙ ap (Found p) next

-- the stretch of a feed in which the text of a record should stand holds the text that it carries, where the bytes of the record are those left at its place
text_reads : (r : Record) (text rest s : List ℕ) (at : ℕ) → Fitting r text → drop at s ≡ record_bytes r text ++ rest → stretch s (text_of at r) ≡ carried r text
unfolding record_bytes
text_reads (entry_record stream e) text rest s at fit here = refl
text_reads (Mark stream time) text rest s at fit here = refl
text_reads (Close stream) text rest s at fit here = refl
text_reads (Note size) text rest s at fit here =
    ap (take size) (sym (drop-drop 4 at s)) ∙ ap (λ (bs : List ℕ). take size (drop 4 bs)) here ∙ take_at text rest size (sym fit)

-- wherever they stand in a feed
pub record_reads_in : (r : Record) (text front rest : List ℕ) → Fitting r text → stream_known r ≡ true → length text ≤ 64
    → ReadsAs (front ++ (record_bytes r text ++ rest)) (length front) r text (length front + length (record_bytes r text))
unfolding reading text_at
record_reads_in r text front rest fit known short =
    let s = front ++ (record_bytes r text ++ rest) in
    let here = drop-append_seam front (record_bytes r text ++ rest) in
    let found : reading s (length front) ≡ Found r (length front + length (record_bytes r text)) = rw here (record_reads r text rest (length front) fit known short) in
    record { found = found; text_found = ap (λ (answer : Reading). stretch s (text_in (length front) answer)) found ∙ text_reads r text rest s (length front) fit here }

pub pair_reads_in : (p : Pair) (front rest : List ℕ) → Room pair.fields (pair_numbers p)
    → pair_reading (front ++ (pair_bytes p ++ rest)) (length front) ≡ Found p (length front + length (pair_bytes p))
unfolding pair_reading
pair_reads_in p front rest fit = rw (drop-append_seam front (pair_bytes p ++ rest)) (pair_reads p rest (length front) fit)
