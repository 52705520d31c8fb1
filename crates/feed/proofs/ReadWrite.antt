-- Read, then written: what is read is written back to exactly its bytes, notes with their text, pairs in output feeds.
use Prim.Native.Nat.{ℕ, ◌+◌, ◌-◌, ◌≤◌}
use native.Mathlib.Omega.{arith}
use mathlib.Core.Bool.{true}
use mathlib.Core.List.{List, ◌++◌}
use mathlib.Core.Path.{◌≡◌, refl, sym, ap, ◌∙◌}
use lib.Dec.{lit≤}
use lib.ListN.{length, take, drop, length-take, length-drop}
use lib.Seq.{take-add, drop-drop, length-take-le}
use Rattle.pairing.specs.declared.Pair.{Pair}
use Rattle.pairing.specs.Numbers.{pair_in}
use Rattle.pairing.proofs.Numbers.{numbers_pair}
use Rattle.feed.specs.declared.Feed.TheVariants.{Input, Output}
use Rattle.feed.specs.Head.{Head, Whole, Refused as refused_head, End as no_head}
use Rattle.feed.specs.Reading.{Found, length_in, kind_in, head_of, reading, pair_reading_of, pair_reading_from, pair_reading}
use Rattle.feed.specs.declared.Record.{Record}
use Rattle.feed.specs.declared.Record.TheVariants.{Note}
use Rattle.feed.specs.Number.{bytes, Bytes}
use Rattle.feed.specs.Kind.{Kind, entry, mark, close, pair, kinds_of, framed, packed, fields_in}
use Rattle.feed.specs.Record.{record_in, record_bytes, pair_bytes, stream_known}
use Rattle.feed.specs.Text.{text_of, text_in, text_at, stretch, text_bytes}
use Rattle.feed.proofs.Numbers.{bytes_drop, bytes_value_take}
use Rattle.feed.proofs.Fields.{total, packed_unpacked}
use Rattle.feed.proofs.Heads.{Row, here, there, whole_elim, whole_row, whole_pair}
use Rattle.feed.proofs.Readings.{found_elim}

-- framed bytes are those that were read
framed_back : (kind size : ℕ) (bs : List ℕ) → Bytes bs → kind ≡ kind_in bs → size ≡ length_in bs → 2 ≤ size → 2 + size ≤ length bs → framed kind (take (size - 2) (drop 4 bs)) ≡ take (2 + size) bs
framed_back kind size bs b k n low enough =
    let fields = take (size - 2) (drop 4 bs) in
    let long : 2 + length fields ≡ size = simp (length-take, length-drop) (omega arith) in
    let first : bytes 2 (2 + length fields) ≡ take 2 bs = ap (bytes 2) (long ∙ n) ∙ bytes_value_take 2 bs b (omega arith) in
    let second : bytes 2 kind ≡ take 2 (drop 2 bs) = ap (bytes 2) k ∙ bytes_value_take 2 (drop 2 bs) (bytes_drop 2 bs b) (simp length-drop (omega arith)) in
    let four : take 2 bs ++ take 2 (drop 2 bs) ≡ take 4 bs = sym (take-add 2 2 bs) in
    let whole : 4 + (size - 2) ≡ 2 + size = omega arith in
    ap (λ (l : List ℕ). l ++ bytes 2 kind ++ fields) first
    ∙ ap (λ (l : List ℕ). take 2 bs ++ l ++ fields) second
    ∙ ap (λ (l : List ℕ). l ++ fields) four
    ∙ sym (take-add 4 (size - 2) bs)
    ∙ ap (λ (m : ℕ). take m bs) whole

-- the same for a kind with numbers alone: its fields are packed as they were
packed_back : (kind : Kind) (size : ℕ) (bs : List ℕ) → Bytes bs → kind.number ≡ kind_in bs → size ≡ length_in bs → 2 + size ≤ length bs → size ≡ 2 + total kind.fields
    → framed kind.number (packed kind.fields (fields_in kind bs)) ≡ take (2 + size) bs
packed_back kind size bs b k n enough all =
    let same : total kind.fields ≡ size - 2 = omega arith in
    ap (framed kind.number)
    (packed_unpacked kind.fields (drop 4 bs) (bytes_drop 4 bs b) (simp length-drop (omega arith)) ∙ ap (λ (m : ℕ). take m (drop 4 bs)) same)
    ∙ framed_back kind.number size bs b k n (omega arith) enough

-- a record that was found: its bytes, and its text, at most 64 bytes
record Back (s : List ℕ) (at : ℕ) (r : Record) (next : ℕ) : Type 0 where
  same : record_bytes r (text_bytes s at) ≡ take (next - at) (drop at s)
  short : length (text_bytes s at) ≤ 64

module _ (s : List ℕ) (at : ℕ) (r : Record) (next : ℕ) (b : Bytes s) (h : reading s at ≡ Found r next) where
  text_of_lem : (found : Record) → r ≡ found → text_at s at ≡ text_of at found
  unfolding text_at
  text_of_lem found e = ap (text_in at) h ∙ ap (text_of at) e

  module _ (size : ℕ) (n : size ≡ length_in (drop at s)) (enough : 2 + size ≤ length (drop at s)) (after : next ≡ at + 2 + size) where
    numbers_back : (kind : Kind) (found : Record) → r ≡ found → text_of at found ≡ (0, 0) → record_bytes found (text_bytes s at) ≡ framed kind.number (packed kind.fields (fields_in kind (drop at s)))
        → kind.number ≡ kind_in (drop at s) → size ≡ 2 + total kind.fields → Back s at r next
    numbers_back kind found e none own k all =
        let rest : 2 + size ≡ next - at = omega arith in
        let nowhere : text_at s at ≡ (0, 0) = text_of_lem found e ∙ none in
        record {
          same = ap (λ (x : Record). record_bytes x (text_bytes s at)) e
              ∙ own
              ∙ packed_back kind size (drop at s) (bytes_drop at s b) k n enough all
              ∙ ap (λ (m : ℕ). take m (drop at s)) rest;
          short = rw nowhere (lit≤ tt);
        }

    back : (kind : ℕ) → kind ≡ kind_in (drop at s) → r ≡ record_in kind size (drop at s) → Row kind size (kinds_of Input) → Back s at r next
    unfolding record_in record_bytes
    back kind k e (here is (low, high)) = numbers_back entry _ (e ∙ ap (λ (m : ℕ). record_in m size (drop at s)) is) refl refl (sym is ∙ k) (omega arith)
    back kind k e (there (here is (low, high))) = numbers_back mark _ (e ∙ ap (λ (m : ℕ). record_in m size (drop at s)) is) refl refl (sym is ∙ k) (omega arith)
    back kind k e (there (there (here is (low, high)))) = numbers_back close _ (e ∙ ap (λ (m : ℕ). record_in m size (drop at s)) is) refl refl (sym is ∙ k) (omega arith)
    back kind k e (there (there (there (here is (low, high))))) =
        let found = e ∙ ap (λ (m : ℕ). record_in m size (drop at s)) is in
        let place : text_at s at ≡ (at + 4, size - 2) = text_of_lem (Note (size - 2)) found in
        let text : text_bytes s at ≡ take (size - 2) (drop 4 (drop at s)) = ap (stretch s) place ∙ ap (take (size - 2)) (sym (drop-drop 4 at s)) in
        let rest : 2 + size ≡ next - at = omega arith in
        record {
          same = ap (λ (x : Record). record_bytes x (text_bytes s at)) found
              ∙ ap (framed 4) text
              ∙ framed_back 4 size (drop at s) (bytes_drop at s b) (sym is ∙ k) n low enough
              ∙ ap (λ (m : ℕ). take m (drop at s)) rest;
          short = rw text (simp length-take (omega arith));
        }
    back kind k e (there (there (there (there x12)))) = elim x12 [ ]

found_back : (s : List ℕ) (at : ℕ) {r : Record} {next : ℕ} → Bytes s → reading s at ≡ Found r next → Back s at r next
found_back s at {r} {next} b h =
    let f = found_elim s at h in
    let w = whole_elim Input (drop at s) f.head in
    back s at r next b h f.size w.size_in w.enough f.next_at f.kind w.kind_in_lem f.found_in (whole_row Input (drop at s) f.head)

-- the bytes of a record that was found are those from its place to the next
pub record_back : (s : List ℕ) (at : ℕ) {r : Record} {next : ℕ} → Bytes s → reading s at ≡ Found r next → record_bytes r (text_bytes s at) ≡ take (next - at) (drop at s)
record_back s at b h = (found_back s at b h).same

record PairFound (s : List ℕ) (at : ℕ) (p : Pair) (next : ℕ) : Type 0 where
  kind : ℕ
  size : ℕ
  head : head_of Output (drop at s) ≡ Whole kind size
  found_in : p ≡ pair_in (fields_in pair (drop at s))
  next_at : next ≡ at + 2 + size

pair_elim : (s : List ℕ) (at : ℕ) {p : Pair} {next : ℕ} → pair_reading s at ≡ Found p next → PairFound s at p next
unfolding pair_reading pair_reading_from
pair_elim s at {p} {next} h = go (head_of Output (drop at s)) refl h
  where
    go : (head : Head) → head_of Output (drop at s) ≡ head → pair_reading_of at (drop at s) head ≡ Found p next → PairFound s at p next
    go (Whole kind size) w e =
        let same : pair_in (fields_in pair (drop at s)) ≡ p = cc in
        let after : at + 2 + size ≡ next = cc in
        record { kind = kind; size = size; head = w; found_in = sym same; next_at = sym after }
    go (refused_head number) w e = absurd (let z : ◌≡◌ {A = ℕ} 0 1 = cc in omega arith)
    go no_head w e = absurd (let z : ◌≡◌ {A = ℕ} 0 1 = cc in omega arith)

pub pair_back : (s : List ℕ) (at : ℕ) {p : Pair} {next : ℕ} → Bytes s → pair_reading s at ≡ Found p next → pair_bytes p ≡ take (next - at) (drop at s)
unfolding pair_bytes
pair_back s at {p} {next} b h =
    let f = pair_elim s at h in
    let w = whole_elim Output (drop at s) f.head in
    let is = whole_pair (drop at s) f.head in
    let after = f.next_at in
    let all = is.1 in
    let rest : 2 + f.size ≡ next - at = omega arith in
    ap pair_bytes f.found_in
    ∙ ap (λ (numbers : List ℕ). framed pair.number (packed pair.fields numbers)) (numbers_pair (fields_in pair (drop at s)) refl)
    ∙ packed_back pair f.size (drop at s) (bytes_drop at s b) (sym is.0 ∙ w.kind_in_lem) w.size_in w.enough (omega arith)
    ∙ ap (λ (m : ℕ). take m (drop at s)) rest

-- what else writing asks of a record that was found: its stream is known, its text is short, and its bytes are there
pub found_stream : (s : List ℕ) (at : ℕ) {r : Record} {next : ℕ} → reading s at ≡ Found r next → stream_known r ≡ true
found_stream s at h = (found_elim s at h).stream

pub text_short : (s : List ℕ) (at : ℕ) {r : Record} {next : ℕ} → Bytes s → reading s at ≡ Found r next → length (text_bytes s at) ≤ 64
text_short s at b h = (found_back s at b h).short

pub found_length : (s : List ℕ) (at : ℕ) {r : Record} {next : ℕ} → reading s at ≡ Found r next → length (take (next - at) (drop at s)) ≡ next - at
found_length s at {r} {next} h =
    let f = found_elim s at h in
    let after = f.next_at in
    let enough = (whole_elim Input (drop at s) f.head).enough in
    length-take-le (next - at) (drop at s) (omega arith)

pub pair_found_length : (s : List ℕ) (at : ℕ) {p : Pair} {next : ℕ} → pair_reading s at ≡ Found p next → length (take (next - at) (drop at s)) ≡ next - at
pair_found_length s at {p} {next} h =
    let f = pair_elim s at h in
    let after = f.next_at in
    let enough = (whole_elim Output (drop at s) f.head).enough in
    length-take-le (next - at) (drop at s) (omega arith)
