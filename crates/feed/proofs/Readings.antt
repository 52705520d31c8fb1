-- Laws of readings: the head of what is left at the place decides.
use Prim.Native.Nat.{ℕ, ◌+◌, ◌-◌, ◌≤◌}
use native.Mathlib.Omega.{arith}
use mathlib.Core.Bool.{Bool, true, false, not}
use mathlib.Core.List.{List, [], ◌∷◌}
use mathlib.Core.Path.{◌≡◌, refl, sym}
use lib.ListN.{length, drop, length-drop, drop_of_length-le}
use Rattle.feed.specs.declared.Feed.TheVariants.{Input, Output}
use Rattle.feed.specs.Head.{Whole, Refused as refused_head, End as no_head, Head}
use Rattle.feed.specs.declared.Record.{Record}
use Rattle.feed.specs.declared.Record.TheVariants.{Note}
use Rattle.feed.specs.Reading.{Found, Refused, End, head_of, found_at, reading_of, reading_from, reading, pair_reading_from, pair_reading}
use Rattle.feed.specs.Kind.{kinds_of}
use Rattle.lists.specs.Check.{◌gives◌, first_or}
use Rattle.feed.specs.Record.{record_in, stream_known}
use Rattle.feed.proofs.Heads.{inside_elim, Row, here, there, head_none, whole_elim, whole_row}

module _ (s : List ℕ) (at : ℕ) where
  pub reading_past : length s ≤ at → reading s at ≡ End
  unfolding reading reading_from
  reading_past h = rw (drop_of_length-le s h, head_none Input _ refl)

  pub pair_past : length s ≤ at → pair_reading s at ≡ End
  unfolding pair_reading pair_reading_from
  pair_past h = rw (drop_of_length-le s h, head_none Output _ refl)

-- ---- what a record that was found tells

pub record FoundRecord (s : List ℕ) (at : ℕ) (found : Record) (next : ℕ) : Type 0 where
  pub kind : ℕ
  pub size : ℕ
  pub head : head_of Input (drop at s) ≡ Whole kind size
  pub found_in : found ≡ record_in kind size (drop at s)
  pub next_at : next ≡ at + 2 + size
  pub stream : stream_known found ≡ true

pub found_elim : (s : List ℕ) (at : ℕ) {found : Record} {next : ℕ} → reading s at ≡ Found found next → FoundRecord s at found next
unfolding reading reading_from found_at
found_elim s at {found} {next} h = go (head_of Input (drop at s)) refl h
  where
    known : (kind size : ℕ) → head_of Input (drop at s) ≡ Whole kind size → (b : Bool) → stream_known (record_in kind size (drop at s)) ≡ b
        → first_or (λ (number : ℕ). Refused number at) (Found (record_in kind size (drop at s)) (at + 2 + size)) ((not b gives 1) ∷ []) ≡ Found found next → FoundRecord s at found next
    known kind size w true k e =
        let r : record_in kind size (drop at s) ≡ found = cc in
        let n : at + 2 + size ≡ next = cc in
        record { kind = kind; size = size; head = w; found_in = sym r; next_at = sym n; stream = rw r at k }
    known kind size w false k e = absurd (let z : ◌≡◌ {A = ℕ} 0 1 = cc in omega arith)

    go : (head : Head) → head_of Input (drop at s) ≡ head → reading_of at (drop at s) head ≡ Found found next → FoundRecord s at found next
    go (Whole kind size) w e = known kind size w (stream_known (record_in kind size (drop at s))) refl e
    go (refused_head number) w e = absurd (let z : ◌≡◌ {A = ℕ} 0 1 = cc in omega arith)
    go no_head w e = absurd (let z : ◌≡◌ {A = ℕ} 0 1 = cc in omega arith)

-- it has 4 bytes at least, and ends within the feed
pub found_ends : (s : List ℕ) (at : ℕ) {found : Record} {next : ℕ} → reading s at ≡ Found found next → (at + 4 ≤ next) × (next ≤ length s)
found_ends s at {found} {next} h =
    let f = found_elim s at h in
    let whole = whole_elim Input (drop at s) f.head in
    let enough = rw length-drop at whole.enough in
    let size = inside_elim 2 66 f.size whole.limits in
    let next_at = f.next_at in
    (omega arith, omega arith)

note_size : (kind size n : ℕ) (bs : List ℕ) → Row kind size (kinds_of Input) → record_in kind size bs ≡ Note n → size ≡ n + 2
unfolding record_in
note_size kind size n bs (here k w) e = absurd (let f = rw k at e in let z : ◌≡◌ {A = ℕ} 0 1 = cc in omega arith)
note_size kind size n bs (there (here k w)) e = absurd (let f = rw k at e in let z : ◌≡◌ {A = ℕ} 0 1 = cc in omega arith)
note_size kind size n bs (there (there (here k w))) e = absurd (let f = rw k at e in let z : ◌≡◌ {A = ℕ} 0 1 = cc in omega arith)
note_size kind size n bs (there (there (there (here k (l, m))))) e =
    let f = rw k at e in
    let same : size - 2 ≡ n = cc in
    omega arith
note_size kind size n bs (there (there (there (there x13)))) e = elim x13 [ ]

-- a note's text stands behind the length and the kind, and ends where the next record starts
pub note_ends : (s : List ℕ) (at : ℕ) {size next : ℕ} → reading s at ≡ Found (Note size) next → (next ≡ at + 4 + size) × (next ≤ length s)
note_ends s at {size} {next} h =
    let f = found_elim s at h in
    let n = note_size f.kind f.size size (drop at s) (whole_row Input (drop at s) f.head) (sym f.found_in) in
    let next_at = f.next_at in
    (omega arith, (found_ends s at h).1)
