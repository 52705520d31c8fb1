-- What a reading depends on: the bytes of the record itself, where the feed has them, so no more than 68 from its place.
use Prim.Native.Nat.{ℕ, ◌+◌, ◌-◌, ◌≤◌}
use native.Mathlib.Omega.{arith}
use mathlib.Core.Bool.{Bool, true, false, not, ◌&&◌, ◌||◌, true≢false, false≢true}
use mathlib.Core.List.{List, [], ◌∷◌}
use mathlib.Core.Path.{◌≡◌, refl, sym, ap, ◌∙◌}
use lib.Dec.{leb}
use lib.ListN.{length, take, drop, length-take}
use lib.Seq.{take_all, take-take}
use borrow.Author.Tests.{leb-true, leb-false, le-leb}
use Rattle.feed.specs.declared.Feed.{Feed}
use Rattle.feed.specs.declared.Feed.TheVariants.{Input, Output}
use Rattle.feed.specs.Head.{Head, Whole, Refused as refused_head, End as no_head}
use Rattle.feed.specs.Reading.{Found, Reading, Refused, End, length_in, kind_in, outside, shows, kind_checks, head_unless, head_of, found_at, reading_of, reading_from, reading, pair_reading_of, pair_reading_from, pair_reading}
use Rattle.feed.specs.declared.Record.{Record}
use Rattle.feed.specs.Number.{value}
use Rattle.feed.specs.Kind.{Kind, entry, mark, close, pair, kinds_of, unpacked, fields_in}
use Rattle.lists.specs.Check.{◌gives◌, first_or}
use Rattle.pairing.specs.Numbers.{pair_in}
use Rattle.feed.specs.Record.{entry_from, mark_from, close_from, record_in, stream_known}
use Rattle.feed.proofs.Fields.{total, drop_first, unpacked_take}
use Rattle.feed.proofs.Heads.{inside_elim, head_outside, head_kind, whole_elim, Row, here, there, whole_row, whole_pair}

-- ---- the first n bytes

module _ (n : ℕ) (bs : List ℕ) where
  length_in_first : 2 ≤ n → length_in (take n bs) ≡ length_in bs
  length_in_first h = ap value (take-take 2 n bs h)

  kind_in_first : 4 ≤ n → kind_in (take n bs) ≡ kind_in bs
  kind_in_first h = ap (λ (l : List ℕ). value (take 2 l)) (drop_first 2 n bs (omega arith)) ∙ ap value (take-take 2 (n - 2) (drop 2 bs) (omega arith))

  fields_in_first : (kind : Kind) → 4 + total kind.fields ≤ n → fields_in kind (take n bs) ≡ fields_in kind bs
  fields_in_first kind h = ap (unpacked kind.fields) (drop_first 4 n bs (omega arith)) ∙ unpacked_take kind.fields (n - 4) (drop 4 bs) (omega arith)

  record_in_first : (kind size : ℕ) → Row kind size (kinds_of Input) → 2 + size ≤ n → record_in kind size (take n bs) ≡ record_in kind size bs
  unfolding record_in
  record_in_first kind size (here k w) h = rw k (ap entry_from (fields_in_first entry (omega arith)))
  record_in_first kind size (there (here k w)) h = rw k (ap mark_from (fields_in_first mark (omega arith)))
  record_in_first kind size (there (there (here k w))) h = rw k (ap close_from (fields_in_first close (omega arith)))
  record_in_first kind size (there (there (there (here k w)))) h = rw k
  record_in_first kind size (there (there (there (there x13)))) h = elim x13 [ ]

-- ---- the record's own bytes decide

-- what it is that some bytes show a record
pub record Shown (bs : List ℕ) : Type 0 where
  pub two : 2 ≤ length bs
  pub own : outside 2 66 (length_in bs) ≡ false → 2 + length_in bs ≤ length bs

pub shows_elim : (bs : List ℕ) → shows bs ≡ true → Shown bs
unfolding shows
shows_elim bs h = go (leb 2 (length bs)) (outside 2 66 (length_in bs)) (leb (2 + length_in bs) (length bs)) refl refl refl h
  where
    go : (x y z : Bool) → leb 2 (length bs) ≡ x → outside 2 66 (length_in bs) ≡ y → leb (2 + length_in bs) (length bs) ≡ z → x && (y || z) ≡ true → Shown bs
    go true true z p q r e = record { two = leb-true 2 (length bs) p; own = λ f. absurd (true≢false (sym q ∙ f)) }
    go true false true p q r e = record { two = leb-true 2 (length bs) p; own = λ f. leb-true (2 + length_in bs) (length bs) r }
    go true false false p q r e = absurd (false≢true e)
    go false y z p q r e = absurd (false≢true e)

pub shows_intro : (bs : List ℕ) → Shown bs → shows bs ≡ true
unfolding shows
shows_intro bs h = rw (le-leb 2 (length bs) h.two) (go (outside 2 66 (length_in bs)) refl)
  where
    go : (y : Bool) → outside 2 66 (length_in bs) ≡ y → y || leb (2 + length_in bs) (length bs) ≡ true
    go true q = refl
    go false q = le-leb (2 + length_in bs) (length bs) (h.own q)

-- 68 bytes show any record
pub long_shows : (bs : List ℕ) → 68 ≤ length bs → shows bs ≡ true
long_shows bs h = shows_intro bs (record { two = omega arith; own = λ f. let within = inside_elim 2 66 (length_in bs) f in omega arith })

module _ (n : ℕ) (bs : List ℕ) (h : Shown (take n bs)) where
  long : 2 ≤ n
  long = omega (arith, h.two, length-take n bs)

  module _ (feed : Feed) where
    pub head_shown : head_of feed (take n bs) ≡ head_of feed bs
    head_shown = go (outside 2 66 (length_in bs)) refl
      where
        same : length_in (take n bs) ≡ length_in bs
        same = length_in_first n bs long

        go : (out : Bool) → outside 2 66 (length_in bs) ≡ out → head_of feed (take n bs) ≡ head_of feed bs
        go true o = head_outside feed (take n bs) h.two (ap (outside 2 66) same ∙ o) ∙ sym (head_outside feed bs (omega (arith, h.two, length-take n bs)) o)
        go false o =
            let within = inside_elim 2 66 (length_in bs) o in
            let shown = ap (outside 2 66) same ∙ o in
            let enough = h.own shown in
            head_kind feed (take n bs) h.two shown enough
            ∙ ap (λ (k : ℕ). head_unless (kind_checks feed k (length_in (take n bs))) k (length_in (take n bs))) (kind_in_first n bs (omega (arith, same, length-take n bs)))
            ∙ ap (λ (k : ℕ). head_unless (kind_checks feed (kind_in bs) k) (kind_in bs) k) same
            ∙ sym (head_kind feed bs (omega (arith, h.two, length-take n bs)) o (omega (arith, same, length-take n bs)))

  pub reading_shown : (at : ℕ) → reading_from at (take n bs) ≡ reading_from at bs
  unfolding reading_from
  reading_shown at = go (head_of Input (take n bs)) refl ∙ ap (reading_of at bs) (head_shown Input)
    where
      go : (head : Head) → head_of Input (take n bs) ≡ head → reading_of at (take n bs) head ≡ reading_of at bs head
      go (Whole kind size) e =
          ap (λ (r : Record). found_at at r (at + 2 + size))
          (record_in_first n bs kind size (whole_row Input (take n bs) e) (omega (arith, (whole_elim Input (take n bs) e).enough, length-take n bs)))
      go (refused_head number) e = refl
      go no_head e = refl

  pub pair_shown : (at : ℕ) → pair_reading_from at (take n bs) ≡ pair_reading_from at bs
  unfolding pair_reading_from
  pair_shown at = go (head_of Output (take n bs)) refl ∙ ap (pair_reading_of at bs) (head_shown Output)
    where
      go : (head : Head) → head_of Output (take n bs) ≡ head → pair_reading_of at (take n bs) head ≡ pair_reading_of at bs head
      go (Whole kind size) e =
          let is = whole_pair (take n bs) e in
          ap (λ (numbers : List ℕ). Found (pair_in numbers) (at + 2 + size)) (fields_in_first n bs pair (omega (arith, is.1, (whole_elim Output (take n bs) e).enough, length-take n bs)))
      go (refused_head number) e = refl
      go no_head e = refl

-- ---- so no more than 68 bytes decide

-- they show a record, or are all that is left
in_68 : {R : Type 0} (f : List ℕ → R) → ((bs : List ℕ) → Shown (take 68 bs) → f (take 68 bs) ≡ f bs) → (bs : List ℕ) → f bs ≡ f (take 68 bs)
in_68 f shown bs = go (leb (length bs) 68) refl
  where
    go : (all : Bool) → leb (length bs) 68 ≡ all → f bs ≡ f (take 68 bs)
    go true h = sym (ap f (take_all 68 bs (leb-true (length bs) 68 h)))
    go false h = sym (shown bs (shows_elim (take 68 bs) (long_shows (take 68 bs) (let more = leb-false (length bs) 68 h in simp length-take (omega arith)))))

pub reading_local : (s : List ℕ) (at : ℕ) → reading s at ≡ reading_from at (take 68 (drop at s))
unfolding reading
reading_local s at = in_68 (reading_from at) (λ bs h. reading_shown 68 bs h at) (drop at s)

pub pair_local : (s : List ℕ) (at : ℕ) → pair_reading s at ≡ pair_reading_from at (take 68 (drop at s))
unfolding pair_reading
pair_local s at = in_68 (pair_reading_from at) (λ bs h. pair_shown 68 bs h at) (drop at s)

-- ---- through a window

-- a reading whose places are counted from further ahead
abbrev pub moved : ℕ → Reading → Reading
moved base (Found r next) = Found r (base + next)
moved base (Refused number place) = Refused number (base + place)
moved base End = End

moved_from : (base at : ℕ) (bs : List ℕ) → reading_from (base + at) bs ≡ moved base (reading_from at bs)
unfolding reading_from found_at
moved_from base at bs = go (head_of Input bs)
  where
    found : (known : Bool) (r : Record) (size : ℕ) → first_or (λ (number : ℕ). Refused number (base + at)) (Found r (base + at + 2 + size)) ((not known gives 1) ∷ [])
        ≡ moved base (first_or (λ (number : ℕ). Refused number at) (Found r (at + 2 + size)) ((not known gives 1) ∷ []))
    found true r size = ap (Found r) (omega arith)
    found false r size = refl

    go : (head : Head) → reading_of (base + at) bs head ≡ moved base (reading_of at bs head)
    go (Whole kind size) = found (stream_known (record_in kind size bs)) (record_in kind size bs) size
    go (refused_head number) = refl
    go no_head = refl

-- where a window shows the same 68 bytes as the feed, or both end within them at the same byte, its reading is the feed's
pub reading_window : (s window : List ℕ) (base at : ℕ) → take 68 (drop (base + at) s) ≡ take 68 (drop at window) → reading s (base + at) ≡ moved base (reading window at)
reading_window s window base at h =
    reading_local s (base + at)
    ∙ ap (reading_from (base + at)) h
    ∙ moved_from base at (take 68 (drop at window))
    ∙ ap (moved base) (sym (reading_local window at))
