-- Laws of `head_of`: which check decides.
use Prim.Native.Nat.{ℕ, ◌+◌, ◌≤◌}
use native.Mathlib.Omega.{arith}
use mathlib.Core.Bool.{Bool, true, false, cond, ◌||◌, true≢false}
use mathlib.Core.List.{List, [], ◌∷◌}
use mathlib.Core.Path.{◌≡◌, refl, sym}
use lib.ListN.{length}
use lib.Dec.{ltb, eqb}
use borrow.Author.Tests.{eq-eqb, ne_eqb, le-ltb, ltb-false, eqb-true}
use Rattle.lists.specs.Check.{◌gives◌, first_or}
use Rattle.feed.specs.declared.Feed.{Feed}
use Rattle.feed.specs.declared.Feed.TheVariants.{Input, Output}
use Rattle.feed.specs.Head.{Whole, Refused, End}
use Rattle.feed.specs.Kind.{Within, Kind, kinds_of, lengths_among, lengths_of}
use Rattle.feed.specs.Reading.{unknown, unfit, length_in, kind_in, outside, kind_checks, head_checks, head_unless, head_of}

-- ---- a length within limits

pub inside_elim : (shortest longest n : ℕ) → outside shortest longest n ≡ false → (shortest ≤ n) × (n ≤ longest)
unfolding outside
inside_elim shortest longest n h = go (ltb n shortest) (ltb longest n) refl refl h
  where
    go : (a b : Bool) → ltb n shortest ≡ a → ltb longest n ≡ b → a || b ≡ false → (shortest ≤ n) × (n ≤ longest)
    go true b p q e = absurd (true≢false e)
    go false true p q e = absurd (true≢false e)
    go false false p q e = (ltb-false n shortest p, ltb-false longest n q)

pub inside_intro : (shortest longest n : ℕ) → shortest ≤ n → n ≤ longest → outside shortest longest n ≡ false
unfolding outside
inside_intro shortest longest n h k = rw (le-ltb n shortest h, le-ltb longest n k)

-- ---- the rows of the table

pub lengths_entry : lengths_of Input 1 ≡ Within 20 20
unfolding lengths_of
lengths_entry = refl

pub lengths_mark : lengths_of Input 2 ≡ Within 8 8
unfolding lengths_of
lengths_mark = refl

pub lengths_close : lengths_of Input 3 ≡ Within 4 4
unfolding lengths_of
lengths_close = refl

pub lengths_note : lengths_of Input 4 ≡ Within 2 66
unfolding lengths_of
lengths_note = refl

pub lengths_pair : lengths_of Output 257 ≡ Within 34 34
unfolding lengths_of
lengths_pair = refl

-- ---- what is left of the feed

module _ (feed : Feed) (bs : List ℕ) where
  pub head_none : length bs ≡ 0 → head_of feed bs ≡ End
  unfolding head_of
  head_none h = rw (eq-eqb (length bs) 0 h)

  module _ (h : 2 ≤ length bs) where
    pub head_outside : outside 2 66 (length_in bs) ≡ true → head_of feed bs ≡ Refused 10
    unfolding head_of head_unless head_checks
    head_outside o = simp (ne_eqb (length bs) 0 (λ e. omega arith), le-ltb (length bs) 2 h, o)

    module _ (inside : outside 2 66 (length_in bs) ≡ false) where
      pub head_kind : 2 + length_in bs ≤ length bs → head_of feed bs ≡ head_unless (kind_checks feed (kind_in bs) (length_in bs)) (kind_in bs) (length_in bs)
      unfolding head_of head_unless head_checks
      head_kind s = simp (ne_eqb (length bs) 0 (λ e. omega arith), le-ltb (length bs) 2 h, inside, le-ltb (length bs) (2 + length_in bs) s)

-- ---- the kind and the length

module _ (feed : Feed) (kind size : ℕ) where
  pub kind_fit : (shortest longest : ℕ) → lengths_of feed kind ≡ Within shortest longest → outside shortest longest size ≡ false → head_unless (kind_checks feed kind size) kind size ≡ Whole kind size
  unfolding head_unless kind_checks
  kind_fit shortest longest e o = simp (e, o)

-- ---- what a whole record tells

pub record WholeHead (feed : Feed) (bs : List ℕ) (kind size : ℕ) : Type 0 where
  pub kind_in_lem : kind ≡ kind_in bs
  pub size_in : size ≡ length_in bs
  pub limits : outside 2 66 size ≡ false
  pub enough : 2 + size ≤ length bs
  pub fits : unfit (lengths_of feed kind) size ≡ false

pub whole_elim : (feed : Feed) (bs : List ℕ) {kind size : ℕ} → head_of feed bs ≡ Whole kind size → WholeHead feed bs kind size
unfolding head_of head_unless head_checks kind_checks
whole_elim feed bs {kind} {size} h =
    go (eqb (length bs) 0) (ltb (length bs) 2) (outside 2 66 (length_in bs)) (ltb (length bs) (2 + length_in bs)) (unknown (lengths_of feed (kind_in bs)))
    (unfit (lengths_of feed (kind_in bs)) (length_in bs)) refl refl refl h
  where
    go : (none lone out short other bad : Bool) → outside 2 66 (length_in bs) ≡ out → ltb (length bs) (2 + length_in bs) ≡ short → unfit (lengths_of feed (kind_in bs)) (length_in bs) ≡ bad
        → cond none End (first_or Refused (Whole (kind_in bs) (length_in bs)) ((lone gives 9) ∷ (out gives 10) ∷ (short gives 9) ∷ (other gives 11) ∷ (bad gives 10) ∷ [])) ≡ Whole kind size
        → WholeHead feed bs kind size
    go true lone out short other bad p q r e = absurd (let z : ◌≡◌ {A = ℕ} 0 1 = cc in omega arith)
    go false true out short other bad p q r e = absurd (let z : ◌≡◌ {A = ℕ} 0 1 = cc in omega arith)
    go false false true short other bad p q r e = absurd (let z : ◌≡◌ {A = ℕ} 0 1 = cc in omega arith)
    go false false false true other bad p q r e = absurd (let z : ◌≡◌ {A = ℕ} 0 1 = cc in omega arith)
    go false false false false true bad p q r e = absurd (let z : ◌≡◌ {A = ℕ} 0 1 = cc in omega arith)
    go false false false false false true p q r e = absurd (let z : ◌≡◌ {A = ℕ} 0 1 = cc in omega arith)
    go false false false false false false p q r e =
        let k : kind_in bs ≡ kind = cc in
        let n : length_in bs ≡ size = cc in
        record {
          kind_in_lem = sym k;
          size_in = sym n;
          limits = rw n at p;
          enough = rw n at (ltb-false (length bs) (2 + length_in bs) q);
          fits = rw (k, n) at r;
        }

-- a record of a kind has a length that the table gives to the kind
pub whole_within : (feed : Feed) (bs : List ℕ) {kind size : ℕ} (shortest longest : ℕ) → head_of feed bs ≡ Whole kind size → lengths_of feed kind ≡ Within shortest longest → (shortest ≤ size) × (size ≤ longest)
whole_within feed bs {kind} {size} shortest longest h e = inside_elim shortest longest size (rw e at (whole_elim feed bs h).fits)

-- so its bytes are there
pub whole_enough : (feed : Feed) (bs : List ℕ) {kind size : ℕ} (shortest longest : ℕ) → head_of feed bs ≡ Whole kind size → lengths_of feed kind ≡ Within shortest longest → 2 + shortest ≤ length bs
whole_enough feed bs shortest longest h e =
    let within = whole_within feed bs shortest longest h e in
    omega (arith, (whole_elim feed bs h).enough)

-- the row of the table that a kind and a length stand in
pub data Row (kind size : ℕ) : List Kind → Type 0 where
  here : {row : Kind} {rows : List Kind} → kind ≡ row.number → (row.shortest ≤ size) × (size ≤ row.longest) → Row kind size (row ∷ rows)
  there : {row : Kind} {rows : List Kind} → Row kind size rows → Row kind size (row ∷ rows)

row_among : (rows : List Kind) (kind size : ℕ) → unfit (lengths_among rows kind) size ≡ false → Row kind size rows
row_among [] kind size h = absurd (true≢false h)
row_among (row ∷ rows) kind size h = go (eqb kind row.number) refl (row_among rows kind size) h
  where
    go : (same : Bool) → eqb kind row.number ≡ same → (unfit (lengths_among rows kind) size ≡ false → Row kind size rows) → unfit (cond same (Within row.shortest row.longest) (lengths_among rows kind)) size ≡ false → Row kind size (row ∷ rows)
    go true p f e = here (eqb-true kind row.number p) (inside_elim row.shortest row.longest size e)
    go false p f e = there (f e)

pub whole_row : (feed : Feed) (bs : List ℕ) {kind size : ℕ} → head_of feed bs ≡ Whole kind size → Row kind size (kinds_of feed)
unfolding lengths_of
whole_row feed bs {kind} {size} h = row_among (kinds_of feed) kind size (whole_elim feed bs h).fits

-- a record of an output feed is a pair
pub whole_pair : (bs : List ℕ) {kind size : ℕ} → head_of Output bs ≡ Whole kind size → (kind ≡ 257) × (size ≡ 34)
whole_pair bs {kind} {size} h = go (whole_row Output bs h)
  where
    go : Row kind size (kinds_of Output) → (kind ≡ 257) × (size ≡ 34)
    go (here k (l, m)) = (k, omega arith)
    go (there x3) = elim x3 [ ]

-- ---- a whole record has the bytes of its kind

module _ (bs : List ℕ) {kind size : ℕ} where
  pub entry_enough : head_of Input bs ≡ Whole kind size → kind ≡ 1 → 22 ≤ length bs
  entry_enough h e = whole_enough Input bs 20 20 h (rw e lengths_entry)

  pub mark_enough : head_of Input bs ≡ Whole kind size → kind ≡ 2 → 10 ≤ length bs
  mark_enough h e = whole_enough Input bs 8 8 h (rw e lengths_mark)

  pub close_enough : head_of Input bs ≡ Whole kind size → kind ≡ 3 → 6 ≤ length bs
  close_enough h e = whole_enough Input bs 4 4 h (rw e lengths_close)

  pub pair_enough : head_of Output bs ≡ Whole kind size → 36 ≤ length bs
  pair_enough h = whole_enough Output bs 34 34 h (rw (whole_pair bs h).0 lengths_pair)

  pub two_enough : head_of Input bs ≡ Whole kind size → 2 ≤ size
  two_enough h = (inside_elim 2 66 size (whole_elim Input bs h).limits).0
