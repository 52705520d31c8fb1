-- Laws of the plain list: it is all the pairs, each once, in ascending order; what one more entry adds; and its pairs at an instant.
use Prim.Native.Nat.{ℕ, suc, ◌+◌, ◌<◌}
use native.Mathlib.Omega.{arith}
use native.Mathlib.Nat.{add-zero, zero-add}
use mathlib.Core.Bool.{Bool, true, false, cond, ◌&&◌}
use mathlib.Core.List.{List, [], ◌∷◌, ◌++◌, flat_map, Perm}
use mathlib.Core.Path.{◌≡◌, refl, ap, ◌∙◌}
use lib.ListN.{length}
use Rattle.interval.specs.Interval.{holds_at, meeting_of}
use Rattle.std.specs.Prelude.{filter}
use Rattle.lists.specs.Sort.{insert_all_by}
use Rattle.lists.proofs.All.{All, Each, all_any, all_map}
use Rattle.lists.proofs.FlatMap.{flat_map_same, all_flat_map, each_flat_map}
use Rattle.lists.proofs.Grid.{grid_row, grid_column}
use Rattle.lists.proofs.Filter.{filter_flat_map, filter_perm}
use Rattle.lists.proofs.Order.{Apart, Ascending}
use Rattle.lists.proofs.Sort.{sort_by_perm, sort_by_ascending}
use Rattle.pairing.specs.declared.Entry.{Entry}
use Rattle.pairing.specs.declared.Numbered.{Numbered}
use Rattle.pairing.specs.declared.Pair.{Pair}
use Rattle.pairing.specs.declared.Rule.{Rule}
use Rattle.pairing.specs.Pair.{pairs, pair_of, comes_before}
use Rattle.pairing.specs.Plain.{numbered_from, couple_that, couples_that, plain, match_at, couples_at}
use Rattle.pairing.proofs.Pairs.{pairs_at, pair_meeting, pair_ordinal_a, pair_ordinal_b, strict_comes_before, apart_a, apart_b}

-- ---- ordinals

pub numbered_snoc : (n : ℕ) (es : List Entry) (e : Entry) → numbered_from n (es ++ (e ∷ [])) ≡ numbered_from n es ++ (record { entry = e; ordinal = n + length es } ∷ [])
numbered_snoc n [] e = rw add-zero
numbered_snoc n (x ∷ es) e =
    let k : suc n + length es ≡ n + suc (length es) = omega arith in
    rw (numbered_snoc (suc n) es e, k)

numbered_below : (n : ℕ) (es : List Entry) → All (λ (x : Numbered). x.ordinal < n + length es) (numbered_from n es)
numbered_below n [] = tt
numbered_below n (e ∷ es) =
    let k : suc n + length es ≡ n + suc (length es) = omega arith in
    (omega arith, rw k at (numbered_below (suc n) es))

abbrev Ordered : Numbered → Numbered → Type 0
Ordered x y = x.ordinal < y.ordinal

numbered_above : (m n : ℕ) → m < n → (es : List Entry) → All (λ (x : Numbered). m < x.ordinal) (numbered_from n es)
numbered_above m n h [] = tt
numbered_above m n h (e ∷ es) = (h, numbered_above m (suc n) (omega arith) es)

numbered_ordered : (n : ℕ) (es : List Entry) → Each Ordered (numbered_from n es)
numbered_ordered n [] = tt
numbered_ordered n (e ∷ es) = (numbered_above n (suc n) (omega arith) es, numbered_ordered (suc n) es)

-- ---- couples

all_couple : (P : Pair → Type 0) (test : Entry → Entry → Bool) (a b : Numbered) → P (pair_of a b) → All P (couple_that test a b)
unfolding couple_that
all_couple P test a b h = go (test a.entry b.entry)
  where
    go : (c : Bool) → All P (cond c (pair_of a b ∷ []) [])
    go true = (h, tt)
    go false = tt

-- a test on the ordinals of a couple's pair
couple_a : (P : ℕ → Type 0) (test : Entry → Entry → Bool) (a b : Numbered) → P a.ordinal → All (λ (p : Pair). P p.a.ordinal) (couple_that test a b)
couple_a P test a b h = all_couple (λ (p : Pair). P p.a.ordinal) test a b (rw (pair_ordinal_a a b) h)

couple_b : (P : ℕ → Type 0) (test : Entry → Entry → Bool) (a b : Numbered) → P b.ordinal → All (λ (p : Pair). P p.b.ordinal) (couple_that test a b)
couple_b P test a b h = all_couple (λ (p : Pair). P p.b.ordinal) test a b (rw (pair_ordinal_b a b) h)

row_a : (test : Entry → Entry → Bool) (a : Numbered) (of_b : List Numbered) → All (λ (p : Pair). p.a.ordinal ≡ a.ordinal) (flat_map (couple_that test a) of_b)
row_a test a of_b =
    all_flat_map (λ (p : Pair). p.a.ordinal ≡ a.ordinal) (couple_that test a) (λ (b : Numbered). Unit {0})
    (λ b u. couple_a (λ (n : ℕ). n ≡ a.ordinal) test a b refl) of_b (all_any (λ (b : Numbered). Unit {0}) (λ b. tt) of_b)

-- elements of P and elements of Q are apart, so each of one list is apart from all of the other
apart_lists : (P Q : Pair → Type 0) → ((p q : Pair) → P p → Q q → Apart comes_before p q) → (ps qs : List Pair) → All P ps → All Q qs → All (λ (p : Pair). All (Apart comes_before p) qs) ps
apart_lists P Q apart ps qs h k = all_map P (λ (p : Pair). All (Apart comes_before p) qs) (λ p m. all_map Q (Apart comes_before p) (λ q n. apart p q m n) qs k) ps h

couple_apart : (test : Entry → Entry → Bool) (a b : Numbered) → Each (Apart comes_before) (couple_that test a b)
unfolding couple_that
couple_apart test a b = go (test a.entry b.entry)
  where
    go : (c : Bool) → Each (Apart comes_before) (cond c (pair_of a b ∷ []) [])
    go true = (tt, tt)
    go false = tt

row_apart : (test : Entry → Entry → Bool) (a : Numbered) (of_b : List Numbered) → Each Ordered of_b → Each (Apart comes_before) (flat_map (couple_that test a) of_b)
row_apart test a of_b h =
    each_flat_map (Apart comes_before) Ordered (couple_that test a) (couple_apart test a)
    (λ b b' l. apart_lists (λ (p : Pair). p.b.ordinal ≡ b.ordinal) (λ (p : Pair). p.b.ordinal ≡ b'.ordinal) (λ p q m n. apart_b p q (λ e. omega arith))
    (couple_that test a b) (couple_that test a b') (couple_b (λ (n : ℕ). n ≡ b.ordinal) test a b refl) (couple_b (λ (n : ℕ). n ≡ b'.ordinal) test a b' refl)) of_b h

couples_apart : (test : Entry → Entry → Bool) (of_a of_b : List Numbered) → Each Ordered of_a → Each Ordered of_b → Each (Apart comes_before) (couples_that test of_a of_b)
unfolding couples_that
couples_apart test of_a of_b h k =
    each_flat_map (Apart comes_before) Ordered (λ (a : Numbered). flat_map (couple_that test a) of_b) (λ a. row_apart test a of_b k)
    (λ a a' l. apart_lists (λ (p : Pair). p.a.ordinal ≡ a.ordinal) (λ (p : Pair). p.a.ordinal ≡ a'.ordinal) (λ p q m n. apart_a p q (λ e. omega arith))
    (flat_map (couple_that test a) of_b) (flat_map (couple_that test a') of_b) (row_a test a of_b) (row_a test a' of_b)) of_a h

-- ---- the plain list is all the pairs, in strictly ascending order

pub plain_perm : (rule : Rule) (of_a of_b : List Entry) → Perm (plain rule of_a of_b) (couples_that (pairs rule) (numbered_from 0 of_a) (numbered_from 0 of_b))
unfolding plain
plain_perm rule of_a of_b = sort_by_perm comes_before (couples_that (pairs rule) (numbered_from 0 of_a) (numbered_from 0 of_b))

pub plain_ascending : (rule : Rule) (of_a of_b : List Entry) → Ascending comes_before (plain rule of_a of_b)
unfolding plain
plain_ascending rule of_a of_b =
    sort_by_ascending comes_before strict_comes_before (couples_that (pairs rule) (numbered_from 0 of_a) (numbered_from 0 of_b))
    (couples_apart (pairs rule) (numbered_from 0 of_a) (numbered_from 0 of_b) (numbered_ordered 0 of_a) (numbered_ordered 0 of_b))

-- ---- one more entry: its couples with all the entries of the other journal are put into the plain list of the rest

pub plain_a : (rule : Rule) (of_a of_b : List Entry) (e : Entry)
    → plain rule (of_a ++ (e ∷ [])) of_b ≡ insert_all_by comes_before (couples_that (pairs rule) (record { entry = e; ordinal = length of_a } ∷ []) (numbered_from 0 of_b)) (plain rule of_a of_b)
unfolding plain couples_that
plain_a rule of_a of_b e =
    rw (numbered_snoc 0 of_a e, zero-add)
    (grid_row (couple_that (pairs rule)) comes_before (numbered_from 0 of_a) (numbered_from 0 of_b) (record { entry = e; ordinal = length of_a }) [])

pub plain_b : (rule : Rule) (of_a of_b : List Entry) (e : Entry)
    → plain rule of_a (of_b ++ (e ∷ [])) ≡ insert_all_by comes_before (couples_that (pairs rule) (numbered_from 0 of_a) (record { entry = e; ordinal = length of_b } ∷ [])) (plain rule of_a of_b)
unfolding plain couples_that
plain_b rule of_a of_b e =
    let m = length of_b in
    rw (numbered_snoc 0 of_b e, zero-add)
    (grid_column (couple_that (pairs rule)) comes_before strict_comes_before (λ (p : Pair). p.b.ordinal < m) (λ (p : Pair). p.b.ordinal ≡ m)
    (λ p q n k. apart_b p q (λ e. omega arith)) (numbered_from 0 of_b) (record { entry = e; ordinal = m })
    (λ a. all_flat_map (λ (p : Pair). p.b.ordinal < m) (couple_that (pairs rule) a) (λ (b : Numbered). b.ordinal < m)
    (λ b h. couple_b (λ (n : ℕ). n < m) (pairs rule) a b h) (numbered_from 0 of_b) (rw zero-add at (numbered_below 0 of_b)))
    (λ a. couple_b (λ (n : ℕ). n ≡ m) (pairs rule) a (record { entry = e; ordinal = m }) refl) (numbered_from 0 of_a) [])

-- ---- the pairs at an instant

couple_at : (t : ℕ) (rule : Rule) (a b : Numbered) → filter (λ (p : Pair). holds_at t p.meeting) (couple_that (pairs rule) a b) ≡ couple_that (match_at t rule) a b
unfolding couple_that
couple_at t rule a b =
    go (pairs rule a.entry b.entry) (holds_at t (meeting_of a.entry.span b.entry.span)) (match_at t rule a.entry b.entry)
    (pairs_at rule a.entry b.entry t) (ap (holds_at t) (pair_meeting a b))
  where
    go : (x y z : Bool) → x && y ≡ z → holds_at t (pair_of a b).meeting ≡ y → filter (λ (p : Pair). holds_at t p.meeting) (cond x (pair_of a b ∷ []) []) ≡ cond z (pair_of a b ∷ []) []
    go true y z e h = rw (h, e)
    go false y z e h = rw (← e)

couples_at_lem : (t : ℕ) (rule : Rule) (of_a of_b : List Numbered) → filter (λ (p : Pair). holds_at t p.meeting) (couples_that (pairs rule) of_a of_b) ≡ couples_that (match_at t rule) of_a of_b
unfolding couples_that
couples_at_lem t rule of_a of_b =
    let now : Pair → Bool = λ p. holds_at t p.meeting in
    filter_flat_map now (λ (a : Numbered). flat_map (couple_that (pairs rule) a) of_b) of_a
    ∙ flat_map_same (λ (a : Numbered). filter now (flat_map (couple_that (pairs rule) a) of_b)) (λ (a : Numbered). flat_map (couple_that (match_at t rule) a) of_b)
    (λ a. filter_flat_map now (couple_that (pairs rule) a) of_b ∙ flat_map_same (λ (b : Numbered). filter now (couple_that (pairs rule) a b)) (couple_that (match_at t rule) a) (couple_at t rule a) of_b) of_a

-- with repeats, the pairs of the plain list that hold at t are the matching couples of entries that hold at t
pub plain_at : (t : ℕ) (rule : Rule) (of_a of_b : List Entry) → Perm (filter (λ (p : Pair). holds_at t p.meeting) (plain rule of_a of_b)) (couples_at t rule of_a of_b)
unfolding couples_at
plain_at t rule of_a of_b =
    rw (couples_at_lem t rule (numbered_from 0 of_a) (numbered_from 0 of_b)) at
    (filter_perm (λ (p : Pair). holds_at t p.meeting) (plain rule of_a of_b) (couples_that (pairs rule) (numbered_from 0 of_a) (numbered_from 0 of_b)) (plain_perm rule of_a of_b))
