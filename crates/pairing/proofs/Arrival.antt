-- Laws of the pairs that an entry of one side makes with entries of the other.
use Prim.Native.Nat.{ℕ, ◌<◌, ◌≤◌}
use mathlib.Core.Bool.{Bool, true, false, cond}
use mathlib.Core.List.{List, [], ◌∷◌, ◌++◌, append-nil, map, flat_map}
use mathlib.Core.Path.{◌≡◌, refl, sym, ap, ◌∙◌}
use Rattle.interval.specs.Interval.{proper_of, meeting_of}
use Rattle.interval.proofs.Laws.{meeting_comm, meeting_start, meeting_later}
use Rattle.std.specs.Prelude.{filter}
use Rattle.lists.proofs.All.{All, Each, all_map₂, all_mapped, each_mapped}
use Rattle.lists.proofs.Filter.{filter_passes, all_filtered, each_filtered}
use Rattle.lists.proofs.Order.{Apart, Ascending}
use Rattle.pairing.specs.declared.Numbered.{Numbered}
use Rattle.pairing.specs.declared.Pair.{Pair}
use Rattle.pairing.specs.declared.Rule.{Rule}
use Rattle.pairing.specs.declared.Side.{Side}
use Rattle.pairing.specs.declared.Side.TheVariants.{A, B}
use Rattle.pairing.specs.Pair.{pairs, pair_of, comes_before}
use Rattle.pairing.specs.Plain.{couple_that, couples_that}
use Rattle.pairing.specs.Side.{pair_from, new_pairs}
use Rattle.pairing.proofs.Pairs.{pairs_meeting, pairs_comm, pair_meeting, pair_ordinal_a, pair_ordinal_b, apart_a, apart_b, before_by_a, before_by_b}

-- the entries that pair with x
abbrev pub pairing : Rule → Numbered → Numbered → Bool
pairing rule x y = pairs rule x.entry y.entry

-- the new pairs are those with each entry that pairs, in the order of those entries
pub new_pairs_map : (rule : Rule) (side : Side) (x : Numbered) (others : List Numbered) → new_pairs rule side x others ≡ map (pair_from side x) (filter (pairing rule x) others)
unfolding couples_that flat_map couple_that
new_pairs_map rule A x others = append-nil (flat_map (couple_that (pairs rule) x) others) ∙ row others
  where
    row : (ys : List Numbered) → flat_map (couple_that (pairs rule) x) ys ≡ map (pair_of x) (filter (pairing rule x) ys)
    row [] = refl
    row (y ∷ ys) = ap (λ (l : List Pair). cond (pairing rule x y) (pair_of x y ∷ []) [] ++ l) (row ys) ∙ go (pairing rule x y)
      where
        go : (b : Bool) → cond b (pair_of x y ∷ []) [] ++ map (pair_of x) (filter (pairing rule x) ys) ≡ map (pair_of x) (cond b (y ∷ filter (pairing rule x) ys) (filter (pairing rule x) ys))
        go true = refl
        go false = refl
new_pairs_map rule B x others = column others
  where
    column : (ys : List Numbered) → flat_map (λ (y : Numbered). flat_map (couple_that (pairs rule) y) (x ∷ [])) ys ≡ map (λ (y : Numbered). pair_of y x) (filter (pairing rule x) ys)
    column [] = refl
    column (y ∷ ys) =
        ap (λ (l : List Pair). (cond (pairs rule y.entry x.entry) (pair_of y x ∷ []) [] ++ []) ++ l) (column ys)
        ∙ ap (λ (b : Bool). (cond b (pair_of y x ∷ []) [] ++ []) ++ map (λ (y : Numbered). pair_of y x) (filter (pairing rule x) ys)) (pairs_comm rule y.entry x.entry)
        ∙ go (pairing rule x y)
      where
        go : (b : Bool) → (cond b (pair_of y x ∷ []) [] ++ []) ++ map (λ (y : Numbered). pair_of y x) (filter (pairing rule x) ys)
            ≡ map (λ (y : Numbered). pair_of y x) (cond b (y ∷ filter (pairing rule x) ys) (filter (pairing rule x) ys))
        go true = refl
        go false = refl

-- a higher ordinal, and a start that does not fall
abbrev pub Later : Numbered → Numbered → Type 0
Later y z = (y.ordinal < z.ordinal) × (y.entry.span.start ≤ z.entry.span.start)

-- the pairs with an entry and with a later one are in order
pair_from_later : (side : Side) (x y z : Numbered) → Later y z → comes_before (pair_from side x y) (pair_from side x z) ≡ true
pair_from_later A x y z h =
    before_by_b (pair_of x y) (pair_of x z) (rw (pair_meeting x y, pair_meeting x z) (meeting_later x.entry.span y.entry.span z.entry.span h.1))
    (pair_ordinal_a x y ∙ sym (pair_ordinal_a x z)) (rw (pair_ordinal_b x y, pair_ordinal_b x z) h.0)
pair_from_later B x y z h =
    before_by_a (pair_of y x) (pair_of z x)
    (rw (pair_meeting y x, pair_meeting z x, meeting_comm y.entry.span x.entry.span, meeting_comm z.entry.span x.entry.span) (meeting_later x.entry.span y.entry.span z.entry.span h.1))
    (rw (pair_ordinal_a y x, pair_ordinal_a z x) h.0)

-- with entries that follow one another, the new pairs come in ascending order
pub new_pairs_ascending : (rule : Rule) (side : Side) (x : Numbered) (others : List Numbered) → Each Later others → Ascending comes_before (new_pairs rule side x others)
new_pairs_ascending rule side x others h =
    rw (new_pairs_map rule side x others)
    (each_mapped (pair_from side x) Later (λ (p q : Pair). comes_before p q ≡ true) (pair_from_later side x) (filter (pairing rule x) others) (each_filtered Later (pairing rule x) others h))

-- ---- a pair, seen from one of its sides

-- the ordinal of the side's own entry in a pair
abbrev pub own_in : Side → Pair → ℕ
own_in A p = p.a.ordinal
own_in B p = p.b.ordinal

-- the ordinal of the other side's entry in it
abbrev pub other_in : Side → Pair → ℕ
other_in A p = p.b.ordinal
other_in B p = p.a.ordinal

-- pairs that differ in an own ordinal differ in order
pub apart_own : (side : Side) (p q : Pair) → (own_in side p ≡ own_in side q → ⊥) → Apart comes_before p q
apart_own A p q n = apart_a p q n
apart_own B p q n = apart_b p q n

module _ (x y : Numbered) where
  pub pair_from_own : (side : Side) → own_in side (pair_from side x y) ≡ x.ordinal
  pair_from_own A = pair_ordinal_a x y
  pair_from_own B = pair_ordinal_b y x

  pub pair_from_other : (side : Side) → other_in side (pair_from side x y) ≡ y.ordinal
  pair_from_other A = pair_ordinal_b x y
  pair_from_other B = pair_ordinal_a y x

  pub pair_from_meeting : (side : Side) → (pair_from side x y).meeting ≡ meeting_of x.entry.span y.entry.span
  pair_from_meeting A = pair_meeting x y
  pair_from_meeting B = pair_meeting y x ∙ meeting_comm y.entry.span x.entry.span

  -- entries that pair make a pair with a proper interval
  pub pair_from_proper : (side : Side) (rule : Rule) → pairing rule x y ≡ true → proper_of (pair_from side x y).meeting ≡ true
  pair_from_proper side rule e = ap proper_of (pair_from_meeting side) ∙ pairs_meeting rule x.entry y.entry e

  -- a pair starts no earlier than its entries
  pub pair_from_start : (side : Side) → x.entry.span.start ≤ (pair_from side x y).meeting.start
  pair_from_start side = rw (pair_from_meeting side) (meeting_start x.entry.span y.entry.span)

-- what holds of each new pair holds of all
pub all_new_pairs : (P : Pair → Type 0) (Q : Numbered → Type 0) (rule : Rule) (side : Side) (x : Numbered) (others : List Numbered)
    → ((y : Numbered) → Q y → pairing rule x y ≡ true → P (pair_from side x y)) → All Q others → All P (new_pairs rule side x others)
all_new_pairs P Q rule side x others f h =
    rw (new_pairs_map rule side x others)
    (all_mapped (pair_from side x) (λ (y : Numbered). Q y × (pairing rule x y ≡ true)) P (λ y q. f y q.0 q.1) (filter (pairing rule x) others)
    (all_map₂ Q (λ (y : Numbered). pairing rule x y ≡ true) (λ (y : Numbered). Q y × (pairing rule x y ≡ true)) (λ y q e. (q, e)) (filter (pairing rule x) others)
    (all_filtered Q (pairing rule x) others h) (filter_passes (pairing rule x) others)))
