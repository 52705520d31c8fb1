-- Laws of the pairing test, of the pair and of the order of pairs. Above this file only `Rank` looks into the order, one lemma of the demands' streams into the pair, and computed examples into `fits`, `pairs`, `pair_of` or `comes_before`.
use Prim.Native.Nat.{ℕ, ◌<◌, ◌≤◌}
use native.Mathlib.Omega.{arith}
use mathlib.Core.Bool.{Bool, true, false, ◌&&◌, and-false, true≢false}
use mathlib.Core.Path.{◌≡◌, refl, sym, ap, ◌∙◌}
use lib.Dec.{leb, eqb}
use borrow.Author.Tests.{eqb-true, eq-eqb}
use Rattle.interval.specs.declared.Interval.{Interval}
use Rattle.interval.specs.Interval.{holds_at, proper_of, meeting_of}
use Rattle.interval.proofs.Laws.{holds_proper, meeting_holds, meeting_comm, meeting_ended}
use Rattle.lists.proofs.Bools.{and_left, and_right, bool_ext}
use Rattle.lists.proofs.Order.{StrictOrder, Apart, Compared, less, equal, more, compared, strict_ascending, strict_neither, ascending_less, ascending_equal, ascending_more, apart_here, apart_next}
use Rattle.pairing.specs.declared.Entry.{Entry}
use Rattle.pairing.specs.declared.Numbered.{Numbered}
use Rattle.pairing.specs.declared.Pair.{Pair}
use Rattle.pairing.specs.declared.Rule.{Rule}
use Rattle.pairing.specs.declared.Rule.TheVariants.{Equal, Near, Every}
use Rattle.pairing.specs.Rule.{allows, fits}
use Rattle.pairing.specs.Pair.{pairs, partner_of, pair_of, comes_before}
use Rattle.pairing.specs.Plain.{match_at}
use Rattle.pairing.proofs.Circle.{distance_comm}

-- ---- the pairing test

module _ (rule : Rule) (a b : Entry) where
  abbrev met : Interval
  met = meeting_of a.span b.span

  pairs_meeting_and_fits : pairs rule a b ≡ true → proper_of met && fits rule a.key b.key ≡ true
  unfolding pairs
  pairs_meeting_and_fits h = and_right (proper_of b.span) _ (and_right (proper_of a.span) _ h)

  -- entries that pair have a meeting that is not empty
  pub pairs_meeting : pairs rule a b ≡ true → proper_of met ≡ true
  pairs_meeting h = and_left (proper_of met) (fits rule a.key b.key) (pairs_meeting_and_fits h)

  -- entries that never hold at once do not pair
  pairs_apart : proper_of met ≡ false → pairs rule a b ≡ false
  unfolding pairs
  pairs_apart h = rw (h, and-false (proper_of b.span), and-false (proper_of a.span))

  pub pairs_ended_b : b.span.end ≤ a.span.start → pairs rule a b ≡ false
  pairs_ended_b h = pairs_apart (ap proper_of (meeting_comm a.span b.span) ∙ meeting_ended b.span a.span h)

  -- entries that pair are proper
  pub pairs_proper : pairs rule a b ≡ true → proper_of b.span ≡ true
  unfolding pairs
  pairs_proper h = and_left (proper_of b.span) _ (and_right (proper_of a.span) _ h)

  -- at an instant of their meeting, to pair is to hold then and to match
  pub pairs_at : (t : ℕ) → pairs rule a b && holds_at t met ≡ match_at t rule a b
  unfolding pairs match_at
  pairs_at t = bool_ext (pairs rule a b && holds_at t met) (match_at t rule a b) to from
    where
      to : pairs rule a b && holds_at t met ≡ true → match_at t rule a b ≡ true
      to h =
          let both = sym (meeting_holds t a.span b.span) ∙ and_right (pairs rule a b) (holds_at t met) h in
          let fit = and_right (proper_of met) (fits rule a.key b.key) (pairs_meeting_and_fits (and_left (pairs rule a b) (holds_at t met) h)) in
          rw (and_left (holds_at t a.span) (holds_at t b.span) both, and_right (holds_at t a.span) (holds_at t b.span) both, fit)

      from : match_at t rule a b ≡ true → pairs rule a b && holds_at t met ≡ true
      from h =
          let at_a = and_left (holds_at t a.span) _ h in
          let rest = and_right (holds_at t a.span) _ h in
          let at_b = and_left (holds_at t b.span) (fits rule a.key b.key) rest in
          let at-met : holds_at t met ≡ true = rw (meeting_holds t a.span b.span, at_a, at_b) in
          rw (
            holds_proper t a.span at_a,
            holds_proper t b.span at_b,
            holds_proper t met at-met,
            and_right (holds_at t b.span) (fits rule a.key b.key) rest,
            at-met,
          )

exchanged : (x y z : Bool) → x && (y && z) ≡ y && (x && z)
exchanged true y z = refl
exchanged false true z = refl
exchanged false false z = refl

-- keys that fit are keys that the rule allows, so entries that pair have such keys
fits_allows : (rule : Rule) (key other : ℕ) → fits rule key other ≡ true → allows rule key ≡ true
unfolding allows fits
fits_allows Equal key other h = refl
fits_allows (Near width) key other h = and_left (allows (Near width) key) _ h
fits_allows Every key other h = refl

pub pairs_allows : (rule : Rule) (a b : Entry) → pairs rule a b ≡ true → allows rule a.key ≡ true
pairs_allows rule a b h =
    fits_allows rule a.key b.key (and_right (proper_of (meeting_of a.span b.span)) (fits rule a.key b.key) (pairs_meeting_and_fits rule a b h))

-- to pair is the same either way round
fits_comm : (rule : Rule) (key other : ℕ) → fits rule key other ≡ fits rule other key
unfolding fits
fits_comm Equal key other = bool_ext (eqb key other) (eqb other key) (λ e. eq-eqb other key (sym (eqb-true key other e))) (λ e. eq-eqb key other (sym (eqb-true other key e)))
fits_comm (Near width) key other =
    ap (λ (n : ℕ). allows (Near width) key && (allows (Near width) other && leb n width)) (distance_comm key other)
    ∙ exchanged (allows (Near width) key) (allows (Near width) other) _
fits_comm Every key other = refl

pub pairs_comm : (rule : Rule) (a b : Entry) → pairs rule a b ≡ pairs rule b a
unfolding pairs
pairs_comm rule a b = rw (meeting_comm a.span b.span, fits_comm rule a.key b.key) (exchanged (proper_of a.span) (proper_of b.span) _)

-- ---- the pair

module _ (a b : Numbered) where
  pub pair_meeting : (pair_of a b).meeting ≡ meeting_of a.entry.span b.entry.span
  unfolding pair_of
  pair_meeting = refl

  pub pair_ordinal_a : (pair_of a b).a.ordinal ≡ a.ordinal
  unfolding pair_of partner_of
  pair_ordinal_a = refl

  pub pair_ordinal_b : (pair_of a b).b.ordinal ≡ b.ordinal
  unfolding pair_of partner_of
  pair_ordinal_b = refl

-- ---- the order of pairs

pub strict_comes_before : StrictOrder comes_before
unfolding comes_before
strict_comes_before = strict_ascending _ _ (strict_ascending _ _ (strict_ascending _ _ strict_neither))

-- pairs that differ in an ordinal differ in order
pub apart_a : (p q : Pair) → (p.a.ordinal ≡ q.a.ordinal → ⊥) → Apart comes_before p q
unfolding comes_before
apart_a p q n = apart_next _ _ p q (apart_here _ _ p q n)

pub apart_b : (p q : Pair) → (p.b.ordinal ≡ q.b.ordinal → ⊥) → Apart comes_before p q
unfolding comes_before
apart_b p q n = apart_next _ _ p q (apart_next _ _ p q (apart_here _ _ p q n))

-- what comes before starts no later
pub before_start : (p q : Pair) → comes_before p q ≡ true → p.meeting.start ≤ q.meeting.start
unfolding comes_before
before_start p q e = go (compared p.meeting.start q.meeting.start)
  where
    go : Compared p.meeting.start q.meeting.start → p.meeting.start ≤ q.meeting.start
    go (less l) = omega arith
    go (equal f) = omega arith
    go (more g) = absurd (true≢false (sym e ∙ ascending_more _ _ p q g))

-- a later start and a higher ordinal on one side come later
module _ (p q : Pair) (later : p.meeting.start ≤ q.meeting.start) where
  pub before_by_a : p.a.ordinal < q.a.ordinal → comes_before p q ≡ true
  unfolding comes_before
  before_by_a h = go (compared p.meeting.start q.meeting.start)
    where
      go : Compared p.meeting.start q.meeting.start → comes_before p q ≡ true
      go (less l) = ascending_less _ _ p q l
      go (equal e) = ascending_equal _ _ p q e ∙ ascending_less _ _ p q h
      go (more g) = absurd (never g)
        where
          never : q.meeting.start < p.meeting.start → ⊥
          never g = omega arith

  pub before_by_b : p.a.ordinal ≡ q.a.ordinal → p.b.ordinal < q.b.ordinal → comes_before p q ≡ true
  unfolding comes_before
  before_by_b same h = go (compared p.meeting.start q.meeting.start)
    where
      go : Compared p.meeting.start q.meeting.start → comes_before p q ≡ true
      go (less l) = ascending_less _ _ p q l
      go (equal e) = ascending_equal _ _ p q e ∙ ascending_equal _ _ p q same ∙ ascending_less _ _ p q h
      go (more g) = absurd (never g)
        where
          never : q.meeting.start < p.meeting.start → ⊥
          never g = omega arith
