-- The pairs of the plain list, as a logical stream, are the join of the two journals' streams: definition 8.5 of source document 000.
use Prim.Native.Nat.{ℕ, suc, ◌*◌, ◌≤◌}
use native.Mathlib.Omega.{arith}
use mathlib.Core.Bool.{Bool, true, false, cond, ◌&&◌, and-false}
use mathlib.Core.List.{List, [], ◌∷◌, map}
use mathlib.Core.Path.{◌≡◌, refl, sym, ap, ap₂, ◌∙◌}
use lib.Dec.{ltb, eqb}
use borrow.Author.Tests.{lt-ltb, ltb-false, eqb-true, eq-eqb}
use Rattle.interval.specs.declared.Interval.{Interval}
use Rattle.interval.specs.Interval.{holds_at, meeting_of}
use Rattle.lists.specs.Tally.{tally}
use Rattle.lists.proofs.Bools.{and_left, and_right}
use Rattle.lists.proofs.Grid.{tally_grid}
use Rattle.lists.proofs.Filter.{tally_more, tally_map}
use Rattle.lists.proofs.Sort.{tally_sort_by}
use Rattle.pairing.specs.declared.Entry.{Entry}
use Rattle.pairing.specs.declared.Numbered.{Numbered}
use Rattle.pairing.specs.declared.Pair.{Pair}
use Rattle.pairing.specs.declared.Rule.{Rule}
use Rattle.pairing.specs.Pair.{pairs, partner_of, pair_of, comes_before}
use Rattle.pairing.specs.Plain.{numbered_from, couple_that, couples_that, plain, match_at}
use Rattle.pairing.specs.Rule.{fits}
use Rattle.pairing.proofs.Pairs.{pairs_at, pair_meeting}
use Rattle.demands.specs.Stream.{EachOnce, stream_from, sum_over, joined, Element, same_element, Couple, couple, same_couple, element_of, couple_of, stream_of, stream_of_pairs, matches}
use Rattle.demands.proofs.Sums.{once_tally, sum_one, sum_same, sum_none}

same_refl : (x : Element) → same_element x x ≡ true
same_refl x = rw (eq-eqb x.key x.key refl, eq-eqb x.value x.value refl)

same_true : (x y : Element) → same_element x y ≡ true → x ≡ y
same_true x y h =
    let k = eqb-true x.key y.key (and_left (eqb x.key y.key) (eqb x.value y.value) h) in
    let v = eqb-true x.value y.value (and_right (eqb x.key y.key) (eqb x.value y.value) h) in
    λ i. record { key = k i; value = v i }

-- ---- the elements of a stream

module _ {X E : Type 0} (same : E → E → Bool) (refl-same : (x : E) → same x x ≡ true) (true_same : (x y : E) → same x y ≡ true → x ≡ y) (element : X → E) (span : X → Interval) (xs : List X) where
  abbrev among : E → ℕ
  among e = tally (λ (x : X). same (element x) e) xs

  -- each element that occurs stands once among the elements of the stream
  pub elements_once : (e : E) → tally (λ (y : E). same y e) (stream_from same element span xs).elements ≡ cond (ltb 0 (among e)) 1 0
  unfolding stream_from
  elements_once e = once_tally same refl-same true_same (map element xs) e ∙ ap (λ (n : ℕ). cond (ltb 0 n) 1 0) (tally_map (λ (y : E). same y e) element xs)

  count_most : (e : E) (t : ℕ) → (stream_from same element span xs).count e t ≤ among e
  unfolding stream_from
  count_most e t = tally_more (λ (x : X). same (element x) e && holds_at t (span x)) (λ (x : X). same (element x) e) (λ x k. and_left (same (element x) e) (holds_at t (span x)) k) xs

  -- an element that does not occur holds at no instant
  pub count_none : (e : E) (t : ℕ) → ltb 0 (among e) ≡ false → (stream_from same element span xs).count e t ≡ 0
  count_none e t h = omega (arith, ltb-false 0 (among e) h, count_most e t)

  pub each_once : EachOnce same (stream_from same element span xs)
  each_once e t h = elements_once e ∙ ap (λ (b : Bool). cond b 1 0) (lt-ltb 0 (among e) (omega (arith, count_most e t)))

pub entries_once : (es : List Entry) → EachOnce same_element (stream_of es)
entries_once es = each_once same_element same_refl same_true element_of (λ (e : Entry). e.span) es

-- ---- the pairs of the plain list, counted

couple_pair : (a b : Numbered) → couple_of (pair_of a b) ≡ couple (element_of a.entry) (element_of b.entry)
unfolding pair_of partner_of
couple_pair a b = refl

tally_numbered : (g : Entry → Bool) (n : ℕ) (es : List Entry) → tally (λ (x : Numbered). g x.entry) (numbered_from n es) ≡ tally g es
tally_numbered g n [] = refl
tally_numbered g n (e ∷ es) = rw (tally_numbered g (suc n) es)

module _ (rule : Rule) (t : ℕ) (x y : Element) where
  abbrev in_pair : Pair → Bool
  in_pair p = same_couple (couple_of p) (couple x y) && holds_at t p.meeting

  abbrev is_at : Element → Entry → Bool
  is_at z e = same_element (element_of e) z && holds_at t e.span

  cell_tests : (paired met ha hb f c sx sy : Bool) → paired && met ≡ ha && (hb && f) → (sx ≡ true → sy ≡ true → f ≡ c) → paired && ((sx && sy) && met) ≡ (sx && ha) && ((sy && hb) && c)
  cell_tests paired met ha hb f c true true e k = e ∙ ap (λ (b : Bool). ha && (hb && b)) (k refl refl)
  cell_tests paired met ha hb f c true false e k = and-false paired ∙ sym (and-false ha)
  cell_tests paired met ha hb f c false sy e k = and-false paired

  cell : (a b : Numbered) → tally in_pair (couple_that (pairs rule) a b) ≡ cond (is_at x a.entry && (is_at y b.entry && matches rule x y)) 1 0
  unfolding couple_that match_at
  cell a b =
      let sx = same_element (element_of a.entry) x in
      let sy = same_element (element_of b.entry) y in
      let met = holds_at t (meeting_of a.entry.span b.entry.span) in
      let here : in_pair (pair_of a b) ≡ (sx && sy) && met = ap₂ (λ (c : Couple) (m : Bool). same_couple c (couple x y) && m) (couple_pair a b) (ap (holds_at t) (pair_meeting a b)) in
      let keys : sx ≡ true → sy ≡ true → fits rule a.entry.key b.entry.key ≡ matches rule x y =
      λ h k. ap₂ (λ (u v : Element). matches rule u v) (same_true (element_of a.entry) x h) (same_true (element_of b.entry) y k) in
      go (pairs rule a.entry b.entry) (in_pair (pair_of a b)) refl
      ∙ ap (λ (c : Bool). cond (pairs rule a.entry b.entry && c) 1 0) here
      ∙ ap (λ (c : Bool). cond c 1 0)
      (cell_tests (pairs rule a.entry b.entry) met (holds_at t a.entry.span) (holds_at t b.entry.span) (fits rule a.entry.key b.entry.key) (matches rule x y) sx sy
      (pairs_at rule a.entry b.entry t) keys)
    where
      go : (p f : Bool) → in_pair (pair_of a b) ≡ f → tally in_pair (cond p (pair_of a b ∷ []) []) ≡ cond (p && f) 1 0
      go true f e = rw e
      go false f e = refl

  -- the counts multiply
  pub plain_multiplies : (of_a of_b : List Entry) → (stream_of_pairs (plain rule of_a of_b)).count (couple x y) t ≡ cond (matches rule x y) ((stream_of of_a).count x t * (stream_of of_b).count y t) 0
  unfolding plain couples_that stream_from
  plain_multiplies of_a of_b =
      tally_sort_by comes_before in_pair (couples_that (pairs rule) (numbered_from 0 of_a) (numbered_from 0 of_b))
      ∙ tally_grid (couple_that (pairs rule)) in_pair (λ (a : Numbered). is_at x a.entry) (λ (b : Numbered). is_at y b.entry) (matches rule x y) cell (numbered_from 0 of_a) (numbered_from 0 of_b)
      ∙ ap₂ (λ (m n : ℕ). cond (matches rule x y) (m * n) 0) (tally_numbered (is_at x) 0 of_a) (tally_numbered (is_at y) 0 of_b)

  -- ---- the sum of definition 8.5 has one term

  module _ (of_a of_b : List Entry) where
    abbrev term : Element → Element → ℕ
    term u v = cond (matches rule u v) ((stream_of of_a).count u t * (stream_of of_b).count v t) 0

    nested : (m s₁ s₂ : Bool) (n : ℕ) → cond (m && (s₁ && s₂)) n 0 ≡ cond s₁ (cond s₂ (cond m n 0) 0) 0
    nested true true true n = refl
    nested true true false n = refl
    nested true false s₂ n = refl
    nested false true true n = refl
    nested false true false n = refl
    nested false false s₂ n = refl

    inner : (u : Element) (vs : List Element)
        → sum_over (λ (v : Element). cond (matches rule u v && same_couple (couple u v) (couple x y)) ((stream_of of_a).count u t * (stream_of of_b).count v t) 0) vs
        ≡ cond (same_element u x) (tally (λ (v : Element). same_element v y) vs * term u y) 0
    inner u vs =
        sum_same _ (λ (v : Element). cond (same_element u x) (cond (same_element v y) (term u v) 0) 0) (λ v. nested (matches rule u v) (same_element u x) (same_element v y) ((stream_of of_a).count u t * (stream_of of_b).count v t)) vs
        ∙ go (same_element u x)
      where
        go : (b : Bool) → sum_over (λ (v : Element). cond b (cond (same_element v y) (term u v) 0) 0) vs ≡ cond b (tally (λ (v : Element). same_element v y) vs * term u y) 0
        go true = sum_one same_element same_refl same_true (term u) y vs
        go false = sum_none vs

    final : (b₁ b₂ m : Bool) (n₁ n₂ : ℕ) → (b₁ ≡ false → n₁ ≡ 0) → (b₂ ≡ false → n₂ ≡ 0) → cond b₁ 1 0 * (cond b₂ 1 0 * cond m (n₁ * n₂) 0) ≡ cond m (n₁ * n₂) 0
    final true true m n₁ n₂ h k = omega arith
    final true false true n₁ n₂ h k = rw (k refl) (omega arith)
    final true false false n₁ n₂ h k = refl
    final false b₂ true n₁ n₂ h k = rw (h refl) (omega arith)
    final false b₂ false n₁ n₂ h k = omega arith

    pub joined_one : joined (matches rule) couple same_couple (stream_of of_a) (stream_of of_b) (couple x y) t ≡ term x y
    unfolding joined
    joined_one =
        let firsts = (stream_of of_a).elements in
        let seconds = (stream_of of_b).elements in
        let count_b = tally (λ (v : Element). same_element v y) seconds in
        sum_same _ (λ (u : Element). cond (same_element u x) (count_b * term u y) 0) (λ u. inner u seconds) firsts
        ∙ sum_one same_element same_refl same_true (λ (u : Element). count_b * term u y) x firsts
        ∙ ap₂ (λ (m n : ℕ). m * (n * term x y)) (elements_once same_element same_refl same_true element_of (λ (e : Entry). e.span) of_a x) (elements_once same_element same_refl same_true element_of (λ (e : Entry). e.span) of_b y)
        ∙ final (ltb 0 (tally (λ (e : Entry). same_element (element_of e) x) of_a)) (ltb 0 (tally (λ (e : Entry). same_element (element_of e) y) of_b)) (matches rule x y)
        ((stream_of of_a).count x t) ((stream_of of_b).count y t) (count_none same_element same_refl same_true element_of (λ (e : Entry). e.span) of_a x t) (count_none same_element same_refl same_true element_of (λ (e : Entry). e.span) of_b y t)

    pub plain_joins : (stream_of_pairs (plain rule of_a of_b)).count (couple x y) t ≡ joined (matches rule) couple same_couple (stream_of of_a) (stream_of of_b) (couple x y) t
    plain_joins = plain_multiplies of_a of_b ∙ sym joined_one
