-- Logical streams and their join, as source document 000 writes them: definition 2.3, the conversion of section 2.3.4, and definition 8.5.
use Rattle.std.specs.Prelude.{ℕ, ◌+◌, ◌*◌, ◌<◌, Bool, cond, not, ◌&&◌, List, [], ◌∷◌, map, ◌≡◌, eqb, filter}
use Rattle.interval.specs.declared.Interval.{Interval}
use Rattle.interval.specs.Interval.{holds_at}
use Rattle.lists.specs.Tally.{tally}
use Rattle.pairing.specs.declared.Entry.{Entry}
use Rattle.pairing.specs.declared.Pair.{Pair}
use Rattle.pairing.specs.declared.Rule.{Rule}
use Rattle.pairing.specs.Rule.{fits}

-- Definition 2.3: a logical stream is a set of triples (e, t, n), at most one for an element e and an instant t: e holds n times at t.
-- `count e t` is that n, and 0 where there is no such triple; `elements` are the elements of its triples, each once.
pub record Stream (E : Type 0) : Type 0 where
  pub elements : List E
  pub count : E → ℕ → ℕ

-- an element that holds at some instant stands once among them
abbrev pub EachOnce : {E : Type 0} → (E → E → Bool) → Stream E → Type 0
EachOnce {E} same S = (e : E) (t : ℕ) → 0 < S.count e t → tally (λ (x : E). same x e) S.elements ≡ 1

-- the elements of a list, each once
abbrev pub once : {E : Type 0} → (E → E → Bool) → List E → List E
once same [] = []
once {E} same (x ∷ xs) = x ∷ filter (λ (y : E). not (same y x)) (once same xs)

-- Section 2.3.4: a list of things with an element and an interval each, as a logical stream, holds e at t as often as there are places in it with the element e and an interval that holds t.
unfoldable pub stream_from : {X E : Type 0} → (E → E → Bool) → (X → E) → (X → Interval) → List X → Stream E
stream_from {X} same element span xs = record {
  elements = once same (map element xs);
  count = λ e t. tally (λ (x : X). same (element x) e && holds_at t (span x)) xs;
}

-- f of each element, added up
abbrev pub sum_over : {X : Type 0} → (X → ℕ) → List X → ℕ
sum_over f [] = 0
sum_over f (x ∷ xs) = f x + sum_over f xs

-- Definition 8.5: with a predicate P and a result function r, the join of two logical streams holds e at t as often as
-- the sum of n₁ · n₂ over all (e₁, t, n₁) of the first and all (e₂, t, n₂) of the second with P(e₁, e₂) and e = r(e₁, e₂).
unfoldable pub joined : {E₁ E₂ E : Type 0} → (E₁ → E₂ → Bool) → (E₁ → E₂ → E) → (E → E → Bool) → Stream E₁ → Stream E₂ → E → ℕ → ℕ
joined {E₁} {E₂} P r same S₁ S₂ e t =
    sum_over (λ (e₁ : E₁). sum_over (λ (e₂ : E₂). cond (P e₁ e₂ && same (r e₁ e₂) e) (S₁.count e₁ t * S₂.count e₂ t) 0) S₂.elements) S₁.elements

-- ---- of entries and of pairs

-- an element of a journal: what an entry says, apart from when
pub record Element : Type 0 where
  pub key : ℕ
  pub value : ℕ

abbrev pub same_element : Element → Element → Bool
same_element x y = eqb x.key y.key && eqb x.value y.value

-- an element of the join: the pair of the two elements
pub record Couple : Type 0 where
  pub a : Element
  pub b : Element

abbrev pub couple : Element → Element → Couple
couple x y = record { a = x; b = y }

abbrev pub same_couple : Couple → Couple → Bool
same_couple c d = same_element c.a d.a && same_element c.b d.b

abbrev pub element_of : Entry → Element
element_of e = record { key = e.key; value = e.value }

abbrev pub couple_of : Pair → Couple
couple_of p = couple (record { key = p.a.key; value = p.a.value }) (record { key = p.b.key; value = p.b.value })

abbrev pub stream_of : List Entry → Stream Element
stream_of = stream_from same_element element_of (λ (e : Entry). e.span)

abbrev pub stream_of_pairs : List Pair → Stream Couple
stream_of_pairs = stream_from same_couple couple_of (λ (p : Pair). p.meeting)

-- the predicate of the join: the rule holds for the keys
abbrev pub matches : Rule → Element → Element → Bool
matches rule x y = fits rule x.key y.key
