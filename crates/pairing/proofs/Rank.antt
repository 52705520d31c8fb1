-- The order of ranks, number by number, is that of pairs.
use Rattle.std.specs.Prelude.{Bool, true, false, cond, ◌&&◌, ◌||◌, ◌≡◌, refl, ltb, eqb, Option, Some}
use Rattle.std.proofs.Common.{Ordering, Less, Equal, Greater}
use Rattle.std.specs.Ordering.{partial_lt, partial_ordering_then, nat_cmp}
use Rattle.pairing.specs.declared.Pair.{Pair}
use Rattle.pairing.specs.Pair.{comes_before}
use Rattle.lists.specs.Sort.{ascending, neither}

-- how two numbers compare, by whether the first is below the other, and whether it is the other
abbrev told : Bool → Bool → Option Ordering
told below same = Some (cond below Less (cond same Equal Greater))

abbrev is_below : Option Ordering → Bool
is_below o = partial_lt (λ (x y : Unit {0}). o) tt tt

first_that_differs : (l₁ e₁ l₂ e₂ l₃ e₃ : Bool) → is_below (partial_ordering_then (partial_ordering_then (told l₁ e₁) (told l₂ e₂)) (told l₃ e₃)) ≡ l₁ || (e₁ && (l₂ || (e₂ && (l₃ || (e₃ && false)))))
first_that_differs true e₁ l₂ e₂ l₃ e₃ = refl
first_that_differs false false l₂ e₂ l₃ e₃ = refl
first_that_differs false true true e₂ l₃ e₃ = refl
first_that_differs false true false false l₃ e₃ = refl
first_that_differs false true false true true e₃ = refl
first_that_differs false true false true false false = refl
first_that_differs false true false true false true = refl

pub rank_before : (p q : Pair)
    → is_below (partial_ordering_then (partial_ordering_then (Some (nat_cmp p.meeting.start q.meeting.start)) (Some (nat_cmp p.a.ordinal q.a.ordinal))) (Some (nat_cmp p.b.ordinal q.b.ordinal)))
    ≡ comes_before p q
unfolding comes_before ascending neither
rank_before p q =
    first_that_differs (ltb p.meeting.start q.meeting.start) (eqb p.meeting.start q.meeting.start) (ltb p.a.ordinal q.a.ordinal) (eqb p.a.ordinal q.a.ordinal) (ltb p.b.ordinal q.b.ordinal) (eqb p.b.ordinal q.b.ordinal)
