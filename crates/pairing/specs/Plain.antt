-- The plain list of some accepted entries: what an unlimited join would hand out. It knows the entries and the rule, and no area, clock or limit.
use Rattle.std.specs.Prelude.{ℕ, suc, Bool, cond, ◌&&◌}
use mathlib.Core.List.{List, [], ◌∷◌, flat_map}
use Rattle.interval.specs.Interval.{holds_at}
use Rattle.lists.specs.Sort.{sort_by}
use Rattle.pairing.specs.declared.Entry.{Entry}
use Rattle.pairing.specs.declared.Numbered.{Numbered}
use Rattle.pairing.specs.declared.Pair.{Pair}
use Rattle.pairing.specs.declared.Rule.{Rule}
use Rattle.pairing.specs.Pair.{pairs, pair_of, comes_before}
use Rattle.pairing.specs.Rule.{fits}

-- The ordinal of an entry is the number of entries of its journal accepted before it: n before the first of these, one more before each next.
abbrev pub numbered_from : ℕ → List Entry → List Numbered
numbered_from n [] = []
numbered_from n (e ∷ es) = record { entry = e; ordinal = n } ∷ numbered_from (suc n) es

-- the pair of an A and a B entry, if they pass the test
unfoldable pub couple_that : (Entry → Entry → Bool) → Numbered → Numbered → List Pair
couple_that test a b = cond (test a.entry b.entry) (pair_of a b ∷ []) []

-- the pairs of all couples that pass the test. Equal entries are separate entries and each pairs on its own.
unfoldable pub couples_that : (Entry → Entry → Bool) → List Numbered → List Numbered → List Pair
couples_that test of_a of_b = flat_map (λ (a : Numbered). flat_map (couple_that test a) of_b) of_a

-- The plain list is all their pairs in ascending order of start, then A ordinal, then B ordinal.
unfoldable pub plain : Rule → List Entry → List Entry → List Pair
plain rule of_a of_b = sort_by comes_before (couples_that (pairs rule) (numbered_from 0 of_a) (numbered_from 0 of_b))

-- both entries hold at the instant t and the rule holds for their keys
unfoldable pub match_at : ℕ → Rule → Entry → Entry → Bool
match_at t rule a b = holds_at t a.span && (holds_at t b.span && fits rule a.key b.key)

-- the matching couples of accepted entries that hold at t
unfoldable pub couples_at : ℕ → Rule → List Entry → List Entry → List Pair
couples_at t rule of_a of_b = couples_that (match_at t rule) (numbered_from 0 of_a) (numbered_from 0 of_b)
