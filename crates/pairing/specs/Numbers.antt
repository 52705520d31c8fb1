-- The numbers of a pair in their order. A record of kind 257 has them as its fields, and a printed line shows them.
use Rattle.std.specs.Prelude.{ℕ, List, [], ◌∷◌, get_or}
use Rattle.pairing.specs.declared.Pair.{Pair}

-- start, end, A ordinal, B ordinal, A key, B key, A value, B value
unfoldable pub pair_numbers : Pair → List ℕ
pair_numbers p =
    p.meeting.start ∷ p.meeting.end ∷ p.a.ordinal ∷ p.b.ordinal ∷ p.a.key ∷ p.b.key ∷ p.a.value ∷ p.b.value ∷ []

-- the pair whose numbers these are
unfoldable pub pair_in : List ℕ → Pair
pair_in numbers = record {
  meeting = record { start = get_or numbers 0 0; end = get_or numbers 1 0 };
  a = record { ordinal = get_or numbers 2 0; key = get_or numbers 4 0; value = get_or numbers 6 0 };
  b = record { ordinal = get_or numbers 3 0; key = get_or numbers 5 0; value = get_or numbers 7 0 };
}
