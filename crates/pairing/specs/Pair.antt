-- When an A entry and a B entry pair, the pair that they make, and the order of pairs.
use Rattle.std.specs.Prelude.{Bool, ◌&&◌}
use Rattle.interval.specs.Interval.{proper_of, meeting_of}
use Rattle.lists.specs.Sort.{ascending, neither}
use Rattle.pairing.specs.declared.Entry.{Entry}
use Rattle.pairing.specs.declared.Numbered.{Numbered}
use Rattle.pairing.specs.declared.Pair.{Pair}
use Rattle.pairing.specs.declared.Partner.{Partner}
use Rattle.pairing.specs.declared.Rule.{Rule}
use Rattle.pairing.specs.Rule.{fits}

-- An A entry and a B entry pair when both are proper, their meeting is not empty and the rule holds for their keys.
unfoldable pub pairs : Rule → Entry → Entry → Bool
pairs rule a b = proper_of a.span && (proper_of b.span && (proper_of (meeting_of a.span b.span) && fits rule a.key b.key))

-- what a pair carries of each of its entries
unfoldable pub partner_of : Numbered → Partner
partner_of x = record { ordinal = x.ordinal; key = x.entry.key; value = x.entry.value }

-- The pair carries the meeting, both ordinals, both keys, both values.
unfoldable pub pair_of : Numbered → Numbered → Pair
pair_of a b = record { meeting = meeting_of a.entry.span b.entry.span; a = partner_of a; b = partner_of b }

-- in ascending order of start, then A ordinal, then B ordinal
unfoldable pub comes_before : Pair → Pair → Bool
comes_before =
    ascending (λ (p : Pair). p.meeting.start)
    (ascending (λ (p : Pair). p.a.ordinal)
    (ascending (λ (p : Pair). p.b.ordinal)
    neither))
