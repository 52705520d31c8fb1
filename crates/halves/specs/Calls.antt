-- What refuses an entry, a mark and a close of one journal, and what they leave.
use Rattle.std.specs.Prelude.{ℕ, ◌+◌, Bool, not, ◌&&◌, List, [], ◌∷◌, ◌++◌, ltb, leb, length}
use Rattle.lists.specs.Sort.{insert_all_by}
use Rattle.lists.specs.Check.{Check, ◌gives◌}
use Rattle.pairing.specs.declared.Entry.{Entry}
use Rattle.pairing.specs.declared.Numbered.{Numbered}
use Rattle.pairing.specs.declared.Pair.{Pair}
use Rattle.pairing.specs.declared.Rule.{Rule}
use Rattle.pairing.specs.declared.Side.{Side}
use Rattle.pairing.specs.Pair.{comes_before}
use Rattle.pairing.specs.Rule.{allows}
use Rattle.pairing.specs.Side.{new_pairs}
use Rattle.journal.specs.declared.Gate.{Gate}
use Rattle.journal.specs.declared.Gate.TheVariants.{Open}
use Rattle.journal.specs.declared.Journal.{Journal}
use Rattle.journal.specs.Journal.{wanted, is_closed, moved, entered, own_rows}
use Rattle.area.specs.Area as area
use Rattle.queue.specs.Queue as queue
use Rattle.halves.specs.declared.Half.{Half}
use Rattle.halves.specs.View.{View, half_of}

-- ---- an entry

-- an entry that comes, with its ordinal
abbrev pub arrival : View → Entry → Numbered
arrival v e = record { entry = e; ordinal = v.own.accepted }

-- An accepted entry is paired with every entry held in the other area that it pairs with, also when it is itself not wanted.
abbrev pub formed : Side → View → Entry → List Pair
formed side v e = new_pairs v.rule side (arrival v e) v.others

-- 13: near rule and key not below 36,000
unfoldable pub key_rows : Rule → Entry → List Check
key_rows rule e = (not (allows rule e.key) gives 13) ∷ []

-- the rows of room, by whether the entry is wanted, how many entries its area holds, and how many pairs would wait
-- 6: the entry is wanted and its area already holds 64. 7: waiting pairs plus new pairs exceed 256.
unfoldable pub room_for : Bool → ℕ → ℕ → List Check
room_for is_wanted held waiting = (is_wanted && leb area.most held gives 6) ∷ (ltb queue.places waiting gives 7) ∷ []

abbrev pub room_rows : Side → View → Entry → List Check
room_rows side v e = room_for (wanted v.other.gate e) (length v.mine) (length v.waiting + length (formed side v e))

-- the rows of the journal alone, then that of the key, then those of room
unfoldable pub entry_rows : Side → View → Entry → List Check
entry_rows side v e = (own_rows v.own e ++ key_rows v.rule e) ++ room_rows side v e

-- its pairs wait, in order; its journal's clock is its start; the other area is cleared by that clock; it is held if wanted
unfoldable pub after_entry : Side → View → Entry → View
after_entry side v e = record {
  rule = v.rule;
  own = entered e v.own;
  other = v.other;
  mine = v.mine ++ area.wanted_by v.other.gate (arrival v e ∷ []);
  others = area.wanted_by (Open e.span.start) v.others;
  waiting = insert_all_by comes_before (formed side v e) v.waiting;
}

-- ---- a mark or a close

-- its own gate moves, and the other area is cleared by it
unfoldable pub after_move : Gate → View → View
after_move gate v = record {
  rule = v.rule;
  own = moved gate v.own;
  other = v.other;
  mine = v.mine;
  others = area.wanted_by gate v.others;
  waiting = v.waiting;
}

-- the half whose gate moves, and the other, whose area is cleared
abbrev pub moved_half : Gate → Half → Half
moved_half gate half = record { journal = moved gate half.journal; area = half.area }

abbrev pub cleared_half : Gate → Half → Half
cleared_half gate half = half_of half.journal (area.wanted_by gate (area.held half.area))

-- a close is refused with 2; a mark follows the rows of its journal alone
abbrev pub close_rows : Journal → List Check
close_rows j = (is_closed j.gate gives 2) ∷ []
