-- A reading answers a record with the place of the next, or a refusal with its place (the record's first byte), or End where no byte is left, a place past the feed's end included.
use Rattle.std.specs.Prelude.{ℕ, ◌+◌, Bool, true, false, cond, not, ◌&&◌, ◌||◌, Option, Some, None, Result, Ok, Err, List, [], ◌∷◌, length, take, drop, ltb, leb, eqb}
use Rattle.feed.specs.declared.Feed.{Feed}
use Rattle.feed.specs.declared.Feed.TheVariants.{Input, Output}
use Rattle.feed.specs.declared.Found.{Found as FoundAt}
use Rattle.feed.specs.declared.Misread.{Misread}
use Rattle.feed.specs.declared.Record.{Record}
use Rattle.pairing.specs.declared.Pair.{Pair}
use Rattle.refusals.specs.Table.{number_of}
use Rattle.feed.specs.Head.{Head, Whole, Refused as refused_head, End as no_head}
use Rattle.feed.specs.Number.{value}
use Rattle.feed.specs.Kind.{Lengths, Unknown, Within, pair, lengths_of, fields_in}
use Rattle.lists.specs.Check.{Check, ◌gives◌, first_or}
use Rattle.pairing.specs.Numbers.{pair_in}
use Rattle.feed.specs.Record.{record_in, stream_known}

pub data Answer (R : Type 0) : Type 0 where
  Found : R → ℕ → Answer R
  Refused : ℕ → ℕ → Answer R
  End : Answer R

-- of an input feed, whose records are entries, marks, closes and notes
abbrev pub Reading : Type 0
Reading = Answer Record

-- of an output feed, whose records are pairs
abbrev pub PairReading : Type 0
PairReading = Answer Pair

-- the same, as the code answers it; a refusal is told by its number
abbrev pub reading_seen : {R : Type 0} → Result (Option (FoundAt R)) Misread → Answer R
reading_seen (Ok (Some f)) = Found f.found f.next
reading_seen (Ok None) = End
reading_seen (Err m) = Refused (number_of m.refusal) m.place

-- the length and the kind that stand at the front of some bytes
abbrev pub length_in : List ℕ → ℕ
length_in bs = value (take 2 bs)

abbrev pub kind_in : List ℕ → ℕ
kind_in bs = value (take 2 (drop 2 bs))

-- a length is below the shortest or above the longest
unfoldable pub outside : ℕ → ℕ → ℕ → Bool
outside shortest longest n = ltb n shortest || ltb longest n

-- Some bytes show the record that stands first in them: its length is there, and as many bytes as it says, or it is a length that no record has. What follows them does not matter.
unfoldable pub shows : List ℕ → Bool
shows bs = leb 2 (length bs) && (outside 2 66 (length_in bs) || leb (2 + length_in bs) (length bs))

-- the feed does not know the kind, or its records have other lengths; the second is only asked of a kind that it knows
abbrev pub unknown : Lengths → Bool
unknown Unknown = true
unknown (Within shortest longest) = false

abbrev pub unfit : Lengths → ℕ → Bool
unfit Unknown n = true
unfit (Within shortest longest) n = outside shortest longest n

-- Checks: kind (11), length for the kind (10)
unfoldable pub kind_checks : Feed → ℕ → ℕ → List Check
kind_checks feed kind size =
    (unknown (lengths_of feed kind) gives 11)
    ∷ (unfit (lengths_of feed kind) size gives 10)
    ∷ []

-- Checks: fewer than 2 bytes (9), length below 2 or above 66 (10), fewer bytes than the length (9), then those of the kind
unfoldable pub head_checks : Feed → List ℕ → List Check
head_checks feed bs =
    (ltb (length bs) 2 gives 9)
    ∷ (outside 2 66 (length_in bs) gives 10)
    ∷ (ltb (length bs) (2 + length_in bs) gives 9)
    ∷ kind_checks feed (kind_in bs) (length_in bs)

-- the head of a record of a kind and a length, or the refusal of some checks
unfoldable pub head_unless : List Check → ℕ → ℕ → Head
head_unless checks kind size = first_or refused_head (Whole kind size) checks

-- what stands first in the bytes that are left: nothing where none is
unfoldable pub head_of : Feed → List ℕ → Head
head_of feed bs = cond (eqb (length bs) 0) no_head (head_unless (head_checks feed bs) (kind_in bs) (length_in bs))

-- Checks, continued: stream (1). A record at a place, with the place of the next.
unfoldable pub found_at : ℕ → Record → ℕ → Reading
found_at at found next = first_or (λ (number : ℕ). Refused number at) (Found found next) ((not (stream_known found) gives 1) ∷ [])

-- the answer at a place to the head of the bytes that are left there
abbrev pub reading_of : ℕ → List ℕ → Head → Reading
reading_of at bs (Whole kind size) = found_at at (record_in kind size bs) (at + 2 + size)
reading_of at bs (refused_head number) = Refused number at
reading_of at bs no_head = End

-- a reading of an input feed at a place, by what is left of the feed there
unfoldable pub reading_from : ℕ → List ℕ → Reading
reading_from at bs = reading_of at bs (head_of Input bs)

unfoldable pub reading : List ℕ → ℕ → Reading
reading s at = reading_from at (drop at s)

-- a reading of an output feed
abbrev pub pair_reading_of : ℕ → List ℕ → Head → PairReading
pair_reading_of at bs (Whole kind size) = Found (pair_in (fields_in pair bs)) (at + 2 + size)
pair_reading_of at bs (refused_head number) = Refused number at
pair_reading_of at bs no_head = End

unfoldable pub pair_reading_from : ℕ → List ℕ → PairReading
pair_reading_from at bs = pair_reading_of at bs (head_of Output bs)

unfoldable pub pair_reading : List ℕ → ℕ → PairReading
pair_reading s at = pair_reading_from at (drop at s)
