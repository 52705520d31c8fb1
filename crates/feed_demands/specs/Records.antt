-- The records of a feed and the entries in them, whatever a join makes of them.
use Rattle.std.specs.Prelude.{ℕ, zero, suc, List, [], ◌∷◌, ◌++◌, length, take, drop}
use Rattle.pairing.specs.declared.Entry.{Entry}
use Rattle.pairing.specs.declared.Pair.{Pair}
use Rattle.pairing.specs.declared.Rule.{Rule}
use Rattle.pairing.specs.declared.Side.{Side}
use Rattle.pairing.specs.declared.Side.TheVariants.{A, B}
use Rattle.pairing.specs.Plain.{plain}
use Rattle.join.specs.Calls.{side_of}
use Rattle.demands.specs.History.{of_side}
use Rattle.feed.specs.Reading.{Reading, Found, Refused, End, reading}
use Rattle.feed.specs.declared.Record.{Record}
use Rattle.feed.specs.declared.Record.TheVariants as record_of

-- A reading answers a record with the place of the next, or a refusal, or End.
abbrev pub records_at : (List ℕ → List Record) → List ℕ → Reading → List Record
records_at after rest (Found found next) = found ∷ after (drop next rest)
records_at after rest (Refused number place) = []
records_at after rest End = []

-- no more than so many
abbrev pub records_from : ℕ → List ℕ → List Record
records_from zero rest = []
records_from (suc n) rest = records_at (records_from n) rest (reading rest 0)

-- Bytes beyond the limit are not read, and the feed counts as ending there.
unfoldable pub records_of : ℕ → List ℕ → List Record
records_of limit feed = records_from (suc (length (take limit feed))) (take limit feed)

-- the entries of a journal in a record, and in some records, in order
abbrev pub entry_in : Side → Record → List Entry
entry_in side (record_of.Entry stream e) = of_side side (side_of stream) e
entry_in side (record_of.Mark stream time) = []
entry_in side (record_of.Close stream) = []
entry_in side (record_of.Note size) = []

abbrev pub entries_in : Side → List Record → List Entry
entries_in side [] = []
entries_in side (found ∷ rest) = entry_in side found ++ entries_in side rest

-- their plain list
abbrev pub plain_in : Rule → List Record → List Pair
plain_in rule records = plain rule (entries_in A records) (entries_in B records)
