-- The table of refusals: the number of each.
use Rattle.std.specs.Prelude.{ℕ}
use Rattle.refusals.specs.declared.Refusal.{Refusal}
use Rattle.refusals.specs.declared.Refusal.TheVariants.{Stream, Closed, Improper, Behind, Spent, AreaFull, QueueFull, Unsound, Cut, Length, Kind, Buffer, NoAngle}

abbrev pub number_of : Refusal → ℕ
-- the stream is neither 0 nor 1
number_of Stream = 1
-- that journal is closed
number_of Closed = 2
-- start not below end
number_of Improper = 3
-- start, or mark, below the journal's clock
number_of Behind = 4
-- 1,000,000 entries already accepted
number_of Spent = 5
-- the entry is wanted and its area already holds 64
number_of AreaFull = 6
-- waiting pairs plus new pairs exceed 256
number_of QueueFull = 7
-- the state given is not sound
number_of Unsound = 8
-- the feed ends inside a record
number_of Cut = 9
-- length wrong for the kind, below 2 or above 66
number_of Length = 10
-- kind not known in this feed
number_of Kind = 11
-- lent buffer shorter than the record
number_of Buffer = 12
-- near rule and key not below 36,000
number_of NoAngle = 13
