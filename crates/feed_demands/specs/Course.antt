-- A run over a feed, as joinfeed's, as calls made of a join: which records it accepts, which calls it makes, and why it stops.
use Rattle.std.specs.Prelude.{ℕ, zero, suc, List, [], ◌∷◌, ◌++◌, length, take, drop, replicate}
use Rattle.pairing.specs.declared.Rule.{Rule}
use Rattle.journal.specs.Answer.{Answer, Accepted, Refused}
use Rattle.demands.specs.History.{Call, Enter, Mark, Close, Take, World, begin, run}
use Rattle.demands.specs.Takes.{ready_now}
use Rattle.feed.specs.Reading.{Reading, Found, Refused as refused_reading, End, reading}
use Rattle.feed.specs.declared.Record.{Record}
use Rattle.feed.specs.declared.Record.TheVariants as record_of
use Rattle.steps.specs.Printed.{heard}

-- the call of a record; a note rides along and affects nothing
abbrev pub call_of : Record → List Call
call_of (record_of.Entry stream e) = Enter stream e ∷ []
call_of (record_of.Mark stream time) = Mark stream time ∷ []
call_of (record_of.Close stream) = Close stream ∷ []
call_of (record_of.Note size) = []

-- After each record it takes until nothing is ready: behind its call, a take for each pair that is then ready.
unfoldable pub calls_of : World → Record → List Call
calls_of w found = call_of found ++ replicate (length (ready_now (run w (call_of found)))) Take

-- The feed ends, or a record is refused, by the reading or by the join.
pub data Stop : Type 0 where
  FeedEnds : Stop
  Refusal : ℕ → Stop

pub record Course : Type 0 where
  -- the records accepted, notes included
  pub accepted : List Record
  -- the calls made, a refused one too
  pub calls : List Call
  pub stop : Stop

abbrev pub stops : List Call → Stop → Course
stops calls stop = record { accepted = []; calls = calls; stop = stop }

-- a record is accepted, and there is a course behind it
abbrev pub goes_on : Record → List Call → Course → Course
goes_on found calls behind = record { accepted = found ∷ behind.accepted; calls = calls ++ behind.calls; stop = behind.stop }

abbrev pub answered_by : Answer → Record → Course → Course
answered_by Accepted found onward = onward
answered_by (Refused number) found onward = stops (call_of found) (Refusal number)

-- what is done at a place of the feed, and after it
abbrev pub course_at : (World → List ℕ → Course) → World → List ℕ → Reading → Course
course_at after w rest (Found found next) = answered_by (heard w.state found).answer found (goes_on found (calls_of w found) (after (run w (calls_of w found)) (drop next rest)))
course_at after w rest (refused_reading number place) = stops [] (Refusal number)
course_at after w rest End = stops [] FeedEnds

-- in no more than so many records
abbrev pub course_from : ℕ → World → List ℕ → Course
course_from zero w rest = stops [] FeedEnds
course_from (suc n) w rest = course_at (course_from n) w rest (reading rest 0)

-- Every record has a byte, so the feed has fewer records than it has bytes and one.
unfoldable pub course_of : Rule → ℕ → List ℕ → Course
course_of rule limit feed = course_from (suc (length (take limit feed))) (begin rule) (take limit feed)
