-- What is printed of a feed, by any rule, is what the join hands out, so that the demands speak of it. joinfeed prints it by equal keys.
use Rattle.std.specs.Prelude.{ℕ, ◌≡◌, length, filter}
use mathlib.Core.List.{List, [], ◌∷◌, ◌++◌, IsPrefix}
use Rattle.pairing.specs.declared.Rule.{Rule}
use Rattle.pairing.specs.declared.Side.TheVariants.{A, B}
use Rattle.join.specs.State.{Sound}
use Rattle.join.specs.Calls.{ready_in}
use Rattle.demands.specs.Demands.{plain_of, FirstStretch, ran}
use Rattle.demands.specs.History.{Call, World, run}
use Rattle.demands.specs.Takes.{ready_now}
use Rattle.feed.specs.declared.Record.{Record}
use Rattle.lines.specs.Line.{line}
use Rattle.steps.specs.declared.Progress.{Progress}
use Rattle.steps.specs.Printed.{pair_lines, done_word, end_line, refused_line, printed}
use Rattle.feed_demands.specs.Records.{records_of, entries_in, plain_in}
use Rattle.feed_demands.specs.Course.{calls_of, Stop, FeedEnds, Refusal, Course, course_of}

-- After each record it takes until nothing is ready.
abbrev pub TakesAll : Type 0
TakesAll = (w : World) → Sound w.state → (found : Record) → ready_now (run w (calls_of w found)) ≡ []

-- ---- of a course

-- Records counts every record accepted so far, notes included; pairs counts the pair lines printed.
abbrev pub standing : ℕ → World → Progress
standing records w = record { state = w.state; records = records; pairs = length w.out }

-- Its last line is `done` or `open`, records, pairs; or `refused`, the number, records accepted before.
abbrev pub last_line : Stop → Progress → List ℕ
last_line FeedEnds p = end_line p
last_line (Refusal number) p = refused_line number p

module _ (rule : Rule) where
  -- what has come of its calls
  abbrev pub world_of : Course → World
  world_of c = ran rule c.calls

  abbrev pub last_of : Course → List ℕ
  last_of c = last_line c.stop (standing (length c.accepted) (world_of c))

  -- a line for each pair that the join hands out, in their order, and the last line
  abbrev pub lines_of : Course → List ℕ
  lines_of c = pair_lines (world_of c).out ++ last_of c

  -- the entries that the join has accepted are those in the records accepted
  abbrev pub EntriesAccepted : Course → Type 0
  EntriesAccepted c = ((world_of c).of_a ≡ entries_in A c.accepted) × ((world_of c).of_b ≡ entries_in B c.accepted)

  -- However it ends, and whatever calls might come after it, the pairs handed out are a first stretch of the plain list,
  abbrev pub Stretch : Course → Type 0
  Stretch c = (more : List Call) → FirstStretch rule (world_of c) (ran rule (c.calls ++ more))

  -- and they are exactly those that start below the clock of every open journal.
  abbrev pub NoneKeptBack : Course → Type 0
  NoneKeptBack c = (more : List Call) → (world_of c).out ≡ filter (ready_in (world_of c).state) (plain_of rule (ran rule (c.calls ++ more)))

-- ---- of a feed

-- the records accepted are the first of the feed, and all of them if nothing is refused
abbrev pub AcceptedFirst : ℕ → List ℕ → Course → Type 0
AcceptedFirst limit feed c = IsPrefix c.accepted (records_of limit feed) × (c.stop ≡ FeedEnds → c.accepted ≡ records_of limit feed)

module _ (rule : Rule) (limit : ℕ) (feed : List ℕ) where
  -- the whole plain list of the feed, then `done`, how many records the feed has, and how many pairs the list
  abbrev pub whole_list : List ℕ
  whole_list =
      pair_lines (plain_in rule (records_of limit feed)) ++ (done_word ++ line (length (records_of limit feed) ∷ length (plain_in rule (records_of limit feed)) ∷ []))

  -- where the last line begins with `done`, that is what is printed
  abbrev pub DoneWhole : Course → Type 0
  DoneWhole c = IsPrefix done_word (last_of rule c) → printed rule limit feed ≡ whole_list

pub record Prints (rule : Rule) (limit : ℕ) (feed : List ℕ) : Type 0 where
  pub handed : printed rule limit feed ≡ lines_of rule (course_of rule limit feed)
  pub accepted : AcceptedFirst limit feed (course_of rule limit feed)
  pub entries : EntriesAccepted rule (course_of rule limit feed)
  pub stretch : Stretch rule (course_of rule limit feed)
  pub none_kept_back : NoneKeptBack rule (course_of rule limit feed)
  pub done_whole : DoneWhole rule limit feed (course_of rule limit feed)
