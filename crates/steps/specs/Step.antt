-- One step of joinfeed: what it answers and leaves, and what it needs and keeps.
use Rattle.std.specs.Prelude.{ℕ, ◌+◌, ◌*◌, ◌≤◌, List, length}
use Rattle.queue.specs.Queue as queue
use Rattle.join.specs.State.{Sound}
use Rattle.feed.specs.Kind.{shortest_record, pair}
use Rattle.framing.specs.declared.Went.{Went as Answered}
use Rattle.framing.specs.Step.{Effect, went_of, used_of, filled_of}
use Rattle.lines.specs.Line.{field}
use Rattle.steps.specs.declared.Progress.{Progress}
use Rattle.steps.specs.Printed.{read_limit}

-- what a step answers and leaves, as one value
abbrev pub effect_with : Answered → Progress → List ℕ → Effect Progress
effect_with went progress out = record { went = went_of went; progress = progress; used = used_of went; filled = filled_of went; buffer = out }

-- what a run keeps: a sound join, and counts that fit, as each record has some bytes and 256 pairs at most are ready
pub record Kept (p : Progress) (left : ℕ) : Type 0 where
  pub sound : Sound p.state
  pub few_records : shortest_record * p.records + left ≤ read_limit
  pub few_pairs : p.pairs ≤ queue.places * p.records

-- such counts, whatever is left
abbrev pub Few : Progress → Type 0
Few p = (shortest_record * p.records ≤ read_limit) × (p.pairs ≤ queue.places * p.records)

-- as many bytes as the line of a pair may have: a field takes 11, a number of 32 bits has 10 digits
abbrev pub line_room : ℕ
line_room = length pair.fields * field

-- and the lines of all pairs that may wait
abbrev pub room : ℕ
room = queue.places * line_room
