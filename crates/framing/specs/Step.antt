-- One step of a program, on what a window shows of the feed: what it answers, where the run then stands, and what it leaves in the buffer.
use Rattle.std.specs.Prelude.{ℕ, Bool, cond, List, length}
use Rattle.lists.specs.Put.{put}
use Rattle.feed.specs.Reading.{Reading, reading}
use Rattle.framing.specs.declared.Went.{Went as Answered}
use Rattle.framing.specs.declared.Went.TheVariants.{More as answered_more, On as answered_on, Ended as answered_ended}
use Rattle.framing.specs.Shown.{shown, tells}
use Rattle.framing.specs.Program.{Deed, Ends, Goes, Program, next_of, deed}

-- what a step came to: the window shows too little to tell, a record was accepted, or the last line is out
pub data Went : Type 0 where
  More : Went
  On : Went
  Ended : Went

-- the same, as the code answers it together with what was used and filled
abbrev pub went_of : Answered → Went
went_of answered_more = More
went_of (answered_on used filled) = On
went_of (answered_ended filled) = Ended

abbrev pub used_of : Answered → ℕ
used_of answered_more = 0
used_of (answered_on used filled) = used
used_of (answered_ended filled) = 0

abbrev pub filled_of : Answered → ℕ
filled_of answered_more = 0
filled_of (answered_on used filled) = filled
filled_of (answered_ended filled) = filled

-- what a step leaves
pub record Effect (P : Type 0) : Type 0 where
  pub went : Went
  pub progress : P
  -- how many bytes of the window were used, and how many of the buffer
  pub used : ℕ
  pub filled : ℕ
  pub buffer : List ℕ

module _ {P : Type 0} where
  abbrev pub effect_of : P → List ℕ → ℕ → Deed P → Effect P
  effect_of p out next (Ends lines) = record { went = Ended; progress = p; used = 0; filled = length lines; buffer = put 0 lines out }
  effect_of p out next (Goes lines q) = record { went = On; progress = q; used = next; filled = length lines; buffer = put 0 lines out }

  -- More changes nothing.
  abbrev pub waits : P → List ℕ → Effect P
  waits p out = record { went = More; progress = p; used = 0; filled = 0; buffer = out }

module _ {P : Type 0} (program : Program P) where
  -- what is done at a reading
  abbrev pub done : P → List ℕ → Reading → Effect P
  done p out r = effect_of p out (next_of r) (deed program p r)

  unfoldable pub stepped : P → ℕ → List ℕ → Bool → List ℕ → Effect P
  stepped p left window ended out = cond (tells left window ended) (done p out (reading (shown left window) 0)) (waits p out)
