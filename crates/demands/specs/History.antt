-- Any calls, with any arguments, made of a join: which entries were accepted, which pairs were handed out, and the state after them.
use Rattle.std.specs.Prelude.{ℕ, Bool, true, false, cond, List, [], ◌∷◌, ◌++◌}
use Rattle.pairing.specs.declared.Entry.{Entry}
use Rattle.pairing.specs.declared.Pair.{Pair}
use Rattle.pairing.specs.declared.Rule.{Rule}
use Rattle.pairing.specs.declared.Side.{Side}
use Rattle.pairing.specs.declared.Side.TheVariants.{A, B}
use Rattle.journal.specs.Answer.{Answer, unless_refused}
use Rattle.journal.specs.Answer as answer
use Rattle.join.specs.Calls.{Took, Handed, Waiting, Finished, Refused, side_of, entry_call, mark_call, close_call, take_call}
use Rattle.join.specs.State.{State, fresh_state}

pub data Call : Type 0 where
  Enter : ℕ → Entry → Call
  Mark : ℕ → ℕ → Call
  Close : ℕ → Call
  Take : Call

abbrev pub is_take : Call → Bool
is_take (Enter stream e) = false
is_take (Mark stream time) = false
is_take (Close stream) = false
is_take Take = true

-- the state after a call
abbrev pub after : State → Call → State
after s (Enter stream e) = (entry_call s stream e).state
after s (Mark stream time) = (mark_call s stream time).state
after s (Close stream) = (close_call s stream).state
after s Take = (take_call s).state

-- an entry, where it is of that side
abbrev pub of_side : Side → Side → Entry → List Entry
of_side A A e = e ∷ []
of_side A B e = []
of_side B A e = []
of_side B B e = e ∷ []

-- the entries of a side that a call brings: the one that is answered Accepted
abbrev pub accepts : Side → State → Call → List Entry
accepts side s (Enter stream e) = unless_refused (entry_call s stream e).answer (of_side side (side_of stream) e) []
accepts side s (Mark stream time) = []
accepts side s (Close stream) = []
accepts side s Take = []

-- the pair that an answer hands out
abbrev pub handed_by : Took → List Pair
handed_by (Handed p) = p ∷ []
handed_by Waiting = []
handed_by Finished = []
handed_by (Refused number) = []

-- the pairs that a call hands out
abbrev pub hands : State → Call → List Pair
hands s (Enter stream e) = []
hands s (Mark stream time) = []
hands s (Close stream) = []
hands s Take = handed_by (take_call s).answer

-- what has come of some calls: the accepted entries of each journal and the pairs handed out, in order, and the state
pub record World : Type 0 where
  pub state : State
  pub of_a : List Entry
  pub of_b : List Entry
  pub out : List Pair

abbrev pub begin : Rule → World
begin rule = record { state = fresh_state rule; of_a = []; of_b = []; out = [] }

abbrev pub step : World → Call → World
step w c = record {
  state = after w.state c;
  of_a = w.of_a ++ accepts A w.state c;
  of_b = w.of_b ++ accepts B w.state c;
  out = w.out ++ hands w.state c;
}

abbrev pub run : World → List Call → World
run w [] = w
run w (c ∷ cs) = run (step w c) cs

-- ---- refused calls

abbrev pub is_refusal : Answer → Bool
is_refusal answer.Accepted = false
is_refusal (answer.Refused number) = true

abbrev pub is_take_refusal : Took → Bool
is_take_refusal (Handed p) = false
is_take_refusal Waiting = false
is_take_refusal Finished = false
is_take_refusal (Refused number) = true

-- a call that a state answers with a refusal
abbrev pub refused : State → Call → Bool
refused s (Enter stream e) = is_refusal (entry_call s stream e).answer
refused s (Mark stream time) = is_refusal (mark_call s stream time).answer
refused s (Close stream) = is_refusal (close_call s stream).answer
refused s Take = is_take_refusal (take_call s).answer

-- those of some calls that are not refused, each judged in the state that it met
abbrev pub heeded : State → List Call → List Call
heeded s [] = []
heeded s (c ∷ cs) = cond (refused s c) (heeded (after s c) cs) (c ∷ heeded (after s c) cs)
