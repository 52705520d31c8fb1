-- What is printed of a feed is what the join hands out, so that the demands speak of it.
use Prim.Native.Nat.{ℕ, zero, suc, ◌+◌, ◌≤◌, ◌<◌}
use native.Mathlib.Omega.{arith}
use mathlib.Core.Bool.{Bool, true, false, cond, ◌&&◌, false≢true}
use mathlib.Core.List.{List, [], ◌∷◌, ◌++◌, append-nil, append_assoc, flat_map, IsPrefix}
use mathlib.Core.Path.{◌≡◌, refl, sym, ap, ap₂, ◌∙◌}
use lib.ListN.{length, take, drop, length-append, length-drop}
use Rattle.lists.proofs.All.{all_any}
use Rattle.lists.proofs.FlatMap.{flat_map_append}
use Rattle.lists.proofs.Filter.{filter_all}
use Rattle.pairing.specs.declared.Entry.{Entry}
use Rattle.pairing.specs.declared.Pair.{Pair}
use Rattle.pairing.specs.declared.Rule.{Rule}
use Rattle.pairing.specs.declared.Side.{Side}
use Rattle.pairing.specs.declared.Side.TheVariants.{A, B}
use Rattle.pairing.specs.Plain.{plain}
use Rattle.journal.specs.Answer.{Answer, Accepted, Refused}
use Rattle.journal.specs.declared.Gate.{Gate}
use Rattle.journal.specs.declared.Gate.TheVariants.{Open, Closed}
use Rattle.journal.specs.Journal.{is_closed}
use Rattle.queue.specs.Queue.{ready}
use Rattle.join.specs.State.{State, Sound, fresh_state, state_of}
use Rattle.join.specs.Calls.{ready_of, ready_in, waiting_in, both_closed}
use Rattle.join.proofs.Kept.{sound_fresh}
use Rattle.demands.specs.Demands.{accepted_of, plain_of, ran}
use Rattle.demands.specs.History.{Call, World, begin, run}
use Rattle.demands.specs.Takes.{ready_now}
use Rattle.demands.proofs.Demands.{run_append, demands}
use Rattle.demands.proofs.Reached.{sound_run}
use Rattle.feed.specs.Reading.{Reading, Found, Refused as refused_reading, End, reading}
use Rattle.feed.specs.declared.Record.{Record}
use Rattle.feed.proofs.Readings.{found_ends}
use Rattle.framing.specs.Program.{next_of, deed, continued, printed_from, printed_by}
use Rattle.lines.specs.Line.{line}
use Rattle.steps.specs.declared.Progress.{Progress}
use Rattle.steps.specs.Printed.{pair_line, pair_lines, done_word, open_word, end_line, refused_line, heard, onward, answered, joinfeed, printed}
use Rattle.feed_demands.specs.Records.{records_at, records_from, records_of, entry_in, entries_in, plain_in}
use Rattle.feed_demands.specs.Course.{call_of, calls_of, Stop, FeedEnds, Refusal, Course, stops, goes_on, answered_by, course_at, course_from, course_of}
use Rattle.feed_demands.specs.Prints.{world_of, standing, last_line, Prints}
use Rattle.feed_demands.proofs.Record.{call_refused, calls_state, calls_out, takes_all, calls_entries}

-- behind k records that came to w, a text is what a course prints of some records
record Tells (k : ℕ) (w : World) (text : List ℕ) (records : List Record) (c : Course) : Type 0 where
  lines : pair_lines w.out ++ text ≡ pair_lines (run w c.calls).out ++ last_line c.stop (standing (k + length c.accepted) (run w c.calls))
  first : IsPrefix c.accepted records
  all : c.stop ≡ FeedEnds → c.accepted ≡ records
  entries : (side : Side) → accepted_of side (run w c.calls) ≡ accepted_of side w ++ entries_in side c.accepted
  none : ready_now (run w c.calls) ≡ []

module _ (k : ℕ) (w : World) where
  -- it stops there, by calls that change nothing
  stopped : ready_now w ≡ [] → (calls : List Call) (stop : Stop) → run w calls ≡ w → (records : List Record) → (stop ≡ FeedEnds → [] ≡ records)
      → Tells k w (last_line stop (standing k w)) records (stops calls stop)
  stopped none calls stop same records all =
      let no_more_lem : k ≡ k + 0 = omega arith in
      record {
        lines = ap₂ (λ (v : World) (n : ℕ). pair_lines v.out ++ last_line stop (standing n v)) (sym same) no_more_lem;
        first = (records, refl);
        all = all;
        entries = λ side. ap (accepted_of side) same ∙ sym (append-nil (accepted_of side w));
        none = ap ready_now same ∙ none;
      }

  module _ (h : Sound w.state) (found : Record) where
    onward_standing : onward (standing k w) (heard w.state found).state ≡ standing (suc k) (run w (calls_of w found))
    onward_standing =
        let pairs = ap length (calls_out w h found) ∙ length-append w.out (ready_of (heard w.state found).state) in
        λ i. record { state = sym (calls_state w h found) i; records = suc k; pairs = sym pairs i }

    -- it goes on behind a record
    accepted : (heard w.state found).answer ≡ Accepted → (text : List ℕ) (records : List Record) (c : Course) → Tells (suc k) (run w (calls_of w found)) text records c
        → Tells k w (pair_lines (ready_of (heard w.state found).state) ++ text) (found ∷ records) (goes_on found (calls_of w found) c)
    accepted a text records c t =
        let new = ready_of (heard w.state found).state in
        let joined = run_append w (calls_of w found) c.calls in
        let up : suc k + length c.accepted ≡ k + suc (length c.accepted) = omega arith in
        record {
          lines =
              sym (append_assoc (pair_lines w.out) (pair_lines new) text)
              ∙ ap (λ (l : List ℕ). l ++ text) (sym (flat_map_append pair_line w.out new))
              ∙ ap (λ (ps : List Pair). pair_lines ps ++ text) (sym (calls_out w h found))
              ∙ t.lines
              ∙ ap₂ (λ (v : World) (n : ℕ). pair_lines v.out ++ last_line c.stop (standing n v)) (sym joined) up;
          first = (t.first.0, ap {B = List Record} (λ l. found ∷ l) t.first.1);
          all = λ e. ap {B = List Record} (λ l. found ∷ l) (t.all e);
          entries = λ side.
              ap (accepted_of side) joined
              ∙ t.entries side
              ∙ ap (λ (l : List Entry). l ++ entries_in side c.accepted) (calls_entries side w found a)
              ∙ append_assoc (accepted_of side w) (entry_in side found) (entries_in side c.accepted);
          none = ap ready_now joined ∙ t.none;
        }

abbrev TellsFrom : ℕ → Type 0
TellsFrom n =
    (k : ℕ) (w : World) → Sound w.state → ready_now w ≡ [] → (rest : List ℕ) → length rest < n
    → Tells k w (printed_from joinfeed n (standing k w) rest) (records_from n rest) (course_from n w rest)

-- at a place of the feed, if it is so at all later ones
module _ (n : ℕ) (again : TellsFrom n) (k : ℕ) (w : World) (h : Sound w.state) (none : ready_now w ≡ []) (rest : List ℕ) (few : length rest < suc n) where
  with_answer : (found : Record) (next : ℕ) → (4 ≤ next) × (next ≤ length rest) → (x : Answer) → (heard w.state found).answer ≡ x
      → Tells k w (continued (printed_from joinfeed n) rest next (answered (standing k w) x (heard w.state found).state)) (found ∷ records_from n (drop next rest))
      (answered_by x found (goes_on found (calls_of w found) (course_from n (run w (calls_of w found)) (drop next rest))))
  with_answer found next within Accepted a =
      let v = run w (calls_of w found) in
      let fewer : length (drop next rest) < n = simp length-drop (omega arith) in
      let behind = again (suc k) v (sound_run w h (calls_of w found)) (takes_all w h found) (drop next rest) fewer in
      rw (onward_standing k w h found) (accepted k w h found a _ (records_from n (drop next rest)) _ behind)
  with_answer found next within (Refused number) a =
      stopped k w none (call_of found) (Refusal number) (call_refused w found number a) (found ∷ records_from n (drop next rest)) (λ e. absurd (let z : ◌≡◌ {A = ℕ} 0 1 = cc in omega arith))

  with_reading : (r : Reading) → reading rest 0 ≡ r → Tells k w (continued (printed_from joinfeed n) rest (next_of r) (deed joinfeed (standing k w) r)) (records_at (records_from n) rest r) (course_at (course_from n) w rest r)
  with_reading (Found found next) e = with_answer found next (found_ends rest 0 e) (heard w.state found).answer refl
  with_reading (refused_reading number place) e = stopped k w none [] (Refusal number) refl [] (λ s. refl)
  with_reading End e = stopped k w none [] FeedEnds refl [] (λ s. refl)

tells : (n : ℕ) → TellsFrom n
tells zero k w h none rest few = absurd (let never : length rest < 0 = few in omega arith)
tells (suc n) k w h none rest few = with_reading n (tells n) k w h none rest few (reading rest 0) refl

-- ---- with both journals closed every pair is ready

ready_closed : (a b : Gate) → is_closed a && is_closed b ≡ true → (p : Pair) → ready a b p ≡ true
unfolding ready
ready_closed (Open clock) b e p = absurd (false≢true e)
ready_closed Closed (Open clock) e p = absurd (false≢true e)
ready_closed Closed Closed e p = refl

none_waits : (s : State) → both_closed s ≡ true → ready_of s ≡ [] → waiting_in s ≡ []
none_waits s closed none = sym (filter_all (ready_in s) (waiting_in s) (all_any (λ (p : Pair). ready_in s p ≡ true) (ready_closed s.a.journal.gate s.b.journal.gate closed) (waiting_in s))) ∙ none

fresh_none : (rule : Rule) → ready_now (begin rule) ≡ []
unfolding fresh_state state_of
fresh_none rule = refl

-- a last line begins with `done` where the feed ends with both closed, and nowhere else
says_done : (stop : Stop) (p : Progress) → IsPrefix done_word (last_line stop p) → (stop ≡ FeedEnds) × (both_closed p.state ≡ true)
unfolding end_line refused_line
says_done FeedEnds p h = (refl, go (both_closed p.state) h)
  where
    go : (b : Bool) → IsPrefix done_word (cond b done_word open_word ++ line (p.records ∷ p.pairs ∷ [])) → b ≡ true
    go true k = refl
    go false k = absurd (let z : ◌≡◌ {A = ℕ} 100 111 = cc k.1 in omega arith)
says_done (Refusal number) p h = absurd (let z : ◌≡◌ {A = ℕ} 100 114 = cc h.1 in omega arith)

done_line : (w : World) (n : ℕ) → both_closed w.state ≡ true → end_line (standing n w) ≡ done_word ++ line (n ∷ length w.out ∷ [])
unfolding end_line
done_line w n closed = rw closed

-- For every rule, feed and limit.
pub prints : (rule : Rule) (limit : ℕ) (feed : List ℕ) → Prints rule limit feed
unfolding printed_by records_of course_of flat_map
prints rule limit feed =
    let c : Course = course_of rule limit feed in
    let w = world_of rule c in
    let t : Tells 0 (begin rule) (printed rule limit feed) (records_of limit feed) c = tells (suc (length (take limit feed))) 0 (begin rule) (sound_fresh rule) (fresh_none rule) (take limit feed) (omega arith) in
    let none : 0 + length c.accepted ≡ length c.accepted = omega arith in
    let handed = t.lines ∙ ap (λ (n : ℕ). pair_lines w.out ++ last_line c.stop (standing n w)) none in
    record {
      handed = handed;
      accepted = (t.first, t.all);
      entries = (t.entries A, t.entries B);
      stretch = λ more. (demands rule c.calls more).first_stretch;
      none_kept_back = λ more. sym (append-nil w.out) ∙ ap (λ (ps : List Pair). w.out ++ ps) (sym t.none) ∙ (demands rule c.calls more).below_clocks;
      done_whole = λ said.
          let s = says_done c.stop (standing (length c.accepted) w) said in
          let whole : w.out ≡ plain_in rule c.accepted =
          (demands rule c.calls []).whole s.1 (none_waits w.state s.1 t.none)
          ∙ ap (λ (calls : List Call). plain_of rule (ran rule calls)) (append-nil c.calls)
          ∙ ap₂ (λ (a b : List Entry). plain rule a b) (t.entries A) (t.entries B) in
          handed
          ∙ ap (λ (stop : Stop). pair_lines w.out ++ last_line stop (standing (length c.accepted) w)) s.0
          ∙ ap (λ (l : List ℕ). pair_lines w.out ++ l) (done_line w (length c.accepted) s.1)
          ∙ ap₂ (λ (ps : List Pair) (n : ℕ). pair_lines ps ++ (done_word ++ line (n ∷ length ps ∷ []))) (whole ∙ ap (plain_in rule) (t.all s.0)) (ap length (t.all s.0));
    }
