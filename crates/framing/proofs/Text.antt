-- The text of a feed is put together step by step: what is put so far, and what is printed of the rest of the feed.
use Prim.Native.Nat.{ℕ, zero, suc, ◌+◌, ◌≤◌, ◌<◌}
use native.Mathlib.Omega.{arith}
use mathlib.Core.Bool.{true}
use mathlib.Core.List.{List, [], ◌++◌, append_assoc}
use mathlib.Core.Path.{◌≡◌, refl, sym, ap, subst, ◌∙◌}
use lib.ListN.{length, take, drop, length-append, length-drop}
use lib.Seq.{take_at}
use Rattle.lists.specs.Put.{put}
use Rattle.lists.proofs.Put.{put_none, put_first, put_then}
use Rattle.feed.specs.Reading.{Reading, Found, Refused, End, reading}
use Rattle.feed.specs.Kind.{shortest_record}
use Rattle.feed.proofs.Readings.{found_ends}
use Rattle.framing.specs.Step.{On, Ended, Effect, effect_of, done, stepped}
use Rattle.framing.specs.Shown.{shown, tells}
use Rattle.framing.specs.Program.{Deed, Ends, Goes, Program, next_of, deed, continued, printed_from, printed_by}
use Rattle.framing.proofs.Moves.{ended_is_not_on}

-- ---- a step that is shown all that is left of the feed

-- it puts out what comes next of the text: all that is left of it, or the rest follows
pub record Next {P : Type 0} (program : Program P) (n : ℕ) (rest whole : List ℕ) (e : Effect P) : Type 0 where
  pub lines : List ℕ
  pub front : take e.filled e.buffer ≡ lines
  pub long : e.filled ≡ length lines
  pub ended : e.went ≡ Ended → whole ≡ lines
  pub on : e.went ≡ On → (whole ≡ lines ++ printed_from program n e.progress (drop e.used rest)) × (shortest_record ≤ e.used) × (e.used ≤ length rest)

put_front : (lines out : List ℕ) → take (length lines) (put 0 lines out) ≡ lines
put_front lines out = ap (take (length lines)) (put_first lines out) ∙ take_at lines (drop (length lines) out) (length lines) refl

module _ {P : Type 0} (program : Program P) (n : ℕ) (p : P) where
  module _ (rest out : List ℕ) where
    next_ends : (used : ℕ) (lines : List ℕ) → Next program n rest lines (effect_of p out used (Ends lines))
    next_ends used lines = record { lines = lines; front = put_front lines out; long = refl; ended = λ e. refl; on = λ e. ended_is_not_on e }

    next_deed : (used : ℕ) → (shortest_record ≤ used) × (used ≤ length rest) → (d : Deed P) → Next program n rest (continued (printed_from program n) rest used d) (effect_of p out used d)
    next_deed used h (Ends lines) = next_ends used lines
    next_deed used h (Goes lines q) = record { lines = lines; front = put_front lines out; long = refl; ended = λ e. ended_is_not_on (sym e); on = λ e. (refl, h.0, h.1) }

    pub next_done : (r : Reading) → reading rest 0 ≡ r → Next program n rest (continued (printed_from program n) rest (next_of r) (deed program p r)) (done program p out r)
    next_done (Found found used) e = next_deed used (found_ends rest 0 e) (program.on_record p found)
    next_done (Refused number place) e = next_ends 0 (program.on_refusal p number)
    next_done End e = next_ends 0 (program.on_end p)

  next : (left : ℕ) (window out : List ℕ) (e : Effect P) → e ≡ stepped program p left window true out → Next program n (shown left window) (printed_from program (suc n) p (shown left window)) e
  unfolding stepped tells
  next left window out e same = subst (Next program n (shown left window) (printed_from program (suc n) p (shown left window))) (sym same) (next_done (shown left window) out (reading (shown left window) 0) refl)

-- ---- a run

-- so many bytes of a text are put, if the buffer has room for them, and what follows is printed of the rest of the feed
pub record Stands {P : Type 0} (program : Program P) (text rest : List ℕ) (p : P) (size : ℕ) (old out : List ℕ) : Type 0 where
  pub done : List ℕ
  pub records : ℕ
  pub few : length rest < suc records
  pub goes : text ≡ done ++ printed_from program (suc records) p rest
  pub long : size ≡ length done
  pub put_so : size ≤ length old → out ≡ put 0 done old

pub stands_begun : {P : Type 0} (program : Program P) (begun : P) (limit : ℕ) (feed old : List ℕ) → Stands program (printed_by program begun limit feed) (take limit feed) begun 0 old old
unfolding printed_by
stands_begun program begun limit feed old = record { done = []; records = length (take limit feed); few = omega arith; goes = refl; long = refl; put_so = λ h. sym (put_none 0 old) }

module _ {P : Type 0} (program : Program P) (left : ℕ) (window : List ℕ) {text : List ℕ} {p : P} {size : ℕ} {old out : List ℕ} (s : Stands program text (shown left window) p size old out) (lines : List ℕ) (e : Effect P) (same : e ≡ stepped program p left window true lines)
    (after : List ℕ) (putting : size + length (take e.filled e.buffer) ≤ length out → after ≡ put size (take e.filled e.buffer) out) (kept : length out ≡ length old)
  where
    abbrev step : Next program s.records (shown left window) (printed_from program (suc s.records) p (shown left window)) e
    step = next program s.records p left window lines e same

    -- what was put before and now
    abbrev both : List ℕ
    both = s.done ++ step.lines

    both_long : size + e.filled ≡ length both
    both_long =
        let a = s.long in
        let b = step.long in
        simp length-append (omega arith)

    both_put : size + e.filled ≤ length old → after ≡ put 0 both old
    both_put room =
        let a = s.long in
        let b = step.long in
        let place : size ≡ 0 + length s.done = omega arith in
        let fits : size + length (take e.filled e.buffer) ≤ length out = rw step.front (omega arith) in
        put_then 0 s.done step.lines old (s.put_so (omega arith)) (putting fits ∙ ap (λ (l : List ℕ). put size l out) step.front ∙ ap (λ (k : ℕ). put k step.lines out) place) (omega arith)

    pub stands_ended : e.went ≡ Ended → (size + e.filled ≡ length text) × (length text ≤ length old → after ≡ put 0 text old)
    stands_ended is =
        let whole : both ≡ text = sym (s.goes ∙ ap (λ (l : List ℕ). s.done ++ l) (step.ended is)) in
        (both_long ∙ ap length whole, λ room. both_put (let long = both_long ∙ ap length whole in omega arith) ∙ ap (λ (l : List ℕ). put 0 l old) whole)

    pub stands_on : e.went ≡ On → Stands program text (drop e.used (shown left window)) e.progress (size + e.filled) old after
    stands_on is = go s.records refl
      where
        go : (n : ℕ) → s.records ≡ n → Stands program text (drop e.used (shown left window)) e.progress (size + e.filled) old after
        go zero f =
            let few = s.few in
            let moved = step.on is in
            absurd (omega arith)
        go (suc n) f =
            let few = s.few in
            let moved = step.on is in
            record {
              done = both;
              records = n;
              few = simp length-drop (omega arith);
              goes =
                  s.goes
                  ∙ ap (λ (l : List ℕ). s.done ++ l) moved.0
                  ∙ sym (append_assoc s.done step.lines _)
                  ∙ ap (λ (k : ℕ). both ++ printed_from program k e.progress (drop e.used (shown left window))) f;
              long = both_long;
              put_so = both_put;
            }
