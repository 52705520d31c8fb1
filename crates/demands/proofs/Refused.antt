-- A refused call leaves all as it stood, so a run equals the run without its refused calls.
use mathlib.Core.Bool.{Bool, true, false, cond, false≢true}
use mathlib.Core.List.{List, [], ◌∷◌, ◌++◌, append-nil}
use mathlib.Core.Path.{◌≡◌, refl, sym, ap, ◌∙◌}
use Rattle.pairing.specs.declared.Entry.{Entry}
use Rattle.pairing.specs.declared.Pair.{Pair}
use Rattle.pairing.specs.declared.Side.{Side}
use Rattle.pairing.specs.declared.Side.TheVariants.{A, B}
use Rattle.journal.specs.Answer.{Answer, unless_refused}
use Rattle.journal.specs.Answer as answer
use Rattle.join.specs.Calls.{Took, Handed, Waiting, Finished, Refused, entry_call, mark_call, close_call, take_call, take_on, next_of, after_take, ready_in, both_closed, waiting_in}
use Rattle.join.specs.State.{State, sound}
use Rattle.demands.specs.History.{Call, Enter, Mark, Close, Take, after, accepts, hands, handed_by, World, step, run, is_refusal, is_take_refusal, refused, heeded}

unless_refused_lem : {A : Type 0} (a : Answer) (new old : A) → is_refusal a ≡ true → unless_refused a new old ≡ old
unless_refused_lem answer.Accepted new old e = absurd (false≢true e)
unless_refused_lem (answer.Refused number) new old e = refl

after_refused : (s : State) (c : Call) → refused s c ≡ true → after s c ≡ s
unfolding entry_call mark_call close_call take_call
after_refused s (Enter stream e) h = unless_refused_lem (entry_call s stream e).answer _ s h
after_refused s (Mark stream time) h = unless_refused_lem (mark_call s stream time).answer _ s h
after_refused s (Close stream) h = unless_refused_lem (close_call s stream).answer _ s h
after_refused s Take h = go (sound s) h
  where
    kept : (a : Took) → is_take_refusal a ≡ true → after_take a s ≡ s
    kept (Handed p) k = absurd (false≢true k)
    kept Waiting k = refl
    kept Finished k = refl
    kept (Refused number) k = refl

    go : (b : Bool) → is_take_refusal (cond b (take_on s) (record { answer = Refused 8; state = s })).answer ≡ true → (cond b (take_on s) (record { answer = Refused 8; state = s })).state ≡ s
    go true k = kept (next_of (ready_in s) (both_closed s) (waiting_in s)) k
    go false k = refl

accepts_refused : (side : Side) (s : State) (c : Call) → refused s c ≡ true → accepts side s c ≡ []
accepts_refused side s (Enter stream e) h = unless_refused_lem (entry_call s stream e).answer _ [] h
accepts_refused side s (Mark stream time) h = refl
accepts_refused side s (Close stream) h = refl
accepts_refused side s Take h = refl

hands_refused : (s : State) (c : Call) → refused s c ≡ true → hands s c ≡ []
hands_refused s (Enter stream e) h = refl
hands_refused s (Mark stream time) h = refl
hands_refused s (Close stream) h = refl
hands_refused s Take h = go (take_call s).answer h
  where
    go : (a : Took) → is_take_refusal a ≡ true → handed_by a ≡ []
    go (Handed p) k = absurd (false≢true k)
    go Waiting k = refl
    go Finished k = refl
    go (Refused number) k = refl

pub step_refused : (w : World) (c : Call) → refused w.state c ≡ true → step w c ≡ w
step_refused w c h =
    let state = after_refused w.state c h in
    let of_a = ap (λ (l : List Entry). w.of_a ++ l) (accepts_refused A w.state c h) ∙ append-nil w.of_a in
    let of_b = ap (λ (l : List Entry). w.of_b ++ l) (accepts_refused B w.state c h) ∙ append-nil w.of_b in
    let out = ap (λ (l : List Pair). w.out ++ l) (hands_refused w.state c h) ∙ append-nil w.out in
    λ i. record { state = state i; of_a = of_a i; of_b = of_b i; out = out i }

pub run_heeded : (w : World) (calls : List Call) → run w (heeded w.state calls) ≡ run w calls
run_heeded w [] = refl
run_heeded w (c ∷ cs) = go (refused w.state c) refl (run_heeded (step w c) cs)
  where
    go : (b : Bool) → refused w.state c ≡ b → run (step w c) (heeded (after w.state c) cs) ≡ run (step w c) cs
        → run w (cond b (heeded (after w.state c) cs) (c ∷ heeded (after w.state c) cs)) ≡ run (step w c) cs
    go true h e = ap (λ (v : World). run v (heeded (after w.state c) cs)) (sym (step_refused w c h)) ∙ e
    go false h e = e

-- in the run without them no call is refused
pub heeded_heeded : (s : State) (calls : List Call) → heeded s (heeded s calls) ≡ heeded s calls
heeded_heeded s [] = refl
heeded_heeded s (c ∷ cs) = go (refused s c) refl (heeded_heeded (after s c) cs)
  where
    go : (b : Bool) → refused s c ≡ b → heeded (after s c) (heeded (after s c) cs) ≡ heeded (after s c) cs
        → heeded s (cond b (heeded (after s c) cs) (c ∷ heeded (after s c) cs)) ≡ cond b (heeded (after s c) cs) (c ∷ heeded (after s c) cs)
    go true h e = ap (λ (r : State). heeded r (heeded (after s c) cs)) (sym (after_refused s c h)) ∙ e
    go false h e = rw h (ap {B = List Call} (λ l. c ∷ l) e)
