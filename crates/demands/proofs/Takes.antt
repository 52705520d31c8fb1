-- The k-th ready pair is handed out by the k-th take from now, whatever calls come between; and takes one after the other are one drop.
use Prim.Native.Nat.{ℕ, zero, suc, ◌≤◌}
use native.Mathlib.Nat.{not-suc-le-zero, le_of_suc-le-suc}
use native.Mathlib.Omega.{arith}
use mathlib.Core.List.{List, [], ◌∷◌, ◌++◌, append-nil, append_assoc}
use mathlib.Core.Path.{◌≡◌, refl, sym, ap, ◌∙◌}
use lib.ListN.{length, replicate, take, drop, length-take, take-append-drop}
use lib.Seq.{length-take-le}
use Rattle.pairing.specs.declared.Pair.{Pair}
use Rattle.join.specs.Calls.{Took, Outcome, without, ready_of}
use Rattle.join.specs.State.{Sound}
use Rattle.join.proofs.Ready.{ready_few, Grows, entry_grows, mark_grows, close_grows, take_ready, taken_from, takes_together}
use Rattle.demands.specs.History.{Call, Enter, Mark, Close, Take, after, handed_by, hands, World, step, run}
use Rattle.demands.specs.Takes.{takes, ready_now, KthTake}
use Rattle.demands.proofs.Reached.{sound_after, sound_run}

-- after as many takes as there are `earlier` ones, these are handed out and the rest is still ready, in front
record Turned (w : World) (cs : List Call) (earlier rest : List Pair) : Type 0 where
  out : (run w cs).out ≡ w.out ++ earlier
  new : List Pair
  still : ready_now (run w cs) ≡ rest ++ new

-- a call that hands out nothing
passed : (w : World) (c : Call) (cs : List Call) (earlier rest : List Pair) → hands w.state c ≡ [] → Grows w.state (after w.state c) → ready_now w ≡ earlier ++ rest
    → ((more : List Pair) → ready_now (step w c) ≡ earlier ++ more → Turned (step w c) cs earlier more) → Turned w (c ∷ cs) earlier rest
passed w c cs earlier rest none grown e next =
    let t = next (rest ++ grown.0) (grown.1 ∙ ap (λ (l : List Pair). l ++ grown.0) e ∙ append_assoc earlier rest grown.0) in
    record {
      out = t.out ∙ ap (λ (l : List Pair). (w.out ++ l) ++ earlier) none ∙ ap (λ (l : List Pair). l ++ earlier) (append-nil w.out);
      new = grown.0 ++ t.new;
      still = t.still ∙ append_assoc rest grown.0 t.new;
    }

turned : (cs : List Call) (w : World) → Sound w.state → (earlier rest : List Pair) → ready_now w ≡ earlier ++ rest → takes cs ≡ length earlier → Turned w cs earlier rest
turned [] w h [] rest e n = record { out = sym (append-nil w.out); new = []; still = e ∙ sym (append-nil rest) }
turned [] w h (p ∷ earlier) rest e n = absurd (never (length earlier) n)
  where
    never : (m : ℕ) → 0 ≡ suc m → ⊥
    never m f = omega arith
turned (Enter stream x ∷ cs) w h earlier rest e n =
    passed w (Enter stream x) cs earlier rest refl (entry_grows w.state h stream x) e (λ more f. turned cs (step w (Enter stream x)) (sound_after w.state h (Enter stream x)) earlier more f n)
turned (Mark stream time ∷ cs) w h earlier rest e n =
    passed w (Mark stream time) cs earlier rest refl (mark_grows w.state h stream time) e (λ more f. turned cs (step w (Mark stream time)) (sound_after w.state h (Mark stream time)) earlier more f n)
turned (Close stream ∷ cs) w h earlier rest e n =
    passed w (Close stream) cs earlier rest refl (close_grows w.state h stream) e (λ more f. turned cs (step w (Close stream)) (sound_after w.state h (Close stream)) earlier more f n)
turned (Take ∷ cs) w h [] rest e n = absurd (never (takes cs) n)
  where
    never : (m : ℕ) → suc m ≡ 0 → ⊥
    never m f = omega arith
turned (Take ∷ cs) w h (p ∷ earlier) rest e n =
    let one = take_ready w.state h p (earlier ++ rest) e in
    let t = turned cs (step w Take) (sound_after w.state h Take) earlier rest (ap (λ (o : Outcome Took). ready_of o.state) one.0 ∙ one.1) (omega arith) in
    record {
      out = t.out ∙ ap (λ (o : Outcome Took). (w.out ++ handed_by o.answer) ++ earlier) one.0 ∙ append_assoc w.out (p ∷ []) earlier;
      new = t.new;
      still = t.still;
    }

-- ---- any number of takes

-- a run of two stretches of calls
run_append : (cs more : List Call) (w : World) → run w (cs ++ more) ≡ run (run w cs) more
run_append [] more w = refl
run_append (c ∷ cs) more w = run_append cs more (step w c)

-- what was handed out is not taken back
out_grows : (cs : List Call) (w : World) → (more : List Pair) × ((run w cs).out ≡ w.out ++ more)
out_grows [] w = ([], sym (append-nil w.out))
out_grows (c ∷ cs) w =
    let t = out_grows cs (step w c) in
    (hands w.state c ++ t.0, t.1 ∙ append_assoc w.out (hands w.state c) t.0)

-- the calls up to the k-th take, and the others
record Cut (k : ℕ) (cs : List Call) : Type 0 where
  until : List Call
  others : List Call
  joined : cs ≡ until ++ others
  counted : takes until ≡ k

cut_cons : (k n : ℕ) (c : Call) (cs : List Call) → ((until : List Call) → takes until ≡ k → takes (c ∷ until) ≡ n) → Cut k cs → Cut n (c ∷ cs)
cut_cons k n c cs f t = record { until = c ∷ t.until; others = t.others; joined = ap {B = List Call} (λ l. c ∷ l) t.joined; counted = f t.until t.counted }

cut : (k : ℕ) (cs : List Call) → k ≤ takes cs → Cut k cs
cut zero cs h = record { until = []; others = cs; joined = refl; counted = refl }
cut (suc k) [] h = absurd (not-suc-le-zero h)
cut (suc k) (Enter stream e ∷ cs) h = cut_cons (suc k) (suc k) (Enter stream e) cs (λ until n. n) (cut (suc k) cs h)
cut (suc k) (Mark stream time ∷ cs) h = cut_cons (suc k) (suc k) (Mark stream time) cs (λ until n. n) (cut (suc k) cs h)
cut (suc k) (Close stream ∷ cs) h = cut_cons (suc k) (suc k) (Close stream) cs (λ until n. n) (cut (suc k) cs h)
cut (suc k) (Take ∷ cs) h = cut_cons k (suc k) Take cs (λ until n. ap suc n) (cut k cs (le_of_suc-le-suc h))

-- with as many takes as there are `earlier` ones or more, these are handed out first
stretched : (cs : List Call) (w : World) → Sound w.state → (earlier rest : List Pair) → ready_now w ≡ earlier ++ rest → length earlier ≤ takes cs
    → (more : List Pair) × ((run w cs).out ≡ (w.out ++ earlier) ++ more)
stretched cs w h earlier rest e few =
    let c = cut (length earlier) cs few in
    let t = turned c.until w h earlier rest e c.counted in
    let later = out_grows c.others (run w c.until) in (
      later.0,
      ap (λ (l : List Call). (run w l).out) c.joined
          ∙ ap (λ (v : World). v.out) (run_append c.until c.others w)
          ∙ later.1
          ∙ ap (λ (l : List Pair). l ++ later.0) t.out,
    )

-- Demand 1's k-th take, from any sound state.
pub kth_take : KthTake
kth_take w h = record {
  kth = λ earlier p rest e cs n.
      let t = turned cs w h earlier (p ∷ rest) e n in
      ap (λ (o : Outcome Took). o.answer) (take_ready (run w cs).state (sound_run w h cs) p (rest ++ t.new) t.still).0;
  stretch = λ cs.
      let n = takes cs in
      stretched cs w h (take n (ready_now w)) (drop n (ready_now w)) (sym (take-append-drop n (ready_now w))) (omega (arith, length-take n (ready_now w)));
  most = ready_few w.state h;
}

-- no more takes than ready pairs hand out those and no others
pub handed : (w : World) → Sound w.state → (cs : List Call) → takes cs ≤ length (ready_now w) → (run w cs).out ≡ w.out ++ take (takes cs) (ready_now w)
handed w h cs few =
    let n = takes cs in
    (turned cs w h (take n (ready_now w)) (drop n (ready_now w)) (sym (take-append-drop n (ready_now w))) (sym (length-take-le n (ready_now w) few))).out

-- ---- takes one after the other

takes_replicate : (k : ℕ) → takes (replicate k Take) ≡ k
takes_replicate zero = refl
takes_replicate (suc k) = ap suc (takes_replicate k)

run_takes : (k : ℕ) (w : World) → (run w (replicate k Take)).state ≡ taken_from k w.state
run_takes zero w = refl
run_takes (suc k) w = run_takes k (step w Take)

-- where k pairs are ready, k takes hand them out and leave what one drop of k leaves
pub takes_drop : (k : ℕ) (w : World) → Sound w.state → k ≤ length (ready_now w)
    → ((run w (replicate k Take)).state ≡ without k w.state) × ((run w (replicate k Take)).out ≡ w.out ++ take k (ready_now w))
takes_drop k w h few = (
  run_takes k w ∙ (takes_together k w.state h few).0,
  handed w h (replicate k Take) (rw (takes_replicate k) few) ∙ ap (λ (n : ℕ). w.out ++ take n (ready_now w)) (takes_replicate k),
)
