-- Laws of a step, whatever the program.
use Prim.Native.Nat.{ℕ, ◌-◌, ◌≤◌}
use native.Mathlib.Nat.{sub-zero}
use native.Mathlib.Omega.{arith}
use mathlib.Core.Bool.{Bool, true, false, cond}
use mathlib.Core.List.{List}
use mathlib.Core.Path.{◌≡◌, refl, sym, subst}
use lib.ListN.{length, length-take}
use Rattle.lists.specs.Put.{put}
use Rattle.feed.specs.Reading.{Reading, Found, Refused, End, reading}
use Rattle.feed.specs.declared.Record.{Record}
use Rattle.feed.specs.Kind.{shortest_record}
use Rattle.feed.proofs.Readings.{found_ends}
use Rattle.framing.specs.Step.{Ended, Effect, effect_of, waits, done, stepped}
use Rattle.framing.specs.Shown.{shown, tells}
use Rattle.framing.specs.Program.{Deed, Ends, Goes, Program}

-- ---- what a deed leaves, where its lines are put out

module _ {P : Type 0} (p : P) (out : List ℕ) (next : ℕ) (lines : List ℕ) (filled : ℕ) (buffer : List ℕ) (long : filled ≡ length lines) (same : buffer ≡ put 0 lines out) where
  pub ends_effect : (q : P) → q ≡ p → record { went = Ended; progress = q; used = 0; filled = filled; buffer = buffer } ≡ effect_of p out next (Ends lines)
  ends_effect q e = λ i. record { went = Ended; progress = e i; used = 0; filled = long i; buffer = same i }

-- ---- what a step does

module _ {P : Type 0} (program : Program P) (p : P) (left : ℕ) (window : List ℕ) (ended : Bool) (out : List ℕ) where
  pub step_waits : tells left window ended ≡ false → stepped program p left window ended out ≡ waits p out
  unfolding stepped
  step_waits e = rw e

  pub step_reads : tells left window ended ≡ true → (r : Reading) → reading (shown left window) 0 ≡ r → stepped program p left window ended out ≡ done program p out r
  unfolding stepped
  step_reads telling r e = rw (telling, e)

  -- it keeps what every record that is accepted keeps, of where a run stands and how many bytes may still be read
  module _ (Kept : P → ℕ → Type 0) (kept : Kept p left)
      (accepts : (found : Record) (next : ℕ) → (shortest_record ≤ next) × (next ≤ left) → (lines : List ℕ) (q : P) → program.on_record p found ≡ Goes lines q → Kept q (left - next))
    where
      abbrev KeptIn : Effect P → Type 0
      KeptIn e = Kept e.progress (left - e.used)

      still : Kept p (left - 0)
      still = rw (sub-zero left) kept

      kept_deed : (r : Reading) → reading (shown left window) 0 ≡ r → KeptIn (done program p out r)
      kept_deed (Found found next) e = go (program.on_record p found) refl
        where
          go : (d : Deed P) → program.on_record p found ≡ d → KeptIn (effect_of p out next d)
          go (Ends lines) f = still
          go (Goes lines q) f =
              let within = found_ends (shown left window) 0 e in
              accepts found next (within.0, omega (arith, length-take left window)) lines q f
      kept_deed (Refused number place) e = still
      kept_deed End e = still

      kept_step : KeptIn (stepped program p left window ended out)
      unfolding stepped
      kept_step = go (tells left window ended)
        where
          go : (b : Bool) → KeptIn (cond b (done program p out (reading (shown left window) 0)) (waits p out))
          go true = kept_deed (reading (shown left window) 0) refl
          go false = still

      -- whatever equals what a step leaves
      pub kept_by : (e : Effect P) → e ≡ stepped program p left window ended out → Kept e.progress (left - e.used)
      kept_by e same = subst KeptIn (sym same) kept_step
