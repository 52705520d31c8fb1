-- What a loop of steps over a flow keeps, with a window and a buffer for what is put out, of one size; and why it ends: each step uses some of the input, or a read shows more of it or its end.
use Prim.Native.Nat.{ℕ, suc, ◌+◌, ◌-◌, ◌*◌, ◌≤◌, ◌<◌}
use native.Mathlib.Omega.{arith}
use mathlib.Core.Bool.{Bool, true, false, false≢true, true≢false}
use mathlib.Core.List.{List}
use mathlib.Core.Logic.{◌⊎◌, inl, inr}
use mathlib.Core.Path.{◌≡◌, sym, subst}
use lib.ListN.{length}
use Rattle.pipe.specs.declared.Flow.{Flow}
use Rattle.pipe.specs.Flow.{Flowing, Refilled, gone}

-- how many bytes the window has, and the buffer
abbrev pub size : ℕ
size = 65536

pub record Piped (flow : Flow) (window out : List ℕ) (room : ℕ) : Type 0 where
  pub flowing : Flowing flow size
  pub roomy : flow.filled + room ≤ size
  pub window_long : length window ≡ size
  pub out_long : length out ≡ size

-- how many more bytes a window may show, and the end behind them, if it is not known
abbrev pub unknown : Bool → ℕ → ℕ
unknown true shown = 0
unknown false shown = suc size - shown

-- The measure: each byte that is left counts twice, as using it makes the window show one less.
abbrev pub remaining : Flow → ℕ
remaining flow = 2 * flow.left + unknown flow.ended (flow.end - flow.at)

module _ {flow : Flow} {window out : List ℕ} {room : ℕ} (h : Piped flow window out room) {next : Flow} where
  -- a step that went on, and what is counted behind it
  module _ (used filled : ℕ) (shown : flow.at + used ≤ flow.end) where
    pub piped_on : {left : List ℕ} → (next.filled + room ≤ length left) × (next ≡ gone (length left) room flow used filled) → length left ≡ size → Piped next window left room
    piped_on {left} g long =
        let f = h.flowing in
        subst (λ (x : Flow). x.filled + room ≤ length left → Piped x window left room)
        (sym g.1)
        (λ few. record { flowing = record { order = shown; in_window = f.in_window; in_limit = omega arith; counted = omega arith }; roomy = omega arith; window_long = h.window_long; out_long = long })
        g.0

    pub less_on : (n : ℕ) → next ≡ gone n room flow used filled → 0 < used → remaining next < remaining flow
    less_on n e some = subst (λ (x : Flow). remaining x < remaining flow) (sym e) (go flow.ended)
      where
        go : (ended : Bool) → 2 * (flow.left - used) + unknown ended (flow.end - (flow.at + used)) < 2 * flow.left + unknown ended (flow.end - flow.at)
        go true = let f = h.flowing in omega arith
        go false = let f = h.flowing in omega arith

  -- a read behind what is not used
  pub piped_refilled : {n : ℕ} {after left : List ℕ} → Refilled flow n next → n ≡ size → length after ≡ size → length left ≡ size → Piped next after left room
  piped_refilled r same w o =
      let f = r.flowing in
      let none = r.written in
      let few = h.roomy in
      record { flowing = record { order = f.order; in_window = omega arith; in_limit = f.in_limit; counted = f.counted }; roomy = omega arith; window_long = w; out_long = o }

  pub less_refilled : {n : ℕ} → Refilled flow n next → n ≡ size → flow.ended ≡ false → remaining next < remaining flow
  less_refilled r same e = go flow.ended e next.ended r.more
    where
      go : (was : Bool) → was ≡ false → (ended : Bool) → (ended ≡ true) ⊎ (flow.end - flow.at < next.end) → 2 * next.left + unknown ended (next.end - next.at) < 2 * flow.left + unknown was (flow.end - flow.at)
      go true w ended more = absurd (true≢false w)
      go false w true more = let f = h.flowing in omega arith
      go false w false (inl t) = absurd (false≢true t)
      go false w false (inr more) = let f = h.flowing in omega arith
