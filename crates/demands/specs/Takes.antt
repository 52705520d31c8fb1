-- The pair that is k-th among the ready ones is handed out by the k-th take from now, at most 256, whatever accepted calls come between.
use Rattle.std.specs.Prelude.{ℕ, suc, ◌≤◌, List, [], ◌∷◌, ◌++◌, ◌≡◌, length, take}
use Rattle.pairing.specs.declared.Pair.{Pair}
use Rattle.join.specs.Calls.{Handed, ready_of, take_call}
use Rattle.join.specs.State.{Sound}
use Rattle.demands.specs.History.{Call, Enter, Mark, Close, Take, World, run}

-- how many of the calls are takes
abbrev pub takes : List Call → ℕ
takes [] = 0
takes (Enter stream e ∷ cs) = takes cs
takes (Mark stream time ∷ cs) = takes cs
takes (Close stream ∷ cs) = takes cs
takes (Take ∷ cs) = suc (takes cs)

-- the ready pairs, in their order
abbrev pub ready_now : World → List Pair
ready_now w = ready_of w.state

pub record InTurn (w : World) : Type 0 where
  -- p comes after as many ready pairs as there are takes among the calls, which are any, with any arguments, refused ones too: the take after them hands out p
  pub kth : (earlier : List Pair) (p : Pair) (rest : List Pair) → ready_now w ≡ earlier ++ (p ∷ rest) → (cs : List Call) → takes cs ≡ length earlier → (take_call (run w cs).state).answer ≡ Handed p
  -- so any calls hand out the first ready pairs first, one a take as far as they go, in their order
  pub stretch : (cs : List Call) → (more : List Pair) × ((run w cs).out ≡ (w.out ++ take (takes cs) (ready_now w)) ++ more)
  pub most : length (ready_now w) ≤ 256

-- from any sound state
abbrev pub KthTake : Type 0
KthTake = (w : World) → Sound w.state → InTurn w
