-- A text that was put into a buffer is no longer than the buffer.
use Prim.Native.Nat.{ℕ, ◌≤◌}
use native.Mathlib.Omega.{arith}
use mathlib.Core.Bool.{Bool, true, false, cond}
use mathlib.Core.List.{List}
use mathlib.Core.Path.{◌≡◌, refl, ap}
use lib.Dec.{leb}
use lib.ListN.{length}
use borrow.Author.Tests.{leb-true}
use Rattle.lists.specs.Put.{put}
use Rattle.whole_feed.specs.Printing.{Filled, TooShort, Printout, printout, fitted}

pub filled_few : (text out buffer : List ℕ) (size : ℕ) → printout (Filled size) buffer ≡ fitted text out → size ≤ length out
unfolding fitted
filled_few text out buffer size = go (leb (length text) (length out)) refl
  where
    go : (b : Bool) → leb (length text) (length out) ≡ b → printout (Filled size) buffer ≡ cond b (printout (Filled (length text)) (put 0 text out)) (printout TooShort out) → size ≤ length out
    go true few e =
        let h = leb-true (length text) (length out) few in
        let answer = ap (λ (p : Printout). p.answer) e in
        let same : size ≡ length text = cc in
        omega arith
    go false few e = absurd (let answer = ap (λ (p : Printout). p.answer) e in let z : ◌≡◌ {A = ℕ} 0 1 = cc in omega arith)
