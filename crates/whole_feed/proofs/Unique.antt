-- The contract of `print_feed` allows one answer and one content of the buffer.
use mathlib.Core.List.{List}
use Prim.Native.Nat.{ℕ}
use Rattle.std.specs.Prelude.{Option, Some, None}
use mathlib.Core.Path.{◌≡◌, refl}
use Rattle.unique.specs.Unique.{OneOutcome}
use Rattle.unique.proofs.Equation.{agree}
use Rattle.whole_feed.specs.Printing.{printing_of}
use Rattle.whole_feed.proofs.print_feed.Reads as print-feed

-- printings that are the same are the same answer
same_printing : (x y : Option ℕ) → printing_of x ≡ printing_of y → x ≡ y
same_printing (Some n) (Some m) e = cc
same_printing (Some n) None e = cc
same_printing None (Some m) e = cc
same_printing None None e = refl

one_print_feed : OneOutcome {Seen = Option ℕ × List ℕ} (λ κs r left. (r, left.1.1.0.now)) print-feed.Post
one_print_feed κs args x y left other p q =
    let e = agree p q in
    let same = same_printing x y (λ i. (e i).answer) in
    λ i. (same i, (e i).buffer)
