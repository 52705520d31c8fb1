-- `put_line` meets its contract.
use Prim.Native.Nat.{ℕ, ◌+◌, ◌-◌}
use native.Mathlib.Omega.{arith}
use mathlib.Core.List.{List}
use mathlib.Core.Path.{sym, ap, ◌∙◌}
use lib.ListN.{length, take, drop, get_or, length-append, length-take}
use Rattle.lists.specs.Put.{put}
use Rattle.lines.specs.Line.{line}
use Rattle.lines.proofs.Lines.{line_from, length_from, line_last, field_then}
use Rattle.lines.proofs.put_line.Goals as goal

pub put_number-next-requires : goal.put_number-next-requires
put_number-next-requires c =
    omega (arith, length_from c.args.numbers.now c.loop-n.n-index c.loop-n-test.true)

pub loop-n-preserved : goal.loop-n-preserved
loop-n-preserved c =
    let numbers = c.args.numbers.now in
    let at-loop = c.loop-n in
    let i = at-loop.n-index in
    let field = c.put_number-next.ensures in
    let long = length_from numbers i c.loop-n-test.true in (
      omega arith,
      field_then at-loop.next (get_or (take (length numbers - 1) numbers) i 0) 32 (line (drop (i + 1) numbers)) at-loop.out field.value field.out_after (omega arith)
          ∙ ap (λ (bs : List ℕ). put at-loop.next bs at-loop.out) (sym (line_from numbers i c.loop-n-test.true))
          ∙ at-loop.invariant.1,
    )

pub put_number-requires : goal.put_number-requires
put_number-requires c =
    let e = line_last c.args.numbers.now c.loop-n.n-index (omega arith) (omega (arith, length-take {A = ℕ})) in
    omega (arith, simp length-append at (ap length e))

pub returns : goal.returns
returns c =
    let at-loop = c.loop-n in
    let e = line_last c.args.numbers.now at-loop.n-index (omega arith) (omega (arith, length-take {A = ℕ})) in
    let long = simp length-append at (ap length e) in
    record { value = omega arith; out_after = c.put_number.ensures.out_after ∙ ap (λ (bs : List ℕ). put at-loop.next bs at-loop.out) (sym e) ∙ at-loop.invariant.1 }
