-- `put_last` meets its contract: the numbers are put behind the word.
use Rattle.std.proofs.Common.{ℕ, arith, sym, ap, ◌∙◌, length}
use native.Mathlib.Nat.{zero-add}
use Rattle.lists.specs.Put.{put}
use Rattle.lists.proofs.Put.{put_then}
use Rattle.lines.specs.Line.{line}
use Rattle.steps.proofs.put_last.Goals as goal

pub returns-clause-out_after : goal.returns-clause-out_after
returns-clause-out_after c =
    let a = c.args in
    let numbers = line a.numbers.now in
    put_then 0 a.word.now numbers a.out.now c.put_text.ensures (c.put_line.ensures.out_after ∙ ap (λ (at : ℕ). put at numbers c.put_text.new.out) (sym (zero-add (length a.word.now)))) (omega arith)
