-- `put_end` meets its contract: whether both journals are closed chooses the word.
use Rattle.std.proofs.Common.{List, ℕ, ◌<◌, arith, true, false, sym, ap, ◌∙◌, length}
use Rattle.lists.specs.Put.{put}
use Rattle.steps.proofs.Lines.{last_few, end_word}
use Rattle.steps.proofs.Progress.put_end.Goals as goal

pub put_last-requires : goal.put_last-requires
put_last-requires c =
    let small : c.from.result < 4294967296 = omega (arith, c.from.ensures) in
    (omega arith, omega (arith, last_few c.from.result c.args.self.now.pairs small (omega arith)))

pub returns-then-both_closed : goal.returns-then-both_closed
returns-then-both_closed c =
    let e = end_word c.args.self.now true (sym c.both_closed.ensures ∙ c.if-both_closed.true) in
    let put_so = rw c.from.ensures at c.put_last.ensures in
    record { value = put_so.value ∙ ap length (sym e); out_after = put_so.out_after ∙ ap (λ (l : List ℕ). put 0 l c.args.out.now) (sym e) }

pub put_last-requires-2 : goal.put_last-requires-2
put_last-requires-2 c =
    let small : c.from.result < 4294967296 = omega (arith, c.from.ensures) in
    (omega arith, omega (arith, last_few c.from.result c.args.self.now.pairs small (omega arith)))

pub returns : goal.returns
returns c =
    let e = end_word c.args.self.now false (sym c.both_closed.ensures ∙ c.if-both_closed.false) in
    let put_so = rw c.from.ensures at c.put_last-2.ensures in
    record { value = put_so.value ∙ ap length (sym e); out_after = put_so.out_after ∙ ap (λ (l : List ℕ). put 0 l c.args.out.now) (sym e) }
