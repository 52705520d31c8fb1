-- `put_pairs` meets its contract.
use Rattle.std.proofs.Common.{arith, refl, sym, ap, length, get_or}
use mathlib.Core.List.{flat_map}
use Rattle.pairing.specs.Numbers.{pair_numbers}
use Rattle.lists.proofs.Put.{put_none}
use Rattle.lines.specs.Line.{line}
use Rattle.queue.specs.Queue.{no_pair}
use Rattle.steps.specs.Printed.{pair_line}
use Rattle.steps.proofs.Lines.{length_lines_more, put_line_more}
use Rattle.steps.proofs.put_pairs.Goals as goal

pub loop-p-init : goal.loop-p-init
unfolding flat_map
loop-p-init c = record { few = omega arith; long = refl; placed = sym (put_none 0 c.args.out.now) }

pub put_line-at-requires : goal.put_line-at-requires
unfolding pair_numbers
put_line-at-requires c =
    let n = c.numbers_in.ensures in
    (omega (arith, ap length n.0), omega (arith, ap (λ l. length (line l)) n.0, n.1))

pub loop-p-preserved : goal.loop-p-preserved
unfolding pair_line
loop-p-preserved c =
    let ps = c.args.pairs.now in
    let at-loop = c.loop-p in
    let i = at-loop.p-index in
    let p = get_or ps i no_pair in
    let n = c.numbers_in.ensures in
    let placed = rw n.0 at c.put_line-at.ensures in
    let more = length_lines_more ps i no_pair (omega arith) in
    record {
      few = omega (arith, n.1);
      long = omega arith;
      placed = put_line_more ps i no_pair (omega arith) at-loop.at c.args.out.now at-loop.invariant.long at-loop.invariant.placed placed.out_after (omega (arith, n.1));
    }
