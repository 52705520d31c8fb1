-- `sound` meets its contract: each test that fails makes the definition false, and where all pass the places store what is held and waiting.
use Rattle.std.proofs.Common.{◌≡◌, ◌≤◌, arith, sym, ◌∙◌}
use borrow.Author.Tests.{le-leb}
use Rattle.journal.specs.Journal.{entries}
use Rattle.join.specs.State.{sound}
use Rattle.join.proofs.Join.sound.Goals as goal

pub returns-then-sound-2 : goal.returns-then-sound-2
unfolding sound
returns-then-sound-2 c =
    let s = c.args.self.now in
    let a : s.a.journal.accepted ≤ entries = omega arith in
    let b : s.b.journal.accepted ≤ entries = omega arith in
    let judged : c.sound-then-sound-2.result ≡ sound s =
    rw (le-leb s.a.journal.accepted entries a, le-leb s.b.journal.accepted entries b, sym c.sound.ensures.value ∙ c.if-sound.true, sym c.sound-then-sound.ensures.value ∙ c.if-sound-2.true)
    c.sound-then-sound-2.ensures.value in record {
      value = judged;
      sound = λ e. record {
        judged = sym judged ∙ e;
        holds_a = c.sound.ensures.holds c.if-sound.true;
        holds_b = c.sound-then-sound.ensures.holds c.if-sound-2.true;
        holds_queue = c.sound-then-sound-2.ensures.holds e;
      };
    }

pub returns-else-sound-2-clause-value : goal.returns-else-sound-2-clause-value
unfolding sound
returns-else-sound-2-clause-value c =
    let s = c.args.self.now in
    let a : s.a.journal.accepted ≤ entries = omega arith in
    let b : s.b.journal.accepted ≤ entries = omega arith in
    rw (le-leb s.a.journal.accepted entries a, le-leb s.b.journal.accepted entries b, sym c.sound.ensures.value ∙ c.if-sound.true, sym c.sound-then-sound.ensures.value ∙ c.if-sound-2.false) c.if-sound-2.false

pub returns-else-sound-clause-value : goal.returns-else-sound-clause-value
unfolding sound
returns-else-sound-clause-value c =
    let s = c.args.self.now in
    let a : s.a.journal.accepted ≤ entries = omega arith in
    let b : s.b.journal.accepted ≤ entries = omega arith in
    rw (le-leb s.a.journal.accepted entries a, le-leb s.b.journal.accepted entries b, sym c.sound.ensures.value ∙ c.if-sound.false) c.if-sound.false
