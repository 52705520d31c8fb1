-- The contract of each public function allows one result, and that of a lent journal one journal at exit.
-- Those of `partner_count` and `mark_lent` are read here first: in every model, what each ensures is the fact beside it.
use mathlib.Core.Path.{◌≡◌, refl, sym, ◌∙◌}
use seplogic.Ra.Ura.{Ura}
use base.Logic.{SProp, sep}
use contract.Lifetimes.{Lfts}
use contract.Monad.{Fun, fact}
use denote.Triple.Clauses.{AtExit}
use denote.Triple.Entry.{Args}
use types.Logic.{Logic}
use prog.Memory.{Memory}
use prog.Routine.{Routine}
use Prim.Native.Nat.{ℕ}
use Rattle.std.specs.Prelude.{Result}
use Rattle.unique.specs.Unique.{OneResult}
use Rattle.unique.proofs.Equation.{one_by_reading}
use Rattle.refusals.specs.declared.Refusal.{Refusal}
use Rattle.journal.specs.declared.Journal.{Journal}
use Rattle.journal.specs.Answer.{answer_of}
use Rattle.journal.specs.Journal.{marked}
use Rattle.journal.proofs.Answers.{same_answer}
use Rattle.lent.specs.Counted.{counted, counted_as}
use Rattle.lent.proofs.Laws.{same_count}
use Rattle.lent.proofs.held_count.Reads as held-count
use Rattle.lent.specs.contracts.mark_lent as mark-lent
use Rattle.lent.specs.contracts.partner_count as partner-count

abbrev Counts : (κs : Lfts 1) → Args partner-count.signature κs → Result ℕ Refusal → AtExit partner-count.ended κs → Type 0
Counts κs args r left = counted_as r ≡ counted args.1.0 args.1.1.0 args.0.now

abbrev Answers : (κs : Lfts 1) → Args mark-lent.signature κs → Result (Unit {0}) Refusal → Type 0
Answers κs args r = answer_of r ≡ (marked args.1.0 args.0.now).answer

abbrev Leaves : (κs : Lfts 1) → Args mark-lent.signature κs → Journal → Type 0
Leaves κs args left = left ≡ (marked args.1.0 args.0.now).journal

module _ {M : Type 1} {𝓤 : Ura M} (𝓛 : Logic 𝓤) (mem : Memory → SProp 𝓤) (run : Routine → Fun 𝓤) where
  count_reads : (κs : Lfts 1) (args : Args partner-count.signature κs) (r : Result ℕ Refusal) (left : AtExit partner-count.ended κs)
      → (partner-count.clauses 𝓛 mem run κs args).ensures tt r left ≡ fact 𝓤 (Counts κs args r left)
  count_reads κs args r left = refl

  mark_reads : (κs : Lfts 1) (args : Args mark-lent.signature κs) (r : Result (Unit {0}) Refusal) (left : AtExit mark-lent.ended κs)
      → (mark-lent.clauses 𝓛 mem run κs args).ensures tt r left ≡ sep 𝓤 (fact 𝓤 (Answers κs args r)) (fact 𝓤 (Leaves κs args left.0.now))
  mark_reads κs args r left = refl

one_partner_count : OneResult Counts
one_partner_count = one_by_reading _ _ _ (λ κs args x y e. same_count x y e)

one_held_count : OneResult held-count.Post
one_held_count = one_by_reading _ _ _ (λ κs args x y e. same_count x y e)

-- of the answer together with the journal that is left
one_mark_lent : OneResult {Left = λ κs. Unit {0}} (λ κs args (both : Result (Unit {0}) Refusal × Journal) left. Answers κs args both.0 × Leaves κs args both.1)
one_mark_lent κs args x y left other p q = let same = same_answer x.0 y.0 (p.0 ∙ sym q.0) in λ i. (same i, (p.1 ∙ sym q.1) i)
