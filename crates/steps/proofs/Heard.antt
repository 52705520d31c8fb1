-- On a sound state and a stream that is known, the calls after judging are the calls of the join.
use Prim.Native.Nat.{ℕ}
use native.Mathlib.Omega.{arith}
use mathlib.Core.Bool.{true}
use mathlib.Core.Path.{◌≡◌, refl, sym, ap, ◌∙◌}
use borrow.Author.Tests.{ltb-true}
use Rattle.pairing.specs.declared.Entry.{Entry}
use Rattle.pairing.specs.declared.Side.{Side}
use Rattle.journal.specs.Answer.{Refused}
use Rattle.join.specs.State.{State, Sound}
use Rattle.join.specs.Calls.{side_of, entry_on, mark_on, close_on}
use Rattle.join.proofs.Kept.{entry_kept, mark_kept, close_kept, entry_refused, mark_refused, close_refused}
use Rattle.join.proofs.Laws.{judged_passes, judged_entry, judged_mark, judged_close}
use Rattle.feed.specs.declared.Record.{Record}
use Rattle.feed.specs.declared.Record.TheVariants.{Entry as entry_record, Mark, Close, Note}
use Rattle.feed.specs.Record.{stream_known}
use Rattle.steps.specs.Printed.{heard}

module _ (s : State) (h : Sound s) (found : Record) (known : stream_known found ≡ true) where
  pub heard_entry : (stream : ℕ) (e : Entry) → found ≡ entry_record stream e → (side : Side) → side ≡ side_of stream → entry_on s side e ≡ heard s found
  unfolding stream_known
  heard_entry stream e is side at =
      let below = ltb-true stream 2 (rw is at known) in
      judged_entry s stream side at (judged_passes s stream h.judged (omega arith)) e ∙ sym (ap (heard s) is)

  pub heard_mark : (stream time : ℕ) → found ≡ Mark stream time → (side : Side) → side ≡ side_of stream → mark_on s side time ≡ heard s found
  unfolding stream_known
  heard_mark stream time is side at =
      let below = ltb-true stream 2 (rw is at known) in
      judged_mark s stream side at (judged_passes s stream h.judged (omega arith)) time ∙ sym (ap (heard s) is)

  pub heard_close : (stream : ℕ) → found ≡ Close stream → (side : Side) → side ≡ side_of stream → close_on s side ≡ heard s found
  unfolding stream_known
  heard_close stream is side at =
      let below = ltb-true stream 2 (rw is at known) in
      judged_close s stream side at (judged_passes s stream h.judged (omega arith)) ∙ sym (ap (heard s) is)

-- a sound state stays sound, and a refusal leaves it as it stood
module _ (s : State) where
  pub heard_kept : Sound s → (found : Record) → Sound (heard s found).state
  heard_kept h (entry_record stream e) = entry_kept s h stream e
  heard_kept h (Mark stream time) = mark_kept s h stream time
  heard_kept h (Close stream) = close_kept s h stream
  heard_kept h (Note size) = h

  pub heard_refused : (found : Record) (number : ℕ) → (heard s found).answer ≡ Refused number → (heard s found).state ≡ s
  heard_refused (entry_record stream e) number r = entry_refused s stream e number r
  heard_refused (Mark stream time) number r = mark_refused s stream time number r
  heard_refused (Close stream) number r = close_refused s stream number r
  heard_refused (Note size) number r = refl
