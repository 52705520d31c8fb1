-- A feed is read through a window, and what is printed of it written through a buffer. At every step what was written, what the buffer holds and what is printed of the rest of the feed make up the text of the feed.
use Prim.Native.Nat.{ℕ, zero, suc, ◌+◌, ◌-◌, ◌≤◌, ◌<◌}
use native.Mathlib.Omega.{arith}
use mathlib.Core.Bool.{Bool, true, false, cond, ◌&&◌, ◌||◌, true≢false}
use mathlib.Core.List.{List, [], ◌++◌, append_assoc, append-nil}
use mathlib.Core.Path.{◌≡◌, refl, sym, ap, subst, ◌∙◌}
use lib.Dec.{leb, ltb}
use lib.ListN.{length, take, drop, length-append, length-drop}
use lib.Seq.{slice, take_at, length-slice, drop-drop, take-add}
use borrow.Author.Tests.{leb-false}
use Rattle.std.proofs.Common.{Option, None, Some, IfSome, Result, Ok, Err, OnOk}
use Rattle.std.proofs.lemmas.Bool.{le-leb}
use Rattle.std.specs.Io.KnownBytes.{Appends, Consumes, IsAtEnd}
use Rattle.std.proofs.KnownBytes.{Appends-nil, Appends-trans}
use Rattle.std.proofs.lemmas.List.{drop-append-le, drop-take}
use Rattle.feed.specs.Reading.{shows, reading}
use Rattle.feed.proofs.Fields.{drop_first}
use Rattle.framing.specs.Shown.{shown, tells}
use Rattle.framing.specs.Program.{Deed, Ends, Goes, Program, deed, printed_from, printed_by}
use Rattle.framing.specs.Step.{More, On, Ended, Effect, effect_of, done, waits, stepped}
use Rattle.framing.specs.Windows.{Window, bytes_in, ends_in}
use Rattle.framing.proofs.Moves.{moves, on_is_not_more, ended_is_not_more}
use Rattle.framing.proofs.Text.{Next, next_done}
use Rattle.framing.proofs.Windows.{shows_first}
use Rattle.pipe.specs.declared.Flow.{Flow}
use Rattle.pipe.specs.Flow.{Refilled, gone, written_bytes}
use Rattle.pipe.specs.Flow as pipe

-- ---- a step that is shown the first bytes of what is left of the input

-- a window that is known to be the last shows all that is left
shows_end : (ended : Bool) (window rest : List ℕ) → (ended ≡ true → rest ≡ []) → ended && leb (length (window ++ rest)) (length window) ≡ ended
shows_end true window rest known =
    let none : length (window ++ rest) ≡ length window = ap (λ (l : List ℕ). length (window ++ l)) (known refl) ∙ ap length (append-nil window) in
    le-leb (length (window ++ rest)) (length window) (omega arith)
shows_end false window rest known = refl

module _ {P : Type 0} (program : Program P) (p : P) (left : ℕ) (window rest : List ℕ) (ended : Bool) (out : List ℕ) (known : ended ≡ true → rest ≡ []) (e : Effect P) (same : e ≡ stepped program p left window ended out) where
  -- what it tells is so of all that is left
  told : tells left window ended ≡ true → reading (shown left window) 0 ≡ reading (take left (window ++ rest)) 0
  told h =
      let w : Window = record { size = length window; knows = ended } in
      let all : bytes_in w (window ++ rest) ≡ window = take_at window rest (length window) refl in
      let end : ends_in w (window ++ rest) ≡ ended = shows_end ended window rest known in
      ap (λ (l : List ℕ). reading (shown left l) 0) (sym all) ∙ shows_first left w (window ++ rest) (ap (λ (l : List ℕ). tells left l (ends_in w (window ++ rest))) all ∙ ap (tells left window) end ∙ h)

  -- it puts out what comes next of the text, unless it waits
  next_seen : (n : ℕ) → (e.went ≡ More → ⊥) → Next program n (take left (window ++ rest)) (printed_from program (suc n) p (take left (window ++ rest))) e
  unfolding stepped
  next_seen n on = go (tells left window ended) refl same
    where
      go : (b : Bool) → tells left window ended ≡ b → e ≡ cond b (done program p out (reading (shown left window) 0)) (waits p out) → Next program n (take left (window ++ rest)) (printed_from program (suc n) p (take left (window ++ rest))) e
      go true h f =
          subst
          (Next program n (take left (window ++ rest)) (printed_from program (suc n) p (take left (window ++ rest))))
          (sym (f ∙ ap (done program p out) (told h)))
          (next_done program n p (take left (window ++ rest)) out (reading (take left (window ++ rest)) 0) refl)
      go false h f = absurd (on (ap (λ (x : Effect P). x.went) f))

  -- where it waits, it leaves all as it was, and more may still be read than is shown
  waits_seen : e.went ≡ More → (e.progress ≡ p) × (e.filled ≡ 0) × (length window < left)
  unfolding stepped tells
  waits_seen is = go ended (leb left (length window)) refl same
    where
      acts : (next : ℕ) (d : Deed P) → e ≡ effect_of p out next d → (e.progress ≡ p) × (e.filled ≡ 0) × (length window < left)
      acts next (Ends lines) f = ended_is_not_more (sym (ap (λ (x : Effect P). x.went) f) ∙ is)
      acts next (Goes lines q) f = on_is_not_more (sym (ap (λ (x : Effect P). x.went) f) ∙ is)

      go : (x y : Bool) → leb left (length window) ≡ y → e ≡ cond (x || (y || shows window)) (done program p out (reading (shown left window) 0)) (waits p out) → (e.progress ≡ p) × (e.filled ≡ 0) × (length window < left)
      go true y h f = acts _ (deed program p (reading (shown left window) 0)) f
      go false true h f = acts _ (deed program p (reading (shown left window) 0)) f
      go false false h f = last (shows window) f
        where
          last : (z : Bool) → e ≡ cond z (done program p out (reading (shown left window) 0)) (waits p out) → (e.progress ≡ p) × (e.filled ≡ 0) × (length window < left)
          last true f = acts _ (deed program p (reading (shown left window) 0)) f
          last false f = (ap (λ (x : Effect P). x.progress) f, ap (λ (x : Effect P). x.filled) f, leb-false left (length window) h)

-- ---- a run

-- what of the feed is shown and not used
abbrev pub unused : Flow → List ℕ → List ℕ
unused flow window = slice flow.at flow.end window

-- How a run stands that began with nothing written, from a feed of which so many bytes may be read, and where the bytes are known that the reader has left: `left_over` are those, `before` what the writer held when it began, and `now` what it holds.
pub record Streamed {P : Type 0} (program : Program P) (text : List ℕ) (limit : ℕ) (feed : List ℕ) (flow : Flow) (window out : List ℕ) (p : P) (left_over before now : Option (List ℕ)) : Type 0 where
  pub rest : List ℕ
  pub unread : left_over ≡ Some rest
  -- what was read
  pub read : List ℕ
  pub whole : feed ≡ read ++ rest
  pub counted : length read + flow.left ≡ limit + (flow.end - flow.at)
  -- what was written
  pub done : List ℕ
  pub put : Appends before now done
  pub records : ℕ
  pub few : length (take flow.left (unused flow window ++ rest)) < suc records
  pub goes : text ≡ (done ++ take flow.filled out) ++ printed_from program (suc records) p (take flow.left (unused flow window ++ rest))
  pub at_end : flow.ended ≡ true → rest ≡ []

pub streamed_begun : {P : Type 0} (program : Program P) (p : P) (limit : ℕ) (feed window out : List ℕ) (writer : Option (List ℕ)) → Streamed program (printed_by program p limit feed) limit feed (pipe.begun limit) window out p (Some feed) writer writer
unfolding printed_by
streamed_begun program p limit feed window out writer = record {
  rest = feed;
  unread = refl;
  read = [];
  whole = refl;
  counted = omega arith;
  done = [];
  put = Appends-nil writer;
  records = length (take limit feed);
  few = omega arith;
  goes = refl;
  at_end = λ e. absurd (true≢false (sym e));
}

-- what was written and what stays in the buffer, after the buffer is written if it lacks room
both_kept : (b : Bool) (k : ℕ) (done after : List ℕ) → (done ++ cond b (take k after) []) ++ take (cond b 0 k) after ≡ done ++ take k after
both_kept true k done after = append-nil (done ++ take k after)
both_kept false k done after = ap (λ (l : List ℕ). l ++ take k after) (append-nil done)

-- bytes that are known to be left, after some are read
unread_after : (old new : Option (List ℕ)) (rest bytes : List ℕ) → old ≡ Some rest → Consumes old new bytes → (after : List ℕ) × (new ≡ Some after) × (rest ≡ bytes ++ after)
unread_after old None rest bytes e c = absurd (subst (λ (o : Option (List ℕ)). Consumes o None bytes) e c)
unread_after old (Some after) rest bytes e c = (after, refl, subst (λ (o : Option (List ℕ)). Consumes o (Some after) bytes) e c)

module _ {P : Type 0} (program : Program P) {text : List ℕ} {limit : ℕ} {feed : List ℕ} {flow : Flow} {window out : List ℕ} {p : P} {left_over before now : Option (List ℕ)} (s : Streamed program text limit feed flow window out p left_over before now)
    (order : flow.at ≤ flow.end) (within : flow.end ≤ length window)
    (e : Effect P) (same : e ≡ stepped program p flow.left (unused flow window) flow.ended (drop flow.filled out))
    (after : List ℕ) (front : take flow.filled after ≡ take flow.filled out) (back : drop flow.filled after ≡ e.buffer)
  where
    abbrev input : List ℕ
    input = take flow.left (unused flow window ++ s.rest)

    shown_long : length (unused flow window) ≡ flow.end - flow.at
    shown_long = length-slice flow.at flow.end window within

    step : (e.went ≡ More → ⊥) → Next program s.records input (printed_from program (suc s.records) p input) e
    step on = next_seen program p flow.left (unused flow window) s.rest flow.ended (drop flow.filled out) s.at_end e same s.records on

    -- the lines of the step stand behind what was put before
    filled_so : (lines : List ℕ) → take e.filled e.buffer ≡ lines → take (flow.filled + e.filled) after ≡ take flow.filled out ++ lines
    filled_so lines h = take-add flow.filled e.filled after ∙ ap (λ (l : List ℕ). l ++ take e.filled (drop flow.filled after)) front ∙ ap (λ (l : List ℕ). take flow.filled out ++ l) (ap (take e.filled) back ∙ h)

    -- what is left behind the bytes that the step used
    moved_on : e.used ≤ flow.left → e.used ≤ length (unused flow window) → drop e.used input ≡ take (flow.left - e.used) (slice (flow.at + e.used) flow.end window ++ s.rest)
    moved_on few shown =
        drop_first e.used flow.left (unused flow window ++ s.rest) few
        ∙ ap (take (flow.left - e.used)) (drop-append-le e.used (unused flow window) s.rest shown ∙ ap (λ (l : List ℕ). l ++ s.rest) (drop-drop e.used flow.at (take flow.end window)))

    pub streamed_on : e.went ≡ On → (room : ℕ) (next : Flow) (after_it : Option (List ℕ)) → next ≡ gone (length after) room flow e.used e.filled → Appends now after_it (written_bytes after room (flow.filled + e.filled))
        → Streamed program text limit feed next window after e.progress left_over before after_it
    streamed_on is room next after_it f put = subst (λ (x : Flow). Streamed program text limit feed x window after e.progress left_over before after_it) (sym f) (go s.records refl (step (λ more. on_is_not_more (sym is ∙ more))))
      where
        go : (n : ℕ) → s.records ≡ n → Next program s.records input (printed_from program (suc s.records) p input) e → Streamed program text limit feed (gone (length after) room flow e.used e.filled) window after e.progress left_over before after_it
        go zero g t =
            let few = s.few in
            let moved = t.on is in
            absurd (omega arith)
        go (suc n) g t =
            let few = s.few in
            let moved = t.on is in
            let m = moves program p flow.left (unused flow window) flow.ended (drop flow.filled out) e same in
            let rests = moved_on m.in_left m.in_window in
            let b = ltb (length after - (flow.filled + e.filled)) room in
            let k = flow.filled + e.filled in
            record {
              rest = s.rest;
              unread = s.unread;
              read = s.read;
              whole = s.whole;
              counted =
                  let many = s.counted in
                  let shown = shown_long in
                  let used = m.in_window in
                  let used_left = m.in_left in
                  omega arith;
              done = s.done ++ written_bytes after room k;
              put = Appends-trans before now after_it s.done (written_bytes after room k) s.put put;
              records = n;
              few = rw (sym rests) (simp length-drop (omega arith));
              goes =
                  s.goes
                  ∙ ap (λ (l : List ℕ). (s.done ++ take flow.filled out) ++ l) moved.0
                  ∙ sym (append_assoc (s.done ++ take flow.filled out) t.lines _)
                  ∙ ap (λ (l : List ℕ). l ++ printed_from program s.records e.progress (drop e.used input))
                  (append_assoc s.done (take flow.filled out) t.lines ∙ ap (λ (l : List ℕ). s.done ++ l) (sym (filled_so t.lines t.front)) ∙ sym (both_kept b k s.done after))
                  ∙ ap (λ (r : ℕ). ((s.done ++ written_bytes after room k) ++ take (pipe.unwritten (length after) room k) after) ++ printed_from program r e.progress (drop e.used input)) g
                  ∙ ap (λ (l : List ℕ). ((s.done ++ written_bytes after room k) ++ take (pipe.unwritten (length after) room k) after) ++ printed_from program (suc n) e.progress l) rests;
              at_end = s.at_end;
            }

    pub streamed_ended : e.went ≡ Ended → (after_it : Option (List ℕ)) → Appends now after_it (take (flow.filled + e.filled) after) → Appends before after_it text
    streamed_ended is after_it put =
        let t = step (λ more. ended_is_not_more (sym is ∙ more)) in
        let whole : text ≡ s.done ++ take (flow.filled + e.filled) after =
        s.goes ∙ ap (λ (l : List ℕ). (s.done ++ take flow.filled out) ++ l) (t.ended is) ∙ append_assoc s.done (take flow.filled out) t.lines ∙ ap (λ (l : List ℕ). s.done ++ l) (sym (filled_so t.lines t.front)) in
        subst (Appends before after_it) (sym whole) (Appends-trans before now after_it s.done (take (flow.filled + e.filled) after) s.put put)

    module _ (is : e.went ≡ More) where
      more_so : (e.progress ≡ p) × (e.filled ≡ 0) × (length (unused flow window) < flow.left)
      more_so = waits_seen program p flow.left (unused flow window) s.rest flow.ended (drop flow.filled out) s.at_end e same is

      module _ (window_after : List ℕ) (next : Flow) (unread_then after_it : Option (List ℕ)) (refilled : Refilled flow (length window_after) next)
          (kept : take (flow.end - flow.at) window_after ≡ unused flow window) (none_lost : flow.end - flow.at ≤ next.end)
          (consumed : Consumes left_over unread_then (slice (flow.end - flow.at) next.end window_after))
          (last : next.ended ≡ true → flow.end - flow.at < flow.left → IsAtEnd unread_then)
          (put : Appends now after_it (take flow.filled after))
        where
          pub streamed_more : Streamed program text limit feed next window_after after e.progress unread_then before after_it
          streamed_more =
              let kept_many = flow.end - flow.at in
              let came = slice kept_many next.end window_after in
              let then = unread_after left_over unread_then s.rest came s.unread consumed in
              let f = refilled.front in
              let up : kept_many + (next.end - kept_many) ≡ next.end = omega arith in
              let shows_both : unused next window_after ≡ unused flow window ++ came =
              ap (λ (at : ℕ). slice at next.end window_after) f
              ∙ ap (λ (end : ℕ). take end window_after) (sym up)
              ∙ take-add kept_many (next.end - kept_many) window_after
              ∙ ap (λ (l : List ℕ). l ++ take (next.end - kept_many) (drop kept_many window_after)) kept
              ∙ ap (λ (l : List ℕ). unused flow window ++ l) (sym (drop-take kept_many (next.end - kept_many) window_after) ∙ ap (λ (end : ℕ). slice kept_many end window_after) up) in
              let all : unused next window_after ++ then.0 ≡ unused flow window ++ s.rest =
              ap (λ (l : List ℕ). l ++ then.0) shows_both ∙ append_assoc (unused flow window) came then.0 ∙ ap (λ (l : List ℕ). unused flow window ++ l) (sym then.2) in
              let rests : take next.left (unused next window_after ++ then.0) ≡ input = ap (λ (n : ℕ). take n (unused next window_after ++ then.0)) refilled.left ∙ ap (take flow.left) all in
              let held = (s.done ++ take flow.filled after) ++ take next.filled after in
              let held_so : s.done ++ take flow.filled out ≡ held =
              ap (λ (l : List ℕ). s.done ++ l) (sym front) ∙ sym (append-nil (s.done ++ take flow.filled after)) ∙ ap (λ (n : ℕ). (s.done ++ take flow.filled after) ++ take n after) (sym refilled.written) in
              let less = more_so.2 in
              record {
                rest = then.0;
                unread = then.1;
                read = s.read ++ came;
                whole = s.whole ∙ ap (λ (l : List ℕ). s.read ++ l) then.2 ∙ sym (append_assoc s.read came then.0);
                counted =
                    let many = s.counted in
                    let left = refilled.left in
                    let shown = refilled.flowing in
                    let came_many = length-slice kept_many next.end window_after shown.in_window in
                    simp length-append (omega arith);
                done = s.done ++ take flow.filled after;
                put = Appends-trans before now after_it s.done (take flow.filled after) s.put put;
                records = s.records;
                few = rw rests s.few;
                goes =
                    s.goes
                    ∙ ap (λ (l : List ℕ). l ++ printed_from program (suc s.records) p input) held_so
                    ∙ ap (λ (q : P). held ++ printed_from program (suc s.records) q input) (sym more_so.0)
                    ∙ ap (λ (l : List ℕ). held ++ printed_from program (suc s.records) e.progress l) (sym rests);
                at_end = λ ended. subst IsAtEnd then.1 (last ended (let long = shown_long in omega arith));
              }

-- ---- where the bytes are known

pub streamed_if : {P : Type 0} (program : Program P) (begun : P) (limit : ℕ) (window out : List ℕ) (known writer : Option (List ℕ)) (flow : Flow) (p : P) → flow ≡ pipe.begun limit → p ≡ begun
    → IfSome known (λ feed. Streamed program (printed_by program begun limit feed) limit feed flow window out p known writer writer)
streamed_if program begun limit window out None writer flow p f e = tt
streamed_if {P} program begun limit window out (Some feed) writer flow p f e =
    subst
    (λ (x : Flow). Streamed program (printed_by program begun limit feed) limit feed x window out p (Some feed) writer writer)
    (sym f)
    (subst (λ (q : P). Streamed program (printed_by program begun limit feed) limit feed (pipe.begun limit) window out q (Some feed) writer writer) (sym e) (streamed_begun program begun limit feed window out writer))

-- no more is read than the limit
pub streamed_read : {P : Type 0} (program : Program P) {text : List ℕ} {limit : ℕ} {feed : List ℕ} {flow : Flow} {window out : List ℕ} {p : P} {left_over before now : Option (List ℕ)}
    → Streamed program text limit feed flow window out p left_over before now → flow.end - flow.at ≤ flow.left
    → (read : List ℕ) × (length read ≤ limit) × Consumes (Some feed) left_over read
streamed_read program {feed = feed} s few =
    let many = s.counted in
    (s.read, omega arith, subst (λ (o : Option (List ℕ)). Consumes (Some feed) o s.read) (sym s.unread) s.whole)

pub read_few : (limit : ℕ) (known left_over : Option (List ℕ)) → IfSome known (λ feed. (read : List ℕ) × (length read ≤ limit) × Consumes (Some feed) left_over read)
    → (read : List ℕ) × (length read ≤ limit) × Consumes known left_over read
read_few limit None left_over h = ([], omega arith, tt)
read_few limit (Some feed) left_over h = h

pub if_some : {T : Type 0} (known : Option T) {P Q : T → Type 0} → ((x : T) → P x → Q x) → IfSome known P → IfSome known Q
if_some None f h = tt
if_some (Some x) f h = f x h

pub on_ok : {T E : Type 0} (answer : Result T E) {P Q : Type 0} → (P → Q) → OnOk answer P → OnOk answer Q
on_ok (Ok x) f h = f h
on_ok (Err e) f h = tt
