-- `put_numbers` meets its contract: each number is put behind those before it.
use native.Mathlib.Nat.{div-div-eq-div-mul}
use native.Mathlib.Omega.{arith}
use mathlib.Core.List.{List, [], ◌∷◌}
use mathlib.Core.Path.{◌≡◌, refl, sym, ◌∙◌}
use lib.ListN.{length, take, get_or, length-take}
use Prim.Native.Nat.{ℕ, ◌+◌, ◌*◌}
use Rattle.std.specs.Int.{w32, to_le_bytes}
use Rattle.std.proofs.lemmas.List.{take_more}
use Rattle.std.proofs.lemmas.Grind.{flat_map-append}
use Rattle.std.specs.List.{flat_map}
use Rattle.lists.proofs.Put.{put_none, put_then}
use Rattle.feed.specs.Number.{bytes}
use Rattle.feed_write.proofs.put_numbers.Goals as goal

length_fours : (numbers : List ℕ) → length (flat_map (bytes 4) numbers) ≡ 4 * length numbers
length_fours [] = refl
length_fours (n ∷ ns) = omega (arith, length_fours ns)

four_bytes : (x : ℕ) → to_le_bytes w32 x ≡ bytes 4 x
four_bytes x = simp div-div-eq-div-mul

pub loop-i-init : goal.loop-i-init
loop-i-init c = sym (put_none c.args.at c.args.buf.now)

pub loop-i-preserved : goal.loop-i-preserved
loop-i-preserved c =
    let a = c.args in
    let numbers = a.numbers.now in
    let i = c.loop-i.i in
    let number = get_or numbers i 0 in
    let before = flat_map (bytes 4) (take i numbers) in
    let place : a.at + 4 * i ≡ a.at + length before = omega (arith, length_fours (take i numbers), length-take i numbers) in
    let new = rw (c.to_le_bytes.ensures ∙ four_bytes number, place) at c.put_text.ensures in
    rw (take_more numbers i 0 c.loop-i-test.true, flat_map-append) (put_then a.at before (bytes 4 number) a.buf.now c.loop-i.invariant new (omega arith))
