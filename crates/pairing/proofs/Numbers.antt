-- A pair and its numbers give each other back.
use Prim.Native.Nat.{ℕ}
use mathlib.Core.List.{List}
use mathlib.Core.Path.{◌≡◌, refl}
use lib.ListN.{length}
use Rattle.lists.proofs.Store.{row_listed}
use Rattle.pairing.specs.declared.Pair.{Pair}
use Rattle.pairing.specs.Numbers.{pair_numbers, pair_in}

-- what is written is read back
pub pair_numbers_lem : (p : Pair) → pair_in (pair_numbers p) ≡ p
unfolding pair_in pair_numbers
pair_numbers_lem p = refl

-- eight numbers are those of the pair that they make
pub numbers_pair : (numbers : List ℕ) → length numbers ≡ 8 → pair_numbers (pair_in numbers) ≡ numbers
unfolding pair_in pair_numbers
numbers_pair numbers e = row_listed 8 numbers e
