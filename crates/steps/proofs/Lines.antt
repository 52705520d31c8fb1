-- Laws of lines put one behind the other.
use Prim.Native.Nat.{ℕ, ◌+◌, ◌≤◌, ◌<◌}
use native.Mathlib.Numerals.{add-one}
use native.Mathlib.Omega.{arith}
use mathlib.Core.Bool.{Bool, cond}
use mathlib.Core.List.{List, [], ◌∷◌, ◌++◌, append-nil, flat_map}
use mathlib.Core.Path.{◌≡◌, sym, ap, ◌∙◌}
use lib.ListN.{length, take, get_or, length-append}
use lib.Dec.{lit<}
use lib.Seq.{take-suc}
use Rattle.lists.specs.Put.{put}
use Rattle.lists.proofs.FlatMap.{flat_map_append}
use Rattle.lists.proofs.Put.{put_then}
use Rattle.pairing.specs.declared.Pair.{Pair}
use Rattle.join.specs.Calls.{both_closed}
use Rattle.lines.specs.Line.{line}
use Rattle.lines.proofs.Decimals.{decimal_few}
use Rattle.lines.proofs.Lines.{length_two}
use Rattle.steps.specs.declared.Progress.{Progress}
use Rattle.steps.specs.Printed.{pair_line, pair_lines, done_word, open_word, end_line}

module _ (ps : List Pair) (i : ℕ) (d : Pair) (h : i < length ps) where
  -- one pair more is one line more
  lines_more : pair_lines (take (i + 1) ps) ≡ pair_lines (take i ps) ++ pair_line (get_or ps i d)
  unfolding flat_map
  lines_more = rw (add-one, take-suc ps i d h, flat_map_append pair_line (take i ps) (get_or ps i d ∷ [])) (ap (λ (l : List ℕ). pair_lines (take i ps) ++ l) (append-nil (pair_line (get_or ps i d))))

  pub length_lines_more : length (pair_lines (take (i + 1) ps)) ≡ length (pair_lines (take i ps)) + length (pair_line (get_or ps i d))
  length_lines_more = ap length lines_more ∙ length-append (pair_lines (take i ps)) (pair_line (get_or ps i d))

  -- it is put behind the others
  pub put_line_more : (at : ℕ) (old : List ℕ) {mid new : List ℕ} → at ≡ length (pair_lines (take i ps)) → mid ≡ put 0 (pair_lines (take i ps)) old → new ≡ put at (pair_line (get_or ps i d)) mid
      → at + length (pair_line (get_or ps i d)) ≤ length old → new ≡ put 0 (pair_lines (take (i + 1) ps)) old
  put_line_more at old {mid} {new} e f g few =
      let place : at ≡ 0 + length (pair_lines (take i ps)) = omega arith in
      put_then 0 (pair_lines (take i ps)) (pair_line (get_or ps i d)) old f (g ∙ ap (λ (k : ℕ). put k (pair_line (get_or ps i d)) mid) place) (omega arith) ∙ ap (λ (l : List ℕ). put 0 l old) (sym lines_more)

-- ---- a last line

-- a number of 32 bits and one of 12 digits
pub last_few : (n m : ℕ) → n < 4294967296 → m < 1000000000000 → length (line (n ∷ m ∷ [])) ≤ 24
last_few n m small few = omega (arith, length_two n m, decimal_few n 10 (omega arith) (lit< tt), decimal_few m 12 (omega arith) (lit< tt))

-- the word of a feed that ends, by whether both journals are closed
pub end_word : (p : Progress) (closed : Bool) → both_closed p.state ≡ closed → end_line p ≡ cond closed done_word open_word ++ line (p.records ∷ p.pairs ∷ [])
unfolding end_line
end_word p closed e = rw e
