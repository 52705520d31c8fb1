-- An entry of one journal beside entries of the other. In a pair A is the first and B the second, whichever came last.
use Rattle.std.specs.Prelude.{List, [], ◌∷◌}
use Rattle.pairing.specs.declared.Numbered.{Numbered}
use Rattle.pairing.specs.declared.Pair.{Pair}
use Rattle.pairing.specs.declared.Rule.{Rule}
use Rattle.pairing.specs.declared.Side.{Side}
use Rattle.pairing.specs.declared.Side.TheVariants.{A, B}
use Rattle.pairing.specs.Pair.{pairs, pair_of}
use Rattle.pairing.specs.Plain.{couples_that}

-- the pair of an entry of a side and one of the other side
abbrev pub pair_from : Side → Numbered → Numbered → Pair
pair_from A x y = pair_of x y
pair_from B x y = pair_of y x

-- the pairs that an entry of a side makes with some entries of the other side
abbrev pub new_pairs : Rule → Side → Numbered → List Numbered → List Pair
new_pairs rule A x others = couples_that (pairs rule) (x ∷ []) others
new_pairs rule B x others = couples_that (pairs rule) others (x ∷ [])
