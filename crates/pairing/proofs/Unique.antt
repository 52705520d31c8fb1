-- The contract of each public function allows one result.
use Rattle.unique.specs.Unique.{OneResult}
use Rattle.unique.proofs.Equation.{one_by_equation}
use Rattle.pairing.proofs.Rule.allows.Reads as allows
use Rattle.pairing.proofs.Rule.fits.Reads as fits
use Rattle.pairing.proofs.Rule.pairs.Reads as pairs
use Rattle.pairing.proofs.Numbered.partner.Reads as partner
use Rattle.pairing.proofs.Pair.of.Reads as of
use Rattle.pairing.proofs.Pair.comes_before.Reads as comes-before
use Rattle.pairing.proofs.Side.pair.Reads as pair

one_allows : OneResult allows.Post
one_allows = one_by_equation _ _

one_fits : OneResult fits.Post
one_fits = one_by_equation _ _

one_pairs : OneResult pairs.Post
one_pairs = one_by_equation _ _

one_partner : OneResult partner.Post
one_partner = one_by_equation _ _

one_of : OneResult of.Post
one_of = one_by_equation _ _

one_comes_before : OneResult comes-before.Post
one_comes_before = one_by_equation _ _

one_pair : OneResult pair.Post
one_pair = one_by_equation _ _
