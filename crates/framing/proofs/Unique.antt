-- Each contract allows one result.
use mathlib.Core.Path.{◌≡◌, refl, sym, ◌∙◌}
use Rattle.unique.specs.Unique.{OneResult}
use Rattle.unique.proofs.Equation.{one_by_equation}
use Rattle.feed.proofs.Unique.{same_reading}
use Rattle.framing.specs.declared.Went.{Went}
use Rattle.framing.specs.declared.Went.TheVariants.{More, On, Ended}
use Rattle.framing.specs.Step.{went_of, used_of, filled_of}
use Rattle.framing.proofs.tells.Reads as tells
use Rattle.framing.proofs.read_shown.Reads as read-shown

-- what a step came to, used and filled tell its answer
pub same_went : (x y : Went) → went_of x ≡ went_of y → used_of x ≡ used_of y → filled_of x ≡ filled_of y → x ≡ y
same_went More More e u f = refl
same_went More (On used filled) e u f = cc
same_went More (Ended filled) e u f = cc
same_went (On used filled) More e u f = cc
same_went (On used filled) (On other more) e u f = cc
same_went (On used filled) (Ended more) e u f = cc
same_went (Ended filled) More e u f = cc
same_went (Ended filled) (On used more) e u f = cc
same_went (Ended filled) (Ended more) e u f = cc

one_tells : OneResult tells.Post
one_tells = one_by_equation _ _

one_read_shown : OneResult read-shown.Post
one_read_shown κs args x y left other p q = same_reading x y (p ∙ sym q)
