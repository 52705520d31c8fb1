-- The contract of each public function allows one result, and one area after it.
use Rattle.unique.specs.Unique.{OneResult, OneOutcome}
use Rattle.unique.proofs.Equation.{one_by_equation, agree}
use Rattle.area.specs.declared.Area.{Area}
use Rattle.area.proofs.Area.fresh.Reads as fresh
use Rattle.area.proofs.Area.hold.Reads as hold
use Rattle.area.proofs.Area.clear.Reads as clear
use Rattle.area.proofs.Area.entry_at.Reads as entry_at
use Rattle.area.proofs.Area.partners.Reads as partners
use Rattle.area.proofs.Area.last_partner.Reads as last-partner
use Rattle.area.proofs.Area.left_by.Reads as left_by
use Rattle.area.proofs.Area.sound.Reads as sound

one_fresh : OneResult fresh.Post
one_fresh = one_by_equation _ _

one_hold : OneOutcome {Seen = Area} (λ κs result left. left.0.now) hold.Post
one_hold κs args x y left other p q = agree p q

one_clear : OneOutcome {Seen = Area} (λ κs result left. left.0.now) clear.Post
one_clear κs args x y left other p q = agree p q

one_entry_at : OneResult entry_at.Post
one_entry_at = one_by_equation _ _

one_partners : OneResult partners.Post
one_partners = one_by_equation _ _

one_last_partner : OneResult last-partner.Post
one_last_partner = one_by_equation _ _

one_left_by : OneResult left_by.Post
one_left_by = one_by_equation _ _

one_sound : OneResult sound.Post
one_sound κs args x y left other p q = agree p.0 q.0
