-- Laws of `flat_map`: what f gives of each element, one after the other.
use mathlib.Core.List.{List, [], ◌∷◌, ◌++◌, append_assoc, flat_map}
use mathlib.Core.Path.{◌≡◌, refl, sym}
use Rattle.lists.proofs.All.{All, Each, all_any, all_append, all_map₂, each_append}

module _ {A B : Type 0} where
  pub flat_map_append : (f : A → List B) (xs ys : List A) → flat_map f (xs ++ ys) ≡ flat_map f xs ++ flat_map f ys
  unfolding flat_map
  flat_map_append f [] ys = refl
  flat_map_append f (x ∷ xs) ys = rw (flat_map_append f xs ys) (sym (append_assoc (f x) (flat_map f xs) (flat_map f ys)))

  pub flat_map_same : (f g : A → List B) → ((x : A) → f x ≡ g x) → (xs : List A) → flat_map f xs ≡ flat_map g xs
  unfolding flat_map
  flat_map_same f g h [] = refl
  flat_map_same f g h (x ∷ xs) = rw (h x, flat_map_same f g h xs)

  pub all_flat_map : (P : B → Type 0) (f : A → List B) (Q : A → Type 0) → ((x : A) → Q x → All P (f x)) → (xs : List A) → All Q xs → All P (flat_map f xs)
  unfolding flat_map
  all_flat_map P f Q h [] q = tt
  all_flat_map P f Q h (x ∷ xs) q = all_append P (f x) (flat_map f xs) (h x q.0) (all_flat_map P f Q h xs q.1)

  -- short lists, each in order and each before those after it, make a list in order
  pub each_flat_map : (R : B → B → Type 0) (S : A → A → Type 0) (f : A → List B) → ((x : A) → Each R (f x)) → ((x y : A) → S x y → All (λ (p : B). All (R p) (f y)) (f x))
      → (xs : List A) → Each S xs → Each R (flat_map f xs)
  unfolding flat_map
  each_flat_map R S f one two [] h = tt
  each_flat_map R S f one two (x ∷ xs) h = each_append R (f x) (flat_map f xs) (one x) (each_flat_map R S f one two xs h.1) (spread (f x) (two x) xs h.0)
    where
      spread : (ps : List B) → ((y : A) → S x y → All (λ (p : B). All (R p) (f y)) ps) → (ys : List A) → All (S x) ys → All (λ (p : B). All (R p) (flat_map f ys)) ps
      spread ps t [] s = all_any (λ (p : B). Unit {0}) (λ p. tt) ps
      spread ps t (y ∷ ys) s =
          all_map₂ (λ (p : B). All (R p) (f y)) (λ (p : B). All (R p) (flat_map f ys)) (λ (p : B). All (R p) (f y ++ flat_map f ys))
          (λ p a b. all_append (R p) (f y) (flat_map f ys) a b) ps (t y s.0) (spread ps t ys s.1)
