-- Laws of a merge where the list stands: new elements, in ascending order, put into their places among old ones from the last down, each old one moved once at the most.
use Prim.Native.Nat.{ℕ, zero, suc, ◌+◌, ◌-◌, ◌≤◌, ◌<◌}
use native.Mathlib.Nat.{not-suc-le-zero, le_of_suc-le-suc}
use native.Mathlib.Omega.{arith}
use mathlib.Core.Bool.{Bool, true, false, cond, not, true≢false}
use mathlib.Core.List.{List, [], ◌∷◌, ◌++◌, append_assoc, map, map-append}
use mathlib.Core.Logic.{inl}
use mathlib.Core.Path.{◌≡◌, refl, sym, ap, ◌∙◌}
use lib.ListN.{length, take, drop, set, get_or, length-append, length-map, length-take, length-drop, length-set, take-append-drop}
use lib.Seq.{slice, paste, drop-cons, drop_at, get_or-take, get_or-drop, length-take-le, length-paste, paste-zero, take_all, take-take, take-append-le, take-set-le, drop-set-lt, get_or-set_same, lt-length-set}
use borrow.Author.Rules.{rules}
use Rattle.std.specs.List.{AllWithin}
use Rattle.std.specs.List.Sorted.{IsPartitionedBy, IsPartitionPoint}
use Rattle.std.proofs.lemmas.Bool.{not-true}
use Rattle.std.proofs.lemmas.Slice.{between_is}
use Rattle.std.specs.Prelude.{filter}
use Rattle.lists.specs.Tally.{last_place}
use Rattle.lists.specs.Sort.{insert_by, insert_all_by}
use Rattle.lists.proofs.All.{All, all_map, all_at, all_get_d, each_first, each_last}
use Rattle.lists.proofs.Filter.{filter_fewer}
use Rattle.lists.proofs.Last.{filter_last}
use Rattle.lists.proofs.Order.{StrictOrder, Apart, Ascending}
use Rattle.lists.proofs.Sort.{insert_by_past}

-- ---- insertion from the last one on

module _ {A : Type 0} (r : A → A → Bool) where
  abbrev pub insert_each : List A → List A → List A
  insert_each [] l = l
  insert_each (x ∷ xs) l = insert_by r x (insert_each xs l)

  insert_each_more : (xs : List A) (y : A) (l : List A) → insert_each (xs ++ (y ∷ [])) l ≡ insert_each xs (insert_by r y l)
  insert_each_more [] y l = refl
  insert_each_more (x ∷ xs) y l = ap (insert_by r x) (insert_each_more xs y l)

  -- what comes before y goes in in front of it
  insert_by_front : (x y : A) (xs ys : List A) → r x y ≡ true → insert_by r x (xs ++ (y ∷ ys)) ≡ insert_by r x xs ++ (y ∷ ys)
  insert_by_front x y [] ys e = rw e
  insert_by_front x y (z ∷ xs) ys e = go (r x z) (insert_by_front x y xs ys e)
    where
      go : (b : Bool) → insert_by r x (xs ++ (y ∷ ys)) ≡ insert_by r x xs ++ (y ∷ ys)
          → cond b (x ∷ z ∷ (xs ++ (y ∷ ys))) (z ∷ insert_by r x (xs ++ (y ∷ ys))) ≡ cond b (x ∷ z ∷ xs) (z ∷ insert_by r x xs) ++ (y ∷ ys)
      go true f = refl
      go false f = ap {B = List A} (λ l. z ∷ l) f

  insert_each_front : (zs : List A) (y : A) (xs ys : List A) → All (λ (z : A). r z y ≡ true) zs → insert_each zs (xs ++ (y ∷ ys)) ≡ insert_each zs xs ++ (y ∷ ys)
  insert_each_front [] y xs ys h = refl
  insert_each_front (z ∷ zs) y xs ys h = ap (insert_by r z) (insert_each_front zs y xs ys h.1) ∙ insert_by_front z y (insert_each zs xs) ys h.0

  -- the place of an element: behind what it does not come before, in front of what it does
  insert_by_at : (x : A) (l : List A) (k : ℕ) → All (λ (y : A). r x y ≡ false) (take k l) → All (λ (y : A). r x y ≡ true) (drop k l) → insert_by r x l ≡ take k l ++ (x ∷ drop k l)
  insert_by_at x [] zero h u = refl
  insert_by_at x [] (suc k) h u = refl
  insert_by_at x (y ∷ l) zero h u = rw u.0
  insert_by_at x (y ∷ l) (suc k) h u = rw (h.0, insert_by_at x l k h.1 u)

module _ {A : Type 0} (r : A → A → Bool) (strict : StrictOrder r) where
  -- put in from the first on or from the last on, ascending elements give one list
  pub insert_each_all : (xs l : List A) → Ascending r xs → insert_each r xs l ≡ insert_all_by r xs l
  insert_each_all [] l h = refl
  insert_each_all (x ∷ xs) l h =
      ap (insert_by r x) (insert_each_all xs l h.1) ∙ sym (insert_by_past r strict x xs l (all_map (λ (y : A). r x y ≡ true) (Apart r x) (λ y e. inl e) xs h.0))

  -- in an ascending list, what does not come before an element comes before none in front of it
  not_before : (x : A) (l : List A) (m : ℕ) (d : A) → m < length l → Ascending r l → r x (get_or l m d) ≡ false → All (λ (y : A). r x y ≡ false) (take (suc m) l)
  not_before x [] m d h a e = absurd (not-suc-le-zero h)
  not_before x (y ∷ l) zero d h a e = (e, tt)
  not_before x (y ∷ l) (suc m) d h a e = (first (r x y) refl, not_before x l m d (le_of_suc-le-suc h) a.1 e)
    where
      first : (b : Bool) → r x y ≡ b → r x y ≡ false
      first false f = f
      first true f = absurd (true≢false (sym (strict.trans x y (get_or l m d) f (all_get_d (λ (z : A). r y z ≡ true) l m d (le_of_suc-le-suc h) a.0)) ∙ e))

-- ---- one new element: the old ones that it comes before slide up by `gap`, and it goes in below them

-- what one slide leaves: k of the first w are below x
pub record Slid {A : Type 0} (r : A → A → Bool) (x : A) (l₀ : List A) (w gap k : ℕ) (l : List A) : Type 0 where
  pub at_most : k ≤ w
  pub long : length l ≡ length l₀
  pub front : take k l ≡ take k l₀
  pub back : drop (k + gap - 1) l ≡ x ∷ (slice k w l₀ ++ drop (w + gap) l₀)
  pub placed : insert_by r x (take w l₀) ≡ take k l₀ ++ (x ∷ slice k w l₀)

-- x does not come before it
abbrev pub below : {A : Type 0} (r : A → A → Bool) (x : A) → A → Bool
below r x y = not (r x y)

module _ {A : Type 0} (r : A → A → Bool) (strict : StrictOrder r) (x : A) where
  -- of an ascending list, those below x stand first
  pub below_first : (l : List A) → Ascending r l → IsPartitionedBy (below r x) l
  below_first l a i j d h k e =
      let up : i < suc j = omega arith in
      ap not
      (sym (ap (r x) (get_or-take (suc j) l i d up))
      ∙ all_get_d (λ (y : A). r x y ≡ false) (take (suc j) l) i d (simp length-take (omega arith)) (not_before r strict x l j d k a (not-true (r x (get_or l j d)) e)))

  -- the place of x found, those above it moved up, and x set below them
  pub slid : (l : List A) (w gap k : ℕ) → 0 < gap → w + gap ≤ length l → k ≤ w → IsPartitionPoint (λ y. below r x y ≡ true) (λ y. below r x y ≡ false) (take w l) k
      → Slid r x l w gap k (set (paste l (k + gap) (drop k l) (w - k)) (k + gap - 1) x)
  slid l w gap k some inside few point =
      let moved = paste l (k + gap) (drop k l) (w - k) in
      let part : w - k ≤ length (drop k l) = simp length-drop (omega arith) in
      let long : length moved ≡ length l = length-paste l (k + gap) (drop k l) (w - k) (omega arith) part in
      let at : k + gap - 1 < length moved = omega arith in
      let up : suc (k + gap - 1) ≡ k + gap = omega arith in
      let end : k + gap + (w - k) ≡ w + gap = omega arith in
      let head : length (take (k + gap) l) ≡ k + gap = length-take-le (k + gap) l (omega arith) in
      let some_w : length (take w l) ≡ w = length-take-le w l (omega arith) in
      let parts = append_assoc (take (k + gap) l) (take (w - k) (drop k l)) (drop (k + gap + (w - k)) l) in
      record {
        at_most = few;
        long = length-set moved (k + gap - 1) x ∙ long;
        front = take-set-le k moved (k + gap - 1) x (omega arith)
            ∙ ap (take k) parts
            ∙ take-append-le k (take (k + gap) l) (take (w - k) (drop k l) ++ drop (k + gap + (w - k)) l) (omega arith)
            ∙ take-take k (k + gap) l (omega arith);
        back = drop-cons (set moved (k + gap - 1) x) (k + gap - 1) x (lt-length-set moved (k + gap - 1) x at)
            ∙ ap (λ (y : A). y ∷ drop (suc (k + gap - 1)) (set moved (k + gap - 1) x)) (get_or-set_same moved (k + gap - 1) x x at)
            ∙ ap (λ (t : List A). x ∷ t)
            (drop-set-lt (suc (k + gap - 1)) moved (k + gap - 1) x (omega arith)
            ∙ ap (λ (m : ℕ). drop m moved) up
            ∙ ap (drop (k + gap)) parts
            ∙ drop_at (take (k + gap) l) (take (w - k) (drop k l) ++ drop (k + gap + (w - k)) l) (k + gap) head
            ∙ ap (λ (m : ℕ). take (w - k) (drop k l) ++ drop m l) end
            ∙ ap (λ (t : List A). t ++ drop (w + gap) l) (search (rules, between_is)));
        placed = insert_by_at r x (take w l) k
            (all_at (λ (y : A). r x y ≡ false) (take k (take w l)) (λ m d h.
            let inner : m < k = omega (arith, h, length-take k (take w l)) in
            ap (r x) (get_or-take k (take w l) m d inner) ∙ not-true _ (point.0 m d (omega arith) inner)))
            (all_at (λ (y : A). r x y ≡ true) (drop k (take w l)) (λ m d h.
            ap (r x) (get_or-drop k (take w l) m d) ∙ not-false _ (point.1 (k + m) d (omega arith) (omega (arith, h, length-drop k (take w l))))))
            ∙ ap (λ (t : List A). t ++ (x ∷ slice k w l)) (take-take k w l few);
      }
    where
      not-false : (b : Bool) → not b ≡ false → b ≡ true
      not-false true e = refl
      not-false false e = absurd (true≢false e)

  -- where x comes before none of the first w, none moves
  pub slid_behind : (l : List A) (w gap : ℕ) → 0 < gap → w + gap ≤ length l → AllWithin (λ y. below r x y ≡ true) (take w l) 0 w → Slid r x l w gap w (set l (w + gap - 1) x)
  slid_behind l w gap some inside all =
      let none : w - w ≡ 0 = omega arith in
      let same : paste l (w + gap) (drop w l) (w - w) ≡ l = ap (λ (n : ℕ). paste l (w + gap) (drop w l) n) none ∙ sym (paste-zero l (w + gap) (drop w l)) in
      rw same at (slid l w gap w some inside (omega arith) (all, λ i d h k. absurd (omega (arith, h, k, length-take-le w l (omega arith)))))

-- ---- all the new elements: f of each source element that passes the test m, the sources taken from the last down

module _ {A B : Type 0} (f : A → B) (m : A → Bool) (src : List A) where
  -- of the first i sources
  abbrev pub new_of : ℕ → List B
  new_of i = map f (filter m (take i src))

  abbrev pub all_new : List B
  all_new = map f (filter m src)

module _ {A B : Type 0} (f : A → B) (m : A → Bool) (r : B → B → Bool) (src : List A) (l₀ : List B) (w₀ : ℕ) where
  -- the list while the sources from i on are done: w old ones and `gap` new ones are left to place
  pub record Merging (l : List B) (i w gap : ℕ) : Type 0 where
    pub left : gap ≡ length (new_of f m src i)
    pub few : w ≤ w₀
    pub small : i ≤ length src
    pub long : length l ≡ length l₀
    pub front : take w l ≡ take w l₀
    pub ordered : Ascending r (new_of f m src i)
    pub rest : insert_each r (new_of f m src i) (take w l₀) ++ drop (w + gap) l ≡ insert_each r (all_new f m src) (take w₀ l₀) ++ drop (w₀ + length (all_new f m src)) l₀

module _ {A B : Type 0} (f : A → B) (m : A → Bool) (r : B → B → Bool) (strict : StrictOrder r) (src : List A) (l₀ : List B) (w₀ : ℕ) where
  abbrev new : ℕ → List B
  new = new_of f m src

  abbrev all : List B
  all = all_new f m src

  abbrev At : List B → ℕ → ℕ → ℕ → Type 0
  At = Merging f m r src l₀ w₀

  pub merge_start : Ascending r all → (n gap : ℕ) → n ≡ length src → gap ≡ length all → At l₀ n w₀ gap
  merge_start a n gap e g =
      let whole : new n ≡ all = ap (λ (t : List A). map f (filter m t)) (take_all n src (omega arith)) in
      record {
        left = g ∙ ap length (sym whole);
        few = omega arith;
        small = omega arith;
        long = refl;
        front = refl;
        ordered = rw whole a;
        rest = ap (λ (t : List B). insert_each r t (take w₀ l₀) ++ drop (w₀ + gap) l₀) whole ∙ ap (λ (k : ℕ). insert_each r all (take w₀ l₀) ++ drop (w₀ + k) l₀) g;
      }

  module _ (l : List B) (i w gap : ℕ) (s : At l i w gap) where
    -- no more are left than there were
    pub merge_few : gap ≤ length all
    merge_few = omega (arith, s.left, length-map (filter m (take i src)) f, length-map (filter m src) f, filter_fewer m src i (length src) s.small, ap (λ (t : List A). length (filter m t)) (take_all (length src) src (omega arith)))

    module _ (some : 0 < gap) where
      pub one_passes : 0 < length (filter m (take i src))
      one_passes = omega (arith, s.left, length-map (filter m (take i src)) f)

      -- the last source that passes stands at j
      module _ (d : A) (j : ℕ) (last : j ≡ last_place m (take i src)) where
        pub last_below : j < i
        last_below = (filter_last m src i d j one_passes last).0

        new_more : new i ≡ new j ++ (f (get_or src j d) ∷ [])
        new_more = ap (map f) (filter_last m src i d j one_passes last).1 ∙ map-append f (filter m (take j src)) (get_or src j d ∷ [])

        pub merge_more : (l' : List B) (w' : ℕ) → Slid r (f (get_or src j d)) l w gap w' l' → At l' j w' (gap - 1)
        merge_more l' w' slid =
            let x = f (get_or src j d) in
            let e = new_more in
            let low : take w' (take w l₀) ≡ take w' l₀ = take-take w' w l₀ slid.at_most in
            let same : take w' l ≡ take w' l₀ = sym (take-take w' w l slid.at_most) ∙ ap (take w') s.front ∙ low in
            let cut : insert_by r x (take w l₀) ≡ take w' l₀ ++ (x ∷ slice w' w l) = ap (insert_by r x) (sym s.front) ∙ slid.placed ∙ ap (λ (t : List B). t ++ (x ∷ slice w' w l)) same in
            let ordered : Ascending r (new j ++ (x ∷ [])) = rw e at s.ordered in
            let lined : w' + (gap - 1) ≡ w' + gap - 1 = omega arith in
            record {
              left = omega (arith, s.left, ap length e, length-append (new j) (x ∷ []));
              few = omega (arith, s.few, slid.at_most);
              small = omega (arith, s.small, last_below);
              long = slid.long ∙ s.long;
              front = slid.front ∙ same;
              ordered = each_first (λ (p q : B). r p q ≡ true) (new j) (x ∷ []) ordered;
              rest = ap (λ (k : ℕ). insert_each r (new j) (take w' l₀) ++ drop k l') lined
                  ∙ ap (λ (t : List B). insert_each r (new j) (take w' l₀) ++ t) slid.back
                  ∙ sym (append_assoc (insert_each r (new j) (take w' l₀)) (x ∷ slice w' w l) (drop (w + gap) l))
                  ∙ ap (λ (t : List B). t ++ drop (w + gap) l)
                  (sym (insert_each_front r (new j) x (take w' l₀) (slice w' w l) (each_last (λ (p q : B). r p q ≡ true) (new j) x ordered))
                  ∙ ap (insert_each r (new j)) (sym cut)
                  ∙ sym (insert_each_more r (new j) x (take w l₀))
                  ∙ ap (λ (ps : List B). insert_each r ps (take w l₀)) (sym e))
                  ∙ s.rest;
            }

    -- nothing is left to place
    pub merge_end : Ascending r all → gap ≡ 0 → l ≡ insert_all_by r all (take w₀ l₀) ++ drop (w₀ + length all) l₀
    merge_end a z =
        let none : new i ≡ [] = nothing (new i) (sym s.left ∙ z) in
        let flat : w + gap ≡ w = omega arith in
        sym (take-append-drop w l)
        ∙ ap (λ (t : List B). t ++ drop w l) s.front
        ∙ ap (λ (k : ℕ). take w l₀ ++ drop k l) (sym flat)
        ∙ ap (λ (ps : List B). insert_each r ps (take w l₀) ++ drop (w + gap) l) (sym none)
        ∙ s.rest
        ∙ ap (λ (t : List B). t ++ drop (w₀ + length all) l₀) (insert_each_all r strict all (take w₀ l₀) a)
      where
        nothing : (ps : List B) → length ps ≡ 0 → ps ≡ []
        nothing [] e = refl
        nothing (p ∷ ps) e = absurd (no_suc (length ps) e)
          where
            no_suc : (k : ℕ) → suc k ≡ 0 → ⊥
            no_suc k e = omega arith
