-- What a sound area holds, as facts; and that it stays sound when its journal's gate moves, when it is cleared by the other's, and when one more entry is held.
use Prim.Native.Nat.{◌≤◌, ◌<◌}
use native.Mathlib.Omega.{arith}
use mathlib.Core.Bool.{Bool, true, false, cond}
use mathlib.Core.List.{List, [], ◌∷◌, ◌++◌, append-nil}
use mathlib.Core.Path.{◌≡◌, refl, sym}
use lib.Dec.{ltb}
use lib.ListN.{length, length-append}
use borrow.Author.Tests.{ltb-true, leb-true, lt-ltb, le-leb}
use Rattle.interval.specs.Interval.{proper_of}
use Rattle.lists.proofs.All.{All, Each, all_map, all_map₂, all_append, each_map, each_append}
use Rattle.lists.proofs.Bools.{and_left, and_right}
use Rattle.lists.proofs.Judge.{list_all_all, all_list_all, chain_each, each_chain}
use Rattle.lists.proofs.Filter.{filter_passes, filter_length, all_filtered, each_filtered}
use Rattle.lists.proofs.Store.{pad_to_take, stored_length, stores_stored, spare_stored}
use Rattle.pairing.specs.declared.Entry.{Entry}
use Rattle.pairing.specs.declared.Numbered.{Numbered}
use Rattle.pairing.specs.declared.Rule.{Rule}
use Rattle.pairing.specs.Rule.{allows}
use Rattle.pairing.proofs.Arrival.{Later}
use Rattle.journal.specs.declared.Gate.{Gate}
use Rattle.journal.specs.declared.Gate.TheVariants.{Open}
use Rattle.journal.specs.declared.Journal.{Journal}
use Rattle.journal.specs.Journal.{wanted, not_past, moved, entered}
use Rattle.journal.proofs.Onward.{Onward, not_past_onward}
use Rattle.area.specs.declared.Area.{Area}
use Rattle.area.specs.Area.{most, places, held, no_entry, area_of, Holds, wanted_by, sound_entry, follows, spare_entry, sound_area}
use Rattle.area.proofs.Laws.{most_fits, none_spare, area_passes}

-- ---- the area that stores some entries

-- it holds them
pub held_stored : (xs : List Numbered) → held (area_of xs) ≡ xs
held_stored xs = pad_to_take places no_entry xs (length xs) refl

pub holds_stored : (xs : List Numbered) → length xs ≤ most → Holds (area_of xs)
holds_stored xs h = stores_stored no_entry places xs (length xs) refl (omega (arith, most_fits))

-- it is the one that does
module _ (area : Area) (h : Holds area) where
  pub held_length : length (held area) ≡ area.count
  held_length = stored_length no_entry places area.count area.places h

  pub area_held : area_of (held area) ≡ area
  area_held = λ i. record { count = held_length i; places = sym h.same i }

-- ---- the judge's tests as facts

pub record SoundEntry (rule : Rule) (own : Journal) (other : Gate) (x : Numbered) : Type 0 where
  pub proper : proper_of x.entry.span ≡ true
  pub needed : wanted other x.entry ≡ true
  pub numbered : x.ordinal < own.accepted
  pub started : not_past own.gate x.entry.span.start ≡ true
  pub allowed : allows rule x.entry.key ≡ true

pub record SoundHeld (rule : Rule) (own : Journal) (other : Gate) (xs : List Numbered) : Type 0 where
  pub few : length xs ≤ most
  pub sounds : All (SoundEntry rule own other) xs
  pub laters : Each Later xs

pub follows_later : (x y : Numbered) → follows x y ≡ true → Later x y
follows_later x y e = (
  ltb-true x.ordinal y.ordinal (and_left (ltb x.ordinal y.ordinal) _ e),
  leb-true x.entry.span.start y.entry.span.start (and_right (ltb x.ordinal y.ordinal) _ e),
)

later_follows : (x y : Numbered) → Later x y → follows x y ≡ true
later_follows x y h = rw (lt-ltb x.ordinal y.ordinal h.0, le-leb x.entry.span.start y.entry.span.start h.1)

pub follows_trans : (x y z : Numbered) → follows x y ≡ true → follows y z ≡ true → follows x z ≡ true
follows_trans x y z e f =
    let h = follows_later x y e in
    let k = follows_later y z f in
    later_follows x z (omega arith, omega arith)

module _ (rule : Rule) (own : Journal) (other : Gate) where
  entry_facts : (x : Numbered) → sound_entry rule own other x ≡ true → SoundEntry rule own other x
  entry_facts x e =
      let e1 = and_right (proper_of x.entry.span) _ e in
      let e2 = and_right (wanted other x.entry) _ e1 in
      let e3 = and_right (ltb x.ordinal own.accepted) _ e2 in
      record {
        proper = and_left (proper_of x.entry.span) _ e;
        needed = and_left (wanted other x.entry) _ e1;
        numbered = ltb-true x.ordinal own.accepted (and_left (ltb x.ordinal own.accepted) _ e2);
        started = and_left (not_past own.gate x.entry.span.start) _ e3;
        allowed = and_right (not_past own.gate x.entry.span.start) _ e3;
      }

  entry_judged : (x : Numbered) → SoundEntry rule own other x → sound_entry rule own other x ≡ true
  entry_judged x h = rw (h.proper, h.needed, lt-ltb x.ordinal own.accepted h.numbered, h.started, h.allowed)

  -- what the judge passes
  pub judged_held : (area : Area) → Holds area → sound_area rule own other area ≡ true → SoundHeld rule own other (held area)
  judged_held area h e =
      let xs = held area in
      let all = area_passes rule own other area e in
      record {
        few = omega (arith, held_length area h, leb-true area.count most all.few_pass);
        sounds = all_map (λ (x : Numbered). sound_entry rule own other x ≡ true) (SoundEntry rule own other) entry_facts xs (list_all_all (sound_entry rule own other) xs all.sounds_pass);
        laters = each_map (λ (x y : Numbered). follows x y ≡ true) Later follows_later xs (chain_each follows follows_trans xs all.order_pass);
      }

  -- passes the judge
  pub held_judged : (xs : List Numbered) → SoundHeld rule own other xs → sound_area rule own other (area_of xs) ≡ true
  unfolding sound_area
  held_judged xs h =
      rw (
        held_stored xs,
        le-leb (length xs) most h.few,
        all_list_all (sound_entry rule own other) xs (all_map (SoundEntry rule own other) (λ (x : Numbered). sound_entry rule own other x ≡ true) entry_judged xs h.sounds),
        each_chain follows xs (each_map Later (λ (x y : Numbered). follows x y ≡ true) later_follows xs h.laters),
        spare_stored no_entry places xs (length xs) refl spare_entry none_spare,
      )

  -- nothing held is sound
  pub held_none : SoundHeld rule own other []
  held_none = record { few = omega arith; sounds = tt; laters = tt }

-- ---- kept

-- an entry that comes, with its ordinal
abbrev pub arriving : Journal → Entry → Numbered
arriving own e = record { entry = e; ordinal = own.accepted }

module _ (rule : Rule) (own : Journal) (other : Gate) (xs : List Numbered) (h : SoundHeld rule own other xs) where
  -- its journal's gate moves onward
  pub held_moved : (gate : Gate) → Onward own.gate gate → SoundHeld rule (moved gate own) other xs
  held_moved gate on = record {
    few = h.few;
    sounds = all_map (SoundEntry rule own other) (SoundEntry rule (moved gate own) other)
        (λ x s. record { proper = s.proper; needed = s.needed; numbered = s.numbered; started = not_past_onward own.gate gate on x.entry.span.start s.started; allowed = s.allowed }) xs h.sounds;
    laters = h.laters;
  }

  -- it is cleared by another gate of the other journal
  pub held_cleared : (gate : Gate) → SoundHeld rule own gate (wanted_by gate xs)
  held_cleared gate =
      let wants : Numbered → Bool = λ x. wanted gate x.entry in
      record {
        few = omega (arith, filter_length wants xs, h.few);
        sounds = all_map₂ (SoundEntry rule own other) (λ (x : Numbered). wants x ≡ true) (SoundEntry rule own gate) (λ x s e. record { proper = s.proper; needed = e; numbered = s.numbered; started = s.started; allowed = s.allowed }) (wanted_by gate xs)
            (all_filtered (SoundEntry rule own other) wants xs h.sounds) (filter_passes wants xs);
        laters = each_filtered Later wants xs h.laters;
      }

  -- an entry comes, and is held if wanted
  module _ (e : Entry) (proper : proper_of e.span ≡ true) (allowed : allows rule e.key ≡ true) (on : Onward own.gate (Open e.span.start)) where
    still : All (SoundEntry rule (entered e own) other) xs
    still = all_map (SoundEntry rule own other) (SoundEntry rule (entered e own) other)
        (λ x s. record { proper = s.proper; needed = s.needed; numbered = omega (arith, s.numbered); started = not_past_onward own.gate (Open e.span.start) on x.entry.span.start s.started; allowed = s.allowed }) xs h.sounds

    -- the new one is later than all
    before_new : (x : Numbered) → SoundEntry rule own other x → Later x (arriving own e)
    before_new x s = (s.numbered, leb-true x.entry.span.start e.span.start (not_past_onward own.gate (Open e.span.start) on x.entry.span.start s.started))

    pub held_entered : (wanted other e ≡ true → length xs < most) → SoundHeld rule (entered e own) other (xs ++ wanted_by other (arriving own e ∷ []))
    held_entered room = go (wanted other e) refl
      where
        go : (b : Bool) → wanted other e ≡ b → SoundHeld rule (entered e own) other (xs ++ cond b (arriving own e ∷ []) [])
        go true w = record {
          few = omega (arith, room w, length-append xs (arriving own e ∷ []));
          sounds = all_append (SoundEntry rule (entered e own) other) xs (arriving own e ∷ []) still
              (record { proper = proper; needed = w; numbered = omega arith; started = le-leb e.span.start e.span.start (omega arith); allowed = allowed }, tt);
          laters = each_append Later xs (arriving own e ∷ []) h.laters (tt, tt) (all_map (SoundEntry rule own other) (λ (x : Numbered). All (Later x) (arriving own e ∷ [])) (λ x s. (before_new x s, tt)) xs h.sounds);
        }
        go false w = rw (append-nil xs) (record { few = h.few; sounds = still; laters = h.laters })
