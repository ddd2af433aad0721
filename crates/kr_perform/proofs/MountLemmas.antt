-- What is told of paths in the numbers of mounts is so in the mounts of the machine that have them.
use Rattle.std.proofs.Common.{◌≡◌, ℕ, Option, Some, None, refl, sym, subst, ◌∙◌}
use Rattle.std.specs.Prelude.{List}
use Rattle.std.specs.Option.{option_map}
use Rattle.law_allowed.specs.kr_tree.Tree.{Tree}
use Rattle.law_allowed.specs.kr_tree.declared.place.Host.{Host}
use Rattle.law_allowed.specs.kr_tree.declared.place.Place.{Place}
use Rattle.law_allowed.proofs.kr_tree.NameLemmas.{map_some}
use Rattle.law_allowed.specs.kr_view.InTree.{IsPlaceOf}
use Rattle.law_allowed.specs.kr_view.View.{Row}
use Rattle.law_allowed.specs.kr_view.declared.target.Target.{Target}
use Rattle.law_allowed.specs.kr_model.Applied.{Mounts}
use Rattle.law_allowed.specs.kr_model.Seen.{Seen, Looked, Taken, TakesNoName, TakesCovered, Takes, Made, MakesNoName, MakesOver, Makes, Opening, OpensNoName, OpensSlashed, OpensFound, OpensNew, NoPath, WalkFails, LooksUp, ReadsLink, Opens, TakesEntry, MakesEntry, Links, Moves, NamesDirectory}
use Rattle.law_allowed.specs.kr_model.Walks.{mounts_of}
use Rattle.law_allowed.specs.Calls.{IsToldIn}
use Rattle.law_allowed.specs.Resting.{IsLookedIn, IsMadeIn, IsOpeningIn, IsSeenIn, IsTakenIn}
use Rattle.kr_perform.specs.Operating.{mounts_at, placed_targets}

module _ {T : Type 0} (number : T → ℕ) (table : List Row) (t : Tree) where
  seen_in : (from : Option T) (by : Option ℕ) → by ≡ option_map number from → (host : Host) → IsSeenIn (λ m. m) table t by host → IsSeenIn number table t from host
  seen_in from by same host seen =
      let own = map_some number from seen.mount (sym same ∙ seen.taken) in
      record { mount = own.0; taken = own.1; stands = subst (λ m. IsPlaceOf t table (record { mount = m; host = host })) (sym own.2) seen.stands }

  -- of the same mounts by their numbers
  module _ (mounts : Mounts T) (by : Mounts ℕ) (found : by.found ≡ option_map number mounts.found) (directory : by.directory ≡ option_map number mounts.directory) where
    looked_in : (l : Looked) → IsLookedIn (λ m. m) table by t l → IsLookedIn number table mounts t l
    looked_in l is = record { found = seen_in mounts.found by.found found l.host is.found; entry = is.entry }

    taken_in : (taken : Taken) → IsTakenIn (λ m. m) table by t taken → IsTakenIn number table mounts t taken
    taken_in (TakesNoName last) is = tt
    taken_in TakesCovered is = tt
    taken_in (Takes e) is = is

    made_in : (made : Made) → IsMadeIn (λ m. m) table by t made → IsMadeIn number table mounts t made
    made_in (MakesNoName last) is = tt
    made_in MakesOver is = tt
    made_in (Makes dir name slash) is = is

    opening_in : (opening : Opening) → IsOpeningIn (λ m. m) table by t opening → IsOpeningIn number table mounts t opening
    opening_in (OpensNoName last) is = tt
    opening_in OpensSlashed is = tt
    opening_in (OpensFound l) is = looked_in l is
    opening_in (OpensNew dir name) is = (seen_in mounts.directory by.directory directory dir is.0, is.1)

    pub told_in : (seen : Seen) → IsToldIn (λ m. m) table by t seen → IsToldIn number table mounts t seen
    told_in NoPath is = tt
    told_in (WalkFails e) is = tt
    told_in (LooksUp l) is = looked_in l is
    told_in (ReadsLink l text) is = looked_in l is
    told_in (Opens opening) is = opening_in opening is
    told_in (TakesEntry taken) is = taken_in taken is
    told_in (MakesEntry made) is = made_in made is
    told_in (Links old new same_mount) is = (looked_in old is.0, made_in new is.1)
    told_in (Moves old new same_mount) is = (taken_in old is.0, taken_in new is.1)
    told_in (NamesDirectory name) is = tt

-- ---- the mounts of a call's targets

module _ {T : Type 0} (number : T → ℕ) where
  pub found_mount : (first second : Option (Target T)) → (mounts_of (placed_targets number first second)).found ≡ option_map number (mounts_at first).found
  found_mount None second = refl
  found_mount (Some target) second = by target.found
    where
      by : (o : Option (Place T)) → option_map (λ (p : Place ℕ). p.mount) (option_map (λ (p : Place T). record { mount = number p.mount; host = p.host }) o) ≡ option_map number (option_map (λ (p : Place T). p.mount) o)
      by None = refl
      by (Some p) = refl

  pub directory_mount : (first second : Option (Target T)) → (mounts_of (placed_targets number first second)).directory ≡ option_map number (mounts_at first).directory
  directory_mount None second = refl
  directory_mount (Some target) second = refl
