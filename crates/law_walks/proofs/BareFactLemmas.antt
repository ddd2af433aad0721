-- What calls are told in the host's own view is the same in states that are equal but for mounts.
use Rattle.std.proofs.Common.{◌≡◌, ◌≢◌, ℕ, true, false, List, [], ◌∷◌, Option, Some, None, Result, Ok, Err, refl, sym, ap, ◌∙◌}
use Rattle.std.specs.Bool.{if◌then◌else◌}
use Rattle.std.specs.Option.{option_map_or}
use Rattle.std.specs.Prelude.{◌==◌}
use Rattle.pt_canon.specs.pr_base.Paths.{is_absolute}
use Rattle.pt_canon.specs.pr_base.declared.errno.Errno.{Errno}
use Rattle.pt_canon.specs.pr_base.declared.errno.Errno.TheVariants.{ENOENT}
use Rattle.pt_canon.specs.pr_base.declared.path.WalkMode.{WalkMode}
use Rattle.kr_mounts.specs.kr_tree.declared.place.Place.{Place}
use Rattle.kr_mounts.specs.kr_view.View.{Row, plain, root_place}
use Rattle.kr_mounts.specs.kr_view.Walk.{PlaceTarget, place_walk}
use Rattle.kr_model.specs.kr_calls.CallTable.{Told, LooksAt, ReadsLinkAt, OpensAt, LinksTwo, NamesHere, line}
use Rattle.kr_model.specs.kr_calls.PathTable.{PathUse, path_at}
use Rattle.kr_model.specs.kr_calls.declared.request.Request.{Request}
use Rattle.kr_model.specs.Applied.{cwd_of}
use Rattle.kr_model.specs.Asking.{descriptor_number, is_working_directory}
use Rattle.kr_model.specs.FileRows.{creates}
use Rattle.kr_model.specs.HostView.{host_around_of}
use Rattle.kr_model.specs.ProcessDirectory.{around_of}
use Rattle.kr_model.specs.Seen.{Looked, Links, LooksUp, NamesDirectory, Opens, OpensFound, OpensNew, OpensNoName, OpensSlashed, ReadsLink, Seen, WalkFails}
use Rattle.kr_model.specs.State.{Image, State}
use Rattle.kr_model.specs.Walks.{Targets, and_then, base_of, created_at, entry_of, if_found, if_name, looked_at, looks_up, made_at, mount_found, of_one, of_two, place_of_descriptor, seen_of, target_at, targets_of, told, told_by, walked}
use Rattle.law_walks.specs.Alike.{AreEqualButForMounts}
use Rattle.law_walks.specs.BareFacts.{AreToldAlike, FactsAreBare, HasAbsolutePaths, IsSeenOnHost, PlainFactsAreHostFacts, SeenOnHostIsBare, seen_of_targets, target_on_host, targets_on_host, told_on_host, told_on_host_by, walked_on_host}
use Rattle.law_walks.specs.OneMount.{IsInOneMount}
use Rattle.law_walks.proofs.OneMountLemmas.{plain_walks_are_host_walks, same_directory_name, same_text as same_plain_text}
use Rattle.law_walks.proofs.BareStateLemmas.{host_walks_are_bare, same_cwd_names, same_directories, same_texts}

-- ---- of the plain view

module _ (X : Type 0) (w : State ℕ X) (caller : ℕ) (one : IsInOneMount w) where
  plain_by : (t : Told) (targets : Targets) → told_by plain caller w t targets ≡ told_on_host_by caller w t targets
  plain_by (ReadsLinkAt at) targets = λ j. of_one targets (λ target. if_found plain caller w target (λ l. ReadsLink l (same_plain_text w one caller l.host j)))
  plain_by NamesHere targets = ap NamesDirectory (same_directory_name w one caller)
  plain_by t targets = refl

  pub told_plain : (r : Request) (targets : Targets) → told plain caller w r targets ≡ told_on_host caller w r targets
  told_plain r targets = plain_by (line r).told targets

pub plain_facts_are_host_facts : (X : Type 0) → PlainFactsAreHostFacts X
plain_facts_are_host_facts X w caller one = record { texts = same_plain_text w one caller; facts = told_plain X w caller one }

-- ---- of states that are equal but for mounts

module _ (pins less : ℕ → ℕ) (s w : State ℕ Image) (caller : ℕ) (same : AreEqualButForMounts pins less s w) where
  module _ (table : List Row) where
    same_looked : (target : PlaceTarget) (p : Place ℕ) → looked_at table caller s target p ≡ looked_at table caller w target p
    same_looked target p =
        λ j. record { host = p.host; entry = if same_directories ℕ ℕ pins less s w same p.host j then None else Some (entry_of table caller s target p) }

    same_found : (target : PlaceTarget) (next : Looked → Seen) → if_found table caller s target next ≡ if_found table caller w target next
    same_found target next = λ j. option_map_or (λ p. next (same_looked target p j)) target.found (WalkFails ENOENT)

    same_created : (target : PlaceTarget) → created_at table caller s target ≡ created_at table caller w target
    same_created target =
        λ j. if_name target.last
        (if target.slash then OpensSlashed else option_map_or (λ p. OpensFound (same_looked target p j)) target.found (OpensNew target.dir.host target.name))
        (OpensNoName target.last)

    told_alike : AreToldAlike table caller s w
    told_alike = record {
      found = same_found;
      taken = λ target. refl;
      made = λ target. refl;
      created = same_created;
      opened = λ flags target j. if creates flags then Opens (same_created target j) else same_found target (λ l. Opens (OpensFound l)) j;
      linked = λ old new. same_found old (λ l. Links l (made_at table caller s new) (option_map_or (λ m. m == new.dir.mount) (mount_found old) false));
      moved = λ old new. refl;
    }

  abbrev alike : AreToldAlike plain caller s w
  alike = told_alike plain

  same_looks_up : (targets : Targets) → looks_up plain caller s targets ≡ looks_up plain caller w targets
  same_looks_up targets = λ j. of_one targets (λ target. alike.found target LooksUp j)

  alike_by : (t : Told) (targets : Targets) → told_on_host_by caller s t targets ≡ told_on_host_by caller w t targets
  alike_by (LinksTwo how old new) targets = λ j. of_two targets (λ old new. alike.linked old new j)
  alike_by (OpensAt flags at) targets = λ j. of_one targets (λ target. alike.opened flags target j)
  alike_by (ReadsLinkAt at) targets =
      λ j. of_one targets (λ target. option_map_or (λ p. let l = same_looked plain target p j in ReadsLink l (same_texts ℕ ℕ pins less s w same caller l.host j)) target.found (WalkFails ENOENT))
  alike_by NamesHere targets = ap NamesDirectory (same_cwd_names ℕ ℕ pins less s w same caller)
  alike_by (LooksAt how at) targets = same_looks_up targets
  alike_by t targets = refl

  pub facts_alike : (r : Request) (targets : Targets) → told_on_host caller s r targets ≡ told_on_host caller w r targets
  facts_alike r targets = alike_by (line r).told targets

  -- ---- calls whose paths are absolute

  module _ (one : IsInOneMount w) where
    same_base : (u : PathUse) → is_absolute u.text ≡ true → base_of plain caller w u ≡ Ok (root_place plain)
    same_base u is = ap (λ b. if b then Ok (root_place plain) else relative) is
      where
        relative : Result (Place ℕ) Errno
        relative =
            if is_working_directory u.dirfd then option_map_or (λ p. Ok p) (cwd_of caller w) (Err ENOENT)
            else place_of_descriptor plain caller w (descriptor_number u.dirfd)

    same_place : (mode : WalkMode) (path : List ℕ) → place_walk (around_of plain caller w) mode (root_place plain) path ≡ place_walk (host_around_of s caller) mode (root_place plain) path
    same_place mode path =
        ap (λ around. place_walk around mode (root_place plain) path) (plain_walks_are_host_walks Image w caller one)
        ∙ sym (host_walks_are_bare ℕ ℕ pins less s w caller mode (root_place plain) path same)

    same_walked : (u : PathUse) (text : List ℕ) → (text ≢ [] → is_absolute u.text ≡ true) → walked plain caller w u text ≡ walked_on_host caller s u text
    same_walked u [] absolute = refl
    same_walked u (b ∷ path) absolute =
        (λ j. and_then (same_base u (absolute (λ e. cc)) j) (λ base. and_then (place_walk (around_of plain caller w) u.mode base (b ∷ path)).answer ends))
        ∙ (λ j. and_then (same_place u.mode (b ∷ path) j).answer ends)
      where
        ends : PlaceTarget → Result (Option PlaceTarget) Errno
        ends target = Ok (Some target)

    same_target : (o : Option PathUse) → ((u : PathUse) → o ≡ Some u → u.text ≢ [] → is_absolute u.text ≡ true) → target_at plain caller w o ≡ target_on_host caller s o
    same_target None absolute = refl
    same_target (Some u) absolute = same_walked u u.text (absolute u refl)

    same_targets : (r : Request) → HasAbsolutePaths r → targets_of plain caller w r ≡ targets_on_host caller s r
    same_targets r absolute =
        λ j. and_then (same_target (path_at r 0) (absolute 0) j)
        (λ first. and_then (same_target (path_at r 1) (absolute 1) j) (λ second. Ok (record { first = first; second = second })))

    same_told : (r : Request) (targets : Result Targets Errno) → seen_of plain caller w r targets ≡ seen_of_targets caller s r targets
    same_told r (Ok targets) = told_plain Image w caller one r targets ∙ sym (facts_alike r targets)
    same_told r (Err e) = refl

    seen_alike : (r : Request) → HasAbsolutePaths r → IsSeenOnHost caller s w r
    seen_alike r absolute = record { targets = same_targets r absolute; told = λ j. same_told r (same_targets r absolute j) j }

pub facts_are_bare : FactsAreBare
facts_are_bare pins less s w caller same = (told_alike pins less s w caller same, record { texts = same_texts ℕ ℕ pins less s w same caller; facts = facts_alike pins less s w caller same })

pub seen_on_host_is_bare : SeenOnHostIsBare
seen_on_host_is_bare pins less s w caller r same one absolute = seen_alike pins less s w caller same one r absolute
