-- What a call with a path brings into use stands before it.
use Rattle.std.proofs.Common.{◌≡◌, ℕ, Bool, true, false, cond, List, Option, Some, None, Result, Ok, Err, refl, sym, ap, subst, ◌∙◌}
use Rattle.std.specs.Prelude.{ℤ}
use Rattle.std.specs.Option.{option_and_then, option_map, option_map_or}
use Rattle.kr_core.specs.pr_base.declared.errno.Errno.{Errno}
use Rattle.kr_core.specs.pr_base.declared.errno.Errno.TheVariants.{ENOENT}
use Rattle.kr_core.specs.pr_base.declared.path.Last.{Last}
use Rattle.kr_core.specs.pr_base.declared.path.Last.TheVariants as last
use Rattle.pt_results.specs.rv_mem.Actions.{carried_out}
use Rattle.pt_results.specs.rv_mem.Memory.{Memory}
use Rattle.pt_results.specs.pt_bind.Tags.{TagTable}
use Rattle.kr_core.specs.kr_tree.declared.place.Place.{Place}
use Rattle.kr_core.proofs.kr_tree.NameLemmas.{some_is}
use Rattle.law_places.specs.kr_view.Component.{Namespace, is_directory_at}
use Rattle.law_places.specs.kr_view.View.{Row}
use Rattle.law_places.specs.kr_view.Walk.{PlaceTarget}
use Rattle.pt_results.specs.kr_calls.PathTable.{PathUse, path_at}
use Rattle.pt_results.specs.kr_calls.declared.request.Request.{Request}
use Rattle.pt_results.specs.kr_calls.declared.request.Request.TheVariants as call
use Rattle.law_places.specs.kr_model.Applied.{Mounts}
use Rattle.law_places.specs.kr_model.Change.{Change}
use Rattle.law_places.specs.kr_model.DirectoryRows.{chdir_row}
use Rattle.law_places.specs.kr_model.FileRows.{creates, openat_row}
use Rattle.law_places.specs.kr_model.Known.{Known, known}
use Rattle.law_places.specs.kr_model.Operation.{looked_up, opened}
use Rattle.law_places.specs.kr_model.ProcessDirectory.{space_of}
use Rattle.law_places.specs.kr_model.Reply.{Replying}
use Rattle.law_places.specs.kr_model.Seen.{LooksUp, Opening, Opens, OpensFound, OpensNew, OpensNoName, OpensSlashed, NoPath, Seen, WalkFails}
use Rattle.law_places.specs.kr_model.State.{Image, Process, State, image_layout}
use Rattle.law_places.specs.kr_model.Walks.{Targets, created_at, entry_of, if_found, if_name, looked_at, mounts_of, opened_at, seen_of, targets_of}
use Rattle.kr_core.specs.law_allowed.Told.{mounts_walked}
use Rattle.kr_core.proofs.law_allowed.RowLemmas.{Allowed, reached}
use Rattle.kr_core.specs.kr_seen.Carrying.{memory_of}
use Rattle.law_places.specs.Changes.{NewPlacesStand}
use Rattle.law_places.specs.law_walks.Scene.{Scene}
use Rattle.law_places.specs.law_walks.Standing.{StandsOn, place_in}
use Rattle.law_places.proofs.law_walks.NamedLemmas.{directories_of_names_are_searched}
use Rattle.law_turns.specs.PathCalls.{CallsPath, PathCallsBringStanding, changes_at, mounts_at, told_at, written_at}
use Rattle.law_turns.proofs.FoundLemmas.{IsFound, is_found}
use Rattle.law_turns.proofs.IndexLemmas.{free_stays}
use Rattle.law_turns.proofs.OpenLemmas.{Brings, OpeningStands, StandsFound, StandsSearched, chdir_brings, entry_told, openat_brings}
use Rattle.law_turns.proofs.SettingLemmas.{at, at_holds, at_placed, at_small, at_tagged, can_all, known_written, same_space, written, written_placed}
use Rattle.law_turns.proofs.UsesLemmas.{bring_none, uses_kept}
use Rattle.law_turns.proofs.WalkedLemmas.{Walked, first_both, scene}

-- ---- what was found, as it is told

true_false : {A : Type 0} → true ≡ false → A
true_false e = absurd cc

told_found : (space : Namespace) (p : Place ℕ) (e : ℕ × List ℕ) → IsFound space p e → (b : Bool) → is_directory_at space.tree p.host ≡ b → IsFound space p (entry_told (record { host = p.host; entry = cond b None (Some e) }))
told_found space p e f true dir = record { guest = f.guest; on = f.on; entry = λ file. true_false (sym dir ∙ file); called = λ file. true_false (sym dir ∙ file) }
told_found space p e f false file = record { guest = f.guest; on = f.on; entry = f.entry; called = f.called }

module _ (table : List Row) (made pid : ℕ) (s : State ℕ Image) (p : Process ℕ Image) (tags : TagTable) (r : Request) (c : CallsPath table made pid s p tags r) where
  abbrev a : State ℕ Image
  a = at table made pid s p tags r c

  abbrev w : State ℕ Image
  w = written table made pid s p tags r c

  module _ (targets : Targets) (is : targets_of table pid a r ≡ Ok targets) (target : PlaceTarget) (first : targets.first ≡ Some target) where
    abbrev mounts : Mounts ℕ
    mounts = mounts_of targets

    abbrev around : Scene
    around = scene table pid a tags (at_placed table made pid s p tags r c) (at_tagged table made pid s p tags r c) (at_small table made pid s p tags r c)

    walk : (u : PathUse) × (path_at r 0 ≡ Some u) × Walked around u.mode u.text target
    walk = first_both table pid a tags (at_placed table made pid s p tags r c) (at_tagged table made pid s p tags r c) (at_small table made pid s p tags r c) r targets is target first

    -- what was looked up stands
    looked_stands : (q : Place ℕ) → target.found ≡ Some q → StandsFound table mounts pid w (written_placed table made pid s p tags r c) q.host (entry_told (looked_at table pid a target q))
    looked_stands q found m mount firm =
        let v = walk.2 in
        let f = is_found around walk.0.mode v.base v.guest walk.0.text target v.target v.both q found firm in
        let named : q.mount ≡ m = some_is q.mount m (sym (ap (λ (t : Option PlaceTarget). option_and_then (λ (t : PlaceTarget). option_map (λ (p : Place ℕ). p.mount) t.found) t) first ∙ ap (option_map (λ (p : Place ℕ). p.mount)) found) ∙ mount) in
        let told = told_found (space_of table a) q (entry_of table pid a target q) f (is_directory_at a.tree q.host) refl in
        subst (λ m. IsFound (space_of table w) (place_in m q.host) (entry_told (looked_at table pid a target q))) named
        (subst (λ space. IsFound space q (entry_told (looked_at table pid a target q))) (same_space table made pid s p tags r c) told)

    -- and a directory of a name stands, and may be searched
    directory_stands : target.found ≡ None → target.last ≡ last.Name → StandsSearched table mounts pid w (written_placed table made pid s p tags r c) target.dir.host
    directory_stands none name =
        let v = walk.2 in
        let n = directories_of_names_are_searched around walk.0.mode v.base v.guest walk.0.text target v.target v.both (free_stays around walk.0.mode v.base v.guest walk.0.text target v.target v.both none) name in
        record {
          stands = λ m mount.
              let named : target.dir.mount ≡ m = some_is target.dir.mount m (sym (ap (option_map (λ (t : PlaceTarget). t.dir.mount)) first) ∙ mount) in
              (v.target.dir, subst (λ m. StandsOn (space_of table w) (place_in m target.dir.host) v.target.dir) named (subst (λ space. StandsOn space target.dir v.target.dir) (same_space table made pid s p tags r c) n.on));
          search = n.search;
        }

    abbrev Fine : Opening → Type 0
    Fine o = OpeningStands table mounts pid w (written_placed table made pid s p tags r c) o

    created_stands : Fine (created_at table pid a target)
    created_stands = by_last target.last refl
      where
        by_found : target.last ≡ last.Name → (o : Option (Place ℕ)) → target.found ≡ o → Fine (option_map_or (λ p. OpensFound (looked_at table pid a target p)) o (OpensNew target.dir.host target.name))
        by_found name None found = directory_stands found name
        by_found name (Some q) found = looked_stands q found

        by_slash : target.last ≡ last.Name → (b : Bool) → Fine (cond b OpensSlashed (option_map_or (λ p. OpensFound (looked_at table pid a target p)) target.found (OpensNew target.dir.host target.name)))
        by_slash name true = tt
        by_slash name false = by_found name target.found refl

        by_last : (l : Last) → target.last ≡ l → Fine (if_name l (cond target.slash OpensSlashed (option_map_or (λ p. OpensFound (looked_at table pid a target p)) target.found (OpensNew target.dir.host target.name))) (OpensNoName target.last))
        by_last last.Name name = by_slash name target.slash
        by_last last.Dot name = tt
        by_last last.DotDot name = tt
        by_last last.Root name = tt

  -- ---- the rows

  abbrev k : Known
  k = known image_layout pid a

  abbrev memory : Memory
  memory = memory_of pid a

  abbrev B : Mounts ℕ → List Change → Type 0
  B mounts cs = Brings table mounts pid w (written_placed table made pid s p tags r c) cs

  by_row : (mounts : Mounts ℕ) (row : Known → Replying) → Allowed (B mounts) false (row (known image_layout pid w)) → B mounts (carried_out (row k) memory).reply.changes
  by_row mounts row allowed =
      subst (λ k. B mounts (carried_out (row k) memory).reply.changes) (known_written table made pid s p tags r c) (reached (λ can. tt) false (row (known image_layout pid w)) allowed memory (λ first. at_holds table made pid s p tags r c))

  abbrev opens_changes : ℕ → ℕ → Seen → List Change
  opens_changes flags mode seen = (carried_out (opened seen (λ o. openat_row k o flags mode)) memory).reply.changes

  abbrev enters_changes : Seen → List Change
  enters_changes seen = (carried_out (looked_up seen (λ l. chdir_row k l)) memory).reply.changes

  openat_brings_here : (dirfd : ℤ) (path : List ℕ) (flags mode : ℕ) (o : Result Targets Errno) → targets_of table pid a r ≡ o
      → B (mounts_walked o) (opens_changes flags mode (seen_of table pid a (call.Openat dirfd path flags mode) o))
  openat_brings_here dirfd path flags mode (Err e) is = λ can. tt
  openat_brings_here dirfd path flags mode (Ok targets) is = by targets.first refl
    where
      by : (f : Option PlaceTarget) → targets.first ≡ f → B (mounts_of targets) (opens_changes flags mode (option_map_or (opened_at table pid a flags) f NoPath))
      by None first = λ can. tt
      by (Some target) first = by_creates (creates flags)
        where
          by_found : (o : Option (Place ℕ)) → target.found ≡ o → B (mounts_of targets) (opens_changes flags mode (option_map_or (λ p. Opens (OpensFound (looked_at table pid a target p))) o (WalkFails ENOENT)))
          by_found None found = λ can. tt
          by_found (Some q) found =
              by_row (mounts_of targets) (λ k. openat_row k (OpensFound (looked_at table pid a target q)) flags mode)
              (openat_brings table (mounts_of targets) pid w (written_placed table made pid s p tags r c) (OpensFound (looked_at table pid a target q)) flags mode (looked_stands targets is target first q found))

          by_creates : (b : Bool) → B (mounts_of targets) (opens_changes flags mode (cond b (Opens (created_at table pid a target)) (if_found table pid a target (λ l. Opens (OpensFound l)))))
          by_creates true =
              by_row (mounts_of targets) (λ k. openat_row k (created_at table pid a target) flags mode)
              (openat_brings table (mounts_of targets) pid w (written_placed table made pid s p tags r c) (created_at table pid a target) flags mode (created_stands targets is target first))
          by_creates false = by_found target.found refl

  chdir_brings_here : (path : List ℕ) (o : Result Targets Errno) → targets_of table pid a r ≡ o
      → B (mounts_walked o) (enters_changes (seen_of table pid a (call.Chdir path) o))
  chdir_brings_here path (Err e) is = λ can. tt
  chdir_brings_here path (Ok targets) is = by targets.first refl
    where
      by : (f : Option PlaceTarget) → targets.first ≡ f → B (mounts_of targets) (enters_changes (option_map_or (λ target. if_found table pid a target LooksUp) f NoPath))
      by None first = λ can. tt
      by (Some target) first = by_found target.found refl
        where
          by_found : (o : Option (Place ℕ)) → target.found ≡ o → B (mounts_of targets) (enters_changes (option_map_or (λ p. LooksUp (looked_at table pid a target p)) o (WalkFails ENOENT)))
          by_found None found = λ can. tt
          by_found (Some q) found =
              by_row (mounts_of targets) (λ k. chdir_row k (looked_at table pid a target q))
              (chdir_brings table (mounts_of targets) pid w (written_placed table made pid s p tags r c) (looked_at table pid a target q) (looked_stands targets is target first q found))

-- ---- all of them

by_request : (table : List Row) (made pid : ℕ) (s : State ℕ Image) (p : Process ℕ Image) (tags : TagTable) (r : Request) (c : CallsPath table made pid s p tags r)
    → NewPlacesStand table (mounts_at table pid s p r) pid (written_at table pid s p r) (changes_at table pid s p r)
by_request table made pid s p tags (call.Openat dirfd path flags mode) c =
    let r = call.Openat dirfd path flags mode in
    openat_brings_here table made pid s p tags r c dirfd path flags mode (targets_of table pid (at table made pid s p tags r c) r) refl (can_all table made pid s p tags r c)
by_request table made pid s p tags (call.Chdir path) c =
    let r = call.Chdir path in chdir_brings_here table made pid s p tags r c path (targets_of table pid (at table made pid s p tags r c) r) refl (can_all table made pid s p tags r c)
by_request table made pid s p tags r c = bring_none table (mounts_at table pid s p r) pid (changes_at table pid s p r) (written_at table pid s p r) (uses_kept pid (told_at table pid s p r) (known image_layout pid (at table made pid s p tags r c)) (memory_of pid (at table made pid s p tags r c)) r c.kind refl)

pub path_calls_bring_standing : PathCallsBringStanding
path_calls_bring_standing table made pid s p tags r c = by_request table made pid s p tags r c
