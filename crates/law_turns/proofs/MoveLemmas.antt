-- A calm call with a path moves names inside alone.
use Rattle.std.proofs.Common.{◌≡◌, ℕ, Bool, true, false, cond, List, [], Option, Some, None, Result, Ok, Err, refl, sym, ap, subst, ◌∙◌}
use Rattle.std.specs.Prelude.{◌||◌, ◌==◌, not, ℤ}
use Rattle.std.specs.Option.{option_map_or}
use Rattle.kr_core.specs.pr_base.declared.errno.Errno.{Errno}
use Rattle.kr_core.specs.pr_base.declared.path.Last.{Last}
use Rattle.kr_core.specs.pr_base.declared.path.Last.TheVariants as last
use Rattle.kr_core.specs.pr_base.declared.path.WalkMode.TheVariants.{Name as NameMode}
use Rattle.pt_results.specs.rv_mem.Actions.{carried_out}
use Rattle.pt_results.specs.pt_bind.Tags.{TagTable}
use Rattle.pt_results.specs.kr_calls.PathTable.{PathUse}
use Rattle.pt_results.specs.kr_calls.declared.request.Request.{Request}
use Rattle.pt_results.specs.kr_calls.declared.request.Request.TheVariants as call
use Rattle.kr_core.specs.kr_tree.declared.place.Host.{Host}
use Rattle.kr_core.specs.kr_tree.declared.place.Host.TheVariants.{Node, Proc}
use Rattle.kr_core.proofs.kr_tree.NameLemmas.{some_is}
use Rattle.law_places.specs.kr_view.View.{Row}
use Rattle.law_places.specs.kr_view.Component.{may_search}
use Rattle.law_places.specs.kr_view.Walk.{PlaceTarget, looking, place_walk}
use Rattle.law_places.proofs.kr_view.StayingLemmas.{names-stay}
use Rattle.kr_core.specs.kr_seen.Carrying.{memory_of}
use Rattle.law_places.specs.kr_calm.Foreseen.{moved_away, prospect}
use Rattle.law_places.specs.kr_calm.Prospects.{answers_zero, move, move_made, renameat2_made}
use Rattle.law_places.specs.kr_calm.Rules.{are_parted, breaks_2, rename_crosses}
use Rattle.law_places.proofs.kr_calm.ProspectLemmas.{foreseen_calls_make_it}
use Rattle.law_places.specs.kr_model.Applied.{Mounts}
use Rattle.law_places.specs.kr_model.Change.{Change}
use Rattle.law_places.specs.kr_model.Known.{known}
use Rattle.law_places.specs.kr_model.NameRows.{is_one}
use Rattle.law_places.specs.kr_model.Operation.{operation}
use Rattle.law_places.specs.kr_model.ProcessDirectory.{around_of, space_of}
use Rattle.law_places.specs.kr_model.Seen.{NoPath, Seen, Taken, TakesCovered, Takes, TakesNoName}
use Rattle.law_places.specs.kr_model.State.{Image, Process, State, image_layout}
use Rattle.law_places.specs.kr_model.Walks.{Targets, entered, if_name, is_covered, moved_at, seen_of, taken_at, targets_of}
use Rattle.kr_core.specs.kr_turns.Breaking.{plain_rule}
use Rattle.law_places.specs.Moving.{IsComeTo}
use Rattle.law_places.proofs.KeepLemmas.{stay_inside}
use Rattle.law_places.specs.Keeping.{MovesStayInside}
use Rattle.law_places.specs.law_walks.Scene.{Scene}
use Rattle.law_places.specs.law_walks.Settled.{host_text}
use Rattle.law_places.proofs.law_walks.NamedLemmas.{directories_of_names_are_searched}
use Rattle.law_turns.specs.Calls.{decoded_in}
use Rattle.law_turns.specs.PathCalls.{CallsPath, PathCallsMoveInside, changes_at, mounts_at, told_at, written_at}
use Rattle.law_turns.proofs.LineLemmas.{others_move_nothing}
use Rattle.law_turns.proofs.RuleLemmas.{rules_kept}
use Rattle.law_turns.proofs.SettingLemmas.{at, at_placed, at_small, at_tagged, same_space, written}
use Rattle.law_turns.proofs.WalkedLemmas.{scene, second_both}

-- ---- renameat2

no_or : (a b : Bool) → (a || b) ≡ false → b ≡ false
no_or true b e = absurd cc
no_or false b e = e

module _ (table : List Row) (mounts : Mounts ℕ) (pid : ℕ) (w : State ℕ Image) where
  abbrev Inside : List Change → Type 0
  Inside cs = MovesStayInside table mounts pid w cs

  -- between two directories of which the user comes to the second, and that nothing parts
  pub record AreTogether (old new : PlaceTarget) : Type 0 where
    pub apart : are_parted table w.tree old.dir.host new.dir.host ≡ false
    pub come_to : new.last ≡ last.Name → (to : ℕ) → new.dir.host ≡ Node to → IsComeTo (space_of table w) to

  module _ (old new : PlaceTarget) (t : AreTogether old new) where
    by_hosts : new.last ≡ last.Name → (x : Host) → old.dir.host ≡ x → (y : Host) → new.dir.host ≡ y → Inside (move x old.name y new.name)
    by_hosts name (Node d) is (Node to) also =
        (record { together = ap (λ x. are_parted table w.tree x (Node to)) (sym is) ∙ ap (are_parted table w.tree old.dir.host) (sym also) ∙ t.apart; come_to = t.come_to name to also }, tt)
    by_hosts name (Node d) is (Proc i at) also = tt
    by_hosts name (Proc i at) is y also = tt

    by_found : new.last ≡ last.Name → (o : Option Host) → Inside (option_map_or (move_made (entered old) (entered new)) o [])
    by_found name None = tt
    by_found name (Some found) =
        elim (is_one found (entered new).found) as (λ b. Inside (cond b [] (move old.dir.host old.name new.dir.host new.name))) [ true ↦ tt | false ↦ by_hosts name old.dir.host refl new.dir.host refl ]

    -- by how both paths end, and whether a mount stands there
    by_new : (l : Last) → new.last ≡ l → (c : Bool) → Inside (renameat2_made (Takes (entered old)) (if_name l (cond c TakesCovered (Takes (entered new))) (TakesNoName new.last)))
    by_new last.Name name true = tt
    by_new last.Name name false = by_found name (entered old).found
    by_new last.Dot name c = tt
    by_new last.DotDot name c = tt
    by_new last.Root name c = tt

    by_old : (l : Last) (c : Bool) (taken : Taken) → Inside (renameat2_made (Takes (entered old)) taken) → Inside (renameat2_made (if_name l (cond c TakesCovered (Takes (entered old))) (TakesNoName old.last)) taken)
    by_old last.Name true taken inside = tt
    by_old last.Name false taken inside = inside
    by_old last.Dot c taken inside = tt
    by_old last.DotDot c taken inside = tt
    by_old last.Root c taken inside = tt

    pub moved_inside : (s : State ℕ Image) → Inside (renameat2_made (taken_at table pid s old) (taken_at table pid s new))
    moved_inside s = by_old old.last (is_covered table old.dir.host old.name) (taken_at table pid s new) (by_new new.last refl (is_covered table new.dir.host new.name))

  at_zero : (b : Bool) (made changes : List Change) → changes ≡ cond b made [] → Inside made → Inside changes
  at_zero true made changes is inside = subst Inside (sym is) inside
  at_zero false made changes is inside = subst Inside (sym is) tt

module _ (table : List Row) (made pid : ℕ) (no_shelf : Bool) (s : State ℕ Image) (p : Process ℕ Image) (tags : TagTable) (olddir : ℤ) (old : List ℕ) (newdir : ℤ) (new : List ℕ) (c : CallsPath table made pid s p tags (call.Renameat2 olddir old newdir new)) (calm : plain_rule 1 table pid no_shelf s ≡ None) where
  abbrev r : Request
  r = call.Renameat2 olddir old newdir new

  abbrev a : State ℕ Image
  a = at table made pid s p tags r c

  abbrev w : State ℕ Image
  w = written table made pid s p tags r c

  module _ (targets : Targets) (is : targets_of table pid a r ≡ Ok targets) (one : PlaceTarget) (first : targets.first ≡ Some one) (other : PlaceTarget) (second : targets.second ≡ Some other) where
    -- the second rule, where both walks succeed
    uncrossed : rename_crosses table a.tree one other ≡ false
    uncrossed =
        sym (ap (λ (f : Option PlaceTarget). option_map_or (λ old. option_map_or (rename_crosses table a.tree old) targets.second false) f false) first ∙ ap (λ (f : Option PlaceTarget). option_map_or (rename_crosses table a.tree one) f false) second)
        ∙ sym (ap (breaks_2 table a.tree r) is) ∙ (rules_kept table pid no_shelf s p r c.can.lives c.decoded tt calm).second

    abbrev around : Scene
    around = scene table pid a tags (at_placed table made pid s p tags r c) (at_tagged table made pid s p tags r c) (at_small table made pid s p tags r c)

    come_to : other.last ≡ last.Name → (to : ℕ) → other.dir.host ≡ Node to → IsComeTo (space_of table w) to
    come_to name to at_node =
        let walked = second_both table pid a tags (at_placed table made pid s p tags r c) (at_tagged table made pid s p tags r c) (at_small table made pid s p tags r c) r targets is other second in
        let v = walked.2 in
        let mode : NameMode ≡ walked.0.mode = ap (λ (u : PathUse). u.mode) (some_is _ walked.0 walked.1) in
        let stays = names-stay (looking (around_of table pid a)) v.base walked.0.text other (ap (λ mode. (place_walk (around_of table pid a) mode v.base walked.0.text).answer) mode ∙ v.both.place) in
        let n = directories_of_names_are_searched around walked.0.mode v.base v.guest walked.0.text other v.target v.both stays name in
        subst (λ space. IsComeTo space to) (same_space table made pid s p tags r c)
        (record { host = host_text (space_of table a) v.target.dir; way = n.on.stands.way ∙ ap Some at_node; search = ap (may_search a.tree a.user) (sym at_node) ∙ n.search })

    together : AreTogether table (mounts_at table pid s p r) pid w one other
    together = record { apart = no_or (not (one.dir.mount == other.dir.mount)) _ uncrossed; come_to = come_to }

  abbrev seen_so : Option PlaceTarget → Option PlaceTarget → Seen
  seen_so first second = option_map_or (λ old. option_map_or (moved_at table pid a old) second NoPath) first NoPath

  abbrev Moved : List Change → Type 0
  Moved cs = MovesStayInside table (mounts_at table pid s p r) pid w cs

  moved_where : (o : Result Targets Errno) → targets_of table pid a r ≡ o → Moved (moved_away (seen_of table pid a r o))
  moved_where (Err e) is = tt
  moved_where (Ok targets) is = by targets.first refl targets.second refl
    where
      by : (f : Option PlaceTarget) → targets.first ≡ f → (g : Option PlaceTarget) → targets.second ≡ g → Moved (moved_away (seen_so f g))
      by None first g second = tt
      by (Some one) first None second = tt
      by (Some one) first (Some other) second = moved_inside table (mounts_at table pid s p r) pid w one other (together targets is one first other second) a

  pub renamed_inside : Moved (changes_at table pid s p r)
  renamed_inside =
      let told = told_at table pid s p r in
      let k = known image_layout pid a in
      let row = carried_out (operation pid r told k) (memory_of pid a) in
      at_zero table (mounts_at table pid s p r) pid w (answers_zero row.reply.outcome) (prospect r told k) row.reply.changes ((foreseen_calls_make_it pid r told k refl).changes (memory_of pid a)) (moved_where (targets_of table pid a r) refl)

pub path_calls_move_inside : PathCallsMoveInside
path_calls_move_inside table made pid no_shelf s p tags (call.Renameat2 olddir old newdir new) c calm = renamed_inside table made pid no_shelf s p tags olddir old newdir new c calm
path_calls_move_inside table made pid no_shelf s p tags r c calm =
    stay_inside table (mounts_at table pid s p r) pid (changes_at table pid s p r) (written_at table pid s p r)
    (others_move_nothing pid (told_at table pid s p r) (known image_layout pid (decoded_in pid p s)) (memory_of pid (decoded_in pid p s)) r refl)
