-- Calls without a path, in two states that match.
use Rattle.std.proofs.Common.{◌≡◌, ◌≢◌, ℕ, Bool, true, false, cond, List, [], ◌∷◌, Option, Some, None, Result, Ok, refl, sym, ap, subst, ◌∙◌}
use Rattle.std.specs.Prelude.{◌&&◌, ◌||◌, IsSome, ℤ}
use Rattle.std.specs.List.{list_all}
use Rattle.std.specs.Option.{option_map_or}
use Rattle.std.proofs.lemmas.Bool.{and_parts, or_parts}
use Rattle.kr_core.specs.pr_base.declared.errno.Errno.{Errno}
use Rattle.pt_results.specs.rv_mem.Actions.{carried_out}
use Rattle.pt_results.specs.rv_mem.Memory.{Memory}
use Rattle.pt_results.specs.rv_mem.Pages.{HoldsBytes, IsPlaced, IsWhole}
use Rattle.pt_results.specs.pt_bind.Tags.{TagTable}
use Rattle.law_places.specs.kr_view.View.{Row, plain}
use Rattle.pt_results.specs.kr_calls.CallTable.{Told, ToldNothing, line, paths_of}
use Rattle.pt_results.specs.kr_calls.PathTable.{PathUse, path_at, path_from}
use Rattle.pt_results.specs.kr_calls.declared.request.Request.{Request}
use Rattle.pt_results.specs.kr_calls.declared.request.Request.TheVariants as call
use Rattle.law_places.specs.kr_model.Applied.{Mounts, applied, images}
use Rattle.law_places.specs.kr_model.Bare.{bare_mounts}
use Rattle.law_places.specs.kr_model.Change.{Change, ChangeDirectory, MoveName, OfDescriptor, OfDirectory, OfFound, OpenFile, ReplaceExecutable}
use Rattle.law_places.specs.kr_model.DirectoryRows.{fchdir_row}
use Rattle.law_places.specs.kr_model.Known.{Known, known}
use Rattle.law_places.proofs.kr_model.KnownLemmas.{known-bare}
use Rattle.law_places.specs.kr_model.Operation.{operation}
use Rattle.law_places.specs.kr_model.Seen.{NoPath, Seen}
use Rattle.law_places.specs.kr_model.State.{Image, Process, State, image_layout}
use Rattle.law_places.specs.kr_model.Walks.{Targets, and_then, seen, seen_of, target_at, targets_of, told_by}
use Rattle.law_places.specs.kr_model.declared.outcome.Outcome.TheVariants.{Ended}
use Rattle.kr_core.specs.law_allowed.Allowed.{LeavesLawful}
use Rattle.kr_core.specs.law_allowed.Told.{mounts_walked}
use Rattle.kr_core.proofs.law_allowed.RowLemmas.{StaysLike, stays-like}
use Rattle.kr_core.specs.kr_seen.Carrying.{memory_of}
use Rattle.law_places.specs.kr_calm.Rules.{changes_break_3, changes_break_4, changes_break_5}
use Rattle.law_places.specs.kr_calm.Laws.{leaves_mark}
use Rattle.law_places.proofs.kr_calm.UnjudgedLemmas.{calls-leave}
use Rattle.kr_core.specs.kr_steps.Calls.{IsNoExec}
use Rattle.kr_core.specs.kr_steps.Computing.{computed}
use Rattle.kr_core.specs.kr_turns.Breaking.{decoded_rule, operated_rule, plain_rule, plain_rule_of}
use Rattle.kr_core.specs.kr_turns.PlainCall.{plain_call}
use Rattle.kr_core.proofs.kr_turns.PlainLemmas.{no-exec-rule}
use Rattle.law_places.specs.Changes.{NewPlaceStands, NewPlacesStand}
use Rattle.law_places.specs.Matching.{AreTagged, IsMatch}
use Rattle.law_places.specs.Standing.{PlacesStand}
use Rattle.law_places.specs.Keeping.{move_nothing, moves_nothing}
use Rattle.law_places.proofs.KeepLemmas.{stay_inside}
use Rattle.law_turns.specs.Calls.{CameAlike, decoded_by, decoded_in, tags_behind}
use Rattle.law_turns.specs.Operating.{IsCalmCall, done_in, written_in}
use Rattle.law_turns.specs.Lasting.{CanBeCalled}
use Rattle.law_turns.specs.Pathless.{IsPathless, PathlessCallsComeAlike, TellsNothing}
use Rattle.law_turns.proofs.CallLemmas.{calls_come_alike}
use Rattle.law_turns.proofs.CalledLemmas.{decoded_holds, decoded_lasts, decoded_lives, decoded_memory, decoded_process, is_allowed}
use Rattle.law_turns.proofs.EnterLemmas.{fchdir_enters}
use Rattle.law_turns.proofs.LineLemmas.{all_bring, bring_nothing, brings_nothing, enters_open}
use Rattle.law_turns.proofs.ImageLemmas.{bare_computed, places_computed, tags_computed}
use Rattle.law_turns.proofs.OperateLemmas.{with_own_registers}
use Rattle.law_turns.proofs.RunLemmas.{decoded_alike}
use Rattle.law_turns.proofs.UnreadLemmas.{calm_unread}
use Rattle.law_places.specs.kr_calm.declared.rule.Rule.{Rule}
use Rattle.law_places.specs.kr_calm.declared.rule.Rule.TheVariants.{SearchStays, ShortNames, SourcesStay, Unread, UsedStay, WithinMounts}

-- ---- what such a call is

pub no_exec : (r : Request) → IsPathless r → IsNoExec r
no_exec (call.Execve path args env) kind = absurd kind
no_exec _ kind = tt

entering : (r : Request) → enters_open r ≡ true → (fd : ℤ) × (r ≡ call.Fchdir fd)
entering (call.Fchdir fd) e = (fd, refl)
entering _ e = absurd cc

-- it has no targets, and is told of none
pub no_paths : (t : Told) → TellsNothing t → (k : ℕ) → path_from 0 (paths_of t) k ≡ None
no_paths ToldNothing kind k = refl
no_paths _ kind k = absurd kind

module _ (rows : List Row) (pid : ℕ) (s : State ℕ Image) where
  abbrev targets_from : Option PathUse → Option PathUse → Result Targets Errno
  targets_from first second = and_then (target_at rows pid s first) (λ first. and_then (target_at rows pid s second) (λ second. Ok (record { first = first; second = second })))

  pub no_targets : (r : Request) → IsPathless r → targets_of rows pid s r ≡ Ok (record { first = None; second = None })
  no_targets r kind = ap (λ u. targets_from u (path_at r 1)) (no_paths (line r).told kind 0) ∙ ap (targets_from None) (no_paths (line r).told kind 1)

  tells_none : (t : Told) → TellsNothing t → (targets : Targets) → told_by rows pid s t targets ≡ NoPath
  tells_none ToldNothing kind targets = refl
  tells_none _ kind targets = absurd kind

  pub told_none : (r : Request) → IsPathless r → seen rows pid s r ≡ NoPath
  told_none r kind = ap (seen_of rows pid s r) (no_targets r kind) ∙ tells_none (line r).told kind (record { first = None; second = None })

-- ---- changes that move no name and take no mount from a descriptor

still_one : (c : Change) → brings_nothing c ≡ true → moves_nothing c ≡ true
still_one (MoveName dir name to new) brings = absurd cc
still_one _ brings = refl

still_all : (cs : List Change) → bring_nothing cs ≡ true → move_nothing cs ≡ true
still_all [] brings = refl
still_all (c ∷ cs) brings = let parts = and_parts (brings_nothing c) (bring_nothing cs) brings in ap (λ b. b && move_nothing cs) (still_one c parts.0) ∙ still_all cs parts.1

-- none of these calls gives its caller another program
module _ (k : Known) where
  pub pathless_leave : (pid : ℕ) (r : Request) (told : Seen) (memory : Memory) → IsPathless r → (carried_out (operation pid r told k) memory).reply.outcome ≢ Ended → list_all leaves_mark (carried_out (operation pid r told k) memory).reply.changes ≡ true
  pathless_leave pid r told memory kind goes = calls-leave pid r told k memory goes

-- where no mount is found, none of their new places is in one
module _ (table : List Row) (pid : ℕ) (mounts : Mounts ℕ) (nothing_found : mounts.found ≡ None) (no_directory : mounts.directory ≡ None) where
  never : {A B : Type 0} {o : Option A} {a : A} → o ≡ None → o ≡ Some a → B
  never none some = absurd (clash (sym none ∙ some))
    where
      clash : {A : Type 0} {a : A} → None ≡ Some a → ⊥
      clash e = cc

  new_one : (c : Change) (s : State ℕ Image) → brings_nothing c ≡ true → NewPlaceStands table mounts pid s c
  new_one (OpenFile fd cloexec OfFound o) s brings = λ m p e there. never nothing_found e
  new_one (OpenFile fd cloexec OfDirectory o) s brings = λ m p e there. never no_directory e
  new_one (OpenFile fd cloexec (OfDescriptor n) o) s brings = absurd cc
  new_one (ChangeDirectory OfFound host) s brings = λ m e. never nothing_found e
  new_one (ChangeDirectory OfDirectory host) s brings = λ m e. never no_directory e
  new_one (ChangeDirectory (OfDescriptor n) host) s brings = absurd cc
  new_one (ReplaceExecutable OfFound host dir name) s brings = λ m e. never nothing_found e
  new_one (ReplaceExecutable OfDirectory host dir name) s brings = λ m e. never no_directory e
  new_one (ReplaceExecutable (OfDescriptor n) host dir name) s brings = absurd cc
  new_one _ s brings = tt

  new_all : (cs : List Change) (s : State ℕ Image) → bring_nothing cs ≡ true → NewPlacesStand table mounts pid s cs
  new_all [] s brings = tt
  new_all (c ∷ cs) s brings = let parts = and_parts (brings_nothing c) (bring_nothing cs) brings in (new_one c s parts.0, new_all cs (applied images mounts pid c s) parts.1)

-- ---- the calm rules, of which none is broken

pub none_of_all : (first second third fourth fifth sixth : Bool)
    → cond {A = Option Rule} first (Some Unread) (cond second (Some WithinMounts) (cond third (Some SourcesStay) (cond fourth (Some UsedStay) (cond fifth (Some SearchStays) (cond sixth (Some ShortNames) None))))) ≡ None → (first ≡ false) × (third ≡ false) × (fourth ≡ false) × (fifth ≡ false)
none_of_all false false false false false false e = (refl, refl, refl, refl)
none_of_all false false false false false true e = absurd cc
none_of_all true second third fourth fifth sixth e = absurd cc
none_of_all false true third fourth fifth sixth e = absurd cc
none_of_all false false true fourth fifth sixth e = absurd cc
none_of_all false false false true fifth sixth e = absurd cc
none_of_all false false false false true sixth e = absurd cc

-- ---- in both

module _ (table : List Row) (made pid : ℕ) (no_shelf : Bool) (s w : State ℕ Image) (p q : Process ℕ Image) (tags : TagTable) (r : Request) (m : IsMatch table tags s w) (can : CanBeCalled table made pid s p) (also : CanBeCalled plain made pid w q)
    (is : (decoded_by p).reply ≡ Ok r) (kind : IsPathless r) (calm : plain_rule 1 table pid no_shelf s ≡ None) where
  abbrev at : State ℕ Image
  at = decoded_in pid p s

  abbrev other_at : State ℕ Image
  other_at = decoded_in pid q w

  abbrev told : Seen
  told = seen table pid at r

  abbrev mounts : Mounts ℕ
  mounts = mounts_walked (targets_of table pid at r)

  abbrev changes : List Change
  changes = (done_in pid r told at).reply.changes

  calm_row : operated_rule 1 table pid no_shelf r at ≡ None
  calm_row =
      no-exec-rule 1 table pid no_shelf at r (no_exec r kind)
      ∙ sym (ap (λ o. option_map_or (plain_rule_of 1 table pid no_shelf s) o None) can.lives ∙ ap (λ reply. decoded_rule 1 table pid no_shelf reply at) is)
      ∙ calm

  rules : ((done_in pid r told at).memory.read_marked || no_shelf ≡ false) × (changes_break_3 images mounts pid table changes (written_in pid r told at) ≡ false)
      × (changes_break_4 images mounts pid changes (written_in pid r told at) ≡ false) × (changes_break_5 images mounts pid table changes (written_in pid r told at) ≡ false)
  rules = none_of_all _ _ _ _ _ _ calm_row

  row_unread : (done_in pid r told at).memory.read_marked ≡ false
  row_unread = (or_parts (done_in pid r told at).memory.read_marked no_shelf rules.0).0

  decoded_unread : (decoded_by p).memory.read_marked ≡ false
  decoded_unread = calm_unread table pid no_shelf s p can.lives calm

  abbrev written : State ℕ Image
  written = written_in pid r told at

  row_stays : StaysLike (decoded_by p).memory.pages (done_in pid r told at).memory.pages
  row_stays =
      let x = (decoded_lasts table made pid s p can).lawful.processes pid (decoded_process table made pid s p can) (decoded_lives table made pid s p can) in
      subst (λ (memory : Memory). StaysLike memory.pages (done_in pid r told at).memory.pages) (decoded_memory table made pid s p can)
      (stays-like (operation pid r told (known image_layout pid at)) (memory_of pid at) (subst (λ (y : Memory). IsWhole y.pages) (sym (decoded_memory table made pid s p can)) x.whole) (subst (λ (y : Memory). IsPlaced y.pages) (sym (decoded_memory table made pid s p can)) x.paged))

  -- and what is known there is the same
  pub known_written : known image_layout pid written ≡ known image_layout pid at
  known_written =
      let none : ℕ → ℕ = λ i. 0 in
      let own = (decoded_lasts table made pid s p can).lawful in
      ap (known image_layout pid) (with_own_registers pid (done_in pid r told at).memory at.next_pid at (decoded_process table made pid s p can) own.pids.living (decoded_lives table made pid s p can))
      ∙ known-bare ℕ none pid (computed pid p.image.regs (done_in pid r told at).memory at)
      ∙ ap (known (λ m. m) pid) (bare_computed pid p.image.regs (done_in pid r told at).memory none at.next_pid at (decoded_process table made pid s p can) own.pids.living (decoded_lives table made pid s p can) row_stays.layout)
      ∙ sym (known-bare ℕ none pid at)

  -- all places stand where the row has read and written
  written_stands : PlacesStand table written
  written_stands =
      let d = decoded_alike table tags pid s w p q m can.lives also.lives decoded_unread in
      let own = (decoded_lasts table made pid s p can).lawful in
      subst (PlacesStand table) (sym (with_own_registers pid (done_in pid r told at).memory at.next_pid at (decoded_process table made pid s p can) own.pids.living (decoded_lives table made pid s p can)))
      (places_computed pid p.image.regs (done_in pid r told at).memory table at (decoded_process table made pid s p can) (decoded_lives table made pid s p can) d.matches.placed row_stays)

  -- and each slot's tag is the index of its mount
  pub written_tagged : AreTagged table written tags
  written_tagged =
      let d = decoded_alike table tags pid s w p q m can.lives also.lives decoded_unread in
      let own = (decoded_lasts table made pid s p can).lawful in
      subst (λ t. AreTagged table t tags) (sym (with_own_registers pid (done_in pid r told at).memory at.next_pid at (decoded_process table made pid s p can) own.pids.living (decoded_lives table made pid s p can)))
      (tags_computed pid p.image.regs (done_in pid r told at).memory table at (decoded_process table made pid s p can) (decoded_lives table made pid s p can) tags d.matches.tagged)

  -- nothing is brought into use but what stands
  brings : (move_nothing changes ≡ true) × NewPlacesStand table mounts pid written changes
  brings = by (enters_open r) refl
    where
      by : (b : Bool) → enters_open r ≡ b → (move_nothing changes ≡ true) × NewPlacesStand table mounts pid written changes
      by false enters =
          let bring = all_bring (known image_layout pid at) pid r told (memory_of pid at) kind enters in
          (still_all changes bring, new_all table pid mounts (ap (λ t. (mounts_walked t).found) (no_targets table pid at r kind)) (ap (λ t. (mounts_walked t).directory) (no_targets table pid at r kind)) changes written bring)
      by true enters =
          let fd = entering r enters in
          subst (λ (cs : List Change). (move_nothing cs ≡ true) × NewPlacesStand table mounts pid written cs)
          (ap (λ k. (carried_out (fchdir_row k fd.0) (memory_of pid at)).reply.changes) known_written ∙ sym (ap (λ r. (carried_out (operation pid r told (known image_layout pid at)) (memory_of pid at)).reply.changes) fd.1))
          (fchdir_enters table mounts pid written written_stands fd.0 (memory_of pid at) (subst (λ (x : Memory). HoldsBytes x.pages) (sym (decoded_memory table made pid s p can)) (decoded_holds table made pid s p can)))

  is_calm : IsCalmCall pid r told table mounts (mounts_walked (targets_of plain pid other_at r)) at other_at
  is_calm = record {
    kind = no_exec r kind;
    lives = subst IsSome (sym (decoded_lives table made pid s p can)) refl;
    same = ap (λ t. bare_mounts (mounts_walked t)) (no_targets table pid at r kind ∙ sym (no_targets plain pid other_at r kind));
    unread = row_unread;
    inside = stay_inside table mounts pid changes written brings.0;
    calm = record { third = rules.1; fourth = rules.2; fifth = rules.3 };
    new = brings.1;
    allowed = is_allowed table made pid s p can r is (no_exec r kind);
    also_allowed =
        subst (λ (x : Seen). LeavesLawful (λ m. m) plain (mounts_walked (targets_of plain pid other_at r)) pid other_at (done_in pid r x other_at)) (told_none plain pid other_at r kind ∙ sym (told_none table pid at r kind))
        (is_allowed plain made pid w q also r (sym requests ∙ is) (no_exec r kind));
  }
    where
      requests : (decoded_by p).reply ≡ (decoded_by q).reply
      requests = (decoded_alike table tags pid s w p q m can.lives also.lives decoded_unread).requests

  came_alike : CameAlike table (tags_behind table pid s w p q tags r) (plain_call table pid s) (plain_call plain pid w)
  came_alike =
      calls_come_alike table pid s w p q tags r (record { matches = m; lives = can.lives; also = also.lives; unread = decoded_unread }) is (no_exec r kind)
      (record { told = told_none table pid at r kind ∙ sym (told_none plain pid other_at r kind); calm = is_calm })

pub pathless_calls_come_alike : PathlessCallsComeAlike
pathless_calls_come_alike table made pid no_shelf s w p q tags r m can also is kind calm = came_alike table made pid no_shelf s w p q tags r m can also is kind calm
