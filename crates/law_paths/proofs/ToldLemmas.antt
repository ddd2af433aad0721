-- What the plain kernel is told along the paths that the tracer leaves is what it is told at the first stop of the same paths; so a call
-- of which that is what the kernel with mounts is told is told along.
use Rattle.std.proofs.Common.{◌≡◌, ◌⊎◌, ℕ, true, refl, sym, ap, subst, ◌∙◌, ℤ}
use Rattle.law_plans.specs.pr_base.declared.errno.Errno.{Errno}
use Rattle.law_plans.specs.rv_mem.Memory.{Memory}
use Rattle.law_plans.specs.rv_mem.Pages.{HoldsBytes}
use Rattle.law_plans.specs.rv_mem.declared.regs.Regs.{Regs}
use Rattle.law_stops.specs.pt_results.Notes.{noted, tags_after}
use Rattle.law_plans.specs.kr_view.View.{plain}
use Rattle.law_stops.specs.kr_calls.CallTable.{Told, ToldNothing, line}
use Rattle.law_stops.specs.kr_calls.Decoding.{decoding}
use Rattle.law_stops.specs.kr_calls.declared.request.Request.{Request}
use Rattle.law_stops.specs.kr_calls.declared.request.Request.TheVariants as call
use Rattle.law_stops.specs.law_allowed.Told.{mounts_walked}
use Rattle.law_stops.proofs.law_allowed.RowLemmas.{StaysLike, stays-like}
use Rattle.law_plans.specs.kr_seen.Carrying.{memory_of}
use Rattle.law_plans.specs.kr_model.Bare.{bare_mounts}
use Rattle.law_plans.specs.kr_model.Known.{known}
use Rattle.law_plans.specs.kr_model.Operation.{operation}
use Rattle.law_plans.specs.kr_model.Reply.{refuse}
use Rattle.law_plans.specs.kr_model.State.{Image, Process, State, image_layout}
use Rattle.law_plans.specs.kr_model.Walks.{seen, targets_of}
use Rattle.law_plans.specs.kr_model.declared.outcome.Outcome.TheVariants.{Answer}
use Rattle.law_stops.specs.kr_turns.Target.{LooksUpOne}
use Rattle.law_plans.specs.pt_faker.Stopping.{after_request}
use Rattle.law_plans.specs.pt_tracer.Planning.{led_of, texts_at}
use Rattle.law_plans.specs.pt_tracer.Watched.{Tracing}
use Rattle.law_stops.specs.law_kept.ImagePaths.{is_told_of_paths, tells_paths}
use Rattle.law_plans.specs.law_places.Changes.{NewPlacesStand}
use Rattle.law_plans.specs.law_places.Keeping.{MovesStayInside}
use Rattle.law_plans.specs.law_walks.BareFacts.{AreSeenAlike}
use Rattle.law_stops.specs.law_turns.Changing.{all_tags_made}
use Rattle.law_stops.specs.law_turns.Operating.{done_in, written_in}
use Rattle.law_stops.specs.law_turns.PathCalls.{HasPath, TellsPath, tags_noted}
use Rattle.law_stops.proofs.law_turns.BringLemmas.{path_calls_bring_standing}
use Rattle.law_stops.proofs.law_turns.MoveLemmas.{path_calls_move_inside}
use Rattle.law_stops.proofs.law_turns.NoteLemmas.{path_calls_are_noted}
use Rattle.law_stops.specs.Noting.{told_answer}
use Rattle.law_stops.specs.Scene.{Scene, at_first_stop}
use Rattle.law_stops.specs.Swapping.{IsToldAlong, at_entry}
use Rattle.law_stops.proofs.CallLemmas as before
use Rattle.law_stops.proofs.EnterLemmas as enter
use Rattle.law_paths.proofs.HereLemmas as here
use Rattle.law_paths.proofs.IndexLemmas.{index_walked, is_walked}
use Rattle.law_paths.proofs.NoteLemmas.{notes_agree}
use Rattle.law_paths.proofs.HereLemmas.{PathCall}

tells_path : (t : Told) → TellsPath t → tells_paths t ≡ true
tells_path ToldNothing kind = absurd kind
tells_path _ kind = refl

pub is_told : (r : Request) → HasPath r → is_told_of_paths r ≡ true
is_told (call.Execve path args env) kind = absurd kind
is_told r kind = tells_path (line r).told kind

module _ {S : Type 0} {scene : Scene S} (path_call : PathCall scene) where
  open scene use {table, made, pid, traced as n}
  open path_call use {callers, request as r, calm, reads, kind}
  open path_call.callers use {comes as c, also_caller as q, also_lives as also}

  abbrev at : State ℕ Image
  at = here.at path_call

  abbrev w2 : State ℕ Image
  w2 = here.w2 path_call

  abbrev x : Tracing
  x = n.watcher

  abbrev s1 : State ℕ Image
  s1 = before.s1 callers

  abbrev p1 : Process ℕ Image
  p1 = before.p1 callers

  -- ---- the tags

  noted_alike : (value : ℤ) → (done_in pid r (seen table pid at r) at).reply.outcome ≡ Answer value
      → all_tags_made table (mounts_walked (targets_of table pid at r)) pid (written_in pid r (seen table pid at r) at) (done_in pid r (seen table pid at r) at).reply.changes x.tags
      ≡ tags_after x.tags pid (noted r (led_of (texts_at x.bindings x.tags (at_first_stop scene)) pid r).index (told_answer value))
  noted_alike value outcome =
      path_calls_are_noted table made pid s1 p1 x.tags r (index_walked table pid at r) (here.calls path_call) (is_walked table pid at r)
      ∙ ap (λ o. tags_noted pid r (index_walked table pid at r) o x.tags) outcome
      ∙ ap (tags_after x.tags pid) (notes_agree table x.tags at w2 pid (here.together path_call) (known image_layout pid at) (memory_of pid at) r value kind outcome)
      ∙ ap (λ texts. tags_after x.tags pid (noted r (led_of texts pid r).index (told_answer value)))
      (sym (ap (texts_at x.bindings x.tags) (here.stop_is path_call) ∙ here.texts_are path_call))

  -- ---- the plain kernel behind the first stop

  module _ (r2 : Request) (regs3 : Regs) (memory3 : Memory) (like : StaysLike q.image.memory.pages memory3.pages) (bytes : HoldsBytes memory3.pages) (leaves : enter.Leaves callers regs3 memory3 like bytes r)
      (told : operation pid r (seen table pid at r) (known image_layout pid at) ≡ operation pid r2 (seen plain pid w2 r2) (known image_layout pid at))
      (mounts : (bare_mounts (mounts_walked (targets_of table pid at r)) ≡ bare_mounts (mounts_walked (targets_of plain pid w2 r2))) ⊎ ((e : Errno) × (operation pid r (seen table pid at r) (known image_layout pid at) ≡ refuse e)))
      (looked : LooksUpOne (line r).told → seen table pid at r ≡ seen plain pid w2 r2) where
    read : StaysLike q.image.memory.pages (here.decoded_memory path_call).pages
    read = let own = c.also_lasts.lawful.processes pid q also in stays-like (decoding q.image.regs) q.image.memory own.whole own.paged

    sights : AreSeenAlike pid w2 (after_request (at_entry scene r)).state r2
    sights =
        subst (λ t. AreSeenAlike pid w2 t r2) (sym (enter.there_is callers regs3 memory3 like bytes r leaves ∙ enter.decoded_is callers regs3 memory3 like bytes))
        (enter.sights_with callers q.image.regs regs3 _ _ read (enter.like_decoded callers regs3 memory3 like bytes) r2)

    pub told_along : IsToldAlong scene r r2
    told_along =
        let here_is = sym (before.at_call_is callers) in
        let calls = here.calls path_call in
        record {
          decoded = reads;
          kind = is_told r kind;
          acts = subst (λ t. operation pid r (seen table pid t r) (known image_layout pid t) ≡ operation pid r2 (seen plain pid (after_request (at_entry scene r)).state r2) (known image_layout pid t)) here_is
              (told ∙ ap (λ seen. operation pid r2 seen (known image_layout pid at)) sights.told);
          mounts = subst (λ t. (bare_mounts (mounts_walked (targets_of table pid t r)) ≡ bare_mounts (mounts_walked (targets_of plain pid (after_request (at_entry scene r)).state r2))) ⊎ ((e : Errno) × (operation pid r (seen table pid t r) (known image_layout pid t) ≡ refuse e))) here_is
              (subst (λ targets. (bare_mounts (mounts_walked (targets_of table pid at r)) ≡ bare_mounts (mounts_walked targets)) ⊎ ((e : Errno) × (operation pid r (seen table pid at r) (known image_layout pid at) ≡ refuse e))) sights.targets mounts);
          looked = subst (λ t. LooksUpOne (line r).told → seen table pid t r ≡ seen plain pid (after_request (at_entry scene r)).state r2) here_is (λ looks. looked looks ∙ sights.told);
          inside = subst (λ t. (let d = done_in pid r (seen table pid t r) t in MovesStayInside table (mounts_walked (targets_of table pid t r)) pid (written_in pid r (seen table pid t r) t) d.reply.changes)) here_is
              (path_calls_move_inside table made pid (before.lacks callers) s1 p1 x.tags r calls (before.calm_call callers calm));
          new = subst (λ t. (let d = done_in pid r (seen table pid t r) t in NewPlacesStand table (mounts_walked (targets_of table pid t r)) pid (written_in pid r (seen table pid t r) t) d.reply.changes)) here_is
              (path_calls_bring_standing table made pid s1 p1 x.tags r calls);
          tags = subst (λ t. (value : ℤ) → (done_in pid r (seen table pid t r) t).reply.outcome ≡ Answer value
              → all_tags_made table (mounts_walked (targets_of table pid t r)) pid (written_in pid r (seen table pid t r) t) (done_in pid r (seen table pid t r) t).reply.changes x.tags
              ≡ tags_after x.tags pid (noted r (led_of (texts_at x.bindings x.tags (at_first_stop scene)) pid r).index (told_answer value))) here_is noted_alike;
        }
