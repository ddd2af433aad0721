-- Calls in two states that match.
use Rattle.std.proofs.Common.{◌≡◌, ℕ, true, Option, Some, None, refl, sym, ap, subst, ◌∙◌}
use Rattle.std.specs.Prelude.{false, IsSome, List}
use Rattle.std.specs.List.{find}
use Rattle.std.specs.Option.{option_map, option_map_or}
use Rattle.std.proofs.lemmas.Option.{same_Some}
use Rattle.pt_results.specs.rv_mem.Actions.{AreEqualUnmarked}
use Rattle.pt_results.specs.rv_mem.Layout.{layout_of}
use Rattle.pt_results.specs.rv_mem.Memory.{Memory}
use Rattle.pt_results.specs.rv_mem.Pages.{IsPlaced, IsWhole}
use Rattle.pt_results.proofs.rv_mem.LayoutLemmas.{layout_alike}
use Rattle.pt_results.specs.pt_bind.Tags.{TagTable}
use Rattle.law_places.specs.kr_view.View.{Row, plain}
use Rattle.pt_results.specs.kr_calls.declared.request.Request.{Request}
use Rattle.law_places.specs.kr_model.Applied.{Mounts, all_applied, images, with_image, with_living}
use Rattle.law_places.specs.kr_model.Bare.{pins_of}
use Rattle.law_places.specs.kr_model.Known.{known}
use Rattle.law_places.specs.kr_model.Lawful.{RiseFrom}
use Rattle.law_places.specs.kr_model.Operation.{operation}
use Rattle.law_places.specs.kr_model.Reply.{Reply}
use Rattle.law_places.specs.kr_model.Seen.{Seen}
use Rattle.law_places.specs.kr_model.State.{Image, Process, State, image_layout, is_pid, process}
use Rattle.law_places.proofs.kr_model.CallLemmas.{calls-alike}
use Rattle.kr_core.specs.law_lawful.Laws.{CanAllBeMade}
use Rattle.kr_core.proofs.law_allowed.RowLemmas.{StaysLike, stays-like}
use Rattle.kr_core.specs.kr_seen.Carrying.{after_row, memory_of, no_memory, with_memory, with_memory_of}
use Rattle.kr_core.proofs.kr_seen.CarryLemmas.{agree}
use Rattle.kr_core.specs.kr_steps.Computing.{computed}
use Rattle.kr_core.specs.kr_steps.Settling.{settled}
use Rattle.law_places.specs.Matching.{IsMatch}
use Rattle.law_turns.specs.Changing.{all_tags_made}
use Rattle.law_turns.specs.Operating.{CallsKeepMatches, IsCalmCall, IsCarriedAlike, behind, done_in, written_in}
use Rattle.law_turns.proofs.ImageLemmas.{given}
use Rattle.law_turns.proofs.KeepLemmas.{moves_keep_matches}
use Rattle.law_turns.proofs.MatchLemmas.{match_computed, pids_in, same_pids}
use Rattle.law_turns.proofs.RunLemmas.{lives_too}
use Rattle.law_turns.proofs.SettleLemmas.{match_settled}

-- another memory alone is another memory beside the caller's own registers
pub with_own_registers : (pid : ℕ) (memory : Memory) (next : ℕ) (s : State ℕ Image) (p : Process ℕ Image) → RiseFrom 2 next (pids_in s.living) → process pid s ≡ Some p → with_memory_of pid memory s ≡ computed pid p.image.regs memory s
with_own_registers pid memory next s p rise lives = ap (λ ps. with_living (λ _. ps) s) (agree pid (with_image (with_memory memory)) (given pid p.image.regs memory) 2 next s.living rise same)
  where
    same : (q : Process ℕ Image) → find (is_pid pid) s.living ≡ Some q → with_image (with_memory memory) q ≡ given pid p.image.regs memory q
    same q e = ap (λ (x : Process ℕ Image). with_image (λ image. record { regs = x.image.regs; memory = memory }) q) (same_Some _ _ (sym e ∙ lives))

module _ (pid : ℕ) (r : Request) (seen : Seen) (table : List Row) (mounts others : Mounts ℕ) (s w : State ℕ Image) (tags : TagTable) (c : IsCalmCall pid r seen table mounts others s w) (m : IsMatch table tags s w)
    (p q : Process ℕ Image) (lives : process pid s ≡ Some p) (also : process pid w ≡ Some q) where
  same_regs : p.image.regs ≡ q.image.regs
  same_regs = same_Some _ _ (sym (ap (option_map (λ p. p.image.regs)) lives) ∙ m.images.registers pid ∙ ap (option_map (λ p. p.image.regs)) also)

  mine : memory_of pid s ≡ p.image.memory
  mine = ap (λ o. option_map_or (λ (p : Process ℕ Image). p.image.memory) o no_memory) lives

  theirs : memory_of pid w ≡ q.image.memory
  theirs = ap (λ o. option_map_or (λ (p : Process ℕ Image). p.image.memory) o no_memory) also

  memories : AreEqualUnmarked (memory_of pid s).pages (memory_of pid w).pages
  memories =
      subst (λ (x : Memory). AreEqualUnmarked x.pages (memory_of pid w).pages) (sym mine)
      (subst (λ (y : Memory). AreEqualUnmarked p.image.memory.pages y.pages) (sym theirs) (m.images.memories pid p q lives also))

  answered_alike : ((done_in pid r seen s).reply ≡ (done_in pid r seen w).reply) × AreEqualUnmarked (done_in pid r seen s).memory.pages (done_in pid r seen w).memory.pages
  answered_alike = calls-alike ℕ ℕ (pins_of table) (pins_of plain) pid r seen s w (memory_of pid s) (memory_of pid w) c.kind m.bares memories c.unread

  stays : StaysLike p.image.memory.pages (done_in pid r seen s).memory.pages
  stays =
      let own = m.placed.lawful.processes pid p lives in
      subst (λ (x : Memory). StaysLike x.pages (done_in pid r seen s).memory.pages) mine
      (stays-like (operation pid r seen (known image_layout pid s)) (memory_of pid s) (subst (λ (x : Memory). IsWhole x.pages) (sym mine) own.whole) (subst (λ (x : Memory). IsPlaced x.pages) (sym mine) own.paged))

  written : IsMatch table tags (written_in pid r seen s) (written_in pid r seen w)
  written =
      let one = (done_in pid r seen s).memory in
      let other = (done_in pid r seen w).memory in
      let laid : layout_of other.pages ≡ layout_of q.image.memory.pages = sym (layout_alike one.pages other.pages answered_alike.1) ∙ stays.layout ∙ layout_alike p.image.memory.pages q.image.memory.pages (m.images.memories pid p q lives also) in
      let rise = m.placed.lawful.pids.living in
      let other_rise = subst (RiseFrom 2 s.next_pid) (same_pids table tags s w m) rise in
      let both = match_computed table tags s w m pid p q lives also p.image.regs one other answered_alike.1 stays laid in
      subst (λ t. IsMatch table tags t (written_in pid r seen w)) (sym (with_own_registers pid one s.next_pid s p rise lives))
      (subst (λ t. IsMatch table tags (computed pid p.image.regs one s) t) (sym (with_own_registers pid other s.next_pid w q other_rise also))
      (subst (λ regs. IsMatch table tags (computed pid p.image.regs one s) (computed pid regs other w)) same_regs both))

  pub carried_alike : IsCarriedAlike pid r seen table mounts others s w tags
  carried_alike = record {
    replies = answered_alike.0;
    matches =
        subst (λ (reply : Reply). IsMatch table made (behind pid r seen mounts s) (settled pid reply.outcome (all_applied images others pid reply.changes (written_in pid r seen w)))) answered_alike.0
        (match_settled table made pid (done_in pid r seen s).reply.outcome (after_row mounts pid (done_in pid r seen s) s) (all_applied images others pid (done_in pid r seen s).reply.changes (written_in pid r seen w))
        (moves_keep_matches table mounts others pid (done_in pid r seen s).reply.changes (written_in pid r seen s) (written_in pid r seen w) tags c.same c.inside c.calm c.new c.allowed.made
        (subst (λ (reply : Reply). CanAllBeMade (λ m. m) plain others pid (written_in pid r seen w) reply.changes) (sym answered_alike.0) c.also_allowed.made) c.also_allowed.before written));
  }
    where
      made : TagTable
      made = all_tags_made table mounts pid (written_in pid r seen s) (done_in pid r seen s).reply.changes tags

pub calls_keep_matches : CallsKeepMatches
calls_keep_matches pid r seen table mounts others s w tags c m = by (process pid s) refl c.lives
  where
    by : (o : Option (Process ℕ Image)) → process pid s ≡ o → IsSome o → IsCarriedAlike pid r seen table mounts others s w tags
    by None none some = absurd (differ some)
      where
        differ : false ≡ true → ⊥
        differ e = cc
    by (Some p) lives some = let q = lives_too table tags pid s w p m lives in carried_alike pid r seen table mounts others s w tags c m p q.0 lives q.1
