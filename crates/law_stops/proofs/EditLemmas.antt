-- What both watchers edit at the second stop leaves states that match as such.
use Rattle.std.proofs.Common.{◌≡◌, ℕ, Bool, true, false, cond, List, Option, Some, None, refl, sym, ap, subst, ◌∙◌}
use Rattle.std.specs.Prelude.{◌&&◌, ◌==◌, IsSome, get_or, slice_set}
use Rattle.std.specs.Option.{option_map, option_map_or}
use Rattle.std.proofs.lemmas.Option.{same_Some}
use Rattle.law_edits.specs.rv_mem.Actions.{Action, AreEqualUnmarked, carried_out}
use Rattle.law_edits.specs.rv_mem.Memory.{Memory}
use Rattle.law_edits.specs.rv_mem.declared.regs.Regs.{Regs}
use Rattle.law_turns.proofs.rv_mem.ActionLemmas.{reads_alike}
use Rattle.law_turns.specs.pr_base.declared.errno.Errno.TheVariants.{EPERM}
use Rattle.law_edits.specs.pt_bind.Tags.{TagTable}
use Rattle.law_edits.specs.kr_view.View.{Row, plain}
use Rattle.law_edits.specs.kr_model.State.{Image, Process, State, process, with_process}
use Rattle.law_turns.proofs.law_allowed.RowLemmas.{StaysLike, lawful-image, stays-like}
use Rattle.law_turns.specs.kr_steps.Computing.{computed}
use Rattle.law_turns.specs.kr_stops.Stopped.{Stopped, no_image}
use Rattle.law_turns.specs.kr_stops.declared.handed.Handed.{Handed}
use Rattle.law_edits.specs.pt_ident.Identity.{after_exec, refusal}
use Rattle.law_edits.specs.pt_ident.IdentityTable.{identity_at}
use Rattle.law_edits.specs.pt_faker.Carrying.{on_its_memory}
use Rattle.law_edits.specs.pt_faker.Faking.{Faking, after_due, answer_register, forgiven, has_answered_zero, remembered, remembered_of, show_identity, show_owner, stack_register, word_of}
use Rattle.law_edits.specs.pt_faker.Stopping.{memory_at, register_at, with_register}
use Rattle.law_edits.specs.pt_faker.declared.due.Due.{Due}
use Rattle.law_edits.specs.pt_faker.declared.due.Due.TheVariants as due
use Rattle.law_edits.specs.pt_tracer.Watched.{shown_due}
use Rattle.law_turns.proofs.CalledLemmas.{lasts_living}
use Rattle.law_turns.proofs.ImageLemmas.{given}
use Rattle.law_turns.proofs.MatchLemmas.{match_computed}
use Rattle.law_turns.proofs.RunLemmas.{lives_too}
use Rattle.law_stops.proofs.CallLemmas.{own_image}
use Rattle.law_stops.specs.Editing.{BeginningsKeepMatches, EditsKeepMatches, IsEditedAlike, ReadsNoMarkAtBeginning, stop_in}
use Rattle.law_stops.specs.Going.{StandAlike}

module _ (table : List Row) (tags : TagTable) (made pid : ℕ) (s w : State ℕ Image) (p q : Process ℕ Image) (lives : process pid s ≡ Some p) (also : process pid w ≡ Some q) (alike : StandAlike table tags made s w) where
  same_regs : p.image.regs ≡ q.image.regs
  same_regs = same_Some _ _ (sym (ap (option_map (λ p. p.image.regs)) lives) ∙ alike.matches.images.registers pid ∙ ap (option_map (λ p. p.image.regs)) also)

  memories : AreEqualUnmarked p.image.memory.pages q.image.memory.pages
  memories = alike.matches.images.memories pid p q lives also

  mine : StaysLike p.image.memory.pages p.image.memory.pages
  mine = let own = alike.matches.placed.lawful.processes pid p lives in record { whole = own.whole; placed = own.paged; layout = refl }

  yours : StaysLike q.image.memory.pages q.image.memory.pages
  yours = let own = alike.also_lasts.lawful.processes pid q also in record { whole = own.whole; placed = own.paged; layout = refl }

  -- the same registers, and memories that are alike
  pub both_edited : (regs : Regs) (one other : Memory) → AreEqualUnmarked one.pages other.pages → StaysLike p.image.memory.pages one.pages → StaysLike q.image.memory.pages other.pages
      → StandAlike table tags made (computed pid regs one s) (computed pid regs other w)
  both_edited regs one other same like also_like = record {
    matches = match_computed table tags s w alike.matches pid p q lives also regs one other same like also_like.layout;
    lasts = record { lawful = lawful-image (λ k. k) table s alike.lasts.lawful pid p lives one like (λ _. regs); lasts = lasts_living made (with_process pid (given pid regs one)) s alike.lasts.lasts };
    also_lasts = record { lawful = lawful-image (λ k. k) plain w alike.also_lasts.lawful pid q also other also_like (λ _. regs); lasts = lasts_living made (with_process pid (given pid regs other)) w alike.also_lasts.lasts };
  }

  module _ (handed other : Handed) where
    abbrev here : Stopped
    here = stop_in pid s handed

    abbrev there : Stopped
    there = stop_in pid w other

    same_register : (k : ℕ) → register_at here k ≡ register_at there k
    same_register k =
        ap (λ (image : Image). get_or image.regs.x k 0) (own_image pid s p lives)
        ∙ ap (λ (regs : Regs). get_or regs.x k 0) same_regs
        ∙ sym (ap (λ (image : Image). get_or image.regs.x k 0) (own_image pid w q also))

    -- a register that is set in both
    abbrev with_word : ℕ → ℕ → Regs → Regs
    with_word k v regs = record { x = slice_set regs.x k v; pc = regs.pc }

    registers_set : (k v : ℕ) → StandAlike table tags made (with_register k v here).state (with_register k v there).state
    registers_set k v =
        subst (λ (image : Image). StandAlike table tags made (computed pid (with_word k v image.regs) image.memory s) (with_register k v there).state) (sym (own_image pid s p lives))
        (subst (λ (image : Image). StandAlike table tags made (computed pid (with_word k v p.image.regs) p.image.memory s) (computed pid (with_word k v image.regs) image.memory w)) (sym (own_image pid w q also))
        (subst (λ (regs : Regs). StandAlike table tags made (computed pid (with_word k v p.image.regs) p.image.memory s) (computed pid (with_word k v regs) q.image.memory w)) same_regs
        (both_edited (with_word k v p.image.regs) p.image.memory q.image.memory memories mine yours)))

    -- what is done in both memories
    module _ (action : Action (Unit {0})) (unread : (carried_out action (memory_at here)).memory.read_marked ≡ false) where
      abbrev left : Memory → Memory
      left memory = (carried_out action memory).memory

      memories_edited : StandAlike table tags made (on_its_memory action here).state (on_its_memory action there).state
      memories_edited =
          let clean : (left p.image.memory).read_marked ≡ false = ap (λ (image : Image). (left image.memory).read_marked) (sym (own_image pid s p lives)) ∙ unread in
          let both = reads_alike action p.image.memory q.image.memory memories clean in
          subst (λ (image : Image). StandAlike table tags made (computed pid image.regs (left image.memory) s) (on_its_memory action there).state) (sym (own_image pid s p lives))
          (subst (λ (image : Image). StandAlike table tags made (computed pid p.image.regs (left p.image.memory) s) (computed pid image.regs (left image.memory) w)) (sym (own_image pid w q also))
          (subst (λ (regs : Regs). StandAlike table tags made (computed pid p.image.regs (left p.image.memory) s) (computed pid regs (left q.image.memory) w)) same_regs
          (both_edited p.image.regs (left p.image.memory) (left q.image.memory) both.1 (stays-like action p.image.memory mine.whole mine.placed) (stays-like action q.image.memory yours.whole yours.placed))))

    -- either of two, by what is so of both
    either : (b c : Bool) (t u : Stopped) → b ≡ c → (b ≡ true → StandAlike table tags made t.state u.state) → StandAlike table tags made (cond b t here).state (cond c u there).state
    either true true t u same done = done refl
    either false false t u same done = alike
    either true false t u same done = absurd (differ same)
      where
        differ : true ≡ false → ⊥
        differ e = cc
    either false true t u same done = absurd (differ same)
      where
        differ : false ≡ true → ⊥
        differ e = cc

    both_forgiven : (may : Bool) → StandAlike table tags made (forgiven may here).state (forgiven may there).state
    both_forgiven may =
        either (may && (register_at here 10 == word_of (refusal EPERM))) (may && (register_at there 10 == word_of (refusal EPERM))) (with_register 10 0 here) (with_register 10 0 there)
        (ap (λ word. may && (word == word_of (refusal EPERM))) (same_register 10)) (λ e. registers_set 10 0)

    -- a register, where both are alike
    alike_register : (x y : State ℕ Image) → StandAlike table tags made x y → (k : ℕ) → register_at (stop_in pid x handed) k ≡ register_at (stop_in pid y other) k
    alike_register x y both k =
        in_process (process pid x) ∙ ap (λ o. option_map_or (λ (regs : Regs). get_or regs.x k 0) o (get_or no_image.regs.x k 0)) (both.matches.images.registers pid)
        ∙ sym (in_process (process pid y))
      where
        in_process : (o : Option (Process ℕ Image))
            → get_or (option_map_or (λ (p : Process ℕ Image). p.image) o no_image).regs.x k 0 ≡ option_map_or (λ (regs : Regs). get_or regs.x k 0) (option_map (λ (p : Process ℕ Image). p.image.regs) o) (get_or no_image.regs.x k 0)
        in_process None = refl
        in_process (Some p) = refl

    -- so both are told the same answer
    answer_forgiven : register_at (forgiven true here) answer_register ≡ register_at (forgiven true there) answer_register
    answer_forgiven =
        by (true && (register_at here 10 == word_of (refusal EPERM))) (true && (register_at there 10 == word_of (refusal EPERM))) (ap (λ word. true && (word == word_of (refusal EPERM))) (same_register 10))
      where
        by : (b c : Bool) → b ≡ c → register_at (cond b (with_register 10 0 here) here) answer_register ≡ register_at (cond c (with_register 10 0 there) there) answer_register
        by true true same = alike_register (with_register 10 0 here).state (with_register 10 0 there).state (registers_set 10 0) answer_register
        by false false same = same_register answer_register
        by true false same = absurd cc
        by false true same = absurd cc

    pub both_due : (f : Faking) (also_root : Bool) (also_target : Option ℕ) (edit : Option Due) → IsEditedAlike f here also_root also_target edit → StandAlike table tags made (after_due f here edit).1.state (shown_due f.user f.identities also_root edit there).state
    both_due f also_root also_target None is = alike
    both_due f also_root also_target (Some (due.Remembers change)) is = both_forgiven true
    both_due f also_root also_target (Some due.ForgivesRoot) is = subst (λ b. StandAlike table tags made (forgiven handed.at_root here).state (forgiven b there).state) is (both_forgiven handed.at_root)
    both_due f also_root also_target (Some (due.ShowsOwner at)) is =
        let action = show_owner f.user f.identities at in
        either (has_answered_zero here) (has_answered_zero there) (on_its_memory action here) (on_its_memory action there) (ap (λ word. word == 0) (same_register 10)) (λ zero. memories_edited action (is zero))
    both_due f also_root also_target (Some (due.Tells number answer)) is = absurd is
    both_due f also_root also_target (Some due.BeginsProgram) is = absurd is

    pub both_remember : (f : Faking) (also_root : Bool) (also_target : Option ℕ) (edit : Option Due) → IsEditedAlike f here also_root also_target edit
        → (after_due f here edit).0.identities ≡ remembered_of edit also_target (register_at (shown_due f.user f.identities also_root edit there) answer_register) f.identities
    both_remember f also_root also_target None is = refl
    both_remember f also_root also_target (Some (due.Remembers change)) is = λ i. remembered change (is i) (answer_forgiven i) f.identities
    both_remember f also_root also_target (Some due.ForgivesRoot) is = refl
    both_remember f also_root also_target (Some (due.ShowsOwner at)) is = refl
    both_remember f also_root also_target (Some (due.Tells number answer)) is = absurd is
    both_remember f also_root also_target (Some due.BeginsProgram) is = absurd is

    pub both_begun : (f : Faking) → ReadsNoMarkAtBeginning f here
        → StandAlike table tags made (on_its_memory (show_identity (after_exec (identity_at f.identities pid)) (register_at here stack_register)) here).state
        (on_its_memory (show_identity (after_exec (identity_at f.identities pid)) (register_at there stack_register)) there).state
    both_begun f unread =
        let i = after_exec (identity_at f.identities pid) in
        subst (λ word. StandAlike table tags made (on_its_memory (show_identity i (register_at here stack_register)) here).state (on_its_memory (show_identity i word) there).state) (same_register stack_register)
        (memories_edited (show_identity i (register_at here stack_register)) unread)

pub edits_keep_matches : EditsKeepMatches
edits_keep_matches table tags made pid s w handed other also_root also_target f edit lives alike is = by (process pid s) refl lives
  where
    by : (o : Option (Process ℕ Image)) → process pid s ≡ o → IsSome o
        → StandAlike table tags made (after_due f (stop_in pid s handed) edit).1.state (shown_due f.user f.identities also_root edit (stop_in pid w other)).state
        × ((after_due f (stop_in pid s handed) edit).0.identities ≡ remembered_of edit also_target (register_at (shown_due f.user f.identities also_root edit (stop_in pid w other)) answer_register) f.identities)
    by None none some = absurd cc
    by (Some p) there some =
        let q = lives_too table tags pid s w p alike.matches there in
        (both_due table tags made pid s w p q.0 there q.1 alike handed other f also_root also_target edit is, both_remember table tags made pid s w p q.0 there q.1 alike handed other f also_root also_target edit is)

pub beginnings_keep_matches : BeginningsKeepMatches
beginnings_keep_matches table tags made pid s w handed other f x lives alike unread = record { stands = by (process pid s) refl lives; user = refl; kept = refl }
  where
    by : (o : Option (Process ℕ Image)) → process pid s ≡ o → IsSome o
        → StandAlike table tags made (on_its_memory (show_identity (after_exec (identity_at f.identities pid)) (register_at (stop_in pid s handed) stack_register)) (stop_in pid s handed)).state
        (on_its_memory (show_identity (after_exec (identity_at f.identities pid)) (register_at (stop_in pid w other) stack_register)) (stop_in pid w other)).state
    by None none some = absurd cc
    by (Some p) there some =
        let q = lives_too table tags pid s w p alike.matches there in
        both_begun table tags made pid s w p q.0 there q.1 alike handed other f unread
