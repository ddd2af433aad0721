-- Watchers at stops of a state without marks.
use Rattle.std.specs.FinMap as map
use Rattle.std.proofs.Common.{◌≡◌, ℕ, Bool, true, false, cond, ◌&&◌, Option, Some, None, Result, Ok, Err, refl, ap, ◌∙◌}
use Rattle.std.specs.Prelude.{ℤ, get_or, slice_set, ◌==◌}
use Rattle.kr_turns.specs.kr_seen.pr_base.declared.errno.Errno.{Errno}
use Rattle.kr_turns.specs.kr_seen.pr_base.declared.errno.Errno.TheVariants.{EPERM}
use Rattle.kr_turns.specs.kr_model.kr_calls.Decoding.{Decoded, decoding}
use Rattle.kr_turns.specs.kr_model.kr_calls.declared.request.Request.{Request}
use Rattle.kr_turns.specs.kr_model.State.{Image, State}
use Rattle.kr_turns.specs.kr_stops.Editing.{after_request, decoded_at, memory_at, register_at, with_memory, with_register}
use Rattle.kr_turns.specs.kr_stops.Stopped.{Stopped, edited, image_at}
use Rattle.kr_turns.specs.rv_mem.Actions.{Action, CarriedOut, carried_out}
use Rattle.kr_turns.specs.rv_mem.Memory.{Memory}
use Rattle.kr_turns.specs.rv_mem.declared.regs.Regs.{Regs}
use Rattle.pt_faker.specs.pt_ident.Identity.{Answered, Effect, Identity, after_exec, effect, on_memory, refusal}
use Rattle.pt_faker.specs.pt_ident.IdentityTable.{identity_at}
use Rattle.pt_faker.specs.pt_ident.declared.change.Change.{Change}
use Rattle.pt_faker.specs.Carrying.{on_its_memory}
use Rattle.pt_faker.specs.Faking.{Faking, after_decoding, after_due, after_effect, answer_register, begin_program, entered, exited, forgiven, keeping, no_call, no_longer_called, number_register, remember, remembered, show_identity, show_owner, stack_register, told, with_due, without_due, word_of}
use Rattle.pt_faker.specs.Watches as watches
use Rattle.pt_faker.specs.Watches.{faked, watch}
use Rattle.pt_faker.specs.declared.due.Due.{Due}
use Rattle.pt_faker.specs.declared.due.Due.TheVariants.{Tells, Remembers, ForgivesRoot, ShowsOwner, BeginsProgram}
use Rattle.pt_faker.specs.declared.watch.Watch.{Watch}
use Rattle.pt_faker.specs.declared.watch.Watch.TheVariants.{Faked, Nobody}
use Rattle.law_marks.specs.Unmarked.{unmarked, unmarked_done}
use Rattle.law_marks.proofs.MemoryLemmas.{done-unmarked}
use Rattle.law_marks.specs.Turns.{WatchersSeeNoMarks}
use Rattle.law_marks.specs.Unjudged.{unmarked_stop}
use Rattle.law_marks.proofs.StateLemmas.{computed-unmarked, image-unmarked}

-- what is kept, and the stop without marks
abbrev unmarked_beside : {S : Type 0} → S × Stopped → S × Stopped
unmarked_beside p = (p.0, unmarked_stop p.1)

-- ---- what is read and changed at a stop

module _ (t : Stopped) where
  register-unmarked : (k : ℕ) → register_at (unmarked_stop t) k ≡ register_at t k
  register-unmarked k = ap (λ (image : Image). get_or image.regs.x k 0) (image-unmarked t.pid t.state)

  memory_at-unmarked : memory_at (unmarked_stop t) ≡ unmarked (memory_at t)
  memory_at-unmarked = ap (λ (image : Image). image.memory) (image-unmarked t.pid t.state)

  edited-unmarked : (regs : Regs) (memory : Memory) → edited regs (unmarked memory) (unmarked_stop t) ≡ unmarked_stop (edited regs memory t)
  edited-unmarked regs memory = ap (λ (state : State ℕ Image). record { state = state; pid = t.pid; handed = t.handed }) (computed-unmarked t.pid regs memory t.state)

  with_memory-unmarked : (memory : Memory) → with_memory (unmarked memory) (unmarked_stop t) ≡ unmarked_stop (with_memory memory t)
  with_memory-unmarked memory =
      ap (λ (image : Image). edited image.regs (unmarked memory) (unmarked_stop t)) (image-unmarked t.pid t.state) ∙ edited-unmarked (image_at t).regs memory

  with_register-unmarked : (k v : ℕ) → with_register k v (unmarked_stop t) ≡ unmarked_stop (with_register k v t)
  with_register-unmarked k v =
      ap (λ (image : Image). edited (record { x = slice_set image.regs.x k v; pc = image.regs.pc }) image.memory (unmarked_stop t)) (image-unmarked t.pid t.state)
      ∙ edited-unmarked (record { x = slice_set (image_at t).regs.x k v; pc = (image_at t).regs.pc }) (memory_at t)

  decoded_at-unmarked : decoded_at (unmarked_stop t) ≡ unmarked_done (decoded_at t)
  decoded_at-unmarked =
      ap (λ (image : Image). carried_out (decoding image.regs) image.memory) (image-unmarked t.pid t.state) ∙ done-unmarked (decoding (image_at t).regs) (memory_at t)

  after_request-unmarked : after_request (unmarked_stop t) ≡ unmarked_stop (after_request t)
  after_request-unmarked = ap (λ (d : CarriedOut Decoded). with_memory d.memory (unmarked_stop t)) decoded_at-unmarked ∙ with_memory-unmarked (decoded_at t).memory

  done_at-unmarked : {A : Type 0} (action : Action A) → carried_out action (memory_at (unmarked_stop t)) ≡ unmarked_done (carried_out action (memory_at t))
  done_at-unmarked action = ap (carried_out action) memory_at-unmarked ∙ done-unmarked action (memory_at t)

  on_its-unmarked : (action : Action (Unit {0})) → on_its_memory action (unmarked_stop t) ≡ unmarked_stop (on_its_memory action t)
  on_its-unmarked action =
      ap (λ (d : CarriedOut (Unit {0})). with_memory d.memory (unmarked_stop t)) (done_at-unmarked action) ∙ with_memory-unmarked (carried_out action (memory_at t)).memory

  -- by the answer that stands in its register
  by_answer-unmarked : {A : Type 0} (done failed : A) → cond (register_at (unmarked_stop t) answer_register == 0) done failed ≡ cond (register_at t answer_register == 0) done failed
  by_answer-unmarked done failed = ap (λ n. cond (n == 0) done failed) (register-unmarked answer_register)

  -- ---- one who fakes identities

  forgiven-unmarked : (may : Bool) → forgiven may (unmarked_stop t) ≡ unmarked_stop (forgiven may t)
  forgiven-unmarked may =
      ap (λ n. cond (may && (n == word_of (refusal EPERM))) (with_register answer_register 0 (unmarked_stop t)) (unmarked_stop t)) (register-unmarked answer_register)
      ∙ by (may && (register_at t answer_register == word_of (refusal EPERM)))
    where
      by : (b : Bool) → cond b (with_register answer_register 0 (unmarked_stop t)) (unmarked_stop t) ≡ unmarked_stop (cond b (with_register answer_register 0 t) t)
      by true = with_register-unmarked answer_register 0
      by false = refl

told-unmarked : (number : ℕ) (answer : ℤ) (t : Stopped) → told number answer (unmarked_stop t) ≡ unmarked_stop (told number answer t)
told-unmarked number answer t =
    ap (with_register answer_register (word_of answer)) (with_register-unmarked t number_register number)
    ∙ with_register-unmarked (with_register number_register number t) answer_register (word_of answer)

module _ (f : Faking) where
  -- ---- the first stop

  abbrev effected_by : (pid number : ℕ) → CarriedOut Answered → Stopped → Faking × Stopped
  effected_by pid number done t = (with_due pid (Some (Tells number done.reply.answer)) (keeping pid done.reply.identity f), no_longer_called (with_memory done.memory t))

  effect-unmarked : (r : Request) (t : Stopped) (o : Option Effect) → after_effect f r (unmarked_stop t) o ≡ unmarked_beside (after_effect f r t o)
  effect-unmarked r t None = refl
  effect-unmarked r t (Some e) =
      let action : Action Answered = on_memory (identity_at f.identities t.pid) e in
      let done : CarriedOut Answered = carried_out action (memory_at t) in
      (λ i. effected_by t.pid (register-unmarked t number_register i) (done_at-unmarked t action i) (unmarked_stop t))
      ∙ ap (λ (u : Stopped). (with_due t.pid (Some (Tells (register_at t number_register) done.reply.answer)) (keeping t.pid done.reply.identity f), u))
      (ap no_longer_called (with_memory-unmarked t done.memory) ∙ with_register-unmarked (with_memory done.memory t) number_register no_call)

  decoding-unmarked : (reply : Result Request Errno) (t : Stopped) → after_decoding f (unmarked_stop t) reply ≡ unmarked_beside (after_decoding f t reply)
  decoding-unmarked (Ok r) t = effect-unmarked r t (effect (identity_at f.identities t.pid) r)
  decoding-unmarked (Err e) t = refl

  entered-unmarked : (t : Stopped) → entered f (unmarked_stop t) ≡ unmarked_beside (entered f t)
  entered-unmarked t =
      (λ i. after_decoding f (after_request-unmarked t i) (decoded_at-unmarked t i).reply) ∙ decoding-unmarked (decoded_at t).reply (after_request t)

  -- ---- the second stop

  abbrev remembered_with : Change → Option ℕ → ℕ → Stopped → Faking × Stopped
  remembered_with change target answer u = (record { user = f.user; identities = remembered change target answer f.identities; dues = f.dues }, u)

  remember-unmarked : (change : Change) (t : Stopped) → remember change f (unmarked_stop t) ≡ unmarked_beside (remember change f t)
  remember-unmarked change t =
      ap (λ (u : Stopped). remembered_with change t.handed.target (register_at u answer_register) u) (forgiven-unmarked t true)
      ∙ ap (λ n. remembered_with change t.handed.target n (unmarked_stop (forgiven true t))) (register-unmarked (forgiven true t) answer_register)

  begun-unmarked : (t : Stopped) → begin_program f (unmarked_stop t) ≡ unmarked_beside (begin_program f t)
  begun-unmarked t =
      let i : Identity = after_exec (identity_at f.identities t.pid) in
      ap (λ n. (keeping t.pid i f, on_its_memory (show_identity i n) (unmarked_stop t))) (register-unmarked t stack_register)
      ∙ ap (λ (u : Stopped). (keeping t.pid i f, u)) (on_its-unmarked t (show_identity i (register_at t stack_register)))

  due-unmarked : (t : Stopped) (o : Option Due) → after_due f (unmarked_stop t) o ≡ unmarked_beside (after_due f t o)
  due-unmarked t None = refl
  due-unmarked t (Some (Tells number answer)) = ap (λ (u : Stopped). (f, u)) (told-unmarked number answer t)
  due-unmarked t (Some (Remembers change)) = remember-unmarked change t
  due-unmarked t (Some ForgivesRoot) = ap (λ (u : Stopped). (f, u)) (forgiven-unmarked t t.handed.at_root)
  due-unmarked t (Some (ShowsOwner at)) =
      let action : Action (Unit {0}) = show_owner f.user f.identities at in
      ap (λ (u : Stopped). (f, u)) (by_answer-unmarked t (on_its_memory action (unmarked_stop t)) (unmarked_stop t) ∙ by action (register_at t answer_register == 0))
    where
      by : (action : Action (Unit {0})) (b : Bool) → cond b (on_its_memory action (unmarked_stop t)) (unmarked_stop t) ≡ unmarked_stop (cond b (on_its_memory action t) t)
      by action true = on_its-unmarked t action
      by action false = refl
  due-unmarked t (Some BeginsProgram) =
      by_answer-unmarked t (begin_program f (unmarked_stop t)) (f, unmarked_stop t) ∙ by (register_at t answer_register == 0)
    where
      by : (b : Bool) → cond b (begin_program f (unmarked_stop t)) (f, unmarked_stop t) ≡ unmarked_beside (cond b (begin_program f t) (f, t))
      by true = begun-unmarked t
      by false = refl

exited-unmarked : (f : Faking) (t : Stopped) → exited f (unmarked_stop t) ≡ unmarked_beside (exited f t)
exited-unmarked f t = due-unmarked (without_due t.pid f) t (map.get f.dues t.pid)

-- ---- nobody, and one that is either

watch-entry : (x : Watch) (t : Stopped) → watches.entered x (unmarked_stop t) ≡ unmarked_beside (watches.entered x t)
watch-entry Nobody t = refl
watch-entry (Faked f) t = ap faked (entered-unmarked f t)

watch-exit : (x : Watch) (t : Stopped) → watches.exited x (unmarked_stop t) ≡ unmarked_beside (watches.exited x t)
watch-exit Nobody t = refl
watch-exit (Faked f) t = ap faked (exited-unmarked f t)

pub watchers_see_no_marks : (S : Type 0) → WatchersSeeNoMarks S
watchers_see_no_marks S = record {
  nobody = record { entry = λ x t. refl; exit = λ x t. refl };
  faker = record { entry = entered-unmarked; exit = exited-unmarked };
  watch = record { entry = watch-entry; exit = watch-exit };
}
