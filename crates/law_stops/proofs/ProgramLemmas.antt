-- Behind an execve(2) that answers 0, no byte of its caller's memory is marked.
use Rattle.std.proofs.Common.{◌≡◌, ℕ, true, false, List, [], ◌∷◌, Option, Some, None, Ok, Err, get_or, refl, sym, ap, subst, ◌∙◌, arith}
use Rattle.std.specs.Prelude.{◌==◌, Bool, Result, cond}
use Rattle.std.specs.Option.{option_map}
use Rattle.std.proofs.lemmas.Option.{same_Some}
use Rattle.law_turns.specs.pr_base.declared.errno.Errno.{Errno}
use Rattle.law_edits.specs.rv_mem.Actions.{CarriedOut, carried_out}
use Rattle.law_edits.specs.rv_mem.Memory.{Memory}
use Rattle.law_edits.specs.rv_mem.declared.regs.Regs.{Regs}
use Rattle.law_edits.specs.kr_view.View.{Row}
use Rattle.law_turns.specs.kr_calls.declared.request.Request.TheVariants as call
use Rattle.law_edits.specs.kr_model.Applied.{Mounts, all_applied, images, with_image, with_living, with_program}
use Rattle.law_edits.specs.kr_model.Change.{Change, CloseOnExec, OfFound, ReplaceExecutable}
use Rattle.law_edits.specs.kr_model.State.{Image, Process, State, at_pid, process, with_process}
use Rattle.law_turns.specs.kr_seen.Carrying.{memory_of, with_memory, with_memory_of}
use Rattle.law_turns.specs.kr_execve.Execution.{Program, changes_of, execution, mount_of}
use Rattle.law_turns.specs.kr_steps.Answering.{answered, going, resumed, with_answer}
use Rattle.law_turns.specs.kr_steps.Computing.{computed}
use Rattle.law_turns.specs.kr_turns.PlainCall.{Came, plain_call, replaced}
use Rattle.law_turns.specs.kr_stops.Stopped.{image_in}
use Rattle.law_turns.specs.kr_turns.Turn.{called}
use Rattle.law_edits.specs.pt_ident.Identity.{refusal}
use Rattle.law_edits.specs.pt_faker.Faking.{has_answered_zero, stack_register, word_of}
use Rattle.law_edits.specs.pt_faker.Stopping.{memory_at, register_at}
use Rattle.law_turns.proofs.law_kept.ImageApartLemmas.{changes_stand_apart}
use Rattle.law_edits.specs.Fresh.{IsFresh}
use Rattle.law_edits.proofs.FreshLemmas.{beginnings_read_no_mark, programs_are_fresh}
use Rattle.law_turns.specs.Calls.{decoded_by, decoded_in}
use Rattle.law_turns.specs.Registers.{registers_in}
use Rattle.law_turns.specs.Sizes.{IsSized}
use Rattle.law_turns.proofs.CallLemmas.{by_request}
use Rattle.law_turns.proofs.CalledLemmas.{lives_computed}
use Rattle.law_turns.proofs.ImageLemmas.{given}
use Rattle.law_turns.proofs.RegisterLemmas.{changes_keep_registers}
use Rattle.law_stops.proofs.AnsweredLemmas.{lives_changed}
use Rattle.law_stops.proofs.CallLemmas.{own_image}
use Rattle.law_stops.proofs.RegisterLemmas.{put_there}
use Rattle.law_stops.specs.Beginning.{ProgramsReadNoMark, ReadsNoMark}
use Rattle.law_stops.proofs.ReadLemmas.{differ, nonzero}

-- a new program that is given its own registers and memory once more
given_twice : (pid : ℕ) (image : Image) (brk : ℕ) (ps : List (Process ℕ Image)) → with_process pid (given pid image.regs image.memory) (with_process pid (with_program image brk) ps) ≡ with_process pid (with_program image brk) ps
given_twice pid image brk [] = refl
given_twice pid image brk (p ∷ ps) = ap (λ q. q ∷ with_process pid (given pid image.regs image.memory) (with_process pid (with_program image brk) ps)) (by (p.pid == pid) refl) ∙ ap (λ qs. at_pid pid (with_program image brk) p ∷ qs) (given_twice pid image brk ps)
  where
    by : (b : Bool) → (p.pid == pid) ≡ b → at_pid pid (given pid image.regs image.memory) (cond b (with_program image brk p) p) ≡ cond b (with_program image brk p) p
    by true is = ap (λ b. cond b (given pid image.regs image.memory (with_program image brk p)) (with_program image brk p)) is
    by false is = ap (λ b. cond b (given pid image.regs image.memory p) p) is

-- ---- what becomes of the caller

module _ (pid : ℕ) (mounts : Mounts ℕ) (program : Program) (s : State ℕ Image) (p : Process ℕ Image) (lives : process pid s ≡ Some p) where
  abbrev regs : Regs
  regs = program.image.regs

  abbrev memory : Memory
  memory = program.image.memory

  abbrev begun : State ℕ Image
  begun = with_living (with_process pid (with_program program.image program.brk)) s

  abbrev rest : List Change
  rest = ReplaceExecutable OfFound program.exe.host program.dir program.name ∷ CloseOnExec ∷ []

  abbrev left : State ℕ Image
  left = all_applied images mounts pid rest begun

  begun_lives : process pid begun ≡ Some (with_program program.image program.brk p)
  begun_lives = lives_changed pid (with_program program.image program.brk) (λ p. refl) s p lives

  begun_is : computed pid regs memory begun ≡ begun
  begun_is = ap (λ ps. with_living (λ _. ps) s) (given_twice pid program.image program.brk s.living)

  left_is : left ≡ computed pid regs memory left
  left_is = ap (all_applied images mounts pid rest) (sym begun_is) ∙ changes_stand_apart ℕ mounts pid rest regs memory begun refl

  left_registers : registers_in pid left ≡ Some regs
  left_registers = changes_keep_registers mounts pid pid rest begun regs refl (ap (option_map (λ (p : Process ℕ Image). p.image.regs)) begun_lives)

  left_memory : (o : Option (Process ℕ Image)) → process pid left ≡ o → (image_in pid (resumed pid left)).memory ≡ memory
  left_memory None none = absurd (never (sym (ap (option_map (λ (p : Process ℕ Image). p.image.regs)) none) ∙ left_registers))
    where
      never : {A : Type 0} {a : A} → None ≡ Some a → ⊥
      never e = cc
  left_memory (Some q) at =
      ap (λ (image : Image). image.memory) (own_image pid (resumed pid left) (going (λ regs. regs) false q) (lives_changed pid (going (λ regs. regs) false) (λ p. refl) left q at))
      ∙ ap (λ (q : Process ℕ Image). q.image.memory) (same_Some _ _ (sym at ∙ ap (process pid) left_is ∙ lives_computed pid regs memory left q at))

-- ---- the whole call

module _ (table : List Row) (pid : ℕ) (s : State ℕ Image) (p : Process ℕ Image) (path : List ℕ) (args env : ℕ) (lives : process pid s ≡ Some p) (sized : IsSized p.image) (reads : (decoded_by p).reply ≡ Ok (call.Execve path args env)) where
  abbrev at : State ℕ Image
  at = decoded_in pid p s

  abbrev done : CarriedOut (Result Program Errno)
  done = carried_out (execution table pid at path args env) (memory_of pid at)

  abbrev base : State ℕ Image
  base = with_memory_of pid done.memory at

  abbrev caller : Process ℕ Image
  caller = with_image (with_memory done.memory) (given pid p.image.regs (decoded_by p).memory p)

  base_lives : process pid base ≡ Some caller
  base_lives = lives_changed pid (with_image (with_memory done.memory)) (λ p. refl) at (given pid p.image.regs (decoded_by p).memory p) (lives_computed pid p.image.regs (decoded_by p).memory s p lives)

  abbrev came : Result Program Errno → Came
  came reply = replaced pid reply (all_applied images (record { found = mount_of reply; directory = None }) pid (changes_of reply) base)

  came_is : plain_call table pid s ≡ came done.reply
  came_is = by_request table pid table s p (Ok (call.Execve path args env)) lives reads

  -- a caller that is refused a program is told an error
  refused_told : (e : Errno) → has_answered_zero (called pid (came (Err e))) ≡ false
  refused_told e =
      ap (λ (image : Image). get_or image.regs.x 10 0 == 0) (own_image pid (answered pid (refusal e) base) (going (with_answer (refusal e)) false caller) (lives_changed pid (going (with_answer (refusal e)) false) (λ p. refl) base caller base_lives))
      ∙ ap (λ word. word == 0) (put_there p.image.regs.x 10 (word_of (refusal e)) (let many = sized.registers in omega (arith, many)))
      ∙ nonzero e

  by_reply : (reply : Result Program Errno) → done.reply ≡ reply → has_answered_zero (called pid (came reply)) ≡ true → ReadsNoMark (called pid (came reply))
  by_reply (Err e) is zero = differ (has_answered_zero (called pid (came (Err e)))) (refused_told e) zero
  by_reply (Ok program) is zero = λ i.
      let mounts : Mounts ℕ = record { found = Some program.exe.mount; directory = None } in
      let memory = left_memory pid mounts program base caller base_lives (process pid (left pid mounts program base caller base_lives)) refl in
      let fresh = programs_are_fresh table pid at path args env (memory_of pid at) program is in
      beginnings_read_no_mark (memory_at (called pid (came (Ok program)))) i (register_at (called pid (came (Ok program))) stack_register) (subst IsFresh (sym memory) fresh)

  no_mark : has_answered_zero (called pid (plain_call table pid s)) ≡ true → ReadsNoMark (called pid (plain_call table pid s))
  no_mark zero = subst (λ (came : Came). ReadsNoMark (called pid came)) (sym came_is) (by_reply done.reply refl (ap (λ (came : Came). has_answered_zero (called pid came)) (sym came_is) ∙ zero))

pub programs_read_no_mark : ProgramsReadNoMark
programs_read_no_mark table pid s p path args env lives sized reads zero = no_mark table pid s p path args env lives sized reads zero
