-- A call that is answered at its first stop, in the kernel that finds none: what is left of it, and of its answer.
use Rattle.std.proofs.Common.{◌≡◌, ℕ, false, List, Some, Ok, Err, get_or, refl, sym, ap, subst, ◌∙◌, ℤ}
use Rattle.std.specs.Prelude.{IsSome, slice_set}
use Rattle.std.proofs.lemmas.List.{set-get_or, set-set, set_comm}
use Rattle.law_turns.specs.pr_base.declared.errno.Errno.TheVariants.{ENOSYS}
use Rattle.law_edits.specs.rv_mem.Actions.{CarriedOut, carried_out}
use Rattle.law_edits.specs.rv_mem.Memory.{Memory}
use Rattle.law_edits.specs.rv_mem.declared.regs.Regs.{Regs}
use Rattle.law_edits.specs.kr_view.View.{Row}
use Rattle.law_turns.specs.kr_calls.Decoding.{Decoded, decoding}
use Rattle.law_turns.specs.kr_calls.declared.request.Request.{Request}
use Rattle.law_edits.specs.kr_model.State.{Image, Process, State, process}
use Rattle.law_turns.specs.kr_steps.Answering.{answered, going, with_answer}
use Rattle.law_turns.specs.kr_steps.Computing.{computed}
use Rattle.law_turns.specs.kr_turns.PlainCall.{Came, plain_call, refusal_told}
use Rattle.law_turns.specs.kr_stops.Stopped.{IsThere, Stopped, edited, nothing_handed}
use Rattle.law_turns.specs.kr_turns.Turn.{called}
use Rattle.law_turns.proofs.kr_stops.EditLemmas.{edited-twice, image-edited}
use Rattle.law_edits.specs.pt_ident.Identity.{refusal}
use Rattle.law_edits.specs.pt_faker.Faking.{no_call, no_longer_called, told, word_of}
use Rattle.law_edits.specs.pt_faker.Stopping.{with_memory, with_register}
use Rattle.law_edits.specs.NoCalls.{without_call}
use Rattle.law_edits.proofs.NoCallLemmas.{no_calls_are_decoded}
use Rattle.law_edits.proofs.StopLemmas.{register_set}
use Rattle.law_turns.proofs.CallLemmas.{by_request}
use Rattle.law_turns.proofs.ImageLemmas.{given}
use Rattle.law_stops.proofs.AnsweredLemmas.{computed_twice, lives_changed, told_again}
use Rattle.law_stops.proofs.CallLemmas.{own_image}
use Rattle.law_stops.specs.Editing.{stop_in}

-- registers of which the number is taken away and given back, and which are told an answer twice
given_again : (x : List ℕ) (a b c : ℕ) → slice_set (slice_set (slice_set (slice_set x 17 a) 10 b) 17 (get_or x 17 0)) 10 c ≡ slice_set x 10 c
given_again x a b c =
    let n = get_or x 17 0 in
    ap (λ y. slice_set y 10 c) (set_comm (slice_set x 17 a) 10 17 b n (λ e. absurd cc))
    ∙ set-set (slice_set (slice_set x 17 a) 17 n) 10 b c
    ∙ ap (λ y. slice_set y 10 c) (set-set x 17 a n ∙ set-get_or x 17 0)

module _ (pid : ℕ) (s : State ℕ Image) (p : Process ℕ Image) (lives : process pid s ≡ Some p) (memory : Memory) where
  abbrev pub taken : Regs
  taken = without_call p.image.regs

  -- the state that the kernel finds, and the process in it
  abbrev pub left : State ℕ Image
  left = computed pid taken memory s

  abbrev pub caller : Process ℕ Image
  caller = given pid taken memory p

  pub caller_lives : process pid left ≡ Some caller
  caller_lives = lives_changed pid (given pid taken memory) (λ p. refl) s p lives

  -- what the first stop does to the process, whose decoding was read
  module _ (there : IsThere (stop_in pid s nothing_handed)) where
    pub number_taken : (read : Memory) → no_longer_called (with_memory memory (edited p.image.regs read (stop_in pid s nothing_handed))) ≡ stop_in pid left nothing_handed
    number_taken read =
        ap no_longer_called
        (ap (λ (image : Image). edited image.regs memory (edited p.image.regs read (stop_in pid s nothing_handed))) (image-edited p.image.regs read (stop_in pid s nothing_handed) (subst IsSome (sym lives) refl))
        ∙ edited-twice p.image.regs p.image.regs read memory (stop_in pid s nothing_handed))
        ∙ register_set (stop_in pid s nothing_handed) there 17 no_call p.image.regs memory

  -- the kernel refuses it
  module _ (rows : List Row) (r : Request) (read : Memory) (reads : (carried_out (decoding p.image.regs) read).reply ≡ Ok r) where
    pub decoded_none : carried_out (decoding taken) memory ≡ record { reply = Err ENOSYS; memory = memory }
    decoded_none = no_calls_are_decoded p.image.regs read memory r reads

    pub refused : plain_call rows pid left ≡ refusal_told pid ENOSYS left
    refused =
        by_request rows pid rows left caller (Err ENOSYS) caller_lives (ap (λ (d : CarriedOut Decoded). d.reply) decoded_none)
        ∙ ap (λ (m : Memory). refusal_told pid ENOSYS (computed pid taken m left)) (ap (λ (d : CarriedOut Decoded). d.memory) decoded_none)
        ∙ ap (refusal_told pid ENOSYS) (computed_twice pid taken taken memory memory s)

  abbrev pub behind : Came
  behind = refusal_told pid ENOSYS left

  abbrev pub refused_caller : Process ℕ Image
  refused_caller = going (with_answer (refusal ENOSYS)) false caller

  pub refused_lives : process pid behind.state ≡ Some refused_caller
  refused_lives = lives_changed pid (going (with_answer (refusal ENOSYS)) false) (λ p. refl) left caller caller_lives

  -- the number is given back, and the answer is told
  module _ (answer : ℤ) (there : IsThere (called pid behind)) where
    abbrev number_back : Regs
    number_back = record { x = slice_set refused_caller.image.regs.x 17 (get_or p.image.regs.x 17 0); pc = refused_caller.image.regs.pc }

    abbrev answer_told : Regs
    answer_told = record { x = slice_set number_back.x 10 (word_of answer); pc = number_back.pc }

    pub told_answer : (told (get_or p.image.regs.x 17 0) answer (called pid behind)).state ≡ answered pid answer (computed pid p.image.regs memory s)
    told_answer =
        ap (λ (image : Image). (with_register 10 (word_of answer) (edited (record { x = slice_set image.regs.x 17 (get_or p.image.regs.x 17 0); pc = image.regs.pc }) image.memory (called pid behind))).state) (own_image pid behind.state refused_caller refused_lives)
        ∙ ap (λ (t : Stopped). t.state) (register_set (called pid behind) there 10 (word_of answer) number_back memory)
        ∙ told_again pid p.image.regs answer_told memory (refusal ENOSYS) answer s same taken
      where
        same : answer_told ≡ with_answer answer p.image.regs
        same = ap (λ (x : List ℕ). record { x = x; pc = refused_caller.image.regs.pc }) (given_again p.image.regs.x no_call (word_of (refusal ENOSYS)) (word_of answer))
