-- The plain kernel finds no call where a tracer answered it.
use Rattle.std.proofs.Common.{◌≡◌, ℕ, ◌<◌, Bool, true, false, length, ℤ, Option, Some, None, Err, if◌then◌else◌, refl, sym, ap, subst, ◌∙◌}
use Rattle.std.specs.Prelude.{IsSome}
use Rattle.std.specs.Option.{option_map_or}
use Rattle.std.proofs.lemmas.List.{get_or-set_same}
use Rattle.pt_tracer.specs.pr_base.declared.errno.Errno.TheVariants.{EFAULT, ENOSYS}
use Rattle.pt_tracer.specs.rv_mem.Actions.{CarriedOut, carried_out}
use Rattle.pt_tracer.specs.rv_mem.Memory.{Memory, with_pages}
use Rattle.pt_tracer.specs.rv_mem.declared.regs.Regs.{Regs}
use Rattle.law_walks.specs.kr_calls.Decoding.{Decoded, decoding}
use Rattle.law_walks.specs.kr_model.State.{Image, Process, process}
use Rattle.kr_turns.specs.kr_steps.Computing.{computed}
use Rattle.kr_turns.specs.PlainCall.{after_decoding, plain_call_of, refusal_told}
use Rattle.kr_turns.specs.kr_stops.Stopped.{IsThere, Stopped, edited, image_at, no_image, nothing_handed}
use Rattle.kr_turns.specs.declared.plain.CallEnd.TheVariants as end
use Rattle.pt_tracer.specs.pt_args.Laws.{poked as pages_poked}
use Rattle.pt_tracer.specs.pt_args.declared.edit.Edit.{Edit}
use Rattle.pt_tracer.specs.pt_args.declared.edit.Edit.TheVariants.{Cancel, Emulate, Pass, Swap}
use Rattle.pt_tracer.specs.pt_faker.Faking.{no_call, no_longer_called}
use Rattle.pt_tracer.specs.pt_faker.Stopping.{after_request, decoded_at, memory_at, with_memory}
use Rattle.pt_tracer.specs.Poking.{may_poke, poked}
use Rattle.pt_tracer.specs.Registers.{with_arguments}
use Rattle.pt_tracer.specs.Watched.{applied, refused}
use Rattle.law_edits.specs.Answered.{AnsweredCallsAreNone, PlainCallsAreDecoded, StandsAtNoCall}
use Rattle.law_edits.specs.NoCalls.{without_call}
use Rattle.law_edits.proofs.NoCallLemmas.{refused_at}
use Rattle.law_edits.proofs.ShelfLemmas.{has_number}
use Rattle.law_edits.proofs.StopLemmas.{image_is, items_put, register_set, still_there}

-- ---- what the kernel makes of a stopped process

pub plain_calls_are_decoded : PlainCallsAreDecoded
plain_calls_are_decoded table t there = by (process t.pid t.state) there.lives
  where
    by : (o : Option (Process ℕ Image)) → IsSome o
        → option_map_or (plain_call_of table t.pid t.state) o (record { state = t.state; end = end.Waits; child = None; handed = nothing_handed })
        ≡ after_decoding table t.pid (carried_out (decoding (option_map_or (λ p. p.image) o no_image).regs) (option_map_or (λ p. p.image) o no_image).memory).reply
        (computed t.pid (option_map_or (λ p. p.image) o no_image).regs (carried_out (decoding (option_map_or (λ p. p.image) o no_image).regs) (option_map_or (λ p. p.image) o no_image).memory).memory t.state)
    by None lives = absurd cc
    by (Some p) lives = refl

-- ---- a process that has the number of no call

module _ (t : Stopped) (there : IsThere t) (long : 17 < length (image_at t).regs.x) (memory : Memory) where
  abbrev taken : Regs
  taken = without_call (image_at t).regs

  abbrev left : Stopped
  left = edited taken memory t

  left_image : image_at left ≡ record { regs = taken; memory = memory }
  left_image = image_is t there taken memory

  left_there : IsThere left
  left_there = still_there t there taken memory

  found : carried_out (decoding taken) memory ≡ record { reply = Err ENOSYS; memory = memory }
  found = refused_at taken memory (get_or-set_same (image_at t).regs.x 17 no_call 0 long)

  decodes : (decoded_at left).reply ≡ Err ENOSYS
  decodes = ap (λ (i : Image). (carried_out (decoding i.regs) i.memory).reply) left_image ∙ ap (λ (d : CarriedOut Decoded). d.reply) found

  reads_nothing : (decoded_at left).memory ≡ memory_at left
  reads_nothing = ap (λ (i : Image). (carried_out (decoding i.regs) i.memory).memory) left_image ∙ ap (λ (d : CarriedOut Decoded). d.memory) found ∙ sym (ap (λ (i : Image). i.memory) left_image)

  same_state : after_request left ≡ left
  same_state = ap (λ (m : Memory). with_memory m left) reads_nothing ∙ left_there.one

  pub stands_at_none : StandsAtNoCall t left
  stands_at_none = record {
    there = left_there;
    pid = refl;
    registers = ap (λ (i : Image). i.regs) left_image;
    decodes = decodes;
    memory = reads_nothing;
    refuses = λ table.
        plain_calls_are_decoded table left left_there
        ∙ ap (λ reply. after_decoding table t.pid reply (after_request left).state) decodes
        ∙ ap (λ (u : Stopped). refusal_told t.pid ENOSYS u.state) same_state;
  }

-- ---- each edit that answers

module _ (t : Stopped) (there : IsThere t) (long : 17 < length (image_at t).regs.x) (memory : Memory) (answer : ℤ) where
  abbrev here : Stopped
  here = with_memory memory t

  taken_away : (m : Memory) (u : Stopped) → u ≡ with_memory m t → StandsAtNoCall t (no_longer_called u)
  taken_away m u is =
      subst (λ (v : Stopped). StandsAtNoCall t v) (sym (ap no_longer_called is ∙ register_set t there 17 no_call (image_at t).regs m))
      (stands_at_none t there long m)

  never : {P : Type 0} → ◌≡◌ {A = Option ℤ} None (Some answer) → P
  never e = absurd cc

  by_edit : (edit : Edit) → (applied edit here).answer ≡ Some answer → StandsAtNoCall t (applied edit here).stopped
  by_edit Pass e = never e
  by_edit (Cancel error) e = taken_away memory here refl
  by_edit (Swap regs pokes) e = by (may_poke pokes here) e
    where
      by : (b : Bool) → (if b then record { answer = None; stopped = with_arguments regs (poked pokes here) } else refused EFAULT here).answer ≡ Some answer
          → StandsAtNoCall t (if b then record { answer = None; stopped = with_arguments regs (poked pokes here) } else refused EFAULT here).stopped
      by true e = never e
      by false e = taken_away memory here refl
  by_edit (Emulate pokes told) e = by (may_poke pokes here)
    where
      by : (b : Bool) → StandsAtNoCall t (if b then record { answer = Some told; stopped = no_longer_called (poked pokes here) } else refused EFAULT here).stopped
      by true = taken_away (with_pages memory (pages_poked memory.pages pokes)) (poked pokes here) (items_put t there pokes (image_at t).regs memory)
      by false = taken_away memory here refl

pub answered_calls_are_none : AnsweredCallsAreNone
answered_calls_are_none t memory r edit answer there is e = by_edit t there (has_number (image_at t).regs (memory_at t) r is) memory answer edit e
