-- Instructions one after the other.
use Rattle.std.proofs.Common.{◌≡◌, ◌≢◌, ℕ, zero, suc, ◌+◌, ◌-◌, ◌<◌, ◌≤◌, refl, ap, ◌∙◌, arith}
use Rattle.std.specs.Prelude.{Option}
use Rattle.rv_mem.specs.declared.regs.Regs.{Regs}
use Rattle.rv_mem.specs.Memory.{Memory}
use Rattle.rv_mem.specs.Actions.{CarriedOut, carried_out}
use Rattle.rv_cpu.specs.declared.event.Event.{Event}
use Rattle.rv_cpu.specs.declared.event.Event.TheVariants.{Next, Call, Killed}
use Rattle.rv_cpu.specs.declared.reservation.Held.{Held}
use Rattle.rv_cpu.specs.Step.{Stepped, step}
use Rattle.rv_cpu.specs.Run.{Ran, at_rest, after_one, counted, ran_holding}

pub ran-zero : (held : Option Held) (s : Regs) (m : Memory) → ran_holding zero held s m ≡ at_rest s m
unfolding ran_holding
ran-zero held s m = refl

-- what is made of the first instruction, by its event
abbrev pub by_event : Event → ℕ → CarriedOut Stepped → Ran
by_event event fuel first =
    elim event [
      | Next ↦ counted 1 (ran_holding fuel first.reply.held first.reply.regs first.memory)
      | Call ↦ after_one first
      | Killed signal ↦ after_one first
    ]

by_event-next : (event : Event) (fuel : ℕ) (first : CarriedOut Stepped) → event ≡ Next → by_event event fuel first ≡ counted 1 (ran_holding fuel first.reply.held first.reply.regs first.memory)
by_event-next event fuel first is = ap (λ e. by_event e fuel first) is

by_event-stop : (event : Event) (fuel : ℕ) (first : CarriedOut Stepped) → event ≢ Next → by_event event fuel first ≡ after_one first
by_event-stop Next fuel first isnt = absurd (isnt refl)
by_event-stop Call fuel first isnt = refl
by_event-stop (Killed signal) fuel first isnt = refl

pub ran-next : (fuel : ℕ) (held : Option Held) (s : Regs) (m : Memory) → (carried_out (step s held) m).reply.event ≡ Next
    → ran_holding (suc fuel) held s m ≡ counted 1 (ran_holding fuel (carried_out (step s held) m).reply.held (carried_out (step s held) m).reply.regs (carried_out (step s held) m).memory)
unfolding ran_holding
ran-next fuel held s m is = by_event-next (carried_out (step s held) m).reply.event fuel (carried_out (step s held) m) is

pub ran-stop : (fuel : ℕ) (held : Option Held) (s : Regs) (m : Memory) → (carried_out (step s held) m).reply.event ≢ Next → ran_holding (suc fuel) held s m ≡ after_one (carried_out (step s held) m)
unfolding ran_holding
ran-stop fuel held s m isnt = by_event-stop (carried_out (step s held) m).reply.event fuel (carried_out (step s held) m) isnt

-- ---- the same where a counter goes up to the fuel

counted-add : (a b : ℕ) (r : Ran) → counted a (counted b r) ≡ counted (a + b) r
counted-add a b r =
    let e : a + (b + r.done) ≡ a + b + r.done = omega arith in
    ap (λ n. record { event = r.event; regs = r.regs; memory = r.memory; done = n }) e

pub ran-below_next : (fuel done : ℕ) (held : Option Held) (s : Regs) (m : Memory) → done < fuel → (carried_out (step s held) m).reply.event ≡ Next
    → counted done (ran_holding (fuel - done) held s m) ≡ counted (done + 1) (ran_holding (fuel - (done + 1)) (carried_out (step s held) m).reply.held (carried_out (step s held) m).reply.regs (carried_out (step s held) m).memory)
ran-below_next fuel done held s m below is =
    let e : fuel - done ≡ suc (fuel - (done + 1)) = omega arith in
    ap (λ k. counted done (ran_holding k held s m)) e
    ∙ ap (counted done) (ran-next (fuel - (done + 1)) held s m is)
    ∙ counted-add done 1 (ran_holding (fuel - (done + 1)) (carried_out (step s held) m).reply.held (carried_out (step s held) m).reply.regs (carried_out (step s held) m).memory)

pub ran-below_stop : (fuel done : ℕ) (held : Option Held) (s : Regs) (m : Memory) → done < fuel → (carried_out (step s held) m).reply.event ≢ Next
    → counted done (ran_holding (fuel - done) held s m) ≡ counted done (after_one (carried_out (step s held) m))
ran-below_stop fuel done held s m below isnt =
    let e : fuel - done ≡ suc (fuel - (done + 1)) = omega arith in
    ap (λ k. counted done (ran_holding k held s m)) e ∙ ap (counted done) (ran-stop (fuel - (done + 1)) held s m isnt)

pub ran-past : (fuel done : ℕ) (held : Option Held) (s : Regs) (m : Memory) → fuel ≤ done → counted done (ran_holding (fuel - done) held s m) ≡ counted done (at_rest s m)
ran-past fuel done held s m past =
    let e : fuel - done ≡ zero = omega arith in
    ap (λ k. counted done (ran_holding k held s m)) e ∙ ap (counted done) (ran-zero held s m)
