-- Instructions on memories that are equal but for marked bytes.
use Rattle.std.proofs.Common.{◌≡◌, ℕ, zero, suc, ◌+◌, false, refl, ap, subst}
use Rattle.std.specs.Prelude.{Option, None}
use Rattle.rv_mem.specs.declared.regs.Regs.{Regs}
use Rattle.rv_mem.specs.Memory.{Memory}
use Rattle.rv_mem.specs.Actions.{CarriedOut, carried_out, AreEqualUnmarked}
use Rattle.rv_mem.proofs.ActionLemmas.{flag_stays, reads_alike}
use Rattle.rv_cpu.specs.declared.event.Event.{Event}
use Rattle.rv_cpu.specs.declared.event.Event.TheVariants.{Next, Call, Killed}
use Rattle.rv_cpu.specs.declared.reservation.Held.{Held}
use Rattle.rv_cpu.specs.Step.{Stepped, step}
use Rattle.rv_cpu.specs.Run.{ran_holding}
use Rattle.rv_cpu.specs.Laws.{EndAlike, StepsAreAlike, RunsAreAlike}
use Rattle.rv_cpu.proofs.RunLemmas.{by_event}

pub steps-alike : StepsAreAlike
steps-alike s held = reads_alike (step s held)

-- a marked byte that the first instruction read stays known
first_flag : (fuel : ℕ) → ((held : Option Held) (s : Regs) (m : Memory) → (ran_holding fuel held s m).memory.read_marked ≡ false → m.read_marked ≡ false)
    → (event : Event) (first : CarriedOut Stepped) → (by_event event fuel first).memory.read_marked ≡ false → first.memory.read_marked ≡ false
first_flag fuel stays Next first h = stays first.reply.held first.reply.regs first.memory h
first_flag fuel stays Call first h = h
first_flag fuel stays (Killed signal) first h = h

run_flag : (fuel : ℕ) (held : Option Held) (s : Regs) (m : Memory) → (ran_holding fuel held s m).memory.read_marked ≡ false → m.read_marked ≡ false
unfolding ran_holding
run_flag zero held s m h = h
run_flag (suc fuel) held s m h =
    let first = carried_out (step s held) m in
    flag_stays (step s held) m (first_flag fuel (run_flag fuel) first.reply.event first h)

-- the rest of a run, where the first instruction ended with this event and these registers
rest_alike : (fuel : ℕ) → ((held : Option Held) (s : Regs) (m w : Memory) → AreEqualUnmarked m.pages w.pages → (ran_holding fuel held s m).memory.read_marked ≡ false → EndAlike (ran_holding fuel held s m) (ran_holding fuel held s w))
    → (event : Event) (first : Stepped) (m w : Memory) → AreEqualUnmarked m.pages w.pages
    → (by_event event fuel (record { reply = first; memory = m })).memory.read_marked ≡ false
    → EndAlike (by_event event fuel (record { reply = first; memory = m })) (by_event event fuel (record { reply = first; memory = w }))
rest_alike fuel alike Next first m w same h =
    let rest = alike first.held first.regs m w same h in
    record { event = rest.event; regs = rest.regs; done = ap (λ n. 1 + n) rest.done; memory = rest.memory }
rest_alike fuel alike Call first m w same h = record { event = refl; regs = refl; done = refl; memory = same }
rest_alike fuel alike (Killed signal) first m w same h = record { event = refl; regs = refl; done = refl; memory = same }

runs_alike : (fuel : ℕ) (held : Option Held) (s : Regs) (m w : Memory) → AreEqualUnmarked m.pages w.pages
    → (ran_holding fuel held s m).memory.read_marked ≡ false → EndAlike (ran_holding fuel held s m) (ran_holding fuel held s w)
unfolding ran_holding
runs_alike zero held s m w same h = record { event = refl; regs = refl; done = refl; memory = same }
runs_alike (suc fuel) held s m w same h =
    let first = carried_out (step s held) m in
    let other = carried_out (step s held) w in
    let unread = first_flag fuel (run_flag fuel) first.reply.event first h in
    let both = reads_alike (step s held) m w same unread in
    subst (λ (r : Stepped). EndAlike (by_event first.reply.event fuel first) (by_event r.event fuel (record { reply = r; memory = other.memory }))) both.0
    (rest_alike fuel (runs_alike fuel) first.reply.event first.reply first.memory other.memory both.1 h)

pub runs-alike : RunsAreAlike
runs-alike fuel s m w same h = runs_alike fuel None s m w same h
