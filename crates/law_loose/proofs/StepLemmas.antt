-- A quiet step of a loose run keeps it beside the machine that makes the turns of its slots, and puts the bytes that these put.
use Rattle.std.proofs.Common.{◌≡◌, ℕ, ◌-◌, false, Option, Some, None, refl}
use Rattle.kr_loose.specs.kr_turns.rv_cpu.Run.{Ran, ran}
use Rattle.kr_loose.specs.kr_turns.rv_cpu.declared.event.Event.{Event}
use Rattle.kr_loose.specs.kr_turns.rv_cpu.declared.event.Event.TheVariants.{Next, Call, Killed}
use Rattle.kr_loose.specs.kr_model.State.{Image, Process}
use Rattle.kr_loose.specs.kr_turns.Turn.{Machine}
use Rattle.kr_loose.specs.kr_core.Between.{between_of}
use Rattle.kr_loose.specs.kr_core.Moving.{Moved, after_instructions, computing, moved}
use Rattle.kr_loose.specs.kr_core.declared.paused.Between.{Between}
use Rattle.kr_loose.specs.kr_core.declared.paused.Between.TheVariants.{AtCall, Done, Entered}
use Rattle.kr_loose.specs.LooseRun.{Loose, noted}
use Rattle.kr_loose.specs.Quiet.{IsUndisturbed, met_by}
use Rattle.kr_loose.specs.Slots.{slots_of_kind}
use Rattle.law_loose.specs.Images.{StepsLag}
use Rattle.law_loose.specs.Lagging.{GoesAlike}
use Rattle.law_loose.specs.Staying.{behind_turns}
use Rattle.law_loose.proofs.BelowLemmas.{Whole}
use Rattle.law_loose.proofs.OtherLemmas.{At, LagsOf, Stand, stands, step_by}
use Rattle.law_loose.proofs.StopLemmas.{entry-lags, exit-lags}
use Rattle.law_loose.proofs.RunningLemmas.{call-lags, kill-lags, next-lags}
use Rattle.law_loose.proofs.CallLemmas.{plain-lags}

module _ {S Part Kept : Type 0} (w : Whole S Part Kept) (pick fuel : ℕ) (p : Process ℕ Image) (n : Machine S) (x : Loose S) (st : Stand w pick p n x) where
  -- what is to be shown of what the process did
  abbrev IsFollowed : Moved S → Type 0
  IsFollowed made =
      met_by w.asks 0 w.table made.kind (step_by w pick p.pid made x) ≡ false → IsUndisturbed p.pid made.kind x.steps → w.Good (behind_turns w.f w.table (slots_of_kind pick made.kind) n)
      → LagsOf w n (slots_of_kind pick made.kind) (noted pick p.pid made x)

  runs-lag : GoesAlike w.f w.asks w.l p.pid n x.machine → between_of p.pid x.paused ≡ None → (end : Ran) → ran fuel p.image.regs p.image.memory ≡ end → (e : Event) → end.event ≡ e
      → IsFollowed (after_instructions w.f 0 w.table p.pid end.done e (computing p end.regs end.memory x.machine) x.paused)
  runs-lag runs stood end is Next event = λ unmet left good. next-lags w pick p n x st fuel runs stood end is end.done refl event good
  runs-lag runs stood end is Call event = λ unmet left good. call-lags w pick p n x st fuel runs stood end is event (end.done - 1) refl good
  runs-lag runs stood end is (Killed signal) event = λ unmet left good. kill-lags w pick p n x st fuel runs stood end is signal event end.done refl good

  by-between : (o : Option Between) → between_of p.pid x.paused ≡ o → At w p.pid o x.steps n x.machine → IsFollowed (moved w.f 0 w.table fuel p o x.machine x.paused)
  by-between None stood a = runs-lag a stood (ran fuel p.image.regs p.image.memory) refl (ran fuel p.image.regs p.image.memory).event refl
  by-between (Some AtCall) stood a = λ unmet left good. entry-lags w pick p n x st a unmet
  by-between (Some (Entered begun)) stood a = λ unmet left good. plain-lags w pick p n x st begun a stood left unmet good
  by-between (Some (Done handed)) stood a = λ unmet left good. exit-lags w pick p n x st handed a

pub steps-lag : {S Part Kept : Type 0} (w : Whole S Part Kept) → StepsLag w.f w.asks w.l w.fits w.Good w.Tame w.table
steps-lag w pick fuel n x p picked lags nothing_put good tame unmet left behind =
    let st = stands w pick p n x picked lags nothing_put good tame in
    by-between w pick fuel p n x st (between_of p.pid x.paused) refl (lags.each p.pid) unmet left behind
