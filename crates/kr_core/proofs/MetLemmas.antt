-- Whether the process directory was met, in a call and in a turn.
use Rattle.std.proofs.Common.{◌≡◌, ◌∙◌, ◌||◌, ℕ, Bool, List, [], ap, subst, sym}
use Rattle.kr_turns.specs.Breaking.{nothing_reached}
use Rattle.kr_turns.specs.Making.{EndsAs}
use Rattle.kr_turns.specs.PlainCall.{plain_reach}
use Rattle.kr_turns.specs.Turn.{Machine, calling}
use Rattle.kr_turns.specs.declared.steps.Halt.{Halt}
use Rattle.kr_turns.specs.declared.steps.Halt.TheVariants as halt
use Rattle.kr_turns.specs.declared.steps.Stretch.{Stretch}
use Rattle.kr_turns.specs.kr_stops.Stopped.{Stopped}
use Rattle.kr_turns.specs.kr_stops.Watching.{Watching}
use Rattle.kr_turns.specs.kr_view.View.{Row}
use Rattle.kr_turns.specs.rv_cpu.Run.{ran}
use Rattle.kr_turns.specs.rv_cpu.declared.event.Event.{Event}
use Rattle.kr_turns.specs.rv_cpu.declared.event.Event.TheVariants.{Call, Killed, Next}
use Rattle.kr_core.specs.Between.{paused_at}
use Rattle.kr_core.specs.Kernel.{Kernel, machine}
use Rattle.kr_core.specs.Moving.{Entry, computing}
use Rattle.kr_core.specs.Stepping.{HasMetAt, HasMetIn, HasMoved, HasRunFor, MetBehind}
use Rattle.kr_core.specs.declared.paused.Between.TheVariants.{AtCall}
use Rattle.kr_core.proofs.SteppingLemmas.{has-begun, own-pid}

module _ {S : Type 0} (marks : ℕ) (w : Watching S) (table : List Row) (asks : S → Stopped → Bool) where
  -- by how the instructions of a turn end
  abbrev pub MetIf : Halt → ℕ → Machine S → (one now : Bool) → Type 0
  MetIf halt.Spent pid mid one now = now ≡ one
  MetIf halt.AtCall pid mid one now = HasMetAt marks w table asks pid mid one now
  MetIf (halt.Killed status) pid mid one now = now ≡ one

  ends-met : (pid done : ℕ) (e : Event) (m mid : Machine S) (told : Stretch) (one now : Bool) → EndsAs w marks table pid done e m mid told → MetIf told.halt pid mid one now → MetBehind marks w table asks e pid m one now
  ends-met pid done Next m mid told one now ends met = subst (λ (h : Halt). MetIf h pid mid one now) ends.0 met
  ends-met pid done Call m mid told one now ends met = subst (λ (n : Machine S). HasMetAt marks w table asks pid n one now) ends.2 (subst (λ (h : Halt). MetIf h pid mid one now) ends.0 met)
  ends-met pid done (Killed signal) m mid told one now ends met = subst (λ (h : Halt). MetIf h pid mid one now) ends.0 met

module _ {P S T : Type 0} {M : ℕ} (number : T → ℕ) (w : Watching S) (table : List Row) (asks : S → Stopped → Bool) where
  -- in a whole call, from its two steps
  pub call-met : (pid : ℕ) (first entered : Kernel P S T M) (now : Bool) → first.paused ≡ paused_at pid AtCall [] → HasMoved number w table 0 pid Entry first entered
      → entered.met ≡ (first.met || asks first.stops (calling M pid (machine number first).state)) → now ≡ (entered.met || (plain_reach table pid (machine number entered).state nothing_reached).met_proc)
      → HasMetAt M w table asks pid (machine number first) first.met now
  call-met pid first entered now alone entry asked reached =
      let behind = (plain_reach table pid (machine number entered).state nothing_reached).met_proc in
      record { entered = machine number entered; enters = (has-begun number w table pid first entered alone entry).enters; met = reached ∙ ap (λ b. b || behind) asked }

  pub turn-met : (fuel pid : ℕ) (old mid new : Kernel P S T M) (told : Stretch) → HasRunFor number w table fuel pid old mid told → mid.met ≡ old.met → MetIf M w table asks told.halt pid (machine number mid) mid.met new.met
      → HasMetIn number w table asks fuel pid old new.met
  turn-met fuel pid old mid new told has same met =
      let p = has.own in
      let end = ran fuel p.image.regs p.image.memory in
      let m = computing p end.regs end.memory (machine number old) in
      let own = subst (λ n. MetIf M w table asks told.halt n (machine number mid) mid.met new.met) (sym (own-pid pid (machine number old).state p has.lives)) met in
      record {
        own = p;
        lives = has.lives;
        met = subst (λ b. MetBehind M w table asks end.event p.pid m b new.met) same (ends-met M w table asks p.pid end.done end.event m (machine number mid) told mid.met new.met has.ends own);
      }
