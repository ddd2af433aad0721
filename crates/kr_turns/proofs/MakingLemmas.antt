-- The steps of a turn in code are those of the state with the numbers of its mounts.
use Rattle.std.proofs.Common.{◌≡◌, ◌<◌, ℕ, zero, suc, Bool, List, Option, Some, None, refl, sym, ap, subst, arith, ◌∙◌}
use Rattle.std.specs.Prelude.{IsSome, OnOk, Result, Ok, Err}
use Rattle.std.specs.Option.{option_map}
use Rattle.std.proofs.lemmas.Option.{same_Some}
use Rattle.kr_steps.specs.rv_cpu.Run.{Ran, after_one, counted, ran, ran_holding}
use Rattle.kr_steps.specs.rv_cpu.Step.{Stepped, step}
use Rattle.kr_steps.specs.rv_cpu.declared.event.Event.{Event}
use Rattle.kr_steps.specs.rv_cpu.declared.event.Event.TheVariants.{Next, Call, Killed}
use Rattle.kr_steps.specs.rv_cpu.declared.reservation.Held.{Held}
use Rattle.kr_steps.specs.rv_mem.Actions.{CarriedOut, carried_out}
use Rattle.kr_steps.specs.rv_mem.Memory.{Memory}
use Rattle.kr_steps.specs.rv_mem.declared.regs.Regs.{Regs}
use Rattle.kr_execve.specs.kr_view.View.{Row}
use Rattle.kr_steps.specs.kr_model.Applied.{Mounts, images}
use Rattle.kr_steps.specs.kr_model.Change.{End}
use Rattle.kr_steps.specs.kr_model.State as model
use Rattle.kr_steps.specs.kr_model.State.{Image, Process}
use Rattle.kr_calm.proofs.law_lawful.AfterLemmas.{some-of}
use Rattle.kr_calm.proofs.law_lawful.ProcessChangeLemmas.{found-passes}
use Rattle.kr_calm.proofs.law_lawful.SumLemmas.{passed-test}
use Rattle.kr_hostview.specs.kr_ops.declared.state.State.{State}
use Rattle.kr_hostview.specs.kr_ops.Making.{Makes}
use Rattle.kr_hostview.specs.kr_ops.Living.{HasPid}
use Rattle.kr_hostview.specs.kr_ops.Meaning.{meaning}
use Rattle.kr_hostview.specs.kr_ops.Sound.{IsSound}
use Rattle.kr_hostview.proofs.kr_ops.OpeningLemmas.{found}
use Rattle.kr_calm.specs.kr_seen.Numbered.{process_numbered, state_numbered}
use Rattle.kr_calm.proofs.kr_seen.ChangeLemmas.{change-numbered}
use Rattle.kr_calm.proofs.kr_seen.LookLemmas.{process-numbered}
use Rattle.kr_steps.specs.Computing.{Computes, computed}
use Rattle.kr_steps.specs.kr_stops.declared.handed.Handed.{Handed}
use Rattle.kr_steps.specs.kr_stops.Remembering.{KeepsOthersFree}
use Rattle.kr_steps.specs.kr_stops.Stopped.{nothing_handed}
use Rattle.kr_steps.specs.kr_stops.Watching.{Watching}
use Rattle.kr_steps.proofs.kr_stops.EditLemmas.{computed-lives}
use Rattle.kr_calm.specs.Calm.{kept}
use Rattle.kr_calm.specs.declared.rule.Rule.{Rule}
use Rattle.kr_turns.specs.Breaking.{plain_rule}
use Rattle.kr_turns.specs.CallSteps.{IsCarriedBy, behind_if}
use Rattle.kr_turns.specs.Coming.{came_to}
use Rattle.kr_turns.specs.Held.{stopped_in}
use Rattle.kr_turns.specs.Making.{EndsAs, IsCallMade, IsEntryMade, IsExitMade, IsLeftBehind, LeavesOthers, ended_with, machine_of}
use Rattle.kr_turns.specs.PlainCall.{Came, plain_call}
use Rattle.kr_turns.specs.Shelving.{lacks_in, shelved_in}
use Rattle.kr_turns.specs.Turn.{IsBorn, Machine, Tally, killed, with_broken}
use Rattle.kr_turns.specs.declared.plain.Plain.{Plain}
use Rattle.kr_turns.specs.declared.steps.After.TheVariants.{Behind, Gone}
use Rattle.kr_turns.specs.declared.steps.CallMade.{CallMade}
use Rattle.kr_turns.specs.declared.steps.Stretch.{Stretch}
use Rattle.kr_turns.proofs.ApartLemmas.{computed-leaves}
use Rattle.kr_turns.proofs.NumberLemmas.{computed-numbered, some-of-map}

-- ---- outcomes

-- what holds whatever it is
pub whatever : {A E : Type 0} (r : Result A E) {P : Type 0} → P → OnOk r P
whatever (Ok x) h = h
whatever (Err e) h = tt

pub kept-none : (rule : Option Rule) → kept rule None ≡ rule
kept-none None = refl
kept-none (Some rule) = refl

-- a watcher that is left as it was
pub left-free : {S : Type 0} (is_free : S → ℕ → Type 0) (pid : ℕ) (x : S) → KeepsOthersFree is_free pid x x
left-free is_free pid x = record { keeps = λ q apart free. free }

-- ---- how many instructions are done

-- an instruction is done, whatever it comes to
event_done : (e : Event) (first : CarriedOut Stepped) (rest : Ran) → 0 < (elim e as (λ (x : Event). Ran) [ Next ↦ counted 1 rest | Call ↦ after_one first | Killed signal ↦ after_one first ]).done
event_done Next first rest = omega arith
event_done Call first rest = omega arith
event_done (Killed signal) first rest = omega arith

pub one_done : (fuel : ℕ) (held : Option Held) (regs : Regs) (memory : Memory) → 0 < fuel → 0 < (ran_holding fuel held regs memory).done
unfolding ran_holding
one_done zero held regs memory enough = absurd (omega arith)
one_done (suc fuel) held regs memory enough =
    let first : CarriedOut Stepped = carried_out (step regs held) memory in
    event_done first.reply.event first (ran_holding fuel first.reply.held first.reply.regs first.memory)

-- a call is one
pub call_done : (fuel : ℕ) (held : Option Held) (regs : Regs) (memory : Memory) → (ran_holding fuel held regs memory).event ≡ Call → 0 < (ran_holding fuel held regs memory).done
unfolding ran_holding
call_done zero held regs memory called = absurd cc
call_done (suc fuel) held regs memory called = one_done (suc fuel) held regs memory (omega arith)

module _ {S T : Type 0} {M : ℕ} (w : Watching S) (number : T → ℕ) (pid : ℕ) where
  -- ---- instructions

  pub stretch-after : (fuel : ℕ) (old mid : State T M) (event own : Event) (done : ℕ) → Computes pid fuel old mid event done → event ≡ own
      → (table : List Row) (p : Process ℕ Image) → model.process pid (state_numbered number (meaning old)) ≡ Some p → (x : S) (tally : Tally) (new : Machine S) (told : Stretch)
      → EndsAs w M table pid done own (machine_of number mid x tally) new told
      → EndsAs w M table p.pid (ran fuel p.image.regs p.image.memory).done (ran fuel p.image.regs p.image.memory).event
      (record { state = computed p.pid (ran fuel p.image.regs p.image.memory).regs (ran fuel p.image.regs p.image.memory).memory (state_numbered number (meaning old)); watcher = x; tally = tally }) new told
  stretch-after fuel old mid event own done c is table p found x tally new told after =
      subst
      (λ (q : Process ℕ Image). EndsAs w M table q.pid (ran fuel q.image.regs q.image.memory).done (ran fuel q.image.regs q.image.memory).event (record { state = computed q.pid (ran fuel q.image.regs q.image.memory).regs (ran fuel q.image.regs q.image.memory).memory (state_numbered number (meaning old)); watcher = x; tally = tally }) new told)
      same
      (subst (λ n. EndsAs w M table n (ran fuel c.process.image.regs c.process.image.memory).done (ran fuel c.process.image.regs c.process.image.memory).event (record { state = computed n (ran fuel c.process.image.regs c.process.image.memory).regs (ran fuel c.process.image.regs c.process.image.memory).memory (state_numbered number (meaning old)); watcher = x; tally = tally }) new told) (sym numbered-pid)
      (subst (λ (t : model.State ℕ Image). EndsAs w M table pid (ran fuel c.process.image.regs c.process.image.memory).done (ran fuel c.process.image.regs c.process.image.memory).event (record { state = t; watcher = x; tally = tally }) new told) leaves
      (subst (λ e. EndsAs w M table pid (ran fuel c.process.image.regs c.process.image.memory).done e (machine_of number mid x tally) new told) (sym is ∙ c.ends)
      (subst (λ n. EndsAs w M table pid n own (machine_of number mid x tally) new told) c.counts after))))
    where
      same : process_numbered number c.process ≡ p
      same = same_Some (process_numbered number c.process) p (sym (process-numbered number pid (meaning old) ∙ ap (option_map (process_numbered number)) c.lives) ∙ found)

      numbered-pid : c.process.pid ≡ pid
      numbered-pid = passed-test c.process.pid pid (found-passes (model.is_pid pid) (meaning old).living c.process c.lives)

      leaves : state_numbered number (meaning mid) ≡ computed pid (ran fuel c.process.image.regs c.process.image.memory).regs (ran fuel c.process.image.regs c.process.image.memory).memory (state_numbered number (meaning old))
      leaves = ap (state_numbered number) c.leaves ∙ computed-numbered number pid (ran fuel c.process.image.regs c.process.image.memory).regs (ran fuel c.process.image.regs c.process.image.memory).memory (meaning old)

  -- ---- the steps of a call

  pub entry-made : (old shelved entered : State T M) (x entering : S) (no_shelf : Bool) → state_numbered number (meaning shelved) ≡ shelved_in M pid (state_numbered number (meaning old))
      → w.enters x (stopped_in number shelved pid nothing_handed) entering (stopped_in number entered pid nothing_handed)
      → no_shelf ≡ lacks_in M pid (state_numbered number (meaning old)) → IsEntryMade w number pid old x entered entering no_shelf
  entry-made old shelved entered x entering no_shelf marks enters lacks = record {
    lacks = lacks;
    enters = λ tally. record {
      stopped = stopped_in number entered pid nothing_handed;
      enters = subst (λ (s : model.State ℕ Image). w.enters x (record { state = s; pid = pid; handed = nothing_handed }) entering (stopped_in number entered pid nothing_handed)) marks enters;
      state = refl;
      same = refl;
    };
  }

  pub exit-made : (handed : Handed) (old new : State T M) (x y : S) → w.exits x (stopped_in number old pid handed) y (stopped_in number new pid handed) → IsExitMade w number pid handed old x new y
  exit-made handed old new x y exits = record { exits = λ tally. record { left = stopped_in number new pid handed; exits = exits; state = refl; same = refl } }

  pub call-made : (table : List Row) (no_shelf : Bool) (old came : State T M) (x bearing y : S) (plain : Plain) (made : CallMade) → came_to number came plain ≡ plain_call table pid (state_numbered number (meaning old))
      → IsBorn w pid plain.child x bearing → made.broken ≡ plain_rule M table pid no_shelf (state_numbered number (meaning old)) → IsLeftBehind w number pid plain came bearing y made.after made.status
      → IsCallMade w number table pid no_shelf old x came y made
  call-made table no_shelf old came x bearing y plain made plainly born rule left = record {
    carried = λ tally.
        let s = state_numbered number (meaning old) in
        record {
          bearing = bearing;
          born = subst (λ (c : Came). IsBorn w pid c.child x bearing) plainly born;
          carried =
              subst (λ (broken : Option Rule). IsCarriedBy w pid (plain_call table pid s).end (plain_call table pid s) bearing (with_broken broken tally) (record { machine = machine_of number came y (ended_with made.status (with_broken made.broken tally)); after = made.after })) rule
              (subst (λ (c : Came). IsCarriedBy w pid c.end c bearing (with_broken made.broken tally) (record { machine = machine_of number came y (ended_with made.status (with_broken made.broken tally)); after = made.after })) plainly
              (left (with_broken made.broken tally)));
        };
  }

module _ {T : Type 0} {M : ℕ} (number : T → ℕ) (pid : ℕ) where
  pub computed-others : (fuel : ℕ) (old mid : State T M) (event : Event) (done : ℕ) → Computes pid fuel old mid event done → LeavesOthers pid (state_numbered number (meaning old)) (state_numbered number (meaning mid))
  computed-others fuel old mid event done c =
      let end : Ran = ran fuel c.process.image.regs c.process.image.memory in
      computed-leaves pid end.regs end.memory (state_numbered number (meaning old)) (state_numbered number (meaning mid))
      (ap (state_numbered number) c.leaves ∙ computed-numbered number pid end.regs end.memory (meaning old))

  pub killed-now : (signal : ℕ) (mid new : State T M) → Makes pid (End signal) mid new → state_numbered number (meaning new) ≡ killed pid signal (state_numbered number (meaning mid))
  killed-now signal mid new makes =
      let none : Mounts T = record { found = None; directory = None } in
      ap (state_numbered number) (makes none) ∙ change-numbered number images none pid (End signal) (meaning mid)

  pub lives-numbered : (s : State T M) → IsSome (model.process pid (meaning s)) → IsSome (model.process pid (state_numbered number (meaning s)))
  lives-numbered s lives =
      let own = some-of (model.process pid (meaning s)) lives in
      subst IsSome (sym (process-numbered number pid (meaning s) ∙ ap (option_map (process_numbered number)) own.1)) refl

  pub lives-meant : (s : State T M) → IsSome (model.process pid (state_numbered number (meaning s))) → IsSome (model.process pid (meaning s))
  lives-meant s lives = some-of-map (process_numbered number) (model.process pid (meaning s)) (subst IsSome (process-numbered number pid (meaning s)) lives)

  -- one that lives comes to the second stop, and another doesn't
  pub behind-some : (handed : Handed) (s : State T M) → IsSome (model.process pid (meaning s)) → Behind handed ≡ behind_if handed (model.process pid (state_numbered number (meaning s)))
  behind-some handed s lives =
      let own = some-of (model.process pid (meaning s)) lives in
      sym (ap (behind_if handed) (process-numbered number pid (meaning s) ∙ ap (option_map (process_numbered number)) own.1))

  pub behind-none : (handed : Handed) (s : State T M) → model.process pid (meaning s) ≡ None → Gone ≡ behind_if handed (model.process pid (state_numbered number (meaning s)))
  behind-none handed s none = sym (ap (behind_if handed) (process-numbered number pid (meaning s) ∙ ap (option_map (process_numbered number)) none))

-- it lives after its instructions
pub computed-still : {T : Type 0} {M : ℕ} (pid fuel : ℕ) (old mid : State T M) (event : Event) (done : ℕ) → Computes pid fuel old mid event done → IsSome (model.process pid (meaning mid))
computed-still {T = T} pid fuel old mid event done c =
    subst (λ (t : model.State T Image). IsSome (model.process pid t)) (sym c.leaves)
    (computed-lives pid (ran fuel c.process.image.regs c.process.image.memory).regs (ran fuel c.process.image.regs c.process.image.memory).memory (meaning old) (subst IsSome (sym c.lives) refl))

-- a process at an index lives
pub found-lives : {T : Type 0} {M : ℕ} (s : State T M) (pid k : ℕ) → IsSound s → HasPid pid k s.living.items → IsSome (model.process pid (meaning s))
found-lives s pid k sound at = subst IsSome (sym (found s pid k at.process sound at at.there)) refl
