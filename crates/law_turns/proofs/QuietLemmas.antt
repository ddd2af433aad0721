-- Turns in which no call is made, of machines that match.
use Rattle.std.proofs.Common.{◌≡◌, ◌≢◌, ℕ, Bool, true, false, cond, Option, Some, None, refl, sym, ap, subst, ◌∙◌, length, eq-eqb}
use Rattle.std.specs.Prelude.{◌||◌, ◌%◌, IsSome, List}
use Rattle.std.specs.Option.{option_map, option_map_or}
use Rattle.std.proofs.lemmas.Option.{same_Some}
use Rattle.std.proofs.lemmas.Bool.{or_parts}
use Rattle.pt_results.specs.rv_mem.Memory.{Memory}
use Rattle.pt_results.specs.rv_mem.declared.regs.Regs.{Regs}
use Rattle.kr_core.specs.rv_cpu.Run.{Ran, ran}
use Rattle.kr_core.specs.rv_cpu.declared.event.Event.{Event}
use Rattle.kr_core.specs.rv_cpu.declared.event.Event.TheVariants.{Next, Call, Killed}
use Rattle.pt_results.specs.pt_bind.Tags.{TagTable}
use Rattle.law_places.specs.kr_view.View.{Row, plain}
use Rattle.kr_core.proofs.law_lawful.ProcessChangeLemmas.{found}
use Rattle.law_places.specs.kr_model.Lawful.{IsLawful, RiseFrom}
use Rattle.law_places.specs.kr_model.State.{Image, Process, State, at_pid, process}
use Rattle.kr_core.proofs.law_allowed.RowLemmas.{lawful-image}
use Rattle.kr_core.specs.kr_seen.Carrying.{memory_of, no_memory}
use Rattle.law_places.specs.kr_calm.Calm.{kept}
use Rattle.kr_core.proofs.KernelLemmas.{found-of}
use Rattle.kr_core.specs.kr_steps.Computing.{computed}
use Rattle.kr_core.specs.kr_steps.Waiting.{goes_on, picked_process, ready_processes}
use Rattle.kr_core.proofs.kr_steps.ComputingLemmas.{ran-stays-like}
use Rattle.kr_core.specs.kr_turns.Breaking.{idle_rule, killed_rule}
use Rattle.kr_core.specs.kr_turns.Turn.{Machine, after_event, by_pick, turn, turn_of}
use Rattle.kr_core.specs.kr_stops.Watching.{Watcher}
use Rattle.law_places.specs.Matching.{IsMatch}
use Rattle.law_places.proofs.TagLemmas.{found_is}
use Rattle.law_turns.specs.Quiet.{DropsTags, MachinesMatch, MakesNoCall, QuietTurnsKeepMatches}
use Rattle.law_turns.specs.Turning.{ComputeAlike}
use Rattle.law_turns.proofs.DeathLemmas.{deaths_keep_matches}
use Rattle.law_turns.proofs.ImageLemmas.{given}
use Rattle.law_turns.proofs.MatchLemmas.{pids_in, same_pids}
use Rattle.law_turns.proofs.PickLemmas.{matches_go_on_alike}
use Rattle.law_turns.proofs.RunLemmas.{instructions_alike}
use Rattle.law_places.specs.kr_calm.declared.rule.Rule.{Rule}
use Rattle.law_places.specs.kr_calm.declared.rule.Rule.TheVariants.{Unread}

-- ---- the calm rules

pub kept_none : (before now : Option Rule) → kept before now ≡ None → now ≡ None
kept_none None now e = e
kept_none (Some rule) now e = absurd (never e)
  where
    never : {A : Type 0} {a : A} → Some a ≡ None → ⊥
    never e = cc

pub first_unbroken : (first : Bool) (other : Option Rule) → cond first (Some Unread) other ≡ None → first ≡ false
first_unbroken false other e = refl
first_unbroken true other e = absurd (never e)
  where
    never : {A : Type 0} {a : A} → Some a ≡ None → ⊥
    never e = cc

-- ---- the process that runs

pub picked_lives : (next : ℕ) (s : State ℕ Image) (pick : ℕ) (p : Process ℕ Image) → RiseFrom 2 next (pids_in s.living) → picked_process s pick ≡ Some p → process p.pid s ≡ Some p
picked_lives next s pick p rise is = (found-of next (goes_on s) 2 s.living (pick % length (ready_processes s)) p rise is).1

pub memory_computed : (pid : ℕ) (regs : Regs) (memory : Memory) (s : State ℕ Image) (p : Process ℕ Image) → process pid s ≡ Some p → memory_of pid (computed pid regs memory s) ≡ memory
memory_computed pid regs memory s p lives = ap (λ (o : Option (Process ℕ Image)). option_map_or (λ p. p.image.memory) o no_memory) (found pid (given pid regs memory) (λ p. refl) pid s.living ∙ ap (option_map (at_pid pid (given pid regs memory))) lives ∙ own)
  where
    own : option_map (at_pid pid (given pid regs memory)) (Some p) ≡ Some (given pid regs memory p)
    own = ap (λ b. Some (cond b (given pid regs memory p) p)) (eq-eqb p.pid pid (found_is pid s.living p lives))

-- ---- a turn of it

module _ {S T : Type 0} (watcher : Watcher S) (tracer : Watcher T) (tags_in : T → TagTable) (drops : DropsTags tracer tags_in) (table : List Row) where
  module _ (pid : ℕ) (m : Machine S) (n : Machine T) where
    unread : (e : Event) → e ≢ Call → (after_event watcher 1 table pid e m).tally.broken ≡ None → (memory_of pid m.state).read_marked ≡ false
    unread Next quiet calm = (or_parts (memory_of pid m.state).read_marked false (first_unbroken ((memory_of pid m.state).read_marked || false) _ (kept_none m.tally.broken (idle_rule 1 table pid false m.state) calm))).0
    unread (Killed signal) quiet calm = (or_parts (memory_of pid m.state).read_marked false (first_unbroken ((memory_of pid m.state).read_marked || false) _ (kept_none m.tally.broken (killed_rule 1 table pid signal m.state) calm))).0
    unread Call quiet calm = absurd (quiet refl)

    ends_alike : (e : Event) → e ≢ Call → (after_event watcher 1 table pid e m).tally.broken ≡ None → IsSome (process pid m.state) → IsLawful (λ m. m) plain n.state → MachinesMatch tags_in table m n
        → MachinesMatch tags_in table (after_event watcher 1 table pid e m) (after_event tracer 0 plain pid e n)
    ends_alike Next quiet calm lives lawful match = record { states = match.states; statuses = match.statuses }
    ends_alike (Killed signal) quiet calm lives lawful match = record {
      states =
          subst (λ tags. IsMatch table tags (after_event watcher 1 table pid (Killed signal) m).state (after_event tracer 0 plain pid (Killed signal) n).state) (sym (drops n.watcher pid))
          (deaths_keep_matches table pid signal m.state n.state (tags_in n.watcher) lives (kept_none m.tally.broken (killed_rule 1 table pid signal m.state) calm) lawful match.states);
      statuses = refl;
    }
    ends_alike Call quiet calm lives lawful match = absurd (quiet refl)

  module _ (fuel : ℕ) (m : Machine S) (n : Machine T) (p q : Process ℕ Image) (lives : process p.pid m.state ≡ Some p) (also : process p.pid n.state ≡ Some q) (lawful : IsLawful (λ m. m) plain n.state) (match : MachinesMatch tags_in table m n) where
    abbrev ends : Ran
    ends = ran fuel p.image.regs p.image.memory

    abbrev other_ends : Ran
    other_ends = ran fuel q.image.regs q.image.memory

    abbrev run : Machine S
    run = record { state = computed p.pid ends.regs ends.memory m.state; watcher = m.watcher; tally = m.tally }

    abbrev other_run : Machine T
    other_run = record { state = computed p.pid other_ends.regs other_ends.memory n.state; watcher = n.watcher; tally = n.tally }

    pub computes_alike : ends.event ≢ Call → (after_event watcher 1 table p.pid ends.event run).tally.broken ≡ None → ComputeAlike table (tags_in n.watcher) p.pid fuel m.state n.state p q
    computes_alike quiet calm =
        let clean : ends.memory.read_marked ≡ false = ap (λ (x : Memory). x.read_marked) (sym (memory_computed p.pid ends.regs ends.memory m.state p lives)) ∙ unread p.pid run other_run ends.event quiet calm in
        instructions_alike table (tags_in n.watcher) p.pid m.state n.state p q match.states lives also fuel clean

    turned_alike : ends.event ≢ Call → (after_event watcher 1 table p.pid ends.event run).tally.broken ≡ None → MachinesMatch tags_in table (after_event watcher 1 table p.pid ends.event run) (after_event tracer 0 plain p.pid other_ends.event other_run)
    turned_alike quiet calm =
        let alike = computes_alike quiet calm in
        let own = lawful.processes p.pid q also in
        let like = ran-stays-like fuel None q.image.regs q.image.memory own.whole own.paged in
        let there : IsSome (process p.pid run.state) = subst IsSome (sym (found p.pid (given p.pid ends.regs ends.memory) (λ p. refl) p.pid m.state.living ∙ ap (option_map (at_pid p.pid (given p.pid ends.regs ends.memory))) lives)) refl in
        subst (λ e. MachinesMatch tags_in table (after_event watcher 1 table p.pid ends.event run) (after_event tracer 0 plain p.pid e other_run)) alike.ends.event
        (ends_alike p.pid run other_run ends.event quiet calm there (lawful-image (λ m. m) plain n.state lawful p.pid q also other_ends.memory like (λ _. other_ends.regs)) (record { states = alike.matches; statuses = match.statuses }))

-- ---- a turn of whoever is picked

-- the plain machine makes no call either
pub record AreQuietAlike {S T : Type 0} (watcher : Watcher S) (tracer : Watcher T) (tags_in : T → TagTable) (table : List Row) (pick fuel : ℕ) (m : Machine S) (n : Machine T) : Type 0 where
  pub matches : MachinesMatch tags_in table (turn watcher 1 table pick fuel m) (turn tracer 0 plain pick fuel n)
  pub quiet : MakesNoCall fuel (picked_process n.state pick)

pub quiet_alike : {S T : Type 0} (watcher : Watcher S) (tracer : Watcher T) (tags_in : T → TagTable) (table : List Row) (pick fuel : ℕ) (m : Machine S) (n : Machine T) → DropsTags tracer tags_in → MakesNoCall fuel (picked_process m.state pick)
    → (turn watcher 1 table pick fuel m).tally.broken ≡ None → IsLawful (λ m. m) plain n.state → MachinesMatch tags_in table m n → AreQuietAlike watcher tracer tags_in table pick fuel m n
quiet_alike {S} {T} watcher tracer tags_in table pick fuel m n drops quiet calm lawful match = by (picked_process m.state pick) refl (picked_process n.state pick) refl ((matches_go_on_alike table (tags_in n.watcher) m n match.states).picks pick) quiet calm
  where
    by : (x : Option (Process ℕ Image)) → picked_process m.state pick ≡ x → (y : Option (Process ℕ Image)) → picked_process n.state pick ≡ y → option_map (λ p. p.pid) (picked_process m.state pick) ≡ option_map (λ p. p.pid) (picked_process n.state pick)
        → MakesNoCall fuel (picked_process m.state pick) → (turn watcher 1 table pick fuel m).tally.broken ≡ None → AreQuietAlike watcher tracer tags_in table pick fuel m n
    by None x None y same quiet calm = record {
      matches =
          subst (λ o. MachinesMatch tags_in table (by_pick watcher 1 table fuel o m) (turn tracer 0 plain pick fuel n)) (sym x)
          (subst (λ o. MachinesMatch tags_in table m (by_pick tracer 0 plain fuel o n)) (sym y) match);
      quiet = subst (MakesNoCall fuel) (sym y) tt;
    }
    by None x (Some q) y same quiet calm = absurd (never (sym (ap (option_map (λ p. p.pid)) x) ∙ same ∙ ap (option_map (λ p. p.pid)) y))
      where
        never : {A : Type 0} {a : A} → None ≡ Some a → ⊥
        never e = cc
    by (Some p) x None y same quiet calm = absurd (never (sym (ap (option_map (λ p. p.pid)) x) ∙ same ∙ ap (option_map (λ p. p.pid)) y))
      where
        never : {A : Type 0} {a : A} → Some a ≡ None → ⊥
        never e = cc
    by (Some p) x (Some q) y same quiet calm =
        let pid : p.pid ≡ q.pid = same_Some _ _ (sym (ap (option_map (λ p. p.pid)) x) ∙ same ∙ ap (option_map (λ p. p.pid)) y) in
        let rise = match.states.placed.lawful.pids.living in
        let lives = picked_lives m.state.next_pid m.state pick p rise x in
        let also = picked_lives m.state.next_pid n.state pick q (subst (RiseFrom 2 m.state.next_pid) (same_pids table (tags_in n.watcher) m.state n.state match.states) rise) y in
        let calmly : (turn_of watcher 1 table fuel p m).tally.broken ≡ None = ap (λ o. (by_pick watcher 1 table fuel o m).tally.broken) (sym x) ∙ calm in
        let quietly : MakesNoCall fuel (Some p) = subst (MakesNoCall fuel) x quiet in
        let also_here : process p.pid n.state ≡ Some q = subst (λ k. process k n.state ≡ Some q) (sym pid) also in
        let alike = computes_alike watcher tracer tags_in drops table fuel m n p q lives also_here lawful match quietly calmly in
        record {
          matches = subst (λ o. MachinesMatch tags_in table (by_pick watcher 1 table fuel o m) (turn tracer 0 plain pick fuel n)) (sym x)
              (subst (λ o. MachinesMatch tags_in table (turn_of watcher 1 table fuel p m) (by_pick tracer 0 plain fuel o n)) (sym y)
              (subst
              (λ k. MachinesMatch tags_in table (turn_of watcher 1 table fuel p m)
              (after_event tracer 0 plain k (ran fuel q.image.regs q.image.memory).event (record { state = computed k (ran fuel q.image.regs q.image.memory).regs (ran fuel q.image.regs q.image.memory).memory n.state; watcher = n.watcher; tally = n.tally })))
              pid (turned_alike watcher tracer tags_in drops table fuel m n p q lives also_here lawful match quietly calmly)));
          quiet = subst (MakesNoCall fuel) (sym y) (λ e. quietly (alike.ends.event ∙ e));
        }

pub quiet_turns_keep_matches : (S T : Type 0) → QuietTurnsKeepMatches S T
quiet_turns_keep_matches S T watcher tracer tags_in table pick fuel m n drops quiet calm lawful match = (quiet_alike watcher tracer tags_in table pick fuel m n drops quiet calm lawful match).matches
