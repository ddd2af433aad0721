-- Turns and runs of both machines, where each call keeps them together.
use Rattle.std.specs.FinMap as map
use Rattle.std.proofs.Common.{◌≡◌, ◌<◌, ◌^◌, ℕ, suc, Bool, true, false, cond, List, Option, Some, None, Ok, Err, refl, sym, ap, subst, ◌∙◌}
use Rattle.std.specs.Prelude.{IsSome}
use Rattle.std.specs.Option.{option_map}
use Rattle.std.proofs.lemmas.Option.{same_Some}
use Rattle.law_turns.specs.pr_base.MountText.{MountText}
use Rattle.law_turns.specs.rv_cpu.Run.{Ran, ran}
use Rattle.law_turns.specs.rv_cpu.declared.event.Event.{Event}
use Rattle.law_turns.specs.rv_cpu.declared.event.Event.TheVariants.{Call, Killed, Next}
use Rattle.law_edits.specs.rv_mem.Memory.{Memory}
use Rattle.law_edits.specs.rv_mem.declared.regs.Regs.{Regs}
use Rattle.law_edits.specs.pt_ident.IdentityTable.{IdentityTable, after_birth, after_end}
use Rattle.law_edits.specs.kr_view.View.{Row, plain}
use Rattle.law_turns.specs.kr_calls.Arguments.{number}
use Rattle.law_turns.specs.kr_calls.Decoding.{Decoded, decoding}
use Rattle.law_edits.specs.kr_model.Lawful.{RiseFrom}
use Rattle.law_edits.specs.kr_model.State.{Image, Process, State, process}
use Rattle.law_turns.specs.law_kept.Bytes.{HasBytes}
use Rattle.law_turns.specs.law_kept.Turns.{WatchesBytes}
use Rattle.law_turns.proofs.law_kept.ChangeLemmas.{computing-keeps-bytes}
use Rattle.law_turns.proofs.law_kept.InstructionLemmas.{instructions-keep-bytes}
use Rattle.law_turns.proofs.law_kept.LivingLemmas.{process-bytes}
use Rattle.law_turns.proofs.law_kept.RegisterLemmas.{instructions-keep-registers}
use Rattle.law_turns.proofs.law_kept.StartLemmas.{tables-have-bytes}
use Rattle.law_turns.proofs.law_kept.TurnLemmas.{shelf-keeps, turn-runs}
use Rattle.law_turns.specs.kr_calm.Shelf.{has_path, is_usable, shelved_by, stack_pointer, with_shelf_marked}
use Rattle.law_turns.specs.kr_steps.Calls.{LastsLawful}
use Rattle.law_turns.specs.kr_steps.Computing.{computed}
use Rattle.law_turns.specs.kr_steps.Waiting.{picked_process}
use Rattle.law_turns.specs.kr_turns.Breaking.{plain_rule}
use Rattle.law_turns.specs.kr_turns.PlainCall.{plain_call}
use Rattle.law_turns.specs.kr_turns.Shelving.{lacks_in, shelved_in}
use Rattle.law_turns.specs.kr_stops.Stopped.{Stopped, image_in}
use Rattle.law_turns.specs.kr_turns.Turn.{Machine, after_born, after_event, by_pick, called, calling, turn, watched_call, with_broken}
use Rattle.law_turns.specs.kr_stops.Watching.{unwatched}
use Rattle.law_edits.specs.pt_faker.Stopping.{after_request, decoded_at, register_at}
use Rattle.law_edits.specs.pt_tracer.Watched.{Tracing, after_decoding, after_pending, begin_as, begin_program, by_identities, entered, exited, give_back, has_begun, remembered_in, returned, shown_to, tracer, with_tags, without_pending}
use Rattle.law_edits.specs.pt_tracer.declared.pending.Pending.{Pending}
use Rattle.law_edits.specs.pt_bind.Tags.{with_tag}
use Rattle.law_edits.specs.pt_bind.declared.slot.Slot.TheVariants.{Exe}
use Rattle.law_turns.specs.Quiet.{DropsTags, MakesNoCall}
use Rattle.law_turns.specs.Runs.{GoTogether, KeepOn}
use Rattle.law_turns.specs.Sizes.{AreSized}
use Rattle.law_turns.specs.Turning.{ComputeAlike}
use Rattle.law_turns.proofs.CalledLemmas.{lives_computed}
use Rattle.law_turns.proofs.ComeLemmas.{after_end_broken, runs_come_alike}
use Rattle.law_turns.proofs.ImageLemmas.{given}
use Rattle.law_turns.proofs.LastLemmas.{quiet_turns_go_together, run_lasts}
use Rattle.law_turns.proofs.MatchLemmas.{same_pids}
use Rattle.law_turns.proofs.PickLemmas.{matches_go_on_alike}
use Rattle.law_turns.proofs.QuietLemmas.{kept_none, picked_lives}
use Rattle.law_turns.proofs.RunLemmas.{instructions_keep_matches}
use Rattle.law_turns.proofs.UnreadLemmas.{calm_unread, unread_before}
use Rattle.law_stops.specs.Scene.{Scene}
use Rattle.law_stops.specs.Together.{CallsGoTogether, CanRun, TracedRunsComeAlike, TracedTurnsGoTogether, any_call, goes_by, gone_by}
use Rattle.law_stops.specs.Turning.{ComeToCall, Traces, tags_kept}
use Rattle.law_stops.proofs.CallLemmas.{own_image}

-- ---- the tracer's own stops keep what it goes by

module _ (table : List Row) where
  entry_traces : (x : Tracing) (t : Stopped) → Traces table x → Traces table (entered x t).0
  entry_traces x t own = by (decoded_at t).reply
    where
      by : (reply : Decoded) → Traces table (after_decoding x (after_request t) reply).0
      by (Ok r) = subst (λ i. Traces table (by_identities x r (after_request t) i).0) (sym own.identities) (record { bindings = own.bindings; identities = own.identities })
      by (Err e) = record { bindings = own.bindings; identities = own.identities }

  exit_traces : (x : Tracing) (t : Stopped) → Traces table x → Traces table (exited x t).0
  exit_traces x t own = by (map.get x.pending t.pid)
    where
      begun : (p : Pending) (b : Bool) → Traces table (cond b (begin_program (without_pending t.pid x) p t) (give_back (without_pending t.pid x) p t)).0
      begun p true = subst (λ i. Traces table (begin_as (with_tags (with_tag x.tags t.pid Exe p.led.index) (without_pending t.pid x)) t i).0) (sym own.identities) (record { bindings = own.bindings; identities = own.identities })
      begun p false =
          record { bindings = own.bindings; identities = ap (λ identities. remembered_in identities p t.handed.target (register_at (shown_to x.user identities p (returned p t)) 10)) own.identities }

      by : (o : Option Pending) → Traces table (after_pending (without_pending t.pid x) t o).0
      by None = record { bindings = own.bindings; identities = own.identities }
      by (Some p) = begun p (has_begun p t)

  -- with what is sound
  module _ (sound : Tracing → Bool) (watches : WatchesBytes (λ x. sound x ≡ true) tracer) where
    abbrev Sound : Tracing → Type 0
    Sound x = (sound x ≡ true) × Traces table x

    traced : WatchesBytes Sound tracer
    traced = record {
      entry = λ x t own has. (let left = watches.entry x t own.0 has in ((left.0, entry_traces x t own.1), left.1));
      exit = λ x t own has. (let left = watches.exit x t own.0 has in ((left.0, exit_traces x t own.1), left.1));
      born = λ x parent child own. (watches.born x parent child own.0, record { bindings = own.1.bindings; identities = ap (λ i. option_map (after_birth parent child) i) own.1.identities });
      gone = λ x pid own. (watches.gone x pid own.0, record { bindings = own.1.bindings; identities = ap (λ i. option_map (after_end pid) i) own.1.identities });
    }

-- ---- a turn

sized : (s : State ℕ Image) → HasBytes s → AreSized s
sized s has pid p lives = let own = process-bytes pid s has p lives in record { bytes = own.memory; registers = own.registers }

-- what a call finds was unread before its shelf was marked
module _ {S : Type 0} (table : List Row) (pid : ℕ) (m : Machine S) (p : Process ℕ Image) (lives : process pid m.state ≡ Some p) (calm : (watched_call unwatched 1 table pid m).tally.broken ≡ None) where
  abbrev shelved : State ℕ Image
  shelved = shelved_in 1 pid m.state

  abbrev own : Image
  own = image_in pid m.state

  unread_shelf : (regs : Regs) (memory : Memory) → (shelved_by 1 regs memory).read_marked ≡ memory.read_marked
  unread_shelf regs memory = by (has_path (number regs)) (is_usable (stack_pointer regs) memory.pages)
    where
      by : (a b : Bool) → (cond a (cond b (with_shelf_marked (stack_pointer regs) memory) memory) memory).read_marked ≡ memory.read_marked
      by true true = refl
      by true false = refl
      by false b = refl

  call_unread : p.image.memory.read_marked ≡ false
  call_unread =
      let came = plain_call table pid shelved in
      let rule = plain_rule 1 table pid (lacks_in 1 pid m.state) shelved in
      let unbroken = kept_none m.tally.broken rule (sym (after_end_broken unwatched table pid came.end (called pid came) (after_born unwatched pid came.child m.watcher) (with_broken rule m.tally)) ∙ calm) in
      let there = lives_computed pid own.regs (shelved_by 1 own.regs own.memory) m.state p lives in
      let decoded = calm_unread table pid (lacks_in 1 pid m.state) shelved (given pid own.regs (shelved_by 1 own.regs own.memory) p) there unbroken in
      ap (λ (i : Image). i.memory.read_marked) (sym (own_image pid m.state p lives)) ∙ sym (unread_shelf own.regs own.memory) ∙ unread_before (decoding own.regs) (shelved_by 1 own.regs own.memory) decoded

module _ {S : Type 0} (sound : Tracing → Bool) (table : List Row) (calls : CallsGoTogether S any_call table) (can : CanRun sound table) (made : ℕ) (few : made < 2 ^ 31) (m : Machine S) (n : Machine Tracing) (both : GoTogether tags_kept table made m n)
    (keep : KeepOn (gone_by table) (goes_by sound) m n) where
  traces : Traces table n.watcher
  traces = record { bindings = sym (ap (λ v. v.0) keep.agree); identities = sym (ap (λ v. v.1) keep.agree) }

  is_sound : sound n.watcher ≡ true
  is_sound = sym (ap (λ v. v.2) keep.agree)

  drops : DropsTags tracer tags_kept
  drops x pid = refl

  module _ (pick fuel : ℕ) (calm : (turn unwatched 1 table pick fuel m).tally.broken ≡ None) where
    quietly : MakesNoCall fuel (picked_process m.state pick) → GoTogether tags_kept table (suc made) (turn unwatched 1 table pick fuel m) (turn tracer 0 plain pick fuel n)
    quietly quiet = quiet_turns_go_together S Tracing unwatched tracer tags_kept table pick fuel made m n drops quiet calm both

    module _ (p q : Process ℕ Image) (is : picked_process m.state pick ≡ Some p) (also : picked_process n.state pick ≡ Some q) (same : p.pid ≡ q.pid) (event : (ran fuel p.image.regs p.image.memory).event ≡ Call) where
      abbrev pid : ℕ
      pid = p.pid

      abbrev end : Ran
      end = ran fuel p.image.regs p.image.memory

      abbrev other_end : Ran
      other_end = ran fuel q.image.regs q.image.memory

      lives : process pid m.state ≡ Some p
      lives = picked_lives m.state.next_pid m.state pick p both.matches.states.placed.lawful.pids.living is

      lives_too : process pid n.state ≡ Some q
      lives_too = subst (λ k. process k n.state ≡ Some q) (sym same) (picked_lives m.state.next_pid n.state pick q (subst (RiseFrom 2 m.state.next_pid) (same_pids table n.watcher.tags m.state n.state both.matches.states) both.matches.states.placed.lawful.pids.living) also)

      abbrev m1 : Machine S
      m1 = record { state = computed pid end.regs end.memory m.state; watcher = m.watcher; tally = m.tally }

      abbrev n1 : Machine Tracing
      n1 = record { state = computed pid other_end.regs other_end.memory n.state; watcher = n.watcher; tally = n.tally }

      mounted_is : turn unwatched 1 table pick fuel m ≡ watched_call unwatched 1 table pid m1
      mounted_is = ap (λ o. by_pick unwatched 1 table fuel o m) is ∙ ap (λ e. after_event unwatched 1 table pid e m1) event

      calm_call : (watched_call unwatched 1 table pid m1).tally.broken ≡ None
      calm_call = sym (ap (λ (x : Machine S). x.tally.broken) mounted_is) ∙ calm

      unread : end.memory.read_marked ≡ false
      unread = call_unread table pid m1 (given pid end.regs end.memory p) (lives_computed pid end.regs end.memory m.state p lives) calm_call

      alike : ComputeAlike table n.watcher.tags pid fuel m.state n.state p q
      alike = instructions_keep_matches table n.watcher.tags pid fuel m.state n.state p q both.matches.states lives lives_too unread

      traced_is : turn tracer 0 plain pick fuel n ≡ watched_call tracer 0 plain pid n1
      traced_is =
          ap (λ o. by_pick tracer 0 plain fuel o n) also
          ∙ ap (λ k. after_event tracer 0 plain k other_end.event (record { state = computed k other_end.regs other_end.memory n.state; watcher = n.watcher; tally = n.tally })) (sym same)
          ∙ ap (λ e. after_event tracer 0 plain pid e n1) (sym alike.ends.event ∙ event)

      bytes_after : (s : State ℕ Image) (r : Process ℕ Image) → process pid s ≡ Some r → HasBytes s → HasBytes (computed pid (ran fuel r.image.regs r.image.memory).regs (ran fuel r.image.regs r.image.memory).memory s)
      bytes_after s r there has =
          let own = process-bytes pid s has r there in
          computing-keeps-bytes ℕ pid (ran fuel r.image.regs r.image.memory).regs (ran fuel r.image.regs r.image.memory).memory s (instructions-keep-bytes fuel r.image.regs r.image.memory own.memory)
          (instructions-keep-registers fuel r.image.regs r.image.memory ∙ own.registers) has

      abbrev scene : Scene S
      scene = record { table = table; made = made; pid = pid; mounted = m1; traced = n1 }

      comes : ComeToCall scene
      comes = record {
        matches = record { states = alike.matches; statuses = both.matches.statuses };
        lasts = subst (λ k. LastsLawful (λ m. m) table made (computed k end.regs end.memory m.state)) refl (run_lasts table made fuel m.state p lives both.lasts);
        also_lasts = subst (λ k. LastsLawful (λ m. m) plain made (computed k other_end.regs other_end.memory n.state)) (sym same) (run_lasts plain made fuel n.state q (subst (λ k. process k n.state ≡ Some q) same lives_too) both.also_lasts);
        few = few;
        named = can.named;
        sized = sized m1.state (bytes_after m.state p lives keep.bytes);
        also_sized = sized n1.state (bytes_after n.state q lives_too keep.also_bytes);
        traces = traces;
        watched = (can.watches.entry n1.watcher (calling 0 pid n1.state) is_sound (shelf-keeps 0 pid n1.state (bytes_after n.state q lives_too keep.also_bytes))).1;
        lives = subst IsSome (sym (lives_computed pid end.regs end.memory m.state p lives)) refl;
      }

      by_call : GoTogether tags_kept table (suc made) (turn unwatched 1 table pick fuel m) (turn tracer 0 plain pick fuel n)
      by_call =
          let from = calls scene refl comes refl calm_call in
          subst (λ x. GoTogether tags_kept table (suc made) x (turn tracer 0 plain pick fuel n)) (sym mounted_is)
          (subst (GoTogether tags_kept table (suc made) (watched_call unwatched 1 table pid m1)) (sym traced_is) (record { matches = from.matches; lasts = from.lasts; also_lasts = from.also_lasts }))

    turn_together : GoTogether tags_kept table (suc made) (turn unwatched 1 table pick fuel m) (turn tracer 0 plain pick fuel n)
    turn_together = by (picked_process m.state pick) refl (picked_process n.state pick) refl ((matches_go_on_alike table n.watcher.tags m n both.matches.states).picks pick)
      where
        by : (x : Option (Process ℕ Image)) → picked_process m.state pick ≡ x → (y : Option (Process ℕ Image)) → picked_process n.state pick ≡ y → option_map (λ p. p.pid) (picked_process m.state pick) ≡ option_map (λ p. p.pid) (picked_process n.state pick)
            → GoTogether tags_kept table (suc made) (turn unwatched 1 table pick fuel m) (turn tracer 0 plain pick fuel n)
        by None is y also same = quietly (subst (MakesNoCall fuel) (sym is) tt)
        by (Some p) is None also same = absurd (never (sym (ap (option_map (λ p. p.pid)) is) ∙ same ∙ ap (option_map (λ p. p.pid)) also))
          where
            never : {A : Type 0} {a : A} → Some a ≡ None → ⊥
            never e = cc
        by (Some p) is (Some q) also same = by_event (ran fuel p.image.regs p.image.memory).event refl
          where
            by_event : (e : Event) → (ran fuel p.image.regs p.image.memory).event ≡ e → GoTogether tags_kept table (suc made) (turn unwatched 1 table pick fuel m) (turn tracer 0 plain pick fuel n)
            by_event Call event = by_call p q is also (same_Some _ _ (sym (ap (option_map (λ p. p.pid)) is) ∙ same ∙ ap (option_map (λ p. p.pid)) also)) event
            by_event Next event = quietly (subst (MakesNoCall fuel) (sym is) (λ call. absurd (differ (sym event ∙ call))))
              where
                differ : Next ≡ Call → ⊥
                differ e = cc
            by_event (Killed signal) event = quietly (subst (MakesNoCall fuel) (sym is) (λ call. absurd (differ (sym event ∙ call))))
              where
                differ : Killed signal ≡ Call → ⊥
                differ e = cc

    turn_keeps : KeepOn (gone_by table) (goes_by sound) (turn unwatched 1 table pick fuel m) (turn tracer 0 plain pick fuel n)
    turn_keeps =
        let mine = turn-runs (λ x. Unit {0}) unwatched (record { entry = λ x t own has. (own, has); exit = λ x t own has. (own, has); born = λ x parent child own. own; gone = λ x pid own. own }) 1 table can.bytes pick fuel m (record { watcher = tt; state = keep.bytes }) in
        let yours = turn-runs (Sound table sound can.watches) tracer (traced table sound can.watches) 0 plain tables-have-bytes.plain_view pick fuel n (record { watcher = (is_sound, traces); state = keep.also_bytes }) in
        record { bytes = mine.state; also_bytes = yours.state; agree = λ i. (sym yours.watcher.1.bindings i, sym yours.watcher.1.identities i, sym yours.watcher.0 i) }

pub traced_turns_go_together : (S : Type 0) → TracedTurnsGoTogether S
traced_turns_go_together S sound table calls can pick fuel made m n few both keep calm =
    (turn_together sound table calls can made few m n both keep pick fuel calm, turn_keeps sound table calls can made few m n both keep pick fuel calm)

pub traced_runs_come_alike : (S : Type 0) → TracedRunsComeAlike S
traced_runs_come_alike S sound table slots calls can turns m n few both keep calm =
    runs_come_alike S Tracing (List MountText × Option IdentityTable × Bool) unwatched tracer tags_kept (gone_by table) (goes_by sound) table slots
    (record {
      together = λ made m n few both keep going calm. (traced_turns_go_together S sound table calls can (slots made).pick (slots made).fuel made m n few both keep calm).0;
      keeps = λ made m n few both keep going calm. (traced_turns_go_together S sound table calls can (slots made).pick (slots made).fuel made m n few both keep calm).1;
    }) turns m n few both keep calm
