-- Turns and runs of both machines where processes are told an identity.
use Rattle.std.proofs.Common.{◌≡◌, ◌≢◌, ◌<◌, ◌^◌, ℕ, suc, Bool, true, false, cond, List, Option, Some, None, Ok, Err, refl, sym, ap, subst, ◌∙◌}
use Rattle.std.specs.Prelude.{IsSome}
use Rattle.std.specs.Option.{option_map}
use Rattle.std.proofs.lemmas.Option.{same_Some}
use Rattle.law_turns.specs.rv_cpu.Run.{Ran, ran}
use Rattle.law_turns.specs.rv_cpu.declared.event.Event.{Event}
use Rattle.law_turns.specs.rv_cpu.declared.event.Event.TheVariants.{Call, Killed, Next}
use Rattle.law_edits.specs.rv_mem.Actions.{carried_out}
use Rattle.law_edits.specs.rv_mem.Memory.{Memory}
use Rattle.law_edits.specs.rv_mem.declared.regs.Regs.{Regs}
use Rattle.law_edits.specs.pt_ident.Identity.{Effect, effect, on_memory}
use Rattle.law_edits.specs.pt_ident.IdentityTable.{identity_at}
use Rattle.law_edits.specs.kr_view.View.{Row, plain}
use Rattle.law_turns.specs.kr_calls.Arguments.{number}
use Rattle.law_turns.specs.kr_calls.Decoding.{Decoded, decoding}
use Rattle.law_turns.specs.kr_calls.declared.request.Request.{Request}
use Rattle.law_edits.specs.kr_model.Lawful.{RiseFrom}
use Rattle.law_edits.specs.kr_model.State.{Image, Process, State, process}
use Rattle.law_turns.specs.law_kept.Bytes.{HasBytes}
use Rattle.law_turns.proofs.law_kept.ChangeLemmas.{computing-keeps-bytes}
use Rattle.law_turns.proofs.law_kept.InstructionLemmas.{instructions-keep-bytes}
use Rattle.law_turns.proofs.law_kept.LivingLemmas.{process-bytes}
use Rattle.law_turns.proofs.law_kept.RegisterLemmas.{instructions-keep-registers}
use Rattle.law_turns.proofs.law_kept.StartLemmas.{tables-have-bytes}
use Rattle.law_turns.proofs.law_kept.TurnLemmas.{shelf-keeps, turn-runs}
use Rattle.law_turns.specs.kr_calm.Shelf.{has_path, is_usable, shelved_by, stack_pointer, with_shelf_marked}
use Rattle.law_turns.specs.kr_steps.Calls.{LastsLawful}
use Rattle.law_turns.specs.kr_steps.Computing.{computed}
use Rattle.law_turns.specs.kr_steps.Waiting.{picked_process}
use Rattle.law_turns.specs.kr_turns.Breaking.{plain_rule}
use Rattle.law_turns.specs.kr_turns.PlainCall.{plain_call}
use Rattle.law_turns.specs.kr_turns.Shelving.{lacks_in, shelved_in}
use Rattle.law_turns.specs.kr_stops.Stopped.{Stopped, image_at, image_in}
use Rattle.law_turns.specs.kr_turns.Turn.{Machine, after_born, after_event, by_pick, called, calling, turn, watched_call, with_broken}
use Rattle.law_turns.proofs.kr_stops.EditLemmas.{computed-lives, image-edited}
use Rattle.law_edits.specs.pt_faker.Faking.{Faking, after_decoding as faked_decoding, after_effect as faked_effect, entered as faked_entry, faker, no_longer_called}
use Rattle.law_edits.specs.pt_faker.Stopping.{after_request, decoded_at, memory_at, with_memory}
use Rattle.law_edits.specs.pt_tracer.Watched.{Tracing, tracer, with_identities}
use Rattle.law_turns.specs.Quiet.{DropsTags, MakesNoCall}
use Rattle.law_turns.specs.Runs.{GoTogether, KeepOn}
use Rattle.law_turns.specs.Sizes.{AreSized}
use Rattle.law_turns.specs.Turning.{ComputeAlike}
use Rattle.law_turns.proofs.CalledLemmas.{lives_computed}
use Rattle.law_turns.proofs.ComeLemmas.{after_end_broken, runs_come_alike}
use Rattle.law_turns.proofs.ImageLemmas.{given}
use Rattle.law_turns.proofs.LastLemmas.{quiet_turns_go_together, run_lasts}
use Rattle.law_turns.proofs.MatchLemmas.{same_pids}
use Rattle.law_turns.proofs.PickLemmas.{matches_go_on_alike}
use Rattle.law_turns.proofs.QuietLemmas.{computes_alike, kept_none, picked_lives}
use Rattle.law_turns.proofs.RunLemmas.{instructions_keep_matches}
use Rattle.law_turns.proofs.UnreadLemmas.{calm_unread, unread_before}
use Rattle.law_stops.specs.Together.{any_call}
use Rattle.law_stops.specs.Turning.{tags_kept}
use Rattle.law_stops.proofs.CallLemmas.{own_image}
use Rattle.law_stops.specs.Going.{ComeToFakedCall, GoBySame}
use Rattle.law_stops.specs.Runs.{CanRunFaked, EachCallGoesTogether, FakedRunsComeAlike, FakedTurnsGoTogether, Kept, faked_by, traced_by}
use Rattle.law_stops.specs.Scene.{Scene}
use Rattle.law_stops.proofs.GoingLemmas.{goes_gone}

-- ---- what the first stop reads

-- a process there, behind its first stop, lives with a memory; if no marked byte was read in it, none was before
pub record WasUnread (t u : Stopped) : Type 0 where
  pub pid : u.pid ≡ t.pid
  pub lives : IsSome (process t.pid u.state)
  pub unread : (memory_at u).read_marked ≡ false → (memory_at t).read_marked ≡ false

module _ (t : Stopped) (lives : IsSome (process t.pid t.state)) where
  edited_unread : (memory : Memory) → (memory.read_marked ≡ false → (memory_at t).read_marked ≡ false) → WasUnread t (with_memory memory t)
  edited_unread memory before = record {
    pid = refl;
    lives = computed-lives t.pid _ memory t.state lives;
    unread = λ clean. before (sym (ap (λ (image : Image). image.memory.read_marked) (image-edited _ memory t lives)) ∙ clean);
  }

then_unread : (t u v : Stopped) → WasUnread t u → WasUnread u v → WasUnread t v
then_unread t u v first second = record {
  pid = second.pid ∙ first.pid;
  lives = subst (λ pid. IsSome (process pid v.state)) first.pid second.lives;
  unread = λ clean. first.unread (second.unread clean);
}

module _ (t : Stopped) (lives : IsSome (process t.pid t.state)) where
  -- the number of its call is no memory
  taken_unread : WasUnread t (no_longer_called t)
  taken_unread = record {
    pid = refl;
    lives = computed-lives t.pid _ (memory_at t) t.state lives;
    unread = λ clean. sym (ap (λ (image : Image). image.memory.read_marked) (image-edited _ (memory_at t) t lives)) ∙ clean;
  }

  request_unread : WasUnread t (after_request t)
  request_unread = edited_unread t lives (decoded_at t).memory (unread_before (decoding (image_at t).regs) (memory_at t))

-- so it is at the whole first stop of a watcher that tells identities
module _ (f : Faking) (t : Stopped) (lives : IsSome (process t.pid t.state)) where
  abbrev read : Stopped
  read = after_request t

  lives_read : IsSome (process t.pid read.state)
  lives_read = (request_unread t lives).lives

  effect_unread : (r : Request) (o : Option Effect) → WasUnread t (faked_effect f r read o).1
  effect_unread r None = request_unread t lives
  effect_unread r (Some e) =
      let action = on_memory (identity_at f.identities t.pid) e in
      let edit = edited_unread read lives_read (carried_out action (memory_at read)).memory (unread_before action (memory_at read)) in
      then_unread t read _ (request_unread t lives) (then_unread read (with_memory (carried_out action (memory_at read)).memory read) _ edit (taken_unread (with_memory (carried_out action (memory_at read)).memory read) edit.lives))

  reply_unread : (reply : Decoded) → WasUnread t (faked_decoding f read reply).1
  reply_unread (Ok r) = effect_unread r (effect (identity_at f.identities t.pid) r)
  reply_unread (Err e) = request_unread t lives

  entry_unread : WasUnread t (faked_entry f t).1
  entry_unread = reply_unread (decoded_at t).reply

-- marking a shelf reads nothing
shelf_unread : (regs : Regs) (memory : Memory) → (shelved_by 1 regs memory).read_marked ≡ memory.read_marked
shelf_unread regs memory = by (has_path (number regs)) (is_usable (stack_pointer regs) memory.pages)
  where
    by : (a b : Bool) → (cond a (cond b (with_shelf_marked (stack_pointer regs) memory) memory) memory).read_marked ≡ memory.read_marked
    by true true = refl
    by true false = refl
    by false b = refl

-- what a calm call finds was unread before its shelf was marked
module _ (table : List Row) (pid : ℕ) (m : Machine Faking) (p : Process ℕ Image) (lives : process pid m.state ≡ Some p) (calm : (watched_call faker 1 table pid m).tally.broken ≡ None) where
  abbrev own : Image
  own = image_in pid m.state

  abbrev shelved : State ℕ Image
  shelved = shelved_in 1 pid m.state

  abbrev marked : Process ℕ Image
  marked = given pid own.regs (shelved_by 1 own.regs own.memory) p

  there : process pid shelved ≡ Some marked
  there = lives_computed pid own.regs (shelved_by 1 own.regs own.memory) m.state p lives

  abbrev entered : Faking × Stopped
  entered = faked_entry m.watcher (calling 1 pid m.state)

  was_unread : WasUnread (calling 1 pid m.state) entered.1
  was_unread = entry_unread m.watcher (calling 1 pid m.state) (subst IsSome (sym there) refl)

  unbroken : plain_rule 1 table pid (lacks_in 1 pid m.state) entered.1.state ≡ None
  unbroken =
      let came = plain_call table pid entered.1.state in
      let rule = plain_rule 1 table pid (lacks_in 1 pid m.state) entered.1.state in
      kept_none m.tally.broken rule (sym (after_end_broken faker table pid came.end (called pid came) (after_born faker pid came.child entered.0) (with_broken rule m.tally)) ∙ calm)

  entry_clean : (o : Option (Process ℕ Image)) → process pid entered.1.state ≡ o → IsSome o → (memory_at entered.1).read_marked ≡ false
  entry_clean None none some = absurd cc
  entry_clean (Some q) at some =
      ap (λ k. (image_in k entered.1.state).memory.read_marked) was_unread.pid
      ∙ ap (λ (image : Image). image.memory.read_marked) (own_image pid entered.1.state q at)
      ∙ unread_before (decoding q.image.regs) q.image.memory (calm_unread table pid (lacks_in 1 pid m.state) entered.1.state q at unbroken)

  call_unread : p.image.memory.read_marked ≡ false
  call_unread =
      ap (λ (image : Image). image.memory.read_marked) (sym (own_image pid m.state p lives))
      ∙ sym (shelf_unread own.regs own.memory)
      ∙ sym (ap (λ (image : Image). image.memory.read_marked) (own_image pid shelved marked there))
      ∙ was_unread.unread (entry_clean (process pid entered.1.state) refl was_unread.lives)

-- ---- a turn

sizes : (s : State ℕ Image) → HasBytes s → AreSized s
sizes s has pid p lives = let own = process-bytes pid s has p lives in record { bytes = own.memory; registers = own.registers }

-- both machines behind it, and what both watchers go by
record GoOn (table : List Row) (made : ℕ) (m : Machine Faking) (n : Machine Tracing) : Type 0 where
  together : GoTogether tags_kept table made m n
  goes : GoBySame table m.watcher n.watcher

module _ (safe : Faking → Bool) (sound : Tracing → Bool) (table : List Row) (calls : EachCallGoesTogether any_call table) (can : CanRunFaked safe sound table) (made : ℕ) (few : made < 2 ^ 31) (m : Machine Faking) (n : Machine Tracing) (both : GoTogether tags_kept table made m n)
    (keep : KeepOn (faked_by safe table) (traced_by sound) m n) where
  go : GoBySame table m.watcher n.watcher
  go = record { bindings = sym (ap (λ v. v.0) keep.agree); user = sym (ap (λ v. v.1) keep.agree); identities = sym (ap (λ v. v.2) keep.agree) }

  is_safe : safe m.watcher ≡ true
  is_safe = ap (λ v. v.3) keep.agree

  is_sound : sound n.watcher ≡ true
  is_sound = sym (ap (λ v. v.4) keep.agree)

  drops : DropsTags tracer tags_kept
  drops x pid = refl

  module _ (pick fuel : ℕ) (calm : (turn faker 1 table pick fuel m).tally.broken ≡ None) where
    abbrev Turned : Type 0
    Turned = GoOn table (suc made) (turn faker 1 table pick fuel m) (turn tracer 0 plain pick fuel n)

    quietly : MakesNoCall fuel (picked_process m.state pick) → GoBySame table (turn faker 1 table pick fuel m).watcher (turn tracer 0 plain pick fuel n).watcher → Turned
    quietly quiet goes = record { together = quiet_turns_go_together Faking Tracing faker tracer tags_kept table pick fuel made m n drops quiet calm both; goes = goes }

    module _ (p q : Process ℕ Image) (is : picked_process m.state pick ≡ Some p) (also : picked_process n.state pick ≡ Some q) (same : p.pid ≡ q.pid) where
      abbrev pid : ℕ
      pid = p.pid

      abbrev end : Ran
      end = ran fuel p.image.regs p.image.memory

      abbrev other_end : Ran
      other_end = ran fuel q.image.regs q.image.memory

      lives : process pid m.state ≡ Some p
      lives = picked_lives m.state.next_pid m.state pick p both.matches.states.placed.lawful.pids.living is

      lives_too : process pid n.state ≡ Some q
      lives_too = subst (λ k. process k n.state ≡ Some q) (sym same) (picked_lives m.state.next_pid n.state pick q (subst (RiseFrom 2 m.state.next_pid) (same_pids table n.watcher.tags m.state n.state both.matches.states) both.matches.states.placed.lawful.pids.living) also)

      abbrev m1 : Machine Faking
      m1 = record { state = computed pid end.regs end.memory m.state; watcher = m.watcher; tally = m.tally }

      abbrev n1 : Machine Tracing
      n1 = record { state = computed pid other_end.regs other_end.memory n.state; watcher = n.watcher; tally = n.tally }

      mounted_is : turn faker 1 table pick fuel m ≡ after_event faker 1 table pid end.event m1
      mounted_is = ap (λ o. by_pick faker 1 table fuel o m) is

      traced_is : turn tracer 0 plain pick fuel n ≡ after_event tracer 0 plain pid other_end.event n1
      traced_is =
          ap (λ o. by_pick tracer 0 plain fuel o n) also
          ∙ ap (λ k. after_event tracer 0 plain k other_end.event (record { state = computed k other_end.regs other_end.memory n.state; watcher = n.watcher; tally = n.tally })) (sym same)

      event_calm : (after_event faker 1 table pid end.event m1).tally.broken ≡ None
      event_calm = sym (ap (λ (x : Machine Faking). x.tally.broken) mounted_is) ∙ calm

      -- ---- no call

      goes_by : (e : Event) → e ≢ Call → GoBySame table (after_event faker 1 table pid e m1).watcher (after_event tracer 0 plain pid e n1).watcher
      goes_by Next quiet = go
      goes_by (Killed signal) quiet = goes_gone table pid m.watcher n.watcher go
      goes_by Call quiet = absurd (quiet refl)

      by_none : end.event ≢ Call → Turned
      by_none quiet =
          let alike = computes_alike faker tracer tags_kept drops table fuel m n p q lives lives_too both.also_lasts.lawful both.matches quiet event_calm in
          quietly (subst (MakesNoCall fuel) (sym is) quiet)
          (subst (λ (x : Machine Faking). GoBySame table x.watcher (turn tracer 0 plain pick fuel n).watcher) (sym mounted_is)
          (subst (λ (y : Machine Tracing). GoBySame table (after_event faker 1 table pid end.event m1).watcher y.watcher) (sym traced_is)
          (subst (λ e. GoBySame table (after_event faker 1 table pid end.event m1).watcher (after_event tracer 0 plain pid e n1).watcher) alike.ends.event (goes_by end.event quiet))))

      -- ---- a call

      module _ (event : end.event ≡ Call) where
        calm_call : (watched_call faker 1 table pid m1).tally.broken ≡ None
        calm_call = ap (λ e. (after_event faker 1 table pid e m1).tally.broken) (sym event) ∙ event_calm

        unread : end.memory.read_marked ≡ false
        unread = call_unread table pid m1 (given pid end.regs end.memory p) (lives_computed pid end.regs end.memory m.state p lives) calm_call

        alike : ComputeAlike table n.watcher.tags pid fuel m.state n.state p q
        alike = instructions_keep_matches table n.watcher.tags pid fuel m.state n.state p q both.matches.states lives lives_too unread

        bytes_after : (s : State ℕ Image) (r : Process ℕ Image) → process pid s ≡ Some r → HasBytes s → HasBytes (computed pid (ran fuel r.image.regs r.image.memory).regs (ran fuel r.image.regs r.image.memory).memory s)
        bytes_after s r there has =
            let own = process-bytes pid s has r there in
            computing-keeps-bytes ℕ pid (ran fuel r.image.regs r.image.memory).regs (ran fuel r.image.regs r.image.memory).memory s (instructions-keep-bytes fuel r.image.regs r.image.memory own.memory)
            (instructions-keep-registers fuel r.image.regs r.image.memory ∙ own.registers) has

        abbrev scene : Scene Faking
        scene = record { table = table; made = made; pid = pid; mounted = m1; traced = n1 }

        comes : ComeToFakedCall scene
        comes = record {
          matches = record { states = alike.matches; statuses = both.matches.statuses };
          lasts = run_lasts table made fuel m.state p lives both.lasts;
          also_lasts = subst (λ k. LastsLawful (λ m. m) plain made (computed k other_end.regs other_end.memory n.state)) (sym same) (run_lasts plain made fuel n.state q (subst (λ k. process k n.state ≡ Some q) same lives_too) both.also_lasts);
          few = few;
          named = can.named;
          sized = sizes m1.state (bytes_after m.state p lives keep.bytes);
          also_sized = sizes n1.state (bytes_after n.state q lives_too keep.also_bytes);
          goes = go;
          watched = (can.watches.entry (with_identities None n1.watcher) (calling 0 pid n1.state) (can.untold n1.watcher is_sound) (shelf-keeps 0 pid n1.state (bytes_after n.state q lives_too keep.also_bytes))).1;
          lives = subst IsSome (sym (lives_computed pid end.regs end.memory m.state p lives)) refl;
        }

        by_call : Turned
        by_call =
            let from = calls scene refl comes refl calm_call in
            subst (λ x. GoOn table (suc made) x (turn tracer 0 plain pick fuel n)) (sym (mounted_is ∙ ap (λ e. after_event faker 1 table pid e m1) event))
            (subst (GoOn table (suc made) (watched_call faker 1 table pid m1)) (sym (traced_is ∙ ap (λ e. after_event tracer 0 plain pid e n1) (sym alike.ends.event ∙ event)))
            (record { together = record { matches = from.matches; lasts = from.lasts; also_lasts = from.also_lasts }; goes = from.goes }))

      by_event : (e : Event) → end.event ≡ e → Turned
      by_event Call event = by_call event
      by_event Next event = by_none (λ call. absurd (differ (sym event ∙ call)))
        where
          differ : Next ≡ Call → ⊥
          differ e = cc
      by_event (Killed signal) event = by_none (λ call. absurd (differ (sym event ∙ call)))
        where
          differ : Killed signal ≡ Call → ⊥
          differ e = cc

    never : {A B : Type 0} {a : A} → None ≡ Some a → B
    never e = absurd cc

    turned_on : Turned
    turned_on = by (picked_process m.state pick) refl (picked_process n.state pick) refl ((matches_go_on_alike table n.watcher.tags m n both.matches.states).picks pick)
      where
        by : (x : Option (Process ℕ Image)) → picked_process m.state pick ≡ x → (y : Option (Process ℕ Image)) → picked_process n.state pick ≡ y → option_map (λ p. p.pid) (picked_process m.state pick) ≡ option_map (λ p. p.pid) (picked_process n.state pick) → Turned
        by None is None also same =
            quietly (subst (MakesNoCall fuel) (sym is) tt)
            (subst (λ o. GoBySame table (by_pick faker 1 table fuel o m).watcher (turn tracer 0 plain pick fuel n).watcher) (sym is) (subst (λ o. GoBySame table m.watcher (by_pick tracer 0 plain fuel o n).watcher) (sym also) go))
        by None is (Some q) also same = never (sym (ap (option_map (λ p. p.pid)) is) ∙ same ∙ ap (option_map (λ p. p.pid)) also)
        by (Some p) is None also same = never (sym (ap (option_map (λ p. p.pid)) also) ∙ sym same ∙ ap (option_map (λ p. p.pid)) is)
        by (Some p) is (Some q) also same = by_event p q is also (same_Some _ _ (sym (ap (option_map (λ p. p.pid)) is) ∙ same ∙ ap (option_map (λ p. p.pid)) also)) (ran fuel p.image.regs p.image.memory).event refl

    turn_keeps : KeepOn (faked_by safe table) (traced_by sound) (turn faker 1 table pick fuel m) (turn tracer 0 plain pick fuel n)
    turn_keeps =
        let mine = turn-runs (λ f. safe f ≡ true) faker can.fakes 1 table can.bytes pick fuel m (record { watcher = is_safe; state = keep.bytes }) in
        let yours = turn-runs (λ x. sound x ≡ true) tracer can.watches 0 plain tables-have-bytes.plain_view pick fuel n (record { watcher = is_sound; state = keep.also_bytes }) in
        let goes = turned_on.goes in
        record { bytes = mine.state; also_bytes = yours.state; agree = λ i. (sym goes.bindings i, sym goes.user i, sym goes.identities i, mine.watcher i, sym yours.watcher i) }

pub faked_turns_go_together : FakedTurnsGoTogether
faked_turns_go_together safe sound table calls can pick fuel made m n few both keep calm =
    ((turned_on safe sound table calls can made few m n both keep pick fuel calm).together, turn_keeps safe sound table calls can made few m n both keep pick fuel calm)

pub faked_runs_come_alike : FakedRunsComeAlike
faked_runs_come_alike safe sound table slots calls can turns m n few both keep calm =
    runs_come_alike Faking Tracing Kept faker tracer tags_kept (faked_by safe table) (traced_by sound) table slots
    (record {
      together = λ made m n few both keep going calm. (faked_turns_go_together safe sound table calls can (slots made).pick (slots made).fuel made m n few both keep calm).0;
      keeps = λ made m n few both keep going calm. (faked_turns_go_together safe sound table calls can (slots made).pick (slots made).fuel made m n few both keep calm).1;
    }) turns m n few both keep calm
