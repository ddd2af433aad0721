-- A call along paths that the plain kernel carries out, with its stops.
use Rattle.std.specs.FinMap as map
use Rattle.std.proofs.Common.{◌≡◌, ◌⊎◌, inl, inr, ℕ, suc, true, false, List, [], ◌∷◌, Option, Some, None, Ok, refl, sym, ap, subst, ◌∙◌, ℤ, arith}
use Rattle.std.specs.Prelude.{◌&&◌, IsSome, slice_set}
use Rattle.std.specs.Int.{cast_unsigned, w64}
use Rattle.std.specs.List.{list_all}
use Rattle.std.specs.Option.{option_map, option_map_or}
use Rattle.std.proofs.lemmas.Bool.{and_parts, or_parts}
use Rattle.law_turns.specs.pr_base.declared.errno.Errno.{Errno}
use Rattle.law_edits.specs.rv_mem.Actions.{AreEqualUnmarked, CarriedOut, carried_out}
use Rattle.law_edits.specs.rv_mem.Memory.{Memory}
use Rattle.law_edits.specs.rv_mem.Pages.{HoldsBytes, Pages}
use Rattle.law_edits.specs.rv_mem.declared.regs.Regs.{Regs}
use Rattle.law_turns.specs.pt_args.declared.edit.Edit.{Edit}
use Rattle.law_turns.specs.pt_results.Notes.{noted, tags_after}
use Rattle.law_edits.specs.kr_view.View.{plain}
use Rattle.law_turns.specs.kr_calls.CallTable.{line}
use Rattle.law_turns.specs.kr_calls.Decoding.{decoding}
use Rattle.law_turns.specs.kr_calls.PathTable.{path_at}
use Rattle.law_turns.specs.kr_calls.declared.request.Request.{Request}
use Rattle.law_turns.specs.kr_calls.declared.request.Request.TheVariants as call
use Rattle.law_turns.specs.law_allowed.Allowed.{LeavesLawful, with_memory}
use Rattle.law_turns.specs.law_allowed.Resting.{HasSmallNumbers}
use Rattle.law_turns.specs.law_allowed.Told.{mounts_walked}
use Rattle.law_turns.proofs.law_allowed.DecodedLemmas.{decoded-are-givable, decoding-leaves-pages}
use Rattle.law_turns.proofs.law_allowed.RowLemmas.{StaysLike, lawful-image, stays-like}
use Rattle.law_turns.proofs.law_allowed.TargetLemmas.{walked-calls-leave-lawful}
use Rattle.law_turns.specs.kr_seen.Carrying.{memory_of, with_memory_of}
use Rattle.law_turns.specs.kr_calm.Laws.{BreakNone, leaves_mark}
use Rattle.law_turns.proofs.law_allowed.RoomLemmas.{lasting-room}
use Rattle.law_turns.specs.law_lawful.Laws.{CanAllBeMade}
use Rattle.law_edits.specs.kr_model.Lawful.{IsLawful}
use Rattle.law_edits.specs.kr_model.Applied.{Mounts, all_applied, images}
use Rattle.law_edits.specs.kr_model.Bare.{bare, bare_mounts, pins_of}
use Rattle.law_edits.specs.kr_model.Change.{Change, End, ReplaceImage}
use Rattle.law_edits.specs.kr_model.Known.{known}
use Rattle.law_edits.specs.kr_model.Operation.{operation}
use Rattle.law_edits.specs.kr_model.Reply.{Reply, Replying, refuse}
use Rattle.law_edits.specs.kr_model.Seen.{Seen}
use Rattle.law_edits.specs.kr_model.State.{Image, Process, State, image_layout, process, with_process}
use Rattle.law_edits.specs.kr_model.Walks.{seen, targets_of}
use Rattle.law_edits.specs.kr_model.declared.outcome.Outcome.TheVariants.{Answer, Ended}
use Rattle.law_edits.specs.kr_model.Laws.{ends_nobody}
use Rattle.law_edits.proofs.kr_model.LineLemmas.{answers_end_nobody}
use Rattle.law_edits.proofs.kr_model.KnownLemmas.{known-bare}
use Rattle.law_turns.proofs.kr_perform.AroundLemmas.{lead_to_places}
use Rattle.law_turns.proofs.kr_perform.NamingLemmas.{walks_name}
use Rattle.law_turns.specs.kr_steps.Answering.{answered, going, with_answer}
use Rattle.law_turns.specs.kr_steps.Calls.{IsNoExec, LastsLawful}
use Rattle.law_turns.specs.kr_steps.Computing.{computed}
use Rattle.law_turns.specs.kr_steps.Settling.{settled}
use Rattle.law_turns.specs.kr_turns.Breaking.{decoded_rule, operated_rule, plain_rule_of}
use Rattle.law_turns.specs.kr_turns.PlainCall.{Came, child_of, end_of, operated, plain_call}
use Rattle.law_turns.specs.kr_turns.Target.{IsLookedAt, LooksUpOne, instead_of, target_by}
use Rattle.law_turns.specs.kr_stops.Stopped.{IsThere, Stopped, edited, image_at, nothing_handed}
use Rattle.law_turns.specs.kr_turns.Turn.{Machine, Tally, after_born, after_end, after_exit, after_plain, called}
use Rattle.law_turns.specs.kr_stops.Watching.{unwatched}
use Rattle.law_turns.proofs.kr_stops.EditLemmas.{there as is_there}
use Rattle.law_turns.proofs.kr_turns.PlainLemmas.{no-exec-requested, no-exec-rule}
use Rattle.law_turns.proofs.kr_turns.TargetLemmas.{targets-are-told}
use Rattle.law_edits.specs.pt_faker.Stopping.{after_request, decoded_at}
use Rattle.law_edits.specs.pt_tracer.Planning.{edit_for, led_of, list_addresses, planned_by, texts_at}
use Rattle.law_edits.specs.pt_tracer.Registers.{arguments_at}
use Rattle.law_edits.specs.pt_tracer.Watched.{Tracing, after_decoding, after_plan, applied, awaiting, by_identities, entered, exited, is_execve, tracer, with_pending}
use Rattle.law_edits.specs.pt_tracer.declared.pending.Pending.{Pending}
use Rattle.law_edits.specs.pt_tracer.declared.plan.Led.{Led}
use Rattle.law_turns.specs.law_kept.ImagesApart.{leave_images, leaves_images}
use Rattle.law_turns.specs.law_kept.ImagePaths.{is_told_of_paths}
use Rattle.law_turns.proofs.law_kept.ImageApartLemmas.{changes_stand_apart}
use Rattle.law_turns.proofs.law_kept.ImageCallLemmas.{path_calls_answer, path_calls_leave_images}
use Rattle.law_turns.proofs.law_kept.GivenLemmas.{registers_given_back}
use Rattle.law_turns.specs.law_places.Changes.{NewPlacesStand}
use Rattle.law_turns.specs.law_places.Matching.{IsMatch}
use Rattle.law_turns.specs.law_places.Keeping.{MovesStayInside}
use Rattle.law_edits.specs.Exits.{left_with}
use Rattle.law_edits.specs.law_walks.BareFacts.{AreSeenAlike}
use Rattle.law_turns.specs.Calls.{decoded_by, decoded_in}
use Rattle.law_turns.specs.Changing.{all_tags_made}
use Rattle.law_turns.specs.Lasting.{CanBeCalled, LeavesLasting}
use Rattle.law_turns.specs.Operating.{IsCalmCall, IsCarriedAlike, behind, done_in, written_in}
use Rattle.law_turns.specs.Registers.{registers_in}
use Rattle.law_turns.proofs.CallLemmas.{by_request}
use Rattle.law_turns.proofs.CalledLemmas.{calls_last, decoded_lasts, decoded_lives, decoded_memory, decoded_process, lasts_living}
use Rattle.law_turns.proofs.ImageLemmas.{given}
use Rattle.law_turns.proofs.MatchLemmas.{match_computed}
use Rattle.law_turns.proofs.OperateLemmas.{calls_keep_matches, with_own_registers}
use Rattle.law_turns.proofs.PathlessLemmas.{none_of_all}
use Rattle.law_turns.proofs.PickLemmas.{same_known}
use Rattle.law_turns.proofs.QuietLemmas.{memory_computed}
use Rattle.law_turns.proofs.RegisterLemmas.{changes_keep_registers}
use Rattle.law_stops.specs.Noting.{told_answer}
use Rattle.law_stops.specs.Scene.{IsCalm, Scene, at_call, at_first_stop, mounted_after, traced_after}
use Rattle.law_stops.specs.Swapping.{IsToldAlong, at_entry}
use Rattle.law_stops.specs.Turning.{ComeFromCall, StayTogether}
use Rattle.law_stops.proofs.AnsweredLemmas.{computed_twice, lives_changed}
use Rattle.law_stops.proofs.CallLemmas as before
use Rattle.law_stops.proofs.EnterLemmas as enter
use Rattle.law_stops.proofs.CallLemmas.{exit_status, own_image, plain_named, unwatched_exit}
use Rattle.law_stops.proofs.CallerLemmas.{Callers}

-- ---- requests

pub no_exec_told : (r : Request) → is_told_of_paths r ≡ true → IsNoExec r
no_exec_told (call.Execve path args env) told = absurd cc
no_exec_told _ told = tt

pub runs_none : (r : Request) → is_told_of_paths r ≡ true → is_execve r ≡ false
runs_none (call.Execve path args env) told = absurd cc
runs_none _ told = refl

pub lists_none : (r : Request) → is_told_of_paths r ≡ true → list_addresses r ≡ None
lists_none (call.Execve path args env) told = absurd cc
lists_none _ told = refl

pub bears_none : (next : ℕ) (r : Request) (value : ℤ) → is_told_of_paths r ≡ true → child_of next r (Answer value) ≡ None
bears_none next (call.Clone flags sp ctid) value told = absurd cc
bears_none next _ value told = refl

-- ---- changes

marks_left : (c : Change) (cs : List Change) → leaves_images c ≡ true → ends_nobody (c ∷ cs) ≡ true → (leaves_mark c ≡ true) × (ends_nobody cs ≡ true)
marks_left (End status) cs leaves on = absurd cc
marks_left (ReplaceImage image brk) cs leaves on = absurd cc
marks_left _ cs leaves on = (refl, on)

all_marks_left : (cs : List Change) → leave_images cs ≡ true → ends_nobody cs ≡ true → list_all leaves_mark cs ≡ true
all_marks_left [] leave on = refl
all_marks_left (c ∷ cs) leave on =
    let parts = and_parts (leaves_images c) (leave_images cs) leave in
    let one = marks_left c cs parts.0 on in
    ap (λ b. b && list_all leaves_mark cs) one.0 ∙ all_marks_left cs parts.1 one.1

module _ {S : Type 0} {scene : Scene S} (callers : Callers scene) (r r2 : Request) (alike : IsToldAlong scene r r2) (calm : IsCalm scene) where
  open scene use {table, made, pid, mounted as m, traced as n}
  open callers use {comes as c, also_caller as q, also_lives as also}

  abbrev x : Tracing
  x = n.watcher

  abbrev w : State ℕ Image
  w = n.state

  abbrev s1 : State ℕ Image
  s1 = before.s1 callers

  abbrev p1 : Process ℕ Image
  p1 = before.p1 callers

  abbrev stop : Stopped
  stop = before.stop callers

  mine : CanBeCalled table made pid s1 p1
  mine = before.can callers

  abbrev at : State ℕ Image
  at = decoded_in pid p1 s1

  abbrev told : Seen
  told = seen table pid at r

  abbrev mounts : Mounts ℕ
  mounts = mounts_walked (targets_of table pid at r)

  reads : (decoded_by p1).reply ≡ Ok r
  reads = sym (before.decoded_here callers) ∙ alike.decoded

  reads_there : (decoded_at stop).reply ≡ Ok r
  reads_there = before.decoded_there callers ∙ sym (before.requests callers calm) ∙ reads

  there_stop : IsThere stop
  there_stop = is_there w pid nothing_handed q c.also_lasts.lawful.pids also

  abbrev led : Led
  led = led_of (texts_at x.bindings x.tags (after_request stop)) pid r

  abbrev edit : Edit
  edit = edit_for (texts_at x.bindings x.tags (after_request stop)) (after_request stop) r

  abbrev pending : Pending
  pending = awaiting (arguments_at (after_request stop)) r led None

  abbrev y : Tracing
  y = with_pending (map.insert x.pending pid pending) x

  -- the registers and the memory that the tracer leaves, in which the plain kernel finds the other request
  pub record IsEntered (registers : List ℕ) (memory3 : Memory) : Type 0 where
    pub answer : (applied edit (after_request stop)).answer ≡ None
    pub stopped : (applied edit (after_request stop)).stopped ≡ edited (record { x = registers; pc = q.image.regs.pc }) memory3 stop
    pub like : StaysLike q.image.memory.pages memory3.pages
    pub bytes : HoldsBytes memory3.pages
    pub unmarked : AreEqualUnmarked p1.image.memory.pages memory3.pages
    pub reads : (carried_out (decoding (record { x = registers; pc = q.image.regs.pc })) memory3).reply ≡ Ok r2
    pub kind : is_told_of_paths r2 ≡ true
    -- at the second stop the caller's registers are given back, but for the answer
    pub exits : (came : Came) (word : ℕ) → IsThere (called pid came) → (image_at (called pid came)).regs.x ≡ slice_set registers 10 word
        → exited y (called pid came) ≡ left_with y (called pid came) r led word (image_at stop).regs.x

  module _ (registers : List ℕ) (memory3 : Memory) (entry : IsEntered registers memory3) where
    abbrev regs3 : Regs
    regs3 = record { x = registers; pc = q.image.regs.pc }

    abbrev left : Stopped
    left = edited regs3 memory3 stop

    abbrev w3 : State ℕ Image
    w3 = computed pid regs3 memory3 w

    abbrev q3 : Process ℕ Image
    q3 = given pid regs3 memory3 q

    left_is : (applied edit (after_request stop)).stopped ≡ left
    left_is = entry.stopped

    told2 : is_told_of_paths r2 ≡ true
    told2 = entry.kind

    like3 : StaysLike q.image.memory.pages memory3.pages
    like3 = entry.like

    bytes3 : HoldsBytes memory3.pages
    bytes3 = entry.bytes

    lives3 : process pid w3 ≡ Some q3
    lives3 = enter.lives_with callers regs3 memory3 like3

    can3 : CanBeCalled plain made pid w3 q3
    can3 = enter.can_with callers regs3 memory3 like3 bytes3

    reads3 : (decoded_by q3).reply ≡ Ok r2
    reads3 = entry.reads

    abbrev memory4 : Memory
    memory4 = (decoded_by q3).memory

    pages4 : memory4.pages ≡ memory3.pages
    pages4 = enter.pages_with callers regs3 memory3 like3 bytes3

    abbrev w4 : State ℕ Image
    w4 = decoded_in pid q3 w3

    w4_is : w4 ≡ computed pid regs3 memory4 w
    w4_is = enter.decoded_is callers regs3 memory3 like3 bytes3

    there_is : (after_request (at_entry scene r)).state ≡ w4
    there_is = enter.there_is callers regs3 memory3 like3 bytes3 r left_is

    -- ---- the plain kernel, if its caller had kept its own registers

    abbrev own : State ℕ Image
    own = computed pid q.image.regs memory4 w

    abbrev own_q : Process ℕ Image
    own_q = given pid q.image.regs memory4 q

    like4 : StaysLike q.image.memory.pages memory4.pages
    like4 = enter.like_decoded callers regs3 memory3 like3 bytes3

    own_lives : process pid own ≡ Some own_q
    own_lives = enter.lives_with callers q.image.regs memory4 like4

    own_lasts : LastsLawful (λ k. k) plain made own
    own_lasts = enter.lasts_with callers q.image.regs memory4 like4

    bare_alike : bare image_layout (pins_of plain) own ≡ bare image_layout (pins_of plain) w4
    bare_alike = enter.bares_with callers q.image.regs regs3 memory4 memory4 like4 like4 ∙ sym (ap (bare image_layout (pins_of plain)) w4_is)

    sights : AreSeenAlike pid own w4 r2
    sights = subst (λ t. AreSeenAlike pid own t r2) (sym w4_is) (enter.sights_with callers q.image.regs regs3 memory4 memory4 like4 like4 r2)

    abbrev sight : Seen
    sight = seen plain pid w4 r2

    abbrev others : Mounts ℕ
    others = mounts_walked (targets_of plain pid w4 r2)

    own_memory : memory_of pid own ≡ memory4
    own_memory = memory_computed pid q.image.regs memory4 w q also

    also_allowed : LeavesLawful (λ k. k) plain others pid own (done_in pid r2 sight own)
    also_allowed =
        let room = lasting-room ℕ Image made own c.few own_lasts.lawful.tree.sound own_lasts.lasts in
        let pids = room.pids in
        let small : HasSmallNumbers own.tree own.next_pid = record { owners = room.owners; serials = room.serials; pids = omega arith } in
        let givable = decoded-are-givable regs3 memory3 r2 bytes3 reads3 in
        let bytes4 : HoldsBytes memory4.pages = subst (λ (pages : Pages). HoldsBytes pages) (sym pages4) bytes3 in
        let allowed =
        walked-calls-leave-lawful plain pid own own_q r2 (no_exec_told r2 told2) own_lasts.lawful own_lives bytes4 small givable.0 plain_named (lead_to_places plain own own_lasts.lawful pid)
        (λ targets e. walks_name plain pid own r2 targets own_lasts.lawful own_lasts.lasts.texts givable.1 e) in
        subst (λ (memory : Memory). LeavesLawful (λ k. k) plain others pid own (carried_out (operation pid r2 sight (known image_layout pid own)) memory)) (sym own_memory)
        (subst (λ targets. LeavesLawful (λ k. k) plain (mounts_walked targets) pid own (carried_out (operation pid r2 sight (known image_layout pid own)) memory4)) sights.targets
        (subst (λ seen. LeavesLawful (λ k. k) plain (mounts_walked (targets_of plain pid own r2)) pid own (carried_out (operation pid r2 seen (known image_layout pid own)) memory4)) sights.told allowed))

    match_own : IsMatch table x.tags at own
    match_own =
        let process = mine.lasts.lawful.processes pid p1 mine.lives in
        let stays = stays-like (decoding p1.image.regs) p1.image.memory process.whole process.paged in
        let unmarked = subst (λ one. AreEqualUnmarked one memory4.pages) (sym (decoding-leaves-pages p1.image.regs p1.image.memory mine.holds)) (subst (AreEqualUnmarked p1.image.memory.pages) (sym pages4) entry.unmarked) in
        let both = match_computed table x.tags s1 w (before.match1 callers) pid p1 q mine.lives also p1.image.regs (decoded_by p1).memory memory4 unmarked stays like4.layout in
        subst (λ regs. IsMatch table x.tags at (computed pid regs memory4 w)) (before.same_regs callers) both

    -- the plain kernel carries the call out as it would with its caller's own registers
    known_same : known image_layout pid w4 ≡ known image_layout pid own
    known_same = known-bare ℕ (pins_of plain) pid w4 ∙ ap (known (λ layout. layout) pid) (sym bare_alike) ∙ sym (known-bare ℕ (pins_of plain) pid own)

    -- ---- what holds of the call, at the mounted machine's state behind decoding

    at_is : (at_call scene).state ≡ at
    at_is = before.at_call_is callers

    acts : operation pid r told (known image_layout pid at) ≡ operation pid r2 sight (known image_layout pid at)
    acts =
        subst (λ t. operation pid r (seen table pid t r) (known image_layout pid t) ≡ operation pid r2 sight (known image_layout pid t)) at_is
        (subst (λ t. operation pid r (seen table pid (at_call scene).state r) (known image_layout pid (at_call scene).state) ≡ operation pid r2 (seen plain pid t r2) (known image_layout pid (at_call scene).state)) there_is alike.acts)

    -- a path that is looked up leads to the same inode for both
    pub leads_same : LooksUpOne (line r).told → IsLookedAt (line r).told → IsLookedAt (line r2).told → instead_of r ≡ instead_of r2 → (operated table pid r at).handed.target ≡ (operated plain pid r2 w4).handed.target
    leads_same looks one other instead =
        let looked : told ≡ sight =
        subst (λ t. seen table pid t r ≡ sight) at_is (subst (λ t. seen table pid (at_call scene).state r ≡ seen plain pid t r2) there_is (alike.looked looks)) in
        let knows : known image_layout pid at ≡ known image_layout pid w4 = same_known table x.tags at own match_own pid ∙ sym known_same in
        targets-are-told table pid r at one ∙ (λ i. target_by (instead i) (looked i) (knows i)) ∙ sym (targets-are-told plain pid r2 w4 other)

    same : (bare_mounts mounts ≡ bare_mounts others) ⊎ ((e : Errno) × (operation pid r told (known image_layout pid at) ≡ refuse e))
    same =
        subst (λ t. (bare_mounts (mounts_walked (targets_of table pid t r)) ≡ bare_mounts others) ⊎ ((e : Errno) × (operation pid r (seen table pid t r) (known image_layout pid t) ≡ refuse e))) at_is
        (subst (λ t. (bare_mounts (mounts_walked (targets_of table pid (at_call scene).state r)) ≡ bare_mounts (mounts_walked (targets_of plain pid t r2))) ⊎ ((e : Errno) × (operation pid r (seen table pid (at_call scene).state r) (known image_layout pid (at_call scene).state) ≡ refuse e)))
        there_is alike.mounts)

    abbrev done : CarriedOut Reply
    done = done_in pid r told at

    inside : MovesStayInside table mounts pid (with_memory_of pid done.memory at) done.reply.changes
    inside = subst (λ t. (let d = done_in pid r (seen table pid t r) t in MovesStayInside table (mounts_walked (targets_of table pid t r)) pid (with_memory_of pid d.memory t) d.reply.changes)) at_is alike.inside

    new : NewPlacesStand table mounts pid (with_memory_of pid done.memory at) done.reply.changes
    new = subst (λ t. (let d = done_in pid r (seen table pid t r) t in NewPlacesStand table (mounts_walked (targets_of table pid t r)) pid (with_memory_of pid d.memory t) d.reply.changes)) at_is alike.new

    tags_are : (value : ℤ) → done.reply.outcome ≡ Answer value → all_tags_made table mounts pid (with_memory_of pid done.memory at) done.reply.changes x.tags ≡ tags_after x.tags pid (noted r led.index (told_answer value))
    tags_are =
        subst (λ t. (value : ℤ) → done.reply.outcome ≡ Answer value → all_tags_made table mounts pid (with_memory_of pid done.memory at) done.reply.changes x.tags ≡ tags_after x.tags pid (noted r (led_of (texts_at x.bindings x.tags (after_request t)) pid r).index (told_answer value)))
        (before.calling_is callers)
        (subst
        (λ t. (let d = done_in pid r (seen table pid t r) t in (value : ℤ) → d.reply.outcome ≡ Answer value → all_tags_made table (mounts_walked (targets_of table pid t r)) pid (with_memory_of pid d.memory t) d.reply.changes x.tags
        ≡ tags_after x.tags pid (noted r (led_of (texts_at x.bindings x.tags (at_first_stop scene)) pid r).index (told_answer value)))) at_is alike.tags)

    done_same : done ≡ done_in pid r2 sight at
    done_same = ap (λ action. carried_out action (memory_of pid at)) acts

    calm_row : operated_rule 1 table pid (before.lacks callers) r at ≡ None
    calm_row =
        let lacks = before.lacks callers in
        no-exec-rule 1 table pid lacks at r (no_exec_told r alike.kind)
        ∙ sym (ap (λ o. option_map_or (plain_rule_of 1 table pid lacks s1) o None) mine.lives ∙ ap (λ reply. decoded_rule 1 table pid lacks reply at) reads)
        ∙ before.calm_call callers calm

    -- mounts that serve for those that the call names, and are named alike by the plain kernel
    record ServeFor (named : Mounts ℕ) : Type 0 where
      pub same : bare_mounts named ≡ bare_mounts others
      pub inside : MovesStayInside table named pid (with_memory_of pid done.memory at) done.reply.changes
      pub rules : BreakNone images named pid table done.reply.changes (with_memory_of pid done.memory at)
      pub new : NewPlacesStand table named pid (with_memory_of pid done.memory at) done.reply.changes
      pub allowed : LeavesLawful (λ k. k) table named pid at done
      pub tags : all_tags_made table named pid (with_memory_of pid done.memory at) done.reply.changes x.tags ≡ all_tags_made table mounts pid (with_memory_of pid done.memory at) done.reply.changes x.tags
      pub leave : all_applied images mounts pid done.reply.changes (with_memory_of pid done.memory at) ≡ all_applied images named pid done.reply.changes (with_memory_of pid done.memory at)

    lasting : LeavesLasting table made pid s1 p1 r
    lasting = calls_last table made pid s1 p1 r mine reads (no_exec_told r alike.kind)

    -- its own do; and where it is refused, it changes nothing, so that those of the plain kernel do
    served : (named : Mounts ℕ) × ServeFor named
    served = by same
      where
        by : (bare_mounts mounts ≡ bare_mounts others) ⊎ ((e : Errno) × (operation pid r told (known image_layout pid at) ≡ refuse e)) → (named : Mounts ℕ) × ServeFor named
        by (inl equal) =
            let rules = none_of_all _ _ _ _ _ _ calm_row in
            (mounts, record { same = equal; inside = inside; rules = record { third = rules.1; fourth = rules.2; fifth = rules.3 }; new = new; allowed = lasting.allowed; tags = refl; leave = refl })
        by (inr (e, refuses)) =
            let none : done.reply.changes ≡ [] = ap (λ (action : Replying). (carried_out action (memory_of pid at)).reply.changes) refuses in (
              others,
              record {
                same = refl;
                inside = subst (λ cs. MovesStayInside table others pid (with_memory_of pid done.memory at) cs) (sym none) tt;
                rules = subst (λ cs. BreakNone images others pid table cs (with_memory_of pid done.memory at)) (sym none) (record { third = refl; fourth = refl; fifth = refl });
                new = subst (λ cs. NewPlacesStand table others pid (with_memory_of pid done.memory at) cs) (sym none) tt;
                allowed = record {
                  before = lasting.allowed.before;
                  made = subst (λ cs. CanAllBeMade (λ k. k) table others pid (with_memory pid done.memory at) cs) (sym none) tt;
                  modest = lasting.allowed.modest;
                  lawful = subst (λ cs. IsLawful (λ k. k) table (all_applied images others pid cs (with_memory pid done.memory at))) (sym none) lasting.allowed.before;
                };
                tags = subst (λ cs. all_tags_made table others pid (with_memory_of pid done.memory at) cs x.tags ≡ all_tags_made table mounts pid (with_memory_of pid done.memory at) cs x.tags) (sym none) refl;
                leave = subst (λ cs. all_applied images mounts pid cs (with_memory_of pid done.memory at) ≡ all_applied images others pid cs (with_memory_of pid done.memory at)) (sym none) refl;
              },
            )

    abbrev named : Mounts ℕ
    named = served.0

    calm_call : IsCalmCall pid r2 sight table named others at own
    calm_call =
        let rules = none_of_all _ _ _ _ _ _ calm_row in
        record {
          kind = no_exec_told r2 told2;
          lives = subst IsSome (sym (decoded_lives table made pid s1 p1 mine)) refl;
          same = served.1.same;
          unread = subst (λ (d : CarriedOut Reply). d.memory.read_marked ≡ false) done_same (or_parts done.memory.read_marked (before.lacks callers) rules.0).0;
          inside = subst (λ (d : CarriedOut Reply). MovesStayInside table named pid (with_memory_of pid d.memory at) d.reply.changes) done_same served.1.inside;
          calm = subst (λ (d : CarriedOut Reply). BreakNone images named pid table d.reply.changes (with_memory_of pid d.memory at)) done_same served.1.rules;
          new = subst (λ (d : CarriedOut Reply). NewPlacesStand table named pid (with_memory_of pid d.memory at) d.reply.changes) done_same served.1.new;
          allowed = subst (LeavesLawful (λ k. k) table named pid at) done_same served.1.allowed;
          also_allowed = also_allowed;
        }

    both_done : IsCarriedAlike pid r2 sight table named others at own x.tags
    both_done = calls_keep_matches pid r2 sight table named others at own x.tags calm_call match_own

    -- ---- the answer

    answers : (value : ℤ) × (done.reply.outcome ≡ Answer value)
    answers = path_calls_answer pid r told (known image_layout pid at) (memory_of pid at) alike.kind

    abbrev value : ℤ
    value = answers.0

    abbrev own_done : CarriedOut Reply
    own_done = done_in pid r2 sight own

    own_answers : own_done.reply.outcome ≡ Answer value
    own_answers = sym (ap (λ (d : CarriedOut Reply). d.reply.outcome) done_same ∙ ap (λ (reply : Reply). reply.outcome) both_done.replies) ∙ answers.1

    abbrev changes : List Change
    changes = own_done.reply.changes

    leave : leave_images changes ≡ true
    leave = path_calls_leave_images pid r2 sight (known image_layout pid own) (memory_of pid own) told2

    done4_is : done_in pid r2 sight w4 ≡ own_done
    done4_is =
        ap (λ k. carried_out (operation pid r2 sight k) (memory_of pid w4)) known_same
        ∙ ap (carried_out (operation pid r2 sight (known image_layout pid own))) (decoded_memory plain made pid w3 q3 can3 ∙ sym own_memory)

    abbrev left_state : State ℕ Image
    left_state = answered pid value (all_applied images others pid changes (computed pid regs3 own_done.memory w))

    state4_is : (operated plain pid r2 w4).state ≡ left_state
    state4_is =
        ap (λ (d : CarriedOut Reply). settled pid d.reply.outcome (all_applied images others pid d.reply.changes (with_memory_of pid d.memory w4))) done4_is
        ∙ ap (λ o. settled pid o (all_applied images others pid changes (with_memory_of pid own_done.memory w4))) own_answers
        ∙ ap (λ t. answered pid value (all_applied images others pid changes t))
        (with_own_registers pid own_done.memory w4.next_pid w4 (decoded_process plain made pid w3 q3 can3) (decoded_lasts plain made pid w3 q3 can3).lawful.pids.living (decoded_lives plain made pid w3 q3 can3)
        ∙ ap (computed pid regs3 own_done.memory) w4_is ∙ computed_twice pid regs3 regs3 memory4 own_done.memory w)

    own_state_is : behind pid r2 sight others own ≡ answered pid value (all_applied images others pid changes (computed pid q.image.regs own_done.memory w))
    own_state_is =
        ap (λ o. settled pid o (all_applied images others pid changes (with_memory_of pid own_done.memory own))) own_answers
        ∙ ap (λ t. answered pid value (all_applied images others pid changes t))
        (with_own_registers pid own_done.memory own.next_pid own own_q own_lasts.lawful.pids.living own_lives ∙ computed_twice pid q.image.regs q.image.regs memory4 own_done.memory w)

    -- its caller behind the call
    abbrev after_changes : State ℕ Image
    after_changes = all_applied images others pid changes w

    apart : all_applied images others pid changes (computed pid regs3 own_done.memory w) ≡ computed pid regs3 own_done.memory after_changes
    apart = changes_stand_apart ℕ others pid changes regs3 own_done.memory w leave

    survives : (q' : Process ℕ Image) × (process pid after_changes ≡ Some q')
    survives = by (process pid after_changes) refl
      where
        differ : Answer value ≡ Ended → ⊥
        differ e = cc

        kept : registers_in pid after_changes ≡ Some q.image.regs
        kept = changes_keep_registers others pid pid changes w q.image.regs (all_marks_left changes leave (answers_end_nobody pid r2 sight (known image_layout pid own) (memory_of pid own) (no_exec_told r2 told2) (λ e. absurd (differ (sym own_answers ∙ e))))) (ap (option_map (λ (p : Process ℕ Image). p.image.regs)) also)

        by : (o : Option (Process ℕ Image)) → process pid after_changes ≡ o → (q' : Process ℕ Image) × (process pid after_changes ≡ Some q')
        by None none = absurd (never (sym (ap (option_map (λ (p : Process ℕ Image). p.image.regs)) none) ∙ kept))
          where
            never : {A : Type 0} {a : A} → None ≡ Some a → ⊥
            never e = cc
        by (Some q') there = (q', there)

    abbrev q5 : Process ℕ Image
    q5 = going (with_answer value) false (given pid regs3 own_done.memory survives.0)

    lives5 : process pid (operated plain pid r2 w4).state ≡ Some q5
    lives5 =
        ap (process pid) (state4_is ∙ ap (answered pid value) apart)
        ∙ lives_changed pid (going (with_answer value) false) (λ p. refl) (computed pid regs3 own_done.memory after_changes) (given pid regs3 own_done.memory survives.0)
        (lives_changed pid (given pid regs3 own_done.memory) (λ p. refl) after_changes survives.0 survives.1)

    -- ---- both stops

    entered_is : entered x stop ≡ (y, left)
    entered_is =
        ap (after_decoding x (after_request stop)) reads_there
        ∙ ap (by_identities x r (after_request stop)) c.traces.identities
        ∙ ap (λ lists. after_plan x (after_request stop) r (planned_by x.bindings x.tags (after_request stop) r lists (path_at r 0))) (lists_none r alike.kind)
        ∙ ap (λ a. (with_pending (map.insert x.pending pid (awaiting (arguments_at (after_request stop)) r led a)) x, (applied edit (after_request stop)).stopped)) entry.answer
        ∙ ap (λ t. (y, t)) left_is

    abbrev came2 : Came
    came2 = operated plain pid r2 w4

    pub came2_is : plain_call plain pid w3 ≡ came2
    came2_is = by_request table pid plain w3 q3 (Ok r2) lives3 reads3 ∙ sym (no-exec-requested plain pid w4 r2 (no_exec_told r2 told2))

    abbrev stop2 : Stopped
    stop2 = called pid came2

    also_lasting : LastsLawful (λ k. k) plain (suc made) came2.state
    also_lasting = subst (λ (came : Came). LastsLawful (λ k. k) plain (suc made) came.state) came2_is (calls_last plain made pid w3 q3 r2 can3 reads3 (no_exec_told r2 told2)).lasts

    abbrev given_back : Tracing × Stopped
    given_back = left_with y stop2 r led (cast_unsigned w64 value) (image_at stop).regs.x

    exits : exited y stop2 ≡ given_back
    exits = entry.exits came2 (cast_unsigned w64 value) (is_there came2.state pid came2.handed q5 also_lasting.lawful.pids lives5) (ap (λ (image : Image). image.regs.x) (own_image pid came2.state q5 lives5))

    abbrev final : State ℕ Image
    final = behind pid r2 sight others own

    given_state : given_back.1.state ≡ computed pid (with_answer value q.image.regs) own_done.memory came2.state
    given_state =
        ap (λ (image : Image). computed pid (record { x = slice_set (image_at stop).regs.x 10 (cast_unsigned w64 value); pc = image.regs.pc }) image.memory came2.state) (own_image pid came2.state q5 lives5)
        ∙ ap (λ (image : Image). computed pid (record { x = slice_set image.regs.x 10 (cast_unsigned w64 value); pc = q5.image.regs.pc }) own_done.memory came2.state) (own_image pid w q also)

    final_is : given_back.1.state ≡ final
    final_is =
        given_state ∙ ap (computed pid (with_answer value q.image.regs) own_done.memory) state4_is
        ∙ registers_given_back ℕ others pid changes regs3 q.image.regs (with_answer value q.image.regs) own_done.memory value w leave refl ∙ sym own_state_is

    abbrev tally : Tally
    tally = before.unjudged callers left

    traced_is : traced_after scene ≡ record { state = final; watcher = given_back.0; tally = tally }
    traced_is =
        before.traced_call callers y left entered_is
        ∙ ap (λ came. after_plain tracer pid came y tally) came2_is
        ∙ ap (λ e. after_end tracer pid e stop2 (after_born tracer pid came2.child y) tally) (ap (λ (d : CarriedOut Reply). end_of r2 d.reply.outcome) done4_is ∙ ap (end_of r2) own_answers)
        ∙ ap (λ child. after_exit tracer stop2 (after_born tracer pid child y) tally (process pid came2.state))
        (ap (λ (d : CarriedOut Reply). child_of w4.next_pid r2 d.reply.outcome) done4_is ∙ ap (child_of w4.next_pid r2) own_answers ∙ bears_none w4.next_pid r2 value told2)
        ∙ ap (after_exit tracer stop2 y tally) lives5
        ∙ ap (λ (e : Tracing × Stopped). record { state = e.1.state; watcher = e.0; tally = tally }) exits
        ∙ ap (λ t. record { state = t; watcher = given_back.0; tally = tally }) final_is

    -- ---- the mounted machine

    abbrev came : Came
    came = operated table pid r at

    came_is : plain_call table pid s1 ≡ came
    came_is = by_request table pid table s1 p1 (Ok r) mine.lives reads ∙ sym (no-exec-requested table pid at r (no_exec_told r alike.kind))

    abbrev judged : Tally
    judged = before.judged callers

    abbrev mounted : Machine S
    mounted = after_exit unwatched (called pid came) (after_born unwatched pid came.child m.watcher) judged (process pid came.state)

    mounted_is : mounted_after scene ≡ mounted
    mounted_is =
        before.mounted_call callers
        ∙ ap (λ came. after_plain unwatched pid came m.watcher judged) came_is
        ∙ ap (λ o. after_end unwatched pid (end_of r o) (called pid came) (after_born unwatched pid came.child m.watcher) judged) answers.1

    came_state : came.state ≡ behind pid r2 sight named at
    came_state =
        ap (settled pid done.reply.outcome) served.1.leave
        ∙ ap (λ (d : CarriedOut Reply). settled pid d.reply.outcome (all_applied images named pid d.reply.changes (with_memory_of pid d.memory at))) done_same

    match_final : IsMatch table (tags_after x.tags pid (noted r led.index (told_answer value))) came.state final
    match_final =
        let tags = sym (ap (λ (d : CarriedOut Reply). all_tags_made table named pid (with_memory_of pid d.memory at) d.reply.changes x.tags) done_same) ∙ served.1.tags ∙ tags_are value answers.1 in
        subst (λ tags. IsMatch table tags came.state final) tags (subst (λ t. IsMatch table (all_tags_made table named pid (written_in pid r2 sight at) (done_in pid r2 sight at).reply.changes x.tags) t final) (sym came_state) both_done.matches)

    final_lasts : LastsLawful (λ k. k) plain (suc made) final
    final_lasts =
        let process = also_lasting.lawful.processes pid q5 lives5 in
        let itself : StaysLike own_done.memory.pages own_done.memory.pages = record { whole = process.whole; placed = process.paged; layout = refl } in
        subst (LastsLawful (λ k. k) plain (suc made)) (sym given_state ∙ final_is)
        (record {
          lawful = lawful-image (λ k. k) plain came2.state also_lasting.lawful pid q5 lives5 own_done.memory itself (λ _. with_answer value q.image.regs);
          lasts = lasts_living (suc made) (with_process pid (given pid (with_answer value q.image.regs) own_done.memory)) came2.state also_lasting.lasts;
        })

    pub carried_together : StayTogether scene
    carried_together =
        let exit_state : mounted.state ≡ came.state = unwatched_exit pid (called pid came) (after_born unwatched pid came.child m.watcher) judged (process pid came.state) in
        let lasts = (calls_last table made pid s1 p1 r mine reads (no_exec_told r alike.kind)).lasts in
        subst (λ (e : Machine S). ComeFromCall table made e (traced_after scene)) (sym mounted_is)
        (subst (ComeFromCall table made mounted) (sym traced_is)
        (record {
          matches = record {
            states = subst (λ t. IsMatch table (tags_after x.tags pid (noted r led.index (told_answer value))) t final) (sym exit_state) match_final;
            statuses = exit_status unwatched pid (called pid came) (after_born unwatched pid came.child m.watcher) judged (process pid came.state) ∙ c.matches.statuses;
          };
          lasts = subst (LastsLawful (λ k. k) table (suc made)) (sym (exit_state ∙ sym (ap (λ (came : Came). came.state) came_is))) lasts;
          also_lasts = final_lasts;
          traces = record { bindings = c.traces.bindings; identities = c.traces.identities };
        }))
