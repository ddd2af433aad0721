-- A call on users and groups, which both watchers answer in place of the kernel.
use Rattle.std.specs.FinMap as map
use Rattle.std.proofs.Common.{◌≡◌, ℕ, suc, Bool, false, Option, Some, None, Ok, get_or, refl, sym, ap, subst, ◌∙◌}
use Rattle.std.specs.Prelude.{◌==◌, slice_set}
use Rattle.law_turns.proofs.pr_base.MapLemmas.{get-insert_same}
use Rattle.law_turns.specs.pr_base.declared.errno.Errno.TheVariants.{ENOSYS}
use Rattle.law_edits.specs.rv_mem.Actions.{Action, AreEqualUnmarked, CarriedOut, carried_out}
use Rattle.law_edits.specs.rv_mem.Memory.{Memory}
use Rattle.law_edits.specs.rv_mem.Pages.{Pages}
use Rattle.law_turns.proofs.rv_mem.ActionLemmas.{reads_alike}
use Rattle.law_edits.specs.pt_ident.Identity.{Answered, Effect, Identity, effect, on_memory, refusal}
use Rattle.law_edits.specs.pt_ident.IdentityTable.{identity_at, with_identity}
use Rattle.law_edits.specs.pt_bind.Tags.{TagTable}
use Rattle.law_turns.specs.pt_results.Notes.{noted_of, tags_after}
use Rattle.law_edits.specs.kr_view.View.{plain}
use Rattle.law_turns.specs.kr_calls.Decoding.{decoding}
use Rattle.law_turns.specs.kr_calls.declared.request.Request.{Request}
use Rattle.law_turns.specs.kr_calls.declared.request.Request.TheVariants as call
use Rattle.law_edits.specs.kr_model.State.{Image, Process, State, process, with_process}
use Rattle.law_edits.specs.kr_model.declared.outcome.Outcome.TheVariants.{Answer}
use Rattle.law_turns.proofs.law_allowed.DecodedLemmas.{decoding-leaves-pages}
use Rattle.law_turns.proofs.law_allowed.RowLemmas.{StaysLike, lawful-image, stays-like}
use Rattle.law_turns.specs.kr_steps.Answering.{answered}
use Rattle.law_turns.specs.kr_steps.Computing.{computed}
use Rattle.law_turns.specs.kr_turns.Breaking.{plain_rule}
use Rattle.law_turns.specs.kr_turns.PlainCall.{Came, plain_call}
use Rattle.law_turns.specs.kr_turns.Shelving.{lacks_in}
use Rattle.law_turns.specs.kr_stops.Stopped.{IsThere, Stopped, edited, image_at, nothing_handed}
use Rattle.law_turns.specs.kr_turns.Turn.{Machine, Tally, after_exit, after_plain, called, calling, with_broken}
use Rattle.law_turns.proofs.kr_stops.EditLemmas.{there}
use Rattle.law_turns.specs.law_places.Matching.{IsMatch}
use Rattle.law_edits.specs.pt_faker.Faking.{Faking, after_decoding as faked_decoding, after_due, after_effect as faked_effect, due_of, entered as faked_entry, exited as faked_exit, faker, keeping, no_longer_called, told, with_due, without_due, word_of}
use Rattle.law_edits.specs.pt_faker.Stopping.{after_request, decoded_at, memory_at, with_memory}
use Rattle.law_edits.specs.pt_faker.declared.due.Due.TheVariants as due
use Rattle.law_edits.specs.pt_tracer.Planning.{nowhere}
use Rattle.law_edits.specs.pt_tracer.Registers.{arguments_at}
use Rattle.law_edits.specs.pt_tracer.Watched.{Tracing, after_decoding, after_effect, awaiting, by_identities, entered, exited, has_begun, is_execve, returned, tracer, with_identities, with_pending}
use Rattle.law_edits.specs.pt_tracer.declared.pending.Pending.{Pending}
use Rattle.law_edits.specs.Exits.{left_with}
use Rattle.law_edits.specs.NoCalls.{without_call}
use Rattle.law_edits.proofs.ExitLemmas.{exits_behind_answers}
use Rattle.law_turns.specs.Calls.{decoded_by}
use Rattle.law_turns.proofs.CalledLemmas.{lasts_living, lives_computed, longer_lasts, settled_lasts}
use Rattle.law_turns.proofs.ImageLemmas.{given}
use Rattle.law_turns.proofs.RunLemmas.{decoded_alike}
use Rattle.law_turns.proofs.SettleLemmas.{match_settled}
use Rattle.law_turns.proofs.UnreadLemmas.{calm_unread, unread_before}
use Rattle.law_stops.proofs.AnsweredLemmas.{told_again}
use Rattle.law_stops.proofs.CallLemmas as before
use Rattle.law_stops.proofs.CallLemmas.{own_image}
use Rattle.law_stops.proofs.CallerLemmas.{FakedCallers, faked_callers_of, untold_callers}
use Rattle.law_stops.specs.Calls.{IdentityCallsGoTogether}
use Rattle.law_stops.specs.Editing.{stop_in}
use Rattle.law_stops.specs.Going.{ComeFromFakedCall, IsCalmFaked, StandAlike, StayTogetherFaked, faked_after}
use Rattle.law_stops.specs.Scene.{Scene, asked, caller_here, traced_after}
use Rattle.law_stops.proofs.EditLemmas.{both_edited}
use Rattle.law_stops.proofs.EntryLemmas as entry
use Rattle.law_stops.proofs.KernelLemmas.{left, not_begun, told_exit, told_left, untold_exit}
use Rattle.law_stops.proofs.TakenLemmas as taken

-- ---- requests on users and groups

-- nothing is due of them, they begin no program, and nothing is noted of them
pub record IsAnswered (root : Bool) (r : Request) : Type 0 where
  pub due : due_of root r ≡ None
  pub runs : is_execve r ≡ false
  pub silent : (tags : TagTable) (pid : ℕ) (number : Option ℕ) → tags_after tags pid (noted_of r 0 number) ≡ tags

is_answered : (root : Bool) (i : Identity) (r : Request) (e : Effect) → effect i r ≡ Some e → IsAnswered root r
is_answered root i call.Getuid e is = record { due = refl; runs = refl; silent = λ tags pid number. refl }
is_answered root i call.Geteuid e is = record { due = refl; runs = refl; silent = λ tags pid number. refl }
is_answered root i call.Getgid e is = record { due = refl; runs = refl; silent = λ tags pid number. refl }
is_answered root i call.Getegid e is = record { due = refl; runs = refl; silent = λ tags pid number. refl }
is_answered root i (call.Getresuid ruid euid suid) e is = record { due = refl; runs = refl; silent = λ tags pid number. refl }
is_answered root i (call.Getresgid rgid egid sgid) e is = record { due = refl; runs = refl; silent = λ tags pid number. refl }
is_answered root i (call.Setuid uid) e is = record { due = refl; runs = refl; silent = λ tags pid number. refl }
is_answered root i (call.Setgid gid) e is = record { due = refl; runs = refl; silent = λ tags pid number. refl }
is_answered root i (call.Setreuid ruid euid) e is = record { due = refl; runs = refl; silent = λ tags pid number. refl }
is_answered root i (call.Setregid rgid egid) e is = record { due = refl; runs = refl; silent = λ tags pid number. refl }
is_answered root i (call.Setresuid ruid euid suid) e is = record { due = refl; runs = refl; silent = λ tags pid number. refl }
is_answered root i (call.Setresgid rgid egid sgid) e is = record { due = refl; runs = refl; silent = λ tags pid number. refl }
is_answered root i (call.Getgroups size list) e is = record { due = refl; runs = refl; silent = λ tags pid number. refl }
is_answered root i (call.Setgroups size list) e is = record { due = refl; runs = refl; silent = λ tags pid number. refl }
is_answered root i _ e is = absurd cc

module _ {scene : Scene Faking} (callers : FakedCallers scene) (r : Request) (e : Effect) (decoded : asked scene ≡ Ok r) (is : effect (identity_at scene.mounted.watcher.identities scene.pid) r ≡ Some e) (calm : IsCalmFaked scene) where
  open scene use {table, made, pid, mounted as m, traced as n}
  open callers use {comes as c, also_caller as q, also_lives as also}

  abbrev f : Faking
  f = m.watcher

  abbrev x : Tracing
  x = n.watcher

  abbrev w : State ℕ Image
  w = n.state

  abbrev s1 : State ℕ Image
  s1 = entry.s1 callers

  abbrev p1 : Process ℕ Image
  p1 = entry.p1 callers

  lives1 : process pid s1 ≡ Some p1
  lives1 = entry.lives1 callers

  match1 : IsMatch table x.tags s1 w
  match1 = before.match1 (untold_callers callers)

  reads : (decoded_by p1).reply ≡ Ok r
  reads = sym (entry.decoded_first callers) ∙ sym (ap (λ t. (decoded_at t).reply) (entry.calling_is callers)) ∙ decoded

  -- what is done in either memory in place of the call
  abbrev action : Action Answered
  action = on_memory (identity_at f.identities pid) e

  abbrev done : CarriedOut Answered
  done = carried_out action (decoded_by p1).memory

  abbrev also_done : CarriedOut Answered
  also_done = carried_out action (decoded_by q).memory

  -- ---- the first stop with mounts

  abbrev number : ℕ
  number = get_or p1.image.regs.x 17 0

  abbrev f1 : Faking
  f1 = with_due pid (Some (due.Tells number done.reply.answer)) (keeping pid done.reply.identity f)

  there_first : IsThere (stop_in pid s1 nothing_handed)
  there_first = there s1 pid nothing_handed p1 match1.placed.lawful.pids lives1

  abbrev left1 : State ℕ Image
  left1 = taken.left pid s1 p1 lives1 done.memory

  abbrev second : Stopped
  second = entry.second callers

  image_second : image_at second ≡ record { regs = p1.image.regs; memory = (decoded_by p1).memory }
  image_second = own_image pid second.state (given pid p1.image.regs (decoded_by p1).memory p1) (lives_computed pid p1.image.regs (decoded_by p1).memory s1 p1 lives1)

  enters : faked_entry f (caller_here scene) ≡ (f1, stop_in pid left1 nothing_handed)
  enters =
      ap (faked_entry f) (entry.calling_is callers)
      ∙ ap (faked_decoding f (after_request (stop_in pid s1 nothing_handed))) (entry.decoded_first callers ∙ reads)
      ∙ ap (faked_effect f r (after_request (stop_in pid s1 nothing_handed))) is
      ∙ ap (λ t. faked_effect f r t (Some e)) (entry.after_first callers)
      ∙ ap (λ (image : Image). let done = carried_out action image.memory in (with_due pid (Some (due.Tells (get_or image.regs.x 17 0) done.reply.answer)) (keeping pid done.reply.identity f), no_longer_called (with_memory done.memory second))) image_second
      ∙ ap (λ (t : Stopped). (f1, t)) (taken.number_taken pid s1 p1 lives1 done.memory there_first (decoded_by p1).memory)

  entered_call : faked_after scene ≡ entry.behind_entry callers (f1, stop_in pid left1 nothing_handed)
  entered_call = ap (entry.behind_entry callers) enters

  -- it read no marked byte
  unread : done.memory.read_marked ≡ false
  unread =
      unread_before (decoding (without_call p1.image.regs)) done.memory
      (calm_unread table pid (entry.lacks callers) left1 (taken.caller pid s1 p1 lives1 done.memory) (taken.caller_lives pid s1 p1 lives1 done.memory)
      (entry.calm_rule callers (f1, stop_in pid left1 nothing_handed) (sym (ap (λ (x : Machine Faking). x.tally.broken) entered_call) ∙ calm)))

  decoded_unread : (decoded_by p1).memory.read_marked ≡ false
  decoded_unread = unread_before action (decoded_by p1).memory unread

  same_pages : AreEqualUnmarked (decoded_by p1).memory.pages (decoded_by q).memory.pages
  same_pages =
      subst (λ (pages : Pages). AreEqualUnmarked pages (decoded_by q).memory.pages) (sym (decoding-leaves-pages p1.image.regs p1.image.memory (entry.can callers).holds))
      (subst (AreEqualUnmarked p1.image.memory.pages) (sym (decoding-leaves-pages q.image.regs q.image.memory (c.also_sized pid q also).bytes)) (match1.images.memories pid p1 q lives1 also))

  both_done : (done.reply ≡ also_done.reply) × AreEqualUnmarked done.memory.pages also_done.memory.pages
  both_done = reads_alike action (decoded_by p1).memory (decoded_by q).memory same_pages unread

  -- ---- the first stop of the tracer

  abbrev stop : Stopped
  stop = stop_in pid w nothing_handed

  stop_is : calling 0 pid w ≡ stop
  stop_is = before.calling_is (untold_callers callers)

  reads_q : (decoded_by q).reply ≡ Ok r
  reads_q = sym (decoded_alike table x.tags pid s1 w p1 q match1 lives1 also decoded_unread).requests ∙ reads

  reads_there : (decoded_at stop).reply ≡ Ok r
  reads_there = before.decoded_there (untold_callers callers) ∙ reads_q

  there_stop : IsThere stop
  there_stop = there w pid nothing_handed q c.also_lasts.lawful.pids also

  abbrev pending : Pending
  pending = awaiting (arguments_at (after_request stop)) r nowhere (Some also_done.reply.answer)

  abbrev y : Tracing
  y = with_pending (map.insert x.pending pid pending) (with_identities (Some (with_identity pid also_done.reply.identity f.identities)) x)

  abbrev left2 : State ℕ Image
  left2 = taken.left pid w q also also_done.memory

  after_stop : after_request stop ≡ edited q.image.regs (decoded_by q).memory stop
  after_stop = ap (λ (image : Image). edited image.regs (carried_out (decoding image.regs) image.memory).memory stop) (own_image pid w q also)

  memory_stop : memory_at (after_request stop) ≡ (decoded_by q).memory
  memory_stop = ap memory_at after_stop ∙ ap (λ (image : Image). image.memory) (own_image pid (computed pid q.image.regs (decoded_by q).memory w) (given pid q.image.regs (decoded_by q).memory q) (lives_computed pid q.image.regs (decoded_by q).memory w q also))

  enters_there : entered x stop ≡ (y, stop_in pid left2 nothing_handed)
  enters_there =
      ap (after_decoding x (after_request stop)) reads_there
      ∙ ap (by_identities x r (after_request stop)) c.goes.identities
      ∙ ap (after_effect x f.identities r (after_request stop)) is
      ∙ ap (λ (memory : Memory). let done = carried_out action memory in (with_pending (map.insert x.pending pid (awaiting (arguments_at (after_request stop)) r nowhere (Some done.reply.answer))) (with_identities (Some (with_identity pid done.reply.identity f.identities)) x), no_longer_called (with_memory done.memory (after_request stop)))) memory_stop
      ∙ ap (λ (t : Stopped). (y, no_longer_called (with_memory also_done.memory t))) after_stop
      ∙ ap (λ (t : Stopped). (y, t)) (taken.number_taken pid w q also also_done.memory there_stop (decoded_by q).memory)

  abbrev behind_entry : Tracing × Stopped → Machine Tracing
  behind_entry e = after_plain tracer pid (plain_call plain pid e.1.state) e.0 (with_broken (plain_rule 0 plain pid (lacks_in 0 pid w) e.1.state) n.tally)

  traced_call : traced_after scene ≡ behind_entry (y, stop_in pid left2 nothing_handed)
  traced_call = ap (λ (t : Stopped). behind_entry (entered x t)) stop_is ∙ ap behind_entry enters_there

  -- ---- what both kernels refuse

  like : StaysLike p1.image.memory.pages done.memory.pages
  like =
      let own = match1.placed.lawful.processes pid p1 lives1 in
      let first = stays-like (decoding p1.image.regs) p1.image.memory own.whole own.paged in
      let then = stays-like action (decoded_by p1).memory first.whole first.placed in
      record { whole = then.whole; placed = then.placed; layout = then.layout ∙ first.layout }

  also_like : StaysLike q.image.memory.pages also_done.memory.pages
  also_like =
      let own = c.also_lasts.lawful.processes pid q also in
      let first = stays-like (decoding q.image.regs) q.image.memory own.whole own.paged in
      let then = stays-like action (decoded_by q).memory first.whole first.placed in
      record { whole = then.whole; placed = then.placed; layout = then.layout ∙ first.layout }

  abbrev came : Came
  came = taken.behind pid s1 p1 lives1 done.memory

  abbrev came2 : Came
  came2 = taken.behind pid w q also also_done.memory

  came_is : plain_call table pid left1 ≡ came
  came_is = taken.refused pid s1 p1 lives1 done.memory table r p1.image.memory reads

  came2_is : plain_call plain pid left2 ≡ came2
  came2_is = taken.refused pid w q also also_done.memory plain r q.image.memory reads_q

  there_came : IsThere (called pid came)
  there_came =
      let lawful = lawful-image (λ k. k) table s1 match1.placed.lawful pid p1 lives1 done.memory like (λ _. without_call p1.image.regs) in
      let lasts = settled_lasts table made pid (Answer (refusal ENOSYS)) left1 (record { lawful = lawful; lasts = lasts_living made (with_process pid (given pid (without_call p1.image.regs) done.memory)) s1 (entry.can callers).lasts.lasts }) in
      there came.state pid nothing_handed (taken.refused_caller pid s1 p1 lives1 done.memory) lasts.lawful.pids (taken.refused_lives pid s1 p1 lives1 done.memory)

  there_came2 : IsThere (called pid came2)
  there_came2 =
      let lawful = lawful-image (λ k. k) plain w c.also_lasts.lawful pid q also also_done.memory also_like (λ _. without_call q.image.regs) in
      let lasts = settled_lasts plain made pid (Answer (refusal ENOSYS)) left2 (record { lawful = lawful; lasts = lasts_living made (with_process pid (given pid (without_call q.image.regs) also_done.memory)) w c.also_lasts.lasts }) in
      there came2.state pid nothing_handed (taken.refused_caller pid w q also also_done.memory) lasts.lawful.pids (taken.refused_lives pid w q also also_done.memory)

  -- ---- the second stop with mounts

  abbrev answered1 : State ℕ Image
  answered1 = answered pid done.reply.answer (computed pid p1.image.regs done.memory s1)

  abbrev kept : Faking
  kept = without_due pid f1

  exits : faked_exit f1 (called pid came) ≡ (kept, told number done.reply.answer (called pid came))
  exits = ap (after_due kept (called pid came)) (get-insert_same f.dues pid (due.Tells number done.reply.answer))

  abbrev judged : Tally
  judged = with_broken (plain_rule 1 table pid (entry.lacks callers) left1) m.tally

  mounted_is : faked_after scene ≡ record { state = answered1; watcher = kept; tally = judged }
  mounted_is =
      entered_call
      ∙ ap (λ came. after_plain faker pid came f1 judged) came_is
      ∙ ap (after_exit faker (called pid came) f1 judged) (taken.refused_lives pid s1 p1 lives1 done.memory)
      ∙ ap (λ (e : Faking × Stopped). record { state = e.1.state; watcher = e.0; tally = judged }) exits
      ∙ ap (λ s. record { state = s; watcher = kept; tally = judged }) (taken.told_answer pid s1 p1 lives1 done.memory done.reply.answer there_came)

  -- ---- the second stop of the tracer

  answers : IsAnswered (f.identities.uid == 0) r
  answers = is_answered (f.identities.uid == 0) (identity_at f.identities pid) r e is

  pending_there : map.get y.pending pid ≡ Some pending
  pending_there = get-insert_same x.pending pid pending

  none_begun : has_begun pending (called pid came2) ≡ false
  none_begun = not_begun pending (called pid came2) answers.runs

  abbrev traced : Tracing
  traced = with_identities (Some (with_identity pid also_done.reply.identity f.identities)) (left pending y (called pid came2) pending_there)

  abbrev answered2 : State ℕ Image
  answered2 = answered pid also_done.reply.answer (computed pid q.image.regs also_done.memory w)

  abbrev other : Tally
  other = with_broken (plain_rule 0 plain pid (lacks_in 0 pid w) left2) n.tally

  -- the registers are given back as they are where no identity is told
  abbrev untold_left : Tracing × Stopped
  untold_left = left_with (with_identities None y) (called pid came2) r nowhere (word_of also_done.reply.answer) (image_at stop).regs.x

  returned_is : returned pending (called pid came2) ≡ untold_left.1
  returned_is =
      ap (λ (e : Tracing × Stopped). e.1)
      (sym (untold_exit pending y (called pid came2) pending_there none_begun)
      ∙ exits_behind_answers (with_identities None y) stop (called pid came2) (decoded_at stop).memory r nowhere also_done.reply.answer (word_of (refusal ENOSYS)) refl pending_there reads_there there_stop there_came2
      (ap (λ (image : Image). image.regs.x) (own_image pid came2.state (taken.refused_caller pid w q also also_done.memory) (taken.refused_lives pid w q also also_done.memory))
      ∙ ap (λ (image : Image). slice_set (without_call image.regs).x 10 (word_of (refusal ENOSYS))) (sym (own_image pid w q also))))

  returned_state : (returned pending (called pid came2)).state ≡ answered2
  returned_state =
      let q3 = taken.refused_caller pid w q also also_done.memory in
      ap (λ (t : Stopped). t.state) returned_is
      ∙ ap (λ (image : Image). computed pid (record { x = slice_set (image_at stop).regs.x 10 (word_of also_done.reply.answer); pc = image.regs.pc }) image.memory came2.state) (own_image pid came2.state q3 (taken.refused_lives pid w q also also_done.memory))
      ∙ ap (λ (image : Image). computed pid (record { x = slice_set image.regs.x 10 (word_of also_done.reply.answer); pc = q3.image.regs.pc }) also_done.memory came2.state) (own_image pid w q also)
      ∙ told_again pid q.image.regs (record { x = slice_set q.image.regs.x 10 (word_of also_done.reply.answer); pc = q3.image.regs.pc }) also_done.memory (refusal ENOSYS) also_done.reply.answer w refl (without_call q.image.regs)

  exits_there : exited y (called pid came2) ≡ (traced, returned pending (called pid came2))
  exits_there =
      told_exit pending y (called pid came2) pending_there none_begun (with_identity pid also_done.reply.identity f.identities) refl
      ∙ ap (told_left pending y (called pid came2) pending_there (with_identity pid also_done.reply.identity f.identities)) answers.due

  traced_is : traced_after scene ≡ record { state = answered2; watcher = traced; tally = other }
  traced_is =
      traced_call
      ∙ ap (λ came. after_plain tracer pid came y other) came2_is
      ∙ ap (after_exit tracer (called pid came2) y other) (taken.refused_lives pid w q also also_done.memory)
      ∙ ap (λ (e : Tracing × Stopped). record { state = e.1.state; watcher = e.0; tally = other }) exits_there
      ∙ ap (λ s. record { state = s; watcher = traced; tally = other }) returned_state

  -- ---- the match

  before_answer : StandAlike table x.tags made (computed pid p1.image.regs done.memory s1) (computed pid q.image.regs also_done.memory w)
  before_answer =
      subst (λ regs. StandAlike table x.tags made (computed pid p1.image.regs done.memory s1) (computed pid regs also_done.memory w)) (before.same_regs (untold_callers callers))
      (both_edited table x.tags made pid s1 w p1 q lives1 also (record { matches = match1; lasts = (entry.can callers).lasts; also_lasts = c.also_lasts }) p1.image.regs done.memory also_done.memory both_done.1 like also_like)

  match_answered : IsMatch table x.tags answered1 answered2
  match_answered =
      subst (λ (a : Answered). IsMatch table x.tags answered1 (answered pid a.answer (computed pid q.image.regs also_done.memory w))) both_done.0
      (match_settled table x.tags pid (Answer done.reply.answer) (computed pid p1.image.regs done.memory s1) (computed pid q.image.regs also_done.memory w) before_answer.matches)

  identities_together : StayTogetherFaked scene
  identities_together =
      subst (λ (e : Machine Faking). ComeFromFakedCall table made e (traced_after scene)) (sym mounted_is)
      (subst (ComeFromFakedCall table made (record { state = answered1; watcher = kept; tally = judged })) (sym traced_is)
      (record {
        matches = record {
          states = subst (λ tags. IsMatch table tags answered1 answered2) (sym (answers.silent x.tags pid _)) match_answered;
          statuses = c.matches.statuses;
        };
        lasts = settled_lasts table (suc made) pid (Answer done.reply.answer) (computed pid p1.image.regs done.memory s1) (longer_lasts table made (computed pid p1.image.regs done.memory s1) before_answer.lasts);
        also_lasts = settled_lasts plain (suc made) pid (Answer also_done.reply.answer) (computed pid q.image.regs also_done.memory w) (longer_lasts plain made (computed pid q.image.regs also_done.memory w) before_answer.also_lasts);
        goes = record { bindings = c.goes.bindings; user = c.goes.user; identities = ap (λ (a : Answered). Some (with_identity pid a.identity f.identities)) (sym both_done.0) };
      }))

pub identity_calls_go_together : IdentityCallsGoTogether
identity_calls_go_together scene r e comes decoded is calm = identities_together (faked_callers_of comes) r e decoded is calm
