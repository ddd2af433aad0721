-- A caller whose call waits stays with its registers.
use Rattle.std.proofs.Common.{◌≡◌, ◌≢◌, ℕ, Bool, true, false, cond, List, [], ◌∷◌, Option, Some, None, refl, sym, ap, subst, ◌∙◌}
use Rattle.std.specs.Prelude.{◌==◌, IsSome, Result, Ok, Err}
use Rattle.std.specs.List.{find, list_all}
use Rattle.std.specs.Option.{option_map, option_map_or}
use Rattle.kr_hostview.specs.pr_base.declared.errno.Errno.{Errno}
use Rattle.kr_steps.specs.rv_mem.Actions.{CarriedOut, carried_out}
use Rattle.kr_steps.specs.rv_mem.Memory.{Memory}
use Rattle.kr_execve.specs.kr_calls.Decoding.{decoding}
use Rattle.kr_execve.specs.kr_calls.Kinds.{Kind, PutsIntoPipe, Reaps, Seeks, TakesFromPipe, TakesInput, WritesErr, WritesFile, WritesOut}
use Rattle.kr_execve.specs.kr_calls.declared.request.Request.{Request}
use Rattle.kr_execve.specs.kr_calls.declared.request.Request.TheVariants as call
use Rattle.kr_execve.specs.kr_view.View.{Row}
use Rattle.kr_hostview.specs.kr_files.Descriptors.{Named}
use Rattle.kr_hostview.specs.kr_files.Files.{at_offset, with_opened}
use Rattle.kr_steps.specs.kr_model.Applied.{Mounts, all_applied, applied, images, with_files, with_image, with_living}
use Rattle.kr_steps.specs.kr_model.Change.{Change, ChangeDirectory, OfDescriptor, OfDirectory, OfFound, OpenFile, PutIntoPipe, Reap, ReplaceExecutable, Seek, TakeFromPipe, TakeInput, WriteErr, WriteFile, WriteOut}
use Rattle.kr_steps.specs.kr_model.ChangeKinds.{kind}
use Rattle.kr_steps.specs.kr_model.Known.{known}
use Rattle.kr_steps.specs.kr_model.Laws.{may_wait}
use Rattle.kr_steps.specs.kr_model.Reply.{Reply}
use Rattle.kr_steps.specs.kr_model.State.{Image, Process, State, at_pid, image_layout, is_pid, named, process, with_process}
use Rattle.kr_steps.specs.kr_model.Walks.{seen, targets_of}
use Rattle.kr_steps.specs.kr_model.declared.outcome.Outcome.{Outcome}
use Rattle.kr_steps.specs.kr_model.declared.outcome.Outcome.TheVariants.{Answer, Ended, NoMemory, Wait}
use Rattle.kr_calm.proofs.kr_seen.kr_model.KeepingLemmas.{both_true}
use Rattle.kr_calm.proofs.kr_seen.kr_model.LineLemmas.{answer_passes, by_answer, row_keeps, row_waits}
use Rattle.kr_calm.proofs.law_lawful.ProcessChangeLemmas.{found as found-changed}
use Rattle.kr_calm.specs.kr_seen.Carrying.{memory_of, with_memory}
use Rattle.kr_execve.specs.Execution.{Program, after_execution, execution, mount_of}
use Rattle.kr_steps.specs.Answering.{going}
use Rattle.kr_steps.specs.Computing.{computed}
use Rattle.kr_steps.specs.Settling.{settled}
use Rattle.kr_steps.specs.law_allowed.Told.{mounts_walked}
use Rattle.kr_steps.specs.kr_stops.Stopped.{image_in, no_image, nothing_handed}
use Rattle.kr_steps.specs.kr_stops.Watching.{Watching}
use Rattle.kr_turns.specs.CallSteps.{Carried, IsCarriedBy, behind_if}
use Rattle.kr_turns.specs.PlainCall.{Came, after_decoding, end_of, operated, plain_call, plain_call_of, replaced, requested, row_on}
use Rattle.kr_turns.specs.Turn.{Tally}
use Rattle.kr_turns.specs.declared.plain.CallEnd.{CallEnd}
use Rattle.kr_turns.specs.declared.plain.CallEnd.TheVariants as end
use Rattle.kr_turns.specs.declared.steps.After.TheVariants as after
use Rattle.kr_steps.specs.kr_stops.declared.handed.Handed.{Handed}

-- ---- a process that lives on with its registers

pub record OwnStays (pid : ℕ) (s t : State ℕ Image) : Type 0 where
  pub lives : IsSome (process pid s) → IsSome (process pid t)
  pub regs : (image_in pid t).regs ≡ (image_in pid s).regs

own-then : (pid : ℕ) (s t u : State ℕ Image) → OwnStays pid s t → OwnStays pid t u → OwnStays pid s u
own-then pid s t u first second = record { lives = λ some. second.lives (first.lives some); regs = second.regs ∙ first.regs }

own-same : (pid : ℕ) (s t : State ℕ Image) → process pid t ≡ process pid s → OwnStays pid s t
own-same pid s t same = record { lives = λ some. subst IsSome (sym same) some; regs = ap (λ (o : Option (Process ℕ Image)). (option_map_or (λ p. p.image) o no_image).regs) same }

-- one that is changed, but not in its registers
module _ (pid : ℕ) (f : Process ℕ Image → Process ℕ Image) (pids : (p : Process ℕ Image) → (f p).pid ≡ p.pid) (same : (p : Process ℕ Image) → (f p).image.regs ≡ p.image.regs) where
  own-changed : (s : State ℕ Image) → OwnStays pid s (with_living (with_process pid f) s)
  own-changed s =
      let found = found-changed pid f pids pid s.living in
      record {
        lives = λ some. subst IsSome (sym found) (mapped (process pid s) some);
        regs = ap (λ (o : Option (Process ℕ Image)). (option_map_or (λ p. p.image) o no_image).regs) found ∙ kept (process pid s);
      }
    where
      mapped : (o : Option (Process ℕ Image)) → IsSome o → IsSome (option_map (at_pid pid f) o)
      mapped None some = some
      mapped (Some p) some = refl

      one : (p : Process ℕ Image) (b : Bool) → (cond b (f p) p).image.regs ≡ p.image.regs
      one p true = same p
      one p false = refl

      kept : (o : Option (Process ℕ Image)) → (option_map_or (λ p. p.image) (option_map (at_pid pid f) o) no_image).regs ≡ (option_map_or (λ p. p.image) o no_image).regs
      kept None = refl
      kept (Some p) = one p (p.pid == pid)

-- ---- changes that touch no process

abbrev leaves_living : Kind → Bool
leaves_living WritesFile = true
leaves_living Seeks = true
leaves_living TakesFromPipe = true
leaves_living PutsIntoPipe = true
leaves_living TakesInput = true
leaves_living WritesOut = true
leaves_living WritesErr = true
leaves_living Reaps = true
leaves_living _ = false

module _ (mounts : Mounts ℕ) (pid : ℕ) where
  sought : (at : ℕ) (o : Option Named) (s : State ℕ Image) → (option_map_or (λ x. with_files (with_opened x.number (at_offset at)) s) o s).living ≡ s.living
  sought at None s = refl
  sought at (Some x) s = refl

  living-same : (c : Change) (s : State ℕ Image) → leaves_living (kind c) ≡ true → (applied images mounts pid c s).living ≡ s.living
  living-same (WriteFile inode at bytes) s leaves = refl
  living-same (Seek fd at) s leaves = sought at (named pid fd s) s
  living-same (TakeFromPipe pipe count) s leaves = refl
  living-same (PutIntoPipe pipe bytes) s leaves = refl
  living-same (TakeInput count) s leaves = refl
  living-same (WriteOut bytes) s leaves = refl
  living-same (WriteErr bytes) s leaves = refl
  living-same (Reap child) s leaves = refl
  living-same (OpenFile fd cloexec OfFound o) s leaves = absurd cc
  living-same (OpenFile fd cloexec OfDirectory o) s leaves = absurd cc
  living-same (OpenFile fd cloexec (OfDescriptor n) o) s leaves = absurd cc
  living-same (ChangeDirectory OfFound host) s leaves = absurd cc
  living-same (ChangeDirectory OfDirectory host) s leaves = absurd cc
  living-same (ChangeDirectory (OfDescriptor n) host) s leaves = absurd cc
  living-same (ReplaceExecutable OfFound host dir name) s leaves = absurd cc
  living-same (ReplaceExecutable OfDirectory host dir name) s leaves = absurd cc
  living-same (ReplaceExecutable (OfDescriptor n) host dir name) s leaves = absurd cc
  living-same _ s leaves = absurd cc

  all-living-same : (cs : List Change) (s : State ℕ Image) → list_all (λ c. leaves_living (kind c)) cs ≡ true → (all_applied images mounts pid cs s).living ≡ s.living
  all-living-same [] s leave = refl
  all-living-same (c ∷ cs) s leave =
      let parts = both_true (leaves_living (kind c)) (list_all (λ c. leaves_living (kind c)) cs) leave in
      all-living-same cs (applied images mounts pid c s) parts.1 ∙ living-same c s parts.0

-- those of calls that wait are such
waiting-line : (r : Request) → may_wait r ≡ true → answer_passes leaves_living r ≡ true
waiting-line (call.Read fd buf n) may = refl
waiting-line (call.Readv fd list count) may = refl
waiting-line (call.Write fd buf n) may = refl
waiting-line (call.Writev fd list count) may = refl
waiting-line (call.Wait4 child status options usage) may = refl
waiting-line _ may = absurd cc

-- ---- a call that waits

-- its outcome
waits-by : (r : Request) (o : Outcome) → end_of r o ≡ end.Waits → o ≢ NoMemory → o ≡ Wait
waits-by r (Answer value) is want = absurd cc
waits-by r Wait is want = refl
waits-by r Ended is want = absurd cc
waits-by r NoMemory is want = absurd (want refl)

module _ (table : List Row) (pid : ℕ) where
  operated-waits : (r : Request) (s : State ℕ Image) → (operated table pid r s).end ≡ end.Waits → OwnStays pid s (operated table pid r s).state
  operated-waits r s is =
      let done : CarriedOut Reply = row_on table pid r s in
      let mounts = mounts_walked (targets_of table pid s r) in
      let keeps = row_keeps pid r (seen table pid s r) (known image_layout pid s) (memory_of pid s) in
      let waits : done.reply.outcome ≡ Wait = waits-by r done.reply.outcome is keeps.no_want in
      let may = row_waits pid r (seen table pid s r) (known image_layout pid s) (memory_of pid s) waits in
      let other : done.reply.outcome ≢ Ended = λ ends. (let no : Wait ≡ Ended = sym waits ∙ ends in cc) in
      let leave = by_answer leaves_living (λ c. leaves_living (kind c)) (λ c e. e) pid r (seen table pid s r) (known image_layout pid s) (memory_of pid s) (waiting-line r may) other in
      let noted : State ℕ Image = with_living (with_process pid (with_image (with_memory done.memory))) s in
      let changed : State ℕ Image = all_applied images mounts pid done.reply.changes noted in
      let first = own-changed pid (with_image (with_memory done.memory)) (λ p. refl) (λ p. refl) s in
      let second = own-same pid noted changed (ap (find (is_pid pid)) (all-living-same mounts pid done.reply.changes noted leave)) in
      let third = own-changed pid (going (λ regs. regs) true) (λ p. refl) (λ p. refl) changed in
      subst (λ (o : Outcome). OwnStays pid s (settled pid o changed)) (sym waits)
      (own-then pid s changed (settled pid Wait changed) (own-then pid s noted changed first second) third)

  replaced-waits : (r : Result Program Errno) (s t : State ℕ Image) → (replaced pid r t).end ≡ end.Waits → OwnStays pid s (replaced pid r t).state
  replaced-waits (Ok program) s t is = absurd cc
  replaced-waits (Err e) s t is = absurd cc

  requested-waits : (r : Request) (s : State ℕ Image) → (requested table pid r s).end ≡ end.Waits → OwnStays pid s (requested table pid r s).state
  requested-waits (call.Execve path args env) s is =
      let done = carried_out (execution table pid s path args env) (memory_of pid s) in
      replaced-waits done.reply s (after_execution (record { found = mount_of done.reply; directory = None }) pid done s) is
  requested-waits r s is = operated-waits r s is

  decoded-waits : (reply : Result Request Errno) (s : State ℕ Image) → (after_decoding table pid reply s).end ≡ end.Waits → OwnStays pid s (after_decoding table pid reply s).state
  decoded-waits (Ok r) s is = requested-waits r s is
  decoded-waits (Err e) s is = absurd cc

  -- what decoding reads is noted in its memory
  noted-stays : (p : Process ℕ Image) (memory : Memory) (s : State ℕ Image) → process pid s ≡ Some p → OwnStays pid s (computed pid p.image.regs memory s)
  noted-stays p memory s lives =
      let f : Process ℕ Image → Process ℕ Image = with_image (λ (image : Image). record { regs = p.image.regs; memory = memory }) in
      let found = found-changed pid f (λ q. refl) pid s.living ∙ ap (option_map (at_pid pid f)) lives in
      record {
        lives = λ some. subst IsSome (sym found) refl;
        regs =
            ap (λ (o : Option (Process ℕ Image)). (option_map_or (λ q. q.image) o no_image).regs) found ∙ one p memory (p.pid == pid)
            ∙ sym (ap (λ (o : Option (Process ℕ Image)). (option_map_or (λ q. q.image) o no_image).regs) lives);
      }
    where
      one : (p : Process ℕ Image) (memory : Memory) (b : Bool) → (cond b (with_image (λ (image : Image). record { regs = p.image.regs; memory = memory }) p) p).image.regs ≡ p.image.regs
      one p memory true = refl
      one p memory false = refl

  pub waits-stays : (s : State ℕ Image) → (plain_call table pid s).end ≡ end.Waits → OwnStays pid s (plain_call table pid s).state
  waits-stays s is = by (process pid s) refl is
    where
      by : (o : Option (Process ℕ Image)) → process pid s ≡ o → (option_map_or (plain_call_of table pid s) o (record { state = s; end = end.Waits; child = None; handed = nothing_handed })).end ≡ end.Waits
          → OwnStays pid s (option_map_or (plain_call_of table pid s) o (record { state = s; end = end.Waits; child = None; handed = nothing_handed })).state
      by None lives is = own-same pid s s refl
      by (Some p) lives is =
          let done = carried_out (decoding p.image.regs) p.image.memory in
          own-then pid s (computed pid p.image.regs done.memory s) (after_decoding table pid done.reply (computed pid p.image.regs done.memory s)).state
          (noted-stays p done.memory s lives) (decoded-waits done.reply (computed pid p.image.regs done.memory s) is)

-- ---- by where the caller is left

module _ {S : Type 0} (w : Watching S) (pid : ℕ) (came : Came) (x : S) (tally : Tally) where
  not-waiting : (handed : Handed) (o : Option (Process ℕ Image)) → behind_if handed o ≡ after.Waiting → ⊥
  not-waiting handed None is = cc
  not-waiting handed (Some p) is = cc

  not-gone : (handed : Handed) (o : Option (Process ℕ Image)) → (behind_if handed o ≡ after.Gone → ⊥) → IsSome o
  not-gone handed None behind = absurd (behind refl)
  not-gone handed (Some p) behind = refl

  -- one that waits does so because its call does
  pub waits-behind : (e : CallEnd) (c : Carried S) → IsCarriedBy w pid e came x tally c → c.after ≡ after.Waiting → e ≡ end.Waits
  waits-behind end.Answered c is waits = absurd (not-waiting came.handed (process pid came.state) (sym (ap (λ (d : Carried S). d.after) is) ∙ waits))
  waits-behind end.Replaced c is waits = absurd (not-waiting came.handed (process pid came.state) (sym (ap (λ (d : Carried S). d.after) is) ∙ waits))
  waits-behind end.Waits c is waits = refl
  waits-behind (end.Ended told) c is waits = absurd (let no : after.Gone ≡ after.Waiting = sym is.3 ∙ waits in cc)

  -- and one that isn't gone lives, if one that waits does
  pub lives-behind : (e : CallEnd) (c : Carried S) → IsCarriedBy w pid e came x tally c → (e ≡ end.Waits → IsSome (process pid came.state)) → (c.after ≡ after.Gone → ⊥) → IsSome (process pid came.state)
  lives-behind end.Answered c is waiting behind = not-gone came.handed (process pid came.state) (λ gone. behind (ap (λ (d : Carried S). d.after) is ∙ gone))
  lives-behind end.Replaced c is waiting behind = not-gone came.handed (process pid came.state) (λ gone. behind (ap (λ (d : Carried S). d.after) is ∙ gone))
  lives-behind end.Waits c is waiting behind = waiting refl
  lives-behind (end.Ended told) c is waiting behind = absurd (behind is.3)

  -- where a call waits the watcher isn't told anything
  pub waits-untold : (e : CallEnd) (c : Carried S) → IsCarriedBy w pid e came x tally c → e ≡ end.Waits → c.machine.watcher ≡ x
  waits-untold end.Answered c is waits = absurd cc
  waits-untold end.Replaced c is waits = absurd cc
  waits-untold end.Waits c is waits = ap (λ (d : Carried S). d.machine.watcher) is
  waits-untold (end.Ended told) c is waits = absurd cc
