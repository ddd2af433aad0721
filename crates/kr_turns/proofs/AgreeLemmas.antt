-- What a watcher keeps agrees with the tree still: where a step keeps the shape, and where the call is one that the watcher is free for.
use Rattle.std.proofs.Common.{◌≡◌, ℕ, Bool, true, false, List, [], ◌∷◌, Option, Some, None, Result, Ok, Err, refl, sym, subst, ◌∙◌}
use Rattle.std.specs.Option.{option_map_or}
use Rattle.kr_hostview.specs.pr_base.declared.errno.Errno.{Errno}
use Rattle.kr_steps.specs.rv_mem.Actions.{carried_out}
use Rattle.kr_execve.specs.kr_calls.Decoding.{decoding}
use Rattle.kr_execve.specs.kr_calls.declared.request.Request.{Request}
use Rattle.kr_execve.specs.kr_calls.declared.request.Request.TheVariants as call
use Rattle.kr_execve.specs.kr_view.View.{Row}
use Rattle.kr_hostview.specs.kr_inode.declared.user.User.{User}
use Rattle.kr_execve.specs.kr_tree.Lawful.{IsKept, IsSound}
use Rattle.kr_execve.specs.kr_tree.Tree.{Tree}
use Rattle.kr_steps.specs.kr_model.Applied.{Mounts, all_applied, applied, images}
use Rattle.kr_steps.specs.kr_model.Change.{Change, End, OfFound}
use Rattle.kr_steps.specs.kr_model.Judged.{HasShape, leaves_shape}
use Rattle.kr_steps.specs.kr_model.Known.{known}
use Rattle.kr_steps.specs.kr_model.State as model
use Rattle.kr_steps.specs.kr_model.State.{Image, Process, image_layout, process}
use Rattle.kr_steps.specs.kr_model.Walks.{targets_of}
use Rattle.kr_steps.specs.kr_model.declared.outcome.Outcome.{Outcome}
use Rattle.kr_steps.specs.kr_model.declared.outcome.Outcome.TheVariants.{Answer, Wait, Ended, NoMemory}
use Rattle.kr_hostview.specs.kr_ops.Making.{Makes}
use Rattle.kr_hostview.specs.kr_ops.Meaning.{meaning}
use Rattle.kr_hostview.specs.kr_ops.declared.state.State.{State}
use Rattle.kr_calm.specs.kr_seen.Carrying.{memory_of, with_memory_of}
use Rattle.kr_calm.specs.kr_seen.Numbered.{state_numbered}
use Rattle.kr_execve.specs.Execution.{Program, after_execution, changes_of, execution, mount_of}
use Rattle.kr_steps.specs.Calls.{IsNoExec}
use Rattle.kr_steps.specs.Computing.{computed}
use Rattle.kr_steps.specs.Settling.{settled}
use Rattle.kr_steps.specs.law_allowed.Told.{mounts_walked}
use Rattle.kr_steps.specs.law_steady.Calls.{may_alter_shape}
use Rattle.kr_steps.proofs.law_steady.CallLemmas.{calls_leave_shape, programs_leave_both}
use Rattle.kr_steps.proofs.law_steady.ExactLemmas.{same_shape}
use Rattle.kr_steps.proofs.law_steady.LeavingLemmas.{shape_stays_along}
use Rattle.kr_steps.specs.kr_stops.Remembering.{FreeAgrees, FreesCaller, LastsWithShape, can_alter_shape}
use Rattle.kr_steps.specs.kr_stops.Stopped.{image_in, no_image, nothing_handed}
use Rattle.kr_turns.specs.Agreeing.{AgreesIn}
use Rattle.kr_turns.specs.Coming.{came_to}
use Rattle.kr_turns.specs.Held.{stopped_in}
use Rattle.kr_turns.specs.Laws.{PlainCallsLeaveShape}
use Rattle.kr_turns.specs.PlainCall.{Came, after_decoding, executed, operated, plain_call, plain_call_of, replaced, requested, row_on}
use Rattle.kr_turns.specs.declared.plain.CallEnd.TheVariants as end
use Rattle.kr_turns.specs.declared.plain.Plain.{Plain}
use Rattle.kr_turns.proofs.AlteringLemmas.{altering_decoded}

-- ---- what keeps the shape of the tree, and the user

abbrev Keeps : {M X : Type 0} → model.State M X → model.State M X → Type 0
Keeps s t = HasShape s.tree t.tree × (t.user ≡ s.user)

changed-keeps : {M : Type 0} (mounts : Mounts M) (pid : ℕ) (cs : List Change) (s : model.State M Image) → IsKept s.tree → leaves_shape cs ≡ true → Keeps s (all_applied images mounts pid cs s)
changed-keeps {M} mounts pid cs s kept none = let one = shape_stays_along M mounts pid s cs kept none in (one.shape, one.user)

module _ (table : List Row) (pid : ℕ) where
  settled-keeps : (outcome : Outcome) (s t : model.State ℕ Image) → Keeps s t → Keeps s (settled pid outcome t)
  settled-keeps (Answer value) s t keeps = keeps
  settled-keeps Wait s t keeps = keeps
  settled-keeps Ended s t keeps = keeps
  settled-keeps NoMemory s t keeps = keeps

  operated-keeps : (r : Request) (s : model.State ℕ Image) → IsNoExec r → IsKept s.tree → may_alter_shape r ≡ false → Keeps s (operated table pid r s).state
  operated-keeps r s kind kept plain =
      let done = row_on table pid r s in
      let mounts = mounts_walked (targets_of table pid s r) in
      let none : leaves_shape done.reply.changes ≡ true = calls_leave_shape table pid s r (known image_layout pid s) (memory_of pid s) kind plain in
      let before = with_memory_of pid done.memory s in
      settled-keeps done.reply.outcome s (all_applied images mounts pid done.reply.changes before) (changed-keeps mounts pid done.reply.changes before kept none)

  -- a program's changes aren't those of a row
  program-leaves : (r : Result Program Errno) → leaves_shape (changes_of r) ≡ true
  program-leaves (Ok p) = (programs_leave_both p.image p.brk OfFound p.exe.host p.dir p.name).0
  program-leaves (Err e) = refl

  replaced-keeps : (r : Result Program Errno) (s t : model.State ℕ Image) → Keeps s t → Keeps s (replaced pid r t).state
  replaced-keeps (Ok program) s t keeps = keeps
  replaced-keeps (Err e) s t keeps = keeps

  executed-keeps : (path : List ℕ) (args env : ℕ) (s : model.State ℕ Image) → IsKept s.tree → Keeps s (executed table pid path args env s).state
  executed-keeps path args env s kept =
      let done = carried_out (execution table pid s path args env) (memory_of pid s) in
      let mounts : Mounts ℕ = record { found = mount_of done.reply; directory = None } in
      replaced-keeps done.reply s (after_execution mounts pid done s) (changed-keeps mounts pid (changes_of done.reply) (with_memory_of pid done.memory s) kept (program-leaves done.reply))

  requested-keeps : (r : Request) (s : model.State ℕ Image) → IsKept s.tree → may_alter_shape r ≡ false → Keeps s (requested table pid r s).state
  requested-keeps (call.Execve path args env) s kept plain = executed-keeps path args env s kept
  requested-keeps r s kept plain = operated-keeps r s tt kept plain

  module _ (s : model.State ℕ Image) (kept : IsKept s.tree) where
    decoded-keeps : (p : Process ℕ Image) → can_alter_shape p.image.regs ≡ false → Keeps s (plain_call_of table pid s p).state
    decoded-keeps p plain = by (carried_out (decoding p.image.regs) p.image.memory).reply refl
      where
        by : (reply : Result Request Errno) → (carried_out (decoding p.image.regs) p.image.memory).reply ≡ reply
            → Keeps s (after_decoding table pid reply (computed pid p.image.regs (carried_out (decoding p.image.regs) p.image.memory).memory s)).state
        by (Ok r) is = requested-keeps r (computed pid p.image.regs (carried_out (decoding p.image.regs) p.image.memory).memory s) kept (altering_decoded p.image.regs p.image.memory r is ∙ plain)
        by (Err e) is = (same_shape s.tree, refl)

    plainly-keeps : can_alter_shape (image_in pid s).regs ≡ false → Keeps s (plain_call table pid s).state
    plainly-keeps plain = by (process pid s) plain
      where
        by : (o : Option (Process ℕ Image)) → can_alter_shape (option_map_or (λ (q : Process ℕ Image). q.image) o no_image).regs ≡ false
            → Keeps s (option_map_or (plain_call_of table pid s) o (record { state = s; end = end.Waits; child = None; handed = nothing_handed })).state
        by None plain = (same_shape s.tree, refl)
        by (Some p) plain = decoded-keeps p plain

pub plain_calls_leave_shape : PlainCallsLeaveShape
plain_calls_leave_shape table pid s kept plain = plainly-keeps table pid s kept plain

-- ---- agreement

module _ {S : Type 0} (agrees : S → Tree → User → Type 0) where
  -- by what a state means now
  pub agrees-now : {T : Type 0} {M : ℕ} (x : S) (new : State T M) (t : model.State T Image) → meaning new ≡ t → agrees x t.tree t.user → AgreesIn agrees x new
  agrees-now {T = T} x new t is before = subst (λ (t : model.State T Image). agrees x t.tree t.user) (sym is) before

  module _ (lasts : LastsWithShape agrees) where
    still-agrees : {M X : Type 0} (x : S) (s t : model.State M X) → IsSound s.tree → Keeps s t → agrees x s.tree s.user → agrees x t.tree t.user
    still-agrees x s t sound keeps before = subst (λ (user : User). agrees x t.tree user) (sym keeps.1) (lasts x s.tree t.tree s.user sound keeps.0 before)

    -- the end of a process takes no name away
    pub killed-agrees : {T : Type 0} {M : ℕ} (pid signal : ℕ) (mid new : State T M) (x : S) → IsKept (meaning mid).tree → Makes pid (End signal) mid new → AgreesIn agrees x mid → AgreesIn agrees x new
    killed-agrees {T = T} pid signal mid new x kept makes before =
        let nowhere : Mounts T = record { found = None; directory = None } in
        let ended = applied images nowhere pid (End signal) (meaning mid) in
        agrees-now x new ended (makes nowhere) (still-agrees x (meaning mid) ended kept.sound (changed-keeps nowhere pid (End signal ∷ []) (meaning mid) kept refl) before)

    -- a call leaves the shape, or else its caller's registers hold one for which the watcher was freed
    module _ (is_free : S → ℕ → Type 0) (free : FreeAgrees agrees is_free) where
      pub called-agrees : {T : Type 0} {M : ℕ} (number : T → ℕ) (table : List Row) (pid : ℕ) (entered came : State T M) (x : S) (plain : Plain) → IsKept (meaning entered).tree
          → FreesCaller is_free (stopped_in number entered pid nothing_handed) x → came_to number came plain ≡ plain_call table pid (state_numbered number (meaning entered)) → AgreesIn agrees x entered → AgreesIn agrees x came
      called-agrees number table pid entered came x plain kept frees is before =
          subst (λ (c : Came). agrees x c.state.tree c.state.user) (sym is) (by (can_alter_shape (image_in pid (state_numbered number (meaning entered))).regs) refl)
        where
          by : (b : Bool) → can_alter_shape (image_in pid (state_numbered number (meaning entered))).regs ≡ b
              → agrees x (plain_call table pid (state_numbered number (meaning entered))).state.tree (plain_call table pid (state_numbered number (meaning entered))).state.user
          by true alters = free x pid (frees.frees alters) _ _
          by false alters =
              let s = state_numbered number (meaning entered) in
              still-agrees x s (plain_call table pid s).state kept.sound (plainly-keeps table pid s kept alters) before
