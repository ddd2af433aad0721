-- What a call altered, by the states that it goes through; and steps that alter nothing.
use Rattle.std.proofs.Common.{◌≡◌, ℕ, true, List, Option, None, Result, Ok, Err, refl, sym, ap, subst, ◌∙◌, inl, inr}
use Rattle.kr_hostview.specs.pr_base.declared.errno.Errno.{Errno}
use Rattle.kr_steps.specs.rv_mem.Actions.{carried_out}
use Rattle.kr_execve.specs.kr_calls.declared.request.Request.{Request}
use Rattle.kr_execve.specs.kr_view.View.{Row}
use Rattle.kr_execve.specs.kr_tree.Lawful.{IsKept}
use Rattle.kr_execve.specs.kr_tree.Tree.{Tree}
use Rattle.kr_steps.specs.kr_model.Applied.{Mounts, applied, images}
use Rattle.kr_steps.specs.kr_model.Change.{End, OfFound}
use Rattle.kr_steps.specs.kr_model.Judged.{leaves_bytes, leaves_shape}
use Rattle.kr_steps.specs.kr_model.State as model
use Rattle.kr_steps.specs.kr_model.State.{Image}
use Rattle.kr_steps.specs.kr_model.declared.outcome.Outcome.{Outcome}
use Rattle.kr_steps.specs.kr_model.declared.outcome.Outcome.TheVariants.{Answer, Wait, Ended, NoMemory}
use Rattle.kr_steps.specs.law_steady.Told.{LeavesBoth}
use Rattle.kr_steps.proofs.law_steady.CallLemmas.{programs_leave_both}
use Rattle.kr_steps.proofs.law_steady.ToldLemmas.{ends_leave_both, quiet_changes_leave_both, same_trees_have_both}
use Rattle.kr_hostview.specs.kr_ops.Making.{Makes}
use Rattle.kr_hostview.specs.kr_ops.Meaning.{meaning}
use Rattle.kr_hostview.specs.kr_ops.declared.state.State.{State}
use Rattle.kr_calm.specs.kr_seen.Carrying.{memory_of, with_memory_of}
use Rattle.kr_calm.specs.kr_seen.Numbered.{state_numbered}
use Rattle.kr_execve.specs.Execution.{Program, changes_of, execution, mount_of}
use Rattle.kr_steps.specs.Calls.{Altered, IsAltered, nothing_altered}
use Rattle.kr_steps.specs.Settling.{settled}
use Rattle.kr_steps.specs.kr_stops.Stopped.{IsEdited, Stopped}
use Rattle.kr_turns.specs.Coming.{came_to}
use Rattle.kr_turns.specs.Noting.{IsNotedOrSame}
use Rattle.kr_turns.specs.PlainCall.{Came, executed, replaced}
use Rattle.kr_turns.specs.declared.plain.Plain.{Plain}

-- ---- trees

-- a tree that is left as it is
pub same-both : (t u : Tree) → u ≡ t → LeavesBoth t u
same-both t u same = subst (LeavesBoth t) (sym same) (same_trees_have_both t)

-- where both are left nothing is told to be altered
left : (t u : Tree) → LeavesBoth t u → IsAltered nothing_altered t u
left t u both = record { shape = (λ none. both.0, λ has. refl); bytes = (λ none. both.1, λ has. refl) }

pub unaltered : (a : Altered) (t u : Tree) → a ≡ nothing_altered → u ≡ t → IsAltered a t u
unaltered a t u nothing same = subst (λ (b : Altered). IsAltered b t u) (sym nothing) (left t u (same-both t u same))

-- what leaves the tree before it and behind it is no part of what is told
pub altered-around : (a : Altered) (t s v u : Tree) → s ≡ t → u ≡ v → IsAltered a s v → IsAltered a t u
altered-around a t s v u before behind is = subst (λ (x : Tree). IsAltered a x u) before (subst (λ (x : Tree). IsAltered a s x) (sym behind) is)

-- ---- steps that leave the tree

pub noted-tree : {T : Type 0} {M : ℕ} (pid : ℕ) (r : Request) (old mid : State T M) → IsNotedOrSame pid r old mid → mid.tree ≡ old.tree
noted-tree {T = T} pid r old mid (inl is) = ap (λ (s : model.State T Image). s.tree) is.leaves.means
noted-tree {T = T} {M = M} pid r old mid (inr same) = ap (λ (s : State T M). s.tree) same

settled-tree : {T : Type 0} (pid : ℕ) (outcome : Outcome) (s : model.State T Image) → (settled pid outcome s).tree ≡ s.tree
settled-tree pid (Answer value) s = refl
settled-tree pid Wait s = refl
settled-tree pid Ended s = refl
settled-tree pid NoMemory s = refl

pub settles-tree : {T : Type 0} {M : ℕ} (pid : ℕ) (outcome : Outcome) (after new : State T M) → meaning new ≡ settled pid outcome (meaning after) → new.tree ≡ after.tree
settles-tree {T = T} pid outcome after new settles = ap (λ (s : model.State T Image). s.tree) settles ∙ settled-tree pid outcome (meaning after)

pub meant-tree : {T : Type 0} {M : ℕ} (new : State T M) (s : model.State T Image) → meaning new ≡ s → new.tree ≡ s.tree
meant-tree {T = T} new s is = ap (λ (s : model.State T Image). s.tree) is

-- what a watcher does at a stop
pub edited-tree : (t u : Stopped) → IsEdited t u → u.state.tree ≡ t.state.tree
edited-tree t u edits = ap (λ (v : Stopped). v.state.tree) edits.becomes

-- ---- a new program

module _ (table : List Row) (pid : ℕ) where
  program-leaves : (r : Result Program Errno) → (leaves_shape (changes_of r) ≡ true) × (leaves_bytes (changes_of r) ≡ true)
  program-leaves (Ok p) = programs_leave_both p.image p.brk OfFound p.exe.host p.dir p.name
  program-leaves (Err e) = (refl, refl)

  replaced-tree : (r : Result Program Errno) (s : model.State ℕ Image) → (replaced pid r s).state.tree ≡ s.tree
  replaced-tree (Ok program) s = refl
  replaced-tree (Err e) s = refl

  executed-both : (path : List ℕ) (args env : ℕ) (s : model.State ℕ Image) → IsKept s.tree → LeavesBoth s.tree (executed table pid path args env s).state.tree
  executed-both path args env s kept =
      let done = carried_out (execution table pid s path args env) (memory_of pid s) in
      let mounts : Mounts ℕ = record { found = mount_of done.reply; directory = None } in
      let none = program-leaves done.reply in
      subst (LeavesBoth s.tree) (sym (replaced-tree done.reply _))
      (quiet_changes_leave_both ℕ mounts pid (with_memory_of pid done.memory s) (changes_of done.reply) kept none.0 none.1)

  pub executed-altered : {T : Type 0} {M : ℕ} (number : T → ℕ) (path : List ℕ) (args env : ℕ) (old new : State T M) (plain : Plain) (a : Altered) → IsKept (meaning old).tree
      → came_to number new plain ≡ executed table pid path args env (state_numbered number (meaning old)) → a ≡ nothing_altered → IsAltered a old.tree new.tree
  executed-altered number path args env old new plain a kept came nothing =
      subst (λ (b : Altered). IsAltered b old.tree new.tree) (sym nothing)
      (left old.tree new.tree (subst (LeavesBoth old.tree) (sym (ap (λ (d : Came). d.state.tree) came)) (executed-both path args env (state_numbered number (meaning old)) kept)))

-- ---- the end of a process

pub killed-both : {T : Type 0} {M : ℕ} (pid status : ℕ) (old mid new : State T M) → IsKept (meaning mid).tree → mid.tree ≡ old.tree → Makes pid (End status) mid new → LeavesBoth old.tree new.tree
killed-both {T = T} pid status old mid new kept same makes =
    let nowhere : Mounts T = record { found = None; directory = None } in
    subst (λ (t : Tree). LeavesBoth t new.tree) same
    (subst (LeavesBoth mid.tree) (sym (meant-tree new (applied images nowhere pid (End status) (meaning mid)) (makes nowhere))) (ends_leave_both T nowhere pid status (meaning mid) kept))
