-- A row that is allowed: to a living caller in a lawful state it replies changes that can all be made, and so it leaves a
-- lawful state.
use Rattle.std.specs.Prelude.{ℕ, ◌≡◌, ◌<◌, List, Some}
use Rattle.law_lawful.specs.rv_mem.Actions.{CarriedOut, carried_out}
use Rattle.law_lawful.specs.rv_mem.Memory.{Memory}
pub use Rattle.law_lawful.specs.rv_mem.Pages.{HoldsBytes}
use Rattle.law_lawful.specs.kr_tree.Tree.{Tree}
use Rattle.law_lawful.specs.kr_view.View.{Row}
use Rattle.law_lawful.specs.kr_model.Applied.{Mounts, all_applied, images, with_image, with_living}
use Rattle.law_lawful.specs.kr_model.Known.{Known, known}
use Rattle.law_lawful.specs.kr_model.Lawful.{IsLawful}
use Rattle.law_lawful.specs.kr_model.Reply.{Reply, Replying}
use Rattle.law_lawful.specs.kr_model.State.{Image, image_layout, Process, State, process, with_process}
use Rattle.law_lawful.specs.Laws.{CanAllBeMade}
use Rattle.law_allowed.specs.Lasting.{AreModest}

-- the state with the caller's memory as a row left it
abbrev pub with_memory : {M : Type 0} → ℕ → Memory → State M Image → State M Image
with_memory pid memory s = with_living (with_process pid (with_image (λ image. record { regs = image.regs; memory = memory }))) s

-- what is left of a state by a reply and the memory behind it
pub record LeavesLawful {M : Type 0} (number : M → ℕ) (table : List Row) (mounts : Mounts M) (pid : ℕ) (s : State M Image) (done : CarriedOut Reply) : Type 0 where
  -- the reads and writes alone leave a lawful state, in which the changes can all be made
  pub before : IsLawful number table (with_memory pid done.memory s)
  pub made : CanAllBeMade number table mounts pid (with_memory pid done.memory s) done.reply.changes
  -- they make what belongs to the user, and draw no number twice
  pub modest : AreModest s.user done.reply.changes
  pub lawful : IsLawful number table (all_applied images mounts pid done.reply.changes (with_memory pid done.memory s))

-- a row of a caller over a view's mounts, by what it rests on of the tree and of the next process's number beside that
abbrev pub IsAllowedWhere : {M : Type 0} → (M → ℕ) → List Row → Mounts M → ℕ → (Tree → ℕ → Type 0) → (Known → Replying) → Type 0
IsAllowedWhere {M} number table mounts pid Rests row =
    (s : State M Image) (p : Process M Image) → IsLawful number table s → process pid s ≡ Some p → HoldsBytes p.image.memory.pages → Rests s.tree s.next_pid
    → LeavesLawful number table mounts pid s (carried_out (row (known image_layout pid s)) p.image.memory)

-- one that rests on nothing else
abbrev pub IsAllowed : {M : Type 0} → (M → ℕ) → List Row → Mounts M → ℕ → (Known → Replying) → Type 0
IsAllowed number table mounts pid row = IsAllowedWhere number table mounts pid (λ t next. Unit {0}) row
