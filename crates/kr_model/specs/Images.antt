-- The registers and memories of processes on two machines, and how changes leave them.
use Rattle.std.specs.Prelude.{◌≡◌, ℕ, Bool, true, List, [], ◌∷◌, map as map_list}
use Rattle.kr_calls.specs.rv_mem.Actions.{AreEqualUnmarked}
use Rattle.kr_calls.specs.rv_mem.Pages.{IsWhole}
use Rattle.kr_calls.specs.rv_mem.declared.regs.Regs.{Regs}
use Rattle.kr_model.specs.Applied.{Mounts, applied, images, child_regs}
use Rattle.kr_model.specs.Change.{Change, ReplaceImage}
use Rattle.kr_model.specs.State.{Image, Process, State}

-- a process by its number, its parent's and what it computes on
pub record Computed : Type 0 where
  pub pid : ℕ
  pub parent : ℕ
  pub image : Image

abbrev pub computed : {M : Type 0} → Process M Image → Computed
computed p = record { pid = p.pid; parent = p.parent; image = p.image }

abbrev pub computed_all : {M : Type 0} → State M Image → List Computed
computed_all s = map_list computed s.living

-- two processes of one number, whose registers are alike by a relation, and whose memories are equal but for marked bytes
pub record IsAlike (R : Regs → Regs → Type 0) (p q : Computed) : Type 0 where
  pub pids : p.pid ≡ q.pid
  pub parents : p.parent ≡ q.parent
  pub regs : R p.image.regs q.image.regs
  pub memory : AreEqualUnmarked p.image.memory.pages q.image.memory.pages

abbrev pub AreAlike : (Regs → Regs → Type 0) → List Computed → List Computed → Type 0
AreAlike R [] [] = Unit {0}
AreAlike R (p ∷ ps) (q ∷ qs) = IsAlike R p q × AreAlike R ps qs
AreAlike R [] (q ∷ qs) = ⊥
AreAlike R (p ∷ ps) [] = ⊥

-- a relation of registers that a child inherits, and that registers have to themselves
pub record IsInherited (R : Regs → Regs → Type 0) : Type 0 where
  pub born : (sp : ℕ) (x y : Regs) → R x y → R (child_regs sp x) (child_regs sp y)
  pub same : (x : Regs) → R x x

-- a new program's pages are whole
abbrev pub LoadsWhole : Change → Type 0
LoadsWhole (ReplaceImage image brk) = IsWhole image.memory.pages
LoadsWhole _ = Unit {0}

abbrev pub Passes : (Regs → Regs → Bool) → Regs → Regs → Type 0
Passes related x y = related x y ≡ true

-- one change leaves the processes of two machines alike, whatever else these have in common
abbrev pub ProcessesStayAlike : Type 0 → Type 0 → Type 0
ProcessesStayAlike M N =
    (related : Regs → Regs → Bool) → IsInherited (Passes related) → (mounts : Mounts M) (others : Mounts N) (pid : ℕ) (c : Change) (s : State M Image) (t : State N Image)
    → LoadsWhole c → AreAlike (Passes related) (computed_all s) (computed_all t)
    → AreAlike (Passes related) (computed_all (applied images mounts pid c s)) (computed_all (applied images others pid c t))
