-- What is left of a state where a plan was loaded in place of what a process computes on, and when that can be done.
use Rattle.std.proofs.Common.{◌≡◌, ℕ, ◌+◌, ◌-◌, ◌*◌, ◌≤◌, false, ◌||◌, List, [], ◌∷◌, length, get_or, Option, refl, sym, ap, subst, ◌∙◌, arith}
use Rattle.std.specs.Prelude.{All, IfSome, nat_lt}
use Rattle.std.specs.Vec.{with_item}
use Rattle.std.proofs.lemmas.Bool.Decides.{nat_tests}
use Rattle.std.proofs.lemmas.List.Elements.{All-head, All-tail}
use Rattle.elf_load.specs.rv_mem.Memory.{Memory, page_count}
use Rattle.elf_load.specs.rv_mem.Pages.{Pages, IsPlaced, IsWhole}
use Rattle.elf_load.specs.rv_mem.declared.regs.Regs.{Regs}
use Rattle.elf_load.specs.elf_read.Plans.{IsSound as IsSoundSegment, planned}
use Rattle.elf_load.specs.elf_read.declared.plan.Segment.{Segment}
use Rattle.elf_load.specs.Image.{break_from, end_page, image_exceeds, program_break}
use Rattle.elf_load.proofs.ImageLemmas.{sound_plan}
use Rattle.kr_exec.specs.kr_tree.Tree.{Tree}
use Rattle.kr_perform.specs.kr_model.Applied.{with_living, with_program}
use Rattle.kr_perform.specs.kr_model.Conditions.{CanLoad}
use Rattle.kr_perform.specs.kr_model.State as model
use Rattle.kr_perform.specs.kr_ops.declared.state.Process.{Process}
use Rattle.kr_perform.specs.kr_ops.declared.state.State.{State}
use Rattle.kr_perform.specs.kr_ops.Living.{HasPid}
use Rattle.kr_perform.specs.kr_ops.Making.{Makes}
use Rattle.kr_perform.specs.kr_ops.Meaning.{meaning}
use Rattle.kr_perform.specs.kr_ops.Sound.{IsServed, IsSound}
use Rattle.kr_perform.proofs.kr_ops.ChangeLemmas.{one-changed}
use Rattle.kr_perform.proofs.kr_ops.OpeningLemmas.{found}
use Rattle.kr_perform.proofs.kr_ops.PageLemmas.{counted-in, room-changed}
use Rattle.kr_perform.proofs.kr_ops.ServeLemmas.{kept-names}
use Rattle.kr_exec.specs.Interpreters.{bytes_at}
use Rattle.kr_exec.specs.declared.plan.ExecPlan.{ExecPlan}
use Rattle.kr_execve.specs.Execution.{exceeds, ids_of, image_of}
use Rattle.kr_execve.specs.Executing.{CanBeLoaded, IsLoadable, image_change}

-- ---- a plan

breaks-within : (size end : ℕ) (segments : List Segment) → All (IsSoundSegment size) segments → end ≤ 0x3F_FFFF_F000 → break_from end segments ≤ 0x3F_FFFF_F000
breaks-within size end [] sound low = low
breaks-within size end (s ∷ segments) sound low =
    breaks-within size (end_page s * 4096) segments (All-tail (IsSoundSegment size) s segments sound) (omega (arith, (All-head (IsSoundSegment size) s segments sound).below))

-- the break begins below the last page
pub break-within : {T : Type 0} (t : Tree) (plan : ExecPlan T) → IsLoadable t plan → program_break plan.plan ≤ 0x3F_FFFF_F000
break-within t plan loadable =
    breaks-within (length (bytes_at t plan.place.host)) 0 (planned plan.plan) (sound_plan (bytes_at t plan.place.host) plan.plan loadable.accepted loadable.read) (omega arith)

few-own : (others pages : ℕ) → (nat_lt 16384 pages || nat_lt 262144 (others + pages)) ≡ false → pages ≤ 16384
few-own others pages within = grind (arith, nat_tests)

few-all : (others pages : ℕ) → (nat_lt 16384 pages || nat_lt 262144 (others + pages)) ≡ false → others + pages ≤ 262144
few-all others pages within = grind (arith, nat_tests)

-- ---- a state

module _ {T : Type 0} {M : ℕ} (s : State T M) (pid k : ℕ) (p : Process T M) (sound : IsSound s) (at : HasPid pid k s.living.items) (e : p ≡ get_or s.living.items k p) (plan : ExecPlan T) (regs : Regs) (memory : Memory) (brk : ℕ) where
  -- the process with what was loaded
  abbrev own : Process T M
  own = record {
    pid = p.pid;
    parent = p.parent;
    regs = regs;
    mem = memory;
    brk_start = brk;
    brk = brk;
    descs = p.descs;
    cwd = p.cwd;
    exe = p.exe;
    exe_dir = p.exe_dir;
    exe_name = p.exe_name;
    umask = p.umask;
    waits = p.waits;
  }

  abbrev after : ℕ → State T M
  after room = record s { room = room; living = with_item s.living k own }

  pub has-room : (room : ℕ) → room ≡ s.room + page_count memory.pages → page_count p.mem.pages ≤ room
  has-room room counted = let least = counted-in s.living.items k s.room p sound.served.room at.within e in omega arith

  module _ (is_regs : regs ≡ (image_of s.tree s.user plan).regs) (is_memory : memory ≡ (image_of s.tree s.user plan).memory) (is_brk : brk ≡ program_break plan.plan) where
    pub loaded-means : (room : ℕ) → Makes pid (image_change (meaning s) plan) s (after room)
    loaded-means room mounts =
        one-changed s pid k p own (with_program (record { regs = regs; memory = memory }) brk) sound.pids at e refl
        ∙ (λ i. with_living (model.with_process pid (with_program (record { regs = is_regs i; memory = is_memory i }) (is_brk i))) (meaning s))

    module _ (within : image_exceeds s.room (bytes_at s.tree plan.place.host) plan.plan plan.args plan.env (ids_of s.user) ≡ false) where
      pub loaded-within : exceeds (meaning s) plan ≡ false
      loaded-within = ap (λ n. image_exceeds n (bytes_at s.tree plan.place.host) plan.plan plan.args plan.env (ids_of s.user)) (sym sound.served.room) ∙ within

      pub can-load : IsLoadable s.tree plan → IsWhole memory.pages → IsPlaced memory.pages → CanBeLoaded pid (meaning s) plan
      can-load loadable whole placed =
          let image = image_of s.tree s.user plan in
          let pages = page_count image.memory.pages in
          let all = few-all s.room pages within in
          let room = sound.served.room in
          subst (λ (o : Option (model.Process T model.Image)). IfSome o (CanLoad image (program_break plan.plan) (meaning s))) (sym (found s pid k p sound at e))
          (record {
            whole = subst (λ (m : Memory). IsWhole m.pages) is_memory whole;
            placed = subst (λ (m : Memory). IsPlaced m.pages) is_memory placed;
            few = few-own s.room pages within;
            room = omega arith;
            break = break-within s.tree plan loadable;
          })

  -- the old memory's pages were counted until they were taken away
  pub loaded-served : (between room : ℕ) (left : Pages) → between ≡ s.room + page_count memory.pages → room ≡ between + page_count left - page_count p.mem.pages → page_count left ≡ 0 → IsServed (after room)
  loaded-served between room left counted taken none = record {
    files = kept-names s sound.served k p own at.within e refl;
    room = let least = has-room between counted in room-changed s.living.items k s.room room p own sound.served.room at.within e (omega arith);
  }
