-- What a process is told of its call.
use Rattle.std.specs.Prelude.{ℕ, Bool, false, true, ℤ, slice_set}
use Rattle.std.specs.Int.{cast_unsigned, w64}
use Rattle.rv_cpu.specs.rv_mem.declared.regs.Regs.{Regs}
use Rattle.rv_cpu.specs.Words.{sum}
use Rattle.kr_perform.specs.kr_model.Applied.{with_living}
use Rattle.kr_perform.specs.kr_model.State.{Image, Process, State, with_process}

-- a word in the register a0, behind the call
abbrev pub with_word : ℕ → Regs → Regs
with_word word regs = record { x = slice_set regs.x 10 word; pc = sum regs.pc 4 }

-- the answer of a call
abbrev pub with_answer : ℤ → Regs → Regs
with_answer value regs = with_word (cast_unsigned w64 value) regs

-- a process by its registers, and whether it stays at a call that waited
abbrev pub going : {T : Type 0} → (Regs → Regs) → Bool → Process T Image → Process T Image
going regs waits p = record {
  pid = p.pid;
  parent = p.parent;
  image = record { regs = regs p.image.regs; memory = p.image.memory };
  brk_start = p.brk_start;
  brk = p.brk;
  descs = p.descs;
  cwd = p.cwd;
  exe = p.exe;
  exe_dir = p.exe_dir;
  exe_name = p.exe_name;
  umask = p.umask;
  waits = waits;
}

-- a process whose call answered
abbrev pub answered : {T : Type 0} → ℕ → ℤ → State T Image → State T Image
answered pid value s = with_living (with_process pid (going (with_answer value) false)) s

-- a process whose call waits, at which it stays
abbrev pub waiting : {T : Type 0} → ℕ → State T Image → State T Image
waiting pid s = with_living (with_process pid (going (λ regs. regs) true)) s

-- a process that stays at no call
abbrev pub resumed : {T : Type 0} → ℕ → State T Image → State T Image
resumed pid s = with_living (with_process pid (going (λ regs. regs) false)) s
