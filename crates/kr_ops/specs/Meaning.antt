-- What a state of the code means: the plain data of which the definitions speak. How much room is left is no part of it, since
-- that is the sum of the pages.
use Rattle.std.specs.Prelude.{ℕ, map as map_list}
use Rattle.law_lawful.specs.kr_files.Descriptors.{meanings}
use Rattle.law_lawful.specs.kr_model.State as model
use Rattle.kr_ops.specs.declared.state.State.{State}
use Rattle.kr_ops.specs.declared.state.Process.{Process}
use Rattle.kr_ops.specs.declared.state.EndedProcess.{EndedProcess}

abbrev pub process_meaning : {T : Type 0} {M : ℕ} → Process T M → model.Process T model.Image
process_meaning p = record {
  pid = p.pid;
  parent = p.parent;
  image = record { regs = p.regs; memory = p.mem };
  brk_start = p.brk_start;
  brk = p.brk;
  descs = meanings p.descs;
  cwd = p.cwd;
  exe = p.exe;
  exe_dir = p.exe_dir;
  exe_name = p.exe_name;
  umask = p.umask;
  waits = p.waits;
}

abbrev pub ended_meaning : EndedProcess → model.Ended
ended_meaning e = record { pid = e.pid; parent = e.parent; status = e.status }

abbrev pub meaning : {T : Type 0} {M : ℕ} → State T M → model.State T model.Image
meaning s = record {
  tree = s.tree;
  user = s.user;
  files = s.files.table;
  input = s.input;
  taken = s.taken;
  out = s.out;
  err = s.err;
  living = map_list process_meaning s.living.items;
  ended = map_list ended_meaning s.ended.items;
  next_pid = s.next_pid;
}
