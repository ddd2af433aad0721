-- A state whose mounts are told by their numbers in the view.
use Rattle.std.specs.Prelude.{ℕ, map as map_list}
use Rattle.std.specs.Option.{option_map}
use Rattle.kr_ops.specs.pr_base.Maps.{mapped}
use Rattle.kr_ops.specs.kr_view.Leads.{numbered}
use Rattle.kr_ops.specs.kr_files.declared.opened.Opened.{Opened}
use Rattle.kr_ops.specs.kr_files.Files.{Counted, Table}
use Rattle.kr_ops.specs.kr_model.State.{Process, State}

module _ {T : Type 0} (number : T → ℕ) where
  abbrev pub opened_numbered : Opened T → Opened ℕ
  opened_numbered o = record {
    place = option_map (numbered number) o.place;
    dir = o.dir;
    name = o.name;
    what = o.what;
    read = o.read;
    write = o.write;
    append = o.append;
    at = o.at;
  }

  abbrev pub counted_numbered : Counted T → Counted ℕ
  counted_numbered h = record { opened = opened_numbered h.opened; count = h.count }

  abbrev pub table_numbered : Table T → Table ℕ
  table_numbered t = record {
    files = mapped (λ n. counted_numbered) t.files;
    pipes = t.pipes;
    last_file = t.last_file;
    last_pipe = t.last_pipe;
  }

module _ {T X : Type 0} (number : T → ℕ) where
  abbrev pub process_numbered : Process T X → Process ℕ X
  process_numbered p = record {
    pid = p.pid;
    parent = p.parent;
    image = p.image;
    brk_start = p.brk_start;
    brk = p.brk;
    descs = p.descs;
    cwd = numbered number p.cwd;
    exe = numbered number p.exe;
    exe_dir = p.exe_dir;
    exe_name = p.exe_name;
    umask = p.umask;
    waits = p.waits;
  }

  abbrev pub state_numbered : State T X → State ℕ X
  state_numbered s = record {
    tree = s.tree;
    user = s.user;
    files = table_numbered number s.files;
    input = s.input;
    taken = s.taken;
    out = s.out;
    err = s.err;
    living = map_list process_numbered s.living;
    ended = s.ended;
    next_pid = s.next_pid;
  }
