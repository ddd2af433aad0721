-- States that are equal but for what some of their processes compute on.
use Rattle.std.specs.Prelude.{◌≡◌, ℕ, Bool, true, map as map_list}
use Rattle.kr_core.specs.kr_model.State.{Image, Layout, Process, State, image_layout}
use Rattle.kr_core.specs.kr_stops.Stopped.{image_in}

-- ---- another thing in place of what processes compute on

module _ {M X Y : Type 0} where
  abbrev pub imaged : (X → Y) → Process M X → Process M Y
  imaged h p = record {
    pid = p.pid;
    parent = p.parent;
    image = h p.image;
    brk_start = p.brk_start;
    brk = p.brk;
    descs = p.descs;
    cwd = p.cwd;
    exe = p.exe;
    exe_dir = p.exe_dir;
    exe_name = p.exe_name;
    umask = p.umask;
    waits = p.waits;
  }

  -- by the number of each
  abbrev pub imaged_by : (ℕ → X → Y) → Process M X → Process M Y
  imaged_by h p = imaged (h p.pid) p

  abbrev pub imaged_in : (ℕ → X → Y) → State M X → State M Y
  imaged_in h s = record {
    tree = s.tree;
    user = s.user;
    files = s.files;
    input = s.input;
    taken = s.taken;
    out = s.out;
    err = s.err;
    living = map_list (imaged_by h) s.living;
    ended = s.ended;
    next_pid = s.next_pid;
  }

-- a process and a state with layouts in place of registers and memories
module _ {M : Type 0} where
  abbrev pub laid_process : Process M Image → Process M Layout
  laid_process p = imaged image_layout p

  abbrev pub laid : State M Image → State M Layout
  laid s = imaged_in (λ pid. image_layout) s

-- two states are the same but for registers and bytes, and these are the same of some processes, which a test tells
pub record AreBeside {M : Type 0} (among : ℕ → Bool) (s t : State M Image) : Type 0 where
  pub same : laid s ≡ laid t
  pub images : (pid : ℕ) → among pid ≡ true → image_in pid s ≡ image_in pid t
