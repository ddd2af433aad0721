-- What two machines share of their states: the mounts of places are forgotten, the holds that mounts have on
-- their sources are taken off, and of what processes compute on only the layout of the pages is kept.
use Rattle.std.specs.Prelude.{ℕ, ◌<◌, ◌≤◌, List, nat_eq, map as map_list}
use Rattle.std.specs.List.{list_any}
use Rattle.std.specs.Option.{option_map}
use Rattle.kr_files.specs.kr_tree.Tree.{Tree}
use Rattle.kr_files.specs.kr_tree.Changes.{counted}
use Rattle.kr_files.specs.kr_tree.Holds.{with_fewer, names_at, holds_at}
use Rattle.kr_files.specs.kr_tree.declared.place.Place.{Place}
use Rattle.kr_files.specs.WithoutMounts.{without_mounts}
use Rattle.kr_procfs.specs.kr_view.View.{Row}
use Rattle.kr_model.specs.State.{Process, State, Layout}
use Rattle.kr_model.specs.Applied.{Mounts}

-- the holds of the mounts: each inode that is the source of a mount is held once for it, however many mounts it is
-- the source of
abbrev pub pins_of : List Row → ℕ → ℕ
pins_of table i = counted (list_any (λ r. nat_eq r.source i) table)

abbrev pub host_only : {M : Type 0} → Place M → Place (Unit {0})
host_only p = record { mount = tt; host = p.host }

module _ {M X : Type 0} where
  abbrev pub bare_process : (X → Layout) → Process M X → Process (Unit {0}) Layout
  bare_process layout p = record {
    pid = p.pid;
    parent = p.parent;
    image = layout p.image;
    brk_start = p.brk_start;
    brk = p.brk;
    descs = p.descs;
    cwd = host_only p.cwd;
    exe = host_only p.exe;
    exe_dir = p.exe_dir;
    exe_name = p.exe_name;
    umask = p.umask;
    waits = p.waits;
  }

  abbrev pub bare : (X → Layout) → (ℕ → ℕ) → State M X → State (Unit {0}) Layout
  bare layout pins s = record {
    tree = with_fewer pins s.tree;
    user = s.user;
    files = without_mounts s.files;
    input = s.input;
    taken = s.taken;
    out = s.out;
    err = s.err;
    living = map_list (bare_process layout) s.living;
    ended = s.ended;
    next_pid = s.next_pid;
  }

-- each mount's source is held by the mounts, and has a name. In a calm run it keeps the one at which it was found
pub record ArePinned (pins : ℕ → ℕ) (t : Tree) : Type 0 where
  pub held : (i : ℕ) → pins i ≤ holds_at t i
  pub named : (i : ℕ) → 0 < pins i → 0 < names_at t i

-- the mounts that a change may name, forgotten
abbrev pub bare_mounts : {M : Type 0} → Mounts M → Mounts (Unit {0})
bare_mounts mounts = record { found = option_map (λ m. tt) mounts.found; directory = option_map (λ m. tt) mounts.directory }
