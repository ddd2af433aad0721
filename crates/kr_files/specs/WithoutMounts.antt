-- Open files without their mounts: the host's object, the remembered entry, the kind, what is allowed, and
-- the offset. Machines with different mounts are compared on them.
use Rattle.std.specs.Prelude.{◌≡◌, ℕ, Bool, List}
use Rattle.std.specs.Option.{option_map}
use Rattle.kr_files.specs.declared.opened.Opened.{Opened}
use Rattle.kr_files.specs.Descriptors.{Meanings}
use Rattle.kr_files.specs.Files.{Counted, Table, file_at, pipe_state_of, with_file, with_pipe, with_copy, with_copies, closed, with_opened, with_all_opened, at_offset, with_append, pipe_after_read, pipe_after_write}
use Rattle.kr_files.specs.Opened.{after_removal, after_rename}
use Rattle.kr_tree.specs.pr_base.Maps.{mapped}

module _ {M : Type 0} where
  abbrev pub without_mount : Opened M → Opened (Unit {0})
  without_mount o = record {
    place = option_map (λ p. record { mount = tt; host = p.host }) o.place;
    dir = o.dir;
    name = o.name;
    what = o.what;
    read = o.read;
    write = o.write;
    append = o.append;
    at = o.at;
  }

  abbrev pub counted_without_mount : Counted M → Counted (Unit {0})
  counted_without_mount h = record { opened = without_mount h.opened; count = h.count }

  -- a table of open files on the host alone
  abbrev pub without_mounts : Table M → Table (Unit {0})
  without_mounts t = record {
    files = mapped (λ n. counted_without_mount) t.files;
    pipes = t.pipes;
    last_file = t.last_file;
    last_pipe = t.last_pipe;
  }

-- each call does on a table without its mounts what it does on the table
pub record CallsGoWithoutMounts (M : Type 0) : Type 0 where
  pub looks : (t : Table M) (n : ℕ) → file_at (without_mounts t) n ≡ option_map without_mount (file_at t n)
  pub states : (t : Table M) (p : ℕ) → pipe_state_of (without_mounts t) p ≡ pipe_state_of t p
  pub opens : (t : Table M) (o : Opened M) → without_mounts (with_file o t) ≡ with_file (without_mount o) (without_mounts t)
  pub pipes : (t : Table M) → without_mounts (with_pipe t) ≡ with_pipe (without_mounts t)
  pub copies : (t : Table M) (n : ℕ) → without_mounts (with_copy n t) ≡ with_copy n (without_mounts t)
  pub forks : (t : Table M) (d : Meanings) → without_mounts (with_copies d t) ≡ with_copies d (without_mounts t)
  pub closes : (t : Table M) (n : ℕ) → without_mounts (closed n t) ≡ closed n (without_mounts t)
  pub seeks : (t : Table M) (n at : ℕ) → without_mounts (with_opened n (at_offset at) t) ≡ with_opened n (at_offset at) (without_mounts t)
  pub appends : (t : Table M) (n : ℕ) (on : Bool) → without_mounts (with_opened n (with_append on) t) ≡ with_opened n (with_append on) (without_mounts t)
  pub reads : (t : Table M) (p n : ℕ) → without_mounts (pipe_after_read p n t) ≡ pipe_after_read p n (without_mounts t)
  pub writes : (t : Table M) (p : ℕ) (b : List ℕ) → without_mounts (pipe_after_write p b t) ≡ pipe_after_write p b (without_mounts t)
  pub removes : (t : Table M) (dir : ℕ) (name : List ℕ)
      → without_mounts (with_all_opened (after_removal dir name) t) ≡ with_all_opened (after_removal dir name) (without_mounts t)
  pub renames : (t : Table M) (dir : ℕ) (name : List ℕ) (to : ℕ) (new : List ℕ)
      → without_mounts (with_all_opened (after_rename dir name to new) t) ≡ with_all_opened (after_rename dir name to new) (without_mounts t)
