-- Working directories and executables that the code changes are changed in what its state means.
use Rattle.std.proofs.Common.{◌≡◌, ℕ, ◌+◌, ◌≤◌, ◌<◌, List, get_or, refl, sym, ap, subst, ◌∙◌, cond, arith, Option, Some}
use Rattle.std.specs.Prelude.{slice_set}
use Rattle.std.specs.Option.{option_map, option_map_or}
use Rattle.law_lawful.specs.kr_tree.Tree.{Tree}
use Rattle.law_lawful.specs.kr_tree.Holds.{holds_at}
use Rattle.law_lawful.specs.kr_tree.declared.place.Place.{Place}
use Rattle.law_lawful.specs.kr_model.Applied.{Mounts, images, applied, held_at, released_at, mount_of, moved_to, executed, with_cwd, with_exe}
use Rattle.law_lawful.specs.kr_model.Change.{MountOf, ChangeDirectory, ReplaceExecutable}
use Rattle.law_lawful.specs.kr_model.Uses.{at_inode}
use Rattle.law_lawful.specs.kr_model.State as model
use Rattle.law_lawful.specs.kr_model.State.{inode_of}
use Rattle.law_lawful.proofs.CountLemmas.{released-uses}
use Rattle.kr_ops.specs.declared.state.Process.{Process}
use Rattle.kr_ops.specs.declared.state.State.{State}
use Rattle.kr_ops.specs.Living.{HasPid}
use Rattle.kr_ops.specs.Meaning.{meaning, process_meaning}
use Rattle.kr_ops.specs.Sound.{IsSound}
use Rattle.kr_ops.proofs.CloseLemmas.{outcome}
use Rattle.kr_ops.proofs.ListLemmas.{apart, stored, has-number, same-test}
use Rattle.kr_ops.proofs.OpeningLemmas.{found}
use Rattle.kr_ops.proofs.UseLemmas.{process-held}

module _ {T : Type 0} {M : ℕ} where
  abbrev pub with_directory : Process T M → Place T → Process T M
  with_directory p place = record {
    pid = p.pid;
    parent = p.parent;
    regs = p.regs;
    mem = p.mem;
    brk_start = p.brk_start;
    brk = p.brk;
    descs = p.descs;
    cwd = place;
    exe = p.exe;
    exe_dir = p.exe_dir;
    exe_name = p.exe_name;
    umask = p.umask;
    waits = p.waits;
  }

  abbrev pub with_executable : Process T M → Place T → ℕ → List ℕ → Process T M
  with_executable p place dir name = record {
    pid = p.pid;
    parent = p.parent;
    regs = p.regs;
    mem = p.mem;
    brk_start = p.brk_start;
    brk = p.brk;
    descs = p.descs;
    cwd = p.cwd;
    exe = place;
    exe_dir = dir;
    exe_name = name;
    umask = p.umask;
    waits = p.waits;
  }

  module _ (s : State T M) (pid k : ℕ) (p : Process T M) (sound : IsSound s) (h : HasPid pid k s.living.items) (e : p ≡ get_or s.living.items k p) where
    -- a working directory and an executable are held
    pub directory-held : 0 < holds_at s.tree (inode_of p.cwd.host)
    directory-held =
        let i : ℕ = inode_of p.cwd.host in
        let uses : at_inode i 1 (Some p.cwd) + at_inode i 1 (Some p.exe) ≤ holds_at s.tree i = process-held s sound pid i (process_meaning p) (found s pid k p sound h e) in
        let one : at_inode i 1 (Some p.cwd) ≡ 1 = ap (λ b. cond b 1 0) (same-test i i refl) in
        omega arith

    pub executable-held : 0 < holds_at s.tree (inode_of p.exe.host)
    executable-held =
        let i : ℕ = inode_of p.exe.host in
        let uses : at_inode i 1 (Some p.cwd) + at_inode i 1 (Some p.exe) ≤ holds_at s.tree i = process-held s sound pid i (process_meaning p) (found s pid k p sound h e) in
        let one : at_inode i 1 (Some p.exe) ≡ 1 = ap (λ b. cond b 1 0) (same-test i i refl) in
        omega arith

    -- an executable that is held stays so where the working directory is let go
    pub executable-still-held : (t : Tree) → t ≡ released_at (Some p.cwd) s.tree → 0 < holds_at t (inode_of p.exe.host)
    executable-still-held t is =
        let i : ℕ = inode_of p.exe.host in
        let uses : at_inode i 1 (Some p.cwd) + at_inode i 1 (Some p.exe) ≤ holds_at s.tree i = process-held s sound pid i (process_meaning p) (found s pid k p sound h e) in
        let one : at_inode i 1 (Some p.exe) ≡ 1 = ap (λ b. cond b 1 0) (same-test i i refl) in
        let after = released-uses s.tree (Some p.cwd) i in
        subst (λ (t : Tree). 0 < holds_at t i) (sym is) (omega arith)

    pub moved-means : (place : Place T) (tree end : Tree) → tree ≡ held_at (Some place) s.tree → end ≡ released_at (Some p.cwd) tree
        → (mounts : Mounts T) (from : MountOf) → mount_of mounts pid (meaning s) from ≡ Some place.mount
        → outcome s end s.files.table (slice_set s.living.items k (with_directory p place)) ≡ applied images mounts pid (ChangeDirectory from place.host) (meaning s)
    moved-means place tree end trees ends mounts from taken =
        let lists = stored pid (with_cwd place) s.living.items k p (with_directory p place) (apart s sound.pids) h.within e (has-number pid k s.living.items h p e) refl in
        let old = ap (option_map (λ (q : model.Process T model.Image). q.cwd)) (found s pid k p sound h e) in
        let root = ends ∙ ap (released_at (Some p.cwd)) trees ∙ ap (λ o. released_at o (held_at (Some place) s.tree)) (sym old) in
        let all : outcome s end s.files.table (slice_set s.living.items k (with_directory p place)) ≡ moved_to pid place.host place.mount (meaning s) = λ j. record {
          tree = root j;
          user = (meaning s).user;
          files = (meaning s).files;
          input = (meaning s).input;
          taken = (meaning s).taken;
          out = (meaning s).out;
          err = (meaning s).err;
          living = lists j;
          ended = (meaning s).ended;
          next_pid = (meaning s).next_pid;
        } in
        all ∙ sym (ap (λ (o : Option T). option_map_or (λ m. moved_to pid place.host m (meaning s)) o (meaning s)) taken)

    pub executed-means : (place : Place T) (dir : ℕ) (name : List ℕ) (tree end : Tree) → tree ≡ held_at (Some place) s.tree → end ≡ released_at (Some p.exe) tree
        → (mounts : Mounts T) (from : MountOf) → mount_of mounts pid (meaning s) from ≡ Some place.mount
        → outcome s end s.files.table (slice_set s.living.items k (with_executable p place dir name)) ≡ applied images mounts pid (ReplaceExecutable from place.host dir name) (meaning s)
    executed-means place dir name tree end trees ends mounts from taken =
        let lists = stored pid (with_exe place dir name) s.living.items k p (with_executable p place dir name) (apart s sound.pids) h.within e (has-number pid k s.living.items h p e) refl in
        let old = ap (option_map (λ (q : model.Process T model.Image). q.exe)) (found s pid k p sound h e) in
        let root = ends ∙ ap (released_at (Some p.exe)) trees ∙ ap (λ o. released_at o (held_at (Some place) s.tree)) (sym old) in
        let all : outcome s end s.files.table (slice_set s.living.items k (with_executable p place dir name)) ≡ executed pid place.host dir name place.mount (meaning s) = λ j. record {
          tree = root j;
          user = (meaning s).user;
          files = (meaning s).files;
          input = (meaning s).input;
          taken = (meaning s).taken;
          out = (meaning s).out;
          err = (meaning s).err;
          living = lists j;
          ended = (meaning s).ended;
          next_pid = (meaning s).next_pid;
        } in
        all ∙ sym (ap (λ (o : Option T). option_map_or (λ m. executed pid place.host dir name m (meaning s)) o (meaning s)) taken)
