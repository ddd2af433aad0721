-- Each change keeps a lawful state, where it can be made.
use Rattle.std.proofs.Common.{ℕ, List, [], ◌∷◌, ◌∙◌}
use Rattle.kr_model.specs.kr_tree.Tree.{Tree}
use Rattle.kr_model.specs.kr_tree.Changes as tree
use Rattle.kr_model.specs.kr_view.View.{Row}
use Rattle.kr_model.specs.Applied.{Mounts, applied, images, with_tree}
use Rattle.kr_model.specs.Change.{Change, AddNode, LinkNode, RemoveName, MoveName, SetMode, SetOwner, SetSize, WriteFile, OpenFile, CopyDescriptor, CloseDescriptor, SetCloexec, Seek, SetAppend, MakePipe, TakeFromPipe, PutIntoPipe, TakeInput, WriteOut, WriteErr, ChangePages, SetBreak, SetUmask, ChangeDirectory, Fork, End, Reap, ReplaceImage, ReplaceExecutable, CloseOnExec}
use Rattle.kr_model.specs.Conditions.{KeepsLawful}
use Rattle.kr_model.specs.Lawful.{IsLawful}
use Rattle.kr_model.specs.State.{Image, State}
use Rattle.law_lawful.specs.Laws.{EachKeepsLawful, ChangesKeepLawful, EveryChangeKeepsLawful, AllChangesKeepLawful}
use Rattle.law_lawful.proofs.TreeShapeLemmas.{LeavesHolds, mode-leaves, owner-leaves, size-leaves, write-leaves, add-leaves, link-leaves}
use Rattle.law_lawful.proofs.OwnChangeLemmas.{input-keeps, out-keeps, err-keeps, umask-keeps, break-keeps, seek-keeps, append-keeps, cloexec-keeps, take-keeps, put-keeps, reap-keeps, pages-keep, image-keeps}
use Rattle.law_lawful.proofs.DescriptorChangeLemmas.{close-keeps, close-on-exec-keeps}
use Rattle.law_lawful.proofs.OpeningLemmas.{open-keeps, copy-keeps, pipe-keeps}
use Rattle.law_lawful.proofs.MovingLemmas.{directory-keeps, executable-keeps, remove-keeps, move-keeps}
use Rattle.law_lawful.proofs.ForkingLemmas.{fork-keeps}
use Rattle.law_lawful.proofs.EndingLemmas.{end-keeps}
use Rattle.law_lawful.proofs.AfterLemmas.{parts-of, lawful-after}

module _ {M : Type 0} (number : M → ℕ) (table : List Row) where
  tree-keeps : (s : State M Image) → IsLawful number table s → (f : Tree → Tree) → LeavesHolds table s.tree (f s.tree) → IsLawful number table (with_tree f s)
  tree-keeps s l f after =
      lawful-after number table s l (with_tree f s) after.leaves (parts-of number table s l)
      (record { holds = λ i. after.held.each i ∙ l.uses.holds i; counts = l.uses.counts; numbered = l.uses.numbered })
      l.room
      (record { living = l.pids.living; ended = l.pids.ended; apart = l.pids.apart; few = l.pids.few })
      l.input

  module _ (mounts : Mounts M) (pid : ℕ) where
    each-keeps : EachKeepsLawful number table mounts pid
    each-keeps = record {
      add_node = λ dir name mode uid gid body s l lives can. tree-keeps s l (tree.added dir name mode uid gid body) (add-leaves table s.tree l.tree dir name mode uid gid body can);
      link_node = λ dir name i s l lives can. tree-keeps s l (tree.linked dir name i) (link-leaves table s.tree l.tree dir name i can);
      remove_name = remove-keeps number table mounts pid;
      move_name = move-keeps number table mounts pid;
      set_mode = λ i mode s l lives can. tree-keeps s l (tree.mode_set i mode) (mode-leaves table s.tree l.tree i mode);
      set_owner = λ i uid gid s l lives can. tree-keeps s l (tree.owner_set i uid gid) (owner-leaves table s.tree l.tree i uid gid);
      set_size = λ i size s l lives can. tree-keeps s l (tree.bytes_set i (tree.sized size)) (size-leaves table s.tree l.tree i size can);
      write_file = λ i at bytes s l lives can. tree-keeps s l (tree.bytes_set i (tree.overwritten at bytes)) (write-leaves table s.tree l.tree i at bytes can);
      open_file = open-keeps number table mounts pid;
      copy_descriptor = copy-keeps number table mounts pid;
      close_descriptor = λ fd s l lives can. close-keeps number table pid s l fd;
      set_cloexec = cloexec-keeps number table mounts pid;
      seek = seek-keeps number table mounts pid;
      set_append = append-keeps number table mounts pid;
      make_pipe = pipe-keeps number table mounts pid;
      take_from_pipe = take-keeps number table mounts pid;
      put_into_pipe = put-keeps number table mounts pid;
      take_input = input-keeps number table mounts pid;
      write_out = out-keeps number table mounts pid;
      write_err = err-keeps number table mounts pid;
      change_pages = pages-keep number table mounts pid;
      set_break = break-keeps number table mounts pid;
      set_umask = umask-keeps number table mounts pid;
      change_directory = directory-keeps number table mounts pid;
      fork = fork-keeps number table mounts pid;
      end_ = λ status s l lives can. end-keeps number table s l pid status;
      reap = reap-keeps number table mounts pid;
      replace_image = image-keeps number table mounts pid;
      replace_executable = executable-keeps number table mounts pid;
      close_on_exec = λ s l lives can. close-on-exec-keeps number table pid 1024 s l;
    }

    every-keeps : (c : Change) → KeepsLawful number table mounts pid c
    every-keeps (AddNode dir name mode uid gid body) = each-keeps.add_node dir name mode uid gid body
    every-keeps (LinkNode dir name i) = each-keeps.link_node dir name i
    every-keeps (RemoveName dir name) = each-keeps.remove_name dir name
    every-keeps (MoveName dir name to new) = each-keeps.move_name dir name to new
    every-keeps (SetMode i mode) = each-keeps.set_mode i mode
    every-keeps (SetOwner i uid gid) = each-keeps.set_owner i uid gid
    every-keeps (SetSize i size) = each-keeps.set_size i size
    every-keeps (WriteFile i at bytes) = each-keeps.write_file i at bytes
    every-keeps (OpenFile fd cloexec from o) = each-keeps.open_file fd cloexec from o
    every-keeps (CopyDescriptor fd to cloexec) = each-keeps.copy_descriptor fd to cloexec
    every-keeps (CloseDescriptor fd) = each-keeps.close_descriptor fd
    every-keeps (SetCloexec fd on) = each-keeps.set_cloexec fd on
    every-keeps (Seek fd at) = each-keeps.seek fd at
    every-keeps (SetAppend fd on) = each-keeps.set_append fd on
    every-keeps (MakePipe first second cloexec) = each-keeps.make_pipe first second cloexec
    every-keeps (TakeFromPipe pipe count) = each-keeps.take_from_pipe pipe count
    every-keeps (PutIntoPipe pipe bytes) = each-keeps.put_into_pipe pipe bytes
    every-keeps (TakeInput count) = each-keeps.take_input count
    every-keeps (WriteOut bytes) = each-keeps.write_out bytes
    every-keeps (WriteErr bytes) = each-keeps.write_err bytes
    every-keeps (ChangePages c) = each-keeps.change_pages c
    every-keeps (SetBreak brk) = each-keeps.set_break brk
    every-keeps (SetUmask umask) = each-keeps.set_umask umask
    every-keeps (ChangeDirectory from host) = each-keeps.change_directory from host
    every-keeps (Fork b) = each-keeps.fork b
    every-keeps (End status) = each-keeps.end_ status
    every-keeps (Reap child) = each-keeps.reap child
    every-keeps (ReplaceImage image brk) = each-keeps.replace_image image brk
    every-keeps (ReplaceExecutable from host dir name) = each-keeps.replace_executable from host dir name
    every-keeps CloseOnExec = each-keeps.close_on_exec

pub changes-keep : (M : Type 0) → ChangesKeepLawful M
changes-keep M number table mounts pid = each-keeps number table mounts pid

pub every-change-keeps : (M : Type 0) → EveryChangeKeepsLawful M
every-change-keeps M number table mounts pid c = every-keeps number table mounts pid c

-- one change behind the other
pub all-changes-keep : (M : Type 0) → AllChangesKeepLawful M
all-changes-keep M number table mounts pid [] s l can = l
all-changes-keep M number table mounts pid (c ∷ cs) s l can = all-changes-keep M number table mounts pid cs (applied images mounts pid c s) (every-keeps number table mounts pid c s l can.0 can.1) can.2
