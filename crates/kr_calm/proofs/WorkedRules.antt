-- The rules worked out by hand on a small machine.
use Rattle.std.specs.FinMap as map
use Rattle.std.proofs.Common.{◌≡◌, ℕ, zero, suc, Bool, true, false, ◌||◌, List, [], ◌∷◌, refl, ap, ◌∙◌, Option, Some, None, Ok, Err, negsuc}
use Rattle.std.specs.Prelude.{codes, replicate, slice_set}
use Rattle.std.specs.Option.{option_map_or, option_and_then}
use Rattle.std.specs.Ordering.{nat_cmp}
use Rattle.std.proofs.lemmas.Cmp.{nat_cmp_total}
use Rattle.kr_seen.specs.pr_base.declared.errno.Errno.TheVariants.{ENOENT}
use Rattle.kr_seen.specs.pr_base.declared.path.Last.TheVariants as last
use Rattle.kr_seen.specs.rv_mem.Memory.{empty_memory}
use Rattle.kr_seen.specs.rv_mem.declared.regs.Regs.{Regs}
use Rattle.kr_seen.specs.kr_inode.declared.standing.Standing.{Standing}
use Rattle.kr_seen.specs.kr_calls.declared.request.Request.{Request}
use Rattle.kr_seen.specs.kr_calls.declared.request.Request.TheVariants as call
use Rattle.kr_seen.specs.kr_tree.Tree.{Tree, Inode, Body, Entry, Directory, RegularFile, ProcessDirectory}
use Rattle.kr_seen.specs.kr_tree.declared.place.Host.{Host}
use Rattle.kr_seen.specs.kr_tree.declared.place.Host.TheVariants.{Node, Proc}
use Rattle.kr_seen.specs.kr_tree.declared.place.ProcAt.TheVariants.{Dir, FdDir}
use Rattle.kr_seen.specs.kr_files.declared.opened.Opened.{Opened}
use Rattle.kr_seen.specs.kr_files.Descriptors.{Named}
use Rattle.kr_seen.specs.kr_files.Files.{empty_table, file_at}
use Rattle.kr_seen.specs.kr_view.View.{Point, Row}
use Rattle.kr_seen.specs.kr_view.Walk.{PlaceTarget}
use Rattle.kr_seen.specs.kr_model.Change.{End, MoveName, RemoveName, SetMode}
use Rattle.kr_seen.specs.kr_model.State.{Process, State}
use Rattle.kr_seen.specs.kr_model.Walks.{Targets}
use Rattle.kr_calm.specs.Above.{is_within}
use Rattle.kr_calm.specs.Calm.{broken_at_start, kept}
use Rattle.kr_calm.specs.InUse.{any_opened_below, passes_at}
use Rattle.kr_calm.specs.Rules.{breaks_1, breaks_2, breaks_3, breaks_4, breaks_5, breaks_6}
use Rattle.kr_calm.specs.Shelf.{has_path, lacks_shelf, lacks_shelf_by}
use Rattle.kr_calm.specs.declared.rule.Rule.TheVariants.{SearchStays, ShortNames, Unread}

-- ---- a small tree

abbrev inode_as : ℕ → Body → Inode
inode_as mode body = record { node = record { mode = mode; uid = 1000; gid = 1000; body = body }; names = 1; holds = 0; next_serial = 9; directories = 0 }

abbrev entry_as : List ℕ → ℕ → ℕ → Entry
entry_as name serial inode = record { name = name; serial = serial; inode = inode }

abbrev standing : ℕ → ℕ → Option Standing
standing dir serial = Some (record { inode = dir; serial = serial })

-- 1 `/`, 2 `/data`, 3 the file `/new`, 4 `/g`, 5 `/g/a`, 6 `/g/a/b`, 7 `/g/b`, 8 `/g/b/mnt`, 9 the file `/g/f`, 10 the process
-- directory, `/proc`; `/g/a` has the mode that is given
nodes : ℕ → List (ℕ × Inode)
nodes mode =
    (1, inode_as 0x1ed (Directory (entry_as (codes "data") 3 2 ∷ entry_as (codes "new") 4 3 ∷ entry_as (codes "g") 5 4 ∷ entry_as (codes "proc") 6 10 ∷ []) (standing 1 0)))
    ∷ (2, inode_as 0x1ed (Directory [] (standing 1 3)))
    ∷ (3, inode_as 0x1a4 (RegularFile []))
    ∷ (4, inode_as 0x1ed (Directory (entry_as (codes "a") 3 5 ∷ entry_as (codes "b") 4 7 ∷ entry_as (codes "f") 5 9 ∷ []) (standing 1 5)))
    ∷ (5, inode_as mode (Directory (entry_as (codes "b") 3 6 ∷ []) (standing 4 3)))
    ∷ (6, inode_as 0x1ed (Directory [] (standing 5 3)))
    ∷ (7, inode_as 0x1ed (Directory (entry_as (codes "mnt") 3 8 ∷ []) (standing 4 4)))
    ∷ (8, inode_as 0x1ed (Directory [] (standing 7 3)))
    ∷ (9, inode_as 0x1a4 (RegularFile []))
    ∷ (10, inode_as 0x16d (ProcessDirectory (standing 1 6)))
    ∷ []

abbrev tree : ℕ → Tree
tree mode = record { inodes = map.from_entries (nodes mode); next = 11; names = 9; bytes = 0 }

abbrev open_tree : Tree
open_tree = tree 0x1ed

look : (mode i : ℕ) → map.get {R = nat_cmp} (map.from_entries (nodes mode)) i ≡ map.find nat_cmp i (nodes mode)
look mode i = map.get-from_entries nat_cmp_total (nodes mode) i

-- ---- bindings: `/g` is the root, `/data` is bound at `/b/mnt` and the file `/new` at `/f`

abbrev row : ℕ → ℕ → List ℕ → Option Point → Row
row source dir name point = record {
  text = record { index = 0; location = []; source = []; point = None };
  source = source;
  source_dir = dir;
  source_name = name;
  is_dir = true;
  point = point;
}

abbrev table : List Row
table =
    row 4 1 (codes "g") None
    ∷ row 2 1 (codes "data") (Some (record { mount = 0; dir = 7; name = codes "mnt" }))
    ∷ row 3 1 (codes "new") (Some (record { mount = 0; dir = 4; name = codes "f" }))
    ∷ []

-- ---- one process, by its working directory

abbrev process_in : Host → Process ℕ (Unit {0})
process_in host = record {
  pid = 2;
  parent = 1;
  image = tt;
  brk_start = 0;
  brk = 0;
  descs = map.empty;
  cwd = record { mount = 0; host = host };
  exe = record { mount = 0; host = Node 9 };
  exe_dir = 4;
  exe_name = codes "f";
  umask = 18;
  waits = false;
}

abbrev state_in : Host → Tree → State ℕ (Unit {0})
state_in host t = record {
  tree = t;
  user = record { uid = 1000; gid = 1000 };
  files = empty_table;
  input = [];
  taken = 0;
  out = [];
  err = [];
  living = process_in host ∷ [];
  ended = [];
  next_pid = 3;
}

nothing_open : (n : ℕ) (test : Opened ℕ → Bool) → any_opened_below n test empty_table map.empty ≡ false
unfolding any_opened_below
nothing_open zero test = refl
nothing_open (suc n) test = ap (λ b. b || passes_at test empty_table map.empty n) (nothing_open n test) ∙ ap (λ o. option_map_or test (option_and_then (λ (x : Named). file_at empty_table x.number) o) false) (map.get-empty nat_cmp n)

-- ---- rule 1

regs_with : ℕ → ℕ → Regs
regs_with number sp = record { x = slice_set (slice_set (replicate 32 0) 2 sp) 17 number; pc = 0 }

openat_has_one : has_path 56 ≡ true
openat_has_one = refl

renameat2_has_one : has_path 276 ≡ true
renameat2_has_one = refl

getcwd_has_none : has_path 17 ≡ false
getcwd_has_none = refl

close_has_none : has_path 57 ≡ false
close_has_none = refl

no_room_for_a_shelf : lacks_shelf (regs_with 56 0x1000) empty_memory ≡ true
unfolding regs_with
no_room_for_a_shelf = refl

no_shelf_is_asked : lacks_shelf (regs_with 57 0x1000) empty_memory ≡ false
unfolding regs_with
no_shelf_is_asked = refl

without_marks_nothing_is_judged : lacks_shelf_by 0 (regs_with 56 0x1000) empty_memory ≡ false
without_marks_nothing_is_judged = refl

reading_a_marked_byte_breaks : breaks_1 (record { pages = map.empty; read_marked = true }) false ≡ true
reading_a_marked_byte_breaks = refl

-- ---- rule 2

target : ℕ → ℕ → ℕ → PlaceTarget
target mount dir found = record { dir = record { mount = mount; host = Node dir }; name = codes "x"; last = last.Name; slash = false; jumped = false; found = Some (record { mount = mount; host = Node found }) }

abbrev both : PlaceTarget → PlaceTarget → Targets
both old new = record { first = Some old; second = Some new }

abbrev renaming : Request
renaming = call.Renameat2 (negsuc 99) (codes "/x") (negsuc 99) (codes "/y")

abbrev linking : Request
linking = call.Linkat (negsuc 99) (codes "/x") (negsuc 99) (codes "/y") 0

from_mount_to_mount : breaks_2 table open_tree renaming (Ok (both (target 0 4 9) (target 1 2 9))) ≡ true
unfolding target
from_mount_to_mount = refl

between_directories_of_the_root : breaks_2 table open_tree renaming (Ok (both (target 0 5 9) (target 0 7 9))) ≡ false
unfolding is_within nodes target
between_directories_of_the_root = simp look refl

from_below_a_mount_point : breaks_2 table open_tree renaming (Ok (both (target 0 8 9) (target 0 7 9))) ≡ true
unfolding is_within nodes target
from_below_a_mount_point = simp look refl

out_of_a_source : breaks_2 table open_tree renaming (Ok (both (target 0 2 9) (target 0 1 9))) ≡ true
unfolding is_within nodes target
out_of_a_source = simp look refl

links_are_judged_by_mounts_alone : breaks_2 table open_tree linking (Ok (both (target 0 8 9) (target 0 7 9))) ≡ false
unfolding target
links_are_judged_by_mounts_alone = refl

what_is_found_counts : breaks_2 table open_tree linking (Ok (both (target 1 2 9) (target 0 7 9))) ≡ true
unfolding target
what_is_found_counts = refl

a_failed_walk_breaks_none : breaks_2 table open_tree renaming (Err ENOENT) ≡ false
a_failed_walk_breaks_none = refl

-- ---- rule 3

a_source_is_removed : breaks_3 table open_tree (RemoveName 1 (codes "new")) ≡ true
a_source_is_removed = refl

another_name_is_removed : breaks_3 table open_tree (RemoveName 4 (codes "new")) ≡ false
another_name_is_removed = refl

a_source_is_renamed : breaks_3 table open_tree (MoveName 1 (codes "data") 4 (codes "d")) ≡ true
a_source_is_renamed = refl

a_source_is_replaced : breaks_3 table open_tree (MoveName 4 (codes "f") 1 (codes "new")) ≡ true
a_source_is_replaced = refl

what_is_above_a_mount_point_is_renamed : breaks_3 table open_tree (MoveName 4 (codes "b") 4 (codes "c")) ≡ true
unfolding is_within nodes
what_is_above_a_mount_point_is_renamed = simp look refl

another_directory_is_renamed : breaks_3 table open_tree (MoveName 4 (codes "a") 4 (codes "c")) ≡ false
unfolding is_within nodes
another_directory_is_renamed = simp look refl

-- ---- rule 4

what_is_above_a_working_directory_moves : breaks_4 2 (state_in (Node 6) open_tree) (MoveName 4 (codes "a") 4 (codes "c")) (state_in (Node 6) open_tree) ≡ true
unfolding is_within nodes
what_is_above_a_working_directory_moves = simp look refl

another_moves : breaks_4 2 (state_in (Node 6) open_tree) (MoveName 4 (codes "b") 4 (codes "c")) (state_in (Node 6) open_tree) ≡ false
unfolding is_within nodes
another_moves = simp (look, nothing_open) refl

a_working_directory_is_removed : breaks_4 2 (state_in (Node 6) open_tree) (RemoveName 5 (codes "b")) (state_in (Node 6) open_tree) ≡ true
unfolding is_within nodes
a_working_directory_is_removed = simp look refl

a_process_ends_whose_directory_is_used : breaks_4 3 (state_in (Proc 10 (FdDir 3)) open_tree) (End 0) (state_in (Proc 10 (FdDir 3)) open_tree) ≡ true
a_process_ends_whose_directory_is_used = refl

a_process_ends_whose_directory_is_not : breaks_4 3 (state_in (Proc 10 (Dir 2)) open_tree) (End 0) (state_in (Proc 10 (Dir 2)) open_tree) ≡ false
a_process_ends_whose_directory_is_not = simp nothing_open refl

-- ---- rule 5

what_is_above_a_working_directory_is_shut : breaks_5 table (state_in (Node 6) open_tree) (SetMode 5 0) (state_in (Node 6) (tree 0)) ≡ true
unfolding is_within nodes
what_is_above_a_working_directory_is_shut = simp (look, nothing_open) refl

what_nobody_uses_is_shut : breaks_5 table (state_in (Node 7) open_tree) (SetMode 5 0) (state_in (Node 7) (tree 0)) ≡ false
unfolding is_within nodes
what_nobody_uses_is_shut = simp (look, nothing_open) refl

search_is_kept : breaks_5 table (state_in (Node 6) open_tree) (SetMode 5 0x40) (state_in (Node 6) (tree 0x40)) ≡ false
unfolding is_within nodes
search_is_kept = simp (look, nothing_open) refl

-- ---- rule 6, and the first rule that is broken

four_thousand_bytes : breaks_6 (record { longest = 4000; met_proc = false }) ≡ false
four_thousand_bytes = refl

one_byte_more : broken_at_start (record { longest = 4001; met_proc = false }) ≡ Some ShortNames
one_byte_more = refl

the_first_is_kept : kept (Some SearchStays) (Some Unread) ≡ Some SearchStays
the_first_is_kept = refl
