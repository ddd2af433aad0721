-- The state of a start with the numbers of its mounts is that of the start with the numbers of its places.
use Rattle.std.specs.FinMap as map
use Rattle.std.proofs.Common.{◌≡◌, ℕ, ◌+◌, Bool, true, false, List, ap, ◌∙◌}
use Rattle.std.specs.Ordering.{nat_cmp}
use Rattle.kr_start.proofs.pr_base.MapLemmas.{mapped-empty, mapped-insert}
use Rattle.kr_start.specs.kr_inode.declared.user.User.{User}
use Rattle.kr_start.specs.kr_tree.Tree.{Tree}
use Rattle.kr_execve.specs.kr_view.Leads.{numbered}
use Rattle.kr_start.specs.kr_files.declared.opened.What.{What}
use Rattle.kr_start.specs.kr_files.declared.opened.What.TheVariants.{In, Out, Err}
use Rattle.kr_start.specs.kr_files.Files.{Counted, Table, empty_table, with_file}
use Rattle.kr_start.specs.kr_model.Applied.{in_mount, with_files}
use Rattle.kr_execve.specs.kr_seen.Numbered.{counted_numbered, state_numbered, table_numbered}
use Rattle.kr_start.specs.Start.{console, started, without_processes, First}

-- with one more part of the console, and with all three
abbrev opened : {M : Type 0} → What → Bool → Bool → M → Table M → Table M
opened what read write m files = with_file (in_mount m (console what read write)) files

abbrev all_opened : {M : Type 0} → M → Table M → Table M
all_opened m files = opened Err false true m (opened Out false true m (opened In true false m files))

module _ {T : Type 0} (number : T → ℕ) where
  abbrev pub first_numbered : First T → First ℕ
  first_numbered first = record {
    image = first.image;
    brk = first.brk;
    cwd = numbered number first.cwd;
    exe = numbered number first.exe;
    exe_dir = first.exe_dir;
    exe_name = first.exe_name;
  }

  opened-numbered : (what : What) (read write : Bool) (m : T) (files : Table T) → table_numbered number (opened what read write m files) ≡ opened what read write (number m) (table_numbered number files)
  opened-numbered what read write m files =
      ap (λ (held : map.FinMap nat_cmp (Counted ℕ)). record { files = held; pipes = files.pipes; last_file = files.last_file + 1; last_pipe = files.last_pipe })
      (mapped-insert (λ n. counted_numbered number) files.files (files.last_file + 1) (record { opened = in_mount m (console what read write); count = 1 }))

  empty-numbered : table_numbered number empty_table ≡ empty_table
  empty-numbered = ap (λ (held : map.FinMap nat_cmp (Counted ℕ)). record { files = held; pipes = map.empty; last_file = 0; last_pipe = 0 }) (mapped-empty (λ n. counted_numbered number))

  console-numbered : (m : T) → table_numbered number (all_opened m empty_table) ≡ all_opened (number m) empty_table
  console-numbered m =
      opened-numbered Err false true m (opened Out false true m (opened In true false m empty_table))
      ∙ ap (opened Err false true (number m)) (opened-numbered Out false true m (opened In true false m empty_table))
      ∙ ap (λ files. opened Err false true (number m) (opened Out false true (number m) files)) (opened-numbered In true false m empty_table)
      ∙ ap (all_opened (number m)) empty-numbered

  pub started-numbered : (first : First T) (t : Tree) (user : User) (input : List ℕ) → state_numbered number (started first (without_processes t user input)) ≡ started (first_numbered first) (without_processes t user input)
  started-numbered first t user input = ap (λ (files : Table ℕ). with_files (λ _. files) (started (first_numbered first) (without_processes t user input))) (console-numbered first.cwd.mount)
