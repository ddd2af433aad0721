-- The first process is put into a state.
use Rattle.std.specs.FinMap as map
use Rattle.std.proofs.Common.{◌≡◌, ℕ, ◌+◌, ◌≤◌, ◌<◌, ◌^◌, Bool, true, false, cond, List, [], ◌∷◌, ◌++◌, IsSome, refl, sym, ap, subst, ◌∙◌, arith}
use Rattle.std.specs.Prelude.{map as map_list, is_some, nat_lt, ◌==◌, Result, Ok, Err, OnOk}
use Rattle.std.specs.List.{AllByRecursion}
use Rattle.std.specs.Ordering.{nat_cmp}
use Rattle.std.proofs.lemmas.Bool.Decides.{nat_tests}
use Rattle.std.proofs.lemmas.Option.{none-some}
use Rattle.elf_load.proofs.pr_base.MapLemmas.{mapped-empty}
use Rattle.elf_load.specs.rv_mem.Memory.{page_count}
use Rattle.elf_load.specs.rv_mem.Pages.{IsWhole, IsPlaced}
use Rattle.elf_load.proofs.rv_mem.LayoutLemmas.{layouts_follow}
use Rattle.kr_text.specs.kr_tree.Tree.{Tree, inode}
use Rattle.kr_text.specs.kr_tree.Changes.{held}
use Rattle.kr_text.specs.kr_tree.Holds.{holds_at}
use Rattle.law_walks.specs.kr_view.View.{Row, is_there}
use Rattle.law_walks.specs.kr_files.Descriptors.{Descriptors, Meanings, meanings}
use Rattle.kr_text.specs.kr_inode.declared.user.User.{User}
use Rattle.law_walks.specs.kr_files.Files.{Kept, Table, empty_table, NamesOpenFiles}
use Rattle.kr_ops.specs.law_lawful.Holding.{one_at}
use Rattle.kr_ops.proofs.law_lawful.HoldingLemmas.{holds-held, pins-few}
use Rattle.kr_ops.proofs.law_lawful.SumLemmas.{sum-cons}
use Rattle.law_walks.specs.kr_model.Known.{pages_in_all}
use Rattle.law_walks.specs.kr_model.Lawful.{IsLawful}
use Rattle.law_walks.specs.kr_model.MemoryRows.{process_pages}
use Rattle.law_walks.specs.kr_model.State as model
use Rattle.law_walks.specs.kr_model.State.{Image, image_layout, inode_of, process}
use Rattle.law_walks.specs.kr_model.Uses.{file_uses, process_uses}
use Rattle.kr_ops.specs.declared.state.Process.{Process}
use Rattle.kr_ops.specs.declared.state.State.{State}
use Rattle.kr_ops.specs.Meaning.{meaning, process_meaning}
use Rattle.kr_ops.specs.Sound.{IsServed}
use Rattle.kr_start.specs.Start.{First, first_process, first_pid, with_first, without_processes, pinned, AreOpenBelow, IsIdle, IsOpenTo, IsReady}
use Rattle.kr_start.proofs.PinLemmas.{is_there-some, some-is_there, held-stays}
use Rattle.kr_start.proofs.StartLemmas.{no-files, born-lawful}

pub on-ok : {X E A B : Type 0} (r : Result X E) → (A → B) → OnOk r A → OnOk r B
on-ok (Ok x) f h = f h
on-ok (Err e) f h = tt

-- ---- holds

pub still-there : (t u : Tree) (i j : ℕ) → u ≡ held i t → IsSome (inode t j) → IsSome (inode u j)
still-there t u i j e there = subst (λ u. IsSome (inode u j)) (sym e) (is_there-some (inode (held i t) j) (held-stays is_there (λ g x. refl) t i j ∙ some-is_there (inode t j) there))

one-more : (i j : ℕ) → one_at i j ≤ 1
one-more i j = by (i == j)
  where
    by : (b : Bool) → cond {A = ℕ} b 1 0 ≤ 1
    by true = omega arith
    by false = omega arith

pub hold-fits : (t u : Tree) (i j : ℕ) → u ≡ held i t → IsSome (inode t i) → ((q : ℕ) → holds_at t q ≤ 1) → holds_at u j + 1 < 2 ^ 32
hold-fits t u i j e there few =
    let same = ap (λ u. holds_at u j) e in
    let one = holds-held i t there j in
    let more = one-more i j in
    let old = few j in
    omega arith

module _ {T : Type 0} where
  -- a process without descriptors means the first one
  pub means-first : (first : First T) (descs : Descriptors) → descs ≡ map.empty
      → ◌≡◌ {A = model.Process T Image} (record {
        pid = 2;
        parent = 1;
        image = first.image;
        brk_start = first.brk;
        brk = first.brk;
        descs = meanings descs;
        cwd = first.cwd;
        exe = first.exe;
        exe_dir = first.exe_dir;
        exe_name = first.exe_name;
        umask = 18;
        waits = false;
      }) (first_process first)
  means-first first descs e =
      ap (λ (d : Meanings). record {
        pid = 2;
        parent = 1;
        image = first.image;
        brk_start = first.brk;
        brk = first.brk;
        descs = d;
        cwd = first.cwd;
        exe = first.exe;
        exe_dir = first.exe_dir;
        exe_name = first.exe_name;
        umask = 18;
        waits = false;
      }) (ap meanings e ∙ mapped-empty _)

  -- what a state with it means
  pub put-means : (s : model.State T Image) (first : First T) (tree held_tree : Tree) (cwd exe : ℕ) (living : List (model.Process T Image)) → cwd ≡ inode_of first.cwd.host → exe ≡ inode_of first.exe.host
      → held_tree ≡ held cwd s.tree → tree ≡ held exe held_tree → living ≡ first_process first ∷ [] → s.next_pid ≡ first_pid
      → ◌≡◌ {A = model.State T Image}
      (record { tree = tree; user = s.user; files = s.files; input = s.input; taken = s.taken; out = s.out; err = s.err; living = living; ended = s.ended; next_pid = 3 })
      (with_first first s)
  put-means s first tree held_tree cwd exe living at_cwd at_exe one two lives before =
      let trees : tree ≡ held (inode_of first.exe.host) (held (inode_of first.cwd.host) s.tree) = two ∙ ap (λ i. held i held_tree) at_exe ∙ ap (held (inode_of first.exe.host)) (one ∙ ap (λ i. held i s.tree) at_cwd) in
      let next : 3 ≡ s.next_pid + 1 = omega arith in
      λ j. record { tree = trees j; user = s.user; files = s.files; input = s.input; taken = s.taken; out = s.out; err = s.err; living = lives j; ended = s.ended; next_pid = next j }

module _ {T : Type 0} where
  -- what a state means in which nothing is open and no process lives
  pub idle-means : (user : User) (input : List ℕ) (t tree : Tree) (table : List Row) (files : Table T) (out err : List ℕ) (living : List (model.Process T Image)) (ended : List model.Ended)
      → tree ≡ pinned table t → files ≡ empty_table → out ≡ [] → err ≡ [] → living ≡ [] → ended ≡ []
      → ◌≡◌ {A = model.State T Image}
      (record { tree = tree; user = user; files = files; input = input; taken = 0; out = out; err = err; living = living; ended = ended; next_pid = 2 })
      (without_processes (pinned table t) user input)
  idle-means user input t tree table files out err living ended a b c d e f =
      λ j. record { tree = a j; user = user; files = b j; input = input; taken = 0; out = c j; err = d j; living = e j; ended = f j; next_pid = 2 }

module _ {T : Type 0} {M : ℕ} where
  -- before a process lives only mounts hold, each inode once
  pub idle-holds : (number : T → ℕ) (table : List Row) (s : State T M) → IsLawful number table (meaning s) → IsIdle (meaning s) → (i : ℕ) → holds_at s.tree i ≤ 1
  idle-holds number table s l idle i =
      let holds = l.uses.holds i in
      let files : file_uses s.files.table i ≡ 0 = ap (λ f. file_uses f i) idle.files ∙ no-files T i in
      let processes : process_uses (meaning s).living i ≡ 0 = ap (λ ps. process_uses ps i) idle.living in
      let pins = pins-few table i in
      omega arith

  -- ---- the process

  -- nothing is listed where nothing is meant
  none-listed : (ps : List (Process T M)) → map_list process_meaning ps ≡ [] → ps ≡ []
  none-listed [] e = refl
  none-listed (p ∷ ps) e = absurd cc

module _ {T : Type 0} {M : ℕ} where
  -- it is all that lives
  pub lives-alone : (old reserved new : List (Process T M)) (p : Process T M) (q : model.Process T Image) → map_list process_meaning old ≡ [] → reserved ≡ old → new ≡ reserved ++ p ∷ [] → process_meaning p ≡ q
      → (new ≡ p ∷ []) × (map_list process_meaning new ≡ q ∷ [])
  lives-alone old reserved new p q none same is e =
      let alone : new ≡ p ∷ [] = is ∙ ap (λ ps. ps ++ p ∷ []) (same ∙ none-listed old none) in
      (alone, ap (map_list process_meaning) alone ∙ ap (λ q. q ∷ []) e)

  -- without descriptors it is served
  pub first-served : (files : Kept T) (room : ℕ) (ps : List (Process T M)) (p : Process T M) → ps ≡ p ∷ [] → p.descs ≡ map.empty → room ≡ page_count p.mem.pages
      → AllByRecursion (λ (q : Process T M). NamesOpenFiles files q.descs) ps × (room ≡ pages_in_all image_layout (map_list process_meaning ps))
  first-served files room ps p alone none pages =
      subst (λ ps. AllByRecursion (λ (q : Process T M). NamesOpenFiles files q.descs) ps × (room ≡ pages_in_all image_layout (map_list process_meaning ps))) (sym alone) (
        (λ fd x at. absurd (none-some x (sym (map.get-empty nat_cmp fd) ∙ sym (ap (λ (d : Descriptors). map.get d fd) none) ∙ at)), tt),
        let count = layouts_follow.count p.mem.pages in let all = sum-cons (map.len (image_layout (process_meaning p).image)) [] in omega arith,
      )

  -- nothing of the console is open yet
  pub none-open : (first : First T) (old new : State T M) → IsReady first old → meaning new ≡ with_first first (meaning old) → IsServed new
      → IsWhole first.image.memory.pages → IsPlaced first.image.memory.pages → page_count first.image.memory.pages ≤ process_pages → IsOpenTo 0 new
  none-open first old new ready means served whole placed few = record {
    view = record {
      number = ready.number;
      table = ready.table;
      lawful = subst (IsLawful ready.number ready.table) (sym means)
          (born-lawful ready.number ready.table (meaning old) ready.lawful ready.idle first ready.begins whole placed few);
      served = served;
    };
    lives = subst (λ s. IsSome (process first_pid s)) (sym means) refl;
    below = subst (AreOpenBelow 0) (sym means) (λ fd. ap is_some (map.get-empty nat_cmp fd) ∙ sym (none-below fd));
    last = ap (λ (s : model.State T Image). s.files.last_file) means ∙ ap (λ f. f.last_file) ready.idle.files;
  }
    where
      none-below : (fd : ℕ) → nat_lt fd 0 ≡ false
      none-below fd = grind (arith, nat_tests)
