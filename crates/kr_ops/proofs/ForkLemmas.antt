-- A child that the code makes is made in what its state means.
use Rattle.std.specs.FinMap as map
use Rattle.std.proofs.Common.{◌≡◌, ℕ, zero, suc, ◌+◌, ◌≤◌, ◌<◌, ◌^◌, List, [], ◌∷◌, ◌++◌, get_or, refl, sym, ap, subst, ◌∙◌, false, arith, Option, Some, None}
use Rattle.std.specs.Prelude.{map as map_list, slice_set, IfSome, IsSome, sum}
use Rattle.std.specs.List.{AllByRecursion}
use Rattle.std.specs.Option.{option_map, option_map_or, option_and_then}
use Rattle.law_lawful.proofs.pr_base.MapLemmas.{get-mapped}
use Rattle.law_lawful.specs.rv_mem.Memory.{Memory, page_count}
use Rattle.law_lawful.specs.rv_mem.declared.regs.Regs.{Regs}
use Rattle.law_lawful.specs.kr_tree.Tree.{Tree, inode}
use Rattle.law_lawful.specs.kr_tree.Holds.{holds_at}
use Rattle.law_lawful.specs.kr_tree.declared.place.Place.{Place}
use Rattle.law_lawful.specs.kr_files.declared.descs.Descriptor.{Descriptor}
use Rattle.law_lawful.specs.kr_files.declared.opened.Opened.{Opened}
use Rattle.law_lawful.specs.kr_files.Descriptors.{Descriptors, Named, meanings}
use Rattle.law_lawful.specs.kr_files.Files.{Kept, Table, FitsCopies, NamesOpenFiles, file_at, on_table, with_copies}
use Rattle.law_lawful.proofs.kr_files.CountLemmas.{below_small}
use Rattle.law_lawful.specs.kr_model.Applied.{Mounts, images, applied, child_of, child_regs, forked_from, held_at, held_for, told}
use Rattle.law_lawful.specs.kr_model.Change.{Birth, Fork}
use Rattle.law_lawful.specs.kr_model.Known.{pages_in_all}
use Rattle.law_lawful.specs.kr_model.State as model
use Rattle.law_lawful.specs.kr_model.State.{image_layout, inode_of, place_of}
use Rattle.law_lawful.proofs.kr_model.BareLemmas.{mapped-append}
use Rattle.law_lawful.proofs.SumLemmas.{sum-end}
use Rattle.kr_ops.specs.declared.state.Process.{Process}
use Rattle.kr_ops.specs.declared.state.State.{State}
use Rattle.kr_ops.specs.Living.{HasPid}
use Rattle.kr_ops.specs.Meaning.{meaning, process_meaning}
use Rattle.kr_ops.specs.Sound.{IsServed, IsSound}
use Rattle.kr_ops.proofs.ChangeLemmas.{to_named}
use Rattle.kr_ops.proofs.CloseLemmas.{place_at}
use Rattle.kr_ops.proofs.OpeningLemmas.{found, held-is-there}
use Rattle.kr_ops.proofs.PageLemmas.{own-pages, with_mem}
use Rattle.kr_ops.proofs.ServeLemmas.{names-kept, names-still, pages-counted, pages_of, set-same}
use Rattle.kr_ops.proofs.UseLemmas.{holds-held-most, holds-held-least, counts-fit}

module _ {T : Type 0} where
  -- ---- a hold for each descriptor

  -- what a descriptor means stands where the descriptor leads
  same-place : (f : Kept T) (d : Descriptors) (fd : ℕ) → option_and_then (λ (x : Named). place_of f.table x.number) (map.get (meanings d) fd) ≡ place_at f d fd
  same-place f d fd = ap (option_and_then (λ (x : Named). place_of f.table x.number)) (get-mapped (λ n x. to_named x) d fd) ∙ by (map.get d fd)
    where
      by : (o : Option Descriptor) → option_and_then (λ (x : Named). place_of f.table x.number) (option_map to_named o)
          ≡ option_and_then (λ (o : Opened T). o.place) (option_and_then (λ (x : Descriptor). file_at f.table x.number) o)
      by None = refl
      by (Some x) = refl

  pub none-held : (f : Kept T) (d : Descriptors) (t : Tree) → t ≡ held_for (meanings d) f.table 0 t
  unfolding held_for
  none-held f d t = refl

  pub next-held : (f : Kept T) (d : Descriptors) (fd : ℕ) (t u v : Tree) (place : Option (Place T)) → u ≡ held_for (meanings d) f.table fd t → place ≡ place_at f d fd → v ≡ held_at place u → v ≡ held_for (meanings d) f.table (fd + 1) t
  unfolding held_for
  next-held f d fd t u v place before at after =
      let next : suc fd ≡ fd + 1 = omega arith in
      after ∙ ap (held_at place) before ∙ ap (λ o. held_at o (held_for (meanings d) f.table fd t)) (at ∙ sym (same-place f d fd)) ∙ ap (λ n. held_for (meanings d) f.table n t) next

  -- each hold adds one at most, and takes none away
  more-for : (d : _) (f : Table T) (n i : ℕ) (t : Tree) → (holds_at t i ≤ holds_at (held_for d f n t) i) × (holds_at (held_for d f n t) i ≤ holds_at t i + n)
  unfolding held_for
  more-for d f zero i t = (omega arith, omega arith)
  more-for d f (suc n) i t =
      let rest = more-for d f n i t in
      let place = option_and_then (λ (x : Named). place_of f x.number) (map.get d n) in
      let most = holds-held-most place (held_for d f n t) i in
      let least = holds-held-least place (held_for d f n t) i in
      (omega arith, omega arith)

  pub still-for : (d : _) (f : Table T) (n : ℕ) (t u : Tree) (o : Option (Place T)) → u ≡ held_for d f n t → IfSome o (λ p. 0 < holds_at t (inode_of p.host)) → IfSome o (λ p. 0 < holds_at u (inode_of p.host))
  still-for d f n t u None is h = tt
  still-for d f n t u (Some p) is h = subst (λ u. 0 < holds_at u (inode_of p.host)) (sym is) (let more = more-for d f n (inode_of p.host) t in omega arith)

  pub there-for : (d : _) (f : Table T) (n : ℕ) (t u : Tree) (o : Option (Place T)) → u ≡ held_for d f n t → IfSome o (λ p. 0 < holds_at t (inode_of p.host)) → IfSome o (λ p. IsSome (inode u (inode_of p.host)))
  there-for d f n t u o is h = held-is-there u o (still-for d f n t u o is h)

  pub fits-for : (d : _) (f : Table T) (n : ℕ) (t u : Tree) (o : Option (Place T)) → u ≡ held_for d f n t → n ≤ 1024 → ((i : ℕ) → holds_at t i + 2048 < 2 ^ 32) → IfSome o (λ p. holds_at u (inode_of p.host) + 1 < 2 ^ 32)
  fits-for d f n t u None is few fits = tt
  fits-for d f n t u (Some p) is few fits =
      subst (λ u. holds_at u (inode_of p.host) + 1 < 2 ^ 32) (sym is) (let more = more-for d f n (inode_of p.host) t in let room = fits (inode_of p.host) in omega arith)

  -- room for one more behind the descriptors
  pub room-for : (d : _) (f : Table T) (t : Tree) → ((i : ℕ) → holds_at t i + 2048 < 2 ^ 32) → (i : ℕ) → holds_at (held_for d f 1024 t) i + 2 < 2 ^ 32
  room-for d f t fits i = let more = more-for d f 1024 i t in let room = fits i in omega arith

-- ---- one more at the end of a list

pub pushed : {A : Type 0} (ps qs rs : List A) (x : A) → rs ≡ qs ++ x ∷ [] → qs ≡ ps → rs ≡ ps ++ x ∷ []
pushed ps qs rs x more same = more ∙ ap (λ xs. xs ++ x ∷ []) same

all-end : {A : Type 0} (P : A → Type 0) (xs : List A) (x : A) → AllByRecursion P xs → P x → AllByRecursion P (xs ++ x ∷ [])
all-end P [] x all here = (here, tt)
all-end P (y ∷ ys) x all here = (all.0, all-end P ys x all.1 here)

sum-mapped : {A : Type 0} (f : A → ℕ) (xs : List A) (x : A) → sum (map_list f (xs ++ x ∷ [])) ≡ sum (map_list f xs) + f x
sum-mapped f xs x = ap sum (mapped-append f xs (x ∷ [])) ∙ sum-end (map_list f xs) (f x)

module _ {T : Type 0} {M : ℕ} where
  -- ---- files

  pub copies-fit : (s : State T M) → IsSound s → (d : Descriptors) → FitsCopies s.files d
  copies-fit s sound d n h e = let room = counts-fit s sound n h e in let few = below_small (meanings d) n 1024 in omega arith

  -- ---- the list of the living

  -- a process whose memory was copied, and so left as it was
  pub list-before : (ps : List (Process T M)) (k : ℕ) (p : Process T M) (m : Memory) → m ≡ p.mem → p ≡ get_or ps k p → slice_set ps k (with_mem p m) ≡ ps
  list-before ps k p m same e = ap (λ m. slice_set ps k (with_mem p m)) same ∙ set-same ps k p e

  pub as-before : (ps : List (Process T M)) (k : ℕ) (p q : Process T M) (m : Memory) → m ≡ p.mem → p ≡ get_or ps k p → q ≡ get_or (slice_set ps k (with_mem p m)) k q → q ≡ get_or ps k q
  as-before ps k p q m same e is = is ∙ ap (λ xs. get_or xs k q) (list-before ps k p m same e)

  abbrev pub child : ℕ → ℕ → Regs → Memory → Descriptors → List ℕ → Process T M → Process T M
  child pid parent regs mem descs name p = record {
    pid = pid;
    parent = parent;
    regs = regs;
    mem = mem;
    brk_start = p.brk_start;
    brk = p.brk;
    descs = descs;
    cwd = p.cwd;
    exe = p.exe;
    exe_dir = p.exe_dir;
    exe_name = name;
    umask = p.umask;
    waits = false;
  }

  -- the room with one process more, which has as many pages as its memory
  room-end : (ps : List (Process T M)) (before after : ℕ) (q : Process T M) → before ≡ pages_in_all image_layout (map_list process_meaning ps) → after ≡ before + pages_of q
      → after ≡ pages_in_all image_layout (map_list process_meaning (ps ++ q ∷ []))
  room-end ps before after q is more =
      let all = pages-counted ps in
      let new = pages-counted (ps ++ q ∷ []) in
      let sums = sum-mapped pages_of ps q in
      omega arith

  -- what the code keeps beside what a state means, with a child more
  pub born-served : (s : State T M) → IsServed s → (files : Kept T) (q : Process T M) (ps : List (Process T M)) (room : ℕ) → files.keys ≡ s.files.keys → ps ≡ s.living.items ++ q ∷ [] → NamesOpenFiles s.files q.descs
      → room ≡ s.room + page_count q.mem.pages → AllByRecursion (λ (p : Process T M). NamesOpenFiles files p.descs) ps × (room ≡ pages_in_all image_layout (map_list process_meaning ps))
  born-served s served files q ps room keys is names more =
      let own = own-pages q in
      subst (λ (ps : List (Process T M)). AllByRecursion (λ (p : Process T M). NamesOpenFiles files p.descs) ps × (room ≡ pages_in_all image_layout (map_list process_meaning ps))) (sym is) (
        all-end (λ (p : Process T M). NamesOpenFiles files p.descs) s.living.items q (names-still s.files files (names-kept s.files files keys) s.living.items served.files) (names-kept s.files files keys q.descs names),
        room-end s.living.items s.room room q served.room (omega arith),
      )

  -- what a state means with a child more
  abbrev pub born_state : State T M → Tree → Table T → List (Process T M) → ℕ → model.State T model.Image
  born_state s tree files living next = record {
    tree = tree;
    user = (meaning s).user;
    files = files;
    input = (meaning s).input;
    taken = (meaning s).taken;
    out = (meaning s).out;
    err = (meaning s).err;
    living = map_list process_meaning living;
    ended = (meaning s).ended;
    next_pid = next;
  }

  module _ (s : State T M) (pid k : ℕ) (p : Process T M) (sound : IsSound s) (h : HasPid pid k s.living.items) (e : p ≡ get_or s.living.items k p) where
    pub born-means : (mounts : Mounts T) (sp : ℕ) (told_at : Option ℕ) (regs : Regs) (mem : Memory) (descs : Descriptors) (name : List ℕ) (one two three : Tree) (files : Kept T) (number parent next : ℕ)
        → parent ≡ pid → p.pid ≡ pid → next ≡ number + 1
        → regs ≡ child_regs sp p.regs → mem ≡ record { pages = told number told_at p.mem.pages; read_marked = false } → descs ≡ p.descs → name ≡ p.exe_name
        → one ≡ held_for (meanings p.descs) s.files.table 1024 s.tree → two ≡ held_at (Some p.cwd) one → three ≡ held_at (Some p.exe) two
        → files ≡ on_table (with_copies (meanings p.descs)) s.files
        → born_state s three files.table (s.living.items ++ child number parent regs mem descs name p ∷ []) next ≡ applied images mounts pid (Fork (record { pid = number; sp = sp; told_at = told_at })) (meaning s)
    born-means mounts sp told_at regs mem descs name one two three files number parent next parents own nexts regs_is mem_is descs_is name_is ones twos threes tables =
        let b : Birth = record { pid = number; sp = sp; told_at = told_at } in
        let root = threes ∙ ap (held_at (Some p.exe)) (twos ∙ ap (held_at (Some p.cwd)) ones) in
        let table : files.table ≡ with_copies (meanings p.descs) s.files.table = ap (λ (f : Kept T). f.table) tables in
        let meant : process_meaning (child number parent regs mem descs name p) ≡ child_of images b (process_meaning p) = λ j. record {
          pid = number;
          parent = (parents ∙ sym own) j;
          image = record { regs = regs_is j; memory = mem_is j };
          brk_start = p.brk_start;
          brk = p.brk;
          descs = meanings (descs_is j);
          cwd = p.cwd;
          exe = p.exe;
          exe_dir = p.exe_dir;
          exe_name = name_is j;
          umask = p.umask;
          waits = false;
        } in
        let lists : map_list process_meaning (s.living.items ++ child number parent regs mem descs name p ∷ []) ≡ (meaning s).living ++ child_of images b (process_meaning p) ∷ [] =
        mapped-append process_meaning s.living.items (child number parent regs mem descs name p ∷ []) ∙ ap (λ q. (meaning s).living ++ q ∷ []) meant in
        let all : born_state s three files.table (s.living.items ++ child number parent regs mem descs name p ∷ []) next ≡ forked_from images b (process_meaning p) (meaning s) = λ j. record {
          tree = root j;
          user = (meaning s).user;
          files = table j;
          input = (meaning s).input;
          taken = (meaning s).taken;
          out = (meaning s).out;
          err = (meaning s).err;
          living = lists j;
          ended = (meaning s).ended;
          next_pid = nexts j;
        } in
        all ∙ sym (ap (λ (o : Option (model.Process T model.Image)). option_map_or (λ q. forked_from images b q (meaning s)) o (meaning s)) (found s pid k p sound h e))
