-- What makes a state lawful, part by part: its tree, what is open, what lives, and the sums of its uses.
use Rattle.std.specs.FinMap as map
use Rattle.std.proofs.Common.{◌≡◌, subst, ℕ, ◌+◌, ◌≤◌, ◌<◌, Bool, true, false, List, length, refl, sym, ap, ◌∙◌, arith, cond, Option, Some, None, IsSome}
use Rattle.std.specs.Prelude.{map as map_list, ◌==◌, sum}
use Rattle.std.specs.List.{find, list_any}
use Rattle.std.specs.Option.{option_map, option_map_or, option_and_then}
use Rattle.kr_model.specs.kr_tree.Tree.{Tree, Inode, inode}
use Rattle.kr_model.specs.kr_tree.Lawful.{IsKept}
use Rattle.kr_model.specs.kr_tree.Holds.{holds_at}
use Rattle.kr_model.specs.kr_tree.declared.place.Host.{Host}
use Rattle.kr_model.specs.kr_tree.declared.place.Host.TheVariants.{Node, Proc}
use Rattle.kr_model.specs.kr_tree.declared.place.Place.{Place}
use Rattle.kr_model.proofs.kr_tree.NameLemmas.{some_is}
use Rattle.kr_model.specs.kr_view.View.{Row, is_there}
use Rattle.kr_model.specs.kr_view.Component.{is_processes}
use Rattle.kr_model.specs.kr_view.InTree.{IsObjectOf}
use Rattle.kr_model.specs.kr_view.Leads.{numbered}
use Rattle.kr_model.specs.kr_files.declared.opened.Opened.{Opened}
use Rattle.kr_model.specs.kr_files.Descriptors.{Meanings, Named, named_count}
use Rattle.kr_model.specs.kr_files.Files.{Table, Counted, file_at}
use Rattle.kr_model.specs.Bare.{pins_of}
use Rattle.kr_model.specs.Known.{pages_in_all}
use Rattle.kr_model.specs.Lawful.{IsLawful, IsProcessIn, IsOpenIn, HasPipes, ArePids, RiseFrom}
use Rattle.kr_model.specs.MemoryRows.{all_pages}
use Rattle.kr_model.specs.ProcessRows.{most_processes}
use Rattle.kr_model.specs.State.{Image, image_layout, Process, State, Ended, inode_of, process, is_pid, with_process, with_descs}
use Rattle.kr_model.specs.Uses.{process_use, process_uses, names_of_file, AreUses}
use Rattle.law_lawful.specs.Holding.{AreHeld}
use Rattle.law_lawful.proofs.SumLemmas.{same-test}
use Rattle.law_lawful.proofs.HoldingLemmas.{used_is_held}
use Rattle.law_lawful.proofs.StandingLemmas.{HeldStay, still, place-still, mounts-still, stay-same, held-all}
use Rattle.law_lawful.proofs.TreeChangeLemmas.{Leaves}
use Rattle.law_lawful.proofs.ProcessChangeLemmas.{same-mapped, as-long, some-mapped, found, each-found, pids-same, sum-with}
use Rattle.law_lawful.proofs.FileChangeLemmas.{Files, AllOpened}

pub some-of : {A : Type 0} (o : Option A) → IsSome o → (x : A) × (o ≡ Some x)
some-of None h = absurd cc
some-of (Some x) h = (x, refl)

pub is-some : {A : Type 0} (o : Option A) (x : A) → o ≡ Some x → IsSome o
is-some o x e = subst (λ o. IsSome o) (sym e) refl

-- an object of a tree is there
pub object-there : (t : Tree) (h : Host) → IsObjectOf t h → IsSome (inode t (inode_of h))
object-there t (Node i) object = by (inode t i) object
  where
    by : (o : Option Inode) → is_there o ≡ true → IsSome o
    by None e = absurd cc
    by (Some x) e = refl
object-there t (Proc i at) object = by (inode t i) object
  where
    by : (o : Option Inode) → option_map_or (λ (x : Inode). is_processes x.node.body) o false ≡ true → IsSome o
    by None e = absurd cc
    by (Some x) e = refl

module _ {M : Type 0} where
  -- each descriptor of a process is below 1,024 and names an open file
  pub record NamesFiles (files : Files M) (p : Process M Image) : Type 0 where
    pub each : (fd : ℕ) (x : Named) → map.get p.descs fd ≡ Some x → (fd < 1024) × IsSome (map.get files x.number)

module _ {M : Type 0} (number : M → ℕ) (table : List Row) where
  -- what lives and what is open, with places that stand in a tree
  pub record Parts (t : Tree) (files : Table M) (living : List (Process M Image)) : Type 0 where
    pub processes : (pid : ℕ) (p : Process M Image) → find (is_pid pid) living ≡ Some p → IsProcessIn number t table p
    pub descriptors : (pid : ℕ) (p : Process M Image) → find (is_pid pid) living ≡ Some p → NamesFiles files.files p
    pub opens : AllOpened (IsOpenIn number t table) files.files
    pub pipes : HasPipes files

  pub parts-of : (s : State M Image) → IsLawful number table s → Parts s.tree s.files s.living
  parts-of s l = record {
    processes = l.processes;
    descriptors = λ pid p e. record {
      each = λ fd x at.
          let own = l.descriptors pid fd x (ap (option_and_then (λ (p : Process M Image). map.get p.descs fd)) e ∙ at) in
          (own.0, of-file (map.get s.files.files x.number) own.1);
    };
    opens = record { each = λ n h e. l.files n h.opened (ap (option_map (λ (h : Counted M). h.opened)) e) };
    pipes = l.pipes;
  }
    where
      of-file : (o : Option (Counted M)) → IsSome (option_map (λ (h : Counted M). h.opened) o) → IsSome o
      of-file None h = h
      of-file (Some x) h = refl

  -- ---- places

  process-still : (t u : Tree) → HeldStay t.inodes u.inodes → (p : Process M Image) → 0 < holds_at u (inode_of p.cwd.host) → 0 < holds_at u (inode_of p.exe.host) → IsProcessIn number t table p → IsProcessIn number u table p
  process-still t u stay p cwd exe before = record {
    cwd = (place-still t u stay table (numbered number p.cwd) cwd before.cwd.0, (still t u stay p.cwd.host cwd).directory ∙ before.cwd.1);
    exe = (place-still t u stay table (numbered number p.exe) exe before.exe.0, (still t u stay p.exe.host exe).file ∙ before.exe.1);
    exe_name = before.exe_name;
    breaks = before.breaks;
    whole = before.whole;
    paged = before.paged;
    pages = before.pages;
  }

  open-still : (t u : Tree) → HeldStay t.inodes u.inodes → (o : Opened M) → ((p : Place M) → o.place ≡ Some p → 0 < holds_at u (inode_of p.host)) → IsOpenIn number t table o → IsOpenIn number u table o
  open-still t u stay o held before = record {
    placed = λ p e.
        let some = held p e in
        let own = before.placed p e in
        (place-still t u stay table (numbered number p) some own.0, (still t u stay p.host some).directory ∙ own.1, (still t u stay p.host some).file ∙ own.2);
    files = before.files;
    directories = before.directories;
    others = before.others;
    name = before.name;
  }

  -- a state is lawful, where its uses are counted, its places stood in the tree before it, and its tree keeps what is held
  pub lawful-after : (s : State M Image) → IsLawful number table s → (t : State M Image) → Leaves table s.tree t.tree → Parts s.tree t.files t.living → AreUses (pins_of table) t
      → pages_in_all image_layout t.living ≤ all_pages → ArePids t → t.taken ≤ length t.input → IsLawful number table t
  lawful-after s l t leaves parts uses room pids input = record {
    tree = leaves.kept;
    mounts = mounts-still s.tree t.tree table l.mounts leaves.stay held.pinned leaves.points;
    processes = λ pid p e. process-still s.tree t.tree leaves.stay p (cwd-held pid p e) (exe-held pid p e) (parts.processes pid p e);
    files = λ n o e. by-file n o (map.get t.files.files n) refl e;
    pipes = parts.pipes;
    descriptors = λ pid fd x e. by-process pid fd x (process pid t) refl e;
    uses = uses;
    room = room;
    pids = pids;
    input = input;
  }
    where
      held : AreHeld (pins_of table) t
      held = used_is_held M Image (pins_of table) t uses

      cwd-held : (pid : ℕ) (p : Process M Image) → process pid t ≡ Some p → 0 < holds_at t.tree (inode_of p.cwd.host)
      cwd-held pid p e =
          let i : ℕ = inode_of p.cwd.host in
          let least = held.lives pid i p e in
          let one : cond {A = ℕ} (i == i) 1 0 ≡ 1 = ap (λ b. cond {A = ℕ} b 1 0) (same-test i i refl) in
          omega arith

      exe-held : (pid : ℕ) (p : Process M Image) → process pid t ≡ Some p → 0 < holds_at t.tree (inode_of p.exe.host)
      exe-held pid p e =
          let i : ℕ = inode_of p.exe.host in
          let least = held.lives pid i p e in
          let one : cond {A = ℕ} (i == i) 1 0 ≡ 1 = ap (λ b. cond {A = ℕ} b 1 0) (same-test i i refl) in
          omega arith

      by-file : (n : ℕ) (o : Opened M) (f : Option (Counted M)) → map.get t.files.files n ≡ f → option_map (λ (h : Counted M). h.opened) f ≡ Some o → IsOpenIn number t.tree table o
      by-file n o None is e = absurd cc
      by-file n o (Some h) is e =
          let same : h.opened ≡ o = some_is h.opened o e in
          subst (IsOpenIn number t.tree table) same
          (open-still s.tree t.tree leaves.stay h.opened
          (λ p at. held.open_ n p (ap (λ (f : Option (Counted M)). option_and_then (λ (o : Opened M). o.place) (option_map (λ (h : Counted M). h.opened) f)) is ∙ at))
          (parts.opens.each n h is))

      file-there : (o : Option (Counted M)) → IsSome o → IsSome (option_map (λ (h : Counted M). h.opened) o)
      file-there None h = h
      file-there (Some x) h = refl

      by-process : (pid fd : ℕ) (x : Named) (o : Option (Process M Image)) → process pid t ≡ o → option_and_then (λ (p : Process M Image). map.get p.descs fd) o ≡ Some x → (fd < 1024) × IsSome (file_at t.files x.number)
      by-process pid fd x None is e = absurd cc
      by-process pid fd x (Some p) is e =
          let own = (parts.descriptors pid p is).each fd x e in
          (own.0, file-there (map.get t.files.files x.number) own.1)

  -- the tree itself
  pub leaves-itself : (t : Tree) → IsKept t → Leaves table t t
  leaves-itself t h = record { kept = h; stay = held-all (stay-same t.inodes); points = record { each = λ dir name passed listed there. (listed, there) } }

  -- ---- one process changed

  -- what holds of all but one, and of that one after it changed
  pub parts-with : (t : Tree) (files : Table M) (living : List (Process M Image)) (pid : ℕ) (f : Process M Image → Process M Image) → ((p : Process M Image) → (f p).pid ≡ p.pid)
      → Parts t files living
      → ((p : Process M Image) → find (is_pid pid) living ≡ Some p → IsProcessIn number t table (f p))
      → ((p : Process M Image) → find (is_pid pid) living ≡ Some p → NamesFiles files.files (f p))
      → Parts t files (with_process pid f living)
  parts-with t files living pid f pids parts own names = record {
    processes = each-found pid f pids (IsProcessIn number t table) living parts.processes own;
    descriptors = each-found pid f pids (NamesFiles files.files) living parts.descriptors names;
    opens = parts.opens;
    pipes = parts.pipes;
  }

module _ {M X : Type 0} where
  -- the pids of a list of which one process changed
  pub pids-with : (s t : State M X) (pid : ℕ) (f : Process M X → Process M X) → ((p : Process M X) → (f p).pid ≡ p.pid) → t.living ≡ with_process pid f s.living → t.ended ≡ s.ended → t.next_pid ≡ s.next_pid → ArePids s → ArePids t
  pids-with s t pid f pids living ended next are = record {
    living = subst (λ ps. RiseFrom 2 t.next_pid (map_list (λ p. p.pid) ps)) (sym living)
        (subst (λ n. RiseFrom 2 n (map_list (λ p. p.pid) (with_process pid f s.living))) (sym next) (subst (λ ns. RiseFrom 2 s.next_pid ns) (sym (pids-same pid f pids s.living)) are.living));
    ended = subst (λ es. RiseFrom 2 t.next_pid (map_list (λ e. e.pid) es)) (sym ended) (subst (λ n. RiseFrom 2 n (map_list (λ e. e.pid) s.ended)) (sym next) are.ended);
    apart = λ q h. subst (λ es. list_any (λ (e : Ended). e.pid == q) es ≡ false) (sym ended)
        (are.apart q (some-mapped _ (process q s) (subst (λ o. IsSome o) (found pid f pids q s.living) (subst (λ ps. IsSome (find (is_pid q) ps)) living h))));
    few = subst (λ ps. length ps + length t.ended ≤ most_processes) (sym living) (subst (λ es. length (with_process pid f s.living) + length es ≤ most_processes) (sym ended)
        (let long = as-long (λ (p : Process M X). cond (p.pid == pid) (f p) p) s.living in let few = are.few in omega arith));
  }

  -- ---- descriptors of one process changed

  pub uses-descs : (pid i : ℕ) (f : Meanings → Meanings) (ps : List (Process M X)) → process_uses (with_process pid (with_descs f) ps) i ≡ process_uses ps i
  uses-descs pid i f ps = ap sum (same-mapped (process_use i) (λ (p : Process M X). cond (p.pid == pid) (with_descs f p) p) (λ p. by p (p.pid == pid)) ps)
    where
      by : (p : Process M X) (b : Bool) → process_use i (cond b (with_descs f p) p) ≡ process_use i p
      by p true = refl
      by p false = refl

  pub names-descs : (next pid : ℕ) (f : Meanings → Meanings) (ps : List (Process M X)) (p : Process M X) → RiseFrom 2 next (map_list (λ p. p.pid) ps) → find (is_pid pid) ps ≡ Some p
      → (n : ℕ) → names_of_file n (with_process pid (with_descs f) ps) + named_count p.descs n ≡ names_of_file n ps + named_count (f p.descs) n
  names-descs next pid f ps p rise e n = sum-with pid (with_descs f) (λ p. refl) (λ p. named_count p.descs n) next 2 ps p rise e

-- the pages of all stay, where each process keeps its own
pub pages-same : {M : Type 0} (pid : ℕ) (f : Process M Image → Process M Image) → ((p : Process M Image) → image_layout (f p).image ≡ image_layout p.image) → (ps : List (Process M Image)) → pages_in_all image_layout (with_process pid f ps) ≡ pages_in_all image_layout ps
pages-same {M} pid f same ps = ap sum (same-mapped (λ (p : Process M Image). map.len (image_layout p.image)) (λ (p : Process M Image). cond (p.pid == pid) (f p) p) (λ p. by p (p.pid == pid)) ps)
  where
    by : (p : Process M Image) (b : Bool) → map.len (image_layout (cond b (f p) p).image) ≡ map.len (image_layout p.image)
    by p true = ap (λ m. map.len m) (same p)
    by p false = refl
