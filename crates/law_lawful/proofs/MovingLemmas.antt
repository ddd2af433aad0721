-- Another working directory, another executable, and names that are removed and moved keep a lawful state.
use Rattle.std.specs.FinMap as map
use Rattle.std.proofs.Common.{◌≡◌, ◌≢◌, ℕ, suc, ◌+◌, ◌≤◌, ◌<◌, Bool, true, false, not, ◌&&◌, List, [], length, refl, sym, ap, subst, ◌∙◌, cond, arith, Option, Some, None, IsSome}
use Rattle.std.specs.Prelude.{map as map_list, ◌==◌, sum, bytes_eq}
use Rattle.std.specs.List.{find}
use Rattle.std.specs.Option.{option_map, option_map_or}
use Rattle.kr_model.specs.pr_base.Maps.{mapped}
use Rattle.kr_model.specs.pr_base.Paths.{IsName}
use Rattle.kr_model.proofs.pr_base.MapLemmas.{get-mapped}
use Rattle.kr_model.proofs.kr_inode.NameLemmas.{name_decides}
use Rattle.kr_model.specs.kr_tree.Tree.{Tree, inode}
use Rattle.kr_model.specs.kr_tree.Changes as tree
use Rattle.kr_model.specs.kr_tree.declared.place.Host.{Host}
use Rattle.kr_model.specs.kr_tree.declared.place.Place.{Place}
use Rattle.kr_model.proofs.kr_tree.NameLemmas.{some_is}
use Rattle.kr_model.specs.kr_view.View.{Row}
use Rattle.kr_model.specs.kr_files.declared.opened.Opened.{Opened}
use Rattle.kr_model.specs.kr_files.Descriptors.{Named, named_count}
use Rattle.kr_model.specs.kr_files.Files.{Counted, on_opened, with_all_opened}
use Rattle.kr_model.specs.kr_files.Opened.{remembers, nameless, named_at, after_removal, after_rename}
use Rattle.kr_model.specs.Applied.{Mounts, released_at, with_tree, with_files, with_living, with_cwd, with_exe, moved_to, executed, exe_remembers, with_exe_name, exe_after_removal, exe_after_rename}
use Rattle.kr_model.specs.Change.{RemoveName, MoveName, ChangeDirectory, ReplaceExecutable, MountOf}
use Rattle.kr_model.specs.Conditions.{KeepsLawful}
use Rattle.kr_model.specs.Known.{pages_in_all}
use Rattle.kr_model.specs.Lawful.{IsLawful, IsProcessIn, IsOpenIn, RiseFrom}
use Rattle.kr_model.specs.State.{Image, image_layout, Process, State, inode_of, process, is_pid, at_pid, with_process}
use Rattle.kr_model.specs.Uses.{at_inode, uses_of, file_uses, process_use, process_uses, names_of_file}
use Rattle.kr_model.proofs.BareLemmas.{found-mapped}
use Rattle.law_lawful.specs.Holding.{one_at}
use Rattle.law_lawful.proofs.SumLemmas.{sum-same}
use Rattle.law_lawful.proofs.HoldingLemmas.{holds-held}
use Rattle.law_lawful.proofs.TreeChangeLemmas.{Still, still-on, still-leaves, held-still}
use Rattle.law_lawful.proofs.TreeShapeLemmas.{LeavesHolds}
use Rattle.law_lawful.proofs.NameChangeLemmas.{remove-leaves, move-leaves}
use Rattle.law_lawful.proofs.ProcessChangeLemmas.{same-mapped, as-long, some-mapped, sum-with}
use Rattle.law_lawful.proofs.CountLemmas.{released-uses}
use Rattle.law_lawful.proofs.FileChangeLemmas.{Files, some-mapped as some-file, what-mapped, pipes-stay}
use Rattle.law_lawful.proofs.AfterLemmas.{some-of, object-there, NamesFiles, parts-of, parts-with, lawful-after, pids-with, pages-same}
use Rattle.law_lawful.proofs.DescriptorChangeLemmas.{released-at-still}

module _ {M : Type 0} (number : M → ℕ) (table : List Row) where
  -- ---- one process stands elsewhere

  -- a process changed in where it stands or what it executes
  pub record Stands (f : Process M Image → Process M Image) : Type 0 where
    pub pids : (p : Process M Image) → (f p).pid ≡ p.pid
    pub descs : (p : Process M Image) → (f p).descs ≡ p.descs
    pub images : (p : Process M Image) → (f p).image ≡ p.image

  module _ (s : State M Image) (l : IsLawful number table s) (pid : ℕ) (p : Process M Image) (e : process pid s ≡ Some p) (f : Process M Image → Process M Image) (stands : Stands f)
      (host : Host) (old : Place M) (there : IsSome (inode s.tree (inode_of host))) where
    abbrev held_tree : Tree
    held_tree = tree.held (inode_of host) s.tree

    -- the new place is held before the old one is released
    abbrev elsewhere : Option (Place M) → State M Image
    elsewhere place = record {
      tree = released_at place held_tree;
      user = s.user;
      files = s.files;
      input = s.input;
      taken = s.taken;
      out = s.out;
      err = s.err;
      living = with_process pid f s.living;
      ended = s.ended;
      next_pid = s.next_pid;
    }

    names-alike : (n : ℕ) → names_of_file n (with_process pid f s.living) ≡ names_of_file n s.living
    names-alike n = ap sum (same-mapped (λ (q : Process M Image). named_count q.descs n) (at_pid pid f) (λ q. by q (q.pid == pid)) s.living)
      where
        by : (q : Process M Image) (b : Bool) → named_count (cond b (f q) q).descs n ≡ named_count q.descs n
        by q true = ap (λ d. named_count d n) (stands.descs q)
        by q false = refl

    pub stands-elsewhere : ((i : ℕ) → process_use i (f p) + at_inode i 1 (Some old) ≡ process_use i p + one_at (inode_of host) i)
        → ((q : Process M Image) → process pid s ≡ Some q → IsProcessIn number s.tree table (f q)) → IsLawful number table (elsewhere (Some old))
    stands-elsewhere shifted fits =
        let t : State M Image = elsewhere (Some old) in
        let parts = parts-of number table s l in
        let held = held-still table s.tree (inode_of host) l.tree in
        let still : Still table s.tree t.tree = still-on held (released-at-still table held_tree held.kept (Some old)) in
        lawful-after number table s l t (still-leaves table s.tree t.tree still)
        (parts-with number table s.tree s.files s.living pid f stands.pids parts fits
        (λ q at. let own = parts.descriptors pid q at in record { each = subst (λ d. (fd : ℕ) (x : Named) → map.get d fd ≡ Some x → (fd < 1024) × IsSome (map.get s.files.files x.number)) (sym (stands.descs q)) own.each }))
        (record {
          holds = λ i.
              let more = holds-held (inode_of host) s.tree there i in
              let fewer = released-uses held_tree (Some old) i in
              let before = l.uses.holds i in
              let sums = sum-with pid f stands.pids (process_use i) s.next_pid 2 s.living p l.pids.living e in
              let own = shifted i in
              omega arith;
          counts = λ n h at. let before = l.uses.counts n h at in let count = before.0 in let same = names-alike n in (omega arith, before.1);
          numbered = l.uses.numbered;
        })
        (let same = pages-same pid f (λ q. ap image_layout (stands.images q)) s.living in let room = l.room in omega arith)
        (pids-with s t pid f stands.pids refl refl refl l.pids)
        l.input

  module _ (mounts : Mounts M) (pid : ℕ) where
    pub directory-keeps : (from : MountOf) (host : Host) → KeepsLawful number table mounts pid (ChangeDirectory from host)
    directory-keeps from host s l lives can =
        let caller = some-of (process pid s) lives in
        let p : Process M Image = caller.0 in
        let stand = can.0 in
        let place : Place M = record { mount = stand.mount; host = host } in
        subst (λ m. IsLawful number table (option_map_or (λ m. moved_to pid host m s) m s)) (sym stand.taken)
        (subst (λ (o : Option (Process M Image)). IsLawful number table (elsewhere s l pid p caller.1 (with_cwd place) stands host p.cwd (object-there s.tree host stand.stands.object) (option_map (λ (p : Process M Image). p.cwd) o))) (sym caller.1)
        (stands-elsewhere s l pid p caller.1 (with_cwd place) stands host p.cwd (object-there s.tree host stand.stands.object)
        (λ i. omega arith)
        (λ q e. let own = l.processes pid q e in record { cwd = (stand.stands, can.1); exe = own.exe; exe_name = own.exe_name; breaks = own.breaks; whole = own.whole; paged = own.paged; pages = own.pages })))
      where
        stands : {place : Place M} → Stands (with_cwd place)
        stands = record { pids = λ p. refl; descs = λ p. refl; images = λ p. refl }

    pub executable-keeps : (from : MountOf) (host : Host) (dir : ℕ) (name : List ℕ) → KeepsLawful number table mounts pid (ReplaceExecutable from host dir name)
    executable-keeps from host dir name s l lives can =
        let caller = some-of (process pid s) lives in
        let p : Process M Image = caller.0 in
        let stand = can.0 in
        let place : Place M = record { mount = stand.mount; host = host } in
        subst (λ m. IsLawful number table (option_map_or (λ m. executed pid host dir name m s) m s)) (sym stand.taken)
        (subst (λ (o : Option (Process M Image)). IsLawful number table (elsewhere s l pid p caller.1 (with_exe place dir name) stands host p.exe (object-there s.tree host stand.stands.object) (option_map (λ (p : Process M Image). p.exe) o))) (sym caller.1)
        (stands-elsewhere s l pid p caller.1 (with_exe place dir name) stands host p.exe (object-there s.tree host stand.stands.object)
        (λ i. omega arith)
        (λ q e. let own = l.processes pid q e in record { cwd = own.cwd; exe = (stand.stands, can.1); exe_name = can.2; breaks = own.breaks; whole = own.whole; paged = own.paged; pages = own.pages })))
      where
        stands : {place : Place M} → Stands (with_exe place dir name)
        stands = record { pids = λ p. refl; descs = λ p. refl; images = λ p. refl }

  -- ---- all that is remembered changed

  -- a change of each process in the entry of its executable
  pub record KeepsAll (t : Tree) (g : Process M Image → Process M Image) : Type 0 where
    pub pids : (p : Process M Image) → (g p).pid ≡ p.pid
    pub descs : (p : Process M Image) → (g p).descs ≡ p.descs
    pub cwds : (p : Process M Image) → (g p).cwd ≡ p.cwd
    pub exes : (p : Process M Image) → (g p).exe ≡ p.exe
    pub images : (p : Process M Image) → (g p).image ≡ p.image
    pub fits : (p : Process M Image) → IsProcessIn number t table p → IsProcessIn number t table (g p)

  -- and of each open file in its entry
  pub record KeepsOpen (t : Tree) (f : Opened M → Opened M) : Type 0 where
    pub places : (o : Opened M) → (f o).place ≡ o.place
    pub whats : (o : Opened M) → (f o).what ≡ o.what
    pub fits : (o : Opened M) → IsOpenIn number t table o → IsOpenIn number t table (f o)

  module _ (s : State M Image) (l : IsLawful number table s) (h : Tree → Tree) (after : LeavesHolds table s.tree (h s.tree)) (g : Process M Image → Process M Image) (keeps : KeepsAll s.tree g) (f : Opened M → Opened M) (opens : KeepsOpen s.tree f) where
    abbrev all_after : State M Image
    all_after = with_living (map_list g) (with_files (with_all_opened f) (with_tree h s))

    abbrev files_after : Files M
    files_after = mapped (λ n. on_opened f) s.files.files

    found-all : (q : ℕ) → find (is_pid q) (map_list g s.living) ≡ option_map g (find (is_pid q) s.living)
    found-all q = found-mapped g (is_pid q) (is_pid q) (λ p. ap (λ n. n == q) (keeps.pids p)) s.living

    each-process : (P Q : Process M Image → Type 0) → ((p : Process M Image) → P p → Q (g p)) → ((q : ℕ) (p : Process M Image) → find (is_pid q) s.living ≡ Some p → P p) → (q : ℕ) (p : Process M Image) → find (is_pid q) (map_list g s.living) ≡ Some p → Q p
    each-process P Q own all q p e = by (find (is_pid q) s.living) refl (sym (found-all q) ∙ e)
      where
        by : (o : Option (Process M Image)) → find (is_pid q) s.living ≡ o → option_map g o ≡ Some p → Q p
        by None is e = absurd cc
        by (Some x) is e = subst Q (some_is (g x) p e) (own x (all q x is))

    each-file : (P : ℕ → Counted M → Type 0) → ((n : ℕ) (x : Counted M) → P n x → P n (on_opened f x)) → ((n : ℕ) (x : Counted M) → map.get s.files.files n ≡ Some x → P n x) → (n : ℕ) (x : Counted M) → map.get files_after n ≡ Some x → P n x
    each-file P own all n x e = by (map.get s.files.files n) refl (sym (get-mapped (λ n. on_opened f) s.files.files n) ∙ e)
      where
        by : (o : Option (Counted M)) → map.get s.files.files n ≡ o → option_map (on_opened f) o ≡ Some x → P n x
        by None is e = absurd cc
        by (Some y) is e = subst (P n) (some_is (on_opened f y) x e) (own n y (all n y is))

    uses-all : (i : ℕ) → file_uses (with_all_opened f s.files) i ≡ file_uses s.files i
    uses-all i = sum-same (uses_of i) s.files.files files_after (suc s.files.last_file) (λ q below. ap (λ (o : Option (Counted M)). option_map_or (uses_of i) o 0) (get-mapped (λ n. on_opened f) s.files.files q) ∙ by (map.get s.files.files q))
      where
        by : (o : Option (Counted M)) → option_map_or (uses_of i) (option_map (on_opened f) o) 0 ≡ option_map_or (uses_of i) o 0
        by None = refl
        by (Some x) = ap (at_inode i x.count) (opens.places x.opened)

    use-all : (i : ℕ) → process_uses (map_list g s.living) i ≡ process_uses s.living i
    use-all i = ap sum (same-mapped (process_use i) g (λ p. ap (λ c. at_inode i 1 (Some c) + at_inode i 1 (Some (g p).exe)) (keeps.cwds p) ∙ ap (λ e. at_inode i 1 (Some p.cwd) + at_inode i 1 (Some e)) (keeps.exes p)) s.living)

    names-all : (n : ℕ) → names_of_file n (map_list g s.living) ≡ names_of_file n s.living
    names-all n = ap sum (same-mapped (λ (p : Process M Image). named_count p.descs n) g (λ p. ap (λ d. named_count d n) (keeps.descs p)) s.living)

    pages-all : pages_in_all image_layout (map_list g s.living) ≡ pages_in_all image_layout s.living
    pages-all = ap sum (same-mapped (λ (p : Process M Image). map.len (image_layout p.image)) g (λ p. ap (λ m. map.len (image_layout m)) (keeps.images p)) s.living)

    pids-all : map_list (λ (p : Process M Image). p.pid) (map_list g s.living) ≡ map_list (λ (p : Process M Image). p.pid) s.living
    pids-all = same-mapped (λ (p : Process M Image). p.pid) g keeps.pids s.living

    pub all-keep : IsLawful number table all_after
    all-keep =
        let parts = parts-of number table s l in
        lawful-after number table s l all_after after.leaves
        (record {
          processes = each-process (IsProcessIn number s.tree table) (IsProcessIn number s.tree table) keeps.fits parts.processes;
          descriptors = each-process (NamesFiles s.files.files) (NamesFiles files_after) (λ p own. record {
            each = subst (λ d. (fd : ℕ) (x : Named) → map.get d fd ≡ Some x → (fd < 1024) × IsSome (map.get files_after x.number)) (sym (keeps.descs p)) (λ fd x e. let before = own.each fd x e in (before.0, some-file s.files.files (λ n. on_opened f) x.number before.1));
          }) parts.descriptors;
          opens = record { each = each-file (λ n x. IsOpenIn number s.tree table x.opened) (λ n x is. opens.fits x.opened is) parts.opens.each };
          pipes = pipes-stay s.files l.pipes files_after s.files.last_file (what-mapped s.files.files (λ n. on_opened f) (λ n x. opens.whats x.opened));
        })
        (record {
          holds = λ i. let tree = after.held.each i in let files = uses-all i in let processes = use-all i in let before = l.uses.holds i in omega arith;
          counts = each-file (λ n x. (x.count ≡ names_of_file n (map_list g s.living)) × (1 ≤ x.count)) (λ n x is. is)
              (λ n x e. let before = l.uses.counts n x e in let count = before.0 in let same = names-all n in (omega arith, before.1));
          numbered = each-file (λ n x. n ≤ s.files.last_file) (λ n x is. is) l.uses.numbered;
        })
        (let same = pages-all in let room = l.room in omega arith)
        (record {
          living = subst (λ ns. RiseFrom 2 s.next_pid ns) (sym pids-all) l.pids.living;
          ended = l.pids.ended;
          apart = λ q there. l.pids.apart q (some-mapped g (find (is_pid q) s.living) (subst (λ o. IsSome o) (found-all q) there));
          few = let long = as-long g s.living in let few = l.pids.few in omega arith;
        })
        l.input

  -- ---- entries that are remembered

  module _ (t : Tree) where
    removal-opens : (dir : ℕ) (name : List ℕ) → KeepsOpen t (after_removal dir name)
    removal-opens dir name = record {
      places = λ o. by-place o (remembers dir name o);
      whats = λ o. by-what o (remembers dir name o);
      fits = λ o is. by-fit o is (remembers dir name o);
    }
      where
        by-place : (o : Opened M) (b : Bool) → (cond b (nameless o) o).place ≡ o.place
        by-place o true = refl
        by-place o false = refl

        by-what : (o : Opened M) (b : Bool) → (cond b (nameless o) o).what ≡ o.what
        by-what o true = refl
        by-what o false = refl

        by-fit : (o : Opened M) → IsOpenIn number t table o → (b : Bool) → IsOpenIn number t table (cond b (nameless o) o)
        by-fit o is true = record { placed = is.placed; files = is.files; directories = λ e. let own = is.directories e in (own.0, refl, refl); others = is.others; name = λ some. absurd (some refl) }
        by-fit o is false = is

    -- what remembers an entry has a name
    remembers-some : (dir : ℕ) (name : List ℕ) (o : Opened M) → remembers dir name o ≡ true → o.name ≢ []
    remembers-some dir name o e none =
        absurd (let no : remembers dir name o ≡ false = ap (λ (n : List ℕ). not (length n == 0) && (o.dir == dir && bytes_eq n name)) none in cc)

    rename-opens : (dir : ℕ) (name : List ℕ) (to : ℕ) (new : List ℕ) → IsName new → KeepsOpen t (after_rename dir name to new)
    rename-opens dir name to new well =
        let first = removal-opens to new in
        record {
          places = λ o. by-place (after_removal to new o) (remembers dir name (after_removal to new o)) ∙ first.places o;
          whats = λ o. by-what (after_removal to new o) (remembers dir name (after_removal to new o)) ∙ first.whats o;
          fits = λ o is. by-fit (after_removal to new o) (first.fits o is) (remembers dir name (after_removal to new o)) refl;
        }
      where
        by-place : (o : Opened M) (b : Bool) → (cond b (named_at to new o) o).place ≡ o.place
        by-place o true = refl
        by-place o false = refl

        by-what : (o : Opened M) (b : Bool) → (cond b (named_at to new o) o).what ≡ o.what
        by-what o true = refl
        by-what o false = refl

        by-fit : (o : Opened M) → IsOpenIn number t table o → (b : Bool) → remembers dir name o ≡ b → IsOpenIn number t table (cond b (named_at to new o) o)
        by-fit o is true known = record {
          placed = is.placed;
          files = is.files;
          directories = λ e. absurd (remembers-some dir name o known (is.directories e).2);
          others = is.others;
          name = λ _. well;
        }
        by-fit o is false known = is

    exe-removed : (p : Process M Image) → IsProcessIn number t table p → IsProcessIn number t table (with_exe_name 0 [] p)
    exe-removed p is = record { cwd = is.cwd; exe = is.exe; exe_name = λ some. absurd (some refl); breaks = is.breaks; whole = is.whole; paged = is.paged; pages = is.pages }

    exe-renamed : (to : ℕ) (new : List ℕ) → IsName new → (p : Process M Image) → IsProcessIn number t table p → IsProcessIn number t table (with_exe_name to new p)
    exe-renamed to new well p is = record { cwd = is.cwd; exe = is.exe; exe_name = λ _. well; breaks = is.breaks; whole = is.whole; paged = is.paged; pages = is.pages }

    -- the entry of an executable, where a test passes
    entry-keeps : (dir : ℕ) (name : List ℕ) (test : Process M Image → Bool) → ((p : Process M Image) → IsProcessIn number t table p → IsProcessIn number t table (with_exe_name dir name p)) → KeepsAll t (λ p. cond (test p) (with_exe_name dir name p) p)
    entry-keeps dir name test fits = record {
      pids = λ p. part (λ (q : Process M Image). q.pid) p refl (test p);
      descs = λ p. part (λ (q : Process M Image). q.descs) p refl (test p);
      cwds = λ p. part (λ (q : Process M Image). q.cwd) p refl (test p);
      exes = λ p. part (λ (q : Process M Image). q.exe) p refl (test p);
      images = λ p. part (λ (q : Process M Image). q.image) p refl (test p);
      fits = λ p is. by p is (test p);
    }
      where
        part : {A : Type 0} (of : Process M Image → A) (p : Process M Image) → of (with_exe_name dir name p) ≡ of p → (b : Bool) → of (cond b (with_exe_name dir name p) p) ≡ of p
        part of p same true = same
        part of p same false = refl

        by : (p : Process M Image) → IsProcessIn number t table p → (b : Bool) → IsProcessIn number t table (cond b (with_exe_name dir name p) p)
        by p is true = fits p is
        by p is false = is

    keeps-on : (g h : Process M Image → Process M Image) → KeepsAll t g → KeepsAll t h → KeepsAll t (λ p. h (g p))
    keeps-on g h one two = record {
      pids = λ p. two.pids (g p) ∙ one.pids p;
      descs = λ p. two.descs (g p) ∙ one.descs p;
      cwds = λ p. two.cwds (g p) ∙ one.cwds p;
      exes = λ p. two.exes (g p) ∙ one.exes p;
      images = λ p. two.images (g p) ∙ one.images p;
      fits = λ p is. two.fits (g p) (one.fits p is);
    }

  module _ (mounts : Mounts M) (pid : ℕ) where
    pub remove-keeps : (dir : ℕ) (name : List ℕ) → KeepsLawful number table mounts pid (RemoveName dir name)
    remove-keeps dir name s l lives can =
        all-keep s l (tree.removed dir name) (remove-leaves table s.tree l.tree dir name can)
        (exe_after_removal dir name) (entry-keeps s.tree 0 [] (exe_remembers dir name) (exe-removed s.tree))
        (after_removal dir name) (removal-opens s.tree dir name)

    pub move-keeps : (dir : ℕ) (name : List ℕ) (to : ℕ) (new : List ℕ) → KeepsLawful number table mounts pid (MoveName dir name to new)
    move-keeps dir name to new s l lives can =
        let well : IsName new = (name_decides new).0 can.move.well_formed in
        all-keep s l (tree.renamed dir name to new) (move-leaves table s.tree l.tree dir name to new can)
        (exe_after_rename dir name to new)
        (keeps-on s.tree (exe_after_removal to new) (λ p. cond (exe_remembers dir name p) (with_exe_name to new p) p) (entry-keeps s.tree 0 [] (exe_remembers to new) (exe-removed s.tree)) (entry-keeps s.tree to new (exe_remembers dir name) (exe-renamed s.tree to new well)))
        (after_rename dir name to new) (rename-opens s.tree dir name to new well)
