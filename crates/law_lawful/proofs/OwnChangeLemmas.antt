-- Changes of one process, of one open file, of a pipe, of the console and of those that ended keep a lawful state.
use Rattle.std.specs.FinMap as map
use Rattle.std.proofs.Common.{◌≡◌, ℕ, suc, ◌+◌, ◌-◌, ◌≤◌, ◌<◌, Bool, true, false, not, ◌||◌, List, [], ◌∷◌, ◌++◌, length, take, drop, refl, sym, ap, subst, ◌∙◌, cond, arith, Option, Some, None, IsSome, length-append}
use Rattle.std.specs.Prelude.{map as map_list, ◌==◌, sum, IfSome}
use Rattle.std.specs.List.{filter, list_any}
use Rattle.std.specs.Option.{option_map, option_map_or}
use Rattle.std.proofs.lemmas.List.{length-drop, length-take}
use Rattle.std.proofs.lemmas.Bool.{or_parts}
use Rattle.kr_model.specs.pr_base.Maps.{changed}
use Rattle.kr_model.proofs.pr_base.MapLemmas.{by_key, get-changed_same, get-changed_other, stays-changed}
use Rattle.kr_model.specs.rv_mem.Pages.{Pages, IsWhole}
use Rattle.kr_model.proofs.rv_mem.LayoutLemmas.{layouts_follow}
use Rattle.kr_model.proofs.rv_mem.SpaceLemmas.{IsWhole-mapped, IsWhole-unmapped, IsWhole-protected}
use Rattle.kr_model.proofs.kr_tree.NameLemmas.{some_is}
use Rattle.kr_model.specs.kr_view.View.{Row}
use Rattle.kr_model.specs.kr_files.declared.opened.Opened.{Opened}
use Rattle.kr_model.specs.kr_files.Descriptors.{Named, named_count}
use Rattle.kr_model.specs.kr_files.Files.{Counted, on_opened, with_opened, with_bytes, at_offset, with_append, has_reader}
use Rattle.kr_model.specs.kr_files.Pipes.{after_write}
use Rattle.kr_model.specs.Applied.{Mounts, images, with_files, with_living, with_image, with_program, with_brk, with_umask, on_opened_of, reaped, pages_after}
use Rattle.kr_model.specs.Change.{SetCloexec, Seek, SetAppend, TakeFromPipe, PutIntoPipe, ChangePages, SetBreak, SetUmask, TakeInput, WriteOut, WriteErr, Reap, ReplaceImage, PageChange, MapPages, UnmapPages, ProtectPages}
use Rattle.kr_model.specs.Conditions.{KeepsLawful, CanPage, CanLoad}
use Rattle.kr_model.specs.Known.{pages_in_all}
use Rattle.kr_model.specs.Lawful.{IsLawful, IsProcessIn, IsOpenIn, RiseFrom}
use Rattle.kr_model.specs.MemoryRows.{all_pages, pages_end}
use Rattle.kr_model.specs.State.{Image, image_layout, Process, State, Ended, process, named, at_pid, with_process, with_descs}
use Rattle.kr_model.specs.Uses.{at_inode, uses_of, file_uses, process_use, process_uses, names_of_file}
use Rattle.law_lawful.specs.Holding.{one_at}
use Rattle.law_lawful.proofs.SumLemmas.{sum-same}
use Rattle.law_lawful.proofs.ProcessChangeLemmas.{same-mapped, below-alike, sum-with}
use Rattle.law_lawful.proofs.FileChangeLemmas.{Files, some-changed, what-changed, pipes-stay, pipes-bytes}
use Rattle.law_lawful.proofs.AfterLemmas.{NamesFiles, parts-of, parts-with, lawful-after, leaves-itself, pids-with, pages-same, some-of}

-- ---- lists of the ended

rise-lower : (low high next : ℕ) (ns : List ℕ) → low ≤ high → RiseFrom high next ns → RiseFrom low next ns
rise-lower low high next [] l rise = tt
rise-lower low high next (n ∷ ns) l rise = let first = rise.0 in (omega arith, rise.1, rise.2)

pub rise-filtered : {A : Type 0} (number : A → ℕ) (test : A → Bool) (low next : ℕ) (xs : List A) → RiseFrom low next (map_list number xs) → RiseFrom low next (map_list number (filter test xs))
rise-filtered number test low next [] rise = tt
rise-filtered number test low next (x ∷ xs) rise =
    let rest = rise-filtered number test (suc (number x)) next xs rise.2 in
    let first = rise.0 in
    elim (test x) as (λ b. RiseFrom low next (map_list number (cond b (x ∷ filter test xs) (filter test xs)))) [
      | true ↦ (rise.0, rise.1, rest)
      | false ↦ rise-lower low (suc (number x)) next (map_list number (filter test xs)) (omega arith) rest
    ]

pub none-filtered : {A : Type 0} (passes test : A → Bool) (xs : List A) → list_any passes xs ≡ false → list_any passes (filter test xs) ≡ false
none-filtered passes test [] none = refl
none-filtered passes test (x ∷ xs) none =
    let both = or_parts (passes x) (list_any passes xs) none in
    let rest = none-filtered passes test xs both.1 in
    elim (test x) as (λ b. list_any passes (cond b (x ∷ filter test xs) (filter test xs)) ≡ false) [
      | true ↦ ap (λ a. a || list_any passes (filter test xs)) both.0 ∙ rest
      | false ↦ rest
    ]

pub filtered-few : {A : Type 0} (test : A → Bool) (xs : List A) → length (filter test xs) ≤ length xs
filtered-few test [] = omega arith
filtered-few test (x ∷ xs) =
    let rest = filtered-few test xs in
    elim (test x) as (λ b. length (cond b (x ∷ filter test xs) (filter test xs)) ≤ length (x ∷ xs)) [
      | true ↦ omega arith
      | false ↦ omega arith
    ]

module _ {M : Type 0} (number : M → ℕ) (table : List Row) where
  -- the state with these bytes on the console
  abbrev with_written : List ℕ → List ℕ → State M Image → State M Image
  with_written out err s = record {
    tree = s.tree;
    user = s.user;
    files = s.files;
    input = s.input;
    taken = s.taken;
    out = out;
    err = err;
    living = s.living;
    ended = s.ended;
    next_pid = s.next_pid;
  }

  -- ---- one process

  -- one process changed in what no use rests on
  pub record KeepsUses (f : Process M Image → Process M Image) : Type 0 where
    pub pids : (p : Process M Image) → (f p).pid ≡ p.pid
    pub cwds : (p : Process M Image) → (f p).cwd ≡ p.cwd
    pub exes : (p : Process M Image) → (f p).exe ≡ p.exe
    pub counts : (p : Process M Image) (n : ℕ) → named_count (f p).descs n ≡ named_count p.descs n

  module _ (s : State M Image) (l : IsLawful number table s) (pid : ℕ) (f : Process M Image → Process M Image) (keeps : KeepsUses f) where
    abbrev after : State M Image
    after = with_living (with_process pid f) s

    use-same : (i : ℕ) (p : Process M Image) (b : Bool) → process_use i (cond b (f p) p) ≡ process_use i p
    use-same i p true = ap (λ c. at_inode i 1 (Some c) + at_inode i 1 (Some (f p).exe)) (keeps.cwds p) ∙ ap (λ e. at_inode i 1 (Some p.cwd) + at_inode i 1 (Some e)) (keeps.exes p)
    use-same i p false = refl

    count-same : (n : ℕ) (p : Process M Image) (b : Bool) → named_count (cond b (f p) p).descs n ≡ named_count p.descs n
    count-same n p true = keeps.counts p n
    count-same n p false = refl

    uses-same : (i : ℕ) → process_uses after.living i ≡ process_uses s.living i
    uses-same i = ap sum (same-mapped (process_use i) (at_pid pid f) (λ p. use-same i p (p.pid == pid)) s.living)

    names-same : (n : ℕ) → names_of_file n after.living ≡ names_of_file n s.living
    names-same n = ap sum (same-mapped (λ (p : Process M Image). named_count p.descs n) (at_pid pid f) (λ p. count-same n p (p.pid == pid)) s.living)

    pub process-keeps : ((p : Process M Image) → process pid s ≡ Some p → IsProcessIn number s.tree table (f p)) → ((p : Process M Image) → process pid s ≡ Some p → NamesFiles s.files.files (f p))
        → pages_in_all image_layout after.living ≤ all_pages → IsLawful number table after
    process-keeps fits names room =
        lawful-after number table s l after (leaves-itself number table s.tree l.tree)
        (parts-with number table s.tree s.files s.living pid f keeps.pids (parts-of number table s l) fits names)
        (record {
          holds = λ i. let same = uses-same i in let before = l.uses.holds i in omega arith;
          counts = λ n h e. let before = l.uses.counts n h e in let count = before.0 in let same = names-same n in (omega arith, before.1);
          numbered = l.uses.numbered;
        })
        room (pids-with s after pid f keeps.pids refl refl refl l.pids) l.input

  names-own : (s : State M Image) → IsLawful number table s → (pid : ℕ) (p : Process M Image) → process pid s ≡ Some p → NamesFiles s.files.files p
  names-own s l pid p e = (parts-of number table s l).descriptors pid p e

  -- ---- one open file

  -- what is open under a number changed, but not where it stands and what it is
  pub record KeepsPlace (f : Opened M → Opened M) : Type 0 where
    pub places : (o : Opened M) → (f o).place ≡ o.place
    pub whats : (o : Opened M) → (f o).what ≡ o.what

  module _ (s : State M Image) (l : IsLawful number table s) (n : ℕ) (f : Opened M → Opened M) (keeps : KeepsPlace f) where
    abbrev files : Files M
    files = changed s.files.files n (on_opened f)

    uses-still : (i : ℕ) → file_uses (with_opened n f s.files) i ≡ file_uses s.files i
    uses-still i =
        sum-same (uses_of i) s.files.files files (suc s.files.last_file)
        (λ q below. stays-changed (λ (o : Option (Counted M)). option_map_or (uses_of i) o 0) s.files.files n (on_opened f) (λ h. ap (at_inode i h.count) (keeps.places h.opened)) q)

    -- what holds of each file and its number holds still, where that doesn't rest on what was changed
    each-still : (P : ℕ → Counted M → Type 0) → ((h : Counted M) → P n h → P n (on_opened f h)) → ((q : ℕ) (h : Counted M) → map.get s.files.files q ≡ Some h → P q h) → (q : ℕ) (h : Counted M) → map.get files q ≡ Some h → P q h
    each-still P own all q h e = by_key (λ q. map.get files q ≡ Some h → P q h) n
        (λ e. at (map.get s.files.files n) refl (sym (get-changed_same s.files.files n (on_opened f)) ∙ e))
        (λ q d e. all q h (sym (get-changed_other s.files.files n (on_opened f) q d) ∙ e))
        q e
      where
        at : (o : Option (Counted M)) → map.get s.files.files n ≡ o → option_map (on_opened f) o ≡ Some h → P n h
        at None is e = absurd cc
        at (Some g) is e = subst (P n) (some_is (on_opened f g) h e) (own g (all n g is))

    pub file-keeps : ((o : Opened M) → IsOpenIn number s.tree table o → IsOpenIn number s.tree table (f o)) → IsLawful number table (with_files (with_opened n f) s)
    file-keeps fits =
        let parts = parts-of number table s l in
        lawful-after number table s l (with_files (with_opened n f) s) (leaves-itself number table s.tree l.tree)
        (record {
          processes = parts.processes;
          descriptors = λ pid p e. record { each = λ fd x at. let own = (parts.descriptors pid p e).each fd x at in (own.0, some-changed s.files.files n (on_opened f) x.number own.1) };
          opens = record { each = each-still (λ q h. IsOpenIn number s.tree table h.opened) (λ h is. fits h.opened is) parts.opens.each };
          pipes = pipes-stay s.files l.pipes files s.files.last_file (what-changed s.files.files n (on_opened f) (λ h. keeps.whats h.opened));
        })
        (record {
          holds = λ i. let same = uses-still i in let before = l.uses.holds i in omega arith;
          counts = each-still (λ q h. (h.count ≡ names_of_file q s.living) × (1 ≤ h.count)) (λ h is. is) l.uses.counts;
          numbered = each-still (λ q h. q ≤ s.files.last_file) (λ h is. is) l.uses.numbered;
        })
        l.room
        (record { living = l.pids.living; ended = l.pids.ended; apart = l.pids.apart; few = l.pids.few })
        l.input

  -- ---- a pipe

  abbrev with_pipe_bytes : ℕ → List ℕ → State M Image → State M Image
  with_pipe_bytes p bytes s = with_files (with_bytes p bytes) s

  bytes-keep : (s : State M Image) → IsLawful number table s → (p : ℕ) (bytes : List ℕ) → IsSome (map.get s.files.pipes p) → length bytes ≤ 65536 → IsLawful number table (with_pipe_bytes p bytes s)
  bytes-keep s l p bytes there small =
      let parts = parts-of number table s l in
      lawful-after number table s l (with_pipe_bytes p bytes s) (leaves-itself number table s.tree l.tree)
      (record { processes = parts.processes; descriptors = parts.descriptors; opens = parts.opens; pipes = pipes-bytes s.files l.pipes p bytes there small })
      (record { holds = l.uses.holds; counts = l.uses.counts; numbered = l.uses.numbered })
      l.room
      (record { living = l.pids.living; ended = l.pids.ended; apart = l.pids.apart; few = l.pids.few })
      l.input

  module _ (mounts : Mounts M) (pid : ℕ) where
    pub take-keeps : (p count : ℕ) → KeepsLawful number table mounts pid (TakeFromPipe p count)
    take-keeps p count s l lives can = by (map.get s.files.pipes p) refl
      where
        by : (o : Option (List ℕ)) → map.get s.files.pipes p ≡ o → IsLawful number table (with_files (λ t. option_map_or (λ bytes. with_bytes p (drop count bytes) t) o t) s)
        by None e = l
        by (Some bytes) e =
            let before = l.pipes.bytes p bytes e in
            let left = length-drop count bytes in
            bytes-keep s l p (drop count bytes) can (omega arith)

    pub put-keeps : (p : ℕ) (more : List ℕ) → KeepsLawful number table mounts pid (PutIntoPipe p more)
    put-keeps p more s l lives can = by (map.get s.files.pipes p) refl
      where
        small : (bytes : List ℕ) (b : Bool) → length bytes ≤ 65536 → length (cond b (bytes ++ take (65536 - length bytes) more) bytes) ≤ 65536
        small bytes true before =
            let both = length-append bytes (take (65536 - length bytes) more) in
            let taken = length-take (65536 - length bytes) more in
            omega arith
        small bytes false before = before

        by : (o : Option (List ℕ)) → map.get s.files.pipes p ≡ o → IsLawful number table (with_files (λ t. option_map_or (λ bytes. with_bytes p (after_write bytes (has_reader t p) more) t) o t) s)
        by None e = l
        by (Some bytes) e = bytes-keep s l p (after_write bytes (has_reader s.files p) more) can (small bytes (has_reader s.files p) (l.pipes.bytes p bytes e))

    -- ---- what is open under a descriptor

    opened-keeps : (fd : ℕ) (f : Opened M → Opened M) → KeepsPlace f → ((s : State M Image) (o : Opened M) → IsOpenIn number s.tree table o → IsOpenIn number s.tree table (f o)) → (s : State M Image) → IsLawful number table s → IsLawful number table (on_opened_of pid fd f s)
    opened-keeps fd f keeps fits s l = by (named pid fd s)
      where
        by : (o : Option Named) → IsLawful number table (option_map_or (λ (x : Named). with_files (with_opened x.number f) s) o s)
        by None = l
        by (Some x) = file-keeps s l x.number f keeps (fits s)

    pub seek-keeps : (fd at : ℕ) → KeepsLawful number table mounts pid (Seek fd at)
    seek-keeps fd at s l lives can =
        opened-keeps fd (at_offset at) (record { places = λ o. refl; whats = λ o. refl })
        (λ s o is. record { placed = is.placed; files = is.files; directories = is.directories; others = is.others; name = is.name }) s l

    pub append-keeps : (fd : ℕ) (on : Bool) → KeepsLawful number table mounts pid (SetAppend fd on)
    append-keeps fd on s l lives can =
        opened-keeps fd (with_append on) (record { places = λ o. refl; whats = λ o. refl })
        (λ s o is. record { placed = is.placed; files = is.files; directories = is.directories; others = is.others; name = is.name }) s l

    -- ---- a flag of a descriptor

    abbrev flagged : Bool → Named → Named
    flagged on x = record { number = x.number; cloexec = on }

    flagged-count : (p : Process M Image) (fd : ℕ) (on : Bool) (n : ℕ) → named_count (changed p.descs fd (flagged on)) n ≡ named_count p.descs n
    flagged-count p fd on n = below-alike p.descs (changed p.descs fd (flagged on)) n 1024
        (λ q. stays-changed (λ (o : Option Named). option_map_or (λ (x : Named). one_at x.number n) o 0) p.descs fd (flagged on) (λ x. refl) q)

    pub cloexec-keeps : (fd : ℕ) (on : Bool) → KeepsLawful number table mounts pid (SetCloexec fd on)
    cloexec-keeps fd on s l lives can =
        process-keeps s l pid (with_descs (λ d. changed d fd (flagged on)))
        (record { pids = λ p. refl; cwds = λ p. refl; exes = λ p. refl; counts = λ p n. flagged-count p fd on n })
        (λ p e. let own = l.processes pid p e in record { cwd = own.cwd; exe = own.exe; exe_name = own.exe_name; breaks = own.breaks; whole = own.whole; paged = own.paged; pages = own.pages })
        (λ p e. let own = names-own s l pid p e in record { each = flagged-names s p own })
        (let same = pages-same pid (with_descs (λ d. changed d fd (flagged on))) (λ p. refl) s.living in let room = l.room in omega arith)
      where
        flagged-names : (s : State M Image) (p : Process M Image) → NamesFiles s.files.files p → (q : ℕ) (x : Named) → map.get (changed p.descs fd (flagged on)) q ≡ Some x → (q < 1024) × IsSome (map.get s.files.files x.number)
        flagged-names s p own q x e = by_key (λ q. map.get (changed p.descs fd (flagged on)) q ≡ Some x → (q < 1024) × IsSome (map.get s.files.files x.number)) fd
            (λ e. at (map.get p.descs fd) refl (sym (get-changed_same p.descs fd (flagged on)) ∙ e))
            (λ q d e. own.each q x (sym (get-changed_other p.descs fd (flagged on) q d) ∙ e))
            q e
          where
            at : (o : Option Named) → map.get p.descs fd ≡ o → option_map (flagged on) o ≡ Some x → (fd < 1024) × IsSome (map.get s.files.files x.number)
            at None is e = absurd cc
            at (Some y) is e =
                let same : y.number ≡ x.number = ap (λ (z : Named). z.number) (some_is (flagged on y) x e) in
                let before = own.each fd y is in
                (before.0, subst (λ k. IsSome (map.get s.files.files k)) same before.1)

    -- ---- a break and a umask

    of-caller : (s : State M Image) (holds : Process M Image → Type 0) (p : Process M Image) → process pid s ≡ Some p → IfSome (process pid s) holds → holds p
    of-caller s holds p e can = subst (λ o. IfSome o holds) e can

    pub umask-keeps : (umask : ℕ) → KeepsLawful number table mounts pid (SetUmask umask)
    umask-keeps umask s l lives can =
        process-keeps s l pid (with_umask umask) (record { pids = λ p. refl; cwds = λ p. refl; exes = λ p. refl; counts = λ p n. refl })
        (λ p e. let own = l.processes pid p e in record { cwd = own.cwd; exe = own.exe; exe_name = own.exe_name; breaks = own.breaks; whole = own.whole; paged = own.paged; pages = own.pages })
        (λ p e. let own = names-own s l pid p e in record { each = own.each })
        (let same = pages-same pid (with_umask umask) (λ p. refl) s.living in let room = l.room in omega arith)

    pub break-keeps : (brk : ℕ) → KeepsLawful number table mounts pid (SetBreak brk)
    break-keeps brk s l lives can =
        process-keeps s l pid (with_brk brk) (record { pids = λ p. refl; cwds = λ p. refl; exes = λ p. refl; counts = λ p n. refl })
        (λ p e.
        let own = l.processes pid p e in
        record { cwd = own.cwd; exe = own.exe; exe_name = own.exe_name; breaks = of-caller s (λ q. (q.brk_start ≤ brk) × (brk ≤ pages_end)) p e can; whole = own.whole; paged = own.paged; pages = own.pages })
        (λ p e. let own = names-own s l pid p e in record { each = own.each })
        (let same = pages-same pid (with_brk brk) (λ p. refl) s.living in let room = l.room in omega arith)

    -- ---- pages

    whole-after : (c : PageChange) (m : Pages) → IsWhole m → IsWhole (pages_after c m)
    whole-after (MapPages first count rights) m whole = IsWhole-mapped m first count rights whole
    whole-after (UnmapPages first count) m whole = IsWhole-unmapped m first count whole
    whole-after (ProtectPages first count rights) m whole = IsWhole-protected m first count rights whole

    -- the pages of all, where those of one are others
    room-after : (s : State M Image) → IsLawful number table s → (f : Process M Image → Process M Image) → ((p : Process M Image) → (f p).pid ≡ p.pid)
        → ((p : Process M Image) → process pid s ≡ Some p → pages_in_all image_layout s.living + map.len (f p).image.memory.pages ≤ all_pages + map.len p.image.memory.pages)
        → IsSome (process pid s) → pages_in_all image_layout (with_process pid f s.living) ≤ all_pages
    room-after s l f pids room lives =
        let caller = some-of (process pid s) lives in
        let p : Process M Image = caller.0 in
        let sums = sum-with pid f pids (λ (q : Process M Image). map.len (image_layout q.image)) s.next_pid 2 s.living p l.pids.living caller.1 in
        let own = room p caller.1 in
        let old = layouts_follow.count p.image.memory.pages in
        let new = layouts_follow.count (f p).image.memory.pages in
        omega arith

    pub pages-keep : (c : PageChange) → KeepsLawful number table mounts pid (ChangePages c)
    pages-keep c s l lives can =
        process-keeps s l pid (with_image (images.paged c)) (record { pids = λ p. refl; cwds = λ p. refl; exes = λ p. refl; counts = λ p n. refl })
        (λ p e.
        let own = l.processes pid p e in
        let page = of-caller s (CanPage pid c s) p e can in
        record { cwd = own.cwd; exe = own.exe; exe_name = own.exe_name; breaks = own.breaks; whole = whole-after c p.image.memory.pages own.whole; paged = page.placed; pages = page.few })
        (λ p e. let own = names-own s l pid p e in record { each = own.each })
        (room-after s l (with_image (images.paged c)) (λ p. refl) (λ p e. (of-caller s (CanPage pid c s) p e can).room) lives)

    pub image-keeps : (image : Image) (brk : ℕ) → KeepsLawful number table mounts pid (ReplaceImage image brk)
    image-keeps image brk s l lives can =
        process-keeps s l pid (with_program image brk) (record { pids = λ p. refl; cwds = λ p. refl; exes = λ p. refl; counts = λ p n. refl })
        (λ p e.
        let own = l.processes pid p e in
        let load = of-caller s (CanLoad image brk s) p e can in
        record { cwd = own.cwd; exe = own.exe; exe_name = own.exe_name; breaks = (omega arith, load.break); whole = load.whole; paged = load.placed; pages = load.few })
        (λ p e. let own = names-own s l pid p e in record { each = own.each })
        (room-after s l (with_program image brk) (λ p. refl) (λ p e. (of-caller s (CanLoad image brk s) p e can).room) lives)

    -- ---- the console

    pub input-keeps : (count : ℕ) → KeepsLawful number table mounts pid (TakeInput count)
    input-keeps count s l lives can = record {
      tree = l.tree;
      mounts = l.mounts;
      processes = l.processes;
      files = l.files;
      pipes = l.pipes;
      descriptors = l.descriptors;
      uses = record { holds = l.uses.holds; counts = l.uses.counts; numbered = l.uses.numbered };
      room = l.room;
      pids = record { living = l.pids.living; ended = l.pids.ended; apart = l.pids.apart; few = l.pids.few };
      input = can;
    }

    -- what is written to the console is no part of what holds of a state
    written-keeps : (out err : List ℕ) (s : State M Image) → IsLawful number table s → IsLawful number table (with_written out err s)
    written-keeps out err s l = record {
      tree = l.tree;
      mounts = l.mounts;
      processes = l.processes;
      files = l.files;
      pipes = l.pipes;
      descriptors = l.descriptors;
      uses = record { holds = l.uses.holds; counts = l.uses.counts; numbered = l.uses.numbered };
      room = l.room;
      pids = record { living = l.pids.living; ended = l.pids.ended; apart = l.pids.apart; few = l.pids.few };
      input = l.input;
    }

    pub out-keeps : (bytes : List ℕ) → KeepsLawful number table mounts pid (WriteOut bytes)
    out-keeps bytes s l lives can = written-keeps (s.out ++ bytes) s.err s l

    pub err-keeps : (bytes : List ℕ) → KeepsLawful number table mounts pid (WriteErr bytes)
    err-keeps bytes s l lives can = written-keeps s.out (s.err ++ bytes) s l

    -- ---- the ended

    pub reap-keeps : (child : ℕ) → KeepsLawful number table mounts pid (Reap child)
    reap-keeps child s l lives can =
        let parts = parts-of number table s l in
        let test : Ended → Bool = λ e. not (e.pid == child) in
        lawful-after number table s l (reaped child s) (leaves-itself number table s.tree l.tree)
        (record { processes = parts.processes; descriptors = parts.descriptors; opens = parts.opens; pipes = parts.pipes })
        (record { holds = l.uses.holds; counts = l.uses.counts; numbered = l.uses.numbered })
        l.room
        (record {
          living = l.pids.living;
          ended = rise-filtered (λ (e : Ended). e.pid) test 2 s.next_pid s.ended l.pids.ended;
          apart = λ q h. none-filtered (λ (e : Ended). e.pid == q) test s.ended (l.pids.apart q h);
          few = let fewer = filtered-few test s.ended in let few = l.pids.few in omega arith;
        })
        l.input
