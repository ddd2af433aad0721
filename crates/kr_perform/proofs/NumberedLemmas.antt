-- A lawful state is lawful with the numbers of its mounts.
use Rattle.std.specs.FinMap as map
use Rattle.std.proofs.Common.{◌≡◌, ℕ, zero, suc, ◌+◌, ◌≤◌, List, [], ◌∷◌, length, Option, Some, None, refl, sym, ap, subst, ◌∙◌}
use Rattle.std.specs.Prelude.{IsSome, map as map_list, sum}
use Rattle.std.specs.Option.{option_map, option_map_or}
use Rattle.std.proofs.lemmas.List.{length-map}
use Rattle.law_allowed.proofs.pr_base.MapLemmas.{get-mapped}
use Rattle.law_allowed.specs.kr_tree.declared.place.Place.{Place}
use Rattle.law_allowed.proofs.kr_tree.NameLemmas.{map_some}
use Rattle.law_allowed.specs.kr_view.InTree.{IsPlaceOf}
use Rattle.law_allowed.specs.kr_view.Leads.{numbered}
use Rattle.law_allowed.specs.kr_view.View.{Row, is_there}
use Rattle.law_allowed.specs.kr_view.Component.{is_directory_at}
use Rattle.law_allowed.specs.kr_files.Files.{Counted, file_at}
use Rattle.law_allowed.specs.kr_files.declared.opened.Opened.{Opened}
use Rattle.law_allowed.specs.kr_model.Bare.{pins_of}
use Rattle.law_allowed.specs.kr_model.FileRows.{is_dir, is_file_open}
use Rattle.law_allowed.specs.kr_model.Known.{pages_in_all}
use Rattle.law_allowed.specs.kr_model.Lawful.{ArePids, HasPipes, IsLawful, IsOpenIn, IsProcessIn, RiseFrom, is_file_at}
use Rattle.law_allowed.specs.kr_model.MemoryRows.{all_pages}
use Rattle.law_allowed.specs.kr_model.ProcessRows.{most_processes}
use Rattle.law_allowed.specs.kr_model.State.{Image, Process, State, image_layout, process}
use Rattle.law_allowed.specs.kr_model.Uses.{AreUses, at_inode, file_uses, names_of_file, process_use, process_uses, sum_to, uses_of}
use Rattle.law_allowed.specs.kr_files.Descriptors.{named_count}
use Rattle.kr_transfer.specs.kr_seen.Numbered.{counted_numbered, opened_numbered, process_numbered, state_numbered, table_numbered}
use Rattle.kr_transfer.proofs.kr_seen.NumberedLemmas.{named-numbered, process-numbered}

map-map : {A B C : Type 0} (f : A → B) (g : B → C) (xs : List A) → map_list g (map_list f xs) ≡ map_list (λ x. g (f x)) xs
map-map f g [] = refl
map-map f g (x ∷ xs) = ap (λ ys. g (f x) ∷ ys) (map-map f g xs)

there_map : {A B : Type 0} (f : A → B) (o : Option A) → is_there (option_map f o) ≡ is_there o
there_map f None = refl
there_map f (Some x) = refl

some_map : {A B : Type 0} (f : A → B) (o : Option A) → IsSome o → IsSome (option_map f o)
some_map f None some = absurd cc
some_map f (Some x) some = refl

map_is_some : {A B : Type 0} (f : A → B) (o : Option A) → IsSome (option_map f o) → IsSome o
map_is_some f None some = absurd cc
map_is_some f (Some x) some = refl

module _ {T : Type 0} (number : T → ℕ) (table : List Row) (s : State T Image) (lawful : IsLawful number table s) where
  abbrev shown : State ℕ Image
  shown = state_numbered number s

  -- ---- processes

  process_in : (p : Process T Image) → IsProcessIn number s.tree table p → IsProcessIn (λ m. m) s.tree table (process_numbered number p)
  process_in p own = record {
    cwd = own.cwd;
    exe = own.exe;
    exe_name = own.exe_name;
    breaks = own.breaks;
    whole = own.whole;
    paged = own.paged;
    pages = own.pages;
  }

  processes_in : (pid : ℕ) (p : Process ℕ Image) → process pid shown ≡ Some p → IsProcessIn (λ m. m) s.tree table p
  processes_in pid p is =
      let own = map_some (process_numbered number) (process pid s) p (sym (process-numbered number s pid) ∙ is) in
      subst (λ (p : Process ℕ Image). IsProcessIn (λ m. m) s.tree table p) own.2 (process_in own.0 (lawful.processes pid own.0 own.1))

  pids_same : (ps : List (Process T Image)) → map_list (λ (p : Process ℕ Image). p.pid) (map_list (process_numbered number) ps) ≡ map_list (λ (p : Process T Image). p.pid) ps
  pids_same ps = map-map (process_numbered number) (λ (p : Process ℕ Image). p.pid) ps

  pids : ArePids shown
  pids = record {
    living = subst (λ pids. RiseFrom 2 s.next_pid pids) (sym (pids_same s.living)) lawful.pids.living;
    ended = lawful.pids.ended;
    apart = λ pid lives. lawful.pids.apart pid (map_is_some (process_numbered number) (process pid s) (subst (λ (o : Option (Process ℕ Image)). IsSome o) (process-numbered number s pid) lives));
    few = subst (λ n. n + length s.ended ≤ most_processes) (sym (length-map s.living (process_numbered number))) lawful.pids.few;
  }

  room_same : (ps : List (Process T Image)) → pages_in_all image_layout (map_list (process_numbered number) ps) ≡ pages_in_all image_layout ps
  room_same ps = ap sum (map-map (process_numbered number) (λ (p : Process ℕ Image). map.len (image_layout p.image)) ps)

  -- ---- open files

  counted_in : (n : ℕ) (h : Counted ℕ) → map.get (table_numbered number s.files).files n ≡ Some h → (own : Counted T) × (map.get s.files.files n ≡ Some own) × (counted_numbered number own ≡ h)
  counted_in n h is = map_some (counted_numbered number) (map.get s.files.files n) h (sym (get-mapped (λ n. counted_numbered number) s.files.files n) ∙ is)

  open_in : (o : Opened T) → IsOpenIn number s.tree table o → IsOpenIn (λ m. m) s.tree table (opened_numbered number o)
  open_in o own = record {
    placed = λ p is.
        let at = map_some (numbered number) o.place p is in
        subst (λ (p : Place ℕ). IsPlaceOf s.tree table p × (is_directory_at s.tree p.host ≡ is_dir o.what) × (is_file_at s.tree p.host ≡ is_file_open o.what)) at.2 (own.placed at.0 at.1);
    files = λ is. there_map (numbered number) o.place ∙ own.files is;
    directories = λ is. let at = own.directories is in (there_map (numbered number) o.place ∙ at.0, at.1, at.2);
    others = λ file dir. there_map (numbered number) o.place ∙ own.others file dir;
    name = own.name;
  }

  files_in : (n : ℕ) (o : Opened ℕ) → file_at shown.files n ≡ Some o → IsOpenIn (λ m. m) s.tree table o
  files_in n o is =
      let counted = map_some (λ (h : Counted ℕ). h.opened) (map.get shown.files.files n) o is in
      let own = counted_in n counted.0 counted.1 in
      let same : opened_numbered number own.0.opened ≡ o = ap (λ (h : Counted ℕ). h.opened) own.2 ∙ counted.2 in
      subst (λ (o : Opened ℕ). IsOpenIn (λ m. m) s.tree table o) same
      (open_in own.0.opened (lawful.files n own.0.opened (ap (option_map (λ (h : Counted T). h.opened)) own.1)))

  pipes : HasPipes shown.files
  pipes = record {
    numbered = lawful.pipes.numbered;
    reads = λ p n h is what. let own = counted_in n h is in lawful.pipes.reads p n own.0 own.1 (ap (λ (h : Counted ℕ). h.opened.what) own.2 ∙ what);
    writes = λ p n h is what. let own = counted_in n h is in lawful.pipes.writes p n own.0 own.1 (ap (λ (h : Counted ℕ). h.opened.what) own.2 ∙ what);
    one_reader = λ p m n g h first second reads too.
        let one = counted_in m g first in
        let two = counted_in n h second in
        lawful.pipes.one_reader p m n one.0 two.0 one.1 two.1 (ap (λ (h : Counted ℕ). h.opened.what) one.2 ∙ reads) (ap (λ (h : Counted ℕ). h.opened.what) two.2 ∙ too);
    one_writer = λ p m n g h first second writes too.
        let one = counted_in m g first in
        let two = counted_in n h second in
        lawful.pipes.one_writer p m n one.0 two.0 one.1 two.1 (ap (λ (h : Counted ℕ). h.opened.what) one.2 ∙ writes) (ap (λ (h : Counted ℕ). h.opened.what) two.2 ∙ too);
    bytes = lawful.pipes.bytes;
  }

  file_some : (n : ℕ) → IsSome (file_at s.files n) → IsSome (file_at shown.files n)
  file_some n some =
      let there : IsSome (map.get s.files.files n) = map_is_some (λ (h : Counted T). h.opened) (map.get s.files.files n) some in
      some_map (λ (h : Counted ℕ). h.opened) (map.get shown.files.files n)
      (subst (λ (o : Option (Counted ℕ)). IsSome o) (sym (get-mapped (λ n. counted_numbered number) s.files.files n)) (some_map (counted_numbered number) (map.get s.files.files n) there))

  -- ---- uses

  uses_same : (i : ℕ) (h : Counted T) → uses_of i (counted_numbered number h) ≡ uses_of i h
  uses_same i h = by h.opened.place
    where
      by : (o : Option (Place T)) → at_inode i h.count (option_map (numbered number) o) ≡ at_inode i h.count o
      by None = refl
      by (Some p) = refl

  use_same : (i n : ℕ) → option_map_or (uses_of i) (map.get shown.files.files n) 0 ≡ option_map_or (uses_of i) (map.get s.files.files n) 0
  use_same i n = ap (λ (o : Option (Counted ℕ)). option_map_or (uses_of i) o 0) (get-mapped (λ n. counted_numbered number) s.files.files n) ∙ by (map.get s.files.files n)
    where
      by : (o : Option (Counted T)) → option_map_or (uses_of i) (option_map (counted_numbered number) o) 0 ≡ option_map_or (uses_of i) o 0
      by None = refl
      by (Some h) = uses_same i h

  sum_same : (i n : ℕ) → sum_to (uses_of i) shown.files.files n ≡ sum_to (uses_of i) s.files.files n
  unfolding sum_to
  sum_same i zero = refl
  sum_same i (suc n) = ap (λ k. k + sum_to (uses_of i) shown.files.files n) (use_same i n) ∙ ap (λ k. option_map_or (uses_of i) (map.get s.files.files n) 0 + k) (sum_same i n)

  process_uses_same : (i : ℕ) (ps : List (Process T Image)) → process_uses (map_list (process_numbered number) ps) i ≡ process_uses ps i
  process_uses_same i ps = ap sum (map-map (process_numbered number) (λ (p : Process ℕ Image). process_use i p) ps)

  names_same : (n : ℕ) (ps : List (Process T Image)) → names_of_file n (map_list (process_numbered number) ps) ≡ names_of_file n ps
  names_same n ps = ap sum (map-map (process_numbered number) (λ (p : Process ℕ Image). named_count p.descs n) ps)

  uses : AreUses (pins_of table) shown
  uses = record {
    holds = λ i.
        lawful.uses.holds i
        ∙ ap (λ n. n + process_uses s.living i + pins_of table i) (sym (sum_same i (suc s.files.last_file)))
        ∙ ap (λ n. file_uses shown.files i + n + pins_of table i) (sym (process_uses_same i s.living));
    counts = λ n h is.
        let own = counted_in n h is in
        let counts = lawful.uses.counts n own.0 own.1 in
        let same : own.0.count ≡ h.count = ap (λ (h : Counted ℕ). h.count) own.2 in
        (sym same ∙ counts.0 ∙ sym (names_same n s.living), subst (λ k. 1 ≤ k) same counts.1);
    numbered = λ n h is. let own = counted_in n h is in lawful.uses.numbered n own.0 own.1;
  }

  -- ---- the state

  pub lawful_numbered : IsLawful (λ m. m) table (state_numbered number s)
  lawful_numbered = record {
    tree = lawful.tree;
    mounts = lawful.mounts;
    processes = processes_in;
    files = files_in;
    pipes = pipes;
    descriptors = λ pid fd x is.
        let own = lawful.descriptors pid fd x (sym (named-numbered number s pid fd) ∙ is) in
        (own.0, file_some x.number own.1);
    uses = uses;
    room = subst (λ n. n ≤ all_pages) (sym (room_same s.living)) lawful.room;
    pids = pids;
    input = lawful.input;
  }
