-- The name that a walk counts of what stands under a name of a directory is the host text of that.
use Rattle.std.proofs.Common.{◌≡◌, ℕ, Bool, true, false, List, ◌∷◌, ◌++◌, Option, Some, None, refl, sym, ap, ◌∙◌}
use Rattle.std.specs.Bool.{if◌then◌else◌}
use Rattle.std.specs.List.{position}
use Rattle.std.specs.Option.{option_and_then, option_map, option_map_or}
use Rattle.pt_tracer.specs.pr_base.MountText.{MountText}
use Rattle.pt_tracer.specs.pr_base.Texts.{Text}
use Rattle.pt_tracer.specs.pt_bind.Binding.{host_of, located, owner}
use Rattle.law_walks.specs.kr_tree.Names.{host_name, process_names}
use Rattle.law_walks.specs.kr_tree.Tree.{Body, Tree, body, body_is, entry, is_directory}
use Rattle.law_walks.specs.kr_tree.declared.place.Host.{Host}
use Rattle.law_walks.specs.kr_tree.declared.place.Host.TheVariants.{Node, Proc}
use Rattle.law_walks.specs.kr_tree.declared.place.Place.{Place}
use Rattle.law_walks.specs.kr_tree.declared.place.ProcAt.{ProcAt}
use Rattle.law_walks.specs.kr_tree.declared.place.ProcAt.TheVariants.{SelfLink, Dir, Cwd, Root, Exe, FdDir, Fd}
use Rattle.law_walks.proofs.kr_tree.EntryLemmas.{body_test, reached-named}
use Rattle.law_walks.proofs.kr_tree.NameLemmas.{some_is}
use Rattle.law_walks.specs.kr_view.declared.procs.Lead.{Lead}
use Rattle.law_walks.specs.kr_view.Component.{Namespace, is_directory_at, is_processes}
use Rattle.law_walks.specs.kr_view.HostReach.{object_in}
use Rattle.law_walks.specs.kr_view.Names.{below, found_process_name, named_name, node_entry_name, point_name, process_name, process_object_name, row_at, source_entry_name, source_name}
use Rattle.law_walks.specs.kr_view.Processes.{LawsOfProcesses}
use Rattle.law_walks.specs.kr_view.View.{Row, is_point, node_in, row, source_place, stands_at}
use Rattle.law_walks.proofs.kr_view.HostReachLemmas.{inode_reached, last_object, named_alone, reached_process}
use Rattle.law_walks.specs.kr_mounts.Standing.{texts_of}
use Rattle.law_walks.specs.Settled.{IsSettled}
use Rattle.law_walks.specs.Standing.{reached_in}
use Rattle.law_walks.proofs.StandingLemmas.{descriptors_shown, host_called, node_reached, process_holder, process_shown, source_reached}
use Rattle.law_walks.proofs.TableLemmas.{down_is_located, host_none, host_some, located_some, mount_below, source_text}

-- ---- rows

-- two numbers of which the same source is told are of the same row
same_number : (table : List Row) (o other : Option ℕ) → option_and_then (source_place table) o ≡ option_and_then (source_place table) other → option_and_then (row table) o ≡ option_and_then (row table) other
same_number table None None e = refl
same_number table None (Some k) e = by (row table k) refl e
  where
    by : (q : Option Row) → row table k ≡ q → None ≡ option_map (λ (r : Row). node_in k r.source) q → None ≡ row table k
    by None is e = sym is
    by (Some r) is e = absurd cc
same_number table (Some j) None e = by (row table j) refl e
  where
    by : (q : Option Row) → row table j ≡ q → option_map (λ (r : Row). node_in j r.source) q ≡ None → row table j ≡ None
    by None is e = is
    by (Some r) is e = absurd cc
same_number table (Some j) (Some k) e = by (row table j) (row table k) refl refl e
  where
    by : (p q : Option Row) → row table j ≡ p → row table k ≡ q → option_map (λ (r : Row). node_in j r.source) p ≡ option_map (λ (r : Row). node_in k r.source) q → row table j ≡ row table k
    by None None is too e = is ∙ sym too
    by None (Some r) is too e = absurd cc
    by (Some r) None is too e = absurd cc
    by (Some r) (Some q) is too e = let places = some_is (node_in j r.source) (node_in k q.source) e in ap (λ (p : Place ℕ). row table p.mount) places

module _ (space : Namespace) (set : IsSettled space) (leads : ProcAt → Lead ℕ) (laws : LawsOfProcesses space.finds leads) where
  abbrev table : List Row
  table = space.table

  abbrev bindings : List MountText
  bindings = texts_of space.table

  abbrev tree : Tree
  tree = space.tree

  abbrev reach : Text → Option Host
  reach h = reached_in space h

  -- ---- the process directory

  object_named : (at : ProcAt) (h top : Text) (i : ℕ) → reach h ≡ Some (Proc i at) → process_object_name space at (Some top) ≡ Some (process_names at ++ top)
  object_named SelfLink h top i way = refl
  object_named (Cwd pid) h top i way = refl
  object_named (Root pid) h top i way = refl
  object_named (Exe pid) h top i way = refl
  object_named (Fd pid fd) h top i way = refl
  object_named (Dir pid) h top i way = ap (λ b. if b then process_name (Dir pid) (Some top) else None) (process_shown space set leads laws h i pid way)
  object_named (FdDir pid) h top i way = ap (λ b. if b then process_name (FdDir pid) (Some top) else None) (descriptors_shown space set leads laws h i pid way)

  process_called : (h : Text) (i : ℕ) (at : ProcAt) → reach h ≡ Some (Proc i at) → process_object_name space at (host_name tree i) ≡ Some h
  process_called h i at way =
      let p = reached_process tree space.user space.finds leads h i at laws way in
      ap (process_object_name space at) (host_called space set p.0 i (inode_reached tree space.user space.finds p.0 i p.2) (process_holder space set leads laws h i at way))
      ∙ object_named at h p.0 i way ∙ ap Some (sym p.1)

  -- ---- the source of a mount

  directory_of : (i : ℕ) (b : Bool) → option_map is_directory (body tree i) ≡ Some b → body_is is_directory tree i ≡ b
  directory_of i b is = body_test is_directory tree i ∙ by (body tree i) is
    where
      by : (o : Option Body) → option_map is_directory o ≡ Some b → option_map_or is_directory o false ≡ b
      by None is = absurd cc
      by (Some x) is = some_is (is_directory x) b is

  source_called : (k : ℕ) (r : Row) → row table k ≡ Some r → source_name space r ≡ Some r.text.source
  source_called k r there = by r.is_dir refl
    where
      by : (b : Bool) → r.is_dir ≡ b → source_entry_name space r.source (if b then None else Some (r.source_dir, r.source_name)) ≡ Some r.text.source
      by true is = host_called space set r.text.source r.source (source_reached space set k r there) (directory_of r.source true (set.mounts.sources k r there ∙ ap Some is))
      by false is =
          let e = set.entries k r there is in
          let s = last_object tree space.user space.finds e.up r.source_name (Node r.source) (ap reach (sym e.text) ∙ source_reached space set k r there) in
          let way = inode_reached tree space.user space.finds e.up r.source_dir e.way in
          let dir : body_is is_directory tree r.source_dir ≡ true = ap (is_directory_at tree) (some_is (Node r.source_dir) s.dir (sym way ∙ s.way)) ∙ s.is_dir in
          ap (below r.source_name) (host_called space set e.up r.source_dir way dir) ∙ ap Some (sym e.text)

  -- ---- a name of a directory

  module _ (k : ℕ) (t : Text) (name : List ℕ) (mount : k ≡ owner bindings t) where
    abbrev whole : Text
    whole = host_of bindings (name ∷ t)

    -- what stands there, by the directory
    there_in : (x q : Host) → located bindings (name ∷ t) ≡ None → reach (host_of bindings t) ≡ Some x → reach whole ≡ Some q → object_in tree space.finds name x ≡ Some q
    there_in x q none at way =
        let s = last_object tree space.user space.finds (host_of bindings t) name q (ap reach (sym (host_none bindings name t none)) ∙ way) in
        ap (object_in tree space.finds name) (some_is x s.dir (sym at ∙ s.way)) ∙ s.there

    in_processes : (i : ℕ) (q : Host) (o : Option ProcAt) → option_map (λ at. Proc i at) o ≡ Some q → reach whole ≡ Some q → found_process_name space i o ≡ Some whole
    in_processes i q None is way = absurd cc
    in_processes i q (Some at) is way = process_called whole i at (way ∙ ap Some (sym (some_is (Proc i at) q is)))

    in_node : (i : ℕ) (q : Host) → located bindings (name ∷ t) ≡ None → reach (host_of bindings t) ≡ Some (Node i) → body_is is_directory tree i ≡ true → reach whole ≡ Some q → node_entry_name space i name ≡ Some whole
    in_node i q none at dir way = by (body_is is_processes tree i) (there_in (Node i) q none at way)
      where
        by : (b : Bool) → (if b then option_map (λ at. Proc i at) (space.finds None name) else option_map (λ j. Node j) (entry tree i name)) ≡ Some q
            → (if b then found_process_name space i (space.finds None name) else below name (host_name tree i)) ≡ Some whole
        by true there = in_processes i q (space.finds None name) there way
        by false there = ap (below name) (host_called space set (host_of bindings t) i at dir) ∙ ap Some (sym (host_none bindings name t none))

    through : (i : ℕ) (q : Host) → reach (host_of bindings t) ≡ Some (Node i) → body_is is_directory tree i ≡ true → reach whole ≡ Some q → (o : Option ℕ) → located bindings (name ∷ t) ≡ o
        → point_name space i name (option_and_then (row table) o) ≡ Some whole
    through i q at dir way None none = in_node i q none at dir way
    through i q at dir way (Some j) is =
        let l = located_some table (name ∷ t) j is in
        ap (point_name space i name) l.there ∙ source_called j l.mount l.there ∙ ap Some (sym (host_some bindings name t j is ∙ source_text table j l.mount l.there))

    pub named_so : (x q : Host) → reach (host_of bindings t) ≡ Some x → is_directory_at tree x ≡ true → reach whole ≡ Some q → named_name space k x name ≡ Some whole
    named_so (Node i) q at dir way =
        let called = reached-named tree space.user (host_of bindings t) i (node_reached space set (host_of bindings t) i at) in
        let same : row_at table k i name ≡ option_and_then (row table) (located bindings (name ∷ t)) =
        same_number table (position (stands_at (is_point k i name)) table) (located bindings (name ∷ t)) (down_is_located space set k i t mount called dir name) in
        ap (point_name space i name) same ∙ through i q at dir way (located bindings (name ∷ t)) refl
    named_so (Proc i up) q at dir way = in_processes i q (space.finds (Some up) name) (there_in (Proc i up) q (none_there (located bindings (name ∷ t)) refl) at way) way
      where
        none_there : (o : Option ℕ) → located bindings (name ∷ t) ≡ o → located bindings (name ∷ t) ≡ None
        none_there None is = is
        none_there (Some j) is =
            let b = mount_below space set name t j is in
            let clash : Proc i up ≡ Node b.point.dir = named_alone tree space.user space.finds (host_of bindings t) b.point.dir (Proc i up) b.dir at in absurd cc
