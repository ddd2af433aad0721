-- Guest names of places in the process directory.
use Rattle.std.proofs.Common.{◌≡◌, ℕ, Bool, true, false, List, [], ◌∷◌, ◌++◌, Option, Some, None, All, nat_eq, refl, sym, ap, subst, ◌∙◌}
use Rattle.std.specs.Bool.{if◌then◌else◌}
use Rattle.std.specs.Option.{option_map, option_map_or, option_and_then}
use Rattle.std.proofs.lemmas.Bool.{eqb-true, false≢true}
use Rattle.std.proofs.lemmas.List.Elements.{All-nil, All-cons, All-head, All-tail, All-append}
use Rattle.std.proofs.lemmas.Option.{same_Some, none-some}
use Rattle.kr_ops.specs.pr_base.Paths.{text_of, IsName, AreNames}
use Rattle.kr_ops.specs.kr_tree.Lawful.{IsSound}
use Rattle.kr_ops.specs.kr_tree.Names.{host_name, process_names}
use Rattle.kr_ops.specs.kr_tree.Tree.{Tree, Inode, inode, Body, Directory, RegularFile, SymbolicLink, ProcessDirectory, body, body_is, is_directory}
use Rattle.kr_ops.specs.kr_tree.declared.place.Host.TheVariants.{Proc}
use Rattle.kr_ops.specs.kr_tree.declared.place.ProcAt.{ProcAt}
use Rattle.kr_ops.specs.kr_tree.declared.place.ProcAt.TheVariants.{SelfLink, Dir, Cwd, Root, Exe, FdDir, Fd}
use Rattle.kr_ops.proofs.kr_tree.NameLemmas.{host_names-lead, no_directory_name}
use Rattle.kr_ops.specs.kr_view.View.{Row, StandsIn, row, is_there}
use Rattle.kr_ops.specs.kr_view.Component.{Namespace, is_process_directory, is_processes}
use Rattle.kr_ops.specs.kr_view.Names.{Text, guest_below, guest_directory, guest_node, guest_entry, guest_source, is_file_source, names_below, process_name, process_object_name}
use Rattle.kr_ops.proofs.kr_view.GuestNameLemmas.{only_below}
use Rattle.kr_ops.specs.kr_model.ProcessDirectory.{name_text, remembered}
use Rattle.kr_seen.specs.Standing.{is_shown_directory}

processes-directory : (t : Tree) (i : ℕ) → body_is is_processes t i ≡ true → body_is is_directory t i ≡ true
processes-directory t i h = by (inode t i) h
  where
    kind : (b : Body) → is_processes b ≡ true → is_directory b ≡ true
    kind (Directory entries standing) h = absurd (false≢true h)
    kind (RegularFile bytes) h = absurd (false≢true h)
    kind (SymbolicLink text) h = absurd (false≢true h)
    kind (ProcessDirectory standing) h = refl

    by : (o : Option Inode) → option_map_or (λ (x : Inode). is_processes x.node.body) o false ≡ true → option_map_or (λ (x : Inode). is_directory x.node.body) o false ≡ true
    by None h = absurd (false≢true h)
    by (Some x) h = kind x.node.body h

no-directory : (t : Tree) (i : ℕ) → option_map is_directory (body t i) ≡ Some false → body_is is_directory t i ≡ false
no-directory t i h = by (inode t i) h
  where
    by : (o : Option Inode) → option_map is_directory (option_map (λ (x : Inode). x.node.body) o) ≡ Some false → option_map_or (λ (x : Inode). is_directory x.node.body) o false ≡ false
    by None h = refl
    by (Some x) h = same_Some (is_directory x.node.body) false h

All-front : {A : Type 0} (P : A → Type 0) (xs ys : List A) → All P (xs ++ ys) → All P xs
All-front P [] ys all = All-nil P
All-front P (x ∷ xs) ys all = All-cons P x xs (All-head P x (xs ++ ys) all) (All-front P xs ys (All-tail P x (xs ++ ys) all))

module _ (space : Namespace) (sound : IsSound space.tree) (stands : StandsIn space.tree space.table) (k i : ℕ) (processes : body_is is_processes space.tree i ≡ true) where
  abbrev top : Option Text
  top = guest_directory space.tree (row space.table k) i

  listed : body_is is_directory space.tree i ≡ true
  listed = processes-directory space.tree i processes

  -- the source that is no directory isn't the process directory
  no-file-source : (r : Row) → row space.table k ≡ Some r → is_file_source (Some r) i ≡ false
  no-file-source r there = kind r.is_dir refl
    where
      same : (b : Bool) → nat_eq r.source i ≡ b → r.is_dir ≡ false → b ≡ false
      same false e file = refl
      same true e file =
          let source : r.source ≡ i = eqb-true r.source i e in
          absurd (false≢true (sym (no-directory space.tree r.source (stands.sources k r there ∙ ap Some file)) ∙ ap (body_is is_directory space.tree) source ∙ listed))

      kind : (b : Bool) → r.is_dir ≡ b → (if r.is_dir then false else nat_eq r.source i) ≡ false
      kind true e = ap (λ b. if b then false else nat_eq r.source i) e
      kind false e = ap (λ b. if b then false else nat_eq r.source i) e ∙ same (nat_eq r.source i) refl e

  -- so it is called as a directory
  node-directory : (r : Row) → row space.table k ≡ Some r → guest_node space.tree (Some r) i None ≡ guest_directory space.tree (Some r) i
  node-directory r there =
      ap (λ b. if b then guest_source (Some r) None else guest_below space.tree (Some r) i None) (no-file-source r there)
      ∙ ap (λ b. if b then guest_directory space.tree (Some r) i else None) listed

  called : is_there (row space.table k) ≡ true → guest_node space.tree (row space.table k) i None ≡ top
  called mounted = by (row space.table k) refl mounted
    where
      by : (o : Option Row) → row space.table k ≡ o → is_there o ≡ true → guest_node space.tree o i None ≡ guest_directory space.tree o i
      by None e h = absurd (false≢true h)
      by (Some r) e h = node-directory r e

  -- and its names are names
  names : (guest : Text) → top ≡ Some guest → AreNames guest
  names guest h = by (row space.table k) refl h
    where
      in_directory : (r : Row) → row space.table k ≡ Some r → r.is_dir ≡ true → guest_directory space.tree (Some r) i ≡ Some guest → AreNames guest
      in_directory r there kind h =
          let found = only_below space k i r None guest there kind listed (ap (λ o. guest_node space.tree o i None) there ∙ node-directory r there ∙ h) in
          let down = (host_names-lead space.tree sound i (found.1 ++ found.0) found.3).2 in
          subst AreNames (sym found.4) (All-append IsName found.1 r.text.location (All-front IsName found.1 found.0 down) (stands.lawful.location_names k r there))

      in_file : (r : Row) → row space.table k ≡ Some r → r.is_dir ≡ false → guest_directory space.tree (Some r) i ≡ Some guest → AreNames guest
      in_file r there kind h =
          let none = no_directory_name space.tree sound r.source (no-directory space.tree r.source (stands.sources k r there ∙ ap Some kind)) in
          absurd (none-some guest (sym (ap (λ o. option_map (λ names. names ++ r.text.location) (option_and_then (λ high. option_and_then (names_below high) (host_name space.tree i)) o)) none) ∙ h))

      by : (o : Option Row) → row space.table k ≡ o → guest_directory space.tree o i ≡ Some guest → AreNames guest
      by None e h = absurd (none-some guest h)
      by (Some r) e h = kind r.is_dir refl
        where
          kind : (b : Bool) → r.is_dir ≡ b → AreNames guest
          kind true is_dir = in_directory r e is_dir h
          kind false is_dir = in_file r e is_dir h

  shown-name : (at : ProcAt) → is_shown_directory space at ≡ true → process_object_name space at top ≡ process_name at top
  shown-name SelfLink h = absurd (false≢true h)
  shown-name (Dir pid) h = ap (λ b. if b then process_name (Dir pid) top else None) h
  shown-name (Cwd pid) h = absurd (false≢true h)
  shown-name (Root pid) h = absurd (false≢true h)
  shown-name (Exe pid) h = absurd (false≢true h)
  shown-name (FdDir pid) h = ap (λ b. if b then process_name (FdDir pid) top else None) h
  shown-name (Fd pid fd) h = absurd (false≢true h)

  hidden-name : (at : ProcAt) → is_process_directory at ≡ true → is_shown_directory space at ≡ false → process_object_name space at top ≡ None
  hidden-name SelfLink d h = absurd (false≢true d)
  hidden-name (Dir pid) d h = ap (λ b. if b then process_name (Dir pid) top else None) h
  hidden-name (Cwd pid) d h = absurd (false≢true d)
  hidden-name (Root pid) d h = absurd (false≢true d)
  hidden-name (Exe pid) d h = absurd (false≢true d)
  hidden-name (FdDir pid) d h = ap (λ b. if b then process_name (FdDir pid) top else None) h
  hidden-name (Fd pid fd) d h = absurd (false≢true d)

  module _ (at : ProcAt) (directory : is_process_directory at ≡ true) (dir : ℕ) (name : List ℕ) where
    by-object : name_text space (record { mount = k; host = Proc i at }) dir name ≡ option_map text_of (process_object_name space at top)
    by-object = ap (λ b. option_map text_of (if b then process_object_name space at top else guest_entry space.tree (row space.table k) (remembered dir name))) directory

    pub hidden-text : is_shown_directory space at ≡ false → None ≡ name_text space (record { mount = k; host = Proc i at }) dir name
    hidden-text h = sym (by-object ∙ ap (option_map text_of) (hidden-name at directory h))

    pub nameless-text : is_there (row space.table k) ≡ true → is_shown_directory space at ≡ true → None ≡ option_map text_of (guest_node space.tree (row space.table k) i None)
        → None ≡ name_text space (record { mount = k; host = Proc i at }) dir name
    nameless-text mounted h none = sym (by-object ∙ ap (option_map text_of) (shown-name at h) ∙ by top (sym (ap (option_map text_of) (called mounted)) ∙ sym none))
      where
        by : (o : Option Text) → option_map text_of o ≡ None → option_map text_of (process_name at o) ≡ None
        by None e = refl
        by (Some names) e = absurd (none-some (text_of names) (sym e))

    pub named-text : (text below : List ℕ) → is_there (row space.table k) ≡ true → is_shown_directory space at ≡ true → Some text ≡ option_map text_of (guest_node space.tree (row space.table k) i None)
        → ((names : List (List ℕ)) → AreNames names → text ≡ text_of names → below ≡ text_of (process_names at ++ names)) → Some below ≡ name_text space (record { mount = k; host = Proc i at }) dir name
    named-text text below mounted h some each = sym (by-object ∙ ap (option_map text_of) (shown-name at h) ∙ by top refl (sym (ap (option_map text_of) (called mounted)) ∙ sym some))
      where
        by : (o : Option Text) → top ≡ o → option_map text_of o ≡ Some text → option_map text_of (process_name at o) ≡ Some below
        by None is e = absurd (none-some text e)
        by (Some guest) is e = ap Some (sym (each guest (names guest is) (sym (same_Some (text_of guest) text e))))
