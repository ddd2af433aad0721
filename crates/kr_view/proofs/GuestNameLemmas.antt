-- Guest names.
use Rattle.std.proofs.Common.{◌≡◌, ℕ, Bool, true, false, Option, Some, None, List, [], ◌++◌, refl, sym, ap, ◌∙◌, append-nil, drop, nat_eq}
use Rattle.std.specs.Bool.{if◌then◌else◌}
use Rattle.std.specs.Option.{option_map, option_and_then}
use Rattle.std.proofs.lemmas.Bool.{eq-eqb}
use Rattle.kr_tree.specs.pr_base.Paths.{below_root, text_of}
use Rattle.kr_tree.proofs.pr_base.PathLemmas.{below_root_append}
use Rattle.kr_tree.proofs.pr_base.TextLemmas.{some_is, map_some, below_found, below_there}
use Rattle.kr_tree.specs.declared.place.Host.{Host}
use Rattle.kr_tree.specs.declared.place.Host.TheVariants.{Node, Proc}
use Rattle.kr_tree.specs.declared.place.Place.{Place}
use Rattle.kr_tree.specs.declared.place.ProcAt.{ProcAt}
use Rattle.kr_tree.specs.Lawful.{IsSound}
use Rattle.kr_tree.specs.Names.{host_name}
use Rattle.kr_tree.specs.Tree.{Tree, body_is, is_directory}
use Rattle.kr_tree.proofs.NameLemmas.{host_name-of_root, no_directory_name}
use Rattle.kr_view.specs.View.{Row, row, node_in, plain, plain_row}
use Rattle.kr_view.specs.Component.{Namespace, is_directory_at, is_process_directory}
use Rattle.kr_view.specs.Names.{Text, below, names_below, names_down, Remembered, host_entry, guest_directory, guest_entry, is_file_source, guest_source, guest_below, guest_node, guest_process, guest_object, process_object_name, object_name, guest_name}

-- all is below the root, and stays as it is
below_the_root : (text : Option Text) → option_map (λ names. names ++ []) (option_and_then (names_below []) text) ≡ text
below_the_root None = refl
below_the_root (Some text) =
    ap (λ t. option_map (λ names. names ++ []) (names_below [] t)) (sym (append-nil text)) ∙ ap (option_map (λ names. names ++ [])) (below_there [] text) ∙ ap Some (append-nil text)

-- ---- directories

-- what has a host name is a directory
named_directory : (t : Tree) → IsSound t → (i : ℕ) (text : Text) → host_name t i ≡ Some text → body_is is_directory t i ≡ true
named_directory t sound i text named = at (body_is is_directory t i) refl
  where
    at : (b : Bool) → body_is is_directory t i ≡ b → b ≡ true
    at true is = refl
    at false is = let clash : None ≡ Some text = sym (no_directory_name t sound i is) ∙ named in absurd cc

-- the source that is a directory isn't called by its place alone
no_file : (r : Row) (i : ℕ) → r.is_dir ≡ true → is_file_source (Some r) i ≡ false
no_file r i kind = ap (λ b. if b then false else nat_eq r.source i) kind

module _ (t : Tree) (r : Row) (kind : r.is_dir ≡ true) where
  node_directory : (i : ℕ) (remembered : Remembered) → body_is is_directory t i ≡ true → guest_node t (Some r) i remembered ≡ guest_directory t (Some r) i
  node_directory i remembered is =
      ap (λ b. if b then guest_source (Some r) remembered else guest_below t (Some r) i remembered) (no_file r i kind)
      ∙ ap (λ b. if b then guest_directory t (Some r) i else guest_entry t (Some r) remembered) is

  node_other : (i : ℕ) (remembered : Remembered) → body_is is_directory t i ≡ false → guest_node t (Some r) i remembered ≡ guest_entry t (Some r) remembered
  node_other i remembered is =
      ap (λ b. if b then guest_source (Some r) remembered else guest_below t (Some r) i remembered) (no_file r i kind)
      ∙ ap (λ b. if b then guest_directory t (Some r) i else guest_entry t (Some r) remembered) is

  down_from : (i : ℕ) (top text : Option Text) → host_name t r.source ≡ top → host_name t i ≡ text
      → guest_directory t (Some r) i ≡ option_map (λ names. names ++ r.text.location) (option_and_then (λ high. option_and_then (names_below high) text) top)
  down_from i top text above named =
      ap (λ o. option_map (λ names. names ++ r.text.location) (option_and_then (λ high. option_and_then (names_below high) (host_name t i)) o)) above
      ∙ ap (λ o. option_map (λ names. names ++ r.text.location) (option_and_then (λ high. option_and_then (names_below high) o) top)) named

  below_it : (i : ℕ) (top names : Text) → host_name t r.source ≡ Some top → host_name t i ≡ Some (names ++ top) → guest_directory t (Some r) i ≡ Some (names ++ r.text.location)
  below_it i top names above named = down_from i (Some top) (Some (names ++ top)) above named ∙ ap (option_map (λ names. names ++ r.text.location)) (below_there top names)

  only_it : (i : ℕ) (guest : Text) (top text : Option Text) → host_name t r.source ≡ top → host_name t i ≡ text → guest_directory t (Some r) i ≡ Some guest
      → (high : Text) × (names : Text) × (host_name t r.source ≡ Some high) × (host_name t i ≡ Some (names ++ high)) × (guest ≡ names ++ r.text.location)
  only_it i guest None text above named h = let none : None ≡ Some guest = sym (down_from i None text above named) ∙ h in absurd cc
  only_it i guest (Some high) None above named h = let none : None ≡ Some guest = sym (down_from i (Some high) None above named) ∙ h in absurd cc
  only_it i guest (Some high) (Some text) above named h =
      let m = map_some (λ names. names ++ r.text.location) (names_below high text) guest (sym (down_from i (Some high) (Some text) above named) ∙ h) in
      (high, m.0, above, named ∙ ap Some (below_found high text m.0 m.1), sym m.2)

-- ---- places

module _ (space : Namespace) where
  in_row : (k i : ℕ) (r : Row) (remembered : Remembered) → row space.table k ≡ Some r → guest_name space (node_in k i) remembered ≡ guest_node space.tree (Some r) i remembered
  in_row k i r remembered there = ap (λ o. guest_node space.tree o i remembered) there

  pub file_source : (k : ℕ) (r : Row) (e : ℕ × List ℕ) → row space.table k ≡ Some r → r.is_dir ≡ false → guest_name space (node_in k r.source) (Some e) ≡ Some r.text.location
  file_source k r e there kind =
      in_row k r.source r (Some e) there
      ∙ ap (λ b. if b then Some r.text.location else guest_below space.tree (Some r) r.source (Some e)) is
    where
      is : is_file_source (Some r) r.source ≡ true
      is = ap (λ b. if b then false else nat_eq r.source r.source) kind ∙ eq-eqb r.source r.source refl

  pub below_source : (k i : ℕ) (r : Row) (remembered : Remembered) (top names : Text) → IsSound space.tree → row space.table k ≡ Some r → r.is_dir ≡ true
      → host_name space.tree r.source ≡ Some top → host_name space.tree i ≡ Some (names ++ top) → guest_name space (node_in k i) remembered ≡ Some (names ++ r.text.location)
  below_source k i r remembered top names sound there kind above named =
      in_row k i r remembered there ∙ node_directory space.tree r kind i remembered (named_directory space.tree sound i (names ++ top) named) ∙ below_it space.tree r kind i top names above named

  pub directory_source : (k : ℕ) (r : Row) (remembered : Remembered) (top : Text) → IsSound space.tree → row space.table k ≡ Some r → r.is_dir ≡ true → host_name space.tree r.source ≡ Some top
      → guest_name space (node_in k r.source) remembered ≡ Some r.text.location
  directory_source k r remembered top sound there kind above = below_source k r.source r remembered top [] sound there kind above above

  pub removed_source : (k : ℕ) (r : Row) (remembered : Remembered) → row space.table k ≡ Some r → r.is_dir ≡ true → body_is is_directory space.tree r.source ≡ true → host_name space.tree r.source ≡ None
      → guest_name space (node_in k r.source) remembered ≡ None
  removed_source k r remembered there kind is none =
      in_row k r.source r remembered there ∙ node_directory space.tree r kind r.source remembered is ∙ down_from space.tree r kind r.source None None none none

  pub only_below : (k i : ℕ) (r : Row) (remembered : Remembered) (guest : Text) → row space.table k ≡ Some r → r.is_dir ≡ true → body_is is_directory space.tree i ≡ true → guest_name space (node_in k i) remembered ≡ Some guest
      → (top : Text) × (names : Text) × (host_name space.tree r.source ≡ Some top) × (host_name space.tree i ≡ Some (names ++ top)) × (guest ≡ names ++ r.text.location)
  only_below k i r remembered guest there kind is h =
      only_it space.tree r kind i guest (host_name space.tree r.source) (host_name space.tree i) refl refl (sym (in_row k i r remembered there ∙ node_directory space.tree r kind i remembered is) ∙ h)

  pub entries : (k i dir : ℕ) (r : Row) (name : List ℕ) → row space.table k ≡ Some r → r.is_dir ≡ true → body_is is_directory space.tree i ≡ false → body_is is_directory space.tree dir ≡ true
      → guest_name space (node_in k i) (Some (dir, name)) ≡ below name (guest_name space (node_in k dir) None)
  entries k i dir r name there kind other is =
      in_row k i r (Some (dir, name)) there ∙ node_other space.tree r kind i (Some (dir, name)) other ∙ ap (below name) (sym (in_row k dir r None there ∙ node_directory space.tree r kind dir None is))

  -- what is no directory and remembers no entry
  nameless_node : (r : Option Row) (i : ℕ) (source : Bool) → body_is is_directory space.tree i ≡ false → (if source then guest_source r None else guest_below space.tree r i None) ≡ None
  nameless_node r i true file = refl
  nameless_node r i false file = ap (λ b. if b then guest_directory space.tree r i else guest_entry space.tree r None) file

  nameless_object : (r : Option Row) (x : Host) → is_directory_at space.tree x ≡ false → guest_object space r x None ≡ None
  nameless_object r (Node i) file = nameless_node r i (is_file_source r i) file
  nameless_object r (Proc i at) file = ap (λ b. if b then process_object_name space at (guest_directory space.tree r i) else guest_entry space.tree r None) file

  pub nameless : (p : Place ℕ) → is_directory_at space.tree p.host ≡ false → guest_name space p None ≡ None
  nameless p file = nameless_object (row space.table p.mount) p.host file

  pub processes : (k i : ℕ) (at : ProcAt) (r : Row) (remembered : Remembered) → row space.table k ≡ Some r → r.is_dir ≡ true → body_is is_directory space.tree i ≡ true → is_process_directory at ≡ true
      → guest_name space (record { mount = k; host = Proc i at }) remembered ≡ process_object_name space at (guest_name space (node_in k i) None)
  processes k i at r remembered there kind is directory =
      ap (λ o. guest_process space o i at remembered) there
      ∙ ap (λ b. if b then process_object_name space at (guest_directory space.tree (Some r) i) else guest_entry space.tree (Some r) remembered) directory
      ∙ ap (process_object_name space at) (sym (in_row k i r None there ∙ node_directory space.tree r kind i None is))

  -- ---- the host's own view

  plain_directory : IsSound space.tree → (i : ℕ) → guest_directory space.tree (Some plain_row) i ≡ host_name space.tree i
  plain_directory sound i = down_from space.tree plain_row refl i (Some []) (host_name space.tree i) (host_name-of_root space.tree sound) refl ∙ below_the_root (host_name space.tree i)

  plain_entry : IsSound space.tree → (remembered : Remembered) → guest_entry space.tree (Some plain_row) remembered ≡ host_entry space.tree remembered
  plain_entry sound None = refl
  plain_entry sound (Some e) = ap (below e.1) (plain_directory sound e.0)

  plain_object : IsSound space.tree → (host : Host) (remembered : Remembered) → guest_object space (Some plain_row) host remembered ≡ object_name space host remembered
  plain_object sound (Node i) remembered =
      ap (λ o. if body_is is_directory space.tree i then o else guest_entry space.tree (Some plain_row) remembered) (plain_directory sound i)
      ∙ ap (λ o. if body_is is_directory space.tree i then host_name space.tree i else o) (plain_entry sound remembered)
  plain_object sound (Proc i at) remembered =
      ap (λ o. if is_process_directory at then process_object_name space at o else guest_entry space.tree (Some plain_row) remembered) (plain_directory sound i)
      ∙ ap (λ o. if is_process_directory at then process_object_name space at (host_name space.tree i) else o) (plain_entry sound remembered)

  pub plain_view : (p : Place ℕ) (remembered : Remembered) → IsSound space.tree → space.table ≡ plain → p.mount ≡ 0 → guest_name space p remembered ≡ object_name space p.host remembered
  plain_view p remembered sound is_plain mount =
      ap (λ table. guest_object space (row table p.mount) p.host remembered) is_plain ∙ ap (λ k. guest_object space (row plain k) p.host remembered) mount ∙ plain_object sound p.host remembered

-- ---- bytes

-- the location, and what is left of the host name behind the source's
pub moved_bytes : (t : Tree) (o : Option Row) (r : Row) (dir end : ℕ) (name location guest : List ℕ) → o ≡ Some r → Some (drop end name) ≡ option_map below_root (names_down t r.source dir)
    → location ≡ below_root r.text.location → guest ≡ location ++ drop end name → Some guest ≡ option_map below_root (guest_directory t o dir)
moved_bytes t o r dir end name location guest there down located whole =
    let m = map_some below_root (names_down t r.source dir) (drop end name) (sym down) in
    ap Some (whole ∙ ap (λ l. l ++ drop end name) located ∙ ap (λ b. below_root r.text.location ++ b) (sym m.2) ∙ sym (below_root_append m.0 r.text.location))
    ∙ ap (λ o. option_map below_root (option_map (λ names. names ++ r.text.location) o)) (sym m.1)
    ∙ ap (λ o. option_map below_root (guest_directory t o dir)) (sym there)

-- a directory that isn't below the source has no guest name
pub no_bytes : (t : Tree) (o : Option Row) (r : Row) (dir : ℕ) → o ≡ Some r → None ≡ option_map below_root (names_down t r.source dir) → ◌≡◌ {A = Option (List ℕ)} None (option_map below_root (guest_directory t o dir))
no_bytes t o r dir there down = none (names_down t r.source dir) down ∙ ap (λ o. option_map below_root (guest_directory t o dir)) (sym there)
  where
    none : (names : Option Text) → None ≡ option_map below_root names → ◌≡◌ {A = Option (List ℕ)} None (option_map below_root (option_map (λ names. names ++ r.text.location) names))
    none None h = refl
    none (Some names) h = absurd cc

-- the text of a name from its bytes below the root
pub rooted_text : (names : Option Text) (bytes text : List ℕ) → Some bytes ≡ option_map below_root names → ((names : Text) → bytes ≡ below_root names → text ≡ text_of names) → Some text ≡ option_map text_of names
rooted_text None bytes text is rooted = absurd cc
rooted_text (Some names) bytes text is rooted = ap Some (rooted names (some_is bytes (below_root names) is))

pub no_text : (names : Option Text) → None ≡ option_map below_root names → ◌≡◌ {A = Option (List ℕ)} None (option_map text_of names)
no_text None h = refl
no_text (Some names) h = absurd cc
