-- What stays in a tree in which names are made.
use Rattle.std.proofs.Common.{◌≡◌, ◌≢◌, ◌<◌, ℕ, Bool, true, false, List, [], ◌∷◌, ◌++◌, cond, Option, Some, None, refl, ap, sym, ◌∙◌, arith}
use Rattle.std.specs.List.{find}
use Rattle.std.specs.Option.{option_map, option_map_or, option_and_then}
use Rattle.std.proofs.lemmas.Slice.Eq.{bytes_eq-Decides}
use Rattle.std.specs.Str.{bytes_eq}
use Rattle.pt_bind.proofs.pr_base.MapLemmas.{get-insert_other, get-changed_same}
use Rattle.pt_bind.specs.pr_base.Texts.{Text}
use Rattle.kr_walk.specs.kr_inode.Inode.{Node as NodeData}
use Rattle.kr_walk.specs.kr_inode.declared.user.Right.TheVariants.{Search}
use Rattle.kr_walk.specs.kr_inode.declared.user.User.{User}
use Rattle.kr_walk.specs.kr_tree.declared.place.Host.{Host}
use Rattle.kr_walk.specs.kr_tree.declared.place.Host.TheVariants.{Node, Proc}
use Rattle.kr_walk.specs.kr_tree.declared.place.Place.{Place}
use Rattle.kr_walk.specs.kr_tree.Changes.{fresh, next_standing, with_entries, with_entry, with_inode, with_standing}
use Rattle.kr_walk.specs.kr_tree.Lawful.{IsSound}
use Rattle.kr_walk.specs.kr_tree.Names.{named, reached}
use Rattle.kr_walk.specs.kr_tree.Rights.{allows, may}
use Rattle.kr_walk.specs.kr_tree.Tree.{Tree, Inode, Entry, Body, Directory, RegularFile, SymbolicLink, ProcessDirectory, body, body_is, entries_of, entry, entry_named, inode, is_directory, is_listed, takes_names}
use Rattle.kr_walk.proofs.kr_tree.EntryLemmas.{filled_body, last_step, step_more}
use Rattle.kr_walk.proofs.kr_tree.NameLemmas.{map_some, then_some}
use Rattle.kr_walk.specs.kr_view.View.{Row, down, node_in}
use Rattle.kr_mounts.specs.Growth.{HasAllBefore}
use Rattle.kr_mounts.specs.Points.{made, new_body, new_mode}
use Rattle.kr_mounts.specs.Standing.{behind, led, next_by_name}

found_more : (p : Entry → Bool) (es more : List Entry) (e : Entry) → find p es ≡ Some e → find p (es ++ more) ≡ Some e
found_more p [] more e h = absurd cc
found_more p (x ∷ es) more e h =
    elim (p x) as (λ b. cond b (Some x) (find p es) ≡ Some e → cond b (Some x) (find p (es ++ more)) ≡ Some e) [ true ↦ λ h. h | false ↦ λ h. found_more p es more e h ] h

found_last : (p : Entry → Bool) (es : List Entry) (e : Entry) → find p es ≡ None → p e ≡ true → find p (es ++ e ∷ []) ≡ Some e
found_last p [] e h is = ap (λ b. cond b (Some e) None) is
found_last p (x ∷ es) e h is =
    elim (p x) as (λ b. cond b (Some x) (find p es) ≡ None → cond b (Some x) (find p (es ++ e ∷ [])) ≡ Some e) [ true ↦ λ h. absurd cc | false ↦ λ h. found_last p es e h is ] h

pub test_there : (test : Body → Bool) (o : Option Inode) → option_map_or (λ x. test x.node.body) o false ≡ true → (x : Inode) × (o ≡ Some x) × (test x.node.body ≡ true)
test_there test None h = absurd cc
test_there test (Some x) h = (x, refl, h)

allowed_there : (user : User) (o : Option Inode) → option_map_or (λ (n : NodeData). allows user n Search) (option_map (λ (x : Inode). x.node) o) false ≡ true → (x : Inode) × (o ≡ Some x) × (allows user x.node Search ≡ true)
allowed_there user None h = absurd cc
allowed_there user (Some x) h = (x, refl, h)

listed_same : (f : List Entry → List Entry) (b : Body) → is_listed (with_entries f b) ≡ is_listed b
listed_same f (Directory entries standing) = refl
listed_same f (RegularFile bytes) = refl
listed_same f (SymbolicLink text) = refl
listed_same f (ProcessDirectory standing) = refl

directory_same : (f : List Entry → List Entry) (b : Body) → is_directory (with_entries f b) ≡ is_directory b
directory_same f (Directory entries standing) = refl
directory_same f (RegularFile bytes) = refl
directory_same f (SymbolicLink text) = refl
directory_same f (ProcessDirectory standing) = refl

takes_same : (f : List Entry → List Entry) (b : Body) → takes_names (with_entries f b) ≡ takes_names b
takes_same f (Directory entries (Some standing)) = refl
takes_same f (Directory entries None) = refl
takes_same f (RegularFile bytes) = refl
takes_same f (SymbolicLink text) = refl
takes_same f (ProcessDirectory standing) = refl

takes_listed : (b : Body) → takes_names b ≡ true → is_listed b ≡ true
takes_listed (Directory entries standing) h = refl
takes_listed (RegularFile bytes) h = absurd cc
takes_listed (SymbolicLink text) h = absurd cc
takes_listed (ProcessDirectory standing) h = absurd cc

listed_directory : (b : Body) → is_listed b ≡ true → is_directory b ≡ true
listed_directory (Directory entries standing) h = refl
listed_directory (RegularFile bytes) h = absurd cc
listed_directory (SymbolicLink text) h = absurd cc
listed_directory (ProcessDirectory standing) h = absurd cc

pub lists : (t : Tree) (i : ℕ) → body_is takes_names t i ≡ true → body_is is_listed t i ≡ true
lists t i h =
    let x = test_there takes_names (inode t i) h in
    ap (λ o. option_map_or (λ (x : Inode). is_listed x.node.body) o false) x.1 ∙ takes_listed x.0.node.body x.2

pub is_a_directory : (t : Tree) (i : ℕ) → body_is is_listed t i ≡ true → body_is is_directory t i ≡ true
is_a_directory t i h =
    let x = test_there is_listed (inode t i) h in
    ap (λ o. option_map_or (λ (x : Inode). is_directory x.node.body) o false) x.1 ∙ listed_directory x.0.node.body x.2

module _ (t v : Tree) (before : HasAllBefore t v) where
  pub entry_stays : (dir : ℕ) (name : List ℕ) (i : ℕ) → entry t dir name ≡ Some i → entry v dir name ≡ Some i
  entry_stays dir name i h =
      let d = filled_body t dir name i h in
      let x = map_some (λ (x : Inode). x.node.body) (inode t dir) (Directory d.0 d.1) d.2 in
      let y = before.inodes dir x.0 x.1 in
      let kept : y.0.node.body ≡ Directory (d.0 ++ y.2.more) d.1 = y.2.body ∙ ap (with_entries (λ es. es ++ y.2.more)) x.2 in
      let P : Option Inode → Option ℕ = λ o. option_map (λ (e : Entry). e.inode) (entry_named name (option_map_or (λ (x : Inode). entries_of x.node.body) o [])) in
      let Q : Body → Option ℕ = λ b. option_map (λ (e : Entry). e.inode) (entry_named name (entries_of b)) in
      let was : Q (Directory d.0 d.1) ≡ Some i = sym (ap P x.1 ∙ ap Q x.2) ∙ h in
      let e = map_some (λ (e : Entry). e.inode) (entry_named name d.0) i was in
      ap P y.1 ∙ ap Q kept ∙ ap (option_map (λ (e : Entry). e.inode)) (found_more (λ e. bytes_eq name e.name) d.0 y.2.more e.0 e.1) ∙ ap Some e.2

  pub listed_stays : (i : ℕ) → body_is is_listed t i ≡ true → body_is is_listed v i ≡ true
  listed_stays i h =
      let x = test_there is_listed (inode t i) h in
      let y = before.inodes i x.0 x.1 in
      ap (λ o. option_map_or (λ (x : Inode). is_listed x.node.body) o false) y.1 ∙ ap is_listed y.2.body ∙ listed_same (λ es. es ++ y.2.more) x.0.node.body ∙ x.2

  pub takes_stays : (i : ℕ) → body_is takes_names t i ≡ true → body_is takes_names v i ≡ true
  takes_stays i h =
      let x = test_there takes_names (inode t i) h in
      let y = before.inodes i x.0 x.1 in
      ap (λ o. option_map_or (λ (x : Inode). takes_names x.node.body) o false) y.1 ∙ ap takes_names y.2.body ∙ takes_same (λ es. es ++ y.2.more) x.0.node.body ∙ x.2

  pub kind_stays : (i : ℕ) (b : Bool) → option_map is_directory (body t i) ≡ Some b → option_map is_directory (body v i) ≡ Some b
  kind_stays i b h =
      let c = map_some is_directory (body t i) b h in
      let x = map_some (λ (x : Inode). x.node.body) (inode t i) c.0 c.1 in
      let y = before.inodes i x.0 x.1 in
      ap (λ o. option_map is_directory (option_map (λ (x : Inode). x.node.body) o)) y.1
      ∙ ap (λ b. Some (is_directory b)) y.2.body ∙ ap Some (directory_same (λ es. es ++ y.2.more) x.0.node.body) ∙ ap (λ b. Some (is_directory b)) x.2 ∙ ap Some c.2

  pub named_stays : (text : Text) (i : ℕ) → named t text ≡ Some i → named v text ≡ Some i
  named_stays [] i h = h
  named_stays (name ∷ text) i h =
      let up = then_some (λ dir. entry t dir name) (named t text) i h in
      ap (option_and_then (λ dir. entry v dir name)) (named_stays text up.0 up.1) ∙ entry_stays up.0 name i up.2

  search_stays : (user : User) (i : ℕ) → may t user i Search ≡ true → may v user i Search ≡ true
  search_stays user i h =
      let x = allowed_there user (inode t i) h in
      let y = before.inodes i x.0 x.1 in
      ap (λ o. option_map_or (λ (n : NodeData). allows user n Search) (option_map (λ (x : Inode). x.node) o) false) y.1
      ∙ (λ j. allows user (record { mode = y.2.mode j; uid = y.2.uid j; gid = y.2.gid j; body = y.0.node.body }) Search) ∙ x.2

  pub reached_stays : (user : User) (text : Text) (i : ℕ) → reached t user text ≡ Some i → reached v user text ≡ Some i
  reached_stays user [] i h = h
  reached_stays user (name ∷ text) i h =
      let s = last_step t user text name i h in
      step_more v user text name s.dir i (reached_stays user text s.dir s.way) (search_stays user s.dir s.search) (entry_stays s.dir name i s.there)

  behind_stays : (mount dir : ℕ) (name : List ℕ) (o : Option (Place ℕ)) (q : Place ℕ) → behind mount (entry t dir name) o ≡ Some q → behind mount (entry v dir name) o ≡ Some q
  behind_stays mount dir name (Some p) q h = h
  behind_stays mount dir name None q h =
      let e = map_some (node_in mount) (entry t dir name) q h in
      ap (option_map (node_in mount)) (entry_stays dir name e.0 e.1) ∙ ap Some e.2

  next_stays : (table : List Row) (name : List ℕ) (mount : ℕ) (h : Host) (q : Place ℕ) → next_by_name table t name mount h ≡ Some q → next_by_name table v name mount h ≡ Some q
  next_stays table name mount (Node dir) q is = behind_stays mount dir name (down table mount dir name) q is
  next_stays table name mount (Proc i at) q is = is

  pub led_stays : (table : List Row) (text : Text) (q : Place ℕ) → led table t text ≡ Some q → led table v text ≡ Some q
  led_stays table [] q h = h
  led_stays table (name ∷ text) q h =
      let up = then_some (λ (p : Place ℕ). next_by_name table t name p.mount p.host) (led table t text) q h in
      ap (option_and_then (λ (p : Place ℕ). next_by_name table v name p.mount p.host)) (led_stays table text up.0 up.1) ∙ next_stays table name up.0.mount up.0.host q up.2

-- what is made is there
pub new_there : (user : User) (t : Tree) → IsSound t → (dir : ℕ) (name : List ℕ) (is_dir : Bool) → body_is takes_names t dir ≡ true → entry t dir name ≡ None → entry (made t user dir name is_dir) dir name ≡ Some t.next
new_there user t sound dir name is_dir takes free =
    let x = test_there takes_names (inode t dir) takes in
    let P : Option Inode → Option ℕ = λ o. option_map (λ (e : Entry). e.inode) (entry_named name (option_map_or (λ (x : Inode). entries_of x.node.body) o [])) in
    let below : dir < t.next = (sound.numbered dir x.0 x.1).1 in
    let old : dir ≢ t.next = λ e. (let no : ⊥ = omega arith in no) in
    let there : inode (made t user dir name is_dir) dir ≡ Some (with_entry name t.next (is_directory (new_body is_dir)) x.0) =
    get-insert_other (with_inode dir (with_entry name t.next (is_directory (new_body is_dir))) t.inodes) t.next (fresh (new_mode is_dir) user.uid user.gid (with_standing (next_standing t dir) (new_body is_dir))) dir old
    ∙ get-changed_same t.inodes dir (with_entry name t.next (is_directory (new_body is_dir))) ∙ ap (option_map (with_entry name t.next (is_directory (new_body is_dir)))) x.1 in
    ap P there ∙ at x.0.next_serial x.0.node.body x.2 (sym (ap P x.1) ∙ free)
  where
    none_there : (o : Option Entry) → option_map (λ (e : Entry). e.inode) o ≡ None → o ≡ None
    none_there None h = refl
    none_there (Some e) h = absurd cc

    at : (serial : ℕ) (b : Body) → takes_names b ≡ true → option_map (λ (e : Entry). e.inode) (entry_named name (entries_of b)) ≡ None
        → option_map (λ (e : Entry). e.inode) (entry_named name (entries_of (with_entries (λ es. es ++ record { name = name; serial = serial; inode = t.next } ∷ []) b))) ≡ Some t.next
    at serial (Directory es standing) h none =
        let own : Entry = record { name = name; serial = serial; inode = t.next } in
        ap (option_map (λ (e : Entry). e.inode)) (found_last (λ e. bytes_eq name e.name) es own (none_there (entry_named name es) none) ((bytes_eq-Decides name name).1 refl))
    at serial (RegularFile bytes) h none = absurd cc
    at serial (SymbolicLink text) h none = absurd cc
    at serial (ProcessDirectory standing) h none = absurd cc
