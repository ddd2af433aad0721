-- What a host text reaches, one name at a time, and what that says of the tree.
use Rattle.std.proofs.Common.{◌≡◌, ℕ, Bool, true, false, List, [], ◌∷◌, ◌++◌, Option, Some, None, refl, sym, ap, subst, ◌∙◌}
use Rattle.std.specs.Bool.{if◌then◌else◌}
use Rattle.std.specs.Option.{option_map, option_map_or, option_and_then}
use Rattle.std.proofs.lemmas.List.Elements.{All-cons, All-nil}
use Rattle.kr_tree.specs.pr_base.Paths.{IsName, AreNames}
use Rattle.kr_tree.specs.pr_base.Texts.{Text}
use Rattle.kr_tree.specs.kr_inode.declared.user.User.{User}
use Rattle.kr_tree.specs.declared.place.Host.{Host}
use Rattle.kr_tree.specs.declared.place.Host.TheVariants.{Node, Proc}
use Rattle.kr_tree.specs.declared.place.ProcAt.{ProcAt}
use Rattle.kr_tree.specs.Tree.{Tree, root, body_is, entry}
use Rattle.kr_tree.specs.Names.{named, reached, process_names}
use Rattle.kr_tree.specs.Lawful.{IsSound, HasItsInodes}
use Rattle.kr_tree.proofs.NameLemmas.{then_some, some_is}
use Rattle.kr_tree.proofs.EntryLemmas.{guarded, body_test, filled_body, entry_in_directory, entry_named_well, named_once, named_there, last_step, step_more, reached-named}
use Rattle.kr_view.specs.View.{is_there}
use Rattle.kr_view.specs.declared.procs.Lead.{Lead}
use Rattle.kr_view.specs.Component.{Finds, is_processes, is_directory_at, may_search}
use Rattle.kr_view.specs.InTree.{IsObjectOf}
use Rattle.kr_view.specs.Processes.{LawsOfProcesses}
use Rattle.kr_view.specs.HostReach.{object_in, object_searched, reaches}
use Rattle.kr_view.proofs.ProcessNameLemmas.{found_under_name}
use Rattle.kr_view.specs.ReachLaws.{IsBelowProcesses, ReachesGoByNames, ReachesAreSound}

-- ---- one name more

-- the last step of a way over hosts
pub record LastObject (t : Tree) (user : User) (finds : Finds) (text : Text) (name : List ℕ) (x : Host) : Type 0 where
  pub dir : Host
  pub way : reaches t user finds text ≡ Some dir
  pub is_dir : is_directory_at t dir ≡ true
  pub search : may_search t user dir ≡ true
  pub there : object_in t finds name dir ≡ Some x

pub last_object : (t : Tree) (user : User) (finds : Finds) (text : Text) (name : List ℕ) (x : Host) → reaches t user finds (name ∷ text) ≡ Some x → LastObject t user finds text name x
last_object t user finds text name x e =
    let up = then_some (object_searched t user finds name) (reaches t user finds text) x e in
    let dir = guarded (is_directory_at t up.0) (if may_search t user up.0 then object_in t finds name up.0 else None) x up.2 in
    let open_ = guarded (may_search t user up.0) (object_in t finds name up.0) x dir.1 in
    record { dir = up.0; way = up.1; is_dir = dir.0; search = open_.0; there = open_.1 }

pub object_more : (t : Tree) (user : User) (finds : Finds) (text : Text) (name : List ℕ) (dir x : Host) → reaches t user finds text ≡ Some dir → is_directory_at t dir ≡ true → may_search t user dir ≡ true → object_in t finds name dir ≡ Some x
    → reaches t user finds (name ∷ text) ≡ Some x
object_more t user finds text name dir x way is_dir search there =
    ap (option_and_then (object_searched t user finds name)) way ∙ ap (λ b. if b then (if may_search t user dir then object_in t finds name dir else None) else None) is_dir
    ∙ ap (λ b. if b then object_in t finds name dir else None) search ∙ there

-- ---- what stands in a directory

-- an inode in a directory is an entry of an inode
pub record IsEntryIn (t : Tree) (name : List ℕ) (dir : Host) (i : ℕ) : Type 0 where
  pub ino : ℕ
  pub is : dir ≡ Node ino
  pub there : entry t ino name ≡ Some i

pub entry_in : (t : Tree) (finds : Finds) (name : List ℕ) (dir : Host) (i : ℕ) → object_in t finds name dir ≡ Some (Node i) → IsEntryIn t name dir i
entry_in t finds name (Proc d at) i e = by (finds (Some at) name) e
  where
    by : (o : Option ProcAt) → option_map (λ found. Proc d found) o ≡ Some (Node i) → IsEntryIn t name (Proc d at) i
    by None e = absurd cc
    by (Some found) e = absurd cc
entry_in t finds name (Node d) i e = by (body_is is_processes t d) (finds None name) (entry t d name) refl e
  where
    by : (b : Bool) (o : Option ProcAt) (p : Option ℕ) → entry t d name ≡ p → (if b then option_map (λ at. Proc d at) o else option_map (λ j. Node j) p) ≡ Some (Node i) → IsEntryIn t name (Node d) i
    by true None p w e = absurd cc
    by true (Some at) p w e = absurd cc
    by false o None w e = absurd cc
    by false o (Some j) w e = let same : j ≡ i = cc in record { ino = d; is = refl; there = w ∙ ap Some same }

-- what stands in a process directory is found there, in itself or in a directory in it
pub data IsFoundIn (t : Tree) (finds : Finds) (name : List ℕ) (i : ℕ) (at : ProcAt) : Host → Type 0 where
  at_top : body_is is_processes t i ≡ true → finds None name ≡ Some at → IsFoundIn t finds name i at (Node i)
  below_top : (up : ProcAt) → finds (Some up) name ≡ Some at → IsFoundIn t finds name i at (Proc i up)

pub found_in : (t : Tree) (finds : Finds) (name : List ℕ) (dir : Host) (i : ℕ) (at : ProcAt) → object_in t finds name dir ≡ Some (Proc i at) → IsFoundIn t finds name i at dir
found_in t finds name (Proc d up) i at e = by (finds (Some up) name) refl e
  where
    by : (o : Option ProcAt) → finds (Some up) name ≡ o → option_map (λ found. Proc d found) o ≡ Some (Proc i at) → IsFoundIn t finds name i at (Proc d up)
    by None w e = absurd cc
    by (Some found) w e =
        let ino : d ≡ i = cc in
        let same : found ≡ at = cc in
        subst (λ k. IsFoundIn t finds name i at (Proc k up)) (sym ino) (below_top up (w ∙ ap Some same))
found_in t finds name (Node d) i at e = by (body_is is_processes t d) (finds None name) (entry t d name) refl refl e
  where
    by : (b : Bool) (o : Option ProcAt) (p : Option ℕ) → body_is is_processes t d ≡ b → finds None name ≡ o → (if b then option_map (λ at. Proc d at) o else option_map (λ j. Node j) p) ≡ Some (Proc i at) → IsFoundIn t finds name i at (Node d)
    by false o None k w e = absurd cc
    by false o (Some j) k w e = absurd cc
    by true None p k w e = absurd cc
    by true (Some found) p k w e =
        let ino : d ≡ i = cc in
        let same : found ≡ at = cc in
        let P : ℕ → Type 0 = λ j. IsFoundIn t finds name i at (Node j) in
        subst P (sym ino) (at_top (ap (body_is is_processes t) (sym ino) ∙ k) (w ∙ ap Some same))

-- what has an entry isn't a process directory, so the entry is what stands there
pub object_of_entry : (t : Tree) (finds : Finds) (dir : ℕ) (name : List ℕ) (i : ℕ) → entry t dir name ≡ Some i → object_in t finds name (Node dir) ≡ Some (Node i)
object_of_entry t finds dir name i e =
    let filled = filled_body t dir name i e in
    let apart : body_is is_processes t dir ≡ false = body_test is_processes t dir ∙ ap (λ o. option_map_or is_processes o false) filled.2 in
    ap (λ b. if b then option_map (λ at. Proc dir at) (finds None name) else option_map (λ j. Node j) (entry t dir name)) apart ∙ ap (option_map (λ j. Node j)) e

-- ---- what is reached among inodes

pub inode_reached : (t : Tree) (user : User) (finds : Finds) (text : Text) (i : ℕ) → reached t user text ≡ Some i → reaches t user finds text ≡ Some (Node i)
inode_reached t user finds [] i e = let same : root ≡ i = some_is root i e in ap (λ i. Some (Node i)) same
inode_reached t user finds (name ∷ text) i e =
    let s = last_step t user text name i e in
    object_more t user finds text name (Node s.dir) (Node i) (inode_reached t user finds text s.dir s.way) (entry_in_directory t s.dir name i s.there) s.search (object_of_entry t finds s.dir name i s.there)

pub reached_inode : (t : Tree) (user : User) (finds : Finds) (text : Text) (i : ℕ) → reaches t user finds text ≡ Some (Node i) → reached t user text ≡ Some i
reached_inode t user finds [] i e = let same : root ≡ i = cc in ap Some same
reached_inode t user finds (name ∷ text) i e =
    let s = last_object t user finds text name (Node i) e in
    let n = entry_in t finds name s.dir i s.there in
    step_more t user text name n.ino i (reached_inode t user finds text n.ino (s.way ∙ ap Some n.is)) (ap (may_search t user) (sym n.is) ∙ s.search) n.there

pub named_alone : (t : Tree) (user : User) (finds : Finds) (text : Text) (i : ℕ) (x : Host) → named t text ≡ Some i → reaches t user finds text ≡ Some x → x ≡ Node i
named_alone t user finds [] i x n e =
    let same : root ≡ i = some_is root i n in
    let is : Node root ≡ x = some_is (Node root) x e in
    sym is ∙ ap (λ i. Node i) same
named_alone t user finds (name ∷ text) i x n e =
    let up = then_some (λ dir. entry t dir name) (named t text) i n in
    let s = last_object t user finds text name x e in
    let same : s.dir ≡ Node up.0 = named_alone t user finds text up.0 s.dir up.1 s.way in
    some_is x (Node i) (sym s.there ∙ ap (object_in t finds name) same ∙ object_of_entry t finds up.0 name i up.2)

pub below_processes : (t : Tree) (user : User) (finds : Finds) (text : Text) (i : ℕ) (at : ProcAt) → reaches t user finds text ≡ Some (Proc i at) → IsBelowProcesses t user text i
below_processes t user finds [] i at e = absurd cc
below_processes t user finds (name ∷ text) i at e =
    let s = last_object t user finds text name (Proc i at) e in
    by s.dir s.way (λ up way. below_processes t user finds text i up way) (found_in t finds name s.dir i at s.there)
  where
    by : (dir : Host) → reaches t user finds text ≡ Some dir → ((up : ProcAt) → reaches t user finds text ≡ Some (Proc i up) → IsBelowProcesses t user text i) → IsFoundIn t finds name i at dir → IsBelowProcesses t user (name ∷ text) i
    by _ way above (at_top is found) = record { names = name ∷ []; top = text; joined = refl; reached_top = reached_inode t user finds text i way; processes = is }
    by _ way above (below_top up found) =
        let b = above up way in
        record { names = name ∷ b.names; top = b.top; joined = ap (λ text. name ∷ text) b.joined; reached_top = b.reached_top; processes = b.processes }

pub reaches_go_by_names : ReachesGoByNames
reaches_go_by_names t user finds text = record {
  inode_reached = inode_reached t user finds text;
  reached_inode = reached_inode t user finds text;
  named_alone = named_alone t user finds text;
  below_processes = below_processes t user finds text;
}

-- ---- in a tree that is kept

pub reached_there : (t : Tree) (user : User) (finds : Finds) (text : Text) (x : Host) → IsSound t → HasItsInodes t → reaches t user finds text ≡ Some x → IsObjectOf t x
reached_there t user finds text (Node i) sound inodes e =
    let x = named_there t sound inodes text i (reached-named t user text i (reached_inode t user finds text i e)) in
    ap is_there x.1
reached_there t user finds text (Proc i at) sound inodes e = (below_processes t user finds text i at e).processes

-- what stands in a directory stands under a name
pub object_name : (t : Tree) (finds : Finds) (leads : ProcAt → Lead ℕ) → IsSound t → LawsOfProcesses finds leads → (name : List ℕ) (dir x : Host) → object_in t finds name dir ≡ Some x → IsName name
object_name t finds leads sound laws name dir (Node i) e = let n = entry_in t finds name dir i e in entry_named_well t sound n.ino name i n.there
object_name t finds leads sound laws name dir (Proc i at) e = by dir (found_in t finds name dir i at e)
  where
    by : (dir : Host) → IsFoundIn t finds name i at dir → IsName name
    by _ (at_top is found) = found_under_name finds leads laws None name at found
    by _ (below_top up found) = found_under_name finds leads laws (Some up) name at found

pub reached_names : (t : Tree) (user : User) (finds : Finds) (leads : ProcAt → Lead ℕ) (text : Text) (x : Host) → IsSound t → LawsOfProcesses finds leads → reaches t user finds text ≡ Some x → AreNames text
reached_names t user finds leads [] x sound laws e = All-nil IsName
reached_names t user finds leads (name ∷ text) x sound laws e =
    let s = last_object t user finds text name x e in
    All-cons IsName name text (object_name t finds leads sound laws name s.dir x s.there) (reached_names t user finds leads text s.dir sound laws s.way)

-- what stands in a process directory has its names behind the text of that
IsNamedBelow : Tree → User → Text → ℕ → ProcAt → Type 0
IsNamedBelow t user text i at = (top : Text) × (text ≡ process_names at ++ top) × (reached t user top ≡ Some i)

pub reached_process : (t : Tree) (user : User) (finds : Finds) (leads : ProcAt → Lead ℕ) (text : Text) (i : ℕ) (at : ProcAt) → LawsOfProcesses finds leads → reaches t user finds text ≡ Some (Proc i at)
    → (top : Text) × (text ≡ process_names at ++ top) × (reached t user top ≡ Some i)
unfolding IsNamedBelow
reached_process t user finds leads [] i at laws e = absurd cc
reached_process t user finds leads (name ∷ text) i at laws e =
    let s = last_object t user finds text name (Proc i at) e in
    by s.dir s.way (λ up way. reached_process t user finds leads text i up laws way) (found_in t finds name s.dir i at s.there)
  where
    by : (dir : Host) → reaches t user finds text ≡ Some dir → ((up : ProcAt) → reaches t user finds text ≡ Some (Proc i up) → IsNamedBelow t user text i up) → IsFoundIn t finds name i at dir → IsNamedBelow t user (name ∷ text) i at
    by _ way above (at_top is found) = (text, ap (λ names. names ++ text) (sym (laws.named None name at found)), reached_inode t user finds text i way)
    by _ way above (below_top up found) =
        let b = above up way in
        (b.0, ap (λ text. name ∷ text) b.1 ∙ ap (λ names. names ++ b.0) (sym (laws.named (Some up) name at found)), b.2)

pub reaches_are_sound : ReachesAreSound
reaches_are_sound t user finds leads text = record {
  there = reached_there t user finds text;
  names = reached_names t user finds leads text;
  process_names = reached_process t user finds leads text;
  once = λ other i sound h k is.
      named_once t sound text other i (reached-named t user text i (reached_inode t user finds text i h)) (reached-named t user other i (reached_inode t user finds other i k)) is;
}
