-- Entries of directories, and what is named and reached by them.
use Rattle.std.proofs.Common.{◌≡◌, ℕ, Bool, true, false, List, [], ◌∷◌, Option, Some, None, refl, sym, ap, subst, ◌∙◌}
use Rattle.std.specs.Bool.{if◌then◌else◌}
use Rattle.std.specs.Option.{option_map, option_map_or, option_and_then}
use Rattle.std.proofs.lemmas.Slice.Eq.{bytes_eq-Decides}
use Rattle.kr_inode.specs.pr_base.Paths.{IsName}
use Rattle.kr_inode.specs.declared.standing.Standing.{Standing}
use Rattle.kr_inode.specs.declared.user.User.{User}
use Rattle.kr_inode.specs.declared.user.Right.TheVariants.{Search}
use Rattle.kr_inode.proofs.EntryLemmas.{named_in, all-in}
use Rattle.kr_inode.proofs.NameLemmas.{name_decides}
use Rattle.kr_tree.specs.Tree.{Tree, Inode, Entry, Body, Directory, RegularFile, SymbolicLink, ProcessDirectory, root, inode, body, body_is, entry, entry_named, entries, entries_of, above, is_directory}
use Rattle.kr_tree.specs.Names.{is_name, named, entry_searched, reached}
use Rattle.kr_tree.specs.Rights.{may}
use Rattle.kr_tree.specs.Lawful.{IsSound, IsIn, HasItsInodes}
use Rattle.kr_tree.proofs.CountLemmas.{root_directory}
use Rattle.kr_tree.proofs.NameLemmas.{then_some, map_some, some_is, listed_in, named-host_name}

pub guarded : {A : Type 0} (b : Bool) (o : Option A) (y : A) → (if b then o else None) ≡ Some y → (b ≡ true) × (o ≡ Some y)
guarded true o y h = (refl, h)
guarded false o y h = absurd cc

-- ---- bodies

-- a test of a body that is known
pub body_test : (test : Body → Bool) (t : Tree) (i : ℕ) → body_is test t i ≡ option_map_or test (body t i) false
body_test test t i = by (inode t i)
  where
    by : (o : Option Inode) → option_map_or (λ x. test x.node.body) o false ≡ option_map_or test (option_map (λ x. x.node.body) o) false
    by None = refl
    by (Some x) = refl

-- what has an entry keeps entries
pub filled_body : (t : Tree) (dir : ℕ) (name : List ℕ) (i : ℕ) → entry t dir name ≡ Some i → (es : List Entry) × (st : Option Standing) × (body t dir ≡ Some (Directory es st))
filled_body t dir name i h = at (inode t dir) refl h
  where
    bodied : (x : Inode) → inode t dir ≡ Some x → (b : Body) → x.node.body ≡ b → option_map (λ e. e.inode) (entry_named name (entries_of b)) ≡ Some i → (es : List Entry) × (st : Option Standing) × (body t dir ≡ Some (Directory es st))
    bodied x there (Directory es st) is h = (es, st, ap (option_map (λ x. x.node.body)) there ∙ ap Some is)
    bodied x there (RegularFile bytes) is h = absurd cc
    bodied x there (SymbolicLink text) is h = absurd cc
    bodied x there (ProcessDirectory st) is h = absurd cc

    at : (o : Option Inode) → inode t dir ≡ o → option_map (λ e. e.inode) (entry_named name (option_map_or (λ x. entries_of x.node.body) o [])) ≡ Some i → (es : List Entry) × (st : Option Standing) × (body t dir ≡ Some (Directory es st))
    at None is h = absurd cc
    at (Some x) is h = bodied x is x.node.body refl h

pub entry_in_directory : (t : Tree) (dir : ℕ) (name : List ℕ) (i : ℕ) → entry t dir name ≡ Some i → body_is is_directory t dir ≡ true
entry_in_directory t dir name i h = let filled = filled_body t dir name i h in body_test is_directory t dir ∙ ap (λ o. option_map_or is_directory o false) filled.2

-- ---- entries

-- the entry that a name stands for
pub record IsEntered (t : Tree) (dir : ℕ) (name : List ℕ) (i : ℕ) : Type 0 where
  pub own : Entry
  pub inside : IsIn own (entries t dir)
  pub called : name ≡ own.name
  pub leads : own.inode ≡ i

pub entered : (t : Tree) (dir : ℕ) (name : List ℕ) (i : ℕ) → entry t dir name ≡ Some i → IsEntered t dir name i
entered t dir name i h =
    let e = map_some (λ e. e.inode) (entry_named name (entries t dir)) i h in
    let found = named_in name (entries t dir) e.0 e.1 in
    record { own = e.0; inside = found.0; called = (bytes_eq-Decides name e.0.name).0 found.1; leads = e.2 }

module _ (t : Tree) (sound : IsSound t) where
  pub entry_named_well : (dir : ℕ) (name : List ℕ) (i : ℕ) → entry t dir name ≡ Some i → IsName name
  entry_named_well dir name i h =
      let e = entered t dir name i h in
      let list = listed_in t sound dir e.own e.inside in
      let well : is_name e.own.name ≡ true = all-in (λ name. is_name name ≡ true) (entries t dir) e.own list.1.well_formed e.inside in
      subst IsName (sym e.called) ((name_decides e.own.name).0 well)

  -- a directory that is an entry has the one above it in which it is
  pub entry_stands : (dir : ℕ) (name : List ℕ) (i : ℕ) → entry t dir name ≡ Some i → body_is is_directory t i ≡ true → above t i ≡ Some dir
  entry_stands dir name i h is =
      let e = entered t dir name i h in
      let stands = sound.alone dir e.own e.inside (ap (body_is is_directory t) e.leads ∙ is) in
      ap (above t) (sym e.leads) ∙ ap (option_map (λ s. s.inode)) stands

  -- ---- what is named

  -- a directory has one text
  pub named_once : (one two : List (List ℕ)) (i : ℕ) → named t one ≡ Some i → named t two ≡ Some i → body_is is_directory t i ≡ true → one ≡ two
  named_once one two i h k is = some_is one two (sym (named-host_name t sound one i h is) ∙ named-host_name t sound two i k is)

  -- what is named is there
  pub named_there : HasItsInodes t → (text : List (List ℕ)) (i : ℕ) → named t text ≡ Some i → (x : Inode) × (inode t i ≡ Some x)
  named_there inodes [] i e =
      let dir : body_is is_directory t i ≡ true = ap (body_is is_directory t) (sym (some_is root i e)) ∙ root_directory t sound in
      at (inode t i) refl dir
    where
      at : (o : Option Inode) → inode t i ≡ o → option_map_or (λ x. is_directory x.node.body) o false ≡ true → (x : Inode) × (inode t i ≡ Some x)
      at None is dir = absurd cc
      at (Some x) is dir = (x, is)
  named_there inodes (name ∷ text) i h =
      let up = then_some (λ dir. entry t dir name) (named t text) i h in
      let e = entered t up.0 name i up.2 in
      let x = inodes up.0 e.own e.inside in
      (x.0, ap (inode t) (sym e.leads) ∙ x.1)

-- ---- what is reached

-- the last step of a way
pub record LastStep (t : Tree) (user : User) (text : List (List ℕ)) (name : List ℕ) (i : ℕ) : Type 0 where
  pub dir : ℕ
  pub way : reached t user text ≡ Some dir
  pub search : may t user dir Search ≡ true
  pub there : entry t dir name ≡ Some i

pub last_step : (t : Tree) (user : User) (text : List (List ℕ)) (name : List ℕ) (i : ℕ) → reached t user (name ∷ text) ≡ Some i → LastStep t user text name i
last_step t user text name i e =
    let up = then_some (entry_searched t user name) (reached t user text) i e in
    let open_ = guarded (may t user up.0 Search) (entry t up.0 name) i up.2 in
    record { dir = up.0; way = up.1; search = open_.0; there = open_.1 }

-- one step more
pub step_more : (t : Tree) (user : User) (text : List (List ℕ)) (name : List ℕ) (dir i : ℕ) → reached t user text ≡ Some dir → may t user dir Search ≡ true → entry t dir name ≡ Some i → reached t user (name ∷ text) ≡ Some i
step_more t user text name dir i way search there =
    ap (option_and_then (entry_searched t user name)) way ∙ ap (λ b. if b then entry t dir name else None) search ∙ there

-- what is reached is named
pub reached-named : (t : Tree) (user : User) (text : List (List ℕ)) (i : ℕ) → reached t user text ≡ Some i → named t text ≡ Some i
reached-named t user [] i e = e
reached-named t user (name ∷ text) i e =
    let s = last_step t user text name i e in
    ap (option_and_then (λ dir. entry t dir name)) (reached-named t user text s.dir s.way) ∙ s.there
