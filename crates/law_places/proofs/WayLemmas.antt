-- What a host text names and reaches in a tree it names and reaches in a tree that loses nothing of it.
use Rattle.std.proofs.Common.{◌≡◌, subst, ℕ, Bool, true, false, List, [], ◌∷◌, Option, Some, None, refl, sym, ap, ◌∙◌}
use Rattle.std.specs.Bool.{if◌then◌else◌}
use Rattle.std.specs.Option.{option_map, option_map_or, option_and_then}
use Rattle.kr_calm.specs.pr_base.Texts.{Text}
use Rattle.law_walks.specs.kr_inode.declared.user.User.{User}
use Rattle.law_walks.specs.kr_inode.declared.user.Right.TheVariants.{Search}
use Rattle.law_walks.specs.kr_tree.declared.place.Host.{Host}
use Rattle.law_walks.specs.kr_tree.declared.place.Host.TheVariants.{Node, Proc}
use Rattle.law_walks.specs.kr_tree.Lawful.{HasItsInodes, IsSound}
use Rattle.law_walks.specs.kr_tree.Names.{named, reached}
use Rattle.law_walks.specs.kr_tree.Rights.{allows, may}
use Rattle.law_walks.specs.kr_tree.Tree.{Body, Entry, Inode, Node as NodeWord, Tree, body_is, entries_of, entry, entry_named, inode, is_directory}
use Rattle.law_walks.proofs.kr_tree.EntryLemmas.{named_there, reached-named}
use Rattle.law_walks.proofs.kr_tree.NameLemmas.{map_some, then_some}
use Rattle.law_walks.specs.kr_view.Component.{Finds, is_directory_at, is_processes, may_search}
use Rattle.law_walks.specs.kr_view.HostReach.{is_link_at, object_in, reaches}
use Rattle.law_walks.specs.kr_view.Laws.{is_link}
use Rattle.law_walks.specs.kr_view.Living.{Living, finds_among}
use Rattle.law_walks.proofs.kr_view.HostReachLemmas.{inode_reached, last_object, object_more, reached_inode}
use Rattle.law_places.specs.Losses.{HostStays, InodeStays, InodesStay, KeepsNames, KeepsWay, Losses, PidsStay}
use Rattle.law_places.proofs.ShownLemmas.{finds_stay, one_process, shown_pids}

-- a tree in which every entry leads somewhere
pub record IsWhole (t : Tree) : Type 0 where
  pub sound : IsSound t
  pub inodes : HasItsInodes t

-- an inode of both trees that stays, as they tell it
pub record NodeStays (user : User) (lost : Losses) (t u : Tree) (i : ℕ) : Type 0 where
  pub directory : body_is is_directory u i ≡ body_is is_directory t i
  pub processes : body_is is_processes u i ≡ body_is is_processes t i
  pub link : body_is is_link u i ≡ body_is is_link t i
  pub search : lost.shut i ≡ false → may t user i Search ≡ true → may u user i Search ≡ true
  pub entries : (name : List ℕ) (j : ℕ) → entry t i name ≡ Some j → lost.gone i name ≡ false → entry u i name ≡ Some j

pub node_of_inodes : (user : User) (lost : Losses) (t u : Tree) (i : ℕ) (x y : Inode) → inode t i ≡ Some x → inode u i ≡ Some y → InodeStays user lost i x y → NodeStays user lost t u i
node_of_inodes user lost t u i x y at_x at_y s = record {
  directory = told is_directory s.directory;
  processes = told is_processes s.processes;
  link = told is_link s.link;
  search = λ kept gives. ap search_of at_y ∙ s.search kept (sym (ap search_of at_x) ∙ gives);
  entries = λ name j e kept. ap (inode_under name) at_y ∙ s.entries name j (sym (ap (inode_under name) at_x) ∙ e) kept;
}
  where
    told : (test : Body → Bool) → test y.node.body ≡ test x.node.body → body_is test u i ≡ body_is test t i
    told test same = ap (λ o. option_map_or (λ (x : Inode). test x.node.body) o false) at_y ∙ same ∙ sym (ap (λ o. option_map_or (λ (x : Inode). test x.node.body) o false) at_x)

    search_of : Option Inode → Bool
    search_of o = option_map_or (λ (n : NodeWord). allows user n Search) (option_map (λ (x : Inode). x.node) o) false

    inode_under : List ℕ → Option Inode → Option ℕ
    inode_under name o = option_map (λ (e : Entry). e.inode) (entry_named name (option_map_or (λ (x : Inode). entries_of x.node.body) o []))

pub names_of_way : (lost : Losses) (t : Tree) (h : Text) → KeepsWay lost t h → KeepsNames lost t h
names_of_way lost t [] still = tt
names_of_way lost t (name ∷ h) still = (λ d n. (still.0 d n).0, names_of_way lost t h still.1)

module _ (user : User) (lost : Losses) (t u : Tree) (living later : List Living) (old : IsWhole t) (new : IsWhole u) (stays : InodesStay user lost t.inodes u.inodes) (shown : PidsStay lost (shown_pids living) (shown_pids later)) where
  abbrev pub f : Finds
  f = finds_among living

  abbrev pub g : Finds
  g = finds_among later

  node_both : (h : Text) (i : ℕ) → named t h ≡ Some i → named u h ≡ Some i → NodeStays user lost t u i
  node_both h i n m =
      let x = named_there t old.sound old.inodes h i n in
      let y = named_there u new.sound new.inodes h i m in
      node_of_inodes user lost t u i x.0 y.0 x.1 y.1 (stays i x.0 y.0 x.1 y.1)

  -- what is named is named, and it stays
  pub name_stays : (h : Text) (i : ℕ) → KeepsNames lost t h → named t h ≡ Some i → named u h ≡ Some i
  name_stays [] i still n = n
  name_stays (name ∷ h) i still n =
      let s = then_some (λ dir. entry t dir name) (named t h) i n in
      let up = name_stays h s.0 still.1 s.1 in
      ap (option_and_then (λ dir. entry u dir name)) up ∙ (node_both h s.0 s.1 up).entries name i s.2 (still.0 s.0 s.1)

  pub node_stays : (h : Text) (i : ℕ) → KeepsNames lost t h → named t h ≡ Some i → NodeStays user lost t u i
  node_stays h i still n = node_both h i n (name_stays h i still n)

  -- an inode that is reached is named
  pub node_named : (h : Text) (i : ℕ) → reaches t user f h ≡ Some (Node i) → named t h ≡ Some i
  node_named h i way = reached-named t user h i (reached_inode t user f h i way)

  node_at : (h : Text) (i : ℕ) → KeepsWay lost t h → reaches t user f h ≡ Some (Node i) → NodeStays user lost t u i
  node_at h i still way = node_stays h i (names_of_way lost t h still) (node_named h i way)

  pub directory_stays : (h : Text) (x : Host) → KeepsWay lost t h → reaches t user f h ≡ Some x → is_directory_at u x ≡ is_directory_at t x
  directory_stays h (Node i) still way = (node_at h i still way).directory
  directory_stays h (Proc i at) still way = refl

  pub link_stays : (h : Text) (x : Host) → KeepsWay lost t h → reaches t user f h ≡ Some x → is_link_at u x ≡ is_link_at t x
  link_stays h (Node i) still way = (node_at h i still way).link
  link_stays h (Proc i at) still way = refl

  pub search_stays : (h : Text) (x : Host) → KeepsWay lost t h → reaches t user f h ≡ Some x → ((i : ℕ) → x ≡ Node i → lost.shut i ≡ false) → may_search t user x ≡ true → may_search u user x ≡ true
  search_stays h (Node i) still way kept search = (node_at h i still way).search (kept i refl) search
  search_stays h (Proc i at) still way kept search = refl

  -- what stands in a directory stands there
  object_stays : (h : Text) (name : List ℕ) (d x : Host) → KeepsWay lost t h → reaches t user f h ≡ Some d → ((i : ℕ) → d ≡ Node i → lost.gone i name ≡ false) → HostStays lost x → object_in t f name d ≡ Some x → object_in u g name d ≡ Some x
  object_stays h name (Proc i at) x still way kept lasts e =
      let m = map_some (λ found. Proc i found) (f (Some at) name) x e in
      let l = subst (HostStays lost) (sym m.2) lasts in
      ap (option_map (λ found. Proc i found)) (finds_stay lost living later shown (Some at) name m.0 m.1 l.0 l.1) ∙ ap Some m.2
  object_stays h name (Node i) x still way kept lasts e = by (body_is is_processes t i) refl e
    where
      by : (b : Bool) → body_is is_processes t i ≡ b → (if b then option_map (λ at. Proc i at) (f None name) else option_map (λ j. Node j) (entry t i name)) ≡ Some x → object_in u g name (Node i) ≡ Some x
      by true is e =
          let m = map_some (λ at. Proc i at) (f None name) x e in
          let l = subst (HostStays lost) (sym m.2) lasts in
          ap (λ b. if b then option_map (λ at. Proc i at) (g None name) else option_map (λ j. Node j) (entry u i name)) ((node_at h i still way).processes ∙ is)
          ∙ ap (option_map (λ at. Proc i at)) (finds_stay lost living later shown None name m.0 m.1 l.0 l.1) ∙ ap Some m.2
      by false is e =
          let m = map_some (λ j. Node j) (entry t i name) x e in
          ap (λ b. if b then option_map (λ at. Proc i at) (g None name) else option_map (λ j. Node j) (entry u i name)) ((node_at h i still way).processes ∙ is)
          ∙ ap (option_map (λ j. Node j)) ((node_at h i still way).entries name m.0 m.1 (kept i refl)) ∙ ap Some m.2

  -- what stands above something lasts as long
  pub above_lasts : (name : List ℕ) (d x : Host) → is_directory_at t d ≡ true → object_in t f name d ≡ Some x → HostStays lost x → HostStays lost d
  above_lasts name (Node i) x dir e lasts = tt
  above_lasts name (Proc i up) x dir e lasts =
      let m = map_some (λ found. Proc i found) (f (Some up) name) x e in
      let l = subst (HostStays lost) (sym m.2) lasts in
      (dir, subst (λ pid. lost.over pid ≡ false) (one_process living up name m.0 m.1) l.1)

  -- what is reached is reached
  pub way_stays : (h : Text) (x : Host) → KeepsWay lost t h → HostStays lost x → reaches t user f h ≡ Some x → reaches u user g h ≡ Some x
  way_stays [] x still lasts way = way
  way_stays (name ∷ h) x still lasts way =
      let s = last_object t user f h name x way in
      let at : (i : ℕ) → s.dir ≡ Node i → named t h ≡ Some i = λ i e. node_named h i (s.way ∙ ap Some e) in
      object_more u user g h name s.dir x (way_stays h s.dir still.1 (above_lasts name s.dir x s.is_dir s.there lasts) s.way)
      (directory_stays h s.dir still.1 s.way ∙ s.is_dir) (search_stays h s.dir still.1 s.way (λ i e. (still.0 i (at i e)).1) s.search)
      (object_stays h name s.dir x still.1 s.way (λ i e. (still.0 i (at i e)).0) lasts s.there)

  pub reached_stays : (h : Text) (i : ℕ) → KeepsWay lost t h → reached t user h ≡ Some i → reached u user h ≡ Some i
  reached_stays h i still way = reached_inode u user g h i (way_stays h (Node i) still tt (inode_reached t user f h i way))
