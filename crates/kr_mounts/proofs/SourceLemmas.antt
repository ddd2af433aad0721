-- What walks find over the host's own view before a process lives, and what sources are.
use Rattle.std.proofs.Common.{◌≡◌, ◌⊎◌, inl, inr, ℕ, zero, suc, Bool, true, false, List, ◌∷◌, Option, Some, None, IfSome, Result, Ok, Err, refl, ap, sym, subst, ◌∙◌, nat_eq}
use Rattle.std.specs.Bool.{if◌then◌else◌}
use Rattle.std.specs.Option.{option_map, option_map_or}
use Rattle.std.proofs.lemmas.Bool.{cases_eq}
use Rattle.std.proofs.lemmas.List.Elements.{All-cons}
use Rattle.pt_bind.specs.pr_base.Paths.{Component, Dot, DotDot, Name, AreNames, AreParts, IsName, IsPart, components_of, has_slash, is_absolute, is_walked, text_of}
use Rattle.pt_bind.specs.pr_base.Texts.{Text, below}
use Rattle.pt_bind.specs.pr_base.WalkFrame.{Fails, Missing, Leads, Links, Jumps, begins_at, most_links, name_of}
use Rattle.pt_bind.specs.pr_base.WalkLaws.{Shows}
use Rattle.pt_bind.specs.pr_base.declared.errno.Errno.{Errno}
use Rattle.pt_bind.specs.pr_base.declared.errno.Errno.TheVariants.{EACCES, ENOTDIR, ENAMETOOLONG}
use Rattle.pt_bind.specs.pr_base.declared.path.WalkMode.TheVariants.{Look}
use Rattle.pt_bind.proofs.pr_base.EndLemmas.{EndsSo, walk_ends}
use Rattle.pt_bind.proofs.pr_base.PathLemmas.{name_is_part, names_are_parts}
use Rattle.pt_bind.specs.Binding.{IsWritten, names_of}
use Rattle.pt_bind.proofs.ByteLemmas.{names_written}
use Rattle.kr_walk.specs.kr_inode.declared.standing.Standing.{Standing}
use Rattle.kr_walk.specs.kr_inode.declared.user.Right.TheVariants.{Search}
use Rattle.kr_walk.specs.kr_inode.declared.user.User.{User}
use Rattle.kr_walk.specs.kr_inode.Stored.{kind_of}
use Rattle.kr_walk.specs.kr_inode.declared.node.Kind.{Kind}
use Rattle.kr_walk.specs.kr_inode.declared.node.Kind.TheVariants as kind
use Rattle.kr_walk.proofs.kr_inode.BodyLemmas.{listed-is_directory}
use Rattle.kr_walk.specs.kr_tree.Lawful.{IsSound}
use Rattle.kr_walk.specs.kr_tree.Names.{host_name}
use Rattle.kr_walk.specs.kr_tree.Rights.{may}
use Rattle.kr_walk.specs.kr_tree.Tree.{Tree, Inode, Body, Directory, RegularFile, SymbolicLink, ProcessDirectory, above as node_above, body, body_is, entry, inode, is_directory, is_listed, root, standing}
use Rattle.kr_walk.specs.kr_tree.declared.place.Host.{Host}
use Rattle.kr_walk.specs.kr_tree.declared.place.Host.TheVariants.{Node, Proc}
use Rattle.kr_walk.specs.kr_tree.declared.place.Place.{Place}
use Rattle.kr_walk.specs.kr_tree.declared.place.ProcAt.{ProcAt}
use Rattle.kr_walk.specs.kr_tree.declared.place.ProcAt.TheVariants.{SelfLink, Dir, Cwd, Root, Exe, FdDir, Fd}
use Rattle.kr_walk.proofs.kr_tree.EntryLemmas.{entry_named_well}
use Rattle.kr_walk.proofs.kr_tree.NameLemmas.{filled_directory, host_names-lead, map_some, some_is}
use Rattle.kr_walk.specs.kr_view.View.{is_root_place, node_in, plain, root_place, up}
use Rattle.kr_walk.specs.kr_view.Component.{SeenPlace, Surroundings, above, above_body, above_host, above_node, in_node, inside, is_directory_at, is_processes, look_up, may_search, named, named_in, seen_body, seen_entry, seen_in_processes, shows_directory, too_long}
use Rattle.kr_walk.specs.kr_view.Walk.{PlaceTarget, looking, place_walk}
use Rattle.kr_walk.specs.kr_view.Answers.{IsAnswer}
use Rattle.kr_walk.specs.kr_view.Leads.{numbered}
use Rattle.kr_walk.specs.kr_view.declared.target.Target.{Target}
use Rattle.kr_mounts.specs.Found.{source_told}
use Rattle.kr_mounts.specs.Sources.{Source, around_table, directory_source, entry_source, source_at, source_by, source_of, source_walked}

-- a place that is found by a component of another: the entry of a directory
pub record IsEntryOf (t : Tree) (user : User) (p : Place ℕ) (c : Component) (f : Place ℕ) : Type 0 where
  pub dir : ℕ
  pub inode : ℕ
  pub name : List ℕ
  pub within : p.host ≡ Node dir
  pub called : c ≡ Name name
  pub found : f.host ≡ Node inode
  pub there : entry t dir name ≡ Some inode
  pub search : may t user dir Search ≡ true

module _ (t : Tree) (sound : IsSound t) where
  test_of : (test : Body → Bool) (b : Bool) (o : Option Inode) → option_map_or (λ x. test x.node.body) o false ≡ true → (x : Inode) × (o ≡ Some x) × (test x.node.body ≡ true)
  test_of test b None h = absurd cc
  test_of test b (Some x) h = (x, refl, h)

  root_directory : body_is is_directory t root ≡ true
  root_directory =
      let x = test_of is_listed true (inode t root) sound.root_listed in
      ap (λ o. option_map_or (λ (x : Inode). is_directory x.node.body) o false) x.1 ∙ listed-is_directory x.0.node.body x.2

  stands_in_directory : (i : ℕ) (s : Standing) → standing t i ≡ Some s → body_is is_directory t s.inode ≡ true
  stands_in_directory i s is =
      elim (cases_eq i root) [
        | inl e ↦
            let same : s ≡ record { inode = root; serial = 0 } = some_is s (record { inode = root; serial = 0 }) (sym is ∙ ap (standing t) e ∙ sound.rooted) in
            ap (λ (s : Standing). body_is is_directory t s.inode) same ∙ root_directory
        | inr d ↦ let own = sound.stands i s d is in filled_directory t sound s.inode (record { name = own.0; serial = s.serial; inode = i }) own.1
      ]

  above_is_directory : (i dir : ℕ) → node_above t i ≡ Some dir → body_is is_directory t dir ≡ true
  above_is_directory i dir is =
      let s = map_some (λ (s : Standing). s.inode) (standing t i) dir is in
      ap (body_is is_directory t) (sym s.2) ∙ stands_in_directory i s.0 s.1

module _ (t : Tree) (user : User) (sound : IsSound t) where
  abbrev around : Surroundings
  around = around_table plain t user

  abbrev IsDir : Place ℕ → Type 0
  IsDir p = is_directory_at t p.host ≡ true

  abbrev IsGood : Place ℕ → Component → Place ℕ → Type 0
  IsGood p c f = IsDir f ⊎ IsEntryOf t user p c f

  abbrev IsSeenWell : Place ℕ → Component → SeenPlace → Type 0
  IsSeenWell p c (Fails e) = Unit {0}
  IsSeenWell p c Missing = Unit {0}
  IsSeenWell p c (Leads is_dir q f) = IsGood p c f
  IsSeenWell p c (Links f text) = IsGood p c f
  IsSeenWell p c (Jumps f lead) = ⊥

  -- ---- `..`

  up_plain : (mount dir : ℕ) → up plain mount dir ≡ None
  up_plain zero dir = elim (nat_eq root dir) as (λ b. ◌≡◌ {A = Option (Place ℕ)} (if b then None else None) None) [ true ↦ refl | false ↦ refl ]
  up_plain (suc mount) dir = refl

  above_seen : (p : Place ℕ) (c : Component) (mount i : ℕ) → IsSeenWell p c (above_host around.space mount (Node i))
  above_seen p c mount i = subst (λ o. IsSeenWell p c (above_node around.space mount i o)) (sym (up_plain mount i)) (of (node_above t i) refl)
    where
      of : (o : Option ℕ) → node_above t i ≡ o → IsSeenWell p c (above_body mount o)
      of None e = tt
      of (Some dir) e = inl (above_is_directory t sound i dir e)

  above_processes : (p : Place ℕ) (c : Component) (mount i : ℕ) (at : ProcAt) → IsSeenWell p c (above_host around.space mount (Proc i at))
  above_processes p c mount i SelfLink = tt
  above_processes p c mount i (Dir pid) = tt
  above_processes p c mount i (Cwd pid) = tt
  above_processes p c mount i (Root pid) = tt
  above_processes p c mount i (Exe pid) = tt
  above_processes p c mount i (FdDir pid) = tt
  above_processes p c mount i (Fd pid fd) = tt

  above_any : (p : Place ℕ) (c : Component) (mount : ℕ) (h : Host) → IsSeenWell p c (above_host around.space mount h)
  above_any p c mount (Node i) = above_seen p c mount i
  above_any p c mount (Proc i at) = above_processes p c mount i at

  -- ---- names

  body_seen : (p q : Place ℕ) (c : Component) (o : Option Body) → IsGood p c q → IsSeenWell p c (seen_body q o)
  body_seen p q c None good = tt
  body_seen p q c (Some (Directory entries standing)) good = good
  body_seen p q c (Some (RegularFile bytes)) good = good
  body_seen p q c (Some (SymbolicLink text)) good = good
  body_seen p q c (Some (ProcessDirectory standing)) good = good

  entry_seen : (p : Place ℕ) (mount i : ℕ) (name : List ℕ) (o : Option ℕ) → p.host ≡ Node i → may t user i Search ≡ true → entry t i name ≡ o → IsSeenWell p (Name name) (seen_entry around mount o)
  entry_seen p mount i name None at search is = tt
  entry_seen p mount i name (Some j) at search is =
      body_seen p (node_in mount j) (Name name) (body t j) (inr (record { dir = i; inode = j; name = name; within = at; called = refl; found = refl; there = is; search = search }))

  node_seen : (p : Place ℕ) (mount i : ℕ) (name : List ℕ) → p.host ≡ Node i → may t user i Search ≡ true → IsSeenWell p (Name name) (in_node around mount i name)
  node_seen p mount i name at search =
      elim (body_is is_processes t i) as (λ b. IsSeenWell p (Name name) (if b then seen_in_processes around mount i None else seen_entry around mount (entry t i name))) [
        | true ↦ tt
        | false ↦ entry_seen p mount i name (entry t i name) at search refl
      ]

  name_seen : (p : Place ℕ) (name : List ℕ) (h : Host) → p.host ≡ h → may_search t user h ≡ true → IsSeenWell p (Name name) (named_in around p.mount h name)
  name_seen p name (Node i) at search = node_seen p p.mount i name at search
  name_seen p name (Proc i at) e search = tt

  inside_seen : (p : Place ℕ) (c : Component) → IsDir p → may_search t user p.host ≡ true → IsSeenWell p c (inside around p c)
  inside_seen p Dot dir search = inl dir
  inside_seen p DotDot dir search =
      elim (is_root_place plain p) as (λ b. IsSeenWell p DotDot (if b then shows_directory p else above_host around.space p.mount p.host)) [ true ↦ inl dir | false ↦ above_any p DotDot p.mount p.host ]
  inside_seen p (Name name) dir search =
      elim (too_long name) as (λ b. IsSeenWell p (Name name) (if b then Fails ENAMETOOLONG else named_in around p.mount p.host name)) [ true ↦ tt | false ↦ name_seen p name p.host refl search ]

  seen : (p : Place ℕ) (c : Component) → IsSeenWell p c (look_up around p c)
  seen p c = of (is_directory_at t p.host) refl
    where
      of : (b : Bool) → is_directory_at t p.host ≡ b → IsSeenWell p c (if b then (if may_search t user p.host then inside around p c else Fails EACCES) else Fails ENOTDIR)
      of true dir = by (may_search t user p.host) refl
        where
          by : (b : Bool) → may_search t user p.host ≡ b → IsSeenWell p c (if b then inside around p c else Fails EACCES)
          by true search = inside_seen p c dir search
          by false search = tt
      of false dir = tt

  shown_good : (p : Place ℕ) (c : Component) (s : SeenPlace) (f : Place ℕ) → IsSeenWell p c s → Shows s (Some f) → IsGood p c f
  shown_good p c (Fails e) f well shows = absurd shows
  shown_good p c Missing f well shows = absurd cc
  shown_good p c (Leads is_dir q g) f well shows = subst (IsGood p c) (sym (some_is f g shows)) well
  shown_good p c (Links g text) f well shows = subst (IsGood p c) (sym (some_is f g shows)) well
  shown_good p c (Jumps g lead) f well shows = absurd well

  -- ---- what a walk found

  abbrev pub IsFoundWell : PlaceTarget → Type 0
  IsFoundWell target = (f : Place ℕ) → target.found ≡ Some f → IsDir f ⊎ ((dir : ℕ) × (i : ℕ) × (target.dir.host ≡ Node dir) × (f.host ≡ Node i) × (entry t dir target.name ≡ Some i) × (may t user dir Search ≡ true))

  root_is_dir : IsDir (root_place plain)
  root_is_dir = root_directory t sound

  begins_well : (p : Place ℕ) (path : List ℕ) → IsDir p → IsDir (begins_at (looking around) p path)
  begins_well p path dir = elim (is_absolute path) as (λ b. IsDir (if b then root_place plain else p)) [ true ↦ root_is_dir | false ↦ dir ]

  looked_in : (p : Place ℕ) (c : Component) (f : Place ℕ) (text : List ℕ) → look_up around p c ≡ Links f text → IsDir p
  looked_in p c f text is = of (is_directory_at t p.host) refl is
    where
      of : (b : Bool) → is_directory_at t p.host ≡ b → (if b then (if may_search t user p.host then inside around p c else Fails EACCES) else Fails ENOTDIR) ≡ Links f text → IsDir p
      of true dir h = dir
      of false dir h = absurd cc

  pub found_well : (path : List ℕ) → EndsSo (looking around) IsFoundWell (place_walk around Look (root_place plain) path)
  found_well path =
      walk_ends (looking around) IsFoundWell IsDir
      (λ s slash begins f is. inl (subst IsDir (some_is s f is) begins))
      (λ s c slash found shows f is. at_component s c f (shown_good s c (look_up around s c) f (seen s c) (let P : Option (Place ℕ) → Type 0 = λ o. Shows (look_up around s c) o in subst P is shows)))
      (λ s c slash f l looked g is. absurd (let P : SeenPlace → Type 0 = IsSeenWell s c in subst P looked (seen s c)))
      (λ s c f text looked. begins_well s text (looked_in s c f text looked))
      Look most_links (begins_at (looking around) (root_place plain) path) (components_of path) (has_slash path) (λ none. begins_well (root_place plain) path root_is_dir)
    where
      at_component : (s : Place ℕ) (c : Component) (f : Place ℕ) → IsGood s c f → IsDir f ⊎ ((dir : ℕ) × (i : ℕ) × (s.host ≡ Node dir) × (f.host ≡ Node i) × (entry t dir (name_of c) ≡ Some i) × (may t user dir Search ≡ true))
      at_component s c f (inl dir) = inl dir
      at_component s c f (inr e) = inr (e.dir, e.inode, e.within, e.found, ap (λ c. entry t e.dir (name_of c)) e.called ∙ e.there, e.search)

-- ---- sources

-- a source is a directory that has its text as host name, or the entry of such a one
pub record IsSource (t : Tree) (s : Source) : Type 0 where
  pub names : AreNames s.text
  pub kind : body_is is_directory t s.inode ≡ s.is_dir
  pub directory : s.is_dir ≡ true → host_name t s.inode ≡ Some s.text
  pub entered : s.is_dir ≡ false → (name : List ℕ) × (text : Text) × (s.text ≡ name ∷ text) × (host_name t s.dir ≡ Some text) × (entry t s.dir name ≡ Some s.inode)

module _ (t : Tree) (user : User) (sound : IsSound t) where
  directory_is_source : (i : ℕ) (s : Source) → body_is is_directory t i ≡ true → directory_source t i ≡ Some s → IsSource t s
  directory_is_source i s dir is =
      let n = map_some (λ text. record { inode = i; is_dir = true; dir = option_map_or (λ up. up) (node_above t i) 0; text = text }) (host_name t i) s is in
      let P : Source → Type 0 = IsSource t in
      subst P n.2 (record { names = (host_names-lead t sound i n.0 n.1).2; kind = dir; directory = λ is. n.1; entered = λ is. absurd cc })

  entry_is_source : (dir i : ℕ) (name : List ℕ) (s : Source) → body_is is_directory t i ≡ false → entry t dir name ≡ Some i → entry_source t (Node dir) name i ≡ Some s → IsSource t s
  entry_is_source dir i name s none there is =
      let m = map_some (λ text. record { inode = i; is_dir = false; dir = dir; text = text }) (below name (host_name t dir)) s is in
      let n = map_some (λ (names : Text). name ∷ names) (host_name t dir) m.0 m.1 in
      let well : AreNames (name ∷ n.0) = All-cons IsName name n.0 (entry_named_well t sound dir name i there) (host_names-lead t sound dir n.0 n.1).2 in
      let P : Source → Type 0 = IsSource t in
      subst P m.2 (record { names = subst AreNames n.2 well; kind = none; directory = λ is. absurd cc; entered = λ is. (name, n.0, sym n.2, n.1, there) })

  found_is_source : (target : PlaceTarget) (s : Source) → IsFoundWell t user sound target → source_at t target.dir.host target.name (option_map (λ (p : Place ℕ). p.host) target.found) ≡ Some s → IsSource t s
  found_is_source target s well is = of target.found refl is
    where
      node : (p : Place ℕ) (i : ℕ) → target.found ≡ Some p → p.host ≡ Node i → (b : Bool) → body_is is_directory t i ≡ b
          → (if b then directory_source t i else entry_source t target.dir.host target.name i) ≡ Some s → IsSource t s
      node p i found host true dir h = directory_is_source i s dir h
      node p i found host false none h =
          elim (well p found) [
            | inl dir ↦ absurd (let clash : true ≡ false = sym dir ∙ ap (is_directory_at t) host ∙ none in let no : ⊥ = cc in no)
            | inr e ↦
                let same : e.1 ≡ i = ap (λ (h : Host). number_of h) (sym e.3 ∙ host) in
                entry_is_source e.0 i target.name s none (e.4 ∙ ap Some same) (ap (λ h. entry_source t h target.name i) (sym e.2) ∙ h)
          ]
        where
          number_of : Host → ℕ
          number_of (Node j) = j
          number_of (Proc j at) = j

      host_at : (p : Place ℕ) (h : Host) → target.found ≡ Some p → p.host ≡ h → source_at t target.dir.host target.name (Some h) ≡ Some s → IsSource t s
      host_at p (Node i) found host h = node p i found host (body_is is_directory t i) refl h
      host_at p (Proc i at) found host h = absurd cc

      of : (o : Option (Place ℕ)) → target.found ≡ o → source_at t target.dir.host target.name (option_map (λ (p : Place ℕ). p.host) o) ≡ Some s → IsSource t s
      of None found h = absurd cc
      of (Some p) found h = host_at p p.host found refl h

  -- what is found is what a walk leads to
  pub source_was_walked : (path : List ℕ) (s : Source) → source_by t user path ≡ Some s → source_walked t user path ≡ Some s
  source_was_walked path s is = by (is_walked path) is
    where
      by : (walks : Bool) → (if walks then source_walked t user path else None) ≡ Some s → source_walked t user path ≡ Some s
      by true is = is
      by false is = absurd cc

  pub sources_are : (path : List ℕ) (s : Source) → source_by t user path ≡ Some s → IsSource t s
  sources_are path s is = of (place_walk (around_table plain t user) Look (root_place plain) path).answer refl (source_was_walked path s is)
    where
      of : (r : Result PlaceTarget Errno) → (place_walk (around_table plain t user) Look (root_place plain) path).answer ≡ r → source_of t r ≡ Some s → IsSource t s
      of (Ok target) answer h = found_is_source target s (found_well t user sound path target answer) h
      of (Err e) answer h = absurd cc

  -- the name by which a walk found what is no directory is one
  pub found_name : (path : List ℕ) (target : PlaceTarget) (i : ℕ) → (place_walk (around_table plain t user) Look (root_place plain) path).answer ≡ Ok target → option_map (λ (p : Place ℕ). p.host) target.found ≡ Some (Node i) → body_is is_directory t i ≡ false → IsPart target.name
  found_name path target i answer is none =
      let p = map_some (λ (p : Place ℕ). p.host) target.found (Node i) is in
      elim (found_well t user sound path target answer p.0 p.1) [
        | inl dir ↦ absurd (let clash : true ≡ false = sym dir ∙ ap (is_directory_at t) p.2 ∙ none in let no : ⊥ = cc in no)
        | inr e ↦ name_is_part target.name (entry_named_well t sound e.0 target.name e.1 e.4)
      ]

-- ---- sources as they are kept

-- a host text that was read
pub text_told : (name : Option Text) (text : Option (List ℕ)) → text ≡ option_map text_of name → ((names : Text) → name ≡ Some names → AreNames names) → (option_map names_of text ≡ name) × IfSome text IsWritten
text_told None text is are = (ap (option_map names_of) is, subst (λ o. IfSome o IsWritten) (sym is) tt)
text_told (Some names) text is are =
    let parts : AreParts names = names_are_parts names (are names refl) in
    (ap (option_map names_of) is ∙ ap Some (names_written names parts), subst (λ o. IfSome o IsWritten) (sym is) (record { names = names; are_parts = parts; written = refl }))

pub directory_told : (t : Tree) (i dir : ℕ) (text : List ℕ) → Some (names_of text) ≡ host_name t i → dir ≡ option_map_or (λ up. up) (node_above t i) 0
    → Some (source_told (record { inode = i; is_dir = true; dir = dir; text = text })) ≡ directory_source t i
directory_told t i dir text named up =
    (λ j. Some (record { inode = i; is_dir = true; dir = up j; text = names_of text }))
    ∙ ap (option_map (λ text. record { inode = i; is_dir = true; dir = option_map_or (λ up. up) (node_above t i) 0; text = text })) named

pub no_directory : (t : Tree) (i : ℕ) → None ≡ host_name t i → None ≡ directory_source t i
no_directory t i none = ap (option_map (λ text. record { inode = i; is_dir = true; dir = option_map_or (λ up. up) (node_above t i) 0; text = text })) none

abbrev entry_with : ℕ → ℕ → Text → Source
entry_with dir i text = record { inode = i; is_dir = false; dir = dir; text = text }

pub entry_told : (t : Tree) (dir i : ℕ) (name above text : List ℕ) → Some (names_of above) ≡ host_name t dir → names_of text ≡ name ∷ names_of above
    → Some (source_told (record { inode = i; is_dir = false; dir = dir; text = text })) ≡ entry_source t (Node dir) name i
entry_told t dir i name above text named is = ap (λ text. Some (entry_with dir i text)) is ∙ ap (λ o. option_map (entry_with dir i) (below name o)) named

pub no_entry : (t : Tree) (dir i : ℕ) (name : List ℕ) → None ≡ host_name t dir → None ≡ entry_source t (Node dir) name i
no_entry t dir i name none = ap (λ o. option_map (entry_with dir i) (below name o)) none

-- what a walk found, as its caller is told it
module _ {M : Type 0} (number : M → ℕ) (t : Tree) where
  abbrev hosts : Option (Place M) → Option Host
  hosts o = option_map (λ p. p.host) o

  hosts_numbered : (o : Option (Place M)) → hosts o ≡ option_map (λ (p : Place ℕ). p.host) (option_map (numbered number) o)
  hosts_numbered None = refl
  hosts_numbered (Some p) = refl

  abbrev source_in : Target ℕ → Option Source
  source_in x = source_at t x.dir.host x.name (option_map (λ (p : Place ℕ). p.host) x.found)

  pub answer_told : (answer : Result PlaceTarget Errno) (target : Target M) → IsAnswer number answer (Ok target) → source_at t target.dir.host target.name (hosts target.found) ≡ source_of t answer
  answer_told answer target h =
      ap (source_at t target.dir.host target.name) (hosts_numbered target.found) ∙ ap source_in (sym h.2) ∙ ap (source_of t) (sym h.1)

  pub answer_name : (user : User) (sound : IsSound t) (path : List ℕ) (target : Target M) → IsAnswer number (place_walk (around_table plain t user) Look (root_place plain) path).answer (Ok target)
      → (i : ℕ) → hosts target.found ≡ Some (Node i) → body_is is_directory t i ≡ false → IsPart target.name
  answer_name user sound path target h i is none =
      let same : h.0.found ≡ option_map (numbered number) target.found = ap (λ (x : Target ℕ). x.found) h.2 in
      let name : h.0.name ≡ target.name = ap (λ (x : Target ℕ). x.name) h.2 in
      subst IsPart name (found_name t user sound path h.0 i h.1 (ap (option_map (λ (p : Place ℕ). p.host)) same ∙ sym (hosts_numbered target.found) ∙ is) none)

-- ---- directories proper

abbrev is_dir_kind : Kind → Bool
is_dir_kind kind.Dir = true
is_dir_kind kind.File = false
is_dir_kind kind.Link = false
is_dir_kind kind.Proc = false

listed_body : (b : Body) → is_dir_kind (kind_of b) ≡ is_listed b
listed_body (Directory entries standing) = refl
listed_body (RegularFile bytes) = refl
listed_body (SymbolicLink text) = refl
listed_body (ProcessDirectory standing) = refl

pub kind_listed : (t : Tree) (i : ℕ) (k : Kind) → Some k ≡ option_map kind_of (body t i) → is_dir_kind k ≡ body_is is_listed t i
kind_listed t i k h = at (inode t i) h
  where
    at : (o : Option Inode) → Some k ≡ option_map kind_of (option_map (λ x. x.node.body) o) → is_dir_kind k ≡ option_map_or (λ x. is_listed x.node.body) o false
    at None h = absurd cc
    at (Some x) h = ap is_dir_kind (some_is k (kind_of x.node.body) h) ∙ listed_body x.node.body

pub none_listed : (t : Tree) (i : ℕ) → None ≡ option_map kind_of (body t i) → false ≡ body_is is_listed t i
none_listed t i h = at (inode t i) h
  where
    at : (o : Option Inode) → None ≡ option_map kind_of (option_map (λ x. x.node.body) o) → false ≡ option_map_or (λ x. is_listed x.node.body) o false
    at None h = refl
    at (Some x) h = absurd cc
