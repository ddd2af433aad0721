-- Sources are reached by their host texts.
use Rattle.std.proofs.Common.{◌≡◌, ℕ, zero, suc, Bool, true, false, List, [], ◌∷◌, Option, Some, None, Result, Ok, Err, inl, inr, refl, ap, sym, subst, ◌∙◌, nat_eq}
use Rattle.std.specs.Bool.{if◌then◌else◌}
use Rattle.std.specs.Option.{option_map, option_map_or}
use Rattle.pt_bind.specs.pr_base.Paths.{Component, Dot, DotDot, Name, has_slash}
use Rattle.pt_bind.specs.pr_base.Texts.{Text, below}
use Rattle.pt_bind.specs.pr_base.WalkFrame.{Fails, Missing, Leads, Links, Jumps, most_links}
use Rattle.pt_bind.specs.pr_base.WalkLaws.{Shows}
use Rattle.pt_bind.specs.pr_base.declared.errno.Errno.{Errno}
use Rattle.pt_bind.specs.pr_base.declared.errno.Errno.TheVariants.{EACCES, ENOTDIR, ENAMETOOLONG}
use Rattle.pt_bind.specs.pr_base.declared.path.WalkMode.TheVariants.{Look}
use Rattle.pt_bind.proofs.pr_base.EndLemmas.{EndsSo}
use Rattle.pt_bind.proofs.pr_base.KeepLemmas.{GoesOn, walk_keeps}
use Rattle.kr_walk.specs.kr_inode.declared.user.Right.TheVariants.{Search}
use Rattle.kr_walk.specs.kr_inode.declared.standing.Standing.{Standing}
use Rattle.kr_walk.specs.kr_inode.declared.user.User.{User}
use Rattle.kr_walk.specs.kr_tree.Lawful.{IsSound}
use Rattle.kr_walk.specs.kr_tree.Names.{host_name, named, reached}
use Rattle.kr_walk.specs.kr_tree.Rights.{may}
use Rattle.kr_walk.specs.kr_tree.Tree.{Tree, Body, Directory, RegularFile, SymbolicLink, ProcessDirectory, above as node_above, body, body_is, entry, is_directory, root}
use Rattle.kr_walk.specs.kr_tree.declared.place.Host.{Host}
use Rattle.kr_walk.specs.kr_tree.declared.place.Host.TheVariants.{Node, Proc}
use Rattle.kr_walk.specs.kr_tree.declared.place.Place.{Place}
use Rattle.kr_walk.proofs.kr_tree.EntryLemmas.{entry_in_directory, entry_stands, last_step, reached-named, step_more}
use Rattle.kr_walk.proofs.kr_tree.NameLemmas.{map_some, named-host_name, some_is}
use Rattle.kr_walk.specs.kr_view.View.{is_root_place, node_in, plain, root_place, up}
use Rattle.kr_walk.specs.kr_view.Component.{SeenPlace, Surroundings, above_body, above_host, above_node, in_node, inside, is_directory_at, is_processes, look_up, may_search, named_in, seen_body, seen_entry, seen_in_processes, shows_directory, too_long}
use Rattle.kr_walk.specs.kr_view.Walk.{PlaceTarget, looking, place_walk}
use Rattle.kr_mounts.specs.Sources.{Source, around_table, directory_source, entry_source, source_at, source_by, source_of}
use Rattle.kr_mounts.proofs.SourceLemmas.{found_well, source_was_walked}

-- an object that the user reaches by a text
record IsReached (t : Tree) (user : User) (h : Host) : Type 0 where
  pub inode : ℕ
  pub text : Text
  pub is : h ≡ Node inode
  pub way : reached t user text ≡ Some inode

abbrev number_of : Host → ℕ
number_of (Node i) = i
number_of (Proc i at) = i

module _ (t : Tree) (user : User) (sound : IsSound t) where
  abbrev around : Surroundings
  around = around_table plain t user

  abbrev Good : Place ℕ → Type 0
  Good p = IsReached t user p.host

  at_node : (i : ℕ) (text : Text) → reached t user text ≡ Some i → IsReached t user (Node i)
  at_node i text way = record { inode = i; text = text; is = refl; way = way }

  -- above a directory
  above_reached : (text : Text) (i dir : ℕ) → reached t user text ≡ Some i → body_is is_directory t i ≡ true → node_above t i ≡ Some dir → IsReached t user (Node dir)
  above_reached [] i dir way is above =
      let same : root ≡ dir = some_is root dir (sym (ap (option_map (λ (s : Standing). s.inode)) sound.rooted) ∙ ap (node_above t) (some_is root i way) ∙ above) in
      at_node dir [] (ap Some same)
  above_reached (name ∷ text) i dir way is above =
      let s = last_step t user text name i way in
      let same : s.dir ≡ dir = some_is s.dir dir (sym (entry_stands t sound s.dir name i s.there is) ∙ above) in
      at_node dir text (s.way ∙ ap Some same)

  abbrev IsSeenGood : SeenPlace → Type 0
  IsSeenGood (Fails e) = Unit {0}
  IsSeenGood Missing = Unit {0}
  IsSeenGood (Leads is_dir q f) = Good q × Good f
  IsSeenGood (Links f text) = Good f
  IsSeenGood (Jumps f lead) = ⊥

  up_plain : (mount dir : ℕ) → up plain mount dir ≡ None
  up_plain zero dir = elim (nat_eq root dir) as (λ b. ◌≡◌ {A = Option (Place ℕ)} (if b then None else None) None) [ true ↦ refl | false ↦ refl ]
  up_plain (suc mount) dir = refl

  above_good : (mount i : ℕ) (text : Text) → reached t user text ≡ Some i → body_is is_directory t i ≡ true → IsSeenGood (above_host around.space mount (Node i))
  above_good mount i text way is = subst (λ o. IsSeenGood (above_node around.space mount i o)) (sym (up_plain mount i)) (of (node_above t i) refl)
    where
      of : (o : Option ℕ) → node_above t i ≡ o → IsSeenGood (above_body mount o)
      of None e = tt
      of (Some dir) e = let r = above_reached text i dir way is e in (r, r)

  body_good : (mount j : ℕ) (o : Option Body) → IsReached t user (Node j) → IsSeenGood (seen_body (node_in mount j) o)
  body_good mount j None good = tt
  body_good mount j (Some (Directory entries standing)) good = (good, good)
  body_good mount j (Some (RegularFile bytes)) good = (good, good)
  body_good mount j (Some (SymbolicLink text)) good = good
  body_good mount j (Some (ProcessDirectory standing)) good = (good, good)

  entry_good : (mount i : ℕ) (name : List ℕ) (text : Text) (o : Option ℕ) → reached t user text ≡ Some i → may t user i Search ≡ true → entry t i name ≡ o → IsSeenGood (seen_entry around mount o)
  entry_good mount i name text None way search is = tt
  entry_good mount i name text (Some j) way search is = body_good mount j (body t j) (at_node j (name ∷ text) (step_more t user text name i j way search is))

  node_good : (mount i : ℕ) (name : List ℕ) (text : Text) → reached t user text ≡ Some i → may t user i Search ≡ true → IsSeenGood (in_node around mount i name)
  node_good mount i name text way search =
      elim (body_is is_processes t i) as (λ b. IsSeenGood (if b then seen_in_processes around mount i None else seen_entry around mount (entry t i name))) [
        | true ↦ tt
        | false ↦ entry_good mount i name text (entry t i name) way search refl
      ]

  -- a look from a place that is reached, by its inode
  inside_good : (p : Place ℕ) (i : ℕ) (text : Text) → p.host ≡ Node i → reached t user text ≡ Some i → is_directory_at t p.host ≡ true → may_search t user p.host ≡ true → (c : Component) → IsSeenGood (inside around p c)
  inside_good p i text at way is search Dot = let r : Good p = record { inode = i; text = text; is = at; way = way } in (r, r)
  inside_good p i text at way is search DotDot =
      let r : Good p = record { inode = i; text = text; is = at; way = way } in
      let P : Host → Type 0 = λ h. IsSeenGood (above_host around.space p.mount h) in
      elim (is_root_place plain p) as (λ b. IsSeenGood (if b then shows_directory p else above_host around.space p.mount p.host)) [
        | true ↦ (r, r)
        | false ↦ subst P (sym at) (above_good p.mount i text way (sym (ap (is_directory_at t) at) ∙ is))
      ]
  inside_good p i text at way is search (Name name) =
      let P : Host → Type 0 = λ h. IsSeenGood (named_in around p.mount h name) in
      elim (too_long name) as (λ b. IsSeenGood (if b then Fails ENAMETOOLONG else named_in around p.mount p.host name)) [
        | true ↦ tt
        | false ↦ subst P (sym at) (node_good p.mount i name text way (sym (ap (may_search t user) at) ∙ search))
      ]

  sees : (p : Place ℕ) (c : Component) → Good p → IsSeenGood (look_up around p c)
  sees p c good = of (is_directory_at t p.host) refl
    where
      of : (b : Bool) → is_directory_at t p.host ≡ b → IsSeenGood (if b then (if may_search t user p.host then inside around p c else Fails EACCES) else Fails ENOTDIR)
      of true dir = by (may_search t user p.host) refl
        where
          by : (b : Bool) → may_search t user p.host ≡ b → IsSeenGood (if b then inside around p c else Fails EACCES)
          by true search = inside_good p good.inode good.text good.is good.way dir search c
          by false search = tt
      of false dir = tt

  goes_on : (seen : SeenPlace) → IsSeenGood seen → GoesOn Good seen
  goes_on (Fails e) good = tt
  goes_on Missing good = tt
  goes_on (Leads is_dir q f) good = good.0
  goes_on (Links f text) good = tt
  goes_on (Jumps f lead) good = absurd good

  shown_good : (seen : SeenPlace) (o : Option (Place ℕ)) (f : Place ℕ) → IsSeenGood seen → Shows seen o → o ≡ Some f → Good f
  shown_good (Fails e) o f good shows is = absurd shows
  shown_good Missing o f good shows is = let clash : None ≡ Some f = sym shows ∙ is in absurd (let no : ⊥ = cc in no)
  shown_good (Leads is_dir q g) o f good shows is = let P : Place ℕ → Type 0 = λ p. Good p in subst P (some_is g f (sym shows ∙ is)) good.1
  shown_good (Links g text) o f good shows is = let P : Place ℕ → Type 0 = λ p. Good p in subst P (some_is g f (sym shows ∙ is)) good
  shown_good (Jumps g lead) o f good shows is = absurd good

  abbrev FoundGood : PlaceTarget → Type 0
  FoundGood target = (f : Place ℕ) → target.found ≡ Some f → Good f

  abbrev DirGood : PlaceTarget → Type 0
  DirGood target = Good target.dir

  root_good : Good (root_place plain)
  root_good = at_node root [] refl

  found_good : (path : List ℕ) → EndsSo (looking around) FoundGood (place_walk around Look (root_place plain) path)
  found_good path =
      walk_keeps Good (looking around) FoundGood root_good (λ s c good. goes_on (look_up around s c) (sees s c good))
      (λ s slash good f is. let P : Place ℕ → Type 0 = λ p. Good p in subst P (some_is s f is) good)
      (λ s c slash found good shows f is. shown_good (look_up around s c) found f (sees s c good) shows is)
      (λ s c slash f l good looked g is. absurd (let P : SeenPlace → Type 0 = IsSeenGood in subst P looked (sees s c good)))
      Look most_links (root_place plain) path (has_slash path) root_good

  dir_good : (path : List ℕ) → EndsSo (looking around) DirGood (place_walk around Look (root_place plain) path)
  dir_good path =
      walk_keeps Good (looking around) DirGood root_good (λ s c good. goes_on (look_up around s c) (sees s c good))
      (λ s slash good. good)
      (λ s c slash found good shows. good)
      (λ s c slash f l good looked. absurd (let P : SeenPlace → Type 0 = IsSeenGood in subst P looked (sees s c good)))
      Look most_links (root_place plain) path (has_slash path) root_good

  -- ---- sources

  -- the text of a directory that is reached is its host name
  by_host_name : (i : ℕ) (text : Text) → host_name t i ≡ Some text → body_is is_directory t i ≡ true → IsReached t user (Node i) → reached t user text ≡ Some i
  by_host_name i text called dir r =
      let same : r.inode ≡ i = ap number_of (sym r.is) in
      let named_so : named t r.text ≡ Some i = reached-named t user r.text r.inode r.way ∙ ap Some same in
      let texts : r.text ≡ text = some_is r.text text (sym (named-host_name t sound r.text i named_so dir) ∙ called) in
      ap (reached t user) (sym texts) ∙ r.way ∙ ap Some same

-- a source is reached by its text, and so is the directory in which it stands
pub record IsReachedSource (t : Tree) (user : User) (s : Source) : Type 0 where
  pub way : reached t user s.text ≡ Some s.inode
  pub above : s.is_dir ≡ false → (name : List ℕ) × (text : Text) × (s.text ≡ name ∷ text) × (reached t user text ≡ Some s.dir)

module _ (t : Tree) (user : User) (sound : IsSound t) where
  directory_reached : (i : ℕ) (s : Source) → body_is is_directory t i ≡ true → IsReached t user (Node i) → directory_source t i ≡ Some s → IsReachedSource t user s
  directory_reached i s dir r is =
      let n = map_some (λ text. record { inode = i; is_dir = true; dir = option_map_or (λ up. up) (node_above t i) 0; text = text }) (host_name t i) s is in
      let P : Source → Type 0 = IsReachedSource t user in
      subst P n.2 (record { way = by_host_name t user sound i n.0 n.1 dir r; above = λ no. absurd cc })

  entry_reached : (dir i : ℕ) (name : List ℕ) (s : Source) → IsReached t user (Node dir) → may t user dir Search ≡ true → entry t dir name ≡ Some i → entry_source t (Node dir) name i ≡ Some s → IsReachedSource t user s
  entry_reached dir i name s r search there is =
      let m = map_some (λ text. record { inode = i; is_dir = false; dir = dir; text = text }) (below name (host_name t dir)) s is in
      let n = map_some (λ (names : Text). name ∷ names) (host_name t dir) m.0 m.1 in
      let way = by_host_name t user sound dir n.0 n.1 (entry_in_directory t dir name i there) r in
      let own : reached t user m.0 ≡ Some i = ap (reached t user) (sym n.2) ∙ step_more t user n.0 name dir i way search there in
      let P : Source → Type 0 = IsReachedSource t user in
      subst P m.2 (record { way = own; above = λ no. (name, n.0, sym n.2, way) })

  found_reached : (path : List ℕ) (target : PlaceTarget) (s : Source) → (place_walk (around_table plain t user) Look (root_place plain) path).answer ≡ Ok target
      → source_at t target.dir.host target.name (option_map (λ (p : Place ℕ). p.host) target.found) ≡ Some s → IsReachedSource t user s
  found_reached path target s answer is = of target.found refl is
    where
      node : (p : Place ℕ) (i : ℕ) → target.found ≡ Some p → p.host ≡ Node i → (b : Bool) → body_is is_directory t i ≡ b
          → (if b then directory_source t i else entry_source t target.dir.host target.name i) ≡ Some s → IsReachedSource t user s
      node p i found host true dir h = directory_reached i s dir (subst (IsReached t user) host (found_good t user sound path target answer p found)) h
      node p i found host false none h =
          elim (found_well t user sound path target answer p found) [
            | inl dir ↦ absurd (let clash : true ≡ false = sym dir ∙ ap (is_directory_at t) host ∙ none in let no : ⊥ = cc in no)
            | inr e ↦
                let same : e.1 ≡ i = ap number_of (sym e.3 ∙ host) in
                entry_reached e.0 i target.name s (subst (IsReached t user) e.2 (dir_good t user sound path target answer)) e.5 (e.4 ∙ ap Some same) (ap (λ h. entry_source t h target.name i) (sym e.2) ∙ h)
          ]

      host_at : (p : Place ℕ) (h : Host) → target.found ≡ Some p → p.host ≡ h → source_at t target.dir.host target.name (Some h) ≡ Some s → IsReachedSource t user s
      host_at p (Node i) found host h = node p i found host (body_is is_directory t i) refl h
      host_at p (Proc i at) found host h = absurd cc

      of : (o : Option (Place ℕ)) → target.found ≡ o → source_at t target.dir.host target.name (option_map (λ (p : Place ℕ). p.host) o) ≡ Some s → IsReachedSource t user s
      of None found h = absurd cc
      of (Some p) found h = host_at p p.host found refl h

  pub sources_reached : (path : List ℕ) (s : Source) → source_by t user path ≡ Some s → IsReachedSource t user s
  sources_reached path s is = of (place_walk (around_table plain t user) Look (root_place plain) path).answer refl (source_was_walked t user sound path s is)
    where
      of : (r : Result PlaceTarget Errno) → (place_walk (around_table plain t user) Look (root_place plain) path).answer ≡ r → source_of t r ≡ Some s → IsReachedSource t user s
      of (Ok target) answer h = found_reached path target s answer h
      of (Err e) answer h = absurd cc
