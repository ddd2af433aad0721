-- What a component shows where the guest's root is the one mount.
use Rattle.std.proofs.Common.{◌≡◌, ℕ, Bool, true, false, List, [], Option, Some, None, refl, ap, sym, subst, ◌∙◌, nat_eq}
use Rattle.std.specs.Bool.{if◌then◌else◌}
use Rattle.std.specs.Option.{option_map, option_map_or, option_and_then}
use Rattle.pt_bind.specs.pr_base.Paths.{Component}
use Rattle.pt_bind.specs.pr_base.WalkFrame.{Fails, Leads, Links}
use Rattle.pt_bind.specs.pr_base.declared.errno.Errno.TheVariants.{EACCES, ENOTDIR, ENOENT, ENAMETOOLONG}
use Rattle.kr_walk.specs.kr_tree.Lawful.{HasItsInodes}
use Rattle.kr_walk.specs.kr_tree.Tree.{Tree, Inode, Entry, Body, Directory, RegularFile, SymbolicLink, ProcessDirectory, above as node_above, body, body_is, entries_of, entry, entry_named, inode, text_of}
use Rattle.kr_walk.specs.kr_tree.declared.place.Host.TheVariants.{Node}
use Rattle.kr_walk.proofs.kr_tree.NameLemmas.{some_is}
use Rattle.kr_walk.specs.kr_tree.declared.place.Place.{Place}
use Rattle.kr_walk.proofs.kr_tree.EntryLemmas.{entered}
use Rattle.kr_walk.specs.kr_view.View.{node_in, up}
use Rattle.kr_walk.specs.kr_view.Component.{Namespace, SeenPlace, Surroundings, above, above_body, above_host, above_node, inside, in_node, is_directory_at, is_processes, look_up, may_search, named, named_in, seen_body, seen_entry, seen_in_processes, shows_directory, too_long}
use Rattle.kr_mounts.specs.Locations.{Spot, SeenSpot, alone, by_text, leads_to, look_from, spotted}
use Rattle.kr_mounts.specs.Spots.{IsShownAt, IsSight, alone_around}
use Rattle.kr_mounts.specs.declared.location.Locating.{Locating}
use Rattle.kr_mounts.specs.declared.location.Shown.{Shown}
use Rattle.kr_mounts.specs.declared.location.Shown.TheVariants as shown

-- ---- from a place, and from a spot

pub spotted_sight : (spot : Spot) (c : Component) (seen : SeenPlace) (s : Shown) → IsShownAt seen s → IsSight (spotted spot c seen) spot c s
spotted_sight spot c seen shown.Fails h = (h.0, ap (spotted spot c) h.1)
spotted_sight spot c seen (shown.Leads None) h = ap (spotted spot c) h
spotted_sight spot c seen (shown.Leads (Some i)) h = ap (spotted spot c) h.1
spotted_sight spot c seen (shown.Links text) h = (Some h.0, ap (spotted spot c) h.1)

module _ (l : Locating) (spot : Spot) (c : Component) where
  abbrev around : Surroundings
  around = alone_around l

  pub sight_by_text : (o : Option (Place ℕ)) → o ≡ None → IsSight (look_from l.tree.now l.user (alone l.root) spot c o) spot c (shown.Leads None)
  sight_by_text o e = ap (look_from l.tree.now l.user (alone l.root) spot c) e

  pub sight_in_none : (o : Option (Place ℕ)) (p : Place ℕ) → o ≡ Some p → is_directory_at l.tree.now p.host ≡ false → IsSight (look_from l.tree.now l.user (alone l.root) spot c o) spot c (shown.Leads None)
  sight_in_none o p e none =
      ap (look_from l.tree.now l.user (alone l.root) spot c) e ∙ ap (λ b. if b then spotted spot c (look_up around p c) else leads_to (by_text spot c)) none

  pub sight_refused : (o : Option (Place ℕ)) (p : Place ℕ) → o ≡ Some p → is_directory_at l.tree.now p.host ≡ true → may_search l.tree.now l.user p.host ≡ false
      → IsSight (look_from l.tree.now l.user (alone l.root) spot c o) spot c shown.Fails
  sight_refused o p e dir may = (
    EACCES,
    ap (look_from l.tree.now l.user (alone l.root) spot c) e ∙ ap (λ b. if b then spotted spot c (look_up around p c) else leads_to (by_text spot c)) dir
        ∙ ap (λ b. spotted spot c (if b then (if may_search l.tree.now l.user p.host then inside around p c else Fails EACCES) else Fails ENOTDIR)) dir
        ∙ ap (λ b. spotted spot c (if b then inside around p c else Fails EACCES)) may,
  )

  pub sight_inside : (o : Option (Place ℕ)) (p : Place ℕ) (s : Shown) → o ≡ Some p → is_directory_at l.tree.now p.host ≡ true → may_search l.tree.now l.user p.host ≡ true → IsShownAt (inside around p c) s
      → IsSight (look_from l.tree.now l.user (alone l.root) spot c o) spot c s
  sight_inside o p s e dir may h =
      let same : look_from l.tree.now l.user (alone l.root) spot c o ≡ spotted spot c (inside around p c) =
      ap (look_from l.tree.now l.user (alone l.root) spot c) e ∙ ap (λ b. if b then spotted spot c (look_up around p c) else leads_to (by_text spot c)) dir
      ∙ ap (λ b. spotted spot c (if b then (if may_search l.tree.now l.user p.host then inside around p c else Fails EACCES) else Fails ENOTDIR)) dir
      ∙ ap (λ b. spotted spot c (if b then inside around p c else Fails EACCES)) may in
      let P : SeenSpot → Type 0 = λ seen. IsSight seen spot c s in
      subst P (sym same) (spotted_sight spot c (inside around p c) s h)

-- ---- `..`

module _ (l : Locating) (at : ℕ) where
  abbrev space : Namespace
  space = (alone_around l).space

  pub above_root : nat_eq at l.root ≡ true → IsShownAt (above space (node_in 0 at)) (shown.Leads (Some at))
  above_root is = (true, ap (λ b. if b then shows_directory (node_in 0 at) else above_host space 0 (Node at)) is)

  up_alone : up (alone l.root) 0 at ≡ None
  up_alone = elim (nat_eq l.root at) as (λ b. ◌≡◌ {A = Option (Place ℕ)} (if b then None else None) None) [ true ↦ refl | false ↦ refl ]

  above_other : nat_eq at l.root ≡ false → above space (node_in 0 at) ≡ above_body 0 (node_above l.tree.now at)
  above_other is = ap (λ b. if b then shows_directory (node_in 0 at) else above_host space 0 (Node at)) is ∙ ap (above_node space 0 at) up_alone

  pub above_some : (dir : ℕ) → nat_eq at l.root ≡ false → Some dir ≡ node_above l.tree.now at → IsShownAt (above space (node_in 0 at)) (shown.Leads (Some dir))
  above_some dir is up = (true, above_other is ∙ ap (above_body 0) (sym up))

  pub above_none : nat_eq at l.root ≡ false → None ≡ node_above l.tree.now at → IsShownAt (above space (node_in 0 at)) shown.Fails
  above_none is up = (ENOENT, above_other is ∙ ap (above_body 0) (sym up))

-- ---- a name

module _ (l : Locating) (at : ℕ) (name : List ℕ) where
  abbrev view : Surroundings
  view = alone_around l

  abbrev t : Tree
  t = l.tree.now

  pub named_long : too_long name ≡ true → IsShownAt (named view (node_in 0 at) name) shown.Fails
  named_long long = (ENAMETOOLONG, ap (λ b. if b then Fails ENAMETOOLONG else named_in view 0 (Node at) name) long)

  named_short : too_long name ≡ false → named view (node_in 0 at) name ≡ in_node view 0 at name
  named_short short = ap (λ b. if b then Fails ENAMETOOLONG else named_in view 0 (Node at) name) short

  -- in the process directory there are no entries
  no_entries : body_is is_processes t at ≡ true → entry t at name ≡ None
  no_entries is = of (inode t at) is
    where
      of : (o : Option Inode) → option_map_or (λ x. is_processes x.node.body) o false ≡ true → option_map (λ (e : Entry). e.inode) (entry_named name (option_map_or (λ x. entries_of x.node.body) o [])) ≡ None
      of None h = absurd cc
      of (Some x) h = body_at x.node.body h
        where
          body_at : (b : Body) → is_processes b ≡ true → option_map (λ (e : Entry). e.inode) (entry_named name (entries_of b)) ≡ None
          body_at (Directory entries standing) h = absurd cc
          body_at (RegularFile bytes) h = absurd cc
          body_at (SymbolicLink text) h = absurd cc
          body_at (ProcessDirectory standing) h = refl

  in_entries : (o : Option ℕ) → entry t at name ≡ o → in_node view 0 at name ≡ seen_entry view 0 o
  in_entries o is = of (body_is is_processes t at) refl
    where
      of : (b : Bool) → body_is is_processes t at ≡ b → in_node view 0 at name ≡ seen_entry view 0 o
      of true processes =
          ap (λ b. if b then seen_in_processes view 0 at None else seen_entry view 0 (entry t at name)) processes ∙ ap (seen_entry view 0) (sym (no_entries processes) ∙ is)
      of false none = ap (λ b. if b then seen_in_processes view 0 at None else seen_entry view 0 (entry t at name)) none ∙ ap (seen_entry view 0) is

  pub named_none : too_long name ≡ false → entry t at name ≡ None → IsShownAt (named view (node_in 0 at) name) (shown.Leads None)
  named_none short none = named_short short ∙ in_entries None none

  pub named_link : (i : ℕ) (text : List ℕ) → too_long name ≡ false → entry t at name ≡ Some i → option_and_then text_of (body t i) ≡ Some text → (p : Place ℕ) × (named view (node_in 0 at) name ≡ Links p text)
  named_link i text short is linked = (node_in 0 i, named_short short ∙ in_entries (Some i) is ∙ of (body t i) linked)
    where
      of : (o : Option Body) → option_and_then text_of o ≡ Some text → seen_body (node_in 0 i) o ≡ Links (node_in 0 i) text
      of None h = absurd cc
      of (Some (Directory entries standing)) h = absurd cc
      of (Some (RegularFile bytes)) h = absurd cc
      of (Some (SymbolicLink bytes)) h = ap (Links (node_in 0 i)) (some_is bytes text h)
      of (Some (ProcessDirectory standing)) h = absurd cc

  pub named_other : (i : ℕ) → HasItsInodes t → too_long name ≡ false → entry t at name ≡ Some i → option_and_then text_of (body t i) ≡ None → IsShownAt (named view (node_in 0 at) name) (shown.Leads (Some i))
  named_other i there short is other =
      let e = entered t at name i is in
      let x = there at e.own e.inside in
      let here : inode t i ≡ Some x.0 = ap (inode t) (sym e.leads) ∙ x.1 in
      let seen = of x.0.node.body (sym (ap (λ o. option_and_then text_of (option_map (λ (x : Inode). x.node.body) o)) here) ∙ other) in
      (seen.0, named_short short ∙ in_entries (Some i) is ∙ ap (λ o. seen_body (node_in 0 i) (option_map (λ (x : Inode). x.node.body) o)) here ∙ seen.1)
    where
      of : (b : Body) → text_of b ≡ None → (is_dir : Bool) × (seen_body (node_in 0 i) (Some b) ≡ Leads is_dir (node_in 0 i) (node_in 0 i))
      of (Directory entries standing) h = (true, refl)
      of (RegularFile bytes) h = (false, refl)
      of (SymbolicLink bytes) h = absurd cc
      of (ProcessDirectory standing) h = (true, refl)
