-- What a name shows in a directory that takes names is the entry of that name, but for mounts.
use Rattle.std.proofs.Common.{◌≡◌, ℕ, Bool, true, false, List, Option, Some, None, refl, sym, ap, subst, ◌∙◌}
use Rattle.std.specs.Bool.{if◌then◌else◌}
use Rattle.std.specs.Option.{option_map, option_map_or}
use Rattle.std.proofs.lemmas.Bool.{false≢true}
use Rattle.std.proofs.lemmas.Option.{same_Some, none-some}
use Rattle.law_allowed.specs.pr_base.Paths.{Name}
use Rattle.law_allowed.specs.pr_base.WalkFrame.{Fails}
use Rattle.law_allowed.specs.pr_base.WalkLaws.{Shows}
use Rattle.law_allowed.specs.pr_base.declared.errno.Errno.TheVariants.{EACCES, ENOTDIR, ENAMETOOLONG}
use Rattle.kr_transfer.specs.kr_inode.declared.user.Right.TheVariants.{Search}
use Rattle.law_allowed.specs.kr_tree.declared.place.Host.TheVariants.{Node}
use Rattle.law_allowed.specs.kr_tree.declared.place.Place.{Place}
use Rattle.law_allowed.specs.kr_tree.Lawful.{HasItsInodes}
use Rattle.law_allowed.specs.kr_tree.Rights.{may}
use Rattle.law_allowed.specs.kr_tree.Tree.{Tree, Inode, Body, Directory, RegularFile, SymbolicLink, ProcessDirectory, inode, body, body_is, entry, is_directory, takes_names}
use Rattle.law_allowed.proofs.kr_tree.EntryLemmas.{entered}
use Rattle.law_allowed.specs.kr_view.View.{StandsIn, node_in, down, covered, is_there}
use Rattle.law_allowed.specs.kr_view.Component.{Surroundings, SeenPlace, is_processes, look_up, seen_at, seen_body, seen_entry, seen_in_processes, in_node, through_point, too_long}
use Rattle.law_allowed.proofs.kr_view.TableLemmas.{laws_of_places}

-- what takes names is no process directory
no_processes : (t : Tree) (dir : ℕ) → body_is takes_names t dir ≡ true → body_is is_processes t dir ≡ false
no_processes t dir takes = by (inode t dir) takes
  where
    kind : (b : Body) → takes_names b ≡ true → is_processes b ≡ false
    kind (Directory entries standing) h = refl
    kind (RegularFile bytes) h = refl
    kind (SymbolicLink text) h = refl
    kind (ProcessDirectory standing) h = absurd cc

    by : (o : Option Inode) → option_map_or (λ (x : Inode). takes_names x.node.body) o false ≡ true → option_map_or (λ (x : Inode). is_processes x.node.body) o false ≡ false
    by None h = refl
    by (Some x) h = kind x.node.body h

entry_there : (t : Tree) → HasItsInodes t → (dir : ℕ) (name : List ℕ) (i : ℕ) → entry t dir name ≡ Some i → (b : Body) × (body t i ≡ Some b)
entry_there t inodes dir name i is =
    let e = entered t dir name i is in
    let x = inodes dir e.own e.inside in
    (x.0.node.body, ap (option_map (λ (x : Inode). x.node.body)) (ap (inode t) (sym e.leads) ∙ x.1))

-- what is there is found
body_found : (p : Place ℕ) (b : Body) (found : Option (Place ℕ)) → Shows (seen_body p (Some b)) found → found ≡ Some p
body_found p (Directory entries standing) found shows = shows
body_found p (RegularFile bytes) found shows = shows
body_found p (SymbolicLink text) found shows = shows
body_found p (ProcessDirectory standing) found shows = shows

kind_known : (t : Tree) (i : ℕ) (b : Bool) → option_map is_directory (body t i) ≡ Some b → (x : Body) × (body t i ≡ Some x)
kind_known t i b kind = by (body t i) kind
  where
    by : (o : Option Body) → option_map is_directory o ≡ Some b → (x : Body) × (o ≡ Some x)
    by None h = absurd (none-some b h)
    by (Some x) h = (x, refl)

-- where a name is looked up it isn't too long
pub looked_for : (a b c : Bool) (x : SeenPlace) (found : Option (Place ℕ)) → Shows (if a then (if b then (if c then Fails ENAMETOOLONG else x) else Fails EACCES) else Fails ENOTDIR) found → (c ≡ false) × Shows x found
looked_for true true true x found shows = absurd shows
looked_for true true false x found shows = (refl, shows)
looked_for true false c x found shows = absurd shows
looked_for false b c x found shows = absurd shows

module _ (around : Surroundings) (inodes : HasItsInodes around.space.tree) (stands : StandsIn around.space.tree around.space.table) (mount dir : ℕ) (name : List ℕ) (takes : body_is takes_names around.space.tree dir ≡ true) where
  abbrev t : Tree
  t = around.space.tree

  named : (found : Option (Place ℕ)) → Shows (look_up around (node_in mount dir) (Name name)) found
      → (too_long name ≡ false) × Shows (through_point around mount dir name (down around.space.table mount dir name)) found
  named found shows = looked_for (body_is is_directory t dir) (may t around.space.user dir Search) (too_long name) (through_point around mount dir name (down around.space.table mount dir name)) found shows

  in_directory : (found : Option (Place ℕ)) → Shows (in_node around mount dir name) found → Shows (seen_entry around mount (entry t dir name)) found
  in_directory found shows =
      subst (λ b. Shows (if b then seen_in_processes around mount dir (around.space.finds None name) else seen_entry around mount (entry t dir name)) found) (no_processes t dir takes) shows

  at_entry : (found : Option (Place ℕ)) (i : ℕ) → entry t dir name ≡ Some i → Shows (seen_entry around mount (Some i)) found → found ≡ Some (node_in mount i)
  at_entry found i is shows =
      let b = entry_there t inodes dir name i is in
      body_found (node_in mount i) b.0 found (subst (λ b. Shows (seen_body (node_in mount i) b) found) b.1 shows)

  -- the source of a mount is there
  at_source : (q : Place ℕ) (found : Option (Place ℕ)) → down around.space.table mount dir name ≡ Some q → Shows (seen_at around q q.host) found → found ≡ Some q
  at_source q found is shows =
      let settled = (laws_of_places t around.space.table stands).down_stands mount dir name q is in
      let b = kind_known t settled.settled.source settled.settled.is_dir settled.kind in
      body_found q b.0 found
      (subst (λ b. Shows (seen_body q b) found) b.1 (subst (λ h. Shows (seen_at around q h) found) (ap (λ (q : Place ℕ). q.host) settled.place) shows))

  -- a free name isn't too long, and no entry
  pub free_name : Shows (look_up around (node_in mount dir) (Name name)) None → (too_long name ≡ false) × (entry t dir name ≡ None)
  free_name shows = let there = named None shows in (there.0, through (down around.space.table mount dir name) refl there.1)
    where
      among : (o : Option ℕ) → entry t dir name ≡ o → Shows (seen_entry around mount o) None → entry t dir name ≡ None
      among None is shows = is
      among (Some i) is shows = absurd (none-some (node_in mount i) (at_entry None i is shows))

      through : (o : Option (Place ℕ)) → down around.space.table mount dir name ≡ o → Shows (through_point around mount dir name o) None → entry t dir name ≡ None
      through None is shows = among (entry t dir name) refl (in_directory None shows)
      through (Some q) is shows = absurd (none-some q (at_source q None is shows))

  -- what a name finds that no mount covers is the entry of that name
  pub named_entry : (p : Place ℕ) → Shows (look_up around (node_in mount dir) (Name name)) (Some p) → covered around.space.table dir name ≡ false → (i : ℕ) × (p.host ≡ Node i) × (entry t dir name ≡ Some i)
  named_entry p shows open_name = through (down around.space.table mount dir name) refl (named (Some p) shows).1
    where
      among : (o : Option ℕ) → entry t dir name ≡ o → Shows (seen_entry around mount o) (Some p) → (i : ℕ) × (p.host ≡ Node i) × (entry t dir name ≡ Some i)
      among None is shows = absurd (none-some p (sym shows))
      among (Some i) is shows = (i, ap (λ (q : Place ℕ). q.host) (same_Some p (node_in mount i) (at_entry (Some p) i is shows)), is)

      through : (o : Option (Place ℕ)) → down around.space.table mount dir name ≡ o → Shows (through_point around mount dir name o) (Some p) → (i : ℕ) × (p.host ≡ Node i) × (entry t dir name ≡ Some i)
      through None is shows = among (entry t dir name) refl (in_directory (Some p) shows)
      through (Some q) is shows =
          let cover = (laws_of_places t around.space.table stands).down_covered mount dir name (ap is_there is) in
          absurd (false≢true (sym open_name ∙ cover))
