-- What walks give of their targets.
use Rattle.std.proofs.Common.{◌≡◌, ◌≢◌, subst, ℕ, Bool, true, false, List, refl, sym, ap, ◌∙◌, cond, Some, None, Option, IsSome, Ok}
use Rattle.std.specs.Option.{option_map, option_map_or}
use Rattle.law_lawful.specs.pr_base.Paths.{Dot, DotDot, Name}
use Rattle.law_lawful.specs.pr_base.WalkFrame.{Landing, Fails}
use Rattle.law_lawful.specs.pr_base.WalkLaws.{IsShown, Shows}
use Rattle.law_lawful.specs.pr_base.declared.errno.Errno.TheVariants.{EACCES, ENAMETOOLONG, ENOTDIR}
use Rattle.law_lawful.specs.pr_base.declared.path.Last.{Last}
use Rattle.law_lawful.specs.pr_base.declared.path.Last.TheVariants as last
use Rattle.law_lawful.specs.pr_base.declared.path.WalkMode.{WalkMode}
use Rattle.law_lawful.specs.pr_base.declared.path.WalkMode.TheVariants.{Name as NameMode}
use Rattle.law_lawful.proofs.pr_base.EndLemmas.{found_is_shown, jump_is_shown}
use Rattle.law_lawful.specs.kr_tree.Lawful.{HasItsInodes}
use Rattle.law_lawful.specs.kr_tree.Tree.{Tree, Inode, Body, Directory, RegularFile, SymbolicLink, ProcessDirectory, inode, body, entry, body_is, takes_names, is_directory}
use Rattle.law_lawful.specs.kr_tree.declared.place.Host.TheVariants.{Node}
use Rattle.law_lawful.specs.kr_tree.declared.place.Place.{Place}
use Rattle.law_lawful.proofs.kr_tree.EntryLemmas.{entered}
use Rattle.law_lawful.proofs.kr_tree.NameLemmas.{some_is}
use Rattle.law_lawful.specs.kr_view.View.{covered, down, is_there, node_in}
use Rattle.law_lawful.specs.kr_view.Component.{Surroundings, is_processes, is_directory_at, may_search, look_up, too_long, through_point, seen_in_processes, seen_entry, seen_body, seen_at, named_in}
use Rattle.law_lawful.specs.kr_view.InTree.{StandsAround}
use Rattle.law_lawful.specs.kr_view.Laws.{LawsOfPlaces, IsSettledSource}
use Rattle.law_lawful.specs.kr_view.Walk.{PlaceTarget, looking, place_walk}
use Rattle.law_lawful.proofs.kr_view.PlaceLemmas.{walks_keep_places}
use Rattle.law_lawful.proofs.kr_view.TableLemmas.{laws_of_places}
use Rattle.law_allowed.specs.Told.{IsTargetIn, IsEntryOf, HasGoodName, WalksGiveTargets}
use Rattle.law_lawful.proofs.kr_view.StayingLemmas.{names-stay}

abbrev IsLastName : Last → Type 0
IsLastName last.Name = Unit {0}
IsLastName last.Dot = ⊥
IsLastName last.DotDot = ⊥
IsLastName last.Root = ⊥

is-last-name : (l : Last) → l ≡ last.Name → IsLastName l
is-last-name l e = subst IsLastName (sym e) tt

not-root : (l : Last) → l ≡ last.Name → l ≢ last.Root
not-root l e root = subst IsLastName root (is-last-name l e)

-- what takes names isn't the process directory
no-processes : (b : Body) → takes_names b ≡ true → is_processes b ≡ false
no-processes (Directory es st) takes = refl
no-processes (RegularFile bytes) takes = refl
no-processes (SymbolicLink text) takes = refl
no-processes (ProcessDirectory st) takes = absurd cc

module _ (around : Surroundings) (stands : HasItsInodes around.space.tree) (laws : LawsOfPlaces around.space.tree around.space.table) where
  abbrev t : Tree
  t = around.space.tree

  -- a node that is there shows itself
  body-found : (p : Place ℕ) (b : Body) (found : Option (Place ℕ)) → Shows (seen_body p (Some b)) found → found ≡ Some p
  body-found p (Directory es st) found shows = shows
  body-found p (RegularFile bytes) found shows = shows
  body-found p (SymbolicLink text) found shows = shows
  body-found p (ProcessDirectory st) found shows = shows

  node-found : (p : Place ℕ) (o : Option Body) → IsSome o → (found : Option (Place ℕ)) → Shows (seen_body p o) found → found ≡ Some p
  node-found p None there found shows = absurd cc
  node-found p (Some b) there found shows = body-found p b found shows

  entry-there : (d i : ℕ) (name : List ℕ) → entry t d name ≡ Some i → IsSome (body t i)
  entry-there d i name e =
      let own = entered t d name i e in
      let there = stands d own.own own.inside in
      subst (λ (o : Option Inode). IsSome (option_map (λ (x : Inode). x.node.body) o)) (sym (ap (λ q. inode t q) (sym own.leads) ∙ there.1)) refl

  -- what a name shows in a directory that takes names
  record ShowsEntry (mount d : ℕ) (name : List ℕ) (found : Option (Place ℕ)) : Type 0 where
    missing : found ≡ None → entry t d name ≡ None
    there : (p : Place ℕ) → covered around.space.table d name ≡ false → found ≡ Some p → (own : ℕ) × (p.host ≡ Node own) × (entry t d name ≡ Some own)

  of-entry : (mount d : ℕ) (name : List ℕ) (found : Option (Place ℕ)) (o : Option ℕ) → entry t d name ≡ o → Shows (seen_entry around mount o) found → ShowsEntry mount d name found
  of-entry mount d name found None e shows = record { missing = λ _. e; there = λ p free some. absurd (let no : None ≡ Some p = sym shows ∙ some in cc) }
  of-entry mount d name found (Some i) e shows =
      let is = node-found (node_in mount i) (body t i) (entry-there d i name e) found shows in
      record {
        missing = λ none. absurd (let no : None ≡ Some (node_in mount i) = sym none ∙ is in cc);
        there = λ p free some. (i, ap (λ (q : Place ℕ). q.host) (some_is p (node_in mount i) (sym some ∙ is)), e);
      }

  of-node : (mount d : ℕ) (name : List ℕ) (found : Option (Place ℕ)) (b : Bool) → b ≡ false → Shows (cond b (seen_in_processes around mount d (around.space.finds None name)) (seen_entry around mount (entry t d name))) found → ShowsEntry mount d name found
  of-node mount d name found true e shows = absurd cc
  of-node mount d name found false e shows = of-entry mount d name found (entry t d name) refl shows

  none-processes : (d : ℕ) → body_is takes_names t d ≡ true → body_is is_processes t d ≡ false
  none-processes d takes = by (inode t d) takes
    where
      by : (o : Option Inode) → option_map_or (λ (x : Inode). takes_names x.node.body) o false ≡ true → option_map_or (λ (x : Inode). is_processes x.node.body) o false ≡ false
      by None takes = refl
      by (Some x) takes = no-processes x.node.body takes

  -- a mount's source is there, and its name is covered
  of-point : (mount d : ℕ) (name : List ℕ) (found : Option (Place ℕ)) → body_is takes_names t d ≡ true → (o : Option (Place ℕ)) → down around.space.table mount d name ≡ o → Shows (through_point around mount d name o) found
      → ShowsEntry mount d name found
  of-point mount d name found takes None e shows = of-node mount d name found (body_is is_processes t d) (none-processes d takes) shows
  of-point mount d name found takes (Some q) e shows =
      let settled = laws.down_stands mount d name q e in
      let over = laws.down_covered mount d name (ap (λ (o : Option (Place ℕ)). is_there o) e) in
      let is : found ≡ Some q = at-source q settled shows in
      record {
        missing = λ none. absurd (let no : None ≡ Some q = sym none ∙ is in cc);
        there = λ p free some. absurd (let no : false ≡ true = sym free ∙ over in cc);
      }
    where
      source-there : (o : Option Body) (b : Bool) → option_map is_directory o ≡ Some b → IsSome o
      source-there None b e = absurd cc
      source-there (Some x) b e = refl

      at-source : (q : Place ℕ) → IsSettledSource t around.space.table q → Shows (seen_at around q q.host) found → found ≡ Some q
      at-source q settled shows =
          let host : q.host ≡ Node settled.settled.source = ap (λ (p : Place ℕ). p.host) settled.place in
          node-found q (body t settled.settled.source) (source-there (body t settled.settled.source) settled.settled.is_dir settled.kind) found (subst (λ h. Shows (seen_at around q h) found) host shows)

  -- through the tests of a look
  of-look : (dir : Place ℕ) (name : List ℕ) (found : Option (Place ℕ)) → Shows (look_up around dir (Name name)) found → (d : ℕ) → dir.host ≡ Node d → body_is takes_names t d ≡ true → ShowsEntry dir.mount d name found
  of-look dir name found shows d at takes = by (is_directory_at t dir.host) (may_search t around.space.user dir.host) (too_long name) shows
    where
      by : (a b c : Bool) → Shows (cond a (cond b (cond c (Fails ENAMETOOLONG) (named_in around dir.mount dir.host name)) (Fails EACCES)) (Fails ENOTDIR)) found → ShowsEntry dir.mount d name found
      by true true true shows = absurd shows
      by true true false shows = of-point dir.mount d name found takes (down around.space.table dir.mount d name) refl (subst (λ h. Shows (named_in around dir.mount h name) found) at shows)
      by true false c shows = absurd shows
      by false b c shows = absurd shows

  -- of a target that isn't what a process link led to
  of-target : (target : PlaceTarget) → target.last ≡ last.Name → IsShown (looking around) target → (d : ℕ) → target.dir.host ≡ Node d → body_is takes_names t d ≡ true → ShowsEntry target.dir.mount d target.name target.found
  of-target target named (Dot, kind, name, shows) d at takes = absurd (is-last-name last.Dot (kind ∙ named))
  of-target target named (DotDot, kind, name, shows) d at takes = absurd (is-last-name last.DotDot (kind ∙ named))
  of-target target named (Name n, kind, name, shows) d at takes = subst (λ n. ShowsEntry target.dir.mount d n target.found) name (of-look target.dir n target.found shows d at takes)

module _ (around : Surroundings) (mode : WalkMode) (base : Place ℕ) (path : List ℕ) (target : PlaceTarget) (stands : StandsAround around base) (answered : (place_walk around mode base path).answer ≡ Ok target) where
  -- what a process link led to is found
  not-jumped : target.found ≡ None → target.jumped ≡ false
  not-jumped none = by target.jumped refl
    where
      by : (b : Bool) → target.jumped ≡ b → b ≡ false
      by false e = refl
      by true e =
          let link = jump_is_shown (Place ℕ) (Place ℕ) (looking around) mode base path target answered e in
          let landing : Landing (Place ℕ) (Place ℕ) = link.3 in
          let found = ap (λ (t : PlaceTarget). t.found) link.5 in
          absurd (let no : None ≡ Some landing.found = sym none ∙ found in cc)

  shown-entry : target.jumped ≡ false → target.last ≡ last.Name → (d : ℕ) → target.dir.host ≡ Node d → body_is takes_names around.space.tree d ≡ true
      → ShowsEntry around stands.inodes (laws_of_places around.space.tree around.space.table stands.mounts) target.dir.mount d target.name target.found
  shown-entry jumped named =
      of-target around stands.inodes (laws_of_places around.space.tree around.space.table stands.mounts) target named
      (found_is_shown (Place ℕ) (Place ℕ) (looking around) mode base path target answered jumped (not-root target.last named))

  is-target : HasGoodName around.space.tree target → IsTargetIn around.space.tree around.space.table target
  is-target good =
      let places = walks_keep_places around mode base path target stands answered in
      record {
        found = places.found;
        directory = λ none. places.directory (not-jumped none);
        free = λ named none d at takes. let own = good.free named none in (own.0, own.1, (shown-entry (not-jumped none) named d at takes).missing none);
        remembered = good.remembered;
      }

  is-entry : target.jumped ≡ false → IsEntryOf around.space.tree around.space.table target
  is-entry jumped d p named at takes free some = (shown-entry jumped named d at takes).there p free some

pub walks-give-targets : WalksGiveTargets
walks-give-targets = record {
  targets = λ around mode base path target stands answered good. is-target around mode base path target stands answered good;
  entries = λ around base path target stands answered. is-entry around NameMode base path target stands answered (names-stay (looking around) base path target answered);
}
