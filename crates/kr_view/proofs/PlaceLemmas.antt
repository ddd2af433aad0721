-- A walk comes to places of the view in the tree alone.
use Rattle.std.proofs.Common.{◌≡◌, ℕ, ◌<◌, zero, suc, Bool, true, false, List, [], ◌∷◌, Option, Some, None, refl, sym, ap, subst, ◌∙◌, arith, nat_eq}
use Rattle.std.specs.Bool.{if◌then◌else◌}
use Rattle.std.specs.Option.{option_map, option_map_or, option_and_then}
use Rattle.kr_tree.specs.pr_base.Paths.{Component, Dot, DotDot, Name, has_slash}
use Rattle.kr_tree.specs.pr_base.WalkFrame.{Fails, Missing, Leads, Links, Jumps, Landing, most_links}
use Rattle.kr_tree.specs.pr_base.declared.errno.Errno.TheVariants.{ENOENT, EACCES, ENOTDIR, ENAMETOOLONG}
use Rattle.kr_tree.specs.pr_base.declared.path.WalkMode.{WalkMode}
use Rattle.kr_tree.proofs.pr_base.EndLemmas.{EndsSo}
use Rattle.kr_tree.proofs.pr_base.KeepLemmas.{GoesOn, walk_keeps}
use Rattle.kr_tree.proofs.pr_base.TextLemmas.{some_is, map_some}
use Rattle.kr_tree.proofs.kr_inode.EntryLemmas.{named_in as entry_in}
use Rattle.kr_tree.specs.declared.place.Host.{Host}
use Rattle.kr_tree.specs.declared.place.Host.TheVariants.{Node, Proc}
use Rattle.kr_tree.specs.declared.place.Place.{Place}
use Rattle.kr_tree.specs.declared.place.ProcAt.{ProcAt}
use Rattle.kr_tree.specs.declared.place.ProcAt.TheVariants.{SelfLink, Dir, Cwd, Root, Exe, FdDir, Fd}
use Rattle.kr_tree.specs.Tree.{Tree, Inode, Entry, Body, Directory, RegularFile, SymbolicLink, ProcessDirectory, inode, body, body_is, entry, entry_named, entries, above as node_above, is_directory, is_listed}
use Rattle.kr_tree.proofs.CountLemmas.{above_there, entries_there}
use Rattle.kr_view.specs.declared.procs.Lead.{Lead}
use Rattle.kr_view.specs.declared.procs.Lead.TheVariants.{Text, Jump, Nameless, NoLink}
use Rattle.kr_view.specs.View.{Point, Row, row, node_in, root_place, point_place, is_there, down, up, is_root_place}
use Rattle.kr_view.specs.Component.{Surroundings, SeenPlace, is_process_directory, is_directory_at, may_search, shows_directory, seen_body, landing, seen_link, seen_at, above_body, above_node, is_shown, above_process, above_host, seen_in_processes, seen_entry, is_processes, in_node, through_point, named_in, too_long, inside, look_up}
use Rattle.kr_view.specs.Walk.{PlaceTarget, looking, place_walk}
use Rattle.kr_tree.specs.pr_base.WalkLaws.{Shows}
use Rattle.kr_view.specs.Laws.{IsSettledSource}
use Rattle.kr_view.specs.InTree.{IsObjectOf, IsPlaceOf, LeadToEntries, StandsAround, WalksKeepPlaces}
use Rattle.kr_view.proofs.TableLemmas.{laws_of_places}

-- what passes a test is there
tested_there : (test : Body → Bool) (t : Tree) (i : ℕ) → body_is test t i ≡ true → is_there (inode t i) ≡ true
tested_there test t i h = at (inode t i) h
  where
    at : (o : Option Inode) → option_map_or (λ x. test x.node.body) o false ≡ true → is_there o ≡ true
    at None h = absurd cc
    at (Some x) h = refl

kind_there : (t : Tree) (i : ℕ) (b : Bool) → option_map is_directory (body t i) ≡ Some b → is_there (inode t i) ≡ true
kind_there t i b h = at (inode t i) h
  where
    at : (o : Option Inode) → option_map is_directory (option_map (λ x. x.node.body) o) ≡ Some b → is_there o ≡ true
    at None h = absurd cc
    at (Some x) h = refl

-- the mounts before one that is there are there
earlier : (table : List Row) (j k : ℕ) (r : Row) → row table k ≡ Some r → j < k → is_there (row table j) ≡ true
earlier [] j k r there before = absurd cc
earlier (q ∷ table) zero k r there before = refl
earlier (q ∷ table) (suc j) zero r there before = absurd (omega arith)
earlier (q ∷ table) (suc j) (suc k) r there before = earlier table j k r there (omega arith)

module _ (around : Surroundings) (base : Place ℕ) (stand : StandsAround around base) where
  abbrev t : Tree
  t = around.space.tree

  abbrev Good : Place ℕ → Type 0
  Good p = IsPlaceOf around.space.tree around.space.table p

  -- ---- places

  in_mount : (mount i : ℕ) → is_there (row around.space.table mount) ≡ true → is_there (inode t i) ≡ true → Good (node_in mount i)
  in_mount mount i mounted there = record { mounted = mounted; object = there }

  source_there : (q : Place ℕ) → IsSettledSource t around.space.table q → Good q
  source_there q source =
      let P : Place ℕ → Type 0 = λ p. Good p in
      subst P (sym source.place) (in_mount q.mount source.settled.source (ap is_there source.there) (kind_there t source.settled.source source.settled.is_dir source.kind))

  root_there : Good (root_place around.space.table)
  root_there = source_there (root_place around.space.table) (laws_of_places t around.space.table stand.mounts).root_stands

  -- above the source of a mount
  point_there : (mount i : ℕ) (q : Place ℕ) → up around.space.table mount i ≡ Some q → Good q
  point_there mount i q h = at (row around.space.table mount) refl h
    where
      at_point : (r : Row) → row around.space.table mount ≡ Some r → (o : Option Point) → r.point ≡ o → option_map (λ p. node_in p.mount p.dir) o ≡ Some q → Good q
      at_point r there None pointed h = absurd cc
      at_point r there (Some p) pointed h =
          let stands = stand.mounts.points mount r p there pointed in
          let P : Place ℕ → Type 0 = λ q. Good q in
          subst P (some_is (node_in p.mount p.dir) q h) (in_mount p.mount p.dir (earlier around.space.table p.mount mount r there stands.before) (tested_there is_listed t p.dir stands.listed))

      where_source : (r : Row) → row around.space.table mount ≡ Some r → (b : Bool) → (if b then point_place r else None) ≡ Some q → Good q
      where_source r there true h = at_point r there r.point refl h
      where_source r there false h = absurd cc

      at : (o : Option Row) → row around.space.table mount ≡ o → option_and_then (λ r. if nat_eq r.source i then point_place r else None) o ≡ Some q → Good q
      at None there h = absurd cc
      at (Some r) there h = where_source r there (nat_eq r.source i) h

  entry_there : (dir i : ℕ) (name : List ℕ) → entry t dir name ≡ Some i → is_there (inode t i) ≡ true
  entry_there dir i name h =
      let e = map_some (λ (e : Entry). e.inode) (entry_named name (entries t dir)) i h in
      let x = stand.inodes dir e.0 (entry_in name (entries t dir) e.0 e.1).0 in
      ap (λ k. is_there (inode t k)) (sym e.2) ∙ ap is_there x.1

  -- ---- what is seen

  -- where a link of the process directory leads
  abbrev LandsAt : Landing (Place ℕ) (Place ℕ) → Type 0
  LandsAt l = (at : ProcAt) × (to : Place ℕ) × (dir : ℕ) × (name : List ℕ) × (around.leads at ≡ Jump to dir name) × (l ≡ landing around.space to dir name)

  abbrev Sees : SeenPlace → Type 0
  Sees (Fails e) = Unit {0}
  Sees Missing = Unit {0}
  Sees (Leads is_dir q f) = Good q × Good f
  Sees (Links f text) = Good f
  Sees (Jumps f None) = Good f
  Sees (Jumps f (Some l)) = Good f × LandsAt l

  either_way : (b : Bool) (x y : SeenPlace) → Sees x → Sees y → Sees (if b then x else y)
  either_way true x y p q = p
  either_way false x y p q = q

  sees_link : (p : Place ℕ) (at : ProcAt) (lead : Lead ℕ) → around.leads at ≡ lead → Good p → Sees (seen_link around.space p lead)
  sees_link p at (Text text) is good = good
  sees_link p at (Jump to dir name) is good = (good, (at, to, dir, name, is, refl))
  sees_link p at Nameless is good = good
  sees_link p at NoLink is good = good

  sees_body : (p : Place ℕ) (b : Option Body) → Good p → Sees (seen_body p b)
  sees_body p None good = tt
  sees_body p (Some (Directory entries standing)) good = (good, good)
  sees_body p (Some (RegularFile bytes)) good = (good, good)
  sees_body p (Some (SymbolicLink text)) good = good
  sees_body p (Some (ProcessDirectory standing)) good = (good, good)

  sees_at : (p : Place ℕ) (host : Host) → Good p → Sees (seen_at around p host)
  sees_at p (Node i) good = sees_body p (body t i) good
  sees_at p (Proc i at) good = either_way (is_process_directory at) (shows_directory p) (seen_link around.space p (around.leads at)) (good, good) (sees_link p at (around.leads at) refl good)

  sees_directory : (p : Place ℕ) → Good p → Sees (shows_directory p)
  sees_directory p good = (good, good)

  -- ---- `..`

  sees_above_body : (mount i : ℕ) (dir : Option ℕ) → node_above t i ≡ dir → is_there (row around.space.table mount) ≡ true → Sees (above_body mount dir)
  sees_above_body mount i None is mounted = tt
  sees_above_body mount i (Some dir) is mounted = sees_directory (node_in mount dir) (in_mount mount dir mounted (ap is_there (above_there t stand.sound i dir is).1))

  sees_above_node : (mount i : ℕ) (point : Option (Place ℕ)) → up around.space.table mount i ≡ point → is_there (row around.space.table mount) ≡ true → Sees (above_node around.space mount i point)
  sees_above_node mount i None is mounted = sees_above_body mount i (node_above t i) refl mounted
  sees_above_node mount i (Some q) is mounted = sees_directory q (point_there mount i q is)

  sees_above_process : (mount i : ℕ) (at : ProcAt) → is_there (row around.space.table mount) ≡ true → body_is is_processes t i ≡ true → Sees (above_process around.space mount i at)
  sees_above_process mount i SelfLink mounted processes = tt
  sees_above_process mount i (Dir pid) mounted processes =
      either_way (is_shown around.space pid) (shows_directory (node_in mount i)) (Fails ENOENT) (sees_directory (node_in mount i) (in_mount mount i mounted (tested_there is_processes t i processes))) tt
  sees_above_process mount i (Cwd pid) mounted processes = tt
  sees_above_process mount i (Root pid) mounted processes = tt
  sees_above_process mount i (Exe pid) mounted processes = tt
  sees_above_process mount i (FdDir pid) mounted processes =
      either_way (is_shown around.space pid) (shows_directory (record { mount = mount; host = Proc i (Dir pid) })) (Fails ENOENT)
      (sees_directory (record { mount = mount; host = Proc i (Dir pid) }) (record { mounted = mounted; object = processes })) tt
  sees_above_process mount i (Fd pid fd) mounted processes = tt

  sees_above_host : (mount : ℕ) (host : Host) → is_there (row around.space.table mount) ≡ true → IsObjectOf t host → Sees (above_host around.space mount host)
  sees_above_host mount (Node i) mounted object = sees_above_node mount i (up around.space.table mount i) refl mounted
  sees_above_host mount (Proc i at) mounted object = sees_above_process mount i at mounted object

  -- ---- a name

  sees_in_processes : (mount i : ℕ) (found : Option ProcAt) → is_there (row around.space.table mount) ≡ true → body_is is_processes t i ≡ true → Sees (seen_in_processes around mount i found)
  sees_in_processes mount i None mounted processes = tt
  sees_in_processes mount i (Some at) mounted processes = sees_at (record { mount = mount; host = Proc i at }) (Proc i at) (record { mounted = mounted; object = processes })

  sees_entry : (mount dir : ℕ) (name : List ℕ) (found : Option ℕ) → entry t dir name ≡ found → is_there (row around.space.table mount) ≡ true → Sees (seen_entry around mount found)
  sees_entry mount dir name None is mounted = tt
  sees_entry mount dir name (Some i) is mounted = sees_at (node_in mount i) (Node i) (in_mount mount i mounted (entry_there dir i name is))

  sees_in_node : (mount i : ℕ) (name : List ℕ) → is_there (row around.space.table mount) ≡ true → Sees (in_node around mount i name)
  sees_in_node mount i name mounted = at (body_is is_processes t i) refl
    where
      at : (b : Bool) → body_is is_processes t i ≡ b → Sees (if b then seen_in_processes around mount i (around.space.finds None name) else seen_entry around mount (entry t i name))
      at true is = sees_in_processes mount i (around.space.finds None name) mounted is
      at false is = sees_entry mount i name (entry t i name) refl mounted

  sees_through : (mount i : ℕ) (name : List ℕ) (source : Option (Place ℕ)) → down around.space.table mount i name ≡ source → is_there (row around.space.table mount) ≡ true → Sees (through_point around mount i name source)
  sees_through mount i name None is mounted = sees_in_node mount i name mounted
  sees_through mount i name (Some q) is mounted = sees_at q q.host (source_there q ((laws_of_places t around.space.table stand.mounts).down_stands mount i name q is))

  sees_named_in : (mount : ℕ) (host : Host) (name : List ℕ) → is_there (row around.space.table mount) ≡ true → IsObjectOf t host → Sees (named_in around mount host name)
  sees_named_in mount (Node i) name mounted object = sees_through mount i name (down around.space.table mount i name) refl mounted
  sees_named_in mount (Proc i at) name mounted object = sees_in_processes mount i (around.space.finds (Some at) name) mounted object

  sees_inside : (p : Place ℕ) (c : Component) → Good p → Sees (inside around p c)
  sees_inside p Dot good = sees_directory p good
  sees_inside p DotDot good = either_way (is_root_place around.space.table p) (shows_directory p) (above_host around.space p.mount p.host) (sees_directory p good) (sees_above_host p.mount p.host good.mounted good.object)
  sees_inside p (Name name) good = either_way (too_long name) (Fails ENAMETOOLONG) (named_in around p.mount p.host name) tt (sees_named_in p.mount p.host name good.mounted good.object)

  sees_look : (p : Place ℕ) (c : Component) → Good p → Sees (look_up around p c)
  sees_look p c good =
      either_way (is_directory_at t p.host) (if may_search t around.space.user p.host then inside around p c else Fails EACCES) (Fails ENOTDIR)
      (either_way (may_search t around.space.user p.host) (inside around p c) (Fails EACCES) (sees_inside p c good) tt) tt

  -- ---- landings

  -- by whether it is a directory
  abbrev lands_by : Place ℕ → ℕ → List ℕ → Bool → Landing (Place ℕ) (Place ℕ)
  lands_by to dir name b = if b then record { place = to; found = to; is_dir = true; dir = to; name = [] } else record { place = to; found = to; is_dir = false; dir = node_in to.mount dir; name = name }

  landing_place : (to : Place ℕ) (dir : ℕ) (name : List ℕ) → ((landing around.space to dir name).place ≡ to) × ((landing around.space to dir name).found ≡ to)
  landing_place to dir name = elim (is_directory_at t to.host) as (λ b. ((lands_by to dir name b).place ≡ to) × ((lands_by to dir name b).found ≡ to)) [ true ↦ (refl, refl) | false ↦ (refl, refl) ]

  landed_at : (l : Landing (Place ℕ) (Place ℕ)) → LandsAt l → Good l.place × Good l.found
  landed_at l at =
      let good = stand.leads.places at.0 at.1 at.2 at.3 at.4 in
      let is = landing_place at.1 at.2 at.3 in
      let P : Place ℕ → Type 0 = λ p. Good p in
      (subst P (sym (ap (λ l. l.place) at.5 ∙ is.0)) good, subst P (sym (ap (λ l. l.found) at.5 ∙ is.1)) good)

  goes_on : (seen : SeenPlace) → Sees seen → GoesOn Good seen
  goes_on (Fails e) sees = tt
  goes_on Missing sees = tt
  goes_on (Leads is_dir q f) sees = sees.0
  goes_on (Links f text) sees = tt
  goes_on (Jumps f None) sees = tt
  goes_on (Jumps f (Some l)) sees = (landed_at l sees.1).0

  shown_good : (seen : SeenPlace) (found : Option (Place ℕ)) (p : Place ℕ) → Sees seen → Shows seen found → found ≡ Some p → Good p
  shown_good (Fails e) found p sees shows is = absurd shows
  shown_good Missing found p sees shows is = let none : None ≡ Some p = sym shows ∙ is in absurd cc
  shown_good (Leads is_dir q f) found p sees shows is = let P : Place ℕ → Type 0 = λ p. Good p in subst P (some_is f p (sym shows ∙ is)) sees.1
  shown_good (Links f text) found p sees shows is = let P : Place ℕ → Type 0 = λ p. Good p in subst P (some_is f p (sym shows ∙ is)) sees
  shown_good (Jumps f None) found p sees shows is = let P : Place ℕ → Type 0 = λ p. Good p in subst P (some_is f p (sym shows ∙ is)) sees
  shown_good (Jumps f (Some l)) found p sees shows is = let P : Place ℕ → Type 0 = λ p. Good p in subst P (some_is f p (sym shows ∙ is)) sees.0

  jump_lands : (s : Place ℕ) (c : Component) (f : Place ℕ) (l : Landing (Place ℕ) (Place ℕ)) → Good s → look_up around s c ≡ Jumps f (Some l) → LandsAt l
  jump_lands s c f l good looked = (subst Sees looked (sees_look s c good)).1

  -- ---- walks

  module _ (mode : WalkMode) (path : List ℕ) where
    abbrev FoundGood : PlaceTarget → Type 0
    FoundGood target = (p : Place ℕ) → target.found ≡ Some p → Good p

    pub found_good : EndsSo (looking around) FoundGood (place_walk around mode base path)
    found_good =
        walk_keeps Good (looking around) FoundGood root_there (λ s c good. goes_on (look_up around s c) (sees_look s c good))
        (λ s slash good p is. let P : Place ℕ → Type 0 = λ p. Good p in subst P (some_is s p is) good)
        (λ s c slash found good shows p is. shown_good (look_up around s c) found p (sees_look s c good) shows is)
        (λ s c slash f l good looked p is. let P : Place ℕ → Type 0 = λ p. Good p in subst P (some_is l.found p is) (landed_at l (jump_lands s c f l good looked)).1)
        mode most_links base path (has_slash path) stand.begins

    abbrev InGood : PlaceTarget → Type 0
    InGood target = target.jumped ≡ false → Good target.dir

    pub directory_good : EndsSo (looking around) InGood (place_walk around mode base path)
    directory_good =
        walk_keeps Good (looking around) InGood root_there (λ s c good. goes_on (look_up around s c) (sees_look s c good))
        (λ s slash good jumped. good)
        (λ s c slash found good shows jumped. good)
        (λ s c slash f l good looked jumped. absurd cc)
        mode most_links base path (has_slash path) stand.begins

    module _ (entries_stand : LeadToEntries t around.leads) where
      -- the directory that is remembered has the entry, and so it is there
      remembered_there : (link : ProcAt) (to : Place ℕ) (dir : ℕ) (name : List ℕ) → around.leads link ≡ Jump to dir name → Good (landing around.space to dir name).dir
      remembered_there link to dir name is = by (is_directory_at t to.host) refl
        where
          good : Good to
          good = stand.leads.places link to dir name is

          file : is_directory_at t to.host ≡ false → is_there (inode t dir) ≡ true
          file none =
              let entered = entries_stand link to dir name is none in
              let e = map_some (λ (e : Entry). e.inode) (entry_named name (entries t dir)) entered.0 entered.2 in
              ap is_there (entries_there t dir e.0 (entry_in name (entries t dir) e.0 e.1).0).1

          by : (b : Bool) → is_directory_at t to.host ≡ b → Good (landing around.space to dir name).dir
          by b e = let P : Bool → Type 0 = λ b. Good (lands_by to dir name b).dir in subst P (sym e) (at b e)
            where
              at : (b : Bool) → is_directory_at t to.host ≡ b → Good (lands_by to dir name b).dir
              at true e = good
              at false e = in_mount to.mount dir good.mounted (file e)

      remembers : (l : Landing (Place ℕ) (Place ℕ)) → LandsAt l → Good l.dir
      remembers l at = let P : Place ℕ → Type 0 = λ p. Good p in subst P (sym (ap (λ l. l.dir) at.5)) (remembered_there at.0 at.1 at.2 at.3 at.4)

      abbrev DirGood : PlaceTarget → Type 0
      DirGood target = Good target.dir

      pub remembered_good : EndsSo (looking around) DirGood (place_walk around mode base path)
      remembered_good =
          walk_keeps Good (looking around) DirGood root_there (λ s c good. goes_on (look_up around s c) (sees_look s c good))
          (λ s slash good. good)
          (λ s c slash found good shows. good)
          (λ s c slash f l good looked. remembers l (jump_lands s c f l good looked))
          mode most_links base path (has_slash path) stand.begins

pub walks_keep_places : WalksKeepPlaces
walks_keep_places around mode base path t stand ends = record {
  found = found_good around base stand mode path t ends;
  directory = directory_good around base stand mode path t ends;
  remembered = λ entries. remembered_good around base stand mode path entries t ends;
}
