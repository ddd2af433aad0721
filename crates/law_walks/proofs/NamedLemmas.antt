-- Where the plain kernel's walk along the host text of a directory, and a last component, ends.
use Rattle.std.proofs.Common.{◌≡◌, ◌≢◌, ℕ, Bool, true, false, List, [], ◌∷◌, Option, Some, None, Ok, refl, sym, ap, subst, ◌∙◌, inl, inr}
use Rattle.std.specs.Bool.{if◌then◌else◌}
use Rattle.std.specs.Option.{option_map, option_and_then}
use Rattle.pt_canon.specs.pr_base.MountText.{MountText}
use Rattle.pt_canon.specs.pr_base.Paths.{Component, Dot, DotDot, IsComponent, IsPart, Name, components_of, dot, dot_dot, has_parts, has_slash, is_absolute, parts_of, slash}
use Rattle.pt_canon.specs.pr_base.Texts.{Text}
use Rattle.pt_canon.specs.pr_base.WalkFrame.{Fails, Jumps, Leads, Links, Missing, Target, at_last, ends, fails, here, may_be_free, most_links, onward, target_at, walk_on, wants_directory}
use Rattle.pt_canon.specs.pr_base.WalkLaws.{Shows}
use Rattle.pt_canon.specs.pr_base.declared.errno.Errno.TheVariants.{EACCES, ENAMETOOLONG, ENOENT, ENOTDIR}
use Rattle.pt_canon.specs.pr_base.declared.path.Last.TheVariants as last
use Rattle.pt_canon.specs.pr_base.declared.path.WalkMode.{WalkMode}
use Rattle.pt_canon.specs.pr_base.declared.path.WalkMode.TheVariants as modes
use Rattle.pt_canon.proofs.pr_base.EndLemmas.{found_is_shown}
use Rattle.pt_canon.proofs.pr_base.WalkLemmas.{walk-last}
use Rattle.pt_canon.specs.pt_bind.Binding.{host_of, is_point, located}
use Rattle.pt_canon.specs.ProcessLinks.{above as text_above}
use Rattle.kr_mounts.specs.kr_tree.declared.place.Host.{Host}
use Rattle.kr_mounts.specs.kr_tree.declared.place.Host.TheVariants.{Node, Proc}
use Rattle.kr_mounts.specs.kr_tree.declared.place.Place.{Place}
use Rattle.kr_mounts.specs.kr_tree.Tree.{Tree, entry}
use Rattle.kr_mounts.proofs.kr_tree.EntryLemmas.{reached-named}
use Rattle.kr_mounts.specs.kr_view.Component.{Namespace, SeenPlace, Surroundings, inside, is_directory_at, may_search, named as looked_up, named_in, seen_at, shows_directory, through_point, too_long}
use Rattle.kr_mounts.specs.kr_view.HostReach.{host_place, is_link_at, object_in}
use Rattle.kr_mounts.specs.kr_view.InTree.{IsObjectOf}
use Rattle.kr_mounts.specs.kr_view.ReachLaws.{EndsAtName, IsJoined, IsLookedUp, name_target, slashed}
use Rattle.kr_mounts.specs.kr_view.View.{Row, node_in, root_place, source_place}
use Rattle.kr_mounts.specs.kr_view.Walk.{PlaceTarget, looking, place_walk}
use Rattle.kr_mounts.proofs.kr_view.ArrivalLemmas.{ShowsLink, entries_are_found, led_to, link_seen, walks_go_on_behind_texts}
use Rattle.kr_mounts.proofs.kr_view.DirectoryLemmas.{slashes_end}
use Rattle.kr_mounts.proofs.kr_view.HostReachLemmas.{named_alone, object_more, object_of_entry, reached_there}
use Rattle.kr_mounts.proofs.kr_view.TableLemmas.{there_is}
use Rattle.kr_mounts.specs.Standing.{texts_of}
use Rattle.law_walks.specs.Handed.{BothEnd, DirectoriesOfNamesAreSearched, LastsAreHandedOver, LeadsToLast, LeadsToName, NamesAreHandedOver, handed_path}
use Rattle.law_walks.specs.Scene.{Scene, host_around, space_of}
use Rattle.law_walks.specs.Settled.{IsSettled}
use Rattle.law_walks.specs.Standing.{StandsOn, place_in}
use Rattle.law_walks.proofs.HandedLemmas.{alike, directory_on, last_name, place_shown, shows_inside}
use Rattle.law_walks.proofs.PeekLemmas.{in_node_is, in_process_is, reached_by, seen_object}
use Rattle.law_walks.proofs.PointLemmas.{located_is_point}
use Rattle.law_walks.proofs.PlainLemmas.{plain_settled, plain_stands}
use Rattle.law_walks.proofs.StandingLemmas.{node_reached, source_reached}
use Rattle.law_walks.proofs.UpLemmas.{GoesUp, goes_up}
use Rattle.law_walks.proofs.TableLemmas.{down_is_located, located_some, mount_below}

-- ---- what is there shows itself

link_shows : (p : Place ℕ) (seen : SeenPlace) (found : Option (Place ℕ)) → ShowsLink p seen → Shows seen found → found ≡ Some p
unfolding ShowsLink
link_shows p (Fails e) found is shows = absurd is
link_shows p Missing found is shows = absurd is
link_shows p (Leads d q f) found is shows = absurd is
link_shows p (Links f text) found is shows = shows ∙ ap Some is
link_shows p (Jumps f lead) found is shows = shows ∙ ap Some is

pub shows_object : (around : Surroundings) (p : Place ℕ) (x : Host) (found : Option (Place ℕ)) → IsObjectOf around.space.tree x → Shows (seen_at around p x) found → found ≡ Some p
shows_object around p x found there shows = by (is_link_at around.space.tree x) refl
  where
    by : (b : Bool) → is_link_at around.space.tree x ≡ b → found ≡ Some p
    by true link = link_shows p (seen_at around p x) found (link_seen around p x link) shows
    by false firm = subst (λ s. Shows s found) (led_to around p x there firm) shows

module _ (scene : Scene) (mode : WalkMode) (base : Place ℕ) (t : Text) (path : List ℕ) (a : PlaceTarget) (b : Target Text Text) (e : BothEnd scene mode base t path a b) (jumped : a.jumped ≡ false) where
  abbrev space : Namespace
  space = space_of scene

  abbrev tree : Tree
  tree = space.tree

  abbrev bindings : List MountText
  bindings = texts_of space.table

  abbrev around : Surroundings
  around = scene.around

  abbrev host : Surroundings
  host = host_around scene

  abbrev set : IsSettled space
  set = e.matched.settled

  abbrev x : Host
  x = a.dir.host

  abbrev k : ℕ
  k = a.dir.mount

  abbrev h : Text
  h = host_of bindings b.dir

  on : StandsOn space a.dir b.dir
  on = directory_on scene mode base t path a b e jumped

  module _ (is : a.last ≡ last.Name) where
    abbrev object : Option Host
    object = object_in tree space.finds a.name x

    shown : (is_directory_at tree x ≡ true) × (may_search tree space.user x ≡ true) × Shows (looked_up around a.dir a.name) a.found
    shown = shows_inside around a.dir (Name a.name) a.found (place_shown scene mode base t path a b e jumped is)

    abbrev inner : SeenPlace
    inner = named_in around k x a.name

    short_shown : (c : Bool) (s : SeenPlace) → Shows (if c then Fails ENAMETOOLONG else s) a.found → (c ≡ false) × Shows s a.found
    short_shown true s shows = absurd shows
    short_shown false s shows = (refl, shows)

    short : too_long a.name ≡ false
    short = (short_shown (too_long a.name) inner shown.2).0

    inner_shown : Shows inner a.found
    inner_shown = (short_shown (too_long a.name) inner shown.2).1

    -- at a name at which no mount is located is the object of the directory
    object_shown : located bindings (a.name ∷ b.dir) ≡ None → Shows (seen_object around k object) a.found
    object_shown none = by x refl inner_shown
      where
        by : (y : Host) → x ≡ y → Shows (named_in around k y a.name) a.found → Shows (seen_object around k (object_in tree space.finds a.name y)) a.found
        by (Node i) at shows =
            let way = node_reached space set h i (on.stands.way ∙ ap Some at) in
            let free = down_is_located space set k i b.dir on.stands.mount (reached-named tree space.user h i way) (ap (is_directory_at tree) (sym at) ∙ shown.0) a.name ∙ ap (option_and_then (source_place space.table)) none in
            subst (λ s. Shows s a.found) (ap (through_point around k i a.name) free ∙ in_node_is around k i a.name) shows
        by (Proc i at) is shows = subst (λ s. Shows s a.found) (in_process_is around k i at a.name) shows

    object_there : (y : Host) → object ≡ Some y → IsObjectOf tree y
    object_there y there = reached_there tree space.user space.finds (a.name ∷ h) y set.sound set.inodes (object_more tree space.user space.finds h a.name x y on.stands.way shown.0 shown.1 there)

    found_is : located bindings (a.name ∷ b.dir) ≡ None → a.found ≡ option_map (place_in k) object
    found_is none = by object refl (object_shown none)
      where
        by : (o : Option Host) → object ≡ o → Shows (seen_object around k o) a.found → a.found ≡ option_map (place_in k) o
        by None there shows = shows
        by (Some y) there shows = shows_object around (place_in k y) y a.found (object_there y there) shows

    -- where a mount is located, its source is found
    pub mount_found : (j : ℕ) → located bindings (a.name ∷ b.dir) ≡ Some j → (q : Place ℕ) × (a.found ≡ Some q)
    mount_found j l = by x refl inner_shown
      where
        by : (y : Host) → x ≡ y → Shows (named_in around k y a.name) a.found → (q : Place ℕ) × (a.found ≡ Some q)
        by (Node i) at shows =
            let r = located_some space.table (a.name ∷ b.dir) j l in
            let way = node_reached space set h i (on.stands.way ∙ ap Some at) in
            let q = node_in j r.mount.source in
            let goes = down_is_located space set k i b.dir on.stands.mount (reached-named tree space.user h i way) (ap (is_directory_at tree) (sym at) ∙ shown.0) a.name
            ∙ ap (option_and_then (source_place space.table)) l ∙ ap (option_map (λ (r : Row). node_in j r.source)) r.there in
            let there = reached_there tree space.user space.finds r.mount.text.source (Node r.mount.source) set.sound set.inodes (source_reached space set j r.mount r.there) in
            (q, shows_object around q (Node r.mount.source) a.found there (subst (λ s. Shows s a.found) (ap (through_point around k i a.name) goes) shows))
        by (Proc i at) is shows =
            let m = mount_below space set a.name b.dir j l in
            let clash : Proc i at ≡ Node m.point.dir = named_alone tree space.user space.finds h m.point.dir (Proc i at) m.dir (on.stands.way ∙ ap Some is) in absurd cc

    part : IsPart a.name
    part =
        let c = (alike scene mode base t path a b e).component jumped (λ r. let clash : last.Name ≡ last.Root = sym is ∙ r in absurd cc) in
        subst IsComponent (last_name c.0 a.name (c.1 ∙ is) c.2) c.3

    ends_there : EndsAtName host x a.name a.slash (handed_path space b.dir a.name a.slash)
    ends_there = entries_are_found host h x a.name a.slash (handed_path space b.dir a.name a.slash) (reached_by scene e.matched h x on.stands.way) shown.0 part (inr refl)

    looked : IsLookedUp host x a.name
    looked = record { search = shown.1; short = short }

    -- ---- the plain kernel

    -- below a mount point there is an entry
    at_point : (other : Place ℕ) (j : ℕ) → located bindings (a.name ∷ b.dir) ≡ Some j
        → (is_point bindings (a.name ∷ h) ≡ true) × (y : Host) × ((place_walk host modes.Name other (handed_path space b.dir a.name a.slash)).answer ≡ Ok (name_target x a.name a.slash (Some y)))
    at_point other j l =
        let m = mount_below space set a.name b.dir j l in
        let there = there_is (entry tree m.point.dir m.point.name) (set.mounts.points j m.mount m.point m.there m.stands).there in
        let dir : x ≡ Node m.point.dir = named_alone tree space.user space.finds h m.point.dir x m.dir on.stands.way in
        let entry_is : entry tree m.point.dir a.name ≡ Some there.0 = ap (entry tree m.point.dir) (sym m.called) ∙ there.1 in
        let object_is : object ≡ Some (Node there.0) = ap (object_in tree space.finds a.name) dir ∙ object_of_entry tree space.finds m.point.dir a.name there.0 entry_is in
        (located_is_point space set a.name b.dir j l, Node there.0, ends_there.entry other looked object_there ∙ ap (λ o. Ok (name_target x a.name a.slash o)) object_is)

    missing : (o : Option Host) → ◌≡◌ {A = Option (Place ℕ)} (option_map (place_in k) o) None → o ≡ None
    missing None none = refl
    missing (Some y) none = absurd cc

    at_free : (other : Place ℕ) → may_be_free mode ≡ true → a.found ≡ None → (place_walk host mode other (handed_path space b.dir a.name a.slash)).answer ≡ Ok (name_target x a.name a.slash None)
    at_free other free none =
        ends_there.free mode other looked (by (located bindings (a.name ∷ b.dir)) refl)
        ∙ ap (λ b. (if b then ends (target_at (host_place x) (Name a.name) a.slash None) else fails ENOENT).answer) free
      where
        by : (o : Option ℕ) → located bindings (a.name ∷ b.dir) ≡ o → object ≡ None
        by None l = missing object (sym (found_is l) ∙ none)
        by (Some j) l = let q = mount_found j l in let clash : None ≡ Some q.0 = sym none ∙ q.1 in absurd cc

    pub leads_to_name : (other : Place ℕ) → may_be_free mode ≡ true → LeadsToName scene mode other a b
    leads_to_name other free = record {
      entry = λ none. (object, found_is none, ends_there.entry other looked object_there);
      point = at_point other;
      free = at_free other free;
    }

  -- ---- `.` and `..`

  -- a directory that may be searched ends a walk in every mode
  dots_end : (target : PlaceTarget) → (w : Bool) → (if w then (if true then ends target else fails ENOTDIR) else ends target).answer ≡ Ok target
  dots_end target true = refl
  dots_end target false = refl

  module _ (other : Place ℕ) (is_dir : is_directory_at tree x ≡ true) (search : may_search tree space.user x ≡ true) where
    -- the walk along the host text and a component goes on from the directory
    dot_walk : (more : List ℕ) (c : Component) (sl : Bool) (to : Place ℕ) → is_absolute more ≡ false → has_parts (parts_of more) ≡ true → components_of more ≡ c ∷ [] → has_slash more ≡ sl → inside host (host_place x) c ≡ shows_directory to
        → (path : List ℕ) → IsJoined h more path → (place_walk host mode other path).answer ≡ Ok (target_at (host_place x) c sl (Some to))
    dot_walk more c sl to relative some one slash_is goes path joined =
        let target = target_at (host_place x) c sl (Some to) in
        walks_go_on_behind_texts host mode other h x more path (reached_by scene e.matched h x on.stands.way) on.firm relative some joined
        ∙ ap (λ b. (walk_on (looking host) mode most_links (if b then root_place host.space.table else host_place x) (components_of more) (has_slash more)).answer) relative
        ∙ ap (λ cs. (walk_on (looking host) mode most_links (host_place x) cs (has_slash more)).answer) one
        ∙ ap (λ b. (walk_on (looking host) mode most_links (host_place x) (c ∷ []) b).answer) slash_is
        ∙ ap (λ t. t.answer) (walk-last (looking host) mode most_links (host_place x) c sl)
        ∙ ap (λ seen. (at_last (looking host) mode most_links (onward (looking host) mode most_links) (host_place x) c sl seen).answer)
        (ap (λ b. if b then (if may_search tree space.user x then inside host (host_place x) c else Fails EACCES) else Fails ENOTDIR) is_dir ∙ ap (λ b. if b then inside host (host_place x) c else Fails EACCES) search ∙ goes)
        ∙ dots_end target (wants_directory mode sl)

    by_dot : (sl : Bool) → (target : PlaceTarget) × ((place_walk host mode other (handed_path space b.dir dot sl)).answer ≡ Ok target) × (target.last ≡ last.Dot)
    by_dot true = (target_at (host_place x) Dot true (Some (host_place x)), dot_walk (slashed true dot) Dot true (host_place x) refl refl refl refl refl (handed_path space b.dir dot true) (inl refl), refl)
    by_dot false = (target_at (host_place x) Dot false (Some (host_place x)), dot_walk (slashed false dot) Dot false (host_place x) refl refl refl refl refl (handed_path space b.dir dot false) (inl refl), refl)

    -- above a directory the plain kernel comes to one
    up_there : GoesUp host.space (host_place x) (text_above h)
    up_there = goes_up host.space (plain_settled host.space set.sound set.inodes refl) scene.host_leads e.matched.host_processes 0 x h (plain_stands host.space refl h x on.stands.way) is_dir

    by_dot_dot : (sl : Bool) → (target : PlaceTarget) × ((place_walk host mode other (handed_path space b.dir dot_dot sl)).answer ≡ Ok target) × (target.last ≡ last.DotDot)
    by_dot_dot true = (target_at (host_place x) DotDot true (Some up_there.to), dot_walk (slashed true dot_dot) DotDot true up_there.to refl refl refl refl up_there.goes (handed_path space b.dir dot_dot true) (inl refl), refl)
    by_dot_dot false = (target_at (host_place x) DotDot false (Some up_there.to), dot_walk (slashed false dot_dot) DotDot false up_there.to refl refl refl refl up_there.goes (handed_path space b.dir dot_dot false) (inl refl), refl)

  pub leads_to_last : (other : Place ℕ) → LeadsToLast scene mode other a b
  leads_to_last other = record {
    dot = λ is. let s = searched (λ r. let clash : last.Dot ≡ last.Root = sym is ∙ r in absurd cc) in by_dot other s.0 s.1 a.slash;
    dot_dot = λ is. let s = searched (λ r. let clash : last.DotDot ≡ last.Root = sym is ∙ r in absurd cc) in by_dot_dot other s.0 s.1 a.slash;
    root = (here (looking host) (root_place host.space.table) false, ap (λ t. t.answer) (slashes_end host mode other (slash ∷ []) (λ none. absurd cc) refl), refl);
  }
    where
      searched : a.last ≢ last.Root → (is_directory_at tree x ≡ true) × (may_search tree space.user x ≡ true)
      searched some =
          let s = found_is_shown _ _ (looking around) mode base path a e.place jumped some in
          let i = shows_inside around a.dir s.0 a.found s.3 in
          (i.0, i.1)

pub names_are_handed_over : NamesAreHandedOver
names_are_handed_over scene mode base t path a b other e free jumped is = leads_to_name scene mode base t path a b e jumped is other free

pub lasts_are_handed_over : LastsAreHandedOver
lasts_are_handed_over scene mode base t path a b other e jumped = leads_to_last scene mode base t path a b e jumped other

pub directories_of_names_are_searched : DirectoriesOfNamesAreSearched
directories_of_names_are_searched scene mode base t path a b e jumped is = record { on = on scene mode base t path a b e jumped; search = (shown scene mode base t path a b e jumped is).1 }
