-- What a walk finds is called by its host text, which is no longer than what the walk reaches.
use Rattle.std.proofs.Common.{◌≡◌, ◌≢◌, ◌≤◌, ℕ, Bool, true, false, List, [], ◌∷◌, Option, Some, None, Ok, refl, sym, ap, subst, ◌∙◌}
use Rattle.std.specs.Bool.{if◌then◌else◌}
use Rattle.std.specs.Option.{option_and_then, option_map, option_map_or}
use Rattle.std.specs.List.{position}
use Rattle.std.proofs.lemmas.Option.{none-some}
use Rattle.pr_start.specs.pr_base.Alike.{TargetAlike}
use Rattle.pr_start.specs.pr_base.MountText.{MountText}
use Rattle.pr_start.specs.pr_base.Paths.{Component, Dot, DotDot, Name, components_of, has_slash, kind_of}
use Rattle.pr_start.specs.pr_base.Texts.{Text, below}
use Rattle.pr_start.specs.pr_base.WalkFrame.{Target, begins_at, most_links, name_of}
use Rattle.pr_start.specs.pr_base.WalkLaws.{Shows}
use Rattle.pr_start.specs.pr_base.declared.path.Last.{Last}
use Rattle.pr_start.specs.pr_base.declared.path.Last.TheVariants as last
use Rattle.pr_start.specs.pr_base.declared.path.WalkMode.TheVariants.{Look}
use Rattle.pr_start.specs.pt_bind.Binding.{host_of, located, owner}
use Rattle.pr_start.specs.pt_bind.Tags.{TagTable}
use Rattle.pr_start.specs.pt_canon.TextWalk.{text_walk}
use Rattle.pr_start.specs.kr_inode.declared.user.User.{User}
use Rattle.pr_start.specs.kr_tree.Names.{host_name, named}
use Rattle.pr_start.specs.kr_tree.Tree.{Body, Tree, body, body_is, entry, is_directory}
use Rattle.pr_start.specs.kr_tree.declared.place.Host.{Host}
use Rattle.pr_start.specs.kr_tree.declared.place.Host.TheVariants.{Node, Proc}
use Rattle.pr_start.specs.kr_tree.declared.place.Place.{Place}
use Rattle.pr_start.proofs.kr_tree.EntryLemmas.{body_test, reached-named}
use Rattle.pr_start.proofs.kr_tree.NameLemmas.{some_is}
use Rattle.pr_start.specs.kr_view.declared.target.Reach.{Reach}
use Rattle.pr_start.specs.kr_view.Component.{Namespace, Surroundings, is_directory_at, is_processes, look_up}
use Rattle.pr_start.specs.kr_view.HostReach.{object_in}
use Rattle.pr_start.specs.kr_view.Names.{component_name, directory_name, led_to_name, named_name, point_name, row_at, source_entry_name, source_name}
use Rattle.pr_start.specs.kr_view.Processes.{no_finds, no_leads}
use Rattle.pr_start.specs.kr_view.Reach.{beginning_name, reach_after, text_length}
use Rattle.pr_start.specs.kr_view.View.{Row, down, is_point, node_in, row, source_place, stands_at}
use Rattle.pr_start.specs.kr_view.Walk.{PlaceTarget, looking, place_walk}
use Rattle.pr_start.proofs.kr_view.DirectoryLemmas.{empty_ends, found_itself, in_directory}
use Rattle.pr_start.proofs.kr_view.HostReachLemmas.{inode_reached, last_object, reached_inode}
use Rattle.pr_start.proofs.kr_view.ProcessLemmas.{no_processes}
use Rattle.pr_start.proofs.kr_view.TableLemmas.{first_passes}
use Rattle.pr_start.specs.kr_mounts.Standing.{texts_of}
use Rattle.law_programs.specs.kr_first.Starting.{around}
use Rattle.pr_start.specs.pt_first.Laws.{first_texts}
use Rattle.law_turns.specs.law_walks.Settled.{IsSettled, host_text}
use Rattle.law_turns.specs.law_walks.Standing.{Stands, StandsOn, likeness, reached_in}
use Rattle.law_turns.proofs.law_walks.HandedLemmas.{shows_inside, text_target_named}
use Rattle.law_turns.proofs.law_walks.StandingLemmas.{host_called, source_reached, standing_places_are_called}
use Rattle.law_turns.proofs.law_walks.TableLemmas.{down_is_located, host_none, host_some, located_some, source_text}
use Rattle.law_turns.proofs.law_walks.UpLemmas.{goes_up}
use Rattle.law_starts.specs.Spaces.{first_space}
use Rattle.law_starts.proofs.LaterLemmas.{nothing-reached}
use Rattle.law_starts.proofs.JumpLemmas.{never-jumped}
use Rattle.law_starts.proofs.ReachLemmas.{IsWithin, beginning-within, look-within, trail-within}
use Rattle.law_starts.proofs.TrailLemmas.{walk-looks}

module _ (table : List Row) (tree : Tree) (user : User) (set : IsSettled (first_space table tree user)) where
  abbrev space : Namespace
  space = first_space table tree user

  abbrev bindings : List MountText
  bindings = texts_of table

  abbrev reach : Text → Option Host
  reach h = reached_in space h

  -- ---- names

  called : (p : Place ℕ) (u : Text) → Stands space p u → is_directory_at tree p.host ≡ true → directory_name space p.host ≡ Some (host_text space u)
  called p u stands dir = (standing_places_are_called space no_leads p u set no_processes.lawful stands).0.on_host dir

  -- a mount's source is called by its host text
  source-called : (k : ℕ) (r : Row) → row table k ≡ Some r → source_name space r ≡ Some r.text.source
  source-called k r there = by r.is_dir refl
    where
      kind-of : (o : Option Body) → option_map is_directory o ≡ Some true → option_map_or is_directory o false ≡ true
      kind-of None e = absurd cc
      kind-of (Some b) e = some_is (is_directory b) true e

      by : (d : Bool) → r.is_dir ≡ d → source_name space r ≡ Some r.text.source
      by true e =
          let kind : body_is is_directory tree r.source ≡ true = body_test is_directory tree r.source ∙ kind-of (body tree r.source) (set.mounts.sources k r there ∙ ap Some e) in
          ap (λ b. source_entry_name space r.source (if b then None else Some (r.source_dir, r.source_name))) e
          ∙ host_called space set r.text.source r.source (source_reached space set k r there) kind
      by false e =
          let s = set.entries k r there e in
          let dir = inode_reached tree user no_finds s.up r.source_dir s.way in
          let l = last_object tree user no_finds s.up r.source_name (Node r.source) (ap reach (sym s.text) ∙ source_reached space set k r there) in
          let same : l.dir ≡ Node r.source_dir = some_is l.dir (Node r.source_dir) (sym l.way ∙ dir) in
          let kind : body_is is_directory tree r.source_dir ≡ true = ap (is_directory_at tree) (sym same) ∙ l.is_dir in
          ap (λ b. source_entry_name space r.source (if b then None else Some (r.source_dir, r.source_name))) e
          ∙ ap (below r.source_name) (host_called space set s.up r.source_dir dir kind)
          ∙ ap Some (sym s.text)

  -- which mount stands at a name of a directory
  module _ (m d : ℕ) (t : Text) (mount : m ≡ owner bindings t) (names : named tree (host_of bindings t) ≡ Some d) (is_dir : body_is is_directory tree d ≡ true) (name : List ℕ) where
    row-at-is : row_at table m d name ≡ option_and_then (row table) (located bindings (name ∷ t))
    row-at-is = by (position (stands_at (is_point m d name)) table) refl (located bindings (name ∷ t)) refl
      where
        entered : down table m d name ≡ option_and_then (source_place table) (located bindings (name ∷ t))
        entered = down_is_located space set m d t mount names is_dir name

        by : (x : Option ℕ) → position (stands_at (is_point m d name)) table ≡ x → (y : Option ℕ) → located bindings (name ∷ t) ≡ y
            → option_and_then (row table) (position (stands_at (is_point m d name)) table) ≡ option_and_then (row table) (located bindings (name ∷ t))
        by None e None f = ap (option_and_then (row table)) (e ∙ sym f)
        by None e (Some k) f =
            let l = located_some table (name ∷ t) k f in
            let clash : None ≡ Some (node_in k l.mount.source) =
            sym (ap (option_and_then (source_place table)) e) ∙ entered ∙ ap (option_and_then (source_place table)) f ∙ ap (option_map (λ (r : Row). node_in k r.source)) l.there in
            absurd (none-some (node_in k l.mount.source) clash)
        by (Some k) e None f =
            let l = first_passes (stands_at (is_point m d name)) table k e in
            let clash : None ≡ Some (node_in k l.0.source) =
            sym (ap (option_and_then (source_place table)) f) ∙ sym entered ∙ ap (option_and_then (source_place table)) e ∙ ap (option_map (λ (r : Row). node_in k r.source)) l.1 in
            absurd (none-some (node_in k l.0.source) clash)
        by (Some k) e (Some j) f =
            let l = first_passes (stands_at (is_point m d name)) table k e in
            let q = located_some table (name ∷ t) j f in
            let both : Some (node_in k l.0.source) ≡ Some (node_in j q.mount.source) =
            sym (ap (option_and_then (source_place table)) e ∙ ap (option_map (λ (r : Row). node_in k r.source)) l.1) ∙ entered
            ∙ ap (option_and_then (source_place table)) f ∙ ap (option_map (λ (r : Row). node_in j r.source)) q.there in
            let same : k ≡ j = ap (λ (p : Place ℕ). p.mount) (some_is (node_in k l.0.source) (node_in j q.mount.source) both) in
            ap (option_and_then (row table)) (e ∙ ap Some same ∙ sym f)

  -- what stands below the text of a directory is called as its name is
  module _ (m : ℕ) (t : Text) (name : List ℕ) (p : Place ℕ) (stands : Stands space p (name ∷ t)) where
    in-node : (i : ℕ) → Stands space (node_in m i) t → body_is is_directory tree i ≡ true → named_name space m (Node i) name ≡ Some (host_text space (name ∷ t))
    in-node i on is_dir =
        ap (point_name space i name) (row-at-is m i t on.mount (reached-named tree user (host_of bindings t) i (reached_inode tree user no_finds (host_of bindings t) i on.way)) is_dir name)
        ∙ by (located bindings (name ∷ t)) refl
      where
        -- the process directory has no names
        other : (b : Bool) → body_is is_processes tree i ≡ b → object_in tree no_finds name (Node i) ≡ Some p.host → b ≡ false
        other true e there =
            let none : None ≡ Some p.host = sym (ap (λ b. if b then option_map (λ at. Proc i at) (no_finds None name) else option_map (λ j. Node j) (entry tree i name)) e) ∙ there in
            absurd (none-some p.host none)
        other false e there = refl

        by : (o : Option ℕ) → located bindings (name ∷ t) ≡ o → point_name space i name (option_and_then (row table) (located bindings (name ∷ t))) ≡ Some (host_text space (name ∷ t))
        by (Some k) e =
            let l = located_some table (name ∷ t) k e in
            ap (λ o. point_name space i name (option_and_then (row table) o)) e
            ∙ ap (point_name space i name) l.there
            ∙ source-called k l.mount l.there
            ∙ ap Some (sym (host_some bindings name t k e ∙ source_text table k l.mount l.there))
        by None e =
            let l = last_object tree user no_finds (host_of bindings t) name p.host (ap reach (sym (host_none bindings name t e)) ∙ stands.way) in
            let same : l.dir ≡ Node i = some_is l.dir (Node i) (sym l.way ∙ on.way) in
            let there : object_in tree no_finds name (Node i) ≡ Some p.host = ap (object_in tree no_finds name) (sym same) ∙ l.there in
            ap (λ o. point_name space i name (option_and_then (row table) o)) e
            ∙ ap (λ b. if b then None else below name (host_name tree i)) (other (body_is is_processes tree i) refl there)
            ∙ ap (below name) (host_called space set (host_of bindings t) i on.way is_dir)
            ∙ ap Some (sym (host_none bindings name t e))

  name-called : (dir : Place ℕ) (t : Text) (name : List ℕ) (p : Place ℕ) → Stands space dir t → is_directory_at tree dir.host ≡ true → Stands space p (name ∷ t) → named_name space dir.mount dir.host name ≡ Some (host_text space (name ∷ t))
  name-called dir t name p on is_dir stands = by dir.host refl
    where
      by : (x : Host) → dir.host ≡ x → named_name space dir.mount dir.host name ≡ Some (host_text space (name ∷ t))
      by (Node i) e =
          let there : Stands space (node_in dir.mount i) t = subst (λ x. Stands space (record { mount = dir.mount; host = x }) t) e on in
          ap (λ x. named_name space dir.mount x name) e ∙ in-node dir.mount t name p stands i there (ap (is_directory_at tree) (sym e) ∙ is_dir)
      by (Proc i at) e = absurd (nothing-reached table tree user no_finds (host_of bindings t) i at (on.way ∙ ap Some e))

  -- ---- what was found

  module _ (tags : TagTable) (base : Place ℕ) (w : Text) (path : List ℕ) (dir : is_directory_at tree base.host ≡ true) (a : PlaceTarget) (b : Target Text Text) (ends : (place_walk (around table tree user) Look base path).answer ≡ Ok a)
      (also : (text_walk (first_texts table tree user tags) Look w path).answer ≡ Ok b) (alike : TargetAlike (likeness space Look) a b) (p : Place ℕ) (u : Text) (found : a.found ≡ Some p) (told : b.found ≡ Some u) (stands : Stands space p u) where
    abbrev here : Surroundings
    here = around table tree user

    jumped : a.jumped ≡ false
    jumped = never-jumped table tree user Look base path a ends

    directory-on : StandsOn space a.dir b.dir
    directory-on = alike.dir jumped

    -- a walk along nothing ends where it begins
    is-directory : is_directory_at tree a.dir.host ≡ true
    is-directory = by path refl
      where
        by : (bytes : List ℕ) → path ≡ bytes → is_directory_at tree a.dir.host ≡ true
        by [] e =
            let own : Ok (record { dir = base; name = []; last = last.Root; slash = false; found = Some base; jumped = false }) ≡ Ok a =
            sym (ap (λ trail. trail.answer) (ap (place_walk here Look base) e ∙ empty_ends here Look base)) ∙ ends in
            let same : record { dir = base; name = []; last = last.Root; slash = false; found = Some base; jumped = false } ≡ a = cc in
            subst (λ (t : PlaceTarget). is_directory_at tree t.dir.host ≡ true) same dir
        by (c ∷ bytes) e = in_directory here Look base path set.mounts (some c bytes e) a ends jumped
          where
            some : (c : ℕ) (bytes : List ℕ) → path ≡ c ∷ bytes → path ≢ []
            some c bytes e none = let clash : [] ≡ c ∷ bytes = sym none ∙ e in cc

    directory-called : p ≡ a.dir → directory_name space a.dir.host ≡ Some (host_text space u)
    directory-called same = called a.dir u (subst (λ q. Stands space q u) same stands) is-directory

    -- what the last component is called
    component-called : (c : Component) → kind_of c ≡ a.last → name_of c ≡ a.name → Shows (look_up here a.dir c) (Some p) → component_name space a.dir c ≡ Some (host_text space u)
    component-called Dot kind name shows = directory-called (some_is p a.dir (shows_inside here a.dir Dot (Some p) shows).2)
    component-called DotDot kind name shows =
        let g = goes_up space set no_leads no_processes.lawful a.dir.mount a.dir.host b.dir directory-on.stands is-directory in
        let shown = subst (λ s. Shows s (Some p)) g.goes (shows_inside here a.dir DotDot (Some p) shows).2 in
        let same : p ≡ g.to = some_is p g.to shown in
        ap (led_to_name space) g.goes ∙ called g.to u (subst (λ q. Stands space q u) same stands) g.is_dir
    component-called (Name n) kind name shows =
        let text : u ≡ b.name ∷ b.dir = text_target_named (first_texts table tree user tags) Look w path b u also (sym alike.jumped ∙ jumped) (sym alike.last ∙ sym kind) told in
        let names : n ≡ b.name = name ∙ alike.name in
        let whole : u ≡ n ∷ b.dir = text ∙ ap (λ n. n ∷ b.dir) (sym names) in
        name-called a.dir b.dir n p directory-on.stands is-directory (subst (Stands space p) whole stands) ∙ ap (λ t. Some (host_text space t)) (sym whole)

    module _ (most : ℕ) (r : Reach) (within : (reach_after here Look (place_walk here Look base path) r).longest ≤ most) where
      by-look : a.last ≢ last.Root → text_length (host_text space u) ≤ most
      by-look other =
          let looked = walk-looks (looking here) Look (IsWithin here Look most) most_links (begins_at (looking here) base path) (components_of path) (has_slash path) (trail-within here Look most (place_walk here Look base path) r within) a ends jumped other in
          let shows = subst (λ o. Shows (look_up here a.dir looked.component) o) found looked.shows in
          look-within here Look most a.dir p looked.component (host_text space u) looked.looked shows (component-called looked.component looked.kind looked.name shows)

      pub found-short : text_length (host_text space u) ≤ most
      found-short = by a.last refl
        where
          by : (l : Last) → a.last ≡ l → text_length (host_text space u) ≤ most
          by last.Root e =
              let itself : Some p ≡ Some a.dir = sym found ∙ found_itself here Look base path a ends e in
              beginning-within here Look most (place_walk here Look base path) r within a (host_text space u) ends
              (ap (beginning_name space a.dir.host) e ∙ directory-called (some_is p a.dir itself))
          by last.Name e = by-look (λ root. let clash : last.Name ≡ last.Root = sym e ∙ root in absurd cc)
          by last.Dot e = by-look (λ root. let clash : last.Dot ≡ last.Root = sym e ∙ root in absurd cc)
          by last.DotDot e = by-look (λ root. let clash : last.DotDot ≡ last.Root = sym e ∙ root in absurd cc)
