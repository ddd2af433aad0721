-- The host texts to which a walk leads are at most as long as what it reached.
use Rattle.std.proofs.Common.{◌≡◌, ◌≢◌, ◌≤◌, ℕ, Bool, true, false, List, [], ◌∷◌, Option, Some, None, refl, sym, ap, subst, ◌∙◌}
use Rattle.std.specs.Bool.{if◌then◌else◌}
use Rattle.pt_tracer.specs.pr_base.Paths.{Component, Dot, DotDot, Name, kind_of}
use Rattle.pt_tracer.specs.pr_base.Texts.{Text}
use Rattle.pt_tracer.specs.pr_base.WalkFrame.{Fails, Missing, Leads, Links, Jumps, Landing, Target, landed, name_of}
use Rattle.pt_tracer.specs.pr_base.WalkLaws.{Shows}
use Rattle.pt_tracer.specs.pr_base.declared.path.Last.{Last}
use Rattle.pt_tracer.specs.pr_base.declared.path.Last.TheVariants as last
use Rattle.pt_tracer.specs.pr_base.declared.path.WalkMode.{WalkMode}
use Rattle.pt_tracer.specs.pr_base.declared.path.WalkMode.TheVariants as modes
use Rattle.pt_tracer.proofs.pr_base.AlikeLemmas.{alike_some}
use Rattle.law_walks.specs.kr_tree.Names.{host_name}
use Rattle.law_walks.specs.kr_tree.Tree.{Tree, body_is, is_directory}
use Rattle.law_walks.specs.kr_tree.declared.place.Host.TheVariants.{Node}
use Rattle.law_walks.specs.kr_tree.declared.place.Place.{Place}
use Rattle.law_walks.proofs.kr_tree.NameLemmas.{some_is}
use Rattle.law_walks.specs.kr_view.declared.target.Reach.{Reach}
use Rattle.law_walks.specs.kr_view.Component.{Namespace, SeenPlace, is_directory_at, landing, look_up}
use Rattle.law_walks.specs.kr_view.Names.{below, component_name, directory_name, entry_name, landing_name, led_to_name}
use Rattle.law_walks.specs.kr_view.Reach.{beginning_name, free_target_name, named_entry, names_entry, reach_after, seen_name, text_length}
use Rattle.law_walks.specs.kr_view.View.{node_in}
use Rattle.law_walks.specs.kr_view.Walk.{PlaceTarget, looking, place_walk}
use Rattle.law_walks.proofs.kr_view.DirectoryLemmas.{found_itself, in_directory}
use Rattle.law_walks.proofs.kr_view.HostReachLemmas.{last_object}
use Rattle.law_walks.proofs.kr_view.LandingLemmas.{landing_of_file}
use Rattle.pt_tracer.proofs.pr_base.EndLemmas.{found_is_shown}
use Rattle.law_walks.specs.Handed.{BothEnd}
use Rattle.law_walks.specs.Scene.{Scene, space_of, texts_in}
use Rattle.law_walks.specs.Settled.{IsSettled, host_text}
use Rattle.law_walks.specs.Standing.{FoundStands, Stands, reached_in}
use Rattle.law_walks.proofs.HandedLemmas.{alike, directory_on, found_stands, last_dot, last_dot_dot, last_name, shows_inside, text_target_named}
use Rattle.law_walks.proofs.StandingLemmas.{host_called, standing_places_are_called}
use Rattle.law_walks.proofs.UpLemmas.{goes_up}
use Rattle.law_edits.specs.Short.{ReachedTextsAreShort}
use Rattle.law_edits.proofs.CountLemmas.{IsCounted, IsWithin, beginning_counted, free_counted, target_counted}
use Rattle.law_edits.proofs.LandingLemmas.{jump_landing}
use Rattle.law_edits.proofs.NamedLemmas.{named_so}

-- what a component shows counts by its name
shown_name : (name : Option Text) (seen : SeenPlace) (p : Place ℕ) → Shows seen (Some p) → seen_name name seen ≡ name
shown_name name (Fails e) p shows = absurd shows
shown_name name Missing p shows = absurd cc
shown_name name (Leads is_dir q f) p shows = refl
shown_name name (Links f text) p shows = refl
shown_name name (Jumps f lead) p shows = refl

-- where a link leads to a directory
directory_landed : (space : Namespace) (to : Place ℕ) (dir : ℕ) (name : List ℕ) → is_directory_at space.tree to.host ≡ true → landing_name space (landing space to dir name) ≡ directory_name space to.host
directory_landed space to dir name is = rw is refl

landed_place : (space : Namespace) (to : Place ℕ) (dir : ℕ) (name : List ℕ) → (landing space to dir name).found ≡ to
landed_place space to dir name = by (is_directory_at space.tree to.host)
  where
    by : (b : Bool)
        → (let l : Landing (Place ℕ) (Place ℕ) = if b then record { place = to; found = to; is_dir = true; dir = to; name = [] } else record { place = to; found = to; is_dir = false; dir = node_in to.mount dir; name = name } in l.found) ≡ to
    by true = refl
    by false = refl

landed_entry : (space : Namespace) (to : Place ℕ) (dir : ℕ) (name : List ℕ) → is_directory_at space.tree to.host ≡ false → ((landing space to dir name).dir ≡ node_in to.mount dir) × ((landing space to dir name).name ≡ name)
landed_entry space to dir name is = (rw is refl, rw is refl)

module _ (scene : Scene) (mode : WalkMode) (base : Place ℕ) (t : Text) (path : List ℕ) (a : PlaceTarget) (b : Target Text Text) (r : Reach) (e : BothEnd scene mode base t path a b) where
  abbrev space : Namespace
  space = space_of scene

  abbrev tree : Tree
  tree = space.tree

  abbrev set : IsSettled space
  set = e.matched.settled

  abbrev h : Text → Text
  h u = host_text space u

  abbrev n : ℕ
  n = (reach_after scene.around mode (place_walk scene.around mode base path) r).longest

  counted : IsCounted scene.around mode n a
  counted = target_counted scene.around mode base path r a e.place

  -- a directory is called by its host text
  called : (p : Place ℕ) (u : Text) → Stands space p u → is_directory_at tree p.host ≡ true → directory_name space p.host ≡ Some (h u)
  called p u stands dir = ((standing_places_are_called space scene.around.leads p u set e.matched.processes stands).0).on_host dir

  a_directory : a.jumped ≡ false → is_directory_at tree a.dir.host ≡ true
  a_directory jumped = in_directory scene.around mode base path set.mounts e.some a e.place jumped

  dir_called : a.jumped ≡ false → directory_name space a.dir.host ≡ Some (h b.dir)
  dir_called jumped = called a.dir b.dir (directory_on scene mode base t path a b e jumped).stands (a_directory jumped)

  -- ---- the directory

  at_root : a.last ≡ last.Root → (u : Text) → directory_name space a.dir.host ≡ Some u → text_length u ≤ n
  at_root is u called = (beginning_counted scene.around mode base path r a e.place).go u (ap (beginning_name space a.dir.host) is ∙ called)

  dir_short : a.jumped ≡ false → text_length (h b.dir) ≤ n
  dir_short jumped = by a.last refl
    where
      other : a.last ≢ last.Root → text_length (h b.dir) ≤ n
      other root = (counted.dir jumped root).go (h b.dir) (dir_called jumped)

      by : (l : Last) → a.last ≡ l → text_length (h b.dir) ≤ n
      by last.Root is = at_root is (h b.dir) (dir_called jumped)
      by last.Name is = other (λ root. let clash : last.Name ≡ last.Root = sym is ∙ root in absurd cc)
      by last.Dot is = other (λ root. let clash : last.Dot ≡ last.Root = sym is ∙ root in absurd cc)
      by last.DotDot is = other (λ root. let clash : last.DotDot ≡ last.Root = sym is ∙ root in absurd cc)

  -- ---- what was found

  module _ (p : Place ℕ) (u : Text) (ea : a.found ≡ Some p) (eb : b.found ≡ Some u) where
    own : Stands space p u
    own = (found_stands scene mode base t path a b e p u ea eb).stands

    -- by a process link
    file_landed : a.jumped ≡ true → is_directory_at tree p.host ≡ false → (dir : ℕ) → a.dir.host ≡ Node dir → below a.name (host_name tree dir) ≡ Some (h u)
    file_landed jumped file dir is =
        let at = (alike scene mode base t path a b e).landed jumped p u ea eb file in
        let s = last_object tree space.user space.finds at.up a.name p.host (ap (reached_in space) (sym at.text) ∙ own.way) in
        let way : reached_in space at.up ≡ Some (Node dir) = at.way ∙ ap Some is in
        let listed : body_is is_directory tree dir ≡ true = ap (is_directory_at tree) (some_is (Node dir) s.dir (sym way ∙ s.way)) ∙ s.is_dir in
        ap (below a.name) (host_called space set at.up dir way listed) ∙ ap Some (sym at.text)

    by_landing : a.jumped ≡ true → (l : Landing (Place ℕ) (Place ℕ)) → a ≡ landed l a.slash → (to : Place ℕ) (dir : ℕ) (name : List ℕ) → l ≡ landing space to dir name → IsWithin n (landing_name space l) → text_length (h u) ≤ n
    by_landing jumped l is to dir name lands within = by (is_directory_at tree p.host) refl
      where
        same : to ≡ p
        same = sym (landed_place space to dir name) ∙ ap (λ (l : Landing (Place ℕ) (Place ℕ)). l.found) (sym lands) ∙ some_is l.found p (ap (λ (a : PlaceTarget). a.found) (sym is) ∙ ea)

        by : (d : Bool) → is_directory_at tree p.host ≡ d → text_length (h u) ≤ n
        by true d = within.go (h u) (ap (landing_name space) lands ∙ directory_landed space to dir name (ap (λ (p : Place ℕ). is_directory_at tree p.host) same ∙ d) ∙ ap (λ (p : Place ℕ). directory_name space p.host) same ∙ called p u own d)
        by false d =
            let file = ap (λ (p : Place ℕ). is_directory_at tree p.host) same ∙ d in
            let entry = landed_entry space to dir name file in
            let dirs : a.dir.host ≡ Node dir = ap (λ (a : PlaceTarget). a.dir.host) is ∙ ap (λ (l : Landing (Place ℕ) (Place ℕ)). l.dir.host) lands ∙ ap (λ (p : Place ℕ). p.host) entry.0 in
            let names : a.name ≡ name = ap (λ (a : PlaceTarget). a.name) is ∙ ap (λ (l : Landing (Place ℕ) (Place ℕ)). l.name) lands ∙ entry.1 in
            within.go (h u) (ap (landing_name space) lands ∙ landing_of_file scene.around to dir name file ∙ ap (λ name. below name (host_name tree dir)) (sym names) ∙ file_landed jumped d dir dirs)

    -- by a component
    shown : a.jumped ≡ false → (c : Component) → ((d : Component) → kind_of d ≡ a.last → name_of d ≡ a.name → d ≡ c) → a.last ≢ last.Root → IsWithin n (seen_name (component_name space a.dir c) (look_up scene.around a.dir c))
    shown jumped c only root =
        let own = counted.shown jumped root in
        subst (λ d. IsWithin n (seen_name (component_name space a.dir d) (look_up scene.around a.dir d))) (only own.0 own.1 own.2) own.3

    shows : a.jumped ≡ false → (c : Component) → ((d : Component) → kind_of d ≡ a.last → name_of d ≡ a.name → d ≡ c) → a.last ≢ last.Root → Shows (look_up scene.around a.dir c) (Some p)
    shows jumped c only root =
        let s = found_is_shown _ _ (looking scene.around) mode base path a e.place jumped root in
        subst (λ o. Shows (look_up scene.around a.dir c) o) ea (subst (λ d. Shows (look_up scene.around a.dir d) a.found) (only s.0 s.1 s.2) s.3)

    by_component : a.jumped ≡ false → (c : Component) → ((d : Component) → kind_of d ≡ a.last → name_of d ≡ a.name → d ≡ c) → a.last ≢ last.Root → component_name space a.dir c ≡ Some (h u) → text_length (h u) ≤ n
    by_component jumped c only root is =
        (shown jumped c only root).go (h u) (shown_name (component_name space a.dir c) (look_up scene.around a.dir c) p (shows jumped c only root) ∙ is)

    named_here : a.jumped ≡ false → a.last ≡ last.Name → component_name space a.dir (Name a.name) ≡ Some (h u)
    named_here jumped is =
        let k = alike scene mode base t path a b e in
        let text : u ≡ b.name ∷ b.dir = text_target_named (texts_in scene) mode t path b u e.text (sym k.jumped ∙ jumped) (sym k.last ∙ is) eb in
        let whole : u ≡ a.name ∷ b.dir = text ∙ ap (λ name. name ∷ b.dir) (sym k.name) in
        let on = (directory_on scene mode base t path a b e jumped).stands in
        named_so space set scene.around.leads e.matched.processes a.dir.mount b.dir a.name on.mount a.dir.host p.host on.way (a_directory jumped) (ap (λ u. reached_in space (h u)) (sym whole) ∙ own.way)
        ∙ ap (λ u. Some (h u)) (sym whole)

    by_last : a.jumped ≡ false → (l : Last) → a.last ≡ l → text_length (h u) ≤ n
    by_last jumped last.Root is =
        let same : a.dir ≡ p = some_is a.dir p (sym (found_itself scene.around mode base path a e.place is) ∙ ea) in
        at_root is (h u) (ap (λ (p : Place ℕ). directory_name space p.host) same ∙ called p u own (ap (λ (p : Place ℕ). is_directory_at tree p.host) (sym same) ∙ a_directory jumped))
    by_last jumped last.Name is =
        by_component jumped (Name a.name) (λ d k m. last_name d a.name (k ∙ is) m) (λ root. let clash : last.Name ≡ last.Root = sym is ∙ root in absurd cc) (named_here jumped is)
    by_last jumped last.Dot is =
        let root : a.last ≢ last.Root = λ root. let clash : last.Dot ≡ last.Root = sym is ∙ root in absurd cc in
        let only = λ (d : Component) (k : kind_of d ≡ a.last) (m : name_of d ≡ a.name). last_dot d (k ∙ is) in
        let same : p ≡ a.dir = some_is p a.dir ((shows_inside scene.around a.dir Dot (Some p) (shows jumped Dot only root)).2) in
        by_component jumped Dot only root (ap (λ (p : Place ℕ). directory_name space p.host) (sym same) ∙ called p u own (ap (λ (p : Place ℕ). is_directory_at tree p.host) same ∙ a_directory jumped))
    by_last jumped last.DotDot is =
        let root : a.last ≢ last.Root = λ root. let clash : last.DotDot ≡ last.Root = sym is ∙ root in absurd cc in
        let only = λ (d : Component) (k : kind_of d ≡ a.last) (m : name_of d ≡ a.name). last_dot_dot d (k ∙ is) in
        let on = (directory_on scene mode base t path a b e jumped).stands in
        let g = goes_up space set scene.around.leads e.matched.processes a.dir.mount a.dir.host b.dir on (a_directory jumped) in
        let same : p ≡ g.to = some_is p g.to (subst (λ s. Shows s (Some p)) g.goes (shows_inside scene.around a.dir DotDot (Some p) (shows jumped DotDot only root)).2) in
        by_component jumped DotDot only root
        (ap (led_to_name space) g.goes ∙ ap (λ (p : Place ℕ). directory_name space p.host) (sym same) ∙ called p u own (ap (λ (p : Place ℕ). is_directory_at tree p.host) same ∙ g.is_dir))

    found_short : text_length (h u) ≤ n
    found_short = by a.jumped refl
      where
        by : (j : Bool) → a.jumped ≡ j → text_length (h u) ≤ n
        by true jumped =
            let own = counted.landing jumped in
            let lands = jump_landing scene.around own.0 own.1 own.2 own.3 own.4 in
            by_landing jumped own.3 own.5 lands.0 lands.1 lands.2 lands.3 own.6
        by false jumped = by_last jumped a.last refl

  -- ---- a name

  free_short : a.jumped ≡ false → a.found ≡ None → text_length (a.name ∷ h b.dir) ≤ n
  free_short jumped free = (free_counted scene.around mode base path r a e.place).go (a.name ∷ h b.dir) (ap (free_target_name space a) free ∙ ap (below a.name) (dir_called jumped))

  -- an entry that a path names is reached itself, whatever is shown in its place
  entry_short : mode ≡ modes.Name → a.jumped ≡ false → a.last ≡ last.Name → text_length (a.name ∷ h b.dir) ≤ n
  entry_short by_name jumped is = by a.found refl
    where
      away : a.last ≢ last.Root
      away root = let clash : last.Name ≡ last.Root = sym is ∙ root in absurd cc

      only : (d : Component) → kind_of d ≡ a.last → name_of d ≡ a.name → d ≡ Name a.name
      only d kind name = last_name d a.name (kind ∙ is) name

      within : IsWithin n (seen_name (entry_name space a.dir.host (Name a.name)) (look_up scene.around a.dir (Name a.name)))
      within =
          let own = counted.shown jumped away in
          subst (λ m. IsWithin n (seen_name (named_entry space (names_entry m true) a.dir.host (Name a.name)) (look_up scene.around a.dir (Name a.name)))) by_name
          (subst (λ d. IsWithin n (seen_name (named_entry space (names_entry mode true) a.dir.host d) (look_up scene.around a.dir d))) (only own.0 own.1 own.2) own.4)

      by : (o : Option (Place ℕ)) → a.found ≡ o → text_length (a.name ∷ h b.dir) ≤ n
      by None free = free_short jumped free
      by (Some p) found =
          let u = alike_some (FoundStands space mode) a.found b.found p ((alike scene mode base t path a b e).found) found in
          within.go (a.name ∷ h b.dir)
          (shown_name (entry_name space a.dir.host (Name a.name)) (look_up scene.around a.dir (Name a.name)) p (shows p u.0 found u.1 jumped (Name a.name) only away) ∙ ap (below a.name) (dir_called jumped))

pub reached_texts_are_short : ReachedTextsAreShort
reached_texts_are_short scene mode base t path a b r e = record {
  found = λ p u ea eb. found_short scene mode base t path a b r e p u ea eb;
  dir = λ jumped. dir_short scene mode base t path a b r e jumped;
  free = λ jumped free. free_short scene mode base t path a b r e jumped free;
  entry = λ by_name jumped is. entry_short scene mode base t path a b r e by_name jumped is;
}
