-- Where the plain kernel's walk along the host text of what was found ends.
use Rattle.std.proofs.Common.{◌≡◌, ◌≢◌, ℕ, Bool, true, false, List, [], ◌∷◌, ◌++◌, Option, Some, None, Result, Ok, Err, refl, sym, ap, subst, ◌∙◌}
use Rattle.std.specs.Bool.{if◌then◌else◌}
use Rattle.std.specs.Option.{option_and_then}
use Rattle.pt_canon.specs.pr_base.Alike.{Likeness, TargetAlike}
use Rattle.pt_canon.specs.pr_base.MountText.{MountText}
use Rattle.pt_canon.specs.pr_base.Paths.{Component, Dot, DotDot, Name, kind_of, text_of}
use Rattle.pt_canon.specs.pr_base.Texts.{Text}
use Rattle.pt_canon.specs.pr_base.WalkFrame.{Fails, Missing, Target, ends, fails, name_of}
use Rattle.pt_canon.specs.pr_base.WalkLaws.{Shows}
use Rattle.pt_canon.specs.pr_base.declared.errno.Errno.{Errno}
use Rattle.pt_canon.specs.pr_base.declared.errno.Errno.TheVariants.{EACCES, ENOTDIR}
use Rattle.pt_canon.specs.pr_base.declared.path.Last.{Last}
use Rattle.pt_canon.specs.pr_base.declared.path.Last.TheVariants as last
use Rattle.pt_canon.specs.pr_base.declared.path.WalkMode.{WalkMode}
use Rattle.pt_canon.specs.pr_base.declared.peeks.PeekKind.{PeekKind}
use Rattle.pt_canon.specs.pr_base.declared.peeks.PeekKind.TheVariants as kind
use Rattle.pt_canon.proofs.pr_base.AlikeLemmas.{alike_ok, alike_some}
use Rattle.pt_canon.proofs.pr_base.EndLemmas.{found_is_shown, same_target}
use Rattle.pt_canon.specs.pt_bind.Binding.{host_of, located, owner}
use Rattle.pt_canon.specs.TextWalk.{SeenText, TextSurroundings, in_directory as in_kind, is_missing, itself_in, look_text, looking_texts, seen_kind, seen_link, seen_text, text_walk, where_found}
use Rattle.kr_mounts.specs.kr_tree.declared.place.Host.{Host}
use Rattle.kr_mounts.specs.kr_tree.declared.place.Host.TheVariants.{Node}
use Rattle.kr_mounts.specs.kr_tree.declared.place.Place.{Place}
use Rattle.kr_mounts.specs.kr_tree.Tree.{Tree, root}
use Rattle.kr_mounts.proofs.kr_tree.CountLemmas.{root_directory}
use Rattle.kr_mounts.proofs.kr_tree.NameLemmas.{some_is}
use Rattle.kr_mounts.specs.kr_view.Component.{Namespace, Surroundings, inside, is_directory_at, look_up, may_search}
use Rattle.kr_mounts.specs.kr_view.HostReach.{host_place}
use Rattle.kr_mounts.specs.kr_view.ReachLaws.{name_target}
use Rattle.kr_mounts.specs.kr_view.View.{Row, is_there, row, source, source_entry}
use Rattle.kr_mounts.specs.kr_view.Walk.{PlaceTarget, looking, place_walk}
use Rattle.kr_mounts.proofs.kr_view.ArrivalLemmas.{target_found, text_found, unasked}
use Rattle.kr_mounts.proofs.kr_view.DirectoryLemmas.{found_itself, in_directory}
use Rattle.kr_mounts.proofs.kr_view.HostReachLemmas.{inode_reached, last_object}
use Rattle.kr_mounts.specs.Standing.{texts_of}
use Rattle.law_walks.specs.Handed.{BothEnd, FoundIsHandedOver, LeadsToFound, NamedTextsAreFound}
use Rattle.law_walks.specs.Scene.{Scene, host_around, space_of, texts_in}
use Rattle.law_walks.specs.Settled.{IsSettled}
use Rattle.law_walks.specs.Standing.{FoundStands, IsEntryAt, Stands, StandsOn, likeness, reached_in}
use Rattle.law_walks.proofs.AgreeLemmas.{walks_agree}
use Rattle.law_walks.proofs.PeekLemmas.{reached_by}
use Rattle.law_walks.proofs.StandingLemmas.{above_directory, kind_of_source, source_reached}
use Rattle.law_walks.proofs.TableLemmas.{host_none, host_some, located_some, owned, owner_some, source_text}
use Rattle.law_walks.proofs.UpLemmas.{goes_up}

-- ---- what components show

-- what is shown in a directory that may be searched
pub shows_inside : (around : Surroundings) (p : Place ℕ) (c : Component) (found : Option (Place ℕ)) → Shows (look_up around p c) found
    → (is_directory_at around.space.tree p.host ≡ true) × (may_search around.space.tree around.space.user p.host ≡ true) × Shows (inside around p c) found
shows_inside around p c found shows = by (is_directory_at around.space.tree p.host) (may_search around.space.tree around.space.user p.host) refl refl shows
  where
    by : (a b : Bool) → is_directory_at around.space.tree p.host ≡ a → may_search around.space.tree around.space.user p.host ≡ b → Shows (if a then (if b then inside around p c else Fails EACCES) else Fails ENOTDIR) found
        → (is_directory_at around.space.tree p.host ≡ true) × (may_search around.space.tree around.space.user p.host ≡ true) × Shows (inside around p c) found
    by true true e f shows = (e, f, shows)
    by true false e f shows = absurd shows
    by false b e f shows = absurd shows

-- a name shows what stands at the text and the name
module _ (texts : TextSurroundings) (t : Text) (name : List ℕ) (u : Text) where
  in_kind_shows : (k : Result PeekKind Errno) (s : SeenText) → Shows (in_kind k s) (Some u) → Shows s (Some u)
  in_kind_shows (Ok kind.Dir) s shows = shows
  in_kind_shows (Ok kind.File) s shows = absurd shows
  in_kind_shows (Ok kind.Link) s shows = absurd shows
  in_kind_shows (Ok kind.Jump) s shows = absurd shows
  in_kind_shows (Err e) s shows = absurd shows

  where_shows : (k : Result PeekKind Errno) (s : SeenText) → Shows (where_found k s) (Some u) → Shows s (Some u)
  where_shows (Ok k) s shows = shows
  where_shows (Err e) s shows = absurd shows

  link_shows : (r : Result (List ℕ) Errno) → Shows (seen_link (name ∷ t) r) (Some u) → u ≡ name ∷ t
  link_shows (Ok text) shows = some_is u (name ∷ t) shows
  link_shows (Err e) shows = absurd shows

  error_shows : (b : Bool) (e : Errno) → Shows {S = Text} {F = Text} (if b then Missing else Fails e) (Some u) → u ≡ name ∷ t
  error_shows true e shows = absurd cc
  error_shows false e shows = absurd shows

  kind_shows : (host : Text) (k : Result PeekKind Errno) → Shows (seen_kind texts (name ∷ t) host k) (Some u) → u ≡ name ∷ t
  kind_shows host (Ok kind.Dir) shows = some_is u (name ∷ t) shows
  kind_shows host (Ok kind.File) shows = some_is u (name ∷ t) shows
  kind_shows host (Ok kind.Link) shows = link_shows (texts.peeked.link_text (text_of host)) shows
  kind_shows host (Ok kind.Jump) shows = some_is u (name ∷ t) shows
  kind_shows host (Err e) shows = error_shows (is_missing e) e shows

  pub named_found : Shows (look_text texts t (Name name)) (Some u) → u ≡ name ∷ t
  unfolding look_text seen_text
  named_found shows =
      let h = host_of texts.bindings t in
      let below = host_of texts.bindings (name ∷ t) in
      let seen = seen_kind texts (name ∷ t) below (texts.peeked.kind (text_of below)) in
      kind_shows below (texts.peeked.kind (text_of below)) (where_shows (texts.peeked.kind (itself_in h)) seen (in_kind_shows (texts.peeked.kind (text_of h)) (where_found (texts.peeked.kind (itself_in h)) seen) shows))

-- ---- last components

not_root : (c : Component) (l : Last) → kind_of c ≡ l → l ≢ last.Root
not_root Dot l k e = let clash : last.Dot ≡ last.Root = k ∙ e in absurd cc
not_root DotDot l k e = let clash : last.DotDot ≡ last.Root = k ∙ e in absurd cc
not_root (Name name) l k e = let clash : last.Name ≡ last.Root = k ∙ e in absurd cc

pub last_dot : (c : Component) → kind_of c ≡ last.Dot → c ≡ Dot
last_dot Dot k = refl
last_dot DotDot k = let clash : last.DotDot ≡ last.Dot = k in absurd cc
last_dot (Name name) k = let clash : last.Name ≡ last.Dot = k in absurd cc

pub last_dot_dot : (c : Component) → kind_of c ≡ last.DotDot → c ≡ DotDot
last_dot_dot Dot k = let clash : last.Dot ≡ last.DotDot = k in absurd cc
last_dot_dot DotDot k = refl
last_dot_dot (Name name) k = let clash : last.Name ≡ last.DotDot = k in absurd cc

pub last_name : (c : Component) (name : List ℕ) → kind_of c ≡ last.Name → name_of c ≡ name → c ≡ Name name
last_name Dot name k n = let clash : last.Dot ≡ last.Name = k in absurd cc
last_name DotDot name k n = let clash : last.DotDot ≡ last.Name = k in absurd cc
last_name (Name c) name k n = ap Name n

-- a walk that ends under a name found what that name shows
pub name_shown : {S F : Type 0} (t : Target S F) (looks : Component → Type 0) → t.last ≡ last.Name → (c : Component) → kind_of c ≡ t.last → name_of c ≡ t.name → looks c → looks (Name t.name)
name_shown t looks is c k n shows = subst looks (last_name c t.name (k ∙ is) n) shows

-- what the walk over guest texts finds under a name stands at the directory's text and the name
pub text_target_named : (texts : TextSurroundings) (mode : WalkMode) (base : Text) (path : List ℕ) (b : Target Text Text) (u : Text) → (text_walk texts mode base path).answer ≡ Ok b → b.jumped ≡ false → b.last ≡ last.Name → b.found ≡ Some u
    → u ≡ b.name ∷ b.dir
text_target_named texts mode base path b u ends jumped is found =
    let s = found_is_shown _ _ (looking_texts texts) mode base path b ends jumped (λ r. let clash : last.Name ≡ last.Root = sym is ∙ r in absurd cc) in
    let shows = name_shown b (λ c. Shows (look_text texts b.dir c) b.found) is s.0 s.1 s.2 s.3 in
    named_found texts b.dir b.name u (subst (λ o. Shows (look_text texts b.dir (Name b.name)) o) found shows)

module _ (scene : Scene) (mode : WalkMode) (base : Place ℕ) (t : Text) (path : List ℕ) (a : PlaceTarget) (b : Target Text Text) (e : BothEnd scene mode base t path a b) where
  abbrev space : Namespace
  space = space_of scene

  abbrev tree : Tree
  tree = space.tree

  abbrev bindings : List MountText
  bindings = texts_of space.table

  abbrev reach : Text → Option Host
  reach h = reached_in space h

  abbrev like : Likeness (Place ℕ) (Place ℕ) Text Text
  like = likeness space mode

  abbrev set : IsSettled space
  set = e.matched.settled

  pub alike : TargetAlike like a b
  alike =
      let w = alike_ok like a (place_walk scene.around mode base path).answer _ (walks_agree scene mode base t path e.matched e.stands) e.place in
      subst (λ b. TargetAlike like a b) (same_target w.0 b (sym w.1 ∙ e.text)) w.2

  pub found_stands : (p : Place ℕ) (u : Text) → a.found ≡ Some p → b.found ≡ Some u → FoundStands space mode p u
  found_stands p u ea eb =
      let f = alike_some (FoundStands space mode) a.found b.found p alike.found ea in
      subst (λ u. FoundStands space mode p u) (some_is f.0 u (sym f.1 ∙ eb)) f.2

  -- a last name shows what was found
  pub place_shown : a.jumped ≡ false → a.last ≡ last.Name → Shows (look_up scene.around a.dir (Name a.name)) a.found
  place_shown jumped is =
      let s = found_is_shown _ _ (looking scene.around) mode base path a e.place jumped (λ r. let clash : last.Name ≡ last.Root = sym is ∙ r in absurd cc) in
      name_shown a (λ c. Shows (look_up scene.around a.dir c) a.found) is s.0 s.1 s.2 s.3

  text_named : (u : Text) → b.jumped ≡ false → b.last ≡ last.Name → b.found ≡ Some u → u ≡ b.name ∷ b.dir
  text_named u jumped is found = text_target_named (texts_in scene) mode t path b u e.text jumped is found

  pub directory_on : a.jumped ≡ false → StandsOn space a.dir b.dir
  directory_on jumped = alike.dir jumped

  -- ---- the entry of what is no directory

  module _ (p : Place ℕ) (u : Text) (ea : a.found ≡ Some p) (eb : b.found ≡ Some u) (file : is_directory_at tree p.host ≡ false) where
    own : Stands space p u
    own = (found_stands p u ea eb).stands

    -- the source of its mount isn't the text's, where that is a directory
    not_at_source : (k : ℕ) (name : List ℕ) (v : Text) → u ≡ name ∷ v → located bindings (name ∷ v) ≡ Some k → source space.table p.mount ≡ None → ⊥
    not_at_source k name v is l none =
        let r = located_some space.table (name ∷ v) k l in
        let mount : p.mount ≡ k = own.mount ∙ ap (owner bindings) is ∙ owner_some bindings name v k l in
        let source_way : reach (host_of bindings u) ≡ Some (Node r.mount.source) = ap (λ u. reach (host_of bindings u)) is ∙ ap reach (host_some bindings name v k l ∙ source_text space.table k r.mount r.there) ∙ source_reached space set k r.mount r.there in
        let same : p.host ≡ Node r.mount.source = some_is p.host (Node r.mount.source) (sym own.way ∙ source_way) in
        let is_file : r.mount.is_dir ≡ false = kind_of_source space set k r.mount false r.there (ap (is_directory_at tree) (sym same) ∙ file) in
        let from : source space.table p.mount ≡ Some (r.mount.source_dir, r.mount.source_name) =
        ap (option_and_then source_entry) (ap (row space.table) mount ∙ r.there) ∙ ap (λ b. if b then None else Some (r.mount.source_dir, r.mount.source_name)) is_file in
        let clash : true ≡ false = sym (ap is_there from) ∙ ap is_there none in
        let no : ⊥ = cc in no

    by_name : a.jumped ≡ false → a.last ≡ last.Name → source space.table p.mount ≡ None → IsEntryAt space (host_of bindings u) a.dir.host a.name
    by_name jumped is none =
        let text = text_named u (sym alike.jumped ∙ jumped) (sym alike.last ∙ is) eb in
        let l : located bindings (b.name ∷ b.dir) ≡ None = unlocated (located bindings (b.name ∷ b.dir)) refl text in
        record { up = host_of bindings b.dir; text = ap (host_of bindings) text ∙ host_none bindings b.name b.dir l ∙ ap (λ n. n ∷ host_of bindings b.dir) (sym alike.name); way = (directory_on jumped).stands.way }
      where
        unlocated : (o : Option ℕ) → located bindings (b.name ∷ b.dir) ≡ o → u ≡ b.name ∷ b.dir → o ≡ None
        unlocated None l text = refl
        unlocated (Some k) l text = absurd (not_at_source k b.name b.dir text l none)

    -- `.`, `..` and the root lead to directories
    no_directory : (q : Place ℕ) → is_directory_at tree q.host ≡ true → a.found ≡ Some q → ⊥
    no_directory q dir found =
        let clash : true ≡ false = sym dir ∙ ap (λ (q : Place ℕ). is_directory_at tree q.host) (some_is q p (sym found ∙ ea)) ∙ file in
        let no : ⊥ = cc in no

    a_directory : a.jumped ≡ false → is_directory_at tree a.dir.host ≡ true
    a_directory jumped = in_directory scene.around mode base path set.mounts e.some a e.place jumped

    shown_by : (c : Component) (l : Last) → a.jumped ≡ false → a.last ≡ l → kind_of c ≡ l → ((d : Component) → kind_of d ≡ l → d ≡ c) → Shows (look_up scene.around a.dir c) a.found
    shown_by c l jumped is k only =
        let s = found_is_shown _ _ (looking scene.around) mode base path a e.place jumped (λ r. not_root c l k (sym is ∙ r)) in
        subst (λ d. Shows (look_up scene.around a.dir d) a.found) (only s.0 (s.1 ∙ is)) s.3

    by_last : (l : Last) → a.last ≡ l → a.jumped ≡ false → source space.table p.mount ≡ None → IsEntryAt space (host_of bindings u) a.dir.host a.name
    by_last last.Name is jumped none = by_name jumped is none
    by_last last.Root is jumped none = absurd (no_directory a.dir (a_directory jumped) (found_itself scene.around mode base path a e.place is))
    by_last last.Dot is jumped none = absurd (no_directory a.dir (a_directory jumped) (shows_inside scene.around a.dir Dot a.found (shown_by Dot last.Dot jumped is refl last_dot)).2)
    by_last last.DotDot is jumped none =
        let on = directory_on jumped in
        let g = goes_up space set scene.around.leads e.matched.processes a.dir.mount a.dir.host b.dir on.stands (a_directory jumped) in
        absurd (no_directory g.to g.is_dir (subst (λ s. Shows s a.found) g.goes (shows_inside scene.around a.dir DotDot a.found (shown_by DotDot last.DotDot jumped is refl last_dot_dot)).2))

    pub entry_at : source space.table p.mount ≡ None → IsEntryAt space (host_of bindings u) a.dir.host a.name
    entry_at none = by a.jumped refl
      where
        by : (j : Bool) → a.jumped ≡ j → IsEntryAt space (host_of bindings u) a.dir.host a.name
        by true jumped = alike.landed jumped p u ea eb file
        by false jumped = by_last a.last refl jumped none

    -- the source of a mount has the entry at which it was settled
    pub settled_at : (at : ℕ × List ℕ) → source space.table p.mount ≡ Some at → IsEntryAt space (host_of bindings u) (Node at.0) at.1
    settled_at at is =
        let w = owned space set u in
        let told = entry_told w.mount at (sym (ap (option_and_then source_entry) (ap (row space.table) own.mount ∙ w.there)) ∙ is) in
        let s = set.entries (owner bindings u) w.mount w.there told.0 in
        record {
          up = s.up;
          text = w.host ∙ ap (λ rest. rest ++ w.mount.text.source) (alone w.rest w.host told.0) ∙ s.text ∙ ap (λ (at : ℕ × List ℕ). at.1 ∷ s.up) told.1;
          way = inode_reached tree space.user space.finds s.up w.mount.source_dir s.way ∙ ap (λ (at : ℕ × List ℕ). Some (Node at.0)) told.1;
        }
      where
        entry_told : (r : Row) (at : ℕ × List ℕ) → source_entry r ≡ Some at → (r.is_dir ≡ false) × ((r.source_dir, r.source_name) ≡ at)
        entry_told r at is = by r.is_dir refl is
          where
            by : (d : Bool) → r.is_dir ≡ d → (if d then None else Some (r.source_dir, r.source_name)) ≡ Some at → (r.is_dir ≡ false) × ((r.source_dir, r.source_name) ≡ at)
            by true e is = absurd cc
            by false e is = (e, some_is (r.source_dir, r.source_name) at is)

        -- nothing is below a source that is no directory
        alone : (rest : Text) → host_of bindings u ≡ rest ++ (owned space set u).mount.text.source → (owned space set u).mount.is_dir ≡ false → rest ≡ []
        alone [] host file = refl
        alone (name ∷ rest) host file =
            let w = owned space set u in
            let s = last_object tree space.user space.finds (rest ++ w.mount.text.source) name p.host (ap reach (sym host) ∙ own.way) in
            let dir = above_directory space set rest w.mount.text.source s.dir (Node w.mount.source) s.way s.is_dir (source_reached space set (owner bindings u) w.mount w.there) in
            let clash : true ≡ false = sym (kind_of_source space set (owner bindings u) w.mount true w.there dir) ∙ file in absurd cc

  -- ---- the walk along the host text

  module _ (other p : Place ℕ) (u : Text) (ea : a.found ≡ Some p) (eb : b.found ≡ Some u) where
    abbrev host : Surroundings
    host = host_around scene

    abbrev f : FoundStands space mode p u
    f = found_stands p u ea eb

    -- a last name and what is reached above it are those of an entry of the host text
    same_entry : (h : Text) (dir : Host) (name : List ℕ) (up : Text) → h ≡ name ∷ up → reach up ≡ Some dir → (d : Host) (n : List ℕ) → IsEntryAt space h d n → (host_place dir ≡ host_place d) × (name ≡ n)
    same_entry h dir name up is way d n at =
        let heads : name ∷ up ≡ n ∷ at.up = sym is ∙ at.text in
        let called : name ≡ n = cc in
        let same : up ≡ at.up = cc in
        (ap host_place (some_is dir d (sym way ∙ ap reach same ∙ at.way)), called)

    -- the root of the host is a directory
    not_the_root : host_of bindings u ≡ [] → is_directory_at tree p.host ≡ false → ⊥
    not_the_root none file =
        let same : Node root ≡ p.host = some_is (Node root) p.host (ap reach (sym none) ∙ f.stands.way) in
        let clash : true ≡ false = sym (root_directory tree set.sound) ∙ ap (is_directory_at tree) same ∙ file in
        let no : ⊥ = cc in no

    pub handed : LeadsToFound scene mode other a p u
    handed = by (host_of bindings u) refl
      where
        along : List ℕ → Result PlaceTarget Errno
        along path = (place_walk host mode other path).answer

        by : (h : Text) → host_of bindings u ≡ h → LeadsToFound scene mode other a p u
        by [] is =
            let r = text_found host mode other [] p.host false (reached_by scene e.matched [] p.host (ap reach (sym is) ∙ f.stands.way)) f.firm (λ wanted. let no : false ≡ true = sym (unasked mode) ∙ wanted in absurd cc) in
            record {
              target = r.0;
              answer = ap (λ h. (place_walk host mode other (text_of h)).answer) is ∙ r.1;
              found = r.2;
              last = λ some. absurd (some is);
              entry = λ file none. absurd (not_the_root is file);
              settled = λ at file told. absurd (not_the_root is file);
            }
        by (name ∷ up) is =
            let r = target_found host mode other name up p.host false (reached_by scene e.matched (name ∷ up) p.host (ap reach (sym is) ∙ f.stands.way)) f.firm in
            let target = name_target r.0 name false (Some p.host) in
            record {
              target = target;
              answer = ap (λ h. (place_walk host mode other (text_of h)).answer) is ∙ r.2
                  ∙ ap (λ w. (if w then (if is_directory_at tree p.host then ends target else fails ENOTDIR) else ends target).answer) (unasked mode);
              found = refl;
              last = λ some. (refl, refl);
              entry = λ file none. same_entry (host_of bindings u) r.0 name up is r.1 a.dir.host a.name (entry_at p u ea eb file none);
              settled = λ at file told. same_entry (host_of bindings u) r.0 name up is r.1 (Node at.0) at.1 (settled_at p u ea eb file at told);
            }

pub found_is_handed_over : FoundIsHandedOver
found_is_handed_over scene mode base t path a b other p u e ea eb = handed scene mode base t path a b e other p u ea eb

pub named_texts_are_found : NamedTextsAreFound
named_texts_are_found scene mode base t path a b u e jumped is found = text_named scene mode base t path a b e u jumped is found
