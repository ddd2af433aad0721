-- What stands at a place and at its guest text is seen alike, and so is a name there.
use Rattle.std.proofs.Common.{◌≡◌, ℕ, Bool, true, false, List, [], ◌∷◌, Option, Some, None, Ok, Err, refl, sym, ap, subst, ◌∙◌, arith}
use Rattle.std.specs.Bool.{if◌then◌else◌}
use Rattle.std.specs.Option.{option_map, option_map_or, option_and_then}
use Rattle.std.proofs.lemmas.Bool.Decides.{nat_tests}
use Rattle.std.proofs.lemmas.List.Elements.{All-head}
use Rattle.pt_canon.specs.pr_base.Alike.{Likeness, LandingAlike, OptionAlike, SeenAlike, both, fails, jumps, leads, links, missing, neither}
use Rattle.pt_canon.specs.pr_base.MountText.{MountText}
use Rattle.pt_canon.specs.pr_base.Paths.{AreNames, IsName, IsPart, text_of}
use Rattle.pt_canon.specs.pr_base.Texts.{Text}
use Rattle.pt_canon.specs.pr_base.WalkFrame.{Fails, Jumps, Landing, Leads, Links, Missing}
use Rattle.pt_canon.specs.pr_base.declared.errno.Errno.TheVariants.{EACCES, ENAMETOOLONG, ENOENT, ENOTDIR}
use Rattle.pt_canon.specs.pr_base.declared.path.WalkMode.{WalkMode}
use Rattle.pt_canon.specs.pr_base.declared.peeks.PeekKind.TheVariants as kind
use Rattle.pt_canon.specs.pt_bind.Binding.{host_of, located, owner}
use Rattle.pt_canon.specs.ProcessLinks.{is_dir_kind, jump_at, landing_of, landing_of_guest, landing_of_name, text_landing}
use Rattle.pt_canon.specs.TextWalk.{SeenText, TextSurroundings, in_directory, in_host, itself_in, seen_kind, seen_link as text_link, seen_text, where_found}
use Rattle.pt_canon.specs.declared.link.ProcessLink.{ProcessLink}
use Rattle.pt_canon.specs.declared.link.ProcessLink.TheVariants as process_link
use Rattle.kr_mounts.specs.kr_tree.declared.place.Host.{Host}
use Rattle.kr_mounts.specs.kr_tree.declared.place.Host.TheVariants.{Node, Proc}
use Rattle.kr_mounts.specs.kr_tree.declared.place.Place.{Place}
use Rattle.kr_mounts.specs.kr_tree.declared.place.ProcAt.{ProcAt}
use Rattle.kr_mounts.specs.kr_tree.declared.place.ProcAt.TheVariants.{SelfLink, Dir, Cwd, Root, Exe, FdDir, Fd}
use Rattle.kr_mounts.specs.kr_tree.Names.{named}
use Rattle.kr_mounts.specs.kr_tree.Tree.{Tree, Body, Directory, RegularFile, SymbolicLink, ProcessDirectory, body}
use Rattle.kr_mounts.proofs.kr_tree.EntryLemmas.{body_test, reached-named}
use Rattle.kr_mounts.specs.kr_view.declared.procs.Lead.{Lead}
use Rattle.kr_mounts.specs.kr_view.declared.procs.Lead.TheVariants as lead
use Rattle.kr_mounts.specs.kr_view.Component.{Namespace, SeenPlace, Surroundings, is_directory_at, is_process_directory, landing, may_search, named as looked_up, seen_at, seen_body, seen_link, shows_directory, through_point, too_long}
use Rattle.kr_mounts.specs.kr_view.HostReach.{host_place, is_link_at, object_in}
use Rattle.kr_mounts.specs.kr_view.Laws.{is_link}
use Rattle.kr_mounts.specs.kr_view.Processes.{LawsOfProcesses}
use Rattle.kr_mounts.specs.kr_view.View.{Row, node_in, source_place}
use Rattle.kr_mounts.proofs.kr_view.HostReachLemmas.{named_alone, object_more}
use Rattle.kr_mounts.specs.Standing.{texts_of}
use Rattle.law_walks.specs.Peeks.{kind_seen, text_seen}
use Rattle.law_walks.specs.Scene.{IsMatched, LeadsAlike, LeadsTo, Scene, host_around, link_of, space_of, texts_in}
use Rattle.law_walks.specs.Standing.{IsOpen, Stands, likeness, place_in, reached_in}
use Rattle.law_walks.proofs.LinkLemmas.{link_followed}
use Rattle.law_walks.proofs.PeekLemmas.{in_node_is, in_process_is, kind_firm, kind_itself, kind_missing, kind_reached, object_short, seen_object, text_reached}
use Rattle.law_walks.proofs.StandingLemmas.{node_reached, source_reached}
use Rattle.law_walks.proofs.TableLemmas.{down_is_located, mount_below, host_none, host_some, located_some, owner_none, owner_some, source_text}

-- a link that leads by what it stands for has no text
no_text : (space : Namespace) (leads_of : ProcAt → Lead ℕ) → LawsOfProcesses space.finds leads_of → (at : ProcAt) (link : ProcessLink) (text : List ℕ) → link_of at ≡ Some link → leads_of at ≡ lead.Text text → ⊥
no_text space leads_of laws at link text is e =
    let clash : None ≡ Some link = sym (ap link_of (laws.texts at text e)) ∙ is in
    let no : ⊥ = cc in no

module _ (scene : Scene) (m : IsMatched scene) (mode : WalkMode) where
  abbrev space : Namespace
  space = space_of scene

  abbrev tree : Tree
  tree = space.tree

  abbrev around : Surroundings
  around = scene.around

  abbrev host : Surroundings
  host = host_around scene

  abbrev bindings : List MountText
  bindings = texts_of space.table

  abbrev texts : TextSurroundings
  texts = texts_in scene

  abbrev reach : Text → Option Host
  reach h = reached_in space h

  abbrev like : Likeness (Place ℕ) (Place ℕ) Text Text
  like = likeness space mode

  -- what stands and is no link
  pub leads_to : (b : Bool) (q : Place ℕ) (u : Text) → Stands space q u → is_link_at tree q.host ≡ false → SeenAlike like (Leads b q q) (Leads b u u)
  leads_to b q u r firm = leads b (record { stands = r; firm = firm }) (record { stands = r; firm = λ _. firm })

  -- ---- links of the process directory

  landings_alike : (p : Place ℕ) (dir : ℕ) (name : List ℕ) (link : ProcessLink) (to : LeadsTo scene link p dir name) → LandingAlike like (landing space p dir name) (landing_of_guest bindings scene.peeked to.host to.guest)
  landings_alike p dir name link to =
      let kind_is = kind_firm scene m (host_of bindings to.guest) p.host to.stands.stands.way to.stands.firm in
      let same : is_dir_kind (scene.peeked.kind (text_of (host_of bindings to.guest))) ≡ is_directory_at tree p.host = ap is_dir_kind kind_is ∙ told (is_directory_at tree p.host) in
      subst (λ b. LandingAlike like (landing space p dir name) (text_landing b to.guest to.host)) (sym same) (by (is_directory_at tree p.host) refl)
    where
      told : (b : Bool) → is_dir_kind (Ok (if b then kind.Dir else kind.File)) ≡ b
      told true = refl
      told false = refl

      by : (b : Bool) → is_directory_at tree p.host ≡ b
          → LandingAlike like (if b then record { place = p; found = p; is_dir = true; dir = p; name = [] } else record { place = p; found = p; is_dir = false; dir = node_in p.mount dir; name = name }) (text_landing b to.guest to.host)
      by true e = record {
        place = to.stands;
        found = record { stands = to.stands.stands; firm = λ _. to.stands.firm };
        is_dir = refl;
        name = refl;
        entry = λ file. let clash : true ≡ false = sym e ∙ file in absurd cc;
      }
      by false e = record {
        place = to.stands;
        found = record { stands = to.stands.stands; firm = λ _. to.stands.firm };
        is_dir = refl;
        name = to.last e;
        entry = λ file. to.entry e;
      }

  landing_is : (p : Place ℕ) (dir : ℕ) (name : List ℕ) (link : ProcessLink) (to : LeadsTo scene link p dir name) → landing_of bindings scene.peeked scene.tags link ≡ Some (landing_of_guest bindings scene.peeked to.host to.guest)
  unfolding landing_of
  landing_is p dir name link to =
      ap (option_and_then (landing_of_name bindings scene.peeked scene.tags link)) to.called ∙ ap (option_map (landing_of_guest bindings scene.peeked to.host)) to.tagged

  module _ (k i : ℕ) (at : ProcAt) (u : Text) (link : ProcessLink) (r : Stands space (place_in k (Proc i at)) u) (is : link_of at ≡ Some link) where
    abbrev q : Place ℕ
    q = place_in k (Proc i at)

    abbrev h : Text
    h = host_of bindings u

    jumps_with : (a : Option (Landing (Place ℕ) (Place ℕ))) → OptionAlike (LandingAlike like) a (landing_of bindings scene.peeked scene.tags link) → SeenAlike like (Jumps q a) (Jumps u (jump_at bindings scene.peeked scene.tags h))
    jumps_with a alike = jumps r (subst (λ b. OptionAlike (LandingAlike like) a b) (sym (link_followed scene m h i at link r.way is)) alike)

    nowhere : landing_of bindings scene.peeked scene.tags link ≡ None → SeenAlike like (Jumps q None) (Jumps u (jump_at bindings scene.peeked scene.tags h))
    nowhere none = jumps_with None (subst (λ b. OptionAlike (LandingAlike like) None b) (sym none) neither)

    jump_alike : (mine : Lead ℕ) → around.leads at ≡ mine → LeadsAlike scene link mine → SeenAlike like (seen_link space q mine) (Jumps u (jump_at bindings scene.peeked scene.tags h))
    jump_alike (lead.Text text) e alike = absurd (no_text space around.leads m.processes at link text is e)
    jump_alike (lead.Jump p dir name) e to = jumps_with (Some (landing space p dir name)) (subst (λ b. OptionAlike (LandingAlike like) (Some (landing space p dir name)) b) (sym (landing_is p dir name link to)) (both (landings_alike p dir name link to)))
    jump_alike lead.Nameless e none = nowhere none
    jump_alike lead.NoLink e none = nowhere none

    -- to the plain kernel it is such a link, too
    plain_jump : (plain : Lead ℕ) → scene.host_leads at ≡ plain → kind_seen (seen_link host.space (host_place (Proc i at)) plain) ≡ Ok kind.Jump
    plain_jump (lead.Text text) e = absurd (no_text space scene.host_leads m.host_processes at link text is e)
    plain_jump (lead.Jump p dir name) e = refl
    plain_jump lead.Nameless e = refl
    plain_jump lead.NoLink e = refl

    link_alike : is_process_directory at ≡ false → SeenAlike like (seen_at around q (Proc i at)) (seen_kind texts u h (scene.peeked.kind (text_of h)))
    link_alike other =
        let hp = host_place (Proc i at) in
        let mine : seen_at around q (Proc i at) ≡ seen_link space q (around.leads at) = ap (λ b. if b then shows_directory q else seen_link space q (around.leads at)) other in
        let kind_is : scene.peeked.kind (text_of h) ≡ Ok kind.Jump =
        kind_reached scene m h (Proc i at) r.way ∙ ap (λ b. kind_seen (if b then shows_directory hp else seen_link host.space hp (scene.host_leads at))) other ∙ plain_jump (scene.host_leads at) refl in
        subst (λ s. SeenAlike like s (seen_kind texts u h (scene.peeked.kind (text_of h)))) (sym mine)
        (subst (λ k. SeenAlike like (seen_link space q (around.leads at)) (seen_kind texts u h k)) (sym kind_is) (jump_alike (around.leads at) refl (m.links.others h i at link r.way is)))

  -- ---- what stands at a place and at its text

  module _ (k : ℕ) (u : Text) where
    abbrev hu : Text
    hu = host_of bindings u

    linked : (x : Host) (text : List ℕ) → Stands space (place_in k x) u → scene.peeked.kind (text_of hu) ≡ Ok kind.Link → scene.peeked.link_text (text_of hu) ≡ Ok text
        → SeenAlike like (Links (place_in k x) text) (seen_kind texts u hu (scene.peeked.kind (text_of hu)))
    linked x text r kind_is text_is =
        subst (λ kd. SeenAlike like (Links (place_in k x) text) (seen_kind texts u hu kd)) (sym kind_is)
        (subst (λ l. SeenAlike like (Links (place_in k x) text) (text_link u l)) (sym text_is) (links text r))

    led : (x : Host) (b : Bool) → Stands space (place_in k x) u → is_link_at tree x ≡ false → scene.peeked.kind (text_of hu) ≡ kind_seen (Leads b (host_place x) (host_place x))
        → SeenAlike like (Leads b (place_in k x) (place_in k x)) (seen_kind texts u hu (scene.peeked.kind (text_of hu)))
    led x true r firm kind_is = subst (λ kd. SeenAlike like (Leads true (place_in k x) (place_in k x)) (seen_kind texts u hu kd)) (sym kind_is) (leads_to true (place_in k x) u r firm)
    led x false r firm kind_is = subst (λ kd. SeenAlike like (Leads false (place_in k x) (place_in k x)) (seen_kind texts u hu kd)) (sym kind_is) (leads_to false (place_in k x) u r firm)

    inode_alike : (i : ℕ) → Stands space (place_in k (Node i)) u → (o : Option Body) → body tree i ≡ o → scene.peeked.kind (text_of hu) ≡ kind_seen (seen_body (host_place (Node i)) o)
        → SeenAlike like (seen_body (place_in k (Node i)) o) (seen_kind texts u hu (scene.peeked.kind (text_of hu)))
    inode_alike i r None e kind_is = subst (λ kd. SeenAlike like Missing (seen_kind texts u hu kd)) (sym kind_is) missing
    inode_alike i r (Some (Directory es st)) e kind_is = led (Node i) true r (body_test is_link tree i ∙ ap (λ o. option_map_or is_link o false) e) kind_is
    inode_alike i r (Some (ProcessDirectory st)) e kind_is = led (Node i) true r (body_test is_link tree i ∙ ap (λ o. option_map_or is_link o false) e) kind_is
    inode_alike i r (Some (RegularFile bytes)) e kind_is = led (Node i) false r (body_test is_link tree i ∙ ap (λ o. option_map_or is_link o false) e) kind_is
    inode_alike i r (Some (SymbolicLink text)) e kind_is = linked (Node i) text r kind_is (text_reached scene m hu (Node i) text r.way (ap (λ o. text_seen (seen_body (host_place (Node i)) o)) e))

    self_alike : (i : ℕ) → Stands space (place_in k (Proc i SelfLink)) u → SeenAlike like (seen_at around (place_in k (Proc i SelfLink)) (Proc i SelfLink)) (seen_kind texts u hu (scene.peeked.kind (text_of hu)))
    self_alike i r =
        let s = m.links.self hu i r.way in
        let q = place_in k (Proc i SelfLink) in
        let hp = host_place (Proc i SelfLink) in
        subst (λ l. SeenAlike like (seen_link space q l) (seen_kind texts u hu (scene.peeked.kind (text_of hu)))) (sym s.1)
        (linked (Proc i SelfLink) s.0 r (kind_reached scene m hu (Proc i SelfLink) r.way ∙ ap (λ l. kind_seen (seen_link host.space hp l)) s.2)
        (text_reached scene m hu (Proc i SelfLink) s.0 r.way (ap (λ l. text_seen (seen_link host.space hp l)) s.2)))

    at_alike : (x : Host) → Stands space (place_in k x) u → SeenAlike like (seen_at around (place_in k x) x) (seen_kind texts u hu (scene.peeked.kind (text_of hu)))
    at_alike (Node i) r = inode_alike i r (body tree i) refl (kind_reached scene m hu (Node i) r.way)
    at_alike (Proc i SelfLink) r = self_alike i r
    at_alike (Proc i (Dir pid)) r = led (Proc i (Dir pid)) true r refl (kind_reached scene m hu (Proc i (Dir pid)) r.way)
    at_alike (Proc i (FdDir pid)) r = led (Proc i (FdDir pid)) true r refl (kind_reached scene m hu (Proc i (FdDir pid)) r.way)
    at_alike (Proc i (Cwd pid)) r = link_alike k i (Cwd pid) u (process_link.Cwd pid) r refl refl
    at_alike (Proc i (Root pid)) r = link_alike k i (Root pid) u (process_link.Root pid) r refl refl
    at_alike (Proc i (Exe pid)) r = link_alike k i (Exe pid) u (process_link.Exe pid) r refl refl
    at_alike (Proc i (Fd pid fd)) r = link_alike k i (Fd pid fd) u (process_link.Fd pid fd) r refl refl

    pub seen_alike : (x : Host) → Stands space (place_in k x) u → SeenAlike like (seen_at around (place_in k x) x) (seen_text texts u)
    unfolding seen_text
    seen_alike x r = at_alike x r

  -- ---- the tests of the place itself

  pub guard_alike : (x : Host) (h : Text) → reach h ≡ Some x → is_link_at tree x ≡ false → (v : SeenPlace) (y : SeenText) → (is_directory_at tree x ≡ true → may_search tree space.user x ≡ true → SeenAlike like v y)
      → SeenAlike like (if is_directory_at tree x then (if may_search tree space.user x then v else Fails EACCES) else Fails ENOTDIR) (in_host scene.peeked h y)
  guard_alike x h way firm v y inner = by (is_directory_at tree x) refl
    where
      rights : (b : Bool) → may_search tree space.user x ≡ b → (may_search tree space.user x ≡ true → SeenAlike like v y) → SeenAlike like (if b then v else Fails EACCES) (where_found (if b then Ok kind.Dir else Err EACCES) y)
      rights true e inner = inner e
      rights false e inner = fails EACCES

      by : (b : Bool) → is_directory_at tree x ≡ b → SeenAlike like (if b then (if may_search tree space.user x then v else Fails EACCES) else Fails ENOTDIR) (in_host scene.peeked h y)
      by true dir =
          let kind_is : scene.peeked.kind (text_of h) ≡ Ok kind.Dir = kind_firm scene m h x way firm ∙ ap (λ b. Ok (if b then kind.Dir else kind.File)) dir in
          let mine = if may_search tree space.user x then v else Fails EACCES in
          subst (λ k. SeenAlike like mine (in_directory k (where_found (scene.peeked.kind (itself_in h)) y))) (sym kind_is)
          (subst (λ k. SeenAlike like mine (where_found k y)) (sym (kind_itself scene m h x way dir)) (rights (may_search tree space.user x) refl (inner dir)))
      by false other =
          let kind_is : scene.peeked.kind (text_of h) ≡ Ok kind.File = kind_firm scene m h x way firm ∙ ap (λ b. Ok (if b then kind.Dir else kind.File)) other in
          subst (λ k. SeenAlike like (Fails ENOTDIR) (in_directory k (where_found (scene.peeked.kind (itself_in h)) y))) (sym kind_is) (fails ENOTDIR)

  -- ---- a name

  module _ (k : ℕ) (x : Host) (u : Text) (name : List ℕ) (mount : k ≡ owner bindings u) (way : reach (host_of bindings u) ≡ Some x) (dir : is_directory_at tree x ≡ true) (above : IsOpen space u) (search : may_search tree space.user x ≡ true) (part : IsPart name) where
    opened : IsOpen space (name ∷ u)
    opened = (record { dir = x; way = way; is_dir = dir; search = search }, above)

    -- where a mount is located
    at_mount : (i j : ℕ) → located bindings (name ∷ u) ≡ Some j → SeenAlike like (if too_long name then Fails ENAMETOOLONG else through_point around k i name (source_place space.table j)) (seen_text texts (name ∷ u))
    at_mount i j e =
        let l = located_some space.table (name ∷ u) j e in
        let names : AreNames (name ∷ u) = subst AreNames l.at (m.settled.mounts.lawful.location_names j l.mount l.there) in
        let most = (All-head IsName name u names).short in
        let short : too_long name ≡ false = grind (arith, nat_tests) in
        let there : Stands space (node_in j l.mount.source) (name ∷ u) = record {
          mount = sym (owner_some bindings name u j e);
          way = ap reach (host_some bindings name u j e ∙ source_text space.table j l.mount l.there) ∙ source_reached space m.settled j l.mount l.there;
          above = λ _. opened;
        } in
        let mine : (if too_long name then Fails ENAMETOOLONG else through_point around k i name (source_place space.table j)) ≡ seen_at around (node_in j l.mount.source) (Node l.mount.source) =
        ap (λ b. if b then Fails ENAMETOOLONG else through_point around k i name (source_place space.table j)) short ∙ ap (λ o. through_point around k i name (option_map (λ (r : Row). node_in j r.source) o)) l.there in
        subst (λ s. SeenAlike like s (seen_text texts (name ∷ u))) (sym mine) (seen_alike j (name ∷ u) (Node l.mount.source) there)

    -- where none is
    missing_alike : located bindings (name ∷ u) ≡ None → object_in tree space.finds name x ≡ None → SeenAlike like (if too_long name then Fails ENAMETOOLONG else Missing) (seen_text texts (name ∷ u))
    unfolding seen_text
    missing_alike e none =
        subst (λ h. SeenAlike like (if too_long name then Fails ENAMETOOLONG else Missing) (seen_kind texts (name ∷ u) h (scene.peeked.kind (text_of h)))) (sym (host_none bindings name u e))
        (subst (λ kd. SeenAlike like (if too_long name then Fails ENAMETOOLONG else Missing) (seen_kind texts (name ∷ u) (name ∷ host_of bindings u) kd)) (sym (kind_missing scene m (host_of bindings u) x name way dir search part none)) (by (too_long name)))
      where
        by : (b : Bool) → SeenAlike like (if b then Fails ENAMETOOLONG else Missing) (seen_kind texts (name ∷ u) (name ∷ host_of bindings u) (Err (if b then ENAMETOOLONG else ENOENT)))
        by true = fails ENAMETOOLONG
        by false = missing

    at_name : located bindings (name ∷ u) ≡ None → SeenAlike like (if too_long name then Fails ENAMETOOLONG else seen_object around k (object_in tree space.finds name x)) (seen_text texts (name ∷ u))
    at_name e = by (object_in tree space.finds name x) refl
      where
        by : (o : Option Host) → object_in tree space.finds name x ≡ o → SeenAlike like (if too_long name then Fails ENAMETOOLONG else seen_object around k o) (seen_text texts (name ∷ u))
        by None none = missing_alike e none
        by (Some y) is =
            let there : Stands space (place_in k y) (name ∷ u) = record {
              mount = mount ∙ sym (owner_none bindings name u e);
              way = ap reach (host_none bindings name u e) ∙ object_more tree space.user space.finds (host_of bindings u) name x y way dir search is;
              above = λ _. opened;
            } in
            subst (λ b. SeenAlike like (if b then Fails ENAMETOOLONG else seen_at around (place_in k y) y) (seen_text texts (name ∷ u))) (sym (object_short scene m x y name is)) (seen_alike k (name ∷ u) y there)

  pub name_alike : (k : ℕ) (x : Host) (u : Text) (name : List ℕ) → k ≡ owner bindings u → reach (host_of bindings u) ≡ Some x → is_directory_at tree x ≡ true → IsOpen space u → may_search tree space.user x ≡ true → IsPart name
      → SeenAlike like (looked_up around (place_in k x) name) (seen_text texts (name ∷ u))
  name_alike k (Node i) u name mount way dir above search part =
      let named_is : named tree (host_of bindings u) ≡ Some i = reached-named tree space.user (host_of bindings u) i (node_reached space m.settled (host_of bindings u) i way) in
      subst (λ o. SeenAlike like (if too_long name then Fails ENAMETOOLONG else through_point around k i name o) (seen_text texts (name ∷ u))) (sym (down_is_located space m.settled k i u mount named_is dir name)) (by (located bindings (name ∷ u)) refl)
    where
      by : (o : Option ℕ) → located bindings (name ∷ u) ≡ o → SeenAlike like (if too_long name then Fails ENAMETOOLONG else through_point around k i name (option_and_then (source_place space.table) o)) (seen_text texts (name ∷ u))
      by None e = subst (λ s. SeenAlike like (if too_long name then Fails ENAMETOOLONG else s) (seen_text texts (name ∷ u))) (sym (in_node_is around k i name)) (at_name k (Node i) u name mount way dir above search part e)
      by (Some j) e = at_mount k (Node i) u name mount way dir above search part i j e
  name_alike k (Proc i at) u name mount way dir above search part =
      subst (λ s. SeenAlike like (if too_long name then Fails ENAMETOOLONG else s) (seen_text texts (name ∷ u))) (sym (in_process_is around k i at name))
      (at_name k (Proc i at) u name mount way dir above search part (unlocated (located bindings (name ∷ u)) refl))
    where
      unlocated : (o : Option ℕ) → located bindings (name ∷ u) ≡ o → o ≡ None
      unlocated None e = refl
      unlocated (Some j) e =
          let b = mount_below space m.settled name u j e in
          let clash : Proc i at ≡ Node b.point.dir = named_alone tree space.user space.finds (host_of bindings u) b.point.dir (Proc i at) b.dir way in absurd cc
