-- A link of the process directory leads a tracer to the guest text that the kernel with mounts tells of it, or nowhere where that kernel
-- tells none.
use Rattle.std.proofs.Common.{◌≡◌, ℕ, Bool, true, false, not, length, List, [], Option, Some, None, Result, Ok, refl, sym, ap, subst, ◌∙◌}
use Rattle.std.specs.Prelude.{◌==◌, ◌||◌}
use Rattle.std.specs.Bool.{if◌then◌else◌}
use Rattle.std.specs.Option.{option_and_then, option_map, option_map_or}
use Rattle.law_edits.specs.pr_base.MountText.{MountText}
use Rattle.law_edits.specs.pr_base.Paths.{is_absolute, text_of}
use Rattle.law_edits.specs.pr_base.Peeks.{Peeked}
use Rattle.law_edits.specs.pr_base.Texts.{Text}
use Rattle.law_edits.specs.pr_base.WalkFrame.{Landing}
use Rattle.law_edits.specs.pr_base.declared.errno.Errno.{Errno}
use Rattle.law_edits.specs.pt_bind.Binding.{guest_of, host_of, names_of}
use Rattle.law_edits.specs.pt_bind.Tags.{TagTable, tag_of}
use Rattle.law_edits.specs.pt_bind.declared.slot.Slot.TheVariants as slot
use Rattle.law_places.specs.pt_canon.ProcessLinks.{is_dir_kind, landing_of, landing_of_guest, landing_of_name, link_guest, link_name, text_landing}
use Rattle.law_places.specs.pt_canon.declared.link.ProcessLink.{ProcessLink}
use Rattle.law_places.specs.pt_canon.declared.link.ProcessLink.TheVariants as process_link
use Rattle.law_places.specs.kr_procfs.Objects.{console_text, pipe_text}
use Rattle.law_places.specs.kr_tree.declared.place.Host.TheVariants.{Proc}
use Rattle.law_places.specs.kr_tree.declared.place.Place.{Place}
use Rattle.law_places.specs.kr_tree.declared.place.ProcAt.{ProcAt}
use Rattle.law_places.specs.kr_tree.declared.place.ProcAt.TheVariants.{SelfLink, Dir, Cwd, Root, Exe, FdDir, Fd}
use Rattle.law_places.proofs.kr_tree.NameLemmas.{some_is}
use Rattle.law_places.specs.kr_view.declared.procs.Lead.TheVariants as lead
use Rattle.law_places.specs.kr_view.Component.{Namespace, is_directory_at}
use Rattle.law_places.specs.kr_view.HostReach.{host_place}
use Rattle.law_places.specs.kr_view.Living.{Each, HasSmallNumbers}
use Rattle.law_places.specs.kr_view.Names.{directory_name, guest_name}
use Rattle.law_places.specs.kr_view.View.{Row, root_place}
use Rattle.law_places.proofs.kr_view.GuestNameLemmas.{plain_view}
use Rattle.law_places.specs.kr_files.declared.opened.Opened.{Opened}
use Rattle.law_places.specs.kr_files.declared.opened.What.{What}
use Rattle.law_places.specs.kr_files.declared.opened.What.TheVariants as what
use Rattle.law_places.specs.kr_mounts.Standing.{texts_of}
use Rattle.law_places.specs.kr_model.HostView.{base_text, host_space, linked_text, open_name}
use Rattle.law_places.specs.kr_model.Peeks.{link_text_at, name_or_none, peeked_of}
use Rattle.law_places.specs.kr_model.ProcessDirectory.{jump_to, leads_of, link_text, living_of, name_text, open_text, remembered, space_of, unplaced_text}
use Rattle.law_places.specs.kr_model.State.{Image, Process, State, opened, process}
use Rattle.law_places.specs.law_walks.Scene.{IsMatched, LeadsAlike, link_of}
use Rattle.law_places.specs.law_walks.Settled.{IsSettled, host_text}
use Rattle.law_places.specs.law_walks.Standing.{reached_in}
use Rattle.law_places.specs.law_walks.States.{ArePlaced, IsInUse, IsPlaced, scene_of}
use Rattle.law_places.proofs.law_walks.InUseLemmas.{guest_is, host_is, laws, read_back, remembered_name, tag_is}
use Rattle.law_places.proofs.law_walks.StandingLemmas.{roots_stand}
use Rattle.law_places.proofs.law_walks.TableLemmas.{root_directory}

-- where a tracer goes by a link, what the kernel with mounts tells of it, and the text that the plain kernel has
pub data LeadsAsTold (landing : Option (Landing Text Text)) (text : Option (List ℕ)) (own : Result (List ℕ) Errno) : Type 0 where
  Leading : (l : Landing Text Text) → landing ≡ Some l → text ≡ Some (text_of l.found) → LeadsAsTold landing text own
  -- what has no name
  Gone : landing ≡ None → text ≡ None → LeadsAsTold landing text own
  -- a pipe and the console, whose text is no path
  Unplaced : (t : List ℕ) → landing ≡ None → own ≡ Ok t → is_absolute t ≡ false → LeadsAsTold landing text own

found_guest : (b : Bool) (guest name : Text) → (text_landing b guest name).found ≡ guest
found_guest true guest name = refl
found_guest false guest name = refl

module _ (table : List Row) (s : State ℕ Image) (caller : ℕ) (tags : TagTable) (set : IsSettled (space_of table s)) (small : Each HasSmallNumbers (living_of s)) (placed : ArePlaced table s tags) where
  abbrev space : Namespace
  space = space_of table s

  abbrev bindings : List MountText
  bindings = texts_of table

  abbrev peeked : Peeked
  peeked = peeked_of s caller

  abbrev landing : ProcessLink → Option (Landing Text Text)
  landing link = landing_of bindings peeked tags link

  abbrev on_host : Place ℕ → ℕ → List ℕ → Option (List ℕ)
  on_host p dir name = name_text (host_space s) (host_place p.host) dir name

  -- ---- a link to a place

  no_landing : (link : ProcessLink) → link_name peeked link ≡ None → landing link ≡ None
  unfolding landing_of
  no_landing link none = ap (option_and_then (landing_of_name bindings peeked tags link)) none

  lands : (link : ProcessLink) (host guest : Text) → link_name peeked link ≡ Some host → link_guest bindings tags link host ≡ Some guest → landing link ≡ Some (landing_of_guest bindings peeked host guest)
  unfolding landing_of
  lands link host guest called tagged = ap (option_and_then (landing_of_name bindings peeked tags link)) called ∙ ap (option_map (landing_of_guest bindings peeked host)) tagged

  module _ (link : ProcessLink) (own : Result (List ℕ) Errno) (p : Place ℕ) (dir : ℕ) (name : List ℕ) (tag : ℕ) (named : link_name peeked link ≡ option_map names_of (on_host p dir name)) (tagged : (h : Text) → link_guest bindings tags link h ≡ guest_of bindings tag h) where
    in_use : IsInUse space p dir name tag → LeadsAsTold (landing link) (name_text space p dir name) own
    in_use own =
        let h = host_text space own.guest in
        let l = landing_of_guest bindings peeked h own.guest in
        Leading l
        (lands link h own.guest (named ∙ ap (option_map names_of) (host_is table s caller set small p dir name tag own) ∙ ap Some (read_back table s caller set small p dir name tag own))
        (tagged h ∙ tag_is table s caller set small p dir name tag own))
        (ap (option_map text_of) (guest_is table s caller set small p dir name tag own) ∙ ap (λ guest. Some (text_of guest)) (sym (found_guest (is_dir_kind (peeked.kind (text_of (host_of bindings own.guest)))) own.guest h)))

    placed_told : IsPlaced space p dir name tag → LeadsAsTold (landing link) (name_text space p dir name) own
    placed_told is = by (is_directory_at space.tree p.host) (length name == 0) refl refl
      where
        by : (d n : Bool) → is_directory_at space.tree p.host ≡ d → (length name == 0) ≡ n → LeadsAsTold (landing link) (name_text space p dir name) own
        by true n e f = in_use (is.called (ap (λ b. b || not (length name == 0)) e))
        by false false e f = in_use (is.called (ap (λ b. b || not (length name == 0)) e ∙ ap not f))
        by false true e f =
            let mine : guest_name space p (remembered dir name) ≡ None = ap (λ b. guest_name space p (if b then None else Some (dir, name))) f ∙ is.nameless (ap (λ b. b || not (length name == 0)) e ∙ ap not f) in
            let other : guest_name (host_space s) (host_place p.host) (remembered dir name) ≡ None =
            ap (λ b. guest_name (host_space s) (host_place p.host) (if b then None else Some (dir, name))) f ∙ plain_view (host_space s) (host_place p.host) None set.sound refl refl
            ∙ ap (λ b. if b then directory_name (host_space s) p.host else None) e in
            Gone (no_landing link (named ∙ ap (λ o. option_map names_of (option_map text_of o)) other)) (ap (option_map text_of) mine)

  -- ---- each link

  abbrev Told : ℕ → ProcAt → ProcessLink → Type 0
  Told i at link = LeadsAsTold (landing link) (link_text table s caller at) (link_text_at s caller (Proc i at))

  cwd_told : (i n : ℕ) (o : Option (Process ℕ Image)) → process n s ≡ o → Told i (Cwd n) (process_link.Cwd n)
  cwd_told i n None e =
      Gone (no_landing (process_link.Cwd n) (ap (λ o. option_map names_of (option_and_then (λ (p : Process ℕ Image). on_host p.cwd 0 []) o)) e)) (ap (option_and_then (λ (p : Process ℕ Image). name_text space p.cwd 0 [])) e)
  cwd_told i n (Some p) e =
      subst (λ text. LeadsAsTold (landing (process_link.Cwd n)) text (link_text_at s caller (Proc i (Cwd n)))) (sym (ap (option_and_then (λ (p : Process ℕ Image). name_text space p.cwd 0 [])) e))
      (placed_told (process_link.Cwd n) (link_text_at s caller (Proc i (Cwd n))) p.cwd 0 [] (tag_of tags n slot.Cwd) (ap (λ o. option_map names_of (option_and_then (λ (p : Process ℕ Image). on_host p.cwd 0 []) o)) e) (λ h. refl) (placed.cwd n p e))

  exe_told : (i n : ℕ) (o : Option (Process ℕ Image)) → process n s ≡ o → Told i (Exe n) (process_link.Exe n)
  exe_told i n None e =
      Gone (no_landing (process_link.Exe n) (ap (λ o. option_map names_of (option_and_then (λ (p : Process ℕ Image). on_host p.exe p.exe_dir p.exe_name) o)) e))
      (ap (option_and_then (λ (p : Process ℕ Image). name_text space p.exe p.exe_dir p.exe_name)) e)
  exe_told i n (Some p) e =
      subst (λ text. LeadsAsTold (landing (process_link.Exe n)) text (link_text_at s caller (Proc i (Exe n)))) (sym (ap (option_and_then (λ (p : Process ℕ Image). name_text space p.exe p.exe_dir p.exe_name)) e))
      (placed_told (process_link.Exe n) (link_text_at s caller (Proc i (Exe n))) p.exe p.exe_dir p.exe_name (tag_of tags n slot.Exe)
      (ap (λ o. option_map names_of (option_and_then (λ (p : Process ℕ Image). on_host p.exe p.exe_dir p.exe_name) o)) e) (λ h. refl) (placed.exe n p e))

  -- a pipe and the console have a text of their own, and no name
  unplaced_told : (link : ProcessLink) (w : What) → landing link ≡ None → LeadsAsTold (landing link) (unplaced_text w) (name_or_none (unplaced_text w))
  unplaced_told link what.File none = Gone none refl
  unplaced_told link what.Dir none = Gone none refl
  unplaced_told link what.In none = Unplaced console_text none refl refl
  unplaced_told link what.Out none = Unplaced console_text none refl refl
  unplaced_told link what.Err none = Unplaced console_text none refl refl
  unplaced_told link (what.PipeRead n) none = Unplaced (pipe_text n) none refl refl
  unplaced_told link (what.PipeWrite n) none = Unplaced (pipe_text n) none refl refl

  open_told : (i n fd : ℕ) (o : Option (Opened ℕ)) → opened n fd s ≡ o → Told i (Fd n fd) (process_link.Fd n fd)
  open_told i n fd None e = Gone (no_landing (process_link.Fd n fd) (ap (λ o. option_map names_of (option_and_then (open_name s) o)) e)) (ap (option_and_then (open_text space)) e)
  open_told i n fd (Some o) e =
      subst (λ text. LeadsAsTold (landing link) text (name_or_none (base_text s n fd))) (sym (ap (option_and_then (open_text space)) e))
      (subst (λ text. LeadsAsTold (landing link) (open_text space o) (name_or_none text)) (sym (ap (option_and_then (linked_text s)) e)) (by o.place refl))
    where
      link : ProcessLink
      link = process_link.Fd n fd

      name_is : link_name peeked link ≡ option_map names_of (open_name s o)
      name_is = ap (λ o. option_map names_of (option_and_then (open_name s) o)) e

      by : (place : Option (Place ℕ)) → o.place ≡ place
          → LeadsAsTold (landing link) (option_map_or (λ p. name_text space p o.dir o.name) o.place (unplaced_text o.what)) (name_or_none (option_map_or (λ p. on_host p o.dir o.name) o.place (unplaced_text o.what)))
      by None at =
          subst (λ place. LeadsAsTold (landing link) (option_map_or (λ (p : Place ℕ). name_text space p o.dir o.name) place (unplaced_text o.what)) (name_or_none (option_map_or (λ (p : Place ℕ). on_host p o.dir o.name) place (unplaced_text o.what)))) (sym at)
          (unplaced_told link o.what (no_landing link (name_is ∙ ap (λ place. option_map names_of (option_and_then (λ (p : Place ℕ). on_host p o.dir o.name) place)) at)))
      by (Some p) at =
          subst (λ place. LeadsAsTold (landing link) (option_map_or (λ (p : Place ℕ). name_text space p o.dir o.name) place (unplaced_text o.what)) (name_or_none (option_map_or (λ (p : Place ℕ). on_host p o.dir o.name) place (unplaced_text o.what)))) (sym at)
          (placed_told link (name_or_none (on_host p o.dir o.name)) p o.dir o.name (tag_of tags n (slot.Fd fd)) (name_is ∙ ap (λ place. option_map names_of (option_and_then (λ (p : Place ℕ). on_host p o.dir o.name) place)) at) (λ h. refl) (placed.open_files n fd o p e at))

  module _ (m : IsMatched (scene_of table s caller tags)) (h : Text) (i : ℕ) where
    -- the root of a process is that of the view, and one that is reached is that of a living process
    root_told : (n : ℕ) → reached_in space h ≡ Some (Proc i (Root n)) → (o : Option (Process ℕ Image)) → process n s ≡ o → Told i (Root n) (process_link.Root n)
    root_told n way None e =
        let none : landing (process_link.Root n) ≡ None =
        subst (LeadsAlike (scene_of table s caller tags) (process_link.Root n)) (ap (λ (o : Option (Process ℕ Image)). option_map_or (λ (p : Process ℕ Image). jump_to space (root_place table) 0 []) o lead.NoLink) e)
        (m.links.others h i (Root n) (process_link.Root n) way refl) in
        let clash : None ≡ Some (landing_of_guest bindings peeked [] []) = sym none ∙ lands (process_link.Root n) [] [] refl refl in absurd cc
    root_told n way (Some p) e =
        let dir = root_directory space set in
        let named = remembered_name space set (leads_of table s caller) (laws table s caller set small) (root_place table) [] 0 [] (roots_stand space set) (λ d. refl) (λ file. let clash : true ≡ false = sym dir ∙ file in absurd cc) in
        Leading (landing_of_guest bindings peeked [] []) (lands (process_link.Root n) [] [] refl refl)
        (ap (option_and_then (λ (p : Process ℕ Image). name_text space (root_place table) 0 [])) e ∙ ap (option_map text_of) named
        ∙ ap (λ guest. Some (text_of guest)) (sym (found_guest (is_dir_kind (peeked.kind (text_of (host_of bindings [])))) [] [])))

    pub link_told : (at : ProcAt) (link : ProcessLink) → reached_in space h ≡ Some (Proc i at) → link_of at ≡ Some link → Told i at link
    link_told SelfLink link way is = absurd cc
    link_told (Dir n) link way is = absurd cc
    link_told (FdDir n) link way is = absurd cc
    link_told (Cwd n) link way is = subst (Told i (Cwd n)) (some_is (process_link.Cwd n) link is) (cwd_told i n (process n s) refl)
    link_told (Exe n) link way is = subst (Told i (Exe n)) (some_is (process_link.Exe n) link is) (exe_told i n (process n s) refl)
    link_told (Root n) link way is = subst (Told i (Root n)) (some_is (process_link.Root n) link is) (root_told n way (process n s) refl)
    link_told (Fd n fd) link way is = subst (Told i (Fd n fd)) (some_is (process_link.Fd n fd) link is) (open_told i n fd (opened n fd s) refl)
