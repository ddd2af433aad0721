-- A state in which all places in use stand with their tags is matched.
use Rattle.std.proofs.Common.{◌≡◌, ℕ, Bool, true, false, not, length, List, [], ◌∷◌, map, Option, Some, None, nat_eq, refl, sym, ap, subst, ◌∙◌}
use Rattle.std.specs.Prelude.{◌==◌, ◌||◌}
use Rattle.std.specs.Bool.{if◌then◌else◌}
use Rattle.std.specs.Fmt.{decimal}
use Rattle.std.specs.List.{find}
use Rattle.std.specs.Option.{option_map, option_map_or, option_and_then}
use Rattle.pt_canon.specs.pr_base.MountText.{MountText}
use Rattle.pt_canon.specs.pr_base.Paths.{text_of}
use Rattle.pt_canon.specs.pr_base.Texts.{Text}
use Rattle.pt_canon.specs.pt_bind.Binding.{guest_of, names_of}
use Rattle.pt_canon.specs.pt_bind.Tags.{TagTable, tag_of}
use Rattle.pt_canon.specs.pt_bind.declared.slot.Slot.TheVariants as slot
use Rattle.pt_canon.specs.ProcessLinks.{head_of, landing_of, landing_of_name, link_guest, link_name}
use Rattle.pt_canon.specs.declared.link.ProcessLink.{ProcessLink}
use Rattle.pt_canon.specs.declared.link.ProcessLink.TheVariants as process_link
use Rattle.kr_mounts.specs.kr_tree.declared.place.Host.{Host}
use Rattle.kr_mounts.specs.kr_tree.declared.place.Host.TheVariants.{Proc}
use Rattle.kr_mounts.specs.kr_tree.declared.place.Place.{Place}
use Rattle.kr_mounts.specs.kr_tree.declared.place.ProcAt.{ProcAt}
use Rattle.kr_mounts.specs.kr_tree.declared.place.ProcAt.TheVariants.{SelfLink, Dir, Cwd, Root, Exe, FdDir, Fd}
use Rattle.kr_mounts.proofs.kr_tree.NameLemmas.{some_is, then_some}
use Rattle.kr_mounts.specs.kr_view.declared.procs.Lead.{Lead}
use Rattle.kr_mounts.specs.kr_view.declared.procs.Lead.TheVariants as lead
use Rattle.kr_mounts.specs.kr_view.Component.{Namespace, is_directory_at}
use Rattle.kr_mounts.specs.kr_view.Names.{directory_name, guest_name}
use Rattle.kr_mounts.specs.kr_view.HostReach.{host_place}
use Rattle.kr_mounts.specs.kr_view.Living.{Each, HasSmallNumbers as IsSmallProcess, Living, first, process as living_process}
use Rattle.kr_mounts.specs.kr_view.Processes.{LawsOfProcesses}
use Rattle.kr_mounts.specs.kr_view.View.{Row, is_there, root_place}
use Rattle.kr_mounts.proofs.kr_view.GuestNameLemmas.{plain_view}
use Rattle.kr_mounts.proofs.kr_view.HostReachLemmas.{IsFoundIn, at_top, below_top, found_in, last_object}
use Rattle.kr_model.specs.kr_files.declared.opened.Opened.{Opened}
use Rattle.kr_mounts.specs.Standing.{texts_of}
use Rattle.kr_model.specs.ProcessDirectory.{jump_to, lead_of_open, leads_of, living_of, name_text, remembered, space_of}
use Rattle.kr_model.specs.State.{Process, State, opened, process}
use Rattle.law_walks.specs.Scene.{LeadsAlike, LeadsTo, Scene, link_of}
use Rattle.law_walks.specs.Settled.{IsSettled, host_text}
use Rattle.law_walks.specs.Standing.{reached_in}
use Rattle.law_walks.specs.States.{ArePlaced, IsPlaced, IsInUse, StatesAreMatched, host_space, open_name, peeked_of, scene_of}
use Rattle.law_walks.proofs.StandingLemmas.{roots_stand}
use Rattle.law_walks.proofs.StartLemmas.{living_links_are_small}
use Rattle.law_walks.proofs.TableLemmas.{root_directory}
use Rattle.law_walks.proofs.InUseLemmas.{guest_is, host_is, host_laws, laws, peeked_at, read_back, remembered_name, tag_is}

-- ---- processes

-- the process directory shows living processes alone
shown_lives : {X : Type 0} (ps : List (Process ℕ X)) (pid : ℕ) (shown : Process ℕ X → Living) → ((p : Process ℕ X) → (shown p).pid ≡ p.pid) → find (λ (p : Process ℕ X). p.pid == pid) ps ≡ None
    → first (λ (l : Living). nat_eq l.pid pid) (map shown ps) ≡ None
shown_lives {X} [] pid shown same none = refl
shown_lives {X} (p ∷ ps) pid shown same none = by (nat_eq p.pid pid) refl none (shown_lives ps pid shown same)
  where
    by : (b : Bool) → nat_eq p.pid pid ≡ b → (if b then Some p else find (λ (p : Process ℕ X). p.pid == pid) ps) ≡ None → (find (λ (p : Process ℕ X). p.pid == pid) ps ≡ None → first (λ (l : Living). nat_eq l.pid pid) (map shown ps) ≡ None)
        → (if nat_eq (shown p).pid pid then Some (shown p) else first (λ (l : Living). nat_eq l.pid pid) (map shown ps)) ≡ None
    by true e none more = absurd cc
    by false e none more =
        ap (λ n. if nat_eq n pid then Some (shown p) else first (λ (l : Living). nat_eq l.pid pid) (map shown ps)) (same p)
        ∙ ap (λ b. if b then Some (shown p) else first (λ (l : Living). nat_eq l.pid pid) (map shown ps)) e ∙ more none

-- ---- a state

module _ {X : Type 0} (table : List Row) (s : State ℕ X) (caller : ℕ) (tags : TagTable) (set : IsSettled (space_of table s)) (small : Each IsSmallProcess (living_of s)) (placed : ArePlaced table s tags) where
  abbrev space : Namespace
  space = space_of table s

  abbrev scene : Scene
  scene = scene_of table s caller tags

  abbrev bindings : List MountText
  bindings = texts_of table

  abbrev mine : ProcAt → Lead ℕ
  mine = leads_of table s caller

  shown_laws : LawsOfProcesses space.finds mine
  shown_laws = laws table s caller set small

  -- ---- a link to a place in use

  module _ (link : ProcessLink) (p : Place ℕ) (dir : ℕ) (name : List ℕ) (tag : ℕ) (own : IsInUse space p dir name tag) where
    abbrev h : Text
    h = host_text space own.guest

    leads_to : link_name (peeked_of s caller) link ≡ option_map names_of (name_text (host_space s) (host_place p.host) dir name) → ((h : Text) → link_guest bindings tags link h ≡ guest_of bindings tag h) → LeadsTo scene link p dir name
    leads_to named tagged = record {
      host = h;
      guest = own.guest;
      called = named ∙ ap (option_map names_of) (host_is table s caller set small p dir name tag own) ∙ ap Some (read_back table s caller set small p dir name tag own);
      tagged = tagged h ∙ tag_is table s caller set small p dir name tag own;
      stands = own.stands;
      last = λ file. sym (ap head_of (own.entry file).text);
      entry = own.entry;
    }

    in_use_leads : link_name (peeked_of s caller) link ≡ option_map names_of (name_text (host_space s) (host_place p.host) dir name) → ((h : Text) → link_guest bindings tags link h ≡ guest_of bindings tag h)
        → LeadsAlike scene link (jump_to space p dir name)
    in_use_leads named tagged = subst (λ o. LeadsAlike scene link (if is_there o then lead.Jump p dir name else lead.Nameless)) (sym (guest_is table s caller set small p dir name tag own)) (leads_to named tagged)

  -- ---- places with names and without

  no_landing : (link : ProcessLink) → link_name (peeked_of s caller) link ≡ None → landing_of bindings (peeked_of s caller) tags link ≡ None
  unfolding landing_of
  no_landing link none = ap (option_and_then (landing_of_name bindings (peeked_of s caller) tags link)) none

  placed_leads : (link : ProcessLink) (p : Place ℕ) (dir : ℕ) (name : List ℕ) (tag : ℕ) → IsPlaced space p dir name tag → link_name (peeked_of s caller) link ≡ option_map names_of (name_text (host_space s) (host_place p.host) dir name)
      → ((h : Text) → link_guest bindings tags link h ≡ guest_of bindings tag h) → LeadsAlike scene link (jump_to space p dir name)
  placed_leads link p dir name tag own named tagged = by (is_directory_at space.tree p.host) (length name == 0) refl refl
    where
      by : (d n : Bool) → is_directory_at space.tree p.host ≡ d → (length name == 0) ≡ n → LeadsAlike scene link (jump_to space p dir name)
      by true n e f = in_use_leads link p dir name tag (own.called (ap (λ b. b || not (length name == 0)) e)) named tagged
      by false false e f = in_use_leads link p dir name tag (own.called (ap (λ b. b || not (length name == 0)) e ∙ ap not f)) named tagged
      by false true e f =
          let mine_is : guest_name space p (remembered dir name) ≡ None = ap (λ b. guest_name space p (if b then None else Some (dir, name))) f ∙ own.nameless (ap (λ b. b || not (length name == 0)) e ∙ ap not f) in
          let on_host : guest_name (host_space s) (host_place p.host) (remembered dir name) ≡ None =
          ap (λ b. guest_name (host_space s) (host_place p.host) (if b then None else Some (dir, name))) f ∙ plain_view (host_space s) (host_place p.host) None set.sound refl refl
          ∙ ap (λ b. if b then directory_name (host_space s) p.host else None) e in
          subst (λ o. LeadsAlike scene link (if is_there o then lead.Jump p dir name else lead.Nameless)) (sym mine_is) (no_landing link (named ∙ ap (λ o. option_map names_of (option_map text_of o)) on_host))

  -- ---- each link

  cwd_alike : (pid : ℕ) (o : Option (Process ℕ X)) → process pid s ≡ o → LeadsAlike scene (process_link.Cwd pid) (option_map_or (λ (p : Process ℕ X). jump_to space p.cwd 0 []) o lead.NoLink)
  cwd_alike pid None e = no_landing (process_link.Cwd pid) (ap (λ o. option_map names_of (option_and_then (λ (p : Process ℕ X). name_text (host_space s) (host_place p.cwd.host) 0 []) o)) e)
  cwd_alike pid (Some p) e =
      placed_leads (process_link.Cwd pid) p.cwd 0 [] (tag_of tags pid slot.Cwd) (placed.cwd pid p e)
      (ap (λ o. option_map names_of (option_and_then (λ (p : Process ℕ X). name_text (host_space s) (host_place p.cwd.host) 0 []) o)) e) (λ h. refl)

  exe_alike : (pid : ℕ) (o : Option (Process ℕ X)) → process pid s ≡ o → LeadsAlike scene (process_link.Exe pid) (option_map_or (λ (p : Process ℕ X). jump_to space p.exe p.exe_dir p.exe_name) o lead.NoLink)
  exe_alike pid None e = no_landing (process_link.Exe pid) (ap (λ o. option_map names_of (option_and_then (λ (p : Process ℕ X). name_text (host_space s) (host_place p.exe.host) p.exe_dir p.exe_name) o)) e)
  exe_alike pid (Some p) e =
      placed_leads (process_link.Exe pid) p.exe p.exe_dir p.exe_name (tag_of tags pid slot.Exe) (placed.exe pid p e)
      (ap (λ o. option_map names_of (option_and_then (λ (p : Process ℕ X). name_text (host_space s) (host_place p.exe.host) p.exe_dir p.exe_name) o)) e) (λ h. refl)

  open_alike : (pid fd : ℕ) (o : Option (Opened ℕ)) → opened pid fd s ≡ o → LeadsAlike scene (process_link.Fd pid fd) (option_map_or (lead_of_open space) o lead.NoLink)
  open_alike pid fd None e = no_landing (process_link.Fd pid fd) (ap (λ o. option_map names_of (option_and_then (open_name s) o)) e)
  open_alike pid fd (Some o) e = by o.place refl
    where
      by : (place : Option (Place ℕ)) → o.place ≡ place → LeadsAlike scene (process_link.Fd pid fd) (option_map_or (λ (p : Place ℕ). jump_to space p o.dir o.name) place lead.Nameless)
      by None at =
          no_landing (process_link.Fd pid fd) (ap (λ o. option_map names_of (option_and_then (open_name s) o)) e ∙ ap (λ place. option_map names_of (option_and_then (λ (p : Place ℕ). name_text (host_space s) (host_place p.host) o.dir o.name) place)) at)
      by (Some p) at =
          placed_leads (process_link.Fd pid fd) p o.dir o.name (tag_of tags pid (slot.Fd fd)) (placed.open_files pid fd o p e at)
          (ap (λ o. option_map names_of (option_and_then (open_name s) o)) e ∙ ap (λ place. option_map names_of (option_and_then (λ (p : Place ℕ). name_text (host_space s) (host_place p.host) o.dir o.name) place)) at) (λ h. refl)

  -- the root of a process is that of the view
  root_leads : (pid : ℕ) → LeadsAlike scene (process_link.Root pid) (jump_to space (root_place table) 0 [])
  root_leads pid =
      let on = roots_stand space set in
      let dir = root_directory space set in
      let called = remembered_name space set mine shown_laws (root_place table) [] 0 [] on (λ d. refl) (λ file. let clash : true ≡ false = sym dir ∙ file in absurd cc) in
      subst (λ o. LeadsAlike scene (process_link.Root pid) (if is_there o then lead.Jump (root_place table) 0 [] else lead.Nameless)) (sym called) (record {
        host = [];
        guest = [];
        called = refl;
        tagged = refl;
        stands = on;
        last = λ file. let clash : true ≡ false = sym dir ∙ file in absurd cc;
        entry = λ file. let clash : true ≡ false = sym dir ∙ file in absurd cc;
      })

  -- a process whose root is reached lives
  root_lives : (h : Text) (i pid : ℕ) → reached_in space h ≡ Some (Proc i (Root pid)) → process pid s ≡ None → ⊥
  root_lives [] i pid way none = cc
  root_lives (name ∷ h) i pid way none =
      let o = last_object space.tree space.user space.finds h name (Proc i (Root pid)) way in
      by o.dir (found_in space.tree space.finds name o.dir i (Root pid) o.there)
    where
      by : (dir : Host) → IsFoundIn space.tree space.finds name i (Root pid) dir → ⊥
      by _ (at_top is found) = let clash : Some (Dir pid) ≡ None = shown_laws.stands None name (Root pid) found in cc
      by _ (below_top up found) =
          let is : Dir pid ≡ up = some_is (Dir pid) up (shown_laws.stands (Some up) name (Root pid) found) in
          let there : space.finds (Some (Dir pid)) name ≡ Some (Root pid) = ap (λ up. space.finds (Some up) name) is ∙ found in
          let l = then_some (λ (l : Living). _) (living_process (living_of s) pid) (Root pid) there in
          let clash : None ≡ Some l.0 = sym (shown_lives s.living pid _ (λ p. refl) none) ∙ l.1 in cc

  root_alike : (h : Text) (i pid : ℕ) → reached_in space h ≡ Some (Proc i (Root pid)) → (o : Option (Process ℕ X)) → process pid s ≡ o
      → LeadsAlike scene (process_link.Root pid) (option_map_or (λ (p : Process ℕ X). jump_to space (root_place table) 0 []) o lead.NoLink)
  root_alike h i pid way None e = absurd (root_lives h i pid way e)
  root_alike h i pid way (Some p) e = root_leads pid

  others : (h : Text) (i : ℕ) (at : ProcAt) (link : ProcessLink) → reached_in space h ≡ Some (Proc i at) → link_of at ≡ Some link → LeadsAlike scene link (mine at)
  others h i SelfLink link way is = absurd cc
  others h i (Dir pid) link way is = absurd cc
  others h i (FdDir pid) link way is = absurd cc
  others h i (Cwd pid) link way is = subst (λ link. LeadsAlike scene link (mine (Cwd pid))) (some_is (process_link.Cwd pid) link is) (cwd_alike pid (process pid s) refl)
  others h i (Exe pid) link way is = subst (λ link. LeadsAlike scene link (mine (Exe pid))) (some_is (process_link.Exe pid) link is) (exe_alike pid (process pid s) refl)
  others h i (Root pid) link way is = subst (λ link. LeadsAlike scene link (mine (Root pid))) (some_is (process_link.Root pid) link is) (root_alike h i pid way (process pid s) refl)
  others h i (Fd pid fd) link way is = subst (λ link. LeadsAlike scene link (mine (Fd pid fd))) (some_is (process_link.Fd pid fd) link is) (open_alike pid fd (opened pid fd s) refl)

pub states_are_matched : (X : Type 0) → StatesAreMatched X
states_are_matched X table s caller tags set small placed = record {
  settled = set;
  processes = laws table s caller set small;
  host_processes = host_laws table s caller set small;
  peeks = peeked_at s caller;
  links = record {
    self = λ h i way. (decimal caller, refl, refl);
    small = λ h i at link way is. living_links_are_small (space_of table s) (living_of s) h i at link refl small way is;
    others = others table s caller tags set small placed;
  };
}
