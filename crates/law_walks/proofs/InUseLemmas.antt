-- What is told of places in use, and what walks find.
use Rattle.std.proofs.Common.{◌≡◌, ◌≢◌, ℕ, Bool, true, false, not, List, [], ◌∷◌, length, Option, Some, None, Result, Ok, Err, refl, sym, ap, subst, ◌∙◌, arith}
use Rattle.std.specs.Prelude.{◌==◌}
use Rattle.std.specs.Bool.{if◌then◌else◌}
use Rattle.std.specs.Fmt.{decimal}
use Rattle.std.specs.Option.{option_map, option_map_or}
use Rattle.std.proofs.lemmas.Bool.{ne_eqb}
use Rattle.std.proofs.lemmas.List.Elements.{All-head}
use Rattle.pt_canon.specs.pr_base.Paths.{AreNames, IsName, text_of}
use Rattle.pt_canon.specs.pr_base.Texts.{Text}
use Rattle.pt_canon.specs.pr_base.declared.errno.Errno.{Errno}
use Rattle.pt_canon.specs.pr_base.WalkFrame.{Target, is_followed}
use Rattle.pt_canon.specs.pr_base.declared.path.WalkMode.{WalkMode}
use Rattle.pt_canon.proofs.pr_base.PathLemmas.{names_are_parts}
use Rattle.pt_canon.specs.pt_bind.Binding.{guest_of, names_of, index_of}
use Rattle.pt_canon.proofs.pt_bind.ByteLemmas.{names_written}
use Rattle.kr_mounts.specs.kr_tree.declared.place.Host.{Host}
use Rattle.kr_mounts.specs.kr_tree.declared.place.Host.TheVariants.{Node, Proc}
use Rattle.kr_mounts.specs.kr_tree.declared.place.Place.{Place}
use Rattle.kr_mounts.specs.kr_tree.declared.place.ProcAt.{ProcAt}
use Rattle.kr_mounts.specs.kr_tree.declared.place.ProcAt.TheVariants.{SelfLink, Dir, Cwd, Root, Exe, FdDir, Fd}
use Rattle.kr_mounts.specs.kr_tree.Tree.{Body, Directory, RegularFile, SymbolicLink, ProcessDirectory, body}
use Rattle.kr_mounts.proofs.kr_tree.NameLemmas.{some_is}
use Rattle.kr_mounts.specs.kr_view.declared.procs.Lead.{Lead}
use Rattle.kr_mounts.specs.kr_view.declared.procs.Lead.TheVariants as lead
use Rattle.kr_mounts.specs.kr_view.Component.{Namespace, is_directory_at, seen_at, seen_body, seen_link}
use Rattle.kr_mounts.specs.kr_view.HostReach.{host_place, is_link_at}
use Rattle.kr_mounts.specs.kr_view.Living.{Each, HasSmallNumbers as IsSmallProcess}
use Rattle.kr_mounts.specs.kr_view.Names.{guest_name}
use Rattle.kr_mounts.specs.kr_view.Processes.{LawsOfProcesses}
use Rattle.kr_mounts.specs.kr_view.View.{Row, plain, root_place, row, source}
use Rattle.kr_mounts.specs.kr_view.Walk.{PlaceTarget}
use Rattle.kr_mounts.proofs.kr_view.HostReachLemmas.{last_object, reached_names, entry_in}
use Rattle.kr_mounts.proofs.kr_view.LivingLemmas.{living_processes}
use Rattle.kr_mounts.specs.Standing.{texts_of}
use Rattle.kr_model.specs.ProcessDirectory.{leads_of, living_of, name_text, remembered, space_of}
use Rattle.kr_model.specs.State.{State, opened, process, inode_of}
use Rattle.law_walks.specs.Peeks.{ArePeeks, at_found, text_of_answer, text_seen}
use Rattle.law_walks.specs.Scene.{Scene}
use Rattle.law_walks.specs.Settled.{IsSettled, host_text}
use Rattle.law_walks.specs.Standing.{IsEntryAt, StandsOn, reached_in}
use Rattle.law_walks.specs.States.{FoundIsInUse, PlacesInUseAreTold, IsInUse, answer_along, body_text, host_around_of, host_leads, host_space, link_text_at, peeked_of, read_at, read_of}
use Rattle.law_walks.specs.Translation.{IsCalled}
use Rattle.law_walks.specs.Handed.{BothEnd}
use Rattle.law_walks.proofs.HandedLemmas.{entry_at, found_stands, settled_at}
use Rattle.law_walks.proofs.TableLemmas.{owned}
use Rattle.law_walks.proofs.PlainLemmas.{plain_host, plain_settled, plain_stands}
use Rattle.law_walks.proofs.StandingLemmas.{standing_places_are_called}

-- ---- links without a text

jump_text : (b : Bool) (p : Place ℕ) (dir : ℕ) (name text : List ℕ) → (if b then lead.Jump p dir name else lead.Nameless) ≡ lead.Text text → ⊥
jump_text true p dir name text e = cc
jump_text false p dir name text e = cc

or_none : {A : Type 0} (f : A → Lead ℕ) (o : Option A) (text : List ℕ) → ((x : A) → f x ≡ lead.Text text → ⊥) → option_map_or f o lead.NoLink ≡ lead.Text text → ⊥
or_none f None text none e = cc
or_none f (Some x) text none e = none x e

or_nameless : {A : Type 0} (f : A → Lead ℕ) (o : Option A) (text : List ℕ) → ((x : A) → f x ≡ lead.Text text → ⊥) → option_map_or f o lead.Nameless ≡ lead.Text text → ⊥
or_nameless f None text none e = cc
or_nameless f (Some x) text none e = none x e

-- ---- what places in use are called

some_name : (name : List ℕ) → name ≢ [] → (length name == 0) ≡ false
some_name [] some = absurd (some refl)
some_name (b ∷ name) some = ne_eqb (length (b ∷ name)) 0 (λ e. absurd (omega arith))

file_node : (space : Namespace) (x : Host) → is_link_at space.tree x ≡ false → is_directory_at space.tree x ≡ false → (i : ℕ) × (x ≡ Node i)
file_node space (Node i) firm file = (i, refl)
file_node space (Proc i at) firm file = let clash : true ≡ false = sym (ap not file) ∙ firm in absurd cc

-- what stands is called by its guest text, with the entry that is remembered of it
pub remembered_name : (space : Namespace) → IsSettled space → (leads : ProcAt → Lead ℕ) → LawsOfProcesses space.finds leads → (p : Place ℕ) (t : Text) (dir : ℕ) (name : List ℕ) → StandsOn space p t
    → (is_directory_at space.tree p.host ≡ true → name ≡ []) → (is_directory_at space.tree p.host ≡ false → IsEntryAt space (host_text space t) (Node dir) name) → guest_name space p (remembered dir name) ≡ Some t
remembered_name space set leads laws p t dir name on is_dir is_file = by (is_directory_at space.tree p.host) refl
  where
    called : IsCalled space p t
    called = (standing_places_are_called space leads p t set laws on.stands).0

    by : (b : Bool) → is_directory_at space.tree p.host ≡ b → guest_name space p (remembered dir name) ≡ Some t
    by true e = ap (λ name. guest_name space p (remembered dir name)) (is_dir e) ∙ called.directory e
    by false e =
        let at = is_file e in
        let i = file_node space p.host on.firm e in
        let names : AreNames (name ∷ at.up) = subst AreNames at.text (reached_names space.tree space.user space.finds leads (host_text space t) p.host set.sound laws on.stands.way) in
        ap (λ b. guest_name space p (if b then None else Some (dir, name))) (some_name name (All-head IsName name at.up names).some) ∙ called.entry i.0 dir name i.1 e at

-- ---- what a tracer is told

module _ {X : Type 0} (s : State ℕ X) (caller : ℕ) where
  host_texts : (at : ProcAt) (text : List ℕ) → host_leads s caller at ≡ lead.Text text → at ≡ SelfLink
  host_texts SelfLink text e = refl
  host_texts (Dir pid) text e = absurd cc
  host_texts (FdDir pid) text e = absurd cc
  host_texts (Cwd pid) text e = absurd (or_none _ (process pid s) text (λ p. jump_text _ (host_place p.cwd.host) 0 [] text) e)
  host_texts (Root pid) text e = absurd (or_none _ (process pid s) text (λ p. jump_text _ (root_place plain) 0 [] text) e)
  host_texts (Exe pid) text e = absurd (or_none _ (process pid s) text (λ p. jump_text _ (host_place p.exe.host) p.exe_dir p.exe_name text) e)
  host_texts (Fd pid fd) text e = absurd (or_none _ (opened pid fd s) text (λ o. or_nameless _ o.place text (λ p. jump_text _ (host_place p.host) o.dir o.name text)) e)

  module _ (p : Place ℕ) (text : List ℕ) where
    text_of_body : (o : Option Body) → text_seen (seen_body p o) ≡ Some text → body_text o ≡ Ok text
    text_of_body None is = absurd cc
    text_of_body (Some (Directory es st)) is = absurd cc
    text_of_body (Some (RegularFile bytes)) is = absurd cc
    text_of_body (Some (SymbolicLink own)) is = ap Ok (some_is own text is)
    text_of_body (Some (ProcessDirectory st)) is = absurd cc

    text_of_lead : (l : Lead ℕ) → text_seen (seen_link (host_space s) p l) ≡ Some text → l ≡ lead.Text text
    text_of_lead (lead.Text own) is = ap lead.Text (some_is own text is)
    text_of_lead (lead.Jump to dir name) is = absurd cc
    text_of_lead lead.Nameless is = absurd cc
    text_of_lead lead.NoLink is = absurd cc

    other_link : (at : ProcAt) → at ≢ SelfLink → text_seen (seen_link (host_space s) p (host_leads s caller at)) ≡ Some text → ⊥
    other_link at other is = other (host_texts at text (text_of_lead (host_leads s caller at) is))

    text_of_object : (x : Host) → text_seen (seen_at (host_around_of s caller) p x) ≡ Some text → link_text_at s caller x ≡ Ok text
    text_of_object (Node i) is = text_of_body (body s.tree i) is
    text_of_object (Proc i SelfLink) is = ap Ok (some_is (decimal caller) text is)
    text_of_object (Proc i (Dir pid)) is = absurd cc
    text_of_object (Proc i (FdDir pid)) is = absurd cc
    text_of_object (Proc i (Cwd pid)) is = absurd (other_link (Cwd pid) (λ e. absurd cc) is)
    text_of_object (Proc i (Root pid)) is = absurd (other_link (Root pid) (λ e. absurd cc) is)
    text_of_object (Proc i (Exe pid)) is = absurd (other_link (Exe pid) (λ e. absurd cc) is)
    text_of_object (Proc i (Fd pid fd)) is = absurd (other_link (Fd pid fd) (λ e. absurd cc) is)

  text_of_found : (text : List ℕ) (o : Option (Place ℕ)) → at_found (host_around_of s caller) None text_seen o ≡ Some text → read_at (link_text_at s caller) o ≡ Ok text
  text_of_found text None is = absurd cc
  text_of_found text (Some p) is = text_of_object p text p.host is

  text_of_target : (text : List ℕ) (a : Result PlaceTarget Errno) → text_of_answer (host_around_of s caller) a ≡ Some text → read_of (link_text_at s caller) a ≡ Ok text
  text_of_target text (Ok t) is = text_of_found text t.found is
  text_of_target text (Err e) is = absurd cc

  pub peeked_at : ArePeeks (peeked_of s caller) (host_around_of s caller)
  peeked_at = record { kind = λ path. refl; link_text = λ path text is. text_of_target text (answer_along s caller path) is }

-- ---- places in use

module _ {X : Type 0} (table : List Row) (s : State ℕ X) (caller : ℕ) (set : IsSettled (space_of table s)) (small : Each IsSmallProcess (living_of s)) where
  abbrev space : Namespace
  space = space_of table s

  abbrev mine : ProcAt → Lead ℕ
  mine = leads_of table s caller

  texts : (at : ProcAt) (text : List ℕ) → mine at ≡ lead.Text text → at ≡ SelfLink
  texts SelfLink text e = refl
  texts (Dir pid) text e = absurd cc
  texts (FdDir pid) text e = absurd cc
  texts (Cwd pid) text e = absurd (or_none _ (process pid s) text (λ p. jump_text _ p.cwd 0 [] text) e)
  texts (Root pid) text e = absurd (or_none _ (process pid s) text (λ p. jump_text _ (root_place table) 0 [] text) e)
  texts (Exe pid) text e = absurd (or_none _ (process pid s) text (λ p. jump_text _ p.exe p.exe_dir p.exe_name text) e)
  texts (Fd pid fd) text e = absurd (or_none _ (opened pid fd s) text (λ o. or_nameless _ o.place text (λ p. jump_text _ p o.dir o.name text)) e)

  pub laws : LawsOfProcesses space.finds mine
  laws = living_processes (living_of s) mine small texts

  pub host_laws : LawsOfProcesses space.finds (host_leads s caller)
  host_laws = living_processes (living_of s) (host_leads s caller) small (host_texts s caller)

  host_set : IsSettled (host_space s)
  host_set = plain_settled (host_space s) set.sound set.inodes refl

  module _ (p : Place ℕ) (dir : ℕ) (name : List ℕ) (tag : ℕ) (own : IsInUse space p dir name tag) where
    abbrev h : Text
    h = host_text space own.guest

    pub guest_is : guest_name space p (remembered dir name) ≡ Some own.guest
    guest_is = remembered_name space set mine laws p own.guest dir name own.stands own.directory own.entry

    -- its host name is the host text
    pub host_is : name_text (host_space s) (host_place p.host) dir name ≡ Some (text_of h)
    host_is =
        let on : StandsOn (host_space s) (host_place p.host) h = record { stands = plain_stands (host_space s) refl h p.host own.stands.stands.way; firm = own.stands.firm } in
        ap (option_map text_of) (remembered_name (host_space s) host_set (host_leads s caller) host_laws (host_place p.host) h dir name on own.directory
        (λ file. let at = own.entry file in record { up = at.up; text = plain_host h ∙ at.text; way = at.way }))

    pub read_back : names_of (text_of h) ≡ h
    read_back = names_written h (names_are_parts h (reached_names space.tree space.user space.finds mine h p.host set.sound laws own.stands.stands.way))

    pub tag_is : guest_of (texts_of table) tag h ≡ Some own.guest
    tag_is = ap (λ n. guest_of (texts_of table) n h) own.tagged ∙ ((standing_places_are_called space mine p own.guest set laws own.stands.stands).0).tagged own.mount own.there

pub places_in_use_are_told : (X : Type 0) → PlacesInUseAreTold X
places_in_use_are_told X table s p dir name tag set small own = record {
  to_guest = ap (option_map text_of) (guest_is table s 0 set small p dir name tag own);
  on_host = host_is table s 0 set small p dir name tag own;
  tagged = tag_is table s 0 set small p dir name tag own;
}

-- ---- what walks find

-- an object that is no directory is an inode, and so is the directory of its entry
entry_dir : (space : Namespace) (p : Place ℕ) (t host : Text) (dir : Host) (name : List ℕ) → StandsOn space p t → host ≡ host_text space t → is_directory_at space.tree p.host ≡ false → IsEntryAt space host dir name → dir ≡ Node (inode_of dir)
entry_dir space p t host dir name on is file at =
    let i = file_node space p.host on.firm file in
    let way : reached_in space (name ∷ at.up) ≡ Some (Node i.0) = ap (reached_in space) (sym at.text ∙ is) ∙ on.stands.way ∙ ap Some i.1 in
    let o = last_object space.tree space.user space.finds at.up name (Node i.0) way in
    let n = entry_in space.tree space.finds name o.dir i.0 o.there in
    let same : dir ≡ Node n.ino = some_is dir (Node n.ino) (sym at.way ∙ o.way ∙ ap Some n.is) in
    same ∙ ap (λ d. Node (inode_of d)) (sym same)

module _ (scene : Scene) (mode : WalkMode) (base : Place ℕ) (t : Text) (path : List ℕ) (a : PlaceTarget) (b : Target Text Text) (e : BothEnd scene mode base t path a b) (p : Place ℕ) (u : Text) (follows : is_followed mode false ≡ true) (ea : a.found ≡ Some p) (eb : b.found ≡ Some u) where
  abbrev here : Namespace
  here = scene.around.space

  on : StandsOn here p u
  on = let f = found_stands scene mode base t path a b e p u ea eb in record { stands = f.stands; firm = f.firm follows }

  -- what is no directory has the entry that an opening remembers
  abbrev entry_by : Option (ℕ × List ℕ) → ℕ × List ℕ
  entry_by o = option_map_or (λ e. e) o (inode_of a.dir.host, a.name)

  entry_kept : is_directory_at here.tree p.host ≡ false → (o : Option (ℕ × List ℕ)) → source here.table p.mount ≡ o → IsEntryAt here (host_text here u) (Node (entry_by o).0) (entry_by o).1
  entry_kept file None none =
      let at = entry_at scene mode base t path a b e p u ea eb file none in
      subst (λ d. IsEntryAt here (host_text here u) d a.name) (entry_dir here p u (host_text here u) a.dir.host a.name on refl file at) at
  entry_kept file (Some own) is = settled_at scene mode base t path a b e p u ea eb file own is

  abbrev kept : Bool → ℕ × List ℕ
  kept is_dir = if is_dir then (0, []) else entry_by (source here.table p.mount)

  pub in_use : IsInUse here p (kept (is_directory_at here.tree p.host)).0 (kept (is_directory_at here.tree p.host)).1 (index_of (texts_of here.table) u)
  in_use =
      let w = owned here e.matched.settled u in
      record {
        guest = u;
        stands = on;
        mount = w.mount;
        there = ap (row here.table) on.stands.mount ∙ w.there;
        tagged = w.index;
        directory = λ dir. ap (λ is_dir. (kept is_dir).1) dir;
        entry = λ file. subst (λ is_dir. IsEntryAt here (host_text here u) (Node (kept is_dir).0) (kept is_dir).1) (sym file) (entry_kept file (source here.table p.mount) refl);
      }

pub found_is_in_use : FoundIsInUse
found_is_in_use scene mode base t path a b p u e follows ea eb = in_use scene mode base t path a b e p u follows ea eb
