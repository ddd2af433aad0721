-- Guest texts that are found before a process lives: a place of the mounts stands at each.
use Rattle.std.proofs.Common.{◌≡◌, ◌≢◌, ℕ, Bool, true, false, List, [], ◌∷◌, ◌++◌, Option, Some, None, IsSome, Result, Ok, Err, refl, sym, ap, subst, ◌∙◌}
use Rattle.std.specs.Prelude.{if◌then◌else◌}
use Rattle.std.specs.List.{All}
use Rattle.std.specs.Option.{option_and_then, option_map_or, unwrap_or}
use Rattle.std.proofs.lemmas.List.Elements.{All-append, All-cons, All-head, All-nil, All-tail}
use Rattle.pr_words.specs.pr_base.Alike.{Alike, OptionAlike, TargetAlike, both, ends, errs, neither}
use Rattle.pr_words.specs.pr_base.Paths.{AreNames, Dot, IsName, below_root, dot, is_absolute, slash, text_of}
use Rattle.pr_words.specs.pr_base.Texts.{Text}
use Rattle.pr_words.specs.pr_base.WalkFrame.{Leads, Target, target_at}
use Rattle.pr_words.specs.pr_base.WalkLaws.{last_trail}
use Rattle.pr_words.specs.pr_base.declared.errno.Errno.{Errno}
use Rattle.pr_words.specs.pr_base.declared.errno.Errno.TheVariants.{ENOENT}
use Rattle.pr_words.specs.pr_base.declared.path.WalkMode.TheVariants.{Look, LookLink}
use Rattle.pr_words.specs.pr_base.declared.peeks.PeekKind.{PeekKind}
use Rattle.pr_words.specs.pr_base.declared.peeks.PeekKind.TheVariants as kind
use Rattle.pr_words.proofs.pr_base.EndLemmas.{jump_is_shown}
use Rattle.pr_words.proofs.pr_base.PathLemmas.{names_are_parts}
use Rattle.pr_words.proofs.pr_base.WalkLemmas.{walks_go_by_components}
use Rattle.kr_first.specs.pt_bind.Binding.{host_of, names_of}
use Rattle.kr_first.specs.pt_bind.Tags.{TagTable}
use Rattle.kr_first.proofs.pt_bind.ByteLemmas.{names_written}
use Rattle.pt_script.specs.pt_canon.Canon.{canon_at, canon_of, canon_result, ending_of}
use Rattle.pt_script.specs.pt_canon.TextWalk.{TextSurroundings, in_directory, itself_in, look_text, looking_texts, text_walk, where_found}
use Rattle.pt_script.specs.pt_canon.declared.canon.Canon.{Canon}
use Rattle.pt_script.specs.Programs.{canon_from}
use Rattle.kr_first.specs.kr_inode.declared.user.User.{User}
use Rattle.kr_first.specs.kr_tree.declared.place.Host.{Host}
use Rattle.kr_first.specs.kr_tree.declared.place.Host.TheVariants.{Node, Proc}
use Rattle.kr_first.specs.kr_tree.declared.place.Place.{Place}
use Rattle.kr_first.specs.kr_tree.Tree.{Body, Directory, ProcessDirectory, RegularFile, SymbolicLink, Tree, body, is_directory}
use Rattle.kr_first.proofs.kr_tree.EntryLemmas.{body_test}
use Rattle.kr_first.proofs.kr_tree.NameLemmas.{some_is}
use Rattle.kr_first.specs.kr_view.declared.procs.Lead.TheVariants.{NoLink}
use Rattle.kr_first.specs.kr_view.Component.{Namespace, Surroundings, is_directory_at, is_process_directory, seen_at, seen_body, seen_link, shows_directory}
use Rattle.kr_first.specs.kr_view.HostReach.{host_place}
use Rattle.kr_first.specs.kr_view.Processes.{LawsOfProcesses, no_finds, no_leads}
use Rattle.kr_first.specs.kr_view.ReachLaws.{IsReachedBy}
use Rattle.kr_first.specs.kr_view.View.{Row, plain, root_place}
use Rattle.kr_first.specs.kr_view.Walk.{PlaceTarget, place_walk}
use Rattle.kr_first.proofs.kr_view.ArrivalLemmas.{texts_are_found}
use Rattle.kr_first.proofs.kr_view.HostReachLemmas.{reached_names, reached_there}
use Rattle.kr_first.proofs.kr_view.ProcessLemmas.{no_processes}
use Rattle.kr_first.specs.law_allowed.Texts.{IsText}
use Rattle.kr_first.specs.kr_model.Peeks.{at_found, body_text, kind_of_answer, kind_seen, read_at, read_of}
use Rattle.kr_first.specs.Started.{LeadsToDirectory}
use Rattle.kr_first.specs.Starting.{around, directory_at, directory_found, if_directory}
use Rattle.kr_first.specs.law_walks.Peeks.{ArePeeks, text_of_answer, text_seen}
use Rattle.kr_first.specs.law_walks.Scene.{IsMatched, Scene, host_around}
use Rattle.kr_first.specs.law_walks.Settled.{IsSettled, host_text}
use Rattle.kr_first.specs.law_walks.Standing.{StandsOn, likeness}
use Rattle.kr_first.specs.law_walks.Start.{first_scene}
use Rattle.kr_first.proofs.law_walks.AgreeLemmas.{walks_agree}
use Rattle.kr_first.proofs.law_walks.StandingLemmas.{roots_stand, standing_places_are_called}
use Rattle.kr_first.proofs.law_walks.StartLemmas.{first_scenes_are_matched}
use Rattle.kr_first.proofs.law_walks.TableLemmas.{root_directory}
use Rattle.pt_first.specs.FirstPeeks.{answer_along, first_peeked, link_text_at}
use Rattle.pt_first.specs.Laws.{first_texts}

-- ---- texts

-- names have no zero bytes, and so has a text of them
below-text : (names : Text) → AreNames names → IsText (below_root names)
below-text [] all = All-nil (λ b. b ≢ 0)
below-text (name ∷ names) all =
    All-append (λ b. b ≢ 0) (below_root names) (slash ∷ name) (below-text names (All-tail IsName name names all))
    (All-cons (λ b. b ≢ 0) slash name (λ e. absurd cc) (All-head IsName name names all).no_zero)

pub names-text : (names : Text) → AreNames names → IsText (text_of names)
names-text [] all = All-cons (λ b. b ≢ 0) slash [] (λ e. absurd cc) (All-nil (λ b. b ≢ 0))
names-text (name ∷ names) all = below-text (name ∷ names) all

-- ---- peeks

module _ (tree : Tree) (user : User) where
  abbrev on_host : Surroundings
  on_host = around plain tree user

  module _ (p : Place ℕ) (text : List ℕ) where
    text-of-body : (o : Option Body) → text_seen (seen_body p o) ≡ Some text → body_text o ≡ Ok text
    text-of-body None is = absurd cc
    text-of-body (Some (Directory entries standing)) is = absurd cc
    text-of-body (Some (RegularFile bytes)) is = absurd cc
    text-of-body (Some (SymbolicLink own)) is = ap Ok (some_is own text is)
    text-of-body (Some (ProcessDirectory standing)) is = absurd cc

    no-text : (b : Bool) → text_seen (if b then shows_directory p else seen_link on_host.space p NoLink) ≡ Some text → ⊥
    no-text true is = cc
    no-text false is = cc

    text-of-object : (x : Host) → text_seen (seen_at on_host p x) ≡ Some text → link_text_at tree x ≡ Ok text
    text-of-object (Node i) is = text-of-body (body tree i) is
    text-of-object (Proc i at) is = absurd (no-text (is_process_directory at) is)

  text-of-found : (text : List ℕ) (o : Option (Place ℕ)) → at_found on_host None text_seen o ≡ Some text → read_at (link_text_at tree) o ≡ Ok text
  text-of-found text None is = absurd cc
  text-of-found text (Some p) is = text-of-object p text p.host is

  text-of-target : (text : List ℕ) (a : Result PlaceTarget Errno) → text_of_answer on_host a ≡ Some text → read_of (link_text_at tree) a ≡ Ok text
  text-of-target text (Ok t) is = text-of-found text t.found is
  text-of-target text (Err e) is = absurd cc

  first-peeks : ArePeeks (first_peeked tree user) on_host
  first-peeks = record { kind = λ path. refl; link_text = λ path text is. text-of-target text (answer_along tree user path) is }

  -- what is told to be a directory is one
  kind-of-body : (p : Place ℕ) (o : Option Body) → kind_seen (seen_body p o) ≡ Ok kind.Dir → option_map_or is_directory o false ≡ true
  kind-of-body p None is = absurd cc
  kind-of-body p (Some (Directory entries standing)) is = refl
  kind-of-body p (Some (RegularFile bytes)) is = absurd cc
  kind-of-body p (Some (SymbolicLink own)) is = absurd cc
  kind-of-body p (Some (ProcessDirectory standing)) is = refl

  kind-of-process : (p : Place ℕ) (b : Bool) → kind_seen (if b then shows_directory p else seen_link on_host.space p NoLink) ≡ Ok kind.Dir → b ≡ true
  kind-of-process p true is = refl
  kind-of-process p false is = absurd cc

  kind-of-object : (p : Place ℕ) (x : Host) → kind_seen (seen_at on_host p x) ≡ Ok kind.Dir → is_directory_at tree x ≡ true
  kind-of-object p (Node i) is = body_test is_directory tree i ∙ kind-of-body p (body tree i) is
  kind-of-object p (Proc i at) is = kind-of-process p (is_process_directory at) is

-- ---- a directory looked up in itself

module _ (texts : TextSurroundings) (t : Text) (d : Canon) where
  abbrev IsItself : Type 0
  IsItself = (texts.peeked.kind (text_of (host_of texts.bindings t)) ≡ Ok kind.Dir) × (d.guest ≡ text_of t)

  -- by the peeks at the directory, and at itself in it
  itself-told : (one two : Result PeekKind Errno) → canon_result texts.bindings Look (last_trail (looking_texts texts) Look 40 t Dot false (in_directory one (where_found two (Leads true t t)))).answer ≡ Ok d
      → (one ≡ Ok kind.Dir) × (d.guest ≡ text_of t)
  itself-told (Ok kind.Dir) (Ok k) is =
      let same : canon_at texts.bindings (ending_of Look (target_at t Dot false (Some t))) ≡ d = cc in
      (refl, sym (ap (λ (c : Canon). c.guest) same))
  itself-told (Ok kind.Dir) (Err e) is = absurd cc
  itself-told (Ok kind.File) two is = absurd cc
  itself-told (Ok kind.Link) two is = absurd cc
  itself-told (Ok kind.Jump) two is = absurd cc
  itself-told (Err e) two is = absurd cc

  itself-found : canon_of texts Look t dot ≡ Ok d → IsItself
  unfolding look_text
  itself-found is =
      itself-told (texts.peeked.kind (text_of (host_of texts.bindings t))) (texts.peeked.kind (itself_in (host_of texts.bindings t)))
      (sym (ap (λ trail. canon_result texts.bindings Look trail.answer) ((walks_go_by_components Text Text).one (looking_texts texts) Look 40 t Dot false)) ∙ is)

-- ---- texts that stand

module _ (table : List Row) (tree : Tree) (user : User) (tags : TagTable) where
  abbrev pub space : Namespace
  space = record { table = table; tree = tree; user = user; finds = no_finds }

  abbrev scene : Scene
  scene = first_scene table tree user (first_peeked tree user) tags

  abbrev pub texts : TextSurroundings
  texts = first_texts table tree user tags

  laws : LawsOfProcesses no_finds no_leads
  laws = no_processes.lawful

  -- bytes are those of a guest text at which a place stands
  pub record IsStanding (bytes : List ℕ) : Type 0 where
    pub text : Text
    pub place : Place ℕ
    pub stands : StandsOn space place text
    pub written : bytes ≡ text_of text

  -- so are those of an answer, and its host text is that text's
  pub record Comes (canon : Canon) : Type 0 where
    pub standing : IsStanding canon.guest
    pub host : canon.host ≡ text_of (host_text space standing.text)

  -- a directory stands there
  pub record IsWorking (bytes : List ℕ) : Type 0 where
    pub standing : IsStanding bytes
    pub directory : is_directory_at tree standing.place.host ≡ true

  module _ (set : IsSettled space) where
    matched : IsMatched scene
    matched = first_scenes_are_matched table tree user (first_peeked tree user) tags set (first-peeks tree user)

    pub read : (bytes : List ℕ) (s : IsStanding bytes) → names_of bytes ≡ s.text
    read bytes s = ap names_of s.written ∙ names_written s.text (names_are_parts s.text (standing_places_are_called space no_leads s.place s.text set laws s.stands.stands).1)

    pub root_stands : IsStanding (slash ∷ [])
    root_stands = record { text = []; place = root_place table; stands = roots_stand space set; written = refl }

    pub root_works : IsWorking (slash ∷ [])
    unfolding root_stands
    root_works = record { standing = root_stands; directory = root_directory space set }

    -- what the user reaches by its host text has well-formed names
    host_names : (bytes : List ℕ) (s : IsStanding bytes) → AreNames (host_text space s.text)
    host_names bytes s = reached_names tree user no_finds no_leads (host_text space s.text) s.place.host set.sound laws s.stands.stands.way

    pub host_is_text : (bytes : List ℕ) (s : IsStanding bytes) → IsText (text_of (host_text space s.text))
    host_is_text bytes s = names-text (host_text space s.text) (host_names bytes s)

    -- ---- where a walk that follows links ends

    module _ (base path : List ℕ) (canon : Canon) (s : IsStanding base) where
      abbrev answer : Result (Target Text Text) Errno
      answer = (text_walk texts Look (names_of base) path).answer

      abbrev IsSo : Text → Type 0
      IsSo t = (u : Text) × (p : Place ℕ) × StandsOn space p u × (t ≡ u)

      module _ (a : PlaceTarget) (b : Target Text Text) (is : answer ≡ Ok b) (h : TargetAlike (likeness space Look) a b) where
        not-found : b.found ≡ None → (j : Bool) → b.jumped ≡ j → IsSo b.dir
        not-found none false j = (b.dir, a.dir, h.dir (h.jumped ∙ j), refl)
        not-found none true j =
            let shown = jump_is_shown Text Text (looking_texts texts) Look (names_of base) path b is j in
            let some : b.found ≡ Some shown.3.found = ap (λ (t : Target Text Text). t.found) shown.5 in
            let clash : None ≡ Some shown.3.found = sym none ∙ some in
            absurd cc

        at-found : (f : Option (Place ℕ)) (g : Option Text) → b.found ≡ g → OptionAlike (likeness space Look).found f g → IsSo (unwrap_or g b.dir)
        at-found _ _ found (both {a = p} {b = u} q) = (u, p, record { stands = q.stands; firm = q.firm refl }, refl)
        at-found _ _ found neither = not-found found b.jumped refl

      ended : (x : Result PlaceTarget Errno) (y : Result (Target Text Text) Errno) → answer ≡ y → Alike (likeness space Look) x y → canon_result texts.bindings Look y ≡ Ok canon → Comes canon
      ended _ _ e (errs why) is = absurd cc
      ended _ _ e (ends {a} {b} h) is =
          let same : canon_at texts.bindings (ending_of Look b) ≡ canon = cc in
          let so = at-found a b e h a.found b.found refl h.found in
          subst Comes same (record {
            standing = record { text = so.0; place = so.1; stands = so.2; written = ap text_of so.3 };
            host = ap (λ t. text_of (host_of texts.bindings t)) so.3;
          })

      pub comes : canon_from texts path base ≡ Ok canon → Comes canon
      comes is =
          ended (place_walk scene.around Look s.place path).answer answer refl
          (walks_agree scene Look s.place (names_of base) path matched (subst (λ t. StandsOn space s.place t) (sym (read base s)) s.stands)) is

    -- ---- the working directory

    module _ (bytes : List ℕ) (s : IsStanding bytes) where
      abbrev reaching : Text
      reaching = host_text space s.text

      reached : IsReachedBy (on_host tree user) reaching s.place.host
      reached = record {
        over_plain = refl;
        names = host_names bytes s;
        way = s.stands.stands.way;
        there = reached_there tree user no_finds reaching s.place.host set.sound set.inodes s.stands.stands.way;
      }

      -- a directory is told there, so one stands there
      told-directory : (first_peeked tree user).kind (text_of reaching) ≡ Ok kind.Dir → is_directory_at tree s.place.host ≡ true
      told-directory is =
          let found = texts_are_found.found (on_host tree user) LookLink (root_place plain) reaching s.place.host false reached (λ e. s.stands.firm) (λ e. absurd cc) in
          kind-of-object tree user (host_place s.place.host) s.place.host
          (sym (ap (kind_of_answer (on_host tree user)) found.1 ∙ ap (at_found (on_host tree user) (Err ENOENT) kind_seen) found.2) ∙ is)

      -- the plain kernel comes to it
      pub leads : is_directory_at tree s.place.host ≡ true → LeadsToDirectory plain tree user (text_of reaching)
      leads directory =
          let found = texts_are_found.found (on_host tree user) Look (root_place plain) reaching s.place.host false reached (λ e. s.stands.firm) (λ e. absurd cc) in
          let at : directory_at plain tree user (text_of reaching) ≡ Some (host_place s.place.host) =
          ap (directory_found tree) found.1 ∙ ap (option_and_then (if_directory tree)) found.2 ∙ ap (λ b. if b then Some (host_place s.place.host) else None) directory in
          subst IsSome (sym at) refl

    pub works : (path : List ℕ) (c d : Canon) → canon_from texts path (slash ∷ []) ≡ Ok c → canon_from texts dot c.guest ≡ Ok d → IsWorking d.guest
    works path c d one two =
        let come = comes (slash ∷ []) path c root_stands one in
        let s = come.standing in
        let itself = itself-found texts (names_of c.guest) d two in
        let told = sym (ap (λ t. (first_peeked tree user).kind (text_of (host_of texts.bindings t))) (read c.guest s)) ∙ itself.0 in
        record {
          standing = record { text = s.text; place = s.place; stands = s.stands; written = itself.1 ∙ ap text_of (read c.guest s) };
          directory = told-directory c.guest s told;
        }

    pub working_leads : (bytes : List ℕ) → IsWorking bytes → LeadsToDirectory plain tree user (text_of (host_of texts.bindings (names_of bytes)))
    working_leads bytes w = subst (λ t. LeadsToDirectory plain tree user (text_of (host_of texts.bindings t))) (sym (read bytes w.standing)) (leads bytes w.standing w.directory)
