-- Walks of the host's own view along texts that are reached.
use Rattle.std.proofs.Common.{◌≡◌, ◌||◌, ℕ, Bool, true, false, not, inl, inr, List, [], ◌∷◌, ◌++◌, map, reverse, Option, Some, None, Result, Ok, Err, refl, sym, ap, ◌∙◌, arith, append_assoc, append-nil}
use Rattle.std.specs.Bool.{if◌then◌else◌}
use Rattle.std.specs.Option.{option_map, option_map_or}
use Rattle.std.proofs.lemmas.Bool.{false_from_ne_true}
use Rattle.std.proofs.lemmas.Bool.Decides.{nat_tests}
use Rattle.std.proofs.lemmas.List.Elements.{All-head, All-tail}
use Rattle.kr_tree.specs.pr_base.Paths.{Component, Dot, Name, slash, dot, has_parts, has_slash, parts_of, component_of, components_of, is_absolute, below_root, text_of, name_path, IsPart, IsName, AreNames}
use Rattle.kr_tree.specs.pr_base.WalkFrame.{Fails, Missing, Leads, Links, Jumps, Onward, here, begins_at, most_links, walk_on, onward, in_middle, at_last, is_followed, wants_directory, target_at, ends, fails, ends_found, ends_missing, ends_landed, jumps_on}
use Rattle.kr_tree.specs.pr_base.declared.errno.Errno.{Errno}
use Rattle.kr_tree.specs.pr_base.declared.errno.Errno.TheVariants.{EACCES, ENAMETOOLONG, ENOTDIR}
use Rattle.kr_tree.specs.pr_base.declared.path.WalkMode.{WalkMode}
use Rattle.kr_tree.specs.pr_base.declared.path.WalkMode.TheVariants as modes
use Rattle.kr_tree.proofs.pr_base.PathLemmas.{name_is_part, names_are_parts, part_component, components_seam, names_onto, below_root_components, below_root_absolute, slash_behind}
use Rattle.kr_tree.proofs.pr_base.WalkLemmas.{walk-none, walk-last, walk-middle}
use Rattle.kr_tree.specs.pr_base.Texts.{Text}
use Rattle.kr_tree.specs.declared.place.Host.{Host}
use Rattle.kr_tree.specs.declared.place.Host.TheVariants.{Node, Proc}
use Rattle.kr_tree.specs.declared.place.Place.{Place}
use Rattle.kr_tree.specs.declared.place.ProcAt.{ProcAt}
use Rattle.kr_tree.specs.Tree.{Tree, Inode, inode, Body, Directory, RegularFile, SymbolicLink, ProcessDirectory, root, body, body_is, entry, is_directory}
use Rattle.kr_tree.proofs.NameLemmas.{some_is}
use Rattle.kr_tree.proofs.EntryLemmas.{body_test}
use Rattle.kr_view.specs.declared.procs.Lead.{Lead}
use Rattle.kr_view.specs.declared.procs.Lead.TheVariants.{Text as TextLead, Jump, Nameless, NoLink}
use Rattle.kr_view.specs.View.{Row, node_in, is_there, root_place, plain, down}
use Rattle.kr_view.specs.Component.{Surroundings, SeenPlace, look_up, inside, named_in, through_point, too_long, seen_at, seen_in_processes, seen_entry, seen_body, seen_link, is_processes, is_process_directory, is_directory_at, may_search, shows_directory}
use Rattle.kr_view.specs.Laws.{is_link}
use Rattle.kr_view.specs.Walk.{PlaceTarget, looking, place_walk}
use Rattle.kr_view.specs.InTree.{IsObjectOf}
use Rattle.kr_view.specs.HostReach.{is_link_at, host_place, object_in}
use Rattle.kr_view.specs.ReachLaws.{reaches_in, IsReachedBy, slashed, IsJoined, IsNamePath, IsUnfollowed, IsLookedUp, name_target, ends_with, EndsAtName, WalksGoOnBehindTexts, DirectoriesAreSearched, EntriesAreFound, TextsAreFound}
use Rattle.kr_view.proofs.HostReachLemmas.{last_object, below_processes}
use Rattle.kr_view.proofs.SlashedLemmas.{slashed_parts, slashed_has, slashed_relative}

-- ---- what stands at an object

-- an object that may be missing, seen in the host's own view
abbrev pub seen_object : Surroundings → Option Host → SeenPlace
seen_object around (Some x) = seen_at around (host_place x) x
seen_object around None = Missing

-- what is there and no link is led to
pub led_to : (around : Surroundings) (p : Place ℕ) (x : Host) → IsObjectOf around.space.tree x → is_link_at around.space.tree x ≡ false → seen_at around p x ≡ Leads (is_directory_at around.space.tree x) p p
led_to around p (Node i) there firm =
    by (body around.space.tree i) (bodied (inode around.space.tree i) there) (sym (body_test is_link around.space.tree i) ∙ firm) ∙ ap (λ b. Leads b p p) (sym (body_test is_directory around.space.tree i))
  where
    bodied : (o : Option Inode) → is_there o ≡ true → is_there (option_map (λ (x : Inode). x.node.body) o) ≡ true
    bodied None there = there
    bodied (Some x) there = refl

    by : (o : Option Body) → is_there o ≡ true → option_map_or is_link o false ≡ false → seen_body p o ≡ Leads (option_map_or is_directory o false) p p
    by None there firm = absurd cc
    by (Some (Directory es st)) there firm = refl
    by (Some (RegularFile bytes)) there firm = refl
    by (Some (SymbolicLink text)) there firm = absurd cc
    by (Some (ProcessDirectory st)) there firm = refl
led_to around p (Proc i at) there firm = by (is_process_directory at) (around.leads at) firm
  where
    by : (b : Bool) (l : Lead ℕ) → not b ≡ false → (if b then shows_directory p else seen_link around.space p l) ≡ Leads b p p
    by true l firm = refl
    by false l firm = absurd cc

-- a directory that is reached is there, and it is no link
pub directory_there : (around : Surroundings) (text : Text) (x : Host) → reaches_in around text ≡ Some x → is_directory_at around.space.tree x ≡ true → IsObjectOf around.space.tree x
directory_there around text (Node i) way dir = by (inode around.space.tree i) dir
  where
    by : (o : Option Inode) → option_map_or (λ (x : Inode). is_directory x.node.body) o false ≡ true → is_there o ≡ true
    by None dir = absurd cc
    by (Some x) dir = refl
directory_there around text (Proc i at) way dir = (below_processes around.space.tree around.space.user around.space.finds text i at way).processes

pub directory_firm : (t : Tree) (x : Host) → is_directory_at t x ≡ true → is_link_at t x ≡ false
directory_firm t (Node i) dir = body_test is_link t i ∙ by (body t i) (sym (body_test is_directory t i) ∙ dir)
  where
    by : (o : Option Body) → option_map_or is_directory o false ≡ true → option_map_or is_link o false ≡ false
    by None dir = absurd cc
    by (Some (Directory es st)) dir = refl
    by (Some (RegularFile bytes)) dir = absurd cc
    by (Some (SymbolicLink text)) dir = absurd cc
    by (Some (ProcessDirectory st)) dir = refl
directory_firm t (Proc i at) dir = ap not dir

-- a link is seen as one, where it stands
unfoldable pub ShowsLink : Place ℕ → SeenPlace → Type 0
ShowsLink p (Fails e) = ⊥
ShowsLink p Missing = ⊥
ShowsLink p (Leads is_dir q found) = ⊥
ShowsLink p (Links found text) = found ≡ p
ShowsLink p (Jumps found lead) = found ≡ p

pub link_seen : (around : Surroundings) (p : Place ℕ) (x : Host) → is_link_at around.space.tree x ≡ true → ShowsLink p (seen_at around p x)
unfolding ShowsLink
link_seen around p (Node i) link = by (body around.space.tree i) (sym (body_test is_link around.space.tree i) ∙ link)
  where
    by : (o : Option Body) → option_map_or is_link o false ≡ true → ShowsLink p (seen_body p o)
    by None link = absurd cc
    by (Some (Directory es st)) link = absurd cc
    by (Some (RegularFile bytes)) link = absurd cc
    by (Some (SymbolicLink text)) link = refl
    by (Some (ProcessDirectory st)) link = absurd cc
link_seen around p (Proc i at) link = by (is_process_directory at) (around.leads at) link
  where
    by : (b : Bool) (l : Lead ℕ) → not b ≡ true → ShowsLink p (if b then shows_directory p else seen_link around.space p l)
    by true l link = absurd cc
    by false (TextLead text) link = refl
    by false (Jump place dir name) link = refl
    by false Nameless link = refl
    by false NoLink link = refl

-- without a slash no directory is asked for
pub unasked : (mode : WalkMode) → wants_directory mode false ≡ false
unasked modes.Look = refl
unasked modes.LookLink = refl
unasked modes.Name = refl
unasked modes.Open = refl

-- nor where a link isn't followed
unwanted : (mode : WalkMode) (sl : Bool) → is_followed mode sl ≡ false → wants_directory mode sl ≡ false
unwanted modes.Look sl h = absurd cc
unwanted modes.LookLink sl h = h
unwanted modes.Name sl h = refl
unwanted modes.Open sl h = absurd cc

module _ (around : Surroundings) (mode : WalkMode) (left : ℕ) (again : Onward (Place ℕ) (Place ℕ)) (s : Place ℕ) (c : Component) (sl : Bool) where
  abbrev behind : SeenPlace → Result PlaceTarget Errno
  behind seen = (at_last (looking around) mode left again s c sl seen).answer

  -- a last link that isn't followed is found
  last_link : (p : Place ℕ) (seen : SeenPlace) → ShowsLink p seen → is_followed mode sl ≡ false → behind seen ≡ Ok (target_at s c sl (Some p))
  unfolding ShowsLink
  last_link p (Fails e) at stays = absurd at
  last_link p Missing at stays = absurd at
  last_link p (Leads is_dir q found) at stays = absurd at
  last_link p (Links found text) at stays =
      ap (λ b. (if b then again (begins_at (looking around) s text) (components_of text) (sl || has_slash text) else ends (target_at s c sl (Some found))).answer) stays ∙ ap (λ f. Ok (target_at s c sl (Some f))) at
  last_link p (Jumps found lead) at stays =
      ap (λ b. (if b then jumps_on left (ends_landed mode sl) lead else ends (target_at s c sl (Some found))).answer) stays ∙ ap (λ f. Ok (target_at s c sl (Some f))) at

  -- what is there is found as the last component
  pub last_object_found : (p : Place ℕ) (x : Host) → IsObjectOf around.space.tree x → (is_followed mode sl ≡ true → is_link_at around.space.tree x ≡ false)
      → behind (seen_at around p x) ≡ (ends_found mode (is_directory_at around.space.tree x) (target_at s c sl (Some p))).answer
  last_object_found p x there firm = by (is_link_at around.space.tree x) refl
    where
      by : (b : Bool) → is_link_at around.space.tree x ≡ b → behind (seen_at around p x) ≡ (ends_found mode (is_directory_at around.space.tree x) (target_at s c sl (Some p))).answer
      by false is = ap behind (led_to around p x there is)
      by true is =
          let stays : is_followed mode sl ≡ false = false_from_ne_true _ (λ f. let clash : true ≡ false = sym is ∙ firm f in absurd cc) in
          let t = target_at s c sl (Some p) in
          last_link p (seen_at around p x) (link_seen around p x is) stays
          ∙ sym (ap (λ b. (if b then (if is_directory_at around.space.tree x then ends t else fails ENOTDIR) else ends t).answer) (unwanted mode sl stays))

-- ---- along a text

module _ (around : Surroundings) (is_plain : around.space.table ≡ plain) where
  -- a name in a directory that may be searched
  pub look_name : (dir : Host) (name : List ℕ) → is_directory_at around.space.tree dir ≡ true → may_search around.space.tree around.space.user dir ≡ true
      → look_up around (host_place dir) (Name name) ≡ (if too_long name then Fails ENAMETOOLONG else seen_object around (object_in around.space.tree around.space.finds name dir))
  look_name dir name is_dir search =
      ap (λ b. if b then (if may_search around.space.tree around.space.user dir then inside around (host_place dir) (Name name) else Fails EACCES) else Fails ENOTDIR) is_dir
      ∙ ap (λ b. if b then inside around (host_place dir) (Name name) else Fails EACCES) search
      ∙ ap (λ seen. if too_long name then Fails ENAMETOOLONG else seen) (object_named dir)
    where
      object_seen : (i : ℕ) (b : Bool) (o : Option ProcAt) (e : Option ℕ) → (if b then seen_in_processes around 0 i o else seen_entry around 0 e) ≡ seen_object around (if b then option_map (λ at. Proc i at) o else option_map (λ j. Node j) e)
      object_seen i true None e = refl
      object_seen i true (Some at) e = refl
      object_seen i false o None = refl
      object_seen i false o (Some j) = refl

      process_seen : (i : ℕ) (o : Option ProcAt) → seen_in_processes around 0 i o ≡ seen_object around (option_map (λ found. Proc i found) o)
      process_seen i None = refl
      process_seen i (Some found) = refl

      object_named : (dir : Host) → named_in around 0 dir name ≡ seen_object around (object_in around.space.tree around.space.finds name dir)
      object_named (Node i) =
          ap (λ (table : List Row). through_point around 0 i name (down table 0 i name)) is_plain
          ∙ object_seen i (body_is is_processes around.space.tree i) (around.space.finds None name) (entry around.space.tree i name)
      object_named (Proc i at) = process_seen i (around.space.finds (Some at) name)

  pub look_object : (dir x : Host) (name : List ℕ) → is_directory_at around.space.tree dir ≡ true → may_search around.space.tree around.space.user dir ≡ true → too_long name ≡ false → object_in around.space.tree around.space.finds name dir ≡ Some x
      → look_up around (host_place dir) (Name name) ≡ seen_at around (host_place x) x
  look_object dir x name is_dir search short there =
      look_name dir name is_dir search ∙ ap (λ b. if b then Fails ENAMETOOLONG else seen_object around (object_in around.space.tree around.space.finds name dir)) short ∙ ap (seen_object around) there

  pub look_closed : (dir : Host) (name : List ℕ) → is_directory_at around.space.tree dir ≡ true → may_search around.space.tree around.space.user dir ≡ false → look_up around (host_place dir) (Name name) ≡ Fails EACCES
  look_closed dir name is_dir search =
      ap (λ b. if b then (if may_search around.space.tree around.space.user dir then inside around (host_place dir) (Name name) else Fails EACCES) else Fails ENOTDIR) is_dir
      ∙ ap (λ b. if b then inside around (host_place dir) (Name name) else Fails EACCES) search

  name_short : (name : List ℕ) → IsName name → too_long name ≡ false
  name_short name is = let most = is.short in grind (arith, nat_tests)

  -- along a text that is reached a walk comes to what it reaches, and goes on from there
  pub arrives : (mode : WalkMode) (left : ℕ) (text : Text) (x : Host) (c : Component) (cs : List Component) (sl : Bool) → AreNames text → reaches_in around text ≡ Some x → IsObjectOf around.space.tree x → is_link_at around.space.tree x ≡ false
      → (walk_on (looking around) mode left (node_in 0 root) (map Name (reverse text) ++ c ∷ cs) sl).answer ≡ (walk_on (looking around) mode left (host_place x) (c ∷ cs) sl).answer
  arrives mode left [] x c cs sl are way there firm = let same : Node root ≡ x = some_is (Node root) x way in ap (λ x. (walk_on (looking around) mode left (host_place x) (c ∷ cs) sl).answer) same
  arrives mode left (name ∷ text) x c cs sl are way there firm =
      let s = last_object around.space.tree around.space.user around.space.finds text name x way in
      ap (λ cs. (walk_on (looking around) mode left (node_in 0 root) cs sl).answer) (names_onto text name (c ∷ cs))
      ∙ arrives mode left text s.dir (Name name) (c ∷ cs) sl (All-tail IsName name text are) s.way (directory_there around text s.dir s.way s.is_dir) (directory_firm around.space.tree s.dir s.is_dir)
      ∙ ap (λ t. t.answer) (walk-middle (looking around) mode left (host_place s.dir) (Name name) c cs sl)
      ∙ ap (λ seen. (in_middle (looking around) left (onward (looking around) mode left) (host_place s.dir) (c ∷ cs) sl (λ q. walk_on (looking around) mode left q (c ∷ cs) sl) seen).answer)
      (look_object s.dir x name s.is_dir s.search (name_short name (All-head IsName name text are)) s.there ∙ led_to around (host_place x) x there firm)

  -- ---- along the bytes of a text

  -- the walk along a path from the root
  pub root_walk : (mode : WalkMode) (base : Place ℕ) (path : List ℕ) → is_absolute path ≡ true → place_walk around mode base path ≡ walk_on (looking around) mode most_links (node_in 0 root) (components_of path) (has_slash path)
  root_walk mode base path is =
      ap (λ s. walk_on (looking around) mode most_links s (components_of path) (has_slash path)) (ap (λ b. if b then root_place around.space.table else base) is ∙ ap root_place is_plain)

  -- what stands before the slash in a path of a text and more
  record Front (text : Text) (more path : List ℕ) : Type 0 where
    front : List ℕ
    joined : path ≡ front ++ slash ∷ more
    absolute : is_absolute (front ++ slash ∷ more) ≡ true
    components : components_of front ≡ map Name (reverse text)

  front_of : (text : Text) (more path : List ℕ) → AreNames text → IsJoined text more path → Front text more path
  front_of text more path are (inr e) = record { front = below_root text; joined = e; absolute = below_root_absolute text more; components = below_root_components text (names_are_parts text are) }
  front_of [] more path are (inl e) = record { front = slash ∷ []; joined = e; absolute = refl; components = refl }
  front_of (name ∷ text) more path are (inl e) = record { front = below_root (name ∷ text); joined = e; absolute = below_root_absolute (name ∷ text) more; components = below_root_components (name ∷ text) (names_are_parts (name ∷ text) are) }

  goes_on : (mode : WalkMode) (base : Place ℕ) (text : Text) (x : Host) (more path : List ℕ) → AreNames text → reaches_in around text ≡ Some x → IsObjectOf around.space.tree x → is_link_at around.space.tree x ≡ false
      → is_absolute more ≡ false → has_parts (parts_of more) ≡ true → IsJoined text more path → (place_walk around mode base path).answer ≡ (place_walk around mode (host_place x) more).answer
  goes_on mode base text x more path are way there firm relative some joined =
      let f = front_of text more path are joined in
      let all = f.front ++ slash ∷ more in
      ap (λ path. (place_walk around mode base path).answer) f.joined
      ∙ ap (λ t. t.answer) (root_walk mode base all f.absolute)
      ∙ ap (λ cs. (walk_on (looking around) mode most_links (node_in 0 root) cs (has_slash all)).answer) (components_seam f.front more ∙ ap (λ cs. cs ++ components_of more) f.components)
      ∙ ap (λ sl. (walk_on (looking around) mode most_links (node_in 0 root) (map Name (reverse text) ++ components_of more) sl).answer) (slash_behind f.front more some)
      ∙ by (parts_of more) some
      ∙ ap (λ b. (walk_on (looking around) mode most_links (if b then root_place around.space.table else host_place x) (components_of more) (has_slash more)).answer) (sym relative)
    where
      by : (parts : List (List ℕ)) → has_parts parts ≡ true
          → (walk_on (looking around) mode most_links (node_in 0 root) (map Name (reverse text) ++ map component_of parts) (has_slash more)).answer ≡ (walk_on (looking around) mode most_links (host_place x) (map component_of parts) (has_slash more)).answer
      by [] some = absurd cc
      by (part ∷ parts) some = arrives mode most_links text x (component_of part) (map component_of parts) (has_slash more) are way there firm

pub walks_go_on_behind_texts : WalksGoOnBehindTexts
walks_go_on_behind_texts around mode base text x more path r firm relative some joined = goes_on around r.over_plain mode base text x more path r.names r.way r.there firm relative some joined

-- ---- at a directory itself

pub directories_are_searched : DirectoriesAreSearched
directories_are_searched around mode base text x path r firm joined =
    walks_go_on_behind_texts around mode base text x dot path r firm refl refl joined
    ∙ ap (λ t. t.answer) (walk-last (looking around) mode most_links (host_place x) Dot false)
    ∙ by (is_directory_at around.space.tree x) (may_search around.space.tree around.space.user x)
  where
    by : (dir open_ : Bool) → (at_last (looking around) mode most_links (onward (looking around) mode most_links) (host_place x) Dot false (if dir then (if open_ then shows_directory (host_place x) else Fails EACCES) else Fails ENOTDIR)).answer
        ≡ (if dir then (if open_ then Ok (target_at (host_place x) Dot false (Some (host_place x))) else Err EACCES) else Err ENOTDIR)
    by true true = ap (λ b. (if b then ends (target_at (host_place x) Dot false (Some (host_place x))) else ends (target_at (host_place x) Dot false (Some (host_place x)))).answer) (unasked mode)
    by true false = refl
    by false b = refl

-- ---- at a name

name_joined : (text : Text) (name : List ℕ) (sl : Bool) (path : List ℕ) → IsNamePath text name sl path → IsJoined text (slashed sl name) path
name_joined text name sl path (inr e) = inl e
name_joined text name sl path (inl e) = inr (e ∙ ap (λ more. below_root text ++ slash ∷ more) (by sl))
  where
    by : (sl : Bool) → name ++ (if sl then slash ∷ [] else []) ≡ slashed sl name
    by true = refl
    by false = append-nil name

module _ (around : Surroundings) (text : Text) (dir : Host) (name : List ℕ) (sl : Bool) (path : List ℕ)
    (r : IsReachedBy around text dir) (is_dir : is_directory_at around.space.tree dir ≡ true) (part : IsPart name) (written : IsNamePath text name sl path) where
  module _ (mode : WalkMode) (base : Place ℕ) where
    abbrev at_name : SeenPlace → Result PlaceTarget Errno
    at_name seen = (at_last (looking around) mode most_links (onward (looking around) mode most_links) (host_place dir) (Name name) sl seen).answer

    -- the walk ends as what is seen at the name says
    name_walk : (place_walk around mode base path).answer ≡ at_name (look_up around (host_place dir) (Name name))
    name_walk =
        let more = slashed sl name in
        let relative = slashed_relative sl name part in
        let alone = slashed_parts sl name part in
        walks_go_on_behind_texts around mode base text dir more path r (directory_firm around.space.tree dir is_dir) relative (ap has_parts alone) (name_joined text name sl path written)
        ∙ ap (λ b. (walk_on (looking around) mode most_links (if b then root_place around.space.table else host_place dir) (components_of more) (has_slash more)).answer) relative
        ∙ ap (λ ps. (walk_on (looking around) mode most_links (host_place dir) (map component_of ps) (has_slash more)).answer) alone
        ∙ ap (λ c. (walk_on (looking around) mode most_links (host_place dir) (c ∷ []) (has_slash more)).answer) (part_component name part)
        ∙ ap (λ b. (walk_on (looking around) mode most_links (host_place dir) (Name name ∷ []) b).answer) (slashed_has sl name part)
        ∙ ap (λ t. t.answer) (walk-last (looking around) mode most_links (host_place dir) (Name name) sl)

    found_at_name : (x : Host) → IsLookedUp around dir name → object_in around.space.tree around.space.finds name dir ≡ Some x → IsObjectOf around.space.tree x → IsUnfollowed around mode sl x → (place_walk around mode base path).answer ≡ ends_with around mode dir name sl x
    found_at_name x up is there unfollowed =
        name_walk ∙ ap at_name (look_object around r.over_plain dir x name is_dir up.search up.short is)
        ∙ last_object_found around mode most_links (onward (looking around) mode most_links) (host_place dir) (Name name) sl (host_place x) x there unfollowed

    free_at_name : IsLookedUp around dir name → object_in around.space.tree around.space.finds name dir ≡ None → (place_walk around mode base path).answer ≡ (ends_missing mode (host_place dir) (Name name) sl).answer
    free_at_name up free =
        name_walk ∙ ap at_name (look_name around r.over_plain dir name is_dir up.search ∙ ap (λ b. if b then Fails ENAMETOOLONG else seen_object around (object_in around.space.tree around.space.finds name dir)) up.short ∙ ap (seen_object around) free)

    long_at_name : may_search around.space.tree around.space.user dir ≡ true → too_long name ≡ true → (place_walk around mode base path).answer ≡ Err ENAMETOOLONG
    long_at_name search long =
        name_walk ∙ ap at_name (look_name around r.over_plain dir name is_dir search ∙ ap (λ b. if b then Fails ENAMETOOLONG else seen_object around (object_in around.space.tree around.space.finds name dir)) long)

    closed_at_name : may_search around.space.tree around.space.user dir ≡ false → (place_walk around mode base path).answer ≡ Err EACCES
    closed_at_name search = name_walk ∙ ap at_name (look_closed around r.over_plain dir name is_dir search)

  -- in mode Name the target is that name of the directory, with what stands there
  entry_at_name : (base : Place ℕ) → IsLookedUp around dir name → ((x : Host) → object_in around.space.tree around.space.finds name dir ≡ Some x → IsObjectOf around.space.tree x) → (place_walk around modes.Name base path).answer ≡ Ok (name_target dir name sl (object_in around.space.tree around.space.finds name dir))
  entry_at_name base up there = by (object_in around.space.tree around.space.finds name dir) refl
    where
      by : (o : Option Host) → object_in around.space.tree around.space.finds name dir ≡ o → (place_walk around modes.Name base path).answer ≡ Ok (name_target dir name sl o)
      by None is = free_at_name modes.Name base up is
      by (Some x) is = found_at_name modes.Name base x up is (there x is) (λ f. absurd cc)

  pub ends_at_name : EndsAtName around dir name sl path
  ends_at_name = record { found = found_at_name; free = free_at_name; long = long_at_name; closed = closed_at_name; entry = entry_at_name }

pub entries_are_found : EntriesAreFound
entries_are_found = ends_at_name

-- ---- at the end of a text

pub target_found : (around : Surroundings) (mode : WalkMode) (base : Place ℕ) (name : List ℕ) (text : Text) (x : Host) (sl : Bool) → IsReachedBy around (name ∷ text) x → IsUnfollowed around mode sl x
    → (dir : Host) × (reaches_in around text ≡ Some dir) × ((place_walk around mode base (slashed sl (text_of (name ∷ text)))).answer ≡ ends_with around mode dir name sl x)
target_found around mode base name text x sl r unfollowed =
    let s = last_object around.space.tree around.space.user around.space.finds text name x r.way in
    let is = All-head IsName name text r.names in
    let above : IsReachedBy around text s.dir = record { over_plain = r.over_plain; names = All-tail IsName name text r.names; way = s.way; there = directory_there around text s.dir s.way s.is_dir } in (
      s.dir,
      s.way,
      (ends_at_name around text s.dir name sl (slashed sl (text_of (name ∷ text))) above s.is_dir (name_is_part name is) (inl (written sl))).found mode base x (record { search = s.search; short = name_short around r.over_plain name is }) s.there r.there unfollowed,
    )
  where
    written : (sl : Bool) → slashed sl (below_root text ++ slash ∷ name) ≡ name_path text name sl
    written true = append_assoc (below_root text) (slash ∷ name) (slash ∷ [])
    written false = ap (λ name. below_root text ++ slash ∷ name) (sym (append-nil name))

pub text_found : (around : Surroundings) (mode : WalkMode) (base : Place ℕ) (text : Text) (x : Host) (sl : Bool) → IsReachedBy around text x → IsUnfollowed around mode sl x → (wants_directory mode sl ≡ true → is_directory_at around.space.tree x ≡ true)
    → (t : PlaceTarget) × ((place_walk around mode base (slashed sl (text_of text))).answer ≡ Ok t) × (t.found ≡ Some (host_place x))
text_found around mode base [] x sl r unfollowed wanted =
    let same : Node root ≡ x = some_is (Node root) x r.way in
    (here (looking around) (root_place around.space.table) false, by sl, ap (λ table. Some (root_place table)) r.over_plain ∙ ap (λ x. Some (host_place x)) same)
  where
    by : (sl : Bool) → (place_walk around mode base (slashed sl (slash ∷ []))).answer ≡ Ok (here (looking around) (root_place around.space.table) false)
    by true = ap (λ t. t.answer) (walk-none (looking around) mode most_links (root_place around.space.table) false)
    by false = ap (λ t. t.answer) (walk-none (looking around) mode most_links (root_place around.space.table) false)
text_found around mode base (name ∷ text) x sl r unfollowed wanted =
    let f = target_found around mode base name text x sl r unfollowed in
    let t = name_target f.0 name sl (Some x) in
    (t, f.2 ∙ unrefused (wants_directory mode sl) (is_directory_at around.space.tree x) t wanted, refl)
  where
    unrefused : (wants is_dir : Bool) (t : PlaceTarget) → (wants ≡ true → is_dir ≡ true) → (if wants then (if is_dir then ends t else fails ENOTDIR) else ends t).answer ≡ Ok t
    unrefused false is_dir t h = refl
    unrefused true is_dir t h = ap (λ b. (if b then ends t else fails ENOTDIR).answer) (h refl)

pub texts_are_found : TextsAreFound
texts_are_found = record { found = text_found; target = target_found }
