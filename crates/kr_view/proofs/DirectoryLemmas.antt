-- Where a walk ends is a directory.
use Rattle.std.proofs.Common.{◌≡◌, ◌≢◌, ℕ, Bool, true, false, not, List, [], ◌∷◌, map, Option, Some, None, refl, sym, ap, subst, ◌∙◌, arith}
use Rattle.std.proofs.lemmas.Bool.Decides.{nat_tests}
use Rattle.std.specs.Bool.{if◌then◌else◌}
use Rattle.std.specs.Option.{option_map, option_map_or}
use Rattle.kr_tree.specs.pr_base.Paths.{Component, is_slash, is_absolute, parts_of, component_of, components_of, has_slash, has_parts, ends_in_slash, Dot, DotDot, Name, kind_of}
use Rattle.kr_tree.specs.pr_base.WalkFrame.{Fails, Looking, begins_at, ends_here, most_links, walk_on}
use Rattle.kr_tree.specs.pr_base.declared.errno.Errno.TheVariants.{EACCES, ENOTDIR}
use Rattle.kr_tree.specs.pr_base.declared.path.Last.TheVariants as last
use Rattle.kr_tree.specs.pr_base.declared.path.WalkMode.{WalkMode}
use Rattle.kr_tree.specs.declared.place.Place.{Place}
use Rattle.kr_tree.specs.Tree.{Tree, Inode, inode, body, body_is, is_directory}
use Rattle.kr_view.specs.View.{root_source, root_place, StandsIn}
use Rattle.kr_view.specs.Component.{Surroundings, SeenPlace, look_up, inside, is_directory_at, may_search}
use Rattle.kr_view.specs.Walk.{PlaceTrail, PlaceTarget, looking, place_walk}
use Rattle.kr_tree.specs.pr_base.WalkLaws.{Shows}
use Rattle.kr_tree.proofs.pr_base.EndLemmas.{EndsSo, walk_ends}
use Rattle.kr_tree.proofs.pr_base.WalkLemmas.{walk-none}
use Rattle.kr_view.proofs.JumpedLemmas.{jumped_own}
use Rattle.kr_view.proofs.TableLemmas.{laws_of_places}
use Rattle.kr_view.proofs.RestLemmas.{begun_has_parts}
use Rattle.kr_tree.proofs.pr_base.TextLemmas.{some_is}

-- from what is no directory nothing is shown
pub looked_in : (around : Surroundings) (p : Place ℕ) (c : Component) (found : Option (Place ℕ)) → Shows (look_up around p c) found → is_directory_at around.space.tree p.host ≡ true
looked_in around p c found shows = at (is_directory_at around.space.tree p.host) refl shows
  where
    at : (b : Bool) → is_directory_at around.space.tree p.host ≡ b → Shows (if b then (if may_search around.space.tree around.space.user p.host then inside around p c else Fails EACCES) else Fails ENOTDIR) found → is_directory_at around.space.tree p.host ≡ true
    at true is shows = is
    at false is shows = absurd shows

-- ---- where paths begin

directory_there : (t : Tree) (i : ℕ) → option_map is_directory (body t i) ≡ Some true → body_is is_directory t i ≡ true
directory_there t i kind = at (inode t i) kind
  where
    at : (o : Option Inode) → option_map is_directory (option_map (λ x. x.node.body) o) ≡ Some true → option_map_or (λ x. is_directory x.node.body) o false ≡ true
    at None kind = absurd cc
    at (Some x) kind = some_is (is_directory x.node.body) true kind

-- of mounts that stand in the tree the root place is a directory
root_in : (around : Surroundings) → StandsIn around.space.tree around.space.table → is_directory_at around.space.tree (root_place around.space.table).host ≡ true
root_in around stands = directory_there around.space.tree (root_source around.space.table) (laws_of_places around.space.tree around.space.table stands).root_kind

parts_none : (parts : List (List ℕ)) → map component_of parts ≡ [] → has_parts parts ≡ false
parts_none [] h = refl
parts_none (part ∷ parts) h = absurd cc

-- a path that isn't empty and has no components is one of slashes
slashes_absolute : (path : List ℕ) → path ≢ [] → components_of path ≡ [] → is_absolute path ≡ true
slashes_absolute [] some none = absurd (some refl)
slashes_absolute (b ∷ rest) some none = at (is_slash b) refl
  where
    at : (t : Bool) → is_slash b ≡ t → is_slash b ≡ true
    at true is = is
    at false is =
        let parts : has_parts (parts_of (b ∷ rest)) ≡ true = begun_has_parts (b ∷ rest) (ap not is) ∙ grind (arith, nat_tests) in
        let no : has_parts (parts_of (b ∷ rest)) ≡ false = parts_none (parts_of (b ∷ rest)) none in
        absurd cc

-- so it begins at the root
begins_at_root : {S F : Type 0} (looking : Looking S F) (base : S) (path : List ℕ) → path ≢ [] → components_of path ≡ [] → begins_at looking base path ≡ looking.root
begins_at_root looking base path some none = ap (λ b. if b then looking.root else base) (slashes_absolute path some none)

-- the text of a link begins in a directory, where the link stands in one
text_begins_in : (around : Surroundings) (p : Place ℕ) (text : List ℕ) → is_directory_at around.space.tree (root_place around.space.table).host ≡ true → is_directory_at around.space.tree p.host ≡ true
    → is_directory_at around.space.tree (begins_at (looking around) p text).host ≡ true
text_begins_in around p text root link =
    elim (is_absolute text) as (λ b. is_directory_at around.space.tree (if b then root_place around.space.table else p).host ≡ true) [ true ↦ root | false ↦ link ]

-- ---- where walks end

-- no component is the root
no_root : (c : Component) → kind_of c ≢ last.Root
no_root Dot = λ e. absurd cc
no_root DotDot = λ e. absurd cc
no_root (Name name) = λ e. absurd cc

module _ (around : Surroundings) (mode : WalkMode) (base : Place ℕ) (path : List ℕ) where
  abbrev pub IsIn : PlaceTarget → Type 0
  IsIn t = t.jumped ≡ false → is_directory_at around.space.tree t.dir.host ≡ true

  pub in_directory : StandsIn around.space.tree around.space.table → path ≢ [] → EndsSo (looking around) IsIn (place_walk around mode base path)
  in_directory stands some =
      let root = root_in around stands in
      let D : Place ℕ → Type 0 = λ p. is_directory_at around.space.tree p.host ≡ true in
      walk_ends (looking around) IsIn D
      (λ s slash begins jumped. begins)
      (λ s c slash found shows jumped. looked_in around s c found shows)
      (λ s c slash f l looked jumped. absurd cc)
      (λ s c f text looked. text_begins_in around s text root (looked_in around s c (Some f) (let Q : SeenPlace → Type 0 = λ seen. Shows seen (Some f) in subst Q (sym looked) refl)))
      mode most_links (begins_at (looking around) base path) (components_of path) (has_slash path)
      (λ none. subst D (sym (begins_at_root (looking around) base path some none)) root)

  abbrev pub IsItself : PlaceTarget → Type 0
  IsItself t = t.last ≡ last.Root → t.found ≡ Some t.dir

  pub found_itself : EndsSo (looking around) IsItself (place_walk around mode base path)
  found_itself =
      walk_ends (looking around) IsItself (λ p. Unit {0}) (λ s slash begins root. refl) (λ s c slash found shows root. absurd (no_root c root)) (λ s c slash f l looked root. absurd cc) (λ s c f text looked. tt)
      mode most_links (begins_at (looking around) base path) (components_of path) (has_slash path) (λ none. tt)

  abbrev pub IsLanded : PlaceTarget → Type 0
  IsLanded t = t.jumped ≡ true → (p : Place ℕ) × (t.found ≡ Some p) × (is_directory_at around.space.tree p.host ≡ true → t.dir ≡ p)

  pub jumped_to : EndsSo (looking around) IsLanded (place_walk around mode base path)
  jumped_to =
      walk_ends (looking around) IsLanded (λ p. Unit {0}) (λ s slash begins jumped. absurd cc) (λ s c slash found shows jumped. absurd cc)
      (λ s c slash f l looked jumped. (l.found, refl, jumped_own around s c f l looked)) (λ s c f text looked. tt)
      mode most_links (begins_at (looking around) base path) (components_of path) (has_slash path) (λ none. tt)

  pub slashes_end : path ≢ [] → components_of path ≡ [] → place_walk around mode base path ≡ ends_here (looking around) (root_place around.space.table) false
  slashes_end some none =
      let on : Place ℕ → List Component → Bool → PlaceTrail = walk_on (looking around) mode most_links in
      ap (λ s. on s (components_of path) (has_slash path)) (begins_at_root (looking around) base path some none)
      ∙ ap (λ cs. on (root_place around.space.table) cs (has_slash path)) none
      ∙ ap (λ b. on (root_place around.space.table) [] (if b then ends_in_slash path else false)) (parts_none (parts_of path) none)
      ∙ walk-none (looking around) mode most_links (root_place around.space.table) false

pub empty_ends : (around : Surroundings) (mode : WalkMode) (base : Place ℕ) → place_walk around mode base [] ≡ ends_here (looking around) base false
empty_ends around mode base = walk-none (looking around) mode most_links base false
