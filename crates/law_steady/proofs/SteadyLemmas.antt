-- Steady host walks, and what a tracer is told of steady host paths, are the same in states of one shape and user.
use Rattle.std.proofs.Common.{◌≡◌, ◌≢◌, ℕ, true, false, not, List, [], ◌∷◌, Option, Some, None, Result, Ok, Err, All, refl, sym, ap, subst, ◌∙◌}
use Rattle.std.specs.Option.{option_map, option_map_or}
use Rattle.std.proofs.lemmas.Bool.{not-true, or_from, or_parts}
use Rattle.std.proofs.lemmas.List.Elements.{All-nil, All-cons, All-head, All-tail, All-weaker}
use Rattle.pt_canon.specs.pr_base.WalkFrame.{Fails, Missing, Leads, Links, Jumps, Landing, LookedAt}
use Rattle.pt_canon.specs.pr_base.WalkLaws.{Shows}
use Rattle.pt_canon.specs.pr_base.declared.errno.Errno.{Errno}
use Rattle.pt_canon.specs.pr_base.declared.errno.Errno.TheVariants.{ENOENT}
use Rattle.pt_canon.specs.pr_base.declared.path.WalkMode.{WalkMode}
use Rattle.pt_canon.specs.pr_base.declared.path.WalkMode.TheVariants.{LookLink}
use Rattle.pt_canon.specs.pr_base.declared.peeks.PeekKind.TheVariants as peek
use Rattle.law_lawful.specs.kr_inode.declared.user.User.{User}
use Rattle.law_lawful.specs.kr_inode.declared.user.Right.TheVariants.{Search}
use Rattle.law_lawful.specs.kr_tree.Names.{named}
use Rattle.law_lawful.specs.kr_tree.Rights.{allows}
use Rattle.law_lawful.specs.kr_tree.Tree.{Body, Directory, RegularFile, SymbolicLink, ProcessDirectory, Inode, Node as TreeNode, Tree, body, body_without_bytes, inode, node}
use Rattle.law_lawful.specs.kr_tree.declared.place.Host.{Host}
use Rattle.law_lawful.specs.kr_tree.declared.place.Host.TheVariants.{Node}
use Rattle.law_lawful.specs.kr_tree.declared.place.Place.{Place}
use Rattle.law_lawful.specs.kr_view.declared.target.Reach.{Reach}
use Rattle.law_lawful.specs.kr_view.Component.{SeenPlace, Surroundings, look_up, meets_processes, seen_at}
use Rattle.law_lawful.specs.kr_view.Living.{finds_among}
use Rattle.law_lawful.specs.kr_view.Reach.{is_steady, landings_reach, look_reach, looks_reach, nothing, reach_after, reached_landing}
use Rattle.law_lawful.specs.kr_view.View.{plain, root_place}
use Rattle.law_lawful.specs.kr_view.Walk.{PlaceTarget, PlaceTrail, looking, place_walk}
use Rattle.law_lawful.specs.kr_model.HostView.{host_around_of, host_leads}
use Rattle.law_lawful.specs.kr_model.Judged.{IsReachedStill}
use Rattle.law_lawful.specs.kr_model.Peeks.{answer_along, at_found, body_head, body_text, head_at, host_walk, is_steady_in, is_steady_path, kind_of_answer, kind_seen, link_text_at, read_at, read_of}
use Rattle.law_lawful.specs.kr_model.ProcessDirectory.{living_of}
use Rattle.law_lawful.specs.kr_model.State.{State}
use Rattle.pt_canon.specs.pr_base.SameWalks.{ShowsTheSame}
use Rattle.pt_canon.specs.pr_base.KeptWalks.{GoesOn, IsFromGood, IsKeptAlong}
use Rattle.law_steady.specs.Steady.{HaveOneShape, PeeksLast, SteadyPeeksLast, SteadyWalksLast, WalkLasts}
use Rattle.pt_canon.proofs.pr_base.SameWalkLemmas.{path_same}
use Rattle.pt_canon.proofs.pr_base.KeptWalkLemmas.{path_well}
use Rattle.law_steady.proofs.LookLemmas.{IsNamedPlace, IsNamedSight, look_same, look_sight, meets_same, named_root, place_same, place_sight}
use Rattle.law_steady.proofs.ShapeLemmas.{same_of_body}

-- ---- what a reach tells of looks

-- a look that looks up no name in the process directory
abbrev pub IsApart : Surroundings → LookedAt (Place ℕ) → Type 0
IsApart around l = meets_processes around.space l.place l.component ≡ false

module _ (around : Surroundings) (mode : WalkMode) where
  abbrev Apart : LookedAt (Place ℕ) → Type 0
  Apart = IsApart around

  landings_met : (landings : List (Landing (Place ℕ) (Place ℕ))) (r : Reach) → (landings_reach around.space landings r).met_proc ≡ r.met_proc
  landings_met [] r = refl
  landings_met (l ∷ landings) r = landings_met landings (reached_landing around.space l r)

  looks_apart : (looks : List (LookedAt (Place ℕ))) (r : Reach) → (looks_reach around mode looks r).met_proc ≡ false → (r.met_proc ≡ false) × All Apart looks
  looks_apart [] r h = (h, All-nil Apart)
  looks_apart (l ∷ looks) r h =
      let rest = looks_apart looks (look_reach around mode l r) h in
      let own = or_parts r.met_proc (meets_processes around.space l.place l.component) rest.0 in
      (own.0, All-cons Apart l looks own.1 rest.1)

  apart_looks : (looks : List (LookedAt (Place ℕ))) (r : Reach) → r.met_proc ≡ false → All Apart looks → (looks_reach around mode looks r).met_proc ≡ false
  apart_looks [] r h all = h
  apart_looks (l ∷ looks) r h all =
      apart_looks looks (look_reach around mode l r) (or_from r.met_proc (meets_processes around.space l.place l.component) h (All-head Apart l looks all)) (All-tail Apart l looks all)

  pub steady_apart : (trail : PlaceTrail) → is_steady around mode trail ≡ true → All Apart trail.looks
  steady_apart trail h =
      (looks_apart trail.looks nothing (sym (landings_met trail.landings (looks_reach around mode trail.looks nothing)) ∙ not-true (reach_after around mode trail nothing).met_proc h)).1

  pub apart_steady : (trail : PlaceTrail) → All Apart trail.looks → is_steady around mode trail ≡ true
  apart_steady trail all = ap not (landings_met trail.landings (looks_reach around mode trail.looks nothing) ∙ apart_looks trail.looks nothing refl all)

-- ---- where a steady walk goes

-- what was found, if anything, is named
abbrev pub IsNamedFound : Tree → Option (Place ℕ) → Type 0
IsNamedFound t (Some p) = IsNamedPlace t p
IsNamedFound t None = Unit {0}

abbrev pub EndsNamed : Tree → PlaceTarget → Type 0
EndsNamed t target = IsNamedFound t target.found

goes_on : (t : Tree) (seen : SeenPlace) → IsNamedSight t seen → GoesOn (IsNamedPlace t) seen
goes_on t (Fails e) n = tt
goes_on t Missing n = tt
goes_on t (Leads is_dir q f) n = n.0
goes_on t (Links f text) n = tt
goes_on t (Jumps f lead) n = absurd n

found_named : (t : Tree) (seen : SeenPlace) (found : Option (Place ℕ)) → IsNamedSight t seen → Shows seen found → IsNamedFound t found
found_named t (Fails e) found n shows = absurd shows
found_named t Missing found n shows = subst (IsNamedFound t) (sym shows) tt
found_named t (Leads is_dir q f) found n shows = subst (IsNamedFound t) (sym shows) n.1
found_named t (Links f text) found n shows = subst (IsNamedFound t) (sym shows) n
found_named t (Jumps f lead) found n shows = absurd n

module _ {M N X Y : Type 0} (s : State M X) (t : State N Y) (caller asker : ℕ) (one : HaveOneShape s t) where
  -- what the other state shows, to a user
  abbrev there_for : User → Surroundings
  there_for user = record { space = record { table = plain; tree = t.tree; user = user; finds = finds_among (living_of t) }; leads = host_leads t asker }

  abbrev there : Surroundings
  there = there_for s.user

  abbrev at_home : Surroundings
  at_home = host_around_of s caller

  same_there : host_around_of t asker ≡ there
  same_there = ap there_for one.user

  abbrev Good : Place ℕ → Type 0
  Good = IsNamedPlace s.tree

  sight : (l : LookedAt (Place ℕ)) → Good l.place → IsApart at_home l → IsNamedSight s.tree (look_up at_home l.place l.component)
  sight l good apart = look_sight s.tree t.tree one.sound one.shape s.user (finds_among (living_of s)) (finds_among (living_of t)) (host_leads s caller) (host_leads t asker) l.place l.component good apart

  module _ (mode : WalkMode) (path : List ℕ) (steady : is_steady_in s caller mode path ≡ true) where
    trail : PlaceTrail
    trail = host_walk s caller mode path

    all_apart : All (IsApart at_home) (host_walk s caller mode path).looks
    all_apart = steady_apart at_home mode (host_walk s caller mode path) steady

    pub along : IsKeptAlong Good (IsApart at_home) (looking at_home) (EndsNamed s.tree) mode (root_place plain) path
    along =
        path_well Good (IsApart at_home) (looking at_home) (EndsNamed s.tree)
        (record {
          root = named_root s.tree;
          looks = λ l good apart. goes_on s.tree (look_up at_home l.place l.component) (sight l good apart);
          beginning = λ q slash good. good;
          component = λ l slash found good apart shows. found_named s.tree (look_up at_home l.place l.component) found (sight l good apart) shows;
          landing = λ l slash f to good apart looked. absurd (subst (IsNamedSight s.tree) looked (sight l good apart));
        })
        mode (root_place plain) path (named_root s.tree) all_apart

    look_there : (l : LookedAt (Place ℕ)) → IsFromGood Good (IsApart at_home) l → ShowsTheSame (looking at_home) (looking there) l
    look_there l from =
        sym (look_same s.tree t.tree one.sound one.shape s.user (finds_among (living_of s)) (finds_among (living_of t)) (host_leads s caller) (host_leads t asker) l.place l.component from.0 from.1)

    apart_there : (l : LookedAt (Place ℕ)) → IsFromGood Good (IsApart at_home) l → IsApart there l
    apart_there l from =
        meets_same s.tree t.tree one.sound one.shape s.user (finds_among (living_of s)) (finds_among (living_of t)) (host_leads s caller) (host_leads t asker) l.place l.component from.0 ∙ from.1

    walk_there : place_walk there mode (root_place plain) path ≡ host_walk s caller mode path
    walk_there =
        sym (path_same (looking at_home) (looking there) (record { roots = refl; heres = λ _. refl }) mode (root_place plain) path
        (All-weaker (IsFromGood Good (IsApart at_home)) (ShowsTheSame (looking at_home) (looking there)) look_there (host_walk s caller mode path).looks along.looks))

    steady_there : is_steady there mode (place_walk there mode (root_place plain) path) ≡ true
    steady_there =
        ap (is_steady there mode) walk_there
        ∙ apart_steady there mode (host_walk s caller mode path) (All-weaker (IsFromGood Good (IsApart at_home)) (IsApart there) apart_there (host_walk s caller mode path).looks along.looks)

    pub walk_lasts : WalkLasts s t caller asker mode path
    walk_lasts =
        record {
          walk = ap (λ a. place_walk a mode (root_place plain) path) same_there ∙ walk_there;
          steady = ap (λ a. is_steady a mode (place_walk a mode (root_place plain) path)) same_there ∙ steady_there;
        }

  -- ---- what is told of what was found

  kind_same : (answer : Result PlaceTarget Errno) → ((target : PlaceTarget) → answer ≡ Ok target → EndsNamed s.tree target) → kind_of_answer there answer ≡ kind_of_answer at_home answer
  kind_same (Err e) each = refl
  kind_same (Ok target) each = by target.found (each target refl)
    where
      by : (o : Option (Place ℕ)) → IsNamedFound s.tree o → at_found there (Err ENOENT) kind_seen o ≡ at_found at_home (Err ENOENT) kind_seen o
      by None n = refl
      by (Some p) n = ap kind_seen (place_same s.tree t.tree one.sound one.shape s.user (finds_among (living_of s)) (finds_among (living_of t)) (host_leads s caller) (host_leads t asker) p n)

  no_jump_seen : (seen : SeenPlace) → IsNamedSight s.tree seen → kind_seen seen ≢ Ok peek.Jump
  no_jump_seen (Fails e) n h = absurd cc
  no_jump_seen Missing n h = absurd cc
  no_jump_seen (Leads true p found) n h = absurd cc
  no_jump_seen (Leads false p found) n h = absurd cc
  no_jump_seen (Links found text) n h = absurd cc
  no_jump_seen (Jumps found lead) n h = n

  no_jump : (answer : Result PlaceTarget Errno) → ((target : PlaceTarget) → answer ≡ Ok target → EndsNamed s.tree target) → kind_of_answer at_home answer ≢ Ok peek.Jump
  no_jump (Err e) each h = absurd cc
  no_jump (Ok target) each h = by target.found (each target refl) h
    where
      by : (o : Option (Place ℕ)) → IsNamedFound s.tree o → at_found at_home (Err ENOENT) kind_seen o ≢ Ok peek.Jump
      by None n h = absurd cc
      by (Some p) n h =
          no_jump_seen (seen_at at_home p p.host)
          (place_sight s.tree t.tree one.sound one.shape s.user (finds_among (living_of s)) (finds_among (living_of t)) (host_leads s caller) (host_leads t asker) p n) h

  -- what is read at what a text names
  read_same : (read red : Host → Result (List ℕ) Errno) → ((i : ℕ) (text : List (List ℕ)) → named s.tree text ≡ Some i → read (Node i) ≡ red (Node i)) → (answer : Result PlaceTarget Errno)
      → ((target : PlaceTarget) → answer ≡ Ok target → EndsNamed s.tree target) → read_of read answer ≡ read_of red answer
  read_same read red each (Err e) ends = refl
  read_same read red each (Ok target) ends = by target.found (ends target refl)
    where
      by : (o : Option (Place ℕ)) → IsNamedFound s.tree o → read_at read o ≡ read_at red o
      by None n = refl
      by (Some p) n = subst (λ (q : Place ℕ). read q.host ≡ red q.host) (sym n.is) (each n.inode n.text n.named)

  text_same : (i : ℕ) (text : List (List ℕ)) → named s.tree text ≡ Some i → link_text_at t asker (Node i) ≡ link_text_at s caller (Node i)
  text_same i text way = same_of_body s.tree t.tree i (one.shape.nodes text i way) body_text by
    where
      by : (b : Body) → body_text (Some (body_without_bytes b)) ≡ body_text (Some b)
      by (Directory entries standing) = refl
      by (RegularFile bytes) = refl
      by (SymbolicLink text) = refl
      by (ProcessDirectory standing) = refl

  head_same : IsReachedStill (λ n. n) s.tree t.tree → (n i : ℕ) (text : List (List ℕ)) → named s.tree text ≡ Some i → head_at t.tree s.user n (Node i) ≡ head_at s.tree s.user n (Node i)
  head_same still n i text way =
      λ j. body_head (option_map_or (λ n. allows s.user n Search) (same j) false) n ((body_in t.tree i ∙ ap (option_map (λ n. n.body)) same ∙ sym (body_in s.tree i)) j)
    where
      all : (o : Option TreeNode) → option_map (λ n. n) o ≡ o
      all None = refl
      all (Some x) = refl

      same : node t.tree i ≡ node s.tree i
      same = sym (all (node t.tree i)) ∙ still.nodes text i way ∙ all (node s.tree i)

      body_in : (u : Tree) (i : ℕ) → body u i ≡ option_map (λ n. n.body) (node u i)
      body_in u i = by (inode u i)
        where
          by : (o : Option Inode) → option_map (λ x. x.node.body) o ≡ option_map (λ n. n.body) (option_map (λ x. x.node) o)
          by None = refl
          by (Some x) = refl

  module _ (path : List ℕ) (steady : is_steady_path s caller path ≡ true) where
    answer_same : answer_along t asker path ≡ answer_along s caller path
    answer_same = ap (λ (trail : PlaceTrail). trail.answer) (walk_lasts LookLink path steady).walk

    ends_named : (target : PlaceTarget) → answer_along s caller path ≡ Ok target → EndsNamed s.tree target
    ends_named = (along LookLink path steady).target

    pub peeks_last : PeeksLast s t caller asker path
    peeks_last =
        record {
          kind = ap (kind_of_answer (host_around_of t asker)) answer_same ∙ ap (λ a. kind_of_answer a (answer_along s caller path)) same_there ∙ kind_same (answer_along s caller path) ends_named;
          no_jump = no_jump (answer_along s caller path) ends_named;
          link_text = ap (read_of (link_text_at t asker)) answer_same ∙ read_same (link_text_at t asker) (link_text_at s caller) text_same (answer_along s caller path) ends_named;
          head = λ still n.
              ap (read_of (head_at t.tree t.user n)) answer_same ∙ ap (λ user. read_of (head_at t.tree user n) (answer_along s caller path)) one.user
              ∙ read_same (head_at t.tree s.user n) (head_at s.tree s.user n) (head_same still n) (answer_along s caller path) ends_named;
        }

pub steady_peeks_last : (M N X Y : Type 0) → SteadyPeeksLast M N X Y
steady_peeks_last M N X Y s t caller asker path one steady = peeks_last s t caller asker one path steady

pub steady_walks_last : (M N X Y : Type 0) → SteadyWalksLast M N X Y
steady_walks_last M N X Y s t caller asker mode path one steady = walk_lasts s t caller asker one mode path steady
