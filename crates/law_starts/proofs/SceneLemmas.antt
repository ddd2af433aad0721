-- Walks before a process lives: what a tracer is told, and that the walks of both machines agree.
use Rattle.std.proofs.Common.{◌≡◌, ◌≢◌, ℕ, Bool, true, false, List, [], ◌∷◌, Option, Some, None, Result, Ok, Err, refl, ap}
use Rattle.std.specs.Prelude.{if◌then◌else◌}
use Rattle.pr_start.specs.pr_base.Alike.{Alike}
use Rattle.pr_start.specs.pr_base.Paths.{Component, components_of, has_slash}
use Rattle.pr_start.specs.pr_base.Texts.{Text}
use Rattle.pr_start.specs.pr_base.WalkFrame.{Looking, begins_at, most_links, walk}
use Rattle.pr_start.specs.pr_base.declared.errno.Errno.{Errno}
use Rattle.pr_start.specs.pr_base.declared.path.WalkMode.TheVariants.{Look}
use Rattle.pr_start.proofs.pr_base.EndLemmas.{EndsSo}
use Rattle.pr_start.proofs.pr_base.PathLemmas.{names_are_parts}
use Rattle.pr_start.specs.pt_bind.Binding.{names_of}
use Rattle.pr_start.specs.pt_bind.Tags.{TagTable}
use Rattle.pr_start.proofs.pt_bind.ByteLemmas.{names_written}
use Rattle.pr_start.specs.pt_canon.TextWalk.{text_walk}
use Rattle.pr_start.specs.kr_inode.declared.user.User.{User}
use Rattle.pr_start.specs.kr_tree.Tree.{Body, Directory, ProcessDirectory, RegularFile, SymbolicLink, Tree, body}
use Rattle.pr_start.specs.kr_tree.declared.place.Host.{Host}
use Rattle.pr_start.specs.kr_tree.declared.place.Host.TheVariants.{Node, Proc}
use Rattle.pr_start.specs.kr_tree.declared.place.Place.{Place}
use Rattle.pr_start.proofs.kr_tree.NameLemmas.{some_is}
use Rattle.pr_start.specs.kr_view.Component.{Namespace, Surroundings, is_process_directory, seen_at, seen_body, seen_link, shows_directory}
use Rattle.pr_start.specs.kr_view.Processes.{no_leads}
use Rattle.pr_start.specs.kr_view.View.{Row, plain}
use Rattle.pr_start.specs.kr_view.Walk.{PlaceTarget, place_walk}
use Rattle.pr_start.specs.kr_view.declared.procs.Lead.TheVariants.{NoLink}
use Rattle.pr_start.proofs.kr_view.ProcessLemmas.{no_processes}
use Rattle.law_turns.specs.kr_model.Peeks.{at_found, body_text, read_at, read_of}
use Rattle.law_programs.specs.kr_first.Starting.{around}
use Rattle.law_programs.proofs.kr_perform.EndingLemmas.{HasLast, walk_comes}
use Rattle.pr_start.specs.pr_base.Paths.{text_of}
use Rattle.law_turns.specs.law_walks.Peeks.{ArePeeks, text_of_answer, text_seen}
use Rattle.law_turns.specs.law_walks.Scene.{IsMatched, Scene}
use Rattle.law_turns.specs.law_walks.Settled.{IsSettled}
use Rattle.law_turns.specs.law_walks.Standing.{StandsOn, likeness}
use Rattle.law_turns.specs.law_walks.Start.{first_scene}
use Rattle.law_turns.proofs.law_walks.AgreeLemmas.{walks_agree}
use Rattle.law_turns.proofs.law_walks.StandingLemmas.{standing_places_are_called}
use Rattle.law_turns.proofs.law_walks.StartLemmas.{first_scenes_are_matched}
use Rattle.pr_start.specs.pt_first.FirstPeeks.{answer_along, first_peeked, link_text_at}
use Rattle.pr_start.specs.pt_first.Laws.{first_texts}
use Rattle.law_starts.specs.Spaces.{first_space}

-- ---- what is told

module _ (tree : Tree) (user : User) where
  abbrev on_host : Surroundings
  on_host = around plain tree user

  module _ (p : Place ℕ) (text : List ℕ) where
    text-of-body : (o : Option Body) → text_seen (seen_body p o) ≡ Some text → body_text o ≡ Ok text
    text-of-body None is = absurd cc
    text-of-body (Some (Directory entries standing)) is = absurd cc
    text-of-body (Some (RegularFile bytes)) is = absurd cc
    text-of-body (Some (SymbolicLink own)) is = ap Ok (some_is own text is)
    text-of-body (Some (ProcessDirectory standing)) is = absurd cc

    no-text : (b : Bool) → text_seen (if b then shows_directory p else seen_link on_host.space p NoLink) ≡ Some text → ⊥
    no-text true is = cc
    no-text false is = cc

    text-of-object : (x : Host) → text_seen (seen_at on_host p x) ≡ Some text → link_text_at tree x ≡ Ok text
    text-of-object (Node i) is = text-of-body (body tree i) is
    text-of-object (Proc i at) is = absurd (no-text (is_process_directory at) is)

  text-of-found : (text : List ℕ) (o : Option (Place ℕ)) → at_found on_host None text_seen o ≡ Some text → read_at (link_text_at tree) o ≡ Ok text
  text-of-found text None is = absurd cc
  text-of-found text (Some p) is = text-of-object p text p.host is

  text-of-target : (text : List ℕ) (a : Result PlaceTarget Errno) → text_of_answer on_host a ≡ Some text → read_of (link_text_at tree) a ≡ Ok text
  text-of-target text (Ok t) is = text-of-found text t.found is
  text-of-target text (Err e) is = absurd cc

  first-peeks : ArePeeks (first_peeked tree user) on_host
  first-peeks = record { kind = λ path. refl; link_text = λ path text is. text-of-target text (answer_along tree user path) is }

-- ---- walks

module _ (table : List Row) (tree : Tree) (user : User) (tags : TagTable) where
  abbrev pub scene : Scene
  scene = first_scene table tree user (first_peeked tree user) tags

  abbrev space : Namespace
  space = first_space table tree user

  module _ (set : IsSettled space) where
    pub matched : IsMatched scene
    matched = first_scenes_are_matched table tree user (first_peeked tree user) tags set (first-peeks tree user)

    -- from a place and its guest text
    pub walk-alike : (base : Place ℕ) (t : Text) (path : List ℕ) → StandsOn space base t
        → Alike (likeness space Look) (place_walk (around table tree user) Look base path).answer (text_walk (first_texts table tree user tags) Look t path).answer
    walk-alike base t path on = walks_agree scene Look base t path matched on

    -- the bytes of a guest text at which a place stands spell it
    pub spelled : (p : Place ℕ) (t : Text) → StandsOn space p t → names_of (text_of t) ≡ t
    spelled p t on = names_written t (names_are_parts t (standing_places_are_called space no_leads p t set no_processes.lawful on.stands).1)

-- a walk that looks something up finds something
pub look-finds : {S F : Type 0} (looking : Looking S F) (base : S) (path : List ℕ) → EndsSo looking (λ t. t.found ≢ None) (walk looking Look base path)
look-finds looking base path =
    walk_comes looking Look (λ t. t.found ≢ None) (λ c. Unit {0}) (Unit {0}) (λ s c f text slash looked followed asked. all (components_of text)) (λ s slash none. absurd cc) (λ s c slash free is none. absurd cc) (λ s c slash f is none. absurd cc)
    (λ slash l followed none. absurd cc) most_links (begins_at looking base path) (components_of path) (has_slash path) (λ asked. all (components_of path))
  where
    all : (cs : List Component) → HasLast (λ c. Unit {0}) cs
    all [] = tt
    all (c ∷ []) = tt
    all (c ∷ d ∷ cs) = all (d ∷ cs)
