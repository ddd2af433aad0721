-- A start holds some inodes, and so leaves the shape of the tree.
use Rattle.std.proofs.Common.{◌≡◌, ℕ, Bool, true, false, cond, List, [], ◌∷◌, Option, Some, None, Result, Ok, Err, refl, sym, ap, subst, ◌∙◌}
use Rattle.std.specs.Option.{option_and_then, option_map, option_map_or}
use Rattle.kr_turns.specs.pr_base.declared.errno.Errno.{Errno}
use Rattle.kr_turns.specs.pr_base.declared.errno.Errno.TheVariants.{ENOENT, ENOMEM}
use Rattle.kr_first.specs.kr_inode.declared.user.User.{User}
use Rattle.kr_first.specs.kr_tree.Changes.{held}
use Rattle.kr_first.specs.kr_tree.Lawful.{IsSound}
use Rattle.kr_first.specs.kr_tree.Names.{named}
use Rattle.kr_first.specs.kr_tree.Tree.{Inode, Node, Tree, entry, node}
use Rattle.kr_first.specs.kr_tree.declared.place.Place.{Place}
use Rattle.kr_first.specs.kr_model.Judged.{HasShape, without_bytes}
use Rattle.kr_first.specs.kr_model.State as model
use Rattle.kr_first.specs.kr_model.State.{Image, inode_of}
use Rattle.kr_first.specs.kr_model.Walks.{and_then}
use Rattle.kr_first.specs.kr_exec.Lists.{at_least_one}
use Rattle.kr_first.specs.kr_exec.declared.plan.ExecPlan.{ExecPlan}
use Rattle.kr_first.specs.kr_start.Start as beginning
use Rattle.kr_first.specs.kr_start.Start.{pinned, started}
use Rattle.kr_first.specs.Starting.{directory_at, exceeds, idle_state, plan_of, process_of, start_from, start_of, started_with}
use Rattle.kr_first.specs.declared.starting.First.{First}
use Rattle.kr_first.proofs.kr_start.PinLemmas.{held-stays, pinned-stays}
use Rattle.kr_turns.specs.Agreeing.{AgreesIn}
use Rattle.kr_turns.specs.kr_ops.Meaning.{meaning}
use Rattle.kr_turns.specs.kr_ops.declared.state.State.{State}
use Rattle.kr_turns.specs.kr_seen.Numbered.{state_numbered}
use Rattle.kr_turns.specs.kr_stops.Remembering.{LastsWithShape}
use Rattle.kr_turns.specs.kr_view.View.{Row}
use Rattle.kr_turns.proofs.law_steady.ShapeLemmas.{same_entry}

-- trees with the same nodes have one shape
module _ (t u : Tree) (same : (i : ℕ) → node u i ≡ node t i) where
  entry-alike : (name : List ℕ) (o : Option ℕ) → option_and_then (λ dir. entry u dir name) o ≡ option_and_then (λ dir. entry t dir name) o
  entry-alike name None = refl
  entry-alike name (Some dir) = same_entry t u dir (ap (option_map without_bytes) (same dir)) name

  named-alike : (text : List (List ℕ)) → named u text ≡ named t text
  named-alike [] = refl
  named-alike (name ∷ text) = ap (option_and_then (λ dir. entry u dir name)) (named-alike text) ∙ entry-alike name (named t text)

  nodes-shape : HasShape t u
  nodes-shape = record { names = named-alike; nodes = λ text i way. ap (option_map without_bytes) (same i) }

abbrev node_told : Option Inode → Option Node
node_told o = option_map (λ x. x.node) o

same-state : (s t : model.State ℕ Image) → ◌≡◌ {A = Result (model.State ℕ Image) Errno} (Ok s) (Ok t) → s ≡ t
same-state s t e = cc

module _ (table : List Row) (tree : Tree) (user : User) (input : List ℕ) where
  -- the state of a start has the tree's shape, and the user
  abbrev Begins : Result (model.State ℕ Image) Errno → Type 0
  Begins answer = (s : model.State ℕ Image) → answer ≡ Ok s → HasShape tree s.tree × (s.user ≡ user)

  started-shape : (first : beginning.First ℕ) → HasShape tree (started first (idle_state table tree user input)).tree
  started-shape first =
      let once = pinned table tree in
      let twice = held (inode_of first.cwd.host) once in
      nodes-shape tree (held (inode_of first.exe.host) twice)
      (λ i.
      held-stays node_told (λ g x. refl) twice (inode_of first.exe.host) i
      ∙ held-stays node_told (λ g x. refl) once (inode_of first.cwd.host) i
      ∙ pinned-stays node_told (λ g x. refl) table tree i)

  module _ (asked : First) where
    begins-loaded : (base : Place ℕ) (plan : ExecPlan ℕ) (b : Bool) → Begins (cond b (Err ENOMEM) (Ok (started (process_of tree asked.ids base plan) (idle_state table tree user input))))
    begins-loaded base plan true s e = absurd cc
    begins-loaded base plan false s e =
        let own = started (process_of tree asked.ids base plan) (idle_state table tree user input) in
        subst (λ (s : model.State ℕ Image). HasShape tree s.tree × (s.user ≡ user)) (same-state own s e) (started-shape (process_of tree asked.ids base plan), refl)

    begins-planned : (base : Place ℕ) (plan : Result (ExecPlan ℕ) Errno) → Begins (and_then plan (started_with table tree user input asked.ids base))
    begins-planned base (Ok plan) s e = begins-loaded base plan (exceeds tree asked.ids plan) s e
    begins-planned base (Err errno) s e = absurd cc

    begins-from : (base : Option (Place ℕ)) → Begins (option_map_or (start_from table tree user input asked) base (Err ENOENT))
    begins-from None s e = absurd cc
    begins-from (Some base) s e = begins-planned base (plan_of table tree user base asked.path (at_least_one asked.args) asked.env) s e

    begins : Begins (start_of table tree user input asked)
    begins = begins-from (directory_at table tree user asked.cwd)

-- so what agreed with the tree before the start agrees with that of the state
pub start-agrees : {S T : Type 0} {M : ℕ} (agrees : S → Tree → User → Type 0) → LastsWithShape agrees → (number : T → ℕ) (table : List Row) (tree : Tree) (user : User) (input : List ℕ) (asked : First) (state : State T M) (x : S)
    → IsSound tree → start_of table tree user input asked ≡ Ok (state_numbered number (meaning state)) → agrees x tree user → AgreesIn agrees x state
start-agrees agrees lasts number table tree user input asked state x sound is before =
    let own = begins table tree user input asked (state_numbered number (meaning state)) is in
    subst (λ (user : User). agrees x state.tree user) (sym own.1) (lasts x tree state.tree user sound own.0 before)
