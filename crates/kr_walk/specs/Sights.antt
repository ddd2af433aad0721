-- What a walk has in its hands, as plain data: its surroundings, and what a component shows.
use Rattle.std.specs.Prelude.{ℕ, List, Option}
use Rattle.kr_view.specs.kr_tree.pr_base.WalkFrame as frame
use Rattle.kr_view.specs.kr_tree.declared.place.ProcAt.{ProcAt}
use Rattle.kr_view.specs.declared.procs.Lead.{Lead}
use Rattle.kr_walk.specs.declared.surroundings.Surroundings.{Surroundings as Held}
use Rattle.kr_walk.specs.declared.surroundings.Sight.{Sight}
use Rattle.kr_walk.specs.declared.surroundings.Sight.TheVariants.{Fails, Missing, Leads, Links, Jumps}
use Rattle.kr_view.specs.View.{Row}
use Rattle.kr_view.specs.Leads.{numbered}
use Rattle.kr_view.specs.Walk.{surroundings}
use Rattle.kr_view.specs.Component.{Surroundings, SeenPlace, seen_link}

-- the surroundings of a walk in its hands
abbrev pub surroundings_of : {M P Q : Type 0} → (M → ℕ) → (P → List Row) → (Q → ℕ → Option ProcAt → List ℕ → Option ProcAt) → (Q → ℕ → ProcAt → Lead M) → Held P Q → Surroundings
surroundings_of number mounts finds leads a =
    surroundings number (mounts a.places.now) a.tree.now a.user (finds a.procs.now a.caller) (leads a.procs.now a.caller)

abbrev pub sight_seen : {M : Type 0} → (M → ℕ) → Surroundings → Sight M → SeenPlace
sight_seen number around (Fails e) = frame.Fails e
sight_seen number around Missing = frame.Missing
sight_seen number around (Leads spot is_dir) = frame.Leads is_dir (numbered number spot.place) (numbered number spot.place)
sight_seen number around (Links spot text) = frame.Links (numbered number spot.place) text.now
sight_seen number around (Jumps spot at) = seen_link around.space (numbered number spot.place) (around.leads at)
