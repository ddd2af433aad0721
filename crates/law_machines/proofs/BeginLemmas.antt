-- Machines that begin have all that runs rest on.
use Rattle.std.proofs.Common.{◌≡◌, ℕ, Bool, true, false, ◌∷◌, [], List, cond, Option, Some, None, refl, sym, ap, subst, ◌∙◌}
use Rattle.std.specs.Prelude.{Err, IfOk, IfSome, Ok, Result}
use Rattle.std.specs.List.{list_all}
use Rattle.pr_top.specs.pr_base.MountText.{MountText}
use Rattle.pr_top.specs.pr_base.declared.errno.Errno.{Errno}
use Rattle.pr_top.specs.pr_words.Command.{candidate, directories, has_slash, path_of, word_of}
use Rattle.pr_top.specs.pr_words.declared.launch.Launch.{Launch}
use Rattle.law_starts.specs.kr_first.Starting.{start_of, start_reach}
use Rattle.law_starts.specs.kr_first.declared.starting.First.{First}
use Rattle.pr_top.specs.kr_inode.declared.user.User.{User}
use Rattle.law_starts.specs.kr_model.State.{Image, State}
use Rattle.law_starts.specs.kr_model.Walks.{and_then}
use Rattle.pr_top.specs.kr_mounts.Standing.{texts_of}
use Rattle.pr_top.specs.kr_tree.Lawful.{AreBytes, HasBytes as TreeHasBytes}
use Rattle.pr_top.specs.kr_tree.Tree.{Tree}
use Rattle.pr_top.specs.kr_tree.declared.place.Place.{Place}
use Rattle.law_starts.specs.kr_turns.Turn.{Machine}
use Rattle.pr_top.specs.kr_view.View.{Row, plain}
use Rattle.pr_top.specs.kr_view.declared.target.Reach.{Reach}
use Rattle.law_starts.specs.pr_start.Beginning.{beginning, begun, begun_at, first_of, fresh, nowhere}
use Rattle.law_starts.specs.pr_start.Command.{Chosen, chosen, is_there, program_reach, searched}
use Rattle.law_starts.specs.pr_start.Directory.{At, directory_reach, working_directory}
use Rattle.law_starts.specs.pr_start.TracedBeginning as traced
use Rattle.law_starts.specs.pr_start.TracedBeginning.{begun_as, texts_before, traced_beginning, tracing_of}
use Rattle.law_starts.specs.pt_faker.declared.watch.Watch.{Watch}
use Rattle.law_starts.specs.pt_canon.TextWalk.{TextSurroundings}
use Rattle.law_starts.specs.pt_first.GuestStart.{guest_start}
use Rattle.law_starts.specs.pt_first.declared.begun.Begun.{Begun}
use Rattle.law_starts.specs.law_kept.Bytes.{AreAllBytes, HasBytes, TableHasBytes}
use Rattle.law_starts.proofs.law_kept.StartLemmas.{beginnings-have-bytes, tables-have-bytes}
use Rattle.law_machines.specs.Watchers.{is_byte_row}
use Rattle.law_machines.proofs.LookLemmas.{AreOfBytes}
use Rattle.law_machines.proofs.TextLemmas.{rows-tested}
use Rattle.law_machines.proofs.TracerLemmas.{tracers-watch-bytes}
use Rattle.law_starts.specs.pt_tracer.Answering.{starting_identities}
use Rattle.law_starts.specs.pt_tracer.Watched.{Tracing}
use Rattle.law_starts.specs.FirstStates.{IsOpening}
use Rattle.law_starts.specs.Starts.{ComeTogether}
use Rattle.law_starts.proofs.StartLemmas.{starts-go-together}
use Rattle.law_paths.specs.law_stops.Turning.{tags_kept}
use Rattle.law_starts.specs.law_turns.Runs.{GoTogether}
use Rattle.law_machines.specs.Starts.{BeginToRun, CanComeAlike, IsOfByteWords, StartsCanRun}
use Rattle.law_machines.specs.Tables.{IsMadeOfBytes}
use Rattle.law_machines.proofs.GuestLemmas.{BeginsByBytes, first-peeks-tell-bytes, guests-begin-by-bytes}
use Rattle.law_machines.proofs.TableLemmas.{openings-are-made-of-bytes}
use Rattle.law_machines.proofs.LaunchLemmas.{arguments-bytes, candidate-bytes, directories-bytes, word-bytes}

-- what a tracer goes by, and the state in which it begins
pub record TracesBytes (table : List Row) (host : User) (ids : Option (ℕ × ℕ)) (n : Machine Tracing) : Type 0 where
  pub bytes : HasBytes n.state
  pub bindings : n.watcher.bindings ≡ texts_of table
  pub user : n.watcher.user ≡ host
  pub identities : n.watcher.identities ≡ starting_identities ids

-- texts of bytes, by any equal ones
pub rows-of-bytes : {bindings : List MountText} → (table : List Row) → list_all is_byte_row (texts_of table) ≡ true → bindings ≡ texts_of table → list_all is_byte_row bindings ≡ true
rows-of-bytes table own same = ap (list_all is_byte_row) same ∙ own

-- a path that is taken, and what was reached on the way
abbrev taken : List ℕ → Reach → Chosen
taken path r = record { path = Some path; reach = r }

module _ (table : List Row) (tree : Tree) (user : User) (launch : Launch) (input : List ℕ) (has : TreeHasBytes tree) (words : IsOfByteWords launch) (are : AreBytes input) where
  -- ---- over mounts

  module _ (watch : Watch) (table_are : TableHasBytes table) where
    searched-bytes : (base : Place ℕ) (word : List ℕ) (dirs : List (List ℕ)) (r : Reach) → AreBytes word → AreAllBytes dirs → IfSome (searched table tree user base word dirs r).path AreBytes
    unfolding searched
    searched-bytes base word [] r own all = tt
    searched-bytes base word (dir ∷ dirs) r own all =
        by (is_there table tree user base (candidate dir word)) (searched-bytes base word dirs (program_reach table tree user base (candidate dir word) r) own all.1)
      where
        reached : Reach
        reached = program_reach table tree user base (candidate dir word) r

        by : (b : Bool) → IfSome (searched table tree user base word dirs reached).path AreBytes → IfSome (cond b (taken (candidate dir word) reached) (searched table tree user base word dirs reached)).path AreBytes
        by true later = candidate-bytes dir word all.0 own
        by false later = later

    chosen-bytes : (base : Place ℕ) (r : Reach) → IfSome (chosen table tree user base launch.env (word_of launch.command) r).path AreBytes
    chosen-bytes base r = by (has_slash (word_of launch.command))
      where
        by : (b : Bool) → IfSome (cond b (taken (word_of launch.command) r) (searched table tree user base (word_of launch.command) (directories (path_of launch.env)) r)).path AreBytes
        by true = word-bytes launch.command words.command
        by false = searched-bytes base (word_of launch.command) (directories (path_of launch.env)) r (word-bytes launch.command words.command) (directories-bytes launch.env words.env)

    begun-bytes : (first : First) → AreBytes first.path → AreAllBytes first.args → AreAllBytes first.env → (m : Machine Watch) → begun table tree user watch first input ≡ Ok m → HasBytes m.state
    begun-bytes first path_are args_are env_are m e = by (start_of table tree user input first) refl e
      where
        by : (r : Result (State ℕ Image) Errno) → start_of table tree user input first ≡ r → and_then r (λ s. Ok (fresh watch (start_reach table tree user first) s)) ≡ Ok m → HasBytes m.state
        by (Err why) is e = absurd cc
        by (Ok s) is e =
            let same : fresh watch (start_reach table tree user first) s ≡ m = cc in
            subst (λ (m : Machine Watch). HasBytes m.state) same (beginnings-have-bytes table tree user input first s table_are has are path_are args_are env_are is)

    at-bytes : (at : At) (reach : Reach) (o : Option (List ℕ)) → IfSome o AreBytes → (m : Machine Watch) → begun_at table tree user watch launch input at reach o ≡ Ok m → HasBytes m.state
    at-bytes at reach None own m e = absurd cc
    at-bytes at reach (Some path) own m e = begun-bytes (first_of table tree user watch launch at path reach) own (arguments-bytes launch.command words.command) words.env m e

    pub mounted-bytes : (m : Machine Watch) → beginning table tree user watch launch input ≡ Ok m → HasBytes m.state
    mounted-bytes m e =
        let at = working_directory table tree user launch.cwd in
        let reach = directory_reach table tree user launch.cwd nowhere in
        let found = chosen table tree user at.place launch.env (word_of launch.command) reach in
        at-bytes at found.reach found.path (chosen-bytes at.place reach) m e

  -- ---- with a tracer

  module _ (texts_are : list_all is_byte_row (texts_of table) ≡ true) where
    abbrev texts : TextSurroundings
    texts = texts_before (texts_of table) tree user

    of-bytes : AreOfBytes texts
    of-bytes = record { rows = rows-tested (texts_of table) texts_are; tells = first-peeks-tell-bytes tree user has }

    module _ (ids : Option (ℕ × ℕ)) where
      started-traces : (b : Begun) → BeginsByBytes b → (n : Machine Tracing) → begun_as (texts_of table) tree user ids input b ≡ Ok n → TracesBytes table user ids n
      started-traces b own n e = by (start_of plain tree user input b.first) refl e
        where
          by : (r : Result (State ℕ Image) Errno) → start_of plain tree user input b.first ≡ r → and_then r (λ s. Ok (traced.fresh (tracing_of (texts_of table) tree user ids b) s)) ≡ Ok n → TracesBytes table user ids n
          by (Err why) is e = absurd cc
          by (Ok s) is e =
              let same : traced.fresh (tracing_of (texts_of table) tree user ids b) s ≡ n = cc in
              let bytes : HasBytes s = beginnings-have-bytes plain tree user input b.first s tables-have-bytes.plain_view has are own.path own.args own.env is in
              subst (λ (n : Machine Tracing). TracesBytes table user ids n) same (record { bytes = bytes; bindings = refl; user = refl; identities = refl })

      pub traces-bytes : (n : Machine Tracing) → traced_beginning (texts_of table) tree user ids launch input ≡ Ok n → TracesBytes table user ids n
      traces-bytes n e = by (guest_start texts launch) (guests-begin-by-bytes texts of-bytes launch words) e
        where
          by : (r : Result Begun Errno) → IfOk r BeginsByBytes → and_then r (begun_as (texts_of table) tree user ids input) ≡ Ok n → TracesBytes table user ids n
          by (Err why) own e = absurd cc
          by (Ok b) own e = started-traces b own n e

  -- ---- both

  go-on : (watch : Watch) → IsOpening tree user table → (m : Machine Watch) (n : Machine Tracing) → beginning table tree user watch launch input ≡ Ok m → traced_beginning (texts_of table) tree user None launch input ≡ Ok n
      → GoTogether tags_kept table 0 m n → CanComeAlike table m n
  go-on watch opening m n is also together =
      let made : IsMadeOfBytes table = openings-are-made-of-bytes table tree user opening in
      let traces : TracesBytes table user None n = traces-bytes made.texts None n also in
      record {
        together = together;
        can = record { named = opening.prepared.named; bytes = made.rows; watches = tracers-watch-bytes };
        keeps = record {
          bytes = mounted-bytes watch made.rows m is;
          also_bytes = traces.bytes;
          agree = sym (λ j. (traces.bindings j, traces.identities j, rows-of-bytes table made.texts traces.bindings j));
        };
      }

pub starts-can-run : StartsCanRun
starts-can-run table tree user watch launch input opening calm words are =
    by (beginning table tree user watch launch input) refl (traced_beginning (texts_of table) tree user None launch input) refl (starts-go-together table tree user watch None launch input opening calm)
  where
    by : (r : Result (Machine Watch) Errno) → beginning table tree user watch launch input ≡ r → (q : Result (Machine Tracing) Errno) → traced_beginning (texts_of table) tree user None launch input ≡ q → ComeTogether table r q → BeginToRun table r q
    by (Ok m) is (Ok n) also together = go-on table tree user launch input opening.kept.bytes words are watch opening m n is also together
    by (Err e) is (Err f) also same = same
    by (Ok m) is (Err f) also never = never
    by (Err e) is (Ok n) also never = never
