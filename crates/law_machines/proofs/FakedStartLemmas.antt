-- Machines that begin where processes are told an identity have all that such runs rest on.
use Rattle.std.proofs.Common.{◌≡◌, ℕ, true, List, Some, refl, sym}
use Rattle.std.specs.Prelude.{Err, Ok, Result}
use Rattle.pr_top.specs.pr_base.declared.errno.Errno.{Errno}
use Rattle.pr_top.specs.pr_words.declared.launch.Launch.{Launch}
use Rattle.pr_top.specs.kr_inode.declared.user.User.{User}
use Rattle.pr_top.specs.kr_mounts.Standing.{texts_of}
use Rattle.pr_top.specs.kr_tree.Lawful.{AreBytes}
use Rattle.pr_top.specs.kr_tree.Tree.{Tree}
use Rattle.law_starts.specs.kr_turns.Turn.{Machine}
use Rattle.pr_top.specs.kr_view.View.{Row}
use Rattle.law_starts.specs.pr_start.Beginning.{beginning}
use Rattle.law_starts.specs.pr_start.TracedBeginning.{traced_beginning}
use Rattle.law_starts.specs.pt_faker.declared.watch.Watch.{Watch}
use Rattle.law_starts.specs.pt_faker.declared.watch.Watch.TheVariants.{Faked}
use Rattle.law_machines.proofs.FakerLemmas.{fakers-watch-bytes}
use Rattle.law_machines.proofs.TracerLemmas.{tracers-watch-bytes}
use Rattle.law_starts.specs.pt_faker.Faking.{Faking, starting_faking}
use Rattle.law_starts.specs.pt_tracer.Watched.{Tracing}
use Rattle.law_starts.specs.FirstStates.{IsOpening}
use Rattle.law_starts.specs.Starts.{ComeTogether}
use Rattle.law_starts.proofs.StartLemmas.{starts-go-together}
use Rattle.law_paths.specs.law_stops.Turning.{tags_kept}
use Rattle.law_starts.specs.law_turns.Runs.{GoTogether}
use Rattle.law_machines.specs.FakedStarts.{BeginToRunFaked, CanComeAlikeFaked, FakedStartsCanRun, with_faking}
use Rattle.law_machines.specs.Starts.{IsOfByteWords}
use Rattle.law_machines.specs.Tables.{IsMadeOfBytes}
use Rattle.law_machines.proofs.BeginLemmas.{TracesBytes, mounted-bytes, rows-of-bytes, traces-bytes}
use Rattle.law_machines.proofs.TableLemmas.{openings-are-made-of-bytes}
use Rattle.law_machines.proofs.WatchedLemmas.{beginning_watched}

module _ (table : List Row) (tree : Tree) (user : User) (uid gid : ℕ) (launch : Launch) (input : List ℕ) (words : IsOfByteWords launch) (are : AreBytes input) where
  abbrev f : Faking
  f = starting_faking user uid gid

  go-on : IsOpening tree user table → (m : Machine Watch) (n : Machine Tracing) → beginning table tree user (Faked f) launch input ≡ Ok m → traced_beginning (texts_of table) tree user (Some (uid, gid)) launch input ≡ Ok n
      → GoTogether tags_kept table 0 m n → CanComeAlikeFaked table (with_faking f m) n
  go-on opening m n is also together =
      let made : IsMadeOfBytes table = openings-are-made-of-bytes table tree user opening in
      let traces : TracesBytes table user (Some (uid, gid)) n = traces-bytes table tree user launch input opening.kept.bytes words are made.texts (Some (uid, gid)) n also in
      record {
        together = record { matches = record { states = together.matches.states; statuses = together.matches.statuses }; lasts = together.lasts; also_lasts = together.also_lasts };
        can = record { named = opening.prepared.named; bytes = made.rows; fakes = fakers-watch-bytes; watches = tracers-watch-bytes; untold = λ x sound. sound };
        keeps = record {
          bytes = mounted-bytes table tree user launch input opening.kept.bytes words are (Faked f) made.rows m is;
          also_bytes = traces.bytes;
          agree = sym (λ j. (traces.bindings j, traces.user j, traces.identities j, true, rows-of-bytes table made.texts traces.bindings j));
        };
      }

pub faked-starts-can-run : FakedStartsCanRun
faked-starts-can-run table tree user uid gid launch input opening calm words are =
    by (beginning table tree user (Faked (starting_faking user uid gid)) launch input) refl (traced_beginning (texts_of table) tree user (Some (uid, gid)) launch input) refl
    (starts-go-together table tree user (Faked (starting_faking user uid gid)) (Some (uid, gid)) launch input opening calm)
  where
    by : (r : Result (Machine Watch) Errno) → beginning table tree user (Faked (starting_faking user uid gid)) launch input ≡ r → (q : Result (Machine Tracing) Errno) → traced_beginning (texts_of table) tree user (Some (uid, gid)) launch input ≡ q
        → ComeTogether table r q → BeginToRunFaked table r q
    by (Ok m) is (Ok n) also together =
        (starting_faking user uid gid, beginning_watched table tree user (Faked (starting_faking user uid gid)) launch input m is, go-on table tree user uid gid launch input words are opening m n is also together)
    by (Ok m) is (Err f) also never = never
    by (Err e) is (Ok n) also never = never
    by (Err e) is (Err f) also same = same
