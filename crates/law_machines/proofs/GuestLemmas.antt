-- What a tracer finds before a process lives, and hands to the plain kernel, is made of bytes.
use Rattle.std.proofs.Common.{ℕ, Bool, true, false, ◌∷◌, [], List, arith, cond, Option, Some, None}
use Rattle.std.specs.Prelude.{Err, IfOk, IfSome, Ok, Result}
use Rattle.pr_top.specs.pr_base.Paths.{dot}
use Rattle.pr_top.specs.pr_base.declared.errno.Errno.{Errno}
use Rattle.pr_top.specs.pr_base.declared.errno.Errno.TheVariants.{E2BIG}
use Rattle.pr_top.specs.pr_base.declared.path.WalkMode.TheVariants.{Look}
use Rattle.pr_top.specs.pr_words.Command.{arguments, candidate, directories, has_slash, path_of, word_of}
use Rattle.pr_top.specs.pr_words.declared.launch.Launch.{Launch}
use Rattle.law_starts.specs.pt_bind.Binding.{names_of}
use Rattle.law_starts.specs.pt_canon.TextWalk.{TextSurroundings}
use Rattle.law_starts.specs.pt_canon.declared.canon.Canon.{Canon}
use Rattle.law_starts.specs.pt_args.Walks.{and_then}
use Rattle.law_starts.specs.pt_script.Expanding.{expanded_from}
use Rattle.law_starts.specs.pt_script.Programs.{canon_from, program_from}
use Rattle.law_starts.specs.pt_script.declared.expansion.Expanded.{Expanded}
use Rattle.law_starts.specs.pt_script.declared.program.Program.{Program}
use Rattle.law_starts.specs.kr_calls.Expansion.{bytes_with_ends}
use Rattle.law_starts.specs.kr_exec.Exec.{are_too_big}
use Rattle.law_starts.specs.kr_first.Starting.{is_walked, path_errno}
use Rattle.pr_top.specs.kr_inode.declared.user.User.{User}
use Rattle.law_starts.specs.kr_model.Peeks.{head_at}
use Rattle.pr_top.specs.kr_tree.Lawful.{AreBytes, HasBytes as TreeHasBytes}
use Rattle.pr_top.specs.kr_tree.Tree.{Tree}
use Rattle.pr_top.specs.kr_tree.declared.place.Host.{Host}
use Rattle.pr_top.specs.kr_tree.declared.place.Host.TheVariants.{Node, Proc}
use Rattle.law_starts.specs.pt_first.FirstPeeks.{answer_along, first_peeked, link_text_at}
use Rattle.law_starts.specs.pt_first.GuestStart.{begun, chosen, directory_at, guest_start, handed, is_there, root_text, run_from, run_with, searched, started_at, text_or_root, working_directory}
use Rattle.law_starts.specs.pt_first.declared.begun.Begun.{Begun}
use Rattle.law_starts.specs.law_kept.Bytes.{AreAllBytes}
use Rattle.law_machines.proofs.LookLemmas.{AreOfBytes}
use Rattle.law_machines.proofs.PeekLemmas.{TellsBytes, head-bytes, read-bytes, text-of-inode}
use Rattle.law_machines.proofs.PlanLemmas.{either-ok, then-gives}
use Rattle.law_machines.proofs.ProgramLemmas.{ShowsBytes, expansions-show-bytes}
use Rattle.law_machines.proofs.TextLemmas.{names-bytes}
use Rattle.law_machines.proofs.WalkLemmas.{CanonHasBytes, canons-have-bytes}
use Rattle.law_machines.specs.Starts.{IsOfByteWords}
use Rattle.law_machines.proofs.LaunchLemmas.{arguments-bytes, candidate-bytes, directories-bytes, word-bytes}

-- ---- what is told before a process lives

link-bytes : (tree : Tree) (user : User) → TreeHasBytes tree → (h : Host) → IfOk (link_text_at tree h) AreBytes
link-bytes tree user has (Node i) = text-of-inode tree user has i
link-bytes tree user has (Proc i at) = tt

pub first-peeks-tell-bytes : (tree : Tree) (user : User) → TreeHasBytes tree → TellsBytes (first_peeked tree user)
first-peeks-tell-bytes tree user has = record {
  link_text = λ path. read-bytes (link_text_at tree) (link-bytes tree user has) (answer_along tree user path);
  head = λ path n. read-bytes (head_at tree user n) (head-bytes tree user has n) (answer_along tree user path);
  base_name = λ pid fd. tt;
  cwd_name = λ pid. tt;
  exe_name = λ pid. tt;
}

-- ---- what is found

-- a program that is too big isn't shown
abbrev too_big : Program → Result Expanded Errno
too_big program = Err E2BIG

refused-gives : (r : Result Program Errno) → IfOk (and_then r too_big) ShowsBytes
refused-gives (Ok program) = tt
refused-gives (Err e) = tt

-- what begins
pub record BeginsByBytes (b : Begun) : Type 0 where
  pub path : AreBytes b.first.path
  pub args : AreAllBytes b.first.args
  pub env : AreAllBytes b.first.env

module _ (texts : TextSurroundings) (of_bytes : AreOfBytes texts) where
  root-text-bytes : AreBytes root_text
  root-text-bytes = (omega arith, tt)

  canon-bytes : (path base : List ℕ) → AreBytes path → AreBytes base → IfOk (canon_from texts path base) CanonHasBytes
  canon-bytes path base are own = canons-have-bytes texts of_bytes Look (names_of base) path (names-bytes base own) are

  directory-bytes : (path : List ℕ) → AreBytes path → IfOk (directory_at texts path) CanonHasBytes
  directory-bytes path are =
      then-gives CanonHasBytes CanonHasBytes (λ canon. canon_from texts dot canon.guest) (canon_from texts path root_text) (canon-bytes path root_text are root-text-bytes)
      (λ canon has. canon-bytes dot canon.guest (omega arith, tt) has.guest)

  working-bytes : (path : List ℕ) → AreBytes path → AreBytes (working_directory texts path)
  working-bytes path are = by (is_walked path)
    where
      told : (r : Result Canon Errno) → IfOk r CanonHasBytes → AreBytes (text_or_root r)
      told (Ok canon) has = has.guest
      told (Err e) has = root-text-bytes

      by : (b : Bool) → AreBytes (cond b (text_or_root (directory_at texts path)) root_text)
      by true = told (directory_at texts path) (directory-bytes path are)
      by false = root-text-bytes

  module _ (working : List ℕ) (own : AreBytes working) where
    searched-bytes : (word : List ℕ) (dirs : List (List ℕ)) → AreBytes word → AreAllBytes dirs → IfSome (searched texts working word dirs) AreBytes
    unfolding searched
    searched-bytes word [] are all = tt
    searched-bytes word (dir ∷ dirs) are all = by (is_there texts working (candidate dir word)) (searched-bytes word dirs are all.1)
      where
        by : (b : Bool) → IfSome (searched texts working word dirs) AreBytes → IfSome (cond b (Some (candidate dir word)) (searched texts working word dirs)) AreBytes
        by true later = candidate-bytes dir word all.0 are
        by false later = later

    chosen-bytes : (env : List (List ℕ)) (word : List ℕ) → AreAllBytes env → AreBytes word → IfSome (chosen texts working env word) AreBytes
    chosen-bytes env word all are = by (has_slash word)
      where
        by : (b : Bool) → IfSome (cond b (Some word) (searched texts working word (directories (path_of env)))) AreBytes
        by true = are
        by false = searched-bytes word (directories (path_of env)) are (directories-bytes env all)

    with-bytes : (args env : List (List ℕ)) (path : List ℕ) → AreAllBytes args → AreBytes path → IfOk (run_with texts working args env path) ShowsBytes
    with-bytes args env path args_are are =
        either-ok ShowsBytes (are_too_big args env) (and_then (program_from texts (Some working) path) too_big) (expanded_from texts (Some working) (bytes_with_ends env) path args)
        (refused-gives (program_from texts (Some working) path)) (expansions-show-bytes texts of_bytes (Some working) own (bytes_with_ends env) path args are args_are)

    runs-show-bytes : (args env : List (List ℕ)) (path : List ℕ) → AreAllBytes args → AreBytes path → IfOk (run_from texts working args env path) ShowsBytes
    runs-show-bytes args env path args_are are =
        either-ok ShowsBytes (is_walked path) (and_then (handed texts working path) (λ canon. run_with texts working args env path)) (Err (path_errno path)) (by (handed texts working path)) tt
      where
        by : (r : Result Canon Errno) → IfOk (and_then r (λ canon. run_with texts working args env path)) ShowsBytes
        by (Ok canon) = with-bytes args env path args_are are
        by (Err e) = tt

  -- ---- what begins

  started-bytes : (working : List ℕ) → AreBytes working → (launch : Launch) → IsOfByteWords launch → (o : Option (List ℕ)) → IfSome o AreBytes → IfOk (started_at texts working launch o) BeginsByBytes
  started-bytes working own launch words None are = tt
  started-bytes working own launch words (Some path) are =
      then-gives ShowsBytes BeginsByBytes (λ program. Ok (begun texts.bindings launch.env launch.ids working program)) (run_from texts working (arguments launch.command) launch.env path)
      (runs-show-bytes working own (arguments launch.command) launch.env path (arguments-bytes launch.command words.command) are) (λ program shows. record { path = shows.host; args = shows.args; env = words.env })

  pub guests-begin-by-bytes : (launch : Launch) → IsOfByteWords launch → IfOk (guest_start texts launch) BeginsByBytes
  guests-begin-by-bytes launch words =
      let working = working_directory texts launch.cwd in
      let own = working-bytes launch.cwd words.cwd in
      started-bytes working own launch words (chosen texts working launch.env (word_of launch.command)) (chosen-bytes working own launch.env (word_of launch.command) words.env (word-bytes launch.command words.command))
