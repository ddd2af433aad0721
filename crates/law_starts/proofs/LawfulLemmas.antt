-- The states in which the first process begins are lawful, with what lasts.
use Rattle.std.specs.FinMap as map
use Rattle.std.proofs.Common.{◌≡◌, ℕ, true, false, List, IsSome, refl, sym, ap, ◌∙◌, arith}
use Rattle.std.specs.Prelude.{is_some, nat_lt}
use Rattle.std.specs.Ordering.{nat_cmp}
use Rattle.std.proofs.lemmas.Bool.Decides.{nat_tests}
use Rattle.pr_start.specs.kr_inode.declared.user.User.{User}
use Rattle.pr_start.specs.kr_tree.Lawful.{IsKept}
use Rattle.pr_start.specs.kr_tree.Tree.{Tree}
use Rattle.law_turns.specs.kr_files.declared.opened.What.TheVariants.{In, Out, Err}
use Rattle.pr_start.specs.kr_view.View.{Row, StandsIn, plain}
use Rattle.pr_start.proofs.kr_view.TableLemmas.{plain_stands}
use Rattle.pr_start.specs.kr_start.Beginning.{CanLast}
use Rattle.law_turns.specs.kr_model.Applied.{open_in}
use Rattle.law_turns.specs.kr_model.Lawful.{IsLawful}
use Rattle.law_turns.specs.kr_model.State.{Image, State, process}
use Rattle.law_programs.specs.kr_perform.Lawful.{LastsLawful}
use Rattle.pr_start.specs.kr_start.Start.{AreOpenBelow, CanBegin, First, HasNoHolds, IsIdle, console, first_pid, pinned, with_first, without_processes}
use Rattle.pr_start.proofs.kr_start.ConsoleLemmas.{open-next, part-lawful, still-lives}
use Rattle.pr_start.proofs.kr_start.LastLemmas.{starts-last}
use Rattle.pr_start.proofs.kr_start.StartLemmas.{born-lawful, can-begin, empty-lawful}
use Rattle.law_starts.specs.FirstStates.{FirstStatesLast, first_state, on_host}
use Rattle.law_programs.specs.Images.{IsImage}

module _ (table : List Row) (tree : Tree) (user : User) (input : List ℕ) (first : First ℕ) (kept : IsKept tree) (stands : StandsIn tree table) (free : HasNoHolds tree) (begins : CanBegin (λ m. m) table tree first) (image : IsImage first.image) where
  abbrev before : State ℕ Image
  before = without_processes (pinned table tree) user input

  abbrev born : State ℕ Image
  born = with_first first before

  pub before-lawful : IsLawful (λ m. m) table before
  before-lawful = empty-lawful (λ m. m) table tree user input kept stands free

  idle : IsIdle before
  idle = record { living = refl; ended = refl; files = refl; next_pid = refl }

  born-is : IsLawful (λ m. m) table born
  born-is = born-lawful (λ m. m) table before before-lawful idle first (can-begin (λ m. m) table tree user input kept stands free first begins) image.whole image.paged image.pages

  -- ---- the console

  none-open : AreOpenBelow 0 born
  none-open fd = ap is_some (map.get-empty nat_cmp fd) ∙ sym (none fd)
    where
      none : (fd : ℕ) → nat_lt fd 0 ≡ false
      none fd = grind (arith, nat_tests)

  abbrev m : ℕ
  m = first.cwd.mount

  abbrev with_in : State ℕ Image
  with_in = open_in first_pid 0 false (console In true false) m born

  abbrev with_out : State ℕ Image
  with_out = open_in first_pid 1 false (console Out false true) m with_in

  born-lives : IsSome (process first_pid born)
  born-lives = refl

  in-lives : IsSome (process first_pid with_in)
  in-lives = still-lives born born-lives 0 (console In true false) m

  out-lives : IsSome (process first_pid with_out)
  out-lives = still-lives with_in in-lives 1 (console Out false true) m

  in-open : AreOpenBelow 1 with_in
  in-open = open-next born born-lives 0 (console In true false) m none-open

  out-open : AreOpenBelow 2 with_out
  out-open = open-next with_in in-lives 1 (console Out false true) m in-open

  in-lawful : IsLawful (λ m. m) table with_in
  in-lawful = part-lawful (λ m. m) table born with_in born-is born-lives 0 (omega arith) none-open In true false refl (λ k. refl)

  out-lawful : IsLawful (λ m. m) table with_out
  out-lawful = part-lawful (λ m. m) table with_in with_out in-lawful in-lives 1 (omega arith) in-open Out false true refl (λ k. refl)

  pub state-lawful : IsLawful (λ m. m) table (first_state table tree user input first)
  state-lawful = part-lawful (λ m. m) table with_out (first_state table tree user input first) out-lawful out-lives 2 (omega arith) out-open Err false true refl (λ k. refl)

  -- ---- what lasts

  pub state-lasts : CanLast tree user → LastsLawful (λ m. m) table 0 (first_state table tree user input first)
  state-lasts can = record {
    lawful = state-lawful;
    lasts = (starts-last ℕ).begun first before idle ((starts-last ℕ).before table tree user input can);
  }

-- what begins over mounts can begin on the host
pub host-begins : (table : List Row) (tree : Tree) (first : First ℕ) → CanBegin (λ m. m) table tree first → CanBegin (λ m. m) plain tree (on_host first)
host-begins table tree first begins = record {
  cwd = (record { mounted = refl; object = begins.cwd.0.object }, begins.cwd.1);
  exe = (record { mounted = refl; object = begins.exe.0.object }, begins.exe.1);
  exe_name = begins.exe_name;
  break = begins.break;
}

pub first-states-last : FirstStatesLast
first-states-last table tree user input first opening begins image =
    let prepared = opening.prepared in
    record {
      lasts = state-lasts table tree user input first opening.kept prepared.stands prepared.free begins image prepared.lasts;
      also_lasts =
          state-lasts plain tree user input (on_host first) opening.kept (plain_stands tree opening.kept.sound).0 prepared.free (host-begins table tree first begins) image prepared.lasts;
    }
