-- The states in which the first process begins: on a kernel with mounts, and on the plain kernel at the same objects of the host.
use Rattle.std.specs.FinMap as map
use Rattle.std.specs.Prelude.{ℕ, List}
use Rattle.pr_start.specs.pr_base.Texts.{Text}
use Rattle.pr_start.specs.pt_bind.Binding.{index_of}
use Rattle.pr_start.specs.pt_bind.Tags.{TagTable, with_tag}
use Rattle.pr_start.specs.pt_bind.declared.slot.Slot.TheVariants as slot
use Rattle.pr_start.specs.kr_inode.declared.user.User.{User}
use Rattle.pr_start.specs.kr_tree.Lawful.{IsKept}
use Rattle.pr_start.specs.kr_tree.Tree.{Tree}
use Rattle.pr_start.specs.kr_tree.declared.place.Host.TheVariants.{Node}
use Rattle.pr_start.specs.kr_view.HostReach.{host_place}
use Rattle.pr_start.specs.kr_view.View.{Row, plain}
use Rattle.pr_start.specs.kr_mounts.Standing.{texts_of}
use Rattle.law_turns.specs.kr_model.State.{Image, State}
use Rattle.law_programs.specs.kr_perform.Lawful.{LastsLawful}
use Rattle.pr_start.specs.kr_start.Start.{CanBegin, First, first_pid, pinned, started, without_processes}
use Rattle.pr_start.specs.kr_start.Ready.{IsPrepared}
use Rattle.law_turns.specs.law_walks.Settled.{host_text}
use Rattle.law_turns.specs.law_walks.Standing.{IsEntryAt, StandsOn}
use Rattle.law_turns.specs.law_places.Matching.{IsMatch}
use Rattle.law_turns.specs.law_places.Standing.{AreSourcesNamed}
use Rattle.law_programs.specs.Images.{IsImage}
use Rattle.law_starts.specs.Spaces.{first_space}

-- a tree that is kept, with mounts on which a kernel can begin. Each source is the entry at which it was settled
pub record IsOpening (tree : Tree) (user : User) (table : List Row) : Type 0 where
  pub kept : IsKept tree
  pub prepared : IsPrepared tree user table
  pub sources : AreSourcesNamed table tree

-- a first process that begins at the guest texts of its working directory and of its program
pub record BeginsAt (table : List Row) (tree : Tree) (user : User) (first : First ℕ) (working program : Text) : Type 0 where
  pub begins : CanBegin (λ m. m) table tree first
  pub image : IsImage first.image
  pub cwd : StandsOn (first_space table tree user) first.cwd working
  pub exe : StandsOn (first_space table tree user) first.exe program
  pub entry : IsEntryAt (first_space table tree user) (host_text (first_space table tree user) program) (Node first.exe_dir) first.exe_name

-- the same process, on the host alone
abbrev pub on_host : First ℕ → First ℕ
on_host first = record {
  image = first.image;
  brk = first.brk;
  cwd = host_place first.cwd.host;
  exe = host_place first.exe.host;
  exe_dir = first.exe_dir;
  exe_name = first.exe_name;
}

-- the tags of the first process: the indices of its two guest texts
abbrev pub first_tags : List Row → Text → Text → TagTable
first_tags table working program =
    let tags : TagTable = with_tag map.empty first_pid slot.Cwd (index_of (texts_of table) working) in
    with_tag tags first_pid slot.Exe (index_of (texts_of table) program)

-- the state in which it begins
abbrev pub first_state : List Row → Tree → User → List ℕ → First ℕ → State ℕ Image
first_state table tree user input first = started first (without_processes (pinned table tree) user input)

-- ---- laws

abbrev pub FirstStatesMatch : Type 0
FirstStatesMatch =
    (table : List Row) (tree : Tree) (user : User) (input : List ℕ) (first : First ℕ) (working program : Text) → IsOpening tree user table → BeginsAt table tree user first working program
    → IsMatch table (first_tags table working program) (first_state table tree user input first) (first_state plain tree user input (on_host first))

pub record BothLast (table : List Row) (one other : State ℕ Image) : Type 0 where
  pub lasts : LastsLawful (λ m. m) table 0 one
  pub also_lasts : LastsLawful (λ m. m) plain 0 other

abbrev pub FirstStatesLast : Type 0
FirstStatesLast =
    (table : List Row) (tree : Tree) (user : User) (input : List ℕ) (first : First ℕ) → IsOpening tree user table → CanBegin (λ m. m) table tree first → IsImage first.image
    → BothLast table (first_state table tree user input first) (first_state plain tree user input (on_host first))
