-- The opening: the first refusal in the order of the words, the sources, the bindings and the start, or a run that begins. It is a function of
-- the words and of the bytes that the sources gave; a generated case needs none.
use Rattle.std.specs.Prelude.{◌≡◌, ◌⊎◌, ℕ, Bool, false, List, [], codes, Option, Some, None, IfOk, Result, Ok, Err, if◌then◌else◌, ◌∷◌, true}
use Rattle.pr_start.specs.pr_base.declared.errno.Errno.{Errno}
use Rattle.pr_start.specs.kr_tree.Tree.{Tree}
use Rattle.pr_start.specs.kr_view.View.{Row, plain}
use Rattle.pr_start.specs.kr_core.Kernel as kernel
use Rattle.pr_start.specs.kr_core.Kernel.{HasNoTurn}
use Rattle.pr_run.specs.kr_mounts.declared.mount.Mount.{Mount}
use Rattle.pr_run.specs.kr_mounts.declared.mounted.MountNumber.{MountNumber}
use Rattle.pr_start.specs.kr_start.declared.stage.Stage.{Stage as StageOfCode}
use Rattle.pr_run.specs.kr_mounts.MountTable.{Refusal, Settling, settling}
use Rattle.pr_run.specs.kr_mounts.Standing.{texts_of}
use Rattle.pr_run.specs.kr_mounts.Stored.{table_of}
use Rattle.pr_start.specs.kr_first.declared.starting.StartFault.{StartFault}
use Rattle.pr_start.specs.kr_first.declared.starting.StartFault.TheVariants as fault
use Rattle.pr_start.specs.kr_inode.declared.user.User.{User}
use Rattle.pr_run.specs.pr_sources.declared.answer.Answer.{Answer}
use Rattle.pr_run.specs.pr_sources.declared.answer.Answer.TheVariants.{BadBind, NoMemory, NoStart, ReadFault, TooLong, TreeBad, Usage}
use Rattle.pr_run.specs.pr_sources.Within.{IsEarly, and_then}
use Rattle.pr_run.specs.pr_sources.Asking.{asked}
use Rattle.pr_run.specs.pr_sources.Reading.{IsRead, listed, read_asked}
use Rattle.pr_run.specs.pr_sources.declared.reading.Asked.{Asked}
use Rattle.pr_start.specs.Beginning.{beginning, told_with}
use Rattle.pr_start.specs.Machines.{Faked, Machine, Nobody, Ran, Watch, machine, run, starting_faking, watch}
use Rattle.pr_start.specs.TracedBeginning.{TracedKernel, Tracing, asks, start_meets, traced_beginning, traced_machine, tracer}
use Rattle.pr_start.specs.Numbers.{number_of}
use Rattle.pr_start.specs.pr_words.declared.launch.Launch.{Launch}
use Rattle.pr_gen.specs.Case.{case_binds, case_command, case_root}
use Rattle.pr_gen.specs.Guest.{guest}
use Rattle.pr_gen.specs.Listing.{case_listing}
use Rattle.pr_start.specs.pr_words.declared.options.Options.{Options}
use Rattle.pr_start.specs.pr_words.declared.options.Slot.{Slot}
use Rattle.pr_run.specs.pr_io.Drawn.{Received}
use Rattle.pr_run.specs.Case.{case_report_of}
use Rattle.pr_run.specs.kr_loose.LooseRun.{LooseRan}
use Rattle.pr_run.specs.Puts.{AnswersReport}
use Rattle.pr_run.specs.Report.{Report, report_of}
use Rattle.pr_run.specs.Slots.{IsPlan, slot_of}
use Rattle.pr_run.specs.Stepping.{AnswersLoosely, HasNoStep, TellsQuiet, loose_ran, loose_report, loose_report_with}
use Rattle.pr_run.specs.declared.plan.Plan.{Plan}
use Rattle.pr_top.specs.declared.opening.Kind.{Kind}
use Rattle.pr_top.specs.declared.opening.Kind.TheVariants as kind
use Rattle.pr_top.specs.declared.opening.Opened.{Opened}

-- ---- a run that begins

-- the machine before its first turn: a kernel over mounts, with those that stand; or a plain kernel with its tracer; or that by single steps, with
-- whether the walks of its start looked up a name in the process directory; or both of the first two, for the generated case of a number
pub data Started : Type 0 where
  Mounts : List Row → Machine Watch → Started
  Traced : Machine Tracing → Started
  Loosely : Bool → Machine Tracing → Started
  Both : ℕ → Machine Tracing → List Row → Machine Watch → Started

-- with what the run is made by
pub record Begun : Type 0 where
  pub plan : Plan
  pub started : Started

-- the run on the kernel with mounts, whose shelves are marked so that it is told whether the run is calm
abbrev pub mounted_run : Plan → List Row → Machine Watch → Ran Watch
mounted_run plan table m = run watch 1 table (slot_of plan.schedule) plan.turns m

-- and the run that a tracer watches, on a kernel that knows of no root and no binding
abbrev pub traced_run : Plan → Machine Tracing → Ran Tracing
traced_run plan m = run tracer 0 plain (slot_of plan.schedule) plan.turns m

-- and the same by single steps
abbrev pub loose_traced_run : Plan → Machine Tracing → LooseRan Tracing
loose_traced_run plan m = loose_ran tracer 0 plain plan m

-- of a loose run all but its line
abbrev pub report_on : Plan → Started → Report
report_on plan (Mounts table m) = report_of plan (mounted_run plan table m)
report_on plan (Traced m) = report_of plan (traced_run plan m)
report_on plan (Loosely met m) = loose_report_with plan (loose_traced_run plan m) []
report_on plan (Both n m table k) = case_report_of n plan.user (traced_run plan m) (mounted_run plan table k)

abbrev pub report : Begun → Report
report b = report_on b.plan b.started

-- what is answered and put of it: its report, of a loose run one with the line that is so of its steps
abbrev pub AnswersStarted : Plan → Started → (out err left : Received) → Answer → Type 0
AnswersStarted plan (Loosely met m) out err left answer = AnswersLoosely (loose_report plan (loose_traced_run plan m)) (TellsQuiet asks 0 plain met (loose_traced_run plan m)) out err left answer
AnswersStarted plan s out err left answer = AnswersReport (report_on plan s) out err left answer

abbrev pub AnswersBegun : Begun → (out err left : Received) → Answer → Type 0
AnswersBegun b out err left answer = AnswersStarted b.plan b.started out err left answer

-- ---- bindings and the start

abbrev pub plan_of : Asked → Plan
plan_of a = record { turns = a.options.turns; schedule = a.options.schedule; calm = a.options.calm; user = a.user }

-- who a program is told that it runs as: the host's user, or whom an identity option names
abbrev pub ids_for : User → Option (ℕ × ℕ) → ℕ × ℕ
ids_for user None = (user.uid, user.gid)
ids_for user (Some ids) = ids

-- and who watches its calls
abbrev pub watch_for : User → Option (ℕ × ℕ) → Watch
watch_for user None = Nobody
watch_for user (Some ids) = Faked (starting_faking user ids.0 ids.1)

abbrev pub launch_of : Asked → Launch
launch_of a = record { command = a.options.command; env = a.options.env; cwd = a.options.cwd; ids = ids_for a.user a.options.ids }

abbrev pub started_as : {S : Type 0} → (Machine S → Started) → Result (Machine S) Errno → Result Started Errno
started_as made (Ok m) = Ok (made m)
started_as made (Err e) = Err e

-- the kernel mounts the bindings itself where that is asked for; else a tracer rewrites the paths of calls
abbrev pub started_on : Bool → List Row → Tree → User → Option (ℕ × ℕ) → Launch → List ℕ → Result Started Errno
started_on native table tree user ids launch input =
    if native then started_as (Mounts table) (beginning table tree user (watch_for user ids) launch input)
    else started_as Traced (traced_beginning (texts_of table) tree user ids launch input)

abbrev pub begun_as : Plan → Result Started Errno → Result Begun Answer
begun_as plan (Ok started) = Ok (record { plan = plan; started = started })
begun_as plan (Err e) = Err (NoStart e)

abbrev pub over : Asked → Tree → Result (List Row) Refusal → Result Begun Answer
over a tree (Ok table) = begun_as (plan_of a) (started_on a.options.native table tree a.user a.options.ids (launch_of a) a.input)
over a tree (Err refusal) = Err (BadBind refusal.index refusal.why)

abbrev pub on_settled : Asked → Settling → Result Begun Answer
on_settled a s = over a s.tree s.answer

-- the bindings are settled over the tree that was read, and the command is started over them
abbrev pub begun : Asked → Result Begun Answer
begun a = on_settled a (settling a.tree a.user a.options.root a.options.binds)

-- ---- single steps

abbrev pub gives_slots : List Slot → Bool
gives_slots [] = false
gives_slots (slot ∷ slots) = true

-- those of single steps where some are given, else those of turns
abbrev pub slots_for : (schedule loose : List Slot) → List Slot
slots_for schedule [] = schedule
slots_for schedule (slot ∷ slots) = slot ∷ slots

abbrev pub loosened_plan : List Slot → Plan → Plan
loosened_plan loose plan = record { turns = plan.turns; schedule = slots_for plan.schedule loose; calm = plan.calm; user = plan.user }

-- whether the walks of a start with a tracer look up a name in the process directory
abbrev pub meets_over : Asked → Tree → Result (List Row) Refusal → Bool
meets_over a tree (Ok table) = start_meets (texts_of table) tree a.user (launch_of a)
meets_over a tree (Err refusal) = false

abbrev pub meets_on : Asked → Settling → Bool
meets_on a s = meets_over a s.tree s.answer

abbrev pub meets : Asked → Bool
meets a = meets_on a (settling a.tree a.user a.options.root a.options.binds)

abbrev pub stepwise : Bool → Bool → Started → Started
stepwise true met (Traced m) = Loosely met m
stepwise true met (Mounts table m) = Mounts table m
stepwise true met (Loosely already m) = Loosely already m
stepwise true met (Both n m table k) = Both n m table k
stepwise false met s = s

abbrev pub stepwise_start : Bool → Bool → Result Started Errno → Result Started Errno
stepwise_start steps met (Ok s) = Ok (stepwise steps met s)
stepwise_start steps met (Err e) = Err e

-- what is begun with a tracer goes by single steps where their slots are given
abbrev pub stepwise_begun : List Slot → Bool → Result Begun Answer → Result Begun Answer
stepwise_begun loose met (Ok b) = Ok (record { plan = loosened_plan loose b.plan; started = stepwise (gives_slots loose) met b.started })
stepwise_begun loose met (Err answer) = Err answer

abbrev pub begins : Asked → Result Begun Answer
begins a = stepwise_begun a.options.loose (meets a) (begun a)

-- ---- a generated case

-- what both of its machines begin on: the tree in which its bindings are settled, its user, and the mounts that stand
pub record Staged : Type 0 where
  pub tree : Tree
  pub user : User
  pub table : List Row

abbrev pub staged_over : User → Tree → Result (List Row) Refusal → Result Staged Answer
staged_over user tree (Ok table) = Ok (record { tree = tree; user = user; table = table })
staged_over user tree (Err refusal) = Err (BadBind refusal.index refusal.why)

abbrev pub staged_on : User → Settling → Result Staged Answer
staged_on user s = staged_over user s.tree s.answer

-- its bindings are settled over the tree of its listing
abbrev pub staged_of : Result (Tree × User) Answer → Result Staged Answer
staged_of (Ok read) = staged_on read.1 (settling read.0 read.1 case_root case_binds)
staged_of (Err answer) = Err answer

abbrev pub case_staged : ℕ → Result Staged Answer
case_staged n = staged_of (listed (guest n) (case_listing n))

-- its command is started in the root, with no environment and no input, as the tree's user
abbrev pub case_launch : User → Launch
case_launch user = record { command = case_command; env = []; cwd = codes "/"; ids = (user.uid, user.gid) }

abbrev pub watched_start : Staged → Result (Machine Tracing) Errno
watched_start s = traced_beginning (texts_of s.table) s.tree s.user None (case_launch s.user) []

abbrev pub mounted_start : Staged → Result (Machine Watch) Errno
mounted_start s = beginning s.table s.tree s.user Nobody (case_launch s.user) []

-- both machines begin, the watched one first
abbrev pub started_both : ℕ → List Row → Result (Machine Tracing) Errno → Result (Machine Watch) Errno → Result Started Errno
started_both n table (Ok m) (Ok k) = Ok (Both n m table k)
started_both n table (Ok m) (Err e) = Err e
started_both n table (Err e) k = Err e

-- as many turns and by the same slots as the words say
abbrev pub case_plan : Options → User → Plan
case_plan o user = record { turns = o.turns; schedule = o.schedule; calm = false; user = user }

abbrev pub begun_both : ℕ → Options → Result Staged Answer → Result Begun Answer
begun_both n o (Ok s) = begun_as (case_plan o s.user) (started_both n s.table (watched_start s) (mounted_start s))
begun_both n o (Err answer) = Err answer

abbrev pub case_begun : ℕ → Options → Result Begun Answer
case_begun n o = begun_both n o (case_staged n)

-- ---- the whole

-- no source is read for a generated case
abbrev pub opened_for : Option ℕ → Options → List ℕ → List ℕ → List ℕ → Result Begun Answer
opened_for (Some n) options tree elf input = case_begun n options
opened_for None options tree elf input = and_then (read_asked options tree elf input) (λ asked. begins asked)

abbrev pub opening : List (List ℕ) → List ℕ → List ℕ → List ℕ → Result Begun Answer
opening words tree elf input = and_then (asked words) (λ options. opened_for options.case options tree elf input)

-- ---- what the opening's code answers

abbrev pub MountedKernel : Type 0
MountedKernel = kernel.Kernel (List Mount) Watch MountNumber 1

abbrev pub started_told : Kind → Started
started_told (kind.Mounts k) = Mounts (table_of k.places) (machine number_of k)
started_told (kind.Unmarked k rule) = Mounts (table_of k.places) (told_with k rule)
started_told (kind.Traced k) = Traced (traced_machine k)
started_told (kind.Loosely l) = Loosely l.kernel.met (traced_machine l.kernel)
started_told (kind.Both n watched mounted) = Both n (traced_machine watched) (table_of mounted.places) (machine number_of mounted)

abbrev pub begun_told : Opened → Begun
begun_told o = record { plan = o.plan; started = started_told o.kind }

-- a machine is started as it is expected, or its error is answered, but for want of memory
abbrev pub StartsAs : Result Started Errno → Result Kind StartFault → Type 0
StartsAs expected (Ok k) = expected ≡ Ok (started_told k)
StartsAs expected (Err (fault.Err e)) = expected ≡ Err e
StartsAs expected (Err fault.NoMemory) = Unit {0}

-- a kernel before its first turn
abbrev pub IsFresh : Kind → Type 0
IsFresh (kind.Mounts k) = HasNoTurn k
IsFresh (kind.Unmarked k rule) = HasNoTurn k
IsFresh (kind.Traced k) = HasNoTurn k
IsFresh (kind.Loosely l) = HasNoStep (λ keeping t. asks keeping.tracing t) plain l.kernel l.judge
IsFresh (kind.Both n watched mounted) = HasNoTurn watched × HasNoTurn mounted

-- marks are kept where it is asked whether a run is calm
abbrev pub IsMarkedFor : Bool → Kind → Type 0
IsMarkedFor calm (kind.Unmarked k rule) = calm ≡ false
IsMarkedFor calm _ = Unit {0}

pub record IsReadyToRun (o : Opened) : Type 0 where
  pub fresh : IsFresh o.kind
  pub marked : IsMarkedFor o.plan.calm o.kind
  pub plan : IsPlan o.plan

-- a begun run or a refusal is answered as it is expected, or an early end
abbrev pub OpensFrom : Result Begun Answer → Result Opened Answer → Type 0
OpensFrom expected (Ok opened) = expected ≡ Ok (begun_told opened)
OpensFrom expected (Err answer) = (expected ≡ Err answer) ⊎ IsEarly answer

-- what the words ask for of the sources, where that isn't refused, was read
abbrev pub WasRead : Result Asked Answer → Type 0
WasRead asked_for = IfOk asked_for IsRead

-- but for an early end
abbrev pub ReadsAs : Result Asked Answer → Result Opened Answer → Type 0
ReadsAs asked_for (Ok opened) = WasRead asked_for
ReadsAs asked_for (Err answer) = WasRead asked_for ⊎ IsEarly answer

-- and so are the parts of a generated case
abbrev pub staged_told : StageOfCode → Staged
staged_told s = record { tree = s.tree; user = s.user; table = table_of s.places }

abbrev pub StagesAs : Result Staged Answer → Result (StageOfCode × Launch) Answer → Type 0
StagesAs expected (Ok r) = (expected ≡ Ok (staged_told r.0)) × (r.1 ≡ case_launch r.0.user)
StagesAs expected (Err answer) = (expected ≡ Err answer) ⊎ IsEarly answer

-- a machine that is begun on such parts, with the user of its tree
abbrev pub begun_with : {S X : Type 0} → X → Result (Machine S) Errno → Result (X × Machine S) Answer
begun_with x (Ok m) = Ok (x, m)
begun_with x (Err e) = Err (NoStart e)

abbrev pub watched_by : Result Staged Answer → Result (User × Machine Tracing) Answer
watched_by (Ok s) = begun_with s.user (watched_start s)
watched_by (Err answer) = Err answer

abbrev pub mounted_by : Result Staged Answer → Result (List Row × Machine Watch) Answer
mounted_by (Ok s) = begun_with s.table (mounted_start s)
mounted_by (Err answer) = Err answer

abbrev pub WatchesAs : Result (User × Machine Tracing) Answer → Result (User × TracedKernel) Answer → Type 0
WatchesAs expected (Ok r) = (expected ≡ Ok (r.0, traced_machine r.1)) × HasNoTurn r.1
WatchesAs expected (Err answer) = (expected ≡ Err answer) ⊎ IsEarly answer

abbrev pub MountsAs : Result (List Row × Machine Watch) Answer → Result MountedKernel Answer → Type 0
MountsAs expected (Ok k) = (expected ≡ Ok (table_of k.places, machine number_of k)) × HasNoTurn k
MountsAs expected (Err answer) = (expected ≡ Err answer) ⊎ IsEarly answer

-- answers of the bindings and the start
abbrev pub IsOfStart : Answer → Type 0
IsOfStart (BadBind index why) = Unit {0}
IsOfStart (NoStart errno) = Unit {0}
IsOfStart NoMemory = Unit {0}
IsOfStart answer = ⊥

-- and of the whole opening
abbrev pub IsOfOpening : Answer → Type 0
IsOfOpening (Usage word why) = Unit {0}
IsOfOpening (TooLong which) = Unit {0}
IsOfOpening (TreeBad line why) = Unit {0}
IsOfOpening (BadBind index why) = Unit {0}
IsOfOpening (NoStart errno) = Unit {0}
IsOfOpening (ReadFault which) = Unit {0}
IsOfOpening NoMemory = Unit {0}
IsOfOpening answer = ⊥
