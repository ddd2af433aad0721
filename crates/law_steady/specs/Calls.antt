-- Which calls make changes that can alter the shape of the tree or the bytes of files, and how many of them one call makes.
use Rattle.std.specs.Prelude.{◌≡◌, ℕ, Bool, true, false, ◌&&◌, ◌||◌, not, List, [], ◌∷◌, if◌then◌else◌}
use Rattle.std.specs.List.{list_all, list_any}
use Rattle.law_lawful.specs.rv_mem.Actions.{carried_out}
use Rattle.law_lawful.specs.rv_mem.Memory.{Memory}
use Rattle.law_lawful.specs.kr_calls.CallTable.{line}
use Rattle.law_lawful.specs.kr_calls.Kinds.{AddsNode, Kind, LinksNode, MovesName, RemovesName, SetsMode, SetsOwner, SetsSize, WritesFile, has_kind}
use Rattle.law_lawful.specs.kr_calls.declared.request.Request.{Request}
use Rattle.law_lawful.specs.kr_calls.declared.request.Request.TheVariants as call
use Rattle.law_lawful.specs.kr_tree.declared.place.Host.{Host}
use Rattle.law_lawful.specs.kr_view.View.{Row}
use Rattle.law_lawful.specs.kr_model.Change.{Change, CloseOnExec, MountOf, OpenFile, ReplaceExecutable, ReplaceImage, Seek}
use Rattle.law_lawful.specs.kr_model.FileRows.{creates, truncates}
use Rattle.law_lawful.specs.kr_model.Judged.{alters_bytes, alters_shape, leaves_bytes, leaves_shape}
use Rattle.law_lawful.specs.kr_model.Known.{Known}
use Rattle.law_lawful.specs.kr_model.Operation.{IsNoExec, operation}
use Rattle.law_lawful.specs.kr_model.Seen.{Seen}
use Rattle.law_lawful.specs.kr_model.State.{Image, State}
use Rattle.law_lawful.specs.kr_model.Walks.{seen as seen_of_paths}

-- ---- calls

-- the kinds of changes that can alter the shape, and those that can alter the bytes of a file
abbrev pub shape_kinds : List Kind
shape_kinds = AddsNode ∷ LinksNode ∷ RemovesName ∷ MovesName ∷ SetsMode ∷ SetsOwner ∷ []

abbrev pub bytes_kinds : List Kind
bytes_kinds = SetsSize ∷ WritesFile ∷ []

-- openat(2) with O_CREAT, and the calls that make, remove and move names and that set modes and owners
abbrev pub may_alter_shape : Request → Bool
may_alter_shape (call.Openat dirfd path flags permissions) = creates flags
may_alter_shape r = list_any (has_kind shape_kinds) (line r).does.makes

-- writes, a cut, and openat(2) with O_TRUNC
abbrev pub may_alter_bytes : Request → Bool
may_alter_bytes (call.Openat dirfd path flags permissions) = truncates flags
may_alter_bytes r = list_any (has_kind bytes_kinds) (line r).does.makes

-- the changes that a call replies, of what it is told of its paths
abbrev pub replied : ℕ → Request → Seen → Known → Memory → List Change
replied pid r seen k m = (carried_out (operation pid r seen k) m).reply.changes

-- whether at most one of some changes passes a test
abbrev pub is_once : (Change → Bool) → List Change → Bool
is_once test [] = true
is_once test (c ∷ cs) = if test c then list_all (λ c. not (test c)) cs else is_once test cs

-- what stands beside a change of bytes: a file is opened, or the place in one moves on
abbrev pub is_beside : Change → Bool
is_beside (OpenFile fd cloexec from o) = true
is_beside (Seek fd at) = true
is_beside _ = false

-- at most one that can alter bytes, and nothing else than that beside it
abbrev pub alter_one_file : List Change → Bool
alter_one_file cs = is_once alters_bytes cs && (leaves_bytes cs || list_all (λ c. alters_bytes c || is_beside c) cs)

-- and at most one that can alter the shape
abbrev pub are_few : List Change → Bool
are_few cs = is_once alters_shape cs && alter_one_file cs

-- ---- laws, of any call but execve(2)

-- no other call makes a change that can alter the shape, of what its own walks tell it: without O_CREAT openat(2) is told of what is there alone
abbrev pub CallsLeaveShape : Type 0
CallsLeaveShape =
    (table : List Row) (pid : ℕ) (s : State ℕ Image) (r : Request) (k : Known) (m : Memory) → IsNoExec r → may_alter_shape r ≡ false
    → leaves_shape (replied pid r (seen_of_paths table pid s r) k m) ≡ true

-- no other call makes one that can alter the bytes of a file
abbrev pub CallsLeaveBytes : Type 0
CallsLeaveBytes = (pid : ℕ) (r : Request) (seen : Seen) (k : Known) (m : Memory) → IsNoExec r → may_alter_bytes r ≡ false → leaves_bytes (replied pid r seen k m) ≡ true

-- and every call makes at most one of either
abbrev pub CallsAlterOnce : Type 0
CallsAlterOnce = (pid : ℕ) (r : Request) (seen : Seen) (k : Known) (m : Memory) → IsNoExec r → are_few (replied pid r seen k m) ≡ true

-- ---- execve(2)

-- a new program in the caller's place
abbrev pub replacing : Image → ℕ → MountOf → Host → ℕ → List ℕ → List Change
replacing image brk from host dir name = ReplaceImage image brk ∷ ReplaceExecutable from host dir name ∷ CloseOnExec ∷ []

-- can alter neither
abbrev pub ProgramsLeaveBoth : Type 0
ProgramsLeaveBoth =
    (image : Image) (brk : ℕ) (from : MountOf) (host : Host) (dir : ℕ) (name : List ℕ)
    → (leaves_shape (replacing image brk from host dir name) ≡ true) × (leaves_bytes (replacing image brk from host dir name) ≡ true)
