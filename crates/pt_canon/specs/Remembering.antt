-- What a walker remembers of its last walks, and when that is still what the walks answer.
use Rattle.std.specs.Prelude.{◌≡◌, ◌≢◌, ℕ, ◌==◌, ◌&&◌, Bool, true, List, [], ◌∷◌, take, All, Result, Ok, Err, bytes_eq, if◌then◌else◌}
use Rattle.std.specs.Map.{remove_entry}
use Rattle.pt_bind.specs.pr_base.Peeks.{Peeked}
use Rattle.pt_bind.specs.pr_base.declared.bind.Bound.{Bound}
use Rattle.pt_bind.specs.pr_base.declared.errno.Errno.{Errno}
use Rattle.pt_bind.specs.pr_base.declared.path.WalkMode.{WalkMode}
use Rattle.pt_bind.specs.pr_base.declared.path.WalkMode.TheVariants as modes
use Rattle.pt_bind.specs.Binding.{names_of}
use Rattle.pt_bind.specs.Tags.{TagTable}
use Rattle.pt_canon.specs.Canon.{canon_of, texts_by}
use Rattle.pt_canon.specs.LookedPaths.{TellsTheSame, is_steady_walk}
use Rattle.pt_canon.specs.TextWalk.{TextSurroundings}
use Rattle.pt_canon.specs.declared.canon.Canon.{Canon}
use Rattle.pt_canon.specs.declared.canon.WalkErr.{WalkErr}

-- ---- keys

-- what a walk is asked: the bytes of the guest text where it begins, its path, and its mode
pub record Key : Type 0 where
  pub base : List ℕ
  pub path : List ℕ
  pub mode : WalkMode

abbrev pub key_of : (base path : List ℕ) → WalkMode → Key
key_of base path mode = record { base = base; path = path; mode = mode }

abbrev pub mode_number : WalkMode → ℕ
mode_number modes.Look = 0
mode_number modes.LookLink = 1
mode_number modes.Name = 2
mode_number modes.Open = 3

abbrev pub same_key : Key → Key → Bool
same_key a b = bytes_eq a.base b.base && (bytes_eq a.path b.path && (mode_number a.mode == mode_number b.mode))

-- what its walk answers, and whether it is steady: each host path at which the walk looks is
abbrev pub key_answer : TextSurroundings → Key → Result Canon Errno
key_answer texts key = canon_of texts key.mode (names_of key.base) key.path

abbrev pub is_steady_key : TextSurroundings → Key → Bool
is_steady_key texts key = is_steady_walk texts key.mode (names_of key.base) key.path

-- ---- walkers

-- the table of bindings, how many pauses stand, and the answers of the last walks with their keys, the newest first
pub record Walking : Type 0 where
  pub table : List Bound
  pub pauses : ℕ
  pub remembered : List (Key × Canon)

-- how many answers are remembered at most
abbrev pub most_remembered : ℕ
most_remembered = 256

-- an answer as the newest one
abbrev pub with_newest : Key → Canon → List (Key × Canon) → List (Key × Canon)
with_newest key canon entries = take most_remembered ((key, canon) ∷ remove_entry (same_key key) entries)

-- after a walk, by whether its key is steady: an answer is remembered where no pause stands and it is
abbrev pub after_walk : Walking → Bool → Key → Result Canon WalkErr → Walking
after_walk w steady key (Ok canon) = if (w.pauses == 0) && steady then record { table = w.table; pauses = w.pauses; remembered = with_newest key canon w.remembered } else w
after_walk w steady key (Err e) = w

-- ---- agreement

-- an answer is that of the walk for its key, and the key is steady
pub record IsSo (bounds : List Bound) (peeked : Peeked) (key : Key) (canon : Canon) (tags : TagTable) : Type 0 where
  pub answer : key_answer (texts_by bounds peeked tags) key ≡ Ok canon
  pub steady : is_steady_key (texts_by bounds peeked tags) key ≡ true

-- whatever the tags, since a steady walk meets no link of the process directory
abbrev pub Stands : List Bound → Peeked → Key × Canon → Type 0
Stands bounds peeked e = (tags : TagTable) → IsSo bounds peeked e.0 e.1 tags

-- a walker agrees with what a kernel tells where each answer that it remembers stands; while it is paused it remembers none
pub record Agrees (w : Walking) (peeked : Peeked) : Type 0 where
  pub each : w.pauses ≡ 0 → All (Stands w.table peeked) w.remembered

-- what calls that walk leave of a walker, by what the kernel tells before them and after them
pub record WalksOn (peeked : Peeked) (old new : Walking) : Type 0 where
  pub table : new.table ≡ old.table
  pub pauses : new.pauses ≡ old.pauses
  pub agrees : Agrees new peeked

-- ---- laws

-- nothing remembered agrees with every kernel, and so does a walker that is paused
abbrev pub NothingAgrees : Type 0
NothingAgrees = (w : Walking) (peeked : Peeked) → w.remembered ≡ [] → Agrees w peeked

abbrev pub PausedAgrees : Type 0
PausedAgrees = (w : Walking) (peeked : Peeked) → w.pauses ≢ 0 → Agrees w peeked

-- another kernel tells the same of a host path, and it is steady there too
pub record TellsItSteady (one two : Peeked) (path : List ℕ) : Type 0 where
  pub told : TellsTheSame one two path
  pub steady : two.steady path ≡ true

-- agreement goes over to a kernel that does so of each steady host path
abbrev pub AgreementLasts : Type 0
AgreementLasts = (w : Walking) (one two : Peeked) → ((path : List ℕ) → one.steady path ≡ true → TellsItSteady one two path) → Agrees w one → Agrees w two
