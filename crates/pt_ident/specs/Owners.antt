-- Remembered ownership: owners and modes that calls set, by inode, and how they are shown.
use Rattle.std.specs.FinMap as map
use Rattle.std.specs.Prelude.{◌≡◌, ◌≢◌, ℕ, ◌+◌, ◌*◌, ◌/◌, ◌%◌, ◌==◌, Option, Some, None, if◌then◌else◌, refl}
use Rattle.std.specs.Option.{unwrap_or, option_map_or}
use Rattle.std.specs.Ordering.{nat_cmp}
use Rattle.std.specs.Coded.{Coded, code_by, coded×, coded_ℕ, coded_option}
use Rattle.pt_ident.specs.declared.change.Change.{Change}
use Rattle.pt_ident.specs.declared.change.Change.TheVariants.{Own, Mode}
use Rattle.pt_ident.specs.declared.change.Shown.{Shown}
use Rattle.pt_ident.specs.declared.entry.Entry.{Entry}

-- ---- one file

-- (uid_t) -1
abbrev pub no_number : ℕ
no_number = 4294967295

-- how many modes differ in permissions alone; what is above them is the kind
abbrev pub modes : ℕ
modes = 4096

abbrev pub unsaid : Entry
unsaid = record { uid = None; gid = None; bits = None }

-- a number that is said, or what was given before
abbrev pub given : ℕ → Option ℕ → Option ℕ
given id before = if id == no_number then before else Some id

abbrev pub over : Entry → Change → Entry
over e (Own uid gid) = record { uid = given uid e.uid; gid = given gid e.gid; bits = e.bits }
over e (Mode bits) = record { uid = e.uid; gid = e.gid; bits = Some (bits % modes) }

-- the kind of a mode with other low 12 bits
abbrev pub with_bits : (mode bits : ℕ) → ℕ
with_bits mode bits = mode / modes * modes + bits % modes

abbrev pub shown_by : Entry → Shown → Shown
shown_by e base = record { uid = unwrap_or e.uid base.uid; gid = unwrap_or e.gid base.gid; mode = option_map_or (with_bits base.mode) e.bits base.mode }

-- ---- all files

abbrev pub Remembered : Type 0
Remembered = map.FinMap nat_cmp Entry

abbrev pub nothing : Remembered
nothing = map.empty

abbrev pub entry_of : Remembered → ℕ → Entry
entry_of owners ino = unwrap_or (map.get owners ino) unsaid

abbrev pub noted : Remembered → ℕ → Change → Remembered
noted owners ino change = map.insert owners ino (over (entry_of owners ino) change)

abbrev pub shown_of : Remembered → ℕ → Shown → Shown
shown_of owners ino base = shown_by (entry_of owners ino) base

-- ---- how it is told apart from others

abbrev pub entry_code : Coded Entry
entry_code =
    code_by (Option ℕ × (Option ℕ × Option ℕ)) (coded× (coded_option coded_ℕ) (coded× (coded_option coded_ℕ) (coded_option coded_ℕ)))
    (λ e. (e.uid, (e.gid, e.bits))) (λ p. record { uid = p.0; gid = p.1.0; bits = p.1.1 }) (λ _. refl)

abbrev pub remembered_code : Coded Remembered
remembered_code = map.code coded_ℕ entry_code

-- ---- laws

-- each change shows where it is said, and nowhere else
pub record OwnersChange : Type 0 where
  pub first : (ino : ℕ) (base : Shown) → shown_of nothing ino base ≡ base
  pub others : (owners : Remembered) (ino other : ℕ) (change : Change) (base : Shown) → other ≢ ino → shown_of (noted owners ino change) other base ≡ shown_of owners other base
  pub own : (owners : Remembered) (ino uid gid : ℕ) (base : Shown) → uid ≢ no_number → gid ≢ no_number
      → shown_of (noted owners ino (Own uid gid)) ino base ≡ record { uid = uid; gid = gid; mode = (shown_of owners ino base).mode }
  pub own_user : (owners : Remembered) (ino uid : ℕ) (base : Shown) → uid ≢ no_number
      → shown_of (noted owners ino (Own uid no_number)) ino base ≡ record { uid = uid; gid = (shown_of owners ino base).gid; mode = (shown_of owners ino base).mode }
  pub own_group : (owners : Remembered) (ino gid : ℕ) (base : Shown) → gid ≢ no_number
      → shown_of (noted owners ino (Own no_number gid)) ino base ≡ record { uid = (shown_of owners ino base).uid; gid = gid; mode = (shown_of owners ino base).mode }
  -- a number of all ones leaves the one that is there
  pub own_nothing : (owners : Remembered) (ino q : ℕ) (base : Shown) → shown_of (noted owners ino (Own no_number no_number)) q base ≡ shown_of owners q base
  pub mode : (owners : Remembered) (ino bits : ℕ) (base : Shown)
      → shown_of (noted owners ino (Mode bits)) ino base ≡ record { uid = (shown_of owners ino base).uid; gid = (shown_of owners ino base).gid; mode = with_bits base.mode bits }

-- a file keeps its kind, and of a mode that is said its low 12 bits alone are shown
pub record ModesKeepKinds : Type 0 where
  pub kind : (owners : Remembered) (ino : ℕ) (base : Shown) → (shown_of owners ino base).mode / modes ≡ base.mode / modes
  pub low : (mode bits : ℕ) → with_bits mode bits % modes ≡ bits % modes

-- three changes of one file, and what is shown of it and of another
abbrev pub three_changes : Remembered
three_changes = noted (noted (noted nothing 20 (Own 5 6)) 20 (Own no_number 7)) 20 (Mode 384)

pub record ThreeChanges : Type 0 where
  -- 0100644 with the bits 0600
  pub changed : shown_of three_changes 20 (record { uid = 0; gid = 0; mode = 33188 }) ≡ record { uid = 5; gid = 7; mode = 33152 }
  pub other : (base : Shown) → shown_of three_changes 21 base ≡ base
