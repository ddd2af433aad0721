-- What is shown of a file's structure `stat` is the structure of the same file with another owner, or another mode.
use Rattle.std.proofs.Common.{◌≡◌, ◌∙◌, ◌<◌, ◌^◌, ◌==◌, ℕ, Bool, true, false, Option, Some, None, if◌then◌else◌, refl, ap, arith}
use Rattle.std.specs.Int.{to_le_bytes, w32, w64}
use Rattle.std.proofs.Math.Seq.{sets}
use Rattle.std.proofs.lemmas.Nat.{from_le_bytes-to_le_bytes_8}
use Rattle.kr_inode.specs.pr_base.Fields.{little_endian}
use Rattle.kr_inode.specs.declared.user.User.{User}
use Rattle.kr_calls.specs.declared.stat.Stat.{Stat}
use Rattle.kr_calls.specs.Stats.{stat_layout}
use Rattle.pt_ident.specs.declared.change.Shown.{Shown}
use Rattle.pt_ident.specs.Owners.{Remembered, shown_of}
use Rattle.pt_ident.specs.Laws.{HasFields, StatShowsTheOwner, host_owner, over_owner, with_owner}
use Rattle.pt_ident.specs.Showing.{is_of_tree, owner_in, shown, shown_at, shown_host, shown_over, shown_with, with_owner_in}

narrow : (n : ℕ) → n < 2 ^ 32 → little_endian (to_le_bytes w32 n) ≡ n
narrow n fits = omega arith

wide : (n : ℕ) → n < 2 ^ 64 → little_endian (to_le_bytes w64 n) ≡ n
wide n fits = let back = from_le_bytes-to_le_bytes_8 n fits in omega (arith, back)

-- ---- the host user

abbrev owned : (uid gid mode : ℕ) → Shown
owned uid gid mode = record { uid = uid; gid = gid; mode = mode }

user-shown : (s : Stat) (own other : ℕ) → s.uid < 2 ^ 32 → shown_at 24 own other (stat_layout s) ≡ stat_layout (with_owner (owned (shown own other s.uid) s.gid s.mode) s)
user-shown s own other fits = ap (λ n. if n == own then sets (stat_layout s) 24 (to_le_bytes w32 other) else stat_layout s) (narrow s.uid fits) ∙ by (s.uid == own)
  where
    by : (b : Bool) → (if b then sets (stat_layout s) 24 (to_le_bytes w32 other) else stat_layout s) ≡ stat_layout (with_owner (owned (if b then other else s.uid) s.gid s.mode) s)
    by true = refl
    by false = refl

group-shown : (s : Stat) (own other : ℕ) → s.gid < 2 ^ 32 → shown_at 28 own other (stat_layout s) ≡ stat_layout (with_owner (owned s.uid (shown own other s.gid) s.mode) s)
group-shown s own other fits = ap (λ n. if n == own then sets (stat_layout s) 28 (to_le_bytes w32 other) else stat_layout s) (narrow s.gid fits) ∙ by (s.gid == own)
  where
    by : (b : Bool) → (if b then sets (stat_layout s) 28 (to_le_bytes w32 other) else stat_layout s) ≡ stat_layout (with_owner (owned s.uid (if b then other else s.gid) s.mode) s)
    by true = refl
    by false = refl

host-shown : (s : Stat) (user : User) (uid gid : ℕ) → HasFields s → shown_host user uid gid (stat_layout s) ≡ stat_layout (with_owner (host_owner user uid gid s) s)
host-shown s user uid gid has =
    ap (shown_at 28 user.gid gid) (user-shown s user.uid uid has.uid)
    ∙ group-shown (with_owner (owned (shown user.uid uid s.uid) s.gid s.mode) s) user.gid gid has.gid

-- the number as which an owner is shown has room where both have
shown-fits : (own other id : ℕ) → other < 2 ^ 32 → id < 2 ^ 32 → shown own other id < 2 ^ 32
shown-fits own other id one two = by (id == own)
  where
    by : (b : Bool) → (if b then other else id) < 2 ^ 32
    by true = one
    by false = two

-- ---- what was said

owner-read : (s : Stat) → HasFields s → owner_in (stat_layout s) ≡ owned s.uid s.gid s.mode
owner-read s has = λ i. owned (narrow s.uid has.uid i) (narrow s.gid has.gid i) (narrow s.mode has.mode i)

over-shown : (owners : Remembered) (s : Stat) → HasFields s → shown_over owners (stat_layout s) ≡ stat_layout (with_owner (over_owner (Some owners) s (owned s.uid s.gid s.mode)) s)
over-shown owners s has =
    (λ i. if is_of_tree (wide s.dev has.dev i) (narrow s.mode has.mode i) then with_owner_in (shown_of owners (wide s.ino has.ino i) (owner-read s has i)) (stat_layout s) else stat_layout s)
    ∙ by (is_of_tree s.dev s.mode)
  where
    by : (b : Bool) → (if b then with_owner_in (shown_of owners s.ino (owned s.uid s.gid s.mode)) (stat_layout s) else stat_layout s)
        ≡ stat_layout (with_owner (if b then shown_of owners s.ino (owned s.uid s.gid s.mode) else owned s.uid s.gid s.mode) s)
    by true = refl
    by false = refl

with-shown : (o : Option Remembered) (s : Stat) → HasFields s → shown_with o (stat_layout s) ≡ stat_layout (with_owner (over_owner o s (owned s.uid s.gid s.mode)) s)
with-shown None s has = refl
with-shown (Some owners) s has = over-shown owners s has

-- the structure with two owners one after the other has the second
seen-last : (o : Option Remembered) (s : Stat) (user : User) (uid gid : ℕ)
    → stat_layout (with_owner (over_owner o (with_owner (host_owner user uid gid s) s) (host_owner user uid gid s)) (with_owner (host_owner user uid gid s) s))
    ≡ stat_layout (with_owner (over_owner o s (host_owner user uid gid s)) s)
seen-last None s user uid gid = refl
seen-last (Some owners) s user uid gid = refl

pub stat_shows_the_owner : StatShowsTheOwner
stat_shows_the_owner s user uid gid owners has user_fits group_fits =
    ap (shown_with owners) (host-shown s user uid gid has)
    ∙ with-shown owners (with_owner (host_owner user uid gid s) s)
    (record {
      dev = has.dev;
      ino = has.ino;
      mode = has.mode;
      uid = shown-fits user.uid uid s.uid user_fits has.uid;
      gid = shown-fits user.gid gid s.gid group_fits has.gid;
    })
    ∙ seen-last owners s user uid gid
