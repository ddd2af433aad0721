-- The identities of all processes, by their numbers, and the owners and modes that they set.
use Rattle.std.specs.FinMap as map
use Rattle.std.specs.Prelude.{ℕ, ◌==◌, Bool, List, Option, Some, None, if◌then◌else◌, refl}
use Rattle.std.specs.Option.{option_map_or}
use Rattle.std.specs.Ordering.{nat_cmp}
use Rattle.std.specs.Coded.{Coded, code_by, coded×, coded_ℕ, coded_list}
use Rattle.pt_ident.specs.declared.change.Change.{Change}
use Rattle.pt_ident.specs.Owners.{Remembered, noted, nothing, remembered_code}
use Rattle.pt_ident.specs.Identity.{Identity, Numbers, child_of, starting}

pub record IdentityTable : Type 0 where
  -- the user and the group with which processes start
  pub uid : ℕ
  pub gid : ℕ
  pub kept : map.FinMap nat_cmp Identity
  -- what was said of files, by whichever process: one map for the whole run
  pub owners : Remembered

-- one for which nothing is kept has the starting identity
abbrev pub identity_at : IdentityTable → ℕ → Identity
identity_at t pid = option_map_or (λ i. i) (map.get t.kept pid) (starting t.uid t.gid)

abbrev pub starting_table : (uid gid : ℕ) → IdentityTable
starting_table uid gid = record { uid = uid; gid = gid; kept = map.empty; owners = nothing }

abbrev pub with_kept : map.FinMap nat_cmp Identity → IdentityTable → IdentityTable
with_kept kept t = record { uid = t.uid; gid = t.gid; kept = kept; owners = t.owners }

abbrev pub with_identity : (pid : ℕ) → Identity → IdentityTable → IdentityTable
with_identity pid i t = with_kept (map.insert t.kept pid i) t

-- a process makes a child
abbrev pub after_birth : (parent child : ℕ) → IdentityTable → IdentityTable
after_birth parent child t = with_identity child (child_of (identity_at t parent)) t

-- a process ends
abbrev pub after_end : (pid : ℕ) → IdentityTable → IdentityTable
after_end pid t = with_kept (map.remove t.kept pid) t

-- ---- owners and modes

-- whether processes start as root
abbrev pub starts_as_root : IdentityTable → Bool
starts_as_root t = t.uid == 0

-- only such processes are shown what was said of files
abbrev pub shown_owners : IdentityTable → Option Remembered
shown_owners t = if starts_as_root t then Some t.owners else None

-- something is said of the file to which a call led, if it led to one
abbrev pub with_noted : (target : Option ℕ) → Change → IdentityTable → IdentityTable
with_noted None change t = t
with_noted (Some ino) change t = record { uid = t.uid; gid = t.gid; kept = t.kept; owners = noted t.owners ino change }

-- ---- how it is told apart from others

abbrev pub numbers_code : Coded Numbers
numbers_code =
    code_by (ℕ × (ℕ × ℕ)) (coded× coded_ℕ (coded× coded_ℕ coded_ℕ))
    (λ n. (n.real, (n.effective, n.saved))) (λ p. record { real = p.0; effective = p.1.0; saved = p.1.1 }) (λ _. refl)

abbrev pub identity_code : Coded Identity
identity_code =
    code_by (Numbers × (Numbers × List ℕ)) (coded× numbers_code (coded× numbers_code (coded_list coded_ℕ)))
    (λ i. (i.user, (i.group, i.groups))) (λ p. record { user = p.0; group = p.1.0; groups = p.1.1 }) (λ _. refl)

abbrev pub table_code : Coded IdentityTable
table_code =
    code_by (ℕ × (ℕ × (map.FinMap nat_cmp Identity × Remembered))) (coded× coded_ℕ (coded× coded_ℕ (coded× (map.code coded_ℕ identity_code) remembered_code)))
    (λ t. (t.uid, (t.gid, (t.kept, t.owners)))) (λ p. record { uid = p.0; gid = p.1.0; kept = p.1.1.0; owners = p.1.1.1 }) (λ _. refl)
