-- The table as it is stored.
use Rattle.std.specs.FinMap as map
use Rattle.std.proofs.Common.{◌≡◌, ◌∙◌, ℕ, Some, None, ap}
use Rattle.std.specs.Option.{option_map_or}
use Rattle.std.specs.Ordering.{nat_cmp}
use Rattle.pt_ident.specs.Owners.{Remembered}
use Rattle.pt_ident.specs.Identity.{Identity, starting}
use Rattle.pt_ident.specs.IdentityTable.{IdentityTable, identity_at, with_kept}

abbrev pub table_of : (uid gid : ℕ) → Remembered → map.FinMap nat_cmp Identity → IdentityTable
table_of uid gid owners kept = record { uid = uid; gid = gid; kept = kept; owners = owners }

-- what is stored changed as the map did
pub same_table : (t : IdentityTable) (uid gid : ℕ) (owners : Remembered) (stored kept other : map.FinMap nat_cmp Identity) → table_of uid gid owners stored ≡ t → kept ≡ other
    → table_of uid gid owners kept ≡ with_kept other t
same_table t uid gid owners stored kept other is e = ap (table_of uid gid owners) e ∙ ap (λ (u : IdentityTable). with_kept other u) is

pub is_kept : (t : IdentityTable) (pid : ℕ) (i : Identity) → Some i ≡ map.get t.kept pid → i ≡ identity_at t pid
is_kept t pid i e = ap (λ o. option_map_or (λ i. i) o (starting t.uid t.gid)) e

pub is_starting : (t : IdentityTable) (pid uid gid : ℕ) (owners : Remembered) (stored : map.FinMap nat_cmp Identity) (i : Identity) → table_of uid gid owners stored ≡ t → None ≡ map.get t.kept pid → i ≡ starting uid gid → i ≡ identity_at t pid
is_starting t pid uid gid owners stored i same e is = is ∙ ap (λ (u : IdentityTable). starting u.uid u.gid) same ∙ ap (λ o. option_map_or (λ i. i) o (starting t.uid t.gid)) e
