-- Calls on the attributes of a file are allowed.
use Rattle.std.proofs.Common.{ℕ, ◌<◌, ◌^◌, true, false, not, ◌&&◌, ◌||◌, List, [], ◌∷◌, refl, ap, arith, cond, IsSome, ℤ}
use Rattle.std.specs.Prelude.{◌==◌}
use Rattle.law_lawful.specs.pr_base.declared.errno.Errno.TheVariants.{EPERM, ENOENT}
use Rattle.law_lawful.specs.kr_inode.declared.user.User.{User}
use Rattle.law_lawful.specs.kr_tree.Tree.{Node}
use Rattle.law_lawful.specs.kr_tree.declared.place.Host.{Host}
use Rattle.law_lawful.specs.kr_tree.declared.place.Host.TheVariants as host
use Rattle.law_lawful.specs.kr_view.View.{Row}
use Rattle.law_lawful.specs.kr_files.declared.opened.Opened.{Opened}
use Rattle.law_lawful.specs.kr_files.WithoutMounts.{without_mount}
use Rattle.law_lawful.specs.kr_model.Applied.{Mounts}
use Rattle.law_lawful.specs.kr_model.Asking.{is_processes, is_working_directory}
use Rattle.law_lawful.specs.kr_model.AttributeRows.{chmod_host, fchmod_row, fchmodat_row, unchanged as all_ones, or_old, may_give, chown_by, chown_host, chown_open, fchown_row, fchownat_row, fchownat_here}
use Rattle.law_lawful.specs.kr_model.Change.{Change, SetOwner}
use Rattle.law_lawful.specs.kr_model.Known.{Known, known, known_node}
use Rattle.law_lawful.specs.kr_model.Seen.{Looked}
use Rattle.law_lawful.specs.kr_model.State.{Image, image_layout, State, process}
use Rattle.law_lawful.specs.Laws.{CanAllBeMade}
use Rattle.law_lawful.proofs.AfterLemmas.{is-some}
use Rattle.law_allowed.specs.Allowed.{IsAllowed, IsAllowedWhere}
use Rattle.law_allowed.specs.Resting.{HasSmallNumbers}
use Rattle.law_allowed.proofs.KnownLemmas.{maybe, by-open}
use Rattle.law_allowed.proofs.NodeLemmas.{known-inode}
use Rattle.law_allowed.specs.Lasting.{AreModest}
use Rattle.law_allowed.proofs.RowLemmas.{quietly, Allowed, unchanged, refuses, ended, either, row-allowed}

module _ {M : Type 0} (number : M → ℕ) (table : List Row) (mounts : Mounts M) (pid : ℕ) (s : State M Image) (lives : IsSome (process pid s)) where
  abbrev k : Known
  k = known image_layout pid s

  abbrev Can : List Change → Type 0
  Can cs = CanAllBeMade number table mounts pid s cs × AreModest s.user cs

  -- ---- the mode

  mode-host : (mode : ℕ) (at : Host) → Allowed Can false (chmod_host k mode at)
  mode-host mode (host.Node i) =
      maybe (known_node k i)
      (λ n e.
      let own = known-inode pid s i n e in
      either (is_processes n.body || not (k.user.uid == n.uid)) (λ _. refuses EPERM) (λ _. ended ((lives, (is-some _ own.0 own.1, omega arith), tt), quietly refl)))
      (refuses ENOENT)
  mode-host mode (host.Proc i at) = refuses EPERM

  fchmod : (fd : ℤ) (mode : ℕ) → Allowed Can false (fchmod_row k fd mode)
  fchmod fd mode = by-open pid s fd _ (λ n o e. maybe (without_mount o).place (λ p _. mode-host mode p.host) (refuses EPERM))

  -- ---- the owner

  owner-by : (user owner : User) (uid gid : ℕ) (changes : List Change) → Can changes → Allowed Can false (chown_by user owner uid gid changes)
  owner-by user owner uid gid changes can = either (uid == all_ones && gid == all_ones) (λ _. unchanged) (λ _. either (may_give user owner uid gid) (λ _. ended can) (λ _. refuses EPERM))

  one-of : (new old : ℕ) → new < 2 ^ 32 → old < 2 ^ 32 → or_old new old < 2 ^ 32
  one-of new old small before = elim (new == all_ones) as (λ b. cond b old new < 2 ^ 32) [ true ↦ before | false ↦ small ]

  module _ (small : HasSmallNumbers s.tree s.next_pid) (uid gid : ℕ) (few_uids : uid < 2 ^ 32) (few_gids : gid < 2 ^ 32) where
    owner-host : (at : Host) → Allowed Can false (chown_host k uid gid at)
    owner-host (host.Node i) =
        maybe (known_node k i)
        (λ n e.
        let own = known-inode pid s i n e in
        let before = small.owners i own.0 own.1 in
        let uids = ap (λ (n : Node). n.uid) own.2 in
        let gids = ap (λ (n : Node). n.gid) own.2 in
        owner-by k.user (record { uid = n.uid; gid = n.gid }) uid gid (SetOwner i (or_old uid n.uid) (or_old gid n.gid) ∷ [])
        ((lives, (is-some _ own.0 own.1, one-of uid n.uid few_uids (omega arith), one-of gid n.gid few_gids (omega arith)), tt), quietly refl))
        (refuses ENOENT)
    owner-host (host.Proc i at) = owner-by k.user k.user uid gid [] (tt, quietly refl)

    owner-open : (o : Opened (Unit {0})) → Allowed Can false (chown_open k uid gid o)
    owner-open o = maybe o.place (λ p _. owner-host p.host) (owner-by k.user k.user uid gid [] (tt, quietly refl))

    fchown : (fd : ℤ) → Allowed Can false (fchown_row k fd uid gid)
    fchown fd = by-open pid s fd _ (λ n o e. owner-open (without_mount o))

    fchownat-here : (fd : ℤ) → Allowed Can false (fchownat_here k fd uid gid)
    fchownat-here fd = either (is_working_directory fd) (λ _. owner-host k.caller.cwd) (λ _. fchown fd)

-- calls on the attributes of a file, whose owners are told in 32 bits
pub record AreAttributeRowsAllowed {M : Type 0} (number : M → ℕ) (table : List Row) (mounts : Mounts M) (pid : ℕ) : Type 0 where
  pub fchmod : (fd : ℤ) (mode : ℕ) → IsAllowed number table mounts pid (λ k. fchmod_row k fd mode)
  pub fchmodat : (l : Looked) (mode : ℕ) → IsAllowed number table mounts pid (λ k. fchmodat_row k l mode)
  pub fchown : (fd : ℤ) (uid gid : ℕ) → uid < 2 ^ 32 → gid < 2 ^ 32 → IsAllowedWhere number table mounts pid HasSmallNumbers (λ k. fchown_row k fd uid gid)
  pub fchownat : (l : Looked) (uid gid : ℕ) → uid < 2 ^ 32 → gid < 2 ^ 32 → IsAllowedWhere number table mounts pid HasSmallNumbers (λ k. fchownat_row k l uid gid)
  pub here : (fd : ℤ) (uid gid : ℕ) → uid < 2 ^ 32 → gid < 2 ^ 32 → IsAllowedWhere number table mounts pid HasSmallNumbers (λ k. fchownat_here k fd uid gid)

pub attribute-rows : (M : Type 0) (number : M → ℕ) (table : List Row) (mounts : Mounts M) (pid : ℕ) → AreAttributeRowsAllowed number table mounts pid
attribute-rows M number table mounts pid = record {
  fchmod = λ fd mode. row-allowed number table mounts pid (λ t next. Unit {0}) (λ k. fchmod_row k fd mode) (λ s l lives rests. fchmod number table mounts pid s lives fd mode);
  fchmodat = λ l mode. row-allowed number table mounts pid (λ t next. Unit {0}) (λ k. fchmodat_row k l mode) (λ s l2 lives rests. mode-host number table mounts pid s lives mode l.host);
  fchown = λ fd uid gid uids gids. row-allowed number table mounts pid HasSmallNumbers (λ k. fchown_row k fd uid gid) (λ s l lives rests. fchown number table mounts pid s lives rests uid gid uids gids fd);
  fchownat = λ l uid gid uids gids. row-allowed number table mounts pid HasSmallNumbers (λ k. fchownat_row k l uid gid) (λ s l2 lives rests. owner-host number table mounts pid s lives rests uid gid uids gids l.host);
  here = λ fd uid gid uids gids.
      row-allowed number table mounts pid HasSmallNumbers (λ k. fchownat_here k fd uid gid) (λ s l lives rests. fchownat-here number table mounts pid s lives rests uid gid uids gids fd);
}
