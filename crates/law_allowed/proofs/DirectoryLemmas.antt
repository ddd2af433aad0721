-- Calls that read directories and change to them are allowed.
use Rattle.std.proofs.Common.{◌≡◌, ℕ, Bool, true, false, not, List, [], ◌∷◌, refl, sym, ap, ◌∙◌, Some, None, Option, IsSome, ℤ}
use Rattle.std.specs.Option.{option_map, option_map_or, option_and_then}
use Rattle.law_lawful.specs.pr_base.declared.errno.Errno.TheVariants.{ENOENT, EACCES, EFAULT, ENOTDIR, EINVAL}
use Rattle.law_lawful.specs.kr_tree.declared.place.Host.{Host}
use Rattle.law_lawful.specs.kr_tree.declared.place.Place.{Place}
use Rattle.law_lawful.specs.kr_view.View.{Row}
use Rattle.law_lawful.specs.kr_view.Component.{is_directory_at}
use Rattle.law_lawful.specs.kr_files.declared.opened.Opened.{Opened}
use Rattle.law_lawful.specs.kr_files.WithoutMounts.{without_mount}
use Rattle.law_lawful.specs.kr_model.Applied.{Mounts}
use Rattle.law_lawful.specs.kr_model.Asking.{is_directory_host, is_searched}
use Rattle.law_lawful.specs.kr_model.Change.{Change, OfDescriptor, ChangeDirectory}
use Rattle.law_lawful.specs.kr_model.Conditions.{IsOpen, CanStand}
use Rattle.law_lawful.specs.kr_model.DirectoryRows.{Listed, tell_entries, list_rest, list_host, or_zero, getdents64_row, if_entered, chdir_row, fchdir_row, shown_by, behind, fitting}
use Rattle.law_lawful.specs.kr_model.Known.{Known, known}
use Rattle.law_lawful.specs.kr_model.Lawful.{IsLawful}
use Rattle.law_lawful.specs.kr_model.Reply.{Replying, done, refuse}
use Rattle.law_lawful.specs.kr_model.Seen.{Looked}
use Rattle.law_lawful.specs.kr_model.State.{Image, image_layout, State, process, opened}
use Rattle.law_lawful.specs.Laws.{CanAllBeMade}
use Rattle.law_allowed.specs.Allowed.{IsAllowed, IsAllowedWhere}
use Rattle.law_allowed.specs.Resting.{HasSmallNumbers, IsLookedIn}
use Rattle.law_allowed.proofs.FileLemmas.{open-lawful}
use Rattle.law_allowed.proofs.KnownLemmas.{maybe, open-named, by-open}
use Rattle.law_allowed.proofs.NodeLemmas.{known-directory}
use Rattle.law_allowed.specs.Lasting.{AreModest}
use Rattle.law_allowed.proofs.RowLemmas.{quietly, Allowed, unchanged, refuses, ended, tested, wrote, either, row-allowed}
use Rattle.law_allowed.proofs.SerialLemmas.{AreSmall, small-behind, small-fitting, small-last, small-shown}

passed : (b : Bool) → not b ≡ false → b ≡ true
passed true e = refl
passed false e = absurd cc

module _ {M : Type 0} (number : M → ℕ) (table : List Row) (mounts : Mounts M) (pid : ℕ) (s : State M Image) (l : IsLawful number table s) (lives : IsSome (process pid s)) where
  abbrev k : Known
  k = known image_layout pid s

  abbrev Can : List Change → Type 0
  Can cs = CanAllBeMade number table mounts pid s cs × AreModest s.user cs

  -- ---- what a directory shows

  entries-told : (fd buf : ℕ) → IsOpen pid fd s → (entries : List Listed) → AreSmall entries → Allowed Can false (tell_entries fd buf entries)
  entries-told fd buf is_open [] small = refuses EINVAL
  entries-told fd buf is_open (e ∷ entries) small = tested (λ b. either b (λ _. wrote (ended ((lives, (is_open, small-last e entries small), tt), quietly refl))) (λ _. refuses EFAULT))

  rest-listed : (fd buf n : ℕ) → IsOpen pid fd s → (entries : List Listed) → AreSmall entries → Allowed Can false (list_rest fd buf n entries)
  rest-listed fd buf n is_open [] small = unchanged
  rest-listed fd buf n is_open (e ∷ entries) small = entries-told fd buf is_open (fitting n (e ∷ entries)) (small-fitting n (e ∷ entries) small)

  host-listed : HasSmallNumbers s.tree s.next_pid → (fd at buf n : ℕ) → IsOpen pid fd s → (h : Host) → Allowed Can false (list_host k fd at buf n h)
  host-listed fits fd at buf n is_open h =
      either (not (is_directory_host k h)) (λ _. refuses ENOTDIR)
      (λ _. maybe (shown_by k h) (λ entries e. rest-listed fd buf n is_open (behind at entries) (small-behind at entries (small-shown number table pid s l fits h entries e))) (refuses ENOENT))

  getdents64 : HasSmallNumbers s.tree s.next_pid → (fd : ℤ) (buf : ℕ) (n : ℤ) → Allowed Can false (getdents64_row k fd buf n)
  getdents64 fits fd buf n = by-open pid s fd _ (λ q o e. maybe (without_mount o).place (λ p _. host-listed fits q o.at buf (or_zero n) (open-named pid s q o e) p.host) (refuses ENOTDIR))

  -- ---- the working directory

  entered : (h : Host) (next : Replying) → (is_directory_at s.tree h ≡ true → Allowed Can false next) → Allowed Can false (if_entered k h next)
  entered h next allowed =
      either (not (is_directory_host k h)) (λ _. refuses ENOTDIR)
      (λ directory. either (not (is_searched k h)) (λ _. refuses EACCES) (λ _. allowed (sym (known-directory pid s h) ∙ passed (is_directory_host k h) directory)))

  chdir : (looked : Looked) → IsLookedIn number table mounts s.tree looked → Allowed Can false (chdir_row k looked)
  chdir looked is =
      let found = is.found in
      entered looked.host _ (λ directory. ended ((lives, (record { mount = found.mount; taken = found.taken; stands = found.stands }, directory), tt), quietly refl))

  -- the place of an open file is one of the view
  stands-open : (fd : ℕ) (o : Opened M) → opened pid fd s ≡ Some o → (p : Place M) → o.place ≡ Some p → CanStand number table mounts pid (OfDescriptor fd) s p.host
  stands-open fd o e p placed = record {
    mount = p.mount;
    taken = ap (λ (o : Option (Opened M)). option_map (λ (p : Place M). p.mount) (option_and_then (λ (o : Opened M). o.place) o)) e ∙ ap (option_map (λ (p : Place M). p.mount)) placed;
    stands = ((open-lawful number table mounts pid s l lives fd o e).placed p placed).0;
  }

  fchdir : (fd : ℤ) → Allowed Can false (fchdir_row k fd)
  fchdir fd = by-open pid s fd _ (λ n o e. by n o e o.place refl)
    where
      by : (n : ℕ) (o : Opened M) → opened pid n s ≡ Some o → (q : Option (Place M)) → o.place ≡ q
          → Allowed Can false (option_map_or (λ (p : Place (Unit {0})). if_entered k p.host (done 0 (ChangeDirectory (OfDescriptor n) p.host ∷ []))) (option_map (λ (p : Place M). record { mount = tt; host = p.host }) q) (refuse ENOTDIR))
      by n o e None placed = refuses ENOTDIR
      by n o e (Some p) placed = entered p.host _ (λ directory. ended ((lives, (stands-open n o e p placed, directory), tt), quietly refl))

-- calls that read directories, whose serials are told in 63 bits, and change to them
pub record AreDirectoryRowsAllowed {M : Type 0} (number : M → ℕ) (table : List Row) (mounts : Mounts M) (pid : ℕ) : Type 0 where
  pub getdents64 : (fd : ℤ) (buf : ℕ) (n : ℤ) → IsAllowedWhere number table mounts pid HasSmallNumbers (λ k. getdents64_row k fd buf n)
  pub chdir : (looked : Looked) → IsAllowedWhere number table mounts pid (λ t next. IsLookedIn number table mounts t looked) (λ k. chdir_row k looked)
  pub fchdir : (fd : ℤ) → IsAllowed number table mounts pid (λ k. fchdir_row k fd)

pub directory-rows : (M : Type 0) (number : M → ℕ) (table : List Row) (mounts : Mounts M) (pid : ℕ) → AreDirectoryRowsAllowed number table mounts pid
directory-rows M number table mounts pid = record {
  getdents64 = λ fd buf n. row-allowed number table mounts pid HasSmallNumbers (λ k. getdents64_row k fd buf n) (λ s l lives rests. getdents64 number table mounts pid s l lives rests fd buf n);
  chdir = λ looked. row-allowed number table mounts pid (λ t next. IsLookedIn number table mounts t looked) (λ k. chdir_row k looked) (λ s l lives rests. chdir number table mounts pid s l lives looked rests);
  fchdir = λ fd. row-allowed number table mounts pid (λ t next. Unit {0}) (λ k. fchdir_row k fd) (λ s l lives rests. fchdir number table mounts pid s l lives fd);
}
