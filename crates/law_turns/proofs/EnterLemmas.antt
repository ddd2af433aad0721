-- A directory that is entered by a descriptor, in a state in which all places stand.
use Rattle.std.proofs.Common.{◌≡◌, ℕ, Bool, true, false, List, [], ◌∷◌, Option, Some, None, refl, sym, ap, subst, ◌∙◌}
use Rattle.std.specs.Prelude.{not, ℤ}
use Rattle.std.specs.Option.{option_and_then, option_map, option_map_or}
use Rattle.std.proofs.lemmas.Option.{same_Some}
use Rattle.kr_core.specs.pr_base.declared.errno.Errno.TheVariants.{EACCES, ENOTDIR}
use Rattle.pt_results.specs.rv_mem.Actions.{carried_out}
use Rattle.pt_results.specs.rv_mem.Memory.{Memory}
use Rattle.pt_results.specs.rv_mem.Pages.{HoldsBytes}
use Rattle.kr_core.specs.kr_tree.declared.place.Host.{Host}
use Rattle.kr_core.specs.kr_tree.declared.place.Place.{Place}
use Rattle.kr_core.proofs.kr_tree.NameLemmas.{then_some}
use Rattle.law_places.specs.kr_files.Descriptors.{Named}
use Rattle.law_places.specs.kr_files.Files.{file_at}
use Rattle.law_places.specs.kr_files.declared.opened.Opened.{Opened}
use Rattle.law_places.specs.kr_view.Component.{is_directory_at}
use Rattle.law_places.specs.kr_view.View.{Row}
use Rattle.law_places.specs.kr_model.Applied.{Mounts, mount_of}
use Rattle.law_places.specs.kr_model.Asking.{is_directory_host, is_searched}
use Rattle.law_places.specs.kr_model.Change.{Change, ChangeDirectory, OfDescriptor}
use Rattle.law_places.specs.kr_model.DirectoryRows.{fchdir_row, if_entered}
use Rattle.law_places.specs.kr_model.FileRows.{is_dir}
use Rattle.law_places.specs.kr_model.Known.{Known, known}
use Rattle.law_places.specs.kr_model.ProcessDirectory.{space_of}
use Rattle.law_places.specs.kr_model.Reply.{Replying, done, refuse}
use Rattle.law_places.specs.kr_model.State.{Image, State, image_layout, named, opened}
use Rattle.kr_core.proofs.law_allowed.KnownLemmas.{by-open}
use Rattle.kr_core.proofs.law_allowed.NodeLemmas.{known-directory}
use Rattle.kr_core.proofs.law_allowed.RowLemmas.{Allowed, either, ended, reached, refuses}
use Rattle.law_places.specs.Changes.{NewPlacesStand}
use Rattle.law_places.specs.Standing.{PlacesStand, UseStands}
use Rattle.law_places.specs.Uses.{is_open, open_use}
use Rattle.law_places.specs.Keeping.{move_nothing}

passed : (b : Bool) → not b ≡ false → b ≡ true
passed true e = refl
passed false e = absurd cc

module _ (table : List Row) (mounts : Mounts ℕ) (pid : ℕ) (t : State ℕ Image) (stand : PlacesStand table t) where
  abbrev k : Known
  k = known image_layout pid t

  abbrev pub Enters : List Change → Type 0
  Enters cs = (move_nothing cs ≡ true) × NewPlacesStand table mounts pid t cs

  module _ (n : ℕ) (o : Opened ℕ) (p : Place ℕ) (there : opened pid n t ≡ Some o) (placed : o.place ≡ Some p) (directory : is_directory_at t.tree p.host ≡ true) where
    entered_use : (m : ℕ) → mount_of mounts pid t (OfDescriptor n) ≡ Some m → UseStands (space_of table t) (record { place = record { mount = m; host = p.host }; is_directory = true; dir = 0; name = [] })
    entered_use m is =
        let x = then_some (λ (x : Named). file_at t.files x.number) (named pid n t) o there in
        let lawful = stand.lawful.files x.0.number o x.2 in
        let kind : is_dir o.what ≡ true = sym (lawful.placed p placed).1 ∙ directory in
        let plainly = lawful.directories kind in
        let mount : p.mount ≡ m = same_Some _ _ (sym (ap (λ q. option_map (λ (p : Place ℕ). p.mount) (option_and_then (λ (o : Opened ℕ). o.place) q)) there ∙ ap (option_map (λ (p : Place ℕ). p.mount)) placed) ∙ is) in
        let same : open_use o p ≡ record { place = record { mount = m; host = p.host }; is_directory = true; dir = 0; name = [] } =
        λ i. record { place = record { mount = mount i; host = p.host }; is_directory = kind i; dir = plainly.1 i; name = plainly.2 i } in
        subst (UseStands (space_of table t)) same (stand.uses (open_use o p) (is_open x.0.number o p x.2 placed))

  entered : (h : Host) (next : Replying) → (is_directory_at t.tree h ≡ true → Allowed Enters false next) → Allowed Enters false (if_entered k h next)
  entered h next allowed =
      either (not (is_directory_host k h)) (λ _. refuses ENOTDIR)
      (λ directory. either (not (is_searched k h)) (λ _. refuses EACCES) (λ _. allowed (sym (known-directory pid t h) ∙ passed (is_directory_host k h) directory)))

  fchdir : (fd : ℤ) → Allowed Enters false (fchdir_row k fd)
  fchdir fd = by-open pid t fd _ (λ n o e. by n o e o.place refl)
    where
      by : (n : ℕ) (o : Opened ℕ) → opened pid n t ≡ Some o → (q : Option (Place ℕ)) → o.place ≡ q
          → Allowed Enters false (option_map_or (λ (p : Place (Unit {0})). if_entered k p.host (done 0 (ChangeDirectory (OfDescriptor n) p.host ∷ []))) (option_map (λ (p : Place ℕ). record { mount = tt; host = p.host }) q) (refuse ENOTDIR))
      by n o e None placed = refuses ENOTDIR
      by n o e (Some p) placed = entered p.host _ (λ directory. ended (refl, (entered_use n o p e placed directory, tt)))

  -- what the row replies
  pub fchdir_enters : (fd : ℤ) (memory : Memory) → HoldsBytes memory.pages → Enters (carried_out (fchdir_row k fd) memory).reply.changes
  fchdir_enters fd memory holds = reached (refl, tt) false (fchdir_row k fd) (fchdir fd) memory (λ first. holds)
