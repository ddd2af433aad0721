-- A state behind a file that was made.
use Rattle.std.proofs.Common.{◌≡◌, ℕ, ◌<◌, true, false, List, [], ◌∷◌, Some, None, refl, sym, ap, subst, ◌∙◌}
use Rattle.std.specs.Prelude.{IsSome}
use Rattle.kr_seen.proofs.pr_base.MapLemmas.{get-insert_same}
use Rattle.kr_seen.specs.pr_base.declared.errno.Errno.TheVariants.{EMFILE, ENOSPC}
use Rattle.kr_seen.specs.kr_calls.Arguments.{has}
use Rattle.kr_seen.specs.kr_tree.Changes.{fresh, next_standing, with_entry, with_inode, with_standing}
use Rattle.kr_seen.specs.kr_tree.Changes as tree
use Rattle.kr_seen.specs.kr_tree.Lawful.{AreBytes}
use Rattle.kr_seen.specs.kr_tree.Names.{is_name}
use Rattle.kr_seen.specs.kr_tree.Tree.{RegularFile, Tree, body_is, entry, inode, takes_names}
use Rattle.kr_seen.specs.kr_tree.declared.place.Host.{Host}
use Rattle.kr_seen.specs.kr_tree.declared.place.Host.TheVariants as host
use Rattle.kr_seen.specs.kr_files.declared.opened.What.TheVariants.{File}
use Rattle.kr_seen.specs.kr_model.Applied.{Mounts, applied, images}
use Rattle.kr_seen.specs.kr_model.Asking.{has_no_room, unmasked}
use Rattle.kr_seen.specs.kr_model.Change.{AddNode, OfDirectory, OpenFile}
use Rattle.kr_seen.specs.kr_model.Conditions.{CanAdd}
use Rattle.kr_seen.specs.kr_model.DescriptorRows.{o_cloexec}
use Rattle.kr_seen.specs.kr_model.FileRows.{make_and_open, open_new, opens_as}
use Rattle.kr_seen.specs.kr_model.Known.{Known, known}
use Rattle.kr_seen.specs.kr_model.Lawful.{IsLawful}
use Rattle.kr_seen.specs.kr_model.Reply.{done, refuse}
use Rattle.kr_seen.specs.kr_model.State as model
use Rattle.kr_seen.proofs.law_lawful.ChangeLemmas.{changes-keep}
use Rattle.kr_seen.specs.kr_ops.declared.state.State.{State}
use Rattle.kr_seen.specs.kr_ops.Meaning.{meaning}
use Rattle.kr_seen.specs.kr_ops.Opening.{lowest_of}
use Rattle.kr_seen.specs.kr_ops.Sound.{IsOfView, IsServed, IsSound}
use Rattle.kr_seen.proofs.kr_ops.UseLemmas.{sound-of}
use Rattle.kr_seen.specs.Asked.{IsTaking}
use Rattle.kr_names.proofs.NodeLemmas.{if-true, if-false}
use Rattle.kr_names.proofs.OpenLemmas.{lowest-living}

module _ {T : Type 0} {M : ℕ} (mounts : Mounts T) (pid dir : ℕ) (name : List ℕ) (mode uid gid : ℕ) (old mid : State T M)
    (made : meaning mid ≡ applied images mounts pid (AddNode dir name mode uid gid (RegularFile [])) (meaning old)) where
  pub made-lives : IsSome (model.process pid (meaning old)) → IsSome (model.process pid (meaning mid))
  made-lives lives = subst IsSome (sym (ap (λ (s : model.State T model.Image). model.process pid s) made)) lives

  pub made-files : mid.files.table.last_file ≡ old.files.table.last_file
  made-files = ap (λ (s : model.State T model.Image). s.files.last_file) made

  pub made-lowest : lowest_of pid 0 (meaning mid) ≡ lowest_of pid 0 (meaning old)
  made-lowest = ap (λ (s : model.State T model.Image). lowest_of pid 0 s) made

  made-tree : mid.tree ≡ tree.added dir name mode uid gid (RegularFile []) old.tree
  made-tree = ap (λ (s : model.State T model.Image). s.tree) made

  pub made-there : IsSome (inode mid.tree old.tree.next)
  made-there =
      let there = get-insert_same (with_inode dir (with_entry name old.tree.next false) old.tree.inodes) old.tree.next (fresh mode uid gid (RegularFile [])) in
      subst (λ (t : Tree). IsSome (inode t old.tree.next)) (sym made-tree) (subst IsSome (sym there) refl)

  pub made-sound : (view : IsOfView old) → IsServed mid → IsSome (model.process pid (meaning old)) → body_is takes_names old.tree dir ≡ true → is_name name ≡ true → entry old.tree dir name ≡ None → AreBytes name → mode < 4096
      → has_no_room 0 (known model.image_layout pid (meaning old)) ≡ false → IsSound mid
  made-sound view served lives takes named free bytes small room =
      let can : CanAdd old.tree dir name mode (RegularFile []) =
      record { named = record { takes = takes; well_formed = named; bytes = bytes; free = free }; small = small; new = refl; bytes = tt; room = room } in
      let P : model.State T model.Image → Type 0 = λ s. IsLawful view.number view.table s in
      sound-of view.number view.table mid (subst P (sym made) ((changes-keep T view.number view.table mounts pid).add_node dir name mode uid gid (RegularFile []) (meaning old) view.lawful lives can)) served

-- ---- the tests

module _ {T : Type 0} (s : model.State T model.Image) (pid flags mode : ℕ) (lives : IsSome (model.process pid s)) (at : Host) (name : List ℕ) (dir : ℕ) where
  abbrev k : Known
  k = known model.image_layout pid s

  module _ (t : IsTaking (known model.image_layout pid s) at dir) where
    by-lowest : open_new k flags mode at name ≡ make_and_open k flags mode dir name (lowest_of pid 0 s)
    by-lowest = t.goes_on _ ∙ ap (make_and_open k flags mode dir name) (sym (lowest-living s pid 0 lives))

    pub new-full : lowest_of pid 0 s ≡ None → open_new (known model.image_layout pid s) flags mode at name ≡ refuse EMFILE
    new-full none = by-lowest ∙ ap (make_and_open k flags mode dir name) none

    pub new-crowded : (fd : ℕ) → lowest_of pid 0 s ≡ Some fd → has_no_room 0 (known model.image_layout pid s) ≡ true → open_new (known model.image_layout pid s) flags mode at name ≡ refuse ENOSPC
    new-crowded fd some full = by-lowest ∙ ap (make_and_open k flags mode dir name) some ∙ if-true _ _ _ full

    pub new-opens : (fd : ℕ) → lowest_of pid 0 s ≡ Some fd → has_no_room 0 (known model.image_layout pid s) ≡ false
        → open_new (known model.image_layout pid s) flags mode at name
        ≡ done fd (AddNode dir name (unmasked (known model.image_layout pid s) mode) s.user.uid s.user.gid (RegularFile [])
        ∷ OpenFile fd (has flags o_cloexec) OfDirectory (opens_as File (host.Node s.tree.next) dir name flags) ∷ [])
    new-opens fd some room = by-lowest ∙ ap (make_and_open k flags mode dir name) some ∙ if-false _ _ _ room
