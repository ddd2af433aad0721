-- What stands above a place stands above its guest text.
use Rattle.std.proofs.Common.{◌≡◌, ◌≢◌, ℕ, Bool, true, false, ◌&&◌, List, [], ◌∷◌, Option, Some, None, refl, sym, ap, subst, ◌∙◌, nat_eq, inl, inr}
use Rattle.std.specs.Bool.{if◌then◌else◌}
use Rattle.std.specs.Option.{option_map, option_and_then}
use Rattle.std.proofs.lemmas.Bool.{cases_eq, eq-eqb, ne_eqb}
use Rattle.pt_canon.specs.pr_base.MountText.{MountText}
use Rattle.pt_canon.specs.pr_base.Texts.{Text}
use Rattle.pt_canon.specs.pr_base.WalkFrame.{Fails}
use Rattle.pt_canon.specs.pr_base.declared.errno.Errno.TheVariants.{ENOENT}
use Rattle.pt_canon.specs.pt_bind.Binding.{host_of, located, owner}
use Rattle.pt_canon.specs.ProcessLinks.{above as text_above}
use Rattle.kr_mounts.specs.kr_tree.declared.place.Host.{Host}
use Rattle.kr_mounts.specs.kr_tree.declared.place.Host.TheVariants.{Node, Proc}
use Rattle.kr_mounts.specs.kr_tree.declared.place.Place.{Place}
use Rattle.kr_mounts.specs.kr_tree.declared.place.ProcAt.{ProcAt}
use Rattle.kr_mounts.specs.kr_tree.declared.place.ProcAt.TheVariants.{SelfLink, Dir, Cwd, Root, Exe, FdDir, Fd}
use Rattle.kr_mounts.specs.kr_tree.Names.{named}
use Rattle.kr_mounts.specs.kr_tree.Tree.{Tree, body_is, is_directory}
use Rattle.kr_mounts.proofs.kr_tree.EntryLemmas.{entry_in_directory, entry_stands, reached-named}
use Rattle.kr_mounts.proofs.kr_tree.NameLemmas.{some_is}
use Rattle.kr_mounts.specs.kr_view.declared.procs.Lead.{Lead}
use Rattle.kr_mounts.specs.kr_view.Processes.{LawsOfProcesses}
use Rattle.kr_mounts.specs.kr_view.Component.{Namespace, above, above_body, above_host, above_node, above_process, is_directory_at, is_process_directory, shows_directory}
use Rattle.kr_mounts.specs.kr_view.View.{Row, is_root_place, node_in, point_place, root_source, row, up}
use Rattle.kr_mounts.proofs.kr_view.HostReachLemmas.{IsFoundIn, at_top, below_top, entry_in, found_in, last_object, named_alone}
use Rattle.kr_mounts.specs.Standing.{texts_of}
use Rattle.law_walks.specs.Settled.{IsSettled}
use Rattle.law_walks.specs.Standing.{IsOpen, Stands, place_in, reached_in}
use Rattle.law_walks.proofs.StandingLemmas.{root_reached, node_reached, not_located, process_shown, source_reached}
use Rattle.law_walks.proofs.TableLemmas.{host_none, host_some, mount_below, not_source, owner_none, owner_some, root_row, root_source_is, root_there, source_text}

and_false : (b : Bool) → (b && false) ≡ false
and_false true = refl
and_false false = refl

-- above a place is a directory that stands at a guest text
pub record GoesUp (space : Namespace) (p : Place ℕ) (u : Text) : Type 0 where
  pub to : Place ℕ
  pub goes : above space p ≡ shows_directory to
  pub stands : Stands space to u
  pub is_dir : is_directory_at space.tree to.host ≡ true

module _ (space : Namespace) (set : IsSettled space) (leads : ProcAt → Lead ℕ) (laws : LawsOfProcesses space.finds leads) where
  abbrev tree : Tree
  tree = space.tree

  abbrev bindings : List MountText
  bindings = texts_of space.table

  abbrev reach : Text → Option Host
  reach h = reached_in space h

  goes_to_place : (p q : Place ℕ) (u : Text) → above space p ≡ shows_directory q → Stands space q u → is_directory_at tree q.host ≡ true → GoesUp space p u
  goes_to_place p q u goes r dir = record { to = q; goes = goes; stands = r; is_dir = dir }

  not_root : (k i : ℕ) → (k ≡ 0 → i ≡ root_source space.table → ⊥) → is_root_place space.table (node_in k i) ≡ false
  not_root k i h = elim (cases_eq k 0) [
    | inl a ↦ elim (cases_eq i (root_source space.table)) [
      | inl b ↦ absurd (h a b)
      | inr b ↦ ap (λ x. nat_eq k 0 && x) (ne_eqb i (root_source space.table) b) ∙ and_false (nat_eq k 0)
    ]
    | inr a ↦ ap (λ x. x && nat_eq i (root_source space.table)) (ne_eqb k 0 a)
  ]

  above_is : (k i : ℕ) → is_root_place space.table (node_in k i) ≡ false → above space (node_in k i) ≡ above_node space k i (up space.table k i)
  above_is k i e = ap (λ b. if b then shows_directory (node_in k i) else above_host space k (Node i)) e

  above_process_is : (k i : ℕ) (at : ProcAt) → above space (place_in k (Proc i at)) ≡ above_process space k i at
  above_process_is k i at = ap (λ b. if b then shows_directory (place_in k (Proc i at)) else above_process space k i at) (and_false (nat_eq k 0))

  -- at the root one stays
  at_root : (k : ℕ) (x : Host) → Stands space (place_in k x) [] → is_directory_at tree x ≡ true → GoesUp space (place_in k x) []
  at_root k x r dir =
      let i = root_source space.table in
      let same : x ≡ Node i = some_is x (Node i) (sym r.way ∙ root_reached space set) in
      let is_root : is_root_place space.table (node_in k i) ≡ true = ap (λ b. b && nat_eq i i) (eq-eqb k 0 r.mount) ∙ eq-eqb i i refl in
      let goes : above space (node_in k i) ≡ shows_directory (node_in k i) = ap (λ b. if b then shows_directory (node_in k i) else above_host space k (Node i)) is_root in
      goes_to_place (place_in k x) (place_in k x) [] (subst (λ y. above space (place_in k y) ≡ shows_directory (place_in k y)) (sym same) goes) r dir

  module _ (k : ℕ) (name : List ℕ) (u : Text) (mount : k ≡ owner bindings (name ∷ u)) (opened : IsOpen space (name ∷ u)) where
    -- from the source of a mount
    out_of_mount : (i j : ℕ) → located bindings (name ∷ u) ≡ Some j → reach (host_of bindings (name ∷ u)) ≡ Some (Node i) → GoesUp space (node_in k i) u
    out_of_mount i j e way =
        let b = mount_below space set name u j e in
        let k_is : k ≡ j = mount ∙ owner_some bindings name u j e in
        let from : reach (host_of bindings (name ∷ u)) ≡ Some (Node b.mount.source) = ap reach (host_some bindings name u j e ∙ source_text space.table j b.mount b.there) ∙ source_reached space set j b.mount b.there in
        let nodes : Node b.mount.source ≡ Node i = some_is (Node b.mount.source) (Node i) (sym from ∙ way) in
        let source : b.mount.source ≡ i = cc in
        let up_is : up space.table k i ≡ Some (node_in b.point.mount b.point.dir) =
        ap (option_and_then (λ (r : Row). if nat_eq r.source i then point_place r else None)) (ap (row space.table) k_is ∙ b.there)
        ∙ ap (λ t. if t then point_place b.mount else None) (eq-eqb b.mount.source i source) ∙ ap (option_map (λ p. node_in p.mount p.dir)) b.stands in
        let goes = above_is k i (not_root k i (λ z _. b.later (sym k_is ∙ z))) ∙ ap (above_node space k i) up_is in
        let dirs : opened.0.dir ≡ Node b.point.dir = named_alone tree space.user space.finds (host_of bindings u) b.point.dir opened.0.dir b.dir opened.0.way in
        goes_to_place (node_in k i) (node_in b.point.mount b.point.dir) u goes (record { mount = b.in_mount; way = opened.0.way ∙ ap Some dirs; above = λ _. opened.1 }) b.is_dir

    -- from another directory
    out_of_node : (i : ℕ) → located bindings (name ∷ u) ≡ None → reach (host_of bindings (name ∷ u)) ≡ Some (Node i) → body_is is_directory tree i ≡ true → GoesUp space (node_in k i) u
    out_of_node i e way dir =
        let k_is : k ≡ owner bindings u = mount ∙ owner_none bindings name u e in
        let host_way : reach (name ∷ host_of bindings u) ≡ Some (Node i) = ap reach (sym (host_none bindings name u e)) ∙ way in
        let s = last_object tree space.user space.finds (host_of bindings u) name (Node i) host_way in
        let n = entry_in tree space.finds name s.dir i s.there in
        let host_named : named tree (name ∷ host_of bindings u) ≡ Some i = reached-named tree space.user (name ∷ host_of bindings u) i (node_reached space set (name ∷ host_of bindings u) i host_way) in
        let elsewhere : (r : Row) → row space.table k ≡ Some r → r.source ≢ i = λ r there. not_source space set i name u host_named dir r (ap (row space.table) (sym k_is) ∙ there) in
        let stays : up space.table k i ≡ None = no_up (row space.table k) refl elsewhere in
        let goes = above_is k i (not_root k i (λ z j. elsewhere (root_row space set) (ap (row space.table) z ∙ root_there space set) (sym (root_source_is space set) ∙ sym j)))
        ∙ ap (above_node space k i) stays ∙ ap (above_body k) (entry_stands tree set.sound n.ino name i n.there dir) in
        goes_to_place (node_in k i) (node_in k n.ino) u goes (record { mount = k_is; way = s.way ∙ ap Some n.is; above = λ _. opened.1 }) (entry_in_directory tree n.ino name i n.there)
      where
        no_up : (o : Option Row) → row space.table k ≡ o → ((r : Row) → row space.table k ≡ Some r → r.source ≢ i) → option_and_then (λ (r : Row). if nat_eq r.source i then point_place r else None) o ≡ None
        no_up None w h = refl
        no_up (Some r) w h = ap (λ b. if b then point_place r else None) (ne_eqb r.source i (h r w))

    -- in the process directory
    out_of_process : (i : ℕ) (at : ProcAt) → reach (host_of bindings (name ∷ u)) ≡ Some (Proc i at) → is_process_directory at ≡ true → GoesUp space (place_in k (Proc i at)) u
    out_of_process i at way dir =
        let e = not_located space set leads laws name u i at way in
        let k_is : k ≡ owner bindings u = mount ∙ owner_none bindings name u e in
        let host_way : reach (name ∷ host_of bindings u) ≡ Some (Proc i at) = ap reach (sym (host_none bindings name u e)) ∙ way in
        let s = last_object tree space.user space.finds (host_of bindings u) name (Proc i at) host_way in
        by at dir host_way s.dir k_is s.way s.is_dir (found_in tree space.finds name s.dir i at s.there)
      where
        goes_to : (at : ProcAt) (y : Host) → k ≡ owner bindings u → reach (host_of bindings u) ≡ Some y → is_directory_at tree y ≡ true → above_process space k i at ≡ shows_directory (place_in k y) → GoesUp space (place_in k (Proc i at)) u
        goes_to at y k_is way dir goes = goes_to_place (place_in k (Proc i at)) (place_in k y) u (above_process_is k i at ∙ goes) (record { mount = k_is; way = way; above = λ _. opened.1 }) dir

        by : (at : ProcAt) → is_process_directory at ≡ true → reach (name ∷ host_of bindings u) ≡ Some (Proc i at) → (d : Host) → k ≡ owner bindings u → reach (host_of bindings u) ≡ Some d → is_directory_at tree d ≡ true → IsFoundIn tree space.finds name i at d
            → GoesUp space (place_in k (Proc i at)) u
        by SelfLink other way d k_is up_way up_dir f = absurd cc
        by (Cwd pid) other way d k_is up_way up_dir f = absurd cc
        by (Root pid) other way d k_is up_way up_dir f = absurd cc
        by (Exe pid) other way d k_is up_way up_dir f = absurd cc
        by (Fd pid fd) other way d k_is up_way up_dir f = absurd cc
        by (Dir pid) dir way _ k_is up_way up_dir (at_top is found) =
            goes_to (Dir pid) (Node i) k_is up_way up_dir (ap (λ b. if b then shows_directory (node_in k i) else Fails ENOENT) (process_shown space set leads laws (name ∷ host_of bindings u) i pid way))
        by (Dir pid) dir way _ k_is up_way up_dir (below_top parent found) = let clash : None ≡ Some parent = laws.stands (Some parent) name (Dir pid) found in absurd cc
        by (FdDir pid) dir way _ k_is up_way up_dir (at_top is found) = let clash : Some (Dir pid) ≡ None = laws.stands None name (FdDir pid) found in absurd cc
        by (FdDir pid) dir way _ k_is up_way up_dir (below_top parent found) =
            let is : Dir pid ≡ parent = some_is (Dir pid) parent (laws.stands (Some parent) name (FdDir pid) found) in
            let there : reach (host_of bindings u) ≡ Some (Proc i (Dir pid)) = up_way ∙ ap (λ d. Some (Proc i d)) (sym is) in
            goes_to (FdDir pid) (Proc i (Dir pid)) k_is there refl (ap (λ b. if b then shows_directory (place_in k (Proc i (Dir pid))) else Fails ENOENT) (process_shown space set leads laws (host_of bindings u) i pid there))

  up_from : (k : ℕ) (x : Host) (name : List ℕ) (u : Text) → k ≡ owner bindings (name ∷ u) → reach (host_of bindings (name ∷ u)) ≡ Some x → is_directory_at tree x ≡ true → IsOpen space (name ∷ u) → GoesUp space (place_in k x) u
  up_from k (Node i) name u mount way dir opened = by (located bindings (name ∷ u)) refl
    where
      by : (o : Option ℕ) → located bindings (name ∷ u) ≡ o → GoesUp space (node_in k i) u
      by None e = out_of_node k name u mount opened i e way dir
      by (Some j) e = out_of_mount k name u mount opened i j e way
  up_from k (Proc i at) name u mount way dir opened = out_of_process k name u mount opened i at way dir

  -- above a directory that stands at a text, one stands at the text above
  pub goes_up : (k : ℕ) (x : Host) (t : Text) → Stands space (place_in k x) t → is_directory_at tree x ≡ true → GoesUp space (place_in k x) (text_above t)
  goes_up k x [] r dir = at_root k x r dir
  goes_up k x (name ∷ u) r dir = up_from k x name u r.mount r.way dir (r.above dir)
