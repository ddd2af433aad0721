-- Where paths begin for a tracer and for both kernels.
use Rattle.std.proofs.Common.{◌≡◌, ℕ, Bool, true, false, List, [], ◌∷◌, Option, Some, None, Result, Ok, Err, refl, sym, ap, ◌∙◌}
use Rattle.std.specs.Prelude.{◌==◌, ◌||◌, not, length, ℤ, pos, negsuc}
use Rattle.std.specs.Bool.{if◌then◌else◌}
use Rattle.std.specs.Option.{option_map, option_map_or, option_and_then}
use Rattle.std.proofs.lemmas.List.Elements.{All-nil}
use Rattle.law_edits.specs.pr_base.MountText.{MountText}
use Rattle.law_edits.specs.pr_base.Paths.{IsPart, is_absolute, slash, text_of}
use Rattle.law_edits.specs.pr_base.Texts.{Text}
use Rattle.law_edits.specs.pr_base.declared.errno.Errno.{Errno}
use Rattle.law_edits.specs.pr_base.declared.errno.Errno.TheVariants.{EBADF, ENOENT, ENOTDIR}
use Rattle.law_edits.specs.pr_base.declared.peeks.BaseKind.{BaseKind}
use Rattle.law_edits.specs.pr_base.declared.peeks.BaseKind.TheVariants as kind
use Rattle.law_edits.proofs.pr_base.PathLemmas.{names_are_parts}
use Rattle.law_edits.specs.pt_bind.Binding.{guest_of, names_of}
use Rattle.law_edits.specs.pt_bind.Tags.{TagTable, tag_of}
use Rattle.law_edits.specs.pt_bind.declared.slot.Slot.TheVariants as slot
use Rattle.law_edits.proofs.pt_bind.ByteLemmas.{names_written}
use Rattle.law_places.specs.pt_canon.TextWalk.{TextSurroundings}
use Rattle.law_edits.specs.pt_args.Bases as traced
use Rattle.law_edits.specs.pt_args.Bases.{or_lost, tagged_text}
use Rattle.law_edits.specs.kr_calls.PathTable.{PathUse}
use Rattle.law_places.specs.kr_tree.declared.place.Place.{Place}
use Rattle.law_places.proofs.kr_tree.NameLemmas.{then_some}
use Rattle.law_places.specs.kr_view.Component.{Namespace, is_directory_at}
use Rattle.law_places.specs.kr_view.HostReach.{host_place}
use Rattle.law_places.specs.kr_view.View.{Row, plain, root_place}
use Rattle.law_places.proofs.kr_view.TableLemmas.{there_is}
use Rattle.law_places.specs.kr_files.declared.opened.Opened.{Opened}
use Rattle.law_places.specs.kr_files.Descriptors.{Named}
use Rattle.law_places.specs.kr_files.Files.{file_at}
use Rattle.law_places.specs.kr_mounts.Standing.{texts_of}
use Rattle.law_places.specs.kr_model.Applied.{cwd_of}
use Rattle.law_places.specs.kr_model.Asking.{descriptor_number, is_working_directory}
use Rattle.law_places.specs.kr_model.Bare.{pins_of}
use Rattle.law_places.specs.kr_model.FileRows.{is_dir}
use Rattle.law_places.specs.kr_model.HostView.{host_space, open_name}
use Rattle.law_places.specs.kr_model.Peeks.{kind_of_base}
use Rattle.law_places.specs.kr_model.ProcessDirectory.{name_text, space_of}
use Rattle.law_places.specs.kr_model.State.{Image, Process, State, named, opened, process}
use Rattle.law_places.specs.kr_model.Walks.{base_of, place_of_descriptor, place_of_open}
use Rattle.law_places.proofs.law_walks.BareStateLemmas.{peeks_are_bare}
use Rattle.law_places.specs.law_walks.Settled.{IsSettled}
use Rattle.law_places.specs.law_walks.Standing.{Stands}
use Rattle.law_places.specs.law_walks.States.{ArePlaced, IsInUse}
use Rattle.law_places.proofs.law_walks.InUseLemmas.{host_is, laws, read_back, tag_is}
use Rattle.law_places.proofs.law_walks.StandingLemmas.{roots_stand, standing_places_are_called}
use Rattle.law_places.proofs.MatchLemmas.{tagged_places_are_placed}
use Rattle.law_plans.specs.Begins.{BaseAgrees, BaseOn, BasesAgree, LostBase, NoBase, StandTogether, told_texts}

-- ---- the tracer reads numbers as the kernels do

same_working : (d : ℤ) → traced.is_working_directory d ≡ is_working_directory d
same_working (pos n) = refl
same_working (negsuc n) = refl

same_number : (d : ℤ) → traced.descriptor_number d ≡ descriptor_number d
same_number (pos n) = refl
same_number (negsuc n) = refl

-- ---- what isn't open on a directory

closed_base : (o : Option (Opened ℕ)) → kind_of_base o ≡ kind.Closed → option_map_or place_of_open o (Err EBADF) ≡ Err EBADF
closed_base None e = refl
closed_base (Some o) e = absurd (by (is_dir o.what) e)
  where
    by : (b : Bool) → (if b then kind.Dir else kind.Other) ≡ kind.Closed → ⊥
    by true e = cc
    by false e = cc

other_open : (o : Opened ℕ) → is_dir o.what ≡ false → place_of_open o ≡ Err ENOTDIR
other_open o is = ap (λ b. if b then option_map_or (λ (p : Place ℕ). Ok p) o.place (Err ENOTDIR) else Err ENOTDIR) is

other_base : (o : Option (Opened ℕ)) → kind_of_base o ≡ kind.Other → option_map_or place_of_open o (Err EBADF) ≡ Err ENOTDIR
other_base None e = absurd cc
other_base (Some o) e = other_open o (by (is_dir o.what) e)
  where
    by : (b : Bool) → (if b then kind.Dir else kind.Other) ≡ kind.Other → b ≡ false
    by true e = absurd cc
    by false e = refl

directory_base : (o : Option (Opened ℕ)) → kind_of_base o ≡ kind.Dir → (x : Opened ℕ) × (o ≡ Some x) × (is_dir x.what ≡ true)
directory_base None e = absurd cc
directory_base (Some o) e = (o, refl, by (is_dir o.what) e)
  where
    by : (b : Bool) → (if b then kind.Dir else kind.Other) ≡ kind.Dir → b ≡ true
    by true e = refl
    by false e = absurd cc

module _ (table : List Row) (tags : TagTable) (s w : State ℕ Image) (pid : ℕ) (both : StandTogether table tags s w) where
  abbrev space : Namespace
  space = space_of table s

  abbrev texts : TextSurroundings
  texts = told_texts table s pid tags

  abbrev bindings : List MountText
  bindings = texts_of table

  pub set : IsSettled space
  set = both.matched.placed.settled

  placed : ArePlaced table s tags
  placed = tagged_places_are_placed table s tags both.matched.placed both.matched.tagged

  -- ---- the guest text of a place in use

  -- a text at which something stands is read back from its bytes
  pub standing_read : (p : Place ℕ) (t : Text) → Stands space p t → names_of (text_of t) ≡ t
  standing_read p t on = names_written t (names_are_parts t (standing_places_are_called space _ p t set (laws table s pid set both.small) on).1)

  module _ (p : Place ℕ) (dir : ℕ) (name : List ℕ) (tag : ℕ) (own : IsInUse space p dir name tag) where
    in_use_text : tagged_text bindings tag (name_text (host_space s) (host_place p.host) dir name) ≡ Some (text_of own.guest)
    in_use_text =
        ap (tagged_text bindings tag) (host_is table s pid set both.small p dir name tag own)
        ∙ ap (λ h. option_map text_of (guest_of bindings tag h)) (read_back table s pid set both.small p dir name tag own)
        ∙ ap (option_map text_of) (tag_is table s pid set both.small p dir name tag own)

    in_use_read : names_of (text_of own.guest) ≡ own.guest
    in_use_read = standing_read p own.guest own.stands.stands

  -- a directory in use
  directory_in_use : (p : Place ℕ) (tag : ℕ) (name : List ℕ) → is_directory_at s.tree p.host ≡ true → (is_directory_at s.tree p.host || not (length name == 0)) ≡ true
  directory_in_use p tag name dir = ap (λ b. b || not (length name == 0)) dir

  -- ---- relative paths

  module _ (u : PathUse) (relative : is_absolute u.text ≡ false) where
    abbrev kernel_base : List Row → State ℕ Image → ℤ → Result (Place ℕ) Errno
    kernel_base rows x d =
        if is_working_directory d then option_map_or (λ p. Ok p) (cwd_of pid x) (Err ENOENT)
        else place_of_descriptor rows pid x (descriptor_number d)

    abbrev text_base : ℤ → Result (Option (List ℕ)) Errno
    text_base d =
        if traced.is_working_directory d then traced.working_base texts pid
        else traced.numbered_base texts pid (traced.descriptor_number d)

    kernel_is : (rows : List Row) (x : State ℕ Image) (d : ℤ) → u.dirfd ≡ d → base_of rows pid x u ≡ kernel_base rows x d
    kernel_is rows x d is = ap (λ b. if b then Ok (root_place rows) else kernel_base rows x u.dirfd) relative ∙ ap (kernel_base rows x) is

    text_is : (d : ℤ) → u.dirfd ≡ d → traced.base_of texts pid u ≡ text_base d
    text_is d is = ap (λ b. if b then Ok (Some (slash ∷ [])) else text_base u.dirfd) relative ∙ ap text_base is

    abbrev Agrees : Type 0
    Agrees = BaseAgrees table tags s w pid u

    -- ---- the working directory

    working : (m : ℕ) → u.dirfd ≡ negsuc m → (m == 99) ≡ true → Agrees
    working m is here = by (process pid s) refl
      where
        base : Option (Process ℕ Image) → Result (Place ℕ) Errno
        base o = option_map_or (λ p. Ok p) (option_map (λ (p : Process ℕ Image). p.cwd) o) (Err ENOENT)

        text : Option (Process ℕ Image) → Result (Option (List ℕ)) Errno
        text o = or_lost (tagged_text bindings (tag_of tags pid slot.Cwd) (option_and_then (λ (p : Process ℕ Image). name_text (host_space s) (host_place p.cwd.host) 0 []) o))

        base_is : (o : Option (Process ℕ Image)) → process pid s ≡ o → base_of table pid s u ≡ base o
        base_is o e =
            kernel_is table s (negsuc m) is ∙ ap (λ b. if b then option_map_or (λ p. Ok p) (cwd_of pid s) (Err ENOENT) else place_of_descriptor table pid s None) here ∙ ap base e

        read_is : (o : Option (Process ℕ Image)) → process pid s ≡ o → traced.base_of texts pid u ≡ text o
        read_is o e = text_is (negsuc m) is ∙ ap (λ b. if b then traced.working_base texts pid else traced.numbered_base texts pid None) here ∙ ap text e

        by : (o : Option (Process ℕ Image)) → process pid s ≡ o → Agrees
        by None e = LostBase ENOENT (read_is None e) (base_is None e)
        by (Some p) e =
            let tag = tag_of tags pid slot.Cwd in
            let own = (placed.cwd pid p e).called (directory_in_use p.cwd tag [] (both.matched.placed.lawful.processes pid p e).cwd.1) in
            BaseOn p.cwd own.guest (read_is (Some p) e ∙ ap or_lost (in_use_text p.cwd 0 [] tag own)) (base_is (Some p) e) own.stands (in_use_read p.cwd 0 [] tag own)

    -- ---- descriptors

    none_open : (m : ℕ) → u.dirfd ≡ negsuc m → (m == 99) ≡ false → Agrees
    none_open m is other =
        NoBase EBADF
        (text_is (negsuc m) is ∙ ap (λ b. if b then traced.working_base texts pid else traced.numbered_base texts pid None) other)
        (kernel_is table s (negsuc m) is ∙ ap (λ b. if b then option_map_or (λ p. Ok p) (cwd_of pid s) (Err ENOENT) else place_of_descriptor table pid s None) other)
        (kernel_is plain w (negsuc m) is ∙ ap (λ b. if b then option_map_or (λ p. Ok p) (cwd_of pid w) (Err ENOENT) else place_of_descriptor plain pid w None) other)

    same_kind : (fd : ℕ) → kind_of_base (opened pid fd w) ≡ kind_of_base (opened pid fd s)
    same_kind fd = sym (ap (λ peeked. peeked.base_kind pid fd) (peeks_are_bare ℕ ℕ (pins_of table) (pins_of plain) s w pid both.matched.bares))

    open_directory : (fd : ℕ) → u.dirfd ≡ pos fd → kind_of_base (opened pid fd s) ≡ kind.Dir → Agrees
    open_directory fd is e =
        let d = directory_base (opened pid fd s) e in
        let o = d.0 in
        let x = then_some (λ (x : Named). file_at s.files x.number) (named pid fd s) o d.1 in
        let kept = both.matched.placed.lawful.files x.0.number o x.2 in
        let there = there_is o.place (kept.directories d.2).0 in
        let p = there.0 in
        let tag = tag_of tags pid (slot.Fd fd) in
        let own = (placed.open_files pid fd o p d.1 there.1).called (directory_in_use p tag o.name ((kept.placed p there.1).1 ∙ d.2)) in
        BaseOn p own.guest
        (text_is (pos fd) is ∙ ap (traced.descriptor_base texts pid fd) e ∙ ap (λ q. or_lost (tagged_text bindings tag (option_and_then (open_name s) q))) d.1
        ∙ ap (λ q. or_lost (tagged_text bindings tag (option_and_then (λ (p : Place ℕ). name_text (host_space s) (host_place p.host) o.dir o.name) q))) there.1 ∙ ap or_lost (in_use_text p o.dir o.name tag own))
        (kernel_is table s (pos fd) is ∙ ap (λ q. option_map_or place_of_open q (Err EBADF)) d.1
        ∙ ap (λ b. if b then option_map_or (λ (p : Place ℕ). Ok p) o.place (Err ENOTDIR) else Err ENOTDIR) d.2 ∙ ap (λ q. option_map_or (λ (p : Place ℕ). Ok p) q (Err ENOTDIR)) there.1)
        own.stands (in_use_read p o.dir o.name tag own)

    numbered : (fd : ℕ) → u.dirfd ≡ pos fd → (k : BaseKind) → kind_of_base (opened pid fd s) ≡ k → Agrees
    numbered fd is kind.Closed e =
        NoBase EBADF (text_is (pos fd) is ∙ ap (traced.descriptor_base texts pid fd) e) (kernel_is table s (pos fd) is ∙ closed_base (opened pid fd s) e)
        (kernel_is plain w (pos fd) is ∙ closed_base (opened pid fd w) (same_kind fd ∙ e))
    numbered fd is kind.Other e =
        NoBase ENOTDIR (text_is (pos fd) is ∙ ap (traced.descriptor_base texts pid fd) e) (kernel_is table s (pos fd) is ∙ other_base (opened pid fd s) e)
        (kernel_is plain w (pos fd) is ∙ other_base (opened pid fd w) (same_kind fd ∙ e))
    numbered fd is kind.Dir e = open_directory fd is e

    relative_agrees : (d : ℤ) → u.dirfd ≡ d → Agrees
    relative_agrees (pos fd) is = numbered fd is (kind_of_base (opened pid fd s)) refl
    relative_agrees (negsuc m) is = by (m == 99) refl
      where
        by : (b : Bool) → (m == 99) ≡ b → Agrees
        by true e = working m is e
        by false e = none_open m is e

  -- an absolute path begins at the root
  absolute_agrees : (u : PathUse) → is_absolute u.text ≡ true → BaseAgrees table tags s w pid u
  absolute_agrees u absolute =
      BaseOn (root_place table) []
      (ap (λ b. if b then Ok (Some (slash ∷ [])) else (if traced.is_working_directory u.dirfd then traced.working_base texts pid else traced.numbered_base texts pid (traced.descriptor_number u.dirfd))) absolute)
      (ap (λ b. if b then Ok (root_place table) else (if is_working_directory u.dirfd then option_map_or (λ p. Ok p) (cwd_of pid s) (Err ENOENT) else place_of_descriptor table pid s (descriptor_number u.dirfd))) absolute)
      (roots_stand space set) (names_written [] (All-nil IsPart))

pub bases_agree : BasesAgree
bases_agree table tags s w pid u both = by (is_absolute u.text) refl
  where
    by : (b : Bool) → is_absolute u.text ≡ b → BaseAgrees table tags s w pid u
    by true e = absolute_agrees table tags s w pid both u e
    by false e = relative_agrees table tags s w pid both u e u.dirfd refl
