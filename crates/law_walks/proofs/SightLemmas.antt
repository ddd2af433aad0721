-- Where the paths of a call begin is told by the bare part of a state whose places are in the host's one mount, and so is all that the call is told.
use Rattle.std.proofs.Common.{◌≡◌, ℕ, List, [], ◌∷◌, Option, Some, None, Result, Ok, Err, refl, sym, ap, ◌∙◌}
use Rattle.std.specs.Bool.{if◌then◌else◌}
use Rattle.std.specs.Option.{option_map, option_map_or}
use Rattle.pt_canon.specs.pr_base.Paths.{is_absolute}
use Rattle.pt_canon.specs.pr_base.declared.errno.Errno.{Errno}
use Rattle.pt_canon.specs.pr_base.declared.errno.Errno.TheVariants.{EBADF, ENOENT, ENOTDIR}
use Rattle.pt_canon.specs.pr_base.declared.path.WalkMode.{WalkMode}
use Rattle.kr_mounts.specs.kr_tree.declared.place.Place.{Place}
use Rattle.kr_mounts.specs.kr_view.HostReach.{host_place}
use Rattle.kr_mounts.specs.kr_view.View.{plain, root_place}
use Rattle.kr_mounts.specs.kr_view.Walk.{place_walk}
use Rattle.kr_model.specs.kr_files.declared.opened.Opened.{Opened}
use Rattle.kr_model.specs.kr_calls.PathTable.{PathUse, path_at}
use Rattle.kr_model.specs.kr_calls.declared.request.Request.{Request}
use Rattle.kr_model.specs.Asking.{descriptor_number, is_working_directory}
use Rattle.kr_model.specs.Bare.{bare, host_only}
use Rattle.kr_model.specs.FileRows.{is_dir}
use Rattle.kr_model.specs.ProcessDirectory.{around_of}
use Rattle.kr_model.specs.State.{Image, Layout, State, image_layout, opened, process}
use Rattle.kr_model.specs.Walks.{Targets, and_then, base_of, place_of_descriptor, place_of_open, seen_of, target_at, targets_of, walked}
use Rattle.law_walks.specs.Alike.{AreEqualButForMounts}
use Rattle.law_walks.specs.BareFacts.{PlainSightIsBare}
use Rattle.law_walks.specs.OneMount.{IsInOneMount}
use Rattle.law_walks.proofs.BareFactLemmas.{facts_alike, told_plain}
use Rattle.law_walks.proofs.OneMountLemmas.{of_found, on_host, plain_walks_are_host_walks, same_cwd}
use Rattle.law_walks.proofs.BareStateLemmas.{host_walks_are_bare, of_mapped, of_opened, of_process}

-- ---- where paths begin, on the host

abbrev begun : Errno → Option (Place ℕ) → Result (Place ℕ) Errno
begun e o = option_map_or (λ p. Ok p) o (Err e)

abbrev begun_on_host : {M : Type 0} → Errno → Option (Place M) → Result (Place ℕ) Errno
begun_on_host e o = option_map_or (λ p. Ok (host_place p.host)) o (Err e)

abbrev open_on_host : {M : Type 0} → Opened M → Result (Place ℕ) Errno
open_on_host o = if is_dir o.what then begun_on_host ENOTDIR o.place else Err ENOTDIR

module _ {M X : Type 0} (caller : ℕ) (s : State M X) where
  abbrev directory_on_host : Result (Place ℕ) Errno
  directory_on_host = option_map_or (λ p. Ok (host_place p.cwd.host)) (process caller s) (Err ENOENT)

  abbrev descriptor_on_host : Option ℕ → Result (Place ℕ) Errno
  descriptor_on_host None = Err EBADF
  descriptor_on_host (Some fd) = option_map_or open_on_host (opened caller fd s) (Err EBADF)

  abbrev base_on_host : PathUse → Result (Place ℕ) Errno
  base_on_host u =
      if is_absolute u.text then Ok (root_place plain)
      else if is_working_directory u.dirfd then directory_on_host
      else descriptor_on_host (descriptor_number u.dirfd)

-- ---- the bare part has the same

module _ (M : Type 0) (pins : ℕ → ℕ) (s : State M Image) (caller : ℕ) where
  abbrev b : State (Unit {0}) Layout
  b = bare image_layout pins s

  bare_directory : directory_on_host caller b ≡ directory_on_host caller s
  bare_directory =
      of_process M pins s (λ o. option_map_or (λ p. Ok (host_place p.cwd.host)) o (Err ENOENT)) (λ o. option_map_or (λ p. Ok (host_place p.cwd.host)) o (Err ENOENT)) refl (λ p. refl) caller

  bare_begun : (e : Errno) (o : Option (Place M)) → begun_on_host e (option_map host_only o) ≡ begun_on_host e o
  bare_begun e = of_mapped host_only (begun_on_host e) (begun_on_host e) refl (λ p. refl)

  bare_descriptor : (d : Option ℕ) → descriptor_on_host caller b d ≡ descriptor_on_host caller s d
  bare_descriptor None = refl
  bare_descriptor (Some fd) =
      of_opened M pins s (λ o. option_map_or open_on_host o (Err EBADF)) (λ o. option_map_or open_on_host o (Err EBADF)) refl
      (λ o j. if is_dir o.what then bare_begun ENOTDIR o.place j else Err ENOTDIR) caller fd

  bare_base : (u : PathUse) → base_on_host caller b u ≡ base_on_host caller s u
  bare_base u =
      λ j. if is_absolute u.text then Ok (root_place plain)
      else if is_working_directory u.dirfd then bare_directory j
      else bare_descriptor (descriptor_number u.dirfd) j

-- ---- and in the host's one mount a call begins there

module _ (caller : ℕ) (w : State ℕ Image) (one : IsInOneMount w) where
  own_directory : option_map_or (λ p. Ok p) (option_map (λ p. p.cwd) (process caller w)) (Err ENOENT) ≡ directory_on_host caller w
  own_directory =
      of_found (λ o. begun ENOENT (option_map (λ p. p.cwd) o)) (λ o. option_map_or (λ p. Ok (host_place p.cwd.host)) o (Err ENOENT)) refl (process caller w)
      (λ p is. ap Ok (same_cwd w one caller caller p is))

  own_open : (fd : ℕ) (o : Opened ℕ) → opened caller fd w ≡ Some o → place_of_open o ≡ open_on_host o
  own_open fd o is = λ j. if is_dir o.what then placed j else Err ENOTDIR
    where
      placed : begun ENOTDIR o.place ≡ begun_on_host ENOTDIR o.place
      placed = of_found (begun ENOTDIR) (begun_on_host ENOTDIR) refl o.place (λ p at. ap Ok (on_host p (one.open_files caller fd o p is at)))

  own_descriptor : (d : Option ℕ) → place_of_descriptor plain caller w d ≡ descriptor_on_host caller w d
  own_descriptor None = refl
  own_descriptor (Some fd) =
      of_found (λ o. option_map_or place_of_open o (Err EBADF)) (λ o. option_map_or open_on_host o (Err EBADF)) refl (opened caller fd w) (own_open fd)

  own_base : (u : PathUse) → base_of plain caller w u ≡ base_on_host caller w u
  own_base u =
      λ j. if is_absolute u.text then Ok (root_place plain)
      else if is_working_directory u.dirfd then own_directory j
      else own_descriptor (descriptor_number u.dirfd) j

-- ---- two plain kernels

module _ (pins less : ℕ → ℕ) (w v : State ℕ Image) (caller : ℕ) (same : AreEqualButForMounts pins less w v) (one : IsInOneMount w) (single : IsInOneMount v) where
  same_base : (u : PathUse) → base_of plain caller w u ≡ base_of plain caller v u
  same_base u =
      own_base caller w one u
      ∙ sym (bare_base ℕ pins w caller u)
      ∙ ap (λ (x : State (Unit {0}) Layout). base_on_host caller x u) same
      ∙ bare_base ℕ less v caller u
      ∙ sym (own_base caller v single u)

  same_place : (mode : WalkMode) (base : Place ℕ) (path : List ℕ) → place_walk (around_of plain caller w) mode base path ≡ place_walk (around_of plain caller v) mode base path
  same_place mode base path =
      ap (λ around. place_walk around mode base path) (plain_walks_are_host_walks Image w caller one)
      ∙ host_walks_are_bare ℕ ℕ pins less w v caller mode base path same
      ∙ ap (λ around. place_walk around mode base path) (sym (plain_walks_are_host_walks Image v caller single))

  same_walked : (u : PathUse) (text : List ℕ) → walked plain caller w u text ≡ walked plain caller v u text
  same_walked u [] = refl
  same_walked u (b ∷ path) = λ j. and_then (same_base u j) (λ base. and_then (same_place u.mode base (b ∷ path) j).answer (λ target. Ok (Some target)))

  same_target : (o : Option PathUse) → target_at plain caller w o ≡ target_at plain caller v o
  same_target None = refl
  same_target (Some u) = same_walked u u.text

  same_targets : (r : Request) → targets_of plain caller w r ≡ targets_of plain caller v r
  same_targets r = λ j. and_then (same_target (path_at r 0) j) (λ first. and_then (same_target (path_at r 1) j) (λ second. Ok (record { first = first; second = second })))

  same_told : (r : Request) (targets : Result Targets Errno) → seen_of plain caller w r targets ≡ seen_of plain caller v r targets
  same_told r (Ok targets) = told_plain Image w caller one r targets ∙ facts_alike pins less w v caller same r targets ∙ sym (told_plain Image v caller single r targets)
  same_told r (Err e) = refl

pub plain_sight_is_bare : PlainSightIsBare
plain_sight_is_bare pins less w v caller r same one single = record {
  targets = same_targets pins less w v caller same one single r;
  told = λ j. same_told pins less w v caller same one single r (same_targets pins less w v caller same one single r j) j;
}
