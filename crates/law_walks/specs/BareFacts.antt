-- What calls are told in the host's own view of a state, and that two states which are equal but for mounts are told the same.
use Rattle.std.specs.Prelude.{◌≡◌, ◌≢◌, ℕ, true, List, [], ◌∷◌, Option, Some, None, Result, Ok, Err}
use Rattle.std.specs.Fmt.{decimal}
use Rattle.std.specs.Option.{option_and_then}
use Rattle.pt_canon.specs.pr_base.Paths.{is_absolute}
use Rattle.pt_canon.specs.pr_base.declared.errno.Errno.{Errno}
use Rattle.kr_mounts.specs.kr_tree.declared.place.Host.{Host}
use Rattle.kr_mounts.specs.kr_tree.declared.place.Host.TheVariants.{Node, Proc}
use Rattle.kr_mounts.specs.kr_tree.declared.place.ProcAt.{ProcAt}
use Rattle.kr_mounts.specs.kr_tree.declared.place.ProcAt.TheVariants.{SelfLink, Dir, Cwd, Root, Exe, FdDir, Fd}
use Rattle.kr_mounts.specs.kr_view.View.{Row, plain, root_place}
use Rattle.kr_mounts.specs.kr_view.Walk.{PlaceTarget, place_walk}
use Rattle.kr_model.specs.kr_calls.CallTable.{Told, ReadsLinkAt, NamesHere, line}
use Rattle.kr_model.specs.kr_calls.PathTable.{PathUse, path_at}
use Rattle.kr_model.specs.kr_calls.declared.request.Request.{Request}
use Rattle.kr_model.specs.HostView.{base_text, cwd_name, exe_name, host_around_of, host_space}
use Rattle.kr_model.specs.ProcessDirectory.{name_text}
use Rattle.kr_model.specs.Seen.{Looked, Seen, WalkFails, ReadsLink, NamesDirectory}
use Rattle.kr_model.specs.State.{Image, State, process}
use Rattle.kr_model.specs.Walks.{Targets, and_then, created_at, if_found, linked_at, made_at, moved_at, of_one, opened_at, seen, taken_at, targets_of, text_at, told, told_by}
use Rattle.law_walks.specs.Alike.{AreEqualButForMounts}
use Rattle.law_walks.specs.OneMount.{IsInOneMount}

-- ---- what is told of targets

-- in a view, of every target
pub record AreToldAlike {X : Type 0} (table : List Row) (caller : ℕ) (s w : State ℕ X) : Type 0 where
  pub found : (target : PlaceTarget) (next : Looked → Seen) → if_found table caller s target next ≡ if_found table caller w target next
  pub taken : (target : PlaceTarget) → taken_at table caller s target ≡ taken_at table caller w target
  pub made : (target : PlaceTarget) → made_at table caller s target ≡ made_at table caller w target
  pub created : (target : PlaceTarget) → created_at table caller s target ≡ created_at table caller w target
  pub opened : (flags : ℕ) (target : PlaceTarget) → opened_at table caller s flags target ≡ opened_at table caller w flags target
  pub linked : (old new : PlaceTarget) → linked_at table caller s old new ≡ linked_at table caller w old new
  pub moved : (old new : PlaceTarget) → moved_at table caller s old new ≡ moved_at table caller w old new

-- ---- in the host's own view

module _ {M X : Type 0} (caller : ℕ) (s : State M X) where
  -- the texts of the links of the process directory, which are host names
  abbrev pub process_text : ProcAt → Option (List ℕ)
  process_text SelfLink = Some (decimal caller)
  process_text (Dir pid) = None
  process_text (Cwd pid) = cwd_name s pid
  process_text (Root pid) = option_and_then (λ p. name_text (host_space s) (root_place plain) 0 []) (process pid s)
  process_text (Exe pid) = exe_name s pid
  process_text (FdDir pid) = None
  process_text (Fd pid fd) = base_text s pid fd

  abbrev pub text_on_host : Host → Option (List ℕ)
  text_on_host (Node i) = None
  text_on_host (Proc i at) = process_text at

  -- where a path leads that is absolute; an empty one isn't walked
  abbrev pub walked_on_host : PathUse → List ℕ → Result (Option PlaceTarget) Errno
  walked_on_host u [] = Ok None
  walked_on_host u (b ∷ path) = and_then (place_walk (host_around_of s caller) u.mode (root_place plain) (b ∷ path)).answer (λ target. Ok (Some target))

  abbrev pub target_on_host : Option PathUse → Result (Option PlaceTarget) Errno
  target_on_host None = Ok None
  target_on_host (Some u) = walked_on_host u u.text

  abbrev pub targets_on_host : Request → Result Targets Errno
  targets_on_host r = and_then (target_on_host (path_at r 0)) (λ first. and_then (target_on_host (path_at r 1)) (λ second. Ok (record { first = first; second = second })))

module _ {X : Type 0} (caller : ℕ) (s : State ℕ X) where
  -- names are host names; all else is told as in the plain view
  abbrev pub told_on_host_by : Told → Targets → Seen
  told_on_host_by (ReadsLinkAt at) targets = of_one targets (λ target. if_found plain caller s target (λ l. ReadsLink l (text_on_host caller s l.host)))
  told_on_host_by NamesHere targets = NamesDirectory (cwd_name s caller)
  told_on_host_by t targets = told_by plain caller s t targets

  abbrev pub told_on_host : Request → Targets → Seen
  told_on_host r targets = told_on_host_by (line r).told targets

  abbrev pub seen_of_targets : Request → Result Targets Errno → Seen
  seen_of_targets r (Ok targets) = told_on_host r targets
  seen_of_targets r (Err e) = WalkFails e

  -- what a call is told whose paths are absolute
  abbrev pub seen_on_host : Request → Seen
  seen_on_host r = seen_of_targets r (targets_on_host caller s r)

-- ---- laws

-- in the host's own view the texts of links, and so all that is told of targets
pub record AreToldAlikeOnHost (caller : ℕ) (s w : State ℕ Image) : Type 0 where
  pub texts : (x : Host) → text_on_host caller s x ≡ text_on_host caller w x
  pub facts : (r : Request) (targets : Targets) → told_on_host caller s r targets ≡ told_on_host caller w r targets

abbrev pub FactsAreBare : Type 0
FactsAreBare =
    (pins less : ℕ → ℕ) (s w : State ℕ Image) (caller : ℕ) → AreEqualButForMounts pins less s w → ((table : List Row) → AreToldAlike table caller s w) × AreToldAlikeOnHost caller s w

-- where all places are in the host's one mount, its own view is the plain one
pub record IsToldOnHost {X : Type 0} (caller : ℕ) (w : State ℕ X) : Type 0 where
  pub texts : (x : Host) → text_at plain caller w x ≡ text_on_host caller w x
  pub facts : (r : Request) (targets : Targets) → told plain caller w r targets ≡ told_on_host caller w r targets

abbrev pub PlainFactsAreHostFacts : Type 0 → Type 0
PlainFactsAreHostFacts X = (w : State ℕ X) (caller : ℕ) → IsInOneMount w → IsToldOnHost caller w

-- whatever its descriptors are, each path of a call that isn't empty is absolute
abbrev pub HasAbsolutePaths : Request → Type 0
HasAbsolutePaths r = (k : ℕ) (u : PathUse) → path_at r k ≡ Some u → u.text ≢ [] → is_absolute u.text ≡ true

-- so the plain kernel's walks in the one lead where walks over the host's own view lead in the other, and tell the same
pub record IsSeenOnHost (caller : ℕ) (s w : State ℕ Image) (r : Request) : Type 0 where
  pub targets : targets_of plain caller w r ≡ targets_on_host caller s r
  pub told : seen plain caller w r ≡ seen_on_host caller s r

abbrev pub SeenOnHostIsBare : Type 0
SeenOnHostIsBare =
    (pins less : ℕ → ℕ) (s w : State ℕ Image) (caller : ℕ) (r : Request) → AreEqualButForMounts pins less s w → IsInOneMount w → HasAbsolutePaths r → IsSeenOnHost caller s w r

-- two plain kernels see the same, wherever the paths of a call begin: at the root, in its directory or in one that is open
pub record AreSeenAlike (caller : ℕ) (w v : State ℕ Image) (r : Request) : Type 0 where
  pub targets : targets_of plain caller w r ≡ targets_of plain caller v r
  pub told : seen plain caller w r ≡ seen plain caller v r

abbrev pub PlainSightIsBare : Type 0
PlainSightIsBare =
    (pins less : ℕ → ℕ) (w v : State ℕ Image) (caller : ℕ) (r : Request) → AreEqualButForMounts pins less w v → IsInOneMount w → IsInOneMount v → AreSeenAlike caller w v r
