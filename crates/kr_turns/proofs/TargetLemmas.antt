-- The inode to which a call's first path led, or that of what stands in a path's place, as code finds it and as the call is told.
use Rattle.std.proofs.Common.{◌≡◌, ℕ, ℤ, List, Option, Some, None, Result, Ok, Err, get_or, refl, sym, ap, ◌∙◌}
use Rattle.std.specs.Option.{option_and_then, option_map, option_map_or}
use Rattle.std.proofs.lemmas.Option.{same_Some}
use Rattle.kr_hostview.specs.pr_base.declared.errno.Errno.{Errno}
use Rattle.kr_hostview.specs.pr_base.declared.errno.Errno.TheVariants.{ENOENT}
use Rattle.kr_execve.specs.kr_calls.CallTable.{LinksTwo, LooksAt, MakesAt, MovesTwo, NamesHere, OpensAt, ReadsLinkAt, TakesAt, Told, ToldNothing, line, paths_of}
use Rattle.kr_execve.specs.kr_calls.PathTable.{path_from}
use Rattle.kr_execve.specs.kr_calls.declared.request.Request.{Request}
use Rattle.kr_execve.specs.kr_tree.declared.place.Place.{Place}
use Rattle.kr_execve.specs.kr_view.Answers.{target_numbered, told as told_caller}
use Rattle.kr_execve.specs.kr_view.Leads.{numbered}
use Rattle.kr_execve.specs.kr_view.View.{Row}
use Rattle.kr_execve.specs.kr_view.Walk.{PlaceTarget}
use Rattle.kr_execve.specs.kr_view.declared.target.Target.{Target}
use Rattle.kr_calm.specs.kr_seen.CallWalks.{AreTargets, IsTold}
use Rattle.kr_hostview.specs.kr_files.WithoutMounts.{without_mount}
use Rattle.kr_hostview.specs.kr_files.declared.opened.Opened.{Opened}
use Rattle.kr_steps.specs.kr_model.Asking.{descriptor_number}
use Rattle.kr_steps.specs.kr_model.Known.{Known, caller_of, known, no_caller}
use Rattle.kr_steps.specs.kr_model.Seen.{LooksUp, NoPath, WalkFails}
use Rattle.kr_steps.specs.kr_model.State as model
use Rattle.kr_steps.specs.kr_model.Walks as walks
use Rattle.kr_steps.specs.kr_model.Walks.{and_then, looked_at, looks_up, seen, seen_of, target_at, targets_of, told_by}
use Rattle.kr_hostview.specs.kr_ops.declared.state.Process.{Process}
use Rattle.kr_hostview.specs.kr_ops.declared.state.State.{State}
use Rattle.kr_hostview.specs.kr_ops.Living.{HasPid}
use Rattle.kr_hostview.specs.kr_ops.Meaning.{meaning, process_meaning}
use Rattle.kr_hostview.specs.kr_ops.Sound.{IsSound}
use Rattle.kr_hostview.proofs.kr_ops.OpeningLemmas.{found}
use Rattle.kr_calm.specs.kr_seen.declared.walks.Targets.{Targets}
use Rattle.kr_turns.specs.Laws.{TargetsAreTold}
use Rattle.kr_turns.specs.Target.{IsLookedAt, inode_at, inode_found, inode_instead, inode_open, inode_under, instead_of, target_by, target_of}

-- ---- by the code's targets

module _ {T : Type 0} (number : T → ℕ) (k : Known) (r : Request) where
  -- of what a path led to
  abbrev pub inode_at_place : Option (Place T) → Option ℕ
  inode_at_place o = option_and_then (λ p. inode_at k p.host) o

  place-numbered : (o : Option (Place T)) → option_and_then (λ (p : Place ℕ). inode_at k p.host) (option_map (numbered number) o) ≡ inode_at_place o
  place-numbered None = refl
  place-numbered (Some p) = refl

  found-inode : (x : PlaceTarget) (y : Target T) → told_caller x ≡ target_numbered number y → inode_found k x ≡ inode_at_place y.found
  found-inode x y e = ap (λ (t : Target ℕ). option_and_then (λ (p : Place ℕ). inode_at k p.host) t.found) e ∙ place-numbered y.found

  along : (o : Option PlaceTarget) (y : Option (Target T)) → IsTold number o y → option_map_or (inode_found k) o (inode_instead k (instead_of r)) ≡ option_map_or (λ (t : Target T). inode_at_place t.found) y (inode_instead k (instead_of r))
  along None None told = refl
  along None (Some y) told = absurd cc
  along (Some x) None told = absurd cc
  along (Some x) (Some y) told = found-inode x y (same_Some _ _ told)

  pub target-along : (targets : Targets T) (answer : Result walks.Targets Errno) → AreTargets number answer (Ok targets)
      → option_map_or (λ (t : Target T). inode_at_place t.found) targets.first (inode_instead k (instead_of r)) ≡ target_of r k answer
  target-along targets answer are = sym (ap (target_of r k) are.1 ∙ along are.0.first targets.first are.2)

-- ---- descriptors and the working directory

-- what is open, without its mount
pub open-inode : {T : Type 0} (k : Known) (o : Opened T) → inode_open k (without_mount o) ≡ option_and_then (λ p. inode_at k p.host) o.place
open-inode {T} k o = goes o.place
  where
    goes : (place : Option (Place T)) → option_and_then (λ (p : Place (Unit {0})). inode_at k p.host) (option_map (λ (p : Place T). record { mount = tt; host = p.host }) place) ≡ option_and_then (λ p. inode_at k p.host) place
    goes None = refl
    goes (Some p) = refl

module _ {T : Type 0} (pid : ℕ) (s : model.State T model.Image) (fd : ℤ) where
  abbrev here : Known
  here = known model.image_layout pid s

  pub negative : descriptor_number fd ≡ None → inode_under here fd ≡ None
  negative number = ap (λ d. option_and_then (λ n. option_and_then (inode_open here) (here.opened n)) d) number

  module _ (n : ℕ) (number : descriptor_number fd ≡ Some n) where
    pub not-open : model.opened pid n s ≡ None → inode_under here fd ≡ None
    not-open there =
        ap (λ d. option_and_then (λ n. option_and_then (inode_open here) (here.opened n)) d) number
        ∙ ap (λ o. option_and_then (inode_open here) (option_map without_mount o)) there

    pub is-open : (o : Opened T) → model.opened pid n s ≡ Some o → inode_under here fd ≡ option_and_then (λ p. inode_at here p.host) o.place
    is-open o there =
        ap (λ d. option_and_then (λ n. option_and_then (inode_open here) (here.opened n)) d) number
        ∙ ap (λ o. option_and_then (inode_open here) (option_map without_mount o)) there
        ∙ open-inode here o

pub known-caller : {T : Type 0} {M : ℕ} (s : State T M) (pid k : ℕ) (p : Process T M) → IsSound s → HasPid pid k s.living.items → p ≡ get_or s.living.items k p
    → (known model.image_layout pid (meaning s)).caller ≡ caller_of model.image_layout (process_meaning p)
known-caller s pid k p sound at e = ap (λ o. option_map_or (caller_of model.image_layout) o no_caller) (found s pid k p sound at e)

-- ---- by what a call is told

module _ (table : List Row) (pid : ℕ) (r : Request) (s : model.State ℕ model.Image) where
  abbrev k : Known
  k = known model.image_layout pid s

  -- a path that is looked up
  looks : (targets : walks.Targets) → option_map_or (inode_found k) targets.first (inode_instead k (instead_of r)) ≡ target_by (instead_of r) (looks_up table pid s targets) k
  looks targets = by targets.first
    where
      found_by : (x : PlaceTarget) (o : Option (Place ℕ)) → option_and_then (λ (p : Place ℕ). inode_at k p.host) o ≡ target_by (instead_of r) (option_map_or (λ p. LooksUp (looked_at table pid s x p)) o (WalkFails ENOENT)) k
      found_by x None = refl
      found_by x (Some p) = refl

      by : (o : Option PlaceTarget) → option_map_or (inode_found k) o (inode_instead k (instead_of r)) ≡ target_by (instead_of r) (option_map_or (λ x. walks.if_found table pid s x LooksUp) o NoPath) k
      by None = refl
      by (Some x) = found_by x x.found

  looked : (t : Told) → (line r).told ≡ t → (targets : walks.Targets) → option_map_or (inode_found k) targets.first (inode_instead k (instead_of r)) ≡ target_by (instead_of r) (told_by table pid s t targets) k
      → option_map_or (inode_found k) targets.first (inode_instead k (instead_of r)) ≡ target_by (instead_of r) (seen_of table pid s r (Ok targets)) k
  looked t is targets e = e ∙ ap (λ t. target_by (instead_of r) (told_by table pid s t targets) k) (sym is)

  by-walks : (t : Told) → (line r).told ≡ t → ((targets : walks.Targets) → option_map_or (inode_found k) targets.first (inode_instead k (instead_of r)) ≡ target_by (instead_of r) (told_by table pid s t targets) k)
      → (o : Result walks.Targets Errno) → target_of r k o ≡ target_by (instead_of r) (seen_of table pid s r o) k
  by-walks t is tells (Ok targets) = looked t is targets (tells targets)
  by-walks t is tells (Err e) = refl

  -- no path
  no-targets : (line r).told ≡ ToldNothing → targets_of table pid s r ≡ Ok (record { first = None; second = None })
  no-targets is = ap (λ t. and_then (target_at table pid s (path_from 0 (paths_of t) 0)) (λ first. and_then (target_at table pid s (path_from 0 (paths_of t) 1)) (λ second. Ok (record { first = first; second = second })))) is

  by-told : (t : Told) → (line r).told ≡ t → IsLookedAt t → target_of r k (targets_of table pid s r) ≡ target_by (instead_of r) (seen table pid s r) k
  by-told ToldNothing is looks-at =
      ap (target_of r k) (no-targets is)
      ∙ sym (ap (λ o. target_by (instead_of r) (seen_of table pid s r o) k) (no-targets is) ∙ ap (λ t. target_by (instead_of r) (told_by table pid s t (record { first = None; second = None })) k) is)
  by-told (LooksAt how u) is looks-at = by-walks (LooksAt how u) is looks (targets_of table pid s r)
  by-told (ReadsLinkAt u) is looks-at = absurd looks-at
  by-told (OpensAt flags u) is looks-at = absurd looks-at
  by-told (TakesAt u) is looks-at = absurd looks-at
  by-told (MakesAt u) is looks-at = absurd looks-at
  by-told (LinksTwo how old new) is looks-at = absurd looks-at
  by-told (MovesTwo old new) is looks-at = absurd looks-at
  by-told NamesHere is looks-at = absurd looks-at

pub targets-are-told : TargetsAreTold
targets-are-told table pid r s looks-at = by-told table pid r s (line r).told refl looks-at
