-- What is foreseen of a call by the targets of its paths.
use Rattle.std.proofs.Common.{◌≡◌, ℕ, List, [], Option, Some, None, Ok, refl, sym, ap, ◌∙◌, ℤ}
use Rattle.std.specs.Prelude.{◌==◌}
use Rattle.std.specs.Option.{option_and_then, option_map, option_map_or}
use Rattle.std.proofs.lemmas.Option.{none-some, same_Some}
use Rattle.kr_seen.specs.pr_base.declared.errno.Errno.TheVariants.{ENOENT}
use Rattle.kr_seen.specs.kr_calls.declared.request.Request.{Request}
use Rattle.kr_seen.specs.kr_calls.declared.request.Request.TheVariants as call
use Rattle.kr_seen.specs.kr_tree.declared.place.Place.{Place}
use Rattle.kr_seen.specs.kr_view.Answers.{target_numbered, told as target_told}
use Rattle.kr_seen.specs.kr_view.Leads.{numbered}
use Rattle.kr_seen.specs.kr_view.View.{Row}
use Rattle.kr_seen.specs.kr_view.Walk.{PlaceTarget}
use Rattle.kr_seen.specs.kr_view.declared.target.Target.{Target}
use Rattle.kr_seen.specs.kr_files.declared.opened.Opened.{Opened}
use Rattle.kr_seen.specs.kr_files.WithoutMounts.{without_mount}
use Rattle.kr_seen.specs.kr_model.Asking.{descriptor_number}
use Rattle.kr_seen.specs.kr_model.Change.{Change}
use Rattle.kr_seen.specs.kr_model.Known.{Known, known}
use Rattle.kr_seen.specs.kr_model.Seen.{LooksUp, Moves, NoPath, Taken, TakesEntry, WalkFails}
use Rattle.kr_seen.specs.kr_model.State.{Image, State, image_layout, opened}
use Rattle.kr_seen.specs.kr_model.Walks.{Targets, if_found, looked_at, seen_of, taken_at, targets_of, told}
use Rattle.kr_seen.specs.Numbered.{state_numbered}
use Rattle.kr_seen.proofs.LookLemmas.{known-numbered}
use Rattle.kr_seen.specs.CallWalks.{IsTold}
use Rattle.kr_seen.specs.Placed.{placed, placed_in}
use Rattle.kr_calm.specs.Foreseen.{call_foreseen, foreseen_of, mode_found, mode_opened, moved_away, prospect, taken_away}
use Rattle.kr_calm.specs.Prospects.{mode_set, renameat2_made, unlinkat_made}
use Rattle.kr_calm.proofs.AlikeLemmas.{foreseen-alike, numbered-alike}

module _ {T : Type 0} (number : T → ℕ) where
  -- a target that is told as one of the code
  record IsAs (o : Option PlaceTarget) (target : Target T) : Type 0 where
    pub place : PlaceTarget
    pub there : o ≡ Some place
    pub same : target_told place ≡ target_numbered number target

  is-as : (o : Option PlaceTarget) (x : Option (Target T)) (target : Target T) → IsTold number o x → x ≡ Some target → IsAs o target
  is-as o x target tells there = by o (tells ∙ ap (option_map (target_numbered number)) there)
    where
      by : (o : Option PlaceTarget) → option_map target_told o ≡ Some (target_numbered number target) → IsAs o target
      by None e = absurd (none-some (target_numbered number target) e)
      by (Some place) e = record { place = place; there = refl; same = same_Some (target_told place) (target_numbered number target) e }

  module _ (table : List Row) (pid : ℕ) (s : State T Image) where
    abbrev n : State ℕ Image
    n = state_numbered number s

    abbrev k : Known
    k = known image_layout pid (state_numbered number s)

    -- what would be changed, of the targets
    along : (request : Request) (t : Targets) → targets_of table pid n request ≡ Ok t → (cs : List Change) → prospect request (told table pid n request t) k ≡ cs → foreseen_of table s cs ≡ call_foreseen table pid request n
    along request t walked cs same =
        sym (foreseen-alike s n (numbered-alike number s) table cs) ∙ sym (ap (foreseen_of table n) same) ∙ sym (ap (λ answer. foreseen_of table n (prospect request (seen_of table pid n request answer) k)) walked)

    taken-same : (place : PlaceTarget) (target : Target T) → target_told place ≡ target_numbered number target → taken_at table pid n place ≡ taken_at table pid n (placed_in number target)
    taken-same place target same = ap (λ t. taken_at table pid n (placed t)) same

    pub removal-along : (request : Request) (dirfd : ℤ) (path : List ℕ) (flags : ℕ) → request ≡ call.Unlinkat dirfd path flags → (t : Targets) → targets_of table pid n request ≡ Ok t
        → (x : Option (Target T)) → IsTold number t.first x → (target : Target T) → x ≡ Some target → (taken : Taken) → taken ≡ taken_at table pid n (placed_in number target)
        → foreseen_of table s (unlinkat_made taken) ≡ call_foreseen table pid request n
    removal-along request dirfd path flags is t walked x tells target there taken takes =
        let at = is-as t.first x target tells there in
        along request t walked (unlinkat_made taken)
        (ap (λ r. prospect r (told table pid n r t) k) is
        ∙ ap (λ (o : Option PlaceTarget). taken_away (option_map_or (λ target. TakesEntry (taken_at table pid n target)) o NoPath)) at.there
        ∙ ap unlinkat_made (taken-same at.place target at.same ∙ sym takes))

    pub rename-along : (request : Request) (olddir : ℤ) (old : List ℕ) (newdir : ℤ) (new : List ℕ) → request ≡ call.Renameat2 olddir old newdir new → (t : Targets) → targets_of table pid n request ≡ Ok t
        → (x y : Option (Target T)) → IsTold number t.first x → IsTold number t.second y → (one two : Target T) → x ≡ Some one → y ≡ Some two
        → (first second : Taken) → first ≡ taken_at table pid n (placed_in number one) → second ≡ taken_at table pid n (placed_in number two)
        → foreseen_of table s (renameat2_made first second) ≡ call_foreseen table pid request n
    rename-along request olddir old newdir new is t walked x y tells-x tells-y one two there-x there-y first second takes-first takes-second =
        let at-x = is-as t.first x one tells-x there-x in
        let at-y = is-as t.second y two tells-y there-y in
        along request t walked (renameat2_made first second)
        (ap (λ r. prospect r (told table pid n r t) k) is
        ∙ ap (λ (o : Option PlaceTarget). moved_away (option_map_or (λ (old : PlaceTarget). option_map_or (λ (new : PlaceTarget). Moves (taken_at table pid n old) (taken_at table pid n new) (old.dir.mount == new.dir.mount)) t.second NoPath) o NoPath)) at-x.there
        ∙ ap (λ (o : Option PlaceTarget). moved_away (option_map_or (λ (new : PlaceTarget). Moves (taken_at table pid n at-x.place) (taken_at table pid n new) (at-x.place.dir.mount == new.dir.mount)) o NoPath)) at-y.there
        ∙ ap (λ taken. renameat2_made taken (taken_at table pid n at-y.place)) (taken-same at-x.place one at-x.same ∙ sym takes-first)
        ∙ ap (renameat2_made first) (taken-same at-y.place two at-y.same ∙ sym takes-second))

    mode-of-found : (mode : ℕ) (place : PlaceTarget) → mode_found mode (if_found table pid n place LooksUp) ≡ option_map_or (λ (p : Place ℕ). mode_set p.host mode) place.found []
    mode-of-found mode place = by place.found
      where
        by : (o : Option (Place ℕ)) → mode_found mode (option_map_or (λ p. LooksUp (looked_at table pid n place p)) o (WalkFails ENOENT)) ≡ option_map_or (λ (p : Place ℕ). mode_set p.host mode) o []
        by None = refl
        by (Some p) = refl

    mode-unnumbered : (mode : ℕ) (o : Option (Place T)) → option_map_or (λ (p : Place ℕ). mode_set p.host mode) (option_map (numbered number) o) [] ≡ option_map_or (λ (p : Place T). mode_set p.host mode) o []
    mode-unnumbered mode None = refl
    mode-unnumbered mode (Some p) = refl

    pub mode-along : (request : Request) (dirfd : ℤ) (path : List ℕ) (mode : ℕ) → request ≡ call.Fchmodat dirfd path mode → (t : Targets) → targets_of table pid n request ≡ Ok t
        → (x : Option (Target T)) → IsTold number t.first x → (target : Target T) → x ≡ Some target
        → foreseen_of table s (option_map_or (λ (p : Place T). mode_set p.host mode) target.found []) ≡ call_foreseen table pid request n
    mode-along request dirfd path mode is t walked x tells target there =
        let at = is-as t.first x target tells there in
        along request t walked (option_map_or (λ (p : Place T). mode_set p.host mode) target.found [])
        (ap (λ r. prospect r (told table pid n r t) k) is
        ∙ ap (λ (o : Option PlaceTarget). mode_found mode (option_map_or (λ target. if_found table pid n target LooksUp) o NoPath)) at.there
        ∙ mode-of-found mode at.place
        ∙ ap (λ (t : Target ℕ). option_map_or (λ (p : Place ℕ). mode_set p.host mode) t.found []) at.same
        ∙ mode-unnumbered mode target.found)

    mode-opened : (mode : ℕ) (o : Option (Opened T)) → mode_opened mode (option_map without_mount o) ≡ mode_opened mode o
    mode-opened mode None = refl
    mode-opened mode (Some o) = by o.place
      where
        by : (p : Option (Place T)) → option_map_or (λ (p : Place (Unit {0})). mode_set p.host mode) (option_map (λ (p : Place T). record { mount = tt; host = p.host }) p) [] ≡ option_map_or (λ (p : Place T). mode_set p.host mode) p []
        by None = refl
        by (Some p) = refl

    pub open-mode-along : (request : Request) (fd : ℤ) (mode : ℕ) → request ≡ call.Fchmod fd mode → (t : Targets) → targets_of table pid n request ≡ Ok t
        → foreseen_of table s (mode_opened mode (option_and_then (λ fd. opened pid fd s) (descriptor_number fd))) ≡ call_foreseen table pid request n
    open-mode-along request fd mode is t walked =
        along request t walked (mode_opened mode (option_and_then (λ fd. opened pid fd s) (descriptor_number fd)))
        (ap (λ r. prospect r (told table pid n r t) k) is
        ∙ ap (λ (k : Known). mode_opened mode (option_and_then k.opened (descriptor_number fd))) (known-numbered number image_layout pid s)
        ∙ by (descriptor_number fd))
      where
        by : (d : Option ℕ) → mode_opened mode (option_and_then (λ fd. option_map without_mount (opened pid fd s)) d) ≡ mode_opened mode (option_and_then (λ fd. opened pid fd s) d)
        by None = refl
        by (Some fd) = mode-opened mode (opened pid fd s)
