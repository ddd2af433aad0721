-- What a call is told of the targets to which its walks lead over a lawful state is so.
pub use Rattle.kr_perform.proofs.LawfulLemmas.{performed-last, walks_resolve}
use Rattle.std.proofs.Common.{◌≡◌, ℕ, List, Option, Some, ap, subst, ◌∙◌}
use Rattle.std.specs.Option.{option_map}
use Rattle.law_allowed.specs.kr_calls.declared.request.Request.{Request}
use Rattle.law_allowed.specs.kr_tree.Tree.{Tree}
use Rattle.law_allowed.proofs.kr_tree.NameLemmas.{map_some}
use Rattle.law_allowed.specs.kr_view.Answers.{target_numbered, told as told_target}
use Rattle.law_allowed.specs.kr_view.View.{Row}
use Rattle.law_allowed.specs.kr_view.Walk.{PlaceTarget}
use Rattle.law_allowed.specs.kr_view.declared.target.Target.{Target}
use Rattle.law_allowed.specs.kr_model.State.{Image, State}
use Rattle.law_allowed.specs.kr_model.Walks as walks
use Rattle.law_allowed.specs.kr_model.Walks.{mounts_of, told}
use Rattle.law_allowed.specs.Told.{AreTargetsIn, IsEntryOf, IsTargetIn}
use Rattle.law_allowed.proofs.TargetLemmas.{calls-walk-to-targets}
use Rattle.law_allowed.proofs.ToldLemmas.{targets-are-told}
use Rattle.kr_rows.specs.kr_ops.Meaning.{meaning}
use Rattle.kr_transfer.specs.kr_seen.Numbered.{state_numbered}
use Rattle.kr_transfer.specs.kr_seen.CallWalks.{IsTold}
use Rattle.kr_transfer.specs.kr_seen.Placed.{placed, placed_in}
use Rattle.kr_perform.proofs.LawfulLemmas.{lawful_numbered, lead_to_places, walks_name}
use Rattle.kr_perform.specs.Operating.{mounts_at, placed_targets}
use Rattle.kr_perform.specs.Walked.{ResolvedAreTold}
use Rattle.kr_perform.proofs.MountLemmas.{directory_mount, found_mount, told_in}

-- whether a link of the process directory led to it is nothing that is known of a target
is_placed : (t : Tree) (table : List Row) (w : PlaceTarget) → IsTargetIn t table w → IsTargetIn t table (placed (told_target w))
is_placed t table w own = record { found = own.found; directory = own.directory; free = own.free; remembered = own.remembered }

-- what is known of the target of a walk is known of it as the code has it
placed_is : {T : Type 0} (number : T → ℕ) (P : PlaceTarget → Type 0) → ((w : PlaceTarget) → P w → P (placed (told_target w))) → (o : Option PlaceTarget) (target : Option (Target T)) → IsTold number o target
    → ((w : PlaceTarget) → o ≡ Some w → P w) → (x : PlaceTarget) → option_map (placed_in number) target ≡ Some x → P x
placed_is {T} number P same o target is each x at =
    let own = map_some (placed_in number) target x at in
    let w = map_some told_target o (target_numbered number own.0) (is ∙ ap (option_map (target_numbered number)) own.1) in
    subst P (ap placed w.2 ∙ own.2) (same w.0 (each w.0 w.1))

module _ {T : Type 0} (number : T → ℕ) (t : Tree) (table : List Row) (request : Request) where
  are_placed : (w : walks.Targets) (first second : Option (Target T)) → IsTold number w.first first → IsTold number w.second second → AreTargetsIn t table request w → AreTargetsIn t table request (placed_targets number first second)
  are_placed w first second is also are = record {
    first = placed_is number (IsTargetIn t table) (is_placed t table) w.first first is are.first;
    second = placed_is number (IsTargetIn t table) (is_placed t table) w.second second also are.second;
    first_entry = λ takes. placed_is number (IsEntryOf t table) (λ w own. own) w.first first is (are.first_entry takes);
    second_entry = λ takes. placed_is number (IsEntryOf t table) (λ w own. own) w.second second also (are.second_entry takes);
  }

pub resolved_are_told : {T : Type 0} {M : ℕ} → ResolvedAreTold T M
resolved_are_told {T} {M} number table pid s request targets lawful links texts sources walked =
    let shown : State ℕ Image = state_numbered number (meaning s) in
    let by_numbers = lawful_numbered number table (meaning s) lawful in
    let w : walks.Targets = walked.0 in
    let good = walks_name table pid shown request w by_numbers links texts walked.1 in
    let are = calls-walk-to-targets table pid shown request w by_numbers (lead_to_places table shown by_numbers pid) walked.1 good in
    let at = placed_targets number targets.first targets.second in
    told_in number table s.tree (mounts_at targets.first) (mounts_of at) (found_mount number targets.first targets.second) (directory_mount number targets.first targets.second)
    (told table pid shown request at)
    (targets-are-told table pid shown request at sources (are_placed number s.tree table request w targets.first targets.second walked.2 walked.3 are))
