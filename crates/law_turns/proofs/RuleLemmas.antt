-- The rules that a calm call with a path keeps.
use Rattle.std.proofs.Common.{◌≡◌, ℕ, Bool, true, false, cond, List, Option, Some, None, Ok, refl, sym, ap, ◌∙◌}
use Rattle.std.specs.Prelude.{◌||◌}
use Rattle.std.specs.Option.{option_map_or}
use Rattle.law_places.specs.kr_view.View.{Row}
use Rattle.pt_results.specs.kr_calls.declared.request.Request.{Request}
use Rattle.pt_results.specs.kr_calls.declared.request.Request.TheVariants as call
use Rattle.law_places.specs.kr_calm.Laws.{BreakNone}
use Rattle.law_places.specs.kr_calm.Rules.{breaks_2}
use Rattle.law_places.specs.kr_model.Applied.{images}
use Rattle.law_places.specs.kr_model.State.{Image, Process, State, process}
use Rattle.law_places.specs.kr_model.Walks.{targets_of}
use Rattle.kr_core.specs.kr_steps.Calls.{IsNoExec}
use Rattle.kr_core.specs.kr_turns.Breaking.{decoded_rule, operated_rule, plain_rule, plain_rule_of}
use Rattle.kr_core.proofs.kr_turns.PlainLemmas.{no-exec-rule}
use Rattle.law_turns.specs.Calls.{decoded_by, decoded_in}
use Rattle.law_turns.specs.Operating.{done_in}
use Rattle.law_turns.specs.PathCalls.{HasPath, changes_at, mounts_at, told_at, written_at}
use Rattle.law_places.specs.kr_calm.declared.rule.Rule.{Rule}
use Rattle.law_places.specs.kr_calm.declared.rule.Rule.TheVariants.{SearchStays, ShortNames, SourcesStay, Unread, UsedStay, WithinMounts}

pub no_exec : (r : Request) → HasPath r → IsNoExec r
no_exec (call.Execve path args env) kind = absurd kind
no_exec _ kind = tt

-- none of the six tests passes
record NonePasses (first second third fourth fifth : Bool) : Type 0 where
  pub first_fails : first ≡ false
  pub second_fails : second ≡ false
  pub third_fails : third ≡ false
  pub fourth_fails : fourth ≡ false
  pub fifth_fails : fifth ≡ false

none_of_all : (first second third fourth fifth sixth : Bool)
    → cond {A = Option Rule} first (Some Unread) (cond second (Some WithinMounts) (cond third (Some SourcesStay) (cond fourth (Some UsedStay) (cond fifth (Some SearchStays) (cond sixth (Some ShortNames) None))))) ≡ None → NonePasses first second third fourth fifth
none_of_all false false false false false false e = record { first_fails = refl; second_fails = refl; third_fails = refl; fourth_fails = refl; fifth_fails = refl }
none_of_all false false false false false true e = absurd cc
none_of_all true second third fourth fifth sixth e = absurd cc
none_of_all false true third fourth fifth sixth e = absurd cc
none_of_all false false true fourth fifth sixth e = absurd cc
none_of_all false false false true fifth sixth e = absurd cc
none_of_all false false false false true sixth e = absurd cc

module _ (table : List Row) (pid : ℕ) (no_shelf : Bool) (s : State ℕ Image) (p : Process ℕ Image) (r : Request) where
  pub record KeepsRules : Type 0 where
    pub first : (done_in pid r (told_at table pid s p r) (decoded_in pid p s)).memory.read_marked || no_shelf ≡ false
    pub second : breaks_2 table (decoded_in pid p s).tree r (targets_of table pid (decoded_in pid p s) r) ≡ false
    pub none : BreakNone images (mounts_at table pid s p r) pid table (changes_at table pid s p r) (written_at table pid s p r)

  pub rules_kept : process pid s ≡ Some p → (decoded_by p).reply ≡ Ok r → IsNoExec r → plain_rule 1 table pid no_shelf s ≡ None → KeepsRules
  rules_kept lives is kind calm = let n = none_of_all _ _ _ _ _ _ row in record { first = n.first_fails; second = n.second_fails; none = record { third = n.third_fails; fourth = n.fourth_fails; fifth = n.fifth_fails } }
    where
      row : operated_rule 1 table pid no_shelf r (decoded_in pid p s) ≡ None
      row =
          no-exec-rule 1 table pid no_shelf (decoded_in pid p s) r kind
          ∙ sym (ap (λ o. option_map_or (plain_rule_of 1 table pid no_shelf s) o None) lives ∙ ap (λ reply. decoded_rule 1 table pid no_shelf reply (decoded_in pid p s)) is)
          ∙ calm
