-- Calm calls read no marked byte, in decoding either.
use Rattle.std.proofs.Common.{◌≡◌, ℕ, Bool, true, false, cond, List, Option, Some, None, Ok, Err, refl, sym, ap, ◌∙◌}
use Rattle.std.specs.Prelude.{◌||◌}
use Rattle.std.specs.Option.{option_map_or}
use Rattle.std.proofs.lemmas.Bool.{or_parts}
use Rattle.pt_results.specs.rv_mem.Actions.{Action, carried_out}
use Rattle.pt_results.specs.rv_mem.Memory.{Memory}
use Rattle.law_places.specs.kr_view.View.{Row}
use Rattle.pt_results.specs.kr_calls.Decoding.{Decoded}
use Rattle.pt_results.specs.kr_calls.declared.request.Request.{Request}
use Rattle.pt_results.specs.kr_calls.declared.request.Request.TheVariants as call
use Rattle.law_places.specs.kr_model.Known.{known}
use Rattle.law_places.specs.kr_model.Operation.{operation}
use Rattle.law_places.specs.kr_model.State.{Image, Process, State, image_layout, process}
use Rattle.law_places.specs.kr_model.Walks.{seen}
use Rattle.kr_core.specs.kr_seen.Carrying.{memory_of}
use Rattle.law_places.proofs.kr_calm.ChangeLemmas.{marks_stay_read}
use Rattle.kr_core.specs.kr_execve.Execution.{execution}
use Rattle.kr_core.specs.kr_turns.Breaking.{decoded_rule, plain_rule, plain_rule_of, requested_rule}
use Rattle.law_turns.specs.Calls.{decoded_by, decoded_in}
use Rattle.law_turns.proofs.QuietLemmas.{first_unbroken, memory_computed}
use Rattle.law_places.specs.kr_calm.declared.rule.Rule.{Rule}
use Rattle.law_places.specs.kr_calm.declared.rule.Rule.TheVariants.{Unread}

-- what is unread at the end was unread before
pub unread_before : {A : Type 0} (action : Action A) (m : Memory) → (carried_out action m).memory.read_marked ≡ false → m.read_marked ≡ false
unread_before action m unread = by m.read_marked refl
  where
    by : (b : Bool) → m.read_marked ≡ b → b ≡ false
    by false is = refl
    by true is = absurd (differ (sym (marks_stay_read action m is) ∙ unread))
      where
        differ : true ≡ false → ⊥
        differ e = cc

module _ (table : List Row) (pid : ℕ) (no_shelf : Bool) (at : State ℕ Image) where
  -- the first rule, of all that is read in the call
  first : (memory : Memory) (other : Option Rule) → cond (memory.read_marked || no_shelf) (Some Unread) other ≡ None → memory.read_marked ≡ false
  first memory other calm = (or_parts memory.read_marked no_shelf (first_unbroken (memory.read_marked || no_shelf) other calm)).0

  request_unread : (r : Request) → requested_rule 1 table pid no_shelf r at ≡ None → (memory_of pid at).read_marked ≡ false
  request_unread (call.Execve path args env) calm =
      let action = execution table pid at path args env in
      unread_before action (memory_of pid at) (first (carried_out action (memory_of pid at)).memory _ calm)
  request_unread r calm =
      let action = operation pid r (seen table pid at r) (known image_layout pid at) in
      unread_before action (memory_of pid at) (first (carried_out action (memory_of pid at)).memory _ calm)

  reply_unread : (reply : Decoded) → decoded_rule 1 table pid no_shelf reply at ≡ None → (memory_of pid at).read_marked ≡ false
  reply_unread (Ok r) calm = request_unread r calm
  reply_unread (Err e) calm = first (memory_of pid at) _ calm

pub calm_unread : (table : List Row) (pid : ℕ) (no_shelf : Bool) (s : State ℕ Image) (p : Process ℕ Image) → process pid s ≡ Some p → plain_rule 1 table pid no_shelf s ≡ None → (decoded_by p).memory.read_marked ≡ false
calm_unread table pid no_shelf s p lives calm =
    ap (λ (m : Memory). m.read_marked) (sym (memory_computed pid p.image.regs (decoded_by p).memory s p lives))
    ∙ reply_unread table pid no_shelf (decoded_in pid p s) (decoded_by p).reply (sym (ap (λ o. option_map_or (plain_rule_of 1 table pid no_shelf s) o None) lives) ∙ calm)
