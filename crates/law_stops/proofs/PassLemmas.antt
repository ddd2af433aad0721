-- The tracer lets calls without a path pass.
use Rattle.std.specs.FinMap as map
use Rattle.std.proofs.Common.{◌≡◌, ℕ, zero, suc, false, cond, List, [], ◌∷◌, Option, Some, None, get_or, refl, sym, ap, ◌∙◌}
use Rattle.std.specs.Prelude.{◌&&◌, is_none, slice_set}
use Rattle.law_turns.specs.pt_args.Edits.{edit_by}
use Rattle.law_turns.specs.pt_args.Plans.{first_walked}
use Rattle.law_turns.specs.kr_calls.CallTable.{line}
use Rattle.law_turns.specs.kr_calls.PathTable.{PathUse}
use Rattle.law_turns.specs.kr_calls.declared.request.Request.{Request}
use Rattle.law_turns.specs.kr_calls.declared.request.Request.TheVariants as call
use Rattle.law_turns.specs.pt_results.Notes.{noted, tags_after}
use Rattle.law_edits.specs.pt_faker.Faking.{has_answered_zero}
use Rattle.law_edits.specs.pt_ident.IdentityTable.{IdentityTable}
use Rattle.law_edits.specs.pt_faker.Stopping.{IsThere, Stopped, after_request, register_at, with_register}
use Rattle.law_turns.specs.kr_stops.Stopped.{edited, image_at}
use Rattle.law_edits.specs.pt_tracer.Planning.{has_shelf, nowhere, planned, stack_at, texts_at}
use Rattle.law_edits.specs.pt_tracer.Registers.{arguments_at, given_back}
use Rattle.law_edits.specs.pt_tracer.Watched.{Tracing, after_decoding, after_pending, after_plan, answer_at, awaiting, begin_program, by_identities, give_back, if_answered, is_execve, remembered_in, returned, shown_to, with_identities, with_pending, with_tags, without_pending}
use Rattle.law_edits.specs.pt_tracer.declared.pending.Pending.{Pending}
use Rattle.law_edits.specs.pt_tracer.declared.plan.Plan.{Plan}
use Rattle.law_edits.specs.pt_tracer.declared.registers.Arguments.{Arguments}
use Rattle.law_turns.specs.Pathless.{IsPathless}
use Rattle.law_turns.proofs.PathlessLemmas.{no_paths}
use Rattle.law_stops.specs.Passing.{EntriesPass, ExitsPass}

-- ---- the first stop

module _ (x : Tracing) (t : Stopped) where
  -- what is planned for a call that isn't answered, and of which no place is noted, by its first path
  abbrev planned_along : Request → Option PathUse → Plan × Stopped
  planned_along r u = (record { edit = edit_by (stack_at t) (has_shelf t) (first_walked (texts_at x.bindings x.tags t) t.pid r u); led = nowhere }, t)

  -- nothing is planned for it
  plan_passes : (r : Request) → IsPathless r → after_plan x t r (planned x.bindings x.tags t r) ≡ (with_pending (map.insert x.pending t.pid (awaiting (arguments_at t) r nowhere None)) x, t)
  plan_passes (call.Openat dirfd path flags mode) kind = absurd kind
  plan_passes (call.Chdir path) kind = absurd kind
  plan_passes (call.Chroot path) kind = absurd kind
  plan_passes (call.Execve path args env) kind = absurd kind
  plan_passes (call.Readlinkat dirfd path buf size) kind = absurd kind
  plan_passes (call.Getcwd buf size) kind = absurd kind
  plan_passes r kind = ap (λ (u : Option PathUse). after_plan x t r (planned_along r u)) (no_paths (line r).told kind 0)

pub entries_pass : EntriesPass
entries_pass x t r none is kind =
    ap (after_decoding x (after_request t)) is ∙ ap (by_identities x r (after_request t)) none ∙ plan_passes x (after_request t) r kind

-- ---- the second stop

set_own : (xs : List ℕ) (k : ℕ) → slice_set xs k (get_or xs k 0) ≡ xs
set_own [] k = refl
set_own (x ∷ xs) zero = refl
set_own (x ∷ xs) (suc k) = ap (λ rest. x ∷ rest) (set_own xs k)

module _ (t : Stopped) (there : IsThere t) where
  -- a register that is given what stands there
  register_back : (k v : ℕ) → v ≡ register_at t k → with_register k v t ≡ t
  register_back k v is =
      ap (λ v. with_register k v t) is
      ∙ ap (λ (xs : List ℕ). edited (record { x = xs; pc = (image_at t).regs.pc }) (image_at t).memory t) (set_own (image_at t).regs.x k)
      ∙ there.one

  pub arguments_back : (passed : Arguments) → passed ≡ arguments_at t → given_back passed t ≡ t
  arguments_back passed same =
      let a1 = register_back 11 passed.a1 (ap (λ (a : Arguments). a.a1) same) in
      let a2 = register_back 12 passed.a2 (ap (λ (a : Arguments). a.a2) same) in
      let a3 = register_back 13 passed.a3 (ap (λ (a : Arguments). a.a3) same) in
      let a4 = register_back 14 passed.a4 (ap (λ (a : Arguments). a.a4) same) in
      let a5 = register_back 15 passed.a5 (ap (λ (a : Arguments). a.a5) same) in
      let a7 = register_back 17 passed.a7 (ap (λ (a : Arguments). a.a7) same) in
      ap (λ u. with_register 17 passed.a7 (with_register 15 passed.a5 (with_register 14 passed.a4 (with_register 13 passed.a3 (with_register 12 passed.a2 u))))) a1
      ∙ ap (λ u. with_register 17 passed.a7 (with_register 15 passed.a5 (with_register 14 passed.a4 (with_register 13 passed.a3 u)))) a2
      ∙ ap (λ u. with_register 17 passed.a7 (with_register 15 passed.a5 (with_register 14 passed.a4 u))) a3
      ∙ ap (λ u. with_register 17 passed.a7 (with_register 15 passed.a5 u)) a4
      ∙ ap (λ u. with_register 17 passed.a7 u) a5
      ∙ a7

-- it begins no program
pub begins_none : (r : Request) → IsPathless r → is_execve r ≡ false
begins_none (call.Execve path args env) kind = absurd kind
begins_none _ kind = refl

module _ (x : Tracing) (t : Stopped) (p : Pending) (none : x.identities ≡ None) (kind : is_execve p.request ≡ false) (answer : p.answer ≡ None) (same : p.passed ≡ arguments_at t) (there : IsThere t) where
  abbrev y : Tracing
  y = without_pending t.pid x

  begins : after_pending y t (Some p) ≡ give_back y p t
  begins = ap (λ b. cond (b && is_none p.answer && has_answered_zero t) (begin_program y p t) (give_back y p t)) kind

  back : returned p t ≡ t
  back = ap (λ a. if_answered a (given_back p.passed t)) answer ∙ arguments_back t there p.passed same

  -- what is kept by the process as its registers are given back
  abbrev noting : Stopped → Tracing
  noting u = with_tags (tags_after x.tags t.pid (noted p.request p.led.index (answer_at u))) y

  abbrev left : Option IdentityTable → Stopped → Tracing × Stopped
  left identities u = let shown = shown_to x.user identities p u in (with_identities (remembered_in identities p t.handed.target (register_at shown 10)) (noting u), shown)

  gives : give_back y p t ≡ (with_tags (tags_after x.tags t.pid (noted p.request p.led.index (answer_at t))) y, t)
  gives =
      ap (left x.identities) back ∙ ap (λ identities. left identities t) none ∙ sym (ap (λ identities. (with_identities identities (noting t), t)) none)

pub exits_pass : ExitsPass
exits_pass x t p none at kind answer same there = ap (after_pending (without_pending t.pid x) t) at ∙ begins x t p none kind answer same there ∙ gives x t p none kind answer same there
