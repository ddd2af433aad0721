-- The first stop of a call that could be read.
use Rattle.std.specs.FinMap as map
use Rattle.std.proofs.Common.{◌≡◌, ◌∙◌, ℕ, ℤ, Option, Some, None, refl, sym, ap, subst}
use Rattle.std.specs.Ordering.{nat_cmp}
use Rattle.pt_results.specs.rv_mem.Actions.{carried_out}
use Rattle.pt_results.specs.kr_calls.declared.request.Request.{Request}
use Rattle.pt_faker.specs.Stopping.{memory_at, Stopped, with_memory}
use Rattle.pt_faker.specs.pt_ident.Identity.{Answered, Effect, Identity, effect, on_memory}
use Rattle.pt_faker.specs.pt_ident.IdentityTable.{IdentityTable, identity_at, with_identity}
use Rattle.pt_faker.specs.Carrying.{AnswersAny}
use Rattle.pt_faker.specs.Faking.{no_longer_called}
use Rattle.pt_tracer.specs.Answering.{AnswersFaked}
use Rattle.pt_tracer.specs.Planning.{nowhere, planned}
use Rattle.pt_tracer.specs.Registers.{arguments_at}
use Rattle.pt_tracer.specs.Watched.{Applied, Tracing, after_effect, after_plan, applied, awaiting, by_identities, keeping, with_identities}
use Rattle.pt_tracer.specs.declared.pending.Pending.{Pending}
use Rattle.pt_tracer.specs.declared.plan.Led.{Led}
use Rattle.pt_tracer.specs.declared.plan.Plan.{Plan}
use Rattle.pt_tracer.specs.declared.registers.Arguments.{Arguments}

abbrev tracing : Tracing → Option IdentityTable → map.FinMap nat_cmp Pending → Tracing
tracing x identities pending = record { bindings = x.bindings; tags = x.tags; user = x.user; identities = identities; pending = pending }

module _ (x : Tracing) (r : Request) (t u : Stopped) (pid : ℕ) (same : pid ≡ t.pid) (passed : Arguments) (passes : passed ≡ arguments_at t) (calls : map.FinMap nat_cmp Pending) where
  -- what is kept of it
  kept-as : (led : Led) (answer known : Option ℤ) → answer ≡ known → calls ≡ map.insert x.pending pid (awaiting passed r led answer) → calls ≡ map.insert x.pending t.pid (awaiting (arguments_at t) r led known)
  kept-as led answer known is keeps = keeps ∙ (λ k. map.insert x.pending (same k) (awaiting (passes k) r led (is k)))

  -- ---- a call on users and groups

  module _ (v : Stopped) (answer meant : ℤ) (means : meant ≡ answer) (away : v ≡ no_longer_called u) (keeps : calls ≡ map.insert x.pending pid (awaiting passed r nowhere (Some meant))) where
    by-effect : (table after : IdentityTable) (j : Identity) → after ≡ with_identity t.pid j table → (e : Option Effect) → AnswersAny (identity_at table t.pid) e (Some answer) j t u
        → (tracing x (Some after) calls, v) ≡ after_effect x table r t e
    by-effect table after j is None answers = absurd answers
    by-effect table after j is (Some e) answers =
        let done = carried_out (on_memory (identity_at table t.pid) e) (memory_at t) in
        let kept = kept-as nowhere (Some meant) (Some answer) (ap Some means) keeps in
        (λ k. (tracing x (Some (is k)) (kept k), (away ∙ ap no_longer_called answers.leaves) k))
        ∙ ap (λ (a : Answered). keeping (with_identities (Some (with_identity t.pid a.identity table)) x) t r nowhere (record { answer = Some a.answer; stopped = no_longer_called (with_memory done.memory t) })) (sym answers.tells)

    by-table : (o after : Option IdentityTable) → AnswersFaked o r (Some answer) after t u → (tracing x after calls, v) ≡ by_identities x r t o
    by-table None after answers = absurd (let no = answers.0 in cc)
    by-table (Some table) None answers = absurd answers
    by-table (Some table) (Some after) answers = by-effect table after answers.identity answers.keeps (effect (identity_at table t.pid) r) answers.answers

    pub answered-entry : (told : Option ℤ) (after : Option IdentityTable) → told ≡ Some answer → AnswersFaked x.identities r told after t u → (tracing x after calls, v) ≡ by_identities x r t x.identities
    answered-entry told after is answers = by-table x.identities after (subst (λ o. AnswersFaked x.identities r o after t u) is answers)

  -- ---- any other

  module _ (v w : Stopped) (plan : Plan) (answer : Option ℤ) (plans : (plan, v) ≡ planned x.bindings x.tags u r) (done : ◌≡◌ {A = Applied} (record { answer = answer; stopped = w }) (applied plan.edit v)) (keeps : calls ≡ map.insert x.pending pid (awaiting passed r plan.led answer)) where
    planned-as : (after : Option IdentityTable) → u ≡ t → (tracing x after calls, w) ≡ after_plan (with_identities after x) t r (planned x.bindings x.tags t r)
    planned-as after was =
        (λ k. (tracing x after (kept-as plan.led answer answer refl keeps k), w))
        ∙ ap (λ (a : Applied). keeping (with_identities after x) t r plan.led a) done
        ∙ ap (λ (p : Plan × Stopped). after_plan (with_identities after x) t r p) (plans ∙ ap (λ s. planned x.bindings x.tags s r) was)

    none-effect : (table after : IdentityTable) (j : Identity) → after ≡ with_identity t.pid j table → (e : Option Effect) → AnswersAny (identity_at table t.pid) e None j t u → (tracing x (Some after) calls, w) ≡ after_effect x table r t e
    none-effect table after j is (Some e) answers = absurd answers
    none-effect table after j is None answers =
        ap (λ i. (tracing x (Some i) calls, w)) (is ∙ ap (λ i. with_identity t.pid i table) answers.0)
        ∙ planned-as (Some (with_identity t.pid (identity_at table t.pid) table)) answers.1

    none-table : (o after : Option IdentityTable) → AnswersFaked o r None after t u → o ≡ x.identities → (tracing x after calls, w) ≡ by_identities x r t o
    none-table None after answers is =
        ap (λ i. (tracing x i calls, w)) answers.1
        ∙ planned-as None answers.2
        ∙ ap (λ i. after_plan (with_identities i x) t r (planned x.bindings x.tags t r)) is
    none-table (Some table) None answers is = absurd answers
    none-table (Some table) (Some after) answers is = none-effect table after answers.identity answers.keeps (effect (identity_at table t.pid) r) answers.answers

    pub planned-entry : (told : Option ℤ) (after : Option IdentityTable) → told ≡ None → AnswersFaked x.identities r told after t u → (tracing x after calls, w) ≡ by_identities x r t x.identities
    planned-entry told after is answers = none-table x.identities after (subst (λ o. AnswersFaked x.identities r o after t u) is answers) refl
