-- Identities that were taken out and kept again, and what else the code does beside the definition.
use Rattle.std.proofs.Common.{◌≡◌, ◌∙◌, ℕ, ℤ, Option, ap, subst}
use Rattle.pt_results.specs.kr_calls.declared.request.Request.{Request}
use Rattle.pt_faker.specs.Stopping.{register_at, Stopped}
use Rattle.pt_faker.specs.pt_ident.Identity.{Identity, after_exec, effect}
use Rattle.pt_faker.specs.pt_ident.IdentityTable.{IdentityTable, after_end, identity_at, with_identity}
use Rattle.pt_faker.specs.Carrying.{AnswersAny, on_its_memory}
use Rattle.pt_faker.specs.Faking.{show_identity, stack_register}
use Rattle.pt_faker.proofs.FakerLemmas.{kept-again}
use Rattle.pt_tracer.specs.Answering.{AnswersBy, BeginsBy}

module _ (table taken after : IdentityTable) (pid : ℕ) (t u : Stopped) (same : pid ≡ t.pid) (takes : taken ≡ after_end pid table) (i : Identity) (own : i ≡ identity_at table pid) where
  pub keeps-it : (j : Identity) → after ≡ with_identity pid j taken → after ≡ with_identity t.pid j table
  keeps-it j keeps = keeps ∙ ap (with_identity pid j) takes ∙ kept-again table pid j ∙ ap (λ p. with_identity p j table) same

  is-its : i ≡ identity_at table t.pid
  is-its = own ∙ ap (identity_at table) same

  pub answers-by : (j : Identity) (r : Request) (told : Option ℤ) → after ≡ with_identity pid j taken → AnswersAny i (effect i r) told j t u → AnswersBy table r told after t u
  answers-by j r told keeps answers = record {
    identity = j;
    keeps = keeps-it j keeps;
    answers = subst (λ k. AnswersAny k (effect k r) told j t u) is-its answers;
  }

  pub begins-by : (j : Identity) (stack : ℕ) → j ≡ after_exec i → stack ≡ register_at t stack_register → u ≡ on_its_memory (show_identity j stack) t → after ≡ with_identity pid j taken → BeginsBy table t after u
  begins-by j stack saves stands shows keeps =
      let next : j ≡ after_exec (identity_at table t.pid) = saves ∙ ap after_exec is-its in
      record {
        keeps = keeps-it j keeps ∙ ap (λ k. with_identity t.pid k table) next;
        shows = shows ∙ ap (λ s. on_its_memory (show_identity j s) t) stands ∙ ap (λ k. on_its_memory (show_identity k (register_at t stack_register)) t) next;
      }
