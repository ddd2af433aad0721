use Rattle.std.proofs.Common.{◌≡◌, ◌∙◌, ap, lit<, refl, rules, to_z, of_z, w64}
use Rattle.kr_perform.specs.kr_model.declared.outcome.Outcome.TheVariants as outcome
use Rattle.kr_perform.specs.kr_ops.Meaning.{meaning}
use Rattle.kr_perform.proofs.kr_ops.UseLemmas.{sound-of}
use Rattle.kr_steps.specs.Answering.{answered}
use Rattle.kr_steps.proofs.calling.call.Goals as goal

pub answer-requires : goal.answer-requires
answer-requires g c =
    let may = c.requires.caller.may in
    let runs = c.in-Answer.ensures.runs may.calls may.few may.runs (λ e. absurd cc) in
    (lit< tt, sound-of g.P.Places.number (g.P.Places.mounts c.args.places.now) c.carry_out.new.state runs.lasts.lawful runs.served)

pub stay-requires : goal.stay-requires
stay-requires g c =
    let may = c.requires.caller.may in
    let runs = c.in-Wait.ensures.runs may.calls may.few may.runs (λ e. absurd cc) in
    (lit< tt, sound-of g.P.Places.number (g.P.Places.mounts c.args.places.now) c.carry_out.new.state runs.lasts.lawful runs.served)

pub returns-in-Answer-clause-settled : goal.returns-in-Answer-clause-settled
returns-in-Answer-clause-settled g c =
    let same : to_z w64 (of_z w64 c.in-Answer.value) ≡ c.in-Answer.value = search rules in
    record {
      after = c.carry_out.new.state;
      outcome = outcome.Answer c.in-Answer.value;
      called = c.in-Answer.ensures.called (λ e. absurd cc);
      settles = c.answer.ensures.answers ∙ ap (λ value. answered c.args.pid value (meaning c.carry_out.new.state)) same;
      tells = refl;
    }

pub returns-in-Answer-clause-runs : goal.returns-in-Answer-clause-runs
returns-in-Answer-clause-runs g c = λ calls few runs. c.answer.ensures.runs _ _ _ (c.in-Answer.ensures.runs calls few runs (λ e. absurd cc))

pub returns-in-Wait-clause-settled : goal.returns-in-Wait-clause-settled
returns-in-Wait-clause-settled g c = record {
  after = c.carry_out.new.state;
  outcome = outcome.Wait;
  called = c.in-Wait.ensures.called (λ e. absurd cc);
  settles = c.stay.ensures.stays;
  tells = refl;
}

pub returns-in-Wait-clause-runs : goal.returns-in-Wait-clause-runs
returns-in-Wait-clause-runs g c = λ calls few runs. c.stay.ensures.runs _ _ _ (c.in-Wait.ensures.runs calls few runs (λ e. absurd cc))

pub returns-in-Ended-clause-settled : goal.returns-in-Ended-clause-settled
returns-in-Ended-clause-settled g c = record {
  after = c.carry_out.new.state;
  outcome = outcome.Ended;
  called = c.in-Ended.ensures.called (λ e. absurd cc);
  settles = refl;
  tells = refl;
}

pub returns-in-Ended-clause-runs : goal.returns-in-Ended-clause-runs
returns-in-Ended-clause-runs g c = λ calls few runs. c.in-Ended.ensures.runs calls few runs (λ e. absurd cc)
