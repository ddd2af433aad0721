use Rattle.std.proofs.Common.{◌≡◌, ◌∙◌, Ok, ap, subst, sym}
use Rattle.std.proofs.lemmas.Result.{err_from_is_err_and}
use Rattle.std.specs.Option.{option_copied}
use Rattle.pt_args.specs.pr_base.Peeks.{Peeked}
use Rattle.pt_args.specs.pt_canon.Canon.{texts_by}
use Rattle.pt_args.specs.pt_canon.Remembering.{Agrees}
use Rattle.pt_args.specs.kr_calls.Expansion.{is_script}
use Rattle.pt_script.proofs.ChainLemmas.{ended, looped, next_fails, next_left}
use Rattle.pt_args.proofs.pt_canon.NotedLemmas.{noted_error}
use Rattle.pt_script.proofs.UnmetLemmas.{ended-unmet, looped-unmet, lost-unmet, next-unmet}
use Rattle.pt_script.specs.declared.command.Command.{Command}
use Rattle.pt_script.proofs.finder.Finder.end_of.Goals as goal

pub returns-then-not-is_script-clause-answer : goal.returns-then-not-is_script-clause-answer
returns-then-not-is_script-clause-answer g c =
    let texts = texts_by c.args.walker.now.table (g.K.Peeks.peeked c.args.kernel.now) c.args.self.now.tags.now in
    let l = c.scripts in
    ended texts (option_copied c.args.self.now.working) c.args.env_bytes c.args.command l.scripts l.command l.invariant.left (ap is_script (sym c.as_slice.ensures) ∙ sym c.is_script.ensures.test ∙ c.if-not-is_script.true) ∙ ap Ok (sym c.ended.ensures)

pub returns-then-scripts-eq-MOST_SCRIPTS-clause-answer : goal.returns-then-scripts-eq-MOST_SCRIPTS-clause-answer
returns-then-scripts-eq-MOST_SCRIPTS-clause-answer g c =
    let texts = texts_by c.args.walker.now.table (g.K.Peeks.peeked c.args.kernel.now) c.args.self.now.tags.now in
    let l = c.scripts in
    looped texts (option_copied c.args.self.now.working) c.args.env_bytes c.args.command l.scripts l.command l.invariant.left c.if-scripts-eq-MOST_SCRIPTS.true (ap is_script (sym c.as_slice.ensures) ∙ sym c.is_script.ensures.test ∙ c.if-not-is_script.false)

pub returns-in_err-command-clause-answer : goal.returns-in_err-command-clause-answer
returns-in_err-command-clause-answer g c =
    let texts = texts_by c.args.walker.now.table (g.K.Peeks.peeked c.args.kernel.now) c.args.self.now.tags.now in
    let l = c.scripts in
    let here : texts_by l.walker.table (g.K.Peeks.peeked l.kernel) c.args.self.now.tags.now ≡ texts = λ i. texts_by (l.invariant.walker.table i) (l.invariant.same i) c.args.self.now.tags.now in
    let e = err_from_is_err_and c.from_residual.result c.from_residual.ensures.1 in
    rw (e.1, e.2)
    (next_fails texts (option_copied c.args.self.now.working) c.args.env_bytes c.args.command l.scripts l.command _ _ here l.invariant.left c.if-scripts-eq-MOST_SCRIPTS.false (ap is_script (sym c.as_slice.ensures) ∙ sym c.is_script.ensures.test ∙ c.if-not-is_script.false)
    c.in_err-command.ensures.answer)

pub scripts-preserved : goal.scripts-preserved
scripts-preserved g c =
    let texts = texts_by c.args.walker.now.table (g.K.Peeks.peeked c.args.kernel.now) c.args.self.now.tags.now in
    let l = c.scripts in
    let here : texts_by l.walker.table (g.K.Peeks.peeked l.kernel) c.args.self.now.tags.now ≡ texts = λ i. texts_by (l.invariant.walker.table i) (l.invariant.same i) c.args.self.now.tags.now in
    record {
      left = next_left texts (option_copied c.args.self.now.working) c.args.env_bytes c.args.command l.scripts l.command c.in_ok-command.command _ here l.invariant.left c.if-scripts-eq-MOST_SCRIPTS.false (ap is_script (sym c.as_slice.ensures) ∙ sym c.is_script.ensures.test ∙ c.if-not-is_script.false)
          c.in_ok-command.ensures.answer;
      short = c.in_ok-command.ensures.short;
      walker = record {
        table = c.interpreted.ensures.walker.table ∙ l.invariant.walker.table;
        pauses = c.interpreted.ensures.walker.pauses ∙ l.invariant.walker.pauses;
        agrees = subst (λ (peeked : Peeked). Agrees c.interpreted.new.walker peeked) l.invariant.same c.interpreted.ensures.walker.agrees;
      };
      noted = next-unmet texts (option_copied c.args.self.now.working) c.args.env_bytes l.scripts l.command (g.K.Peeks.unmet l.kernel) _ l.invariant.noted _ here l.invariant.left.few c.if-scripts-eq-MOST_SCRIPTS.false
          (ap is_script (sym c.as_slice.ensures) ∙ sym c.is_script.ensures.test ∙ c.if-not-is_script.false) c.in_ok-command.command (g.K.Peeks.unmet c.interpreted.new.kernel) c.in_ok-command.ensures.answer c.in_ok-command.ensures.noted;
      same = c.interpreted.ensures.kernel.same ∙ l.invariant.same;
      rest = c.interpreted.ensures.kernel.rest ∙ l.invariant.rest;
    }

pub returns-then-not-is_script-clause-noted : goal.returns-then-not-is_script-clause-noted
returns-then-not-is_script-clause-noted g c =
    let texts = texts_by c.args.walker.now.table (g.K.Peeks.peeked c.args.kernel.now) c.args.self.now.tags.now in
    let l = c.scripts in
    ended-unmet texts (option_copied c.args.self.now.working) c.args.env_bytes l.scripts l.command (g.K.Peeks.unmet l.kernel) _ l.invariant.noted (ap is_script (sym c.as_slice.ensures) ∙ sym c.is_script.ensures.test ∙ c.if-not-is_script.true)

pub returns-then-scripts-eq-MOST_SCRIPTS-clause-noted : goal.returns-then-scripts-eq-MOST_SCRIPTS-clause-noted
returns-then-scripts-eq-MOST_SCRIPTS-clause-noted g c =
    let texts = texts_by c.args.walker.now.table (g.K.Peeks.peeked c.args.kernel.now) c.args.self.now.tags.now in
    let l = c.scripts in
    looped-unmet texts (option_copied c.args.self.now.working) c.args.env_bytes l.scripts l.command (g.K.Peeks.unmet l.kernel) _ l.invariant.noted c.if-scripts-eq-MOST_SCRIPTS.true

pub returns-in_err-command-clause-noted : goal.returns-in_err-command-clause-noted
returns-in_err-command-clause-noted g c =
    let texts = texts_by c.args.walker.now.table (g.K.Peeks.peeked c.args.kernel.now) c.args.self.now.tags.now in
    let l = c.scripts in
    let here : texts_by l.walker.table (g.K.Peeks.peeked l.kernel) c.args.self.now.tags.now ≡ texts = λ i. texts_by (l.invariant.walker.table i) (l.invariant.same i) c.args.self.now.tags.now in
    noted_error Command _ (g.K.Peeks.unmet c.interpreted.new.kernel) c.in_err-command.field-0.0 c.from_residual.result
    (lost-unmet texts (option_copied c.args.self.now.working) c.args.env_bytes l.scripts l.command (g.K.Peeks.unmet l.kernel) _ l.invariant.noted _ here l.invariant.left.few c.if-scripts-eq-MOST_SCRIPTS.false
    (ap is_script (sym c.as_slice.ensures) ∙ sym c.is_script.ensures.test ∙ c.if-not-is_script.false) c.in_err-command.field-0.0 _ c.in_err-command.ensures.answer c.in_err-command.ensures.noted)
    c.from_residual.ensures.0 c.from_residual.ensures.1
