use Rattle.std.proofs.Common.{refl, sym, ap, subst, ◌∙◌}
use Rattle.std.specs.Prelude.{IsSome}
use Rattle.std.specs.Option.{option_map}
use Rattle.kr_loose.specs.kr_first.Starting.{directory_at}
use Rattle.kr_loose.specs.law_allowed.Texts.{IsText}
use Rattle.kr_loose.specs.kr_view.Leads.{numbered}
use Rattle.kr_loose.specs.kr_view.View.{plain}
use Rattle.core_tests.proofs.start.asked.Goals as goal

pub returns-clause-text : goal.returns-clause-text
returns-clause-text c = subst IsText c.as_slice.ensures (c.is_text.ensures c.if-not-is_text.false)

pub returns-clause-cwd : goal.returns-clause-cwd
returns-clause-cwd c =
    let leads = ap (directory_at plain c.args.tree.now c.args.user) (sym c.as_slice-cwd.ensures) ∙ sym c.in_ok-_directory.ensures.place ∙ ap (option_map (numbered _)) c.in-Some.is in
    subst IsSome (sym leads) refl
