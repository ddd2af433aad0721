use Rattle.std.proofs.Common.{sym, subst}
use Rattle.kr_seen.specs.pr_base.Peeks.{IsPeeked}
use Rattle.kr_seen.specs.kr_model.Peeks.{link_text_at}
use Rattle.kr_seen.specs.kr_ops.Meaning.{meaning}
use Rattle.kr_hostview.proofs.peeks.text_of.Goals as goal

pub returns-in-Proc : goal.returns-in-Proc
returns-in-Proc g c =
    subst (λ object. IsPeeked (link_text_at (meaning c.args.state.now) c.args.caller object) c.process_text.result) (sym c.in-Proc.is) (c.process_text.ensures c.in-Proc.field-0)
