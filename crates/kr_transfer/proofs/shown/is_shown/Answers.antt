use Rattle.std.proofs.Common.{sym, ap, ◌∙◌}
use Rattle.std.specs.Prelude.{is_some}
use Rattle.kr_seen.specs.kr_model.DirectoryRows.{shown_by}
use Rattle.kr_seen.specs.kr_model.Known.{known}
use Rattle.kr_seen.specs.kr_model.State.{image_layout}
use Rattle.kr_seen.specs.kr_ops.Meaning.{meaning}
use Rattle.kr_transfer.proofs.shown.is_shown.Goals as goal

pub returns-in-Proc : goal.returns-in-Proc
returns-in-Proc g c =
    let k = known image_layout c.args.pid (meaning c.args.state.now) in
    c.is_process_shown.ensures c.in-Proc._ino ∙ ap (λ h. is_some (shown_by k h)) (sym c.in-Proc.is)
