use Rattle.std.proofs.Common.{sym, ap, ◌∙◌, false}
use Rattle.std.specs.Option.{option_map_or}
use Rattle.kr_seen.specs.kr_model.Asking.{is_processes_host}
use Rattle.kr_seen.specs.kr_model.Known.{known}
use Rattle.kr_seen.specs.kr_model.State.{image_layout}
use Rattle.kr_seen.specs.kr_ops.Meaning.{meaning}
use Rattle.kr_names.proofs.moving.is_processes_found.Goals as goal

pub returns-in-Some : goal.returns-in-Some
returns-in-Some g c = λ pid. c.is_processes_host.ensures pid ∙ sym (ap (λ o. option_map_or (is_processes_host (known image_layout pid (meaning c.args.state.now))) o false) c.in-Some.is)
