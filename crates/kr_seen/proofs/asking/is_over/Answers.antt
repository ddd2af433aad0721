use Rattle.std.proofs.Common.{sym, ap, ◌∙◌, false}
use Rattle.std.specs.Prelude.{not}
use Rattle.std.specs.Option.{option_map_or}
use Rattle.kr_ops.specs.kr_model.Asking.{lives}
use Rattle.kr_ops.specs.kr_model.Known.{known}
use Rattle.kr_ops.specs.kr_model.State.{image_layout}
use Rattle.kr_ops.specs.Meaning.{meaning}
use Rattle.kr_seen.proofs.asking.is_over.Goals as goal

pub returns-in-Some : goal.returns-in-Some
returns-in-Some g c = λ pid.
    let k = known image_layout pid (meaning c.args.state.now) in
    ap not (c.lives.ensures pid) ∙ ap (λ o. option_map_or (λ n. not (lives k n)) o false) (sym (sym c.process_of.ensures ∙ c.in-Some.is))
