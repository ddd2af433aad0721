use Rattle.std.proofs.Common.{◌∙◌, ap}
use Rattle.std.specs.Prelude.{map as map_list}
use Rattle.std.specs.List.{insert, position}
use Rattle.std.specs.Option.{unwrap_or}
use Rattle.kr_ops.specs.Meaning.{ended_meaning}
use Rattle.kr_ops.proofs.EndingLemmas.{above, place-is, put-is}
use Rattle.kr_ops.proofs.ending.put_in.Goals as goal

pub returns-in-Ok : goal.returns-in-Ok
returns-in-Ok c =
    let xs = c.args.ended.now.items in
    let e = c.args.process in
    let at = c.unwrap_or-k.ensures ∙ ap (λ n. unwrap_or c.first_above.result n) (c.len.ensures ∙ c.args.ended.now.ok.0) ∙ place-is e.pid xs c.first_above.result (c.first_above.ensures ∙ ap (position (above e.pid)) c.as_slice.ensures.value) in
    ap (map_list ended_meaning) (c.in-Ok.ensures.items ∙ ap (λ k. insert xs k e) at) ∙ put-is e xs
