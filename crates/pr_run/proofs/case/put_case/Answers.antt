use Rattle.std.proofs.Common.{◌≡◌, ◌≢◌, [], refl, ap, subst, ◌∙◌}
use Rattle.std.specs.Prelude.{Err}
use Rattle.pr_sources.specs.pr_io.Drawn.{received}
use Rattle.pr_sources.specs.pr_io.Moves.{GetsPrefix, Puts}
use Rattle.pr_sources.specs.pr_io.declared.fault.PutFault.TheVariants.{Failed}
use Rattle.pr_run.specs.Puts.{uncalled}
use Rattle.pr_run.proofs.CaseLemmas.{stops-in-summary}
use Rattle.pr_run.proofs.case.put_case.Goals as goal

pub returns-in-Err-Failed : goal.returns-in-Err-Failed
returns-in-Err-Failed g c = λ before count.
    let failed : c.put_some.result ≡ Err Failed = c.in-Err-Failed.is ∙ ap (λ fault. Err fault) c.in-Err-Failed.field-0-is in
    let out = g.O.Sink.got c.args.out.now in
    let out' = g.O.Sink.got c.put_some.new.sink in
    let put : GetsPrefix out out' c.args.told.now.summary = subst (λ bytes. GetsPrefix out out' bytes) c.as_slice.ensures (subst (λ r. Puts out out' r c.as_slice.result.now) failed c.put_some.ensures.put) in
    let cause = c.put_some.ensures.cause failed in
    let some : c.args.told.now.summary ≢ [] = subst (λ bytes. bytes ≢ []) c.as_slice.ensures cause.1 in
    (cause.0, stops-in-summary c.args.told.now.summary (received g.O.Sink c.args.out.now c.put_some.new.sink) (uncalled before count) some put refl, refl)
