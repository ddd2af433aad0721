use Rattle.std.proofs.Common.{◌+◌, ◌||◌, Bool, false, refl, ap, ◌∙◌, if◌then◌else◌}
use Rattle.std.specs.Prelude.{nat_lt}
use Rattle.kr_seen.specs.pr_base.declared.errno.Errno.TheVariants.{ENOMEM}
use Rattle.kr_seen.specs.kr_model.Known.{known}
use Rattle.kr_seen.specs.kr_model.MemoryRows.{lowest_page, map_at, places_end}
use Rattle.kr_seen.specs.kr_model.Reply.{Replying, refuse}
use Rattle.kr_seen.specs.kr_model.State as model
use Rattle.kr_seen.specs.kr_ops.Meaning.{meaning}
use Rattle.kr_rows.proofs.PagingLemmas.{test-no, test-yes}
use Rattle.kr_seen.proofs.PerformLemmas.{by-refusal, by-row}
use Rattle.kr_rows.proofs.memory.map_fixed.Goals as goal

pub returns-then-first-lt-LOWEST_PAGE-clause-performs : goal.returns-then-first-lt-LOWEST_PAGE-clause-performs
returns-then-first-lt-LOWEST_PAGE-clause-performs g c = λ some.
    let k = known model.image_layout c.args.pid (meaning c.args.state.now) in
    let row : Bool → Bool → Replying = λ low high. if low || high then refuse ENOMEM else map_at k c.args.first c.args.count c.args.prot in
    by-refusal c.args.pid _ c.args.state.now c.args.state.now c.refused.result c.requires.caller.sound.pids ENOMEM
    (ap (λ low. row low (nat_lt places_end (c.args.first + c.args.count))) (test-yes c.args.first lowest_page c.if-first-lt-LOWEST_PAGE.true))
    c.refused.ensures refl

pub returns-then-first-count-gt-PLACES_END-clause-performs : goal.returns-then-first-count-gt-PLACES_END-clause-performs
returns-then-first-count-gt-PLACES_END-clause-performs g c = λ some.
    let k = known model.image_layout c.args.pid (meaning c.args.state.now) in
    let row : Bool → Bool → Replying = λ low high. if low || high then refuse ENOMEM else map_at k c.args.first c.args.count c.args.prot in
    by-refusal c.args.pid _ c.args.state.now c.args.state.now c.refused-then-first-count-gt-PLACES_END.result c.requires.caller.sound.pids ENOMEM
    (ap (λ low. row low (nat_lt places_end (c.args.first + c.args.count))) (test-no c.args.first lowest_page c.if-first-lt-LOWEST_PAGE.false)
    ∙ ap (row false) (test-yes places_end (c.args.first + c.args.count) c.if-first-count-gt-PLACES_END.true))
    c.refused-then-first-count-gt-PLACES_END.ensures refl

pub returns-clause-performs : goal.returns-clause-performs
returns-clause-performs g c = λ some.
    let k = known model.image_layout c.args.pid (meaning c.args.state.now) in
    let row : Bool → Bool → Replying = λ low high. if low || high then refuse ENOMEM else map_at k c.args.first c.args.count c.args.prot in
    by-row c.args.pid _ c.args.state.now c.map_at.new.state c.map_at.result c.requires.caller.sound.pids (λ k. map_at k c.args.first c.args.count c.args.prot)
    (ap (λ low. row low (nat_lt places_end (c.args.first + c.args.count))) (test-no c.args.first lowest_page c.if-first-lt-LOWEST_PAGE.false)
    ∙ ap (row false) (test-no places_end (c.args.first + c.args.count) c.if-first-count-gt-PLACES_END.false))
    (c.map_at.ensures.performs some)
