use Rattle.std.proofs.Common.{◌/◌, ◌+◌, ◌<◌, ℕ, Option, refl, ap, ◌∙◌, arith}
use Rattle.std.specs.Option.{option_map_or}
use Rattle.kr_seen.specs.pr_base.declared.errno.Errno.TheVariants.{ENOMEM}
use Rattle.kr_seen.specs.rv_mem.Layout.{layout_of}
use Rattle.kr_seen.specs.kr_model.Known.{known}
use Rattle.kr_seen.specs.kr_model.MemoryRows.{lowest_place, map_at, places_begin, places_end}
use Rattle.kr_seen.specs.kr_model.Reply.{Replying, refuse}
use Rattle.kr_seen.specs.kr_model.State as model
use Rattle.kr_seen.specs.kr_ops.Meaning.{meaning}
use Rattle.kr_seen.proofs.kr_ops.OpeningLemmas.{not-living}
use Rattle.kr_rows.proofs.BreakLemmas.{layout-at}
use Rattle.kr_rows.proofs.LowestLemmas.{lowest-is, none-is, none-so-long}
use Rattle.kr_seen.proofs.PerformLemmas.{by-refusal, by-row}
use Rattle.kr_rows.proofs.memory.map_free.Goals as goal

pub unreachable-requires : goal.unreachable-requires
unreachable-requires g c = not-living c.args.state.now c.args.pid (c.index_of.ensures.none c.in_default.is) c.requires.lives

pub returns-then-count-clause-performs : goal.returns-then-count-clause-performs
returns-then-count-clause-performs g c = λ some.
    let k = known model.image_layout c.args.pid (meaning c.args.state.now) in
    let row : Option ℕ → Replying = λ o. option_map_or (λ first. map_at k first c.args.count c.args.prot) o (refuse ENOMEM) in
    let long : places_end < places_begin + c.args.count = omega arith in
    by-refusal c.args.pid _ c.args.state.now c.args.state.now c.refused.result c.requires.sound.pids ENOMEM
    (ap row (none-so-long k.caller.layout c.args.count long)) c.refused.ensures refl

pub returns-in-Some-lowest_place-clause-performs : goal.returns-in-Some-lowest_place-clause-performs
returns-in-Some-lowest_place-clause-performs g c = λ some.
    let k = known model.image_layout c.args.pid (meaning c.args.state.now) in
    let p = c.index.result.now in
    let at = c.in-Some-lowest_place.at / 4096 in
    let row : Option ℕ → Replying = λ o. option_map_or (λ first. map_at k first c.args.count c.args.prot) o (refuse ENOMEM) in
    by-row c.args.pid _ c.args.state.now c.map_at.new.state c.map_at.result c.requires.sound.pids (λ k. map_at k at c.args.count c.args.prot)
    (ap row (ap (λ l. lowest_place l c.args.count) (layout-at c.args.state.now c.args.pid c.in-Some.k p c.requires.sound c.in-Some.ensures.some c.index.ensures)
    ∙ lowest-is (layout_of p.mem.pages) c.args.count at c.in-Some-lowest_place.ensures.some))
    (c.map_at.ensures.performs some)

pub returns-in-None-clause-performs : goal.returns-in-None-clause-performs
returns-in-None-clause-performs g c = λ some.
    let k = known model.image_layout c.args.pid (meaning c.args.state.now) in
    let p = c.index.result.now in
    let row : Option ℕ → Replying = λ o. option_map_or (λ first. map_at k first c.args.count c.args.prot) o (refuse ENOMEM) in
    by-refusal c.args.pid _ c.args.state.now c.args.state.now c.refused-in-None.result c.requires.sound.pids ENOMEM
    (ap row (ap (λ l. lowest_place l c.args.count) (layout-at c.args.state.now c.args.pid c.in-Some.k p c.requires.sound c.in-Some.ensures.some c.index.ensures)
    ∙ none-is (layout_of p.mem.pages) c.args.count c.in-None.ensures.none))
    c.refused-in-None.ensures refl
