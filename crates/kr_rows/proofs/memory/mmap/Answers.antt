use Rattle.std.proofs.Common.{◌/◌, Bool, ap, ◌∙◌, sym, bit_and, if◌then◌else◌}
use Rattle.kr_seen.specs.kr_model.Known.{known}
use Rattle.kr_seen.specs.kr_model.MemoryRows.{map_fixed, map_free, page_count}
use Rattle.kr_seen.specs.kr_model.Reply.{Replying}
use Rattle.kr_seen.specs.kr_model.State as model
use Rattle.kr_seen.specs.kr_ops.Meaning.{meaning}
use Rattle.kr_seen.proofs.kr_ops.ListLemmas.{apart-test, same-test}
use Rattle.kr_seen.proofs.PerformLemmas.{by-row}
use Rattle.kr_rows.proofs.memory.mmap.Goals as goal

pub returns-then-flags-eq-MAP_FIXED-clause-performs : goal.returns-then-flags-eq-MAP_FIXED-clause-performs
returns-then-flags-eq-MAP_FIXED-clause-performs g c = λ some.
    let k = known model.image_layout c.args.pid (meaning c.args.state.now) in
    let row : Bool → Replying = λ fixed. if fixed then map_fixed k (c.args.a / 4096) (page_count c.args.len) c.args.prot else map_free k (page_count c.args.len) c.args.prot in
    by-row c.args.pid _ c.args.state.now c.map_fixed.new.state c.map_fixed.result c.requires.sound.pids (λ k. map_fixed k (c.args.a / 4096) c.page_count-count.result c.args.prot)
    (ap row (same-test (bit_and c.args.flags 16) 16 c.if-flags-eq-MAP_FIXED.true) ∙ ap (λ n. map_fixed k (c.args.a / 4096) n c.args.prot) (sym c.page_count-count.ensures))
    (c.map_fixed.ensures.performs some)

pub returns-else-flags-eq-MAP_FIXED-clause-performs : goal.returns-else-flags-eq-MAP_FIXED-clause-performs
returns-else-flags-eq-MAP_FIXED-clause-performs g c = λ some.
    let k = known model.image_layout c.args.pid (meaning c.args.state.now) in
    let row : Bool → Replying = λ fixed. if fixed then map_fixed k (c.args.a / 4096) (page_count c.args.len) c.args.prot else map_free k (page_count c.args.len) c.args.prot in
    by-row c.args.pid _ c.args.state.now c.map_free.new.state c.map_free.result c.requires.sound.pids (λ k. map_free k c.page_count-count.result c.args.prot)
    (ap row (apart-test (bit_and c.args.flags 16) 16 c.if-flags-eq-MAP_FIXED.false) ∙ ap (λ n. map_free k n c.args.prot) (sym c.page_count-count.ensures))
    (c.map_free.ensures.performs some)
