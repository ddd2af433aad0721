use Rattle.std.proofs.Common.{◌<◌, ◌/◌, ℕ, length, arith}
use Rattle.rv_mem.proofs.MarkLemmas.{put-none, put-step}
use Rattle.rv_mem.proofs.marks.put.Goals as goal

pub loop-index-init : goal.loop-index-init
loop-index-init c = put-none c.args.words.now c.args.from c.args.to c.args.value

pub loop-index-preserved : goal.loop-index-preserved
loop-index-preserved c =
    let words = c.loop-index.words in
    let index = c.loop-index.index in
    let e = c.word_with.ensures in
    let long = c.loop-index.invariant.long in
    let within : index < length words = omega (arith, long) in
    put-step c.args.words.now words c.args.from c.args.to index c.word_with.result c.args.value c.loop-index.invariant within
    (record { inside = e.inside; below = e.below; above = e.above })

pub returns : goal.returns
returns c =
    let p = c.loop-index.invariant in
    let past : (i : ℕ) → i < c.args.to → i / 64 < c.loop-index.index = λ i h. omega (arith, h, c.div_ceil-index-end.ensures) in
    record { inside = λ i low high. p.inside i low high (past i high); below = p.below; above = p.above; len = p.long }
