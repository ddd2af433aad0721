use Rattle.std.proofs.Common.{◌≡◌, ◌≤◌, ◌<◌, ◌+◌, ◌-◌, ◌/◌, ◌%◌, ◌∙◌, true, sym, ap, arith}
use Rattle.rv_mem.specs.declared.rights.Use.TheVariants.{Read}
use Rattle.rv_mem.specs.Pages.{page_allows, bytes_from}
use Rattle.rv_mem.specs.Memory.{text_of, text_reach}
use Rattle.rv_mem.proofs.AccessLemmas.{allows_all-zero, any_marked-zero, HasPagesAt-allowed, fits_placed}
use Rattle.rv_mem.proofs.TextLemmas.{text_past, reach_start, text_start, reach_refused, text_of_refused, reach_limit, text_of_limit, reach_found, text_found, reach_more, text_more, allowed_more, seen_more, page_readable, byte_readable, zero_moved}
use Rattle.rv_mem.proofs.table.Table.scan.Goals as goal

pub loop-reach-init : goal.loop-reach-init
loop-reach-init g c = record {
  within = omega arith;
  allowed = allows_all-zero c.args.self.now c.args.at Read;
  marked = sym (any_marked-zero c.args.self.now c.args.at);
  reached = reach_start c.args.self.now c.args.at c.args.max;
  text = text_start c.args.self.now c.args.at c.args.max;
}

pub overflow_add-next : goal.overflow_add-next
overflow_add-next g c =
    omega (
      arith,
      fits_placed c.args.self.now c.args.at c.loop-reach.reach c.requires.placed
          (HasPagesAt-allowed c.args.self.now c.args.at c.loop-reach.reach Read c.loop-reach.invariant.allowed) c.ranges.at.fits,
    )

pub returns-then-not-allows-clause-reach : goal.returns-then-not-allows-clause-reach
returns-then-not-allows-clause-reach g c =
    let refused = reach_refused c.args.self.now (c.args.at + c.loop-reach.reach) (c.args.max - c.loop-reach.reach) (sym c.allows.ensures ∙ c.if-not-allows.true) in
    omega (arith, c.loop-reach.invariant.reached, refused)

pub returns-then-not-allows-clause-text : goal.returns-then-not-allows-clause-text
returns-then-not-allows-clause-text g c =
    c.loop-reach.invariant.text
    ∙ ap (text_past (bytes_from c.args.self.now c.args.at c.loop-reach.reach))
    (text_of_refused c.args.self.now (c.args.at + c.loop-reach.reach) (c.args.max - c.loop-reach.reach) (omega arith) (sym c.allows.ensures ∙ c.if-not-allows.true))

pub returns-in-Some-clause-reach : goal.returns-in-Some-clause-reach
returns-in-Some-clause-reach g c =
    let w = c.in-Some.ensures.some in
    let readable : page_allows c.args.self.now ((c.args.at + c.loop-reach.reach) / 4096) Read ≡ true = sym c.allows.ensures ∙ c.if-not-allows.false in
    let few : (c.args.at + c.loop-reach.reach) % 4096 + c.in-Some.before < 4096 = omega (arith, w.0, c.min-count.ensures) in
    let below : c.loop-reach.reach + c.in-Some.before < c.args.max = omega (arith, w.0, c.min-count.ensures) in
    reach_found c.args.self.now c.args.at c.loop-reach.reach c.in-Some.before c.args.max below
    (page_readable c.args.self.now (c.args.at + c.loop-reach.reach) c.in-Some.before (omega arith) readable) w.2
    (byte_readable c.args.self.now c.args.at c.loop-reach.reach c.in-Some.before few readable)
    (zero_moved c.args.self.now c.args.at c.loop-reach.reach c.in-Some.before w.1) c.loop-reach.invariant.reached

pub returns-in-Some-clause-allowed : goal.returns-in-Some-clause-allowed
returns-in-Some-clause-allowed g c =
    let w = c.in-Some.ensures.some in
    let readable : page_allows c.args.self.now ((c.args.at + c.loop-reach.reach) / 4096) Read ≡ true = sym c.allows.ensures ∙ c.if-not-allows.false in
    let few : (c.args.at + c.loop-reach.reach) % 4096 + (c.in-Some.before + 1) ≤ 4096 = omega (arith, w.0, c.min-count.ensures) in
    allowed_more c.args.self.now c.args.at c.loop-reach.reach (c.in-Some.before + 1) c.loop-reach.invariant.allowed
    (page_readable c.args.self.now (c.args.at + c.loop-reach.reach) (c.in-Some.before + 1) few readable)

pub returns-in-Some-clause-marked : goal.returns-in-Some-clause-marked
returns-in-Some-clause-marked g c =
    seen_more c.args.self.now c.args.at c.loop-reach.reach (c.in-Some.before + 1) c.loop-reach.marked c.any_marked-marked.result c.loop-reach.invariant.marked c.any_marked-marked.ensures

pub returns-in-Some-clause-text : goal.returns-in-Some-clause-text
returns-in-Some-clause-text g c =
    let w = c.in-Some.ensures.some in
    let readable : page_allows c.args.self.now ((c.args.at + c.loop-reach.reach) / 4096) Read ≡ true = sym c.allows.ensures ∙ c.if-not-allows.false in
    let few : (c.args.at + c.loop-reach.reach) % 4096 + c.in-Some.before < 4096 = omega (arith, w.0, c.min-count.ensures) in
    let below : c.loop-reach.reach + c.in-Some.before < c.args.max = omega (arith, w.0, c.min-count.ensures) in
    text_found c.args.self.now c.args.at c.loop-reach.reach c.in-Some.before c.args.max below
    (page_readable c.args.self.now (c.args.at + c.loop-reach.reach) c.in-Some.before (omega arith) readable) w.2
    (byte_readable c.args.self.now c.args.at c.loop-reach.reach c.in-Some.before few readable)
    (zero_moved c.args.self.now c.args.at c.loop-reach.reach c.in-Some.before w.1) c.loop-reach.invariant.text

pub loop-reach-preserved : goal.loop-reach-preserved
loop-reach-preserved g c =
    let readable : page_allows c.args.self.now ((c.args.at + c.loop-reach.reach) / 4096) Read ≡ true = sym c.allows.ensures ∙ c.if-not-allows.false in
    let few : (c.args.at + c.loop-reach.reach) % 4096 + c.min-count.result ≤ 4096 = omega (arith, c.min-count.ensures) in
    let below : c.loop-reach.reach + c.min-count.result ≤ c.args.max = omega (arith, c.min-count.ensures) in
    let all = page_readable c.args.self.now (c.args.at + c.loop-reach.reach) c.min-count.result few readable in
    let none = rw c.in_default.is at c.zero_in.ensures.none in
    record {
      within = below;
      allowed = allowed_more c.args.self.now c.args.at c.loop-reach.reach c.min-count.result c.loop-reach.invariant.allowed all;
      marked = seen_more c.args.self.now c.args.at c.loop-reach.reach c.min-count.result c.loop-reach.marked c.any_marked-marked-in-loop-reach.result c.loop-reach.invariant.marked c.any_marked-marked-in-loop-reach.ensures;
      reached = reach_more c.args.self.now c.args.at c.loop-reach.reach c.min-count.result c.args.max below all none c.loop-reach.invariant.reached;
      text = text_more c.args.self.now c.args.at c.loop-reach.reach c.min-count.result c.args.max below all none c.loop-reach.invariant.text;
    }

pub returns-clause-reach : goal.returns-clause-reach
returns-clause-reach g c =
    let none : c.args.max - c.loop-reach.reach ≡ 0 = omega arith in
    let end = ap (text_reach c.args.self.now (c.args.at + c.loop-reach.reach)) none ∙ reach_limit c.args.self.now (c.args.at + c.loop-reach.reach) in
    omega (arith, c.loop-reach.invariant.reached, end)

pub returns-clause-text : goal.returns-clause-text
returns-clause-text g c =
    let none : c.args.max - c.loop-reach.reach ≡ 0 = omega arith in
    c.loop-reach.invariant.text
    ∙ ap (text_past (bytes_from c.args.self.now c.args.at c.loop-reach.reach))
    (ap (text_of c.args.self.now (c.args.at + c.loop-reach.reach)) none ∙ text_of_limit c.args.self.now (c.args.at + c.loop-reach.reach))
