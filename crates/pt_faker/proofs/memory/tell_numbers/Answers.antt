use Rattle.std.proofs.Common.{◌≡◌, ◌∙◌, ◌&&◌, true, length, ap, sym}
use Rattle.pt_ident.specs.rv_mem.declared.rights.Use.TheVariants.{Write}
use Rattle.kr_stops.specs.Editing.{after_poke, memory_at}
use Rattle.pt_ident.specs.Identity.{numbers_of}
use Rattle.pt_faker.proofs.StopLemmas.{allows_all-written, and_alike, and_second, and_third, may-still, numbers-told, only-then, poke-again, wrote}
use Rattle.pt_faker.proofs.memory.tell_numbers.Goals as goal

pub write-requires-2 : goal.write-requires-2
write-requires-2 g c =
    let t = g.T.Tracee.stopped c.args.t.now in
    let all : (c.can-first.result && c.can-second.result && c.can-third.result) ≡ true = sym c.all.ensures ∙ c.if-not-all.false in
    record {
      may = may-still t c.pid-pid.ensures.lives (memory_at t) (g.T.Tracee.stopped c.write.new.t) c.args.real c.to_le_bytes.result c.args.effective 4 (length c.to_le_bytes-2.result) c.in_ok-write.ensures.after (ap length c.to_le_bytes-2.ensures)
          (sym c.can-second.ensures ∙ and_second c.can-first.result c.can-second.result c.can-third.result all);
    }

pub write-requires-3 : goal.write-requires-3
write-requires-3 g c =
    let t = g.T.Tracee.stopped c.args.t.now in
    let one = wrote (memory_at t) c.args.real c.to_le_bytes.result in
    let all : (c.can-first.result && c.can-second.result && c.can-third.result) ≡ true = sym c.all.ensures ∙ c.if-not-all.false in
    record {
      may = may-still t c.pid-pid.ensures.lives one (g.T.Tracee.stopped c.write-2.new.t) c.args.effective c.to_le_bytes-2.result c.args.saved 4 (length c.to_le_bytes-3.result)
          (poke-again t c.pid-pid.ensures.lives one (g.T.Tracee.stopped c.write.new.t) (g.T.Tracee.stopped c.write-2.new.t) c.args.effective c.to_le_bytes-2.result c.in_ok-write.ensures.after c.in_ok-write-2.ensures.after)
          (ap length c.to_le_bytes-3.ensures)
          (allows_all-written (memory_at t).pages c.args.real c.to_le_bytes.result c.args.saved 4 Write ∙ sym c.can-third.ensures ∙ and_third c.can-first.result c.can-second.result c.can-third.result all);
    }

pub returns-in_err-write-2-clause-edits : goal.returns-in_err-write-2-clause-edits
returns-in_err-write-2-clause-edits g c = only-then c.in_ok-write.ensures.edits c.in_err-write-2.ensures.edits

pub returns-in_err-write-3-clause-edits : goal.returns-in_err-write-3-clause-edits
returns-in_err-write-3-clause-edits g c =
    only-then (only-then c.in_ok-write.ensures.edits c.in_ok-write-2.ensures.edits) c.in_err-write-3.ensures.edits

pub returns-clause-edits : goal.returns-clause-edits
returns-clause-edits g c =
    only-then (only-then c.in_ok-write.ensures.edits c.in_ok-write-2.ensures.edits) c.in_ok-write-3.ensures.edits

pub returns-clause-tells : goal.returns-clause-tells
returns-clause-tells g c = λ i.
    let t = g.T.Tracee.stopped c.args.t.now in
    let u = g.T.Tracee.stopped c.write.new.t in
    let v = g.T.Tracee.stopped c.write-2.new.t in
    let w = g.T.Tracee.stopped c.write-3.new.t in
    let all : (c.can-first.result && c.can-second.result && c.can-third.result) ≡ true = sym c.all.ensures ∙ c.if-not-all.false in
    numbers-told t c.pid-pid.ensures.lives i (numbers_of c.args.numbers) c.args.real c.args.effective c.args.saved u v w
    (and_alike c.can-first.result c.can-second.result c.can-third.result _ _ _ c.can-first.ensures c.can-second.ensures c.can-third.ensures all)
    (c.in_ok-write.ensures.after ∙ ap (λ bs. after_poke c.args.real bs t) c.to_le_bytes.ensures)
    (c.in_ok-write-2.ensures.after ∙ ap (λ bs. after_poke c.args.effective bs u) c.to_le_bytes-2.ensures)
    (c.in_ok-write-3.ensures.after ∙ ap (λ bs. after_poke c.args.saved bs v) c.to_le_bytes-3.ensures)
