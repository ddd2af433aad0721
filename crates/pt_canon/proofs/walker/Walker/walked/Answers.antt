use Rattle.std.proofs.Common.{◌≡◌, ◌∙◌, ◌&&◌, List, Ok, ap, subst, sym}
use Rattle.pt_bind.specs.pr_base.declared.bind.Bound.{Bound}
use Rattle.pt_bind.specs.Binding.{names_of}
use Rattle.pt_canon.specs.Canon.{IsAnswer, IsWalkNoted, canon_of, texts_by}
use Rattle.pt_canon.specs.Remembering.{Walking, is_steady_key, key_of}
use Rattle.pt_canon.specs.Steadily.{behind_looks}
use Rattle.pt_canon.specs.TextWalk.{text_walk}
use Rattle.pt_canon.specs.Walked.{answer_of}
use Rattle.pt_canon.proofs.RememberLemmas.{ended_answer, walk_steady, walked_error}
use Rattle.pt_canon.proofs.NotedLemmas.{noted_error}
use Rattle.pt_canon.specs.declared.ending.Ended.{Ended}
use Rattle.pt_canon.proofs.walker.Walker.walked.Goals as goal

pub returns-in_err-ended-clause-answer : goal.returns-in_err-ended-clause-answer
returns-in_err-ended-clause-answer g c =
    let peeked = g.K.Peeks.peeked c.args.kernel.now in
    let texts = texts_by c.self.inside.table peeked c.args.tags.now in
    let trail = text_walk texts c.args.mode (names_of c.args.base.now) c.args.path.now in
    let residual = c.from_residual in
    let P : List Bound → Type 0 = λ table. IsAnswer (canon_of (texts_by table peeked c.args.tags.now) c.args.mode (names_of c.args.base.now) c.args.path.now) (answer_of residual.result) in
    subst P (ap (λ (w : Walking). w.table) c.self.view_is)
    (walked_error texts c.args.mode (behind_looks texts c.args.asks trail.looks) trail.answer c.in_err-ended.field-0.0 residual.result c.in_err-ended.ensures.answer residual.ensures.0 residual.ensures.1)

pub returns-clause-answer : goal.returns-clause-answer
returns-clause-answer g c =
    let peeked = g.K.Peeks.peeked c.args.kernel.now in
    let texts = texts_by c.self.inside.table peeked c.args.tags.now in
    let trail = text_walk texts c.args.mode (names_of c.args.base.now) c.args.path.now in
    let told = ended_answer texts c.args.mode (behind_looks texts c.args.asks trail.looks) trail.answer c.in_ok-ended.ended c.in_ok-ended.ensures.answer in
    let P : List Bound → Type 0 = λ table. canon_of (texts_by table peeked c.args.tags.now) c.args.mode (names_of c.args.base.now) c.args.path.now ≡ Ok c.in_ok-canon.canon in
    subst P (ap (λ (w : Walking). w.table) c.self.view_is) (told.0 ∙ ap Ok (sym c.in_ok-canon.ensures.canon))

pub returns-clause-steady : goal.returns-clause-steady
returns-clause-steady g c =
    let peeked = g.K.Peeks.peeked c.args.kernel.now in
    let texts = texts_by c.self.inside.table peeked c.args.tags.now in
    let key = key_of c.args.base.now c.args.path.now c.args.mode in
    let trail = text_walk texts c.args.mode (names_of c.args.base.now) c.args.path.now in
    let told = ended_answer texts c.args.mode (behind_looks texts c.args.asks trail.looks) trail.answer c.in_ok-ended.ended c.in_ok-ended.ensures.answer in
    let P : List Bound → Type 0 = λ table. c.in_ok-ended.ended.steady ≡ (c.args.asks && is_steady_key (texts_by table peeked c.args.tags.now) key) in
    subst P (ap (λ (w : Walking). w.table) c.self.view_is) (told.1 ∙ walk_steady texts key c.args.asks)

pub returns-in_err-ended-clause-noted : goal.returns-in_err-ended-clause-noted
returns-in_err-ended-clause-noted g c =
    let peeked = g.K.Peeks.peeked c.args.kernel.now in
    let texts = texts_by c.self.inside.table peeked c.args.tags.now in
    let key = key_of c.args.base.now c.args.path.now c.args.mode in
    let old = g.K.Peeks.unmet c.args.kernel.now in
    let new = g.K.Peeks.unmet c.walk.new.kernel in
    let residual = c.from_residual in
    let P : List Bound → Type 0 = λ table. IsWalkNoted (old && is_steady_key (texts_by table peeked c.args.tags.now) key) new residual.result in
    subst P (ap (λ (w : Walking). w.table) c.self.view_is)
    (subst (λ b. IsWalkNoted b new residual.result) (walk_steady texts key old) (noted_error Ended _ new c.in_err-ended.field-0.0 residual.result c.in_err-ended.ensures.noted residual.ensures.0 residual.ensures.1))

pub returns-clause-noted : goal.returns-clause-noted
returns-clause-noted g c =
    let peeked = g.K.Peeks.peeked c.args.kernel.now in
    let texts = texts_by c.self.inside.table peeked c.args.tags.now in
    let key = key_of c.args.base.now c.args.path.now c.args.mode in
    let old = g.K.Peeks.unmet c.args.kernel.now in
    let P : List Bound → Type 0 = λ table. g.K.Peeks.unmet c.walk.new.kernel ≡ (old && is_steady_key (texts_by table peeked c.args.tags.now) key) in
    subst P (ap (λ (w : Walking). w.table) c.self.view_is) (c.in_ok-ended.ensures.noted ∙ walk_steady texts key old)
