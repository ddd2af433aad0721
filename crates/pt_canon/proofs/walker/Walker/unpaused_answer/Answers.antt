use Rattle.std.proofs.Common.{◌≡◌, ◌∙◌, ◌&&◌, Option, Some, IfSome, Ok, ap, subst, sym}
use Rattle.std.specs.Map.{lookup}
use Rattle.pt_bind.specs.pr_base.declared.memory.NoMemory.{NoMemory}
use Rattle.pt_bind.specs.Binding.{IsWritten}
use Rattle.pt_canon.specs.Canon.{texts_by}
use Rattle.pt_canon.specs.Remembering.{Walking, is_steady_key, key_of, same_key}
use Rattle.pt_canon.specs.Walked.{recalled}
use Rattle.pt_canon.specs.declared.canon.Canon.{Canon}
use Rattle.pt_canon.proofs.RememberLemmas.{after_recalled, found_stands}
use Rattle.pt_canon.proofs.SteadyLemmas.{and_true}
use Rattle.pt_canon.proofs.walker.Walker.unpaused_answer.Goals as goal

pub returns-in-Some-clause-answer : goal.returns-in-Some-clause-answer
returns-in-Some-clause-answer g c =
    let w = c.args.self.now in
    let peeked = g.K.Peeks.peeked c.args.kernel.now in
    let key = key_of c.args.base.now c.args.path.now c.args.mode in
    let canon = c.in-Some.canon in
    let there : lookup (same_key key) w.remembered ≡ Some canon = ap (λ k. lookup (same_key k) w.remembered) (sym c.in_ok-key.ensures) ∙ sym c.in_ok-found.ensures.answer ∙ c.in-Some.is in
    (found_stands w.table peeked key canon w.remembered (c.requires.agrees.each c.requires.running) there c.args.tags.now).answer

pub returns-in-Some-clause-written : goal.returns-in-Some-clause-written
returns-in-Some-clause-written g c =
    let P : Option Canon → Type 0 = λ found. IfSome found (λ canon. IsWritten canon.guest) in
    subst P c.in-Some.is c.in_ok-found.ensures.written

pub returns-in-Some-clause-remembered : goal.returns-in-Some-clause-remembered
returns-in-Some-clause-remembered g c =
    let w = c.args.self.now in
    let peeked = g.K.Peeks.peeked c.args.kernel.now in
    let key = key_of c.args.base.now c.args.path.now c.args.mode in
    let canon = c.in-Some.canon in
    let there : lookup (same_key key) w.remembered ≡ Some canon = ap (λ k. lookup (same_key k) w.remembered) (sym c.in_ok-key.ensures) ∙ sym c.in_ok-found.ensures.answer ∙ c.in-Some.is in
    let so = found_stands w.table peeked key canon w.remembered (c.requires.agrees.each c.requires.running) there c.args.tags.now in
    c.in_ok-found.ensures.newest ∙ (λ i. recalled {E = NoMemory} w (c.in_ok-key.ensures i) (Ok (c.in-Some.is i)))
    ∙ after_recalled w (is_steady_key (texts_by w.table peeked c.args.tags.now) key) key canon c.requires.running so.steady

pub note-requires : goal.note-requires
note-requires g c =
    let w = c.args.self.now in
    let key = c.in_ok-key.key in
    let still : c.recalled.new.self ≡ w = c.in_ok-found.ensures.newest ∙ ap (λ found. recalled {E = NoMemory} w key (Ok found)) c.in-None.is in
    record {
      running = ap (λ (w : Walking). w.pauses) still ∙ c.requires.running;
      fresh = ap (λ (w : Walking). lookup (same_key key) w.remembered) still ∙ sym c.in_ok-found.ensures.answer ∙ c.in-None.is;
      written = c.in_ok-walked-in-None.ensures.written;
    }

pub returns-in-Some-clause-noted : goal.returns-in-Some-clause-noted
returns-in-Some-clause-noted g c =
    let w = c.args.self.now in
    let peeked = g.K.Peeks.peeked c.args.kernel.now in
    let key = key_of c.args.base.now c.args.path.now c.args.mode in
    let canon = c.in-Some.canon in
    let old = g.K.Peeks.unmet c.args.kernel.now in
    let there : lookup (same_key key) w.remembered ≡ Some canon = ap (λ k. lookup (same_key k) w.remembered) (sym c.in_ok-key.ensures) ∙ sym c.in_ok-found.ensures.answer ∙ c.in-Some.is in
    let so = found_stands w.table peeked key canon w.remembered (c.requires.agrees.each c.requires.running) there c.args.tags.now in
    sym (ap (λ b. old && b) so.steady ∙ and_true old)
