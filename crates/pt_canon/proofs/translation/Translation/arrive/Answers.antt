use Rattle.std.proofs.Common.{◌∙◌, ap, refl, sym}
use Rattle.pt_bind.specs.pr_base.Paths.{Name}
use Rattle.pt_bind.specs.pr_base.WalkFrame.{Links}
use Rattle.pt_canon.specs.ProcessLinks.{above}
use Rattle.pt_canon.specs.Looks.{texts_in, sight_seen}
use Rattle.pt_canon.specs.Steps.{ended, last_trail}
use Rattle.pt_canon.proofs.StepLemmas.{arrived, way_same}
use Rattle.pt_canon.proofs.NotedLemmas.{none_noted}
use Rattle.pt_canon.proofs.translation.Translation.arrive.Goals as goal

pub returns-in-Missing-clause-answer : goal.returns-in-Missing-clause-answer
returns-in-Missing-clause-answer g c = λ dir name is.
    let texts = texts_in c.args.self.now (g.K.Peeks.peeked c.args.kernel.now) in
    way_same texts c.args.terms.mode c.args.terms.left _ _ c.arrive_free.result (ap (λ s. arrived texts c.args.terms dir c.args.at name (sight_seen texts c.args.at s)) (sym c.in-Missing.is)) (c.arrive_free.ensures texts dir name is)

pub returns-in-Directory-clause-answer : goal.returns-in-Directory-clause-answer
returns-in-Directory-clause-answer g c = λ dir name is.
    let texts = texts_in c.args.self.now (g.K.Peeks.peeked c.args.kernel.now) in
    way_same texts c.args.terms.mode c.args.terms.left _ _ c.arrive_found.result (ap (λ s. arrived texts c.args.terms dir c.args.at name (sight_seen texts c.args.at s)) (sym c.in-Directory.is)) (c.arrive_found.ensures texts dir name)

pub returns-in-File-clause-answer : goal.returns-in-File-clause-answer
returns-in-File-clause-answer g c = λ dir name is.
    let texts = texts_in c.args.self.now (g.K.Peeks.peeked c.args.kernel.now) in
    way_same texts c.args.terms.mode c.args.terms.left _ _ c.arrive_found-in-File.result (ap (λ s. arrived texts c.args.terms dir c.args.at name (sight_seen texts c.args.at s)) (sym c.in-File.is)) (c.arrive_found-in-File.ensures texts dir name)

pub returns-in-Links-clause-answer : goal.returns-in-Links-clause-answer
returns-in-Links-clause-answer g c = λ dir name is.
    let texts = texts_in c.args.self.now (g.K.Peeks.peeked c.args.kernel.now) in
    let there = ap (λ t. ended texts c.args.terms.mode c.args.terms.steady (last_trail texts c.args.terms (above t) (Name name) (Links c.args.at c.in-Links.text))) is in
    way_same texts c.args.terms.mode c.args.terms.left _ _ c.arrive_link.result (there ∙ ap (λ s. arrived texts c.args.terms dir c.args.at name (sight_seen texts c.args.at s)) (sym c.in-Links.is)) (c.arrive_link.ensures texts name)

pub returns-then-is_followed-clause-answer : goal.returns-then-is_followed-clause-answer
returns-then-is_followed-clause-answer g c = λ dir name is.
    let texts = texts_in c.args.self.now (g.K.Peeks.peeked c.args.kernel.now) in
    way_same texts c.args.terms.mode c.args.terms.left _ _ c.land.result (ap (λ s. arrived texts c.args.terms dir c.args.at name (sight_seen texts c.args.at s)) (sym c.in-Jumps.is)) (c.land.ensures.answer dir name)

pub returns-in-Missing-clause-noted : goal.returns-in-Missing-clause-noted
returns-in-Missing-clause-noted g c = λ met. let old = g.K.Peeks.unmet c.args.kernel.now in none_noted old old c.arrive_free.result refl

pub returns-in-Directory-clause-noted : goal.returns-in-Directory-clause-noted
returns-in-Directory-clause-noted g c = λ met. let old = g.K.Peeks.unmet c.args.kernel.now in none_noted old old c.arrive_found.result refl

pub returns-in-File-clause-noted : goal.returns-in-File-clause-noted
returns-in-File-clause-noted g c = λ met. let old = g.K.Peeks.unmet c.args.kernel.now in none_noted old old c.arrive_found-in-File.result refl

pub returns-in-Links-clause-noted : goal.returns-in-Links-clause-noted
returns-in-Links-clause-noted g c = λ met. let old = g.K.Peeks.unmet c.args.kernel.now in none_noted old old c.arrive_link.result refl

pub returns-then-is_followed-clause-noted : goal.returns-then-is_followed-clause-noted
returns-then-is_followed-clause-noted g c = λ met. c.land.ensures.noted (met c.in-Jumps.is)
