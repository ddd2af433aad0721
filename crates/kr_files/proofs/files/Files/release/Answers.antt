use Rattle.std.proofs.Common.{◌∙◌, subst, sym, ap}
use Rattle.kr_files.specs.Files.{released}
use Rattle.kr_files.specs.Sound.{IsSound, kept_of}
use Rattle.kr_files.proofs.CloseLemmas.{released-none, released-some, sound-none, sound-some}
use Rattle.kr_files.proofs.files.Files.release.Goals as goal

pub invariant_of-self : goal.invariant_of-self
invariant_of-self g c =
    subst (λ pipes. IsSound c.lower.new.self.files pipes c.self.inside.last_file c.self.inside.last_pipe) (sym c.end.ensures)
    (sound-some c.self.inside.open c.lower.new.self c.self.inside.pipes c.self.inside.last_file c.self.inside.last_pipe c.args.descriptor c.lower.ensures.files c.lower.ensures.keys c.in-Some.what c.self.invariant (sym c.lower.ensures.ended ∙ c.in-Some.is))

pub invariant_of-self-in_default : goal.invariant_of-self-in_default
invariant_of-self-in_default g c =
    sound-none c.self.inside.open c.lower.new.self c.self.inside.pipes c.self.inside.last_file c.self.inside.last_pipe c.args.descriptor c.lower.ensures.files c.lower.ensures.keys c.self.invariant (sym c.lower.ensures.ended ∙ c.in_default.is)

pub returns-in-Some : goal.returns-in-Some
returns-in-Some g c =
    ap (λ pipes. kept_of c.lower.new.self pipes c.self.inside.last_file c.self.inside.last_pipe) c.end.ensures
    ∙ released-some c.self.inside.open c.lower.new.self c.self.inside.pipes c.self.inside.last_file c.self.inside.last_pipe c.args.descriptor c.lower.ensures.files c.lower.ensures.keys c.in-Some.what c.self.invariant (sym c.lower.ensures.ended ∙ c.in-Some.is)
    ∙ ap (released c.args.descriptor) c.self.view_is

pub returns-in_default : goal.returns-in_default
returns-in_default g c =
    released-none c.self.inside.open c.lower.new.self c.self.inside.pipes c.self.inside.last_file c.self.inside.last_pipe c.args.descriptor c.lower.ensures.files c.lower.ensures.keys (sym c.lower.ensures.ended ∙ c.in_default.is)
    ∙ ap (released c.args.descriptor) c.self.view_is
