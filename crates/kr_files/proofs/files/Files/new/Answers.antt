use Rattle.std.proofs.Common.{◌∙◌, ap}
use Rattle.std.specs.FinMap as map
use Rattle.kr_files.specs.StoredPipes.{Pipe}
use Rattle.kr_tree.proofs.pr_base.MapLemmas.{mapped-empty}
use Rattle.kr_files.proofs.CloseLemmas.{same_kept, bytes_of}
use Rattle.kr_files.proofs.SoundLemmas.{sound-empty}
use Rattle.kr_files.proofs.files.Files.new.Goals as goal

pub invariant_of-result : goal.invariant_of-result
invariant_of-result g c = sound-empty c.new.result.files c.new-2.result c.new.ensures.files c.new-2.ensures

pub returns : goal.returns
returns g c =
    same_kept _ _ _ _ c.new.ensures.keys
    (ap (λ files. record { files = files; pipes = bytes_of c.new-2.result; last_file = 0; last_pipe = 0 }) c.new.ensures.files
    ∙ ap (λ pipes. record { files = map.empty; pipes = pipes; last_file = 0; last_pipe = 0 }) (ap bytes_of c.new-2.ensures ∙ mapped-empty (λ p (q : Pipe). q.bytes)))
