use Rattle.std.proofs.Common.{◌∙◌, sym}
use Rattle.kr_files.specs.Descriptors.{with_cloexec}
use Rattle.kr_tree.proofs.pr_base.MapLemmas.{changed-some}
use Rattle.kr_files.proofs.descs.Descs.set_cloexec.Goals as goal

pub returns-in-Some : goal.returns-in-Some
returns-in-Some c = c.replace.ensures ∙ sym (changed-some c.args.self.now c.args.fd (with_cloexec c.args.on) c.in-Some.descriptor (sym c.in-Some.ensures))
