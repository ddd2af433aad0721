use Rattle.std.proofs.Common.{◌≡◌, rules}
use Rattle.std.specs.Prelude.{None}
use Rattle.elf_read.specs.Plans.{plan_of}
use Rattle.elf_read.specs.Rules.{first_broken}
use Rattle.elf_read.proofs.Accepted.{planned_sound, planned_in_order}
use Rattle.elf_read.proofs.file.check.Goals as goal

pub returns-clause-sound : goal.returns-clause-sound
returns-clause-sound c =
    let accepted : first_broken c.args.file.now ≡ None = search rules in
    let is : c.new.result ≡ plan_of c.args.file.now = search rules in
    rw is (planned_sound c.args.file.now accepted)

pub returns-clause-ordered : goal.returns-clause-ordered
returns-clause-ordered c =
    let accepted : first_broken c.args.file.now ≡ None = search rules in
    let is : c.new.result ≡ plan_of c.args.file.now = search rules in
    rw is (planned_in_order c.args.file.now accepted)
