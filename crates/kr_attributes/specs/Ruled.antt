-- What chown(2) answers by what the rule of owners says.
use Rattle.std.specs.Prelude.{List, []}
use Rattle.kr_seen.specs.pr_base.declared.errno.Errno.TheVariants.{EPERM}
use Rattle.kr_seen.specs.kr_model.Change.{Change}
use Rattle.kr_seen.specs.kr_model.Reply.{Replying, done, refuse}
use Rattle.kr_attributes.specs.declared.owners.Ruling.{Ruling}
use Rattle.kr_attributes.specs.declared.owners.Ruling.TheVariants.{Left, Given, Refused}

abbrev pub ruled : Ruling → List Change → Replying
ruled Left changes = done 0 []
ruled Given changes = done 0 changes
ruled Refused changes = refuse EPERM
