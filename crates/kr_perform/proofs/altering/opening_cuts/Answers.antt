use Rattle.std.proofs.Common.{◌∙◌}
use Rattle.law_allowed.specs.pr_base.declared.errno.Errno.TheVariants.{ENOENT}
use Rattle.law_allowed.specs.kr_model.Seen.{Opens, WalkFails}
use Rattle.law_steady.specs.Ahead.{cuts_file}
use Rattle.kr_rows.specs.kr_ops.Meaning.{meaning}
use Rattle.kr_transfer.specs.kr_seen.Told.{opening_told}
use Rattle.kr_perform.proofs.ForetoldLemmas.{opens-at, opens-nowhere}
use Rattle.kr_perform.proofs.altering.opening_cuts.Goals as goal

pub returns-in_default : goal.returns-in_default
returns-in_default g c = λ pid dirfd path mode.
    opens-nowhere g.P.Places.number (g.P.Places.mounts c.args.places.now) pid (meaning c.args.state.now) (cuts_file c.args.state.now.tree c.args.flags) c.args.flags c.args.targets.now.first c.args.targets.now.second c.in_default.is

pub returns-in-Some-opened : goal.returns-in-Some-opened
returns-in-Some-opened g c = λ pid dirfd path mode.
    c.cuts_file.ensures
    ∙ opens-at g.P.Places.number (g.P.Places.mounts c.args.places.now) pid (meaning c.args.state.now) (cuts_file c.args.state.now.tree c.args.flags) c.args.flags c.args.targets.now.first c.args.targets.now.second c.in-Some.target c.in-Some.is
    (Opens (opening_told c.in-Some-opened.opening)) (c.in-Some-opened.ensures pid)

pub returns-in-None : goal.returns-in-None
returns-in-None g c = λ pid dirfd path mode.
    opens-at g.P.Places.number (g.P.Places.mounts c.args.places.now) pid (meaning c.args.state.now) (cuts_file c.args.state.now.tree c.args.flags) c.args.flags c.args.targets.now.first c.args.targets.now.second c.in-Some.target c.in-Some.is
    (WalkFails ENOENT) (c.in-None.ensures pid)
