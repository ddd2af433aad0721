use Rattle.std.proofs.Common.{sym, ap, ◌∙◌}
use Rattle.kr_ops.specs.kr_model.ProcessDirectory.{space_of}
use Rattle.kr_ops.specs.Meaning.{meaning}
use Rattle.kr_seen.specs.Standing.{is_shown_directory}
use Rattle.kr_seen.proofs.FindLemmas.{shown-lives}
use Rattle.kr_seen.proofs.guest.shows_directory.Goals as goal

pub returns-in-Dir : goal.returns-in-Dir
returns-in-Dir g c = λ table.
    c.lives.ensures
    ∙ sym (shown-lives (meaning c.args.state.now) c.in-Dir.pid)
    ∙ sym (ap (is_shown_directory (space_of table (meaning c.args.state.now))) c.in-Dir.is)

pub returns-in-FdDir : goal.returns-in-FdDir
returns-in-FdDir g c = λ table.
    c.lives-in-FdDir.ensures
    ∙ sym (shown-lives (meaning c.args.state.now) c.in-FdDir.pid)
    ∙ sym (ap (is_shown_directory (space_of table (meaning c.args.state.now))) c.in-FdDir.is)
