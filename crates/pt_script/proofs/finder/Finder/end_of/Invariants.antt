use Rattle.std.proofs.Common.{◌≡◌, ◌-◌, ◌≤◌, length}
use Rattle.std.specs.Option.{option_copied}
use Rattle.pt_args.specs.pt_canon.Canon.{texts_by}
use Rattle.pt_args.specs.pt_canon.Remembering.{WalksOn}
use Rattle.pt_script.specs.Expanding.{ends_unmet}
use Rattle.pt_script.proofs.ChainLemmas.{IsLeft}
use Rattle.pt_script.proofs.finder.Finder.end_of.Given as goal

abbrev pub invariant-scripts : goal.invariant-scripts
invariant-scripts g l = record {
  left : IsLeft (texts_by l.fn.walker.table (g.K.Peeks.peeked l.fn.kernel) l.self.tags.now) (option_copied l.self.working) l.env_bytes l.fn.command l.scripts l.command;
  short : length l.command.program.head ≤ 256;
  walker : WalksOn (g.K.Peeks.peeked l.fn.kernel) l.fn.walker l.walker;
  noted : ends_unmet (texts_by l.fn.walker.table (g.K.Peeks.peeked l.fn.kernel) l.self.tags.now) (option_copied l.self.working) l.env_bytes (5 - l.scripts) l.command (g.K.Peeks.unmet l.kernel) ≡ ends_unmet (texts_by l.fn.walker.table (g.K.Peeks.peeked l.fn.kernel) l.self.tags.now) (option_copied l.self.working) l.env_bytes 5 l.fn.command (g.K.Peeks.unmet l.fn.kernel);
  same : g.K.Peeks.peeked l.kernel ≡ g.K.Peeks.peeked l.fn.kernel;
  rest : g.K.Peeks.kept l.kernel ≡ g.K.Peeks.kept l.fn.kernel;
}

abbrev pub decreases-scripts : goal.decreases-scripts
decreases-scripts g l = 5 - l.scripts
