use Rattle.std.proofs.Common.{◌≡◌, ◌-◌, ℕ}
use Rattle.pt_ident.specs.rv_mem.Actions.{Action}
use Rattle.pt_faker.specs.Stopping.{OnlyEdits}
use Rattle.pt_faker.specs.Carrying.{on_its_memory}
use Rattle.pt_faker.specs.Faking.{behind_list}
use Rattle.pt_faker.proofs.auxiliary.behind_list.Given as goal

abbrev pub invariant-loop-word : goal.invariant-loop-word
invariant-loop-word g l = record {
  goes : (next : ℕ → Action (Unit {0})) → on_its_memory (behind_list (l.fn.most - l._word) l.next next) (g.T.Tracee.stopped l.t) ≡ on_its_memory (behind_list l.fn.most l.fn.at next) (g.T.Tracee.stopped l.fn.t);
  edits : OnlyEdits g.T.Tracee.stopped g.T.Tracee.around l.fn.t l.t;
}
