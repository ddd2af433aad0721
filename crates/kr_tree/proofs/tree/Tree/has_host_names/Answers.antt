use Rattle.std.proofs.Common.{subst}
use Rattle.kr_tree.specs.Names.{NamedHaveHostNames, StandingHaveHostNames, HostNamesLead}
use Rattle.kr_tree.proofs.NameLemmas.{named-host_name, standing-host_name, host_names-lead}
use Rattle.kr_tree.proofs.tree.Tree.has_host_names.Goals as goal

pub returns-clause-named : goal.returns-clause-named
returns-clause-named c = subst (λ t. NamedHaveHostNames t) c.self.view_is (named-host_name _ c.self.invariant.sound)

pub returns-clause-lead : goal.returns-clause-lead
returns-clause-lead c = subst (λ t. HostNamesLead t) c.self.view_is (host_names-lead _ c.self.invariant.sound)

pub returns-clause-standing : goal.returns-clause-standing
returns-clause-standing c = subst (λ t. StandingHaveHostNames t) c.self.view_is (standing-host_name _ c.self.invariant.sound)
