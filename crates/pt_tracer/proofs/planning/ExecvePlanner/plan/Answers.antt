use Rattle.std.proofs.Common.{◌≡◌, ◌∙◌, ◌≤◌, Err, Ok, true, sym, ap, subst}
use Rattle.law_steady.specs.pr_base.declared.bind.Bound.{Bound}
use Rattle.std.specs.Prelude.{List, Option}
use Rattle.law_steady.specs.pt_bind.Binding.{rows_of}
use Rattle.pt_faker.specs.Stopping.{Stopped}
use Rattle.pt_faker.proofs.StopLemmas.{only-then, same-edits, on_ok}
use Rattle.pt_faker.specs.Reading.{Reads, lists_at}
use Rattle.pt_faker.specs.declared.lists.Handed.{Handed}
use Rattle.pt_results.specs.kr_calls.declared.fault.CallFault.{CallFault}
use Rattle.pt_faker.specs.Carrying.{CarriesOut}
use Rattle.pt_results.specs.pt_args.declared.reached.Reached.{Reached}
use Rattle.pt_tracer.proofs.AgreeLemmas.{edited-agrees, edited-walks, walks-then}
use Rattle.pt_tracer.specs.Planning.{expand_with, is_swap, led_at, stack_at, texts_at}
use Rattle.pt_tracer.specs.declared.plan.Led.{Led}
use Rattle.pt_tracer.proofs.PlanLemmas.{if_ok, led-first, lists-expanded, lists-refused, peeks-then, stack-stays}
use Rattle.pt_tracer.proofs.UnmetLemmas.{lent-edits, lists-lost-unmet, lists-unmet, unmet-kept, unswapped-unmet}
use Rattle.pt_script.specs.Expanding.{expanded_unmet}
use Rattle.pt_tracer.proofs.planning.ExecvePlanner.plan.Goals as goal

pub returns-then-not-is_swap-clause-edits : goal.returns-then-not-is_swap-clause-edits
returns-then-not-is_swap-clause-edits g c = record {
  edits = same-edits (g.T.Tracee.stopped c.args.t.now) c.pid-pid.ensures.lives (g.T.Tracee.stopped c.rewritten.new.t) c.in_ok-edit.ensures.process.same;
  rest = c.in_ok-edit.ensures.process.rest;
}

pub expand_with-requires-clause-room : goal.expand_with-requires-clause-room
expand_with-requires-clause-room g c =
    let execve = c.args.self.now in
    let t = g.T.Tracee.stopped c.args.t.now in
    let u = g.T.Tracee.stopped c.read_lists.new.t in
    let was : g.T.Tracee.stopped c.rewritten.new.t ≡ t = c.in_ok-edit.ensures.process.same in
    let swaps : is_swap c.in_ok-edit.field-0.edit ≡ true = sym c.is_swap.ensures ∙ c.if-not-is_swap.false in
    let reads : CarriesOut (lists_at execve.lists.args execve.lists.env) (Ok c.in-Ok.handed) t u = subst (λ (x : Stopped). CarriesOut (lists_at execve.lists.args execve.lists.env) (Ok c.in-Ok.handed) x u) was c.in-Ok.ensures.read in
    let stays : stack_at u ≡ stack_at t = stack-stays (lists_at execve.lists.args execve.lists.env) (Ok c.in-Ok.handed) t u c.pid-pid.ensures.lives reads in
    subst (λ n. 65536 ≤ n) (sym stays) (c.in_ok-edit.ensures.room swaps)

-- the tree is the same behind the lists
pub expand_with-requires-clause-agrees : goal.expand_with-requires-clause-agrees
expand_with-requires-clause-agrees g c =
    let t = g.T.Tracee.stopped c.args.t.now in
    let u = g.T.Tracee.stopped c.read_lists.new.t in
    let edits = (peeks-then c.in_ok-edit.ensures.process (lent-edits c.in-Ok.ensures.edits)).edits in
    edited-agrees c.rewritten.new.walker t u edits c.in_ok-edit.ensures.walker.agrees

pub returns-in-Ok-clause-walker : goal.returns-in-Ok-clause-walker
returns-in-Ok-clause-walker g c =
    let t = g.T.Tracee.stopped c.args.t.now in
    let u = g.T.Tracee.stopped c.read_lists.new.t in
    let edits = (peeks-then c.in_ok-edit.ensures.process (lent-edits c.in-Ok.ensures.edits)).edits in
    walks-then c.args.walker.now c.rewritten.new.walker c.expand_with.new.walker t c.in_ok-edit.ensures.walker (edited-walks c.rewritten.new.walker c.expand_with.new.walker t u edits c.expand_with.ensures.walker)

pub returns-in-Ok-clause-plan : goal.returns-in-Ok-clause-plan
returns-in-Ok-clause-plan g c =
    let execve = c.args.self.now in
    let t = g.T.Tracee.stopped c.args.t.now in
    let u = g.T.Tracee.stopped c.read_lists.new.t in
    let was : g.T.Tracee.stopped c.rewritten.new.t ≡ t = c.in_ok-edit.ensures.process.same in
    let swaps : is_swap c.in_ok-edit.field-0.edit ≡ true = sym c.is_swap.ensures ∙ c.if-not-is_swap.false in
    let reads : CarriesOut (lists_at execve.lists.args execve.lists.env) (Ok c.in-Ok.handed) t u = subst (λ (x : Stopped). CarriesOut (lists_at execve.lists.args execve.lists.env) (Ok c.in-Ok.handed) x u) was c.in-Ok.ensures.read in
    let steps = lists-expanded (rows_of c.args.walker.now.table) execve.planner.tags.now t u execve.planner.request.now execve.path.now execve.lists c.in_ok-edit.field-0.edit c.in-Ok.handed c.in_ok-edit.ensures.edit swaps reads in
    if_ok c.expand_with.result
    (λ plan e. e ∙ ap (λ (l : List Bound). expand_with (rows_of l) execve.planner.tags.now c.in_ok-edit.field-0.edit execve.path.now execve.lists.args c.in-Ok.handed u) c.in_ok-edit.ensures.walker.table ∙ sym steps)
    c.expand_with.ensures.plan

pub returns-in-Ok-clause-edits : goal.returns-in-Ok-clause-edits
returns-in-Ok-clause-edits g c = only-then (peeks-then c.in_ok-edit.ensures.process (lent-edits c.in-Ok.ensures.edits)) c.expand_with.ensures.edits

pub returns-in-Err-Err-clause-plan : goal.returns-in-Err-Err-clause-plan
returns-in-Err-Err-clause-plan g c =
    let execve = c.args.self.now in
    let t = g.T.Tracee.stopped c.args.t.now in
    let u = g.T.Tracee.stopped c.read_lists.new.t in
    let was : g.T.Tracee.stopped c.rewritten.new.t ≡ t = c.in_ok-edit.ensures.process.same in
    let swaps : is_swap c.in_ok-edit.field-0.edit ≡ true = sym c.is_swap.ensures ∙ c.if-not-is_swap.false in
    let told : CarriesOut (lists_at execve.lists.args execve.lists.env) (Err c.in-Err-Err.field-0-0) (g.T.Tracee.stopped c.rewritten.new.t) u =
    subst (λ (f : CallFault). Reads {A = Handed} (Err f) (lists_at execve.lists.args execve.lists.env) (g.T.Tracee.stopped c.rewritten.new.t) u) c.in-Err-Err.field-0-is c.in-Err-Err.ensures.read
    in
    let reads : CarriesOut (lists_at execve.lists.args execve.lists.env) (Err c.in-Err-Err.field-0-0) t u = subst (λ (x : Stopped). CarriesOut (lists_at execve.lists.args execve.lists.env) (Err c.in-Err-Err.field-0-0) x u) was told in
    let steps = lists-refused (rows_of c.args.walker.now.table) execve.planner.tags.now t u execve.planner.request.now execve.path.now execve.lists c.in_ok-edit.field-0.edit c.in-Err-Err.field-0-0 c.in_ok-edit.ensures.edit swaps reads in
    let led = c.led_at-led.ensures ∙ ap (λ (o : Option Reached). led_at execve.planner.request.now o) c.in_ok-edit.ensures.first ∙ led-first (texts_at (rows_of c.args.walker.now.table) execve.planner.tags.now t) t.pid execve.planner.request.now in
    ap (λ (l : Led). (record { edit = c.in_ok-edit.field-0.edit; led = l }, u)) led ∙ sym steps

pub returns-in-Err-Err-clause-edits : goal.returns-in-Err-Err-clause-edits
returns-in-Err-Err-clause-edits g c = peeks-then c.in_ok-edit.ensures.process (lent-edits c.in-Err-Err.ensures.edits)

pub returns-in-Err-NoMemory-clause-edits : goal.returns-in-Err-NoMemory-clause-edits
returns-in-Err-NoMemory-clause-edits g c = peeks-then c.in_ok-edit.ensures.process (lent-edits c.in-Err-NoMemory.ensures.edits)

pub returns-then-not-is_swap-clause-noted : goal.returns-then-not-is_swap-clause-noted
returns-then-not-is_swap-clause-noted g c =
    let execve = c.args.self.now in
    let t = g.T.Tracee.stopped c.args.t.now in
    let stays = sym (ap is_swap c.in_ok-edit.ensures.edit) ∙ sym c.is_swap.ensures ∙ c.if-not-is_swap.true in
    c.in_ok-edit.ensures.noted ∙ sym (unswapped-unmet (rows_of c.args.walker.now.table) execve.planner.tags.now t execve.planner.request.now execve.path.now execve.lists (g.T.Peeks.unmet c.args.t.now) stays)

pub returns-in-Ok-clause-noted : goal.returns-in-Ok-clause-noted
returns-in-Ok-clause-noted g c =
    let execve = c.args.self.now in
    let tags = execve.planner.tags.now in
    let t = g.T.Tracee.stopped c.args.t.now in
    let u = g.T.Tracee.stopped c.read_lists.new.t in
    let old = g.T.Peeks.unmet c.args.t.now in
    let was : g.T.Tracee.stopped c.rewritten.new.t ≡ t = c.in_ok-edit.ensures.process.same in
    let swaps = sym (ap is_swap c.in_ok-edit.ensures.edit) ∙ sym c.is_swap.ensures ∙ c.if-not-is_swap.false in
    let reads : CarriesOut (lists_at execve.lists.args execve.lists.env) (Ok c.in-Ok.handed) t u = subst (λ (x : Stopped). CarriesOut (lists_at execve.lists.args execve.lists.env) (Ok c.in-Ok.handed) x u) was c.in-Ok.ensures.read in
    let before = unmet-kept g.T.Tracee.around g.T.Peeks.unmet g.met.T.Tracee.unmet_is_told c.rewritten.new.t c.read_lists.new.t c.in-Ok.ensures.edits.rest ∙ c.in_ok-edit.ensures.noted in
    on_ok c.expand_with.result
    (λ e. e ∙ (λ i. expanded_unmet (texts_at (rows_of (c.in_ok-edit.ensures.walker.table i)) tags u) u.pid c.in-Ok.handed.env_bytes execve.path.now c.in-Ok.handed.args (before i))
    ∙ sym (lists-unmet (rows_of c.args.walker.now.table) tags t u execve.planner.request.now execve.path.now execve.lists c.in-Ok.handed old swaps reads))
    c.expand_with.ensures.noted

pub returns-in-Err-Err-clause-noted : goal.returns-in-Err-Err-clause-noted
returns-in-Err-Err-clause-noted g c =
    let execve = c.args.self.now in
    let t = g.T.Tracee.stopped c.args.t.now in
    let u = g.T.Tracee.stopped c.read_lists.new.t in
    let was : g.T.Tracee.stopped c.rewritten.new.t ≡ t = c.in_ok-edit.ensures.process.same in
    let swaps = sym (ap is_swap c.in_ok-edit.ensures.edit) ∙ sym c.is_swap.ensures ∙ c.if-not-is_swap.false in
    let told : CarriesOut (lists_at execve.lists.args execve.lists.env) (Err c.in-Err-Err.field-0-0) (g.T.Tracee.stopped c.rewritten.new.t) u =
    subst (λ (f : CallFault). Reads {A = Handed} (Err f) (lists_at execve.lists.args execve.lists.env) (g.T.Tracee.stopped c.rewritten.new.t) u) c.in-Err-Err.field-0-is c.in-Err-Err.ensures.read
    in
    let reads : CarriesOut (lists_at execve.lists.args execve.lists.env) (Err c.in-Err-Err.field-0-0) t u = subst (λ (x : Stopped). CarriesOut (lists_at execve.lists.args execve.lists.env) (Err c.in-Err-Err.field-0-0) x u) was told in
    unmet-kept g.T.Tracee.around g.T.Peeks.unmet g.met.T.Tracee.unmet_is_told c.rewritten.new.t c.read_lists.new.t c.in-Err-Err.ensures.edits.rest ∙ c.in_ok-edit.ensures.noted
    ∙ sym (lists-lost-unmet (rows_of c.args.walker.now.table) execve.planner.tags.now t u execve.planner.request.now execve.path.now execve.lists c.in-Err-Err.field-0-0 (g.T.Peeks.unmet c.args.t.now) swaps reads)
