use Rattle.std.proofs.Common.{sym, ap, ◌∙◌, refl}
use Rattle.std.specs.Option.{is_some, option_map}
use Rattle.law_lawful.specs.kr_files.Files.{Kept, with_append, on_table, with_opened}
use Rattle.kr_ops.proofs.ChangeLemmas.{named-nowhere, named-at, shut, to_named, nothing-changed, opened-changed}
use Rattle.kr_ops.proofs.ServeLemmas.{keys-by, names-kept, names-still}
use Rattle.kr_ops.proofs.state.State.set_append.Goals as goal

pub returns-in_default-clause-makes : goal.returns-in_default-clause-makes
returns-in_default-clause-makes g c = λ mounts. nothing-changed c.args.self.now c.args.pid c.args.fd (with_append c.args.on) (named-nowhere c.args.self.now c.args.pid c.args.fd (c.index_of.ensures.none c.in_default.is))

pub returns-then-is_some-clause-makes : goal.returns-then-is_some-clause-makes
returns-then-is_some-clause-makes g c = λ mounts.
    opened-changed c.args.self.now c.args.pid c.in-Some.k c.args.fd c.index.result.now (with_append c.args.on) c.set_append.new.self c.requires.pids c.in-Some.ensures.some c.index.ensures c.set_append.ensures

pub returns-then-is_some-clause-served : goal.returns-then-is_some-clause-served
returns-then-is_some-clause-served g c =
    let s = c.args.self.now in
    let keys = ap (λ (f : Kept _). f.keys) c.set_append.ensures ∙ keys-by c.index.result.now.descs c.args.fd (λ x. on_table (with_opened x.number (with_append c.args.on))) s.files (λ x. refl) in
    record {
      files = names-still s.files c.set_append.new.self (names-kept s.files c.set_append.new.self keys) s.living.items c.requires.served.files;
      room = c.requires.served.room;
    }

pub returns-else-is_some-clause-makes : goal.returns-else-is_some-clause-makes
returns-else-is_some-clause-makes g c = λ mounts.
    nothing-changed c.args.self.now c.args.pid c.args.fd (with_append c.args.on)
    (named-at c.args.self.now c.args.pid c.in-Some.k c.args.fd c.index.result.now c.requires.pids c.in-Some.ensures.some c.index.ensures
    ∙ ap (option_map to_named) (shut c.index.result.now.descs c.args.fd (ap is_some (sym c.cloexec.ensures) ∙ sym c.if-is_some.ensures)))
