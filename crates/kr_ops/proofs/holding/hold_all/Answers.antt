use Rattle.std.proofs.Common.{◌≡◌, ◌<◌, arith, subst, sym, Option}
use Rattle.std.specs.Prelude.{IfSome}
use Rattle.law_lawful.specs.kr_tree.Holds.{holds_at}
use Rattle.law_lawful.specs.kr_tree.declared.place.Place.{Place}
use Rattle.law_lawful.specs.kr_files.Descriptors.{meanings}
use Rattle.law_lawful.specs.kr_model.Applied.{held_for}
use Rattle.law_lawful.specs.kr_model.State.{inode_of}
use Rattle.kr_ops.proofs.ForkLemmas.{none-held, next-held, there-for, fits-for}
use Rattle.kr_ops.proofs.holding.hold_all.Goals as goal

pub loop-fd-init : goal.loop-fd-init
loop-fd-init g c = none-held c.args.files.now c.args.descs.now c.args.tree.now

pub hold-requires-clause-there : goal.hold-requires-clause-there
hold-requires-clause-there g c = there-for (meanings c.args.descs.now) c.args.files.now.table c.loop-fd.fd c.args.tree.now c.loop-fd.tree c.place_of-place.result c.loop-fd.invariant
    (subst (λ (o : Option (Place _)). IfSome o (λ p. 0 < holds_at c.args.tree.now (inode_of p.host))) (sym c.place_of-place.ensures) (c.requires.held c.loop-fd.fd))

pub hold-requires-clause-fits : goal.hold-requires-clause-fits
hold-requires-clause-fits g c = fits-for (meanings c.args.descs.now) c.args.files.now.table c.loop-fd.fd c.args.tree.now c.loop-fd.tree c.place_of-place.result c.loop-fd.invariant (omega (arith, c.loop-fd-test.true)) c.requires.fits

pub loop-fd-preserved : goal.loop-fd-preserved
loop-fd-preserved g c = next-held c.args.files.now c.args.descs.now c.loop-fd.fd c.args.tree.now c.loop-fd.tree c.hold.new.tree c.place_of-place.result c.loop-fd.invariant c.place_of-place.ensures c.hold.ensures

pub returns : goal.returns
returns g c =
    let end : c.loop-fd.fd ≡ 1024 = omega (arith, c.loop-fd-test.false) in
    subst (λ n. c.loop-fd.tree ≡ held_for (meanings c.args.descs.now) c.args.files.now.table n c.args.tree.now) end c.loop-fd.invariant
