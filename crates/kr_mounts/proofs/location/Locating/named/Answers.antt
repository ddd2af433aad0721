use Rattle.std.proofs.Common.{◌≡◌, true, false, arith, sym}
use Rattle.std.proofs.lemmas.Bool.Decides.{nat_tests}
use Rattle.kr_walk.specs.kr_view.Component.{too_long}
use Rattle.kr_mounts.proofs.SightLemmas.{named_link, named_long, named_none, named_other}
use Rattle.kr_mounts.proofs.location.Locating.named.Goals as goal

pub returns-then-name-gt255 : goal.returns-then-name-gt255
returns-then-name-gt255 c = let long : too_long c.args.name.now ≡ true = grind (arith, nat_tests) in named_long c.args.self.now c.args.at c.args.name.now long

pub returns-in_default : goal.returns-in_default
returns-in_default c = let short : too_long c.args.name.now ≡ false = grind (arith, nat_tests) in named_none c.args.self.now c.args.at c.args.name.now short (sym c.in_default.ensures)

pub returns-in-Some-link_text : goal.returns-in-Some-link_text
returns-in-Some-link_text c =
    let short : too_long c.args.name.now ≡ false = grind (arith, nat_tests) in
    named_link c.args.self.now c.args.at c.args.name.now c.in-Some.inode c.in-Some-link_text.text.now short (sym c.in-Some.ensures) (sym c.in-Some-link_text.ensures)

pub returns-in-None : goal.returns-in-None
returns-in-None c =
    let short : too_long c.args.name.now ≡ false = grind (arith, nat_tests) in
    named_other c.args.self.now c.args.at c.args.name.now c.in-Some.inode c.trees_are_kept.ensures.there short (sym c.in-Some.ensures) (sym c.in-None.ensures)
