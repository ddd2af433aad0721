use Rattle.std.proofs.Common.{◌≡◌, ◌∷◌, ℕ, All, sym, ap, subst, ◌∙◌}
use Rattle.std.proofs.lemmas.List.Elements.{All-head, All-tail}
use Rattle.std.proofs.lemmas.Result.{IfOk-weaker}
use Rattle.pt_bind.specs.pr_base.Parts.{parts_left}
use Rattle.pt_bind.specs.pr_base.Paths.{IsPart, parts_of}
use Rattle.kr_walk.specs.kr_tree.Tree.{Tree}
use Rattle.kr_walk.specs.kr_view.View.{Point}
use Rattle.kr_mounts.specs.Growth.{Same}
use Rattle.kr_mounts.specs.Points.{Left, way}
use Rattle.kr_mounts.specs.Stored.{table_of}
use Rattle.kr_mounts.specs.Ways.{IsEnded, entering, wanted_of, way_of}
use Rattle.kr_mounts.proofs.StopLemmas.{ended_error}
use Rattle.kr_mounts.proofs.WayLemmas.{grown_onward}
use Rattle.kr_mounts.proofs.point.Way.along_names.Goals as goal

pub loop-next-init : goal.loop-next-init
loop-next-init c =
    let user = c.args.self.now.user in
    let table = table_of c.args.self.now.mounted.now in
    let mount = c.start-foot.ensures.mount in
    let inode = c.start-foot.ensures.inode in
    let read = ap parts_of (c.into_iter-parts.ensures.into_iter_gives ∙ c.components.ensures) in
    record {
      same = λ i. way user table (wanted_of c.args.wanted) c.args.tree.now (mount i) (inode i) c.args.first.now (read i);
      grown = Same;
      numbers = c.requires.numbers;
      part = c.requires.first;
      parts = subst (All IsPart) (sym read) c.requires.others;
    }

pub enter-requires : goal.enter-requires
enter-requires c = c.loop-next.invariant.numbers

pub returns-in_err-foot-clause-point : goal.returns-in_err-foot-clause-point
returns-in_err-foot-clause-point c =
    let user = c.args.self.now.user in
    let table = table_of c.args.self.now.mounted.now in
    let wanted = wanted_of c.args.wanted in
    let l = c.loop-next in
    let go : Tree → ℕ → ℕ → Left Point = λ u m d. way user table wanted u m d c.in-Some.next.now (parts_left c.next.new.self) in
    let is = sym l.invariant.same ∙ ap (way user table wanted l.tree l.foot.mount.number l.foot.inode l.name.now) c.in-Some.ensures.steps in
    ended_error (way_of user table wanted c.args.tree.now (c.args.first.now ∷ parts_of c.args.others.now)) (entering user table l.tree l.foot.mount.number l.foot.inode l.name.now) go c.enter.new.tree
    _ is c.in_err-foot.ensures.entered _ c.from_residual.ensures.0 c.from_residual.ensures.1

pub returns-in_err-foot-clause-grown : goal.returns-in_err-foot-clause-grown
returns-in_err-foot-clause-grown c = grown_onward c.args.self.now.user c.args.tree.now c.loop-next.tree c.enter.new.tree c.loop-next.invariant.grown c.in_err-foot.ensures.grown

pub loop-next-preserved : goal.loop-next-preserved
loop-next-preserved c =
    let user = c.args.self.now.user in
    let table = table_of c.args.self.now.mounted.now in
    let wanted = wanted_of c.args.wanted in
    let l = c.loop-next in
    let go : Tree → ℕ → ℕ → Left Point = λ u m d. way user table wanted u m d c.in-Some.next.now (parts_left c.next.new.self) in
    let is = ap (way user table wanted l.tree l.foot.mount.number l.foot.inode l.name.now) (sym c.in-Some.ensures.steps) ∙ l.invariant.same in
    let parts : All IsPart (c.in-Some.next.now ∷ parts_left c.next.new.self) = subst (All IsPart) c.in-Some.ensures.steps l.invariant.parts in
    record {
      same = sym (c.in_ok-foot.ensures.entered go) ∙ is;
      grown = grown_onward user c.args.tree.now l.tree c.enter.new.tree l.invariant.grown c.in_ok-foot.ensures.grown;
      numbers = c.in_ok-foot.ensures.numbers;
      part = All-head IsPart c.in-Some.next.now (parts_left c.next.new.self) parts;
      parts = All-tail IsPart c.in-Some.next.now (parts_left c.next.new.self) parts;
    }

pub end-requires : goal.end-requires
end-requires c = c.loop-next.invariant.numbers

pub returns-clause-point : goal.returns-clause-point
returns-clause-point c =
    let user = c.args.self.now.user in
    let table = table_of c.args.self.now.mounted.now in
    let wanted = wanted_of c.args.wanted in
    let l = c.loop-next in
    let is = ap (way user table wanted l.tree l.foot.mount.number l.foot.inode l.name.now) (sym c.in_default.ensures.steps.0) ∙ l.invariant.same in
    let P : Left Point → Type 0 = λ left. IsEnded left c.end.new.tree c.end.result in
    subst P is c.end.ensures.point

pub returns-clause-part : goal.returns-clause-part
returns-clause-part c = IfOk-weaker c.end.result (λ p. p.name ≡ c.loop-next.name.now) (λ p. IsPart p.name) (λ p is. subst IsPart (sym is) c.loop-next.invariant.part) c.end.ensures.name

pub returns-clause-grown : goal.returns-clause-grown
returns-clause-grown c = grown_onward c.args.self.now.user c.args.tree.now c.loop-next.tree c.end.new.tree c.loop-next.invariant.grown c.end.ensures.grown
