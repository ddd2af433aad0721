use Rattle.std.proofs.Common.{◌≡◌, ◌∙◌, ap, sym, cond, true}
use Rattle.std.specs.FinMap as map
use Rattle.kr_tree.specs.pr_base.Maps.{changed}
use Rattle.kr_files.specs.StoredPipes.{writer_open, without_reader}
use Rattle.kr_tree.proofs.pr_base.MapLemmas.{changed-some, changed-none}
use Rattle.kr_tree.proofs.pr_base.BTreeLemmas.{get-view, written, untouched}
use Rattle.kr_files.proofs.pipes.Pipes.end_reader.Goals as goal

pub returns-in-Some : goal.returns-in-Some
returns-in-Some c =
    let open_ : writer_open c.args.number c.args.self.now ≡ true = sym c.has_writer.ensures ∙ c.if-not-has_writer.false in
    let found = sym (get-view c.self.inside.pipes.entries c.args.self.now c.args.number c.self.view_is) ∙ sym c.in-Some.ensures.value in
    written c.self.inside.pipes (c.get_mut.follows.lender c.end_reader.new.self) c.args.self.now c.args.number c.in-Some.pipe.now c.end_reader.new.self c.self.view_is c.in-Some.ensures.value (c.get_mut.follows.holds c.end_reader.new.self).3
    ∙ ap (map.insert c.args.self.now c.args.number) c.end_reader.ensures
    ∙ sym (changed-some c.args.self.now c.args.number without_reader c.in-Some.pipe.now found)
    ∙ sym (ap (λ b. cond b (changed c.args.self.now c.args.number without_reader) (map.remove c.args.self.now c.args.number)) open_)

pub returns-in_default : goal.returns-in_default
returns-in_default c =
    let open_ : writer_open c.args.number c.args.self.now ≡ true = sym c.has_writer.ensures ∙ c.if-not-has_writer.false in
    let none = sym (get-view c.self.inside.pipes.entries c.args.self.now c.args.number c.self.view_is) ∙ sym c.in_default.ensures.value in
    untouched c.self.inside.pipes c.get_mut.follows.lender-at-none c.args.self.now c.self.view_is c.get_mut.follows.holds-at-none
    ∙ sym (changed-none c.args.self.now c.args.number without_reader none)
    ∙ sym (ap (λ b. cond b (changed c.args.self.now c.args.number without_reader) (map.remove c.args.self.now c.args.number)) open_)
