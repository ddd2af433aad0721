use Rattle.std.proofs.Common.{◌≡◌, ◌∷◌, [], List, ℕ, All, sym, ap, subst, ◌∙◌}
use Rattle.std.proofs.lemmas.List.Elements.{All-head, All-tail}
use Rattle.pt_bind.specs.pr_base.Parts.{parts_left}
use Rattle.pt_bind.specs.pr_base.Paths.{IsPart, parts_of}
use Rattle.kr_mounts.specs.Growth.{Same}
use Rattle.kr_mounts.specs.Stored.{table_of}
use Rattle.kr_mounts.specs.Ways.{IsEnded, wanted_of, way_of}
use Rattle.kr_mounts.proofs.CutLemmas.{written_in_turn}
use Rattle.kr_mounts.proofs.point.Way.along.Goals as goal

pub along_names-requires : goal.along_names-requires
along_names-requires c =
    let read : parts_of c.args.location.now ≡ c.in-Some.name.now ∷ parts_left c.next.new.self = ap parts_of (sym (c.into_iter-parts.ensures.into_iter_gives ∙ c.components.ensures)) ∙ c.in-Some.ensures.steps in
    let parts = subst (All IsPart) read (written_in_turn c.args.location.now c.requires.text) in
    record {
      numbers = c.requires.numbers;
      first = All-head IsPart c.in-Some.name.now (parts_left c.next.new.self) parts;
      others = subst (λ b. All IsPart (parts_of b)) (sym c.rest.ensures) (All-tail IsPart c.in-Some.name.now (parts_left c.next.new.self) parts);
    }

pub returns-in-Some-clause-point : goal.returns-in-Some-clause-point
returns-in-Some-clause-point c =
    let read : parts_of c.args.location.now ≡ c.in-Some.name.now ∷ parts_left c.next.new.self = ap parts_of (sym (c.into_iter-parts.ensures.into_iter_gives ∙ c.components.ensures)) ∙ c.in-Some.ensures.steps in
    let whole = ap (λ b. c.in-Some.name.now ∷ parts_of b) c.rest.ensures ∙ sym read in
    let P : List (List ℕ) → Type 0 = λ names. IsEnded (way_of c.args.self.now.user (table_of c.args.self.now.mounted.now) (wanted_of c.args.wanted) c.args.tree.now names) c.along_names.new.tree c.along_names.result in
    subst P whole c.along_names.ensures.point

pub returns-in-None-clause-point : goal.returns-in-None-clause-point
returns-in-None-clause-point c =
    let read : parts_of c.args.location.now ≡ [] = ap parts_of (sym (c.into_iter-parts.ensures.into_iter_gives ∙ c.components.ensures)) ∙ c.in-None.ensures.steps.0 in
    let way = way_of c.args.self.now.user (table_of c.args.self.now.mounted.now) (wanted_of c.args.wanted) c.args.tree.now in
    (ap (λ names. (way names).tree) read, ap (λ names. (way names).answer) read)

pub returns-in-None-clause-grown : goal.returns-in-None-clause-grown
returns-in-None-clause-grown c = Same
