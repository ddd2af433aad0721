use Rattle.std.proofs.Common.{◌≡◌, ℕ, Option, None, Ok, sym, ap, subst}
use Rattle.std.specs.Prelude.{IfOk}
use Rattle.std.specs.Option.{option_map}
use Rattle.pt_bind.specs.pr_base.declared.path.WalkMode.TheVariants.{Look}
use Rattle.kr_walk.specs.kr_tree.declared.place.Place.{Place}
use Rattle.kr_walk.specs.kr_view.Answers.{IsAnswer}
use Rattle.kr_walk.specs.kr_view.View.{plain, root_place}
use Rattle.kr_walk.specs.kr_view.Walk.{place_walk}
use Rattle.kr_walk.specs.kr_view.declared.view.HostMount.{HostMount}
use Rattle.kr_mounts.specs.Found.{source_told}
use Rattle.kr_mounts.specs.Sources.{Source, around_table, source_of}
use Rattle.kr_mounts.specs.declared.source.Found.{Found}
use Rattle.kr_mounts.proofs.SourceLemmas.{answer_name, answer_told}
use Rattle.kr_mounts.proofs.source.source_walked.Goals as goal

abbrev number : HostMount → ℕ
number m = 0

pub source_at-requires : goal.source_at-requires
source_at-requires c =
    let around = around_table plain c.args.tree.now c.args.user in
    let P : Place ℕ → Type 0 = λ base. IsAnswer number (place_walk around Look base c.args.path.now).answer (Ok c.in-Ok.target) in
    answer_name number c.args.tree.now c.args.user c.trees_are_kept.ensures.kept.sound c.args.path.now c.in-Ok.target (subst P c.root.ensures c.in-Ok.ensures.answer)

pub returns-in-Ok-clause-source : goal.returns-in-Ok-clause-source
returns-in-Ok-clause-source c =
    let around = around_table plain c.args.tree.now c.args.user in
    let P : Place ℕ → Type 0 = λ base. IsAnswer number (place_walk around Look base c.args.path.now).answer (Ok c.in-Ok.target) in
    let told = answer_told number c.args.tree.now (place_walk around Look (root_place plain) c.args.path.now).answer c.in-Ok.target (subst P c.root.ensures c.in-Ok.ensures.answer) in
    let Q : Option Source → Type 0 = λ s. IfOk c.source_at.result (λ (f : Option Found). option_map source_told f ≡ s) in
    subst Q told c.source_at.ensures.source

pub returns-in-Err-Err-clause-source : goal.returns-in-Err-Err-clause-source
returns-in-Err-Err-clause-source c =
    let around = around_table plain c.args.tree.now c.args.user in
    let at = rw c.in-Err-Err.field-0-is at c.in-Err-Err.ensures.answer in
    let P : Place ℕ → Type 0 = λ base. None ≡ source_of c.args.tree.now (place_walk around Look base c.args.path.now).answer in
    subst P c.root.ensures (sym (ap (source_of c.args.tree.now) at))
