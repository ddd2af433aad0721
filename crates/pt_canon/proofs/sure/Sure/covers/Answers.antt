use Rattle.std.proofs.Common.{◌≡◌, ◌∙◌, List, ℕ, Option, true, ap, subst, sym}
use Rattle.std.specs.Option.{option_map}
use Rattle.std.specs.Prelude.{IfSome}
use Rattle.pt_bind.specs.pr_base.Paths.{below_root}
use Rattle.pt_bind.specs.pr_base.Texts.{names_below}
use Rattle.pt_bind.specs.Binding.{IsWritten, names_of}
use Rattle.pt_canon.proofs.FrontLemmas.{covered}
use Rattle.pt_canon.proofs.sure.Sure.covers.Goals as goal

pub rest_below-requires-clause-text : goal.rest_below-requires-clause-text
rest_below-requires-clause-text c =
    let P : Option (List ℕ) → Type 0 = λ known. IfSome known IsWritten in
    subst IsWritten (sym c.as_slice.ensures) (subst P c.in-Some.is c.self.invariant)

pub returns-in-Some-rest_below : goal.returns-in-Some-rest_below
returns-in-Some-rest_below c = λ is peeked fronts known.
    let P : Option (List ℕ) → Type 0 = λ known. IfSome known IsWritten in
    let Q : Option (List ℕ) → Type 0 = λ known. IfSome known (λ host. peeked.steady host ≡ true) in
    let parted = c.in-Some-rest_below.ensures ∙ ap (λ sure. option_map below_root (names_below (names_of c.args.host.now) (names_of sure))) c.as_slice.ensures in
    covered peeked fronts c.args.host.now c.in-Some.sure c.requires (subst P c.in-Some.is c.self.invariant) (subst Q (sym c.self.view_is ∙ c.in-Some.is) known.steady) c.in-Some-rest_below.field-0.now parted
