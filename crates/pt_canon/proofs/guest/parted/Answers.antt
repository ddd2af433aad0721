use Rattle.std.proofs.Common.{◌∙◌, ◌+◌, List, ℕ, ap, subst, sym, take}
use Rattle.pt_bind.specs.Binding.{names_of}
use Rattle.pt_bind.proofs.ByteLemmas.{empty_is, not_empty_is}
use Rattle.pt_canon.specs.Kept.{IsParted}
use Rattle.pt_canon.proofs.GuestLemmas.{behind_is, parted, root_names}
use Rattle.pt_canon.proofs.guest.parted.Goals as goal

pub returns-then-is_empty : goal.returns-then-is_empty
returns-then-is_empty c = ap names_of (empty_is c.args.bytes.now c.is_empty.result c.is_empty.ensures c.if-is_empty.true) ∙ root_names

pub returns : goal.returns
returns c =
    let some = not_empty_is c.args.bytes.now c.is_empty.result c.is_empty.ensures c.if-is_empty.false in
    let P : List ℕ → Type 0 = λ name. IsParted c.args.bytes.now (take c.last_slash-end.result c.args.bytes.now) name in
    subst P (sym (behind_is (c.last_slash-end.result + 1) c.args.bytes.now)) (parted c.args.bytes.now c.requires some c.last_slash-end.result c.last_slash-end.ensures.last)
