use Rattle.std.proofs.Common.{◌≡◌, ◌==◌, ◌∙◌, ap, length, rules, vec_len}
use Rattle.pt_bind.specs.pr_base.Paths.{text_of}
use Rattle.pt_bind.proofs.ByteLemmas.{empty_is, not_empty_is}
use Rattle.pt_canon.proofs.GuestLemmas.{text_names, text_none, text_some, text_written}
use Rattle.pt_canon.proofs.guest.Guest.text.Goals as goal

pub returns-then-is_empty-clause-text : goal.returns-then-is_empty-clause-text
returns-then-is_empty-clause-text c =
    let counted : vec_len c.self.inside.bytes ≡ length c.self.inside.bytes.items = search rules in
    let none = empty_is c.self.inside.bytes.items c.is_empty.result (c.is_empty.ensures ∙ ap (λ n. n == 0) counted) c.if-is_empty.true in
    c.as_slice.ensures ∙ text_none c.self.inside.bytes.items c.self.invariant none ∙ ap text_of c.self.view_is

pub returns-then-is_empty-clause-written : goal.returns-then-is_empty-clause-written
returns-then-is_empty-clause-written c =
    let counted : vec_len c.self.inside.bytes ≡ length c.self.inside.bytes.items = search rules in
    let none = empty_is c.self.inside.bytes.items c.is_empty.result (c.is_empty.ensures ∙ ap (λ n. n == 0) counted) c.if-is_empty.true in
    text_written c.self.inside.bytes.items c.self.invariant c.as_slice.result.now (c.as_slice.ensures ∙ text_none c.self.inside.bytes.items c.self.invariant none)

pub returns-else-is_empty-clause-text : goal.returns-else-is_empty-clause-text
returns-else-is_empty-clause-text c =
    let counted : vec_len c.self.inside.bytes ≡ length c.self.inside.bytes.items = search rules in
    let some = not_empty_is c.self.inside.bytes.items c.is_empty.result (c.is_empty.ensures ∙ ap (λ n. n == 0) counted) c.if-is_empty.false in
    c.as_slice-else-is_empty.ensures.value ∙ text_some c.self.inside.bytes.items c.self.invariant some ∙ ap text_of c.self.view_is

pub returns-else-is_empty-clause-written : goal.returns-else-is_empty-clause-written
returns-else-is_empty-clause-written c =
    let counted : vec_len c.self.inside.bytes ≡ length c.self.inside.bytes.items = search rules in
    let some = not_empty_is c.self.inside.bytes.items c.is_empty.result (c.is_empty.ensures ∙ ap (λ n. n == 0) counted) c.if-is_empty.false in
    text_written c.self.inside.bytes.items c.self.invariant c.as_slice-else-is_empty.result.now (c.as_slice-else-is_empty.ensures.value ∙ text_some c.self.inside.bytes.items c.self.invariant some)

pub returns-then-is_empty-clause-names : goal.returns-then-is_empty-clause-names
returns-then-is_empty-clause-names c =
    let counted : vec_len c.self.inside.bytes ≡ length c.self.inside.bytes.items = search rules in
    let none = empty_is c.self.inside.bytes.items c.is_empty.result (c.is_empty.ensures ∙ ap (λ n. n == 0) counted) c.if-is_empty.true in
    text_names c.self.inside.bytes.items c.self.invariant c.as_slice.result.now (c.as_slice.ensures ∙ text_none c.self.inside.bytes.items c.self.invariant none) ∙ c.self.view_is

pub returns-else-is_empty-clause-names : goal.returns-else-is_empty-clause-names
returns-else-is_empty-clause-names c =
    let counted : vec_len c.self.inside.bytes ≡ length c.self.inside.bytes.items = search rules in
    let some = not_empty_is c.self.inside.bytes.items c.is_empty.result (c.is_empty.ensures ∙ ap (λ n. n == 0) counted) c.if-is_empty.false in
    text_names c.self.inside.bytes.items c.self.invariant c.as_slice-else-is_empty.result.now (c.as_slice-else-is_empty.ensures.value ∙ text_some c.self.inside.bytes.items c.self.invariant some) ∙ c.self.view_is
