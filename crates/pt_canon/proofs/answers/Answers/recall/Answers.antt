use Rattle.std.proofs.Common.{◌∙◌, ◌≤◌, length, Some, ap, subst, sym}
use Rattle.std.specs.Map.{lookup}
use Rattle.pt_bind.specs.Binding.{IsWritten}
use Rattle.pt_canon.specs.KeptAnswers.{AreKept, entries_in}
use Rattle.pt_canon.specs.Remembering.{most_remembered, same_key, with_newest}
use Rattle.pt_canon.specs.declared.canon.Canon.{Canon}
use Rattle.pt_canon.proofs.AnswerLemmas.{lookup_shown, promoted_kept, promoted_shown, recalled_written}
use Rattle.pt_canon.proofs.answers.Answers.recall.Goals as goal

pub returns-in_default-clause-answer : goal.returns-in_default-clause-answer
returns-in_default-clause-answer c =
    let key = c.args.key.now in
    let es = c.self.inside.cache.entries in
    c.in_default.ensures ∙ lookup_shown key c.bytes-bytes.result.now c.bytes-bytes.ensures.bytes c.bytes-bytes.ensures.read es c.self.invariant.each ∙ ap (lookup (same_key key)) c.self.view_is

pub invariant_of-self : goal.invariant_of-self
invariant_of-self c =
    let es = c.self.inside.cache.entries in
    let few : length es ≤ most_remembered = subst (λ n. length es ≤ n) c.self.invariant.cap c.len-count.ensures.valid.1 in
    let each = promoted_kept c.args.key.now c.bytes-bytes.result.now c.bytes-bytes.ensures.bytes c.bytes-bytes.ensures.read es c.self.invariant.each few c.in-Some.canon.now (sym c.in-Some.ensures) in
    subst AreKept (sym c.promote-there.ensures.entries) (record { cap = c.self.invariant.cap; each = each })

pub returns-clause-answer : goal.returns-clause-answer
returns-clause-answer c =
    let key = c.args.key.now in
    let es = c.self.inside.cache.entries in
    ap Some c.in_ok-copy.ensures ∙ c.in-Some.ensures ∙ lookup_shown key c.bytes-bytes.result.now c.bytes-bytes.ensures.bytes c.bytes-bytes.ensures.read es c.self.invariant.each ∙ ap (lookup (same_key key)) c.self.view_is

pub returns-clause-written : goal.returns-clause-written
returns-clause-written c =
    let es = c.self.inside.cache.entries in
    let few : length es ≤ most_remembered = subst (λ n. length es ≤ n) c.self.invariant.cap c.len-count.ensures.valid.1 in
    let P : Canon → Type 0 = λ canon. IsWritten canon.guest in
    subst P (sym c.in_ok-copy.ensures) (recalled_written c.args.key.now c.bytes-bytes.result.now c.bytes-bytes.ensures.bytes c.bytes-bytes.ensures.read es c.self.invariant.each few c.in-Some.canon.now (sym c.in-Some.ensures))

pub returns-clause-newest : goal.returns-clause-newest
returns-clause-newest c =
    let key = c.args.key.now in
    let es = c.self.inside.cache.entries in
    let few : length es ≤ most_remembered = subst (λ n. length es ≤ n) c.self.invariant.cap c.len-count.ensures.valid.1 in
    ap (λ cache. entries_in cache.entries) c.promote-there.ensures.entries
    ∙ promoted_shown key c.bytes-bytes.result.now c.bytes-bytes.ensures.bytes c.bytes-bytes.ensures.read es c.self.invariant.each few c.in-Some.canon.now (sym c.in-Some.ensures)
    ∙ (λ i. with_newest key (sym c.in_ok-copy.ensures i) (c.self.view_is i))
