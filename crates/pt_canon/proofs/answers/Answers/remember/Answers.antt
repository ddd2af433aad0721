use Rattle.std.proofs.Common.{◌≡◌, ◌∙◌, None, ap, subst, sym}
use Rattle.std.specs.Map.{lookup}
use Rattle.pt_canon.specs.KeptAnswers.{AreKept, entries_in}
use Rattle.pt_canon.specs.Remembering.{same_key, with_newest}
use Rattle.pt_canon.proofs.AnswerLemmas.{put_kept, put_shown}
use Rattle.pt_canon.proofs.answers.Answers.remember.Goals as goal

pub invariant_of-self : goal.invariant_of-self
invariant_of-self c = subst AreKept (sym c.in_err-put.ensures.err) c.self.invariant

pub invariant_of-self-2 : goal.invariant_of-self-2
invariant_of-self-2 c =
    let fresh : lookup (same_key c.args.key) (entries_in c.self.inside.cache.entries) ≡ None = ap (lookup (same_key c.args.key)) c.self.view_is ∙ c.requires.fresh in
    let each = put_kept c.self.inside.cache c.self.invariant c.args.key c.into_bytes.result c.into_bytes.ensures.bytes c.into_bytes.ensures.read c.args.canon fresh c.requires.written in
    subst AreKept (sym c.in_ok-put.ensures.entries) (record { cap = c.self.invariant.cap; each = each })

pub returns-clause-ok : goal.returns-clause-ok
returns-clause-ok c =
    let fresh : lookup (same_key c.args.key) (entries_in c.self.inside.cache.entries) ≡ None = ap (lookup (same_key c.args.key)) c.self.view_is ∙ c.requires.fresh in
    ap (λ cache. entries_in cache.entries) c.in_ok-put.ensures.entries
    ∙ put_shown c.self.inside.cache c.self.invariant c.args.key c.into_bytes.result c.into_bytes.ensures.bytes c.into_bytes.ensures.read c.args.canon fresh
    ∙ ap (with_newest c.args.key c.args.canon) c.self.view_is
