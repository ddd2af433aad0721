-- The pieces of a path of bytes are bytes.
use Rattle.std.proofs.Common.{ℕ, ◌<◌, Bool, true, false, cond, List, [], ◌∷◌, reverse, sym, subst}
use Rattle.std.specs.List.{AllByRecursion, onto_first, slice_split}
use Rattle.std.proofs.lemmas.List.{reverse-append}
use Rattle.pr_top.specs.pr_base.Paths.{is_slash, not_empty}
use Rattle.pr_top.specs.pr_base.Texts.{Text}
use Rattle.pr_top.specs.kr_tree.Lawful.{AreBytes}
use Rattle.law_starts.proofs.law_allowed.PieceLemmas.{all-append}

abbrev pub AreBytesEach : Text → Type 0
AreBytesEach pieces = AllByRecursion AreBytes pieces

onto-first-bytes : (b : ℕ) (pieces : Text) → b < 256 → AreBytesEach pieces → AreBytesEach (onto_first b pieces)
onto-first-bytes b [] own h = ((own, tt), tt)
onto-first-bytes b (piece ∷ pieces) own h = ((own, h.0), h.1)

pub pieces-bytes : (path : List ℕ) → AreBytes path → AreBytesEach (slice_split is_slash path)
pieces-bytes [] is = (tt, tt)
pieces-bytes (b ∷ path) is = by (is_slash b) (pieces-bytes path is.1)
  where
    by : (c : Bool) → AreBytesEach (slice_split is_slash path) → AreBytesEach (cond c ([] ∷ slice_split is_slash path) (onto_first b (slice_split is_slash path)))
    by true h = (tt, h)
    by false h = onto-first-bytes b (slice_split is_slash path) is.0 h

pub some-bytes : (pieces : Text) → AreBytesEach pieces → AreBytesEach (not_empty pieces)
some-bytes [] h = tt
some-bytes ([] ∷ pieces) h = some-bytes pieces h.1
some-bytes ((b ∷ piece) ∷ pieces) h = (h.0, some-bytes pieces h.1)

pub turned : {A : Type 0} (P : A → Type 0) (xs : List A) → AllByRecursion P xs → AllByRecursion P (reverse xs)
turned P [] all = tt
turned P (x ∷ xs) all = subst (λ xs. AllByRecursion P xs) (sym (reverse-append (x ∷ []) xs)) (all-append P (reverse xs) (x ∷ []) (turned P xs all.1) (all.0, tt))
