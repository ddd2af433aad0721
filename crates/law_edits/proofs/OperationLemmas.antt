-- A request with other texts is carried out alike.
use Rattle.std.proofs.Common.{◌≡◌, ◌≢◌, ℕ, List, [], ◌∷◌, Option, Some, None, refl, sym, ap, ◌∙◌}
use Rattle.std.specs.Option.{option_map}
use Rattle.law_walks.specs.kr_calls.PathTable.{path_at}
use Rattle.law_walks.specs.kr_calls.declared.request.Request.{Request}
use Rattle.law_walks.specs.kr_calls.declared.request.Request.TheVariants as call
use Rattle.law_walks.specs.kr_model.Known.{Known}
use Rattle.law_walks.specs.kr_model.Operation.{by_path, operation}
use Rattle.law_walks.specs.kr_model.Reply.{Replying}
use Rattle.law_walks.specs.kr_model.Seen.{Seen}
use Rattle.law_edits.specs.Operations.{HasFirst, OperationsAreSame, PathsAreSwapped, with_path, with_path_if_any}
use Rattle.law_edits.specs.Requests.{NewText, with_first, with_second, with_swaps}

-- ---- its paths

first_of_first : (text : List ℕ) (r : Request) → path_at (with_first text r) 0 ≡ option_map (with_path text) (path_at r 0)
first_of_first text (call.Mkdirat dirfd path permissions) = refl
first_of_first text _ = refl

second_of_first : (text : List ℕ) (r : Request) → path_at (with_first text r) 1 ≡ path_at r 1
second_of_first text (call.Mkdirat dirfd path permissions) = refl
second_of_first text _ = refl

first_of_second : (text : List ℕ) (r : Request) → path_at (with_second text r) 0 ≡ path_at r 0
first_of_second text (call.Mkdirat dirfd path permissions) = refl
first_of_second text _ = refl

second_of_second : (text : List ℕ) (r : Request) → path_at (with_second text r) 1 ≡ option_map (with_path text) (path_at r 1)
second_of_second text (call.Mkdirat dirfd path permissions) = refl
second_of_second text _ = refl

unmapped : {A : Type 0} (o : Option A) → o ≡ option_map (λ x. x) o
unmapped None = refl
unmapped (Some x) = refl

pub paths_are_swapped : PathsAreSwapped
paths_are_swapped = record { one = one; two = two }
  where
    one : (r : Request) (first : NewText) (second : Option NewText) → path_at (with_swaps first second r) 0 ≡ option_map (with_path first.text) (path_at r 0)
    one r first None = first_of_first first.text r
    one r first (Some n) = first_of_second n.text (with_first first.text r) ∙ first_of_first first.text r

    two : (r : Request) (first : NewText) (second : Option NewText) → path_at (with_swaps first second r) 1 ≡ option_map (with_path_if_any second) (path_at r 1)
    two r first None = second_of_first first.text r ∙ unmapped (path_at r 1)
    two r first (Some n) = second_of_second n.text (with_first first.text r) ∙ ap (option_map (with_path n.text)) (second_of_first first.text r)

-- ---- what it comes to

by_some : (path : List ℕ) (here next : Replying) → path ≢ [] → by_path path here next ≡ next
by_some [] here next some = absurd (some refl)
by_some (b ∷ path) here next some = refl

both_some : (path text : List ℕ) (here next : Replying) → path ≢ [] → text ≢ [] → by_path text here next ≡ by_path path here next
both_some path text here next some other = by_some text here next other ∙ sym (by_some path here next some)

one_same : (pid : ℕ) (r : Request) (text : List ℕ) (seen : Seen) (k : Known) → HasFirst r → text ≢ [] → operation pid (with_first text r) seen k ≡ operation pid r seen k
one_same pid (call.Fchownat dirfd path uid gid flags) text seen k some other = both_some path text _ _ (some _ refl) other
one_same pid (call.Newfstatat dirfd path buf flags) text seen k some other = both_some path text _ _ (some _ refl) other
one_same pid _ text seen k some other = refl

two_same : (pid : ℕ) (r : Request) (text : List ℕ) (seen : Seen) (k : Known) → operation pid (with_second text r) seen k ≡ operation pid r seen k
two_same pid (call.Linkat olddir old newdir new flags) text seen k = refl
two_same pid _ text seen k = refl

pub operations_are_same : OperationsAreSame
operations_are_same pid r first None seen k kind some other = one_same pid r first.text seen k some other
operations_are_same pid r first (Some n) seen k kind some other = two_same pid (with_first first.text r) n.text seen k ∙ one_same pid r first.text seen k some other
