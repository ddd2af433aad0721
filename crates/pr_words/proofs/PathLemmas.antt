-- The text of PATH, looked for variable by variable.
use Rattle.std.proofs.Common.{◌≡◌, ℕ, zero, suc, ◌+◌, List, [], ◌∷◌, Some, ap, arith, slice_get, ◌∙◌}
use Rattle.std.specs.Prelude.{drop}
use Rattle.std.proofs.lemmas.Option.{same_Some}
use Rattle.pr_words.specs.Command.{or_later, path_of, path_text}

from-place : (env : List (List ℕ)) (k : ℕ) (variable : List ℕ) → slice_get env k ≡ Some variable → path_of (drop k env) ≡ or_later (path_text variable) (path_of (drop (suc k) env))
from-place [] k variable e = absurd cc
from-place (x ∷ env) zero variable e = ap (λ (v : List ℕ). or_later (path_text v) (path_of env)) (same_Some x variable e)
from-place (x ∷ env) (suc k) variable e = from-place env k variable e

pub path-at : (env : List (List ℕ)) (k : ℕ) (variable : List ℕ) → slice_get env k ≡ Some variable → path_of (drop k env) ≡ or_later (path_text variable) (path_of (drop (k + 1) env))
path-at env k variable e =
    let next : suc k ≡ k + 1 = omega arith in
    from-place env k variable e ∙ ap (λ n. or_later (path_text variable) (path_of (drop n env))) next
