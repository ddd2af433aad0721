-- The changes of a call that are made in two states that match.
use Rattle.std.specs.Prelude.{◌≡◌, ℕ, true, IsSome, List, [], ◌∷◌, None}
use Rattle.pt_results.specs.pt_bind.Tags.{TagTable, dropped}
use Rattle.law_places.specs.kr_view.View.{Row, plain}
use Rattle.law_places.specs.kr_calm.Laws.{BreakNone}
use Rattle.kr_core.specs.law_lawful.Laws.{CanAllBeMade}
use Rattle.law_places.specs.kr_model.Applied.{Mounts, all_applied, applied, images}
use Rattle.law_places.specs.kr_model.Bare.{bare_mounts}
use Rattle.law_places.specs.kr_model.Change.{Change}
use Rattle.law_places.specs.kr_model.Lawful.{IsLawful}
use Rattle.law_places.specs.kr_model.State.{Image, State, process}
use Rattle.kr_core.specs.kr_turns.Breaking.{killed_rule}
use Rattle.kr_core.specs.kr_turns.Turn.{killed}
use Rattle.law_places.specs.Changes.{NewPlacesStand}
use Rattle.law_places.specs.Matching.{IsMatch}
use Rattle.law_places.specs.Tagging.{tags_made}
use Rattle.law_places.specs.Keeping.{MovesStayInside, move_nothing}

-- the tags after each change of a call in its turn
abbrev pub all_tags_made : List Row → Mounts ℕ → ℕ → State ℕ Image → List Change → TagTable → TagTable
all_tags_made table mounts pid s [] tags = tags
all_tags_made table mounts pid s (c ∷ cs) tags = all_tags_made table mounts pid (applied images mounts pid c s) cs (tags_made table mounts pid s c tags)

-- where changes break none of the calm rules on changes, and can all be made in both states, each new place stands before it comes into
-- use, and each name that moves stays inside, the same changes keep the match; the mounts that they name are each machine's own
abbrev pub MovesKeepMatches : Type 0
MovesKeepMatches =
    (table : List Row) (mounts others : Mounts ℕ) (pid : ℕ) (cs : List Change) (s w : State ℕ Image) (tags : TagTable) → bare_mounts mounts ≡ bare_mounts others
    → MovesStayInside table mounts pid s cs → BreakNone images mounts pid table cs s → NewPlacesStand table mounts pid s cs → CanAllBeMade (λ m. m) table mounts pid s cs → CanAllBeMade (λ m. m) plain others pid w cs
    → IsLawful (λ m. m) plain w → IsMatch table tags s w → IsMatch table (all_tags_made table mounts pid s cs tags) (all_applied images mounts pid cs s) (all_applied images others pid cs w)

-- so do those that move no name
abbrev pub ChangesKeepMatches : Type 0
ChangesKeepMatches =
    (table : List Row) (mounts others : Mounts ℕ) (pid : ℕ) (cs : List Change) (s w : State ℕ Image) (tags : TagTable) → bare_mounts mounts ≡ bare_mounts others
    → move_nothing cs ≡ true → BreakNone images mounts pid table cs s → NewPlacesStand table mounts pid s cs → CanAllBeMade (λ m. m) table mounts pid s cs → CanAllBeMade (λ m. m) plain others pid w cs
    → IsLawful (λ m. m) plain w → IsMatch table tags s w → IsMatch table (all_tags_made table mounts pid s cs tags) (all_applied images mounts pid cs s) (all_applied images others pid cs w)

-- a process that dies of a signal, without breaking a calm rule
abbrev pub DeathsKeepMatches : Type 0
DeathsKeepMatches =
    (table : List Row) (pid signal : ℕ) (s w : State ℕ Image) (tags : TagTable) → IsSome (process pid s) → killed_rule 1 table pid signal s ≡ None → IsLawful (λ m. m) plain w → IsMatch table tags s w
    → IsMatch table (dropped tags pid) (killed pid signal s) (killed pid signal w)
