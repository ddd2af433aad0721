-- Steps are quiet by a part of what a watcher keeps where they are quiet.
use Rattle.std.proofs.Common.{◌≡◌, ℕ, Bool, true, false, not, ◌&&◌, cond, List, [], ◌∷◌, map, refl, sym, ap, subst, ◌∙◌}
use Rattle.std.specs.Prelude.{◌↔◌, ◌==◌}
use Rattle.std.specs.List.{All, filter}
use Rattle.std.proofs.lemmas.List.Elements.{All-cons, All-head, All-nil, All-tail}
use Rattle.kr_core.specs.kr_turns.kr_stops.Stopped.{Stopped}
use Rattle.kr_core.specs.kr_turns.kr_view.View.{Row}
use Rattle.kr_core.specs.kr_turns.Turn.{calling}
use Rattle.kr_core.specs.Moving.{StepKind, Instructions, Entry, Plain, Exit}
use Rattle.kr_loose.specs.Laws.{QuietIsOfParts}
use Rattle.kr_loose.specs.LooseRun.{Step, step_part}
use Rattle.kr_loose.specs.Quiet.{AreUndisturbed, IsQuiet, IsUndisturbed, LeavesFor, MeetNone, is_entry, is_own, met_by, others_since_entry, since_entry}

-- what holds of each element of one list exactly where it holds of its image holds of all or of none
all-mapped : {A B : Type 0} (f : A → B) (P : A → Type 0) (R : B → Type 0) → ((x : A) → P x → R (f x)) → (xs : List A) → All P xs → All R (map f xs)
all-mapped f P R on [] all = All-nil R
all-mapped f P R on (x ∷ xs) all = All-cons R (f x) (map f xs) (on x (All-head P x xs all)) (all-mapped f P R on xs (All-tail P x xs all))

all-unmapped : {A B : Type 0} (f : A → B) (P : A → Type 0) (R : B → Type 0) → ((x : A) → R (f x) → P x) → (xs : List A) → All R (map f xs) → All P xs
all-unmapped f P R back [] all = All-nil P
all-unmapped f P R back (x ∷ xs) all = All-cons P x xs (back x (All-head R (f x) (map f xs) all)) (all-unmapped f P R back xs (All-tail R (f x) (map f xs) all))

module _ {S Q : Type 0} (part : S → Q) where
  abbrev parted : List (Step S) → List (Step Q)
  parted steps = map (step_part part) steps

  -- ---- what others did

  since-parted : (pid : ℕ) (steps : List (Step S)) → since_entry pid (parted steps) ≡ parted (since_entry pid steps)
  since-parted pid [] = refl
  since-parted pid (s ∷ steps) = by (is_own pid s && is_entry s.kind) (since-parted pid steps)
    where
      by : (b : Bool) → since_entry pid (parted steps) ≡ parted (since_entry pid steps) → cond b [] (step_part part s ∷ since_entry pid (parted steps)) ≡ parted (cond b [] (s ∷ since_entry pid steps))
      by true rest = refl
      by false rest = ap (λ (l : List (Step Q)). step_part part s ∷ l) rest

  not-own-parted : (pid : ℕ) (steps : List (Step S)) → filter (λ (t : Step Q). not (is_own pid t)) (parted steps) ≡ parted (filter (λ (t : Step S). not (is_own pid t)) steps)
  not-own-parted pid [] = refl
  not-own-parted pid (s ∷ steps) = by (is_own pid s) (not-own-parted pid steps)
    where
      by : (b : Bool) → filter (λ (t : Step Q). not (is_own pid t)) (parted steps) ≡ parted (filter (λ (t : Step S). not (is_own pid t)) steps)
          → cond (not b) (step_part part s ∷ filter (λ (t : Step Q). not (is_own pid t)) (parted steps)) (filter (λ (t : Step Q). not (is_own pid t)) (parted steps))
          ≡ parted (cond (not b) (s ∷ filter (λ (t : Step S). not (is_own pid t)) steps) (filter (λ (t : Step S). not (is_own pid t)) steps))
      by true rest = rest
      by false rest = ap (λ (l : List (Step Q)). step_part part s ∷ l) rest

  others-parted : (pid : ℕ) (steps : List (Step S)) → others_since_entry pid (parted steps) ≡ parted (others_since_entry pid steps)
  others-parted pid steps = ap (λ (l : List (Step Q)). filter (λ (t : Step Q). not (is_own pid t)) l) (since-parted pid steps) ∙ not-own-parted pid (since_entry pid steps)

  call-parted : (pid : ℕ) (kind : StepKind) (steps : List (Step S)) → IsUndisturbed pid kind steps ↔ IsUndisturbed pid kind (parted steps)
  call-parted pid (Instructions done) steps = (λ left. tt, λ left. tt)
  call-parted pid Entry steps = (λ left. tt, λ left. tt)
  call-parted pid (Plain exec) steps = (
    λ left. subst (All (LeavesFor exec)) (sym (others-parted pid steps)) (all-mapped (step_part part) (LeavesFor exec) (LeavesFor exec) (λ s h. h) (others_since_entry pid steps) left),
    λ left. all-unmapped (step_part part) (LeavesFor exec) (LeavesFor exec) (λ s h. h) (others_since_entry pid steps) (subst (All (LeavesFor exec)) (others-parted pid steps) left),
  )
  call-parted pid Exit steps = (λ left. tt, λ left. tt)

  calls-parted : (steps : List (Step S)) → AreUndisturbed steps → AreUndisturbed (parted steps)
  calls-parted [] all = tt
  calls-parted (s ∷ steps) all = (calls-parted steps all.0, (call-parted s.pid s.kind steps).0 all.1)

  calls-joined : (steps : List (Step S)) → AreUndisturbed (parted steps) → AreUndisturbed steps
  calls-joined [] all = tt
  calls-joined (s ∷ steps) all = (calls-joined steps all.0, (call-parted s.pid s.kind steps).1 all.1)

  -- ---- the process directory

  module _ (asks : S → Stopped → Bool) (asked : Q → Stopped → Bool) (same : (x : S) (t : Stopped) → asks x t ≡ asked (part x) t) (marks : ℕ) (table : List Row) where
    met-parted : (kind : StepKind) (s : Step S) → met_by asks marks table kind s ≡ met_by asked marks table kind (step_part part s)
    met-parted (Instructions done) s = refl
    met-parted Entry s = same s.before.watcher (calling marks s.pid s.before.state)
    met-parted (Plain exec) s = refl
    met-parted Exit s = refl

    abbrev HasMetNone : Step S → Type 0
    HasMetNone s = met_by asks marks table s.kind s ≡ false

    abbrev PartHasMetNone : Step Q → Type 0
    PartHasMetNone s = met_by asked marks table s.kind s ≡ false

    quiet-parted : (met_at_start : Bool) (steps : List (Step S)) → IsQuiet asks marks table met_at_start steps ↔ IsQuiet asked marks table met_at_start (parted steps)
    quiet-parted met_at_start steps = (
      λ quiet. record {
        start = quiet.start;
        walks = all-mapped (step_part part) HasMetNone PartHasMetNone (λ s none. sym (met-parted s.kind s) ∙ none) steps quiet.walks;
        calls = calls-parted steps quiet.calls;
      },
      λ quiet. record {
        start = quiet.start;
        walks = all-unmapped (step_part part) HasMetNone PartHasMetNone (λ s none. met-parted s.kind s ∙ none) steps quiet.walks;
        calls = calls-joined steps quiet.calls;
      },
    )

pub quiet-is-of-parts : (S Q : Type 0) → QuietIsOfParts S Q
quiet-is-of-parts S Q part asks asked same marks table met_at_start steps = quiet-parted part asks asked same marks table met_at_start steps
