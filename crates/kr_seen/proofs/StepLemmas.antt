-- What is done to one process, and which process is picked, is told of a state with the numbers of its mounts.
use Rattle.std.proofs.Common.{◌≡◌, ℕ, ◌%◌, Bool, List, length, refl, ap, ◌∙◌}
use Rattle.std.specs.Prelude.{slice_get, map as map_list}
use Rattle.std.specs.List.{filter}
use Rattle.std.specs.Option.{option_map}
use Rattle.std.proofs.lemmas.List.{length-map}
use Rattle.std.proofs.lemmas.Option.{slice_get-map}
use Rattle.kr_ops.specs.kr_model.Applied.{Computing, Mounts, all_applied, with_image, with_living}
use Rattle.kr_ops.specs.kr_model.Change.{Change}
use Rattle.kr_ops.specs.kr_model.State.{Process, State, with_process}
use Rattle.kr_ops.proofs.kr_model.BareLemmas.{kept-mapped}
use Rattle.kr_seen.specs.Numbered.{process_numbered, state_numbered}
use Rattle.kr_seen.specs.MountLaws.{ChoicesAreNumbered, StepsAreNumbered, picked}
use Rattle.kr_seen.specs.Mounts.{mounts_numbered}
use Rattle.kr_seen.proofs.ChangeLemmas.{changes-numbered, living-numbered}

-- the one that is picked of changed elements is the change of the one that is picked
pub picked-map : {A B : Type 0} (f : A → B) (xs : List A) (pick : ℕ) → picked (map_list f xs) pick ≡ option_map f (picked xs pick)
picked-map f xs pick = ap (λ count. slice_get (map_list f xs) (pick % count)) (length-map xs f) ∙ slice_get-map f xs (pick % length xs)

module _ {T X : Type 0} (number : T → ℕ) where
  pub image-numbered : (pid : ℕ) (f : X → X) (s : State T X)
      → state_numbered number (with_living (with_process pid (with_image f)) s) ≡ with_living (with_process pid (with_image f)) (state_numbered number s)
  image-numbered pid f s = living-numbered number pid (with_image f) (with_image f) (λ p. refl) s

  pub then-changes-numbered : (computing : Computing X) (mounts : Mounts T) (pid : ℕ) (f : X → X) (cs : List Change) (s : State T X)
      → state_numbered number (all_applied computing mounts pid cs (with_living (with_process pid (with_image f)) s))
      ≡ all_applied computing (mounts_numbered number mounts) pid cs (with_living (with_process pid (with_image f)) (state_numbered number s))
  then-changes-numbered computing mounts pid f cs s =
      changes-numbered number computing mounts pid cs (with_living (with_process pid (with_image f)) s)
      ∙ ap (all_applied computing (mounts_numbered number mounts) pid cs) (image-numbered pid f s)

  module _ (test : Process T X → Bool) (other : Process ℕ X → Bool) (same : (p : Process T X) → other (process_numbered number p) ≡ test p) (s : State T X) where
    pub passing-numbered : filter other (state_numbered number s).living ≡ map_list (process_numbered number) (filter test s.living)
    passing-numbered = kept-mapped (process_numbered number) test other same s.living

    pub picked-numbered : (pick : ℕ) → picked (filter other (state_numbered number s).living) pick ≡ option_map (process_numbered number) (picked (filter test s.living) pick)
    picked-numbered pick = ap (λ ps. picked ps pick) passing-numbered ∙ picked-map (process_numbered number) (filter test s.living) pick

pub steps-are-numbered : {T X : Type 0} → StepsAreNumbered T X
steps-are-numbered = record {
  of_process = λ number. living-numbered number;
  of_image = λ number. image-numbered number;
  then_changes = λ number. then-changes-numbered number;
}

pub choices-are-numbered : {T X : Type 0} → ChoicesAreNumbered T X
choices-are-numbered = record { passing = λ number. passing-numbered number; picks = λ number. picked-numbered number }
