-- What is known of a state, by its processes.
use Rattle.std.proofs.Common.{◌≡◌, ℕ, Bool, true, false, List, [], ◌∷◌, Some, refl}
use Rattle.std.specs.Prelude.{◌==◌, ◌||◌, map as map_list}
use Rattle.std.specs.Bool.{if◌then◌else◌}
use Rattle.std.specs.List.{find, list_any}
use Rattle.std.specs.Option.{is_some}
use Rattle.kr_ops.specs.kr_model.Asking.{lives}
use Rattle.kr_ops.specs.kr_model.Known.{family_of, known}
use Rattle.kr_ops.specs.kr_model.State.{Image, Process, State, image_layout, is_pid, process}

module _ {T : Type 0} (pid : ℕ) (s : State T Image) where
  -- whether a process lives, by the list of living ones
  pub known-lives : (number : ℕ) → lives (known image_layout pid s) number ≡ is_some (process number s)
  known-lives number = by s.living
    where
      either : (b : Bool) (p : Process T Image) (ps : List (Process T Image)) → list_any (λ f. f.pid == number) (map_list (family_of image_layout) ps) ≡ is_some (find (is_pid number) ps)
          → (b || list_any (λ f. f.pid == number) (map_list (family_of image_layout) ps)) ≡ is_some (if b then Some p else find (is_pid number) ps)
      either true p ps e = refl
      either false p ps e = e

      by : (ps : List (Process T Image)) → list_any (λ f. f.pid == number) (map_list (family_of image_layout) ps) ≡ is_some (find (is_pid number) ps)
      by [] = refl
      by (p ∷ ps) = either (p.pid == number) p ps (by ps)
