-- Scripts lead to programs that are alike where two ways of finding find such along each path; and walks within a length.
use Rattle.std.proofs.Common.{◌≡◌, ◌≤◌, ℕ, zero, suc, Bool, true, false, List, [], ◌∷◌, Option, Some, None, Result, Ok, Err, refl, sym, subst, arith}
use Rattle.std.specs.Bool.{if◌then◌else◌}
use Rattle.kr_first.specs.pr_base.declared.errno.Errno.{Errno}
use Rattle.kr_first.specs.pr_base.declared.errno.Errno.TheVariants.{E2BIG, ELOOP, ENOEXEC}
use Rattle.kr_first.specs.pr_base.declared.path.WalkMode.TheVariants.{Look}
use Rattle.kr_first.specs.kr_calls.Expansion.{Finding, by_interpreter, by_line, expanded, is_script, is_too_big, new_args, runs}
use Rattle.kr_first.specs.kr_calls.Scripts.{script_of}
use Rattle.kr_first.specs.kr_exec.Finding.{program_walk}
use Rattle.kr_first.specs.kr_exec.Interpreters.{if_args_fit, interpreters, paths_behind, paths_by_line, walks_reach}
use Rattle.kr_first.specs.kr_tree.declared.place.Place.{Place}
use Rattle.kr_first.specs.kr_view.Component.{Surroundings}
use Rattle.kr_first.specs.kr_view.Reach.{reach_after}
use Rattle.kr_first.specs.kr_view.declared.target.Reach.{Reach}
use Rattle.kr_first.proofs.kr_view.ReachLemmas.{covers_after}
use Rattle.law_programs.specs.Ending as alike
use Rattle.law_programs.specs.Ending.{EndAlike, ResultsAlike}

-- it holds of all of a list
abbrev pub Each : {A : Type 0} → (A → Type 0) → List A → Type 0
Each Q [] = Unit {0}
Each Q (x ∷ xs) = Q x × Each Q xs

-- ---- two ways of finding programs

module _ {F G : Type 0} (one : Finding F) (other : Finding G) (R : F → G → Type 0) (heads : (f : F) (g : G) → R f g → other.head g ≡ one.head f) (env_bytes : ℕ) where
  abbrev pub FindsAlike : List ℕ → Type 0
  FindsAlike path = ResultsAlike R (one.find path) (other.find path)

  abbrev Ends : ℕ → Type 0
  Ends left =
      (f : F) (g : G) (path : List ℕ) (args : List (List ℕ)) → R f g → Each FindsAlike (interpreters one env_bytes left f path args)
      → ResultsAlike (EndAlike R) (expanded one env_bytes left f path args) (expanded other env_bytes left g path args)

  runs-alike : (left : ℕ) (f : F) (g : G) (args : List (List ℕ)) → R f g → ResultsAlike (EndAlike R) (runs left f args) (runs left g args)
  runs-alike left f g args r = alike.oks (record { file = r; args = refl; scripts = refl })

  -- behind a script, where `again` holds of what is left
  module _ (left : ℕ) (again : Ends left) (path : List ℕ) (args : List (List ℕ)) where
    fits : (f : F) (g : G) → R f g → (interpreter : List ℕ) (new : List (List ℕ)) (c : Bool)
        → Each FindsAlike (paths_behind (interpreters one env_bytes left) (if c then Err E2BIG else Ok (record { file = f; path = interpreter; args = new })))
        → ResultsAlike (EndAlike R) (if c then Err E2BIG else expanded one env_bytes left f interpreter new) (if c then Err E2BIG else expanded other env_bytes left g interpreter new)
    fits f g r interpreter new true each = alike.errs E2BIG
    fits f g r interpreter new false each = again f g interpreter new r each

    found : (interpreter : List ℕ) (new : List (List ℕ)) (x : Result F Errno) (y : Result G Errno) → ResultsAlike R x y
        → Each FindsAlike (paths_behind (interpreters one env_bytes left) (if_args_fit env_bytes interpreter new x))
        → ResultsAlike (EndAlike R) (by_interpreter (expanded one env_bytes left) env_bytes interpreter new x) (by_interpreter (expanded other env_bytes left) env_bytes interpreter new y)
    found interpreter new _ _ (alike.errs e) each = alike.errs e
    found interpreter new _ _ (alike.oks {a = f} {b = g} r) each = fits f g r interpreter new (is_too_big env_bytes new) each

    line : (o : Option (List ℕ × List ℕ)) → Each FindsAlike (paths_by_line one (interpreters one env_bytes left) env_bytes path args o)
        → ResultsAlike (EndAlike R) (by_line one (expanded one env_bytes left) env_bytes path args o) (by_line other (expanded other env_bytes left) env_bytes path args o)
    line None each = alike.errs ENOEXEC
    line (Some l) each = found l.0 (new_args l.0 l.1 path args) (one.find l.0) (other.find l.0) each.0 each.1

    script : (f : F) (g : G) → R f g → (b : Bool)
        → Each FindsAlike (if b then paths_by_line one (interpreters one env_bytes left) env_bytes path args (script_of (one.head f)) else [])
        → ResultsAlike (EndAlike R) (if b then by_line one (expanded one env_bytes left) env_bytes path args (script_of (one.head f)) else runs (suc left) f args)
        (if b then by_line other (expanded other env_bytes left) env_bytes path args (script_of (one.head f)) else runs (suc left) g args)
    script f g r true each = line (script_of (one.head f)) each
    script f g r false each = runs-alike (suc left) f g args r

  last : (f : F) (g : G) (args : List (List ℕ)) → R f g → (b : Bool) → ResultsAlike (EndAlike R) (if b then Err ELOOP else runs zero f args) (if b then Err ELOOP else runs zero g args)
  last f g args r true = alike.errs ELOOP
  last f g args r false = runs-alike zero f g args r

  pub scripts-end : (left : ℕ) → Ends left
  unfolding expanded interpreters
  scripts-end zero f g path args r each =
      subst (λ (h : List ℕ). ResultsAlike (EndAlike R) (if is_script (one.head f) then Err ELOOP else runs zero f args) (if is_script h then Err ELOOP else runs zero g args)) (sym (heads f g r))
      (last f g args r (is_script (one.head f)))
  scripts-end (suc left) f g path args r each =
      subst
      (λ (h : List ℕ). ResultsAlike (EndAlike R) (if is_script (one.head f) then by_line one (expanded one env_bytes left) env_bytes path args (script_of (one.head f)) else runs (suc left) f args)
      (if is_script h then by_line other (expanded other env_bytes left) env_bytes path args (script_of h) else runs (suc left) g args)) (sym (heads f g r))
      (script left (scripts-end left) path args f g r (is_script (one.head f)) each)

-- ---- walks within a length

module _ (here : Surroundings) (base : Place ℕ) (most : ℕ) where
  abbrev pub IsShort : List ℕ → Type 0
  IsShort path = (r : Reach) × ((reach_after here Look (program_walk here base path) r).longest ≤ most)

  pub walks-more : (paths : List (List ℕ)) (r : Reach) → r.longest ≤ (walks_reach here base paths r).longest
  walks-more [] r = omega arith
  walks-more (path ∷ paths) r =
      let one = (covers_after here Look (program_walk here base path) r).longest in
      let rest = walks-more paths (reach_after here Look (program_walk here base path) r) in
      omega arith

  pub walks-short : (paths : List (List ℕ)) (r : Reach) → (walks_reach here base paths r).longest ≤ most → Each IsShort paths
  walks-short [] r within = tt
  walks-short (path ∷ paths) r within =
      let more = walks-more paths (reach_after here Look (program_walk here base path) r) in
      ((r, omega arith), walks-short paths (reach_after here Look (program_walk here base path) r) within)

pub each-mapped : {A : Type 0} (P Q : A → Type 0) → ((x : A) → P x → Q x) → (xs : List A) → Each P xs → Each Q xs
each-mapped P Q f [] each = tt
each-mapped P Q f (x ∷ xs) each = (f x each.0, each-mapped P Q f xs each.1)
