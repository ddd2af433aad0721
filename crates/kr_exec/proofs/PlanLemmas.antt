-- The limits of what a program is given, and what the walks of a whole plan reach.
use Rattle.std.proofs.Common.{◌≡◌, ◌≤◌, ℕ, ◌+◌, Bool, true, false, ◌||◌, cond, List, Result, Ok, Err, length, refl, sym, ap, ◌∙◌}
use Rattle.std.specs.Prelude.{nat_lt}
use Rattle.std.specs.Result.{IfOk}
use Rattle.kr_walk.specs.kr_tree.declared.place.Place.{Place}
use Rattle.kr_walk.specs.kr_view.declared.target.Target.{Target}
use Rattle.kr_walk.specs.kr_view.declared.target.WalkFault.{WalkFault}
use Rattle.kr_walk.specs.kr_view.declared.target.WalkFault.TheVariants as fault
use Rattle.kr_walk.specs.kr_view.declared.target.Reach.{Reach}
use Rattle.kr_walk.specs.kr_view.Component.{Surroundings}
use Rattle.kr_walk.specs.kr_view.Reach.{Covers}
use Rattle.kr_walk.proofs.kr_view.ReachLemmas.{covers_refl}
use Rattle.kr_calls.specs.Expansion.{bytes_with_ends, is_too_big, most_scripts}
use Rattle.kr_exec.specs.declared.plan.ExecPlan.{ExecPlan}
use Rattle.kr_exec.specs.Answers.{Reaches}
use Rattle.kr_exec.specs.Exec.{are_too_big, exec_reach}
use Rattle.kr_exec.specs.Interpreters.{interpreters, programs, walks_reach}
use Rattle.kr_exec.proofs.ListLemmas.{not_less}
use Rattle.kr_exec.proofs.RunningLemmas.{covers_walks, wanting_reach}

pub fits_both : (args env : List (List ℕ)) (bytes : ℕ) → bytes ≡ bytes_with_ends env → nat_lt 4096 (length env) ≡ false → is_too_big bytes args ≡ false → are_too_big args env ≡ false
fits_both args env bytes is few h = ap (λ b. b || is_too_big (bytes_with_ends env) args) few ∙ ap (λ n. is_too_big n args) (sym is) ∙ h

-- lists within the limits
pub lists_within : (args env : List (List ℕ)) → length args ≤ 4096 → length env ≤ 4096 → bytes_with_ends args + bytes_with_ends env ≤ 131072 → are_too_big args env ≡ false
lists_within args env few_args few_env few =
    fits_both args env (bytes_with_ends env) refl (not_less 4096 (length env) few_env)
    (ap (λ b. b || nat_lt 131072 (bytes_with_ends args + bytes_with_ends env)) (not_less 4096 (length args) few_args) ∙ not_less 131072 (bytes_with_ends args + bytes_with_ends env) few)

covers_if : (around : Surroundings) (base : Place ℕ) (paths : List (List ℕ)) (r : Reach) (b : Bool) → Covers (cond b r (walks_reach around base paths r)) r
covers_if around base paths r true = covers_refl r
covers_if around base paths r false = covers_walks around base paths r

pub covers_exec : (around : Surroundings) (base : Place ℕ) (found : Target ℕ) (path : List ℕ) (args env : List (List ℕ)) (r : Reach) → Covers (exec_reach around base found path args env r) r
covers_exec around base found path args env r =
    covers_if around base (interpreters (programs around base) (bytes_with_ends env) most_scripts found path args) r (are_too_big args env)

pub reach_is : (around : Surroundings) (base : Place ℕ) (found : Target ℕ) (path : List ℕ) (args env : List (List ℕ)) (bytes : ℕ) (r : Reach) → bytes ≡ bytes_with_ends env → are_too_big args env ≡ false
    → walks_reach around base (interpreters (programs around base) bytes most_scripts found path args) r ≡ exec_reach around base found path args env r
reach_is around base found path args env bytes r is h =
    let walks = walks_reach around base (interpreters (programs around base) (bytes_with_ends env) most_scripts found path args) r in
    ap (λ n. walks_reach around base (interpreters (programs around base) n most_scripts found path args) r) is ∙ sym (ap (λ b. cond b r walks) h)

pub reached_is : (around : Surroundings) (base : Place ℕ) (found : Target ℕ) (path given : List ℕ) (args env : List (List ℕ)) (bytes : ℕ) (r new : Reach) → new ≡ walks_reach around base (interpreters (programs around base) bytes most_scripts found given args) r
    → given ≡ path → bytes ≡ bytes_with_ends env → are_too_big args env ≡ false → new ≡ exec_reach around base found path args env r
reached_is around base found path given args env bytes r new reached same is h =
    reached ∙ ap (λ p. walks_reach around base (interpreters (programs around base) bytes most_scripts found p args) r) same ∙ reach_is around base found path args env bytes r is h

-- whatever is answered in the end, all was reached
pub any_reach : {T : Type 0} (whole old new : Reach) (result : Result T WalkFault) → new ≡ whole → Covers whole old → Reaches whole old new result
any_reach whole old new (Ok x) is more = is
any_reach whole old new (Err (fault.Err e)) is more = is
any_reach whole old new (Err fault.NoMemory) is more = wanting_reach whole old new is more

-- what is given to a file that is planned is what was tested
pub lists_fit : {M : Type 0} (args env : List (List ℕ)) (bytes : ℕ) (result : Result (ExecPlan M) WalkFault) → bytes ≡ bytes_with_ends env → nat_lt 4096 (length env) ≡ false → is_too_big bytes args ≡ false
    → IfOk result (λ plan. (plan.args ≡ args) × (plan.env ≡ env)) → IfOk result (λ plan. are_too_big plan.args plan.env ≡ false)
lists_fit args env bytes (Ok plan) is few h same = (λ i. are_too_big (same.0 i) (same.1 i)) ∙ fits_both args env bytes is few h
lists_fit args env bytes (Err why) is few h same = tt
