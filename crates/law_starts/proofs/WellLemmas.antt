-- What runs in the end is no script, and its arguments fit.
use Rattle.std.proofs.Common.{◌≡◌, ◌≢◌, ℕ, zero, suc, Bool, true, false, List, [], Option, Some, None, Result, Ok, Err, refl}
use Rattle.std.specs.Bool.{if◌then◌else◌}
use Rattle.pr_start.specs.pr_base.declared.errno.Errno.{Errno}
use Rattle.pr_start.specs.pr_base.declared.errno.Errno.TheVariants.{E2BIG, ELOOP}
use Rattle.pr_start.specs.kr_calls.Expansion.{Expanded, Finding, by_interpreter, by_line, expanded, is_script, is_too_big, new_args, runs}
use Rattle.pr_start.specs.kr_calls.Scripts.{script_of}

module _ {F : Type 0} (finding : Finding F) (env_bytes : ℕ) where
  pub record RunsWell (x : Expanded F) : Type 0 where
    pub plain : is_script (finding.head x.file) ≡ false
    pub fit : is_too_big env_bytes x.args ≡ false
    pub some : x.args ≢ []

  abbrev pub Holds : Result (Expanded F) Errno → Type 0
  Holds (Ok x) = RunsWell x
  Holds (Err e) = Unit {0}

  abbrev Well : ℕ → Type 0
  Well left = (f : F) (path : List ℕ) (args : List (List ℕ)) → is_too_big env_bytes args ≡ false → args ≢ [] → Holds (expanded finding env_bytes left f path args)

  module _ (left : ℕ) (again : Well left) (path : List ℕ) (args : List (List ℕ)) where
    fits : (f : F) (interpreter : List ℕ) (new : List (List ℕ)) → new ≢ [] → (c : Bool) → is_too_big env_bytes new ≡ c → Holds (if c then Err E2BIG else expanded finding env_bytes left f interpreter new)
    fits f interpreter new some true e = tt
    fits f interpreter new some false e = again f interpreter new e some

    found : (interpreter : List ℕ) (new : List (List ℕ)) → new ≢ [] → (x : Result F Errno) → Holds (by_interpreter (expanded finding env_bytes left) env_bytes interpreter new x)
    found interpreter new some (Err e) = tt
    found interpreter new some (Ok f) = fits f interpreter new some (is_too_big env_bytes new) refl

    line : (o : Option (List ℕ × List ℕ)) → Holds (by_line finding (expanded finding env_bytes left) env_bytes path args o)
    line None = tt
    line (Some l) = found l.0 (new_args l.0 l.1 path args) (λ none. absurd cc) (finding.find l.0)

    script : (f : F) → is_too_big env_bytes args ≡ false → args ≢ [] → (b : Bool) → is_script (finding.head f) ≡ b
        → Holds (if b then by_line finding (expanded finding env_bytes left) env_bytes path args (script_of (finding.head f)) else runs (suc left) f args)
    script f fit some true e = line (script_of (finding.head f))
    script f fit some false e = record { plain = e; fit = fit; some = some }

  last : (f : F) (args : List (List ℕ)) → is_too_big env_bytes args ≡ false → args ≢ [] → (b : Bool) → is_script (finding.head f) ≡ b → Holds (if b then Err ELOOP else runs zero f args)
  last f args fit some true e = tt
  last f args fit some false e = record { plain = e; fit = fit; some = some }

  pub runs-well : (left : ℕ) → Well left
  unfolding expanded
  runs-well zero f path args fit some = last f args fit some (is_script (finding.head f)) refl
  runs-well (suc left) f path args fit some = script left (runs-well left) path args f fit some (is_script (finding.head f)) refl
