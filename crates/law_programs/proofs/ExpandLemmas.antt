-- Scripts are expanded alike where programs are found alike.
use Rattle.std.proofs.Common.{◌≡◌, ℕ, zero, suc, Bool, true, false, cond, List, Option, Some, None, Result, Err, refl, sym, ap, subst, ◌∙◌}
use Rattle.kr_first.specs.pr_base.declared.errno.Errno.{Errno}
use Rattle.kr_first.specs.pr_base.declared.errno.Errno.TheVariants.{E2BIG, ENOEXEC, ELOOP}
use Rattle.kr_first.specs.pt_bind.Tags.{TagTable}
use Rattle.law_edits.specs.pt_script.Programs as tracer
use Rattle.law_edits.specs.pt_script.declared.program.Program.{Program}
use Rattle.kr_first.specs.kr_calls.Expansion.{Expanded, Finding, Onward, by_interpreter, by_line, expanded, is_script, is_too_big, new_args, runs}
use Rattle.kr_first.specs.kr_calls.Scripts.{script_of}
use Rattle.kr_first.specs.kr_tree.declared.place.Place.{Place}
use Rattle.kr_first.specs.kr_view.Answers as answers
use Rattle.kr_first.specs.kr_view.View.{Row}
use Rattle.kr_first.specs.kr_view.Walk.{PlaceTarget}
use Rattle.kr_first.specs.kr_view.declared.target.Target.{Target}
use Rattle.kr_first.specs.kr_exec.Interpreters.{told_program}
use Rattle.kr_first.specs.kr_exec.Interpreters as kernel
use Rattle.law_edits.specs.kr_model.ProcessDirectory.{around_of}
use Rattle.law_edits.specs.kr_model.State.{State}
use Rattle.law_edits.specs.law_walks.Scene.{IsMatched}
use Rattle.law_programs.specs.Expanding.{ExpandedAlike, ExpansionsAgree, FindAlike, FoundAlike, IsSameTold, both_fail, both_found, both_refused, both_run}
use Rattle.law_programs.specs.Finding.{ProgramsAlike, WorksAt, no_program, one_program, scene_here, texts_here}
use Rattle.law_programs.proofs.FindLemmas.{programs_are_found_alike}

module _ {F G : Type 0} (Same : F → G → Type 0) (one : Finding F) (other : Finding G) (alike : FindAlike Same one other) (env_bytes : ℕ) where
  abbrev Alike : Result (Expanded F) Errno → Result (Expanded G) Errno → Type 0
  Alike = ExpandedAlike Same

  -- an interpreter, with arguments that fit or not
  module _ (again : Onward F) (next : Onward G) (later : (f : F) (g : G) (path : List ℕ) (args : List (List ℕ)) → Same f g → Alike (again f path args) (next g path args)) where
    with-alike : (b : Bool) (path : List ℕ) (args : List (List ℕ)) (f : F) (g : G) → Same f g → Alike (cond b (Err E2BIG) (again f path args)) (cond b (Err E2BIG) (next g path args))
    with-alike true path args f g same = both_fail E2BIG
    with-alike false path args f g same = later f g path args same

    interpreter-alike : (path : List ℕ) (args : List (List ℕ)) {x : Result F Errno} {y : Result G Errno} → FoundAlike Same x y → Alike (by_interpreter again env_bytes path args x) (by_interpreter next env_bytes path args y)
    interpreter-alike path args (both_refused e) = both_fail e
    interpreter-alike path args (both_found {f} {g} is) = with-alike (is_too_big env_bytes args) path args f g is

    line-alike : (path : List ℕ) (args : List (List ℕ)) (line : Option (List ℕ × List ℕ)) → Alike (by_line one again env_bytes path args line) (by_line other next env_bytes path args line)
    line-alike path args None = both_fail ENOEXEC
    line-alike path args (Some line) = interpreter-alike line.0 (new_args line.0 line.1 path args) (alike.finds line.0)

  runs-alike : (left : ℕ) (f : F) (g : G) (args : List (List ℕ)) → Same f g → Alike (runs left f args) (runs left g args)
  runs-alike left f g args same = both_run (record { file = same; args = refl; scripts = refl })

  pub expanded-alike : (left : ℕ) (f : F) (g : G) (path : List ℕ) (args : List (List ℕ)) → Same f g → Alike (expanded one env_bytes left f path args) (expanded other env_bytes left g path args)
  unfolding expanded
  expanded-alike zero f g path args same = by (one.head f) (other.head g) (alike.heads f g same)
    where
      on : (b : Bool) → Alike (cond b (Err ELOOP) (runs zero f args)) (cond b (Err ELOOP) (runs zero g args))
      on true = both_fail ELOOP
      on false = runs-alike zero f g args same

      by : (head begins : List ℕ) → head ≡ begins → Alike (cond (is_script head) (Err ELOOP) (runs zero f args)) (cond (is_script begins) (Err ELOOP) (runs zero g args))
      by head begins is = subst (λ begins. Alike (cond (is_script head) (Err ELOOP) (runs zero f args)) (cond (is_script begins) (Err ELOOP) (runs zero g args))) is (on (is_script head))
  expanded-alike (suc left) f g path args same = by (one.head f) (other.head g) (alike.heads f g same) (λ line. line-alike (expanded one env_bytes left) (expanded other env_bytes left) (expanded-alike left) path args line)
    where
      Later : Type 0
      Later = (line : Option (List ℕ × List ℕ)) → Alike (by_line one (expanded one env_bytes left) env_bytes path args line) (by_line other (expanded other env_bytes left) env_bytes path args line)

      on : Later → (b : Bool) (line : Option (List ℕ × List ℕ))
          → Alike (cond b (by_line one (expanded one env_bytes left) env_bytes path args line) (runs (suc left) f args)) (cond b (by_line other (expanded other env_bytes left) env_bytes path args line) (runs (suc left) g args))
      on later true line = later line
      on later false line = runs-alike (suc left) f g args same

      by : (head begins : List ℕ) → head ≡ begins → Later
          → Alike (cond (is_script head) (by_line one (expanded one env_bytes left) env_bytes path args (script_of head)) (runs (suc left) f args))
          (cond (is_script begins) (by_line other (expanded other env_bytes left) env_bytes path args (script_of begins)) (runs (suc left) g args))
      by head begins is later =
          subst (λ begins. Alike (cond (is_script head) (by_line one (expanded one env_bytes left) env_bytes path args (script_of head)) (runs (suc left) f args))
          (cond (is_script begins) (by_line other (expanded other env_bytes left) env_bytes path args (script_of begins)) (runs (suc left) g args))) is
          (on later (is_script head) (script_of head))

-- ---- a kernel's and a tracer's

module _ {X : Type 0} (table : List Row) (s : State ℕ X) (caller : ℕ) (tags : TagTable) (matched : IsMatched (scene_here table s caller tags)) (base : Place ℕ) (working : Option (List ℕ)) (works : WorksAt table s caller tags base working) where
  told-alike : {x : Result PlaceTarget Errno} {y : Result Program Errno} → ProgramsAlike table s caller tags x y → FoundAlike (IsSameTold table s caller tags) (told_program x) y
  told-alike (no_program e) = both_refused e
  told-alike (one_program {target} {program} is) = both_found (record { target = target; told = refl; same = is })

  find-alike : FindAlike (IsSameTold table s caller tags) (kernel.programs (around_of table caller s) base) (tracer.programs (texts_here table s caller tags) working)
  find-alike = record {
    finds = λ path. told-alike (programs_are_found_alike X table s caller tags base working path matched works);
    heads = λ f program is. ap (λ (f : Target ℕ). kernel.head_of s.tree f.found) is.told ∙ sym is.same.head;
  }

pub expansions_agree : (X : Type 0) → ExpansionsAgree X
expansions_agree X table s caller tags base working env_bytes left target program path args matched works same =
    expanded-alike (IsSameTold table s caller tags) (kernel.programs (around_of table caller s) base) (tracer.programs (texts_here table s caller tags) working) (find-alike table s caller tags matched base working works) env_bytes left (answers.told target) program path args
    (record { target = target; told = refl; same = same })
