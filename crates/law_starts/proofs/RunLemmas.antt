-- The same program runs in the end on both machines.
use Rattle.std.proofs.Common.{◌≡◌, ◌≢◌, ◌≤◌, ◌<◌, ℕ, Bool, true, false, ◌||◌, List, [], length, Option, Some, Result, Ok, Err, refl, sym, ap, subst, ◌∙◌, arith}
use Rattle.std.specs.Prelude.{nat_lt}
use Rattle.std.specs.Bool.{if◌then◌else◌}
use Rattle.std.specs.Option.{unwrap_or}
use Rattle.std.proofs.lemmas.Bool.Decides.{nat_tests}
use Rattle.pr_start.specs.pr_base.Alike.{Alike, OptionAlike, TargetAlike, both, ends, errs, neither}
use Rattle.pr_start.specs.pr_base.Paths.{is_absolute, text_of}
use Rattle.pr_start.specs.pr_base.Texts.{Text}
use Rattle.pr_start.specs.pr_base.WalkFrame.{Target, Trail}
use Rattle.pr_start.specs.pr_base.declared.errno.Errno.{Errno}
use Rattle.pr_start.specs.pr_base.declared.errno.Errno.TheVariants.{E2BIG, ENAMETOOLONG}
use Rattle.pr_start.specs.pr_base.declared.path.WalkMode.TheVariants.{Look}
use Rattle.pr_start.specs.pt_bind.Binding.{host_of, names_of}
use Rattle.pr_start.specs.pt_bind.Tags.{TagTable}
use Rattle.pr_start.specs.pt_canon.Canon.{canon_at, canon_result, ending_of}
use Rattle.pr_start.specs.pt_canon.TextWalk.{TextSurroundings, looking_texts, text_walk}
use Rattle.pr_start.specs.pt_canon.declared.canon.Canon.{Canon}
use Rattle.law_programs.specs.pt_args.Walks.{and_then}
use Rattle.pr_start.specs.pt_script.Expanding.{command_of, ends_of, shown_result}
use Rattle.pr_start.specs.pt_script.Programs.{canon_from, program_from}
use Rattle.pr_start.specs.pt_script.Programs as scripts
use Rattle.pr_start.specs.pt_script.declared.expansion.Expanded.{Expanded as Shown}
use Rattle.pr_start.specs.pt_script.declared.program.Program.{Program}
use Rattle.pr_start.specs.kr_calls.Expansion.{Expanded, bytes_with_ends, expanded, is_script, is_too_big, most_scripts}
use Rattle.pr_start.specs.kr_exec.Exec.{are_too_big, exec_reach}
use Rattle.pr_start.specs.kr_exec.Finding.{if_program, program_at, program_walk}
use Rattle.pr_start.specs.kr_exec.Interpreters.{interpreters, programs, told_program, walks_reach}
use Rattle.law_programs.specs.kr_first.Starting.{around, found_reach, is_walked, path_errno, plan_reach}
use Rattle.pr_start.specs.kr_inode.declared.user.User.{User}
use Rattle.law_turns.specs.kr_model.Walks as kernel
use Rattle.pr_start.specs.kr_tree.Tree.{Tree}
use Rattle.pr_start.specs.kr_tree.declared.place.Place.{Place}
use Rattle.pr_start.specs.kr_view.Answers.{told}
use Rattle.pr_start.specs.kr_view.Component.{Namespace, Surroundings}
use Rattle.pr_start.specs.kr_view.Reach.{reach_after}
use Rattle.pr_start.specs.kr_view.View.{Row}
use Rattle.pr_start.specs.kr_view.Walk.{PlaceTarget, looking, place_walk}
use Rattle.pr_start.specs.kr_view.declared.target.Reach.{Reach}
use Rattle.pr_start.specs.kr_view.declared.target.Target.{Target as Found}
use Rattle.pr_start.proofs.kr_view.ReachLemmas.{covers_after}
use Rattle.pr_start.specs.pt_first.GuestStart.{base_of, handed, if_short, root_text, run_with}
use Rattle.pr_start.specs.pt_first.Laws.{first_texts}
use Rattle.law_turns.specs.law_walks.Settled.{IsSettled, host_text}
use Rattle.law_turns.specs.law_walks.Standing.{FoundStands, likeness}
use Rattle.law_programs.specs.Ending.{EndAlike, ResultsAlike}
use Rattle.law_starts.specs.Programs.{IsSameProgram}
use Rattle.law_programs.specs.Ending as alike
use Rattle.law_starts.specs.Running.{IsSameRun, RunsAgree, run_at}
use Rattle.law_starts.specs.Spaces.{first_space}
use Rattle.law_starts.specs.Working.{StandsAt}
use Rattle.law_starts.proofs.WellLemmas.{Holds, runs-well}
use Rattle.law_starts.proofs.LengthLemmas.{found-short}
use Rattle.law_starts.proofs.ProgramLemmas.{absolute-walk, programs-agree}
use Rattle.law_starts.proofs.SceneLemmas.{look-finds, spelled, walk-alike}
use Rattle.law_programs.proofs.EndLemmas.{walks-more}
use Rattle.law_starts.proofs.ScriptLemmas.{scripts-agree}

-- both tests of what is given
first-fits : (a b : Bool) → (a || b) ≡ false → a ≡ false
first-fits true b e = e
first-fits false b e = refl

second-fits : (a b : Bool) → (a || b) ≡ false → b ≡ false
second-fits true b e = absurd cc
second-fits false b e = e

-- ---- what is reached grows

module _ (table : List Row) (tree : Tree) (user : User) (base : Place ℕ) (path : List ℕ) (args env : List (List ℕ)) where
  found-more : (x : Result PlaceTarget Errno) (r : Reach) → r.longest ≤ (found_reach table tree user base path args env x r).longest
  found-more (Err e) r = omega arith
  found-more (Ok target) r = by (are_too_big args env)
    where
      by : (c : Bool) → r.longest ≤ (if c then r else walks_reach (around table tree user) base (interpreters (programs (around table tree user) base) (bytes_with_ends env) most_scripts (told target) path args) r).longest
      by true = omega arith
      by false = walks-more (around table tree user) base 0 (interpreters (programs (around table tree user) base) (bytes_with_ends env) most_scripts (told target) path args) r

  pub plan-more : (r : Reach) → r.longest ≤ (plan_reach table tree user base path args env r).longest
  plan-more r = by (is_walked path)
    where
      by : (b : Bool) → r.longest ≤ (if b then found_reach table tree user base path args env (program_at (around table tree user) base path) (reach_after (around table tree user) Look (program_walk (around table tree user) base path) r) else r).longest
      by true =
          let one = (covers_after (around table tree user) Look (program_walk (around table tree user) base path) r).longest in
          let rest = found-more (program_at (around table tree user) base path) (reach_after (around table tree user) Look (program_walk (around table tree user) base path) r) in
          omega arith
      by false = omega arith

module _ (table : List Row) (tree : Tree) (user : User) (tags : TagTable) (base : Place ℕ) (working path : List ℕ) (args env : List (List ℕ)) (most : ℕ) (r : Reach) (set : IsSettled (first_space table tree user)) (at : StandsAt table tree user base working) (few : most < 4096)
    (some : args ≢ []) where
  abbrev space : Namespace
  space = first_space table tree user

  abbrev here : Surroundings
  here = around table tree user

  abbrev texts : TextSurroundings
  texts = first_texts table tree user tags

  abbrev w : Text
  w = at.text

  abbrev walked : Reach
  walked = reach_after here Look (program_walk here base path) r

  abbrev R : Found ℕ → Program → Type 0
  R = IsSameProgram table tree user most

  abbrev Same : Expanded (Found ℕ) → Shown → Type 0
  Same = IsSameRun table tree user most env

  -- ---- the path's own host text

  canon-handed : canon_from texts path (base_of working path) ≡ canon_result texts.bindings Look (text_walk texts Look w path).answer
  canon-handed = by (is_absolute path) refl
    where
      by : (b : Bool) → is_absolute path ≡ b → canon_from texts path (if b then root_text else working) ≡ canon_result texts.bindings Look (text_walk texts Look w path).answer
      by true e = ap (λ (trail : Trail Text Text). canon_result texts.bindings Look trail.answer) (absolute-walk (looking_texts texts) Look (names_of root_text) w path e)
      by false e = ap (λ t. canon_result texts.bindings Look (text_walk texts Look t path).answer) (ap names_of at.written ∙ spelled table tree user tags set base w at.stands)

  -- it is handed over where the walk ends, and else the walk's error is told
  abbrev HandedAs : Result PlaceTarget Errno → Type 0
  HandedAs (Ok a) = (canon : Canon) × (handed texts working path ≡ Ok canon)
  HandedAs (Err e) = handed texts working path ≡ Err e

  handed-as : walked.longest ≤ most → HandedAs (place_walk here Look base path).answer
  handed-as within = by (place_walk here Look base path).answer (text_walk texts Look w path).answer refl refl (walk-alike table tree user tags set base w path at.stands)
    where
      found : (a : PlaceTarget) (b : Target Text Text) → (place_walk here Look base path).answer ≡ Ok a → (text_walk texts Look w path).answer ≡ Ok b → TargetAlike (likeness space Look) a b
          → (f : Option (Place ℕ)) (g : Option Text) → a.found ≡ f → b.found ≡ g → OptionAlike (FoundStands space Look) f g → (canon : Canon) × (handed texts working path ≡ Ok canon)
      found a b ended also k _ _ there reads neither = absurd (look-finds (looking here) base path a ended there)
      found a b ended also k _ _ there reads (both {a = p} {b = u} s) =
          let canon = canon_at texts.bindings (ending_of Look b) in
          let is : handed texts working path ≡ if_short canon = ap (λ (c : Result Canon Errno). and_then c if_short) (canon-handed ∙ ap (canon_result texts.bindings Look) also) in
          let host : canon.host ≡ text_of (host_text space u) = ap (λ o. text_of (host_of texts.bindings (unwrap_or o b.dir))) reads in
          let short = found-short table tree user set tags base w path at.directory a b ended also k p u there reads s.stands most r within in
          let size : length canon.host ≡ length (text_of (host_text space u)) = ap length host in
          (canon, is ∙ ap (λ b. if b then Err ENAMETOOLONG else Ok canon) (fits (length canon.host) (omega arith)))
        where
          fits : (n : ℕ) → n < 4096 → nat_lt 4095 n ≡ false
          fits n l = grind (arith, nat_tests)

      by : (x : Result PlaceTarget Errno) (y : Result (Target Text Text) Errno) → (place_walk here Look base path).answer ≡ x → (text_walk texts Look w path).answer ≡ y → Alike (likeness space Look) x y → HandedAs x
      by _ _ ended also (errs e) = ap (λ (c : Result Canon Errno). and_then c if_short) (canon-handed ∙ ap (canon_result texts.bindings Look) also)
      by _ _ ended also (ends {a = a} {b = b} k) = found a b ended also k a.found b.found refl refl k.found

  -- ---- behind the scripts

  -- what a tracer runs of a program that it found
  abbrev guest_run : Bool → Result Program Errno → Result Shown Errno
  guest_run too_big q =
      if too_big then and_then q (λ program. Err E2BIG)
      else and_then q (λ program. shown_result (ends_of texts (Some working) (bytes_with_ends env) most_scripts (command_of path args program)))

  shown-alike : nat_lt 4096 (length env) ≡ false → (x : Result (Expanded (Found ℕ)) Errno) (y : Result (Expanded Program) Errno) → ResultsAlike (EndAlike R) x y → Holds (programs here base) (bytes_with_ends env) x → ResultsAlike Same x (shown_result y)
  shown-alike few-texts _ _ (alike.errs e) holds = alike.errs e
  shown-alike few-texts _ _ (alike.oks {a = a} {b = b} k) holds =
      alike.oks (record {
        program = b.file;
        same = k.file;
        host = refl;
        index = refl;
        args = sym k.args;
        plain = ap is_script k.file.head ∙ holds.plain;
        fit = ap (λ c. c || is_too_big (bytes_with_ends env) a.args) few-texts ∙ holds.fit;
        some = holds.some;
      })

  ran : (t : Found ℕ) (program : Program) → R t program → (c : Bool) → are_too_big args env ≡ c
      → (if c then walked else walks_reach here base (interpreters (programs here base) (bytes_with_ends env) most_scripts t path args) walked).longest ≤ most
      → ResultsAlike Same (if c then Err E2BIG else expanded (programs here base) (bytes_with_ends env) most_scripts t path args) (guest_run c (Ok program))
  ran t program same true e within = alike.errs E2BIG
  ran t program same false e within =
      shown-alike (first-fits (nat_lt 4096 (length env)) (is_too_big (bytes_with_ends env) args) e) (expanded (programs here base) (bytes_with_ends env) most_scripts t path args)
      (expanded (scripts.programs texts (Some working)) (bytes_with_ends env) most_scripts program path args)
      (scripts-agree table tree user tags base working most (bytes_with_ends env) t program path args walked set at same within)
      (runs-well (programs here base) (bytes_with_ends env) most_scripts t path args (second-fits (nat_lt 4096 (length env)) (is_too_big (bytes_with_ends env) args) e) some)

  of-found : (t : Found ℕ) → (exec_reach here base t path args env walked).longest ≤ most → (x : Result (Found ℕ) Errno) (q : Result Program Errno) → ResultsAlike R x q → x ≡ Ok t
      → ResultsAlike Same (run_at table tree user base path args env t) (guest_run (are_too_big args env) q)
  of-found t within _ _ (alike.errs e) is = absurd cc
  of-found t within _ _ (alike.oks {a = a} {b = b} same) is =
      let is_t : a ≡ t = cc in
      ran t b (subst (λ a. R a b) is_t same) (are_too_big args env) refl within

  of-missing : (e : Errno) (x : Result (Found ℕ) Errno) (q : Result Program Errno) → ResultsAlike R x q → x ≡ Err e → ResultsAlike Same (Err e) (guest_run (are_too_big args env) q)
  of-missing e _ _ (alike.errs d) is = by (are_too_big args env)
    where
      same : d ≡ e
      same = cc

      by : (c : Bool) → ResultsAlike Same (Err e) (guest_run c (Err d))
      by true = subst (λ d. ResultsAlike Same (Err e) (guest_run true (Err d))) (sym same) (alike.errs e)
      by false = subst (λ d. ResultsAlike Same (Err e) (guest_run false (Err d))) (sym same) (alike.errs e)
  of-missing e _ _ (alike.oks k) is = absurd cc

  -- ---- the whole

  abbrev go : PlaceTarget → Result (Expanded (Found ℕ)) Errno
  go target = run_at table tree user base path args env (told target)

  of-program : (x : Result PlaceTarget Errno) → (found_reach table tree user base path args env x walked).longest ≤ most → ResultsAlike R (told_program x) (program_from texts (Some working) path)
      → ResultsAlike Same (kernel.and_then x go) (run_with texts working args env path)
  of-program (Ok target) within p = of-found (told target) within (told_program (Ok target)) (program_from texts (Some working) path) p refl
  of-program (Err e) within p = of-missing e (told_program (Err e)) (program_from texts (Some working) path) p refl

  on-walk : (found_reach table tree user base path args env (program_at here base path) walked).longest ≤ most
      → ResultsAlike Same (kernel.and_then (program_at here base path) go) (and_then (handed texts working path) (λ canon. run_with texts working args env path))
  on-walk within = by (place_walk here Look base path).answer refl (handed-as short)
    where
      short : walked.longest ≤ most
      short = let more = found-more table tree user base path args env (program_at here base path) walked in omega (arith, more, within)

      by : (x : Result PlaceTarget Errno) → (place_walk here Look base path).answer ≡ x → HandedAs x
          → ResultsAlike Same (kernel.and_then (program_at here base path) go) (and_then (handed texts working path) (λ canon. run_with texts working args env path))
      by (Ok a) is h =
          subst (λ (c : Result Canon Errno). ResultsAlike Same (kernel.and_then (program_at here base path) go) (and_then c (λ canon. run_with texts working args env path))) (sym h.1)
          (of-program (program_at here base path) within (programs-agree table tree user tags base working path most r set at short))
      by (Err e) is h =
          subst (λ (c : Result Canon Errno). ResultsAlike Same (kernel.and_then (program_at here base path) go) (and_then c (λ canon. run_with texts working args env path))) (sym h)
          (subst (λ (x : Result PlaceTarget Errno). ResultsAlike Same (kernel.and_then (if_program tree user x) go) (Err e)) (sym is) (alike.errs e))

  pub agree : (b : Bool) → (if b then found_reach table tree user base path args env (program_at here base path) walked else r).longest ≤ most
      → ResultsAlike Same (kernel.and_then (if b then program_at here base path else Err (path_errno path)) go)
      (if b then and_then (handed texts working path) (λ canon. run_with texts working args env path) else Err (path_errno path))
  agree true within = on-walk within
  agree false within = alike.errs (path_errno path)

pub runs-agree : RunsAgree
runs-agree table tree user tags base working path args env most r set at few some within = agree table tree user tags base working path args env most r set at few some (is_walked path) within
