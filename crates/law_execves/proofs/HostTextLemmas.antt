-- Host texts of programs are texts of at most 4,095 bytes, where the walks to them reach none of more than 4,000: the program of a path, and
-- what runs behind scripts.
use Rattle.std.proofs.Common.{◌≡◌, ◌≢◌, ◌≤◌, ℕ, true, false, cond, List, [], length, take, Option, Some, Result, Ok, Err, refl, sym, ap, subst, ◌∙◌, arith}
use Rattle.std.specs.Option.{option_map_or}
use Rattle.law_programs.specs.pr_base.Paths.{is_absolute, text_of}
use Rattle.law_programs.specs.pr_base.Texts.{Text}
use Rattle.law_programs.proofs.pr_base.PathLemmas.{text_absolute}
use Rattle.law_programs.specs.pr_base.declared.errno.Errno.{Errno}
use Rattle.law_programs.specs.pr_base.declared.path.WalkMode.TheVariants.{Look}
use Rattle.law_programs.specs.rv_mem.Memory.{Memory}
use Rattle.law_stops.specs.pt_args.Walks as traced_walks
use Rattle.law_stops.specs.pt_bind.Tags.{TagTable}
use Rattle.law_plans.specs.pt_canon.TextWalk.{TextSurroundings}
use Rattle.law_plans.specs.pt_canon.declared.canon.Canon.{Canon}
use Rattle.law_stops.specs.pt_script.Expanding.{command_of, ends_of, expanded_from, shown_result}
use Rattle.law_stops.specs.pt_script.Programs as tracer
use Rattle.law_stops.specs.pt_script.declared.expansion.Expanded.{Expanded}
use Rattle.law_stops.specs.pt_script.declared.program.Program.{Program}
use Rattle.law_plans.proofs.TextLemmas.{names_text}
use Rattle.law_programs.specs.kr_tree.Lawful.{AreBytes, HasBytes}
use Rattle.law_programs.specs.kr_tree.declared.place.Place.{Place}
use Rattle.law_stops.specs.kr_view.Answers.{told}
use Rattle.law_stops.specs.kr_view.Component.{Surroundings}
use Rattle.law_stops.specs.kr_view.Reach.{reach_after}
use Rattle.law_stops.specs.kr_view.View.{Row}
use Rattle.law_stops.specs.kr_view.Walk.{PlaceTarget}
use Rattle.law_stops.specs.kr_view.declared.target.Reach.{Reach}
use Rattle.law_stops.specs.kr_view.declared.target.Target.{Target}
use Rattle.law_stops.proofs.kr_view.HostReachLemmas.{reached_names}
use Rattle.law_stops.specs.kr_calls.Expansion.{bytes_with_ends, expanded, most_scripts}
use Rattle.law_stops.specs.kr_calls.Expansion.{Expanded as Ended}
use Rattle.law_programs.specs.law_allowed.Texts.{IsText}
use Rattle.law_programs.specs.kr_exec.Finding.{program_at, program_walk}
use Rattle.law_programs.specs.kr_exec.Interpreters.{interpreters, walks_reach}
use Rattle.law_programs.specs.kr_exec.Interpreters as kernel
use Rattle.law_programs.specs.kr_exec.declared.lists.Lists.{Lists}
use Rattle.law_programs.specs.kr_execve.Execution.{execution_reach, found_reach, planned_reach, reach_from}
use Rattle.law_stops.proofs.law_kept.NameLemmas.{text-bytes}
use Rattle.law_stops.specs.kr_model.Applied.{cwd_of}
use Rattle.law_stops.specs.kr_model.ProcessDirectory.{around_of, space_of}
use Rattle.law_stops.specs.kr_model.State.{Image, State}
use Rattle.law_stops.specs.law_walks.Scene.{IsMatched}
use Rattle.law_stops.specs.law_walks.Settled.{host_text}
use Rattle.law_stops.specs.law_walks.States.{scene_of}
use Rattle.law_stops.proofs.law_walks.HandedLemmas.{found_stands}
use Rattle.law_stops.proofs.law_edits.ShortLemmas.{reached_texts_are_short}
use Rattle.law_programs.specs.Executing.{read_by_kernel}
use Rattle.law_programs.specs.Expanding.{IsSameTold}
use Rattle.law_programs.specs.Finding.{ProgramsAlike, WorksAt, no_program, one_program, scene_here, texts_here}
use Rattle.law_programs.specs.Refusing.{IsLedTo, LedAlike, canon_along, no_lead, one_lead}
use Rattle.law_programs.proofs.FindLemmas.{no-program, programs_are_found_alike}
use Rattle.law_programs.proofs.LimitLemmas.{lists_fit}
use Rattle.law_programs.proofs.RefuseLemmas.{empty-program, paths_lead_alike}
use Rattle.law_programs.specs.Ending as alike
use Rattle.law_programs.specs.Ending.{EndAlike, ResultsAlike}
use Rattle.law_programs.proofs.EndLemmas.{FindsAlike, IsShort, each-mapped, scripts-end, walks-short}
use Rattle.law_execves.proofs.ByteLemmas.{reached-bytes}

ok_same : {A : Type 0} {a b : A} → ◌≡◌ {A = Result A Errno} (Ok a) (Ok b) → a ≡ b
ok_same e = cc

err_ok : {A : Type 0} {e : Errno} {a : A} → ◌≡◌ {A = Result A Errno} (Err e) (Ok a) → ⊥
err_ok e = cc

-- what a host text has to be, so that a tracer can put it on the shelf
abbrev pub Fits : List ℕ → Type 0
Fits host = IsText host × (host ≢ []) × (length host ≤ 4095) × AreBytes host

-- what the walks of a call reach, where a program is found and lists are read
module _ (table : List Row) (pid : ℕ) (s : State ℕ Image) (path : List ℕ) (args env : ℕ) (m : Memory) (base : Place ℕ) (at : cwd_of pid s ≡ Some base) (target : PlaceTarget) (found : program_at (around_of table pid s) base path ≡ Ok target)
    (lists : Lists) (read : (read_by_kernel args env m).reply ≡ Ok lists) (r : Reach) where
  abbrev pub along : Surroundings
  along = around_of table pid s

  abbrev pub walked : Reach
  walked = reach_after along Look (program_walk along base path) r

  abbrev pub scripted : Reach
  scripted = walks_reach along base (interpreters (kernel.programs along base) (bytes_with_ends lists.env) most_scripts (told target) path lists.args) walked

  pub scripts_are_reached : execution_reach table pid s path args env m r ≡ scripted
  scripts_are_reached =
      ap (λ o. option_map_or (reach_from table pid s path args env m r) o r) at
      ∙ ap (λ a. found_reach table pid s path args env m base a walked) found
      ∙ ap (λ l. planned_reach table pid s path args env base target l walked) read
      ∙ ap (λ b. cond b walked scripted) (lists_fit args env m lists read)

module _ (table : List Row) (s : State ℕ Image) (pid : ℕ) (tags : TagTable) (base : Place ℕ) (working : Option (List ℕ)) (matched : IsMatched (scene_here table s pid tags)) (works : WorksAt table s pid tags base working) (bytes : HasBytes s.tree) where
  abbrev around : Surroundings
  around = around_of table pid s

  abbrev texts : TextSurroundings
  texts = texts_here table s pid tags

  -- ---- along one path

  module _ (path : List ℕ) (r : Reach) (short : (reach_after around Look (program_walk around base path) r).longest ≤ 4000) where
    fits_led : path ≢ [] → (target : PlaceTarget) (k : Canon) → IsLedTo table s pid tags path base target k → Fits k.host
    fits_led some target k l =
        let walk = l.walked some in
        let h = host_text (space_of table s) l.text in
        let way = (found_stands (scene_of table s pid tags) Look base walk.start path target walk.target_text walk.both l.place l.text l.found walk.found).stands.way in
        let names = reached_names s.tree s.user (space_of table s).finds _ h l.place.host matched.settled.sound matched.processes way in
        let reached = (reached_texts_are_short (scene_of table s pid tags) Look base walk.start path target walk.target_text r walk.both).found l.place l.text l.found walk.found in
        subst Fits (sym l.host) (names_text h names, not_empty h, at_most reached short, text-bytes h (reached-bytes s.tree s.user (space_of table s).finds _ bytes matched.processes h l.place.host way))
      where
        not_empty : (h : Text) → text_of h ≢ []
        not_empty h none = absurd (differ (sym (text_absolute h) ∙ ap is_absolute none))
          where
            differ : true ≡ false → ⊥
            differ e = cc

        at_most : {a b : ℕ} → a ≤ b → b ≤ 4000 → a ≤ 4095
        at_most one two = omega (arith, one, two)

    pub fits_canon : path ≢ [] → (canon : Canon) → canon_along texts working path ≡ Ok canon → Fits canon.host
    fits_canon some canon leads = by _ (canon_along texts working path) leads (paths_lead_alike Image table s pid tags base working path matched works)
      where
        by : (a : Result PlaceTarget Errno) (y : Result Canon Errno) → y ≡ Ok canon → LedAlike table s pid tags path base a y → Fits canon.host
        by _ _ is (no_lead e) = absurd (err_ok is)
        by _ _ is (one_lead {target} {canon = k} l) = subst (λ (k : Canon). Fits k.host) (ok_same is) (fits_led some target k l)

    -- an empty path leads to a directory, which is no program
    not_nothing : (target : PlaceTarget) → program_at around base path ≡ Ok target → path ≢ []
    not_nothing target found none =
        absurd (err_ok (sym (empty-program around base (no-program s.tree s.user base.host works.directory)) ∙ ap (program_at around base) (sym none) ∙ found))

    fits_program : (target : PlaceTarget) → program_at around base path ≡ Ok target → (program : Program) → tracer.program_from texts working path ≡ Ok program → Fits program.host
    fits_program target found program is = by (canon_along texts working path) refl is
      where
        by : (a : Result Canon Errno) → canon_along texts working path ≡ a → traced_walks.and_then a (λ canon. tracer.program_in texts.peeked canon.host canon.index) ≡ Ok program → Fits program.host
        by (Err e) leads is = absurd (err_ok is)
        by (Ok canon) leads is = told_by (texts.peeked.head canon.host tracer.head_size) is
          where
            told_by : (head : Result (List ℕ) Errno) → traced_walks.and_then head (λ head. Ok (let p : Program = record { host = canon.host; index = canon.index; head = take tracer.head_size head } in p)) ≡ Ok program → Fits program.host
            told_by (Err e) is = absurd (err_ok is)
            told_by (Ok head) is = subst (λ (p : Program). Fits p.host) (ok_same is) (fits_canon (not_nothing target found) canon leads)

    -- what a kernel and a tracer find along it
    pub finds_fit : ResultsAlike (λ (f : Target ℕ) (g : Program). IsSameTold table s pid tags f g × Fits g.host) (kernel.told_program (program_at around base path)) (tracer.program_from texts working path)
    finds_fit = by _ _ refl refl (programs_are_found_alike Image table s pid tags base working path matched works)
      where
        by : (a : Result PlaceTarget Errno) (y : Result Program Errno) → program_at around base path ≡ a → tracer.program_from texts working path ≡ y → ProgramsAlike table s pid tags a y
            → ResultsAlike (λ (f : Target ℕ) (g : Program). IsSameTold table s pid tags f g × Fits g.host) (kernel.told_program a) y
        by _ _ one two (no_program e) = alike.errs e
        by _ _ one two (one_program {target} {program} same) = alike.oks (record { target = target; told = refl; same = same }, fits_program target one program two)

  -- ---- behind scripts

  abbrev IsFound : Target ℕ → Program → Type 0
  IsFound f g = IsSameTold table s pid tags f g × Fits g.host

  heads : (f : Target ℕ) (g : Program) → IsFound f g → g.head ≡ kernel.head_of s.tree f.found
  heads f g is = is.0.same.head ∙ ap (λ (f : Target ℕ). kernel.head_of s.tree f.found) (sym is.0.told)

  module _ (env_bytes : ℕ) (path : List ℕ) (given : List (List ℕ)) (target : PlaceTarget) (found : program_at around base path ≡ Ok target) (r : Reach)
      (short : (walks_reach around base (interpreters (kernel.programs around base) env_bytes most_scripts (told target) path given) (reach_after around Look (program_walk around base path) r)).longest ≤ 4000)
      (first : (reach_after around Look (program_walk around base path) r).longest ≤ 4000) where
    abbrev Ends : Result (Ended (Target ℕ)) Errno → Result (Ended Program) Errno → Type 0
    Ends = ResultsAlike (EndAlike IsFound)

    each_fits : (program : Program) → IsFound (told target) program
        → Ends (expanded (kernel.programs around base) env_bytes most_scripts (told target) path given) (ends_of texts working env_bytes most_scripts (command_of path given program))
    each_fits program is =
        scripts-end (kernel.programs around base) (tracer.programs texts working) IsFound heads env_bytes most_scripts (told target) program path given is
        (each-mapped (IsShort around base 4000) (FindsAlike (kernel.programs around base) (tracer.programs texts working) IsFound heads env_bytes) (λ path s. finds_fit path s.0 s.1)
        (interpreters (kernel.programs around base) env_bytes most_scripts (told target) path given)
        (walks-short around base 4000 (interpreters (kernel.programs around base) env_bytes most_scripts (told target) path given) (reach_after around Look (program_walk around base path) r) short))

    pub fits_ended : (y : Expanded) → expanded_from texts working env_bytes path given ≡ Ok y → Fits y.host
    fits_ended y ends = by _ _ refl refl (finds_fit path r first) ends
      where
        told_by : (a : Result (Ended (Target ℕ)) Errno) (b : Result (Ended Program) Errno) → Ends a b → shown_result b ≡ Ok y → Fits y.host
        told_by _ _ (alike.errs e) is = absurd (err_ok is)
        told_by _ _ (alike.oks {a = f} {b = g} same) is = subst (λ (y : Expanded). Fits y.host) (ok_same is) same.file.1

        by : (a : Result (Target ℕ) Errno) (b : Result Program Errno) → kernel.told_program (program_at around base path) ≡ a → tracer.program_from texts working path ≡ b → ResultsAlike IsFound a b
            → traced_walks.and_then b (λ program. shown_result (ends_of texts working env_bytes most_scripts (command_of path given program))) ≡ Ok y → Fits y.host
        by _ _ one two (alike.errs e) is = absurd (err_ok is)
        by _ _ one two (alike.oks {a = f} {b = program} same) is =
            let own : f ≡ told target = sym (ok_same (sym (ap kernel.told_program found) ∙ one)) in
            told_by _ _ (each_fits program (subst (λ f. IsFound f program) own same)) is
