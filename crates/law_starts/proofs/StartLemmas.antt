-- Both machines begin together.
use Rattle.std.specs.FinMap as map
use Rattle.std.proofs.Common.{◌≡◌, ◌≢◌, ◌≤◌, ◌<◌, ℕ, Bool, true, false, List, [], ◌∷◌, Option, Some, None, Result, Ok, Err, refl, sym, ap, subst, ◌∙◌, arith}
use Rattle.std.specs.Prelude.{nat_lt}
use Rattle.std.specs.Bool.{if◌then◌else◌}
use Rattle.std.specs.Option.{option_map_or}
use Rattle.std.proofs.lemmas.Bool.Decides.{nat_tests}
use Rattle.pr_start.specs.pr_base.Paths.{text_of}
use Rattle.pr_start.specs.pr_base.declared.errno.Errno.{Errno}
use Rattle.pr_start.specs.pr_base.declared.errno.Errno.TheVariants.{E2BIG, ENOENT}
use Rattle.pr_start.specs.pr_base.declared.path.WalkMode.TheVariants.{Look}
use Rattle.pr_start.specs.pr_words.Command.{arguments, ids_of, word_of}
use Rattle.pr_start.specs.pr_words.declared.launch.Launch.{Launch}
use Rattle.law_programs.specs.pt_args.Walks as texts
use Rattle.pr_start.specs.pt_bind.Binding.{host_of, index_of, names_of}
use Rattle.pr_start.specs.pt_bind.Tags.{TagTable, with_tag}
use Rattle.pr_start.specs.pt_bind.declared.slot.Slot.TheVariants as slot
use Rattle.pr_start.specs.pt_canon.TextWalk.{TextSurroundings}
use Rattle.pr_start.specs.pt_script.declared.expansion.Expanded.{Expanded as Shown}
use Rattle.pr_start.specs.kr_calls.Expansion.{Expanded, bytes_with_ends, expanded, most_scripts}
use Rattle.law_turns.specs.kr_calm.Calm.{broken_at_start}
use Rattle.law_turns.specs.kr_calm.declared.rule.Rule.{Rule}
use Rattle.law_turns.specs.kr_calm.declared.rule.Rule.TheVariants.{ShortNames}
use Rattle.pr_start.specs.kr_exec.Exec.{after_scripts, are_too_big, exec_plan, target_plan}
use Rattle.pr_start.specs.kr_exec.Interpreters.{programs}
use Rattle.pr_start.specs.kr_exec.Lists.{at_least_one}
use Rattle.pr_start.specs.kr_exec.declared.plan.ExecPlan.{ExecPlan}
use Rattle.law_programs.specs.kr_first.Starting.{around, directory_at, directory_walk, found_from, plan_of, plan_reach, start_from, start_of, start_reach, started_with}
use Rattle.law_programs.specs.kr_first.declared.starting.First.{First}
use Rattle.law_programs.proofs.kr_first.LawLemmas.{roots-are-directories}
use Rattle.pr_start.specs.kr_inode.declared.user.User.{User}
use Rattle.pr_start.specs.kr_mounts.Standing.{texts_of}
use Rattle.law_turns.specs.kr_model.State.{Image, State}
use Rattle.law_turns.specs.kr_model.Walks.{and_then}
use Rattle.pr_start.specs.kr_start.Start.{first_pid}
use Rattle.pr_start.specs.kr_tree.Tree.{Tree}
use Rattle.pr_start.specs.kr_tree.declared.place.Place.{Place}
use Rattle.law_turns.specs.kr_turns.Turn.{Machine}
use Rattle.pr_start.specs.kr_view.Answers.{told}
use Rattle.pr_start.specs.kr_view.HostReach.{host_place}
use Rattle.pr_start.specs.kr_view.Reach.{reach_after}
use Rattle.pr_start.specs.kr_view.View.{Row, plain}
use Rattle.pr_start.specs.kr_view.Walk.{PlaceTarget}
use Rattle.pr_start.specs.kr_view.declared.target.Reach.{Reach}
use Rattle.pr_start.specs.kr_view.declared.target.Target.{Target}
use Rattle.pr_start.proofs.kr_view.ReachLemmas.{covers_after}
use Rattle.pr_start.specs.Beginning.{beginning, begun_at, first_of, fresh}
use Rattle.pr_start.specs.Directory.{At, working_directory}
use Rattle.pr_start.proofs.SearchLemmas.{directory-leads}
use Rattle.pr_start.specs.TracedBeginning as traced
use Rattle.pr_start.specs.TracedBeginning.{Tracing, begun_as, traced_beginning, tracing_of}
use Rattle.pr_start.specs.pt_faker.declared.watch.Watch.{Watch}
use Rattle.pr_start.specs.pt_first.GuestStart as guest
use Rattle.pr_start.specs.pt_first.GuestStart.{begun, run_from, started_at, tagged}
use Rattle.pr_start.specs.pt_first.Laws.{first_texts}
use Rattle.pr_start.specs.pt_first.declared.begun.Begun.{Begun}
use Rattle.law_turns.specs.law_walks.Settled.{IsSettled}
use Rattle.law_starts.specs.FirstStates.{IsOpening, first_tags}
use Rattle.law_starts.specs.Plans.{planned_on_host}
use Rattle.law_programs.specs.Ending.{ResultsAlike}
use Rattle.law_starts.specs.Programs.{IsSameProgram}
use Rattle.law_programs.specs.Ending as alike
use Rattle.law_starts.specs.Running.{IsSameRun, run_at, run_of}
use Rattle.law_starts.specs.Spaces.{first_space}
use Rattle.law_starts.specs.Starts.{BeginningsAreJudged, ComeTogether, StartsGoTogether, beginning_reach, chosen_in}
use Rattle.law_starts.specs.Working.{StandsAt}
use Rattle.law_starts.proofs.CommandLemmas.{commands-agree}
use Rattle.law_starts.proofs.PlanLemmas.{directories-are-handed-over, programs-are-handed-over}
use Rattle.law_starts.proofs.RunLemmas.{plan-more, runs-agree}
use Rattle.law_starts.proofs.SceneLemmas.{spelled}
use Rattle.law_starts.proofs.TogetherLemmas.{begin-together}
use Rattle.law_starts.proofs.WorkingLemmas.{working-directories-agree}

-- a command gives arguments
given-some : (command : List (List ℕ)) → arguments command ≢ []
given-some [] none = absurd cc
given-some (word ∷ words) none = absurd cc

at-least : (args : List (List ℕ)) → args ≢ [] → at_least_one args ≡ args
at-least [] some = absurd (some refl)
at-least (text ∷ texts) some = refl

-- ---- a plan is that of what runs in the end

module _ (table : List Row) (tree : Tree) (user : User) (base : Place ℕ) (path : List ℕ) (args env : List (List ℕ)) where
  abbrev plan_run : Expanded (Target ℕ) → Result (ExecPlan ℕ) Errno
  plan_run x = target_plan table tree env x.file x.args

  pub plan-by-run : plan_of table tree user base path args env ≡ and_then (run_of table tree user base path args env) plan_run
  plan-by-run = by (found_from table tree user base path)
    where
      ran : (x : Result (Expanded (Target ℕ)) Errno) → after_scripts (around table tree user) env x ≡ and_then x plan_run
      ran (Ok x) = refl
      ran (Err e) = refl

      fits : (c : Bool) (x : Result (Expanded (Target ℕ)) Errno) → (if c then Err E2BIG else after_scripts (around table tree user) env x) ≡ and_then (if c then Err E2BIG else x) plan_run
      fits true x = refl
      fits false x = ran x

      by : (r : Result PlaceTarget Errno) → and_then r (λ target. exec_plan (around table tree user) base (told target) path args env) ≡ and_then (and_then r (λ target. run_at table tree user base path args env (told target))) plan_run
      by (Err e) = refl
      by (Ok target) = fits (are_too_big args env) (expanded (programs (around table tree user) base) (bytes_with_ends env) most_scripts (told target) path args)

module _ (table : List Row) (tree : Tree) (user : User) (watch : Watch) (ids : Option (ℕ × ℕ)) (launch : Launch) (input : List ℕ) (opening : IsOpening tree user table) where
  abbrev space_set : IsSettled (first_space table tree user)
  space_set = opening.prepared.settled

  abbrev seen : TextSurroundings
  seen = first_texts table tree user map.empty

  abbrev at : At
  at = working_directory table tree user launch.cwd

  abbrev base : Place ℕ
  base = at.place

  abbrev working : List ℕ
  working = guest.working_directory seen launch.cwd

  abbrev args : List (List ℕ)
  args = arguments launch.command

  abbrev first_ids : List ℕ
  first_ids = ids_of launch.ids

  stands : StandsAt table tree user base working
  stands = working-directories-agree table tree user map.empty launch.cwd space_set

  -- the path of the working directory leads to it
  leads : directory_at table tree user at.path ≡ Some base
  leads = directory-leads table tree user launch.cwd roots-are-directories opening.prepared.stands

  args-are : at_least_one args ≡ args
  args-are = at-least args (given-some launch.command)

  -- ---- a command that was found

  module _ (path : List ℕ) (found : Reach) where
    abbrev first : First
    first = first_of table tree user watch launch at path found

    abbrev walked : Reach
    walked = reach_after (around table tree user) Look (directory_walk table tree user at.path) found

    abbrev reach : Reach
    reach = start_reach table tree user first

    reach-is : reach ≡ plan_reach table tree user base path args launch.env walked
    reach-is =
        ap (λ (o : Option (Place ℕ)). option_map_or (λ base. plan_reach table tree user base path (at_least_one args) launch.env walked) o walked) leads
        ∙ ap (λ given. plan_reach table tree user base path given launch.env walked) args-are

    -- the kernel with mounts
    start-is : start_of table tree user input first ≡ and_then (and_then (run_of table tree user base path args launch.env) (plan_run table tree user base path args launch.env)) (started_with table tree user input first_ids base)
    start-is =
        ap (λ (o : Option (Place ℕ)). option_map_or (start_from table tree user input first) o (Err ENOENT)) leads
        ∙ ap (λ given. and_then (plan_of table tree user base path given launch.env) (started_with table tree user input first_ids base)) args-are
        ∙ ap (λ r. and_then r (started_with table tree user input first_ids base)) (plan-by-run table tree user base path args launch.env)

    -- what a tracer begins with
    abbrev begins : Shown → Begun
    begins e = begun (texts_of table) launch.env launch.ids working e

    abbrev mounted : Result (Expanded (Target ℕ)) Errno → Result (Machine Watch) Errno
    mounted r = and_then (and_then (and_then r (plan_run table tree user base path args launch.env)) (started_with table tree user input first_ids base)) (λ s. Ok (fresh watch reach s))

    abbrev watched : Result Shown Errno → Result (Machine Tracing) Errno
    watched r = and_then (texts.and_then r (λ program. Ok (begins program))) (begun_as (texts_of table) tree user ids input)

    module _ (most : ℕ) (few : most < 4096) (x : Expanded (Target ℕ)) (e : Shown) (run : IsSameRun table tree user most launch.env x e) where
      abbrev own : Begun
      own = begins e

      host-cwd : directory_at plain tree user own.first.cwd ≡ Some (host_place base.host)
      host-cwd =
          ap (λ t. directory_at plain tree user (text_of (host_of (texts_of table) t))) (ap names_of stands.written ∙ spelled table tree user map.empty space_set base stands.text stands.stands)
          ∙ directories-are-handed-over table tree user base stands.text space_set stands.stands stands.directory

      -- the plain kernel plans the same
      host-plan : plan_of plain tree user (host_place base.host) own.first.path (at_least_one own.first.args) launch.env ≡ planned_on_host (target_plan table tree launch.env x.file x.args)
      host-plan =
          ap (λ given. plan_of plain tree user (host_place base.host) e.host given launch.env) (ap at_least_one run.args ∙ at-least x.args run.some)
          ∙ ap (λ path. plan_of plain tree user (host_place base.host) path x.args launch.env) run.host
          ∙ programs-are-handed-over table tree user most x.file run.program x.args launch.env (host_place base.host) space_set few run.same run.plain run.fit

      host-start : start_of plain tree user input own.first ≡ and_then (planned_on_host (target_plan table tree launch.env x.file x.args)) (started_with plain tree user input first_ids (host_place base.host))
      host-start =
          ap (λ (o : Option (Place ℕ)). option_map_or (start_from plain tree user input own.first) o (Err ENOENT)) host-cwd
          ∙ ap (λ r. and_then r (started_with plain tree user input first_ids (host_place base.host))) host-plan

      -- its tracer has the tags of both guest texts
      tags-are : (tracing_of (texts_of table) tree user ids own).tags ≡ first_tags table stands.text run.same.guest
      tags-are =
          ap (λ n. tags n own.exe) (ap (index_of (texts_of table)) (ap names_of stands.written ∙ spelled table tree user map.empty space_set base stands.text stands.stands))
          ∙ ap (tags (index_of (texts_of table) stands.text)) (run.index ∙ run.same.index)
        where
          tags : ℕ → ℕ → TagTable
          tags n m = with_tag (with_tag map.empty first_pid slot.Cwd n) first_pid slot.Exe m

      ran : ComeTogether table (mounted (Ok x)) (watched (Ok e))
      ran =
          subst (λ (r : Result (State ℕ Image) Errno). ComeTogether table (mounted (Ok x)) (and_then r (λ s. Ok (traced.fresh (tracing_of (texts_of table) tree user ids own) s)))) (sym host-start)
          (begin-together table tree user input first_ids opening base working stands most launch.env x e run watch reach (tracing_of (texts_of table) tree user ids own) tags-are)

    both-ran : (most : ℕ) → most < 4096 → (x : Result (Expanded (Target ℕ)) Errno) (e : Result Shown Errno) → ResultsAlike (IsSameRun table tree user most launch.env) x e → ComeTogether table (mounted x) (watched e)
    both-ran most few _ _ (alike.errs e) = refl
    both-ran most few _ _ (alike.oks {a = x} {b = e} run) = ran most few x e run

    of-path : reach.longest ≤ 4000 → ComeTogether table (begun_at table tree user watch launch input at found (Some path)) (and_then (started_at seen working launch (Some path)) (begun_as (texts_of table) tree user ids input))
    of-path within =
        subst (λ (r : Result (State ℕ Image) Errno). ComeTogether table (and_then r (λ s. Ok (fresh watch reach s))) (watched (run_from seen working args launch.env path))) (sym start-is)
        (both-ran 4000 (omega arith) (run_of table tree user base path args launch.env) (run_from seen working args launch.env path)
        (runs-agree table tree user map.empty base working path args launch.env 4000 walked space_set stands (omega arith) (given-some launch.command) (subst (λ (r : Reach). r.longest ≤ 4000) reach-is within)))

  -- ---- the whole

  -- what was reached before the first process is among what a start reaches
  found-first : (found : Reach) (o : Option (List ℕ)) → found.longest ≤ (option_map_or (λ path. start_reach table tree user (first_of table tree user watch launch at path found)) o found).longest
  found-first found None = omega arith
  found-first found (Some path) =
      let one = (covers_after (around table tree user) Look (directory_walk table tree user at.path) found).longest in
      let more = plan-more table tree user base path args launch.env (walked path found) in
      let same = ap (λ (r : Reach). r.longest) (reach-is path found) in
      omega arith

  of-chosen : (o : Option (List ℕ)) (found : Reach) → (option_map_or (λ path. start_reach table tree user (first_of table tree user watch launch at path found)) o found).longest ≤ 4000
      → ComeTogether table (begun_at table tree user watch launch input at found o) (and_then (started_at seen working launch o) (begun_as (texts_of table) tree user ids input))
  of-chosen None found within = refl
  of-chosen (Some path) found within = of-path path found within

  abbrev rule : Bool → Option Rule
  rule b = if b then Some ShortNames else None

  calm-within : (n : ℕ) → rule (nat_lt 4000 n) ≡ None → n ≤ 4000
  calm-within n calm = by (nat_lt 4000 n) refl calm
    where
      by : (b : Bool) → nat_lt 4000 n ≡ b → rule b ≡ None → n ≤ 4000
      by true e calm = absurd cc
      by false e calm = grind (arith, nat_tests)

  pub start-together : rule (nat_lt 4000 (beginning_reach table tree user watch launch).longest) ≡ None → ComeTogether table (beginning table tree user watch launch input) (traced_beginning (texts_of table) tree user ids launch input)
  start-together calm =
      let found = chosen_in table tree user launch in
      let within = calm-within (beginning_reach table tree user watch launch).longest calm in
      let first_within = found-first found.reach found.path in
      let same = commands-agree table tree user map.empty base working launch.env (word_of launch.command) 4000 _ space_set stands (omega (arith, within, first_within)) in
      subst (λ o. ComeTogether table (beginning table tree user watch launch input) (and_then (started_at seen working launch o) (begun_as (texts_of table) tree user ids input))) (sym same)
      (of-chosen found.path found.reach within)

pub starts-go-together : StartsGoTogether
starts-go-together table tree user watch ids launch input opening calm = start-together table tree user watch ids launch input opening calm

-- ---- what a beginning is judged by

module _ (table : List Row) (tree : Tree) (user : User) (watch : Watch) (launch : Launch) (input : List ℕ) (m : Machine Watch) where
  judged-by : (reach : Reach) (r : Result (State ℕ Image) Errno) → and_then r (λ s. Ok (fresh watch reach s)) ≡ Ok m → m.tally.broken ≡ broken_at_start reach
  judged-by reach (Ok s) is =
      let same : fresh watch reach s ≡ m = cc in
      sym (ap (λ (m : Machine Watch). m.tally.broken) same)
  judged-by reach (Err e) is = absurd cc

  judged-at : (at : At) (found : Reach) (o : Option (List ℕ)) → begun_at table tree user watch launch input at found o ≡ Ok m
      → m.tally.broken ≡ broken_at_start (option_map_or (λ path. start_reach table tree user (first_of table tree user watch launch at path found)) o found)
  judged-at at found None is = absurd cc
  judged-at at found (Some path) is =
      let first = first_of table tree user watch launch at path found in
      judged-by (start_reach table tree user first) (start_of table tree user input first) is

pub beginnings-are-judged : BeginningsAreJudged
beginnings-are-judged table tree user watch launch input m is =
    let found = chosen_in table tree user launch in
    judged-at table tree user watch launch input m (working_directory table tree user launch.cwd) found.reach found.path is
