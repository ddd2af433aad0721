-- A program that both machines came to begins on both.
use Rattle.std.proofs.Common.{◌≡◌, ℕ, Bool, true, false, ◌&&◌, List, Option, Some, None, Result, Ok, Err, refl, sym, ap, subst, ◌∙◌}
use Rattle.std.specs.Bool.{if◌then◌else◌}
use Rattle.std.proofs.lemmas.List.Elements.{All-head}
use Rattle.pr_start.specs.pr_base.Paths.{AreNames, IsName}
use Rattle.pr_start.specs.pr_base.Texts.{Text}
use Rattle.pr_start.specs.pr_base.declared.errno.Errno.{Errno}
use Rattle.pr_start.specs.pr_base.declared.errno.Errno.TheVariants.{ENOMEM}
use Rattle.pr_start.specs.pt_script.declared.expansion.Expanded.{Expanded as Shown}
use Rattle.pr_start.specs.elf_read.Rules.{first_broken}
use Rattle.pr_start.specs.elf_read.declared.fault.ElfFault.{ElfFault}
use Rattle.pr_start.specs.kr_calls.Expansion.{Expanded}
use Rattle.pr_start.specs.kr_exec.Exec.{file_plan, inode_at, plan_at, target_plan, unless_broken}
use Rattle.pr_start.specs.kr_exec.Finding.{is_program}
use Rattle.pr_start.specs.kr_exec.Interpreters.{bytes_at}
use Rattle.pr_start.specs.kr_exec.declared.plan.ExecPlan.{ExecPlan}
use Rattle.law_programs.specs.kr_execve.Executing.{IsLoadable}
use Rattle.law_programs.proofs.kr_execve.LoadingLemmas.{break-within}
use Rattle.law_programs.specs.kr_first.Starting.{exceeds, idle_state, process_of, started_with}
use Rattle.pr_start.specs.kr_inode.declared.user.User.{User}
use Rattle.pr_start.specs.kr_inode.declared.user.Right.TheVariants.{Search}
use Rattle.law_turns.specs.kr_model.Lawful.{IsNameOrNone, is_file_at}
use Rattle.law_turns.specs.kr_model.Walks.{and_then}
use Rattle.pr_start.specs.kr_start.Start.{CanBegin, First, started}
use Rattle.pr_start.specs.kr_tree.Rights.{may}
use Rattle.pr_start.specs.kr_tree.Tree.{Tree, body_is, is_file}
use Rattle.pr_start.specs.kr_tree.declared.place.Host.{Host}
use Rattle.pr_start.specs.kr_tree.declared.place.Host.TheVariants.{Node, Proc}
use Rattle.pr_start.specs.kr_tree.declared.place.Place.{Place}
use Rattle.law_turns.specs.kr_turns.Turn.{Machine}
use Rattle.pr_start.specs.kr_view.Component.{Namespace}
use Rattle.pr_start.specs.kr_view.HostReach.{host_place}
use Rattle.pr_start.specs.kr_view.InTree.{IsPlaceOf}
use Rattle.pr_start.specs.kr_view.Processes.{no_finds, no_leads}
use Rattle.pr_start.specs.kr_view.View.{Row, is_there, plain, row}
use Rattle.pr_start.specs.kr_view.declared.target.Reach.{Reach}
use Rattle.pr_start.specs.kr_view.declared.target.Target.{Target}
use Rattle.pr_start.proofs.kr_view.HostReachLemmas.{reached_names, reached_there}
use Rattle.pr_start.proofs.kr_view.ProcessLemmas.{no_processes}
use Rattle.pr_start.specs.Beginning.{fresh}
use Rattle.pr_start.specs.TracedBeginning as traced
use Rattle.pr_start.specs.TracedBeginning.{Tracing}
use Rattle.pr_start.specs.pt_faker.declared.watch.Watch.{Watch}
use Rattle.law_turns.specs.law_walks.Settled.{IsSettled, host_text}
use Rattle.law_turns.specs.law_walks.Standing.{StandsOn}
use Rattle.law_turns.proofs.law_walks.TableLemmas.{owned}
use Rattle.law_turns.specs.law_places.Matching.{IsMatch}
use Rattle.law_turns.specs.Runs.{GoTogether}
use Rattle.law_starts.specs.FirstStates.{BeginsAt, IsOpening, first_state, first_tags, on_host}
use Rattle.law_starts.specs.Plans.{plan_on_host, planned_on_host}
use Rattle.law_starts.specs.Programs.{IsSameProgram}
use Rattle.law_starts.specs.Running.{IsSameRun}
use Rattle.law_starts.specs.Spaces.{first_space}
use Rattle.law_starts.specs.Starts.{ComeTogether, tags_in}
use Rattle.law_starts.specs.Working.{StandsAt}
use Rattle.law_starts.proofs.FirstLemmas.{first-states-match}
use Rattle.law_programs.proofs.ImageLemmas.{image-is}
use Rattle.law_starts.proofs.LawfulLemmas.{first-states-last}

-- a program is a file of the tree
program-is-file : (tree : Tree) (user : User) (x : Host) → is_program tree user x ≡ true → is_file_at tree x ≡ true
program-is-file tree user (Node i) is = first (body_is is_file tree i) (may tree user i Search) is
  where
    first : (a b : Bool) → (a && b) ≡ true → a ≡ true
    first true b e = refl
    first false b e = absurd cc
program-is-file tree user (Proc i at) is = absurd cc

program-node : (tree : Tree) (user : User) (x : Host) → is_program tree user x ≡ true → x ≡ Node (inode_at x)
program-node tree user (Node i) is = refl
program-node tree user (Proc i at) is = absurd cc

module _ (table : List Row) (tree : Tree) (user : User) (input ids : List ℕ) (opening : IsOpening tree user table) (base : Place ℕ) (working : List ℕ) (at : StandsAt table tree user base working) (most : ℕ) (env : List (List ℕ)) (x : Expanded (Target ℕ)) (e : Shown)
    (run : IsSameRun table tree user most env x e) where
  abbrev space : Namespace
  space = first_space table tree user

  abbrev set : IsSettled space
  set = opening.prepared.settled

  abbrev same : IsSameProgram table tree user most x.file run.program
  same = run.same

  abbrev p : Place ℕ
  p = same.place

  -- the plan of the file that runs
  abbrev planned : ExecPlan ℕ
  planned = plan_at table tree x.file x.args env p

  abbrev first : First ℕ
  first = process_of tree ids base planned

  -- ---- what stands is of the view

  place-of : (q : Place ℕ) (t : Text) → StandsOn space q t → IsPlaceOf tree table q
  place-of q t on = record {
    mounted = ap (λ m. is_there (row table m)) on.stands.mount ∙ ap (λ (o : Option Row). is_there o) (owned space set t).there;
    object = reached_there tree user no_finds (host_text space t) q.host set.sound set.inodes on.stands.way;
  }

  module _ (accepted : first_broken (bytes_at tree p.host) ≡ None) (within : exceeds tree ids planned ≡ false) where
    loadable : IsLoadable tree planned
    loadable = record { file = program-node tree user p.host same.may_run; accepted = accepted; read = refl; fit = run.fit }

    named : IsNameOrNone planned.name
    named some =
        let names = reached_names tree user no_finds no_leads (host_text space same.guest) p.host set.sound no_processes.lawful same.stands.stands.way in
        All-head IsName planned.name same.entry.up (subst AreNames same.entry.text names)

    begins : CanBegin (λ m. m) table tree first
    begins = record {
      cwd = (place-of base at.text at.stands, at.directory);
      exe = (place-of p same.guest same.stands, program-is-file tree user p.host same.may_run);
      exe_name = named;
      break = break-within tree planned loadable;
    }

    begins-at : BeginsAt table tree user first at.text same.guest
    begins-at = record {
      begins = begins;
      image = image-is tree ids planned accepted refl within;
      cwd = at.stands;
      exe = same.stands;
      entry = same.entry;
    }

    -- both machines, whoever watches the one, and with whatever the tracer keeps beside these tags
    pub together : (watch : Watch) (reach : Reach) (tracing : Tracing) → tracing.tags ≡ first_tags table at.text same.guest
        → GoTogether tags_in table 0 (fresh watch reach (first_state table tree user input first)) (traced.fresh tracing (first_state plain tree user input (on_host first)))
    together watch reach tracing tags =
        let last = first-states-last table tree user input first opening begins begins-at.image in
        record {
          matches = record {
            states = subst (λ tags. IsMatch table tags (first_state table tree user input first) (first_state plain tree user input (on_host first))) (sym tags) (first-states-match table tree user input first at.text same.guest opening begins-at);
            statuses = refl;
          };
          lasts = last.lasts;
          also_lasts = last.also_lasts;
        }

  -- ---- the tests behind the plan

  module _ (watch : Watch) (reach : Reach) (tracing : Tracing) (tags : tracing.tags ≡ first_tags table at.text same.guest) where
    abbrev mounted : Result (ExecPlan ℕ) Errno → Result (Machine Watch) Errno
    mounted r = and_then (and_then r (started_with table tree user input ids base)) (λ s. Ok (fresh watch reach s))

    abbrev watched : Result (ExecPlan ℕ) Errno → Result (Machine Tracing) Errno
    watched r = and_then (and_then (planned_on_host r) (started_with plain tree user input ids (host_place base.host))) (λ s. Ok (traced.fresh tracing s))

    loaded : first_broken (bytes_at tree p.host) ≡ None → (c : Bool) → exceeds tree ids planned ≡ c
        → ComeTogether table (and_then (if c then Err ENOMEM else Ok (started first (idle_state table tree user input))) (λ s. Ok (fresh watch reach s)))
        (and_then (if c then Err ENOMEM else Ok (started (process_of tree ids (host_place base.host) (plan_on_host planned)) (idle_state plain tree user input))) (λ s. Ok (traced.fresh tracing s)))
    loaded accepted true within = refl
    loaded accepted false within = together accepted within watch reach tracing tags

    accepted-or-not : (o : Option ElfFault) → first_broken (bytes_at tree p.host) ≡ o → ComeTogether table (mounted (unless_broken o planned)) (watched (unless_broken o planned))
    accepted-or-not (Some fault) is = refl
    accepted-or-not None is = loaded is (exceeds tree ids planned) refl

    pub begin-together : ComeTogether table (mounted (target_plan table tree env x.file x.args)) (watched (target_plan table tree env x.file x.args))
    begin-together =
        subst (λ o. ComeTogether table (mounted (file_plan table tree x.file x.args env o)) (watched (file_plan table tree x.file x.args env o))) (sym same.found)
        (accepted-or-not (first_broken (bytes_at tree p.host)) refl)
