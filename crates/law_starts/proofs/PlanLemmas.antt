-- The plain kernel comes to what it is handed by host texts.
use Rattle.std.proofs.Common.{◌≡◌, ◌<◌, ◌≤◌, ℕ, Bool, true, false, ◌&&◌, not, List, [], ◌∷◌, length, length-append, Option, Some, None, Result, Ok, Err, refl, sym, ap, subst, ◌∙◌, arith}
use Rattle.std.specs.Prelude.{◌==◌, nat_lt}
use Rattle.std.specs.Bool.{if◌then◌else◌}
use Rattle.std.specs.Option.{option_and_then}
use Rattle.std.proofs.lemmas.Bool.Decides.{nat_tests}
use Rattle.pr_start.specs.pr_base.Paths.{Name, below_root, slash, text_of}
use Rattle.pr_start.specs.pr_base.Texts.{Text}
use Rattle.pr_start.specs.pr_base.WalkFrame.{target_at}
use Rattle.pr_start.specs.pr_base.declared.errno.Errno.{Errno}
use Rattle.pr_start.specs.pr_base.declared.errno.Errno.TheVariants.{E2BIG, EACCES}
use Rattle.pr_start.specs.pr_base.declared.path.WalkMode.TheVariants.{Look}
use Rattle.pr_start.specs.pt_script.declared.program.Program.{Program}
use Rattle.pr_start.specs.elf_read.Rules.{first_broken}
use Rattle.pr_start.specs.elf_read.declared.fault.ElfFault.{ElfFault}
use Rattle.pr_start.specs.kr_calls.Expansion.{by_line, bytes_with_ends, expanded, is_script, most_scripts, runs}
use Rattle.pr_start.specs.kr_calls.Scripts.{script_of}
use Rattle.pr_start.specs.kr_exec.Exec.{after_scripts, are_too_big, exec_plan, file_plan, plan_at, target_plan, unless_broken}
use Rattle.pr_start.specs.kr_exec.Finding.{if_program, program_at}
use Rattle.pr_start.specs.kr_exec.Interpreters.{bytes_at, head_of, programs}
use Rattle.law_programs.specs.kr_first.Starting.{around, directory_at, directory_found, found_from, if_directory, is_walked, path_errno, plan_of}
use Rattle.pr_start.specs.kr_inode.declared.user.User.{User}
use Rattle.law_turns.specs.kr_model.Walks.{and_then}
use Rattle.pr_start.specs.kr_tree.Tree.{Tree}
use Rattle.pr_start.specs.kr_tree.declared.place.Host.TheVariants.{Node}
use Rattle.pr_start.specs.kr_tree.declared.place.Place.{Place}
use Rattle.pr_start.proofs.kr_tree.NameLemmas.{some_is}
use Rattle.pr_start.specs.kr_view.Answers.{told}
use Rattle.pr_start.specs.kr_view.Component.{Namespace, Surroundings, is_directory_at}
use Rattle.pr_start.specs.kr_view.HostReach.{host_place}
use Rattle.pr_start.specs.kr_view.Processes.{no_finds, no_leads}
use Rattle.pr_start.specs.kr_view.ReachLaws.{IsReachedBy, ends_with}
use Rattle.pr_start.specs.kr_view.View.{Row, plain, root_place}
use Rattle.pr_start.specs.kr_view.Walk.{PlaceTarget, place_walk}
use Rattle.pr_start.specs.kr_view.declared.target.Target.{Target}
use Rattle.pr_start.proofs.kr_view.ArrivalLemmas.{texts_are_found}
use Rattle.pr_start.proofs.kr_view.HostReachLemmas.{reached_names, reached_there}
use Rattle.pr_start.proofs.kr_view.ProcessLemmas.{no_processes}
use Rattle.law_turns.specs.law_walks.Settled.{IsSettled, host_text}
use Rattle.law_turns.specs.law_walks.Standing.{StandsOn, reached_in}
use Rattle.law_starts.specs.Plans.{DirectoriesAreHandedOver, ProgramsAreHandedOver, planned_on_host}
use Rattle.law_starts.specs.Programs.{IsSameProgram}
use Rattle.law_starts.specs.Spaces.{first_space}

-- a text has a slash at least
text-long : (t : Text) → 0 < length (text_of t)
text-long [] = omega arith
text-long (name ∷ up) = let whole = length-append (below_root up) (slash ∷ name) in omega arith

walked-is : (path : List ℕ) → 0 < length path → length path < 4096 → is_walked path ≡ true
walked-is path some few = by (length path == 0) refl (nat_lt (length path) 4096) refl
  where
    by : (a : Bool) → (length path == 0) ≡ a → (b : Bool) → nat_lt (length path) 4096 ≡ b → (not a && b) ≡ true
    by true e b f = absurd (let none : length path ≡ 0 = grind (arith, nat_tests) in omega arith)
    by false e true f = refl
    by false e false f = absurd (let many : 4096 ≤ length path = grind (arith, nat_tests) in omega arith)

module _ (table : List Row) (tree : Tree) (user : User) (set : IsSettled (first_space table tree user)) where
  abbrev space : Namespace
  space = first_space table tree user

  abbrev host : Surroundings
  host = around plain tree user

  by-text : (p : Place ℕ) (t : Text) → StandsOn space p t → IsReachedBy host (host_text space t) p.host
  by-text p t on = record {
    over_plain = refl;
    names = reached_names tree user no_finds no_leads (host_text space t) p.host set.sound no_processes.lawful on.stands.way;
    way = on.stands.way;
    there = reached_there tree user no_finds (host_text space t) p.host set.sound set.inodes on.stands.way;
  }

  -- ---- a directory

  pub directory-handed : (p : Place ℕ) (t : Text) → StandsOn space p t → is_directory_at tree p.host ≡ true → directory_at plain tree user (text_of (host_text space t)) ≡ Some (host_place p.host)
  directory-handed p t on dir =
      let found = texts_are_found.found host Look (root_place plain) (host_text space t) p.host false (by-text p t on) (λ e. on.firm) (λ e. absurd cc) in
      ap (directory_found tree) found.1 ∙ ap (option_and_then (if_directory tree)) found.2 ∙ ap (λ b. if b then Some (host_place p.host) else None) dir

  -- ---- a program

  module _ (most : ℕ) (target : Target ℕ) (program : Program) (args env : List (List ℕ)) (other : Place ℕ) (few : most < 4096) (same : IsSameProgram table tree user most target program) (plain_file : is_script program.head ≡ false) (fits : are_too_big args env ≡ false) where
    abbrev p : Place ℕ
    p = same.place

    abbrev text : Text
    text = host_text space same.guest

    -- where the walk along the host text ends
    abbrev ended : ℕ → List ℕ → PlaceTarget
    ended dir name = target_at (host_place (Node dir)) (Name name) false (Some (host_place p.host))

    module _ (dir : ℕ) (name : List ℕ) (up : Text) (spelled : text ≡ name ∷ up) (way : reached_in space up ≡ Some (Node dir)) where
      walk-is : (place_walk host Look other program.host).answer ≡ Ok (ended dir name)
      walk-is =
          let reached = subst (λ t. IsReachedBy host t p.host) spelled (by-text p same.guest same.stands) in
          let found = texts_are_found.target host Look other name up p.host false reached (λ e. same.stands.firm) in
          let at : found.0 ≡ Node dir = some_is found.0 (Node dir) (sym found.1 ∙ way) in
          ap (λ path. (place_walk host Look other path).answer) (same.host ∙ ap text_of spelled)
          ∙ found.2
          ∙ ap (λ d. ends_with host Look d name false p.host) at

      program-is : program_at host other program.host ≡ Ok (ended dir name)
      program-is = ap (if_program tree user) walk-is ∙ ap (λ b. if b then Ok (ended dir name) else Err EACCES) same.may_run

      found-is : found_from plain tree user other program.host ≡ Ok (ended dir name)
      found-is =
          let size : length program.host ≡ length (text_of text) = ap length same.host in
          let some = text-long text in
          let short = same.short in
          ap (λ b. if b then program_at host other program.host else Err (path_errno program.host)) (walked-is program.host (omega arith) (omega arith)) ∙ program-is

      -- it is no script, so it runs itself
      unscripted : is_script (head_of tree (Some (host_place p.host))) ≡ false
      unscripted = sym (ap is_script (same.head ∙ ap (head_of tree) same.found)) ∙ plain_file

      runs-itself : expanded (programs host other) (bytes_with_ends env) most_scripts (told (ended dir name)) program.host args ≡ runs most_scripts (told (ended dir name)) args
      unfolding expanded
      runs-itself =
          ap
          (λ b. if b then by_line (programs host other) (expanded (programs host other) (bytes_with_ends env) 4) (bytes_with_ends env) program.host args (script_of (head_of tree (Some (host_place p.host))))
          else runs most_scripts (told (ended dir name)) args) unscripted

      planned : exec_plan host other (told (ended dir name)) program.host args env ≡ target_plan plain tree env (told (ended dir name)) args
      planned =
          ap (λ b. if b then Err E2BIG else after_scripts host env (expanded (programs host other) (bytes_with_ends env) most_scripts (told (ended dir name)) program.host args)) fits
          ∙ ap (after_scripts host env) runs-itself

      whole : plan_of plain tree user other program.host args env ≡ target_plan plain tree env (told (ended dir name)) args
      whole = ap (λ (r : Result PlaceTarget Errno). and_then r (λ target. exec_plan host other (told target) program.host args env)) found-is ∙ planned

    -- both plans are of the same bytes and the same entry
    same-plan : target_plan plain tree env (told (ended (plan_at table tree target args env p).dir (plan_at table tree target args env p).name)) args ≡ planned_on_host (file_plan table tree target args env (Some p))
    same-plan = by (first_broken (bytes_at tree p.host))
      where
        by : (o : Option ElfFault)
            → unless_broken o (plan_at plain tree (told (ended (plan_at table tree target args env p).dir (plan_at table tree target args env p).name)) args env (host_place p.host)) ≡ planned_on_host (unless_broken o (plan_at table tree target args env p))
        by None = refl
        by (Some fault) = refl

    pub program-handed : plan_of plain tree user other program.host args env ≡ planned_on_host (target_plan table tree env target args)
    program-handed =
        whole (plan_at table tree target args env p).dir (plan_at table tree target args env p).name same.entry.up same.entry.text same.entry.way
        ∙ same-plan
        ∙ sym (ap (λ o. planned_on_host (file_plan table tree target args env o)) same.found)

pub directories-are-handed-over : DirectoriesAreHandedOver
directories-are-handed-over table tree user p t set on dir = directory-handed table tree user set p t on dir

pub programs-are-handed-over : ProgramsAreHandedOver
programs-are-handed-over table tree user most target program args env other set few same plain_file fits = program-handed table tree user set most target program args env other few same plain_file fits
