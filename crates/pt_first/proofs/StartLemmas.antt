-- What a start in guest terms comes to, taken apart.
use Rattle.std.proofs.Common.{◌≡◌, ℕ, Bool, true, false, List, [], ◌∷◌, Option, Some, None, Result, Ok, Err, refl, sym, ap, subst, ◌∙◌}
use Rattle.std.specs.Prelude.{take, if◌then◌else◌}
use Rattle.pr_words.specs.pr_base.Paths.{dot, is_absolute, slash, text_of}
use Rattle.pr_words.specs.pr_base.declared.errno.Errno.{Errno}
use Rattle.pr_words.specs.pr_base.declared.errno.Errno.TheVariants.{E2BIG}
use Rattle.pr_words.specs.Command.{arguments, word_of}
use Rattle.kr_first.specs.pt_bind.Tags.{TagTable}
use Rattle.pt_script.specs.pt_canon.TextWalk.{TextSurroundings}
use Rattle.pt_script.specs.pt_canon.declared.canon.Canon.{Canon}
use Rattle.pt_script.specs.pt_args.Walks.{and_then}
use Rattle.pt_script.specs.Expanding.{expanded_from}
use Rattle.pt_script.specs.Programs.{base_from, canon_from, program_from, program_in}
use Rattle.pt_script.specs.declared.expansion.Expanded.{Expanded}
use Rattle.pt_script.specs.declared.program.Program.{Program}
use Rattle.pt_script.proofs.RunLemmas.{programs_run_by_chains}
use Rattle.pt_script.specs.kr_calls.Expansion.{bytes_with_ends}
use Rattle.kr_first.specs.kr_exec.Exec.{are_too_big}
use Rattle.kr_first.specs.Started.{LeadsToDirectory}
use Rattle.kr_first.specs.Starting.{is_walked, path_errno}
use Rattle.kr_first.specs.kr_inode.declared.user.User.{User}
use Rattle.kr_first.specs.law_allowed.Texts.{IsText}
use Rattle.kr_first.specs.kr_tree.Tree.{Tree}
use Rattle.kr_first.specs.kr_view.View.{Row, plain}
use Rattle.kr_first.specs.law_walks.Settled.{IsSettled}
use Rattle.pt_first.specs.GuestStart.{begun, chosen, directory_at, handed, run_from, run_with, started_at, text_or_root, working_directory}
use Rattle.pt_first.specs.Laws.{FirstsCanStart, first_texts}
use Rattle.pt_first.specs.declared.begun.Begun.{Begun}
use Rattle.pr_words.specs.declared.launch.Launch.{Launch}
use Rattle.pt_first.proofs.StandingLemmas.{Comes, IsStanding, IsWorking, comes, host_is_text, root_stands, root_works, space, texts, working_leads, works}

module _ (table : List Row) (tree : Tree) (user : User) (tags : TagTable) (set : IsSettled (space table tree user tags)) where
  abbrev here : TextSurroundings
  here = texts table tree user tags

  -- ---- the working directory

  looked : (path : List ℕ) (c : Canon) → canon_from here path (slash ∷ []) ≡ Ok c → (r : Result Canon Errno) → canon_from here dot c.guest ≡ r → IsWorking table tree user tags (text_or_root r)
  looked path c one (Ok d) two = works table tree user tags set path c d one two
  looked path c one (Err e) two = root_works table tree user tags set

  found : (path : List ℕ) (r : Result Canon Errno) → canon_from here path (slash ∷ []) ≡ r → IsWorking table tree user tags (text_or_root (and_then r (λ canon. canon_from here dot canon.guest)))
  found path (Ok c) one = looked path c one (canon_from here dot c.guest) refl
  found path (Err e) one = root_works table tree user tags set

  pub working : (path : List ℕ) → IsWorking table tree user tags (working_directory here path)
  working path = by (is_walked path)
    where
      by : (b : Bool) → IsWorking table tree user tags (if b then text_or_root (directory_at here path) else slash ∷ [])
      by true = found path (canon_from here path (slash ∷ [])) refl
      by false = root_works table tree user tags set

  -- ---- the program

  module _ (w : List ℕ) (s : IsStanding table tree user tags w) where
    abbrev head_told : Canon → Program → Type 0
    head_told canon program = program_in here.peeked canon.host canon.index ≡ Ok program → program.host ≡ canon.host

    of-head : (canon : Canon) (program : Program) (r : Result (List ℕ) Errno) → and_then r (λ head. Ok (record { host = canon.host; index = canon.index; head = take 256 head })) ≡ Ok program → program.host ≡ canon.host
    of-head canon program (Ok head) is =
        let same : record { host = canon.host; index = canon.index; head = take 256 head } ≡ program = cc in
        sym (ap (λ (p : Program). p.host) same)
    of-head canon program (Err e) is = absurd cc

    of-canon : (path base : List ℕ) (program : Program) → IsStanding table tree user tags base → (r : Result Canon Errno) → canon_from here path base ≡ r
        → and_then r (λ canon. program_in here.peeked canon.host canon.index) ≡ Ok program → IsText program.host
    of-canon path base program stands (Ok canon) one is =
        let come = comes table tree user tags set base path canon stands one in
        subst IsText (sym (of-head canon program (here.peeked.head canon.host 256) is ∙ come.host)) (host_is_text table tree user tags set canon.guest come.standing)
    of-canon path base program stands (Err e) one is = absurd cc

    of-base : (path : List ℕ) (program : Program) (b : Bool)
        → and_then (and_then (if b then Ok (slash ∷ []) else Ok w) (canon_from here path)) (λ canon. program_in here.peeked canon.host canon.index) ≡ Ok program → IsText program.host
    of-base path program true is = of-canon path (slash ∷ []) program (root_stands table tree user tags set) (canon_from here path (slash ∷ [])) refl is
    of-base path program false is = of-canon path w program s (canon_from here path w) refl is

    program-text : (path : List ℕ) (program : Program) → program_from here (Some w) path ≡ Ok program → IsText program.host
    program-text path program is = of-base path program (is_absolute path) is

    ends-text : (env_bytes : ℕ) (path : List ℕ) (args : List (List ℕ)) (e : Expanded) → expanded_from here (Some w) env_bytes path args ≡ Ok e → IsText e.host
    ends-text env_bytes path args e is =
        let chain = programs_run_by_chains here (Some w) env_bytes path args e is in
        subst IsText (sym (ap (λ (x : Expanded). x.host) chain.runs)) (program-text chain.last.path chain.last.program chain.found)

    module _ (args env : List (List ℕ)) (path : List ℕ) (e : Expanded) where
      too-big : (r : Result Program Errno) → ◌≡◌ {A = Result Expanded Errno} (and_then r (λ program. Err E2BIG)) (Ok e) → IsText e.host
      too-big (Ok program) is = absurd cc
      too-big (Err why) is = absurd cc

      of-lists : (b : Bool) → (if b then and_then (program_from here (Some w) path) (λ program. Err E2BIG) else expanded_from here (Some w) (bytes_with_ends env) path args) ≡ Ok e → IsText e.host
      of-lists true is = too-big (program_from here (Some w) path) is
      of-lists false is = ends-text (bytes_with_ends env) path args e is

      of-handed : (r : Result Canon Errno) → and_then r (λ canon. run_with here w args env path) ≡ Ok e → IsText e.host
      of-handed (Ok canon) is = of-lists (are_too_big args env) is
      of-handed (Err why) is = absurd cc

      of-walked : (b : Bool) → (if b then and_then (handed here w path) (λ canon. run_with here w args env path) else Err (path_errno path)) ≡ Ok e → IsText e.host
      of-walked true is = of-handed (handed here w path) is
      of-walked false is = absurd cc

  -- ---- the start

  module _ (launch : Launch) (b : Begun) (w : List ℕ) (works : IsWorking table tree user tags w) where
    abbrev CanStart : Begun → Type 0
    CanStart x = IsText x.first.path × LeadsToDirectory plain tree user x.first.cwd

    of-program : (path : List ℕ) (r : Result Expanded Errno) → run_from here w (arguments launch.command) launch.env path ≡ r → and_then r (λ program. Ok (begun here.bindings launch.env launch.ids w program)) ≡ Ok b → CanStart b
    of-program path (Ok e) runs is =
        let same : begun here.bindings launch.env launch.ids w e ≡ b = cc in
        subst CanStart same (of-walked w works.standing (arguments launch.command) launch.env path e (is_walked path) runs, working_leads table tree user tags set w works)
    of-program path (Err why) runs is = absurd cc

    of-command : (o : Option (List ℕ)) → started_at here w launch o ≡ Ok b → CanStart b
    of-command None is = absurd cc
    of-command (Some path) is = of-program path (run_from here w (arguments launch.command) launch.env path) refl is

pub firsts_can_start : FirstsCanStart
firsts_can_start table tree user tags launch b set is =
    let w = working_directory (first_texts table tree user tags) launch.cwd in
    of-command table tree user tags set launch b w (working table tree user tags set launch.cwd) (chosen (first_texts table tree user tags) w launch.env (word_of launch.command)) is
