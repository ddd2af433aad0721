-- Laws of scripts in guest terms.
use Rattle.std.specs.Prelude.{◌≡◌, ℕ, suc, ◌<◌, ◌≤◌, true, false, List, ◌∷◌, ◌++◌, drop, Option, Ok, Err}
use Rattle.pt_args.specs.pr_base.Paths.{text_of}
use Rattle.pt_args.specs.pr_base.Texts.{Text}
use Rattle.pt_args.specs.pr_base.declared.errno.Errno.{Errno}
use Rattle.pt_args.specs.pr_base.declared.errno.Errno.TheVariants.{ELOOP}
use Rattle.pt_args.specs.pt_bind.Binding.{host_of, index_of}
use Rattle.pt_args.specs.pt_canon.TextWalk.{TextSurroundings}
use Rattle.pt_args.specs.kr_calls.Expansion.{is_script}
use Rattle.pt_script.specs.Chains.{Chain}
use Rattle.pt_script.specs.Expanding.{command_of, expanded_from, interpreted}
use Rattle.pt_script.specs.Programs.{program_from}
use Rattle.pt_script.specs.declared.command.Command.{Command}
use Rattle.pt_script.specs.declared.expansion.Expanded.{Expanded}
use Rattle.pt_script.specs.declared.program.Program.{Program}

-- ---- what a path comes to

-- by the chain of scripts that begins with the program that was found
pub record ChainsEnd (texts : TextSurroundings) (working : Option (List ℕ)) (env_bytes : ℕ) (path : List ℕ) (args : List (List ℕ)) (program : Program) : Type 0 where
  -- what is no script itself runs, behind at most five scripts
  pub run : (n : ℕ) (last : Command) → n ≤ 5 → Chain texts working env_bytes n (command_of path args program) last → is_script last.program.head ≡ false
      → expanded_from texts working env_bytes path args ≡ Ok (record { host = last.program.host; index = last.program.index; args = last.args; scripts = n })
  -- six scripts are one too many
  pub loop : (sixth : Command) → Chain texts working env_bytes 5 (command_of path args program) sixth → is_script sixth.program.head ≡ true
      → expanded_from texts working env_bytes path args ≡ Err ELOOP
  -- a script that leads nowhere
  pub fail : (n : ℕ) (last : Command) (e : Errno) → n < 5 → Chain texts working env_bytes n (command_of path args program) last → is_script last.program.head ≡ true
      → interpreted texts working env_bytes last ≡ Err e → expanded_from texts working env_bytes path args ≡ Err e

pub record ScriptsEnd : Type 0 where
  pub missing : (texts : TextSurroundings) (working : Option (List ℕ)) (env_bytes : ℕ) (path : List ℕ) (args : List (List ℕ)) (e : Errno)
      → program_from texts working path ≡ Err e → expanded_from texts working env_bytes path args ≡ Err e
  -- a file that is no script runs itself, with the arguments as they are
  pub plain : (texts : TextSurroundings) (working : Option (List ℕ)) (env_bytes : ℕ) (path : List ℕ) (args : List (List ℕ)) (program : Program)
      → program_from texts working path ≡ Ok program → is_script program.head ≡ false
      → expanded_from texts working env_bytes path args ≡ Ok (record { host = program.host; index = program.index; args = args; scripts = 0 })
  pub chains : (texts : TextSurroundings) (working : Option (List ℕ)) (env_bytes : ℕ) (path : List ℕ) (args : List (List ℕ)) (program : Program)
      → program_from texts working path ≡ Ok program → ChainsEnd texts working env_bytes path args program

-- a program runs in the end only so: behind a chain of at most five scripts, each found by its guest path
pub record RunsByChain (texts : TextSurroundings) (working : Option (List ℕ)) (env_bytes : ℕ) (path : List ℕ) (args : List (List ℕ)) (e : Expanded) : Type 0 where
  pub first : Program
  pub begins : program_from texts working path ≡ Ok first
  pub last : Command
  pub chain : Chain texts working env_bytes e.scripts (command_of path args first) last
  pub few : e.scripts ≤ 5
  pub is_last : is_script last.program.head ≡ false
  pub found : program_from texts working last.path ≡ Ok last.program
  pub runs : e ≡ record { host = last.program.host; index = last.program.index; args = last.args; scripts = e.scripts }

abbrev pub ProgramsRunByChains : Type 0
ProgramsRunByChains =
    (texts : TextSurroundings) (working : Option (List ℕ)) (env_bytes : ℕ) (path : List ℕ) (args : List (List ℕ)) (e : Expanded)
    → expanded_from texts working env_bytes path args ≡ Ok e → RunsByChain texts working env_bytes path args e

-- what a program is found by is a guest text: no file runs that stands on the host alone
abbrev pub ProgramsAreOfGuestTexts : Type 0
ProgramsAreOfGuestTexts =
    (texts : TextSurroundings) (working : Option (List ℕ)) (path : List ℕ) (program : Program) → program_from texts working path ≡ Ok program
    → (t : Text) × (program.host ≡ text_of (host_of texts.bindings t)) × (program.index ≡ index_of texts.bindings t)

-- ---- arguments

-- behind scripts stand the path of the first of them, as it was given, and its arguments but the first; before these
-- what the scripts put there, the last interpreter's own path at the head
abbrev pub ArgumentsFollow : Type 0
ArgumentsFollow =
    (texts : TextSurroundings) (working : Option (List ℕ)) (env_bytes n : ℕ) (first last : Command) → Chain texts working env_bytes (suc n) first last
    → (put : List (List ℕ)) × (last.args ≡ last.path ∷ (put ++ first.path ∷ drop 1 first.args))
