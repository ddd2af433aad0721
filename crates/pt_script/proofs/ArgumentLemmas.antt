-- The arguments behind scripts.
use Rattle.std.proofs.Common.{◌≡◌, ℕ, zero, suc, Bool, true, false, List, ◌∷◌, ◌++◌, drop, Option, Some, None, Result, Ok, Err, refl, sym, ap, ◌∙◌, append_assoc}
use Rattle.std.specs.Prelude.{if◌then◌else◌}
use Rattle.pt_args.specs.pr_base.declared.errno.Errno.{Errno}
use Rattle.pt_args.specs.pr_base.declared.errno.Errno.TheVariants.{E2BIG}
use Rattle.pt_args.specs.pt_canon.TextWalk.{TextSurroundings}
use Rattle.pt_args.specs.kr_calls.Expansion.{argument_of, is_too_big, new_args}
use Rattle.pt_args.specs.kr_calls.Scripts.{script_of}
use Rattle.pt_args.specs.Walks.{and_then}
use Rattle.pt_script.specs.Chains.{Chain, LeadsTo}
use Rattle.pt_script.specs.Expanding.{command_of, if_args_fit, interpreted_by}
use Rattle.pt_script.specs.Laws.{ArgumentsFollow}
use Rattle.pt_script.specs.Programs.{program_from}
use Rattle.pt_script.specs.declared.command.Command.{Command}
use Rattle.pt_script.specs.declared.program.Program.{Program}

abbrev fitted : Bool → Command → Result Command Errno
fitted b next = if b then Err E2BIG else Ok next

module _ (texts : TextSurroundings) (working : Option (List ℕ)) (env_bytes : ℕ) where
  -- an interpreter is a program by its own path, and its arguments are those of a script's line
  pub record IsNext (script next : Command) : Type 0 where
    pub found : program_from texts working next.path ≡ Ok next.program
    pub put : List (List ℕ)
    pub args : next.args ≡ next.path ∷ (put ++ script.path ∷ drop 1 script.args)

  fits : (script next : Command) (line : List ℕ × List ℕ) (program : Program) → program_from texts working line.0 ≡ Ok program → (b : Bool)
      → fitted b (command_of line.0 (new_args line.0 line.1 script.path script.args) program) ≡ Ok next → IsNext script next
  fits script next line program there true e = absurd cc
  fits script next line program there false e =
      let same : command_of line.0 (new_args line.0 line.1 script.path script.args) program ≡ next = cc in
      record {
        found = sym (ap (λ c. program_from texts working c.path) same) ∙ there ∙ ap (λ c. Ok c.program) same;
        put = argument_of line.1;
        args = sym (ap (λ c. c.args) same) ∙ ap (λ c. c.path ∷ (argument_of line.1 ++ script.path ∷ drop 1 script.args)) same;
      }

  by_program : (script next : Command) (line : List ℕ × List ℕ) (r : Result Program Errno) → program_from texts working line.0 ≡ r
      → and_then r (if_args_fit env_bytes line.0 (new_args line.0 line.1 script.path script.args)) ≡ Ok next → IsNext script next
  by_program script next line (Ok program) there e = fits script next line program there (is_too_big env_bytes (new_args line.0 line.1 script.path script.args)) e
  by_program script next line (Err why) there e = absurd cc

  by_its_line : (script next : Command) (line : Option (List ℕ × List ℕ)) → interpreted_by texts working env_bytes script line ≡ Ok next → IsNext script next
  by_its_line script next None e = absurd cc
  by_its_line script next (Some line) e = by_program script next line (program_from texts working line.0) refl e

  pub next_of : (script next : Command) → LeadsTo texts working env_bytes script next → IsNext script next
  next_of script next leads = by_its_line script next (script_of script.program.head) leads.gives

  -- what a chain leads to was found by its path
  pub found_at : (n : ℕ) (first last : Command) → program_from texts working first.path ≡ Ok first.program → Chain texts working env_bytes n first last → program_from texts working last.path ≡ Ok last.program
  found_at zero first last there same = sym (ap (λ c. program_from texts working c.path) same) ∙ there ∙ ap (λ c. Ok c.program) same
  found_at (suc n) first last there (next, leads, chain) = found_at n next last (next_of first next leads).found chain

  follow : (n : ℕ) (first last : Command) → Chain texts working env_bytes (suc n) first last
      → (put : List (List ℕ)) × (last.args ≡ last.path ∷ (put ++ first.path ∷ drop 1 first.args))
  follow zero first last (next, leads, same) =
      let is = next_of first next leads in
      (is.put, sym (ap (λ c. c.args) same) ∙ is.args ∙ ap (λ c. c.path ∷ (is.put ++ first.path ∷ drop 1 first.args)) same)
  follow (suc n) first last (next, leads, chain) =
      let is = next_of first next leads in
      let rest : List (List ℕ) = first.path ∷ drop 1 first.args in
      let (put, args) = follow n next last chain in (
        put ++ next.path ∷ is.put,
        args
            ∙ ap (λ a. last.path ∷ (put ++ next.path ∷ drop 1 a)) is.args
            ∙ ap (λ a. last.path ∷ a) (sym (append_assoc put (next.path ∷ is.put) rest)),
      )

pub arguments_follow : ArgumentsFollow
arguments_follow texts working env_bytes n first last chain = follow texts working env_bytes n first last chain
