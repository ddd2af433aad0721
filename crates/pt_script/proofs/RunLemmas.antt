-- Programs that run in the end, by the chains of scripts that led to them.
use Rattle.std.proofs.Common.{◌≡◌, ◌≤◌, ℕ, zero, suc, ◌-◌, Bool, true, false, List, Option, Result, Ok, Err, refl, sym, ap, ◌∙◌, subst, arith}
use Rattle.pt_args.specs.pr_base.declared.errno.Errno.{Errno}
use Rattle.pt_args.specs.pr_base.declared.errno.Errno.TheVariants.{ELOOP}
use Rattle.pt_args.specs.pt_canon.TextWalk.{TextSurroundings}
use Rattle.pt_args.specs.kr_calls.Expansion.{is_script, most_scripts, runs}
use Rattle.pt_args.specs.kr_calls.Expansion.{Expanded as Ended}
use Rattle.pt_args.specs.Walks.{and_then}
use Rattle.pt_script.proofs.ArgumentLemmas.{found_at}
use Rattle.pt_script.proofs.ChainLemmas.{loop_ends, program_ends, script_step}
use Rattle.pt_script.specs.Chains.{Chain}
use Rattle.pt_script.specs.Expanding.{command_of, ends_of, interpreted, shown, shown_result}
use Rattle.pt_script.specs.Laws.{ProgramsRunByChains, RunsByChain}
use Rattle.pt_script.specs.Programs.{program_from}
use Rattle.pt_script.specs.declared.command.Command.{Command}
use Rattle.pt_script.specs.declared.expansion.Expanded.{Expanded}
use Rattle.pt_script.specs.declared.program.Program.{Program}

module _ (texts : TextSurroundings) (working : Option (List ℕ)) (env_bytes : ℕ) where
  -- where `left` scripts may still be expanded
  record ByChain (left : ℕ) (c : Command) (e : Ended Program) : Type 0 where
    n : ℕ
    few : n ≤ left
    last : Command
    chain : Chain texts working env_bytes n c last
    is_last : is_script last.program.head ≡ false
    comes : e ≡ record { file = last.program; args = last.args; scripts = most_scripts - (left - n) }

  at_its_end : (left : ℕ) (c : Command) (e : Ended Program) → is_script c.program.head ≡ false → ends_of texts working env_bytes left c ≡ Ok e → ByChain left c e
  at_its_end left c e none is =
      let ends : runs left c.program c.args ≡ Ok e = sym (program_ends texts working env_bytes left c none) ∙ is in
      let none_gone : left ≡ left - 0 = omega arith in
      let same : record { file = c.program; args = c.args; scripts = most_scripts - left } ≡ e = cc in
      record { n = 0; few = omega arith; last = c; chain = refl; is_last = none; comes = sym same ∙ ap (λ k. record { file = c.program; args = c.args; scripts = most_scripts - k }) none_gone }

  behind : (left : ℕ) (c : Command) (e : Ended Program) (r : Result Command Errno) → interpreted texts working env_bytes c ≡ r → is_script c.program.head ≡ true
      → ((d : Command) → ends_of texts working env_bytes left d ≡ Ok e → ByChain left d e) → and_then r (ends_of texts working env_bytes left) ≡ Ok e → ByChain (suc left) c e
  behind left c e (Ok next) gives marked again is =
      let h = again next is in
      let few : h.n ≤ left = h.few in
      let less : left - h.n ≡ suc left - suc h.n = omega arith in
      record {
        n = suc h.n;
        few = omega arith;
        last = h.last;
        chain = (next, record { marked = marked; gives = gives }, h.chain);
        is_last = h.is_last;
        comes = h.comes ∙ ap (λ k. record { file = h.last.program; args = h.last.args; scripts = most_scripts - k }) less;
      }
  behind left c e (Err why) gives marked again is = absurd cc

  at_most_here : (c : Command) (e : Ended Program) (b : Bool) → is_script c.program.head ≡ b → ends_of texts working env_bytes 0 c ≡ Ok e → ByChain 0 c e
  at_most_here c e true marked is = let no : Err ELOOP ≡ Ok e = sym (loop_ends texts working env_bytes c marked) ∙ is in absurd cc
  at_most_here c e false marked is = at_its_end 0 c e marked is

  one_more : (left : ℕ) (c : Command) (e : Ended Program) (b : Bool) → is_script c.program.head ≡ b
      → ((d : Command) → ends_of texts working env_bytes left d ≡ Ok e → ByChain left d e) → ends_of texts working env_bytes (suc left) c ≡ Ok e → ByChain (suc left) c e
  one_more left c e true marked again is = behind left c e (interpreted texts working env_bytes c) refl marked again (sym (script_step texts working env_bytes left c marked) ∙ is)
  one_more left c e false marked again is = at_its_end (suc left) c e marked is

  by_chain : (left : ℕ) (c : Command) (e : Ended Program) → ends_of texts working env_bytes left c ≡ Ok e → ByChain left c e
  by_chain zero c e is = at_most_here c e (is_script c.program.head) refl is
  by_chain (suc left) c e is = one_more left c e (is_script c.program.head) refl (λ d ends. by_chain left d e ends) is

  shown_by : (path : List ℕ) (args : List (List ℕ)) (e : Expanded) (first : Program) → program_from texts working path ≡ Ok first
      → (r : Result (Ended Program) Errno) → ends_of texts working env_bytes most_scripts (command_of path args first) ≡ r → shown_result r ≡ Ok e → RunsByChain texts working env_bytes path args e
  shown_by path args e first begins (Ok ended) ends is =
      let same : shown ended ≡ e = cc in
      let h = by_chain most_scripts (command_of path args first) ended ends in
      let few : h.n ≤ 5 = h.few in
      let count : most_scripts - (most_scripts - h.n) ≡ h.n = omega arith in
      let scripts : h.n ≡ e.scripts = sym (sym (ap (λ x. x.scripts) same) ∙ ap (λ x. x.scripts) h.comes ∙ count) in
      record {
        first = first;
        begins = begins;
        last = h.last;
        chain = subst (λ k. Chain texts working env_bytes k (command_of path args first) h.last) scripts h.chain;
        few = subst (λ k. k ≤ 5) scripts few;
        is_last = h.is_last;
        found = found_at texts working env_bytes h.n (command_of path args first) h.last begins h.chain;
        runs = sym same ∙ ap shown h.comes
            ∙ ap (λ k. record { host = h.last.program.host; index = h.last.program.index; args = h.last.args; scripts = k }) (count ∙ scripts);
      }
  shown_by path args e first begins (Err why) ends is = absurd cc

  found_first : (path : List ℕ) (args : List (List ℕ)) (e : Expanded) (r : Result Program Errno) → program_from texts working path ≡ r
      → and_then r (λ program. shown_result (ends_of texts working env_bytes most_scripts (command_of path args program))) ≡ Ok e → RunsByChain texts working env_bytes path args e
  found_first path args e (Ok first) begins is = shown_by path args e first begins (ends_of texts working env_bytes most_scripts (command_of path args first)) refl is
  found_first path args e (Err why) begins is = absurd cc

pub programs_run_by_chains : ProgramsRunByChains
programs_run_by_chains texts working env_bytes path args e is = found_first texts working env_bytes path args e (program_from texts working path) refl is
