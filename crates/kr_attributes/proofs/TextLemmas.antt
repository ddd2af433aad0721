-- What calls tell of texts and names.
use Rattle.std.proofs.Common.{◌≡◌, ℕ, ◌+◌, ◌≤◌, ◌<◌, Bool, true, false, List, [], ◌∷◌, ◌++◌, length, take, Option, Some, None, refl, ap, sym, ◌∙◌, arith}
use Rattle.std.specs.Prelude.{nat_lt}
use Rattle.std.specs.Bool.{if◌then◌else◌}
use Rattle.std.specs.Option.{option_map, option_and_then}
use Rattle.std.proofs.lemmas.Bool.Decides.{nat_tests}
use Rattle.std.proofs.lemmas.List.{length-append, length-take-le, take_all}
use Rattle.kr_seen.specs.pr_base.declared.errno.Errno.TheVariants.{EFAULT, ERANGE}
use Rattle.kr_seen.specs.rv_mem.Actions.{write_if_allowed}
use Rattle.kr_seen.specs.kr_view.View.{Row}
use Rattle.kr_seen.specs.kr_model.Applied.{cwd_of}
use Rattle.kr_seen.specs.kr_model.AttributeRows.{tell_text}
use Rattle.kr_seen.specs.kr_model.DirectoryRows.{tell_directory}
use Rattle.kr_seen.specs.kr_model.ProcessDirectory.{name_text, space_of}
use Rattle.kr_seen.specs.kr_model.Reply.{done, refuse}
use Rattle.kr_seen.specs.kr_model.State.{Process, State, process}

-- ---- the text of a link

-- as many bytes as fit
pub tells : (buf size n : ℕ) (text : List ℕ) → n ≤ length text → (size < length text → n ≡ size) → (length text ≤ size → n ≡ length text)
    → tell_text buf size text ≡ write_if_allowed buf (take n text) (refuse EFAULT) (done n [])
tells buf size n text most cut whole =
    ap (λ bytes. write_if_allowed buf bytes (refuse EFAULT) (done (length bytes) [])) (by (nat_lt size (length text)) refl)
    ∙ ap (λ count. write_if_allowed buf (take n text) (refuse EFAULT) (done count [])) (length-take-le n text most)
  where
    by : (b : Bool) → nat_lt size (length text) ≡ b → take size text ≡ take n text
    by true e = let less : size < length text = grind (arith, nat_tests) in ap (λ m. take m text) (sym (cut less))
    by false e =
        let few : length text ≤ size = grind (arith, nat_tests) in
        let is = whole few in
        let all : length text ≤ n = omega arith in
        take_all size text few ∙ sym (take_all n text all)

-- ---- the name of the working directory

pub too-long : (buf size : ℕ) (name : List ℕ) → size ≤ length name → tell_directory buf size name ≡ refuse ERANGE
too-long buf size name few =
    let e : nat_lt size (length name + 1) ≡ true = grind (arith, nat_tests) in
    ap (λ b. if b then refuse ERANGE else write_if_allowed buf (name ++ 0 ∷ []) (refuse EFAULT) (done (length name + 1) [])) e

pub fits : (buf size : ℕ) (name bytes : List ℕ) → length name < size → bytes ≡ name ++ 0 ∷ [] → tell_directory buf size name ≡ write_if_allowed buf bytes (refuse EFAULT) (done (length bytes) [])
fits buf size name bytes more is =
    let e : nat_lt size (length name + 1) ≡ false = grind (arith, nat_tests) in
    let long : length (name ++ 0 ∷ []) ≡ length name + 1 = length-append name (0 ∷ []) in
    ap (λ b. if b then refuse ERANGE else write_if_allowed buf (name ++ 0 ∷ []) (refuse EFAULT) (done (length name + 1) [])) e
    ∙ ap (λ n. write_if_allowed buf (name ++ 0 ∷ []) (refuse EFAULT) (done n [])) (sym long)
    ∙ ap (λ bytes. write_if_allowed buf bytes (refuse EFAULT) (done (length bytes) [])) (sym is)

-- the text of a process's link to its working directory is the name of that
pub name-of-cwd : {X : Type 0} (table : List Row) (s : State ℕ X) (pid : ℕ)
    → option_and_then (λ p. name_text (space_of table s) p 0 []) (cwd_of pid s) ≡ option_and_then (λ (p : Process ℕ X). name_text (space_of table s) p.cwd 0 []) (process pid s)
name-of-cwd {X} table s pid = by (process pid s)
  where
    by : (o : Option (Process ℕ X)) → option_and_then (λ p. name_text (space_of table s) p 0 []) (option_map (λ (p : Process ℕ X). p.cwd) o) ≡ option_and_then (λ (p : Process ℕ X). name_text (space_of table s) p.cwd 0 []) o
    by None = refl
    by (Some p) = refl
