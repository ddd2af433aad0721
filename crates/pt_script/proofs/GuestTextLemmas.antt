-- Programs are found by guest texts.
use Rattle.std.proofs.Common.{◌≡◌, ℕ, List, Option, Result, Ok, Err, refl, sym, ap, ◌∙◌}
use Rattle.std.specs.Prelude.{take}
use Rattle.pt_args.specs.pr_base.Paths.{text_of}
use Rattle.pt_args.specs.pr_base.Texts.{Text}
use Rattle.pt_args.specs.pr_base.declared.errno.Errno.{Errno}
use Rattle.pt_args.specs.pr_base.declared.path.WalkMode.TheVariants.{Look}
use Rattle.pt_args.specs.pt_bind.Binding.{host_of, index_of, names_of}
use Rattle.pt_args.specs.pt_canon.Laws.{AnswersAreOfTheirTexts}
use Rattle.pt_args.specs.pt_canon.TextWalk.{TextSurroundings}
use Rattle.pt_args.specs.pt_canon.declared.canon.Canon.{Canon}
use Rattle.pt_args.specs.Walks.{and_then}
use Rattle.pt_script.specs.Laws.{ProgramsAreOfGuestTexts}
use Rattle.pt_script.specs.Programs.{base_from, canon_from, head_size, program_in}
use Rattle.pt_script.specs.declared.program.Program.{Program}

abbrev with_head : Canon → List ℕ → Program
with_head canon head = record { host = canon.host; index = canon.index; head = take head_size head }

module _ (own : AnswersAreOfTheirTexts) (texts : TextSurroundings) (working : Option (List ℕ)) (path : List ℕ) (program : Program) where
  abbrev OfGuestText : Type 0
  OfGuestText = (t : Text) × (program.host ≡ text_of (host_of texts.bindings t)) × (program.index ≡ index_of texts.bindings t)

  by_head : (base : List ℕ) (canon : Canon) → canon_from texts path base ≡ Ok canon → (r : Result (List ℕ) Errno)
      → and_then r (λ head. Ok (with_head canon head)) ≡ Ok program → OfGuestText
  by_head base canon there (Ok head) is =
      let same : with_head canon head ≡ program = cc in
      let t = own texts Look (names_of base) path canon there in
      (t.0, sym (ap (λ p. p.host) same) ∙ t.2, sym (ap (λ p. p.index) same) ∙ t.3)
  by_head base canon there (Err why) is = absurd cc

  by_canon : (base : List ℕ) (r : Result Canon Errno) → canon_from texts path base ≡ r
      → and_then r (λ canon. program_in texts.peeked canon.host canon.index) ≡ Ok program → OfGuestText
  by_canon base (Ok canon) there is = by_head base canon there (texts.peeked.head canon.host head_size) is
  by_canon base (Err why) there is = absurd cc

  by_base : (r : Result (List ℕ) Errno) → and_then (and_then r (canon_from texts path)) (λ canon. program_in texts.peeked canon.host canon.index) ≡ Ok program → OfGuestText
  by_base (Ok base) is = by_canon base (canon_from texts path base) refl is
  by_base (Err why) is = absurd cc

pub programs_are_of_guest_texts : AnswersAreOfTheirTexts → ProgramsAreOfGuestTexts
programs_are_of_guest_texts own texts working path program is = by_base own texts working path program (base_from working path) is
