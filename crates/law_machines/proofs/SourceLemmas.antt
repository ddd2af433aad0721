-- What is read of the sources has the options that the words ask for.
use Rattle.std.proofs.Common.{◌≡◌, List, ℕ, Ok, Err, refl, sym, ap}
use Rattle.std.specs.Prelude.{Result}
use Rattle.pr_top.specs.pr_words.declared.options.Options.{Options}
use Rattle.pr_top.specs.pr_sources.declared.answer.Answer.{Answer}
use Rattle.pr_top.specs.pr_sources.Reading.{asks, read_asked, read_input, read_listing, with_input}
use Rattle.pr_top.specs.pr_sources.Within.{and_then}
use Rattle.pr_top.specs.pr_sources.declared.reading.Asked.{Asked}

-- a stage that comes to an outcome, by those before it
and-then : {A B : Type 0} (r : Result A Answer) (go : A → Result B Answer) (y : B) → and_then r go ≡ Ok y → (x : A) × (r ≡ Ok x) × (go x ≡ Ok y)
and-then (Ok x) go y e = (x, refl, e)
and-then (Err answer) go y e = absurd cc

same-asked : (x y : Asked) → ◌≡◌ {A = Result Asked Answer} (Ok x) (Ok y) → x ≡ y
same-asked x y e = cc

pub read-has-options : (o : Options) (tree elf input : List ℕ) (a : Asked) → read_asked o tree elf input ≡ Ok a → a.options ≡ o
read-has-options o tree elf input a e =
    let read = and-then (read_listing tree elf) (λ read. with_input o read input) a e in
    let bytes = and-then (read_input input) (λ bytes. Ok (asks o read.0 bytes)) a read.2 in
    sym (ap (λ (a : Asked). a.options) (same-asked (asks o read.0 bytes.0) a bytes.2))
