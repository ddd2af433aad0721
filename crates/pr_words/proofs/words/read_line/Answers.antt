use Rattle.std.proofs.Common.{◌≤◌, ◌+◌, ◌∷◌, List, ℕ, length, map, sym, ap, ◌∙◌, subst, arith, Ok}
use Rattle.std.specs.String.{string_bytes}
use Rattle.std.proofs.lemmas.List.{drop-map, length-map, take_rest}
use Rattle.pr_words.specs.Steps.{step_of, StepsTo}
use Rattle.pr_words.proofs.ReadLemmas.{IsReading}
use Rattle.pr_words.proofs.LoopLemmas.{reading_more, command_read, end_read, fault_read}
use Rattle.pr_words.proofs.words.read_line.Goals as goal

pub returns-in_err-taken : goal.returns-in_err-taken
returns-in_err-taken c =
    let all = map string_bytes c.args.words.now in
    let behind = map string_bytes c.in-Some.behind.now in
    let front = ap (map string_bytes) c.in-Some.ensures.cases.0 ∙ ap (λ (w : List ℕ). w ∷ behind) (sym c.as_bytes.ensures.value) in
    let main = fault_read c.loop-word.so_far c.read_option.new.so_far c.loop-word.place c.as_bytes.result.now behind (map string_bytes c.loop-word.rest.now) all c.in_err-taken.field-0.0 c.loop-word.invariant front c.in_err-taken.ensures.value in
    grind (arith, main)

pub returns-then-taken-eq0 : goal.returns-then-taken-eq0
returns-then-taken-eq0 c =
    let all = map string_bytes c.args.words.now in
    let behind = map string_bytes c.in-Some.behind.now in
    let front = ap (map string_bytes) c.in-Some.ensures.cases.0 ∙ ap (λ (w : List ℕ). w ∷ behind) (sym c.as_bytes.ensures.value) in
    let Q : ℕ → Type 0 = λ k. StepsTo c.loop-word.place (step_of c.loop-word.place c.as_bytes.result.now behind c.loop-word.so_far) (Ok k) c.read_option.new.so_far in
    let step = subst Q c.if-taken-eq0.true c.in_ok-taken.ensures.value in
    command_read c.loop-word.so_far c.read_option.new.so_far c.loop-word.place c.as_bytes.result.now behind (map string_bytes c.loop-word.rest.now) all c.finish.result c.loop-word.invariant front step c.finish.ensures

pub loop-word-preserved : goal.loop-word-preserved
loop-word-preserved c =
    let all = map string_bytes c.args.words.now in
    let behind = map string_bytes c.in-Some.behind.now in
    let front = ap (map string_bytes) c.in-Some.ensures.cases.0 ∙ ap (λ (w : List ℕ). w ∷ behind) (sym c.as_bytes.ensures.value) in
    let len = length-map c.in-Some.behind.now string_bytes in
    let within : c.in_ok-taken.taken ≤ length behind + 1 = omega (arith, len, c.in_ok-taken.ensures.within) in
    let main = reading_more c.loop-word.so_far c.read_option.new.so_far c.loop-word.place c.in_ok-taken.taken c.as_bytes.result.now behind (map string_bytes c.loop-word.rest.now) all c.loop-word.invariant front c.in_ok-taken.ensures.value c.if-taken-eq0.false within c.in_ok-taken.ensures.room in
    let P : List (List ℕ) → Type 0 = λ l. IsReading c.read_option.new.so_far (c.loop-word.place + c.in_ok-taken.taken) l all in
    subst P (drop-map string_bytes c.in_ok-taken.taken c.loop-word.rest.now ∙ ap (map string_bytes) (sym (take_rest c.loop-word.rest.now c.in_ok-taken.taken))) main

pub returns : goal.returns
returns c =
    let all = map string_bytes c.args.words.now in
    let rest = map string_bytes c.loop-word.rest.now in
    let len = length-map c.loop-word.rest.now string_bytes in
    end_read c.loop-word.so_far c.loop-word.place rest all c.finish-2.result c.loop-word.invariant (len ∙ c.in_default.ensures.cases) c.finish-2.ensures
