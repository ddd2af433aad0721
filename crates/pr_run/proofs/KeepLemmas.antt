-- Turns whose bytes are kept one behind the other.
use Rattle.std.proofs.Common.{◌≡◌, ℕ, zero, suc, ◌+◌, ◌<◌, List, [], ◌∷◌, ◌++◌, Result, Ok, Err, take, length, refl, sym, ap, ◌∙◌, arith, get_or, length-append}
use Rattle.std.specs.Prelude.{IfOk, OnOk}
use Rattle.std.proofs.Math.Seq.{take-suc}
use Rattle.std.proofs.lemmas.List.{append-nil}
use Rattle.pr_sources.specs.kr_tree.Tree.{nodes}
use Rattle.kr_loose.specs.kr_turns.Run.{Ending, Put, Ran}
use Rattle.kr_loose.specs.kr_turns.Turn.{Machine}
use Rattle.pr_run.specs.Case.{Outcome, outcome}
use Rattle.pr_run.specs.Going.{Went, ran_of}
use Rattle.pr_run.specs.Keeping.{IsKept, put_told, puts_told}
use Rattle.pr_run.specs.Puts.{end_told}
use Rattle.pr_run.specs.Report.{out_part, outs}
use Rattle.pr_run.specs.declared.keeping.Written.{Written}
use Rattle.pr_run.specs.declared.turns.End.{End}
use Rattle.pr_run.proofs.BytesLemmas.{cons-parts, gathered-append}

-- what follows of an answer
pub if-ok : {A E : Type 0} {P Q : A → Type 0} (r : Result A E) → ((x : A) → P x → Q x) → IfOk r P → IfOk r Q
if-ok (Ok x) f p = f x p
if-ok (Err e) f p = tt

pub told-push : (xs : List Written) (w : Written) (put : Put) → put_told w ≡ put → puts_told (xs ++ w ∷ []) ≡ puts_told xs ++ put ∷ []
told-push [] w put e = ap (λ p. p ∷ []) e
told-push (x ∷ xs) w put e = ap (λ ps. put_told x ∷ ps) (told-push xs w put e)

-- what is kept of a run whose parts are these is its outcome
pub outcome-by : {S : Type 0} (ran : Ran S) (puts : List Put) (ending : Ending) (m : Machine S) → ran.puts ≡ puts → ran.ending ≡ ending → ran.machine ≡ m
    → ◌≡◌ {A = Outcome} (record { puts = puts; ending = ending; status = m.tally.status; tree = nodes m.state.tree }) (outcome ran)
outcome-by ran puts ending m p e q = λ i. record { puts = sym p i; ending = sym e i; status = (sym q i).tally.status; tree = nodes (sym q i).state.tree }

-- what is kept of what goes through a run is the run's
module _ {S : Type 0} (ran : Ran S) (whole : Machine S → Went (Machine S)) (m new : Machine S) (puts : List Put) (same : ran ≡ ran_of (whole m)) where
  abbrev Keeps : End → Type 0
  Keeps e = (x : Machine S) → x ≡ m → IsKept (whole x) (λ y. y ≡ new) puts (end_told e)

  pub kept-ends : {E : Type 0} (r : Result End E) → IfOk r Keeps → IfOk r (λ e. ran.ending ≡ end_told e)
  kept-ends (Ok e) kept = ap (λ (one : Ran S). one.ending) same ∙ (kept m refl).ending_is
  kept-ends (Err e) kept = tt

  pub kept-puts : {E : Type 0} (r : Result End E) → IfOk r Keeps → OnOk r (ran.puts ≡ puts)
  kept-puts (Ok e) kept = ap (λ (one : Ran S). one.puts) same ∙ (kept m refl).puts_are
  kept-puts (Err e) kept = tt

  pub kept-left : {E : Type 0} (r : Result End E) → IfOk r Keeps → OnOk r (ran.machine ≡ new)
  kept-left (Ok e) kept = ap (λ (one : Ran S). one.machine) same ∙ (kept m refl).left
  kept-left (Err e) kept = tt

-- ---- how many bytes

output-push : (xs : List Written) (w : Written) → length (outs (puts_told (xs ++ w ∷ []))) ≡ length (outs (puts_told xs)) + length w.out
output-push xs w =
    ap (λ ps. length (outs ps)) (told-push xs w (put_told w) refl)
    ∙ ap length (gathered-append out_part (puts_told xs) (put_told w ∷ []))
    ∙ length-append (outs (puts_told xs)) (w.out ++ [])
    ∙ ap (λ l. length (outs (puts_told xs)) + length l) (append-nil w.out)

pub output-more : (xs : List Written) (k : ℕ) (w : Written) → w ≡ get_or xs k w → k < length xs → length (outs (puts_told (take (k + 1) xs))) ≡ length (outs (puts_told (take k xs))) + length w.out
output-more xs k w is below =
    let one : k + 1 ≡ suc k = omega arith in
    ap (λ ps. length (outs (puts_told ps))) (ap (λ n. take n xs) one ∙ take-suc xs k w below ∙ ap (λ x. take k xs ++ x ∷ []) (sym is))
    ∙ output-push (take k xs) w

-- ---- turns that differ

pub same-at : (xs ys : List Written) (k : ℕ) (x y : Written) → x ≡ get_or xs k x → y ≡ get_or ys k y → k < length xs → k < length ys → puts_told xs ≡ puts_told ys → put_told x ≡ put_told y
same-at [] ys k x y p q below also e = absurd (omega (arith, below))
same-at (a ∷ xs) [] k x y p q below also e = absurd (omega (arith, also))
same-at (a ∷ xs) (b ∷ ys) zero x y p q below also e = ap put_told p ∙ (cons-parts (put_told a) (put_told b) (puts_told xs) (puts_told ys) e).0 ∙ sym (ap put_told q)
same-at (a ∷ xs) (b ∷ ys) (suc k) x y p q below also e = same-at xs ys k x y p q (omega (arith, below)) (omega (arith, also)) (cons-parts (put_told a) (put_told b) (puts_told xs) (puts_told ys) e).1
