-- Outcomes are told apart, and a case whose report is put.
use Rattle.std.proofs.Common.{◌≡◌, ◌≢◌, ◌&&◌, ℕ, Bool, true, false, List, [], ◌∷◌, inl, refl, ap, subst, ◌∙◌, IsTrue, Decides}
use Rattle.std.proofs.lemmas.Bool.Decides.{Decides-eqb, same_from_decides}
use Rattle.std.specs.Prelude.{◌↔◌, Result, Err}
use base.Stored.{Gv, gnil, gnum, gcons}
use Rattle.pr_sources.specs.pr_io.Drawn.{Received}
use Rattle.pr_sources.specs.declared.answer.Answer.{Answer}
use Rattle.pr_sources.specs.declared.answer.Answer.TheVariants as answer
use Rattle.pr_sources.specs.declared.answer.Answer.TheVariants.{NoMemory}
use Rattle.pr_run.specs.Alike.{same_codes}
use Rattle.pr_run.specs.Case.{Outcome, agree, outcome_code, status_by, summary, told_of}
use Rattle.pr_run.specs.Puts.{AnswersReport, GotNone, GotPrefix, PutsReport, StopsInOut, answer_told}
use Rattle.pr_run.specs.Report.{Report}
use Rattle.pr_run.specs.declared.turns.Stop.{Stop}
use Rattle.pr_run.specs.declared.turns.Stop.TheVariants as stop
use Rattle.pr_run.proofs.BytesLemmas.{gets-none}

-- ---- codes

both-true : (a b : Bool) → a ≡ true → b ≡ true → (a && b) ≡ true
both-true true b p q = q
both-true false b p q = absurd cc

first-true : (a b : Bool) → (a && b) ≡ true → a ≡ true
first-true true b p = refl
first-true false b p = p

second-true : (a b : Bool) → (a && b) ≡ true → b ≡ true
second-true true b p = p
second-true false b p = absurd cc

same-itself : (x : Gv) → same_codes x x ≡ true
unfolding same_codes
same-itself gnil = refl
same-itself (gnum x) = (Decides-eqb x x).1 refl
same-itself (gcons x xs) = both-true (same_codes x x) (same_codes xs xs) (same-itself x) (same-itself xs)

same-equal : (x y : Gv) → same_codes x y ≡ true → x ≡ y
unfolding same_codes
same-equal gnil gnil e = refl
same-equal gnil (gnum y) e = absurd cc
same-equal gnil (gcons y ys) e = absurd cc
same-equal (gnum x) gnil e = absurd cc
same-equal (gnum x) (gnum y) e = let p : x ≡ y = (Decides-eqb x y).0 e in λ i. gnum (p i)
same-equal (gnum x) (gcons y ys) e = absurd cc
same-equal (gcons x xs) gnil e = absurd cc
same-equal (gcons x xs) (gnum y) e = absurd cc
same-equal (gcons x xs) (gcons y ys) e =
    let p = same-equal x y (first-true (same_codes x y) (same_codes xs ys) e) in
    let q = same-equal xs ys (second-true (same_codes x y) (same_codes xs ys) e) in
    λ i. gcons (p i) (q i)

-- ---- outcomes

agree-decides : (a b : Outcome) → Decides (agree a b) (a ≡ b)
unfolding agree
agree-decides a b = (λ e. outcome_code.inj a b (same-equal (outcome_code.code a) (outcome_code.code b) e), λ e. subst (λ c. same_codes (outcome_code.code a) (outcome_code.code c) ≡ true) e (same-itself (outcome_code.code a)))

-- what is true exactly where two outcomes are equal
pub agrees : (r : Bool) (a b : Outcome) → IsTrue r ↔ (a ≡ b) → r ≡ agree a b
agrees r a b is = same_from_decides r (agree a b) (is.0, is.1) (agree-decides a b)

pub agree-equal : (a b : Outcome) → IsTrue (agree a b) ↔ (a ≡ b)
agree-equal a b = ((agree-decides a b).0, (agree-decides a b).1)

-- ---- what is told of a case

pub told-by : (n : ℕ) (o : Outcome) (text listing canon : List ℕ) (status : ℕ) (same own : Bool) → text ≡ summary n o.puts o.ending o.status listing same → listing ≡ canon → status ≡ status_by same → same ≡ own
    → ◌≡◌ {A = Report} (record { puts = record { out = text; err = [] } ∷ []; calm = []; left = listing; answer = answer.Ended status }) (told_of n o canon own)
told-by n o text listing canon status same own text-is listed status-is agreed =
    let whole : text ≡ summary n o.puts o.ending o.status canon own = text-is ∙ (λ i. summary n o.puts o.ending o.status (listed i) (agreed i)) in
    let answered : status ≡ status_by own = status-is ∙ ap status_by agreed in
    λ i. record { puts = record { out = whole i; err = [] } ∷ []; calm = []; left = listed i; answer = answer.Ended (answered i) }

-- ---- and put

-- the output fails at the summary
pub stops-in-summary : (text : List ℕ) (out err : Received) → text ≢ [] → GotPrefix out text → GotNone err → StopsInOut (record { out = text; err = [] } ∷ []) out err
stops-in-summary text out err some put none = record { made = 0; put = record { out = text; err = [] }; next = refl; some = some; out_got = put; err_got = gets-none err.before err.now none }

-- memory runs out before the summary
pub nothing-told : (r : Report) (out err left : Received) → GotNone out → GotNone err → GotNone left → AnswersReport r out err left NoMemory
nothing-told r out err left no_out no_err no_left = record {
  told = Err stop.NoMemory;
  puts = (inl (record { made = 0; out_got = gets-none out.before out.now no_out; err_got = inl (gets-none err.before err.now no_err) }), no_left);
  answer_is = refl;
}

pub reported : (own told : Report) (out err left : Received) (t : Result Answer Stop) (a : Answer) → own ≡ told → PutsReport own out err left t → a ≡ answer_told t → AnswersReport told out err left a
reported own told out err left t a e puts is = record { told = t; puts = subst (λ r. PutsReport r out err left t) e puts; answer_is = is }
