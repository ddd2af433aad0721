-- Pages that are made ready before they are put in place.
use Rattle.std.specs.FinMap as map
use Rattle.std.proofs.Common.{◌≡◌, ◌≢◌, inl, inr, ℕ, ◌+◌, ◌-◌, ◌*◌, ◌/◌, ◌%◌, ◌^◌, ◌≤◌, ◌<◌, suc, List, [], ◌∷◌, ◌++◌, length, refl, sym, ap, ◌∙◌, arith, min, Option, Some, Result, Ok, Err}
use Rattle.std.specs.Result.{IfOk, OnOk, OnErr}
use Rattle.std.specs.Option.{option_map}
use Rattle.std.proofs.lemmas.Bool.{cases_eq}
use Rattle.rv_mem.specs.Page.{PageState, page_written}
use Rattle.rv_mem.specs.Pages.{Pages, with_page, written, replaced}
use Rattle.rv_mem.proofs.PagesLemmas.{written_in_page}
use Rattle.rv_table.proofs.pr_base.MapLemmas.{get-changed_same, get-changed_other, changed-swap, changed-alike}

pub replaced-nil : (m : Pages) (first : ℕ) → replaced m first [] ≡ m
unfolding replaced
replaced-nil m first = refl

-- one page more is the last one put in place
pub replaced-push : (m : Pages) (first : ℕ) (ps : List PageState) (p : PageState) → replaced m first (ps ++ p ∷ []) ≡ with_page (replaced m first ps) (first + length ps) (λ _. p)
unfolding replaced
replaced-push m first [] p = let here : first ≡ first + 0 = omega arith in ap (λ k. with_page m k (λ _. p)) here
replaced-push m first (x ∷ xs) p =
    let place : first + 1 + length xs ≡ first + suc (length xs) = omega arith in
    replaced-push (with_page m first (λ _. x)) (first + 1) xs p ∙ ap (λ k. with_page (replaced m first (x ∷ xs)) k (λ _. p)) place

-- a page behind them may be put in place before them
replaced-with_page : (m : Pages) (first k : ℕ) (ps : List PageState) (p : PageState) → first + length ps ≤ k → replaced (with_page m k (λ _. p)) first ps ≡ with_page (replaced m first ps) k (λ _. p)
unfolding replaced
replaced-with_page m first k [] p h = refl
replaced-with_page m first k (x ∷ xs) p h =
    let apart : first ≢ k = λ e. absurd (omega arith) in
    ap (λ n. replaced n (first + 1) xs) (changed-swap m first k (λ _. x) (λ _. p) apart)
    ∙ replaced-with_page (with_page m first (λ _. x)) (first + 1) k xs p (omega arith)

pub replaced-pop : (m : Pages) (first : ℕ) (ps : List PageState) (p : PageState) → replaced m first (ps ++ p ∷ []) ≡ replaced (with_page m (first + length ps) (λ _. p)) first ps
replaced-pop m first ps p = replaced-push m first ps p ∙ sym (replaced-with_page m first (first + length ps) ps p (omega arith))

-- pages behind them stay
pub get-replaced_past : (m : Pages) (first q : ℕ) (ps : List PageState) → first + length ps ≤ q → map.get (replaced m first ps) q ≡ map.get m q
unfolding replaced
get-replaced_past m first q [] h = refl
get-replaced_past m first q (x ∷ xs) h =
    let apart : q ≢ first = λ e. absurd (omega arith) in
    get-replaced_past (with_page m first (λ _. x)) (first + 1) q xs (omega arith) ∙ get-changed_other m first (λ _. x) q apart

is_that : (f : PageState → PageState) (o : Option PageState) (x p : PageState) → option_map f o ≡ Some p → o ≡ Some x → f x ≡ p
is_that f o x p h e = let some : Some (f x) ≡ Some p = ap (option_map f) (sym e) ∙ h in cc

-- bytes written inside a page that is as it was before other pages were written
pub planned : (m w : Pages) (k i at : ℕ) (bs : List ℕ) (p : PageState) → at ≡ k * 4096 + i → i + length bs ≤ 4096 → map.get w k ≡ map.get m k
    → map.get (written m at bs) k ≡ Some p → written w at bs ≡ with_page w k (λ _. p)
planned m w k i at bs p e h same there =
    let is : option_map (page_written i bs) (map.get w k) ≡ Some p
    = ap (option_map (page_written i bs)) same ∙ sym (get-changed_same m k (page_written i bs)) ∙ ap (λ n. map.get n k) (sym (written_in_page m k i at bs e h)) ∙ there in
    written_in_page w k i at bs e h ∙ changed-alike w k (page_written i bs) (λ _. p) (λ x o. is_that (page_written i bs) (map.get w k) x p is o)

no_pages : (ps : List PageState) → length ps ≡ 0 → ps ≡ []
no_pages [] h = refl
no_pages (p ∷ ps) h = absurd (omega arith)

-- no page is left to put in place
pub replaced_end : (m : Pages) (first : ℕ) (ps : List PageState) → length ps ≡ 0 → replaced m first ps ≡ m
replaced_end m first ps h = ap (replaced m first) (no_pages ps h) ∙ replaced-nil m first

-- ---- answers

pub on_ok : {T E : Type 0} (r : Result T E) (P Q : Type 0) → (P → Q) → OnOk r P → OnOk r Q
on_ok (Ok x) P Q f h = f h
on_ok (Err e) P Q f h = tt

pub on_err : {T E : Type 0} (r : Result T E) (P Q : Type 0) → (P → Q) → OnErr r P → OnErr r Q
on_err (Ok x) P Q f h = tt
on_err (Err e) P Q f h = f h

pub if_ok : {T E : Type 0} (r : Result T E) (P Q : T → Type 0) → ((x : T) → P x → Q x) → IfOk r P → IfOk r Q
if_ok (Ok x) P Q f h = f x h
if_ok (Err e) P Q f h = tt

-- the page that was found, as it is after a write
pub found_after : (m : Pages) (k i at : ℕ) (bs : List ℕ) (x p : PageState) → at ≡ k * 4096 + i → i + length bs ≤ 4096 → map.get m k ≡ Some x → p ≡ page_written i bs x
    → map.get (written m at bs) k ≡ Some p
found_after m k i at bs x p e h there is =
    ap (λ n. map.get n k) (written_in_page m k i at bs e h) ∙ get-changed_same m k (page_written i bs) ∙ ap (option_map (page_written i bs)) there ∙ ap Some (sym is)

-- ---- where the next page lies

-- after `done` of `size` bytes, in `count` pages
pub record IsPlanned (at done size count : ℕ) : Type 0 where
  pub start : done ≡ 0 → count ≡ 0
  pub number : 0 < done → at / 4096 + count ≡ (at + done - 1) / 4096 + 1
  pub edge : done < size → 0 < done → (at + done) % 4096 ≡ 0

pub plan_start : (at size : ℕ) → IsPlanned at 0 size 0
plan_start at size = record { start = λ e. refl; number = λ l. absurd (omega arith); edge = λ h l. absurd (omega arith) }

pub plan_next : (at done size count : ℕ) → IsPlanned at done size count → done < size → (at + done) / 4096 ≡ at / 4096 + count
plan_next at done size count p h =
    elim (cases_eq done 0) [
      | inl e ↦ omega (arith, p.start e)
      | inr d ↦ let some : 0 < done = omega arith in omega (arith, p.number some, p.edge h some)
    ]

pub plan_more : (at done size count n : ℕ) → IsPlanned at done size count → done < size → n ≡ min (4096 - (at + done) % 4096) (size - done) → IsPlanned at (done + n) size (count + 1)
plan_more at done size count n p h e =
    let next = plan_next at done size count p h in
    record {
      start = λ z. absurd (omega arith);
      number = λ l. omega (arith, next);
      edge = λ l s. omega arith;
    }

pub plan_bound : (at done size count : ℕ) → IsPlanned at done size count → done ≤ size → at + size ≤ 2 ^ 64 → at < 2 ^ 64 → at / 4096 + count < 2 ^ 64
plan_bound at done size count p h fits small =
    elim (cases_eq done 0) [
      | inl e ↦ omega (arith, p.start e)
      | inr d ↦ let some : 0 < done = omega arith in omega (arith, p.number some)
    ]
