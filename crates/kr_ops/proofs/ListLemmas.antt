-- Living processes by their numbers: which one is found, and what stands in the list after one of them changed.
use Rattle.std.proofs.Common.{◌≡◌, ℕ, zero, suc, ◌+◌, ◌<◌, true, false, List, [], ◌∷◌, length, get_or, take, refl, sym, ap, subst, ◌∙◌, cond, arith, Some, None}
use Rattle.std.specs.Prelude.{map as map_list, ◌==◌, slice_set}
use Rattle.std.specs.List.{find}
use Rattle.std.proofs.lemmas.Bool.Decides.{nat_tests}
use Rattle.std.proofs.lemmas.List.{get_or_default}
use Rattle.law_lawful.specs.kr_model.Lawful.{RiseFrom, ArePids}
use Rattle.law_lawful.specs.kr_model.State as model
use Rattle.kr_ops.specs.declared.state.Process.{Process}
use Rattle.kr_ops.specs.declared.state.State.{State}
use Rattle.kr_ops.specs.Living.{HaveOthers, HasPid, AreApart}
use Rattle.kr_ops.specs.Meaning.{process_meaning, meaning}

-- ---- tests of numbers

pub same-test : (a b : ℕ) → a ≡ b → (a == b) ≡ true
same-test a b e = grind (arith, nat_tests)

pub turned-test : (a b : ℕ) → (a == b) ≡ false → (b == a) ≡ false
turned-test a b e = grind (arith, nat_tests)

pub apart-test : (a b : ℕ) → (a ≡ b → ⊥) → (a == b) ≡ false
apart-test a b e = grind (arith, nat_tests)

above-test : (a b : ℕ) → b < a → (a == b) ≡ false
above-test a b l = grind (arith, nat_tests)

module _ {T : Type 0} {M : ℕ} where
  -- ---- numbers that rise are apart

  rising-others : (n low next : ℕ) (ps : List (Process T M)) → n < low → RiseFrom low next (map_list (λ p. p.pid) (map_list process_meaning ps)) → HaveOthers n ps
  rising-others n low next [] l rise = tt
  rising-others n low next (p ∷ ps) l rise =
      let at = rise.0 in
      (above-test p.pid n (omega arith), rising-others n (suc p.pid) next ps (omega arith) rise.2)

  rising-apart : (low next : ℕ) (ps : List (Process T M)) → RiseFrom low next (map_list (λ p. p.pid) (map_list process_meaning ps)) → AreApart ps
  rising-apart low next [] rise = tt
  rising-apart low next (p ∷ ps) rise = (rising-others p.pid (suc p.pid) next ps (omega arith) rise.2, rising-apart (suc p.pid) next ps rise.2)

  pub apart : (s : State T M) → ArePids (meaning s) → AreApart s.living.items
  apart s pids = rising-apart 2 s.next_pid s.living.items pids.living

  -- ---- the search for a number

  one-more : (n : ℕ) (ps : List (Process T M)) (k : ℕ) (p : Process T M) → k < length ps → p ≡ get_or ps k p → (p.pid == n) ≡ false → HaveOthers n (take k ps) → HaveOthers n (take (suc k) ps)
  one-more n [] k p l e d h = tt
  one-more n (x ∷ ps) zero p l e d h = (subst (λ (y : Process T M). (y.pid == n) ≡ false) e d, tt)
  one-more n (x ∷ ps) (suc k) p l e d h = (h.0, one-more n ps k p (omega arith) e d h.1)

  pub next-other : (n : ℕ) (ps : List (Process T M)) (k : ℕ) (p : Process T M) → k < length ps → p ≡ get_or ps k p → (p.pid == n) ≡ false → HaveOthers n (take k ps) → HaveOthers n (take (k + 1) ps)
  next-other n ps k p l e d h = let same : k + 1 ≡ suc k = omega arith in subst (λ j. HaveOthers n (take j ps)) (sym same) (one-more n ps k p l e d h)

  -- ---- what is found

  pub other-at : (n : ℕ) (ps : List (Process T M)) (k : ℕ) (p : Process T M) → HaveOthers n ps → k < length ps → p ≡ get_or ps k p → (p.pid == n) ≡ false
  other-at n [] k p h l e = absurd (let none : k < 0 = l in omega arith)
  other-at n (x ∷ ps) zero p h l e = subst (λ (y : Process T M). (y.pid == n) ≡ false) (sym e) h.0
  other-at n (x ∷ ps) (suc k) p h l e = other-at n ps k p h.1 (omega arith) e

  pub none-found : (n : ℕ) (ps : List (Process T M)) → HaveOthers n ps → find (model.is_pid n) (map_list process_meaning ps) ≡ None
  none-found n [] h = refl
  none-found n (p ∷ ps) h = ap (λ b. cond b (Some (process_meaning p)) (find (model.is_pid n) (map_list process_meaning ps))) h.0 ∙ none-found n ps h.1

  pub one-found : (n : ℕ) (ps : List (Process T M)) (k : ℕ) (p : Process T M) → AreApart ps → k < length ps → p ≡ get_or ps k p → p.pid ≡ n → find (model.is_pid n) (map_list process_meaning ps) ≡ Some (process_meaning p)
  one-found n [] k p apart l e same = absurd (let none : k < 0 = l in omega arith)
  one-found n (x ∷ ps) zero p apart l e same =
      ap (λ b. cond b (Some (process_meaning x)) (find (model.is_pid n) (map_list process_meaning ps))) (same-test x.pid n (ap (λ (y : Process T M). y.pid) (sym e) ∙ same))
      ∙ ap (λ y. Some (process_meaning y)) (sym e)
  one-found n (x ∷ ps) (suc k) p apart l e same =
      ap (λ b. cond b (Some (process_meaning x)) (find (model.is_pid n) (map_list process_meaning ps)))
      (turned-test n x.pid (ap (λ m. m == x.pid) (sym same) ∙ other-at x.pid ps k p apart.0 (omega arith) e))
      ∙ one-found n ps k p apart.1 (omega arith) e same

  -- ---- what is stored

  pub untouched : (n : ℕ) (f : model.Process T model.Image → model.Process T model.Image) (ps : List (Process T M)) → HaveOthers n ps → model.with_process n f (map_list process_meaning ps) ≡ map_list process_meaning ps
  untouched n f [] h = refl
  untouched n f (p ∷ ps) h =
      ap (λ b. cond b (f (process_meaning p)) (process_meaning p) ∷ model.with_process n f (map_list process_meaning ps)) h.0
      ∙ ap (λ qs. process_meaning p ∷ qs) (untouched n f ps h.1)

  -- a process in whose place stands one that means it changed
  pub stored : (n : ℕ) (f : model.Process T model.Image → model.Process T model.Image) (ps : List (Process T M)) (k : ℕ) (p q : Process T M) → AreApart ps → k < length ps → p ≡ get_or ps k p → p.pid ≡ n
      → process_meaning q ≡ f (process_meaning p) → map_list process_meaning (slice_set ps k q) ≡ model.with_process n f (map_list process_meaning ps)
  stored n f [] k p q apart l e same is = absurd (let none : k < 0 = l in omega arith)
  stored n f (x ∷ ps) zero p q apart l e same is =
      let number : x.pid ≡ n = ap (λ (y : Process T M). y.pid) (sym e) ∙ same in
      ap (λ y. y ∷ map_list process_meaning ps) (is ∙ ap (λ y. f (process_meaning y)) e)
      ∙ ap (λ qs. f (process_meaning x) ∷ qs) (sym (untouched n f ps (subst (λ m. HaveOthers m ps) number apart.0)))
      ∙ ap (λ b. cond b (f (process_meaning x)) (process_meaning x) ∷ model.with_process n f (map_list process_meaning ps)) (sym (same-test x.pid n number))
  stored n f (x ∷ ps) (suc k) p q apart l e same is =
      ap (λ qs. process_meaning x ∷ qs) (stored n f ps k p q apart.1 (omega arith) e same is)
      ∙ ap (λ b. cond b (f (process_meaning x)) (process_meaning x) ∷ model.with_process n f (map_list process_meaning ps))
      (sym (turned-test n x.pid (ap (λ m. m == x.pid) (sym same) ∙ other-at x.pid ps k p apart.0 (omega arith) e)))

  -- the process at the index that was found has the number
  pub has-number : (n k : ℕ) (ps : List (Process T M)) → HasPid n k ps → (p : Process T M) → p ≡ get_or ps k p → p.pid ≡ n
  has-number n k ps h p e = ap (λ (q : Process T M). q.pid) (e ∙ get_or_default ps k p h.process h.within ∙ sym h.there) ∙ h.pid
