-- What is counted for a process, after it was for it or for another; and what counts tell.
use Rattle.std.proofs.Common.{◌≡◌, ℕ, Bool, true, false, not, ◌&&◌, cond, List, [], ◌∷◌, ◌++◌, Option, Some, None, eq-eqb, refl, sym, ap, ◌∙◌}
use Rattle.std.specs.Prelude.{◌==◌, ◌||◌, ◌↔◌}
use Rattle.std.specs.List.{find}
use Rattle.std.specs.Option.{option_map, option_map_or}
use Rattle.kr_core.proofs.law_lawful.SumLemmas.{other-test, passed-test}
use Rattle.kr_loose.specs.Behind.{AreAlike}
use Rattle.kr_loose.specs.Judging.{counted_after, counted_at, counts_of, differs, is_altered, is_counted, uncounted}
use Rattle.kr_loose.specs.declared.judge.Counted.{Counted}
use Rattle.kr_loose.specs.declared.judge.Counts.{Counts}

-- ---- one of some for which it was counted

found-uncounted : (q pid : ℕ) → (q ≡ pid → ⊥) → (l : List Counted) → find (is_counted q) (uncounted pid l) ≡ find (is_counted q) l
found-uncounted q pid other [] = refl
found-uncounted q pid other (p ∷ l) = by (p.pid == pid) refl (found-uncounted q pid other l)
  where
    by : (b : Bool) → (p.pid == pid) ≡ b → find (is_counted q) (uncounted pid l) ≡ find (is_counted q) l
        → find (is_counted q) (cond (not b) (p ∷ uncounted pid l) (uncounted pid l)) ≡ cond (p.pid == q) (Some p) (find (is_counted q) l)
    by true is rest = rest ∙ sym (ap (λ b. cond b (Some p) (find (is_counted q) l)) (other-test p.pid q (λ same. other (sym same ∙ passed-test p.pid pid is))))
    by false is rest = ap (λ (o : Option Counted). cond (p.pid == q) (Some p) o) rest

none-uncounted : (pid : ℕ) (l : List Counted) → find (is_counted pid) (uncounted pid l) ≡ None
none-uncounted pid [] = refl
none-uncounted pid (p ∷ l) = by (p.pid == pid) refl (none-uncounted pid l)
  where
    by : (b : Bool) → (p.pid == pid) ≡ b → find (is_counted pid) (uncounted pid l) ≡ None → find (is_counted pid) (cond (not b) (p ∷ uncounted pid l) (uncounted pid l)) ≡ None
    by true is rest = rest
    by false is rest = ap (λ b. cond b (Some p) (find (is_counted pid) (uncounted pid l))) is ∙ rest

-- behind the others
found-behind : (q : ℕ) (last : Counted) (l : List Counted) → find (is_counted q) l ≡ None → find (is_counted q) (l ++ last ∷ []) ≡ find (is_counted q) (last ∷ [])
found-behind q last [] none = refl
found-behind q last (p ∷ l) none = by (p.pid == q) (found-behind q last l) none
  where
    by : (b : Bool) → (find (is_counted q) l ≡ None → find (is_counted q) (l ++ last ∷ []) ≡ find (is_counted q) (last ∷ [])) → cond b (Some p) (find (is_counted q) l) ≡ None
        → cond b (Some p) (find (is_counted q) (l ++ last ∷ [])) ≡ find (is_counted q) (last ∷ [])
    by true later none = absurd cc
    by false later none = later none

found-before : (q : ℕ) (last : Counted) → (last.pid == q) ≡ false → (l : List Counted) → find (is_counted q) (l ++ last ∷ []) ≡ find (is_counted q) l
found-before q last other [] = ap (λ (b : Bool). cond b (Some last) None) other
found-before q last other (p ∷ l) = ap (λ (o : Option Counted). cond (p.pid == q) (Some p) o) (found-before q last other l)

module _ (pid : ℕ) (counts : Counts) (l : List Counted) where
  pub counted-own : counts_of pid (counted_at pid counts l) ≡ Some counts
  counted-own =
      let last : Counted = record { pid = pid; counts = counts } in
      ap (option_map (λ (p : Counted). p.counts)) (found-behind pid last (uncounted pid l) (none-uncounted pid l) ∙ ap (λ (b : Bool). cond b (Some last) None) (eq-eqb pid pid refl))

  pub counted-other : (q : ℕ) → (q ≡ pid → ⊥) → counts_of q (counted_at pid counts l) ≡ counts_of q l
  counted-other q other =
      let last : Counted = record { pid = pid; counts = counts } in
      ap (option_map (λ (p : Counted). p.counts)) (found-before q last (other-test pid q (λ same. other (sym same))) (uncounted pid l) ∙ found-uncounted q pid other l)

  -- behind a call
  pub after-other : (done : Bool) (q : ℕ) → (q ≡ pid → ⊥) → counts_of q (counted_after pid done counts l) ≡ counts_of q l
  after-other true q other = ap (option_map (λ (p : Counted). p.counts)) (found-uncounted q pid other l)
  after-other false q other = counted-other q other

-- ---- what counts tell

module _ (before now : Counts) where
  alike-by : (s : Bool) → (before.shape == now.shape) ≡ s → (t : Bool) → (before.bytes == now.bytes) ≡ t → (exec : Bool) → (not s || (exec && not t)) ≡ false → AreAlike exec before now
  alike-by false is t at exec none = absurd cc
  alike-by true is t at false none = record { shape = passed-test before.shape now.shape is; bytes = λ holds. absurd cc }
  alike-by true is true at true none = record { shape = passed-test before.shape now.shape is; bytes = λ holds. passed-test before.bytes now.bytes at }
  alike-by true is false at true none = absurd cc

  pub alike-of : (exec : Bool) → differs exec before now ≡ false → AreAlike exec before now
  alike-of exec none = alike-by (before.shape == now.shape) refl (before.bytes == now.bytes) refl exec none

  pub alike-tells : (exec : Bool) → AreAlike exec before now → differs exec before now ≡ false
  alike-tells false same = ap (λ (b : Bool). not b || (false && not (before.bytes == now.bytes))) (eq-eqb before.shape now.shape same.shape)
  alike-tells true same =
      ap (λ (b : Bool). not b || (true && not (before.bytes == now.bytes))) (eq-eqb before.shape now.shape same.shape)
      ∙ ap (λ (b : Bool). not b) (eq-eqb before.bytes now.bytes (same.bytes refl))

-- of a call for which it was counted
pub altered-is : (pid : ℕ) (exec : Bool) (now before : Counts) (counted : List Counted) → counts_of pid counted ≡ Some before → is_altered pid exec now counted ≡ differs exec before now
altered-is pid exec now before counted found = ap (λ (o : Option Counts). option_map_or (λ before. differs exec before now) o false) found

-- ---- both

pub both-true : (a b : Bool) → (a && not b) ≡ true → (a ≡ true) × (b ≡ false)
both-true true true e = absurd cc
both-true true false e = (refl, refl)
both-true false b e = absurd cc

pub true-both : (a b : Bool) → a ≡ true → b ≡ false → (a && not b) ≡ true
true-both a b holds fails = ap (λ (x : Bool). x && not b) holds ∙ ap (λ (x : Bool). not x) fails

pub neither : (a b : Bool) → (a || b) ≡ false → (a ≡ false) × (b ≡ false)
neither true b e = absurd cc
neither false b e = (refl, e)

pub none-of-both : (a b : Bool) → a ≡ false → b ≡ false → (a || b) ≡ false
none-of-both a b first second = ap (λ (x : Bool). x || b) first ∙ second
