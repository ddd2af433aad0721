-- Where a process stands, after it or another was paused or let run.
use Rattle.std.proofs.Common.{◌≡◌, ℕ, Bool, true, false, not, cond, List, [], ◌∷◌, ◌++◌, Option, Some, None, eq-eqb, refl, sym, ap, ◌∙◌}
use Rattle.std.specs.Prelude.{◌==◌}
use Rattle.std.specs.List.{find}
use Rattle.std.specs.Option.{option_map}
use Rattle.std.proofs.lemmas.Option.{same_Some}
use Rattle.kr_turns.proofs.law_lawful.SumLemmas.{other-test, passed-test}
use Rattle.kr_core.specs.Between.{begun_at, between_of, handed_at, is_paused, paused_at, phase_at, unpaused}
use Rattle.kr_core.specs.declared.paused.Begun.{Begun}
use Rattle.kr_core.specs.declared.paused.Between.{Between}
use Rattle.kr_core.specs.declared.paused.Between.TheVariants.{AtCall, Done, Entered}
use Rattle.kr_core.specs.declared.paused.Paused.{Paused}
use Rattle.kr_core.specs.declared.paused.Phase.TheVariants as phase
use Rattle.kr_turns.specs.kr_stops.declared.handed.Handed.{Handed}

-- ---- one of some that are paused

found-unpaused : (q pid : ℕ) → (q ≡ pid → ⊥) → (l : List Paused) → find (is_paused q) (unpaused pid l) ≡ find (is_paused q) l
found-unpaused q pid other [] = refl
found-unpaused q pid other (p ∷ l) = by (p.pid == pid) refl (found-unpaused q pid other l)
  where
    by : (b : Bool) → (p.pid == pid) ≡ b → find (is_paused q) (unpaused pid l) ≡ find (is_paused q) l
        → find (is_paused q) (cond (not b) (p ∷ unpaused pid l) (unpaused pid l)) ≡ cond (p.pid == q) (Some p) (find (is_paused q) l)
    by true is rest = rest ∙ sym (ap (λ b. cond b (Some p) (find (is_paused q) l)) (other-test p.pid q (λ same. other (sym same ∙ passed-test p.pid pid is))))
    by false is rest = ap (λ (o : Option Paused). cond (p.pid == q) (Some p) o) rest

none-unpaused : (pid : ℕ) (l : List Paused) → find (is_paused pid) (unpaused pid l) ≡ None
none-unpaused pid [] = refl
none-unpaused pid (p ∷ l) = by (p.pid == pid) refl (none-unpaused pid l)
  where
    by : (b : Bool) → (p.pid == pid) ≡ b → find (is_paused pid) (unpaused pid l) ≡ None → find (is_paused pid) (cond (not b) (p ∷ unpaused pid l) (unpaused pid l)) ≡ None
    by true is rest = rest
    by false is rest = ap (λ b. cond b (Some p) (find (is_paused pid) (unpaused pid l))) is ∙ rest

-- behind the others
found-behind : (q : ℕ) (last : Paused) (l : List Paused) → find (is_paused q) l ≡ None → find (is_paused q) (l ++ last ∷ []) ≡ find (is_paused q) (last ∷ [])
found-behind q last [] none = refl
found-behind q last (p ∷ l) none = by (p.pid == q) (found-behind q last l) none
  where
    by : (b : Bool) → (find (is_paused q) l ≡ None → find (is_paused q) (l ++ last ∷ []) ≡ find (is_paused q) (last ∷ [])) → cond b (Some p) (find (is_paused q) l) ≡ None
        → cond b (Some p) (find (is_paused q) (l ++ last ∷ [])) ≡ find (is_paused q) (last ∷ [])
    by true later none = absurd cc
    by false later none = later none

found-before : (q : ℕ) (last : Paused) → (last.pid == q) ≡ false → (l : List Paused) → find (is_paused q) (l ++ last ∷ []) ≡ find (is_paused q) l
found-before q last other [] = ap (λ (b : Bool). cond b (Some last) None) other
found-before q last other (p ∷ l) = ap (λ (o : Option Paused). cond (p.pid == q) (Some p) o) (found-before q last other l)

module _ (pid : ℕ) (l : List Paused) where
  pub run-own : between_of pid (unpaused pid l) ≡ None
  run-own = ap (option_map (λ (p : Paused). p.between)) (none-unpaused pid l)

  pub run-other : (q : ℕ) → (q ≡ pid → ⊥) → between_of q (unpaused pid l) ≡ between_of q l
  run-other q other = ap (option_map (λ (p : Paused). p.between)) (found-unpaused q pid other l)

  module _ (between : Between) where
    pub paused-own : between_of pid (paused_at pid between l) ≡ Some between
    paused-own =
        let last : Paused = record { pid = pid; between = between } in
        ap (option_map (λ (p : Paused). p.between)) (found-behind pid last (unpaused pid l) (none-unpaused pid l) ∙ ap (λ (b : Bool). cond b (Some last) None) (eq-eqb pid pid refl))

    pub paused-other : (q : ℕ) → (q ≡ pid → ⊥) → between_of q (paused_at pid between l) ≡ between_of q l
    paused-other q other =
        let last : Paused = record { pid = pid; between = between } in
        ap (option_map (λ (p : Paused). p.between)) (found-before q last (other-test pid q (λ same. other (sym same))) (unpaused pid l) ∙ found-unpaused q pid other l)

-- one alone that is let run leaves none
pub run-alone : (pid : ℕ) (between : Between) → unpaused pid (paused_at pid between []) ≡ []
run-alone pid between = ap (λ (b : Bool). cond (not b) (record { pid = pid; between = between } ∷ []) []) (eq-eqb pid pid refl)

-- one alone that is paused elsewhere stays alone
pub paused-alone : (pid : ℕ) (between next : Between) → paused_at pid next (paused_at pid between []) ≡ paused_at pid next []
paused-alone pid between next = ap (λ (l : List Paused). l ++ record { pid = pid; between = next } ∷ []) (run-alone pid between)

-- ---- by the phase

pub running-at : (o : Option Between) → phase_at o ≡ phase.Running → o ≡ None
running-at None e = refl
running-at (Some AtCall) e = absurd cc
running-at (Some (Entered begun)) e = absurd cc
running-at (Some (Done handed)) e = absurd cc

pub call-at : (o : Option Between) → phase_at o ≡ phase.AtCall → o ≡ Some AtCall
call-at None e = absurd cc
call-at (Some AtCall) e = refl
call-at (Some (Entered begun)) e = absurd cc
call-at (Some (Done handed)) e = absurd cc

-- what is kept of the call of one that stands behind its first stop, and of one that stands before its second
pub entered-at : (o : Option Between) → phase_at o ≡ phase.Entered → (begun : Begun) → begun_at o ≡ Some begun → o ≡ Some (Entered begun)
entered-at None e begun kept = absurd cc
entered-at (Some AtCall) e begun kept = absurd cc
entered-at (Some (Entered own)) e begun kept = ap (λ (b : Begun). Some (Entered b)) (same_Some own begun kept)
entered-at (Some (Done handed)) e begun kept = absurd cc

pub entered-keeps : (o : Option Between) → phase_at o ≡ phase.Entered → begun_at o ≡ None → ⊥
entered-keeps None e none = absurd cc
entered-keeps (Some AtCall) e none = absurd cc
entered-keeps (Some (Entered own)) e none = absurd cc
entered-keeps (Some (Done handed)) e none = absurd cc

pub done-at : (o : Option Between) → phase_at o ≡ phase.Done → (handed : Handed) → handed_at o ≡ Some handed → o ≡ Some (Done handed)
done-at None e handed kept = absurd cc
done-at (Some AtCall) e handed kept = absurd cc
done-at (Some (Entered begun)) e handed kept = absurd cc
done-at (Some (Done own)) e handed kept = ap (λ (h : Handed). Some (Done h)) (same_Some own handed kept)

pub done-keeps : (o : Option Between) → phase_at o ≡ phase.Done → handed_at o ≡ None → ⊥
done-keeps None e none = absurd cc
done-keeps (Some AtCall) e none = absurd cc
done-keeps (Some (Entered begun)) e none = absurd cc
done-keeps (Some (Done own)) e none = absurd cc
