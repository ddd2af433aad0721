-- Living processes stay of bytes, whether one changed, all did, one went or one came.
use Rattle.std.proofs.Common.{◌≡◌, ℕ, Bool, true, false, not, List, [], ◌∷◌, ◌++◌, cond, Some, None}
use Rattle.std.specs.Prelude.{map as map_list, ◌==◌}
use Rattle.std.specs.List.{AllByRecursion, filter, find}
use Rattle.kr_first.specs.kr_model.State.{Image, Process, State, at_pid, is_pid, process, with_process}
use Rattle.kr_first.proofs.law_allowed.PieceLemmas.{all-append}
use Rattle.law_kept.specs.Bytes.{HasBytes, ProcessIsSized}
use Rattle.law_kept.proofs.ListLemmas.{all-found, all-passed}

module _ {M : Type 0} where
  abbrev pub LivingHaveBytes : List (Process M Image) → Type 0
  LivingHaveBytes ps = AllByRecursion (λ p. ProcessIsSized p) ps

  -- one that is found
  pub process-bytes : (pid : ℕ) (s : State M Image) → HasBytes s → (p : Process M Image) → process pid s ≡ Some p → ProcessIsSized p
  process-bytes pid s has p is = all-found (λ (p : Process M Image). ProcessIsSized p) (is_pid pid) s.living p has.processes is

  pub all-changed : (g : Process M Image → Process M Image) (ps : List (Process M Image)) → ((p : Process M Image) → ProcessIsSized p → ProcessIsSized (g p)) → LivingHaveBytes ps → LivingHaveBytes (map_list g ps)
  all-changed g [] keeps have = tt
  all-changed g (p ∷ ps) keeps have = (keeps p have.0, all-changed g ps keeps have.1)

  pub one-changed : (pid : ℕ) (f : Process M Image → Process M Image) (ps : List (Process M Image)) → ((p : Process M Image) → ProcessIsSized p → ProcessIsSized (f p)) → LivingHaveBytes ps → LivingHaveBytes (with_process pid f ps)
  one-changed pid f ps keeps have = all-changed (at_pid pid f) ps (λ p has. kept p has (p.pid == pid)) have
    where
      kept : (p : Process M Image) → ProcessIsSized p → (b : Bool) → ProcessIsSized (cond b (f p) p)
      kept p has true = keeps p has
      kept p has false = has

  -- where nobody has the number
  pub nobody-changed : (pid : ℕ) (f : Process M Image → Process M Image) (ps : List (Process M Image)) → find (is_pid pid) ps ≡ None → LivingHaveBytes ps → LivingHaveBytes (with_process pid f ps)
  nobody-changed pid f [] none have = tt
  nobody-changed pid f (p ∷ ps) none have = by (p.pid == pid) none (nobody-changed pid f ps)
    where
      by : (b : Bool) → cond b (Some p) (find (is_pid pid) ps) ≡ None → (find (is_pid pid) ps ≡ None → LivingHaveBytes ps → LivingHaveBytes (with_process pid f ps)) → ProcessIsSized (cond b (f p) p) × LivingHaveBytes (with_process pid f ps)
      by true found later = absurd cc
      by false found later = (have.0, later found have.1)

  pub one-gone : (pid : ℕ) (ps : List (Process M Image)) → LivingHaveBytes ps → LivingHaveBytes (filter (λ p. not (p.pid == pid)) ps)
  one-gone pid ps have = all-passed (λ (p : Process M Image). ProcessIsSized p) (λ (p : Process M Image). not (p.pid == pid)) ps have

  pub one-come : (ps : List (Process M Image)) (c : Process M Image) → ProcessIsSized c → LivingHaveBytes ps → LivingHaveBytes (ps ++ c ∷ [])
  one-come ps c own have = all-append (λ (p : Process M Image). ProcessIsSized p) ps (c ∷ []) have (own, tt)
