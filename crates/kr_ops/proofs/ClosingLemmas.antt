-- Descriptors that the code closes one after the other are closed in what its state means.
use Rattle.std.proofs.Common.{◌≡◌, ℕ, suc, ◌+◌, Bool, true, false, cond, sym, ap, subst, ◌∙◌, refl, arith, Option, Some, None}
use Rattle.std.specs.Option.{option_map, option_map_or, unwrap_or}
use Rattle.law_lawful.specs.kr_files.Descriptors.{Named}
use Rattle.law_lawful.specs.kr_model.Applied.{close, close_below, close_on_exec_below, is_closed_on_exec}
use Rattle.law_lawful.specs.rv_mem.Pages.{IsPlaced}
use Rattle.law_lawful.specs.kr_model.Lawful.{IsLawful, IsProcessIn}
use Rattle.law_lawful.specs.kr_model.State as model
use Rattle.law_lawful.proofs.DescriptorChangeLemmas.{close-below-keeps, close-on-exec-keeps}
use Rattle.kr_ops.specs.declared.state.State.{State}
use Rattle.kr_ops.specs.Meaning.{meaning}
use Rattle.kr_ops.specs.Sound.{IsOfView, IsServed, IsSound}
use Rattle.kr_ops.proofs.UseLemmas.{sound-of}

module _ {M X : Type 0} (pid : ℕ) where
  -- ---- all descriptors

  pub none-below : (s : model.State M X) → s ≡ close_below pid 0 s
  unfolding close_below
  none-below s = refl

  pub next-below : (fd : ℕ) (s t u : model.State M X) → t ≡ close_below pid fd s → u ≡ close pid fd t → u ≡ close_below pid (fd + 1) s
  unfolding close_below
  next-below fd s t u before after = let next : suc fd ≡ fd + 1 = omega arith in after ∙ ap (close pid fd) before ∙ ap (λ n. close_below pid n s) next

  -- ---- those that a new program doesn't get

  -- whether a descriptor is closed, as the code asks for it
  pub goes : (fd : ℕ) (t : model.State M X) (flag : Option Bool) → flag ≡ option_map (λ (x : Named). x.cloexec) (model.named pid fd t) → is_closed_on_exec pid fd t ≡ unwrap_or flag false
  goes fd t flag is = sym (by (model.named pid fd t)) ∙ ap (λ o. unwrap_or o false) (sym is)
    where
      by : (o : Option Named) → unwrap_or (option_map (λ (x : Named). x.cloexec) o) false ≡ option_map_or (λ (x : Named). x.cloexec) o false
      by None = refl
      by (Some x) = refl

  pub none-closed : (s : model.State M X) → s ≡ close_on_exec_below pid 0 s
  unfolding close_on_exec_below
  none-closed s = refl

  pub next-closed : (fd : ℕ) (s t u : model.State M X) → t ≡ close_on_exec_below pid fd s → is_closed_on_exec pid fd t ≡ true → u ≡ close pid fd t → u ≡ close_on_exec_below pid (fd + 1) s
  unfolding close_on_exec_below
  next-closed fd s t u before goes after =
      let next : suc fd ≡ fd + 1 = omega arith in
      after ∙ sym (ap (λ b. cond b (close pid fd t) t) goes) ∙ ap (λ t. cond (is_closed_on_exec pid fd t) (close pid fd t) t) before ∙ ap (λ n. close_on_exec_below pid n s) next

  pub next-kept : (fd : ℕ) (s t : model.State M X) → t ≡ close_on_exec_below pid fd s → is_closed_on_exec pid fd t ≡ false → t ≡ close_on_exec_below pid (fd + 1) s
  unfolding close_on_exec_below
  next-kept fd s t before stays =
      let next : suc fd ≡ fd + 1 = omega arith in
      sym (ap (λ b. cond b (close pid fd t) t) stays) ∙ ap (λ t. cond (is_closed_on_exec pid fd t) (close pid fd t) t) before ∙ ap (λ n. close_on_exec_below pid n s) next

module _ {T : Type 0} {M : ℕ} where
  -- ---- states between are sound

  pub among : (s t : State T M) (pid fd : ℕ) → IsOfView s → meaning t ≡ close_below pid fd (meaning s) → IsServed t → IsSound t
  among s t pid fd of_view is served =
      sound-of of_view.number of_view.table t (subst (λ m. IsLawful of_view.number of_view.table m) (sym is) (close-below-keeps of_view.number of_view.table pid fd (meaning s) of_view.lawful)) served

  pub placed-among : (s t : State T M) (pid fd : ℕ) (q : model.Process T model.Image) → IsOfView s → meaning t ≡ close_below pid fd (meaning s) → model.process pid (meaning t) ≡ Some q → IsPlaced q.image.memory.pages
  placed-among s t pid fd q of_view is found =
      let lawful : IsLawful of_view.number of_view.table (meaning t) = subst (λ m. IsLawful of_view.number of_view.table m) (sym is) (close-below-keeps of_view.number of_view.table pid fd (meaning s) of_view.lawful) in
      let own : IsProcessIn of_view.number t.tree of_view.table q = lawful.processes pid q found in
      own.paged

  pub between : (s t : State T M) (pid fd : ℕ) → IsOfView s → meaning t ≡ close_on_exec_below pid fd (meaning s) → IsServed t → IsSound t
  between s t pid fd of_view is served =
      sound-of of_view.number of_view.table t (subst (λ m. IsLawful of_view.number of_view.table m) (sym is) (close-on-exec-keeps of_view.number of_view.table pid fd (meaning s) of_view.lawful)) served
