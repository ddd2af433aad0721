-- Which children wait4(2) means, of those that are known.
use Rattle.std.proofs.Common.{◌≡◌, ℕ, ℤ, Bool, true, false, cond, ◌==◌, ◌&&◌, ◌||◌, List, [], ◌∷◌, Some, refl, ap, ◌∙◌}
use Rattle.std.specs.Prelude.{map as map_list}
use Rattle.std.specs.List.{find, list_any}
use Rattle.std.specs.Option.{option_map}
use Rattle.kr_seen.specs.kr_model.Known.{family_of}
use Rattle.kr_seen.specs.kr_model.ProcessRows.{is_meant}
use Rattle.kr_seen.specs.kr_model.State as model
use Rattle.kr_seen.specs.kr_ops.Children.{is_child, is_ended_child, means}
use Rattle.kr_seen.specs.kr_ops.Meaning.{ended_meaning}
use Rattle.kr_seen.specs.kr_ops.declared.asking.Meant.{Meant}
use Rattle.kr_seen.specs.kr_ops.declared.state.EndedProcess.{EndedProcess}

module _ (parent : ℕ) (meant : Meant) (child : ℤ) (same : (pid : ℕ) → means meant pid ≡ is_meant child pid) where
  pub meant-living : {T : Type 0} (ps : List (model.Process T model.Image)) → list_any (is_child parent meant) ps ≡ list_any (λ p. p.parent == parent && is_meant child p.pid) (map_list (family_of model.image_layout) ps)
  meant-living [] = refl
  meant-living (p ∷ ps) =
      ap (λ b. (p.parent == parent && b) || list_any (is_child parent meant) ps) (same p.pid)
      ∙ ap (λ b. (p.parent == parent && is_meant child p.pid) || b) (meant-living ps)

  pub meant-ended : (es : List EndedProcess) → option_map ended_meaning (find (is_ended_child parent meant) es) ≡ find (λ e. e.parent == parent && is_meant child e.pid) (map_list ended_meaning es)
  meant-ended [] = refl
  meant-ended (e ∷ es) =
      by (is_ended_child parent meant e)
      ∙ ap (λ b. cond (e.parent == parent && b) (Some (ended_meaning e)) (option_map ended_meaning (find (is_ended_child parent meant) es))) (same e.pid)
      ∙ ap (λ o. cond (e.parent == parent && is_meant child e.pid) (Some (ended_meaning e)) o) (meant-ended es)
    where
      by : (b : Bool) → option_map ended_meaning (cond b (Some e) (find (is_ended_child parent meant) es)) ≡ cond b (Some (ended_meaning e)) (option_map ended_meaning (find (is_ended_child parent meant) es))
      by true = refl
      by false = refl
