-- The edit that comes of walks.
use Rattle.std.proofs.Common.{◌≡◌, ◌∙◌, ℕ, ◌≤◌, Bool, true, false, List, [], ◌∷◌, length, Option, Some, None, Result, Ok, Err, arith, refl, ap}
use Rattle.std.specs.Prelude.{nat_lt}
use Rattle.std.specs.Option.{option_map}
use Rattle.std.proofs.lemmas.Bool.{ltb-true}
use Rattle.pt_tracer.specs.pr_base.declared.errno.Errno.{Errno}
use Rattle.pt_tracer.specs.pt_bind.Binding.{names_of}
use Rattle.law_walks.specs.pt_canon.Canon.{canon_of}
use Rattle.law_walks.specs.pt_canon.TextWalk.{TextSurroundings}
use Rattle.law_walks.specs.pt_canon.declared.canon.Canon.{Canon}
use Rattle.law_walks.specs.kr_calls.PathTable.{PathUse, path_at}
use Rattle.law_walks.specs.kr_calls.declared.request.Request.{Request}
use Rattle.pt_tracer.specs.pt_args.Bases.{base_of}
use Rattle.pt_tracer.specs.pt_args.Edits.{edit_by, edit_of}
use Rattle.pt_tracer.specs.pt_args.Plans.{first_walked, plan_behind, plan_both, plan_first, plan_from, plan_one, second_walked}
use Rattle.pt_tracer.specs.pt_args.Points.{both_are_busy, one_is_busy}
use Rattle.pt_tracer.specs.pt_args.Purposes.{opens, swap_for}
use Rattle.pt_tracer.specs.pt_args.Walks.{and_then, reached_at, walked, walked_along, walked_from}
use Rattle.pt_tracer.specs.pt_args.declared.reached.Reached.{Reached}
use Rattle.law_edits.specs.Rewriting.{WalksAreSwapped, new_text}
use Rattle.law_edits.specs.Shelves.{swap_edit}

not_long : (n : ℕ) → n ≤ 4095 → nat_lt 4095 n ≡ false
not_long n short = by (nat_lt 4095 n) refl
  where
    by : (b : Bool) → nat_lt 4095 n ≡ b → b ≡ false
    by true is = let more = ltb-true 4095 n is in absurd (let h : ⊥ = omega (arith, more, short) in h)
    by false is = refl

-- ---- a path that is walked keeps its register

module _ (texts : TextSurroundings) (pid : ℕ) (opening : Bool) (u : PathUse) (reached : Reached) where
  same_reached : (canon : Canon) → ◌≡◌ {A = Result (Option Reached) Errno} (Ok (Some (reached_at u opening canon))) (Ok (Some reached)) → u.register ≡ reached.register
  same_reached canon e = let same : reached_at u opening canon ≡ reached = cc in ap (λ (r : Reached). r.register) same

  by_canon : (c : Result Canon Errno) → and_then c (λ canon. Ok (Some (reached_at u opening canon))) ≡ Ok (Some reached) → u.register ≡ reached.register
  by_canon (Ok canon) e = same_reached canon e
  by_canon (Err error) e = absurd cc

  by_base : (base : Option (List ℕ)) → walked_from texts opening u base ≡ Ok (Some reached) → u.register ≡ reached.register
  by_base None e = absurd cc
  by_base (Some base) e = by_canon (canon_of texts u.mode (names_of base) u.text) e

  by_found : (found : Result (Option (List ℕ)) Errno) → and_then found (walked_from texts opening u) ≡ Ok (Some reached) → u.register ≡ reached.register
  by_found (Ok base) e = by_base base e
  by_found (Err error) e = absurd cc

  by_text : (path : List ℕ) → walked_along texts pid opening u path ≡ Ok (Some reached) → u.register ≡ reached.register
  by_text [] e = absurd cc
  by_text (b ∷ path) e = by_found (base_of texts pid u) e

  register_kept : walked texts pid opening u ≡ Ok (Some reached) → u.register ≡ reached.register
  register_kept e = by_text u.text e

-- ---- the edits

module _ (texts : TextSurroundings) (pid sp : ℕ) (r : Request) where
  first_step : (u : PathUse) (reached : Reached) → path_at r 0 ≡ Some u → walked texts pid (opens r) u ≡ Ok (Some reached) → edit_of texts pid sp true r ≡ edit_by sp true (second_walked texts pid r reached (path_at r 1))
  first_step u reached path leads =
      ap (λ o. edit_by sp true (first_walked texts pid r o)) path
      ∙ ap (λ w. edit_by sp true (and_then w (plan_from texts pid r))) leads

  only_put : (u : PathUse) (reached : Reached) (text : List ℕ) → u.register ≡ reached.register → swap_for texts.bindings reached.purpose reached.canon ≡ Ok text → length text ≤ 4095 → one_is_busy texts.bindings r reached.canon ≡ false
      → edit_by sp true (plan_one texts.bindings r reached) ≡ swap_edit sp (new_text u text) None
  only_put u reached text same takes short idle = rw (takes, idle, not_long (length text) short, same) refl

  first_put : (u : PathUse) (reached : Reached) (text : List ℕ) → u.register ≡ reached.register → swap_for texts.bindings reached.purpose reached.canon ≡ Ok text → length text ≤ 4095
      → edit_by sp true (plan_first texts.bindings reached) ≡ swap_edit sp (new_text u text) None
  first_put u reached text same takes short = rw (takes, not_long (length text) short, same) refl

  both_put : (u v : PathUse) (reached other : Reached) (text more : List ℕ) → u.register ≡ reached.register → v.register ≡ other.register → swap_for texts.bindings reached.purpose reached.canon ≡ Ok text
      → swap_for texts.bindings other.purpose other.canon ≡ Ok more → length text ≤ 4095 → length more ≤ 4095 → both_are_busy texts.bindings r reached.canon other.canon ≡ false
      → edit_by sp true (plan_both texts.bindings r reached other) ≡ swap_edit sp (new_text u text) (Some (new_text v more))
  both_put u v reached other text more same also takes too short brief idle = rw (takes, too, idle, not_long (length text) short, not_long (length more) brief, same, also) refl

pub walks_are_swapped : WalksAreSwapped
walks_are_swapped = record {
  only = λ texts pid sp r u reached text is alone idle.
      first_step texts pid sp r u reached is.path is.leads
      ∙ ap (λ o. edit_by sp true (second_walked texts pid r reached o)) alone
      ∙ only_put texts pid sp r u reached text (register_kept texts pid (opens r) u reached is.leads) is.takes is.short idle;
  first = λ texts pid sp r u v reached text is path stays.
      first_step texts pid sp r u reached is.path is.leads
      ∙ ap (λ o. edit_by sp true (second_walked texts pid r reached o)) path
      ∙ ap (λ w. edit_by sp true (and_then w (plan_behind texts.bindings r reached))) stays
      ∙ first_put texts pid sp r u reached text (register_kept texts pid (opens r) u reached is.leads) is.takes is.short;
  both = λ texts pid sp r u v reached other text more is too idle.
      first_step texts pid sp r u reached is.path is.leads
      ∙ ap (λ o. edit_by sp true (second_walked texts pid r reached o)) too.path
      ∙ ap (λ w. edit_by sp true (and_then w (plan_behind texts.bindings r reached))) too.leads
      ∙ both_put texts pid sp r u v reached other text more (register_kept texts pid (opens r) u reached is.leads) (register_kept texts pid (opens r) v other too.leads) is.takes too.takes is.short too.short idle;
  of_one = λ r u text path. record { one = ap (option_map (λ u. u.register)) path; two = tt };
  of_both = λ r u v text more path other. record { one = ap (option_map (λ u. u.register)) path; two = ap (option_map (λ u. u.register)) other };
}
