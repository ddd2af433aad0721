-- What takes the place of paths leaves the register of a call's number.
use Rattle.std.proofs.Common.{◌≡◌, ℕ, ◌+◌, Bool, true, false, not, cond, List, [], ◌∷◌, Option, Some, None, Result, Ok, Err, refl, sym, ap, ◌∙◌}
use Rattle.std.specs.Prelude.{◌==◌}
use Rattle.std.specs.List.{list_all, list_any}
use Rattle.std.proofs.lemmas.Bool.{and_from, and_parts}
use Rattle.std.proofs.lemmas.Option.{same_Some}
use Rattle.pt_tracer.specs.pr_base.MountText.{MountText}
use Rattle.pt_tracer.specs.pr_base.declared.errno.Errno.{Errno}
use Rattle.pt_tracer.specs.pr_base.declared.errno.Errno.TheVariants.{EFAULT, ENAMETOOLONG}
use Rattle.pt_tracer.specs.pt_bind.Binding.{names_of}
use Rattle.pt_tracer.specs.pt_canon.Canon.{canon_of}
use Rattle.pt_tracer.specs.pt_canon.TextWalk.{TextSurroundings}
use Rattle.pt_tracer.specs.pt_canon.declared.canon.Canon.{Canon}
use Rattle.pt_tracer.specs.pt_results.kr_calls.CallTable.{line, paths_of}
use Rattle.pt_tracer.specs.pt_results.kr_calls.PathTable.{PathUse, path_at, path_from}
use Rattle.pt_tracer.specs.pt_results.kr_calls.declared.request.Request.{Request}
use Rattle.pt_tracer.specs.pt_results.kr_calls.declared.request.Request.TheVariants as call
use Rattle.pt_tracer.specs.pt_args.Bases.{base_of}
use Rattle.pt_tracer.specs.pt_args.Edits.{both, edit_by, edit_of, is_long, put_edit, shelve}
use Rattle.pt_tracer.specs.pt_args.Plans.{first_walked, plan_behind, plan_both, plan_first, plan_from, plan_of, plan_one, second_walked, swap_of, unless_busy}
use Rattle.pt_tracer.specs.pt_args.Points.{both_are_busy, one_is_busy}
use Rattle.pt_tracer.specs.pt_args.Purposes.{opens, swap_for}
use Rattle.pt_tracer.specs.pt_args.Walks.{and_then, reached_at, walked, walked_along, walked_from}
use Rattle.pt_tracer.specs.pt_args.declared.edit.Edit.{Edit}
use Rattle.pt_tracer.specs.pt_args.declared.edit.Edit.TheVariants.{Cancel, Emulate, Pass, Swap}
use Rattle.pt_tracer.specs.pt_args.declared.reached.Reached.{Reached}

-- another register than that of the number
abbrev pub is_apart : ℕ → Bool
is_apart k = not (k == 17)

abbrev pub is_other : ℕ × ℕ → Bool
is_other p = is_apart p.0

abbrev pub KeepsNumber : Edit → Type 0
KeepsNumber Pass = Unit {0}
KeepsNumber (Swap regs pokes) = list_all is_other regs ≡ true
KeepsNumber (Cancel e) = Unit {0}
KeepsNumber (Emulate pokes answer) = Unit {0}

pub either-keeps : (b : Bool) (one two : Edit) → KeepsNumber one → KeepsNumber two → KeepsNumber (cond b one two)
either-keeps true one two first second = first
either-keeps false one two first second = second

-- ---- the registers of paths

paths-other : (r : Request) → list_all (λ (u : PathUse). is_apart u.register) (paths_of (line r).told) ≡ true
paths-other (call.Dup fd) = refl
paths-other _ = refl

use-other : (us : List PathUse) → list_all (λ (u : PathUse). is_apart u.register) us ≡ true → (i k : ℕ) (u : PathUse) → path_from i us k ≡ Some u → is_apart u.register ≡ true
use-other [] all i k u e = absurd cc
use-other (v ∷ us) all i k u e =
    let parts = and_parts (is_apart v.register) (list_all (λ (u : PathUse). is_apart u.register) us) all in
    by parts.0 (use-other us parts.1 (i + 1) k u) (k == i) e
  where
    by : is_apart v.register ≡ true → (path_from (i + 1) us k ≡ Some u → is_apart u.register ≡ true) → (b : Bool) → cond b (Some v) (path_from (i + 1) us k) ≡ Some u → is_apart u.register ≡ true
    by own later true e = ap (λ (u : PathUse). is_apart u.register) (sym (same_Some v u e)) ∙ own
    by own later false e = later e

path-other : (r : Request) (k : ℕ) (u : PathUse) → path_at r k ≡ Some u → is_apart u.register ≡ true
path-other r k u e = use-other (paths_of (line r).told) (paths-other r) 0 k u e

-- a path that was walked keeps its register
abbrev register_of : ℕ → Result (Option Reached) Errno → ℕ
register_of k (Ok (Some reached)) = reached.register
register_of k (Ok None) = k
register_of k (Err e) = k

walked-register : (texts : TextSurroundings) (pid : ℕ) (opening : Bool) (u : PathUse) → register_of u.register (walked texts pid opening u) ≡ u.register
walked-register texts pid opening u = by u.text
  where
    found : (c : Result Canon Errno) → register_of u.register (and_then c (λ canon. Ok (Some (reached_at u opening canon)))) ≡ u.register
    found (Ok canon) = refl
    found (Err e) = refl

    based : (b : Result (Option (List ℕ)) Errno) → register_of u.register (and_then b (walked_from texts opening u)) ≡ u.register
    based (Ok None) = refl
    based (Ok (Some base)) = found (canon_of texts u.mode (names_of base) u.text)
    based (Err e) = refl

    by : (path : List ℕ) → register_of u.register (walked_along texts pid opening u path) ≡ u.register
    by [] = refl
    by (b ∷ path) = based (base_of texts pid u)

walked-other : (texts : TextSurroundings) (pid : ℕ) (opening : Bool) (u : PathUse) (reached : Reached) → is_apart u.register ≡ true → walked texts pid opening u ≡ Ok (Some reached) → is_apart reached.register ≡ true
walked-other texts pid opening u reached other e = ap is_apart (sym (ap (register_of u.register) e) ∙ walked-register texts pid opening u) ∙ other

-- ---- what they are swapped for: pt_args gives plans and texts no name for others

abbrev PlannedBy : {A B C D : Type 0} → (A → B → C → Result D Errno) → Type 0
PlannedBy {D = D} f = D

abbrev PathPlan : Type 0
PathPlan = PlannedBy plan_of

abbrev SwappedBy : {A B D : Type 0} → (A → B → Result D Errno) → Type 0
SwappedBy {D = D} f = D

abbrev SwappedText : Type 0
SwappedText = SwappedBy swap_of

abbrev swapped_register : Result SwappedText Errno → ℕ
swapped_register (Ok s) = s.register
swapped_register (Err e) = 0

swapped-other : (bindings : List MountText) (reached : Reached) (s : SwappedText) → is_apart reached.register ≡ true → swap_of bindings reached ≡ Ok s → is_apart s.register ≡ true
swapped-other bindings reached s other e = by (swap_for bindings reached.purpose reached.canon) e
  where
    by : (o : Result (List ℕ) Errno) → and_then {B = SwappedText} o (λ text. Ok (record { register = reached.register; text = text })) ≡ Ok s → is_apart s.register ≡ true
    by (Ok text) e = ap is_apart (sym (ap swapped_register e)) ∙ other
    by (Err x) e = absurd cc

abbrev AreOther : Option SwappedText → Type 0
AreOther None = Unit {0}
AreOther (Some s) = is_apart s.register ≡ true

module _ (sp : ℕ) (usable : Bool) where
  abbrev Keeps : Result PathPlan Errno → Type 0
  Keeps plan = KeepsNumber (edit_by sp usable plan)

  then-keeps : {A : Type 0} (o : Result A Errno) (next : A → Result PathPlan Errno) → ((a : A) → o ≡ Ok a → Keeps (next a)) → Keeps (and_then o next)
  then-keeps (Ok a) next each = each a refl
  then-keeps (Err e) next each = tt

  unless-keeps : (b : Bool) (plan : PathPlan) → Keeps (Ok plan) → Keeps (unless_busy b plan)
  unless-keeps true plan own = tt
  unless-keeps false plan own = own

  put-keeps : (first : SwappedText) (second : Option SwappedText) → is_apart first.register ≡ true → AreOther second → KeepsNumber (put_edit sp (both first second))
  put-keeps first None one two = and_from _ _ one refl
  put-keeps first (Some second) one two = and_from _ _ one (and_from _ _ two refl)

  shelved-keeps : (first : SwappedText) (second : Option SwappedText) → is_apart first.register ≡ true → AreOther second → KeepsNumber (shelve sp usable first second)
  shelved-keeps first second one two =
      either-keeps (list_any is_long (both first second)) (Cancel ENAMETOOLONG) (cond usable (put_edit sp (both first second)) (Cancel EFAULT)) tt
      (either-keeps usable (put_edit sp (both first second)) (Cancel EFAULT) (put-keeps first second one two) tt)

  module _ (bindings : List MountText) (r : Request) where
    one-keeps : (first : Reached) → is_apart first.register ≡ true → Keeps (plan_one bindings r first)
    one-keeps first other = then-keeps (swap_of bindings first) _ (λ s is. unless-keeps (one_is_busy bindings r first.canon) _ (shelved-keeps s None (swapped-other bindings first s other is) tt))

    first-keeps : (first : Reached) → is_apart first.register ≡ true → Keeps (plan_first bindings first)
    first-keeps first other = then-keeps (swap_of bindings first) _ (λ s is. shelved-keeps s None (swapped-other bindings first s other is) tt)

    both-keep : (old new : Reached) → is_apart old.register ≡ true → is_apart new.register ≡ true → Keeps (plan_both bindings r old new)
    both-keep old new one two =
        then-keeps (swap_of bindings old) _
        (λ s is. then-keeps (swap_of bindings new) _
        (λ t there. unless-keeps (both_are_busy bindings r old.canon new.canon) _ (shelved-keeps s (Some t) (swapped-other bindings old s one is) (swapped-other bindings new t two there))))

  module _ (texts : TextSurroundings) (pid : ℕ) (r : Request) where
    second-keeps : (first : Reached) (o : Option PathUse) → is_apart first.register ≡ true → path_at r 1 ≡ o → Keeps (second_walked texts pid r first o)
    second-keeps first None other is = one-keeps texts.bindings r first other
    second-keeps first (Some v) other is = then-keeps (walked texts pid (opens r) v) (plan_behind texts.bindings r first) by
      where
        by : (w : Option Reached) → walked texts pid (opens r) v ≡ Ok w → Keeps (plan_behind texts.bindings r first w)
        by None e = first-keeps texts.bindings r first other
        by (Some second) e = both-keep texts.bindings r first second other (walked-other texts pid (opens r) v second (path-other r 1 v is) e)

    walked-keeps : (o : Option PathUse) → path_at r 0 ≡ o → Keeps (first_walked texts pid r o)
    walked-keeps None is = tt
    walked-keeps (Some u) is = then-keeps (walked texts pid (opens r) u) (plan_from texts pid r) by
      where
        by : (w : Option Reached) → walked texts pid (opens r) u ≡ Ok w → Keeps (plan_from texts pid r w)
        by None e = tt
        by (Some first) e = second-keeps first (path_at r 1) (walked-other texts pid (opens r) u first (path-other r 0 u is) e) refl

    pub swaps-keep : KeepsNumber (edit_of texts pid sp usable r)
    swaps-keep = walked-keeps (path_at r 0) refl
