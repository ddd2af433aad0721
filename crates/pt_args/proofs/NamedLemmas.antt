-- Edits name the registers of paths.
use Rattle.std.proofs.Common.{◌≡◌, ℕ, ◌+◌, ◌-◌, ◌≤◌, Bool, true, false, List, [], ◌∷◌, length, map, Option, Some, None, Result, Ok, Err, inl, inr, refl, sym, ap, subst, ◌∙◌, arith}
use Rattle.std.specs.Bool.{if◌then◌else◌}
use Rattle.std.specs.Prelude.{◌||◌}
use Rattle.std.specs.List.{All, list_any}
use Rattle.std.proofs.lemmas.Bool.Decides.{nat_tests}
use Rattle.std.proofs.lemmas.List.{length-append}
use Rattle.std.proofs.lemmas.List.Elements.{All-nil, All-cons}
use Rattle.pt_canon.specs.pr_base.MountText.{MountText}
use Rattle.pt_canon.specs.pr_base.declared.errno.Errno.{Errno}
use Rattle.pt_canon.specs.pr_base.declared.errno.Errno.TheVariants.{EFAULT, ENAMETOOLONG}
use Rattle.pt_canon.specs.pt_bind.Binding.{names_of}
use Rattle.pt_canon.specs.Canon.{canon_of}
use Rattle.pt_canon.specs.TextWalk.{TextSurroundings}
use Rattle.kr_calls.specs.PathTable.{PathUse, path_at}
use Rattle.kr_calls.specs.declared.request.Request.{Request}
use Rattle.pt_args.specs.Bases.{base_of}
use Rattle.pt_args.specs.Edits.{both, edit_by, is_long, item_of, put_edit, registers_at, shelve}
use Rattle.pt_args.specs.Laws.{EditsKeepToPaths, IsPathRegister, StandBetween, room_of}
use Rattle.pt_args.specs.Plans.{first_walked, plan_behind, plan_both, plan_first, plan_from, plan_of, plan_one, second_walked, swap_of, unless_busy}
use Rattle.pt_args.specs.Points.{both_are_busy, one_is_busy}
use Rattle.pt_args.specs.Purposes.{opens, swap_for}
use Rattle.pt_args.specs.Shelving.{address_below, shelved}
use Rattle.pt_args.specs.Walks.{and_then, reached_at, walked, walked_along, walked_from}
use Rattle.pt_args.specs.declared.edit.Edit.TheVariants.{Swap, Cancel}
use Rattle.pt_args.specs.declared.plan.Plan.{Plan}
use Rattle.pt_args.specs.declared.plan.Plan.TheVariants.{Passes, Swaps}
use Rattle.pt_args.specs.declared.plan.Swapped.{Swapped}
use Rattle.pt_args.specs.declared.reached.Reached.{Reached}
use Rattle.pt_args.proofs.ShelfLemmas.{stand_between}

-- what goes on had a value to go on with
pub goes_on : {A B : Type 0} (a : Result A Errno) (next : A → Result B Errno) (y : B) → and_then a next ≡ Ok y → (x : A) × (a ≡ Ok x) × (next x ≡ Ok y)
goes_on (Ok x) next y e = (x, refl, e)
goes_on (Err f) next y e = absurd cc

module _ (texts : TextSurroundings) (pid : ℕ) (opening : Bool) (u : PathUse) (reached : Reached) where
  from_base : (base : Option (List ℕ)) → walked_from texts opening u base ≡ Ok (Some reached) → reached.register ≡ u.register
  from_base None e = absurd cc
  from_base (Some base) e =
      let s = goes_on (canon_of texts u.mode (names_of base) u.text) (λ canon. Ok (Some (reached_at u opening canon))) (Some reached) e in
      let same : reached_at u opening s.0 ≡ reached = let h = s.2 in cc in
      sym (ap (λ (r : Reached). r.register) same)

  -- a path that was walked keeps its register
  pub walked_register : walked texts pid opening u ≡ Ok (Some reached) → reached.register ≡ u.register
  walked_register e = at u.text e
    where
      at : (path : List ℕ) → walked_along texts pid opening u path ≡ Ok (Some reached) → reached.register ≡ u.register
      at [] e = absurd cc
      at (b ∷ path) e = let s = goes_on (base_of texts pid u) (walked_from texts opening u) (Some reached) e in from_base s.0 s.2

-- and so does what it is swapped for
swap_register : (bindings : List MountText) (reached : Reached) (s : Swapped) → swap_of bindings reached ≡ Ok s → s.register ≡ reached.register
swap_register bindings reached s e =
    let g = goes_on (swap_for bindings reached.purpose reached.canon) (λ text. Ok (record { register = reached.register; text = text })) s e in
    let same : record { register = reached.register; text = g.0 } ≡ s = let h = g.2 in cc in
    sym (ap (λ (s : Swapped). s.register) same)

not_busy : (busy : Bool) (plan other : Plan) → unless_busy busy plan ≡ Ok other → plan ≡ other
not_busy true plan other e = absurd cc
not_busy false plan other e = let h = e in cc

module _ (texts : TextSurroundings) (pid : ℕ) (request : Request) where
  -- the registers of swapped texts are those of the call's paths
  abbrev pub AreOfPaths : Plan → Type 0
  AreOfPaths Passes = Unit {0}
  AreOfPaths (Swaps first None) = IsPathRegister request first.register
  AreOfPaths (Swaps first (Some second)) = IsPathRegister request first.register × IsPathRegister request second.register

  abbrev Is : ℕ → Type 0
  Is register = IsPathRegister request register

  one_is : (first : Reached) (plan : Plan) → Is first.register → plan_one texts.bindings request first ≡ Ok plan → AreOfPaths plan
  one_is first plan is e =
      let g = goes_on (swap_of texts.bindings first) (λ s. unless_busy (one_is_busy texts.bindings request first.canon) (Swaps s None)) plan e in
      subst AreOfPaths (not_busy (one_is_busy texts.bindings request first.canon) (Swaps g.0 None) plan g.2) (subst Is (sym (swap_register texts.bindings first g.0 g.1)) is)

  first_is : (first : Reached) (plan : Plan) → Is first.register → plan_first texts.bindings first ≡ Ok plan → AreOfPaths plan
  first_is first plan is e =
      let g = goes_on (swap_of texts.bindings first) (λ s. Ok (Swaps s None)) plan e in
      let same : Swaps g.0 None ≡ plan = let h = g.2 in cc in
      subst AreOfPaths same (subst Is (sym (swap_register texts.bindings first g.0 g.1)) is)

  both_are : (old new : Reached) (plan : Plan) → Is old.register → Is new.register → plan_both texts.bindings request old new ≡ Ok plan → AreOfPaths plan
  both_are old new plan is other e =
      let busy = both_are_busy texts.bindings request old.canon new.canon in
      let g = goes_on (swap_of texts.bindings old) (λ s. and_then (swap_of texts.bindings new) (λ t. unless_busy (both_are_busy texts.bindings request old.canon new.canon) (Swaps s (Some t)))) plan e in
      let h = goes_on (swap_of texts.bindings new) (λ t. unless_busy (both_are_busy texts.bindings request old.canon new.canon) (Swaps g.0 (Some t))) plan g.2 in
      subst AreOfPaths (not_busy busy (Swaps g.0 (Some h.0)) plan h.2)
      (subst Is (sym (swap_register texts.bindings old g.0 g.1)) is, subst Is (sym (swap_register texts.bindings new h.0 h.1)) other)

  behind_is : (first : Reached) (second : Option Reached) (plan : Plan) → Is first.register → ((r : Reached) → second ≡ Some r → Is r.register) → plan_behind texts.bindings request first second ≡ Ok plan → AreOfPaths plan
  behind_is first None plan is other e = first_is first plan is e
  behind_is first (Some second) plan is other e = both_are first second plan is (other second refl) e

  second_is : (first : Reached) (o : Option PathUse) (plan : Plan) → path_at request 1 ≡ o → Is first.register → second_walked texts pid request first o ≡ Ok plan → AreOfPaths plan
  second_is first None plan there is e = one_is first plan is e
  second_is first (Some u) plan there is e =
      let g = goes_on (walked texts pid (opens request) u) (plan_behind texts.bindings request first) plan e in
      behind_is first g.0 plan is (λ r some. (u, inr there, sym (walked_register texts pid (opens request) u r (g.1 ∙ ap Ok some)))) g.2

  from_is : (u : PathUse) (o : Option Reached) (plan : Plan) → path_at request 0 ≡ Some u → walked texts pid (opens request) u ≡ Ok o → plan_from texts pid request o ≡ Ok plan → AreOfPaths plan
  from_is u None plan there w e = let same : Passes ≡ plan = cc in subst AreOfPaths same tt
  from_is u (Some first) plan there w e =
      second_is first (path_at request 1) plan refl (u, inl there, sym (walked_register texts pid (opens request) u first w)) e

  plan_is : (o : Option PathUse) (plan : Plan) → path_at request 0 ≡ o → first_walked texts pid request o ≡ Ok plan → AreOfPaths plan
  plan_is None plan there e = let same : Passes ≡ plan = cc in subst AreOfPaths same tt
  plan_is (Some u) plan there e =
      let g = goes_on (walked texts pid (opens request) u) (plan_from texts pid request) plan e in
      from_is u g.0 plan there g.1 g.2

-- ---- the edit

-- what a shelf is asked for, where a swap comes of it
pub record IsShelved (sp : ℕ) (usable : Bool) (first : Swapped) (second : Option Swapped) (regs : List (ℕ × ℕ)) (pokes : List (ℕ × List ℕ)) : Type 0 where
  pub used : usable ≡ true
  pub short : list_any is_long (both first second) ≡ false
  pub regs_are : regs ≡ registers_at sp (both first second)
  pub pokes_are : pokes ≡ shelved sp (map item_of (both first second))

shelf_is : (sp : ℕ) (usable : Bool) (first : Swapped) (second : Option Swapped) (regs : List (ℕ × ℕ)) (pokes : List (ℕ × List ℕ)) → shelve sp usable first second ≡ Swap regs pokes → IsShelved sp usable first second regs pokes
shelf_is sp usable first second regs pokes e = at (list_any is_long (both first second)) usable refl refl e
  where
    at : (long used : Bool) → list_any is_long (both first second) ≡ long → usable ≡ used
        → (if long then Cancel ENAMETOOLONG else if used then put_edit sp (both first second) else Cancel EFAULT) ≡ Swap regs pokes → IsShelved sp usable first second regs pokes
    at true used l u e = absurd cc
    at false false l u e = absurd cc
    at false true l u e =
        record {
          used = u;
          short = l;
          regs_are = let h : registers_at sp (both first second) ≡ regs = cc in sym h;
          pokes_are = let h : shelved sp (map item_of (both first second)) ≡ pokes = cc in sym h;
        }

-- a swap comes of a plan that swaps
swap_planned : {P : Type 0} (sp : ℕ) (usable : Bool) (regs : List (ℕ × ℕ)) (pokes : List (ℕ × List ℕ)) (plan : Result Plan Errno) → edit_by sp usable plan ≡ Swap regs pokes
    → ((first : Swapped) (second : Option Swapped) → plan ≡ Ok (Swaps first second) → IsShelved sp usable first second regs pokes → P) → P
swap_planned sp usable regs pokes (Ok Passes) e next = absurd cc
swap_planned sp usable regs pokes (Ok (Swaps first second)) e next = next first second refl (shelf_is sp usable first second regs pokes e)
swap_planned sp usable regs pokes (Err f) e next = absurd cc

registers_named : (texts : TextSurroundings) (pid sp : ℕ) (request : Request) (first : Swapped) (second : Option Swapped) → AreOfPaths texts pid request (Swaps first second) → All (λ r. IsPathRegister request r.0) (registers_at sp (both first second))
registers_named texts pid sp request first None are =
    let P : ℕ × ℕ → Type 0 = λ r. IsPathRegister request r.0 in
    All-cons P (first.register, address_below sp (length (item_of first))) [] are (All-nil P)
registers_named texts pid sp request first (Some second) are =
    let P : ℕ × ℕ → Type 0 = λ r. IsPathRegister request r.0 in
    let at : ℕ = address_below sp (length (item_of first)) in
    All-cons P (first.register, address_below sp (length (item_of first))) (registers_at at (second ∷ [])) are.0
    (All-cons P (second.register, address_below (address_below sp (length (item_of first))) (length (item_of second))) [] are.1 (All-nil P))

-- two texts of paths need little room
short_text : (s : Swapped) → is_long s ≡ false → length (item_of s) ≤ 4096
short_text s e =
    let n : length s.text ≤ 4095 = grind (arith, nat_tests) in
    omega (arith, n, length-append s.text (0 ∷ []))

room_for : (first : Swapped) (second : Option Swapped) → list_any is_long (both first second) ≡ false → room_of (map item_of (both first second)) ≤ 65536
room_for first None e = one (is_long first) refl e
  where
    one : (b : Bool) → is_long first ≡ b → (b || false) ≡ false → length (item_of first) + 7 + 0 ≤ 65536
    one true l e = absurd cc
    one false l e = omega (arith, short_text first l)
room_for first (Some second) e = two (is_long first) (is_long second) refl refl e
  where
    two : (b d : Bool) → is_long first ≡ b → is_long second ≡ d → (b || (d || false)) ≡ false → length (item_of first) + 7 + (length (item_of second) + 7 + 0) ≤ 65536
    two true d l m e = absurd cc
    two false true l m e = absurd cc
    two false false l m e = omega (arith, short_text first l, short_text second m)

pub edits_keep_to_paths : EditsKeepToPaths
edits_keep_to_paths = record {
  passed = λ texts pid sp usable request none. ap (λ o. edit_by sp usable (first_walked texts pid request o)) none;
  registers = λ texts pid sp usable request regs pokes e.
      swap_planned sp usable regs pokes (plan_of texts pid request) e (λ first second is shelf.
      let P : List (ℕ × ℕ) → Type 0 = λ regs. All (λ r. IsPathRegister request r.0) regs in
      subst P (sym shelf.regs_are) (registers_named texts pid sp request first second (plan_is texts pid request (path_at request 0) (Swaps first second) refl is)));
  used = λ texts pid sp usable request regs pokes e. swap_planned sp usable regs pokes (plan_of texts pid request) e (λ first second is shelf. shelf.used);
  within = λ texts pid sp usable request regs pokes room e.
      swap_planned sp usable regs pokes (plan_of texts pid request) e (λ first second is shelf.
      let fits = room_for first second shelf.short in
      let P : List (ℕ × List ℕ) → Type 0 = λ pokes. StandBetween (sp - 65536) sp pokes in
      (shelf.used, subst P (sym shelf.pokes_are) (stand_between (sp - 65536) sp (map item_of (both first second)) (omega arith))));
}
