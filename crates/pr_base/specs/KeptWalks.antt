-- What holds of the places that a walk goes through, and of where it ends, where each of its looks keeps it.
use Rattle.std.specs.Prelude.{◌≡◌, List, ℕ, Bool, Option, Some, None, Ok, All}
use Rattle.pr_base.specs.WalkFrame.{Seen, Fails, Missing, Leads, Links, Jumps, Landing, LookedAt, Looking, Target, here, landed, target_at, walk}
use Rattle.pr_base.specs.WalkLaws.{Shows}
use Rattle.pr_base.specs.declared.path.WalkMode.{WalkMode}

-- where a walk goes on from what is seen
abbrev pub GoesOn : {S F : Type 0} → (S → Type 0) → Seen S F → Type 0
GoesOn Good (Fails e) = Unit {0}
GoesOn Good Missing = Unit {0}
GoesOn Good (Leads is_dir q f) = Good q
GoesOn Good (Links f text) = Unit {0}
GoesOn Good (Jumps f None) = Unit {0}
GoesOn Good (Jumps f (Some l)) = Good l.place

-- a look from a good place that is fine
abbrev pub IsFromGood : {S : Type 0} → (S → Type 0) → (LookedAt S → Type 0) → LookedAt S → Type 0
IsFromGood Good Fine l = Good l.place × Fine l

module _ {S : Type 0} (Good : S → Type 0) (Fine : LookedAt S → Type 0) {F : Type 0} where
  -- the root is good, a fine look from a good place goes on at a good one, and the target of a walk that ends after such a look,
  -- or without a look at a good place, has P
  pub record IsKeptByLooks (looking : Looking S F) (P : Target S F → Type 0) : Type 0 where
    pub root : Good looking.root
    pub looks : (l : LookedAt S) → Good l.place → Fine l → GoesOn Good (looking.look l.place l.component)
    pub beginning : (s : S) (slash : Bool) → Good s → P (here looking s slash)
    pub component : (l : LookedAt S) (slash : Bool) (found : Option F) → Good l.place → Fine l → Shows (looking.look l.place l.component) found → P (target_at l.place l.component slash found)
    pub landing : (l : LookedAt S) (slash : Bool) (f : F) (to : Landing S F) → Good l.place → Fine l → looking.look l.place l.component ≡ Jumps f (Some to) → P (landed to slash)

  -- then a walk from a good place all of whose looks are fine looks from good places alone, and its target has P
  pub record IsKeptAlong (looking : Looking S F) (P : Target S F → Type 0) (mode : WalkMode) (base : S) (path : List ℕ) : Type 0 where
    pub looks : All (IsFromGood Good Fine) (walk looking mode base path).looks
    pub target : (t : Target S F) → (walk looking mode base path).answer ≡ Ok t → P t

abbrev pub WalksKeep : {S F : Type 0} → (S → Type 0) → (LookedAt S → Type 0) → (Target S F → Type 0) → Type 0
WalksKeep Good Fine P =
    (looking : Looking _ _) (mode : WalkMode) (base : _) (path : List ℕ) → IsKeptByLooks Good Fine looking P → Good base → All Fine (walk looking mode base path).looks
    → IsKeptAlong Good Fine looking P mode base path
