-- Laws of walks, whatever a component shows.
use Rattle.std.specs.Prelude.{ℕ, ◌≡◌, ◌≢◌, Bool, true, false, List, [], ◌∷◌, Option, Some, None, Ok}
use Rattle.pr_base.specs.Paths.{Component, kind_of}
use Rattle.pr_base.specs.WalkFrame.{Seen, Fails, Missing, Leads, Links, Jumps, Landing, Looking, Target, Trail, name_of, landed, after_look, ends_here, in_middle, at_last, onward, walk_on, walk}
use Rattle.pr_base.specs.declared.path.Last.TheVariants as last
use Rattle.pr_base.specs.declared.path.WalkMode.{WalkMode}

-- behind what a component shows that others follow, and behind the last one
abbrev pub middle_trail : {S F : Type 0} → Looking S F → WalkMode → ℕ → S → List Component → Bool → Seen S F → Trail S F
middle_trail looking mode left s rest slash seen =
    in_middle looking left (onward looking mode left) s rest slash (λ q. walk_on looking mode left q rest slash) seen

abbrev pub last_trail : {S F : Type 0} → Looking S F → WalkMode → ℕ → S → Component → Bool → Seen S F → Trail S F
last_trail looking mode left s c slash seen = at_last looking mode left (onward looking mode left) s c slash seen

-- the walk along no component ends where it begins, and along some it looks at the first one
pub record WalksGoByComponents (S F : Type 0) : Type 0 where
  pub none : (looking : Looking S F) (mode : WalkMode) (left : ℕ) (s : S) (slash : Bool) → walk_on looking mode left s [] slash ≡ ends_here looking s slash
  pub one : (looking : Looking S F) (mode : WalkMode) (left : ℕ) (s : S) (c : Component) (slash : Bool)
      → walk_on looking mode left s (c ∷ []) slash ≡ after_look (record { place = s; component = c; is_last = true }) (last_trail looking mode left s c slash (looking.look s c))
  pub more : (looking : Looking S F) (mode : WalkMode) (left : ℕ) (s : S) (c d : Component) (cs : List Component) (slash : Bool)
      → walk_on looking mode left s (c ∷ d ∷ cs) slash
      ≡ after_look (record { place = s; component = c; is_last = false }) (middle_trail looking mode left s (d ∷ cs) slash (looking.look s c))

-- what a component shows is what was found
abbrev pub Shows : {S F : Type 0} → Seen S F → Option F → Type 0
Shows (Fails e) found = ⊥
Shows Missing found = found ≡ None
Shows (Leads is_dir q f) found = found ≡ Some f
Shows (Links f text) found = found ≡ Some f
Shows (Jumps f lead) found = found ≡ Some f

-- a target is what its last component shows from its directory
abbrev pub IsShown : {S F : Type 0} → Looking S F → Target S F → Type 0
IsShown looking t = (c : Component) × (kind_of c ≡ t.last) × (name_of c ≡ t.name) × Shows (looking.look t.dir c) t.found

-- a walk that ends with a component, and not with where a process link leads, found what that component
-- shows
abbrev pub FoundIsShown : Type 0 → Type 0 → Type 0
FoundIsShown S F =
    (looking : Looking S F) (mode : WalkMode) (base : S) (path : List ℕ) (t : Target S F) → (walk looking mode base path).answer ≡ Ok t → t.jumped ≡ false → t.last ≢ last.Root → IsShown looking t

-- a walk that ends where a process link leads found what that link shows
abbrev pub JumpIsShown : Type 0 → Type 0 → Type 0
JumpIsShown S F =
    (looking : Looking S F) (mode : WalkMode) (base : S) (path : List ℕ) (t : Target S F) → (walk looking mode base path).answer ≡ Ok t → t.jumped ≡ true
    → (s : S) × (c : Component) × (f : F) × (l : Landing S F) × (looking.look s c ≡ Jumps f (Some l)) × (t ≡ landed l t.slash)
