-- Two ways of looking, and how the walks over them correspond: the same errno, or targets that do.
use Rattle.std.specs.Prelude.{◌≡◌, ◌≢◌, false, true, Option, Some, None, Result, Ok, Err, List, ℕ, Bool, All}
use Rattle.pr_base.specs.Paths.{Component, kind_of, components_of}
use Rattle.pr_base.specs.WalkFrame.{name_of, Seen, Fails, Missing, Leads, Links, Jumps, Landing, Looking, Target, is_followed, walk}
use Rattle.pr_base.specs.declared.errno.Errno.{Errno}
use Rattle.pr_base.specs.declared.path.Last.TheVariants as kinds
use Rattle.pr_base.specs.declared.path.WalkMode.{WalkMode}

-- what ties two ways of looking: the places that walks go on from, the links that they come to, and what
-- they may end with; the directory and name of what a process link leads to, on the first side, with what is
-- found there on both; and which components are looked at
pub record Likeness (S F T G : Type 0) : Type 1 where
  pub places : S → T → Type 0
  pub links : F → G → Type 0
  pub found : F → G → Type 0
  pub entries : S → List ℕ → F → G → Type 0
  pub fine : Component → Type 0

pub data OptionAlike {A B : Type 0} (Q : A → B → Type 0) : Option A → Option B → Type 0 where
  neither : OptionAlike Q None None
  both : {a : A} {b : B} → Q a b → OptionAlike Q (Some a) (Some b)

module _ {S F T G : Type 0} (like : Likeness S F T G) where
  -- of what a process link led to, the directories aren't compared
  pub record LandingAlike (a : Landing S F) (b : Landing T G) : Type 0 where
    pub place : like.places a.place b.place
    pub found : like.found a.found b.found
    pub is_dir : a.is_dir ≡ b.is_dir
    pub name : a.name ≡ b.name
    pub entry : like.entries a.dir a.name a.found b.found

  -- what one component shows
  pub data SeenAlike : Seen S F → Seen T G → Type 0 where
    fails : (e : Errno) → SeenAlike (Fails e) (Fails e)
    missing : SeenAlike Missing Missing
    leads : (is_dir : Bool) {s : S} {t : T} {f : F} {g : G} → like.places s t → like.found f g → SeenAlike (Leads is_dir s f) (Leads is_dir t g)
    links : (text : List ℕ) {f : F} {g : G} → like.links f g → SeenAlike (Links f text) (Links g text)
    jumps : {f : F} {g : G} {a : Option (Landing S F)} {b : Option (Landing T G)} → like.links f g → OptionAlike LandingAlike a b → SeenAlike (Jumps f a) (Jumps g b)

  -- the ways of looking themselves, as far as a walk in a mode asks: a link that isn't followed may be found
  pub record LooksAlike (one : Looking S F) (two : Looking T G) (mode : WalkMode) : Type 0 where
    pub roots : like.places one.root two.root
    pub heres : (s : S) (t : T) → like.places s t → like.found (one.here s) (two.here t)
    pub texts : (text : List ℕ) → All like.fine (components_of text)
    pub looks : (s : S) (t : T) (c : Component) → like.places s t → like.fine c → SeenAlike (one.look s c) (two.look t c)
    pub unfollowed : (slash : Bool) (f : F) (g : G) → is_followed mode slash ≡ false → like.links f g → like.found f g

  -- where two walks end. Their last component, where there is one, is one of those that are looked at
  pub record TargetAlike (a : Target S F) (b : Target T G) : Type 0 where
    pub dir : a.jumped ≡ false → like.places a.dir b.dir
    pub name : a.name ≡ b.name
    pub last : a.last ≡ b.last
    pub slash : a.slash ≡ b.slash
    pub jumped : a.jumped ≡ b.jumped
    pub found : OptionAlike like.found a.found b.found
    pub landed : a.jumped ≡ true → (f : F) (g : G) → a.found ≡ Some f → b.found ≡ Some g → like.entries a.dir a.name f g
    pub component : a.jumped ≡ false → a.last ≢ kinds.Root → (c : Component) × (kind_of c ≡ a.last) × (name_of c ≡ a.name) × like.fine c

  pub data Alike : Result (Target S F) Errno → Result (Target T G) Errno → Type 0 where
    errs : (e : Errno) → Alike (Err e) (Err e)
    ends : {a : Target S F} {b : Target T G} → TargetAlike a b → Alike (Ok a) (Ok b)

  -- walks over two ways of looking that are alike end alike
  abbrev pub WalksEndAlike : Type 0
  WalksEndAlike =
      (one : Looking S F) (two : Looking T G) (mode : WalkMode) (s : S) (t : T) (path : List ℕ)
      → LooksAlike one two mode → like.places s t → Alike (walk one mode s path).answer (walk two mode t path).answer
