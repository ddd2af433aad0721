-- What the steps of a walk answer, over the definition of the walk. No public clause cites this module.
use Rattle.std.specs.Prelude.{ℕ, ◌≡◌, ◌≢◌, ◌-◌, Bool, List, [], Option, Some, Result, Ok, Err}
use Rattle.std.specs.Bool.{if◌then◌else◌}
use Rattle.pt_bind.specs.pr_base.Paths.{Component, components_of, is_absolute}
use Rattle.pt_bind.specs.pr_base.Texts.{Text}
use Rattle.pt_bind.specs.pr_base.WalkFrame.{Landing, Target, Trail, fails, jumps_on, walk_on}
use Rattle.pt_bind.specs.pr_base.WalkLaws as laws
use Rattle.pt_bind.specs.pr_base.declared.errno.Errno.{Errno}
use Rattle.pt_bind.specs.pr_base.declared.errno.Errno.TheVariants.{ELOOP}
use Rattle.pt_bind.specs.pr_base.declared.path.WalkMode.{WalkMode}
use Rattle.pt_canon.specs.Canon.{ending_of}
use Rattle.pt_canon.specs.Looks.{IsKnown, led}
use Rattle.pt_canon.specs.Steadily.{WasAsked, behind_looks}
use Rattle.pt_canon.specs.TextWalk.{TextSurroundings, SeenText, looking_texts}
use Rattle.pt_canon.specs.declared.canon.WalkErr.{WalkErr}
use Rattle.pt_canon.specs.declared.canon.WalkErr.TheVariants as fault
use Rattle.pt_canon.specs.declared.ending.Ended.{Ended}
use Rattle.pt_canon.specs.declared.sight.Known.{Known}
use Rattle.pt_canon.specs.declared.walk.Onward.{Onward}
use Rattle.pt_canon.specs.declared.walk.Passed.{Passed}
use Rattle.pt_canon.specs.declared.walk.Passed.TheVariants as passed
use Rattle.pt_canon.specs.declared.walk.Terms.{Terms}
use Rattle.pt_canon.specs.declared.walk.Way.{Way}
use Rattle.pt_canon.specs.declared.walk.Way.TheVariants as way

-- what is left of a walk, as where it ends and whether it is steady
abbrev pub ended_by : WalkMode → Bool → Result (Target Text Text) Errno → Result Ended Errno
ended_by mode steady (Ok target) = Ok (record { ending = ending_of mode target; steady = steady })
ended_by mode steady (Err e) = Err e

-- what is left of a walk: where it ends, and what is noted of its looks
pub record Left : Type 0 where
  pub ends : Result Ended Errno
  pub noted : Bool → Bool

-- by whether it is steady so far, and what was noted before
abbrev pub ended : TextSurroundings → WalkMode → Bool → Trail Text Text → Left
ended texts mode steady trail = record { ends = ended_by mode (behind_looks texts steady trail.looks) trail.answer; noted = λ unmet. behind_looks texts unmet trail.looks }

-- where no look is left
abbrev pub done : Result Ended Errno → Left
done ends = record { ends = ends; noted = λ unmet. unmet }

-- along components from a text
abbrev pub left_on : TextSurroundings → WalkMode → ℕ → Text → List Component → Bool → Trail Text Text
left_on texts mode left at cs slash = walk_on (looking_texts texts) mode left at cs slash

-- behind what a component shows that others follow, and behind the last one
abbrev pub middle_trail : TextSurroundings → Terms → Text → List Component → SeenText → Trail Text Text
middle_trail texts terms t rest seen = laws.middle_trail (looking_texts texts) terms.mode terms.left t rest terms.slash seen

abbrev pub last_trail : TextSurroundings → Terms → Text → Component → SeenText → Trail Text Text
last_trail texts terms t c seen = laws.last_trail (looking_texts texts) terms.mode terms.left t c terms.slash seen

-- ---- what a step answers

-- what holds of its answer; an error is where the walk ends, but for want of memory
abbrev pub Tells : {T : Type 0} → (T → Type 0) → Left → Result T WalkErr → Type 0
Tells P whole (Ok x) = P x
Tells P whole (Err (fault.Err e)) = whole ≡ done (Err e)
Tells P whole (Err fault.NoMemory) = Unit {0}

-- a walk that goes on behind a link, of which one less may follow, ends as the whole one does
pub record GoesOn (texts : TextSurroundings) (mode : WalkMode) (left : ℕ) (whole : Left) (on : Onward) : Type 0 where
  pub some : left ≢ 0
  pub ends : whole ≡ ended texts mode on.steady (left_on texts mode (left - 1) on.at (components_of on.path) on.slash)

abbrev pub WayIs : TextSurroundings → WalkMode → ℕ → Left → Way → Type 0
WayIs texts mode left whole (way.Ends ended) = whole ≡ done (Ok ended)
WayIs texts mode left whole (way.Goes on) = GoesOn texts mode left whole on

-- of a path up to its end, or up to the first link that is followed, by whether the walk is steady before that
abbrev pub IsWay : TextSurroundings → WalkMode → ℕ → Bool → Trail Text Text → Result Way WalkErr → Type 0
IsWay texts mode left steady trail result = Tells (WayIs texts mode left (ended texts mode steady trail)) (ended texts mode steady trail) result

-- what is known of a guest text, and what was asked of it
pub record IsNoted (texts : TextSurroundings) (t : Text) (known : Known) (steady : Bool) : Type 0 where
  pub found : IsKnown texts t known
  pub asked : WasAsked texts t known steady

abbrev pub PassedIs : TextSurroundings → Terms → List Component → Left → Passed → Type 0
PassedIs texts terms rest whole (passed.On at known steady) =
    (whole ≡ ended texts terms.mode steady (left_on texts terms.mode terms.left at rest terms.slash)) × IsNoted texts at known steady
PassedIs texts terms rest whole (passed.Off on) = GoesOn texts terms.mode terms.left whole on

-- of a component that others follow
abbrev pub IsPassed : TextSurroundings → Terms → List Component → Bool → Trail Text Text → Result Passed WalkErr → Type 0
IsPassed texts terms rest steady trail result = Tells (PassedIs texts terms rest (ended texts terms.mode steady trail)) (ended texts terms.mode steady trail) result

-- ---- links

-- where the text of a link begins, by the text above the link
abbrev pub start_of : Text → List ℕ → Text
start_of t text = if is_absolute text then [] else t

abbrev pub IsFollowed : ℕ → Text → Result Text WalkErr → Type 0
IsFollowed left start (Ok at) = (left ≢ 0) × (at ≡ start)
IsFollowed left start (Err (fault.Err e)) = (left ≡ 0) × (e ≡ ELOOP)
IsFollowed left start (Err fault.NoMemory) = Unit {0}

-- a link of the process directory
abbrev pub IsJumped : ℕ → Option (Landing Text Text) → Result Text WalkErr → Type 0
IsJumped left lead (Ok guest) = (left ≢ 0) × (led lead ≡ Some guest)
IsJumped left lead (Err (fault.Err e)) = (go : Landing Text Text → Trail Text Text) → jumps_on left go lead ≡ fails e
IsJumped left lead (Err fault.NoMemory) = Unit {0}

-- ---- what is noted

-- where a walk ends, and what is noted of it, by whether it is steady so far and what was noted before
abbrev pub told : TextSurroundings → WalkMode → (steady unmet : Bool) → Trail Text Text → Result Ended Errno × Bool
told texts mode steady unmet trail = ((ended texts mode steady trail).ends, behind_looks texts unmet trail.looks)

pub record GoesBehind (texts : TextSurroundings) (mode : WalkMode) (left : ℕ) (whole : Result Ended Errno × Bool) (new : Bool) (on : Onward) : Type 0 where
  pub some : left ≢ 0
  pub ends : whole.0 ≡ (ended texts mode on.steady (left_on texts mode (left - 1) on.at (components_of on.path) on.slash)).ends
  pub noted : behind_looks texts new (left_on texts mode (left - 1) on.at (components_of on.path) on.slash).looks ≡ whole.1

-- of a path up to its end, or up to the first link that is followed, by what comes of the whole walk
abbrev pub WayComes : TextSurroundings → WalkMode → ℕ → Result Ended Errno × Bool → (new : Bool) → Result Way WalkErr → Type 0
WayComes texts mode left whole new (Ok (way.Ends end)) = (whole.0 ≡ Ok end) × (new ≡ whole.1)
WayComes texts mode left whole new (Ok (way.Goes on)) = GoesBehind texts mode left whole new on
WayComes texts mode left whole new (Err (fault.Err e)) = (whole.0 ≡ Err e) × (new ≡ whole.1)
WayComes texts mode left whole new (Err fault.NoMemory) = Unit {0}

-- behind a component that others follow, with what was asked where the walk goes on
abbrev pub PassedNoted : TextSurroundings → (after new : Bool) → Result Passed WalkErr → Type 0
PassedNoted texts after new (Ok (passed.On at known steady)) = (new ≡ after) × WasAsked texts at known new
PassedNoted texts after new (Ok (passed.Off on)) = new ≡ after
PassedNoted texts after new (Err (fault.Err e)) = new ≡ after
PassedNoted texts after new (Err fault.NoMemory) = Unit {0}
