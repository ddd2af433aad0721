-- The locations of bindings of bytes are of bytes.
use Rattle.std.proofs.Common.{◌≡◌, ℕ, zero, suc, Bool, true, false, ◌||◌, List, [], ◌∷◌, ◌++◌, map, Option, Some, None, Result, Ok, Err, refl, subst}
use Rattle.std.specs.Prelude.{IfSome, bytes_eq}
use Rattle.std.specs.Bool.{if◌then◌else◌}
use Rattle.std.specs.List.{AllByRecursion, slice_split}
use Rattle.pr_top.specs.pr_base.Paths.{Component, Dot, DotDot, Name, component_of, components_of, dot, dot_dot, has_slash, is_absolute, is_slash, is_walked, parts_of}
use Rattle.pr_top.specs.pr_base.Texts.{Text}
use Rattle.pr_top.specs.pr_base.WalkFrame.{Fails, Missing, Leads, Links, Jumps, Looking, Target, Trail, Onward, along, at_last, begins_at, ends, ends_landed, fails, here, in_middle, is_followed, jumps_on, loops, may_be_free, most_links, name_of, target_at, walk, walk_on, wants_directory}
use Rattle.pr_top.specs.pr_base.declared.errno.Errno.{Errno}
use Rattle.pr_top.specs.pr_base.declared.errno.Errno.TheVariants.{ENOENT, ENOTDIR}
use Rattle.pr_top.specs.pr_base.declared.path.WalkMode.{WalkMode}
use Rattle.pr_top.proofs.pr_base.EndLemmas.{EndsSo, either_way, ended, failed, jumps}
use Rattle.pr_top.specs.kr_inode.declared.user.User.{User}
use Rattle.pr_top.specs.kr_tree.Lawful.{AreBytes, HasBytes, IsOfBytes}
use Rattle.pr_top.specs.kr_tree.Tree.{Inode, SymbolicLink, Tree, body, inode}
use Rattle.pr_top.specs.kr_tree.declared.place.Place.{Place}
use Rattle.pr_top.specs.kr_tree.declared.place.ProcAt.{ProcAt}
use Rattle.pr_top.proofs.kr_tree.NameLemmas.{map_some}
use Rattle.pr_top.specs.kr_view.declared.procs.Lead.TheVariants.{Text as TextLead}
use Rattle.pr_top.specs.kr_view.Component.{SeenPlace, is_directory_at, look_up}
use Rattle.pr_top.specs.kr_view.View.{Row}
use Rattle.law_starts.proofs.kr_perform.LinkLemmas.{link_text}
use Rattle.pr_top.specs.kr_mounts.Locations.{SeenSpot, Spot, alone, by_text, leads_to, located_at, locating, location_at, location_by, location_mode, location_of, location_walked, look_from, spotted, stepped}
use Rattle.pr_top.specs.kr_mounts.Sources.{around_table}
use Rattle.pr_top.specs.kr_mounts.declared.fault.BindWhy.TheVariants.{NoPoint}
use Rattle.law_starts.specs.law_kept.Bytes.{AreAllBytes}
use Rattle.law_starts.proofs.law_kept.ListLemmas.{all-drop}
use Rattle.law_starts.proofs.law_allowed.PieceLemmas.{all-append}
use Rattle.law_machines.proofs.PieceLemmas.{pieces-bytes, some-bytes}

-- ---- components

abbrev IsByteComponent : Component → Type 0
IsByteComponent c = AreBytes (name_of c)

abbrev AreByteComponents : List Component → Type 0
AreByteComponents cs = AllByRecursion IsByteComponent cs

part-bytes : (part : List ℕ) → AreBytes part → IsByteComponent (component_of part)
part-bytes part are = one (bytes_eq part dot)
  where
    two : (b : Bool) → IsByteComponent (if b then DotDot else Name part)
    two true = tt
    two false = are

    one : (b : Bool) → IsByteComponent (if b then Dot else if bytes_eq part dot_dot then DotDot else Name part)
    one true = tt
    one false = two (bytes_eq part dot_dot)

each-part : (parts : Text) → AreAllBytes parts → AreByteComponents (map component_of parts)
each-part [] are = tt
each-part (part ∷ parts) are = (part-bytes part are.0, each-part parts are.1)

path-parts : (path : List ℕ) → AreBytes path → AreByteComponents (components_of path)
path-parts path are = each-part (parts_of path) (some-bytes (slice_split is_slash path) (pieces-bytes path are))

-- ---- a look

abbrev IsByteSpot : Spot → Type 0
IsByteSpot s = AreAllBytes s.text

step-bytes : (text : Text) (c : Component) → AreAllBytes text → IsByteComponent c → AreAllBytes (stepped text c)
step-bytes text Dot are own = are
step-bytes text DotDot are own = all-drop AreBytes 1 text are
step-bytes text (Name name) are own = (own, are)

abbrev Sees : SeenSpot → Type 0
Sees (Fails e) = Unit {0}
Sees Missing = Unit {0}
Sees (Leads is_dir q f) = IsByteSpot q × IsByteSpot f
Sees (Links f text) = IsByteSpot f × AreBytes text
Sees (Jumps f None) = IsByteSpot f
Sees (Jumps f (Some l)) = ⊥

module _ (t : Tree) (user : User) (table : List Row) (has : HasBytes t) where
  abbrev L : Looking Spot Spot
  L = locating t user table

  links : (i : ℕ) (text : List ℕ) → body t i ≡ Some (SymbolicLink text) → AreBytes text
  links i text is =
      let x = map_some (λ (x : Inode). x.node.body) (inode t i) (SymbolicLink text) is in
      subst IsOfBytes x.2 (has i x.0 x.1)

  texts : (at : ProcAt) (text : List ℕ) → (around_table table t user).leads at ≡ TextLead text → AreBytes text
  texts at text is = absurd cc

  module _ (s : Spot) (good : IsByteSpot s) (c : Component) (own : IsByteComponent c) where
    spotted-bytes : (p : Place ℕ) (seen : SeenPlace) → look_up (around_table table t user) p c ≡ seen → Sees (spotted s c seen)
    spotted-bytes p (Fails e) is = tt
    spotted-bytes p Missing is = (step-bytes s.text c good own, step-bytes s.text c good own)
    spotted-bytes p (Leads is_dir q f) is = (step-bytes s.text c good own, step-bytes s.text c good own)
    spotted-bytes p (Links f text) is = (step-bytes s.text c good own, link_text (around_table table t user) AreBytes links texts p c f text is)
    spotted-bytes p (Jumps f lead) is = step-bytes s.text c good own

    look-bytes : (o : Option (Place ℕ)) → Sees (look_from t user table s c o)
    look-bytes None = (step-bytes s.text c good own, step-bytes s.text c good own)
    look-bytes (Some p) = by (is_directory_at t p.host)
      where
        by : (b : Bool) → Sees (if b then spotted s c (look_up (around_table table t user) p c) else leads_to (by_text s c))
        by true = spotted-bytes p (look_up (around_table table t user) p c) refl
        by false = (step-bytes s.text c good own, step-bytes s.text c good own)

  -- ---- a walk

  abbrev Found : Target Spot Spot → Type 0
  Found target = IfSome target.found IsByteSpot

  abbrev Ends : Trail Spot Spot → Type 0
  Ends trail = EndsSo L Found trail

  begins-bytes : (s : Spot) (path : List ℕ) → IsByteSpot s → IsByteSpot (begins_at L s path)
  begins-bytes s path good = by (is_absolute path)
    where
      by : (b : Bool) → IsByteSpot (if b then L.root else s)
      by true = tt
      by false = good

  module _ (mode : WalkMode) (left : ℕ) (again : Onward Spot Spot) (onward : (s : Spot) (cs : List Component) (slash : Bool) → IsByteSpot s → AreByteComponents cs → Ends (again s cs slash)) where
    shown : (s : Spot) (c : Component) (slash : Bool) (f : Spot) → IsByteSpot f → Ends (ends (target_at s c slash (Some f)))
    shown s c slash f good = ended L Found (target_at s c slash (Some f)) good

    last-bytes : (s : Spot) (c : Component) (slash : Bool) (seen : SeenSpot) → IsByteSpot s → Sees seen → Ends (at_last L mode left again s c slash seen)
    last-bytes s c slash (Fails e) good sees = failed L Found e
    last-bytes s c slash Missing good sees =
        either_way L Found (may_be_free mode) (ends (target_at s c slash None)) (fails ENOENT) (ended L Found (target_at s c slash None) tt) (failed L Found ENOENT)
    last-bytes s c slash (Leads is_dir q f) good sees =
        let target = target_at s c slash (Some f) in
        let found = shown s c slash f sees.1 in
        either_way L Found (wants_directory mode slash) (if is_dir then ends target else fails ENOTDIR) (ends target) (either_way L Found is_dir (ends target) (fails ENOTDIR) found (failed L Found ENOTDIR)) found
    last-bytes s c slash (Links f text) good sees =
        either_way L Found (is_followed mode slash) (again (begins_at L s text) (components_of text) (slash || has_slash text)) (ends (target_at s c slash (Some f)))
        (onward (begins_at L s text) (components_of text) (slash || has_slash text) (begins-bytes s text good) (path-parts text sees.1)) (shown s c slash f sees.0)
    last-bytes s c slash (Jumps f None) good sees =
        either_way L Found (is_followed mode slash) (jumps_on left (ends_landed mode slash) None) (ends (target_at s c slash (Some f)))
        (jumps L Found left (ends_landed mode slash) None (λ l is. absurd cc)) (shown s c slash f sees)
    last-bytes s c slash (Jumps f (Some l)) good sees = absurd sees

    middle-bytes : (s : Spot) (rest : List Component) (slash : Bool) (go : Spot → Trail Spot Spot) (seen : SeenSpot) → IsByteSpot s → AreByteComponents rest → Sees seen → ((q : Spot) → IsByteSpot q → Ends (go q))
        → Ends (in_middle L left again s rest slash go seen)
    middle-bytes s rest slash go (Fails e) good parts sees each = failed L Found e
    middle-bytes s rest slash go Missing good parts sees each = failed L Found ENOENT
    middle-bytes s rest slash go (Leads is_dir q f) good parts sees each = each q sees.0
    middle-bytes s rest slash go (Links f text) good parts sees each =
        onward (begins_at L s text) (components_of text ++ rest) slash (begins-bytes s text good) (all-append IsByteComponent (components_of text) rest (path-parts text sees.1) parts)
    middle-bytes s rest slash go (Jumps f None) good parts sees each = jumps L Found left (λ l. again l.place rest slash) None (λ l is. absurd cc)
    middle-bytes s rest slash go (Jumps f (Some l)) good parts sees each = absurd sees

    along-bytes : (cs : List Component) (s : Spot) (slash : Bool) → IsByteSpot s → AreByteComponents cs → Ends (along L mode left again s cs slash)
    along-bytes [] s slash good parts = ended L Found (here L s slash) good
    along-bytes (c ∷ []) s slash good parts = last-bytes s c slash (L.look s c) good (look-bytes s good c parts.0 s.place)
    along-bytes (c ∷ d ∷ cs) s slash good parts =
        middle-bytes s (d ∷ cs) slash (λ q. along L mode left again q (d ∷ cs) slash) (L.look s c) good parts.1 (look-bytes s good c parts.0 s.place) (λ q own. along-bytes (d ∷ cs) q slash own parts.1)

  walk-bytes : (mode : WalkMode) (left : ℕ) (s : Spot) (cs : List Component) (slash : Bool) → IsByteSpot s → AreByteComponents cs → Ends (walk_on L mode left s cs slash)
  unfolding walk_on
  walk-bytes mode zero s cs slash good parts = along-bytes mode zero loops (λ s cs slash good parts. failed L Found _) cs s slash good parts
  walk-bytes mode (suc left) s cs slash good parts = along-bytes mode (suc left) (walk_on L mode left) (walk-bytes mode left) cs s slash good parts

located-bytes : (text location : Text) → AreAllBytes text → located_at text ≡ Ok location → AreAllBytes location
located-bytes [] location are e = absurd cc
located-bytes (name ∷ text) location are e = let same : name ∷ text ≡ location = cc in subst AreAllBytes same are

pub location-bytes : (t : Tree) (user : User) (root : ℕ) (keep : Bool) (path : List ℕ) (location : Text) → HasBytes t → AreBytes path → location_by t user root keep path ≡ Ok location → AreAllBytes location
location-bytes t user root keep path location has are e = walked (is_walked path) e
  where
    looking : Looking Spot Spot
    looking = locating t user (alone root)

    at : (found : Option Spot) → IfSome found IsByteSpot → location_at found ≡ Ok location → AreAllBytes location
    at None is e = absurd cc
    at (Some spot) is e = located-bytes spot.text location is e

    by : (r : Result (Target Spot Spot) Errno) → ((target : Target Spot Spot) → r ≡ Ok target → IfSome target.found IsByteSpot) → location_of r ≡ Ok location → AreAllBytes location
    by (Ok target) is e = at target.found (is target refl) e
    by (Err why) is e = absurd cc

    walked : (walks : Bool) → (if walks then location_walked t user root keep path else Err NoPoint) ≡ Ok location → AreAllBytes location
    walked true e =
        by (walk looking (location_mode keep) looking.root path).answer (walk-bytes t user (alone root) has (location_mode keep) most_links (begins_at looking looking.root path) (components_of path) (has_slash path) (begins-bytes t user (alone root) has looking.root path tt) (path-parts path are)) e
    walked false e = absurd cc
