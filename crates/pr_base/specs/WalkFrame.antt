-- A walk along a path, as path_resolution(7) tells it: the order of components, the links that are
-- left, where the text of a link goes on, trailing slashes and endings. What one component shows from
-- one place is left open, so that a kernel walks places and a tracer walks texts by the same rules.
use Rattle.std.specs.Prelude.{ℕ, zero, suc, Bool, true, false, ◌||◌, Option, Some, None, Result, Ok, Err, List, [], ◌∷◌, ◌++◌, if◌then◌else◌}
use Rattle.pr_base.specs.Paths.{Component, Dot, DotDot, Name, components_of, is_absolute, has_slash, kind_of}
use Rattle.pr_base.specs.declared.errno.Errno.{Errno}
use Rattle.pr_base.specs.declared.errno.Errno.TheVariants.{ENOENT, ENOTDIR, ELOOP}
use Rattle.pr_base.specs.declared.path.Last.{Last}
use Rattle.pr_base.specs.declared.path.Last.TheVariants as last
use Rattle.pr_base.specs.declared.path.WalkMode.{WalkMode}
use Rattle.pr_base.specs.declared.path.WalkMode.TheVariants.{Look, LookLink, Name as NameMode, Open}

-- ---- what one component shows

-- where a process link leads: the place and what is found there, whether it is a directory, and the
-- directory and name that what is found has
pub record Landing (S F : Type 0) : Type 0 where
  pub place : S
  pub found : F
  pub is_dir : Bool
  pub dir : S
  pub name : List ℕ

-- what a component shows from a place
pub data Seen (S F : Type 0) : Type 0 where
  -- it can't be looked up
  Fails : Errno → Seen S F
  -- the place is a directory that may be searched, and has no such entry
  Missing : Seen S F
  -- no link: whether it is a directory, the place where a walk goes on, and what is found
  Leads : Bool → S → F → Seen S F
  -- a link with its text
  Links : F → List ℕ → Seen S F
  -- a link of the process directory without a text, which leads somewhere or nowhere
  Jumps : F → Option (Landing S F) → Seen S F

-- a way of looking: the place of the root, a place as what is found, and what components show
pub record Looking (S F : Type 0) : Type 0 where
  pub root : S
  pub here : S → F
  pub look : S → Component → Seen S F

-- ---- what a walk gives

-- the directory, name and kind of the last component, the trailing slash, and what was found; a free
-- name has nothing. `jumped` marks what a process link as the last component led to
pub record Target (S F : Type 0) : Type 0 where
  pub dir : S
  pub name : List ℕ
  pub last : Last
  pub slash : Bool
  pub found : Option F
  pub jumped : Bool

-- a component that was looked at from a place, and whether it was the last one
pub record LookedAt (S : Type 0) : Type 0 where
  pub place : S
  pub component : Component
  pub is_last : Bool

-- the looks of a walk, where the process links led that it followed, each in its order, and its answer
pub record Trail (S F : Type 0) : Type 0 where
  pub looks : List (LookedAt S)
  pub landings : List (Landing S F)
  pub answer : Result (Target S F) Errno

abbrev pub fails : {S F : Type 0} → Errno → Trail S F
fails e = record { looks = []; landings = []; answer = Err e }

abbrev pub ends : {S F : Type 0} → Target S F → Trail S F
ends target = record { looks = []; landings = []; answer = Ok target }

-- one more look before a trail
abbrev pub after_look : {S F : Type 0} → LookedAt S → Trail S F → Trail S F
after_look l trail = record { looks = l ∷ trail.looks; landings = trail.landings; answer = trail.answer }

-- one more process link that was followed before a trail
abbrev pub after_jump : {S F : Type 0} → Landing S F → Trail S F → Trail S F
after_jump l trail = record { looks = trail.looks; landings = l ∷ trail.landings; answer = trail.answer }

-- ---- what the four modes ask of the last component

-- whether a link is followed there
abbrev pub is_followed : WalkMode → Bool → Bool
is_followed Look slash = true
is_followed LookLink slash = slash
is_followed NameMode slash = false
is_followed Open slash = true

-- whether it must be a directory. Where a name may be free, the call tests its slash by itself
abbrev pub wants_directory : WalkMode → Bool → Bool
wants_directory Look slash = slash
wants_directory LookLink slash = slash
wants_directory NameMode slash = false
wants_directory Open slash = false

-- whether it may be missing
abbrev pub may_be_free : WalkMode → Bool
may_be_free Look = false
may_be_free LookLink = false
may_be_free NameMode = true
may_be_free Open = true

-- ---- endings

abbrev pub name_of : Component → List ℕ
name_of Dot = []
name_of DotDot = []
name_of (Name name) = name

-- a path without components is at the place where it begins
abbrev pub here : {S F : Type 0} → Looking S F → S → Bool → Target S F
here looking s slash =
    record { dir = s; name = []; last = last.Root; slash = slash; found = Some (looking.here s); jumped = false }

abbrev pub ends_here : {S F : Type 0} → Looking S F → S → Bool → Trail S F
ends_here looking s slash = ends (here looking s slash)

-- the last component as it stands in its directory
abbrev pub target_at : {S F : Type 0} → S → Component → Bool → Option F → Target S F
target_at s c slash found =
    record { dir = s; name = name_of c; last = kind_of c; slash = slash; found = found; jumped = false }

abbrev pub ends_missing : {S F : Type 0} → WalkMode → S → Component → Bool → Trail S F
ends_missing mode s c slash = if may_be_free mode then ends (target_at s c slash None) else fails ENOENT

-- a slash behind what is no directory is ENOTDIR, where the walk asks for one
abbrev pub ends_found : {S F : Type 0} → WalkMode → Bool → Target S F → Trail S F
ends_found mode is_dir target =
    if wants_directory mode target.slash then (if is_dir then ends target else fails ENOTDIR) else ends target

-- what a process link led to
abbrev pub landed : {S F : Type 0} → Landing S F → Bool → Target S F
landed landing slash =
    record { dir = landing.dir; name = landing.name; last = last.Name; slash = slash; found = Some landing.found; jumped = true }

-- it isn't looked at again
abbrev pub ends_landed : {S F : Type 0} → WalkMode → Bool → Landing S F → Trail S F
ends_landed mode slash landing = ends_found mode landing.is_dir (landed landing slash)

-- ---- the walk

-- where a path, or the text of a link, begins
abbrev pub begins_at : {S F : Type 0} → Looking S F → S → List ℕ → S
begins_at looking s path = if is_absolute path then looking.root else s

-- what comes after a followed link
abbrev pub Onward : Type 0 → Type 0 → Type 0
Onward S F = S → List Component → Bool → Trail S F

-- a followed process link takes one of the links that are left, before it is asked where it leads
abbrev pub jumps_on : {S F : Type 0} → ℕ → (Landing S F → Trail S F) → Option (Landing S F) → Trail S F
jumps_on zero go lead = fails ELOOP
jumps_on (suc left) go None = fails ENOENT
jumps_on (suc left) go (Some landing) = after_jump landing (go landing)

-- after a component behind which others come: `go` says what comes after a place that it leads to
abbrev pub in_middle : {S F : Type 0} → Looking S F → ℕ → Onward S F → S → List Component → Bool → (S → Trail S F) → Seen S F → Trail S F
in_middle looking left again s rest slash go (Fails e) = fails e
in_middle looking left again s rest slash go Missing = fails ENOENT
in_middle looking left again s rest slash go (Leads is_dir q found) = go q
in_middle looking left again s rest slash go (Links found text) = again (begins_at looking s text) (components_of text ++ rest) slash
in_middle looking left again s rest slash go (Jumps found lead) = jumps_on left (λ landing. again landing.place rest slash) lead

-- after the last component
abbrev pub at_last : {S F : Type 0} → Looking S F → WalkMode → ℕ → Onward S F → S → Component → Bool → Seen S F → Trail S F
at_last looking mode left again s c slash (Fails e) = fails e
at_last looking mode left again s c slash Missing = ends_missing mode s c slash
at_last looking mode left again s c slash (Leads is_dir q found) = ends_found mode is_dir (target_at s c slash (Some found))
at_last looking mode left again s c slash (Links found text) =
    if is_followed mode slash then again (begins_at looking s text) (components_of text) (slash || has_slash text)
    else ends (target_at s c slash (Some found))
at_last looking mode left again s c slash (Jumps found lead) =
    if is_followed mode slash then jumps_on left (ends_landed mode slash) lead
    else ends (target_at s c slash (Some found))

-- along the components, where `again` says what comes after a followed link
abbrev pub along : {S F : Type 0} → Looking S F → WalkMode → ℕ → Onward S F → S → List Component → Bool → Trail S F
along looking mode left again s [] slash = ends_here looking s slash
along looking mode left again s (c ∷ []) slash =
    after_look (record { place = s; component = c; is_last = true }) (at_last looking mode left again s c slash (looking.look s c))
along looking mode left again s (c ∷ d ∷ cs) slash =
    after_look (record { place = s; component = c; is_last = false })
    (in_middle looking left again s (d ∷ cs) slash (λ q. along looking mode left again q (d ∷ cs) slash) (looking.look s c))

abbrev pub loops : {S F : Type 0} → Onward S F
loops s cs slash = fails ELOOP

-- the walk from a place along components, with this many links left
unfoldable pub walk_on : {S F : Type 0} → Looking S F → WalkMode → ℕ → S → List Component → Bool → Trail S F
walk_on looking mode zero s cs slash = along looking mode zero loops s cs slash
walk_on looking mode (suc left) s cs slash = along looking mode (suc left) (walk_on looking mode left) s cs slash

-- what comes after a followed link, with this many left before it
abbrev pub onward : {S F : Type 0} → Looking S F → WalkMode → ℕ → Onward S F
onward looking mode zero = loops
onward looking mode (suc left) = walk_on looking mode left

-- how many links a walk follows at most
abbrev pub most_links : ℕ
most_links = 40

-- the walk from a base along a path
abbrev pub walk : {S F : Type 0} → Looking S F → WalkMode → S → List ℕ → Trail S F
walk looking mode base path =
    walk_on looking mode most_links (begins_at looking base path) (components_of path) (has_slash path)
