-- How bindings are settled, in four passes: the root's source; the other sources; the locations in the guest's root
-- alone; and the mount points, by names alone, through the mounts before each.
use Rattle.std.specs.Prelude.{ℕ, Bool, List, [], ◌∷◌, ◌++◌, length, reverse, Option, Some, None, Result, Ok, Err, nat_le, if◌then◌else◌}
use Rattle.std.specs.List.{list_any}
use Rattle.std.specs.Option.{option_map_or}
use Rattle.pt_bind.specs.pr_base.Texts.{Text, texts_eq}
use Rattle.pt_bind.specs.pr_base.declared.bind.Bind.{Bind}
use Rattle.kr_walk.specs.kr_inode.declared.user.User.{User}
use Rattle.kr_walk.specs.kr_tree.Names.{host_name}
use Rattle.kr_walk.specs.kr_tree.Tree.{Tree}
use Rattle.kr_walk.specs.kr_view.View.{Point, Row, root_source}
use Rattle.kr_mounts.specs.Sources.{Source, source_by, root_source_by}
use Rattle.kr_mounts.specs.Locations.{location_by}
use Rattle.kr_mounts.specs.Points.{Left, way}
use Rattle.kr_mounts.specs.Texts.{last_name}
use Rattle.kr_mounts.specs.declared.fault.BindWhy.{BindWhy}
use Rattle.kr_mounts.specs.declared.fault.BindWhy.TheVariants.{NoSource, AtRoot}

-- the first binding that is refused, by its index, and why
pub record Refusal : Type 0 where
  pub index : ℕ
  pub why : BindWhy

abbrev pub told : {A : Type 0} → ℕ → Result A BindWhy → Result A Refusal
told index (Ok x) = Ok x
told index (Err why) = Err (record { index = index; why = why })

abbrev pub and_then : {A B : Type 0} → Result A Refusal → (A → Result B Refusal) → Result B Refusal
and_then (Ok x) go = go x
and_then (Err e) go = Err e

-- ---- sources and locations

abbrev pub as_source : Option Source → Result Source BindWhy
as_source (Some source) = Ok source
as_source None = Err NoSource

-- a binding with its source
pub record Sourced : Type 0 where
  pub bind : Bind
  pub source : Source

abbrev pub sourced : Tree → User → Bind → Result Sourced Refusal
sourced t user bind = and_then (told bind.index (as_source (source_by t user bind.host))) (λ source. Ok (record { bind = bind; source = source }))

-- the bindings with their sources, in option order
abbrev pub sources : Tree → User → List Bind → Result (List Sourced) Refusal
sources t user [] = Ok []
sources t user (bind ∷ binds) = and_then (sourced t user bind) (λ one. and_then (sources t user binds) (λ more. Ok (one ∷ more)))

-- a binding with its source and location
pub record Located : Type 0 where
  pub index : ℕ
  pub keep : Bool
  pub source : Source
  pub location : Text

abbrev pub located : Tree → User → ℕ → Sourced → Result Located Refusal
located t user root s =
    and_then (told s.bind.index (location_by t user root s.bind.keep s.bind.guest)) (λ location. Ok (record { index = s.bind.index; keep = s.bind.keep; source = s.source; location = location }))

-- the bindings with their locations, in option order
abbrev pub locations : Tree → User → ℕ → List Sourced → Result (List Located) Refusal
locations t user root [] = Ok []
locations t user root (s ∷ more) = and_then (located t user root s) (λ one. and_then (locations t user root more) (λ rest. Ok (one ∷ rest)))

-- ---- which count, and in what order

abbrev pub is_located_as : Located → Located → Bool
is_located_as one other = texts_eq one.location other.location

-- of equal locations the last one counts
abbrev pub counting : List Located → List Located
counting [] = []
counting (one ∷ more) = if list_any (is_located_as one) more then counting more else one ∷ counting more

-- a binding in front of those with more names, and of those with as many, which come behind it
abbrev pub placed_before : Located → List Located → List Located
placed_before one [] = one ∷ []
placed_before one (other ∷ more) = if nat_le (length one.location) (length other.location) then one ∷ other ∷ more else other ∷ placed_before one more

-- by the number of names, and where that is the same in option order
abbrev pub in_order : List Located → List Located
in_order [] = []
in_order (one ∷ more) = placed_before one (in_order more)

-- ---- rows

-- the directory of a source; the root of the host stands in none
abbrev pub dir_of : Source → Text → ℕ
dir_of source [] = 0
dir_of source (name ∷ text) = source.dir

abbrev pub row_of : ℕ → Text → Source → Option Text → Option Point → Row
row_of index location source point_text point = record {
  text = record { index = index; location = location; source = source.text; point = point_text };
  source = source.inode;
  source_dir = dir_of source source.text;
  source_name = last_name source.text;
  is_dir = source.is_dir;
  point = point;
}

abbrev pub root_row : Source → Row
root_row source = row_of 0 [] source None None

-- the host text of a mount point: its name below that of its directory
abbrev pub point_text : Tree → Point → Text
point_text t p = p.name ∷ option_map_or (λ text. text) (host_name t p.dir) []

abbrev pub point_row : Tree → Located → Point → Row
point_row t one p = row_of one.index one.location one.source (Some (point_text t p)) (Some p)

-- ---- mount points

-- the tree that is left, and the mounts or the first refusal
pub record Settling : Type 0 where
  pub tree : Tree
  pub answer : Result (List Row) Refusal

-- the way of a location through the mounts so far, from the guest's root
abbrev pub way_along : User → List Row → Located → Tree → List (List ℕ) → Left Point
way_along user table one t [] = record { tree = t; answer = Err AtRoot }
way_along user table one t (name ∷ names) = way user table (record { is_dir = one.source.is_dir; keep = one.keep }) t 0 (root_source table) name names

-- behind the way of one, with its mount or its refusal
abbrev pub after_way : List Row → Located → Tree → Result Point BindWhy → (Tree → List Row → Settling) → Settling
after_way table one t (Ok p) go = go t (table ++ point_row t one p ∷ [])
after_way table one t (Err why) go = record { tree = t; answer = Err (record { index = one.index; why = why }) }

-- the mounts so far, and those of further bindings, in their order
abbrev pub points : User → List Located → Tree → List Row → Settling
points user [] t table = record { tree = t; answer = Ok table }
points user (one ∷ more) t table =
    let left = way_along user table one t (reverse one.location) in
    after_way table one left.tree left.answer (points user more)

-- ---- the whole

abbrev pub located_all : Tree → User → List ℕ → List Bind → Result (Row × List Located) Refusal
located_all t user root binds =
    and_then (told 0 (root_source_by t user root)) (λ source. and_then (sources t user binds) (λ more. and_then (locations t user source.inode more) (λ all. Ok (root_row source, all))))

abbrev pub points_of : Tree → User → Result (Row × List Located) Refusal → Settling
points_of t user (Ok all) = points user (in_order (counting all.1)) t (all.0 ∷ [])
points_of t user (Err e) = record { tree = t; answer = Err e }

-- what settling bindings comes to
abbrev pub settling : Tree → User → List ℕ → List Bind → Settling
settling t user root binds = points_of t user (located_all t user root binds)
