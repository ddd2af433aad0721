-- What is asked of a table, by its mounts as they are kept.
use Rattle.std.proofs.Common.{◌≡◌, ℕ, cond, Option, Some, None, List, [], refl, ap, sym, subst, ◌∙◌, ◌<◌, nat_eq, length, get_or}
use Rattle.std.specs.Prelude.{position, slice_get}
use Rattle.std.specs.Bool.{if◌then◌else◌}
use Rattle.std.specs.Option.{option_map, option_map_or, option_and_then}
use Rattle.std.proofs.lemmas.Option.{slice_get-map, slice_get-get_or, slice_get_within}
use Rattle.pt_bind.specs.Binding.{IsWritten}
use Rattle.pt_bind.proofs.ByteLemmas.{spelled}
use Rattle.kr_walk.specs.kr_tree.declared.place.Place.{Place}
use Rattle.kr_walk.specs.kr_view.View.{Point, Row, row, node_in, stands_at, is_point, down, up, source, location, source_place, source_entry, point_place}
use Rattle.pt_bind.specs.pr_base.Paths.{text_of}
use Rattle.kr_mounts.specs.declared.mount.Mount.{Mount}
use Rattle.kr_mounts.specs.declared.mount.MountPoint.{MountPoint}
use Rattle.kr_mounts.specs.Stored.{AreLocated, table_of, row_of_mount, point_told}

pub row_at : (ms : List Mount) (k : ℕ) → row (table_of ms) k ≡ option_map row_of_mount (slice_get ms k)
row_at ms k = slice_get-map row_of_mount ms k

pub down_none : (ms : List Mount) (mount dir : ℕ) (name : List ℕ) → position (stands_at (is_point mount dir name)) (table_of ms) ≡ None → down (table_of ms) mount dir name ≡ None
down_none ms mount dir name none = ap (option_and_then (source_place (table_of ms))) none

pub down_some : (ms : List Mount) (mount dir : ℕ) (name : List ℕ) (k : ℕ) → position (stands_at (is_point mount dir name)) (table_of ms) ≡ Some k
    → down (table_of ms) mount dir name ≡ option_map (λ m. node_in k m.source) (slice_get ms k)
down_some ms mount dir name k is = ap (option_and_then (source_place (table_of ms))) is ∙ ap (option_map (λ (r : Row). node_in k r.source)) (row_at ms k) ∙ joined (slice_get ms k)
  where
    joined : (o : Option Mount) → option_map (λ (r : Row). node_in k r.source) (option_map row_of_mount o) ≡ option_map (λ (m : Mount). node_in k m.source) o
    joined None = refl
    joined (Some m) = refl

place_of_point : Option MountPoint → Option (Place ℕ)
place_of_point o = option_map (λ (p : MountPoint). node_in p.mount p.dir) o

pub up_none : (ms : List Mount) (k dir : ℕ) → slice_get ms k ≡ None → up (table_of ms) k dir ≡ None
up_none ms k dir none = ap (option_and_then (λ (r : Row). if nat_eq r.source dir then point_place r else None)) (row_at ms k ∙ ap (option_map row_of_mount) none)

pub up_some : (ms : List Mount) (k dir : ℕ) (m : Mount) → slice_get ms k ≡ Some m → up (table_of ms) k dir ≡ (if nat_eq m.source dir then option_map (λ (p : MountPoint). node_in p.mount p.dir) m.point else None)
up_some ms k dir m is =
    ap (option_and_then (λ (r : Row). if nat_eq r.source dir then point_place r else None)) (row_at ms k ∙ ap (option_map row_of_mount) is)
    ∙ ap (λ o. cond (nat_eq m.source dir) o None) (joined m.point)
  where
    joined : (o : Option MountPoint) → option_map (λ (p : Point). node_in p.mount p.dir) (option_map point_told o) ≡ option_map (λ (p : MountPoint). node_in p.mount p.dir) o
    joined None = refl
    joined (Some p) = refl

pub source_none : (ms : List Mount) (k : ℕ) → slice_get ms k ≡ None → source (table_of ms) k ≡ None
source_none ms k none = ap (option_and_then source_entry) (row_at ms k ∙ ap (option_map row_of_mount) none)

pub source_some : (ms : List Mount) (k : ℕ) (m : Mount) → slice_get ms k ≡ Some m → source (table_of ms) k ≡ (if m.is_dir then None else Some (m.source_dir, m.source_name))
source_some ms k m is = ap (option_and_then source_entry) (row_at ms k ∙ ap (option_map row_of_mount) is)

pub location_none : (ms : List Mount) (k : ℕ) → slice_get ms k ≡ None → location (table_of ms) k ≡ []
location_none ms k none = ap (λ o. option_map_or (λ (r : Row). text_of r.text.location) o []) (row_at ms k ∙ ap (option_map row_of_mount) none)

pub location_some : (ms : List Mount) (k : ℕ) (m : Mount) → AreLocated ms → slice_get ms k ≡ Some m → m.text.location ≡ location (table_of ms) k
location_some ms k m are is =
    let within : k < length ms = slice_get_within ms k m is in
    let there : get_or ms k m ≡ m = same (get_or ms k m) m (sym (slice_get-get_or ms k m within) ∙ is) in
    let written : IsWritten m.text.location = let P : Mount → Type 0 = λ m. IsWritten m.text.location in subst P there (are k m within) in
    spelled m.text.location written ∙ sym (ap (λ o. option_map_or (λ (r : Row). text_of r.text.location) o []) (row_at ms k ∙ ap (option_map row_of_mount) is))
  where
    same : (a b : Mount) → Some a ≡ Some b → a ≡ b
    same a b h = ap (λ o. option_map_or (λ m. m) o a) h
