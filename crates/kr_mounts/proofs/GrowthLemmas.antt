-- Settling makes names, and changes nothing else.
use Rattle.std.proofs.Common.{◌≡◌, ℕ, Bool, true, false, Option, Some, None, Result, Ok, Err, List, [], ◌∷◌, ◌++◌, refl, reverse}
use Rattle.std.specs.Bool.{if◌then◌else◌}
use Rattle.kr_walk.specs.kr_inode.declared.user.User.{User}
use Rattle.kr_walk.specs.kr_tree.declared.place.Host.{Host}
use Rattle.kr_walk.specs.kr_tree.declared.place.Host.TheVariants.{Node, Proc}
use Rattle.kr_walk.specs.kr_tree.declared.place.Place.{Place}
use Rattle.kr_walk.specs.kr_tree.Tree.{Tree, body_is, entry, takes_names}
use Rattle.kr_walk.specs.kr_view.Laws.{is_link}
use Rattle.kr_walk.specs.kr_view.View.{Point, Row, down, root_source}
use Rattle.kr_mounts.specs.declared.fault.BindWhy.{BindWhy}
use Rattle.kr_mounts.specs.declared.fault.BindWhy.TheVariants.{LinkOnTheWay, NoPoint}
use Rattle.kr_mounts.specs.Growth.{IsGrown, Same, Made, SettlingMakesNamesAlone}
use Rattle.kr_mounts.specs.Points.{Left, Wanted, refused, may_make, made, making, fits, point_unless, at_last_name, at_entry, at_host, through, way}
use Rattle.kr_mounts.specs.MountTable.{Refusal, Located, points, after_way, points_of, located_all, counting, in_order, way_along, point_row}

module _ (user : User) (t : Tree) where
  abbrev Grows : {A : Type 0} → Left A → Type 0
  Grows left = IsGrown user t left.tree

  -- a name is made where it is free
  making_grows : {A : Type 0} (u : Tree) (dir : ℕ) (name : List ℕ) (is_dir : Bool) (go : Tree → Left A) → IsGrown user t u → body_is takes_names u dir ≡ true → entry u dir name ≡ None
      → ((v : Tree) → IsGrown user t v → Grows (go v)) → Grows (making u user dir name is_dir go)
  making_grows {A} u dir name is_dir go grown takes free on = at (may_make u user dir name) refl
    where
      at : (b : Bool) → may_make u user dir name ≡ b → Grows (if b then go (made u user dir name is_dir) else refused u NoPoint)
      at true may = on (made u user dir name is_dir) (Made dir name is_dir grown takes free may)
      at false may = grown

  ending_grows : (wanted : Wanted) (u : Tree) (p : Point) (o : Option ℕ) → entry u p.dir p.name ≡ o → body_is takes_names u p.dir ≡ true → IsGrown user t u → Grows (at_last_name u user wanted p o)
  ending_grows wanted u p (Some i) is takes grown = unless (fits u wanted i)
    where
      unless : (o : Option BindWhy) → Grows (point_unless u p o)
      unless None = grown
      unless (Some why) = grown
  ending_grows wanted u p None is takes grown = making_grows u p.dir p.name wanted.is_dir (λ v. record { tree = v; answer = Ok p }) grown takes is (λ v g. g)

  module _ (table : List Row) (go : Tree → ℕ → ℕ → Left Point) (on : (v : Tree) (m d : ℕ) → IsGrown user t v → Grows (go v m d)) (u : Tree) (grown : IsGrown user t u) (mount dir : ℕ) (name : List ℕ) (takes : body_is takes_names u dir ≡ true) where
    entry_grows : (o : Option ℕ) → entry u dir name ≡ o → Grows (at_entry u user mount dir name o go)
    entry_grows (Some i) is = at (body_is is_link u i)
      where
        at : (b : Bool) → Grows (if b then refused u LinkOnTheWay else go u mount i)
        at true = grown
        at false = on u mount i grown
    entry_grows None is = making_grows u dir name true (λ v. go v mount u.next) grown takes is (λ v g. on v mount u.next g)

    host_grows : (m : ℕ) (host : Host) → Grows (at_host u m host go)
    host_grows m (Node i) = on u m i grown
    host_grows m (Proc i at) = grown

    through_grows : (o : Option (Place ℕ)) → Grows (through u user mount dir name o go)
    through_grows (Some p) = host_grows p.mount p.host
    through_grows None = entry_grows (entry u dir name) refl

  way_grows : (table : List Row) (wanted : Wanted) (names : List (List ℕ)) (name : List ℕ) (u : Tree) (mount dir : ℕ) → IsGrown user t u → Grows (way user table wanted u mount dir name names)
  way_grows table wanted [] name u mount dir grown = at (body_is takes_names u dir) refl
    where
      at : (b : Bool) → body_is takes_names u dir ≡ b
          → Grows (if b then at_last_name u user wanted (record { mount = mount; dir = dir; name = name }) (entry u dir name) else refused u NoPoint)
      at true takes = ending_grows wanted u (record { mount = mount; dir = dir; name = name }) (entry u dir name) refl takes grown
      at false takes = grown
  way_grows table wanted (next ∷ names) name u mount dir grown = at (body_is takes_names u dir) refl (λ v m d g. way_grows table wanted names next v m d g)
    where
      at : (b : Bool) → body_is takes_names u dir ≡ b → ((v : Tree) (m d : ℕ) → IsGrown user t v → Grows (way user table wanted v m d next names))
          → Grows (if b then through u user mount dir name (down table mount dir name) (λ v m d. way user table wanted v m d next names) else refused u NoPoint)
      at true takes on = through_grows table (λ v m d. way user table wanted v m d next names) on u grown mount dir name takes (down table mount dir name)
      at false takes on = grown

  pub along_grows : (table : List Row) (one : Located) (names : List (List ℕ)) (u : Tree) → IsGrown user t u → Grows (way_along user table one u names)
  along_grows table one [] u grown = grown
  along_grows table one (name ∷ names) u grown = way_grows table (record { is_dir = one.source.is_dir; keep = one.keep }) names name u 0 (root_source table) grown

  points_grow : (all : List Located) (table : List Row) (u : Tree) → IsGrown user t u → IsGrown user t (points user all u table).tree
  points_grow [] table u grown = grown
  points_grow (one ∷ more) table u grown =
      let left = way_along user table one u (reverse one.location) in
      at left.tree left.answer (along_grows table one (reverse one.location) u grown) (λ v rows g. points_grow more rows v g)
    where
      at : (v : Tree) (answer : Result Point BindWhy) → IsGrown user t v → ((v : Tree) (rows : List Row) → IsGrown user t v → IsGrown user t (points user more v rows).tree)
          → IsGrown user t (after_way table one v answer (points user more)).tree
      at v (Ok p) grown on = on v (table ++ point_row v one p ∷ []) grown
      at v (Err why) grown on = grown

  all_grow : (r : Result (Row × List Located) Refusal) → IsGrown user t (points_of t user r).tree
  all_grow (Ok all) = points_grow (in_order (counting all.1)) (all.0 ∷ []) t Same
  all_grow (Err e) = Same

pub settling_makes_names_alone : SettlingMakesNamesAlone
settling_makes_names_alone t user root binds = all_grow user t (located_all t user root binds)
