-- The names that settling makes are bytes, since those of locations are.
use Rattle.std.proofs.Common.{◌≡◌, ℕ, Bool, true, false, List, [], ◌∷◌, ◌++◌, reverse, Option, Some, None, Result, Ok, Err, refl, subst}
use Rattle.std.specs.Bool.{if◌then◌else◌}
use Rattle.std.specs.List.{AllByRecursion}
use Rattle.pr_top.specs.pr_base.Texts.{Text}
use Rattle.pr_top.specs.pr_base.declared.bind.Bind.{Bind}
use Rattle.pr_top.specs.kr_inode.declared.user.User.{User}
use Rattle.pr_top.specs.kr_tree.Lawful.{AreBytes, HasBytes, IsOfBytes}
use Rattle.pr_top.specs.kr_tree.Tree.{Tree, body_is, entry, takes_names}
use Rattle.pr_top.specs.kr_tree.declared.place.Host.{Host}
use Rattle.pr_top.specs.kr_tree.declared.place.Host.TheVariants.{Node, Proc}
use Rattle.pr_top.specs.kr_tree.declared.place.Place.{Place}
use Rattle.pr_top.proofs.kr_tree.OfBytesLemmas.{of_bytes-added}
use Rattle.pr_top.specs.kr_view.Laws.{is_link}
use Rattle.pr_top.specs.kr_view.View.{Point, Row, down, root_source}
use Rattle.pr_top.specs.kr_mounts.Locations.{location_by}
use Rattle.pr_top.specs.kr_mounts.MountTable.{Located, Refusal, Sourced, after_way, and_then, as_source, counting, in_order, located, located_all, locations, point_row, points, points_of, root_row, sourced, sources, told, way_along}
use Rattle.pr_top.specs.kr_mounts.Points.{Left, Wanted, at_entry, at_host, at_last_name, fits, made, making, may_make, new_body, new_mode, point_unless, refused, through, way}
use Rattle.pr_top.specs.kr_mounts.Sources.{Source, root_source_by, source_by}
use Rattle.pr_top.specs.kr_mounts.declared.fault.BindWhy.{BindWhy}
use Rattle.pr_top.specs.kr_mounts.declared.fault.BindWhy.TheVariants.{LinkOnTheWay, NoPoint}
use Rattle.pr_top.proofs.kr_mounts.BoundLemmas.{ok_is, then_ok}
use Rattle.pr_top.proofs.kr_mounts.OrderLemmas.{counting_each, ordered_each}
use Rattle.law_starts.specs.law_kept.Bytes.{AreAllBytes}
use Rattle.law_machines.specs.Asking.{IsOfByteParts}
use Rattle.law_machines.specs.GivenOpenings.{SettledTreesHaveBytes}
use Rattle.law_machines.proofs.PieceLemmas.{turned}
use Rattle.law_machines.proofs.LocationLemmas.{location-bytes}

-- ---- names that are made

new-bytes : (is_dir : Bool) → IsOfBytes (new_body is_dir)
new-bytes true = tt
new-bytes false = tt

abbrev Stays : Left Point → Type 0
Stays left = HasBytes left.tree

module _ (user : User) where
  making-stays : (u : Tree) (dir : ℕ) (name : List ℕ) (is_dir : Bool) (go : Tree → Left Point) → HasBytes u → AreBytes name → ((v : Tree) → HasBytes v → Stays (go v)) → Stays (making u user dir name is_dir go)
  making-stays u dir name is_dir go has are on = by (may_make u user dir name)
    where
      by : (b : Bool) → Stays (if b then go (made u user dir name is_dir) else refused u NoPoint)
      by true = on (made u user dir name is_dir) (of_bytes-added u has dir name (new_mode is_dir) user.uid user.gid (new_body is_dir) are (new-bytes is_dir))
      by false = has

  ending-stays : (wanted : Wanted) (u : Tree) (p : Point) (o : Option ℕ) → AreBytes p.name → HasBytes u → Stays (at_last_name u user wanted p o)
  ending-stays wanted u p (Some i) are has = unless (fits u wanted i)
    where
      unless : (o : Option BindWhy) → Stays (point_unless u p o)
      unless None = has
      unless (Some why) = has
  ending-stays wanted u p None are has = making-stays u p.dir p.name wanted.is_dir (λ v. record { tree = v; answer = Ok p }) has are (λ v own. own)

  module _ (go : Tree → ℕ → ℕ → Left Point) (on : (v : Tree) (m d : ℕ) → HasBytes v → Stays (go v m d)) (u : Tree) (has : HasBytes u) (mount dir : ℕ) (name : List ℕ) (are : AreBytes name) where
    entry-stays : (o : Option ℕ) → Stays (at_entry u user mount dir name o go)
    entry-stays (Some i) = by (body_is is_link u i)
      where
        by : (b : Bool) → Stays (if b then refused u LinkOnTheWay else go u mount i)
        by true = has
        by false = on u mount i has
    entry-stays None = making-stays u dir name true (λ v. go v mount u.next) has are (λ v own. on v mount u.next own)

    host-stays : (m : ℕ) (host : Host) → Stays (at_host u m host go)
    host-stays m (Node i) = on u m i has
    host-stays m (Proc i at) = has

    through-stays : (o : Option (Place ℕ)) → Stays (through u user mount dir name o go)
    through-stays (Some p) = host-stays p.mount p.host
    through-stays None = entry-stays (entry u dir name)

  way-stays : (table : List Row) (wanted : Wanted) (names : Text) (name : List ℕ) (u : Tree) (mount dir : ℕ) → AreAllBytes names → AreBytes name → HasBytes u → Stays (way user table wanted u mount dir name names)
  way-stays table wanted [] name u mount dir all are has = by (body_is takes_names u dir)
    where
      by : (b : Bool) → Stays (if b then at_last_name u user wanted (record { mount = mount; dir = dir; name = name }) (entry u dir name) else refused u NoPoint)
      by true = ending-stays wanted u (record { mount = mount; dir = dir; name = name }) (entry u dir name) are has
      by false = has
  way-stays table wanted (next ∷ names) name u mount dir all are has = by (body_is takes_names u dir) (λ v m d own. way-stays table wanted names next v m d all.1 all.0 own)
    where
      by : (b : Bool) → ((v : Tree) (m d : ℕ) → HasBytes v → Stays (way user table wanted v m d next names))
          → Stays (if b then through u user mount dir name (down table mount dir name) (λ v m d. way user table wanted v m d next names) else refused u NoPoint)
      by true on = through-stays (λ v m d. way user table wanted v m d next names) on u has mount dir name are (down table mount dir name)
      by false on = has

  along-stays : (table : List Row) (one : Located) (names : Text) (u : Tree) → AreAllBytes names → HasBytes u → Stays (way_along user table one u names)
  along-stays table one [] u all has = has
  along-stays table one (name ∷ names) u all has = way-stays table (record { is_dir = one.source.is_dir; keep = one.keep }) names name u 0 (root_source table) all.1 all.0 has

-- ---- bindings

abbrev IsByteLocated : Located → Type 0
IsByteLocated one = AreAllBytes one.location

points-stay : (user : User) (all : List Located) (table : List Row) (u : Tree) → AllByRecursion IsByteLocated all → HasBytes u → HasBytes (points user all u table).tree
points-stay user [] table u each has = has
points-stay user (one ∷ more) table u each has =
    let left = way_along user table one u (reverse one.location) in
    by left.tree left.answer (along-stays user table one (reverse one.location) u (turned AreBytes one.location each.0) has) (λ v rows own. points-stay user more rows v each.1 own)
  where
    by : (v : Tree) (answer : Result Point BindWhy) → HasBytes v → ((v : Tree) (rows : List Row) → HasBytes v → HasBytes (points user more v rows).tree) → HasBytes (after_way table one v answer (points user more)).tree
    by v (Ok p) own on = on v (table ++ point_row v one p ∷ []) own
    by v (Err why) own on = own

abbrev IsByteSourced : Sourced → Type 0
IsByteSourced s = IsOfByteParts s.bind

sourced-each : (t : Tree) (user : User) (binds : List Bind) (ss : List Sourced) → AllByRecursion IsOfByteParts binds → sources t user binds ≡ Ok ss → AllByRecursion IsByteSourced ss
sourced-each t user [] ss are is = subst (λ ss. AllByRecursion IsByteSourced ss) (ok_is [] ss is) tt
sourced-each t user (bind ∷ binds) ss are is =
    let go : Source → Result Sourced Refusal = λ source. Ok (record { bind = bind; source = source }) in
    let one = then_ok (sourced t user bind) (λ one. and_then (sources t user binds) (λ more. Ok (one ∷ more))) ss is in
    let more = then_ok (sources t user binds) (λ more. Ok (one.0 ∷ more)) ss one.2 in
    let s = then_ok (told bind.index (as_source (source_by t user bind.host))) go one.0 one.1 in
    let made_of : Sourced = record { bind = bind; source = s.0 } in
    subst (λ ss. AllByRecursion IsByteSourced ss) (ok_is (one.0 ∷ more.0) ss more.2) (subst IsByteSourced (ok_is made_of one.0 s.2) are.0, sourced-each t user binds more.0 are.1 more.1)

told-ok : (index : ℕ) (r : Result Text BindWhy) (location : Text) → told index r ≡ Ok location → r ≡ Ok location
told-ok index (Ok x) location e = let same : x ≡ location = cc in subst (λ (l : Text). ◌≡◌ {A = Result Text BindWhy} (Ok x) (Ok l)) same refl
told-ok index (Err why) location e = absurd cc

located-each : (t : Tree) (user : User) (root : ℕ) → HasBytes t → (ss : List Sourced) (all : List Located) → AllByRecursion IsByteSourced ss → locations t user root ss ≡ Ok all → AllByRecursion IsByteLocated all
located-each t user root has [] all are is = subst (λ all. AllByRecursion IsByteLocated all) (ok_is [] all is) tt
located-each t user root has (s ∷ ss) all are is =
    let go : Text → Result Located Refusal = λ location. Ok (record { index = s.bind.index; keep = s.bind.keep; source = s.source; location = location }) in
    let one = then_ok (located t user root s) (λ one. and_then (locations t user root ss) (λ rest. Ok (one ∷ rest))) all is in
    let more = then_ok (locations t user root ss) (λ rest. Ok (one.0 ∷ rest)) all one.2 in
    let l = then_ok (told s.bind.index (location_by t user root s.bind.keep s.bind.guest)) go one.0 one.1 in
    let made_of : Located = record { index = s.bind.index; keep = s.bind.keep; source = s.source; location = l.0 } in
    let own : AreAllBytes l.0 = location-bytes t user root s.bind.keep s.bind.guest l.0 has are.0.guest (told-ok s.bind.index (location_by t user root s.bind.keep s.bind.guest) l.0 l.1) in
    subst (λ all. AllByRecursion IsByteLocated all) (ok_is (one.0 ∷ more.0) all more.2) (subst IsByteLocated (ok_is made_of one.0 l.2) own, located-each t user root has ss more.0 are.1 more.1)

all-located : (t : Tree) (user : User) (root : List ℕ) (binds : List Bind) (all : Row × List Located) → HasBytes t → AllByRecursion IsOfByteParts binds → located_all t user root binds ≡ Ok all → AllByRecursion IsByteLocated all.1
all-located t user root binds all has are is =
    let source = then_ok (told 0 (root_source_by t user root)) (λ source. and_then (sources t user binds) (λ more. and_then (locations t user source.inode more) (λ all. Ok (root_row source, all)))) all is in
    let more = then_ok (sources t user binds) (λ more. and_then (locations t user source.0.inode more) (λ all. Ok (root_row source.0, all))) all source.2 in
    let rest = then_ok (locations t user source.0.inode more.0) (λ all. Ok (root_row source.0, all)) all more.2 in
    let pair : Row × List Located = (root_row source.0, rest.0) in
    let Q : Row × List Located → Type 0 = λ all. AllByRecursion IsByteLocated all.1 in
    subst Q (ok_is pair all rest.2) (located-each t user source.0.inode has more.0 rest.0 (sourced-each t user binds more.0 are more.1) rest.1)

pub settled-trees-have-bytes : SettledTreesHaveBytes
settled-trees-have-bytes t user root binds has are = by (located_all t user root binds) refl
  where
    by : (r : Result (Row × List Located) Refusal) → located_all t user root binds ≡ r → HasBytes (points_of t user r).tree
    by (Ok all) is =
        let each = ordered_each IsByteLocated (counting all.1) (counting_each IsByteLocated all.1 (all-located t user root binds all has are is)) in
        points-stay user (in_order (counting all.1)) (all.0 ∷ []) t each has
    by (Err e) is = has
