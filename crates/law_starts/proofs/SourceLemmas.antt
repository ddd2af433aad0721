-- Each source is the entry at which it was settled.
use Rattle.std.proofs.Common.{◌≡◌, ◌++◌, inl, inr, ℕ, zero, suc, Bool, true, false, List, [], ◌∷◌, reverse, Option, Some, None, Result, Ok, Err, refl, sym, ap, subst, ◌∙◌}
use Rattle.std.specs.Bool.{if◌then◌else◌}
use Rattle.std.specs.List.{AllByRecursion}
use Rattle.std.specs.Option.{option_map, option_map_or}
use Rattle.pr_start.specs.pr_base.Texts.{Text, below}
use Rattle.pr_start.specs.pr_base.declared.bind.Bind.{Bind}
use Rattle.pr_start.specs.pr_base.declared.errno.Errno.{Errno}
use Rattle.pr_start.specs.pr_base.declared.path.WalkMode.TheVariants.{Look}
use Rattle.pr_start.specs.kr_inode.declared.user.User.{User}
use Rattle.pr_start.specs.kr_mounts.Growth.{HasAllBefore}
use Rattle.pr_start.specs.kr_mounts.Locations.{location_by}
use Rattle.pr_start.specs.kr_mounts.MountTable.{Located, Refusal, Settling, Sourced, after_way, and_then, as_source, counting, dir_of, in_order, located, located_all, locations, point_row, points, root_row, settling, sourced, sources, told, way_along}
use Rattle.pr_start.specs.kr_mounts.Sources.{Source, around_table, directory_source, entry_source, root_source_by, root_source_of, source_at, source_by, source_of}
use Rattle.pr_start.specs.kr_mounts.Texts.{last_name}
use Rattle.pr_start.specs.kr_mounts.declared.fault.BindWhy.{BindWhy}
use Rattle.pr_start.specs.kr_mounts.declared.fault.BindWhy.TheVariants.{RootNotDir}
use Rattle.pr_start.proofs.kr_mounts.BeforeLemmas.{grown_trees_have_all_before}
use Rattle.pr_start.proofs.kr_mounts.BoundLemmas.{ok_is, points_ok, then_ok}
use Rattle.pr_start.proofs.kr_mounts.GrowthLemmas.{settling_makes_names_alone}
use Rattle.pr_start.proofs.kr_mounts.OrderLemmas.{counting_each, ordered_each}
use Rattle.pr_start.proofs.kr_mounts.SourceLemmas.{source_was_walked, sources_are}
use Rattle.pr_start.proofs.kr_mounts.StandLemmas.{get_any}
use Rattle.pr_start.proofs.kr_mounts.StayLemmas.{named_stays}
use Rattle.pr_start.specs.kr_tree.Lawful.{IsSound}
use Rattle.pr_start.specs.kr_tree.Names.{host_name, named}
use Rattle.pr_start.specs.kr_tree.Tree.{Tree, above, body_is, entry, is_directory, is_listed}
use Rattle.pr_start.specs.kr_tree.declared.place.Host.{Host}
use Rattle.pr_start.specs.kr_tree.declared.place.Host.TheVariants.{Node, Proc}
use Rattle.pr_start.specs.kr_tree.declared.place.Place.{Place}
use Rattle.pr_start.proofs.kr_tree.EntryLemmas.{entry_stands}
use Rattle.pr_start.proofs.kr_tree.NameLemmas.{host_names-lead, map_some, some_is, then_some}
use Rattle.pr_start.specs.kr_view.View.{Point, Row, plain, root_place, row}
use Rattle.pr_start.specs.kr_view.Walk.{PlaceTarget, place_walk}
use Rattle.law_starts.specs.Openings.{SettledSourcesAreNamed}

-- ---- one source

-- the directory of a source is named by what is above the source's text
abbrev IsNamed : Tree → Source → Type 0
IsNamed t s = (name : List ℕ) (up : Text) → s.text ≡ name ∷ up → named t up ≡ Some s.dir

module _ (t : Tree) (user : User) (sound : IsSound t) where
  -- a directory stands in the one above it
  abbrev IsBelow : Source → Type 0
  IsBelow s = s.is_dir ≡ true → s.dir ≡ option_map_or (λ up. up) (above t s.inode) 0

  differ : true ≡ false → ⊥
  differ e = cc

  entry-below : (dir : Host) (name : List ℕ) (i : ℕ) (s : Source) → entry_source t dir name i ≡ Some s → IsBelow s
  entry-below (Node dir) name i s is =
      let n = map_some (λ text. record { inode = i; is_dir = false; dir = dir; text = text }) (below name (host_name t dir)) s is in
      λ e. absurd (differ (sym e ∙ sym (ap (λ (s : Source). s.is_dir) n.2)))
  entry-below (Proc p at) name i s is = absurd cc

  directory-below : (i : ℕ) (s : Source) → directory_source t i ≡ Some s → IsBelow s
  directory-below i s is =
      let n = map_some (λ text. record { inode = i; is_dir = true; dir = option_map_or (λ up. up) (above t i) 0; text = text }) (host_name t i) s is in
      subst IsBelow n.2 (λ e. refl)

  at-below : (dir : Host) (name : List ℕ) (o : Option Host) (s : Source) → source_at t dir name o ≡ Some s → IsBelow s
  at-below dir name None s is = absurd cc
  at-below dir name (Some (Proc i at)) s is = absurd cc
  at-below dir name (Some (Node i)) s is = by (body_is is_directory t i) is
    where
      by : (b : Bool) → (if b then directory_source t i else entry_source t dir name i) ≡ Some s → IsBelow s
      by true is = directory-below i s is
      by false is = entry-below dir name i s is

  source-below : (r : Result PlaceTarget Errno) (s : Source) → source_of t r ≡ Some s → IsBelow s
  source-below (Ok target) s is = at-below target.dir.host target.name (option_map (λ (p : Place ℕ). p.host) target.found) s is
  source-below (Err e) s is = absurd cc

  source-named : (path : List ℕ) (s : Source) → source_by t user path ≡ Some s → IsNamed t s
  source-named path s is name up text = by s.is_dir refl
    where
      by : (b : Bool) → s.is_dir ≡ b → named t up ≡ Some s.dir
      by true e =
          let own = sources_are t user sound path s is in
          let leads = host_names-lead t sound s.inode s.text (own.directory e) in
          let step = then_some (λ dir. entry t dir name) (named t up) s.inode (sym (ap (named t) text) ∙ leads.0) in
          let stands = entry_stands t sound step.0 name s.inode step.2 leads.1 in
          step.1 ∙ ap Some (sym (source-below (place_walk (around_table plain t user) Look (root_place plain) path).answer s (source_was_walked t user sound path s is) e ∙ ap (λ o. option_map_or (λ up. up) o 0) stands))
      by false e =
          let own = (sources_are t user sound path s is).entered e in
          let heads : name ∷ up ≡ own.0 ∷ own.1 = sym text ∙ own.2 in
          let same : up ≡ own.1 = cc in
          ap (named t) same ∙ (host_names-lead t sound s.dir own.1 own.3).0

-- ---- the sources of bindings

told-source : (index : ℕ) (o : Option Source) (s : Source) → told index (as_source o) ≡ Ok s → o ≡ Some s
told-source index None s h = absurd cc
told-source index (Some x) s h = ap Some (ok_is x s h)

told-root : (t : Tree) (o : Option Source) (s : Source) → told 0 (root_source_of t o) ≡ Ok s → o ≡ Some s
told-root t None s h = absurd cc
told-root t (Some x) s h = by (body_is is_listed t x.inode) h
  where
    by : (b : Bool) → told 0 (if b then Ok x else Err RootNotDir) ≡ Ok s → Some x ≡ Some s
    by true h = ap Some (ok_is x s h)
    by false h = absurd cc

-- what holds of each source that is found holds of those of bindings
module _ (t : Tree) (user : User) (P : Source → Type 0) (found : (path : List ℕ) (s : Source) → source_by t user path ≡ Some s → P s) where
  each-sourced : (binds : List Bind) (ss : List Sourced) → sources t user binds ≡ Ok ss → AllByRecursion (λ (s : Sourced). P s.source) ss
  each-sourced [] ss is = subst (λ ss. AllByRecursion (λ (s : Sourced). P s.source) ss) (ok_is [] ss is) tt
  each-sourced (bind ∷ binds) ss is =
      let go : Source → Result Sourced Refusal = λ source. Ok (record { bind = bind; source = source }) in
      let one = then_ok (sourced t user bind) (λ one. and_then (sources t user binds) (λ more. Ok (one ∷ more))) ss is in
      let more = then_ok (sources t user binds) (λ more. Ok (one.0 ∷ more)) ss one.2 in
      let s = then_ok (told bind.index (as_source (source_by t user bind.host))) go one.0 one.1 in
      let made_of : Sourced = record { bind = bind; source = s.0 } in
      let own : P s.0 = found bind.host s.0 (told-source bind.index (source_by t user bind.host) s.0 s.1) in
      let Q : Sourced → Type 0 = λ s. P s.source in
      subst (λ ss. AllByRecursion Q ss) (ok_is (one.0 ∷ more.0) ss more.2) (subst Q (ok_is made_of one.0 s.2) own, each-sourced binds more.0 more.1)

  each-located : (root : ℕ) (ss : List Sourced) → AllByRecursion (λ (s : Sourced). P s.source) ss → (all : List Located) → locations t user root ss ≡ Ok all → AllByRecursion (λ (one : Located). P one.source) all
  each-located root [] h all is = subst (λ all. AllByRecursion (λ (one : Located). P one.source) all) (ok_is [] all is) tt
  each-located root (s ∷ ss) h all is =
      let go : Text → Result Located Refusal = λ location. Ok (record { index = s.bind.index; keep = s.bind.keep; source = s.source; location = location }) in
      let one = then_ok (located t user root s) (λ one. and_then (locations t user root ss) (λ rest. Ok (one ∷ rest))) all is in
      let more = then_ok (locations t user root ss) (λ rest. Ok (one.0 ∷ rest)) all one.2 in
      let l = then_ok (told s.bind.index (location_by t user root s.bind.keep s.bind.guest)) go one.0 one.1 in
      let made_of : Located = record { index = s.bind.index; keep = s.bind.keep; source = s.source; location = l.0 } in
      let Q : Located → Type 0 = λ one. P one.source in
      subst (λ all. AllByRecursion Q all) (ok_is (one.0 ∷ more.0) all more.2) (subst Q (ok_is made_of one.0 l.2) h.0, each-located root ss h.1 more.0 more.1)

  located-each : (root : List ℕ) (binds : List Bind) (all : Row × List Located) → located_all t user root binds ≡ Ok all
      → (source : Source) × (all.0 ≡ root_row source) × P source × AllByRecursion (λ (one : Located). P one.source) all.1
  located-each root binds all is =
      let source = then_ok (told 0 (root_source_by t user root)) (λ source. and_then (sources t user binds) (λ more. and_then (locations t user source.inode more) (λ all. Ok (root_row source, all)))) all is in
      let more = then_ok (sources t user binds) (λ more. and_then (locations t user source.0.inode more) (λ all. Ok (root_row source.0, all))) all source.2 in
      let rest = then_ok (locations t user source.0.inode more.0) (λ all. Ok (root_row source.0, all)) all more.2 in
      let pair : Row × List Located = (root_row source.0, rest.0) in
      let same : pair ≡ all = ok_is pair all rest.2 in
      let Q : Row × List Located → Type 0 = λ all. AllByRecursion (λ (one : Located). P one.source) all.1 in
      let each = each-located source.0.inode more.0 (each-sourced binds more.0 more.1) rest.0 rest.1 in
      (source.0, ap (λ (p : Row × List Located). p.0) (sym same), found root source.0 (told-root t (source_by t user root) source.0 source.1), subst Q same each)

-- ---- rows

-- what holds of each row holds of the rows of a whole table
module _ (user : User) (full : List Row) (Q : Row → Type 0) where
  abbrev Each : List Row → Type 0
  Each table = (k : ℕ) (r : Row) → row table k ≡ Some r → Q r

  after-each : (table : List Row) (one : Located) (u : Tree) (answer : Result Point BindWhy) (go : Tree → List Row → Settling) → Each table → ((v : Tree) (p : Point) → Q (point_row v one p))
      → ((v : Tree) (more : List Row) → Each more → (go v more).answer ≡ Ok full → Each full) → (after_way table one u answer go).answer ≡ Ok full → Each full
  after-each table one u (Ok p) go each own next h =
      next u (table ++ point_row u one p ∷ []) (λ k r e. elim (get_any table (point_row u one p) k r e) [ inl f ↦ each k r f | inr f ↦ subst Q (sym f.1) (own u p) ]) h
  after-each table one u (Err why) go each own next h = absurd cc

  points-each : (all : List Located) (t : Tree) (table : List Row) → AllByRecursion (λ (one : Located). (v : Tree) (p : Point) → Q (point_row v one p)) all → Each table → (points user all t table).answer ≡ Ok full → Each full
  points-each [] t table own each h = subst Each (ok_is table full h) each
  points-each (one ∷ all) t table own each h =
      let left = way_along user table one t (reverse one.location) in
      after-each table one left.tree left.answer (points user all) each own.0 (λ v more e k. points-each all v more own.1 e k) h

-- a row of a source has its entry
abbrev HasEntry : Tree → Row → Type 0
HasEntry v r = (name : List ℕ) (up : Text) → r.text.source ≡ name ∷ up → (r.source_name ≡ name) × (named v up ≡ Some r.source_dir)

row-named : (t v : Tree) → HasAllBefore t v → (s : Source) → IsNamed t s → (r : Row) → r.text.source ≡ s.text → r.source_dir ≡ dir_of s s.text → r.source_name ≡ last_name s.text → HasEntry v r
row-named t v before s own r text dir called name up is =
    let whole : s.text ≡ name ∷ up = sym text ∙ is in
    (called ∙ ap last_name whole, named_stays t v before up s.dir (own name up whole) ∙ ap Some (sym (dir ∙ ap (dir_of s) whole)))

each-named : (t v : Tree) → HasAllBefore t v → (all : List Located) → AllByRecursion (λ (one : Located). IsNamed t one.source) all → AllByRecursion (λ (one : Located). (u : Tree) (p : Point) → HasEntry v (point_row u one p)) all
each-named t v before [] h = tt
each-named t v before (one ∷ all) h = ((λ u p. row-named t v before one.source h.0 (point_row u one p) refl refl refl), each-named t v before all h.1)

pub settled-sources-are-named : SettledSourcesAreNamed
settled-sources-are-named t user root binds table sound counted is =
    let v = (settling t user root binds).tree in
    let before = grown_trees_have_all_before user t v sound counted (settling_makes_names_alone t user root binds) in
    let all = points_ok t user table (located_all t user root binds) is in
    let P : Source → Type 0 = IsNamed t in
    let from = located-each t user P (source-named t user sound) root binds all.0 all.1 in
    let Q : Located → Type 0 = λ one. IsNamed t one.source in
    let each : AllByRecursion Q (in_order (counting all.0.1)) = ordered_each Q (counting all.0.1) (counting_each Q all.0.1 from.3) in
    let first : HasEntry v all.0.0 = subst (HasEntry v) (sym from.1) (row-named t v before from.0 from.2 (root_row from.0) refl refl refl) in
    let rows = points-each user table (HasEntry v) (in_order (counting all.0.1)) t (all.0.0 ∷ []) (each-named t v before (in_order (counting all.0.1)) each) (only v all.0.0 first) all.2 in
    λ k r name up at text. rows k r at name up text
  where
    only : (v : Tree) (first : Row) → HasEntry v first → (k : ℕ) (r : Row) → row (first ∷ []) k ≡ Some r → HasEntry v r
    only v first own zero r h = subst (HasEntry v) (some_is first r h) own
    only v first own (suc k) r h = absurd cc
