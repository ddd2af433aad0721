-- Settled mounts stand in the tree that is left, and names lead to them.
use Rattle.std.proofs.Common.{◌≡◌, ◌≢◌, ◌≤◌, ◌&&◌, not, ℕ, zero, suc, Bool, true, false, List, [], ◌∷◌, ◌++◌, append-nil, append_assoc, inl, inr, length, reverse, Option, Some, None, Result, Ok, Err, refl, ap, sym, subst, ◌∙◌, arith}
use Rattle.std.specs.Bool.{if◌then◌else◌}
use Rattle.std.specs.List.{AllByRecursion}
use Rattle.std.specs.Option.{option_map, option_map_or, option_and_then}
use Rattle.std.proofs.lemmas.Grind.{reverse_onto}
use Rattle.std.proofs.lemmas.List.{reverse-reverse}
use Rattle.std.proofs.lemmas.Option.{slice_get_within}
use Rattle.pt_bind.specs.pr_base.Paths.{AreNames, IsName}
use Rattle.pt_bind.specs.pr_base.Texts.{Text}
use Rattle.pt_bind.specs.pr_base.declared.bind.Bind.{Bind}
use Rattle.kr_walk.specs.kr_inode.declared.user.User.{User}
use Rattle.kr_walk.specs.kr_inode.declared.user.Right.TheVariants.{Write, Search}
use Rattle.kr_walk.proofs.kr_inode.NameLemmas.{name_decides}
use Rattle.kr_walk.specs.kr_tree.declared.place.Host.{Host}
use Rattle.kr_walk.specs.kr_tree.declared.place.Host.TheVariants.{Node, Proc}
use Rattle.kr_walk.specs.kr_tree.declared.place.Place.{Place}
use Rattle.kr_walk.specs.kr_tree.Changes.{has_no_room}
use Rattle.kr_walk.specs.kr_tree.Lawful.{IsSound, IsCounted, HasItsInodes}
use Rattle.kr_walk.specs.kr_tree.Names.{host_name, is_name, named, reached}
use Rattle.kr_walk.specs.kr_tree.Rights.{may}
use Rattle.kr_walk.specs.kr_tree.Tree.{Tree, Inode, body, body_is, entry, inode, is_directory, is_listed, takes_names}
use Rattle.kr_walk.proofs.kr_tree.EntryLemmas.{entry_named_well, named_once, named_there}
use Rattle.kr_walk.proofs.kr_tree.NameLemmas.{host_names-lead, named-host_name, some_is}
use Rattle.pt_bind.specs.Binding.{host_of}
use Rattle.kr_walk.specs.kr_view.Laws.{is_link}
use Rattle.kr_walk.specs.kr_view.View.{Point, Row, down, is_there, node_in, root_source, row}
use Rattle.kr_mounts.specs.Growth.{HasAllBefore, Same, Made}
use Rattle.kr_mounts.specs.Locations.{location_by}
use Rattle.kr_mounts.specs.MountTable.{Located, Refusal, Settling, Sourced, after_way, and_then, as_source, counting, dir_of, in_order, located, located_all, locations, point_row, points, points_of, root_row, settling, sourced, sources, told, way_along}
use Rattle.kr_mounts.specs.Order.{AreApart, AreByLength}
use Rattle.kr_mounts.specs.Points.{Left, Wanted, at_entry, at_host, at_last_name, fits, made, may_make, point_unless, refused, through, way}
use Rattle.kr_mounts.specs.Sources.{Source, root_source_by, root_source_of, source_by}
use Rattle.kr_mounts.specs.Standing.{IsPointTold, IsSettledIn, IsSourceTold, SettledMountsStand, behind, led, next_by_name, texts_of}
use Rattle.kr_mounts.specs.Texts.{last_name}
use Rattle.kr_mounts.specs.declared.fault.BindWhy.{BindWhy}
use Rattle.kr_mounts.specs.declared.fault.BindWhy.TheVariants.{LinkOnTheWay, NoPoint, RootNotDir}
use Rattle.kr_mounts.proofs.BeforeLemmas.{grown_trees_have_all_before}
use Rattle.kr_mounts.proofs.BoundLemmas.{ApartBy, AreRows, IsApart, ok_is, own_at, points_ok, points_rows, settled_apart, then_ok}
use Rattle.kr_mounts.proofs.GrowthLemmas.{along_grows, settling_makes_names_alone}
use Rattle.kr_mounts.proofs.HostLemmas.{follows}
use Rattle.kr_mounts.proofs.OrderLemmas.{bindings_are_in_order, counting_each, ordered_each}
use Rattle.kr_mounts.proofs.ReachLemmas.{IsReachedSource, sources_reached}
use Rattle.kr_mounts.proofs.SourceLemmas.{IsSource, sources_are}
use Rattle.kr_mounts.proofs.StandLemmas.{HasSource, IsNamed, Stands, StandsAt, get_any, located_at, named_where, stands_more, stands_still}
use Rattle.kr_mounts.proofs.StayLemmas.{entry_stays, is_a_directory, kind_stays, led_stays, lists, named_stays, new_there, reached_stays, takes_stays}

-- ---- ways

-- names, the next first, below a text
abbrev onto : List (List ℕ) → Text → Text
onto [] text = text
onto (name ∷ names) text = onto names (name ∷ text)

onto_reverse : (names : List (List ℕ)) (text : Text) → onto names text ≡ reverse names ++ text
onto_reverse [] text = refl
onto_reverse (name ∷ names) text = onto_reverse names (name ∷ text) ∙ sym (ap (λ xs. xs ++ text) (reverse_onto names name []) ∙ append_assoc (reverse names) (name ∷ []) text)

-- where a way came to
record WayTo (table : List Row) (u : Tree) (p : Point) (whole : Text) : Type 0 where
  pub stands : Stands u table
  pub up : Text
  pub whole_is : whole ≡ p.name ∷ up
  pub is_led : led table u up ≡ Some (node_in p.mount p.dir)
  pub takes : body_is takes_names u p.dir ≡ true
  pub there : is_there (entry u p.dir p.name) ≡ true
  pub well : IsName p.name

first_of_four : (a b c d : Bool) → (a && (b && (c && d))) ≡ true → a ≡ true
first_of_four true b c d h = refl
first_of_four false b c d h = absurd cc

module _ (user : User) (table : List Row) (p : Point) where
  -- where a way that has an answer comes to
  abbrev Comes : Text → Left Point → Type 0
  Comes whole left = left.answer ≡ Ok p → WayTo table left.tree p whole

  made_before : (t : Tree) → Stands t table → (dir : ℕ) (name : List ℕ) (is_dir : Bool) → body_is takes_names t dir ≡ true → entry t dir name ≡ None → may_make t user dir name ≡ true → HasAllBefore t (made t user dir name is_dir)
  made_before t s dir name is_dir takes free may_be = grown_trees_have_all_before user t (made t user dir name is_dir) s.sound s.counted (Made dir name is_dir Same takes free may_be)

  name_well : (t : Tree) (dir : ℕ) (name : List ℕ) → may_make t user dir name ≡ true → IsName name
  name_well t dir name h = (name_decides name).0 (first_of_four (is_name name) (may t user dir Write) (may t user dir Search) (not (has_no_room 0 t)) h)

  at_last : (wanted : Wanted) (t : Tree) → Stands t table → (q : Point) (text : Text) → led table t text ≡ Some (node_in q.mount q.dir) → body_is takes_names t q.dir ≡ true → (o : Option ℕ) → entry t q.dir q.name ≡ o
      → Comes (q.name ∷ text) (at_last_name t user wanted q o)
  at_last wanted t s q text is_led takes (Some i) e = unless (fits t wanted i)
    where
      unless : (o : Option BindWhy) → Comes (q.name ∷ text) (point_unless t q o)
      unless None h =
          let P : Point → Type 0 = λ p. WayTo table t p (q.name ∷ text) in
          subst P (ok_is q p h) (record { stands = s; up = text; whole_is = refl; is_led = is_led; takes = takes; there = ap is_there e; well = entry_named_well t s.sound q.dir q.name i e })
      unless (Some why) h = absurd cc
  at_last wanted t s q text is_led takes None e = by (may_make t user q.dir q.name) refl
    where
      by : (b : Bool) → may_make t user q.dir q.name ≡ b → Comes (q.name ∷ text) (if b then record { tree = made t user q.dir q.name wanted.is_dir; answer = Ok q } else refused t NoPoint)
      by false may_be h = absurd cc
      by true may_be h =
          let u = made t user q.dir q.name wanted.is_dir in
          let before = made_before t s q.dir q.name wanted.is_dir takes e may_be in
          let P : Point → Type 0 = λ p. WayTo table u p (q.name ∷ text) in
          subst P (ok_is q p h) (record {
            stands = stands_still t u before table s;
            up = text;
            whole_is = refl;
            is_led = led_stays t u before table text (node_in q.mount q.dir) is_led;
            takes = takes_stays t u before q.dir takes;
            there = ap is_there (new_there user t s.sound q.dir q.name wanted.is_dir takes e);
            well = name_well t q.dir q.name may_be;
          })

  module _ (go : Tree → ℕ → ℕ → Left Point) (whole text : Text) (name : List ℕ) (on : (u : Tree) → Stands u table → (k i : ℕ) → led table u (name ∷ text) ≡ Some (node_in k i) → Comes whole (go u k i))
      (t : Tree) (s : Stands t table) (m d : ℕ) (is_led : led table t text ≡ Some (node_in m d)) (takes : body_is takes_names t d ≡ true) where
    below : (q : Place ℕ) → next_by_name table t name m (Node d) ≡ Some q → led table t (name ∷ text) ≡ Some q
    below q h = ap (option_and_then (λ (p : Place ℕ). next_by_name table t name p.mount p.host)) is_led ∙ h

    at_entry_comes : down table m d name ≡ None → (o : Option ℕ) → entry t d name ≡ o → Comes whole (at_entry t user m d name o go)
    at_entry_comes none (Some i) e = by (body_is is_link t i)
      where
        by : (b : Bool) → Comes whole (if b then refused t LinkOnTheWay else go t m i)
        by true h = absurd cc
        by false h = on t s m i (below (node_in m i) (ap (behind m (entry t d name)) none ∙ ap (option_map (node_in m)) e)) h
    at_entry_comes none None e = by (may_make t user d name) refl
      where
        by : (b : Bool) → may_make t user d name ≡ b → Comes whole (if b then go (made t user d name true) m t.next else refused t NoPoint)
        by false may_be h = absurd cc
        by true may_be h =
            let u = made t user d name true in
            let before = made_before t s d name true takes e may_be in
            let there = led_stays t u before table text (node_in m d) is_led in
            on u (stands_still t u before table s) m t.next
            (ap (option_and_then (λ (p : Place ℕ). next_by_name table u name p.mount p.host)) there
            ∙ ap (behind m (entry u d name)) none ∙ ap (option_map (node_in m)) (new_there user t s.sound d name true takes e)) h

    through_comes : (o : Option (Place ℕ)) → down table m d name ≡ o → Comes whole (through t user m d name o go)
    through_comes None e = at_entry_comes e (entry t d name) refl
    through_comes (Some q) e = by q.host refl
      where
        by : (h : Host) → q.host ≡ h → Comes whole (at_host t q.mount h go)
        by (Node i) k h = on t s q.mount i (below (node_in q.mount i) (ap (behind m (entry t d name)) e ∙ (λ j. Some (record { mount = q.mount; host = k j })))) h
        by (Proc i at) k h = absurd cc

  way_comes : (wanted : Wanted) (names : List (List ℕ)) (name : List ℕ) (t : Tree) → Stands t table → (m d : ℕ) (text : Text) → led table t text ≡ Some (node_in m d) → Comes (onto names (name ∷ text)) (way user table wanted t m d name names)
  way_comes wanted [] name t s m d text is_led = by (body_is takes_names t d) refl
    where
      by : (b : Bool) → body_is takes_names t d ≡ b → Comes (name ∷ text) (if b then at_last_name t user wanted (record { mount = m; dir = d; name = name }) (entry t d name) else refused t NoPoint)
      by true takes = at_last wanted t s (record { mount = m; dir = d; name = name }) text is_led takes (entry t d name) refl
      by false takes = λ h. absurd cc
  way_comes wanted (next ∷ names) name t s m d text is_led = by (body_is takes_names t d) refl (λ u su k i l. way_comes wanted names next u su k i (name ∷ text) l)
    where
      by : (b : Bool) → body_is takes_names t d ≡ b → ((u : Tree) → Stands u table → (k i : ℕ) → led table u (name ∷ text) ≡ Some (node_in k i) → Comes (onto names (next ∷ name ∷ text)) (way user table wanted u k i next names))
          → Comes (onto names (next ∷ name ∷ text)) (if b then through t user m d name (down table m d name) (λ u k i. way user table wanted u k i next names) else refused t NoPoint)
      by true takes on = through_comes (λ u k i. way user table wanted u k i next names) (onto names (next ∷ name ∷ text)) text name on t s m d is_led takes (down table m d name) refl
      by false takes on = λ h. absurd cc

  along_comes : (one : Located) (t : Tree) → Stands t table → (names : List (List ℕ)) → Comes (onto names []) (way_along user table one t names)
  along_comes one t s [] h = absurd cc
  along_comes one t s (name ∷ names) h = way_comes (record { is_dir = one.source.is_dir; keep = one.keep }) names name t s 0 (root_source table) [] refl h

-- ---- sources

-- what a source keeps
record SourceStands (t : Tree) (s : Source) : Type 0 where
  pub leads : named t s.text ≡ Some s.inode
  pub kind : option_map is_directory (body t s.inode) ≡ Some s.is_dir
  pub entered : s.is_dir ≡ false → (name : List ℕ) × (above : Text) × (s.text ≡ name ∷ above) × (entry t s.dir name ≡ Some s.inode) × IsName name

source_stands : (t : Tree) → IsSound t → HasItsInodes t → (s : Source) → IsSource t s → SourceStands t s
source_stands t sound inodes s is = record { leads = leads s.is_dir refl; kind = kind; entered = λ no. let e = is.entered no in (e.0, e.1, e.2, e.4, entry_named_well t sound s.dir e.0 s.inode e.4) }
  where
    leads : (b : Bool) → s.is_dir ≡ b → named t s.text ≡ Some s.inode
    leads true e = (host_names-lead t sound s.inode s.text (is.directory e)).0
    leads false e =
        let x = is.entered e in
        ap (named t) x.2 ∙ ap (option_and_then (λ dir. entry t dir x.0)) (host_names-lead t sound s.dir x.1 x.3).0 ∙ x.4

    kind : option_map is_directory (body t s.inode) ≡ Some s.is_dir
    kind =
        let x = named_there t sound inodes s.text s.inode (leads s.is_dir refl) in
        let same : is_directory x.0.node.body ≡ s.is_dir = sym (ap (λ o. option_map_or (λ (x : Inode). is_directory x.node.body) o false) x.1) ∙ is.kind in
        ap (λ o. option_map is_directory (option_map (λ (x : Inode). x.node.body) o)) x.1 ∙ ap Some same

source_stands_still : (t v : Tree) → HasAllBefore t v → (s : Source) → SourceStands t s → SourceStands v s
source_stands_still t v before s h = record {
  leads = named_stays t v before s.text s.inode h.leads;
  kind = kind_stays t v before s.inode s.is_dir h.kind;
  entered = λ no. let e = h.entered no in (e.0, e.1, e.2, entry_stays t v before s.dir e.0 s.inode e.3, e.4);
}

has_source : (t : Tree) (s : Source) → SourceStands t s → (r : Row) → r.text.source ≡ s.text → r.source ≡ s.inode → r.is_dir ≡ s.is_dir → r.source_dir ≡ dir_of s s.text → r.source_name ≡ last_name s.text → HasSource t r
has_source t s h r text inode is_dir dir name = record {
  leads = ap (named t) text ∙ h.leads ∙ ap Some (sym inode);
  kind = ap (λ i. option_map is_directory (body t i)) inode ∙ h.kind ∙ ap Some (sym is_dir);
  called = λ no. let e = h.entered (sym is_dir ∙ no) in subst IsName (sym (name ∙ ap last_name e.2)) e.4;
  entered = λ no.
      let e = h.entered (sym is_dir ∙ no) in
      let dir_is : r.source_dir ≡ s.dir = dir ∙ ap (dir_of s) e.2 in
      let name_is : r.source_name ≡ e.0 = name ∙ ap last_name e.2 in
      (λ i. entry t (dir_is i) (name_is i)) ∙ e.3 ∙ ap Some (sym inode);
}

told_source : (index : ℕ) (o : Option Source) (s : Source) → told index (as_source o) ≡ Ok s → o ≡ Some s
told_source index None s h = absurd cc
told_source index (Some x) s h = ap Some (ok_is x s h)

-- what holds of each source that is found holds of those of bindings
module _ (t : Tree) (user : User) (P : Source → Type 0) (found : (path : List ℕ) (s : Source) → source_by t user path ≡ Some s → P s) where
  sources_stand : (binds : List Bind) (ss : List Sourced) → sources t user binds ≡ Ok ss → AllByRecursion (λ (s : Sourced). P s.source) ss
  sources_stand [] ss is = subst (λ ss. AllByRecursion (λ (s : Sourced). P s.source) ss) (ok_is [] ss is) tt
  sources_stand (bind ∷ binds) ss is =
      let go : Source → Result Sourced Refusal = λ source. Ok (record { bind = bind; source = source }) in
      let one = then_ok (sourced t user bind) (λ one. and_then (sources t user binds) (λ more. Ok (one ∷ more))) ss is in
      let more = then_ok (sources t user binds) (λ more. Ok (one.0 ∷ more)) ss one.2 in
      let s = then_ok (told bind.index (as_source (source_by t user bind.host))) go one.0 one.1 in
      let made_of : Sourced = record { bind = bind; source = s.0 } in
      let own : P s.0 = found bind.host s.0 (told_source bind.index (source_by t user bind.host) s.0 s.1) in
      let Q : Sourced → Type 0 = λ s. P s.source in
      subst (λ ss. AllByRecursion Q ss) (ok_is (one.0 ∷ more.0) ss more.2) (subst Q (ok_is made_of one.0 s.2) own, sources_stand binds more.0 more.1)

  locations_stand : (root : ℕ) (ss : List Sourced) → AllByRecursion (λ (s : Sourced). P s.source) ss → (all : List Located) → locations t user root ss ≡ Ok all → AllByRecursion (λ (one : Located). P one.source) all
  locations_stand root [] h all is = subst (λ all. AllByRecursion (λ (one : Located). P one.source) all) (ok_is [] all is) tt
  locations_stand root (s ∷ ss) h all is =
      let go : Text → Result Located Refusal = λ location. Ok (record { index = s.bind.index; keep = s.bind.keep; source = s.source; location = location }) in
      let one = then_ok (located t user root s) (λ one. and_then (locations t user root ss) (λ rest. Ok (one ∷ rest))) all is in
      let more = then_ok (locations t user root ss) (λ rest. Ok (one.0 ∷ rest)) all one.2 in
      let l = then_ok (told s.bind.index (location_by t user root s.bind.keep s.bind.guest)) go one.0 one.1 in
      let made_of : Located = record { index = s.bind.index; keep = s.bind.keep; source = s.source; location = l.0 } in
      let Q : Located → Type 0 = λ one. P one.source in
      subst (λ all. AllByRecursion Q all) (ok_is (one.0 ∷ more.0) all more.2) (subst Q (ok_is made_of one.0 l.2) h.0, locations_stand root ss h.1 more.0 more.1)

-- ---- mounts, one after the other

-- a binding whose turn comes: its source stands, and no mount so far is located at its location or has more names
record IsReady (t : Tree) (table : List Row) (one : Located) : Type 0 where
  pub source : SourceStands t one.source
  pub is_last : (k : ℕ) (q : Row) → row table k ≡ Some q → (length q.text.location ≤ length one.location) × (q.text.location ≢ one.location)

one_stands : (u : Tree) (table : List Row) (one : Located) (p : Point) → WayTo table u p one.location → SourceStands u one.source
    → ((k : ℕ) (q : Row) → row table k ≡ Some q → (length q.text.location ≤ length one.location) × (q.text.location ≢ one.location)) → Stands u (table ++ point_row u one p ∷ [])
one_stands u table one p w source is_last =
    let n : IsNamed u table p.mount p.dir w.up = named_where u table w.stands w.up (node_in p.mount p.dir) w.is_led in
    let listed = lists u p.dir w.takes in
    let above = n.rest ++ n.mount.text.source in
    let called : host_name u p.dir ≡ Some above = named-host_name u w.stands.sound above p.dir n.leads (is_a_directory u p.dir listed) in
    let own : StandsAt u table (length table) (point_row u one p) p = record {
      up = w.up;
      located = w.whole_is;
      is_led = w.is_led;
      is_named = n;
      stands = record { before = slice_get_within table p.mount n.mount n.there; named = w.well; listed = listed; there = w.there };
      above = above;
      told = ap (λ o. Some (p.name ∷ option_map_or (λ (text : Text). text) o [])) called;
      leads = n.leads;
    } in
    stands_more u table w.stands (point_row u one p) p refl own (has_source u one.source source (point_row u one p) refl refl refl refl refl) is_last

ready_still : (t u : Tree) → HasAllBefore t u → (table : List Row) (all : List Located) → AllByRecursion (IsReady t table) all → AllByRecursion (IsReady u table) all
ready_still t u before table [] h = tt
ready_still t u before table (x ∷ all) h = (record { source = source_stands_still t u before x.source h.0.source; is_last = h.0.is_last }, ready_still t u before table all h.1)

ready_more : (u : Tree) (table : List Row) (one : Located) (r : Row) → r.text.location ≡ one.location → (all : List Located) → AllByRecursion (IsReady u table) all → AllByRecursion (λ (x : Located). one.location ≢ x.location) all
    → AllByRecursion (λ (x : Located). length one.location ≤ length x.location) all → AllByRecursion (IsReady u (table ++ r ∷ [])) all
ready_more u table one r at [] h apart by_length = tt
ready_more u table one r at (x ∷ all) h apart by_length = (record { source = h.0.source; is_last = last }, ready_more u table one r at all h.1 apart.1 by_length.1)
  where
    last : (k : ℕ) (q : Row) → row (table ++ r ∷ []) k ≡ Some q → (length q.text.location ≤ length x.location) × (q.text.location ≢ x.location)
    last k q e = elim (get_any table r k q e) [
      | inl f ↦ h.0.is_last k q f
      | inr f ↦
          let same : q.text.location ≡ one.location = ap (λ (r : Row). r.text.location) f.1 ∙ at in
          let P : Text → Type 0 = λ l. (length l ≤ length x.location) × (l ≢ x.location) in
          subst P (sym same) (by_length.0, apart.0)
    ]

module _ (user : User) (full : List Row) where
  -- behind a way
  after_stands : (table : List Row) (one : Located) (u : Tree) (answer : Result Point BindWhy) (go : Tree → List Row → Settling) → ((p : Point) → answer ≡ Ok p → WayTo table u p one.location)
      → ((p : Point) → WayTo table u p one.location → (go u (table ++ point_row u one p ∷ [])).answer ≡ Ok full → Stands (go u (table ++ point_row u one p ∷ [])).tree full)
      → (after_way table one u answer go).answer ≡ Ok full → Stands (after_way table one u answer go).tree full
  after_stands table one u (Ok p) go come next h = next p (come p refl) h
  after_stands table one u (Err why) go come next h = absurd cc

  points_stand : (all : List Located) (t : Tree) (table : List Row) → Stands t table → AllByRecursion (IsReady t table) all → AreApart all → AreByLength all → (points user all t table).answer ≡ Ok full → Stands (points user all t table).tree full
  points_stand [] t table s ready apart by_length h = subst (Stands t) (ok_is table full h) s
  points_stand (one ∷ all) t table s ready apart by_length h =
      let left = way_along user table one t (reverse one.location) in
      let before = grown_trees_have_all_before user t left.tree s.sound s.counted (along_grows user t table one (reverse one.location) t Same) in
      after_stands table one left.tree left.answer (points user all)
      (λ p e. subst (λ whole. WayTo table left.tree p whole) (onto_reverse (reverse one.location) [] ∙ append-nil (reverse (reverse one.location)) ∙ reverse-reverse one.location) (along_comes user table p one t s (reverse one.location) e))
      (λ p w k.
      points_stand all left.tree (table ++ point_row left.tree one p ∷ []) (one_stands left.tree table one p w (source_stands_still t left.tree before one.source ready.0.source) ready.0.is_last)
      (ready_more left.tree table one (point_row left.tree one p) refl all (ready_still t left.tree before table all ready.1) apart.0 by_length.0) apart.1 by_length.1 k) h

-- ---- the guest's root alone

root_told : (t : Tree) (o : Option Source) (s : Source) → told 0 (root_source_of t o) ≡ Ok s → (o ≡ Some s) × (body_is is_listed t s.inode ≡ true)
root_told t None s h = absurd cc
root_told t (Some x) s h = by (body_is is_listed t x.inode) refl h
  where
    by : (b : Bool) → body_is is_listed t x.inode ≡ b → told 0 (if b then Ok x else Err RootNotDir) ≡ Ok s → (Some x ≡ Some s) × (body_is is_listed t s.inode ≡ true)
    by true e h = let same : x ≡ s = ok_is x s h in (ap Some same, ap (λ (s : Source). body_is is_listed t s.inode) (sym same) ∙ e)
    by false e h = absurd cc

root_stands : (t : Tree) → IsSound t → IsCounted t → (s : Source) → SourceStands t s → s.is_dir ≡ true → Stands t (root_row s ∷ [])
root_stands t sound counted s source is_dir = record {
  sound = sound;
  counted = counted;
  guest = root_row s;
  others = [];
  first = refl;
  root_index = refl;
  root_location = refl;
  root_told = refl;
  root_point = refl;
  root_dir = is_dir;
  sources = only (HasSource t) (has_source t s source (root_row s) refl refl refl refl refl);
  points = λ k r h. none k r h;
  are_led = led_only;
  own_location = λ j k q r one two same. alone j q one ∙ sym (alone k r two);
}
  where
    only : (P : Row → Type 0) → P (root_row s) → (k : ℕ) (r : Row) → row (root_row s ∷ []) k ≡ Some r → P r
    only P own zero r h = subst P (some_is (root_row s) r h) own
    only P own (suc k) r h = absurd cc

    none : {A : Type 0} (k : ℕ) (r : Row) → row (root_row s ∷ []) (suc k) ≡ Some r → A
    none k r h = absurd cc

    led_only : (k : ℕ) (r : Row) → row (root_row s ∷ []) k ≡ Some r → led (root_row s ∷ []) t r.text.location ≡ Some (node_in k r.source)
    led_only zero r h = let P : Row → Type 0 = λ r. led (root_row s ∷ []) t r.text.location ≡ Some (node_in 0 r.source) in subst P (some_is (root_row s) r h) refl
    led_only (suc k) r h = absurd cc

    alone : (k : ℕ) (r : Row) → row (root_row s ∷ []) k ≡ Some r → k ≡ 0
    alone zero r h = refl
    alone (suc k) r h = absurd cc

root_ready : (t : Tree) (s : Source) (all : List Located) → AllByRecursion (λ (one : Located). SourceStands t one.source) all → AllByRecursion (λ (one : Located). one.location ≢ []) all → AllByRecursion (IsReady t (root_row s ∷ [])) all
root_ready t s [] h some = tt
root_ready t s (one ∷ all) h some = (record { source = h.0; is_last = last }, root_ready t s all h.1 some.1)
  where
    last : (k : ℕ) (q : Row) → row (root_row s ∷ []) k ≡ Some q → (length q.text.location ≤ length one.location) × (q.text.location ≢ one.location)
    last zero q e =
        let P : Row → Type 0 = λ q. (length q.text.location ≤ length one.location) × (q.text.location ≢ one.location) in
        subst P (some_is (root_row s) q e) (omega arith, λ same. some.0 (sym same))
    last (suc k) q e = absurd cc

-- ---- the whole

located_each : (t : Tree) (user : User) → IsSound t → (P : Source → Type 0) → ((path : List ℕ) (s : Source) → source_by t user path ≡ Some s → P s)
    → (root : List ℕ) (binds : List Bind) (all : Row × List Located) → located_all t user root binds ≡ Ok all
    → (source : Source) × (all.0 ≡ root_row source) × P source × (source.is_dir ≡ true) × AllByRecursion (λ (one : Located). P one.source) all.1
located_each t user sound P found root binds all is =
    let source = then_ok (told 0 (root_source_by t user root)) (λ source. and_then (sources t user binds) (λ more. and_then (locations t user source.inode more) (λ all. Ok (root_row source, all)))) all is in
    let more = then_ok (sources t user binds) (λ more. and_then (locations t user source.0.inode more) (λ all. Ok (root_row source.0, all))) all source.2 in
    let rest = then_ok (locations t user source.0.inode more.0) (λ all. Ok (root_row source.0, all)) all more.2 in
    let pair : Row × List Located = (root_row source.0, rest.0) in
    let same : pair ≡ all = ok_is pair all rest.2 in
    let there = root_told t (source_by t user root) source.0 source.1 in
    let own = sources_are t user sound root source.0 there.0 in
    let each = locations_stand t user P found source.0.inode more.0 (sources_stand t user P found binds more.0 more.1) rest.0 rest.1 in
    let Q : Row × List Located → Type 0 = λ all. AllByRecursion (λ (one : Located). P one.source) all.1 in
    (source.0, ap (λ (p : Row × List Located). p.0) (sym same), found root source.0 there.0, sym own.kind ∙ is_a_directory t source.0.inode there.1, subst Q same each)

rows_some : (all : List Located) (rows : List Row) → AreRows all rows → AllByRecursion (λ (one : Located). one.location ≢ []) all
rows_some [] [] h = tt
rows_some [] (r ∷ rows) h = absurd h
rows_some (one ∷ all) [] h = absurd h
rows_some (one ∷ all) (r ∷ rows) h = (h.2, rows_some all rows h.3)

table_stands : (t : Tree) (user : User) (root : List ℕ) (binds : List Bind) (table : List Row) → IsSound t → IsCounted t → HasItsInodes t → (settling t user root binds).answer ≡ Ok table → Stands (settling t user root binds).tree table
table_stands t user root binds table sound counted inodes is =
    let all = points_ok t user table (located_all t user root binds) is in
    let from = located_each t user sound (SourceStands t) (λ path s h. source_stands t sound inodes s (sources_are t user sound path s h)) root binds all.0 all.1 in
    let listed = all.0.1 in
    let ordered = in_order (counting listed) in
    let order = bindings_are_in_order listed in
    let P : Located → Type 0 = λ one. SourceStands t one.source in
    let each : AllByRecursion P ordered = ordered_each P (counting listed) (counting_each P listed from.4) in
    let first : all.0.0 ≡ root_row from.0 = from.1 in
    let answer : (points user ordered t (root_row from.0 ∷ [])).answer ≡ Ok table = ap (λ (r : Row). (points user ordered t (r ∷ [])).answer) (sym first) ∙ all.2 in
    let rows = points_rows user ordered t (root_row from.0 ∷ []) table answer in
    let stands = points_stand user table ordered t (root_row from.0 ∷ []) (root_stands t sound counted from.0 from.2 from.3) (root_ready t from.0 ordered each (rows_some ordered rows.0 rows.2)) order.apart order.by_length answer in
    let whole : (points user ordered t (root_row from.0 ∷ [])).tree ≡ (settling t user root binds).tree =
    ap (λ (r : Row). (points user ordered t (r ∷ [])).tree) (sym first) ∙ sym (ap (λ r. (points_of t user r).tree) all.1) in
    subst (λ u. Stands u table) whole stands

-- ---- sources by their texts

-- a source by its text, which consists of names
record IsToldSource (t : Tree) (user : User) (s : Source) : Type 0 where
  pub reach : IsReachedSource t user s
  pub names : AreNames s.text

told_still : (t v : Tree) (user : User) → HasAllBefore t v → (s : Source) → IsToldSource t user s → IsToldSource v user s
told_still t v user before s h = record {
  reach = record {
    way = reached_stays t v before user s.text s.inode h.reach.way;
    above = λ no. let e = h.reach.above no in (e.0, e.1, e.2, reached_stays t v before user e.1 s.dir e.3);
  };
  names = h.names;
}

told_row : (t : Tree) (user : User) (s : Source) → IsToldSource t user s → (r : Row) → r.text.source ≡ s.text → r.source ≡ s.inode → r.is_dir ≡ s.is_dir → r.source_dir ≡ dir_of s s.text → r.source_name ≡ last_name s.text → IsSourceTold t user r
told_row t user s h r text inode is_dir dir name = record {
  way = ap (reached t user) text ∙ h.reach.way ∙ ap Some (sym inode);
  names = subst AreNames (sym text) h.names;
  above = λ no.
      let e = h.reach.above (sym is_dir ∙ no) in
      let dir_is : r.source_dir ≡ s.dir = dir ∙ ap (dir_of s) e.2 in
      let name_is : r.source_name ≡ e.0 = name ∙ ap last_name e.2 in
      (e.1, text ∙ e.2 ∙ ap (λ n. n ∷ e.1) (sym name_is), e.3 ∙ ap Some (sym dir_is));
}

-- what holds of each row holds of the rows of a whole table
module _ (user : User) (full : List Row) (Q : Row → Type 0) where
  abbrev Each : List Row → Type 0
  Each table = (k : ℕ) (r : Row) → row table k ≡ Some r → Q r

  after_each : (table : List Row) (one : Located) (u : Tree) (answer : Result Point BindWhy) (go : Tree → List Row → Settling) → Each table → ((v : Tree) (p : Point) → Q (point_row v one p))
      → ((v : Tree) (more : List Row) → Each more → (go v more).answer ≡ Ok full → Each full) → (after_way table one u answer go).answer ≡ Ok full → Each full
  after_each table one u (Ok p) go each own next h =
      next u (table ++ point_row u one p ∷ []) (λ k r e. elim (get_any table (point_row u one p) k r e) [ inl f ↦ each k r f | inr f ↦ subst Q (sym f.1) (own u p) ]) h
  after_each table one u (Err why) go each own next h = absurd cc

  points_each : (all : List Located) (t : Tree) (table : List Row) → AllByRecursion (λ (one : Located). (v : Tree) (p : Point) → Q (point_row v one p)) all → Each table → (points user all t table).answer ≡ Ok full → Each full
  points_each [] t table own each h = subst Each (ok_is table full h) each
  points_each (one ∷ all) t table own each h =
      let left = way_along user table one t (reverse one.location) in
      after_each table one left.tree left.answer (points user all) each own.0 (λ v more e k. points_each all v more own.1 e k) h

each_told : (v : Tree) (user : User) (t : Tree) → HasAllBefore t v → (all : List Located) → AllByRecursion (λ (one : Located). IsToldSource t user one.source) all
    → AllByRecursion (λ (one : Located). (u : Tree) (p : Point) → IsSourceTold v user (point_row u one p)) all
each_told v user t before [] h = tt
each_told v user t before (one ∷ all) h = ((λ u p. told_row v user one.source (told_still t v user before one.source h.0) (point_row u one p) refl refl refl refl refl), each_told v user t before all h.1)

table_told : (t : Tree) (user : User) (root : List ℕ) (binds : List Bind) (table : List Row) → IsSound t → IsCounted t → (settling t user root binds).answer ≡ Ok table
    → (k : ℕ) (r : Row) → row table k ≡ Some r → IsSourceTold (settling t user root binds).tree user r
table_told t user root binds table sound counted is =
    let v = (settling t user root binds).tree in
    let before = grown_trees_have_all_before user t v sound counted (settling_makes_names_alone t user root binds) in
    let all = points_ok t user table (located_all t user root binds) is in
    let P : Source → Type 0 = IsToldSource t user in
    let from = located_each t user sound P (λ path s h. record { reach = sources_reached t user sound path s h; names = (sources_are t user sound path s h).names }) root binds all.0 all.1 in
    let ordered = in_order (counting all.0.1) in
    let Q : Located → Type 0 = λ one. IsToldSource t user one.source in
    let each : AllByRecursion Q ordered = ordered_each Q (counting all.0.1) (counting_each Q all.0.1 from.4) in
    let first : IsSourceTold v user all.0.0 = subst (IsSourceTold v user) (sym from.1) (told_row v user from.0 (told_still t v user before from.0 from.2) (root_row from.0) refl refl refl refl refl) in
    points_each user table (IsSourceTold v user) ordered t (all.0.0 ∷ []) (each_told v user t before ordered each) (only v all.0.0 first) all.2
  where
    only : (v : Tree) (first : Row) → IsSourceTold v user first → (k : ℕ) (r : Row) → row (first ∷ []) k ≡ Some r → IsSourceTold v user r
    only v first own zero r h = subst (IsSourceTold v user) (some_is first r h) own
    only v first own (suc k) r h = absurd cc

module _ (u : Tree) (table : List Row) (s : Stands u table) where
  guest_is : (r : Row) → row table 0 ≡ Some r → s.guest ≡ r
  guest_is r h = some_is s.guest r (sym (ap (λ rows. row rows 0) s.first) ∙ h)

  no_root_point : (r : Row) (p : Point) → row table 0 ≡ Some r → r.point ≡ Some p → ⊥
  no_root_point r p h e =
      let clash : None ≡ Some p = sym s.root_point ∙ ap (λ (r : Row). r.point) (guest_is r h) ∙ e in
      let no : ⊥ = cc in no

  -- a mount that stands at a point
  at_point : (k : ℕ) (r : Row) (p : Point) → row table k ≡ Some r → r.point ≡ Some p → StandsAt u table k r p
  at_point zero r p h e = absurd (no_root_point r p h e)
  at_point (suc k) r p h e = let x = s.points k r h in subst (λ p. StandsAt u table (suc k) r p) (some_is x.0 p (sym x.1 ∙ e)) x.2

  text_point : (k : ℕ) (r : Row) → row table k ≡ Some r → is_there r.text.point ≡ is_there r.point
  text_point zero r h =
      let same = guest_is r h in
      ap (λ (r : Row). is_there r.text.point) (sym same) ∙ ap is_there s.root_told ∙ sym (ap is_there s.root_point) ∙ ap (λ (r : Row). is_there r.point) same
  text_point (suc k) r h = let x = s.points k r h in ap is_there x.2.told ∙ sym (ap is_there x.1)

  own_point : (j k : ℕ) (q r : Row) (p : Point) → row table j ≡ Some q → row table k ≡ Some r → q.point ≡ Some p → r.point ≡ Some p → j ≡ k
  own_point j k q r p one two at also =
      let x = at_point j q p one at in
      let y = located_at u table s k r p.mount p.dir p.name x.up two also x.is_named in
      s.own_location j k q r one two (x.located ∙ sym y.0)

  point_told : (k : ℕ) (r : Row) (p : Point) → row table k ≡ Some r → r.point ≡ Some p → IsPointTold u table r p
  point_told k r p h e =
      let x = at_point k r p h e in
      let f = follows u table s x.up (node_in p.mount p.dir) x.is_led in
      let same : x.above ≡ host_of (texts_of table) x.up = named_once u s.sound x.above (host_of (texts_of table) x.up) p.dir x.leads f.1 (is_a_directory u p.dir x.stands.listed) in
      record { up = x.up; location = x.located; way = x.is_led; mount = sym f.0; dir = f.1; text = x.told ∙ ap (λ text. Some (p.name ∷ text)) same }

  settled_in : (user : User) → IsApart table → ((k : ℕ) (r : Row) → row table k ≡ Some r → IsSourceTold u user r) → IsSettledIn u user table
  settled_in user apart told_sources =
      let P : List Row → Type 0 = ApartBy (λ (r : Row). r.text.index) in
      record {
        stands = record {
          lawful = record {
            root_location = λ r h. ap (λ (r : Row). r.text.location) (sym (guest_is r h)) ∙ s.root_location;
            location_names = λ k r h. (named_where u table s r.text.location (node_in k r.source) (s.are_led k r h)).names;
            root_point = λ r h. ap (λ (r : Row). r.point) (sym (guest_is r h)) ∙ s.root_point;
            text_point = text_point;
            later_point = λ k r h. let x = s.points k r h in (x.0, x.1);
            own_point = own_point;
            own_index = own_at (λ (r : Row). r.text.index) table (subst P (sym apart.first) apart.own_index);
            own_location = s.own_location;
          };
          rooted = (s.guest, ap (λ rows. row rows 0) s.first, s.root_dir);
          sources = λ k r h. (s.sources k r h).kind;
          points = λ k r p h e. (at_point k r p h e).stands;
        };
        as_settled = record { named = λ k r h no. (s.sources k r h).called no; entered = λ k r h no. (s.sources k r h).entered no };
        leads = s.are_led;
        sources = told_sources;
        points = point_told;
      }

pub settled_mounts_stand : SettledMountsStand
settled_mounts_stand t user root binds table sound counted inodes numbered is =
    settled_in (settling t user root binds).tree table (table_stands t user root binds table sound counted inodes is) user (settled_apart t user root binds numbered table is) (table_told t user root binds table sound counted is)
