-- What remembers an entry that moves, or lies below it, by its host text before the move and after it.
use Rattle.std.proofs.Common.{◌≡◌, inl, inr, ℕ, true, false, not, List, [], ◌∷◌, ◌++◌, length, length-append, append_assoc, Option, Some, refl, sym, ap, subst, ◌∙◌, arith}
use Rattle.std.specs.Option.{option_and_then, option_map_or}
use Rattle.kr_calm.specs.pr_base.MountText.{MountText}
use Rattle.kr_calm.specs.pr_base.Texts.{Text}
use Rattle.law_walks.specs.pt_bind.Binding.{host_of, owner}
use Rattle.law_walks.proofs.kr_inode.BodyLemmas.{listed-is_directory, takes-is_listed}
use Rattle.law_walks.specs.kr_tree.declared.place.Host.{Host}
use Rattle.law_walks.specs.kr_tree.declared.place.Host.TheVariants.{Node, Proc}
use Rattle.law_walks.specs.kr_tree.declared.place.Place.{Place}
use Rattle.law_walks.specs.kr_tree.Lawful.{IsBelow, IsSound}
use Rattle.law_walks.specs.kr_tree.Names.{named, reached}
use Rattle.law_walks.specs.kr_tree.Tree.{Tree, body_is, entry, inode, is_directory, root, takes_names}
use Rattle.law_walks.proofs.kr_tree.AddLemmas.{passing}
use Rattle.law_walks.proofs.kr_tree.EntryLemmas.{entry_in_directory, last_step, named_once, named_there, reached-named, step_more}
use Rattle.law_walks.proofs.kr_tree.NameLemmas.{named_step, some_is}
use Rattle.law_walks.specs.kr_view.Component.{Finds, Namespace, is_directory_at}
use Rattle.law_walks.specs.kr_view.HostReach.{is_link_at, object_in, reaches}
use Rattle.law_walks.specs.kr_view.View.{Point, Row, covered, row}
use Rattle.law_walks.proofs.kr_view.HostReachLemmas.{entry_in, inode_reached, last_object, named_alone, object_of_entry, reached_inode}
use Rattle.law_walks.proofs.kr_view.TableLemmas.{there_is}
use Rattle.law_walks.specs.kr_mounts.Standing.{texts_of}
use Rattle.law_walks.specs.kr_model.Conditions.{CanMove}
use Rattle.law_walks.specs.kr_model.Lawful.{IsLawful}
use Rattle.law_walks.specs.kr_model.ProcessDirectory.{space_of}
use Rattle.law_walks.specs.kr_model.State.{Image, State, inode_of}
use Rattle.law_walks.specs.Settled.{IsPointNamed, host_text}
use Rattle.law_walks.specs.Standing.{IsEntryAt, IsUncovered, Stands, reached_in}
use Rattle.law_walks.proofs.StandingLemmas.{above_directory, below_location, source_reached, standing_places_are_uncovered}
use Rattle.law_walks.proofs.TableLemmas.{owned}
use Rattle.law_places.specs.Following.{Follows}
use Rattle.law_places.specs.Losses.{KeepsNames, Losses}
use Rattle.law_places.specs.Moving.{IsComeTo, LieAlike, SparesMove, names_of_move}
use Rattle.law_places.specs.Standing.{PlacesStand, StandsAs}
use Rattle.law_places.specs.Uses.{Use}
use Rattle.law_places.proofs.BelowLemmas.{AreParted, IsInFront, LeadsThrough, below_reached, in_front, leads_through, parted_twice, reached_above}
use Rattle.law_places.proofs.MoveLemmas.{far_filled, gone_two, not_gone, table_far, way_far}
use Rattle.law_places.proofs.SourceLemmas.{point_covers}
use Rattle.law_places.proofs.SpaceLemmas.{whole}
use Rattle.law_places.proofs.WayLemmas.{NodeStays, node_of_inodes, reached_stays}

-- what is neither a directory nor a link is an inode
pub node_of_file : (t : Tree) (x : Host) → is_directory_at t x ≡ false → is_link_at t x ≡ false → (j : ℕ) × (x ≡ Node j)
node_of_file t (Node j) flat firm = (j, refl)
node_of_file t (Proc i at) flat firm = let clash : true ≡ false = sym (ap not flat) ∙ firm in absurd cc

module _ (table : List Row) (s : State ℕ Image) (stand : PlacesStand table s) (dir : ℕ) (name : List ℕ) (to : ℕ) (new : List ℕ) (own : ℕ) (there : entry s.tree dir name ≡ Some own) (can : CanMove table s.tree dir name to new) (spares : SparesMove table s dir name to new) where
  abbrev t : Tree
  t = s.tree

  abbrev sound : IsSound t
  sound = stand.lawful.tree.sound

  abbrev space : Namespace
  space = space_of table s

  abbrev finds : Finds
  finds = space.finds

  abbrev lost : Losses
  lost = names_of_move dir name to new

  abbrev bindings : List MountText
  bindings = texts_of table

  abbrev reach : Text → Option Host
  reach h = reaches t s.user finds h

  dir_is : is_directory_at t (Node dir) ≡ true
  dir_is = entry_in_directory t dir name own there

  to_is : is_directory_at t (Node to) ≡ true
  to_is =
      let z = passing takes_names (inode t to) can.move.takes in
      ap (λ o. option_map_or (λ z. is_directory z.node.body) o false) z.1 ∙ listed-is_directory z.0.node.body (takes-is_listed z.0.node.body z.2)

  -- a directory is reached by one text
  once : (one two : Text) (i : ℕ) → reach one ≡ Some (Node i) → reach two ≡ Some (Node i) → is_directory_at t (Node i) ≡ true → one ≡ two
  once one two i way also is_dir = named_once t sound one two i (reached-named t s.user one i (reached_inode t s.user finds one i way)) (reached-named t s.user two i (reached_inode t s.user finds two i also)) is_dir

  -- the way to a directory leads by the text of each directory that it lies below
  by_text : (i : ℕ) (h : Text) (d : ℕ) → reach h ≡ Some (Node d) → is_directory_at t (Node d) ≡ true → IsBelow t i d → (text : Text) → reach text ≡ Some (Node i) → (more : Text) × (h ≡ more ++ text)
  by_text i h d way is_dir below text high = by (leads_through t sound s.user finds i h d way is_dir below)
    where
      by : LeadsThrough t sound s.user finds h i → (more : Text) × (h ≡ more ++ text)
      by l = (l.more, l.parted ∙ ap (λ low. l.more ++ low) (once l.low text i l.way high (above_directory space stand.settled l.more l.low (Node d) (Node i) (ap reach (sym l.parted) ∙ way) is_dir l.way)))

  -- ---- host texts that lead by the name that goes

  pub record IsByName (host : Text) : Type 0 where
    pub more : Text
    pub up : Text
    pub parted : host ≡ more ++ name ∷ up
    pub way : reach up ≡ Some (Node dir)
    pub ends : reach (name ∷ up) ≡ Some (Node own)

  -- the entry itself
  pub entry_is : (up : Text) (x : Host) → reach (name ∷ up) ≡ Some x → reach up ≡ Some (Node dir) → x ≡ Node own
  entry_is up x way high =
      let l = last_object t s.user finds up name x way in
      let is : l.dir ≡ Node dir = some_is l.dir (Node dir) (sym l.way ∙ high) in
      some_is x (Node own) (sym l.there ∙ ap (object_in t finds name) is ∙ object_of_entry t finds dir name own there)

  -- what lies below the entry
  pub by_name : (h : Text) (d : ℕ) → reach h ≡ Some (Node d) → is_directory_at t (Node d) ≡ true → IsBelow t own d → IsByName h
  by_name h d way is_dir below =
      let l = leads_through t sound s.user finds own h d way is_dir below in
      ends l.more l.low l.parted l.way (above_directory space stand.settled l.more l.low (Node d) (Node own) (ap reach (sym l.parted) ∙ way) is_dir l.way)
    where
      ends : (more low : Text) → h ≡ more ++ low → reach low ≡ Some (Node own) → body_is is_directory t own ≡ true → IsByName h
      ends more [] parted way own_is =
          let nodes : Node root ≡ Node own = some_is (Node root) (Node own) way in
          let is : own ≡ root = cc in
          absurd ((named_step t sound name dir own there own_is).1 is)
      ends more (c ∷ up) parted way own_is =
          let l = last_object t s.user finds up c (Node own) way in
          let e = entry_in t finds c l.dir own l.there in
          let steps : ◌≡◌ {A = List ℕ × ℕ} (c, e.ino) (name, dir) = some_is (c, e.ino) (name, dir) (sym (named_step t sound c e.ino own e.there own_is).0 ∙ (named_step t sound name dir own there own_is).0) in
          let names : c ≡ name = ap (λ (p : List ℕ × ℕ). p.0) steps in
          let dirs : e.ino ≡ dir = ap (λ (p : List ℕ × ℕ). p.1) steps in
          record { more = more; up = up; parted = parted ∙ ap (λ c. more ++ c ∷ up) names; way = l.way ∙ ap Some (e.is ∙ ap (λ i. Node i) dirs); ends = ap (λ c. reach (c ∷ up)) (sym names) ∙ way }

  -- no source's text leads so
  unsourced : (k : ℕ) (r : Row) → row table k ≡ Some r → IsByName r.text.source → ⊥
  unsourced k r row_there h = by h.more h.parted
    where
      by : (more : Text) → r.text.source ≡ more ++ name ∷ h.up → ⊥
      by [] e =
          let n = stand.sources k r name h.up row_there e in
          let nodes : Node dir ≡ Node r.source_dir = named_alone t s.user finds h.up r.source_dir (Node dir) n.1 h.way in
          let dirs : r.source_dir ≡ dir = cc in
          spares.old_source k r row_there dirs n.0
      by (c ∷ more) e =
          let n = stand.sources k r c (more ++ name ∷ h.up) row_there e in
          let l = last_object t s.user finds (more ++ name ∷ h.up) c (Node r.source) (ap reach (sym e) ∙ source_reached space stand.settled k r row_there) in
          let is : l.dir ≡ Node r.source_dir = named_alone t s.user finds (more ++ name ∷ h.up) r.source_dir l.dir n.1 l.way in
          let below : IsBelow t own (inode_of l.dir) = below_reached t sound s.user finds more (name ∷ h.up) l.dir (Node own) l.way l.is_dir h.ends in
          (spares.rows own there k r row_there).0 (subst (λ d. IsBelow t own (inode_of d)) is below)

  -- so the source of a mount in which one lies stands above it
  in_mount : (k : ℕ) (r : Row) → row table k ≡ Some r → (rest host : Text) → host ≡ rest ++ r.text.source → (h : IsByName host) → (one : Text) × (h.up ≡ one ++ r.text.source)
  in_mount k r row_there rest host e h = by (in_front rest r.text.source h.more name h.up (sym e ∙ h.parted))
    where
      by : IsInFront rest r.text.source h.more name h.up → (one : Text) × (h.up ≡ one ++ r.text.source)
      by (inl x) = (x.0, x.2)
      by (inr x) = absurd (unsourced k r row_there (record { more = x.0; up = h.up; parted = x.1; way = h.way; ends = h.ends }))

  -- the entry doesn't stand above its directory
  dir_apart : (host : Text) → IsByName host → ¬ IsBelow t own dir
  dir_apart host h below =
      let l = by_text own h.up dir h.way dir_is below (name ∷ h.up) h.ends in
      omega (arith, ap length l.1, length-append l.0 (name ∷ h.up))

  module _ (target : IsComeTo space to) where
    to_named : named t target.host ≡ Some to
    to_named = reached-named t s.user target.host to (reached_inode t s.user finds target.host to target.way)

    -- nor above the new one
    to_apart : ¬ IsBelow t own to
    to_apart below =
        let l = leads_through t sound s.user finds own target.host to target.way to_is below in
        let own_is = above_directory space stand.settled l.more l.low (Node to) (Node own) (ap reach (sym l.parted) ∙ target.way) to_is l.way in
        let same : own ≡ can.move.moved = some_is own can.move.moved (sym there ∙ can.move.there) in
        can.move.apart (ap (body_is is_directory t) (sym same) ∙ own_is) (subst (λ i. IsBelow t i to) same below)

    -- ---- the new host text, and the guest text to which it belongs

    -- no mount point stands in a directory with a text that leads by the new name
    unkept : (more : Text) → KeepsNames lost t (more ++ new ∷ target.host) → ⊥
    unkept [] kept = let clash : true ≡ false = sym (gone_two dir name to new new refl) ∙ kept.0 to to_named in absurd cc
    unkept (c ∷ more) kept = unkept more kept.1

    module _ (alike : LieAlike table t dir to) where
      -- the new directory lies below the same sources
      target_in : (k : ℕ) (r : Row) → row table k ≡ Some r → (one : Text) → reach (one ++ r.text.source) ≡ Some (Node dir) → (two : Text) × (target.host ≡ two ++ r.text.source)
      target_in k r row_there one way =
          let source = source_reached space stand.settled k r row_there in
          by_text r.source target.host to target.way to_is (alike.sources k r row_there (below_reached t sound s.user finds one r.text.source (Node dir) (Node r.source) way dir_is source)) r.text.source source

      module _ (p : Place ℕ) (guest : Text) (stands : Stands space p guest) (h : IsByName (host_text space guest)) where
        -- what the new directory lies below and the mount covers, the old one lies below; but what stands isn't covered
        unpointed : (j : ℕ) (r : Row) (q : Point) (point : Text) → row table j ≡ Some r → r.point ≡ Some q → q.mount ≡ p.mount → r.text.point ≡ Some point → (n : IsPointNamed space r q) → point ≡ q.name ∷ host_text space n.up
            → (more : Text) → target.host ≡ more ++ q.name ∷ host_text space n.up → ⊥
        unpointed j r q point row_there at mount told n point_is more e =
            let text = q.name ∷ host_text space n.up in
            let c = there_is (entry t q.dir q.name) (stand.settled.mounts.points j r q row_there at).there in
            let way : reach (more ++ text) ≡ Some (Node to) = ap reach (sym e) ∙ target.way in
            let low = reached_above t sound s.user finds more text (Node to) way in
            let covered_named : named t text ≡ Some c.0 = ap (option_and_then (λ d. entry t d q.name)) n.dir ∙ c.1 in
            let covered_way : reach text ≡ Some (Node c.0) = low.1 ∙ ap Some (named_alone t s.user finds text c.0 low.0 covered_named low.1) in
            let below = alike.points j r q c.0 row_there at c.1 (below_reached t sound s.user finds more text (Node to) (Node c.0) way to_is covered_way) in
            is_covered (by_text c.0 h.up dir h.way dir_is below text covered_way)
          where
            is_covered : (rest : Text) × (h.up ≡ rest ++ q.name ∷ host_text space n.up) → ⊥
            is_covered x =
                standing_places_are_uncovered space p guest stand.settled stands j r q point (h.more ++ name ∷ x.0) row_there at mount told
                (h.parted ∙ ap (λ up. h.more ++ name ∷ up) (x.1 ∙ ap (λ low. x.0 ++ low) (sym point_is)) ∙ sym (append_assoc h.more (name ∷ x.0) point))

        uncovered : IsUncovered space p.mount (h.more ++ new ∷ target.host)
        uncovered j r q point below row_there at mount told is =
            let n = stand.settled.points j r q row_there at in
            let point_is : point ≡ q.name ∷ host_text space n.up = some_is point (q.name ∷ host_text space n.up) (sym told ∙ n.text) in
            by n point_is (parted_twice h.more new target.host below q.name (host_text space n.up) (is ∙ ap (λ point. below ++ point) point_is))
          where
            by : (n : IsPointNamed space r q) → point ≡ q.name ∷ host_text space n.up → AreParted h.more new target.host q.name (host_text space n.up) → ⊥
            by n point_is (inl x) = unkept x.0 (subst (KeepsNames lost t) x.1 ((table_far table s stand dir name to new own there can spares).points j r q.name n.up row_there n.location))
            by n point_is (inr (inl x)) =
                let dirs : q.dir ≡ to = some_is q.dir to (sym n.dir ∙ ap (named t) x.1 ∙ to_named) in
                let clash : false ≡ true = sym can.free ∙ ap (λ d. covered table d new) (sym dirs) ∙ ap (covered table q.dir) (sym x.0) ∙ point_covers space stand.settled j r q row_there at in
                absurd cc
            by n point_is (inr (inr x)) = unpointed j r q point row_there at mount told n point_is x.0 x.1

        -- the guest text after the move
        pub record IsNewGuest (text : Text) : Type 0 where
          pub mount : p.mount ≡ owner bindings text
          pub host : host_of bindings text ≡ h.more ++ new ∷ target.host

        new_guest : (g : Text) × IsNewGuest g
        new_guest =
            let w = owned space stand.settled guest in
            let row_there : row table p.mount ≡ Some w.mount = ap (row table) stands.mount ∙ w.there in
            let one = in_mount p.mount w.mount row_there w.rest (host_text space guest) w.host h in
            let two = target_in p.mount w.mount row_there one.0 (ap reach (sym one.1) ∙ h.way) in
            let more = h.more ++ new ∷ two.0 in
            let host : more ++ w.mount.text.source ≡ h.more ++ new ∷ target.host = append_assoc h.more (new ∷ two.0) w.mount.text.source ∙ ap (λ l. h.more ++ new ∷ l) (sym two.1) in
            let at = below_location space stand.settled p.mount w.mount row_there more [] (subst (IsUncovered space p.mount) (sym host) uncovered) in
            (more ++ w.mount.text.location, record { mount = sym at.0; host = at.1 ∙ host })

    -- ---- after the move

    module _ (later : State ℕ Image) (lawful : IsLawful (λ m. m) table later) (follows : Follows lost (λ x. Unit {0}) s later) (entered : entry later.tree to new ≡ Some own) where
      abbrev u : Tree
      u = later.tree

      abbrev later_space : Namespace
      later_space = space_of table later

      -- what a text names in both trees
      node_both : (h k : Text) (i : ℕ) → named t h ≡ Some i → named u k ≡ Some i → NodeStays s.user lost t u i
      node_both h k i n m =
          let x = named_there t sound (whole t stand.lawful.tree).inodes h i n in
          let y = named_there u lawful.tree.sound (whole u lawful.tree).inodes k i m in
          node_of_inodes s.user lost t u i x.0 y.0 x.1 y.1 (follows.inodes i x.0 y.0 x.1 y.1)

      pub to_reached : reached u s.user target.host ≡ Some to
      to_reached =
          reached_stays s.user lost t u [] [] (whole t stand.lawful.tree) (whole u lawful.tree) follows.inodes (λ test pid e still. absurd cc) target.host to
          (way_far table s stand dir name to new own there can spares target.host (Node to) target.way to_is (to_apart, λ old at. (far_filled table s stand dir name to new own there can spares to new old at to_apart).1 old at))
          (reached_inode t s.user finds target.host to target.way)

      -- what was reached by the old name is reached by the new one
      pub moved_way : (host : Text) (h : IsByName host) (more : Text) (j : ℕ) → reached t s.user (more ++ name ∷ h.up) ≡ Some j → reached u s.user (more ++ new ∷ target.host) ≡ Some j
      moved_way host h [] j way =
          let same : own ≡ j = some_is own j (sym (reached_inode t s.user finds (name ∷ h.up) own h.ends) ∙ way) in
          step_more u s.user target.host new to j to_reached ((node_both target.host target.host to to_named (reached-named u s.user target.host to to_reached)).search refl target.search) (entered ∙ ap Some same)
      moved_way host h (n ∷ more) j way =
          let l = last_step t s.user (more ++ name ∷ h.up) n j way in
          let high = moved_way host h more l.dir l.way in
          let node = node_both (more ++ name ∷ h.up) (more ++ new ∷ target.host) l.dir (reached-named t s.user (more ++ name ∷ h.up) l.dir l.way) (reached-named u s.user (more ++ new ∷ target.host) l.dir high) in
          let below : IsBelow t own l.dir = below_reached t sound s.user finds more (name ∷ h.up) (Node l.dir) (Node own) (inode_reached t s.user finds (more ++ name ∷ h.up) l.dir l.way) (entry_in_directory t l.dir n j l.there) h.ends in
          let kept = not_gone table s stand dir name to new own there can spares l.dir n (λ same. dir_apart host h (subst (IsBelow t own) same.0 below)) (λ same. to_apart (subst (IsBelow t own) same.0 below)) in
          step_more u s.user (more ++ new ∷ target.host) n l.dir j high (node.search refl l.search) (node.entries n j l.there kept)

      -- so in the later state
      pub later_way : (h : Text) (j : ℕ) → reached u s.user h ≡ Some j → reached_in later_space h ≡ Some (Node j)
      later_way h j way = subst (λ user. reaches u user later_space.finds h ≡ Some (Node j)) (sym follows.user) (inode_reached u s.user later_space.finds h j way)

      -- what is no directory and stood at a text that leads by the name stands at another
      pub stands_moved : LieAlike table t dir to → (x : Use) (guest : Text) → StandsAs space x guest → x.is_directory ≡ false → (h : IsByName (host_text space guest)) → (d : ℕ) (n : List ℕ) → IsEntryAt later_space (h.more ++ new ∷ target.host) (Node d) n
          → (g : Text) × StandsAs later_space (record { place = x.place; is_directory = x.is_directory; dir = d; name = n }) g
      stands_moved alike x guest at file h d n enters =
          let f = node_of_file t x.place.host (at.kind ∙ file) at.on.firm in
          let way : reached t s.user (h.more ++ name ∷ h.up) ≡ Some f.0 = reached_inode t s.user finds (h.more ++ name ∷ h.up) f.0 (ap reach (sym h.parted) ∙ at.on.stands.way ∙ ap Some f.1) in
          let high = moved_way (host_text space guest) h h.more f.0 way in
          let node = node_both (h.more ++ name ∷ h.up) (h.more ++ new ∷ target.host) f.0 (reached-named t s.user (h.more ++ name ∷ h.up) f.0 way) (reached-named u s.user (h.more ++ new ∷ target.host) f.0 high) in
          let kind : is_directory_at u x.place.host ≡ x.is_directory = ap (is_directory_at u) f.1 ∙ node.directory ∙ sym (ap (is_directory_at t) f.1) ∙ at.kind in
          let g = new_guest alike x.place guest at.on.stands h in (
            g.0,
            record {
              on = record {
                stands = record {
                  mount = g.1.mount;
                  way = ap (reached_in later_space) g.1.host ∙ later_way (h.more ++ new ∷ target.host) f.0 high ∙ ap Some (sym f.1);
                  above = λ is_dir. let clash : true ≡ false = sym is_dir ∙ kind ∙ file in absurd cc;
                };
                firm = ap (is_link_at u) f.1 ∙ node.link ∙ sym (ap (is_link_at t) f.1) ∙ at.on.firm;
              };
              kind = kind;
              entry = λ _. subst (λ host. IsEntryAt later_space host (Node d) n) (sym g.1.host) enters;
            },
          )
