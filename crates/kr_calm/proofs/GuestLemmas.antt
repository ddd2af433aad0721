-- What stands above a place by guest names.
use Rattle.std.proofs.Common.{◌≡◌, ℕ, zero, suc, Bool, true, false, ◌&&◌, ◌||◌, ◌⊎◌, inl, inr, List, [], ◌∷◌, Option, Some, None, refl, sym, ap, ◌∙◌, subst, arith}
use Rattle.std.specs.Prelude.{nat_eq, slice_get, if◌then◌else◌}
use Rattle.std.specs.List.{list_any}
use Rattle.std.specs.Option.{option_and_then, option_map, option_map_or}
use Rattle.std.proofs.lemmas.Bool.Decides.{nat_tests}
use Rattle.kr_seen.specs.pr_base.declared.errno.Errno.TheVariants.{ENOENT}
use Rattle.kr_seen.specs.pr_base.WalkFrame.{Fails, Missing, Leads, Links, Jumps}
use Rattle.kr_seen.specs.kr_tree.Lawful.{Below, Here, IsBelow, IsSound}
use Rattle.kr_seen.specs.kr_tree.Tree.{above, body_is, is_directory, root}
use Rattle.kr_seen.specs.kr_tree.declared.place.Host.{Host}
use Rattle.kr_seen.specs.kr_tree.declared.place.Host.TheVariants.{Node, Proc}
use Rattle.kr_seen.specs.kr_tree.declared.place.Place.{Place}
use Rattle.kr_seen.specs.kr_tree.declared.place.ProcAt.{ProcAt}
use Rattle.kr_seen.specs.kr_tree.declared.place.ProcAt.TheVariants.{SelfLink, Dir, Cwd, Root, Exe, FdDir, Fd}
use Rattle.kr_seen.specs.kr_view.Component.{Namespace, SeenPlace, above_body, above_host, above_node, is_directory_at, is_shown, shows_directory}
use Rattle.kr_seen.specs.kr_view.View.{Point, Row, is_root_place, node_in, point_place, row, up}
use Rattle.kr_seen.specs.kr_model.State.{inode_of}
use Rattle.kr_calm.specs.Above.{is_at_or_below}
use Rattle.kr_calm.specs.Laws.{IsAboveByGuestNames, Itself, Up}
use Rattle.kr_calm.specs.Rules.{serves_row}
use Rattle.kr_calm.proofs.AboveLemmas.{below-within, equal-or-not, root-above, within-below}

-- ---- tests

either : (a b c d : Bool) → (a ≡ true → c ≡ true) → (b ≡ true → d ≡ true) → (a || b) ≡ true → (c || d) ≡ true
either true b c d f g e = ap (λ x. x || d) (f refl)
either false b true d f g e = refl
either false b false d f g e = g e

right-true : (a b : Bool) → b ≡ true → (a || b) ≡ true
right-true true b e = refl
right-true false b e = e

alongside : (a b c : Bool) → (b ≡ true → c ≡ true) → (a && b) ≡ true → (a && c) ≡ true
alongside true b c f e = f e
alongside false b c f e = absurd cc

any-more : {A : Type 0} (f g : A → Bool) (xs : List A) → ((x : A) → f x ≡ true → g x ≡ true) → list_any f xs ≡ true → list_any g xs ≡ true
any-more f g [] more e = e
any-more f g (x ∷ xs) more e = either (f x) (list_any f xs) (g x) (list_any g xs) (more x) (any-more f g xs more) e

any-at : {A : Type 0} (f : A → Bool) (xs : List A) (k : ℕ) (x : A) → slice_get xs k ≡ Some x → f x ≡ true → list_any f xs ≡ true
any-at f [] k x e h = absurd cc
any-at f (y ∷ ys) zero x e h = let same : y ≡ x = cc in ap (λ b. b || list_any f ys) (ap f same ∙ h)
any-at f (y ∷ ys) (suc k) x e h = right-true (f y) (list_any f ys) (any-at f ys k x e h)

-- where a look-up led
abbrev led : Place ℕ → SeenPlace → Place ℕ
led other (Leads is_dir p found) = p
led other (Fails e) = other
led other Missing = other
led other (Links found text) = other
led other (Jumps found lead) = other

module _ (space : Namespace) (sound : IsSound space.tree) where
  -- what stands above what is above a directory
  climb : (i u at : ℕ) → above space.tree i ≡ Some u → IsBelow space.tree i at → IsBelow space.tree u at
  climb i u at is Here =
      elim (equal-or-not i root) [
        | inl top ↦ let same : u ≡ i = root-above space.tree sound i u (sym (ap (above space.tree) top) ∙ is) ∙ sym top in subst (λ k. IsBelow space.tree k i) (sym same) Here
        | inr other ↦ Below other is Here
      ]
  climb i u at is (Below {up = next} other a r) = Below other a (climb i u next is r)

  above-too : (i u x : ℕ) → above space.tree i ≡ Some u → is_at_or_below space.tree i x ≡ true → is_at_or_below space.tree u x ≡ true
  above-too i u x is e = below-within space.tree sound u x (climb i u x is (within-below space.tree sound i space.tree.next x e))

  point-too : (i u : ℕ) (o : Option Point) → above space.tree i ≡ Some u → option_map_or (λ (p : Point). is_at_or_below space.tree i p.dir) o false ≡ true → option_map_or (λ (p : Point). is_at_or_below space.tree u p.dir) o false ≡ true
  point-too i u None is e = e
  point-too i u (Some p) is e = above-too i u p.dir is e

  row-too : (i u : ℕ) (r : Row) → above space.tree i ≡ Some u → serves_row space.tree i r ≡ true → serves_row space.tree u r ≡ true
  row-too i u r is e =
      either _ _ _ _ (either _ _ _ _ (above-too i u r.source is) (above-too i u r.source_dir is)) (alongside (body_is is_directory space.tree r.source) _ _ (point-too i u r.point is)) e

  module _ (d : ℕ) where
    abbrev IsReached : Host → Type 0
    IsReached host = (is_at_or_below space.tree (inode_of host) d ≡ true) ⊎ (list_any (serves_row space.tree (inode_of host)) space.table ≡ true)

    reached-above : (i u : ℕ) → above space.tree i ≡ Some u → IsReached (Node i) → IsReached (Node u)
    reached-above i u is (inl e) = inl (above-too i u d is e)
    reached-above i u is (inr e) = inr (any-more _ _ space.table (λ r. row-too i u r is) e)

    -- the directory of a mount point serves the row that stands there
    serves-own : (r : Row) (p : Point) → body_is is_directory space.tree r.source ≡ true → r.point ≡ Some p → serves_row space.tree p.dir r ≡ true
    serves-own r p is_dir e =
        right-true _ _ (ap (λ b. b && option_map_or (λ (q : Point). is_at_or_below space.tree p.dir q.dir) r.point false) is_dir ∙ ap (λ o. option_map_or (λ (q : Point). is_at_or_below space.tree p.dir q.dir) o false) e ∙ below-within space.tree sound p.dir p.dir Here)

    at-point : (m i : ℕ) (to : Place ℕ) (o : Option Row) → row space.table m ≡ o → body_is is_directory space.tree i ≡ true
        → option_and_then (λ (r : Row). if nat_eq r.source i then point_place r else None) o ≡ Some to → IsReached to.host
    at-point m i to None is dirs e = absurd cc
    at-point m i to (Some r) is dirs e = by-source (nat_eq r.source i) refl e
      where
        by-point : (o : Option Point) → r.point ≡ o → r.source ≡ i → option_map (λ (p : Point). node_in p.mount p.dir) o ≡ Some to → IsReached to.host
        by-point None there same h = absurd cc
        by-point (Some p) there same h =
            let there_is : node_in p.mount p.dir ≡ to = cc in
            subst (λ (q : Place ℕ). IsReached q.host) there_is (inr (any-at (serves_row space.tree p.dir) space.table m r is (serves-own r p (ap (body_is is_directory space.tree) same ∙ dirs) there)))

        by-source : (b : Bool) → nat_eq r.source i ≡ b → (if b then point_place r else None) ≡ Some to → IsReached to.host
        by-source true same h = by-point r.point refl (grind (arith, nat_tests)) h
        by-source false same h = absurd cc

    from-body : (m i : ℕ) (to : Place ℕ) (o : Option ℕ) → above space.tree i ≡ o → above_body m o ≡ shows_directory to → IsReached (Node i) → IsReached to.host
    from-body m i to (Some u) is e reached = let there : node_in m u ≡ to = ap (led to) e in subst (λ (q : Place ℕ). IsReached q.host) there (reached-above i u is reached)
    from-body m i to None is e reached = absurd cc

    from-node : (m i : ℕ) (to : Place ℕ) (o : Option (Place ℕ)) → up space.table m i ≡ o → body_is is_directory space.tree i ≡ true → above_node space m i o ≡ shows_directory to → IsReached (Node i) → IsReached to.host
    from-node m i to (Some p) is dirs e reached = let there : p ≡ to = ap (led to) e in at-point m i to (row space.table m) refl dirs (is ∙ ap (λ q. Some q) there)
    from-node m i to None is dirs e reached = from-body m i to (above space.tree i) refl e reached

    shown-above : (b : Bool) (p to : Place ℕ) (i : ℕ) → inode_of p.host ≡ i → (if b then shows_directory p else Fails ENOENT) ≡ shows_directory to → (at : ProcAt) → IsReached (Proc i at) → IsReached to.host
    shown-above true p to i same e at reached =
        let there : p ≡ to = ap (led to) e in
        let inode : i ≡ inode_of to.host = sym same ∙ ap (λ (q : Place ℕ). inode_of q.host) there in
        subst (λ k. (is_at_or_below space.tree k d ≡ true) ⊎ (list_any (serves_row space.tree k) space.table ≡ true)) inode reached
    shown-above false p to i same e at reached = absurd cc

    from-host : (m : ℕ) (host : Host) (to : Place ℕ) → is_directory_at space.tree host ≡ true → above_host space m host ≡ shows_directory to → IsReached host → IsReached to.host
    from-host m (Node i) to dirs e reached = from-node m i to (up space.table m i) refl dirs e reached
    from-host m (Proc i SelfLink) to dirs e reached = absurd cc
    from-host m (Proc i (Dir pid)) to dirs e reached = shown-above (is_shown space pid) (node_in m i) to i refl e (Dir pid) reached
    from-host m (Proc i (Cwd pid)) to dirs e reached = absurd cc
    from-host m (Proc i (Root pid)) to dirs e reached = absurd cc
    from-host m (Proc i (Exe pid)) to dirs e reached = absurd cc
    from-host m (Proc i (FdDir pid)) to dirs e reached = shown-above (is_shown space pid) (record { mount = m; host = Proc i (Dir pid) }) to i refl e (FdDir pid) reached
    from-host m (Proc i (Fd pid fd)) to dirs e reached = absurd cc

    from-place : (b : Bool) (at to : Place ℕ) → is_directory_at space.tree at.host ≡ true → (if b then shows_directory at else above_host space at.mount at.host) ≡ shows_directory to → IsReached at.host → IsReached to.host
    from-place true at to dirs e reached = let there : at ≡ to = ap (led to) e in subst (λ (q : Place ℕ). IsReached q.host) there reached
    from-place false at to dirs e reached = from-host at.mount at.host to dirs e reached

  all-the-way : (place to : Place ℕ) → IsAboveByGuestNames space place to → IsReached (inode_of place.host) to.host
  all-the-way place to Itself = inl (below-within space.tree sound (inode_of place.host) (inode_of place.host) Here)
  all-the-way place to (Up {at = at} way dirs e) = from-place (inode_of place.host) (is_root_place space.table at) at to dirs e (all-the-way place at way)

pub guest_names_go_by_mounts : (space : Namespace) (place to : Place ℕ) → IsSound space.tree → IsAboveByGuestNames space place to
    → (is_at_or_below space.tree (inode_of to.host) (inode_of place.host) ≡ true) ⊎ (list_any (serves_row space.tree (inode_of to.host)) space.table ≡ true)
guest_names_go_by_mounts space place to sound way = all-the-way space sound place to way
