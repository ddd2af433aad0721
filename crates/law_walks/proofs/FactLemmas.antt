-- Calls are told alike of their paths.
use Rattle.std.proofs.Common.{◌≡◌, ◌≢◌, ℕ, Bool, true, false, List, ◌∷◌, Option, Some, None, refl, sym, ap, ◌∙◌}
use Rattle.std.specs.Bool.{if◌then◌else◌}
use Rattle.std.specs.Option.{option_map, option_map_or}
use Rattle.pt_canon.specs.pr_base.MountText.{MountText}
use Rattle.pt_canon.specs.pr_base.Texts.{Text}
use Rattle.pt_canon.specs.pr_base.WalkFrame.{Target, may_be_free}
use Rattle.pt_canon.specs.pr_base.declared.errno.Errno.TheVariants.{ENOENT}
use Rattle.pt_canon.specs.pr_base.declared.path.Last.{Last}
use Rattle.pt_canon.specs.pr_base.declared.path.Last.TheVariants as last
use Rattle.pt_canon.specs.pr_base.declared.path.WalkMode.{WalkMode}
use Rattle.pt_canon.specs.pr_base.declared.path.WalkMode.TheVariants as modes
use Rattle.pt_canon.specs.pt_bind.Binding.{is_point, located}
use Rattle.kr_mounts.specs.kr_tree.declared.place.Host.{Host}
use Rattle.kr_mounts.specs.kr_tree.declared.place.Host.TheVariants.{Node, Proc}
use Rattle.kr_mounts.specs.kr_tree.declared.place.Place.{Place}
use Rattle.kr_mounts.specs.kr_view.Component.{Namespace, is_directory_at}
use Rattle.kr_mounts.specs.kr_view.HostReach.{host_place}
use Rattle.kr_mounts.specs.kr_view.ReachLaws.{name_target}
use Rattle.kr_mounts.specs.kr_view.View.{Row, is_there, plain, source}
use Rattle.kr_mounts.specs.kr_view.Walk.{PlaceTarget}
use Rattle.kr_mounts.proofs.kr_view.DirectoryLemmas.{in_directory}
use Rattle.kr_mounts.specs.Standing.{texts_of}
use Rattle.kr_model.specs.ProcessDirectory.{space_of}
use Rattle.kr_model.specs.Seen.{Looked, WalkFails, Takes, TakesCovered, TakesNoName, Makes, MakesOver, MakesNoName, OpensFound, OpensNew, OpensNoName, OpensSlashed}
use Rattle.kr_model.specs.State.{State, inode_of}
use Rattle.kr_model.specs.Walks.{created_at, entered, entry_of, if_name, is_covered, looked_at, made_at, taken_at}
use Rattle.law_walks.specs.Facts.{AlikeWithoutName, CreatesAlike, EndIn, EndsOn, FactsOfName, FoundIsToldAlike, LastsAreToldAlike, LooksUpAlike, MakesAlike, NamesAreToldAlike, TakesAlike}
use Rattle.law_walks.specs.Handed.{LeadsToName, handed_path}
use Rattle.law_walks.specs.Scene.{Scene}
use Rattle.law_walks.specs.Settled.{IsSettled, host_text}
use Rattle.law_walks.specs.Standing.{place_in, reached_in}
use Rattle.law_walks.specs.States.{scene_of}
use Rattle.law_walks.proofs.HandedLemmas.{directory_on, found_is_handed_over}
use Rattle.law_walks.proofs.NamedLemmas.{lasts_are_handed_over, mount_found, names_are_handed_over}
use Rattle.law_walks.proofs.PointLemmas.{covered_names_are_points}

-- a name in a directory that is reached is covered exactly where its host text is a point's
covered_told : (space : Namespace) → IsSettled space → (t : Text) (x : Host) (name : List ℕ) → reached_in space (host_text space t) ≡ Some x → is_directory_at space.tree x ≡ true → is_covered space.table x name ≡ is_point (texts_of space.table) (name ∷ host_text space t)
covered_told space set t (Node i) name way dir = covered_names_are_points.inode space t i name set way dir
covered_told space set t (Proc i at) name way dir = sym (covered_names_are_points.process space t i at name set way)

hosts_in : (m : ℕ) (x : Option Host) → option_map (λ (p : Place ℕ). p.host) (option_map (place_in m) x) ≡ x
hosts_in m None = refl
hosts_in m (Some y) = refl

there_in : (m : ℕ) (x : Option Host) → is_there (option_map (place_in m) x) ≡ is_there x
there_in m None = refl
there_in m (Some y) = refl

plain_covers : (x : Host) (name : List ℕ) → is_covered plain x name ≡ false
plain_covers (Node i) name = refl
plain_covers (Proc i at) name = refl

-- ---- what was found

module _ {X : Type 0} (table : List Row) (s : State ℕ X) (caller : ℕ) (a target : PlaceTarget) (p : Place ℕ) (ea : a.found ≡ Some p) (found : target.found ≡ Some (host_place p.host))
    (entry : is_directory_at s.tree p.host ≡ false → source table p.mount ≡ None → (target.dir ≡ host_place a.dir.host) × (target.name ≡ a.name))
    (settled : (e : ℕ × List ℕ) → is_directory_at s.tree p.host ≡ false → source table p.mount ≡ Some e → (target.dir ≡ host_place (Node e.0)) × (target.name ≡ e.1)) where
  abbrev at : ℕ → List ℕ → ℕ × List ℕ
  at n name = (n, name)

  pair : (m n : ℕ) (x y : List ℕ) → m ≡ n → x ≡ y → at m x ≡ at n y
  pair m n x y e f = ap (λ k. at k x) e ∙ ap (λ z. at n z) f

  same_entry : is_directory_at s.tree p.host ≡ false → (o : Option (ℕ × List ℕ)) → source table p.mount ≡ o → at (inode_of target.dir.host) target.name ≡ option_map_or (λ e. e) o (at (inode_of a.dir.host) a.name)
  same_entry file None none = let h = entry file none in pair (inode_of target.dir.host) (inode_of a.dir.host) target.name a.name (ap (λ (p : Place ℕ). inode_of p.host) h.0) h.1
  same_entry file (Some e) is = let h = settled e file is in pair (inode_of target.dir.host) e.0 target.name e.1 (ap (λ (p : Place ℕ). inode_of p.host) h.0) h.1

  abbrev looked : Bool → ℕ × List ℕ → Looked
  looked d e = record { host = p.host; entry = (if d then None else Some e) }

  looked_alike : looked_at plain caller s target (host_place p.host) ≡ looked_at table caller s a p
  looked_alike = by (is_directory_at s.tree p.host) refl
    where
      x : ℕ × List ℕ
      x = entry_of plain caller s target (host_place p.host)

      y : ℕ × List ℕ
      y = entry_of table caller s a p

      by : (d : Bool) → is_directory_at s.tree p.host ≡ d → looked (is_directory_at s.tree p.host) x ≡ looked (is_directory_at s.tree p.host) y
      by true dir = ap (λ d. looked d x) dir ∙ sym (ap (λ d. looked d y) dir)
      by false file = ap (λ d. looked d x) file ∙ ap (looked false) (same_entry file (source table p.mount) refl) ∙ sym (ap (λ d. looked d y) file)

  pub looks_up_alike : LooksUpAlike table s caller a target
  looks_up_alike next =
      ap (λ o. option_map_or (λ p. next (looked_at plain caller s target p)) o (WalkFails ENOENT)) found ∙ ap next looked_alike
      ∙ sym (ap (λ o. option_map_or (λ p. next (looked_at table caller s a p)) o (WalkFails ENOENT)) ea)

  -- an entry that is there is opened
  there_created : (rows : List Row) (t : PlaceTarget) (q : Place ℕ) → t.last ≡ last.Name → t.slash ≡ false → t.found ≡ Some q → created_at rows caller s t ≡ OpensFound (looked_at rows caller s t q)
  there_created rows t q is none f =
      ap (λ l. if_name l (if t.slash then OpensSlashed else option_map_or (λ p. OpensFound (looked_at rows caller s t p)) t.found (OpensNew t.dir.host t.name)) (OpensNoName l)) is
      ∙ ap (λ b. if b then OpensSlashed else option_map_or (λ p. OpensFound (looked_at rows caller s t p)) t.found (OpensNew t.dir.host t.name)) none
      ∙ ap (λ o. option_map_or (λ p. OpensFound (looked_at rows caller s t p)) o (OpensNew t.dir.host t.name)) f

  pub found_created : target.last ≡ last.Name → target.slash ≡ false → a.last ≡ last.Name → a.slash ≡ false → CreatesAlike table s caller a target
  found_created on bare is none = there_created plain target (host_place p.host) on bare found ∙ ap OpensFound looked_alike ∙ sym (there_created table a p is none ea)

pub found_is_told_alike : {X : Type 0} → FoundIsToldAlike X
found_is_told_alike table s caller mode other p a b u e ea eb =
    let h = found_is_handed_over (scene_of table s caller e.tags) mode e.base e.text e.path a b other p u e.both ea eb in
    record {
      looked = record { target = h.target; answer = h.answer; same = looks_up_alike table s caller a h.target p ea h.found h.entry h.settled };
      created = λ is none some. record { target = h.target; answer = h.answer; same = found_created table s caller a h.target p ea h.found h.entry h.settled (h.last some).0 (h.last some).1 is none };
    }

-- ---- entries

module _ {X : Type 0} (table : List Row) (s : State ℕ X) (caller : ℕ) (mode : WalkMode) (other : Place ℕ) (a : PlaceTarget) (b : Target Text Text) (e : EndIn table s caller mode a b)
    (free : may_be_free mode ≡ true) (jumped : a.jumped ≡ false) (is : a.last ≡ last.Name) where
  abbrev scene : Scene
  scene = scene_of table s caller e.tags

  abbrev space : Namespace
  space = space_of table s

  abbrev bindings : List MountText
  bindings = texts_of table

  abbrev x : Host
  x = a.dir.host

  leads : LeadsToName scene mode other a b
  leads = names_are_handed_over scene mode e.base e.text e.path a b other e.both free jumped is

  covers : is_covered table x a.name ≡ is_point bindings (a.name ∷ host_text space b.dir)
  covers =
      covered_told space e.both.matched.settled b.dir x a.name (directory_on scene mode e.base e.text e.path a b e.both jumped).stands.way
      (in_directory scene.around mode e.base e.path e.both.matched.settled.mounts e.both.some a e.both.place jumped)

  taken_is : (c : Bool) → is_point bindings (a.name ∷ host_text space b.dir) ≡ c → taken_at table caller s a ≡ (if c then TakesCovered else Takes (entered a))
  taken_is c point =
      ap (λ l. if_name l (if is_covered table x a.name then TakesCovered else Takes (entered a)) (TakesNoName l)) is
      ∙ ap (λ b. if b then TakesCovered else Takes (entered a)) (covers ∙ point)

  taken_host : (o : Option Host) → taken_at plain caller s (name_target x a.name a.slash o) ≡ Takes (record { dir = x; name = a.name; slash = a.slash; found = o })
  taken_host o =
      ap (λ b. if b then TakesCovered else Takes (entered (name_target x a.name a.slash o))) (plain_covers x a.name)
      ∙ ap (λ found. Takes (record { dir = x; name = a.name; slash = a.slash; found = found })) (hosts_in 0 o)

  made_is : (o : Option (Place ℕ)) → a.found ≡ o → made_at table caller s a ≡ (if is_there o then MakesOver else Makes x a.name a.slash)
  made_is o found =
      ap (λ l. if_name l (if is_there a.found then MakesOver else Makes x a.name a.slash) (MakesNoName l)) is
      ∙ ap (λ o. if is_there o then MakesOver else Makes x a.name a.slash) found

  taken : is_point bindings (a.name ∷ host_text space b.dir) ≡ false → EndsOn s caller modes.Name other (handed_path space b.dir a.name a.slash) (TakesAlike table s caller a)
  taken point = by (located bindings (a.name ∷ b.dir)) refl
    where
      by : (o : Option ℕ) → located bindings (a.name ∷ b.dir) ≡ o → EndsOn s caller modes.Name other (handed_path space b.dir a.name a.slash) (TakesAlike table s caller a)
      by None l =
          let h = leads.entry l in
          record {
            target = name_target x a.name a.slash h.0;
            answer = h.2;
            same = taken_host h.0 ∙ sym (taken_is false point ∙ ap (λ found. Takes (record { dir = x; name = a.name; slash = a.slash; found = found })) (ap (option_map (λ (p : Place ℕ). p.host)) h.1 ∙ hosts_in a.dir.mount h.0));
          }
      by (Some k) l = let clash : true ≡ false = sym (leads.point k l).0 ∙ point in absurd cc

  made : EndsOn s caller modes.Name other (handed_path space b.dir a.name a.slash) (MakesAlike table s caller a)
  made = by (located bindings (a.name ∷ b.dir)) refl
    where
      by : (o : Option ℕ) → located bindings (a.name ∷ b.dir) ≡ o → EndsOn s caller modes.Name other (handed_path space b.dir a.name a.slash) (MakesAlike table s caller a)
      by None l =
          let h = leads.entry l in
          record {
            target = name_target x a.name a.slash h.0;
            answer = h.2;
            same = ap (λ b. if b then MakesOver else Makes x a.name a.slash) (there_in 0 h.0 ∙ sym (there_in a.dir.mount h.0)) ∙ sym (made_is (option_map (place_in a.dir.mount) h.0) h.1);
          }
      by (Some k) l =
          let h = leads.point k l in
          let q = mount_found scene mode e.base e.text e.path a b e.both jumped is k l in
          record { target = name_target x a.name a.slash (Some h.1); answer = h.2; same = sym (made_is (Some q.0) q.1) }

  created : a.found ≡ None → EndsOn s caller mode other (handed_path space b.dir a.name a.slash) (CreatesAlike table s caller a)
  created none = record {
    target = name_target x a.name a.slash None;
    answer = leads.free none;
    same = sym
        (ap (λ l. if_name l (if a.slash then OpensSlashed else option_map_or (λ p. OpensFound (looked_at table caller s a p)) a.found (OpensNew x a.name)) (OpensNoName l)) is
        ∙ ap (λ o. if a.slash then OpensSlashed else option_map_or (λ p. OpensFound (looked_at table caller s a p)) o (OpensNew x a.name)) none);
  }

  pub told_of_name : FactsOfName table s caller mode other a b
  told_of_name = record { covered = λ point. taken_is true point; taken = taken; made = made; created = created }

pub names_are_told_alike : {X : Type 0} → NamesAreToldAlike X
names_are_told_alike table s caller mode other a b e free jumped is = told_of_name table s caller mode other a b e free jumped is

-- ---- other endings

no_name : {A : Type 0} (l : Last) → l ≢ last.Name → (named other : A) → if_name l named other ≡ other
no_name last.Name some named other = absurd (some refl)
no_name last.Dot some named other = refl
no_name last.DotDot some named other = refl
no_name last.Root some named other = refl

module _ {X : Type 0} (s : State ℕ X) (caller : ℕ) (l : Last) (some : l ≢ last.Name) where
  taken_none : (rows : List Row) (t : PlaceTarget) → t.last ≡ l → taken_at rows caller s t ≡ TakesNoName l
  taken_none rows t is =
      let named = if is_covered rows t.dir.host t.name then TakesCovered else Takes (entered t) in
      ap (λ l. if_name l named (TakesNoName l)) is ∙ no_name l some named (TakesNoName l)

  made_none : (rows : List Row) (t : PlaceTarget) → t.last ≡ l → made_at rows caller s t ≡ MakesNoName l
  made_none rows t is =
      let named = if is_there t.found then MakesOver else Makes t.dir.host t.name t.slash in
      ap (λ l. if_name l named (MakesNoName l)) is ∙ no_name l some named (MakesNoName l)

  created_none : (rows : List Row) (t : PlaceTarget) → t.last ≡ l → created_at rows caller s t ≡ OpensNoName l
  created_none rows t is =
      let named = if t.slash then OpensSlashed else option_map_or (λ p. OpensFound (looked_at rows caller s t p)) t.found (OpensNew t.dir.host t.name) in
      ap (λ l. if_name l named (OpensNoName l)) is ∙ no_name l some named (OpensNoName l)

  pub without_name : (table : List Row) (a target : PlaceTarget) → a.last ≡ l → target.last ≡ l → AlikeWithoutName table s caller a target
  without_name table a target is on = record {
    taken = taken_none plain target on ∙ sym (taken_none table a is);
    made = made_none plain target on ∙ sym (made_none table a is);
    created = created_none plain target on ∙ sym (created_none table a is);
  }

not_dot : last.Dot ≢ last.Name
not_dot e = absurd cc

not_dot_dot : last.DotDot ≢ last.Name
not_dot_dot e = absurd cc

not_root : last.Root ≢ last.Name
not_root e = absurd cc

pub lasts_are_told_alike : {X : Type 0} → LastsAreToldAlike X
lasts_are_told_alike table s caller mode other a b e jumped =
    let h = lasts_are_handed_over (scene_of table s caller e.tags) mode e.base e.text e.path a b other e.both jumped in
    record {
      dot = λ is. let t = h.dot is in record { target = t.0; answer = t.1; same = without_name s caller last.Dot not_dot table a t.0 is t.2 };
      dot_dot = λ is. let t = h.dot_dot is in record { target = t.0; answer = t.1; same = without_name s caller last.DotDot not_dot_dot table a t.0 is t.2 };
      root = λ is. let t = h.root in record { target = t.0; answer = t.1; same = without_name s caller last.Root not_root table a t.0 is t.2 };
    }
