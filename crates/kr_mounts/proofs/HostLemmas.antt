-- The texts of places to which names lead.
use Rattle.std.proofs.Common.{◌≡◌, ◌≢◌, ◌<◌, ℕ, Bool, true, false, cond, List, [], ◌∷◌, length, get_or, Option, Some, None, slice_get, nat_lt, refl, ap, sym, subst, ◌∙◌, arith}
use Rattle.std.specs.Prelude.{position}
use Rattle.std.specs.List.{position_or_len}
use Rattle.std.specs.Option.{option_map, option_map_or, option_and_then}
use Rattle.std.proofs.lemmas.Bool.Decides.{nat_tests}
use Rattle.std.proofs.lemmas.List.Quantifiers.{position-Some}
use Rattle.std.proofs.lemmas.List.Sums.{fails_before_first}
use Rattle.std.proofs.lemmas.Option.{get_or_from_slice_get, slice_get-get_or, slice_get-map, slice_get_within}
use Rattle.pt_bind.specs.pr_base.MountText.{MountText}
use Rattle.pt_bind.specs.pr_base.Texts.{Text}
use Rattle.pt_bind.proofs.pr_base.TextLemmas.{texts_same, texts_true}
use Rattle.pt_bind.specs.Binding.{host_at, host_of, is_located, located, number_at, owner, source_of}
use Rattle.kr_walk.specs.kr_tree.declared.place.Host.{Host}
use Rattle.kr_walk.specs.kr_tree.declared.place.Host.TheVariants.{Node, Proc}
use Rattle.kr_walk.specs.kr_tree.declared.place.Place.{Place}
use Rattle.kr_walk.specs.kr_tree.Names.{named}
use Rattle.kr_walk.specs.kr_tree.Tree.{Tree, entry}
use Rattle.kr_walk.proofs.kr_tree.NameLemmas.{map_some, some_is, then_some}
use Rattle.kr_walk.specs.kr_view.View.{Row, down, is_point, node_in, plain_row, root_place, row, source_place, stands_at}
use Rattle.kr_mounts.specs.Standing.{behind, led, next_by_name, texts_of}
use Rattle.kr_mounts.proofs.StandLemmas.{IsNamed, Stands, located_at, named_where, point_found, root_source_is, root_there}
use Rattle.kr_mounts.proofs.WayLemmas.{node_number}

-- where no row passes a test
none_passes : (p : MountText → Bool) (xs : List MountText) → position p xs ≡ None → (k : ℕ) (x : MountText) → slice_get xs k ≡ Some x → p x ≡ false
none_passes p xs none k x there =
    let within = slice_get_within xs k x there in
    let fails : p (get_or xs k x) ≡ false = fails_before_first p xs k x (far (position_or_len p xs) (length xs) k (past (nat_lt (position_or_len p xs) (length xs)) (position_or_len p xs) none) within) in
    ap p (sym (get_or_from_slice_get xs k x x there)) ∙ fails
  where
    past : (b : Bool) (n : ℕ) → ◌≡◌ {A = Option ℕ} (cond b (Some n) None) None → b ≡ false
    past true n h = absurd cc
    past false n h = refl

    far : (n len k : ℕ) → nat_lt n len ≡ false → k < len → k < n
    far n len k h l = grind (arith, nat_tests)

module _ (t : Tree) (table : List Row) (s : Stands t table) where
  abbrev texts : List MountText
  texts = texts_of table

  text_at : (k : ℕ) (r : Row) → row table k ≡ Some r → slice_get texts k ≡ Some r.text
  text_at k r there = slice_get-map (λ (r : Row). r.text) table k ∙ ap (option_map (λ (r : Row). r.text)) there

  located_some : (text : Text) (k : ℕ) → located texts text ≡ Some k → (r : Row) × (row table k ≡ Some r) × (r.text.location ≡ text)
  located_some text k h =
      let f = position-Some (is_located text) texts k plain_row.text h in
      let x = get_or texts k plain_row.text in
      let r = map_some (λ (r : Row). r.text) (row table k) x (sym (slice_get-map (λ (r : Row). r.text) table k) ∙ slice_get-get_or texts k plain_row.text f.0) in
      (r.0, r.1, ap (λ (x : MountText). x.location) r.2 ∙ texts_same x.location text f.1)

  located_none : (text : Text) → located texts text ≡ None → (k : ℕ) (r : Row) → row table k ≡ Some r → r.text.location ≢ text
  located_none text none k r there same =
      let clash : true ≡ false = sym (texts_true r.text.location text same) ∙ none_passes (is_located text) texts none k r.text (text_at k r there) in
      let no : ⊥ = cc in no

  source_text : (k : ℕ) (r : Row) → row table k ≡ Some r → source_of texts k ≡ r.text.source
  source_text k r there = ap (λ o. option_map_or (λ (x : MountText). x.source) o []) (text_at k r there)

  -- a text belongs to the mount to which it leads, and its host text leads to the same
  abbrev Follows : Text → Place ℕ → Type 0
  Follows text q = (owner texts text ≡ q.mount) × (named t (host_of texts text) ≡ Some (node_number q.host))

  entry_follows : (name : List ℕ) (text : Text) (q0 : Place ℕ) (d0 : ℕ) → q0.host ≡ Node d0 → Follows text q0 → IsNamed t table q0.mount d0 text → located texts (name ∷ text) ≡ None → (o : Option (Place ℕ)) → down table q0.mount d0 name ≡ o
      → (q : Place ℕ) → behind q0.mount (entry t d0 name) o ≡ Some q → Follows (name ∷ text) q
  entry_follows name text q0 d0 at before is none None e q h =
      let i = map_some (node_in q0.mount) (entry t d0 name) q h in
      let P : Place ℕ → Type 0 = Follows (name ∷ text) in
      let host : named t (host_of texts text) ≡ Some d0 = before.1 ∙ ap (λ h. Some (node_number h)) at in
      subst P i.2 (
        ap (λ o. number_at o (owner texts text)) none ∙ before.0,
        ap (λ o. named t (host_at texts o (name ∷ host_of texts text))) none ∙ ap (option_and_then (λ dir. entry t dir name)) host ∙ i.1,
      )
  entry_follows name text q0 d0 at before is none (Some p) e q h =
      let k = then_some (source_place table) (position (stands_at (is_point q0.mount d0 name)) table) p e in
      let found = point_found table q0.mount d0 name k.0 k.1 in
      absurd (located_none (name ∷ text) none k.0 found.0 found.1 (located_at t table s k.0 found.0 q0.mount d0 name text found.1 found.2 is).0)

  host_follows : (name : List ℕ) (text : Text) (q0 : Place ℕ) → Follows text q0 → IsNamed t table q0.mount (node_number q0.host) text → located texts (name ∷ text) ≡ None → (h : Host) → q0.host ≡ h → (q : Place ℕ)
      → next_by_name table t name q0.mount h ≡ Some q → Follows (name ∷ text) q
  host_follows name text q0 before is none (Node d0) e q h =
      let P : Host → Type 0 = λ h. IsNamed t table q0.mount (node_number h) text in
      entry_follows name text q0 d0 e before (subst P e is) none (down table q0.mount d0 name) refl q h
  host_follows name text q0 before is none (Proc i at) e q h = absurd cc

  name_follows : (name : List ℕ) (text : Text) (q0 : Place ℕ) → Follows text q0 → IsNamed t table q0.mount (node_number q0.host) text → (q : Place ℕ) → next_by_name table t name q0.mount q0.host ≡ Some q → led table t (name ∷ text) ≡ Some q
      → (o : Option ℕ) → located texts (name ∷ text) ≡ o → Follows (name ∷ text) q
  name_follows name text q0 before is q step whole (Some k) e =
      let r = located_some (name ∷ text) k e in
      let same : node_in k r.0.source ≡ q = some_is (node_in k r.0.source) q (sym (s.are_led k r.0 r.1) ∙ ap (led table t) r.2 ∙ whole) in
      let P : Place ℕ → Type 0 = Follows (name ∷ text) in
      subst P same (
        ap (λ o. number_at o (owner texts text)) e,
        ap (λ o. named t (host_at texts o (name ∷ host_of texts text))) e ∙ ap (named t) (source_text k r.0 r.1) ∙ (s.sources k r.0 r.1).leads,
      )
  name_follows name text q0 before is q step whole None e = host_follows name text q0 before is e q0.host refl q step

  pub follows : (text : Text) (q : Place ℕ) → led table t text ≡ Some q → Follows text q
  follows [] q h =
      let P : Place ℕ → Type 0 = Follows [] in
      subst P (some_is (root_place table) q h) (refl, ap (named t) (source_text 0 s.guest (root_there t table s)) ∙ (s.sources 0 s.guest (root_there t table s)).leads ∙ ap Some (sym (root_source_is t table s)))
  follows (name ∷ text) q h =
      let up = then_some (λ (p : Place ℕ). next_by_name table t name p.mount p.host) (led table t text) q h in
      name_follows name text up.0 (follows text up.0 up.1) (named_where t table s text up.0 up.1) q up.2 h (located texts (name ∷ text)) refl
