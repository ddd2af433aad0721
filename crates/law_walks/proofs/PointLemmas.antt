-- Which names are those of mount points, by inodes and by host texts.
use Rattle.std.proofs.Common.{◌≡◌, ℕ, zero, suc, ◌+◌, Bool, true, false, not, cond, Option, Some, None, List, [], ◌∷◌, length, refl, ap, sym, ◌∙◌, arith, nat_lt}
use Rattle.std.specs.Prelude.{position, slice_get, ◌||◌}
use Rattle.std.specs.Bool.{Decides}
use Rattle.std.specs.List.{list_any, position_or_len}
use Rattle.std.specs.Option.{option_map_or}
use Rattle.std.proofs.lemmas.Bool.{false_from_ne_true}
use Rattle.std.proofs.lemmas.Bool.Decides.{Decides-and, Decides-eqb, nat_tests, same_from_decides}
use Rattle.std.proofs.lemmas.Option.{slice_get-map}
use Rattle.std.proofs.lemmas.Slice.Eq.{bytes_eq-Decides}
use Rattle.pt_canon.specs.pr_base.MountText.{MountText}
use Rattle.pt_canon.specs.pr_base.Texts.{Text, texts_eq}
use Rattle.pt_canon.proofs.pr_base.TextLemmas.{texts_same, texts_true}
use Rattle.pt_canon.specs.pt_bind.Binding.{host_of, is_point, located}
use Rattle.kr_mounts.specs.kr_tree.declared.place.Host.TheVariants.{Node, Proc}
use Rattle.kr_mounts.specs.kr_tree.declared.place.ProcAt.{ProcAt}
use Rattle.kr_mounts.specs.kr_tree.Names.{named}
use Rattle.kr_mounts.specs.kr_tree.Tree.{Tree, body_is, is_directory}
use Rattle.kr_mounts.proofs.kr_tree.EntryLemmas.{named_once, reached-named}
use Rattle.kr_mounts.proofs.kr_tree.NameLemmas.{map_some, some_is}
use Rattle.kr_mounts.specs.kr_view.Component.{Namespace}
use Rattle.kr_mounts.specs.kr_view.View.{Point, Row, covered, is_name_at, is_there, row, stands_at}
use Rattle.kr_mounts.proofs.kr_view.HostReachLemmas.{named_alone}
use Rattle.kr_mounts.specs.Standing.{texts_of}
use Rattle.law_walks.specs.Handed.{CoveredNamesArePoints}
use Rattle.law_walks.specs.Settled.{IsPointNamed, IsSettled, host_text}
use Rattle.law_walks.specs.Standing.{reached_in}
use Rattle.law_walks.proofs.StandingLemmas.{node_reached}
use Rattle.law_walks.proofs.TableLemmas.{mount_below, position_alike, text_at}

-- ---- whether any passes

any_at : (p : MountText → Bool) (xs : List MountText) (k : ℕ) (x : MountText) → slice_get xs k ≡ Some x → p x ≡ true → list_any p xs ≡ true
any_at p [] k x there passes = absurd cc
any_at p (y ∷ xs) zero x there passes = ap (λ b. b || list_any p xs) (ap p (some_is y x there) ∙ passes)
any_at p (y ∷ xs) (suc k) x there passes = by (p y) (any_at p xs k x there passes)
  where
    by : (b : Bool) → list_any p xs ≡ true → (b || list_any p xs) ≡ true
    by true h = refl
    by false h = h

any_none : (p : MountText → Bool) (xs : List MountText) → ((k : ℕ) (x : MountText) → slice_get xs k ≡ Some x → p x ≡ false) → list_any p xs ≡ false
any_none p [] fails = refl
any_none p (y ∷ xs) fails = ap (λ b. b || list_any p xs) (fails 0 y refl) ∙ any_none p xs (λ k x there. fails (suc k) x there)

there_where : (b : Bool) (n : ℕ) → is_there (cond b (Some n) None) ≡ b
there_where true n = refl
there_where false n = refl

one_later : (n m : ℕ) → nat_lt (1 + n) (suc m) ≡ nat_lt n m
one_later n m = grind (arith, nat_tests)

any_first : (p : MountText → Bool) (xs : List MountText) → is_there (position p xs) ≡ list_any p xs
any_first p [] = refl
any_first p (y ∷ xs) =
    let n = position_or_len p xs in
    elim (p y) as (λ b. is_there (cond (nat_lt (cond (not b) (1 + n) 0) (length (y ∷ xs))) (Some (cond (not b) (1 + n) 0)) None) ≡ (b || list_any p xs)) [
      | true ↦ there_where (nat_lt 0 (length (y ∷ xs))) 0 ∙ grind (arith, nat_tests)
      | false ↦ there_where (nat_lt (1 + n) (length (y ∷ xs))) (1 + n) ∙ one_later n (length xs) ∙ sym (there_where (nat_lt n (length xs)) n) ∙ any_first p xs
    ]

module _ (space : Namespace) (set : IsSettled space) where
  abbrev table : List Row
  table = space.table

  abbrev bindings : List MountText
  bindings = texts_of space.table

  abbrev tree : Tree
  tree = space.tree

  abbrev has_point : Text → MountText → Bool
  has_point text row = option_map_or (texts_eq text) row.point false

  -- where a mount is located below a text, its name there is a point's
  pub located_is_point : (name : List ℕ) (t : Text) (k : ℕ) → located bindings (name ∷ t) ≡ Some k → is_point bindings (name ∷ host_of bindings t) ≡ true
  located_is_point name t k is =
      let b = mount_below space set name t k is in
      let s = set.points k b.mount b.point b.there b.stands in
      let heads : b.point.name ∷ s.up ≡ name ∷ t = sym {b = b.point.name ∷ s.up} s.location ∙ b.at in
      let up : s.up ≡ t = cc in
      let text : b.point.name ∷ host_of bindings s.up ≡ name ∷ host_of bindings t = ap (λ n. n ∷ host_of bindings s.up) b.called ∙ ap (λ u. name ∷ host_of bindings u) up in
      any_at (has_point (name ∷ host_of bindings t)) bindings k b.mount.text (text_at table k b.mount b.there)
      (ap (λ o. option_map_or (texts_eq (name ∷ host_of bindings t)) o false) s.text ∙ texts_true (name ∷ host_of bindings t) (b.point.name ∷ host_of bindings s.up) (sym text))

  -- a row without a point has no text of one
  no_point_text : (k : ℕ) (r : Row) (text : Text) → row table k ≡ Some r → r.point ≡ None → has_point text r.text ≡ false
  no_point_text k r text there none = by r.text.point (set.mounts.lawful.text_point k r there ∙ ap is_there none)
    where
      by : (o : Option Text) → is_there o ≡ false → option_map_or (texts_eq text) o false ≡ false
      by None h = refl
      by (Some u) h = absurd cc

  -- ---- in a directory of the tree

  module _ (i : ℕ) (name : List ℕ) (t : Text) (names : named tree (host_of bindings t) ≡ Some i) (is_dir : body_is is_directory tree i ≡ true) where
    point_alike : (k : ℕ) (r : Row) (p : Point) → row table k ≡ Some r → r.point ≡ Some p → (s : IsPointNamed space r p) → is_name_at i name p ≡ texts_eq (name ∷ host_of bindings t) (p.name ∷ host_of bindings s.up)
    point_alike k r p there stands s =
        let one : Decides (is_name_at i name p) ((p.dir ≡ i) × (p.name ≡ name)) = Decides-and _ _ (Decides-eqb p.dir i) (bytes_eq-Decides p.name name) in
        let own : Text = p.name ∷ host_of bindings s.up in
        let text : Text = name ∷ host_of bindings t in
        same_from_decides {P = (p.dir ≡ i) × (p.name ≡ name)} (is_name_at i name p) (texts_eq text own) one (
          (λ same.
              let heads : name ∷ host_of bindings t ≡ p.name ∷ host_of bindings s.up = texts_same text own same in
              let called : name ≡ p.name = cc in
              let up : host_of bindings t ≡ host_of bindings s.up = cc in
              (some_is p.dir i (sym s.dir ∙ ap (named tree) (sym up) ∙ names), sym called)),
          (λ both.
              let up : host_of bindings s.up ≡ host_of bindings t = named_once tree set.sound (host_of bindings s.up) (host_of bindings t) i (s.dir ∙ ap Some both.0) names is_dir in
              texts_true text own (sym (ap (λ n. n ∷ host_of bindings s.up) both.1 ∙ ap (λ h. name ∷ h) up))),
        )

    row_alike : (k : ℕ) (r : Row) → row table k ≡ Some r → stands_at (is_name_at i name) r ≡ has_point (name ∷ host_of bindings t) r.text
    row_alike k r there = by r.point refl
      where
        by : (o : Option Point) → r.point ≡ o → stands_at (is_name_at i name) r ≡ has_point (name ∷ host_of bindings t) r.text
        by None e = ap (λ o. option_map_or (is_name_at i name) o false) e ∙ sym (no_point_text k r (name ∷ host_of bindings t) there e)
        by (Some p) e =
            let s = set.points k r p there e in
            ap (λ o. option_map_or (is_name_at i name) o false) e ∙ point_alike k r p there e s ∙ sym (ap (λ o. option_map_or (texts_eq (name ∷ host_of bindings t)) o false) s.text)

    covered_is_point : covered table i name ≡ is_point bindings (name ∷ host_of bindings t)
    covered_is_point =
        ap is_there (position_alike (stands_at (is_name_at i name)) (has_point (name ∷ host_of bindings t)) table row_alike) ∙ any_first (has_point (name ∷ host_of bindings t)) bindings

  -- ---- in the process directory

  process_no_point : (t : Text) (i : ℕ) (at : ProcAt) (name : List ℕ) → reached_in space (host_of bindings t) ≡ Some (Proc i at) → is_point bindings (name ∷ host_of bindings t) ≡ false
  process_no_point t i at name way = any_none (has_point text) bindings each
    where
      text : Text
      text = name ∷ host_of bindings t

      of_row : (k : ℕ) (r : Row) → row table k ≡ Some r → (o : Option Point) → r.point ≡ o → has_point text r.text ≡ false
      of_row k r there None e = no_point_text k r text there e
      of_row k r there (Some p) e =
          let s = set.points k r p there e in
          let apart : texts_eq text (p.name ∷ host_of bindings s.up) ≡ false = false_from_ne_true _ (λ same.
          let heads : name ∷ host_of bindings t ≡ p.name ∷ host_of bindings s.up = texts_same text (p.name ∷ host_of bindings s.up) same in
          let up : host_of bindings t ≡ host_of bindings s.up = cc in
          let clash : Proc i at ≡ Node p.dir = named_alone tree space.user space.finds (host_of bindings t) p.dir (Proc i at) (ap (named tree) up ∙ s.dir) way in cc) in
          ap (λ o. option_map_or (texts_eq text) o false) s.text ∙ apart

      each : (k : ℕ) (x : MountText) → slice_get bindings k ≡ Some x → has_point text x ≡ false
      each k x there =
          let r = map_some (λ (r : Row). r.text) (row table k) x (sym (slice_get-map (λ (r : Row). r.text) table k) ∙ there) in
          ap (has_point text) (sym r.2) ∙ of_row k r.0 r.1 r.0.point refl

pub covered_names_are_points : CoveredNamesArePoints
covered_names_are_points = record {
  inode = λ space t i name set way is_dir. covered_is_point space set i name t (reached-named space.tree space.user (host_text space t) i (node_reached space set (host_text space t) i way)) is_dir;
  process = λ space t i at name set way. process_no_point space set t i at name way;
}
