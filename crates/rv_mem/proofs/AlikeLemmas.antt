-- Memories that are equal but for marked bytes stay so when pages are mapped, unmapped or given other rights.
use Rattle.std.specs.FinMap as map
use Rattle.std.proofs.Common.{◌≡◌, ◌≢◌, inl, inr, ℕ, zero, suc, ◌+◌, ◌/◌, ◌%◌, Bool, false, refl, sym, ap, ◌∙◌, Option, Some, None}
use Rattle.std.specs.Prelude.{slice_index, slice_index_or}
use Rattle.std.specs.Option.{option_map, option_map_or}
use Rattle.std.proofs.lemmas.Bool.{cases_eq}
use Rattle.rv_table.proofs.pr_base.MapLemmas.{by_key, get-insert_same, get-insert_other, get-remove_same, get-remove_other, get-changed_same, get-changed_other}
use Rattle.rv_mem.specs.declared.rights.Rights.{Rights}
use Rattle.rv_mem.specs.Page.{PageState, fresh_page, page_with_rights}
use Rattle.rv_mem.specs.Pages.{Pages, mapped, unmapped, protected, with_page, IsWhole}
use Rattle.rv_mem.specs.Actions.{AreEqualUnmarked}
use Rattle.rv_mem.specs.Layout.{StayEqualUnmarked}
use Rattle.rv_mem.proofs.ActionLemmas.{AreEqualUnmarked-written}
use Rattle.rv_mem.proofs.SpaceLemmas.{IsWhole-mapped, IsWhole-unmapped, IsWhole-protected}
use Rattle.rv_mem.proofs.LayoutLemmas.{layout_alike}

-- what stands at an address, by its page
abbrev byte_in : Option PageState → ℕ → ℕ
byte_in o a = option_map_or (λ p. slice_index p.bytes (a % 4096)) o 0

abbrev marked_in : Option PageState → ℕ → Bool
marked_in o a = option_map_or (λ p. slice_index_or p.marks (a % 4096) false) o false

abbrev rights_in : Option PageState → Option Rights
rights_in o = option_map (λ p. p.rights) o

-- two memories after one page of each was changed
module _ (m w m' w' : Pages) (k : ℕ) (same : AreEqualUnmarked m w)
    (left : (q : ℕ) → q ≢ k → map.get m' q ≡ map.get m q) (right : (q : ℕ) → q ≢ k → map.get w' q ≡ map.get w q)
    (rights : rights_in (map.get m' k) ≡ rights_in (map.get w' k))
    (here : (a : ℕ) → a / 4096 ≡ k → marked_in (map.get m' k) a ≡ false → byte_in (map.get m' k) a ≡ byte_in (map.get w' k) a)
    (whole : IsWhole m') (other_whole : IsWhole w') where
  bytes_after : (a : ℕ) → marked_in (map.get m' (a / 4096)) a ≡ false → byte_in (map.get m' (a / 4096)) a ≡ byte_in (map.get w' (a / 4096)) a
  bytes_after a unmarked = elim (cases_eq (a / 4096) k) [
    | inl e ↦
        ap (λ q. byte_in (map.get m' q) a) e ∙ here a e (ap (λ q. marked_in (map.get m' q) a) (sym e) ∙ unmarked) ∙ ap (λ q. byte_in (map.get w' q) a) (sym e)
    | inr d ↦
        ap (λ o. byte_in o a) (left (a / 4096) d)
        ∙ same.bytes a (ap (λ o. marked_in o a) (sym (left (a / 4096) d)) ∙ unmarked)
        ∙ ap (λ o. byte_in o a) (sym (right (a / 4096) d))
  ]

  one_changed : AreEqualUnmarked m' w'
  one_changed = record {
    rights = by_key (λ q. rights_in (map.get m' q) ≡ rights_in (map.get w' q)) k rights
        (λ q d. ap rights_in (left q d) ∙ same.rights q ∙ ap rights_in (sym (right q d)));
    bytes = bytes_after;
    whole = whole;
    other_whole = other_whole;
  }

alike_mapped : (m w : Pages) (first n : ℕ) (r : Rights) → AreEqualUnmarked m w → AreEqualUnmarked (mapped m first n r) (mapped w first n r)
unfolding mapped
alike_mapped m w first zero r same = same
alike_mapped m w first (suc n) r same =
    let before = alike_mapped m w first n r same in
    let p = fresh_page r in
    let is = get-insert_same (mapped m first n r) (first + n) p ∙ sym (get-insert_same (mapped w first n r) (first + n) p) in
    one_changed (mapped m first n r) (mapped w first n r) (map.insert (mapped m first n r) (first + n) p) (map.insert (mapped w first n r) (first + n) p) (first + n) before
    (get-insert_other (mapped m first n r) (first + n) p) (get-insert_other (mapped w first n r) (first + n) p)
    (ap rights_in is) (λ a e u. ap (λ o. byte_in o a) is)
    (IsWhole-mapped m first (suc n) r same.whole) (IsWhole-mapped w first (suc n) r same.other_whole)

alike_unmapped : (m w : Pages) (first n : ℕ) → AreEqualUnmarked m w → AreEqualUnmarked (unmapped m first n) (unmapped w first n)
unfolding unmapped
alike_unmapped m w first zero same = same
alike_unmapped m w first (suc n) same =
    let before = alike_unmapped m w first n same in
    let is = get-remove_same (unmapped m first n) (first + n) ∙ sym (get-remove_same (unmapped w first n) (first + n)) in
    one_changed (unmapped m first n) (unmapped w first n) (map.remove (unmapped m first n) (first + n)) (map.remove (unmapped w first n) (first + n)) (first + n) before
    (get-remove_other (unmapped m first n) (first + n)) (get-remove_other (unmapped w first n) (first + n))
    (ap rights_in is) (λ a e u. ap (λ o. byte_in o a) is)
    (IsWhole-unmapped m first (suc n) same.whole) (IsWhole-unmapped w first (suc n) same.other_whole)

rights_given : (r : Rights) (o : Option PageState) → rights_in (option_map (page_with_rights r) o) ≡ option_map (λ _. r) (rights_in o)
rights_given r None = refl
rights_given r (Some p) = refl

byte_kept : (r : Rights) (o : Option PageState) (a : ℕ) → byte_in (option_map (page_with_rights r) o) a ≡ byte_in o a
byte_kept r None a = refl
byte_kept r (Some p) a = refl

mark_kept : (r : Rights) (o : Option PageState) (a : ℕ) → marked_in (option_map (page_with_rights r) o) a ≡ marked_in o a
mark_kept r None a = refl
mark_kept r (Some p) a = refl

alike_protected : (m w : Pages) (first n : ℕ) (r : Rights) → AreEqualUnmarked m w → AreEqualUnmarked (protected m first n r) (protected w first n r)
unfolding protected
alike_protected m w first zero r same = same
alike_protected m w first (suc n) r same =
    let before = alike_protected m w first n r same in
    let k = first + n in
    let x : Pages = protected m first n r in
    let y : Pages = protected w first n r in
    let f : PageState → PageState = page_with_rights r in
    let given = get-changed_same x k f in
    let others = get-changed_same y k f in
    one_changed x y (with_page x k f) (with_page y k f) k before
    (λ q d. get-changed_other x k f q d) (λ q d. get-changed_other y k f q d)
    (ap rights_in given ∙ rights_given r (map.get x k) ∙ ap (option_map (λ _. r)) (before.rights k) ∙ sym (rights_given r (map.get y k)) ∙ ap rights_in (sym others))
    (λ a e u.
    let unmarked : marked_in (map.get x (a / 4096)) a ≡ false = ap (λ q. marked_in (map.get x q) a) e ∙ sym (mark_kept r (map.get x k) a) ∙ ap (λ o. marked_in o a) (sym given) ∙ u in
    ap (λ o. byte_in o a) given ∙ byte_kept r (map.get x k) a ∙ ap (λ q. byte_in (map.get x q) a) (sym e)
    ∙ before.bytes a unmarked
    ∙ ap (λ q. byte_in (map.get y q) a) e ∙ sym (byte_kept r (map.get y k) a) ∙ ap (λ o. byte_in o a) (sym others))
    (IsWhole-protected m first (suc n) r same.whole) (IsWhole-protected w first (suc n) r same.other_whole)

pub stay_alike : (m w : Pages) → AreEqualUnmarked m w → StayEqualUnmarked m w
stay_alike m w same = record {
  layout = layout_alike m w same;
  maps = λ first n r. alike_mapped m w first n r same;
  unmaps = λ first n. alike_unmapped m w first n same;
  protects = λ first n r. alike_protected m w first n r same;
  writes = λ at bytes. AreEqualUnmarked-written bytes m w same at;
}
