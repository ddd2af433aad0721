-- What processes compute on in two states that match, as lists and by the numbers of processes; and what mounts hold.
use Rattle.std.proofs.Common.{◌≡◌, ◌<◌, ◌≤◌, ℕ, zero, suc, Bool, true, false, cond, List, [], ◌∷◌, Option, Some, None, refl, sym, ap, subst, ◌∙◌, arith, eq-eqb}
use Rattle.std.specs.Prelude.{◌==◌, ◌||◌, map as map_list, nat_eq}
use Rattle.std.specs.List.{find, list_any}
use Rattle.std.specs.Option.{option_map, option_map_or}
use Rattle.std.proofs.lemmas.Bool.{eqb-true}
use Rattle.std.proofs.lemmas.Option.{same_Some}
use Rattle.pt_results.specs.rv_mem.Actions.{AreEqualUnmarked}
use Rattle.pt_results.specs.rv_mem.declared.regs.Regs.{Regs}
use Rattle.kr_core.specs.kr_tree.Tree.{Tree, Inode, root}
use Rattle.kr_core.specs.kr_tree.Changes.{counted}
use Rattle.kr_core.specs.kr_tree.Holds.{names_at}
use Rattle.kr_core.specs.kr_tree.Lawful.{IsKept}
use Rattle.kr_core.specs.kr_tree.Names.{named}
use Rattle.kr_core.proofs.kr_tree.EntryLemmas.{reached-named}
use Rattle.law_places.specs.kr_view.View.{Row, plain, row}
use Rattle.law_places.specs.kr_model.Applied.{child_regs}
use Rattle.law_places.specs.kr_model.Bare.{ArePinned, bare_process, pins_of}
use Rattle.law_places.specs.kr_model.Images.{AreAlike, IsInherited, computed, computed_all}
use Rattle.law_places.specs.kr_model.Lawful.{IsLawful, RiseFrom}
use Rattle.law_places.specs.kr_model.State.{Image, Process, State, image_layout, is_pid}
use Rattle.law_places.proofs.kr_model.ShapeLemmas.{reached_named}
use Rattle.kr_core.proofs.law_lawful.SumLemmas.{other-test}
use Rattle.law_places.specs.Matching.{AreImagesAlike, IsMatch}
use Rattle.law_places.specs.Standing.{PlacesStand}
use Rattle.law_turns.proofs.MatchLemmas.{pids_in}

-- ---- equal registers

abbrev pub AreSame : Regs → Regs → Type 0
AreSame x y = x ≡ y

pub same_inherited : IsInherited AreSame
same_inherited = record { born = λ sp x y e. ap (child_regs sp) e; same = λ x. refl }

-- ---- from numbers to lists

same_head : {A : Type 0} {x y : A} {xs ys : List A} → x ∷ xs ≡ y ∷ ys → x ≡ y
same_head e = cc

same_tail : {A : Type 0} {x y : A} {xs ys : List A} → x ∷ xs ≡ y ∷ ys → xs ≡ ys
same_tail e = cc

-- what is found under each number from one on
pub record FoundFrom (low : ℕ) (xs ys : List (Process ℕ Image)) : Type 0 where
  pub registers : (k : ℕ) → low ≤ k → option_map (λ p. p.image.regs) (find (is_pid k) xs) ≡ option_map (λ p. p.image.regs) (find (is_pid k) ys)
  pub memories : (k : ℕ) → low ≤ k → (p q : Process ℕ Image) → find (is_pid k) xs ≡ Some p → find (is_pid k) ys ≡ Some q → AreEqualUnmarked p.image.memory.pages q.image.memory.pages

alike_lists : (low next : ℕ) (xs ys : List (Process ℕ Image)) → RiseFrom low next (pids_in xs) → map_list (bare_process image_layout) xs ≡ map_list (bare_process image_layout) ys → FoundFrom low xs ys → AreAlike AreSame (map_list computed xs) (map_list computed ys)
alike_lists low next [] [] rise bares found = tt
alike_lists low next [] (y ∷ ys) rise bares found = absurd (never bares)
  where
    never : {A : Type 0} {a : A} {more : List A} → [] ≡ a ∷ more → ⊥
    never e = cc
alike_lists low next (x ∷ xs) [] rise bares found = absurd (never bares)
  where
    never : {A : Type 0} {a : A} {more : List A} → a ∷ more ≡ [] → ⊥
    never e = cc
alike_lists low next (x ∷ xs) (y ∷ ys) rise bares found =
    let heads = same_head bares in
    let pid : x.pid ≡ y.pid = ap (λ b. b.pid) heads in (
      record { pids = pid; parents = ap (λ b. b.parent) heads; regs = here pid; memory = found.memories x.pid rise.0 x y (first_found pid).0 (first_found pid).1 },
      alike_lists (suc x.pid) next xs ys rise.2 (same_tail bares) (behind pid),
    )
  where
    first_found : x.pid ≡ y.pid → (find (is_pid x.pid) (x ∷ xs) ≡ Some x) × (find (is_pid x.pid) (y ∷ ys) ≡ Some y)
    first_found pid = (ap (λ b. cond b (Some x) (find (is_pid x.pid) xs)) (eq-eqb x.pid x.pid refl), ap (λ b. cond b (Some y) (find (is_pid x.pid) ys)) (eq-eqb y.pid x.pid (sym pid)))

    here : x.pid ≡ y.pid → x.image.regs ≡ y.image.regs
    here pid = same_Some _ _ (sym (ap (option_map (λ p. p.image.regs)) (first_found pid).0) ∙ found.registers x.pid rise.0 ∙ ap (option_map (λ p. p.image.regs)) (first_found pid).1)

    past : (k : ℕ) → suc x.pid ≤ k → find (is_pid k) (x ∷ xs) ≡ find (is_pid k) xs
    past k above = ap (λ b. cond b (Some x) (find (is_pid k) xs)) (other-test x.pid k (λ e. absurd (omega (arith, e, above))))

    past_other : x.pid ≡ y.pid → (k : ℕ) → suc x.pid ≤ k → find (is_pid k) (y ∷ ys) ≡ find (is_pid k) ys
    past_other pid k above = ap (λ b. cond b (Some y) (find (is_pid k) ys)) (other-test y.pid k (λ e. absurd (omega (arith, e, above, pid))))

    behind : x.pid ≡ y.pid → FoundFrom (suc x.pid) xs ys
    behind pid = record {
      registers = λ k above. let low_is = rise.0 in sym (ap (option_map (λ p. p.image.regs)) (past k above)) ∙ found.registers k (omega (arith, above, low_is)) ∙ ap (option_map (λ p. p.image.regs)) (past_other pid k above);
      memories = λ k above p q at_p at_q. let low_is = rise.0 in found.memories k (omega (arith, above, low_is)) p q (past k above ∙ at_p) (past_other pid k above ∙ at_q);
    }

pub alike_all : (table : List Row) (tags : _) (s w : State ℕ Image) → IsMatch table tags s w → AreAlike AreSame (computed_all s) (computed_all w)
alike_all table tags s w m = alike_lists 2 s.next_pid s.living w.living m.placed.lawful.pids.living (ap (λ b. b.living) m.bares) (record { registers = λ k above. m.images.registers k; memories = λ k above. m.images.memories k })

-- ---- and back

abbrev Both : Option (Process ℕ Image) → Option (Process ℕ Image) → Type 0
Both a b = (option_map (λ p. p.image.regs) a ≡ option_map (λ p. p.image.regs) b) × ((p q : Process ℕ Image) → a ≡ Some p → b ≡ Some q → AreEqualUnmarked p.image.memory.pages q.image.memory.pages)

found_both : (k : ℕ) (xs ys : List (Process ℕ Image)) → AreAlike AreSame (map_list computed xs) (map_list computed ys) → Both (find (is_pid k) xs) (find (is_pid k) ys)
found_both k [] [] alike = (refl, λ p q at_p at_q. absurd (never at_p))
  where
    never : {A : Type 0} {a : A} → None ≡ Some a → ⊥
    never e = cc
found_both k [] (y ∷ ys) alike = absurd alike
found_both k (x ∷ xs) [] alike = absurd alike
found_both k (x ∷ xs) (y ∷ ys) alike = by (x.pid == k) (y.pid == k) (ap (λ n. n == k) alike.0.pids) (found_both k xs ys alike.1)
  where
    by : (b c : Bool) → b ≡ c → Both (find (is_pid k) xs) (find (is_pid k) ys) → Both (cond b (Some x) (find (is_pid k) xs)) (cond c (Some y) (find (is_pid k) ys))
    by true true e rest = (ap Some alike.0.regs, λ p q at_p at_q. subst (λ (z : Process ℕ Image). AreEqualUnmarked z.image.memory.pages q.image.memory.pages) (same_Some _ _ at_p) (subst (λ (z : Process ℕ Image). AreEqualUnmarked x.image.memory.pages z.image.memory.pages) (same_Some _ _ at_q) alike.0.memory))
    by false false e rest = rest
    by true false e rest = absurd (differ e)
      where
        differ : true ≡ false → ⊥
        differ e = cc
    by false true e rest = absurd (differ e)
      where
        differ : false ≡ true → ⊥
        differ e = cc

pub images_alike : (s w : State ℕ Image) → AreAlike AreSame (computed_all s) (computed_all w) → AreImagesAlike s w
images_alike s w alike = record { registers = λ k. (found_both k s.living w.living alike).0; memories = λ k p q at_p at_q. (found_both k s.living w.living alike).1 p q at_p at_q }

-- ---- the sources of mounts

any_row : (test : Row → Bool) (table : List Row) → list_any test table ≡ true → (k : ℕ) × (r : Row) × (row table k ≡ Some r) × (test r ≡ true)
any_row test [] is = absurd (never is)
  where
    never : false ≡ true → ⊥
    never e = cc
any_row test (r ∷ table) is = by (λ is. any_row test table is) (test r) refl is
  where
    by : (list_any test table ≡ true → (k : ℕ) × (q : Row) × (row table k ≡ Some q) × (test q ≡ true)) → (b : Bool) → test r ≡ b → (b || list_any test table) ≡ true
        → (k : ℕ) × (q : Row) × (row (r ∷ table) k ≡ Some q) × (test q ≡ true)
    by rest true here is = (0, r, refl, here)
    by rest false here is = let more = rest is in (suc more.0, more.1, more.2, more.3)

counted_some : (b : Bool) → 0 < counted b → b ≡ true
counted_some true l = refl
counted_some false l = absurd (omega (arith, l))

names_of_named : (t : Tree) → IsKept t → (text : List (List ℕ)) (i : ℕ) → named t text ≡ Some i → 0 < names_at t i
names_of_named t kept text i is = let own = reached_named t kept text i is in subst (λ o. 0 < option_map_or (λ (x : Inode). x.names) o 0) (sym own.there) own.some

pub pinned_sources : (table : List Row) (s : State ℕ Image) → PlacesStand table s → ArePinned (pins_of table) s.tree
pinned_sources table s stand = record {
  held = λ i. let all = stand.lawful.uses.holds i in omega (arith, all);
  named = λ i some.
      let r = any_row (λ r. nat_eq r.source i) table (counted_some (list_any (λ r. nat_eq r.source i) table) some) in
      let is : r.1.source ≡ i = eqb-true r.1.source i r.3 in
      subst (λ j. 0 < names_at s.tree j) is (names_of_named s.tree stand.lawful.tree r.1.text.source r.1.source (reached-named s.tree s.user r.1.text.source r.1.source (stand.settled.sources r.0 r.1 r.2)));
}

pub pinned_root : (w : State ℕ Image) → IsLawful (λ m. m) plain w → ArePinned (pins_of plain) w.tree
pinned_root w lawful = record {
  held = λ i. let all = lawful.uses.holds i in omega (arith, all);
  named = λ i some.
      let r = any_row (λ r. nat_eq r.source i) plain (counted_some (list_any (λ r. nat_eq r.source i) plain) some) in
      let is : r.1.source ≡ i = eqb-true r.1.source i r.3 in
      let at_root : r.1.source ≡ root = source_is_root r.0 r.1 r.2 in
      subst (λ j. 0 < names_at w.tree j) (sym at_root ∙ is) (names_of_named w.tree lawful.tree [] root refl);
}
  where
    source_is_root : (k : ℕ) (r : Row) → row plain k ≡ Some r → r.source ≡ root
    source_is_root zero r at = ap (λ o. option_map_or (λ (r : Row). r.source) o root) (sym at)
    source_is_root (suc k) r at = absurd (never at)
      where
        never : {A : Type 0} {a : A} → None ≡ Some a → ⊥
        never e = cc
