-- From the slots of open files to what a contract sees.
use Rattle.std.specs.FinMap as map
use Rattle.std.proofs.Common.{◌≡◌, ◌≢◌, inl, inr, subst, ℕ, zero, suc, ◌-◌, ◌<◌, ◌≤◌, List, [], ◌∷◌, get_or, set, refl, sym, ap, ◌∙◌, arith, cond, Option, Some, None, nat_lt}
use Rattle.std.specs.Prelude.{IsSome, map as map_list}
use Rattle.std.specs.Option.{option_map, option_map_or, option_and_then}
use Rattle.std.specs.Ordering.{nat_cmp}
use Rattle.std.proofs.lemmas.Bool.{cases_eq}
use Rattle.std.proofs.lemmas.Bool.Decides.{nat_tests}
use Rattle.std.proofs.lemmas.Option.{same_Some, none-some}
use Rattle.slab.specs.Slab.{Slab, get, ContainsKey, with_value, Updates}
use Rattle.slab.proofs.SlabLemmas.{Updates-with_value}
use Rattle.kr_files.specs.declared.open_files.OpenFile.{OpenFile}
use Rattle.kr_files.specs.Files.{Counted, on_opened}
use Rattle.kr_files.specs.declared.opened.Opened.{Opened}
use Rattle.kr_files.specs.Laws.{HaveKeys, AreCounted}
use Rattle.kr_tree.specs.pr_base.Maps.{changed, mapped}
use Rattle.kr_files.specs.OpenFiles.{Store, store_of, counted, files_in, numbers_in, AreDistinct, AreStored, ChangesEach, on_file, ended_kind, with_one_less}
use Rattle.kr_tree.proofs.pr_base.MapLemmas.{some-insert, same_values, by_key, get-insert_same, get-insert_other, get-remove_same, get-remove_other, changed-some, get-mapped}
use Rattle.kr_files.proofs.SlotLemmas.{get-slots}

-- two options are the same where each value of one is that of the other
pub same_options : {X : Type 0} (o p : Option X) → ((x : X) → o ≡ Some x → p ≡ Some x) → ((x : X) → p ≡ Some x → o ≡ Some x) → o ≡ p
same_options None None f g = refl
same_options None (Some x) f g = g x refl
same_options (Some x) p f g = sym (f x refl)

pub get_or-map : {X Y : Type 0} (f : X → Y) (xs : List (Option X)) (k : ℕ) → get_or (map_list (option_map f) xs) k None ≡ option_map f (get_or xs k None)
get_or-map f [] k = refl
get_or-map f (x ∷ xs) zero = refl
get_or-map f (x ∷ xs) (suc k) = get_or-map f xs k

-- the value that is there
pub value_of : {X : Type 0} (o : Option X) → IsSome o → (x : X) × (o ≡ Some x)
value_of None some = absurd (cc)
value_of (Some x) some = (x, refl)

pub mapped_some : {X Y : Type 0} (f : X → Y) (o : Option X) (y : Y) → option_map f o ≡ Some y → (x : X) × (o ≡ Some x) × (f x ≡ y)
mapped_some f None y e = absurd (none-some y e)
mapped_some f (Some x) y e = (x, refl, same_Some (f x) y e)

more : {X : Type 0} (n : ℕ) (x y : X) → 1 < n → cond (nat_lt 1 n) x y ≡ x
more n x y h = grind (arith, nat_tests)

last : {X : Type 0} (n : ℕ) (x y : X) → n ≤ 1 → cond (nat_lt 1 n) x y ≡ y
last n x y h = grind (arith, nat_tests)

set_same : {X : Type 0} (xs : List (Option X)) (k : ℕ) (x : Option X) → get_or xs k None ≡ x → set xs k x ≡ xs
set_same [] k x e = refl
set_same (y ∷ xs) zero x e = ap (λ z. z ∷ xs) (sym e)
set_same (y ∷ xs) (suc k) x e = ap (λ zs. y ∷ zs) (set_same xs k x e)

module _ {M : Type 0} where
  -- a file put back as it was
  pub with_value_same : (s : Slab (OpenFile M)) (key : ℕ) (e : OpenFile M) → get s key ≡ Some e → with_value s key e ≡ s
  with_value_same s key e here = ap (λ xs. record s { slots = xs }) (set_same s.slots key (Some e) here)

  pub get-numbers_in : (xs : List (Option (OpenFile M))) (k : ℕ) → map.get (numbers_in xs) k ≡ option_map (λ e. e.number) (get_or xs k None)
  get-numbers_in xs k = get-slots (map_list (option_map (λ e. e.number)) xs) k ∙ get_or-map (λ e. e.number) xs k

  -- a file that is found stands in a slot
  pub slot_of : (xs : List (Option (OpenFile M))) (n : ℕ) (h : Counted M) → map.get (files_in xs) n ≡ Some h
      → (k : ℕ) × (e : OpenFile M) × (get_or xs k None ≡ Some e) × (e.number ≡ n) × (counted e ≡ h)
  slot_of [] n h found = absurd (none-some h (sym (map.get-empty nat_cmp n) ∙ found))
  slot_of (None ∷ xs) n h found =
      let later = slot_of xs n h found in
      (suc later.0, later.1, later.2, later.3, later.4)
  slot_of (Some e ∷ xs) n h found =
      elim (cases_eq n e.number) [
        | inl same ↦ (0, e, refl, sym same, same_Some (counted e) h (sym (get-insert_same (files_in xs) e.number (counted e)) ∙ ap (map.get (files_in (Some e ∷ xs))) (sym same) ∙ found))
        | inr other ↦
            let later = slot_of xs n h (sym (get-insert_other (files_in xs) e.number (counted e) n other) ∙ found) in
            (suc later.0, later.1, later.2, later.3, later.4)
      ]

  is_found : (xs : List (Option (OpenFile M))) (k : ℕ) (e : OpenFile M) → get_or xs k None ≡ Some e → IsSome (map.get (files_in xs) e.number)
  is_found [] k e here = absurd (none-some e here)
  is_found (None ∷ xs) zero e here = absurd (none-some e here)
  is_found (Some a ∷ xs) zero e here =
      let same : a ≡ e = same_Some a e here in
      subst IsSome (sym (ap (λ (x : OpenFile M). map.get (files_in (Some a ∷ xs)) x.number) (sym same) ∙ get-insert_same (files_in xs) a.number (counted a))) refl
  is_found (None ∷ xs) (suc k) e here = is_found xs k e here
  is_found (Some a ∷ xs) (suc k) e here = some-insert (files_in xs) a.number e.number (counted a) (is_found xs k e here)

  -- a file in a slot is found
  pub get-files_in : (xs : List (Option (OpenFile M))) (k : ℕ) (e : OpenFile M) → AreDistinct xs → get_or xs k None ≡ Some e → map.get (files_in xs) e.number ≡ Some (counted e)
  get-files_in xs k e distinct here =
      let some = value_of (map.get (files_in xs) e.number) (is_found xs k e here) in
      let slot = slot_of xs e.number some.0 some.1 in
      let same = distinct slot.0 k slot.1 e slot.2 here slot.3 in
      let equal = same_Some slot.1 e (sym slot.2 ∙ ap (λ q. get_or xs q None) same ∙ here) in
      some.1 ∙ ap Some (sym slot.4 ∙ ap counted equal)

  -- ---- what holds of files and keys

  module _ (xs : List (Option (OpenFile M))) (stored : AreStored xs) where
    led : (k n : ℕ) → map.get (numbers_in xs) k ≡ Some n → (e : OpenFile M) × (get_or xs k None ≡ Some e) × (e.number ≡ n)
    led k n at = mapped_some (λ (e : OpenFile M). e.number) (get_or xs k None) n (sym (get-numbers_in xs k) ∙ at)

    pub have_keys : HaveKeys (numbers_in xs) (files_in xs)
    have_keys = record {
      leads = λ k n at.
          let e = led k n at in
          subst IsSome (sym (ap (map.get (files_in xs)) (sym e.2) ∙ get-files_in xs k e.0 stored.distinct e.1)) refl;
      has_key = λ n h at.
          let slot = slot_of xs n h at in
          (slot.0, get-numbers_in xs slot.0 ∙ ap (option_map (λ (e : OpenFile M). e.number)) slot.2 ∙ ap Some slot.3);
      one_key = λ j k n at_j at_k.
          let a = led j n at_j in
          let b = led k n at_k in
          stored.distinct j k a.0 b.0 a.1 b.1 (a.2 ∙ sym b.2);
    }

    pub are_counted : AreCounted (files_in xs)
    are_counted n h at = let slot = slot_of xs n h at in subst (λ (x : Counted M). 1 ≤ x.count) slot.4 (stored.named slot.0 slot.1 slot.2)

  -- ---- one descriptor less

  module _ (files : map.FinMap nat_cmp (Counted M)) (n : ℕ) (h : Counted M) (here : map.get files n ≡ Some h) where
    pub ended-more : 1 < h.count → ended_kind files n ≡ None
    ended-more many = ap (option_and_then (λ (x : Counted M). cond (nat_lt 1 x.count) None (Some x.opened.what))) here ∙ more h.count None (Some h.opened.what) many

    pub ended-last : h.count ≤ 1 → ended_kind files n ≡ Some h.opened.what
    ended-last few = ap (option_and_then (λ (x : Counted M). cond (nat_lt 1 x.count) None (Some x.opened.what))) here ∙ last h.count None (Some h.opened.what) few

    pub less-more : 1 < h.count → with_one_less files n ≡ map.insert files n (record h { count = h.count - 1 })
    less-more many =
        ap (λ o. option_map_or (λ (x : Counted M). cond (nat_lt 1 x.count) (map.insert files n (record x { count = x.count - 1 })) (map.remove files n)) o files) here
        ∙ more h.count (map.insert files n (record h { count = h.count - 1 })) (map.remove files n) many

    pub less-last : h.count ≤ 1 → with_one_less files n ≡ map.remove files n
    less-last few =
        ap (λ o. option_map_or (λ (x : Counted M). cond (nat_lt 1 x.count) (map.insert files n (record x { count = x.count - 1 })) (map.remove files n)) o files) here
        ∙ last h.count (map.insert files n (record h { count = h.count - 1 })) (map.remove files n) few

  module _ (s t : Slab (OpenFile M)) (key : ℕ) where
    -- ---- a file put into a slot

    pub distinct-put : (e : OpenFile M) → AreDistinct s.slots → Updates s t key (Some e)
        → ((j : ℕ) (a : OpenFile M) → get s j ≡ Some a → a.number ≡ e.number → j ≡ key) → AreDistinct t.slots
    distinct-put e distinct u only j k a b at_j at_k same =
        elim (cases_eq j key) [
          | inl here_j ↦ elim (cases_eq k key) [
            | inl here_k ↦ here_j ∙ sym here_k
            | inr other_k ↦
                let is_e : a ≡ e = same_Some a e (sym at_j ∙ ap (get t) here_j ∙ u.changed) in
                here_j ∙ sym (only k b (sym (u.others k other_k) ∙ at_k) (sym same ∙ ap (λ (x : OpenFile M). x.number) is_e))
          ]
          | inr other_j ↦ elim (cases_eq k key) [
            | inl here_k ↦
                let is_e : b ≡ e = same_Some b e (sym at_k ∙ ap (get t) here_k ∙ u.changed) in
                only j a (sym (u.others j other_j) ∙ at_j) (same ∙ ap (λ (x : OpenFile M). x.number) is_e) ∙ sym here_k
            | inr other_k ↦ distinct j k a b (sym (u.others j other_j) ∙ at_j) (sym (u.others k other_k) ∙ at_k) same
          ]
        ]

    pub stored-put : (e : OpenFile M) → AreStored s.slots → Updates s t key (Some e) → 1 ≤ e.count
        → ((j : ℕ) (a : OpenFile M) → get s j ≡ Some a → a.number ≡ e.number → j ≡ key) → AreStored t.slots
    stored-put e stored u one only = record {
      distinct = distinct-put e stored.distinct u only;
      named = λ k a at. elim (cases_eq k key) [
        | inl here ↦ subst (λ (x : OpenFile M). 1 ≤ x.count) (same_Some e a (sym u.changed ∙ sym (ap (get t) here) ∙ at)) one
        | inr other ↦ stored.named k a (sym (u.others k other) ∙ at)
      ];
    }

    pub numbers-put : (e : OpenFile M) → Updates s t key (Some e) → numbers_in t.slots ≡ map.insert (numbers_in s.slots) key e.number
    numbers-put e u =
        same_values _ _ (by_key (λ q. map.get (numbers_in t.slots) q ≡ map.get (map.insert (numbers_in s.slots) key e.number) q) key
        (get-numbers_in t.slots key ∙ ap (option_map (λ (x : OpenFile M). x.number)) u.changed ∙ sym (get-insert_same (numbers_in s.slots) key e.number))
        (λ q other. get-numbers_in t.slots q ∙ ap (option_map (λ (x : OpenFile M). x.number)) (u.others q other) ∙ sym (get-numbers_in s.slots q)
        ∙ sym (get-insert_other (numbers_in s.slots) key e.number q other)))

    pub files-put : (e : OpenFile M) → AreDistinct s.slots → AreDistinct t.slots → Updates s t key (Some e)
        → ((a : OpenFile M) → get s key ≡ Some a → a.number ≡ e.number) → files_in t.slots ≡ map.insert (files_in s.slots) e.number (counted e)
    files-put e old new u was =
        same_values _ _ (by_key (λ q. map.get (files_in t.slots) q ≡ map.get (map.insert (files_in s.slots) e.number (counted e)) q) e.number
        (get-files_in t.slots key e new u.changed ∙ sym (get-insert_same (files_in s.slots) e.number (counted e)))
        (λ q other. same_options _ _
        (λ h found.
        let slot = slot_of t.slots q h found in
        let away : slot.0 ≢ key = λ here. other (sym slot.3 ∙ ap (λ (x : OpenFile M). x.number) (same_Some slot.1 e (sym slot.2 ∙ ap (get t) here ∙ u.changed))) in
        sym (ap (map.get (files_in s.slots)) slot.3) ∙ get-files_in s.slots slot.0 slot.1 old (sym (u.others slot.0 away) ∙ slot.2) ∙ ap Some slot.4)
        (λ h found.
        let slot = slot_of s.slots q h found in
        let away : slot.0 ≢ key = λ here. other (sym slot.3 ∙ was slot.1 (sym (ap (get s) here) ∙ slot.2)) in
        sym (ap (map.get (files_in t.slots)) slot.3) ∙ get-files_in t.slots slot.0 slot.1 new (u.others slot.0 away ∙ slot.2) ∙ ap Some slot.4)
        ∙ sym (get-insert_other (files_in s.slots) e.number (counted e) q other)))

    -- ---- a slot emptied

    pub distinct-clear : AreDistinct s.slots → Updates s t key None → AreDistinct t.slots
    distinct-clear distinct u j k a b at_j at_k same =
        let away : (q : ℕ) (x : OpenFile M) → get t q ≡ Some x → q ≢ key = λ q x at here. none-some x (sym u.changed ∙ sym (ap (get t) here) ∙ at) in
        distinct j k a b (sym (u.others j (away j a at_j)) ∙ at_j) (sym (u.others k (away k b at_k)) ∙ at_k) same

    pub stored-clear : AreStored s.slots → Updates s t key None → AreStored t.slots
    stored-clear stored u = record {
      distinct = distinct-clear stored.distinct u;
      named = λ k a at. elim (cases_eq k key) [
        | inl here ↦ absurd (none-some a (sym u.changed ∙ sym (ap (get t) here) ∙ at))
        | inr other ↦ stored.named k a (sym (u.others k other) ∙ at)
      ];
    }

    pub numbers-clear : Updates s t key None → numbers_in t.slots ≡ map.remove (numbers_in s.slots) key
    numbers-clear u =
        same_values _ _ (by_key (λ q. map.get (numbers_in t.slots) q ≡ map.get (map.remove (numbers_in s.slots) key) q) key
        (get-numbers_in t.slots key ∙ ap (option_map (λ (x : OpenFile M). x.number)) u.changed ∙ sym (get-remove_same (numbers_in s.slots) key))
        (λ q other. get-numbers_in t.slots q ∙ ap (option_map (λ (x : OpenFile M). x.number)) (u.others q other) ∙ sym (get-numbers_in s.slots q)
        ∙ sym (get-remove_other (numbers_in s.slots) key q other)))

    pub files-clear : (e : OpenFile M) → AreDistinct s.slots → Updates s t key None → get s key ≡ Some e → files_in t.slots ≡ map.remove (files_in s.slots) e.number
    files-clear e old u was =
        let new = distinct-clear old u in
        same_values _ _ (by_key (λ q. map.get (files_in t.slots) q ≡ map.get (map.remove (files_in s.slots) e.number) q) e.number
        (same_options _ _
        (λ h found.
        let slot = slot_of t.slots e.number h found in
        let away : slot.0 ≢ key = λ here. none-some slot.1 (sym u.changed ∙ sym (ap (get t) here) ∙ slot.2) in
        absurd (away (old slot.0 key slot.1 e (sym (u.others slot.0 away) ∙ slot.2) was slot.3)))
        (λ h found. absurd (none-some h found))
        ∙ sym (get-remove_same (files_in s.slots) e.number))
        (λ q other. same_options _ _
        (λ h found.
        let slot = slot_of t.slots q h found in
        let away : slot.0 ≢ key = λ here. none-some slot.1 (sym u.changed ∙ sym (ap (get t) here) ∙ slot.2) in
        sym (ap (map.get (files_in s.slots)) slot.3) ∙ get-files_in s.slots slot.0 slot.1 old (sym (u.others slot.0 away) ∙ slot.2) ∙ ap Some slot.4)
        (λ h found.
        let slot = slot_of s.slots q h found in
        let away : slot.0 ≢ key = λ here. other (sym slot.3 ∙ ap (λ (x : OpenFile M). x.number) (same_Some slot.1 e (sym slot.2 ∙ ap (get s) here ∙ was))) in
        sym (ap (map.get (files_in t.slots)) slot.3) ∙ get-files_in t.slots slot.0 slot.1 new (u.others slot.0 away ∙ slot.2) ∙ ap Some slot.4)
        ∙ sym (get-remove_other (files_in s.slots) e.number q other)))

  -- ---- a file changed in its slot

  module _ (s : Slab (OpenFile M)) (old : Store M) (key n : ℕ) (view : store_of s ≡ old) (named : map.get old.keys key ≡ Some n) where
    -- the file that a key leads to
    pub entry_of : (e : OpenFile M) × (get s key ≡ Some e) × (e.number ≡ n)
    entry_of = mapped_some (λ (e : OpenFile M). e.number) (get s key) n (sym (get-numbers_in s.slots key) ∙ ap (λ (o : Store M). map.get o.keys key) view ∙ named)

    pub has_key : ContainsKey s key
    has_key = subst IsSome (sym entry_of.1) refl

    pub number_of : (e : OpenFile M) → get s key ≡ Some e → e.number ≡ n
    number_of e here = ap (λ (x : OpenFile M). x.number) (same_Some e entry_of.0 (sym here ∙ entry_of.1)) ∙ entry_of.2

    pub file_found : (e : OpenFile M) → AreDistinct s.slots → get s key ≡ Some e → map.get old.files n ≡ Some (counted e)
    file_found e distinct here =
        sym (ap (λ (o : Store M). map.get o.files n) view) ∙ ap (map.get (files_in s.slots)) (sym (number_of e here)) ∙ get-files_in s.slots key e distinct here

    module _ (e e' : OpenFile M) (here : get s key ≡ Some e) (same : e'.number ≡ e.number) where
      written : Updates s (with_value s key e') key (Some e')
      written = Updates-with_value s key e' has_key

      pub distinct-changed : AreDistinct s.slots → AreDistinct (with_value s key e').slots
      distinct-changed distinct = distinct-put s (with_value s key e') key e' distinct written (λ j a at number. distinct j key a e at here (number ∙ same))

      pub stored-changed : AreStored s.slots → 1 ≤ e'.count → AreStored (with_value s key e').slots
      stored-changed stored one = stored-put s (with_value s key e') key e' stored written one (λ j a at number. stored.distinct j key a e at here (number ∙ same))

      pub numbers-changed : numbers_in (with_value s key e').slots ≡ old.keys
      numbers-changed =
          numbers-put s (with_value s key e') key e' written
          ∙ same_values _ _ (by_key (λ q. map.get (map.insert (numbers_in s.slots) key e'.number) q ≡ map.get (numbers_in s.slots) q) key
          (get-insert_same (numbers_in s.slots) key e'.number ∙ ap Some same ∙ sym (get-numbers_in s.slots key ∙ ap (option_map (λ (x : OpenFile M). x.number)) here))
          (λ q other. get-insert_other (numbers_in s.slots) key e'.number q other))
          ∙ ap (λ (o : Store M). o.keys) view

      pub files-changed_to : AreDistinct s.slots → files_in (with_value s key e').slots ≡ map.insert old.files n (counted e')
      files-changed_to distinct =
          files-put s (with_value s key e') key e' distinct (distinct-changed distinct) written (λ a at. ap (λ (x : OpenFile M). x.number) (same_Some a e (sym at ∙ here)) ∙ sym same)
          ∙ ap (λ (o : Store M). map.insert o.files e'.number (counted e')) view
          ∙ ap (λ k. map.insert old.files k (counted e')) (same ∙ number_of e here)

      pub files-changed : (f : Counted M → Counted M) → AreDistinct s.slots → counted e' ≡ f (counted e) → files_in (with_value s key e').slots ≡ changed old.files n f
      files-changed f distinct is =
          files-changed_to distinct ∙ ap (map.insert old.files n) is ∙ sym (changed-some old.files n f (counted e) (file_found e distinct here))

-- ---- every file changed in its slot

module _ {M : Type 0} (s t : Slab (OpenFile M)) (f : Opened M → Opened M) (each : ChangesEach f s t) where
  before : (k : ℕ) (e : OpenFile M) → get t k ≡ Some e → (a : OpenFile M) × (get s k ≡ Some a) × (on_file f a ≡ e)
  before k e at = mapped_some (on_file f) (get s k) e (sym (each k) ∙ at)

  pub distinct-each : AreDistinct s.slots → AreDistinct t.slots
  distinct-each distinct j k a b at_j at_k same =
      let x = before j a at_j in
      let y = before k b at_k in
      distinct j k x.0 y.0 x.1 y.1 (ap (λ (e : OpenFile M). e.number) x.2 ∙ same ∙ sym (ap (λ (e : OpenFile M). e.number) y.2))

  pub stored-each : AreStored s.slots → AreStored t.slots
  stored-each stored = record {
    distinct = distinct-each stored.distinct;
    named = λ k e at. let x = before k e at in subst (λ (y : OpenFile M). 1 ≤ y.count) x.2 (stored.named k x.0 x.1);
  }

  numbers_same : (o : Option (OpenFile M)) → option_map (λ (e : OpenFile M). e.number) (option_map (on_file f) o) ≡ option_map (λ (e : OpenFile M). e.number) o
  numbers_same None = refl
  numbers_same (Some e) = refl

  pub numbers-each : numbers_in t.slots ≡ numbers_in s.slots
  numbers-each =
      same_values _ _ (λ k. get-numbers_in t.slots k ∙ ap (option_map (λ (e : OpenFile M). e.number)) (each k) ∙ numbers_same (get s k) ∙ sym (get-numbers_in s.slots k))

  pub files-each : AreDistinct s.slots → files_in t.slots ≡ mapped (λ n. on_opened f) (files_in s.slots)
  files-each distinct =
      same_values _ _ (λ n. same_options _ _
      (λ h found.
      let slot = slot_of t.slots n h found in
      let a = before slot.0 slot.1 slot.2 in
      get-mapped (λ n. on_opened f) (files_in s.slots) n
      ∙ ap (option_map (on_opened f)) (ap (map.get (files_in s.slots)) (sym slot.3 ∙ sym (ap (λ (e : OpenFile M). e.number) a.2)) ∙ get-files_in s.slots slot.0 a.0 distinct a.1)
      ∙ ap Some (ap counted a.2 ∙ slot.4))
      (λ h found.
      let a = mapped_some (on_opened f) (map.get (files_in s.slots) n) h (sym (get-mapped (λ n. on_opened f) (files_in s.slots) n) ∙ found) in
      let slot = slot_of s.slots n a.0 a.1 in
      ap (map.get (files_in t.slots)) (sym slot.3)
      ∙ get-files_in t.slots slot.0 (on_file f slot.1) (distinct-each distinct) (each slot.0 ∙ ap (option_map (on_file f)) slot.2)
      ∙ ap Some (ap (on_opened f) slot.4 ∙ a.2)))
