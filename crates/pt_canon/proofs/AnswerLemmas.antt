-- What is kept under the bytes of keys, as what is remembered under keys.
use Rattle.std.proofs.Common.{◌≡◌, ◌∙◌, ℕ, zero, suc, ◌-◌, ◌≤◌, Bool, true, false, cond, List, [], ◌∷◌, length, take, Some, None, All, Vec, refl, ap, sym, subst, arith}
use Rattle.std.specs.Map.{lookup, lookup_entry, remove_entry}
use Rattle.std.specs.Option.{option_map_or}
use Rattle.std.specs.Str.{bytes_eq}
use Rattle.std.proofs.lemmas.List.{take-map}
use Rattle.std.proofs.lemmas.List.Elements.{All-cons, All-head, All-tail, All-take}
use Rattle.lru.specs.LruCache.{LruCache, promoted, put_entries}
use Rattle.pt_bind.specs.Binding.{IsWritten}
use Rattle.pt_canon.specs.Keys.{key_bytes, key_in}
use Rattle.pt_canon.specs.KeptAnswers.{AreKept, IsKept, entries_in, shown_entry}
use Rattle.pt_canon.specs.Remembering.{Key, most_remembered, same_key, with_newest}
use Rattle.pt_canon.specs.declared.canon.Canon.{Canon}
use Rattle.pt_canon.proofs.KeyLemmas.{bytes_tell, same_is}

-- ---- lists of entries

module _ {K V : Type 0} (test : K → Bool) where
  pub All-removed : (P : K × V → Type 0) (es : List (K × V)) → All P es → All P (remove_entry test es)
  All-removed P [] all = all
  All-removed P (e ∷ es) all = at (test e.0) (All-removed P es (All-tail P e es all))
    where
      at : (b : Bool) → All P (remove_entry test es) → All P (cond b es (e ∷ remove_entry test es))
      at true rest = All-tail P e es all
      at false rest = All-cons P e (remove_entry test es) (All-head P e es all) rest

  -- where nothing is found nothing is taken away
  pub remove-none : (es : List (K × V)) → lookup test es ≡ None → remove_entry test es ≡ es
  remove-none [] none = refl
  remove-none (e ∷ es) none = at (test e.0) none (remove-none es)
    where
      at : (b : Bool) → cond b (Some e.1) (lookup test es) ≡ None → (lookup test es ≡ None → remove_entry test es ≡ es) → cond b es (e ∷ remove_entry test es) ≡ e ∷ es
      at true some later = absurd cc
      at false rest later = ap (λ es. e ∷ es) (later rest)

  pub lookup_entry-none : (es : List (K × V)) → lookup test es ≡ None → lookup_entry test es ≡ None
  lookup_entry-none [] none = refl
  lookup_entry-none (e ∷ es) none = at (test e.0) none (lookup_entry-none es)
    where
      at : (b : Bool) → cond b (Some e.1) (lookup test es) ≡ None → (lookup test es ≡ None → lookup_entry test es ≡ None) → cond b (Some e) (lookup_entry test es) ≡ None
      at true some later = absurd cc
      at false rest later = later rest

  -- where something is found one entry is taken away
  pub length-removed : (es : List (K × V)) (v : V) → lookup test es ≡ Some v → suc (length (remove_entry test es)) ≡ length es
  length-removed [] v found = absurd cc
  length-removed (e ∷ es) v found = at (test e.0) found (length-removed es v)
    where
      at : (b : Bool) → cond b (Some e.1) (lookup test es) ≡ Some v → (lookup test es ≡ Some v → suc (length (remove_entry test es)) ≡ length es)
          → suc (length (cond b es (e ∷ remove_entry test es))) ≡ suc (length es)
      at true some later = refl
      at false rest later = ap suc (later rest)

  -- which entry is found, of which P holds
  pub record IsFound (P : K × V → Type 0) (es : List (K × V)) (v : V) : Type 0 where
    pub entry : K × V
    pub there : lookup_entry test es ≡ Some entry
    pub value : entry.1 ≡ v
    pub passes : test entry.0 ≡ true
    pub holds : P entry

  pub found_entry : (P : K × V → Type 0) (es : List (K × V)) (v : V) → All P es → lookup test es ≡ Some v → IsFound P es v
  found_entry P [] v all found = absurd cc
  found_entry P (e ∷ es) v all found = at (test e.0) refl found (found_entry P es v (All-tail P e es all))
    where
      at : (b : Bool) → test e.0 ≡ b → cond b (Some e.1) (lookup test es) ≡ Some v → (lookup test es ≡ Some v → IsFound P es v) → IsFound P (e ∷ es) v
      at true passes some later = record { entry = e; there = ap (λ b. cond b (Some e) (lookup_entry test es)) passes; value = cc; passes = passes; holds = All-head P e es all }
      at false other rest later =
          let on = later rest in
          record { entry = on.entry; there = ap (λ b. cond b (Some e) (lookup_entry test es)) other ∙ on.there; value = on.value; passes = on.passes; holds = on.holds }

pub take_whole : {X : Type 0} (n : ℕ) (xs : List X) → length xs ≤ n → take n xs ≡ xs
take_whole zero [] few = refl
take_whole zero (x ∷ xs) few = absurd (omega arith)
take_whole (suc n) [] few = refl
take_whole (suc n) (x ∷ xs) few = ap (λ xs. x ∷ xs) (take_whole n xs (omega arith))

-- ---- what is kept

module _ {Z : Type 0} where
  pub shown_as_many : (es : List (Vec ℕ Z × Canon)) → length es ≡ length (entries_in es)
  shown_as_many [] = refl
  shown_as_many (e ∷ es) = ap suc (shown_as_many es)

  -- a look-up by bytes, as by a key
  abbrev pub by_bytes : List ℕ → Vec ℕ Z → Bool
  by_bytes bytes k = bytes_eq bytes k.items

  module _ (key : Key) (bytes : List ℕ) (is : bytes ≡ key_bytes key) (read : key_in bytes ≡ key) where
    abbrev test : Vec ℕ Z → Bool
    test = by_bytes bytes

    tells : (e : Vec ℕ Z × Canon) → IsKept e → test e.0 ≡ same_key key (key_in e.0.items)
    tells e kept = bytes_tell key bytes e.0.items is read kept.key

    pub lookup_shown : (es : List (Vec ℕ Z × Canon)) → All IsKept es → lookup test es ≡ lookup (same_key key) (entries_in es)
    lookup_shown [] all = refl
    lookup_shown (e ∷ es) all =
        let head = tells e (All-head IsKept e es all) in
        let tail = lookup_shown es (All-tail IsKept e es all) in
        λ i. cond (head i) (Some e.1) (tail i)

    cond_shown : (b : Bool) (xs ys : List (Vec ℕ Z × Canon)) → entries_in (cond b xs ys) ≡ cond b (entries_in xs) (entries_in ys)
    cond_shown true xs ys = refl
    cond_shown false xs ys = refl

    pub remove_shown : (es : List (Vec ℕ Z × Canon)) → All IsKept es → entries_in (remove_entry test es) ≡ remove_entry (same_key key) (entries_in es)
    remove_shown [] all = refl
    remove_shown (e ∷ es) all =
        let head = tells e (All-head IsKept e es all) in
        let tail = remove_shown es (All-tail IsKept e es all) in
        cond_shown (test e.0) es (e ∷ remove_entry test es) ∙ (λ i. cond (head i) (entries_in es) (shown_entry e ∷ tail i))

    -- ---- one that is recalled

    module _ (es : List (Vec ℕ Z × Canon)) (all : All IsKept es) (few : length es ≤ most_remembered) (canon : Canon) (there : lookup test es ≡ Some canon) where
      found : IsFound test IsKept es canon
      found = found_entry test IsKept es canon all there

      promoted_is : promoted test es ≡ found.entry ∷ remove_entry test es
      promoted_is = ap (λ o. option_map_or (λ e. e ∷ remove_entry test es) o es) found.there

      shown_is : shown_entry found.entry ≡ (key, canon)
      shown_is =
          let same : key ≡ key_in found.entry.0.items = same_is key (key_in found.entry.0.items) (sym (tells found.entry found.holds) ∙ found.passes) in
          λ i. (sym same i, found.value i)

      pub promoted_shown : entries_in (promoted test es) ≡ with_newest key canon (entries_in es)
      promoted_shown =
          let size : length (found.entry ∷ remove_entry test es) ≤ most_remembered = omega (arith, length-removed test es canon there, few) in
          ap entries_in (promoted_is ∙ sym (take_whole most_remembered (found.entry ∷ remove_entry test es) size))
          ∙ sym (take-map shown_entry most_remembered (found.entry ∷ remove_entry test es))
          ∙ (λ i. take most_remembered (shown_is i ∷ remove_shown es all i))

      pub promoted_kept : All IsKept (promoted test es)
      promoted_kept = subst (All IsKept) (sym promoted_is) (All-cons IsKept found.entry (remove_entry test es) found.holds (All-removed test IsKept es all))

      pub recalled_written : IsWritten canon.guest
      recalled_written = subst (λ (c : Canon). IsWritten c.guest) found.value found.holds.written

  -- ---- one that is new

  module _ (cache : LruCache (Vec ℕ Z) Canon) (kept : AreKept cache) (key : Key) (bytes : Vec ℕ Z) (is : bytes.items ≡ key_bytes key) (read : key_in bytes.items ≡ key) (canon : Canon) where
    abbrev after : List (Vec ℕ Z × Canon)
    after = put_entries (λ x y. bytes_eq x.items y.items) cache bytes canon

    module _ (fresh : lookup (same_key key) (entries_in cache.entries) ≡ None) where
      put_is : after ≡ take most_remembered ((bytes, canon) ∷ cache.entries)
      put_is =
          let none = lookup_entry-none (by_bytes bytes.items) cache.entries (lookup_shown key bytes.items is read cache.entries kept.each ∙ fresh) in
          ap (λ o. option_map_or (λ e. (e.0, canon) ∷ remove_entry (by_bytes bytes.items) cache.entries) o ((bytes, canon) ∷ take (cache.cap - 1) cache.entries)) none
          ∙ ap (λ cap. (bytes, canon) ∷ take (cap - 1) cache.entries) kept.cap

      pub put_shown : entries_in after ≡ with_newest key canon (entries_in cache.entries)
      put_shown =
          ap entries_in put_is ∙ sym (take-map shown_entry most_remembered ((bytes, canon) ∷ cache.entries))
          ∙ (λ i. take most_remembered ((read i, canon) ∷ sym (remove-none (same_key key) (entries_in cache.entries) fresh) i))

      pub put_kept : IsWritten canon.guest → All IsKept after
      put_kept written =
          let own : IsKept (bytes, canon) = record { key = record { same = is ∙ ap key_bytes (sym read) }; written = written } in
          subst (All IsKept) (sym put_is) (All-take IsKept most_remembered ((bytes, canon) ∷ cache.entries) (All-cons IsKept (bytes, canon) cache.entries own kept.each))
