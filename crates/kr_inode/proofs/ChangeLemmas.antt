-- What is stored of the entries after each change of them.
use Rattle.std.proofs.Common.{◌≡◌, ◌⊎◌, inl, inr, subst, nat_eq, ℕ, ◌+◌, ◌<◌, Bool, true, false, not, cond, List, [], ◌∷◌, ◌++◌, refl, sym, ap, ◌∙◌, arith, Some, None, Option, Vec, eq-eqb, append-nil}
use Rattle.std.specs.Prelude.{bytes_eq}
use Rattle.std.specs.Option.{IsSome, option_map}
use Rattle.std.specs.List.{AllZip}
use Rattle.std.specs.Ordering.{nat_cmp}
use Rattle.std.specs.Map.{lookup, remove_entry, KeepsOthers}
use Rattle.std.specs.BTreeMap.{is_at, insert_entry}
use Rattle.std.proofs.lemmas.Bool.{ne_eqb}
use Rattle.std.proofs.lemmas.Option.{same_Some}
use Rattle.std.proofs.lemmas.Slice.Eq.{bytes_eq-Decides}
use Rattle.kr_inode.specs.declared.entries.Named.{Named}
use Rattle.kr_inode.specs.declared.entries.Slot.{Slot}
use Rattle.kr_inode.specs.Inode.{Entry, entry_named, entry_at}
use Rattle.kr_inode.specs.Names.{is_name}
use Rattle.kr_inode.specs.Changes.{without_name}
use Rattle.kr_inode.specs.Entries.{Entries, IsIn, IsListed, IsNamed, RisesWithin, entry_of, slot_of, stored, with_new, without}
use Rattle.kr_inode.proofs.EntryLemmas.{in_above, all-in, listed-new, listed-without, named_in, named-gone}
use Rattle.kr_inode.proofs.StoredLemmas.{by, changed, named-changed, slots-added, slots-back, slots-replaced, slots-without, stored-append, stored-at, stored-last, stored-without}

-- a map that has a value at one name, and at others what another has
pub record Sets {Z : Type 0} (key : List ℕ) (w : Option Slot) (old new : List (Vec ℕ Z × Slot)) : Type 0 where
  pub here : lookup (by key) new ≡ w
  pub others : KeepsOthers (λ a b. bytes_eq a.items b.items) (by key) old new

pub same_items : (xs ys : List ℕ) → AllZip (λ x y. y ≡ x) xs ys → ys ≡ xs
same_items [] [] h = refl
same_items [] (y ∷ ys) h = absurd h
same_items (x ∷ xs) [] h = absurd h
same_items (x ∷ xs) (y ∷ ys) h = ap (λ z. z ∷ ys) h.0 ∙ ap (λ zs. x ∷ zs) (same_items xs ys h.1)

-- ---- a new entry

pub record Added {Z : Type 0} (ns : List (Vec ℕ Z × Slot)) (es fs : List (ℕ × Named)) (next : ℕ) (e : Entry) : Type 0 where
  pub named : IsNamed ns (stored fs)
  pub listed : IsListed (record { list = stored fs; next = next + 1 })
  pub is : stored fs ≡ stored es ++ e ∷ []

pub added : {Z : Type 0} (name copy : List ℕ) (next inode : ℕ) (v : Named) (old new : List (Vec ℕ Z × Slot)) (es fs : List (ℕ × Named)) → IsNamed old (stored es) → IsListed (record { list = stored es; next = next })
    → is_name name ≡ true → entry_named name (stored es) ≡ None → copy ≡ name → Sets copy (Some (record { serial = next; inode = inode })) old new
    → v.name.items ≡ name → v.inode ≡ inode → fs ≡ insert_entry nat_cmp es next v → Added new es fs next (record { name = name; serial = next; inode = inode })
added name copy next inode v old new es fs named listed well free same sets v_name v_inode is =
    let e : Entry = record { name = name; serial = next; inode = inode } in
    let one : entry_of (next, v) ≡ e = ap (λ n. record { name = n; serial = next; inode = v.inode }) v_name ∙ ap (λ i. record { name = name; serial = next; inode = i }) v_inode in
    let list : stored fs ≡ stored es ++ e ∷ [] = ap stored (is ∙ stored-last 2 next es v listed.rises) ∙ stored-append es ((next, v) ∷ []) ∙ ap (λ x. stored es ++ x ∷ []) one in
    let P : List Entry → Type 0 = λ zs. IsNamed new zs in
    let Q : List Entry → Type 0 = λ zs. IsListed (record { list = zs; next = next + 1 }) in
    record {
      named = subst P (sym list) (named-changed copy name (Some (slot_of e)) old new (stored es) (stored es ++ e ∷ []) same named sets.here sets.others (slots-added (stored es) e free));
      listed = subst Q (sym list) (listed-new name inode (record { list = stored es; next = next }) well free listed);
      is = list;
    }

-- a name that was put there and taken away again
pub put_back : {Z : Type 0} (name copy again : List ℕ) (w : Option Slot) (old new last : List (Vec ℕ Z × Slot)) (es : List Entry) → IsNamed old es → entry_named name es ≡ None → copy ≡ name → again ≡ name
    → Sets copy w old new → Sets again None new last → IsNamed last es
put_back name copy again w old new last es named free same too put gone q =
    changed again None new last gone.here gone.others q ∙ ap (λ n. cond (bytes_eq n q) None (lookup (by q) new)) too
    ∙ ap (cond (bytes_eq name q) None) (changed copy w old new put.here put.others q ∙ ap (λ n. cond (bytes_eq n q) w (lookup (by q) old)) same)
    ∙ twice (bytes_eq name q) w (lookup (by q) old) ∙ ap (cond (bytes_eq name q) None) (named q) ∙ sym (slots-back name es q free)
  where
    twice : (b : Bool) (w o : Option Slot) → cond b None (cond b w o) ≡ cond b None o
    twice true w o = refl
    twice false w o = refl

-- ---- an entry less

slot_there : (o : Option Entry) (slot : Slot) → Some slot ≡ option_map slot_of o → (x : Entry) × (o ≡ Some x) × (slot_of x ≡ slot)
slot_there None slot is = absurd cc
slot_there (Some x) slot is = (x, refl, sym (same_Some slot (slot_of x) is))

pub not_there : (o : Option Entry) → None ≡ option_map slot_of o → o ≡ None
not_there None is = refl
not_there (Some x) is = absurd cc

pub nothing_named : (name : List ℕ) (es : List Entry) → entry_named name es ≡ None → without_name name es ≡ es
nothing_named name [] h = refl
nothing_named name (e ∷ es) h =
    elim (bytes_eq name e.name) as (λ b. cond b (Some e) (entry_named name es) ≡ None → cond (not b) (e ∷ without_name name es) (without_name name es) ≡ e ∷ es) [
      | true ↦ λ h. absurd cc
      | false ↦ λ h. ap (λ r. e ∷ r) (nothing_named name es h)
    ] h

pub record Taken {Z : Type 0} (ns : List (Vec ℕ Z × Slot)) (name : List ℕ) (es fs : List (ℕ × Named)) (next : ℕ) : Type 0 where
  pub named : IsNamed ns (stored fs)
  pub listed : IsListed (record { list = stored fs; next = next })
  pub is : stored fs ≡ without_name name (stored es)

pub taken : {Z : Type 0} (name : List ℕ) (next : ℕ) (slot : Slot) (old new : List (Vec ℕ Z × Slot)) (es fs : List (ℕ × Named)) → IsNamed old (stored es) → IsListed (record { list = stored es; next = next })
    → Some slot ≡ lookup (by name) old → Sets name None old new → fs ≡ remove_entry (is_at (nat_cmp slot.serial)) es → Taken new name es fs next
taken name next slot old new es fs named listed found sets is =
    let x = slot_there (entry_named name (stored es)) slot (found ∙ named name) in
    let list : stored fs ≡ without_name name (stored es) =
    ap stored (is ∙ ap (remove_entry (is_at (nat_cmp slot.serial))) (sym (append-nil es)))
    ∙ stored-without 2 next slot.serial name es [] x.0 listed.distinct listed.rises x.1 (ap (λ s. s.serial) x.2) ∙ append-nil (without_name name (stored es)) in
    let P : List Entry → Type 0 = λ zs. IsNamed new zs in
    let Q : List Entry → Type 0 = λ zs. IsListed (record { list = zs; next = next }) in
    record {
      named = subst P (sym list) (named-changed name name None old new (stored es) (without_name name (stored es)) refl named sets.here sets.others (slots-without name (stored es)));
      listed = subst Q (sym list) (listed-without name (record { list = stored es; next = next }) listed);
      is = list;
    }

-- ---- an entry in place of another of the same name

serial_in : (low next : ℕ) (all : List Entry) (e : Entry) → RisesWithin low next all → IsIn e all → entry_at e.serial all ≡ Some e
serial_in low next [] e h i = absurd i
serial_in low next (x ∷ all) e h (inl is) =
    let same : e.serial ≡ x.serial = ap (λ z. z.serial) (sym is) in
    ap (λ b. cond b (Some x) (entry_at e.serial all)) (eq-eqb e.serial x.serial same) ∙ ap Some is
serial_in low next (x ∷ all) e h (inr i) =
    let above = (in_above x.serial next all e h.1 i).0 in
    ap (λ b. cond b (Some x) (entry_at e.serial all)) (ne_eqb e.serial x.serial (λ is. absurd (omega arith))) ∙ serial_in x.serial next all e h.1 i

stored_is : (o : Option Named) (s : ℕ) (x : Entry) → option_map (λ v. record { name = v.name.items; serial = s; inode = v.inode }) o ≡ Some x → (v : Named) × (o ≡ Some v) × (v.name.items ≡ x.name)
stored_is None s x is = absurd cc
stored_is (Some v) s x is = (v, refl, ap (λ e. e.name) (same_Some (record { name = v.name.items; serial = s; inode = v.inode }) x is))

-- what is stored at the serial that is kept at a name has that name
pub stored_there : {Z : Type 0} (name : List ℕ) (next : ℕ) (slot : Slot) (ns : List (Vec ℕ Z × Slot)) (es : List (ℕ × Named)) → IsNamed ns (stored es) → IsListed (record { list = stored es; next = next })
    → Some slot ≡ lookup (by name) ns → (v : Named) × (lookup (is_at (nat_cmp slot.serial)) es ≡ Some v) × (v.name.items ≡ name)
stored_there name next slot ns es named listed found =
    let x = slot_there (entry_named name (stored es)) slot (found ∙ named name) in
    let at = named_in name (stored es) x.0 x.1 in
    let serial : x.0.serial ≡ slot.serial = ap (λ s. s.serial) x.2 in
    let v = stored_is (lookup (is_at (nat_cmp slot.serial)) es) slot.serial x.0 (stored-at slot.serial es ∙ ap (λ s. entry_at s (stored es)) (sym serial) ∙ serial_in 2 next (stored es) x.0 listed.rises at.0) in
    (v.0, v.1, v.2 ∙ sym ((bytes_eq-Decides name x.0.name).0 at.1))

listed-replaced : (name : List ℕ) (inode : ℕ) (d : Entries) (e : Entry) → IsListed d → entry_named name d.list ≡ Some e → IsListed (with_new name inode (without name d))
listed-replaced name inode d e listed is =
    let at = named_in name d.list e is in
    let P : List ℕ → Type 0 = λ n. is_name n ≡ true in
    let same : name ≡ e.name = (bytes_eq-Decides name e.name).0 at.1 in
    listed-new name inode (without name d) (subst P (sym same) (all-in P d.list e listed.well_formed at.0)) (named-gone name d.list) (listed-without name d listed)

pub record Replaced {Z : Type 0} (ns : List (Vec ℕ Z × Slot)) (es fs : List (ℕ × Named)) (next : ℕ) (e : Entry) : Type 0 where
  pub named : IsNamed ns (stored fs)
  pub listed : IsListed (record { list = stored fs; next = next + 1 })
  pub is : stored fs ≡ without_name e.name (stored es) ++ e ∷ []

pub replaced : {Z : Type 0} (name : List ℕ) (next inode : ℕ) (slot : Slot) (v : Named) (old new : List (Vec ℕ Z × Slot)) (es more fs : List (ℕ × Named)) → IsNamed old (stored es)
    → IsListed (record { list = stored es; next = next }) → Some slot ≡ lookup (by name) old → Sets name (Some (record { serial = next; inode = inode })) old new → v.name.items ≡ name → v.inode ≡ inode
    → more ≡ insert_entry nat_cmp es next v → fs ≡ remove_entry (is_at (nat_cmp slot.serial)) more → Replaced new es fs next (record { name = name; serial = next; inode = inode })
replaced name next inode slot v old new es more fs named listed found sets v_name v_inode put is =
    let e : Entry = record { name = name; serial = next; inode = inode } in
    let x = slot_there (entry_named name (stored es)) slot (found ∙ named name) in
    let one : entry_of (next, v) ≡ e = ap (λ n. record { name = n; serial = next; inode = v.inode }) v_name ∙ ap (λ i. record { name = name; serial = next; inode = i }) v_inode in
    let list : stored fs ≡ without_name name (stored es) ++ e ∷ [] =
    ap stored (is ∙ ap (remove_entry (is_at (nat_cmp slot.serial))) (put ∙ stored-last 2 next es v listed.rises))
    ∙ stored-without 2 next slot.serial name es ((next, v) ∷ []) x.0 listed.distinct listed.rises x.1 (ap (λ s. s.serial) x.2) ∙ ap (λ z. without_name name (stored es) ++ z ∷ []) one in
    let P : List Entry → Type 0 = λ zs. IsNamed new zs in
    let Q : List Entry → Type 0 = λ zs. IsListed (record { list = zs; next = next + 1 }) in
    record {
      named = subst P (sym list) (named-changed name name (Some (slot_of e)) old new (stored es) (without_name name (stored es) ++ e ∷ []) refl named sets.here sets.others (slots-replaced (stored es) e));
      listed = subst Q (sym list) (listed-replaced name inode (record { list = stored es; next = next }) x.0 listed x.1);
      is = list;
    }
