-- Lists of entries after one was added or taken away.
use Rattle.std.proofs.Common.{◌≡◌, ◌⊎◌, inl, inr, subst, ℕ, ◌+◌, ◌<◌, Bool, true, false, not, cond, List, [], ◌∷◌, ◌++◌, filter, ◌||◌, refl, sym, ap, ◌∙◌, arith, lit<, Some, None}
use Rattle.std.specs.Prelude.{bytes_eq}
use Rattle.std.specs.Option.{option_map_or}
use Rattle.std.specs.List.{list_any, AllByRecursion, IsDistinct}
use Rattle.std.proofs.lemmas.Cmp.{nat_list_eq_equiv}
use Rattle.std.proofs.lemmas.Slice.Eq.{bytes_eq-Decides}
use Rattle.std.proofs.lemmas.Map.Keys.{IsDistinct-head, IsDistinct-tail, IsDistinct-cons, IsDistinct-push}
use Rattle.kr_inode.specs.Inode.{Entry, entry_named}
use Rattle.kr_inode.specs.Names.{is_name}
use Rattle.kr_inode.specs.Changes.{without_name}
use Rattle.kr_inode.specs.Entries.{IsIn, Entries, RisesWithin, names_in, IsListed, with_new, without}

-- ---- serials

pub rises_below : (low next : ℕ) (es : List Entry) → RisesWithin low next es → low < next
rises_below low next [] h = h
rises_below low next (e ∷ es) h = let rest : e.serial < next = rises_below e.serial next es h.1 in omega (arith, h.0)

rises_from_lower : (low from next : ℕ) (es : List Entry) → low < from → RisesWithin from next es → RisesWithin low next es
rises_from_lower low from next [] l h = omega arith
rises_from_lower low from next (e ∷ es) l h = (omega (arith, h.0), h.1)

pub rises-new : (low next i : ℕ) (name : List ℕ) (es : List Entry) → RisesWithin low next es → RisesWithin low (next + 1) (es ++ (record { name = name; serial = next; inode = i }) ∷ [])
rises-new low next i name [] h = (h, omega arith)
rises-new low next i name (e ∷ es) h = (h.0, rises-new e.serial next i name es h.1)

pub rises-filter : (p : Entry → Bool) (low next : ℕ) (es : List Entry) → RisesWithin low next es → RisesWithin low next (filter p es)
rises-filter p low next [] h = h
rises-filter p low next (e ∷ es) h =
    let rest = rises-filter p e.serial next es h.1 in
    elim (p e) as (λ b. RisesWithin low next (cond b (e ∷ filter p es) (filter p es))) [
      | true ↦ (h.0, rest)
      | false ↦ rises_from_lower low e.serial next (filter p es) h.0 rest
    ]

-- ---- names

names-new : (es : List Entry) (e : Entry) → names_in (es ++ e ∷ []) ≡ names_in es ++ e.name ∷ []
names-new [] e = refl
names-new (x ∷ es) e = ap (λ r. x.name ∷ r) (names-new es e)

none_named : (name : List ℕ) (es : List Entry) → entry_named name es ≡ None → list_any (bytes_eq name) (names_in es) ≡ false
none_named name [] h = refl
none_named name (e ∷ es) h =
    elim (bytes_eq name e.name) as (λ b. cond b (Some e) (entry_named name es) ≡ None → (b || list_any (bytes_eq name) (names_in es)) ≡ false) [
      | true ↦ λ h. absurd cc
      | false ↦ λ h. none_named name es h
    ] h

pub distinct-new : (es : List Entry) (e : Entry) → entry_named e.name es ≡ None → IsDistinct bytes_eq (names_in es) → IsDistinct bytes_eq (names_in (es ++ e ∷ []))
distinct-new es e free h =
    rw (names-new es e) (IsDistinct-push nat_list_eq_equiv (names_in es) e.name h (none_named e.name es free))

all-filter : (P : List ℕ → Type 0) (p : Entry → Bool) (es : List Entry) → AllByRecursion P (names_in es) → AllByRecursion P (names_in (filter p es))
all-filter P p [] h = h
all-filter P p (e ∷ es) h =
    elim (p e) as (λ b. AllByRecursion P (names_in (cond b (e ∷ filter p es) (filter p es)))) [
      | true ↦ (h.0, all-filter P p es h.1)
      | false ↦ all-filter P p es h.1
    ]

distinct-filter : (p : Entry → Bool) (es : List Entry) → IsDistinct bytes_eq (names_in es) → IsDistinct bytes_eq (names_in (filter p es))
distinct-filter p [] h = h
distinct-filter p (e ∷ es) h =
    let rest = distinct-filter p es (IsDistinct-tail bytes_eq e.name (names_in es) h) in
    let head = all-filter (λ y. bytes_eq e.name y ≡ false) p es (IsDistinct-head bytes_eq e.name (names_in es) h) in
    elim (p e) as (λ b. IsDistinct bytes_eq (names_in (cond b (e ∷ filter p es) (filter p es)))) [
      | true ↦ IsDistinct-cons bytes_eq e.name (names_in (filter p es)) head rest
      | false ↦ rest
    ]

all-new : (P : List ℕ → Type 0) (es : List Entry) (e : Entry) → P e.name → AllByRecursion P (names_in es) → AllByRecursion P (names_in (es ++ e ∷ []))
all-new P [] e here h = (here, h)
all-new P (x ∷ es) e here h = (h.0, all-new P es e here h.1)

-- ---- both

pub listed-new : (name : List ℕ) (i : ℕ) (d : Entries) → is_name name ≡ true → entry_named name d.list ≡ None → IsListed d → IsListed (with_new name i d)
listed-new name i d well free h = record {
  rises = rises-new 2 d.next i name d.list h.rises;
  distinct = distinct-new d.list (record { name = name; serial = d.next; inode = i }) free h.distinct;
  well_formed = all-new (λ n. is_name n ≡ true) d.list (record { name = name; serial = d.next; inode = i }) well h.well_formed;
}

pub listed-without : (name : List ℕ) (d : Entries) → IsListed d → IsListed (without name d)
listed-without name d h = record {
  rises = rises-filter (λ e. not (bytes_eq name e.name)) 2 d.next d.list h.rises;
  distinct = distinct-filter (λ e. not (bytes_eq name e.name)) d.list h.distinct;
  well_formed = all-filter (λ n. is_name n ≡ true) (λ e. not (bytes_eq name e.name)) d.list h.well_formed;
}

-- ---- nothing taken away

-- no name of a list is one, so nothing is taken away
pub none_without : (name : List ℕ) (es : List Entry) → AllByRecursion (λ n. bytes_eq name n ≡ false) (names_in es) → without_name name es ≡ es
none_without name [] h = refl
none_without name (e ∷ es) h =
    ap (λ b. cond (not b) (e ∷ without_name name es) (without_name name es)) h.0 ∙ ap (λ r. e ∷ r) (none_without name es h.1)

pub all_alike : (a b : List ℕ) (ns : List (List ℕ)) → bytes_eq a b ≡ true → AllByRecursion (λ n. bytes_eq b n ≡ false) ns → AllByRecursion (λ n. bytes_eq a n ≡ false) ns
all_alike a b [] e h = h
all_alike a b (n ∷ ns) e h = (nat_list_eq_equiv.congr a b n e ∙ h.0, all_alike a b ns e h.1)

pub listed-none : IsListed (record { list = []; next = 3 })
unfolding IsDistinct
listed-none = record { rises = lit< tt; distinct = tt; well_formed = tt }

-- ---- one entry among others

pub named_in : (name : List ℕ) (es : List Entry) (e : Entry) → entry_named name es ≡ Some e → IsIn e es × (bytes_eq name e.name ≡ true)
named_in name [] e h = absurd cc
named_in name (x ∷ es) e h =
    elim (bytes_eq name x.name) as (λ b. bytes_eq name x.name ≡ b → cond b (Some x) (entry_named name es) ≡ Some e → IsIn e (x ∷ es) × (bytes_eq name e.name ≡ true)) [
      | true ↦ λ is h. let same : x ≡ e = ap (λ o. option_map_or (λ s. s) o x) h in (inl same, ap (λ s. bytes_eq name s.name) (sym same) ∙ is)
      | false ↦ λ is h. let rest = named_in name es e h in (inr rest.0, rest.1)
    ] refl h

pub all-in : (P : List ℕ → Type 0) (es : List Entry) (e : Entry) → AllByRecursion P (names_in es) → IsIn e es → P e.name
all-in P [] e h is = absurd is
all-in P (x ∷ es) e h (inl same) = subst (λ s. P s.name) same h.0
all-in P (x ∷ es) e h (inr is) = all-in P es e h.1 is

-- an entry of a name is the one that is found by it
pub in_named : (name : List ℕ) (es : List Entry) (e : Entry) → IsDistinct bytes_eq (names_in es) → IsIn e es → bytes_eq name e.name ≡ true → entry_named name es ≡ Some e
in_named name [] e h is n = absurd is
in_named name (x ∷ es) e h (inl same) n = ap (λ b. cond b (Some x) (entry_named name es)) (ap (λ s. bytes_eq name s.name) same ∙ n) ∙ ap Some same
in_named name (x ∷ es) e h (inr is) n =
    let apart = all-in (λ m. bytes_eq x.name m ≡ false) es e (IsDistinct-head bytes_eq x.name (names_in es) h) is in
    let other : bytes_eq name x.name ≡ false = elim (bytes_eq name x.name) as (λ b. bytes_eq name x.name ≡ b → b ≡ false) [
      | true ↦ λ t. let no : true ≡ false = sym n ∙ nat_list_eq_equiv.congr name x.name e.name t ∙ apart in absurd cc
      | false ↦ λ _. refl
    ] refl in
    ap (λ b. cond b (Some x) (entry_named name es)) other ∙ in_named name es e (IsDistinct-tail bytes_eq x.name (names_in es) h) is n

pub in_above : (low next : ℕ) (es : List Entry) (e : Entry) → RisesWithin low next es → IsIn e es → (low < e.serial) × (e.serial < next)
in_above low next [] e h is = absurd is
in_above low next (x ∷ es) e h (inl same) =
    let below = rises_below x.serial next es h.1 in
    let serial : x.serial ≡ e.serial = ap (λ s. s.serial) same in
    let first = h.0 in
    (omega arith, omega arith)
in_above low next (x ∷ es) e h (inr is) = let rest = in_above x.serial next es e h.1 is in let first = h.0 in (omega arith, rest.1)

-- a serial has one entry
pub serial_alone : (low next : ℕ) (es : List Entry) (a b : Entry) → RisesWithin low next es → IsIn a es → IsIn b es → a.serial ≡ b.serial → a ≡ b
serial_alone low next [] a b h is_a is_b same = absurd is_a
serial_alone low next (x ∷ es) a b h (inl ea) (inl eb) same = sym ea ∙ eb
serial_alone low next (x ∷ es) a b h (inl ea) (inr ib) same =
    let above = in_above x.serial next es b h.1 ib in let is : x.serial ≡ a.serial = ap (λ s. s.serial) ea in absurd (omega arith)
serial_alone low next (x ∷ es) a b h (inr ia) (inl eb) same =
    let above = in_above x.serial next es a h.1 ia in let is : x.serial ≡ b.serial = ap (λ s. s.serial) eb in absurd (omega arith)
serial_alone low next (x ∷ es) a b h (inr ia) (inr ib) same = serial_alone x.serial next es a b h.1 ia ib same

-- ---- without the entry of a name

pub in_without : (name : List ℕ) (es : List Entry) (e : Entry) → IsIn e (without_name name es) → IsIn e es × (bytes_eq name e.name ≡ false)
in_without name [] e h = absurd h
in_without name (x ∷ es) e h =
    elim (bytes_eq name x.name) as (λ b. bytes_eq name x.name ≡ b → IsIn e (cond (not b) (x ∷ without_name name es) (without_name name es)) → IsIn e (x ∷ es) × (bytes_eq name e.name ≡ false)) [
      | true ↦ λ _ h. let rest = in_without name es e h in (inr rest.0, rest.1)
      | false ↦ λ is h. first is (in_without name es e) h
    ] refl h
  where
    first : bytes_eq name x.name ≡ false → (IsIn e (without_name name es) → IsIn e es × (bytes_eq name e.name ≡ false)) → IsIn e (x ∷ without_name name es) → IsIn e (x ∷ es) × (bytes_eq name e.name ≡ false)
    first is rest (inl same) = (inl same, ap (λ s. bytes_eq name s.name) (sym same) ∙ is)
    first is rest (inr h) = (inr (rest h).0, (rest h).1)

pub in_still : (name : List ℕ) (es : List Entry) (e : Entry) → IsIn e es → bytes_eq name e.name ≡ false → IsIn e (without_name name es)
in_still name [] e h n = absurd h
in_still name (x ∷ es) e (inl same) n =
    subst (λ b. IsIn e (cond (not b) (x ∷ without_name name es) (without_name name es))) (sym (ap (λ s. bytes_eq name s.name) same ∙ n)) (inl same)
in_still name (x ∷ es) e (inr h) n =
    elim (bytes_eq name x.name) as (λ b. IsIn e (cond (not b) (x ∷ without_name name es) (without_name name es))) [
      | true ↦ in_still name es e h n
      | false ↦ inr (in_still name es e h n)
    ]

-- taking a name away passes over an entry of another
pub without-new : (name : List ℕ) (es : List Entry) (e : Entry) → bytes_eq name e.name ≡ false → without_name name (es ++ e ∷ []) ≡ without_name name es ++ e ∷ []
without-new name [] e h = ap (λ b. cond (not b) (e ∷ []) []) h
without-new name (x ∷ es) e h =
    elim (bytes_eq name x.name) as (λ b. cond (not b) (x ∷ without_name name (es ++ e ∷ [])) (without_name name (es ++ e ∷ [])) ≡ cond (not b) (x ∷ without_name name es) (without_name name es) ++ e ∷ []) [
      | true ↦ without-new name es e h
      | false ↦ ap (λ r. x ∷ r) (without-new name es e h)
    ]

-- a name is found as before after another was taken away
pub named-without : (name gone : List ℕ) (es : List Entry) → bytes_eq gone name ≡ false → entry_named name (without_name gone es) ≡ entry_named name es
named-without name gone [] n = refl
named-without name gone (x ∷ es) n =
    elim (bytes_eq gone x.name) as (λ b. bytes_eq gone x.name ≡ b → entry_named name (cond (not b) (x ∷ without_name gone es) (without_name gone es)) ≡ cond (bytes_eq name x.name) (Some x) (entry_named name es)) [
      | true ↦ λ g. named-without name gone es n ∙ sym (ap (λ b. cond b (Some x) (entry_named name es)) (other g))
      | false ↦ λ _. ap (cond (bytes_eq name x.name) (Some x)) (named-without name gone es n)
    ] refl
  where
    other : bytes_eq gone x.name ≡ true → bytes_eq name x.name ≡ false
    other g = elim (bytes_eq name x.name) as (λ b. bytes_eq name x.name ≡ b → b ≡ false) [
      | true ↦ λ m.
          let one : gone ≡ x.name = (bytes_eq-Decides gone x.name).0 g in
          let two : name ≡ x.name = (bytes_eq-Decides name x.name).0 m in
          let no : true ≡ false = sym ((bytes_eq-Decides gone name).1 (one ∙ sym two)) ∙ n in
          absurd cc
      | false ↦ λ _. refl
    ] refl

-- a name that was taken away isn't there
pub named-gone : (name : List ℕ) (es : List Entry) → entry_named name (without_name name es) ≡ None
named-gone name [] = refl
named-gone name (x ∷ es) =
    elim (bytes_eq name x.name) as (λ b. bytes_eq name x.name ≡ b → entry_named name (cond (not b) (x ∷ without_name name es) (without_name name es)) ≡ None) [
      | true ↦ λ _. named-gone name es
      | false ↦ λ is. ap (λ b. cond b (Some x) (entry_named name (without_name name es))) is ∙ named-gone name es
    ] refl

-- a name that isn't there isn't there after another was taken away
pub none-without : (name gone : List ℕ) (es : List Entry) → entry_named name es ≡ None → entry_named name (without_name gone es) ≡ None
none-without name gone [] h = refl
none-without name gone (x ∷ es) h =
    elim (bytes_eq name x.name) as (λ b. bytes_eq name x.name ≡ b → cond b (Some x) (entry_named name es) ≡ None → entry_named name (cond (not (bytes_eq gone x.name)) (x ∷ without_name gone es) (without_name gone es)) ≡ None) [
      | true ↦ λ _ h. absurd cc
      | false ↦ λ is h. elim (bytes_eq gone x.name) as (λ b. entry_named name (cond (not b) (x ∷ without_name gone es) (without_name gone es)) ≡ None) [
        | true ↦ none-without name gone es h
        | false ↦ ap (λ b. cond b (Some x) (entry_named name (without_name gone es))) is ∙ none-without name gone es h
      ]
    ] refl h

-- what is summed up over the entries is less by what was taken away
abbrev pub weighed : (Entry → ℕ) → List Entry → ℕ
weighed w [] = 0
weighed w (e ∷ es) = w e + weighed w es

pub weighed-without : (w : Entry → ℕ) (name : List ℕ) (es : List Entry) (e : Entry) → IsDistinct bytes_eq (names_in es) → entry_named name es ≡ Some e
    → weighed w (without_name name es) + w e ≡ weighed w es
weighed-without w name [] e h is = absurd cc
weighed-without w name (x ∷ es) e h is =
    elim (bytes_eq name x.name) as (λ b. bytes_eq name x.name ≡ b → cond b (Some x) (entry_named name es) ≡ Some e
    → weighed w (cond (not b) (x ∷ without_name name es) (without_name name es)) + w e ≡ w x + weighed w es) [
      | true ↦ λ t is.
          let same : w x ≡ w e = ap (λ o. option_map_or w o 0) is in
          let all : weighed w (without_name name es) ≡ weighed w es = ap (weighed w) (none_without name es (all_alike name x.name (names_in es) t (IsDistinct-head bytes_eq x.name (names_in es) h))) in
          omega arith
      | false ↦ λ _ is. let rest = weighed-without w name es e (IsDistinct-tail bytes_eq x.name (names_in es) h) is in omega arith
    ] refl is

-- ---- an entry more at the end

pub in-new : (e x : Entry) (es : List Entry) → IsIn e es → IsIn e (es ++ x ∷ [])
in-new e x [] h = absurd h
in-new e x (y ∷ es) (inl is) = inl is
in-new e x (y ∷ es) (inr h) = inr (in-new e x es h)

pub in-last : (x : Entry) (es : List Entry) → IsIn x (es ++ x ∷ [])
in-last x [] = inl refl
in-last x (y ∷ es) = inr (in-last x es)

pub in-append : (e x : Entry) (es : List Entry) → IsIn e (es ++ x ∷ []) → IsIn e es ⊎ (x ≡ e)
in-append e x [] (inl is) = inr is
in-append e x [] (inr h) = absurd h
in-append e x (y ∷ es) (inl is) = inl (inl is)
in-append e x (y ∷ es) (inr h) = elim (in-append e x es h) [ inl r ↦ inl (inr r) | inr is ↦ inr is ]
