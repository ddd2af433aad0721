-- Sums over the inodes, and counts of entries.
use Rattle.std.specs.FinMap as map
use Rattle.std.proofs.Common.{◌≡◌, Bool, true, false, ◌≢◌, inl, inr, subst, ℕ, zero, suc, ◌+◌, ◌≤◌, ◌<◌, List, [], ◌∷◌, ◌++◌, length, refl, sym, ap, ◌∙◌, arith, Option, Some, None, nat_eq, eq-eqb, add-one}
use Rattle.std.specs.Option.{option_map, option_map_or, option_and_then}
use Rattle.kr_inode.specs.declared.standing.Standing.{Standing}
use Rattle.std.proofs.lemmas.Bool.{cases_eq, ne_eqb}
use Rattle.kr_tree.specs.Tree.{Tree, Inode, Inodes, Entry, root, inode, entries, entries_of, standing, standing_of, above, body_is, is_directory, is_listed}
use Rattle.kr_tree.specs.Changes.{counted, count_limit, with_inode}
use Rattle.kr_inode.proofs.pr_base.MapLemmas.{get-changed_same, get-changed_other}
use Rattle.kr_inode.proofs.BodyLemmas.{listed-is_directory}
use Rattle.kr_tree.specs.Lawful.{sum_below, count_in, directories_in, IsIn, IsCounted, IsSound, HasItsInodes}

-- what f gives at a number, and 0 where nothing is there
abbrev pub value : (Inode → ℕ) → Option Inode → ℕ
value f o = option_map_or f o 0

-- equal below a number
pub sum-same : (f : Inode → ℕ) (m n : Inodes) (k : ℕ) → ((q : ℕ) → q < k → value f (map.get n q) ≡ value f (map.get m q)) → sum_below f n k ≡ sum_below f m k
unfolding sum_below
sum-same f m n zero h = refl
sum-same f m n (suc k) h =
    let here = h k (omega arith) in
    let rest = sum-same f m n k (λ q l. h q (omega arith)) in
    omega arith

-- different at one number
pub sum-changed : (f : Inode → ℕ) (m n : Inodes) (i k : ℕ) → i < k → ((q : ℕ) → q ≢ i → map.get n q ≡ map.get m q)
    → sum_below f n k + value f (map.get m i) ≡ sum_below f m k + value f (map.get n i)
unfolding sum_below
sum-changed f m n i zero l h = absurd (omega arith)
sum-changed f m n i (suc k) l h =
    elim (cases_eq i k) [
      | inl e ↦
          let at_m : value f (map.get m i) ≡ value f (map.get m k) = ap (λ j. value f (map.get m j)) e in
          let at_n : value f (map.get n i) ≡ value f (map.get n k) = ap (λ j. value f (map.get n j)) e in
          let rest = sum-same f m n k (λ q l. ap (value f) (h q (λ is. let no : q ≡ k = is ∙ e in absurd (omega arith)))) in
          omega arith
      | inr d ↦
          let here : value f (map.get n k) ≡ value f (map.get m k) = ap (value f) (h k (λ is. d (sym is))) in
          let rest = sum-changed f m n i k (omega arith) h in
          omega arith
    ]

-- after a change of the one at a number
pub sum-with : (f : Inode → ℕ) (m : Inodes) (k n : ℕ) (g : Inode → Inode) (x : Inode) → map.get m k ≡ Some x → k < n → sum_below f (with_inode k g m) n + f x ≡ sum_below f m n + f (g x)
sum-with f m k n g x at l =
    let changed = sum-changed f m (with_inode k g m) k n l (λ q d. get-changed_other m k g q d) in
    let was : value f (map.get m k) ≡ f x = ap (value f) at in
    let is : value f (map.get (with_inode k g m) k) ≡ f (g x) = ap (value f) (get-changed_same m k g ∙ ap (option_map g) at) in
    omega arith

pub sum-suc : (f : Inode → ℕ) (m : Inodes) (k : ℕ) → sum_below f m (k + 1) ≡ value f (map.get m k) + sum_below f m k
unfolding sum_below
sum-suc f m k = ap (sum_below f m) (add-one k)

-- one of the numbers that are summed up
pub sum-at : (f : Inode → ℕ) (m : Inodes) (i k : ℕ) → i < k → value f (map.get m i) ≤ sum_below f m k
unfolding sum_below
sum-at f m i zero l = absurd (omega arith)
sum-at f m i (suc k) l =
    elim (cases_eq i k) [
      | inl e ↦ let here : value f (map.get m i) ≡ value f (map.get m k) = ap (λ j. value f (map.get m j)) e in omega arith
      | inr d ↦ let rest = sum-at f m i k (omega arith) in omega arith
    ]

-- ---- entries

pub count-new : (i : ℕ) (es : List Entry) (e : Entry) → count_in i (es ++ e ∷ []) ≡ count_in i es + counted (nat_eq i e.inode)
count-new i [] e = omega arith
count-new i (x ∷ es) e = let rest = count-new i es e in omega arith

pub counted-same : (i k : ℕ) → i ≡ k → counted (nat_eq i k) ≡ 1
counted-same i k e = ap counted (eq-eqb i k e)

pub counted-other : (i k : ℕ) → i ≢ k → counted (nat_eq i k) ≡ 0
counted-other i k d = ap counted (ne_eqb i k d)

pub in-counted : (e : Entry) (es : List Entry) → IsIn e es → 0 < count_in e.inode es
in-counted e [] h = absurd h
in-counted e (x ∷ es) (inl is) = let here = counted-same e.inode x.inode (ap (λ e. e.inode) (sym is)) in omega arith
in-counted e (x ∷ es) (inr h) = let rest = in-counted e es h in omega arith

-- directories, where the entries' inodes are so in both trees
pub directories-same : (t u : Tree) (es : List Entry) → ((e : Entry) → IsIn e es → body_is is_directory u e.inode ≡ body_is is_directory t e.inode) → directories_in u es ≡ directories_in t es
directories-same t u [] h = refl
directories-same t u (e ∷ es) h =
    let here : counted (body_is is_directory u e.inode) ≡ counted (body_is is_directory t e.inode) = ap counted (h e (inl refl)) in
    let rest = directories-same t u es (λ e is. h e (inr is)) in
    omega arith

pub directories-new : (t : Tree) (es : List Entry) (e : Entry) → directories_in t (es ++ e ∷ []) ≡ directories_in t es + counted (body_is is_directory t e.inode)
directories-new t [] e = omega arith
directories-new t (x ∷ es) e = let rest = directories-new t es e in omega arith

-- a directory's entry is counted
pub directories-at : (t : Tree) (e : Entry) (es : List Entry) → IsIn e es → counted (body_is is_directory t e.inode) ≤ directories_in t es
directories-at t e [] h = absurd h
directories-at t e (x ∷ es) (inl same) = let here : counted (body_is is_directory t x.inode) ≡ counted (body_is is_directory t e.inode) = ap (λ e. counted (body_is is_directory t e.inode)) same in omega arith
directories-at t e (x ∷ es) (inr h) = let rest = directories-at t e es h in omega arith

-- ---- what is counted is there

pub entries_there : (t : Tree) (dir : ℕ) (e : Entry) → IsIn e (entries t dir) → (x : Inode) × (inode t dir ≡ Some x)
entries_there t dir e h =
    elim (inode t dir) as (λ o. IsIn e (option_map_or (λ x. entries_of x.node.body) o []) → (x : Inode) × (o ≡ Some x)) [
      | None ↦ λ h. absurd h
      | Some x ↦ λ h. (x, refl)
    ] h

named_there : (o : Option Inode) → 0 < value (λ x. x.names) o → (x : Inode) × (o ≡ Some x)
named_there None h = absurd (omega arith)
named_there (Some x) h = (x, refl)

pub there : (t : Tree) → IsSound t → IsCounted t → HasItsInodes t
there t sound counts dir e h =
    let at = entries_there t dir e h in
    let below : dir < t.next = (sound.numbered dir at.0 at.1).1 in
    let one = in-counted e (entries t dir) h in
    let here : value (λ x. count_in e.inode (entries_of x.node.body)) (inode t dir) ≡ count_in e.inode (entries t dir) = counts_entries e.inode (inode t dir) in
    let some = sum-at (λ x. count_in e.inode (entries_of x.node.body)) t.inodes dir t.next below in
    let is = counts.names e.inode in
    named_there (inode t e.inode) (omega arith)
  where
    counts_entries : (i : ℕ) (o : Option Inode) → value (λ x. count_in i (entries_of x.node.body)) o ≡ count_in i (option_map_or (λ x. entries_of x.node.body) o [])
    counts_entries i None = refl
    counts_entries i (Some x) = refl

pub sum-zero : (f : Inode → ℕ) (m : Inodes) (k : ℕ) → ((q : ℕ) → value f (map.get m q) ≡ 0) → sum_below f m k ≡ 0
unfolding sum_below
sum-zero f m zero h = refl
sum-zero f m (suc k) h = let here = h k in let rest = sum-zero f m k h in omega arith

-- ---- what is above is there

root_there : (o : Option Inode) (s : Standing) → option_and_then (λ x. standing_of x.node.body) o ≡ Some s → (x : Inode) × (o ≡ Some x)
root_there None s h = absurd cc
root_there (Some x) s h = (x, refl)

pub standing_there : (t : Tree) → IsSound t → (q : ℕ) (s : Standing) → standing t q ≡ Some s → (x : Inode) × (inode t s.inode ≡ Some x)
standing_there t sound q s is =
    elim (cases_eq q root) [
      | inl e ↦
          let at_root : standing t root ≡ Some s = ap (standing t) (sym e) ∙ is in
          let same : s.inode ≡ root = let both : Some s ≡ Some (record { inode = root; serial = 0 }) = sym at_root ∙ sound.rooted in root_of s both in
          let P : ℕ → Type 0 = λ k. (x : Inode) × (inode t k ≡ Some x) in
          subst P (sym same) (root_there (inode t root) s at_root)
      | inr d ↦ entries_there t s.inode (record { name = (sound.stands q s d is).0; serial = s.serial; inode = q }) (sound.stands q s d is).1
    ]
  where
    root_of : (s : Standing) → Some s ≡ Some (record { inode = root; serial = 0 }) → s.inode ≡ root
    root_of s h = ap (λ o. option_map_or (λ s. s.inode) o 0) h

pub above_there : (t : Tree) → IsSound t → (q up : ℕ) → above t q ≡ Some up → (x : Inode) × (inode t up ≡ Some x)
above_there t sound q up h =
    elim (standing t q) as (λ o. standing t q ≡ o → option_map (λ s. s.inode) o ≡ Some up → (x : Inode) × (inode t up ≡ Some x)) [
      | None ↦ λ _ h. absurd cc
      | Some s ↦ λ is h.
          let e : s.inode ≡ up = ap (λ o. option_map_or (λ k. k) o 0) h in
          let P : ℕ → Type 0 = λ k. (x : Inode) × (inode t k ≡ Some x) in
          subst P e (standing_there t sound q s is)
    ] refl h

-- ---- counts are small

counted-le : (b : Bool) → counted b ≤ 1
counted-le true = omega arith
counted-le false = omega arith

pub directories-le : (t : Tree) (es : List Entry) → directories_in t es ≤ length es
directories-le t [] = omega arith
directories-le t (e ∷ es) = let rest = directories-le t es in let one = counted-le (body_is is_directory t e.inode) in omega arith

pub directories_few : (t : Tree) → IsSound t → IsCounted t → (dir : ℕ) (x : Inode) → inode t dir ≡ Some x → x.directories ≤ count_limit
directories_few t sound counts dir x at =
    let below = (sound.numbered dir x at).1 in
    let some = sum-at (λ z. length (entries_of z.node.body)) t.inodes dir t.next below in
    let here : value (λ z. length (entries_of z.node.body)) (inode t dir) ≡ length (entries_of x.node.body) = ap (value (λ z. length (entries_of z.node.body))) at in
    let is : x.directories ≡ directories_in t (entries_of x.node.body) =
    sym (ap (value (λ z. z.directories)) at) ∙ counts.directories dir ∙ ap (λ o. directories_in t (option_map_or (λ z. entries_of z.node.body) o [])) at in
    let few = directories-le t (entries_of x.node.body) in
    let all = counts.all_names in
    let limit = sound.names_limited in
    omega arith

value-le : (f g : Inode → ℕ) → ((x : Inode) → f x ≤ g x) → (o : Option Inode) → value f o ≤ value g o
value-le f g h None = omega arith
value-le f g h (Some x) = h x

sum-le : (f g : Inode → ℕ) → ((x : Inode) → f x ≤ g x) → (m : Inodes) (n : ℕ) → sum_below f m n ≤ sum_below g m n
unfolding sum_below
sum-le f g h m zero = omega arith
sum-le f g h m (suc n) = let here = value-le f g h (map.get m n) in let rest = sum-le f g h m n in omega arith

count-le : (i : ℕ) (es : List Entry) → count_in i es ≤ length es
count-le i [] = omega arith
count-le i (e ∷ es) = let rest = count-le i es in let one = counted-le (nat_eq i e.inode) in omega arith

pub names_few : (t : Tree) → IsSound t → IsCounted t → (i : ℕ) → value (λ x. x.names) (inode t i) ≤ count_limit + 1
names_few t sound counts i =
    let is = counts.names i in
    let few = sum-le (λ x. count_in i (entries_of x.node.body)) (λ x. length (entries_of x.node.body)) (λ x. count-le i (entries_of x.node.body)) t.inodes t.next in
    let one = counted-le (nat_eq i root) in
    let all = counts.all_names in
    let limit = sound.names_limited in
    omega arith

pub root_directory : (t : Tree) → IsSound t → body_is is_directory t root ≡ true
root_directory t sound = elim (inode t root) as (λ o. option_map_or (λ x. is_listed x.node.body) o false ≡ true → option_map_or (λ x. is_directory x.node.body) o false ≡ true) [
  | None ↦ λ h. absurd cc
  | Some x ↦ λ h. listed-is_directory x.node.body h
] sound.root_listed
