-- The names of what stands in a process directory are well-formed.
use Rattle.std.proofs.Common.{◌≡◌, ◌≢◌, ℕ, zero, suc, ◌+◌, ◌≤◌, ◌<◌, ◌/◌, ◌%◌, Bool, true, false, ◌==◌, List, [], ◌∷◌, length, get_or, All, refl, sym, ap, subst, arith, Option, Some}
use Rattle.std.specs.Bool.{if◌then◌else◌}
use Rattle.std.specs.Prelude.{codes, nat_lt}
use Rattle.std.specs.Fmt.{decimal}
use Rattle.std.specs.Fmt.{digit_glyph, digits_onto, digits}
use Rattle.std.proofs.Math.Nat.{mod-lt}
use Rattle.std.proofs.lemmas.Bool.Decides.{nat_tests}
use Rattle.std.proofs.lemmas.List.Elements.{All-cons, All-nil}
use Rattle.kr_tree.specs.pr_base.Paths.{slash, IsName}
use Rattle.kr_tree.proofs.kr_inode.NameLemmas.{name_decides}
use Rattle.kr_tree.specs.declared.place.ProcAt.{ProcAt}
use Rattle.kr_tree.specs.declared.place.ProcAt.TheVariants.{SelfLink, Dir, Cwd, Root, Exe, FdDir, Fd}
use Rattle.kr_tree.specs.Names.{process_names}
use Rattle.kr_view.specs.declared.procs.Lead.{Lead}
use Rattle.kr_view.specs.Component.{Finds}
use Rattle.kr_view.specs.Processes.{LawsOfProcesses}

-- ---- numbers

-- a byte that a name of digits has: no slash, no zero and no dot
IsPlain : ℕ → Type 0
IsPlain b = (b ≢ slash) × (b ≢ 0) × (b ≢ 46)

digit_plain : (d : ℕ) → d < 10 → IsPlain (48 + d)
unfolding IsPlain
digit_plain d l = ((λ e. omega arith), (λ e. omega arith), (λ e. omega arith))

glyph_plain : (d : ℕ) → d < 10 → IsPlain (digit_glyph false d)
glyph_plain d l = let below : nat_lt d 10 ≡ true = grind (arith, nat_tests) in subst IsPlain (sym (ap (λ b. if b then 48 + d else 87 + d) below)) (digit_plain d l)

-- digits before what is plain
onto_plain : (k n : ℕ) (acc : List ℕ) → All IsPlain acc → All IsPlain (digits_onto k 10 false n acc)
onto_plain zero n acc h = h
onto_plain (suc k) n acc h =
    let more : All IsPlain (digit_glyph false (n % 10) ∷ acc) = All-cons IsPlain (digit_glyph false (n % 10)) acc (glyph_plain (n % 10) (mod-lt n (omega arith))) h in
    by (n / 10 == 0) _ _ more (onto_plain k (n / 10) (digit_glyph false (n % 10) ∷ acc) more)
  where
    by : (b : Bool) (xs ys : List ℕ) → All IsPlain xs → All IsPlain ys → All IsPlain (if b then xs else ys)
    by true xs ys p q = p
    by false xs ys p q = q

onto_some : (k n : ℕ) (acc : List ℕ) → acc ≢ [] → digits_onto k 10 false n acc ≢ []
onto_some zero n acc some = some
onto_some (suc k) n acc some = by (n / 10 == 0) _ _ (λ e. absurd cc) (onto_some k (n / 10) (digit_glyph false (n % 10) ∷ acc) (λ e. absurd cc))
  where
    by : (b : Bool) (xs ys : List ℕ) → xs ≢ [] → ys ≢ [] → (if b then xs else ys) ≢ []
    by true xs ys p q = p
    by false xs ys p q = q

decimal_plain : (n : ℕ) → All IsPlain (decimal n)
unfolding digits
decimal_plain n = onto_plain 64 n [] (All-nil IsPlain)

decimal_some : (n : ℕ) → decimal n ≢ []
unfolding digits
decimal_some n = by (n / 10 == 0) _ _ (λ e. absurd cc) (onto_some 63 (n / 10) (digit_glyph false (n % 10) ∷ []) (λ e. absurd cc))
  where
    by : (b : Bool) (xs ys : List ℕ) → xs ≢ [] → ys ≢ [] → (if b then xs else ys) ≢ []
    by true xs ys p q = p
    by false xs ys p q = q

plain_name : (name : List ℕ) → name ≢ [] → All IsPlain name → length name ≤ 255 → IsName name
unfolding IsPlain
plain_name [] some plain short = absurd (some refl)
plain_name (b ∷ bs) some plain short = record {
  some = some;
  short = short;
  no_slash = λ k d l. (plain k d l).0;
  no_zero = λ k d l. (plain k d l).1;
  not_dot = λ e. (plain 0 0 (omega arith)).2 (ap (λ name. get_or name 0 0) e);
  not_dot_dot = λ e. (plain 0 0 (omega arith)).2 (ap (λ name. get_or name 0 0) e);
}

number_name : (n : ℕ) → length (decimal n) ≤ 255 → IsName (decimal n)
number_name n short = plain_name (decimal n) (decimal_some n) (decimal_plain n) short

-- ---- names

head_of : List (List ℕ) → List ℕ
head_of [] = []
head_of (name ∷ names) = name

own_name : (at : ProcAt) → length (head_of (process_names at)) ≤ 255 → IsName (head_of (process_names at))
unfolding head_of
own_name SelfLink short = (name_decides (codes "self")).0 refl
own_name (Dir pid) short = number_name pid short
own_name (Cwd pid) short = (name_decides (codes "cwd")).0 refl
own_name (Root pid) short = (name_decides (codes "root")).0 refl
own_name (Exe pid) short = (name_decides (codes "exe")).0 refl
own_name (FdDir pid) short = (name_decides (codes "fd")).0 refl
own_name (Fd pid fd) short = number_name fd short

-- what the process directory shows stands under a name
pub found_under_name : (finds : Finds) (leads : ProcAt → Lead ℕ) → LawsOfProcesses finds leads → (at : Option ProcAt) (name : List ℕ) (found : ProcAt) → finds at name ≡ Some found → IsName name
unfolding head_of
found_under_name finds leads laws at name found h =
    let same : head_of (process_names found) ≡ name = ap head_of (laws.named at name found h) in
    let short : length (head_of (process_names found)) ≤ 255 = let l = laws.short at name found h in let e = ap length same in omega arith in
    subst IsName same (own_name found short)
