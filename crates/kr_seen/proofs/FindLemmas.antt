-- What names stand for, by the numbers that they are the decimal texts of.
use Rattle.std.specs.FinMap as map
use Rattle.std.specs.FinMap.Entries.{below_all}
use Rattle.std.proofs.Common.{◌≡◌, ℕ, suc, ◌≤◌, ◌<◌, ◌^◌, Bool, true, false, cond, List, [], ◌∷◌, Option, Some, None, codes, nat_eq, bytes_eq, refl, sym, ap, subst, ◌∙◌, arith, inl, inr}
use Rattle.std.specs.Prelude.{map as map_list, ◌==◌, ◌&&◌}
use Rattle.std.specs.Bool.{if◌then◌else◌}
use Rattle.std.specs.List.{find}
use Rattle.std.specs.Fmt.{decimal}
use Rattle.std.specs.Option.{option_map, option_and_then, is_some}
use Rattle.std.specs.Ordering.{nat_cmp, eq_by_cmp, is_lt}
use Rattle.std.proofs.lemmas.Bool.{cases_eq}
use Rattle.std.proofs.lemmas.Bool.Decides.{nat_tests}
use Rattle.std.proofs.lemmas.Option.{same_Some, none-some}
use Rattle.std.proofs.lemmas.Slice.Eq.{bytes_eq-Decides}
use lib.Dec.{T}
use Rattle.kr_ops.proofs.pr_base.MapLemmas.{ties-same, ties-other}
use Rattle.kr_ops.specs.kr_tree.declared.place.ProcAt.TheVariants.{SelfLink, Dir, FdDir, Fd}
use Rattle.kr_ops.specs.kr_view.Living.{Living, Each, first, finds_among, in_directory, names_number}
use Rattle.kr_ops.specs.kr_view.View.{is_there}
use Rattle.kr_ops.specs.kr_procfs.Decimals.{number_named}
use Rattle.kr_ops.proofs.kr_procfs.DecimalLemmas.{number_named-text, text-number_named}
use Rattle.kr_ops.specs.kr_files.Descriptors.{Named}
use Rattle.kr_ops.proofs.kr_files.KindLemmas.{same_bools, not_true}
use Rattle.kr_ops.specs.kr_model.Lawful.{ArePids, RiseFrom}
use Rattle.kr_ops.specs.kr_model.ProcessDirectory.{living_of}
use Rattle.kr_ops.specs.kr_model.State.{Image, Process, State, process, named, is_pid}
use Rattle.kr_seen.proofs.NumberedLemmas.{to_living}

-- ---- names of numbers

decimals-apart : (m n : ℕ) → m < 2 ^ 32 → n < 2 ^ 32 → decimal m ≡ decimal n → m ≡ n
decimals-apart m n low high e = same_Some m n (sym (number_named-text m (omega arith)) ∙ ap number_named e ∙ number_named-text n (omega arith))

named-number : (name : List ℕ) (n k : ℕ) → number_named name ≡ Some n → k < 2 ^ 32 → names_number name k ≡ (k == n)
named-number name n k e small =
    let own = text-number_named name n e in
    let low = own.1 in
    same_bools (bytes_eq name (decimal k)) (k == n)
    (λ is. let same : k ≡ n = decimals-apart k n small (omega arith) (sym ((bytes_eq-Decides name (decimal k)).0 is) ∙ own.0) in grind (arith, nat_tests))
    (λ is. let same : k ≡ n = grind (arith, nat_tests) in (bytes_eq-Decides name (decimal k)).1 (own.0 ∙ ap decimal (sym same)))

unnamed-number : (name : List ℕ) (k : ℕ) → number_named name ≡ None → k < 2 ^ 32 → names_number name k ≡ false
unnamed-number name k e small =
    not_true (bytes_eq name (decimal k)) (λ is.
    none-some k (sym e ∙ ap number_named ((bytes_eq-Decides name (decimal k)).0 is) ∙ number_named-text k (omega arith)))

no-key : (name : List ℕ) → number_named name ≡ None → (ks : List ℕ) → Each (λ k. k < 1024) ks → first (names_number name) ks ≡ None
no-key name e [] small = refl
no-key name e (k ∷ ks) small = let low = small.0 in ap (λ b. if b then Some k else first (names_number name) ks) (unnamed-number name k e (omega arith)) ∙ no-key name e ks small.1

pub at-most : (n : ℕ) → n < 2 ^ 32 → n ≤ 2 ^ 32
at-most n below = omega arith

-- ---- processes

module _ {T : Type 0} where
  pub living-process : (pid : ℕ) (ps : List (Process T Image)) → first (λ (l : Living). nat_eq l.pid pid) (map_list to_living ps) ≡ option_map to_living (find (is_pid pid) ps)
  living-process pid [] = refl
  living-process pid (p ∷ ps) = by (nat_eq p.pid pid) (living-process pid ps)
    where
      by : (b : Bool) → first (λ (l : Living). nat_eq l.pid pid) (map_list to_living ps) ≡ option_map to_living (find (is_pid pid) ps)
          → (if b then Some (to_living p) else first (λ (l : Living). nat_eq l.pid pid) (map_list to_living ps)) ≡ option_map to_living (cond b (Some p) (find (is_pid pid) ps))
      by true rest = refl
      by false rest = rest

  no-process : (name : List ℕ) (low next : ℕ) (ps : List (Process T Image)) → number_named name ≡ None → next ≤ 2 ^ 32 → RiseFrom low next (map_list (λ p. p.pid) ps)
      → first (λ (l : Living). names_number name l.pid) (map_list to_living ps) ≡ None
  no-process name low next [] e small rise = refl
  no-process name low next (p ∷ ps) e small rise =
      let below = rise.1 in
      ap (λ b. if b then Some (to_living p) else first (λ (l : Living). names_number name l.pid) (map_list to_living ps)) (unnamed-number name p.pid e (omega arith))
      ∙ no-process name (suc p.pid) next ps e small rise.2

  one-process : (name : List ℕ) (n low next : ℕ) (ps : List (Process T Image)) → number_named name ≡ Some n → next ≤ 2 ^ 32 → RiseFrom low next (map_list (λ p. p.pid) ps)
      → first (λ (l : Living). names_number name l.pid) (map_list to_living ps) ≡ option_map to_living (find (is_pid n) ps)
  one-process name n low next [] e small rise = refl
  one-process name n low next (p ∷ ps) e small rise =
      let below = rise.1 in
      ap (λ b. if b then Some (to_living p) else first (λ (l : Living). names_number name l.pid) (map_list to_living ps)) (named-number name n p.pid e (omega arith))
      ∙ by (p.pid == n) (one-process name n (suc p.pid) next ps e small rise.2)
    where
      by : (b : Bool) → first (λ (l : Living). names_number name l.pid) (map_list to_living ps) ≡ option_map to_living (find (is_pid n) ps)
          → (if b then Some (to_living p) else first (λ (l : Living). names_number name l.pid) (map_list to_living ps)) ≡ option_map to_living (cond b (Some p) (find (is_pid n) ps))
      by true rest = refl
      by false rest = rest

  pub found-pid : (pid : ℕ) (ps : List (Process T Image)) (p : Process T Image) → find (is_pid pid) ps ≡ Some p → p.pid ≡ pid
  found-pid pid [] p e = absurd (none-some p e)
  found-pid pid (q ∷ ps) p e = by (q.pid == pid) refl e (found-pid pid ps p)
    where
      by : (b : Bool) → (q.pid == pid) ≡ b → cond b (Some q) (find (is_pid pid) ps) ≡ Some p → (find (is_pid pid) ps ≡ Some p → p.pid ≡ pid) → p.pid ≡ pid
      by true is e rest = let same : q.pid ≡ pid = grind (arith, nat_tests) in sym (ap (λ (x : Process T Image). x.pid) (same_Some q p e)) ∙ same
      by false is e rest = rest e

module _ {T : Type 0} (s : State T Image) (name : List ℕ) where
  -- in the process directory
  pub own-link : bytes_eq name (codes "self") ≡ true → finds_among (living_of s) None name ≡ Some SelfLink
  own-link is = ap (λ b. if b then Some SelfLink else option_map (λ (l : Living). Dir l.pid) (first (λ (l : Living). names_number name l.pid) (living_of s))) is

  not-own : bytes_eq name (codes "self") ≡ false → finds_among (living_of s) None name ≡ option_map (λ (l : Living). Dir l.pid) (first (λ (l : Living). names_number name l.pid) (living_of s))
  not-own no_link = ap (λ b. if b then Some SelfLink else option_map (λ (l : Living). Dir l.pid) (first (λ (l : Living). names_number name l.pid) (living_of s))) no_link

  pub no-number : ArePids s → s.next_pid ≤ 2 ^ 32 → bytes_eq name (codes "self") ≡ false → number_named name ≡ None → finds_among (living_of s) None name ≡ None
  no-number pids small no_link e = not-own no_link ∙ ap (option_map (λ (l : Living). Dir l.pid)) (no-process name 2 s.next_pid s.living e small pids.living)

  pub process-shown : ArePids s → s.next_pid ≤ 2 ^ 32 → bytes_eq name (codes "self") ≡ false → (n : ℕ) → number_named name ≡ Some n
      → finds_among (living_of s) None name ≡ (if is_some (process n s) then Some (Dir n) else None)
  process-shown pids small no_link n e =
      not-own no_link
      ∙ ap (option_map (λ (l : Living). Dir l.pid)) (one-process name n 2 s.next_pid s.living e small pids.living)
      ∙ by (process n s) refl
    where
      by : (o : Option (Process T Image)) → process n s ≡ o → option_map (λ (l : Living). Dir l.pid) (option_map to_living o) ≡ (if is_some o then Some (Dir n) else None)
      by None e = refl
      by (Some p) e = ap (λ pid. Some (Dir pid)) (found-pid n s.living p e)

  -- in the directory of a process
  pub link-shown : (pid : ℕ) → finds_among (living_of s) (Some (Dir pid)) name ≡ (if is_some (process pid s) then in_directory pid name else None)
  link-shown pid = ap (option_and_then (λ (l : Living). in_directory pid name)) (living-process pid s.living) ∙ by (process pid s)
    where
      by : (o : Option (Process T Image)) → option_and_then (λ (l : Living). in_directory pid name) (option_map to_living o) ≡ (if is_some o then in_directory pid name else None)
      by None = refl
      by (Some p) = refl

-- a process is shown where it lives
pub shown-lives : {T : Type 0} (s : State T Image) (pid : ℕ) → is_there (finds_among (living_of s) (Some (Dir pid)) (codes "cwd")) ≡ is_some (process pid s)
shown-lives s pid = ap is_there (link-shown s (codes "cwd") pid) ∙ by (is_some (process pid s))
  where
    by : (b : Bool) → is_there (if b then in_directory pid (codes "cwd") else None) ≡ b
    by true = refl
    by false = refl

-- ---- descriptors

both_true : (a b : Bool) → T (a && b) → T a × T b
both_true true true h = (tt, tt)
both_true true false h = absurd h
both_true false b h = absurd h

apart : (a n : ℕ) → T (is_lt (nat_cmp a n)) → (n ≡ a → ⊥)
apart a n h same = below_itself a (subst (λ k. T (is_lt (nat_cmp a k))) same h)
  where
    below_itself : (k : ℕ) → T (is_lt (nat_cmp k k)) → ⊥
    below_itself k h = let e : is_lt (nat_cmp k k) ≡ false = grind (arith, nat_tests) in subst T e h

module _ {X : Type 0} where
  above : (a n : ℕ) (x : X) (es : List (ℕ × X)) → T (below_all nat_cmp a es) → map.find nat_cmp n es ≡ Some x → T (is_lt (nat_cmp a n))
  above a n x [] h found = absurd (none-some x found)
  above a n x (e ∷ es) h found =
      elim (cases_eq n e.0) [
        | inl same ↦ subst (λ k. T (is_lt (nat_cmp a k))) (sym same) (both_true _ _ h).0
        | inr other ↦ above a n x es (both_true _ _ h).1 (sym (ap (λ b. cond b (Some e.1) (map.find nat_cmp n es)) (ties-other n e.0 other)) ∙ found)
      ]

  small-keys : (es : List (ℕ × X)) → T (map.is_sorted nat_cmp es) → ((q : ℕ) (x : X) → map.find nat_cmp q es ≡ Some x → q < 1024) → Each (λ k. k < 1024) (map_list (λ e. e.0) es)
  small-keys [] sorted small = tt
  small-keys (e ∷ es) sorted small = (
    small e.0 e.1 (ap (λ b. cond b (Some e.1) (map.find nat_cmp e.0 es)) (ties-same e.0)),
    small-keys es (both_true _ _ sorted).1 (λ q x found.
        small q x (ap (λ b. cond b (Some e.1) (map.find nat_cmp q es)) (ties-other q e.0 (apart e.0 q (above e.0 q x es (both_true _ _ sorted).0 found))) ∙ found)),
  )

  one-key : (name : List ℕ) (n : ℕ) → number_named name ≡ Some n → (es : List (ℕ × X)) → Each (λ k. k < 1024) (map_list (λ e. e.0) es)
      → first (names_number name) (map_list (λ e. e.0) es) ≡ option_map (λ x. n) (map.find nat_cmp n es)
  one-key name n e [] small = refl
  one-key name n e ((k, x) ∷ es) small =
      let low = small.0 in
      ap (λ b. if b then Some k else first (names_number name) (map_list (λ e. e.0) es)) (named-number name n k e (omega arith))
      ∙ elim (cases_eq n k) [
        | inl same ↦
            let is : (k == n) ≡ true = grind (arith, nat_tests) in
            ap (λ b. if b then Some k else first (names_number name) (map_list (λ e. e.0) es)) is
            ∙ ap (λ m. Some m) (sym same)
            ∙ sym (ap (λ b. option_map (λ x. n) (cond b (Some x) (map.find nat_cmp n es))) (subst (λ m. eq_by_cmp nat_cmp n m ≡ true) same (ties-same n)))
        | inr other ↦
            let is : (k == n) ≡ false = grind (arith, nat_tests) in
            ap (λ b. if b then Some k else first (names_number name) (map_list (λ e. e.0) es)) is
            ∙ one-key name n e es small.1
            ∙ sym (ap (λ b. option_map (λ x. n) (cond b (Some x) (map.find nat_cmp n es))) (ties-other n k other))
      ]

  pub keys-small : (m : map.FinMap nat_cmp X) → ((q : ℕ) (x : X) → map.get m q ≡ Some x → q < 1024) → Each (λ k. k < 1024) (map_list (λ e. e.0) (map.entries m))
  keys-small m small = small-keys (map.entries m) (map.entries_sorted m) (λ q x found. small q x (map.get-entries m q ∙ found))

  pub key-found : (name : List ℕ) (n : ℕ) → number_named name ≡ Some n → (m : map.FinMap nat_cmp X) → ((q : ℕ) (x : X) → map.get m q ≡ Some x → q < 1024)
      → first (names_number name) (map_list (λ e. e.0) (map.entries m)) ≡ option_map (λ x. n) (map.get m n)
  key-found name n e m small = one-key name n e (map.entries m) (keys-small m small) ∙ ap (option_map (λ x. n)) (sym (map.get-entries m n))

  pub no-key-found : (name : List ℕ) → number_named name ≡ None → (m : map.FinMap nat_cmp X) → ((q : ℕ) (x : X) → map.get m q ≡ Some x → q < 1024)
      → first (names_number name) (map_list (λ e. e.0) (map.entries m)) ≡ None
  no-key-found name e m small = no-key name e (map_list (λ e. e.0) (map.entries m)) (keys-small m small)

module _ {T : Type 0} (s : State T Image) (small : (pid fd : ℕ) (x : Named) → named pid fd s ≡ Some x → fd < 1024) (name : List ℕ) (pid : ℕ) where
  -- the descriptors of the process that is found
  within : (p : Process T Image) → process pid s ≡ Some p → (q : ℕ) (x : Named) → map.get p.descs q ≡ Some x → q < 1024
  within p e q x there = small pid q x (ap (option_and_then (λ (p : Process T Image). map.get p.descs q)) e ∙ there)

  pub no-descriptor : number_named name ≡ None → finds_among (living_of s) (Some (FdDir pid)) name ≡ None
  no-descriptor e = ap (option_and_then (λ (l : Living). option_map (Fd pid) (first (names_number name) l.fds))) (living-process pid s.living) ∙ by (process pid s) refl
    where
      by : (o : Option (Process T Image)) → process pid s ≡ o → option_and_then (λ (l : Living). option_map (Fd pid) (first (names_number name) l.fds)) (option_map to_living o) ≡ None
      by None is = refl
      by (Some p) is = ap (option_map (Fd pid)) (no-key-found name e p.descs (within p is))

  pub descriptor-shown : (fd : ℕ) → number_named name ≡ Some fd → finds_among (living_of s) (Some (FdDir pid)) name ≡ option_map (λ x. Fd pid fd) (named pid fd s)
  descriptor-shown fd e = ap (option_and_then (λ (l : Living). option_map (Fd pid) (first (names_number name) l.fds))) (living-process pid s.living) ∙ by (process pid s) refl
    where
      twice : (o : Option Named) → option_map (Fd pid) (option_map (λ x. fd) o) ≡ option_map (λ x. Fd pid fd) o
      twice None = refl
      twice (Some x) = refl

      by : (o : Option (Process T Image)) → process pid s ≡ o
          → option_and_then (λ (l : Living). option_map (Fd pid) (first (names_number name) l.fds)) (option_map to_living o) ≡ option_map (λ x. Fd pid fd) (option_and_then (λ (p : Process T Image). map.get p.descs fd) o)
      by None is = refl
      by (Some p) is = ap (option_map (Fd pid)) (key-found name fd e p.descs (within p is)) ∙ twice (map.get p.descs fd)

  pub open-shown : (fd : ℕ) → number_named name ≡ Some fd → (cloexec : Bool) → option_map (λ (x : Named). x.cloexec) (named pid fd s) ≡ Some cloexec → Some (Fd pid fd) ≡ finds_among (living_of s) (Some (FdDir pid)) name
  open-shown fd e cloexec is = sym (descriptor-shown fd e ∙ by (named pid fd s) is)
    where
      by : (o : Option Named) → option_map (λ (x : Named). x.cloexec) o ≡ Some cloexec → option_map (λ (x : Named). Fd pid fd) o ≡ Some (Fd pid fd)
      by None is = absurd (none-some cloexec is)
      by (Some x) is = refl

  pub shut-shown : (fd : ℕ) → number_named name ≡ Some fd → option_map (λ (x : Named). x.cloexec) (named pid fd s) ≡ None → None ≡ finds_among (living_of s) (Some (FdDir pid)) name
  shut-shown fd e is = sym (descriptor-shown fd e ∙ by (named pid fd s) is)
    where
      by : (o : Option Named) → option_map (λ (x : Named). x.cloexec) o ≡ None → option_map (λ (x : Named). Fd pid fd) o ≡ None
      by None is = refl
      by (Some x) is = absurd (none-some x.cloexec (sym is))
