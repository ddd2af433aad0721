-- A process's descriptors name open files, and are counted, after each call.
use Rattle.std.specs.FinMap as map
use Rattle.std.proofs.Common.{◌≡◌, ◌≢◌, ◌≤◌, ◌<◌, ◌+◌, ◌-◌, inl, inr, subst, ℕ, zero, suc, true, false, not, refl, sym, ap, ◌∙◌, arith, cond, Option, Some, None, nat_lt}
use Rattle.std.specs.Prelude.{◌==◌}
use Rattle.std.specs.Option.{option_map, option_map_or}
use Rattle.std.specs.Ordering.{nat_cmp}
use Rattle.std.proofs.lemmas.Bool.{cases_eq}
use Rattle.std.proofs.lemmas.Bool.Decides.{nat_tests}
use Rattle.std.proofs.lemmas.Option.{same_Some, none-some}
use Rattle.kr_files.specs.declared.descs.Descriptor.{Descriptor}
use Rattle.kr_files.specs.Descriptors.{Descriptors, Named, meanings, named_below, named_count}
use Rattle.kr_files.specs.Files.{Counted, Kept, NamesOpenFiles, counted_more, copied, on_table, released, closed, with_copies, without_file}
use Rattle.kr_files.specs.Serves.{Serves}
use Rattle.kr_tree.proofs.pr_base.MapLemmas.{same_values, by_key, get-insert_same, get-insert_other, get-remove_same, get-remove_other, get-changed_same, get-changed_other, get-mapped}
use Rattle.kr_files.proofs.SoundLemmas.{equal_same, equal_other}
use Rattle.kr_files.proofs.CountLemmas.{named_here, get-meanings, none-meanings}

-- one for this number, and nothing for any other
abbrev pub one_at : ℕ → ℕ → ℕ
one_at a n = cond (a == n) 1 0

one_other : (a n : ℕ) → n ≢ a → one_at a n ≡ 0
one_other a n other = ap (λ b. cond b 1 0) (equal_other a n other)

one_same : (a : ℕ) → one_at a a ≡ 1
one_same a = ap (λ b. cond b 1 0) (equal_same a)

here_of : (d : Descriptors) (k n : ℕ) (o : Option Descriptor) → map.get d k ≡ o → named_here (meanings d) n k ≡ option_map_or (λ (x : Descriptor). one_at x.number n) o 0
here_of d k n None e = ap (λ o. option_map_or (λ (y : Named). cond (y.number == n) 1 0) o 0) (none-meanings d k e)
here_of d k n (Some x) e = ap (λ o. option_map_or (λ (y : Named). cond (y.number == n) 1 0) o 0) (get-meanings d k x e)

before : (fd k : ℕ) → k ≤ fd → nat_lt fd k ≡ false
before fd k h = grind (arith, nat_tests)

after : (fd k : ℕ) → fd < k → nat_lt fd k ≡ true
after fd k h = grind (arith, nat_tests)

module _ (d : Descriptors) (fd : ℕ) (x : Descriptor) (free : map.get d fd ≡ None) (n : ℕ) where
  below-insert : (k : ℕ) → named_below (meanings (map.insert d fd x)) n k ≡ named_below (meanings d) n k + cond (nat_lt fd k) (one_at x.number n) 0
  unfolding named_below
  below-insert zero = let e : nat_lt fd 0 ≡ false = before fd 0 (omega arith) in ap (λ b. 0 + cond b (one_at x.number n) 0) (sym e)
  below-insert (suc k) =
      elim (cases_eq k fd) [
        | inl same ↦
            let past : nat_lt fd (suc k) ≡ true = after fd (suc k) (omega arith) in
            let not_yet : nat_lt fd k ≡ false = before fd k (omega arith) in
            let new = here_of (map.insert d fd x) k n (Some x) (ap (map.get (map.insert d fd x)) same ∙ get-insert_same d fd x) in
            let old = here_of d k n None (ap (map.get d) same ∙ free) in
            let so_far = below-insert k ∙ ap (λ b. named_below (meanings d) n k + cond b (one_at x.number n) 0) not_yet in
            let whole = ap (λ b. cond b (one_at x.number n) 0) past in
            omega (arith, new, old, so_far, whole)
        | inr other ↦
            let new = here_of (map.insert d fd x) k n (map.get d k) (get-insert_other d fd x k other) in
            let old = here_of d k n (map.get d k) refl in
            let same_side : nat_lt fd (suc k) ≡ nat_lt fd k = grind (arith, nat_tests) in
            let whole = ap (λ b. cond b (one_at x.number n) 0) same_side in
            omega (arith, new, old, below-insert k, whole)
      ]

  pub count-insert : fd < 1024 → named_count (meanings (map.insert d fd x)) n ≡ named_count (meanings d) n + one_at x.number n
  count-insert h = below-insert 1024 ∙ ap (λ b. named_below (meanings d) n 1024 + cond b (one_at x.number n) 0) (after fd 1024 h)

insert_removed : (d : Descriptors) (fd : ℕ) (x : Descriptor) → map.get d fd ≡ Some x → map.insert (map.remove d fd) fd x ≡ d
insert_removed d fd x here =
    same_values _ _ (by_key (λ q. map.get (map.insert (map.remove d fd) fd x) q ≡ map.get d q) fd
    (get-insert_same (map.remove d fd) fd x ∙ sym here)
    (λ q other. get-insert_other (map.remove d fd) fd x q other ∙ get-remove_other d fd q other))

pub count-remove : (d : Descriptors) (fd : ℕ) (x : Descriptor) (n : ℕ) → map.get d fd ≡ Some x → fd < 1024 → named_count (meanings d) n ≡ named_count (meanings (map.remove d fd)) n + one_at x.number n
count-remove d fd x n here h =
    ap (λ m. named_count (meanings m) n) (sym (insert_removed d fd x here)) ∙ count-insert (map.remove d fd) fd x (get-remove_same d fd) n h

pub count-some : (d : Descriptors) (fd : ℕ) (x : Descriptor) → map.get d fd ≡ Some x → fd < 1024 → 1 ≤ named_count (meanings d) x.number
count-some d fd x here h = let one : one_at x.number x.number ≡ 1 = ap (λ b. cond b 1 0) (equal_same x.number) in omega (arith, count-remove d fd x x.number here h, one)

pub count-none : (d : Descriptors) (n : ℕ) → ((fd : ℕ) (x : Descriptor) → map.get d fd ≡ Some x → x.number ≢ n) → named_count (meanings d) n ≡ 0
unfolding named_below
count-none d n none = upto 1024
  where
    upto : (k : ℕ) → named_below (meanings d) n k ≡ 0
    upto zero = refl
    upto (suc k) =
        elim (map.get d k) as (λ o. map.get d k ≡ o → named_below (meanings d) n (suc k) ≡ 0) [
          | None ↦ λ e. omega (arith, upto k, here_of d k n None e)
          | Some x ↦ λ e. omega (arith, upto k, here_of d k n (Some x) e, one_other x.number n (λ same. none k x e (sym same)))
        ] refl

module _ {M : Type 0} where
  -- nothing is open
  pub serves-empty : (f : Kept M) (d : Descriptors) → f.table.files ≡ map.empty → d ≡ map.empty → Serves f d (λ _. 0)
  serves-empty f d files descs = record {
    names = λ fd x at. absurd (none-some x (sym (map.get-empty nat_cmp fd) ∙ sym (ap (λ m. map.get m fd) descs) ∙ at));
    below = λ fd x at. absurd (none-some x (sym (map.get-empty nat_cmp fd) ∙ sym (ap (λ m. map.get m fd) descs) ∙ at));
    counted = λ n h at. absurd (none-some h (sym (map.get-empty nat_cmp n) ∙ sym (ap (λ m. map.get m n) files) ∙ at));
  }

  module _ (f : Kept M) (d : Descriptors) (others : ℕ → ℕ) (s : Serves f d others) where
    -- each file keeps its count
    pub serves-same : (g : Kept M) → g.keys ≡ f.keys → g.table.last_file ≡ f.table.last_file
        → ((n : ℕ) → option_map (λ (h : Counted M). h.count) (map.get g.table.files n) ≡ option_map (λ (h : Counted M). h.count) (map.get f.table.files n)) → Serves g d others
    serves-same g keys last counts = record {
      names = λ fd x at. ap (λ m. map.get m x.key) keys ∙ s.names fd x at;
      below = λ fd x at. let b = s.below fd x at in (b.0, subst (λ m. x.number ≤ m) (sym last) b.1);
      counted = λ n h at. of_count n h (map.get f.table.files n) refl (sym (ap (option_map (λ (h : Counted M). h.count)) at) ∙ counts n);
    }
      where
        of_count : (n : ℕ) (h : Counted M) (o : Option (Counted M)) → map.get f.table.files n ≡ o → Some h.count ≡ option_map (λ (h : Counted M). h.count) o → h.count ≡ named_count (meanings d) n + others n
        of_count n h None e c = absurd (none-some h.count (sym c))
        of_count n h (Some k) e c = same_Some h.count k.count c ∙ s.counted n k e

    -- one more file, which something else names
    pub serves-add : (g : Kept M) (key : ℕ) (h : Counted M) → h.count ≡ 1 → map.get f.keys key ≡ None → others (f.table.last_file + 1) ≡ 0
        → g.keys ≡ map.insert f.keys key (f.table.last_file + 1) → g.table.files ≡ map.insert f.table.files (f.table.last_file + 1) h → g.table.last_file ≡ f.table.last_file + 1
        → Serves g d (λ n. others n + one_at (f.table.last_file + 1) n)
    serves-add g key h one free nothing keys files last = record {
      names = λ fd x at.
          let away : x.key ≢ key = λ same. none-some x.number (sym free ∙ ap (map.get f.keys) (sym same) ∙ s.names fd x at) in
          ap (λ m. map.get m x.key) keys ∙ get-insert_other f.keys key (f.table.last_file + 1) x.key away ∙ s.names fd x at;
      below = λ fd x at. let b = s.below fd x at in (b.0, omega (arith, b.1, last));
      counted = λ n k at. elim (cases_eq n (f.table.last_file + 1)) [
        | inl same ↦
            let it = same_Some h k (sym (get-insert_same f.table.files (f.table.last_file + 1) h) ∙ sym (ap (map.get (map.insert f.table.files (f.table.last_file + 1) h)) same) ∙ sym (ap (λ m. map.get m n) files) ∙ at) in
            let none = count-none d n (λ fd x at' e. let b = s.below fd x at' in absurd (omega (arith, b.1, e, same))) in
            sym (ap (λ (y : Counted M). y.count) it) ∙ one
            ∙ sym (ap (λ m. m + (others n + one_at (f.table.last_file + 1) n)) none ∙ ap (λ m. 0 + (others m + one_at (f.table.last_file + 1) m)) same
            ∙ omega (arith, nothing, one_same (f.table.last_file + 1)))
        | inr other ↦
            let old = s.counted n k (sym (get-insert_other f.table.files (f.table.last_file + 1) h n other) ∙ sym (ap (λ m. map.get m n) files) ∙ at) in
            omega (arith, old, one_other (f.table.last_file + 1) n other)
      ];
    }

    -- a copy that something else holds
    pub serves-raise : (x : Descriptor) → Serves (copied x f) d (λ n. others n + one_at x.number n)
    serves-raise x = record {
      names = s.names;
      below = s.below;
      counted = λ n k at. elim (cases_eq n x.number) [
        | inl same ↦ raised n k same (map.get f.table.files x.number) refl (sym (get-changed_same f.table.files x.number (counted_more 1)) ∙ sym (ap (map.get (copied x f).table.files) same) ∙ at)
        | inr other ↦
            let old = s.counted n k (sym (get-changed_other f.table.files x.number (counted_more 1) n other) ∙ at) in
            omega (arith, old, one_other x.number n other)
      ];
    }
      where
        raised : (n : ℕ) (k : Counted M) → n ≡ x.number → (o : Option (Counted M)) → map.get f.table.files x.number ≡ o → option_map (counted_more 1) o ≡ Some k → k.count ≡ named_count (meanings d) n + (others n + one_at x.number n)
        raised n k same None e c = absurd (none-some k c)
        raised n k same (Some h) e c =
            let is : h.count + 1 ≡ k.count = ap (λ (y : Counted M). y.count) (same_Some (counted_more 1 h) k c) in
            let old = s.counted n h (ap (map.get f.table.files) same ∙ e) in
            let one : one_at x.number n ≡ 1 = ap (one_at x.number) same ∙ one_same x.number in
            omega (arith, is, old, one)

    -- a descriptor closed
    pub serves-close : (fd : ℕ) (x : Descriptor) → map.get d fd ≡ Some x → Serves (released x f) (map.remove d fd) others
    unfolding closed
    serves-close fd x here =
        let at_old : (q : ℕ) (y : Descriptor) → map.get (map.remove d fd) q ≡ Some y → map.get d q ≡ Some y
        = λ q y at. sym (get-remove_other d fd q (λ same. none-some y (sym (get-remove_same d fd) ∙ sym (ap (map.get (map.remove d fd)) same) ∙ at))) ∙ at in
        let low = (s.below fd x here).0 in
        elim (map.get f.table.files x.number) as (λ o. map.get f.table.files x.number ≡ o
        → Serves {M = M} (record {
          keys = cond (option_map_or (λ (h : Counted M). not (nat_lt 1 h.count)) o false) (map.remove f.keys x.key) f.keys;
          table = option_map_or (λ (h : Counted M). cond (nat_lt 1 h.count) (record f.table { files = map.insert f.table.files x.number (record h { count = h.count - 1 }) }) (without_file x.number h.opened.what f.table)) o f.table;
        }) (map.remove d fd) others) [
          | None ↦ λ e. record {
            names = λ q y at. s.names q y (at_old q y at);
            below = λ q y at. s.below q y (at_old q y at);
            counted = λ n k at.
                let other : n ≢ x.number = λ same. none-some k (sym e ∙ ap (map.get f.table.files) (sym same) ∙ at) in
                omega (arith, s.counted n k at, count-remove d fd x n here low, one_other x.number n other);
          }
          | Some h ↦ λ e. elim (nat_lt 1 h.count) as (λ b. nat_lt 1 h.count ≡ b
              → Serves {M = M} (record {
                keys = cond (not b) (map.remove f.keys x.key) f.keys;
                table = cond b (record f.table { files = map.insert f.table.files x.number (record h { count = h.count - 1 }) }) (without_file x.number h.opened.what f.table);
              }) (map.remove d fd) others) [
                | true ↦ λ many. record {
                  names = λ q y at. s.names q y (at_old q y at);
                  below = λ q y at. s.below q y (at_old q y at);
                  counted = λ n k at. elim (cases_eq n x.number) [
                    | inl same ↦
                        let is : h.count - 1 ≡ k.count = ap (λ (y : Counted M). y.count) (same_Some (record h { count = h.count - 1 }) k (sym (get-insert_same f.table.files x.number (record h { count = h.count - 1 })) ∙ sym (ap (map.get (map.insert f.table.files x.number (record h { count = h.count - 1 }))) same) ∙ at)) in
                        let old = s.counted n h (ap (map.get f.table.files) same ∙ e) in
                        let one : one_at x.number n ≡ 1 = ap (one_at x.number) same ∙ one_same x.number in
                        omega (arith, is, old, one, count-remove d fd x n here low)
                    | inr other ↦
                        let old = s.counted n k (sym (get-insert_other f.table.files x.number (record h { count = h.count - 1 }) n other) ∙ at) in
                        omega (arith, old, count-remove d fd x n here low, one_other x.number n other)
                  ];
                }
                | false ↦ λ few. record {
                  names = λ q y at.
                      let old = at_old q y at in
                      let away : y.key ≢ x.key = λ same.
                      let number : y.number ≡ x.number = same_Some y.number x.number (sym (s.names q y old) ∙ ap (map.get f.keys) same ∙ s.names fd x here) in
                      let some = subst (λ m. 1 ≤ named_count (meanings (map.remove d fd)) m) number (count-some (map.remove d fd) q y at (s.below q y old).0) in
                      let small : h.count ≤ 1 = grind (arith, nat_tests) in
                      omega (arith, s.counted x.number h e, count-remove d fd x x.number here low, one_same x.number, some, small) in
                      get-remove_other f.keys x.key y.key away ∙ s.names q y old;
                  below = λ q y at. s.below q y (at_old q y at);
                  counted = λ n k at.
                      let other : n ≢ x.number = λ same. none-some k (sym (get-remove_same f.table.files x.number) ∙ sym (ap (map.get (map.remove f.table.files x.number)) same) ∙ at) in
                      let old = s.counted n k (sym (get-remove_other f.table.files x.number n other) ∙ at) in
                      omega (arith, old, count-remove d fd x n here low, one_other x.number n other);
                }
              ] refl
        ] refl

    -- what others name stays open where a descriptor is closed
    pub names-close : (fd : ℕ) (x : Descriptor) → map.get d fd ≡ Some x
        → (e : Descriptors) → NamesOpenFiles f e → ((q : ℕ) (y : Descriptor) → map.get e q ≡ Some y → q < 1024) → ((n : ℕ) → named_count (meanings e) n ≤ others n)
        → NamesOpenFiles (released x f) e
    names-close fd x here e names below many q y at =
        elim (map.get f.table.files x.number) as (λ o. map.get f.table.files x.number ≡ o
        → map.get (cond (option_map_or (λ (h : Counted M). not (nat_lt 1 h.count)) o false) (map.remove f.keys x.key) f.keys) y.key ≡ Some y.number) [
          | None ↦ λ _. names q y at
          | Some h ↦ λ there. elim (nat_lt 1 h.count) as (λ b. nat_lt 1 h.count ≡ b → map.get (cond (not b) (map.remove f.keys x.key) f.keys) y.key ≡ Some y.number) [
            | true ↦ λ _. names q y at
            | false ↦ λ few.
                let away : y.key ≢ x.key = λ same.
                let number : y.number ≡ x.number = same_Some y.number x.number (sym (names q y at) ∙ ap (map.get f.keys) same ∙ s.names fd x here) in
                let one = count-some d fd x here (s.below fd x here).0 in
                let two = subst (λ m. 1 ≤ named_count (meanings e) m) number (count-some e q y at (below q y at)) in
                let small : h.count ≤ 1 = grind (arith, nat_tests) in
                omega (arith, s.counted x.number h there, one, two, many x.number, small) in
                get-remove_other f.keys x.key y.key away ∙ names q y at
          ] refl
        ] refl

    -- a copy of all descriptors, which is another process's
    pub serves-fork : Serves (on_table (with_copies (meanings d)) f) d (λ n. others n + named_count (meanings d) n)
    serves-fork = record {
      names = s.names;
      below = s.below;
      counted = λ n k at. copied_count n k (map.get f.table.files n) refl (sym (get-mapped (λ m. counted_more (named_count (meanings d) m)) f.table.files n) ∙ at);
    }
      where
        copied_count : (n : ℕ) (k : Counted M) (o : Option (Counted M)) → map.get f.table.files n ≡ o → option_map (counted_more (named_count (meanings d) n)) o ≡ Some k
            → k.count ≡ named_count (meanings d) n + (others n + named_count (meanings d) n)
        copied_count n k None e c = absurd (none-some k c)
        copied_count n k (Some h) e c =
            let is : h.count + named_count (meanings d) n ≡ k.count = ap (λ (y : Counted M). y.count) (same_Some (counted_more (named_count (meanings d) n) h) k c) in
            omega (arith, is, s.counted n h e)

  -- a free descriptor names what something else named
  pub serves-put : (f : Kept M) (d : Descriptors) (others : ℕ → ℕ) (to : ℕ) (x : Descriptor) → Serves f d (λ n. others n + one_at x.number n)
      → map.get d to ≡ None → to < 1024 → map.get f.keys x.key ≡ Some x.number → x.number ≤ f.table.last_file → Serves f (map.insert d to x) others
  serves-put f d others to x s free low key last = record {
    names = λ q y at. elim (cases_eq q to) [
      | inl same ↦
          let it = same_Some x y (sym (get-insert_same d to x) ∙ sym (ap (map.get (map.insert d to x)) same) ∙ at) in
          subst (λ (z : Descriptor). map.get f.keys z.key ≡ Some z.number) it key
      | inr other ↦ s.names q y (sym (get-insert_other d to x q other) ∙ at)
    ];
    below = λ q y at. elim (cases_eq q to) [
      | inl same ↦
          let it = same_Some x y (sym (get-insert_same d to x) ∙ sym (ap (map.get (map.insert d to x)) same) ∙ at) in
          (omega (arith, same, low), subst (λ (z : Descriptor). z.number ≤ f.table.last_file) it last)
      | inr other ↦ s.below q y (sym (get-insert_other d to x q other) ∙ at)
    ];
    counted = λ n h at. omega (arith, s.counted n h at, count-insert d to x free n low);
  }
