-- The sums of uses while descriptors, working directories and executables come and go.
use Rattle.std.specs.FinMap as map
use Rattle.std.proofs.Common.{◌≡◌, ◌≢◌, subst, ℕ, suc, ◌+◌, ◌-◌, ◌≤◌, ◌<◌, Bool, true, false, nat_lt, List, refl, sym, ap, ◌∙◌, arith, cond, Option, Some, None, IsSome}
use Rattle.std.specs.Prelude.{◌==◌, IfSome}
use Rattle.std.specs.Option.{option_map, option_map_or, option_and_then}
use Rattle.std.specs.Ordering.{nat_cmp}
use Rattle.std.proofs.lemmas.Bool.Decides.{nat_tests}
use Rattle.std.proofs.lemmas.Option.{none-some}
use Rattle.kr_model.specs.pr_base.Maps.{changed}
use Rattle.kr_model.proofs.pr_base.MapLemmas.{by_key, get-insert_same, get-insert_other, get-remove_same, get-remove_other, get-changed_same, get-changed_other}
use Rattle.kr_model.specs.kr_tree.Tree.{Tree, inode}
use Rattle.kr_model.specs.kr_tree.Holds.{holds_at}
use Rattle.kr_model.specs.kr_tree.declared.place.Place.{Place}
use Rattle.kr_model.proofs.kr_tree.NameLemmas.{some_is}
use Rattle.kr_model.specs.kr_files.declared.opened.Opened.{Opened}
use Rattle.kr_model.specs.kr_files.Files.{Table, Counted, counted_more, with_file, with_copy, closed, without_file}
use Rattle.kr_model.specs.Applied.{held_at, released_at}
use Rattle.kr_model.specs.State.{Process, State, inode_of, place_of}
use Rattle.kr_model.specs.Uses.{sum_to, at_inode, uses_of, file_uses, process_uses, names_of_file, AreUses}
use Rattle.law_lawful.specs.Holding.{one_at}
use Rattle.law_lawful.proofs.SumLemmas.{sum-same, sum-changed, sum-more}
use Rattle.law_lawful.proofs.HoldingLemmas.{one-same, one-other, holds-held, holds-released}

-- ---- holds at places

module _ {N : Type 0} (t : Tree) where
  pub held-uses : (o : Option (Place N)) → IfSome o (λ p. IsSome (inode t (inode_of p.host))) → (i : ℕ) → holds_at (held_at o t) i ≡ holds_at t i + at_inode i 1 o
  held-uses None there i = omega arith
  held-uses (Some p) there i = holds-held (inode_of p.host) t there i

  pub released-uses : (o : Option (Place N)) (i : ℕ) → holds_at (released_at o t) i ≡ holds_at t i - at_inode i 1 o
  released-uses None i = omega arith
  released-uses (Some p) i = holds-released (inode_of p.host) t i

module _ {M X : Type 0} where
  -- the sums that uses are, while living processes name some files so much less often than they are counted
  pub record AreCounts (pins extra : ℕ → ℕ) (tree : Tree) (files : Table M) (living : List (Process M X)) : Type 0 where
    pub holds : (i : ℕ) → holds_at tree i ≡ file_uses files i + process_uses living i + pins i
    pub counts : (n : ℕ) (h : Counted M) → map.get files.files n ≡ Some h → (h.count ≡ names_of_file n living + extra n) × (1 ≤ h.count)
    pub numbered : (n : ℕ) (h : Counted M) → map.get files.files n ≡ Some h → n ≤ files.last_file

  pub of-uses : (pins : ℕ → ℕ) (s : State M X) → AreUses pins s → AreCounts pins (λ n. 0) s.tree s.files s.living
  of-uses pins s uses = record {
    holds = uses.holds;
    counts = λ n h e. let count = uses.counts n h e in let one = count.0 in (omega arith, count.1);
    numbered = uses.numbered;
  }

  pub to-uses : (pins extra : ℕ → ℕ) (s : State M X) → AreCounts pins extra s.tree s.files s.living → ((n : ℕ) → extra n ≡ 0) → AreUses pins s
  to-uses pins extra s counts none = record {
    holds = counts.holds;
    counts = λ n h e. let count = counts.counts n h e in let one = count.0 in let zero = none n in (omega arith, count.1);
    numbered = counts.numbered;
  }

  module _ {pins extra : ℕ → ℕ} {t : Tree} {files : Table M} {living : List (Process M X)} (c : AreCounts pins extra t files living) where
    -- ---- an open file more

    new-file-uses : (o : Opened M) (i : ℕ) → file_uses (with_file o files) i ≡ at_inode i 1 o.place + file_uses files i
    new-file-uses o i =
        let number = files.last_file + 1 in
        let new : Counted M = record { opened = o; count = 1 } in
        let m = map.insert files.files number new in
        let all = sum-more (uses_of i) m number in
        let own = ap (λ (x : Option (Counted M)). option_map_or (uses_of i) x 0) (get-insert_same files.files number new) in
        let rest = sum-same (uses_of i) files.files m number (λ q l. ap (λ (x : Option (Counted M)). option_map_or (uses_of i) x 0) (get-insert_other files.files number new q (λ e. let no : q < q = subst (λ r. q < r) (sym e) l in absurd (omega arith)))) in
        let same : number ≡ suc files.last_file = omega arith in
        let whole = ap (sum_to (uses_of i) files.files) same in
        omega arith

    abbrev next_number : ℕ
    next_number = files.last_file + 1

    abbrev new_file : Opened M → Counted M
    new_file o = record { opened = o; count = 1 }

    pub opened-counts : (o : Opened M) (u : Tree) → ((i : ℕ) → holds_at u i ≡ holds_at t i + at_inode i 1 o.place) → names_of_file (files.last_file + 1) living + extra (files.last_file + 1) ≡ 0
        → AreCounts pins (λ n. extra n + one_at (files.last_file + 1) n) u (with_file o files) living
    opened-counts o u holds none = record {
      holds = λ i. let sums = new-file-uses o i in let tree = holds i in let before = c.holds i in omega arith;
      counts = λ n h e. by_key (λ q. map.get (map.insert files.files next_number (new_file o)) q ≡ Some h → (h.count ≡ names_of_file q living + (extra q + one_at next_number q)) × (1 ≤ h.count)) next_number
          (λ e.
          let same = ap (λ (x : Counted M). x.count) (some_is (new_file o) h (sym (get-insert_same files.files next_number (new_file o)) ∙ e)) in
          let one = one-same next_number in
          (omega arith, omega arith))
          (λ q d e.
          let before = c.counts q h (sym (get-insert_other files.files next_number (new_file o) q d) ∙ e) in
          let count = before.0 in
          let other = one-other next_number q d in
          (omega arith, before.1))
          n e;
      numbered = λ n h e. by_key (λ q. map.get (map.insert files.files next_number (new_file o)) q ≡ Some h → q ≤ files.last_file + 1) next_number
          (λ _. omega arith)
          (λ q d e. let before = c.numbered q h (sym (get-insert_other files.files next_number (new_file o) q d) ∙ e) in omega arith) n e;
    }

    -- ---- a descriptor more that names an open file

    more-uses : (i n : ℕ) (o : Option (Place M)) → at_inode i (n + 1) o ≡ at_inode i n o + at_inode i 1 o
    more-uses i n None = refl
    more-uses i n (Some p) = by_test (inode_of p.host == i)
      where
        by_test : (b : Bool) → cond b (n + 1) 0 ≡ cond b n 0 + cond b 1 0
        by_test true = refl
        by_test false = refl

    copied-uses : (n : ℕ) (h : Counted M) → map.get files.files n ≡ Some h → (i : ℕ) → file_uses (with_copy n files) i ≡ file_uses files i + at_inode i 1 h.opened.place
    copied-uses n h e i =
        let m = changed files.files n (counted_more 1) in
        let k = c.numbered n h e in
        let sums = sum-changed (uses_of i) files.files m (suc files.last_file) n (omega arith) (λ q d. get-changed_other files.files n (counted_more 1) q d) in
        let old = ap (λ (o : Option (Counted M)). option_map_or (uses_of i) o 0) e in
        let new = ap (λ (o : Option (Counted M)). option_map_or (uses_of i) o 0) (get-changed_same files.files n (counted_more 1) ∙ ap (option_map (counted_more 1)) e) in
        let more = more-uses i h.count h.opened.place in
        omega arith

    pub copied-counts : (n : ℕ) (h : Counted M) → map.get files.files n ≡ Some h → (u : Tree) → ((i : ℕ) → holds_at u i ≡ holds_at t i + at_inode i 1 h.opened.place)
        → AreCounts pins (λ q. extra q + one_at n q) u (with_copy n files) living
    copied-counts n h is u holds = record {
      holds = λ i. let sums = copied-uses n h is i in let tree = holds i in let before = c.holds i in omega arith;
      counts = λ q g e. by_key (λ q. map.get (changed files.files n (counted_more 1)) q ≡ Some g → (g.count ≡ names_of_file q living + (extra q + one_at n q)) × (1 ≤ g.count)) n
          (λ e.
          let same = ap (λ (x : Counted M). x.count) (some_is (counted_more 1 h) g (sym (get-changed_same files.files n (counted_more 1) ∙ ap (option_map (counted_more 1)) is) ∙ e)) in
          let count = (c.counts n h is).0 in
          let one = one-same n in
          (omega arith, omega arith))
          (λ q d e.
          let before = c.counts q g (sym (get-changed_other files.files n (counted_more 1) q d) ∙ e) in
          let count = before.0 in
          let other = one-other n q d in
          (omega arith, before.1))
          q e;
      numbered = λ q g e. by_key (λ q. map.get (changed files.files n (counted_more 1)) q ≡ Some g → q ≤ files.last_file) n
          (λ _. c.numbered n h is)
          (λ q d e. c.numbered q g (sym (get-changed_other files.files n (counted_more 1) q d) ∙ e)) q e;
    }

    -- ---- a descriptor less

    fewer-uses : (i n : ℕ) (place : Option (Place M)) → 1 ≤ n → at_inode i (n - 1) place + at_inode i 1 place ≡ at_inode i n place
    fewer-uses i n None l = refl
    fewer-uses i n (Some p) l = by_test (inode_of p.host == i)
      where
        by_test : (b : Bool) → cond b (n - 1) 0 + cond b 1 0 ≡ cond b n 0
        by_test true = omega arith
        by_test false = refl

    -- the sums after an entry was changed or taken away
    left-uses : (n i : ℕ) (h : Counted M) (left : map.FinMap nat_cmp (Counted M)) (new : ℕ) → map.get files.files n ≡ Some h → ((q : ℕ) → q ≢ n → map.get left q ≡ map.get files.files q)
        → option_map_or (uses_of i) (map.get left n) 0 ≡ new → new + at_inode i 1 h.opened.place ≡ uses_of i h
        → sum_to (uses_of i) left (suc files.last_file) + at_inode i 1 h.opened.place ≡ file_uses files i
    left-uses n i h left new is others here sums =
        let k = c.numbered n h is in
        let changed = sum-changed (uses_of i) files.files left (suc files.last_file) n (omega arith) others in
        let old = ap (λ (o : Option (Counted M)). option_map_or (uses_of i) o 0) is in
        omega arith

    abbrev fewer_of : Counted M → Counted M
    fewer_of h = record h { count = h.count - 1 }

    abbrev left_files : ℕ → Counted M → Bool → Table M
    left_files n h b = cond b (record files { files = map.insert files.files n (fewer_of h) }) (without_file n h.opened.what files)

    one-left : (n : ℕ) (h : Counted M) → map.get files.files n ≡ Some h → (b : Bool) → nat_lt 1 h.count ≡ b → (i : ℕ) → file_uses (left_files n h b) i + at_inode i 1 h.opened.place ≡ file_uses files i
    one-left n h is true e i =
        left-uses n i h (map.insert files.files n (fewer_of h)) (uses_of i (fewer_of h)) is (λ q d. get-insert_other files.files n (fewer_of h) q d)
        (ap (λ (o : Option (Counted M)). option_map_or (uses_of i) o 0) (get-insert_same files.files n (fewer_of h))) (fewer-uses i h.count h.opened.place (c.counts n h is).1)
    one-left n h is false e i =
        let one : h.count ≡ 1 = let l = (c.counts n h is).1 in grind (arith, nat_tests) in
        left-uses n i h (map.remove files.files n) 0 is (λ q d. get-remove_other files.files n q d)
        (ap (λ (o : Option (Counted M)). option_map_or (uses_of i) o 0) (get-remove_same files.files n)) (let same = ap (λ k. at_inode i k h.opened.place) one in omega arith)

    left-counts : (n : ℕ) (fewer : ℕ → ℕ) → ((q : ℕ) → extra q ≡ fewer q + one_at n q) → (h : Counted M) → map.get files.files n ≡ Some h → (b : Bool) → nat_lt 1 h.count ≡ b
        → (q : ℕ) (g : Counted M) → map.get (left_files n h b).files q ≡ Some g → (g.count ≡ names_of_file q living + fewer q) × (1 ≤ g.count)
    left-counts n fewer less h is true e q g = by_key (λ q. map.get (map.insert files.files n (fewer_of h)) q ≡ Some g → (g.count ≡ names_of_file q living + fewer q) × (1 ≤ g.count)) n
        (λ at.
        let same = ap (λ (x : Counted M). x.count) (some_is (fewer_of h) g (sym (get-insert_same files.files n (fewer_of h)) ∙ at)) in
        let count = (c.counts n h is).0 in
        let one = one-same n in
        let sums = less n in
        let more : 1 < h.count = grind (arith, nat_tests) in
        (omega arith, omega arith))
        (λ q d at.
        let before = c.counts q g (sym (get-insert_other files.files n (fewer_of h) q d) ∙ at) in
        let count = before.0 in
        let other = one-other n q d in
        let sums = less q in
        (omega arith, before.1))
        q
    left-counts n fewer less h is false e q g = by_key (λ q. map.get (map.remove files.files n) q ≡ Some g → (g.count ≡ names_of_file q living + fewer q) × (1 ≤ g.count)) n
        (λ at. absurd (none-some g (sym (get-remove_same files.files n) ∙ at)))
        (λ q d at.
        let before = c.counts q g (sym (get-remove_other files.files n q d) ∙ at) in
        let count = before.0 in
        let other = one-other n q d in
        let sums = less q in
        (omega arith, before.1))
        q

    left-numbered : (n : ℕ) (h : Counted M) → map.get files.files n ≡ Some h → (b : Bool) (q : ℕ) (g : Counted M) → map.get (left_files n h b).files q ≡ Some g → q ≤ (left_files n h b).last_file
    left-numbered n h is true q g = by_key (λ q. map.get (map.insert files.files n (fewer_of h)) q ≡ Some g → q ≤ files.last_file) n (λ _. c.numbered n h is)
        (λ q d at. c.numbered q g (sym (get-insert_other files.files n (fewer_of h) q d) ∙ at)) q
    left-numbered n h is false q g = by_key (λ q. map.get (map.remove files.files n) q ≡ Some g → q ≤ files.last_file) n (λ _. c.numbered n h is)
        (λ q d at. c.numbered q g (sym (get-remove_other files.files n q d) ∙ at)) q

    pub closed-counts : (n : ℕ) (fewer : ℕ → ℕ) → ((q : ℕ) → extra q ≡ fewer q + one_at n q) → AreCounts pins fewer (released_at (place_of files n) t) (closed n files) living
    unfolding closed
    closed-counts n fewer less = by_file (map.get files.files n) refl
      where
        by_file : (o : Option (Counted M)) → map.get files.files n ≡ o
            → AreCounts pins fewer (released_at (option_and_then (λ (o : Opened M). o.place) (option_map (λ (h : Counted M). h.opened) o)) t)
            (option_map_or (λ (h : Counted M). cond (nat_lt 1 h.count) (record files { files = map.insert files.files n (record h { count = h.count - 1 }) }) (without_file n h.opened.what files)) o files) living
        by_file None e = record {
          holds = c.holds;
          counts = λ q g at.
              let before = c.counts q g at in
              let count = before.0 in
              let sums = less q in
              let other = one-other n q (λ is. absurd (none-some g (sym e ∙ ap (map.get files.files) (sym is) ∙ at))) in
              (omega arith, before.1);
          numbered = c.numbered;
        }
        by_file (Some h) e = record {
          holds = λ i.
              let sums = one-left n h e (nat_lt 1 h.count) refl i in
              let tree = released-uses t h.opened.place i in
              let before = c.holds i in
              omega arith;
          counts = left-counts n fewer less h e (nat_lt 1 h.count) refl;
          numbered = left-numbered n h e (nat_lt 1 h.count);
        }

    -- ---- what processes name

    pub living-counts : (fewer : ℕ → ℕ) (others : List (Process M X)) → ((i : ℕ) → process_uses others i ≡ process_uses living i)
        → ((n : ℕ) → names_of_file n others + fewer n ≡ names_of_file n living + extra n) → AreCounts pins fewer t files others
    living-counts fewer others uses names = record {
      holds = λ i. let same = uses i in let before = c.holds i in omega arith;
      counts = λ n h e. let before = c.counts n h e in let count = before.0 in let same = names n in (omega arith, before.1);
      numbered = c.numbered;
    }
