-- The serials of what directories show are small.
use Rattle.std.specs.FinMap as map
use Rattle.std.specs.FinMap.Entries.{below_all}
use Rattle.std.proofs.Common.{◌≡◌, ◌≢◌, inl, inr, subst, ℕ, suc, ◌-◌, ◌<◌, ◌^◌, Bool, true, false, ◌&&◌, List, [], ◌∷◌, refl, sym, ap, ◌∙◌, arith, cond, Some, None, Option}
use Rattle.std.specs.Prelude.{map as map_list, ◌==◌, nat_le}
use Rattle.std.specs.List.{AllByRecursion, filter}
use Rattle.std.specs.Option.{option_map, option_map_or, option_and_then}
use Rattle.std.specs.Ordering.{nat_cmp, is_lt}
use Rattle.std.proofs.lemmas.Bool.{cases_eq}
use Rattle.std.proofs.lemmas.Bool.Decides.{nat_tests}
use Rattle.std.proofs.lemmas.Option.{none-some}
use lib.Dec.{T}
use Rattle.law_lawful.proofs.pr_base.MapLemmas.{ties-same, ties-other}
use Rattle.law_lawful.specs.kr_calls.DirectoryEntries.{record_length}
use Rattle.law_lawful.specs.kr_tree.Lawful.{IsIn}
use Rattle.law_lawful.specs.kr_tree.Tree.{Inode, Node, Entry, Body, Directory, RegularFile, SymbolicLink, ProcessDirectory, entries, entries_of}
use Rattle.law_lawful.specs.kr_tree.declared.place.Host.{Host}
use Rattle.law_lawful.specs.kr_tree.declared.place.Host.TheVariants as host
use Rattle.law_lawful.specs.kr_tree.declared.place.ProcAt.{ProcAt}
use Rattle.law_lawful.specs.kr_tree.declared.place.ProcAt.TheVariants.{SelfLink, Dir, Cwd, Root, Exe, FdDir, Fd}
use Rattle.law_lawful.proofs.kr_tree.NameLemmas.{some_is}
use Rattle.law_lawful.specs.kr_procfs.Objects.{inode_number}
use Rattle.law_lawful.specs.kr_view.View.{Row}
use Rattle.law_lawful.specs.kr_model.Asking.{is_over}
use Rattle.law_lawful.specs.kr_model.DirectoryRows.{Listed, listed_entry, listed_process, with_dots, of_processes, of_process, of_descriptors, shown_by_body, shown_by_process, shown_by, fitting, last_serial, behind}
use Rattle.law_lawful.specs.kr_model.Known.{Known, Family, known, family_of, known_node}
use Rattle.law_lawful.specs.kr_model.Lawful.{IsLawful, RiseFrom}
use Rattle.law_lawful.specs.kr_model.State.{Image, image_layout, Process, State, is_pid, process}
use Rattle.law_lawful.proofs.kr_model.BareLemmas.{found-mapped}
use Rattle.law_allowed.specs.Resting.{HasSmallNumbers}
use Rattle.law_allowed.proofs.NodeLemmas.{known-inode}

-- ---- keys of a map

both-true : (a b : Bool) → T (a && b) → T a × T b
both-true true b h = (tt, h)
both-true false b h = absurd h

not-itself : (k : ℕ) → T (is_lt (nat_cmp k k)) → ⊥
not-itself k h = let e : is_lt (nat_cmp k k) ≡ false = grind (arith, nat_tests) in subst T e h

module _ {X : Type 0} where
  above : (a n : ℕ) (x : X) (es : List (ℕ × X)) → T (below_all nat_cmp a es) → map.find nat_cmp n es ≡ Some x → T (is_lt (nat_cmp a n))
  above a n x [] h found = absurd (none-some x found)
  above a n x (e ∷ es) h found =
      elim (cases_eq n e.0) [
        | inl same ↦ subst (λ k. T (is_lt (nat_cmp a k))) (sym same) (both-true _ _ h).0
        | inr other ↦ above a n x es (both-true _ _ h).1 (sym (ap (λ b. cond b (Some e.1) (map.find nat_cmp n es)) (ties-other n e.0 other)) ∙ found)
      ]

  each-key : (P : ℕ → Type 0) (es : List (ℕ × X)) → T (map.is_sorted nat_cmp es) → ((q : ℕ) (x : X) → map.find nat_cmp q es ≡ Some x → P q) → AllByRecursion P (map_list (λ e. e.0) es)
  each-key P [] sorted all = tt
  each-key P (e ∷ es) sorted all = (
    all e.0 e.1 (ap (λ b. cond b (Some e.1) (map.find nat_cmp e.0 es)) (ties-same e.0)),
    each-key P es (both-true _ _ sorted).1 (λ q x found.
        let apart : q ≢ e.0 = λ same. not-itself e.0 (subst (λ k. T (is_lt (nat_cmp e.0 k))) same (above e.0 q x es (both-true _ _ sorted).0 found)) in
        all q x (ap (λ b. cond b (Some e.1) (map.find nat_cmp q es)) (ties-other q e.0 apart) ∙ found)),
  )

  -- what holds of what is found holds of each key
  pub all-keys : (P : ℕ → Type 0) (m : map.FinMap nat_cmp X) → ((q : ℕ) (x : X) → map.get m q ≡ Some x → P q) → AllByRecursion P (map_list (λ e. e.0) (map.entries m))
  all-keys P m all = each-key P (map.entries m) (map.entries_sorted m) (λ q x found. all q x (map.get-entries m q ∙ found))

-- ---- lists of what is shown

abbrev pub AreSmall : List Listed → Type 0
AreSmall entries = AllByRecursion (λ (e : Listed). e.serial < 2 ^ 63) entries

pub small-fitting : (n : ℕ) (entries : List Listed) → AreSmall entries → AreSmall (fitting n entries)
small-fitting n [] small = tt
small-fitting n (e ∷ es) small =
    let rest = small-fitting (n - record_length e.name) es small.1 in
    elim (nat_le (record_length e.name) n) as (λ b. AreSmall (cond b (e ∷ fitting (n - record_length e.name) es) [])) [ true ↦ (small.0, rest) | false ↦ tt ]

small-filtered : (test : Listed → Bool) (entries : List Listed) → AreSmall entries → AreSmall (filter test entries)
small-filtered test [] small = tt
small-filtered test (e ∷ es) small =
    let rest = small-filtered test es small.1 in
    elim (test e) as (λ b. AreSmall (cond b (e ∷ filter test es) (filter test es))) [ true ↦ (small.0, rest) | false ↦ rest ]

pub small-behind : (at : ℕ) (entries : List Listed) → AreSmall entries → AreSmall (behind at entries)
small-behind at entries small = small-filtered _ entries small

pub small-last : (e : Listed) (entries : List Listed) → AreSmall (e ∷ entries) → last_serial e entries < 2 ^ 63
small-last e [] small = small.0
small-last e (f ∷ entries) small = small-last f entries small.1

-- ---- what is shown of a state

module _ {M : Type 0} (number : M → ℕ) (table : List Row) (pid : ℕ) (s : State M Image) (l : IsLawful number table s) (fits : HasSmallNumbers s.tree s.next_pid) where
  abbrev k : Known
  k = known image_layout pid s

  small-dots : (here above : ℕ) (entries : List Listed) → AreSmall entries → AreSmall (with_dots here above entries)
  small-dots here above entries small = (omega arith, (omega arith, small))

  small-entries : (es : List Entry) → ((e : Entry) → IsIn e es → e.serial < 2 ^ 63) → AreSmall (map_list (listed_entry k) es)
  small-entries [] all = tt
  small-entries (e ∷ es) all = (all e (inl refl), small-entries es (λ f inside. all f (inr inside)))

  small-living : (low : ℕ) (ps : List (Process M Image)) → RiseFrom low s.next_pid (map_list (λ p. p.pid) ps) → AreSmall (map_list (λ (p : Family). listed_process (Dir p.pid)) (map_list (family_of image_layout) ps))
  small-living low [] rise = tt
  small-living low (p ∷ ps) rise = let below = rise.1 in let few = fits.pids in (omega arith, small-living (suc p.pid) ps rise.2)

  small-fds : (owner : ℕ) (fds : List ℕ) → AllByRecursion (λ fd. fd < 1024) fds → AreSmall (map_list (λ fd. listed_process (Fd owner fd)) fds)
  small-fds owner [] all = tt
  small-fds owner (fd ∷ fds) all = let small = all.0 in (omega arith, small-fds owner fds all.1)

  small-descriptors : (owner : ℕ) → AreSmall (of_descriptors k owner)
  small-descriptors owner =
      subst (λ o. AreSmall (option_map_or (λ (p : Family). map_list (λ fd. listed_process (Fd owner fd)) p.fds) o []))
      (sym (found-mapped (family_of image_layout) (is_pid owner) (λ (p : Family). p.pid == owner) (λ p. refl) s.living)) (by (process owner s) refl)
    where
      by : (o : Option (Process M Image)) → process owner s ≡ o → AreSmall (option_map_or (λ (p : Family). map_list (λ fd. listed_process (Fd owner fd)) p.fds) (option_map (family_of image_layout) o) [])
      by None e = tt
      by (Some p) e =
          small-fds owner (map_list (λ x. x.0) (map.entries p.descs))
          (all-keys (λ fd. fd < 1024) p.descs (λ fd x at. (l.descriptors owner fd x (ap (λ (o : Option (Process M Image)). option_and_then (λ p. map.get p.descs fd) o) e ∙ at)).0))

  small-process : (i : ℕ) (at : ProcAt) (entries : List Listed) → shown_by_process k i at ≡ Some entries → AreSmall entries
  small-process i SelfLink entries e = absurd cc
  small-process i (Cwd q) entries e = absurd cc
  small-process i (Root q) entries e = absurd cc
  small-process i (Exe q) entries e = absurd cc
  small-process i (Fd q fd) entries e = absurd cc
  small-process i (Dir q) entries e = by (is_over k (Dir q)) e
    where
      by : (b : Bool) → cond b None (Some (with_dots (inode_number (Dir q)) i (of_process q))) ≡ Some entries → AreSmall entries
      by true e = absurd cc
      by false e = subst AreSmall (some_is _ entries e) (omega arith, (omega arith, (omega arith, (omega arith, (omega arith, (omega arith, tt))))))
  small-process i (FdDir q) entries e = by (is_over k (FdDir q)) e
    where
      by : (b : Bool) → cond b None (Some (with_dots (inode_number (FdDir q)) (inode_number (Dir q)) (of_descriptors k q))) ≡ Some entries → AreSmall entries
      by true e = absurd cc
      by false e = subst AreSmall (some_is _ entries e) (small-dots (inode_number (FdDir q)) (inode_number (Dir q)) (of_descriptors k q) (small-descriptors q))

  small-body : (i : ℕ) (b : Body) → ((e : Entry) → IsIn e (entries_of b) → e.serial < 2 ^ 63) → (shown : List Listed) → shown_by_body k i b ≡ Some shown → AreSmall shown
  small-body i (Directory es None) all shown e = absurd cc
  small-body i (Directory es (Some st)) all shown e = subst AreSmall (some_is _ shown e) (small-dots i st.inode (map_list (listed_entry k) es) (small-entries es all))
  small-body i (ProcessDirectory None) all shown e = absurd cc
  small-body i (ProcessDirectory (Some st)) all shown e = subst AreSmall (some_is _ shown e) (small-dots i st.inode (of_processes k) (omega arith, small-living 2 s.living l.pids.living))
  small-body i (RegularFile bytes) all shown e = absurd cc
  small-body i (SymbolicLink text) all shown e = absurd cc

  -- whatever a directory shows
  pub small-shown : (at : Host) (shown : List Listed) → shown_by k at ≡ Some shown → AreSmall shown
  small-shown (host.Proc i at) shown e = small-process i at shown e
  small-shown (host.Node i) shown e = by (known_node k i) refl e
    where
      by : (o : Option Node) → known_node k i ≡ o → option_map_or (λ (n : Node). shown_by_body k i n.body) o None ≡ Some shown → AreSmall shown
      by None is e = absurd cc
      by (Some n) is e =
          let own = known-inode pid s i n is in
          let listed : entries s.tree i ≡ entries_of n.body = ap (λ (o : Option Inode). option_map_or (λ (x : Inode). entries_of x.node.body) o []) own.1 ∙ ap (λ (n : Node). entries_of n.body) own.2 in
          small-body i n.body (subst (λ es. (e : Entry) → IsIn e es → e.serial < 2 ^ 63) listed (fits.serials i)) shown e
