-- All places stand after a process ended whose directories aren't in use.
use Rattle.std.proofs.Common.{◌≡◌, ◌≢◌, ℕ, zero, suc, Bool, true, false, not, cond, List, [], ◌∷◌, Option, Some, None, refl, sym, ap, subst, ◌∙◌, arith, map as map_list}
use Rattle.std.specs.Prelude.{◌==◌}
use Rattle.std.specs.Bool.{if◌then◌else◌}
use Rattle.std.specs.List.{find, filter}
use Rattle.std.specs.Option.{option_map_or}
use Rattle.std.proofs.lemmas.Bool.{ne_eqb}
use Rattle.std.proofs.lemmas.Bool.Decides.{nat_tests}
use Rattle.kr_calm.specs.pr_base.Texts.{Text}
use Rattle.law_walks.specs.kr_tree.declared.place.Host.{Host}
use Rattle.law_walks.specs.kr_tree.declared.place.Host.TheVariants.{Node, Proc}
use Rattle.law_walks.specs.kr_tree.Tree.{Tree}
use Rattle.law_walks.proofs.kr_tree.NameLemmas.{some_is}
use Rattle.law_walks.specs.kr_view.Component.{Namespace, is_process_directory}
use Rattle.law_walks.specs.kr_view.HostReach.{is_link_at}
use Rattle.law_walks.specs.kr_view.Living.{first}
use Rattle.law_walks.specs.kr_view.View.{Row}
use Rattle.kr_calm.proofs.law_lawful.ChangeLemmas.{every-change-keeps}
use Rattle.law_walks.specs.kr_model.Applied.{close_below, end, gone, orphaned, released_at, with_parent, with_tree}
use Rattle.law_walks.specs.kr_model.Change.{End}
use Rattle.law_walks.specs.kr_model.ProcessDirectory.{space_of}
use Rattle.law_walks.specs.kr_model.State.{Image, Process, State, is_pid, process}
use Rattle.law_walks.specs.Settled.{host_text}
use Rattle.law_places.specs.Following.{Follows, StoodAndStays, pids_of}
use Rattle.law_places.specs.Losses.{HostStays, KeepsAbove, KeepsNames, KeepsTable, KeepsWay, PidsStay, pid_of, process_of}
use Rattle.law_places.specs.Taking.{EndsKeepPlaces}
use Rattle.law_places.specs.Uses.{IsUse, Use, cwd_use, exe_use, is_cwd, is_exe, is_open, open_use}
use Rattle.law_places.proofs.FollowLemmas.{follows_close, follows_itself, follows_living, follows_tree, from_process, pids_mapped, pids_same, released_at_stays}
use Rattle.law_places.proofs.SpaceLemmas.{places_follow}

-- what isn't filtered away was there
pub kept_passes : {A : Type 0} (keep : A → Bool) (test : A → Bool) (away : (x : A) → keep x ≡ false → test x ≡ true → (y : A) → keep y ≡ true → test y ≡ true → ⊥) (xs : List A) (y : A) → find test (filter keep xs) ≡ Some y
    → (keep y ≡ true) × (test y ≡ true) × (find test xs ≡ Some y)
kept_passes keep test away [] y e = absurd cc
kept_passes keep test away (x ∷ xs) y e = by (keep x) refl e (kept_passes keep test away xs y)
  where
    by : (k : Bool) → keep x ≡ k → find test (cond k (x ∷ filter keep xs) (filter keep xs)) ≡ Some y → (find test (filter keep xs) ≡ Some y → (keep y ≡ true) × (test y ≡ true) × (find test xs ≡ Some y))
        → (keep y ≡ true) × (test y ≡ true) × (cond (test x) (Some x) (find test xs) ≡ Some y)
    by true is e later = passed (test x) refl e
      where
        passed : (b : Bool) → test x ≡ b → cond b (Some x) (find test (filter keep xs)) ≡ Some y → (keep y ≡ true) × (test y ≡ true) × (cond (test x) (Some x) (find test xs) ≡ Some y)
        passed true t e = (ap keep (sym (some_is x y e)) ∙ is, ap test (sym (some_is x y e)) ∙ t, ap (λ b. cond b (Some x) (find test xs)) t ∙ e)
        passed false t e = let l = later e in (l.0, l.1, ap (λ b. cond b (Some x) (find test xs)) t ∙ l.2)
    by false is e later = let l = later e in (l.0, l.1, skip (test x) refl l)
      where
        skip : (b : Bool) → test x ≡ b → (keep y ≡ true) × (test y ≡ true) × (find test xs ≡ Some y) → cond (test x) (Some x) (find test xs) ≡ Some y
        skip true t l = absurd (away x is t y l.0 l.1)
        skip false t l = ap (λ b. cond b (Some x) (find test xs)) t ∙ l.2

-- the first process that isn't the one that goes stays the first one
first_left : {X : Type 0} (ended : ℕ) (test : ℕ → Bool) (ps : List (Process ℕ X)) (pid : ℕ) → first test (map_list (λ (p : Process ℕ X). p.pid) ps) ≡ Some pid → (pid == ended) ≡ false
    → first test (map_list (λ (p : Process ℕ X). p.pid) (filter (λ (p : Process ℕ X). not (p.pid == ended)) ps)) ≡ Some pid
first_left {X} ended test [] pid e other = absurd cc
first_left {X} ended test (p ∷ ps) pid e other = by (p.pid == ended) refl (first_left ended test ps pid)
  where
    left : List (Process ℕ X)
    left = filter (λ (p : Process ℕ X). not (p.pid == ended)) ps

    by : (b : Bool) → (p.pid == ended) ≡ b → (first test (map_list (λ (p : Process ℕ X). p.pid) ps) ≡ Some pid → (pid == ended) ≡ false → first test (map_list (λ (p : Process ℕ X). p.pid) left) ≡ Some pid)
        → first test (map_list (λ (p : Process ℕ X). p.pid) (cond (not b) (p ∷ left) left)) ≡ Some pid
    by true is later = passed (test p.pid) e
      where
        passed : (b : Bool) → (if b then Some p.pid else first test (map_list (λ (p : Process ℕ X). p.pid) ps)) ≡ Some pid → first test (map_list (λ (p : Process ℕ X). p.pid) left) ≡ Some pid
        passed true e = let clash : true ≡ false = sym is ∙ ap (λ n. n == ended) (some_is p.pid pid e) ∙ other in absurd cc
        passed false e = later e other
    by false is later = passed (test p.pid) e
      where
        passed : (b : Bool) → (if b then Some p.pid else first test (map_list (λ (p : Process ℕ X). p.pid) ps)) ≡ Some pid → (if b then Some p.pid else first test (map_list (λ (p : Process ℕ X). p.pid) left)) ≡ Some pid
        passed true e = e
        passed false e = later e other

-- ---- of a process nothing in the tree is lost

names_on : (pid : ℕ) (t : Tree) (h : Text) → KeepsNames (process_of pid) t h
names_on pid t [] = tt
names_on pid t (name ∷ h) = (λ d n. refl, names_on pid t h)

way_on : (pid : ℕ) (t : Tree) (h : Text) → KeepsWay (process_of pid) t h
way_on pid t [] = tt
way_on pid t (name ∷ h) = (λ d n. (refl, refl), way_on pid t h)

above_on : (pid : ℕ) (space : Namespace) (g : Text) → KeepsAbove (process_of pid) space g
above_on pid space [] = tt
above_on pid space (name ∷ g) = (way_on pid space.tree (host_text space g), λ d n. refl, above_on pid space g)

table_on : (pid : ℕ) (space : Namespace) → KeepsTable (process_of pid) space
table_on pid space = record { sources = λ k r there. way_on pid space.tree r.text.source; points = λ k r name up there e. names_on pid space.tree (host_text space up) }

host_on : (pid : ℕ) (t : Tree) (x : Host) → is_link_at t x ≡ false → ((i : ℕ) (at : _) → x ≡ Proc i at → pid_of at ≢ pid) → HostStays (process_of pid) x
host_on pid t (Node i) firm other = tt
host_on pid t (Proc i at) firm other = (by (is_process_directory at) firm, ne_eqb (pid_of at) pid (other i at refl))
  where
    by : (b : Bool) → not b ≡ false → b ≡ true
    by true e = refl
    by false e = absurd cc

-- ---- the end

module _ (table : List Row) (one : State ℕ Image) (pid : ℕ) (P : Use → Type 0) where
  abbrev F : State ℕ Image → Type 0
  F s = Follows (process_of pid) P one s

  closes_below : (n : ℕ) (s : State ℕ Image) → F s → F (close_below pid n s)
  unfolding close_below
  closes_below zero s w = w
  closes_below (suc fd) s w = follows_close (process_of pid) P one pid fd (close_below pid fd s) (closes_below fd s w)

  goes : (status : ℕ) (p : Process ℕ Image) (s : State ℕ Image) → F s → F (gone pid status p s)
  goes status p s w =
      let cut = λ (t : Tree). released_at (Some p.exe) (released_at (Some p.cwd) t) in
      let a = follows_tree (process_of pid) P one cut s (λ k. released_at_stays (process_of pid) one (Some p.exe) (released_at (Some p.cwd) s.tree) (released_at_stays (process_of pid) one (Some p.cwd) s.tree k)) w in
      let b = follows_living (process_of pid) P one (λ ps. map_list (orphaned pid) (filter (λ p. not (p.pid == pid)) ps)) (with_tree cut s) stay
      (λ k q e.
      let r = from_process (orphaned pid) pids k (filter (λ p. not (p.pid == pid)) s.living) q e in
      let l = kept_passes (λ (p : Process ℕ Image). not (p.pid == pid)) (is_pid k) (λ x off on y keep test. apart k x y off on keep test) s.living r.0 r.1 in
      (subst P (sym (cwds r.0) ∙ ap cwd_use r.2) (w.cwds k r.0 l.2), subst P (sym (exes r.0) ∙ ap exe_use r.2) (w.exes k r.0 l.2))) a in
      record { user = b.user; inodes = b.inodes; pids = b.pids; cwds = b.cwds; exes = b.exes; opens = b.opens }
    where
      pids : (p : Process ℕ Image) → (orphaned pid p).pid ≡ p.pid
      pids p = elim (p.parent == pid) as (λ b. (cond b (with_parent 1 p) p).pid ≡ p.pid) [ true ↦ refl | false ↦ refl ]

      cwds : (p : Process ℕ Image) → cwd_use (orphaned pid p) ≡ cwd_use p
      cwds p = elim (p.parent == pid) as (λ b. cwd_use (cond b (with_parent 1 p) p) ≡ cwd_use p) [ true ↦ refl | false ↦ refl ]

      exes : (p : Process ℕ Image) → exe_use (orphaned pid p) ≡ exe_use p
      exes p = elim (p.parent == pid) as (λ b. exe_use (cond b (with_parent 1 p) p) ≡ exe_use p) [ true ↦ refl | false ↦ refl ]

      apart : (k : ℕ) (x y : Process ℕ Image) → not (x.pid == pid) ≡ false → (x.pid == k) ≡ true → not (y.pid == pid) ≡ true → (y.pid == k) ≡ true → ⊥
      apart k x y a b c d = grind (arith, nat_tests)

      left : List (Process ℕ Image)
      left = filter (λ p. not (p.pid == pid)) s.living

      stay : PidsStay (process_of pid) (pids_of one) (pids_of s) → PidsStay (process_of pid) (pids_of one) (map_list (λ (p : Process ℕ Image). p.pid) (map_list (orphaned pid) left))
      stay before =
          pids_same (process_of pid) (map_list (λ (p : Process ℕ Image). p.pid) left) (map_list (λ (p : Process ℕ Image). p.pid) (map_list (orphaned pid) left)) (pids_mapped (orphaned pid) pids left) (pids_of one)
          (λ test k e still. first_left pid test s.living k (before test k e still) still)

  ends : (status : ℕ) (s : State ℕ Image) → F s → F (end pid status s)
  ends status s w = let c = close_below pid 1024 s in by c (process pid c) (closes_below 1024 s w)
    where
      by : (c : State ℕ Image) (o : Option (Process ℕ Image)) → F c → F (option_map_or (λ p. gone pid status p c) o c)
      by c None w = w
      by c (Some p) w = goes status p c w

pub ends_keep_places : EndsKeepPlaces
ends_keep_places table mounts pid status s stand lives spared =
    let start = follows_itself (process_of pid) (IsUse s) s (λ k p at. (is_cwd k p at, is_exe k p at)) (λ n o q at there. is_open n o q at there) in
    let w = ends table s pid (IsUse s) status s start in
    places_follow (process_of pid) table s after stand (table_on pid (space_of table s)) (every-change-keeps ℕ (λ m. m) table mounts pid (End status) s stand.lawful lives lives)
    (record {
      user = w.user;
      inodes = w.inodes;
      pids = w.pids;
      cwds = λ k p at. stood (cwd_use p) (is_cwd k p at) (w.cwds k p at);
      exes = λ k p at. stood (exe_use p) (is_exe k p at) (w.exes k p at);
      opens = λ n o q at there. stood (open_use o q) (is_open n o q at there) (w.opens n o q at there);
    })
  where
    after : State ℕ Image
    after = end pid status s

    stood : (x : Use) → IsUse after x → IsUse s x → StoodAndStays (process_of pid) table s x
    stood x is was =
        let stands = stand.uses x was in
        record {
          stood = stands;
          keeps = record {
            host = λ called. host_on pid s.tree x.place.host (stands.called called).1.on.firm (λ i at e. spared x i at is e);
            guest = λ called guest at. record { way = way_on pid s.tree (host_text (space_of table s) guest); above = λ _. above_on pid (space_of table s) guest };
          };
        }
