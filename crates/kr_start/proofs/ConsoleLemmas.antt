-- The parts of the console are opened one behind the other.
use Rattle.std.specs.FinMap as map
use Rattle.std.proofs.Common.{◌≡◌, ◌≢◌, ℕ, suc, ◌+◌, ◌≤◌, ◌<◌, Bool, true, false, cond, List, [], Option, Some, None, IsSome, refl, sym, ap, subst, ◌∙◌, arith}
use Rattle.std.specs.Prelude.{nat_lt, is_some}
use Rattle.std.specs.Option.{option_map, option_and_then}
use Rattle.std.proofs.lemmas.Bool.Decides.{nat_tests}
use Rattle.std.proofs.lemmas.Option.{same_Some}
use Rattle.elf_load.proofs.pr_base.MapLemmas.{by_key, get-insert_same, get-insert_other}
use Rattle.law_walks.specs.kr_view.View.{Row}
use Rattle.law_walks.specs.kr_files.declared.opened.Opened.{Opened}
use Rattle.law_walks.specs.kr_files.declared.opened.What.{What}
use Rattle.law_walks.specs.kr_files.Descriptors.{Meanings, Named, lowest_free, IsLowestFree}
use Rattle.law_walks.proofs.kr_files.DescriptorLemmas.{lowest_free-some, lowest_free-none}
use Rattle.law_walks.specs.kr_model.Applied.{open_in}
use Rattle.law_walks.specs.kr_model.Change.{OfFound}
use Rattle.law_walks.specs.kr_model.Lawful.{IsLawful}
use Rattle.law_walks.specs.kr_model.State.{Image, Process, State, process, is_pid, at_pid, with_descs}
use Rattle.kr_ops.proofs.law_lawful.AfterLemmas.{some-of}
use Rattle.kr_ops.proofs.law_lawful.ProcessChangeLemmas.{found, found-passes}
use Rattle.kr_ops.specs.declared.state.State as code
use Rattle.kr_ops.specs.Meaning.{meaning}
use Rattle.kr_ops.specs.Opening.{lowest_of, Opens}
use Rattle.kr_ops.specs.Sound.{IsServed}
use Rattle.kr_start.specs.Start.{first_pid, console, is_console, AreOpenBelow, IsOpenTo}
use Rattle.kr_start.proofs.StartLemmas.{console-keeps}

below-test : (a b : ℕ) → a < b → nat_lt a b ≡ true
below-test a b l = grind (arith, nat_tests)

not-below-test : (a b : ℕ) → b ≤ a → nat_lt a b ≡ false
not-below-test a b l = grind (arith, nat_tests)

not-there : (o : Option Named) → is_some o ≡ false → o ≡ None
not-there None e = refl
not-there (Some x) e = absurd cc

there-is : (o : Option Named) → IsSome o → is_some o ≡ true
there-is None e = absurd cc
there-is (Some x) e = refl

module _ {T : Type 0} where
  -- what the descriptors of the first process are
  own : (s : State T Image) (p : Process T Image) → process first_pid s ≡ Some p → (n : ℕ) → AreOpenBelow n s → (fd : ℕ) → is_some (map.get p.descs fd) ≡ nat_lt fd n
  own s p e n are fd = sym (ap (λ o. is_some (option_and_then (λ (p : Process T Image). map.get p.descs fd) o)) e) ∙ are fd

  pub free-at : (s : State T Image) (p : Process T Image) → process first_pid s ≡ Some p → (n : ℕ) → AreOpenBelow n s → map.get p.descs n ≡ None
  free-at s p e n are = not-there (map.get p.descs n) (own s p e n are n ∙ not-below-test n n (omega arith))

  lowest-free : (s : State T Image) (p : Process T Image) → process first_pid s ≡ Some p → (n : ℕ) → n < 1024 → AreOpenBelow n s → (o : Option ℕ) → lowest_free p.descs 0 ≡ o → o ≡ Some n
  lowest-free s p e n small are None is =
      let there = there-is (map.get p.descs n) (lowest_free-none p.descs 0 is n (omega arith) small) in
      let free = own s p e n are n ∙ not-below-test n n (omega arith) in
      absurd (let no : true ≡ false = sym there ∙ free in cc)
  lowest-free s p e n small are (Some fd) is = ap Some (same (nat_lt fd n) refl (nat_lt n fd) refl)
    where
      least : IsLowestFree p.descs 0 fd
      least = lowest_free-some p.descs 0 fd is

      same : (b : Bool) → nat_lt fd n ≡ b → (c : Bool) → nat_lt n fd ≡ c → fd ≡ n
      same true below c e2 = absurd (let no : false ≡ true = sym (ap is_some least.free) ∙ own s p e n are fd ∙ below in cc)
      same false above true e2 =
          let l : n < fd = grind (arith, nat_tests) in
          let there = there-is (map.get p.descs n) (least.lower_taken n (omega arith) l) in
          absurd (let no : true ≡ false = sym there ∙ own s p e n are n ∙ not-below-test n n (omega arith) in cc)
      same false above false e2 = grind (arith, nat_tests)

  -- the lowest free descriptor is the number of those that are open
  pub lowest-below : (s : State T Image) → IsSome (process first_pid s) → (n : ℕ) → n < 1024 → AreOpenBelow n s → lowest_of first_pid 0 s ≡ Some n
  lowest-below s lives n small are =
      let p = some-of (process first_pid s) lives in
      ap (option_and_then (λ (p : Process T Image). lowest_free p.descs 0)) p.1 ∙ lowest-free s p.0 p.1 n small are (lowest_free p.0.descs 0) refl

  pub same-lowest : (s : State T Image) → IsSome (process first_pid s) → (n fd : ℕ) → n < 1024 → AreOpenBelow n s → lowest_of first_pid 0 s ≡ Some fd → fd ≡ n
  same-lowest s lives n fd small are lowest = same_Some fd n (sym lowest ∙ lowest-below s lives n small are)

  -- one more is then open
  pub open-next : (s : State T Image) (l : IsSome (process first_pid s)) (n : ℕ) (o : Opened (Unit {0})) (m : T) → AreOpenBelow n s → AreOpenBelow (suc n) (open_in first_pid n false o m s)
  open-next s lives n o m are fd = ap (λ o. is_some (option_and_then (λ (p : Process T Image). map.get p.descs fd) o)) after ∙ by_key (λ fd. is_some (map.get new fd) ≡ nat_lt fd (suc n)) n here others fd
    where
      p : (p : Process T Image) × (process first_pid s ≡ Some p)
      p = some-of (process first_pid s) lives

      x : Named
      x = record { number = s.files.last_file + 1; cloexec = false }

      new : Meanings
      new = map.insert p.0.descs n x

      f : Process T Image → Process T Image
      f = with_descs (λ d. map.insert d n x)

      after : process first_pid (open_in first_pid n false o m s) ≡ Some (f p.0)
      after = found first_pid f (λ q. refl) first_pid s.living ∙ ap (option_map (at_pid first_pid f)) p.1 ∙ ap (λ b. Some (cond b (f p.0) p.0)) (found-passes (is_pid first_pid) s.living p.0 p.1)

      here : is_some (map.get new n) ≡ nat_lt n (suc n)
      here = ap is_some (get-insert_same p.0.descs n x) ∙ sym (below-test n (suc n) (omega arith))

      others : (q : ℕ) → q ≢ n → is_some (map.get new q) ≡ nat_lt q (suc n)
      others q d = ap is_some (get-insert_other p.0.descs n x q d) ∙ own s p.0 p.1 n are q ∙ later (nat_lt q n) refl
        where
          later : (b : Bool) → nat_lt q n ≡ b → b ≡ nat_lt q (suc n)
          later true e = sym (below-test q (suc n) (grind (arith, nat_tests)))
          later false e = let above : n ≤ q = grind (arith, nat_tests) in sym (not-below-test q (suc n) (omega arith))

  lives-by : (f : Process T Image → Process T Image) (after q : Option (Process T Image)) → IsSome q → after ≡ option_map f q → IsSome after
  lives-by f after None lives e = absurd cc
  lives-by f after (Some p) lives e = subst (λ o. IsSome o) (sym e) refl

  pub still-lives : (s : State T Image) → IsSome (process first_pid s) → (n : ℕ) (o : Opened (Unit {0})) (m : T) → IsSome (process first_pid (open_in first_pid n false o m s))
  still-lives s lives n o m =
      let f : Process T Image → Process T Image = with_descs (λ d. map.insert d n (record { number = s.files.last_file + 1; cloexec = false })) in
      lives-by (at_pid first_pid f) (process first_pid (open_in first_pid n false o m s)) (process first_pid s) lives (found first_pid f (λ q. refl) first_pid s.living)

  -- what an opening of a part of the console leaves is lawful
  pub part-lawful : (number : T → ℕ) (table : List Row) (s t : State T Image) → IsLawful number table s → IsSome (process first_pid s) → (n : ℕ) → n < 1024 → AreOpenBelow n s
      → (what : What) (read write : Bool) → is_console what ≡ true → ((m : T) → t ≡ open_in first_pid n false (console what read write) m s) → IsLawful number table t
  part-lawful number table s t l lives n small are what read write is opens =
      let p = some-of (process first_pid s) lives in
      subst (IsLawful number table) (sym (opens p.0.cwd.mount))
      (console-keeps number table first_pid s l p.0 p.1 n small (free-at s p.0 p.1 n are) what read write p.0.cwd.mount is)

module _ {T : Type 0} {M : ℕ} where
  -- what a state in which a part was opened means, whatever the mount
  pub part-opens : (s t : code.State T M) (fd n : ℕ) (what : What) (read write : Bool) (name : List ℕ) → [] ≡ name → fd ≡ n
      → Opens first_pid fd false (record { place = None; dir = 0; name = name; what = what; read = read; write = write; append = false; at = 0 }) s t
      → (m : T) → meaning t ≡ open_in first_pid n false (console what read write) m (meaning s)
  part-opens s t fd n what read write name e same opens m =
      opens (record { found = Some m; directory = None }) OfFound m (console what read write) refl
      (ap (λ (name : List ℕ). record { place = None; dir = 0; name = name; what = what; read = read; write = write; append = false; at = 0 }) e)
      ∙ ap (λ fd. open_in first_pid fd false (console what read write) m (meaning s)) same

  pub next-open : (s t : code.State T M) → IsServed t → (n : ℕ) → n < 1024 → IsOpenTo n s → (what : What) (read write : Bool) → is_console what ≡ true
      → ((m : T) → meaning t ≡ open_in first_pid n false (console what read write) m (meaning s)) → IsOpenTo (suc n) t
  next-open s t served n small to what read write is opens =
      let p = some-of (process first_pid (meaning s)) to.lives in
      let m : T = p.0.cwd.mount in
      record {
        view = record {
          number = to.view.number;
          table = to.view.table;
          lawful = part-lawful to.view.number to.view.table (meaning s) (meaning t) to.view.lawful to.lives n small to.below what read write is opens;
          served = served;
        };
        lives = subst (λ x. IsSome (process first_pid x)) (sym (opens m)) (still-lives (meaning s) to.lives n (console what read write) m);
        below = subst (AreOpenBelow (suc n)) (sym (opens m)) (open-next (meaning s) to.lives n (console what read write) m to.below);
        last = let files = ap (λ (x : State T Image). x.files.last_file) (opens m) in let old = to.last in omega arith;
      }
