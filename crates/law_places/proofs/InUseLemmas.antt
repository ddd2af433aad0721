-- What no process uses is none of the places in use: each open file is named by a descriptor.
use Rattle.std.specs.FinMap as map
use Rattle.std.proofs.Common.{◌≡◌, ℕ, zero, suc, ◌+◌, ◌≤◌, ◌<◌, Bool, true, false, cond, not, List, [], ◌∷◌, length, Option, Some, None, refl, sym, ap, subst, ◌∙◌, arith, map as map_list}
use Rattle.std.specs.Prelude.{◌==◌, ◌&&◌, sum}
use Rattle.std.specs.Bool.{if◌then◌else◌}
use Rattle.std.specs.List.{find, list_any}
use Rattle.std.specs.Option.{option_and_then, option_map, option_map_or}
use Rattle.std.proofs.lemmas.Bool.{or_parts, eqb-true}
use Rattle.law_walks.specs.kr_tree.declared.place.Host.{Host}
use Rattle.law_walks.specs.kr_tree.declared.place.Place.{Place}
use Rattle.law_walks.proofs.kr_tree.NameLemmas.{map_some, some_is}
use Rattle.law_walks.specs.kr_files.declared.opened.Opened.{Opened}
use Rattle.law_walks.specs.kr_files.Descriptors.{Meanings, Named, named_below, named_count}
use Rattle.law_walks.specs.kr_files.Files.{Counted, file_at}
use Rattle.law_walks.specs.kr_view.View.{Row}
use Rattle.kr_calm.specs.InUse.{any_opened, is_in_use, is_remembered, open_directory, passes_at, process_remembers, process_uses, remembered_directory}
use Rattle.kr_calm.proofs.UseLemmas.{found-below}
use Rattle.kr_calm.proofs.law_lawful.SumLemmas.{sum-cons}
use Rattle.law_walks.specs.kr_model.Lawful.{IsLawful}
use Rattle.law_walks.specs.kr_model.State.{Image, Process, State, is_pid}
use Rattle.law_places.specs.Uses.{IsUse, Use, is_cwd, is_exe, is_open}

-- ---- tests

-- what is found passes no test that none of a list passes
found_fails : {A : Type 0} (test fails : A → Bool) (xs : List A) (x : A) → find test xs ≡ Some x → list_any fails xs ≡ false → fails x ≡ false
found_fails test fails [] x e none = absurd cc
found_fails test fails (y ∷ xs) x e none =
    let n = or_parts (fails y) (list_any fails xs) none in by (test y) e n.0 (λ e. found_fails test fails xs x e n.1)
  where
    by : (b : Bool) → cond b (Some y) (find test xs) ≡ Some x → fails y ≡ false → (find test xs ≡ Some x → fails x ≡ false) → fails x ≡ false
    by true e here later = ap fails (sym (some_is y x e)) ∙ here
    by false e here later = later e

-- ---- descriptors

-- an open file that descriptors name is named by one of them
abbrev IsNamedBy : Meanings → ℕ → ℕ → Type 0
IsNamedBy d n count = (fd : ℕ) × (x : Named) × (fd < count) × (map.get d fd ≡ Some x) × (x.number ≡ n)

named_once : (d : Meanings) (n count : ℕ) → 1 ≤ named_below d n count → IsNamedBy d n count
unfolding named_below
named_once d n zero some = absurd (omega arith)
named_once d n (suc count) some = by (map.get d count) refl some (λ some. let l = named_once d n count some in (l.0, l.1, omega (arith, l.2), l.3, l.4))
  where
    by : (o : Option Named) → map.get d count ≡ o → 1 ≤ named_below d n count + option_map_or (λ (x : Named). if x.number == n then 1 else 0) o 0 → (1 ≤ named_below d n count → IsNamedBy d n (suc count)) → IsNamedBy d n (suc count)
    by None at some later = later (omega (arith, some))
    by (Some x) at some later = here (x.number == n) refl some
      where
        here : (b : Bool) → (x.number == n) ≡ b → 1 ≤ named_below d n count + (if b then 1 else 0) → IsNamedBy d n (suc count)
        here true is some = (count, x, omega arith, at, eqb-true x.number n is)
        here false is some = later (omega (arith, some))

module _ (fails : Process ℕ Image → Bool) (n : ℕ) where
  -- a process that names an open file, among processes none of which passes a test
  naming : (ps : List (Process ℕ Image)) → 1 ≤ sum (map_list (λ (p : Process ℕ Image). named_count p.descs n) ps) → list_any fails ps ≡ false → (p : Process ℕ Image) × (1 ≤ named_count p.descs n) × (fails p ≡ false)
  naming [] some none = absurd (omega arith)
  naming (p ∷ ps) some none =
      let parts = or_parts (fails p) (list_any fails ps) none in
      by (named_count p.descs n) refl (subst (λ k. 1 ≤ k) (sum-cons (named_count p.descs n) (map_list (λ (p : Process ℕ Image). named_count p.descs n) ps)) some) parts.0 (λ more. naming ps more parts.1)
    where
      by : (k : ℕ) → named_count p.descs n ≡ k → 1 ≤ k + sum (map_list (λ (p : Process ℕ Image). named_count p.descs n) ps) → fails p ≡ false → (1 ≤ sum (map_list (λ (p : Process ℕ Image). named_count p.descs n) ps) → (p : Process ℕ Image) × (1 ≤ named_count p.descs n) × (fails p ≡ false))
          → (p : Process ℕ Image) × (1 ≤ named_count p.descs n) × (fails p ≡ false)
      by zero is some here later = later (omega (arith, some))
      by (suc k) is some here later = (p, omega (arith, is), here)

module _ (table : List Row) (s : State ℕ Image) (lawful : IsLawful (λ m. m) table s) where
  -- what no process has open by its descriptors isn't open
  open_fails : (test : Opened ℕ → Bool) (fails : Process ℕ Image → Bool) → ((p : Process ℕ Image) → fails p ≡ false → any_opened test s.files p.descs ≡ false) → list_any fails s.living ≡ false
      → (n : ℕ) (o : Opened ℕ) → file_at s.files n ≡ Some o → test o ≡ false
  open_fails test fails opens none n o at =
      let h = map_some (λ (h : Counted ℕ). h.opened) (map.get s.files.files n) o at in
      let count = lawful.uses.counts n h.0 h.1 in
      let p = naming fails n s.living (omega (arith, count.0, count.1)) none in
      let x = named_once p.0.descs n 1024 p.1 in
      by p.0 x.0 x.2 (ap (λ m. option_map_or test (option_and_then (λ (x : Named). file_at s.files x.number) m) false) x.3 ∙ ap (λ n. option_map_or test (file_at s.files n) false) x.4 ∙ ap (λ o. option_map_or test o false) at) (opens p.0 p.2) (test o) refl
    where
      by : (p : Process ℕ Image) (fd : ℕ) → fd < 1024 → passes_at test s.files p.descs fd ≡ test o → any_opened test s.files p.descs ≡ false → (b : Bool) → test o ≡ b → b ≡ false
      by p fd low passes none false is = refl
      by p fd low passes none true is = let clash : true ≡ false = sym (found-below test s.files p.descs 1024 fd low (passes ∙ is)) ∙ none in absurd cc

  -- a directory in use passes no test that no directory in use passes
  pub directory_fails : (test : Host → Bool) → is_in_use test s ≡ false → (x : Use) → IsUse s x → x.is_directory ≡ true → test x.place.host ≡ false
  directory_fails test none _ (is_cwd pid p at) dir = (or_parts (test p.cwd.host) _ (found_fails (is_pid pid) (process_uses test s.files) s.living p at none)).0
  directory_fails test none _ (is_exe pid p at) dir = absurd cc
  directory_fails test none _ (is_open n o q at there) dir =
      sym (ap (λ b. option_map_or test (if b then option_map (λ (p : Place ℕ). p.host) o.place else None) false) dir ∙ ap (λ (p : Option (Place ℕ)). option_map_or test (option_map (λ (p : Place ℕ). p.host) p) false) there)
      ∙ open_fails (open_directory test) (process_uses test s.files) (λ p e. (or_parts (test p.cwd.host) _ e).1) none n o at

  -- nor does the directory of an entry that is remembered
  pub remembered_fails : (test : ℕ → Bool) → is_remembered test s ≡ false → (x : Use) → IsUse s x → x.is_directory ≡ false → not (length x.name == 0) ≡ true → test x.dir ≡ false
  remembered_fails test none _ (is_cwd pid p at) file some = absurd cc
  remembered_fails test none _ (is_exe pid p at) file some =
      sym (ap (λ b. b && test p.exe_dir) some) ∙ (or_parts (not (length p.exe_name == 0) && test p.exe_dir) _ (found_fails (is_pid pid) (process_remembers test s.files) s.living p at none)).0
  remembered_fails test none _ (is_open n o q at there) file some =
      sym (ap (λ b. b && test o.dir) some)
      ∙ open_fails (remembered_directory test) (process_remembers test s.files) (λ p e. (or_parts (not (length p.exe_name == 0) && test p.exe_dir) _ e).1) none n o at
