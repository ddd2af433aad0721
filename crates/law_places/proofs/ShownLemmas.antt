-- What the process directory shows of processes that aren't over it goes on to show.
use Rattle.std.proofs.Common.{◌≡◌, ℕ, Bool, true, false, List, [], ◌∷◌, Option, Some, None, bytes_eq, codes, nat_eq, refl, sym, ap, ◌∙◌, map}
use Rattle.std.specs.Bool.{if◌then◌else◌}
use Rattle.std.specs.Option.{option_map, option_and_then}
use Rattle.std.proofs.lemmas.Bool.{eqb-true}
use Rattle.law_walks.specs.kr_tree.declared.place.ProcAt.{ProcAt}
use Rattle.law_walks.specs.kr_tree.declared.place.ProcAt.TheVariants.{SelfLink, Dir, Cwd, Root, Exe, FdDir, Fd}
use Rattle.law_walks.proofs.kr_tree.NameLemmas.{map_some, some_is, then_some}
use Rattle.law_walks.specs.kr_view.Component.{Finds, is_process_directory}
use Rattle.law_walks.specs.kr_view.Living.{Living, finds_among, first, in_directory, names_number, process}
use Rattle.law_places.specs.Losses.{Losses, PidsStay, pid_of}

abbrev pub FindsStay : Losses → Finds → Finds → Type 0
FindsStay lost f g = (at : Option ProcAt) (name : List ℕ) (found : ProcAt) → f at name ≡ Some found → is_process_directory found ≡ true → lost.over (pid_of found) ≡ false → g at name ≡ Some found

abbrev pub shown_pids : List Living → List ℕ
shown_pids living = map (λ (l : Living). l.pid) living

-- the first of the processes that are shown, by the numbers
first_pid : (test : ℕ → Bool) (living : List Living) → option_map (λ (l : Living). l.pid) (first (λ (l : Living). test l.pid) living) ≡ first test (shown_pids living)
first_pid test [] = refl
first_pid test (l ∷ living) = by (test l.pid) (first_pid test living)
  where
    by : (b : Bool) → option_map (λ (l : Living). l.pid) (first (λ (l : Living). test l.pid) living) ≡ first test (shown_pids living)
        → option_map (λ (l : Living). l.pid) (if b then Some l else first (λ (l : Living). test l.pid) living) ≡ (if b then Some l.pid else first test (shown_pids living))
    by true more = refl
    by false more = more

first_passes : (test : ℕ → Bool) (ns : List ℕ) (n : ℕ) → first test ns ≡ Some n → test n ≡ true
first_passes test [] n e = absurd cc
first_passes test (m ∷ ns) n e = by (test m) refl e (first_passes test ns n)
  where
    by : (b : Bool) → test m ≡ b → (if b then Some m else first test ns) ≡ Some n → (first test ns ≡ Some n → test n ≡ true) → test n ≡ true
    by true is e more = ap test (sym (some_is m n e)) ∙ is
    by false is e more = more e

-- ---- what stands in a directory of the process directory belongs to its process

in_directory_is : (pid : ℕ) (name : List ℕ) (found : ProcAt) → in_directory pid name ≡ Some found → pid_of found ≡ pid
in_directory_is pid name found e = cwd (bytes_eq name (codes "cwd")) e
  where
    fd : (b : Bool) → (if b then Some (FdDir pid) else None) ≡ Some found → pid_of found ≡ pid
    fd true e = ap pid_of (sym (some_is (FdDir pid) found e))
    fd false e = absurd cc

    exe : (b : Bool) → (if b then Some (Exe pid) else if bytes_eq name (codes "fd") then Some (FdDir pid) else None) ≡ Some found → pid_of found ≡ pid
    exe true e = ap pid_of (sym (some_is (Exe pid) found e))
    exe false e = fd (bytes_eq name (codes "fd")) e

    root : (b : Bool) → (if b then Some (Root pid) else if bytes_eq name (codes "exe") then Some (Exe pid) else if bytes_eq name (codes "fd") then Some (FdDir pid) else None) ≡ Some found → pid_of found ≡ pid
    root true e = ap pid_of (sym (some_is (Root pid) found e))
    root false e = exe (bytes_eq name (codes "exe")) e

    cwd : (b : Bool) → (if b then Some (Cwd pid) else if bytes_eq name (codes "root") then Some (Root pid) else if bytes_eq name (codes "exe") then Some (Exe pid) else if bytes_eq name (codes "fd") then Some (FdDir pid) else None) ≡ Some found
        → pid_of found ≡ pid
    cwd true e = ap pid_of (sym (some_is (Cwd pid) found e))
    cwd false e = root (bytes_eq name (codes "root")) e

pub one_process : (living : List Living) (up : ProcAt) (name : List ℕ) (found : ProcAt) → finds_among living (Some up) name ≡ Some found → pid_of found ≡ pid_of up
one_process living (Dir pid) name found e = let l = then_some (λ (l : Living). in_directory pid name) (process living pid) found e in in_directory_is pid name found l.2
one_process living (FdDir pid) name found e =
    let l = then_some (λ (l : Living). option_map (Fd pid) (first (names_number name) l.fds)) (process living pid) found e in
    let fd = map_some (Fd pid) (first (names_number name) l.0.fds) found l.2 in
    ap pid_of (sym fd.2)
one_process living SelfLink name found e = absurd cc
one_process living (Cwd pid) name found e = absurd cc
one_process living (Root pid) name found e = absurd cc
one_process living (Exe pid) name found e = absurd cc
one_process living (Fd pid fd) name found e = absurd cc

-- ---- what stays

module _ (lost : Losses) (living later : List Living) (stay : PidsStay lost (shown_pids living) (shown_pids later)) where
  -- a process that is found by a test of its number is found by it
  found_later : (test : ℕ → Bool) (pid : ℕ) → option_map (λ (l : Living). l.pid) (first (λ (l : Living). test l.pid) living) ≡ Some pid → lost.over pid ≡ false
      → option_map (λ (l : Living). l.pid) (first (λ (l : Living). test l.pid) later) ≡ Some pid
  found_later test pid e still = first_pid test later ∙ stay test pid (sym (first_pid test living) ∙ e) still

  top : (name : List ℕ) (found : ProcAt) → finds_among living None name ≡ Some found → is_process_directory found ≡ true → lost.over (pid_of found) ≡ false → finds_among later None name ≡ Some found
  top name found e dir still = by (bytes_eq name (codes "self")) e
    where
      by : (b : Bool) → (if b then Some SelfLink else option_map (λ (l : Living). Dir l.pid) (first (λ (l : Living). names_number name l.pid) living)) ≡ Some found
          → (if b then Some SelfLink else option_map (λ (l : Living). Dir l.pid) (first (λ (l : Living). names_number name l.pid) later)) ≡ Some found
      by true e = e
      by false e =
          let l = map_some (λ (l : Living). Dir l.pid) (first (λ (l : Living). names_number name l.pid) living) found e in
          let kept : lost.over l.0.pid ≡ false = ap (λ at. lost.over (pid_of at)) l.2 ∙ still in
          let m = map_some (λ (l : Living). l.pid) (first (λ (l : Living). names_number name l.pid) later) l.0.pid (found_later (names_number name) l.0.pid (ap (option_map (λ (l : Living). l.pid)) l.1) kept) in
          ap (option_map (λ (l : Living). Dir l.pid)) m.1 ∙ ap (λ n. Some (Dir n)) m.2 ∙ ap Some l.2

  below : (pid : ℕ) (name : List ℕ) (found : ProcAt) → finds_among living (Some (Dir pid)) name ≡ Some found → lost.over (pid_of found) ≡ false → finds_among later (Some (Dir pid)) name ≡ Some found
  below pid name found e still =
      let l = then_some (λ (l : Living). in_directory pid name) (process living pid) found e in
      let is : nat_eq l.0.pid pid ≡ true = first_passes (λ n. nat_eq n pid) (shown_pids living) l.0.pid (sym (first_pid (λ n. nat_eq n pid) living) ∙ ap (option_map (λ (l : Living). l.pid)) l.1) in
      let same : l.0.pid ≡ pid = eqb-true l.0.pid pid is in
      let kept : lost.over l.0.pid ≡ false = ap lost.over (same ∙ sym (in_directory_is pid name found l.2)) ∙ still in
      let m = map_some (λ (l : Living). l.pid) (process later pid) l.0.pid (found_later (λ n. nat_eq n pid) l.0.pid (ap (option_map (λ (l : Living). l.pid)) l.1) kept) in
      ap (option_and_then (λ (l : Living). in_directory pid name)) m.1 ∙ l.2

  pub finds_stay : FindsStay lost (finds_among living) (finds_among later)
  finds_stay None name found e dir still = top name found e dir still
  finds_stay (Some (Dir pid)) name found e dir still = below pid name found e still
  finds_stay (Some (FdDir pid)) name found e dir still =
      let l = then_some (λ (l : Living). option_map (Fd pid) (first (names_number name) l.fds)) (process living pid) found e in
      let fd = map_some (Fd pid) (first (names_number name) l.0.fds) found l.2 in
      let clash : false ≡ true = ap is_process_directory fd.2 ∙ dir in absurd cc
  finds_stay (Some SelfLink) name found e dir still = absurd cc
  finds_stay (Some (Cwd pid)) name found e dir still = absurd cc
  finds_stay (Some (Root pid)) name found e dir still = absurd cc
  finds_stay (Some (Exe pid)) name found e dir still = absurd cc
  finds_stay (Some (Fd pid fd)) name found e dir still = absurd cc
