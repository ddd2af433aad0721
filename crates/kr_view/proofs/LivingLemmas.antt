-- A process directory of living processes keeps the laws of process directories.
use Rattle.std.proofs.Common.{◌≡◌, ◌≤◌, ℕ, Bool, true, false, List, [], ◌∷◌, length, Option, Some, None, codes, nat_eq, bytes_eq, refl, sym, ap, subst, ◌∙◌, arith}
use Rattle.std.specs.Bool.{if◌then◌else◌}
use Rattle.std.specs.Fmt.{decimal}
use Rattle.std.specs.Option.{option_map, option_and_then}
use Rattle.std.proofs.lemmas.Bool.{eq-eqb}
use Rattle.std.proofs.lemmas.Fmt.{length-decimal-le}
use Rattle.std.proofs.lemmas.Slice.Eq.{bytes_eq-Decides}
use Rattle.kr_tree.proofs.pr_base.TextLemmas.{some_is, map_some}
use Rattle.kr_tree.specs.declared.place.ProcAt.{ProcAt}
use Rattle.kr_tree.specs.declared.place.ProcAt.TheVariants.{SelfLink, Dir, Cwd, Root, Exe, FdDir, Fd}
use Rattle.kr_tree.specs.Names.{process_names}
use Rattle.kr_view.specs.View.{is_there}
use Rattle.kr_view.specs.Processes.{holder, names_down_to}
use Rattle.kr_view.specs.Living.{Living, Each, first, IsSmall, HasSmallNumbers, names_number, process, in_directory, finds_among, LivingProcessesKeepLaws}

-- what is first is one of those, and passes
first_each : {A : Type 0} (P : A → Type 0) (test : A → Bool) (xs : List A) (x : A) → Each P xs → first test xs ≡ Some x → P x × (test x ≡ true)
first_each P test [] x each h = absurd cc
first_each P test (y ∷ xs) x each h = at (test y) refl h (first_each P test xs x each.1)
  where
    at : (b : Bool) → test y ≡ b → (if b then Some y else first test xs) ≡ Some x → (first test xs ≡ Some x → P x × (test x ≡ true)) → P x × (test x ≡ true)
    at true is h rest = let Q : _ → Type 0 = λ z. P z × (test z ≡ true) in subst Q (some_is y x h) (each.0, is)
    at false is h rest = rest h

-- where one passes that another passes, something is found
first_there : {A : Type 0} (one two : A → Bool) (xs : List A) (x : A) → first one xs ≡ Some x → two x ≡ true → is_there (first two xs) ≡ true
first_there one two [] x h passes = absurd cc
first_there one two (y ∷ xs) x h passes = at (one y) refl h (λ rest. first_there one two xs x rest passes)
  where
    later : (b : Bool) → is_there (first two xs) ≡ true → is_there (if b then Some y else first two xs) ≡ true
    later true h = refl
    later false h = h

    at : (b : Bool) → one y ≡ b → (if b then Some y else first one xs) ≡ Some x → (first one xs ≡ Some x → is_there (first two xs) ≡ true) → is_there (if two y then Some y else first two xs) ≡ true
    at true is h rest = ap (λ b. is_there (if b then Some y else first two xs)) (ap two (some_is y x h) ∙ passes)
    at false is h rest = later (two y) (rest h)

and_then : {A B : Type 0} (f : A → Option B) (o : Option A) (y : B) → option_and_then f o ≡ Some y → (x : A) × (o ≡ Some x) × (f x ≡ Some y)
and_then f None y h = absurd cc
and_then f (Some x) y h = (x, refl, h)

decimal_short : (name : List ℕ) (n : ℕ) → names_number name n ≡ true → IsSmall n → length name ≤ 255
decimal_short name n named small =
    let is : name ≡ decimal n = (bytes_eq-Decides name (decimal n)).0 named in
    let ten = length-decimal-le 10 n (omega arith) (omega arith) (omega arith) in
    omega (arith, ap length is)

-- what is known of what is found: where it stands, by which name, and that the name is short
pub record IsFound (at : Option ProcAt) (name : List ℕ) (found : ProcAt) : Type 0 where
  pub stands : holder found ≡ at
  pub named : process_names found ≡ name ∷ names_down_to at
  pub short : length name ≤ 255

module _ (living : List Living) (small : Each HasSmallNumbers living) where
  in_processes : (name : List ℕ) (found : ProcAt) → finds_among living None name ≡ Some found → IsFound None name found
  in_processes name found h = at (bytes_eq name (codes "self")) refl h
    where
      at : (b : Bool) → bytes_eq name (codes "self") ≡ b → (if b then Some SelfLink else option_map (λ l. Dir l.pid) (first (λ l. names_number name l.pid) living)) ≡ Some found → IsFound None name found
      at true is h =
          let self : name ≡ codes "self" = (bytes_eq-Decides name (codes "self")).0 is in
          let P : ProcAt → Type 0 = λ found. IsFound None name found in
          subst P (some_is SelfLink found h) (record { stands = refl; named = ap (λ n. n ∷ []) (sym self); short = omega (arith, ap length self) })
      at false is h =
          let l = map_some (λ (l : Living). Dir l.pid) (first (λ l. names_number name l.pid) living) found h in
          let own = first_each HasSmallNumbers (λ l. names_number name l.pid) living l.0 small l.1 in
          let P : ProcAt → Type 0 = λ found. IsFound None name found in
          subst P l.2 (record { stands = refl; named = ap (λ n. n ∷ []) (sym ((bytes_eq-Decides name (decimal l.0.pid)).0 own.1)); short = decimal_short name l.0.pid own.1 own.0.0 })

  in_process : (pid : ℕ) (name : List ℕ) (found : ProcAt) → in_directory pid name ≡ Some found → IsFound (Some (Dir pid)) name found
  in_process pid name found h = cwd (bytes_eq name (codes "cwd")) refl h
    where
      is_one : (own : List ℕ) (at : ProcAt) → bytes_eq name own ≡ true → length own ≤ 255 → holder at ≡ Some (Dir pid) → process_names at ≡ own ∷ decimal pid ∷ [] → Some at ≡ Some found → IsFound (Some (Dir pid)) name found
      is_one own at is few stands named h =
          let same : name ≡ own = (bytes_eq-Decides name own).0 is in
          let P : ProcAt → Type 0 = λ found. IsFound (Some (Dir pid)) name found in
          subst P (some_is at found h) (record { stands = stands; named = named ∙ ap (λ n. n ∷ decimal pid ∷ []) (sym same); short = omega (arith, ap length same) })

      fd : (b : Bool) → bytes_eq name (codes "fd") ≡ b → (if b then Some (FdDir pid) else None) ≡ Some found → IsFound (Some (Dir pid)) name found
      fd true is h = is_one (codes "fd") (FdDir pid) is (omega arith) refl refl h
      fd false is h = absurd cc

      exe : (b : Bool) → bytes_eq name (codes "exe") ≡ b → (if b then Some (Exe pid) else if bytes_eq name (codes "fd") then Some (FdDir pid) else None) ≡ Some found → IsFound (Some (Dir pid)) name found
      exe true is h = is_one (codes "exe") (Exe pid) is (omega arith) refl refl h
      exe false is h = fd (bytes_eq name (codes "fd")) refl h

      root : (b : Bool) → bytes_eq name (codes "root") ≡ b → (if b then Some (Root pid) else if bytes_eq name (codes "exe") then Some (Exe pid) else if bytes_eq name (codes "fd") then Some (FdDir pid) else None) ≡ Some found → IsFound (Some (Dir pid)) name found
      root true is h = is_one (codes "root") (Root pid) is (omega arith) refl refl h
      root false is h = exe (bytes_eq name (codes "exe")) refl h

      cwd : (b : Bool) → bytes_eq name (codes "cwd") ≡ b
          → (if b then Some (Cwd pid) else if bytes_eq name (codes "root") then Some (Root pid) else if bytes_eq name (codes "exe") then Some (Exe pid) else if bytes_eq name (codes "fd") then Some (FdDir pid) else None) ≡ Some found
          → IsFound (Some (Dir pid)) name found
      cwd true is h = is_one (codes "cwd") (Cwd pid) is (omega arith) refl refl h
      cwd false is h = root (bytes_eq name (codes "root")) refl h

  in_fds : (pid : ℕ) (name : List ℕ) (found : ProcAt) → option_and_then (λ l. option_map (Fd pid) (first (names_number name) l.fds)) (process living pid) ≡ Some found → IsFound (Some (FdDir pid)) name found
  in_fds pid name found h =
      let l = and_then (λ (l : Living). option_map (Fd pid) (first (names_number name) l.fds)) (process living pid) found h in
      let own = first_each HasSmallNumbers (λ l. nat_eq l.pid pid) living l.0 small l.1 in
      let fd = map_some (Fd pid) (first (names_number name) l.0.fds) found l.2 in
      let is = first_each IsSmall (names_number name) l.0.fds fd.0 own.0.1 fd.1 in
      let P : ProcAt → Type 0 = λ found. IsFound (Some (FdDir pid)) name found in
      subst P fd.2 (record { stands = refl; named = ap (λ n. n ∷ codes "fd" ∷ decimal pid ∷ []) (sym ((bytes_eq-Decides name (decimal fd.0)).0 is.1)); short = decimal_short name fd.0 is.1 is.0 })

  found : (at : Option ProcAt) (name : List ℕ) (found : ProcAt) → finds_among living at name ≡ Some found → IsFound at name found
  found None name at h = in_processes name at h
  found (Some (Dir pid)) name at h = let l = and_then (λ (l : Living). in_directory pid name) (process living pid) at h in in_process pid name at l.2
  found (Some (FdDir pid)) name at h = in_fds pid name at h
  found (Some SelfLink) name at h = absurd cc
  found (Some (Cwd pid)) name at h = absurd cc
  found (Some (Root pid)) name at h = absurd cc
  found (Some (Exe pid)) name at h = absurd cc
  found (Some (Fd pid fd)) name at h = absurd cc

  -- a process that is found shows its working directory
  shown : (name : List ℕ) (pid : ℕ) → finds_among living None name ≡ Some (Dir pid) → is_there (finds_among living (Some (Dir pid)) (codes "cwd")) ≡ true
  shown name pid h = at (bytes_eq name (codes "self")) h
    where
      directed : (o : Option Living) → is_there o ≡ true → is_there (option_and_then (λ l. in_directory pid (codes "cwd")) o) ≡ true
      directed None h = absurd cc
      directed (Some l) h = refl

      at : (b : Bool) → (if b then Some SelfLink else option_map (λ l. Dir l.pid) (first (λ l. names_number name l.pid) living)) ≡ Some (Dir pid) → is_there (option_and_then (λ l. in_directory pid (codes "cwd")) (process living pid)) ≡ true
      at true h = absurd cc
      at false h =
          let l = map_some (λ (l : Living). Dir l.pid) (first (λ l. names_number name l.pid) living) (Dir pid) h in
          let same : l.0.pid ≡ pid = cc in
          directed (process living pid) (first_there (λ l. names_number name l.pid) (λ l. nat_eq l.pid pid) living l.0 l.1 (eq-eqb l.0.pid pid same))

pub living_processes : LivingProcessesKeepLaws
living_processes living leads small texts = record {
  stands = λ at name found_at h. (found living small at name found_at h).stands;
  named = λ at name found_at h. (found living small at name found_at h).named;
  short = λ at name found_at h. (found living small at name found_at h).short;
  shown = shown living small;
  texts = texts;
}
