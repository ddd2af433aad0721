-- What is asked of a state's processes.
use Rattle.std.specs.FinMap as map
use Rattle.std.proofs.Common.{◌≡◌, ℕ, zero, suc, ◌+◌, ◌<◌, List, [], ◌∷◌, length, get_or, take, refl, sym, ap, subst, ◌∙◌, Bool, true, false, cond, arith, Option, Some, None}
use Rattle.std.specs.Prelude.{map as map_list, ◌||◌, ◌&&◌, ◌==◌}
use Rattle.std.specs.List.{find, list_any}
use Rattle.std.specs.Option.{option_map, option_and_then}
use Rattle.law_lawful.specs.kr_files.declared.descs.Descriptor.{Descriptor}
use Rattle.law_lawful.specs.kr_files.Descriptors.{Named, cloexec_of}
use Rattle.law_lawful.specs.kr_files.Files.{file_at, opened_at}
use Rattle.law_lawful.specs.kr_model.State as model
use Rattle.kr_ops.specs.declared.state.Process.{Process}
use Rattle.kr_ops.specs.declared.state.State.{State}
use Rattle.kr_ops.specs.Living.{HasPid}
use Rattle.kr_ops.specs.Meaning.{meaning}
use Rattle.kr_ops.specs.Sound.{IsSound}
use Rattle.kr_ops.proofs.ChangeLemmas.{to_named, named-at}
use Rattle.kr_ops.proofs.ListLemmas.{same-test, apart-test}

-- ---- tests of children

pub both-pass : (a b : ℕ) (meant : Bool) → a ≡ b → meant ≡ true → (a == b && meant) ≡ true
both-pass a b meant e passes = ap (λ x. x && meant) (same-test a b e) ∙ passes

pub number-fails : (a b : ℕ) (meant : Bool) → (a ≡ b → ⊥) → (a == b && meant) ≡ false
number-fails a b meant d = ap (λ x. x && meant) (apart-test a b d)

pub meant-fails : (a b : ℕ) (meant : Bool) → meant ≡ false → (a == b && meant) ≡ false
meant-fails a b meant fails = by (a == b)
  where
    by : (x : Bool) → (x && meant) ≡ false
    by true = fails
    by false = refl

-- ---- a search for one that passes a test

module _ {A B : Type 0} (f : A → B) (test : B → Bool) where
  pub some-passes : (xs : List A) (k : ℕ) (x : A) → k < length xs → x ≡ get_or xs k x → test (f x) ≡ true → list_any test (map_list f xs) ≡ true
  some-passes [] k x l e passes = absurd (let none : k < 0 = l in omega arith)
  some-passes (y ∷ ys) zero x l e passes = ap (λ b. b || list_any test (map_list f ys)) (ap (λ z. test (f z)) (sym e) ∙ passes)
  some-passes (y ∷ ys) (suc k) x l e passes = by (test (f y)) (some-passes ys k x (omega arith) e passes)
    where
      by : (b : Bool) → list_any test (map_list f ys) ≡ true → (b || list_any test (map_list f ys)) ≡ true
      by true rest = refl
      by false rest = rest

  one-more : (xs : List A) (k : ℕ) (x : A) → k < length xs → x ≡ get_or xs k x → test (f x) ≡ false → list_any test (map_list f (take k xs)) ≡ false → list_any test (map_list f (take (suc k) xs)) ≡ false
  one-more [] k x l e fails before = refl
  one-more (y ∷ ys) zero x l e fails before = ap (λ b. b || false) (ap (λ z. test (f z)) (sym e) ∙ fails)
  one-more (y ∷ ys) (suc k) x l e fails before = by (test (f y)) before (one-more ys k x (omega arith) e fails)
    where
      by : (b : Bool) → (b || list_any test (map_list f (take k ys))) ≡ false → (list_any test (map_list f (take k ys)) ≡ false → list_any test (map_list f (take (suc k) ys)) ≡ false)
          → (b || list_any test (map_list f (take (suc k) ys))) ≡ false
      by true none rest = absurd cc
      by false none rest = rest none

  pub next-fails : (xs : List A) (k : ℕ) (x : A) → k < length xs → x ≡ get_or xs k x → test (f x) ≡ false → list_any test (map_list f (take k xs)) ≡ false → list_any test (map_list f (take (k + 1) xs)) ≡ false
  next-fails xs k x l e fails before =
      let next : suc k ≡ k + 1 = omega arith in
      subst (λ n. list_any test (map_list f (take n xs)) ≡ false) next (one-more xs k x l e fails before)

module _ {A : Type 0} (test : A → Bool) where
  -- the first one that passes
  pub first-here : (xs : List A) (k : ℕ) (x : A) → k < length xs → x ≡ get_or xs k x → test x ≡ true → find test (take k xs) ≡ None → Some x ≡ find test xs
  first-here [] k x l e passes before = absurd (let none : k < 0 = l in omega arith)
  first-here (y ∷ ys) zero x l e passes before = ap (λ z. Some z) e ∙ sym (ap (λ b. cond b (Some y) (find test ys)) (ap test (sym e) ∙ passes))
  first-here (y ∷ ys) (suc k) x l e passes before = by (test y) before (first-here ys k x (omega arith) e passes)
    where
      by : (b : Bool) → cond b (Some y) (find test (take k ys)) ≡ None → (find test (take k ys) ≡ None → Some x ≡ find test ys) → Some x ≡ cond b (Some y) (find test ys)
      by true none rest = absurd cc
      by false none rest = rest none

  none-more : (xs : List A) (k : ℕ) (x : A) → k < length xs → x ≡ get_or xs k x → test x ≡ false → find test (take k xs) ≡ None → find test (take (suc k) xs) ≡ None
  none-more [] k x l e fails before = refl
  none-more (y ∷ ys) zero x l e fails before = ap (λ b. cond b (Some y) None) (ap test (sym e) ∙ fails)
  none-more (y ∷ ys) (suc k) x l e fails before = by (test y) before (none-more ys k x (omega arith) e fails)
    where
      by : (b : Bool) → cond b (Some y) (find test (take k ys)) ≡ None → (find test (take k ys) ≡ None → find test (take (suc k) ys) ≡ None) → cond b (Some y) (find test (take (suc k) ys)) ≡ None
      by true none rest = absurd cc
      by false none rest = rest none

  pub none-next : (xs : List A) (k : ℕ) (x : A) → k < length xs → x ≡ get_or xs k x → test x ≡ false → find test (take k xs) ≡ None → find test (take (k + 1) xs) ≡ None
  none-next xs k x l e fails before =
      let next : suc k ≡ k + 1 = omega arith in
      subst (λ n. find test (take n xs) ≡ None) next (none-more xs k x l e fails before)

-- ---- descriptors

module _ {T : Type 0} {M : ℕ} (s : State T M) (pid k : ℕ) (p : Process T M) (sound : IsSound s) (h : HasPid pid k s.living.items) (e : p ≡ get_or s.living.items k p) where
  pub opened-same : (fd : ℕ) → opened_at s.files p.descs fd ≡ model.opened pid fd (meaning s)
  opened-same fd = by (map.get p.descs fd) ∙ ap (option_and_then (λ (x : Named). file_at s.files.table x.number)) (sym (named-at s pid k fd p sound.pids h e))
    where
      by : (o : Option Descriptor) → option_and_then (λ (x : Descriptor). file_at s.files.table x.number) o ≡ option_and_then (λ (x : Named). file_at s.files.table x.number) (option_map to_named o)
      by None = refl
      by (Some x) = refl

  pub cloexec-same : (fd : ℕ) → cloexec_of p.descs fd ≡ option_map (λ (x : Named). x.cloexec) (model.named pid fd (meaning s))
  cloexec-same fd = by (map.get p.descs fd) ∙ ap (option_map (λ (x : Named). x.cloexec)) (sym (named-at s pid k fd p sound.pids h e))
    where
      by : (o : Option Descriptor) → option_map (λ (x : Descriptor). x.cloexec) o ≡ option_map (λ (x : Named). x.cloexec) (option_map to_named o)
      by None = refl
      by (Some x) = refl
