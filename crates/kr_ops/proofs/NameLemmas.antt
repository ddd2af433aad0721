-- What remembers a name, after it went or moved.
use Rattle.std.specs.FinMap as map
use Rattle.std.proofs.Common.{◌≡◌, ℕ, zero, suc, ◌+◌, ◌≤◌, ◌<◌, List, [], ◌∷◌, length, get_or, refl, sym, ap, subst, ◌∙◌, Bool, true, false, cond, arith}
use Rattle.std.specs.Prelude.{map as map_list, slice_set, sum}
use Rattle.std.specs.List.{AllByRecursion}
use Rattle.law_lawful.specs.rv_mem.Memory.{Memory}
use Rattle.law_lawful.specs.kr_tree.Tree.{Tree}
use Rattle.law_lawful.specs.kr_tree.Changes.{removed, renamed}
use Rattle.law_lawful.specs.kr_files.Files.{Kept, NamesOpenFiles, on_table, with_all_opened}
use Rattle.law_lawful.specs.kr_files.Opened.{after_removal, after_rename}
use Rattle.law_lawful.specs.kr_model.Applied.{Mounts, applied, images, exe_remembers, with_exe_name, exe_after_removal, exe_after_rename}
use Rattle.law_lawful.specs.kr_model.Change.{MoveName, RemoveName}
use Rattle.law_lawful.specs.kr_model.Known.{pages_in_all}
use Rattle.law_lawful.specs.kr_model.State as model
use Rattle.law_lawful.specs.kr_model.State.{image_layout, layout_of}
use Rattle.law_lawful.proofs.SumLemmas.{sum-cons}
use Rattle.kr_ops.specs.declared.state.Process.{Process}
use Rattle.kr_ops.specs.declared.state.State.{State}
use Rattle.kr_ops.specs.Meaning.{meaning, process_meaning}
use Rattle.kr_ops.specs.Sound.{IsServed}
use Rattle.kr_ops.proofs.CloseLemmas.{outcome}
use Rattle.kr_ops.specs.Remembering.{is_entry, remembers, named_at, forgotten, followed}
use Rattle.kr_ops.proofs.ServeLemmas.{names-kept, pages-counted, pages_of}

-- ---- a loop that changes each element

-- the list with the first of its elements changed
unfoldable pub first_done : {A : Type 0} → (A → A) → ℕ → List A → List A
first_done f zero xs = xs
first_done f (suc k) [] = []
first_done f (suc k) (x ∷ xs) = f x ∷ first_done f k xs

pub length-first_done : {A : Type 0} (f : A → A) (k : ℕ) (xs : List A) → length (first_done f k xs) ≡ length xs
unfolding first_done
length-first_done f zero xs = refl
length-first_done f (suc k) [] = refl
length-first_done f (suc k) (x ∷ xs) = ap suc (length-first_done f k xs)

pub none-done : {A : Type 0} (f : A → A) (xs : List A) → xs ≡ first_done f 0 xs
unfolding first_done
none-done f xs = refl

one-more : {A : Type 0} (f : A → A) (k : ℕ) (xs : List A) (x y : A) → k < length xs → x ≡ get_or (first_done f k xs) k x → y ≡ f x → slice_set (first_done f k xs) k y ≡ first_done f (suc k) xs
unfolding first_done
one-more f zero [] x y l e is = absurd (let none : 0 < 0 = l in omega arith)
one-more f (suc k) [] x y l e is = absurd (let none : suc k < 0 = l in omega arith)
one-more f zero (z ∷ zs) x y l e is = ap (λ w. w ∷ zs) (is ∙ ap f e)
one-more f (suc k) (z ∷ zs) x y l e is = ap (λ ws. f z ∷ ws) (one-more f k zs x y (omega arith) e is)

pub next-done : {A : Type 0} (f : A → A) (k : ℕ) (ys xs : List A) (x y : A) → ys ≡ first_done f k xs → k < length ys → x ≡ get_or ys k x → y ≡ f x → slice_set ys k y ≡ first_done f (k + 1) xs
next-done f k ys xs x y same l e is =
    let long : k < length xs = let len = ap length same ∙ length-first_done f k xs in omega arith in
    let at : x ≡ get_or (first_done f k xs) k x = e ∙ ap (λ zs. get_or zs k x) same in
    let next : suc k ≡ k + 1 = omega arith in
    ap (λ zs. slice_set zs k y) same ∙ one-more f k xs x y long at is ∙ ap (λ n. first_done f n xs) next

all-done : {A : Type 0} (f : A → A) (k : ℕ) (xs : List A) → length xs ≤ k → first_done f k xs ≡ map_list f xs
unfolding first_done
all-done f zero [] l = refl
all-done f zero (x ∷ xs) l = absurd (let no : suc (length xs) ≤ 0 = l in omega arith)
all-done f (suc k) [] l = refl
all-done f (suc k) (x ∷ xs) l = ap (λ ys. f x ∷ ys) (all-done f k xs (let m : suc (length xs) ≤ suc k = l in omega arith))

pub each-done : {A : Type 0} (f : A → A) (k : ℕ) (ys xs : List A) → ys ≡ first_done f k xs → length ys ≤ k → ys ≡ map_list f xs
each-done f k ys xs same l = same ∙ all-done f k xs (let len = ap length same ∙ length-first_done f k xs in omega arith)

module _ {T : Type 0} {M : ℕ} where
  -- ---- what it means

  meant-by_test : (b : Bool) (q p : Process T M) → process_meaning (cond b q p) ≡ cond b (process_meaning q) (process_meaning p)
  meant-by_test true q p = refl
  meant-by_test false q p = refl

  pub forgotten-means : (dir : ℕ) (name : List ℕ) (p : Process T M) → process_meaning (forgotten dir name p) ≡ exe_after_removal dir name (process_meaning p)
  forgotten-means dir name p = meant-by_test (remembers dir name p) (named_at 0 [] p) p

  pub followed-means : (dir : ℕ) (name : List ℕ) (to : ℕ) (new : List ℕ) (p : Process T M) → process_meaning (followed dir name to new p) ≡ exe_after_rename dir name to new (process_meaning p)
  followed-means dir name to new p =
      let kept : Process T M = forgotten to new p in
      meant-by_test (remembers dir name kept) (named_at to new kept) kept
      ∙ ap (λ (m : model.Process T model.Image). cond (exe_remembers dir name m) (with_exe_name to new m) m) (forgotten-means to new p)

  pub each-means : (f : Process T M → Process T M) (g : model.Process T model.Image → model.Process T model.Image) → ((p : Process T M) → process_meaning (f p) ≡ g (process_meaning p))
      → (ps : List (Process T M)) → map_list process_meaning (map_list f ps) ≡ map_list g (map_list process_meaning ps)
  each-means f g same [] = refl
  each-means f g same (p ∷ ps) = ap (λ q. q ∷ map_list process_meaning (map_list f ps)) (same p) ∙ ap (λ qs. g (process_meaning p) ∷ qs) (each-means f g same ps)

  -- ---- what the code keeps

  -- a process whose entry is told part by part
  named-by_test : (b : Bool) (dir : ℕ) (name : List ℕ) (p : Process T M) → named_at (cond b dir p.exe_dir) (cond b name p.exe_name) p ≡ cond b (named_at dir name p) p
  named-by_test true dir name p = refl
  named-by_test false dir name p = refl

  pub forgotten-is : (dir : ℕ) (name : List ℕ) (p : Process T M) (at : ℕ) (text : List ℕ) → at ≡ cond (remembers dir name p) 0 p.exe_dir → text ≡ cond (remembers dir name p) [] p.exe_name → named_at at text p ≡ forgotten dir name p
  forgotten-is dir name p at text directory is = ap (λ d. named_at d text p) directory ∙ ap (λ n. named_at (cond (remembers dir name p) 0 p.exe_dir) n p) is ∙ named-by_test (remembers dir name p) 0 [] p

  pub followed-is : (dir : ℕ) (name : List ℕ) (to : ℕ) (new : List ℕ) (p : Process T M) (at : ℕ) (text : List ℕ) (d : ℕ) (n : List ℕ)
      → at ≡ cond (remembers to new p) 0 p.exe_dir → text ≡ cond (remembers to new p) [] p.exe_name
      → d ≡ cond (is_entry dir name at text) to at → n ≡ cond (is_entry dir name at text) new text → named_at d n p ≡ followed dir name to new p
  followed-is dir name to new p at text d n directory is second named =
      let kept : Process T M = named_at at text p in
      ap (λ d. named_at d n p) second ∙ ap (λ n. named_at (cond (is_entry dir name at text) to at) n p) named
      ∙ named-by_test (remembers dir name kept) to new kept
      ∙ ap (λ (q : Process T M). cond (remembers dir name q) (named_at to new q) q) (forgotten-is to new p at text directory is)

  pub record KeepsUse (f : Process T M → Process T M) : Type 0 where
    pub descs : (p : Process T M) → (f p).descs ≡ p.descs
    pub mem : (p : Process T M) → (f p).mem ≡ p.mem

  pub forgotten-keeps : (dir : ℕ) (name : List ℕ) → KeepsUse (forgotten dir name)
  forgotten-keeps dir name = record { descs = λ p. descs_by (remembers dir name p) p; mem = λ p. mem_by (remembers dir name p) p }
    where
      descs_by : (b : Bool) (p : Process T M) → (cond b (named_at 0 [] p) p).descs ≡ p.descs
      descs_by true p = refl
      descs_by false p = refl

      mem_by : (b : Bool) (p : Process T M) → (cond b (named_at 0 [] p) p).mem ≡ p.mem
      mem_by true p = refl
      mem_by false p = refl

  pub followed-keeps : (dir : ℕ) (name : List ℕ) (to : ℕ) (new : List ℕ) → KeepsUse (followed dir name to new)
  followed-keeps dir name to new = record {
    descs = λ p. descs_by (remembers dir name (forgotten to new p)) (forgotten to new p) ∙ (forgotten-keeps to new).descs p;
    mem = λ p. mem_by (remembers dir name (forgotten to new p)) (forgotten to new p) ∙ (forgotten-keeps to new).mem p;
  }
    where
      descs_by : (b : Bool) (p : Process T M) → (cond b (named_at to new p) p).descs ≡ p.descs
      descs_by true p = refl
      descs_by false p = refl

      mem_by : (b : Bool) (p : Process T M) → (cond b (named_at to new p) p).mem ≡ p.mem
      mem_by true p = refl
      mem_by false p = refl

  pub each-named : (f : Process T M → Process T M) (files new : Kept T) → KeepsUse f → new.keys ≡ files.keys → (ps : List (Process T M))
      → AllByRecursion (λ (p : Process T M). NamesOpenFiles files p.descs) ps → AllByRecursion (λ (p : Process T M). NamesOpenFiles new p.descs) (map_list f ps)
  each-named f files new keeps keys [] all = tt
  each-named f files new keeps keys (p ∷ ps) all =
      (subst (λ d. NamesOpenFiles new d) (sym (keeps.descs p)) (names-kept files new keys p.descs all.0), each-named f files new keeps keys ps all.1)

  pub each-paged : (f : Process T M → Process T M) → KeepsUse f → (ps : List (Process T M)) → pages_in_all image_layout (map_list process_meaning (map_list f ps)) ≡ pages_in_all image_layout (map_list process_meaning ps)
  each-paged f keeps ps = pages-counted (map_list f ps) ∙ sums ps ∙ sym (pages-counted ps)
    where
      sums : (ps : List (Process T M)) → sum (map_list pages_of (map_list f ps)) ≡ sum (map_list pages_of ps)
      sums [] = refl
      sums (p ∷ ps) =
          sum-cons (pages_of (f p)) (map_list pages_of (map_list f ps))
          ∙ ap (λ (m : Memory). map.len (layout_of m.pages) + sum (map_list pages_of (map_list f ps))) (keeps.mem p)
          ∙ ap (λ n. pages_of p + n) (sums ps) ∙ sym (sum-cons (pages_of p) (map_list pages_of ps))

  -- ---- names that go and move

  pub names-served : (s new : State T M) (f : Process T M → Process T M) → KeepsUse f → new.room ≡ s.room → new.files.keys ≡ s.files.keys → new.living.items ≡ map_list f s.living.items → IsServed s → IsServed new
  names-served s new f keeps room keys list served = record {
    files = subst (λ ps. AllByRecursion (λ (p : Process T M). NamesOpenFiles new.files p.descs) ps) (sym list) (each-named f s.files new.files keeps keys s.living.items served.files);
    room = room ∙ served.room ∙ sym (each-paged f keeps s.living.items) ∙ ap (λ ps. pages_in_all image_layout (map_list process_meaning ps)) (sym list);
  }

  pub removed-means : (s : State T M) (pid : ℕ) (mounts : Mounts T) (dir : ℕ) (name : List ℕ) (t : Tree) (files : Kept T) (items : List (Process T M))
      → t ≡ removed dir name s.tree → files ≡ on_table (with_all_opened (after_removal dir name)) s.files → items ≡ map_list (forgotten dir name) s.living.items
      → outcome s t files.table items ≡ applied images mounts pid (RemoveName dir name) (meaning s)
  removed-means s pid mounts dir name t files items trees tables list =
      let table = ap (λ (f : Kept T). f.table) tables in
      let lists = ap (map_list process_meaning) list ∙ each-means (forgotten dir name) (exe_after_removal dir name) (forgotten-means dir name) s.living.items in
      λ j. record {
        tree = trees j;
        user = (meaning s).user;
        files = table j;
        input = (meaning s).input;
        taken = (meaning s).taken;
        out = (meaning s).out;
        err = (meaning s).err;
        living = lists j;
        ended = (meaning s).ended;
        next_pid = (meaning s).next_pid;
      }

  pub moved-name-means : (s : State T M) (pid : ℕ) (mounts : Mounts T) (dir : ℕ) (name : List ℕ) (to : ℕ) (new : List ℕ) (t : Tree) (files : Kept T) (items : List (Process T M))
      → t ≡ renamed dir name to new s.tree → files ≡ on_table (with_all_opened (after_rename dir name to new)) s.files → items ≡ map_list (followed dir name to new) s.living.items
      → outcome s t files.table items ≡ applied images mounts pid (MoveName dir name to new) (meaning s)
  moved-name-means s pid mounts dir name to new t files items trees tables list =
      let table = ap (λ (f : Kept T). f.table) tables in
      let lists = ap (map_list process_meaning) list ∙ each-means (followed dir name to new) (exe_after_rename dir name to new) (followed-means dir name to new) s.living.items in
      λ j. record {
        tree = trees j;
        user = (meaning s).user;
        files = table j;
        input = (meaning s).input;
        taken = (meaning s).taken;
        out = (meaning s).out;
        err = (meaning s).err;
        living = lists j;
        ended = (meaning s).ended;
        next_pid = (meaning s).next_pid;
      }
