-- A process that ends in the code ends in what its state means.
use Rattle.std.specs.FinMap as map
use Rattle.std.proofs.Common.{◌≡◌, ℕ, zero, suc, ◌+◌, ◌≤◌, ◌<◌, Bool, true, false, cond, List, [], ◌∷◌, length, get_or, refl, sym, ap, subst, ◌∙◌, arith, Option, Some, None, is_some}
use Rattle.std.specs.Prelude.{map as map_list, ◌==◌, not, nat_lt, sum}
use Rattle.std.specs.List.{AllByRecursion, filter, insert, position, position_or_len, remove}
use Rattle.std.specs.Option.{option_map_or, unwrap_or}
use Rattle.std.specs.Ordering.{nat_cmp}
use Rattle.std.proofs.lemmas.Bool.Decides.{nat_tests}
use Rattle.law_lawful.proofs.pr_base.MapLemmas.{same_values}
use Rattle.law_lawful.specs.rv_mem.Memory.{Memory, page_count, room_after, with_pages}
use Rattle.law_lawful.specs.rv_mem.Page.{PageState}
use Rattle.law_lawful.specs.rv_mem.Pages.{IsPlaced, Pages, unmapped}
use Rattle.law_lawful.proofs.rv_mem.ChangeLemmas.{get-unmapped_in, get-unmapped_out}
use Rattle.law_lawful.specs.kr_tree.Tree.{Tree}
use Rattle.law_lawful.specs.kr_files.Files.{NamesOpenFiles}
use Rattle.law_lawful.specs.kr_model.Applied.{close_below, end, ended_with, gone, orphaned, put_in, released_at, stays, with_parent}
use Rattle.law_lawful.specs.kr_model.Known.{pages_in_all}
use Rattle.law_lawful.specs.kr_model.State as model
use Rattle.law_lawful.specs.kr_model.State.{image_layout}
use Rattle.law_lawful.proofs.SumLemmas.{sum-cons}
use Rattle.kr_ops.specs.declared.state.EndedProcess.{EndedProcess}
use Rattle.kr_ops.specs.declared.state.Process.{Process}
use Rattle.kr_ops.specs.declared.state.State.{State}
use Rattle.kr_ops.specs.Ending.{adopted}
use Rattle.kr_ops.specs.Living.{AreApart, HasPid, HaveOthers}
use Rattle.kr_ops.specs.Meaning.{ended_meaning, meaning, process_meaning}
use Rattle.kr_ops.specs.Sound.{IsSound}
use Rattle.kr_ops.proofs.ListLemmas.{apart, apart-test, has-number, other-at, same-test, turned-test}
use Rattle.kr_ops.proofs.NameLemmas.{KeepsUse, each-means, each-named, each-paged}
use Rattle.kr_ops.proofs.OpeningLemmas.{found}
use Rattle.kr_ops.proofs.PageLemmas.{own-pages}
use Rattle.kr_ops.proofs.ServeLemmas.{pages-counted, pages_of}

-- ---- ended processes

-- those that stay by a test of what they mean
pub ended-stay : (test : model.Ended → Bool) (xs : List EndedProcess) → map_list ended_meaning (filter (λ e. test (ended_meaning e)) xs) ≡ filter test (map_list ended_meaning xs)
ended-stay test [] = refl
ended-stay test (x ∷ xs) = by (test (ended_meaning x)) (ended-stay test xs)
  where
    by : (b : Bool) → map_list ended_meaning (filter (λ e. test (ended_meaning e)) xs) ≡ filter test (map_list ended_meaning xs)
        → map_list ended_meaning (cond b (x ∷ filter (λ e. test (ended_meaning e)) xs) (filter (λ e. test (ended_meaning e)) xs)) ≡ cond b (ended_meaning x ∷ filter test (map_list ended_meaning xs)) (filter test (map_list ended_meaning xs))
    by true rest = ap (λ es. ended_meaning x ∷ es) rest
    by false rest = rest

-- those before the first of a greater number
abbrev pub above : ℕ → EndedProcess → Bool
above pid e = nat_lt pid e.pid

place-within : (pid : ℕ) (xs : List EndedProcess) → position_or_len (above pid) xs ≤ length xs
place-within pid [] = omega arith
place-within pid (x ∷ xs) = by (above pid x) (place-within pid xs)
  where
    by : (b : Bool) → position_or_len (above pid) xs ≤ length xs → cond (not b) (1 + position_or_len (above pid) xs) 0 ≤ suc (length xs)
    by true rest = omega arith
    by false rest = omega arith

at-the-end : (n m : ℕ) → n ≤ m → nat_lt n m ≡ false → m ≡ n
at-the-end n m l e = grind (arith, nat_tests)

pub place-is : (pid : ℕ) (xs : List EndedProcess) (at : Option ℕ) → at ≡ position (above pid) xs → unwrap_or at (length xs) ≡ position_or_len (above pid) xs
place-is pid xs at is = ap (λ o. unwrap_or o (length xs)) is ∙ by (position_or_len (above pid) xs) (length xs) (place-within pid xs) (nat_lt (position_or_len (above pid) xs) (length xs)) refl
  where
    by : (n m : ℕ) → n ≤ m → (b : Bool) → nat_lt n m ≡ b → unwrap_or (cond b (Some n) None) m ≡ n
    by n m l true e = refl
    by n m l false e = at-the-end n m l e

pub put-is : (e : EndedProcess) (xs : List EndedProcess) → map_list ended_meaning (insert xs (position_or_len (above e.pid) xs) e) ≡ put_in (ended_meaning e) (map_list ended_meaning xs)
put-is e [] = refl
put-is e (x ∷ xs) = by (above e.pid x) (put-is e xs)
  where
    by : (b : Bool) → map_list ended_meaning (insert xs (position_or_len (above e.pid) xs) e) ≡ put_in (ended_meaning e) (map_list ended_meaning xs)
        → map_list ended_meaning (insert (x ∷ xs) (cond (not b) (1 + position_or_len (above e.pid) xs) 0) e)
        ≡ cond b (ended_meaning e ∷ ended_meaning x ∷ map_list ended_meaning xs) (ended_meaning x ∷ put_in (ended_meaning e) (map_list ended_meaning xs))
    by true rest = refl
    by false rest =
        let next : 1 + position_or_len (above e.pid) xs ≡ suc (position_or_len (above e.pid) xs) = omega arith in
        ap (λ k. map_list ended_meaning (insert (x ∷ xs) k e)) next ∙ ap (λ es. ended_meaning x ∷ es) rest

-- what is left of the ended, whose child the one that ended was
pub first-ended : (pid parent status : ℕ) (ended : List model.Ended) → parent ≡ 1 → filter (stays pid) ended ≡ ended_with pid parent status ended
first-ended pid parent status ended first =
    sym (ap (λ b. cond b (filter (stays pid) ended) (put_in (record { pid = pid; parent = parent; status = status }) (filter (stays pid) ended))) (same-test parent 1 first))

pub other-ended : (pid parent status : ℕ) (ended : List model.Ended) → (parent ≡ 1 → ⊥) → put_in (record { pid = pid; parent = parent; status = status }) (filter (stays pid) ended) ≡ ended_with pid parent status ended
other-ended pid parent status ended other =
    sym (ap (λ b. cond b (filter (stays pid) ended) (put_in (record { pid = pid; parent = parent; status = status }) (filter (stays pid) ended))) (apart-test parent 1 other))

-- ---- pages

-- where the pages of the whole range of addresses are taken away, none is left
none-left : (m : Pages) → IsPlaced m → unmapped m 0 67108863 ≡ map.empty
none-left m placed = same_values (unmapped m 0 67108863) map.empty (λ q. by q (nat_lt q 67108863) refl ∙ sym (map.get-empty nat_cmp q))
  where
    nowhere : (q : ℕ) → nat_lt q 67108863 ≡ false → (o : Option PageState) → map.get m q ≡ o → o ≡ None
    nowhere q e None at = refl
    nowhere q e (Some p) at = absurd (let below : q < 67108863 = placed q (ap is_some at) in grind (arith, nat_tests))

    by : (q : ℕ) (b : Bool) → nat_lt q 67108863 ≡ b → map.get (unmapped m 0 67108863) q ≡ None
    by q true e =
        let same : 0 + q ≡ q = omega arith in
        subst (λ j. map.get (unmapped m 0 67108863) j ≡ None) same (get-unmapped_in m 0 67108863 q (grind (arith, nat_tests)))
    by q false e = get-unmapped_out m 0 67108863 q (λ k l same. grind (arith, nat_tests)) ∙ nowhere q e (map.get m q) refl

pub none-counted : (m : Pages) → IsPlaced m → page_count (unmapped m 0 67108863) ≡ 0
none-counted m placed = ap (λ (m : Pages). map.len m) (none-left m placed) ∙ map.len-empty _ _

-- the room after all pages of a memory were taken away
pub room-left : (room after : ℕ) (m n : Memory) → page_count m.pages ≤ room → IsPlaced m.pages → n ≡ with_pages m (unmapped m.pages 0 67108863) → after ≡ room_after room m.pages n.pages → after + page_count m.pages ≡ room
room-left room after m n counted placed is less =
    let none = none-counted m.pages placed in
    let same = ap (λ (m : Memory). page_count m.pages) is in
    omega arith

-- ---- lists without one

all-removed : {A : Type 0} (P : A → Type 0) (xs : List A) (k : ℕ) → AllByRecursion P xs → AllByRecursion P (remove xs k)
all-removed P [] zero all = tt
all-removed P [] (suc k) all = tt
all-removed P (x ∷ xs) zero all = all.1
all-removed P (x ∷ xs) (suc k) all = (all.0, all-removed P xs k all.1)

sum-removed : {A : Type 0} (f : A → ℕ) (xs : List A) (k : ℕ) (x : A) → k < length xs → x ≡ get_or xs k x → sum (map_list f (remove xs k)) + f x ≡ sum (map_list f xs)
sum-removed f [] k x l e = absurd (let none : k < 0 = l in omega arith)
sum-removed f (y ∷ ys) zero x l e = let same : f x ≡ f y = ap f e in let all = sum-cons (f y) (map_list f ys) in omega arith
sum-removed f (y ∷ ys) (suc k) x l e =
    let rest = sum-removed f ys k x (omega arith) e in
    let all = sum-cons (f y) (map_list f ys) in
    let less = sum-cons (f y) (map_list f (remove ys k)) in
    omega arith

module _ {T : Type 0} {M : ℕ} where
  others-kept : (n : ℕ) (ps : List (Process T M)) → HaveOthers n ps → filter (λ (q : model.Process T model.Image). not (q.pid == n)) (map_list process_meaning ps) ≡ map_list process_meaning ps
  others-kept n [] h = refl
  others-kept n (p ∷ ps) h =
      ap (λ b. cond (not b) (process_meaning p ∷ filter (λ (q : model.Process T model.Image). not (q.pid == n)) (map_list process_meaning ps)) (filter (λ (q : model.Process T model.Image). not (q.pid == n)) (map_list process_meaning ps))) h.0
      ∙ ap (λ qs. process_meaning p ∷ qs) (others-kept n ps h.1)

  gone-from : (n : ℕ) (ps : List (Process T M)) (k : ℕ) (p : Process T M) → AreApart ps → k < length ps → p ≡ get_or ps k p → p.pid ≡ n
      → map_list process_meaning (remove ps k) ≡ filter (λ (q : model.Process T model.Image). not (q.pid == n)) (map_list process_meaning ps)
  gone-from n [] k p apart l e same = absurd (let none : k < 0 = l in omega arith)
  gone-from n (x ∷ ps) zero p apart l e same =
      let number : x.pid ≡ n = ap (λ (y : Process T M). y.pid) (sym e) ∙ same in
      sym (others-kept n ps (subst (λ m. HaveOthers m ps) number apart.0))
      ∙ ap (λ b. cond (not b) (process_meaning x ∷ filter (λ (q : model.Process T model.Image). not (q.pid == n)) (map_list process_meaning ps)) (filter (λ (q : model.Process T model.Image). not (q.pid == n)) (map_list process_meaning ps))) (sym (same-test x.pid n number))
  gone-from n (x ∷ ps) (suc k) p apart l e same =
      ap (λ qs. process_meaning x ∷ qs) (gone-from n ps k p apart.1 (omega arith) e same)
      ∙ ap (λ b. cond (not b) (process_meaning x ∷ filter (λ (q : model.Process T model.Image). not (q.pid == n)) (map_list process_meaning ps)) (filter (λ (q : model.Process T model.Image). not (q.pid == n)) (map_list process_meaning ps)))
      (sym (turned-test n x.pid (ap (λ m. m == x.pid) (sym same) ∙ other-at x.pid ps k p apart.0 (omega arith) e)))

  -- ---- children

  adopted-keeps : (pid : ℕ) → KeepsUse (adopted {T = T} {M = M} pid)
  adopted-keeps pid = record { descs = λ p. refl; mem = λ p. refl }

  adopted-means : (pid : ℕ) (p : Process T M) → process_meaning (adopted pid p) ≡ orphaned pid (process_meaning p)
  adopted-means pid p = by (p.parent == pid)
    where
      by : (b : Bool) → process_meaning (record p { parent = cond b 1 p.parent }) ≡ cond b (with_parent 1 (process_meaning p)) (process_meaning p)
      by true = refl
      by false = refl

  -- ---- the end of a process

  abbrev pub left_state : State T M → Tree → List (Process T M) → List model.Ended → model.State T model.Image
  left_state s tree living ended = record {
    tree = tree;
    user = (meaning s).user;
    files = s.files.table;
    input = (meaning s).input;
    taken = (meaning s).taken;
    out = (meaning s).out;
    err = (meaning s).err;
    living = map_list process_meaning living;
    ended = ended;
    next_pid = (meaning s).next_pid;
  }

  pub nobody-ends : (s : State T M) (m : model.State T model.Image) (pid status : ℕ) → meaning s ≡ close_below pid 1024 m → model.process pid (meaning s) ≡ None → meaning s ≡ end pid status m
  nobody-ends s m pid status closed none =
      sym (ap (λ (o : Option (model.Process T model.Image)). option_map_or (λ p. gone pid status p (meaning s)) o (meaning s)) none)
      ∙ ap (λ (t : model.State T model.Image). option_map_or (λ p. gone pid status p t) (model.process pid t) t) closed

  module _ (s : State T M) (pid k : ℕ) (p : Process T M) (sound : IsSound s) (h : HasPid pid k s.living.items) (e : p ≡ get_or s.living.items k p) where
    pub ends : (m : model.State T model.Image) (status : ℕ) (one two : Tree) (left living : List (Process T M)) (ended : List model.Ended) → meaning s ≡ close_below pid 1024 m
        → one ≡ released_at (Some p.cwd) s.tree → two ≡ released_at (Some p.exe) one → left ≡ remove s.living.items k → living ≡ map_list (adopted pid) left
        → ended ≡ ended_with pid p.parent status (meaning s).ended → left_state s two living ended ≡ end pid status m
    ends m status one two left living ended closed ones twos without adopts is =
        let root = twos ∙ ap (released_at (Some p.exe)) ones in
        let lists : map_list process_meaning living ≡ map_list (orphaned pid) (filter (λ (q : model.Process T model.Image). not (q.pid == pid)) (meaning s).living) =
        ap (map_list process_meaning) adopts ∙ each-means (adopted pid) (orphaned pid) (adopted-means pid) left
        ∙ ap (λ ps. map_list (orphaned pid) (map_list process_meaning ps)) without
        ∙ ap (map_list (orphaned pid)) (gone-from pid s.living.items k p (apart s sound.pids) h.within e (has-number pid k s.living.items h p e)) in
        let all : left_state s two living ended ≡ gone pid status (process_meaning p) (meaning s) = λ j. record {
          tree = root j;
          user = (meaning s).user;
          files = s.files.table;
          input = (meaning s).input;
          taken = (meaning s).taken;
          out = (meaning s).out;
          err = (meaning s).err;
          living = lists j;
          ended = is j;
          next_pid = (meaning s).next_pid;
        } in
        all
        ∙ sym (ap (λ (o : Option (model.Process T model.Image)). option_map_or (λ q. gone pid status q (meaning s)) o (meaning s)) (found s pid k p sound h e))
        ∙ ap (λ (t : model.State T model.Image). option_map_or (λ q. gone pid status q t) (model.process pid t) t) closed

    pub ended-served : (room : ℕ) (left living : List (Process T M)) → left ≡ remove s.living.items k → living ≡ map_list (adopted pid) left → room + page_count p.mem.pages ≡ s.room
        → AllByRecursion (λ (q : Process T M). NamesOpenFiles s.files q.descs) living × (room ≡ pages_in_all image_layout (map_list process_meaning living))
    ended-served room left living without adopts less =
        let names = subst (AllByRecursion (λ (q : Process T M). NamesOpenFiles s.files q.descs)) (sym without) (all-removed (λ (q : Process T M). NamesOpenFiles s.files q.descs) s.living.items k sound.served.files) in
        let all : s.room ≡ sum (map_list pages_of s.living.items) = sound.served.room ∙ pages-counted s.living.items in
        let sums = sum-removed pages_of s.living.items k p h.within e in
        let own = own-pages p in
        let counted : room ≡ sum (map_list pages_of (remove s.living.items k)) = omega arith in (
          subst (AllByRecursion (λ (q : Process T M). NamesOpenFiles s.files q.descs)) (sym adopts) (each-named (adopted pid) s.files s.files (adopted-keeps pid) refl left names),
          counted ∙ ap (λ ps. sum (map_list pages_of ps)) (sym without) ∙ sym (pages-counted left) ∙ sym (each-paged (adopted pid) (adopted-keeps pid) left) ∙ ap (λ ps. pages_in_all image_layout (map_list process_meaning ps)) (sym adopts),
        )
