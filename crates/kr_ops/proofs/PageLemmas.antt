-- Pages that the code changes are changed in what its state means, and counted.
use Rattle.std.proofs.Common.{◌≡◌, ℕ, zero, suc, ◌+◌, ◌≤◌, ◌<◌, List, [], ◌∷◌, length, get_or, sym, ap, subst, arith, Option}
use Rattle.std.specs.Prelude.{map as map_list, slice_set, sum, IfSome, Result, Ok, Err, OnOk, OnErr}
use Rattle.law_lawful.specs.rv_mem.Memory.{Memory, with_pages, room_after, page_count}
use Rattle.law_lawful.specs.rv_mem.Pages.{Pages}
use Rattle.law_lawful.proofs.rv_mem.LayoutLemmas.{layouts_follow}
use Rattle.law_lawful.specs.kr_model.Applied.{images, pages_after, with_image, with_living}
use Rattle.law_lawful.specs.kr_model.Change.{PageChange}
use Rattle.law_lawful.specs.kr_model.Known.{pages_in_all}
use Rattle.law_lawful.specs.kr_model.State as model
use Rattle.law_lawful.specs.kr_model.State.{image_layout}
use Rattle.law_lawful.proofs.SumLemmas.{sum-cons}
use Rattle.kr_ops.specs.declared.state.Process.{Process}
use Rattle.kr_ops.specs.declared.state.State.{State}
use Rattle.kr_ops.specs.Living.{HasPid}
use Rattle.kr_ops.specs.Meaning.{meaning, process_meaning}
use Rattle.kr_ops.specs.Sound.{IsSound}
use Rattle.kr_ops.proofs.ChangeLemmas.{living_as, one-changed}
use Rattle.kr_ops.proofs.OpeningLemmas.{found}
use Rattle.kr_ops.proofs.ServeLemmas.{pages-counted, pages_of, sum-set}

least-sum : {A : Type 0} (f : A → ℕ) (xs : List A) (k : ℕ) (x : A) → k < length xs → x ≡ get_or xs k x → f x ≤ sum (map_list f xs)
least-sum f [] k x l e = absurd (let none : k < 0 = l in omega arith)
least-sum f (y ∷ ys) zero x l e = let same : f x ≡ f y = ap f e in let more = sum-cons (f y) (map_list f ys) in omega arith
least-sum f (y ∷ ys) (suc k) x l e = let rest = least-sum f ys k x (omega arith) e in let more = sum-cons (f y) (map_list f ys) in omega arith

module _ {T : Type 0} {M : ℕ} where
  abbrev pub with_mem : Process T M → Memory → Process T M
  with_mem p m = record {
    pid = p.pid;
    parent = p.parent;
    regs = p.regs;
    mem = m;
    brk_start = p.brk_start;
    brk = p.brk;
    descs = p.descs;
    cwd = p.cwd;
    exe = p.exe;
    exe_dir = p.exe_dir;
    exe_name = p.exe_name;
    umask = p.umask;
    waits = p.waits;
  }

  -- a process has as many pages as its memory
  pub own-pages : (p : Process T M) → pages_of p ≡ page_count p.mem.pages
  own-pages p = layouts_follow.count p.mem.pages

  -- a process's pages are among those of all
  pub counted-in : (ps : List (Process T M)) (k room : ℕ) (p : Process T M) → room ≡ pages_in_all image_layout (map_list process_meaning ps) → k < length ps → p ≡ get_or ps k p → page_count p.mem.pages ≤ room
  counted-in ps k room p is l e =
      let all = pages-counted ps in
      let one = least-sum pages_of ps k p l e in
      let own = own-pages p in
      omega arith

  -- the room after the memory of one process was changed
  pub room-changed : (ps : List (Process T M)) (k before after : ℕ) (p q : Process T M) → before ≡ pages_in_all image_layout (map_list process_meaning ps) → k < length ps → p ≡ get_or ps k p
      → after + page_count p.mem.pages ≡ before + page_count q.mem.pages → after ≡ pages_in_all image_layout (map_list process_meaning (slice_set ps k q))
  room-changed ps k before after p q is l e more =
      let all = pages-counted ps in
      let new = pages-counted (slice_set ps k q) in
      let sums = sum-set pages_of ps k p q l e in
      let one = own-pages p in
      let other = own-pages q in
      omega arith

  pub room-after : (ps : List (Process T M)) (k before after : ℕ) (p q : Process T M) → before ≡ pages_in_all image_layout (map_list process_meaning ps) → k < length ps → p ≡ get_or ps k p
      → after ≡ room_after before p.mem.pages q.mem.pages → after ≡ pages_in_all image_layout (map_list process_meaning (slice_set ps k q))
  room-after ps k before after p q is l e room =
      let counted = counted-in ps k before p is l e in
      room-changed ps k before after p q is l e (omega arith)

  pub paged-means : (s : State T M) (pid k : ℕ) (p : Process T M) (m : Memory) (c : PageChange) → IsSound s → HasPid pid k s.living.items → p ≡ get_or s.living.items k p → m ≡ with_pages p.mem (pages_after c p.mem.pages)
      → living_as (map_list process_meaning (slice_set s.living.items k (with_mem p m))) (meaning s) ≡ with_living (model.with_process pid (with_image (images.paged c))) (meaning s)
  paged-means s pid k p m c sound h e is =
      one-changed s pid k p (with_mem p m) (with_image (images.paged c)) sound.pids h e (ap (λ m. process_meaning (with_mem p m)) is)

  -- the room after a call that changed the memory, or refused and changed nothing
  pub room-either : {E : Type 0} (r : Result (Unit {0}) E) (ps : List (Process T M)) (k before after : ℕ) (p : Process T M) (m : Memory) → before ≡ pages_in_all image_layout (map_list process_meaning ps) → k < length ps → p ≡ get_or ps k p
      → OnOk r (after ≡ room_after before p.mem.pages m.pages) → OnErr r (m ≡ p.mem) → OnErr r (after ≡ before) → after ≡ pages_in_all image_layout (map_list process_meaning (slice_set ps k (with_mem p m)))
  room-either (Ok x) ps k before after p m is l e room same kept = room-after ps k before after p (with_mem p m) is l e room
  room-either (Err x) ps k before after p m is l e room same kept =
      let pages = ap (λ (m : Memory). page_count m.pages) same in
      room-changed ps k before after p (with_mem p m) is l e (omega arith)

  -- what is said of all pages and of a process's own
  pub of-process : (s : State T M) (pid k : ℕ) (p : Process T M) → IsSound s → HasPid pid k s.living.items → p ≡ get_or s.living.items k p → (Q : ℕ → Pages → Type 0) → Q s.room p.mem.pages
      → IfSome (model.process pid (meaning s)) (λ q. Q (pages_in_all image_layout (meaning s).living) q.image.memory.pages)
  of-process s pid k p sound h e Q holds =
      subst (λ (o : Option (model.Process T model.Image)). IfSome o (λ q. Q (pages_in_all image_layout (meaning s).living) q.image.memory.pages)) (sym (found s pid k p sound h e))
      (subst (λ n. Q n p.mem.pages) sound.served.room holds)
