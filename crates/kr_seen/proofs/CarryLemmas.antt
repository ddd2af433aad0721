-- What calls leave of a state, by their replies.
use Rattle.std.proofs.Common.{◌≡◌, ℕ, suc, ◌≤◌, Bool, true, false, cond, List, [], ◌∷◌, Option, Some, refl, sym, ap, subst, ◌∙◌, arith}
use Rattle.std.specs.Prelude.{map as map_list, ◌==◌}
use Rattle.std.specs.Bool.{if◌then◌else◌}
use Rattle.std.specs.List.{find}
use Rattle.std.specs.Option.{option_map_or}
use Rattle.std.proofs.lemmas.Bool.Decides.{nat_tests}
use Rattle.std.proofs.lemmas.Option.{same_Some, none-some}
use Rattle.kr_ops.specs.rv_mem.Actions.{Done}
use Rattle.kr_ops.specs.kr_model.Applied.{Mounts, all_applied, images, pages_after, with_image, with_living}
use Rattle.kr_ops.specs.kr_model.Change.{PageChange}
use Rattle.kr_ops.specs.kr_model.Known.{Known, known}
use Rattle.kr_ops.specs.kr_model.Lawful.{ArePids, RiseFrom}
use Rattle.kr_ops.specs.kr_model.Reply.{Reply, Replying, refusal, refuse}
use Rattle.kr_ops.specs.kr_model.State as model
use Rattle.kr_ops.specs.kr_model.declared.outcome.Outcome.{Outcome}
use Rattle.kr_ops.specs.pr_base.declared.errno.Errno.{Errno}
use Rattle.kr_ops.specs.declared.state.State.{State}
use Rattle.kr_ops.specs.Meaning.{meaning}
use Rattle.kr_seen.specs.Carrying.{IsCarriedOut, after_row, carried, memory_of, no_memory, with_memory, with_memory_of}

module _ {T : Type 0} (pid : ℕ) (f : model.Process T model.Image → model.Process T model.Image) where
  found-above : (low next : ℕ) (ps : List (model.Process T model.Image)) (q : model.Process T model.Image) → RiseFrom low next (map_list (λ p. p.pid) ps) → find (model.is_pid pid) ps ≡ Some q → (low ≤ q.pid) × (q.pid ≡ pid)
  found-above low next [] q rise e = absurd (none-some q e)
  found-above low next (p ∷ ps) q rise e = by (p.pid == pid) refl e (λ e. found-above (suc p.pid) next ps q rise.2 e)
    where
      by : (b : Bool) → (p.pid == pid) ≡ b → cond b (Some p) (find (model.is_pid pid) ps) ≡ Some q → (find (model.is_pid pid) ps ≡ Some q → (suc p.pid ≤ q.pid) × (q.pid ≡ pid)) → (low ≤ q.pid) × (q.pid ≡ pid)
      by true is e rest =
          let same : p.pid ≡ pid = grind (arith, nat_tests) in
          let P : model.Process T model.Image → Type 0 = λ x. (low ≤ x.pid) × (x.pid ≡ pid) in
          subst P (same_Some p q e) (rise.0, same)
      by false is e rest = let later = rest e in let first = rise.0 in let above = later.0 in (omega arith, later.1)

  module _ (g : model.Process T model.Image → model.Process T model.Image) where
    -- changes that do the same to the process of a number do the same to all
    pub agree : (low next : ℕ) (ps : List (model.Process T model.Image)) → RiseFrom low next (map_list (λ p. p.pid) ps) → ((q : model.Process T model.Image) → find (model.is_pid pid) ps ≡ Some q → f q ≡ g q)
        → model.with_process pid f ps ≡ model.with_process pid g ps
    agree low next [] rise h = refl
    agree low next (p ∷ ps) rise h = by (p.pid == pid) refl (agree (suc p.pid) next ps rise.2)
      where
        by : (b : Bool) → (p.pid == pid) ≡ b → (((q : model.Process T model.Image) → find (model.is_pid pid) ps ≡ Some q → f q ≡ g q) → model.with_process pid f ps ≡ model.with_process pid g ps)
            → (if p.pid == pid then f p else p) ∷ model.with_process pid f ps ≡ (if p.pid == pid then g p else p) ∷ model.with_process pid g ps
        by true is later =
            let same : p.pid ≡ pid = grind (arith, nat_tests) in
            let first : f p ≡ g p = h p (ap (λ b. cond b (Some p) (find (model.is_pid pid) ps)) is) in
            let rest : model.with_process pid f ps ≡ model.with_process pid g ps = later (λ q e. let other = found-above (suc p.pid) next ps q rise.2 e in let above = other.0 in let own = other.1 in absurd (omega arith)) in
            ap (λ x. (if p.pid == pid then x else p) ∷ model.with_process pid f ps) first ∙ ap (λ xs. (if p.pid == pid then g p else p) ∷ xs) rest
        by false is later =
            let rest : model.with_process pid f ps ≡ model.with_process pid g ps = later (λ q e. h q (ap (λ b. cond b (Some p) (find (model.is_pid pid) ps)) is ∙ e)) in
            ap (λ b. (if b then f p else p) ∷ model.with_process pid f ps) is ∙ ap (λ xs. p ∷ xs) rest ∙ sym (ap (λ b. (if b then g p else p) ∷ model.with_process pid g ps) is)

-- nothing done to a process is nothing done
none-done : {T : Type 0} (pid : ℕ) (ps : List (model.Process T model.Image)) → model.with_process pid (λ p. p) ps ≡ ps
none-done pid [] = refl
none-done pid (p ∷ ps) = by (p.pid == pid) ∙ ap (λ xs. p ∷ xs) (none-done pid ps)
  where
    by : (b : Bool) → cond b p p ∷ model.with_process pid (λ p. p) ps ≡ p ∷ model.with_process pid (λ p. p) ps
    by true = refl
    by false = refl

module _ {T : Type 0} (pid : ℕ) (s : model.State T model.Image) (pids : ArePids s) where
  -- pages of the caller that are changed alike
  pub pages-alike : (c d : PageChange) → pages_after c (memory_of pid s).pages ≡ pages_after d (memory_of pid s).pages → with_living (model.with_process pid (with_image (images.paged c))) s ≡ with_living (model.with_process pid (with_image (images.paged d))) s
  pages-alike c d alike = ap (λ ps. with_living (λ _. ps) s) (agree pid (with_image (images.paged c)) (with_image (images.paged d)) 2 s.next_pid s.living pids.living same)
    where
      same : (q : model.Process T model.Image) → find (model.is_pid pid) s.living ≡ Some q → with_image (images.paged c) q ≡ with_image (images.paged d) q
      same q e =
          let own : (memory_of pid s).pages ≡ q.image.memory.pages = ap (λ (o : Option (model.Process T model.Image)). (option_map_or (λ p. p.image.memory) o no_memory).pages) e in
          ap (λ m. with_image (λ image. record { regs = image.regs; memory = record { pages = m; read_marked = image.memory.read_marked } }) q) (ap (pages_after c) (sym own) ∙ alike ∙ ap (pages_after d) own)

  -- the caller's own memory changes nothing
  pub own-memory : with_memory_of pid (memory_of pid s) s ≡ s
  own-memory = ap (λ ps. with_living (λ _. ps) s) (agree pid (with_image (with_memory (memory_of pid s))) (λ q. q) 2 s.next_pid s.living pids.living same ∙ none-done pid s.living)
    where
      same : (q : model.Process T model.Image) → find (model.is_pid pid) s.living ≡ Some q → with_image (with_memory (memory_of pid s)) q ≡ q
      same q e = ap (λ (o : Option (model.Process T model.Image)). with_image (with_memory (option_map_or (λ p. p.image.memory) o no_memory)) q) e

module _ {T : Type 0} {M : ℕ} (mounts : Mounts T) (pid : ℕ) (row : Known → Replying) (old new : State T M) (result : Outcome) (pids : ArePids (meaning old)) where
  -- a row that doesn't use the memory
  pub by-reply : (reply : Reply) → row (known model.image_layout pid (meaning old)) ≡ Done reply → result ≡ reply.outcome
      → meaning new ≡ all_applied images mounts pid reply.changes (meaning old) → IsCarriedOut mounts pid row old new result
  by-reply reply e outcome state = record {
    outcome = outcome ∙ sym (ap (λ (r : Replying). (carried pid r (meaning old)).reply.outcome) e);
    state =
        state
        ∙ ap (λ s. all_applied images mounts pid reply.changes s) (sym (own-memory pid (meaning old) pids))
        ∙ sym (ap (λ (r : Replying). after_row mounts pid (carried pid r (meaning old)) (meaning old)) e);
  }

  -- a refusal
  pub by-refusal : (e : Errno) → row (known model.image_layout pid (meaning old)) ≡ refuse e → result ≡ (refusal e).outcome → meaning new ≡ meaning old → IsCarriedOut mounts pid row old new result
  by-refusal e is outcome same = by-reply (refusal e) is outcome same
