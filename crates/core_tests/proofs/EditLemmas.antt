-- What a watcher does to a stopped process edits it.
use Rattle.std.proofs.Common.{◌≡◌, ℕ, List, refl, sym, ap, subst, ◌∙◌}
use Rattle.std.specs.Prelude.{IsSome, slice_set}
use Rattle.kr_loose.specs.rv_mem.Memory.{after_read, with_pages}
use Rattle.kr_loose.specs.rv_mem.Pages.{written}
use Rattle.kr_loose.proofs.rv_mem.LayoutLemmas.{layouts_follow}
use Rattle.kr_loose.specs.kr_model.State.{process}
use Rattle.kr_loose.specs.kr_stops.Editing.{after_peek, after_poke, memory_at, with_register}
use Rattle.kr_loose.specs.kr_stops.Stopped.{IsEdited, IsThere, Stopped, edited, image_at}
use Rattle.kr_loose.proofs.kr_stops.EditLemmas.{computed-lives, edited-by, edited-same, edited-then, edited-twice}

pub unchanged : (t u : Stopped) → IsThere t → u ≡ t → IsEdited t u
unchanged t u there same = subst (IsEdited t) (sym same) (edited-same t there)

pub register-set : (k v : ℕ) (t u : Stopped) → IsThere t → u ≡ with_register k v t → IsEdited t u
register-set k v t u there is =
    let own = image_at t in
    subst (IsEdited t) (sym is) (edited-by (record { x = slice_set own.regs.x k v; pc = own.regs.pc }) own.memory t there refl refl)

pub peeked : (at n : ℕ) (t u : Stopped) → IsThere t → u ≡ after_peek at n t → IsEdited t u
peeked at n t u there is = subst (IsEdited t) (sym is) (edited-by (image_at t).regs (after_read (memory_at t) at n) t there refl refl)

pub poked : (at : ℕ) (bytes : List ℕ) (t u : Stopped) → IsThere t → u ≡ after_poke at bytes t → IsEdited t u
poked at bytes t u there is =
    let own = memory_at t in
    subst (IsEdited t) (sym is) (edited-by (image_at t).regs (with_pages own (written own.pages at bytes)) t there refl (layouts_follow.writes own.pages at bytes))

-- what was edited is there
pub there-then : (t u : Stopped) → IsThere t → IsEdited t u → IsThere u
there-then t u there edit =
    let regs = (image_at u).regs in
    let memory = (image_at u).memory in
    record {
      lives = subst (λ (v : Stopped). IsSome (process v.pid v.state)) (sym edit.becomes) (computed-lives t.pid regs memory t.state there.lives);
      one = ap (edited regs memory) edit.becomes ∙ edited-twice regs regs memory memory t ∙ sym edit.becomes;
    }

-- one edit behind another
pub both : (t u v : Stopped) → IsThere t → IsEdited t u → (IsThere u → IsEdited u v) → IsEdited t v
both t u v there first second = edited-then t u v first (second (there-then t u there first))
