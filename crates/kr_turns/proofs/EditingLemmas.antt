-- What is left where a process at an index is given other registers or another memory.
use Rattle.std.proofs.Common.{◌≡◌, ℕ, List, get_or, refl, sym, ap, subst, ◌∙◌}
use Rattle.std.specs.Prelude.{Result, Ok, Err, OnOk, OnErr}
use Rattle.std.specs.Option.{option_map_or}
use Rattle.kr_steps.specs.rv_mem.Actions.{WriteBytes, Done}
use Rattle.kr_steps.specs.rv_mem.Memory.{Memory, after_read, with_pages}
use Rattle.kr_steps.specs.rv_mem.Pages.{IsPlaced, IsWhole, written}
use Rattle.kr_steps.specs.rv_mem.declared.regs.Regs.{Regs}
use Rattle.kr_execve.specs.kr_view.View.{Row}
use Rattle.kr_steps.specs.kr_model.Applied.{with_living}
use Rattle.kr_steps.specs.kr_model.State as model
use Rattle.kr_steps.specs.kr_model.State.{Image}
use Rattle.kr_steps.proofs.law_allowed.RowLemmas.{StaysLike, stays-like}
use Rattle.kr_hostview.specs.kr_ops.declared.state.Process.{Process}
use Rattle.kr_hostview.specs.kr_ops.declared.state.State.{State}
use Rattle.kr_hostview.specs.kr_ops.Living.{HasPid}
use Rattle.kr_hostview.specs.kr_ops.Meaning.{meaning, process_meaning}
use Rattle.kr_hostview.specs.kr_ops.Sound.{IsSound}
use Rattle.kr_steps.specs.Calls.{Runs}
use Rattle.kr_steps.specs.Computing.{computed}
use Rattle.kr_steps.proofs.ComputingLemmas.{changed_at, image-means, image-runs, lives-at}
use Rattle.kr_steps.specs.kr_stops.Stopped.{image_in, no_image}
use Rattle.kr_steps.proofs.kr_stops.EditLemmas.{own-same}

module _ {T : Type 0} {M : ℕ} (s : State T M) (pid k : ℕ) (p : Process T M) (sound : IsSound s) (at : HasPid pid k s.living.items) (e : p ≡ get_or s.living.items k p) where
  pub image-here : image_in pid (meaning s) ≡ record { regs = p.regs; memory = p.mem }
  image-here = ap (λ (o : _). option_map_or (λ (q : model.Process T Image). q.image) o no_image) (lives-at s pid k p sound at e)

  -- by what becomes of the image that it had
  pub becomes : (f : Image → Image) → meaning (changed_at s pid k p sound at e (f (record { regs = p.regs; memory = p.mem })).regs (f (record { regs = p.regs; memory = p.mem })).memory p.waits)
      ≡ computed pid (f (image_in pid (meaning s))).regs (f (image_in pid (meaning s))).memory (meaning s)
  becomes f =
      let own : Image = record { regs = p.regs; memory = p.mem } in
      image-means s pid k p sound at e (f own).regs (f own).memory ∙ ap (λ (i : Image). computed pid (f i).regs (f i).memory (meaning s)) (sym image-here)

  pub runs-on : (regs : Regs) (memory : Memory) → (IsWhole p.mem.pages → IsPlaced p.mem.pages → StaysLike p.mem.pages memory.pages) → (number : T → ℕ) (table : List Row) (calls : ℕ)
      → Runs number table calls s → Runs number table calls (changed_at s pid k p sound at e regs memory p.waits)
  runs-on regs memory stays = image-runs s pid k p sound at e regs memory stays

  -- with its own image it is as before
  pub same-here : meaning (changed_at s pid k p sound at e p.regs p.mem p.waits) ≡ meaning s
  same-here =
      image-means s pid k p sound at e p.regs p.mem
      ∙ ap (λ (ps : List (model.Process T Image)). with_living (λ _. ps) (meaning s)) (own-same (meaning s).next_pid pid 2 (meaning s).living (process_meaning p) sound.pids.living (lives-at s pid k p sound at e))

-- pages that nothing was done to
pub untouched : (m : Memory) → IsWhole m.pages → IsPlaced m.pages → StaysLike m.pages m.pages
untouched m whole placed = record { whole = whole; placed = placed; layout = refl }

-- reading leaves pages as they are, whether it is refused or not
pub read-like : {A E : Type 0} (r : Result A E) (old new : Memory) (at n : ℕ) → OnOk r (new ≡ after_read old at n) → OnErr r (new ≡ old) → IsWhole old.pages → IsPlaced old.pages → StaysLike old.pages new.pages
read-like (Ok x) old new at n ok err whole placed = subst (λ (m : Memory). StaysLike old.pages m.pages) (sym ok) (untouched old whole placed)
read-like (Err x) old new at n ok err whole placed = subst (λ (m : Memory). StaysLike old.pages m.pages) (sym err) (untouched old whole placed)

-- writing leaves them where they are
pub write-like : {A E : Type 0} (r : Result A E) (old new : Memory) (at : ℕ) (bytes : List ℕ) → OnOk r (new ≡ with_pages old (written old.pages at bytes)) → OnErr r (new ≡ old) → IsWhole old.pages → IsPlaced old.pages
    → StaysLike old.pages new.pages
write-like (Ok x) old new at bytes ok err whole placed = subst (λ (m : Memory). StaysLike old.pages m.pages) (sym ok) (stays-like (WriteBytes at bytes (Done (tt {0}))) old whole placed)
write-like (Err x) old new at bytes ok err whole placed = subst (λ (m : Memory). StaysLike old.pages m.pages) (sym err) (untouched old whole placed)

pub on-err : {A E : Type 0} (r : Result A E) {X Y : Type 0} → (X → Y) → OnErr r X → OnErr r Y
on-err (Ok x) f h = h
on-err (Err x) f h = f h
