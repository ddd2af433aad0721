-- What instructions of a process leave of a state.
pub use Rattle.kr_perform.proofs.CallLemmas.{refused-call, runs-later}
pub use Rattle.kr_perform.proofs.RefusedLemmas.{walk-refuses}
use Rattle.std.specs.FinMap as map
use Rattle.std.proofs.Common.{◌≡◌, ℕ, zero, suc, Bool, cond, List, get_or, Some, None, Option, refl, sym, ap, subst, ◌∙◌, arith}
use Rattle.std.specs.Prelude.{Result, Ok, Err, IfOk, OnOk}
use Rattle.std.specs.Option.{option_map}
use Rattle.std.specs.Vec.{with_item}
use Rattle.rv_cpu.specs.rv_mem.Layout.{layout_of}
use Rattle.rv_cpu.specs.rv_mem.Memory.{Memory}
use Rattle.rv_cpu.specs.rv_mem.Pages.{Pages, IsPlaced, IsWhole}
use Rattle.rv_cpu.specs.rv_mem.declared.regs.Regs.{Regs}
use Rattle.rv_cpu.specs.rv_mem.Actions.{CarriedOut, carried_out}
use Rattle.rv_cpu.specs.Run.{Ran, ran, ran_holding, counted, after_one}
use Rattle.rv_cpu.specs.Step.{Stepped, step}
use Rattle.rv_cpu.specs.declared.event.Event.{Event}
use Rattle.rv_cpu.specs.declared.event.Event.TheVariants.{Next, Call, Killed}
use Rattle.rv_cpu.specs.declared.reservation.Held.{Held}
use Rattle.kr_perform.specs.kr_calls.Decodes.{Decodes, Gives}
use Rattle.kr_perform.specs.kr_calls.Decoding.{Decoded, decoding}
use Rattle.kr_perform.specs.kr_calls.declared.fault.CallFault.{CallFault}
use Rattle.kr_perform.specs.kr_calls.declared.fault.CallFault.TheVariants as fault
use Rattle.kr_perform.specs.kr_calls.declared.request.Request.{Request}
use Rattle.kr_perform.specs.kr_view.View.{Row}
use Rattle.kr_perform.specs.kr_model.Applied.{with_image, with_living}
use Rattle.kr_perform.specs.kr_model.Lawful.{IsLawful}
use Rattle.kr_perform.specs.kr_model.State as model
use Rattle.kr_perform.proofs.law_lawful.AfterLemmas.{parts-of}
use Rattle.kr_perform.proofs.law_lawful.OwnChangeLemmas.{process-keeps}
use Rattle.kr_perform.proofs.law_lawful.ProcessChangeLemmas.{found as found-changed, found-passes, sum-with}
use Rattle.kr_perform.specs.law_allowed.Lasting.{Lasts}
use Rattle.kr_perform.specs.law_allowed.Allowed.{HoldsBytes}
use Rattle.kr_perform.specs.law_allowed.Calls.{HasTextPaths, IsGivable}
use Rattle.kr_perform.proofs.law_allowed.DecodedLemmas.{decoded-are-givable}
use Rattle.kr_perform.proofs.law_allowed.RowLemmas.{StaysLike, stays-like, lawful-image}
use Rattle.kr_perform.specs.kr_ops.declared.state.Process.{Process}
use Rattle.kr_perform.specs.kr_ops.declared.state.State.{State}
use Rattle.kr_perform.specs.kr_ops.Living.{HasPid}
use Rattle.kr_perform.specs.kr_ops.Meaning.{meaning, process_meaning}
use Rattle.kr_perform.specs.kr_ops.Sound.{IsServed, IsSound}
use Rattle.kr_perform.proofs.kr_ops.ChangeLemmas.{one-changed}
use Rattle.kr_perform.proofs.kr_ops.OpeningLemmas.{found}
use Rattle.kr_perform.proofs.kr_ops.ServeLemmas.{kept-names, room-set}
use Rattle.kr_perform.specs.Lawful.{LastsLawful}
use Rattle.kr_perform.specs.Calling.{Runs}
use Rattle.kr_steps.specs.Answering.{going}
use Rattle.kr_steps.specs.Computing.{Computes, Requests, computed}

-- ---- memories

like-then : (old between new : Pages) → StaysLike old between → StaysLike between new → StaysLike old new
like-then old between new one more = record { whole = more.whole; placed = more.placed; layout = more.layout ∙ one.layout }

-- instructions leave pages where they were, with their rights
pub ran-stays-like : (fuel : ℕ) (held : Option Held) (regs : Regs) (m : Memory) → IsWhole m.pages → IsPlaced m.pages → StaysLike m.pages (ran_holding fuel held regs m).memory.pages
unfolding ran_holding
ran-stays-like zero held regs m whole placed = record { whole = whole; placed = placed; layout = refl }
ran-stays-like (suc fuel) held regs m whole placed =
    let first : CarriedOut Stepped = carried_out (step regs held) m in
    let one = stays-like (step regs held) m whole placed in
    let rest : Ran = ran_holding fuel first.reply.held first.reply.regs first.memory in
    let more = like-then m.pages first.memory.pages rest.memory.pages one (ran-stays-like fuel first.reply.held first.reply.regs first.memory one.whole one.placed) in
    elim first.reply.event as (λ event. StaysLike m.pages (elim event as (λ e. Ran) [ Next ↦ counted 1 rest | Call ↦ after_one first | Killed signal ↦ after_one first ]).memory.pages) [
      | Next ↦ more
      | Call ↦ one
      | Killed signal ↦ one
    ]

-- ---- states

-- what lasts rests on no process
lasts-with : {T : Type 0} (calls pid : ℕ) (f : model.Process T model.Image → model.Process T model.Image) (s : model.State T model.Image) → Lasts calls s → Lasts calls (with_living (model.with_process pid f) s)
lasts-with calls pid f s lasts = record {
  texts = lasts.texts;
  owners = lasts.owners;
  user = lasts.user;
  drawn = record { inodes = lasts.drawn.inodes; serials = lasts.drawn.serials; files = lasts.drawn.files; pipes = lasts.drawn.pipes; pids = lasts.drawn.pids };
}

-- whatever the registers are made, and whether it waits
lawful-going : {T : Type 0} (number : T → ℕ) (table : List Row) (s : model.State T model.Image) → IsLawful number table s → (pid : ℕ) (p : model.Process T model.Image) → model.process pid s ≡ Some p → (regs : Regs → Regs) (waits : Bool)
    → IsLawful number table (with_living (model.with_process pid (going regs waits)) s)
lawful-going {T} number table s l pid p lives regs waits =
    process-keeps number table s l pid (going regs waits) (record { pids = λ p. refl; cwds = λ p. refl; exes = λ p. refl; counts = λ p n. refl })
    (λ q e. let own = l.processes pid q e in record { cwd = own.cwd; exe = own.exe; exe_name = own.exe_name; breaks = own.breaks; whole = own.whole; paged = own.paged; pages = own.pages })
    (λ q e. let own = (parts-of number table s l).descriptors pid q e in record { each = own.each })
    (let sums = sum-with pid (going regs waits) (λ p. refl) (λ (q : model.Process T model.Image). map.len (model.image_layout q.image)) s.next_pid 2 s.living p l.pids.living lives in
    let room = l.room in
    omega arith)

-- of the process at an index
module _ {T : Type 0} {M : ℕ} (s : State T M) (pid k : ℕ) (p : Process T M) (sound : IsSound s) (at : HasPid pid k s.living.items) (e : p ≡ get_or s.living.items k p) where
  abbrev own_with : Regs → Memory → Bool → Process T M
  own_with regs mem waits = record {
    pid = p.pid;
    parent = p.parent;
    regs = regs;
    mem = mem;
    brk_start = p.brk_start;
    brk = p.brk;
    descs = p.descs;
    cwd = p.cwd;
    exe = p.exe;
    exe_dir = p.exe_dir;
    exe_name = p.exe_name;
    umask = p.umask;
    waits = waits;
  }

  abbrev pub changed_at : Regs → Memory → Bool → State T M
  changed_at regs mem waits = record s { living = with_item s.living k (own_with regs mem waits) }

  pub lives-at : model.process pid (meaning s) ≡ Some (process_meaning p)
  lives-at = found s pid k p sound at e

  served : (regs : Regs) (mem : Memory) (waits : Bool) → IsServed s → layout_of mem.pages ≡ layout_of p.mem.pages → IsServed (changed_at regs mem waits)
  served regs mem waits before laid = record {
    files = kept-names s before k p (own_with regs mem waits) at.within e refl;
    room = before.room ∙ sym (room-set s.living.items k p (own_with regs mem waits) at.within e (ap (λ l. map.len l) laid));
  }

  -- ---- it has other registers and another memory

  pub image-means : (regs : Regs) (mem : Memory) → meaning (changed_at regs mem p.waits) ≡ computed pid regs mem (meaning s)
  image-means regs mem = one-changed s pid k p (own_with regs mem p.waits) (with_image (λ (image : model.Image). record { regs = regs; memory = mem })) sound.pids at e refl

  pub image-runs : (regs : Regs) (mem : Memory) → (IsWhole p.mem.pages → IsPlaced p.mem.pages → StaysLike p.mem.pages mem.pages) → (number : T → ℕ) (table : List Row) (calls : ℕ)
      → Runs number table calls s → Runs number table calls (changed_at regs mem p.waits)
  image-runs regs mem stays number table calls runs = record {
    lasts = subst (LastsLawful number table calls) (sym (image-means regs mem))
        (record { lawful = lawful-image number table (meaning s) lawful pid (process_meaning p) lives-at mem like (λ _. regs); lasts = lasts-with calls pid (with_image (λ (image : model.Image). record { regs = regs; memory = mem })) (meaning s) runs.lasts.lasts });
    served = served regs mem p.waits runs.served like.layout;
  }
    where
      lawful : IsLawful number table (meaning s)
      lawful = runs.lasts.lawful

      like : StaysLike p.mem.pages mem.pages
      like = let own = lawful.processes pid (process_meaning p) lives-at in stays own.whole own.paged

  -- ---- it goes on, or stays

  pub going-means : (regs : Regs → Regs) (waits : Bool) → meaning (changed_at (regs p.regs) p.mem waits) ≡ with_living (model.with_process pid (going regs waits)) (meaning s)
  going-means regs waits = one-changed s pid k p (own_with (regs p.regs) p.mem waits) (going regs waits) sound.pids at e refl

  pub going-runs : (regs : Regs → Regs) (waits : Bool) (number : T → ℕ) (table : List Row) (calls : ℕ) → Runs number table calls s → Runs number table calls (changed_at (regs p.regs) p.mem waits)
  going-runs regs waits number table calls runs = record {
    lasts = subst (LastsLawful number table calls) (sym (going-means regs waits))
        (record { lawful = lawful-going number table (meaning s) runs.lasts.lawful pid (process_meaning p) lives-at regs waits; lasts = lasts-with calls pid (going regs waits) (meaning s) runs.lasts.lasts });
    served = served (regs p.regs) p.mem waits runs.served refl;
  }

  -- ---- it did instructions

  module _ (fuel : ℕ) (regs : Regs) (mem : Memory) (same_regs : regs ≡ (ran fuel p.regs p.mem).regs) (same_mem : mem ≡ (ran fuel p.regs p.mem).memory) where
    abbrev end : Ran
    end = ran fuel p.regs p.mem

    same : changed_at regs mem p.waits ≡ changed_at end.regs end.memory p.waits
    same = λ i. changed_at (same_regs i) (same_mem i) p.waits

    pub computes-now : (event : Event) (done : ℕ) → event ≡ end.event → done ≡ end.done → Computes pid fuel s (changed_at regs mem p.waits) event done
    computes-now event done ends counts = record { process = process_meaning p; lives = lives-at; ends = ends; counts = counts; leaves = ap meaning same ∙ image-means end.regs end.memory }

    changed-here : model.process pid (meaning (changed_at regs mem p.waits)) ≡ Some (with_image (λ (image : model.Image). record { regs = end.regs; memory = end.memory }) (process_meaning p))
    changed-here =
        let q : model.Process T model.Image = process_meaning p in
        let f : model.Process T model.Image → model.Process T model.Image = with_image (λ (image : model.Image). record { regs = end.regs; memory = end.memory }) in
        ap (model.process pid) (ap meaning same ∙ image-means end.regs end.memory)
        ∙ found-changed pid f (λ q. refl) pid (meaning s).living
        ∙ ap (option_map (model.at_pid pid f)) lives-at
        ∙ ap (λ b. Some (cond b (f q) q)) (found-passes (model.is_pid pid) (meaning s).living q lives-at)

    pub runs-on : (number : T → ℕ) (table : List Row) (calls : ℕ) → Runs number table calls s → Runs number table calls (changed_at regs mem p.waits)
    runs-on number table calls runs = subst (Runs number table calls) (sym same) (image-runs end.regs end.memory (ran-stays-like fuel None p.regs p.mem) number table calls runs)

  -- ---- its request was decoded

  module _ (mem : Memory) (result : Result Request CallFault) (decodes : Decodes result (decoding p.regs) p.mem mem) where
    abbrev done : CarriedOut Decoded
    done = carried_out (decoding p.regs) p.mem

    same-memory : (r : Result Request CallFault) → Gives r done mem → mem ≡ done.memory
    same-memory (Ok value) gives = gives.1
    same-memory (Err (fault.Err errno)) gives = gives.1
    same-memory (Err fault.NoMemory) gives = gives

    pub requested-now : Requests pid s (changed_at p.regs mem p.waits) result
    requested-now =
        let same = same-memory result decodes in
        record {
          process = process_meaning p;
          lives = lives-at;
          gives = subst (Gives result done) same decodes;
          leaves = ap (λ m. meaning (changed_at p.regs m p.waits)) same ∙ image-means p.regs done.memory;
        }

    pub requested-runs : (number : T → ℕ) (table : List Row) (calls : ℕ) → Runs number table calls s → Runs number table calls (changed_at p.regs mem p.waits)
    requested-runs number table calls runs =
        subst (λ m. Runs number table calls (changed_at p.regs m p.waits)) (sym (same-memory result decodes))
        (image-runs p.regs done.memory (λ whole placed. stays-like (decoding p.regs) p.mem whole placed) number table calls runs)

-- ---- requests

-- what was decoded of a memory that holds bytes is such as decoding can give
pub are-given : (regs : Regs) (old new : Memory) (result : Result Request CallFault) → Decodes result (decoding regs) old new → HoldsBytes old.pages → IfOk result (λ r. IsGivable r × HasTextPaths r)
are-given regs old new (Ok r) decodes holds = decoded-are-givable regs old r holds decodes.0
are-given regs old new (Err e) decodes holds = tt

pub ok-first : {A E : Type 0} (r : Result A E) (P Q : A → Type 0) → IfOk r (λ x. P x × Q x) → IfOk r P
ok-first (Ok x) P Q both = both.0
ok-first (Err e) P Q both = tt

pub ok-second : {A E : Type 0} (r : Result A E) (P Q : A → Type 0) → IfOk r (λ x. P x × Q x) → IfOk r Q
ok-second (Ok x) P Q both = both.1
ok-second (Err e) P Q both = tt

-- ---- where nothing was refused

pub ok-computes : {A E : Type 0} (r : Result A E) (P Q Z : A → Type 0) (X Y : Type 0) → IfOk r P → IfOk r Q → OnOk r X → OnOk r Y → ((x : A) → P x → Q x → X → Y → Z x) → IfOk r Z
ok-computes (Ok x) P Q Z X Y p q first second next = next x p q first second
ok-computes (Err e) P Q Z X Y p q first second next = tt

pub ok-runs : {A E : Type 0} (r : Result A E) (X Y Z : Type 0) → OnOk r X → OnOk r Y → (X → Y → Z) → OnOk r Z
ok-runs (Ok x) X Y Z first second next = next first second
ok-runs (Err e) X Y Z first second next = tt
