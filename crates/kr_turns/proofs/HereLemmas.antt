-- What a kernel that holds a process at a stop knows of its state.
use Rattle.std.proofs.Common.{◌≡◌, ◌≤◌, ◌^◌, ℕ, Bool, true, false, not, List, refl, sym, ap, subst, ◌∙◌}
use Rattle.std.specs.Prelude.{Option, Result, Ok, Err, OnOk, OnErr, IsSome}
use Rattle.std.specs.Option.{option_map, option_map_or}
use Rattle.kr_hostview.specs.pr_base.Peeks.{NamesAreTexts}
use Rattle.kr_steps.specs.rv_mem.Actions.{carried_out}
use Rattle.kr_steps.specs.rv_mem.Memory.{Memory}
use Rattle.kr_steps.specs.rv_mem.declared.regs.Regs.{Regs}
use Rattle.kr_execve.specs.kr_calls.Decodes.{Gives}
use Rattle.kr_execve.specs.kr_calls.Decoding.{decoding}
use Rattle.kr_execve.specs.kr_calls.declared.fault.CallFault.{CallFault}
use Rattle.kr_execve.specs.kr_calls.declared.request.Request.{Request}
use Rattle.kr_execve.specs.kr_view.View.{Row}
use Rattle.kr_steps.specs.kr_model.Peeks.{peeked_of}
use Rattle.kr_steps.specs.kr_model.State as model
use Rattle.kr_steps.specs.kr_model.State.{Image}
use Rattle.kr_calm.proofs.law_lawful.AfterLemmas.{some-of}
use Rattle.kr_hostview.specs.kr_ops.declared.state.State.{State}
use Rattle.kr_hostview.specs.kr_ops.Meaning.{meaning}
use Rattle.kr_hostview.specs.kr_ops.Sound.{IsOfView}
use Rattle.kr_calm.specs.kr_seen.Numbered.{process_numbered, state_numbered}
use Rattle.kr_steps.specs.Calls.{Runs}
use Rattle.kr_hostview.specs.Asked.{Asked}
use Rattle.kr_hostview.proofs.LawLemmas.{hosts-have-one-mount, lawful-on-host}
use Rattle.kr_calm.proofs.kr_seen.LookLemmas.{asked-numbered, process-numbered}
use Rattle.kr_steps.specs.Computing.{Requests, computed}
use Rattle.kr_turns.specs.Held.{Held, Stands, stopped_in, stopped_of}
use Rattle.kr_steps.specs.kr_stops.declared.handed.Handed.{Handed}
use Rattle.kr_steps.specs.kr_stops.Stopped.{IsThere, Stopped, edited, image_at, image_in, no_image, unmet_after}
use Rattle.kr_steps.proofs.kr_stops.EditLemmas.{computed-lives, there}
use Rattle.kr_turns.proofs.NumberLemmas.{computed-numbered, pids-numbered}

module _ {T : Type 0} {M : ℕ} {number : T → ℕ} {table : List Row} {calls pid : ℕ} {s : State T M} where
  pub of-view : Stands number table calls pid s → IsOfView s
  of-view stands = record { number = number; table = table; lawful = stands.runs.lasts.lawful; served = stands.runs.served }

-- what a watcher is told is told of the state with its mounts told by numbers
pub told-here : {P T : Type 0} {M : ℕ} (number : T → ℕ) (v : Asked T M) (s : State T M) (pid : ℕ) (h : Held P T M) → v.state ≡ s → v.caller ≡ pid → s ≡ h.state → pid ≡ h.pid
    → peeked_of (meaning v.state) v.caller ≡ peeked_of (stopped_of number h).state h.pid
told-here {T = T} number v s pid h state caller own number-own =
    ap (λ t. peeked_of (meaning t) v.caller) (state ∙ own) ∙ ap (peeked_of (meaning h.state)) (caller ∙ number-own) ∙ sym ((hosts-have-one-mount {T = T}).peeked number (meaning h.state) h.pid)

-- what was asked where none was met before
pub met-asked : (asks before : Bool) → before ≡ true → not (unmet_after asks before) ≡ asks
met-asked true before none = refl
met-asked false before none = ap not none

-- ---- what is left of the state

module _ {T : Type 0} {M : ℕ} {number : T → ℕ} {table : List Row} {calls pid : ℕ} where
  pub held-now : (s : State T M) → Stands number table calls pid s → ∥ NamesAreTexts (peeked_of (meaning s) pid) ∥₁
  held-now s stands = ∣ lawful-on-host.texts number table (meaning s) pid stands.runs.lasts.lawful stands.small ∣₁

  -- of one whose registers and memory were changed
  pub stands-after : (regs : Regs) (memory : Memory) (s new : State T M) → Stands number table calls pid s → meaning new ≡ computed pid regs memory (meaning s) → Runs number table calls new → Stands number table calls pid new
  stands-after regs memory s new stands e runs = record {
    runs = runs;
    lives = subst (λ (t : model.State T Image). IsSome (model.process pid t)) (sym e) (computed-lives pid regs memory (meaning s) stands.lives);
    small = subst (λ (t : model.State T Image). t.next_pid ≤ 2 ^ 32) (sym e) stands.small;
  }

  pub stands-same : (s new : State T M) → Stands number table calls pid s → meaning new ≡ meaning s → Runs number table calls new → Stands number table calls pid new
  stands-same s new stands e runs = record {
    runs = runs;
    lives = subst (λ (t : model.State T Image). IsSome (model.process pid t)) (sym e) stands.lives;
    small = subst (λ (t : model.State T Image). t.next_pid ≤ 2 ^ 32) (sym e) stands.small;
  }

  -- whether a use of the memory was refused or not
  pub stands-used : {A E : Type 0} (r : Result A E) (regs : Regs) (memory : Memory) (s new : State T M) → Stands number table calls pid s → OnOk r (meaning new ≡ computed pid regs memory (meaning s)) → OnErr r (meaning new ≡ meaning s)
      → Runs number table calls new → Stands number table calls pid new
  stands-used (Ok x) regs memory s new stands ok err runs = stands-after regs memory s new stands ok runs
  stands-used (Err x) regs memory s new stands ok err runs = stands-same s new stands err runs

-- ---- told of the state with its mounts told by numbers

module _ {T : Type 0} {M : ℕ} (number : T → ℕ) where
  pub image-numbered : (pid : ℕ) (s : State T M) → image_in pid (state_numbered number (meaning s)) ≡ image_in pid (meaning s)
  image-numbered pid s = asked-numbered number (λ p. p.image) (λ p. p.image) (λ p. refl) no_image pid (meaning s)

  -- an edit by what becomes of the image
  pub edits : (f : Image → Image) (s new : State T M) (pid : ℕ) (handed : Handed) → meaning new ≡ computed pid (f (image_in pid (meaning s))).regs (f (image_in pid (meaning s))).memory (meaning s)
      → stopped_in number new pid handed ≡ edited (f (image_at (stopped_in number s pid handed))).regs (f (image_at (stopped_in number s pid handed))).memory (stopped_in number s pid handed)
  edits f s new pid handed e =
      let own = image_in pid (meaning s) in
      ap (λ (t : model.State T Image). stopped_by (state_numbered number t)) e
      ∙ ap stopped_by (computed-numbered number pid (f own).regs (f own).memory (meaning s))
      ∙ ap (λ (i : Image). edited (f i).regs (f i).memory (stopped_in number s pid handed)) (sym (image-numbered pid s))
    where
      stopped_by : model.State ℕ Image → Stopped
      stopped_by t = record { state = t; pid = pid; handed = handed }

  pub there-in : (table : List Row) (calls pid : ℕ) (handed : Handed) (s : State T M) → Stands number table calls pid s → IsThere (stopped_in number s pid handed)
  there-in table calls pid handed s stands =
      let own = some-of (model.process pid (meaning s)) stands.lives in
      there (state_numbered number (meaning s)) pid handed (process_numbered number own.0) (pids-numbered number (meaning s) stands.runs.lasts.lawful.pids)
      (process-numbered number pid (meaning s) ∙ ap (option_map (process_numbered number)) own.1)

  pub same-in : (s new : State T M) (pid : ℕ) (handed : Handed) → meaning new ≡ meaning s → stopped_in number new pid handed ≡ stopped_in number s pid handed
  same-in s new pid handed e = ap (λ (t : model.State T Image). record { state = state_numbered number t; pid = pid; handed = handed }) e

-- what was decoded, of the image of the process
module _ {T : Type 0} {M : ℕ} (pid : ℕ) (s new : State T M) (result : Result Request CallFault) (r : Requests pid s new result) where
  own-image : image_in pid (meaning s) ≡ r.process.image
  own-image = ap (λ (o : Option (model.Process T Image)). option_map_or (λ p. p.image) o no_image) r.lives

  pub decoded-given : Gives result (carried_out (decoding (image_in pid (meaning s)).regs) (image_in pid (meaning s)).memory) (carried_out (decoding (image_in pid (meaning s)).regs) (image_in pid (meaning s)).memory).memory
  decoded-given = subst (λ (i : Image). Gives result (carried_out (decoding i.regs) i.memory) (carried_out (decoding i.regs) i.memory).memory) (sym own-image) r.gives

  pub decoded-leaves : meaning new ≡ computed pid (image_in pid (meaning s)).regs (carried_out (decoding (image_in pid (meaning s)).regs) (image_in pid (meaning s)).memory).memory (meaning s)
  decoded-leaves = r.leaves ∙ ap (λ (i : Image). computed pid i.regs (carried_out (decoding i.regs) i.memory).memory (meaning s)) (sym own-image)
