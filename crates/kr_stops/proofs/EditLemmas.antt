-- What is done to a stopped process edits it, and edits one after the other are one.
use Rattle.std.proofs.Common.{◌≡◌, ℕ, suc, ◌<◌, Bool, true, false, cond, List, [], ◌∷◌, Option, Some, None, refl, sym, ap, subst, ◌∙◌, arith}
use Rattle.std.specs.Prelude.{map as map_list, ◌==◌, IsSome}
use Rattle.std.specs.List.{find}
use Rattle.std.specs.Option.{option_map, option_map_or}
use Rattle.std.proofs.lemmas.Option.{same_Some}
use Rattle.law_lawful.specs.rv_mem.Memory.{Memory}
use Rattle.law_lawful.specs.rv_mem.declared.regs.Regs.{Regs}
use Rattle.law_lawful.specs.kr_model.Applied.{with_image, with_living}
use Rattle.law_lawful.specs.kr_model.Lawful.{ArePids, RiseFrom}
use Rattle.law_lawful.specs.kr_model.State.{Image, Process, State, at_pid, image_layout, is_pid, with_process}
use Rattle.law_lawful.specs.kr_model.State as model
use Rattle.law_lawful.proofs.ProcessChangeLemmas.{found as found-changed, found-passes}
use Rattle.law_lawful.proofs.SumLemmas.{other-test, passed-test}
use Rattle.kr_stops.specs.declared.handed.Handed.{Handed}
use Rattle.kr_stops.specs.Stopped.{computed, IsEdited, IsThere, Stopped, edited, image_at, no_image}

abbrev with_own : {M : Type 0} → Image → Process M Image → Process M Image
with_own own = with_image (λ (image : Image). own)

-- ---- lists of processes

module _ {M : Type 0} (pid : ℕ) where
  -- the second edit counts
  twice-one : (own other : Image) (p : Process M Image) → at_pid pid (with_own own) (at_pid pid (with_own other) p) ≡ at_pid pid (with_own own) p
  twice-one own other p = by (p.pid == pid) refl
    where
      by : (b : Bool) → p.pid == pid ≡ b → at_pid pid (with_own own) (cond b (with_own other p) p) ≡ cond b (with_own own p) p
      by true is = ap (λ b. cond b (with_own own p) (with_own other p)) is
      by false is = ap (λ b. cond b (with_own own p) p) is

  twice-each : (own other : Image) (ps : List (Process M Image)) → with_process pid (with_own own) (with_process pid (with_own other) ps) ≡ with_process pid (with_own own) ps
  twice-each own other [] = refl
  twice-each own other (p ∷ ps) = ap (λ q. q ∷ with_process pid (with_own own) (with_process pid (with_own other) ps)) (twice-one own other p) ∙ ap (λ qs. at_pid pid (with_own own) p ∷ qs) (twice-each own other ps)

module _ {M : Type 0} (next pid : ℕ) where
  -- numbers rise, so those behind a process are others
  rest-same : (low : ℕ) (f : Process M Image → Process M Image) (ps : List (Process M Image)) → RiseFrom low next (map_list (λ p. p.pid) ps) → pid < low → with_process pid f ps ≡ ps
  rest-same low f [] rise above = refl
  rest-same low f (x ∷ ps) rise above =
      let first = rise.0 in
      ap (λ b. cond b (f x) x ∷ with_process pid f ps) (other-test x.pid pid (λ same. absurd (omega arith)))
      ∙ ap (λ qs. x ∷ qs) (rest-same (suc x.pid) f ps rise.2 (omega arith))

  -- a process with its own image is the same
  pub own-same : (low : ℕ) (ps : List (Process M Image)) (p : Process M Image) → RiseFrom low next (map_list (λ p. p.pid) ps) → find (is_pid pid) ps ≡ Some p → with_process pid (with_own p.image) ps ≡ ps
  own-same low [] p rise e = absurd cc
  own-same low (x ∷ ps) p rise e = by (own-same (suc x.pid) ps p rise.2) (x.pid == pid) refl e
    where
      by : (find (is_pid pid) ps ≡ Some p → with_process pid (with_own p.image) ps ≡ ps) → (b : Bool) → x.pid == pid ≡ b → cond b (Some x) (find (is_pid pid) ps) ≡ Some p → at_pid pid (with_own p.image) x ∷ with_process pid (with_own p.image) ps ≡ x ∷ ps
      by later true is e =
          let number = passed-test x.pid pid is in
          let same = same_Some x p e in
          ap (λ b. cond b (with_own p.image x) x ∷ with_process pid (with_own p.image) ps) is
          ∙ ap (λ (q : Process M Image). with_own q.image x ∷ with_process pid (with_own p.image) ps) (sym same)
          ∙ ap (λ qs. x ∷ qs) (rest-same (suc x.pid) (with_own p.image) ps rise.2 (omega arith))
      by later false is e =
          ap (λ b. cond b (with_own p.image x) x ∷ with_process pid (with_own p.image) ps) is
          ∙ ap (λ qs. x ∷ qs) (later e)

-- ---- edits

abbrev image_in : Option (Process ℕ Image) → Image
image_in o = option_map_or (λ p. p.image) o no_image

pub there : (s : State ℕ Image) (pid : ℕ) (handed : Handed) (p : Process ℕ Image) → ArePids s → model.process pid s ≡ Some p → IsThere (record { state = s; pid = pid; handed = handed })
there s pid handed p pids e = record {
  lives = subst IsSome (sym e) refl;
  one =
      ap (λ (o : Option (Process ℕ Image)). edited (image_in o).regs (image_in o).memory (record { state = s; pid = pid; handed = handed })) e
      ∙ ap (λ (ps : List (Process ℕ Image)). record { state = with_living (λ _. ps) s; pid = pid; handed = handed }) (own-same s.next_pid pid 2 s.living p pids.living e);
}

pub edited-twice : (regs more : Regs) (memory much : Memory) (t : Stopped) → edited more much (edited regs memory t) ≡ edited more much t
edited-twice regs more memory much t =
    ap (λ (ps : List (Process ℕ Image)). record { state = with_living (λ _. ps) t.state; pid = t.pid; handed = t.handed })
    (twice-each t.pid (record { regs = more; memory = much }) (record { regs = regs; memory = memory }) t.state.living)

pub edited-same : (t : Stopped) → IsThere t → IsEdited t t
edited-same t there = record { becomes = sym there.one; behind = refl; layout = refl }

-- an edit of what was edited
pub edited-then : (t u v : Stopped) → IsEdited t u → IsEdited u v → IsEdited t v
edited-then t u v first second =
    let regs = (image_at v).regs in
    let memory = (image_at v).memory in
    record {
      becomes = second.becomes ∙ ap (edited regs memory) first.becomes ∙ edited-twice (image_at u).regs regs (image_at u).memory memory t;
      behind = second.behind ∙ first.behind;
      layout = second.layout ∙ first.layout;
    }

pub computed-lives : {M : Type 0} (pid : ℕ) (regs : Regs) (memory : Memory) (s : State M Image) → IsSome (model.process pid s) → IsSome (model.process pid (computed pid regs memory s))
computed-lives pid regs memory s lives = by (model.process pid s) refl lives
  where
    own : Image
    own = record { regs = regs; memory = memory }

    by : (o : Option (Process _ Image)) → model.process pid s ≡ o → IsSome o → IsSome (model.process pid (computed pid regs memory s))
    by None e some = absurd cc
    by (Some p) e some = subst IsSome (sym (found-changed pid (with_own own) (λ p. refl) pid s.living ∙ ap (option_map (at_pid pid (with_own own))) e)) refl

-- what is left of one that lives has the registers and the memory that it was given
pub image-edited : (regs : Regs) (memory : Memory) (t : Stopped) → IsSome (model.process t.pid t.state) → image_at (edited regs memory t) ≡ record { regs = regs; memory = memory }
image-edited regs memory t lives = by (model.process t.pid t.state) refl lives
  where
    own : Image
    own = record { regs = regs; memory = memory }

    by : (o : Option (Process ℕ Image)) → model.process t.pid t.state ≡ o → IsSome o → image_at (edited regs memory t) ≡ own
    by None e some = absurd cc
    by (Some p) e some =
        ap (λ (o : Option (Process ℕ Image)). option_map_or (λ p. p.image) o no_image)
        (found-changed t.pid (with_own own) (λ p. refl) t.pid t.state.living
        ∙ ap (option_map (at_pid t.pid (with_own own))) e
        ∙ ap (λ b. Some (cond b (with_own own p) p)) (found-passes (is_pid t.pid) t.state.living p e))

-- so an edit by registers and a memory is one
pub edited-by : (regs : Regs) (memory : Memory) (t : Stopped) → IsThere t → regs.pc ≡ (image_at t).regs.pc → image_layout (record { regs = regs; memory = memory }) ≡ image_layout (image_at t) → IsEdited t (edited regs memory t)
edited-by regs memory t there behind layout =
    let own = image-edited regs memory t there.lives in
    record {
      becomes = ap (λ (i : Image). edited i.regs i.memory t) (sym own);
      behind = ap (λ (i : Image). i.regs.pc) own ∙ behind;
      layout = ap image_layout own ∙ layout;
    }
