-- What is so of an execve that breaks no calm rule: it read no marked byte, its walks reach no long name, and it has a shelf.
use Rattle.std.proofs.Common.{◌≡◌, ◌≤◌, ℕ, Bool, true, false, cond, ◌||◌, Option, Some, None, refl, sym, ap, subst, ◌∙◌, nat_lt}
use Rattle.std.specs.Option.{option_map_or}
use Rattle.std.specs.Prelude.{IsSome}
use Rattle.std.proofs.lemmas.Bool.{or_parts, ltb-false}
use Rattle.law_programs.specs.rv_mem.Actions.{AreEqualUnmarked, carried_out}
use Rattle.law_programs.specs.rv_mem.Memory.{Memory}
use Rattle.law_stops.specs.kr_calls.Arguments.{number}
use Rattle.law_stops.specs.kr_calls.declared.request.Request.TheVariants as call
use Rattle.law_plans.specs.kr_seen.Carrying.{memory_of}
use Rattle.law_plans.specs.kr_calm.Shelf.{has_path, is_usable, stack_pointer}
use Rattle.law_plans.specs.kr_calm.declared.rule.Rule.{Rule}
use Rattle.law_plans.specs.kr_calm.declared.rule.Rule.TheVariants.{SearchStays, ShortNames, SourcesStay, Unread, UsedStay, WithinMounts}
use Rattle.law_programs.specs.kr_execve.Execution.{execution, execution_reach}
use Rattle.law_stops.specs.kr_model.State.{Image, Process, State, process}
use Rattle.law_stops.specs.kr_turns.Breaking.{decoded_rule, executed_rule, nothing_reached, plain_rule_of}
use Rattle.law_stops.specs.kr_stops.Stopped.{Stopped, edited}
use Rattle.law_stops.proofs.kr_stops.EditLemmas.{image-edited}
use Rattle.law_stops.specs.pt_tracer.Planning.{has_shelf}
use Rattle.law_stops.specs.law_edits.Shelves.{bottom_of}
use Rattle.law_stops.specs.law_edits.Swapped.{AreMarkedFrom}
use Rattle.law_stops.proofs.law_edits.MarkLemmas.{shelves_are_marked}
use Rattle.law_stops.proofs.law_edits.NumberLemmas.{paths_have_numbers}
use Rattle.law_stops.proofs.law_edits.CallShelfLemmas.{calm_calls_have_shelves, shelves_are_seen}
use Rattle.law_stops.specs.Scene.{Scene}
use Rattle.law_stops.proofs.CallLemmas as before
use Rattle.law_stops.proofs.CallLemmas.{own_image}
use Rattle.law_execves.proofs.GoLemmas as go
use Rattle.law_execves.proofs.ExecveLemmas.{ExecveCall}

-- none of six rules
none_of_six : (first second third fourth fifth sixth : Bool)
    → cond {A = Option Rule} first (Some Unread) (cond second (Some WithinMounts) (cond third (Some SourcesStay) (cond fourth (Some UsedStay) (cond fifth (Some SearchStays) (cond sixth (Some ShortNames) None))))) ≡ None → (first ≡ false) × (sixth ≡ false)
none_of_six false false false false false false e = (refl, refl)
none_of_six false false false false false true e = absurd cc
none_of_six true second third fourth fifth sixth e = absurd cc
none_of_six false true third fourth fifth sixth e = absurd cc
none_of_six false false true fourth fifth sixth e = absurd cc
none_of_six false false false true fifth sixth e = absurd cc
none_of_six false false false false true sixth e = absurd cc

module _ {S : Type 0} {scene : Scene S} (execve : ExecveCall scene) where
  open scene use {table, pid, mounted as m}
  open execve use {callers, path, args, env, calm}
  open execve.callers use {comes as c, caller as p, also_caller as q, lives, also_lives as also}

  abbrev s1 : State ℕ Image
  s1 = go.s1 execve

  abbrev p1 : Process ℕ Image
  p1 = go.p1 execve

  abbrev at : State ℕ Image
  at = go.at execve

  abbrev stop : Stopped
  stop = go.stop execve

  abbrev lacks : Bool
  lacks = before.lacks callers

  calm_row : executed_rule 1 table pid lacks (call.Execve path args env) path args env at ≡ None
  calm_row =
      sym (ap (λ o. option_map_or (plain_rule_of 1 table pid lacks s1) o None) (before.lives1 callers) ∙ ap (λ reply. decoded_rule 1 table pid lacks reply at) (go.reads execve))
      ∙ before.calm_call callers calm

  rules : ((carried_out (execution table pid at path args env) (memory_of pid at)).memory.read_marked || lacks ≡ false) × (nat_lt 4000 (execution_reach table pid at path args env (memory_of pid at) nothing_reached).longest ≡ false)
  rules = none_of_six _ _ _ _ _ _ calm_row

  pub unread : (carried_out (execution table pid at path args env) (memory_of pid at)).memory.read_marked ≡ false
  unread = (or_parts (carried_out (execution table pid at path args env) (memory_of pid at)).memory.read_marked lacks rules.0).0

  pub short : (execution_reach table pid at path args env (memory_of pid at) nothing_reached).longest ≤ 4000
  short = ltb-false 4000 (execution_reach table pid at path args env (memory_of pid at) nothing_reached).longest rules.1

  -- ---- the shelf

  has_number : has_path (number p.image.regs) ≡ true
  has_number = paths_have_numbers p1.image.regs p1.image.memory (call.Execve path args env) 0 _ (go.reads execve) refl

  usable : is_usable (stack_pointer p.image.regs) p.image.memory.pages ≡ true
  usable =
      calm_calls_have_shelves table pid m.state p lives has_number
      (subst (λ t. plain_rule_here t ≡ None) (sym (before.shelf callers)) (before.calm_call callers calm))
    where
      plain_rule_here : State ℕ Image → Option Rule
      plain_rule_here t = option_map_or (plain_rule_of 1 table pid lacks t) (process pid t) None

  -- its bytes are marked on the machine with mounts
  pub marks : AreMarkedFrom (bottom_of (stack_pointer p.image.regs)) (stack_pointer p.image.regs) p1.image.memory.pages
  marks = (shelves_are_marked p.image.regs p.image.memory (c.matches.states.placed.lawful.processes pid p lives).whole has_number usable).marks

  -- and the tracer finds it at the first stop, whatever it has read
  pub shelf : (memory : Memory) → memory.pages ≡ q.image.memory.pages → has_shelf (edited q.image.regs memory stop) ≡ true
  shelf memory pages =
      let image = image-edited q.image.regs memory stop (subst IsSome (sym also) refl) in
      shelves_are_seen p.image.regs p.image.memory.pages (edited q.image.regs memory stop) (ap (λ (i : Image). i.regs) image ∙ sym (before.same_regs callers))
      (subst (AreEqualUnmarked p.image.memory.pages) (sym (ap (λ (i : Image). i.memory.pages) image ∙ pages)) (c.matches.states.images.memories pid p q lives also)) usable
