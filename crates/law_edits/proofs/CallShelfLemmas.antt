-- The shelf of a calm call with a path.
use Rattle.std.proofs.Common.{◌≡◌, ℕ, Bool, true, false, cond, Option, Some, None, Ok, Err, refl, sym, ap, subst, ◌∙◌, arith}
use Rattle.std.specs.Prelude.{◌&&◌, ◌||◌, ◌-◌, not, nat_le, nat_lt, List, IsSome}
use Rattle.std.specs.Option.{option_map_or}
use Rattle.std.proofs.lemmas.Bool.Decides.{nat_tests}
use Rattle.pt_tracer.specs.rv_mem.Actions.{AreEqualUnmarked, carried_out}
use Rattle.pt_tracer.specs.rv_mem.Pages.{Pages, allows_all}
use Rattle.pt_tracer.specs.rv_mem.declared.regs.Regs.{Regs}
use Rattle.pt_tracer.specs.rv_mem.declared.rights.Use.TheVariants.{Read, Write}
use Rattle.law_walks.specs.kr_view.View.{Row}
use Rattle.law_walks.specs.kr_calls.Arguments.{number}
use Rattle.law_walks.specs.kr_calls.Decoding.{Decoded, decoding}
use Rattle.law_walks.specs.kr_calls.declared.request.Request.{Request}
use Rattle.law_walks.specs.kr_calls.declared.request.Request.TheVariants as call
use Rattle.law_walks.specs.kr_model.Known.{known}
use Rattle.law_walks.specs.kr_model.Operation.{operation}
use Rattle.law_walks.specs.kr_model.State.{Image, Process, State, image_layout, process}
use Rattle.law_walks.specs.kr_model.Walks.{seen}
use Rattle.kr_turns.specs.kr_seen.Carrying.{memory_of}
use Rattle.kr_turns.specs.kr_calm.Shelf.{has_path, is_usable, lacks_shelf_by, shelf_size, shelved_by, stack_pointer}
use Rattle.kr_turns.specs.kr_execve.Execution.{execution}
use Rattle.kr_turns.specs.kr_steps.Computing.{computed}
use Rattle.kr_turns.specs.Breaking.{decoded_rule, plain_rule_of, requested_rule}
use Rattle.kr_turns.specs.Shelving.{lacks_in, shelved_in}
use Rattle.kr_turns.specs.kr_stops.Stopped.{image_at, image_in, no_image}
use Rattle.kr_turns.proofs.kr_stops.EditLemmas.{computed-lives}
use Rattle.pt_tracer.specs.pt_faker.Stopping.{memory_at}
use Rattle.law_edits.specs.CallShelves.{CalmCallsHaveShelves, ShelvesAreSeen}
use Rattle.law_edits.proofs.AnswerLemmas.{allowed_alike}
use Rattle.kr_turns.specs.kr_calm.declared.rule.Rule.{Rule}
use Rattle.kr_turns.specs.kr_calm.declared.rule.Rule.TheVariants.{Unread}

-- ---- the first rule

unlacked : (read lacks : Bool) (other : Option Rule) → cond (read || lacks) (Some Unread) other ≡ None → lacks ≡ false
unlacked read false other calm = refl
unlacked true true other calm = absurd cc
unlacked false true other calm = absurd cc

module _ (table : List Row) (pid : ℕ) (lacks : Bool) (at : State ℕ Image) where
  request_shelved : (r : Request) → requested_rule 1 table pid lacks r at ≡ None → lacks ≡ false
  request_shelved (call.Execve path args env) calm = unlacked (carried_out (execution table pid at path args env) (memory_of pid at)).memory.read_marked lacks _ calm
  request_shelved r calm = unlacked (carried_out (operation pid r (seen table pid at r) (known image_layout pid at)) (memory_of pid at)).memory.read_marked lacks _ calm

  reply_shelved : (reply : Decoded) → decoded_rule 1 table pid lacks reply at ≡ None → lacks ≡ false
  reply_shelved (Ok r) calm = request_shelved r calm
  reply_shelved (Err e) calm = unlacked (memory_of pid at).read_marked lacks _ calm

module _ (table : List Row) (pid : ℕ) (lacks : Bool) (s : State ℕ Image) where
  process_shelved : (o : Option (Process ℕ Image)) → IsSome o → option_map_or (plain_rule_of 1 table pid lacks s) o None ≡ None → lacks ≡ false
  process_shelved None there calm = absurd cc
  process_shelved (Some p) there calm =
      let done = carried_out (decoding p.image.regs) p.image.memory in
      reply_shelved table pid lacks (computed pid p.image.regs done.memory s) done.reply calm

-- a call with a path that lacks no shelf has one
usable_there : (path usable : Bool) → path ≡ true → (path && not usable) ≡ false → usable ≡ true
usable_there path true with_path lacks = refl
usable_there true false with_path lacks = sym lacks
usable_there false false with_path lacks = with_path

pub calm_calls_have_shelves : CalmCallsHaveShelves
calm_calls_have_shelves table pid s p lives with_path calm =
    let own = image_in pid s in
    let is : own ≡ p.image = ap (λ (o : Option (Process ℕ Image)). option_map_or (λ (p : Process ℕ Image). p.image) o no_image) lives in
    let lives_on : IsSome (process pid (shelved_in 1 pid s)) = computed-lives pid own.regs (shelved_by 1 own.regs own.memory) s (subst IsSome (sym lives) refl) in
    let has : lacks_in 1 pid s ≡ false = process_shelved table pid (lacks_in 1 pid s) (shelved_in 1 pid s) (process pid (shelved_in 1 pid s)) lives_on calm in
    usable_there (has_path (number p.image.regs)) (is_usable (stack_pointer p.image.regs) p.image.memory.pages) with_path
    (sym (ap (λ (i : Image). lacks_shelf_by 1 i.regs i.memory) is) ∙ has)

-- ---- pages of the same rights

front : (a b : Bool) → (a && b) ≡ true → a ≡ true
front true b e = refl
front false b e = e

behind : (a b : Bool) → (a && b) ≡ true → b ≡ true
behind true b e = e
behind false b e = absurd cc

all_three : (x a b : Bool) → x ≡ true → a ≡ true → b ≡ true → (x && a && b) ≡ true
all_three x a b one two three = ap (λ x. x && a && b) one ∙ ap (λ a. true && a && b) two ∙ three

high_enough : (sp : ℕ) → nat_le shelf_size sp ≡ true → not (nat_lt sp 65536) ≡ true
high_enough sp high = grind (arith, nat_tests)

seen_at : (sp : ℕ) (m w : Pages) → AreEqualUnmarked m w → is_usable sp m ≡ true → (not (nat_lt sp 65536) && allows_all w (sp - 65536) 65536 Read && allows_all w (sp - 65536) 65536 Write) ≡ true
seen_at sp m w same usable =
    let one = nat_le shelf_size sp in
    let read = allows_all m (sp - 65536) 65536 Read in
    let write = allows_all m (sp - 65536) 65536 Write in
    let rest : (read && write) ≡ true = behind one (read && write) usable in
    all_three (not (nat_lt sp 65536)) (allows_all w (sp - 65536) 65536 Read) (allows_all w (sp - 65536) 65536 Write)
    (high_enough sp (front one (read && write) usable))
    (sym (allowed_alike m w same (sp - 65536) 65536 Read) ∙ front read write rest)
    (sym (allowed_alike m w same (sp - 65536) 65536 Write) ∙ behind read write rest)

pub shelves_are_seen : ShelvesAreSeen
shelves_are_seen regs m t is same usable =
    seen_at (stack_pointer (image_at t).regs) m (memory_at t).pages same (subst (λ (regs : Regs). is_usable (stack_pointer regs) m ≡ true) (sym is) usable)
