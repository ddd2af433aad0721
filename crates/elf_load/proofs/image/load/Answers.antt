use Rattle.std.proofs.Common.{◌≡◌, ◌+◌, ◌<◌, ◌≤◌, Bool, true, false, length, arith, rules, refl, sym, ap, subst, ◌∙◌, List, Err, Option, Some, None}
use Rattle.std.specs.Prelude.{All, IsTrue, IsNone}
use Rattle.rv_mem.specs.Pages.{IsPlaced, unmapped}
use Rattle.rv_mem.specs.Memory.{Memory, page_count}
use Rattle.elf_read.specs.Plans.{IsSound, planned}
use Rattle.elf_read.specs.declared.plan.Segment.{Segment}
use Rattle.elf_load.specs.Placed.{HoldsSegment, HoldsBytes}
use Rattle.elf_load.specs.FirstStack.{exceeds_arguments, pairs_of, stack_bytes, stack_pointer}
use Rattle.elf_load.proofs.image.load.Goals as goal
use Rattle.elf_load.proofs.ImageLemmas.{few_segments, sound_plan, pages-are, memory-is, exceeds-is, nothing_left, image_segments, image_stack}
use Rattle.elf_load.proofs.CountLemmas.{exceeds-image}

true_false : true ≡ false → ⊥
true_false e = cc

not_true : (b : Bool) → (IsTrue b → ⊥) → b ≡ false
not_true true h = absurd (h refl)
not_true false h = refl

is_some_none : {A : Type 0} (o : Option A) (x : A) → o ≡ Some x → IsNone o → ⊥
is_some_none (Some y) x e none = cc
is_some_none None x e none = cc

pub segments_of-segments-requires : goal.segments_of-segments-requires
segments_of-segments-requires g c = few_segments c.args.file.now c.args.plan.now c.requires.accepted c.requires.plan

pub put_all-requires : goal.put_all-requires
put_all-requires g c = (
  omega arith,
  (
    subst (λ ss. All (IsSound (length c.args.file.now)) ss) (sym c.segments_of-segments.ensures) (sound_plan c.args.file.now c.args.plan.now c.requires.accepted c.requires.plan),
    (omega (arith, c.new-mem.ensures.count), (omega (arith, c.in_ok-stack.ensures.placed), omega (arith, c.in_ok-stack.ensures.ends))),
  ),
)

-- the limits are passed by the segments and the stack exactly where the image passes them
pub exceed_limits-requires : goal.exceed_limits-requires
exceed_limits-requires g c =
    let sound = sound_plan c.args.file.now c.args.plan.now c.requires.accepted c.requires.plan in
    subst (λ (ss : List Segment). All (λ s. s.at + s.memory < 281474976710656) ss) (sym c.segments_of-segments.ensures) (λ k d within. omega (arith, (sound k d within).below))

pub returns-then-exceed_limits-clause-pages : goal.returns-then-exceed_limits-clause-pages
returns-then-exceed_limits-clause-pages g c =
    let few : exceeds_arguments c.args.args.now c.args.env.now ≡ false = not_true _ (λ h. absurd (is_some_none c.size_of.result c.in-Some.size c.in-Some.is (c.size_of.ensures.none.1 h))) in
    (λ _. (few, sym (exceeds-image c.args.room.now c.args.file.now c.args.plan.now c.segments_of-segments.result.now c.args.args.now c.args.env.now c.args.ids c.requires.accepted c.requires.plan c.segments_of-segments.ensures) ∙ sym c.exceed_limits.ensures ∙ c.if-exceed_limits.true), λ _. refl)

pub returns-in_err-stack-clause-pages : goal.returns-in_err-stack-clause-pages
returns-in_err-stack-clause-pages g c =
    let within = sym (exceeds-image c.args.room.now c.args.file.now c.args.plan.now c.segments_of-segments.result.now c.args.args.now c.args.env.now c.args.ids c.requires.accepted c.requires.plan c.segments_of-segments.ensures) ∙ sym c.exceed_limits.ensures ∙ c.if-exceed_limits.false in
    search (rules, within)

pub unreachable-requires : goal.unreachable-requires
unreachable-requires g c =
    let within = sym (exceeds-image c.args.room.now c.args.file.now c.args.plan.now c.segments_of-segments.result.now c.args.args.now c.args.env.now c.args.ids c.requires.accepted c.requires.plan c.segments_of-segments.ensures) ∙ sym c.exceed_limits.ensures ∙ c.if-exceed_limits.false in
    let are = pages-are c.args.file.now c.args.plan.now c.args.args.now c.args.env.now c.args.ids c.new-mem.result c.segments_of-segments.result.now c.in_ok-stack.stack.sp c.in_ok-stack.stack.bytes
    c.new-mem.ensures.empty c.segments_of-segments.ensures c.in_ok-stack.ensures.sp c.in_ok-stack.ensures.bytes in
    let exceeds = sym (exceeds-is c.args.room.now c.new-mem.result _ _ c.new-mem.ensures.count are) ∙ c.put_all.ensures.full (c.in-Err-Full.is ∙ ap Err c.in-Err-Full.field-0-is) in
    true_false (sym exceeds ∙ within)

pub returns-in-Err-NoMemory-clause-pages : goal.returns-in-Err-NoMemory-clause-pages
returns-in-Err-NoMemory-clause-pages g c =
    let within = sym (exceeds-image c.args.room.now c.args.file.now c.args.plan.now c.segments_of-segments.result.now c.args.args.now c.args.env.now c.args.ids c.requires.accepted c.requires.plan c.segments_of-segments.ensures) ∙ sym c.exceed_limits.ensures ∙ c.if-exceed_limits.false in
    (λ is. cc, λ h. absurd (true_false (sym h.1 ∙ within)))

pub returns-clause-pages : goal.returns-clause-pages
returns-clause-pages g c =
    let within = sym (exceeds-image c.args.room.now c.args.file.now c.args.plan.now c.segments_of-segments.result.now c.args.args.now c.args.env.now c.args.ids c.requires.accepted c.requires.plan c.segments_of-segments.ensures) ∙ sym c.exceed_limits.ensures ∙ c.if-exceed_limits.false in
    (λ is. cc, λ h. absurd (true_false (sym h.1 ∙ within)))

pub returns-in-Err-NoMemory-clause-err_room : goal.returns-in-Err-NoMemory-clause-err_room
returns-in-Err-NoMemory-clause-err_room g c =
    let gone : c.unmap.new.self.pages ≡ unmapped c.put_all.new.mem.pages 0 67108863 = ap (λ (m : Memory). m.pages) c.unmap.ensures.pages in
    let inside : c.mem.inside.pages ≡ c.unmap.new.self.pages = ap (λ (m : Memory). m.pages) c.mem.view_is in
    let placed : IsPlaced c.mem.inside.pages = c.mem.invariant.0 in
    let none = nothing_left c.put_all.new.mem.pages (subst IsPlaced (inside ∙ gone) placed) in
    let left : page_count c.unmap.new.self.pages ≡ 0 = ap page_count gone ∙ none in
    omega (arith, c.unmap.ensures.room, c.put_all.ensures.room, c.new-mem.ensures.count)

pub program_break-requires : goal.program_break-requires
program_break-requires g c =
    let sound = sound_plan c.args.file.now c.args.plan.now c.requires.accepted c.requires.plan in
    subst (λ (ss : List Segment). All (λ s. s.at + s.memory < 281474976710656) ss) (sym c.segments_of-segments.ensures) (λ k d within. omega (arith, (sound k d within).below))

pub returns-clause-within : goal.returns-clause-within
returns-clause-within g c =
    let are = pages-are c.args.file.now c.args.plan.now c.args.args.now c.args.env.now c.args.ids c.new-mem.result c.segments_of-segments.result.now c.in_ok-stack.stack.sp c.in_ok-stack.stack.bytes
    c.new-mem.ensures.empty c.segments_of-segments.ensures c.in_ok-stack.ensures.sp c.in_ok-stack.ensures.bytes in
    let filled = ap (λ (m : Memory). m.pages) c.in-Ok.ensures.ok in
    sym (exceeds-is c.args.room.now c.new-mem.result c.put_all.new.mem.pages _ c.new-mem.ensures.count (filled ∙ are)) ∙ c.in-Ok.ensures.within

pub returns-clause-memory : goal.returns-clause-memory
returns-clause-memory g c =
    let are = pages-are c.args.file.now c.args.plan.now c.args.args.now c.args.env.now c.args.ids c.new-mem.result c.segments_of-segments.result.now c.in_ok-stack.stack.sp c.in_ok-stack.stack.bytes
    c.new-mem.ensures.empty c.segments_of-segments.ensures c.in_ok-stack.ensures.sp c.in_ok-stack.ensures.bytes in
    memory-is c.new-mem.result c.put_all.new.mem _ _ c.new-mem.ensures.empty c.in-Ok.ensures.ok are

pub returns-clause-segments : goal.returns-clause-segments
returns-clause-segments g c =
    let file = c.args.file.now in
    let are = pages-are file c.args.plan.now c.args.args.now c.args.env.now c.args.ids c.new-mem.result c.segments_of-segments.result.now c.in_ok-stack.stack.sp c.in_ok-stack.stack.bytes
    c.new-mem.ensures.empty c.segments_of-segments.ensures c.in_ok-stack.ensures.sp c.in_ok-stack.ensures.bytes in
    let filled = ap (λ (m : Memory). m.pages) c.in-Ok.ensures.ok ∙ are in
    let low = subst (λ sp. 0x3F_FFEF_F000 ≤ sp) c.in_ok-stack.ensures.sp c.in_ok-stack.ensures.placed in
    subst (λ m. All (HoldsSegment file m) (planned c.args.plan.now)) (sym filled)
    (image_segments file c.args.plan.now c.args.args.now c.args.env.now c.args.ids c.requires.accepted c.requires.plan low)

pub returns-clause-stack : goal.returns-clause-stack
returns-clause-stack g c =
    let file = c.args.file.now in
    let args = c.args.args.now in
    let env = c.args.env.now in
    let bytes = stack_bytes (pairs_of c.args.plan.now c.args.ids) args env in
    let are = pages-are file c.args.plan.now args env c.args.ids c.new-mem.result c.segments_of-segments.result.now c.in_ok-stack.stack.sp c.in_ok-stack.stack.bytes
    c.new-mem.ensures.empty c.segments_of-segments.ensures c.in_ok-stack.ensures.sp c.in_ok-stack.ensures.bytes in
    let filled = ap (λ (m : Memory). m.pages) c.in-Ok.ensures.ok ∙ are in
    let low = subst (λ sp. 0x3F_FFEF_F000 ≤ sp) c.in_ok-stack.ensures.sp c.in_ok-stack.ensures.placed in
    let size = ap length c.in_ok-stack.ensures.bytes in
    let high : stack_pointer args env + length bytes ≤ 0x3F_FFFF_F000 = omega (arith, c.in_ok-stack.ensures.sp, c.in_ok-stack.ensures.ends) in
    subst (λ m. HoldsBytes m (stack_pointer args env) bytes) (sym filled) (image_stack file c.args.plan.now args env c.args.ids low high)
