-- The image as a whole, and pages that are taken back.
use Rattle.std.specs.FinMap as map
use Rattle.std.proofs.Common.{◌≡◌, ℕ, ◌+◌, ◌-◌, ◌≤◌, zero, suc, Bool, true, false, List, length, refl, sym, ap, subst, ◌∙◌, arith, Some, None, Option, is_some, length-append, add-one, cond, not}
use Rattle.std.specs.Prelude.{All, filter}
use Rattle.std.specs.Ordering.{nat_cmp}
use Rattle.std.proofs.lemmas.List.{length-map}
use Rattle.std.proofs.lemmas.List.Filters.{length-filter_both}
use Rattle.rv_mem.specs.Page.{PageState}
use Rattle.rv_mem.specs.Pages.{Pages, unmapped, IsPlaced}
use Rattle.rv_mem.specs.Memory.{Memory, empty_memory, with_pages, page_count}
use Rattle.rv_mem.proofs.pr_base.MapLemmas.{same_values}
use Rattle.rv_mem.proofs.ChangeLemmas.{get-unmapped_in}
use Rattle.rv_mem.proofs.TableLemmas.{by_range}
use Rattle.elf_read.specs.Plans.{IsInOrder, IsSound, plan_of, planned, segment_of, segments_of}
use Rattle.elf_read.specs.Headers.{file_header, program_headers, table_entries}
use Rattle.elf_read.specs.Rules.{first_broken, first_broken_identity, first_broken_table, is_bad_table, is_segment, displacement}
use Rattle.elf_read.specs.declared.headers.FileHeader.{FileHeader}
use Rattle.elf_read.specs.declared.fault.ElfFault.{ElfFault}
use Rattle.elf_read.specs.declared.fault.ElfFault.TheVariants.{Table}
use Rattle.std.specs.Option.{option_or}
use Rattle.std.proofs.lemmas.Bool.Decides.{nat_tests}
use Rattle.elf_read.specs.declared.plan.Plan.{Plan}
use Rattle.elf_read.specs.declared.plan.Segment.{Segment}
use Rattle.elf_read.proofs.Accepted.{planned_sound, planned_in_order}
use Rattle.elf_load.specs.Placed.{HoldsSegment, HoldsBytes}
use Rattle.elf_load.proofs.AddressedLemmas.{image_holds, stack_holds}
use Rattle.elf_load.specs.FirstStack.{stack_pointer, stack_bytes, pairs_of}
use Rattle.elf_load.specs.Image.{with_segments, with_stack, image_pages, exceeds_pages}

-- ---- the plan

none_of_both : (first next : Option ElfFault) → option_or first next ≡ None → (first ≡ None) × (next ≡ None)
none_of_both None next e = (refl, e)
none_of_both (Some fault) next e = cc

not_taken : (b : Bool) (fault : ElfFault) (next : Option ElfFault) → cond b (Some fault) next ≡ None → b ≡ false
not_taken true fault next e = cc
not_taken false fault next e = refl

few_headers : (header : FileHeader) (size : ℕ) → is_bad_table header size ≡ false → header.e_phnum ≤ 64
few_headers header size good = grind (arith, nat_tests)

length-table_entries : (file : List ℕ) (start n : ℕ) → length (table_entries file start n) ≡ n
length-table_entries file start zero = refl
length-table_entries file start (suc n) =
    length-append (table_entries file start n) _ ∙ ap (λ k. k + 1) (length-table_entries file start n) ∙ add-one n

-- an accepted file's plan has no more segments than there is room for
pub few_segments : (file : List ℕ) (plan : Plan) → first_broken file ≡ None → plan ≡ plan_of file → plan.count ≤ 64
few_segments file plan accepted e =
    let header = file_header file in
    let table = (none_of_both (first_broken_identity file) _ accepted).1 in
    let entries = (none_of_both (first_broken_table header file) _ table).0 in
    let few = few_headers header (length file) (not_taken (is_bad_table header (length file)) Table _ entries) in
    let count : plan.count ≡ length (segments_of (displacement header) (program_headers file)) = ap (λ (p : Plan). p.count) e in
    let mapped = length-map (filter is_segment (program_headers file)) (segment_of (displacement header)) in
    let filtered = length-filter_both is_segment (λ h. not (is_segment h)) (λ _. refl) (program_headers file) in
    omega (arith, length-table_entries file header.e_phoff header.e_phnum)

pub sound_plan : (file : List ℕ) (plan : Plan) → first_broken file ≡ None → plan ≡ plan_of file → All (IsSound (length file)) (planned plan)
sound_plan file plan accepted e = subst (λ p. All (IsSound (length file)) (planned p)) (sym e) (planned_sound file accepted)

-- ---- the image

pub pages-are : (file : List ℕ) (plan : Plan) (args env : List (List ℕ)) (ids : List ℕ) (m : Memory) (segments : List Segment) (sp : ℕ) (bytes : List ℕ)
    → m ≡ empty_memory → segments ≡ planned plan → sp ≡ stack_pointer args env → bytes ≡ stack_bytes (pairs_of plan ids) args env
    → with_stack (with_segments file m.pages segments) sp bytes ≡ image_pages file plan args env ids
unfolding image_pages
pages-are file plan args env ids m segments sp bytes is_m is_segments is_sp is_bytes =
    ap (λ (n : Memory). with_stack (with_segments file n.pages segments) sp bytes) is_m
    ∙ ap (λ ss. with_stack (with_segments file empty_memory.pages ss) sp bytes) is_segments
    ∙ ap (λ s. with_stack (with_segments file empty_memory.pages (planned plan)) s bytes) is_sp
    ∙ ap (with_stack (with_segments file empty_memory.pages (planned plan)) (stack_pointer args env)) is_bytes

pub memory-is : (m filled : Memory) (pages all : Pages) → m ≡ empty_memory → filled ≡ with_pages m pages → pages ≡ all → filled ≡ with_pages empty_memory all
memory-is m filled pages all empty fills are =
    fills ∙ ap (λ (n : Memory). with_pages n pages) empty ∙ ap (with_pages empty_memory) are

pub exceeds-is : (room : ℕ) (m : Memory) (pages all : Pages) → page_count m.pages ≡ 0 → pages ≡ all → exceeds_pages (room - page_count m.pages) (page_count pages) ≡ exceeds_pages room (page_count all)
exceeds-is room m pages all none are =
    let others : room - page_count m.pages ≡ room = omega arith in
    ap (λ o. exceeds_pages o (page_count pages)) others ∙ ap (λ p. exceeds_pages room (page_count p)) are

-- ---- pages that are taken back

none_left : (o : Option PageState) → (is_some o ≡ true → ⊥) → o ≡ None
none_left None h = refl
none_left (Some p) h = absurd (h refl)

-- where all addresses are unmapped no page is left
pub nothing_left : (m : Pages) → IsPlaced (unmapped m 0 67108863) → page_count (unmapped m 0 67108863) ≡ 0
nothing_left m placed =
    ap map.len (same_values (unmapped m 0 67108863) map.empty (by_range (λ q. map.get (unmapped m 0 67108863) q ≡ map.get (map.empty {X = PageState} {R = nat_cmp}) q) 0 67108863
    (λ k l. get-unmapped_in m 0 67108863 k l ∙ sym (map.get-empty nat_cmp (0 + k)))
    (λ q apart. none_left (map.get (unmapped m 0 67108863) q) (λ there. let below = placed q there in apart q below (omega arith))
    ∙ sym (map.get-empty nat_cmp q))))
    ∙ map.len-empty nat_cmp PageState

-- ---- address by address

pub image_segments : (file : List ℕ) (plan : Plan) (args env : List (List ℕ)) (ids : List ℕ) → first_broken file ≡ None → plan ≡ plan_of file → 0x3F_FFEF_F000 ≤ stack_pointer args env
    → All (HoldsSegment file (image_pages file plan args env ids)) (planned plan)
unfolding image_pages
image_segments file plan args env ids accepted is low =
    let ordered = subst (λ p. IsInOrder 0 (planned p)) (sym is) (planned_in_order file accepted) in
    image_holds file (planned plan) (stack_pointer args env) (stack_bytes (pairs_of plan ids) args env) (sound_plan file plan accepted is) ordered low

pub image_stack : (file : List ℕ) (plan : Plan) (args env : List (List ℕ)) (ids : List ℕ) → 0x3F_FFEF_F000 ≤ stack_pointer args env
    → stack_pointer args env + length (stack_bytes (pairs_of plan ids) args env) ≤ 0x3F_FFFF_F000
    → HoldsBytes (image_pages file plan args env ids) (stack_pointer args env) (stack_bytes (pairs_of plan ids) args env)
unfolding image_pages
image_stack file plan args env ids low high = stack_holds file (planned plan) (stack_pointer args env) (stack_bytes (pairs_of plan ids) args env) low high
