-- How many pages an image has: as many as its segments and its stack, which share none.
use Rattle.std.specs.FinMap as map
use Rattle.std.proofs.Common.{◌≡◌, inr, ℕ, ◌+◌, ◌-◌, ◌≤◌, ◌<◌, zero, suc, false, List, [], ◌∷◌, length, cond, sym, ap, subst, ◌∙◌, arith, None, is_some}
use Rattle.std.specs.Prelude.{All}
use Rattle.std.specs.Ordering.{nat_cmp}
use Rattle.std.proofs.lemmas.List.Elements.{All-head, All-tail}
use Rattle.rv_mem.specs.declared.rights.Rights.{Rights}
use Rattle.rv_mem.specs.Page.{PageState}
use Rattle.rv_mem.specs.Pages.{Pages, mapped}
use Rattle.rv_mem.specs.Memory.{page_count, empty_memory}
use Rattle.rv_mem.proofs.ChangeLemmas.{len-mapped_more}
use Rattle.rv_mem.proofs.TableLemmas.{mapped-zero}
use Rattle.elf_read.specs.Plans.{IsInOrder, IsSound, plan_of, planned}
use Rattle.elf_read.specs.Rules.{first_broken}
use Rattle.elf_read.specs.declared.plan.Plan.{Plan}
use Rattle.elf_read.specs.declared.plan.Segment.{Segment}
use Rattle.elf_read.proofs.Accepted.{planned_in_order}
use Rattle.elf_load.specs.FirstStack.{stack_pointer, stack_bytes, pairs_of}
use Rattle.elf_load.specs.Image.{with_segment, with_segments, with_stack, image_pages, image_exceeds, exceeds_pages, segment_pages, first_page, end_page, rights_in, stack_pages, stack_rights}
use Rattle.elf_load.proofs.AddressedLemmas.{get-with_segment_out}
use Rattle.elf_load.proofs.PlacedLemmas.{count-with_segment, count-with_stack}
use Rattle.elf_load.proofs.ImageLemmas.{sound_plan}

-- where no page is there, as many are added as are mapped
len-mapped_fresh : (m : Pages) (first n : ℕ) (rights : Rights) → ((k : ℕ) → k < n → map.get m (first + k) ≡ None) → map.len (mapped m first n rights) ≡ map.len m + n
len-mapped_fresh m first zero rights none = ap map.len (mapped-zero m first rights) ∙ omega arith
len-mapped_fresh m first (suc n) rights none =
    let free : map.contains_key m (first + n) ≡ false = ap is_some (none n (omega arith)) in
    let more = len-mapped_more m first n rights
    ∙ ap (λ b. cond b (map.len (mapped m first n rights)) (map.len (mapped m first n rights) + 1)) free in
    omega (arith, more, len-mapped_fresh m first n rights (λ k l. none k (omega arith)))

count-fresh_segment : (file : List ℕ) (m : Pages) (s : Segment) → ((q : ℕ) → first_page s ≤ q → map.get m q ≡ None) → page_count (with_segment file m s) ≡ page_count m + (end_page s - first_page s)
count-fresh_segment file m s none =
    count-with_segment file m s (rights_in s.flags)
    ∙ len-mapped_fresh m (first_page s) (end_page s - first_page s) (rights_in s.flags) (λ k l. none (first_page s + k) (omega arith))

-- pages from a number on that none of the segments has
none-above : (file : List ℕ) (size : ℕ) (m : Pages) (segments : List Segment) (q : ℕ) → All (IsSound size) segments → 66060288 ≤ q → map.get m q ≡ None → map.get (with_segments file m segments) q ≡ None
unfolding with_segments
none-above file size m [] q sound high none = none
none-above file size m (s ∷ segments) q sound high none =
    let here = All-head (IsSound size) s segments sound in
    none-above file size (with_segment file m s) segments q (All-tail (IsSound size) s segments sound) high
    (get-with_segment_out file size m s q here (inr (omega (arith, here.below))) ∙ none)

count-with_segments : (file : List ℕ) (size : ℕ) (m : Pages) (segments : List Segment) (end : ℕ) → All (IsSound size) segments → IsInOrder end segments → ((q : ℕ) → end ≤ q → map.get m q ≡ None)
    → page_count (with_segments file m segments) ≡ page_count m + segment_pages segments
unfolding with_segments
count-with_segments file size m [] end sound ordered none = omega arith
count-with_segments file size m (s ∷ segments) end sound ordered none =
    let here = All-head (IsSound size) s segments sound in
    let behind = λ (q : ℕ) (past : end_page s ≤ q). get-with_segment_out file size m s q here (inr past) ∙ none q (omega (arith, ordered.0, here.in_memory)) in
    let rest = count-with_segments file size (with_segment file m s) segments (end_page s) (All-tail (IsSound size) s segments sound) ordered.1 behind in
    let this = count-fresh_segment file m s (λ q low. none q (omega (arith, ordered.0))) in
    omega (arith, rest, this)

count-fresh_stack : (m : Pages) (sp : ℕ) (bytes : List ℕ) → ((q : ℕ) → 66060288 ≤ q → map.get m q ≡ None) → page_count (with_stack m sp bytes) ≡ page_count m + 256
count-fresh_stack m sp bytes none =
    count-with_stack m sp bytes ∙ len-mapped_fresh m 67108607 256 stack_rights (λ k l. none (67108607 + k) (omega arith))

-- the pages of an accepted file's image
count-image : (file : List ℕ) (plan : Plan) (args env : List (List ℕ)) (ids : List ℕ) → first_broken file ≡ None → plan ≡ plan_of file
    → page_count (image_pages file plan args env ids) ≡ segment_pages (planned plan) + 256
unfolding image_pages
count-image file plan args env ids accepted is =
    let sound = sound_plan file plan accepted is in
    let ordered = subst (λ p. IsInOrder 0 (planned p)) (sym is) (planned_in_order file accepted) in
    let empty = λ (q : ℕ). map.get-empty {X = PageState} nat_cmp q in
    let segments = count-with_segments file (length file) empty_memory.pages (planned plan) 0 sound ordered (λ q _. empty q) in
    let stack = count-fresh_stack (with_segments file empty_memory.pages (planned plan)) (stack_pointer args env) (stack_bytes (pairs_of plan ids) args env)
    (λ q high. none-above file (length file) empty_memory.pages (planned plan) q sound high (empty q)) in
    let no_pages = map.len-empty nat_cmp PageState in
    omega (arith, stack, segments, no_pages)

-- so an image passes the limits exactly where its segments and the stack do
pub exceeds-image : (others : ℕ) (file : List ℕ) (plan : Plan) (segments : List Segment) (args env : List (List ℕ)) (ids : List ℕ) → first_broken file ≡ None → plan ≡ plan_of file → segments ≡ planned plan
    → exceeds_pages others (segment_pages segments + stack_pages) ≡ image_exceeds others file plan args env ids
exceeds-image others file plan segments args env ids accepted is are =
    ap (λ (ss : List Segment). exceeds_pages others (segment_pages ss + stack_pages)) are
    ∙ sym (ap (exceeds_pages others) (count-image file plan args env ids accepted is))
