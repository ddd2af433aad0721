-- A process of a state without marks: its registers and its memory, its shelf, and what it is told.
use Rattle.std.proofs.Common.{◌≡◌, ℕ, Bool, true, false, cond, Option, Some, None, refl, sym, ap, ◌∙◌}
use Rattle.std.specs.Prelude.{nat_eq}
use Rattle.std.specs.Option.{option_map, option_map_or}
use Rattle.kr_turns.proofs.kr_seen.kr_model.pr_base.MapLemmas.{mapped-empty}
use Rattle.kr_turns.specs.kr_model.kr_calls.Arguments.{number}
use Rattle.kr_turns.specs.kr_calm.Shelf.{has_path, is_usable, shelf_size, shelf_start, shelved_by, stack_pointer, with_shelf_marked}
use Rattle.kr_turns.specs.kr_model.Applied.{with_image, with_living}
use Rattle.kr_turns.specs.kr_model.State.{Image, Process, State, no_memory, process, with_process}
use Rattle.kr_turns.specs.kr_model.declared.outcome.Outcome.{Outcome}
use Rattle.kr_turns.specs.kr_model.declared.outcome.Outcome.TheVariants.{Answer, Wait, Ended, NoMemory}
use Rattle.kr_turns.specs.kr_seen.Carrying.{memory_of, with_memory, with_memory_of}
use Rattle.kr_turns.specs.kr_steps.Answering.{going, with_answer}
use Rattle.kr_turns.specs.kr_steps.Settling.{settled}
use Rattle.kr_turns.specs.kr_stops.Stopped.{computed, image_in, no_image, nothing_handed}
use Rattle.kr_turns.specs.rv_mem.Memory.{Memory}
use Rattle.kr_turns.specs.rv_mem.Pages.{Pages}
use Rattle.kr_turns.specs.rv_mem.declared.regs.Regs.{Regs}
use Rattle.kr_turns.specs.Shelving.{shelved_in}
use Rattle.kr_turns.specs.Turn.{calling}
use Rattle.law_marks.specs.Unmarked.{unmarked, unmarked_image, unmarked_in, unmarked_page}
use Rattle.law_marks.proofs.MemoryLemmas.{marked-unmarked}
use Rattle.law_marks.proofs.ProcessLemmas.{process-each, process_in-each}
use Rattle.law_marks.specs.Calls.{ShelvesAreMarks}
use Rattle.law_marks.specs.Unjudged.{unmarked_stop}

-- ---- what a process computes on

empty-unmarked : unmarked no_memory ≡ no_memory
empty-unmarked = ap (λ (pages : Pages). record { pages = pages; read_marked = false }) (mapped-empty (λ n p. unmarked_page p))

pub memory-unmarked : (pid : ℕ) (s : State ℕ Image) → memory_of pid (unmarked_in s) ≡ unmarked (memory_of pid s)
memory-unmarked pid s = ap (λ o. option_map_or (λ (p : Process ℕ Image). p.image.memory) o no_memory) (process-each unmarked_image pid s) ∙ by (process pid s)
  where
    by : (o : Option (Process ℕ Image)) → option_map_or (λ (p : Process ℕ Image). p.image.memory) (option_map (with_image unmarked_image) o) no_memory ≡ unmarked (option_map_or (λ (p : Process ℕ Image). p.image.memory) o no_memory)
    by None = sym empty-unmarked
    by (Some p) = refl

pub image-unmarked : (pid : ℕ) (s : State ℕ Image) → image_in pid (unmarked_in s) ≡ unmarked_image (image_in pid s)
image-unmarked pid s = ap (λ o. option_map_or (λ (p : Process ℕ Image). p.image) o no_image) (process-each unmarked_image pid s) ∙ by (process pid s)
  where
    by : (o : Option (Process ℕ Image)) → option_map_or (λ (p : Process ℕ Image). p.image) (option_map (with_image unmarked_image) o) no_image ≡ unmarked_image (option_map_or (λ (p : Process ℕ Image). p.image) o no_image)
    by None = ap (λ (memory : Memory). record { regs = no_image.regs; memory = memory }) (sym empty-unmarked)
    by (Some p) = refl

-- ---- what is done to one

pub computed-unmarked : (pid : ℕ) (regs : Regs) (memory : Memory) (s : State ℕ Image) → computed pid regs (unmarked memory) (unmarked_in s) ≡ unmarked_in (computed pid regs memory s)
computed-unmarked pid regs memory s =
    process_in-each unmarked_image (with_image (λ (image : Image). record { regs = regs; memory = unmarked memory })) (with_image (λ (image : Image). record { regs = regs; memory = memory })) (λ p. refl) pid s

pub noted-unmarked : (pid : ℕ) (memory : Memory) (s : State ℕ Image) → with_memory_of pid (unmarked memory) (unmarked_in s) ≡ unmarked_in (with_memory_of pid memory s)
noted-unmarked pid memory s = process_in-each unmarked_image (with_image (with_memory (unmarked memory))) (with_image (with_memory memory)) (λ p. refl) pid s

pub going-unmarked : (pid : ℕ) (regs : Regs → Regs) (waits : Bool) (s : State ℕ Image) → with_living (with_process pid (going regs waits)) (unmarked_in s) ≡ unmarked_in (with_living (with_process pid (going regs waits)) s)
going-unmarked pid regs waits s = process_in-each unmarked_image (going regs waits) (going regs waits) (λ p. refl) pid s

pub settled-unmarked : (pid : ℕ) (outcome : Outcome) (s : State ℕ Image) → settled pid outcome (unmarked_in s) ≡ unmarked_in (settled pid outcome s)
settled-unmarked pid (Answer value) s = going-unmarked pid (with_answer value) false s
settled-unmarked pid Wait s = going-unmarked pid (λ regs. regs) true s
settled-unmarked pid Ended s = refl
settled-unmarked pid NoMemory s = refl

-- ---- its shelf

pub shelf-unmarked : (marks : ℕ) (regs : Regs) (m : Memory) → unmarked (shelved_by marks regs m) ≡ unmarked m
shelf-unmarked marks regs m = by (nat_eq marks 0) (has_path (number regs)) (is_usable (stack_pointer regs) m.pages)
  where
    by : (b c d : Bool) → unmarked (cond b m (cond c (cond d (with_shelf_marked (stack_pointer regs) m) m) m)) ≡ unmarked m
    by true c d = refl
    by false true true = ap (λ (pages : Pages). record { pages = pages; read_marked = false }) (marked-unmarked m.pages (shelf_start (stack_pointer regs)) shelf_size)
    by false true false = refl
    by false false d = refl

shelved-unmarked : (marks pid : ℕ) (s : State ℕ Image) → shelved_in 0 pid (unmarked_in s) ≡ unmarked_in (shelved_in marks pid s)
shelved-unmarked marks pid s =
    let own : Image = image_in pid s in
    ap (λ (image : Image). computed pid image.regs (shelved_by 0 image.regs image.memory) (unmarked_in s)) (image-unmarked pid s)
    ∙ ap (λ (memory : Memory). computed pid own.regs memory (unmarked_in s)) (sym (shelf-unmarked marks own.regs own.memory))
    ∙ computed-unmarked pid own.regs (shelved_by marks own.regs own.memory) s

pub calling-unmarked : (marks pid : ℕ) (s : State ℕ Image) → calling 0 pid (unmarked_in s) ≡ unmarked_stop (calling marks pid s)
calling-unmarked marks pid s = ap (λ (state : State ℕ Image). record { state = state; pid = pid; handed = nothing_handed }) (shelved-unmarked marks pid s)

pub shelves_are_marks : ShelvesAreMarks
shelves_are_marks = shelf-unmarked
