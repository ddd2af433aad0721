-- Memories in which no byte is marked.
use Rattle.std.specs.FinMap as map
use Rattle.std.proofs.Common.{◌≡◌, ℕ, zero, suc, ◌+◌, ◌/◌, ◌%◌, Bool, true, false, ◌||◌, cond, List, [], ◌∷◌, Option, Some, None, Ok, Err, refl, ap, subst, ◌∙◌}
use Rattle.std.specs.Prelude.{◌-◌, Result, replicate, slice_index_or}
use Rattle.std.specs.Option.{option_map_or}
use Rattle.pt_tracer.specs.pr_base.declared.errno.Errno.{Errno}
use Rattle.pt_tracer.specs.pr_base.declared.errno.Errno.TheVariants.{ENOENT, ENOMEM}
use Rattle.pt_tracer.specs.rv_mem.Actions.{Action, Done, MayUse, ReadBytes, WriteBytes, allows_uses, carried_out}
use Rattle.pt_tracer.specs.rv_mem.Marks.{no_marks}
use Rattle.pt_tracer.specs.rv_mem.Memory.{Memory, after_read, with_pages}
use Rattle.pt_tracer.specs.rv_mem.Page.{PageState, fresh_page, page_written}
use Rattle.pt_tracer.specs.rv_mem.Pages.{Pages, any_marked, bytes_from, is_marked, mapped, with_page, written}
use Rattle.pt_tracer.specs.rv_mem.declared.rights.Rights.{Rights}
use Rattle.pt_tracer.proofs.rv_mem.PageLemmas.{sets-no_marks}
use Rattle.pt_tracer.proofs.rv_mem.SpaceLemmas.{each-empty, each-insert, each-with_page}
use Rattle.pt_tracer.specs.elf_load.Image.{end_page, file_bytes, first_page, image_pages, rights_in, stack_rights, with_segment, with_segments, with_stack}
use Rattle.pt_tracer.specs.elf_read.declared.plan.Segment.{Segment}
use Rattle.pt_tracer.specs.kr_exec.Lists.{Trying, and_then, lists_at}
use Rattle.pt_tracer.specs.kr_exec.declared.plan.ExecPlan.{ExecPlan}
use Rattle.kr_turns.specs.kr_execve.Execution.{Program, exceeds, execution_from, found_from, loaded, planned_from, program_of}
use Rattle.law_walks.specs.kr_model.Applied.{cwd_of}
use Rattle.law_walks.specs.kr_model.State.{Image, State}
use Rattle.law_walks.specs.kr_model.Walks as results
use Rattle.law_walks.specs.kr_tree.declared.place.Place.{Place}
use Rattle.law_walks.specs.kr_view.View.{Row}
use Rattle.pt_tracer.specs.pt_faker.Faking.{show_identity}
use Rattle.law_edits.specs.Fresh.{BeginningsReadNoMark, FreshMemoriesStay, HasNoMark, ImagesAreFresh, IsFresh, ProgramsAreFresh}

-- ---- marks

abbrev NoMarks : PageState → Type 0
NoMarks p = p.marks ≡ no_marks

none-there : (n i : ℕ) → slice_index_or (replicate n false) i false ≡ false
none-there zero i = refl
none-there (suc n) zero = refl
none-there (suc n) (suc i) = none-there n i

none-in-page : (i : ℕ) → slice_index_or no_marks i false ≡ false
unfolding no_marks
none-in-page i = none-there 4096 i

no-byte-marked : (m : Pages) → HasNoMark m → (a : ℕ) → is_marked m a ≡ false
no-byte-marked m none a = by (map.get m (a / 4096)) refl
  where
    by : (o : Option PageState) → map.get m (a / 4096) ≡ o → option_map_or (λ p. slice_index_or p.marks (a % 4096) false) o false ≡ false
    by None is = refl
    by (Some p) is = ap (λ marks. slice_index_or marks (a % 4096) false) (none (a / 4096) p is) ∙ none-in-page (a % 4096)

no-range-marked : (n : ℕ) (m : Pages) → HasNoMark m → (at : ℕ) → any_marked m at n ≡ false
unfolding any_marked
no-range-marked zero m none at = refl
no-range-marked (suc n) m none at = ap (λ b. b || any_marked m (at + 1) n) (no-byte-marked m none at) ∙ no-range-marked n m none (at + 1)

written-none : (bytes : List ℕ) (m : Pages) (at : ℕ) → HasNoMark m → HasNoMark (written m at bytes)
unfolding written
written-none [] m at none = none
written-none (b ∷ bytes) m at none =
    written-none bytes (with_page m (at / 4096) (page_written (at % 4096) (b ∷ []))) (at + 1)
    (each-with_page NoMarks m (at / 4096) (page_written (at % 4096) (b ∷ [])) (λ p h. ap (λ marks. (page_written (at % 4096) (b ∷ []) (record { bytes = p.bytes; rights = p.rights; marks = marks })).marks) h ∙ sets-no_marks (at % 4096) 1) none)

mapped-none : (n : ℕ) (m : Pages) (first : ℕ) (rights : Rights) → HasNoMark m → HasNoMark (mapped m first n rights)
unfolding mapped
mapped-none zero m first rights none = none
mapped-none (suc n) m first rights none = each-insert NoMarks (mapped m first n rights) (first + n) (fresh_page rights) refl (mapped-none n m first rights none)

-- ---- actions

after-reading : (a b : Bool) → a ≡ false → b ≡ false → (a || b) ≡ false
after-reading a b first second = ap (λ c. c || b) first ∙ second

fresh-stays : {A : Type 0} (action : Action A) (m : Memory) → IsFresh m → IsFresh (carried_out action m).memory
fresh-stays (Done reply) m fresh = fresh
fresh-stays (MayUse at n uses next) m fresh = fresh-stays (next (allows_uses m.pages at n uses)) m fresh
fresh-stays (ReadBytes at n next) m fresh =
    fresh-stays (next (bytes_from m.pages at n)) (after_read m at n) (record { unmarked = fresh.unmarked; unread = after-reading m.read_marked (any_marked m.pages at n) fresh.unread (no-range-marked n m.pages fresh.unmarked at) })
fresh-stays (WriteBytes at bytes next) m fresh = fresh-stays next (with_pages m (written m.pages at bytes)) (record { unmarked = written-none bytes m.pages at fresh.unmarked; unread = fresh.unread })

pub fresh_memories_stay : (A : Type 0) → FreshMemoriesStay A
fresh_memories_stay A action m fresh = fresh-stays action m fresh

pub beginnings_read_no_mark : BeginningsReadNoMark
beginnings_read_no_mark m i stack fresh = (fresh-stays (show_identity i stack) m fresh).unread

-- ---- images

module _ (file : List ℕ) where
  segment-none : (m : Pages) (s : Segment) → HasNoMark m → HasNoMark (with_segment file m s)
  unfolding with_segment
  segment-none m s none = written-none (file_bytes file s) (mapped m (first_page s) (end_page s - first_page s) (rights_in s.flags)) s.at (mapped-none (end_page s - first_page s) m (first_page s) (rights_in s.flags) none)

  segments-none : (m : Pages) (segments : List Segment) → HasNoMark m → HasNoMark (with_segments file m segments)
  unfolding with_segments
  segments-none m [] none = none
  segments-none m (s ∷ segments) none = segments-none (with_segment file m s) segments (segment-none m s none)

stack-none : (m : Pages) (sp : ℕ) (bytes : List ℕ) → HasNoMark m → HasNoMark (with_stack m sp bytes)
unfolding with_stack
stack-none m sp bytes none = written-none bytes (mapped m 67108607 256 stack_rights) sp (mapped-none 256 m 67108607 stack_rights none)

pub images_are_fresh : ImagesAreFresh
unfolding image_pages
images_are_fresh file plan args env ids = record { unmarked = stack-none _ _ _ (segments-none file map.empty _ (each-empty NoMarks)); unread = refl }

-- ---- programs

-- what follows gave what came of both
then-given : {A B : Type 0} (Q : Type 0) (action : Trying A) (next : A → Trying B) (m : Memory) (y : B) → (carried_out (and_then action next) m).reply ≡ Ok y → ((x : A) (w : Memory) → (carried_out (next x) w).reply ≡ Ok y → Q) → Q
then-given Q (Done (Ok x)) next m y is goes = goes x m is
then-given Q (Done (Err e)) next m y is goes = absurd (never is)
  where
    never : {A : Type 0} {e : Errno} {a : A} → ◌≡◌ {A = Result A Errno} (Err e) (Ok a) → ⊥
    never e = cc
then-given Q (MayUse at n uses go) next m y is goes = then-given Q (go (allows_uses m.pages at n uses)) next m y is goes
then-given Q (ReadBytes at n go) next m y is goes = then-given Q (go (bytes_from m.pages at n)) next (after_read m at n) y is goes
then-given Q (WriteBytes at bytes go) next m y is goes = then-given Q go next (with_pages m (written m.pages at bytes)) y is goes

module _ (table : List Row) (pid : ℕ) (s : State ℕ Image) (path : List ℕ) (args env : ℕ) (program : Program) where
  refused : {P : Type 0} (e : Errno) → ◌≡◌ {A = Result Program Errno} (Err e) (Ok program) → P
  refused e is = absurd cc

  loaded-fresh : (plan : ExecPlan ℕ) → loaded s plan ≡ Ok program → IsFresh program.image.memory
  loaded-fresh plan is = by (exceeds s plan) is
    where
      same : (p : Program) → ◌≡◌ {A = Result Program Errno} (Ok p) (Ok program) → p ≡ program
      same p e = cc

      by : (b : Bool) → cond b (Err ENOMEM) (Ok (program_of s.tree s.user plan)) ≡ Ok program → IsFresh program.image.memory
      by true e = refused ENOMEM e
      by false e = subst (λ (p : Program). IsFresh p.image.memory) (same (program_of s.tree s.user plan) e) (images_are_fresh _ plan.plan plan.args plan.env _)

  planned-fresh : (r : Result (ExecPlan ℕ) Errno) → results.and_then r (loaded s) ≡ Ok program → IsFresh program.image.memory
  planned-fresh (Ok plan) is = loaded-fresh plan is
  planned-fresh (Err e) is = refused e is

  from-fresh : (base : Place ℕ) (m : Memory) → (carried_out (execution_from table pid s path args env base) m).reply ≡ Ok program → IsFresh program.image.memory
  from-fresh base m is =
      then-given (IsFresh program.image.memory) (Done (found_from table pid s path args env base)) _ m program is
      (λ target w then. then-given (IsFresh program.image.memory) (lists_at args env) _ w program then (λ lists w told. planned-fresh (planned_from table pid s path args env base target lists) told))

  execution-fresh : (o : Option (Place ℕ)) (m : Memory) → (carried_out (option_map_or (execution_from table pid s path args env) o (Done (Err ENOENT))) m).reply ≡ Ok program → IsFresh program.image.memory
  execution-fresh None m is = refused ENOENT is
  execution-fresh (Some base) m is = from-fresh base m is

pub programs_are_fresh : ProgramsAreFresh
programs_are_fresh table pid s path args env memory program is = execution-fresh table pid s path args env program (cwd_of pid s) memory is
