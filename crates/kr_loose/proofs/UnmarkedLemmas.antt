-- Memories without marked bytes stay so, whatever is written to them, mapped, taken away or protected, and reading leaves them as they are.
use Rattle.std.specs.FinMap as map
use Rattle.std.proofs.Common.{◌≡◌, inl, inr, ℕ, zero, suc, ◌+◌, ◌/◌, ◌%◌, Bool, true, false, ◌||◌, List, [], ◌∷◌, replicate, get_or, Option, Some, None, refl, sym, ap, subst, ◌∙◌}
use Rattle.std.specs.Prelude.{slice_set}
use Rattle.std.specs.Option.{option_map, option_map_or}
use Rattle.std.specs.Ordering.{nat_cmp}
use Rattle.std.proofs.lemmas.Bool.{cases_eq}
use Rattle.kr_core.proofs.pr_base.MapLemmas.{get-changed_other, get-changed_same, get-insert_other, get-insert_same, get-remove_other, get-remove_same}
use Rattle.kr_core.specs.rv_mem.declared.regs.Regs.{Regs}
use Rattle.kr_core.specs.rv_mem.declared.rights.Rights.{Rights}
use Rattle.kr_core.specs.rv_mem.Actions.{Action, CarriedOut, Done, MayUse, ReadBytes, WriteBytes, allows_uses, carried_out}
use Rattle.kr_core.specs.rv_mem.Marks.{no_marks}
use Rattle.kr_core.specs.rv_mem.Memory.{Memory, after_read, with_pages}
use Rattle.kr_core.specs.rv_mem.Page.{PageState, fresh_page, page_with_rights, page_written}
use Rattle.kr_core.specs.rv_mem.Pages.{Pages, any_marked, bytes_from, is_marked, mapped, protected, unmapped, with_page, written}
use Rattle.kr_core.specs.rv_cpu.Run.{ran_holding}
use Rattle.kr_core.specs.rv_cpu.Step.{Stepped, step}
use Rattle.kr_core.specs.rv_cpu.declared.event.Event.{Event}
use Rattle.kr_core.specs.rv_cpu.declared.event.Event.TheVariants.{Next, Call, Killed}
use Rattle.kr_core.specs.rv_cpu.declared.reservation.Held.{Held}
use Rattle.kr_core.proofs.rv_cpu.RunLemmas.{by_event}
use Rattle.kr_loose.specs.Marks.{ActionsMarkNothing, HasNoMarks, InstructionsMarkNothing}

-- ---- one page

-- the mark of a byte of a page, and none where there is no page
abbrev mark_in : ℕ → Option PageState → Bool
mark_in i o = option_map_or (λ (p : PageState). get_or p.marks i false) o false

-- a mark that is taken away sets none
set-clear : (marks : List Bool) (i j : ℕ) → get_or marks j false ≡ false → get_or (slice_set marks i false) j false ≡ false
set-clear [] i j was = was
set-clear (x ∷ marks) zero zero was = refl
set-clear (x ∷ marks) zero (suc j) was = was
set-clear (x ∷ marks) (suc i) zero was = was
set-clear (x ∷ marks) (suc i) (suc j) was = set-clear marks i j was

-- a page changed in a way that sets no mark
page-clear : (m : Pages) (k : ℕ) (f : PageState → PageState) (i q : ℕ) → ((p : PageState) → get_or p.marks i false ≡ false → get_or (f p).marks i false ≡ false)
    → mark_in i (map.get m q) ≡ false → mark_in i (map.get (with_page m k f) q) ≡ false
page-clear m k f i q keeps was =
    elim (cases_eq q k) [
      | inl is ↦ subst (λ (r : ℕ). mark_in i (map.get (with_page m k f) r) ≡ false) (sym is)
          (subst (λ (o : Option PageState). mark_in i o ≡ false) (sym (get-changed_same m k f)) (changed (map.get m k) (subst (λ (r : ℕ). mark_in i (map.get m r) ≡ false) is was)))
      | inr other ↦ subst (λ (o : Option PageState). mark_in i o ≡ false) (sym (get-changed_other m k f q other)) was
    ]
  where
    changed : (o : Option PageState) → mark_in i o ≡ false → mark_in i (option_map f o) ≡ false
    changed None was = was
    changed (Some p) was = keeps p was

-- a page in place of another
put-clear : (m : Pages) (k : ℕ) (p : PageState) (i q : ℕ) → get_or p.marks i false ≡ false → mark_in i (map.get m q) ≡ false → mark_in i (map.get (map.insert m k p) q) ≡ false
put-clear m k p i q own was =
    elim (cases_eq q k) [
      | inl is ↦ subst (λ (r : ℕ). mark_in i (map.get (map.insert m k p) r) ≡ false) (sym is) (subst (λ (o : Option PageState). mark_in i o ≡ false) (sym (get-insert_same m k p)) own)
      | inr other ↦ subst (λ (o : Option PageState). mark_in i o ≡ false) (sym (get-insert_other m k p q other)) was
    ]

gone-clear : (m : Pages) (k i q : ℕ) → mark_in i (map.get m q) ≡ false → mark_in i (map.get (map.remove m k) q) ≡ false
gone-clear m k i q was =
    elim (cases_eq q k) [
      | inl is ↦ subst (λ (r : ℕ). mark_in i (map.get (map.remove m k) r) ≡ false) (sym is) (subst (λ (o : Option PageState). mark_in i o ≡ false) (sym (get-remove_same m k)) refl)
      | inr other ↦ subst (λ (o : Option PageState). mark_in i o ≡ false) (sym (get-remove_other m k q other)) was
    ]

-- ---- changes of pages

pub unmarked-empty : HasNoMarks map.empty
unmarked-empty a = subst (λ (o : Option PageState). mark_in (a % 4096) o ≡ false) (sym (map.get-empty nat_cmp (a / 4096))) refl

pub unmarked-written : (m : Pages) (at : ℕ) (bs : List ℕ) → HasNoMarks m → HasNoMarks (written m at bs)
unfolding written
unmarked-written m at [] clear = clear
unmarked-written m at (b ∷ bs) clear =
    unmarked-written (with_page m (at / 4096) (page_written (at % 4096) (b ∷ []))) (at + 1) bs
    (λ a. page-clear m (at / 4096) (page_written (at % 4096) (b ∷ [])) (a % 4096) (a / 4096) (λ p was. set-clear p.marks (at % 4096) (a % 4096) was) (clear a))

pub unmarked-protected : (m : Pages) (first n : ℕ) (rights : Rights) → HasNoMarks m → HasNoMarks (protected m first n rights)
unfolding protected
unmarked-protected m first zero rights clear a = clear a
unmarked-protected m first (suc n) rights clear a =
    page-clear (protected m first n rights) (first + n) (page_with_rights rights) (a % 4096) (a / 4096) (λ p was. was) (unmarked-protected m first n rights clear a)

none-set : (n i : ℕ) → get_or (replicate {A = Bool} n false) i false ≡ false
none-set zero i = refl
none-set (suc n) zero = refl
none-set (suc n) (suc i) = none-set n i

fresh-clear : (rights : Rights) (i : ℕ) → get_or (fresh_page rights).marks i false ≡ false
unfolding no_marks
fresh-clear rights i = none-set 4096 i

pub unmarked-mapped : (m : Pages) (first n : ℕ) (rights : Rights) → HasNoMarks m → HasNoMarks (mapped m first n rights)
unfolding mapped
unmarked-mapped m first zero rights clear a = clear a
unmarked-mapped m first (suc n) rights clear a =
    put-clear (mapped m first n rights) (first + n) (fresh_page rights) (a % 4096) (a / 4096) (fresh-clear rights (a % 4096)) (unmarked-mapped m first n rights clear a)

pub unmarked-unmapped : (m : Pages) (first n : ℕ) → HasNoMarks m → HasNoMarks (unmapped m first n)
unfolding unmapped
unmarked-unmapped m first zero clear a = clear a
unmarked-unmapped m first (suc n) clear a = gone-clear (unmapped m first n) (first + n) (a % 4096) (a / 4096) (unmarked-unmapped m first n clear a)

-- ---- reading

none-marked : (m : Pages) (at n : ℕ) → HasNoMarks m → any_marked m at n ≡ false
unfolding any_marked
none-marked m at zero clear = refl
none-marked m at (suc n) clear = ap (λ (b : Bool). b || any_marked m (at + 1) n) (clear at) ∙ none-marked m (at + 1) n clear

or-false : (b : Bool) → (b || false) ≡ b
or-false true = refl
or-false false = refl

abbrev noting : Memory → Bool → Memory
noting m read = record { pages = m.pages; read_marked = read }

-- nothing is noted of what was read
pub unread : (m : Memory) (at n : ℕ) → HasNoMarks m.pages → after_read m at n ≡ m
unread m at n clear = ap (λ (b : Bool). noting m (m.read_marked || b)) (none-marked m.pages at n clear) ∙ ap (noting m) (or-false m.read_marked)

-- ---- actions and instructions

pub action-unmarked : {A : Type 0} (action : Action A) (m : Memory) → HasNoMarks m.pages → HasNoMarks (carried_out action m).memory.pages
action-unmarked (Done reply) m clear = clear
action-unmarked (MayUse at n uses next) m clear = action-unmarked (next (allows_uses m.pages at n uses)) m clear
action-unmarked (ReadBytes at n next) m clear = action-unmarked (next (bytes_from m.pages at n)) (after_read m at n) clear
action-unmarked (WriteBytes at bytes next) m clear = action-unmarked next (with_pages m (written m.pages at bytes)) (unmarked-written m.pages at bytes clear)

pub actions-mark-nothing : (A : Type 0) → ActionsMarkNothing A
actions-mark-nothing A action m clear = action-unmarked action m clear

-- after the first instruction, by its event
first-unmarked : (fuel : ℕ) → ((held : Option Held) (s : Regs) (m : Memory) → HasNoMarks m.pages → HasNoMarks (ran_holding fuel held s m).memory.pages)
    → (event : Event) (first : CarriedOut Stepped) → HasNoMarks first.memory.pages → HasNoMarks (by_event event fuel first).memory.pages
first-unmarked fuel rest Next first clear = rest first.reply.held first.reply.regs first.memory clear
first-unmarked fuel rest Call first clear = clear
first-unmarked fuel rest (Killed signal) first clear = clear

pub ran-unmarked : (fuel : ℕ) (held : Option Held) (s : Regs) (m : Memory) → HasNoMarks m.pages → HasNoMarks (ran_holding fuel held s m).memory.pages
unfolding ran_holding
ran-unmarked zero held s m clear = clear
ran-unmarked (suc fuel) held s m clear =
    let first : CarriedOut Stepped = carried_out (step s held) m in
    first-unmarked fuel (ran-unmarked fuel) first.reply.event first (action-unmarked (step s held) m clear)

pub instructions-mark-nothing : InstructionsMarkNothing
instructions-mark-nothing fuel regs memory clear = ran-unmarked fuel None regs memory clear
