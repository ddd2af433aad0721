-- A stopped process by its registers and its memory: what a tracer does to it is done to these.
use Rattle.std.proofs.Common.{◌≡◌, ℕ, ◌+◌, ◌≤◌, true, cond, ◌&&◌, List, [], ◌∷◌, length, arith, refl, ap, ◌∙◌}
use Rattle.std.specs.Prelude.{slice_set}
use Rattle.pt_tracer.specs.rv_mem.Memory.{Memory, with_pages}
use Rattle.pt_tracer.specs.rv_mem.Pages.{Pages, allows_all, written}
use Rattle.pt_tracer.specs.rv_mem.declared.regs.Regs.{Regs}
use Rattle.pt_tracer.specs.rv_mem.declared.rights.Use.TheVariants.{Write}
use Rattle.law_walks.specs.kr_model.State.{Image}
use Rattle.pt_tracer.specs.pt_faker.Stopping.{after_poke, memory_at, with_register}
use Rattle.kr_turns.specs.kr_stops.Stopped.{IsThere, Stopped, edited, image_at}
use Rattle.kr_turns.proofs.kr_stops.EditLemmas.{computed-lives, edited-twice, image-edited}
use Rattle.pt_tracer.specs.pt_args.Laws.{StandBetween, poked as pages_poked}
use Rattle.pt_tracer.specs.Poking.{may_poke, poked}
use Rattle.pt_tracer.specs.Registers.{is_register, with_arguments}
use Rattle.law_edits.specs.Shelves.{with_words}
use Rattle.law_edits.proofs.RangeLemmas.{part_allowed}

-- ---- where a range may be written, so may items that stand in it

pub may_between : (m : Pages) (bottom top n : ℕ) (items : List (ℕ × List ℕ)) (u : Stopped) → (memory_at u).pages ≡ m → top ≤ bottom + n → allows_all m bottom n Write ≡ true → StandBetween bottom top items → may_poke items u ≡ true
may_between m bottom top n [] u is high may stand = refl
may_between m bottom top n (p ∷ items) u is high may stand =
    let fits : p.0 + length p.1 ≤ top = stand.2 in
    let one : allows_all (memory_at u).pages p.0 (length p.1) Write ≡ true =
    ap (λ m. allows_all m p.0 (length p.1) Write) is ∙ part_allowed m bottom n p.0 (length p.1) Write stand.0 (omega (arith, fits, high)) may in
    ap (λ b. b && may_poke items u) one ∙ may_between m bottom p.0 n items u is (omega (arith, fits, high)) may stand.3

-- numbers of registers that are written
abbrev pub AreRegisters : List (ℕ × ℕ) → Type 0
AreRegisters [] = Unit {0}
AreRegisters (p ∷ ps) = (is_register p.0 ≡ true) × AreRegisters ps

-- ---- edits

module _ (t : Stopped) (there : IsThere t) where
  abbrev Edited : Regs → Memory → Stopped
  Edited regs memory = edited regs memory t

  pub image_is : (regs : Regs) (memory : Memory) → image_at (edited regs memory t) ≡ record { regs = regs; memory = memory }
  image_is regs memory = image-edited regs memory t there.lives

  pub still_there : (regs : Regs) (memory : Memory) → IsThere (edited regs memory t)
  still_there regs memory = record {
    lives = computed-lives t.pid regs memory t.state there.lives;
    one =
        ap (λ (i : Image). edited i.regs i.memory (edited regs memory t)) (image_is regs memory)
        ∙ edited-twice regs regs memory memory t;
  }

  pub register_set : (k v : ℕ) (regs : Regs) (memory : Memory) → with_register k v (edited regs memory t) ≡ edited (record { x = slice_set regs.x k v; pc = regs.pc }) memory t
  register_set k v regs memory =
      ap (λ (i : Image). edited (record { x = slice_set i.regs.x k v; pc = i.regs.pc }) i.memory (edited regs memory t)) (image_is regs memory)
      ∙ edited-twice regs (record { x = slice_set regs.x k v; pc = regs.pc }) memory memory t

  pub bytes_put : (at : ℕ) (bytes : List ℕ) (regs : Regs) (memory : Memory) → after_poke at bytes (edited regs memory t) ≡ edited regs (with_pages memory (written memory.pages at bytes)) t
  bytes_put at bytes regs memory =
      ap (λ (i : Image). edited i.regs (with_pages i.memory (written i.memory.pages at bytes)) (edited regs memory t)) (image_is regs memory)
      ∙ edited-twice regs regs memory (with_pages memory (written memory.pages at bytes)) t

  pub items_put : (items : List (ℕ × List ℕ)) (regs : Regs) (memory : Memory) → poked items (edited regs memory t) ≡ edited regs (with_pages memory (pages_poked memory.pages items)) t
  items_put [] regs memory = refl
  items_put (p ∷ items) regs memory = ap (poked items) (bytes_put p.0 p.1 regs memory) ∙ items_put items regs (with_pages memory (written memory.pages p.0 p.1))

  pub words_put : (ps : List (ℕ × ℕ)) (regs : Regs) (memory : Memory) → AreRegisters ps → with_arguments ps (edited regs memory t) ≡ edited (record { x = with_words ps regs.x; pc = regs.pc }) memory t
  words_put [] regs memory are = refl
  words_put (p ∷ ps) regs memory are =
      ap (with_arguments ps) (ap (λ b. cond b (with_register p.0 p.1 (edited regs memory t)) (edited regs memory t)) are.0 ∙ register_set p.0 p.1 regs memory)
      ∙ words_put ps (record { x = slice_set regs.x p.0 p.1; pc = regs.pc }) memory are.1
