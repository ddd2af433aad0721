-- A shelf that was marked is marked in all of its bytes.
use Rattle.std.proofs.Common.{◌≡◌, ◌∙◌, ◌+◌, ◌-◌, ◌/◌, ◌≤◌, ◌<◌, ℕ, true, if◌then◌else◌, ap, arith, subst, sym}
use Rattle.std.proofs.lemmas.Bool.{and_parts, leb-true}
use Rattle.std.specs.Prelude.{◌&&◌, nat_le}
use Rattle.pt_tracer.proofs.rv_mem.AccessLemmas.{contains_allowed}
use Rattle.pt_tracer.proofs.rv_mem.AddressLemmas.{is_marked-marked_in}
use Rattle.pt_tracer.specs.rv_mem.Memory.{Memory}
use Rattle.pt_tracer.specs.rv_mem.Pages.{IsWhole, Pages, allows, allows_all, is_marked, marked}
use Rattle.pt_tracer.specs.rv_mem.declared.rights.Use.TheVariants.{Read, Write}
use Rattle.kr_turns.specs.kr_calm.Shelf.{is_usable, shelf_size, shelf_start, shelved_by, stack_pointer, with_shelf_marked}
use Rattle.law_edits.proofs.RangeLemmas.{byte_allowed}
use Rattle.law_edits.specs.Marking.{ShelvesAreMarked}
use Rattle.law_edits.specs.Shelves.{HasMarkedShelf, bottom_of}

module _ (m : Pages) (whole : IsWhole m) (sp : ℕ) (room : 65536 ≤ sp) (all : allows_all m (bottom_of sp) 65536 Read ≡ true) where
  up_to : (sp a : ℕ) → 65536 ≤ sp → a < sp → a + 1 ≤ bottom_of sp + 65536
  up_to sp a room high = omega (arith, room, high)

  reads : (a : ℕ) → bottom_of sp ≤ a → a < sp → allows m a Read ≡ true
  reads a low high = byte_allowed m (bottom_of sp) 65536 a Read low (up_to sp a room high) all

  place : (bottom a : ℕ) → bottom ≤ a → bottom + (a - bottom) ≡ a
  place bottom a low = omega (arith, low)

  inside : (bottom a : ℕ) → a + 1 ≤ bottom + 65536 → a - bottom < 65536
  inside bottom a high = omega (arith, high)

  marks : (a : ℕ) → bottom_of sp ≤ a → a < sp → is_marked (marked m (bottom_of sp) 65536) a ≡ true
  marks a low high =
      let is = place (bottom_of sp) a low in
      let may = ap (λ a. allows m a Read) is ∙ reads a low high in
      ap (is_marked (marked m (bottom_of sp) 65536)) (sym is)
      ∙ is_marked-marked_in m (bottom_of sp) 65536 (a - bottom_of sp) whole (inside (bottom_of sp) a (up_to sp a room high)) (contains_allowed m ((bottom_of sp + (a - bottom_of sp)) / 4096) Read may)

pub shelves_are_marked : ShelvesAreMarked
shelves_are_marked regs m whole path usable =
    let sp = stack_pointer regs in
    let one = and_parts (nat_le shelf_size sp) (allows_all m.pages (shelf_start sp) shelf_size Read && allows_all m.pages (shelf_start sp) shelf_size Write) usable in
    let two = and_parts (allows_all m.pages (shelf_start sp) shelf_size Read) (allows_all m.pages (shelf_start sp) shelf_size Write) one.1 in
    let room = leb-true shelf_size sp one.0 in
    let is : shelved_by 1 regs m ≡ with_shelf_marked (stack_pointer regs) m =
    ap (λ b. if b then (if is_usable (stack_pointer regs) m.pages then with_shelf_marked (stack_pointer regs) m else m) else m) path
    ∙ ap (λ b. if b then with_shelf_marked (stack_pointer regs) m else m) usable in
    subst (λ (marked : Memory). HasMarkedShelf (stack_pointer regs) marked.pages m.pages) (sym is)
    (record { room = room; reads = reads m.pages whole sp room two.0; marks = marks m.pages whole sp room two.0 })
