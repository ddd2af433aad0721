-- Edits of a stopped process, one after the other.
pub use Rattle.kr_stops.proofs.EditLemmas.{edited-then}
use Rattle.std.proofs.Common.{◌≡◌, ◌∙◌, ◌+◌, ◌*◌, ◌≤◌, ◌&&◌, ℕ, zero, suc, pos, Bool, true, false, List, [], ◌∷◌, length, arith, w32, Result, Ok, Err, if◌then◌else◌, refl, sym, ap, subst}
use Rattle.std.specs.Int.{to_le_bytes}
use Rattle.std.specs.Prelude.{IsTrue, OnOk, slice_set}
use Rattle.pt_ident.specs.rv_mem.Actions.{Action, Done, ReadBytes, WriteBytes, carried_out}
use Rattle.pt_ident.specs.rv_mem.Layout.{layout_of}
use Rattle.pt_ident.specs.rv_mem.Memory.{Memory, after_read, with_pages}
use Rattle.pt_ident.specs.rv_mem.Pages.{Pages, allows, allows_all, bytes_from, written}
use Rattle.pt_ident.specs.rv_mem.declared.regs.Regs.{Regs}
use Rattle.pt_ident.specs.rv_mem.declared.rights.Use.{Use}
use Rattle.pt_ident.specs.rv_mem.declared.rights.Use.TheVariants.{Write}
use Rattle.pt_ident.proofs.rv_mem.AddressLemmas.{allows-written}
use Rattle.pt_ident.proofs.rv_mem.LayoutLemmas.{layouts_follow}
use Rattle.pt_ident.specs.kr_inode.declared.user.User.{User}
use Rattle.kr_stops.specs.kr_model.State.{Image}
use Rattle.kr_stops.specs.Editing.{after_peek, after_poke, after_request, decoded_at, memory_at, with_memory, with_register}
use Rattle.kr_stops.specs.Stopped.{IsEdited, IsThere, Stopped, edited, image_at}
use Rattle.kr_stops.proofs.EditLemmas.{edited-by, edited-same, edited-twice, image-edited}
use Rattle.elf_load.specs.pr_base.declared.errno.Errno.TheVariants.{EFAULT}
use Rattle.pt_ident.specs.Identity.{Answered, Identity, Numbers, answered, numbers_in, refusal, tell_numbers}
use Rattle.pt_ident.specs.Showing.{shown_stat}
use Rattle.pt_faker.specs.Carrying.{CarriesOut, on_its_memory}
use Rattle.pt_faker.specs.Stopping.{OnlyEdits}
use Rattle.pt_ident.specs.IdentityTable.{IdentityTable, shown_owners}
use Rattle.kr_stops.proofs.law_lawful.kr_model.kr_calls.DecodingLemmas.{decodings_leave_pages}
use Rattle.pt_faker.specs.Faking.{show_owner}

-- ---- edits of what is stopped, one after the other

pub only-then : {A B : Type 0} {stopped : A → Stopped} {around : A → B} {t u v : A} → OnlyEdits stopped around t u → OnlyEdits stopped around u v → OnlyEdits stopped around t v
only-then first second = record { edits = edited-then _ _ _ first.edits second.edits; rest = second.rest ∙ first.rest }

-- ---- answers

pub on_ok : {A E P Q : Type 0} (r : Result A E) → (P → Q) → OnOk r P → OnOk r Q
on_ok (Ok x) f p = f p
on_ok (Err e) f p = p

-- ---- three tests

pub and_second : (a b c : Bool) → (a && b && c) ≡ true → b ≡ true
and_second true true c e = refl
and_second true false c e = absurd cc
and_second false b c e = absurd cc

pub and_third : (a b c : Bool) → (a && b && c) ≡ true → c ≡ true
and_third true true c e = e
and_third true false c e = absurd cc
and_third false b c e = absurd cc

pub and_alike : (a b c x y z : Bool) → a ≡ x → b ≡ y → c ≡ z → (a && b && c) ≡ true → (x && y && z) ≡ true
and_alike a b c x y z p q r e = sym (ap (λ k. k && b && c) p ∙ ap (λ k. x && k && c) q ∙ ap (λ k. x && y && k) r) ∙ e

-- ---- memory

-- what is written changes no right
pub allows_all-written : (m : Pages) (at : ℕ) (bytes : List ℕ) (a n : ℕ) (what : Use) → allows_all (written m at bytes) a n what ≡ allows_all m a n what
unfolding allows_all
allows_all-written m at bytes a zero what = refl
allows_all-written m at bytes a (suc n) what =
    ap (λ b. b && allows_all (written m at bytes) (a + 1) n what) (allows-written m at bytes a what)
    ∙ ap (λ b. allows m a what && b) (allows_all-written m at bytes (a + 1) n what)

abbrev pub wrote : Memory → (at : ℕ) → List ℕ → Memory
wrote m at bytes = with_pages m (written m.pages at bytes)

-- groups take four bytes each
pub numbers_few : (bytes : List ℕ) → 4 * length (numbers_in bytes) ≤ length bytes
numbers_few [] = omega arith
numbers_few (a ∷ []) = omega arith
numbers_few (a ∷ b ∷ []) = omega arith
numbers_few (a ∷ b ∷ c ∷ []) = omega arith
numbers_few (a ∷ b ∷ c ∷ d ∷ bytes) = omega (arith, numbers_few bytes)

module _ (t : Stopped) (there : IsThere t) where
  pub memory-given : (m : Memory) → memory_at (with_memory m t) ≡ m
  memory-given m = ap (λ (i : Image). i.memory) (image-edited (image_at t).regs m t there.lives)

  pub registers-stay : (m : Memory) → (image_at (with_memory m t)).regs ≡ (image_at t).regs
  registers-stay m = ap (λ (i : Image). i.regs) (image-edited (image_at t).regs m t there.lives)

  -- the second memory counts
  pub memory-twice : (m n : Memory) → with_memory n (with_memory m t) ≡ with_memory n t
  memory-twice m n =
      ap (λ (r : Regs). edited r n (with_memory m t)) (registers-stay m)
      ∙ edited-twice (image_at t).regs (image_at t).regs m n t

  pub memory-edits : (m : Memory) → layout_of m.pages ≡ layout_of (memory_at t).pages → IsEdited t (with_memory m t)
  memory-edits m e = edited-by (image_at t).regs m t there refl e

  pub same-edits : (u : Stopped) → u ≡ t → IsEdited t u
  same-edits u e = subst (λ (v : Stopped). IsEdited t v) (sym e) (edited-same t there)

  pub poke-edits : (u : Stopped) (at : ℕ) (bytes : List ℕ) → u ≡ after_poke at bytes t → IsEdited t u
  poke-edits u at bytes e = subst (λ (v : Stopped). IsEdited t v) (sym e) (memory-edits _ (layouts_follow.writes (memory_at t).pages at bytes))

  pub peek-edits : (u : Stopped) (at n : ℕ) → u ≡ after_peek at n t → IsEdited t u
  peek-edits u at n e = subst (λ (v : Stopped). IsEdited t v) (sym e) (memory-edits (after_read (memory_at t) at n) refl)

  pub register-edits : (u : Stopped) (k v : ℕ) → u ≡ with_register k v t → IsEdited t u
  register-edits u k v e =
      subst (λ (w : Stopped). IsEdited t w) (sym e)
      (edited-by (record { x = slice_set (image_at t).regs.x k v; pc = (image_at t).regs.pc }) (memory_at t) t there refl refl)

  -- reading a call is an edit, too
  pub request-edits : (u : Stopped) → u ≡ after_request t → IsEdited t u
  request-edits u e = subst (λ (v : Stopped). IsEdited t v) (sym e) (memory-edits (decoded_at t).memory (ap layout_of (decodings_leave_pages (image_at t).regs (memory_at t))))

  -- bytes that were read and written
  pub poke-peek : (u v : Stopped) (at n : ℕ) (bytes : List ℕ) → u ≡ after_peek at n t → v ≡ after_poke at bytes u
      → v ≡ with_memory (with_pages (after_read (memory_at t) at n) (written (memory_at t).pages at bytes)) t
  poke-peek u v at n bytes peeked poked =
      poked
      ∙ ap (after_poke at bytes) peeked
      ∙ ap (λ (m : Memory). with_memory (with_pages m (written m.pages at bytes)) (after_peek at n t)) (memory-given (after_read (memory_at t) at n))
      ∙ memory-twice (after_read (memory_at t) at n) (with_pages (after_read (memory_at t) at n) (written (memory_at t).pages at bytes))

  -- bytes that were written behind others
  pub poke-again : (m : Memory) (u v : Stopped) (at : ℕ) (bytes : List ℕ) → u ≡ with_memory m t → v ≡ after_poke at bytes u → v ≡ with_memory (wrote m at bytes) t
  poke-again m u v at bytes is poked =
      poked
      ∙ ap (after_poke at bytes) is
      ∙ ap (λ (own : Memory). with_memory (wrote own at bytes) (with_memory m t)) (memory-given m)
      ∙ memory-twice m (wrote m at bytes)

  -- what may be written behind a write
  pub may-still : (m : Memory) (u : Stopped) (at : ℕ) (bytes : List ℕ) (a n count : ℕ) → u ≡ with_memory (wrote m at bytes) t → count ≡ n → allows_all m.pages a n Write ≡ true → IsTrue (allows_all (memory_at u).pages a count Write)
  may-still m u at bytes a n count is same may =
      ap (λ k. allows_all (memory_at u).pages a k Write) same
      ∙ ap (λ (v : Stopped). allows_all (memory_at v).pages a n Write) is
      ∙ ap (λ (own : Memory). allows_all own.pages a n Write) (memory-given (wrote m at bytes))
      ∙ allows_all-written m.pages at bytes a n Write
      ∙ may

  -- what may be written behind a read
  pub may-write : (u : Stopped) (at n count : ℕ) → u ≡ after_peek at n t → count ≡ n → IsTrue (allows_all (memory_at t).pages at n Write) → IsTrue (allows_all (memory_at u).pages at count Write)
  may-write u at n count peeked same may =
      ap (λ k. allows_all (memory_at u).pages at k Write) same
      ∙ ap (λ (v : Stopped). allows_all (memory_at v).pages at n Write) peeked
      ∙ ap (λ (m : Memory). allows_all m.pages at n Write) (memory-given (after_read (memory_at t) at n))
      ∙ may

  -- ---- the owner in a structure

  module _ (user : User) (table : IdentityTable) (at : ℕ) where
    owner-read : Bool → Action (Unit {0})
    owner-read b = if b then ReadBytes at 128 (λ bytes. WriteBytes at (shown_stat user table.uid table.gid (shown_owners table) bytes) (Done tt)) else Done tt

    pub owner-shown : (u v : Stopped) → allows_all (memory_at t).pages at 128 Write ≡ true → u ≡ after_peek at 128 t
        → v ≡ after_poke at (shown_stat user table.uid table.gid (shown_owners table) (bytes_from (memory_at t).pages at 128)) u → v ≡ on_its_memory (show_owner user table at) t
    unfolding owner-read
    owner-shown u v may peeked poked =
        poke-peek u v at 128 _ peeked poked
        ∙ sym (ap (λ b. with_memory (carried_out (owner-read b) (memory_at t)).memory t) may)

  -- ---- the three numbers

  module _ (i : Identity) (n : Numbers) (real effective saved : ℕ) where
    numbers-written : Bool → Action Answered
    numbers-written b =
        if b
        then WriteBytes real (to_le_bytes w32 n.real) (WriteBytes effective (to_le_bytes w32 n.effective) (WriteBytes saved (to_le_bytes w32 n.saved) (answered (pos 0) i)))
        else answered (refusal EFAULT) i

    abbrev pub may_all : Bool
    may_all = allows_all (memory_at t).pages real 4 Write && allows_all (memory_at t).pages effective 4 Write && allows_all (memory_at t).pages saved 4 Write

    pub numbers-told : (u v w : Stopped) → may_all ≡ true → u ≡ after_poke real (to_le_bytes w32 n.real) t → v ≡ after_poke effective (to_le_bytes w32 n.effective) u → w ≡ after_poke saved (to_le_bytes w32 n.saved) v
        → CarriesOut (tell_numbers i n real effective saved) (record { answer = pos 0; identity = i }) t w
    unfolding numbers-written
    numbers-told u v w may first second third =
        let one = wrote (memory_at t) real (to_le_bytes w32 n.real) in
        let two = wrote one effective (to_le_bytes w32 n.effective) in
        record {
          tells = ap (λ b. (carried_out (numbers-written b) (memory_at t)).reply) may;
          leaves =
              poke-again two v w saved (to_le_bytes w32 n.saved) (poke-again one u v effective (to_le_bytes w32 n.effective) first second) third
              ∙ sym (ap (λ b. with_memory (carried_out (numbers-written b) (memory_at t)).memory t) may);
        }
