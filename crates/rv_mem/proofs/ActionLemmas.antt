-- Actions carried out on memories that are equal but for marked bytes.
use Rattle.std.specs.FinMap as map
use Rattle.std.proofs.Common.{◌≡◌, ◌≢◌, inl, inr, subst, ℕ, zero, suc, ◌+◌, ◌/◌, ◌%◌, ◌<◌, Bool, true, false, ◌&&◌, ◌||◌, List, [], ◌∷◌, get_or, refl, sym, ap, ◌∙◌, arith, Option, Some, None, is_some}
use Rattle.std.specs.Option.{option_map, option_map_or}
use Rattle.std.proofs.lemmas.Bool.{cases_eq}
use Rattle.rv_mem.specs.declared.rights.Use.{Use}
use Rattle.rv_mem.specs.Page.{PageState, grants, page_written}
use Rattle.rv_mem.specs.Pages.{Pages, with_page, written, byte_at, is_marked, allows, allows_all, any_marked, bytes_from, IsWhole}
use Rattle.rv_mem.specs.Memory.{Memory, with_pages, after_read}
use Rattle.rv_mem.specs.Actions.{Action, Done, MayUse, ReadBytes, WriteBytes, CarriedOut, carried_out, allows_uses, rights_of, AreEqualUnmarked, ReadsAlike}
use Rattle.rv_table.proofs.pr_base.MapLemmas.{get-changed_same, get-changed_other}
use Rattle.rv_mem.proofs.SpaceLemmas.{IsWhole-written}
use Rattle.rv_mem.proofs.AddressLemmas.{byte_at-written_other, is_marked-written_other, byte_at-written_in}
use Rattle.rv_mem.proofs.ChangeLemmas.{contains-with_page}

-- ---- what is seen of them

grants_by_rights : (o : Option PageState) (what : Use) → option_map_or (λ p. grants p.rights what) o false ≡ option_map_or (λ r. grants r what) (option_map (λ p. p.rights) o) false
grants_by_rights None what = refl
grants_by_rights (Some p) what = refl

allows_alike : (m w : Pages) → AreEqualUnmarked m w → (a : ℕ) (what : Use) → allows m a what ≡ allows w a what
allows_alike m w same a what =
    grants_by_rights (map.get m (a / 4096)) what
    ∙ ap (λ o. option_map_or (λ r. grants r what) o false) (same.rights (a / 4096))
    ∙ sym (grants_by_rights (map.get w (a / 4096)) what)

allows_all_alike : (m w : Pages) → AreEqualUnmarked m w → (at n : ℕ) (what : Use) → allows_all m at n what ≡ allows_all w at n what
unfolding allows_all
allows_all_alike m w same at zero what = refl
allows_all_alike m w same at (suc n) what =
    ap (λ b. b && allows_all m (at + 1) n what) (allows_alike m w same at what)
    ∙ ap (λ b. allows w at what && b) (allows_all_alike m w same (at + 1) n what)

allows_uses_alike : (m w : Pages) → AreEqualUnmarked m w → (at n : ℕ) (uses : List Use) → allows_uses m at n uses ≡ allows_uses w at n uses
allows_uses_alike m w same at n [] = refl
allows_uses_alike m w same at n (what ∷ uses) =
    ap (λ b. b && allows_all m at n what) (allows_uses_alike m w same at n uses)
    ∙ ap (λ b. allows_uses w at n uses && b) (allows_all_alike m w same at n what)

or_first : (a b : Bool) → (a || b) ≡ false → a ≡ false
or_first true b h = absurd cc
or_first false b h = refl

or_second : (a b : Bool) → (a || b) ≡ false → b ≡ false
or_second true b h = absurd cc
or_second false b h = h

bytes_alike : (m w : Pages) → AreEqualUnmarked m w → (at n : ℕ) → any_marked m at n ≡ false → bytes_from m at n ≡ bytes_from w at n
unfolding any_marked bytes_from
bytes_alike m w same at zero h = refl
bytes_alike m w same at (suc n) h =
    let here = same.bytes at (or_first (is_marked m at) (any_marked m (at + 1) n) h) in
    ap (λ b. b ∷ bytes_from m (at + 1) n) here
    ∙ ap (λ bs. byte_at w at ∷ bs) (bytes_alike m w same (at + 1) n (or_second (is_marked m at) (any_marked m (at + 1) n) h))

-- ---- what is written to them

rights_mapped : (i b : ℕ) (o : Option PageState) → option_map (λ p. p.rights) (option_map (page_written i (b ∷ [])) o) ≡ option_map (λ p. p.rights) o
rights_mapped i b None = refl
rights_mapped i b (Some p) = refl

rights_kept : (m : Pages) (k i b q : ℕ) → rights_of (with_page m k (page_written i (b ∷ []))) q ≡ rights_of m q
rights_kept m k i b q =
    elim (cases_eq q k) [
      | inl e ↦
          ap (rights_of (with_page m k (page_written i (b ∷ [])))) e
          ∙ ap (option_map (λ p. p.rights)) (get-changed_same m k (page_written i (b ∷ [])))
          ∙ rights_mapped i b (map.get m k)
          ∙ ap (rights_of m) (sym e)
      | inr n ↦ ap (option_map (λ p. p.rights)) (get-changed_other m k (page_written i (b ∷ [])) q n)
    ]

there_by_rights : (o : Option PageState) → is_some o ≡ is_some (option_map (λ p. p.rights) o)
there_by_rights None = refl
there_by_rights (Some p) = refl

there_alike : (m w : Pages) → AreEqualUnmarked m w → (k : ℕ) → map.contains_key m k ≡ map.contains_key w k
there_alike m w same k = there_by_rights (map.get m k) ∙ ap is_some (same.rights k) ∙ sym (there_by_rights (map.get w k))

absent_byte : (a : ℕ) (o : Option PageState) → is_some o ≡ false → option_map_or (λ p. get_or p.bytes (a % 4096) 0) o 0 ≡ 0
absent_byte a None h = refl
absent_byte a (Some p) h = absurd cc

-- the byte at the address that is written: the one written, where a page is, and 0 elsewhere
byte_at-byte : (m : Pages) (at b : ℕ) (there : Bool) → IsWhole m → map.contains_key m (at / 4096) ≡ there
    → byte_at (with_page m (at / 4096) (page_written (at % 4096) (b ∷ []))) at ≡ (elim there [ true ↦ b | false ↦ 0 ])
unfolding written
byte_at-byte m at b true whole is =
    let here : at ≡ at + 0 = omega arith in
    ap (byte_at (written m at (b ∷ []))) here
    ∙ byte_at-written_in m at (b ∷ []) 0 whole (omega arith) (ap (λ a. map.contains_key m (a / 4096)) (sym here) ∙ is)
byte_at-byte m at b false whole is =
    absent_byte at (map.get (with_page m (at / 4096) (page_written (at % 4096) (b ∷ []))) (at / 4096)) (contains-with_page m (at / 4096) (page_written (at % 4096) (b ∷ [])) (at / 4096) ∙ is)

byte_alike : (m w : Pages) → AreEqualUnmarked m w → (at b a : ℕ)
    → is_marked (with_page m (at / 4096) (page_written (at % 4096) (b ∷ []))) a ≡ false
    → byte_at (with_page m (at / 4096) (page_written (at % 4096) (b ∷ []))) a ≡ byte_at (with_page w (at / 4096) (page_written (at % 4096) (b ∷ []))) a
unfolding written
byte_alike m w same at b a unmarked =
    elim (cases_eq a at) [
      | inl e ↦
          ap (byte_at (with_page m (at / 4096) (page_written (at % 4096) (b ∷ [])))) e
          ∙ byte_at-byte m at b (map.contains_key w (at / 4096)) same.whole (there_alike m w same (at / 4096))
          ∙ sym (byte_at-byte w at b (map.contains_key w (at / 4096)) same.other_whole refl)
          ∙ ap (byte_at (with_page w (at / 4096) (page_written (at % 4096) (b ∷ [])))) (sym e)
      | inr n ↦
          let apart : (k : ℕ) → k < 1 → a ≢ at + k = λ k l e. n (omega arith) in
          byte_at-written_other m at (b ∷ []) a apart
          ∙ same.bytes a (sym (is_marked-written_other m at (b ∷ []) a apart) ∙ unmarked)
          ∙ sym (byte_at-written_other w at (b ∷ []) a apart)
    ]

one_written : (m w : Pages) → AreEqualUnmarked m w → (at b : ℕ)
    → AreEqualUnmarked (with_page m (at / 4096) (page_written (at % 4096) (b ∷ []))) (with_page w (at / 4096) (page_written (at % 4096) (b ∷ [])))
unfolding written
one_written m w same at b =
    record {
      rights = λ k. rights_kept m (at / 4096) (at % 4096) b k ∙ same.rights k ∙ sym (rights_kept w (at / 4096) (at % 4096) b k);
      bytes = byte_alike m w same at b;
      whole = IsWhole-written m at (b ∷ []) same.whole;
      other_whole = IsWhole-written w at (b ∷ []) same.other_whole;
    }

pub AreEqualUnmarked-written : (bytes : List ℕ) (m w : Pages) → AreEqualUnmarked m w → (at : ℕ) → AreEqualUnmarked (written m at bytes) (written w at bytes)
unfolding written
AreEqualUnmarked-written [] m w same at = same
AreEqualUnmarked-written (b ∷ bytes) m w same at = AreEqualUnmarked-written bytes _ _ (one_written m w same at b) (at + 1)

-- ---- actions

-- a marked byte that was read stays known
pub flag_stays : {A : Type 0} (action : Action A) (m : Memory) → (carried_out action m).memory.read_marked ≡ false → m.read_marked ≡ false
flag_stays (Done reply) m h = h
flag_stays (MayUse at n uses next) m h = flag_stays (next (allows_uses m.pages at n uses)) m h
flag_stays (ReadBytes at n next) m h =
    or_first m.read_marked (any_marked m.pages at n) (flag_stays (next (bytes_from m.pages at n)) (after_read m at n) h)
flag_stays (WriteBytes at bytes next) m h = flag_stays next (with_pages m (written m.pages at bytes)) h

-- two actions carried out on two memories end alike
abbrev EndAlike : {A : Type 0} → CarriedOut A → CarriedOut A → Type 0
EndAlike one other = (one.reply ≡ other.reply) × AreEqualUnmarked one.memory.pages other.memory.pages

pub reads_alike : {A : Type 0} (action : Action A) → ReadsAlike action
reads_alike (Done reply) m w same h = (refl, same)
reads_alike (MayUse at n uses next) m w same h =
    subst (λ b. EndAlike (carried_out (next (allows_uses m.pages at n uses)) m) (carried_out (next b) w)) (allows_uses_alike m.pages w.pages same at n uses)
    (reads_alike (next (allows_uses m.pages at n uses)) m w same h)
reads_alike (ReadBytes at n next) m w same h =
    let clear = or_second m.read_marked (any_marked m.pages at n) (flag_stays (next (bytes_from m.pages at n)) (after_read m at n) h) in
    subst (λ bs. EndAlike (carried_out (next (bytes_from m.pages at n)) (after_read m at n)) (carried_out (next bs) (after_read w at n))) (bytes_alike m.pages w.pages same at n clear)
    (reads_alike (next (bytes_from m.pages at n)) (after_read m at n) (after_read w at n) same h)
reads_alike (WriteBytes at bytes next) m w same h =
    reads_alike next (with_pages m (written m.pages at bytes)) (with_pages w (written w.pages at bytes)) (AreEqualUnmarked-written bytes m.pages w.pages same at) h
