-- Actions that are carried out on a stopped process, one after the other.
use Rattle.std.proofs.Common.{◌≡◌, ◌≢◌, ◌∙◌, ◌+◌, ◌*◌, ◌-◌, ◌%◌, ◌^◌, ◌<◌, ℕ, zero, suc, Bool, true, false, cond, List, [], ◌∷◌, ◌++◌, length, nat_eq, nat_lt, arith, w64, Result, Ok, Err, if◌then◌else◌, refl, sym, ap, subst}
use Rattle.std.specs.Prelude.{slice_index}
use Rattle.std.specs.Int.{from_le_bytes}
use Rattle.elf_load.specs.pr_base.Fields.{little_endian}
use Rattle.elf_load.specs.pr_base.declared.errno.Errno.{Errno}
use Rattle.elf_load.specs.pr_base.declared.errno.Errno.TheVariants.{E2BIG, EFAULT}
use Rattle.pt_ident.specs.rv_mem.Actions.{Action, CarriedOut, Done, ReadBytes, carried_out}
use Rattle.pt_ident.specs.rv_mem.Memory.{Memory, after_read}
use Rattle.pt_ident.specs.rv_mem.Pages.{allows_all, bytes_from}
use Rattle.pt_ident.specs.rv_mem.declared.rights.Use.TheVariants.{Read}
use Rattle.pt_ident.specs.kr_calls.Expansion.{bytes_with_ends}
use Rattle.pt_ident.specs.kr_calls.declared.fault.CallFault.{CallFault}
use Rattle.pt_ident.specs.kr_calls.declared.fault.CallFault.TheVariants as call
use Rattle.kr_exec.specs.Lists.{Trying, address_at, and_then, at_least_one, if_it_fits, most_bytes, next_address}
use Rattle.kr_exec.proofs.ListLemmas.{and_then_is, is_less, not_zero, on_reply}
use Rattle.pt_faker.specs.Stopping.{after_peek, IsThere, memory_at, Stopped, with_memory}
use Rattle.pt_faker.specs.Carrying.{CarriesOut}
use Rattle.pt_faker.proofs.AuxiliaryLemmas.{word-of}
use Rattle.pt_faker.proofs.StopLemmas.{memory-given, memory-twice}
use Rattle.pt_faker.specs.Reading.{Reads, addresses_behind, byte_at, env_at, list_at, lists_at, next_byte, text_at, text_from, text_within, texts_from}
use Rattle.pt_faker.specs.declared.lists.Handed.{Handed}

-- so much of an action was carried out: what is left of it comes to the same
pub record IsLeft {A : Type 0} (rest whole : Trying A) (now old : Stopped) : Type 0 where
  pub same : carried_out rest (memory_at now) ≡ carried_out whole (memory_at old)
  pub behind : now ≡ with_memory (memory_at now) old

-- nothing of it
pub left-all : {A : Type 0} (whole : Trying A) (t : Stopped) → IsThere t → IsLeft whole whole t t
left-all whole t there = record { same = refl; behind = sym there.one }

-- what is left by another name
pub left-as : {A : Type 0} (rest other whole : Trying A) (now old : Stopped) → rest ≡ other → IsLeft rest whole now old → IsLeft other whole now old
left-as rest other whole now old is left = subst (λ r. IsLeft r whole now old) is left

-- all of it
pub left-done : {A : Type 0} (r : Result A Errno) (whole : Trying A) (now old : Stopped) → IsLeft (Done r) whole now old → CarriesOut whole r old now
left-done r whole now old left = record {
  tells = sym (ap (λ d. d.reply) left.same);
  leaves = left.behind ∙ ap (λ (d : CarriedOut (Result _ Errno)). with_memory d.memory old) left.same;
}

module _ {A B : Type 0} (a : Trying A) (next : A → Trying B) (whole : Trying B) (now after old : Stopped) (there : IsThere old) (still : IsThere now) (left : IsLeft (and_then a next) whole now old) where
  left-on : (r : Result A Errno) → CarriesOut a r now after → carried_out whole (memory_at old) ≡ on_reply next r (memory_at after)
  left-on r carries =
      sym left.same
      ∙ and_then_is a next (memory_at now)
      ∙ ap (λ s. on_reply next s (carried_out a (memory_at now)).memory) carries.tells
      ∙ ap (on_reply next r) (sym (memory-given now still (carried_out a (memory_at now)).memory))
      ∙ ap (λ v. on_reply next r (memory_at v)) (sym carries.leaves)

  left-behind : (r : Result A Errno) → CarriesOut a r now after → after ≡ with_memory (memory_at after) old
  left-behind r carries =
      let m = (carried_out a (memory_at now)).memory in
      let given : m ≡ memory_at after = sym (memory-given now still m) ∙ ap memory_at (sym carries.leaves) in
      carries.leaves ∙ ap (with_memory m) left.behind ∙ memory-twice old there (memory_at now) m ∙ ap (λ n. with_memory n old) given

  -- its first part was carried out, and gave something
  pub left-then : (x : A) → CarriesOut a (Ok x) now after → IsLeft (next x) whole after old
  left-then x carries = record { same = sym (left-on (Ok x) carries); behind = left-behind (Ok x) carries }

  -- or failed
  pub left-fails : (e : Errno) → CarriesOut a (Err e) now after → CarriesOut whole (Err e) old after
  left-fails e carries = record {
    tells = ap (λ d. d.reply) (left-on (Err e) carries);
    leaves = left-behind (Err e) carries ∙ ap (λ (d : CarriedOut (Result B Errno)). with_memory d.memory old) (sym (left-on (Err e) carries));
  }

  -- or may have wanted memory
  pub left-stops : (fault : CallFault) → Reads {A = A} (Err fault) a now after → Reads {A = B} (Err fault) whole old after
  left-stops (call.Err e) reads = left-fails e reads
  left-stops call.NoMemory reads = tt

-- all of what was left
pub left-whole : {A : Type 0} (a whole : Trying A) (now after old : Stopped) → IsThere old → IsThere now → IsLeft a whole now old → (r : Result A Errno) → CarriesOut a r now after → CarriesOut whole r old after
left-whole a whole now after old there still left r carries =
    let m = (carried_out a (memory_at now)).memory in
    record {
      tells = sym (ap (λ d. d.reply) left.same) ∙ carries.tells;
      leaves = carries.leaves ∙ ap (with_memory m) left.behind ∙ memory-twice old there (memory_at now) m ∙ ap (λ (d : CarriedOut (Result _ Errno)). with_memory d.memory old) left.same;
    }

-- ---- bytes and addresses

module _ (t : Stopped) (there : IsThere t) (at : ℕ) where
  byte-tested : Bool → Trying ℕ
  byte-tested b = if b then ReadBytes at 1 (λ bytes. Done (Ok (slice_index bytes 0))) else Done (Err EFAULT)

  pub byte-read : (u : Stopped) (bytes : List ℕ) (byte : ℕ) → allows_all (memory_at t).pages at 1 Read ≡ true → u ≡ after_peek at 1 t → bytes ≡ bytes_from (memory_at t).pages at 1 → byte ≡ slice_index bytes 0
      → CarriesOut (byte_at at) (Ok byte) t u
  unfolding byte-tested
  byte-read u bytes byte may peeked are is = record {
    tells = ap (λ b. (carried_out (byte-tested b) (memory_at t)).reply) may ∙ ap (λ (bs : List ℕ). Ok (slice_index bs 0)) (sym are) ∙ ap Ok (sym is);
    leaves = peeked ∙ sym (ap (λ b. with_memory (carried_out (byte-tested b) (memory_at t)).memory t) may);
  }

  pub byte-refused : allows_all (memory_at t).pages at 1 Read ≡ false → CarriesOut (byte_at at) (Err EFAULT) t t
  unfolding byte-tested
  byte-refused not = record {
    tells = ap (λ b. (carried_out (byte-tested b) (memory_at t)).reply) not;
    leaves = sym there.one ∙ sym (ap (λ b. with_memory (carried_out (byte-tested b) (memory_at t)).memory t) not);
  }

  address-tested : Bool → Trying ℕ
  address-tested b = if b then ReadBytes at 8 (λ bytes. Done (Ok (little_endian bytes))) else Done (Err EFAULT)

  pub address-read : (u : Stopped) (bytes : List ℕ) (address : ℕ) → allows_all (memory_at t).pages at 8 Read ≡ true → u ≡ after_peek at 8 t → bytes ≡ bytes_from (memory_at t).pages at 8 → address ≡ from_le_bytes w64 bytes
      → CarriesOut (address_at at) (Ok address) t u
  unfolding address-tested
  address-read u bytes address may peeked are is = record {
    tells =
        ap (λ b. (carried_out (address-tested b) (memory_at t)).reply) may
        ∙ ap Ok (sym (is ∙ ap (from_le_bytes w64) are ∙ word-of (memory_at t).pages at));
    leaves = peeked ∙ sym (ap (λ b. with_memory (carried_out (address-tested b) (memory_at t)).memory t) may);
  }

  pub address-refused : allows_all (memory_at t).pages at 8 Read ≡ false → CarriesOut (address_at at) (Err EFAULT) t t
  unfolding address-tested
  address-refused not = record {
    tells = ap (λ b. (carried_out (address-tested b) (memory_at t)).reply) not;
    leaves = sym there.one ∙ sym (ap (λ b. with_memory (carried_out (address-tested b) (memory_at t)).memory t) not);
  }

  -- ---- the addresses behind the first of a list

  module _ (count : ℕ) where
    behind-tested : Bool → Trying (List ℕ)
    behind-tested b = if b then ReadBytes (next_address at) (8 * count) (λ bytes. Done (Ok bytes)) else Done (Err EFAULT)

    pub addresses-read : (u : Stopped) (bytes : List ℕ) (size : ℕ) → size ≡ 8 * count → allows_all (memory_at t).pages (next_address at) size Read ≡ true → u ≡ after_peek (next_address at) size t
        → bytes ≡ bytes_from (memory_at t).pages (next_address at) size → CarriesOut (addresses_behind at count) (Ok bytes) t u
    unfolding behind-tested
    addresses-read u bytes size sized may peeked are =
        let allowed = sym (ap (λ n. allows_all (memory_at t).pages (next_address at) n Read) sized) ∙ may in
        record {
          tells = ap (λ b. (carried_out (behind-tested b) (memory_at t)).reply) allowed ∙ ap Ok (ap (bytes_from (memory_at t).pages (next_address at)) (sym sized) ∙ sym are);
          leaves = peeked ∙ ap (λ n. after_peek (next_address at) n t) sized ∙ sym (ap (λ b. with_memory (carried_out (behind-tested b) (memory_at t)).memory t) allowed);
        }

    pub addresses-refused : (size : ℕ) → size ≡ 8 * count → allows_all (memory_at t).pages (next_address at) size Read ≡ false → CarriesOut (addresses_behind at count) (Err EFAULT) t t
    unfolding behind-tested
    addresses-refused size sized not =
        let refused = sym (ap (λ n. allows_all (memory_at t).pages (next_address at) n Read) sized) ∙ not in
        record {
          tells = ap (λ b. (carried_out (behind-tested b) (memory_at t)).reply) refused;
          leaves = sym there.one ∙ sym (ap (λ b. with_memory (carried_out (behind-tested b) (memory_at t)).memory t) refused);
        }

-- ---- texts

abbrev on_byte : ℕ → ℕ → List ℕ → ℕ → Trying (List ℕ)
on_byte left at read b = if nat_eq b 0 then Done (Ok read) else text_from left (next_byte at) (read ++ b ∷ [])

pub text-on : (left at : ℕ) (read : List ℕ) → text_from (suc left) at read ≡ and_then (byte_at at) (on_byte left at read)
unfolding text_from
text-on left at read = refl

pub text-unended : (at : ℕ) (read : List ℕ) → text_from 0 at read ≡ Done (Err E2BIG)
unfolding text_from
text-unended at read = refl

pub byte-ends : (left at : ℕ) (read : List ℕ) (b : ℕ) → b ≡ 0 → on_byte left at read b ≡ Done (Ok read)
byte-ends left at read b zero-is = ap (λ n. on_byte left at read n) zero-is

pub byte-goes : (left at : ℕ) (read more : List ℕ) (next b : ℕ) → b ≢ 0 → more ≡ read ++ b ∷ [] → next ≡ next_byte at → on_byte left at read b ≡ text_from left next more
byte-goes left at read more next b other is comes =
    ap (λ c. cond c (Done (Ok read)) (text_from left (next_byte at) (read ++ b ∷ []))) (not_zero b other)
    ∙ (λ k. text_from left (sym comes k) (sym is k))

-- ---- a text that fits

pub text-fits : (room : ℕ) (text : List ℕ) → length text < room → if_it_fits room text ≡ Done (Ok text)
text-fits room text h = ap (λ b. cond b (Done (Ok text)) (Done (Err E2BIG))) (is_less (length text) room h)

pub text-passes : (room : ℕ) (text : List ℕ) → nat_lt (length text) room ≡ false → if_it_fits room text ≡ Done (Err E2BIG)
text-passes room text e = ap (λ b. cond b (Done (Ok text)) (Done (Err E2BIG))) e

-- ---- lists

abbrev on_address : ℕ → ℕ → ℕ → List (List ℕ) → ℕ → Trying (List (List ℕ))
on_address left at room read address =
    if nat_eq address 0 then Done (Ok read)
    else and_then (text_within room address) (λ text. texts_from left (next_address at) (room - (length text + 1)) (read ++ text ∷ []))

abbrev on_last : List (List ℕ) → ℕ → Trying (List (List ℕ))
on_last read address = if nat_eq address 0 then Done (Ok read) else Done (Err E2BIG)

pub texts-on : (left at room : ℕ) (read : List (List ℕ)) → texts_from (suc left) at room read ≡ and_then (address_at at) (on_address left at room read)
unfolding texts_from
texts-on left at room read = refl

pub texts-last : (at room : ℕ) (read : List (List ℕ)) → texts_from 0 at room read ≡ and_then (address_at at) (on_last read)
unfolding texts_from
texts-last at room read = refl

pub address-ends : (left at room : ℕ) (read : List (List ℕ)) (address : ℕ) → address ≡ 0 → on_address left at room read address ≡ Done (Ok read)
address-ends left at room read address zero-is = ap (λ n. on_address left at room read n) zero-is

pub address-goes : (left at room : ℕ) (read : List (List ℕ)) (address : ℕ) → address ≢ 0
    → on_address left at room read address ≡ and_then (text_within room address) (λ text. texts_from left (next_address at) (room - (length text + 1)) (read ++ text ∷ []))
address-goes left at room read address other =
    ap (λ c. cond c (Done (Ok read)) (and_then (text_within room address) (λ text. texts_from left (next_address at) (room - (length text + 1)) (read ++ text ∷ [])))) (not_zero address other)

pub last-ends : (read : List (List ℕ)) (address : ℕ) → address ≡ 0 → on_last read address ≡ Done (Ok read)
last-ends read address zero-is = ap (on_last read) zero-is

pub last-passes : (read : List (List ℕ)) (address : ℕ) → address ≢ 0 → on_last read address ≡ Done (Err E2BIG)
last-passes read address other = ap (λ c. cond c (Done (Ok read)) (Done (Err E2BIG))) (not_zero address other)

-- a list of as many texts as there may be
module _ (at room : ℕ) (texts : List (List ℕ)) (t u : Stopped) (there : IsThere t) where
  none-done : IsLeft (and_then (address_at at) (on_last texts)) (texts_from 0 at room texts) t t
  none-done = left-as (texts_from 0 at room texts) _ _ t t (texts-last at room texts) (left-all (texts_from 0 at room texts) t there)

  pub list-ends : (address : ℕ) → address ≡ 0 → CarriesOut (address_at at) (Ok address) t u → CarriesOut (texts_from 0 at room texts) (Ok texts) t u
  list-ends address zero-is carries =
      left-done (Ok texts) _ u t (left-as _ _ _ u t (last-ends texts address zero-is) (left-then (address_at at) (on_last texts) _ t u t there there none-done address carries))

  pub list-passes : (address : ℕ) → address ≢ 0 → CarriesOut (address_at at) (Ok address) t u → CarriesOut (texts_from 0 at room texts) (Err E2BIG) t u
  list-passes address other carries =
      left-done (Err E2BIG) _ u t (left-as _ _ _ u t (last-passes texts address other) (left-then (address_at at) (on_last texts) _ t u t there there none-done address carries))

  pub list-unread : (e : Errno) → CarriesOut (address_at at) (Err e) t u → CarriesOut (texts_from 0 at room texts) (Err e) t u
  list-unread e carries = left-fails (address_at at) (on_last texts) _ t u t there there none-done e carries

-- ---- a text, of which so much was read

module _ (whole : Trying (List ℕ)) (old now : Stopped) (there : IsThere old) (still : IsThere now) (left n at : ℕ) (read : List ℕ) (rest : IsLeft (text_from left at read) whole now old) where
  text-next : left ≡ suc n → IsLeft (and_then (byte_at at) (on_byte n at read)) whole now old
  text-next some = left-as _ _ whole now old (ap (λ m. text_from m at read) some ∙ text-on n at read) rest

  pub text-fails : left ≡ suc n → (after : Stopped) (e : Errno) → CarriesOut (byte_at at) (Err e) now after → CarriesOut whole (Err e) old after
  text-fails some after e carries = left-fails (byte_at at) (on_byte n at read) whole now after old there still (text-next some) e carries

  pub text-ends : left ≡ suc n → (after : Stopped) (b : ℕ) → b ≡ 0 → CarriesOut (byte_at at) (Ok b) now after → CarriesOut whole (Ok read) old after
  text-ends some after b zero-is carries =
      left-done (Ok read) whole after old (left-as _ _ whole after old (byte-ends n at read b zero-is) (left-then (byte_at at) (on_byte n at read) whole now after old there still (text-next some) b carries))

  pub text-goes : left ≡ suc n → (after : Stopped) (b next less : ℕ) (more : List ℕ) → b ≢ 0 → more ≡ read ++ b ∷ [] → next ≡ next_byte at → less ≡ n → CarriesOut (byte_at at) (Ok b) now after → IsLeft (text_from less next more) whole after old
  text-goes some after b next less more other is comes fewer carries =
      left-as _ _ whole after old (byte-goes n at read more next b other is comes ∙ ap (λ m. text_from m next more) (sym fewer))
      (left-then (byte_at at) (on_byte n at read) whole now after old there still (text-next some) b carries)

  pub text-is-long : left ≡ 0 → CarriesOut whole (Err E2BIG) old now
  text-is-long none = left-done (Err E2BIG) whole now old (left-as _ _ whole now old (ap (λ m. text_from m at read) none ∙ text-unended at read) rest)

-- ---- a list, of which some texts were read

module _ (whole : Trying (List (List ℕ))) (old now : Stopped) (there : IsThere old) (still : IsThere now) (left n at room : ℕ) (read : List (List ℕ)) (rest : IsLeft (texts_from left at room read) whole now old) where
  list-next : left ≡ suc n → IsLeft (and_then (address_at at) (on_address n at room read)) whole now old
  list-next some = left-as _ _ whole now old (ap (λ m. texts_from m at room read) some ∙ texts-on n at room read) rest

  pub list-fails : left ≡ suc n → (after : Stopped) (e : Errno) → CarriesOut (address_at at) (Err e) now after → CarriesOut whole (Err e) old after
  list-fails some after e carries = left-fails (address_at at) (on_address n at room read) whole now after old there still (list-next some) e carries

  pub list-stops : left ≡ suc n → (after : Stopped) (address : ℕ) → address ≡ 0 → CarriesOut (address_at at) (Ok address) now after → CarriesOut whole (Ok read) old after
  list-stops some after address zero-is carries =
      left-done (Ok read) whole after old (left-as _ _ whole after old (address-ends n at room read address zero-is) (left-then (address_at at) (on_address n at room read) whole now after old there still (list-next some) address carries))

  module _ (some : left ≡ suc n) (after : Stopped) (stood : IsThere after) (address : ℕ) (other : address ≢ 0) (carries : CarriesOut (address_at at) (Ok address) now after) where
    abbrev on_text : List ℕ → Trying (List (List ℕ))
    on_text text = texts_from n (next_address at) (room - (length text + 1)) (read ++ text ∷ [])

    text-left : IsLeft (and_then (text_within room address) on_text) whole after old
    text-left = left-as _ _ whole after old (address-goes n at room read address other) (left-then (address_at at) (on_address n at room read) whole now after old there still (list-next some) address carries)

    pub list-breaks : (last : Stopped) (fault : CallFault) → Reads {A = List ℕ} (Err fault) (text_within room address) after last → Reads {A = List (List ℕ)} (Err fault) whole old last
    list-breaks last fault reads = left-stops (text_within room address) on_text whole after last old there stood text-left fault reads

    pub list-goes : (last : Stopped) (text : List ℕ) (next less fewer size : ℕ) (more : List (List ℕ)) → more ≡ read ++ text ∷ [] → next ≡ next_address at → less ≡ n → size ≡ length text → fewer ≡ room - (size + 1)
        → CarriesOut (text_within room address) (Ok text) after last → IsLeft (texts_from less next fewer more) whole last old
    list-goes last text next less fewer size more is comes below sized leaves reads =
        left-as _ _ whole last old
        (sym ((λ k. texts_from (below k) (comes k) (leaves k) (is k)) ∙ ap (λ s. texts_from n (next_address at) (room - (s + 1)) (read ++ text ∷ [])) sized))
        (left-then (text_within room address) on_text whole after last old there stood text-left text reads)

  -- as many as there may be
  pub list-full : left ≡ 0 → (last : Stopped) (r : Result (List (List ℕ)) Errno) → CarriesOut (texts_from 0 at room read) r now last → CarriesOut whole r old last
  list-full none last r carries =
      let full : IsLeft (texts_from 0 at room read) whole now old = left-as _ _ whole now old (ap (λ m. texts_from m at room read) none) rest in
      left-whole (texts_from 0 at room read) whole now last old there still full r carries

-- ---- a text within a room

module _ (room at : ℕ) (t u : Stopped) (there : IsThere t) where
  abbrev within-all : IsLeft (and_then (text_at at) (if_it_fits room)) (text_within room at) t t
  within-all = left-all (text_within room at) t there

  pub within-read : (text : List ℕ) → length text < room → CarriesOut (text_at at) (Ok text) t u → CarriesOut (text_within room at) (Ok text) t u
  within-read text fits carries =
      left-done (Ok text) (text_within room at) u t (left-as _ _ _ u t (text-fits room text fits) (left-then (text_at at) (if_it_fits room) (text_within room at) t u t there there within-all text carries))

  pub within-passed : (text : List ℕ) → nat_lt (length text) room ≡ false → CarriesOut (text_at at) (Ok text) t u → CarriesOut (text_within room at) (Err E2BIG) t u
  within-passed text passes carries =
      left-done (Err E2BIG) (text_within room at) u t (left-as _ _ _ u t (text-passes room text passes) (left-then (text_at at) (if_it_fits room) (text_within room at) t u t there there within-all text carries))

  pub within-stops : (fault : CallFault) → Reads {A = List ℕ} (Err fault) (text_at at) t u → Reads {A = List ℕ} (Err fault) (text_within room at) t u
  within-stops fault reads = left-stops (text_at at) (if_it_fits room) (text_within room at) t u t there there within-all fault reads

-- what was read of the end of a list is read of the whole
pub list-reads : (whole : Trying (List (List ℕ))) (old now last : Stopped) → IsThere old → IsThere now → (left at room : ℕ) (read : List (List ℕ)) → IsLeft (texts_from left at room read) whole now old → left ≡ 0
    → (r : Result (List (List ℕ)) CallFault) → Reads r (texts_from 0 at room read) now last → Reads r whole old last
list-reads whole old now last there still left at room read rest none (Ok texts) reads = list-full whole old now there still left 0 at room read rest none last (Ok texts) reads
list-reads whole old now last there still left at room read rest none (Err (call.Err e)) reads = list-full whole old now there still left 0 at room read rest none last (Err e) reads
list-reads whole old now last there still left at room read rest none (Err call.NoMemory) reads = tt

-- ---- both lists

module _ (args env : ℕ) (t u : Stopped) (there : IsThere t) where
  abbrev with_env : List (List ℕ) → Trying Handed
  with_env texts = env_at env (at_least_one texts)

  pub lists-stop : (fault : CallFault) → Reads {A = List (List ℕ)} (Err fault) (list_at args most_bytes) t u → Reads {A = Handed} (Err fault) (lists_at args env) t u
  lists-stop fault reads = left-stops (list_at args most_bytes) with_env (lists_at args env) t u t there there (left-all (lists_at args env) t there) fault reads

  module _ (texts given : List (List ℕ)) (room : ℕ) (still : IsThere u) (reads : CarriesOut (list_at args most_bytes) (Ok texts) t u) (is : given ≡ at_least_one texts) (rooms : room ≡ most_bytes - bytes_with_ends given) (v : Stopped) where
    abbrev handed_with : List (List ℕ) → Trying Handed
    handed_with texts = Done (Ok (record { args = given; env_bytes = bytes_with_ends texts }))

    env-left : IsLeft (and_then (list_at env room) handed_with) (lists_at args env) u t
    env-left =
        left-as _ _ (lists_at args env) u t (ap (env_at env) (sym is) ∙ ap (λ n. and_then (list_at env n) handed_with) (sym rooms))
        (left-then (list_at args most_bytes) with_env (lists_at args env) t u t there there (left-all (lists_at args env) t there) texts reads)

    pub lists-break : (fault : CallFault) → Reads {A = List (List ℕ)} (Err fault) (list_at env room) u v → Reads {A = Handed} (Err fault) (lists_at args env) t v
    lists-break fault reads = left-stops (list_at env room) handed_with (lists_at args env) u v t there still env-left fault reads

    pub lists-read : (more : List (List ℕ)) (size : ℕ) → size ≡ bytes_with_ends more → CarriesOut (list_at env room) (Ok more) u v → CarriesOut (lists_at args env) (Ok (record { args = given; env_bytes = size })) t v
    lists-read more size sized reads =
        left-done (Ok (record { args = given; env_bytes = size })) (lists_at args env) v t
        (left-as _ _ (lists_at args env) v t (ap (λ n. Done (Ok (record { args = given; env_bytes = n }))) (sym sized))
        (left-then (list_at env room) handed_with (lists_at args env) u v t there still env-left more reads))
