-- What all decodings have in common, by the table of their rows: the number is that of the request's line, and nothing is written.
use Rattle.std.proofs.Common.{◌≡◌, ℕ, zero, suc, ◌+◌, ◌-◌, Bool, true, false, ◌&&◌, cond, nat_eq, List, [], ◌∷◌, drop, length, map, slice_index, Ok, refl, sym, subst, arith}
use Rattle.std.specs.Prelude.{◌==◌}
use Rattle.std.specs.List.{list_all}
use Rattle.std.proofs.lemmas.Bool.Decides.{nat_tests}
use Rattle.rv_mem.specs.pr_base.declared.errno.Errno.{Errno}
use Rattle.rv_mem.specs.pr_base.declared.errno.Errno.TheVariants.{EFAULT, EINVAL, ENAMETOOLONG, ENOENT, ENOSYS}
use Rattle.rv_mem.specs.Actions.{Action, MayUse, ReadBytes, allows_uses, carried_out}
use Rattle.rv_mem.specs.Memory.{Memory, after_read}
use Rattle.rv_mem.specs.Pages.{bytes_from}
use Rattle.rv_mem.specs.declared.regs.Regs.{Regs}
use Rattle.rv_mem.specs.declared.rights.Use.{Use}
use Rattle.kr_calls.specs.Arguments.{long, number}
use Rattle.kr_calls.specs.CallTable.{line, paths_of}
use Rattle.kr_calls.specs.Decodes.{DecodedAreNumbered, DecodingsLeavePages}
use Rattle.kr_calls.specs.Decoding.{Decoded, NumberedRow, Row, Gives, Tests, ReadsOne, ReadsTwo, accepts, action_of, by_rows, decoding_of, named, refuses, rows, text_limit, unless, with_text}
use Rattle.kr_calls.specs.PathUses.{PathUse}
use Rattle.kr_calls.specs.Texts.{read_text}
use Rattle.kr_calls.specs.declared.request.Request.{Request}

-- the decoding of a number is the table's
pub decodings_go_by_rows : (n : ℕ) (regs : Regs) → decoding_of n regs ≡ by_rows rows n regs
decodings_go_by_rows n regs = refl

same_number : (a b : ℕ) → (a == b) ≡ true → a ≡ b
same_number a b e = grind (arith, nat_tests)

-- the request of a row, by the texts that are read
abbrev pub request_of : Row → Regs → List ℕ → List ℕ → Request
request_of (Gives request) regs one two = request regs
request_of (Tests broken row) regs one two = request_of row regs one two
request_of (ReadsOne may_be_empty argument request) regs one two = request regs one
request_of (ReadsTwo first second request) regs one two = request regs one two

abbrev is_of_number : ℕ → Request → Bool
is_of_number n r = (line r).number == n

abbrev rows_are_numbered : List NumberedRow → Regs → List ℕ → List ℕ → Bool
rows_are_numbered rows regs one two = list_all (λ (numbered : NumberedRow). is_of_number numbered.number (request_of numbered.row regs one two)) rows

-- each row gives the request whose line has its number
all_are_numbered : (regs : Regs) (one two : List ℕ) → rows_are_numbered rows regs one two ≡ true
all_are_numbered regs one two = refl

-- ---- the texts of its paths are those that were read: the one, or of two the last ones

abbrev pub texts_of : Row → List ℕ → List ℕ → List (List ℕ)
texts_of (Gives request) one two = []
texts_of (Tests broken row) one two = texts_of row one two
texts_of (ReadsOne may_be_empty argument request) one two = one ∷ []
texts_of (ReadsTwo first second request) one two = one ∷ two ∷ []

abbrev pub texts_told : Request → List (List ℕ)
texts_told r = map (λ (u : PathUse). u.text) (paths_of (line r).told)

-- the last ones of some texts, as many as others
abbrev pub last_as_many : (texts others : List (List ℕ)) → List (List ℕ)
last_as_many texts others = drop (length texts - length others) texts

abbrev pub told_by : List NumberedRow → Regs → List ℕ → List ℕ → List (List (List ℕ))
told_by rows regs one two = map (λ (numbered : NumberedRow). texts_told (request_of numbered.row regs one two)) rows

abbrev pub read_by : List NumberedRow → Regs → List ℕ → List ℕ → List (List (List ℕ))
read_by rows regs one two = map (λ (numbered : NumberedRow). last_as_many (texts_of numbered.row one two) (texts_told (request_of numbered.row regs one two))) rows

pub paths_are_read : (regs : Regs) (one two : List ℕ) → told_by rows regs one two ≡ read_by rows regs one two
paths_are_read regs one two = refl

-- ---- what an action does, whatever memory it is carried out on: it gives requests of a number alone, and writes nothing

record Goes (n : ℕ) (action : Action Decoded) : Type 0 where
  gives : (m : Memory) (r : Request) → (carried_out action m).reply ≡ Ok r → is_of_number n r ≡ true
  leaves : (m : Memory) → (carried_out action m).memory.pages ≡ m.pages

module _ (n : ℕ) where
  accepted : (q : Request) → is_of_number n q ≡ true → Goes n (accepts q)
  accepted q is = record { gives = λ m r e. let same : q ≡ r = cc in subst (λ r. is_of_number n r ≡ true) same is; leaves = λ m. refl }

  refused : (e : Errno) → Goes n (refuses e)
  refused e = record { gives = λ m r is. absurd cc; leaves = λ m. refl }

  either : (b : Bool) {x y : Action Decoded} → Goes n x → Goes n y → Goes n (cond b x y)
  either true one other = one
  either false one other = other

  tested : (b : Bool) {x : Action Decoded} → Goes n x → Goes n (unless b x)
  tested true goes = refused EINVAL
  tested false goes = goes

  asked : {at size : ℕ} {uses : List Use} {next : Bool → Action Decoded} → ((b : Bool) → Goes n (next b)) → Goes n (MayUse at size uses next)
  asked {at} {size} {uses} {next} each = record { gives = λ m r e. (each (allows_uses m.pages at size uses)).gives m r e; leaves = λ m. (each (allows_uses m.pages at size uses)).leaves m }

  read : {at size : ℕ} {next : List ℕ → Action Decoded} → ((bytes : List ℕ) → Goes n (next bytes)) → Goes n (ReadBytes at size next)
  read {at} {size} {next} each = record { gives = λ m r e. (each (bytes_from m.pages at size)).gives (after_read m at size) r e; leaves = λ m. (each (bytes_from m.pages at size)).leaves (after_read m at size) }

  -- ---- texts

  bytes_read : (max at : ℕ) (one two : Action Decoded) (next : List ℕ → Action Decoded) → Goes n one → Goes n two → ((text : List ℕ) → Goes n (next text)) → Goes n (read_text max at one two next)
  unfolding read_text
  bytes_read zero at one two next first second each = second
  bytes_read (suc max) at one two next first second each =
      asked (λ b. either b
      (read (λ bytes. either (nat_eq (slice_index bytes 0) 0) (each []) (bytes_read max (at + 1) one two (λ text. next (slice_index bytes 0 ∷ text)) first second (λ text. each (slice_index bytes 0 ∷ text)))))
      first)

  text_goes : (may_be_empty : Bool) (at : ℕ) (next : List ℕ → Action Decoded) → ((text : List ℕ) → Goes n (next text)) → Goes n (with_text may_be_empty at next)
  text_goes may_be_empty at next each = bytes_read text_limit at (refuses EFAULT) (refuses ENAMETOOLONG) (named may_be_empty (refuses ENOENT) next) (refused EFAULT) (refused ENAMETOOLONG) by
    where
      by : (text : List ℕ) → Goes n (named may_be_empty (refuses ENOENT) next text)
      by [] = either may_be_empty (each []) (refused ENOENT)
      by (b ∷ text) = each (b ∷ text)

  -- ---- rows

  row_goes : (row : Row) (regs : Regs) → ((one two : List ℕ) → is_of_number n (request_of row regs one two) ≡ true) → Goes n (action_of row regs)
  row_goes (Gives request) regs is = accepted (request regs) (is [] [])
  row_goes (Tests broken row) regs is = tested (broken regs) (row_goes row regs is)
  row_goes (ReadsOne may_be_empty argument request) regs is = text_goes (may_be_empty regs) (long regs argument) (λ text. accepts (request regs text)) (λ text. accepted (request regs text) (is text []))
  row_goes (ReadsTwo first second request) regs is =
      text_goes false (long regs first) (λ one. with_text false (long regs second) (λ two. accepts (request regs one two)))
      (λ one. text_goes false (long regs second) (λ two. accepts (request regs one two)) (λ two. accepted (request regs one two) (is one two)))

  rows_go : (rows : List NumberedRow) (regs : Regs) → ((one two : List ℕ) → rows_are_numbered rows regs one two ≡ true) → Goes n (by_rows rows n regs)
  rows_go [] regs are = refused ENOSYS
  rows_go (numbered ∷ rest) regs are =
      by (n == numbered.number) refl (λ one two. (parts (is_of_number numbered.number (request_of numbered.row regs one two)) (rows_are_numbered rest regs one two) (are one two)).0)
      (rows_go rest regs (λ one two. (parts (is_of_number numbered.number (request_of numbered.row regs one two)) (rows_are_numbered rest regs one two) (are one two)).1))
    where
      parts : (a b : Bool) → (a && b) ≡ true → (a ≡ true) × (b ≡ true)
      parts true b e = (refl, e)
      parts false b e = absurd cc

      by : (b : Bool) → (n == numbered.number) ≡ b → ((one two : List ℕ) → is_of_number numbered.number (request_of numbered.row regs one two) ≡ true) → Goes n (by_rows rest n regs)
          → Goes n (cond b (action_of numbered.row regs) (by_rows rest n regs))
      by true e is other = row_goes numbered.row regs (λ one two. subst (λ k. is_of_number k (request_of numbered.row regs one two) ≡ true) (sym (same_number n numbered.number e)) (is one two))
      by false e is other = other

decoding_goes : (n : ℕ) (regs : Regs) → Goes n (decoding_of n regs)
decoding_goes n regs = subst (Goes n) (sym (decodings_go_by_rows n regs)) (rows_go n rows regs (all_are_numbered regs))

pub decoded_are_numbered : DecodedAreNumbered
decoded_are_numbered regs m r e = same_number (line r).number (number regs) ((decoding_goes (number regs) regs).gives m r e)

pub decodings_leave_pages : DecodingsLeavePages
decodings_leave_pages regs m = (decoding_goes (number regs) regs).leaves m
