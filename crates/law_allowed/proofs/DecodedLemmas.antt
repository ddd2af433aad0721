-- What decoding gives of the arguments of a call.
use Rattle.std.proofs.Common.{◌≡◌, ◌≢◌, subst, ℕ, zero, suc, ◌+◌, ◌-◌, ◌<◌, ◌^◌, Bool, true, false, nat_eq, List, [], ◌∷◌, drop, length, map, slice_index, refl, sym, ap, ◌∙◌, arith, cond, Ok, Err, Some}
use Rattle.std.specs.Prelude.{◌==◌}
use Rattle.std.specs.Int.{cast_unsigned, w32}
use Rattle.std.proofs.lemmas.Bool.Decides.{nat_tests}
use Rattle.std.proofs.lemmas.Int.{of_z-to_z}
use Rattle.std.proofs.lemmas.List.Elements.{All-cons, All-nil}
use Rattle.law_lawful.specs.pr_base.declared.errno.Errno.{Errno}
use Rattle.law_lawful.specs.pr_base.declared.errno.Errno.TheVariants.{ENOENT}
use Rattle.law_lawful.specs.rv_mem.declared.regs.Regs.{Regs}
use Rattle.law_lawful.specs.rv_mem.declared.rights.Use.{Use}
use Rattle.law_lawful.specs.rv_mem.Actions.{Action, Done, MayUse, ReadBytes, carried_out, allows_uses}
use Rattle.law_lawful.specs.rv_mem.Memory.{Memory, after_read}
use Rattle.law_lawful.specs.rv_mem.Pages.{bytes_from}
use Rattle.law_lawful.specs.kr_calls.declared.request.Request.{Request}
use Rattle.law_lawful.specs.kr_calls.Arguments.{long, word, int, has, has_other}
use Rattle.law_lawful.specs.kr_calls.declared.request.Request.TheVariants as call
use Rattle.law_lawful.specs.kr_calls.Decoding.{Decoded, NumberedRow, Row, Gives, Tests, ReadsOne, ReadsTwo, action_of, by_rows, decoding_of, rows, unless, text_limit, named, with_text, cloexec, decoded_dup3, decoding, decoded_fchown, decoded_fchownat, fchownat_with, stat_flags, decoded_symlinkat, symlinkat_with}
use Rattle.law_lawful.specs.kr_calls.Texts.{read_text}
use Rattle.law_lawful.specs.kr_calls.CallTable.{line, paths_of}
use Rattle.law_lawful.specs.kr_calls.PathTable.{PathUse, path_from}
use Rattle.law_lawful.specs.kr_tree.Lawful.{AreBytes}
use Rattle.law_allowed.specs.Allowed.{HoldsBytes}
use Rattle.law_allowed.specs.Texts.{IsText}
use Rattle.law_allowed.specs.Calls.{IsGivable, HasTextPaths, DecodedAreGivable}
use Rattle.law_lawful.proofs.kr_model.kr_calls.DecodingLemmas.{decoded_are_numbered, decodings_go_by_rows, decodings_leave_pages, last_as_many, paths_are_read, read_by, request_of, texts_of, texts_told, told_by}
use Rattle.law_lawful.proofs.kr_tree.NameLemmas.{some_is}
use Rattle.law_allowed.proofs.RowLemmas.{read-bytes, read-count}

-- a decoding that accepts only requests of which something holds
data Given (Good : Request → Type 0) : Action Decoded → Type 0 where
  refused : {e : Errno} → Given Good (Done (Err e))
  accepted : {r : Request} → Good r → Given Good (Done (Ok r))
  tested : {at n : ℕ} {uses : List Use} {next : Bool → Action Decoded} → ((b : Bool) → Given Good (next b)) → Given Good (MayUse at n uses next)
  read : {at n : ℕ} {next : List ℕ → Action Decoded} → ((bytes : List ℕ) → length bytes ≡ n → AreBytes bytes → Given Good (next bytes)) → Given Good (ReadBytes at n next)
  either : (b : Bool) {x y : Action Decoded} → (b ≡ true → Given Good x) → (b ≡ false → Given Good y) → Given Good (cond b x y)

same-request : (q r : Request) → ◌≡◌ {A = Decoded} (Ok q) (Ok r) → q ≡ r
same-request q r e = cc

reached : (Good : Request → Type 0) (action : Action Decoded) → Given Good action → (m : Memory) → HoldsBytes m.pages → (r : Request) → (carried_out action m).reply ≡ Ok r → Good r
reached Good action refused m holds r e = absurd cc
reached Good action (accepted {r = q} is) m holds r e = subst Good (same-request q r e) is
reached Good action (tested {at = at} {n = n} {uses = uses} {next = next} given) m holds r e = reached Good (next (allows_uses m.pages at n uses)) (given (allows_uses m.pages at n uses)) m holds r e
reached Good action (read {at = at} {n = n} {next = next} given) m holds r e =
    reached Good (next (bytes_from m.pages at n)) (given (bytes_from m.pages at n) (read-count m.pages n at) (read-bytes m.pages holds n at)) (after_read m at n) holds r e
reached Good action (either true {x = x} first second) m holds r e = reached Good x (first refl) m holds r e
reached Good action (either false {y = y} first second) m holds r e = reached Good y (second refl) m holds r e

unless-passes : {Good : Request → Type 0} (b : Bool) {next : Action Decoded} → Given Good next → Given Good (unless b next)
unless-passes b given = either b (λ _. refused) (λ _. given)

-- ---- texts

-- a text of bytes
abbrev IsTextOfBytes : List ℕ → Type 0
IsTextOfBytes text = IsText text × AreBytes text

no-bytes : IsTextOfBytes []
no-bytes = (All-nil (λ b. b ≢ 0), tt)

more-bytes : (b : ℕ) (text : List ℕ) → b < 256 → nat_eq b 0 ≡ false → IsTextOfBytes text → IsTextOfBytes (b ∷ text)
more-bytes b text small some are = let above : b ≢ 0 = λ zero. absurd (let is : nat_eq b 0 ≡ true = grind (arith, nat_tests) in let both : true ≡ false = sym is ∙ some in cc) in (All-cons (λ b. b ≢ 0) b text above are.0, (small, are.1))

first-byte : (bytes : List ℕ) → length bytes ≡ 1 → AreBytes bytes → slice_index bytes 0 < 256
first-byte [] count are = absurd (omega arith)
first-byte (b ∷ bytes) count are = are.0

bytes-given : {Good : Request → Type 0} (max at : ℕ) (one two : Action Decoded) (next : List ℕ → Action Decoded) → Given Good one → Given Good two → ((text : List ℕ) → IsTextOfBytes text → Given Good (next text)) → Given Good (read_text max at one two next)
unfolding read_text
bytes-given zero at one two next first second given = second
bytes-given (suc max) at one two next first second given =
    tested (λ b. either b
    (λ _. read (λ bytes count are. either (nat_eq (slice_index bytes 0) 0) (λ _. given [] no-bytes)
    (λ some. bytes-given max (at + 1) one two (λ text. next (slice_index bytes 0 ∷ text)) first second (λ text are_text. given (slice_index bytes 0 ∷ text) (more-bytes (slice_index bytes 0) text (first-byte bytes count are) some are_text)))))
    (λ _. first))

text-given : {Good : Request → Type 0} (may_be_empty : Bool) (at : ℕ) {next : List ℕ → Action Decoded} → ((text : List ℕ) → IsTextOfBytes text → Given Good (next text)) → Given Good (with_text may_be_empty at next)
text-given {Good} may_be_empty at {next} given = bytes-given text_limit at _ _ _ refused refused by
  where
    by : (text : List ℕ) → IsTextOfBytes text → Given Good (named may_be_empty (Done (Err ENOENT)) next text)
    by [] are = either may_be_empty (λ _. given [] no-bytes) (λ _. refused)
    by (b ∷ text) are = given (b ∷ text) are

-- ---- paths, by the rows of the table: their texts were read

abbrev AreTexts : List (List ℕ) → Type 0
AreTexts [] = Unit {0}
AreTexts (text ∷ texts) = IsTextOfBytes text × AreTexts texts

later-texts : (n : ℕ) (texts : List (List ℕ)) → AreTexts texts → AreTexts (drop n texts)
later-texts zero texts are = are
later-texts (suc n) [] are = tt
later-texts (suc n) (text ∷ texts) are = later-texts n texts are.1

paths-are-texts : (us : List PathUse) → AreTexts (map (λ (u : PathUse). u.text) us) → (i k : ℕ) (u : PathUse) → path_from i us k ≡ Some u → IsTextOfBytes u.text
paths-are-texts [] are i k u e = absurd cc
paths-are-texts (own ∷ us) are i k u e = by (k == i) (paths-are-texts us are.1 (i + 1) k u) e
  where
    by : (b : Bool) → (path_from (i + 1) us k ≡ Some u → IsTextOfBytes u.text) → cond b (Some own) (path_from (i + 1) us k) ≡ Some u → IsTextOfBytes u.text
    by true rest e = subst (λ (u : PathUse). IsTextOfBytes u.text) (some_is own u e) are.0
    by false rest e = rest e

told-texts : (r : Request) (texts : List (List ℕ)) → texts_told r ≡ last_as_many texts (texts_told r) → AreTexts texts → HasTextPaths r
told-texts r texts told are k u e =
    paths-are-texts (paths_of (line r).told) (subst AreTexts (sym told) (later-texts (length texts - length (texts_told r)) texts are)) 0 k u e

row-given : (row : Row) (regs : Regs) → ((one two : List ℕ) → texts_told (request_of row regs one two) ≡ last_as_many (texts_of row one two) (texts_told (request_of row regs one two)))
    → Given HasTextPaths (action_of row regs)
row-given (Gives request) regs told = accepted {r = request regs} (told-texts (request regs) [] (told [] []) tt)
row-given (Tests broken row) regs told = unless-passes (broken regs) (row-given row regs told)
row-given (ReadsOne may_be_empty argument request) regs told =
    text-given (may_be_empty regs) (long regs argument) (λ text are. accepted {r = request regs text} (told-texts (request regs text) (text ∷ []) (told text []) (are, tt)))
row-given (ReadsTwo first second request) regs told =
    text-given false (long regs first) (λ one are_one. text-given false (long regs second) (λ two are_two.
    accepted {r = request regs one two} (told-texts (request regs one two) (one ∷ two ∷ []) (told one two) (are_one, (are_two, tt)))))

first-same : {A : Type 0} (a b : A) (xs ys : List A) → a ∷ xs ≡ b ∷ ys → a ≡ b
first-same a b xs ys e = cc

rest-same : {A : Type 0} (a b : A) (xs ys : List A) → a ∷ xs ≡ b ∷ ys → xs ≡ ys
rest-same a b xs ys e = cc

-- the texts of the paths of a row's request, and those of them that were read
abbrev told-of : NumberedRow → Regs → List ℕ → List ℕ → List (List ℕ)
told-of numbered regs one two = texts_told (request_of numbered.row regs one two)

abbrev read-of : NumberedRow → Regs → List ℕ → List ℕ → List (List ℕ)
read-of numbered regs one two = last_as_many (texts_of numbered.row one two) (told-of numbered regs one two)

rows-given : (rows : List NumberedRow) (n : ℕ) (regs : Regs) → ((one two : List ℕ) → told_by rows regs one two ≡ read_by rows regs one two) → Given HasTextPaths (by_rows rows n regs)
rows-given [] n regs told = refused
rows-given (numbered ∷ rest) n regs told =
    either (n == numbered.number) {x = action_of numbered.row regs} {y = by_rows rest n regs}
    (λ _. row-given numbered.row regs (λ one two. first-same (told-of numbered regs one two) (read-of numbered regs one two) (told_by rest regs one two) (read_by rest regs one two) (told one two)))
    (λ _. rows-given rest n regs (λ one two. rest-same (told-of numbered regs one two) (read-of numbered regs one two) (told_by rest regs one two) (read_by rest regs one two) (told one two)))

decoding-given : (n : ℕ) (regs : Regs) → Given HasTextPaths (decoding_of n regs)
decoding-given n regs = subst (Given HasTextPaths) (sym (decodings_go_by_rows n regs)) (rows-given rows n regs (paths_are_read regs))

-- ---- words

word-small : (regs : Regs) (k : ℕ) → word regs k < 2 ^ 32
word-small regs k = let n : ℕ = long regs k in omega arith

-- two words that aren't one are two signed numbers
words-apart : (regs : Regs) (j k : ℕ) → (word regs j == word regs k) ≡ false → int regs j ≢ int regs k
words-apart regs j k apart same =
    let one : word regs j ≡ word regs k = sym (of_z-to_z w32 (word regs j) (word-small regs j)) ∙ ap (cast_unsigned w32) same ∙ of_z-to_z w32 (word regs k) (word-small regs k) in
    absurd (let passes : (word regs j == word regs k) ≡ true = grind (arith, nat_tests) in let both : true ≡ false = sym passes ∙ apart in cc)

-- ---- the calls of whose other arguments something is said, each at its number

dup3-given : (regs : Regs) → Given IsGivable (decoded_dup3 regs)
dup3-given regs = unless-passes (has_other (word regs 2) cloexec) (either (word regs 0 == word regs 1) (λ _. refused) (λ apart. accepted (words-apart regs 0 1 apart)))

fchown-given : (regs : Regs) → Given IsGivable (decoded_fchown regs)
fchown-given regs = accepted {r = call.Fchown (int regs 0) (word regs 1) (word regs 2)} (word-small regs 1, word-small regs 2)

fchownat-given : (regs : Regs) → Given IsGivable (decoded_fchownat regs)
fchownat-given regs = unless-passes (has_other (word regs 4) stat_flags) (text-given (has (word regs 4) 0x1000) (long regs 1) (λ path are. accepted {r = fchownat_with regs path} (word-small regs 2, word-small regs 3)))

symlinkat-given : (regs : Regs) → Given IsGivable (decoded_symlinkat regs)
symlinkat-given regs = text-given false (long regs 0) (λ text are. text-given false (long regs 2) (λ path are_path. accepted {r = symlinkat_with regs text path} (are.1, are.0)))

givable : (regs : Regs) (memory : Memory) → HoldsBytes memory.pages → (r : Request) → (carried_out (decoding_of (line r).number regs) memory).reply ≡ Ok r → IsGivable r
givable regs memory holds (call.Dup3 old new flags) e = reached IsGivable (decoded_dup3 regs) (dup3-given regs) memory holds (call.Dup3 old new flags) e
givable regs memory holds (call.Fchown fd uid gid) e = reached IsGivable (decoded_fchown regs) (fchown-given regs) memory holds (call.Fchown fd uid gid) e
givable regs memory holds (call.Fchownat dirfd path uid gid flags) e =
    reached IsGivable (decoded_fchownat regs) (fchownat-given regs) memory holds (call.Fchownat dirfd path uid gid flags) e
givable regs memory holds (call.Symlinkat text dirfd path) e = reached IsGivable (decoded_symlinkat regs) (symlinkat-given regs) memory holds (call.Symlinkat text dirfd path) e
givable regs memory holds _ e = tt

pub decoded-are-givable : DecodedAreGivable
decoded-are-givable regs memory r holds e =
    let at_number = subst (λ n. (carried_out (decoding_of n regs) memory).reply ≡ Ok r) (sym (decoded_are_numbered regs memory r e)) e in
    (givable regs memory holds r at_number, reached HasTextPaths (decoding_of (line r).number regs) (decoding-given (line r).number regs) memory holds r at_number)

pub decoding-leaves-pages : (regs : Regs) (memory : Memory) → HoldsBytes memory.pages → (carried_out (decoding regs) memory).memory.pages ≡ memory.pages
decoding-leaves-pages regs memory holds = decodings_leave_pages regs memory
