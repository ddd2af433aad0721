-- Lines of a case's listing, read one after the other.
use Rattle.std.proofs.Common.{◌≡◌, ◌≢◌, ℕ, ◌<◌, ◌≤◌, Bool, true, false, List, [], ◌∷◌, ◌++◌, length, get_or, All, Option, Some, None, Ok, refl, sym, ap, ◌∙◌, arith, append_assoc}
use Rattle.std.specs.Prelude.{codes}
use Rattle.std.specs.Fmt.{decimal}
use Rattle.std.specs.List.{AllByRecursion}
use Rattle.std.proofs.lemmas.Bool.{ne_eqb}
use Rattle.std.proofs.lemmas.List.Splits.{slice_split_at, length-slice_split}
use Rattle.kr_text.specs.kr_inode.declared.user.User.{User}
use Rattle.kr_text.specs.kr_tree.Tree.{Tree, RegularFile, Directory}
use Rattle.kr_text.specs.kr_tree.Changes.{new_tree}
use Rattle.kr_text.specs.Fields.{◌>>=◌}
use Rattle.kr_text.specs.Lines.{line_of_fields}
use Rattle.kr_text.specs.Canonical.{bytes_field, path_field, user_line}
use Rattle.kr_text.specs.Reading.{counted, elf_read, is_newline, line_added, line_read, listing_of, node_put, pieces_of, read_from, with_elf, with_tree}
use Rattle.kr_text.proofs.ReadLemmas.{last_read, more_read}
use Rattle.kr_text.proofs.WrittenFields.{bytes_graphic, decimal_graphic, id_back, mode_back, octal_graphic}
use Rattle.kr_text.proofs.WrittenPaths.{path_back, path_graphic}
use Rattle.kr_text.proofs.WrittenLines.{HasNoNewline, IsPath, IsWritten, at_each, dir_back, fields_back, file_back, joined, joined_plain, line_ends, one_letter, user_back}
use Rattle.pr_gen.specs.Listing.{case_user, directory_line, directory_mode, elf_line, file_line, file_mode, owner_fields}

-- ---- one line after the other

no_newlines : (bytes : List ℕ) → HasNoNewline bytes → All (λ b. is_newline b ≡ false) bytes
no_newlines bytes are k d lt = ne_eqb (get_or bytes k d) 10 (at_each (λ b. b ≢ 10) bytes are k d lt)

-- what was read before a line, and with it
line_passed : (elf : List ℕ) (k : ℕ) (text more : List ℕ) (t t' : Option Tree) (u u' : Option User) (e e' : Bool) → HasNoNewline text
    → line_added elf text (record { tree = t; user = u; has_proc = false; has_elf = e }) ≡ Ok (record { tree = t'; user = u'; has_proc = false; has_elf = e' })
    → read_from elf k (pieces_of ((text ++ 10 ∷ []) ++ more)) (record { tree = t; user = u; has_proc = false; has_elf = e }) ≡ read_from elf (counted k) (pieces_of more) (record { tree = t'; user = u'; has_proc = false; has_elf = e' })
line_passed elf k text more t t' u u' e e' plain adds =
    ap (λ bytes. read_from elf k (pieces_of bytes) (record { tree = t; user = u; has_proc = false; has_elf = e })) (append_assoc text (10 ∷ []) more)
    ∙ ap (λ ps. read_from elf k ps (record { tree = t; user = u; has_proc = false; has_elf = e })) (slice_split_at is_newline text 10 more (no_newlines text plain) refl)
    ∙ go (pieces_of more) refl
  where
    go : (ps : List (List ℕ)) → pieces_of more ≡ ps
        → read_from elf k (text ∷ pieces_of more) (record { tree = t; user = u; has_proc = false; has_elf = e }) ≡ read_from elf (counted k) (pieces_of more) (record { tree = t'; user = u'; has_proc = false; has_elf = e' })
    go [] none = let count = length-slice_split is_newline more in let zero_is = ap length none in absurd (omega (arith, count, zero_is))
    go (p ∷ ps) some =
        more_read elf k text p (pieces_of more) ps (record { tree = t; user = u; has_proc = false; has_elf = e }) (record { tree = t'; user = u'; has_proc = false; has_elf = e' }) some adds
        ∙ ap (λ qs. read_from elf (counted k) qs (record { tree = t'; user = u'; has_proc = false; has_elf = e' })) (sym some)

-- these lines lead from one tree to another; whether the guest's line was read stands before each
abbrev pub ReadsOn : (elf bytes : List ℕ) → Bool → Tree → Bool → Tree → Type 0
ReadsOn elf bytes e u e' v = (k : ℕ) (left : List ℕ) → (k' : ℕ) × (
    read_from elf k (pieces_of (bytes ++ left)) (record { tree = Some u; user = Some case_user; has_proc = false; has_elf = e })
    ≡ read_from elf k' (pieces_of left) (record { tree = Some v; user = Some case_user; has_proc = false; has_elf = e' }))

pub no_lines : (elf : List ℕ) (e : Bool) (u : Tree) → ReadsOn elf [] e u e u
no_lines elf e u k left = (k, refl)

pub then_on : (elf a b : List ℕ) (e e' e'' : Bool) (u v w : Tree) → ReadsOn elf a e u e' v → ReadsOn elf b e' v e'' w → ReadsOn elf (a ++ b) e u e'' w
then_on elf a b e e' e'' u v w one two k left =
    let first = one k (b ++ left) in
    let second = two first.0 left in
    (second.0, ap (λ bytes. read_from elf k (pieces_of bytes) (record { tree = Some u; user = Some case_user; has_proc = false; has_elf = e })) (append_assoc a b left) ∙ first.1 ∙ second.1)

pub one_line : (elf text : List ℕ) (e e' : Bool) (u v : Tree) → HasNoNewline text
    → line_added elf text (record { tree = Some u; user = Some case_user; has_proc = false; has_elf = e }) ≡ Ok (record { tree = Some v; user = Some case_user; has_proc = false; has_elf = e' })
    → ReadsOn elf (text ++ 10 ∷ []) e u e' v
one_line elf text e e' u v plain adds k left = (counted k, line_passed elf k text left (Some u) (Some v) (Some case_user) (Some case_user) e e' plain adds)

-- ---- the lines of a case

-- fields of a node of user 1000
owned : (mode : ℕ) → mode ≤ 4095 → IsWritten (record { mode = mode; uid = 1000; gid = 1000 })
owned mode fits = record { mode = fits; uid = omega arith; gid = omega arith }

pub file_reads : (elf : List ℕ) (text : List (List ℕ)) (bytes : List ℕ) (u v : Tree) → IsPath text → AllByRecursion (λ b. b < 256) bytes
    → node_put (record { mode = file_mode; uid = 1000; gid = 1000 }) text (RegularFile bytes) u ≡ Ok v → ReadsOn elf (file_line text bytes) false u false v
file_reads elf text bytes u v path are put =
    let fields : List (List ℕ) = owner_fields file_mode (path_field text ∷ bytes_field bytes ∷ []) in
    let plain : HasNoNewline (joined (codes "f") fields) =
    joined_plain (codes "f") fields (one_letter 102 (omega arith) (omega arith))
    (octal_graphic file_mode (omega arith), (decimal_graphic 1000 (omega arith), (decimal_graphic 1000 (omega arith), (path_graphic text path.bytes, (bytes_graphic bytes are, tt))))) in
    let adds : line_added elf (joined (codes "f") fields) (record { tree = Some u; user = Some case_user; has_proc = false; has_elf = false }) ≡ Ok (record { tree = Some v; user = Some case_user; has_proc = false; has_elf = false }) =
    ap (λ r. r >>= (λ l. line_read elf l (record { tree = Some u; user = Some case_user; has_proc = false; has_elf = false }))) (file_back text (record { mode = file_mode; uid = 1000; gid = 1000 }) bytes path (owned file_mode (omega arith)) are)
    ∙ ap (λ r. r >>= (λ t. Ok (with_tree t (record { tree = Some u; user = Some case_user; has_proc = false; has_elf = false })))) put in
    λ k left. let on = one_line elf (joined (codes "f") fields) false false u v plain adds k left in
    (on.0, ap (λ b. read_from elf k (pieces_of (b ++ left)) (record { tree = Some u; user = Some case_user; has_proc = false; has_elf = false })) (line_ends (codes "f") fields) ∙ on.1)

pub dir_reads : (elf name : List ℕ) (text : List (List ℕ)) (u v : Tree) → IsPath (name ∷ text)
    → node_put (record { mode = directory_mode; uid = 1000; gid = 1000 }) (name ∷ text) (Directory [] None) u ≡ Ok v → ReadsOn elf (directory_line (name ∷ text)) false u false v
dir_reads elf name text u v path put =
    let fields : List (List ℕ) = owner_fields directory_mode (path_field (name ∷ text) ∷ []) in
    let plain : HasNoNewline (joined (codes "d") fields) =
    joined_plain (codes "d") fields (one_letter 100 (omega arith) (omega arith))
    (octal_graphic directory_mode (omega arith), (decimal_graphic 1000 (omega arith), (decimal_graphic 1000 (omega arith), (path_graphic (name ∷ text) path.bytes, tt)))) in
    let adds : line_added elf (joined (codes "d") fields) (record { tree = Some u; user = Some case_user; has_proc = false; has_elf = false }) ≡ Ok (record { tree = Some v; user = Some case_user; has_proc = false; has_elf = false }) =
    ap (λ r. r >>= (λ l. line_read elf l (record { tree = Some u; user = Some case_user; has_proc = false; has_elf = false }))) (dir_back (name ∷ text) (record { mode = directory_mode; uid = 1000; gid = 1000 }) path (owned directory_mode (omega arith)))
    ∙ ap (λ r. r >>= (λ t. Ok (with_tree t (record { tree = Some u; user = Some case_user; has_proc = false; has_elf = false })))) put in
    λ k left. let on = one_line elf (joined (codes "d") fields) false false u v plain adds k left in
    (on.0, ap (λ b. read_from elf k (pieces_of (b ++ left)) (record { tree = Some u; user = Some case_user; has_proc = false; has_elf = false })) (line_ends (codes "d") fields) ∙ on.1)

-- what stands in the guest's line
elf_back : (elf : List ℕ) (text : List (List ℕ)) (u : Tree) → IsPath text
    → line_added elf (joined (codes "x") (owner_fields directory_mode (path_field text ∷ []))) (record { tree = Some u; user = Some case_user; has_proc = false; has_elf = false })
    ≡ elf_read (record { mode = directory_mode; uid = 1000; gid = 1000 }) text elf (record { tree = Some u; user = Some case_user; has_proc = false; has_elf = false })
elf_back elf text u path =
    let owner = owned directory_mode (omega arith) in
    ap (λ fs. line_of_fields fs >>= (λ l. line_read elf l (record { tree = Some u; user = Some case_user; has_proc = false; has_elf = false })))
    (fields_back (codes "x") (owner_fields directory_mode (path_field text ∷ [])) (one_letter 120 (omega arith) (omega arith))
    (octal_graphic directory_mode owner.mode, (decimal_graphic 1000 owner.uid, (decimal_graphic 1000 owner.gid, (path_graphic text path.bytes, tt)))))
    ∙ rw (mode_back directory_mode owner.mode) (rw (id_back 1000 owner.uid) (rw (path_back text path.names path.bytes path.short) refl))

pub elf_reads : (elf : List ℕ) (text : List (List ℕ)) (u v : Tree) → IsPath text
    → node_put (record { mode = directory_mode; uid = 1000; gid = 1000 }) text (RegularFile elf) u ≡ Ok v → ReadsOn elf (elf_line text) false u true v
elf_reads elf text u v path put =
    let fields : List (List ℕ) = owner_fields directory_mode (path_field text ∷ []) in
    let plain : HasNoNewline (joined (codes "x") fields) =
    joined_plain (codes "x") fields (one_letter 120 (omega arith) (omega arith))
    (octal_graphic directory_mode (omega arith), (decimal_graphic 1000 (omega arith), (decimal_graphic 1000 (omega arith), (path_graphic text path.bytes, tt)))) in
    let adds : line_added elf (joined (codes "x") fields) (record { tree = Some u; user = Some case_user; has_proc = false; has_elf = false }) ≡ Ok (record { tree = Some v; user = Some case_user; has_proc = false; has_elf = true }) =
    elf_back elf text u path ∙ ap (λ r. r >>= (λ t. Ok (with_elf t (record { tree = Some u; user = Some case_user; has_proc = false; has_elf = false })))) put in
    λ k left. let on = one_line elf (joined (codes "x") fields) false true u v plain adds k left in
    (on.0, ap (λ b. read_from elf k (pieces_of (b ++ left)) (record { tree = Some u; user = Some case_user; has_proc = false; has_elf = false })) (line_ends (codes "x") fields) ∙ on.1)

-- ---- the first two lines, and the end

pub begins : (elf left : List ℕ) → (k : ℕ) × (
    listing_of elf (user_line case_user ++ (directory_line [] ++ left))
    ≡ read_from elf k (pieces_of left) (record { tree = Some (new_tree directory_mode 1000 1000); user = Some case_user; has_proc = false; has_elf = false }))
begins elf left =
    let of_user : List (List ℕ) = decimal 1000 ∷ decimal 1000 ∷ [] in
    let of_root : List (List ℕ) = owner_fields directory_mode (path_field [] ∷ []) in
    let user_plain : HasNoNewline (joined (codes "user") of_user) =
    joined_plain (codes "user") of_user ((omega arith, omega arith), ((omega arith, omega arith), ((omega arith, omega arith), ((omega arith, omega arith), tt)))) (decimal_graphic 1000 (omega arith), (decimal_graphic 1000 (omega arith), tt)) in
    let root_plain : HasNoNewline (joined (codes "d") of_root) =
    joined_plain (codes "d") of_root (one_letter 100 (omega arith) (omega arith))
    (octal_graphic directory_mode (omega arith), (decimal_graphic 1000 (omega arith), (decimal_graphic 1000 (omega arith), (path_graphic [] root_path.bytes, tt)))) in (
      counted (counted 1),
      ap (listing_of elf) (ap (λ l. l ++ (directory_line [] ++ left)) (line_ends (codes "user") of_user))
          ∙ line_passed elf 1 (joined (codes "user") of_user) (directory_line [] ++ left) None None None (Some case_user) false false user_plain
          (ap (λ r. r >>= (λ l. line_read elf l (record { tree = None; user = None; has_proc = false; has_elf = false }))) (user_back case_user (λ same. omega (arith, same)) (omega arith) (omega arith)))
          ∙ ap (λ l. read_from elf (counted 1) (pieces_of (l ++ left)) (record { tree = None; user = Some case_user; has_proc = false; has_elf = false })) (line_ends (codes "d") of_root)
          ∙ line_passed elf (counted 1) (joined (codes "d") of_root) left None (Some (new_tree directory_mode 1000 1000)) (Some case_user) (Some case_user) false false root_plain
          (ap (λ r. r >>= (λ l. line_read elf l (record { tree = None; user = Some case_user; has_proc = false; has_elf = false }))) (dir_back [] (record { mode = directory_mode; uid = 1000; gid = 1000 }) root_path (owned directory_mode (omega arith)))),
    )
  where
    root_path : IsPath []
    root_path = record { names = tt; bytes = ((omega arith, omega arith), tt); short = omega arith }

pub ends : (elf : List ℕ) (k : ℕ) (e : Bool) (v : Tree) → read_from elf k (pieces_of []) (record { tree = Some v; user = Some case_user; has_proc = false; has_elf = e }) ≡ Ok (v, case_user)
ends elf k e v = last_read elf k [] [] (record { tree = Some v; user = Some case_user; has_proc = false; has_elf = e }) refl refl
