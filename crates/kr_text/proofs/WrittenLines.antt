-- Lines that are written, read again.
use Rattle.std.proofs.Common.{◌≡◌, ◌≢◌, ℕ, zero, suc, ◌<◌, ◌≤◌, false, List, [], ◌∷◌, ◌++◌, length, get_or, All, Ok, refl, sym, ap, ◌∙◌, arith, append_assoc}
use Rattle.std.specs.Prelude.{codes, nat_eq}
use Rattle.std.specs.Fmt.{decimal}
use Rattle.std.specs.List.{AllByRecursion}
use Rattle.std.proofs.lemmas.Bool.{ne_eqb}
use Rattle.std.proofs.lemmas.List.Splits.{slice_split_none, slice_split_at}
use Rattle.kr_tree.specs.kr_inode.declared.user.User.{User}
use Rattle.kr_tree.specs.pr_base.Paths.{text_of}
use Rattle.kr_text.specs.declared.line.Owner.{Owner}
use Rattle.kr_text.specs.declared.line.Line.TheVariants.{User as UserLine, Dir as DirLine, File as FileLine, Link as LinkLine, Name as NameLine, Proc as ProcLine}
use Rattle.kr_text.specs.Fields.{largest_id, largest_mode, path_limit}
use Rattle.kr_text.specs.Lines.{is_space, fields_of, line_of, line_of_fields, link_mode}
use Rattle.kr_text.specs.Canonical.{line, octal, path_field, bytes_field, escaped}
use Rattle.kr_text.specs.Same.{AreTextBytes}
use Rattle.kr_text.proofs.WrittenFields.{IsGraphic, AreGraphic, id_back, mode_back, bytes_back, text_back, decimal_graphic, octal_graphic, bytes_graphic, escapes_graphic}
use Rattle.kr_text.proofs.WrittenPaths.{AreNames, path_back, path_graphic}

-- ---- fields with a space between them

abbrev pub joined : List ℕ → List (List ℕ) → List ℕ
joined kind [] = kind
joined kind (field ∷ fields) = kind ++ 32 ∷ joined field fields

pub line_ends : (kind : List ℕ) (fields : List (List ℕ)) → line kind fields ≡ joined kind fields ++ 10 ∷ []
line_ends kind [] = refl
line_ends kind (field ∷ fields) = ap (λ more. kind ++ 32 ∷ more) (line_ends field fields) ∙ sym (append_assoc kind (32 ∷ joined field fields) (10 ∷ []))

pub at_each : {A : Type 0} (P : A → Type 0) (xs : List A) → AllByRecursion P xs → All P xs
at_each P [] all k d lt = absurd (omega arith)
at_each P (x ∷ xs) all zero d lt = all.0
at_each P (x ∷ xs) all (suc k) d lt = at_each P xs all.1 k d (omega arith)

no_spaces : (bytes : List ℕ) → AreGraphic bytes → All (λ b. is_space b ≡ false) bytes
no_spaces bytes are k d lt = let at = at_each IsGraphic bytes are k d lt in ne_eqb (get_or bytes k d) 32 (λ same. let low = at.0 in omega (arith, low, same))

abbrev AreFields : List (List ℕ) → Type 0
AreFields fields = AllByRecursion AreGraphic fields

pub fields_back : (kind : List ℕ) (fields : List (List ℕ)) → AreGraphic kind → AreFields fields → fields_of (joined kind fields) ≡ kind ∷ fields
fields_back kind [] is are = slice_split_none is_space kind (no_spaces kind is)
fields_back kind (field ∷ fields) is are =
    slice_split_at is_space kind 32 (joined field fields) (no_spaces kind is) refl ∙ ap (λ fs. kind ∷ fs) (fields_back field fields are.0 are.1)

-- ---- a line has no newline in it

abbrev pub HasNoNewline : List ℕ → Type 0
HasNoNewline bytes = AllByRecursion (λ b. b ≢ 10) bytes

graphic_plain : (bytes : List ℕ) → AreGraphic bytes → HasNoNewline bytes
graphic_plain [] are = tt
graphic_plain (b ∷ bytes) are = let low = are.0.0 in ((λ same. omega (arith, low, same)), graphic_plain bytes are.1)

plain-append : (a b : List ℕ) → HasNoNewline a → HasNoNewline b → HasNoNewline (a ++ b)
plain-append [] b are more = more
plain-append (c ∷ a) b are more = (are.0, plain-append a b are.1 more)

pub joined_plain : (kind : List ℕ) (fields : List (List ℕ)) → AreGraphic kind → AreFields fields → HasNoNewline (joined kind fields)
joined_plain kind [] is are = graphic_plain kind is
joined_plain kind (field ∷ fields) is are = plain-append kind (32 ∷ joined field fields) (graphic_plain kind is) ((λ same. omega (arith, same)), joined_plain field fields are.0 are.1)

-- ---- what each line says

pub one_letter : (c : ℕ) → 33 ≤ c → c ≤ 126 → AreGraphic (c ∷ [])
one_letter c low high = ((low, high), tt)

-- an owner whose numbers a listing can have
pub record IsWritten (owner : Owner) : Type 0 where
  pub mode : owner.mode ≤ largest_mode
  pub uid : owner.uid ≤ largest_id
  pub gid : owner.gid ≤ largest_id

-- a path that a listing can have
pub record IsPath (text : List (List ℕ)) : Type 0 where
  pub names : AreNames text
  pub bytes : AreTextBytes (text_of text)
  pub short : length (text_of text) ≤ path_limit

pub user_back : (user : User) → user.uid ≢ 0 → user.uid ≤ largest_id → user.gid ≤ largest_id → line_of (joined (codes "user") (decimal user.uid ∷ decimal user.gid ∷ [])) ≡ Ok (UserLine user)
user_back user some uid gid =
    let kind : AreGraphic (codes "user") = ((omega arith, omega arith), ((omega arith, omega arith), ((omega arith, omega arith), ((omega arith, omega arith), tt)))) in
    let not_root : nat_eq user.uid 0 ≡ false = ne_eqb user.uid 0 some in
    ap line_of_fields (fields_back (codes "user") (decimal user.uid ∷ decimal user.gid ∷ []) kind (decimal_graphic user.uid uid, (decimal_graphic user.gid gid, tt)))
    ∙ rw (id_back user.uid uid) (rw (id_back user.gid gid) (rw not_root refl))

pub dir_back : (text : List (List ℕ)) (owner : Owner) → IsPath text → IsWritten owner → line_of (joined (codes "d") (octal owner.mode ∷ decimal owner.uid ∷ decimal owner.gid ∷ path_field text ∷ [])) ≡ Ok (DirLine owner text)
dir_back text owner path is =
    ap line_of_fields (fields_back (codes "d") (octal owner.mode ∷ decimal owner.uid ∷ decimal owner.gid ∷ path_field text ∷ []) (one_letter 100 (omega arith) (omega arith))
    (octal_graphic owner.mode is.mode, (decimal_graphic owner.uid is.uid, (decimal_graphic owner.gid is.gid, (path_graphic text path.bytes, tt)))))
    ∙ rw (mode_back owner.mode is.mode) (rw (id_back owner.uid is.uid) (rw (id_back owner.gid is.gid) (rw (path_back text path.names path.bytes path.short) refl)))

pub file_back : (text : List (List ℕ)) (owner : Owner) (bytes : List ℕ) → IsPath text → IsWritten owner → AllByRecursion (λ b. b < 256) bytes → line_of (joined (codes "f") (octal owner.mode ∷ decimal owner.uid ∷ decimal owner.gid ∷ path_field text ∷ bytes_field bytes ∷ [])) ≡ Ok (FileLine owner text bytes)
file_back text owner bytes path is are =
    ap line_of_fields (fields_back (codes "f") (octal owner.mode ∷ decimal owner.uid ∷ decimal owner.gid ∷ path_field text ∷ bytes_field bytes ∷ []) (one_letter 102 (omega arith) (omega arith))
    (octal_graphic owner.mode is.mode, (decimal_graphic owner.uid is.uid, (decimal_graphic owner.gid is.gid, (path_graphic text path.bytes, (bytes_graphic bytes are, tt))))))
    ∙ rw (bytes_back bytes are) (rw (mode_back owner.mode is.mode) (rw (id_back owner.uid is.uid) (rw (id_back owner.gid is.gid) (rw (path_back text path.names path.bytes path.short) refl))))

pub link_back : (text : List (List ℕ)) (owner : Owner) (target : List ℕ) → IsPath text → IsWritten owner → owner.mode ≡ link_mode → AreTextBytes target → 1 ≤ length target → length target ≤ path_limit → line_of (joined (codes "l") (decimal owner.uid ∷ decimal owner.gid ∷ path_field text ∷ escaped target ∷ [])) ≡ Ok (LinkLine owner text target)
link_back text owner target path is mode are some short =
    ap line_of_fields (fields_back (codes "l") (decimal owner.uid ∷ decimal owner.gid ∷ path_field text ∷ escaped target ∷ []) (one_letter 108 (omega arith) (omega arith))
    (decimal_graphic owner.uid is.uid, (decimal_graphic owner.gid is.gid, (path_graphic text path.bytes, (escapes_graphic target are, tt)))))
    ∙ rw (id_back owner.uid is.uid) (rw (id_back owner.gid is.gid) (rw (path_back text path.names path.bytes path.short) (rw (text_back target are some short) (ap (λ m. Ok (LinkLine (record { mode = m; uid = owner.uid; gid = owner.gid }) text target)) (sym mode)))))

pub name_back : (text first : List (List ℕ)) → IsPath text → IsPath first → line_of (joined (codes "h") (path_field text ∷ path_field first ∷ [])) ≡ Ok (NameLine text first)
name_back text first path earlier =
    ap line_of_fields (fields_back (codes "h") (path_field text ∷ path_field first ∷ []) (one_letter 104 (omega arith) (omega arith)) (path_graphic text path.bytes, (path_graphic first earlier.bytes, tt)))
    ∙ rw (path_back text path.names path.bytes path.short) (rw (path_back first earlier.names earlier.bytes earlier.short) refl)

pub proc_back : (text : List (List ℕ)) → IsPath text → line_of (joined (codes "p") (path_field text ∷ [])) ≡ Ok (ProcLine text)
proc_back text path =
    ap line_of_fields (fields_back (codes "p") (path_field text ∷ []) (one_letter 112 (omega arith) (omega arith)) (path_graphic text path.bytes, tt))
    ∙ rw (path_back text path.names path.bytes path.short) refl
