-- A listing gives a tree and a user that can last, line by line.
use Rattle.std.specs.FinMap as map
use Rattle.std.proofs.Common.{◌≡◌, ℕ, ◌+◌, ◌*◌, ◌≤◌, ◌^◌, Bool, true, false, List, [], ◌∷◌, refl, subst, arith, Option, Some, None, Result, Ok, Err, nat_eq}
use Rattle.std.specs.Prelude.{codes, bytes_eq, IfSome, IfOk}
use Rattle.std.specs.Bool.{if◌then◌else◌}
use Rattle.std.specs.Option.{option_map_or}
use Rattle.kr_text.specs.kr_inode.declared.user.User.{User}
use Rattle.kr_text.specs.kr_tree.Changes.{count_limit}
use Rattle.kr_text.specs.kr_tree.Lawful.{IsSound}
use Rattle.kr_text.specs.kr_tree.Tree.{Tree, Inode, RegularFile, SymbolicLink, inode}
use Rattle.kr_text.specs.declared.fault.TreeWhy.{TreeWhy}
use Rattle.kr_text.specs.declared.fault.TreeWhy.TheVariants.{RootUser}
use Rattle.kr_text.specs.declared.fault.ListFault.{ListFault}
use Rattle.kr_text.specs.Drawn.{IsDrawn}
use Rattle.kr_text.specs.Fields.{id_of, path_of, text_of, bytes_of}
use Rattle.kr_text.specs.Lines.{user_line, owner_of, dir_line, file_line, elf_line, link_line, name_line, proc_line, line_of_fields, fields_of, line_of}
use Rattle.kr_text.specs.Reading.{line_read, line_added, pieces_of, nothing_read, counted, finished, then_on, read_from, listing_of}
use Rattle.law_walks.specs.kr_mounts.Ways.{HasNumbers}
use Rattle.law_allowed.specs.Texts.{IsText}
use Rattle.kr_start.specs.ListedLaws.{ReadTreesLast}
use Rattle.kr_start.proofs.FieldLemmas.{step, any-step, or-fault, FirstOf, IsSmall, IsSmallOwner, id-small, owner-small, read-text}
use Rattle.kr_start.proofs.TreeLemmas.{IsFit, can-last}
use Rattle.kr_start.proofs.SoFarLemmas.{SoFar, HasFit, IsSmallUser, node-fits, dir-fits, user-fits, elf-fits, proc-fits, name-fits}

-- ---- lines

abbrev Line : Type 0
Line = FirstOf (λ l. line_read [] l nothing_read)

-- what a line adds can last
abbrev AddsFit : Line → Type 0
AddsFit l = (elf : List ℕ) (s : SoFar) → HasFit s → IfOk (line_read elf l s) HasFit

user-adds : (fields : List (List ℕ)) → IfOk (user_line fields) AddsFit
user-adds [] = tt
user-adds (a ∷ []) = tt
user-adds (uid ∷ gid ∷ []) =
    step AddsFit (id_of uid) IsSmall _ (id-small uid) (λ u one.
    step AddsFit (id_of gid) IsSmall _ (id-small gid) (λ g two. or-fault AddsFit RootUser (nat_eq u 0) _ (λ elf s fits. user-fits s fits (record { uid = u; gid = g }) (one, two))))
user-adds (a ∷ b ∷ c ∷ fields) = tt

dir-adds : (fields : List (List ℕ)) → IfOk (dir_line fields) AddsFit
dir-adds [] = tt
dir-adds (a ∷ []) = tt
dir-adds (a ∷ b ∷ []) = tt
dir-adds (a ∷ b ∷ c ∷ []) = tt
dir-adds (mode ∷ uid ∷ gid ∷ path ∷ []) =
    step AddsFit (owner_of mode uid gid) IsSmallOwner _ (owner-small mode uid gid) (λ owner small. any-step AddsFit (path_of path) _ (λ names elf s fits. dir-fits s fits owner names small))
dir-adds (a ∷ b ∷ c ∷ d ∷ e ∷ fields) = tt

file-adds : (fields : List (List ℕ)) → IfOk (file_line fields) AddsFit
file-adds [] = tt
file-adds (a ∷ []) = tt
file-adds (a ∷ b ∷ []) = tt
file-adds (a ∷ b ∷ c ∷ []) = tt
file-adds (a ∷ b ∷ c ∷ d ∷ []) = tt
file-adds (mode ∷ uid ∷ gid ∷ path ∷ hex ∷ []) =
    any-step AddsFit (bytes_of hex) _ (λ bytes.
    step AddsFit (owner_of mode uid gid) IsSmallOwner _ (owner-small mode uid gid) (λ owner small.
    any-step AddsFit (path_of path) _ (λ names elf s fits. node-fits s fits owner names (RegularFile bytes) small tt)))
file-adds (a ∷ b ∷ c ∷ d ∷ e ∷ f ∷ fields) = tt

elf-adds : (fields : List (List ℕ)) → IfOk (elf_line fields) AddsFit
elf-adds [] = tt
elf-adds (a ∷ []) = tt
elf-adds (a ∷ b ∷ []) = tt
elf-adds (a ∷ b ∷ c ∷ []) = tt
elf-adds (mode ∷ uid ∷ gid ∷ path ∷ []) =
    step AddsFit (owner_of mode uid gid) IsSmallOwner _ (owner-small mode uid gid) (λ owner small. any-step AddsFit (path_of path) _ (λ names elf s fits. elf-fits s fits owner names elf small))
elf-adds (a ∷ b ∷ c ∷ d ∷ e ∷ fields) = tt

link-adds : (fields : List (List ℕ)) → IfOk (link_line fields) AddsFit
link-adds [] = tt
link-adds (a ∷ []) = tt
link-adds (a ∷ b ∷ []) = tt
link-adds (a ∷ b ∷ c ∷ []) = tt
link-adds (uid ∷ gid ∷ path ∷ text ∷ []) =
    step AddsFit (id_of uid) IsSmall _ (id-small uid) (λ u one.
    step AddsFit (id_of gid) IsSmall _ (id-small gid) (λ g two.
    any-step AddsFit (path_of path) _ (λ names.
    step AddsFit (text_of text) IsText _ (read-text text) (λ target is elf s fits. node-fits s fits (record { mode = 511; uid = u; gid = g }) names (SymbolicLink target) (one, two) is))))
link-adds (a ∷ b ∷ c ∷ d ∷ e ∷ fields) = tt

name-adds : (fields : List (List ℕ)) → IfOk (name_line fields) AddsFit
name-adds [] = tt
name-adds (a ∷ []) = tt
name-adds (path ∷ existing ∷ []) = any-step AddsFit (path_of path) _ (λ names. any-step AddsFit (path_of existing) _ (λ earlier elf s fits. name-fits s fits names earlier))
name-adds (a ∷ b ∷ c ∷ fields) = tt

proc-adds : (fields : List (List ℕ)) → IfOk (proc_line fields) AddsFit
proc-adds [] = tt
proc-adds (path ∷ []) = any-step AddsFit (path_of path) _ (λ names elf s fits. proc-fits s fits names)
proc-adds (a ∷ b ∷ fields) = tt

either : (b : Bool) (r more : Result Line TreeWhy) → IfOk r AddsFit → IfOk more AddsFit → IfOk (if b then r else more) AddsFit
either true r more one two = one
either false r more one two = two

fields-add : (fields : List (List ℕ)) → IfOk (line_of_fields fields) AddsFit
fields-add [] = tt
fields-add (kind ∷ fields) =
    either (bytes_eq kind (codes "user")) (user_line fields) _ (user-adds fields)
    (either (bytes_eq kind (codes "d")) (dir_line fields) _ (dir-adds fields)
    (either (bytes_eq kind (codes "f")) (file_line fields) _ (file-adds fields)
    (either (bytes_eq kind (codes "x")) (elf_line fields) _ (elf-adds fields)
    (either (bytes_eq kind (codes "l")) (link_line fields) _ (link-adds fields)
    (either (bytes_eq kind (codes "h")) (name_line fields) _ (name-adds fields)
    (either (bytes_eq kind (codes "p")) (proc_line fields) _ (proc-adds fields) tt))))))

line-adds : (elf line : List ℕ) (s : SoFar) → HasFit s → IfOk (line_added elf line s) HasFit
line-adds elf line s fits = step HasFit (line_of line) AddsFit _ (fields-add (fields_of line)) (λ l adds. adds elf s fits)

-- ---- the listing

abbrev AreFit : Tree × User → Type 0
AreFit read = IsFit read.0 × IsSmallUser read.1

finished-fits : (n : ℕ) (s : SoFar) → HasFit s → IfOk (finished n s.tree s.user) AreFit
finished-fits n s fits = by s.tree s.user fits.tree_fits fits.user_fits
  where
    by : (t : Option Tree) (user : Option User) → IfSome t IsFit → IfSome user IsSmallUser → IfOk (finished n t user) AreFit
    by None user is small = tt
    by (Some t) None is small = tt
    by (Some t) (Some user) is small = (is, small)

then-fits : (n : ℕ) (r : Result SoFar TreeWhy) (next : SoFar → Result (Tree × User) ListFault) → IfOk r HasFit
    → ((s : SoFar) → HasFit s → IfOk (next s) AreFit) → IfOk (then_on n r next) AreFit
then-fits n (Ok s) next is on = on s is
then-fits n (Err why) next is on = tt

all-fit : (elf : List ℕ) (lines : List (List ℕ)) (n : ℕ) (s : SoFar) → HasFit s → IfOk (read_from elf n lines s) AreFit
unfolding read_from
all-fit elf [] n s fits = finished-fits n s fits
all-fit elf ([] ∷ []) n s fits = finished-fits n s fits
all-fit elf ((b ∷ line) ∷ []) n s fits = tt
all-fit elf ([] ∷ next ∷ more) n s fits = then-fits n (line_added elf [] s) _ (line-adds elf [] s fits) (λ u is. all-fit elf (next ∷ more) (counted n) u is)
all-fit elf ((b ∷ line) ∷ next ∷ more) n s fits = then-fits n (line_added elf (b ∷ line) s) _ (line-adds elf (b ∷ line) s fits) (λ u is. all-fit elf (next ∷ more) (counted n) u is)

listing-fits : (elf bytes : List ℕ) → IfOk (listing_of elf bytes) AreFit
listing-fits elf bytes = all-fit elf (pieces_of bytes) 1 nothing_read (record { tree_fits = tt; user_fits = tt })

-- ---- the numbers

numbers-left : (t : Tree) → IsDrawn t → IsSound t → HasNumbers t
numbers-left t drawn sound =
    let few : map.len t.inodes ≤ count_limit = sound.inodes_limited in
    let all : map.len t.inodes ≡ drawn.last_number = drawn.all_numbers in
    let next : t.next ≡ drawn.last_number + 1 = drawn.next_number in
    record { numbers = omega arith; serials = λ dir. at dir (inode t dir) refl }
  where
    at : (dir : ℕ) (o : Option Inode) → inode t dir ≡ o → option_map_or (λ (x : Inode). x.next_serial) o 0 ≤ 2 ^ 62 + 4 * t.names
    at dir None h = omega arith
    at dir (Some x) h = let few : x.next_serial ≤ t.names + 3 = drawn.few_serials dir x h in omega arith

pub read-last : ReadTreesLast
read-last elf bytes t user is drawn sound =
    let fit : AreFit (t, user) = subst (λ r. IfOk r AreFit) is (listing-fits elf bytes) in
    let left : HasNumbers t = numbers-left t drawn sound in
    let next : t.next ≤ 2 ^ 30 + t.names = left.numbers in
    let names : t.names ≤ count_limit = sound.names_limited in
    (can-last t user fit.0 fit.1 (omega arith) (λ i x at. let own : x.next_serial ≤ t.names + 3 = drawn.few_serials i x at in omega arith), left)
