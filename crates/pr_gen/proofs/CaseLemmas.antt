-- The listing of a case is read, line after line, and none of its lines is bad.
use Rattle.std.proofs.Common.{◌≡◌, ℕ, zero, suc, ◌+◌, ◌*◌, ◌<◌, ◌≤◌, true, false, List, [], ◌∷◌, ◌++◌, length, None, refl, ap, ◌∙◌, arith, inl, inr, ◌⊎◌}
use Rattle.std.specs.Prelude.{codes, nat_lt}
use Rattle.std.specs.List.{AllByRecursion}
use Rattle.std.proofs.lemmas.Bool.{false_from_ne_true, ltb-false, ltb-true}
use Rattle.std.proofs.lemmas.List.{length-append}
use Rattle.kr_text.specs.kr_tree.Tree.{Tree, Directory, RegularFile}
use Rattle.kr_text.specs.kr_tree.Lawful.{AreBytes}
use Rattle.kr_text.specs.kr_tree.Changes.{file_limit, is_too_big}
use Rattle.kr_text.specs.Reading.{node_put}
use Rattle.pr_gen.specs.Draws.{after, after_directories, after_files, drawn, file_bytes, length_of, letters, stepped}
use Rattle.pr_gen.specs.Listing.{bound_lines, directory_line, directory_lines, directory_mode, directory_path, file_line, file_lines, file_mode, file_path, target_lines, target_path}
use Rattle.pr_gen.proofs.NameLemmas.{IsGoodName, directory_place, file_place, good_path, letter_good, numbered_good, other_places, place, target_place}
use Rattle.pr_gen.proofs.PutLemmas.{Holds, IsPut, OrThis, is_dir_put, is_put, widened}
use Rattle.pr_gen.proofs.ReadLemmas.{ReadsOn, dir_reads, file_reads, no_lines, then_on}

-- ---- the bytes of files

letters_length : (k x : ℕ) → length (letters k x) ≡ k
unfolding letters
letters_length zero x = refl
letters_length (suc k) x = let one = length-append (letters k x) ((97 + drawn 26 (after (suc k) x)) ∷ []) in let rest = letters_length k x in omega (arith, one, rest)

bytes-append : (a b : List ℕ) → AreBytes a → AreBytes b → AreBytes (a ++ b)
bytes-append [] b are more = more
bytes-append (c ∷ a) b are more = (are.0, bytes-append a b are.1 more)

letters_bytes : (k x : ℕ) → AreBytes (letters k x)
unfolding letters
letters_bytes zero x = tt
letters_bytes (suc k) x = bytes-append (letters k x) _ (letters_bytes k x) (omega arith, tt)

-- ---- one line more

-- the lines before one
abbrev pub Before : ℕ → List (List ℕ) → Type 0
Before r text = place text < r

-- a tree after the first r lines behind the user's, each of which has 64 bytes at most
abbrev pub HasRead : (List (List ℕ) → Type 0) → ℕ → Tree → Type 0
HasRead Dir r u = Holds (Before r) Dir r (64 * r) u

pub record IsRead (elf bytes : List ℕ) (Dir : List (List ℕ) → Type 0) (r : ℕ) (u : Tree) : Type 0 where
  pub tree : Tree
  pub reads : ReadsOn elf bytes false u false tree
  pub has : HasRead Dir r tree

pub later : {Dir Fewer : List (List ℕ) → Type 0} {r : ℕ} {u : Tree} (more : ℕ) → r ≤ more → ((text : List (List ℕ)) → Fewer text → Dir text) → HasRead Dir r u → HasRead Fewer more u
later more at fewer has = widened has (λ text is. omega (arith, is, at)) fewer more (64 * more) at (omega (arith, at))

next_of : (r : ℕ) (new text : List (List ℕ)) → place new ≡ r → OrThis (Before r) new text → Before (r + 1) text
next_of r new text at (inl old) = omega (arith, old)
next_of r new text at (inr same) = let here = ap place same in omega (arith, here, at)

module _ {Dir : List (List ℕ) → Type 0} {r : ℕ} {u : Tree} (has : HasRead Dir r u) (name : List ℕ) (text : List (List ℕ)) (in_dir : Dir text) (at : place (name ∷ text) ≡ r) (few : r < 5000) (good : IsGoodName name) where
  not_yet : Before r (name ∷ text) → ⊥
  not_yet is = omega (arith, is, at)

  -- a file with few bytes
  file_put : (mode : ℕ) (bytes : List ℕ) → AreBytes bytes → length bytes ≤ 64 → IsPut (Before (r + 1)) Dir (r + 1) (64 * (r + 1)) (node_put (record { mode = mode; uid = 1000; gid = 1000 }) (name ∷ text) (RegularFile bytes) u)
  file_put mode bytes are short =
      let small : is_too_big (RegularFile bytes) ≡ false = false_from_ne_true _ (λ t. let l = ltb-true file_limit (length bytes) t in omega (arith, l, short)) in
      let p = is_put has name text in_dir not_yet good.well good.bytes (omega (arith, few)) mode 1000 1000 (RegularFile bytes) refl small are (omega (arith, few, short)) in
      record { tree = p.tree; is = p.is; holds = widened p.holds (λ tx is. next_of r (name ∷ text) tx at is) (λ tx is. is) (r + 1) (64 * (r + 1)) (omega arith) (omega (arith, short)) }

  dir_put : (mode : ℕ) → IsPut (Before (r + 1)) (OrThis Dir (name ∷ text)) (r + 1) (64 * (r + 1)) (node_put (record { mode = mode; uid = 1000; gid = 1000 }) (name ∷ text) (Directory [] None) u)
  dir_put mode =
      let p = is_dir_put has name text in_dir not_yet good.well good.bytes (omega (arith, few)) mode 1000 1000 (Directory [] None) refl refl tt (omega (arith, few)) refl in
      record { tree = p.tree; is = p.is; holds = widened p.holds (λ tx is. next_of r (name ∷ text) tx at is) (λ tx is. is) (r + 1) (64 * (r + 1)) (omega arith) (omega arith) }

  pub file_read : (elf : List ℕ) → AllByRecursion IsGoodName text → length text ≤ 3 → (bytes : List ℕ) → AreBytes bytes → length bytes ≤ 64 → IsRead elf (file_line (name ∷ text) bytes) Dir (r + 1) u
  file_read elf above deep bytes are short =
      let p = file_put file_mode bytes are short in
      record { tree = p.tree; reads = file_reads elf (name ∷ text) bytes u p.tree (good_path name text (good, above) deep) are p.is; has = p.holds }

  pub dir_read : (elf : List ℕ) → AllByRecursion IsGoodName text → length text ≤ 3 → IsRead elf (directory_line (name ∷ text)) (OrThis Dir (name ∷ text)) (r + 1) u
  dir_read elf above deep =
      let p = dir_put directory_mode in
      record { tree = p.tree; reads = dir_reads elf name text u p.tree (good_path name text (good, above) deep) p.is; has = p.holds }

-- two parts, one after the other
abbrev pub both : (elf a b : List ℕ) (Dir More : List (List ℕ) → Type 0) (r s : ℕ) (u : Tree) (one : IsRead elf a Dir r u) → IsRead elf b More s one.tree → IsRead elf (a ++ b) More s u
both elf a b Dir More r s u one two = record { tree = two.tree; reads = then_on elf a b false false false u one.tree two.tree one.reads two.reads; has = two.has }

-- ---- the files of a directory

pub g_good : IsGoodName (codes "g")
g_good = letter_good 103 (omega arith) (omega arith)

pub directory_good : (d : ℕ) → d < 16 → AllByRecursion IsGoodName (directory_path d)
directory_good d fits = (numbered_good 100 d (omega arith) (omega arith) (omega (arith, fits)), (g_good, tt))

pub files_read : (elf : List ℕ) (Dir : List (List ℕ) → Type 0) (d x : ℕ) → d < 16 → Dir (directory_path d) → (u : Tree) → HasRead Dir (3 + 257 * d) u
    → (f : ℕ) → f ≤ 256 → IsRead elf (file_lines d f x) Dir (3 + 257 * d + f) u
unfolding file_lines
files_read elf Dir d x fits in_dir u has zero few = record { tree = u; reads = no_lines elf false u; has = later (3 + 257 * d + 0) (omega arith) (λ tx is. is) has }
files_read elf Dir d x fits in_dir u has (suc f) few =
    let before = files_read elf Dir d x fits in_dir u has f (omega (arith, few)) in
    let bytes : List ℕ = file_bytes (after_files f x) in
    let count = letters_length (length_of (after_files f x)) (stepped (after_files f x)) in
    let line = file_read before.has (102 ∷ _) (directory_path d) in_dir (file_place d f (omega (arith, fits)) (omega (arith, few))) (omega (arith, fits, few)) (numbered_good 102 f (omega arith) (omega arith) (omega (arith, few)))
    elf (directory_good d fits) (omega arith) bytes (letters_bytes (length_of (after_files f x)) (stepped (after_files f x))) (omega (arith, count)) in
    let whole = both elf (file_lines d f x) (file_line (file_path d f) bytes) Dir Dir (3 + 257 * d + f) (3 + 257 * d + f + 1) u before line in
    record { tree = whole.tree; reads = whole.reads; has = later {u = whole.tree} (3 + 257 * d + suc f) (omega arith) (λ tx is. is) whole.has }

-- ---- the directories

abbrev pub IsTop : List (List ℕ) → Type 0
IsTop text = (text ≡ []) ⊎ (text ≡ codes "g" ∷ [])

-- one of the first directories, or one above them
abbrev pub IsDirectory : ℕ → List (List ℕ) → Type 0
IsDirectory most text = IsTop text ⊎ ((d : ℕ) × (d < most) × (text ≡ directory_path d))

one_more : (d : ℕ) (text : List (List ℕ)) → IsDirectory (suc d) text → OrThis (IsDirectory d) (directory_path d) text
one_more d text (inl top) = inl (inl top)
one_more d text (inr one) =
    elim (nat_lt one.0 d) as (λ b. nat_lt one.0 d ≡ b → OrThis (IsDirectory d) (directory_path d) text) [
      | true ↦ λ t. inl (inr (one.0, ltb-true one.0 d t, one.2))
      | false ↦ λ f.
          let below = one.1 in
          let same : one.0 ≡ d = last one.0 d f below in
          inr (one.2 ∙ ap directory_path same)
    ] refl
  where
    last : (a b : ℕ) → nat_lt a b ≡ false → a < suc b → a ≡ b
    last a b isnt below = let above = ltb-false a b isnt in omega (arith, above, below)

pub directories_read : (elf : List ℕ) (x : ℕ) (u : Tree) → HasRead IsTop 2 u → (d : ℕ) → d ≤ 16 → IsRead elf (directory_lines d x) (IsDirectory d) (2 + 257 * d) u
unfolding directory_lines
directories_read elf x u has zero few = record { tree = u; reads = no_lines elf false u; has = later (2 + 257 * 0) (omega arith) (λ tx is. top_only tx is) has }
  where
    top_only : (tx : List (List ℕ)) → IsDirectory 0 tx → IsTop tx
    top_only tx (inl top) = top
    top_only tx (inr one) = let below = one.1 in absurd (omega (arith, below))
directories_read elf x u has (suc d) few =
    let before = directories_read elf x u has d (omega (arith, few)) in
    let line = dir_read before.has (100 ∷ _) (codes "g" ∷ []) (inl (inr refl)) (directory_place d (omega (arith, few))) (omega (arith, few)) (numbered_good 100 d (omega arith) (omega arith) (omega (arith, few))) elf (g_good, tt) (omega arith) in
    let files = files_read elf (IsDirectory (suc d)) d (after_directories d x) (omega (arith, few)) (inr (d, omega arith, refl)) line.tree (later (3 + 257 * d) (omega arith) (λ tx is. one_more d tx is) line.has) 256 (omega arith) in
    let two = both elf (directory_line (directory_path d)) (file_lines d 256 (after_directories d x)) (OrThis (IsDirectory d) (directory_path d)) (IsDirectory (suc d)) (2 + 257 * d + 1) (3 + 257 * d + 256) before.tree line files in
    let whole = both elf (directory_lines d x) _ (IsDirectory d) (IsDirectory (suc d)) (2 + 257 * d) (3 + 257 * d + 256) u before two in
    record { tree = whole.tree; reads = whole.reads; has = later (2 + 257 * suc d) (omega arith) (λ tx is. is) whole.has }

-- ---- the empty files

pub t_good : IsGoodName (codes "t")
t_good = letter_good 116 (omega arith) (omega arith)

pub targets_read : (elf : List ℕ) (Dir : List (List ℕ) → Type 0) → Dir (codes "t" ∷ []) → (u : Tree) → HasRead Dir 4118 u → (k : ℕ) → k ≤ 256 → IsRead elf (target_lines k) Dir (4118 + k) u
unfolding target_lines
targets_read elf Dir in_dir u has zero few = record { tree = u; reads = no_lines elf false u; has = later (4118 + 0) (omega arith) (λ tx is. is) has }
targets_read elf Dir in_dir u has (suc k) few =
    let before = targets_read elf Dir in_dir u has k (omega (arith, few)) in
    let line = file_read before.has (116 ∷ _) (codes "t" ∷ []) in_dir (target_place k (omega (arith, few))) (omega (arith, few)) (numbered_good 116 k (omega arith) (omega arith) (omega (arith, few))) elf (t_good, tt) (omega arith) [] tt (omega arith) in
    let whole = both elf (target_lines k) (file_line (target_path k) []) Dir Dir (4118 + k) (4118 + k + 1) u before line in
    record { tree = whole.tree; reads = whole.reads; has = later (4118 + suc k) (omega arith) (λ tx is. is) whole.has }

-- ---- what is bound

abbrev pub Dirs : List (List ℕ) → Type 0
Dirs = OrThis (OrThis (IsDirectory 16) (codes "s" ∷ [])) (codes "t" ∷ [])

pub bound_read : (elf : List ℕ) (u : Tree) → HasRead (IsDirectory 16) 4114 u → IsRead elf bound_lines Dirs 4118 u
bound_read elf u has =
    let places = other_places in
    let s_good = letter_good 115 (omega arith) (omega arith) in
    let m = dir_read has (codes "m") (directory_path 1) (inr (1, omega arith, refl)) places.2 (omega arith) (letter_good 109 (omega arith) (omega arith)) elf (directory_good 1 (omega arith)) (omega arith) in
    let s = dir_read (later 4115 (omega arith) (λ tx is. inl is) m.has) (codes "s") [] (inl (inl refl)) places.3 (omega arith) s_good elf tt (omega arith) in
    let below = dir_read s.has (codes "n") (codes "s" ∷ []) (inr refl) places.4 (omega arith) (letter_good 110 (omega arith) (omega arith)) elf (s_good, tt) (omega arith) in
    let t = dir_read (later 4117 (omega arith) (λ tx is. inl is) below.has) (codes "t") [] (inl (inl (inl refl))) places.5 (omega arith) t_good elf tt (omega arith) in
    record {
      tree = t.tree;
      reads =
          then_on elf ((directory_line (codes "m" ∷ directory_path 1) ++ directory_line (codes "s" ∷ [])) ++ directory_line (codes "n" ∷ codes "s" ∷ [])) (directory_line (codes "t" ∷ [])) false false false u below.tree t.tree
          (then_on elf (directory_line (codes "m" ∷ directory_path 1) ++ directory_line (codes "s" ∷ [])) (directory_line (codes "n" ∷ codes "s" ∷ [])) false false false u s.tree below.tree
          (then_on elf (directory_line (codes "m" ∷ directory_path 1)) (directory_line (codes "s" ∷ [])) false false false u m.tree s.tree m.reads s.reads) below.reads) t.reads;
      has = later 4118 (omega arith) (λ tx is. is) t.has;
    }
