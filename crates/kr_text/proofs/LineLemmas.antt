-- Lines of another number of fields, and what a reader answers where a part of a line is bad.
use Rattle.std.proofs.Common.{◌≡◌, ◌≢◌, ℕ, List, [], ◌∷◌, length, Result, Err, None, refl}
use Rattle.kr_text.specs.declared.fault.TreeWhy.{TreeWhy}
use Rattle.kr_text.specs.declared.fault.TreeWhy.TheVariants.{Form}
use Rattle.kr_text.specs.declared.fault.LineFault.{LineFault}
use Rattle.kr_text.specs.declared.fault.LineFault.TheVariants.{Bad, NoMemory}
use Rattle.kr_text.specs.Fields.{◌>>=◌}
use Rattle.kr_text.specs.Lines.{user_line, dir_line, file_line, elf_line, link_line, name_line, proc_line}
use Rattle.kr_text.specs.Answers.{IsRead, Changes}
use Rattle.kr_tree.specs.Tree.{Directory}
use Rattle.kr_text.specs.declared.line.Owner.{Owner}
use Rattle.kr_text.specs.declared.so_far.SoFar.{SoFar}
use Rattle.kr_text.specs.Reading.{dir_read, node_read}

pub not_one_proc : (fields : List (List ℕ)) → length fields ≢ 1 → proc_line fields ≡ Err Form
not_one_proc [] n = refl
not_one_proc (a ∷ []) n = absurd (n refl)
not_one_proc (a ∷ b ∷ fields) n = refl

pub not_two_user : (fields : List (List ℕ)) → length fields ≢ 2 → user_line fields ≡ Err Form
not_two_user [] n = refl
not_two_user (a ∷ []) n = refl
not_two_user (a ∷ b ∷ []) n = absurd (n refl)
not_two_user (a ∷ b ∷ c ∷ fields) n = refl

pub not_two_name : (fields : List (List ℕ)) → length fields ≢ 2 → name_line fields ≡ Err Form
not_two_name [] n = refl
not_two_name (a ∷ []) n = refl
not_two_name (a ∷ b ∷ []) n = absurd (n refl)
not_two_name (a ∷ b ∷ c ∷ fields) n = refl

pub not_four_dir : (fields : List (List ℕ)) → length fields ≢ 4 → dir_line fields ≡ Err Form
not_four_dir [] n = refl
not_four_dir (a ∷ []) n = refl
not_four_dir (a ∷ b ∷ []) n = refl
not_four_dir (a ∷ b ∷ c ∷ []) n = refl
not_four_dir (a ∷ b ∷ c ∷ d ∷ []) n = absurd (n refl)
not_four_dir (a ∷ b ∷ c ∷ d ∷ e ∷ fields) n = refl

pub not_four_elf : (fields : List (List ℕ)) → length fields ≢ 4 → elf_line fields ≡ Err Form
not_four_elf [] n = refl
not_four_elf (a ∷ []) n = refl
not_four_elf (a ∷ b ∷ []) n = refl
not_four_elf (a ∷ b ∷ c ∷ []) n = refl
not_four_elf (a ∷ b ∷ c ∷ d ∷ []) n = absurd (n refl)
not_four_elf (a ∷ b ∷ c ∷ d ∷ e ∷ fields) n = refl

pub not_four_link : (fields : List (List ℕ)) → length fields ≢ 4 → link_line fields ≡ Err Form
not_four_link [] n = refl
not_four_link (a ∷ []) n = refl
not_four_link (a ∷ b ∷ []) n = refl
not_four_link (a ∷ b ∷ c ∷ []) n = refl
not_four_link (a ∷ b ∷ c ∷ d ∷ []) n = absurd (n refl)
not_four_link (a ∷ b ∷ c ∷ d ∷ e ∷ fields) n = refl

pub not_five_file : (fields : List (List ℕ)) → length fields ≢ 5 → file_line fields ≡ Err Form
not_five_file [] n = refl
not_five_file (a ∷ []) n = refl
not_five_file (a ∷ b ∷ []) n = refl
not_five_file (a ∷ b ∷ c ∷ []) n = refl
not_five_file (a ∷ b ∷ c ∷ d ∷ []) n = refl
not_five_file (a ∷ b ∷ c ∷ d ∷ e ∷ []) n = absurd (n refl)
not_five_file (a ∷ b ∷ c ∷ d ∷ e ∷ f ∷ fields) n = refl

-- a part that is bad, or for which memory ran out, is so for the whole
pub bad_part : {A B : Type 0} (part : Result A TreeWhy) (next : A → Result B TreeWhy) (fault : LineFault) → IsRead part (Err fault) → IsRead (part >>= next) (Err fault)
bad_part part next (Bad why) e = rw e refl
bad_part part next NoMemory e = tt

pub ruleset line_parts = (bad_part, not_one_proc, not_two_user, not_two_name, not_four_dir, not_four_elf, not_four_link, not_five_file)

-- a directory that isn't the root
pub other_dir : (owner : Owner) (text : List (List ℕ)) (s : SoFar) → text ≢ [] → dir_read owner text s ≡ node_read owner text (Directory [] None) s
other_dir owner [] s n = absurd (n refl)
other_dir owner (name ∷ text) s n = refl

-- a line that is bad, or for which memory ran out, changes nothing that counts
pub bad_line : {A B : Type 0} (part : Result A TreeWhy) (next : A → Result B TreeWhy) (fault : LineFault) (after : B) → IsRead part (Err fault) → Changes (part >>= next) (Err fault) after
bad_line part next (Bad why) after e = rw e refl
bad_line part next NoMemory after e = tt
