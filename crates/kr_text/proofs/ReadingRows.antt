-- Small listings read, and what lines add.
use Rattle.std.proofs.Common.{◌≡◌, [], ◌∷◌, ◌++◌, replicate, Ok, Err, Some, None, refl}
use Rattle.std.specs.Prelude.{codes, true, false}
use Rattle.kr_tree.specs.kr_inode.declared.user.User.{User}
use Rattle.kr_tree.specs.Tree.{Tree}
use Rattle.kr_tree.specs.Changes.{new_tree}
use Rattle.kr_text.specs.declared.fault.TreeWhy.TheVariants.{Form, Name, NoParent, Twice, NoUser, NoRoot}
use Rattle.kr_text.specs.declared.fault.ListFault.TheVariants.{Bad}
use Rattle.kr_text.specs.declared.line.Owner.{Owner}
use Rattle.kr_text.specs.declared.line.Line.TheVariants.{User as UserLine, Dir as DirLine, File as FileLine, Link as LinkLine, Name as NameLine, Proc as ProcLine}
use Rattle.kr_text.specs.Fields.{unescaped}
use Rattle.kr_text.specs.Lines.{line_of}
use Rattle.kr_text.specs.declared.so_far.SoFar.{SoFar}
use Rattle.kr_text.specs.Reading.{nothing_read, line_read, listing_of, read_from, wants_elf}

abbrev anyone : Owner
anyone = record { mode = 493; uid = 7; gid = 8 }

abbrev someone : User
someone = record { uid = 1; gid = 2 }

abbrev with_root : Tree → SoFar
with_root t = record { tree = Some t; user = None; has_proc = false; has_elf = false }

abbrev with_user : SoFar
with_user = record { tree = None; user = Some someone; has_proc = false; has_elf = false }

-- ---- before the root's line and after it

a_name_before_the_root : line_read [] (DirLine anyone (codes "a" ∷ [])) nothing_read ≡ Err NoParent
a_name_before_the_root = refl

a_file_as_the_root : line_read [] (FileLine anyone [] []) nothing_read ≡ Err NoParent
a_file_as_the_root = refl

the_process_directory_as_the_root : line_read [] (ProcLine []) nothing_read ≡ Err NoParent
the_process_directory_as_the_root = refl

the_root_alone : line_read [] (DirLine anyone []) nothing_read ≡ Ok (with_root (new_tree 493 7 8))
the_root_alone = refl

the_root_twice : (t : Tree) → line_read [] (DirLine anyone []) (with_root t) ≡ Err Twice
the_root_twice t = refl

a_file_at_the_root : (t : Tree) → line_read [] (FileLine anyone [] []) (with_root t) ≡ Err Twice
a_file_at_the_root t = refl

a_link_at_the_root : (t : Tree) → line_read [] (LinkLine anyone [] (codes "a")) (with_root t) ≡ Err Twice
a_link_at_the_root t = refl

a_further_name_at_the_root : (t : Tree) → line_read [] (NameLine [] []) (with_root t) ≡ Err Twice
a_further_name_at_the_root t = refl

a_second_user : line_read [] (UserLine someone) with_user ≡ Err Twice
a_second_user = refl

-- ---- whole listings

nothing : listing_of [] [] ≡ Err (Bad 1 NoRoot)
unfolding read_from
nothing = refl

one_byte : listing_of [] (codes "u") ≡ Err (Bad 1 Form)
unfolding read_from
one_byte = refl

one_newline : listing_of [] (10 ∷ []) ≡ Err (Bad 1 Form)
unfolding read_from
one_newline = refl

no_newline_at_the_end : listing_of [] (codes "user 1 2") ≡ Err (Bad 1 Form)
unfolding read_from
no_newline_at_the_end = refl

no_root : listing_of [] (codes "user 1 2" ++ 10 ∷ []) ≡ Err (Bad 2 NoRoot)
unfolding read_from unescaped
no_root = refl

no_user : listing_of [] (codes "d 755 0 0 /" ++ 10 ∷ []) ≡ Err (Bad 2 NoUser)
unfolding read_from unescaped
no_user = refl

a_user_and_a_root : listing_of [] (codes "d 755 7 8 /" ++ 10 ∷ codes "user 1 2" ++ 10 ∷ []) ≡ Ok (new_tree 493 7 8, someone)
unfolding read_from unescaped
a_user_and_a_root = refl

the_second_line_is_bad : listing_of [] (codes "user 1 2" ++ 10 ∷ codes "user 1 2" ++ 10 ∷ []) ≡ Err (Bad 2 Twice)
unfolding read_from unescaped
the_second_line_is_bad = refl

-- ---- whether an ELF source is wanted

a_line_of_the_source : wants_elf (codes "user 1 2" ++ 10 ∷ codes "x ") ≡ true
a_line_of_the_source = refl

no_space_behind_the_kind : wants_elf (codes "x" ++ 10 ∷ codes "d x /") ≡ false
no_space_behind_the_kind = refl

-- ---- the longest names and paths

the_longest_component : line_of (codes "p /" ++ replicate 255 97) ≡ Ok (ProcLine (replicate 255 97 ∷ []))
unfolding unescaped
the_longest_component = refl

a_component_too_long : line_of (codes "p /" ++ replicate 256 97) ≡ Err Name
unfolding unescaped
a_component_too_long = refl
