-- The definitions, evaluated.
use Rattle.std.proofs.Common.{◌≡◌, ℕ, true, false, [], ◌∷◌, replicate, refl, Some, None}
use Rattle.std.specs.Prelude.{codes}
use Rattle.std.specs.Option.{option_map}
use Rattle.kr_inode.specs.declared.user.User.{User}
use Rattle.kr_inode.specs.declared.user.Right.TheVariants.{Read, Write, Search}
use Rattle.kr_inode.specs.Inode.{Node, Inode, Entry, Directory, RegularFile, SymbolicLink, entry_named, entry_after, entries_of}
use Rattle.kr_inode.specs.Rights.{allows, is_kept_by_sticky}
use Rattle.kr_inode.specs.Names.{is_name}
use Rattle.kr_inode.specs.Changes.{fresh, with_entry, without_entry, sized, overwritten, is_too_big}

-- ---- names

plain_name : is_name (codes "a") ≡ true
plain_name = refl

three_dots : is_name (codes "...") ≡ true
three_dots = refl

dot_and_letter : is_name (codes ".a") ≡ true
dot_and_letter = refl

longest_name : is_name (replicate 255 97) ≡ true
longest_name = refl

too_long_name : is_name (replicate 256 97) ≡ false
too_long_name = refl

empty_name : is_name [] ≡ false
empty_name = refl

dot : is_name (codes ".") ≡ false
dot = refl

dots : is_name (codes "..") ≡ false
dots = refl

slash_in_name : is_name (codes "a/b") ≡ false
slash_in_name = refl

zero_in_name : is_name (97 ∷ 0 ∷ []) ≡ false
zero_in_name = refl

-- ---- rights: modes are octal

user : User
user = record { uid = 1000; gid = 100 }

owned : ℕ → ℕ → ℕ → Node
owned mode uid gid = record { mode = mode; uid = uid; gid = gid; body = RegularFile [] }

-- 0640 of the user
owner_reads : allows user (owned 416 1000 0) Read ≡ true
unfolding user owned
owner_reads = refl

owner_does_not_execute : allows user (owned 416 1000 0) Search ≡ false
unfolding user owned
owner_does_not_execute = refl

-- 0066: the owner's class denies what the group's and the others' would give
owner_denied : allows user (owned 54 1000 100) Read ≡ false
unfolding user owned
owner_denied = refl

-- 0750 of the user's group
group_searches : allows user (owned 488 0 100) Search ≡ true
unfolding user owned
group_searches = refl

group_does_not_write : allows user (owned 488 0 100) Write ≡ false
unfolding user owned
group_does_not_write = refl

-- 0707: the group's class denies what the others' would give
group_denied : allows user (owned 455 0 100) Write ≡ false
unfolding user owned
group_denied = refl

-- 0007 of another user and group
others_write : allows user (owned 7 0 0) Write ≡ true
unfolding user owned
others_write = refl

-- 0770
others_denied : allows user (owned 504 0 0) Read ≡ false
unfolding user owned
others_denied = refl

-- 01777 of another user, and an entry of the user, and one of another
own_entry_in_sticky : is_kept_by_sticky user (owned 1023 0 0) (owned 420 1000 100) ≡ false
unfolding user owned
own_entry_in_sticky = refl

other_entry_in_sticky : is_kept_by_sticky user (owned 1023 0 0) (owned 420 1 1) ≡ true
unfolding user owned
other_entry_in_sticky = refl

other_entry_in_own_sticky : is_kept_by_sticky user (owned 1023 1000 0) (owned 420 1 1) ≡ false
unfolding user owned
other_entry_in_own_sticky = refl

-- 0777
other_entry_without_sticky : is_kept_by_sticky user (owned 511 0 0) (owned 420 1 1) ≡ false
unfolding user owned
other_entry_without_sticky = refl

-- ---- bytes

cut : sized 2 (1 ∷ 2 ∷ 3 ∷ []) ≡ 1 ∷ 2 ∷ []
cut = refl

filled : sized 4 (1 ∷ 2 ∷ []) ≡ 1 ∷ 2 ∷ 0 ∷ 0 ∷ []
filled = refl

written_inside : overwritten 1 (8 ∷ 9 ∷ []) (1 ∷ 2 ∷ 3 ∷ 4 ∷ []) ≡ 1 ∷ 8 ∷ 9 ∷ 4 ∷ []
written_inside = refl

written_over_the_end : overwritten 1 (8 ∷ 9 ∷ []) (1 ∷ 2 ∷ []) ≡ 1 ∷ 8 ∷ 9 ∷ []
written_over_the_end = refl

written_past_the_end : overwritten 4 (8 ∷ []) (1 ∷ 2 ∷ []) ≡ 1 ∷ 2 ∷ 0 ∷ 0 ∷ 8 ∷ []
written_past_the_end = refl

nothing_written_past_the_end : overwritten 4 [] (1 ∷ 2 ∷ []) ≡ 1 ∷ 2 ∷ []
nothing_written_past_the_end = refl

-- ---- entries

directory : Inode
directory = fresh 493 0 0 (Directory [] (Some (record { inode = 1; serial = 3 })))

-- two entries, of a file 5 and of a directory 6
two : Inode
two = with_entry (codes "b") 6 true (with_entry (codes "a") 5 false directory)

first : Entry
first = record { name = codes "a"; serial = 3; inode = 5 }

second : Entry
second = record { name = codes "b"; serial = 4; inode = 6 }

in_order_of_serials : entries_of two.node.body ≡ first ∷ second ∷ []
unfolding two directory first second
in_order_of_serials = refl

serial_drawn : two.next_serial ≡ 5
unfolding two directory
serial_drawn = refl

directory_counted : two.directories ≡ 1
unfolding two directory
directory_counted = refl

found : option_map (λ e. e.inode) (entry_named (codes "b") (entries_of two.node.body)) ≡ Some 6
unfolding two directory
found = refl

not_found : entry_named (codes "c") (entries_of two.node.body) ≡ None
unfolding two directory
not_found = refl

after_first : option_map (λ e. e.serial) (entry_after 3 (entries_of two.node.body)) ≡ Some 4
unfolding two directory
after_first = refl

after_last : entry_after 4 (entries_of two.node.body) ≡ None
unfolding two directory
after_last = refl

-- a name taken away and put back takes a new serial
taken_and_put_back : entries_of (with_entry (codes "a") 5 false (without_entry (codes "a") false two)).node.body ≡ second ∷ (record { name = codes "a"; serial = 5; inode = 5 }) ∷ []
unfolding two directory second
taken_and_put_back = refl

-- ---- limits

one_file_within : is_too_big (RegularFile []) ≡ false
one_file_within = refl

text_is_no_file : is_too_big (SymbolicLink (codes "a")) ≡ false
text_is_no_file = refl
