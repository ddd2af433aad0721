-- What each line of two worked listings says, and why each of some lines is bad.
use Rattle.std.proofs.Common.{◌≡◌, ℕ, [], ◌∷◌, Ok, Err, refl}
use Rattle.std.specs.Prelude.{codes}
use Rattle.hex.proofs.OnLiterals.{hex_on_literals}
use Rattle.kr_text.specs.declared.fault.TreeWhy.TheVariants.{Form, Number, Name, RootUser}
use Rattle.kr_text.specs.declared.line.Owner.{Owner}
use Rattle.kr_text.specs.declared.line.Line.TheVariants.{User as UserLine, Dir as DirLine, File as FileLine, Elf as ElfLine, Link as LinkLine, Name as NameLine, Proc as ProcLine}
use Rattle.kr_text.specs.Fields.{unescaped}
use Rattle.kr_text.specs.Lines.{line_of}

abbrev owner : ℕ → ℕ → ℕ → Owner
owner mode uid gid = record { mode = mode; uid = uid; gid = gid }

-- ---- the listing *data*

data_line_1 : line_of (codes "user 1000 1000") ≡ Ok (UserLine (record { uid = 1000; gid = 1000 }))
data_line_1 = refl

data_line_2 : line_of (codes "d 755 0 0 /") ≡ Ok (DirLine (owner 493 0 0) [])
unfolding unescaped
data_line_2 = refl

data_line_3 : line_of (codes "d 755 1000 1000 /data") ≡ Ok (DirLine (owner 493 1000 1000) (codes "data" ∷ []))
unfolding unescaped
data_line_3 = refl

data_line_4 : line_of (codes "f 644 1000 1000 /data/n 64300a") ≡ Ok (FileLine (owner 420 1000 1000) (codes "n" ∷ codes "data" ∷ []) (100 ∷ 48 ∷ 10 ∷ []))
unfolding unescaped hex_on_literals
data_line_4 = refl

data_line_5 : line_of (codes "l 1000 1000 /data/abs /f") ≡ Ok (LinkLine (owner 511 1000 1000) (codes "abs" ∷ codes "data" ∷ []) (codes "/f"))
unfolding unescaped
data_line_5 = refl

data_line_6 : line_of (codes "l 1000 1000 /data/up /../../f") ≡ Ok (LinkLine (owner 511 1000 1000) (codes "up" ∷ codes "data" ∷ []) (codes "/../../f"))
unfolding unescaped
data_line_6 = refl

data_line_7 : line_of (codes "d 755 1000 1000 /other") ≡ Ok (DirLine (owner 493 1000 1000) (codes "other" ∷ []))
unfolding unescaped
data_line_7 = refl

data_line_8 : line_of (codes "d 755 1000 1000 /other/x") ≡ Ok (DirLine (owner 493 1000 1000) (codes "x" ∷ codes "other" ∷ []))
unfolding unescaped
data_line_8 = refl

data_line_9 : line_of (codes "f 644 1000 1000 /other/o 6f0a") ≡ Ok (FileLine (owner 420 1000 1000) (codes "o" ∷ codes "other" ∷ []) (111 ∷ 10 ∷ []))
unfolding unescaped hex_on_literals
data_line_9 = refl

data_line_10 : line_of (codes "f 644 1000 1000 /new 6e65770a") ≡ Ok (FileLine (owner 420 1000 1000) (codes "new" ∷ []) (110 ∷ 101 ∷ 119 ∷ 10 ∷ []))
unfolding unescaped hex_on_literals
data_line_10 = refl

data_line_11 : line_of (codes "p /proc") ≡ Ok (ProcLine (codes "proc" ∷ []))
unfolding unescaped
data_line_11 = refl

data_line_12 : line_of (codes "d 755 1000 1000 /g") ≡ Ok (DirLine (owner 493 1000 1000) (codes "g" ∷ []))
unfolding unescaped
data_line_12 = refl

data_line_13 : line_of (codes "d 755 1000 1000 /g/a") ≡ Ok (DirLine (owner 493 1000 1000) (codes "a" ∷ codes "g" ∷ []))
unfolding unescaped
data_line_13 = refl

data_line_14 : line_of (codes "d 755 1000 1000 /g/a/x") ≡ Ok (DirLine (owner 493 1000 1000) (codes "x" ∷ codes "a" ∷ codes "g" ∷ []))
unfolding unescaped
data_line_14 = refl

data_line_15 : line_of (codes "d 755 1000 1000 /g/a/b") ≡ Ok (DirLine (owner 493 1000 1000) (codes "b" ∷ codes "a" ∷ codes "g" ∷ []))
unfolding unescaped
data_line_15 = refl

data_line_16 : line_of (codes "f 644 1000 1000 /g/a/b/f 660a") ≡ Ok (FileLine (owner 420 1000 1000) (codes "f" ∷ codes "b" ∷ codes "a" ∷ codes "g" ∷ []) (102 ∷ 10 ∷ []))
unfolding unescaped hex_on_literals
data_line_16 = refl

data_line_17 : line_of (codes "d 755 1000 1000 /g/b") ≡ Ok (DirLine (owner 493 1000 1000) (codes "b" ∷ codes "g" ∷ []))
unfolding unescaped
data_line_17 = refl

data_line_18 : line_of (codes "d 755 1000 1000 /g/mnt") ≡ Ok (DirLine (owner 493 1000 1000) (codes "mnt" ∷ codes "g" ∷ []))
unfolding unescaped
data_line_18 = refl

data_line_19 : line_of (codes "d 755 1000 1000 /g/proc") ≡ Ok (DirLine (owner 493 1000 1000) (codes "proc" ∷ codes "g" ∷ []))
unfolding unescaped
data_line_19 = refl

data_line_20 : line_of (codes "f 644 1000 1000 /g/f 6f6c640a") ≡ Ok (FileLine (owner 420 1000 1000) (codes "f" ∷ codes "g" ∷ []) (111 ∷ 108 ∷ 100 ∷ 10 ∷ []))
unfolding unescaped hex_on_literals
data_line_20 = refl

data_line_21 : line_of (codes "h /g/h /g/f") ≡ Ok (NameLine (codes "h" ∷ codes "g" ∷ []) (codes "f" ∷ codes "g" ∷ []))
unfolding unescaped
data_line_21 = refl

data_line_22 : line_of (codes "f 644 0 0 /g/for -") ≡ Ok (FileLine (owner 420 0 0) (codes "for" ∷ codes "g" ∷ []) [])
unfolding unescaped
data_line_22 = refl

data_line_23 : line_of (codes "x 755 1000 1000 /g/p") ≡ Ok (ElfLine (owner 493 1000 1000) (codes "p" ∷ codes "g" ∷ []))
unfolding unescaped
data_line_23 = refl

-- ---- the listing *home*

home_line_3 : line_of (codes "d 755 0 0 /etc") ≡ Ok (DirLine (owner 493 0 0) (codes "etc" ∷ []))
unfolding unescaped
home_line_3 = refl

home_line_4 : line_of (codes "f 644 0 0 /etc/hosts 3132372e302e302e31206c6f63616c686f73740a") ≡ Ok (FileLine (owner 420 0 0) (codes "hosts" ∷ codes "etc" ∷ []) (49 ∷ 50 ∷ 55 ∷ 46 ∷ 48 ∷ 46 ∷ 48 ∷ 46 ∷ 49 ∷ 32 ∷ 108 ∷ 111 ∷ 99 ∷ 97 ∷ 108 ∷ 104 ∷ 111 ∷ 115 ∷ 116 ∷ 10 ∷ []))
unfolding unescaped hex_on_literals
home_line_4 = refl

home_line_5 : line_of (codes "d 755 0 0 /home") ≡ Ok (DirLine (owner 493 0 0) (codes "home" ∷ []))
unfolding unescaped
home_line_5 = refl

home_line_6 : line_of (codes "d 755 1000 1000 /home/u") ≡ Ok (DirLine (owner 493 1000 1000) (codes "u" ∷ codes "home" ∷ []))
unfolding unescaped
home_line_6 = refl

home_line_7 : line_of (codes "f 644 1000 1000 /home/u/note 68690a") ≡ Ok (FileLine (owner 420 1000 1000) (codes "note" ∷ codes "u" ∷ codes "home" ∷ []) (104 ∷ 105 ∷ 10 ∷ []))
unfolding unescaped hex_on_literals
home_line_7 = refl

home_line_10 : line_of (codes "d 755 1000 1000 /g/bin") ≡ Ok (DirLine (owner 493 1000 1000) (codes "bin" ∷ codes "g" ∷ []))
unfolding unescaped
home_line_10 = refl

home_line_11 : line_of (codes "x 755 1000 1000 /g/bin/run") ≡ Ok (ElfLine (owner 493 1000 1000) (codes "run" ∷ codes "bin" ∷ codes "g" ∷ []))
unfolding unescaped
home_line_11 = refl

home_line_12 : line_of (codes "f 755 1000 1000 /g/bin/hello 7f454c460201010000000000000000000200f30001000000780001000000000040000000000000000000000000000000000000004000380001000000000000000100000005000000000000000000000000000100000000000000010000000000a200000000000000a20000000000000000100000000000009308000413051000970500009385c50113066000730000009308d005130500007300000068656c6c6f0a") ≡ Ok (FileLine (owner 493 1000 1000) (codes "hello" ∷ codes "bin" ∷ codes "g" ∷ []) (127 ∷ 69 ∷ 76 ∷ 70 ∷ 2 ∷ 1 ∷ 1 ∷ 0 ∷ 0 ∷ 0 ∷ 0 ∷ 0 ∷ 0 ∷ 0 ∷ 0 ∷ 0 ∷ 2 ∷ 0 ∷ 243 ∷ 0 ∷ 1 ∷ 0 ∷ 0 ∷ 0 ∷ 120 ∷ 0 ∷ 1 ∷ 0 ∷ 0 ∷ 0 ∷ 0 ∷ 0 ∷ 64 ∷ 0 ∷ 0 ∷ 0 ∷ 0 ∷ 0 ∷ 0 ∷ 0 ∷ 0 ∷ 0 ∷ 0 ∷ 0 ∷ 0 ∷ 0 ∷ 0 ∷ 0 ∷ 0 ∷ 0 ∷ 0 ∷ 0 ∷ 64 ∷ 0 ∷ 56 ∷ 0 ∷ 1 ∷ 0 ∷ 0 ∷ 0 ∷ 0 ∷ 0 ∷ 0 ∷ 0 ∷ 1 ∷ 0 ∷ 0 ∷ 0 ∷ 5 ∷ 0 ∷ 0 ∷ 0 ∷ 0 ∷ 0 ∷ 0 ∷ 0 ∷ 0 ∷ 0 ∷ 0 ∷ 0 ∷ 0 ∷ 0 ∷ 1 ∷ 0 ∷ 0 ∷ 0 ∷ 0 ∷ 0 ∷ 0 ∷ 0 ∷ 1 ∷ 0 ∷ 0 ∷ 0 ∷ 0 ∷ 0 ∷ 162 ∷ 0 ∷ 0 ∷ 0 ∷ 0 ∷ 0 ∷ 0 ∷ 0 ∷ 162 ∷ 0 ∷ 0 ∷ 0 ∷ 0 ∷ 0 ∷ 0 ∷ 0 ∷ 0 ∷ 16 ∷ 0 ∷ 0 ∷ 0 ∷ 0 ∷ 0 ∷ 0 ∷ 147 ∷ 8 ∷ 0 ∷ 4 ∷ 19 ∷ 5 ∷ 16 ∷ 0 ∷ 151 ∷ 5 ∷ 0 ∷ 0 ∷ 147 ∷ 133 ∷ 197 ∷ 1 ∷ 19 ∷ 6 ∷ 96 ∷ 0 ∷ 115 ∷ 0 ∷ 0 ∷ 0 ∷ 147 ∷ 8 ∷ 208 ∷ 5 ∷ 19 ∷ 5 ∷ 0 ∷ 0 ∷ 115 ∷ 0 ∷ 0 ∷ 0 ∷ 104 ∷ 101 ∷ 108 ∷ 108 ∷ 111 ∷ 10 ∷ []))
unfolding unescaped hex_on_literals
home_line_12 = refl

home_line_13 : line_of (codes "f 755 1000 1000 /g/bin/greet 23212f62696e2f68656c6c6f0a") ≡ Ok (FileLine (owner 493 1000 1000) (codes "greet" ∷ codes "bin" ∷ codes "g" ∷ []) (35 ∷ 33 ∷ 47 ∷ 98 ∷ 105 ∷ 110 ∷ 47 ∷ 104 ∷ 101 ∷ 108 ∷ 108 ∷ 111 ∷ 10 ∷ []))
unfolding unescaped hex_on_literals
home_line_13 = refl

home_line_14 : line_of (codes "l 1000 1000 /g/bin/hi greet") ≡ Ok (LinkLine (owner 511 1000 1000) (codes "hi" ∷ codes "bin" ∷ codes "g" ∷ []) (codes "greet"))
unfolding unescaped
home_line_14 = refl

home_line_15 : line_of (codes "d 755 1000 1000 /g/dev") ≡ Ok (DirLine (owner 493 1000 1000) (codes "dev" ∷ codes "g" ∷ []))
unfolding unescaped
home_line_15 = refl

home_line_16 : line_of (codes "d 755 1000 1000 /g/etc") ≡ Ok (DirLine (owner 493 1000 1000) (codes "etc" ∷ codes "g" ∷ []))
unfolding unescaped
home_line_16 = refl

home_line_17 : line_of (codes "f 644 1000 1000 /g/etc/hosts -") ≡ Ok (FileLine (owner 420 1000 1000) (codes "hosts" ∷ codes "etc" ∷ codes "g" ∷ []) [])
unfolding unescaped
home_line_17 = refl

home_line_18 : line_of (codes "f 644 1000 1000 /g/etc/passwd -") ≡ Ok (FileLine (owner 420 1000 1000) (codes "passwd" ∷ codes "etc" ∷ codes "g" ∷ []) [])
unfolding unescaped
home_line_18 = refl

home_line_19 : line_of (codes "d 755 1000 1000 /g/home") ≡ Ok (DirLine (owner 493 1000 1000) (codes "home" ∷ codes "g" ∷ []))
unfolding unescaped
home_line_19 = refl

home_line_20 : line_of (codes "d 755 1000 1000 /g/home/u") ≡ Ok (DirLine (owner 493 1000 1000) (codes "u" ∷ codes "home" ∷ codes "g" ∷ []))
unfolding unescaped
home_line_20 = refl

home_line_22 : line_of (codes "d 1777 1000 1000 /g/tmp") ≡ Ok (DirLine (owner 1023 1000 1000) (codes "tmp" ∷ codes "g" ∷ []))
unfolding unescaped
home_line_22 = refl

home_line_23 : line_of (codes "d 755 1000 1000 /g/usr") ≡ Ok (DirLine (owner 493 1000 1000) (codes "usr" ∷ codes "g" ∷ []))
unfolding unescaped
home_line_23 = refl

home_line_24 : line_of (codes "d 755 1000 1000 /g/usr/bin") ≡ Ok (DirLine (owner 493 1000 1000) (codes "bin" ∷ codes "usr" ∷ codes "g" ∷ []))
unfolding unescaped
home_line_24 = refl

home_line_25 : line_of (codes "l 1000 1000 /g/usr/bin/hey ../../bin/hello") ≡ Ok (LinkLine (owner 511 1000 1000) (codes "hey" ∷ codes "bin" ∷ codes "usr" ∷ codes "g" ∷ []) (codes "../../bin/hello"))
unfolding unescaped
home_line_25 = refl

home_line_26 : line_of (codes "d 755 1000 1000 /g/var") ≡ Ok (DirLine (owner 493 1000 1000) (codes "var" ∷ codes "g" ∷ []))
unfolding unescaped
home_line_26 = refl

home_line_27 : line_of (codes "d 755 1000 1000 /g/var/log") ≡ Ok (DirLine (owner 493 1000 1000) (codes "log" ∷ codes "var" ∷ codes "g" ∷ []))
unfolding unescaped
home_line_27 = refl

home_line_28 : line_of (codes "f 644 1000 1000 /g/var/log/old -") ≡ Ok (FileLine (owner 420 1000 1000) (codes "old" ∷ codes "log" ∷ codes "var" ∷ codes "g" ∷ []) [])
unfolding unescaped
home_line_28 = refl

home_line_29 : line_of (codes "l 1000 1000 /g/log /var/log") ≡ Ok (LinkLine (owner 511 1000 1000) (codes "log" ∷ codes "g" ∷ []) (codes "/var/log"))
unfolding unescaped
home_line_29 = refl

-- ---- bad lines

an_empty_line : line_of (codes "") ≡ Err Form
an_empty_line = refl

an_unknown_kind : line_of (codes "q 755 0 0 /a") ≡ Err Form
an_unknown_kind = refl

a_kind_is_in_lower_case : line_of (codes "D 755 0 0 /a") ≡ Err Form
a_kind_is_in_lower_case = refl

a_field_too_few : line_of (codes "d 755 0 0") ≡ Err Form
a_field_too_few = refl

a_field_too_many : line_of (codes "d 755 0 0 /a b") ≡ Err Form
a_field_too_many = refl

a_second_space : line_of (codes "d 755 0 0  /a") ≡ Err Form
a_second_space = refl

a_space_at_the_end : line_of (codes "p /proc ") ≡ Err Form
a_space_at_the_end = refl

no_hex_field : line_of (codes "f 644 0 0 /a ") ≡ Err Form
no_hex_field = refl

an_odd_number_of_digits : line_of (codes "f 644 0 0 /a 0") ≡ Err Form
unfolding hex_on_literals
an_odd_number_of_digits = refl

no_hex_digit : line_of (codes "f 644 0 0 /a 0g") ≡ Err Form
unfolding hex_on_literals
no_hex_digit = refl

hex_counts_before_a_number : line_of (codes "f 9 0 0 a 0g") ≡ Err Form
unfolding hex_on_literals
hex_counts_before_a_number = refl

no_mode : line_of (codes "d  0 0 /a") ≡ Err Number
no_mode = refl

a_digit_that_is_not_octal : line_of (codes "d 758 0 0 /a") ≡ Err Number
a_digit_that_is_not_octal = refl

a_mode_of_five_digits : line_of (codes "d 00755 0 0 /a") ≡ Err Number
a_mode_of_five_digits = refl

a_number_too_large : line_of (codes "d 755 4294967295 0 /a") ≡ Err Number
a_number_too_large = refl

a_number_with_a_sign : line_of (codes "d 755 0 +1 /a") ≡ Err Number
a_number_with_a_sign = refl

a_number_of_letters : line_of (codes "user 1a 0") ≡ Err Number
a_number_of_letters = refl

no_number : line_of (codes "user 1 ") ≡ Err Number
no_number = refl

a_number_counts_before_a_name : line_of (codes "d 755 x 0 a") ≡ Err Number
a_number_counts_before_a_name = refl

a_number_counts_before_the_root_user : line_of (codes "user 0 x") ≡ Err Number
a_number_counts_before_the_root_user = refl

a_path_from_nowhere : line_of (codes "d 755 0 0 a") ≡ Err Name
unfolding unescaped
a_path_from_nowhere = refl

no_path : line_of (codes "d 755 0 0 ") ≡ Err Name
unfolding unescaped
no_path = refl

a_dot : line_of (codes "d 755 0 0 /a/./b") ≡ Err Name
unfolding unescaped
a_dot = refl

two_dots : line_of (codes "d 755 0 0 /a/..") ≡ Err Name
unfolding unescaped
two_dots = refl

two_slashes : line_of (codes "d 755 0 0 /a//b") ≡ Err Name
unfolding unescaped
two_slashes = refl

a_slash_at_the_end : line_of (codes "d 755 0 0 /a/") ≡ Err Name
unfolding unescaped
a_slash_at_the_end = refl

a_zero_byte : line_of (codes "d 755 0 0 /a%00") ≡ Err Name
unfolding unescaped
a_zero_byte = refl

an_escape_that_is_cut : line_of (codes "d 755 0 0 /a%4") ≡ Err Name
unfolding unescaped
an_escape_that_is_cut = refl

an_escape_without_digits : line_of (codes "d 755 0 0 /a%") ≡ Err Name
unfolding unescaped
an_escape_without_digits = refl

an_escape_that_is_no_hex : line_of (codes "d 755 0 0 /a%4g") ≡ Err Name
unfolding unescaped
an_escape_that_is_no_hex = refl

an_escape_of_a_dot : line_of (codes "p /%2e") ≡ Err Name
unfolding unescaped
an_escape_of_a_dot = refl

no_text : line_of (codes "l 0 0 /a ") ≡ Err Name
unfolding unescaped
no_text = refl

a_text_with_a_zero_byte : line_of (codes "l 0 0 /a %00") ≡ Err Name
unfolding unescaped
a_text_with_a_zero_byte = refl

an_existing_name_from_nowhere : line_of (codes "h /a b") ≡ Err Name
unfolding unescaped
an_existing_name_from_nowhere = refl

the_root_user : line_of (codes "user 0 0") ≡ Err RootUser
the_root_user = refl

-- ---- lines that are lawful

zeros_may_lead : line_of (codes "user 0001000 01") ≡ Ok (UserLine (record { uid = 1000; gid = 1 }))
zeros_may_lead = refl

the_largest_number : line_of (codes "user 4294967294 4294967294") ≡ Ok (UserLine (record { uid = 4294967294; gid = 4294967294 }))
the_largest_number = refl

the_largest_mode : line_of (codes "d 7777 0 0 /a") ≡ Ok (DirLine (owner 4095 0 0) (codes "a" ∷ []))
unfolding unescaped
the_largest_mode = refl

a_mode_of_one_digit : line_of (codes "d 0 0 0 /a") ≡ Ok (DirLine (owner 0 0 0) (codes "a" ∷ []))
unfolding unescaped
a_mode_of_one_digit = refl

an_escape_parts_names : line_of (codes "d 755 0 0 /a%2fb") ≡ Ok (DirLine (owner 493 0 0) (codes "b" ∷ codes "a" ∷ []))
unfolding unescaped
an_escape_parts_names = refl

escapes_of_either_case : line_of (codes "p /%fF%41") ≡ Ok (ProcLine ((255 ∷ 65 ∷ []) ∷ []))
unfolding unescaped
escapes_of_either_case = refl

an_escaped_percent : line_of (codes "l 1 2 /a %25%20") ≡ Ok (LinkLine (owner 511 1 2) (codes "a" ∷ []) (codes "% "))
unfolding unescaped
an_escaped_percent = refl

hex_of_either_case : line_of (codes "f 600 1 2 /a aAFf") ≡ Ok (FileLine (owner 384 1 2) (codes "a" ∷ []) (170 ∷ 255 ∷ []))
unfolding unescaped hex_on_literals
hex_of_either_case = refl

any_line_may_have_the_path_of_the_root : line_of (codes "h / /") ≡ Ok (NameLine [] [])
unfolding unescaped
any_line_may_have_the_path_of_the_root = refl
