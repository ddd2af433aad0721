-- The guest of a generated case: its code, which is the same for all, and its data, the texts of its rounds.
use Rattle.std.specs.Prelude.{ℕ, zero, suc, ◌+◌, ◌-◌, ◌*◌, ◌/◌, ◌%◌, pos, negsuc, List, [], ◌∷◌, ◌++◌, length, replicate, codes, map}
use Rattle.std.specs.Fmt.{decimal}
use Rattle.rv_asm.specs.rv_table.declared.instr.Instr.{Instr}
use Rattle.rv_asm.specs.rv_table.declared.instr.Instr.TheVariants.{Addi, Add, Lui, Beq, Bne, Blt, Ecall}
use Rattle.rv_asm.specs.declared.item.Item.TheVariants.{Plain}
use Rattle.rv_asm.specs.Program.{Program}
use Rattle.rv_asm.specs.Assembly.{code_of}
use Rattle.elf_write.specs.Layout.{written}
use Rattle.pr_gen.specs.Draws.{drawn, after, after_directories}

-- ---- the texts of a round, each with zeros behind it up to 24 bytes

abbrev pub text_room : ℕ
text_room = 24

abbrev pub padded : List ℕ → List ℕ
padded text = text ++ replicate (text_room - length text) 0

abbrev pub in_directory : ℕ → List ℕ → List ℕ
in_directory d name = codes "/d" ++ decimal d ++ name

-- the file that is opened, its new name, and an empty file that is reached through both bindings
abbrev pub round_texts : (d j b : ℕ) → List ℕ
round_texts d j b =
    padded (in_directory d (codes "/f" ++ decimal b)) ++ padded (in_directory d (codes "/r" ++ decimal j)) ++
    padded (codes "/d1/m/n/../n/t" ++ decimal b)

-- round k of all is round k mod 64 of process k / 64, which has four directories. Two draws are made for it: which of
-- these, and which file; x is the state before them
abbrev pub round_at : ℕ → ℕ → List ℕ
round_at k x = round_texts (4 * (k / 64) + drawn 4 (after 1 x)) (k % 64) (drawn 256 (after 2 x))

unfoldable pub rounds : ℕ → ℕ → List ℕ
rounds zero x = []
rounds (suc k) x = rounds k x ++ round_at k (after (2 * k) x)

-- four processes make 64 rounds each, drawn behind the files
abbrev pub guest_data : ℕ → List ℕ
guest_data n = rounds 256 (after_directories 16 n)

-- ---- the code

-- registers, by their names in the calling convention
abbrev pub none : ℕ
none = 0

abbrev pub s0 : ℕ
s0 = 8

abbrev pub s1 : ℕ
s1 = 9

abbrev pub a0 : ℕ
a0 = 10

abbrev pub a1 : ℕ
a1 = 11

abbrev pub a2 : ℕ
a2 = 12

abbrev pub a3 : ℕ
a3 = 13

abbrev pub a4 : ℕ
a4 = 14

abbrev pub a7 : ℕ
a7 = 17

abbrev pub s2 : ℕ
s2 = 18

abbrev pub s3 : ℕ
s3 = 19

abbrev pub s4 : ℕ
s4 = 20

abbrev pub s5 : ℕ
s5 = 21

abbrev pub s6 : ℕ
s6 = 22

-- three children are made. Each process has its own texts
abbrev pub setup_code : List Instr
setup_code =
    -- the texts of process 0, where the data begins
    Lui s0 (pos 69632) ∷
    -- the buffer, behind the texts
    Lui s1 (pos 90112) ∷
    Addi s1 s1 (negsuc 2047) ∷
    -- how many bytes the texts of a process take: 64 times 72
    Lui s6 (pos 4096) ∷
    Addi s6 s6 (pos 512) ∷
    -- children to be made
    Addi s4 none (pos 3) ∷
    -- the texts of the next child
    Add s0 s0 s6 ∷
    -- clone(SIGCHLD, 0, 0, 0, 0)
    Addi a0 none (pos 17) ∷
    Addi a1 none (pos 0) ∷
    Addi a2 none (pos 0) ∷
    Addi a3 none (pos 0) ∷
    Addi a4 none (pos 0) ∷
    Addi a7 none (pos 220) ∷
    Ecall ∷
    -- 0 in a child
    Addi s5 a0 (pos 0) ∷
    -- a child goes on with its rounds
    Beq s5 none (pos 16) ∷
    Addi s4 s4 (negsuc 0) ∷
    -- back to the next child
    Bne s4 none (negsuc 43) ∷
    -- the parent goes on with its own
    Lui s0 (pos 69632) ∷
    -- rounds to be made
    Addi s2 none (pos 64) ∷
    []

-- a round: the file is opened and read, and what was read is written
abbrev pub read_code : List Instr
read_code =
    -- openat(AT_FDCWD, file, O_RDONLY, 0)
    Addi a0 none (negsuc 99) ∷
    Addi a1 s0 (pos 0) ∷
    Addi a2 none (pos 0) ∷
    Addi a3 none (pos 0) ∷
    Addi a7 none (pos 56) ∷
    Ecall ∷
    -- where that failed, nothing is read
    Blt a0 none (pos 56) ∷
    -- read(fd, buffer, 64)
    Addi s3 a0 (pos 0) ∷
    Addi a1 s1 (pos 0) ∷
    Addi a2 none (pos 64) ∷
    Addi a7 none (pos 63) ∷
    Ecall ∷
    -- write(1, buffer, what was read)
    Addi a2 a0 (pos 0) ∷
    Addi a0 none (pos 1) ∷
    Addi a1 s1 (pos 0) ∷
    Addi a7 none (pos 64) ∷
    Ecall ∷
    -- close(fd)
    Addi a0 s3 (pos 0) ∷
    Addi a7 none (pos 57) ∷
    Ecall ∷
    []

-- the file is renamed, and the empty file looked at
abbrev pub rename_code : List Instr
rename_code =
    -- renameat2(AT_FDCWD, file, AT_FDCWD, new name, 0)
    Addi a0 none (negsuc 99) ∷
    Addi a1 s0 (pos 0) ∷
    Addi a2 none (negsuc 99) ∷
    Addi a3 s0 (pos 24) ∷
    Addi a4 none (pos 0) ∷
    Addi a7 none (pos 276) ∷
    Ecall ∷
    -- newfstatat(AT_FDCWD, empty file, buffer, 0)
    Addi a0 none (negsuc 99) ∷
    Addi a1 s0 (pos 48) ∷
    Addi a2 s1 (pos 0) ∷
    Addi a3 none (pos 0) ∷
    Addi a7 none (pos 79) ∷
    Ecall ∷
    -- the texts of the next round
    Addi s0 s0 (pos 72) ∷
    Addi s2 s2 (negsuc 0) ∷
    -- back to the next round
    Bne s2 none (negsuc 139) ∷
    []

-- the parent waits for its children
abbrev pub end_code : List Instr
end_code =
    -- a child waits for nobody
    Beq s5 none (pos 40) ∷
    -- children to be waited for
    Addi s4 none (pos 3) ∷
    -- wait4(-1, 0, 0, 0)
    Addi a0 none (negsuc 0) ∷
    Addi a1 none (pos 0) ∷
    Addi a2 none (pos 0) ∷
    Addi a3 none (pos 0) ∷
    Addi a7 none (pos 260) ∷
    Ecall ∷
    Addi s4 s4 (negsuc 0) ∷
    -- back to the next child
    Bne s4 none (negsuc 27) ∷
    -- exit(0)
    Addi a0 none (pos 0) ∷
    Addi a7 none (pos 93) ∷
    Ecall ∷
    []

abbrev pub guest_program : Program
guest_program = record { items = map Plain (setup_code ++ read_code ++ rename_code ++ end_code); places = [] }

-- how many bytes the buffer has
abbrev pub buffer_room : ℕ
buffer_room = 128

-- the guest's file
unfoldable pub guest : ℕ → List ℕ
guest n = written (code_of guest_program) (guest_data n) buffer_room
