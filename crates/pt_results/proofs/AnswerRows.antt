-- Answers and notes worked out by hand.
use Rattle.std.proofs.Common.{◌≡◌, [], ◌∷◌, ◌++◌, None, Some, Ok, Err, negsuc, pos, refl}
use Rattle.std.specs.Prelude.{codes}
use Rattle.pt_args.specs.pr_base.declared.errno.Errno.TheVariants.{ENOENT, ERANGE}
use Rattle.pt_args.specs.pt_bind.declared.slot.Slot.TheVariants.{Cwd, Exe, Fd}
use Rattle.pt_args.specs.kr_calls.declared.request.Request.TheVariants as call
use Rattle.pt_args.specs.declared.edit.Edit.TheVariants.{Cancel, Emulate}
use Rattle.pt_results.specs.Answers.{directory_answer, lead_answer, nowhere_answer}
use Rattle.pt_results.specs.Notes.{noted}
use Rattle.pt_results.specs.declared.note.Note.TheVariants.{Nothing, Sets, Copies}

-- ---- getcwd

exact_size : directory_answer (Some (codes "/a/b")) 5 0x3000 ≡ Emulate ((0x3000, codes "/a/b" ++ 0 ∷ []) ∷ []) (pos 5)
exact_size = refl

one_byte_too_small : directory_answer (Some (codes "/a/b")) 4 0x3000 ≡ Cancel ERANGE
one_byte_too_small = refl

lost_directory : directory_answer None 0 0x3000 ≡ Cancel ENOENT
lost_directory = refl

-- ---- readlinkat

cut_text : lead_answer (codes "/a/b") (record { buf = 0x3000; count = 3 }) ≡ Emulate ((0x3000, codes "/a/") ∷ []) (pos 3)
cut_text = refl

whole_text : lead_answer (codes "/a/b") (record { buf = 0x3000; count = 64 }) ≡ Emulate ((0x3000, codes "/a/b") ∷ []) (pos 4)
whole_text = refl

pipe : nowhere_answer (Ok (codes "pipe:[1]")) ≡ None
pipe = refl

console : nowhere_answer (Ok (codes "console")) ≡ None
console = refl

beside_its_binding : nowhere_answer (Ok (codes "/data")) ≡ Some (Cancel ENOENT)
beside_its_binding = refl

no_name_left : nowhere_answer (Err ENOENT) ≡ Some (Cancel ENOENT)
no_name_left = refl

-- ---- notes

opened : noted (call.Openat (negsuc 99) (codes "/b") 0 0) 2 (pos 3) ≡ Sets (Fd 3) 2
opened = refl

not_opened : noted (call.Openat (negsuc 99) (codes "/b") 0 0) 2 (negsuc 1) ≡ Nothing
not_opened = refl

entered : noted (call.Chdir (codes "/b")) 2 (pos 0) ≡ Sets Cwd 2
entered = refl

executed : noted (call.Execve (codes "/b") 0 0) 2 (pos 0) ≡ Sets Exe 2
executed = refl

entered_by_descriptor : noted (call.Fchdir (pos 3)) 2 (pos 0) ≡ Copies (Fd 3) Cwd
entered_by_descriptor = refl

copied_descriptor : noted (call.Dup3 (pos 3) (pos 9) 0) 2 (pos 9) ≡ Copies (Fd 3) (Fd 9)
copied_descriptor = refl

copied_from_a_lowest : noted (call.Fcntl (pos 3) (pos 1030) 10) 2 (pos 12) ≡ Copies (Fd 3) (Fd 12)
copied_from_a_lowest = refl

flags_of_a_descriptor : noted (call.Fcntl (pos 3) (pos 1) 0) 2 (pos 1) ≡ Nothing
flags_of_a_descriptor = refl

made_pipe : noted (call.Pipe2 0x3000 0) 2 (pos 0) ≡ Nothing
made_pipe = refl
