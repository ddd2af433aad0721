-- First lines of scripts worked out by hand.
use Rattle.std.proofs.Common.{◌≡◌, ◌++◌, [], ◌∷◌, Some, None, refl}
use Rattle.std.specs.Prelude.{codes, replicate}
use Rattle.kr_calls.specs.Scripts.{script_of}

blanks_on_both_sides : script_of (codes "#! /bin/sh  -e x \n") ≡ Some (codes "/bin/sh", codes "-e x")
blanks_on_both_sides = refl

nothing_on_the_line : script_of (codes "#!\n") ≡ None
nothing_on_the_line = refl

blanks_alone : script_of (codes "#! \t \n/bin/sh") ≡ None
blanks_alone = refl

ends_with_the_file : script_of (codes "#!/hello") ≡ Some (codes "/hello", [])
ends_with_the_file = refl

tabs_part_too : script_of (codes "#!\t/bin/sh\tx\ty\t\nz") ≡ Some (codes "/bin/sh", codes "x\ty")
tabs_part_too = refl

zero_on_the_line : script_of (codes "#!/b" ++ 0 ∷ codes "c\n") ≡ None
zero_on_the_line = refl

zero_behind_the_line : script_of (codes "#!/b\n" ++ 0 ∷ []) ≡ Some (codes "/b", [])
zero_behind_the_line = refl

-- 255 bytes without a newline are the whole file
head_of_255 : script_of (codes "#!/" ++ replicate 252 97) ≡ Some (codes "/" ++ replicate 252 97, [])
head_of_255 = refl

head_of_256 : script_of (codes "#!/" ++ replicate 253 97) ≡ None
head_of_256 = refl

newline_at_254 : script_of (codes "#!/" ++ replicate 251 97 ++ codes "\nb") ≡ Some (codes "/" ++ replicate 251 97, [])
newline_at_254 = refl

newline_at_255 : script_of (codes "#!/" ++ replicate 252 97 ++ codes "\n") ≡ None
newline_at_255 = refl
