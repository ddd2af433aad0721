-- The names of what stands in the process directory, evaluated.
use Rattle.std.proofs.Common.{◌≡◌, [], ◌∷◌, refl}
use Rattle.std.specs.Prelude.{codes}
use Rattle.std.specs.Fmt.{digits}
use Rattle.kr_tree.specs.declared.place.ProcAt.TheVariants.{SelfLink, Dir, Cwd, Root, Exe, FdDir, Fd}
use Rattle.kr_tree.specs.Names.{process_names}

self_link : process_names SelfLink ≡ codes "self" ∷ []
self_link = refl

process_directory : process_names (Dir 12) ≡ codes "12" ∷ []
unfolding digits
process_directory = refl

descriptor : process_names (Fd 2 10) ≡ codes "10" ∷ codes "fd" ∷ codes "2" ∷ []
unfolding digits
descriptor = refl

descriptors : process_names (FdDir 2) ≡ codes "fd" ∷ codes "2" ∷ []
unfolding digits
descriptors = refl

executable : process_names (Exe 2) ≡ codes "exe" ∷ codes "2" ∷ []
unfolding digits
executable = refl

working_directory : process_names (Cwd 2) ≡ codes "cwd" ∷ codes "2" ∷ []
unfolding digits
working_directory = refl

root_link : process_names (Root 2) ≡ codes "root" ∷ codes "2" ∷ []
unfolding digits
root_link = refl
