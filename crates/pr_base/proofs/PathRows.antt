-- Paths worked out by hand.
use Rattle.std.proofs.Common.{◌≡◌, true, false, [], ◌∷◌, Some, None, refl}
use Rattle.std.specs.Prelude.{codes}
use Rattle.pr_base.specs.Paths.{Dot, DotDot, Name, components_of, is_absolute, has_slash, last_kind, text_of, name_path}
use Rattle.pr_base.specs.Texts.{names_below}
use Rattle.pr_base.specs.declared.path.Last.TheVariants as last

-- slashes in a row part once, and a dot is a component
slashes_in_a_row : components_of (codes "/a//./b/") ≡ Name (codes "a") ∷ Dot ∷ Name (codes "b") ∷ []
slashes_in_a_row = refl

ends_with_a_name : last_kind (codes "/a//./b/") ≡ last.Name
ends_with_a_name = refl

has_a_slash : has_slash (codes "/a//./b/") ≡ true
has_a_slash = refl

-- the root has no component, so no slash behind one
root_has_no_slash : has_slash (codes "/") ≡ false
root_has_no_slash = refl

root_ends_at_the_root : last_kind (codes "/") ≡ last.Root
root_ends_at_the_root = refl

empty_path_ends_at_the_root : last_kind [] ≡ last.Root
empty_path_ends_at_the_root = refl

ends_one_up : components_of (codes "a/..") ≡ Name (codes "a") ∷ DotDot ∷ []
ends_one_up = refl

relative : is_absolute (codes "a/..") ≡ false
relative = refl

-- three dots are a name
three_dots : components_of (codes "...") ≡ Name (codes "...") ∷ []
three_dots = refl

deepest_first : text_of (codes "b" ∷ codes "a" ∷ []) ≡ codes "/a/b"
deepest_first = refl

a_name_with_a_slash_behind : name_path (codes "a" ∷ []) (codes "b") true ≡ codes "/a/b/"
a_name_with_a_slash_behind = refl

a_name_in_the_root : name_path [] (codes "b") false ≡ codes "/b"
a_name_in_the_root = refl

below_the_top : names_below (codes "a" ∷ []) (codes "c" ∷ codes "b" ∷ codes "a" ∷ []) ≡ Some (codes "c" ∷ codes "b" ∷ [])
below_the_top = refl

the_top_itself : names_below (codes "a" ∷ []) (codes "a" ∷ []) ≡ Some []
the_top_itself = refl

elsewhere : names_below (codes "a" ∷ []) (codes "a" ∷ codes "b" ∷ []) ≡ None
elsewhere = refl
