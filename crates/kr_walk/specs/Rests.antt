-- What is left of paths that a walk reads.
use Rattle.std.specs.Prelude.{ℕ, Bool, List, [], ◌∷◌, ◌++◌, map, drop}
use Rattle.kr_view.specs.kr_tree.pr_base.Paths.{Component, component_of, has_parts, parts_of}
use Rattle.kr_walk.specs.declared.rest.Rest.{Rest}

-- the bytes that weren't read
abbrev pub unread : Rest → List ℕ
unread r = drop r.at r.text

abbrev pub parts_left : Rest → List (List ℕ)
parts_left r = parts_of (unread r)

abbrev pub components_left : Rest → List Component
components_left r = map component_of (parts_left r)

-- whether a component is left
abbrev pub has_more : Rest → Bool
has_more r = has_parts (parts_left r)

-- the components of a stack of rests: the last rest is read first
abbrev pub stacked : List Rest → List Component
stacked [] = []
stacked (r ∷ rests) = stacked rests ++ components_left r
