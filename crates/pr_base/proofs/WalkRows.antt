-- Walks worked out by hand over a root with these entries: `?`, a file; `0`, a directory that may not
-- be searched; `1`, a link of the process directory to the file, and `2`, one that leads nowhere; and
-- under each byte from `@` to `h` a link to the absolute text of the byte below, so that `g` is 40
-- links away from the file.
use Rattle.std.proofs.Common.{◌≡◌, ℕ, Bool, true, false, List, [], ◌∷◌, ◌-◌, Option, Some, None, Result, Ok, Err, refl}
use Rattle.std.specs.Prelude.{codes, nat_le, nat_eq, ◌&&◌, if◌then◌else◌}
use Rattle.pr_base.specs.Paths.{Component, Dot, DotDot, Name}
use Rattle.pr_base.specs.declared.errno.Errno.{Errno}
use Rattle.pr_base.specs.declared.errno.Errno.TheVariants.{EACCES, ENOENT, ENOTDIR, ELOOP}
use Rattle.pr_base.specs.declared.path.Last.TheVariants as last
use Rattle.pr_base.specs.declared.path.WalkMode.{WalkMode}
use Rattle.pr_base.specs.declared.path.WalkMode.TheVariants.{Look, LookLink, Name as NameMode, Open}
use Rattle.pr_base.specs.WalkFrame.{Seen, Fails, Missing, Leads, Links, Jumps, Looking, Landing, LookedAt, Target, walk, walk_on}

data Spot : Type 0 where
  TheRoot : Spot
  TheFile : Spot
  Closed : Spot
  ALink : ℕ → Spot

abbrev landing : Landing Spot Spot
landing = record { place = TheFile; found = TheFile; is_dir = false; dir = TheRoot; name = codes "?" }

abbrev numbered : ℕ → Seen Spot Spot
numbered b =
    if nat_eq b 63 then Leads false TheFile TheFile
    else (if nat_eq b 48 then Leads true Closed Closed
    else (if nat_eq b 49 then Jumps (ALink b) (Some landing)
    else (if nat_eq b 50 then Jumps (ALink b) None
    else (if nat_le 64 b && nat_le b 104 then Links (ALink b) (47 ∷ (b - 1) ∷ []) else Missing))))

abbrev shown : List ℕ → Seen Spot Spot
shown [] = Missing
shown (b ∷ []) = numbered b
shown (b ∷ c ∷ rest) = Missing

abbrev in_root : Component → Seen Spot Spot
in_root Dot = Leads true TheRoot TheRoot
in_root DotDot = Leads true TheRoot TheRoot
in_root (Name name) = shown name

abbrev look : Spot → Component → Seen Spot Spot
look TheRoot c = in_root c
look TheFile c = Fails ENOTDIR
look Closed c = Fails EACCES
look (ALink b) c = Fails ENOTDIR

abbrev looking : Looking Spot Spot
looking = record { root = TheRoot; here = λ s. s; look = look }

abbrev answer : WalkMode → List ℕ → Result (Target Spot Spot) Errno
answer m path = (walk looking m TheRoot path).answer

abbrev looks : WalkMode → List ℕ → List (LookedAt Spot)
looks m path = (walk looking m TheRoot path).looks

abbrev landings : WalkMode → List ℕ → List (Landing Spot Spot)
landings m path = (walk looking m TheRoot path).landings

-- what stands in the root under a name
abbrev in_the_root : List ℕ → Bool → Option Spot → Result (Target Spot Spot) Errno
in_the_root name slash found = Ok (record { dir = TheRoot; name = name; last = last.Name; slash = slash; found = found; jumped = false })

the_root : answer Look (codes "/") ≡ Ok (record { dir = TheRoot; name = []; last = last.Root; slash = false; found = Some TheRoot; jumped = false })
unfolding walk_on
the_root = refl

a_file : answer Look (codes "/?") ≡ in_the_root (codes "?") false (Some TheFile)
unfolding walk_on
a_file = refl

a_file_with_a_slash : answer LookLink (codes "/?/") ≡ Err ENOTDIR
unfolding walk_on
a_file_with_a_slash = refl

a_slash_is_the_calls_where_names_may_be_free : answer Open (codes "/?/") ≡ in_the_root (codes "?") true (Some TheFile)
unfolding walk_on
a_slash_is_the_calls_where_names_may_be_free = refl

below_a_file : answer NameMode (codes "/?/..") ≡ Err ENOTDIR
unfolding walk_on
below_a_file = refl

below_what_is_missing : answer NameMode (codes "/x/..") ≡ Err ENOENT
unfolding walk_on
below_what_is_missing = refl

a_missing_name : answer Look (codes "/x") ≡ Err ENOENT
unfolding walk_on
a_missing_name = refl

a_free_name : answer NameMode (codes "/x/") ≡ in_the_root (codes "x") true None
unfolding walk_on
a_free_name = refl

search_is_asked_where_dot_dot_stands : answer Look (codes "/0/..") ≡ Err EACCES
unfolding walk_on
search_is_asked_where_dot_dot_stands = refl

a_directory_without_search_is_found : answer Look (codes "/0/") ≡ in_the_root (codes "0") true (Some Closed)
unfolding walk_on
a_directory_without_search_is_found = refl

dot_dot_stands_in_its_directory : answer NameMode (codes "/./..") ≡ Ok (record { dir = TheRoot; name = []; last = last.DotDot; slash = false; found = Some TheRoot; jumped = false })
unfolding walk_on
dot_dot_stands_in_its_directory = refl

a_link_is_found : answer LookLink (codes "/@") ≡ in_the_root (codes "@") false (Some (ALink 64))
unfolding walk_on
a_link_is_found = refl

a_link_is_followed : answer Look (codes "/@") ≡ in_the_root (codes "?") false (Some TheFile)
unfolding walk_on
a_link_is_followed = refl

a_link_with_a_slash_is_followed : answer LookLink (codes "/@/") ≡ Err ENOTDIR
unfolding walk_on
a_link_with_a_slash_is_followed = refl

a_link_with_a_slash_is_a_name : answer NameMode (codes "/@/") ≡ in_the_root (codes "@") true (Some (ALink 64))
unfolding walk_on
a_link_with_a_slash_is_a_name = refl

forty_links : answer Look (codes "/g") ≡ in_the_root (codes "?") false (Some TheFile)
unfolding walk_on
forty_links = refl

forty_one_links : answer Look (codes "/h") ≡ Err ELOOP
unfolding walk_on
forty_one_links = refl

forty_one_links_in_the_middle : answer Look (codes "/h/x") ≡ Err ELOOP
unfolding walk_on
forty_one_links_in_the_middle = refl

a_process_link_is_found : answer NameMode (codes "/1") ≡ in_the_root (codes "1") false (Some (ALink 49))
unfolding walk_on
a_process_link_is_found = refl

a_process_link_is_followed : answer Open (codes "/1") ≡ Ok (record { dir = TheRoot; name = codes "?"; last = last.Name; slash = false; found = Some TheFile; jumped = true })
unfolding walk_on
a_process_link_is_followed = refl

a_process_link_to_a_file_with_a_slash : answer Look (codes "/1/") ≡ Err ENOTDIR
unfolding walk_on
a_process_link_to_a_file_with_a_slash = refl

a_process_link_in_the_middle : answer Look (codes "/1/x") ≡ Err ENOTDIR
unfolding walk_on
a_process_link_in_the_middle = refl

a_process_link_that_leads_nowhere : answer Look (codes "/2") ≡ Err ENOENT
unfolding walk_on
a_process_link_that_leads_nowhere = refl

the_looks_of_a_link : looks Look (codes "/./@") ≡ record { place = TheRoot; component = Dot; is_last = false } ∷ record { place = TheRoot; component = Name (codes "@"); is_last = true } ∷ record { place = TheRoot; component = Name (codes "?"); is_last = true } ∷ []
unfolding walk_on
the_looks_of_a_link = refl

a_jump_is_told_where_it_led : landings Open (codes "/1") ≡ landing ∷ []
unfolding walk_on
a_jump_is_told_where_it_led = refl

a_jump_is_told_before_what_comes_behind : landings Look (codes "/1/x") ≡ landing ∷ []
unfolding walk_on
a_jump_is_told_before_what_comes_behind = refl

a_jump_to_a_file_is_told_where_a_directory_was_wanted : landings Look (codes "/1/") ≡ landing ∷ []
unfolding walk_on
a_jump_to_a_file_is_told_where_a_directory_was_wanted = refl

what_is_not_followed_is_no_jump : landings NameMode (codes "/1") ≡ []
unfolding walk_on
what_is_not_followed_is_no_jump = refl

below_a_file_is_no_jump : landings Look (codes "/?/x") ≡ []
unfolding walk_on
below_a_file_is_no_jump = refl
