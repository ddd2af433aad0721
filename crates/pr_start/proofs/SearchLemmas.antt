-- That the path of a command is a text, and where the working directory is.
use Rattle.std.proofs.Common.{◌≡◌, ◌≢◌, ℕ, Bool, true, false, List, [], ◌∷◌, Option, Some, None, refl, ap, subst}
use Rattle.std.specs.Prelude.{codes, if◌then◌else◌}
use Rattle.std.specs.List.{All}
use Rattle.std.specs.Option.{option_and_then}
use Rattle.std.proofs.lemmas.List.Elements.{All-head, All-tail}
use Rattle.std.proofs.lemmas.Option.{same_Some}
use Rattle.pt_tracer.specs.kr_inode.declared.user.User.{User}
use Rattle.kr_core.specs.kr_tree.declared.place.Place.{Place}
use Rattle.kr_core.specs.kr_tree.Tree.{Tree}
use Rattle.kr_core.specs.kr_view.declared.target.Reach.{Reach}
use Rattle.kr_core.specs.kr_view.Component.{may_search}
use Rattle.kr_core.specs.kr_view.View.{Row, StandsIn}
use Rattle.kr_core.specs.law_allowed.Texts.{IsText}
use Rattle.kr_core.specs.kr_first.Laws.{RootsAreDirectories}
use Rattle.kr_core.specs.kr_first.Starting.{directory_at, is_walked}
use Rattle.pr_start.specs.Directory.{if_searchable, or_root, searchable_at, working_directory}
use Rattle.pt_first.proofs.pr_words.TextLemmas.{text-candidate, text-word, texts-directories}
use Rattle.pt_first.specs.pr_words.Command.{candidate, directories, has_slash, path_of, word_of}
use Rattle.pr_start.specs.Command.{Chosen, chosen, is_there, program_reach, searched}

-- one that is taken, or a later one
of-either : (here : List ℕ) (reached : Reach) (later : Chosen) (path : List ℕ) → IsText here → (later.path ≡ Some path → IsText path) → (b : Bool) → (if b then record { path = Some here; reach = reached } else later).path ≡ Some path → IsText path
of-either here reached later path here-is later-is true e = subst IsText (same_Some here path e) here-is
of-either here reached later path here-is later-is false e = later-is e

module _ (table : List Row) (tree : Tree) (user : User) (base : Place ℕ) where
  text-searched : (word : List ℕ) (dirs : List (List ℕ)) (r : Reach) (path : List ℕ) → IsText word → All IsText dirs → (searched table tree user base word dirs r).path ≡ Some path → IsText path
  unfolding searched
  text-searched word [] r path word-is dirs-are e = absurd cc
  text-searched word (dir ∷ dirs) r path word-is dirs-are e =
      let reached = program_reach table tree user base (candidate dir word) r in
      of-either (candidate dir word) reached (searched table tree user base word dirs reached) path (text-candidate dir word (All-head IsText dir dirs dirs-are) word-is)
      (text-searched word dirs reached path word-is (All-tail IsText dir dirs dirs-are)) (is_there table tree user base (candidate dir word)) e

  pub text-chosen : (env command : List (List ℕ)) (r : Reach) (path : List ℕ) → All IsText env → All IsText command → (chosen table tree user base env (word_of command) r).path ≡ Some path → IsText path
  text-chosen env command r path env-is command-is e =
      of-either (word_of command) r (searched table tree user base (word_of command) (directories (path_of env)) r) path (text-word command command-is)
      (text-searched (word_of command) (directories (path_of env)) r path (text-word command command-is) (texts-directories env env-is)) (has_slash (word_of command)) e

-- ---- the working directory

pub directory-leads : (table : List Row) (tree : Tree) (user : User) (path : List ℕ) → RootsAreDirectories → StandsIn tree table
    → directory_at table tree user (working_directory table tree user path).path ≡ Some (working_directory table tree user path).place
directory-leads table tree user path roots stands = by (searchable_at table tree user path) refl
  where
    of-if : (b : Bool) (p q : Place ℕ) → (if b then Some p else None) ≡ Some q → p ≡ q
    of-if true p q e = same_Some p q e
    of-if false p q e = absurd cc

    of-directory : (o : Option (Place ℕ)) (p : Place ℕ) → option_and_then (if_searchable table tree user) o ≡ Some p → o ≡ Some p
    of-directory None p e = absurd cc
    of-directory (Some q) p e = ap (λ x. Some x) (of-if (may_search tree user q.host) q p e)

    of-walked : (b : Bool) (p : Place ℕ) → (if b then option_and_then (if_searchable table tree user) (directory_at table tree user path) else None) ≡ Some p → directory_at table tree user path ≡ Some p
    of-walked true p e = of-directory (directory_at table tree user path) p e
    of-walked false p e = absurd cc

    by : (o : Option (Place ℕ)) → searchable_at table tree user path ≡ o → directory_at table tree user (or_root table tree user path o).path ≡ Some (or_root table tree user path o).place
    by None e = roots table tree user (codes "/") stands (λ none. absurd cc) refl
    by (Some p) e = of-walked (is_walked path) p e
