-- Both machines take the same path for a command.
use Rattle.std.proofs.Common.{◌≡◌, ◌≤◌, ℕ, Bool, true, false, List, [], ◌∷◌, Some, Result, Ok, Err, refl, ap, ◌∙◌, arith}
use Rattle.std.specs.Bool.{if◌then◌else◌}
use Rattle.pr_start.specs.pr_base.declared.errno.Errno.{Errno}
use Rattle.pr_start.specs.pr_base.declared.path.WalkMode.TheVariants.{Look}
use Rattle.pr_start.specs.pr_words.Command.{candidate, directories, has_slash, path_of}
use Rattle.pr_start.specs.pt_bind.Tags.{TagTable}
use Rattle.pr_start.specs.pt_canon.TextWalk.{TextSurroundings}
use Rattle.pr_start.specs.pt_script.Programs.{program_from}
use Rattle.pr_start.specs.pt_script.declared.program.Program.{Program}
use Rattle.pr_start.specs.kr_exec.Finding.{program_at, program_walk}
use Rattle.pr_start.specs.kr_exec.Interpreters.{told_program}
use Rattle.law_programs.specs.kr_first.Starting.{around, is_walked, path_errno}
use Rattle.pr_start.specs.kr_inode.declared.user.User.{User}
use Rattle.pr_start.specs.kr_tree.Tree.{Tree}
use Rattle.pr_start.specs.kr_tree.declared.place.Place.{Place}
use Rattle.pr_start.specs.kr_view.Component.{Surroundings}
use Rattle.pr_start.specs.kr_view.Reach.{reach_after}
use Rattle.pr_start.specs.kr_view.View.{Row}
use Rattle.pr_start.specs.kr_view.Walk.{PlaceTarget}
use Rattle.pr_start.specs.kr_view.declared.target.Reach.{Reach}
use Rattle.pr_start.specs.kr_view.declared.target.Target.{Target}
use Rattle.pr_start.proofs.kr_view.ReachLemmas.{covers_after}
use Rattle.pr_start.specs.Command.{chosen, is_found, is_there, program_reach, searched}
use Rattle.pr_start.specs.pt_first.GuestStart as guest
use Rattle.pr_start.specs.pt_first.GuestStart.{searched as guest_searched}
use Rattle.pr_start.specs.pt_first.Laws.{first_texts}
use Rattle.law_turns.specs.law_walks.Settled.{IsSettled}
use Rattle.law_starts.specs.Commands.{CommandsAgree}
use Rattle.law_programs.specs.Ending.{ResultsAlike}
use Rattle.law_starts.specs.Programs.{IsSameProgram}
use Rattle.law_programs.specs.Ending as alike
use Rattle.law_starts.specs.Spaces.{first_space}
use Rattle.law_starts.specs.Working.{StandsAt}
use Rattle.law_starts.proofs.ProgramLemmas.{programs-agree}

module _ (table : List Row) (tree : Tree) (user : User) (base : Place ℕ) where
  abbrev here : Surroundings
  here = around table tree user

  -- what is reached grows
  program-more : (path : List ℕ) (r : Reach) → r.longest ≤ (program_reach table tree user base path r).longest
  program-more path r = by (is_walked path)
    where
      by : (b : Bool) → r.longest ≤ (if b then reach_after here Look (program_walk here base path) r else r).longest
      by true = (covers_after here Look (program_walk here base path) r).longest
      by false = omega arith

  searched-more : (word : List ℕ) (dirs : List (List ℕ)) (r : Reach) → r.longest ≤ (searched table tree user base word dirs r).reach.longest
  unfolding searched
  searched-more word [] r = omega arith
  searched-more word (dir ∷ dirs) r =
      let reached = program_reach table tree user base (candidate dir word) r in
      by reached (is_there table tree user base (candidate dir word)) (program-more (candidate dir word) r) (searched-more word dirs reached)
    where
      by : (reached : Reach) (b : Bool) → r.longest ≤ reached.longest → reached.longest ≤ (searched table tree user base word dirs reached).reach.longest
          → r.longest ≤ (if b then record { path = Some (candidate dir word); reach = reached } else searched table tree user base word dirs reached).reach.longest
      by reached true one rest = one
      by reached false one rest = omega arith

  pub chosen-more : (env : List (List ℕ)) (word : List ℕ) (r : Reach) → r.longest ≤ (chosen table tree user base env word r).reach.longest
  chosen-more env word r = by (has_slash word)
    where
      by : (b : Bool) → r.longest ≤ (if b then record { path = Some word; reach = r } else searched table tree user base word (directories (path_of env)) r).reach.longest
      by true = omega arith
      by false = searched-more word (directories (path_of env)) r

  module _ (tags : TagTable) (working : List ℕ) (most : ℕ) (set : IsSettled (first_space table tree user)) (at : StandsAt table tree user base working) where
    abbrev texts : TextSurroundings
    texts = first_texts table tree user tags

    same-found : (x : Result PlaceTarget Errno) (y : Result (Target ℕ) Errno) (q : Result Program Errno) → y ≡ told_program x → ResultsAlike (IsSameProgram table tree user most) y q → guest.is_found q ≡ is_found x
    same-found (Ok t) _ _ is (alike.errs e) = absurd cc
    same-found (Ok t) _ _ is (alike.oks k) = refl
    same-found (Err d) _ _ is (alike.errs e) = refl
    same-found (Err d) _ _ is (alike.oks k) = absurd cc

    there-agrees : (path : List ℕ) (r : Reach) → (program_reach table tree user base path r).longest ≤ most → guest.is_there texts working path ≡ is_there table tree user base path
    there-agrees path r within = by (is_walked path) within
      where
        by : (b : Bool) → (if b then reach_after here Look (program_walk here base path) r else r).longest ≤ most
            → guest.is_found (if b then program_from texts (Some working) path else Err (path_errno path)) ≡ is_found (if b then program_at here base path else Err (path_errno path))
        by true within = same-found (program_at here base path) (told_program (program_at here base path)) (program_from texts (Some working) path) refl (programs-agree table tree user tags base working path most r set at within)
        by false within = refl

    searched-agrees : (word : List ℕ) (dirs : List (List ℕ)) (r : Reach) → (searched table tree user base word dirs r).reach.longest ≤ most → guest_searched texts working word dirs ≡ (searched table tree user base word dirs r).path
    unfolding searched guest_searched
    searched-agrees word [] r within = refl
    searched-agrees word (dir ∷ dirs) r within =
        let reached = program_reach table tree user base (candidate dir word) r in
        by reached (is_there table tree user base (candidate dir word)) refl (there-agrees (candidate dir word) r) (searched-more word dirs reached) (searched-agrees word dirs reached) within
      where
        by : (reached : Reach) (b : Bool) → is_there table tree user base (candidate dir word) ≡ b → (reached.longest ≤ most → guest.is_there texts working (candidate dir word) ≡ is_there table tree user base (candidate dir word))
            → reached.longest ≤ (searched table tree user base word dirs reached).reach.longest
            → ((searched table tree user base word dirs reached).reach.longest ≤ most → guest_searched texts working word dirs ≡ (searched table tree user base word dirs reached).path)
            → (if b then record { path = Some (candidate dir word); reach = reached } else searched table tree user base word dirs reached).reach.longest ≤ most
            → (if guest.is_there texts working (candidate dir word) then Some (candidate dir word) else guest_searched texts working word dirs)
            ≡ (if b then record { path = Some (candidate dir word); reach = reached } else searched table tree user base word dirs reached).path
        by reached true e there more later within = ap (λ c. if c then Some (candidate dir word) else guest_searched texts working word dirs) (there within ∙ e)
        by reached false e there more later within =
            ap (λ c. if c then Some (candidate dir word) else guest_searched texts working word dirs) (there (omega (arith, more, within)) ∙ e) ∙ later within

    pub chosen-agrees : (env : List (List ℕ)) (word : List ℕ) (r : Reach) → (chosen table tree user base env word r).reach.longest ≤ most → guest.chosen texts working env word ≡ (chosen table tree user base env word r).path
    chosen-agrees env word r within = by (has_slash word) within
      where
        by : (b : Bool) → (if b then record { path = Some word; reach = r } else searched table tree user base word (directories (path_of env)) r).reach.longest ≤ most
            → (if b then Some word else guest_searched texts working word (directories (path_of env))) ≡ (if b then record { path = Some word; reach = r } else searched table tree user base word (directories (path_of env)) r).path
        by true within = refl
        by false within = searched-agrees word (directories (path_of env)) r within

pub commands-agree : CommandsAgree
commands-agree table tree user tags base working env word most r set at within = chosen-agrees table tree user base tags working most set at env word r within
