-- A kernel with mounts and a tracer find the same program.
use Rattle.std.proofs.Common.{◌≡◌, ◌≢◌, ℕ, Bool, true, false, ◌&&◌, List, ◌∷◌, take, Option, Some, None, Result, Ok, Err, refl, sym, ap, subst, ◌∙◌, arith, []}
use Rattle.std.specs.Bool.{if◌then◌else◌}
use Rattle.std.specs.Option.{option_and_then, option_map_or}
use Rattle.std.specs.Prelude.{IsSome, is_some}
use Rattle.std.proofs.lemmas.List.{take-take}
use Rattle.kr_first.specs.pr_base.Alike.{Alike, TargetAlike, ends, errs}
use Rattle.kr_first.specs.pr_base.MountText.{MountText}
use Rattle.kr_first.specs.pr_base.Paths.{components_of, has_slash, is_absolute, slash, text_of}
use Rattle.kr_first.specs.pr_base.Texts.{Text}
use Rattle.kr_first.specs.pr_base.WalkFrame.{Target, most_links, walk_on}
use Rattle.kr_first.specs.pr_base.declared.errno.Errno.{Errno}
use Rattle.kr_first.specs.pr_base.declared.errno.Errno.TheVariants.{EACCES}
use Rattle.kr_first.specs.pr_base.declared.path.WalkMode.TheVariants.{Look, LookLink}
use Rattle.kr_first.proofs.pr_base.AlikeLemmas.{alike_some}
use Rattle.kr_first.proofs.pr_base.PathLemmas.{names_are_parts}
use Rattle.kr_first.proofs.pr_base.WalkLemmas.{walk-none}
use Rattle.kr_first.specs.pt_bind.Binding.{index_of, names_of}
use Rattle.kr_first.specs.pt_bind.Tags.{TagTable}
use Rattle.kr_first.proofs.pt_bind.ByteLemmas.{names_written}
use Rattle.law_edits.specs.pt_args.Walks.{and_then}
use Rattle.law_edits.specs.pt_canon.Canon.{canon_of, canon_result}
use Rattle.law_edits.specs.pt_canon.TextWalk.{TextSurroundings, looking_texts, text_walk}
use Rattle.law_edits.specs.pt_canon.declared.canon.Canon.{Canon}
use Rattle.law_edits.specs.pt_script.Programs.{base_from, canon_from, or_lost, program_from, program_in}
use Rattle.law_edits.specs.pt_script.declared.program.Program.{Program}
use Rattle.kr_first.specs.kr_inode.declared.user.User.{User}
use Rattle.kr_first.specs.kr_inode.declared.user.Right.TheVariants.{Search}
use Rattle.kr_first.specs.kr_tree.declared.place.Host.{Host}
use Rattle.kr_first.specs.kr_tree.declared.place.Host.TheVariants.{Node, Proc}
use Rattle.kr_first.specs.kr_tree.declared.place.Place.{Place}
use Rattle.kr_first.specs.kr_tree.Rights.{may}
use Rattle.kr_first.specs.kr_tree.Tree.{Body, Directory, ProcessDirectory, RegularFile, SymbolicLink, Tree, body, file_of, is_directory, is_file}
use Rattle.kr_first.proofs.kr_tree.EntryLemmas.{body_test}
use Rattle.kr_first.specs.kr_view.Component.{Namespace, Surroundings, is_directory_at}
use Rattle.kr_first.specs.kr_view.View.{Row, plain, root_place}
use Rattle.kr_first.specs.kr_view.Walk.{PlaceTarget, looking, place_walk}
use Rattle.kr_first.proofs.kr_view.ArrivalLemmas.{text_found}
use Rattle.law_edits.specs.kr_mounts.Standing.{texts_of}
use Rattle.kr_first.specs.kr_exec.Finding.{if_program, is_program, is_program_found, program_at}
use Rattle.kr_first.specs.kr_exec.Interpreters.{bytes_at, head_of}
use Rattle.law_edits.specs.kr_model.Peeks.{body_head, head_at, read_at, read_of}
use Rattle.law_edits.specs.kr_model.ProcessDirectory.{around_of}
use Rattle.law_edits.specs.kr_model.State.{State}
use Rattle.law_edits.specs.law_walks.Handed.{BothEnd}
use Rattle.law_edits.specs.law_walks.Scene.{IsMatched, Scene}
use Rattle.law_edits.specs.law_walks.Settled.{host_text}
use Rattle.law_edits.specs.law_walks.Standing.{FoundStands, StandsOn, likeness, reached_in}
use Rattle.law_edits.proofs.law_walks.AgreeLemmas.{walks_agree}
use Rattle.law_edits.proofs.law_walks.CanonLemmas.{answers_tell_targets}
use Rattle.law_edits.proofs.law_walks.HandedLemmas.{found_is_handed_over}
use Rattle.law_edits.proofs.law_walks.InUseLemmas.{found_is_in_use}
use Rattle.law_edits.proofs.law_walks.PeekLemmas.{reached_by}
use Rattle.law_edits.proofs.law_walks.StandingLemmas.{standing_places_are_called}
use Rattle.law_programs.specs.Finding.{ProgramsAlike, ProgramsAreFoundAlike, WorksAt, no_program, one_program, scene_here, space_here, texts_here}
use Rattle.law_programs.proofs.LookLemmas.{looked-is-found}

-- ---- the first bytes of what was found

-- a kernel tells a tracer the first bytes of a file that may be executed, and of nothing else
module _ (n : ℕ) where
  body-told : (o : Option Body) (b : Bool) → body_head b n o ≡ (if option_map_or is_file o false && b then Ok (take n (option_map_or (λ bytes. bytes) (option_and_then file_of o) [])) else Err EACCES)
  body-told None b = refl
  body-told (Some (Directory entries standing)) b = refl
  body-told (Some (RegularFile bytes)) true = refl
  body-told (Some (RegularFile bytes)) false = refl
  body-told (Some (SymbolicLink text)) b = refl
  body-told (Some (ProcessDirectory standing)) b = refl

  pub head-told : (t : Tree) (user : User) (x : Host) → head_at t user n x ≡ (if is_program t user x then Ok (take n (bytes_at t x)) else Err EACCES)
  head-told t user (Node i) = body-told (body t i) (may t user i Search) ∙ ap (λ b. if b && may t user i Search then Ok (take n (bytes_at t (Node i))) else Err EACCES) (sym (body_test is_file t i))
  head-told t user (Proc i at) = refl

-- a directory is no program
pub no-program : (t : Tree) (user : User) (x : Host) → is_directory_at t x ≡ true → is_program t user x ≡ false
no-program t user (Node i) dir = ap (λ b. b && may t user i Search) (body_test is_file t i ∙ by (body t i) (sym (body_test is_directory t i) ∙ dir))
  where
    by : (o : Option Body) → option_map_or is_directory o false ≡ true → option_map_or is_file o false ≡ false
    by None e = refl
    by (Some (Directory entries standing)) e = refl
    by (Some (RegularFile bytes)) e = absurd cc
    by (Some (SymbolicLink text)) e = refl
    by (Some (ProcessDirectory standing)) e = refl
no-program t user (Proc i at) dir = refl

module _ {X : Type 0} (table : List Row) (s : State ℕ X) (caller : ℕ) (tags : TagTable) (m : IsMatched (scene_here table s caller tags)) where
  abbrev scene : Scene
  scene = scene_here table s caller tags

  abbrev space : Namespace
  space = space_here table s caller tags

  abbrev texts : TextSurroundings
  texts = texts_here table s caller tags

  abbrev around : Surroundings
  around = around_of table caller s

  abbrev bindings : List MountText
  bindings = texts_of table

  head-reached : (h : Text) (x : Host) (n : ℕ) → reached_in space h ≡ Some x → texts.peeked.head (text_of h) n ≡ head_at s.tree s.user n x
  head-reached h x n way =
      let f = text_found (record { space = record space { table = plain }; leads = scene.host_leads }) LookLink (root_place plain) h x false (reached_by scene m h x way) (λ e. absurd cc) (λ e. absurd cc) in
      ap (read_of (head_at s.tree s.user n)) f.1 ∙ ap (read_at (head_at s.tree s.user n)) f.2

  -- ---- where a path begins

  module _ (base : Place ℕ) (working : Option (List ℕ)) (works : WorksAt table s caller tags base working) (path : List ℕ) where
    abbrev at : Text
    at = works.text

    read : names_of (text_of at) ≡ at
    read = names_written at (names_are_parts at (standing_places_are_called space scene.around.leads base at m.settled m.processes works.stands.stands).1)

    -- a tracer walks from the guest text at which the working directory stands
    pub begins : and_then (base_from working path) (canon_from texts path) ≡ canon_of texts Look at path
    begins = by (is_absolute path)
      where
        from : Text → Result Canon Errno
        from begin = canon_result texts.bindings Look (walk_on (looking_texts texts) Look most_links begin (components_of path) (has_slash path)).answer

        by : (b : Bool) → and_then (if b then Ok (slash ∷ []) else or_lost working) (λ base. from (if b then [] else names_of base)) ≡ from (if b then [] else at)
        by true = refl
        by false = ap (λ o. and_then (or_lost o) (λ base. from (names_of base))) works.written ∙ ap from read

    -- ---- what was found

    module _ (a : PlaceTarget) (b : Target Text Text) (place : (place_walk around Look base path).answer ≡ Ok a) (text : (text_walk texts Look at path).answer ≡ Ok b)
        (p : Place ℕ) (u : Text) (ea : a.found ≡ Some p) (eb : b.found ≡ Some u) (f : FoundStands space Look p u) where
      abbrev h : Text
      h = host_text space u

      on : StandsOn space p u
      on = record { stands = f.stands; firm = f.firm refl }

      abbrev program : Program
      program = record { host = text_of h; index = index_of bindings u; head = take 256 (take 256 (bytes_at s.tree p.host)) }

      kernel-by : program_at around base path ≡ (if is_program s.tree s.user p.host then Ok a else Err EACCES)
      kernel-by = ap (if_program s.tree s.user) place ∙ ap (λ o. if is_program_found s.tree s.user o then Ok a else Err EACCES) ea

      tracer-by : program_from texts working path ≡ (if is_program s.tree s.user p.host then Ok program else Err EACCES)
      tracer-by =
          ap (λ r. and_then r (λ canon. program_in texts.peeked canon.host canon.index)) (begins ∙ (answers_tell_targets texts Look at path b text).looked u refl eb)
          ∙ ap (λ r. and_then r (λ head. Ok (let x : Program = record { host = text_of h; index = index_of bindings u; head = take 256 head } in x))) (head-reached h p.host 256 f.stands.way ∙ head-told 256 s.tree s.user p.host)
          ∙ by (is_program s.tree s.user p.host)
        where
          by : (c : Bool) → and_then (if c then Ok (take 256 (bytes_at s.tree p.host)) else Err EACCES) (λ head. Ok (let x : Program = record { host = text_of h; index = index_of bindings u; head = take 256 head } in x)) ≡ (if c then Ok program else Err EACCES)
          by true = refl
          by false = refl

      -- an empty path leads to the working directory itself, which is no program
      some : is_program s.tree s.user p.host ≡ true → path ≢ []
      some runs none = absurd (differ (sym runs ∙ no-program s.tree s.user p.host (ap (λ (q : Place ℕ). is_directory_at s.tree q.host) itself ∙ works.directory)))
        where
          differ : true ≡ false → ⊥
          differ e = cc

          same_found : (one two : PlaceTarget) → ◌≡◌ {A = Result PlaceTarget Errno} (Ok one) (Ok two) → one.found ≡ two.found
          same_found one two e = let is : one ≡ two = cc in ap (λ (t : PlaceTarget). t.found) is

          same_place : (one two : Place ℕ) → Some one ≡ Some two → one ≡ two
          same_place one two e = cc

          itself : p ≡ base
          itself = same_place p base (sym ea ∙ same_found a _ (sym place ∙ ap (λ path. (place_walk around Look base path).answer) none ∙ ap (λ trail. trail.answer) (walk-none (looking around) Look most_links base false)))

      alike : (c : Bool) → is_program s.tree s.user p.host ≡ c → ProgramsAlike table s caller tags (if c then Ok a else Err EACCES) (if c then Ok program else Err EACCES)
      alike false is = no_program EACCES
      alike true is =
          let both : BothEnd scene Look base at path a b = record { matched = m; stands = works.stands; some = some is; place = place; text = text } in
          one_program (record {
            place = p;
            text = u;
            found = ea;
            stands = on;
            host = refl;
            index = refl;
            head = take-take 256 256 (bytes_at s.tree p.host) (omega arith) ∙ ap (head_of s.tree) (sym ea);
            runs = is;
            in_use = found_is_in_use scene Look base at path a b p u both refl ea eb;
            handed = λ other. found_is_handed_over scene Look base at path a b other p u both ea eb;
          })

      found-alike : ProgramsAlike table s caller tags (program_at around base path) (program_from texts working path)
      found-alike =
          subst (λ x. ProgramsAlike table s caller tags x (program_from texts working path)) (sym kernel-by)
          (subst (λ y. ProgramsAlike table s caller tags (if is_program s.tree s.user p.host then Ok a else Err EACCES) y) (sym tracer-by) (alike (is_program s.tree s.user p.host) refl))

    -- ---- by the walks

    by-targets : (a : PlaceTarget) (b : Target Text Text) → (place_walk around Look base path).answer ≡ Ok a → (text_walk texts Look at path).answer ≡ Ok b → TargetAlike (likeness space Look) a b
        → ProgramsAlike table s caller tags (program_at around base path) (program_from texts working path)
    by-targets a b place text like = by a.found refl (looked-is-found (looking around) base path a place)
      where
        by : (o : Option (Place ℕ)) → a.found ≡ o → IsSome a.found → ProgramsAlike table s caller tags (program_at around base path) (program_from texts working path)
        by None none some = absurd (differ (sym (ap is_some none) ∙ some))
          where
            differ : false ≡ true → ⊥
            differ e = cc
        by (Some p) ea some =
            let f = alike_some (FoundStands space Look) a.found b.found p like.found ea in
            found-alike a b place text p f.0 ea f.1 f.2

    by-answers : (x : Result PlaceTarget Errno) (y : Result (Target Text Text) Errno) → (place_walk around Look base path).answer ≡ x → (text_walk texts Look at path).answer ≡ y → Alike (likeness space Look) x y
        → ProgramsAlike table s caller tags (program_at around base path) (program_from texts working path)
    by-answers _ _ place text (errs e) =
        subst (λ x. ProgramsAlike table s caller tags x (program_from texts working path)) (sym (ap (if_program s.tree s.user) place))
        (subst (λ y. ProgramsAlike table s caller tags (Err e) y) (sym (ap (λ r. and_then r (λ canon. program_in texts.peeked canon.host canon.index)) (begins ∙ ap (canon_result texts.bindings Look) text))) (no_program e))
    by-answers _ _ place text (ends {a = a} {b = b} like) = by-targets a b place text like

    programs-alike : ProgramsAlike table s caller tags (program_at around base path) (program_from texts working path)
    programs-alike = by-answers (place_walk around Look base path).answer (text_walk texts Look at path).answer refl refl (walks_agree scene Look base at path m works.stands)

pub programs_are_found_alike : (X : Type 0) → ProgramsAreFoundAlike X
programs_are_found_alike X table s caller tags base working path m works = programs-alike table s caller tags m base working works path
