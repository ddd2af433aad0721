-- Execve(2) of a path that leads nowhere, or whose lists can't be read.
use Rattle.std.proofs.Common.{◌≡◌, ◌≢◌, ℕ, Bool, true, false, List, Option, Some, None, Result, Ok, Err, refl, sym, ap, subst, ◌∙◌, []}
use Rattle.std.specs.Bool.{if◌then◌else◌}
use Rattle.std.specs.Option.{option_map_or}
use Rattle.std.specs.Prelude.{IsSome, is_some}
use Rattle.kr_first.specs.pr_base.Alike.{Alike, TargetAlike, ends, errs}
use Rattle.kr_first.specs.pr_base.Texts.{Text}
use Rattle.kr_first.specs.pr_base.WalkFrame.{Target, here, most_links}
use Rattle.kr_first.specs.pr_base.declared.errno.Errno.{Errno}
use Rattle.kr_first.specs.pr_base.declared.errno.Errno.TheVariants.{EACCES, ENOENT}
use Rattle.kr_first.specs.pr_base.declared.path.WalkMode.TheVariants.{Look}
use Rattle.kr_first.proofs.pr_base.AlikeLemmas.{alike_some}
use Rattle.kr_first.proofs.pr_base.WalkLemmas.{walk-none}
use Rattle.kr_first.specs.rv_mem.Actions.{CarriedOut, Done, carried_out}
use Rattle.kr_first.specs.rv_mem.Memory.{Memory}
use Rattle.kr_first.specs.pt_bind.Tags.{TagTable}
use Rattle.law_edits.specs.pt_canon.Canon.{canon_result}
use Rattle.law_edits.specs.pt_canon.TextWalk.{TextSurroundings, text_walk}
use Rattle.law_edits.specs.pt_canon.declared.canon.Canon.{Canon}
use Rattle.law_edits.specs.pt_script.Programs.{program_from}
use Rattle.law_edits.specs.pt_script.declared.program.Program.{Program as TracedProgram}
use Rattle.kr_first.specs.kr_tree.declared.place.Place.{Place}
use Rattle.kr_first.specs.kr_view.Component.{Surroundings}
use Rattle.kr_first.specs.kr_view.View.{Row, plain}
use Rattle.kr_first.specs.kr_view.Walk.{PlaceTarget, looking, place_walk}
use Rattle.kr_first.specs.kr_exec.Finding.{if_program, is_program, is_program_found, program_at}
use Rattle.kr_first.specs.kr_exec.Lists.{Trying, and_then, lists_at}
use Rattle.kr_first.specs.kr_exec.declared.lists.Lists.{Lists}
use Rattle.kr_first.proofs.kr_exec.ListLemmas.{and_then_is, on_reply}
use Rattle.kr_first.specs.kr_execve.Execution.{Program, execution, execution_from, loaded, planned_from}
use Rattle.law_edits.specs.kr_model.Applied.{cwd_of}
use Rattle.law_edits.specs.kr_model.HostView.{host_around_of}
use Rattle.law_edits.specs.kr_model.ProcessDirectory.{around_of}
use Rattle.law_edits.specs.kr_model.State.{Image, State}
use Rattle.law_edits.specs.kr_model.Walks as results
use Rattle.law_edits.specs.law_walks.Handed.{LeadsToFound}
use Rattle.law_edits.specs.law_walks.Scene.{IsMatched, Scene}
use Rattle.law_edits.specs.law_walks.Standing.{FoundStands, likeness}
use Rattle.law_edits.proofs.law_walks.AgreeLemmas.{walks_agree}
use Rattle.law_edits.proofs.law_walks.CanonLemmas.{answers_tell_targets}
use Rattle.law_edits.proofs.law_walks.HandedLemmas.{found_is_handed_over}
use Rattle.law_programs.specs.Executing.{done_with_mounts, read_by_kernel}
use Rattle.law_programs.specs.Finding.{ProgramsAlike, WorksAt, no_program, one_program, scene_here, space_here, texts_here}
use Rattle.law_programs.specs.Refusing.{AreRefused, EmptyExecutionsAgree, IsBegun, IsLedTo, LedAlike, LostExecutionsAgree, MissingExecutionsAgree, PathsLeadAlike, UnreadExecutionsAgree, canon_along, no_lead, one_lead}
use Rattle.law_programs.proofs.FindLemmas.{begins, no-program, programs_are_found_alike}
use Rattle.law_programs.proofs.LookLemmas.{looked-is-found}
use Rattle.law_programs.proofs.ShownLemmas.{program-same}

-- ---- where a path leads

module _ {X : Type 0} (table : List Row) (s : State ℕ X) (caller : ℕ) (tags : TagTable) (m : IsMatched (scene_here table s caller tags)) (base : Place ℕ) (working : Option (List ℕ)) (works : WorksAt table s caller tags base working) (path : List ℕ) where
  abbrev scene : Scene
  scene = scene_here table s caller tags

  abbrev texts : TextSurroundings
  texts = texts_here table s caller tags

  abbrev around : Surroundings
  around = around_of table caller s

  abbrev Led : Result PlaceTarget Errno → Result Canon Errno → Type 0
  Led = LedAlike table s caller tags path base

  along : canon_along texts working path ≡ canon_result texts.bindings Look (text_walk texts Look works.text path).answer
  along = begins table s caller tags m base working works path

  led-to : (a : PlaceTarget) (b : Target Text Text) → (place_walk around Look base path).answer ≡ Ok a → (text_walk texts Look works.text path).answer ≡ Ok b → TargetAlike (likeness (space_here table s caller tags) Look) a b
      → Led (place_walk around Look base path).answer (canon_along texts working path)
  led-to a b place text like = by a.found refl (looked-is-found (looking around) base path a place)
    where
      by : (o : Option (Place ℕ)) → a.found ≡ o → IsSome a.found → Led (place_walk around Look base path).answer (canon_along texts working path)
      by None none some = absurd (differ (sym (ap is_some none) ∙ some))
        where
          differ : false ≡ true → ⊥
          differ e = cc
      by (Some p) ea some =
          let f = alike_some (FoundStands (space_here table s caller tags) Look) a.found b.found p like.found ea in
          subst (λ x. Led x (canon_along texts working path)) (sym place)
          (subst (λ y. Led (Ok a) y) (sym (begins table s caller tags m base working works path ∙ (answers_tell_targets texts Look works.text path b text).looked f.0 refl f.1))
          (one_lead (record {
            walked = λ some. record { start = works.text; target_text = b; both = record { matched = m; stands = works.stands; some = some; place = place; text = text }; found = f.1 };
            place = p;
            text = f.0;
            found = ea;
            host = refl;
            index = refl;
            handed = λ some other. found_is_handed_over scene Look base works.text path a b other p f.0 (record { matched = m; stands = works.stands; some = some; place = place; text = text }) ea f.1;
          })))

  led-by : (x : Result PlaceTarget Errno) (y : Result (Target Text Text) Errno) → (place_walk around Look base path).answer ≡ x → (text_walk texts Look works.text path).answer ≡ y → Alike (likeness (space_here table s caller tags) Look) x y
      → Led (place_walk around Look base path).answer (canon_along texts working path)
  led-by _ _ place text (errs e) =
      subst (λ x. Led x (canon_along texts working path)) (sym place) (subst (λ y. Led (Err e) y) (sym (along ∙ ap (canon_result texts.bindings Look) text)) (no_lead e))
  led-by _ _ place text (ends {a = a} {b = b} like) = led-to a b place text like

  led : Led (place_walk around Look base path).answer (canon_along texts working path)
  led = led-by (place_walk around Look base path).answer (text_walk texts Look works.text path).answer refl refl (walks_agree scene Look base works.text path m works.stands)

pub paths_lead_alike : (X : Type 0) → PathsLeadAlike X
paths_lead_alike X table s caller tags base working path m works = led table s caller tags m base working works path

-- ---- one kernel

module _ (table : List Row) (pid : ℕ) (s : State ℕ Image) (path : List ℕ) (args env : ℕ) (m : Memory) (base : Place ℕ) (at : cwd_of pid s ≡ Some base) where
  abbrev pub next : PlaceTarget → Lists → Trying Program
  next target lists = Done (results.and_then (planned_from table pid s path args env base target lists) (loaded s))

  pub begun : (r : Result PlaceTarget Errno) → program_at (around_of table pid s) base path ≡ r
      → (carried_out (execution table pid s path args env) m).reply ≡ (carried_out (and_then (Done r) (λ target. and_then (lists_at args env) (next target))) m).reply
  begun r is =
      ap (λ o. (carried_out (option_map_or (execution_from table pid s path args env) o (Done (Err ENOENT))) m).reply) at
      ∙ ap (λ r. (carried_out (and_then (Done r) (λ target. and_then (lists_at args env) (next target))) m).reply) is

  -- without a program the lists aren't read
  not-found : (e : Errno) → program_at (around_of table pid s) base path ≡ Err e → (carried_out (execution table pid s path args env) m).reply ≡ Err e
  not-found e is = begun (Err e) is

  not-read : (target : PlaceTarget) (e : Errno) → program_at (around_of table pid s) base path ≡ Ok target → (read_by_kernel args env m).reply ≡ Err e → (carried_out (execution table pid s path args env) m).reply ≡ Err e
  not-read target e is unread =
      begun (Ok target) is
      ∙ ap (λ (d : CarriedOut (Result Program Errno)). d.reply) (and_then_is (lists_at args env) (next target) m)
      ∙ ap (λ (r : Result Lists Errno). (on_reply (next target) r (carried_out (lists_at args env) m).memory).reply) unread

-- ---- both

module _ (table : List Row) (s w : State ℕ Image) (pid : ℕ) (tags : TagTable) (path : List ℕ) (args env : ℕ) (m : Memory) (working : Option (List ℕ)) (is : IsBegun table s w pid tags working) where
  abbrev mounted : Surroundings
  mounted = around_of table pid s

  abbrev on_host : Surroundings
  on_host = host_around_of s pid

  abbrev walked : Result PlaceTarget Errno
  walked = (place_walk mounted Look is.base path).answer

  both-led : LedAlike table s pid tags path is.base walked (canon_along (texts_here table s pid tags) working path)
  both-led = paths_lead_alike Image table s pid tags is.base working path is.matched is.works

  lost : (e : Errno) → canon_along (texts_here table s pid tags) working path ≡ Err e → (done_with_mounts table s w pid tags path args env m).reply ≡ Err e
  lost e none = not-found table pid s path args env m is.base is.at e (by walked (canon_along (texts_here table s pid tags) working path) none both-led)
    where
      by : (x : Result PlaceTarget Errno) (y : Result Canon Errno) → y ≡ Err e → LedAlike table s pid tags path is.base x y → if_program s.tree s.user x ≡ Err e
      by _ _ none (no_lead e) = let same : e ≡ _ = cc in ap Err same
      by _ _ none (one_lead l) = absurd cc

  module _ (canon : Canon) (some : path ≢ []) (target : PlaceTarget) (is-target : walked ≡ Ok target) (lead : IsLedTo table s pid tags path is.base target canon) where
    onward : LeadsToFound (scene_here table s pid tags) Look is.other target lead.place lead.text
    onward = lead.handed some is.other

    mine : program_at mounted is.base path ≡ (if is_program s.tree s.user lead.place.host then Ok target else Err EACCES)
    mine = ap (if_program s.tree s.user) is-target ∙ ap (λ o. if is_program_found s.tree s.user o then Ok target else Err EACCES) lead.found

    theirs : program_at (around_of plain pid w) is.other canon.host ≡ (if is_program s.tree s.user lead.place.host then Ok onward.target else Err EACCES)
    theirs =
        program-same s w pid is.shown is.other canon.host
        ∙ ap (program_at on_host is.other) lead.host
        ∙ ap (if_program s.tree s.user) onward.answer
        ∙ ap (λ o. if is_program_found s.tree s.user o then Ok onward.target else Err EACCES) onward.found

    -- no program
    module _ (none : is_program s.tree s.user lead.place.host ≡ false) where
      no-program-here : program_at mounted is.base path ≡ Err EACCES
      no-program-here = mine ∙ ap (λ b. if b then Ok target else Err EACCES) none

      no-program-there : program_at (around_of plain pid w) is.other canon.host ≡ Err EACCES
      no-program-there = theirs ∙ ap (λ b. if b then Ok onward.target else Err EACCES) none

    module _ (put : ℕ) (n : Memory) where
      abbrev other_reply : Result Program Errno
      other_reply = (carried_out (execution plain pid w canon.host put env) n).reply

      missing-led : (e : Errno) → program_at mounted is.base path ≡ Err e → ((done_with_mounts table s w pid tags path args env m).reply ≡ Err e) × (other_reply ≡ Err e)
      missing-led e missing = (not-found table pid s path args env m is.base is.at e missing, by (is_program s.tree s.user lead.place.host) refl)
        where
          ok-err : {a : PlaceTarget} → ◌≡◌ {A = Result PlaceTarget Errno} (Ok a) (Err e) → ⊥
          ok-err e = cc

          same-err : {a b : Errno} → ◌≡◌ {A = Result PlaceTarget Errno} (Err a) (Err b) → a ≡ b
          same-err e = cc

          by : (b : Bool) → is_program s.tree s.user lead.place.host ≡ b → other_reply ≡ Err e
          by true runs = absurd (ok-err (sym (mine ∙ ap (λ b. if b then Ok target else Err EACCES) runs) ∙ missing))
          by false none = not-found plain pid w canon.host put env n is.other is.also_at EACCES (no-program-there none) ∙ ap Err (same-err (sym (no-program-here none) ∙ missing))

      unread-led : (e : Errno) → (read_by_kernel args env m).reply ≡ Err e → (read_by_kernel put env n).reply ≡ Err e → AreRefused (done_with_mounts table s w pid tags path args env m).reply other_reply
      unread-led e unread also = by (is_program s.tree s.user lead.place.host) refl
        where
          by : (b : Bool) → is_program s.tree s.user lead.place.host ≡ b → AreRefused (done_with_mounts table s w pid tags path args env m).reply other_reply
          by true runs = (
            e,
            not-read table pid s path args env m is.base is.at target e (mine ∙ ap (λ b. if b then Ok target else Err EACCES) runs) unread,
            not-read plain pid w canon.host put env n is.other is.also_at onward.target e (theirs ∙ ap (λ b. if b then Ok onward.target else Err EACCES) runs) also,
          )
          by false none =
              (EACCES, not-found table pid s path args env m is.base is.at EACCES (no-program-here none), not-found plain pid w canon.host put env n is.other is.also_at EACCES (no-program-there none))

  -- by where the path leads
  module _ (canon : Canon) (leads : canon_along (texts_here table s pid tags) working path ≡ Ok canon) (Goal : Type 0) (goal : (target : PlaceTarget) → walked ≡ Ok target → IsLedTo table s pid tags path is.base target canon → Goal) where
    by-lead : Goal
    by-lead = by walked (canon_along (texts_here table s pid tags) working path) refl leads both-led
      where
        by : (x : Result PlaceTarget Errno) (y : Result Canon Errno) → walked ≡ x → y ≡ Ok canon → LedAlike table s pid tags path is.base x y → Goal
        by _ _ at leads (no_lead e) = absurd cc
        by _ _ at leads (one_lead {target} {canon = c} l) = let same : c ≡ canon = cc in goal target at (subst (IsLedTo table s pid tags path is.base target) same l)

  -- a program that a tracer doesn't find isn't there
  not-there : (e : Errno) → program_from (texts_here table s pid tags) working path ≡ Err e → program_at mounted is.base path ≡ Err e
  not-there e none = by (program_at mounted is.base path) (program_from (texts_here table s pid tags) working path) none (programs_are_found_alike Image table s pid tags is.base working path is.matched is.works)
    where
      by : (x : Result PlaceTarget Errno) (y : Result TracedProgram Errno) → y ≡ Err e → ProgramsAlike table s pid tags x y → x ≡ Err e
      by _ _ none (no_program e) = let same : e ≡ _ = cc in ap Err same
      by _ _ none (one_program p) = absurd cc

pub lost_executions_agree : LostExecutionsAgree
lost_executions_agree table s w pid tags path args env m working e is none = lost table s w pid tags path args env m working is e none

pub missing_executions_agree : MissingExecutionsAgree
missing_executions_agree table s w pid tags path args env m working canon e put n is some leads none =
    by-lead table s w pid tags path args env m working is canon leads _
    (λ target at lead. missing-led table s w pid tags path args env m working is canon some target at lead put n e (not-there table s w pid tags path args env m working is e none))

pub unread_executions_agree : UnreadExecutionsAgree
unread_executions_agree table s w pid tags path args env m working canon e put n is some leads unread also =
    by-lead table s w pid tags path args env m working is canon leads _ (λ target at lead. unread-led table s w pid tags path args env m working is canon some target at lead put n e unread also)

-- ---- an empty path

-- what it leads to is where it begins, which is no program
pub empty-program : (around : Surroundings) (base : Place ℕ) → is_program around.space.tree around.space.user base.host ≡ false → program_at around base [] ≡ Err EACCES
empty-program around base none =
    ap (λ trail. if_program around.space.tree around.space.user trail.answer) (walk-none (looking around) Look most_links base false)
    ∙ ap (λ b. if b then Ok (here (looking around) base false) else Err EACCES) none

pub empty_executions_agree : EmptyExecutionsAgree
empty_executions_agree table s w pid tags args env m working n is =
    let none = no-program s.tree s.user is.base.host is.works.directory in (
      not-found table pid s [] args env m is.base is.at EACCES (empty-program (around_of table pid s) is.base none),
      not-found plain pid w [] args env n is.other is.also_at EACCES (program-same s w pid is.shown is.other [] ∙ empty-program (host_around_of s pid) is.other (ap (is_program s.tree s.user) is.same ∙ none)),
    )
