-- The first working directory stands at the guest text that a tracer's walk gives.
use Rattle.std.proofs.Common.{◌≡◌, ◌≢◌, ℕ, Bool, true, false, List, [], Option, Some, None, Result, Ok, Err, refl, sym, ap, subst, ◌∙◌}
use Rattle.std.specs.Prelude.{if◌then◌else◌}
use Rattle.std.specs.Option.{option_and_then, unwrap_or}
use Rattle.pr_start.specs.pr_base.Alike.{Alike, OptionAlike, both, ends, errs, neither}
use Rattle.pr_start.specs.pr_base.Paths.{Dot, dot, text_of}
use Rattle.pr_start.specs.pr_base.Texts.{Text}
use Rattle.pr_start.specs.pr_base.WalkFrame.{Fails, Target, target_at}
use Rattle.pr_start.specs.pr_base.WalkLaws.{last_trail}
use Rattle.pr_start.specs.pr_base.declared.errno.Errno.{Errno}
use Rattle.pr_start.specs.pr_base.declared.errno.Errno.TheVariants.{EACCES, ENOTDIR}
use Rattle.pr_start.specs.pr_base.declared.path.WalkMode.TheVariants.{Look}
use Rattle.pr_start.proofs.pr_base.WalkLemmas.{walks_go_by_components}
use Rattle.pr_start.specs.pt_bind.Binding.{names_of}
use Rattle.pr_start.specs.pt_bind.Tags.{TagTable}
use Rattle.pr_start.specs.pt_canon.Canon.{canon_result}
use Rattle.pr_start.specs.pt_canon.TextWalk.{TextSurroundings, text_walk}
use Rattle.law_programs.specs.pt_args.Walks.{and_then}
use Rattle.pr_start.specs.pt_script.Programs.{canon_from}
use Rattle.pr_start.specs.kr_inode.declared.user.User.{User}
use Rattle.pr_start.specs.kr_tree.Tree.{Tree}
use Rattle.pr_start.specs.kr_tree.declared.place.Place.{Place}
use Rattle.pr_start.specs.kr_view.Component.{Namespace, Surroundings, is_directory_at, may_search, shows_directory}
use Rattle.pr_start.specs.kr_view.View.{Row, root_place}
use Rattle.pr_start.specs.kr_view.Walk.{PlaceTarget, looking, place_walk}
use Rattle.law_programs.specs.kr_first.Starting.{around, directory_found, if_directory, is_walked}
use Rattle.pr_start.specs.Directory.{if_searchable, or_root, working_directory}
use Rattle.pr_start.specs.pt_first.GuestStart as guest
use Rattle.pr_start.specs.pt_first.GuestStart.{root_text, text_or_root}
use Rattle.pr_start.specs.pt_first.Laws.{first_texts}
use Rattle.law_turns.specs.law_walks.Settled.{IsSettled}
use Rattle.law_turns.specs.law_walks.Standing.{FoundStands, StandsOn, likeness}
use Rattle.law_turns.proofs.law_walks.StandingLemmas.{roots_stand}
use Rattle.law_turns.proofs.law_walks.TableLemmas.{root_directory}
use Rattle.law_starts.specs.Spaces.{first_space}
use Rattle.law_starts.specs.Working.{StandsAt, WorkingDirectoriesAgree}
use Rattle.law_starts.proofs.SceneLemmas.{look-finds, spelled, walk-alike}

module _ (table : List Row) (tree : Tree) (user : User) (tags : TagTable) (set : IsSettled (first_space table tree user)) where
  abbrev space : Namespace
  space = first_space table tree user

  abbrev here : Surroundings
  here = around table tree user

  abbrev texts : TextSurroundings
  texts = first_texts table tree user tags

  abbrev Agrees : Place ℕ → List ℕ → Type 0
  Agrees p bytes = StandsAt table tree user p bytes

  root-on : StandsOn space (root_place table) []
  root-on = roots_stand space set

  at-root : Agrees (root_place table) root_text
  at-root = record { text = []; stands = root-on; directory = root_directory space set; written = refl }

  -- ---- a directory, looked up in itself

  module _ (p : Place ℕ) (u : Text) (on : StandsOn space p u) where
    -- what the walk comes to, by the directory and the right to search it
    abbrev itself : Bool → Bool → Result PlaceTarget Errno
    itself a b = if a then (if b then Ok (target_at p Dot false (Some p)) else Err EACCES) else Err ENOTDIR

    itself-is : (place_walk here Look p dot).answer ≡ itself (is_directory_at tree p.host) (may_search tree user p.host)
    itself-is = ap (λ trail. trail.answer) ((walks_go_by_components (Place ℕ) (Place ℕ)).one (looking here) Look 40 p Dot false) ∙ by (is_directory_at tree p.host) (may_search tree user p.host)
      where
        by : (a b : Bool) → (last_trail (looking here) Look 40 p Dot false (if a then (if b then shows_directory p else Fails EACCES) else Fails ENOTDIR)).answer ≡ itself a b
        by true true = refl
        by true false = refl
        by false b = refl

    -- what the tracer's walk answers, where that of the mounts comes to this
    answered : (x : Result PlaceTarget Errno) (y : Result (Target Text Text) Errno) → Alike (likeness space Look) x y → (a b : Bool) → x ≡ itself a b → is_directory_at tree p.host ≡ a
        → Agrees (or_root table tree user [] (if a then (if b then Some p else None) else None)).place (text_or_root (canon_result texts.bindings Look y))
    answered _ _ (errs e) true true is dir = absurd cc
    answered _ _ (errs e) true false is dir = at-root
    answered _ _ (errs e) false b is dir = at-root
    answered _ _ (ends k) true false is dir = absurd cc
    answered _ _ (ends k) false b is dir = absurd cc
    answered _ _ (ends {a = c} {b = d} k) true true is dir =
        let same : c ≡ target_at p Dot false (Some p) = cc in
        found c.found d.found k.found (ap (λ (t : PlaceTarget). t.found) same)
      where
        found : (f : Option (Place ℕ)) (g : Option Text) → OptionAlike (FoundStands space Look) f g → f ≡ Some p → Agrees p (text_of (unwrap_or g d.dir))
        found _ _ neither e = absurd cc
        found _ _ (both {a = q} {b = v} r) e =
            let is_p : q ≡ p = cc in
            record { text = v; stands = subst (λ q. StandsOn space q v) is_p (record { stands = r.stands; firm = r.firm refl }); directory = dir; written = refl }

    searched : Agrees (or_root table tree user [] (if is_directory_at tree p.host then (if may_search tree user p.host then Some p else None) else None)).place (text_or_root (canon_from texts dot (text_of u)))
    searched =
        answered (place_walk here Look p dot).answer (text_walk texts Look (names_of (text_of u)) dot).answer
        (subst (λ t. Alike (likeness space Look) (place_walk here Look p dot).answer (text_walk texts Look t dot).answer) (sym (spelled table tree user tags set p u on)) (walk-alike table tree user tags set p u dot on))
        (is_directory_at tree p.host) (may_search tree user p.host) itself-is refl

  -- ---- the walk to it

  abbrev chosen : Option (Place ℕ) → Place ℕ
  chosen o = (or_root table tree user [] o).place

  -- the tests of a directory, one behind the other
  tested : (p : Place ℕ) (a b : Bool) → option_and_then (λ (q : Place ℕ). if b then Some q else None) (if a then Some p else None) ≡ (if a then (if b then Some p else None) else None)
  tested p true b = refl
  tested p false b = refl

  found : (f : Option (Place ℕ)) (g : Option Text) (other : Text) → OptionAlike (FoundStands space Look) f g → f ≢ None
      → Agrees (chosen (option_and_then (if_searchable table tree user) (option_and_then (if_directory tree) f))) (text_or_root (canon_from texts dot (text_of (unwrap_or g other))))
  found _ _ other neither some = absurd (some refl)
  found _ _ other (both {a = p} {b = u} r) some =
      subst (λ o. Agrees (chosen o) (text_or_root (canon_from texts dot (text_of u)))) (sym (tests (is_directory_at tree p.host) refl))
      (searched p u (record { stands = r.stands; firm = r.firm refl }))
    where
      tests : (a : Bool) → is_directory_at tree p.host ≡ a → option_and_then (if_searchable table tree user) (if a then Some p else None) ≡ (if a then (if may_search tree user p.host then Some p else None) else None)
      tests true e = refl
      tests false e = refl

  walked : (x : Result PlaceTarget Errno) (y : Result (Target Text Text) Errno) → Alike (likeness space Look) x y → ((t : PlaceTarget) → x ≡ Ok t → t.found ≢ None)
      → Agrees (chosen (option_and_then (if_searchable table tree user) (directory_found tree x))) (text_or_root (and_then (canon_result texts.bindings Look y) (λ canon. canon_from texts dot canon.guest)))
  walked _ _ (errs e) finds = at-root
  walked _ _ (ends {a = a} {b = b} k) finds = found a.found b.found b.dir k.found (finds a refl)

  pub agrees : (path : List ℕ) → Agrees (working_directory table tree user path).place (guest.working_directory texts path)
  agrees path = by (is_walked path)
    where
      start : names_of root_text ≡ []
      start = spelled table tree user tags set (root_place table) [] root-on

      by : (b : Bool)
          → Agrees (or_root table tree user path (if b then option_and_then (if_searchable table tree user) (directory_found tree (place_walk here Look (root_place table) path).answer) else None)).place
          (if b then text_or_root (and_then (canon_from texts path root_text) (λ canon. canon_from texts dot canon.guest)) else root_text)
      by true =
          placed
          (walked (place_walk here Look (root_place table) path).answer (text_walk texts Look (names_of root_text) path).answer
          (subst (λ t. Alike (likeness space Look) (place_walk here Look (root_place table) path).answer (text_walk texts Look t path).answer) (sym start) (walk-alike table tree user tags set (root_place table) [] path root-on))
          (λ t is. look-finds (looking here) (root_place table) path t is))
        where
          -- the path isn't asked for where the place is
          same : (o : Option (Place ℕ)) → (or_root table tree user [] o).place ≡ (or_root table tree user path o).place
          same None = refl
          same (Some p) = refl

          placed : {bytes : List ℕ} → Agrees (chosen (option_and_then (if_searchable table tree user) (directory_found tree (place_walk here Look (root_place table) path).answer))) bytes
              → Agrees (or_root table tree user path (option_and_then (if_searchable table tree user) (directory_found tree (place_walk here Look (root_place table) path).answer))).place bytes
          placed {bytes} a = subst (λ p. Agrees p bytes) (same (option_and_then (if_searchable table tree user) (directory_found tree (place_walk here Look (root_place table) path).answer))) a
      by false = at-root

pub working-directories-agree : WorkingDirectoriesAgree
working-directories-agree table tree user tags path set = agrees table tree user tags set path
