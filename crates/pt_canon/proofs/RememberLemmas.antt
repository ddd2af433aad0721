-- What walkers remember, and agreement.
use Rattle.std.proofs.Common.{◌≡◌, ◌≢◌, ◌∙◌, ℕ, Bool, true, false, ◌&&◌, ◌==◌, cond, List, [], ◌∷◌, Some, Result, Ok, Err, All, refl, ap, sym, subst, eq-eqb}
use Rattle.std.specs.Bool.{if◌then◌else◌}
use Rattle.std.specs.List.{list_all}
use Rattle.std.specs.Map.{lookup, remove_entry}
use Rattle.std.specs.Result.{IsErr, IsErrAnd}
use Rattle.std.proofs.lemmas.Bool.{eqb-true}
use Rattle.std.proofs.lemmas.List.Elements.{All-cons, All-head, All-nil, All-tail, All-take, All-weaker}
use Rattle.std.proofs.lemmas.List.Sums.{AllPass-from_list_all, list_all-from_AllPass}
use Rattle.pt_bind.specs.pr_base.Peeks.{Peeked, SteadyIsNoJump}
use Rattle.pt_bind.specs.pr_base.Texts.{Text}
use Rattle.pt_bind.specs.pr_base.WalkFrame.{LookedAt, Target, Trail}
use Rattle.pt_bind.specs.pr_base.declared.bind.Bound.{Bound}
use Rattle.pt_bind.specs.pr_base.declared.errno.Errno.{Errno}
use Rattle.pt_bind.specs.pr_base.declared.path.WalkMode.{WalkMode}
use Rattle.pt_bind.specs.Binding.{names_of, rows_of}
use Rattle.pt_bind.specs.Tags.{TagTable}
use Rattle.pt_canon.specs.Canon.{IsAnswer, canon_at, canon_result, ending_of, texts_by}
use Rattle.pt_canon.specs.LookedPaths.{TellsTheSame, are_all, paths_at}
use Rattle.pt_canon.specs.Remembering.{Agrees, AgreementLasts, IsSo, Key, NothingAgrees, PausedAgrees, Stands, TellsItSteady, Walking, WalksOn, after_walk, is_steady_key, key_answer, most_remembered, same_key, with_newest}
use Rattle.pt_canon.specs.Steadily.{behind_looks}
use Rattle.pt_canon.specs.Steps.{ended_by}
use Rattle.pt_canon.specs.TextWalk.{TextSurroundings, text_walk}
use Rattle.pt_canon.specs.declared.canon.Canon.{Canon}
use Rattle.pt_canon.specs.Walked.{answer_of}
use Rattle.pt_canon.specs.declared.canon.WalkErr.{WalkErr}
use Rattle.pt_canon.specs.declared.canon.WalkErr.TheVariants as fault
use Rattle.pt_canon.specs.declared.ending.Ended.{Ended}
use Rattle.pt_canon.specs.declared.walker.Walked.{Walked}
use Rattle.pt_canon.proofs.AgreeLemmas.{paths_same, walk_same}
use Rattle.pt_canon.proofs.AnswerLemmas.{All-removed}
use Rattle.pt_canon.proofs.KeyLemmas.{same_is}
use Rattle.pt_canon.proofs.SteadyLemmas.{and_second, looks_steady}

-- ---- one answer, over two kernels

module _ (bounds : List Bound) (one two : Peeked) (tags more : TagTable) (over : (path : List ℕ) → one.steady path ≡ true → TellsItSteady one two path) where
  abbrev home : TextSurroundings
  home = texts_by bounds one tags

  abbrev away : TextSurroundings
  away = texts_by bounds two more

  abbrev IsSteady : List ℕ → Type 0
  IsSteady path = one.steady path ≡ true

  abbrev IsSteadyThere : List ℕ → Type 0
  IsSteadyThere path = two.steady path ≡ true

  abbrev LooksSteadily : LookedAt Text → Type 0
  LooksSteadily l = list_all one.steady (paths_at home l) ≡ true

  look_told : (l : LookedAt Text) → LooksSteadily l → All (TellsTheSame one two) (paths_at home l)
  look_told l h = All-weaker IsSteady (TellsTheSame one two) (λ path steady. (over path steady).told) (paths_at home l) (AllPass-from_list_all one.steady (paths_at home l) h)

  look_steady : (l : LookedAt Text) → LooksSteadily l → list_all two.steady (paths_at away l) ≡ true
  look_steady l h =
      ap (list_all two.steady) (paths_same (rows_of bounds) one two tags more l (look_told l h))
      ∙ list_all-from_AllPass two.steady (paths_at home l) (All-weaker IsSteady IsSteadyThere (λ path steady. (over path steady).steady) (paths_at home l) (AllPass-from_list_all one.steady (paths_at home l) h))

  -- it stands with the other one too, whatever the tags
  pub so_over : (key : Key) (canon : Canon) → IsSo bounds one key canon tags → IsSo bounds two key canon more
  so_over key canon so =
      let base = names_of key.base in
      let looks = (text_walk home key.mode base key.path).looks in
      let all : All LooksSteadily looks = AllPass-from_list_all (λ l. list_all one.steady (paths_at home l)) looks so.steady in
      let walk = walk_same (rows_of bounds) one two tags more key.mode base key.path (All-weaker LooksSteadily (λ l. All (TellsTheSame one two) (paths_at home l)) look_told looks all) in
      record {
        answer = ap (λ (trail : Trail Text Text). canon_result (rows_of bounds) key.mode trail.answer) walk ∙ so.answer;
        steady = ap (are_all two.steady away) walk
            ∙ list_all-from_AllPass (λ l. list_all two.steady (paths_at away l)) looks (All-weaker LooksSteadily (λ l. list_all two.steady (paths_at away l) ≡ true) look_steady looks all);
      }

-- one kernel tells the same as itself of each steady host path, since no link of the process directory stands there
alike : (peeked : Peeked) → SteadyIsNoJump peeked → (path : List ℕ) → peeked.steady path ≡ true → TellsItSteady peeked peeked path
alike peeked no_jump path steady = record { told = record { told = refl; no_jump = no_jump path steady; link_text = refl }; steady = steady }

-- so what is so with some tags is with all
stands : (bounds : List Bound) (peeked : Peeked) (key : Key) (canon : Canon) (tags : TagTable) → SteadyIsNoJump peeked → IsSo bounds peeked key canon tags → Stands bounds peeked (key, canon)
stands bounds peeked key canon tags no_jump so = λ more. so_over bounds peeked peeked tags more (alike peeked no_jump) key canon so

-- ---- agreement

pub agreement_lasts : AgreementLasts
agreement_lasts w one two over agrees = record { each = λ none. All-weaker (Stands w.table one) (Stands w.table two) (λ e so more. so_over w.table one two more more over e.0 e.1 (so more)) w.remembered (agrees.each none) }

pub nothing_agrees : NothingAgrees
nothing_agrees w peeked nothing = record { each = λ none. subst (All (Stands w.table peeked)) (sym nothing) (All-nil (Stands w.table peeked)) }

pub paused_agrees : PausedAgrees
paused_agrees w peeked paused = record { each = λ none. absurd (paused none) }

pub walks_on_then : (peeked : Peeked) (x y z : Walking) → WalksOn peeked x y → WalksOn peeked y z → WalksOn peeked x z
walks_on_then peeked x y z first second = record { table = second.table ∙ first.table; pauses = second.pauses ∙ first.pauses; agrees = second.agrees }

pub walks_on_same : (peeked : Peeked) (x : Walking) → Agrees x peeked → WalksOn peeked x x
walks_on_same peeked x agrees = record { table = refl; pauses = refl; agrees = agrees }

-- ---- what is remembered

-- an answer that is found is that of the walk now
pub found_stands : (bounds : List Bound) (peeked : Peeked) (key : Key) (canon : Canon) (es : List (Key × Canon)) → All (Stands bounds peeked) es → lookup (same_key key) es ≡ Some canon → Stands bounds peeked (key, canon)
found_stands bounds peeked key canon [] all found = absurd cc
found_stands bounds peeked key canon (e ∷ es) all found = at (same_key key e.0) refl found (found_stands bounds peeked key canon es (All-tail (Stands bounds peeked) e es all))
  where
    at : (b : Bool) → same_key key e.0 ≡ b → cond b (Some e.1) (lookup (same_key key) es) ≡ Some canon → (lookup (same_key key) es ≡ Some canon → Stands bounds peeked (key, canon)) → Stands bounds peeked (key, canon)
    at true same some later =
        let value : e.1 ≡ canon = cc in
        let here : e ≡ (key, canon) = λ i. (sym (same_is key e.0 same) i, value i) in
        subst (Stands bounds peeked) here (All-head (Stands bounds peeked) e es all)
    at false other rest later = later rest

newest_stands : (bounds : List Bound) (peeked : Peeked) (key : Key) (canon : Canon) (es : List (Key × Canon)) → All (Stands bounds peeked) es → Stands bounds peeked (key, canon) → All (Stands bounds peeked) (with_newest key canon es)
newest_stands bounds peeked key canon es all own =
    let P : Key × Canon → Type 0 = Stands bounds peeked in
    let rest = remove_entry (same_key key) es in
    All-take P most_remembered ((key, canon) ∷ rest) (All-cons P (key, canon) rest own (All-removed (same_key key) P es all))

-- a walk leaves a walker that agrees
module _ (w : Walking) (peeked : Peeked) (tags : TagTable) (key : Key) (no_jump : SteadyIsNoJump peeked) (agrees : Agrees w peeked) where
  abbrev texts : TextSurroundings
  texts = texts_by w.table peeked tags

  abbrev noted : Canon → Bool → Walking
  noted canon b = if b then record { table = w.table; pauses = w.pauses; remembered = with_newest key canon w.remembered } else w

  noted_on : (canon : Canon) → key_answer texts key ≡ Ok canon → (b : Bool) → ((w.pauses == 0) && is_steady_key texts key) ≡ b → WalksOn peeked w (noted canon b)
  noted_on canon answer true all =
      let steady = and_second (w.pauses == 0) (is_steady_key texts key) all in
      let own = stands w.table peeked key canon tags no_jump (record { answer = answer; steady = steady }) in
      record { table = refl; pauses = refl; agrees = record { each = λ none. newest_stands w.table peeked key canon w.remembered (agrees.each none) own } }
  noted_on canon answer false other = walks_on_same peeked w agrees

  pub walked_on : (r : Result Canon WalkErr) → IsAnswer (key_answer texts key) r → WalksOn peeked w (after_walk w (is_steady_key texts key) key r)
  walked_on (Ok canon) answer = noted_on canon answer ((w.pauses == 0) && is_steady_key texts key) refl
  walked_on (Err e) answer = walks_on_same peeked w agrees

-- while a pause stands nothing is remembered
pub after_paused : (w : Walking) (steady : Bool) (key : Key) (r : Result Canon WalkErr) → w.pauses ≢ 0 → w ≡ after_walk w steady key r
after_paused w steady key (Err e) paused = refl
after_paused w steady key (Ok canon) paused = at (w.pauses == 0) refl
  where
    at : (b : Bool) → (w.pauses == 0) ≡ b → w ≡ (if b && steady then record { table = w.table; pauses = w.pauses; remembered = with_newest key canon w.remembered } else w)
    at true none = absurd (paused (eqb-true w.pauses 0 none))
    at false some = refl

-- and else a steady answer is
pub after_running : (w : Walking) (steady : Bool) (key : Key) (canon : Canon) → w.pauses ≡ 0
    → (if steady then record { table = w.table; pauses = w.pauses; remembered = with_newest key canon w.remembered } else w) ≡ after_walk w steady key (Ok canon)
after_running w steady key canon none =
    ap (λ b. if b && steady then record { table = w.table; pauses = w.pauses; remembered = with_newest key canon w.remembered } else w) (sym (eq-eqb w.pauses 0 none))

-- one that is recalled is the newest again
pub after_recalled : (w : Walking) (steady : Bool) (key : Key) (canon : Canon) → w.pauses ≡ 0 → steady ≡ true
    → record { table = w.table; pauses = w.pauses; remembered = with_newest key canon w.remembered } ≡ after_walk w steady key (Ok canon)
after_recalled w steady key canon none so =
    ap (λ b. if b then record { table = w.table; pauses = w.pauses; remembered = with_newest key canon w.remembered } else w) (sym so)
    ∙ after_running w steady key canon none

-- ---- what a walk tells

-- where it ends, as its answer
pub ended_answer : (texts : TextSurroundings) (mode : WalkMode) (steady : Bool) (answer : Result (Target Text Text) Errno) (end : Ended) → ended_by mode steady answer ≡ Ok end
    → (canon_result texts.bindings mode answer ≡ Ok (canon_at texts.bindings end.ending)) × (end.steady ≡ steady)
ended_answer texts mode steady (Ok target) end e =
    let is : end ≡ record { ending = ending_of mode target; steady = steady } = cc in
    (ap (λ (end : Ended). Ok (canon_at texts.bindings end.ending)) (sym is), ap (λ (end : Ended). end.steady) is)
ended_answer texts mode steady (Err x) end e = absurd cc

pub ended_error : (texts : TextSurroundings) (mode : WalkMode) (steady : Bool) (answer : Result (Target Text Text) Errno) (x : Errno) → ended_by mode steady answer ≡ Err x → canon_result texts.bindings mode answer ≡ Err x
ended_error texts mode steady (Ok target) x e = absurd cc
ended_error texts mode steady (Err y) x e = let same : y ≡ x = cc in ap Err same

-- an error as that of its answer
pub walked_error : (texts : TextSurroundings) (mode : WalkMode) (steady : Bool) (answer : Result (Target Text Text) Errno) (e : WalkErr) (r : Result Walked WalkErr)
    → IsAnswer (ended_by mode steady answer) (Err e) → IsErr r → IsErrAnd r (λ f. f ≡ e) → IsAnswer (canon_result texts.bindings mode answer) (answer_of r)
walked_error texts mode steady answer e (Ok walked) told err same = absurd cc
walked_error texts mode steady answer e (Err fault.NoMemory) told err same = tt
walked_error texts mode steady answer fault.NoMemory (Err (fault.Err f)) told err same = absurd cc
walked_error texts mode steady answer (fault.Err e) (Err (fault.Err f)) told err same = let one : f ≡ e = cc in ended_error texts mode steady answer e told ∙ ap Err (sym one)

-- and whether it is steady
pub walk_steady : (texts : TextSurroundings) (key : Key) (asks : Bool) → behind_looks texts asks (text_walk texts key.mode (names_of key.base) key.path).looks ≡ (asks && is_steady_key texts key)
walk_steady texts key asks = looks_steady texts asks (text_walk texts key.mode (names_of key.base) key.path).looks
