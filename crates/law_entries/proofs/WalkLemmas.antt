-- Walks of a tracer that look up no name in the process directory come to the same in two states of one shape, for a process that is what it was.
use Rattle.std.proofs.Common.{◌≡◌, ◌≢◌, ℕ, Bool, true, false, List, [], ◌∷◌, Option, Some, None, Result, Ok, Err, ℤ, refl, sym, ap, ◌∙◌}
use Rattle.pt_tracer.specs.pr_base.MountText.{MountText}
use Rattle.pt_tracer.specs.pr_base.declared.errno.Errno.{Errno}
use Rattle.pt_tracer.specs.pr_base.declared.path.WalkMode.TheVariants.{LookLink}
use Rattle.pt_tracer.specs.pr_base.declared.peeks.PeekKind.{PeekKind}
use Rattle.pt_tracer.specs.pr_base.declared.peeks.PeekKind.TheVariants as peek
use Rattle.pt_tracer.specs.pt_bind.Binding.{names_of}
use Rattle.pt_tracer.specs.pt_bind.Tags.{TagTable}
use Rattle.pt_tracer.specs.pt_canon.TextWalk.{TextSurroundings}
use Rattle.pt_tracer.specs.pt_canon.declared.canon.Canon.{Canon}
use Rattle.pt_tracer.specs.pt_results.kr_calls.PathTable.{PathUse, path_at}
use Rattle.pt_tracer.specs.pt_results.kr_calls.declared.request.Request.{Request}
use Rattle.pt_tracer.specs.pt_results.kr_calls.declared.request.Request.TheVariants as call
use Rattle.pt_tracer.specs.pt_args.Bases.{base_of}
use Rattle.pt_tracer.specs.pt_args.Plans.{first_walked, plan_behind, plan_from, plan_of, plan_unmet, second_unmet, second_walked, unmet_behind_first, unmet_on_first, unmet_on_second}
use Rattle.pt_tracer.specs.pt_args.Purposes.{opens}
use Rattle.pt_tracer.specs.pt_args.Walks.{and_then, reached_at, unmet_along, unmet_by_base, unmet_from, walked, walked_along, walked_from, walked_unmet}
use Rattle.pt_tracer.specs.pt_args.declared.reached.Reached.{Reached}
use Rattle.pt_tracer.specs.pt_results.Answers.{kind_answer, link_answer, link_unmet, path_answer, read_answer, read_unmet, unmet_behind_walk, unmet_on_path, walked_answer}
use Rattle.pt_tracer.specs.pt_results.Numbers.{count_of}
use Rattle.pt_tracer.specs.Planning.{texts_at}
use Rattle.pt_tracer.proofs.law_steady.SteadyLemmas.{steady_peeks_last, steady_walks_last}
use Rattle.pt_tracer.proofs.law_steady.TextLemmas.{steady_keys_last}
use Rattle.kr_loose.specs.kr_model.State.{Image}
use Rattle.kr_loose.specs.kr_stops.Stopped.{Stopped}
use Rattle.law_entries.specs.Lasting.{SameTags, StaysAt}
use Rattle.law_entries.proofs.BeginLemmas.{base-same}

-- what was found here is found there, and the process directory is unmet there too
pub record ComesAgain {A : Type 0} (there here : A) (unmet : Bool) : Type 0 where
  pub same : there ≡ here
  pub unmet_there : unmet ≡ true

pub clashes : {A : Type 0} (b : Bool) → b ≡ false → b ≡ true → A
clashes b is other = absurd (let clash : false ≡ true = sym is ∙ other in cc)

-- ---- once a name in the process directory was looked up, it is met for good

module _ (texts : TextSurroundings) (pid : ℕ) where
  walked-met : (u : PathUse) → walked_unmet texts pid u false ≡ false
  walked-met u = by u.text
    where
      by_base : (r : Result (Option (List ℕ)) Errno) → unmet_by_base texts u r false ≡ false
      by_base (Ok None) = refl
      by_base (Ok (Some base)) = refl
      by_base (Err e) = refl

      by : (path : List ℕ) → unmet_along texts pid u path false ≡ false
      by [] = refl
      by (b ∷ path) = by_base (base_of texts pid u)

  second-met : (r : Request) → second_unmet texts pid r false ≡ false
  second-met r = by (path_at r 1)
    where
      by : (o : Option PathUse) → unmet_on_second texts pid o false ≡ false
      by None = refl
      by (Some u) = walked-met u

  first-met : (r : Request) (w : Result (Option Reached) Errno) → unmet_behind_first texts pid r w false ≡ false
  first-met r (Ok None) = refl
  first-met r (Ok (Some first)) = second-met r
  first-met r (Err e) = refl

  link-met : (w : Result (Option Reached) Errno) → unmet_behind_walk texts w false ≡ false
  link-met (Ok None) = refl
  link-met (Ok (Some reached)) = refl
  link-met (Err e) = refl

  pub plan-met : (r : Request) → plan_unmet texts pid r false ≡ false
  plan-met r = by (path_at r 0)
    where
      by : (o : Option PathUse) → unmet_on_first texts pid r o false ≡ false
      by None = refl
      by (Some u) = let w : Result (Option Reached) Errno = walked texts pid (opens r) u in ap (unmet_behind_first texts pid r w) (walked-met u) ∙ first-met r w

  -- so what is unmet behind a path was unmet before it
  first-unmet : (r : Request) (w : Result (Option Reached) Errno) (b : Bool) → unmet_behind_first texts pid r w b ≡ true → b ≡ true
  first-unmet r w true e = refl
  first-unmet r w false e = clashes (unmet_behind_first texts pid r w false) (first-met r w) e

  link-unmet : (w : Result (Option Reached) Errno) (b : Bool) → unmet_behind_walk texts w b ≡ true → b ≡ true
  link-unmet w true e = refl
  link-unmet w false e = clashes (unmet_behind_walk texts w false) (link-met w) e

-- ---- the same walks

module _ (exec : Bool) (bindings : List MountText) (tags more : TagTable) (pid : ℕ) (t u : Stopped) (at : StaysAt exec pid t u) (same : SameTags pid tags more) where
  abbrev one : TextSurroundings
  one = texts_at bindings tags t

  abbrev two : TextSurroundings
  two = texts_at bindings more u

  -- from a base
  from-again : (opening : Bool) (p : PathUse) (base : Option (List ℕ)) → unmet_from one p base true ≡ true → ComesAgain (walked_from two opening p base) (walked_from one opening p base) (unmet_from two p base true)
  from-again opening p None steady = record { same = refl; unmet_there = refl }
  from-again opening p (Some base) steady =
      let key = steady_keys_last ℕ ℕ Image Image bindings t.state u.state t.pid u.pid tags more p.mode (names_of base) p.text at.stays.shape steady in
      record {
        same = ap (λ (c : Result Canon Errno). and_then c (λ canon. Ok (Some (reached_at p opening canon)))) key.answer;
        unmet_there = key.steady;
      }

  based-again : (opening : Bool) (p : PathUse) (b : Result (Option (List ℕ)) Errno) → unmet_by_base one p b true ≡ true
      → ComesAgain (and_then b (walked_from two opening p)) (and_then b (walked_from one opening p)) (unmet_by_base two p b true)
  based-again opening p (Ok base) steady = from-again opening p base steady
  based-again opening p (Err e) steady = record { same = refl; unmet_there = refl }

  along-again : (opening : Bool) (p : PathUse) (path : List ℕ) → unmet_along one t.pid p path true ≡ true → ComesAgain (walked_along two u.pid opening p path) (walked_along one t.pid opening p path) (unmet_along two u.pid p path true)
  along-again opening p [] steady = record { same = refl; unmet_there = refl }
  along-again opening p (b ∷ path) steady =
      let base : base_of two u.pid p ≡ base_of one t.pid p = base-same exec bindings tags more pid t u at same p in
      let based = based-again opening p (base_of one t.pid p) steady in
      record {
        same = ap (λ (r : Result (Option (List ℕ)) Errno). and_then r (walked_from two opening p)) base ∙ based.same;
        unmet_there = ap (λ (r : Result (Option (List ℕ)) Errno). unmet_by_base two p r true) base ∙ based.unmet_there;
      }

  pub walked-again : (opening : Bool) (p : PathUse) → walked_unmet one t.pid p true ≡ true → ComesAgain (walked two u.pid opening p) (walked one t.pid opening p) (walked_unmet two u.pid p true)
  walked-again opening p steady = along-again opening p p.text steady

  -- ---- the paths of a call

  second-again : (r : Request) (first : Reached) (o : Option PathUse) → unmet_on_second one t.pid o true ≡ true → ComesAgain (second_walked two u.pid r first o) (second_walked one t.pid r first o) (unmet_on_second two u.pid o true)
  second-again r first None steady = record { same = refl; unmet_there = refl }
  second-again r first (Some v) steady =
      let again = walked-again (opens r) v steady in
      record {
        same = ap (λ (w : Result (Option Reached) Errno). and_then w (plan_behind bindings r first)) again.same;
        unmet_there = again.unmet_there;
      }

  behind-again : (r : Request) (w : Result (Option Reached) Errno) → unmet_behind_first one t.pid r w true ≡ true → ComesAgain (and_then w (plan_from two u.pid r)) (and_then w (plan_from one t.pid r)) (unmet_behind_first two u.pid r w true)
  behind-again r (Ok None) steady = record { same = refl; unmet_there = refl }
  behind-again r (Ok (Some first)) steady = second-again r first (path_at r 1) steady
  behind-again r (Err e) steady = record { same = refl; unmet_there = refl }

  -- the walk of a first path was steady
  pub first-steady : (r : Request) (p : PathUse) → unmet_on_first one t.pid r (Some p) true ≡ true → walked_unmet one t.pid p true ≡ true
  first-steady r p steady = first-unmet one t.pid r (walked one t.pid (opens r) p) (walked_unmet one t.pid p true) steady

  first-again : (r : Request) (o : Option PathUse) → unmet_on_first one t.pid r o true ≡ true → ComesAgain (first_walked two u.pid r o) (first_walked one t.pid r o) (unmet_on_first two u.pid r o true)
  first-again r None steady = record { same = refl; unmet_there = refl }
  first-again r (Some p) steady =
      let own = first-steady r p steady in
      let w : Result (Option Reached) Errno = walked one t.pid (opens r) p in
      let again = walked-again (opens r) p own in
      let rest = behind-again r w (sym (ap (unmet_behind_first one t.pid r w) own) ∙ steady) in
      record {
        same = ap (λ (w : Result (Option Reached) Errno). and_then w (plan_from two u.pid r)) again.same ∙ rest.same;
        unmet_there = (λ j. unmet_behind_first two u.pid r (again.same j) (again.unmet_there j)) ∙ rest.unmet_there;
      }

  -- the whole plan of the paths of a call
  pub plan-again : (r : Request) → plan_unmet (texts_at bindings tags t) t.pid r true ≡ true
      → ComesAgain (plan_of (texts_at bindings more u) u.pid r) (plan_of (texts_at bindings tags t) t.pid r) (plan_unmet (texts_at bindings more u) u.pid r true)
  plan-again r steady = first-again r (path_at r 0) steady

  -- ---- links of the process directory: one that is found by a steady walk is none

  kind-again : (canon : Canon) (room : _) (k : Result PeekKind Errno) → k ≢ Ok peek.Jump → kind_answer two canon room k ≡ kind_answer one canon room k
  kind-again canon room (Ok peek.Dir) none = refl
  kind-again canon room (Ok peek.File) none = refl
  kind-again canon room (Ok peek.Link) none = refl
  kind-again canon room (Ok peek.Jump) none = absurd (none refl)
  kind-again canon room (Err e) none = refl

  read-again : (canon : Canon) (room : _) → read_unmet one canon true ≡ true → ComesAgain (read_answer two canon room) (read_answer one canon room) (read_unmet two canon true)
  read-again canon room steady =
      let told = steady_peeks_last ℕ ℕ Image Image t.state u.state t.pid u.pid canon.host at.stays.shape steady in
      record {
        same = ap (kind_answer two canon room) told.kind ∙ kind-again canon room (one.peeked.kind canon.host) told.no_jump;
        unmet_there = (steady_walks_last ℕ ℕ Image Image t.state u.state t.pid u.pid LookLink canon.host at.stays.shape steady).steady;
      }

  answer-again : (room : _) (w : Result (Option Reached) Errno) → unmet_behind_walk one w true ≡ true → ComesAgain (walked_answer two room w) (walked_answer one room w) (unmet_behind_walk two w true)
  answer-again room (Ok (Some reached)) steady = read-again reached.canon room steady
  answer-again room (Ok None) steady = record { same = refl; unmet_there = refl }
  answer-again room (Err e) steady = record { same = refl; unmet_there = refl }

  path-again : (room : _) (o : Option PathUse) → unmet_on_path one t.pid o true ≡ true → ComesAgain (path_answer two u.pid room o) (path_answer one t.pid room o) (unmet_on_path two u.pid o true)
  path-again room None steady = record { same = refl; unmet_there = refl }
  path-again room (Some p) steady =
      let w : Result (Option Reached) Errno = walked one t.pid false p in
      let own : walked_unmet one t.pid p true ≡ true = link-unmet one t.pid w (walked_unmet one t.pid p true) steady in
      let again = walked-again false p own in
      let rest = answer-again room w (sym (ap (unmet_behind_walk one w) own) ∙ steady) in
      record {
        same = ap (walked_answer two room) again.same ∙ rest.same;
        unmet_there = (λ j. unmet_behind_walk two (again.same j) (again.unmet_there j)) ∙ rest.unmet_there;
      }

  pub link-again : (dirfd : ℤ) (path : List ℕ) (buf : ℕ) (size : ℤ) → link_unmet one t.pid (call.Readlinkat dirfd path buf size) true ≡ true
      → ComesAgain (link_answer two u.pid (call.Readlinkat dirfd path buf size)) (link_answer one t.pid (call.Readlinkat dirfd path buf size)) (link_unmet two u.pid (call.Readlinkat dirfd path buf size) true)
  link-again dirfd path buf size steady = path-again (record { buf = buf; count = count_of size }) (path_at (call.Readlinkat dirfd path buf size) 0) steady
