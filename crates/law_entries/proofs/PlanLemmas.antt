-- Plans of calls other than execve(2) are the same in two states in which the caller is what it was, where no name in the process directory is looked up.
use Rattle.std.proofs.Common.{◌≡◌, ℕ, ◌-◌, Bool, true, false, not, ◌&&◌, List, Option, Some, None, ℤ, get_or, refl, sym, ap, ◌∙◌}
use Rattle.std.specs.Prelude.{nat_lt}
use Rattle.std.specs.Option.{unwrap_or}
use Rattle.pt_tracer.specs.pr_base.MountText.{MountText}
use Rattle.pt_tracer.specs.rv_mem.Pages.{allows_all}
use Rattle.pt_tracer.specs.rv_mem.declared.rights.Use.TheVariants.{Read, Write}
use Rattle.pt_tracer.specs.pt_bind.Tags.{TagTable}
use Rattle.pt_tracer.specs.pt_canon.TextWalk.{TextSurroundings}
use Rattle.pt_tracer.specs.pt_results.kr_calls.PathTable.{PathUse, path_at}
use Rattle.pt_tracer.specs.pt_results.kr_calls.declared.request.Request.{Request}
use Rattle.pt_tracer.specs.pt_results.kr_calls.declared.request.Request.TheVariants as call
use Rattle.pt_tracer.specs.pt_args.Edits.{edit_by}
use Rattle.pt_tracer.specs.pt_args.Plans.{plan_unmet, unmet_on_first}
use Rattle.pt_tracer.specs.pt_args.Shelving.{shelf_size}
use Rattle.pt_tracer.specs.pt_args.declared.edit.Edit.{Edit}
use Rattle.pt_tracer.specs.pt_results.Answers.{directory_answer, link_answer, link_unmet}
use Rattle.pt_tracer.specs.Planning.{has_shelf, led_along, led_by, led_of, nowhere, plan_for, plan_for_unmet, rewritten, stack_at, texts_at, unmet_unless}
use Rattle.pt_tracer.specs.declared.plan.Plan.{Plan}
use Rattle.kr_loose.specs.kr_model.State.{Image}
use Rattle.kr_loose.specs.kr_stops.Stopped.{Stopped}
use Rattle.law_entries.specs.Lasting.{PlansLast, SameTags, StaysAt}
use Rattle.law_entries.proofs.BeginLemmas.{working-same}
use Rattle.law_entries.proofs.StayLemmas.{image-same}
use Rattle.law_entries.proofs.WalkLemmas.{ComesAgain, clashes, first-steady, link-again, plan-again, plan-met, walked-again}

-- whether there is a shelf, by what a process computes on
abbrev shelf_by : Image → Bool
shelf_by image =
    not (nat_lt (get_or image.regs.x 2 0) shelf_size)
    && allows_all image.memory.pages (get_or image.regs.x 2 0 - shelf_size) shelf_size Read
    && allows_all image.memory.pages (get_or image.regs.x 2 0 - shelf_size) shelf_size Write

-- a plan that leads nowhere
abbrev plainly : Edit → Plan
plainly edit = record { edit = edit; led = nowhere }

module _ (exec : Bool) (bindings : List MountText) (tags more : TagTable) (pid : ℕ) (t u : Stopped) (at : StaysAt exec pid t u) (same : SameTags pid tags more) where
  abbrev one : TextSurroundings
  one = texts_at bindings tags t

  abbrev two : TextSurroundings
  two = texts_at bindings more u

  pub stack-same : stack_at u ≡ stack_at t
  stack-same = ap (λ (image : Image). get_or image.regs.x 2 0) (image-same exec pid t u at)

  pub shelf-same : has_shelf u ≡ has_shelf t
  shelf-same = ap shelf_by (image-same exec pid t u at)

  -- ---- paths

  pub rewritten-again : (r : Request) → plan_unmet (texts_at bindings tags t) t.pid r true ≡ true → rewritten (texts_at bindings more u) u r ≡ rewritten (texts_at bindings tags t) t r
  rewritten-again r steady = let again = plan-again exec bindings tags more pid t u at same r steady in λ j. edit_by (stack-same j) (shelf-same j) (again.same j)

  along-again : (r : Request) (opening : Bool) (o : Option PathUse) → unmet_on_first one t.pid r o true ≡ true → led_along two u.pid opening o ≡ led_along one t.pid opening o
  along-again r opening None steady = refl
  along-again r opening (Some p) steady = ap led_by (walked-again exec bindings tags more pid t u at same opening p (first-steady exec bindings tags more pid t u at same r p steady)).same

  pub led-again : (r : Request) → plan_unmet (texts_at bindings tags t) t.pid r true ≡ true → led_of (texts_at bindings more u) u.pid r ≡ led_of (texts_at bindings tags t) t.pid r
  led-again (call.Openat dirfd path flags permissions) steady = along-again (call.Openat dirfd path flags permissions) true (path_at (call.Openat dirfd path flags permissions) 0) steady
  led-again (call.Chdir path) steady = along-again (call.Chdir path) false (path_at (call.Chdir path) 0) steady
  led-again (call.Chroot path) steady = along-again (call.Chroot path) false (path_at (call.Chroot path) 0) steady
  led-again (call.Execve path args env) steady = along-again (call.Execve path args env) false (path_at (call.Execve path args env) 0) steady
  led-again _ steady = refl

  -- ---- links of the process directory

  -- what was unmet behind a look at a link was unmet before it
  link-before : (r : Request) (o : Option Edit) (b : Bool) → unmet_unless one t o r b ≡ true → b ≡ true
  link-before r o true e = refl
  link-before r (Some edit) false e = e
  link-before r None false e = clashes (plan_unmet one t.pid r false) (plan-met one t.pid r) e

  module _ (dirfd : ℤ) (path : List ℕ) (buf : ℕ) (size : ℤ) where
    abbrev reading : Request
    reading = call.Readlinkat dirfd path buf size

    link-plan : unmet_unless one t (link_answer one t.pid reading) reading (link_unmet one t.pid reading true) ≡ true
        → ComesAgain (plan_for two u reading) (plan_for one t reading) (unmet_unless two u (link_answer two u.pid reading) reading (link_unmet two u.pid reading true))
    link-plan steady =
        let before : link_unmet one t.pid reading true ≡ true = link-before reading (link_answer one t.pid reading) (link_unmet one t.pid reading true) steady in
        let again = link-again exec bindings tags more pid t u at same dirfd path buf size before in
        by (link_answer one t.pid reading) refl again.same again.unmet_there (sym (ap (unmet_unless one t (link_answer one t.pid reading) reading) before) ∙ steady)
      where
        by : (o : Option Edit) → link_answer one t.pid reading ≡ o → link_answer two u.pid reading ≡ link_answer one t.pid reading → link_unmet two u.pid reading true ≡ true → unmet_unless one t (link_answer one t.pid reading) reading true ≡ true
            → ComesAgain (plan_for two u reading) (plan_for one t reading) (unmet_unless two u (link_answer two u.pid reading) reading (link_unmet two u.pid reading true))
        by (Some edit) is alike unmet steady = record {
          same = ap (λ (o : Option Edit). plainly (unwrap_or o (rewritten two u reading))) (alike ∙ is) ∙ sym (ap (λ (o : Option Edit). plainly (unwrap_or o (rewritten one t reading))) is);
          unmet_there = (λ j. unmet_unless two u ((alike ∙ is) j) reading (unmet j));
        }
        by None is alike unmet steady =
            let rest : plan_unmet one t.pid reading true ≡ true = sym (ap (λ (o : Option Edit). unmet_unless one t o reading true) is) ∙ steady in
            record {
              same =
                  ap (λ (o : Option Edit). plainly (unwrap_or o (rewritten two u reading))) (alike ∙ is) ∙ ap plainly (rewritten-again reading rest)
                  ∙ sym (ap (λ (o : Option Edit). plainly (unwrap_or o (rewritten one t reading))) is);
              unmet_there = (λ j. unmet_unless two u ((alike ∙ is) j) reading (unmet j)) ∙ (plan-again exec bindings tags more pid t u at same reading rest).unmet_there;
            }

  -- ---- every call but execve(2)

  plan-for-again : (r : Request) → plan_for_unmet one t r true ≡ true → ComesAgain (plan_for two u r) (plan_for one t r) (plan_for_unmet two u r true)
  plan-for-again (call.Getcwd buf size) steady = record {
    same = ap (λ (text : Option (List ℕ)). plainly (directory_answer text size buf)) (working-same exec bindings tags more pid t u at same);
    unmet_there = refl;
  }
  plan-for-again (call.Readlinkat dirfd path buf size) steady = link-plan dirfd path buf size steady
  plan-for-again r steady = record {
    same = λ j. record { edit = rewritten-again r steady j; led = led-again r steady j };
    unmet_there = (plan-again exec bindings tags more pid t u at same r steady).unmet_there;
  }

pub plans-last : PlansLast
plans-last exec bindings tags more pid t u (call.Execve path args env) kind at same steady = absurd cc
plans-last exec bindings tags more pid t u r kind at same steady =
    let again = plan-for-again exec bindings tags more pid t u at same r steady in
    record { plan = again.same; stopped = at; unmet = again.unmet_there }
