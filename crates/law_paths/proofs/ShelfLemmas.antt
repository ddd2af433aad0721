-- The shelf of a calm call along a path: the tracer may use it, and on the machine with mounts it is marked.
use Rattle.std.proofs.Common.{◌≡◌, ◌≤◌, ℕ, true, false, cond, length, Option, Some, None, sym, ap, subst, ◌∙◌, arith}
use Rattle.std.specs.Prelude.{◌||◌, nat_lt}
use Rattle.std.proofs.lemmas.Bool.Decides.{nat_tests}
use Rattle.law_plans.specs.pr_base.Paths.{is_absolute}
use Rattle.law_plans.specs.pr_base.declared.errno.Errno.TheVariants.{ENAMETOOLONG}
use Rattle.law_plans.specs.rv_mem.Actions.{AreEqualUnmarked}
use Rattle.law_plans.specs.rv_mem.declared.regs.Regs.{Regs}
use Rattle.law_stops.specs.pt_args.Edits.{shelve}
use Rattle.law_stops.specs.pt_args.declared.edit.Edit.TheVariants.{Cancel}
use Rattle.law_stops.specs.kr_calls.Arguments.{number}
use Rattle.law_stops.specs.kr_calls.PathTable.{PathUse, path_at}
use Rattle.law_plans.specs.kr_calm.Shelf.{has_path, is_usable, stack_pointer}
use Rattle.law_plans.specs.kr_model.State.{Image, Process}
use Rattle.law_stops.specs.kr_turns.Breaking.{plain_rule}
use Rattle.law_stops.specs.kr_stops.Stopped.{Stopped, image_at, nothing_handed}
use Rattle.law_stops.proofs.kr_stops.EditLemmas.{there as is_there}
use Rattle.law_plans.specs.pt_faker.Stopping.{memory_at}
use Rattle.law_plans.specs.pt_tracer.Planning.{has_shelf, stack_at}
use Rattle.law_plans.specs.OnePath.{IsNewText}
use Rattle.law_plans.specs.law_edits.Requests.{AreOfPaths, NewText}
use Rattle.law_plans.specs.law_edits.Shelves.{CanBePath, CanSecondBePath, HasMarkedShelf, bottom_of, swap_edit}
use Rattle.law_plans.specs.law_edits.Stops.{CanBeSwapped}
use Rattle.law_plans.specs.law_edits.Swapped.{AreMarkedFrom, IsDecodedCalmly}
use Rattle.law_plans.proofs.law_edits.MarkLemmas.{shelves_are_marked}
use Rattle.law_plans.proofs.law_edits.NumberLemmas.{paths_have_numbers}
use Rattle.law_plans.proofs.law_edits.CallShelfLemmas.{calm_calls_have_shelves, shelves_are_seen}
use Rattle.law_stops.specs.Scene.{Scene, caller_here, caller_there}
use Rattle.law_stops.proofs.CallLemmas as before
use Rattle.law_stops.proofs.CallLemmas.{own_image}
use Rattle.law_paths.proofs.HereLemmas as here
use Rattle.law_paths.proofs.HereLemmas.{PathCall}

-- ---- texts that are put on it

pub can_be_path : (n : NewText) → IsNewText n.text → length n.text ≤ 4095 → CanBePath n
can_be_path n is short = record {
  path = record { short = omega (arith, short); no_zero = is.no_zero };
  some = λ none. absurd (let clash : false ≡ true = sym (ap is_absolute none) ∙ is.absolute in cc);
}

not_long : (n : ℕ) → n ≤ 4095 → nat_lt 4095 n ≡ false
not_long n short = grind (arith, nat_tests)

-- short texts are put there
pub one_shelved : (sp : ℕ) (first : NewText) → length first.text ≤ 4095 → shelve sp true (record { register = first.register; text = first.text }) None ≡ swap_edit sp first None
one_shelved sp first short =
    ap (λ b. cond (b || false) (Cancel ENAMETOOLONG) (swap_edit sp first None)) (not_long (length first.text) short)

pub both_shelved : (sp : ℕ) (first second : NewText) → length first.text ≤ 4095 → length second.text ≤ 4095
    → shelve sp true (record { register = first.register; text = first.text }) (Some (record { register = second.register; text = second.text })) ≡ swap_edit sp first (Some second)
both_shelved sp first second short other =
    ap (λ b. cond (b || (nat_lt 4095 (length second.text) || false)) (Cancel ENAMETOOLONG) (swap_edit sp first (Some second))) (not_long (length first.text) short)
    ∙ ap (λ b. cond (b || false) (Cancel ENAMETOOLONG) (swap_edit sp first (Some second))) (not_long (length second.text) other)

module _ {S : Type 0} {scene : Scene S} (path_call : PathCall scene) (k : ℕ) (u : PathUse) (path : path_at path_call.request k ≡ Some u) where
  open scene use {table, pid, mounted as m, traced as n}
  open path_call use {callers, request as r, calm}
  open path_call.callers use {comes as c, caller as p, also_caller as q, lives, also_lives as also}

  abbrev p1 : Process ℕ Image
  p1 = before.p1 callers

  abbrev stop : Stopped
  stop = before.stop callers

  abbrev then_stop : Stopped
  then_stop = before.then_stop callers

  numbered : has_path (number p.image.regs) ≡ true
  numbered = paths_have_numbers p1.image.regs p1.image.memory r k u (here.reads_by path_call) path

  usable : is_usable (stack_pointer p.image.regs) p.image.memory.pages ≡ true
  usable =
      calm_calls_have_shelves table pid m.state p lives numbered
      (subst (λ t. plain_rule 1 table pid (before.lacks callers) t ≡ None) (sym (before.shelf callers)) (before.calm_call callers calm))

  image_then : image_at then_stop ≡ (before.q2 callers).image
  image_then = own_image pid (before.w2 callers) (before.q2 callers) (before.can_then callers).lives

  regs_then : (image_at then_stop).regs ≡ p.image.regs
  regs_then = ap (λ (image : Image). image.regs) image_then ∙ sym (before.same_regs callers)

  pages_then : AreEqualUnmarked p.image.memory.pages (memory_at then_stop).pages
  pages_then =
      subst (AreEqualUnmarked p.image.memory.pages) (sym (ap (λ (image : Image). image.memory.pages) image_then ∙ before.pages_left callers)) (c.matches.states.images.memories pid p q lives also)

  pub shelf_then : has_shelf then_stop ≡ true
  shelf_then = shelves_are_seen p.image.regs p.image.memory.pages then_stop regs_then pages_then usable

  marked : HasMarkedShelf (stack_pointer p.image.regs) p1.image.memory.pages p.image.memory.pages
  marked = shelves_are_marked p.image.regs p.image.memory (c.lasts.lawful.processes pid p lives).whole numbered usable

  marks_then : AreMarkedFrom (bottom_of (stack_at then_stop)) (stack_at then_stop) p1.image.memory.pages
  marks_then = subst (λ (regs : Regs). AreMarkedFrom (bottom_of (stack_pointer regs)) (stack_pointer regs) p1.image.memory.pages) (sym regs_then) marked.marks

  -- ---- so a swap can be made

  module _ (first : NewText) (second : Option NewText) (paths : AreOfPaths r first second) (one : CanBePath first) (two : CanSecondBePath second) where
    can_at_stop : CanBeSwapped stop p1.image.memory r first second
    can_at_stop =
        let after = before.after_there callers in
        let image = own_image pid n.state q also in
        record {
          there = is_there n.state pid nothing_handed q c.also_lasts.lawful.pids also;
          decoded = before.decoded_there callers ∙ here.reads_there path_call;
          shelf = ap has_shelf after ∙ shelf_then;
          named = paths;
          one = one;
          two = two;
          calm = subst (λ (image : Image). IsDecodedCalmly image.regs p1.image.memory image.memory.pages) (sym image)
              (subst (λ (regs : Regs). IsDecodedCalmly regs p1.image.memory q.image.memory.pages) (before.same_regs callers)
              (record {
                alike = (before.match1 callers).images.memories pid p1 q (before.lives1 callers) also;
                unread = before.unread callers calm;
              }));
          marks = subst (λ t. AreMarkedFrom (bottom_of (stack_at t)) (stack_at t) p1.image.memory.pages) (sym after) marks_then;
        }

    pub can_swap : CanBeSwapped (caller_there scene) (memory_at (caller_here scene)) r first second
    can_swap =
        subst (λ t. CanBeSwapped t (memory_at (caller_here scene)) r first second) (sym (before.calling_is callers))
        (subst (λ memory. CanBeSwapped stop memory r first second)
        (sym (ap (λ t. memory_at (record { state = t; pid = pid; handed = nothing_handed })) (before.shelf callers) ∙ ap (λ (image : Image). image.memory) (own_image pid (before.s1 callers) p1 (before.lives1 callers))))
        can_at_stop)
