-- What marking a shelf leaves of a state.
use Rattle.std.proofs.Common.{◌≡◌, ℕ, Bool, true, false, cond, refl, sym, ap, subst, ◌∙◌}
use Rattle.std.specs.Prelude.{IsSome, nat_eq}
use Rattle.kr_steps.proofs.rv_mem.LayoutLemmas.{layouts_follow}
use Rattle.kr_steps.specs.rv_mem.Layout.{layout_of}
use Rattle.kr_steps.specs.rv_mem.Memory.{Memory}
use Rattle.kr_steps.specs.rv_mem.declared.regs.Regs.{Regs}
use Rattle.kr_execve.specs.kr_calls.Arguments.{number}
use Rattle.kr_calm.specs.Shelf.{has_path, is_usable, lacks_shelf_by, shelf_size, shelf_start, shelved_by, stack_pointer, with_shelf_marked}
use Rattle.kr_steps.specs.kr_model.State as model
use Rattle.kr_steps.specs.kr_model.State.{Image}
use Rattle.kr_hostview.specs.kr_ops.declared.state.State.{State}
use Rattle.kr_hostview.specs.kr_ops.Meaning.{meaning}
use Rattle.kr_calm.specs.kr_seen.Numbered.{state_numbered}
use Rattle.kr_steps.specs.Computing.{computed}
use Rattle.kr_turns.specs.Shelving.{lacks_in, shelved_in}
use Rattle.kr_steps.specs.kr_stops.Stopped.{image_in}
use Rattle.kr_steps.proofs.kr_stops.EditLemmas.{computed-lives}
use Rattle.kr_turns.proofs.HereLemmas.{image-numbered}
use Rattle.kr_turns.proofs.NumberLemmas.{computed-numbered}

-- marks move no page
pub shelf-layout : (marks : ℕ) (regs : Regs) (m : Memory) → layout_of (shelved_by marks regs m).pages ≡ layout_of m.pages
shelf-layout marks regs m = by (nat_eq marks 0) (has_path (number regs)) (is_usable (stack_pointer regs) m.pages)
  where
    by : (a b c : Bool) → layout_of (cond a m (cond b (cond c (with_shelf_marked (stack_pointer regs) m) m) m)).pages ≡ layout_of m.pages
    by true b c = refl
    by false true true = layouts_follow.marks m.pages (shelf_start (stack_pointer regs)) shelf_size
    by false true false = refl
    by false false c = refl

module _ {T : Type 0} {M : ℕ} (pid : ℕ) (old shelved : State T M) (is : meaning shelved ≡ shelved_in M pid (meaning old)) where
  pub shelved-lives : IsSome (model.process pid (meaning old)) → IsSome (model.process pid (meaning shelved))
  shelved-lives lives =
      let own = image_in pid (meaning old) in
      subst (λ (t : model.State T Image). IsSome (model.process pid t)) (sym is) (computed-lives pid own.regs (shelved_by M own.regs own.memory) (meaning old) lives)

  module _ (number : T → ℕ) where
    pub shelved-numbered : state_numbered number (meaning shelved) ≡ shelved_in M pid (state_numbered number (meaning old))
    shelved-numbered =
        let own = image_in pid (meaning old) in
        ap (state_numbered number) is
        ∙ computed-numbered number pid own.regs (shelved_by M own.regs own.memory) (meaning old)
        ∙ ap (λ (i : Image). computed pid i.regs (shelved_by M i.regs i.memory) (state_numbered number (meaning old))) (sym (image-numbered number pid old))

    pub lacks-numbered : (lacks : Bool) → lacks ≡ lacks_in M pid (meaning old) → lacks ≡ lacks_in M pid (state_numbered number (meaning old))
    lacks-numbered lacks told = told ∙ ap (λ (i : Image). lacks_shelf_by M i.regs i.memory) (sym (image-numbered number pid old))
