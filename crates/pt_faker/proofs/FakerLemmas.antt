-- What the code keeps and does is what the definition says.
use Rattle.std.specs.FinMap as map
use Rattle.std.proofs.Common.{◌≡◌, ◌∙◌, ◌==◌, ℕ, ℤ, Bool, true, Option, Some, None, if◌then◌else◌, get_or, sym, ap, subst}
use Rattle.std.specs.Ordering.{nat_cmp}
use Rattle.pt_ident.specs.kr_calls.declared.request.Request.{Request}
use Rattle.kr_stops.specs.Editing.{memory_at, register_at, with_memory}
use Rattle.kr_stops.specs.Stopped.{IsThere, Stopped}
use Rattle.pt_ident.specs.rv_mem.Actions.{carried_out}
use Rattle.pt_ident.specs.rv_mem.declared.regs.Regs.{Regs}
use Rattle.pt_ident.specs.Identity.{Answered, Effect, Identity, after_exec, effect, on_memory}
use Rattle.pt_ident.specs.IdentityTable.{IdentityTable, after_end, identity_at, with_identity, with_kept}
use Rattle.pt_ident.specs.declared.change.Change.{Change}
use Rattle.pt_faker.specs.Carrying.{AnswersAny, on_its_memory}
use Rattle.pt_faker.specs.Faking.{Faking, after_due, after_effect, answer_register, begin_program, due_of, dues_with, forgiven, has_answered_zero, if_done, is_root, no_longer_called, number_register, remember, remembered, show_identity, stack_register, told}
use Rattle.pt_faker.specs.declared.due.Due.{Due}
use Rattle.pt_faker.specs.declared.due.Due.TheVariants.{Tells}
use Rattle.pt_faker.proofs.FakingLemmas.{insert-remove}
use Rattle.pt_faker.proofs.StopLemmas.{registers-stay}

-- an identity that was taken out is kept again
pub kept-again : (table : IdentityTable) (pid : ℕ) (i : Identity) → with_identity pid i (after_end pid table) ≡ with_identity pid i table
kept-again table pid i = ap (λ kept. with_kept kept table) (insert-remove table.kept pid i)

abbrev faking : Faking → IdentityTable → map.FinMap nat_cmp Due → Faking
faking f table dues = record { user = f.user; identities = table; dues = dues }

-- what was kept, by the number of the stopped process
module _ (f : Faking) (t : Stopped) (pid : ℕ) (taken kept : IdentityTable) (i j : Identity) (same : pid ≡ t.pid) (takes : taken ≡ after_end pid f.identities) (keeps : kept ≡ with_identity pid j taken) where
  keeps-it : kept ≡ with_identity t.pid j f.identities
  keeps-it =
      keeps ∙ ap (with_identity pid j) takes ∙ kept-again f.identities pid j
      ∙ ap (λ p. with_identity p j f.identities) same

  -- ---- the first stop of a call that could be read

  module _ (r : Request) (u : Stopped) (told : Option ℤ) (dues : map.FinMap nat_cmp Due) (own : i ≡ identity_at f.identities pid) (answers : AnswersAny i (effect i r) told j t u) where
    own-it : i ≡ identity_at f.identities t.pid
    own-it = own ∙ ap (identity_at f.identities) same

    answers-it : (known : Option ℤ) → told ≡ known → AnswersAny (identity_at f.identities t.pid) (effect (identity_at f.identities t.pid) r) known j t u
    answers-it known is =
        subst (λ k. AnswersAny k (effect k r) known j t u) own-it
        (subst (λ o. AnswersAny i (effect i r) o j t u) is answers)

    -- the kernel carries the call out
    left-by : (o : Option Effect) → AnswersAny (identity_at f.identities t.pid) o None j t u → dues ≡ dues_with t.pid (due_of (is_root f) r) f.dues
        → (record { user = f.user; identities = kept; dues = dues }, u) ≡ after_effect f r t o
    left-by None is due =
        let table = keeps-it ∙ ap (λ k. with_identity t.pid k f.identities) is.0 in
        λ k. (record { user = f.user; identities = table k; dues = due k }, is.1 k)
    left-by (Some e) is due = absurd is

    pub left-alone : told ≡ None → (root : Bool) (due : Option Due) → root ≡ (kept.uid == 0) → due ≡ due_of root r → dues ≡ dues_with pid due f.dues
        → (record { user = f.user; identities = kept; dues = dues }, u) ≡ after_effect f r t (effect (identity_at f.identities t.pid) r)
    left-alone none root due rooted is put =
        let starts : root ≡ is_root f = rooted ∙ ap (λ (k : IdentityTable). k.uid == 0) keeps-it in
        left-by (effect (identity_at f.identities t.pid) r) (answers-it None none)
        (put ∙ ap (λ d. dues_with pid d f.dues) (is ∙ ap (λ b. due_of b r) starts) ∙ ap (λ p. dues_with p (due_of (is_root f) r) f.dues) same)

    -- it was answered, and its number was taken away
    answered-by : IsThere t → (o : Option Effect) (answer : ℤ) (number : ℕ) (v : Stopped) → AnswersAny (identity_at f.identities t.pid) o (Some answer) j t u → number ≡ register_at u number_register → v ≡ no_longer_called u
        → dues ≡ dues_with t.pid (Some (Tells number answer)) f.dues → (record { user = f.user; identities = kept; dues = dues }, v) ≡ after_effect f r t o
    answered-by there None answer number v is stood away due = absurd is
    answered-by there (Some e) answer number v is stood away due =
        let done = carried_out (on_memory (identity_at f.identities t.pid) e) (memory_at t) in
        let counted : number ≡ register_at t number_register =
        stood ∙ ap (λ w. register_at w number_register) is.leaves ∙ ap (λ (regs : Regs). get_or regs.x number_register 0) (registers-stay t there done.memory) in
        let gone = away ∙ ap no_longer_called is.leaves in
        (λ k. (record { user = f.user; identities = keeps-it k; dues = due k }, gone k))
        ∙ ap (λ n. (faking f (with_identity t.pid j f.identities) (map.insert f.dues t.pid (Tells n answer)), no_longer_called (with_memory done.memory t))) counted
        ∙ ap (λ (a : Answered). (faking f (with_identity t.pid a.identity f.identities) (map.insert f.dues t.pid (Tells (register_at t number_register) a.answer)), no_longer_called (with_memory done.memory t))) (sym is.tells)

    pub answered-here : IsThere t → (answer meant : ℤ) (number : ℕ) (v : Stopped) → told ≡ Some answer → meant ≡ answer → number ≡ register_at u number_register → v ≡ no_longer_called u
        → dues ≡ dues_with pid (Some (Tells number meant)) f.dues → (record { user = f.user; identities = kept; dues = dues }, v) ≡ after_effect f r t (effect (identity_at f.identities t.pid) r)
    answered-here there answer meant number v is means stood away put =
        answered-by there (effect (identity_at f.identities t.pid) r) answer number v (answers-it (Some answer) is) stood away
        (put ∙ ap (λ a. dues_with pid (Some (Tells number a)) f.dues) means ∙ ap (λ p. dues_with p (Some (Tells number answer)) f.dues) same)

  -- ---- a new program

  pub program-begun : (w : Stopped) (stack : ℕ) → i ≡ identity_at f.identities pid → j ≡ after_exec i → has_answered_zero t ≡ true → stack ≡ register_at t stack_register → w ≡ on_its_memory (show_identity j stack) t
      → (record { user = f.user; identities = kept; dues = f.dues }, w) ≡ if_done t (begin_program f t) (f, t)
  program-begun w stack own saves zero stands shown =
      let next : j ≡ after_exec (identity_at f.identities t.pid) = saves ∙ ap after_exec (own ∙ ap (identity_at f.identities) same) in
      let table = keeps-it ∙ ap (λ k. with_identity t.pid k f.identities) next in
      let seen = shown ∙ ap (λ s. on_its_memory (show_identity j s) t) stands ∙ ap (λ k. on_its_memory (show_identity k (register_at t stack_register)) t) next in
      (λ k. (record { user = f.user; identities = table k; dues = f.dues }, seen k))
      ∙ sym (ap (λ b. if b then begin_program f t else (f, t)) zero)

-- ---- what was due

pub told-due : (f : Faking) (t u : Stopped) (due : Due) (number : ℕ) (answer meant : ℤ) → due ≡ Tells number answer → meant ≡ answer → u ≡ told number meant t → (f, u) ≡ after_due f t (Some due)
told-due f t u due number answer meant is means tells =
    ap (λ v. (f, v)) (tells ∙ ap (λ a. told number a t) means)
    ∙ sym (ap (λ d. after_due f t (Some d)) is)

-- a change of an owner or a mode, by the answer that is told
pub change-remembered : (f : Faking) (t u : Stopped) (change : Change) (target : Option ℕ) (answer : ℕ) (table : IdentityTable)
    → target ≡ t.handed.target → answer ≡ register_at u answer_register → u ≡ forgiven true t → table ≡ remembered change target answer f.identities
    → (record { user = f.user; identities = table; dues = f.dues }, u) ≡ remember change f t
change-remembered f t u change target answer table led told forgives keeps =
    let seen = told ∙ ap (λ v. register_at v answer_register) forgives in
    let noted = keeps ∙ (λ k. remembered change (led k) (seen k) f.identities) in
    λ k. (record { user = f.user; identities = noted k; dues = f.dues }, forgives k)
