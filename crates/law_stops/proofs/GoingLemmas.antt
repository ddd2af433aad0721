-- What both watchers go by as processes come and go, and behind both stops of a call.
use Rattle.std.proofs.Common.{◌≡◌, ℕ, suc, List, Option, Some, None, refl, sym, ap, subst, ◌∙◌}
use Rattle.std.specs.Prelude.{IsSome}
use Rattle.std.specs.Option.{option_map}
use Rattle.law_edits.specs.pt_bind.Tags.{TagTable}
use Rattle.law_edits.specs.pt_ident.IdentityTable.{after_birth, after_end as forgets}
use Rattle.law_edits.specs.kr_view.View.{Row}
use Rattle.law_edits.specs.kr_model.State.{Image, Process, process}
use Rattle.law_turns.specs.kr_turns.PlainCall.{Came}
use Rattle.law_turns.specs.kr_stops.Stopped.{Stopped}
use Rattle.law_turns.specs.kr_turns.Turn.{Tally, after_born, after_end, after_exit, called}
use Rattle.law_turns.specs.kr_turns.declared.plain.CallEnd.{CallEnd}
use Rattle.law_turns.specs.kr_turns.declared.plain.CallEnd.TheVariants as end
use Rattle.law_edits.specs.pt_faker.Faking.{Faking, exited as faked_exit, faker}
use Rattle.law_edits.specs.pt_tracer.Watched.{Tracing, exited, tracer, with_identities}
use Rattle.law_stops.proofs.CallLemmas.{status_after}
use Rattle.law_stops.specs.Going.{ComeFromFakedCall, GoBySame, StandAlike}

-- ---- births and ends

module _ (table : List Row) (pid : ℕ) (g : Faking) (z : Tracing) (go : GoBySame table g z) where
  pub goes_born : (o : Option ℕ) → GoBySame table (after_born faker pid o g) (after_born tracer pid o z)
  goes_born None = go
  goes_born (Some child) = record { bindings = go.bindings; user = go.user; identities = ap (λ i. option_map (after_birth pid child) i) go.identities }

  pub goes_gone : GoBySame table (faker.gone g pid) (tracer.gone z pid)
  goes_gone = record { bindings = go.bindings; user = go.user; identities = ap (λ i. option_map (forgets pid) i) go.identities }

pub born_untold : (pid : ℕ) (o : Option ℕ) (y : Tracing) → with_identities None (after_born tracer pid o y) ≡ after_born tracer pid o (with_identities None y)
born_untold pid None y = refl
born_untold pid (Some child) y = refl

-- ---- behind both kernels' calls

module _ (table : List Row) (made pid : ℕ) (came came2 : Came) (g : Faking) (z : Tracing) (one other : Tally) where
  -- what the second stops make of the process and of what both watchers keep; without an identity the tracer leaves `back`
  pub record ExitAlike : Type 0 where
    pub kept : Faking
    pub traced : Tracing
    pub edited : Stopped
    pub back : Stopped
    pub shown : Stopped
    pub mine : faked_exit g (called pid came) ≡ (kept, edited)
    pub yours : exited z (called pid came2) ≡ (traced, shown)
    pub without : exited (with_identities None z) (called pid came2) ≡ (with_identities None traced, back)
    -- where they leave the same
    pub goes : (tags : TagTable) → IsSome (process pid came.state) → StandAlike table tags (suc made) came.state back.state → GoBySame table kept traced
    pub lives : IsSome (process pid came2.state) → IsSome (process pid back.state)
    pub edits : (tags : TagTable) → IsSome (process pid came.state) → StandAlike table tags (suc made) came.state back.state → StandAlike table tags (suc made) edited.state shown.state

  module _ (go : GoBySame table g z) (exits : ExitAlike) where
    never : {A B : Type 0} {a : A} → None ≡ Some a → B
    never e = absurd cc

    by_exit : (q : Option (Process ℕ Image)) → process pid came2.state ≡ q
        → StandAlike table (after_exit tracer (called pid came2) (with_identities None z) other q).watcher.tags (suc made) came.state (after_exit tracer (called pid came2) (with_identities None z) other q).state
        → one.status ≡ other.status → (p : Option (Process ℕ Image)) → process pid came.state ≡ p
        → ComeFromFakedCall table made (after_exit faker (called pid came) g one p) (after_exit tracer (called pid came2) z other q)
    by_exit None at_q both statuses None at_p = record { matches = record { states = both.matches; statuses = statuses }; lasts = both.lasts; also_lasts = both.also_lasts; goes = go }
    by_exit None at_q both statuses (Some p) at_p =
        never (sym (ap (option_map (λ p. p.image.regs)) at_q) ∙ sym (both.matches.images.registers pid) ∙ ap (option_map (λ p. p.image.regs)) at_p)
    by_exit (Some q) at_q both statuses p at_p = by p at_p
      where
        untold : StandAlike table exits.traced.tags (suc made) came.state exits.back.state
        untold = subst (λ (e : Tracing × Stopped). StandAlike table e.0.tags (suc made) came.state e.1.state) exits.without both

        still : IsSome (process pid exits.back.state)
        still = exits.lives (subst IsSome (sym at_q) refl)

        differ : (o : Option (Process ℕ Image)) → IsSome o → None ≡ option_map (λ p. p.image.regs) o → ⊥
        differ None some e = cc
        differ (Some p) some e = cc

        by : (p : Option (Process ℕ Image)) → process pid came.state ≡ p → ComeFromFakedCall table made (after_exit faker (called pid came) g one p) (after_exit tracer (called pid came2) z other (Some q))
        by None at_p = absurd (differ (process pid exits.back.state) still (sym (ap (option_map (λ p. p.image.regs)) at_p) ∙ untold.matches.images.registers pid))
        by (Some p) at_p =
            let left = exits.edits exits.traced.tags (subst IsSome (sym at_p) refl) untold in
            let goes = exits.goes exits.traced.tags (subst IsSome (sym at_p) refl) untold in
            subst (λ (e : Faking × Stopped). ComeFromFakedCall table made (record { state = e.1.state; watcher = e.0; tally = one }) (after_exit tracer (called pid came2) z other (Some q))) (sym exits.mine)
            (subst (λ (e : Tracing × Stopped). ComeFromFakedCall table made (record { state = exits.edited.state; watcher = exits.kept; tally = one }) (record { state = e.1.state; watcher = e.0; tally = other })) (sym exits.yours)
            (record { matches = record { states = left.matches; statuses = statuses }; lasts = left.lasts; also_lasts = left.also_lasts; goes = goes }))

    pub by_end : (e : CallEnd) → StandAlike table (after_end tracer pid e (called pid came2) (with_identities None z) other).watcher.tags (suc made) came.state (after_end tracer pid e (called pid came2) (with_identities None z) other).state
        → status_after e one.status ≡ status_after e other.status → ComeFromFakedCall table made (after_end faker pid e (called pid came) g one) (after_end tracer pid e (called pid came2) z other)
    by_end end.Answered both statuses = by_exit (process pid came2.state) refl both statuses (process pid came.state) refl
    by_end end.Replaced both statuses = by_exit (process pid came2.state) refl both statuses (process pid came.state) refl
    by_end end.Waits both statuses = record { matches = record { states = both.matches; statuses = statuses }; lasts = both.lasts; also_lasts = both.also_lasts; goes = go }
    by_end (end.Ended told) both statuses = record { matches = record { states = both.matches; statuses = statuses }; lasts = both.lasts; also_lasts = both.also_lasts; goes = goes_gone table pid g z go }
