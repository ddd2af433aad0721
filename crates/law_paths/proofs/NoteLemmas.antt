-- What a tracer notes of the answer of a call along paths is what it would note by the mount to which the first path leads.
use Rattle.std.proofs.Common.{◌≡◌, ◌⊎◌, inl, inr, ℕ, Bool, true, false, cond, List, Option, None, Ok, refl, sym, ap, ◌∙◌, ℤ}
use Rattle.std.specs.Int.{cast_signed, w64}
use Rattle.std.specs.Option.{option_map_or}
use Rattle.law_plans.specs.pr_base.WalkFrame.{may_be_free}
use Rattle.law_plans.specs.pr_base.declared.errno.Errno.{Errno}
use Rattle.law_plans.specs.pr_base.declared.errno.Errno.TheVariants.{EEXIST, EISDIR}
use Rattle.law_plans.specs.pr_base.declared.path.Last.{Last}
use Rattle.law_plans.specs.pr_base.declared.path.Last.TheVariants as last
use Rattle.law_plans.specs.pr_base.declared.path.WalkMode.TheVariants.{Look, LookLink}
use Rattle.law_plans.specs.rv_mem.Actions.{carried_out}
use Rattle.law_plans.specs.rv_mem.Memory.{Memory}
use Rattle.law_stops.specs.pt_bind.Tags.{TagTable}
use Rattle.law_plans.specs.pt_ident.Identity.{refusal}
use Rattle.law_stops.specs.pt_results.Notes.{noted, noted_of}
use Rattle.law_stops.specs.pt_results.Numbers.{made_number}
use Rattle.law_stops.specs.kr_calls.Arguments.{has}
use Rattle.law_stops.specs.kr_calls.PathTable.{PathUse, make_mode, open_mode, working_directory}
use Rattle.law_stops.specs.kr_calls.declared.request.Request.{Request}
use Rattle.law_stops.specs.kr_calls.declared.request.Request.TheVariants as call
use Rattle.law_plans.specs.kr_view.View.{Row}
use Rattle.law_plans.specs.kr_model.FileRows.{excludes}
use Rattle.law_plans.specs.kr_model.Known.{Known}
use Rattle.law_plans.specs.kr_model.Operation.{operation}
use Rattle.law_plans.specs.kr_model.Reply.{Replying, refuse}
use Rattle.law_plans.specs.kr_model.Seen.{Opens, OpensFound, OpensNew, OpensNoName, OpensSlashed, Seen}
use Rattle.law_plans.specs.kr_model.State.{Image, State}
use Rattle.law_plans.specs.kr_model.Walks.{and_then, created_at, if_found, if_name, looked_at, seen, seen_of}
use Rattle.law_plans.specs.kr_model.declared.outcome.Outcome.{Outcome}
use Rattle.law_plans.specs.kr_model.declared.outcome.Outcome.TheVariants.{Answer}
use Rattle.law_plans.specs.pt_faker.Faking.{word_of}
use Rattle.law_plans.specs.pt_tracer.Planning.{led_of}
use Rattle.law_plans.specs.law_places.Matching.{index_at}
use Rattle.law_stops.specs.law_turns.PathCalls.{HasPath, mount_come_to}
use Rattle.law_plans.specs.Begins.{LeadsBoth, StandTogether, told_texts}
use Rattle.law_plans.proofs.PlanLemmas.{only, targets_only}
use Rattle.law_stops.proofs.AnsweredLemmas.{none_made}
use Rattle.law_paths.proofs.IndexLemmas.{index_agrees, index_walked, named_index}

answer_is : (a b : ℤ) → Answer a ≡ Answer b → a ≡ b
answer_is a b e = cc

module _ (table : List Row) (tags : TagTable) (s w : State ℕ Image) (pid : ℕ) (both : StandTogether table tags s w) (k : Known) (memory : Memory) where
  abbrev outcome_of : Request → Outcome
  outcome_of r = (carried_out (operation pid r (seen table pid s r) k) memory).reply.outcome

  abbrev SameNote : Request → ℤ → Type 0
  SameNote r value = noted r (index_walked table pid s r) (cast_signed w64 (word_of value)) ≡ noted r (led_of (told_texts table s pid tags) pid r).index (cast_signed w64 (word_of value))

  -- an error makes no number
  refused_note : (r : Request) (value : ℤ) (e : Errno) → operation pid r (seen table pid s r) k ≡ refuse e → outcome_of r ≡ Answer value → made_number (cast_signed w64 (word_of value)) ≡ None
  refused_note r value e refuses outcome =
      ap (λ value. made_number (cast_signed w64 (word_of value))) (answer_is value (refusal e) (sym outcome ∙ ap (λ (row : Replying). (carried_out row memory).reply.outcome) refuses)) ∙ none_made e

  -- ---- openat(2)

  module _ (dirfd : ℤ) (path : List ℕ) (flags mode : ℕ) where
    abbrev opening : Request
    opening = call.Openat dirfd path flags mode

    abbrev u : PathUse
    u = record { dirfd = dirfd; text = path; mode = open_mode flags; register = 11 }

    -- what may be made has a name, or is refused
    open_free : (lead : LeadsBoth table tags s w pid u true) → may_be_free u.mode ≡ true → (l : Last) → lead.place.last ≡ l → (lead.canon.index ≡ index_at table (mount_come_to lead.place)) ⊎ ((e : Errno) × (operation pid opening (seen table pid s opening) k ≡ refuse e))
    open_free lead free l is = by (has flags 0x40) refl l is
      where
        never : (b : Bool) → may_be_free (cond b (make_mode flags) (cond (has flags 0x20000) LookLink Look)) ≡ true → b ≡ true
        never true e = refl
        never false e = elim (has flags 0x20000) as (λ b. may_be_free (cond b LookLink Look) ≡ true → false ≡ true) [ true ↦ λ e. e | false ↦ λ e. e ] e

        unnamed : (l : Last) → (x : Seen) → x ≡ Opens (OpensNoName l) → operation pid opening x k ≡ refuse (cond (excludes flags) EEXIST EISDIR)
        unnamed l x is = ap (λ x. operation pid opening x k) is

        told_is : has flags 0x40 ≡ true → (l : Last) → lead.place.last ≡ l → seen table pid s opening ≡ Opens (if_name l (cond lead.place.slash OpensSlashed (option_map_or (λ p. OpensFound (looked_at table pid s lead.place p)) lead.place.found (OpensNew lead.place.dir.host lead.place.name))) (OpensNoName l))
        told_is creates l is =
            ap (seen_of table pid s opening) (targets_only table pid s opening u refl refl ∙ ap (λ o. and_then o (λ first. Ok (only first))) lead.target)
            ∙ ap (λ b. cond b (Opens (created_at table pid s lead.place)) (if_found table pid s lead.place (λ l. Opens (OpensFound l)))) creates
            ∙ ap (λ l. Opens (if_name l (cond lead.place.slash OpensSlashed (option_map_or (λ p. OpensFound (looked_at table pid s lead.place p)) lead.place.found (OpensNew lead.place.dir.host lead.place.name))) (OpensNoName l))) is

        by : (b : Bool) → has flags 0x40 ≡ b → (l : Last) → lead.place.last ≡ l → (lead.canon.index ≡ index_at table (mount_come_to lead.place)) ⊎ ((e : Errno) × (operation pid opening (seen table pid s opening) k ≡ refuse e))
        by b creates last.Name is = inl (named_index table tags s w pid u true both lead free is)
        by b creates last.Dot is = inr (cond (excludes flags) EEXIST EISDIR, unnamed last.Dot _ (told_is (never _ free) last.Dot is))
        by b creates last.DotDot is = inr (cond (excludes flags) EEXIST EISDIR, unnamed last.DotDot _ (told_is (never _ free) last.DotDot is))
        by b creates last.Root is = inr (cond (excludes flags) EEXIST EISDIR, unnamed last.Root _ (told_is (never _ free) last.Root is))

    open_noted : (value : ℤ) → outcome_of opening ≡ Answer value → SameNote opening value
    open_noted value outcome = by (index_agrees table tags s w pid u true both opening k refl refl open_free)
      where
        by : ((led_of (told_texts table s pid tags) pid opening).index ≡ index_walked table pid s opening) ⊎ ((e : Errno) × (operation pid opening (seen table pid s opening) k ≡ refuse e)) → SameNote opening value
        by (inl same) = ap (λ index. noted opening index (cast_signed w64 (word_of value))) (sym same)
        by (inr (e, refuses)) =
            let none = refused_note opening value e refuses outcome in
            ap (noted_of opening (index_walked table pid s opening)) none ∙ sym (ap (noted_of opening (led_of (told_texts table s pid tags) pid opening).index) none)

  -- ---- chdir(2)

  module _ (path : List ℕ) where
    abbrev entering : Request
    entering = call.Chdir path

    abbrev v : PathUse
    v = record { dirfd = working_directory; text = path; mode = Look; register = 10 }

    enter_noted : (value : ℤ) → outcome_of entering ≡ Answer value → SameNote entering value
    enter_noted value outcome = by (index_agrees table tags s w pid v false both entering k refl refl (λ lead free l is. absurd (let clash : false ≡ true = free in cc)))
      where
        by : ((led_of (told_texts table s pid tags) pid entering).index ≡ index_walked table pid s entering) ⊎ ((e : Errno) × (operation pid entering (seen table pid s entering) k ≡ refuse e)) → SameNote entering value
        by (inl same) = ap (λ index. noted entering index (cast_signed w64 (word_of value))) (sym same)
        by (inr (e, refuses)) =
            let none = refused_note entering value e refuses outcome in
            ap (noted_of entering (index_walked table pid s entering)) none ∙ sym (ap (noted_of entering (led_of (told_texts table s pid tags) pid entering).index) none)

  -- ---- all others, of which no number is noted

  abbrev is_silent : Request → Type 0
  is_silent r = (index other : ℕ) (o : Option ℕ) → noted_of r index o ≡ noted_of r other o

  silently : (r : Request) (value : ℤ) → is_silent r → SameNote r value
  silently r value silent = silent (index_walked table pid s r) (led_of (told_texts table s pid tags) pid r).index (made_number (cast_signed w64 (word_of value)))

  pub notes_agree : (r : Request) (value : ℤ) → HasPath r → outcome_of r ≡ Answer value → SameNote r value
  notes_agree (call.Openat dirfd path flags mode) value kind outcome = open_noted dirfd path flags mode value outcome
  notes_agree (call.Chdir path) value kind outcome = enter_noted path value outcome
  notes_agree (call.Execve path args env) value kind outcome = absurd kind
  notes_agree (call.Fchdir fd) value kind outcome = absurd kind
  notes_agree (call.Dup fd) value kind outcome = absurd kind
  notes_agree (call.Dup3 old new flags) value kind outcome = absurd kind
  notes_agree (call.Fcntl fd cmd arg) value kind outcome = absurd kind
  notes_agree r value kind outcome = silently r value (λ index other o. refl)
