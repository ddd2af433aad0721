-- What words with `--loose` begin is a loose run and a run over mounts that agree.
use Rattle.std.proofs.Common.{◌≡◌, ◌≤◌, ◌^◌, ℕ, Bool, true, false, List, [], ◌∷◌, None, refl, sym, ap, subst, ◌∙◌, arith}
use Rattle.std.specs.Prelude.{Result, Ok, Err}
use Rattle.law_machines.specs.kr_inode.declared.user.User.{User}
use Rattle.law_machines.specs.kr_mounts.Standing.{texts_of}
use Rattle.law_machines.specs.kr_tree.Tree.{Tree}
use Rattle.law_machines.specs.kr_turns.Turn.{Machine}
use Rattle.law_machines.specs.kr_view.View.{Row, plain}
use Rattle.law_machines.specs.pr_run.declared.plan.Plan.{Plan}
use Rattle.law_machines.specs.pr_sources.declared.reading.Asked.{Asked}
use Rattle.law_machines.specs.pr_start.Beginning.{beginning}
use Rattle.law_machines.specs.pr_start.Machines.{Nobody, Watch}
use Rattle.law_machines.specs.pr_start.TracedBeginning.{Tracing, asks, start_meets, traced_beginning}
use Rattle.law_machines.specs.pr_top.pr_base.declared.errno.Errno.{Errno}
use Rattle.law_machines.specs.pr_top.Opening.{Begun, Both, Loosely, Mounts, Started, Traced, begins, begun, begun_as, launch_of, loose_traced_run, loosened_plan, meets, meets_over, over, plan_of, started_as, started_on, stepwise_begun, watch_for}
use Rattle.law_machines.specs.pr_words.declared.launch.Launch.{Launch}
use Rattle.law_machines.specs.pr_words.declared.options.Slot.{Slot}
use Rattle.law_machines.specs.Agreeing.{CanBeTold}
use Rattle.law_machines.specs.Given.{CanBegin, settled_in}
use Rattle.law_machines.specs.Openings.{asked_on, over_mounts}
use Rattle.law_machines.proofs.GivenLemmas.{given-is-opening}
use Rattle.law_machines.specs.law_turns.pt_args.Laws.{ShelvesHoldTheirItems, TextsAreReadBack}
use Rattle.law_entries.specs.Traced.{TracersAreLocal}
use Rattle.law_loose.specs.kr_loose.Quiet.{IsQuiet}
use Rattle.law_loosely.specs.Loosely.{IsCalmBy, IsImageOf, LooseMachinesAgree, image_of, mounted_by}
use Rattle.law_loosely.specs.LooseWords.{BeginLoosely, LooseWordsAgree}
use Rattle.law_loosely.proofs.LooselyLemmas.{loose-machines-agree}

-- what is begun is what the words began
pub record BeginsTracedWith (table : List Row) (tree : Tree) (user : User) (launch : Launch) (input : List ℕ) (turns : ℕ) (plan : Plan) (met : Bool) (n : Machine Tracing) : Type 0 where
  pub begins : traced_beginning (texts_of table) tree user None launch input ≡ Ok n
  pub met_is : start_meets (texts_of table) tree user launch ≡ met
  pub turns_are : plan.turns ≡ turns

pub record BeginsOver (settled : List Row) (tree : Tree) (user : User) (launch : Launch) (input : List ℕ) (table : List Row) (m : Machine Watch) : Type 0 where
  pub begins : beginning settled tree user Nobody launch input ≡ Ok m
  pub table_is : settled ≡ table

abbrev IsTraced : Started → Type 0
IsTraced (Traced m) = Unit {0}
IsTraced (Mounts table m) = ⊥
IsTraced (Loosely met m) = ⊥
IsTraced (Both n m table k) = ⊥

-- those of single steps, and no others, go by single steps
loosely-is : (loose : List Slot) (met also : Bool) (own plan : Plan) (k n : Machine Tracing) → stepwise_begun loose met (Ok (record { plan = own; started = Traced k })) ≡ Ok (record { plan = plan; started = Loosely also n })
    → (met ≡ also) × (k ≡ n) × (own.turns ≡ plan.turns)
loosely-is [] met also own plan k n e =
    let same : record { plan = loosened_plan [] own; started = Traced k } ≡ record { plan = plan; started = Loosely also n } = cc in
    absurd (subst IsTraced (ap (λ (b : Begun). b.started) same) tt)
loosely-is (slot ∷ slots) met also own plan k n e =
    let same : record { plan = loosened_plan (slot ∷ slots) own; started = Loosely met k } ≡ record { plan = plan; started = Loosely also n } = cc in
    let started : Loosely met k ≡ Loosely also n = ap (λ (b : Begun). b.started) same in
    (cc, cc, ap (λ (b : Begun). b.plan.turns) same)

mounts-is : (own plan : Plan) (table other : List Row) (k m : Machine Watch) → (begun_as own (Ok (Mounts table k))) ≡ Ok (record { plan = plan; started = Mounts other m }) → (table ≡ other) × (k ≡ m)
mounts-is own plan table other k m e =
    let same : record { plan = own; started = Mounts table k } ≡ record { plan = plan; started = Mounts other m } = cc in
    let started : Mounts table k ≡ Mounts other m = ap (λ (b : Begun). b.started) same in
    (cc, cc)

module _ (a : Asked) (settled : List Row) (settles : (settled_in a).answer ≡ Ok settled) (traced : a.options.native ≡ false) (untold : a.options.ids ≡ None) where
  abbrev launch : Launch
  launch = launch_of a

  abbrev tree : Tree
  tree = (settled_in a).tree

  -- with a tracer
  begun-traced : begun a ≡ begun_as (plan_of a) (started_as Traced (traced_beginning (texts_of settled) tree a.user None launch a.input))
  begun-traced =
      ap (over a tree) settles
      ∙ ap (λ native. begun_as (plan_of a) (started_on native settled tree a.user a.options.ids launch a.input)) traced
      ∙ ap (λ ids. begun_as (plan_of a) (started_on false settled tree a.user ids launch a.input)) untold

  met-is : meets a ≡ start_meets (texts_of settled) tree a.user launch
  met-is = ap (meets_over a tree) settles

  steps-begin : (plan : Plan) (met : Bool) (n : Machine Tracing) → begins a ≡ Ok (record { plan = plan; started = Loosely met n }) → BeginsTracedWith settled tree a.user launch a.input a.options.turns plan met n
  steps-begin plan met n e = by (traced_beginning (texts_of settled) tree a.user None launch a.input) refl (sym (ap (stepwise_begun a.options.loose (meets a)) begun-traced) ∙ e)
    where
      by : (r : Result (Machine Tracing) Errno) → traced_beginning (texts_of settled) tree a.user None launch a.input ≡ r
          → stepwise_begun a.options.loose (meets a) (begun_as (plan_of a) (started_as Traced r)) ≡ Ok (record { plan = plan; started = Loosely met n })
          → BeginsTracedWith settled tree a.user launch a.input a.options.turns plan met n
      by (Err errno) is e = absurd cc
      by (Ok k) is e =
          let own = loosely-is a.options.loose (meets a) met (plan_of a) plan k n e in
          record { begins = is ∙ ap (λ (k : Machine Tracing). Ok k) own.1; met_is = sym met-is ∙ own.0; turns_are = sym own.2 }

  -- and over mounts
  begun-over : over_mounts a ≡ begun_as (plan_of a) (started_as (Mounts settled) (beginning settled tree a.user Nobody launch a.input))
  begun-over =
      ap (over (asked_on true a) tree) settles
      ∙ ap (λ ids. begun_as (plan_of a) (started_as (Mounts settled) (beginning settled tree a.user (watch_for a.user ids) launch a.input))) untold

  over-begin : (own : Plan) (table : List Row) (m : Machine Watch) → over_mounts a ≡ Ok (record { plan = own; started = Mounts table m }) → BeginsOver settled tree a.user launch a.input table m
  over-begin own table m e = by (beginning settled tree a.user Nobody launch a.input) refl (sym begun-over ∙ e)
    where
      by : (r : Result (Machine Watch) Errno) → beginning settled tree a.user Nobody launch a.input ≡ r → begun_as (plan_of a) (started_as (Mounts settled) r) ≡ Ok (record { plan = own; started = Mounts table m })
          → BeginsOver settled tree a.user launch a.input table m
      by (Err errno) is e = absurd cc
      by (Ok k) is e =
          let same = mounts-is (plan_of a) own settled table k m e in
          record { begins = is ∙ ap (λ (k : Machine Watch). Ok k) same.1; table_is = same.0 }

  -- ---- both

  module _ (agree : LooseMachinesAgree) (can : CanBegin a settled) where
    can-be-told : (plan : Plan) → plan.turns ≡ a.options.turns → CanBeTold plan settled tree a.user launch a.input
    can-be-told plan turns =
        let few : a.options.turns ≤ 10000000 = can.sound.turns in
        record {
          opening = can.opening;
          words = record { command = can.words.command; env = can.words.env; cwd = can.words.cwd };
          input_bytes = can.input;
          few = omega (arith, turns, few);
        }

    words-agree : (plan : Plan) (met : Bool) (n : Machine Tracing) (own : Plan) (table : List Row) (m : Machine Watch) → BeginLoosely a plan met n own table m
        → IsQuiet asks 0 plain met (loose_traced_run plan n).left.steps → IsCalmBy (image_of (loose_traced_run plan n)) table m
        → IsImageOf (loose_traced_run plan n) (mounted_by (image_of (loose_traced_run plan n)) table m)
    words-agree plan met n own table m begin quiet calm =
        let one = steps-begin plan met n begin.steps in
        let other = over-begin own table m begin.over in
        let calm_here : IsCalmBy (image_of (loose_traced_run plan n)) settled m = subst (λ (t : List Row). IsCalmBy (image_of (loose_traced_run plan n)) t m) (sym other.table_is) calm in
        let quiet_here : IsQuiet asks 0 plain (start_meets (texts_of settled) tree a.user launch) (loose_traced_run plan n).left.steps =
        subst (λ (b : Bool). IsQuiet asks 0 plain b (loose_traced_run plan n).left.steps) (sym one.met_is) quiet in
        subst (λ (t : List Row). IsImageOf (loose_traced_run plan n) (mounted_by (image_of (loose_traced_run plan n)) t m)) other.table_is
        (agree plan settled tree a.user launch a.input (can-be-told plan one.turns_are) m n other.begins one.begins quiet_here calm_here)

pub loose-words-agree : TextsAreReadBack → ShelvesHoldTheirItems → TracersAreLocal → LooseWordsAgree
loose-words-agree back shelves local words tree elf input o a settled given traced untold plan met n own table m begin quiet calm =
    words-agree a settled given.settles traced untold (loose-machines-agree back shelves local) (given-is-opening words tree elf input o a settled given) plan met n own table m begin quiet calm
