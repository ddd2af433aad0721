-- What begins by single steps.
use Rattle.std.proofs.Common.{◌≡◌, ◌≤◌, Bool, true, false, List, [], ◌∷◌, Result, Ok, Err, refl, sym, ap, subst, ◌∙◌}
use Rattle.std.specs.List.{All}
use Rattle.std.proofs.lemmas.List.Elements.{All-weaker}
use Rattle.pr_start.specs.pr_words.Sound.{IsSlot}
use Rattle.pr_start.specs.pr_base.declared.errno.Errno.{Errno}
use Rattle.pr_start.specs.kr_tree.Tree.{Tree}
use Rattle.pr_start.specs.kr_view.View.{Row}
use Rattle.pr_start.specs.Machines.{Machine, Watch}
use Rattle.pr_start.specs.TracedBeginning.{Tracing, start_meets}
use Rattle.pr_run.specs.kr_mounts.MountTable.{Refusal, settling}
use Rattle.pr_run.specs.kr_mounts.Standing.{texts_of}
use Rattle.pr_run.specs.pr_sources.declared.answer.Answer.{Answer}
use Rattle.pr_run.specs.pr_sources.declared.answer.Answer.TheVariants.{BadBind, NoStart}
use Rattle.pr_run.specs.pr_sources.declared.reading.Asked.{Asked}
use Rattle.pr_start.specs.pr_words.declared.options.Slot.{Slot}
use Rattle.pr_start.specs.pr_words.declared.launch.Launch.{Launch}
use Rattle.pr_start.specs.kr_first.declared.starting.StartFault.{StartFault}
use Rattle.pr_start.specs.kr_first.declared.starting.StartFault.TheVariants as fault
use Rattle.pr_start.specs.kr_inode.declared.user.User.{User}
use Rattle.pr_top.specs.declared.opening.Kind.{Kind}
use Rattle.pr_top.specs.Opening.{Begun, Both, Loosely, Mounts, Started, StartsAs, Traced, begins, begun, begun_as, gives_slots, launch_of, loosened_plan, meets, meets_over, over, plan_of, slots_for, started_as, started_on, started_told, stepwise, stepwise_begun, stepwise_start}

-- where no slots of single steps are given all is as it was
pub begins-by-turns : (a : Asked) → a.options.loose ≡ [] → begins a ≡ begun a
begins-by-turns a none = by (begun a) a.options.loose none
  where
    by : (r : Result Begun Answer) (loose : List Slot) → loose ≡ [] → stepwise_begun loose (meets a) r ≡ r
    by (Ok b) [] none = refl
    by (Err answer) [] none = refl
    by r (slot ∷ slots) none = absurd cc

-- a machine over mounts makes turns, whatever is asked for
pub mounts-stepwise : (steps met : Bool) (table : List Row) (r : Result (Machine Watch) Errno) → stepwise_start steps met (started_as (Mounts table) r) ≡ started_as (Mounts table) r
mounts-stepwise true met table (Ok m) = refl
mounts-stepwise false met table (Ok m) = refl
mounts-stepwise steps met table (Err e) = refl

-- a start with a tracer
pub traced-stepwise : (steps met : Bool) (r : Result (Machine Tracing) Errno) (m : Machine Tracing) → r ≡ Ok m → stepwise_start steps met (started_as Traced r) ≡ Ok (stepwise steps met (Traced m))
traced-stepwise steps met r m e = ap (λ (q : Result (Machine Tracing) Errno). stepwise_start steps met (started_as Traced q)) e

pub traced-refused : (steps met : Bool) (r : Result (Machine Tracing) Errno) (e : Errno) → r ≡ Err e → stepwise_start steps met (started_as Traced r) ≡ Err e
traced-refused steps met r e is = ap (λ (q : Result (Machine Tracing) Errno). stepwise_start steps met (started_as Traced q)) is

module _ (a : Asked) (tree : Tree) (table : List Row) (same : (settling a.tree a.user a.options.root a.options.binds).tree ≡ tree) (settles : (settling a.tree a.user a.options.root a.options.binds).answer ≡ Ok table) where
  abbrev met : Bool
  met = start_meets (texts_of table) tree a.user (launch_of a)

  abbrev starts : Result Started Errno
  starts = started_on a.options.native table tree a.user a.options.ids (launch_of a) a.input

  meets-is : meets a ≡ met
  meets-is = ap (λ t. meets_over a t (settling a.tree a.user a.options.root a.options.binds).answer) same ∙ ap (meets_over a tree) settles

  begun-is : begun a ≡ begun_as (plan_of a) starts
  begun-is = ap (λ t. over a t (settling a.tree a.user a.options.root a.options.binds).answer) same ∙ ap (over a tree) settles

  begins-is : begins a ≡ stepwise_begun a.options.loose met (begun_as (plan_of a) starts)
  begins-is = ap (λ m. stepwise_begun a.options.loose m (begun a)) meets-is ∙ ap (stepwise_begun a.options.loose met) begun-is

  -- what is started is begun
  pub begins-as : (s : Started) → stepwise_start (gives_slots a.options.loose) met starts ≡ Ok s → begins a ≡ Ok (record { plan = loosened_plan a.options.loose (plan_of a); started = s })
  begins-as s e = begins-is ∙ by starts e
    where
      by : (r : Result Started Errno) → stepwise_start (gives_slots a.options.loose) met r ≡ Ok s → stepwise_begun a.options.loose met (begun_as (plan_of a) r) ≡ Ok (record { plan = loosened_plan a.options.loose (plan_of a); started = s })
      by (Ok x) e = let same : stepwise (gives_slots a.options.loose) met x ≡ s = cc in ap (λ (y : Started). Ok (record { plan = loosened_plan a.options.loose (plan_of a); started = y })) same
      by (Err other) e = absurd cc

  -- and what isn't, is refused
  pub begins-not : (e : Errno) → stepwise_start (gives_slots a.options.loose) met starts ≡ Err e → begins a ≡ Err (NoStart e)
  begins-not e is = begins-is ∙ by starts is
    where
      by : (r : Result Started Errno) → stepwise_start (gives_slots a.options.loose) met r ≡ Err e → stepwise_begun a.options.loose met (begun_as (plan_of a) r) ≡ Err (NoStart e)
      by (Ok x) is = absurd cc
      by (Err other) is = let same : other ≡ e = cc in ap (λ (x : Errno). Err (NoStart x)) same

-- so it is with what a start is given of it
module _ (a : Asked) (tree : Tree) (table : List Row) (user : User) (steps : Bool) (launch : Launch) (same : (settling a.tree a.user a.options.root a.options.binds).tree ≡ tree) (settles : (settling a.tree a.user a.options.root a.options.binds).answer ≡ Ok table)
    (whose : user ≡ a.user) (counted : steps ≡ gives_slots a.options.loose) (launched : launch ≡ launch_of a) where
  abbrev starting : Result Started Errno
  starting = stepwise_start steps (start_meets (texts_of table) tree user launch) (started_on a.options.native table tree user a.options.ids launch a.input)

  own : starting ≡ stepwise_start (gives_slots a.options.loose) (start_meets (texts_of table) tree a.user (launch_of a)) (started_on a.options.native table tree a.user a.options.ids (launch_of a) a.input)
  own = λ i. stepwise_start (counted i) (start_meets (texts_of table) tree (whose i) (launched i)) (started_on a.options.native table tree (whose i) a.options.ids (launched i) a.input)

  pub begins-by-stage : (r : Result Kind StartFault) (k : Kind) → r ≡ Ok k → StartsAs starting r → begins a ≡ Ok (record { plan = loosened_plan a.options.loose (plan_of a); started = started_told k })
  begins-by-stage r k is told =
      let started : starting ≡ Ok (started_told k) = subst (StartsAs starting) is told in
      begins-as a tree table same settles (started_told k) (sym own ∙ started)

  pub refused-by-stage : (r : Result Kind StartFault) (e : Errno) → r ≡ Err (fault.Err e) → StartsAs starting r → begins a ≡ Err (NoStart e)
  refused-by-stage r e is told =
      let refused : starting ≡ Err e = subst (StartsAs starting) is told in
      begins-not a tree table same settles e (sym own ∙ refused)

-- bindings that don't settle are refused
pub begins-unsettled : (a : Asked) (refusal : Refusal) → (settling a.tree a.user a.options.root a.options.binds).answer ≡ Err refusal → begins a ≡ Err (BadBind refusal.index refusal.why)
begins-unsettled a refusal refused = ap (λ r. stepwise_begun a.options.loose (meets_over a (settling a.tree a.user a.options.root a.options.binds).tree r) (over a (settling a.tree a.user a.options.root a.options.binds).tree r)) refused

-- ---- slots

pub given-slots : {b : Bool} (schedule loose : List Slot) → b ≡ gives_slots loose → b ≡ true → loose ≡ slots_for schedule loose
given-slots schedule [] same given = absurd cc
given-slots schedule (slot ∷ slots) same given = refl

pub no-slots : {b : Bool} (schedule loose : List Slot) → b ≡ gives_slots loose → b ≡ false → schedule ≡ slots_for schedule loose
no-slots schedule [] same none = refl
no-slots schedule (slot ∷ slots) same none = absurd cc

-- a plan by them has fuel
pub all-fuel : (schedule loose all : List Slot) → all ≡ slots_for schedule loose → All IsSlot schedule → All IsSlot loose → All (λ s. 1 ≤ s.fuel) all
all-fuel schedule loose all same first other = subst (λ l. All (λ (s : Slot). 1 ≤ s.fuel) l) (sym same) (All-weaker IsSlot (λ (s : Slot). 1 ≤ s.fuel) (λ s is. is.some_fuel) (slots_for schedule loose) (by loose other))
  where
    by : (loose : List Slot) → All IsSlot loose → All IsSlot (slots_for schedule loose)
    by [] other = first
    by (slot ∷ slots) other = other
