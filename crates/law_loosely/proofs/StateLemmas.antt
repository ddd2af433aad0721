-- A process and what its paths lead to, in two states that differ in what others compute on, or in whether it stays at a call that waits.
use Rattle.std.specs.FinMap as map
use Rattle.std.proofs.Common.{◌≡◌, ℕ, Bool, true, false, cond, Option, Some, None, refl, sym, ap, subst, ◌∙◌}
use Rattle.std.specs.Prelude.{IfSome, ◌==◌}
use Rattle.std.specs.Option.{option_and_then, option_map, option_map_or}
use Rattle.law_loose.specs.kr_core.kr_files.Descriptors.{Named}
use Rattle.law_loose.specs.kr_core.kr_files.Files.{file_at}
use Rattle.law_loose.specs.kr_core.kr_files.declared.opened.Opened.{Opened}
use Rattle.law_loose.specs.kr_loose.kr_tree.Lawful.{IsSound}
use Rattle.law_loose.specs.kr_loose.kr_tree.Tree.{Node as TreeNode, Tree, body_is, is_directory}
use Rattle.law_loose.specs.kr_loose.kr_tree.declared.place.Host.{Host}
use Rattle.law_loose.specs.kr_loose.kr_tree.declared.place.Host.TheVariants.{Node}
use Rattle.law_loose.specs.kr_loose.kr_tree.declared.place.Place.{Place}
use Rattle.law_loose.specs.kr_view.Component.{is_directory_at}
use Rattle.law_loose.specs.kr_view.View.{plain}
use Rattle.law_loose.specs.kr_model.FileRows.{is_dir}
use Rattle.law_loose.specs.kr_model.Judged.{HasShape, IsReachedStill}
use Rattle.law_loose.specs.kr_model.Lawful.{IsLawful}
use Rattle.law_loose.specs.kr_model.State.{Image, Layout, Process, State, at_pid, image_layout, is_pid, named, opened, process}
use Rattle.law_loose.specs.kr_stops.Stopped.{image_in, no_image}
use Rattle.law_loose.specs.kr_core.kr_steps.Answering.{going, waiting}
use Rattle.law_loose.specs.kr_turns.Run.{cleared}
use Rattle.law_loose.specs.kr_turns.Turn.{Machine}
use Rattle.law_loose.specs.law_beside.Beside.{laid}
use Rattle.law_loose.specs.law_beside.Opened.{IsNode, StandOnNodes}
use Rattle.law_loose.proofs.kr_loose.LivingLemmas.{all-found}
use Rattle.law_loose.proofs.law_beside.ImagedLemmas.{opened-imaged, told-imaged}
use Rattle.law_loose.proofs.law_beside.kr_core.kr_tree.NameLemmas.{then_some}
use Rattle.law_loose.proofs.law_beside.kr_core.law_lawful.ProcessChangeLemmas.{found}
use Rattle.law_entries.specs.Lasting.{BeginsOnNodes, StaysFor, open_of, own_of}
use Rattle.law_entries.specs.pt_tracer.Watched.{Tracing}
use Rattle.law_entries.proofs.StayLemmas.{begins-by}
use Rattle.law_loosely.specs.Staying.{IsGood, IsTame}

abbrev cwd_in : Process ℕ Image → Place ℕ
cwd_in p = p.cwd

-- ---- where paths begin

module _ (s : State ℕ Image) (lawful : IsLawful (λ k. k) plain s) (nodes : StandOnNodes s) where
  place-node : (n : ℕ) (o : Opened ℕ) (p : Place ℕ) → file_at s.files n ≡ Some o → o.place ≡ Some p → IsNode p.host
  place-node n o p there place = subst (λ (q : Option (Place ℕ)). IfSome q (λ r. IsNode r.host)) place (nodes.open_files n o there)

  directory-at : (i : ℕ) (host : Host) → host ≡ Node i → is_directory_at s.tree host ≡ true → body_is is_directory s.tree i ≡ true
  directory-at i host is dir = subst (λ (h : Host). is_directory_at s.tree h ≡ true) is dir

  open-node : (n : ℕ) (o : Opened ℕ) (p : Place ℕ) → file_at s.files n ≡ Some o → is_dir o.what ≡ true → o.place ≡ Some p → (i : ℕ) × (p.host ≡ Node i) × (body_is is_directory s.tree i ≡ true)
  open-node n o p there dir place =
      let node = place-node n o p there place in
      let kind : is_directory_at s.tree p.host ≡ true = ((lawful.files n o there).placed p place).1 ∙ dir in
      (node.0, node.1, directory-at node.0 p.host node.1 kind)

  pub begins-on-nodes : (pid : ℕ) → BeginsOnNodes pid s
  begins-on-nodes pid = record {
    working = λ p lives. all-found (λ (q : Process ℕ Image). IsNode q.cwd.host) (is_pid pid) s.living p nodes.working lives;
    open_directories = λ fd o p there dir place.
        let file = then_some (λ (x : Named). file_at s.files x.number) (named pid fd s) o there in
        open-node file.0.number o p file.2 dir place;
  }

pub begins-in : (m : Machine Tracing) → IsGood m → IsTame m → (pid : ℕ) → BeginsOnNodes pid m.state
begins-in m good tame pid = begins-on-nodes m.state good.lawful tame.nodes pid

-- ---- another image of others

-- what a process computes on and where it stands, by each of both
own-joined : (a b : Option (Process ℕ Image)) → option_map cwd_in a ≡ option_map cwd_in b
    → option_map_or (λ (p : Process ℕ Image). p.image) a no_image ≡ option_map_or (λ (p : Process ℕ Image). p.image) b no_image → option_map own_of a ≡ option_map own_of b
own-joined None None cwds images = refl
own-joined None (Some q) cwds images = absurd cc
own-joined (Some p) None cwds images = absurd cc
own-joined (Some p) (Some q) cwds images =
    let same : p.cwd ≡ q.cwd = cc in
    λ j. Some (images j, same j)

module _ (s t : State ℕ Image) (same : laid t ≡ laid s) where
  laid-cwd : (pid : ℕ) (u : State ℕ Image) → option_map (λ (p : Process ℕ Layout). p.cwd) (process pid (laid u)) ≡ option_map cwd_in (process pid u)
  laid-cwd pid u = told-imaged (λ (n : ℕ). image_layout) cwd_in (λ (p : Process ℕ Layout). p.cwd) (λ p. refl) pid u

  pub cwd-beside : (pid : ℕ) → option_map cwd_in (process pid t) ≡ option_map cwd_in (process pid s)
  cwd-beside pid = sym (laid-cwd pid t) ∙ ap (λ (u : State ℕ Layout). option_map (λ (p : Process ℕ Layout). p.cwd) (process pid u)) same ∙ laid-cwd pid s

  laid-opened : (pid fd : ℕ) (u : State ℕ Image) → opened pid fd (laid u) ≡ opened pid fd u
  laid-opened pid fd u = opened-imaged (λ (n : ℕ). image_layout) pid fd u

  pub opened-beside : (pid fd : ℕ) → opened pid fd t ≡ opened pid fd s
  opened-beside pid fd = sym (laid-opened pid fd t) ∙ ap (λ (u : State ℕ Layout). opened pid fd u) same ∙ laid-opened pid fd s

-- from one state to one that has the same tree and the same user
stays-on-tree : (exec : Bool) (pid : ℕ) (s : State ℕ Image) (m : Machine Tracing) → IsGood m → IsTame m → m.state.tree ≡ s.tree → m.state.user ≡ s.user
    → option_map own_of (process pid m.state) ≡ option_map own_of (process pid s) → ((fd : ℕ) → option_map open_of (opened pid fd m.state) ≡ option_map open_of (opened pid fd s)) → BeginsOnNodes pid s
    → StaysFor exec pid s m.state
stays-on-tree exec pid s m good tame tree user own files here = record {
  shape = record {
    sound = subst (λ (t : Tree). IsSound t) tree good.lawful.tree.sound;
    shape = subst (λ (t : Tree). HasShape s.tree t) (sym tree) (record { names = λ text. refl; nodes = λ text i way. refl });
    user = user;
  };
  sound = good.lawful.tree.sound;
  bytes = λ is. subst (λ (t : Tree). IsReachedStill (λ (n : TreeNode). n) s.tree t) (sym tree) (record { names = λ text. refl; nodes = λ text i way. refl });
  own = own;
  opened = files;
  here = here;
  there = begins-in m good tame pid;
}

pub stays-beside : (exec : Bool) (pid : ℕ) (s : State ℕ Image) (m : Machine Tracing) → IsGood m → IsTame m → laid m.state ≡ laid s → image_in pid m.state ≡ image_in pid s → StaysFor exec pid s m.state
stays-beside exec pid s m good tame same image =
    let tree : m.state.tree ≡ s.tree = ap (λ (u : State ℕ Layout). u.tree) same in
    let cwds : option_map cwd_in (process pid m.state) ≡ option_map cwd_in (process pid s) = cwd-beside s m.state same pid in
    let files : (fd : ℕ) → option_map open_of (opened pid fd m.state) ≡ option_map open_of (opened pid fd s) = λ fd. ap (option_map open_of) (opened-beside s m.state same pid fd) in
    stays-on-tree exec pid s m good tame tree (ap (λ (u : State ℕ Layout). u.user) same) (own-joined (process pid m.state) (process pid s) cwds image) files
    (begins-by pid m.state s (sym tree) (sym cwds) (λ fd. sym (files fd)) (begins-in m good tame pid))

-- ---- a call that waits

module _ (pid : ℕ) (s : State ℕ Image) where
  process-waiting : (q : ℕ) → process q (waiting pid s) ≡ option_map (at_pid pid (going (λ regs. regs) true)) (process q s)
  process-waiting q = found pid (going (λ regs. regs) true) (λ p. refl) q s.living

  own-waiting : option_map own_of (process pid (waiting pid s)) ≡ option_map own_of (process pid s)
  own-waiting = ap (option_map own_of) (process-waiting pid) ∙ by (process pid s)
    where
      either : (b : Bool) (p : Process ℕ Image) → own_of (cond b (going (λ regs. regs) true p) p) ≡ own_of p
      either true p = refl
      either false p = refl

      by : (o : Option (Process ℕ Image)) → option_map own_of (option_map (at_pid pid (going (λ regs. regs) true)) o) ≡ option_map own_of o
      by None = refl
      by (Some p) = ap (λ (x : Image × Place ℕ). Some x) (either (p.pid == pid) p)

  named-waiting : (fd : ℕ) → named pid fd (waiting pid s) ≡ named pid fd s
  named-waiting fd = ap (option_and_then (λ (p : Process ℕ Image). map.get p.descs fd)) (process-waiting pid) ∙ by (process pid s)
    where
      either : (b : Bool) (p : Process ℕ Image) → map.get (cond b (going (λ regs. regs) true p) p).descs fd ≡ map.get p.descs fd
      either true p = refl
      either false p = refl

      by : (o : Option (Process ℕ Image))
          → option_and_then (λ (p : Process ℕ Image). map.get p.descs fd) (option_map (at_pid pid (going (λ regs. regs) true)) o) ≡ option_and_then (λ (p : Process ℕ Image). map.get p.descs fd) o
      by None = refl
      by (Some p) = either (p.pid == pid) p

  opened-waiting : (fd : ℕ) → opened pid fd (waiting pid s) ≡ opened pid fd s
  opened-waiting fd = ap (option_and_then (λ (x : Named). file_at s.files x.number)) (named-waiting fd)

pub stays-waiting : (exec : Bool) (pid : ℕ) (m n : Machine Tracing) → IsGood m → IsTame m → IsGood n → IsTame n → n.state ≡ cleared (waiting pid m.state) → StaysFor exec pid m.state n.state
stays-waiting exec pid m n good tame good_there tame_there is =
    stays-on-tree exec pid m.state n good_there tame_there (ap (λ (s : State ℕ Image). s.tree) is) (ap (λ (s : State ℕ Image). s.user) is)
    (ap (λ (s : State ℕ Image). option_map own_of (process pid s)) is ∙ own-waiting pid m.state) (λ fd. ap (λ (s : State ℕ Image). option_map open_of (opened pid fd s)) is ∙ ap (option_map open_of) (opened-waiting pid m.state fd))
    (begins-in m good tame pid)
