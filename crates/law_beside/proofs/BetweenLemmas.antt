-- States that are equal but for what some processes compute on, behind what is done to one process, and what others keep.
use Rattle.std.proofs.Common.{◌≡◌, ◌≢◌, ℕ, Bool, true, false, cond, ◌||◌, not, [], ◌∷◌, Option, Some, None, refl, sym, ap, ◌∙◌}
use Rattle.std.specs.Prelude.{◌==◌, is_some, IsSome}
use Rattle.std.specs.Option.{option_map, option_map_or}
use Rattle.std.proofs.lemmas.Bool.{and_parts, both_ways, not-true}
use Rattle.kr_core.specs.rv_mem.Layout.{layout_of}
use Rattle.kr_core.specs.rv_mem.Memory.{Memory}
use Rattle.kr_core.specs.rv_mem.declared.regs.Regs.{Regs}
use Rattle.kr_core.specs.kr_model.Applied.{all_applied, images, with_image, with_living}
use Rattle.kr_core.specs.kr_model.Change.{End}
use Rattle.kr_core.specs.kr_model.Lawful.{ArePids}
use Rattle.kr_core.specs.kr_model.State.{Image, Layout, Process, State, at_pid, image_layout, is_pid, process, with_process}
use Rattle.kr_core.specs.law_allowed.Others.{LivesOn, Own}
use Rattle.kr_core.specs.kr_seen.Carrying.{with_memory, with_memory_of}
use Rattle.kr_core.specs.kr_steps.Answering.{going}
use Rattle.kr_core.specs.kr_stops.Stopped.{IsEdited, IsThere, Stopped, computed, image_at, image_in, no_image}
use Rattle.kr_core.specs.kr_turns.Breaking.{no_mounts}
use Rattle.kr_core.specs.kr_turns.PlainCall.{plain_call}
use Rattle.kr_core.specs.kr_turns.Run.{cleared}
use Rattle.kr_core.specs.kr_turns.Turn.{killed}
use Rattle.kr_core.proofs.law_allowed.OthersLemmas.{all_others_live, others_live, others_same}
use Rattle.kr_core.proofs.law_lawful.ProcessChangeLemmas.{found, found-passes}
use Rattle.kr_core.proofs.law_lawful.SumLemmas.{same-test}
use Rattle.kr_core.proofs.kr_turns.ApartLemmas.{call_leaves}
use Rattle.law_beside.specs.Beside.{AreBeside, laid, laid_process}
use Rattle.law_beside.specs.Changes.{EditsStayBeside, EndsComeBeside, OthersKeepImages}
use Rattle.law_beside.proofs.ImagedLemmas.{alone-imaged, own-number}
use Rattle.law_beside.proofs.ShownLemmas.{some-laid, told-both}
use Rattle.law_beside.proofs.BesideLemmas.{agreed-beside, beside-more}

-- ---- one process alone, by what becomes of what it computes on, and of its layout

module _ {M : Type 0} (pid : ℕ) (f : Process M Image → Process M Image) (g : Process M Layout → Process M Layout) (act : Image → Image) where
  -- it keeps its number, and all else is made of the image and of the layout alone
  pub record Acts : Type 0 where
    pub pids : (p : Process M Image) → (f p).pid ≡ p.pid
    pub acts : (p : Process M Image) → (f p).image ≡ act p.image
    pub lays : (p : Process M Image) → g (laid_process p) ≡ laid_process (f p)

  module _ (a : Acts) where
    pub one-laid : (s : State M Image) → laid (with_living (with_process pid f) s) ≡ with_living (with_process pid g) (laid s)
    one-laid s = sym (alone-imaged (λ (n : ℕ). image_layout) pid f g (λ p is. a.lays p) s)

    image-one : (q : ℕ) (s : State M Image) → image_in q (with_living (with_process pid f) s) ≡ option_map_or (λ p. cond (q == pid) (act p.image) p.image) (process q s) no_image
    image-one q s = ap (λ (o : Option (Process M Image)). option_map_or (λ (p : Process M Image). p.image) o no_image) (found pid f a.pids q s.living) ∙ by (process q s) refl
      where
        here : (p : Process M Image) (b : Bool) → (cond b (f p) p).image ≡ cond b (act p.image) p.image
        here p true = a.acts p
        here p false = refl

        by : (o : Option (Process M Image)) → process q s ≡ o → option_map_or (λ p. p.image) (option_map (at_pid pid f) o) no_image ≡ option_map_or (λ p. cond (q == pid) (act p.image) p.image) o no_image
        by None at = refl
        by (Some p) at = here p (p.pid == pid) ∙ ap (λ n. cond (n == pid) (act p.image) p.image) (own-number q s p at)

    image-both : (q : ℕ) (s t : State M Image) → laid s ≡ laid t → image_in q s ≡ image_in q t → image_in q (with_living (with_process pid f) s) ≡ image_in q (with_living (with_process pid f) t)
    image-both q s t same images = image-one q s ∙ told-both (λ image. cond (q == pid) (act image) image) no_image q s t same images ∙ sym (image-one q t)

    pub one-beside : (among : ℕ → Bool) (s t : State M Image) → AreBeside among s t → AreBeside among (with_living (with_process pid f) s) (with_living (with_process pid f) t)
    one-beside among s t b = record {
      same = one-laid s ∙ ap (with_living (with_process pid g)) b.same ∙ sym (one-laid t);
      images = λ q is. image-both q s t b.same (b.images q is);
    }

module _ {M : Type 0} (pid : ℕ) where
  -- ---- other registers and another memory

  abbrev with_layout : Memory → Process M Layout → Process M Layout
  with_layout memory p = with_image (λ (l : Layout). layout_of memory.pages) p

  abbrev put : Regs → Memory → Process M Image → Process M Image
  put regs memory p = with_image (λ (image : Image). record { regs = regs; memory = memory }) p

  put-acts : (regs : Regs) (memory : Memory) → Acts pid (put regs memory) (with_layout memory) (λ image. record { regs = regs; memory = memory })
  put-acts regs memory = record { pids = λ p. refl; acts = λ p. refl; lays = λ p. refl }

  pub computed-laid : (regs : Regs) (memory : Memory) (s : State M Image) → laid (computed pid regs memory s) ≡ with_living (with_process pid (with_image (λ (l : Layout). layout_of memory.pages))) (laid s)
  computed-laid regs memory s = one-laid pid (put regs memory) (with_layout memory) (λ image. record { regs = regs; memory = memory }) (put-acts regs memory) s

  pub computed-beside : (among : ℕ → Bool) (regs : Regs) (memory : Memory) (s t : State M Image) → AreBeside among s t → AreBeside among (computed pid regs memory s) (computed pid regs memory t)
  computed-beside among regs memory s t b = one-beside pid (put regs memory) (with_layout memory) (λ image. record { regs = regs; memory = memory }) (put-acts regs memory) among s t b

  -- its own memory alone
  pub noted-beside : (among : ℕ → Bool) (memory : Memory) (s t : State M Image) → AreBeside among s t → AreBeside among (with_memory_of pid memory s) (with_memory_of pid memory t)
  noted-beside among memory s t b =
      one-beside pid (with_image (with_memory memory)) (with_layout memory) (with_memory memory) (record { pids = λ p. refl; acts = λ p. refl; lays = λ p. refl }) among s t b

  -- its registers, and whether it stays at a call
  abbrev staying : Bool → Process M Layout → Process M Layout
  staying waits p = record {
    pid = p.pid;
    parent = p.parent;
    image = p.image;
    brk_start = p.brk_start;
    brk = p.brk;
    descs = p.descs;
    cwd = p.cwd;
    exe = p.exe;
    exe_dir = p.exe_dir;
    exe_name = p.exe_name;
    umask = p.umask;
    waits = waits;
  }

  pub going-beside : (among : ℕ → Bool) (regs : Regs → Regs) (waits : Bool) (s t : State M Image) → AreBeside among s t
      → AreBeside among (with_living (with_process pid (going regs waits)) s) (with_living (with_process pid (going regs waits)) t)
  going-beside among regs waits s t b =
      one-beside pid (going regs waits) (staying waits) (λ image. record { regs = regs image.regs; memory = image.memory }) (record { pids = λ p. refl; acts = λ p. refl; lays = λ p. refl }) among s t b

  -- who was given them has them, if it lives
  own-put : (regs : Regs) (memory : Memory) (s : State M Image) → image_in pid (computed pid regs memory s) ≡ cond (is_some (process pid s)) (record { regs = regs; memory = memory }) no_image
  own-put regs memory s =
      ap (λ (o : Option (Process M Image)). option_map_or (λ (p : Process M Image). p.image) o no_image) (found pid (put regs memory) (λ p. refl) pid s.living) ∙ by (process pid s) refl
    where
      given : Image
      given = record { regs = regs; memory = memory }

      by : (o : Option (Process M Image)) → process pid s ≡ o → option_map_or (λ p. p.image) (option_map (at_pid pid (put regs memory)) o) no_image ≡ cond (is_some o) given no_image
      by None at = refl
      by (Some p) at = ap (λ (b : Bool). (cond b (put regs memory p) p).image) (found-passes (is_pid pid) s.living p at)

  own-both : (regs : Regs) (memory : Memory) (s t : State M Image) → laid s ≡ laid t → image_in pid (computed pid regs memory s) ≡ image_in pid (computed pid regs memory t)
  own-both regs memory s t same =
      own-put regs memory s ∙ ap (λ (b : Bool). cond b (record { regs = regs; memory = memory }) no_image) (some-laid pid s t same) ∙ sym (own-put regs memory t)

  pub computed-more : (among : ℕ → Bool) (regs : Regs) (memory : Memory) (s t : State M Image) → AreBeside among s t
      → AreBeside (λ q. among q || (q == pid)) (computed pid regs memory s) (computed pid regs memory t)
  computed-more among regs memory s t b =
      beside-more among pid (computed pid regs memory s) (computed pid regs memory t) (own-both regs memory s t b.same) (computed-beside among regs memory s t b)

-- ---- others

lives-image : (q : ℕ) (s t : State ℕ Image) → LivesOn q s t → IsSome (process q s) → image_in q t ≡ image_in q s
lives-image q s t on lives = by (process q s) refl lives
  where
    by : (o : Option (Process ℕ Image)) → process q s ≡ o → IsSome o → image_in q t ≡ option_map_or (λ p. p.image) o no_image
    by None at some = absurd cc
    by (Some p) at some =
        let after = on p at in
        ap (λ (o : Option (Process ℕ Image)). option_map_or (λ (p : Process ℕ Image). p.image) o no_image) after.1 ∙ ap (λ (o : Own ℕ Image). o.image) after.2

computed-other : (pid q : ℕ) (regs : Regs) (memory : Memory) (s : State ℕ Image) → q ≢ pid → image_in q (computed pid regs memory s) ≡ image_in q s
computed-other pid q regs memory s other =
    ap (λ (o : Option (Process ℕ Image)). option_map_or (λ (p : Process ℕ Image). p.image) o no_image)
    (others_same ℕ Image pid (with_image (λ (image : Image). record { regs = regs; memory = memory })) (λ p. refl) s q other)

pub others_keep_images : OthersKeepImages
others_keep_images = record {
  changes = λ mounts pid q cs s other lives. lives-image q s (all_applied images mounts pid cs s) (all_others_live ℕ Image images mounts pid cs s q other) lives;
  call = λ table pid q s other lives. lives-image q s (plain_call table pid s).state (call_leaves pid q other table s) lives;
  killed = λ pid q signal s other lives. lives-image q s (killed pid signal s) (others_live ℕ Image images no_mounts pid (End signal) s q other) lives;
  computed = computed-other;
}

-- ---- what is done between calls

pub killed-beside : (among : ℕ → Bool) (pid signal : ℕ) (s t : State ℕ Image) → ArePids s → AreBeside among s t → AreBeside among (killed pid signal s) (killed pid signal t)
killed-beside among pid signal s t pids b = agreed-beside no_mounts pid (End signal ∷ []) among s t pids b (tt, tt)

abbrev cleared_layouts : State ℕ Layout → State ℕ Layout
cleared_layouts s = record {
  tree = s.tree;
  user = s.user;
  files = s.files;
  input = s.input;
  taken = s.taken;
  out = [];
  err = [];
  living = s.living;
  ended = s.ended;
  next_pid = s.next_pid;
}

pub cleared-beside : (among : ℕ → Bool) (s t : State ℕ Image) → AreBeside among s t → AreBeside among (cleared s) (cleared t)
cleared-beside among s t b = record { same = ap cleared_layouts b.same; images = b.images }

pub ends_come_beside : EndsComeBeside
ends_come_beside = record {
  killed = killed-beside;
  computed = λ among pid regs memory s t b. computed-more pid among regs memory s t b;
  waiting = λ among pid s t b. going-beside pid among (λ regs. regs) true s t b;
  cleared = cleared-beside;
}

-- ---- stops

edited-laid : (t u : Stopped) → IsThere t → IsEdited t u → laid u.state ≡ laid t.state
edited-laid t u there edits =
    ap (λ (v : Stopped). laid v.state) edits.becomes
    ∙ computed-laid t.pid (image_at u).regs (image_at u).memory t.state
    ∙ ap (λ (layout : Layout). with_living (with_process t.pid (with_image (λ (l : Layout). layout))) (laid t.state)) edits.layout
    ∙ sym (computed-laid t.pid (image_at t).regs (image_at t).memory t.state)
    ∙ ap (λ (v : Stopped). laid v.state) there.one

edited-image : (t u : Stopped) (q : ℕ) → IsEdited t u → not (q == t.pid) ≡ true → image_in q u.state ≡ image_in q t.state
edited-image t u q edits other =
    ap (λ (v : Stopped). image_in q v.state) edits.becomes
    ∙ computed-other t.pid q (image_at u).regs (image_at u).memory t.state (λ same. both_ways (q == t.pid) (not-true (q == t.pid) other) (same-test q t.pid same))

pub edits_stay_beside : EditsStayBeside
edits_stay_beside = record {
  first = λ among t u s there edits b. record {
    same = edited-laid t u there edits ∙ b.same;
    images = λ q is. let parts = and_parts (among q) (not (q == t.pid)) is in edited-image t u q edits parts.1 ∙ b.images q parts.0;
  };
  second = λ among s t u there edits b. record {
    same = b.same ∙ sym (edited-laid t u there edits);
    images = λ q is. let parts = and_parts (among q) (not (q == t.pid)) is in b.images q parts.0 ∙ sym (edited-image t u q edits parts.1);
  };
}
