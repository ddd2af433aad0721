-- A process that is stopped in two states in which it is what it was, and edits of it that are the same in both.
use Rattle.std.proofs.Common.{◌≡◌, ℕ, Bool, true, false, cond, Option, Some, None, get_or, refl, sym, ap, ◌∙◌}
use Rattle.std.specs.FinMap as map
use Rattle.std.specs.Prelude.{◌==◌, slice_set}
use Rattle.std.specs.Option.{option_and_then, option_map, option_map_or}
use Rattle.std.proofs.lemmas.Option.{same_Some}
use Rattle.pt_tracer.proofs.law_lawful.ProcessChangeLemmas.{found, found-passes}
use Rattle.pt_tracer.specs.rv_mem.Actions.{CarriedOut, carried_out}
use Rattle.pt_tracer.specs.rv_mem.Memory.{Memory}
use Rattle.pt_tracer.specs.rv_mem.declared.regs.Regs.{Regs}
use Rattle.pt_tracer.specs.pt_results.kr_calls.Decoding.{Decoded, decoding}
use Rattle.pt_tracer.specs.pt_faker.Stopping.{after_request, decoded_at, memory_at, register_at, with_memory, with_register}
use Rattle.kr_loose.specs.kr_model.kr_files.Descriptors.{Named}
use Rattle.kr_loose.specs.kr_model.kr_files.Files.{file_at}
use Rattle.kr_loose.specs.kr_model.kr_files.declared.opened.Opened.{Opened}
use Rattle.kr_loose.specs.kr_model.Applied.{with_image}
use Rattle.kr_loose.specs.kr_model.FileRows.{is_dir}
use Rattle.kr_loose.specs.kr_model.State.{Image, Process, State, at_pid, is_pid, named, opened, process}
use Rattle.kr_loose.specs.kr_tree.Tree.{Tree, body_is, is_directory}
use Rattle.kr_loose.specs.kr_tree.declared.place.Host.TheVariants.{Node}
use Rattle.kr_loose.specs.kr_tree.declared.place.Place.{Place}
use Rattle.kr_loose.specs.kr_stops.Stopped.{Stopped, computed, edited, image_at, image_in, no_image}
use Rattle.law_entries.specs.Lasting.{BeginsOnNodes, StaysAt, StaysFor, open_of, own_of}

-- ---- what a process computes on is given

abbrev pub with_own : Image → Process ℕ Image → Process ℕ Image
with_own own = with_image (λ (image : Image). own)

abbrev own_given : Image → Image × Place ℕ → Image × Place ℕ
own_given own x = (own, x.1)

-- the image of a process, if it lives
abbrev pub image_of : Option (Process ℕ Image) → Image
image_of o = option_map_or (λ (p : Process ℕ Image). p.image) o no_image

module _ (pid : ℕ) (regs : Regs) (memory : Memory) (s : State ℕ Image) where
  pub process-computed : (q : ℕ) → process q (computed pid regs memory s) ≡ option_map (at_pid pid (with_own (record { regs = regs; memory = memory }))) (process q s)
  process-computed q = found pid (with_own (record { regs = regs; memory = memory })) (λ p. refl) q s.living

  own-computed : option_map own_of (process pid (computed pid regs memory s)) ≡ option_map (own_given (record { regs = regs; memory = memory })) (option_map own_of (process pid s))
  own-computed = ap (option_map own_of) (process-computed pid) ∙ by (process pid s) refl
    where
      by : (o : Option (Process ℕ Image)) → process pid s ≡ o
          → option_map own_of (option_map (at_pid pid (with_own (record { regs = regs; memory = memory }))) o) ≡ option_map (own_given (record { regs = regs; memory = memory })) (option_map own_of o)
      by None e = refl
      by (Some p) e = ap (λ b. Some (own_of (cond b (with_own (record { regs = regs; memory = memory }) p) p))) (found-passes (is_pid pid) s.living p e)

  -- one that doesn't live isn't given any
  pub image-computed : image_in pid (computed pid regs memory s) ≡ option_map_or (λ (p : Process ℕ Image). record { regs = regs; memory = memory }) (process pid s) no_image
  image-computed = ap image_of (process-computed pid) ∙ by (process pid s) refl
    where
      by : (o : Option (Process ℕ Image)) → process pid s ≡ o
          → image_of (option_map (at_pid pid (with_own (record { regs = regs; memory = memory }))) o) ≡ option_map_or (λ (p : Process ℕ Image). record { regs = regs; memory = memory }) o no_image
      by None e = refl
      by (Some p) e = ap (λ b. (cond b (with_own (record { regs = regs; memory = memory }) p) p).image) (found-passes (is_pid pid) s.living p e)

  -- all else of it stays, and of all others
  pub cwd-computed : (q : ℕ) → option_map (λ (p : Process ℕ Image). p.cwd) (process q (computed pid regs memory s)) ≡ option_map (λ (p : Process ℕ Image). p.cwd) (process q s)
  cwd-computed q = ap (option_map (λ (p : Process ℕ Image). p.cwd)) (process-computed q) ∙ by (process q s)
    where
      either : (b : Bool) (p : Process ℕ Image) → (cond b (with_own (record { regs = regs; memory = memory }) p) p).cwd ≡ p.cwd
      either true p = refl
      either false p = refl

      by : (o : Option (Process ℕ Image)) → option_map (λ (p : Process ℕ Image). p.cwd) (option_map (at_pid pid (with_own (record { regs = regs; memory = memory }))) o) ≡ option_map (λ (p : Process ℕ Image). p.cwd) o
      by None = refl
      by (Some p) = ap (λ (c : Place ℕ). Some c) (either (p.pid == pid) p)

  named-computed : (q fd : ℕ) → named q fd (computed pid regs memory s) ≡ named q fd s
  named-computed q fd = ap (option_and_then (λ (p : Process ℕ Image). map.get p.descs fd)) (process-computed q) ∙ by (process q s)
    where
      either : (b : Bool) (p : Process ℕ Image) → map.get (cond b (with_own (record { regs = regs; memory = memory }) p) p).descs fd ≡ map.get p.descs fd
      either true p = refl
      either false p = refl

      by : (o : Option (Process ℕ Image))
          → option_and_then (λ (p : Process ℕ Image). map.get p.descs fd) (option_map (at_pid pid (with_own (record { regs = regs; memory = memory }))) o) ≡ option_and_then (λ (p : Process ℕ Image). map.get p.descs fd) o
      by None = refl
      by (Some p) = either (p.pid == pid) p

  pub opened-computed : (q fd : ℕ) → opened q fd (computed pid regs memory s) ≡ opened q fd s
  opened-computed q fd = ap (option_and_then (λ (x : Named). file_at s.files x.number)) (named-computed q fd)

-- one that is given its own has it
pub image-again : (pid : ℕ) (s : State ℕ Image) → image_in pid (computed pid (image_in pid s).regs (image_in pid s).memory s) ≡ image_in pid s
image-again pid s = image-computed pid (image_in pid s).regs (image_in pid s).memory s ∙ by (process pid s)
  where
    by : (o : Option (Process ℕ Image)) → option_map_or (λ (p : Process ℕ Image). image_of o) o no_image ≡ image_of o
    by None = refl
    by (Some p) = refl

-- ---- where paths begin

pub begins-by : (pid : ℕ) (s t : State ℕ Image) → t.tree ≡ s.tree → option_map (λ (p : Process ℕ Image). p.cwd) (process pid t) ≡ option_map (λ (p : Process ℕ Image). p.cwd) (process pid s)
    → ((fd : ℕ) → option_map open_of (opened pid fd t) ≡ option_map open_of (opened pid fd s)) → BeginsOnNodes pid s → BeginsOnNodes pid t
begins-by pid s t tree cwds files begins = record {
  working = λ p lives. by_cwd p.cwd (process pid s) refl (sym cwds ∙ ap (option_map (λ (p : Process ℕ Image). p.cwd)) lives);
  open_directories = λ fd o p there dir place. by_open fd o p dir place (opened pid fd s) refl (sym (files fd) ∙ ap (option_map open_of) there);
}
  where
    by_cwd : (c : Place ℕ) (o : Option (Process ℕ Image)) → process pid s ≡ o → option_map (λ (p : Process ℕ Image). p.cwd) o ≡ Some c → (i : ℕ) × (c.host ≡ Node i)
    by_cwd c None e is = absurd cc
    by_cwd c (Some q) e is =
        let begin = begins.working q e in
        (begin.0, ap (λ (c : Place ℕ). c.host) (sym (same_Some q.cwd c is)) ∙ begin.1)

    by_open : (fd : ℕ) (o : Opened ℕ) (p : Place ℕ) → is_dir o.what ≡ true → o.place ≡ Some p → (other : Option (Opened ℕ)) → opened pid fd s ≡ other → option_map open_of other ≡ Some (open_of o)
        → (i : ℕ) × (p.host ≡ Node i) × (body_is is_directory t.tree i ≡ true)
    by_open fd o p dir place None e is = absurd cc
    by_open fd o p dir place (Some q) e is =
        let same = same_Some (open_of q) (open_of o) is in
        let begin = begins.open_directories fd q p e (ap (λ (x : Bool × Option (Place ℕ)). x.0) same ∙ dir) (ap (λ (x : Bool × Option (Place ℕ)). x.1) same ∙ place) in
        (begin.0, begin.1, ap (λ (tree : Tree). body_is is_directory tree begin.0) tree ∙ begin.2)

begins-computed : (pid n : ℕ) (regs : Regs) (memory : Memory) (s : State ℕ Image) → BeginsOnNodes pid s → BeginsOnNodes pid (computed n regs memory s)
begins-computed pid n regs memory s begins =
    begins-by pid s (computed n regs memory s) refl (cwd-computed n regs memory s pid) (λ fd. ap (option_map open_of) (opened-computed n regs memory s pid fd)) begins

-- ---- two states

image-own : (pid : ℕ) (s : State ℕ Image) → image_in pid s ≡ option_map_or (λ (x : Image × Place ℕ). x.0) (option_map own_of (process pid s)) no_image
image-own pid s = by (process pid s)
  where
    by : (o : Option (Process ℕ Image)) → image_of o ≡ option_map_or (λ (x : Image × Place ℕ). x.0) (option_map own_of o) no_image
    by None = refl
    by (Some p) = refl

module _ (exec : Bool) (pid : ℕ) (s t : State ℕ Image) (stays : StaysFor exec pid s t) where
  pub image-stays : image_in pid t ≡ image_in pid s
  image-stays = image-own pid t ∙ ap (λ (o : Option (Image × Place ℕ)). option_map_or (λ (x : Image × Place ℕ). x.0) o no_image) stays.own ∙ sym (image-own pid s)

  pub stays-computed : (n k : ℕ) (regs more : Regs) (memory much : Memory) → n ≡ pid → k ≡ pid → more ≡ regs → much ≡ memory → StaysFor exec pid (computed n regs memory s) (computed k more much t)
  stays-computed n k regs more memory much first second same alike = record {
    shape = record { sound = stays.shape.sound; shape = stays.shape.shape; user = stays.shape.user };
    sound = stays.sound;
    bytes = stays.bytes;
    own =
        ap (λ n. option_map own_of (process pid (computed n more much t))) second ∙ own-computed pid more much t
        ∙ (λ i. option_map (own_given (record { regs = same i; memory = alike i })) (stays.own i))
        ∙ sym (ap (λ n. option_map own_of (process pid (computed n regs memory s))) first ∙ own-computed pid regs memory s);
    opened = λ fd. ap (option_map open_of) (opened-computed k more much t pid fd) ∙ stays.opened fd ∙ sym (ap (option_map open_of) (opened-computed n regs memory s pid fd));
    here = begins-computed pid n regs memory s stays.here;
    there = begins-computed pid k more much t stays.there;
  }

-- ---- two stopped processes

module _ (exec : Bool) (pid : ℕ) (t u : Stopped) (at : StaysAt exec pid t u) where
  pub image-same : image_at u ≡ image_at t
  image-same = ap (λ n. image_in n u.state) at.second ∙ image-stays exec pid t.state u.state at.stays ∙ sym (ap (λ n. image_in n t.state) at.first)

  pub memory-same : memory_at u ≡ memory_at t
  memory-same = ap (λ (image : Image). image.memory) image-same

  pub register-same : (k : ℕ) → register_at u k ≡ register_at t k
  register-same k = ap (λ (image : Image). get_or image.regs.x k 0) image-same

  pub stays-edited : (regs more : Regs) (memory much : Memory) → more ≡ regs → much ≡ memory → StaysAt exec pid (edited regs memory t) (edited more much u)
  stays-edited regs more memory much same alike = record {
    first = at.first;
    second = at.second;
    stays = stays-computed exec pid t.state u.state at.stays t.pid u.pid regs more memory much at.first at.second same alike;
  }

  pub stays-memory : (memory much : Memory) → much ≡ memory → StaysAt exec pid (with_memory memory t) (with_memory much u)
  stays-memory memory much alike = stays-edited (image_at t).regs (image_at u).regs memory much (ap (λ (image : Image). image.regs) image-same) alike

  pub stays-register : (k v w : ℕ) → w ≡ v → StaysAt exec pid (with_register k v t) (with_register k w u)
  stays-register k v w same =
      stays-edited (record { x = slice_set (image_at t).regs.x k v; pc = (image_at t).regs.pc }) (record { x = slice_set (image_at u).regs.x k w; pc = (image_at u).regs.pc }) (image_at t).memory (image_at u).memory
      (λ i. record { x = slice_set (image-same i).regs.x k (same i); pc = (image-same i).regs.pc }) memory-same

  pub decoded-same : decoded_at u ≡ decoded_at t
  decoded-same = ap (λ (image : Image). carried_out (decoding image.regs) image.memory) image-same

  pub stays-request : StaysAt exec pid (after_request t) (after_request u)
  stays-request = stays-memory (decoded_at t).memory (decoded_at u).memory (ap (λ (done : CarriedOut Decoded). done.memory) decoded-same)
