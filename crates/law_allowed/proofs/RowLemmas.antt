-- How a row is gone through: its reads and writes keep what a lawful state says of the caller's memory, and its changes can
-- be made where those of each of its ends can.
use Rattle.std.specs.FinMap as map
use Rattle.std.proofs.Common.{◌≡◌, subst, ℕ, zero, suc, ◌+◌, ◌≤◌, ◌<◌, Bool, true, false, ◌&&◌, List, [], ◌∷◌, length, refl, sym, ap, ◌∙◌, arith, cond, Some, None, Option, IsSome}
use Rattle.std.specs.Prelude.{map as map_list, ◌==◌, nat_le}
use Rattle.std.specs.List.{AllByRecursion, find, list_all}
use Rattle.std.specs.Option.{option_map}
use Rattle.std.proofs.lemmas.Bool.Decides.{nat_tests}
use Rattle.std.proofs.lemmas.Bool.{and_parts}
use Rattle.law_lawful.specs.pr_base.declared.errno.Errno.{Errno}
use Rattle.law_lawful.specs.rv_mem.Actions.{Action, Done, MayUse, ReadBytes, WriteBytes, carried_out, allows_uses}
use Rattle.law_lawful.specs.rv_mem.declared.rights.Use.{Use}
use Rattle.law_lawful.specs.rv_mem.Layout.{Layout, layout_of}
use Rattle.law_lawful.specs.rv_mem.Memory.{Memory, with_pages, after_read}
use Rattle.law_lawful.specs.rv_mem.Pages.{Pages, bytes_from, written, IsWhole, IsPlaced}
use Rattle.law_lawful.proofs.rv_mem.LayoutLemmas.{layouts_follow}
use Rattle.law_lawful.proofs.rv_mem.SpaceLemmas.{IsWhole-written, IsPlaced-written}
use Rattle.law_lawful.specs.kr_inode.declared.user.User.{User}
use Rattle.law_lawful.specs.kr_tree.Lawful.{AreBytes}
use Rattle.law_lawful.specs.kr_tree.Tree.{Tree}
use Rattle.law_lawful.proofs.kr_tree.NameLemmas.{some_is}
use Rattle.law_lawful.specs.kr_view.View.{Row}
use Rattle.law_lawful.specs.rv_mem.declared.regs.Regs.{Regs}
use Rattle.law_lawful.specs.kr_model.Applied.{Mounts, with_image, with_living}
use Rattle.law_lawful.specs.kr_model.Bare.{bare, bare_process}
use Rattle.law_lawful.specs.kr_model.Change.{Change, AddNode}
use Rattle.law_lawful.specs.kr_model.Known.{Known, known}
use Rattle.law_lawful.specs.kr_model.Lawful.{IsLawful, RiseFrom}
use Rattle.law_lawful.specs.kr_model.Reply.{Reply, Replying, refuse}
use Rattle.law_lawful.specs.kr_model.declared.outcome.Outcome.{Outcome}
use Rattle.law_lawful.specs.kr_model.State.{Image, image_layout, Process, State, is_pid, process, with_process}
use Rattle.law_lawful.proofs.kr_model.KnownLemmas.{known-bare}
use Rattle.law_lawful.specs.Laws.{CanAllBeMade}
use Rattle.law_allowed.specs.Drawing.{DrawsOnce, drawn_by, names_drawn, files_drawn, pids_drawn}
use Rattle.law_allowed.specs.Lasting.{AreModest, IsOfUser}
use Rattle.law_lawful.proofs.AfterLemmas.{is-some, parts-of}
use Rattle.law_lawful.proofs.ChangeLemmas.{all-changes-keep}
use Rattle.law_lawful.proofs.OwnChangeLemmas.{process-keeps}
use Rattle.law_lawful.proofs.ProcessChangeLemmas.{found, sum-with}
use Rattle.law_lawful.proofs.SumLemmas.{passed-test, other-test}
use Rattle.law_allowed.specs.Allowed.{with_memory, HoldsBytes, IsAllowedWhere}

-- ---- memory

-- pages that lie where others do, with the same rights
pub record StaysLike (old new : Pages) : Type 0 where
  pub whole : IsWhole new
  pub placed : IsPlaced new
  pub layout : layout_of new ≡ layout_of old

pub stays-like : {A : Type 0} (action : Action A) (m : Memory) → IsWhole m.pages → IsPlaced m.pages → StaysLike m.pages (carried_out action m).memory.pages
stays-like (Done reply) m whole placed = record { whole = whole; placed = placed; layout = refl }
stays-like (MayUse at n uses next) m whole placed = stays-like (next (allows_uses m.pages at n uses)) m whole placed
stays-like (ReadBytes at n next) m whole placed = stays-like (next (bytes_from m.pages at n)) (after_read m at n) whole placed
stays-like (WriteBytes at bytes next) m whole placed =
    let after = stays-like next (with_pages m (written m.pages at bytes)) (IsWhole-written m.pages at bytes whole) (IsPlaced-written m.pages at bytes placed) in
    record { whole = after.whole; placed = after.placed; layout = after.layout ∙ layouts_follow.writes m.pages at bytes }

-- what is read are bytes, as many as were asked for
pub read-bytes : (m : Pages) → HoldsBytes m → (n at : ℕ) → AreBytes (bytes_from m at n)
unfolding bytes_from
read-bytes m holds zero at = tt
read-bytes m holds (suc n) at = (holds at, read-bytes m holds n (at + 1))

pub read-count : (m : Pages) (n at : ℕ) → length (bytes_from m at n) ≡ n
unfolding bytes_from
read-count m zero at = refl
read-count m (suc n) at = ap suc (read-count m n (at + 1))

-- ---- rows

-- a row of which every end has no changes or passes; behind a write nothing is said of what is read
pub data Allowed (Can : List Change → Type 0) : Bool → Replying → Type 0 where
  unchanged : {w : Bool} {outcome : Outcome} → Allowed Can w (Done (record { outcome = outcome; changes = [] }))
  ended : {w : Bool} {reply : Reply} → Can reply.changes → Allowed Can w (Done reply)
  tested : {w : Bool} {at n : ℕ} {uses : List Use} {next : Bool → Replying} → ((b : Bool) → Allowed Can w (next b)) → Allowed Can w (MayUse at n uses next)
  read : {w : Bool} {at n : ℕ} {next : List ℕ → Replying} → ((bytes : List ℕ) → length bytes ≡ n → (w ≡ false → AreBytes bytes) → Allowed Can w (next bytes)) → Allowed Can w (ReadBytes at n next)
  wrote : {w : Bool} {at : ℕ} {bytes : List ℕ} {next : Replying} → Allowed Can true next → Allowed Can w (WriteBytes at bytes next)
  either : {w : Bool} (b : Bool) {x y : Replying} → (b ≡ true → Allowed Can w x) → (b ≡ false → Allowed Can w y) → Allowed Can w (cond b x y)

pub refuses : {Can : List Change → Type 0} {w : Bool} (e : Errno) → Allowed Can w (refuse e)
refuses e = unchanged

after-write : {A : Type 0} → true ≡ false → A
after-write e = absurd cc

pub reached : {Can : List Change → Type 0} → Can [] → (w : Bool) (action : Replying) → Allowed Can w action → (m : Memory) → (w ≡ false → HoldsBytes m.pages) → Can (carried_out action m).reply.changes
reached none w action unchanged m holds = none
reached none w action (ended can) m holds = can
reached none w action (tested {at = at} {n = n} {uses = uses} {next = next} allowed) m holds = reached none w (next (allows_uses m.pages at n uses)) (allowed (allows_uses m.pages at n uses)) m holds
reached none w action (read {at = at} {n = n} {next = next} allowed) m holds =
    reached none w (next (bytes_from m.pages at n)) (allowed (bytes_from m.pages at n) (read-count m.pages n at) (λ first. read-bytes m.pages (holds first) n at)) (after_read m at n) holds
reached none w action (wrote {at = at} {bytes = bytes} {next = next} allowed) m holds = reached none true next allowed (with_pages m (written m.pages at bytes)) (λ e. after-write e)
reached none w action (either true {x = x} first second) m holds = reached none w x (first refl) m holds
reached none w action (either false {y = y} first second) m holds = reached none w y (second refl) m holds

-- ---- changes that make nothing

abbrev is_quiet : Change → Bool
is_quiet (AddNode dir name mode uid gid body) = false
is_quiet _ = true

-- whether changes draw no number twice, by the three counts
abbrev draws_once : List Change → Bool
draws_once cs = nat_le (drawn_by names_drawn cs) 1 && (nat_le (drawn_by files_drawn cs) 1 && nat_le (drawn_by pids_drawn cs) 1)

abbrev pub are_quiet : List Change → Bool
are_quiet cs = list_all is_quiet cs && draws_once cs

quiet-users : (user : User) (cs : List Change) → list_all is_quiet cs ≡ true → AllByRecursion (IsOfUser user) cs
quiet-users user [] e = tt
quiet-users user (c ∷ cs) e = let both = and_parts (is_quiet c) (list_all is_quiet cs) e in (by c both.0, quiet-users user cs both.1)
  where
    by : (c : Change) → is_quiet c ≡ true → IsOfUser user c
    by (AddNode dir name mode uid gid body) e = absurd cc
    by _ e = tt

pub draws-once : (cs : List Change) → draws_once cs ≡ true → DrawsOnce cs
draws-once cs e =
    let names = and_parts (nat_le (drawn_by names_drawn cs) 1) (nat_le (drawn_by files_drawn cs) 1 && nat_le (drawn_by pids_drawn cs) 1) e in
    let others = and_parts (nat_le (drawn_by files_drawn cs) 1) (nat_le (drawn_by pids_drawn cs) 1) names.1 in
    record { names = few (drawn_by names_drawn cs) names.0; files = few (drawn_by files_drawn cs) others.0; pids = few (drawn_by pids_drawn cs) others.1 }
  where
    few : (n : ℕ) → nat_le n 1 ≡ true → n ≤ 1
    few n e = grind (arith, nat_tests)

pub quietly : {user : User} {cs : List Change} → are_quiet cs ≡ true → AreModest user cs
quietly {user} {cs} e = let both = and_parts (list_all is_quiet cs) (draws_once cs) e in record { users = quiet-users user cs both.0; drawn = draws-once cs both.1 }

-- ---- states with another memory of the caller

module _ {M : Type 0} (pid : ℕ) (memory : Memory) where
  abbrev changed-memory : Process M Image → Process M Image
  changed-memory p = with_image (λ (image : Image). record { regs = image.regs; memory = memory }) p

  abbrev bare-one : Process M Image → Process (Unit {0}) Layout
  bare-one p = bare_process image_layout p

  module _ (next : ℕ) where
    -- none of a list that rises above a number has it
    bare-above : (low : ℕ) (ps : List (Process M Image)) → pid < low → RiseFrom low next (map_list (λ p. p.pid) ps) → map_list bare-one (with_process pid changed-memory ps) ≡ map_list bare-one ps
    bare-above low [] l rise = refl
    bare-above low (x ∷ ps) l rise =
        let above = rise.0 in
        let apart : (x.pid == pid) ≡ false = other-test x.pid pid (λ e. absurd (omega arith)) in
        ap (λ b. bare-one (cond b (changed-memory x) x) ∷ map_list bare-one (with_process pid changed-memory ps)) apart
        ∙ ap (λ rest. bare-one x ∷ rest) (bare-above (suc x.pid) ps (omega arith) rise.2)

    bare-with : (low : ℕ) (ps : List (Process M Image)) (p : Process M Image) → RiseFrom low next (map_list (λ p. p.pid) ps) → find (is_pid pid) ps ≡ Some p → layout_of memory.pages ≡ image_layout p.image
        → map_list bare-one (with_process pid changed-memory ps) ≡ map_list bare-one ps
    bare-with low [] p rise e same = refl
    bare-with low (x ∷ ps) p rise e same = by (bare-with (suc x.pid) ps p rise.2) (x.pid == pid) refl e
      where
        by : (find (is_pid pid) ps ≡ Some p → layout_of memory.pages ≡ image_layout p.image → map_list bare-one (with_process pid changed-memory ps) ≡ map_list bare-one ps)
            → (b : Bool) → (x.pid == pid) ≡ b → cond b (Some x) (find (is_pid pid) ps) ≡ Some p
            → (bare-one (cond b (changed-memory x) x) ∷ map_list bare-one (with_process pid changed-memory ps)) ≡ (bare-one x ∷ map_list bare-one ps)
        by later true is e =
            let one : x ≡ p = some_is x p e in
            let number : x.pid ≡ pid = passed-test x.pid pid is in
            let own : layout_of memory.pages ≡ image_layout x.image = same ∙ ap (λ (q : Process M Image). image_layout q.image) (sym one) in
            ap (λ (layout : Layout). with_image (λ (image : Layout). layout) (bare-one x) ∷ map_list bare-one (with_process pid changed-memory ps)) own
            ∙ ap (λ rest. bare-one x ∷ rest) (bare-above (suc x.pid) ps (omega arith) rise.2)
        by later false is e = ap (λ rest. bare-one x ∷ rest) (later e same)

module _ {M : Type 0} (number : M → ℕ) (table : List Row) where
  module _ (s : State M Image) (l : IsLawful number table s) (pid : ℕ) (p : Process M Image) (lives : process pid s ≡ Some p) (memory : Memory) (like : StaysLike p.image.memory.pages memory.pages) where
    -- what is known of it is the same
    known-same : known image_layout pid (with_memory pid memory s) ≡ known image_layout pid s
    known-same =
        let none : ℕ → ℕ = λ i. 0 in
        let living = bare-with pid memory s.next_pid 2 s.living p l.pids.living lives like.layout in
        let same : bare image_layout none (with_memory pid memory s) ≡ bare image_layout none s = ap (with_bare none) living in
        known-bare M none pid (with_memory pid memory s) ∙ ap (known (λ m. m) pid) same ∙ sym (known-bare M none pid s)
      where
        with_bare : (ℕ → ℕ) → List (Process (Unit {0}) Layout) → State (Unit {0}) Layout
        with_bare none living =
            let b = bare image_layout none s in
            record { tree = b.tree; user = b.user; files = b.files; input = b.input; taken = b.taken; out = b.out; err = b.err; living = living; ended = b.ended; next_pid = b.next_pid }

    pages-few : (q : Process M Image) → process pid s ≡ Some q → map.len memory.pages ≡ map.len q.image.memory.pages
    pages-few q e =
        let one : p ≡ q = some_is p q (sym lives ∙ e) in
        sym (layouts_follow.count memory.pages) ∙ ap (λ (m : Layout). map.len m) like.layout ∙ layouts_follow.count p.image.memory.pages ∙ ap (λ (q : Process M Image). map.len q.image.memory.pages) one

    -- whatever its registers are then
    pub lawful-image : (regs : Regs → Regs) → IsLawful number table (with_living (with_process pid (with_image (λ (image : Image). record { regs = regs image.regs; memory = memory }))) s)
    lawful-image regs =
        let f : Process M Image → Process M Image = λ p. with_image (λ (image : Image). record { regs = regs image.regs; memory = memory }) p in
        process-keeps number table s l pid f (record { pids = λ p. refl; cwds = λ p. refl; exes = λ p. refl; counts = λ p n. refl })
        (λ q e.
        let own = l.processes pid q e in
        let few = pages-few q e in
        let before = own.pages in
        record { cwd = own.cwd; exe = own.exe; exe_name = own.exe_name; breaks = own.breaks; whole = like.whole; paged = like.placed; pages = omega arith })
        (λ q e. let own = (parts-of number table s l).descriptors pid q e in record { each = own.each })
        (let sums = sum-with pid f (λ p. refl) (λ (q : Process M Image). map.len (image_layout q.image)) s.next_pid 2 s.living p l.pids.living lives in
        let same = ap (λ (m : Layout). map.len m) like.layout in
        let room = l.room in
        omega arith)

    pub lawful-memory : IsLawful number table (with_memory pid memory s)
    lawful-memory = lawful-image (λ regs. regs)

  -- a row is allowed, where in each state the changes at each of its ends can all be made
  pub row-allowed : (mounts : Mounts M) (pid : ℕ) (Rests : Tree → ℕ → Type 0) (row : Known → Replying)
      → ((s : State M Image) → IsLawful number table s → IsSome (process pid s) → Rests s.tree s.next_pid → Allowed (λ cs. CanAllBeMade number table mounts pid s cs × AreModest s.user cs) false (row (known image_layout pid s)))
      → IsAllowedWhere number table mounts pid Rests row
  row-allowed mounts pid Rests row allowed s p l lives holds rests =
      let own = l.processes pid p lives in
      let done = carried_out (row (known image_layout pid s)) p.image.memory in
      let like = stays-like (row (known image_layout pid s)) p.image.memory own.whole own.paged in
      let t : State M Image = with_memory pid done.memory s in
      let lawful : IsLawful number table t = lawful-memory s l pid p lives done.memory like in
      let there : IsSome (process pid t) = subst (λ o. IsSome o) (sym (found pid (changed-memory pid done.memory) (λ p. refl) pid s.living)) (some-changed _ (process pid s) (is-some (process pid s) p lives)) in
      let made = subst (λ k. Allowed (λ cs. CanAllBeMade number table mounts pid t cs × AreModest t.user cs) false (row k)) (known-same s l pid p lives done.memory like) (allowed t lawful there rests) in
      let can : CanAllBeMade number table mounts pid t done.reply.changes × AreModest t.user done.reply.changes = reached (tt, quietly refl) false (row (known image_layout pid s)) made p.image.memory (λ first. holds) in
      record { before = lawful; made = can.0; modest = can.1; lawful = all-changes-keep M number table mounts pid done.reply.changes t lawful can.0 }
    where
      some-changed : {A B : Type 0} (f : A → B) (o : Option A) → IsSome o → IsSome (option_map f o)
      some-changed f None there = absurd cc
      some-changed f (Some x) there = refl
