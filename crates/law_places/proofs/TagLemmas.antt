-- The tags of slots follow changes.
use Rattle.std.specs.FinMap as map
use Rattle.std.proofs.Common.{◌≡◌, ◌≢◌, ◌⊎◌, inl, inr, ℕ, zero, suc, ◌-◌, Bool, true, false, cond, List, [], ◌∷◌, nat_lt, Option, Some, None, refl, sym, ap, subst, ◌∙◌, map as map_list}
use Rattle.std.specs.Prelude.{◌==◌}
use Rattle.std.specs.Bool.{if◌then◌else◌}
use Rattle.std.specs.List.{find}
use Rattle.std.specs.Option.{option_and_then, option_map, option_map_or}
use Rattle.std.specs.Ordering.{nat_cmp}
use Rattle.std.proofs.lemmas.Bool.{cases_eq, eq-eqb, eqb-true, ne_eqb}
use Rattle.kr_calm.specs.pr_base.Maps.{changed, mapped}
use Rattle.kr_calm.proofs.pr_base.MapLemmas.{by_key, get-changed_other, get-changed_same, get-insert_other, get-insert_same, get-mapped, get-remove_other, get-remove_same}
use Rattle.law_walks.specs.pt_bind.Tags.{TagTable, tag_of, with_tag}
use Rattle.law_walks.specs.pt_bind.declared.slot.Slot.{Slot}
use Rattle.law_walks.specs.pt_bind.declared.slot.Slot.TheVariants.{Cwd, Exe, Fd}
use Rattle.law_walks.proofs.pt_bind.TagLemmas.{tags_change}
use Rattle.law_walks.specs.kr_tree.declared.place.Place.{Place}
use Rattle.law_walks.proofs.kr_tree.NameLemmas.{some_is, then_some}
use Rattle.law_walks.specs.kr_view.View.{Row}
use Rattle.law_walks.specs.kr_files.declared.opened.Opened.{Opened}
use Rattle.law_walks.specs.kr_files.Descriptors.{Named}
use Rattle.law_walks.specs.kr_files.Files.{Counted, Table, closed, file_at, without_file}
use Rattle.law_walks.specs.kr_model.State.{Image, Process, State, at_pid, is_pid, named, place_of, process, with_descs, with_process}
use Rattle.law_walks.specs.kr_model.Applied.{close, close_below, close_named, close_on_exec_below, is_closed_on_exec, let_go}
use Rattle.law_places.specs.Matching.{AreTagged, index_at}
use Rattle.law_places.proofs.FollowLemmas.{from_process, told_at}

-- ---- the places of open files

-- what is open under a number, after changes that make no new place
abbrev pub HasOldPlaces : Table ℕ → Table ℕ → Type 0
HasOldPlaces f g = (n : ℕ) (q : Place ℕ) → place_of g n ≡ Some q → place_of f n ≡ Some q

abbrev pub place_in_files : map.FinMap nat_cmp (Counted ℕ) → ℕ → Option (Place ℕ)
place_in_files files n = option_and_then (λ (o : Opened ℕ). o.place) (option_map (λ (h : Counted ℕ). h.opened) (map.get files n))

pub old_changed : (files : map.FinMap nat_cmp (Counted ℕ)) (k : ℕ) (F : Counted ℕ → Counted ℕ) → ((h : Counted ℕ) → (F h).opened.place ≡ h.opened.place) → (n : ℕ) → place_in_files (changed files k F) n ≡ place_in_files files n
old_changed files k F same n =
    by_key (λ n. place_in_files (changed files k F) n ≡ place_in_files files n) k
    (ap (λ o. option_and_then (λ (o : Opened ℕ). o.place) (option_map (λ (h : Counted ℕ). h.opened) o)) (get-changed_same files k F) ∙ by (map.get files k))
    (λ q away. ap (λ o. option_and_then (λ (o : Opened ℕ). o.place) (option_map (λ (h : Counted ℕ). h.opened) o)) (get-changed_other files k F q away)) n
  where
    by : (o : Option (Counted ℕ)) → option_and_then (λ (o : Opened ℕ). o.place) (option_map (λ (h : Counted ℕ). h.opened) (option_map F o)) ≡ option_and_then (λ (o : Opened ℕ). o.place) (option_map (λ (h : Counted ℕ). h.opened) o)
    by None = refl
    by (Some h) = same h

pub old_mapped : (files : map.FinMap nat_cmp (Counted ℕ)) (F : ℕ → Counted ℕ → Counted ℕ) → ((n : ℕ) (h : Counted ℕ) → (F n h).opened.place ≡ h.opened.place) → (n : ℕ) → place_in_files (mapped F files) n ≡ place_in_files files n
old_mapped files F same n = ap (λ o. option_and_then (λ (o : Opened ℕ). o.place) (option_map (λ (h : Counted ℕ). h.opened) o)) (get-mapped F files n) ∙ by (map.get files n)
  where
    by : (o : Option (Counted ℕ)) → option_and_then (λ (o : Opened ℕ). o.place) (option_map (λ (h : Counted ℕ). h.opened) (option_map (F n) o)) ≡ option_and_then (λ (o : Opened ℕ). o.place) (option_map (λ (h : Counted ℕ). h.opened) o)
    by None = refl
    by (Some h) = same n h

old_closed : (t : Table ℕ) (k : ℕ) → HasOldPlaces t (closed k t)
unfolding closed
old_closed t k n q = by (map.get t.files k) refl
  where
    told : Option (Counted ℕ) → Option (Place ℕ)
    told o = option_and_then (λ (o : Opened ℕ). o.place) (option_map (λ (h : Counted ℕ). h.opened) o)

    by : (o : Option (Counted ℕ)) → map.get t.files k ≡ o
        → place_of (option_map_or (λ (h : Counted ℕ). cond (nat_lt 1 h.count) (record t { files = map.insert t.files k (record h { count = h.count - 1 }) }) (without_file k h.opened.what t)) o t) n ≡ Some q → place_of t n ≡ Some q
    by None at e = e
    by (Some h) at e = one (nat_lt 1 h.count) e
      where
        one : (b : Bool) → place_of (cond b (record t { files = map.insert t.files k (record h { count = h.count - 1 }) }) (without_file k h.opened.what t)) n ≡ Some q → place_of t n ≡ Some q
        one true e =
            by_key (λ n. place_in_files (map.insert t.files k (record h { count = h.count - 1 })) n ≡ Some q → place_of t n ≡ Some q) k
            (λ e. ap told at ∙ sym (ap told (get-insert_same t.files k (record h { count = h.count - 1 }))) ∙ e)
            (λ m away e. sym (ap told (get-insert_other t.files k (record h { count = h.count - 1 }) m away)) ∙ e) n e
        one false e =
            by_key (λ n. place_in_files (map.remove t.files k) n ≡ Some q → place_of t n ≡ Some q) k
            (λ e. let clash : None ≡ Some q = sym (ap told (get-remove_same t.files k)) ∙ e in absurd cc)
            (λ m away e. sym (ap told (get-remove_other t.files k m away)) ∙ e) n e

-- ---- slots

-- a property of a process's slots: of each, by the mount of its place
pub record Own (Q : ℕ → Slot → ℕ → Type 0) (files : Table ℕ) (k : ℕ) (p : Process ℕ Image) : Type 0 where
  pub cwd : Q k Cwd p.cwd.mount
  pub exe : Q k Exe p.exe.mount
  pub fds : (fd : ℕ) (x : Named) (q : Place ℕ) → map.get p.descs fd ≡ Some x → place_of files x.number ≡ Some q → Q k (Fd fd) q.mount

abbrev pub SlotsAre : (ℕ → Slot → ℕ → Type 0) → State ℕ Image → Type 0
SlotsAre Q s = (k : ℕ) (p : Process ℕ Image) → process k s ≡ Some p → Own Q s.files k p

abbrev pub TagIs : List Row → TagTable → ℕ → Slot → ℕ → Type 0
TagIs table tags k slot m = tag_of tags k slot ≡ index_at table m

pub slots_of_tags : (table : List Row) (tags : TagTable) (s : State ℕ Image) → AreTagged table s tags → SlotsAre (TagIs table tags) s
slots_of_tags table tags s tagged k p at = record {
  cwd = tagged.cwds k p at;
  exe = tagged.exes k p at;
  fds = λ fd x q under there.
      let o = then_some (λ (o : Opened ℕ). o.place) (file_at s.files x.number) q there in
      tagged.open_files k fd o.0 q (ap (option_and_then (λ (x : Named). file_at s.files x.number)) (ap (option_and_then (λ (p : Process ℕ Image). map.get p.descs fd)) at ∙ under) ∙ o.1) o.2;
}

pub tags_of_slots : (table : List Row) (tags : TagTable) (s : State ℕ Image) → SlotsAre (TagIs table tags) s → AreTagged table s tags
tags_of_slots table tags s slots = record {
  cwds = λ k p at. (slots k p at).cwd;
  exes = λ k p at. (slots k p at).exe;
  open_files = λ k fd o q at there.
      let x = then_some (λ (x : Named). file_at s.files x.number) (named k fd s) o at in
      let p = then_some (λ (p : Process ℕ Image). map.get p.descs fd) (process k s) x.0 x.1 in
      (slots k p.0 p.1).fds fd x.0 q p.2 (ap (option_and_then (λ (o : Opened ℕ). o.place)) x.2 ∙ there);
}

pub own_files : (Q : ℕ → Slot → ℕ → Type 0) (f g : Table ℕ) (k : ℕ) (p : Process ℕ Image) → HasOldPlaces f g → Own Q f k p → Own Q g k p
own_files Q f g k p old own = record { cwd = own.cwd; exe = own.exe; fds = λ fd x q under there. own.fds fd x q under (old x.number q there) }

pub found_is : (k : ℕ) (ps : List (Process ℕ Image)) (p : Process ℕ Image) → find (is_pid k) ps ≡ Some p → p.pid ≡ k
found_is k [] p e = absurd cc
found_is k (q ∷ ps) p e = by (q.pid == k) refl e (found_is k ps p)
  where
    by : (b : Bool) → (q.pid == k) ≡ b → cond b (Some q) (find (is_pid k) ps) ≡ Some p → (find (is_pid k) ps ≡ Some p → p.pid ≡ k) → p.pid ≡ k
    by true is e later = ap (λ (p : Process ℕ Image). p.pid) (sym (some_is q p e)) ∙ eqb-true q.pid k is
    by false is e later = later e

-- one process changed, and its slots
pub slots_at : (P Q : ℕ → Slot → ℕ → Type 0) (s : State ℕ Image) (files : Table ℕ) (pid : ℕ) (g : Process ℕ Image → Process ℕ Image) → ((p : Process ℕ Image) → (g p).pid ≡ p.pid)
    → ((k : ℕ) (p : Process ℕ Image) → k ≢ pid → process k s ≡ Some p → Own P s.files k p → Own Q files k p) → ((p : Process ℕ Image) → process pid s ≡ Some p → Own P s.files pid p → Own Q files pid (g p)) → SlotsAre P s
    → (k : ℕ) (q : Process ℕ Image) → find (is_pid k) (with_process pid g s.living) ≡ Some q → Own Q files k q
slots_at P Q s files pid g same others own slots k q e =
    let p = from_process (at_pid pid g) (told_at (λ p. p.pid) pid g same) k s.living q e in
    by p.0 p.1 p.2 (found_is k s.living p.0 p.1) (cases_eq k pid)
  where
    by : (p : Process ℕ Image) → process k s ≡ Some p → at_pid pid g p ≡ q → p.pid ≡ k → (k ≡ pid) ⊎ (k ≢ pid) → Own Q files k q
    by p at is here (inr away) = subst (λ q. Own Q files k q) (sym (ap (λ b. cond b (g p) p) (ne_eqb p.pid pid (λ e. away (sym here ∙ e)))) ∙ is) (others k p away at (slots k p at))
    by p at is here (inl is_pid_) =
        let at_own : process pid s ≡ Some p = ap (λ k. process k s) (sym is_pid_) ∙ at in
        subst (λ k. Own Q files k q) (sym is_pid_) (subst (λ q. Own Q files pid q) (sym (ap (λ b. cond b (g p) p) (eq-eqb p.pid pid (here ∙ is_pid_))) ∙ is) (own p at_own (slots pid p at_own)))

-- every process changed, and no slot
pub slots_mapped : (Q : ℕ → Slot → ℕ → Type 0) (s : State ℕ Image) (files : Table ℕ) (g : Process ℕ Image → Process ℕ Image) → ((p : Process ℕ Image) → (g p).pid ≡ p.pid) → ((k : ℕ) (p : Process ℕ Image) → Own Q s.files k p → Own Q files k (g p)) → SlotsAre Q s
    → (k : ℕ) (q : Process ℕ Image) → find (is_pid k) (map_list g s.living) ≡ Some q → Own Q files k q
slots_mapped Q s files g same own slots k q e = let p = from_process g same k s.living q e in subst (λ q. Own Q files k q) p.2 (own k p.0 (slots k p.0 p.1))

-- ---- descriptors that go

module _ (Q : ℕ → Slot → ℕ → Type 0) (pid : ℕ) where
  pub slots_let_go : (n : ℕ) (s : State ℕ Image) → SlotsAre Q s → SlotsAre Q (let_go n s)
  slots_let_go n s slots k p at = own_files Q s.files (closed n s.files) k p (old_closed s.files n) (slots k p at)

  pub slots_close : (fd : ℕ) (s : State ℕ Image) → SlotsAre Q s → SlotsAre Q (close pid fd s)
  unfolding close
  slots_close fd s slots = by (named pid fd s)
    where
      by : (o : Option Named) → SlotsAre Q (option_map_or (λ x. close_named pid fd x s) o s)
      by None = slots
      by (Some x) =
          slots_at Q Q (let_go x.number s) (let_go x.number s).files pid (with_descs (λ d. map.remove d fd)) (λ p. refl) (λ k p away at own. own)
          (λ p at own. record {
            cwd = own.cwd;
            exe = own.exe;
            fds = λ f y q under there. own.fds f y q (by_key (λ f. map.get (map.remove p.descs fd) f ≡ Some y → map.get p.descs f ≡ Some y) fd
                (λ e. let clash : None ≡ Some y = sym (get-remove_same p.descs fd) ∙ e in absurd cc) (λ f away e. sym (get-remove_other p.descs fd f away) ∙ e) f under) there;
          }) (slots_let_go x.number s slots)

  pub slots_closed : (n : ℕ) (s : State ℕ Image) → SlotsAre Q s → SlotsAre Q (close_below pid n s)
  unfolding close_below
  slots_closed zero s slots = slots
  slots_closed (suc fd) s slots = slots_close fd (close_below pid fd s) (slots_closed fd s slots)

  pub slots_on_exec : (n : ℕ) (s : State ℕ Image) → SlotsAre Q s → SlotsAre Q (close_on_exec_below pid n s)
  unfolding close_on_exec_below
  slots_on_exec zero s slots = slots
  slots_on_exec (suc fd) s slots = by (is_closed_on_exec pid fd (close_on_exec_below pid fd s)) (slots_on_exec fd s slots)
    where
      by : (b : Bool) → SlotsAre Q (close_on_exec_below pid fd s) → SlotsAre Q (if b then close pid fd (close_on_exec_below pid fd s) else close_on_exec_below pid fd s)
      by true slots = slots_close fd (close_on_exec_below pid fd s) slots
      by false slots = slots

-- ---- a tag that is set

module _ (table : List Row) (tags : TagTable) (pid tag : ℕ) where
  pub fd_apart : (f fd : ℕ) → f ≢ fd → Fd f ≢ Fd fd
  fd_apart f fd away e = let same : f ≡ fd = cc in away same

  pub others_stay : (slot : Slot) (files : Table ℕ) (k : ℕ) (p : Process ℕ Image) → k ≢ pid → Own (TagIs table tags) files k p → Own (TagIs table (with_tag tags pid slot tag)) files k p
  others_stay slot files k p away own = record {
    cwd = tags_change.set_others tags pid slot tag k Cwd away ∙ own.cwd;
    exe = tags_change.set_others tags pid slot tag k Exe away ∙ own.exe;
    fds = λ fd x q under there. tags_change.set_others tags pid slot tag k (Fd fd) away ∙ own.fds fd x q under there;
  }
