-- Entries of directories, one behind the other.
use Rattle.std.proofs.Common.{◌≡◌, lit≤, ◌^◌, ℕ, suc, ◌+◌, ◌<◌, ◌≤◌, Bool, true, false, cond, List, [], ◌∷◌, length, get_or, drop, Option, Some, None, refl, sym, ap, subst, ◌∙◌, arith}
use Rattle.std.specs.Prelude.{◌&&◌, ◌||◌, not, map as map_list, nat_eq, nat_le, nat_lt}
use Rattle.std.specs.Fmt.{decimal}
use Rattle.std.specs.List.{AllByRecursion, list_all}
use Rattle.std.specs.Option.{option_map, option_map_or}
use Rattle.std.proofs.Math.Seq.{drop-cons}
use Rattle.std.proofs.lemmas.Bool.{and_parts, cond-true, cond-false}
use Rattle.std.proofs.lemmas.Bool.Decides.{nat_tests}
use Rattle.std.proofs.lemmas.Fmt.{length-decimal-le}
use Rattle.std.proofs.lemmas.List.{drop_all}
use Rattle.std.proofs.lemmas.Option.{same_Some, none-some}
use Rattle.kr_seen.specs.kr_inode.Entries.{names_in}
use Rattle.kr_seen.specs.kr_inode.Names.{is_dots, is_name}
use Rattle.kr_seen.specs.kr_tree.Tree.{Entry, Inode, entries, entries_of, entry_after, inode}
use Rattle.kr_seen.specs.kr_tree.declared.place.ProcAt.{ProcAt}
use Rattle.kr_seen.specs.kr_tree.declared.place.ProcAt.TheVariants.{SelfLink, Dir, Cwd, Root, Exe, FdDir, Fd}
use Rattle.kr_seen.specs.kr_procfs.Objects.{HasSmallNumbers, own_name}
use Rattle.kr_seen.specs.kr_model.DirectoryRows as model
use Rattle.kr_seen.specs.kr_model.DirectoryRows.{behind, listed_entry, listed_process}
use Rattle.kr_seen.specs.kr_model.Known.{Family, Known, family_of}
use Rattle.kr_seen.specs.kr_model.State.{image_layout}
use Rattle.kr_seen.specs.kr_ops.declared.state.Process.{Process}
use Rattle.kr_seen.specs.kr_ops.declared.state.State.{State}
use Rattle.kr_seen.specs.kr_ops.Meaning.{process_meaning}
use Rattle.kr_seen.specs.kr_ops.Sound.{IsOfView}
use Rattle.kr_transfer.specs.Listing.{first_behind}

-- ---- names

ten : (n : ℕ) → n < 2 ^ 32 → length (decimal n) ≤ 255
ten n small = let short = length-decimal-le 10 n (omega arith) (omega arith) (omega arith) in omega arith

pub own-name-short : (at : ProcAt) → HasSmallNumbers at → length (own_name at) ≤ 255
own-name-short SelfLink small = lit≤ tt
own-name-short (Dir pid) small = ten pid small
own-name-short (Cwd pid) small = lit≤ tt
own-name-short (Root pid) small = lit≤ tt
own-name-short (Exe pid) small = lit≤ tt
own-name-short (FdDir pid) small = lit≤ tt
own-name-short (Fd pid fd) small = ten fd small.1

-- ---- entries of the tree

pub behind-entries : (k : Known) (after : ℕ) (es : List Entry) → first_behind after (map_list (listed_entry k) es) ≡ option_map (listed_entry k) (entry_after after es)
behind-entries k after [] = refl
behind-entries k after (e ∷ es) = by (nat_lt after e.serial) (behind-entries k after es)
  where
    by : (b : Bool) → first_behind after (map_list (listed_entry k) es) ≡ option_map (listed_entry k) (entry_after after es)
        → cond b (Some (listed_entry k e)) (first_behind after (map_list (listed_entry k) es)) ≡ option_map (listed_entry k) (cond b (Some e) (entry_after after es))
    by true later = refl
    by false later = later

found-named : (after : ℕ) (es : List Entry) (e : Entry) → AllByRecursion (λ name. is_name name ≡ true) (names_in es) → entry_after after es ≡ Some e → is_name e.name ≡ true
found-named after [] e all found = absurd (none-some e found)
found-named after (x ∷ es) e all found = by (nat_lt after x.serial) found (found-named after es e all.1)
  where
    by : (b : Bool) → cond b (Some x) (entry_after after es) ≡ Some e → (entry_after after es ≡ Some e → is_name e.name ≡ true) → is_name e.name ≡ true
    by true found later = subst (λ (e : Entry). is_name e.name ≡ true) (same_Some x e found) all.0
    by false found later = later found

pub entry-named : {T : Type 0} {M : ℕ} (s : State T M) → IsOfView s → (dir after : ℕ) (e : Entry) → entry_after after (entries s.tree dir) ≡ Some e → is_name e.name ≡ true
entry-named s view dir after e found = by (inode s.tree dir) refl found
  where
    by : (q : Option Inode) → inode s.tree dir ≡ q → entry_after after (option_map_or (λ (x : Inode). entries_of x.node.body) q []) ≡ Some e → is_name e.name ≡ true
    by None is found = absurd (none-some e found)
    by (Some x) is found = found-named after (entries_of x.node.body) e (view.lawful.tree.sound.listed dir x is).well_formed found

-- ---- entries of processes

abbrev pub of_living : List Family → List model.Listed
of_living ps = map_list (λ (p : Family). listed_process (Dir p.pid)) ps

module _ {T : Type 0} {M : ℕ} (after : ℕ) where
  abbrev pub process_listed : Process T M → model.Listed
  process_listed p = listed_process (Dir p.pid)

  -- those that are known are those of the code
  pub same-living : (items : List (Process T M)) → of_living (map_list (family_of image_layout) (map_list process_meaning items)) ≡ map_list process_listed items
  same-living [] = refl
  same-living (p ∷ items) = ap (λ es. process_listed p ∷ es) (same-living items)

  pub next-process : (items : List (Process T M)) (k : ℕ) (p : Process T M) → k < length items → p ≡ get_or items k p → after < 8 + p.pid → first_behind after (map_list process_listed (drop k items)) ≡ Some (listed_process (Dir p.pid))
  next-process items k p within is behind =
      let test : nat_lt after (8 + p.pid) ≡ true = grind (arith, nat_tests) in
      ap (λ ps. first_behind after (map_list process_listed ps)) (drop-cons items k p within ∙ ap (λ (q : Process T M). q ∷ drop (suc k) items) (sym is))
      ∙ cond-true _ _ _ test

  pub none-left : (items : List (Process T M)) (k : ℕ) → length items ≤ k → first_behind after (map_list process_listed (drop k items)) ≡ None
  none-left items k past = ap (λ ps. first_behind after (map_list process_listed ps)) (drop_all k items past)

pub behind-self : (after : ℕ) (ps : List Family) → 3 ≤ after → first_behind after (listed_process SelfLink ∷ of_living ps) ≡ first_behind after (of_living ps)
behind-self after ps past = let test : nat_lt after 3 ≡ false = grind (arith, nat_tests) in cond-false _ _ _ test

pub name-short : (name : List ℕ) → is_name name ≡ true → length name ≤ 255
name-short name e =
    let all = and_parts (nat_lt 0 (length name) && nat_le (length name) 255 && list_all (λ b. not (nat_eq b 47 || nat_eq b 0)) name) (not (is_dots name)) e in
    let two = and_parts (nat_lt 0 (length name) && nat_le (length name) 255) (list_all (λ b. not (nat_eq b 47 || nat_eq b 0)) name) all.0 in
    let one = (and_parts (nat_lt 0 (length name)) (nat_le (length name) 255) two.0).1 in
    grind (arith, nat_tests)

-- ---- entries behind a place, one after the other

-- serials rise along a list
abbrev pub RiseBehind : ℕ → List model.Listed → Type 0
RiseBehind low [] = Unit {0}
RiseBehind low (e ∷ es) = (low < e.serial) × RiseBehind e.serial es

pub behind-none : (at : ℕ) (es : List model.Listed) → first_behind at es ≡ None → behind at es ≡ []
behind-none at [] e = refl
behind-none at (x ∷ es) e = by (nat_lt at x.serial) e (behind-none at es)
  where
    by : (b : Bool) → cond b (Some x) (first_behind at es) ≡ None → (first_behind at es ≡ None → behind at es ≡ []) → cond b (x ∷ behind at es) (behind at es) ≡ []
    by true e later = absurd (none-some x (sym e))
    by false e later = later e

-- all of a list whose serials rise from above a place
all-behind : (at low : ℕ) (es : List model.Listed) → at ≤ low → RiseBehind low es → behind at es ≡ es
all-behind at low [] below rise = refl
all-behind at low (x ∷ es) below rise =
    let first = rise.0 in
    let test : nat_lt at x.serial ≡ true = grind (arith, nat_tests) in
    let further : at ≤ x.serial = omega arith in
    cond-true (nat_lt at x.serial) (x ∷ behind at es) (behind at es) test ∙ ap (λ es. x ∷ es) (all-behind at x.serial es further rise.1)

-- what is found is behind all that stand before the list
found-past : (at low : ℕ) (es : List model.Listed) (e : model.Listed) → RiseBehind low es → first_behind at es ≡ Some e → low < e.serial
found-past at low [] e rise found = absurd (none-some e found)
found-past at low (x ∷ es) e rise found = by (nat_lt at x.serial) found (found-past at x.serial es e rise.1)
  where
    by : (b : Bool) → cond b (Some x) (first_behind at es) ≡ Some e → (first_behind at es ≡ Some e → x.serial < e.serial) → low < e.serial
    by true found later = subst (λ (e : model.Listed). low < e.serial) (same_Some x e found) rise.0
    by false found later = let past = later found in let first = rise.0 in omega arith

pub behind-next : (at low : ℕ) (es : List model.Listed) (e : model.Listed) → RiseBehind low es → first_behind at es ≡ Some e → behind at es ≡ e ∷ behind e.serial es
behind-next at low [] e rise found = absurd (none-some e found)
behind-next at low (x ∷ es) e rise found = by (nat_lt at x.serial) refl found (behind-next at x.serial es e rise.1) (all-behind at x.serial es) (all-behind x.serial x.serial es (omega arith) rise.1) (found-past at x.serial es e rise.1)
  where
    by : (b : Bool) → nat_lt at x.serial ≡ b → cond b (Some x) (first_behind at es) ≡ Some e → (first_behind at es ≡ Some e → behind at es ≡ e ∷ behind e.serial es) → (at ≤ x.serial → RiseBehind x.serial es → behind at es ≡ es)
        → behind x.serial es ≡ es → (first_behind at es ≡ Some e → x.serial < e.serial) → cond b (x ∷ behind at es) (behind at es) ≡ e ∷ cond (nat_lt e.serial x.serial) (x ∷ behind e.serial es) (behind e.serial es)
    by true test found later all own above =
        let same = same_Some x e found in
        let further : at ≤ x.serial = grind (arith, nat_tests) in
        let before : nat_lt x.serial x.serial ≡ false = grind (arith, nat_tests) in
        ap (λ es. x ∷ es) (all further rise.1 ∙ sym own ∙ sym (cond-false (nat_lt x.serial x.serial) (x ∷ behind x.serial es) (behind x.serial es) before))
        ∙ ap (λ (y : model.Listed). y ∷ cond (nat_lt y.serial x.serial) (x ∷ behind y.serial es) (behind y.serial es)) same
    by false test found later all own above =
        let past = above found in
        let before : nat_lt e.serial x.serial ≡ false = grind (arith, nat_tests) in
        later found ∙ ap (λ es. e ∷ es) (sym (cond-false (nat_lt e.serial x.serial) (x ∷ behind e.serial es) (behind e.serial es) before))
