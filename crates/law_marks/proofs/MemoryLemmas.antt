-- A memory without its marks, page by page.
use Rattle.std.specs.FinMap as map
use Rattle.std.proofs.Common.{◌≡◌, ℕ, zero, suc, ◌+◌, ◌/◌, ◌%◌, Bool, false, ◌&&◌, ◌||◌, List, [], ◌∷◌, replicate, refl, sym, ap, ◌∙◌, Option, Some, None}
use Rattle.std.specs.Prelude.{slice_index, slice_index_or}
use Rattle.std.specs.Option.{option_map, option_map_or}
use Rattle.std.proofs.Math.Seq.{sets}
use Rattle.kr_turns.proofs.kr_seen.kr_model.pr_base.MapLemmas.{by_key, get-changed_other, get-changed_same, get-mapped, mapped-insert, mapped-remove, same_values}
use Rattle.kr_turns.proofs.kr_seen.kr_model.rv_mem.LayoutLemmas.{layouts_follow}
use Rattle.kr_turns.proofs.kr_seen.kr_model.rv_mem.PageLemmas.{sets-no_marks}
use Rattle.kr_turns.specs.kr_model.rv_mem.Actions.{Action, Done, MayUse, ReadBytes, WriteBytes, allows_uses, carried_out}
use Rattle.kr_turns.specs.kr_model.rv_mem.Layout.{layout_of}
use Rattle.kr_turns.specs.kr_model.rv_mem.Marks.{no_marks}
use Rattle.kr_turns.specs.kr_model.rv_mem.Memory.{Memory, after_read, with_pages}
use Rattle.kr_turns.specs.kr_model.rv_mem.Page.{PageState, fresh_page, grants, page_marked, page_with_rights, page_written}
use Rattle.kr_turns.specs.kr_model.rv_mem.Pages.{Pages, allows, allows_all, any_marked, byte_at, bytes_from, is_marked, mapped, marked, protected, unmapped, with_page, written}
use Rattle.kr_turns.specs.kr_model.rv_mem.declared.rights.Rights.{Rights}
use Rattle.kr_turns.specs.kr_model.rv_mem.declared.rights.Use.{Use}
use Rattle.law_marks.specs.Laws.{ActionsSeeNoMarks, MarksAreApart}
use Rattle.law_marks.specs.Unmarked.{unmarked, unmarked_done, unmarked_page, unmarked_pages}

get-unmarked : (m : Pages) (k : ℕ) → map.get (unmarked_pages m) k ≡ option_map unmarked_page (map.get m k)
get-unmarked m k = get-mapped (λ n p. unmarked_page p) m k

-- ---- what is looked at

-- what is told of a page without its marks
told-unmarked : {A : Type 0} (f : PageState → A) (other : A) → ((p : PageState) → f (unmarked_page p) ≡ f p) → (m : Pages) (k : ℕ)
    → option_map_or f (map.get (unmarked_pages m) k) other ≡ option_map_or f (map.get m k) other
told-unmarked f other same m k = ap (λ o. option_map_or f o other) (get-unmarked m k) ∙ by (map.get m k)
  where
    by : (o : Option PageState) → option_map_or f (option_map unmarked_page o) other ≡ option_map_or f o other
    by None = refl
    by (Some p) = same p

allows-unmarked : (m : Pages) (a : ℕ) (what : Use) → allows (unmarked_pages m) a what ≡ allows m a what
allows-unmarked m a what = told-unmarked (λ p. grants p.rights what) false (λ p. refl) m (a / 4096)

pub all-unmarked : (m : Pages) (at n : ℕ) (what : Use) → allows_all (unmarked_pages m) at n what ≡ allows_all m at n what
unfolding allows_all
all-unmarked m at zero what = refl
all-unmarked m at (suc n) what =
    ap (λ b. b && allows_all (unmarked_pages m) (at + 1) n what) (allows-unmarked m at what) ∙ ap (λ b. allows m at what && b) (all-unmarked m (at + 1) n what)

uses-unmarked : (m : Pages) (at n : ℕ) (uses : List Use) → allows_uses (unmarked_pages m) at n uses ≡ allows_uses m at n uses
uses-unmarked m at n [] = refl
uses-unmarked m at n (what ∷ uses) =
    ap (λ b. b && allows_all (unmarked_pages m) at n what) (uses-unmarked m at n uses) ∙ ap (λ b. allows_uses m at n uses && b) (all-unmarked m at n what)

byte-unmarked : (m : Pages) (a : ℕ) → byte_at (unmarked_pages m) a ≡ byte_at m a
byte-unmarked m a = told-unmarked (λ p. slice_index p.bytes (a % 4096)) 0 (λ p. refl) m (a / 4096)

bytes-unmarked : (m : Pages) (at n : ℕ) → bytes_from (unmarked_pages m) at n ≡ bytes_from m at n
unfolding bytes_from
bytes-unmarked m at zero = refl
bytes-unmarked m at (suc n) =
    ap (λ b. b ∷ bytes_from (unmarked_pages m) (at + 1) n) (byte-unmarked m at) ∙ ap (λ bs. byte_at m at ∷ bs) (bytes-unmarked m (at + 1) n)

-- no byte is marked
no_mark : (i : ℕ) → slice_index_or no_marks i false ≡ false
unfolding no_marks
no_mark i = none 4096 i
  where
    none : (m k : ℕ) → slice_index_or (replicate m false) k false ≡ false
    none zero k = refl
    none (suc m) zero = refl
    none (suc m) (suc k) = none m k

mark-unmarked : (m : Pages) (a : ℕ) → is_marked (unmarked_pages m) a ≡ false
mark-unmarked m a = ap (λ o. option_map_or (λ (p : PageState). slice_index_or p.marks (a % 4096) false) o false) (get-unmarked m (a / 4096)) ∙ by (map.get m (a / 4096))
  where
    by : (o : Option PageState) → option_map_or (λ (p : PageState). slice_index_or p.marks (a % 4096) false) (option_map unmarked_page o) false ≡ false
    by None = refl
    by (Some p) = no_mark (a % 4096)

any-unmarked : (m : Pages) (at n : ℕ) → any_marked (unmarked_pages m) at n ≡ false
unfolding any_marked
any-unmarked m at zero = refl
any-unmarked m at (suc n) = ap (λ b. b || any_marked (unmarked_pages m) (at + 1) n) (mark-unmarked m at) ∙ any-unmarked m (at + 1) n

-- ---- what is changed

page-unmarked : (m : Pages) (k : ℕ) (f : PageState → PageState) → ((p : PageState) → f (unmarked_page p) ≡ unmarked_page (f p)) → with_page (unmarked_pages m) k f ≡ unmarked_pages (with_page m k f)
page-unmarked m k f same =
    same_values _ _ (by_key (λ q. map.get (with_page (unmarked_pages m) k f) q ≡ map.get (unmarked_pages (with_page m k f)) q) k
    (get-changed_same (unmarked_pages m) k f ∙ ap (option_map f) (get-unmarked m k) ∙ by (map.get m k) ∙ sym (get-unmarked (with_page m k f) k ∙ ap (option_map unmarked_page) (get-changed_same m k f)))
    (λ q d. get-changed_other (unmarked_pages m) k f q d ∙ get-unmarked m q ∙ sym (get-unmarked (with_page m k f) q ∙ ap (option_map unmarked_page) (get-changed_other m k f q d))))
  where
    by : (o : Option PageState) → option_map f (option_map unmarked_page o) ≡ option_map unmarked_page (option_map f o)
    by None = refl
    by (Some p) = ap Some (same p)

byte-written : (i b : ℕ) (p : PageState) → page_written i (b ∷ []) (unmarked_page p) ≡ unmarked_page (page_written i (b ∷ []) p)
byte-written i b p = ap (λ (marks : List Bool). record { bytes = sets p.bytes i (b ∷ []); rights = p.rights; marks = marks }) (sets-no_marks i 1)

pub written-unmarked : (bs : List ℕ) (m : Pages) (at : ℕ) → written (unmarked_pages m) at bs ≡ unmarked_pages (written m at bs)
unfolding written
written-unmarked [] m at = refl
written-unmarked (b ∷ bs) m at =
    ap (λ w. written w (at + 1) bs) (page-unmarked m (at / 4096) (page_written (at % 4096) (b ∷ [])) (byte-written (at % 4096) b))
    ∙ written-unmarked bs (with_page m (at / 4096) (page_written (at % 4096) (b ∷ []))) (at + 1)

pub mapped-unmarked : (m : Pages) (first n : ℕ) (r : Rights) → mapped (unmarked_pages m) first n r ≡ unmarked_pages (mapped m first n r)
unfolding mapped
mapped-unmarked m first zero r = refl
mapped-unmarked m first (suc n) r =
    ap (λ w. map.insert w (first + n) (fresh_page r)) (mapped-unmarked m first n r) ∙ sym (mapped-insert (λ n p. unmarked_page p) (mapped m first n r) (first + n) (fresh_page r))

pub unmapped-unmarked : (m : Pages) (first n : ℕ) → unmapped (unmarked_pages m) first n ≡ unmarked_pages (unmapped m first n)
unfolding unmapped
unmapped-unmarked m first zero = refl
unmapped-unmarked m first (suc n) =
    ap (λ w. map.remove w (first + n)) (unmapped-unmarked m first n) ∙ sym (mapped-remove (λ n p. unmarked_page p) (unmapped m first n) (first + n))

pub protected-unmarked : (m : Pages) (first n : ℕ) (r : Rights) → protected (unmarked_pages m) first n r ≡ unmarked_pages (protected m first n r)
unfolding protected
protected-unmarked m first zero r = refl
protected-unmarked m first (suc n) r =
    ap (λ w. with_page w (first + n) (page_with_rights r)) (protected-unmarked m first n r) ∙ page-unmarked (protected m first n r) (first + n) (page_with_rights r) (λ p. refl)

one-marked : (m : Pages) (k i : ℕ) → unmarked_pages (with_page m k (page_marked i 1)) ≡ unmarked_pages m
one-marked m k i =
    same_values _ _ (by_key (λ q. map.get (unmarked_pages (with_page m k (page_marked i 1))) q ≡ map.get (unmarked_pages m) q) k
    (get-unmarked (with_page m k (page_marked i 1)) k ∙ ap (option_map unmarked_page) (get-changed_same m k (page_marked i 1)) ∙ by (map.get m k) ∙ sym (get-unmarked m k))
    (λ q d. get-unmarked (with_page m k (page_marked i 1)) q ∙ ap (option_map unmarked_page) (get-changed_other m k (page_marked i 1) q d) ∙ sym (get-unmarked m q)))
  where
    by : (o : Option PageState) → option_map unmarked_page (option_map (page_marked i 1) o) ≡ option_map unmarked_page o
    by None = refl
    by (Some p) = refl

pub marked-unmarked : (m : Pages) (at n : ℕ) → unmarked_pages (marked m at n) ≡ unmarked_pages m
unfolding marked
marked-unmarked m at zero = refl
marked-unmarked m at (suc n) =
    marked-unmarked (with_page m (at / 4096) (page_marked (at % 4096) 1)) (at + 1) n ∙ one-marked m (at / 4096) (at % 4096)

-- ---- once more, and the layout

pages-twice : (m : Pages) → unmarked_pages (unmarked_pages m) ≡ unmarked_pages m
pages-twice m = same_values _ _ (λ q. get-unmarked (unmarked_pages m) q ∙ ap (option_map unmarked_page) (get-unmarked m q) ∙ by (map.get m q) ∙ sym (get-unmarked m q))
  where
    by : (o : Option PageState) → option_map unmarked_page (option_map unmarked_page o) ≡ option_map unmarked_page o
    by None = refl
    by (Some p) = refl

pub twice-unmarked : (m : Memory) → unmarked (unmarked m) ≡ unmarked m
twice-unmarked m = ap (λ pages. record { pages = pages; read_marked = false }) (pages-twice m.pages)

pub layout-unmarked : (m : Pages) → layout_of (unmarked_pages m) ≡ layout_of m
layout-unmarked m = same_values _ _ (λ k. layouts_follow.rights (unmarked_pages m) k ∙ ap (option_map (λ (p : PageState). p.rights)) (get-unmarked m k) ∙ by (map.get m k) ∙ sym (layouts_follow.rights m k))
  where
    by : (o : Option PageState) → option_map (λ (p : PageState). p.rights) (option_map unmarked_page o) ≡ option_map (λ (p : PageState). p.rights) o
    by None = refl
    by (Some p) = refl

pub marks_are_apart : MarksAreApart
marks_are_apart = record { marked = marked-unmarked; layout = layout-unmarked; twice = twice-unmarked }

-- ---- actions

read-unmarked : (m : Memory) (at n : ℕ) → after_read (unmarked m) at n ≡ unmarked (after_read m at n)
read-unmarked m at n = ap (λ told. record { pages = unmarked_pages m.pages; read_marked = told }) (any-unmarked m.pages at n)

pub done-unmarked : {A : Type 0} (action : Action A) (m : Memory) → carried_out action (unmarked m) ≡ unmarked_done (carried_out action m)
done-unmarked (Done reply) m = refl
done-unmarked (MayUse at n uses next) m =
    ap (λ b. carried_out (next b) (unmarked m)) (uses-unmarked m.pages at n uses) ∙ done-unmarked (next (allows_uses m.pages at n uses)) m
done-unmarked (ReadBytes at n next) m =
    (λ i. carried_out (next (bytes-unmarked m.pages at n i)) (read-unmarked m at n i)) ∙ done-unmarked (next (bytes_from m.pages at n)) (after_read m at n)
done-unmarked (WriteBytes at bytes next) m =
    ap (λ pages. carried_out next (record { pages = pages; read_marked = false })) (written-unmarked bytes m.pages at) ∙ done-unmarked next (with_pages m (written m.pages at bytes))

pub actions_see_no_marks : (A : Type 0) → ActionsSeeNoMarks A
actions_see_no_marks A action m = done-unmarked action m
