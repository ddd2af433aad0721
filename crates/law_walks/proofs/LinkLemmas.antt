-- Links of the process directory are read from the host texts that reach them, and lead alike.
use Rattle.std.proofs.Common.{◌≡◌, ◌<◌, ◌≤◌, ◌^◌, ◌+◌, ◌*◌, ◌-◌, ℕ, Bool, true, false, List, [], ◌∷◌, ◌++◌, length, Some, None, refl, sym, ap, ◌∙◌, arith, rules}
use Rattle.std.specs.Prelude.{codes, bytes_eq, nat_le, ◌&&◌}
use Rattle.std.specs.Bool.{if◌then◌else◌}
use Rattle.std.specs.Fmt.{decimal}
use Rattle.std.specs.List.{list_all}
use Rattle.std.specs.Option.{option_map, option_and_then}
use Rattle.std.specs.Str.Parse.{digits_value}
use Rattle.std.proofs.lemmas.Bool.{false_from_ne_true, le-leb}
use Rattle.std.proofs.lemmas.Fmt.{decimal_nonempty, digits_decimal, digits_value-decimal}
use Rattle.std.proofs.lemmas.Slice.Eq.{bytes_eq-Decides}
use Rattle.std.proofs.lemmas.Str.Parse.{IsNumeralModel, IsDigitsTest, numerals_by_fold}
use Rattle.pt_canon.specs.pr_base.Texts.{Text}
use Rattle.pt_canon.specs.ProcessLinks.{file_link_at, is_digit, jump_at, landing_of, largest, link_at, number_in, process_link_at}
use Rattle.pt_canon.specs.declared.link.ProcessLink.{ProcessLink}
use Rattle.pt_canon.specs.declared.link.ProcessLink.TheVariants as process_link
use Rattle.kr_mounts.specs.kr_tree.declared.place.Host.TheVariants.{Proc}
use Rattle.kr_mounts.specs.kr_tree.declared.place.ProcAt.{ProcAt}
use Rattle.kr_mounts.specs.kr_tree.declared.place.ProcAt.TheVariants.{SelfLink, Dir, Cwd, Root, Exe, FdDir, Fd}
use Rattle.kr_mounts.specs.kr_tree.Names.{process_names}
use Rattle.kr_mounts.specs.kr_view.Living.{IsSmall}
use Rattle.kr_mounts.proofs.kr_view.HostReachLemmas.{reached_process}
use Rattle.law_walks.specs.Scene.{HasSmallNumbers, IsMatched, Scene, link_of, space_of, texts_in}
use Rattle.law_walks.specs.Standing.{reached_in}

-- ---- numbers

abbrev AreDigits : List ℕ → Type 0
AreDigits ds = list_all is_digit ds ≡ true

digits_test : IsDigitsTest AreDigits
digits_test = search rules

abbrev read_on : ℕ → List ℕ → ℕ
read_on n [] = n
read_on n (c ∷ cs) = read_on (10 * n + (c - 48)) cs

by_fold : IsNumeralModel AreDigits (read_on 0)
by_fold = numerals_by_fold _ digits_test read_on (search rules)

own : IsNumeralModel AreDigits (digits_value 10)
own = record { to = by_fold.to; from = by_fold.from; same = λ ds all. refl }

all_three : (a b c : Bool) (n m : ℕ) → a ≡ true → b ≡ true → c ≡ true → n ≡ m → (if a && (b && c) then Some n else None) ≡ Some m
all_three a b c n m p q r e = rw (p, q, r) (ap Some e)

number_read : (n : ℕ) → IsSmall n → number_in (decimal n) ≡ Some n
number_read n small =
    let wide : n < 2 ^ 64 = omega (arith, small) in
    let value : digits_value 10 (decimal n) ≡ n = digits_value-decimal own n wide in
    let some : 1 ≤ length (decimal n) = omega (arith, decimal_nonempty n wide) in
    let low : digits_value 10 (decimal n) ≤ largest = omega (arith, value, small) in
    all_three (nat_le 1 (length (decimal n))) (list_all is_digit (decimal n)) (nat_le (digits_value 10 (decimal n)) largest) (digits_value 10 (decimal n)) n (le-leb _ _ some) (digits_decimal own n wide) (le-leb _ _ low) value

-- no number is written so
not_fd : (n : ℕ) → IsSmall n → bytes_eq (decimal n) (codes "fd") ≡ false
not_fd n small = false_from_ne_true _ (λ same.
    let wide : n < 2 ^ 64 = omega (arith, small) in
    let written : decimal n ≡ codes "fd" = (bytes_eq-Decides (decimal n) (codes "fd")).0 same in
    let clash : false ≡ true = sym (ap (list_all is_digit) written) ∙ digits_decimal own n wide in cc)

-- ---- names

in_directory : (name : List ℕ) (pid : ℕ) (top : Text) → IsSmall pid → link_at (name ∷ decimal pid ∷ top) ≡ process_link_at name (decimal pid)
in_directory name pid top small = ap (λ b. if b then file_link_at name top else process_link_at name (decimal pid)) (not_fd pid small)

named_link : (at : ProcAt) (link : ProcessLink) (top : Text) → link_of at ≡ Some link → HasSmallNumbers link → link_at (process_names at ++ top) ≡ Some link
named_link SelfLink link top is small = absurd cc
named_link (Dir pid) link top is small = absurd cc
named_link (FdDir pid) link top is small = absurd cc
named_link (Cwd pid) (process_link.Cwd p) top is small = let same : pid ≡ p = cc in ap (λ n. link_at (codes "cwd" ∷ decimal n ∷ top)) same ∙ in_directory (codes "cwd") p top small ∙ ap (option_map process_link.Cwd) (number_read p small)
named_link (Cwd pid) (process_link.Exe p) top is small = absurd cc
named_link (Cwd pid) (process_link.Root p) top is small = absurd cc
named_link (Cwd pid) (process_link.Fd p f) top is small = absurd cc
named_link (Exe pid) (process_link.Exe p) top is small = let same : pid ≡ p = cc in ap (λ n. link_at (codes "exe" ∷ decimal n ∷ top)) same ∙ in_directory (codes "exe") p top small ∙ ap (option_map process_link.Exe) (number_read p small)
named_link (Exe pid) (process_link.Cwd p) top is small = absurd cc
named_link (Exe pid) (process_link.Root p) top is small = absurd cc
named_link (Exe pid) (process_link.Fd p f) top is small = absurd cc
named_link (Root pid) (process_link.Root p) top is small = let same : pid ≡ p = cc in ap (λ n. link_at (codes "root" ∷ decimal n ∷ top)) same ∙ in_directory (codes "root") p top small ∙ ap (option_map process_link.Root) (number_read p small)
named_link (Root pid) (process_link.Cwd p) top is small = absurd cc
named_link (Root pid) (process_link.Exe p) top is small = absurd cc
named_link (Root pid) (process_link.Fd p f) top is small = absurd cc
named_link (Fd pid fd) (process_link.Fd p f) top is small =
    let same : pid ≡ p = cc in
    let also : fd ≡ f = cc in
    ap (λ n. link_at (decimal fd ∷ codes "fd" ∷ decimal n ∷ top)) same ∙ ap (λ n. link_at (decimal n ∷ codes "fd" ∷ decimal p ∷ top)) also
    ∙ ap (option_and_then (λ pid. option_map (λ fd. process_link.Fd pid fd) (number_in (decimal f)))) (number_read p small.0)
    ∙ ap (option_map (λ fd. process_link.Fd p fd)) (number_read f small.1)
named_link (Fd pid fd) (process_link.Cwd p) top is small = absurd cc
named_link (Fd pid fd) (process_link.Exe p) top is small = absurd cc
named_link (Fd pid fd) (process_link.Root p) top is small = absurd cc

-- where a tracer follows a link that is reached
pub link_followed : (scene : Scene) → IsMatched scene → (h : Text) (i : ℕ) (at : ProcAt) (link : ProcessLink) → reached_in (space_of scene) h ≡ Some (Proc i at) → link_of at ≡ Some link
    → jump_at (texts_in scene).bindings scene.peeked scene.tags h ≡ landing_of (texts_in scene).bindings scene.peeked scene.tags link
unfolding jump_at
link_followed scene m h i at link way is =
    let space = space_of scene in
    let p = reached_process space.tree space.user space.finds scene.around.leads h i at m.processes way in
    let read : link_at h ≡ Some link = ap link_at p.1 ∙ named_link at link p.0 is (m.links.small h i at link way is) in
    ap (option_and_then (landing_of (texts_in scene).bindings scene.peeked scene.tags)) read
