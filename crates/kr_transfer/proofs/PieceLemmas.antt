-- Lists of pieces, one piece after the other, and what may be done with them.
use Rattle.std.proofs.Common.{◌≡◌, ℕ, zero, suc, ◌+◌, ◌-◌, ◌<◌, ◌≤◌, min, true, List, [], ◌∷◌, length, get_or, drop, refl, sym, ap, ◌∙◌, arith, add-one}
use Rattle.std.specs.Prelude.{◌&&◌, map as map_list}
use Rattle.std.proofs.Math.Seq.{drop-cons}
use Rattle.std.proofs.lemmas.Bool.{and_parts, and_from}
use Rattle.kr_seen.specs.rv_mem.Pages.{Pages, allows, allows_all, written}
use Rattle.kr_seen.specs.rv_mem.declared.rights.Use.{Use}
use Rattle.kr_seen.proofs.rv_mem.AddressLemmas.{allows-written}
use Rattle.kr_seen.proofs.rv_mem.PagesLemmas.{allows_all-add}
use Rattle.kr_seen.proofs.law_lawful.SumLemmas.{sum-cons}
use Rattle.kr_seen.specs.kr_model.Pieces as model
use Rattle.kr_seen.specs.kr_model.Pieces.{asked, cut_to}
use Rattle.kr_transfer.specs.declared.pieces.Piece.{Piece}
use Rattle.kr_transfer.specs.Moving.{all_allowed, told}

-- ---- the next piece

abbrev pub told_one : Piece → model.Piece
told_one p = record { at = p.at; count = p.count }

pub next-told : (pieces : List Piece) (i : ℕ) (d : Piece) → i < length pieces → told (drop i pieces) ≡ told_one (get_or pieces i d) ∷ told (drop (i + 1) pieces)
next-told pieces i d within =
    let later : drop (suc i) pieces ≡ drop (i + 1) pieces = rw add-one refl in
    ap told (drop-cons pieces i d within ∙ ap (λ ps. get_or pieces i d ∷ ps) later)

-- `count` bytes of it, and those of the others
pub next-cut : (pieces : List Piece) (i : ℕ) (d : Piece) (left count : ℕ) → count ≡ min left (get_or pieces i d).count → i < length pieces
    → cut_to left (told (drop i pieces)) ≡ record { at = (get_or pieces i d).at; count = count } ∷ cut_to (left - count) (told (drop (i + 1) pieces))
next-cut pieces i d left count counted within =
    let p : Piece = get_or pieces i d in
    let less : left - p.count ≡ left - count = omega arith in
    ap (cut_to left) (next-told pieces i d within)
    ∙ ap (λ n. record { at = p.at; count = n } ∷ cut_to (left - p.count) (told (drop (i + 1) pieces))) (sym counted)
    ∙ ap (λ n. record { at = p.at; count = count } ∷ cut_to n (told (drop (i + 1) pieces))) less

pub asked-cons : (p : model.Piece) (pieces : List model.Piece) → asked (p ∷ pieces) ≡ p.count + asked pieces
asked-cons p pieces = sum-cons p.count (map_list (λ (p : model.Piece). p.count) pieces)

-- ---- pieces that are cut

pub asked-cut : (n : ℕ) (pieces : List model.Piece) → asked (cut_to n pieces) ≡ min n (asked pieces)
asked-cut n [] = omega arith
asked-cut n (p ∷ pieces) =
    let first = asked-cons (record { at = p.at; count = min n p.count }) (cut_to (n - p.count) pieces) in
    let rest = asked-cut (n - p.count) pieces in
    let all = asked-cons p pieces in
    omega arith

-- what is asked in all cuts nothing
pub uncut : (n : ℕ) (pieces : List model.Piece) → asked pieces ≤ n → cut_to n pieces ≡ pieces
uncut n [] within = refl
uncut n (p ∷ pieces) within =
    let all = asked-cons p pieces in
    let own : min n p.count ≡ p.count = omega arith in
    let rest : asked pieces ≤ n - p.count = omega arith in
    ap (λ c. record { at = p.at; count = c } ∷ cut_to (n - p.count) pieces) own ∙ ap (λ ps. p ∷ ps) (uncut (n - p.count) pieces rest)

-- ---- what is allowed

pub allowed-front : (m : Pages) (at n count : ℕ) (what : Use) → n ≤ count → allows_all m at count what ≡ true → allows_all m at n what ≡ true
allowed-front m at n count what within allowed =
    let parts : n + (count - n) ≡ count = omega arith in
    (and_parts _ _ (sym (allows_all-add m at n (count - n) what) ∙ ap (λ n. allows_all m at n what) parts ∙ allowed)).0

pub allowed-cut : (m : Pages) (what : Use) (n : ℕ) (pieces : List model.Piece) → all_allowed m what pieces ≡ true → all_allowed m what (cut_to n pieces) ≡ true
allowed-cut m what n [] allowed = refl
allowed-cut m what n (p ∷ pieces) allowed =
    let parts = and_parts (allows_all m p.at p.count what) (all_allowed m what pieces) allowed in
    let fewer : min n p.count ≤ p.count = omega arith in
    and_from _ _ (allowed-front m p.at (min n p.count) p.count what fewer parts.0) (allowed-cut m what (n - p.count) pieces parts.1)

-- a write changes no rights
pub allowed-written : (m : Pages) (to : ℕ) (bytes : List ℕ) (at n : ℕ) (what : Use) → allows_all (written m to bytes) at n what ≡ allows_all m at n what
unfolding allows_all
allowed-written m to bytes at zero what = refl
allowed-written m to bytes at (suc n) what =
    ap (λ b. b && allows_all (written m to bytes) (at + 1) n what) (allows-written m to bytes at what)
    ∙ ap (λ b. allows m at what && b) (allowed-written m to bytes (at + 1) n what)

pub all-written : (m : Pages) (to : ℕ) (bytes : List ℕ) (what : Use) (pieces : List model.Piece) → all_allowed (written m to bytes) what pieces ≡ all_allowed m what pieces
all-written m to bytes what [] = refl
all-written m to bytes what (p ∷ pieces) =
    ap (λ b. b && all_allowed (written m to bytes) what pieces) (allowed-written m to bytes p.at p.count what)
    ∙ ap (λ b. allows_all m p.at p.count what && b) (all-written m to bytes what pieces)
