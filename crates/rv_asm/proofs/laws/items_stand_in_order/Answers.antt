use Rattle.std.proofs.Common.{◌≡◌, ℕ, ◌+◌, List, [], ◌∷◌, ◌++◌, Option, take, drop, append_assoc, arith, refl, ap, ◌∙◌}
use Rattle.std.proofs.lemmas.List.{take_at, drop_at}
use Rattle.rv_asm.specs.declared.item.Item.{Item}
use Rattle.rv_asm.specs.Program.{size_of, total}
use Rattle.rv_asm.specs.Assembly.{bytes_of, code_from}
use Rattle.rv_asm.proofs.Programs.{length-bytes_of, length-code_from}
use Rattle.rv_asm.proofs.laws.items_stand_in_order.Goals as goal

code_from-append : (places : List (Option ℕ)) (at : ℕ) (before rest : List Item) → code_from places at (before ++ rest) ≡ code_from places at before ++ code_from places (at + total before) rest
code_from-append places at [] rest = let same : at + 0 ≡ at = omega arith in rw same refl
code_from-append places at (x ∷ xs) rest =
    let shifted : at + size_of x + total xs ≡ at + (size_of x + total xs) = omega arith in
    rw append_assoc (ap (λ (code : List ℕ). bytes_of places at x ++ code) (code_from-append places (at + size_of x) xs rest ∙ ap (λ (n : ℕ). code_from places (at + size_of x) xs ++ code_from places n rest) shifted))

item_in_order : (places : List (Option ℕ)) (before after : List Item) (item : Item) → take (size_of item) (drop (total before) (code_from places 0 (before ++ item ∷ after))) ≡ bytes_of places (total before) item
item_in_order places before after item =
    let front : List ℕ = code_from places 0 before in
    let here : List ℕ = bytes_of places (total before) item in
    let behind : List ℕ = code_from places (total before + size_of item) after in
    let split : code_from places 0 (before ++ item ∷ after) ≡ front ++ (here ++ behind) = code_from-append places 0 before (item ∷ after) ∙ ap (λ (n : ℕ). front ++ (bytes_of places n item ++ code_from places (n + size_of item) after)) (omega arith) in
    let dropped : drop (total before) (front ++ (here ++ behind)) ≡ here ++ behind = drop_at front (here ++ behind) (total before) (length-code_from places 0 before) in
    ap (λ (code : List ℕ). take (size_of item) (drop (total before) code)) split
    ∙ (ap (λ (code : List ℕ). take (size_of item) code) dropped ∙ take_at here behind (size_of item) (length-bytes_of places (total before) item))

pub returns : goal.returns
returns c = λ p before after item is. ap (λ (items : List Item). take (size_of item) (drop (total before) (code_from p.places 0 items))) is ∙ item_in_order p.places before after item
