-- The guest's code, and the texts of its rounds.
use Rattle.std.proofs.Common.{◌≡◌, ℕ, ◌+◌, ◌*◌, ◌/◌, ◌%◌, ◌<◌, ◌≤◌, ◌^◌, List, [], ◌++◌, map, None, refl, ap, ◌∙◌, arith}
use Rattle.std.specs.Prelude.{codes, length}
use Rattle.std.specs.Fmt.{decimal}
use Rattle.std.proofs.lemmas.Fmt.{length-decimal-le}
use Rattle.std.proofs.lemmas.List.{length-append}
use Rattle.rv_asm.specs.rv_table.declared.instr.Instr.{Instr}
use Rattle.rv_asm.specs.declared.item.Item.TheVariants.{Plain}
use Rattle.rv_asm.specs.Program.{Program}
use Rattle.rv_asm.specs.Assembly.{first_fault}
use Rattle.pr_gen.specs.Draws.{after, drawn, stepped}
use Rattle.pr_gen.specs.Guest.{end_code, guest_program, read_code, rename_code, round_at, round_texts, setup_code}

abbrev pub longer : List Instr → Program → Program
longer part p = record { items = p.items ++ map Plain part; places = p.places }

pub whole_program : (a b c d e : Program) → a.items ≡ [] → a.places ≡ [] → b ≡ longer setup_code a → c ≡ longer read_code b → d ≡ longer rename_code c → e ≡ longer end_code d → e ≡ guest_program
whole_program a b c d e no_items no_places first second third fourth =
    let none : a ≡ record { items = []; places = [] } = λ k. record { items = no_items k; places = no_places k } in
    fourth ∙ ap (longer end_code) (third ∙ ap (longer rename_code) (second ∙ ap (longer read_code) (first ∙ ap (longer setup_code) none)))

-- no instruction uses a label
pub no_fault : first_fault guest_program ≡ None
no_fault = refl

pub drawn_round : (now more : List ℕ) (k state one two : ℕ) → one ≡ stepped state → two ≡ stepped one → (d j b : ℕ)
    → d ≡ 4 * (k / 64) + drawn 4 one → j ≡ k % 64 → b ≡ drawn 256 two → more ≡ now ++ round_texts d j b → more ≡ now ++ round_at k state
unfolding after
drawn_round now more k state one two first second d j b d_is j_is b_is grown =
    grown ∙ (λ i. now ++ round_texts ((d_is ∙ ap (λ s. 4 * (k / 64) + drawn 4 s) first) i) (j_is i) ((b_is ∙ ap (drawn 256) (second ∙ ap stepped first)) i))

-- ---- sizes

twenty : (n : ℕ) → n < 2 ^ 64 → length (decimal n) ≤ 20
twenty n fits = length-decimal-le 20 n (omega arith) (omega arith) fits

pub short_path : (letter : List ℕ) (d b : ℕ) → d < 2 ^ 64 → b < 2 ^ 64 → length letter ≡ 2 → length (codes "/d" ++ (decimal d ++ (letter ++ decimal b))) ≤ 60
short_path letter d b fits_d fits_b two =
    let one = length-append (decimal d) (letter ++ decimal b) in
    let more = length-append letter (decimal b) in
    omega (arith, one, more, two, twenty d fits_d, twenty b fits_b)

pub short_target : (b : ℕ) → b < 2 ^ 64 → length (codes "/d1/m/n/../n/t" ++ decimal b) ≤ 60
short_target b fits = omega (arith, twenty b fits)
