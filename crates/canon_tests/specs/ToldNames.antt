-- The names that the kernel in memory tells are texts, and steady paths lead to no link of the process directory.
use Rattle.std.proofs.Common.{◌≡◌, ◌≢◌, ◌&&◌, ℕ, Bool, true, false, cond, List, [], ◌∷◌, Some, None, Ok, refl, arith}
use Rattle.std.specs.Prelude.{bytes_eq, codes, nat_eq, IfSome, if◌then◌else◌}
use Rattle.std.specs.List.{All}
use Rattle.std.proofs.lemmas.List.Elements.{All-nil, All-cons}
use Rattle.pt_results.specs.pr_base.Paths.{IsName}
use Rattle.pt_results.specs.pr_base.Texts.{IsText}
use Rattle.pt_results.specs.pr_base.declared.peeks.PeekKind.TheVariants.{Jump}
use Rattle.canon_tests.specs.Told.{base_told, is_steady, kind_of, kind_told, row_at, steady_told}
use Rattle.canon_tests.specs.declared.told.Row.{Row}
use Rattle.canon_tests.specs.declared.told.Stands.{Stands}
use Rattle.canon_tests.specs.declared.told.Stands.TheVariants as stands

abbrev beside : ℕ → ℕ → Type 0
beside x b = b ≢ x

no_byte_of_data : (x : ℕ) → 100 ≢ x → 97 ≢ x → 116 ≢ x → All (beside x) (codes "data")
no_byte_of_data x d a t = let P = beside x in All-cons P 100 (97 ∷ 116 ∷ 97 ∷ []) d (All-cons P 97 (116 ∷ 97 ∷ []) a (All-cons P 116 (97 ∷ []) t (All-cons P 97 [] a (All-nil P))))

data_name : IsName (codes "data")
data_name = record {
  some = λ e. absurd cc;
  short = omega arith;
  no_slash = no_byte_of_data 47 (λ e. absurd (omega arith)) (λ e. absurd (omega arith)) (λ e. absurd (omega arith));
  no_zero = no_byte_of_data 0 (λ e. absurd (omega arith)) (λ e. absurd (omega arith)) (λ e. absurd (omega arith));
  not_dot = λ e. absurd cc;
  not_dot_dot = λ e. absurd cc;
}

n_name : IsName (codes "n")
n_name = record {
  some = λ e. absurd cc;
  short = omega arith;
  no_slash = All-cons (beside 47) 110 [] (λ e. absurd (omega arith)) (All-nil (beside 47));
  no_zero = All-cons (beside 0) 110 [] (λ e. absurd (omega arith)) (All-nil (beside 0));
  not_dot = λ e. absurd cc;
  not_dot_dot = λ e. absurd cc;
}

pub data_text : IsText (codes "/data")
data_text = record { names = codes "data" ∷ []; well_formed = All-cons IsName (codes "data") [] data_name (All-nil IsName); written = refl }

pub n_text : IsText (codes "/data/n")
n_text = record {
  names = codes "n" ∷ codes "data" ∷ [];
  well_formed = All-cons IsName (codes "n") (codes "data" ∷ []) n_name (All-cons IsName (codes "data") [] data_name (All-nil IsName));
  written = refl;
}

pub base_text : (fd : ℕ) → IfSome (base_told fd) IsText
base_text fd = by (nat_eq fd 4)
  where
    by : (b : Bool) → IfSome (if b then None else Some (codes "/data")) IsText
    by true = tt
    by false = data_text

and_first : (a b : Bool) → (a && b) ≡ true → a ≡ true
and_first true b h = refl
and_first false b h = h

and_second : (a b : Bool) → (a && b) ≡ true → b ≡ true
and_second true b h = h
and_second false b h = absurd cc

no_jump_stands : (x : Stands) → is_steady x ≡ true → kind_of x ≢ Ok Jump
no_jump_stands stands.Dir steady h = absurd cc
no_jump_stands stands.File steady h = absurd cc
no_jump_stands (stands.Link text) steady h = absurd cc
no_jump_stands stands.Jump steady h = absurd cc
no_jump_stands (stands.Fails e) steady h = absurd cc

pub no_jump_told : (rows : List Row) (host : List ℕ) → steady_told rows ≡ true → kind_told (row_at rows host) ≢ Ok Jump
no_jump_told [] host steady h = absurd cc
no_jump_told (row ∷ rows) host steady h = at (no_jump_told rows host (and_second (is_steady row.stands) (steady_told rows) steady)) (bytes_eq row.host host) h
  where
    at : kind_told (row_at rows host) ≢ Ok Jump → (b : Bool) → kind_told (cond b (Some row) (row_at rows host)) ≢ Ok Jump
    at later true h = no_jump_stands row.stands (and_first (is_steady row.stands) (steady_told rows) steady) h
    at later false h = later h
