-- Texts that are put in place of paths are absolute and have no zero byte.
use Rattle.std.proofs.Common.{◌≡◌, ◌≢◌, ℕ, Bool, true, false, List, [], ◌∷◌, ◌++◌, refl, ap, arith}
use Rattle.std.specs.Bool.{if◌then◌else◌}
use Rattle.std.proofs.lemmas.List.{append-nil}
use Rattle.std.proofs.lemmas.List.Elements.{All-append, All-cons, All-head, All-nil, All-tail}
use Rattle.law_edits.specs.pr_base.MountText.{MountText}
use Rattle.law_edits.specs.pr_base.Paths.{AreNames, IsName, below_root, dot, dot_dot, is_absolute, slash, text_of}
use Rattle.law_edits.specs.pr_base.Texts.{Text}
use Rattle.law_edits.proofs.pr_base.PathLemmas.{text_absolute}
use Rattle.law_edits.specs.pt_bind.Binding.{host_of}
use Rattle.law_edits.specs.pt_args.Purposes.{named_path}
use Rattle.law_edits.specs.law_allowed.Texts.{IsText}
use Rattle.law_places.specs.kr_view.ReachLaws.{slashed}
use Rattle.law_plans.specs.OnePath.{IsNewText}

abbrev NoZero : ℕ → Type 0
NoZero b = b ≢ 0

slash_text : IsText (slash ∷ [])
slash_text = All-cons NoZero slash [] (λ e. absurd (omega (arith, e))) (All-nil NoZero)

before_slash : (text : List ℕ) → IsText text → IsText (slash ∷ text)
before_slash text is = All-append NoZero (slash ∷ []) text slash_text is

below_text : (names : Text) → AreNames names → IsText (below_root names)
below_text [] are = All-nil NoZero
below_text (name ∷ names) are =
    All-append NoZero (below_root names) (slash ∷ name) (below_text names (All-tail IsName name names are)) (before_slash name (All-head IsName name names are).no_zero)

pub names_text : (names : Text) → AreNames names → IsText (text_of names)
names_text [] are = slash_text
names_text (name ∷ names) are = below_text (name ∷ names) are

-- the text of some names
pub new_names : (names : Text) → AreNames names → IsNewText (text_of names)
new_names names are = record { absolute = text_absolute names; no_zero = names_text names are }

-- the root
pub new_root : IsNewText (slash ∷ [])
new_root = record { absolute = refl; no_zero = slash_text }

-- ---- a last component behind a text

behind_text : (behind : Bool) (part : List ℕ) → IsText part → IsText (slashed behind part)
behind_text true part is = All-append NoZero part (slash ∷ []) is slash_text
behind_text false part is = is

behind_absolute : (names : Text) (more : List ℕ) → is_absolute (text_of names ++ more) ≡ true
behind_absolute [] more = refl
behind_absolute (name ∷ names) more = by (text_of (name ∷ names)) (text_absolute (name ∷ names))
  where
    by : (path : List ℕ) → is_absolute path ≡ true → is_absolute (path ++ more) ≡ true
    by [] e = absurd cc
    by (b ∷ path) e = e

pub new_behind : (names : Text) (behind : Bool) (part : List ℕ) → AreNames names → IsText part → IsNewText (text_of names ++ slash ∷ slashed behind part)
new_behind names behind part are is = record {
  absolute = behind_absolute names (slash ∷ slashed behind part);
  no_zero = All-append NoZero (text_of names) (slash ∷ slashed behind part) (names_text names are) (before_slash (slashed behind part) (behind_text behind part is));
}

pub dot_text : IsText dot
dot_text = All-cons NoZero 46 [] (λ e. absurd (omega (arith, e))) (All-nil NoZero)

pub dot_dot_text : IsText dot_dot
dot_dot_text = All-cons NoZero 46 dot (λ e. absurd (omega (arith, e))) dot_text

-- a tracer joins the parts as they are
pub part_slashed : (behind : Bool) (part : List ℕ) → part ++ (if behind then slash ∷ [] else []) ≡ slashed behind part
part_slashed true part = refl
part_slashed false part = append-nil part

pub named_is : (bindings : List MountText) (dir : Text) (part : List ℕ) (behind : Bool) → named_path bindings dir part behind ≡ text_of (host_of bindings dir) ++ slash ∷ slashed behind part
named_is bindings dir part behind = ap (λ more. text_of (host_of bindings dir) ++ slash ∷ more) (part_slashed behind part)
