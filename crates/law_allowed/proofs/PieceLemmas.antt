-- Rows that move bytes between themselves and pieces of the caller's memory.
use Rattle.std.proofs.Common.{◌≡◌, ℕ, ◌+◌, ◌-◌, ◌<◌, ◌++◌, Bool, true, false, ◌&&◌, nat_lt, min, List, [], ◌∷◌, length, length-append, refl, arith}
use Rattle.std.specs.List.{AllByRecursion}
use Rattle.std.specs.Prelude.{map as map_list}
use Rattle.law_lawful.specs.pr_base.declared.errno.Errno.TheVariants.{EFAULT, EINVAL}
use Rattle.law_lawful.specs.rv_mem.declared.rights.Use.{Use}
use Rattle.law_lawful.specs.rv_mem.declared.rights.Use.TheVariants.{Write}
use Rattle.law_lawful.specs.kr_tree.Lawful.{AreBytes}
use Rattle.law_lawful.specs.kr_model.Change.{Change}
use Rattle.law_lawful.specs.kr_model.Pieces.{Piece, Part, asked, cut_to, move_limit, may_use_all, read_all, write_all, if_usable, hand, if_summed, with_list, pieces_of}
use Rattle.law_lawful.specs.kr_model.Reply.{Replying}
use Rattle.law_lawful.proofs.SumLemmas.{sum-cons}
use Rattle.law_allowed.proofs.RowLemmas.{Allowed, unchanged, refuses, ended, tested, read, wrote, either}

-- ---- counts

pub asked-cons : (p : Piece) (pieces : List Piece) → asked (p ∷ pieces) ≡ p.count + asked pieces
asked-cons p pieces = sum-cons p.count (map_list (λ (p : Piece). p.count) pieces)

-- the first bytes of pieces are as many as were asked for, or all
pub asked-cut : (n : ℕ) (pieces : List Piece) → asked (cut_to n pieces) ≡ min n (asked pieces)
asked-cut n [] = omega arith
asked-cut n (p ∷ pieces) =
    let rest = asked-cut (n - p.count) pieces in
    let first = asked-cons p pieces in
    let cut = asked-cons (record { at = p.at; count = min n p.count }) (cut_to (n - p.count) pieces) in
    omega arith

pub all-append : {A : Type 0} (P : A → Type 0) (xs ys : List A) → AllByRecursion P xs → AllByRecursion P ys → AllByRecursion P (xs ++ ys)
all-append P [] ys all more = more
all-append P (x ∷ xs) ys all more = (all.0, all-append P xs ys all.1 more)

-- ---- reads and writes

module _ {Can : List Change → Type 0} where
  used : {w : Bool} (what : Use) (pieces : List Piece) {next : Bool → Replying} → ((b : Bool) → Allowed Can w (next b)) → Allowed Can w (may_use_all what pieces next)
  used what [] allowed = allowed true
  used what (p ∷ pieces) allowed = tested (λ first. used what pieces (λ others. allowed (first && others)))

  pub usable : {w : Bool} (what : Use) (pieces : List Piece) {next : Replying} → Allowed Can w next → Allowed Can w (if_usable what pieces next)
  usable what pieces allowed = used what pieces (λ b. either b (λ _. allowed) (λ _. refuses EFAULT))

  -- all bytes of the pieces
  pub all-read : (pieces : List Piece) {next : List ℕ → Replying} → ((bytes : List ℕ) → length bytes ≡ asked pieces → AreBytes bytes → Allowed Can false (next bytes)) → Allowed Can false (read_all pieces next)
  all-read [] allowed = allowed [] refl tt
  all-read (p ∷ pieces) allowed =
      read (λ bytes count are. all-read pieces (λ others more are_more.
      allowed (bytes ++ others)
      (let both = length-append bytes others in let all = asked-cons p pieces in omega arith)
      (all-append (λ b. b < 256) bytes others (are refl) are_more)))

  all-written : {w : Bool} (parts : List Part) {next : Replying} → ((w : Bool) → Allowed Can w next) → Allowed Can w (write_all parts next)
  all-written {w} [] allowed = allowed w
  all-written (p ∷ parts) allowed = wrote (all-written parts allowed)

  -- no byte is handed over without a change
  pub handed : {w : Bool} (pieces : List Piece) (bytes : List ℕ) (changes : List Change) → (0 < length bytes → Can changes) → Allowed Can w (hand pieces bytes changes)
  handed pieces [] changes can = unchanged
  handed pieces (b ∷ bytes) changes can = usable Write (cut_to (length (b ∷ bytes)) pieces) (all-written _ (λ w. ended (can (omega arith))))

  summed : {w : Bool} (pieces : List Piece) {next : List Piece → Replying} → ((pieces : List Piece) → Allowed Can w (next pieces)) → Allowed Can w (if_summed pieces next)
  summed pieces allowed = either (nat_lt 0x7fffffffffffffff (asked pieces)) (λ _. refuses EINVAL) (λ _. allowed (cut_to move_limit pieces))

  pub listed : {w : Bool} (list count : ℕ) {next : List Piece → Replying} → ((pieces : List Piece) → Allowed Can w (next pieces)) → Allowed Can w (with_list list count next)
  listed list count allowed =
      either (nat_lt 1024 count) (λ _. refuses EINVAL) (λ _. tested (λ b. either b (λ _. read (λ bytes all are. summed (pieces_of count bytes) allowed)) (λ _. refuses EFAULT)))
