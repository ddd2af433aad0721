-- Rows that begin with a list of pieces.
use Rattle.std.proofs.Common.{◌≡◌, ℕ, suc, ◌+◌, ◌-◌, ◌*◌, ◌<◌, ◌≤◌, true, false, List, [], ◌∷◌, ◌++◌, drop, take, refl, sym, ap, subst, ◌∙◌, arith, append_assoc}
use Rattle.std.specs.Prelude.{IsSome, Result, Err, nat_lt}
use Rattle.std.specs.Int.{from_le_bytes, w64}
use Rattle.std.proofs.lemmas.Bool.{cond-true, cond-false}
use Rattle.std.proofs.lemmas.Bool.Decides.{nat_tests}
use Rattle.std.proofs.lemmas.List.{drop-drop, map-append}
use Rattle.kr_seen.specs.pr_base.declared.errno.Errno.{Errno}
use Rattle.kr_seen.specs.pr_base.declared.errno.Errno.TheVariants.{EFAULT, EINVAL}
use Rattle.kr_seen.specs.rv_mem.Actions.{read_if_allowed}
use Rattle.kr_seen.specs.rv_mem.declared.rights.Use.TheVariants.{Read}
use Rattle.kr_seen.specs.kr_model.Known.{known}
use Rattle.kr_seen.specs.kr_model.Pieces as model
use Rattle.kr_seen.specs.kr_model.Pieces.{asked, cut_to, if_summed, move_limit, pieces_of, with_list}
use Rattle.kr_seen.specs.kr_model.Reply.{Replying, refuse}
use Rattle.kr_seen.specs.kr_model.State.{process, image_layout}
use Rattle.kr_seen.specs.kr_model.State as state
use Rattle.kr_seen.specs.kr_ops.declared.state.State.{State}
use Rattle.kr_seen.specs.kr_ops.Making.{IsAsBefore}
use Rattle.kr_seen.specs.kr_ops.Meaning.{meaning}
use Rattle.kr_seen.specs.kr_ops.Sound.{IsSound}
use Rattle.kr_seen.specs.PerformedRows.{memory_of, with_memory_of}
use Rattle.kr_seen.specs.Using.{HasComeTo, Reads}
use Rattle.kr_seen.proofs.PerformLemmas.{own-memory}
use Rattle.kr_seen.proofs.UsingLemmas.{begins, goes-on, reads-allowed, stays-sound}
use Rattle.kr_transfer.specs.Moving.{OnlyReads, told}
use Rattle.kr_transfer.specs.declared.lists.ListFault.{ListFault}
use Rattle.kr_transfer.specs.declared.lists.ListFault.TheVariants.{NoMemory, Refused}
use Rattle.kr_transfer.specs.declared.pieces.Piece.{Piece}

-- one error of a list
pub same-refused : {X : Type 0} (a b : Errno) → ◌≡◌ {A = Result X ListFault} (Err (Refused a)) (Err (Refused b)) → a ≡ b
same-refused a b e = cc

pub no-want : {X : Type 0} (e : Errno) (fault : ListFault) → fault ≡ Refused e → ◌≡◌ {A = Result X ListFault} (Err fault) (Err NoMemory) → ⊥
no-want e fault is same = cc

pub why : {P : Type 0} (fault : ListFault) → ((e : Errno) → fault ≡ Refused e → P) → (fault ≡ NoMemory → P) → P
why (Refused e) refused want = refused e refl
why NoMemory refused want = want refl

-- ---- the entries of a list

pub next-entry : (count i : ℕ) (bytes : List ℕ) → i < count
    → pieces_of (count - i) (drop (16 * i) bytes)
    ≡ record { at = from_le_bytes w64 (take 8 (drop (16 * i) bytes)); count = from_le_bytes w64 (take 8 (drop 8 (drop (16 * i) bytes))) } ∷ pieces_of (count - (i + 1)) (drop (16 * (i + 1)) bytes)
next-entry count i bytes within =
    let left : count - i ≡ suc (count - (i + 1)) = omega arith in
    let past : 16 * i + 16 ≡ 16 * (i + 1) = omega arith in
    ap (λ n. pieces_of n (drop (16 * i) bytes)) left
    ∙ ap (λ bs. record { at = from_le_bytes w64 (take 8 (drop (16 * i) bytes)); count = from_le_bytes w64 (take 8 (drop 8 (drop (16 * i) bytes))) } ∷ pieces_of (count - (i + 1)) bs) (drop-drop 16 (16 * i) bytes ∙ ap (λ n. drop n bytes) past)

-- one piece more behind those that were read
pub more-told : (pieces : List Piece) (p : Piece) (rest : List model.Piece) → told (pieces ++ p ∷ []) ++ rest ≡ told pieces ++ (record { at = p.at; count = p.count } ∷ rest)
more-told pieces p rest =
    ap (λ ps. ps ++ rest) (map-append (λ (p : Piece). record { at = p.at; count = p.count }) pieces (p ∷ []))
    ∙ append_assoc (told pieces) (record { at = p.at; count = p.count } ∷ []) rest

module _ {T : Type 0} {M : ℕ} (pid : ℕ) where
  -- what is as it was was read at most
  pub reads-same : (s t : State T M) → IsSound s → IsSome (process pid (meaning s)) → IsAsBefore s t → OnlyReads pid s t
  reads-same s t sound lives before =
      let sound_now = stays-sound s t sound before in
      record {
        leaves = record {
          means = sym (own-memory pid (meaning t) sound_now.pids) ∙ ap (with_memory_of pid (memory_of pid (meaning t))) before.same;
          sound = sound_now;
          lives = subst (λ (u : state.State T state.Image). IsSome (process pid u)) (sym before.same) lives;
          known = ap (known image_layout pid) before.same;
        };
        pages = ap (λ (u : state.State T state.Image). (memory_of pid u).pages) before.same;
      }

  -- ---- a list that was read

  module _ (old new : State T M) (list count : ℕ) (next : List model.Piece → Replying) (few : count ≤ 1024) (bytes : List ℕ) (lives : IsSome (process pid (meaning old))) (reads : Reads pid list (16 * count) bytes old new) where
    was-summed : HasComeTo pid (with_list list count next) old (if_summed (pieces_of count bytes) next) new
    was-summed =
        let within : nat_lt 1024 count ≡ false = grind (arith, nat_tests) in
        reads-allowed pid (with_list list count next) old old list (16 * count) (refuse EFAULT) (λ bytes. if_summed (pieces_of count bytes) next) bytes new lives reads
        (begins pid (with_list list count next) old (read_if_allowed list (16 * count) (Read ∷ []) (refuse EFAULT) (λ bytes. if_summed (pieces_of count bytes) next)) (cond-false _ _ _ within))

    pub sums-past : 9223372036854775807 < asked (pieces_of count bytes) → HasComeTo pid (with_list list count next) old (refuse EINVAL) new
    sums-past past =
        let passed : nat_lt 9223372036854775807 (asked (pieces_of count bytes)) ≡ true = grind (arith, nat_tests) in
        goes-on pid (with_list list count next) old new (if_summed (pieces_of count bytes) next) (refuse EINVAL) (cond-true _ _ _ passed) was-summed

    pub sums-within : (pieces : List model.Piece) → asked (pieces_of count bytes) ≤ 9223372036854775807 → pieces ≡ cut_to move_limit (pieces_of count bytes) → HasComeTo pid (with_list list count next) old (next pieces) new
    sums-within pieces fits is =
        let within : nat_lt 9223372036854775807 (asked (pieces_of count bytes)) ≡ false = grind (arith, nat_tests) in
        goes-on pid (with_list list count next) old new (if_summed (pieces_of count bytes) next) (next pieces) (cond-false _ _ _ within ∙ ap next (sym is)) was-summed
