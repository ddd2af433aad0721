-- Rows that use all pieces of a list, and what such uses leave of a state.
use Rattle.std.proofs.Common.{◌≡◌, ℕ, ◌+◌, ◌<◌, Bool, true, false, List, [], ◌∷◌, ◌++◌, length, refl, sym, ap, subst, ◌∙◌, arith, append_assoc}
use Rattle.std.specs.Prelude.{◌&&◌, IsSome, take, drop, if◌then◌else◌}
use Rattle.kr_seen.specs.pr_base.declared.errno.Errno.TheVariants.{EFAULT}
use Rattle.kr_seen.specs.rv_mem.Actions.{WriteBytes, carried_out}
use Rattle.kr_seen.specs.rv_mem.Memory.{Memory, after_read, with_pages}
use Rattle.kr_seen.specs.rv_mem.Pages.{allows_all, written}
use Rattle.kr_seen.specs.rv_mem.declared.rights.Use.{Use}
use Rattle.kr_seen.specs.rv_mem.declared.rights.Use.TheVariants.{Write}
use Rattle.kr_seen.specs.kr_model.Change.{Change}
use Rattle.kr_seen.specs.kr_model.Pieces as model
use Rattle.kr_seen.specs.kr_model.Pieces.{cut_to, hand, if_usable, laid_into, may_use_all, read_all, write_all}
use Rattle.kr_seen.specs.kr_model.Reply.{Replying, done, refuse}
use Rattle.kr_seen.specs.kr_model.State.{process}
use Rattle.kr_seen.specs.kr_ops.declared.state.State.{State}
use Rattle.kr_seen.specs.kr_ops.Meaning.{meaning}
use Rattle.kr_seen.specs.kr_ops.Sound.{IsSound}
use Rattle.kr_seen.specs.PerformedRows.{carried, memory_of, with_memory_of}
use Rattle.kr_seen.specs.Using.{HasComeTo, HasMemory, Reads, Writes}
use Rattle.kr_seen.proofs.PerformLemmas.{own-memory}
use Rattle.kr_seen.proofs.UsingLemmas.{goes-on, memory-is, twice, was-read, was-written}
use Rattle.std.proofs.lemmas.List.{drop-drop}
use Rattle.kr_transfer.specs.Moving.{LeavesOthers, OnlyReads, all_allowed}
use Rattle.kr_transfer.proofs.PieceLemmas.{all-written}

-- all pieces tested
all-tested : (what : Use) (pieces : List model.Piece) (next : Bool → Replying) (m : Memory) → carried_out (may_use_all what pieces next) m ≡ carried_out (next (all_allowed m.pages what pieces)) m
all-tested what [] next m = refl
all-tested what (p ∷ pieces) next m = all-tested what pieces (λ others. next (allows_all m.pages p.at p.count what && others)) m

hand-some : (pieces : List model.Piece) (bytes : List ℕ) (changes : List Change) → 0 < length bytes
    → hand pieces bytes changes ≡ if_usable Write (cut_to (length bytes) pieces) (write_all (laid_into (cut_to (length bytes) pieces) bytes) (done (length bytes) changes))
hand-some pieces [] changes some = absurd (let none : 0 < 0 = some in omega arith)
hand-some pieces (b ∷ bytes) changes some = refl

module _ {T : Type 0} {M : ℕ} (pid : ℕ) where
  -- ---- states of which the caller's memory alone changed

  pub memory-now : (s t : State T M) (m : Memory) → IsSome (process pid (meaning s)) → HasMemory pid m s t → memory_of pid (meaning t) ≡ m
  memory-now s t m lives has = ap (memory_of pid) has.means ∙ memory-is pid m (meaning s) lives

  has-then : (s t u : State T M) (m n : Memory) → HasMemory pid m s t → HasMemory pid n t u → HasMemory pid n s u
  has-then s t u m n first second = record {
    means = second.means ∙ ap (with_memory_of pid n) first.means ∙ twice pid n m (meaning s);
    sound = second.sound;
    lives = second.lives;
    known = second.known ∙ first.known;
  }

  pub leaves-itself : (s : State T M) → IsSound s → IsSome (process pid (meaning s)) → LeavesOthers pid s s
  leaves-itself s sound lives = record { means = sym (own-memory pid (meaning s) sound.pids); sound = sound; lives = lives; known = refl }

  pub leaves-then : (s t u : State T M) (m : Memory) → LeavesOthers pid s t → HasMemory pid m t u → LeavesOthers pid s u
  leaves-then s t u m first second =
      subst (λ n. HasMemory pid n s u) (sym (memory-now t u m first.lives second)) (has-then s t u (memory_of pid (meaning t)) m first second)

  pub reads-itself : (s : State T M) → IsSound s → IsSome (process pid (meaning s)) → OnlyReads pid s s
  reads-itself s sound lives = record { leaves = leaves-itself s sound lives; pages = refl }

  pub reads-then : (s t u : State T M) (at n : ℕ) (bytes : List ℕ) → OnlyReads pid s t → Reads pid at n bytes t u → OnlyReads pid s u
  reads-then s t u at n bytes first second = record {
    leaves = leaves-then s t u (after_read (memory_of pid (meaning t)) at n) first.leaves second.leaves;
    pages = ap (λ (m : Memory). m.pages) (memory-now t u (after_read (memory_of pid (meaning t)) at n) first.leaves.lives second.leaves) ∙ first.pages;
  }

  pub reads-both : (s t u : State T M) → OnlyReads pid s t → OnlyReads pid t u → OnlyReads pid s u
  reads-both s t u first second = record {
    leaves = leaves-then s t u (memory_of pid (meaning u)) first.leaves second.leaves;
    pages = second.pages ∙ first.pages;
  }

  -- ---- rows under way

  pub comes-then : (a b c : Replying) (s t u : State T M) → HasComeTo pid a s b t → HasComeTo pid b t c u → HasComeTo pid a s c u
  comes-then a b c s t u first second = record { carried = first.carried ∙ second.carried; others = λ m. second.others m ∙ first.others m }

  pub comes-itself : (a : Replying) (s : State T M) → HasComeTo pid a s a s
  comes-itself a s = record { carried = refl; others = λ m. refl }

  pub tested-all : (begun : Replying) (old now : State T M) (what : Use) (pieces : List model.Piece) (next : Bool → Replying) (allowed : Bool) → allowed ≡ all_allowed (memory_of pid (meaning now)).pages what pieces
      → HasComeTo pid begun old (may_use_all what pieces next) now → HasComeTo pid begun old (next allowed) now
  tested-all begun old now what pieces next allowed is come = record {
    carried = come.carried ∙ all-tested what pieces next (memory_of pid (meaning now)) ∙ ap (λ b. carried pid (next b) (meaning now)) (sym is);
    others = come.others;
  }

  pub usable : (begun : Replying) (old now : State T M) (what : Use) (pieces : List model.Piece) (next : Replying) → all_allowed (memory_of pid (meaning now)).pages what pieces ≡ true
      → HasComeTo pid begun old (if_usable what pieces next) now → HasComeTo pid begun old next now
  usable begun old now what pieces next allowed = tested-all begun old now what pieces (λ allowed. if allowed then next else refuse EFAULT) true (sym allowed)

  pub unusable : (begun : Replying) (old now : State T M) (what : Use) (pieces : List model.Piece) (next : Replying) → all_allowed (memory_of pid (meaning now)).pages what pieces ≡ false
      → HasComeTo pid begun old (if_usable what pieces next) now → HasComeTo pid begun old (refuse EFAULT) now
  unusable begun old now what pieces next allowed = tested-all begun old now what pieces (λ allowed. if allowed then next else refuse EFAULT) false (sym allowed)

  -- one piece more read
  pub read-one : (begun : Replying) (old now new : State T M) (pieces rest : List model.Piece) (p : model.Piece) (next : List ℕ → Replying) (before bytes : List ℕ) → pieces ≡ p ∷ rest
      → IsSome (process pid (meaning now)) → Reads pid p.at p.count bytes now new
      → HasComeTo pid begun old (read_all pieces (λ others. next (before ++ others))) now
      → HasComeTo pid begun old (read_all rest (λ others. next ((before ++ bytes) ++ others))) new
  read-one begun old now new pieces rest p next before bytes is lives reads come =
      goes-on pid begun old new (read_all rest (λ others. next (before ++ (bytes ++ others)))) _ (λ j. read_all rest (λ others. next (sym (append_assoc before bytes others) j)))
      (was-read pid begun old now p.at p.count (λ b. read_all rest (λ others. next (before ++ (b ++ others)))) bytes new lives reads
      (goes-on pid begun old now (read_all pieces (λ others. next (before ++ others))) (read_all (p ∷ rest) (λ others. next (before ++ others))) (ap (λ ps. read_all ps (λ others. next (before ++ others))) is) come))

  pub allowed-read : (now new : State T M) (at n : ℕ) (bytes : List ℕ) (what : Use) (pieces : List model.Piece) → IsSome (process pid (meaning now)) → Reads pid at n bytes now new
      → all_allowed (memory_of pid (meaning now)).pages what pieces ≡ true → all_allowed (memory_of pid (meaning new)).pages what pieces ≡ true
  allowed-read now new at n bytes what pieces lives reads allowed =
      ap (λ (m : Memory). all_allowed m.pages what pieces) (memory-now now new (after_read (memory_of pid (meaning now)) at n) lives reads.leaves) ∙ allowed

  -- one part more written
  pub write-next : (begun : Replying) (old now new : State T M) (pieces others : List model.Piece) (at count : ℕ) (next : Replying) (bytes part : List ℕ) (past : ℕ)
      → pieces ≡ record { at = at; count = count } ∷ others → part ≡ take count (drop past bytes)
      → IsSome (process pid (meaning now)) → Writes pid at part now new
      → HasComeTo pid begun old (write_all (laid_into pieces (drop past bytes)) next) now
      → HasComeTo pid begun old (write_all (laid_into others (drop (past + count) bytes)) next) new
  write-next begun old now new pieces others at count next bytes part past is parted lives writes come =
      goes-on pid begun old new (write_all (laid_into others (drop count (drop past bytes))) next) _ (ap (λ bytes. write_all (laid_into others bytes) next) (drop-drop count past bytes))
      (was-written pid begun old now at part (write_all (laid_into others (drop count (drop past bytes))) next) new lives writes
      (goes-on pid begun old now (write_all (laid_into pieces (drop past bytes)) next) _
      (ap (λ ps. write_all (laid_into ps (drop past bytes)) next) is ∙ ap (λ part. WriteBytes at part (write_all (laid_into others (drop count (drop past bytes))) next)) (sym parted)) come))

  pub allowed-after : (now new : State T M) (at : ℕ) (bytes : List ℕ) (what : Use) (pieces : List model.Piece) → IsSome (process pid (meaning now)) → Writes pid at bytes now new
      → all_allowed (memory_of pid (meaning now)).pages what pieces ≡ true → all_allowed (memory_of pid (meaning new)).pages what pieces ≡ true
  allowed-after now new at bytes what pieces lives writes allowed =
      let m = memory_of pid (meaning now) in
      ap (λ (m : Memory). all_allowed m.pages what pieces) (memory-now now new (with_pages m (written m.pages at bytes)) lives writes.leaves) ∙ all-written m.pages at bytes what pieces ∙ allowed

  -- ---- bytes that are handed over

  pub hand-usable : (s : State T M) (pieces : List model.Piece) (bytes : List ℕ) (changes : List Change) → 0 < length bytes → all_allowed (memory_of pid (meaning s)).pages Write (cut_to (length bytes) pieces) ≡ true
      → HasComeTo pid (hand pieces bytes changes) s (write_all (laid_into (cut_to (length bytes) pieces) bytes) (done (length bytes) changes)) s
  hand-usable s pieces bytes changes some allowed =
      usable (hand pieces bytes changes) s s Write (cut_to (length bytes) pieces) _ allowed
      (goes-on pid (hand pieces bytes changes) s s (hand pieces bytes changes) _ (hand-some pieces bytes changes some) (comes-itself (hand pieces bytes changes) s))

  pub hand-unusable : (s : State T M) (pieces : List model.Piece) (bytes : List ℕ) (changes : List Change) → 0 < length bytes → all_allowed (memory_of pid (meaning s)).pages Write (cut_to (length bytes) pieces) ≡ false
      → HasComeTo pid (hand pieces bytes changes) s (refuse EFAULT) s
  hand-unusable s pieces bytes changes some allowed =
      unusable (hand pieces bytes changes) s s Write (cut_to (length bytes) pieces) _ allowed
      (goes-on pid (hand pieces bytes changes) s s (hand pieces bytes changes) _ (hand-some pieces bytes changes some) (comes-itself (hand pieces bytes changes) s))
