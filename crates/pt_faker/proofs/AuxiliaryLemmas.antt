-- What stands on the stack of a new program, word by word.
use Rattle.std.proofs.Common.{◌≡◌, ◌≢◌, ◌∙◌, ◌+◌, ◌%◌, ◌^◌, ◌==◌, ℕ, suc, Bool, true, false, List, [], ◌∷◌, arith, w64, Some, None, if◌then◌else◌, sym, ap, subst}
use Rattle.std.specs.Int.{from_le_bytes, to_le_bytes}
use Rattle.std.specs.Prelude.{IsSome}
use Rattle.std.proofs.lemmas.Bool.Decides.{nat_tests}
use Rattle.elf_load.specs.pr_base.Fields.{little_endian}
use Rattle.pt_ident.specs.rv_mem.Actions.{Action, Done, ReadBytes, WriteBytes, carried_out}
use Rattle.pt_ident.specs.rv_mem.Memory.{Memory, after_read}
use Rattle.pt_ident.specs.rv_mem.Pages.{Pages, allows_all, bytes_from}
use Rattle.pt_ident.specs.rv_mem.declared.rights.Use.TheVariants.{Read, Write}
use Rattle.kr_stops.specs.kr_model.State.{process}
use Rattle.kr_stops.specs.Editing.{after_peek, after_poke, memory_at, with_memory}
use Rattle.kr_stops.specs.Stopped.{IsEdited, IsThere, Stopped, edited, image_at}
use Rattle.kr_stops.proofs.EditLemmas.{computed-lives, edited-twice}
use Rattle.pt_ident.specs.Identity.{Identity}
use Rattle.pt_ident.specs.Showing.{auxiliary_values}
use Rattle.pt_faker.specs.Carrying.{GoesOn, on_its_memory}
use Rattle.pt_faker.specs.Faking.{behind_list, most_words, next_word, put_values, show_identity, word_at}
use Rattle.pt_faker.proofs.StopLemmas.{memory-given, memory-twice, wrote}

-- what was edited is there, too
pub there-still : (t u : Stopped) → IsThere t → IsEdited t u → IsThere u
there-still t u there edits =
    let regs = (image_at u).regs in
    let memory = (image_at u).memory in
    record {
      lives = subst (λ (v : Stopped). IsSome (process v.pid v.state)) (sym edits.becomes) (computed-lives t.pid regs memory t.state there.lives);
      one = ap (edited regs memory) edits.becomes ∙ edited-twice regs regs memory memory t ∙ sym edits.becomes;
    }

-- eight bytes as a word
pub word-of : (m : Pages) (at : ℕ) → from_le_bytes w64 (bytes_from m at 8) ≡ little_endian (bytes_from m at 8)
unfolding bytes_from
word-of m at = omega arith

module _ (t : Stopped) (there : IsThere t) where
  -- an action behind others
  pub done-behind : (m : Memory) (action : Action (Unit {0})) → on_its_memory action (with_memory m t) ≡ with_memory (carried_out action m).memory t
  done-behind m action =
      ap (λ own. with_memory (carried_out action own).memory (with_memory m t)) (memory-given t there m)
      ∙ memory-twice t there m (carried_out action m).memory

  -- ---- a word

  module _ (at : ℕ) (next : ℕ → Action (Unit {0})) where
    word-tested : Bool → Action (Unit {0})
    word-tested b = if b then ReadBytes at 8 (λ bytes. next (little_endian bytes)) else Done tt

    pub word-read : (u : Stopped) (word : ℕ) → allows_all (memory_at t).pages at 8 Read ≡ true → u ≡ after_peek at 8 t → word ≡ little_endian (bytes_from (memory_at t).pages at 8)
        → on_its_memory (next word) u ≡ on_its_memory (word_at at next) t
    unfolding word-tested
    word-read u word may peeked is =
        ap (on_its_memory (next word)) peeked
        ∙ done-behind (after_read (memory_at t) at 8) (next word)
        ∙ ap (λ w. with_memory (carried_out (next w) (after_read (memory_at t) at 8)).memory t) is
        ∙ sym (ap (λ b. with_memory (carried_out (word-tested b) (memory_at t)).memory t) may)

  -- ---- values

  module _ (at v : ℕ) (vs : List ℕ) where
    value-tested : Bool → Action (Unit {0})
    value-tested b = if b then WriteBytes at (to_le_bytes w64 v) (put_values ((at + 16) % 2 ^ 64) vs) else Done tt

    pub value-refused : allows_all (memory_at t).pages at 8 Write ≡ false → t ≡ on_its_memory (put_values at (v ∷ vs)) t
    unfolding value-tested
    value-refused not = sym there.one ∙ sym (ap (λ b. with_memory (carried_out (value-tested b) (memory_at t)).memory t) not)

    pub value-put : (u : Stopped) → allows_all (memory_at t).pages at 8 Write ≡ true → u ≡ after_poke at (to_le_bytes w64 v) t
        → on_its_memory (put_values ((at + 16) % 2 ^ 64) vs) u ≡ on_its_memory (put_values at (v ∷ vs)) t
    unfolding value-tested
    value-put u may poked =
        ap (on_its_memory (put_values ((at + 16) % 2 ^ 64) vs)) poked
        ∙ done-behind (wrote (memory_at t) at (to_le_bytes w64 v)) (put_values ((at + 16) % 2 ^ 64) vs)
        ∙ sym (ap (λ b. with_memory (carried_out (value-tested b) (memory_at t)).memory t) may)

  -- none are left
  pub values-put : (at : ℕ) → t ≡ on_its_memory (put_values at []) t
  values-put at = sym there.one

-- ---- a list of words

pub zero-test : (word : ℕ) → word ≡ 0 → (word == 0) ≡ true
zero-test word is = ap (λ k. k == 0) is

pub other-test : (word : ℕ) → word ≢ 0 → (word == 0) ≡ false
other-test word other = grind (arith, nat_tests)

module _ (m at : ℕ) (next : ℕ → Action (Unit {0})) where
  pub list-unread : (t u : Stopped) → GoesOn (word_at at) None t u → u ≡ on_its_memory (behind_list (suc m) at next) t
  unfolding behind_list
  list-unread t u read = read (λ word. if word == 0 then next (next_word at) else behind_list m (next_word at) next)

  pub list-ends : (t u : Stopped) (word : ℕ) → GoesOn (word_at at) (Some word) t u → (word == 0) ≡ true → on_its_memory (next (next_word at)) u ≡ on_its_memory (behind_list (suc m) at next) t
  unfolding behind_list
  list-ends t u word read is =
      sym (ap (λ b. on_its_memory (if b then next (next_word at) else behind_list m (next_word at) next) u) is)
      ∙ read (λ word. if word == 0 then next (next_word at) else behind_list m (next_word at) next)

  pub list-goes : (t u : Stopped) (word : ℕ) → GoesOn (word_at at) (Some word) t u → (word == 0) ≡ false → on_its_memory (behind_list m (next_word at) next) u ≡ on_its_memory (behind_list (suc m) at next) t
  unfolding behind_list
  list-goes t u word read is =
      sym (ap (λ b. on_its_memory (if b then next (next_word at) else behind_list m (next_word at) next) u) is)
      ∙ read (λ word. if word == 0 then next (next_word at) else behind_list m (next_word at) next)

-- there were more words than may be read
pub list-unended : (at : ℕ) (next : ℕ → Action (Unit {0})) (t : Stopped) → IsThere t → t ≡ on_its_memory (behind_list 0 at next) t
unfolding behind_list
list-unended at next t there = sym there.one

-- ---- the whole

module _ (i : Identity) (stack : ℕ) where
  pub shown-none : (t u : Stopped) → GoesOn (behind_list most_words (next_word stack)) None t u → u ≡ on_its_memory (show_identity i stack) t
  shown-none t u first = first (λ environment. behind_list most_words environment (λ pairs. put_values ((pairs + 88) % 2 ^ 64) (auxiliary_values i)))

  pub shown-arguments : (t u v : Stopped) (environment : ℕ) → GoesOn (behind_list most_words (next_word stack)) (Some environment) t u → GoesOn (behind_list most_words environment) None u v → v ≡ on_its_memory (show_identity i stack) t
  shown-arguments t u v environment first second =
      second (λ pairs. put_values ((pairs + 88) % 2 ^ 64) (auxiliary_values i))
      ∙ first (λ environment. behind_list most_words environment (λ pairs. put_values ((pairs + 88) % 2 ^ 64) (auxiliary_values i)))

  pub shown-all : (t u v w : Stopped) (environment pairs : ℕ) → GoesOn (behind_list most_words (next_word stack)) (Some environment) t u → GoesOn (behind_list most_words environment) (Some pairs) u v
      → w ≡ on_its_memory (put_values ((pairs + 88) % 2 ^ 64) (auxiliary_values i)) v → w ≡ on_its_memory (show_identity i stack) t
  shown-all t u v w environment pairs first second put =
      put
      ∙ second (λ pairs. put_values ((pairs + 88) % 2 ^ 64) (auxiliary_values i))
      ∙ first (λ environment. behind_list most_words environment (λ pairs. put_values ((pairs + 88) % 2 ^ 64) (auxiliary_values i)))
