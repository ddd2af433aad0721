use Rattle.std.proofs.Common.{◌≡◌, ◌++◌, ◌+◌, length, ap, ◌∙◌}
use Rattle.std.specs.Int.{to_le_bytes, w64}
use Rattle.elf_load.specs.FirstStack.{text_addresses, text_bytes, texts_at, pair_words, word_bytes}
use Rattle.elf_load.proofs.ListLemmas.{words-added, on_ok}
use Rattle.elf_load.proofs.stack.push_words.Goals as goal

pub returns : goal.returns
returns c =
    let args = c.args.args.now in
    let env = c.args.env.now in
    let first = c.requires.first in
    let end : c.in_ok-env_at.env_at ≡ texts_at args env + length (text_bytes args) = c.in_ok-env_at.ensures.end ∙ ap (λ a. a + length (text_bytes args)) first in
    on_ok c.push_pairs.result _ _ (λ last.
    words-added c.args.bytes.now c.push_word.new.bytes c.push_addresses.new.bytes c.push_word-2.new.bytes c.push_addresses-2.new.bytes c.push_word-3.new.bytes c.push_pairs.new.bytes
    (length args) (text_addresses (texts_at args env) args) (text_addresses (texts_at args env + length (text_bytes args)) env) (pair_words c.args.pairs.now)
    (c.in_ok-push_word.ensures ∙ ap (λ n. c.args.bytes.now ++ to_le_bytes w64 n) c.len.ensures)
    (c.in_ok-env_at.ensures.words ∙ ap (λ a. c.push_word.new.bytes ++ word_bytes (text_addresses a args)) first)
    c.in_ok-push_word-2.ensures
    (c.in_ok-push_addresses.ensures.words ∙ ap (λ a. c.push_word-2.new.bytes ++ word_bytes (text_addresses a env)) end)
    c.in_ok-push_word-3.ensures
    last) c.push_pairs.ensures
