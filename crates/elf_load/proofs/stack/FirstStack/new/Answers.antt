use Rattle.std.proofs.Common.{◌≡◌, ◌≤◌, ◌-◌, ◌+◌, ◌*◌, length, ap, ◌∙◌, arith}
use Rattle.elf_load.specs.FirstStack.{aligned, texts_at, stack_pointer, word_count, random_at, texts_size, pairs_of, word_bytes, words_of}
use Rattle.std.proofs.Common.{◌++◌}
use Rattle.elf_load.proofs.ListLemmas.{pointer-is, stack-built, stack_low, stack_ends}
use Rattle.elf_load.proofs.stack.FirstStack.new.Goals as goal

bytes_are : goal.returns-clause-bytes
bytes_are c =
    let args = c.args.args.now in
    let env = c.args.env.now in
    let pairs = pairs_of c.args.plan.now c.args.ids in
    let at : c.aligned-texts_at.result ≡ texts_at args env = c.aligned-texts_at.ensures ∙ ap (λ s. aligned (random_at - s)) c.requires.size in
    let count : 8 * (c.len.result + c.len-2.result + 27) ≡ 8 * word_count args env = omega (arith, c.len.ensures, c.len-2.ensures) in
    let sp : c.aligned-sp.result ≡ stack_pointer args env = pointer-is c.args.args.now c.args.env.now c.args.size c.aligned-texts_at.result c.len.result c.len-2.result c.aligned-sp.result c.aligned-texts_at.ensures c.requires.size c.len.ensures c.len-2.ensures c.aligned-sp.ensures in
    let gap : c.aligned-texts_at.result - (c.aligned-sp.result + 8 * (c.len.result + c.len-2.result + 27)) ≡ texts_at args env - (stack_pointer args env + 8 * word_count args env) =
    ap (λ n. c.aligned-texts_at.result - (c.aligned-sp.result + n)) count
    ∙ ap (λ s. c.aligned-texts_at.result - (s + 8 * word_count args env)) sp
    ∙ ap (λ t. t - (stack_pointer args env + 8 * word_count args env)) at in
    let above : random_at - (c.aligned-texts_at.result + c.args.size) ≡ random_at - (texts_at args env + texts_size args env) =
    ap (λ t. random_at - (t + c.args.size)) at ∙ ap (λ s. random_at - (texts_at args env + s)) c.requires.size in
    stack-built pairs args env c.new-bytes.result c.push_words.new.bytes c.push_zeros.new.bytes c.push_texts.new.bytes c.push_texts-2.new.bytes c.push_zeros-2.new.bytes c.append.new.self
    _ _ c.new-bytes.ensures
    (c.in_ok-push_words.ensures ∙ ap (λ p. c.new-bytes.result ++ word_bytes (words_of p args env)) c.pairs.ensures)
    c.in_ok-push_zeros.ensures c.in_ok-push_texts.ensures c.in_ok-push_texts-2.ensures c.in_ok-push_zeros-2.ensures c.in_ok-append.ensures.ok gap above

pub returns-clause-bytes : goal.returns-clause-bytes
returns-clause-bytes c = bytes_are c

pub returns-clause-placed : goal.returns-clause-placed
returns-clause-placed c =
    let size : texts_size c.args.args.now c.args.env.now ≤ 131072 = omega (arith, c.requires.size) in
    let low = stack_low c.args.args.now c.args.env.now size c.requires.few_args c.requires.few_env in
    omega (arith, pointer-is c.args.args.now c.args.env.now c.args.size c.aligned-texts_at.result c.len.result c.len-2.result c.aligned-sp.result c.aligned-texts_at.ensures c.requires.size c.len.ensures c.len-2.ensures c.aligned-sp.ensures)

pub returns-clause-ends : goal.returns-clause-ends
returns-clause-ends c =
    let size : texts_size c.args.args.now c.args.env.now ≤ 131072 = omega (arith, c.requires.size) in
    let ends = stack_ends c.args.plan.now c.args.ids c.args.args.now c.args.env.now size c.requires.few_args c.requires.few_env in
    omega (arith, pointer-is c.args.args.now c.args.env.now c.args.size c.aligned-texts_at.result c.len.result c.len-2.result c.aligned-sp.result c.aligned-texts_at.ensures c.requires.size c.len.ensures c.len-2.ensures c.aligned-sp.ensures, ap length (bytes_are c))
