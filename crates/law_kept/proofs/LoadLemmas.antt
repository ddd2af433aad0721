-- A program is loaded as bytes, of a file, of zeros, and of a stack of words and texts.
use Rattle.std.proofs.Common.{ℕ, ◌+◌, ◌-◌, ◌*◌, ◌/◌, ◌≡◌, List, [], ◌∷◌, drop, length, length-set, refl, replicate, arith}
use Rattle.std.specs.Int.{to_le_bytes, w64}
use Rattle.kr_first.specs.rv_mem.Memory.{empty_memory}
use Rattle.kr_first.specs.rv_mem.Pages.{HoldsBytes, Pages, mapped}
use Rattle.kr_first.specs.elf_read.Plans.{planned}
use Rattle.kr_first.specs.elf_read.Rules.{page_size}
use Rattle.kr_first.specs.elf_read.declared.plan.Plan.{Plan}
use Rattle.kr_first.specs.elf_read.declared.plan.Segment.{Segment}
use Rattle.kr_first.specs.elf_load.FirstStack.{pairs_of, random_at, random_bytes, stack_bytes, stack_pointer, stack_top, text_bytes, texts_at, texts_size, word_bytes, word_count, words_of, zeros}
use Rattle.kr_first.specs.elf_load.Image.{end_page, file_bytes, first_page, first_regs, image_pages, rights_in, stack_pages, stack_rights, with_segment, with_segments, with_stack}
use Rattle.kr_first.specs.elf_load.declared.stack.Pair.{Pair}
use Rattle.kr_first.specs.kr_tree.Lawful.{AreBytes}
use Rattle.law_kept.specs.Bytes.{AreAllBytes}
use Rattle.law_kept.proofs.ListLemmas.{bytes-tested, first-of, joined, rest-of, six-joined, word-bytes, zeros as no-bytes}
use Rattle.law_kept.proofs.PageLemmas.{holds-empty, holds-mapped, holds-written}

-- ---- segments

segment-holds : (file : List ℕ) (m : Pages) (s : Segment) → AreBytes file → HoldsBytes m → HoldsBytes (with_segment file m s)
unfolding with_segment
segment-holds file m s are holds =
    holds-written (mapped m (first_page s) (end_page s - first_page s) (rights_in s.flags)) s.at (file_bytes file s) (first-of s.file (drop s.offset file) (rest-of s.offset file are))
    (holds-mapped m (first_page s) (end_page s - first_page s) (rights_in s.flags) holds)

segments-hold : (file : List ℕ) (segments : List Segment) (m : Pages) → AreBytes file → HoldsBytes m → HoldsBytes (with_segments file m segments)
unfolding with_segments
segments-hold file [] m are holds = holds
segments-hold file (s ∷ segments) m are holds = segments-hold file segments (with_segment file m s) are (segment-holds file m s are holds)

-- ---- the stack

words-are-bytes : (words : List ℕ) → AreBytes (word_bytes words)
words-are-bytes [] = tt
words-are-bytes (w ∷ words) = joined (to_le_bytes w64 w) (word_bytes words) (word-bytes w64 w) (words-are-bytes words)

texts-are-bytes : (texts : List (List ℕ)) → AreAllBytes texts → AreBytes (text_bytes texts)
texts-are-bytes [] are = tt
texts-are-bytes (t ∷ texts) are = joined t (0 ∷ text_bytes texts) are.0 (omega arith, texts-are-bytes texts are.1)

zeros-are-bytes : (n : ℕ) → AreBytes (zeros n)
unfolding zeros
zeros-are-bytes n = no-bytes n

stack-is-bytes : (pairs : List Pair) (args env : List (List ℕ)) → AreAllBytes args → AreAllBytes env → AreBytes (stack_bytes pairs args env)
stack-is-bytes pairs args env args_are env_are =
    six-joined (word_bytes (words_of pairs args env)) (zeros (texts_at args env - (stack_pointer args env + 8 * word_count args env))) (text_bytes args) (text_bytes env)
    (zeros (random_at - (texts_at args env + texts_size args env))) random_bytes
    (words-are-bytes (words_of pairs args env)) (zeros-are-bytes (texts_at args env - (stack_pointer args env + 8 * word_count args env))) (texts-are-bytes args args_are) (texts-are-bytes env env_are)
    (zeros-are-bytes (random_at - (texts_at args env + texts_size args env))) (bytes-tested random_bytes refl)

stack-holds : (m : Pages) (sp : ℕ) (bytes : List ℕ) → AreBytes bytes → HoldsBytes m → HoldsBytes (with_stack m sp bytes)
unfolding with_stack
stack-holds m sp bytes are holds =
    holds-written (mapped m (stack_top / page_size - stack_pages) stack_pages stack_rights) sp bytes are (holds-mapped m (stack_top / page_size - stack_pages) stack_pages stack_rights holds)

-- ---- the whole

pub first-registers : (plan : Plan) (args env : List (List ℕ)) → length (first_regs plan args env).x ≡ 32
first-registers plan args env = length-set (replicate 32 0) 2 (stack_pointer args env)

pub image-holds : (file : List ℕ) (plan : Plan) (args env : List (List ℕ)) (ids : List ℕ) → AreBytes file → AreAllBytes args → AreAllBytes env → HoldsBytes (image_pages file plan args env ids)
unfolding image_pages
image-holds file plan args env ids are args_are env_are =
    stack-holds (with_segments file empty_memory.pages (planned plan)) (stack_pointer args env) (stack_bytes (pairs_of plan ids) args env) (stack-is-bytes (pairs_of plan ids) args env args_are env_are)
    (segments-hold file (planned plan) empty_memory.pages are holds-empty)
