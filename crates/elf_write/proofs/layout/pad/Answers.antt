use Rattle.std.proofs.Common.{◌≡◌, ℕ, ◌-◌, ◌<◌, ◌≤◌, ◌++◌, List, length, take, replicate, arith, refl, vec_len}
use Rattle.std.proofs.lemmas.List.{take_all, append-nil}
use Rattle.elf_write.specs.Layout.{padded, zeros}
use Rattle.elf_write.proofs.layout.pad.Goals as goal

-- cut to the size or filled up to it, where they are fewer: padded
filled : (size : ℕ) (bytes : List ℕ) → length bytes < size → take size bytes ++ replicate (size - length bytes) 0 ≡ padded size bytes
unfolding zeros
filled size bytes fewer = let all : take size bytes ≡ bytes = take_all size bytes (omega arith) in rw all refl

-- as they are, where they are enough
enough : (size : ℕ) (bytes : List ℕ) → size ≤ length bytes → bytes ≡ padded size bytes
unfolding zeros
enough size bytes many = let none : size - length bytes ≡ 0 = omega arith in rw (none, append-nil) refl

pub returns-in_ok-resize : goal.returns-in_ok-resize
returns-in_ok-resize c =
    let same : vec_len c.args.file.now ≡ length c.args.file.now.items = omega arith in
    rw (c.in_ok-resize.ensures.items, same) (filled c.args.size c.args.file.now.items (omega arith))

pub returns-else-len-size : goal.returns-else-len-size
returns-else-len-size c = enough c.args.size c.args.file.now.items (omega arith)
