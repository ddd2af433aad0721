-- What lasts leaves room for each number that is drawn next.
use Rattle.std.proofs.Common.{◌≡◌, ℕ, ◌+◌, ◌<◌, ◌^◌, [], refl, arith, Option, Some, None}
use Rattle.std.specs.Option.{option_map_or}
use Rattle.law_lawful.proofs.kr_inode.EntryLemmas.{in_above}
use Rattle.law_lawful.specs.kr_tree.Tree.{Inode, Entry, inode, entries_of}
use Rattle.law_lawful.specs.kr_tree.Lawful.{IsIn}
use Rattle.law_allowed.specs.Lasting.{LastingHasRoom}

pub lasting-room : (M X : Type 0) → LastingHasRoom M X
lasting-room M X calls s few sound lasts = record {
  owners = lasts.owners;
  inodes = let drawn = lasts.drawn.inodes in omega arith;
  next_serials = λ dir. next-by dir (inode s.tree dir) refl;
  serials = λ i e is. serial-by i e (inode s.tree i) refl is;
  files = let drawn = lasts.drawn.files in omega arith;
  pipes = let drawn = lasts.drawn.pipes in omega arith;
  pids = let drawn = lasts.drawn.pids in omega arith;
}
  where
    next-by : (dir : ℕ) (o : Option Inode) → inode s.tree dir ≡ o → option_map_or (λ (x : Inode). x.next_serial) o 0 + 1 < 2 ^ 64
    next-by dir None at = omega arith
    next-by dir (Some x) at = let drawn = lasts.drawn.serials dir x at in omega arith

    serial-by : (i : ℕ) (e : Entry) (o : Option Inode) → inode s.tree i ≡ o → IsIn e (option_map_or (λ (x : Inode). entries_of x.node.body) o []) → e.serial < 2 ^ 63
    serial-by i e None at is = absurd is
    serial-by i e (Some x) at is =
        let drawn = lasts.drawn.serials i x at in
        let below = (in_above 2 x.next_serial (entries_of x.node.body) e (sound.listed i x at).rises is).1 in
        omega arith
