-- What walks over guest texts leave of the kernel that they ask.
use Rattle.std.specs.Prelude.{◌≡◌}

-- at most peeks were asked: what it answers to them stays, and so does all else
pub record OnlyPeeks {Kernel Answers Rest : Type 0} (peeked : Kernel → Answers) (kept : Kernel → Rest) (old new : Kernel) : Type 0 where
  pub same : peeked new ≡ peeked old
  pub rest : kept new ≡ kept old
