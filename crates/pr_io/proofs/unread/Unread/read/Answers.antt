use Rattle.std.proofs.Common.{◌≡◌, ◌∙◌, ℕ, ◌+◌, List, take, drop, ap, sym, take-add, drop-drop}
use Rattle.pr_io.specs.Memory.{Parted, further}
use Rattle.pr_io.proofs.unread.Unread.read.Goals as goal

-- so many bytes further in the same bytes
moved_on : (bytes : List ℕ) (place n : ℕ) → ◌≡◌ {A = Parted} (record { given = take (place + n) bytes; left = drop (place + n) bytes }) (further (record { given = take place bytes; left = drop place bytes }) n)
moved_on bytes place n = λ i. record { given = take-add place n bytes i; left = sym (drop-drop n place bytes) i }

pub returns-clause-rest : goal.returns-clause-rest
returns-clause-rest c = moved_on c.self.inside.bytes c.self.inside.place c.min-n.result ∙ ap (λ p. further p c.min-n.result) c.self.view_is
