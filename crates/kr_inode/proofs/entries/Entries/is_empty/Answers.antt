use Rattle.std.proofs.Common.{◌≡◌, ◌∙◌, [], ◌∷◌, refl, ap, sym, subst, length, List}
use Rattle.kr_inode.specs.Inode.{Entry}
use Rattle.kr_inode.specs.Entries.{Entries}
use Rattle.kr_inode.proofs.StoredLemmas.{length-stored}
use Rattle.kr_inode.proofs.entries.Entries.is_empty.Goals as goal

pub returns-clause-empty : goal.returns-clause-empty
returns-clause-empty c =
    let P : Entries → Type 0 = λ v. length v.list ≡ length c.self.inside.by_serial.entries in
    let long = subst P c.self.view_is (length-stored c.self.inside.by_serial.entries) in
    (λ t. nothing c.args.self.now.list (long ∙ c.is_empty.ensures.0 t), λ e. c.is_empty.ensures.1 (sym long ∙ ap length e))
  where
    nothing : (es : List Entry) → length es ≡ 0 → es ≡ []
    nothing [] h = refl
    nothing (e ∷ es) h = absurd cc
