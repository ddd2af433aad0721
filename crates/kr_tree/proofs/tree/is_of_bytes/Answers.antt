use Rattle.std.proofs.Common.{sym, subst, inl, inr}
use Rattle.kr_inode.specs.Stored.{body_of_new}
use Rattle.kr_tree.specs.Lawful.{AreBytes, IsOfBytes}
use Rattle.kr_tree.proofs.tree.is_of_bytes.Goals as goal

pub returns-in-File : goal.returns-in-File
returns-in-File c =
    let are : AreBytes c.in-File.bytes = subst AreBytes c.as_slice.ensures c.are_bytes.ensures in
    elim c.in-File.is [ inl file ↦ subst (λ n. IsOfBytes (body_of_new n)) (sym file) are | inr link ↦ subst (λ n. IsOfBytes (body_of_new n)) (sym link) are ]
