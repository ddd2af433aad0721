use Rattle.std.proofs.Common.{◌∙◌, ap, subst, sym, refl}
use Rattle.std.specs.FinMap as map
use Rattle.kr_files.specs.Descriptors.{meanings, named_count}
use Rattle.kr_files.specs.Files.{Kept, counted_more}
use Rattle.kr_tree.specs.pr_base.Maps.{mapped}
use Rattle.kr_files.specs.Sound.{IsSound}
use Rattle.kr_files.proofs.SoundLemmas.{same-mapped, sound-same_kinds}
use Rattle.kr_files.proofs.files.Files.fork.Goals as goal

pub invariant_of-self : goal.invariant_of-self
invariant_of-self g c =
    subst (λ files. IsSound files c.self.inside.pipes c.self.inside.last_file c.self.inside.last_pipe) (sym c.raise_all.ensures.files)
    (sound-same_kinds c.self.inside.open.files (mapped (λ n. counted_more (named_count (meanings c.args.d.now) n)) c.self.inside.open.files)
    (same-mapped c.self.inside.open.files (λ n. counted_more (named_count (meanings c.args.d.now) n)) (λ n h. refl)) c.self.inside.pipes c.self.inside.last_file c.self.inside.last_pipe c.self.invariant)

pub raise_all-requires-clause-counted : goal.raise_all-requires-clause-counted
raise_all-requires-clause-counted g c n h here =
    c.requires.counts n h (sym (ap (λ (k : Kept g.row.M.Denot). map.get k.table.files n) c.self.view_is) ∙ here)
