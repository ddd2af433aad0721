use Rattle.std.proofs.Common.{ℕ, ap, sym, ◌∙◌}
use Rattle.kr_walk.specs.kr_tree.declared.place.Place.{Place}
use Rattle.kr_mounts.proofs.WayLemmas.{node_number}
use Rattle.kr_mounts.proofs.point.Way.start.Goals as goal

pub returns-in-Node : goal.returns-in-Node
returns-in-Node c =
    record {
      mount = ap (λ (p : Place ℕ). p.mount) c.root-root.ensures;
      inode = ap node_number (sym c.in-Node.is) ∙ ap (λ (p : Place ℕ). node_number p.host) c.root-root.ensures;
    }

pub returns-in-Proc : goal.returns-in-Proc
returns-in-Proc c =
    record {
      mount = ap (λ (p : Place ℕ). p.mount) c.root-root.ensures;
      inode = ap node_number (sym c.in-Proc.is) ∙ ap (λ (p : Place ℕ). node_number p.host) c.root-root.ensures;
    }
