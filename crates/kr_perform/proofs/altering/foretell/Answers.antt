use Rattle.kr_perform.proofs.altering.foretell.Goals as goal

pub returns : goal.returns
returns g c = record { shape = c.alters_shape.ensures; bytes = c.alters_bytes.ensures }
