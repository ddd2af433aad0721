use Rattle.kr_calls.proofs.laws.decoded_is_given.Goals as goal

pub returns : goal.returns
returns c = λ regs old new request h. record { regs = regs; memory = old; given = h.0 }
