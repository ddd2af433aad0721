-- The registers of a call at its stops.
use Rattle.std.specs.Prelude.{ℕ, nat_lt, ◌&&◌, Bool, List, [], ◌∷◌, if◌then◌else◌}
use Rattle.pt_faker.specs.Stopping.{register_at, Stopped, with_register}
use Rattle.pt_tracer.specs.declared.registers.Arguments.{Arguments}

-- what stands in a1 to a5 and in a7
abbrev pub arguments_at : Stopped → Arguments
arguments_at t = record {
  a1 = register_at t 11;
  a2 = register_at t 12;
  a3 = register_at t 13;
  a4 = register_at t 14;
  a5 = register_at t 15;
  a7 = register_at t 17;
}

abbrev pub given_back : Arguments → Stopped → Stopped
given_back p t =
    with_register 17 p.a7 (with_register 15 p.a5 (with_register 14 p.a4 (with_register 13 p.a3 (with_register 12 p.a2 (with_register 11 p.a1 t)))))

-- a register is one of 1 to 31
abbrev pub is_register : ℕ → Bool
is_register k = nat_lt 0 k && nat_lt k 32

abbrev pub with_argument : ℕ × ℕ → Stopped → Stopped
with_argument p t = if is_register p.0 then with_register p.0 p.1 t else t

abbrev pub with_arguments : List (ℕ × ℕ) → Stopped → Stopped
with_arguments [] t = t
with_arguments (p ∷ ps) t = with_arguments ps (with_argument p t)
