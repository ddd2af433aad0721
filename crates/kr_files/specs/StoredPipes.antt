-- Pipes as they are kept: each with its bytes and with which of its ends are open. No public clause cites this
-- module.
use Rattle.std.specs.FinMap as map
use Rattle.std.specs.Prelude.{ℕ, Bool, true, false, List, [], if◌then◌else◌, refl}
use Rattle.std.specs.Option.{option_map_or}
use Rattle.std.specs.Ordering.{nat_cmp}
use Rattle.std.specs.Coded.{Coded, code_by, coded×, coded_ℕ, coded_bool, coded_list}
use Rattle.kr_tree.specs.pr_base.Maps.{changed}
use Rattle.kr_files.specs.declared.opened.What.{What}
use Rattle.kr_files.specs.declared.opened.What.TheVariants.{File, Dir, In, Out, Err, PipeRead, PipeWrite}

-- the bytes of a pipe, the oldest first, and which of its ends are open
pub record Pipe : Type 0 where
  pub bytes : List ℕ
  pub reader : Bool
  pub writer : Bool

abbrev pub pipe_code : Coded Pipe
pipe_code =
    code_by (List ℕ × (Bool × Bool)) (coded× (coded_list coded_ℕ) (coded× coded_bool coded_bool))
    (λ p. (p.bytes, (p.reader, p.writer))) (λ p. record { bytes = p.0; reader = p.1.0; writer = p.1.1 }) (λ _. refl)

-- pipes by their numbers
abbrev pub PipeTable : Type 0
PipeTable = map.FinMap nat_cmp Pipe

abbrev pub pipe_table_code : Coded PipeTable
pipe_table_code = map.code coded_ℕ pipe_code

-- a pipe as it is made
abbrev pub fresh_pipe : Pipe
fresh_pipe = record { bytes = []; reader = true; writer = true }

-- with other bytes
abbrev pub holding : List ℕ → Pipe → Pipe
holding bytes p = record p { bytes = bytes }

-- whether a pipe's end for reading is open, and that for writing
abbrev pub reader_open : ℕ → PipeTable → Bool
reader_open k pipes = option_map_or (λ p. p.reader) (map.get pipes k) false

abbrev pub writer_open : ℕ → PipeTable → Bool
writer_open k pipes = option_map_or (λ p. p.writer) (map.get pipes k) false

-- with an end closed
abbrev pub without_reader : Pipe → Pipe
without_reader p = record p { reader = false }

abbrev pub without_writer : Pipe → Pipe
without_writer p = record p { writer = false }

-- after the end for reading was closed; a pipe without ends is taken away
abbrev pub reader_gone : ℕ → PipeTable → PipeTable
reader_gone k pipes = if writer_open k pipes then changed pipes k without_reader else map.remove pipes k

-- and after that for writing
abbrev pub writer_gone : ℕ → PipeTable → PipeTable
writer_gone k pipes = if reader_open k pipes then changed pipes k without_writer else map.remove pipes k

-- after an open file of this kind went
abbrev pub end_gone : What → PipeTable → PipeTable
end_gone (PipeRead k) pipes = reader_gone k pipes
end_gone (PipeWrite k) pipes = writer_gone k pipes
end_gone File pipes = pipes
end_gone Dir pipes = pipes
end_gone In pipes = pipes
end_gone Out pipes = pipes
end_gone Err pipes = pipes
