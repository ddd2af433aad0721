-- Pages of memory.
use Rattle.std.specs.Prelude.{ℕ}

-- how many bytes a page has
abbrev pub page_size : ℕ
page_size = 4096
