-- A generated case: a tree, bindings, and a command that uses them.
use Rattle.std.specs.Prelude.{◌≡◌, ℕ, false, List, [], ◌∷◌, codes, Ok, None}
use Rattle.rv_asm.specs.pr_base.declared.bind.Bind.{Bind}
use Rattle.elf_write.specs.elf_read.Rules.{first_broken}
use Rattle.kr_text.specs.Reading.{listing_of}
use Rattle.kr_text.specs.Drawn.{IsDrawn}
use Rattle.pr_gen.specs.Listing.{case_listing}
use Rattle.pr_gen.specs.Guest.{guest}
use Rattle.pr_gen.specs.declared.parts.CaseParts.{CaseParts}

-- the guest's root directory
abbrev pub case_root : List ℕ
case_root = codes "/g"

abbrev pub bind_of : ℕ → List ℕ → List ℕ → Bind
bind_of index host at = record { index = index; host = host; guest = at; keep = false }

-- the second binding's location is reached through the first
abbrev pub case_binds : List Bind
case_binds = bind_of 1 (codes "/s") (codes "/d1/m") ∷ bind_of 2 (codes "/t") (codes "/d1/m/n") ∷ []

abbrev pub case_command : List (List ℕ)
case_command = codes "/p" ∷ []

-- the parts of the case of a number
pub record IsCase (n : ℕ) (parts : CaseParts) : Type 0 where
  -- its tree and user are those of its listing, with the guest's file
  pub listing : listing_of (guest n) (case_listing n) ≡ Ok (parts.tree, parts.user)
  pub drawn : IsDrawn parts.tree
  -- and that file is one that can be loaded
  pub accepted : first_broken (guest n) ≡ None
  pub root : parts.root ≡ case_root
  pub binds : parts.binds.items ≡ case_binds
  pub command : parts.command ≡ case_command
