-- What the passes of settling answer in code.
use Rattle.std.specs.Prelude.{◌≡◌, ℕ, List, [], ◌∷◌, reverse, Result, Ok, Err}
use Rattle.kr_walk.specs.kr_inode.declared.user.User.{User}
use Rattle.kr_walk.specs.kr_tree.Tree.{Tree}
use Rattle.kr_walk.specs.kr_view.View.{Row}
use Rattle.pt_bind.specs.pr_base.Texts.{Text}
use Rattle.pt_bind.specs.Binding.{IsWritten}
use Rattle.kr_mounts.specs.Found.{source_told}
use Rattle.kr_mounts.specs.MountTable.{Located, Refusal, Settling, Sourced, after_way, way_along}
use Rattle.kr_mounts.specs.Stored.{table_of}
use Rattle.kr_mounts.specs.declared.fault.BindFault.{BindFault}
use Rattle.kr_mounts.specs.declared.fault.BindFault.TheVariants.{Bad, NoMemory}
use Rattle.kr_mounts.specs.declared.location.Stop.{Stop}
use Rattle.kr_mounts.specs.declared.location.Stop.TheVariants as stop
use Rattle.kr_mounts.specs.declared.mount.Mount.{Mount}
use Rattle.kr_mounts.specs.declared.passes.Sourced.{Sourced as KeptSourced}

-- what settling comes to is answered, and the tree is left, but for want of memory
abbrev pub IsSettled : Settling → Tree → Result (List Mount) BindFault → Type 0
IsSettled settling new (Ok mounts) = (settling.tree ≡ new) × (settling.answer ≡ Ok (table_of mounts))
IsSettled settling new (Err (Bad index why)) = (settling.tree ≡ new) × (settling.answer ≡ Err (record { index = index; why = why }))
IsSettled settling new (Err NoMemory) = Unit {0}

abbrev pub sourced_told : KeptSourced → Sourced
sourced_told s = record { bind = s.bind.now; source = source_told s.source }

abbrev pub HasSource : KeptSourced → Type 0
HasSource s = IsWritten s.source.text

abbrev pub fault_told : ℕ → Stop → BindFault
fault_told index (stop.Bad why) = Bad index why
fault_told index stop.NoMemory = NoMemory

-- the directory of a source by its text
abbrev pub dir_under : ℕ → Text → ℕ
dir_under dir [] = 0
dir_under dir (name ∷ text) = dir

-- an answer is told, by what it stands for and what holds of it, but for want of memory
abbrev pub IsTold : {A B : Type 0} → (B → A) → (B → Type 0) → Result A Refusal → Result B BindFault → Type 0
IsTold told fit answer (Ok x) = (answer ≡ Ok (told x)) × fit x
IsTold told fit answer (Err (Bad index why)) = answer ≡ Err (record { index = index; why = why })
IsTold told fit answer (Err NoMemory) = Unit {0}

-- one binding's way, and what comes then
abbrev pub standing : User → List Row → Located → Tree → (Tree → List Row → Settling) → Settling
standing user table one t go = let left = way_along user table one t (reverse one.location) in after_way table one left.tree left.answer go

abbrev pub IsPlaced : ((Tree → List Row → Settling) → Settling) → Tree → Result (List Mount) BindFault → Type 0
IsPlaced step new (Ok mounts) = (go : Tree → List Row → Settling) → step go ≡ go new (table_of mounts)
IsPlaced step new (Err (Bad index why)) = (go : Tree → List Row → Settling) → step go ≡ record { tree = new; answer = Err (record { index = index; why = why }) }
IsPlaced step new (Err NoMemory) = Unit {0}
