-- Trees that were read are ready for a kernel.
use Rattle.std.proofs.Common.{◌≡◌, ℕ, List, Option, Some, None, refl, lit<}
use Rattle.std.specs.Prelude.{Ok}
use Rattle.std.specs.Option.{option_map_or}
use Rattle.kr_loose.specs.kr_inode.declared.user.User.{User}
use Rattle.kr_loose.specs.kr_tree.Lawful.{IsKept}
use Rattle.kr_loose.specs.kr_tree.Tree.{Tree, Inode, inode}
use Rattle.kr_loose.specs.kr_text.Drawn.{IsDrawn}
use Rattle.kr_loose.specs.kr_text.Reading.{listing_of}
use Rattle.kr_loose.specs.kr_view.View.{plain}
use Rattle.kr_loose.proofs.kr_view.TableLemmas.{plain_stands}
use Rattle.kr_loose.proofs.law_allowed.SourceLemmas.{settled-are-named}
use Rattle.kr_loose.proofs.kr_start.ReadLemmas.{read-last}
use Rattle.kr_loose.specs.kr_start.Start.{HasNoHolds}
use Rattle.core_tests.specs.Ready.{IsReady}

-- in a tree that was read nothing is held
has-no-holds : (t : Tree) → ((i : ℕ) (x : Inode) → inode t i ≡ Some x → x.holds ≡ 0) → HasNoHolds t
has-no-holds t unheld i = by (inode t i) refl
  where
    by : (o : Option Inode) → inode t i ≡ o → option_map_or (λ (x : Inode). x.holds) o 0 ≡ 0
    by None e = refl
    by (Some x) e = unheld i x e

pub listed-ready : (elf bytes : List ℕ) (t : Tree) (user : User) → listing_of elf bytes ≡ Ok (t, user) → IsDrawn t → IsKept t → IsReady t user plain
listed-ready elf bytes t user is drawn kept =
    let stands = plain_stands t kept.sound in
    record {
      stands = stands.0;
      few = lit< tt;
      free = has-no-holds t drawn.unheld;
      lasts = (read-last elf bytes t user is drawn kept.sound).0;
      named = settled-are-named t plain stands.1;
    }
