-- What a walker remembers agrees with what is told at a stop.
use Rattle.std.proofs.Common.{◌≡◌, ◌∙◌, ℕ, [], refl, sym, subst}
use Rattle.law_steady.specs.pr_base.Peeks.{Peeked}
use Rattle.law_steady.specs.pr_base.declared.path.WalkMode.TheVariants.{LookLink}
use Rattle.law_steady.specs.kr_model.Peeks.{peeked_of}
use Rattle.law_steady.specs.kr_model.State.{Image, State}
use Rattle.law_steady.specs.kr_tree.Lawful.{IsSound}
use Rattle.law_steady.specs.kr_tree.Tree.{Tree}
use Rattle.law_steady.specs.Steady.{HaveOneShape}
use Rattle.law_steady.proofs.ExactLemmas.{same_shape}
use Rattle.law_steady.proofs.SteadyLemmas.{steady_peeks_last, steady_walks_last}
use Rattle.law_steady.specs.pt_canon.Remembering.{Agrees, Walking, WalksOn}
use Rattle.law_steady.proofs.pt_canon.RememberLemmas.{agreement_lasts, nothing_agrees}
use Rattle.pt_faker.specs.kr_inode.declared.user.User.{User}
use Rattle.pt_faker.specs.Stopping.{IsEdited, Stopped}
use Rattle.pt_tracer.specs.Agreeing.{AgreesWith, WalksAt}

-- where nothing is remembered nothing is otherwise
pub empty-agrees : (w : Walking) (tree : Tree) (user : User) → w.remembered ≡ [] → AgreesWith w tree user
empty-agrees w tree user empty = record { everywhere = λ s caller shape own. nothing_agrees w (peeked_of s caller) empty }

-- ---- edits leave the tree and the user

pub edited-agrees : (w : Walking) (t u : Stopped) → IsEdited t u → AgreesWith w t.state.tree t.state.user → AgreesWith w u.state.tree u.state.user
edited-agrees w t u edit agrees = subst (λ (v : Stopped). AgreesWith w v.state.tree v.state.user) (sym edit.becomes) agrees

pub edited-walks : (old new : Walking) (t u : Stopped) → IsEdited t u → WalksAt u old new → WalksAt t old new
edited-walks old new t u edit walks = record {
  table = walks.table;
  pauses = walks.pauses;
  agrees = subst (λ (v : Stopped). AgreesWith new v.state.tree v.state.user) edit.becomes walks.agrees;
}

-- ---- walks one after the other

pub walks-none : (w : Walking) (t : Stopped) → AgreesWith w t.state.tree t.state.user → WalksAt t w w
walks-none w t agrees = record { table = refl; pauses = refl; agrees = agrees }

pub walks-then : (x y z : Walking) (t : Stopped) → WalksAt t x y → WalksAt t y z → WalksAt t x z
walks-then x y z t first second = record { table = second.table ∙ first.table; pauses = second.pauses ∙ first.pauses; agrees = second.agrees }

-- ---- what is told

-- what agrees with what a kernel tells of a state does so with what it tells of any other of that shape and user
agrees-alike : (w : Walking) (s t : State ℕ Image) (caller asker : ℕ) → HaveOneShape s t → Agrees w (peeked_of s caller) → Agrees w (peeked_of t asker)
agrees-alike w s t caller asker one =
    agreement_lasts w (peeked_of s caller) (peeked_of t asker)
    (λ path steady.
    let told = steady_peeks_last ℕ ℕ Image Image s t caller asker path one steady in
    record {
      told = record { told = told.kind; no_jump = told.no_jump; link_text = told.link_text };
      steady = (steady_walks_last ℕ ℕ Image Image s t caller asker LookLink path one steady).steady;
    })

module _ {A : Type 0} (stopped : A → Stopped) (peeked : A → Peeked) (told : (a : A) → peeked a ≡ peeked_of (stopped a).state (stopped a).pid) where
  pub agrees-told : (w : Walking) (t : A) → AgreesWith w (stopped t).state.tree (stopped t).state.user → Agrees w (peeked t)
  agrees-told w t agrees = subst (Agrees w) (sym (told t)) (agrees.everywhere (stopped t).state (stopped t).pid (same_shape (stopped t).state.tree) refl)

  pub walks-at : (old new : Walking) (t : A) → IsSound (stopped t).state.tree → WalksOn (peeked t) old new → WalksAt (stopped t) old new
  walks-at old new t sound walks = record {
    table = walks.table;
    pauses = walks.pauses;
    agrees = record {
      everywhere = λ s caller shape own. agrees-alike new (stopped t).state s (stopped t).pid caller (record { sound = sound; shape = shape; user = own }) (subst (Agrees new) (told t) walks.agrees);
    };
  }
