use Rattle.std.proofs.Common.{◌≡◌, ℕ, zero, suc, List, [], ◌∷◌, refl, ap, ◌∙◌, get_or}
use Rattle.std.specs.Prelude.{slice_set}
use Rattle.txn_code.specs.declared.node.Node.{Node}
use Rattle.txn_code.specs.Linked.{Linked}
use Rattle.shadow_state.specs.Bank.{at_place}
use Rattle.shadow_forest.specs.declared.txn.Txn.{Txn}
use Rattle.shadow_forest.specs.Parts.{without_code}
use Rattle.shadow_forest.proofs.txn.free_code.Goals as goal

-- a code of no nodes, with no room
none_is : (c : Linked) → c.nodes ≡ [] → c.room ≡ 0 → c ≡ record { nodes = []; room = 0 }
none_is c nodes room = ap (λ (ns : List Node). record c { nodes = ns }) nodes ∙ ap (λ (n : ℕ). let x : Linked = record { nodes = []; room = n } in x) room

set_is : (xs : List Txn) (n : ℕ) (x : Txn) (c : Linked) → x ≡ get_or xs n x → c ≡ record { nodes = []; room = 0 } → slice_set xs n (record { deadline = x.deadline; code = c }) ≡ at_place n without_code xs
set_is [] n x c e none = refl
set_is (y ∷ ys) zero x c e none = let same : x ≡ y = e in rw (none, same) refl
set_is (y ∷ ys) (suc n) x c e none = ap (λ zs. y ∷ zs) (set_is ys n x c e none)

pub returns : goal.returns
returns c = set_is c.args.txns.now.items _ c.index_mut.result.now c.none.result c.index_mut.ensures.value (none_is c.none.result c.none.ensures.nodes c.none.ensures.room)
