-- Parts of the nodes.
use Rattle.std.specs.Prelude.{◌≡◌, ℕ, zero, suc, ◌+◌, ◌≤◌, List, [], ◌∷◌, ◌++◌, length, slice_get, Some, ◌⊎◌}
use Rattle.std.proofs.Common.{inl, inr, refl, sym, ap, ◌∙◌, subst, arith, append_assoc, length-append}
use Rattle.txn_code.specs.declared.node.Node.{Node}
use Rattle.txn_code.specs.declared.node.Act.{Act}
use Rattle.txn_code.specs.Flow.{HasNode}
use Rattle.txn_code.specs.Nodes.{first_at}

-- from this place on the nodes have these
pub record Part (nodes : List Node) (here : ℕ) (part : List Node) : Type 0 where
  pub front : List Node
  pub back : List Node
  pub is : nodes ≡ front ++ (part ++ back)
  pub long : length front ≡ here

pub part_front : (nodes : List Node) (here : ℕ) (xs ys : List Node) → Part nodes here (xs ++ ys) → Part nodes here xs
part_front nodes here xs ys p = record { front = p.front; back = ys ++ p.back; is = p.is ∙ ap (λ n. p.front ++ n) (append_assoc xs ys p.back); long = p.long }

pub part_back : (nodes : List Node) (here there : ℕ) (xs ys : List Node) → there ≡ here + length xs → Part nodes here (xs ++ ys) → Part nodes there ys
part_back nodes here there xs ys at p =
    record {
      front = p.front ++ xs;
      back = p.back;
      is = p.is ∙ ap (λ n. p.front ++ n) (append_assoc xs ys p.back) ∙ sym (append_assoc p.front xs (ys ++ p.back));
      long = omega (arith, length-append p.front xs, p.long, at);
    }

node_after : (front more : List Node) (node : Node) → slice_get (front ++ (node ∷ more)) (length front) ≡ Some node
node_after [] more node = refl
node_after (x ∷ front) more node = node_after front more node

pub part_node : (nodes : List Node) (here : ℕ) (act : Act) (next other : ℕ) (more : List Node) → Part nodes here (record { act = act; next = next; other = other } ∷ more) → HasNode nodes here act next other
part_node nodes here act next other more p =
    let node : Node = record { act = act; next = next; other = other } in
    record { is = ap (λ n. slice_get n here) p.is ∙ subst (λ n. slice_get (p.front ++ (node ∷ (more ++ p.back))) n ≡ Some node) p.long (node_after p.front (more ++ p.back) node) }

pub first_node : (n here next : ℕ) → 1 ≤ n → first_at n here next ≡ here
first_node zero here next le = absurd (omega arith)
first_node (suc n) here next le = refl

-- where a piece begins, by its size
pub begins_at : (n here next at : ℕ) → at ≡ first_at n here next → ((n ≡ 0) × (at ≡ next)) ⊎ ((1 ≤ n) × (at ≡ here))
begins_at zero here next at is = inl (refl, is)
begins_at (suc n) here next at is = inr (omega arith, is)
