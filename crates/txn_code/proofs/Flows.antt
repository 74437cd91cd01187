-- The nodes of a program are laid as its statements flow.
use Rattle.std.specs.Prelude.{◌≡◌, ℕ, zero, suc, ◌+◌, ◌≤◌, List, [], ◌∷◌, ◌++◌}
use Rattle.std.proofs.Common.{refl, sym, subst, arith, add-one}
use Rattle.std.proofs.lemmas.List.{append-nil}
use Rattle.txn_runs.specs.declared.program.Stmt.{Stmt}
use Rattle.txn_runs.specs.Fold.{of_stmt}
use Rattle.txn_runs.specs.Bounds.{plus, size_row, size}
use Rattle.txn_code.specs.declared.node.Node.{Node}
use Rattle.txn_code.specs.declared.node.Act.TheVariants.{Test, Turn, End}
use Rattle.txn_code.specs.Flow.{Flow, done, plain, choice, turn, Links}
use Rattle.txn_code.specs.Nodes.{piece_of, pieces_of, first_at, nodes_of}
use Rattle.txn_code.proofs.Parts.{Part, part_front, part_back, part_node, first_node}
use Rattle.txn_code.proofs.Pieces.{Layer, leaf, choice as two, loop, layer_of, some_size, size_choice, size_loop, piece_leaf, piece_choice, piece_loop, piece_sized, pieces_sized}

-- where a piece is laid, its statements flow
abbrev Flows : ℕ → Type 0
Flows n = (nodes : List Node) (xs : List Stmt) (here next depth : ℕ) → size xs ≤ n → Part nodes here ((pieces_of xs).nodes here next depth) → Flow nodes (first_at (pieces_of xs).size here next) xs next depth

-- a statement's piece, and then what its rest gives
stmt_flow : (n : ℕ) → Flows n → (nodes : List Node) (s : Stmt) (rest : List Stmt) (here to next depth : ℕ) → of_stmt size_row plus s ≤ suc n → Layer s → Part nodes here ((piece_of s).nodes here to depth) → Flow nodes to rest next depth → Flow nodes here (s ∷ rest) next depth
stmt_flow n each nodes s rest here to next depth le (leaf {act = act} is) part f =
    plain is (part_node nodes here act to to [] (subst (λ p. Part nodes here (p.nodes here to depth)) (piece_leaf s act is) part)) f
stmt_flow n each nodes s rest here to next depth le (two {left = left} {right = right} {cmp = cmp} {first = a} {second = b} is) part f =
    let p = pieces_of a.stmts in
    let q = pieces_of b.stmts in
    let sizes = size_choice s left right cmp a b is in
    let all = subst (λ p. Part nodes here (p.nodes here to depth)) (piece_choice s left right cmp a b is) part in
    let node : List Node = record { act = Test left cmp right; next = first_at p.size (here + 1) to; other = first_at q.size (here + 1 + p.size) to } ∷ [] in
    let blocks = part_back nodes here (here + 1) node (p.nodes (here + 1) to depth ++ q.nodes (here + 1 + p.size) to depth) refl all in
    let second = part_back nodes (here + 1) (here + 1 + p.size) (p.nodes (here + 1) to depth) (q.nodes (here + 1 + p.size) to depth) (omega (arith, (pieces_sized a.stmts).size, (pieces_sized a.stmts).long (here + 1) to depth)) blocks in
    choice is (part_node nodes here (Test left cmp right) (first_at p.size (here + 1) to) (first_at q.size (here + 1 + p.size) to) (p.nodes (here + 1) to depth ++ q.nodes (here + 1 + p.size) to depth) all) (each nodes a.stmts (here + 1) to depth (omega (arith, le, sizes)) (part_front nodes (here + 1) (p.nodes (here + 1) to depth) (q.nodes (here + 1 + p.size) to depth) blocks)) (each nodes b.stmts (here + 1 + p.size) to depth (omega (arith, le, sizes)) second) f
stmt_flow n each nodes s rest here to next depth le (loop {count = count} {body = body} is) part f =
    let p = pieces_of body.stmts in
    let sizes = size_loop s count body is in
    let all = subst (λ p. Part nodes here (p.nodes here to depth)) (piece_loop s count body is) part in
    let node : List Node = record { act = Turn count depth; next = first_at p.size (here + 1) here; other = to } ∷ [] in
    let inner = part_back nodes here (here + 1) node (p.nodes (here + 1) here (depth + 1)) refl all in
    turn is (part_node nodes here (Turn count depth) (first_at p.size (here + 1) here) to (p.nodes (here + 1) here (depth + 1)) all) (subst (λ k. Flow nodes (first_at p.size (here + 1) here) body.stmts here k) (add-one depth) (each nodes body.stmts (here + 1) here (depth + 1) (omega (arith, le, sizes)) inner)) f

flows : (n : ℕ) → Flows n
flows n nodes [] here next depth le part = done refl
flows zero nodes (s ∷ rest) here next depth le part = absurd (omega (arith, le, some_size s (layer_of s)))
flows (suc n) nodes (s ∷ rest) here next depth le part =
    let first = piece_of s in
    let more = pieces_of rest in
    let some = some_size s (layer_of s) in
    let sum = piece_sized s in
    let to = first_at more.size (here + first.size) next in
    let front = part_front nodes here (first.nodes here to depth) (more.nodes (here + first.size) next depth) part in
    let back = part_back nodes here (here + first.size) (first.nodes here to depth) (more.nodes (here + first.size) next depth) (omega (arith, sum.size, sum.long here to depth)) part in
    let f = flows n nodes rest (here + first.size) next depth (omega (arith, le, some)) back in
    let begin : first_at (first.size + more.size) here next ≡ here = first_node _ here next (omega (arith, some, sum.size)) in
    subst (λ k. Flow nodes k (s ∷ rest) next depth) (sym begin) (stmt_flow n (λ ns xs h t d less. flows n ns xs h t d less) nodes s rest here to next depth (omega (arith, le)) (layer_of s) front f)

begin_all : (n : ℕ) → first_at n 0 n ≡ 0
begin_all zero = refl
begin_all (suc n) = refl

-- the nodes of a program link its statements
pub links_nodes : (body : List Stmt) → Links body (nodes_of body)
links_nodes body =
    let p = pieces_of body in
    let ends : List Node = record { act = End; next = p.size; other = p.size } ∷ [] in
    let all : Part (nodes_of body) 0 (p.nodes 0 p.size 0 ++ ends) = record { front = []; back = []; is = sym (append-nil (p.nodes 0 p.size 0 ++ ends)); long = refl } in
    record {
      last = p.size;
      flow = subst (λ k. Flow (nodes_of body) k body p.size 0) (begin_all p.size) (flows (size body) (nodes_of body) body 0 p.size 0 (omega arith) (part_front (nodes_of body) 0 (p.nodes 0 p.size 0) ends all));
      ends = part_node (nodes_of body) p.size End p.size p.size [] (part_back (nodes_of body) 0 p.size (p.nodes 0 p.size 0) ends (omega (arith, (pieces_sized body).size, (pieces_sized body).long 0 p.size 0)) all);
    }
