-- Texts that are laid in the same nodes are the same.
use Rattle.std.specs.Prelude.{◌≡◌, ℕ, zero, suc, ◌+◌, ◌<◌, ◌≤◌, List, [], ◌∷◌, ◌++◌, length, Option, None, Some, ◌⊎◌}
use Rattle.std.proofs.Common.{inl, inr, refl, sym, ap, ◌∙◌, subst, arith, length-append}
use Rattle.std.proofs.lemmas.Bool.{cases_lt}
use Rattle.std.proofs.lemmas.List.{append-nil}
use Rattle.txn_runs.specs.declared.program.Stmt.{Stmt, out-Stmt}
use Rattle.txn_runs.specs.declared.program.Stmt.TheOpen.{Stmt-F}
use Rattle.txn_runs.specs.declared.program.Stmt.TheViews.{roll-Stmt, roll-out-Stmt}
use Rattle.txn_runs.specs.declared.program.Block.{Block}
use Rattle.txn_runs.specs.declared.program.Operand.{Operand}
use Rattle.txn_runs.specs.declared.program.Cmp.{Cmp}
use Rattle.txn_runs.specs.Fold.{of_stmt}
use Rattle.txn_runs.specs.Bounds.{plus, size_row, size}
use Rattle.txn_code.specs.declared.node.Node.{Node}
use Rattle.txn_code.specs.declared.node.Act.{Act}
use Rattle.txn_code.specs.declared.node.Act.TheVariants.{Calc, Move, Read, Write, Test, Turn, Emit, Fail, End}
use Rattle.txn_code.specs.Flow.{HasNode, leaf_act}
use Rattle.txn_code.specs.Nodes.{piece_of, pieces_of, first_at, nodes_of}
use Rattle.txn_code.proofs.Stands.{same_node}
use Rattle.txn_code.proofs.Pieces.{Layer, leaf, choice, loop, layer_of, some_size, size_choice, size_loop, piece_leaf, piece_choice, piece_loop, piece_sized, pieces_sized}
use Rattle.txn_code.proofs.Parts.{Part, part_front, part_back, part_node, begins_at}

abbrev size_of : Stmt → ℕ
size_of = of_stmt size_row plus

same_out : (s t : Stmt) → out-Stmt s ≡ out-Stmt t → s ≡ t
same_out s t e = sym (roll-out-Stmt s) ∙ ap roll-Stmt e ∙ roll-out-Stmt t

abbrev block_of : List Stmt → Block
block_of stmts = record { stmts = stmts }

same_block : (a b : Block) → a.stmts ≡ b.stmts → a ≡ b
same_block a b e = ap block_of e

-- the statement that a leaf's node is of
abbrev of_act : Act → Option (Stmt-F Stmt Block)
of_act (Calc to left op right) = Some (Stmt-F.Calc to left op right)
of_act (Move to from) = Some (Stmt-F.Move to from)
of_act (Read to table at) = Some (Stmt-F.Read to table at)
of_act (Write table at from) = Some (Stmt-F.Write table at from)
of_act (Test left cmp right) = None
of_act (Turn count depth) = None
of_act (Emit from) = Some (Stmt-F.Emit from)
of_act (Fail code) = Some (Stmt-F.Fail code)
of_act End = None

leaf_back : (x : Stmt-F Stmt Block) (a : Act) → leaf_act x ≡ Some a → of_act a ≡ Some x
leaf_back (Stmt-F.Calc to left op right) a is = let e : a ≡ Calc to left op right = cc in ap of_act e
leaf_back (Stmt-F.Move to from) a is = let e : a ≡ Move to from = cc in ap of_act e
leaf_back (Stmt-F.Read to table at) a is = let e : a ≡ Read to table at = cc in ap of_act e
leaf_back (Stmt-F.Write table at from) a is = let e : a ≡ Write table at from = cc in ap of_act e
leaf_back (Stmt-F.If left cmp right first second) a is = cc
leaf_back (Stmt-F.Loop count body) a is = cc
leaf_back (Stmt-F.Emit from) a is = let e : a ≡ Emit from = cc in ap of_act e
leaf_back (Stmt-F.Fail code) a is = let e : a ≡ Fail code = cc in ap of_act e

-- a text that is laid from here on, before a place that it leads to
abbrev Lies : List Node → List Stmt → ℕ → ℕ → ℕ → Type 0
Lies nodes xs here to depth = Part nodes here ((pieces_of xs).nodes here to depth)

-- what a text leads to is no place of it
abbrev Outside : ℕ → ℕ → ℕ → Type 0
Outside here size to = here ≤ to → here + size ≤ to

-- the same as two cases
apart : (here size to : ℕ) → Outside here size to → (to < here) ⊎ (here + size ≤ to)
apart here size to h = elim (cases_lt to here) [ inl lt ↦ inl lt | inr le ↦ inr (h le) ]

cases : {A : Type 0} (n : ℕ) → (1 ≤ n → A) → (n ≡ 0) ⊎ A
cases zero h = inl refl
cases (suc n) h = inr (h (omega arith))

-- a laid statement, taken apart
record IsLeaf (nodes : List Node) (s : Stmt) (here to : ℕ) : Type 0 where
  act : Act
  acts : leaf_act (out-Stmt s) ≡ Some act
  node : HasNode nodes here act to to

record IsChoice (nodes : List Node) (s : Stmt) (here to depth : ℕ) : Type 0 where
  left : Operand
  cmp : Cmp
  right : Operand
  yes : Block
  no : Block
  acts : out-Stmt s ≡ Stmt-F.If left cmp right yes no
  long : size_of s ≡ 1 + size yes.stmts + size no.stmts
  node : HasNode nodes here (Test left cmp right) (first_at (size yes.stmts) (here + 1) to) (first_at (size no.stmts) (here + 1 + size yes.stmts) to)
  first : Lies nodes yes.stmts (here + 1) to depth
  second : Lies nodes no.stmts (here + 1 + size yes.stmts) to depth

record IsLoop (nodes : List Node) (s : Stmt) (here to depth : ℕ) : Type 0 where
  count : ℕ
  body : Block
  acts : out-Stmt s ≡ Stmt-F.Loop count body
  long : size_of s ≡ 1 + size body.stmts
  node : HasNode nodes here (Turn count depth) (first_at (size body.stmts) (here + 1) here) to
  inner : Lies nodes body.stmts (here + 1) here (depth + 1)

data Laid (nodes : List Node) (s : Stmt) (here to depth : ℕ) : Type 0 where
  one : IsLeaf nodes s here to → Laid nodes s here to depth
  two : IsChoice nodes s here to depth → Laid nodes s here to depth
  again : IsLoop nodes s here to depth → Laid nodes s here to depth

laid : (nodes : List Node) (s : Stmt) (here to depth : ℕ) → Layer s → Part nodes here ((piece_of s).nodes here to depth) → Laid nodes s here to depth
laid nodes s here to depth (leaf {act = act} is) part =
    one (record { act = act; acts = is; node = part_node nodes here act to to [] (subst (λ p. Part nodes here (p.nodes here to depth)) (piece_leaf s act is) part) })
laid nodes s here to depth (choice {left = left} {right = right} {cmp = cmp} {first = a} {second = b} is) part =
    let p = pieces_of a.stmts in
    let q = pieces_of b.stmts in
    let m = (pieces_sized a.stmts).size in
    let k = (pieces_sized b.stmts).size in
    let all = subst (λ p. Part nodes here (p.nodes here to depth)) (piece_choice s left right cmp a b is) part in
    let node : List Node = record { act = Test left cmp right; next = first_at p.size (here + 1) to; other = first_at q.size (here + 1 + p.size) to } ∷ [] in
    let blocks = part_back nodes here (here + 1) node (p.nodes (here + 1) to depth ++ q.nodes (here + 1 + p.size) to depth) refl all in
    let second = part_back nodes (here + 1) (here + 1 + p.size) (p.nodes (here + 1) to depth) (q.nodes (here + 1 + p.size) to depth) (omega (arith, m, (pieces_sized a.stmts).long (here + 1) to depth)) blocks in
    two (record {
      left = left;
      cmp = cmp;
      right = right;
      yes = a;
      no = b;
      acts = is;
      long = size_choice s left right cmp a b is;
      node = subst (λ i. HasNode nodes here (Test left cmp right) (first_at (size a.stmts) (here + 1) to) (first_at i (here + 1 + size a.stmts) to)) k (subst (λ i. HasNode nodes here (Test left cmp right) (first_at i (here + 1) to) (first_at q.size (here + 1 + i) to)) m (part_node nodes here (Test left cmp right) (first_at p.size (here + 1) to) (first_at q.size (here + 1 + p.size) to) (p.nodes (here + 1) to depth ++ q.nodes (here + 1 + p.size) to depth) all));
      first = part_front nodes (here + 1) (p.nodes (here + 1) to depth) (q.nodes (here + 1 + p.size) to depth) blocks;
      second = subst (λ i. Lies nodes b.stmts (here + 1 + i) to depth) m second;
    })
laid nodes s here to depth (loop {count = count} {body = body} is) part =
    let p = pieces_of body.stmts in
    let all = subst (λ p. Part nodes here (p.nodes here to depth)) (piece_loop s count body is) part in
    let node : List Node = record { act = Turn count depth; next = first_at p.size (here + 1) here; other = to } ∷ [] in
    again (record {
      count = count;
      body = body;
      acts = is;
      long = size_loop s count body is;
      node = subst (λ i. HasNode nodes here (Turn count depth) (first_at i (here + 1) here) to) (pieces_sized body.stmts).size (part_node nodes here (Turn count depth) (first_at p.size (here + 1) here) to (p.nodes (here + 1) here (depth + 1)) all);
      inner = part_back nodes here (here + 1) node (p.nodes (here + 1) here (depth + 1)) refl all;
    })

-- Two texts that are laid from the same place on are the same and lead to the same place, or one is shorter, and leads to where
-- it ends.
data Alike (here to to' : ℕ) (xs ys : List Stmt) : Type 0 where
  same : xs ≡ ys → (1 ≤ size xs → to ≡ to') → Alike here to to' xs ys
  shorter : size xs < size ys → (1 ≤ size xs → to ≡ here + size xs) → Alike here to to' xs ys
  longer : size ys < size xs → (1 ≤ size ys → to' ≡ here + size ys) → Alike here to to' xs ys

abbrev AreAlike : ℕ → Type 0
AreAlike n = (nodes : List Node) (xs ys : List Stmt) (here to to' depth : ℕ) → size xs ≤ n → size ys ≤ n → Lies nodes xs here to depth → Lies nodes ys here to' depth → Outside here (size xs) to → Outside here (size ys) to' → Alike here to to' xs ys

abbrev Equal : Stmt → Stmt → ℕ → ℕ → Type 0
Equal s t to to' = (s ≡ t) × (to ≡ to')

leaves : (nodes : List Node) (s t : Stmt) (here to to' : ℕ) → IsLeaf nodes s here to → IsLeaf nodes t here to' → Equal s t to to'
leaves nodes s t here to to' l k =
    let n = same_node l.node k.node in
    let x = leaf_back (out-Stmt s) l.act l.acts in
    let y = leaf_back (out-Stmt t) k.act k.acts in
    let e : out-Stmt s ≡ out-Stmt t = cc (x, y, ap of_act n.acts) in
    (same_out s t e, n.nexts)

no_leaf : (nodes : List Node) (s : Stmt) (here to next other : ℕ) (act : Act) → of_act act ≡ None → IsLeaf nodes s here to → HasNode nodes here act next other → ⊥
no_leaf nodes s here to next other act none l has =
    let n = same_node l.node has in
    let x = leaf_back (out-Stmt s) l.act l.acts in
    cc (x, none, ap of_act n.acts)

loops : (n : ℕ) → AreAlike n → (nodes : List Node) (s t : Stmt) (here to to' depth : ℕ) → size_of s ≤ suc n → size_of t ≤ suc n → IsLoop nodes s here to depth → IsLoop nodes t here to' depth → Equal s t to to'
loops n each nodes s t here to to' depth le le' l k =
    let e = same_node l.node k.node in
    let counts : l.count ≡ k.count = cc e.acts in
    let p = begins_at (size l.body.stmts) (here + 1) here _ refl in
    let q = begins_at (size k.body.stmts) (here + 1) here _ e.nexts in
    elim (each nodes l.body.stmts k.body.stmts (here + 1) here here (depth + 1) (omega (arith, le, l.long)) (omega (arith, le', k.long)) l.inner k.inner (λ h. absurd (omega (arith, h))) (λ h. absurd (omega (arith, h)))) [
      | same is ends ↦
          let bodies = same_block l.body k.body is in
          let outs : out-Stmt s ≡ out-Stmt t = cc (l.acts, k.acts, counts, bodies) in
          (same_out s t outs, e.others)
      | shorter less ends ↦ absurd (omega (arith, p, q, less, ends))
      | longer less ends ↦ absurd (omega (arith, p, q, less, ends))
    ]

choices : (n : ℕ) → AreAlike n → (nodes : List Node) (s t : Stmt) (here to to' depth : ℕ) → size_of s ≤ suc n → size_of t ≤ suc n → Outside here (size_of s) to → Outside here (size_of t) to' → IsChoice nodes s here to depth → IsChoice nodes t here to' depth → Equal s t to to'
choices n each nodes s t here to to' depth le le' out out' c k =
    let e = same_node c.node k.node in
    let p = begins_at (size c.yes.stmts) (here + 1) to _ refl in
    let p' = begins_at (size k.yes.stmts) (here + 1) to' _ e.nexts in
    let q = begins_at (size c.no.stmts) (here + 1 + size c.yes.stmts) to _ refl in
    let q' = begins_at (size k.no.stmts) (here + 1 + size k.yes.stmts) to' _ e.others in
    let o = apart here (size_of s) to out in
    let o' = apart here (size_of t) to' out' in
    elim (each nodes c.yes.stmts k.yes.stmts (here + 1) to to' depth (omega (arith, le, c.long)) (omega (arith, le', k.long)) c.first k.first (λ h. omega (arith, h, out, c.long)) (λ h. omega (arith, h, out', k.long))) [
      | same is ends ↦
          let sizes = ap size is in
          let tos : to ≡ to' = omega (arith, p, p', cases (size c.yes.stmts) ends, sizes) in
          let second = subst (λ i. Lies nodes k.no.stmts (here + 1 + i) to' depth) (sym sizes) k.second in
          elim (each nodes c.no.stmts k.no.stmts (here + 1 + size c.yes.stmts) to to' depth (omega (arith, le, c.long)) (omega (arith, le', k.long)) c.second second (λ h. omega (arith, h, out, c.long)) (λ h. omega (arith, h, out', k.long, sizes))) [
            | same is' ends' ↦
                let firsts = same_block c.yes k.yes is in
                let seconds = same_block c.no k.no is' in
                let outs : out-Stmt s ≡ out-Stmt t = cc (c.acts, k.acts, e.acts, firsts, seconds) in
                (same_out s t outs, tos)
            | shorter less ends' ↦ absurd (omega (arith, q, q', less, cases (size c.no.stmts) ends', o', k.long, sizes, tos))
            | longer less ends' ↦ absurd (omega (arith, q, q', less, cases (size k.no.stmts) ends', o, c.long, sizes, tos))
          ]
      | shorter less ends ↦ absurd (omega (arith, p, p', q, q', less, cases (size c.yes.stmts) ends, o, o', c.long, k.long))
      | longer less ends ↦ absurd (omega (arith, p, p', q, q', less, cases (size k.yes.stmts) ends, o, o', c.long, k.long))
    ]

pairs : (n : ℕ) → AreAlike n → (nodes : List Node) (s t : Stmt) (here to to' depth : ℕ) → size_of s ≤ suc n → size_of t ≤ suc n → Outside here (size_of s) to → Outside here (size_of t) to' → Laid nodes s here to depth → Laid nodes t here to' depth → Equal s t to to'
pairs n each nodes s t here to to' depth le le' out out' (one l) (one k) = leaves nodes s t here to to' l k
pairs n each nodes s t here to to' depth le le' out out' (one l) (two k) = absurd (no_leaf nodes s here to _ _ _ refl l k.node)
pairs n each nodes s t here to to' depth le le' out out' (one l) (again k) = absurd (no_leaf nodes s here to _ _ _ refl l k.node)
pairs n each nodes s t here to to' depth le le' out out' (two l) (one k) = absurd (no_leaf nodes t here to' _ _ _ refl k l.node)
pairs n each nodes s t here to to' depth le le' out out' (two l) (two k) = choices n each nodes s t here to to' depth le le' out out' l k
pairs n each nodes s t here to to' depth le le' out out' (two l) (again k) = let e = (same_node l.node k.node).acts in cc
pairs n each nodes s t here to to' depth le le' out out' (again l) (one k) = absurd (no_leaf nodes t here to' _ _ _ refl k l.node)
pairs n each nodes s t here to to' depth le le' out out' (again l) (two k) = let e = (same_node l.node k.node).acts in cc
pairs n each nodes s t here to to' depth le le' out out' (again l) (again k) = loops n each nodes s t here to to' depth le le' l k

-- a statement and its rest, laid one behind the other
record Split (nodes : List Node) (s : Stmt) (rest : List Stmt) (here next depth : ℕ) : Type 0 where
  first : Laid nodes s here (first_at (size rest) (here + size_of s) next) depth
  more : Lies nodes rest (here + size_of s) next depth

split : (nodes : List Node) (s : Stmt) (rest : List Stmt) (here next depth : ℕ) → Lies nodes (s ∷ rest) here next depth → Split nodes s rest here next depth
split nodes s rest here next depth part =
    let first = piece_of s in
    let more = pieces_of rest in
    let sum = piece_sized s in
    let to = first_at more.size (here + first.size) next in
    let front = part_front nodes here (first.nodes here to depth) (more.nodes (here + first.size) next depth) part in
    let back = part_back nodes here (here + first.size) (first.nodes here to depth) (more.nodes (here + first.size) next depth) (omega (arith, sum.size, sum.long here to depth)) part in
    record {
      first = subst (λ i. Laid nodes s here (first_at i (here + size_of s) next) depth) (pieces_sized rest).size (subst (λ i. Laid nodes s here (first_at more.size (here + i) next) depth) sum.size (laid nodes s here to depth (layer_of s) front));
      more = subst (λ i. Lies nodes rest (here + i) next depth) sum.size back;
    }

then_alike : (here next next' : ℕ) (s t : Stmt) (xs ys : List Stmt) (to to' : ℕ) → to ≡ first_at (size xs) (here + size_of s) next → to' ≡ first_at (size ys) (here + size_of s) next' → s ≡ t → size_of s ≡ size_of t → to ≡ to' → Alike (here + size_of s) next next' xs ys → Alike here next next' (s ∷ xs) (t ∷ ys)
then_alike here next next' s t xs ys to to' p p' e sizes tos (same is ends) =
    let b = begins_at (size xs) (here + size_of s) next to p in
    let b' = begins_at (size ys) (here + size_of s) next' to' p' in
    let long = ap size is in
    same (cc (e, is)) (λ h. omega (arith, b, b', cases (size xs) ends, long, tos))
then_alike here next next' s t xs ys to to' p p' e sizes tos (shorter less ends) =
    let b = begins_at (size xs) (here + size_of s) next to p in
    let b' = begins_at (size ys) (here + size_of s) next' to' p' in
    shorter (omega (arith, less, sizes)) (λ h. omega (arith, b, b', cases (size xs) ends, less, tos))
then_alike here next next' s t xs ys to to' p p' e sizes tos (longer less ends) =
    let b = begins_at (size xs) (here + size_of s) next to p in
    let b' = begins_at (size ys) (here + size_of s) next' to' p' in
    longer (omega (arith, less, sizes)) (λ h. omega (arith, b, b', cases (size ys) ends, less, tos, sizes))

-- where a first statement leads is no place of it
first_outside : (here next first more to : ℕ) → to ≡ first_at more (here + first) next → Outside here (first + more) next → Outside here first to
first_outside here next first more to is out h = omega (arith, h, begins_at more (here + first) next to is, apart here (first + more) next out)

alike : (n : ℕ) → AreAlike n
alike n nodes [] [] here next next' depth le le' part part' out out' = same refl (λ h. absurd (omega (arith, h)))
alike n nodes [] (t ∷ ys) here next next' depth le le' part part' out out' = shorter (omega (arith, some_size t (layer_of t))) (λ h. absurd (omega (arith, h)))
alike n nodes (s ∷ xs) [] here next next' depth le le' part part' out out' = longer (omega (arith, some_size s (layer_of s))) (λ h. absurd (omega (arith, h)))
alike zero nodes (s ∷ xs) (t ∷ ys) here next next' depth le le' part part' out out' = absurd (omega (arith, le, some_size s (layer_of s)))
alike (suc n) nodes (s ∷ xs) (t ∷ ys) here next next' depth le le' part part' out out' =
    let a = split nodes s xs here next depth part in
    let b = split nodes t ys here next' depth part' in
    let first = pairs n (λ ns vs ws h u v d k k' i i' o o'. alike n ns vs ws h u v d k k' i i' o o') nodes s t here _ _ depth (omega (arith, le)) (omega (arith, le')) (first_outside here next (size_of s) (size xs) _ refl out) (first_outside here next' (size_of t) (size ys) _ refl out') a.first b.first in
    let sizes = ap size_of first.0 in
    let more = subst (λ i. Lies nodes ys (here + i) next' depth) (sym sizes) b.more in
    let some = some_size s (layer_of s) in
    then_alike here next next' s t xs ys _ _ refl (ap (λ i. first_at (size ys) (here + i) next') (sym sizes)) first.0 sizes first.1 (alike n nodes xs ys (here + size_of s) next next' depth (omega (arith, le, some)) (omega (arith, le', some, sizes)) a.more more (λ h. omega (arith, h, out)) (λ h. omega (arith, h, out', sizes)))

all_lies : (body : List Stmt) → Lies (nodes_of body) body 0 (size body) 0
all_lies body =
    let p = pieces_of body in
    let ends : List Node = record { act = End; next = p.size; other = p.size } ∷ [] in
    let all : Part (nodes_of body) 0 (p.nodes 0 p.size 0 ++ ends) = record { front = []; back = []; is = sym (append-nil (p.nodes 0 p.size 0 ++ ends)); long = refl } in
    subst (λ i. Lies (nodes_of body) body 0 i 0) (pieces_sized body).size (part_front (nodes_of body) 0 (p.nodes 0 p.size 0) ends all)

all_long : (body : List Stmt) → length (nodes_of body) ≡ size body + 1
all_long body =
    let p = pieces_of body in
    let ends : List Node = record { act = End; next = p.size; other = p.size } ∷ [] in
    omega (arith, length-append (p.nodes 0 p.size 0) ends, (pieces_sized body).long 0 p.size 0)

-- programs with the same nodes are the same
pub nodes_tell : (a b : List Stmt) → nodes_of a ≡ nodes_of b → a ≡ b
nodes_tell a b e =
    let second = subst (λ nodes. Lies nodes b 0 (size b) 0) (sym e) (all_lies b) in
    let long = ap length e in
    elim (alike (size a + size b) (nodes_of a) a b 0 (size a) (size b) 0 (omega arith) (omega arith) (all_lies a) second (λ h. omega arith) (λ h. omega arith)) [
      | same is ends ↦ is
      | shorter less ends ↦ absurd (omega (arith, less, long, all_long a, all_long b))
      | longer less ends ↦ absurd (omega (arith, less, long, all_long a, all_long b))
    ]
