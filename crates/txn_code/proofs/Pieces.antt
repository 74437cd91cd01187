-- The equations of pieces.
use Rattle.std.specs.Prelude.{◌≡◌, ℕ, zero, suc, ◌+◌, ◌<◌, ◌≤◌, List, [], ◌∷◌, length, map, drop, get_or, Some}
use Rattle.std.proofs.Common.{refl, sym, ap, ◌∙◌, subst, arith, length-append, add-one, drop-cons}
use Rattle.txn_runs.specs.declared.program.Stmt.{Stmt, out-Stmt}
use Rattle.txn_runs.specs.declared.program.Stmt.TheOpen.{Stmt-F}
use Rattle.txn_runs.specs.declared.program.Stmt.TheFolds.{fold-Block, fold_out-Stmt, fold_out-Block, map-Stmt}
use Rattle.txn_runs.specs.declared.program.Block.{Block}
use Rattle.txn_runs.specs.declared.program.Operand.{Operand}
use Rattle.txn_runs.specs.declared.program.Cmp.{Cmp}
use Rattle.txn_runs.specs.Fold.{of_stmt, of_layer}
use Rattle.txn_runs.proofs.Folds.{of_block_is, of_stmt_is}
use Rattle.txn_runs.specs.Bounds.{plus, size_row, size}
use Rattle.txn_code.specs.declared.node.Act.{Act}
use Rattle.txn_code.specs.declared.node.Act.TheVariants.{Calc, Move, Read, Write, Test, Emit, Fail}
use Rattle.txn_code.specs.Flow.{leaf_act}
use Rattle.txn_code.specs.Nodes.{Piece, stmt_row, block_row, piece_of, pieces_of, first_at, joined_pieces, leaf_piece, choice_piece, loop_piece, then_piece}

joined_map : (xs : List Stmt) → joined_pieces (map piece_of xs) ≡ pieces_of xs
joined_map [] = refl
joined_map (x ∷ xs) = ap (then_piece (piece_of x)) (joined_map xs)

abbrev block_piece : Block → Piece
block_piece = fold-Block Piece Piece stmt_row block_row

block_is : (b : Block) → block_piece b ≡ pieces_of b.stmts
block_is b = fold_out-Block Piece Piece stmt_row block_row b ∙ joined_map b.stmts

abbrev layer_piece : Stmt-F Stmt Block → Piece
layer_piece x = stmt_row (map-Stmt Stmt Block Piece Piece piece_of block_piece x)

stmt_is : (s : Stmt) → piece_of s ≡ layer_piece (out-Stmt s)
stmt_is s = fold_out-Stmt Piece Piece stmt_row block_row s

leaf_layer : (act : Act) (x : Stmt-F Stmt Block) → leaf_act x ≡ Some act → layer_piece x ≡ leaf_piece act
leaf_layer act (Stmt-F.Calc to left op right) e = let is : Calc to left op right ≡ act = cc in ap leaf_piece is
leaf_layer act (Stmt-F.Move to from) e = let is : Move to from ≡ act = cc in ap leaf_piece is
leaf_layer act (Stmt-F.Read to table at) e = let is : Read to table at ≡ act = cc in ap leaf_piece is
leaf_layer act (Stmt-F.Write table at from) e = let is : Write table at from ≡ act = cc in ap leaf_piece is
leaf_layer act (Stmt-F.If left cmp right first second) e = cc
leaf_layer act (Stmt-F.Loop count body) e = cc
leaf_layer act (Stmt-F.Emit from) e = let is : Emit from ≡ act = cc in ap leaf_piece is
leaf_layer act (Stmt-F.Fail code) e = let is : Fail code ≡ act = cc in ap leaf_piece is

-- the piece of each kind of statement
pub piece_leaf : (s : Stmt) (act : Act) → leaf_act (out-Stmt s) ≡ Some act → piece_of s ≡ leaf_piece act
piece_leaf s act is = stmt_is s ∙ leaf_layer act (out-Stmt s) is

pub piece_choice : (s : Stmt) (left right : Operand) (cmp : Cmp) (a b : Block) → out-Stmt s ≡ Stmt-F.If left cmp right a b → piece_of s ≡ choice_piece (Test left cmp right) (pieces_of a.stmts) (pieces_of b.stmts)
piece_choice s left right cmp a b is =
    stmt_is s ∙ ap layer_piece is ∙ ap (λ p. choice_piece (Test left cmp right) p (block_piece b)) (block_is a) ∙ ap (choice_piece (Test left cmp right) (pieces_of a.stmts)) (block_is b)

pub piece_loop : (s : Stmt) (count : ℕ) (body : Block) → out-Stmt s ≡ Stmt-F.Loop count body → piece_of s ≡ loop_piece count (pieces_of body.stmts)
piece_loop s count body is = stmt_is s ∙ ap layer_piece is ∙ ap (loop_piece count) (block_is body)

-- one statement less
pub pieces_drop : (xs : List Stmt) (i : ℕ) (s : Stmt) → i < length xs → s ≡ get_or xs i s → pieces_of (drop i xs) ≡ then_piece (piece_of s) (pieces_of (drop (i + 1) xs))
pieces_drop xs i s lt is = rw (add-one, drop-cons xs i s lt, ← is) refl

-- a statement, taken apart: the cases of a proof by the size of the text
pub data Layer (s : Stmt) : Type 0 where
  leaf : {act : Act} → leaf_act (out-Stmt s) ≡ Some act → Layer s
  choice : {left right : Operand} {cmp : Cmp} {first second : Block} → out-Stmt s ≡ Stmt-F.If left cmp right first second → Layer s
  loop : {count : ℕ} {body : Block} → out-Stmt s ≡ Stmt-F.Loop count body → Layer s

layer_by : (s : Stmt) (x : Stmt-F Stmt Block) → out-Stmt s ≡ x → Layer s
layer_by s (Stmt-F.Calc to left op right) e = leaf {act = Calc to left op right} (ap leaf_act e)
layer_by s (Stmt-F.Move to from) e = leaf {act = Move to from} (ap leaf_act e)
layer_by s (Stmt-F.Read to table at) e = leaf {act = Read to table at} (ap leaf_act e)
layer_by s (Stmt-F.Write table at from) e = leaf {act = Write table at from} (ap leaf_act e)
layer_by s (Stmt-F.If left cmp right first second) e = choice e
layer_by s (Stmt-F.Loop count body) e = loop e
layer_by s (Stmt-F.Emit from) e = leaf {act = Emit from} (ap leaf_act e)
layer_by s (Stmt-F.Fail code) e = leaf {act = Fail code} (ap leaf_act e)

pub layer_of : (s : Stmt) → Layer s
layer_of s = layer_by s (out-Stmt s) refl

-- a piece is as long as it says, and of as many nodes as the text has statements
pub record Sized (p : Piece) (n : ℕ) : Type 0 where
  pub size : p.size ≡ n
  pub long : (here next depth : ℕ) → length (p.nodes here next depth) ≡ n

leaf_size : (act : Act) (x : Stmt-F Stmt Block) → leaf_act x ≡ Some act → of_layer size_row plus x ≡ 1
leaf_size act (Stmt-F.Calc to left op right) e = refl
leaf_size act (Stmt-F.Move to from) e = refl
leaf_size act (Stmt-F.Read to table at) e = refl
leaf_size act (Stmt-F.Write table at from) e = refl
leaf_size act (Stmt-F.If left cmp right first second) e = cc
leaf_size act (Stmt-F.Loop count body) e = cc
leaf_size act (Stmt-F.Emit from) e = refl
leaf_size act (Stmt-F.Fail code) e = refl

pub size_leaf : (s : Stmt) (act : Act) → leaf_act (out-Stmt s) ≡ Some act → of_stmt size_row plus s ≡ 1
size_leaf s act is = of_stmt_is size_row plus s ∙ leaf_size act (out-Stmt s) is

pub size_choice : (s : Stmt) (left right : Operand) (cmp : Cmp) (a b : Block) → out-Stmt s ≡ Stmt-F.If left cmp right a b → of_stmt size_row plus s ≡ 1 + size a.stmts + size b.stmts
size_choice s left right cmp a b is = omega (arith, of_stmt_is size_row plus s, ap (of_layer size_row plus) is, of_block_is size_row plus a, of_block_is size_row plus b)

pub size_loop : (s : Stmt) (count : ℕ) (body : Block) → out-Stmt s ≡ Stmt-F.Loop count body → of_stmt size_row plus s ≡ 1 + size body.stmts
size_loop s count body is = omega (arith, of_stmt_is size_row plus s, ap (of_layer size_row plus) is, of_block_is size_row plus body)

then_sized : (p q : Piece) (m n : ℕ) → Sized p m → Sized q n → Sized (then_piece p q) (m + n)
then_sized p q m n h g =
    record { size = omega (arith, h.size, g.size); long = λ here next depth. omega (arith, length-append (p.nodes here (first_at q.size (here + p.size) next) depth) (q.nodes (here + p.size) next depth), h.long here (first_at q.size (here + p.size) next) depth, g.long (here + p.size) next depth) }

leaf_sized : (act : Act) → Sized (leaf_piece act) 1
leaf_sized act = record { size = refl; long = λ here next depth. refl }

choice_sized : (act : Act) (p q : Piece) (m n : ℕ) → Sized p m → Sized q n → Sized (choice_piece act p q) (1 + m + n)
choice_sized act p q m n h g =
    record { size = omega (arith, h.size, g.size); long = λ here next depth. omega (arith, length-append (p.nodes (here + 1) next depth) (q.nodes (here + 1 + p.size) next depth), h.long (here + 1) next depth, g.long (here + 1 + p.size) next depth) }

loop_sized : (count : ℕ) (p : Piece) (m : ℕ) → Sized p m → Sized (loop_piece count p) (1 + m)
loop_sized count p m h =
    record { size = omega (arith, h.size); long = λ here next depth. omega (arith, h.long (here + 1) here (depth + 1)) }

pub some_size : (s : Stmt) → Layer s → 1 ≤ of_stmt size_row plus s
some_size s (leaf {act = act} is) = omega (arith, size_leaf s act is)
some_size s (choice {left = left} {right = right} {cmp = cmp} {first = first} {second = second} is) = omega (arith, size_choice s left right cmp first second is)
some_size s (loop {count = count} {body = body} is) = omega (arith, size_loop s count body is)

-- all shorter texts
abbrev Shorter : ℕ → Type 0
Shorter n = (xs : List Stmt) → size xs ≤ n → Sized (pieces_of xs) (size xs)

one_sized : (n : ℕ) → Shorter n → (s : Stmt) → of_stmt size_row plus s ≤ suc n → Layer s → Sized (piece_of s) (of_stmt size_row plus s)
one_sized n each s le (leaf {act = act} is) = subst (Sized (piece_of s)) (sym (size_leaf s act is)) (subst (λ p. Sized p 1) (sym (piece_leaf s act is)) (leaf_sized act))
one_sized n each s le (choice {left = left} {right = right} {cmp = cmp} {first = a} {second = b} is) =
    let e = size_choice s left right cmp a b is in
    subst (Sized (piece_of s)) (sym e) (subst (λ p. Sized p (1 + size a.stmts + size b.stmts)) (sym (piece_choice s left right cmp a b is)) (choice_sized (Test left cmp right) _ _ _ _ (each a.stmts (omega (arith, e))) (each b.stmts (omega (arith, e)))))
one_sized n each s le (loop {count = count} {body = body} is) =
    let e = size_loop s count body is in
    subst (Sized (piece_of s)) (sym e) (subst (λ p. Sized p (1 + size body.stmts)) (sym (piece_loop s count body is)) (loop_sized count _ _ (each body.stmts (omega (arith, e)))))

sized : (n : ℕ) → Shorter n
sized n [] le = record { size = refl; long = λ here next depth. refl }
sized zero (s ∷ xs) le = absurd (omega (arith, le, some_size s (layer_of s)))
sized (suc n) (s ∷ xs) le =
    let some = some_size s (layer_of s) in
    then_sized _ _ _ _ (one_sized n (λ ys less. sized n ys less) s (omega (arith, le)) (layer_of s)) (sized n xs (omega (arith, le, some)))

pub pieces_sized : (xs : List Stmt) → Sized (pieces_of xs) (size xs)
pieces_sized xs = sized (size xs) xs (omega arith)

pub piece_sized : (s : Stmt) → Sized (piece_of s) (of_stmt size_row plus s)
piece_sized s = one_sized (of_stmt size_row plus s) (λ xs le. pieces_sized xs) s (omega arith) (layer_of s)
