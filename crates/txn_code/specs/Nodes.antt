-- The nodes of a program: one for each statement, in the order of the text, and last the end.
use Rattle.std.specs.Prelude.{ℕ, zero, suc, ◌+◌, List, [], ◌∷◌, ◌++◌}
use Rattle.txn_runs.specs.declared.program.Stmt.{Stmt}
use Rattle.txn_runs.specs.declared.program.Stmt.TheOpen.{Stmt-F, Block-F}
use Rattle.txn_runs.specs.declared.program.Stmt.TheFolds.{fold-Stmt}
use Rattle.txn_code.specs.declared.node.Node.{Node}
use Rattle.txn_code.specs.declared.node.Act.{Act}
use Rattle.txn_code.specs.declared.node.Act.TheVariants.{Calc, Move, Read, Write, Test, Turn, Emit, Fail, End}

-- how many nodes a piece of text has, and which, by its first place, the place of what comes after it, and the loops around it
pub record Piece : Type 0 where
  pub size : ℕ
  pub nodes : (here next depth : ℕ) → List Node

-- where a piece of this size begins that is laid from here on: at what comes next where it is empty
abbrev pub first_at : ℕ → ℕ → ℕ → ℕ
first_at zero here next = next
first_at (suc size) here next = here

-- a statement with no blocks, from which both ways lead on
abbrev pub leaf_piece : Act → Piece
leaf_piece act = record { size = 1; nodes = λ here next depth. record { act = act; next = next; other = next } ∷ [] }

-- a test leads to the first block or to the second, and both to what comes next
abbrev pub choice_piece : Act → Piece → Piece → Piece
choice_piece act first second =
    record {
      size = 1 + first.size + second.size;
      nodes = λ here next depth.
          record { act = act; next = first_at first.size (here + 1) next; other = first_at second.size (here + 1 + first.size) next } ∷ (first.nodes (here + 1) next depth ++ second.nodes (here + 1 + first.size) next depth);
    }

-- a loop leads into its body, which leads back to it, or to what comes next
abbrev pub loop_piece : ℕ → Piece → Piece
loop_piece count body =
    record {
      size = 1 + body.size;
      nodes = λ here next depth.
          record { act = Turn count depth; next = first_at body.size (here + 1) here; other = next } ∷ body.nodes (here + 1) here (depth + 1);
    }

abbrev pub no_piece : Piece
no_piece = record { size = 0; nodes = λ here next depth. [] }

-- one piece, which leads to the rest
abbrev pub then_piece : Piece → Piece → Piece
then_piece first rest =
    record {
      size = first.size + rest.size;
      nodes = λ here next depth.
          first.nodes here (first_at rest.size (here + first.size) next) depth ++ rest.nodes (here + first.size) next depth;
    }

abbrev pub joined_pieces : List Piece → Piece
joined_pieces [] = no_piece
joined_pieces (piece ∷ more) = then_piece piece (joined_pieces more)

abbrev pub stmt_row : Stmt-F Piece Piece → Piece
stmt_row (Stmt-F.Calc to left op right) = leaf_piece (Calc to left op right)
stmt_row (Stmt-F.Move to from) = leaf_piece (Move to from)
stmt_row (Stmt-F.Read to table at) = leaf_piece (Read to table at)
stmt_row (Stmt-F.Write table at from) = leaf_piece (Write table at from)
stmt_row (Stmt-F.If left cmp right first second) = choice_piece (Test left cmp right) first second
stmt_row (Stmt-F.Loop count body) = loop_piece count body
stmt_row (Stmt-F.Emit from) = leaf_piece (Emit from)
stmt_row (Stmt-F.Fail code) = leaf_piece (Fail code)

abbrev pub block_row : Block-F Piece Piece → Piece
block_row b = joined_pieces b.stmts

-- the piece of a statement, with the pieces of its blocks inside
abbrev pub piece_of : Stmt → Piece
piece_of = fold-Stmt Piece Piece stmt_row block_row

abbrev pub pieces_of : List Stmt → Piece
pieces_of [] = no_piece
pieces_of (s ∷ rest) = then_piece (piece_of s) (pieces_of rest)

-- all of a program, which leads to the end
abbrev pub nodes_of : List Stmt → List Node
nodes_of body =
    let all = pieces_of body in
    all.nodes 0 all.size 0 ++ record { act = End; next = all.size; other = all.size } ∷ []
