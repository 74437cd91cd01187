-- Turns in order, over what was seen in the end.
use Rattle.std.proofs.Common.{◌≡◌, ◌≤◌, ℕ, ◌+◌, List, [], ◌∷◌, ◌++◌, length, map, take, refl, sym, ap, ◌∙◌, arith, length-append}
use mathlib.Core.List.{IsPrefix}
use lib.ListN.{length-map}
use Rattle.txn_names.specs.Tables.{Named}
use Rattle.turn_cell.proofs.Prefixes.{prefix_taken, prefix_trans}
use Rattle.shadow_forest.specs.Listed.{happened}
use Rattle.shadow_forest.specs.declared.kept.Item.{Item}
use Rattle.shadow_worker.specs.Worked.{AreTurnsFrom}
use Rattle.shadow_worker.proofs.WorkTurns.{prefix_length, turn_stays}
use Rattle.line_server.specs.Talks.{Talk, answer_at, reply_at, IsLineTurn, left_by, AreTalksFrom}
use Rattle.line_server.specs.Stands.{HasTurned}

-- turns that are seen stay so
pub turns_stay : (seen all : List Item) (n : ℕ) (turns : List (ℕ × ℕ)) → IsPrefix seen all → AreTurnsFrom seen n turns → AreTurnsFrom all n turns
turns_stay seen all n [] p h = let longer = prefix_length seen all p in omega (arith, h)
turns_stay seen all n (turn ∷ turns) p h = (h.0, turn_stays seen all turn p h.1, turns_stay seen all turn.1 turns p h.2)

-- the list that the last of them left is seen
pub left_seen : (seen : List Item) (n : ℕ) (turns : List (ℕ × ℕ)) → AreTurnsFrom seen n turns → left_by n turns ≤ length seen
left_seen seen n [] h = h
left_seen seen n (turn ∷ turns) h = left_seen seen turn.1 turns h.2

pub left_by-append : (n : ℕ) (turns more : List (ℕ × ℕ)) → left_by n (turns ++ more) ≡ left_by (left_by n turns) more
left_by-append n [] more = refl
left_by-append n (turn ∷ turns) more = left_by-append turn.1 turns more

-- behind a shorter list no longer one is left
pub left_lower : (m n : ℕ) (turns : List (ℕ × ℕ)) → m ≤ n → left_by m turns ≤ left_by n turns
left_lower m n [] less = less
left_lower m n (turn ∷ turns) less = omega arith

-- talks that begin behind a list begin behind a shorter one
pub talks_lower : (names : List Named) (all : List Item) (help m n : ℕ) (talks : List Talk) → m ≤ n → AreTalksFrom names all help n talks → AreTalksFrom names all help m talks
talks_lower names all help m n [] less h = omega (arith, h, less)
talks_lower names all help m n (talk ∷ talks) less h = (omega (arith, h.0, less), h.1, h.2, h.3, h.4)

-- a turn that found this list and added what its line adds, where all that was seen begins with what it left
pub line_turn : (names : List Named) (line : List ℕ) (seen : List Item) (turns : List (ℕ × ℕ)) (found : List Item) (seen' : List Item) (turns' : List (ℕ × ℕ)) (all : List Item)
    → HasTurned seen turns found (answer_at names found line).adds seen' turns' → IsPrefix seen' all
    → IsLineTurn names all line (length found, length seen') × (reply_at names all line (length found) ≡ (answer_at names found line).reply)
line_turn names line seen turns found seen' turns' all h begins =
    let begun : IsPrefix found seen' = (map happened (answer_at names found line).adds, sym h.left) in
    let there : take (length found) all ≡ found = prefix_taken found all (prefix_trans found seen' all begun begins) in
    let left : take (length seen') all ≡ seen' = prefix_taken seen' all begins in (
      record {
        adds = left ∙ (h.left ∙ ap (λ l. l ++ map happened (answer_at names l line).adds) (sym there));
        many = ap length h.left ∙ length-append found (map happened (answer_at names found line).adds)
            ∙ ap (λ n. length found + n) (length-map (answer_at names found line).adds happened ∙ ap (λ l. length (answer_at names l line).adds) (sym there));
      },
      ap (λ l. (answer_at names l line).reply) there,
    )
