-- Turns of work, one after another.
use Rattle.std.proofs.Common.{◌≡◌, ◌≤◌, ℕ, zero, suc, ◌+◌, List, [], ◌∷◌, ◌++◌, length, slice_get, Some, refl, sym, ap, ◌∙◌, subst, inl, inr, arith, append_assoc, length-append}
use Rattle.std.proofs.lemmas.List.{append-nil}
use mathlib.Core.List.{IsPrefix}
use Rattle.journal_core.specs.declared.entry.Entry.TheVariants.{Committed}
use Rattle.turn_cell.proofs.Prefixes.{prefix_self, prefix_trans}
use Rattle.shadow_forest.specs.declared.kept.Item.{Item}
use Rattle.shadow_forest.specs.declared.kept.Item.TheVariants.{Happened}
use Rattle.shadow_worker.specs.Worked.{IsAtMostCommitted, IsTurnOfWork, AreTurnsFrom, HasWorked}

prefix_get : {A : Type 0} (xs ys : List A) (k : ℕ) (x : A) → IsPrefix xs ys → slice_get xs k ≡ Some x → slice_get ys k ≡ Some x
prefix_get [] ys k x p h = absurd cc
prefix_get (y ∷ xs) [] k x p h = absurd (cc (p.1))
prefix_get (y ∷ xs) (z ∷ ys) zero x p h = cc (p.1, h)
prefix_get (y ∷ xs) (z ∷ ys) (suc k) x p h = prefix_get xs ys k x (p.0, cc (p.1)) h

last_there : {A : Type 0} (xs : List A) (x : A) → slice_get (xs ++ x ∷ []) (length xs) ≡ Some x
last_there [] x = refl
last_there (y ∷ xs) x = last_there xs x

pub prefix_length : {A : Type 0} (xs ys : List A) → IsPrefix xs ys → length xs ≤ length ys
prefix_length xs ys p = omega (arith, sym (ap length p.1) ∙ length-append xs p.0)

-- a list that grew by one commit at most begins with the old one
pub at_most_begins : (found left : List Item) → IsAtMostCommitted found left → IsPrefix found left
at_most_begins found left (inl e) = subst (IsPrefix found) (sym e) (prefix_self found)
at_most_begins found left (inr h) = (Happened (Committed h.0 h.1) ∷ [], sym h.2)

turn_is : (found left : List Item) → IsAtMostCommitted found left → IsTurnOfWork left (length found, length left)
turn_is found left (inl e) = inl (ap length e)
turn_is found left (inr (t, outcome, is)) =
    inr (ap length is ∙ length-append found (Happened (Committed t outcome) ∷ []), (t, outcome, ap (λ l. slice_get l (length found)) is ∙ last_there found (Happened (Committed t outcome))))

pub turn_stays : (seen seen' : List Item) (turn : ℕ × ℕ) → IsPrefix seen seen' → IsTurnOfWork seen turn → IsTurnOfWork seen' turn
turn_stays seen seen' turn p (inl e) = inl e
turn_stays seen seen' turn p (inr (e, (t, outcome, h))) = inr (e, (t, outcome, prefix_get seen seen' turn.0 (Happened (Committed t outcome)) p h))

pub no_turns : (seen : List Item) (turns : List (ℕ × ℕ)) → HasWorked seen turns 0 seen turns
no_turns seen turns = record { seen_longer = prefix_self seen; more = []; added = sym (append-nil turns); counted = refl; each = omega arith }

-- one turn, which found and left these lists
pub one_turn : (seen : List Item) (turns turns' : List (ℕ × ℕ)) (found left : List Item) → IsPrefix seen found → IsAtMostCommitted found left
    → turns' ≡ turns ++ (length found, length left) ∷ [] → HasWorked seen turns 1 left turns'
one_turn seen turns turns' found left began grew is = record {
  seen_longer = prefix_trans seen found left began (at_most_begins found left grew);
  more = (length found, length left) ∷ [];
  added = is;
  counted = refl;
  each = (prefix_length seen found began, turn_is found left grew, omega arith);
}

turns_then : (seen seen' : List Item) (n : ℕ) (ts us : List (ℕ × ℕ)) → IsPrefix seen seen' → AreTurnsFrom seen n ts → AreTurnsFrom seen' (length seen) us → AreTurnsFrom seen' n (ts ++ us)
turns_then seen seen' n [] us p h more = from n us h more
  where
    from : (n : ℕ) (us : List (ℕ × ℕ)) → n ≤ length seen → AreTurnsFrom seen' (length seen) us → AreTurnsFrom seen' n us
    from n [] le more = omega (arith, le, more)
    from n (u ∷ us) le more = (omega (arith, le, more.0), more.1, more.2)
turns_then seen seen' n (t ∷ ts) us p h more = (h.0, turn_stays seen seen' t p h.1, turns_then seen seen' t.1 ts us p h.2 more)

-- turns, and then more
pub then_turns : (a b c : List Item) (ts us vs : List (ℕ × ℕ)) (n m : ℕ) → HasWorked a ts n b us → HasWorked b us m c vs → HasWorked a ts (n + m) c vs
then_turns a b c ts us vs n m x y = record {
  seen_longer = prefix_trans a b c x.seen_longer y.seen_longer;
  more = x.more ++ y.more;
  added = y.added ∙ (ap (λ l. l ++ y.more) x.added ∙ append_assoc ts x.more y.more);
  counted = omega (arith, length-append x.more y.more, x.counted, y.counted);
  each = turns_then b c (length a) x.more y.more y.seen_longer x.each y.each;
}
