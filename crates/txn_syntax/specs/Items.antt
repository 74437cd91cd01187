-- Reading whole items of a text, one after the other.
use Rattle.std.specs.Prelude.{◌≡◌, ℕ, List, [], ◌∷◌, Option, Result, Ok, Err}
use Rattle.txn_tokens.specs.declared.token.Placed.{Placed}
use Rattle.txn_syntax.specs.declared.place.Item.{Item}
use Rattle.txn_syntax.specs.declared.refusal.ReadRefusal.{ReadRefusal}
use Rattle.txn_syntax.specs.declared.refusal.ReadRefusal.TheVariants.{Syntax, OutOfMemory}
use Rattle.txn_syntax.specs.declared.machine.Machine.{Machine}
use Rattle.txn_syntax.specs.Places.{Place, Step, Goes, Ends, Fails, step}
use Rattle.txn_syntax.specs.Reading.{Progress, reading}
use Rattle.txn_syntax.specs.Reads.{token_of, text_from}
use Rattle.txn_syntax.specs.Machines.{IsMachine}

-- goes on at a place, ends with an item, or stops
abbrev pub stepping : {R : Type 0} → Step → R → (Place → R) → (Item → R) → R
stepping (Goes place) stop on ended = on place
stepping (Ends item) stop on ended = ended item
stepping Fails stop on ended = stop

-- the item that is spelled from a place on, with the tokens behind it, or the offset of the first token with which none goes on
abbrev pub item_from : ℕ → Place → List Placed → Result (Item × List Placed) ℕ
item_from end place [] = Err end
item_from end place (x ∷ xs) = stepping (step place x.token) (Err x.at) (λ q. item_from end q xs) (λ item. Ok (item, xs))

-- what is left to read: the tokens, the offset of the end, and that of the first name in the text, read or not, that no table has
pub record Unread : Type 0 where
  pub tokens : List Placed
  pub end : ℕ
  pub unknown : Option ℕ

-- the offsets stay
abbrev pub KeepsOffsets : Unread → Unread → Type 0
KeepsOffsets old new = (new.end ≡ old.end) × (new.unknown ≡ old.unknown)

-- the item that is spelled from a place on
abbrev pub next_item : Place → Unread → Result (Item × List Placed) ℕ
next_item place u = item_from u.end place u.tokens

-- the item that is spelled by a token at a place and those that are left
abbrev pub item_by : Place → Placed → Unread → Result (Item × List Placed) ℕ
item_by place x u = stepping (step place x.token) (Err x.at) (λ q. next_item q u) (λ item. Ok (item, u.tokens))

-- what is read in all goes on from an answer, or stops where it does
abbrev pub Leads : {A X : Type 0} → Result A ℕ → Result X ℕ → (A → Result X ℕ) → Type 0
Leads (Ok a) all on = all ≡ on a
Leads (Err at) all on = all ≡ Err at

-- a machine has taken what a token begins: it stands for what has been read, or no program goes on, or memory ran out
abbrev pub Took : Result (Unit {0}) ReadRefusal → Machine → Progress → List Placed → Unread → Type 0
Took (Ok done) m p ts u = (q : Progress) × IsMachine m q × (reading token_of p ts ≡ reading token_of q u.tokens)
Took (Err (Syntax at)) m p ts u = text_from u.end (reading token_of p ts) ≡ Err at
Took (Err OutOfMemory) m p ts u = Unit {0}
Took (Err _) m p ts u = ⊥
