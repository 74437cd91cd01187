-- Whole items, read token by token.
use Rattle.std.proofs.Common.{◌≡◌, ℕ, ◌≤◌, List, [], ◌∷◌, Bool, Option, None, Some, is_some, Result, Ok, Err, length, refl, sym, ap, ◌∙◌, subst, arith}
use Rattle.std.specs.Prelude.{IsErrAnd}
use Rattle.txn_runs.specs.declared.program.TableRef.{TableRef}
use Rattle.txn_tokens.specs.declared.token.Token.{Token}
use Rattle.txn_tokens.specs.declared.token.Token.TheVariants as t
use Rattle.txn_tokens.specs.declared.token.Placed.{Placed}
use Rattle.txn_syntax.specs.declared.place.Test.{Test}
use Rattle.txn_syntax.specs.declared.place.Item.{Item}
use Rattle.txn_syntax.specs.declared.body.Body.{Body}
use Rattle.txn_syntax.specs.declared.machine.Stage.TheVariants as g
use Rattle.txn_syntax.specs.declared.machine.Machine.{Machine}
use Rattle.txn_syntax.specs.Grammar.{Text}
use Rattle.txn_syntax.specs.Places.{Left, Place, Start, Value, Wants, Step, Goes, Ends, Fails, step}
use Rattle.txn_syntax.specs.Reading.{Blocks, Progress, Before, Within, Behind, begun, grown, stepped, brace_step, going_on, reading}
use Rattle.txn_syntax.specs.Reads.{token_of, text_from}
use Rattle.txn_syntax.specs.Machines.{IsChoice, HasBlocks, no_blocks, IsMachine}
use Rattle.txn_syntax.specs.Items.{stepping, item_from, Unread, next_item, item_by, Leads}

pub leads_from : {A X : Type 0} (r : Result A ℕ) (all mid : Result X ℕ) (on : A → Result X ℕ) → all ≡ mid → Leads r mid on → Leads r all on
leads_from (Ok a) all mid on is h = is ∙ h
leads_from (Err at) all mid on is h = is ∙ h

pub leads_error : {A X : Type 0} (r : Result A ℕ) (at : ℕ) (all : Result X ℕ) (on : A → Result X ℕ) → IsErrAnd r (λ e. e ≡ at) → all ≡ Err at → Leads r all on
leads_error (Ok a) at all on h is = absurd h
leads_error (Err e) at all on h is = is ∙ ap Err (sym h)

not_name : (to : ℕ) (token : Token) → ((table : Option TableRef) → token ≡ t.Name table → ⊥) → step (Value to) token ≡ step (Wants (Left to)) token
not_name to (t.Name table) other = absurd (other table refl)
not_name to _ other = refl

-- where a value is wanted, what is no name is an operand
pub operand_with : (to : ℕ) (x : Placed) (u : Unread) → ((table : Option TableRef) → x.token ≡ t.Name table → ⊥) → item_by (Value to) x u ≡ item_by (Wants (Left to)) x u
operand_with to x u other = ap (λ s. stepping s (Err x.at) (λ q. next_item q u) (λ item. Ok (item, u.tokens))) (not_name to x.token other)

-- what is known of an item is known of the text
abbrev pub Reads : ℕ → Blocks → List Placed → Place → Result (Item × List Placed) ℕ → Type 0
Reads end b ts place (Ok found) = reading token_of (Within place b) ts ≡ reading token_of (grown found.0 b) found.1
Reads end b ts place (Err at) = text_from end (reading token_of (Within place b) ts) ≡ Err at

reads_on : (end : ℕ) (b : Blocks) (ts us : List Placed) (place q : Place) (r : Result (Item × List Placed) ℕ) → reading token_of (Within place b) ts ≡ reading token_of (Within q b) us → Reads end b us q r → Reads end b ts place r
reads_on end b ts us place q (Ok found) is h = is ∙ h
reads_on end b ts us place q (Err at) is h = ap (text_from end) is ∙ h

reads_by : (end : ℕ) (b : Blocks) (x : Placed) (xs : List Placed) (place : Place) (s : Step) → step place x.token ≡ s → ((q : Place) → Reads end b xs q (item_from end q xs)) → Reads end b (x ∷ xs) place (stepping s (Err x.at) (λ q. item_from end q xs) (λ item. Ok (item, xs)))
reads_by end b x xs place (Goes q) is each = reads_on end b (x ∷ xs) xs place q (item_from end q xs) (ap (λ s. going_on (stepped s b) (Err (x ∷ xs)) (λ p. reading token_of p xs)) is) (each q)
reads_by end b x xs place (Ends item) is each = ap (λ s. going_on (stepped s b) (Err (x ∷ xs)) (λ p. reading token_of p xs)) is
reads_by end b x xs place Fails is each = ap (λ s. text_from end (going_on (stepped s b) (Err (x ∷ xs)) (λ p. reading token_of p xs))) is

reads : (end : ℕ) (b : Blocks) (ts : List Placed) (place : Place) → Reads end b ts place (item_from end place ts)
reads end b [] place = refl
reads end b (x ∷ xs) place = reads_by end b x xs place (step place x.token) refl (λ q. reads end b xs q)

pub reads_with : (place : Place) (x : Placed) (u : Unread) (b : Blocks) → Reads u.end b (x ∷ u.tokens) place (item_by place x u)
reads_with place x u b = reads_by u.end b x u.tokens place (step place x.token) refl (λ q. reads u.end b u.tokens q)

-- an item takes a token at least
abbrev Fewer : List Placed → Result (Item × List Placed) ℕ → Type 0
Fewer ts (Ok found) = length found.1 ≤ length ts
Fewer ts (Err at) = Unit {0}

fewer_more : (x : Placed) (xs : List Placed) (r : Result (Item × List Placed) ℕ) → Fewer xs r → Fewer (x ∷ xs) r
fewer_more x xs (Ok found) h = omega (arith, h)
fewer_more x xs (Err at) h = tt

fewer_by : (end : ℕ) (x : Placed) (xs : List Placed) (s : Step) → ((q : Place) → Fewer xs (item_from end q xs)) → Fewer xs (stepping s (Err x.at) (λ q. item_from end q xs) (λ item. Ok (item, xs)))
fewer_by end x xs (Goes q) each = each q
fewer_by end x xs (Ends item) each = omega arith
fewer_by end x xs Fails each = tt

fewer : (end : ℕ) (ts : List Placed) (place : Place) → Fewer ts (item_from end place ts)
fewer end [] place = tt
fewer end (x ∷ xs) place = fewer_more x xs (item_from end place (x ∷ xs)) (fewer_by end x xs (step place x.token) (λ q. fewer end xs q))

fewer_with : (place : Place) (x : Placed) (u : Unread) → Fewer u.tokens (item_by place x u)
fewer_with place x u = fewer_by u.end x u.tokens (step place x.token) (λ q. fewer u.end u.tokens q)

pub not_more : (place : Place) (x : Placed) (u : Unread) (item : Item) (rest : List Placed) → item_by place x u ≡ Ok (item, rest) → length rest ≤ length u.tokens
not_more place x u item rest is = subst (Fewer u.tokens) is (fewer_with place x u)

pub same_choice : (level : ℕ) (a : Option (Test × Body)) (b : Option (Test × Text)) → IsChoice level a b → is_some a ≡ is_some b
same_choice level None None h = refl
same_choice level None (Some b) h = absurd h
same_choice level (Some a) None h = absurd h
same_choice level (Some a) (Some b) h = refl

-- a machine between two items is at the beginning of one
begin_at : (m : Machine) (x : Placed) (u : Unread) (item : Result (Item × List Placed) ℕ) (place : Place) (v : Bool) (b : Blocks) → place ≡ Start (is_some b.choice) → v ≡ is_some m.choice → HasBlocks m b → item_by (Start v) x u ≡ item → item_by place x u ≡ item
begin_at m x u item place v b start is h with_it = ap (λ w. item_by w x u) (start ∙ ap Start (sym (is ∙ same_choice (length b.frames) m.choice b.choice h.choice))) ∙ with_it

-- the first brace is taken
pub takes_brace : (m n : Machine) (p : Progress) (x : Placed) (ts : List Placed) → m.stage ≡ g.Before → x.token ≡ t.OpenBlock → IsMachine m p → ((b : Blocks) → HasBlocks m b → IsMachine n (begun b)) → (q : Progress) × IsMachine n q × (reading token_of p (x ∷ ts) ≡ reading token_of q ts)
takes_brace m n Before x ts before is h begins = (begun no_blocks, begins no_blocks h.1, ap (λ v. going_on (brace_step v) (Err (x ∷ ts)) (λ q. reading token_of q ts)) is)
takes_brace m n (Within place b) x ts before is h begins = let same : g.Before ≡ g.Within = sym before ∙ h.0 in cc
takes_brace m n (Behind text) x ts before is h begins = let same : g.Before ≡ g.Behind = sym before ∙ h.0 in cc

-- an item is taken
pub takes_item : (m n : Machine) (p : Progress) (x : Placed) (old new : Unread) (item : Item) (v : Bool) → m.stage ≡ g.Within → v ≡ is_some m.choice → item_by (Start v) x old ≡ Ok (item, new.tokens) → IsMachine m p → ((b : Blocks) → HasBlocks m b → IsMachine n (grown item b)) → (q : Progress) × IsMachine n q × (reading token_of p (x ∷ old.tokens) ≡ reading token_of q new.tokens)
takes_item m n Before x old new item v within is with_it h grows = let same : g.Within ≡ g.Before = sym within ∙ h.0 in cc
takes_item m n (Within place b) x old new item v within is with_it (stage, start, blocks) grows =
    (grown item b, grows b blocks, subst (Reads old.end b (x ∷ old.tokens) place) (begin_at m x old (Ok (item, new.tokens)) place v b start is blocks with_it) (reads_with place x old b))
takes_item m n (Behind text) x old new item v within is with_it h grows = let same : g.Within ≡ g.Behind = sym within ∙ h.0 in cc

-- no item is there
pub stops_at : (m : Machine) (p : Progress) (x : Placed) (old new : Unread) (at : ℕ) (v : Bool) → m.stage ≡ g.Within → v ≡ is_some m.choice → item_by (Start v) x old ≡ Err at → IsMachine m p → new.end ≡ old.end → text_from new.end (reading token_of p (x ∷ old.tokens)) ≡ Err at
stops_at m Before x old new at v within is with_it h ends = let same : g.Within ≡ g.Before = sym within ∙ h.0 in cc
stops_at m (Within place b) x old new at v within is with_it (stage, start, blocks) ends =
    ap (λ e. text_from e (reading token_of (Within place b) (x ∷ old.tokens))) ends ∙ subst (Reads old.end b (x ∷ old.tokens) place) (begin_at m x old (Err at) place v b start is blocks with_it) (reads_with place x old b)
stops_at m (Behind text) x old new at v within is with_it h ends = let same : g.Within ≡ g.Behind = sym within ∙ h.0 in cc
