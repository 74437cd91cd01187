-- A step of a node is a step of the run.
use Rattle.std.specs.Prelude.{◌≡◌, ◌≢◌, ℕ, zero, suc, nat_eq, Bool, true, false, if◌then◌else◌, List, [], ◌∷◌, ◌++◌, length, Option, None, Some, Result, Ok, Err}
use Rattle.std.proofs.Common.{inl, inr, refl, sym, ap, ◌∙◌, subst, arith, append_assoc}
use Rattle.txn_runs.specs.declared.outcome.FaultKind.{FaultKind}
use Rattle.txn_runs.specs.declared.outcome.End.TheVariants.{Going}
use Rattle.txn_runs.specs.declared.program.Stmt.{Stmt, out-Stmt}
use Rattle.txn_runs.specs.declared.program.Stmt.TheOpen.{Stmt-F}
use Rattle.txn_runs.specs.declared.program.Stmt.TheVariants.{Loop}
use Rattle.txn_runs.specs.declared.program.Block.{Block}
use Rattle.txn_runs.specs.Value.{calc, holds}
use Rattle.txn_runs.specs.Run.{Tables, Running, or_fault, value_of, item_at, own, logged, stored, fetch, turns, act, step_from, step}
use Rattle.txn_code.specs.declared.node.Node.{Node}
use Rattle.txn_code.specs.declared.node.Act.{Act}
use Rattle.txn_code.specs.declared.node.Act.TheVariants.{Calc, Move, Read, Write, Test, Turn, Emit, Fail, End}
use Rattle.txn_code.specs.Flow.{leaf_act, Stands}
use Rattle.txn_code.proofs.Stands.{Plain, Choice, Round, Next, stands_next, stands_somewhere}
use Rattle.txn_code.specs.Steps.{done_by, Spot, turned, led_turn, led, MakesStep, IsEnd}

or_fault_rest : {A : Type 0} (more : List Stmt) (s : Running) (r : Result A FaultKind) (go go' : A → Running) → ((a : A) → go a ≡ record (go' a) { rest = more }) → or_fault r (record s { rest = more }) go ≡ record (or_fault r s go') { rest = more }
or_fault_rest more s (Ok a) go go' each = each a
or_fault_rest more s (Err kind) go go' each = refl

fetch_rest : (more : List Stmt) (s : Running) (n to item : ℕ) (table : _) (o l : Option _) → fetch o l table n to item (record s { rest = more }) ≡ record (fetch o l table n to item s) { rest = more }
fetch_rest more s n to item table (Some v) l = refl
fetch_rest more s n to item table None (Some v) = refl
fetch_rest more s n to item table None None = refl

-- a leaf's deed is that of its node, which leads on
record Deed (tables : Tables) (n : ℕ) (s : Running) (counters : List ℕ) (next other : ℕ) (more : List Stmt) (x : Stmt-F Stmt Block) (a : Act) : Type 0 where
  does : act tables n (record s { rest = more }) x ≡ record (done_by a tables n s) { rest = more }
  leads : led a next other counters s ≡ (next, counters)
  going : a ≢ End

leaf_deed : (tables : Tables) (n : ℕ) (s : Running) (cs : List ℕ) (next other : ℕ) (more : List Stmt) (x : Stmt-F Stmt Block) (a : Act) → leaf_act x ≡ Some a → Deed tables n s cs next other more x a
leaf_deed tables n s cs next other more (Stmt-F.Calc to left op right) a is =
    let e : Calc to left op right ≡ a = cc in
    subst (Deed tables n s cs next other more (Stmt-F.Calc to left op right)) e (record { does = or_fault_rest more s (calc op (value_of s left) (value_of s right)) _ _ (λ v. refl); leads = refl; going = λ h. cc })
leaf_deed tables n s cs next other more (Stmt-F.Move to from) a is =
    let e : Move to from ≡ a = cc in
    subst (Deed tables n s cs next other more (Stmt-F.Move to from)) e (record { does = refl; leads = refl; going = λ h. cc })
leaf_deed tables n s cs next other more (Stmt-F.Read to table at) a is =
    let e : Read to table at ≡ a = cc in
    subst (Deed tables n s cs next other more (Stmt-F.Read to table at)) e (record { does = or_fault_rest more s (item_at table (value_of s at)) _ _ (λ item. fetch_rest more s n to item (stored tables item) (own s.writes item) (logged s.reads item)); leads = refl; going = λ h. cc })
leaf_deed tables n s cs next other more (Stmt-F.Write table at from) a is =
    let e : Write table at from ≡ a = cc in
    subst (Deed tables n s cs next other more (Stmt-F.Write table at from)) e (record { does = or_fault_rest more s (item_at table (value_of s at)) _ _ (λ item. refl); leads = refl; going = λ h. cc })
leaf_deed tables n s cs next other more (Stmt-F.If left cmp right first second) a is = cc
leaf_deed tables n s cs next other more (Stmt-F.Loop count body) a is = cc
leaf_deed tables n s cs next other more (Stmt-F.Emit from) a is =
    let e : Emit from ≡ a = cc in
    subst (Deed tables n s cs next other more (Stmt-F.Emit from)) e (record { does = refl; leads = refl; going = λ h. cc })
leaf_deed tables n s cs next other more (Stmt-F.Fail code) a is =
    let e : Fail code ≡ a = cc in
    subst (Deed tables n s cs next other more (Stmt-F.Fail code)) e (record { does = refl; leads = refl; going = λ h. cc })

-- a step of the run whose first statement this is
first_step : (tables : Tables) (n : ℕ) (s : Running) (more : List Stmt) (first : Stmt) → s.end ≡ Going → s.rest ≡ first ∷ more → step tables n s ≡ act tables n (record s { rest = more }) (out-Stmt first)
first_step tables n s more first going is =
    ap (λ r. step_from s.end r tables n s) is ∙ ap (λ e. step_from e (first ∷ more) tables n s) going

-- the node leads to what stands for the rest after a step, and does the step's deed
pub record Right (nodes : List Node) (counters : List ℕ) (tables : Tables) (n : ℕ) (s : Running) (act : Act) (next other : ℕ) : Type 0 where
  pub going : act ≢ End
  pub leads : Stands nodes (led act next other counters s).0 (led act next other counters s).1 (step tables n s).rest
  pub does : step tables n s ≡ record (done_by act tables n s) { rest = (step tables n s).rest }

abbrev with_rest : Running → List Stmt → Running
with_rest s more = record s { rest = more }

-- the same, where the state after the step is known
right_by : (nodes : List Node) (cs : List ℕ) (tables : Tables) (n : ℕ) (s after done : Running) (a : Act) (next other : ℕ) (spot : Spot) (more : List Stmt) → a ≢ End → led a next other cs s ≡ spot → done_by a tables n s ≡ done → step tables n s ≡ after → after ≡ record done { rest = more } → Stands nodes spot.0 spot.1 more → Right nodes cs tables n s a next other
right_by nodes cs tables n s after done a next other spot more going leads did is e st =
    let rest : (step tables n s).rest ≡ more = ap (λ x. x.rest) (is ∙ e) in
    record {
      going = going;
      leads = subst (λ r. Stands nodes (led a next other cs s).0 (led a next other cs s).1 r) (sym rest) (subst (λ p. Stands nodes p.0 p.1 more) (sym leads) st);
      does = is ∙ e ∙ ap (with_rest done) (sym rest) ∙ ap (λ d. with_rest d (step tables n s).rest) (sym did);
    }

plain_right : (nodes : List Node) (cs : List ℕ) (tables : Tables) (n : ℕ) (s : Running) (a : Act) (next other : ℕ) → s.end ≡ Going → Plain nodes a next cs s.rest → Right nodes cs tables n s a next other
plain_right nodes cs tables n s a next other going p =
    let d = leaf_deed tables n s cs next other p.more (out-Stmt p.first) a p.acts in
    right_by nodes cs tables n s _ _ a next other (next, cs) p.more d.going d.leads refl (first_step tables n s p.more p.first going p.is) d.does p.onward

choice_stands : (nodes : List Node) (cs : List ℕ) (next other : ℕ) (first second : Block) (more : List Stmt) (b : Bool) → Stands nodes next cs (first.stmts ++ more) → Stands nodes other cs (second.stmts ++ more) → Stands nodes (if b then next else other) cs ((if b then first.stmts else second.stmts) ++ more)
choice_stands nodes cs next other first second more true on_yes on_no = on_yes
choice_stands nodes cs next other first second more false on_yes on_no = on_no

choice_right : (nodes : List Node) (cs : List ℕ) (tables : Tables) (n : ℕ) (s : Running) (left right : _) (cmp : _) (next other : ℕ) → s.end ≡ Going → Choice nodes left cmp right next other cs s.rest → Right nodes cs tables n s (Test left cmp right) next other
choice_right nodes cs tables n s left right cmp next other going c =
    let b = holds cmp (value_of s left) (value_of s right) in
    right_by nodes cs tables n s _ s (Test left cmp right) next other (if b then next else other, cs) ((if b then c.yes_block.stmts else c.no_block.stmts) ++ c.more) (λ h. cc) refl refl (first_step tables n s c.more c.first going c.is ∙ ap (act tables n (record s { rest = c.more })) c.acts) refl (choice_stands nodes cs next other c.yes_block c.no_block c.more b c.on_yes c.on_no)

round_stands : (nodes : List Node) (outer : List ℕ) (next other m : ℕ) (body : Block) (more : List Stmt) → Stands nodes other outer more → ((k : ℕ) → Stands nodes next (k ∷ outer) (body.stmts ++ Loop k body ∷ more)) → Stands nodes (turned m outer next other).0 (turned m outer next other).1 (turns m body ++ more)
round_stands nodes outer next other zero body more out again = out
round_stands nodes outer next other (suc m) body more out again = subst (λ r. Stands nodes next (m ∷ outer) r) (sym (append_assoc body.stmts (Loop m body ∷ []) more)) (again m)

round_right : (nodes : List Node) (cs outer : List ℕ) (tables : Tables) (n : ℕ) (s : Running) (count depth m next other : ℕ) → s.end ≡ Going → led (Turn count depth) next other cs s ≡ turned m outer next other → Round nodes m next other outer s.rest → Right nodes cs tables n s (Turn count depth) next other
round_right nodes cs outer tables n s count depth m next other going leads r =
    right_by nodes cs tables n s _ s (Turn count depth) next other (turned m outer next other) (turns m r.body ++ r.more) (λ h. cc) leads refl (first_step tables n s r.more r.first going r.is ∙ ap (act tables n (record s { rest = r.more })) r.acts) refl (round_stands nodes outer next other m r.body r.more r.out r.again)

turn_right : (nodes : List Node) (cs : List ℕ) (tables : Tables) (n : ℕ) (s : Running) (count depth next other : ℕ) → s.end ≡ Going → Next nodes (Turn count depth) next other cs s.rest → Right nodes cs tables n s (Turn count depth) next other
turn_right nodes cs tables n s count depth next other going (inl p) =
    let here : nat_eq (length cs) depth ≡ true = grind (arith, p.0) in
    round_right nodes cs cs tables n s count depth count next other going (ap (λ b. led_turn b count cs next other) here) p.1
turn_right nodes cs tables n s count depth next other going (inr r) =
    let long = ap length r.is in
    let back : nat_eq (length cs) depth ≡ false = grind (arith, long, r.deep) in
    round_right nodes cs r.outer tables n s count depth r.turns next other going (ap (λ b. led_turn b count cs next other) back ∙ ap (λ xs. led_turn false count xs next other) r.is) r.goes

pub node_right : (nodes : List Node) (cs : List ℕ) (tables : Tables) (n : ℕ) (s : Running) (a : Act) (next other : ℕ) → s.end ≡ Going → s.rest ≢ [] → Next nodes a next other cs s.rest → Right nodes cs tables n s a next other
node_right nodes cs tables n s (Calc to left op right) next other going some p = plain_right nodes cs tables n s _ next other going p
node_right nodes cs tables n s (Move to from) next other going some p = plain_right nodes cs tables n s _ next other going p
node_right nodes cs tables n s (Read to table at) next other going some p = plain_right nodes cs tables n s _ next other going p
node_right nodes cs tables n s (Write table at from) next other going some p = plain_right nodes cs tables n s _ next other going p
node_right nodes cs tables n s (Test left cmp right) next other going some p = choice_right nodes cs tables n s left right cmp next other going p
node_right nodes cs tables n s (Turn count depth) next other going some p = turn_right nodes cs tables n s count depth next other going p
node_right nodes cs tables n s (Emit from) next other going some p = plain_right nodes cs tables n s _ next other going p
node_right nodes cs tables n s (Fail code) next other going some p = plain_right nodes cs tables n s _ next other going p
node_right nodes cs tables n s End next other going some p = absurd (some p)

-- the node that stands for what is left makes the next step
pub makes_step : (nodes : List Node) (at : ℕ) (counters : List ℕ) (tables : Tables) (n : ℕ) (s : Running) → Stands nodes at counters s.rest → s.end ≡ Going → s.rest ≢ [] → MakesStep nodes at counters tables n s
makes_step nodes at counters tables n s st going some =
    let w = stands_somewhere st in
    let r = node_right nodes counters tables n s w.act w.next w.other going some (stands_next st w.has) in
    record { node = record { act = w.act; next = w.next; other = w.other }; is = w.has.is; going = r.going; leads = r.leads; does = r.does }

plain_some : (nodes : List Node) (a : Act) (next : ℕ) (cs : List ℕ) → Plain nodes a next cs [] → ⊥
plain_some nodes a next cs p = let e = p.is in cc

-- a node that stands for nothing
pub nothing_next : (nodes : List Node) (cs : List ℕ) (a : Act) (next other : ℕ) → Next nodes a next other cs [] → a ≡ End
nothing_next nodes cs (Calc to left op right) next other p = absurd (plain_some nodes _ next cs p)
nothing_next nodes cs (Move to from) next other p = absurd (plain_some nodes _ next cs p)
nothing_next nodes cs (Read to table at) next other p = absurd (plain_some nodes _ next cs p)
nothing_next nodes cs (Write table at from) next other p = absurd (plain_some nodes _ next cs p)
nothing_next nodes cs (Test left cmp right) next other p = let e = p.is in cc
nothing_next nodes cs (Turn count depth) next other (inl p) = let e = p.1.is in cc
nothing_next nodes cs (Turn count depth) next other (inr r) = let e = r.goes.is in cc
nothing_next nodes cs (Emit from) next other p = absurd (plain_some nodes _ next cs p)
nothing_next nodes cs (Fail code) next other p = absurd (plain_some nodes _ next cs p)
nothing_next nodes cs End next other p = refl

-- the end stands where nothing is left
pub is_end : (nodes : List Node) (at : ℕ) (counters : List ℕ) → Stands nodes at counters [] → IsEnd nodes at
is_end nodes at counters st =
    let w = stands_somewhere st in
    record { node = record { act = w.act; next = w.next; other = w.other }; is = w.has.is; ends = nothing_next nodes counters w.act w.next w.other (stands_next st w.has) }
