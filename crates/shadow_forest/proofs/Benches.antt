-- A job goes on outside the forest.
use Rattle.std.proofs.Common.{◌≡◌, ℕ, ◌-◌, ◌+◌, ◌≤◌, ◌<◌, true, List, Option, Some, None, ap, sym, subst, ◌∙◌, arith}
use Rattle.std.specs.Prelude.{IfSome}
use Rattle.std.proofs.lemmas.Bool.{cases_lt}
use Rattle.txn_runs.specs.Run.{Tables, after}
use Rattle.txn_runs.specs.Kind.{kind_of}
use Rattle.txn_runs.specs.Bounds.{reach}
use Rattle.txn_runs.specs.declared.kind.Kind.TheVariants.{Local}
use Rattle.txn_runs.specs.declared.program.Stmt.{Stmt}
use Rattle.txn_code.specs.declared.node.Node.{Node}
use Rattle.txn_interp.specs.State.{Held, RunsOver}
use Rattle.txn_interp.specs.Kind.{HasKind}
use Rattle.access_sets.specs.Log.{Log}
use Rattle.forest_model.specs.Runs.{is_local_kind, is_local}
use Rattle.forest_model.proofs.Lists.{either}
use Rattle.shadow_forest.specs.declared.bench.Job.{Job}
use Rattle.shadow_forest.specs.Bench.{Outside, Benched, benched, IsOutside, IsFurther}
use Rattle.shadow_forest.proofs.Placing.{some_same}

module _ (nodes : List Node) (old new : Held) (made : ℕ) (f : IsFurther nodes made old new)
    (steps : (body : List Stmt) (tables : Tables) (n : ℕ) → RunsOver nodes body tables old → n < made → kind_of (after body tables (old.position + n)) ≡ Local) where
  -- the steps before and these need no tables
  local-on : (body : List Stmt) (tables : Tables) (from : ℕ) → RunsOver nodes body tables old → ((n : ℕ) → from ≤ n → n < old.position → is_local (after body tables n) ≡ true)
      → (n : ℕ) → from ≤ n → n < new.position → is_local (after body tables n) ≡ true
  local-on body tables from over before n ge lt =
      either (cases_lt n old.position)
      (λ less. before n ge less)
      (λ past.
      let is : old.position + (n - old.position) ≡ n = omega (arith, past) in
      let kind = steps body tables (n - old.position) over (omega (arith, lt, past, f.position)) in
      subst (λ m. is_local (after body tables m) ≡ true) is (ap is_local_kind kind))

  -- what a bench keeps of its job is kept
  pub bench-kept : (job : Option Job) → IfSome (benched job nodes old).outside IsOutside → IfSome (benched job nodes new).outside IsOutside
  bench-kept None h = tt
  bench-kept (Some j) h = record {
    body = h.body;
    tables = h.tables;
    program = h.program;
    fits = subst (λ (l : Log). reach h.body ≤ l.room) (sym f.log) h.fits;
    over = f.same h.body h.tables h.over;
    forward = omega (arith, h.forward, f.position);
    local = local-on h.body h.tables j.from h.over h.local;
  }

  -- and the bench has the same job, further on
  pub bench-further : (job : Option Job) (now : Benched) → benched job nodes old ≡ now → (x : Outside) → now.outside ≡ Some x
      → (state : Held) × (benched job nodes new ≡ record now { outside = Some (record x { state = state }) }) × IsFurther x.nodes made x.state state
  bench-further None now view x is = cc
  bench-further (Some j) now view x is =
      let here : Outside = record { number = j.txn; from = j.from; nodes = nodes; state = old } in
      let same : here ≡ x = some_same here x (ap (λ (b : Benched). b.outside) view ∙ is) in
      let items : new.log.room ≡ now.items = ap (λ (l : Log). l.room) f.log ∙ ap (λ (b : Benched). b.items) view in
      subst (λ (y : Outside). (state : Held) × (benched (Some j) nodes new ≡ record now { outside = Some (record y { state = state }) }) × IsFurther y.nodes made y.state state) same
      (new, (λ i. record { items = items i; outside = Some (record here { state = new }) }), f)

-- where it stopped, its next step needs the tables
pub bench-stops : (job : Option Job) (nodes : List Node) (state : Held) → (HasKind nodes state Local → ⊥) → (x : Outside) → (benched job nodes state).outside ≡ Some x → HasKind x.nodes x.state Local → ⊥
bench-stops None nodes state never x is = cc
bench-stops (Some j) nodes state never x is =
    let here : Outside = record { number = j.txn; from = j.from; nodes = nodes; state = state } in
    subst (λ (y : Outside). HasKind y.nodes y.state Local → ⊥) (some_same here x is) never
