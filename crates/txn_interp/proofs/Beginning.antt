-- A state of which nothing is done.
use Rattle.std.proofs.Common.{◌≡◌, ℕ, List, ◌∷◌, [], ◌∙◌, ap, refl, false, length, Some}
use Rattle.std.specs.Prelude.{slice_get}
use Rattle.txn_runs.specs.declared.program.Stmt.{Stmt, out-Stmt}
use Rattle.txn_runs.specs.declared.program.Stmt.TheOpen.{Stmt-F}
use Rattle.txn_runs.specs.declared.program.Block.{Block}
use Rattle.txn_runs.specs.Run.{Tables, start, after}
use Rattle.txn_runs.specs.Serial.{has_ended}
use Rattle.txn_code.specs.declared.node.Node.{Node}
use Rattle.txn_code.specs.declared.node.Act.{Act}
use Rattle.txn_code.specs.declared.node.Act.TheVariants.{End as Finish}
use Rattle.txn_code.specs.Flow.{Flow, Links, leaf_act}
use Rattle.txn_code.specs.Flow.{done, plain, choice, turn}
use Rattle.txn_code.proofs.Flows.{links_nodes}
use Rattle.txn_code.specs.Nodes.{nodes_of}
use Rattle.txn_interp.specs.State.{Held, IsFresh, is_finish, is_last, fresh_state, IsRun}
use Rattle.txn_interp.proofs.Found.{fresh_tracks, told}

leaf_goes : (x : Stmt-F Stmt Block) (act : Act) → leaf_act x ≡ Some act → is_finish act ≡ false
leaf_goes (Stmt-F.Calc to left op right) act e = cc
leaf_goes (Stmt-F.Move to from) act e = cc
leaf_goes (Stmt-F.Read to table at) act e = cc
leaf_goes (Stmt-F.Write table at from) act e = cc
leaf_goes (Stmt-F.If left cmp right first second) act e = cc
leaf_goes (Stmt-F.Loop count body) act e = cc
leaf_goes (Stmt-F.Emit from) act e = cc
leaf_goes (Stmt-F.Fail code) act e = cc

starts_at : (nodes : List Node) (body : List Stmt) (items last : ℕ) → Flow nodes 0 body last 0 → slice_get nodes last ≡ Some (record { act = Finish; next = last; other = last }) → is_last (slice_get nodes 0) ≡ has_ended (start body items)
starts_at nodes [] items last (done e) ends = ap is_last (ap (slice_get nodes) e ∙ ends)
starts_at nodes (s ∷ rest) items last (plain leaf node more) ends = ap is_last node.is ∙ leaf_goes (out-Stmt s) _ leaf
starts_at nodes (s ∷ rest) items last (choice is node first second more) ends = ap is_last node.is
starts_at nodes (s ∷ rest) items last (turn is node body more) ends = ap is_last node.is

pub fresh_runs : (body : List Stmt) (tables : Tables) → IsRun body tables (fresh_state (nodes_of body) (length tables))
unfolding after
fresh_runs body tables =
    let nodes = nodes_of body in
    let s : Held = fresh_state nodes (length tables) in
    let links : Links body nodes = links_nodes body in
    let fresh : IsFresh (length tables) s = record { room = refl; position = refl; node = refl; counters = refl; registers = refl; reads = refl; writes = refl; emits = refl; end = refl } in
    told nodes body tables s s.done (fresh_tracks nodes body tables s refl fresh) (starts_at nodes body (length tables) links.last links.flow links.ends.is)
