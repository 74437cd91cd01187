use Rattle.std.proofs.Common.{◌≡◌, Bool, Option, Some, None, ap, sym, ◌∙◌, refl, subst}
use Rattle.std.specs.Prelude.{slice_get, option_map}
use Rattle.std.proofs.lemmas.Option.{IfSome_then}
use Rattle.txn_interp.specs.State.{IsRun}
use Rattle.journal_core.specs.Journal.{program_of}
use Rattle.forest_model.specs.Forest.{Started, find_started}
use Rattle.forest_model.specs.Told.{Look, looks}
use Rattle.forest_model.proofs.StartedLaws.{found-number}
use Rattle.shadow_lanes.specs.Seats.{started_of}
use Rattle.shadow_forest.specs.Answers.{outs}
use Rattle.shadow_forest.specs.View.{View}
use Rattle.shadow_forest.proofs.Seen.{find-seat, started-at}
use Rattle.shadow_forest.proofs.forest.Forest.shadow.Goals as goal

none : (c : goal.In-None) → find_started c.args.self.now.numbers.started c.args.txn ≡ None
none c = subst (λ (v : View). find_started v.numbers.started c.args.txn ≡ None) c.self.view_is (find-seat c.self.inside.lanes.seats c.args.txn ∙ ap (option_map started_of) c.in-None.ensures)

pub returns-in-None-clause-look : goal.returns-in-None-clause-look
returns-in-None-clause-look c = subst (λ o. ◌≡◌ {A = Option Look} None (slice_get (looks c.args.self.now.numbers o) c.args.place)) (sym (none c)) refl

pub returns-in-None-clause-out : goal.returns-in-None-clause-out
returns-in-None-clause-out c = subst (λ o. ◌≡◌ {A = Option Bool} None (slice_get (outs o) c.args.place)) (sym (none c)) refl

some : (c : goal.After-view) → (r : Started) × (slice_get c.args.self.now.numbers.started c.in-Some.at ≡ Some r) × (find_started c.args.self.now.numbers.started c.args.txn ≡ Some r)
some c =
    subst (λ (v : View). (r : Started) × (slice_get v.numbers.started c.in-Some.at ≡ Some r) × (find_started v.numbers.started c.args.txn ≡ Some r)) c.self.view_is
    (started-at c.self.inside.lanes.seats c.args.txn c.in-Some.at c.in-Some.ensures.0 c.in-Some.ensures.1)

pub returns-in-Some-clause-look : goal.returns-in-Some-clause-look
returns-in-Some-clause-look c = c.view.ensures.look (some c).0 (some c).1 ∙ ap (λ o. slice_get (looks c.args.self.now.numbers o) c.args.place) (sym (some c).2)

pub returns-in-Some-clause-out : goal.returns-in-Some-clause-out
returns-in-Some-clause-out c = c.view.ensures.out (some c).0 (some c).1 ∙ ap (λ o. slice_get (outs o) c.args.place) (sym (some c).2)

pub returns-in-Some-clause-runs : goal.returns-in-Some-clause-runs
returns-in-Some-clause-runs c =
    IfSome_then c.view.result (c.view.ensures.runs (some c).0 (some c).1)
    (λ v runs. subst (λ t. IsRun (program_of c.args.self.now.numbers.journal t) c.args.self.now.numbers.tables v.state.now) (found-number c.args.self.now.numbers.started c.args.txn (some c).0 (some c).2) runs)
