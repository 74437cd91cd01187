use Rattle.std.proofs.Common.{◌≡◌, ◌≤◌, ◌<◌, ◌++◌, ◌∷◌, [], length, sym, ap, ◌∙◌, subst, append_assoc, append-nil}
use Rattle.std.specs.List.{All}
use Rattle.std.specs.Vec.Iter.{into_iter_items}
use Rattle.journal_core.specs.Journal.{began, is_sealed}
use Rattle.scc_batch.specs.Opened.{IsWithin, begun_from}
use Rattle.scc_batch.proofs.Begun.{began-many, begun-open, begun-next, middle, fewer}
use Rattle.scc_batch.proofs.opening.begin_all.Goals as goal

pub begin_next-requires-clause-items : goal.begin_next-requires-clause-items
begin_next-requires-clause-items c = let i = c.loop-request.invariant in i.items ∙ ap length (sym i.begun.opening)

pub begin_next-requires-clause-within : goal.begin_next-requires-clause-within
begin_next-requires-clause-within c =
    let i = c.loop-request.invariant in
    let n = length c.args.forest.now.numbers.opening in
    let all = subst (All (IsWithin n)) (sym i.shared ∙ ap (λ xs. c.loop-request.yielded ++ xs) c.in-Some.ensures.steps.0) c.requires.within in
    subst (λ m. IsWithin m c.in-Some.request) (ap length (sym i.begun.opening)) (middle (IsWithin n) c.loop-request.yielded c.in-Some.request (into_iter_items c.next.new.self) all)

pub begin_next-requires-clause-open : goal.begin_next-requires-clause-open
begin_next-requires-clause-open c =
    let i = c.loop-request.invariant in
    ap is_sealed (i.begun.journal ∙ append-nil (begun_from 1 c.loop-request.yielded)) ∙ begun-open 1 c.loop-request.yielded

pub begin_next-requires-clause-few : goal.begin_next-requires-clause-few
begin_next-requires-clause-few c =
    let i = c.loop-request.invariant in
    let many : began c.loop-request.forest.numbers.journal ≡ length c.loop-request.yielded =
    ap began (i.begun.journal ∙ append-nil (begun_from 1 c.loop-request.yielded)) ∙ began-many 1 c.loop-request.yielded in
    let few = subst (λ xs. length xs ≤ 20000) (sym i.shared ∙ ap (λ xs. c.loop-request.yielded ++ xs) c.in-Some.ensures.steps.0) c.requires.few in
    subst (λ m. m < 20000) (sym many) (fewer c.loop-request.yielded c.in-Some.request (into_iter_items c.next.new.self) 20000 few)

pub loop-request-preserved : goal.loop-request-preserved
loop-request-preserved c =
    let i = c.loop-request.invariant in
    let before = c.loop-request.yielded in
    let new = c.begin_next.new.forest.numbers in
    record {
      begun = begun-next c.loop-request.forest.numbers new c.args.forest.now.numbers.opening before c.in-Some.request i.begun c.begin_next.ensures.opening c.in_ok-begin_next.ensures.journal;
      items = c.begin_next.ensures.items ∙ ap length (c.begin_next.ensures.opening ∙ i.begun.opening);
      shared = append_assoc before (c.in-Some.request ∷ []) (into_iter_items c.next.new.self) ∙ ap (λ xs. before ++ xs) (sym c.in-Some.ensures.steps.0) ∙ i.shared;
    }
