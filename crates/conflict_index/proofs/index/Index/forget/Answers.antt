use Rattle.std.proofs.Common.{◌≡◌, ℕ, cond, not, ◌==◌, ◌||◌, List, Option, ap, ◌∙◌, arith}
use Rattle.std.specs.Vec.{with_items}
use Rattle.std.proofs.lemmas.List.{with_items_is}
use Rattle.conflict_index.specs.Masks.{has}
use Rattle.conflict_index.proofs.MaskLaws.{is-some}
use Rattle.conflict_index.proofs.Views.{lane-below}
use Rattle.conflict_index.proofs.Forgetting.{Forgot, ForgetDone, forget-done}
use Rattle.conflict_index.proofs.index.Index.forget.Goals as goal

pub without_each-requires : goal.without_each-requires
without_each-requires c = (let b = lane-below _ _ _ _ _ _ _ c.self.view_is c.requires.lane in omega (arith, b, c.self.invariant.few))

pub without_each-requires-2 : goal.without_each-requires-2
without_each-requires-2 c = (let b = lane-below _ _ _ _ _ _ _ c.self.view_is c.requires.lane in omega (arith, b, c.self.invariant.few))

pub empty_row-own-requires-clause-reader : goal.empty_row-own-requires-clause-reader
empty_row-own-requires-clause-reader c = lane-below _ _ _ _ _ _ _ c.self.view_is c.requires.lane

pub empty_column-others-requires-clause-writer : goal.empty_column-others-requires-clause-writer
empty_column-others-requires-clause-writer c = lane-below _ _ _ _ _ _ _ c.self.view_is c.requires.lane

pub with_where-self-inside-requires : goal.with_where-self-inside-requires
with_where-self-inside-requires c = (let b = lane-below _ _ _ _ _ _ _ c.self.view_is c.requires.lane in omega (arith, b, c.self.invariant.few))

module _ (c : goal.After-self-5-1) where
  abbrev readers_after : List ℕ
  readers_after = (with_items c.self.inside.readers c.without_each.new.masks).items

  abbrev writers_after : List ℕ
  writers_after = (with_items c.self.inside.writers c.without_each-2.new.masks).items

  abbrev middle : List (Option ℕ)
  middle = (with_items c.self.inside.points c.empty_row-own.new.points).items

  abbrev after : List (Option ℕ)
  after = (with_items (with_items c.self.inside.points c.empty_row-own.new.points) c.empty_column-others.new.points).items

  readers_are : readers_after ≡ c.without_each.new.masks
  readers_are = with_items_is c.self.inside.readers c.without_each.new.masks (omega (arith, c.without_each.ensures.long, c.deref_mut.ensures.len))

  writers_are : writers_after ≡ c.without_each-2.new.masks
  writers_are = with_items_is c.self.inside.writers c.without_each-2.new.masks (omega (arith, c.without_each-2.ensures.long, c.deref_mut-2.ensures.len))

  middle_is : middle ≡ c.empty_row-own.new.points
  middle_is = with_items_is c.self.inside.points c.empty_row-own.new.points (omega (arith, c.empty_row-own.ensures.long, c.deref_mut-3.ensures.len))

  after_is : after ≡ c.empty_column-others.new.points
  after_is = with_items_is (with_items c.self.inside.points c.empty_row-own.new.points) c.empty_column-others.new.points (omega (arith, c.empty_column-others.ensures.long, c.deref_mut-4.ensures.len))

  forgot : Forgot c.self.inside.lanes c.self.inside.readers.items c.self.inside.writers.items readers_after writers_after c.self.inside.points.items middle after c.empty_row-own.result c.empty_column-others.result c.args.lane
  forgot = record {
    lane = lane-below _ _ _ _ _ _ _ c.self.view_is c.requires.lane;
    readers_are = rw (readers_are, ← c.deref_mut.ensures.value) c.without_each.ensures;
    writers_are = rw (writers_are, ← c.deref_mut-2.ensures.value) c.without_each-2.ensures;
    row = rw (middle_is, ← c.deref_mut-3.ensures.value) c.empty_row-own.ensures;
    column = rw (after_is, ← c.deref_mut-4.ensures.value) c.empty_column-others.ensures;
  }

  marks_are : (u : ℕ) → has c.with_where-self-inside.result u ≡ cond (u == c.args.lane) (not (c.empty_row-own.result == 0) || (has c.self.inside.marks c.args.lane || has c.empty_column-others.result c.args.lane)) (has c.self.inside.marks u || has c.empty_column-others.result u)
  marks_are u =
      c.with_where-self-inside.ensures u
      ∙ ap (λ t. cond (u == c.args.lane) (not (c.empty_row-own.result == 0) || t) (has c.union.result u)) (c.union.ensures c.args.lane)
      ∙ ap (λ t. cond (u == c.args.lane) (not (c.empty_row-own.result == 0) || (has c.self.inside.marks c.args.lane || has c.empty_column-others.result c.args.lane)) t) (c.union.ensures u)

  done : ForgetDone c.self.inside.lanes readers_after writers_after c.self.inside.positions.items after c.with_where-self-inside.result c.args.self.now c.args.lane
  done = forget-done c.self.inside.lanes c.self.inside.readers.items c.self.inside.writers.items c.self.inside.positions.items readers_after writers_after c.self.inside.points.items middle after c.empty_row-own.result c.empty_column-others.result c.args.lane
      c.self.invariant forgot c.self.inside.marks c.with_where-self-inside.result (not (c.empty_row-own.result == 0)) c.args.self.now c.empty_row-own.type_inv (is-some c.empty_row-own.result) marks_are c.self.view_is

pub invariant_of-self : goal.invariant_of-self
invariant_of-self c = (done c).kept

pub returns-clause-lanes : goal.returns-clause-lanes
returns-clause-lanes c = (done c).lists

pub returns-clause-marks : goal.returns-clause-marks
returns-clause-marks c = (done c).moved
