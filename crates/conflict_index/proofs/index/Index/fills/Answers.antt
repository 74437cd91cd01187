use Rattle.std.proofs.Common.{◌≡◌, ◌≢◌, ℕ, ◌+◌, ◌<◌, true, false, cond, List, Option, get_or, length, None, sym, ap, ◌∙◌, arith}
use Rattle.std.proofs.lemmas.Bool.{both_ways, eq-eqb, ne_eqb}
use Rattle.std.proofs.lemmas.Nat.{mul-add-lt}
use Rattle.std.proofs.lemmas.List.{get_or_read}
use Rattle.conflict_index.specs.Masks.{has}
use Rattle.conflict_index.specs.Index.{Lane, Index, lane_at, is_among, point, point_at, Fills}
use Rattle.conflict_index.specs.Kept.{lane_of, has_item}
use Rattle.conflict_index.proofs.ItemLists.{among-writes}
use Rattle.conflict_index.proofs.Views.{view-lane, view-length, lane-below, below-lanes}
use Rattle.conflict_index.proofs.index.Index.fills.Goals as goal

pub without-writers-requires : goal.without-writers-requires
without-writers-requires c = (let b = lane-below _ _ _ _ _ _ _ c.self.view_is c.requires.lane in omega (arith, b, c.self.invariant.few))

pub has_empty-requires : goal.has_empty-requires
has_empty-requires c u e =
    let b = lane-below _ _ _ _ _ _ _ c.self.view_is c.requires.lane in
    let i : c.args.item < length c.self.inside.writers.items = omega (arith, ap (λ (v : Index). v.items) c.self.view_is, c.self.invariant.same) in
    let l = below-lanes c.self.inside.lanes c.self.inside.writers.items c.index.result.now c.without-writers.result c.args.item c.args.lane c.self.invariant.writing (get_or_read c.self.inside.writers.items c.args.item c.index.result.now i c.index.ensures 0) c.without-writers.ensures.lanes u e in
    let w = mul-add-lt c.args.lane c.self.inside.lanes u c.self.inside.lanes b l in
    omega (arith, w, c.cell.ensures, c.self.invariant.square, c.deref.ensures.len, c.self.inside.points.ok.0)

module _ (c : goal.After-has_empty) where
  below : c.args.lane < c.self.inside.lanes
  below = lane-below _ _ _ _ _ _ _ c.self.view_is c.requires.lane

  within : c.args.item < length c.self.inside.readers.items
  within = omega (arith, ap (λ (v : Index). v.items) c.self.view_is)

  writers_are : c.index.result.now ≡ get_or c.self.inside.writers.items c.args.item 0
  writers_are = get_or_read c.self.inside.writers.items c.args.item c.index.result.now (omega (arith, within, c.self.invariant.same)) c.index.ensures 0

  lists : (u : ℕ) → u < c.self.inside.lanes → lane_of c.self.inside.readers.items c.self.inside.writers.items c.self.inside.positions.items c.self.inside.lanes u ≡ lane_at c.args.self.now u
  lists u l = sym (view-lane c.self.inside.lanes c.self.inside.readers.items c.self.inside.writers.items c.self.inside.positions.items c.self.inside.marks u l) ∙ ap (λ (s : Index). lane_at s u) c.self.view_is

  long : c.self.inside.lanes ≡ length c.args.self.now.lanes
  long = sym (view-length c.self.inside.lanes c.self.inside.readers.items c.self.inside.writers.items c.self.inside.positions.items c.self.inside.marks) ∙ ap (λ (s : Index). length s.lanes) c.self.view_is

  wrote : (u : ℕ) → u < c.self.inside.lanes → is_among (lane_at c.args.self.now u).writes c.args.item ≡ has c.index.result.now u
  wrote u l =
      sym (ap (λ (r : Lane). is_among r.writes c.args.item) (lists u l))
      ∙ among-writes (has_item c.self.inside.writers.items u) c.args.item 0 (length c.self.inside.readers.items) (omega arith) (omega (arith, within))
      ∙ sym (ap (λ m. has m u) writers_are)

  entry : (u : ℕ) → u < c.self.inside.lanes → u ≢ c.args.lane → get_or c.deref.result.now (c.cell.result + u) None ≡ point_at c.args.self.now c.args.lane u
  entry u l n =
      ap (λ (ps : List (Option ℕ)). get_or ps (c.cell.result + u) None) c.deref.ensures.value
      ∙ ap (λ at. get_or c.self.inside.points.items at None) (omega (arith, c.cell.ensures))
      ∙ c.self.invariant.met c.args.lane u below l (λ e. n (sym e))
      ∙ ap (λ (r : Lane). point r.reads (lane_of c.self.inside.readers.items c.self.inside.writers.items c.self.inside.positions.items c.self.inside.lanes u).writes) (lists c.args.lane below)
      ∙ ap (λ (r : Lane). point (lane_at c.args.self.now c.args.lane).reads r.writes) (lists u l)

  other : (u : ℕ) → has c.without-writers.result u ≡ true → u ≢ c.args.lane
  other u h q = both_ways (has c.without-writers.result u) (c.without-writers.ensures.lanes u ∙ ap (λ t. cond t false (has c.index.result.now u)) (eq-eqb u c.args.lane q)) h

  mask : (u : ℕ) → u ≢ c.args.lane → has c.without-writers.result u ≡ has c.index.result.now u
  mask u n = c.without-writers.ensures.lanes u ∙ ap (λ t. cond t false (has c.index.result.now u)) (ne_eqb u c.args.lane n)

  forth : (u : ℕ) → has c.without-writers.result u ≡ true → get_or c.deref.result.now (c.cell.result + u) None ≡ None → Fills c.args.self.now c.args.lane c.args.item
  forth u h e =
      let l : u < c.self.inside.lanes = below-lanes c.self.inside.lanes c.self.inside.writers.items c.index.result.now c.without-writers.result c.args.item c.args.lane c.self.invariant.writing writers_are c.without-writers.ensures.lanes u h in
      (u, omega (arith, l, long), other u h, wrote u l ∙ sym (mask u (other u h)) ∙ h, sym (entry u l (other u h)) ∙ e)

  back : Fills c.args.self.now c.args.lane c.args.item → c.has_empty.result ≡ true
  back (u, w, n, a, p) =
      let l : u < c.self.inside.lanes = omega (arith, w, long) in
      c.has_empty.ensures.1 (u, mask u n ∙ sym (wrote u l) ∙ a, entry u l n ∙ p)

pub returns : goal.returns
returns c = ((λ t. let p = c.has_empty.ensures.0 t in forth c p.0 p.1 p.2), back c)
