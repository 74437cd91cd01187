use Rattle.std.proofs.Common.{sym, subst, ◌∙◌}
use Rattle.journal_core.specs.declared.entry.Entry.TheVariants.{Sealed}
use Rattle.shadow_forest.specs.Kept.{numbers_waiting, IsForest, HaveRooms}
use Rattle.shadow_forest.proofs.BeginningEntry.{is_pushed, sealed_kept}
use Rattle.shadow_forest.proofs.RoomLaws.{rooms_sealed}
use Rattle.shadow_forest.proofs.forest.Forest.seal.Goals as goal

pub invariant_of-self : goal.invariant_of-self
invariant_of-self c =
    let i = c.self.inside in
    let p = c.push_reserved.ensures in
    let new = c.push_reserved.new.self in (
      subst (λ j. IsForest j i.tables i.txns.items (numbers_waiting i.waiting) i.lanes) (sym (is_pushed i.journal new Sealed p.opening p.entries))
          (sealed_kept i.journal i.tables i.txns.items (numbers_waiting i.waiting) i.lanes new.spare c.self.invariant.0 (sym c.sealed.ensures ∙ c.if-not-sealed.true) p.room),
      c.self.invariant.1,
      c.self.invariant.2,
      subst (λ es. HaveRooms es i.rooms.items) (sym p.entries) (rooms_sealed i.journal.entries i.rooms.items c.self.invariant.3),
    )
