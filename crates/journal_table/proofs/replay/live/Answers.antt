use Rattle.std.proofs.Common.{◌∙◌, ◌<◌, ◌^◌, sym, ap, refl, arith, length, inl, inr}
use Rattle.std.proofs.lemmas.Bool.{cases_Bool}
use Rattle.journal_core.specs.Journal.{is_live}
use Rattle.journal_table.proofs.Numbered.{live-within, live-same}
use Rattle.journal_table.proofs.replay.live.Goals as goal

pub returns-then-txn-len : goal.returns-then-txn-len
returns-then-txn-len c = λ t same.
    let journal = c.args.journal.now in
    let count = c.len.ensures.value in
    let over = c.if-txn-len.true in
    let few : length journal.entries < 2 ^ 32 = let small = c.len.type_inv in omega (arith, count, small) in
    elim (cases_Bool (is_live journal.entries t)) [
      | inl is ↦
          let at = live-same journal.opening journal.entries t c.args.txn c.len.ensures.legal few c.ranges.txn.fits same is in
          let within = live-within journal.opening journal.entries t c.len.ensures.legal is in
          absurd (omega (arith, at, within, count, over))
      | inr dead ↦ dead
    ]

pub returns-else-live : goal.returns-else-live
returns-else-live c = λ t same.
    let journal = c.args.journal.now in
    let count = c.len.ensures.value in
    let few : length journal.entries < 2 ^ 32 = let small = c.len.type_inv in omega (arith, count, small) in
    let not = sym c.live.ensures ∙ c.if-live.false in
    elim (cases_Bool (is_live journal.entries t)) [
      | inl is ↦
          let at = live-same journal.opening journal.entries t c.args.txn c.len.ensures.legal few c.ranges.txn.fits same is in
          ap (is_live journal.entries) at ∙ not
      | inr dead ↦ dead
    ]

pub returns-then-live : goal.returns-then-live
returns-then-live c =
    let journal = c.args.journal.now in
    let count = c.len.ensures.value in
    let few : length journal.entries < 2 ^ 32 = let small = c.len.type_inv in omega (arith, count, small) in
    (refl, sym c.live.ensures ∙ c.if-live.true, λ u same is. live-same journal.opening journal.entries u c.args.txn c.len.ensures.legal few c.ranges.txn.fits same is)
