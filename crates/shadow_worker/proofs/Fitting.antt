-- A bench that fits what was seen fits a turn, and fits afterwards.
use Rattle.std.proofs.Common.{◌≡◌, true, List, Option, Some, None, refl, ap, sym, ◌∙◌, subst, true≢false}
use Rattle.std.specs.Prelude.{IfSome}
use Rattle.journal_core.specs.Journal.{is_live}
use Rattle.journal_core.specs.declared.entry.Entry.{Entry}
use Rattle.journal_core.proofs.Legal.{begun-live}
use Rattle.forest_model.specs.Forest.{Forest}
use Rattle.shadow_forest.specs.View.{View}
use Rattle.shadow_forest.specs.Bench.{Outside, Benched, IsOfRun}
use Rattle.shadow_forest.specs.Listed.{listed, journal_in}
use Rattle.shadow_worker.specs.Turn.{IsOfProgram}
use Rattle.shadow_worker.specs.Worked.{IsAtMostCommitted, IsBegunIn, Fits, HasEnded}
use Rattle.shadow_worker.proofs.Listing.{journal-listed, items-longer}
use Rattle.shadow_worker.proofs.WorkTurns.{at_most_begins}

of_program : (f : Forest) (journal : List Entry) (o : Option Outside) → journal ≡ f.journal → IfSome o (IsBegunIn journal) → IfSome o (IsOfProgram f)
of_program f journal None e h = tt
of_program f journal (Some x) e h = (subst (λ j. IsBegunIn j x) e h).nodes

pub fits-job : (v : View) (b : Benched) → Fits (listed v) b → IfSome b.outside (IsOfProgram v.numbers)
fits-job v b h = of_program v.numbers (journal_in (listed v)) b.outside (journal-listed v) h.job

begun-in : (f : Forest) (journal : List Entry) (o : Option Outside) → journal ≡ f.journal → IfSome o (IsOfRun f) → IfSome o (λ x. is_live f.journal x.number ≡ true) → IfSome o (IsBegunIn journal)
begun-in f journal None e run live = tt
begun-in f journal (Some x) e run live =
    subst (λ j. IsBegunIn j x) (sym e) (record { begun = begun-live f.journal x.number live; nodes = run.nodes })

pub fits-after : (v w : View) (b c : Benched) → Fits (listed v) b → IsAtMostCommitted (listed v) (listed w) → c.items ≡ b.items → IfSome c.outside (IsOfRun w.numbers)
    → IfSome c.outside (λ x. is_live w.numbers.journal x.number ≡ true) → Fits (listed w) c
fits-after v w b c h grown room run live = record {
  items = items-longer (listed v) (listed w) c.items (at_most_begins (listed v) (listed w) grown) (h.items ∙ ap (λ n. Some n) (sym room));
  job = begun-in w.numbers (journal_in (listed w)) c.outside (journal-listed w) run live;
}

-- where nobody is live no job was taken
pub nobody-taken : (journal : List Entry) (o : Option Outside) → IfSome o (λ x. is_live journal x.number ≡ true) → HasEnded journal → o ≡ None
nobody-taken journal None live h = refl
nobody-taken journal (Some x) live h = absurd (true≢false (sym live ∙ h.nobody x.number))
