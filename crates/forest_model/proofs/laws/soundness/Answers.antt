use Rattle.std.proofs.Common.{◌≡◌, ℕ, ◌<◌, true, ltb, Some, is_ok, arith, IsTrue, IfSome, refl, sym, ◌∙◌, ltb-true}
use Rattle.std.proofs.lemmas.Bool.{cases_Bool}
use Rattle.journal_core.specs.Journal.{is_live}
use Rattle.forest_model.specs.Forest.{Forest, Started, find_started, length_of}
use Rattle.forest_model.specs.Events.{commit, commit_ended}
use Rattle.forest_model.specs.Jobs.{give}
use Rattle.forest_model.specs.World.{Held, IsHeld}
use Rattle.forest_model.specs.Sound.{IsSound}
use Rattle.journal_core.proofs.Legal.{replies-serial}
use Rattle.forest_model.proofs.Lists.{either}
use Rattle.forest_model.proofs.EventLaws.{begin-sound, seal-sound}
use Rattle.forest_model.proofs.LongerLaws.{none-live}
use Rattle.forest_model.proofs.StepLaws.{step-sound, take-sound, recall-sound}
use Rattle.forest_model.proofs.CommitLaws.{commit-sound, withdraw-sound}
use Rattle.forest_model.proofs.GiveLaws.{give-sound}
use Rattle.forest_model.proofs.WorldLaws.{tables-size}
use Rattle.forest_model.proofs.StoreLaws.{few-shadows}
use Rattle.forest_model.proofs.laws.soundness.Goals as goal

ended-accepted : (f : Forest) (u : Started) → u.position ≡ length_of f u → is_ok (commit_ended f u) ≡ true
ended-accepted f u ended =
    either (cases_Bool (ltb u.position (length_of f u)))
    (λ e. let lt : u.position < length_of f u = ltb-true _ _ e in absurd (omega arith))
    (λ e. rw e refl)

commit-accepted : (f : Forest) (t : ℕ) (u : Started) → is_live f.journal t ≡ true → find_started f.started t ≡ Some u → u.position ≡ length_of f u → IsTrue (is_ok (commit f t))
commit-accepted f t u live found ended = rw (live, found) (ended-accepted f u ended)

held-sound : (f : Forest) (x : Held) → IsSound f → IsHeld f x → IfSome (give f x.job) IsSound
held-sound f x h held = give-sound f x.job x.tables held.program held.job (held.size ∙ sym (tables-size f h)) h

pub returns : goal.returns
returns c = record {
  begins = begin-sound;
  seals = seal-sound;
  steps = step-sound;
  commits = commit-sound;
  withdraws = withdraw-sound;
  takes = take-sound;
  gives = held-sound;
  recalls = recall-sound;
  few = few-shadows;
  serial = λ f h. (replies-serial f.opening f.journal h.right.legal, h.right.serial);
  nobody = none-live;
  never_refused = commit-accepted;
}
