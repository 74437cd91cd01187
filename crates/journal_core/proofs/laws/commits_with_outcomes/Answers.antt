use Rattle.journal_core.proofs.Begins.{replies-numbers, replies-outcomes, replies-programs, replies-named, commits-distinct, none-replies}
use Rattle.journal_core.proofs.laws.commits_with_outcomes.Goals as goal

pub returns : goal.returns
returns c = record {
  numbers = replies-numbers;
  outcomes = replies-outcomes;
  programs = replies-programs;
  named = replies-named;
  distinct = commits-distinct;
  none = none-replies;
}
