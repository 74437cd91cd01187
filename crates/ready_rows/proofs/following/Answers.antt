use Rattle.ready_rows.proofs.FollowLaws.{pick-ordered, put-ordered, out-ordered}
use Rattle.ready_rows.proofs.following.Goals as goal

pub returns : goal.returns
returns c = record { pick = pick-ordered; put = put-ordered; out = out-ordered }
