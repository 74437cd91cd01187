-- What each answer, work and want of memory keeps is kept by the whole loop.
use Rattle.std.proofs.Common.{◌≡◌, inl, inr, ℕ, List, [], ◌∷◌, Option, sym, subst}
use Rattle.scc_text.specs.Reader.{Reader}
use Rattle.line_loop.specs.Account.{Behaviour, Exchange, Follows, GoesThrough, Closes, Looped}
use Rattle.line_loop.specs.declared.flow.Flow.{Flow}
use Rattle.line_loop.specs.declared.flow.Flow.TheVariants.{GoOn, WorkOn, Stop}
use Rattle.line_loop.specs.declared.ending.Ending.{Ending}
use Rattle.line_loop.specs.declared.ending.Ending.TheVariants as ending

-- a relation of states that holds of each step of a machine
pub record Keeps {M : Type 0} (m : Behaviour M) (R : M → M → Type 0) : Type 0 where
  pub none : (x : M) → R x x
  pub both : (x y z : M) → R x y → R y z → R x z
  pub answers : (old : M) (line : List ℕ) (flow : Flow) (reply : List ℕ) (steps : ℕ) (new : M) → m.answers old line flow reply steps new → R old new
  pub works : (old : M) (steps : ℕ) (new : M) → m.works old steps new → R old new
  pub fails : (old : M) (line : List ℕ) (steps : ℕ) (new : M) → m.fails old line steps new → R old new

same : {M : Type 0} (m : Behaviour M) (R : M → M → Type 0) → Keeps m R → (from to : M) → to ≡ from → R from to
same m R keeps from to is = subst (λ s. R from s) (sym is) (keeps.none from)

follows-keeps : {M : Type 0} (m : Behaviour M) (R : M → M → Type 0) → Keeps m R → (flow : Flow) (answered : M) (work : ℕ) (next : M) → Follows m flow answered work next → R answered next
follows-keeps m R keeps GoOn answered work next follows = same m R keeps answered next follows.1
follows-keeps m R keeps WorkOn answered work next follows = keeps.works answered work next follows
follows-keeps m R keeps Stop answered work next follows = absurd follows

pub went-keeps : {M : Type 0} (m : Behaviour M) (R : M → M → Type 0) → Keeps m R → (start now : M) (exchanges : List (Exchange M)) → GoesThrough m start exchanges now → R start now
went-keeps m R keeps start now [] went = same m R keeps start now went
went-keeps m R keeps start now (exchange ∷ exchanges) went =
    keeps.both start exchange.answered now (keeps.answers start exchange.line exchange.flow exchange.reply exchange.steps exchange.answered went.0)
    (keeps.both exchange.answered exchange.next now (follows-keeps m R keeps exchange.flow exchange.answered exchange.work exchange.next went.1) (went-keeps m R keeps exchange.next now exchanges went.2))

close-keeps : {M : Type 0} (m : Behaviour M) (R : M → M → Type 0) → Keeps m R → (status : Ending) (from now : M) (steps : ℕ) (told written : Option (List ℕ)) (reader : Reader) (left_old left : Option (List ℕ)) (read : List ℕ) (lines : List (List ℕ))
    → Closes m status from now steps told written reader left_old left read lines → R from now
close-keeps m R keeps ending.Done from now steps told written reader left_old left read lines closes = same m R keeps from now closes.1
close-keeps m R keeps ending.Stopped from now steps told written reader left_old left read lines closes = keeps.answers from closes.0 Stop closes.2.0 steps now closes.2.1
close-keeps m R keeps ending.ReadFault from now steps told written reader left_old left read lines closes = same m R keeps from now closes.1
close-keeps m R keeps ending.InputLimit from now steps told written reader left_old left read lines closes = same m R keeps from now closes.1
close-keeps m R keeps ending.WriteFault from now steps told written reader left_old left read lines closes =
    elim closes [ inl at ↦ keeps.answers from at.0 at.2.0 at.2.1 steps now at.2.2 | inr at ↦ same m R keeps from now at.1 ]
close-keeps m R keeps ending.OutOfMemory from now steps told written reader left_old left read lines closes =
    elim closes [ inl at ↦ keeps.fails from at.0 steps now at.2.0 | inr at ↦ same m R keeps from now at.1 ]

pub looped-keeps : {M : Type 0} {m : Behaviour M} {start now : M} {status : Ending} {reader : Reader} {left_old left : Option (List ℕ)} {done : List (List ℕ)} {written_old written : Option (List ℕ)} {steps_old steps : ℕ}
    → Looped m start now status reader left_old left done written_old written steps_old steps → (R : M → M → Type 0) → Keeps m R → R start now
looped-keeps {m = m} {start = start} {now = now} {status = status} {reader = reader} {left_old = left_old} {left = left} {written = written} l R keeps =
    keeps.both start l.from now (went-keeps m R keeps start l.from l.exchanges l.went) (close-keeps m R keeps status l.from now l.more l.told written reader left_old left l.read _ l.closes)
