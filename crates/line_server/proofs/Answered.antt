-- A turn in which a wish is answered.
use Rattle.std.proofs.Common.{◌≡◌, ◌<◌, ◌≤◌, inl, inr, ℕ, Bool, true, false, nat_lt, if◌then◌else◌, List, [], ◌∷◌, ◌++◌, length, map, Option, Some, None, IsSome, Result, Ok, Err, OnOk, OnErr, refl, sym, ap, ◌∙◌, subst, append-nil, arith, ltb-true}
use Rattle.std.proofs.lemmas.Bool.Decides.{nat_tests}
use mathlib.Core.List.{IsPrefix}
use Rattle.journal_core.specs.declared.entry.Entry.{Entry}
use Rattle.atomic_table.specs.Seated.{TableId}
use Rattle.turn_cell.specs.declared.Kept.{Ghosts}
use Rattle.turn_cell.specs.declared.cell.Pass.{Pass}
use Rattle.turn_cell.proofs.Prefixes.{prefix_self}
use Rattle.shadow_forest.specs.declared.forest.Forest.{Forest}
use Rattle.shadow_forest.specs.View.{View}
use Rattle.shadow_forest.specs.Listed.{listed, happened, items_in, journal_in}
use Rattle.shadow_forest.specs.declared.kept.Item.{Item}
use Rattle.shadow_worker.proofs.Listing.{journal-listed, items-longer}
use Rattle.scc_text.specs.declared.command.Command.{Command}
use Rattle.scc_text.specs.declared.command.Dialect.TheVariants as dialects
use Rattle.scc_text.specs.Command.{command_of}
use Rattle.line_loop.specs.declared.flow.Flow.{Flow}
use Rattle.line_loop.specs.declared.flow.Flow.TheVariants.{GoOn, WorkOn}
use Rattle.txn_names.specs.Tables.{Named}
use Rattle.line_server.specs.Answers.{Answer, line_command, is_blank, is_quit, answer_to}
use Rattle.line_server.specs.Talks.{opening_in, answer_at}
use Rattle.line_server.specs.Stands.{Stand, stand, seats_in, cell_in, IsSameSession, HasTurned, HasTurnedOr, flow_of, AnswersBy, Answers, Fails}
use Rattle.line_server.specs.Wishes.{Fits, wish_answer, wish_at, IsWishOf, is_quit_wish, IsAddedOr}
use Rattle.line_server.specs.declared.wish.Wish.{Wish}
use Rattle.line_server.specs.declared.wish.Wish.TheVariants as wish

-- a wish fits the forest that its turn finds
pub fits-found : (seen : List Item) (v : View) (n end : ℕ) (w : Wish) → IsPrefix seen (listed v) → items_in seen ≡ Some n → Fits n end w → Fits (length v.numbers.opening) end w
fits-found seen v n end w begins items fits =
    let there : Some (length v.numbers.opening) ≡ Some n = items-longer seen (listed v) n begins items in
    let same : n ≡ length v.numbers.opening = cc in
    subst (λ m. Fits m end w) same fits

pub added-begins : (found : List Item) (adds : List Entry) (left : List Item) → IsAddedOr found adds left → IsPrefix found left
added-begins found adds left (inl e) = (map happened adds, sym e)
added-begins found adds left (inr e) = subst (λ l. IsPrefix found l) (sym e) (prefix_self found)

-- what the wish is answered by the forest, and by the list that it stands for
pub answer-listed : (v : View) (line : List ℕ) (wish : Wish) → wish_at (listed v) line wish ≡ wish_answer v.numbers.opening v.numbers.journal line wish
answer-listed v line wish = ap (λ j. wish_answer v.numbers.opening j line wish) (journal-listed v)

pub turned-by : (seen : List Item) (turns : List (ℕ × ℕ)) (v w : View) (line : List ℕ) (wish : Wish) (seen' : List Item) (turns' : List (ℕ × ℕ)) → IsPrefix seen (listed v)
    → listed w ≡ listed v ++ map happened (wish_answer v.numbers.opening v.numbers.journal line wish).adds → seen' ≡ listed w → turns' ≡ turns ++ (length (listed v), length (listed w)) ∷ []
    → HasTurned seen turns (listed v) (wish_at (listed v) line wish).adds seen' turns'
turned-by seen turns v w line wish seen' turns' begins grew is took = record {
  began = begins;
  left = is ∙ (grew ∙ ap (λ (a : Answer). listed v ++ map happened a.adds) (sym (answer-listed v line wish)));
  turned = took ∙ ap (λ l. turns ++ (length (listed v), length l) ∷ []) (sym is);
}

pub turned-or : (seen : List Item) (turns : List (ℕ × ℕ)) (v w : View) (line : List ℕ) (wish : Wish) (seen' : List Item) (turns' : List (ℕ × ℕ)) → IsPrefix seen (listed v)
    → IsAddedOr (listed v) (wish_answer v.numbers.opening v.numbers.journal line wish).adds (listed w) → seen' ≡ listed w → turns' ≡ turns ++ (length (listed v), length (listed w)) ∷ []
    → HasTurnedOr seen turns (listed v) (wish_at (listed v) line wish).adds seen' turns'
turned-or seen turns v w line wish seen' turns' begins (inl grew) is took = inl (turned-by seen turns v w line wish seen' turns' begins grew is took)
turned-or seen turns v w line wish seen' turns' begins (inr same) is took = inr (record {
  began = begins;
  left = is ∙ (same ∙ sym (append-nil (listed v)));
  turned = took ∙ ap (λ l. turns ++ (length (listed v), length l) ∷ []) (sym is);
})

-- where two facts hold at a success, so does what follows from both
pub on_ok : {T E A B C : Type 0} (r : Result T E) → OnOk r A → OnOk r B → (A → B → C) → OnOk r C
on_ok (Ok x) a b f = f a b
on_ok (Err e) a b f = tt

-- A line is answered.

pub command-short : (line : List ℕ) → length line ≤ 8192 → line_command line ≡ command_of dialects.Session line
unfolding line_command
command-short line short = by (nat_lt 8192 (length line)) refl
  where
    by : (long : Bool) → nat_lt 8192 (length line) ≡ long → (if long then Err 11 else command_of dialects.Session line) ≡ command_of dialects.Session line
    by true e = let less : 8192 < length line = ltb-true _ _ e in absurd (omega (arith, less, short))
    by false e = refl

pub command-long : (line : List ℕ) → 8192 < length line → line_command line ≡ Err 11
unfolding line_command
command-long line long = by (nat_lt 8192 (length line)) refl
  where
    by : (b : Bool) → nat_lt 8192 (length line) ≡ b → (if b then Err 11 else command_of dialects.Session line) ≡ Err 11
    by true e = refl
    by false e = grind (arith, nat_tests, long, e)

-- what a wish is answered is what its line is
wish-answer : (names : List Named) (line : List ℕ) (command : Result Command ℕ) (wish : Wish) (found : List Item) → line_command line ≡ command → IsWishOf names line command wish
    → wish_at found line wish ≡ answer_at names found line
wish-answer names line command wish found is wanted = wanted (opening_in found) (journal_in found) ∙ ap (λ r. answer_to names (opening_in found) (journal_in found) line r) (sym is)

-- a line whose wish was answered in a turn
pub spoke : (old new : Stand) (line : List ℕ) (command : Result Command ℕ) (wish : Wish) (flow : Flow) (found : List Item) (reply : List ℕ) → line_command line ≡ command → is_blank command ≡ false → IsWishOf old.names line command wish
    → is_quit_wish wish ≡ is_quit command → flow ≡ flow_of (is_quit_wish wish) → HasTurned old.seen old.turns found (wish_at found line wish).adds new.seen new.turns → reply ≡ (wish_at found line wish).reply
    → Answers old line flow reply new
spoke old new line command wish flow found reply is blank wanted quit flow_is turned reply_is =
    subst (λ b. AnswersBy b old line flow reply new) (sym (ap is_blank is ∙ blank)) (record {
      found = found;
      turned = subst (λ (a : Answer). HasTurned old.seen old.turns found a.adds new.seen new.turns) (wish-answer old.names line command wish found is wanted) turned;
      reply_is = reply_is ∙ ap (λ (a : Answer). a.reply) (wish-answer old.names line command wish found is wanted);
      flow_is = flow_is ∙ (ap flow_of quit ∙ ap (λ r. flow_of (is_quit r)) (sym is));
    })

-- a blank line
pub passed : (old : Stand) (line : List ℕ) (command : Result Command ℕ) → line_command line ≡ command → is_blank command ≡ true → Answers old line GoOn [] old
passed old line command is blank = subst (λ b. AnswersBy b old line GoOn [] old) (sym (ap is_blank is ∙ blank)) (record { still = record { seen = refl; turns = refl }; reply_is = refl; flow_is = refl })

-- a line whose wish found no memory in its turn
pub failed : (old new : Stand) (line : List ℕ) (command : Result Command ℕ) (wish : Wish) (found : List Item) → line_command line ≡ command → is_blank command ≡ false → IsWishOf old.names line command wish
    → HasTurnedOr old.seen old.turns found (wish_at found line wish).adds new.seen new.turns → Fails old line new
failed old new line command wish found is blank wanted turned =
    inr (ap is_blank is ∙ blank, found, subst (λ (a : Answer). HasTurnedOr old.seen old.turns found a.adds new.seen new.turns) (wish-answer old.names line command wish found is wanted) turned)

-- a line that is too long was answered in a turn, in whose stead this one stood
pub spoke-long : (old new : Stand) (line other : List ℕ) (found : List Item) (reply : List ℕ) → 8192 < length line → HasTurned old.seen old.turns found (wish_at found other (wish.Refusal 11)).adds new.seen new.turns
    → reply ≡ (wish_at found other (wish.Refusal 11)).reply → Answers old line WorkOn reply new
spoke-long old new line other found reply long turned reply_is = spoke old new line (Err 11) (wish.Refusal 11) WorkOn found reply (command-long line long) refl (λ opening journal. refl) refl refl turned reply_is

pub failed-long : (old new : Stand) (line other : List ℕ) (found : List Item) → 8192 < length line → HasTurnedOr old.seen old.turns found (wish_at found other (wish.Refusal 11)).adds new.seen new.turns → Fails old line new
failed-long old new line other found long turned = failed old new line (Err 11) (wish.Refusal 11) found (command-long line long) refl (λ opening journal. refl) turned

-- another pass of the same seats and cell
pub same-pass : {g : Ghosts Forest Item} (names : List Named) (help : ℕ) (old new : Option (Pass Forest Item g)) → (cell_in new ≡ cell_in old) × (seats_in new ≡ seats_in old) → IsSameSession (stand names help old) (stand names help new)
same-pass names help old new same = record { names = refl; help = refl; seats = same.1; cell = same.0 }

pub on_err : {T E P : Type 0} (r : Result T E) → P → OnErr r P
on_err (Ok x) h = tt
on_err (Err e) h = h

-- the pass of a cell is there
pub some-in : {g : Ghosts Forest Item} {x : TableId} (pass : Option (Pass Forest Item g)) → cell_in pass ≡ Some x → IsSome pass
some-in None e = absurd (cc)
some-in (Some pass) e = refl
