-- Each reply is made of whole lines. Only its first line can be told from the lines behind another reply's first line.
use Rattle.std.proofs.Common.{◌≡◌, ◌⊎◌, inl, inr, ℕ, zero, suc, ◌-◌, Bool, true, false, nat_lt, if◌then◌else◌, List, [], ◌∷◌, ◌++◌, length, map, Option, Some, None, refl, sym, ap, ◌∙◌, arith, append_assoc}
use Rattle.std.specs.Prelude.{ℤ, pos, codes, decimal, slice_index_or}
use Rattle.std.specs.Ordering.{int_eq}
use Rattle.std.specs.Fmt.{signed_decimal}
use Rattle.std.specs.List.{AllByRecursion}
use Rattle.txn_names.specs.Tables.{Named}
use Rattle.txn_syntax.specs.declared.refusal.Which.{Which}
use Rattle.txn_syntax.specs.declared.refusal.Which.TheVariants as which
use Rattle.txn_runs.specs.Run.{Writes}
use Rattle.access_sets.specs.Entries.{entries}
use Rattle.scc_replies.specs.Lines.{number_line, refuse_line}
use Rattle.scc_replies.specs.Unread.{refuse_at_line, limit_word, refuse_limit_line}
use Rattle.scc_setup.specs.Settings.{table_line, put_line}
use Rattle.scc_script.specs.Ended.{Ended, ended_text, start_lines}
use Rattle.scc_script.specs.Fields.{fields, register_field, register_fields, place_name, item_name, item_field, item_fields, emit_fields, waiting_line}
use Rattle.serial_text.specs.Forms.{shadow_word, place_words, IsStanding, Shown, optimistic_line, guard_lines, ShowsShadows}
use Rattle.serial_text.specs.Notes.{accepted_line}
use Rattle.report_text.proofs.Cuts.{IsWithout, head, tail, decimal-without, signed-without, without-append, lacks, lacking, unlines, AreLines}
use Rattle.report_text.proofs.Words.{row-without}
use Rattle.serial_text.proofs.Reading.{rows, commit_row, resume_row, start_rows, started-text, started-rows, ended-text, ended-rows, drain_rows, all_rows}
use Rattle.serial_text.proofs.Behind.{letters, three, row_start, past_word, third, third-more, third-is, third-other, IsBehind, shown_front, optimistic-third, guard-third, resume-behind, start-behind}
use Rattle.serial_text.proofs.PlainNames.{ArePlain, IsPlain}

-- one line, that stands behind no other reply's first line
pub record IsLine (reply : List ℕ) : Type 0 where
  pub line : List ℕ
  pub told : reply ≡ line ++ 10 ∷ []
  pub whole : IsWithout 10 line
  pub start : three line ≡ false
  pub apart : row_start line ≡ false

-- such a line, or one of `show`, and the lines behind it
pub record IsPiece (reply : List ℕ) : Type 0 where
  pub line : List ℕ
  pub behind : List (List ℕ)
  pub told : reply ≡ unlines (line ∷ behind)
  pub whole : AreLines (line ∷ behind)
  pub start : (three line ≡ false) ⊎ (third line ≡ 111)
  pub apart : row_start line ≡ false
  pub others : AllByRecursion IsBehind behind

pub piece-of : (reply : List ℕ) → IsLine reply → IsPiece reply
piece-of reply h = record { line = h.line; behind = []; told = h.told; whole = (h.whole, tt); start = inl h.start; apart = h.apart; others = tt }

-- One line.

word-line : (word : List ℕ) (n : ℕ) → lacks 10 word ≡ true → three (word ++ decimal n) ≡ false → row_start (word ++ decimal n) ≡ false → IsLine (number_line word n)
word-line word n plain start apart = record { line = word ++ decimal n; told = refl; whole = row-without word n plain; start = start; apart = apart }

pub refuse-line : (code : ℕ) → IsLine (refuse_line code)
unfolding lacks three letters head tail row_start past_word
refuse-line code = word-line (codes "refuse ") code refl refl refl

pub run-line : (steps : ℕ) → IsLine (number_line (codes "run ") steps)
unfolding lacks three letters head tail row_start past_word
run-line steps = word-line (codes "run ") steps refl refl refl

pub seal-line : IsLine (codes "seal\n")
unfolding lacks three letters head tail row_start past_word
seal-line = record { line = codes "seal"; told = refl; whole = lacking 10 (codes "seal") refl; start = refl; apart = refl }

pub set-line : (name : List ℕ) (size : ℕ) → IsPlain name → IsLine (table_line name size)
unfolding lacks three letters head tail row_start past_word
set-line name size h = record {
  line = codes "table " ++ name ++ (codes " " ++ decimal size);
  told = sym (append_assoc (codes "table " ++ name) (codes " " ++ decimal size) (10 ∷ []));
  whole = without-append 10 (codes "table " ++ name) (codes " " ++ decimal size) (without-append 10 (codes "table ") name (lacking 10 (codes "table ") refl) h.0) (row-without (codes " ") size refl);
  start = refl;
  apart = refl;
}

pub put-line : (name : List ℕ) (index : ℕ) (value : ℤ) → IsPlain name → IsLine (put_line name index value)
unfolding lacks three letters head tail row_start past_word
put-line name index value h = record {
  line = codes "put " ++ name ++ codes " " ++ decimal index ++ codes " " ++ signed_decimal value;
  told = refl;
  whole =
      without-append 10 (codes "put " ++ name ++ codes " " ++ decimal index ++ codes " ") (signed_decimal value)
      (without-append 10 (codes "put " ++ name ++ codes " " ++ decimal index) (codes " ")
      (without-append 10 (codes "put " ++ name ++ codes " ") (decimal index)
      (without-append 10 (codes "put " ++ name) (codes " ") (without-append 10 (codes "put ") name (lacking 10 (codes "put ") refl) h.0) (lacking 10 (codes " ") refl))
      (decimal-without 10 index (omega arith)))
      (lacking 10 (codes " ") refl))
      (signed-without value);
  start = refl;
  apart = refl;
}

pub begun-line : (txn : ℕ) (started : Bool) → IsLine (accepted_line txn started)
unfolding lacks three letters head tail row_start past_word
begun-line txn true = record {
  line = codes "begin " ++ decimal txn ++ codes " started";
  told = sym (append_assoc (codes "begin " ++ decimal txn) (codes " started") (10 ∷ []));
  whole = without-append 10 (codes "begin " ++ decimal txn) (codes " started") (row-without (codes "begin ") txn refl) (lacking 10 (codes " started") refl);
  start = refl;
  apart = refl;
}
begun-line txn false = record {
  line = codes "begin " ++ decimal txn ++ codes " waiting";
  told = sym (append_assoc (codes "begin " ++ decimal txn) (codes " waiting") (10 ∷ []));
  whole = without-append 10 (codes "begin " ++ decimal txn) (codes " waiting") (row-without (codes "begin ") txn refl) (lacking 10 (codes " waiting") refl);
  start = refl;
  apart = refl;
}

pub unread-at-line : (code at : ℕ) → IsLine (refuse_at_line code at)
unfolding lacks three letters head tail row_start past_word
unread-at-line code at = record {
  line = codes "refuse " ++ decimal code ++ (codes " " ++ decimal at);
  told = sym (append_assoc (codes "refuse " ++ decimal code) (codes " " ++ decimal at) (10 ∷ []));
  whole = without-append 10 (codes "refuse " ++ decimal code) (codes " " ++ decimal at) (row-without (codes "refuse ") code refl) (row-without (codes " ") at refl);
  start = refl;
  apart = refl;
}

limit-without : (w : Which) → IsWithout 10 (limit_word w)
unfolding lacks
limit-without which.Literal = lacking 10 (codes "literal") refl
limit-without which.Loops = lacking 10 (codes "loops") refl
limit-without which.Statements = lacking 10 (codes "statements") refl
limit-without which.Depth = lacking 10 (codes "depth") refl
limit-without which.Steps = lacking 10 (codes "steps") refl
limit-without which.Emits = lacking 10 (codes "emits") refl

pub unread-limit-line : (w : Which) → IsLine (refuse_limit_line w)
unfolding lacks three letters head tail row_start past_word
unread-limit-line w = record {
  line = codes "refuse 15 " ++ limit_word w;
  told = refl;
  whole = without-append 10 (codes "refuse 15 ") (limit_word w) (lacking 10 (codes "refuse 15 ") refl) (limit-without w);
  start = refl;
  apart = refl;
}

shadow-without : (guard : Option ℕ) → IsWithout 10 (shadow_word guard)
unfolding lacks
shadow-without None = lacking 10 (codes "o") refl
shadow-without (Some guard) = decimal-without 10 guard (omega arith)

place-without : (word : List ℕ) (txn : ℕ) (guard : Option ℕ) (position : ℕ) → lacks 10 word ≡ true → IsWithout 10 (place_words word txn guard position)
unfolding lacks
place-without word txn guard position plain =
    without-append 10 (word ++ decimal txn ++ codes " " ++ shadow_word guard ++ codes " at ") (decimal position)
    (without-append 10 (word ++ decimal txn ++ codes " " ++ shadow_word guard) (codes " at ")
    (without-append 10 (word ++ decimal txn ++ codes " ") (shadow_word guard)
    (without-append 10 (word ++ decimal txn) (codes " ") (row-without word txn plain) (lacking 10 (codes " ") refl)) (shadow-without guard))
    (lacking 10 (codes " at ") refl))
    (decimal-without 10 position (omega arith))

pub step-line : (txn : ℕ) (guard : Option ℕ) (position : ℕ) → IsLine (place_words (codes "step ") txn guard position ++ 10 ∷ [])
unfolding lacks three letters head tail row_start past_word
step-line txn guard position = record {
  line = place_words (codes "step ") txn guard position;
  told = refl;
  whole = place-without (codes "step ") txn guard position refl;
  start = refl;
  apart = refl;
}

-- Commit and withdraw.

behind-append : (a b : List (List ℕ)) → AllByRecursion IsBehind a → AllByRecursion IsBehind b → AllByRecursion IsBehind (a ++ b)
behind-append [] b ha hb = hb
behind-append (l ∷ a) b ha hb = (ha.0, behind-append a b ha.1 hb)

resumes-behind : (rs : List (ℕ × ℕ)) → AllByRecursion IsBehind (map resume_row rs)
unfolding resume_row
resumes-behind [] = tt
resumes-behind (r ∷ rs) = (resume-behind r.0 r.1, resumes-behind rs)

starts-behind : (o : Option ℕ) → AllByRecursion IsBehind (start_rows o)
unfolding start_rows
starts-behind None = tt
starts-behind (Some t) = (start-behind t, tt)

pub commit-piece : (e : Ended) → IsPiece (ended_text e)
unfolding rows commit_row three letters head tail row_start past_word
commit-piece e = record {
  line = commit_row e;
  behind = map resume_row e.resumed ++ start_rows e.starts;
  told = ended-text e;
  whole = ended-rows e;
  start = inl refl;
  apart = refl;
  others = behind-append (map resume_row e.resumed) (start_rows e.starts) (resumes-behind e.resumed) (starts-behind e.starts);
}

pub withdraw-piece : (txn : ℕ) (starts : Option ℕ) → IsPiece (number_line (codes "withdraw ") txn ++ start_lines starts)
unfolding lacks three letters head tail row_start past_word
withdraw-piece txn starts = record {
  line = codes "withdraw " ++ decimal txn;
  behind = start_rows starts;
  told = append_assoc (codes "withdraw " ++ decimal txn) (10 ∷ []) (start_lines starts) ∙ ap (λ x. codes "withdraw " ++ decimal txn ++ 10 ∷ x) (started-text starts);
  whole = (row-without (codes "withdraw ") txn refl, started-rows starts);
  start = inl refl;
  apart = refl;
  others = starts-behind starts;
}

-- Show.

register-without : (registers : List ℤ) (n many : ℕ) → IsWithout 10 (register_fields registers n many)
unfolding register_fields lacks
register-without registers n zero = tt
register-without registers n (suc many) =
    without-append 10 (register_field n (slice_index_or registers n (pos 0))) (register_fields registers (suc n) many)
    (go (slice_index_or registers n (pos 0)) (int_eq (slice_index_or registers n (pos 0)) (pos 0))) (register-without registers (suc n) many)
  where
    go : (value : ℤ) (none : Bool) → IsWithout 10 (if none then [] else codes " r" ++ decimal n ++ codes "=" ++ signed_decimal value)
    go value true = tt
    go value false =
        without-append 10 (codes " r" ++ decimal n ++ codes "=") (signed_decimal value)
        (without-append 10 (codes " r" ++ decimal n) (codes "=") (row-without (codes " r") n refl) (lacking 10 (codes "=") refl)) (signed-without value)

item-without : (names : List Named) (item : ℕ) → ArePlain names → IsWithout 10 (item_name names item)
unfolding item_name lacks
item-without [] item h = tt
item-without (table ∷ names) item h = go (nat_lt item table.1) (item-without names (item - table.1) h.1)
  where
    go : (here : Bool) → IsWithout 10 (item_name names (item - table.1)) → IsWithout 10 (if here then place_name table.0 item else item_name names (item - table.1))
    go true more =
        without-append 10 (table.0 ++ codes "[" ++ decimal item) (codes "]")
        (without-append 10 (table.0 ++ codes "[") (decimal item) (without-append 10 table.0 (codes "[") h.0.0 (lacking 10 (codes "[") refl)) (decimal-without 10 item (omega arith)))
        (lacking 10 (codes "]") refl)
    go false more = more

items-without : (names : List Named) (es : List (ℕ × ℤ)) → ArePlain names → IsWithout 10 (item_fields names es)
unfolding lacks
items-without names [] h = tt
items-without names (e ∷ es) h =
    without-append 10 (item_field names e) (item_fields names es)
    (without-append 10 (codes " " ++ item_name names e.0 ++ codes "=") (signed_decimal e.1)
    (without-append 10 (codes " " ++ item_name names e.0) (codes "=") (without-append 10 (codes " ") (item_name names e.0) (lacking 10 (codes " ") refl) (item-without names e.0 h)) (lacking 10 (codes "=") refl))
    (signed-without e.1)) (items-without names es h)

emits-without : (vs : List ℤ) → IsWithout 10 (emit_fields vs)
unfolding lacks
emits-without [] = tt
emits-without (v ∷ vs) =
    without-append 10 (codes " emit=" ++ signed_decimal v) (emit_fields vs)
    (without-append 10 (codes " emit=") (signed_decimal v) (lacking 10 (codes " emit=") refl) (signed-without v)) (emits-without vs)

fields-without : (names : List Named) (registers : List ℤ) (writes : Writes) (emits : List ℤ) → ArePlain names → IsWithout 10 (fields names registers writes emits)
unfolding fields
fields-without names registers writes emits h =
    without-append 10 (register_fields registers 0 16 ++ item_fields names (entries 0 writes)) (emit_fields emits)
    (without-append 10 (register_fields registers 0 16) (item_fields names (entries 0 writes)) (register-without registers 0 16) (items-without names (entries 0 writes) h)) (emits-without emits)

standing-without : (word : List ℕ) → IsStanding word → IsWithout 10 word
unfolding lacks
standing-without word (inl e) = rw e (lacking 10 (codes " runnable") refl)
standing-without word (inr (inl e)) = rw e (lacking 10 (codes " blocked") refl)
standing-without word (inr (inr e)) = rw e (lacking 10 (codes " ended") refl)

-- the rest of a line of `show`
abbrev shown_rest : List Named → Shown → List ℕ
shown_rest names x = fields names x.registers x.writes x.emits

abbrev optimistic_row : List Named → ℕ → Shown → List ℕ
optimistic_row names txn x = place_words (codes "shadow ") txn None x.position ++ x.standing ++ shown_rest names x

abbrev guard_row : List Named → ℕ → ℕ × (ℕ × Shown) → List ℕ
guard_row names txn g = place_words (codes "shadow ") txn (Some g.0) g.1.1.position ++ (codes " point " ++ decimal g.1.0) ++ g.1.1.standing ++ shown_rest names g.1.1

module _ (names : List Named) (h : ArePlain names) (txn : ℕ) where
  optimistic-without : (x : Shown) → IsWithout 10 (optimistic_row names txn x)
  unfolding lacks
  optimistic-without x =
      without-append 10 (place_words (codes "shadow ") txn None x.position ++ x.standing) (shown_rest names x)
      (without-append 10 (place_words (codes "shadow ") txn None x.position) x.standing (place-without (codes "shadow ") txn None x.position refl) (standing-without x.standing x.known))
      (fields-without names x.registers x.writes x.emits h)

  optimistic-start : (x : Shown) → third (optimistic_row names txn x) ≡ 111
  optimistic-start x =
      third-is 111 (optimistic_row names txn x)
      (third-more 111 (place_words (codes "shadow ") txn None x.position ++ x.standing) (shown_rest names x)
      (third-more 111 (place_words (codes "shadow ") txn None x.position) x.standing (third-more 111 (shown_front txn (codes "o")) (decimal x.position) (optimistic-third txn))))

  guard-without : (g : ℕ × (ℕ × Shown)) → IsWithout 10 (guard_row names txn g)
  unfolding lacks
  guard-without g =
      let x : Shown = g.1.1 in
      let place : List ℕ = place_words (codes "shadow ") txn (Some g.0) x.position in
      without-append 10 (place ++ (codes " point " ++ decimal g.1.0) ++ x.standing) (shown_rest names x)
      (without-append 10 (place ++ (codes " point " ++ decimal g.1.0)) x.standing
      (without-append 10 place (codes " point " ++ decimal g.1.0) (place-without (codes "shadow ") txn (Some g.0) x.position refl) (row-without (codes " point ") g.1.0 refl))
      (standing-without x.standing x.known))
      (fields-without names x.registers x.writes x.emits h)

  guard-is-behind : (g : ℕ × (ℕ × Shown)) → IsBehind (guard_row names txn g)
  unfolding three letters head tail
  guard-is-behind g =
      let x : Shown = g.1.1 in
      let place : List ℕ = place_words (codes "shadow ") txn (Some g.0) x.position in
      let front = guard-third txn g.0 in
      record {
        letters = refl;
        other =
            third-other front.0 (guard_row names txn g) front.1
            (third-more front.0 (place ++ (codes " point " ++ decimal g.1.0) ++ x.standing) (shown_rest names x)
            (third-more front.0 (place ++ (codes " point " ++ decimal g.1.0)) x.standing
            (third-more front.0 place (codes " point " ++ decimal g.1.0) (third-more front.0 (shown_front txn (decimal g.0)) (decimal x.position) front.2))));
      }

  guards-text : (gs : List (ℕ × (ℕ × Shown))) → guard_lines names txn gs ≡ unlines (map (guard_row names txn) gs)
  guards-text [] = refl
  guards-text (g ∷ gs) = append_assoc (guard_row names txn g) (10 ∷ []) (guard_lines names txn gs) ∙ ap (λ x. guard_row names txn g ++ 10 ∷ x) (guards-text gs)

  guards-lines : (gs : List (ℕ × (ℕ × Shown))) → AreLines (map (guard_row names txn) gs)
  guards-lines [] = tt
  guards-lines (g ∷ gs) = (guard-without g, guards-lines gs)

  guards-behind : (gs : List (ℕ × (ℕ × Shown))) → AllByRecursion IsBehind (map (guard_row names txn) gs)
  guards-behind [] = tt
  guards-behind (g ∷ gs) = (guard-is-behind g, guards-behind gs)

  shadows-piece : (x : Shown) (gs : List (ℕ × (ℕ × Shown))) → IsPiece (optimistic_line names txn x ++ guard_lines names txn gs)
  unfolding row_start past_word head
  shadows-piece x gs = record {
    line = optimistic_row names txn x;
    behind = map (guard_row names txn) gs;
    told = append_assoc (optimistic_row names txn x) (10 ∷ []) (guard_lines names txn gs) ∙ ap (λ y. optimistic_row names txn x ++ 10 ∷ y) (guards-text gs);
    whole = (optimistic-without x, guards-lines gs);
    start = inr (optimistic-start x);
    apart = refl;
    others = guards-behind gs;
  }

  pub show-piece : (reply : List ℕ) → ShowsShadows names txn reply → IsPiece reply
  show-piece reply s = rw s.told (shadows-piece s.first s.others)

pub waiting-piece : (txn : ℕ) → IsPiece (waiting_line txn)
unfolding lacks three letters head tail row_start past_word
waiting-piece txn = record {
  line = codes "show " ++ decimal txn ++ codes " waiting";
  behind = [];
  told = sym (append_assoc (codes "show " ++ decimal txn) (codes " waiting") (10 ∷ []));
  whole = (without-append 10 (codes "show " ++ decimal txn) (codes " waiting") (row-without (codes "show ") txn refl) (lacking 10 (codes " waiting") refl), tt);
  start = inl refl;
  apart = refl;
  others = tt;
}

-- Drain.

-- a drain's lines begin with a commit or with `drain`
pub record Opens (lines : List (List ℕ)) : Type 0 where
  pub line : List ℕ
  pub more : List (List ℕ)
  pub is : lines ≡ line ∷ more
  pub start : three line ≡ false
  pub apart : row_start line ≡ false

pub drain-opens : (es : List Ended) → Opens (drain_rows es)
unfolding drain_rows all_rows rows commit_row three letters head tail row_start past_word
drain-opens [] = record { line = codes "drain " ++ decimal 0; more = []; is = refl; start = refl; apart = refl }
drain-opens (e ∷ es) = record {
  line = commit_row e;
  more = map resume_row e.resumed ++ start_rows e.starts ++ all_rows es ++ (codes "drain " ++ decimal (length (e ∷ es))) ∷ [];
  is = refl;
  start = refl;
  apart = refl;
}
