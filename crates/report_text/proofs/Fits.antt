-- What a report needs so that it can be read back: names without a newline, and small numbers.
use Rattle.std.proofs.Common.{◌≡◌, ◌≢◌, ◌<◌, ◌^◌, ℕ, suc, ◌&&◌, ◌||◌, ◌==◌, Bool, true, false, not, nat_le, length, List, [], ◌∷◌, refl, sym, ap, ◌∙◌, true≢false, arith, eq-eqb}
use Rattle.std.specs.List.{All, AllByRecursion, list_all, list_any}
use Rattle.std.specs.Char.{is_ascii_lowercase}
use Rattle.txn_names.specs.Word.{is_word_byte, is_word, is_name, is_reserved, is_table_name}
use Rattle.txn_names.specs.Tables.{Named, IsTable}
use Rattle.report_text.specs.Order.{NamesEachOnce, NamesFit, NumbersFit}

-- Names have no newline.

both : (x y : Bool) → (x && y) ≡ true → (x ≡ true) × (y ≡ true)
both true y h = (refl, h)
both false y h = absurd (true≢false (sym h))

bytes-fit : (bytes : List ℕ) → list_all is_word_byte bytes ≡ true → AllByRecursion (λ byte. byte ≢ 10) bytes
bytes-fit [] h = tt
bytes-fit (b ∷ bytes) h =
    let two = both (is_word_byte b) (list_all is_word_byte bytes) h in
    (λ same. true≢false (sym two.0 ∙ ap is_word_byte same), bytes-fit bytes two.1)

word-fits : (bytes : List ℕ) → is_word bytes ≡ true → AllByRecursion (λ byte. byte ≢ 10) bytes
word-fits [] h = tt
word-fits (b ∷ bytes) h =
    let two = both (is_ascii_lowercase b) (list_all is_word_byte bytes) h in
    (λ same. true≢false (sym two.0 ∙ ap is_ascii_lowercase same), bytes-fit bytes two.1)

name-fits : (name : List ℕ) → is_table_name name ≡ true → AllByRecursion (λ byte. byte ≢ 10) name
name-fits name h = word-fits name (both (is_word name) (not (is_reserved name)) (both (is_name name) (nat_le (length name) 16) h).0).0

pub tables-fit : (names : List Named) → All IsTable names → NamesFit names
tables-fit [] h = tt
tables-fit (t ∷ names) h = (name-fits t.0 (h 0 t (omega arith)).name, tables-fit names (λ k d le. h (suc k) d (omega (arith, le))))

-- Numbers are small.

or-true : (b : Bool) → (b || true) ≡ true
or-true true = refl
or-true false = refl

pub numbers-fit : (order : List ℕ) → ((t : ℕ) → list_any (λ u. u == t) order ≡ true → t < 2 ^ 64) → NumbersFit order
numbers-fit [] h = tt
numbers-fit (t ∷ order) h =
    (h t (ap (λ b. b || list_any (λ u. u == t) order) (eq-eqb t t refl)), numbers-fit order (λ u is. h u (ap (λ b. (t == u) || b) is ∙ or-true (t == u))))

pub once-fits : (count : ℕ) (order : List ℕ) → count < 2 ^ 64 → NamesEachOnce count order → NumbersFit order
once-fits count order few once = numbers-fit order (λ t there. let within = (once.each t).0 there in omega (arith, within.1, few))
