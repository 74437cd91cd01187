-- The tables that a reader notes have names without blanks, newlines and commas.
use Rattle.std.proofs.Common.{◌≡◌, ℕ, ◌+◌, ◌&&◌, ◌||◌, ◌==◌, Bool, true, false, not, nat_lt, nat_le, if◌then◌else◌, length, List, [], ◌∷◌, ◌++◌, Option, Some, None, Result, Ok, Err, is_some, bytes_eq, refl, sym, ap, ◌∙◌, subst, true≢false}
use Rattle.std.specs.Prelude.{ℤ, pos, replicate, slice_set}
use Rattle.std.specs.List.{AllByRecursion, list_all}
use Rattle.std.specs.Char.{is_ascii_lowercase}
use Rattle.std.proofs.lemmas.Slice.Eq.{bytes_eq-Decides}
use Rattle.scc_text.specs.declared.command.Command.TheVariants.{Table, Put}
use Rattle.scc_text.specs.declared.words.Span.{Span}
use Rattle.txn_runs.specs.declared.program.TableRef.{TableRef}
use Rattle.txn_names.specs.Word.{is_word_byte, is_word, is_name, is_reserved, is_table_name}
use Rattle.txn_names.specs.Tables.{Named, items_of, table_named, table_from, added}
use Rattle.txn_names.specs.Refusal.{add_refusal}
use Rattle.txn_names.specs.declared.refusal.NameRefusal.{NameRefusal}
use Rattle.txn_names.specs.declared.refusal.NameRefusal.TheVariants.{Name, Twice, Full}
use Rattle.scc_setup.specs.Opening.{Opening, text_at, opening_after, table_by, put_by}
use Rattle.report_text.proofs.Cuts.{IsWithout}

abbrev pub IsPlain : List ℕ → Type 0
IsPlain name = IsWithout 10 name × IsWithout 32 name × IsWithout 44 name

abbrev pub ArePlain : List Named → Type 0
ArePlain names = AllByRecursion (λ (t : Named). IsPlain t.0) names

both : (x y : Bool) → (x && y) ≡ true → (x ≡ true) × (y ≡ true)
both true y h = (refl, h)
both false y h = absurd (true≢false (sym h))

word-without : (s : ℕ) → is_word_byte s ≡ false → (bs : List ℕ) → list_all is_word_byte bs ≡ true → IsWithout s bs
word-without s apart [] h = tt
word-without s apart (b ∷ bs) h =
    let two = both (is_word_byte b) (list_all is_word_byte bs) h in
    (λ same. true≢false (sym two.0 ∙ ap is_word_byte same ∙ apart), word-without s apart bs two.1)

name-without : (s : ℕ) → is_ascii_lowercase s ≡ false → is_word_byte s ≡ false → (bs : List ℕ) → is_word bs ≡ true → IsWithout s bs
name-without s first apart [] h = tt
name-without s first apart (b ∷ bs) h =
    let two = both (is_ascii_lowercase b) (list_all is_word_byte bs) h in
    (λ same. true≢false (sym two.0 ∙ ap is_ascii_lowercase same ∙ first), word-without s apart bs two.1)

name-plain : (name : List ℕ) → is_table_name name ≡ true → IsPlain name
name-plain name h =
    let word = (both (is_word name) (not (is_reserved name)) (both (is_name name) (nat_le (length name) 16) h).0).0 in
    (name-without 10 refl refl name word, name-without 32 refl refl name word, name-without 44 refl refl name word)

added-plain : (names : List Named) (name : List ℕ) (size : ℕ) → add_refusal names name size ≡ None → IsPlain name
added-plain names name size e = go (is_table_name name) refl e
  where
    go : (b : Bool) → is_table_name name ≡ b
        → (if not b then Some Name else (if is_some (table_named names name) then Some Twice else (if (length names == 16) || nat_lt 1024 (items_of names + size) then Some Full else None))) ≡ None
        → IsPlain name
    go true is e = name-plain name is
    go false is e = absurd (cc)

found-from : (number base : ℕ) (names : List Named) (name : List ℕ) (table : TableRef) → table_from number base names name ≡ Some table → ArePlain names → IsPlain name
found-from number base [] name table e h = absurd (cc)
found-from number base (t ∷ names) name table e h =
    go (bytes_eq name t.0) refl (λ later. found-from (number + 1) (base + t.1) names name table later h.1) e
  where
    go : (b : Bool) → bytes_eq name t.0 ≡ b → (table_from (number + 1) (base + t.1) names name ≡ Some table → IsPlain name)
        → (if b then Some (record { number = number; base = base; size = t.1 }) else table_from (number + 1) (base + t.1) names name) ≡ Some table → IsPlain name
    go true is more e = subst IsPlain (sym ((bytes_eq-Decides name t.0).0 is)) h.0
    go false is more e = more e

-- the name of a table that there is
pub found-plain : (names : List Named) (name : List ℕ) (table : TableRef) → table_named names name ≡ Some table → ArePlain names → IsPlain name
found-plain names name table e h = found-from 0 0 names name table e h

plain-append : (names more : List Named) → ArePlain names → ArePlain more → ArePlain (names ++ more)
plain-append [] more h k = k
plain-append (t ∷ names) more h k = (h.0, plain-append names more h.1 k)

same-names : (r : Result Opening ℕ) (x p : Opening) → r ≡ Ok x → r ≡ Ok p → ArePlain x.names → ArePlain p.names
same-names r x p e d h = let two : Ok x ≡ Ok p = sym e ∙ d in let same : x ≡ p = cc in subst (λ (y : Opening). ArePlain y.names) same h

-- An accepted `table` or `put`: the name is plain, and so are all from then on.
abbrev pub Sets : Opening → List ℕ → Type 0
Sets p name = IsPlain name × ArePlain p.names

pub table-plain : (o p : Opening) (line : List ℕ) (name : Span) (size : ℕ) → opening_after o line (Table name size) ≡ Ok p → ArePlain o.names → Sets p (text_at line name)
table-plain o p line name size e h = go (add_refusal o.names (text_at line name) size) refl e
  where
    go : (r : Option NameRefusal) → add_refusal o.names (text_at line name) size ≡ r → table_by o (text_at line name) size r ≡ Ok p → Sets p (text_at line name)
    go None is e =
        let plain : IsPlain (text_at line name) = added-plain o.names (text_at line name) size is in
        let after : Opening = record { names = added (text_at line name) size o.names; tables = o.tables ++ replicate size (pos 0) } in
        (plain, same-names (Ok after) after p refl e (plain-append o.names ((text_at line name, size) ∷ []) h (plain, tt)))
    go (Some refusal) is e = absurd (cc)

pub put-plain : (o p : Opening) (line : List ℕ) (name : Span) (index : ℕ) (value : ℤ) → opening_after o line (Put name index value) ≡ Ok p → ArePlain o.names → Sets p (text_at line name)
put-plain o p line name index value e h = go (table_named o.names (text_at line name)) refl e
  where
    after : TableRef → Opening
    after table = record o { tables = slice_set o.tables (table.base + index) value }

    refusal : Result Opening ℕ
    refusal = Err 31

    within : (table : TableRef) (b : Bool) → (if b then Ok (after table) else refusal) ≡ Ok p → ArePlain p.names
    within table true e = same-names (Ok (after table)) (after table) p refl e h
    within table false e = let refused : refusal ≡ Ok p = e in absurd (cc)

    go : (r : Option TableRef) → table_named o.names (text_at line name) ≡ r → put_by o index value r ≡ Ok p → Sets p (text_at line name)
    go None is e = absurd (cc)
    go (Some table) is e = (found-plain o.names (text_at line name) table is h, within table (nat_lt index table.size) e)
