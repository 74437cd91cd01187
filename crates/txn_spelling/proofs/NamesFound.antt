-- The name of a program's table is read as that table.
use Rattle.std.proofs.Common.{◌≡◌, ◌≢◌, ℕ, zero, suc, ◌+◌, ◌-◌, ◌≤◌, ◌==◌, ◌&&◌, ◌||◌, Bool, true, false, cond, not, List, [], ◌∷◌, ◌++◌, length, take, codes, Option, None, Some, refl, sym, ap, ◌∙◌, subst, arith}
use Rattle.std.specs.Prelude.{nat_le, slice_get}
use Rattle.std.specs.Char.{is_ascii_lowercase, is_ascii_digit}
use Rattle.std.specs.List.{list_all, AllPairs}
use Rattle.std.specs.Option.{option_map_or, option_map}
use Rattle.std.specs.Str.{bytes_eq}
use Rattle.std.proofs.lemmas.Bool.{eqb-true, leb-true, le-leb}
use Rattle.std.proofs.lemmas.Option.{slice_get_within, get_or_from_slice_get}
use Rattle.std.proofs.lemmas.List.Elements.{All-get_or}
use Rattle.std.proofs.lemmas.Slice.Eq.{bytes_eq-Decides}
use Rattle.txn_runs.specs.declared.program.TableRef.{TableRef}
use Rattle.txn_names.specs.Word.{is_word_byte, is_word, is_keyword, is_numbered, is_reserved, register_of, is_name, is_table_name}
use Rattle.txn_names.specs.Tables.{Named, items_of, table_from, table_named, IsTable, IsNames}
use Rattle.txn_names.proofs.TableLemmas.{items_of-cons}
use Rattle.txn_tokens.specs.declared.token.Token.{Token}
use Rattle.txn_tokens.specs.declared.token.Token.TheVariants as t
use Rattle.txn_tokens.specs.Front.{word_token, other_word}
use Rattle.txn_spelling.specs.Canonical.{name_text}
use Rattle.txn_spelling.specs.Strangers.{same_extent, stranger}
use Rattle.txn_syntax.proofs.Measured.{both_true}
use Rattle.txn_spelling.proofs.Lexing.{Goes, goes_word}

abbrev Differ : Named → Named → Type 0
Differ a b = a.0 ≢ b.0

same_bytes : (xs : List ℕ) → bytes_eq xs xs ≡ true
same_bytes xs = (bytes_eq-Decides xs xs).1 refl

other_bytes : (xs ys : List ℕ) → (xs ≡ ys → ⊥) → bytes_eq xs ys ≡ false
other_bytes xs ys differ = by (bytes_eq xs ys) refl
  where
    by : (b : Bool) → bytes_eq xs ys ≡ b → b ≡ false
    by true is = absurd (differ ((bytes_eq-Decides xs ys).0 is))
    by false is = refl

-- a table is found by its name, where the names differ
found_at : (number base : ℕ) (tables : List Named) (k : ℕ) (entry : Named) → slice_get tables k ≡ Some entry → AllPairs Differ tables → table_from number base tables entry.0 ≡ Some (record { number = number + k; base = base + items_of (take k tables); size = entry.1 })
found_at number base [] k entry at differ = cc
found_at number base (first ∷ rest) zero entry at differ =
    let same : first ≡ entry = cc in
    let n : number ≡ number + 0 = omega arith in
    let b : base ≡ base + items_of (take 0 (first ∷ rest)) = omega arith in
    ap (λ c. cond c (Some (record { number = number; base = base; size = first.1 })) (table_from (number + 1) (base + first.1) rest entry.0)) (ap (λ (e : Named). bytes_eq e.0 first.0) (sym same) ∙ same_bytes first.0)
    ∙ (λ i. Some (record { number = n i; base = b i; size = (same i).1 }))
found_at number base (first ∷ rest) (suc k) entry at differ =
    let within = slice_get_within rest k entry at in
    let other : first.0 ≢ entry.0 = subst (λ (e : Named). first.0 ≢ e.0) (get_or_from_slice_get rest k entry first at) (differ 0 (suc k) first (omega arith) (omega (arith, within))) in
    let n : number + 1 + k ≡ number + suc k = omega arith in
    let b : base + first.1 + items_of (take k rest) ≡ base + items_of (take (suc k) (first ∷ rest)) = omega (arith, items_of-cons first (take k rest)) in
    ap (λ c. cond c (Some (record { number = number; base = base; size = first.1 })) (table_from (number + 1) (base + first.1) rest entry.0)) (other_bytes entry.0 first.0 (λ e. other (sym e)))
    ∙ found_at (number + 1) (base + first.1) rest k entry at (λ i j d lt le. differ (suc i) (suc j) d (omega (arith, lt)) (omega (arith, le)))
    ∙ (λ i. Some (record { number = n i; base = b i; size = entry.1 }))

-- a table that is no stranger
record Own (names : List Named) (table : TableRef) : Type 0 where
  entry : Named
  at : slice_get names table.number ≡ Some entry
  base : table.base ≡ items_of (take table.number names)
  size : table.size ≡ entry.1

zero_if : (b : Bool) → ◌≡◌ {A = ℕ} (cond b 0 1) 0 → b ≡ true
zero_if true is = refl
zero_if false is = absurd (omega (arith, is))

own_by : (names : List Named) (table : TableRef) (o : Option Named) → slice_get names table.number ≡ o
    → ◌≡◌ {A = ℕ} (cond (option_map_or (same_extent table) (option_map (λ (named : Named). record { number = table.number; base = items_of (take table.number names); size = named.1 }) o) false) 0 1) 0 → Own names table
own_by names table None at is = absurd (omega (arith, is))
own_by names table (Some entry) at is =
    let both = both_true (table.base == items_of (take table.number names)) (table.size == entry.1) (zero_if _ is) in
    record { entry = entry; at = at; base = eqb-true table.base (items_of (take table.number names)) both.0; size = eqb-true table.size entry.1 both.1 }

own : (names : List Named) (table : TableRef) → stranger names table ≡ 0 → Own names table
own names table is = own_by names table (slice_get names table.number) refl is

either_false : (a b : Bool) → (a || b) ≡ false → (a ≡ false) × (b ≡ false)
either_false true b is = cc
either_false false b is = (refl, is)

not_true : (b : Bool) → not b ≡ true → b ≡ false
not_true true is = cc
not_true false is = refl

no_number : (b : Bool) → ◌≡◌ {A = Option ℕ} (cond b None None) None
no_number true = refl
no_number false = refl

not_register : (word : List ℕ) → is_numbered word ≡ false → register_of word ≡ None
not_register [] is = refl
not_register (byte ∷ []) is = no_number (byte == 114)
not_register (byte ∷ digit ∷ []) is = by (byte == 114) (is_ascii_digit digit) is
  where
    by : (a b : Bool) → (a && (b && true)) ≡ false → cond a (cond b (Some (digit - 48)) None) None ≡ None
    by true true is = cc
    by true false is = refl
    by false b is = refl
not_register (byte ∷ tens ∷ digit ∷ []) is = by (byte == 114) ((tens == 49) && nat_le 48 digit && nat_le digit 53) refl is
  where
    by : (a b : Bool) → ((tens == 49) && nat_le 48 digit && nat_le digit 53) ≡ b → (a && (is_ascii_digit tens && (is_ascii_digit digit && true))) ≡ false → cond a (cond b (Some (digit - 38)) None) None ≡ None
    by true true in_range is =
        let parts = both_true ((tens == 49) && nat_le 48 digit) (nat_le digit 53) in_range in
        let more = both_true (tens == 49) (nat_le 48 digit) parts.0 in
        let first : is_ascii_digit tens ≡ true = ap is_ascii_digit (eqb-true tens 49 more.0) in
        let high : digit ≤ 53 = leb-true digit 53 parts.1 in
        let second : is_ascii_digit digit ≡ true = ap (λ b. b && nat_le digit 57) more.1 ∙ le-leb digit 57 (omega (arith, high)) in
        let both : (is_ascii_digit tens && (is_ascii_digit digit && true)) ≡ true = ap (λ b. b && (is_ascii_digit digit && true)) first ∙ ap (λ b. b && true) second in
        cc
    by true false in_range is = refl
    by false b in_range is = refl
not_register (byte ∷ a ∷ b ∷ c ∷ rest) is = no_number (byte == 114)

skip : (b : Bool) (x y z : Token) → b ≡ false → y ≡ z → cond b x y ≡ z
skip true x y z differs is = cc
skip false x y z differs is = is

module _ (names : List Named) where
  -- a word that isn't reserved is a name
  name_token : (word : List ℕ) → is_reserved word ≡ false → word_token names word ≡ t.Name (table_named names word)
  name_token word free =
      let parts = either_false (is_keyword word) (is_numbered word) free in
      let k0 = either_false (bytes_eq word (codes "if")) _ parts.0 in
      let k1 = either_false (bytes_eq word (codes "else")) _ k0.1 in
      let k2 = either_false (bytes_eq word (codes "loop")) _ k1.1 in
      let k3 = either_false (bytes_eq word (codes "emit")) _ k2.1 in
      let k4 = either_false (bytes_eq word (codes "fail")) _ k3.1 in
      let k5 = either_false (bytes_eq word (codes "min")) _ k4.1 in
      let k6 = either_false (bytes_eq word (codes "max")) _ k5.1 in
      let last : other_word names word ≡ t.Name (table_named names word) =
      ap (λ o. option_map_or t.Register o (cond (is_reserved word) t.Stray (t.Name (table_named names word)))) (not_register word parts.1) ∙ ap (λ b. cond b t.Stray (t.Name (table_named names word))) free in
      skip _ _ _ _ k0.0 (skip _ _ _ _ k1.0 (skip _ _ _ _ k2.0 (skip _ _ _ _ k3.0 (skip _ _ _ _ k4.0 (skip _ _ _ _ k5.0 (skip _ _ _ _ k6.0 last))))))

  goes_named : (word rest : List ℕ) → is_table_name word ≡ true → Goes names (word ++ 91 ∷ rest) (91 ∷ rest) (t.Name (table_named names word) ∷ [])
  goes_named [] rest is = cc
  goes_named (first ∷ more) rest is =
      let word : List ℕ = first ∷ more in
      let named = (both_true (is_name word) (nat_le (length word) 16) is).0 in
      let parts = both_true (is_word word) (not (is_reserved word)) named in
      let lower = (both_true (is_ascii_lowercase first) (list_all is_word_byte more) parts.0).0 in
      let bytes = (both_true (is_ascii_lowercase first) (list_all is_word_byte more) parts.0).1 in
      let all : list_all is_word_byte word ≡ true = ap (λ b. (b || is_ascii_digit first || (first == 95)) && list_all is_word_byte more) lower ∙ bytes in
      subst (λ token. Goes names (first ∷ (more ++ 91 ∷ rest)) (91 ∷ rest) (token ∷ [])) (name_token word (not_true (is_reserved word) parts.1)) (goes_word names first more 91 rest lower all refl)

  pub goes_table : (table : TableRef) (rest : List ℕ) → IsNames names → stranger names table ≡ 0 → Goes names (name_text names table ++ 91 ∷ rest) (91 ∷ rest) (t.Name (Some table) ∷ [])
  goes_table table rest good known =
      let o = own names table known in
      let is : name_text names table ≡ o.entry.0 = ap (λ (e : Option Named). option_map_or (λ (named : Named). named.0) e []) o.at in
      let within = slice_get_within names table.number o.entry o.at in
      let fine : IsTable o.entry = subst IsTable (get_or_from_slice_get names table.number o.entry o.entry o.at) (All-get_or IsTable names table.number o.entry within good.tables) in
      let b : 0 + items_of (take table.number names) ≡ table.base = omega (arith, o.base) in
      let n : 0 + table.number ≡ table.number = omega arith in
      let found : table_named names o.entry.0 ≡ Some table = found_at 0 0 names table.number o.entry o.at good.distinct ∙ (λ i. Some (record { number = n i; base = b i; size = sym o.size i })) in
      subst (λ (w : List ℕ). Goes names (w ++ 91 ∷ rest) (91 ∷ rest) (t.Name (Some table) ∷ [])) (sym is)
      (subst (λ f. Goes names (o.entry.0 ++ 91 ∷ rest) (91 ∷ rest) (t.Name f ∷ [])) found (goes_named o.entry.0 rest fine.name))
