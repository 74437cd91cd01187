-- The tables of a program that was read are those of the names.
use Rattle.std.proofs.Common.{◌≡◌, ℕ, zero, suc, ◌+◌, ◌-◌, ◌==◌, ◌&&◌, Bool, true, false, cond, List, [], ◌∷◌, ◌++◌, take, map, codes, Option, None, Some, Ok, refl, sym, ap, ◌∙◌, subst, arith}
use Rattle.std.specs.Prelude.{slice_get}
use Rattle.std.specs.Char.{is_ascii_lowercase, is_ascii_digit}
use Rattle.std.specs.List.{prefix_len}
use Rattle.std.specs.Option.{option_map_or, option_map}
use Rattle.std.specs.Str.{bytes_eq}
use Rattle.std.proofs.lemmas.Bool.{eq-eqb}
use Rattle.txn_runs.specs.declared.program.TableRef.{TableRef}
use Rattle.txn_runs.specs.declared.program.Stmt.{Stmt}
use Rattle.txn_runs.proofs.Folds.{of_if_is, of_loop_is}
use Rattle.txn_runs.specs.Bounds.{plus}
use Rattle.txn_names.specs.Word.{is_word_byte, is_reserved, register_of}
use Rattle.txn_names.specs.Tables.{Named, items_of, table_from, table_named}
use Rattle.txn_names.proofs.TableLemmas.{items_of-cons}
use Rattle.txn_tokens.specs.declared.front.Front.{Front}
use Rattle.txn_tokens.specs.declared.token.Token.{Token}
use Rattle.txn_tokens.specs.declared.token.Token.TheVariants as t
use Rattle.txn_tokens.specs.declared.token.Placed.{Placed}
use Rattle.txn_tokens.specs.Bytes.{is_blank}
use Rattle.txn_tokens.specs.Front.{word_token, long_sign, mark, short_sign, sign_front, word_front, number_front, front_of}
use Rattle.txn_tokens.specs.Tokens.{tokens_from, tokens}
use Rattle.txn_syntax.specs.declared.place.Plain.{Plain}
use Rattle.txn_syntax.specs.declared.place.Plain.TheVariants as p
use Rattle.txn_syntax.specs.Grammar.{Text, Nothing, Simple, If, IfElse, Loop, simple, opened_if, spelled, program}
use Rattle.txn_syntax.specs.Meaning.{operand_of, table_of, meant}
use Rattle.txn_syntax.specs.Reads.{token_of, unknown_at, first_unknown, read_of}
use Rattle.txn_syntax.specs.Answers.{IsAnswer}
use Rattle.txn_syntax.proofs.Measured.{leaf, leaf_is}
use Rattle.txn_syntax.proofs.Answering.{read_answers}
use Rattle.txn_spelling.specs.Strangers.{same_extent, stranger, stranger_row, strangers}

-- where a table stands among those that follow `number` tables with `base` items
record Found (number base : ℕ) (tables : List Named) (table : TableRef) : Type 0 where
  place : ℕ
  entry : Named
  at : slice_get tables place ≡ Some entry
  number_is : table.number ≡ number + place
  base_is : table.base ≡ base + items_of (take place tables)
  size_is : table.size ≡ entry.1

found_if : (found : Bool) (number base : ℕ) (first : Named) (tables : List Named) (later : Option TableRef) (table : TableRef)
    → (later ≡ Some table → Found (number + 1) (base + first.1) tables table) → cond found (Some (record { number = number; base = base; size = first.1 })) later ≡ Some table → Found number base (first ∷ tables) table
found_if true number base first tables later table more is =
    let same : ◌≡◌ {A = TableRef} (record { number = number; base = base; size = first.1 }) table = cc in
    let n : number ≡ table.number = ap (λ (t : TableRef). t.number) same in
    let b : base ≡ table.base = ap (λ (t : TableRef). t.base) same in
    record { place = 0; entry = first; at = refl; number_is = omega (arith, n); base_is = omega (arith, b); size_is = sym (ap (λ (t : TableRef). t.size) same) }
found_if false number base first tables later table more is =
    let f = more is in
    record {
      place = suc f.place;
      entry = f.entry;
      at = f.at;
      number_is = omega (arith, f.number_is);
      base_is = omega (arith, f.base_is, items_of-cons first (take f.place tables));
      size_is = f.size_is;
    }

found : (number base : ℕ) (tables : List Named) (name : List ℕ) (table : TableRef) → table_from number base tables name ≡ Some table → Found number base tables table
found number base [] name table is = cc
found number base (first ∷ tables) name table is =
    found_if (bytes_eq name first.0) number base first tables (table_from (number + 1) (base + first.1) tables name) table (found (number + 1) (base + first.1) tables name table) is

module _ (names : List Named) where
  -- the table of a name is no stranger
  named_known : (name : List ℕ) (table : TableRef) → table_named names name ≡ Some table → stranger names table ≡ 0
  named_known name table is =
      let f = found 0 0 names name table is in
      let place : f.place ≡ table.number = omega (arith, f.number_is) in
      let at : slice_get names table.number ≡ Some f.entry = ap (slice_get names) (sym place) ∙ f.at in
      let base : table.base ≡ items_of (take table.number names) = omega (arith, f.base_is, ap (λ n. items_of (take n names)) place) in
      let bases : (table.base == items_of (take table.number names)) ≡ true = eq-eqb table.base (items_of (take table.number names)) base in
      let sizes : (table.size == f.entry.1) ≡ true = eq-eqb table.size f.entry.1 f.size_is in
      ap (λ (o : Option Named). cond (option_map_or (same_extent table) (option_map (λ (named : Named). record { number = table.number; base = items_of (take table.number names); size = named.1 }) o) false) 0 1) at
      ∙ ap (λ b. cond (b && (table.size == f.entry.1)) 0 1) bases ∙ ap (λ b. cond b 0 1) sizes

  abbrev Weak : Token → Type 0
  Weak (t.Name (Some table)) = stranger names table ≡ 0
  Weak _ = Unit {0}

  if_weak : (b : Bool) (x y : Token) → Weak x → Weak y → Weak (cond b x y)
  if_weak true x y hx hy = hx
  if_weak false x y hx hy = hy

  register_weak : (o : Option ℕ) (other : Token) → Weak other → Weak (option_map_or t.Register o other)
  register_weak None other h = h
  register_weak (Some n) other h = tt

  name_weak : (o : Option TableRef) → ((table : TableRef) → o ≡ Some table → stranger names table ≡ 0) → Weak (t.Name o)
  name_weak None known = tt
  name_weak (Some table) known = known table refl

  mark_weak : (byte : ℕ) → Weak (mark byte)
  mark_weak byte =
      if_weak (byte == 123) _ _ tt (if_weak (byte == 125) _ _ tt (if_weak (byte == 91) _ _ tt (if_weak (byte == 93) _ _ tt (if_weak (byte == 59) _ _ tt (if_weak (byte == 61) _ _ tt tt)))))

  short_weak : (byte : ℕ) → Weak (short_sign byte)
  short_weak byte =
      if_weak (byte == 43) _ _ tt (if_weak (byte == 45) _ _ tt (if_weak (byte == 42) _ _ tt (if_weak (byte == 47) _ _ tt (if_weak (byte == 37) _ _ tt (if_weak (byte == 60) _ _ tt (if_weak (byte == 62) _ _ tt (mark_weak byte)))))))

  word_weak : (word : List ℕ) → Weak (word_token names word)
  word_weak word =
      if_weak (bytes_eq word (codes "if")) _ _ tt
      (if_weak (bytes_eq word (codes "else")) _ _ tt
      (if_weak (bytes_eq word (codes "loop")) _ _ tt
      (if_weak (bytes_eq word (codes "emit")) _ _ tt
      (if_weak (bytes_eq word (codes "fail")) _ _ tt
      (if_weak (bytes_eq word (codes "min")) _ _ tt
      (if_weak (bytes_eq word (codes "max")) _ _ tt
      (register_weak (register_of word) _ (if_weak (is_reserved word) t.Stray (t.Name (table_named names word)) tt (name_weak (table_named names word) (named_known word))))))))))

  abbrev MaybeWeak : Option Token → Type 0
  MaybeWeak None = Unit {0}
  MaybeWeak (Some token) = Weak token

  if_maybe : (b : Bool) (x y : Option Token) → MaybeWeak x → MaybeWeak y → MaybeWeak (cond b x y)
  if_maybe true x y hx hy = hx
  if_maybe false x y hx hy = hy

  long_weak : (byte : ℕ) → MaybeWeak (long_sign byte)
  long_weak byte = if_maybe (byte == 61) _ _ tt (if_maybe (byte == 33) _ _ tt (if_maybe (byte == 60) _ _ tt (if_maybe (byte == 62) _ _ tt tt)))

  two_weak : (found : Option Token) (first : ℕ) → MaybeWeak found → Weak (option_map_or {U = Front} (λ (token : Token). record { token = token; len = 2 }) found (record { token = short_sign first; len = 1 })).token
  two_weak None first h = short_weak first
  two_weak (Some token) first h = h

  sign_weak : (first : ℕ) (bytes : List ℕ) → Weak (sign_front first bytes).token
  sign_weak first [] = short_weak first
  sign_weak first (second ∷ bytes) = two_weak (cond (second == 61) (long_sign first) None) first (if_maybe (second == 61) _ _ (long_weak first) tt)

  front_if : (b : Bool) (x y : Front) → Weak x.token → Weak y.token → Weak (cond b x y).token
  front_if true x y hx hy = hx
  front_if false x y hx hy = hy

  front_weak : (first : ℕ) (bytes : List ℕ) → Weak (front_of names first bytes).token
  front_weak first bytes =
      front_if (is_ascii_lowercase first) (word_front names (first ∷ bytes)) _ (word_weak (take (prefix_len is_word_byte (first ∷ bytes)) (first ∷ bytes)))
      (front_if (is_ascii_digit first) (number_front (first ∷ bytes)) (sign_front first bytes) tt (sign_weak first bytes))

  abbrev AreWeak : List Token → Type 0
  AreWeak [] = Unit {0}
  AreWeak (token ∷ rest) = Weak token × AreWeak rest

  weak_if : (b : Bool) (xs ys : List Placed) → AreWeak (map token_of xs) → AreWeak (map token_of ys) → AreWeak (map token_of (cond b xs ys))
  weak_if true xs ys hx hy = hx
  weak_if false xs ys hx hy = hy

  from_weak : (at taken : ℕ) (bytes : List ℕ) → AreWeak (map token_of (tokens_from names at taken bytes))
  from_weak at taken [] = tt
  from_weak at (suc taken) (byte ∷ bytes) = from_weak (at + 1) taken bytes
  from_weak at zero (byte ∷ bytes) =
      weak_if (is_blank byte) (tokens_from names (at + 1) 0 bytes) _ (from_weak (at + 1) 0 bytes) (front_weak byte bytes, from_weak (at + 1) ((front_of names byte bytes).len - 1) bytes)

  -- a name has a table, and it is one of the names'
  abbrev pub IsKnown : Token → Type 0
  IsKnown (t.Name None) = ⊥
  IsKnown (t.Name (Some table)) = stranger names table ≡ 0
  IsKnown _ = Unit {0}

  abbrev pub AreKnown : List Token → Type 0
  AreKnown [] = Unit {0}
  AreKnown (token ∷ rest) = IsKnown token × AreKnown rest

  known_first : (token : Token) (at : ℕ) (later : Option ℕ) → Weak token → unknown_at token at later ≡ None → IsKnown token × (later ≡ None)
  known_first (t.Name None) at later h is = cc
  known_first (t.Name (Some table)) at later h is = (h, is)
  known_first _ at later h is = (tt, is)

  all_known : (ts : List Placed) → AreWeak (map token_of ts) → first_unknown ts ≡ None → AreKnown (map token_of ts)
  all_known [] h is = tt
  all_known (placed ∷ rest) h is =
      let first = known_first placed.token placed.at (first_unknown rest) h.0 is in
      (first.0, all_known rest h.1 first.1)

  first_known : (token : Token) (at : ℕ) (later : Option ℕ) → IsKnown token → later ≡ None → unknown_at token at later ≡ None
  first_known (t.Name None) at later h is = absurd h
  first_known (t.Name (Some table)) at later h is = is
  first_known _ at later h is = is

  -- names that have tables hold none that is unknown
  pub none_unknown : (ts : List Placed) → AreKnown (map token_of ts) → first_unknown ts ≡ None
  none_unknown [] h = refl
  none_unknown (placed ∷ rest) h = first_known placed.token placed.at (first_unknown rest) h.0 (none_unknown rest h.1)

  pub known_append : (xs ys : List Token) → AreKnown xs → AreKnown ys → AreKnown (xs ++ ys)
  known_append [] ys h k = k
  known_append (x ∷ xs) ys h k = (h.0, known_append xs ys h.1 k)

  front : (xs ys : List Token) → AreKnown (xs ++ ys) → AreKnown xs
  front [] ys h = tt
  front (x ∷ xs) ys h = (h.0, front xs ys h.1)

  back : (xs ys : List Token) → AreKnown (xs ++ ys) → AreKnown ys
  back [] ys h = h
  back (x ∷ xs) ys h = back xs ys h.1

  table_known : (table : Option TableRef) → IsKnown (t.Name table) → stranger names (table_of table) ≡ 0
  table_known None h = absurd h
  table_known (Some table) h = h

  plain_known : (plain : Plain) → AreKnown (simple plain) → stranger_row names (leaf plain) ≡ 0
  unfolding simple
  plain_known (p.Calc to left op right) h = refl
  plain_known (p.Move to from) h = refl
  plain_known (p.Read to table at) h = table_known table h.1.1.0
  plain_known (p.Write table at from) h = table_known table h.0
  plain_known (p.Emit from) h = refl
  plain_known (p.Fail code) h = refl

  text_known : (x : Text) → AreKnown (spelled x) → strangers names (meant x) ≡ 0
  text_known Nothing h = refl
  text_known (Simple plain rest) h =
      omega (arith, leaf_is (stranger_row names) plus plain, plain_known plain (front (simple plain) (spelled rest) h), text_known rest (back (simple plain) (spelled rest) h))
  text_known (If test first rest) h =
      let inner = back (opened_if test) (spelled first ++ t.CloseBlock ∷ spelled rest) h in
      let f = text_known first (front (spelled first) (t.CloseBlock ∷ spelled rest) inner) in
      let r = text_known rest (back (spelled first) (t.CloseBlock ∷ spelled rest) inner).1 in
      omega (arith, of_if_is (stranger_row names) plus (operand_of test.left) (operand_of test.right) test.cmp (record { stmts = meant first }) (record { stmts = [] }), f, r)
  text_known (IfElse test first second rest) h =
      let tail : List Token = t.CloseBlock ∷ t.Else ∷ t.OpenBlock ∷ (spelled second ++ t.CloseBlock ∷ spelled rest) in
      let inner = back (opened_if test) (spelled first ++ tail) h in
      let f = text_known first (front (spelled first) tail inner) in
      let last = (back (spelled first) tail inner).1.1.1 in
      let g = text_known second (front (spelled second) (t.CloseBlock ∷ spelled rest) last) in
      let r = text_known rest (back (spelled second) (t.CloseBlock ∷ spelled rest) last).1 in
      omega (arith, of_if_is (stranger_row names) plus (operand_of test.left) (operand_of test.right) test.cmp (record { stmts = meant first }) (record { stmts = meant second }), f, g, r)
  text_known (Loop n body rest) h =
      let inner = h.1.1.1 in
      let f = text_known body (front (spelled body) (t.CloseBlock ∷ spelled rest) inner) in
      let r = text_known rest (back (spelled body) (t.CloseBlock ∷ spelled rest) inner).1 in
      omega (arith, of_loop_is (stranger_row names) plus n (record { stmts = meant body }), f, r)

  -- a program that was read has no strangers
  pub read_known : (bytes : List ℕ) (body : List Stmt) → read_of names bytes ≡ Ok body → strangers names body ≡ 0
  read_known bytes body is =
      let answer : IsAnswer names bytes (Ok body) = subst (IsAnswer names bytes) is (read_answers names bytes) in
      let (text, spells, known, fits, same) = answer in
      let each = all_known (tokens names bytes) (from_weak 0 0 bytes) known in
      let all : AreKnown (program text) = subst AreKnown (sym spells) each in
      ap (strangers names) same ∙ text_known text (front (spelled text) (t.CloseBlock ∷ []) all.1)
