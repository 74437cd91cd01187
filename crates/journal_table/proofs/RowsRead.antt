-- The rows that were read one after another are those of the bytes.
use Rattle.std.proofs.Common.{◌≡◌, ◌≤◌, ℕ, suc, ◌+◌, ◌-◌, ◌==◌, Bool, true, false, if◌then◌else◌, List, [], ◌∷◌, ◌++◌, length, Some, None, refl, ap, subst, ◌∙◌, arith, zero-add}
use Rattle.std.proofs.lemmas.List.{append-nil}
use Rattle.csv.specs.Machine.{Read, next_record, step, in_field, start_field, start_record, ends_at_end, ends_with, after_end, fields_after, field_after, is_end}
use Rattle.csv.specs.Reading.{default_config, Reached, records, records_from}
use Rattle.csv.specs.declared.parser.State.{State}
use Rattle.csv.specs.declared.parser.Action.{Action}
use Rattle.csv.specs.declared.parser.State.TheVariants as st
use Rattle.csv.specs.declared.parser.Action.TheVariants as act

after-end : (c : ℕ) → ends_at_end (after_end default_config.terminator c) ≡ false
after-end c = go (c == 13)
  where
    go : (b : Bool) → ends_at_end (if b then st.AfterCr else st.StartRecord) ≡ false
    go true = refl
    go false = refl

-- a byte that ends a row leaves no row under way
abbrev Ends : State × Action → Type 0
Ends p = is_end p.1 ≡ true → ends_at_end p.0 ≡ false

in-field-ends : (c : ℕ) → Ends (in_field default_config c)
in-field-ends c = go (c == 44) (ends_with default_config.terminator c)
  where
    go : (a b : Bool) → Ends (if a then (st.StartField, act.EndField) else if b then (after_end default_config.terminator c, act.EndRecord) else (st.InField, act.Copy))
    go true b = λ is. cc
    go false true = λ is. after-end c
    go false false = λ is. cc

start-field-ends : (c : ℕ) → Ends (start_field default_config c)
start-field-ends c = go (c == 34)
  where
    go : (a : Bool) → Ends (if a then (st.InQuoted, act.Skip) else in_field default_config c)
    go true = λ is. cc
    go false = in-field-ends c

start-record-ends : (c : ℕ) → Ends (start_record default_config c)
start-record-ends c = go (ends_with default_config.terminator c)
  where
    go : (a : Bool) → Ends (if a then (st.StartRecord, act.Skip) else start_field default_config c)
    go true = λ is. cc
    go false = start-field-ends c

either-ends : (a : Bool) (p q : State × Action) → Ends p → Ends q → Ends (if a then p else q)
either-ends true p q h k = h
either-ends false p q h k = k

step-ends : (s : State) (c : ℕ) → Ends (step default_config s c)
step-ends st.StartRecord c = start-record-ends c
step-ends st.StartField c = start-field-ends c
step-ends st.InField c = in-field-ends c
step-ends st.InQuoted c = either-ends (c == 34) (st.AfterQuote, act.Skip) (st.InQuoted, act.Copy) (λ is. cc) (λ is. cc)
step-ends st.InEscape c = λ is. cc
step-ends st.AfterQuote c = either-ends (c == 34) (st.InQuoted, act.Copy) (in_field default_config c) (λ is. cc) (in-field-ends c)
step-ends st.InComment c = either-ends (c == 10) (st.StartRecord, act.Skip) (st.InComment, act.Skip) (λ is. cc) (λ is. cc)
step-ends st.AfterCr c = either-ends (c == 10) (st.StartRecord, act.Skip) (start_record default_config c) (λ is. cc) (start-record-ends c)

-- what a row leaves: fewer bytes, and no row under way
pub record Leaves (xs : List ℕ) (read : Read) : Type 0 where
  pub fewer : length read.2 ≤ length xs
  pub ended : ends_at_end read.1 ≡ false

-- a byte that ends the row, or one behind which it goes on
leaves-by : (s : State) (fields : List (List ℕ)) (field : List ℕ) (c : ℕ) (ys : List ℕ) (p : Read)
    → ((s2 : State) (fs : List (List ℕ)) (f : List ℕ) → next_record default_config s2 fs f ys ≡ Some p → Leaves ys p)
    → (b : Bool) → is_end (step default_config s c).1 ≡ b
    → (if b then Some (fields_after (step default_config s c).1 fields field, (step default_config s c).0, ys) else next_record default_config (step default_config s c).0 (fields_after (step default_config s c).1 fields field) (field_after (step default_config s c).1 c field) ys) ≡ Some p → Leaves ys p
leaves-by s fields field c ys p more true ends e =
    let same : (fields_after (step default_config s c).1 fields field, (step default_config s c).0, ys) ≡ p = cc in
    subst (Leaves ys) same (record { fewer = omega arith; ended = step-ends s c ends })
leaves-by s fields field c ys p more false ends e = more (step default_config s c).0 (fields_after (step default_config s c).1 fields field) (field_after (step default_config s c).1 c field) e

leaves-last : (fs : List (List ℕ)) (f : List ℕ) (p : Read) (b : Bool) → (if b then Some (fs ++ (f ∷ []), st.StartRecord, []) else None) ≡ Some p → Leaves [] p
leaves-last fs f p true e = let same : (fs ++ (f ∷ []), st.StartRecord, []) ≡ p = cc in subst (Leaves []) same (record { fewer = omega arith; ended = refl })
leaves-last fs f p false e = cc

row-leaves : (xs : List ℕ) (s : State) (fields : List (List ℕ)) (field : List ℕ) (c : ℕ) (p : Read) → next_record default_config s fields field (c ∷ xs) ≡ Some p → Leaves xs p
unfolding next_record
row-leaves [] s fields field c p is = leaves-by s fields field c [] p (λ s2 fs f e. leaves-last fs f p (ends_at_end s2) e) (is_end (step default_config s c).1) refl is
row-leaves (d ∷ xs) s fields field c p is = leaves-by s fields field c (d ∷ xs) p (λ s2 fs f e.
    let l = row-leaves xs s2 fs f d p e in
    record { fewer = let few = l.fewer in omega (arith, few); ended = l.ended }) (is_end (step default_config s c).1) refl is

none-left : (s : State) → ends_at_end s ≡ false → next_record default_config s [] [] [] ≡ None
unfolding next_record
none-left s is = rw is refl

-- rows take bytes, each at least one
rows-take : (rows : List (List (List ℕ))) (s t : State) (xs ys : List ℕ) → ends_at_end s ≡ false → Reached default_config s xs rows t ys → length rows + length ys ≤ length xs
unfolding Reached
rows-take [] s t xs ys none h = let same : length xs ≡ length ys = ap length h.1 in omega (arith, same)
rows-take (r ∷ rows) s t [] ys none h = let no : next_record default_config s [] [] [] ≡ None = none-left s none in let is = h.1 in cc
rows-take (r ∷ rows) s t (c ∷ xs) ys none h =
    let l = row-leaves xs s [] [] c h.0 h.1 in
    let few = l.fewer in
    let rest = rows-take rows h.0.1 t h.0.2 ys l.ended h.3 in
    omega (arith, few, rest)

-- the first rows of so many and more
rows-first : (rows : List (List (List ℕ))) (s t : State) (xs ys : List ℕ) (m : ℕ) → Reached default_config s xs rows t ys → records_from default_config (length rows + m) s xs ≡ rows ++ records_from default_config m t ys
unfolding Reached records_from
rows-first [] s t xs ys m h = rw (zero-add m, h.0, h.1) refl
rows-first (r ∷ rows) s t xs ys m h =
    let more : suc (length rows) + m ≡ suc (length rows + m) = omega arith in
    rw (more, h.1, h.2) (ap (λ x. h.0.0 ∷ x) (rows-first rows h.0.1 t h.0.2 ys m h.3))

-- the rows so far are the first ones
pub rows-begin : (rows : List (List (List ℕ))) (t : State) (xs ys : List ℕ) → Reached default_config st.StartRecord xs rows t ys → (more : List (List (List ℕ))) × (records default_config xs ≡ rows ++ more)
rows-begin rows t xs ys h =
    let few = rows-take rows st.StartRecord t xs ys refl h in
    let m = length xs + 1 - length rows in
    let all : length xs + 1 ≡ length rows + m = omega (arith, few) in
    (records_from default_config m t ys, ap (λ n. records_from default_config n st.StartRecord xs) all ∙ rows-first rows st.StartRecord t xs ys m h)

-- they are all where there is no further one
pub rows-all : (rows : List (List (List ℕ))) (t : State) (xs ys : List ℕ) → Reached default_config st.StartRecord xs rows t ys → next_record default_config t [] [] ys ≡ None → records default_config xs ≡ rows
unfolding records_from
rows-all rows t xs ys h none =
    let few = rows-take rows st.StartRecord t xs ys refl h in
    let m = length xs - length rows in
    let all : length xs + 1 ≡ length rows + suc m = omega (arith, few) in
    ap (λ n. records_from default_config n st.StartRecord xs) all ∙ rows-first rows st.StartRecord t xs ys (suc m) h ∙ rw none (append-nil rows)

-- two rows are not one
pub two-rows : (all more : List (List (List ℕ))) (a b row : List (List ℕ)) → all ≡ a ∷ b ∷ more → all ≡ row ∷ [] → ⊥
two-rows all more a b row are is = cc
