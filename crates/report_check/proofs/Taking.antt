-- A line more is taken in.
use Rattle.std.proofs.Common.{◌≡◌, ◌≢◌, ℕ, zero, suc, ◌+◌, ◌-◌, ◌<◌, ◌≤◌, ◌==◌, ◌||◌, Bool, true, false, List, [], ◌∷◌, ◌++◌, length, take, drop, get_or, set, replicate, Some, slice_get, refl, sym, ap, ◌∙◌, subst, append_assoc, length-append, arith, true≢false, eqb-true, add-one}
use Rattle.std.specs.List.{All}
use Rattle.std.proofs.lemmas.List.{append-nil, get_or-replicate, get_or-set_same, get_or-set_other, length-set, length-take-le, take_all, take-append-drop}
use Rattle.std.proofs.lemmas.Option.{slice_get_within, get_or_from_slice_get}
use Rattle.std.proofs.Math.Seq.{take-suc}
use Rattle.std.proofs.lemmas.List.Folds.{list_any-append}
use Rattle.txn_runs.specs.Bounds.{reach}
use Rattle.txn_runs.specs.Run.{Tables, Writes}
use Rattle.txn_runs.specs.Serial.{outcome_of, effect_of, over, last_tables}
use Rattle.txn_runs.specs.declared.program.Program.{Program}
use Rattle.txn_names.specs.Tables.{Named, IsNames}
use Rattle.journal_core.specs.Numbered.{program_named}
use Rattle.report_text.specs.Report.{numbered, in_order}
use Rattle.report_text.specs.Rows.{commit_row, order_rows, last_rows, report_rows}
use Rattle.report_check.specs.Judging.{IsBegun}
use Rattle.report_check.specs.Reports.{AreReport}
use Rattle.report_check.specs.Checked.{Held, IsSound, Stands, IsNext, committed, IsLast}
use Rattle.report_check.proofs.Flags.{one-more-set}
use Rattle.report_check.proofs.Orders.{is_in, all-more, distinct-append, missing, completed, whole-once, program-at}
use Rattle.report_check.proofs.Next.{commits-append, last-append, rows_behind, report-append, last-many, reports, onward, all-in}

-- Commits.

over-length : (ws : Writes) (d : Tables) → length (over ws d) ≡ length d
over-length ws [] = refl
over-length [] (v ∷ d) = refl
over-length (w ∷ ws) (v ∷ d) = ap suc (over-length ws d)

pub sound-commit : (names : List Named) (programs : List Program) (h : Held) (line : List ℕ) (t : ℕ) → IsSound names programs h → IsNext programs h line t → IsSound names programs (committed programs h t)
sound-commit names programs h line t sound next =
    let effect : Writes = effect_of (get_or programs (t - 1) []) h.table in
    let size : length (over effect h.table) ≡ length h.table = over-length effect h.table in
    let some = next.some in
    let most = next.most in
    let many = sound.many in
    let within : t - 1 < length h.taken = omega (arith, some, most, many) in
    record {
      items = sound.items ∙ sym size;
      room = sound.room ∙ sym size;
      fit = subst (λ n. All (λ p. reach p ≤ n) programs) (sym size) sound.fit;
      few = sound.few;
      many = length-set h.taken (t - 1) true ∙ many;
      counted = omega (arith, sound.counted, one-more-set h.taken (t - 1) within next.free);
      told = sound.told;
    }

-- the flags tell who is in the order, with one more
each-more : (taken : List Bool) (order : List ℕ) (n t u : ℕ) → length taken ≡ n → 1 ≤ t → t ≤ n → 1 ≤ u → u ≤ n → get_or taken (u - 1) false ≡ is_in u order
    → get_or (set taken (t - 1) true) (u - 1) false ≡ is_in u (order ++ t ∷ [])
each-more taken order n t u many some most some' most' before = go (t == u) refl
  where
    go : (b : Bool) → (t == u) ≡ b → get_or (set taken (t - 1) true) (u - 1) false ≡ is_in u (order ++ t ∷ [])
    go true is =
        let same : t ≡ u = eqb-true t u is in
        let last : (is_in u order || ((t == u) || false)) ≡ true = ap (λ b. is_in u order || (b || false)) is ∙ or-true (is_in u order) in
        ap (λ k. get_or (set taken (t - 1) true) (k - 1) false) (sym same)
        ∙ get_or-set_same taken (t - 1) true false (omega (arith, many, some, most))
        ∙ sym (list_any-append (λ v. v == u) order (t ∷ []) ∙ last)
      where
        or-true : (b : Bool) → (b || true) ≡ true
        or-true true = refl
        or-true false = refl
    go false is =
        let apart : u - 1 ≢ t - 1 = λ same. true≢false (sym (equal t u (omega (arith, same, some, some'))) ∙ is) in
        let last : (is_in u order || ((t == u) || false)) ≡ is_in u order = ap (λ b. is_in u order || (b || false)) is ∙ or-false (is_in u order) in
        get_or-set_other taken (t - 1) (u - 1) true false apart ∙ before ∙ sym (list_any-append (λ v. v == u) order (t ∷ []) ∙ last)
      where
        equal : (a b : ℕ) → a ≡ b → (a == b) ≡ true
        equal a b e = grind (arith)

        or-false : (b : Bool) → (b || false) ≡ b
        or-false true = refl
        or-false false = refl

pub stands-commit : (names : List Named) (opening : Tables) (programs : List Program) (h : Held) (lines : List (List ℕ)) (line : List ℕ) (t : ℕ) → IsSound names programs h → h.told ≡ 0 → IsNext programs h line t
    → Stands names opening programs h lines → Stands names opening programs (committed programs h t) (lines ++ line ∷ [])
stands-commit names opening programs h lines line t sound start next s =
    let f : ℕ → Program = program_named (numbered 1 programs) in
    let order : List ℕ = s.order in
    let now : Held = committed programs h t in
    let most = next.most in
    let named : f t ≡ get_or programs (t - 1) [] = program-at 1 programs t next.some (omega (arith, most)) in
    let apart : is_in t order ≡ false = sym (s.each t next.some next.most) ∙ next.free in
    let longer : length (order ++ t ∷ []) ≡ length order + 1 = length-append order (t ∷ []) in
    let one : order_rows h.table programs (t ∷ []) ≡ line ∷ [] = ap (λ p. commit_row t (outcome_of p h.table) ∷ []) named ∙ ap (λ l. l ∷ []) (sym next.row) in
    let before : lines ≡ order_rows opening programs order = s.rows ∙ ap (λ n. order_rows opening programs order ++ take n (last_rows names h.table (length order))) start ∙ append-nil (order_rows opening programs order) in
    record {
      order = order ++ t ∷ [];
      distinct = distinct-append order (t ∷ []) s.distinct (tt, tt) (apart, tt);
      within = all-more (λ u. (1 ≤ u) × (u ≤ length programs)) order t s.within (next.some, next.most);
      each = λ u some' most'. each-more h.taken order (length programs) t u sound.many next.some next.most some' most' (s.each u some' most');
      count = omega (arith, s.count, longer);
      serial = ap (λ p. over (effect_of p h.table) h.table) (sym named) ∙ ap (λ d. over (effect_of (f t) d) d) s.serial ∙ sym (last-append opening f order (t ∷ []));
      ripe = λ some. absurd (omega (arith, some, start));
      rows = ap (λ x. x ++ line ∷ []) before
          ∙ ap (λ x. order_rows opening programs order ++ x) (sym one)
          ∙ ap (λ d. order_rows opening programs order ++ order_rows d programs (t ∷ [])) s.serial
          ∙ sym (commits-append opening f order (t ∷ []))
          ∙ sym (append-nil (order_rows opening programs (order ++ t ∷ [])))
          ∙ ap (λ n. order_rows opening programs (order ++ t ∷ []) ++ take n (last_rows names now.table (length (order ++ t ∷ [])))) (sym start);
    }

-- Lines behind the commits.

take-next : {A : Type 0} (xs : List A) (x : A) (n : ℕ) → slice_get xs n ≡ Some x → take (n + 1) xs ≡ take n xs ++ x ∷ []
take-next xs x n is = rw add-one (take-suc xs n x (slice_get_within xs n x is) ∙ ap (λ y. take n xs ++ y ∷ []) (get_or_from_slice_get xs n x x is))

abbrev told-more : Held → Held
told-more h = record h { told = h.told + 1 }

pub sound-last : (names : List Named) (programs : List Program) (h : Held) (line : List ℕ) → IsSound names programs h → IsLast names h line → IsSound names programs (told-more h)
sound-last names programs h line sound last = record {
  items = sound.items;
  room = sound.room;
  fit = sound.fit;
  few = sound.few;
  many = sound.many;
  counted = sound.counted;
  told = omega (arith, slice_get_within (last_rows names h.table h.commits) h.told line last.row, last-many names h.table h.commits);
}

pub stands-last : (names : List Named) (opening : Tables) (programs : List Program) (h : Held) (lines : List (List ℕ)) (line : List ℕ) → IsSound names programs h → IsLast names h line
    → Stands names opening programs h lines → Stands names opening programs (told-more h) (lines ++ line ∷ [])
stands-last names opening programs h lines line sound last s =
    let front : List (List ℕ) = order_rows opening programs s.order in
    let rows : List (List ℕ) = last_rows names h.table (length s.order) in
    let there : slice_get rows h.told ≡ Some line = ap (λ n. slice_get (last_rows names h.table n) h.told) (sym s.count) ∙ last.row in
    record {
      order = s.order;
      distinct = s.distinct;
      within = s.within;
      each = s.each;
      count = s.count;
      serial = s.serial;
      ripe = λ _. last.all ∙ sound.many;
      rows = ap (λ x. x ++ line ∷ []) s.rows ∙ append_assoc front (take h.told rows) (line ∷ []) ∙ ap (λ x. front ++ x) (sym (take-next rows line h.told there));
    }

-- Before the first line.

pub stands-none : (names : List Named) (opening : Tables) (programs : List Program) (h : Held) → h.table ≡ opening → h.taken ≡ replicate (length programs) false → h.commits ≡ 0 → h.told ≡ 0 → Stands names opening programs h []
stands-none names opening programs h same none nobody nothing = record {
  order = [];
  distinct = tt;
  within = tt;
  each = λ t some most. ap (λ xs. get_or xs (t - 1) false) none ∙ get_or-replicate (length programs) (t - 1) false false (omega (arith, some, most));
  count = nobody;
  serial = same;
  ripe = λ some. absurd (omega (arith, some, nothing));
  rows = ap (λ n. take n (last_rows names h.table 0)) (sym nothing);
}

-- What stands begins a report: the numbers that the order lacks come behind it.
pub begins : (names : List Named) (opening : Tables) (programs : List Program) (h : Held) (lines : List (List ℕ)) → IsNames names → IsSound names programs h → Stands names opening programs h lines → IsBegun (AreReport names opening programs) lines
begins names opening programs h lines plain sound s = by h.told refl
  where
    order : List ℕ
    order = s.order

    last : List (List ℕ)
    last = last_rows names h.table (length s.order)

    front : List (List ℕ)
    front = order_rows opening programs s.order

    by : (n : ℕ) → h.told ≡ n → IsBegun (AreReport names opening programs) lines
    by zero start =
        let lacks : List ℕ = missing (length programs) s.order in
        let more : List (List ℕ) = rows_behind names h.table programs (length s.order) lacks in
        let once = completed (length programs) s.order s.distinct s.within in
        let rows : lines ++ more ≡ report_rows names opening programs (s.order ++ lacks) =
        ap (λ x. x ++ more) (s.rows ∙ ap (λ n. front ++ take n last) start ∙ append-nil front)
        ∙ ap (λ d. front ++ rows_behind names d programs (length s.order) lacks) s.serial
        ∙ sym (report-append names opening programs s.order lacks) in
        (more, reports names opening programs (s.order ++ lacks) (lines ++ more) plain sound.few once rows)
    by (suc n) some =
        let all = s.ripe (omega (arith, some)) in
        let once = whole-once (length programs) s.order s.distinct s.within (all-in names opening programs h lines sound s all) in
        let rows : lines ++ drop h.told last ≡ report_rows names opening programs s.order =
        ap (λ x. x ++ drop h.told last) s.rows ∙ append_assoc front (take h.told last) (drop h.told last) ∙ ap (λ x. front ++ x) (take-append-drop h.told last)
        ∙ ap (λ d. front ++ last_rows names d (length s.order)) s.serial in
        (drop h.told last, reports names opening programs s.order (lines ++ drop h.told last) plain sound.few once rows)

-- At the end of the lines: all have come, or the report is cut.

pub ends-whole : (names : List Named) (opening : Tables) (programs : List Program) (h : Held) (lines : List (List ℕ)) → IsNames names → IsSound names programs h → Stands names opening programs h lines
    → length names < h.told → AreReport names opening programs lines × (h.commits ≡ length programs)
ends-whole names opening programs h lines plain sound s over =
    let all = s.ripe (omega (arith, over)) in
    let last : List (List ℕ) = last_rows names h.table (length s.order) in
    let once = whole-once (length programs) s.order s.distinct s.within (all-in names opening programs h lines sound s all) in
    let rows : lines ≡ report_rows names opening programs s.order =
    s.rows ∙ ap (λ x. order_rows opening programs s.order ++ x) (take_all h.told last (omega (arith, over, last-many names h.table (length s.order))))
    ∙ ap (λ d. order_rows opening programs s.order ++ last_rows names d (length s.order)) s.serial in
    (reports names opening programs s.order lines plain sound.few once rows, all)

pub ends-cut : (names : List Named) (opening : Tables) (programs : List Program) (h : Held) (lines : List (List ℕ)) → IsNames names → IsSound names programs h → Stands names opening programs h lines
    → h.told ≤ length names → AreReport names opening programs lines → ⊥
ends-cut names opening programs h lines plain sound s short r =
    let o = onward names opening programs h lines [] plain sound.few s (subst (AreReport names opening programs) (sym (append-nil lines)) r) in
    let last : List (List ℕ) = last_rows names h.table (length s.order) in
    let there : length (take h.told last ++ []) ≡ length (rows_behind names h.table programs (length s.order) o.behind) = ap length o.rows in
    let cut : length (take h.told last ++ []) ≡ h.told = ap length (append-nil (take h.told last)) ∙ length-take-le h.told last (omega (arith, short, last-many names h.table (length s.order))) in
    let end : List (List ℕ) = last_rows names (last_tables h.table (in_order programs o.behind)) (length s.order + length o.behind) in
    let size = length-append (order_rows h.table programs o.behind) end in
    let most = last-many names (last_tables h.table (in_order programs o.behind)) (length s.order + length o.behind) in
    omega (arith, there, cut, size, most, short)
