-- The canonical spelling of a program is read as it.
use Rattle.std.proofs.Common.{◌≡◌, ℕ, zero, suc, ◌≤◌, ◌&&◌, Bool, true, List, [], ◌∷◌, ◌++◌, length, codes, Some, refl, sym, ap, ◌∙◌, subst, arith, append_assoc}
use Rattle.std.specs.Prelude.{pos, negsuc}
use Rattle.txn_runs.specs.declared.program.TableRef.{TableRef}
use Rattle.txn_runs.specs.declared.program.Operand.{Operand}
use Rattle.txn_runs.specs.declared.program.Operand.TheVariants.{Reg, Lit}
use Rattle.txn_runs.specs.declared.program.Op.{Op}
use Rattle.txn_runs.specs.declared.program.Cmp.{Cmp}
use Rattle.txn_runs.specs.declared.program.Stmt.{Stmt, out-Stmt}
use Rattle.txn_runs.specs.declared.program.Stmt.TheOpen.{Stmt-F}
use Rattle.txn_runs.specs.declared.program.Stmt.TheVariants as s
use Rattle.txn_runs.specs.declared.program.Stmt.TheViews.{roll-Stmt, roll-out-Stmt}
use Rattle.txn_runs.specs.declared.program.Stmt.TheFolds.{fold-roll-Stmt}
use Rattle.txn_runs.specs.declared.program.Block.{Block}
use Rattle.txn_runs.specs.Fold.{Row, of_stmt, of_layer, block_row}
use Rattle.txn_runs.proofs.Folds.{of_stmt_is, of_if_is, of_loop_is}
use Rattle.txn_runs.specs.Bounds.{plus, greater, size_row, register_row, count_row, size, registers_used, greatest_count}
use Rattle.txn_names.specs.Tables.{Named, IsNames}
use Rattle.txn_tokens.specs.declared.token.Token.{Token}
use Rattle.txn_tokens.specs.declared.token.Token.TheVariants as t
use Rattle.txn_syntax.specs.declared.place.Plain.{Plain}
use Rattle.txn_syntax.specs.declared.place.Plain.TheVariants as p
use Rattle.txn_syntax.specs.Grammar.{Text, Nothing, Simple, If, IfElse, Loop, operand, simple, opened_if, spelled}
use Rattle.txn_syntax.specs.Meaning.{statement_of, meant, term_fits, plain_fits, literals_fit}
use Rattle.txn_spelling.specs.Canonical.{stmt_text, stmts_text, braced, test_text, turns_text}
use Rattle.txn_spelling.specs.Strangers.{stranger, stranger_row, strangers}
use Rattle.txn_runs.specs.Bounds.{wide_row, wides}
use Rattle.txn_spelling.proofs.Texts.{text_calc, text_move, text_read, text_write, text_emit, text_fail, text_if, text_loop, else_none, else_some}
use Rattle.txn_spelling.proofs.Known.{AreKnown, known_append}
use Rattle.txn_spelling.proofs.Lexing.{Goes, goes_then}
use Rattle.txn_spelling.proofs.Operands.{IsFit, term_of, term_means}
use Rattle.txn_spelling.proofs.Statements.{fit, goes_calc, goes_move, goes_read, goes_write, goes_emitted, goes_failed, goes_test, goes_turns, goes_close, goes_else, three}

and_true : (a b : Bool) → a ≡ true → b ≡ true → (a && b) ≡ true
and_true a b is so = ap (λ x. x && b) is ∙ so

rolled : (row : Row) (join : ℕ → ℕ → ℕ) (layer : Stmt-F Stmt Block) (x : Stmt) → roll-Stmt layer ≡ x → of_stmt row join x ≡ of_layer row join layer
rolled row join layer x is = ap (of_stmt row join) (sym is) ∙ fold-roll-Stmt ℕ ℕ row (block_row join) layer

module _ (names : List Named) (good : IsNames names) where
  -- what is asked of statements
  pub record Fine (body : List Stmt) : Type 0 where
    pub registers : registers_used body ≤ 16
    pub loops : greatest_count body ≤ 1000
    pub own : strangers names body ≡ 0
    pub narrow : wides body ≡ 0

  -- a text that statements are spelled as
  pub record Spelling (body : List Stmt) : Type 0 where
    pub text : Text
    pub means : meant text ≡ body
    pub fits : literals_fit text ≡ true
    pub known : AreKnown names (spelled text)
    pub goes : (rest : List ℕ) → Goes names (stmts_text names body ++ rest) rest (spelled text)

  operand_known : (x : Operand) → AreKnown names (operand (term_of x))
  operand_known (Reg r) = (tt, tt)
  operand_known (Lit (pos n)) = (tt, tt)
  operand_known (Lit (negsuc n)) = (tt, (tt, tt))

  -- one more statement without blocks
  leaf : (x : Stmt) (plain : Plain) (xs : List Stmt) → statement_of plain ≡ x → plain_fits plain ≡ true → AreKnown names (simple plain) → ((rest : List ℕ) → Goes names (stmt_text names x ++ 32 ∷ rest) rest (simple plain)) → Spelling xs → Spelling (x ∷ xs)
  leaf x plain xs is fits known goes tail =
      record {
        text = Simple plain tail.text;
        means = λ i. is i ∷ tail.means i;
        fits = and_true (plain_fits plain) (literals_fit tail.text) fits tail.fits;
        known = known_append names (simple plain) (spelled tail.text) known tail.known;
        goes = λ rest.
            subst (λ bytes. Goes names bytes rest (simple plain ++ spelled tail.text)) (sym (append_assoc (stmt_text names x) (32 ∷ stmts_text names xs) rest))
            (goes_then names (goes (stmts_text names xs ++ rest)) (tail.goes rest));
      }

  said : (x : Stmt) (text rest : List ℕ) (ts : List Token) → stmt_text names x ≡ text → Goes names (text ++ 32 ∷ rest) rest ts → Goes names (stmt_text names x ++ 32 ∷ rest) rest ts
  said x text rest ts is go = subst (λ w. Goes names (w ++ 32 ∷ rest) rest ts) (sym is) go

  spell_calc : (to : ℕ) (left : Operand) (op : Op) (right : Operand) (xs : List Stmt) → Fine (s.Calc to left op right ∷ xs) → Spelling xs → Spelling (s.Calc to left op right ∷ xs)
  unfolding simple
  spell_calc to left op right xs fine tail =
      let layer : Stmt-F Stmt Block = Stmt-F.Calc to left op right in
      let x = s.Calc to left op right in
      let regs = rolled register_row greater layer x (s.rolls-Calc to left op right) in
      let narrow = rolled wide_row plus layer x (s.rolls-Calc to left op right) in
      let fl = fit left (omega (arith, fine.registers, regs)) (omega (arith, fine.narrow, narrow)) in
      let fr = fit right (omega (arith, fine.registers, regs)) (omega (arith, fine.narrow, narrow)) in
      leaf x (p.Calc to (term_of left) op (term_of right)) xs (λ i. s.Calc to (term_means left i) op (term_means right i)) (and_true (term_fits (term_of left)) (term_fits (term_of right)) fl.literal fr.literal)
      (tt, (tt, known_append names (operand (term_of left) ++ t.Op op ∷ operand (term_of right)) (t.Semicolon ∷ []) (known_append names (operand (term_of left)) (t.Op op ∷ operand (term_of right)) (operand_known left) (tt, operand_known right)) (tt, tt)))
      (λ rest. said x _ rest _ (text_calc names to left op right) (goes_calc names to left op right rest (omega (arith, fine.registers, regs)) fl fr)) tail

  spell_move : (to : ℕ) (from : Operand) (xs : List Stmt) → Fine (s.Move to from ∷ xs) → Spelling xs → Spelling (s.Move to from ∷ xs)
  unfolding simple
  spell_move to from xs fine tail =
      let layer : Stmt-F Stmt Block = Stmt-F.Move to from in
      let x = s.Move to from in
      let regs = rolled register_row greater layer x (s.rolls-Move to from) in
      let narrow = rolled wide_row plus layer x (s.rolls-Move to from) in
      let f = fit from (omega (arith, fine.registers, regs)) (omega (arith, fine.narrow, narrow)) in
      leaf x (p.Move to (term_of from)) xs (λ i. s.Move to (term_means from i)) f.literal
      (tt, (tt, known_append names (operand (term_of from)) (t.Semicolon ∷ []) (operand_known from) (tt, tt)))
      (λ rest. said x _ rest _ (text_move names to from) (goes_move names to from rest (omega (arith, fine.registers, regs)) f)) tail

  spell_read : (to : ℕ) (table : TableRef) (at : Operand) (xs : List Stmt) → Fine (s.Read to table at ∷ xs) → Spelling xs → Spelling (s.Read to table at ∷ xs)
  unfolding simple
  spell_read to table at xs fine tail =
      let layer : Stmt-F Stmt Block = Stmt-F.Read to table at in
      let x = s.Read to table at in
      let regs = rolled register_row greater layer x (s.rolls-Read to table at) in
      let narrow = rolled wide_row plus layer x (s.rolls-Read to table at) in
      let known : stranger names table ≡ 0 = omega (arith, fine.own, rolled (stranger_row names) plus layer x (s.rolls-Read to table at)) in
      let f = fit at (omega (arith, fine.registers, regs)) (omega (arith, fine.narrow, narrow)) in
      leaf x (p.Read to (Some table) (term_of at)) xs (λ i. s.Read to table (term_means at i)) f.literal
      (tt, (tt, (known, (tt, known_append names (operand (term_of at)) (t.CloseIndex ∷ t.Semicolon ∷ []) (operand_known at) (tt, (tt, tt))))))
      (λ rest. said x _ rest _ (text_read names to table at) (goes_read names to table at rest good known (omega (arith, fine.registers, regs)) f)) tail

  spell_write : (table : TableRef) (at from : Operand) (xs : List Stmt) → Fine (s.Write table at from ∷ xs) → Spelling xs → Spelling (s.Write table at from ∷ xs)
  unfolding simple
  spell_write table at from xs fine tail =
      let layer : Stmt-F Stmt Block = Stmt-F.Write table at from in
      let x = s.Write table at from in
      let regs = rolled register_row greater layer x (s.rolls-Write table at from) in
      let narrow = rolled wide_row plus layer x (s.rolls-Write table at from) in
      let known : stranger names table ≡ 0 = omega (arith, fine.own, rolled (stranger_row names) plus layer x (s.rolls-Write table at from)) in
      let fa = fit at (omega (arith, fine.registers, regs)) (omega (arith, fine.narrow, narrow)) in
      let ff = fit from (omega (arith, fine.registers, regs)) (omega (arith, fine.narrow, narrow)) in
      leaf x (p.Write (Some table) (term_of at) (term_of from)) xs (λ i. s.Write table (term_means at i) (term_means from i)) (and_true (term_fits (term_of at)) (term_fits (term_of from)) fa.literal ff.literal)
      (known, (tt, known_append names (operand (term_of at) ++ t.CloseIndex ∷ t.Assign ∷ operand (term_of from)) (t.Semicolon ∷ []) (known_append names (operand (term_of at)) (t.CloseIndex ∷ t.Assign ∷ operand (term_of from)) (operand_known at) (tt, (tt, operand_known from))) (tt, tt)))
      (λ rest. said x _ rest _ (text_write names table at from) (goes_write names table at from rest good known fa ff)) tail

  spell_emit : (from : Operand) (xs : List Stmt) → Fine (s.Emit from ∷ xs) → Spelling xs → Spelling (s.Emit from ∷ xs)
  unfolding simple
  spell_emit from xs fine tail =
      let layer : Stmt-F Stmt Block = Stmt-F.Emit from in
      let x = s.Emit from in
      let f = fit from (omega (arith, fine.registers, rolled register_row greater layer x (s.rolls-Emit from))) (omega (arith, fine.narrow, rolled wide_row plus layer x (s.rolls-Emit from))) in
      leaf x (p.Emit (term_of from)) xs (λ i. s.Emit (term_means from i)) f.literal
      (tt, known_append names (operand (term_of from)) (t.Semicolon ∷ []) (operand_known from) (tt, tt))
      (λ rest. said x _ rest _ (text_emit names from) (goes_emitted names from rest f)) tail

  spell_fail : (code : Operand) (xs : List Stmt) → Fine (s.Fail code ∷ xs) → Spelling xs → Spelling (s.Fail code ∷ xs)
  unfolding simple
  spell_fail code xs fine tail =
      let layer : Stmt-F Stmt Block = Stmt-F.Fail code in
      let x = s.Fail code in
      let f = fit code (omega (arith, fine.registers, rolled register_row greater layer x (s.rolls-Fail code))) (omega (arith, fine.narrow, rolled wide_row plus layer x (s.rolls-Fail code))) in
      leaf x (p.Fail (term_of code)) xs (λ i. s.Fail (term_means code i)) f.literal
      (tt, known_append names (operand (term_of code)) (t.Semicolon ∷ []) (operand_known code) (tt, tt))
      (λ rest. said x _ rest _ (text_fail names code) (goes_failed names code rest f)) tail

  test_known : (left : Operand) (cmp : Cmp) (right : Operand) → AreKnown names (opened_if (record { left = term_of left; cmp = cmp; right = term_of right }))
  unfolding opened_if
  test_known left cmp right =
      (tt, known_append names (operand (term_of left) ++ t.Cmp cmp ∷ operand (term_of right)) (t.OpenBlock ∷ []) (known_append names (operand (term_of left)) (t.Cmp cmp ∷ operand (term_of right)) (operand_known left) (tt, operand_known right)) (tt, tt))

  -- the bytes of an `if` with no `else`, of one with it, and of a loop
  if_bytes : (head first more rest : List ℕ) → head ++ (braced first ++ []) ++ 32 ∷ more ++ rest ≡ head ++ 123 ∷ 32 ∷ (first ++ 125 ∷ 32 ∷ (more ++ rest))
  if_bytes head first more rest = simp append_assoc refl

  else_bytes : (head first second more rest : List ℕ) → head ++ (braced first ++ (codes " else " ++ braced second)) ++ 32 ∷ more ++ rest ≡ head ++ 123 ∷ 32 ∷ (first ++ 125 ∷ (codes " else { " ++ (second ++ 125 ∷ 32 ∷ (more ++ rest))))
  else_bytes head first second more rest =
      let last : List ℕ = 32 ∷ (more ++ rest) in
      let tail : List ℕ = codes " else " ++ braced second in
      let behind : List ℕ = codes " else { " ++ (second ++ 125 ∷ last) in
      three head (braced first ++ tail) (32 ∷ more) rest
      ∙ ap (λ w. head ++ w) (append_assoc (braced first) tail last ∙ ap (λ w. braced first ++ (codes " else { " ++ w)) (append_assoc second (125 ∷ []) last) ∙ ap (λ w. 123 ∷ 32 ∷ w) (append_assoc first (125 ∷ []) behind))

  loop_bytes : (head first more rest : List ℕ) → head ++ braced first ++ 32 ∷ more ++ rest ≡ head ++ 123 ∷ 32 ∷ (first ++ 125 ∷ 32 ∷ (more ++ rest))
  loop_bytes head first more rest = simp append_assoc refl

  spell_if : (left : Operand) (cmp : Cmp) (right : Operand) (a b : Block) (xs : List Stmt) → Fine (s.If left cmp right a b ∷ xs) → Spelling a.stmts → Spelling b.stmts → Spelling xs → Spelling (s.If left cmp right a b ∷ xs)
  spell_if left cmp right a b xs fine f g tail = by b.stmts refl
    where
      fl : IsFit left
      fl = fit left (omega (arith, fine.registers, rolled register_row greater (Stmt-F.If left cmp right a b) (s.If left cmp right a b) (s.rolls-If left cmp right a b))) (omega (arith, fine.narrow, rolled wide_row plus (Stmt-F.If left cmp right a b) (s.If left cmp right a b) (s.rolls-If left cmp right a b)))

      fr : IsFit right
      fr = fit right (omega (arith, fine.registers, rolled register_row greater (Stmt-F.If left cmp right a b) (s.If left cmp right a b) (s.rolls-If left cmp right a b))) (omega (arith, fine.narrow, rolled wide_row plus (Stmt-F.If left cmp right a b) (s.If left cmp right a b) (s.rolls-If left cmp right a b)))

      by : (ys : List Stmt) → b.stmts ≡ ys → Spelling (s.If left cmp right a b ∷ xs)
      by [] is =
          record {
            text = If (record { left = term_of left; cmp = cmp; right = term_of right }) f.text tail.text;
            means = λ i. s.If (term_means left i) cmp (term_means right i) (record { stmts = f.means i }) (record { stmts = sym is i }) ∷ tail.means i;
            fits = and_true _ (literals_fit tail.text) (and_true _ (literals_fit f.text) (and_true (term_fits (term_of left)) (term_fits (term_of right)) fl.literal fr.literal) f.fits) tail.fits;
            known = known_append names (opened_if (record { left = term_of left; cmp = cmp; right = term_of right })) (spelled f.text ++ t.CloseBlock ∷ spelled tail.text) (test_known left cmp right) (known_append names (spelled f.text) (t.CloseBlock ∷ spelled tail.text) f.known (tt, tail.known));
            goes = λ rest.
                let more = stmts_text names xs in
                let text = text_if names left right cmp a b ∙ ap (λ e. test_text left cmp right ++ (braced (stmts_text names a.stmts) ++ e)) (else_none names b.stmts (ap length is)) in
                let bytes = ap (λ w. w ++ 32 ∷ more ++ rest) text ∙ if_bytes (test_text left cmp right) (stmts_text names a.stmts) more rest in
                subst (λ ws. Goes names ws rest (spelled (If (record { left = term_of left; cmp = cmp; right = term_of right }) f.text tail.text))) (sym bytes)
                (goes_then names (goes_test names left cmp right (stmts_text names a.stmts ++ 125 ∷ 32 ∷ (more ++ rest)) fl fr)
                (goes_then names (f.goes (125 ∷ 32 ∷ (more ++ rest))) (goes_then names (goes_close names (more ++ rest)) (tail.goes rest))));
          }
      by (y ∷ ys) is =
          let ends : List Token = t.CloseBlock ∷ spelled tail.text in
          let middle : List Token = t.CloseBlock ∷ t.Else ∷ t.OpenBlock ∷ (spelled g.text ++ ends) in
          record {
            text = IfElse (record { left = term_of left; cmp = cmp; right = term_of right }) f.text g.text tail.text;
            means = λ i. s.If (term_means left i) cmp (term_means right i) (record { stmts = f.means i }) (record { stmts = g.means i }) ∷ tail.means i;
            fits = and_true _ (literals_fit tail.text) (and_true _ _ (and_true (term_fits (term_of left)) (term_fits (term_of right)) fl.literal fr.literal) (and_true (literals_fit f.text) (literals_fit g.text) f.fits g.fits)) tail.fits;
            known = known_append names (opened_if (record { left = term_of left; cmp = cmp; right = term_of right })) (spelled f.text ++ middle) (test_known left cmp right) (known_append names (spelled f.text) middle f.known (tt, (tt, (tt, known_append names (spelled g.text) ends g.known (tt, tail.known)))));
            goes = λ rest.
                let more = stmts_text names xs in
                let text = text_if names left right cmp a b ∙ ap (λ e. test_text left cmp right ++ (braced (stmts_text names a.stmts) ++ e)) (else_some names b.stmts (omega (arith, ap length is))) in
                let bytes = ap (λ w. w ++ 32 ∷ more ++ rest) text ∙ else_bytes (test_text left cmp right) (stmts_text names a.stmts) (stmts_text names b.stmts) more rest in
                subst (λ ws. Goes names ws rest (spelled (IfElse (record { left = term_of left; cmp = cmp; right = term_of right }) f.text g.text tail.text))) (sym bytes)
                (goes_then names (goes_test names left cmp right (stmts_text names a.stmts ++ 125 ∷ (codes " else { " ++ (stmts_text names b.stmts ++ 125 ∷ 32 ∷ (more ++ rest)))) fl fr)
                (goes_then names (f.goes (125 ∷ (codes " else { " ++ (stmts_text names b.stmts ++ 125 ∷ 32 ∷ (more ++ rest)))))
                (goes_then names (goes_else names (stmts_text names b.stmts ++ 125 ∷ 32 ∷ (more ++ rest)))
                (goes_then names (g.goes (125 ∷ 32 ∷ (more ++ rest))) (goes_then names (goes_close names (more ++ rest)) (tail.goes rest))))));
          }

  spell_loop : (count : ℕ) (body : Block) (xs : List Stmt) → Fine (s.Loop count body ∷ xs) → Spelling body.stmts → Spelling xs → Spelling (s.Loop count body ∷ xs)
  spell_loop count body xs fine f tail =
      record {
        text = Loop count f.text tail.text;
        means = λ i. s.Loop count (record { stmts = f.means i }) ∷ tail.means i;
        fits = and_true (literals_fit f.text) (literals_fit tail.text) f.fits tail.fits;
        known = (tt, (tt, (tt, known_append names (spelled f.text) (t.CloseBlock ∷ spelled tail.text) f.known (tt, tail.known))));
        goes = λ rest.
            let more = stmts_text names xs in
            let bytes = ap (λ w. w ++ 32 ∷ more ++ rest) (text_loop names count body) ∙ loop_bytes (turns_text count) (stmts_text names body.stmts) more rest in
            subst (λ ws. Goes names ws rest (spelled (Loop count f.text tail.text))) (sym bytes)
            (goes_then names (goes_turns names count (stmts_text names body.stmts ++ 125 ∷ 32 ∷ (more ++ rest)) (omega (arith, fine.loops, of_loop_is count_row greater count body)))
            (goes_then names (f.goes (125 ∷ 32 ∷ (more ++ rest))) (goes_then names (goes_close names (more ++ rest)) (tail.goes rest))));
      }

  abbrev Shorter : ℕ → Type 0
  Shorter n = (ys : List Stmt) → size ys ≤ n → Fine ys → Spelling ys

  one : (n : ℕ) → Shorter n → (x : Stmt) (xs : List Stmt) → of_stmt size_row plus x ≤ suc n → Fine (x ∷ xs) → Spelling xs → (layer : Stmt-F Stmt Block) → roll-Stmt layer ≡ x → Spelling (x ∷ xs)
  one n each x xs le fine tail (Stmt-F.Calc to left op right) e =
      let same : s.Calc to left op right ≡ x = sym (s.rolls-Calc to left op right) ∙ e in
      subst (λ y. Spelling (y ∷ xs)) same (spell_calc to left op right xs (subst (λ y. Fine (y ∷ xs)) (sym same) fine) tail)
  one n each x xs le fine tail (Stmt-F.Move to from) e =
      let same : s.Move to from ≡ x = sym (s.rolls-Move to from) ∙ e in
      subst (λ y. Spelling (y ∷ xs)) same (spell_move to from xs (subst (λ y. Fine (y ∷ xs)) (sym same) fine) tail)
  one n each x xs le fine tail (Stmt-F.Read to table at) e =
      let same : s.Read to table at ≡ x = sym (s.rolls-Read to table at) ∙ e in
      subst (λ y. Spelling (y ∷ xs)) same (spell_read to table at xs (subst (λ y. Fine (y ∷ xs)) (sym same) fine) tail)
  one n each x xs le fine tail (Stmt-F.Write table at from) e =
      let same : s.Write table at from ≡ x = sym (s.rolls-Write table at from) ∙ e in
      subst (λ y. Spelling (y ∷ xs)) same (spell_write table at from xs (subst (λ y. Fine (y ∷ xs)) (sym same) fine) tail)
  one n each x xs le fine tail (Stmt-F.If left cmp right a b) e =
      let same : s.If left cmp right a b ≡ x = sym (s.rolls-If left cmp right a b) ∙ e in
      let sizes = ap (of_stmt size_row plus) same in
      let is = of_if_is size_row plus left right cmp a b in
      let whole : Fine (s.If left cmp right a b ∷ xs) = subst (λ y. Fine (y ∷ xs)) (sym same) fine in
      let regs = of_if_is register_row greater left right cmp a b in
      let counts = of_if_is count_row greater left right cmp a b in
      let owns = of_if_is (stranger_row names) plus left right cmp a b in
      let narrow = of_if_is wide_row plus left right cmp a b in
      let fa : Fine a.stmts = record { registers = omega (arith, whole.registers, regs); loops = omega (arith, whole.loops, counts); own = omega (arith, whole.own, owns); narrow = omega (arith, whole.narrow, narrow) } in
      let fb : Fine b.stmts = record { registers = omega (arith, whole.registers, regs); loops = omega (arith, whole.loops, counts); own = omega (arith, whole.own, owns); narrow = omega (arith, whole.narrow, narrow) } in
      subst (λ y. Spelling (y ∷ xs)) same (spell_if left cmp right a b xs whole (each a.stmts (omega (arith, sizes, is, le)) fa) (each b.stmts (omega (arith, sizes, is, le)) fb) tail)
  one n each x xs le fine tail (Stmt-F.Loop count body) e =
      let same : s.Loop count body ≡ x = sym (s.rolls-Loop count body) ∙ e in
      let sizes = ap (of_stmt size_row plus) same in
      let is = of_loop_is size_row plus count body in
      let whole : Fine (s.Loop count body ∷ xs) = subst (λ y. Fine (y ∷ xs)) (sym same) fine in
      let inner : Fine body.stmts =
      record {
        registers = omega (arith, whole.registers, of_loop_is register_row greater count body);
        loops = omega (arith, whole.loops, of_loop_is count_row greater count body);
        own = omega (arith, whole.own, of_loop_is (stranger_row names) plus count body);
        narrow = omega (arith, whole.narrow, of_loop_is wide_row plus count body);
      } in
      subst (λ y. Spelling (y ∷ xs)) same (spell_loop count body xs whole (each body.stmts (omega (arith, sizes, is, le)) inner) tail)
  one n each x xs le fine tail (Stmt-F.Emit from) e =
      let same : s.Emit from ≡ x = sym (s.rolls-Emit from) ∙ e in
      subst (λ y. Spelling (y ∷ xs)) same (spell_emit from xs (subst (λ y. Fine (y ∷ xs)) (sym same) fine) tail)
  one n each x xs le fine tail (Stmt-F.Fail code) e =
      let same : s.Fail code ≡ x = sym (s.rolls-Fail code) ∙ e in
      subst (λ y. Spelling (y ∷ xs)) same (spell_fail code xs (subst (λ y. Fine (y ∷ xs)) (sym same) fine) tail)

  some : (x : Stmt) (layer : Stmt-F Stmt Block) → out-Stmt x ≡ layer → 1 ≤ of_stmt size_row plus x
  some x (Stmt-F.Calc to left op right) e = omega (arith, of_stmt_is size_row plus x, ap (of_layer size_row plus) e)
  some x (Stmt-F.Move to from) e = omega (arith, of_stmt_is size_row plus x, ap (of_layer size_row plus) e)
  some x (Stmt-F.Read to table at) e = omega (arith, of_stmt_is size_row plus x, ap (of_layer size_row plus) e)
  some x (Stmt-F.Write table at from) e = omega (arith, of_stmt_is size_row plus x, ap (of_layer size_row plus) e)
  some x (Stmt-F.If left cmp right a b) e = omega (arith, of_stmt_is size_row plus x, ap (of_layer size_row plus) e)
  some x (Stmt-F.Loop count body) e = omega (arith, of_stmt_is size_row plus x, ap (of_layer size_row plus) e)
  some x (Stmt-F.Emit from) e = omega (arith, of_stmt_is size_row plus x, ap (of_layer size_row plus) e)
  some x (Stmt-F.Fail code) e = omega (arith, of_stmt_is size_row plus x, ap (of_layer size_row plus) e)

  spell : (n : ℕ) → Shorter n
  spell n [] le fine = record { text = Nothing; means = refl; fits = refl; known = tt; goes = λ rest. record { go = λ at. (at, refl) } }
  spell zero (x ∷ xs) le fine = absurd (omega (arith, le, some x (out-Stmt x) refl))
  spell (suc n) (x ∷ xs) le fine =
      let least = some x (out-Stmt x) refl in
      let rest : Fine xs = record { registers = omega (arith, fine.registers); loops = omega (arith, fine.loops); own = omega (arith, fine.own); narrow = omega (arith, fine.narrow) } in
      one n (λ ys less f. spell n ys less f) x xs (omega (arith, le)) fine (spell n xs (omega (arith, le, least)) rest) (out-Stmt x) (roll-out-Stmt x)

  pub spelling : (body : List Stmt) → Fine body → Spelling body
  spelling body fine = spell (size body) body (omega arith) fine
