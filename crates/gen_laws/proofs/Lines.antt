-- The lines of the generator's text, and what a batch makes of them.
use Rattle.std.proofs.Common.{◌≡◌, ◌≤◌, ◌<◌, ◌^◌, ℕ, zero, suc, ◌+◌, ◌-◌, ◌*◌, ◌%◌, ◌&&◌, Bool, true, false, nat_le, if◌then◌else◌, List, [], ◌∷◌, ◌++◌, length, map, take, drop, replicate, get_or, Some, Ok, Err, refl, sym, ap, ◌∙◌, arith, append_assoc, append-nil, length-append, lt-ltb, le-ltb, le-leb, ne_eqb, true≢false}
use Rattle.std.specs.Prelude.{pos, codes, decimal, not}
use Rattle.std.specs.List.{AllByRecursion, All, flat_map, range_with_len, slice_split, list_all}
use Rattle.std.proofs.lemmas.Fmt.{length-decimal-le, decimal_nonempty, decimal_digit}
use Rattle.std.proofs.lemmas.List.{drop_at, take_all, get_or_push}
use Rattle.std.proofs.lemmas.List.FromFn.{length-map-range_with_len}
use Rattle.std.proofs.lemmas.List.Splits.{slice_split_at}
use Rattle.std.proofs.lemmas.Nat.{mod_below}
use Rattle.txn_names.specs.Tables.{Named, IsTable, IsNames}
use Rattle.txn_runs.specs.Bounds.{IsProgram, plus, greater, wide_row, register_row, count_row, size_row, depth_row, steps_row, emits_row}
use Rattle.txn_runs.specs.Fold.{Row, of_list}
use Rattle.txn_runs.specs.declared.program.Op.TheVariants.{Add, Sub}
use Rattle.txn_runs.specs.declared.program.Operand.TheVariants.{Reg, Lit}
use Rattle.txn_runs.specs.declared.program.Op.{Op}
use Rattle.txn_runs.specs.declared.program.Stmt.TheOpen.{Stmt-F}
use Rattle.txn_runs.specs.declared.program.Stmt.TheVariants.{Calc, Read, Write, Loop, Emit}
use Rattle.txn_runs.proofs.Folds.{of_loop_is}
use Rattle.txn_runs.specs.declared.program.Stmt.{Stmt}
use Rattle.txn_spelling.specs.Canonical.{canonical, op_text, stmt_text, stmts_text}
use Rattle.txn_spelling.specs.Strangers.{stranger_row, strangers}
use Rattle.txn_spelling.proofs.Texts.{text_calc, text_read, text_write, text_loop, text_emit}
use Rattle.txn_spelling.proofs.ReadBack.{read_back}
use Rattle.txn_syntax.specs.Reads.{read_of}
use Rattle.txn_syntax.specs.declared.place.Plain.TheVariants as plain
use Rattle.txn_syntax.specs.declared.place.Term.TheVariants.{Register, Number}
use Rattle.txn_syntax.proofs.Measured.{leaf_is}
use Rattle.scc_text.specs.declared.command.Dialect.TheVariants as dialects
use Rattle.scc_text.specs.declared.command.Command.TheVariants.{Begin}
use Rattle.scc_text.specs.Command.{command_of, command_in, program_bytes}
use Rattle.scc_text.specs.Number.{natural_of, with_number, if_fits}
use Rattle.scc_text.specs.Words.{Word, is_blank, placed_words, words_from, words_of, trim_end}
use Rattle.scc_text.proofs.Trimmed.{trim_end-stop}
use Rattle.batch_input.specs.Input.{Batch, no_batch, batch_input, lines_from, go_on, after_line, after_command, after_begin}
use Rattle.report_text.proofs.Rows.{natural-decimal}
use Rattle.report_text.proofs.Told.{lines-back}
use Rattle.report_text.proofs.Cuts.{IsDigit, IsWithout, AreLines, unlines, decimal-digits, decimal-without, without-append, lacks, lacking}
use Rattle.scc_gen.specs.declared.lines.Transfer.{Transfer}
use Rattle.scc_gen.specs.Generated.{part, taking, giving, transfer_line, drawn, transfer, transfers, gen_text}
use Rattle.gen_laws.specs.Programs.{names, accounts, counting, program, request, generated}
use Rattle.gen_laws.proofs.Runs.{IsSmall}

-- A line in pieces: texts, each with a number behind it, and a last text.

abbrev Pieces : Type 0
Pieces = List (List ℕ × ℕ)

unfoldable spell : Pieces → List ℕ → List ℕ
spell [] last = last
spell (p ∷ ps) last = p.0 ++ (decimal p.1 ++ spell ps last)

-- the program's pieces
unfoldable program_pieces : Transfer → Pieces
program_pieces t =
    (codes "{ r0 = acct[", t.from)
    ∷ (codes "]; r1 = r0 - ", t.amount)
    ∷ (codes "; acct[", t.from)
    ∷ (codes "] = r1; r2 = acct[", t.to)
    ∷ (codes "]; r3 = r2 + ", t.amount)
    ∷ (codes "; acct[", t.to)
    ∷ (codes "] = r3; loop ", t.turns)
    ∷ (codes " { r4 = r4 + 1; } emit ", t.amount)
    ∷ []

-- the program as it is written, up to its last brace
unfoldable inner : Transfer → List ℕ
inner t = spell (program_pieces t) (codes "; ")

-- the line without its newline
unfoldable line : Transfer → List ℕ
line t = codes "begin" ++ 32 ∷ (decimal t.deadline ++ 32 ∷ (inner t ++ 125 ∷ []))

spell-append : (ps : Pieces) (last more : List ℕ) → spell ps last ++ more ≡ spell ps (last ++ more)
unfolding spell
spell-append [] last more = refl
spell-append (p ∷ ps) last more =
    append_assoc p.0 (decimal p.1 ++ spell ps last) more
    ∙ ap (λ x. p.0 ++ x) (append_assoc (decimal p.1) (spell ps last) more ∙ ap (λ x. decimal p.1 ++ x) (spell-append ps last more))

-- The same bytes, grouped otherwise.

two : (x a rest : List ℕ) → x ++ a ++ rest ≡ x ++ (a ++ rest)
two x a rest = append_assoc x a rest

three : (x a b rest : List ℕ) → x ++ a ++ b ++ rest ≡ x ++ (a ++ (b ++ rest))
three x a b rest = append_assoc (x ++ a) b rest ∙ append_assoc x a (b ++ rest)

five : (x a b c e rest : List ℕ) → x ++ a ++ b ++ c ++ e ++ rest ≡ x ++ (a ++ (b ++ (c ++ (e ++ rest))))
five x a b c e rest = append_assoc (x ++ a ++ b ++ c) e rest ∙ append_assoc (x ++ a ++ b) c (e ++ rest) ∙ three x a b (c ++ (e ++ rest))

part-then : (before : List ℕ) (n : ℕ) (behind rest : List ℕ) → part before n behind ++ rest ≡ before ++ (decimal n ++ (behind ++ rest))
unfolding part
part-then before n behind rest = three before (decimal n) behind rest

part-last : (before : List ℕ) (n : ℕ) (behind : List ℕ) → part before n behind ≡ before ++ (decimal n ++ behind)
unfolding part
part-last before n behind = append_assoc before (decimal n) behind

line-last : (t : Transfer) → line t ++ 10 ∷ [] ≡ codes "begin " ++ (decimal t.deadline ++ 32 ∷ spell (program_pieces t) (codes "; }\n"))
unfolding line inner
line-last t =
    ap (λ x. codes "begin " ++ x) (append_assoc (decimal t.deadline) (32 ∷ (inner t ++ 125 ∷ [])) (10 ∷ []))
    ∙ ap (λ x. codes "begin " ++ (decimal t.deadline ++ 32 ∷ x)) (append_assoc (inner t) (125 ∷ []) (10 ∷ []) ∙ spell-append (program_pieces t) (codes "; ") (125 ∷ 10 ∷ []))

-- the generator's line
line-text : (t : Transfer) → transfer_line t ≡ line t ++ 10 ∷ []
unfolding transfer_line taking giving line inner spell program_pieces
line-text t =
    let first : List ℕ = part (codes "begin ") t.deadline (codes " {") in
    let from1 : List ℕ = part (codes " r0 = acct[") t.from (codes "];") in
    let from2 : List ℕ = part (codes " r1 = r0 - ") t.amount (codes ";") in
    let from3 : List ℕ = part (codes " acct[") t.from (codes "] = r1;") in
    let to1 : List ℕ = part (codes " r2 = acct[") t.to (codes "];") in
    let to2 : List ℕ = part (codes " r3 = r2 + ") t.amount (codes ";") in
    let to3 : List ℕ = part (codes " acct[") t.to (codes "] = r3;") in
    let loop : List ℕ = part (codes " loop ") t.turns (codes " { r4 = r4 + 1; }") in
    let last : List ℕ = part (codes " emit ") t.amount (codes "; }\n") in
    let rest8 : List ℕ = codes " emit " ++ (decimal t.amount ++ codes "; }\n") in
    let rest7 : List ℕ = codes " loop " ++ (decimal t.turns ++ (codes " { r4 = r4 + 1; }" ++ rest8)) in
    let rest6 : List ℕ = codes " acct[" ++ (decimal t.to ++ (codes "] = r3;" ++ rest7)) in
    let rest5 : List ℕ = codes " r3 = r2 + " ++ (decimal t.amount ++ (codes ";" ++ rest6)) in
    let rest4 : List ℕ = codes " r2 = acct[" ++ (decimal t.to ++ (codes "];" ++ rest5)) in
    let rest3 : List ℕ = codes " acct[" ++ (decimal t.from ++ (codes "] = r1;" ++ rest4)) in
    let rest2 : List ℕ = codes " r1 = r0 - " ++ (decimal t.amount ++ (codes ";" ++ rest3)) in
    let rest1 : List ℕ = codes " r0 = acct[" ++ (decimal t.from ++ (codes "];" ++ rest2)) in
    three (first ++ (from1 ++ from2 ++ from3)) (to1 ++ to2 ++ to3) loop last
    ∙ append_assoc first (from1 ++ from2 ++ from3) ((to1 ++ to2 ++ to3) ++ (loop ++ last))
    ∙ ap (λ x. first ++ ((from1 ++ from2 ++ from3) ++ ((to1 ++ to2 ++ to3) ++ (loop ++ x)))) (part-last (codes " emit ") t.amount (codes "; }\n"))
    ∙ ap (λ x. first ++ ((from1 ++ from2 ++ from3) ++ ((to1 ++ to2 ++ to3) ++ x))) (part-then (codes " loop ") t.turns (codes " { r4 = r4 + 1; }") rest8)
    ∙ ap (λ x. first ++ ((from1 ++ from2 ++ from3) ++ x)) (three to1 to2 to3 rest7
    ∙ ap (λ x. to1 ++ (to2 ++ x)) (part-then (codes " acct[") t.to (codes "] = r3;") rest7)
    ∙ ap (λ x. to1 ++ x) (part-then (codes " r3 = r2 + ") t.amount (codes ";") rest6)
    ∙ part-then (codes " r2 = acct[") t.to (codes "];") rest5)
    ∙ ap (λ x. first ++ x) (three from1 from2 from3 rest4
    ∙ ap (λ x. from1 ++ (from2 ++ x)) (part-then (codes " acct[") t.from (codes "] = r1;") rest4)
    ∙ ap (λ x. from1 ++ x) (part-then (codes " r1 = r0 - ") t.amount (codes ";") rest3)
    ∙ part-then (codes " r0 = acct[") t.from (codes "];") rest2)
    ∙ part-then (codes "begin ") t.deadline (codes " {") rest1
    ∙ sym (line-last t)

-- Statements as they are written, with what comes behind them.

read-text : (to place : ℕ) (rest : List ℕ) → to < 10
    → stmt_text names (Read to accounts (Lit (pos place))) ++ rest ≡ (114 ∷ (48 + to) ∷ codes " = acct[") ++ (decimal place ++ (codes "];" ++ rest))
read-text to place rest small =
    ap (λ x. x ++ rest) (text_read names to accounts (Lit (pos place)))
    ∙ ap (λ d. codes "r" ++ d ++ codes " = " ++ (codes "acct" ++ codes "[" ++ decimal place ++ codes "]") ++ codes ";" ++ rest) (decimal_digit to small)
    ∙ ap (λ x. (114 ∷ (48 + to) ∷ codes " = acct[") ++ x) (three (decimal place) (codes "]") (codes ";") rest)

calc-text : (to left : ℕ) (op : Op) (right : ℕ) (rest : List ℕ) → to < 10 → left < 10
    → stmt_text names (Calc to (Reg left) op (Lit (pos right))) ++ rest
    ≡ (114 ∷ (48 + to) ∷ codes " = r") ++ ((48 + left) ∷ 32 ∷ (op_text op ++ (32 ∷ (decimal right ++ (codes ";" ++ rest)))))
calc-text to left op right rest small less =
    ap (λ x. x ++ rest) (text_calc names to (Reg left) op (Lit (pos right)))
    ∙ ap (λ d. codes "r" ++ d ++ codes " = " ++ (codes "r" ++ decimal left) ++ codes " " ++ op_text op ++ codes " " ++ decimal right ++ codes ";" ++ rest) (decimal_digit to small)
    ∙ ap (λ d. codes "r" ++ ((48 + to) ∷ []) ++ codes " = " ++ (codes "r" ++ d) ++ codes " " ++ op_text op ++ codes " " ++ decimal right ++ codes ";" ++ rest) (decimal_digit left less)
    ∙ ap (λ x. (114 ∷ (48 + to) ∷ codes " = r") ++ ((48 + left) ∷ 32 ∷ x)) (four (op_text op) (codes " ") (decimal right) (codes ";") rest)
  where
    four : (x a b c rest : List ℕ) → x ++ a ++ b ++ c ++ rest ≡ x ++ (a ++ (b ++ (c ++ rest)))
    four x a b c rest = append_assoc (x ++ a ++ b) c rest ∙ three x a b (c ++ rest)

write-text : (place from : ℕ) (rest : List ℕ) → from < 10
    → stmt_text names (Write accounts (Lit (pos place)) (Reg from)) ++ rest ≡ codes "acct[" ++ (decimal place ++ (codes "] = r" ++ ((48 + from) ∷ (codes ";" ++ rest))))
write-text place from rest small =
    ap (λ x. x ++ rest) (text_write names accounts (Lit (pos place)) (Reg from))
    ∙ ap (λ d. codes "acct" ++ codes "[" ++ decimal place ++ codes "]" ++ codes " = " ++ (codes "r" ++ d) ++ codes ";" ++ rest) (decimal_digit from small)
    ∙ ap (λ x. codes "acct[" ++ x) (five (decimal place) (codes "]") (codes " = ") (114 ∷ (48 + from) ∷ []) (codes ";") rest)

emit-text : (from : ℕ) (rest : List ℕ) → stmt_text names (Emit (Lit (pos from))) ++ rest ≡ codes "emit " ++ (decimal from ++ (codes ";" ++ rest))
emit-text from rest = ap (λ x. x ++ rest) (text_emit names (Lit (pos from))) ∙ three (codes "emit ") (decimal from) (codes ";") rest

loop-text : (count : ℕ) (rest : List ℕ) → stmt_text names (Loop count (record { stmts = counting ∷ [] })) ++ rest ≡ codes "loop " ++ (decimal count ++ (codes " { r4 = r4 + 1; }" ++ rest))
loop-text count rest =
    let body : stmts_text names (counting ∷ []) ≡ codes "r4 = r4 + 1; " =
    calc-text 4 4 Add 1 (codes " ") (omega arith) (omega arith) ∙ ap (λ d. codes "r4 = r4 + " ++ (d ++ codes "; ")) (decimal_digit 1 (omega arith)) in
    ap (λ x. x ++ rest) (text_loop names count (record { stmts = counting ∷ [] }))
    ∙ ap (λ b. codes "loop " ++ decimal count ++ codes " " ++ (codes "{ " ++ b ++ codes "}") ++ rest) body
    ∙ ap (λ x. codes "loop " ++ x) (three (decimal count) (codes " ") (codes "{ r4 = r4 + 1; }") rest)

-- statements up to the brace behind them
closed : List Stmt → List ℕ
closed [] = 125 ∷ []
closed (s ∷ ss) = stmt_text names s ++ 32 ∷ closed ss

closed-is : (ss : List Stmt) → stmts_text names ss ++ 125 ∷ [] ≡ closed ss
unfolding closed
closed-is [] = refl
closed-is (s ∷ ss) = append_assoc (stmt_text names s) (32 ∷ stmts_text names ss) (125 ∷ []) ∙ ap (λ x. stmt_text names s ++ 32 ∷ x) (closed-is ss)

program-text : (t : Transfer) → canonical names (program t) ≡ inner t ++ 125 ∷ []
unfolding program inner spell program_pieces closed
program-text t =
    let s1 : Stmt = Read 0 accounts (Lit (pos t.from)) in
    let s2 : Stmt = Calc 1 (Reg 0) Sub (Lit (pos t.amount)) in
    let s3 : Stmt = Write accounts (Lit (pos t.from)) (Reg 1) in
    let s4 : Stmt = Read 2 accounts (Lit (pos t.to)) in
    let s5 : Stmt = Calc 3 (Reg 2) Add (Lit (pos t.amount)) in
    let s6 : Stmt = Write accounts (Lit (pos t.to)) (Reg 3) in
    let s7 : Stmt = Loop t.turns (record { stmts = counting ∷ [] }) in
    let rest8 : List ℕ = codes "emit " ++ (decimal t.amount ++ codes "; }") in
    let rest7 : List ℕ = codes "loop " ++ (decimal t.turns ++ (codes " { r4 = r4 + 1; } " ++ rest8)) in
    let rest6 : List ℕ = codes "acct[" ++ (decimal t.to ++ (codes "] = r3; " ++ rest7)) in
    let rest5 : List ℕ = codes "r3 = r2 + " ++ (decimal t.amount ++ (codes "; " ++ rest6)) in
    let rest4 : List ℕ = codes "r2 = acct[" ++ (decimal t.to ++ (codes "]; " ++ rest5)) in
    let rest3 : List ℕ = codes "acct[" ++ (decimal t.from ++ (codes "] = r1; " ++ rest4)) in
    let rest2 : List ℕ = codes "r1 = r0 - " ++ (decimal t.amount ++ (codes "; " ++ rest3)) in
    let t1 = stmt_text names s1 in
    let t2 = stmt_text names s2 in
    let t3 = stmt_text names s3 in
    let t4 = stmt_text names s4 in
    let t5 = stmt_text names s5 in
    let t6 = stmt_text names s6 in
    let t7 = stmt_text names s7 in
    ap (λ x. codes "{ " ++ x) (closed-is (program t)
    ∙ ap (λ x. t1 ++ 32 ∷ (t2 ++ 32 ∷ (t3 ++ 32 ∷ (t4 ++ 32 ∷ (t5 ++ 32 ∷ (t6 ++ 32 ∷ (t7 ++ 32 ∷ x))))))) (emit-text t.amount (codes " }"))
    ∙ ap (λ x. t1 ++ 32 ∷ (t2 ++ 32 ∷ (t3 ++ 32 ∷ (t4 ++ 32 ∷ (t5 ++ 32 ∷ (t6 ++ 32 ∷ x)))))) (loop-text t.turns (32 ∷ rest8))
    ∙ ap (λ x. t1 ++ 32 ∷ (t2 ++ 32 ∷ (t3 ++ 32 ∷ (t4 ++ 32 ∷ (t5 ++ 32 ∷ x))))) (write-text t.to 3 (32 ∷ rest7) (omega arith))
    ∙ ap (λ x. t1 ++ 32 ∷ (t2 ++ 32 ∷ (t3 ++ 32 ∷ (t4 ++ 32 ∷ x)))) (calc-text 3 2 Add t.amount (32 ∷ rest6) (omega arith) (omega arith))
    ∙ ap (λ x. t1 ++ 32 ∷ (t2 ++ 32 ∷ (t3 ++ 32 ∷ x))) (read-text 2 t.to (32 ∷ rest5) (omega arith))
    ∙ ap (λ x. t1 ++ 32 ∷ (t2 ++ 32 ∷ x)) (write-text t.from 1 (32 ∷ rest4) (omega arith))
    ∙ ap (λ x. t1 ++ 32 ∷ x) (calc-text 1 0 Sub t.amount (32 ∷ rest3) (omega arith) (omega arith))
    ∙ read-text 0 t.from (32 ∷ rest2) (omega arith))
    ∙ sym (spell-append (program_pieces t) (codes "; ") (125 ∷ []))

-- What is read.

names-tables : (k : ℕ) (d : Named) → k < length names → IsTable (get_or names k d)
names-tables zero d within = record { name = refl; some = omega arith; most = omega arith }
names-tables (suc k) d within = absurd (omega (arith, within))

names-are : IsNames names
names-are = record {
  tables = names-tables;
  distinct = λ i j d low high. absurd (omega (arith, low, high));
  count = omega arith;
  items = omega arith;
}

-- a number of the program by a row for each kind of statement
program-rows : (t : Transfer) (row : Row) (join : ℕ → ℕ → ℕ) → of_list row join (program t)
    ≡ join (row (Stmt-F.Read 0 accounts (Lit (pos t.from))))
    (join (row (Stmt-F.Calc 1 (Reg 0) Sub (Lit (pos t.amount))))
    (join (row (Stmt-F.Write accounts (Lit (pos t.from)) (Reg 1)))
    (join (row (Stmt-F.Read 2 accounts (Lit (pos t.to))))
    (join (row (Stmt-F.Calc 3 (Reg 2) Add (Lit (pos t.amount))))
    (join (row (Stmt-F.Write accounts (Lit (pos t.to)) (Reg 3)))
    (join (row (Stmt-F.Loop t.turns (join (row (Stmt-F.Calc 4 (Reg 4) Add (Lit (pos 1)))) 0)))
    (join (row (Stmt-F.Emit (Lit (pos t.amount)))) 0)))))))
unfolding program
program-rows t row join =
    rw (
      leaf_is row join (plain.Read 0 (Some accounts) (Number t.from)),
      leaf_is row join (plain.Calc 1 (Register 0) Sub (Number t.amount)),
      leaf_is row join (plain.Write (Some accounts) (Number t.from) (Register 1)),
      leaf_is row join (plain.Read 2 (Some accounts) (Number t.to)),
      leaf_is row join (plain.Calc 3 (Register 2) Add (Number t.amount)),
      leaf_is row join (plain.Write (Some accounts) (Number t.to) (Register 3)),
      of_loop_is row join t.turns (record { stmts = counting ∷ [] }),
      leaf_is row join (plain.Calc 4 (Register 4) Add (Number 1)),
      leaf_is row join (plain.Emit (Number t.amount)),
    ) refl

fits-program : (t : Transfer) → IsSmall t → IsProgram (program t)
fits-program t small =
    let f = small.from in
    let o = small.to in
    let a = small.amount in
    let n = small.turns in
    record {
      literals = program-rows t wide_row plus
          ∙ rw (lt-ltb t.from (2 ^ 63) (omega (arith, f)), lt-ltb t.to (2 ^ 63) (omega (arith, o)), lt-ltb t.amount (2 ^ 63) (omega (arith, a))) refl;
      registers = omega (arith, program-rows t register_row greater);
      loops = omega (arith, n, program-rows t count_row greater);
      statements = omega (arith, program-rows t size_row plus);
      deep = omega (arith, program-rows t depth_row greater);
      steps = omega (arith, n, program-rows t steps_row plus);
      emits = omega (arith, program-rows t emits_row plus);
    }

no-strangers : (t : Transfer) → strangers names (program t) ≡ 0
no-strangers t = program-rows t (stranger_row names) plus

program-read : (t : Transfer) → IsSmall t → read_of names (inner t ++ 125 ∷ []) ≡ Ok (program t)
program-read t small = ap (read_of names) (sym (program-text t)) ∙ read_back names (program t) names-are (fits-program t small) (no-strangers t)

-- The words of a line.

word-there : (at : ℕ) (word : List ℕ) (pieces : List (List ℕ)) → 0 < length word
    → placed_words at (word ∷ pieces) ≡ record { text = word; place = record { from = at; to = at + length word } } ∷ placed_words (at + length word + 1) pieces
word-there at [] pieces some = absurd (omega (arith, some))
word-there at (b ∷ word) pieces some = refl

digit-no-blank : (b : ℕ) → IsDigit b → is_blank b ≡ false
digit-no-blank b d =
    let low = d.0 in
    rw (ne_eqb b 9 (λ same. absurd (omega (arith, low, same))), ne_eqb b 13 (λ same. absurd (omega (arith, low, same))), ne_eqb b 32 (λ same. absurd (omega (arith, low, same)))) refl

digits-no-blank : (bs : List ℕ) → AllByRecursion IsDigit bs → All (λ b. is_blank b ≡ false) bs
digits-no-blank [] h k d within = absurd (omega (arith, within))
digits-no-blank (b ∷ bs) h zero d within = digit-no-blank b h.0
digits-no-blank (b ∷ bs) h (suc k) d within = digits-no-blank bs h.1 k d (omega (arith, within))

-- where the program begins
abbrev place : Transfer → ℕ
place t = 6 + length (decimal t.deadline) + 1

no-blank : (bs : List ℕ) → list_all (λ b. not (is_blank b)) bs ≡ true → All (λ b. is_blank b ≡ false) bs
no-blank [] h k d within = absurd (omega (arith, within))
no-blank (b ∷ bs) h k d within = go (is_blank b) refl h (no-blank bs) k within
  where
    go : (blank : Bool) → is_blank b ≡ blank → (not blank && list_all (λ b. not (is_blank b)) bs) ≡ true
        → (list_all (λ b. not (is_blank b)) bs ≡ true → All (λ b. is_blank b ≡ false) bs) → (k : ℕ) → k < length (b ∷ bs) → is_blank (get_or (b ∷ bs) k d) ≡ false
    go true is h more k within = absurd (true≢false (sym h))
    go false is h more zero within = is
    go false is h more (suc k) within = more h k d (omega (arith, within))

-- the line's words: three are looked at
line-words : (t : Transfer) → IsSmall t → (rest : List Word) × (words_of (line t)
    ≡ record { text = codes "begin"; place = record { from = 0; to = 5 } }
    ∷ record { text = decimal t.deadline; place = record { from = 6; to = 6 + length (decimal t.deadline) } }
    ∷ record { text = codes "{"; place = record { from = place t; to = place t + 1 } }
    ∷ rest)
unfolding words_from line inner spell program_pieces
line-words t small =
    let d = small.deadline in
    let number : List ℕ = decimal t.deadline in
    let behind : List ℕ = drop 2 (inner t) ++ 125 ∷ [] in
    let pieces : List (List ℕ) = slice_split is_blank behind in
    let third : slice_split is_blank (inner t ++ 125 ∷ []) ≡ codes "{" ∷ pieces = slice_split_at is_blank (codes "{") 32 behind (no-blank (codes "{") refl) refl in
    let second : slice_split is_blank (number ++ 32 ∷ (inner t ++ 125 ∷ [])) ≡ number ∷ codes "{" ∷ pieces =
    slice_split_at is_blank number 32 (inner t ++ 125 ∷ []) (digits-no-blank number (decimal-digits t.deadline)) refl ∙ ap (λ ps. number ∷ ps) third in
    let first : slice_split is_blank (line t) ≡ codes "begin" ∷ number ∷ codes "{" ∷ pieces =
    slice_split_at is_blank (codes "begin") 32 (number ++ 32 ∷ (inner t ++ 125 ∷ [])) (no-blank (codes "begin") refl) refl ∙ ap (λ ps. codes "begin" ∷ ps) second in (
      placed_words (place t + 1 + 1) pieces,
      ap (placed_words 0) first
          ∙ ap (λ ws. record { text = codes "begin"; place = record { from = 0; to = 5 } } ∷ ws) (word-there 6 number (codes "{" ∷ pieces) (decimal_nonempty t.deadline (omega (arith, d)))),
    )

line-spells : (t : Transfer) → IsSmall t → command_of dialects.Batch (line t) ≡ Ok (Begin t.deadline (place t))
unfolding command_of
line-spells t small =
    let d = small.deadline in
    ap (λ ws. command_in dialects.Batch ws (length (line t))) (line-words t small).1
    ∙ ap (λ o. with_number o (λ n. if_fits (nat_le n 1000000000000) (Begin n (place t)))) (natural-decimal t.deadline (omega (arith, d)))
    ∙ ap (λ b. if_fits b (Begin t.deadline (place t))) (le-leb t.deadline 1000000000000 (omega (arith, d)))

trimmed : (bytes : List ℕ) (last : ℕ) → is_blank last ≡ false → trim_end (bytes ++ last ∷ []) ≡ bytes ++ last ∷ []
trimmed bytes last is =
    let all : List ℕ = bytes ++ last ∷ [] in
    let n : ℕ = length bytes + 1 in
    let many : length all ≡ n = length-append bytes (last ∷ []) in
    let whole : take n all ≡ all = take_all n all (omega (arith, many)) in
    ap trim_end (sym whole) ∙ trim_end-stop all n (omega arith) (omega (arith, many)) (ap is_blank (get_or_push bytes last 0 (n - 1) (omega arith)) ∙ is) ∙ whole

program-cut : (t : Transfer) → program_bytes (line t) (place t) ≡ inner t ++ 125 ∷ []
unfolding program_bytes line
program-cut t =
    let number : List ℕ = decimal t.deadline in
    let front : List ℕ = codes "begin " ++ (number ++ 32 ∷ []) in
    let rest : List ℕ = inner t ++ 125 ∷ [] in
    let parts : front ++ rest ≡ line t = ap (λ x. codes "begin " ++ x) (append_assoc number (32 ∷ []) rest) in
    ap (λ x. trim_end (drop (place t) x)) (sym parts)
    ∙ ap trim_end (drop_at front rest (place t) (omega (arith, length-append number (32 ∷ []))))
    ∙ trimmed (inner t) 125 refl

-- How long a line is.

abbrev weight : Pieces → ℕ
weight [] = 0
weight (p ∷ ps) = length p.0 + 5 + weight ps

abbrev HaveSmall : Pieces → Type 0
HaveSmall ps = AllByRecursion (λ (p : List ℕ × ℕ). p.1 < 1000) ps

short : (n : ℕ) → n < 1000 → length (decimal n) ≤ 5
short n small = length-decimal-le 5 n (omega arith) (omega (arith, small)) (omega (arith, small))

spell-length : (ps : Pieces) (last : List ℕ) → HaveSmall ps → length (spell ps last) ≤ weight ps + length last
unfolding spell
spell-length [] last h = omega arith
spell-length (p ∷ ps) last h =
    let rest = spell-length ps last h.1 in
    let here = short p.1 h.0 in
    omega (arith, rest, here, length-append p.0 (decimal p.1 ++ spell ps last), length-append (decimal p.1) (spell ps last))

inner-length : (t : Transfer) → IsSmall t → length (inner t) ≤ 200
unfolding inner program_pieces
inner-length t small =
    let f = small.from in
    let o = small.to in
    let a = small.amount in
    let n = small.turns in
    let numbers : HaveSmall (program_pieces t) =
    (omega (arith, f), (omega (arith, a), (omega (arith, f), (omega (arith, o), (omega (arith, a), (omega (arith, o), (omega (arith, n), (omega (arith, a), tt)))))))) in
    let long = spell-length (program_pieces t) (codes "; ") numbers in
    omega (arith, long)

line-length : (t : Transfer) → IsSmall t → length (line t) ≤ 256
unfolding line
line-length t small =
    let number : List ℕ = decimal t.deadline in
    let here = short t.deadline small.deadline in
    let more = inner-length t small in
    omega (arith, here, more, length-append number (32 ∷ (inner t ++ 125 ∷ [])), length-append (inner t) (125 ∷ []))

-- A line, and lines, make the batch longer.

line-taken : (t : Transfer) (b : Batch) → IsSmall t → b.opening.names ≡ names → length b.requests < 20000
    → after_line b (line t) ≡ Ok (record b { requests = b.requests ++ request t ∷ [] })
unfolding after_line
line-taken t b small named few =
    let long = line-length t small in
    let d : ℕ = t.deadline in
    ap (λ x. if x then Err 11 else after_command b (line t) (command_of dialects.Batch (line t))) (le-ltb 8192 (length (line t)) (omega (arith, long)))
    ∙ ap (after_command b (line t)) (line-spells t small)
    ∙ ap (λ bytes. after_begin b d (read_of b.opening.names bytes)) (program-cut t)
    ∙ ap (λ ns. after_begin b d (read_of ns (inner t ++ 125 ∷ []))) named
    ∙ ap (after_begin b d) (program-read t small)
    ∙ ap (λ x. if x then Ok (record b { requests = b.requests ++ request t ∷ [] }) else Err 23) (lt-ltb (length b.requests) 20000 few)

lines-taken : (ts : List Transfer) (b : Batch) (number : ℕ) → AllByRecursion IsSmall ts → b.opening.names ≡ names → length b.requests + length ts ≤ 20000
    → lines_from b number (map line ts) ≡ Ok (record b { requests = b.requests ++ map request ts })
lines-taken [] b number small named few = ap (λ rs. Ok (record b { requests = rs })) (sym (append-nil b.requests))
lines-taken (t ∷ ts) b number small named few =
    let next : Batch = record b { requests = b.requests ++ request t ∷ [] } in
    let longer : length next.requests ≡ length b.requests + 1 = length-append b.requests (request t ∷ []) in
    ap (λ r. go_on number r (λ n. lines_from n (number + 1) (map line ts))) (line-taken t b small.0 named (omega (arith, few)))
    ∙ lines-taken ts next (number + 1) small.1 named (omega (arith, few, longer))
    ∙ ap (λ rs. Ok (record b { requests = rs })) (append_assoc b.requests (request t ∷ []) (map request ts))

spell-whole : (ps : Pieces) (last : List ℕ) → AllByRecursion (λ (p : List ℕ × ℕ). lacks 10 p.0 ≡ true) ps → IsWithout 10 last → IsWithout 10 (spell ps last)
unfolding spell
spell-whole [] last h whole = whole
spell-whole (p ∷ ps) last h whole =
    without-append 10 p.0 (decimal p.1 ++ spell ps last) (lacking 10 p.0 h.0)
    (without-append 10 (decimal p.1) (spell ps last) (decimal-without 10 p.1 (omega arith)) (spell-whole ps last h.1 whole))

line-whole : (t : Transfer) → IsWithout 10 (line t)
unfolding line inner program_pieces lacks
line-whole t =
    let texts : IsWithout 10 (inner t) = spell-whole (program_pieces t) (codes "; ") (refl, (refl, (refl, (refl, (refl, (refl, (refl, (refl, tt)))))))) (lacking 10 (codes "; ") refl) in
    let brace : IsWithout 10 (125 ∷ []) = lacking 10 (125 ∷ []) refl in
    let blank : IsWithout 10 (32 ∷ []) = lacking 10 (32 ∷ []) refl in
    let number : List ℕ = decimal t.deadline in
    without-append 10 (codes "begin ") (number ++ 32 ∷ (inner t ++ 125 ∷ [])) (lacking 10 (codes "begin ") refl)
    (without-append 10 number (32 ∷ (inner t ++ 125 ∷ [])) (decimal-without 10 t.deadline (omega arith)) (blank.0, without-append 10 (inner t) (125 ∷ []) texts brace))

small-of : (a b c d e : ℕ) → IsSmall (record { from = a % 64; to = b % 64; amount = 1 + c % 9; turns = d % 4; deadline = e % 1000 })
small-of a b c d e = record {
  from = mod_below a 64 (omega arith);
  to = mod_below b 64 (omega arith);
  amount = let low = mod_below c 9 (omega arith) in omega (arith, low);
  turns = let low = mod_below d 4 (omega arith) in omega (arith, low);
  deadline = mod_below e 1000 (omega arith);
}

all-mapped : {X Y : Type 0} (P : Y → Type 0) (f : X → Y) → ((x : X) → P (f x)) → (xs : List X) → AllByRecursion P (map f xs)
all-mapped P f each [] = tt
all-mapped P f each (x ∷ xs) = (each x, all-mapped P f each xs)

pub transfers-small : (seed count : ℕ) → AllByRecursion IsSmall (transfers seed count)
transfers-small seed count =
    all-mapped IsSmall (λ i. transfer seed (5 * i))
    (λ i. small-of (drawn seed (5 * i + 1)) (drawn seed (5 * i + 2)) (drawn seed (5 * i + 3)) (drawn seed (5 * i + 4)) (drawn seed (5 * i + 5))) (range_with_len 0 count)

pub transfers-many : (seed count : ℕ) → length (transfers seed count) ≡ count
transfers-many seed count = length-map-range_with_len (λ i. transfer seed (5 * i)) 0 count

-- The text.

abbrev lines : ℕ → ℕ → List (List ℕ)
lines seed count = codes "table acct 64" ∷ map line (transfers seed count)

lines-text : (ts : List Transfer) → flat_map transfer_line ts ≡ unlines (map line ts)
lines-text [] = refl
lines-text (t ∷ ts) = ap (λ x. x ++ flat_map transfer_line ts) (line-text t) ∙ append_assoc (line t) (10 ∷ []) (flat_map transfer_line ts) ∙ ap (λ x. line t ++ 10 ∷ x) (lines-text ts)

text-lines : (seed count : ℕ) → gen_text seed count ≡ unlines (lines seed count)
unfolding gen_text
text-lines seed count = ap (λ x. codes "table acct 64\n" ++ x) (lines-text (transfers seed count))

lines-whole : (seed count : ℕ) → AreLines (lines seed count)
unfolding lacks
lines-whole seed count = (lacking 10 (codes "table acct 64") refl, all-mapped (IsWithout 10) line line-whole (transfers seed count))

-- the table's line
abbrev opened : Batch
opened = record { opening = record { names = names; tables = replicate 64 (pos 0) }; requests = [] }

table-taken : after_line no_batch (codes "table acct 64") ≡ Ok opened
unfolding after_line command_of words_from natural_of
table-taken = refl

pub gen-batch : (seed count : ℕ) → count ≤ 20000 → batch_input (gen_text seed count) ≡ Ok (generated seed count)
gen-batch seed count most =
    let ts : List Transfer = transfers seed count in
    let many = transfers-many seed count in
    ap batch_input (text-lines seed count)
    ∙ ap (lines_from no_batch 1) (lines-back (lines seed count) (lines-whole seed count))
    ∙ ap (λ r. go_on 1 r (λ n. lines_from n 2 (map line ts))) table-taken
    ∙ lines-taken ts opened 2 (transfers-small seed count) refl (omega (arith, most, many))

lines-length : (ts : List Transfer) → AllByRecursion IsSmall ts → length (unlines (map line ts)) ≤ 257 * length ts
lines-length [] small = omega arith
lines-length (t ∷ ts) small =
    let here = line-length t small.0 in
    let more = lines-length ts small.1 in
    omega (arith, here, more, length-append (line t) (10 ∷ unlines (map line ts)))

pub gen-small : (seed count : ℕ) → count ≤ 20000 → length (gen_text seed count) ≤ 67108864
gen-small seed count most =
    let short-lines = lines-length (transfers seed count) (transfers-small seed count) in
    let many = transfers-many seed count in
    ap-le (gen_text seed count) (unlines (lines seed count)) (text-lines seed count) (omega (arith, most, many, short-lines))
  where
    ap-le : (a b : List ℕ) → a ≡ b → length b ≤ 67108864 → length a ≤ 67108864
    ap-le a b same le = omega (arith, ap length same, le)
