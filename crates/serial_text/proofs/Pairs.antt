-- The replies that two readers take for those to one line, where they know the same names of tables.
use Rattle.std.proofs.Common.{◌≡◌, ◌⊎◌, inl, inr, ℕ, ℤ, List, [], Option, Some, None, Result, Ok, Err, sym, ap, ◌∙◌, subst}
use Rattle.scc_text.specs.declared.command.Command.{Command}
use Rattle.scc_text.specs.declared.command.Command.TheVariants.{Blank, Table, Put, Begin, Step, Run, Commit, Withdraw, Show, Dump, Seal, Drain, Journal, Report, Ask, Quit}
use Rattle.scc_text.specs.Command.{program_bytes}
use Rattle.scc_text.specs.declared.words.Span.{Span}
use Rattle.txn_runs.specs.declared.program.TableRef.{TableRef}
use Rattle.txn_names.specs.Tables.{Named, table_named}
use Rattle.txn_syntax.specs.declared.refusal.ReadRefusal.{ReadRefusal}
use Rattle.txn_syntax.specs.declared.refusal.ReadRefusal.TheVariants.{Syntax, UnknownTable, Limit, OutOfMemory}
use Rattle.txn_syntax.specs.Reads.{read_of}
use Rattle.journal_core.specs.declared.entry.Entry.{Entry}
use Rattle.journal_table.specs.Rows.{journal_text}
use Rattle.scc_setup.specs.Opening.{Opening, text_at}
use Rattle.scc_replies.specs.Lines.{row_line}
use Rattle.scc_replies.specs.Unread.{unread_line}
use Rattle.scc_script.specs.Ended.{Ended}
use Rattle.scc_script.specs.Fields.{waiting_line}
use Rattle.serial_text.specs.Forms.{ShowsShadows, NoSuchTable, DumpsTable}
use Rattle.serial_text.specs.Notes.{Notes, IsRefused, IsSet, IsUnread, IsDeclined, IsBegun, HasCommitted, IsPassed, IsNotedOf, IsNotedBy, IsNoted, command_in}
use Rattle.report_text.proofs.Cuts.{unlines}
use Rattle.serial_text.proofs.Reading.{drain_rows, drain-text}
use Rattle.serial_text.proofs.Agreeing.{ok-not-err}
use Rattle.serial_text.proofs.PlainNames.{ArePlain, IsPlain, found-plain, table-plain, put-plain}
use Rattle.serial_text.proofs.Pieces.{IsLine, IsPiece, piece-of, refuse-line, run-line, seal-line, set-line, put-line, begun-line, unread-at-line, unread-limit-line, step-line, commit-piece, withdraw-piece, show-piece, waiting-piece}

-- both reply with nothing
pub record AreNone (u v : Notes) (a b : List ℕ) : Type 0 where
  pub one : a ≡ []
  pub other : b ≡ []
  pub kept : v.opening.names ≡ u.opening.names

-- both are a table's line of `dump`
pub record AreRows (u v : Notes) (a b : List ℕ) : Type 0 where
  pub name : List ℕ
  pub these : List ℤ
  pub those : List ℤ
  pub plain : IsPlain name
  pub one : a ≡ row_line name these
  pub other : b ≡ row_line name those
  pub kept : v.opening.names ≡ u.opening.names

-- each is one line
pub record AreSingle (a b : List ℕ) : Type 0 where
  pub one : IsLine a
  pub other : IsLine b

-- each is a line and lines behind it
pub record ArePieces (u v : Notes) (a b : List ℕ) : Type 0 where
  pub one : IsPiece a
  pub other : IsPiece b
  pub kept : v.opening.names ≡ u.opening.names

-- both are lines of a drain
pub record AreDrains (a b : List ℕ) : Type 0 where
  pub these : List Ended
  pub those : List Ended
  pub one : a ≡ unlines (drain_rows these)
  pub other : b ≡ unlines (drain_rows those)

-- both are tables of journals
pub record AreJournals (a b : List ℕ) : Type 0 where
  pub names : List Named
  pub these : List Entry
  pub those : List Entry
  pub one : a ≡ journal_text names these
  pub other : b ≡ journal_text names those

abbrev pub IsPair : Notes → Notes → List ℕ → List ℕ → Type 0
IsPair u v a b = AreNone u v a b ⊎ (AreRows u v a b ⊎ (AreSingle a b ⊎ (ArePieces u v a b ⊎ (AreDrains a b ⊎ AreJournals a b))))

-- One reader.

refused-line : (k k1 : Notes) (reply : List ℕ) → IsRefused k reply k1 → IsLine reply
refused-line k k1 reply r = subst IsLine (sym r.told) (refuse-line r.code)

module _ (k k1 : Notes) (h : ArePlain k.opening.names) (line reply : List ℕ) where
  table-line : (name : Span) (size : ℕ) → IsRefused k reply k1 ⊎ IsSet k line (Table name size) reply k1 → IsLine reply
  table-line name size (inl r) = refused-line k k1 reply r
  table-line name size (inr s) = subst IsLine (sym s.told) (set-line (text_at line name) size (table-plain k.opening s.opening line name size s.set h).0)

  put-one : (name : Span) (index : ℕ) (value : ℤ) → IsRefused k reply k1 ⊎ IsSet k line (Put name index value) reply k1 → IsLine reply
  put-one name index value (inl r) = refused-line k k1 reply r
  put-one name index value (inr s) = subst IsLine (sym s.told) (put-line (text_at line name) index value (put-plain k.opening s.opening line name index value s.set h).0)

  taken-line : (program : List ℕ) → IsDeclined k program reply k1 ⊎ IsBegun k program reply k1 → IsLine reply
  taken-line program (inl r) = subst IsLine (sym r.told) (refuse-line r.code)
  taken-line program (inr b) = subst IsLine (sym b.told) (begun-line b.txn b.started)

  step-one : (txn : ℕ) (guard : Option ℕ) → IsRefused k reply k1 ⊎ IsPassed k line (Step txn guard) reply k1 → IsLine reply
  step-one txn guard (inl r) = refused-line k k1 reply r
  step-one txn guard (inr p) = subst IsLine (sym p.form.1) (step-line txn guard p.form.0)

  commit-one : (txn : ℕ) → IsRefused k reply k1 ⊎ HasCommitted k txn reply k1 → IsPiece reply
  commit-one txn (inl r) = piece-of reply (refused-line k k1 reply r)
  commit-one txn (inr c) = subst IsPiece (sym c.told) (commit-piece c.ended)

  withdraw-one : (txn : ℕ) → IsRefused k reply k1 ⊎ IsPassed k line (Withdraw txn) reply k1 → IsPiece reply
  withdraw-one txn (inl r) = piece-of reply (refused-line k k1 reply r)
  withdraw-one txn (inr p) = subst IsPiece (sym p.form.1) (withdraw-piece txn p.form.0)

  show-one : (txn : ℕ) → IsRefused k reply k1 ⊎ IsPassed k line (Show txn) reply k1 → IsPiece reply
  show-one txn (inl r) = piece-of reply (refused-line k k1 reply r)
  show-one txn (inr p) = form p.form
    where
      form : (reply ≡ waiting_line txn) ⊎ ShowsShadows k.opening.names txn reply → IsPiece reply
      form (inl w) = subst IsPiece (sym w) (waiting-piece txn)
      form (inr s) = show-piece k.opening.names h txn reply s

  names-stay : k1 ≡ k → k1.opening.names ≡ k.opening.names
  names-stay e = ap (λ (x : Notes). x.opening.names) e

  commit-kept : (txn : ℕ) → IsRefused k reply k1 ⊎ HasCommitted k txn reply k1 → k1.opening.names ≡ k.opening.names
  commit-kept txn (inl r) = names-stay r.noted
  commit-kept txn (inr c) = ap (λ (x : Notes). x.opening.names) c.noted

  passed-kept : (command : Command) → IsRefused k reply k1 ⊎ IsPassed k line command reply k1 → k1.opening.names ≡ k.opening.names
  passed-kept command (inl r) = names-stay r.noted
  passed-kept command (inr p) = names-stay p.noted

  -- The names stay plain.

  same-plain : k1.opening.names ≡ k.opening.names → ArePlain k1.opening.names
  same-plain e = subst ArePlain (sym e) h

  set-names : (command : Command) (o : Opening) → k1 ≡ record k { opening = o } → ArePlain o.names → ArePlain k1.opening.names
  set-names command o e plain = subst (λ (x : Notes). ArePlain x.opening.names) (sym e) plain

  command-plain : (command : Command) → IsNotedOf k line command reply k1 → ArePlain k1.opening.names
  command-plain Blank p = same-plain (names-stay p.noted)
  command-plain (Table name size) (inl r) = same-plain (names-stay r.noted)
  command-plain (Table name size) (inr s) = set-names (Table name size) s.opening s.noted (table-plain k.opening s.opening line name size s.set h).1
  command-plain (Put name index value) (inl r) = same-plain (names-stay r.noted)
  command-plain (Put name index value) (inr s) = set-names (Put name index value) s.opening s.noted (put-plain k.opening s.opening line name index value s.set h).1
  command-plain (Begin deadline at) (inl u) = same-plain (names-stay u.noted)
  command-plain (Begin deadline at) (inr (inl r)) = same-plain (names-stay r.noted)
  command-plain (Begin deadline at) (inr (inr b)) = same-plain (ap (λ (x : Notes). x.opening.names) b.noted)
  command-plain (Step txn guard) p = same-plain (passed-kept (Step txn guard) p)
  command-plain Run p = same-plain (names-stay p.noted)
  command-plain (Commit txn) p = same-plain (commit-kept txn p)
  command-plain (Withdraw txn) p = same-plain (passed-kept (Withdraw txn) p)
  command-plain (Show txn) p = same-plain (passed-kept (Show txn) p)
  command-plain (Dump name) p = same-plain (names-stay p.noted)
  command-plain Seal p = same-plain (names-stay p.noted)
  command-plain Drain d = same-plain (ap (λ (x : Notes). x.opening.names) d.noted)
  command-plain Journal r = same-plain (names-stay r.noted)
  command-plain Report r = same-plain (names-stay r.noted)
  command-plain (Ask txn) r = same-plain (names-stay r.noted)
  command-plain Quit r = same-plain (names-stay r.noted)

  spelled-plain : (command : Result Command ℕ) → IsNotedBy k line command reply k1 → ArePlain k1.opening.names
  spelled-plain (Ok command) p = command-plain command p
  spelled-plain (Err code) p = same-plain (names-stay p.1)

  pub line-plain : IsNoted k line reply k1 → ArePlain k1.opening.names
  unfolding IsNoted
  line-plain p = spelled-plain (command_in line) p

-- Two readers.

same-err : {A E : Type 0} (r : Result A E) (x y : E) → r ≡ Err x → r ≡ Err y → x ≡ y
same-err r x y e d = let both : Err x ≡ Err y = sym e ∙ d in cc

not-both : (r : Option TableRef) (x : TableRef) → r ≡ None → r ≡ Some x → ⊥
not-both r x e d = let both : None ≡ Some x = sym e ∙ d in absurd (cc)

module _ (n m : Notes) (e : m.opening.names ≡ n.opening.names) (h : ArePlain n.opening.names) (line a b : List ℕ) (u v : Notes) where
  too : ArePlain m.opening.names
  too = subst ArePlain (sym e) h

  kept : u.opening.names ≡ n.opening.names → v.opening.names ≡ m.opening.names → v.opening.names ≡ u.opening.names
  kept x y = y ∙ e ∙ sym x

  kept-stay : u ≡ n → v ≡ m → v.opening.names ≡ u.opening.names
  kept-stay x y = kept (ap (λ (z : Notes). z.opening.names) x) (ap (λ (z : Notes). z.opening.names) y)

  single : IsLine a → IsLine b → IsPair u v a b
  single x y = inr (inr (inl (record { one = x; other = y })))

  pieces : IsPiece a → IsPiece b → v.opening.names ≡ u.opening.names → IsPair u v a b
  pieces x y k = inr (inr (inr (inl (record { one = x; other = y; kept = k }))))

  unread : (r : ReadRefusal) → a ≡ unread_line r → b ≡ unread_line r → v.opening.names ≡ u.opening.names → IsPair u v a b
  unread (Syntax at) x y k = single (subst IsLine (sym x) (unread-at-line 14 at)) (subst IsLine (sym y) (unread-at-line 14 at))
  unread (UnknownTable at) x y k = single (subst IsLine (sym x) (unread-at-line 16 at)) (subst IsLine (sym y) (unread-at-line 16 at))
  unread (Limit which) x y k = single (subst IsLine (sym x) (unread-limit-line which)) (subst IsLine (sym y) (unread-limit-line which))
  unread OutOfMemory x y k = inl (record { one = x; other = y; kept = k })

  begin-pair : (program : List ℕ) → IsUnread n program a u ⊎ (IsDeclined n program a u ⊎ IsBegun n program a u)
      → IsUnread m program b v ⊎ (IsDeclined m program b v ⊎ IsBegun m program b v) → IsPair u v a b
  begin-pair program (inl x) (inl y) =
      let same : x.refusal ≡ y.refusal = same-err (read_of n.opening.names program) x.refusal y.refusal x.read (ap (λ z. read_of z program) (sym e) ∙ y.read) in
      unread x.refusal x.told (y.told ∙ ap unread_line (sym same)) (kept-stay x.noted y.noted)
  begin-pair program (inl x) (inr (inl y)) = absurd (ok-not-err (read_of n.opening.names program) y.body x.refusal (ap (λ z. read_of z program) (sym e) ∙ y.read) x.read)
  begin-pair program (inl x) (inr (inr y)) = absurd (ok-not-err (read_of n.opening.names program) y.body x.refusal (ap (λ z. read_of z program) (sym e) ∙ y.read) x.read)
  begin-pair program (inr (inl x)) (inl y) = absurd (ok-not-err (read_of n.opening.names program) x.body y.refusal x.read (ap (λ z. read_of z program) (sym e) ∙ y.read))
  begin-pair program (inr (inr x)) (inl y) = absurd (ok-not-err (read_of n.opening.names program) x.body y.refusal x.read (ap (λ z. read_of z program) (sym e) ∙ y.read))
  begin-pair program (inr x) (inr y) = single (taken-line n u h line a program x) (taken-line m v too line b program y)

  dump-pair : (name : List ℕ) → NoSuchTable n.opening.names name a ⊎ DumpsTable n.opening.names name a → NoSuchTable m.opening.names name b ⊎ DumpsTable m.opening.names name b
      → v.opening.names ≡ u.opening.names → IsPair u v a b
  dump-pair name (inl x) (inl y) k = single (subst IsLine (sym x.told) (refuse-line 22)) (subst IsLine (sym y.told) (refuse-line 22))
  dump-pair name (inl x) (inr y) k = absurd (not-both (table_named n.opening.names name) y.table x.none (ap (λ z. table_named z name) (sym e) ∙ y.found))
  dump-pair name (inr x) (inl y) k = absurd (not-both (table_named n.opening.names name) x.table (ap (λ z. table_named z name) (sym e) ∙ y.none) x.found)
  dump-pair name (inr x) (inr y) k = inr (inl (record {
    name = name;
    these = x.values;
    those = y.values;
    plain = found-plain n.opening.names name x.table x.found h;
    one = x.told;
    other = y.told;
    kept = k;
  }))

  refused-pair : IsRefused n a u → IsRefused m b v → IsPair u v a b
  refused-pair x y = single (refused-line n u a x) (refused-line m v b y)

  command-pair : (command : Command) → IsNotedOf n line command a u → IsNotedOf m line command b v → IsPair u v a b
  command-pair Blank x y = inl (record { one = x.form; other = y.form; kept = kept-stay x.noted y.noted })
  command-pair (Table name size) x y = single (table-line n u h line a name size x) (table-line m v too line b name size y)
  command-pair (Put name index value) x y = single (put-one n u h line a name index value x) (put-one m v too line b name index value y)
  command-pair (Begin deadline at) x y = begin-pair (program_bytes line at) x y
  command-pair (Step txn guard) x y = single (step-one n u h line a txn guard x) (step-one m v too line b txn guard y)
  command-pair Run x y = single (subst IsLine (sym x.form.1) (run-line x.form.0)) (subst IsLine (sym y.form.1) (run-line y.form.0))
  command-pair (Commit txn) x y = pieces (commit-one n u h line a txn x) (commit-one m v too line b txn y) (kept (commit-kept n u h line a txn x) (commit-kept m v too line b txn y))
  command-pair (Withdraw txn) x y =
      pieces (withdraw-one n u h line a txn x) (withdraw-one m v too line b txn y) (kept (passed-kept n u h line a (Withdraw txn) x) (passed-kept m v too line b (Withdraw txn) y))
  command-pair (Show txn) x y =
      pieces (show-one n u h line a txn x) (show-one m v too line b txn y) (kept (passed-kept n u h line a (Show txn) x) (passed-kept m v too line b (Show txn) y))
  command-pair (Dump name) x y = dump-pair (text_at line name) x.form y.form (kept-stay x.noted y.noted)
  command-pair Seal x y = single (subst IsLine (sym x.form) seal-line) (subst IsLine (sym y.form) seal-line)
  command-pair Drain x y = inr (inr (inr (inr (inl (record { these = x.ended; those = y.ended; one = x.told ∙ drain-text x.ended; other = y.told ∙ drain-text y.ended })))))
  command-pair Journal x y = inr (inr (inr (inr (inr (record {
    names = n.opening.names;
    these = x.entries;
    those = y.entries;
    one = x.told;
    other = y.told ∙ ap (λ z. journal_text z y.entries) e;
  })))))
  command-pair Report x y = refused-pair x y
  command-pair (Ask txn) x y = refused-pair x y
  command-pair Quit x y = refused-pair x y

  spelled-pair : (command : Result Command ℕ) → IsNotedBy n line command a u → IsNotedBy m line command b v → IsPair u v a b
  spelled-pair (Ok command) x y = command-pair command x y
  spelled-pair (Err code) x y = single (subst IsLine (sym x.0) (refuse-line code)) (subst IsLine (sym y.0) (refuse-line code))

  pub line-pair : IsNoted n line a u → IsNoted m line b v → IsPair u v a b
  unfolding IsNoted
  line-pair x y = spelled-pair (command_in line) x y
