use Rattle.std.proofs.Common.{◌≡◌, ◌+◌, length, sym, ap, ◌∙◌, subst, arith}
use Rattle.txn_names.specs.Tables.{items_of, added, CanAdd}
use Rattle.txn_names.specs.Kept.{names_of, IsKept}
use Rattle.txn_names.proofs.KeptLemmas.{IsKept-append, insert_entry-free, names_of-append}
use Rattle.txn_names.proofs.names.Names.push.Goals as goal

pub overflow_add-self : goal.overflow_add-self
overflow_add-self c = omega arith

pub invariant_of-self-2 : goal.invariant_of-self-2
invariant_of-self-2 c =
    let entries = c.self.inside.tables.entries in
    let key = c.in_ok-key.key in
    let table = c.args.table in
    let kept = c.self.invariant in
    let same_name : key.items ≡ c.args.name.now = c.in_ok-key.ensures.items in
    let can_add : CanAdd (names_of entries) key.items table.size =
    subst (λ names. CanAdd names key.items table.size) (sym c.self.view_is) (subst (λ name. CanAdd c.args.self.now name table.size) (sym same_name) c.requires.can) in
    let after = c.in_ok-insert.ensures.entries ∙ insert_entry-free c.self.inside.tables key table kept.laid can_add.free in
    let place = c.requires.place ∙ ap (λ names. record { number = length names; base = items_of names; size = table.size }) (sym c.self.view_is) in
    subst (λ es. IsKept es (c.self.inside.items + table.size)) (sym after) (IsKept-append entries c.self.inside.items (key, table) kept can_add place)

pub returns-clause-ok : goal.returns-clause-ok
returns-clause-ok c =
    let entries = c.self.inside.tables.entries in
    let key = c.in_ok-key.key in
    let table = c.args.table in
    let same_name : key.items ≡ c.args.name.now = c.in_ok-key.ensures.items in
    let can_add : CanAdd (names_of entries) key.items table.size =
    subst (λ names. CanAdd names key.items table.size) (sym c.self.view_is) (subst (λ name. CanAdd c.args.self.now name table.size) (sym same_name) c.requires.can) in
    let after = c.in_ok-insert.ensures.entries ∙ insert_entry-free c.self.inside.tables key table c.self.invariant.laid can_add.free in
    ap names_of after ∙ names_of-append entries (key, table) ∙ (λ i. added (same_name i) table.size (c.self.view_is i))
