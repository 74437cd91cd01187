-- The list that a forest stands for at a turn cell, and what can be read off such a list.
use Rattle.std.specs.Prelude.{ℕ, List, [], ◌∷◌, length, map, filter_map, Option, Some, None}
use Rattle.journal_core.specs.declared.entry.Entry.{Entry}
use Rattle.shadow_forest.specs.declared.kept.Item.{Item}
use Rattle.shadow_forest.specs.declared.kept.Item.TheVariants.{Opening, Happened}
use Rattle.shadow_forest.specs.View.{View}

abbrev pub happened : Entry → Item
happened e = Happened e

-- what the forest was opened with, and then each entry of its journal
abbrev pub listed : View → List Item
listed v = Opening v.numbers.opening v.numbers.k v.numbers.lanes ∷ map happened v.numbers.journal

-- the entry, if the member is one
abbrev pub entry_in : Item → Option Entry
entry_in (Opening table k lanes) = None
entry_in (Happened entry) = Some entry

-- the entries of such a list: the journal that was seen
abbrev pub journal_in : List Item → List Entry
journal_in list = filter_map entry_in list

-- over how many items the tables are that it opens with, if it begins with an opening
abbrev pub items_in : List Item → Option ℕ
items_in [] = None
items_in (Opening table k lanes ∷ list) = Some (length table)
items_in (Happened entry ∷ list) = None
