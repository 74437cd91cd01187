-- Lists that a forest stands for, and longer ones.
use Rattle.std.proofs.Common.{◌≡◌, ℕ, true, List, [], ◌∷◌, ◌++◌, map, filter_map, Option, Some, None, refl, ap, sym, ◌∙◌, subst}
use Rattle.std.specs.Prelude.{IfSome}
use Rattle.std.proofs.lemmas.List.Elements.{filter_map-append}
use mathlib.Core.List.{IsPrefix}
use Rattle.txn_code.specs.Nodes.{nodes_of}
use Rattle.journal_core.specs.Journal.{has_begun, program_of}
use Rattle.journal_core.specs.declared.entry.Entry.{Entry}
use Rattle.journal_core.proofs.Begins.{begun-longer, program-longer}
use Rattle.shadow_forest.specs.View.{View}
use Rattle.shadow_forest.specs.Bench.{Outside, Benched}
use Rattle.shadow_forest.specs.Listed.{happened, listed, entry_in, journal_in, items_in}
use Rattle.shadow_forest.specs.declared.kept.Item.{Item}
use Rattle.shadow_forest.specs.declared.kept.Item.TheVariants.{Opening, Happened}
use Rattle.shadow_worker.specs.Worked.{IsBegunIn, Fits, owner, IsSameJob}

pub entries-happened : (es : List Entry) → filter_map entry_in (map happened es) ≡ es
entries-happened [] = refl
entries-happened (e ∷ es) = ap (λ xs. e ∷ xs) (entries-happened es)

-- the journal that is seen in a forest's list is the forest's
pub journal-listed : (v : View) → journal_in (listed v) ≡ v.numbers.journal
journal-listed v = entries-happened v.numbers.journal

-- a longer list has the journal of the shorter, and more behind it
pub journal-longer : (xs ys : List Item) → (p : IsPrefix xs ys) → journal_in ys ≡ journal_in xs ++ journal_in p.0
journal-longer xs ys p = ap journal_in (sym p.1) ∙ filter_map-append entry_in xs p.0

items-more : (xs rest : List Item) (n : ℕ) → items_in xs ≡ Some n → items_in (xs ++ rest) ≡ Some n
items-more [] rest n h = cc
items-more (Opening table k lanes ∷ xs) rest n h = h
items-more (Happened entry ∷ xs) rest n h = cc

-- and opens with as many items
pub items-longer : (xs ys : List Item) (n : ℕ) → IsPrefix xs ys → items_in xs ≡ Some n → items_in ys ≡ Some n
items-longer xs ys n p h = subst (λ l. items_in l ≡ Some n) p.1 (items-more xs p.0 n h)

begun-more : (journal more : List Entry) (x : Outside) → IsBegunIn journal x → IsBegunIn (journal ++ more) x
begun-more journal more x h = record {
  begun = begun-longer journal more x.number h.begun;
  nodes = h.nodes ∙ ap nodes_of (sym (program-longer journal more x.number h.begun));
}

job-more : (journal more : List Entry) (o : Option Outside) → IfSome o (IsBegunIn journal) → IfSome o (IsBegunIn (journal ++ more))
job-more journal more None h = tt
job-more journal more (Some x) h = begun-more journal more x h

-- what fits a list fits a longer one
pub fits-longer : (xs ys : List Item) (b : Benched) → IsPrefix xs ys → Fits xs b → Fits ys b
fits-longer xs ys b p h = record {
  items = items-longer xs ys b.items p h.items;
  job = subst (λ j. IfSome b.outside (IsBegunIn j)) (sym (journal-longer xs ys p)) (job-more (journal_in xs) (journal_in p.0) b.outside h.job);
}

same-begun : (journal : List Entry) (x y : Outside) → owner y ≡ owner x → IsBegunIn journal x → IsBegunIn journal y
same-begun journal x y same h =
    let number : y.number ≡ x.number = ap (λ o. o.0) same in
    record {
      begun = subst (λ n. has_begun journal n ≡ true) (sym number) h.begun;
      nodes = ap (λ o. o.1) same ∙ (h.nodes ∙ ap (λ n. nodes_of (program_of journal n)) (sym number));
    }

same-job : (journal : List Entry) (old new : Option Outside) → IsSameJob old new → IfSome old (IsBegunIn journal) → IfSome new (IsBegunIn journal)
same-job journal old None same h = tt
same-job journal None (Some y) same h = cc
same-job journal (Some x) (Some y) same h = same-begun journal x y (cc) h

-- a bench that fits goes on fitting while its job makes steps
pub fits-same : (seen : List Item) (old new : Benched) → new.items ≡ old.items → IsSameJob old.outside new.outside → Fits seen old → Fits seen new
fits-same seen old new items same h = record {
  items = h.items ∙ ap (λ n. Some n) (sym items);
  job = same-job (journal_in seen) old.outside new.outside same h.job;
}

-- a bench with no job
pub fits-empty : (seen : List Item) (b : Benched) → b.outside ≡ None → items_in seen ≡ Some b.items → Fits seen b
fits-empty seen b empty items = record { items = items; job = subst (λ o. IfSome o (IsBegunIn (journal_in seen))) (sym empty) tt }

pub same-empty : (old new : Option Outside) → IsSameJob old new → old ≡ None → new ≡ None
same-empty old None same empty = refl
same-empty None (Some y) same empty = cc
same-empty (Some x) (Some y) same empty = cc
