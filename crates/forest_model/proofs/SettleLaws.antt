-- Settling: whatever was there before, each started transaction has exactly the shadows that it wants, each at or before its point.
use Rattle.std.proofs.Common.{◌≡◌, ℕ, ◌≤◌, ◌==◌, true, List, [], ◌∷◌, map, find, Option, Some, None, refl, ap, sym, ◌∙◌, eqb-true, leb-true}
use Rattle.std.specs.List.{AllByRecursion, AllZip}
use Rattle.std.proofs.lemmas.Bool.{and_parts}
use Rattle.journal_core.specs.Journal.{is_live}
use Rattle.forest_model.specs.Point.{wanted_of}
use Rattle.forest_model.specs.Forest.{Shadow, Started, Forest, length_of, against, wanted, is_started, find_started}
use Rattle.forest_model.specs.Settle.{stands_for, stay_or_copy, settled_shadows, shadows_in, positions_in, resettled, settle}
use Rattle.forest_model.specs.Sound.{IsRight, StandsFor, IsSettled, IsSound}
use Rattle.forest_model.proofs.Lists.{all-weaken, all-map, all-everywhere, map-map, map-agree, filter_map-map, filter_map-agree, list_any-map, list_any-agree, find-passes, greatest_up_to-le, length-map'}

stay_or_copy-fits : (found : Option Shadow) (olds : List ℕ) (w : ℕ × ℕ)
    → ((s : Shadow) → found ≡ Some s → stands_for w s ≡ true) → StandsFor (stay_or_copy found olds w) w
stay_or_copy-fits (Some s) olds w h =
    let both : (s.guard == w.0 ≡ true) × (_) = and_parts _ _ (h s refl) in
    (eqb-true s.guard w.0 both.0, leb-true s.position w.1 both.1)
stay_or_copy-fits None olds w h = (refl, greatest_up_to-le w.1 olds)

settled_shadows-fit : (old : Option Started) (ws : List (ℕ × ℕ)) → AllZip StandsFor (settled_shadows old ws) ws
settled_shadows-fit old [] = tt
settled_shadows-fit old (w ∷ ws) = (
  stay_or_copy-fits (find (stands_for w) (shadows_in old)) (positions_in old) w (find-passes (stands_for w) (shadows_in old)),
  settled_shadows-fit old ws,
)

-- A change of the started transactions that keeps their numbers and positions keeps what they want.

against-mapped : (f : Forest) (started : List Started) (r r' u u' : Started)
    → r'.number ≡ r.number → r'.position ≡ r.position → u'.number ≡ u.number → u'.position ≡ u.position
    → against (record f { started = started }) r' u' ≡ against f r u
against-mapped f started r r' u u' rn rp un up = rw (rn, rp, un, up) refl

pub wanted-mapped : (f : Forest) (g : Started → Started)
    → ((x : Started) → (g x).number ≡ x.number) → ((x : Started) → (g x).position ≡ x.position)
    → (r : Started) → wanted (record f { started = map g f.started }) (g r) ≡ wanted f r
wanted-mapped f g number position r =
    ap (λ pairs. wanted_of pairs f.k)
    (filter_map-map (against (record f { started = map g f.started }) (g r)) g f.started
    ∙ filter_map-agree _ (against f r) f.started
    (all-everywhere _ (λ u. against-mapped f (map g f.started) r (g r) u (g u) (number r) (position r) (number u) (position u)) f.started))

-- A change that keeps the numbers, and leaves no position past its end, keeps what holds of the journal and the lanes.

pub right-mapped : (f : Forest) (g : Started → Started)
    → ((x : Started) → (g x).number ≡ x.number) → AllByRecursion (λ x. (g x).position ≤ length_of f x) f.started
    → IsRight f → IsRight (record f { started = map g f.started })
right-mapped f g number within h = record {
  legal = h.legal;
  few = h.few;
  serial = h.serial;
  rising = rw (map-map (λ r. r.number) g f.started, map-agree (λ x. (g x).number) (λ x. x.number) f.started (all-everywhere _ number f.started)) h.rising;
  live =
      all-map (λ x. is_live f.journal x.number ≡ true) g f.started
      (all-weaken _ (λ x. is_live f.journal (g x).number ≡ true) (λ x e. rw (number x) e) f.started h.live);
  at_most = rw (length-map' g f.started) h.at_most;
  full = λ t live waits.
      let same : is_started (map g f.started) t ≡ is_started f.started t =
      list_any-map (λ r. r.number == t) g f.started ∙ list_any-agree _ _ (λ x. ap (λ n. n == t) (number x)) f.started
      in
      rw (length-map' g f.started) (h.full t live (sym same ∙ waits));
  within =
      all-map (λ x. x.position ≤ length_of f x) g f.started
      (all-weaken _ (λ x. (g x).position ≤ length_of f (g x)) (λ x e. rw (number x) e) f.started within);
}

pub settle-settled : (before : List Started) (f : Forest) → IsSettled (settle before f)
settle-settled before f =
    all-map (λ r. AllZip StandsFor r.shadows (wanted (settle before f) r)) (resettled before f) f.started
    (all-everywhere (λ r. AllZip StandsFor (resettled before f r).shadows (wanted (settle before f) (resettled before f r)))
    (λ r. rw (wanted-mapped f (resettled before f) (λ x. refl) (λ x. refl) r) (settled_shadows-fit (find_started before r.number) (wanted f r)))
    f.started)

pub settle-sound : (before : List Started) (f : Forest) → IsRight f → IsSound (settle before f)
settle-sound before f h = record {
  right = right-mapped f (resettled before f) (λ x. refl) h.within h;
  settled = settle-settled before f;
}
