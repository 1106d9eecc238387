-- What goes back to a stock when changes are taken back.
use Rattle.std.proofs.Common.{◌≡◌, ◌≢◌, ℕ, List, [], ◌∷◌, Option, None, Some, Result, Ok, Err, OnOk, OnErr, refl, sym, ap, subst, ◌∙◌, inl, inr}
use Rattle.std.specs.FinMap as map
use Rattle.std.specs.FinMap.{get, insert, remove}
use Rattle.std.specs.Ordering.{nat_cmp}
use Rattle.nuc_base.proofs.Maps.{after_cut, after_put, get_cut_other, get_cut_same, get_put_other, get_put_same, not_both, same_nodes, same_or_not}
use Rattle.nuc_base.specs.Kinds.{FitsKind}
use Rattle.nuc_base.specs.Trees.{Nodes}
use Rattle.nuc_base.specs.declared.node.Node.{Node}
use Rattle.nuc_undo.specs.Laid.{AllFit, Laid, given_back}
use Rattle.nuc_undo.specs.State.{IsUndoTree, past_of}
use Rattle.nuc_undo.specs.Stock.{Has, HasAll, IsAway, StockState}
use Rattle.nuc_undo.specs.Undo.{AreAway, TakesBack, id_of, laid_before, laid_first, undone}
use Rattle.nuc_undo.specs.declared.undo.Step.{Step}
use Rattle.nuc_undo.specs.declared.undo.Undo.{Undo}

-- TWO PLACES
put_apart : (m : Nodes) (x y : ℕ) (n k : Node) → y ≢ x → insert (insert m x n) y k ≡ insert (insert m y k) x n
put_apart m x y n k apart = same_nodes _ _ (λ q. elim (same_or_not q y) [
  | inl e ↦ rw e (get_put_same (insert m x n) y k ∙ sym (get_put_other (insert m y k) x n y apart ∙ get_put_same m y k))
  | inr other ↦ get_put_other (insert m x n) y k q other ∙ elim (same_or_not q x) [
    | inl f ↦ rw f (get_put_same m x n ∙ sym (get_put_same (insert m y k) x n))
    | inr far ↦ get_put_other m x n q far ∙ sym (get_put_other (insert m y k) x n q far ∙ get_put_other m y k q other)
  ]
])

put_again : (m : Nodes) (x : ℕ) (n : Node) → get m x ≡ Some n → insert (remove m x) x n ≡ m
put_again m x n at = same_nodes _ _ (λ q. elim (same_or_not q x) [
  | inl e ↦ rw e (get_put_same (remove m x) x n ∙ sym at)
  | inr apart ↦ get_put_other (remove m x) x n q apart ∙ get_cut_other m x q apart
])

-- WHAT FITS
pub none_fit : (laid : Laid) → laid ≡ map.empty → AllFit laid
none_fit laid none x n at = absurd (not_both laid x n (ap (λ m. get m x) none ∙ map.get-empty nat_cmp x) at)

pub fit_put : (laid after : Laid) (x : ℕ) (n : Node) → AllFit laid → FitsKind n → after ≡ insert laid x n → AllFit after
fit_put laid after x n fits new is y k at = elim (after_put laid x n y k (ap (λ m. get m y) (sym is) ∙ at)) [
  | inl (here, same) ↦ subst FitsKind (sym same) new
  | inr (apart, there) ↦ fits y k there
]

pub fit_cut : (laid after : Laid) (x : ℕ) → AllFit laid → after ≡ remove laid x → AllFit after
fit_cut laid after x fits is y k at = fits y k (after_cut laid x y k (ap (λ m. get m y) (sym is) ∙ at)).1

pub fit_back : (laid after : Laid) (number : Option ℕ) (put : Option Node) → AllFit laid → ((n : Node) → put ≡ Some n → FitsKind n) → after ≡ given_back laid number put → AllFit after
fit_back laid after None put fits new is y k at = fits y k (ap (λ m. get m y) (sym is) ∙ at)
fit_back laid after (Some x) None fits new is y k at = fits y k (ap (λ m. get m y) (sym is) ∙ at)
fit_back laid after (Some x) (Some n) fits new is y k at = fit_put laid after x n fits (new n refl) is y k at

-- ONE CHANGE
pub away_has : (s : StockState) (number : Option ℕ) (put : Option Node) (x : ℕ) (n : Node) → IsAway s number put → number ≡ Some x → put ≡ Some n → Has s.numbers x
away_has s number put x n away from at =
    let same : IsAway s number put ≡ IsAway s (Some x) (Some n) = λ i. IsAway s (from i) (at i) in
    (subst (λ X. X) same away).1

-- a stock with a node more, and at least the same slots
pub record IsMore (old new : StockState) (x : ℕ) (n : Node) : Type 0 where
  pub laid : new.laid ≡ insert old.laid x n
  pub slots : HasAll old.numbers new.numbers

-- what lies by stays there when other nodes go back
stays_one : (s : StockState) (number : Option ℕ) (put : Option Node) → IsAway s number put → (x : ℕ) (k : Node) → get s.laid x ≡ Some k → get (given_back s.laid number put) x ≡ Some k
stays_one s None put away x k at = at
stays_one s (Some y) None away x k at = absurd away
stays_one s (Some y) (Some n) away x k at = elim (same_or_not x y) [
  | inl e ↦ absurd (not_both s.laid x k (ap (get s.laid) e ∙ away.0) at)
  | inr apart ↦ get_put_other s.laid y n x apart ∙ at
]

back_other : (laid : Laid) (number : Option ℕ) (put : Option Node) (x : ℕ) → number ≢ Some x → get (given_back laid number put) x ≡ get laid x
back_other laid None put x apart = refl
back_other laid (Some y) None x apart = refl
back_other laid (Some y) (Some n) x apart = get_put_other laid y n x (λ e. apart (ap Some (sym e)))

-- x isn't kept for what comes back, if the same lies there in the end
other_number : (s : StockState) (number : Option ℕ) (put : Option Node) (x : ℕ) (last : Laid) → IsAway s number put
    → ((k : Node) → get (given_back s.laid number put) x ≡ Some k → get last x ≡ Some k) → get s.laid x ≡ get last x → number ≢ Some x
other_number s None put x last away stays free e = cc
other_number s (Some y) None x last away stays free e = away
other_number s (Some y) (Some n) x last away stays free e =
    let same : y ≡ x = cc in
    let back : get (insert s.laid y n) x ≡ Some n = subst (λ z. get (insert s.laid y n) z ≡ Some n) same (get_put_same s.laid y n) in
    not_both s.laid x n (subst (λ z. get s.laid z ≡ None) same away.0) (free ∙ stays n back)

more_one : (old new : StockState) (x : ℕ) (n : Node) (number : Option ℕ) (put : Option Node) → IsMore old new x n → number ≢ Some x → IsAway old number put
    → IsAway new number put × (given_back new.laid number put ≡ insert (given_back old.laid number put) x n)
more_one old new x n None put more apart away = (tt, more.laid)
more_one old new x n (Some y) None more apart away = absurd away
more_one old new x n (Some y) (Some k) more apart away =
    let other : y ≢ x = λ e. apart (ap Some e) in (
      (ap (λ m. get m y) more.laid ∙ get_put_other old.laid x n y other ∙ away.0, more.slots y away.1),
      ap (λ m. insert m y k) more.laid ∙ put_apart old.laid x y n k other,
    )

same_one : (old new : StockState) (number : Option ℕ) (put : Option Node) → new.laid ≡ old.laid → HasAll old.numbers new.numbers → IsAway old number put → IsAway new number put
same_one old new None put laid slots away = tt
same_one old new (Some y) None laid slots away = away
same_one old new (Some y) (Some k) laid slots away = (ap (λ m. get m y) laid ∙ away.0, slots y away.1)

-- ALL CHANGES
pub none_past : (m : Nodes) (steps : List Step) → past_of m steps ≡ [] → steps ≡ []
none_past m [] none = refl
none_past m (s ∷ steps) none = cc

abbrev with_laid : StockState → Laid → StockState
with_laid s laid = record { laid = laid; numbers = s.numbers }

pub stays : (m : Nodes) (steps : List Step) (s : StockState) → AreAway m steps s → (x : ℕ) (k : Node) → get s.laid x ≡ Some k → get (laid_first m steps s.laid) x ≡ Some k
stays m [] s away x k at = at
stays m (u ∷ steps) s away x k at =
    stays (undone m u.undo) steps (with_laid s (laid_before m u s.laid)) away.1 x k (stays_one s u.number (get m (id_of u.undo)) away.0 x k at)

-- a node more under a number that isn't kept for one that comes back
pub record LaysBy (m : Nodes) (steps : List Step) (old new : StockState) (x : ℕ) (n : Node) : Type 0 where
  pub away : AreAway m steps new
  pub then : laid_first m steps new.laid ≡ insert (laid_first m steps old.laid) x n

pub lays_by : (m : Nodes) (steps : List Step) (old new : StockState) (x : ℕ) (n : Node) → AreAway m steps old → get old.laid x ≡ get (laid_first m steps old.laid) x → IsMore old new x n
    → LaysBy m steps old new x n
lays_by m [] old new x n away free more = record { away = tt; then = more.laid }
lays_by m (u ∷ steps) old new x n away free more =
    let before = undone m u.undo in
    let node = get m (id_of u.undo) in
    let laid = laid_before m u old.laid in
    let apart = other_number old u.number node x (laid_first before steps laid) away.0 (stays before steps (with_laid old laid) away.1 x) free in
    let one = more_one old new x n u.number node more apart away.0 in
    let rest = lays_by before steps (with_laid old laid) (with_laid new (laid_before m u new.laid)) x n away.1 (back_other old.laid u.number node x apart ∙ free) (record { laid = one.1; slots = more.slots }) in
    record { away = (one.0, rest.away); then = rest.then }

pub stays_away : (m : Nodes) (steps : List Step) (old new : StockState) → new.laid ≡ old.laid → HasAll old.numbers new.numbers → AreAway m steps old → AreAway m steps new
stays_away m [] old new laid slots away = tt
stays_away m (u ∷ steps) old new laid slots away =
    let node = get m (id_of u.undo) in (
      same_one old new u.number node laid slots away.0,
      stays_away (undone m u.undo) steps (with_laid old (laid_before m u old.laid)) (with_laid new (laid_before m u new.laid)) (ap (λ l. given_back l u.number node) laid) slots away.1,
    )

-- laid by, or no memory for that
pub lays_by_or_not : {A B : Type 0} (r : Result A B) (m : Nodes) (steps : List Step) (old new : StockState) (x : ℕ) (n : Node) → AreAway m steps old
    → get old.laid x ≡ get (laid_first m steps old.laid) x → OnOk r (new.laid ≡ insert old.laid x n) → OnErr r (new.laid ≡ old.laid) → HasAll old.numbers new.numbers → AreAway m steps new
lays_by_or_not (Ok a) m steps old new x n away free more same slots = (lays_by m steps old new x n away free (record { laid = more; slots = slots })).away
lays_by_or_not (Err e) m steps old new x n away free more same slots = stays_away m steps old new same slots away

pub laid_then : {A B : Type 0} (r : Result A B) (m : Nodes) (steps : List Step) (old new : StockState) (x : ℕ) (n : Node) → AreAway m steps old
    → get old.laid x ≡ get (laid_first m steps old.laid) x → OnOk r (new.laid ≡ insert old.laid x n) → HasAll old.numbers new.numbers
    → OnOk r (laid_first m steps new.laid ≡ insert (laid_first m steps old.laid) x n)
laid_then (Ok a) m steps old new x n away free more slots = (lays_by m steps old new x n away free (record { laid = more; slots = slots })).then
laid_then (Err e) m steps old new x n away free more slots = tt

pub fits_or_not : {A B : Type 0} (r : Result A B) (old new : Laid) (x : ℕ) (n : Node) → AllFit old → FitsKind n → OnOk r (new ≡ insert old x n) → OnErr r (new ≡ old) → AllFit new
fits_or_not (Ok a) old new x n fits new_fits more same = fit_put old new x n fits new_fits more
fits_or_not (Err e) old new x n fits new_fits more same = subst AllFit (sym same) fits

-- a node that is put from the stock
pub record PutsLaid (m now : Nodes) (steps : List Step) (s : Step) (old new : StockState) : Type 0 where
  pub away : AreAway now (s ∷ steps) new
  pub then : laid_first now (s ∷ steps) new.laid ≡ laid_first m steps old.laid

pub puts_laid : (m now : Nodes) (steps : List Step) (u : Undo) (id x : ℕ) (n : Node) (old new : StockState) → AreAway m steps old → TakesBack m now id u → now ≡ insert m id n
    → get old.laid x ≡ Some n → new.laid ≡ remove old.laid x → new.numbers ≡ old.numbers → Has new.numbers x → PutsLaid m now steps (record { undo = u; number = Some x }) old new
puts_laid m now steps u id x n old new away back put at taken named slot =
    let node : get now (id_of u) ≡ Some n = (λ i. get (put i) (back.whose i)) ∙ get_put_same m id n in
    let laid : given_back new.laid (Some x) (get now (id_of u)) ≡ old.laid = (λ i. given_back (taken i) (Some x) (node i)) ∙ put_again old.laid x n at in
    record {
      away = (
        subst (IsAway new (Some x)) (sym node) (ap (λ m. get m x) taken ∙ get_cut_same old.laid x, slot),
        (let e : AreAway (undone now u) steps (record { laid = given_back new.laid (Some x) (get now (id_of u)); numbers = new.numbers }) ≡ AreAway m steps old =
            λ i. AreAway (back.same i) steps (record { laid = laid i; numbers = named i }) in subst (λ X. X) (sym e) away),
      );
      then = λ i. laid_first (back.same i) steps (laid i);
    }

-- a change that is taken back
pub rest_away : (m now : Nodes) (s : Step) (steps all : List Step) (old new : StockState) → all ≡ s ∷ steps → AreAway m all old → now ≡ undone m s.undo → new.laid ≡ laid_before m s old.laid
    → new.numbers ≡ old.numbers → AreAway now steps new
rest_away m now s steps all old new is away tree laid named =
    let both : AreAway m (s ∷ steps) old = subst (λ l. AreAway m l old) is away in
    let same : AreAway now steps new ≡ AreAway (undone m s.undo) steps (with_laid old (laid_before m s old.laid)) =
    λ i. AreAway (tree i) steps (record { laid = laid i; numbers = named i }) in
    subst (λ X. X) (sym same) both.1

-- nothing to be taken back
pub none_away : (m : Nodes) (steps : List Step) (stock : StockState) → steps ≡ [] → AreAway m steps stock
none_away m steps stock none = subst (λ l. AreAway m l stock) (sym none) tt

pub first_is : (m : Nodes) (steps : List Step) (laid : Laid) → steps ≡ [] → laid_first m steps laid ≡ laid
first_is m steps laid none = ap (λ l. laid_first m l laid) none

pub other_stock : (m : Nodes) (steps : List Step) (spare kept : ℕ) (old new : StockState) → IsUndoTree m steps spare kept old → steps ≡ [] → AllFit new.laid
    → IsUndoTree m steps spare kept new
other_stock m steps spare kept old new was none fits = record {
  form = was.form;
  undos = was.undos;
  owed = was.owed;
  room = was.room;
  away = none_away m steps new none;
  fits = fits;
}
