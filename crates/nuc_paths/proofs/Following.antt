-- Where a path leads, name by name.
use Rattle.std.proofs.Common.{◌≡◌, ◌∙◌, ◌-◌, ◌≤◌, take, ap, sym, arith, length, drop, get_or, ℕ, List, [], ◌∷◌, Option, None, Some, MatchOption, subst}
use Rattle.std.proofs.Math.Seq.{take-length}
use Rattle.nuc_base.specs.Trees.{Nodes, IsFolder, StandsAt, WellFormed}
use Rattle.nuc_base.specs.declared.node.Place.{Place}
use Rattle.nuc_base.proofs.Places.{one_holder}
use Rattle.nuc_paths.specs.Paths.{LeadsNowhereOn, LeadsOn, LeadsTo, place_in}

-- a name leads where the next one leads from who has its place
pub below_leads : {A : Type 0} (r : Option A) (at : A → Place) (m : Nodes) (x : ℕ) (name next : List ℕ) (names : List (List ℕ)) (y : ℕ) → WellFormed m → StandsAt m y (place_in x name)
    → MatchOption r (LeadsNowhereOn m y next names) (λ a. LeadsOn m y next names (at a))
    → MatchOption r (LeadsNowhereOn m x name (next ∷ names)) (λ a. LeadsOn m x name (next ∷ names) (at a))
below_leads None at m x name next names y form stands nowhere =
    λ place (z, also, leads). nowhere place (subst (λ w. LeadsOn m w next names place) (one_holder m z y (place_in x name) form also stands) leads)
below_leads (Some a) at m x name next names y form stands leads = (y, stands, leads)

-- names are the first and the others
pub first_and_rest : (names : List (List ℕ)) (first : List ℕ) → 1 ≤ length names → first ≡ get_or names 0 first → names ≡ first ∷ take (length names - 1) (drop 1 names)
first_and_rest [] first some is = absurd (omega arith)
first_and_rest (name ∷ names) first some is =
    let count : length (name ∷ names) - 1 ≡ length names = omega arith in
    ap (λ n. n ∷ names) (sym is) ∙ ap (λ rest. first ∷ rest) (sym (ap (λ k. take k names) count ∙ take-length names))

leads_folder-on : (m : Nodes) (x : ℕ) (name : List ℕ) (names : List (List ℕ)) (p : ℕ) (last : List ℕ) → LeadsOn m x name names (place_in p last) → IsFolder m p
leads_folder-on m x name [] p last (folder, same) = let eq : p ≡ x = ap (λ (q : Place). q.parent.0) same in subst (IsFolder m) (sym eq) folder
leads_folder-on m x name (next ∷ names) p last (y, stands, leads) = leads_folder-on m y next names p last leads

-- it leads below a folder
pub leads_folder : (m : Nodes) (x : ℕ) (names : List (List ℕ)) (p : ℕ) (last : List ℕ) → LeadsTo m x names (place_in p last) → IsFolder m p
leads_folder m x [] p last none = absurd none
leads_folder m x (name ∷ names) p last leads = leads_folder-on m x name names p last leads
