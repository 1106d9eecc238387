-- The place to which a path of names leads has a name.
use Rattle.std.proofs.Common.{ℕ, List, [], ◌∷◌, sym, subst}
use Rattle.std.specs.List.{AllByRecursion}
use Rattle.nuc_base.specs.Names.{IsName}
use Rattle.nuc_base.specs.Trees.{Nodes}
use Rattle.nuc_base.specs.declared.node.Place.{Place}
use Rattle.nuc_paths.specs.Paths.{LeadsOn, LeadsTo}

leads_on : (m : Nodes) (x : ℕ) (name : List ℕ) (names : List (List ℕ)) (place : Place) → IsName name → AllByRecursion IsName names → LeadsOn m x name names place → IsName place.name
leads_on m x name [] place its rest (folder, is) = subst (λ (p : Place). IsName p.name) (sym is) its
leads_on m x name (next ∷ names) place its (first, rest) (y, at, leads) = leads_on m y next names place first rest leads

pub leads_named : (m : Nodes) (x : ℕ) (names : List (List ℕ)) (place : Place) → AllByRecursion IsName names → LeadsTo m x names place → IsName place.name
leads_named m x [] place all leads = absurd leads
leads_named m x (name ∷ names) place (first, rest) leads = leads_on m x name names place first rest leads
