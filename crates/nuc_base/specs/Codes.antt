-- The codes of nodes and trees, for a `Model` whose value has them.
use Rattle.std.specs.Prelude.{◌≡◌, ℕ, Bool, true, false, List, refl}
use Rattle.std.specs.Coded.{Coded, code_by, coded×, coded_ℕ, coded_bool, coded_list}
use Rattle.std.specs.FinMap as map
use Rattle.nuc_base.specs.Trees.{Nodes}
use Rattle.nuc_base.specs.declared.node.Kind.{Kind}
use Rattle.nuc_base.specs.declared.node.Kind.TheVariants.{Folder, File}
use Rattle.nuc_base.specs.declared.node.Node.{Node}

abbrev pub is_file : Kind → Bool
is_file Folder = false
is_file File = true

abbrev pub kind_of : Bool → Kind
kind_of false = Folder
kind_of true = File

pub kind_again : (k : Kind) → kind_of (is_file k) ≡ k
kind_again Folder = refl
kind_again File = refl

abbrev pub kind_code : Coded Kind
kind_code = code_by Bool coded_bool is_file kind_of kind_again

abbrev pub node_code : Coded Node
node_code = code_by ((ℕ × List ℕ) × (Kind × (ℕ × Bool))) (coded× (coded× coded_ℕ (coded_list coded_ℕ)) (coded× kind_code (coded× coded_ℕ coded_bool)))
    (λ n. ((n.place.parent.0, n.place.name), (n.kind, (n.ver.0, n.bit))))
    (λ t. record { place = record { parent = record { 0 = t.0.0 }; name = t.0.1 }; kind = t.1.0; ver = record { 0 = t.1.1.0 }; bit = t.1.1.1 })
    (λ _. refl)

abbrev pub nodes_code : Coded Nodes
nodes_code = map.code coded_ℕ node_code
