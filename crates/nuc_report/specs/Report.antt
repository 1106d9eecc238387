-- What a report prints, by its parts.
use Rattle.std.specs.Prelude.{ℕ, List, [], ◌∷◌, ◌++◌, Bool, true, false, codes, decimal}
use Rattle.std.specs.FinMap.{get, keys}
use Rattle.std.specs.List.{flat_map}
use Rattle.std.specs.Option.{option_map_or}
use Rattle.hex.specs.Hex.{encode_lower}
use Rattle.nuc_base.specs.Trees.{Nodes}
use Rattle.nuc_base.specs.declared.node.Kind.{Kind}
use Rattle.nuc_base.specs.declared.node.Kind.TheVariants.{Folder, File}
use Rattle.nuc_base.specs.declared.node.Node.{Node}
use Rattle.nuc_edits.specs.declared.edit.Adoption.{Adoption}
use Rattle.nuc_edits.specs.declared.edit.Edit.{Edit}
use Rattle.nuc_edits.specs.declared.edit.EditKind.{EditKind}
use Rattle.nuc_edits.specs.declared.edit.EditKind.TheVariants.{Put, Deleted}
use Rattle.nuc_folder.specs.declared.item.Item.{Item}
use Rattle.nuc_report.specs.Entry.{item_line}
use Rattle.nuc_report.specs.Line.{line}
use Rattle.nuc_script.specs.Text.{escaped}

-- what a report shows of a client: its trees, and the listing of its folder
pub record ClientSeen : Type 0 where
  pub number : ℕ
  pub cursor : ℕ
  pub changes : ℕ
  pub remote : Nodes
  pub local : Nodes
  pub synced : Nodes
  pub folder : List Item

-- what a report shows: the server's last revision and its tree, the clients, the edits and the adoptions
pub record Seen : Type 0 where
  pub revision : ℕ
  pub server : Nodes
  pub clients : List ClientSeen
  pub edits : List Edit
  pub adoptions : List Adoption

-- a file with the bit is a program
abbrev pub kind_word : Kind → Bool → List ℕ
kind_word Folder bit = codes "folder"
kind_word File false = codes "file"
kind_word File true = codes "program"

abbrev pub node_line : ℕ → Node → List ℕ
node_line id node =
    let kind = kind_word node.kind node.bit in
    line (codes "node" ∷ decimal id ∷ decimal node.place.parent.0 ∷ kind ∷ decimal node.ver.0 ∷ escaped node.place.name ∷ [])

-- the line of the node that stands there, if one does
abbrev pub line_at : Nodes → ℕ → List ℕ
line_at nodes id = option_map_or (node_line id) (get nodes id) []

-- a line for each node, in order of identity
abbrev pub tree_text : Nodes → List ℕ
tree_text nodes = flat_map (line_at nodes) (keys nodes)

abbrev pub change_words : EditKind → List (List ℕ)
change_words (Put content) = codes "put" ∷ decimal content.size ∷ encode_lower content.hash.0 ∷ []
change_words Deleted = codes "deleted" ∷ []

abbrev pub edit_line : Edit → List ℕ
edit_line edit = line (codes "edit" ∷ decimal edit.ver.0 ∷ decimal edit.id.0 ∷ decimal edit.base.0 ∷ change_words edit.what)

abbrev pub adoption_line : Adoption → List ℕ
adoption_line adoption = line (codes "adopt" ∷ decimal adoption.old.0 ∷ decimal adoption.into.0 ∷ [])

abbrev pub client_text : ClientSeen → List ℕ
client_text client =
    line (codes "client" ∷ decimal client.number ∷ decimal client.cursor ∷ decimal client.changes ∷ [])
    ++ line (codes "remote" ∷ []) ++ tree_text client.remote
    ++ line (codes "local" ∷ []) ++ tree_text client.local
    ++ line (codes "synced" ∷ []) ++ tree_text client.synced
    ++ line (codes "folder" ∷ []) ++ flat_map item_line client.folder

abbrev pub report_text : Seen → List ℕ
report_text seen =
    (line (codes "report" ∷ []) ++ line (codes "server" ∷ decimal seen.revision ∷ []))
    ++ tree_text seen.server
    ++ flat_map client_text seen.clients
    ++ flat_map edit_line seen.edits
    ++ flat_map adoption_line seen.adoptions
