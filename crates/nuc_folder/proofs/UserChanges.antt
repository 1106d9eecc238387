-- Changes by a user are legal where nobody has the place.
use Rattle.std.proofs.Common.{◌≡◌, ◌<◌, ℕ, List, None, Some, ap}
use Rattle.std.specs.FinMap.{get}
use Rattle.nuc_base.specs.Legal.{LegalPut}
use Rattle.nuc_base.specs.Trees.{Nodes, IsFolder, IsUnder, IsVacant, WellFormed}
use Rattle.nuc_base.specs.declared.node.Node.{Node}
use Rattle.nuc_base.specs.declared.node.Place.{Place}
use Rattle.nuc_base.proofs.Alike.{under_absent}
use Rattle.nuc_base.proofs.Maps.{not_both, one_node}
use Rattle.nuc_shelf.specs.Shelf.{placed}
use Rattle.nuc_folder.specs.UserEdits.{FindsSomebody, MakeRefused, MoveRefused}
use Rattle.nuc_folder.specs.declared.user_edit.UserReply.{UserReply}
use Rattle.nuc_folder.specs.declared.user_edit.UserReply.TheVariants as reply

-- a key that nothing has may get a node there
pub legal_new : (m : Nodes) (x : ℕ) (node : Node) → WellFormed m → 0 < x → get m x ≡ None → IsFolder m node.place.parent.0 → IsVacant m node.place → LegalPut m x node
legal_new m x node form above gone folder vacant = record {
  kind = λ n at. absurd (not_both m x n gone at);
  parent = folder;
  free = λ y n at same. absurd (vacant y n at same);
  no_cycle = under_absent m x node.place.parent.0 form above folder gone;
}

-- and what has a node may move there, if it isn't above it
pub legal_moved : (m : Nodes) (x : ℕ) (n : Node) (place : Place) → get m x ≡ Some n → IsFolder m place.parent.0 → IsVacant m place → ¬ (IsUnder m place.parent.0 x)
    → LegalPut m x (placed place n)
legal_moved m x n place at folder vacant apart = record {
  kind = λ k there. ap (λ (k : Node). k.kind) (one_node m x k n there at);
  parent = folder;
  free = λ y k there same. absurd (vacant y k there same);
  no_cycle = apart;
}

-- why nothing can be made at the second path is why nothing can be moved there
pub still_refused : (m : Nodes) (from to : List (List ℕ)) (r : UserReply) → FindsSomebody m from → MakeRefused m to r → MoveRefused m from to r
still_refused m from to reply.NoParent some is = (some, is)
still_refused m from to reply.Taken some is = (some, is)
still_refused m from to reply.Memory some is = tt
still_refused m from to reply.Ok some is = absurd is
still_refused m from to reply.NoSuch some is = absurd is
still_refused m from to reply.Kind some is = absurd is
still_refused m from to reply.Cycle some is = absurd is
