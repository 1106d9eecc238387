use Rattle.std.proofs.Common.{◌≡◌, Some, refl, sym, ap, subst, rules}
use Rattle.std.specs.FinMap as tree
use Rattle.nuc_base.specs.Kinds.{FitsKind}
use Rattle.nuc_base.specs.Legal.{LegalPut}
use Rattle.nuc_base.specs.Trees.{Nodes, WellFormed}
use Rattle.nuc_base.specs.declared.node.Kind.TheVariants.{File}
use Rattle.nuc_base.specs.declared.node.Node.{Node}
use Rattle.nuc_journal.specs.Entries.{tree_of}
use Rattle.nuc_server.proofs.Fresh.{next_answered, below}
use Rattle.nuc_server.proofs.Putting.{own_kind, legal_here, fits_bit}
use Rattle.nuc_server.proofs.bit.set_bit.Goals as goal

pub enter-requires-clause-kind : goal.enter-requires-clause-kind
enter-requires-clause-kind c =
    let x = c.in-Some.id.0 in
    let n = c.in-Some.node.now in
    let at = subst (λ (m : Nodes). tree.get m x ≡ Some n) c.tree.ensures.nodes c.in-Some.ensures.0 in
    own_kind c.args.server.now.now x n c.in-Ok.node.kind c.requires.journal at (ap (λ (k : Node). k.kind) c.in-Ok.ensures)

pub enter-requires-clause-legal : goal.enter-requires-clause-legal
enter-requires-clause-legal c =
    let es = c.args.server.now.now in
    let x = c.in-Some.id.0 in
    let n = c.in-Some.node.now in
    let node : Node = record n { bit = c.args.on } in
    let form = subst WellFormed c.tree.ensures.nodes c.tree.ensures.form in
    let at = subst (λ (m : Nodes). tree.get m x ≡ Some n) c.tree.ensures.nodes c.in-Some.ensures.0 in
    let file : n.kind ≡ File = search rules in
    subst (λ (k : Node). FitsKind k × LegalPut (tree_of es) x k) (sym c.in-Ok.ensures)
    (fits_bit n.kind n.ver.0 n.bit c.args.on file (form.fits x n at), legal_here (tree_of es) x n node form at refl refl)

pub returns-in-Ok-clause-identities : goal.returns-in-Ok-clause-identities
returns-in-Ok-clause-identities c =
    let es = c.args.server.now.now in
    let x = c.in-Some.id.0 in
    let n = c.in-Some.node.now in
    let next = c.args.ids.now.next_id in
    let at = subst (λ (m : Nodes). tree.get m x ≡ Some n) c.tree.ensures.nodes c.in-Some.ensures.0 in
    next_answered next es c.requires.identities x (Some c.in-Ok.node) c.enter.result c.enter.new.self.now (below next es c.requires.identities x n at) c.enter.ensures.answers
