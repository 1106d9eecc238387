-- A commit is judged in one way.
use Rattle.std.proofs.Common.{◌≡◌, ◌≢◌, ℕ, List, Option, Some, None, refl, sym, ◌∙◌, ap}
use Rattle.nuc_base.specs.Trees.{Nodes, WellFormed}
use Rattle.nuc_base.specs.declared.node.Node.{Node}
use Rattle.nuc_base.specs.declared.node.NodeId.{NodeId}
use Rattle.nuc_base.specs.declared.tree_fault.CutFault.TheVariants as cut
use Rattle.nuc_base.specs.declared.tree_fault.PutFault.TheVariants as put
use Rattle.nuc_base.proofs.Places.{one_holder}
use Rattle.nuc_base.proofs.Reasons.{legal_cut-fault, legal_put-fault}
use Rattle.nuc_blocks.specs.Blocks.{Blocks, first_missing}
use Rattle.nuc_hash.specs.declared.digest.Digest.{Digest}
use Rattle.nuc_journal.specs.Entries.{revision_of, tree_of}
use Rattle.nuc_journal.specs.Journal.{HasOldKind, IsLegalValue}
use Rattle.nuc_journal.specs.declared.entry.Entry.{Entry}
use Rattle.nuc_server.specs.Judge.{IsAccepted, IsRefused, IsUnlawful}
use Rattle.nuc_server.specs.declared.commit.Commit.{Commit}
use Rattle.nuc_server.specs.declared.commit.Refusal.{Refusal}
use Rattle.nuc_server.specs.declared.commit.Refusal.TheVariants as refusal

-- WHAT IS LAWFUL has no such reason
lawful_none : (m : Nodes) (x : ℕ) (value : Option Node) (why : Refusal) → IsLegalValue m x value → ¬ (IsUnlawful m x value why)
lawful_none m x (Some n) refusal.NoParent legal fault = absurd (let bad : put.NoParent ≡ put.Memory = legal_put-fault m x n put.NoParent legal.1 fault in cc)
lawful_none m x (Some n) (refusal.Taken y) legal fault = absurd (let bad : put.Taken y ≡ put.Memory = legal_put-fault m x n (put.Taken y) legal.1 fault in cc)
lawful_none m x (Some n) refusal.Cycle legal fault = absurd (let bad : put.Cycle ≡ put.Memory = legal_put-fault m x n put.Cycle legal.1 fault in cc)
lawful_none m x None refusal.NotEmpty legal fault = legal_cut-fault m x cut.NotEmpty legal fault
lawful_none m x value why legal fault = absurd fault

identity_one : (y z : NodeId) → y.0 ≡ z.0 → y ≡ z
identity_one y z same = ap (λ k. record { 0 = k }) same

-- one reason in the tree
unlawful_one : (m : Nodes) (x : ℕ) (value : Option Node) (a b : Refusal) → WellFormed m → IsUnlawful m x value a → IsUnlawful m x value b → a ≡ b
unlawful_one m x (Some n) refusal.NoParent refusal.NoParent form a b = refl
unlawful_one m x (Some n) refusal.NoParent (refusal.Taken z) form a b = absurd (a.1 b.1)
unlawful_one m x (Some n) refusal.NoParent refusal.Cycle form a b = absurd (a.1 b.1)
unlawful_one m x (Some n) (refusal.Taken y) refusal.NoParent form a b = absurd (b.1 a.1)
unlawful_one m x (Some n) (refusal.Taken y) (refusal.Taken z) form a b = ap refusal.Taken (identity_one y z (one_holder m y.0 z.0 n.place form a.3 b.3))
unlawful_one m x (Some n) (refusal.Taken y) refusal.Cycle form a b = let (k, e, s) = a.3 in absurd (a.2 (b.2 y.0 k e s))
unlawful_one m x (Some n) refusal.Cycle refusal.NoParent form a b = absurd (b.1 a.1)
unlawful_one m x (Some n) refusal.Cycle (refusal.Taken z) form a b = let (k, e, s) = b.3 in absurd (b.2 (a.2 z.0 k e s))
unlawful_one m x (Some n) refusal.Cycle refusal.Cycle form a b = refl
unlawful_one m x None refusal.NotEmpty refusal.NotEmpty form a b = refl
unlawful_one m x (Some n) refusal.NoParent _ form a b = absurd b
unlawful_one m x (Some n) (refusal.Taken y) _ form a b = absurd b
unlawful_one m x (Some n) refusal.Cycle _ form a b = absurd b
unlawful_one m x None refusal.NotEmpty _ form a b = absurd b
unlawful_one m x value _ b form y z = absurd y

-- ONE REASON
-- the base is stale, the kind is another, the tree doesn't allow it, or a block isn't kept
pub data Reason (es : List Entry) (blocks : Blocks) (c : Commit) (digests : List Digest) (why : Refusal) : Type 0 where
  stale : (current : ℕ) → why ≡ refusal.Stale current → c.base ≢ revision_of es c.id.0 → current ≡ revision_of es c.id.0 → Reason es blocks c digests why
  kind : why ≡ refusal.KindChanged → c.base ≡ revision_of es c.id.0 → ¬ (HasOldKind es c.id.0 c.value) → Reason es blocks c digests why
  unlawful : c.base ≡ revision_of es c.id.0 → HasOldKind es c.id.0 c.value → IsUnlawful (tree_of es) c.id.0 c.value why → Reason es blocks c digests why
  block : (digest : Digest) → why ≡ refusal.NoBlock digest → c.base ≡ revision_of es c.id.0 → HasOldKind es c.id.0 c.value → IsLegalValue (tree_of es) c.id.0 c.value
      → first_missing blocks digests ≡ Some digest → Reason es blocks c digests why

module _ (es : List Entry) (blocks : Blocks) (c : Commit) (digests : List Digest) where
  reason_of : (why : Refusal) → IsRefused es blocks c digests why → Reason es blocks c digests why
  reason_of (refusal.Stale current) (off, is) = stale current refl (λ same. off (same ∙ sym is)) is
  reason_of refusal.KindChanged (base, other) = kind refl base other
  reason_of (refusal.NoBlock digest) (base, old, legal, misses) = block digest refl base old legal misses
  reason_of refusal.NoParent (base, old, is) = unlawful base old is
  reason_of (refusal.Taken y) (base, old, is) = unlawful base old is
  reason_of refusal.Cycle (base, old, is) = unlawful base old is
  reason_of refusal.NotEmpty (base, old, is) = unlawful base old is

  reason_one : (a b : Refusal) → WellFormed (tree_of es) → Reason es blocks c digests a → Reason es blocks c digests b → a ≡ b
  reason_one a b form (stale n is off now) (stale k was out then) = is ∙ ap refusal.Stale (now ∙ sym then) ∙ sym was
  reason_one a b form (stale n is off now) (kind was base other) = absurd (off base)
  reason_one a b form (stale n is off now) (unlawful base old bad) = absurd (off base)
  reason_one a b form (stale n is off now) (block d was base old legal misses) = absurd (off base)
  reason_one a b form (kind is base other) (stale k was out then) = absurd (out base)
  reason_one a b form (kind is base other) (kind was also wrong) = is ∙ sym was
  reason_one a b form (kind is base other) (unlawful also old bad) = absurd (other old)
  reason_one a b form (kind is base other) (block d was also old legal misses) = absurd (other old)
  reason_one a b form (unlawful base old bad) (stale k was out then) = absurd (out base)
  reason_one a b form (unlawful base old bad) (kind was also wrong) = absurd (wrong old)
  reason_one a b form (unlawful base old bad) (unlawful also its worse) = unlawful_one (tree_of es) c.id.0 c.value a b form bad worse
  reason_one a b form (unlawful base old bad) (block d was also its legal misses) = absurd (lawful_none (tree_of es) c.id.0 c.value a legal bad)
  reason_one a b form (block d is base old legal misses) (stale k was out then) = absurd (out base)
  reason_one a b form (block d is base old legal misses) (kind was also wrong) = absurd (wrong old)
  reason_one a b form (block d is base old legal misses) (unlawful also its bad) = absurd (lawful_none (tree_of es) c.id.0 c.value b legal bad)
  reason_one a b form (block d is base old legal misses) (block e was also its may lacks) =
      let one : Some d ≡ Some e = sym misses ∙ lacks in
      let same : d ≡ e = cc in is ∙ ap refusal.NoBlock same ∙ sym was

  pub refused_one : (a b : Refusal) → WellFormed (tree_of es) → IsRefused es blocks c digests a → IsRefused es blocks c digests b → a ≡ b
  refused_one a b form x y = reason_one a b form (reason_of a x) (reason_of b y)

  none_accepted : (why : Refusal) → IsAccepted es blocks c digests → ¬ (Reason es blocks c digests why)
  none_accepted why can (stale n is off now) = off can.fresh
  none_accepted why can (kind is base other) = other can.kind
  none_accepted why can (unlawful base old bad) = lawful_none (tree_of es) c.id.0 c.value why can.legal bad
  none_accepted why can (block d is base old legal misses) = let bad : None ≡ Some d = sym can.kept ∙ misses in cc

  -- what is accepted isn't refused
  pub accepted_not_refused : (why : Refusal) → IsAccepted es blocks c digests → ¬ (IsRefused es blocks c digests why)
  accepted_not_refused why can x = none_accepted why can (reason_of why x)
