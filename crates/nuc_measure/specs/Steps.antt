-- What may change the three trees of a client while its own operations are carried out, by values and legality alone.
use Rattle.std.specs.Prelude.{◌≡◌, ℕ, Bool, IsTrue, None, Some}
use Rattle.std.specs.FinMap.{get, insert, remove}
use Rattle.nuc_base.specs.Legal.{LegalPut, LegalCut}
use Rattle.nuc_base.specs.Trees.{Nodes}
use Rattle.nuc_base.specs.declared.node.Node.{Node}
use Rattle.nuc_class.specs.Merge.{target}
use Rattle.nuc_class.specs.Wishes.{AllEqual, WantsDown}

-- the operation of x ends, and these are Remote, Local and Synced then: a Down; a CutDown; a Forget, or a CutUp whose entry has
-- come; an Up whose entry has come, and which was in flight until then
pub data Ends (same : ℕ → ℕ → Bool) (fly : ℕ → Bool) (r l s : Nodes) (x : ℕ) : Nodes → Nodes → Nodes → Type 0 where
  down : (n : Node) → get r x ≡ Some n → WantsDown same ⊥ (get r x) (get l x) (get s x) → LegalPut l x (target n (get l x) (get s x)) → LegalPut s x n
      → Ends same fly r l s x r (insert l x (target n (get l x) (get s x))) (insert s x n)
  cut_down : (n : Node) → get r x ≡ None → get l x ≡ Some n → LegalCut l x → Ends same fly r l s x r (remove l x) (remove s x)
  forget : get r x ≡ None → get l x ≡ None → LegalCut s x → Ends same fly r l s x r l (remove s x)
  up : (n : Node) → get r x ≡ Some n → get l x ≡ Some n → IsTrue (fly x) → Ends same fly r l s x r l (insert s x n)

-- the entry of a commit of x comes, and this is Remote then: that of an Up, or of a CutUp
pub data Comes (r l s : Nodes) (x : ℕ) : Nodes → Type 0 where
  up_came : (n : Node) → get l x ≡ Some n → ¬ (AllEqual (get r x) (get l x) (get s x)) → LegalPut r x n → LegalPut s x n → Comes r l s x (insert r x n)
  cut_came : (n : Node) → get l x ≡ None → get r x ≡ Some n → LegalCut r x → Comes r l s x (remove r x)
