-- The identity that whoever is new gets.
use Rattle.std.proofs.Common.{◌≡◌, ◌≢◌, ◌<◌, ◌≤◌, ◌==◌, ℕ, suc, false, cond, List, [], ◌∷◌, slice_get, Option, None, Some, refl, ap, ◌∙◌, inl, inr, arith}
use Rattle.std.proofs.lemmas.Bool.{cases_lt}
use Rattle.std.specs.FinMap as tree
use Rattle.nuc_base.specs.declared.node.Kind.{Kind}
use Rattle.nuc_base.specs.declared.node.Node.{Node}
use Rattle.nuc_base.proofs.Maps.{not_both}
use Rattle.nuc_journal.specs.Entries.{kind_with, kind_after, kind_of, value_after, tree_of}
use Rattle.nuc_journal.specs.declared.entry.Entry.{Entry}
use Rattle.nuc_journal.proofs.Ends.{other_no, last_stands}
use Rattle.nuc_journal.proofs.Lists.{push_cases}
use Rattle.nuc_server.specs.Judge.{next_entry}
use Rattle.nuc_server.specs.WebEdits.{IsNextId, Enters, EnterAnswers}
use Rattle.nuc_server.specs.declared.web_edit.WebReply.{WebReply}
use Rattle.nuc_server.specs.declared.web_edit.WebReply.TheVariants as reply

-- entries of others alone
Others : List Entry → ℕ → Type 0
Others es x = (k : ℕ) (e : Entry) → slice_get es k ≡ Some e → e.id.0 ≢ x

rest_others : (e : Entry) (es : List Entry) (x : ℕ) → Others (e ∷ es) x → Others es x
unfolding Others
rest_others e es x others k f at = others (suc k) f at

first_other : (e : Entry) (es : List Entry) (x : ℕ) → Others (e ∷ es) x → (e.id.0 == x) ≡ false
unfolding Others
first_other e es x others = other_no e.id.0 x (others 0 e refl)

kind_without : (before : Option Kind) (es : List Entry) (x : ℕ) → Others es x → kind_after before es x ≡ before
kind_without before [] x others = refl
kind_without before (e ∷ es) x others =
    kind_without (cond (e.id.0 == x) (kind_with e.value before) before) es x (rest_others e es x others)
    ∙ ap (λ b. cond b (kind_with e.value before) before) (first_other e es x others)

value_without : (before : Option Node) (es : List Entry) (x : ℕ) → Others es x → value_after before es x ≡ before
value_without before [] x others = refl
value_without before (e ∷ es) x others =
    value_without (cond (e.id.0 == x) e.value before) es x (rest_others e es x others)
    ∙ ap (λ b. cond b e.value before) (first_other e es x others)

module _ (next : ℕ) (es : List Entry) (fresh : IsNextId next es) where
  others : (x : ℕ) → next ≤ x → Others es x
  unfolding Others
  others x le k e at same = absurd (let less = fresh.above k e at in omega (arith, same, less, le))

  -- it never had a node
  pub no_kind : kind_of es next ≡ None
  no_kind = kind_without None es next (others next (omega arith))

  nobody_from : (x : ℕ) → next ≤ x → tree.get (tree_of es) x ≡ None
  nobody_from x le = last_stands es x ∙ value_without None es x (others x le)

  pub nobody : tree.get (tree_of es) next ≡ None
  nobody = nobody_from next (omega arith)

  -- who stands in the tree is below it
  pub below : (x : ℕ) (n : Node) → tree.get (tree_of es) x ≡ Some n → x < next
  below x n at = elim (cases_lt x next) [
    | inl less ↦ less
    | inr more ↦ absurd (not_both (tree_of es) x n (nobody_from x more) at)
  ]

  -- it is above an entry's identity too, where that is below
  pub next_push : (later : ℕ) (x : ℕ) (value : Option Node) (rev : ℕ) (now : List Entry) → x < later → next ≤ later → Enters es x value rev now → IsNextId later now
  next_push later x value rev now less le (counted, grown) = rw grown (record {
    some = (let some = fresh.some in omega (arith, some, le));
    above = λ k e at. elim (push_cases es (next_entry es x value 0) k e at) [
      | inl (short, old) ↦ (let above = fresh.above k e old in omega (arith, above, le))
      | inr (end, same) ↦ (let own : x ≡ e.id.0 = ap (λ (f : Entry). f.id.0) same in omega (arith, own, less))
    ];
  })

  -- after any answer to a value of an identity below it
  pub next_answered : (x : ℕ) (value : Option Node) (answer : WebReply) (now : List Entry) → x < next → EnterAnswers es x value answer now → IsNextId next now
  next_answered x value (reply.Accepted rev) now less entered = next_push next x value rev now less (omega arith) entered
  next_answered x value reply.Memory now less same = rw same fresh
  next_answered x value reply.Same now less none = absurd none
  next_answered x value reply.NoSuch now less none = absurd none
  next_answered x value reply.NoParent now less none = absurd none
  next_answered x value (reply.Taken y) now less none = absurd none
  next_answered x value reply.Cycle now less none = absurd none
  next_answered x value reply.NotEmpty now less none = absurd none
  next_answered x value reply.KindChanged now less none = absurd none
