-- The end of an operation lowers what is carried, and the entry of a commit doesn't raise it.
use Rattle.std.proofs.Common.{◌≡◌, ℕ, Bool, false, Option, Some, sym, subst, inl, inr}
use Rattle.std.specs.FinMap.{get, insert, remove}
use Rattle.std.proofs.lemmas.Bool.{cases_Bool}
use Rattle.nuc_base.specs.declared.node.Node.{Node}
use Rattle.nuc_class.specs.Equal.{value_eq}
use Rattle.nuc_class.specs.Merge.{target}
use Rattle.nuc_class.specs.Split.{needs_split}
use Rattle.nuc_class.specs.Wishes.{WantsDown}
use Rattle.nuc_class.proofs.Tells.{value_eq-Decides}
use Rattle.nuc_measure.specs.Laws.{EndsLower, EntriesKeep}
use Rattle.nuc_measure.specs.Steps.Comes.{up_came, cut_came}
use Rattle.nuc_measure.specs.Steps.Ends.{down, cut_down, forget, up}
use Rattle.nuc_measure.proofs.Carried.{pays_lowers, spares_keeps}
use Rattle.nuc_measure.proofs.Steps.{end_up, entry_cut, entry_up, not_differs, pay_cut_down, pay_down, pay_forget}

-- a Down that may be wished, by its tests
pub wished_of : (same : ℕ → ℕ → Bool) (r l s : Option Node) (n : Node) → r ≡ Some n → WantsDown same ⊥ r l s
    → (k : Node) → l ≡ Some k → (needs_split same (Some n) (Some k) s ≡ false) × (value_eq (Some n) s ≡ false)
wished_of same r l s n at wants k there =
    let known : WantsDown same ⊥ (Some n) (Some k) s = subst (λ o. WantsDown same ⊥ (Some n) o s) there (subst (λ o. WantsDown same ⊥ o l s) at wants) in (
      known.0,
      elim (cases_Bool (value_eq (Some n) s)) [
        | inl e ↦ absurd (known.1 (sym ((value_eq-Decides (Some n) s).0 e)))
        | inr e ↦ e
      ],
    )

pub ends_lower : EndsLower
ends_lower same fly now r l s x _ _ _ fit above flies landed (down n at wants in_local in_synced) =
    pays_lowers same fly now flies r l s r (insert l x (target n (get l x) (get s x))) (insert s x n) x
    (pay_down same fly now flies r l s x fit n at (wished_of same (get r x) (get l x) (get s x) n at wants) in_local in_synced landed)
ends_lower same fly now r l s x _ _ _ fit above flies landed (cut_down k none at in_local) =
    pays_lowers same fly now flies r l s r (remove l x) (remove s x) x (pay_cut_down same fly now flies r l s x fit k above none at in_local landed)
ends_lower same fly now r l s x _ _ _ fit above flies landed (forget no_r no_l in_synced) =
    let (h, at) = in_synced.there in
    pays_lowers same fly now flies r l s r l (remove s x) x (pay_forget same fly now flies r l s x fit h above no_r no_l at landed)
ends_lower same fly now r l s x _ _ _ fit above flies landed (up n in_r in_l flew) =
    pays_lowers same fly now flies r l s r l (insert s x n) x (end_up same fly now flies r l s x fit n in_r in_l flew landed)

pub entries_keep : EntriesKeep
entries_keep same fly now r l s x _ fit above flies (up_came n at apart in_remote in_synced) =
    spares_keeps same fly now flies r l s (insert r x n) l s
    (entry_up same fly now flies r l s x fit n at (not_differs (get r x) (get l x) (get s x) apart) in_remote in_synced)
entries_keep same fly now r l s x _ fit above flies (cut_came n no_l at in_remote) =
    spares_keeps same fly now flies r l s (remove r x) l s (entry_cut same fly now flies r l s x fit n above no_l at in_remote)
