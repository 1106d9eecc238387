-- An operation that lands loses nothing: what it takes from Local is gone by, or is adopted then.
use Rattle.std.specs.Prelude.{All, Any}
use Rattle.std.proofs.Common.{◌≡◌, ◌⊎◌, ◌<◌, ℕ, Bool, true, false, cond, [], ◌∷◌, None, refl, sym, ◌∙◌, ap, subst, inl, inr}
use Rattle.std.proofs.lemmas.List.{append-nil}
use Rattle.std.specs.FinMap.{get}
use Rattle.nuc_base.specs.Changes.{changed, node_after}
use Rattle.nuc_base.specs.Ready.{all_changed}
use Rattle.nuc_base.specs.Trees.{Nodes}
use Rattle.nuc_base.specs.declared.change.Change.{Change}
use Rattle.nuc_base.specs.declared.change.Change.TheVariants.{Keep, Put, Cut}
use Rattle.nuc_base.proofs.Maps.{same_or_not}
use Rattle.nuc_class.specs.declared.op.Op.{Op}
use Rattle.nuc_edits.specs.Edits.{Recorded}
use Rattle.nuc_edits.specs.declared.edit.Adoption.{Adoption}
use Rattle.nuc_flights.specs.declared.taken.Taken.TheVariants as came
use Rattle.nuc_folder.specs.declared.outcome.Outcome.{Outcome}
use Rattle.nuc_server.specs.Versions.{HasVersion}
use Rattle.nuc_server.specs.WebEdits.{WebState}
use Rattle.nuc_step.specs.Client.{ClientState}
use Rattle.nuc_step.specs.Sound.{HasOther}
use Rattle.nuc_step.specs.Steps.{OtherIsNew, adoptions_of, is_split, local_changes, split_changes, with_adoptions}
use Rattle.nuc_world.proofs.AccountedForm.{AreAlone, Fate, Further, GoneBy, Has, IsClear, IsFine, IsVersion, Lands, changed_has, changed_other, has_changed, has_version, local_then, own_change, synced_then, version_at}
use Rattle.nuc_world.proofs.AccountedForm.Fate.{stays, gone, adopts}
use Rattle.nuc_world.proofs.AccountedGrown.{Moves, any_behind, fine_moved, further_by, or_gone}
use Rattle.nuc_world.proofs.Items.{all_map, all_none}

-- what landing makes of a client and of what is shared
pub record Landed (s : WebState) (c : ClientState) (op : Op) (o : Outcome) (t : WebState) (d : ClientState) : Type 0 where
  pub edits : t.edits ≡ with_adoptions op (came.Folder o) s.edits
  pub entries : t.entries ≡ s.entries
  pub remote : d.remote.tree ≡ c.remote.tree
  pub local : d.local.tree ≡ all_changed c.local.tree (local_changes op)
  pub synced : d.synced ≡ changed c.synced op.id.0 op.synced
  pub flights : d.flights ≡ c.flights

pub record CanLandSo (s : WebState) (c : ClientState) (op : Op) : Type 0 where
  pub lands : Lands s c.remote.tree op
  pub old_local : get c.local.tree op.id.0 ≡ op.old_local
  pub new : OtherIsNew (is_split op.verb) c.local.tree op.other.0
  pub old_synced : get c.synced op.id.0 ≡ op.old_synced
  pub other : HasOther (is_split op.verb) op.id.0 op.other.0 op.local
  pub alone : is_split op.verb ≡ true → c.flights ≡ []

module _ (s : WebState) (c : ClientState) (op : Op) (o : Outcome) (t : WebState) (d : ClientState) (landed : Landed s c op o t d) (can : CanLandSo s c op)
    (clear : IsClear s c) where
  pub landed_further : Further s t
  landed_further = further_by s t [] (adoptions_of op (came.Folder o) s.edits) [] (ap (λ (r : Recorded). r.edits) landed.edits ∙ sym (append-nil s.edits.edits))
      (ap (λ (r : Recorded). r.adoptions) landed.edits) (landed.entries ∙ sym (append-nil s.entries))

  fated : (v : ℕ) → Fate s.edits op v → IsVersion v (node_after op.local op.old_local) ⊎ GoneBy t.edits v
  fated v (stays is) = inl is
  fated v (gone is) = inr (landed_further.gone v is)
  fated v (adopts some) = inr (inr (subst (λ (r : Recorded). Any (λ (a : Adoption). a.old.0 ≡ v) r.adoptions) (sym landed.edits)
      (any_behind (λ (a : Adoption). a.old.0 ≡ v) s.edits.adoptions (adoptions_of op (came.Folder o) s.edits) some)))

  own_fate : (v : ℕ) → 0 < v → Has c.local.tree op.id.0 v → IsVersion v (node_after op.local op.old_local) ⊎ GoneBy t.edits v
  own_fate v some has = fated v (can.lands.fate v some (subst (IsVersion v) can.old_local has))

  tree_is : (b : Bool) → is_split op.verb ≡ b → d.local.tree ≡ all_changed c.local.tree (cond b (split_changes op) ((op.id.0, op.local) ∷ []))
  tree_is b is = landed.local ∙ ap (λ b. all_changed c.local.tree (cond b (split_changes op) ((op.id.0, op.local) ∷ []))) is

  -- ONE CHANGE of Local
  module _ (whole : is_split op.verb ≡ false) where
    one_tree : d.local.tree ≡ changed c.local.tree op.id.0 op.local
    one_tree = tree_is false whole

    one_local : (x v : ℕ) → 0 < v → Has c.local.tree x v → Has d.local.tree x v ⊎ GoneBy t.edits v
    one_local x v some has = subst (λ m. Has m x v ⊎ GoneBy t.edits v) (sym one_tree) (elim (same_or_not x op.id.0) [
      | inl same ↦ subst (λ y. Has (changed c.local.tree op.id.0 op.local) y v ⊎ GoneBy t.edits v) (sym same)
          (elim (own_fate v some (subst (λ y. Has c.local.tree y v) same has)) [
            | inl now ↦ inl (has_changed c.local.tree op.id.0 op.local v (subst (λ was. IsVersion v (node_after op.local was)) (sym can.old_local) now))
            | inr is ↦ inr is
          ])
      | inr apart ↦ inl (subst (IsVersion v) (sym (changed_other c.local.tree op.id.0 op.local x apart)) has)
    ])

    one_own : (v : ℕ) → IsVersion v (local_then op) → Has d.local.tree op.id.0 v
    one_own v is = subst (λ m. Has m op.id.0 v) (sym one_tree)
        (has_changed c.local.tree op.id.0 op.local v
        (subst (λ was. IsVersion v (node_after op.local was)) (sym can.old_local) (subst (λ b. IsVersion v (node_after (own_change b op.local) op.old_local)) whole is)))

    one_moves : Moves s c t d
    one_moves = record { further = landed_further; local = one_local; remote = λ x v some has. inl (subst (λ m. Has m x v) (sym landed.remote) has) }

    one_flights : All (IsFine t d) d.flights
    one_flights = subst (All (IsFine t d)) (sym landed.flights) (all_map (IsFine s c) (IsFine t d) (fine_moved s c t d one_moves) c.flights clear.flights)

    one_held : (v : ℕ) → 0 < v → HasVersion c.local.tree v → HasVersion d.local.tree v ⊎ GoneBy t.edits v
    one_held v some has = elim (one_local has.id v some (version_at c.local.tree v has)) [
      | inl now ↦ inl (has_version d.local.tree has.id v now)
      | inr is ↦ inr is
    ]

  -- A SPLIT gives Local's node to another identity
  module _ (split : is_split op.verb ≡ true) where
    abbrev between : Nodes
    between = changed c.local.tree op.other.0 op.local

    two_tree : d.local.tree ≡ changed between op.id.0 Cut
    two_tree = tree_is true split

    its_other : HasOther true op.id.0 op.other.0 op.local
    its_other = subst (λ b. HasOther b op.id.0 op.other.0 op.local) split can.other

    none_other : get c.local.tree op.other.0 ≡ None
    none_other = subst (λ b. OtherIsNew b c.local.tree op.other.0) split can.new

    two_other : (y : ℕ) → ¬ (y ≡ op.id.0) → ¬ (y ≡ op.other.0) → get d.local.tree y ≡ get c.local.tree y
    two_other y apart off = ap (λ m. get m y) two_tree ∙ changed_other between op.id.0 Cut y apart ∙ changed_other c.local.tree op.other.0 op.local y off

    not_other : (y v : ℕ) → Has c.local.tree y v → ¬ (y ≡ op.other.0)
    not_other y v has same = subst (IsVersion v) none_other (subst (λ z. Has c.local.tree z v) same has)

    handed : (v : ℕ) → IsVersion v (node_after op.local None) → Has d.local.tree op.other.0 v
    handed v is = subst (IsVersion v)
        (sym (ap (λ m. get m op.other.0) two_tree ∙ changed_other between op.id.0 Cut op.other.0 (λ same. its_other.1 (sym same))))
        (has_changed c.local.tree op.other.0 op.local v (subst (λ was. IsVersion v (node_after op.local was)) (sym none_other) is))

    put_so : (v : ℕ) (ch : Change) → HasOther true op.id.0 op.other.0 ch → IsVersion v (node_after ch op.old_local) → IsVersion v (node_after ch None)
    put_so v Keep other is = absurd other.2
    put_so v (Put n) other is = is
    put_so v Cut other is = absurd other.2

    two_held : (v : ℕ) → 0 < v → HasVersion c.local.tree v → HasVersion d.local.tree v ⊎ GoneBy t.edits v
    two_held v some has = elim (same_or_not has.id op.id.0) [
      | inl same ↦ elim (own_fate v some (subst (λ y. Has c.local.tree y v) same (version_at c.local.tree v has))) [
        | inl now ↦ inl (has_version d.local.tree op.other.0 v (handed v (put_so v op.local its_other now)))
        | inr is ↦ inr is
      ]
      | inr apart ↦ inl (has_version d.local.tree has.id v
          (subst (IsVersion v) (sym (two_other has.id apart (not_other has.id v (version_at c.local.tree v has)))) (version_at c.local.tree v has)))
    ]

    two_flights : All (IsFine t d) d.flights
    two_flights = subst (All (IsFine t d)) (sym (landed.flights ∙ can.alone split)) (all_none (IsFine t d))

  -- EITHER WAY
  held_by : (b : Bool) → is_split op.verb ≡ b → (v : ℕ) → 0 < v → HasVersion c.local.tree v → HasVersion d.local.tree v ⊎ GoneBy t.edits v
  held_by false is = one_held is
  held_by true is = two_held is

  pub landed_held : (v : ℕ) → 0 < v → HasVersion c.local.tree v → HasVersion d.local.tree v ⊎ GoneBy t.edits v
  landed_held = held_by (is_split op.verb) refl

  others_by : (b : Bool) → is_split op.verb ≡ b → (x v : ℕ) → ¬ (x ≡ op.id.0) → Has c.local.tree x v → Has d.local.tree x v
  others_by false is x v apart has = subst (IsVersion v) (sym (ap (λ m. get m x) (one_tree is) ∙ changed_other c.local.tree op.id.0 op.local x apart)) has
  others_by true is x v apart has = subst (IsVersion v) (sym (two_other is x apart (not_other is x v has))) has

  own_by : (b : Bool) → is_split op.verb ≡ b → (v : ℕ) → IsVersion v (local_then op) → Has d.local.tree op.id.0 v
  own_by false is v after_it = one_own is v after_it
  own_by true is v after_it = absurd (subst (λ b. IsVersion v (node_after (own_change b op.local) op.old_local)) is after_it)

  flights_by : (b : Bool) → is_split op.verb ≡ b → All (IsFine t d) d.flights
  flights_by false is = one_flights is
  flights_by true is = two_flights is

  synced_own : (v : ℕ) → Has d.synced op.id.0 v → IsVersion v (synced_then op)
  synced_own v has = subst (λ was. IsVersion v (node_after op.synced was)) can.old_synced
      (changed_has c.synced op.id.0 op.synced v (subst (λ m. Has m op.id.0 v) landed.synced has))

  synced_other : (x v : ℕ) → ¬ (x ≡ op.id.0) → Has d.synced x v → Has c.synced x v
  synced_other x v apart has = subst (IsVersion v) (ap (λ m. get m x) landed.synced ∙ changed_other c.synced op.id.0 op.synced x apart) has

  then_local : (x v : ℕ) → 0 < v → Has d.synced x v → Has d.local.tree x v ⊎ GoneBy t.edits v
  then_local x v some has = elim (same_or_not x op.id.0) [
    | inl same ↦ subst (λ y. Has d.local.tree y v ⊎ GoneBy t.edits v) (sym same)
        (elim (or_gone s t landed_further v (can.lands.both v some (synced_own v (subst (λ y. Has d.synced y v) same has)))) [
          | inl now ↦ inl (own_by (is_split op.verb) refl v now)
          | inr is ↦ inr is
        ])
    | inr apart ↦ elim (or_gone s t landed_further v (clear.local x v some (synced_other x v apart has))) [
      | inl now ↦ inl (others_by (is_split op.verb) refl x v apart now)
      | inr is ↦ inr is
    ]
  ]

  then_remote : (x v : ℕ) → 0 < v → Has d.synced x v → Has d.remote.tree x v ⊎ GoneBy t.edits v
  then_remote x v some has = subst (λ m. Has m x v ⊎ GoneBy t.edits v) (sym landed.remote) (elim (same_or_not x op.id.0) [
    | inl same ↦ subst (λ y. Has c.remote.tree y v ⊎ GoneBy t.edits v) (sym same)
        (or_gone s t landed_further v (can.lands.remote v some (synced_own v (subst (λ y. Has d.synced y v) same has))))
    | inr apart ↦ or_gone s t landed_further v (clear.remote x v some (synced_other x v apart has))
  ])

  pub landed_clear : IsClear t d
  landed_clear = record {
    remote = then_remote;
    local = then_local;
    flights = flights_by (is_split op.verb) refl;
    alone = subst AreAlone (sym landed.flights) clear.alone;
  }
