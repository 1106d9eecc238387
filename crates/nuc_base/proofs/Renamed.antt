-- A tree in which an identity gets another number stays well formed.
use Rattle.std.proofs.Common.{◌≡◌, ◌≢◌, ◌<◌, ℕ, Some, None, option_map, refl, sym, ap, subst, ◌∙◌, inl, inr, arith}
use Rattle.std.specs.FinMap.{get}
use Rattle.nuc_base.specs.Kinds.{FitsKind}
use Rattle.nuc_base.specs.Renamed.{with_parent, child_renamed, IsRenamed}
use Rattle.nuc_base.specs.SamePlace.{SamePlace, same_place-sym, same_place-trans}
use Rattle.nuc_base.specs.Trees.{Nodes, IsFolder, IsUnder, WellFormed}
use Rattle.nuc_base.specs.Trees.Under.{here, up}
use Rattle.nuc_base.specs.declared.node.Node.{Node}
use Rattle.nuc_base.proofs.Came.{Came, came_from, renamed_get_child, renamed_get_other}
use Rattle.nuc_base.proofs.Came.Came.{renamed, stood, child}
use Rattle.nuc_base.proofs.Depths.{no_loop}
use Rattle.nuc_base.proofs.Maps.{same_or_not, one_node, not_both}

module _ (m : Nodes) (y x : ℕ) (old node : Node) (k : Nodes) (form : WellFormed m) (below : 0 < x) (at : get m y ≡ Some old) (free : get m x ≡ None)
    (place : SamePlace node.place old.place) (kind : node.kind ≡ old.kind) (is : IsRenamed m y x node k) where
  not_new : (w : ℕ) (h : Node) → get m w ≡ Some h → w ≢ x
  not_new w h e s = not_both m x h free (subst (λ z. get m z ≡ Some h) s e)

  not_root : 0 ≢ y
  not_root e = not_both m 0 old form.no_root (subst (λ z. get m z ≡ Some old) (sym e) at)

  not_own_parent : old.place.parent.0 ≢ y
  not_own_parent e = no_loop m y old form at (subst (λ z. IsUnder m z y) (sym e) here)

  folder_stays : (q : ℕ) → q ≢ y → IsFolder m q → IsFolder k q
  folder_stays q apart (inl root) = inl root
  folder_stays q apart (inr (p, e, folder)) = elim (same_or_not p.place.parent.0 y) [
    | inl s ↦ inr (with_parent x p, renamed_get_child m y x node k is q p (not_new q p e) apart e s, folder)
    | inr off ↦ inr (p, renamed_get_other m y x node k is q p (not_new q p e) apart e off, folder)
  ]

  new_folder : IsFolder m y → IsFolder k x
  new_folder (inl root) = absurd (not_root (sym root))
  new_folder (inr (p, e, folder)) = inr (node, is.came, kind ∙ ap (λ (r : Node). r.kind) (one_node m y old p at e) ∙ folder)

  renamed_parents : (w : ℕ) (g : Node) → Came m y x node w g → IsFolder k g.place.parent.0
  renamed_parents w g (renamed e same) =
      let parent : g.place.parent.0 ≡ old.place.parent.0 = ap (λ (r : Node). r.place.parent.0) same ∙ place.parent in
      subst (λ z. IsFolder k z) (sym parent) (folder_stays old.place.parent.0 not_own_parent (form.parents y old at))
  renamed_parents w g (stood other apart was off) = folder_stays g.place.parent.0 off (form.parents w g was)
  renamed_parents w g (child h other apart was e same) =
      subst (λ z. IsFolder k z) (ap (λ (r : Node). r.place.parent.0) (sym same)) (new_folder (subst (λ z. IsFolder m z) e (form.parents w h was)))

  -- each chain is renamed with it
  renamed_under : (b a : ℕ) → b ≢ y → IsUnder m a b → (a ≡ y → IsUnder k x b) × (a ≢ y → IsUnder k a b)
  renamed_under b a off here = (λ e. absurd (off e), λ other. here)
  renamed_under b a off (up w h e u) =
      let rest = renamed_under b h.place.parent.0 off u in (
        λ s.
            let now : h ≡ old = one_node m y h old (subst (λ z. get m z ≡ Some h) s e) at in
            let parent : h.place.parent.0 ≡ node.place.parent.0 = ap (λ (r : Node). r.place.parent.0) now ∙ sym place.parent in
            up x node is.came (subst (λ z. IsUnder k z b) parent (rest.1 (λ t. not_own_parent (ap (λ (r : Node). r.place.parent.0) (sym now) ∙ t)))),
        λ apart. elim (same_or_not h.place.parent.0 y) [
          | inl s ↦ up w (with_parent x h) (renamed_get_child m y x node k is w h (not_new w h e) apart e s) (rest.0 s)
          | inr other ↦ up w h (renamed_get_other m y x node k is w h (not_new w h e) apart e other) (rest.1 other)
        ],
      )

  renamed_rooted : (w : ℕ) (g : Node) → Came m y x node w g → IsUnder k w 0
  renamed_rooted w g (renamed e same) = subst (λ z. IsUnder k z 0) (sym e) ((renamed_under 0 y not_root (form.rooted y old at)).0 refl)
  renamed_rooted w g (stood other apart was off) = (renamed_under 0 w not_root (form.rooted w g was)).1 apart
  renamed_rooted w g (child h other apart was e same) = (renamed_under 0 w not_root (form.rooted w h was)).1 apart

  -- nobody stood below the new number
  none_below : (w : ℕ) (h : Node) → get m w ≡ Some h → h.place.parent.0 ≢ x
  none_below w h e s = elim (form.parents w h e) [
    | inl root ↦ absurd (let same : x ≡ 0 = sym s ∙ root in omega (arith, below, same))
    | inr (p, f, folder) ↦ not_both m x p free (subst (λ z. get m z ≡ Some p) s f)
  ]

  new_off : (g : Node) → g ≡ node → g.place.parent.0 ≢ x
  new_off g same e = none_below y old at (sym place.parent ∙ ap (λ (r : Node). r.place.parent.0) (sym same) ∙ e)

  renamed_places : (w z : ℕ) (g j : Node) → Came m y x node w g → Came m y x node z j → SamePlace g.place j.place → w ≡ z
  renamed_places w z g j (renamed e same) (renamed f too) near = e ∙ sym f
  renamed_places w z g j (renamed e same) (stood other apart was off) near =
      absurd (apart (sym (form.places y z old j at was
      (same_place-trans _ _ _ (same_place-sym _ _ place) (subst (λ (r : Node). SamePlace r.place j.place) same near)))))
  renamed_places w z g j (renamed e same) (child i other apart was f now) near =
      absurd (new_off g same (near.parent ∙ ap (λ (r : Node). r.place.parent.0) now))
  renamed_places w z g j (stood other apart was off) (renamed f too) near =
      absurd (apart (form.places w y g old was at (same_place-trans _ _ _ (subst (λ (r : Node). SamePlace g.place r.place) too near) place)))
  renamed_places w z g j (stood other apart was off) (stood more later too_was off_too) near = form.places w z g j was too_was near
  renamed_places w z g j (stood other apart was off) (child i more later too_was f now) near =
      absurd (none_below w g was (near.parent ∙ ap (λ (r : Node). r.place.parent.0) now))
  renamed_places w z g j (child h other apart was e same) (renamed f too) near =
      absurd (new_off j too (sym near.parent ∙ ap (λ (r : Node). r.place.parent.0) same))
  renamed_places w z g j (child h other apart was e same) (stood more later too_was off) near =
      absurd (none_below z j too_was (sym near.parent ∙ ap (λ (r : Node). r.place.parent.0) same))
  renamed_places w z g j (child h other apart was e same) (child i more later too_was f now) near =
      let met : SamePlace (with_parent x h).place (with_parent x i).place =
      subst (λ (r : Node). SamePlace (with_parent x h).place r.place) now (subst (λ (r : Node). SamePlace r.place j.place) same near) in
      form.places w z h i was too_was (record { parent = e ∙ sym f; name = met.name })

  renamed_fits : FitsKind node → (w : ℕ) (g : Node) → Came m y x node w g → FitsKind g
  renamed_fits fits w g (renamed e same) = subst FitsKind (sym same) fits
  renamed_fits fits w g (stood other apart was off) = form.fits w g was
  renamed_fits fits w g (child h other apart was e same) = subst FitsKind (sym same) (form.fits w h was)

  pub renamed_keeps : FitsKind node → WellFormed k
  renamed_keeps fits = record {
    no_root = is.others 0 (λ e. absurd (omega (arith, e, below))) not_root ∙ ap (option_map (child_renamed y x)) form.no_root;
    parents = λ w g e. renamed_parents w g (came_from m y x node k is w g e);
    rooted = λ w g e. renamed_rooted w g (came_from m y x node k is w g e);
    places = λ w z g j e f near. renamed_places w z g j (came_from m y x node k is w g e) (came_from m y x node k is z j f) near;
    fits = λ w g e. renamed_fits fits w g (came_from m y x node k is w g e);
  }
