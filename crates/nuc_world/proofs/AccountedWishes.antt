-- What an operation that is planned takes away is gone by, or is adopted as it lands.
use Rattle.std.specs.Prelude.{Any, if◌then◌else◌, not}
use Rattle.std.proofs.Common.{◌≡◌, ◌≢◌, ◌⊎◌, ◌<◌, ◌==◌, ℕ, Bool, true, false, cond, [], ◌∷◌, Option, Some, None, refl, sym, ◌∙◌, ap, subst, inl, inr}
use Rattle.std.proofs.lemmas.Bool.{eqb-true}
use Rattle.std.proofs.lemmas.Option.{none-some, same_Some}
use Rattle.std.specs.FinMap.{get}
use Rattle.nuc_base.specs.Changes.{node_after}
use Rattle.nuc_base.specs.Trees.{Nodes}
use Rattle.nuc_base.specs.declared.change.Change.{Change}
use Rattle.nuc_base.specs.declared.change.Change.TheVariants.{Keep, Put, Cut}
use Rattle.nuc_base.specs.declared.node.Kind.{Kind}
use Rattle.nuc_base.specs.declared.node.Kind.TheVariants.{Folder, File}
use Rattle.nuc_base.specs.declared.node.Node.{Node}
use Rattle.nuc_base.specs.declared.node.Place.{Place}
use Rattle.nuc_class.specs.Effects.{adopts, effect_of, is_shown}
use Rattle.nuc_class.specs.Going.{Going, GoingLocal, GoingRemote, IsKept}
use Rattle.nuc_class.specs.Going.Going.{going}
use Rattle.nuc_class.specs.Merge.{target}
use Rattle.nuc_class.specs.Op.{operation, planned}
use Rattle.nuc_class.specs.Split.{is_new, needs_split}
use Rattle.nuc_class.specs.Wishes.{IsWish, WantsDown, WantsUp}
use Rattle.nuc_class.specs.declared.op.Effect.{Effect}
use Rattle.nuc_class.specs.declared.op.Effect.TheVariants as effect
use Rattle.nuc_class.specs.declared.op.Op.{Op}
use Rattle.nuc_class.specs.declared.op.Verb.{Verb}
use Rattle.nuc_class.specs.declared.op.Verb.TheVariants as verb
use Rattle.nuc_class.specs.declared.wishes.Wish.{Wish}
use Rattle.nuc_class.specs.declared.wishes.Wish.TheVariants as wish
use Rattle.nuc_class.proofs.Rows.{down_keeps_edits}
use Rattle.nuc_conflict.specs.Facts.{FactsOf, EvictionFacts, MoveBackFacts, RevivalFacts, SplitFacts}
use Rattle.nuc_conflict.specs.FitTogether.{FitBelow}
use Rattle.nuc_conflict.specs.Mends.{LeavesFor, cut_of}
use Rattle.nuc_edits.specs.Edits.{same_hash}
use Rattle.nuc_edits.specs.declared.edit.Adoption.{Adoption}
use Rattle.nuc_server.specs.WebEdits.{WebState}
use Rattle.nuc_step.specs.Steps.{adopted_by, is_split}
use Rattle.nuc_world.specs.Takes.{committed}
use Rattle.nuc_world.proofs.AccountedForm.{Fate, GoneBy, Has, IsVersion, Lands, own_change, synced_then}
use Rattle.nuc_world.proofs.AccountedForm.Fate.{stays, gone, adopts as adopts_it}
use Rattle.nuc_world.proofs.AccountedGrown.{any_one}
use Rattle.nuc_world.proofs.AccountedWatched.{no_version}
use Rattle.nuc_world.proofs.Wished.{effect_writes}

-- what a commit will be, but for its base
pub record WouldCommit (s : WebState) (r l : Nodes) (op : Op) : Type 0 where
  pub replaces : (v : ℕ) → 0 < v → Has r op.id.0 v → IsVersion v (committed op.remote) ⊎ GoneBy s.edits v
  pub local : (v : ℕ) → 0 < v → IsVersion v (synced_then op) → Has l op.id.0 v ⊎ GoneBy s.edits v
  pub synced : (v : ℕ) → 0 < v → IsVersion v (synced_then op) → IsVersion v op.old_synced ⊎ IsVersion v (committed op.remote)

abbrev pub IsFinePlan : WebState → Nodes → Nodes → Op → Effect → Type 0
IsFinePlan s r l op effect.Disk = Lands s r op
IsFinePlan s r l op effect.Nothing = Lands s r op
IsFinePlan s r l op effect.Commit = WouldCommit s r l op

-- what isn't a commit lands
lands_plan : (s : WebState) (r l : Nodes) (op : Op) (shown : Bool) → Lands s r op → IsFinePlan s r l op (if shown then effect.Disk else effect.Nothing)
lands_plan s r l op true lands = lands
lands_plan s r l op false lands = lands

if_same : (b : Bool) (v : ℕ) (n k : Node) → n.ver.0 ≡ v → k.ver.0 ≡ v → (if b then n.ver else k.ver).0 ≡ v
if_same true v n k one two = one
if_same false v n k one two = two

not_false : (b : Bool) → not b ≡ false → b ≡ true
not_false true is = refl
not_false false is = let bad : true ≡ false = is in cc

old_of : (z : Option Node) (v : ℕ) → is_new z v ≡ false → IsVersion v z
old_of None v is = let bad : true ≡ false = is in cc
old_of (Some n) v is = eqb-true n.ver.0 v (not_false (n.ver.0 == v) is)

adopts_one : (same : ℕ → ℕ → Bool) (n k : Node) (v : ℕ) → n.ver.0 ≡ v → adopts same n k ≡ true → Any (λ (a : Adoption). a.old.0 ≡ v) (adopted_by same (Some n) (Put k))
adopts_one same n k v ver is = subst (λ b. Any (λ (a : Adoption). a.old.0 ≡ v) (cond b (record { old = n.ver; into = k.ver } ∷ []) [])) (sym is) (any_one (λ (a : Adoption). a.old.0 ≡ v) _ ver)

-- THE TREES of a client: what Synced has, Remote and Local have or it is gone by
module _ (w : WebState) (r l s : Nodes) (next : ℕ) (fit : FitBelow r l s next)
    (in_remote : (x v : ℕ) → 0 < v → Has s x v → Has r x v ⊎ GoneBy w.edits v) (in_local : (x v : ℕ) → 0 < v → Has s x v → Has l x v ⊎ GoneBy w.edits v) where
  abbrev same : ℕ → ℕ → Bool
  same = same_hash w.edits.edits

  -- A DOWN
  module _ (x : ℕ) (rn : Node) (at_r : get r x ≡ Some rn) where
    r_version : (v : ℕ) → Has r x v → rn.ver.0 ≡ v
    r_version v has = subst (IsVersion v) at_r has

    down_folder : (ln : Node) (v : ℕ) → get l x ≡ Some ln → rn.kind ≡ Folder → 0 < v → ln.ver.0 ≡ v → ⊥
    down_folder ln v at kind some ver = no_version ln.kind ln.ver.0 ln.bit v (sym (fit.fit.remote_local x rn ln at_r at) ∙ kind) (fit.fit.local.fits x ln at) ver some

    abbrev Keeps : Node → Option Node → ℕ → Type 0
    Keeps ln z v = ((target rn (Some ln) z).ver.0 ≡ v) ⊎ (GoneBy w.edits v ⊎ (adopts same ln (target rn (Some ln) z) ≡ true))

    target_same : (ln : Node) (z : Option Node) (v : ℕ) → ln.ver.0 ≡ v → rn.ver.0 ≡ v → (target rn (Some ln) z).ver.0 ≡ v
    target_same ln None v one two = two
    target_same ln (Some zn) v one two = if_same (rn.ver.0 == zn.ver.0) v ln rn one two

    down_file : (ln : Node) (v : ℕ) → get l x ≡ Some ln → needs_split same (Some rn) (Some ln) (get s x) ≡ false → rn.kind ≡ File → 0 < v → ln.ver.0 ≡ v → Keeps ln (get s x) v
    down_file ln v at whole kind some ver = elim (down_keeps_edits same rn ln (get s x) kind whole) [
      | inl kept ↦ inl (ap (λ u. u.0) kept ∙ ver)
      | inr rest ↦ elim rest [
        | inl old ↦ elim (in_remote x v some (subst (λ u. Has s x u) ver (old_of (get s x) ln.ver.0 old))) [
          | inl has ↦ inl (target_same ln (get s x) v ver (r_version v has))
          | inr is ↦ inr (inl is)
        ]
        | inr adopted ↦ inr (inr adopted)
      ]
    ]

    by_kind : (ln : Node) (v : ℕ) (k : Kind) → rn.kind ≡ k → get l x ≡ Some ln → needs_split same (Some rn) (Some ln) (get s x) ≡ false → 0 < v → ln.ver.0 ≡ v → Keeps ln (get s x) v
    by_kind ln v Folder kind at whole some ver = absurd (down_folder ln v at kind some ver)
    by_kind ln v File kind at whole some ver = down_file ln v at whole kind some ver

    abbrev down_op : Option Node → Op
    down_op o = planned same verb.Down x Keep (Put (target rn o (get s x))) (Put rn) o (get s x)

    down_fate : (Goes : Type 0) (o : Option Node) → get l x ≡ o → WantsDown same Goes (Some rn) o (get s x) → (v : ℕ) → 0 < v → IsVersion v o → Fate w.edits (down_op o) v
    down_fate Goes None at wants v some is = absurd is
    down_fate Goes (Some ln) at wants v some is = elim (by_kind ln v rn.kind refl at wants.0 some is) [
      | inl kept ↦ stays kept
      | inr rest ↦ elim rest [
        | inl was ↦ gone was
        | inr adopted ↦ adopts_it (adopts_one same ln (target rn (Some ln) (get s x)) v is adopted)
      ]
    ]

    down_both : (o z : Option Node) → get l x ≡ o → get s x ≡ z → (v : ℕ) → 0 < v → rn.ver.0 ≡ v → ((target rn o z).ver.0 ≡ v) ⊎ GoneBy w.edits v
    down_both None z at there v some is = inl is
    down_both (Some ln) None at there v some is = inl is
    down_both (Some ln) (Some zn) at there v some is =
        elim (rn.ver.0 == zn.ver.0) as (λ b. (rn.ver.0 == zn.ver.0) ≡ b → ((if b then ln.ver else rn.ver).0 ≡ v) ⊎ GoneBy w.edits v) [
          | false ↦ λ other. inl is
          | true ↦ λ equal. elim (in_local x v some (subst (IsVersion v) (sym there) (sym (eqb-true rn.ver.0 zn.ver.0 equal) ∙ is))) [
            | inl has ↦ inl (subst (IsVersion v) at has)
            | inr was ↦ inr was
          ]
        ] refl

    down_lands : (Goes : Type 0) (o : Option Node) → get l x ≡ o → WantsDown same Goes (Some rn) o (get s x) → Lands w r (down_op o)
    down_lands Goes o at wants = record {
      fate = down_fate Goes o at wants;
      both = λ v some is. down_both o (get s x) at refl v some is;
      remote = λ v some is. inl (subst (IsVersion v) (sym at_r) is);
    }

  -- WHAT GOES: it is kept as Synced has it on its side, and not there on the other
  kept_both : (other own z : Option Node) → IsKept other own z → (other ≡ None) × (own ≡ z)
  kept_both None (Some own) (Some z) is = (refl, ap Some is)
  kept_both None (Some own) None is = absurd is
  kept_both None None z is = absurd is
  kept_both (Some other) own z is = absurd is

  going_kept : (other own z : Nodes) (Spared : ℕ → Type 0) (x : ℕ) → Going other own z Spared x → IsKept (get other x) (get own x) (get z x)
  going_kept other own z Spared _ (going x kept rest) = kept

  goes_local : (x v : ℕ) → 0 < v → IsKept (get r x) (get l x) (get s x) → Has l x v → GoneBy w.edits v
  goes_local x v some kept has =
      let (none, equal) = kept_both (get r x) (get l x) (get s x) kept in
      elim (in_remote x v some (subst (IsVersion v) equal has)) [
        | inl there ↦ absurd (subst (IsVersion v) none there)
        | inr is ↦ is
      ]

  goes_remote : (x v : ℕ) → 0 < v → IsKept (get l x) (get r x) (get s x) → Has r x v → GoneBy w.edits v
  goes_remote x v some kept has =
      let (none, equal) = kept_both (get l x) (get r x) (get s x) kept in
      elim (in_local x v some (subst (IsVersion v) equal has)) [
        | inl there ↦ absurd (subst (IsVersion v) none there)
        | inr is ↦ is
      ]

  -- AN UP replaces what Synced has
  up_replaces : (Goes : Type 0) (x : ℕ) (ln : Node) (o z : Option Node) → get r x ≡ o → get s x ≡ z → get l x ≡ Some ln → WantsUp Goes o (Some ln) z → (v : ℕ) → 0 < v → Has r x v
      → (ln.ver.0 ≡ v) ⊎ GoneBy w.edits v
  up_replaces Goes x ln None z at there here wants v some has = absurd (subst (IsVersion v) at has)
  up_replaces Goes x ln (Some rn) z at there here wants v some has =
      elim (in_local x v some (subst (IsVersion v) (sym (there ∙ wants.0)) (subst (IsVersion v) at has))) [
        | inl own ↦ inl (subst (IsVersion v) here own)
        | inr was ↦ inr was
      ]

  -- BY THE WISH
  pub record IsWellPlanned (op : Op) : Type 0 where
    pub fine : IsFinePlan w r l op op.effect
    pub whole : is_split op.verb ≡ false

  well_by : (x : ℕ) (wi : Wish) (o p z : Option Node) (op : Op) → get r x ≡ o → get l x ≡ p → get s x ≡ z → IsWish same r l s x wi → operation same wi x o p z ≡ Some op → IsWellPlanned op
  well_by x wish.Split o p z op ro lp sz wished e = absurd (none-some op e)
  well_by x wish.Nothing o p z op ro lp sz wished e = absurd (none-some op e)
  well_by x wish.Down None p z op ro lp sz wished e = absurd (none-some op e)
  well_by x wish.Down (Some rn) p z op ro lp sz wished e =
      let wants : WantsDown same (GoingRemote r l s x) (Some rn) p (get s x) = subst (λ q. WantsDown same (GoingRemote r l s x) q p (get s x)) ro (subst (λ q. WantsDown same (GoingRemote r l s x) (get r x) q (get s x)) lp wished) in
      let lands : Lands w r (down_op x rn ro p) = down_lands x rn ro (GoingRemote r l s x) p lp wants in
      subst IsWellPlanned (same_Some _ op e) (subst (λ q. IsWellPlanned (planned same verb.Down x Keep (Put (target rn p q)) (Put rn) p q)) sz
      (record { fine = lands_plan w r l (down_op x rn ro p) (is_shown same p (Put (target rn p (get s x)))) lands; whole = refl }))
  well_by x wish.Up o None z op ro lp sz wished e = absurd (none-some op e)
  well_by x wish.Up o (Some ln) z op ro lp sz wished e =
      let wants : WantsUp (GoingLocal r l s x) o (Some ln) z = subst (λ q. WantsUp (GoingLocal r l s x) q (Some ln) z) ro (subst (λ q. WantsUp (GoingLocal r l s x) (get r x) q z) lp (subst (λ q. WantsUp (GoingLocal r l s x) (get r x) (get l x) q) sz wished)) in
      subst IsWellPlanned (same_Some _ op e) (record {
        fine = record {
          replaces = up_replaces (GoingLocal r l s x) x ln o z ro sz lp wants;
          local = λ v some is. inl (subst (IsVersion v) (sym lp) is);
          synced = λ v some is. inr is;
        };
        whole = refl;
      })
  well_by x wish.CutDown o p z op ro lp sz wished e =
      let kept = going_kept r l s _ x wished in
      let plan : Op = planned same verb.CutDown x Keep Cut Cut p z in
      subst IsWellPlanned (same_Some _ op e) (record {
        fine = lands_plan w r l plan (is_shown same p Cut) (record {
          fate = λ v some is. gone (goes_local x v some kept (subst (IsVersion v) (sym lp) is));
          both = λ v some is. absurd is;
          remote = λ v some is. absurd is;
        });
        whole = refl;
      })
  well_by x wish.CutUp o p z op ro lp sz wished e =
      let kept = going_kept l r s _ x wished in
      subst IsWellPlanned (same_Some _ op e) (record {
        fine = record {
          replaces = λ v some has. inr (goes_remote x v some kept has);
          local = λ v some is. absurd is;
          synced = λ v some is. absurd is;
        };
        whole = refl;
      })
  well_by x wish.Forget o p z op ro lp sz wished e = subst IsWellPlanned (same_Some _ op e) (record {
    fine = lands_plan w r l (planned same verb.Forget x Keep Keep Cut p z) (is_shown same p Keep) (record {
      fate = λ v some is. stays is;
      both = λ v some is. absurd is;
      remote = λ v some is. absurd is;
    });
    whole = refl;
  })

  pub well_planned : (x : ℕ) (wi : Wish) (op : Op) → IsWish same r l s x wi → operation same wi x (get r x) (get l x) (get s x) ≡ Some op → IsWellPlanned op
  well_planned x wi op wished e = well_by x wi (get r x) (get l x) (get s x) op refl refl refl wished e

  -- A MEND that isn't an adoption
  none_left : (o : Option Node) (v : ℕ) → IsVersion v (node_after (cut_of o) o) → ⊥
  none_left None v is = is
  none_left (Some n) v is = is

  leaves_has : (p e : Place) (o : Option Node) (c : Change) (v : ℕ) → LeavesFor p e o c → IsVersion v o → IsVersion v (node_after c o)
  leaves_has p e (Some n) (Put node) v (same, is) ver = ap (λ (k : Node). k.ver.0) is ∙ ver
  leaves_has p e (Some n) Keep v leaves ver = ver
  leaves_has p e (Some n) Cut v leaves ver = absurd leaves
  leaves_has p e None c v leaves ver = absurd ver

  leaves_had : (p e : Place) (o : Option Node) (c : Change) (v : ℕ) → LeavesFor p e o c → IsVersion v (node_after c o) → IsVersion v o
  leaves_had p e (Some n) (Put node) v (same, is) ver = sym (ap (λ (k : Node). k.ver.0) is) ∙ ver
  leaves_had p e (Some n) Keep v leaves ver = ver
  leaves_had p e (Some n) Cut v leaves ver = absurd leaves
  leaves_had p e None Keep v leaves ver = ver
  leaves_had p e None (Put node) v leaves ver = absurd leaves
  leaves_had p e None Cut v leaves ver = absurd leaves

  leaves_put : (p e : Place) (o : Option Node) (c : Change) (v : ℕ) → LeavesFor p e o c → c ≢ Keep → IsVersion v o → IsVersion v (committed c)
  leaves_put p e (Some n) (Put node) v (same, is) other ver = ap (λ (k : Node). k.ver.0) is ∙ ver
  leaves_put p e (Some n) Keep v leaves other ver = absurd (other refl)
  leaves_put p e (Some n) Cut v leaves other ver = absurd leaves
  leaves_put p e None c v leaves other ver = absurd ver

  split_plan : (op : Op) → SplitFacts same r l s next op → IsFinePlan w r l op op.effect
  split_plan op facts =
      let its = facts.carried in
      let there : get l op.id.0 ≡ Some its.node = its.there in
      subst (λ (o : Op). IsFinePlan w r l o o.effect) (sym its.is) (record {
        fate = λ v some is. stays (subst (IsVersion v) there is);
        both = λ v some is. absurd (none_left (get s op.id.0) v is);
        remote = λ v some is. absurd (none_left (get s op.id.0) v is);
      })

  revive_plan : (op : Op) → RevivalFacts r l s op → IsFinePlan w r l op op.effect
  revive_plan op facts =
      let its = facts.carried in
      let node_same : its.node ≡ facts.node = (let one = its.there in let two = facts.there in cc) in
      subst (λ (o : Op). IsFinePlan w r l o o.effect) (sym its.is) (record {
        fate = λ v some is. absurd (subst (IsVersion v) facts.gone is);
        both = λ v some is. inl (ap (λ (n : Node). n.ver.0) node_same ∙ subst (IsVersion v) facts.synced is);
        remote = λ v some is. in_remote op.id.0 v some is;
      })

  unmove_plan : (op : Op) → MoveBackFacts r l s op → IsFinePlan w r l op op.effect
  unmove_plan op facts =
      let its = facts.carried in
      let there : get l op.id.0 ≡ Some its.own = its.own_there in
      subst (λ (o : Op). IsFinePlan w r l o o.effect) (sym its.is) (record {
        fate = λ v some is. stays (subst (IsVersion v) there is);
        both = λ v some is. elim (in_local op.id.0 v some is) [ inl has ↦ inl (subst (IsVersion v) there has) | inr was ↦ inr was ];
        remote = λ v some is. in_remote op.id.0 v some is;
      })

  evict_lands : (op : Op) (facts : EvictionFacts same r l s op) → op.old_local ≡ get l op.id.0 → op.old_synced ≡ get s op.id.0 → is_split op.verb ≡ false → Lands w r op
  evict_lands op facts old_l old_s whole = record {
    fate = λ v some is. stays (subst (λ o. IsVersion v (node_after op.local o)) (sym old_l) (leaves_has _ _ (get l op.id.0) op.local v facts.carried.local (subst (IsVersion v) old_l is)));
    both = λ v some is. elim (in_local op.id.0 v some (leaves_had _ _ (get s op.id.0) op.synced v facts.carried.synced (subst (λ o. IsVersion v (node_after op.synced o)) old_s is))) [
      | inl has ↦ inl (subst (λ b. IsVersion v (node_after (own_change b op.local) op.old_local)) (sym whole)
          (subst (λ o. IsVersion v (node_after op.local o)) (sym old_l) (leaves_has _ _ (get l op.id.0) op.local v facts.carried.local has)))
      | inr was ↦ inr was
    ];
    remote = λ v some is. in_remote op.id.0 v some (leaves_had _ _ (get s op.id.0) op.synced v facts.carried.synced (subst (λ o. IsVersion v (node_after op.synced o)) old_s is));
  }

  evict_by : (op : Op) (facts : EvictionFacts same r l s op) → op.old_local ≡ get l op.id.0 → op.old_synced ≡ get s op.id.0 → is_split op.verb ≡ false
      → (e : Effect) → effect_of same op.old_local op.local op.remote ≡ e → IsFinePlan w r l op e
  evict_by op facts old_l old_s whole effect.Disk is = evict_lands op facts old_l old_s whole
  evict_by op facts old_l old_s whole effect.Nothing is = evict_lands op facts old_l old_s whole
  evict_by op facts old_l old_s whole effect.Commit is = record {
    replaces = λ v some has. inl (leaves_put _ _ (get r op.id.0) op.remote v facts.carried.remote (effect_writes w (λ x. Folder) same op.old_local op.local op.remote is) has);
    local = λ v some has. in_local op.id.0 v some (leaves_had _ _ (get s op.id.0) op.synced v facts.carried.synced (subst (λ o. IsVersion v (node_after op.synced o)) old_s has));
    synced = λ v some has. inl (subst (IsVersion v) (sym old_s)
        (leaves_had _ _ (get s op.id.0) op.synced v facts.carried.synced (subst (λ o. IsVersion v (node_after op.synced o)) old_s has)));
  }

  evict_plan : (op : Op) → EvictionFacts same r l s op → IsFinePlan w r l op op.effect
  evict_plan op facts =
      let is = facts.carried.is in
      let old_l : op.old_local ≡ get l op.id.0 = ap (λ (o : Op). o.old_local) is in
      let old_s : op.old_synced ≡ get s op.id.0 = ap (λ (o : Op). o.old_synced) is in
      let shows : op.effect ≡ effect_of same op.old_local op.local op.remote =
      ap (λ (o : Op). o.effect) is ∙ ap (λ o. effect_of same o op.local op.remote) (sym old_l) in
      evict_by op facts old_l old_s (ap (λ (o : Op). is_split o.verb) is) op.effect (sym shows)

  -- by the verb
  pub mend_plan : (op : Op) (v : Verb) → v ≢ verb.Adopt → FactsOf same r l s next op v → IsFinePlan w r l op op.effect
  mend_plan op verb.Split other facts = split_plan op facts
  mend_plan op verb.Evict other facts = evict_plan op facts
  mend_plan op verb.Adopt other facts = absurd (other refl)
  mend_plan op verb.Revive other facts = revive_plan op facts
  mend_plan op verb.Unmove other facts = unmove_plan op facts
  mend_plan op verb.Down other facts = absurd facts
  mend_plan op verb.Up other facts = absurd facts
  mend_plan op verb.CutDown other facts = absurd facts
  mend_plan op verb.CutUp other facts = absurd facts
  mend_plan op verb.Forget other facts = absurd facts
