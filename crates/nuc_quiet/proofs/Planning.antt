-- A plan of a client leaves its folder as it is, and the folder matches Local afterwards too.
use Rattle.std.proofs.Common.{◌≡◌, ◌∙◌, ℕ, Bool, List, Option, None, Some, refl, sym, ap, subst}
use Rattle.std.proofs.lemmas.Option.{none-some, same_Some}
use Rattle.std.specs.FinMap.{get}
use Rattle.nuc_base.specs.Renamed.{IsRenamed}
use Rattle.nuc_base.specs.Trees.{Nodes}
use Rattle.nuc_base.specs.declared.change.Change.{Change}
use Rattle.nuc_base.specs.declared.change.Change.TheVariants.{Put}
use Rattle.nuc_base.specs.declared.node.Kind.{Kind}
use Rattle.nuc_base.specs.declared.node.Kind.TheVariants.{Folder, File}
use Rattle.nuc_base.specs.declared.node.Node.{Node}
use Rattle.nuc_base.proofs.Maps.{one_node}
use Rattle.nuc_class.specs.Effects.{effect_of}
use Rattle.nuc_class.specs.Op.{operation}
use Rattle.nuc_class.specs.declared.op.Effect.{Effect}
use Rattle.nuc_class.specs.declared.op.Effect.TheVariants as effect
use Rattle.nuc_class.specs.declared.op.Op.{Op}
use Rattle.nuc_class.specs.declared.op.Verb.{Verb}
use Rattle.nuc_class.specs.declared.op.Verb.TheVariants as verb
use Rattle.nuc_class.specs.declared.wishes.Wish.{Wish}
use Rattle.nuc_class.specs.declared.wishes.Wish.TheVariants as wish
use Rattle.nuc_conflict.specs.After.{ComesFor}
use Rattle.nuc_conflict.specs.Facts.{AdoptionFacts}
use Rattle.nuc_conflict.specs.Remedies.{IsAlike}
use Rattle.nuc_edits.specs.Edits.{Recorded, same_hash}
use Rattle.nuc_edits.specs.declared.edit.Edit.{Edit}
use Rattle.nuc_folder.specs.State.{FolderState}
use Rattle.nuc_follow.specs.Matches.{HasContent, Matches}
use Rattle.nuc_follow.proofs.Shown.{key_there}
use Rattle.nuc_log.specs.declared.event.Event.TheVariants as event
use Rattle.nuc_log.specs.declared.log.LogEntry.{LogEntry}
use Rattle.nuc_log.specs.declared.reply.Reply.TheVariants as reply
use Rattle.nuc_plan.specs.declared.plans.Plan.TheVariants as plan
use Rattle.nuc_replica.specs.Local.{IsLocal}
use Rattle.nuc_step.specs.Client.{ClientState}
use Rattle.nuc_step.specs.Planning.{CanNote, CanPlan, IsAdopted, IsMendedAtOnce, IsNoted, IsPlanOf, MendGoes, PlanAnswers, Planning}
use Rattle.nuc_step.specs.declared.answers.Planned.{Planned}
use Rattle.nuc_step.specs.declared.answers.Planned.TheVariants as answer
use Rattle.nuc_step.proofs.Notes.{Facts, book_can, mend_can, mend_facts, mend_sound}
use Rattle.nuc_world.specs.Runs.Reaches.{stepped}
use Rattle.nuc_world.specs.State.{MemberState, Turn, WorldState, member_of}
use Rattle.nuc_world.specs.Step.{IsTurn, Plans, planning_of}
use Rattle.nuc_world.proofs.Grown.{its_member}
use Rattle.nuc_world.proofs.Reached.{reached_world}
use Rattle.nuc_world.proofs.Ready.{can_plan}
use Rattle.nuc_converge.proofs.Stepping.{member_there}
use Rattle.nuc_quiet.specs.Laws.{FolderMatches, NothingFails}
use Rattle.nuc_quiet.proofs.Adopted.{renamed_matches}
use Rattle.nuc_quiet.proofs.Noted.{content_same, noted_matches}
use Rattle.nuc_quiet.proofs.Parts.{InSync, PlansGoWell}

-- THE EFFECT of what a wish plans is by what it writes
effect_is : (same : ℕ → ℕ → Bool) (w : Wish) (x : ℕ) (r l s : Option Node) (op : Op) → operation same w x r l s ≡ Some op
    → op.effect ≡ effect_of same op.old_local op.local op.remote
effect_is same wish.Split x r l s op e = absurd (none-some op e)
effect_is same wish.Nothing x r l s op e = absurd (none-some op e)
effect_is same wish.Down x None l s op e = absurd (none-some op e)
effect_is same wish.Down x (Some r) l s op e = subst (λ (o : Op). o.effect ≡ effect_of same o.old_local o.local o.remote) (same_Some _ op e) refl
effect_is same wish.Up x r None s op e = absurd (none-some op e)
effect_is same wish.Up x r (Some l) s op e = subst (λ (o : Op). o.effect ≡ effect_of same o.old_local o.local o.remote) (same_Some _ op e) refl
effect_is same wish.CutDown x r l s op e = subst (λ (o : Op). o.effect ≡ effect_of same o.old_local o.local o.remote) (same_Some _ op e) refl
effect_is same wish.CutUp x r l s op e = subst (λ (o : Op). o.effect ≡ effect_of same o.old_local o.local o.remote) (same_Some _ op e) refl
effect_is same wish.Forget x r l s op e = subst (λ (o : Op). o.effect ≡ effect_of same o.old_local o.local o.remote) (same_Some _ op e) refl

-- TWO FILES OF ONE CONTENT, or two folders: the one has what the other has
alike_content : (es : List Edit) (k j : Kind) (a b : ℕ) (bytes : Option (List ℕ)) → IsAlike (same_hash es) k a j b → HasContent es j b bytes
    → HasContent es k a bytes
alike_content es Folder Folder a b bytes alike has = has
alike_content es Folder File a b bytes alike has = absurd alike
alike_content es File Folder a b bytes alike has = absurd alike
alike_content es File File a b bytes alike has = content_same es File b a bytes alike has

comes_renamed : (m : Nodes) (y x : ℕ) (c : Change) (n : Node) (k : Nodes) → c ≡ Put n → ComesFor m y x c k → IsRenamed m y x n k
comes_renamed m y x c n k is comes = subst (λ d. ComesFor m y x d k) is comes

-- ONE ANSWER, in a client whose folder holds s
module _ (p q : Planning) (can : CanPlan p.client p.next_id) (s : FolderState) (is : Matches p.recorded.edits p.client.local s)
    (local : IsLocal q.client.local) where
  abbrev Es : List Edit
  Es = p.recorded.edits

  abbrev Then : Type 0
  Then = Matches Es q.client.local s

  same_local : q.client.local ≡ p.client.local → Then
  same_local same = subst (λ l. Matches Es l s) (sym same) is

  noted : (op : Op) → CanNote p.client op → op.effect ≡ effect.Nothing → op.effect ≡ effect_of (same_hash Es) op.old_local op.local op.remote
      → IsNoted op p.client p.recorded q.client q.recorded → Then
  noted op note nothing by its =
      subst (λ l. Matches Es l s) (sym (ap (λ (c : ClientState). c.local) its.client)) (noted_matches Es p.client op s note nothing by is)

  booked : (op : Op) → IsPlanOf p (plan.Booked op) → IsNoted op p.client p.recorded q.client q.recorded → Then
  booked op planned its =
      let step = planned.1.step in
      let due = step.due in
      noted op (book_can p op can planned) step.effect
      (effect_is (same_hash Es) due.wish op.id.0 (get p.client.remote.tree op.id.0) (get p.client.local.tree op.id.0) (get p.client.synced op.id.0)
      op due.planned) its

  -- two become one
  module _ (op : Op) (facts : AdoptionFacts (same_hash Es) p.client.remote.tree p.client.local.tree p.client.synced op) where
    abbrev New : Node
    New = record facts.carried.node { bit = facts.carried.own.bit }

    node_is : facts.carried.node ≡ facts.node
    node_is = one_node p.client.remote.tree op.id.0 facts.carried.node facts.node facts.carried.there facts.there

    own_is : facts.carried.own ≡ facts.own
    own_is = one_node p.client.local.tree op.other.0 facts.carried.own facts.own facts.carried.own_there facts.own_there

    adopted : IsPlanOf p (plan.Mend op) → IsAdopted op p.client p.recorded q.client q.recorded → Then
    adopted planned its =
        let sound = mend_sound p op can planned in
        let (k, key) = key_there Es p.client.local s is op.other.0 facts.own facts.own_there in
        renamed_matches Es p.client.local q.client.local s is local op.id.0 op.other.0 k facts.own New
        sound.id facts.own_there facts.alone.0 key
        (comes_renamed p.client.local.tree op.other.0 op.id.0 op.local New q.client.local.tree (ap (λ (o : Op). o.local) facts.carried.is) its.tree)
        (ap (λ (c : ClientState). c.local.keys) its.client)
        (ap (λ (n : Node). n.place) node_is ∙ sym facts.place) (ap (λ (n : Node). n.kind) node_is ∙ sym facts.kind) (ap (λ (n : Node). n.bit) own_is)
        (λ has. subst (λ (n : Node). HasContent Es n.kind n.ver.0 (get s.bytes k)) (sym node_is)
        (alike_content Es facts.node.kind facts.own.kind facts.node.ver.0 facts.own.ver.0 (get s.bytes k) facts.alike has))

  -- A MEND
  module _ (op : Op) (planned : IsPlanOf p (plan.Mend op)) where
    not_at_once : op.effect ≡ effect.Disk → op.effect ≡ effect.Nothing → Then
    not_at_once disk nothing = absurd (let bad : effect.Disk ≡ effect.Nothing = sym disk ∙ nothing in cc)

    at_once : (v : Verb) → op.verb ≡ v → Facts p op can v → op.effect ≡ effect.Nothing → IsMendedAtOnce v op p.client p.recorded q.client q.recorded → Then
    at_once verb.Adopt named facts nothing its = adopted op facts planned its
    at_once verb.Evict named facts nothing its =
        noted op (mend_can p op can planned nothing (λ e. let bad : verb.Evict ≡ verb.Adopt = sym named ∙ e in cc)) nothing
        (ap (λ (o : Op). o.effect) facts.carried.is
        ∙ sym (ap (λ o. effect_of (same_hash Es) o op.local op.remote) (ap (λ (o : Op). o.old_local) facts.carried.is))) its
    at_once verb.Split named facts nothing its = not_at_once (ap (λ (o : Op). o.effect) facts.carried.is) nothing
    at_once verb.Revive named facts nothing its = not_at_once (ap (λ (o : Op). o.effect) facts.carried.is) nothing
    at_once verb.Unmove named facts nothing its = not_at_once (ap (λ (o : Op). o.effect) facts.carried.is) nothing
    at_once verb.Down named facts nothing its = absurd facts
    at_once verb.Up named facts nothing its = absurd facts
    at_once verb.CutDown named facts nothing its = absurd facts
    at_once verb.CutUp named facts nothing its = absurd facts
    at_once verb.Forget named facts nothing its = absurd facts

    mended : (e : Effect) → op.effect ≡ e → MendGoes e op p q → Then
    mended effect.Nothing nothing goes = at_once op.verb refl (mend_facts p op can planned) nothing goes.0
    mended effect.Disk works goes = same_local (ap (λ (c : ClientState). c.local) goes.client)
    mended effect.Commit works goes = same_local (ap (λ (c : ClientState). c.local) goes.client)

  pub answer_matches : (a : Planned) → PlanAnswers p a q → Then
  answer_matches answer.Empty (planned, same) = same_local (ap (λ (x : Planning). x.client.local) same)
  answer_matches (answer.Busy k) (some, long, same) = same_local (ap (λ (x : Planning). x.client.local) same)
  answer_matches (answer.Booked shown) its = booked its.op its.plan its.noted
  answer_matches (answer.Batch shown) its = same_local (ap (λ (c : ClientState). c.local) its.client)
  answer_matches (answer.Mend shown) its = mended its.op its.plan its.op.effect refl its.goes

-- WHAT IS RECORDED OF EDITS stays
at_once_edits : (v : Verb) (op : Op) (c : ClientState) (e : Recorded) (d : ClientState) (f : Recorded) → IsMendedAtOnce v op c e d f → f.edits ≡ e.edits
at_once_edits verb.Adopt op c e d f mended = ap (λ (x : Recorded). x.edits) mended.recorded
at_once_edits v op c e d f noted = ap (λ (x : Recorded). x.edits) noted.recorded

mend_edits : (x : Effect) (op : Op) (p q : Planning) → MendGoes x op p q → q.recorded.edits ≡ p.recorded.edits
mend_edits effect.Nothing op p q goes = at_once_edits op.verb op p.client p.recorded q.client q.recorded goes.0
mend_edits effect.Disk op p q flies = ap (λ (x : Recorded). x.edits) flies.recorded
mend_edits effect.Commit op p q flies = ap (λ (x : Recorded). x.edits) flies.recorded

plan_edits : (p : Planning) (a : Planned) (q : Planning) → PlanAnswers p a q → q.recorded.edits ≡ p.recorded.edits
plan_edits p answer.Empty q (planned, same) = ap (λ (x : Planning). x.recorded.edits) same
plan_edits p (answer.Booked shown) q its = ap (λ (x : Recorded). x.edits) its.noted.recorded
plan_edits p (answer.Batch shown) q its = ap (λ (x : Recorded). x.edits) its.recorded
plan_edits p (answer.Mend shown) q its = mend_edits its.op.effect its.op p q its.goes
plan_edits p (answer.Busy k) q (some, long, same) = ap (λ (x : Planning). x.recorded.edits) same

-- ONE TURN
turn_matches : (t u : Turn) (a : Planned) → CanPlan t.member.client t.shared.ids.next_id → IsLocal u.member.client.local → Plans a t u → NothingFails t.member
    → FolderMatches t.shared t.member → NothingFails u.member × FolderMatches u.shared u.member
turn_matches t u a can local (answers, now) none is =
    let edits : u.shared.edits.edits ≡ t.shared.edits.edits = plan_edits (planning_of t) a (planning_of u) answers in
    let held : u.member.folder.held ≡ t.member.folder.held = ap (λ (x : Turn). x.member.folder.held) now in
    let then : Matches t.shared.edits.edits u.member.client.local t.member.folder.held =
    answer_matches (planning_of t) (planning_of u) can t.member.folder.held is local a answers in (
      ap (λ (x : Turn). x.member.due.failing) now ∙ none,
      subst (λ es. Matches es u.member.client.local u.member.folder.held) (sym edits)
          (subst (λ h. Matches t.shared.edits.edits u.member.client.local h) (sym held) then),
    )

plan_matches : (log : List LogEntry) (w v : WorldState) (c : ℕ) (m k : MemberState) (a : Planned) → InSync c log w m → FolderMatches w.shared m
    → IsTurn log (event.Plan c) (reply.Plan a) w v → member_of c v.members ≡ Some k → NothingFails k × FolderMatches v.shared k
plan_matches log w v c m k a sync is turn at =
    let one : m ≡ turn.member = same_Some m turn.member (sym sync.was ∙ turn.was) in
    let there : member_of c v.members ≡ Some turn.after =
    subst (λ ms. member_of c ms ≡ Some turn.after) (sym turn.now) (member_there c w.members turn.member turn.after turn.was) in
    let two : turn.after ≡ k = same_Some turn.after k (sym there ∙ at) in
    let world = reached_world log w sync.reached in
    let later = reached_world _ v (stepped log w (event.Plan c) (reply.Plan a) v sync.reached turn) in
    subst (λ (n : MemberState). NothingFails n × FolderMatches v.shared n) two
    (turn_matches (record { shared = w.shared; member = turn.member }) (record { shared = v.shared; member = turn.after }) a
    (can_plan w world c turn.member turn.was) (its_member v later c turn.after there).client.local turn.does
    (subst NothingFails one sync.nothing_fails) (subst (FolderMatches w.shared) one is))

pub plans_go_well : PlansGoWell
plans_go_well log w v c m k (reply.Plan a) sync is step at = plan_matches log w v c m k a sync is step at
plans_go_well log w v c m k r sync is step at = absurd (step.does)
