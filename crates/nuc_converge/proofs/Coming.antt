-- The next entries of the journal come to a client whose batch is in flight. Each is that of a commit of the batch, and none
-- raises what is carried.
use Rattle.std.proofs.Common.{◌≡◌, ◌≢◌, ◌≤◌, ◌<◌, ◌+◌, ℕ, zero, suc, Bool, List, [], ◌∷◌, length, drop, take, slice_get, Option, None, Some, refl, sym, ap, subst, ◌∙◌, inl, inr, arith}
use Rattle.std.specs.Prelude.{Contains}
use Rattle.std.specs.FinMap.{get}
use Rattle.std.proofs.lemmas.Bool.{cases_lt}
use Rattle.nuc_base.specs.Changes.{IsLegal, KeepsKind, changed}
use Rattle.nuc_base.specs.Ready.{AllReady, Without}
use Rattle.nuc_base.specs.Trees.{Nodes}
use Rattle.nuc_base.specs.declared.change.Change.{Change}
use Rattle.nuc_base.specs.declared.change.Change.TheVariants.{Put, Cut}
use Rattle.nuc_base.specs.declared.node.Node.{Node}
use Rattle.nuc_base.proofs.Changed.{get_changed_other, kinds_after}
use Rattle.nuc_base.proofs.Changed as change
use Rattle.nuc_base.proofs.Maps.{get_cut_same, get_put_same, one_node, same_or_not}
use Rattle.nuc_base.proofs.Ready.{ready_after, ready_fewer}
use Rattle.nuc_class.specs.Wishes.{AllEqual, WantsDown}
use Rattle.nuc_conflict.specs.FitTogether.{FitTogether}
use Rattle.nuc_flights.specs.Flights.{Flight, Stage, planned, started, taken}
use Rattle.nuc_flights.specs.declared.taken.Taken.TheVariants as came
use Rattle.nuc_journal.specs.Entries.{tree_after, with_value}
use Rattle.nuc_journal.specs.Journal.{IsJournal}
use Rattle.nuc_journal.specs.declared.entry.Entry.{Entry}
use Rattle.nuc_journal.proofs.Journals.{rev_at}
use Rattle.nuc_measure.specs.Pays.{Keeps}
use Rattle.nuc_measure.specs.Steps.{Comes, Comes as comes}
use Rattle.nuc_measure.proofs.Carried.{one_carried}
use Rattle.nuc_measure.proofs.Ending.{entries_keep}
use Rattle.nuc_world.specs.Takes.{committed}
use Rattle.nuc_converge.proofs.InFlight.{HasCome, IsBatch, IsEntryOf, IsInFolder, IsOwn, IsToCome, Means, Means as means, flies}
use Rattle.nuc_converge.proofs.Parts.{EntriesCome, HaveCome}

-- WHAT IS AHEAD of a cursor
first_ahead : (es : List Entry) (c : ℕ) (e : Entry) → slice_get es c ≡ Some e → drop c es ≡ e ∷ drop (c + 1) es
first_ahead [] c e at = cc
first_ahead (f ∷ es) zero e at = let same : f ≡ e = cc in ap (λ g. g ∷ es) same
first_ahead (f ∷ es) (suc c) e at =
    let next : suc c + 1 ≡ suc (c + 1) = omega arith in
    first_ahead es c e at ∙ ap (λ n. e ∷ drop n (f ∷ es)) (sym next)

none_ahead : (es : List Entry) (c : ℕ) → slice_get es c ≡ None → drop c es ≡ []
none_ahead [] zero past = refl
none_ahead [] (suc c) past = refl
none_ahead (f ∷ es) zero past = cc
none_ahead (f ∷ es) (suc c) past = none_ahead es c past

contains_behind : (e h : Entry) (es : List Entry) → Contains es h → Contains (e ∷ es) h
contains_behind e h es (k, within, at) = (suc k, omega (arith, within), at)

-- WHAT HAS COME at the next cursor: what had come before,
pub come_later : (cursor : ℕ) (stage : Stage) → HasCome cursor stage → HasCome (cursor + 1) stage
come_later cursor planned come = come
come_later cursor started come = come
come_later cursor (taken (came.Folder o)) come = come
come_later cursor (taken (came.Accepted rev)) come = let le : rev ≤ cursor = come in omega (arith, le)
come_later cursor (taken (came.Refused why)) come = come

-- and nothing else, but what was accepted with just that revision
pub come_before : (cursor : ℕ) (stage : Stage) → stage ≢ taken (came.Accepted (cursor + 1)) → HasCome (cursor + 1) stage → HasCome cursor stage
come_before cursor planned other come = come
come_before cursor started other come = come
come_before cursor (taken (came.Folder o)) other come = come
come_before cursor (taken (came.Accepted rev)) other come =
    let le : rev ≤ cursor + 1 = come in
    elim (cases_lt cursor rev) [
      | inl less ↦ let next : rev ≡ cursor + 1 = omega (arith, le, less) in absurd (other (ap (λ n. taken (came.Accepted n)) next))
      | inr before ↦ before
    ]
come_before cursor (taken (came.Refused why)) other come = come

-- WHAT IS CARRIED isn't raised by no entry, nor by one after others
keeps_none : (same : ℕ → ℕ → Bool) (fly : ℕ → Bool) (r l s : Nodes) → Keeps same fly r l s fly r l s
keeps_none same fly r l s m a b below is_a is_b = let one = (one_carried same r l s fly m below).one a b is_a is_b in omega (arith, one)

pub keeps_on : (same : ℕ → ℕ → Bool) (fly : ℕ → Bool) (r l s n k : Nodes) → Keeps same fly r l s fly n l s → Keeps same fly n l s fly k l s
    → Keeps same fly r l s fly k l s
keeps_on same fly r l s n k first rest m a b below is_a is_b =
    let between = (one_carried same n l s fly m below).some in
    let fell : between.0 ≤ a = first m a between.0 below is_a between.1 in
    let on : b ≤ between.0 = rest m between.0 b below between.1 is_b in
    omega (arith, fell, on)

-- WHAT ANOTHER OPERATION MEANS, whose value in Remote stays and whose own entry isn't the one that comes
means_still : (same : ℕ → ℕ → Bool) (r l s n : Nodes) (cursor : ℕ) (g : Flight) → get n g.op.id.0 ≡ get r g.op.id.0
    → (HasCome (cursor + 1) g.stage → HasCome cursor g.stage) → Means same r l s cursor g → Means same n l s (cursor + 1) g
means_still same r l s n cursor g at old (means.down k in_r wants writes effect stage) =
    let wanted = subst (λ (o : Option Node). WantsDown same ⊥ o (get l g.op.id.0) (get s g.op.id.0)) (sym at) wants in
    means.down k (at ∙ in_r) wanted writes effect stage
means_still same r l s n cursor g at old (means.cut_down k no_r in_l writes effect stage) = means.cut_down k (at ∙ no_r) in_l writes effect stage
means_still same r l s n cursor g at old (means.up k in_l apart writes effect stage waits) =
    let differ = subst (λ (o : Option Node). ¬ (AllEqual o (get l g.op.id.0) (get s g.op.id.0))) (sym at) apart in
    means.up k in_l differ writes effect stage (λ come. waits (old come))
means_still same r l s n cursor g at old (means.up_came k in_r in_l writes effect come) =
    means.up_came k (at ∙ in_r) in_l writes effect (come_later cursor g.stage come)
means_still same r l s n cursor g at old (means.cut_up k no_l in_r writes effect stage waits) =
    means.cut_up k no_l (at ∙ in_r) writes effect stage (λ come. waits (old come))
means_still same r l s n cursor g at old (means.cut_came no_r no_l writes effect come) =
    means.cut_came (at ∙ no_r) no_l writes effect (come_later cursor g.stage come)

-- THE OPERATION whose entry comes, and what it writes in Remote
record Enters (same : ℕ → ℕ → Bool) (r l s : Nodes) (cursor : ℕ) (e : Entry) (f : Flight) (c : Change) : Type 0 where
  tree : with_value r e.id.0 e.value ≡ changed r f.op.id.0 c
  comes : Comes r l s f.op.id.0 (changed r f.op.id.0 c)
  local : KeepsKind l f.op.id.0 c
  synced : KeepsKind s f.op.id.0 c
  means : Means same (changed r f.op.id.0 c) l s (cursor + 1) f

module _ (cursor : ℕ) (e : Entry) (f : Flight) (next : e.rev ≡ cursor + 1) (is : IsEntryOf e f) where
  own_stage : f.stage ≡ taken (came.Accepted (cursor + 1))
  own_stage = is.stage ∙ ap (λ n. taken (came.Accepted n)) next

  has_come : HasCome (cursor + 1) f.stage
  has_come = subst (HasCome (cursor + 1)) (sym own_stage) (omega arith)

  not_before : ¬ (HasCome cursor f.stage)
  not_before come = let le : cursor + 1 ≤ cursor = subst (HasCome cursor) own_stage come in omega (arith, le)

  not_in_folder : ¬ (IsInFolder f.stage)
  not_in_folder stage = subst IsInFolder own_stage stage

  -- an Up or a CutUp, since no other was accepted and waits for its entry
  module _ (same : ℕ → ℕ → Bool) (r l s : Nodes) (in_remote : IsLegal r f.op.id.0 f.op.remote) (in_synced : IsLegal s f.op.id.0 f.op.synced) where
    value_tree : (c : Change) (v : Option Node) → f.op.remote ≡ c → committed c ≡ v → with_value r e.id.0 e.value ≡ with_value r f.op.id.0 v
    value_tree c v writes value =
        ap (λ x. with_value r x e.value) is.id ∙ ap (with_value r f.op.id.0) (is.value ∙ ap committed writes ∙ value)

    abbrev EntersWith : Change → Type 0
    EntersWith c = Enters same r l s cursor e f c

    enters : Means same r l s cursor f → EntersWith f.op.remote
    enters (means.down k in_r wants writes effect stage) = absurd (not_in_folder stage)
    enters (means.cut_down k no_r in_l writes effect stage) = absurd (not_in_folder stage)
    enters (means.up_came k in_r in_l writes effect come) = absurd (not_before come)
    enters (means.cut_came no_r no_l writes effect come) = absurd (not_before come)
    enters (means.up n in_l apart writes effect stage waits) =
        let legal_r : IsLegal r f.op.id.0 (Put n) = subst (IsLegal r f.op.id.0) writes.remote in_remote in
        let legal_s : IsLegal s f.op.id.0 (Put n) = subst (IsLegal s f.op.id.0) writes.synced in_synced in
        subst EntersWith (sym writes.remote) (record {
          tree = value_tree (Put n) (Some n) writes.remote refl;
          comes = comes.up_came n in_l apart legal_r legal_s;
          local = λ h there. ap (λ (i : Node). i.kind) (one_node l f.op.id.0 h n there in_l);
          synced = legal_s.kind;
          means = means.up_came n (get_put_same r f.op.id.0 n) in_l writes effect has_come;
        })
    enters (means.cut_up n no_l in_r writes effect stage waits) =
        let legal_r : IsLegal r f.op.id.0 Cut = subst (IsLegal r f.op.id.0) writes.remote in_remote in
        subst EntersWith (sym writes.remote) (record {
          tree = value_tree Cut None writes.remote refl;
          comes = comes.cut_came n no_l in_r legal_r;
          local = tt;
          synced = tt;
          means = means.cut_came (get_cut_same r f.op.id.0) no_l writes effect has_come;
        })

module _ (same : ℕ → ℕ → Bool) (l s : Nodes) (entries : List Entry) (fs : List Flight)
    (legal : (f : Flight) → Contains fs f → IsLegal s f.op.id.0 f.op.synced) (above : (f : Flight) → Contains fs f → 0 < f.op.id.0) where
  module _ (r : Nodes) (cursor : ℕ) (fit : FitTogether r l s) (batch : IsBatch same r l s cursor entries fs) (e : Entry) (next : e.rev ≡ cursor + 1)
      (ahead : drop cursor entries ≡ e ∷ drop (cursor + 1) entries) where
    module _ (f : Flight) (within : Contains fs f) (is : IsEntryOf e f) where
      abbrev x : ℕ
      x = f.op.id.0

      abbrev now : Nodes
      now = changed r x f.op.remote

      to_come : IsToCome cursor fs x f.op.remote
      to_come = record { f = f; flies = within; id = refl; writes = refl; waits = not_before cursor e f next is }

      entered : Enters same r l s cursor e f f.op.remote
      entered = enters cursor e f next is same r l s (batch.ready.legal x f.op.remote to_come) (legal f within) (batch.means f within)

      fit_now : FitTogether now l s
      fit_now = record {
        remote = change.tree_after r x f.op.remote fit.remote (above f within) (batch.ready.fits x f.op.remote to_come) (batch.ready.legal x f.op.remote to_come);
        local = fit.local;
        synced = fit.synced;
        remote_local = kinds_after r l x f.op.remote fit.remote_local entered.local;
        remote_synced = kinds_after r s x f.op.remote fit.remote_synced entered.synced;
        local_synced = fit.local_synced;
      }

      -- another operation has another identity and another revision
      means_now : (g : Flight) → Contains fs g → Means same now l s (cursor + 1) g
      means_now g flying = elim (same_or_not g.op.id.0 x) [
        | inl own ↦ subst (λ (h : Flight). Means same now l s (cursor + 1) h) (batch.one_id f g within flying (sym own)) entered.means
        | inr other ↦
            let not_its : g.stage ≢ taken (came.Accepted (cursor + 1)) =
            λ stage. other (ap (λ (h : Flight). h.op.id.0) (batch.one_revision g f (cursor + 1) flying within stage (own_stage cursor e f next is))) in
            means_still same r l s now cursor g (get_changed_other r x f.op.remote g.op.id.0 other) (come_before cursor g.stage not_its) (batch.means g flying)
      ]

      -- what is to come yet was so before, and isn't this
      others_wait : (y : ℕ) (c : Change) → IsToCome (cursor + 1) fs y c → Without (IsToCome cursor fs) x y c
      others_wait y c its = (
        record { f = its.f; flies = its.flies; id = its.id; writes = its.writes; waits = λ come. its.waits (come_later cursor its.f.stage come) },
        λ own.
            let one : f ≡ its.f = batch.one_id f its.f within its.flies (sym (its.id ∙ own)) in
            its.waits (subst (λ (h : Flight). HasCome (cursor + 1) h.stage) one (has_come cursor e f next is)),
      )

      ready_now : AllReady now (IsToCome (cursor + 1) fs)
      ready_now =
          ready_fewer now (Without (IsToCome cursor fs) x) (IsToCome (cursor + 1) fs) others_wait
          (ready_after r (IsToCome cursor fs) x f.op.remote fit.remote batch.ready to_come)

      news_now : (h : Entry) → Contains (drop (cursor + 1) entries) h → IsOwn fs h
      news_now h behind = batch.news h (subst (λ es. Contains es h) (sym ahead) (contains_behind e h (drop (cursor + 1) entries) behind))

      its_entry_comes : HaveCome same r l s now (cursor + 1) entries fs
      its_entry_comes = record {
        fit = fit_now;
        batch = record { means = means_now; one_id = batch.one_id; one_revision = batch.one_revision; ready = ready_now; news = news_now };
        keeps = entries_keep same (flies fs) (flies fs) r l s x now fit (above f within) (λ y up. up) entered.comes;
      }

    -- ONE ENTRY COMES, the first that is ahead
    pub entry_comes : HaveCome same r l s (with_value r e.id.0 e.value) (cursor + 1) entries fs
    entry_comes =
        let own : IsOwn fs e = batch.news e (subst (λ es. Contains es e) (sym ahead) (0, omega arith, refl)) in
        subst (λ m. HaveCome same r l s m (cursor + 1) entries fs) (sym (entered own.f own.flies own.is).tree) (its_entry_comes own.f own.flies own.is)

  -- SO MANY COME, one after another
  module _ (journal : IsJournal entries) where
    come_from : (k : ℕ) (r : Nodes) (cursor : ℕ) → FitTogether r l s → IsBatch same r l s cursor entries fs → k ≤ length (drop cursor entries)
        → HaveCome same r l s (tree_after r (take k (drop cursor entries))) (cursor + k) entries fs
    come_from zero r cursor fit batch few =
        let here : cursor ≡ cursor + 0 = omega arith in
        subst (λ n. HaveCome same r l s r n entries fs) here (record { fit = fit; batch = batch; keeps = keeps_none same (flies fs) r l s })
    come_from (suc k) r cursor fit batch few = elim (slice_get entries cursor) as (λ (o : Option Entry). slice_get entries cursor ≡ o
        → HaveCome same r l s (tree_after r (take (suc k) (drop cursor entries))) (cursor + suc k) entries fs) [
          | None ↦ λ past.
              let none : length (drop cursor entries) ≡ 0 = ap length (none_ahead entries cursor past) in
              absurd (omega (arith, few, none))
          | Some e ↦ λ at.
              let ahead = first_ahead entries cursor e at in
              let size : length (drop cursor entries) ≡ length (e ∷ drop (cursor + 1) entries) = ap length ahead in
              let now : Nodes = with_value r e.id.0 e.value in
              let last : Nodes = tree_after now (take k (drop (cursor + 1) entries)) in
              let first = entry_comes r cursor fit batch e (rev_at entries cursor e journal at) ahead in
              let rest = come_from k now (cursor + 1) first.fit first.batch (omega (arith, few, size)) in
              let all : HaveCome same r l s last ((cursor + 1) + k) entries fs =
              record { fit = rest.fit; batch = rest.batch; keeps = keeps_on same (flies fs) r l s now last first.keeps rest.keeps } in
              let end : (cursor + 1) + k ≡ cursor + suc k = omega arith in
              subst (λ es. HaveCome same r l s (tree_after r (take (suc k) es)) (cursor + suc k) entries fs) (sym ahead)
              (subst (λ n. HaveCome same r l s last n entries fs) end all)
        ] refl

pub entries_come : EntriesCome
entries_come same r l s cursor k entries fs journal fit batch legal above few = come_from same l s entries fs legal above journal k r cursor fit batch few
