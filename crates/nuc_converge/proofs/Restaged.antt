-- What flies of a client that is left alone, where one operation comes to another stage.
use Rattle.std.specs.Prelude.{Contains}
use Rattle.std.proofs.Common.{◌≡◌, ◌≢◌, ◌⊎◌, ℕ, Bool, List, [], ◌∷◌, drop, Some, sym, ◌∙◌, ap, subst, inl, inr}
use Rattle.std.proofs.lemmas.Option.{same_Some}
use Rattle.nuc_base.specs.Ready.{AllReady}
use Rattle.nuc_base.specs.Trees.{Nodes}
use Rattle.nuc_base.specs.declared.change.Change.{Change}
use Rattle.nuc_class.specs.declared.op.Effect.TheVariants as effect
use Rattle.nuc_flights.specs.Flights.{Flight, Stage, flight_of, planned, staged, started, taken}
use Rattle.nuc_flights.specs.declared.taken.Taken.TheVariants as came
use Rattle.nuc_journal.specs.declared.entry.Entry.{Entry}
use Rattle.nuc_step.specs.Client.{ClientState}
use Rattle.nuc_step.specs.Sound.{AreNumbered}
use Rattle.nuc_step.proofs.Flying.{number_of}
use Rattle.nuc_converge.proofs.InFlight as fly
use Rattle.nuc_converge.proofs.InFlight.{HasCome, IsAtServer, IsBatch, IsEntryOf, IsInFolder, IsMend, IsOwn, IsPlaced, IsToCome, Means}
use Rattle.nuc_converge.proofs.InFlight.IsAlone.{batch as of_batch, mend as of_mend}
use Rattle.nuc_converge.proofs.InFlight.IsPlaced.{in_folder, at_server}
use Rattle.nuc_converge.proofs.InFlight.Means.{down, cut_down, up, up_came, cut_up, cut_came}
use Rattle.nuc_converge.proofs.Staged.{ComesOf, at_stage, comes_of, flight_there, staged_alone, staged_there, stays_or_is}
use Rattle.nuc_converge.proofs.Staged.ComesOf.{it, other}

-- it wasn't taken yet, so no entry is its
abbrev pub IsUntaken : Stage → Type 0
IsUntaken planned = Unit {0}
IsUntaken started = Unit {0}
IsUntaken (taken t) = ⊥

not_come : (cursor : ℕ) (st : Stage) → IsUntaken st → ¬ (HasCome cursor st)
not_come cursor planned untaken = λ come. come
not_come cursor started untaken = λ come. come
not_come cursor (taken t) untaken = absurd untaken

no_entry : (e : Entry) (f : Flight) → IsUntaken f.stage → ¬ (IsEntryOf e f)
no_entry e f untaken entry = subst IsUntaken entry.stage untaken

-- WHICH STAGE an operation may come to, with these entries of the server behind the cursor. It is one of its effect, its entry
-- hasn't come, no other was accepted so, and all that is new is its own entry
pub record MayCome (cursor : ℕ) (entries now : List Entry) (fs : List Flight) (f : Flight) (st : Stage) : Type 0 where
  pub folder : f.op.effect ≡ effect.Disk → IsInFolder st
  pub server : f.op.effect ≡ effect.Commit → IsAtServer st
  pub waits : ¬ (HasCome cursor st)
  pub revision : (g : Flight) (rev : ℕ) → Contains fs g → g.stage ≡ taken (came.Accepted rev) → st ≢ taken (came.Accepted rev)
  pub news : (e : Entry) → Contains (drop cursor now) e → Contains (drop cursor entries) e ⊎ IsEntryOf e (at_stage st f)

module _ (same : ℕ → ℕ → Bool) (r l s : Nodes) (cursor : ℕ) (entries now : List Entry) (fs : List Flight) (n next : ℕ) (numbered : AreNumbered fs next) (f : Flight)
    (there : flight_of n fs ≡ Some f) (untaken : IsUntaken f.stage) (st : Stage) (may : MayCome cursor entries now fs f st) where
  -- IN A BATCH
  means_then : Means same r l s cursor f → Means same r l s cursor (at_stage st f)
  means_then (down h at wants writes disk stage) = down h at wants writes disk (may.folder disk)
  means_then (cut_down h none at writes disk stage) = cut_down h none at writes disk (may.folder disk)
  means_then (up h at apart writes commit stage waits) = up h at apart writes commit (may.server commit) may.waits
  means_then (up_came h at too writes commit come) = absurd (not_come cursor f.stage untaken come)
  means_then (cut_up h none at writes commit stage waits) = cut_up h none at writes commit (may.server commit) may.waits
  means_then (cut_came none gone writes commit come) = absurd (not_come cursor f.stage untaken come)

  module _ (batch : IsBatch same r l s cursor entries fs) where
    means_of : (g : Flight) → ComesOf n st fs f g → Means same r l s cursor g
    means_of g (other within apart) = batch.means g within
    means_of g (it is) = subst (Means same r l s cursor) (sym is) (means_then (batch.means f (flight_there n fs f there)))

    -- no other has its identity
    not_its : (g : Flight) → Contains fs g → g.op.number ≢ n → g.op.id.0 ≢ f.op.id.0
    not_its g within apart e =
        let one : g ≡ f = batch.one_id g f within (flight_there n fs f there) e in
        apart (ap (λ (h : Flight). h.op.number) one ∙ number_of n fs f there)

    one_id : (g h : Flight) → ComesOf n st fs f g → ComesOf n st fs f h → g.op.id.0 ≡ h.op.id.0 → g ≡ h
    one_id g h (other in_g apart) (other in_h too) e = batch.one_id g h in_g in_h e
    one_id g h (other in_g apart) (it is) e = absurd (not_its g in_g apart (e ∙ ap (λ (k : Flight). k.op.id.0) is))
    one_id g h (it is) (other in_h apart) e = absurd (not_its h in_h apart (sym e ∙ ap (λ (k : Flight). k.op.id.0) is))
    one_id g h (it is) (it also) e = is ∙ sym also

    one_revision : (g h : Flight) (rev : ℕ) → ComesOf n st fs f g → ComesOf n st fs f h → g.stage ≡ taken (came.Accepted rev) → h.stage ≡ taken (came.Accepted rev) → g ≡ h
    one_revision g h rev (other in_g apart) (other in_h too) first second = batch.one_revision g h rev in_g in_h first second
    one_revision g h rev (other in_g apart) (it is) first second = absurd (may.revision g rev in_g first (sym (ap (λ (k : Flight). k.stage) is) ∙ second))
    one_revision g h rev (it is) (other in_h apart) first second = absurd (may.revision h rev in_h second (sym (ap (λ (k : Flight). k.stage) is) ∙ first))
    one_revision g h rev (it is) (it also) first second = is ∙ sym also

    come : (g : Flight) → Contains (staged n st fs) g → ComesOf n st fs f g
    come = comes_of n st f fs next numbered there

    -- what is to come was to come before
    to_come : (x : ℕ) (c : Change) → IsToCome cursor (staged n st fs) x c → IsToCome cursor fs x c
    to_come x c to = by (come to.f to.flies)
      where
        by : ComesOf n st fs f to.f → IsToCome cursor fs x c
        by (other within apart) = record { f = to.f; flies = within; id = to.id; writes = to.writes; waits = to.waits }
        by (it is) = record {
          f = f;
          flies = flight_there n fs f there;
          id = sym (ap (λ (k : Flight). k.op.id.0) is) ∙ to.id;
          writes = sym (ap (λ (k : Flight). k.op.remote) is) ∙ to.writes;
          waits = not_come cursor f.stage untaken;
        }

    ready_then : AllReady r (IsToCome cursor (staged n st fs))
    ready_then = record {
      below = λ x c to. batch.ready.below x c (to_come x c to);
      fits = λ x c to. batch.ready.fits x c (to_come x c to);
      legal = λ x c to. batch.ready.legal x c (to_come x c to);
      apart = λ x y c d to too. batch.ready.apart x y c d (to_come x c to) (to_come y d too);
    }

    -- an entry is that of the same operation still
    own_still : (e : Entry) → IsOwn fs e → IsOwn (staged n st fs) e
    own_still e own = elim (stays_or_is n st fs own.f own.flies) [
      | inl within ↦ record { f = own.f; flies = within; is = own.is }
      | inr one ↦ absurd (no_entry e own.f (subst (λ (g : Flight). IsUntaken g.stage) (same_Some f own.f (sym there ∙ one)) untaken) own.is)
    ]

    news_then : (e : Entry) → Contains (drop cursor now) e → IsOwn (staged n st fs) e
    news_then e within = elim (may.news e within) [
      | inl old ↦ own_still e (batch.news e old)
      | inr is ↦ record { f = at_stage st f; flies = staged_there n st fs f there; is = is }
    ]

    batch_then : IsBatch same r l s cursor now (staged n st fs)
    batch_then = record {
      means = λ g within. means_of g (come g within);
      one_id = λ g h in_g in_h e. one_id g h (come g in_g) (come h in_h) e;
      one_revision = λ g h rev in_g in_h first second. one_revision g h rev (come g in_g) (come h in_h) first second;
      ready = ready_then;
      news = news_then;
    }

  -- A MEND
  placed_then : IsPlaced f.op f.stage → IsPlaced f.op st
  placed_then (in_folder disk keeps stage) = in_folder disk keeps (may.folder disk)
  placed_then (at_server h commit puts keeps one stage) = at_server h commit puts keeps one (may.server commit)

  mend_then : IsMend same r l s cursor entries f → IsMend same r l s cursor now (at_stage st f)
  mend_then mend = record {
    next = mend.next;
    op = mend.op;
    shown = mend.shown;
    facts = mend.facts;
    agreed = mend.agreed;
    placed = placed_then mend.placed;
    waits = may.waits;
    news = λ e within. elim (may.news e within) [
      | inl old ↦ absurd (no_entry e f untaken (mend.news e old))
      | inr is ↦ is
    ];
  }

-- WHAT FLIES THEN. The client may hear of more entries, but Remote stays at its cursor
module _ (same : ℕ → ℕ → Bool) (entries now : List Entry) (c : ClientState) (n : ℕ) (numbered : AreNumbered c.flights c.next_op) (f : Flight)
    (there : flight_of n c.flights ≡ Some f) (untaken : IsUntaken f.stage) (st : Stage) (may : MayCome c.remote.cursor entries now c.flights f st) (ahead : List Entry) where
  abbrev pub restaged : ClientState
  restaged = record c { flights = staged n st c.flights; remote = record c.remote { ahead = ahead } }

  pub alone_then : fly.IsAlone same entries c → fly.IsAlone same now restaged
  alone_then (of_batch batch) =
      of_batch (batch_then same c.remote.tree c.local.tree c.synced c.remote.cursor entries now c.flights n c.next_op numbered f there untaken st may batch)
  alone_then (of_mend g flights mend) =
      let (one, is) = staged_alone n st g f (subst (λ fs. flight_of n fs ≡ Some f) flights there) in
      let shown : staged n st c.flights ≡ at_stage st f ∷ [] = ap (staged n st) flights ∙ is ∙ ap (λ h. at_stage st h ∷ []) one in
      of_mend (at_stage st f) shown
      (mend_then same c.remote.tree c.local.tree c.synced c.remote.cursor entries now c.flights n c.next_op numbered f there untaken st may
      (subst (IsMend same c.remote.tree c.local.tree c.synced c.remote.cursor entries) one mend))
