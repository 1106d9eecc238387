-- The end of an operation of a batch: what is left is a batch again, and what is carried gets less.
use Rattle.std.specs.Prelude.{Contains, IsTrue}
use Rattle.std.proofs.Common.{◌≡◌, ◌≢◌, ◌<◌, ℕ, Bool, true, false, cond, List, [], ◌∷◌, drop, Some, refl, sym, ap, subst, ◌∙◌, inl, inr, arith}
use Rattle.std.specs.FinMap.{get, insert, remove}
use Rattle.nuc_base.specs.Changes.{IsLegal, changed}
use Rattle.nuc_base.specs.Ready.{LegalInTurn, all_changed}
use Rattle.nuc_base.specs.Trees.{Nodes}
use Rattle.nuc_base.specs.declared.change.Change.{Change}
use Rattle.nuc_base.specs.declared.change.Change.TheVariants.{Cut, Put}
use Rattle.nuc_base.proofs.Ready.{ready_fewer}
use Rattle.nuc_class.specs.Merge.{target}
use Rattle.nuc_class.specs.declared.op.Op.{Op}
use Rattle.nuc_conflict.specs.FitTogether.{FitTogether}
use Rattle.nuc_flights.specs.Flights.{Flight, flight_of, taken, without}
use Rattle.nuc_flights.specs.declared.taken.Taken.TheVariants as came
use Rattle.nuc_folder.specs.Outcome.{is_success}
use Rattle.nuc_folder.specs.declared.outcome.Outcome.{Outcome}
use Rattle.nuc_journal.specs.declared.entry.Entry.{Entry}
use Rattle.nuc_measure.specs.Pays.{Keeps, Lowers, NoMoreFlies}
use Rattle.nuc_measure.specs.Steps.Ends.{down as down_ends, cut_down as cut_down_ends, forget as forget_ends, up as up_ends}
use Rattle.nuc_measure.proofs.Carried.{carried_of}
use Rattle.nuc_measure.proofs.Ending.{ends_lower}
use Rattle.nuc_step.specs.Sound.{AreNumbered}
use Rattle.nuc_step.specs.Steps.{is_split, local_changes, split_changes}
use Rattle.nuc_converge.proofs.InFlight.{HasCome, IsAtServer, IsBatch, IsEntryOf, IsInFolder, IsOwn, IsToCome, Means}
use Rattle.nuc_converge.proofs.InFlight.Means.{down, cut_down, up, up_came, cut_up, cut_came}
use Rattle.nuc_converge.proofs.Without.{gone_or_stays, nobody, other_id, still_in}

-- AN OPERATION OF ONE IDENTITY makes one change in Local
pub one_changed : (l : Nodes) (op : Op) → is_split op.verb ≡ false → all_changed l (local_changes op) ≡ changed l op.id.0 op.local
one_changed l op plain = ap (λ b. all_changed l (cond b (split_changes op) ((op.id.0, op.local) ∷ []))) plain

one_legal : (l : Nodes) (op : Op) → is_split op.verb ≡ false → LegalInTurn l (local_changes op) → IsLegal l op.id.0 op.local
one_legal l op plain legal = (subst (λ b. LegalInTurn l (cond b (split_changes op) ((op.id.0, op.local) ∷ []))) plain legal).0

-- WHAT IS LEFT. Where the values of its identity stay an operation means what it meant
means_as : (same : ℕ → ℕ → Bool) (r l s nl ns : Nodes) (cursor : ℕ) (g : Flight) → get nl g.op.id.0 ≡ get l g.op.id.0 → get ns g.op.id.0 ≡ get s g.op.id.0
    → Means same r l s cursor g → Means same r nl ns cursor g
means_as same r l s nl ns cursor g in_l in_s (down n at wants writes outside stage) =
    down n at (rw (in_l, in_s) wants) (rw (in_l, in_s) writes) outside stage
means_as same r l s nl ns cursor g in_l in_s (cut_down n none at writes outside stage) = cut_down n none (in_l ∙ at) writes outside stage
means_as same r l s nl ns cursor g in_l in_s (up n at apart writes outside stage waits) = up n (in_l ∙ at) (rw (in_l, in_s) apart) writes outside stage waits
means_as same r l s nl ns cursor g in_l in_s (up_came n in_r at writes outside has) = up_came n in_r (in_l ∙ at) writes outside has
means_as same r l s nl ns cursor g in_l in_s (cut_up n none at writes outside stage waits) = cut_up n (in_l ∙ none) at writes outside stage waits
means_as same r l s nl ns cursor g in_l in_s (cut_came none_r none writes outside has) = cut_came none_r (in_l ∙ none) writes outside has

module _ (same : ℕ → ℕ → Bool) (r l s : Nodes) (cursor : ℕ) (entries : List Entry) (n : ℕ) (fs : List Flight) (next : ℕ) (f : Flight)
    (is : IsBatch same r l s cursor entries fs) (are : AreNumbered fs next) (there : flight_of n fs ≡ Some f) where
  -- all other operations of a batch, where only the values of the one changed and no entry of it is to come
  pub batch_without : (nl ns : Nodes) → ((y : ℕ) → y ≢ f.op.id.0 → get nl y ≡ get l y) → ((y : ℕ) → y ≢ f.op.id.0 → get ns y ≡ get s y)
      → ((e : Entry) → Contains (drop cursor entries) e → ¬ (IsEntryOf e f)) → IsBatch same r nl ns cursor entries (without n fs)
  batch_without nl ns in_l in_s none = record {
    means = λ g stays.
        let apart = other_id n fs next f are there is.one_id g stays in
        means_as same r l s nl ns cursor g (in_l g.op.id.0 apart) (in_s g.op.id.0 apart) (is.means g (still_in n fs g stays));
    one_id = λ g h g_stays h_stays ids. is.one_id g h (still_in n fs g g_stays) (still_in n fs h h_stays) ids;
    one_revision = λ g h rev g_stays h_stays g_at h_at. is.one_revision g h rev (still_in n fs g g_stays) (still_in n fs h h_stays) g_at h_at;
    ready = ready_fewer r (IsToCome cursor fs) (IsToCome cursor (without n fs))
        (λ x c its. record { f = its.f; flies = still_in n fs its.f its.flies; id = its.id; writes = its.writes; waits = its.waits }) is.ready;
    news = λ e comes. own e comes (is.news e comes);
  }
    where
      own : (e : Entry) → Contains (drop cursor entries) e → IsOwn fs e → IsOwn (without n fs) e
      own e comes its = elim (gone_or_stays n fs f its.f there its.flies) [
        | inl it ↦ absurd (none e comes (subst (IsEntryOf e) it its.is))
        | inr stays ↦ record { f = its.f; flies = stays; is = its.is }
      ]

-- nothing that flies is a batch too, where no entry is behind the cursor
pub empty_batch : (same : ℕ → ℕ → Bool) (r l s : Nodes) (cursor : ℕ) (entries : List Entry) → ((e : Entry) → Contains (drop cursor entries) e → ⊥)
    → IsBatch same r l s cursor entries []
empty_batch same r l s cursor entries none = record {
  means = λ f within. absurd (nobody f within);
  one_id = λ f g within too ids. absurd (nobody f within);
  one_revision = λ f g rev within too f_at g_at. absurd (nobody f within);
  ready = record {
    below = λ x c its. absurd (nobody its.f its.flies);
    fits = λ x c its. absurd (nobody its.f its.flies);
    legal = λ x c its. absurd (nobody its.f its.flies);
    apart = λ x y c d its other ids. absurd (nobody its.f its.flies);
  };
  news = λ e comes. absurd (none e comes);
}

-- WHAT IS CARRIED, where the trees after are known by equations
lowers_to : (same : ℕ → ℕ → Bool) (fly now : ℕ → Bool) (r l s nl ns a b : Nodes) → nl ≡ a → ns ≡ b
    → Lowers same fly r l s now r a b → Lowers same fly r l s now r nl ns
lowers_to same fly now r l s nl ns a b in_l in_s lowers =
    subst (λ m. Lowers same fly r l s now r m ns) (sym in_l) (subst (λ m. Lowers same fly r l s now r a m) (sym in_s) lowers)

-- it isn't raised first, and gets less then
pub keeps_lowers : (same : ℕ → ℕ → Bool) (fly now : ℕ → Bool) (r l s nr nl ns : Nodes) → Keeps same fly r l s fly nr l s → Lowers same fly nr l s now nr nl ns
    → Lowers same fly r l s now nr nl ns
keeps_lowers same fly now r l s nr nl ns keeps lowers m a b below is_a is_b =
    let (k, is_k) = (carried_of same fly nr l s m below).some in
    let le = keeps m a k below is_a is_k in
    let less = lowers m k b below is_k is_b in
    omega (arith, le, less)

-- THE STAGE. Nothing of the server is in a folder, and the reverse
pub in_one_place : (f : Flight) (o : Outcome) → f.stage ≡ taken (came.Folder o) → IsAtServer f.stage → ⊥
in_one_place f o stage at_server = subst IsAtServer stage at_server

none_comes : (cursor : ℕ) (f : Flight) (o : Outcome) → f.stage ≡ taken (came.Folder o) → HasCome cursor f.stage → ⊥
none_comes cursor f o stage has = subst (HasCome cursor) stage has

pub not_in_folder : (f : Flight) (rev : ℕ) → f.stage ≡ taken (came.Accepted rev) → IsInFolder f.stage → ⊥
not_in_folder f rev stage in_folder = subst IsInFolder stage in_folder

-- what the folder did went well
pub went_well : (same : ℕ → ℕ → Bool) (r l s : Nodes) (cursor : ℕ) (f : Flight) (o : Outcome) → f.stage ≡ taken (came.Folder o) → Means same r l s cursor f
    → is_success o ≡ true
went_well same r l s cursor f o stage (down n at wants writes outside in_folder) = subst IsInFolder stage in_folder
went_well same r l s cursor f o stage (cut_down n none at writes outside in_folder) = subst IsInFolder stage in_folder
went_well same r l s cursor f o stage (up n at apart writes outside at_server waits) = absurd (in_one_place f o stage at_server)
went_well same r l s cursor f o stage (up_came n in_r at writes outside has) = absurd (none_comes cursor f o stage has)
went_well same r l s cursor f o stage (cut_up n none at writes outside at_server waits) = absurd (in_one_place f o stage at_server)
went_well same r l s cursor f o stage (cut_came none_r none writes outside has) = absurd (none_comes cursor f o stage has)

module _ (same : ℕ → ℕ → Bool) (fly now : ℕ → Bool) (flew : NoMoreFlies fly now) (r l s : Nodes) (cursor : ℕ) (f : Flight) (fit : FitTogether r l s)
    (above : 0 < f.op.id.0) (landed : now f.op.id.0 ≡ false) (synced : IsLegal s f.op.id.0 f.op.synced) where
  abbrev x : ℕ
  x = f.op.id.0

  -- what an operation of one identity that ends does
  pub record EndsLower (nl ns : Nodes) : Type 0 where
    pub plain : is_split f.op.verb ≡ false
    pub lowers : Lowers same fly r l s now r nl ns

  synced_as : (c : Change) → f.op.synced ≡ c → IsLegal s x c
  synced_as c is = subst (IsLegal s x) is synced

  -- in the folder
  pub folder_lowers : (o : Outcome) → f.stage ≡ taken (came.Folder o) → LegalInTurn l (local_changes f.op) → Means same r l s cursor f
      → EndsLower (all_changed l (local_changes f.op)) (changed s x f.op.synced)
  folder_lowers o stage legal (down n at wants writes outside in_folder) = record {
    plain = writes.one;
    lowers = lowers_to same fly now r l s (all_changed l (local_changes f.op)) (changed s x f.op.synced) (insert l x (target n (get l x) (get s x))) (insert s x n)
        (one_changed l f.op writes.one ∙ ap (changed l x) writes.local) (ap (changed s x) writes.synced)
        (ends_lower same fly now r l s x r (insert l x (target n (get l x) (get s x))) (insert s x n) fit above flew landed
        (down_ends n at wants (subst (IsLegal l x) writes.local (one_legal l f.op writes.one legal)) (synced_as (Put n) writes.synced)));
  }
  folder_lowers o stage legal (cut_down n none at writes outside in_folder) = record {
    plain = writes.one;
    lowers = lowers_to same fly now r l s (all_changed l (local_changes f.op)) (changed s x f.op.synced) (remove l x) (remove s x)
        (one_changed l f.op writes.one ∙ ap (changed l x) writes.local) (ap (changed s x) writes.synced)
        (ends_lower same fly now r l s x r (remove l x) (remove s x) fit above flew landed
        (cut_down_ends n none at (subst (IsLegal l x) writes.local (one_legal l f.op writes.one legal))));
  }
  folder_lowers o stage legal (up n at apart writes outside at_server waits) = absurd (in_one_place f o stage at_server)
  folder_lowers o stage legal (up_came n in_r at writes outside has) = absurd (none_comes cursor f o stage has)
  folder_lowers o stage legal (cut_up n none at writes outside at_server waits) = absurd (in_one_place f o stage at_server)
  folder_lowers o stage legal (cut_came none_r none writes outside has) = absurd (none_comes cursor f o stage has)

  -- at the server, once its entry has come
  pub server_lowers : (rev : ℕ) → f.stage ≡ taken (came.Accepted rev) → HasCome cursor f.stage → IsTrue (fly x) → Means same r l s cursor f
      → EndsLower l (changed s x f.op.synced)
  server_lowers rev stage has flown (up_came n in_r at writes outside too) = record {
    plain = writes.one;
    lowers = lowers_to same fly now r l s l (changed s x f.op.synced) l (insert s x n) refl (ap (changed s x) writes.synced)
        (ends_lower same fly now r l s x r l (insert s x n) fit above flew landed (up_ends n in_r at flown));
  }
  server_lowers rev stage has flown (cut_came none_r none writes outside too) = record {
    plain = writes.one;
    lowers = lowers_to same fly now r l s l (changed s x f.op.synced) l (remove s x) refl (ap (changed s x) writes.synced)
        (ends_lower same fly now r l s x r l (remove s x) fit above flew landed (forget_ends none_r none (synced_as Cut writes.synced)));
  }
  server_lowers rev stage has flown (down n at wants writes outside in_folder) = absurd (not_in_folder f rev stage in_folder)
  server_lowers rev stage has flown (cut_down n none at writes outside in_folder) = absurd (not_in_folder f rev stage in_folder)
  server_lowers rev stage has flown (up n at apart writes outside at_server waits) = absurd (waits has)
  server_lowers rev stage has flown (cut_up n none at writes outside at_server waits) = absurd (waits has)
