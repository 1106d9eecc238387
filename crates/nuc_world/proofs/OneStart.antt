-- An operation begins in one way.
use Rattle.std.proofs.Common.{◌≡◌, ℕ, Bool, true, false, Option, Some, None, refl, sym, ◌∙◌, ap}
use Rattle.std.specs.FinMap.{get}
use Rattle.nuc_class.specs.declared.op.Op.{Op}
use Rattle.nuc_flights.specs.Flights.{flight_of}
use Rattle.nuc_log.specs.declared.reply.StartReply.{StartReply}
use Rattle.nuc_log.specs.declared.reply.StartReply.TheVariants as start
use Rattle.nuc_step.specs.Stages.{planned_of}
use Rattle.nuc_world.specs.Starts.{Begins, Reads, Starts, StartsOf, Uploads, is_upload}
use Rattle.nuc_world.specs.State.{MemberState, is_due}

both_ways : {X : Type 0} (b : Bool) → b ≡ false → b ≡ true → X
both_ways b off on = absurd (let clash : false ≡ true = sym off ∙ on in cc)

there_or_not : {A X : Type 0} (o : Option A) (a : A) → o ≡ Some a → o ≡ None → X
there_or_not o a some none = absurd (let clash : Some a ≡ None = sym some ∙ none in cc)

module _ (n : ℕ) (m u v : MemberState) where
  reads_one : (key : ℕ) (r q : StartReply) → Reads n key m r u → Reads n key m q v → (r ≡ q) × (u ≡ v)
  reads_one key (start.Ok (Some a)) (start.Ok (Some b)) (lasts, at, is) (well, there, was) =
      let one : Some a ≡ Some b = sym at ∙ there in
      let same : a ≡ b = cc in
      (ap (λ z. start.Ok (Some z)) same, is ∙ sym was)
  reads_one key (start.Ok (Some a)) start.Changed (lasts, at, is) (well, gone, was) = there_or_not (get m.folder.held.bytes key) a at gone
  reads_one key (start.Ok (Some a)) start.Failed (lasts, at, is) (fails, was) = both_ways (is_due m.due) lasts fails
  reads_one key start.Changed (start.Ok (Some b)) (lasts, gone, is) (well, there, was) = there_or_not (get m.folder.held.bytes key) b there gone
  reads_one key start.Changed start.Changed (lasts, gone, is) (well, none, was) = (refl, is ∙ sym was)
  reads_one key start.Changed start.Failed (lasts, gone, is) (fails, was) = both_ways (is_due m.due) lasts fails
  reads_one key start.Failed (start.Ok (Some b)) (fails, is) (lasts, there, was) = both_ways (is_due m.due) lasts fails
  reads_one key start.Failed start.Changed (fails, is) (lasts, gone, was) = both_ways (is_due m.due) lasts fails
  reads_one key start.Failed start.Failed (fails, is) (due, was) = (refl, is ∙ sym was)
  reads_one key (start.Ok (Some a)) _ x y = absurd y
  reads_one key start.Changed _ x y = absurd y
  reads_one key start.Failed _ x y = absurd y
  reads_one key _ q x y = absurd x

  uploads_one : (o : Option ℕ) (r q : StartReply) → Uploads n o m r u → Uploads n o m q v → (r ≡ q) × (u ≡ v)
  uploads_one (Some key) r q x y = reads_one key r q x y
  uploads_one None r q x y = (x.0 ∙ sym y.0, x.1 ∙ sym y.1)

  begins_one : (op : Op) (b : Bool) (r q : StartReply) → Begins n op b m r u → Begins n op b m q v → (r ≡ q) × (u ≡ v)
  begins_one op true r q x y = uploads_one (get m.client.local.keys op.id.0) r q x y
  begins_one op false r q x y = (x.0 ∙ sym y.0, x.1 ∙ sym y.1)

  starts_of : (o : Option Op) (r q : StartReply) → StartsOf n o m r u → StartsOf n o m q v → (r ≡ q) × (u ≡ v)
  starts_of None r q x y = (x.0 ∙ sym y.0, x.1 ∙ sym y.1)
  starts_of (Some op) r q x y = begins_one op (is_upload op) r q x y

  pub start_one : (r q : StartReply) → Starts n m r u → Starts n m q v → (r ≡ q) × (u ≡ v)
  start_one r q x y = starts_of (planned_of (flight_of n m.client.flights)) r q x y
