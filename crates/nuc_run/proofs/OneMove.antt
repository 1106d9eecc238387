-- A task that is taken up leads to one world, and asks for the same tasks.
use Rattle.std.proofs.Common.{◌≡◌, ◌++◌, ℕ, List, [], ◌∷◌, Option, Some, None, sym, ◌∙◌, ap, subst}
use Rattle.nuc_log.specs.declared.event.Event.{Event}
use Rattle.nuc_log.specs.declared.log.LogEntry.{LogEntry}
use Rattle.nuc_log.specs.declared.log.LogEntry.TheVariants as entry
use Rattle.nuc_log.specs.declared.reply.Reply.{Reply}
use Rattle.nuc_sync.specs.Runs.{Answers, Does, Moves, Recounts, Restarts, restart_of}
use Rattle.nuc_sync.specs.Tasks.{Task, event_of, fails, more, restarts}
use Rattle.nuc_world.specs.Runs.{IsRecounted, Reaches}
use Rattle.nuc_world.specs.Runs.Reaches.{stepped, told}
use Rattle.nuc_world.specs.State.{Due, MemberState, WorldState, with_failure, with_member}
use Rattle.nuc_world.specs.World.{WorldData}
use Rattle.nuc_world.proofs.OneStep.{one_end}

pub one_member : (o : Option MemberState) (m n : MemberState) → o ≡ Some m → o ≡ Some n → m ≡ n
one_member o m n x y = let same : Some m ≡ Some n = sym x ∙ y in cc

data_one : (u v : WorldData) → u.now ≡ v.now → u.log ≡ v.log → u ≡ v
data_one u v now log = λ x. record { now = now x; log = log x }

recounted_one : (c : ℕ) (count : Due → Due) (w u v : WorldState) → IsRecounted c count w u → IsRecounted c count w v → u ≡ v
recounted_one c count w u v x y =
    let same = one_member _ x.member y.member x.was y.was in
    x.now ∙ ap (λ (m : MemberState). record w { members = with_member c (record m { due = count m.due }) w.members }) same ∙ sym y.now

-- BY THE KIND OF TASK
module _ (w u v : WorldData) (asked others : List Task) where
  answers_one : (t : Task) (e : Event) → Reaches w.log w.now → Answers t e w asked u → Answers t e w others v → (asked ≡ others) × (u ≡ v)
  answers_one t e reaches x y =
      let one = one_end w.log w.now u.now v.now e x.reply y.reply reaches x.step y.step in
      let log = x.log ∙ ap (λ (r : Reply). w.log ++ entry.Stepped e r ∷ []) one.0 ∙ sym y.log in
      (x.asks ∙ ap (more t) one.0 ∙ sym y.asks, data_one u v one.1 log)

  restarts_one : (client : ℕ) → Restarts client w asked u → Restarts client w others v → (asked ≡ others) × (u ≡ v)
  restarts_one client x y =
      let same = one_member _ x.member y.member x.was y.was in
      (x.asks ∙ ap (λ (m : MemberState). restart_of client m.client.flights) same ∙ sym y.asks, x.stays ∙ sym y.stays)

  recounts_one : (client call : ℕ) → Recounts client call w asked u → Recounts client call w others v → (asked ≡ others) × (u ≡ v)
  recounts_one client call x y =
      (x.asks ∙ sym y.asks, data_one u v (recounted_one client (with_failure call) w.now u.now v.now x.counted y.counted) (x.log ∙ sym y.log))

  does_one : (t : Task) (o : Option Event) → Reaches w.log w.now → Does t o w asked u → Does t o w others v → (asked ≡ others) × (u ≡ v)
  does_one t (Some e) reaches x y = answers_one t e reaches x y
  does_one (restarts client) None reaches x y = restarts_one client x y
  does_one (fails client call) None reaches x y = recounts_one client call x y
  does_one t None reaches x y = absurd x

  pub moves_one : (t : Task) → Reaches w.log w.now → Moves t w asked u → Moves t w others v → (asked ≡ others) × (u ≡ v)
  moves_one t reaches x y = does_one t (event_of t) reaches x y

-- THE LOG leads to what there is after it, too
does_reach : (t : Task) (o : Option Event) (w : WorldData) (asked : List Task) (v : WorldData)
    → Reaches w.log w.now → Does t o w asked v → Reaches v.log v.now
does_reach t (Some e) w asked v reaches is =
    subst (λ (log : List LogEntry). Reaches log v.now) (sym is.log) (stepped w.log w.now e is.reply v.now reaches is.step)
does_reach (restarts client) None w asked v reaches is = subst (λ (u : WorldData). Reaches u.log u.now) (sym is.stays) reaches
does_reach (fails client call) None w asked v reaches is =
    subst (λ (log : List LogEntry). Reaches log v.now) (sym is.log) (told w.log w.now client call v.now reaches is.some is.counted)
does_reach t None w asked v reaches is = absurd is

pub moves_reach : (t : Task) (w : WorldData) (asked : List Task) (v : WorldData) → Reaches w.log w.now → Moves t w asked v → Reaches v.log v.now
moves_reach t w asked v reaches is = does_reach t (event_of t) w asked v reaches is
