-- Runs one after the other.
use Rattle.std.proofs.Common.{◌≡◌, ◌++◌, ℕ, List, [], ◌∷◌, Option, Some, None, refl, sym, subst, append_assoc, append-nil}
use Rattle.nuc_log.specs.declared.event.Event.{Event}
use Rattle.nuc_world.specs.World.{Steps, Stops, WorldData}
use Rattle.nuc_world.specs.declared.stop.Stop.{Stop}
use Rattle.nuc_world.specs.declared.stop.Stop.TheVariants as stop
use Rattle.nuc_sync.specs.Runs.{Breaks, Does, Refuses, Runs, StopsAt, goes, stays}
use Rattle.nuc_sync.specs.Tasks.{Task, event_of, more}

-- A RUN, and then another one
pub runs_on : (w : WorldData) (a : List Task) (u : WorldData) (c : List Task) → Runs w a u c
    → (v : WorldData) (left : List Task) → Runs u c v left → Runs w a v left
runs_on w a u c (stays x ts) v left after = after
runs_on w a u c (goes x t ts asked q y rest moves later) v left after = goes w t ts asked q v left moves (runs_on q (asked ++ ts) u c later v left after)

-- the first tasks of several
pub runs_more : (w : WorldData) (a : List Task) (u : WorldData) (c : List Task) → Runs w a u c → (b : List Task) → Runs w (a ++ b) u (c ++ b)
runs_more w a u c (stays x ts) b = stays w (a ++ b)
runs_more w a u c (goes x t ts asked q y rest moves later) b = goes w t (ts ++ b) asked q u (c ++ b) moves
    (subst (λ tasks. Runs q tasks u (c ++ b)) (append_assoc asked ts b) (runs_more q (asked ++ ts) u c later b))

pub runs_then : (w : WorldData) (a : List Task) (u : WorldData) → Runs w a u [] → (b : List Task) (v : WorldData) (left : List Task) → Runs u b v left → Runs w (a ++ b) v left
runs_then w a u first b v left after = runs_on w (a ++ b) u b (runs_more w a u [] first b) v left after

-- WANT OF MEMORY
refuses_for_memory : (t : Task) (o : Option Event) (w : WorldData) → Refuses t o w stop.Memory w
refuses_for_memory t (Some e) w = refl
refuses_for_memory t None w = refl

pub stops_for_memory : (ts : List Task) (w : WorldData) → StopsAt ts w stop.Memory w
stops_for_memory [] w = refl
stops_for_memory (t ∷ ts) w = refuses_for_memory t (event_of t) w

-- A RUN, and then a break
pub breaks_at : (w : WorldData) (ts : List Task) (why : Stop) (v : WorldData) → StopsAt ts w why v → Breaks w ts why v
breaks_at w ts why v stops = record { before = w; left = ts; runs = stays w ts; stops = stops }

pub breaks_on : (w : WorldData) (a : List Task) (u : WorldData) (c : List Task) → Runs w a u c → (why : Stop) (v : WorldData) → Breaks u c why v → Breaks w a why v
breaks_on w a u c first why v b = record { before = b.before; left = b.left; runs = runs_on w a u c first b.before b.left b.runs; stops = b.stops }

pub breaks_then : (w : WorldData) (a : List Task) (u : WorldData) → Runs w a u [] → (b : List Task) (why : Stop) (v : WorldData) → Breaks u b why v → Breaks w (a ++ b) why v
breaks_then w a u first b why v after = breaks_on w (a ++ b) u b (runs_more w a u [] first b) why v after

-- a break in the first part of the tasks
stops_more : (a b : List Task) (w : WorldData) (why : Stop) (v : WorldData) → StopsAt a w why v → StopsAt (a ++ b) w why v
stops_more (t ∷ ts) b w why v stops = stops
stops_more [] b w stop.Memory v same = subst (λ u. StopsAt b w stop.Memory u) (sym same) (stops_for_memory b w)
stops_more [] b w stop.NoClient v none = absurd none
stops_more [] b w stop.LogFull v none = absurd none
stops_more [] b w stop.FolderFault v none = absurd none
stops_more [] b w (stop.TooLong n) v none = absurd none

pub breaks_more : (w : WorldData) (a : List Task) (why : Stop) (v : WorldData) → Breaks w a why v → (b : List Task) → Breaks w (a ++ b) why v
breaks_more w a why v breaks b = record {
  before = breaks.before;
  left = breaks.left ++ b;
  runs = runs_more w a breaks.before breaks.left breaks.runs b;
  stops = stops_more breaks.left b breaks.before why v breaks.stops;
}

-- A STEP
pub step_runs : (w v : WorldData) (t : Task) (e : Event) → event_of t ≡ Some e → (s : Steps w e v) → (asked : List Task) → more t s.reply ≡ asked
    → (ts : List Task) → Runs w (t ∷ ts) v (asked ++ ts)
step_runs w v t e is s asked asks ts = goes w t ts asked v v (asked ++ ts)
    (subst (λ o. Does t o w asked v) (sym is) (record { reply = s.reply; step = s.step; log = s.log; asks = sym asks }))
    (stays v (asked ++ ts))

pub step_breaks : (w v : WorldData) (t : Task) (e : Event) → event_of t ≡ Some e → (why : Stop) → Stops w e why v → (ts : List Task) → Breaks w (t ∷ ts) why v
step_breaks w v t e is why stops ts = breaks_at w (t ∷ ts) why v (subst (λ o. Refuses t o w why v) (sym is) stops)

pub step_to : (w v : WorldData) (t : Task) (e : Event) → event_of t ≡ Some e → (s : Steps w e v) → (asked : List Task) → more t s.reply ≡ asked → Runs w (t ∷ []) v asked
step_to w v t e is s asked asks = subst (λ tasks. Runs w (t ∷ []) v tasks) (append-nil asked) (step_runs w v t e is s asked asks [])
