-- A client that follows a journal goes on to, whatever is done to it.
use Rattle.std.specs.Prelude.{All}
use Rattle.std.proofs.Common.{◌≡◌, ◌<◌, ◌++◌, ℕ, List, [], Option, Some, take, drop, sym, subst}
use Rattle.std.proofs.lemmas.List.Elements.{All-nil}
use Rattle.std.specs.FinMap.{empty, get, get-empty}
use Rattle.std.specs.Ordering.{nat_cmp}
use Rattle.nuc_base.specs.Trees.{Nodes, WellFormed}
use Rattle.nuc_base.specs.declared.node.Counters.{Counters}
use Rattle.nuc_base.specs.declared.node.Node.{Node}
use Rattle.nuc_base.proofs.Forms.{empty_form}
use Rattle.nuc_base.proofs.Maps.{not_both}
use Rattle.nuc_lookup.specs.Rows.{Numbers}
use Rattle.nuc_class.specs.declared.op.Op.{Op}
use Rattle.nuc_edits.specs.Edits.{Recorded}
use Rattle.nuc_flights.specs.Flights.{Flight, flight_of}
use Rattle.nuc_flights.specs.declared.taken.Taken.{Taken}
use Rattle.nuc_flights.specs.declared.taken.Taken.TheVariants as came
use Rattle.nuc_journal.specs.declared.entry.Entry.{Entry}
use Rattle.nuc_replica.specs.Following.{IsAt}
use Rattle.nuc_replica.specs.Remote.{RemoteState, heard}
use Rattle.nuc_replica.proofs.Journaled.{at_caught_up, at_more, at_start}
use Rattle.nuc_replica.proofs.Paged.{at_news, at_page}
use Rattle.nuc_step.specs.Calls.{TakeAnswers}
use Rattle.nuc_step.specs.Client.{ClientState, ClientStates}
use Rattle.nuc_step.specs.Steps.{IsDone, after_pull, caught_up_to, finished, landed}
use Rattle.nuc_step.specs.Watching.{CanWatch}
use Rattle.nuc_step.specs.declared.answers.TakeFault.{TakeFault}
use Rattle.nuc_step.specs.declared.answers.TakeFault.TheVariants as fault
use Rattle.nuc_step.specs.declared.reply.DoneReply.{DoneReply}
use Rattle.std.specs.declared.result.Result.{Result}
use Rattle.std.specs.declared.result.Result.TheVariants as result
use Rattle.nuc_step.proofs.Outcomes.{Came, came_of}
use Rattle.nuc_step.proofs.Outcomes.Came.{applied, dropped, nothing}

-- it is what the journal comes to at its cursor, now and after `back`
abbrev pub StaysAt : List Entry → ClientStates → Type 0
StaysAt es c = IsAt es c.now.remote × IsAt es c.settled.remote

then_too : (es : List Entry) (c d : ClientStates) → d.settled ≡ c.settled → StaysAt es c → IsAt es d.now.remote → StaysAt es d
then_too es c d settled at now = (now, subst (λ (x : ClientState). IsAt es x.remote) (sym settled) at.1)

pub at_pulled : (es page : List Entry) (c d : ClientStates) (n k : ℕ) → k ≡ c.now.remote.cursor → page ≡ take n (drop k es)
    → d.now ≡ after_pull page c.now → d.settled ≡ c.settled → StaysAt es c → StaysAt es d
at_pulled es page c d n k cursor is now settled at =
    then_too es c d settled at (subst (λ (x : ClientState). IsAt es x.remote) (sym now) (at_page es page c.now.remote n k cursor is at.0))

at_taken_now : (es news : List Entry) (c d : ClientState) (n : ℕ) (t : Taken) (r : Result (Unit {0}) TakeFault) → TakeAnswers c n t news r d
    → IsAt es c.remote → IsAt es (heard news c.remote) → IsAt es d.remote
at_taken_now es news c d n t (result.Ok u) answer at more = subst (λ (x : ClientState). IsAt es x.remote) (sym answer.1) more
at_taken_now es news c d n t (result.Err fault.NoSuchOp) answer at more = subst (λ (x : ClientState). IsAt es x.remote) (sym answer.1) at
at_taken_now es news c d n t (result.Err fault.Memory) answer at more = subst (λ (x : ClientState). IsAt es x.remote) (sym answer.1) at

pub at_taken : (es news : List Entry) (c d : ClientStates) (n k i : ℕ) (t : Taken) (r : Result (Unit {0}) TakeFault) → k ≡ c.now.remote.cursor → news ≡ take n (drop k es)
    → TakeAnswers c.now i t news r d.now → d.settled ≡ c.settled → StaysAt es c → StaysAt es d
at_taken es news c d n k i t r cursor is answer settled at =
    then_too es c d settled at (at_taken_now es news c.now d.now i t r answer at.0 (at_news es news c.now.remote n k cursor is at.0))

at_caught_up_to : (es : List Entry) (s : RemoteState) (t : Taken) → IsAt es s → IsAt es (caught_up_to t s)
at_caught_up_to es s (came.Folder o) at = at
at_caught_up_to es s (came.Accepted rev) at = at_caught_up es s rev at
at_caught_up_to es s (came.Refused r) at = at

at_landed : (es : List Entry) (c : ClientState) (op : Op) (t : Taken) → IsAt es c.remote → IsAt es (landed op t c).remote
at_landed es c op (came.Folder o) at = at
at_landed es c op (came.Accepted rev) at = at
at_landed es c op (came.Refused r) at = at

at_came : (es : List Entry) (n : ℕ) (c d : ClientState) (o : Option Flight) → Came n c d o → IsAt es c.remote → IsAt es d.remote
at_came es n c d o (nothing _ same) at = subst (λ (x : ClientState). IsAt es x.remote) (sym same) at
at_came es n c d o (dropped flight t stage same) at = subst (λ (x : ClientState). IsAt es x.remote) (sym same) (at_caught_up_to es c.remote t at)
at_came es n c d o (applied flight t stage why can same) at =
    subst (λ (x : ClientState). IsAt es x.remote) (sym same) (at_landed es (finished n t c) flight.op t (at_caught_up_to es c.remote t at))

pub at_done : (es : List Entry) (c d : ClientStates) (n : ℕ) (e f : Recorded) (r : DoneReply) → IsDone n c.now e r d.now f → d.settled ≡ c.settled → StaysAt es c → StaysAt es d
at_done es c d n e f r ends settled at = then_too es c d settled at (at_came es n c.now d.now (flight_of n c.now.flights) (came_of n c.now d.now e f r ends) at.0)

pub at_more_entries : (es more all : List Entry) (c : ClientStates) → all ≡ es ++ more → StaysAt es c → StaysAt all c
at_more_entries es more all c same at =
    (subst (λ fs. IsAt fs c.now.remote) (sym same) (at_more es more c.now.remote at.0), subst (λ fs. IsAt fs c.settled.remote) (sym same) (at_more es more c.settled.remote at.1))

pub at_first : (es : List Entry) (m : Nodes) (revisions : Numbers) (c : ClientStates) → m ≡ empty → revisions ≡ empty
    → c.now.remote ≡ record { tree = m; revisions = revisions; cursor = 0; ahead = [] } → c.settled ≡ c.now → StaysAt es c
at_first es m revisions c tree numbers same settled =
    let now = subst (IsAt es) (sym same) (at_start es m revisions tree numbers) in
    (now, subst (λ (x : ClientState). IsAt es x.remote) (sym settled) now)
