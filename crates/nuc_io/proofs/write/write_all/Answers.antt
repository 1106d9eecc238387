use Rattle.std.proofs.Common.{◌++◌, ap, arith, length, take, append_assoc, subst, sym, ◌∙◌}
use Rattle.std.proofs.lemmas.List.{take-append-drop}
use Rattle.nuc_io.specs.Writing.{Added}
use Rattle.nuc_io.proofs.Taking.{added_more, front_of}
use Rattle.nuc_io.proofs.write.write_all.Goals as goal

pub loop-rest-preserved : goal.loop-rest-preserved
loop-rest-preserved g c =
    let (done, joined, added) = c.loop-rest.invariant.0 in
    let piece = take c.in-Some.count c.loop-rest.rest.now in (
      (
        done ++ piece,
        append_assoc done piece c.split_at.result.1.now
            ∙ ap (λ l. done ++ l) (ap (λ l. piece ++ l) c.split_at.ensures.back ∙ take-append-drop c.in-Some.count c.loop-rest.rest.now) ∙ joined,
        added_more _ _ _ _ _ added c.in-Some.ensures.bytes.2,
      ),
      omega (arith, c.loop-rest.invariant.1, c.in-Some.ensures.cause.later),
    )

pub returns-in-Failed-clause-bytes : goal.returns-in-Failed-clause-bytes
returns-in-Failed-clause-bytes g c =
    let (done, joined, added) = c.loop-rest.invariant.0 in
    let now = g.K.Sink.held c.write.new.self in
    let held : Added (g.K.Sink.held c.args.sink.now) done now =
    subst (λ o. Added (g.K.Sink.held c.args.sink.now) done o) (sym c.in-Failed.ensures.bytes) added in
    (length done, subst (λ l. Added (g.K.Sink.held c.args.sink.now) l now) (sym (front_of done _ _ joined)) held)
