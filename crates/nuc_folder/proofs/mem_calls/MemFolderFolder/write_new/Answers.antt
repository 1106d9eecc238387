use Rattle.std.proofs.Common.{refl, sym, arith}
use Rattle.nuc_shelf.specs.Shelf.{file_at, with_file}
use Rattle.nuc_folder.specs.State.{place_of}
use Rattle.nuc_folder.proofs.Keyed.{keyed_held, make_below}
use Rattle.nuc_folder.proofs.mem_calls.MemFolderFolder.write_new.Goals as goal

pub returns-then-is_success-clause-form : goal.returns-then-is_success-clause-form
returns-then-is_success-clause-form c =
    let next = c.in-Some.ensures.1 in
    let ok = sym c.if-is_success.ensures in
    let below = make_below _ _ _ (λ x s. with_file s x (place_of c.args.place.now) c.args.bit c.args.bytes.now) (file_at (place_of c.args.place.now) c.args.bit) _ _ _ next c.self.invariant.0.below refl c.write_new-made.ensures.answers c.write_new-made.ensures.made ok in
    (c.write_new-made.ensures.shelf, below)

pub invariant_of-self : goal.invariant_of-self
invariant_of-self c =
    let next = c.in-Some.ensures.1 in
    let ok = sym c.if-is_success.ensures in
    let below = make_below _ _ _ (λ x s. with_file s x (place_of c.args.place.now) c.args.bit c.args.bytes.now) (file_at (place_of c.args.place.now) c.args.bit) _ _ _ next c.self.invariant.0.below refl c.write_new-made.ensures.answers c.write_new-made.ensures.made ok in
    (record { shelf = c.write_new-made.ensures.shelf; below = below; some = omega (arith, next) }, keyed_held _ _ c.write_new-made.ensures.settled c.self.invariant.1)
