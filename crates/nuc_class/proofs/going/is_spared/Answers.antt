use Rattle.nuc_class.proofs.going.is_spared.Goals as goal

pub returns-in-Local : goal.returns-in-Local
returns-in-Local g c = rw (c.in-Local.is, ← c.get.ensures, ← c.get-in-Local.ensures) c.leaves.ensures

pub returns-in-Remote : goal.returns-in-Remote
returns-in-Remote g c = rw (c.in-Remote.is, ← c.get-in-Remote.ensures, ← c.get-in-Remote-2.ensures, ← c.get-in-Remote-3.ensures) c.stays.ensures
