-- Each layout is its own reader.
use Rattle.forms.proofs.entries.read_listed.Goals as goal

pub read_plain-requires : goal.read_plain-requires
read_plain-requires c = let p = c.requires in rw c.in-Plain.is at p

pub read_packed-requires : goal.read_packed-requires
read_packed-requires c = let p = c.requires in rw c.in-Packed.is at p

pub returns-in-Plain : goal.returns-in-Plain
returns-in-Plain c = rw c.in-Plain.is c.read_plain.ensures

pub returns-in-Packed : goal.returns-in-Packed
returns-in-Packed c = rw c.in-Packed.is c.read_packed.ensures
