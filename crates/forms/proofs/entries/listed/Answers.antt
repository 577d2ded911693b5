-- By what was made of the list: `grown_read`, `grown_full`.
use Rattle.forms.proofs.Listing.{grown_read, grown_full}
use Rattle.forms.proofs.entries.listed.Goals as goal

pub returns-in-Some : goal.returns-in-Some
returns-in-Some c = λ list o w made. grown_read made w c.in-Some.is

pub returns-in-None : goal.returns-in-None
returns-in-None c = λ list o w made. grown_full made c.in-None.is
