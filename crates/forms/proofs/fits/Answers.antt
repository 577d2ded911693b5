-- Each extent is one test.
use Rattle.forms.specs.TableForms.{fits}
use Rattle.forms.proofs.fits.Goals as goal

pub returns-in-Whole : goal.returns-in-Whole
unfolding fits
returns-in-Whole c = rw c.in-Whole.is

pub returns-in-Front : goal.returns-in-Front
unfolding fits
returns-in-Front c = rw c.in-Front.is
