-- `picker::scan::narrow` meets its contract: the rank is among the keys below the pivot, it is the pivot's, or it is among those above it.
-- Assumes nothing.
use Rattle.picker.proofs.GoingOn.{narrowed_here, narrowed_below, narrowed_above}
use Rattle.picker.proofs.scan.narrow.Goals as goal

pub returns-then-r-below : goal.returns-then-r-below
returns-then-r-below c = narrowed_below c.requires c.count-c.ensures c.if-r-below.true c.keep-n.ensures

pub returns-then-r-upto : goal.returns-then-r-upto
returns-then-r-upto c = narrowed_here c.requires c.count-c.ensures c.if-r-below.false c.if-r-upto.true

pub returns : goal.returns
returns c = narrowed_above c.requires c.count-c.ensures c.if-r-upto.false c.keep-n-2.ensures
