-- What the ring hand's values say in the rules' words: a hand, and an edge.
-- Assumes nothing.
use Rattle.rules.specs.Use.{HandAt}
use Rattle.rules.specs.Entries.{HandStep}
use Rattle.hand.specs.declared.Hand.{Hand}
use Rattle.hand.specs.declared.Edge.{Edge}

abbrev pub hand_at : Hand → HandAt
hand_at h = record { count = h.count; place = h.place }

abbrev pub edge_as : Edge → HandStep
edge_as e = record { from = e.from; to = e.to }
