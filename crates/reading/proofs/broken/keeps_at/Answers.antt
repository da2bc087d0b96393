-- `reading::broken::keeps_at` meets its contract, rule by rule.
use Rattle.model.specs.Table.{walk}
use Rattle.model.specs.Map.{returns as comesBack, keeps_at}
use Rattle.reading.specs.Near.{turned}
use Rattle.reading.proofs.broken.keeps_at.Goals as goal

pub returns-in-LinksLive : goal.returns-in-LinksLive
unfolding keeps_at
returns-in-LinksLive c = rw (c.in-LinksLive.is, ← c.link.ensures) c.live.ensures

pub returns-in-LinksReturn : goal.returns-in-LinksReturn
unfolding keeps_at turned comesBack walk
returns-in-LinksReturn c = rw c.in-LinksReturn.is c.turned.ensures

pub returns-in-PairsCommute : goal.returns-in-PairsCommute
unfolding keeps_at
returns-in-PairsCommute c = rw c.in-PairsCommute.is c.pairs_commute.ensures
