-- The rules of a map, as code names them.
use Rattle.model.specs.Map.{MapRule, links_live, links_return, pairs_commute}
use Rattle.reading.specs.declared.broken.Rule.{Rule}

abbrev pub rule_of : Rule → MapRule
rule_of Rule.LinksLive = links_live
rule_of Rule.LinksReturn = links_return
rule_of Rule.PairsCommute = pairs_commute
