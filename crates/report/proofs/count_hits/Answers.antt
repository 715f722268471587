-- `report::count_hits` meets its contract: the listing ends, with the number of all hits. Assumes nothing.
use Rattle.std.proofs.Common.{◌≡◌, Ok, None, length, refl, arith}
use Rattle.scope.specs.Hit.{hits_from}
use Rattle.report.proofs.Sources.{all_listed, count_same}
use Rattle.report.proofs.count_hits.Goals as goal
use Rattle.report.proofs.count_hits.Goals.{After-list_hits}

-- what the listing says
listed : (c : After-list_hits) → c.list_hits.result ≡ Ok (record { count = length (hits_from c.args.run c.args.source 0); next = None })
listed c = all_listed c.requires.0 c.requires.1 refl (omega (arith, c.requires)) c.list_hits.ensures

pub unwrap-listing-requires : goal.unwrap-listing-requires
unwrap-listing-requires c = rw (listed (goal.at.unwrap-listing-requires c).After-list_hits)

pub returns : goal.returns
returns c = count_same c.unwrap-listing.result _ c.unwrap-listing.ensures (listed (goal.at.returns c).After-list_hits)
