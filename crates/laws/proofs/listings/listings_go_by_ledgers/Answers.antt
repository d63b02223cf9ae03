use Rattle.laws.proofs.Parts.{has_listing, rises_strictly}
use Rattle.laws.proofs.Counting.{sums_its_lines, lines_counted}
use Rattle.laws.proofs.listings.listings_go_by_ledgers.Goals as goal

pub returns : goal.returns
returns c = record { listing = has_listing; strictly = rises_strictly; summed = sums_its_lines; counted = lines_counted }
