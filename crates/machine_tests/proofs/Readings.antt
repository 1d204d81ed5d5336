-- Readings that a scan may be given, tag by tag.
use Rattle.std.proofs.Common.{zero, suc, List, [], ◌∷◌, Some}
use Rattle.point_types.specs.declared.reading.Reading.{Reading}
use Rattle.verifier.specs.Ranges.{range_of}
use Rattle.verifier.specs.Sound.{IsReadingOf}
use Rattle.verifier.specs.declared.tag_link.TagLink.{TagLink}
use Rattle.scan_vm.specs.Machine.{AreReadingsOf}

-- where there is no tag, any will do
pub none_wanted : (readings : List Reading) → AreReadingsOf [] readings
none_wanted readings t = tt

pub one_more_given : (link : TagLink) (reading : Reading) (links : List TagLink) (readings : List Reading) → IsReadingOf (Some (range_of link)) (Some reading) → AreReadingsOf links readings → AreReadingsOf (link ∷ links) (reading ∷ readings)
one_more_given link reading links readings first rest zero = first
one_more_given link reading links readings first rest (suc t) = rest t
