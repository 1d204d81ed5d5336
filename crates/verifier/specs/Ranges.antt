-- What the site says of the tags that a program's tags are.
-- IEC 61131-3 edition 2, 2.4.3 (external variables).
use Rattle.verifier.specs.declared.tag_link.TagLink.{TagLink}
use Rattle.verifier.specs.Links.{is_stored}
use Rattle.verifier.specs.Listing.{is_there}
use Rattle.facts.specs.Flow.{TagRange}

abbrev pub range_of : TagLink → TagRange
range_of link = record { output = is_stored link.site.access; kind = link.site.kind; low = link.site.low; high = link.site.high; has_default = is_there link.site.default }
