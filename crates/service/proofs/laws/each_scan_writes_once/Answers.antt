use Rattle.service.proofs.WritesOnce.{each_scan_writes_once}
use Rattle.service.proofs.laws.each_scan_writes_once.Goals as goal

pub returns : goal.returns
returns c = each_scan_writes_once
