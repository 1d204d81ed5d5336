-- The line that tells of a scan.
-- No standard says what is printed; this line is this project's.
use Rattle.std.specs.Prelude.{ℕ, List, ◌++◌, codes}
use Rattle.std.specs.Fmt.{decimal}
use Rattle.gateway.specs.declared.poller.cycle.Report.{Report}

-- scan K steps S writes W refused R lost T
abbrev pub scan_line : ℕ → Report → List ℕ
scan_line k r = (codes "scan " ++ decimal k ++ codes " steps " ++ decimal r.steps ++ codes " writes " ++ decimal r.writes ++ codes " refused " ++ decimal r.refused ++ codes " lost " ++ decimal r.lost) ++ codes "\n"
