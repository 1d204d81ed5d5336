-- What is printed of scans over a link, and with which status they end.
-- No standard says what is printed; lines and statuses are this project's.
use Rattle.std.specs.Prelude.{◌≡◌, ◌⊎◌, ℕ, ◌≤◌, ◌<◌, List, [], ◌∷◌, ◌++◌, length, Option}
use Rattle.std.specs.Io.KnownBytes.{Appends}
use Rattle.modbus_frame.specs.Fault.{link_fault_word}
use Rattle.modbus_frame.specs.declared.link.LinkFault.{LinkFault}
use Rattle.gateway.specs.declared.poller.cycle.Report.{Report}
use Rattle.commands.specs.Report.{link_line, no_memory_line, scan_lines}
use Rattle.gateway.specs.poller.Telling.{scan_line}
use Rattle.commands.specs.Series.{Moment, Series}
use Rattle.commands.specs.Told.{IsCut, IsTold, Told, refused_with}

-- ---- what is told of a link that failed

abbrev pub unlinked_with : List ℕ → Told
unlinked_with lines = record { lines = lines; status = 3 }

-- it is told that the link failed, or that memory was refused for that line
abbrev pub IsUnlinked : LinkFault → Option (List ℕ) → Option (List ℕ) → ℕ → Type 0
IsUnlinked fault old new status =
    IsTold old new (unlinked_with (link_line (link_fault_word fault))) status ⊎ IsTold old new (refused_with no_memory_line) status

-- ---- how scans end

-- All scans were done, and their lines are printed.
pub record AreAllDone (series : Series) : Type 0 where
  pub all : length series.reports ≡ series.most
  pub still : series.left ≡ series.last
  pub printed : Appends series.out_before series.out_behind (scan_lines 1 series.reports)
  pub well : series.status ≡ 0

-- The line of the k-th scan isn't printed: a write failed, after a front of it; or memory was refused for it.
abbrev pub IsUnprinted : ℕ → Report → Option (List ℕ) → Option (List ℕ) → ℕ → Type 0
IsUnprinted k report old new status = (IsCut old new (scan_line k report) × (status ≡ 1)) ⊎ IsTold old new (refused_with no_memory_line) status

-- The line of the last scan isn't printed, those of the scans before it are.
pub record IsLineLost (series : Series) : Type 0 where
  pub before : List Report
  pub last : Report
  pub split : series.reports ≡ before ++ last ∷ []
  pub within : length series.reports ≤ series.most
  pub still : series.left ≡ series.last
  pub written : Option (List ℕ)
  pub printed : Appends series.out_before written (scan_lines 1 before)
  pub told : IsUnprinted (length series.reports) last written series.out_behind series.status

-- `Fails` says how the link fails at a scan.
module _ (Fails : Moment → LinkFault → Moment → Type 0) where
  -- The link failed at the next scan; the lines of all scans before it are printed.
  pub record IsLinkDown (series : Series) : Type 0 where
    pub within : length series.reports < series.most
    pub fault : LinkFault
    pub failed : Fails series.last fault series.left
    pub written : Option (List ℕ)
    pub printed : Appends series.out_before written (scan_lines 1 series.reports)
    pub told : IsUnlinked fault written series.out_behind series.status

  -- the line of the last scan was lost; or the link failed at the next
  pub data EndsEarly (series : Series) : Type 0 where
    LineLost : IsLineLost series → EndsEarly series
    LinkDown : IsLinkDown series → EndsEarly series
