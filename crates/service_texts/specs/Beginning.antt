-- What is told of a start. No standard says what is printed; the line is this project's.
use Rattle.std.specs.Prelude.{◌≡◌, ◌++◌, ℕ, List, Option, codes, string_bytes}
use Rattle.service_texts.specs.Starting.{IsTimeOfDay, digits}
use Rattle.service_texts.specs.declared.start.Start.{Start}

-- what is told of a start after so many seconds, of a version, on the texts of a site file and a program
pub record IsStart (seconds : Option ℕ) (version site program : List ℕ) (start : Start) : Type 0 where
  pub timed : IsTimeOfDay seconds (string_bytes start.time)
  pub versioned : start.version.now ≡ version
  pub sited : string_bytes start.site ≡ digits site
  pub programmed : string_bytes start.program ≡ digits program

-- started TIME sunsite VERSION site HASH program HASH
abbrev pub started_line : Start → List ℕ
started_line start = codes "started " ++ string_bytes start.time ++ codes " sunsite " ++ start.version.now ++ codes " site "
    ++ string_bytes start.site ++ codes " program " ++ string_bytes start.program ++ codes "\n"
