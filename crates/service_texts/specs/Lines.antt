-- The lines that a service tells. No standard says what is printed; these lines are this project's.
use Rattle.std.specs.Prelude.{ℕ, Bool, true, false, List, ◌++◌, ◌/◌, ◌%◌, Option, Some, None, codes}
use Rattle.std.specs.Fmt.{decimal}

-- the seconds since the start, to the thousandth, of so many milliseconds
abbrev pub stamp : ℕ → List ℕ
stamp now = decimal (now / 1000) ++ codes "." ++ decimal (now / 100 % 10) ++ decimal (now / 10 % 10) ++ decimal (now % 10)

-- a line after the time
abbrev pub stamped_line : ℕ → List ℕ → List ℕ
stamped_line now line = stamp now ++ codes " " ++ line ++ codes "\n"

-- device NAME lost KIND
abbrev pub lost_line : (name kind : List ℕ) → List ℕ
lost_line name kind = codes "device " ++ name ++ codes " lost " ++ kind

-- device NAME found MODELS, or device NAME back
abbrev pub device_line : (name what : List ℕ) → List ℕ
device_line name what = codes "device " ++ name ++ codes " " ++ what

-- output NAME written
abbrev pub written_line : (name : List ℕ) → List ℕ
written_line name = codes "output " ++ name ++ codes " written"

-- output NAME unwritten CAUSE
abbrev pub unwritten_line : (name cause : List ℕ) → List ℕ
unwritten_line name cause = codes "output " ++ name ++ codes " unwritten " ++ cause

abbrev pub took_text : (name wrote : List ℕ) → List ℕ
took_text name wrote = codes "output " ++ name ++ codes " differs wrote " ++ wrote

-- output NAME differs wrote W device V
abbrev pub differs_line : (name wrote shows : List ℕ) → List ℕ
differs_line name wrote shows = took_text name wrote ++ codes " device " ++ shows

-- output NAME agrees
abbrev pub agrees_line : (name : List ℕ) → List ℕ
agrees_line name = codes "output " ++ name ++ codes " agrees"

-- late N
abbrev pub late_line : ℕ → List ℕ
late_line late = codes "late " ++ decimal late

-- left out N
abbrev pub left_out_line : ℕ → List ℕ
left_out_line n = codes "left out " ++ decimal n

-- setting TEXT left out
abbrev pub left_out_setting_line : (line : List ℕ) → List ℕ
left_out_setting_line line = codes "setting " ++ line ++ codes " left out"

-- program refused CAUSE
abbrev pub program_refused_line : (cause : List ℕ) → List ℕ
program_refused_line cause = codes "program refused " ++ cause

-- program kept HASH
abbrev pub program_kept_line : (hash : List ℕ) → List ℕ
program_kept_line hash = codes "program kept " ++ hash

-- program taken budget N
abbrev pub program_taken_line : (budget : ℕ) → List ℕ
program_taken_line budget = codes "program taken budget " ++ decimal budget

-- state WORD, status WORD
abbrev pub file_line : (file word : List ℕ) → List ℕ
file_line file word = file ++ codes " " ++ word

-- how the write of a file is told, where it goes otherwise than the one before
abbrev pub change_word : (had_failed is_written : Bool) → Option (List ℕ)
change_word false false = Some (codes "unwritten")
change_word false true = None
change_word true false = None
change_word true true = Some (codes "written")
