-- The lines that tell what is missing. No standard says what is printed; these lines are this project's.
use Rattle.std.specs.Prelude.{ℕ, List, ◌++◌, codes}
use Rattle.std.specs.Fmt.{decimal}
use Rattle.modbus_frame.specs.declared.message.Exception.{Exception}
use Rattle.service.specs.declared.refusals.ReadRefusal.{ReadRefusal}

-- input NAME missing CAUSE, where CAUSE is a word and may have after it what was met
abbrev pub missing_line : (name cause : List ℕ) → List ℕ
missing_line name cause = codes "input " ++ name ++ codes " missing " ++ cause

-- input NAME present
abbrev pub present_line : (name : List ℕ) → List ℕ
present_line name = codes "input " ++ name ++ codes " present"

-- set NAME never set
abbrev pub never_set_line : (name : List ℕ) → List ℕ
never_set_line name = codes "set " ++ name ++ codes " never set"

-- served MODEL POINT missing CAUSE, of a point by its model and its name
abbrev pub served_line : (point cause : List ℕ) → List ℕ
served_line point cause = codes "served " ++ point ++ codes " missing " ++ cause

-- served MODEL POINT shown
abbrev pub shown_line : (point : List ℕ) → List ℕ
shown_line point = codes "served " ++ point ++ codes " shown"

-- Refused CODE, which stands after output NAME unwritten
abbrev pub refused_text : Exception → List ℕ
refused_text e = codes "Refused " ++ decimal e.0

-- NAME lacks ID, which stands after the word device
abbrev pub lacks_text : ℕ → List ℕ
lacks_text model = codes "lacks " ++ decimal model

-- NAME refuses 3 ADDRESS CODE, which stands after the word device
abbrev pub refuses_text : ReadRefusal → List ℕ
refuses_text r = codes "refuses 3 " ++ decimal r.address ++ codes " " ++ decimal r.code
