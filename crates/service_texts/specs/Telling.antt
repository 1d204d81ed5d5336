-- What is told of writes. No standard says what is printed; these lines are this project's.
use Rattle.std.specs.Prelude.{ℕ, ℤ, List, ◌++◌, Option, Some, None, codes}
use Rattle.std.specs.Fmt.{decimal, signed_decimal}

-- a number, or what stands where there is none
abbrev pub number_or : List ℕ → Option ℤ → List ℕ
number_or other (Some number) = signed_decimal number
number_or other None = other

-- set NAME NUMBER was NUMBER by ADDR
abbrev pub set_line : (name : List ℕ) (number before : Option ℤ) (by : List ℕ) → List ℕ
set_line name number before by = codes "set " ++ name ++ codes " " ++ number_or (codes "unset") number ++ codes " was " ++ number_or (codes "unset") before ++ codes " by " ++ by

-- set NAME lapsed
abbrev pub lapsed_line : (name : List ℕ) → List ℕ
lapsed_line name = codes "set " ++ name ++ codes " lapsed"

abbrev pub address_text : Option ℕ → List ℕ
address_text (Some address) = decimal address
address_text None = codes "-"

-- refused FUNCTION ADDRESS EXCEPTION
abbrev pub refused_text : (function : ℕ) (address : Option ℕ) (exception : ℕ) → List ℕ
refused_text function address exception = codes "refused " ++ decimal function ++ codes " " ++ address_text address ++ codes " " ++ decimal exception

-- NAME NUMBER LOW..HIGH, after a blank
abbrev pub number_text : (name : List ℕ) (number : Option ℤ) (low high : ℤ) → List ℕ
number_text name number low high = codes " " ++ name ++ codes " " ++ number_or (codes "-") number ++ codes " " ++ signed_decimal low ++ codes ".." ++ signed_decimal high

-- at REGISTER, after a blank
abbrev pub register_text : (register : ℕ) → List ℕ
register_text register = codes " at " ++ decimal register

-- MODEL POINT, after a blank
abbrev pub point_text : (model : ℕ) (point : List ℕ) → List ℕ
point_text model point = codes " " ++ decimal model ++ codes " " ++ point

-- refused N more from ADDR
abbrev pub refused_more_line : ℕ → List ℕ → List ℕ
refused_more_line more from = codes "refused " ++ decimal more ++ codes " more from " ++ from
