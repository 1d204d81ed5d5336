-- Worked input lines: the readings that they give, or the line that is refused.
-- IEC 61131-3 edition 2, 2.2.1 numeric literals.
use Rattle.std.specs.Prelude.{◌≡◌, false, true, pos, negsuc, [], ◌∷◌, Some, None, Ok, Err, refl, codes}
use Rattle.point_types.specs.declared.il_type.IlType.TheVariants as il
use Rattle.point_types.specs.declared.reading.Reading.TheVariants as reading
use Rattle.point_types.specs.Keyword.{is_reserved, plain_words, conversions}
use Rattle.scan_code.specs.declared.image.Tag.{Tag}
use Rattle.commands.specs.Input.{lines_of}
use Rattle.commands.specs.Given.{absent, number_given, reading_given, readings_given}

pub parted_number : number_given il.Dint (codes "-1_000") ≡ Some (negsuc 999)
parted_number = refl

pub leading_zeros : number_given il.Dint (codes "+007") ≡ Some (pos 7)
leading_zeros = refl

pub least_sint : number_given il.Sint (codes "-128") ≡ Some (negsuc 127)
least_sint = refl

pub past_sint : number_given il.Sint (codes "128") ≡ None
past_sint = refl

pub two_underscores : number_given il.Dint (codes "1__0") ≡ None
two_underscores = refl

pub no_digit : number_given il.Dint (codes "-") ≡ None
no_digit = refl

pub truth_in_any_case : reading_given il.Bool (codes "True") ≡ Some (reading.Value (pos 1))
truth_in_any_case = refl

pub number_for_a_bool : reading_given il.Bool (codes "1") ≡ None
number_for_a_bool = refl

pub nothing_known : reading_given il.Dint (codes "absent") ≡ Some absent
nothing_known = refl

-- an input and an output
abbrev pub input_w : Tag
input_w = record { name = codes "w"; output = false; kind = il.Dint }

abbrev pub output_o : Tag
output_o = record { name = codes "o"; output = true; kind = il.Dint }

pub one_line : readings_given (input_w ∷ output_o ∷ []) (lines_of (codes "\nW=5\n")) ≡ Ok (reading.Value (pos 5) ∷ absent ∷ [])
unfolding is_reserved plain_words conversions
one_line = refl

pub second_line_for_an_input : readings_given (input_w ∷ output_o ∷ []) (lines_of (codes "w=5\n\nw=5\n")) ≡ Err 2
unfolding is_reserved plain_words conversions
second_line_for_an_input = refl

pub line_for_an_output : readings_given (input_w ∷ output_o ∷ []) (lines_of (codes "o=5")) ≡ Err 1
unfolding is_reserved plain_words conversions
line_for_an_output = refl
