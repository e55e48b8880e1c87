-- The class of octets that each case of the enum Class stands for.
use Rattle.std.specs.Prelude.{ℕ, Bool}
use Rattle.spec_octets.specs.Octets.{is_blank, is_letter_or_digit, is_parameter_octet}
use Rattle.spec_octets.specs.Label.{is_letter_digit_hyphen}
use Rattle.text_classes.specs.declared.Class.{Class}
use Rattle.text_classes.specs.declared.Class.TheVariants.{Blank, LetterOrDigit, LetterDigitHyphen, ParameterOctet}

abbrev pub in_class : Class → ℕ → Bool
in_class Blank x = is_blank x
in_class LetterOrDigit x = is_letter_or_digit x
in_class LetterDigitHyphen x = is_letter_digit_hyphen x
in_class ParameterOctet x = is_parameter_octet x
