-- Lists of methods, as text.
use Rattle.std.specs.Prelude.{ℕ, Bool, List}
use Prim.Native.Char.{code}
use Rattle.spec_octets.specs.Pieces.{split}
use Rattle.spec_applicant.specs.Admission.{names_method}

-- The value of a validationmethods parameter: the method is one of the items between its commas, and no item is empty.
abbrev pub names_method_in : List ℕ → List ℕ → Bool
names_method_in method value = names_method method (split (code ",") value)
