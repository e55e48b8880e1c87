-- Labels joined by dots, with any limit on their length: 63 octets in issuer domain names, none in issue values.
use Rattle.std.specs.Prelude.{ℕ, Bool, ◌&&◌, List, leb, length}
use Prim.Native.Char.{code}
use Rattle.spec_octets.specs.Lists.{all}
use Rattle.spec_octets.specs.Label.{is_label}
use Rattle.spec_octets.specs.Pieces.{split}

-- A label of at most `longest` octets.
unfoldable pub is_label_within : ℕ → List ℕ → Bool
is_label_within longest l = leb (length l) longest && is_label l

-- Such labels joined by single dots.
unfoldable pub are_labels : ℕ → List ℕ → Bool
are_labels longest s = all (is_label_within longest) (split (code ".") s)
