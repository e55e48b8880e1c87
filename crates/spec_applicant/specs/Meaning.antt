-- What the definitions mean, stated without a search: which texts are accepted, and which parameters admit an applicant.
use Rattle.std.specs.Prelude.{ℕ, ◌≤◌, ◌≡◌, ◌≢◌, length}
use Prim.Native.Char.{code}
use mathlib.Core.List.{List, [], ◌∷◌, ◌++◌, Memᴰ}
use Rattle.spec_limits.specs.Limits.{max_account_octets}
use Rattle.spec_octets.specs.Lists.{All}
use Rattle.spec_octets.specs.Octets.{text, lowered}
use Rattle.spec_octets.specs.Pieces.{join}
use Rattle.spec_value.specs.Parameters.{Parameter}
use Rattle.spec_applicant.specs.Applicant.{Applicant}

-- 1 to 255 octets, each 33 to 126 and not 59, the semicolon.
abbrev pub GoodAccount : List ℕ → Type 0
GoodAccount t = (1 ≤ length t) × (length t ≤ max_account_octets) × All (λ x. (33 ≤ x) × (x ≤ 126) × (x ≢ 59)) t

-- The same, and no octet is 44, the comma.
abbrev pub GoodMethod : List ℕ → Type 0
GoodMethod t = GoodAccount t × All (λ x. x ≢ 44) t

abbrev pub GoodApplicant : Applicant → Type 0
GoodApplicant who = GoodAccount who.account × GoodMethod who.method

-- The parameter has the tag t, which is given in lower case.
abbrev pub Tagged : List ℕ → Parameter → Type 0
Tagged t p = lowered p.tag ≡ t

-- P doesn't hold at two positions of the list.
abbrev pub AtMostOne : (Parameter → Type 0) → List Parameter → Type 0
AtMostOne P ps = (a b c : List Parameter) (p q : Parameter) → ps ≡ a ++ (p ∷ (b ++ (q ∷ c))) → P p → P q → ⊥

-- At most one parameter has the tag t, and Good holds of its value.
abbrev pub Limited : List ℕ → (List ℕ → Type 0) → List Parameter → Type 0
Limited t Good ps = All (λ p. Tagged t p → Good p.value) ps × AtMostOne (Tagged t) ps

-- v is items joined by commas. No item is empty or holds a comma, and m is one of them.
abbrev pub Among : List ℕ → List ℕ → Type 0
Among m v =
    (items : List (List ℕ)) × (v ≡ join (code ",") items) × All (λ i. (i ≢ []) × All (λ x. x ≢ code ",") i) items × Memᴰ m items

abbrev pub Admits : Applicant → List Parameter → Type 0
Admits who ps = Limited (text "accounturi") (λ v. v ≡ who.account) ps × Limited (text "validationmethods") (Among who.method) ps
