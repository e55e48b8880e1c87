-- A wildcard by the first two octets of its wire form, as the code tests them.
use Prim.Native.Nat.{ℕ, suc}
use native.Mathlib.Omega.{arith}
use mathlib.Core.Path.{◌≡◌, refl, ap}
use mathlib.Core.Bool.{true, ◌&&◌, and-false}
use mathlib.Core.List.{List, [], ◌∷◌}
use lib.Dec.{eqb}
use lib.ListN.{length}
use Prim.Native.Char.{code}
use borrow.Author.Tests.{ne_eqb}
use Rattle.std.specs.List.{starts_with}
use Rattle.std.proofs.lemmas.Bool.Decides.{nat_tests}
use Rattle.spec_name.specs.Names.{Name, wire}
use Rattle.spec_request.specs.Request.{is_wildcard}

either_way : (a b : ℕ) → eqb a b ≡ eqb b a
either_way a b = grind (arith, nat_tests)

pub asterisk_tells : (x : List ℕ) (n : Name) → x ≡ wire n → starts_with eqb x (1 ∷ code "*" ∷ []) ≡ is_wildcard n
unfolding is_wildcard
asterisk_tells x [] e = rw e refl
asterisk_tells x ([] ∷ ls) e = rw e refl
asterisk_tells x ((a ∷ []) ∷ ls) e = rw e (ap (λ t. t && true) (either_way (code "*") a))
asterisk_tells x ((a ∷ b ∷ l) ∷ ls) e = rw (e, ne_eqb 1 (suc (suc (length l))) (λ z. omega arith), and-false)
