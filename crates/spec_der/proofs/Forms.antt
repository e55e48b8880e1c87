-- Readers of a form: a value is read exactly where it is written, in any list. Several in a row: each begins where the one before it ends.
use Rattle.std.specs.Prelude.{Some}
use Prim.Native.Nat.{ℕ}
use mathlib.Core.Path.{◌≡◌}
use mathlib.Core.Logic.{◌↔◌}
use mathlib.Core.List.{List, ◌∷◌, [], ◌++◌}
use lib.ListN.{length}
use Rattle.spec_octets.specs.Reader.{Reader, ◌>>=◌, octet, octets}
use Rattle.spec_octets.proofs.ReaderLaws.{bind_some, octet_some, octets_some}

pub record Form (A : Type 0) : Type 1 where
  pub read : Reader A
  pub wire : A → List ℕ
  pub Good : A → Type 0
  pub reads : (s : List ℕ) (a : A) (rest : List ℕ) → (read s ≡ Some (a, rest)) ↔ ((s ≡ wire a ++ rest) × Good a)

abbrev pub octets_form : ℕ → Form (List ℕ)
octets_form n = record { read = octets n; wire = λ a. a; Good = λ a. length a ≡ n; reads = octets_some n }

abbrev pub octet_form : Form ℕ
octet_form = record {
  read = octet;
  wire = λ x. x ∷ [];
  Good = λ x. Unit {0};
  reads = λ s x rest. (λ h. ((octet_some s x rest).0 h, tt), λ h. (octet_some s x rest).1 h.0);
}

module _ {A B : Type 0} (form : Form A) (f : A → Reader B) {s : List ℕ} {b : B} {rest : List ℕ} where
  pub next_read :
      {C : Type 0} → (form.read >>= f) s ≡ Some (b, rest) →
      ((a : A) (mid : List ℕ) → s ≡ form.wire a ++ mid → form.Good a → f a mid ≡ Some (b, rest) → C) → C
  next_read h next =
      let (a, mid, e, r) = (bind_some form.read f s b rest).0 h in
      let (front, good) = (form.reads s a mid).0 e in
      next a mid front good r

  pub next_stand :
      (a : A) (mid : List ℕ) → s ≡ form.wire a ++ mid → form.Good a → f a mid ≡ Some (b, rest) → (form.read >>= f) s ≡ Some (b, rest)
  next_stand a mid front good next = (bind_some form.read f s b rest).1 (a, mid, (form.reads s a mid).1 (front, good), next)
